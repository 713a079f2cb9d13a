use Rattle.std.proofs.Common.{◌∙◌, length, leb, rules, tests}
use Rattle.std.proofs.lemmas.Iterator.{YieldsList-from_slice}
use Rattle.std.proofs.lemmas.Iterator.Search.{all_from_yields_List}
use Rattle.columns.specs.Decimal.{signed_dec}
use Rattle.directory.proofs.Ranges.{narrow_is_all}
use Rattle.directory_rules.proofs.all_narrow.Goals as goal

pub returns : goal.returns
returns c =
    all_from_yields_List (λ x. leb (length (signed_dec x)) 8) _ _ _ c.all.ensures.ran (YieldsList-from_slice c.args.xs cc) (λ x b q k. search (rules, tests))
    ∙ narrow_is_all c.args.xs
