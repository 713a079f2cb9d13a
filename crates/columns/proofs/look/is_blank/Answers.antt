use borrow.Author.Rules.{rules}
use borrow.Author.Tests.{tests}
use Prim.Native.Nat.{◌-◌}
use lib.ListN.{take, drop}
use Rattle.std.specs.Prelude.{◌==◌}
use Rattle.std.proofs.lemmas.Iterator.{YieldsList-from_slice}
use Rattle.std.proofs.lemmas.Iterator.Search.{all_from_yields_List}
use Rattle.columns.proofs.Looks.{blank_all}
use Rattle.columns.proofs.look.is_blank.Goals as goal

pub returns : goal.returns
returns c =
    let a = c.args in
    blank_all _ a.s.now a.at a.end
    (all_from_yields_List (λ b. b == 32) _ _ c.all.result c.all.ensures.ran (YieldsList-from_slice (take (a.end - a.at) (drop a.at a.s.now)) cc)
    (λ x b q k. search (rules, tests)))
