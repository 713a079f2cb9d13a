-- The list, the first walk, the passes behind it: the first that refuses decides.
use Rattle.std.proofs.Common.{refl, rules}
use Rattle.write_check.proofs.Walking.{walked_table, walked_rules}
use Rattle.write_check.proofs.Marking.{tabled_marked}
use Rattle.write_check.proofs.check.Goals as goal

pub passes-requires : goal.passes-requires
passes-requires c = record {
  tabled = tabled_marked _ _ _ _ (walked_table _ _ (search rules) _ _ _ (search rules) refl c.walk-walked.ensures.if_good_2) c.mark.ensures;
  first_value = search (rules, walked_rules);
}
