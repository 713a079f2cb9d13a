use Rattle.std.proofs.Common.{refl, rules}
use Rattle.write_lines.proofs.Naming.{naming, names-on}
use Rattle.write_entities.proofs.Judging.{not_refused}
use Rattle.write_entities.proofs.named_rules.Goals as goal

pub loop-at-preserved : goal.loop-at-preserved
loop-at-preserved c =
    let line = c.end_of-end.ensures in (
      search (rules, naming),
      search (rules, naming),
      search (rules, naming),
      names-on _ _ _ _ _ _ refl _ _ c.loop-at-test.true line.lower_bound.0 line.lower_bound.1 line.value c.if-end-size.false
          _ c.head_at-said.ensures _ c.reference_of.ensures c.loop-at.invariant.3 c.in_ok-reference_of.was
          _ c.entity_of-asked.ensures.found_value (not_refused _ (search rules)) _ _ c.entity_of-asked.ensures.skipped,
    )
