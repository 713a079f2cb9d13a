use Rattle.std.proofs.Common.{false, ap, ◌∙◌, rules}
use Rattle.sheets.specs.declared.Said.TheVariants.{Value as Given}
use Rattle.sheets.specs.Order.{value_step}
use Rattle.sheets.proofs.Valued.{value_long}
use Rattle.write_lines.proofs.Lines.{line-given, strict_given}
use Rattle.write_check.proofs.Walking.{next-line, next-entries}
use Rattle.write_check.proofs.Ahead.{ahead_none, ahead-on}
use Rattle.write_check.proofs.first.past_values.Goals as goal

pub loop-next-init : goal.loop-next-init
loop-next-init c = search (rules, ahead_none)

pub end_of-end-requires : goal.end_of-end-requires
end_of-end-requires c = search (rules)

pub returns-then-end-n : goal.returns-then-end-n
returns-then-end-n c = search (rules)

pub is_value-requires : goal.is_value-requires
is_value-requires c = search (rules)

pub returns-then-not-is_value : goal.returns-then-not-is_value
returns-then-not-is_value c = search (rules)

pub overflow_add-spelled : goal.overflow_add-spelled
overflow_add-spelled c = search (rules)

pub strict_at-requires : goal.strict_at-requires
strict_at-requires c = record {
  at_le_end = value_long _ _ _ c.is_value.result c.is_value.ensures (search rules) (search rules) c.if-not-is_value.false;
  end_in_bounds = search rules;
}

pub is_missing-requires : goal.is_missing-requires
is_missing-requires c = search (rules)

pub value_step-requires : goal.value_step-requires
value_step-requires c = search (rules)

pub slice_bounds-behind_value-count : goal.slice_bounds-behind_value-count
slice_bounds-behind_value-count c =
    let long = value_long _ _ _ c.is_value.result c.is_value.ensures (search rules) (search rules) c.if-not-is_value.false in
    search (rules, long)

pub slice_bounds-behind_value-start : goal.slice_bounds-behind_value-start
slice_bounds-behind_value-start c =
    let long = value_long _ _ _ c.is_value.result c.is_value.ensures (search rules) (search rules) c.if-not-is_value.false in
    search (rules, long)

pub slice_bounds-behind_value-end : goal.slice_bounds-behind_value-end
slice_bounds-behind_value-end c = search rules

pub behind_value-at-requires : goal.behind_value-at-requires
behind_value-at-requires c = record { p_bound = search rules; l_value = search (rules, strict_given) }

pub overflow_add-next : goal.overflow_add-next
overflow_add-next c = search (rules)

pub loop-next-smaller : goal.loop-next-smaller
loop-next-smaller c = search (rules)

pub loop-next-preserved : goal.loop-next-preserved
loop-next-preserved c =
    let inv = c.loop-next.invariant in
    let step = c.value_step.ensures ∙ ap (value_step _) c.is_missing.ensures in
    let line = line-given c.args.t.now c.loop-next.next c.end_of-end.result c.is_value.result c.is_value.ensures c.if-not-is_value.false
    c.strict_at.result c.strict_at.ensures.value c.in-Some.value c.in-Some.is (search rules) (search rules) c.end_of-end.ensures.value in (
      search rules,
      search rules,
      search rules,
      c.behind_value-at.ensures.upper_bound,
      next-line _ _ (Given false c.in-Some.value) _ step c.in-Ok.is _ _ inv.4 (search rules),
      next-entries _ _ (Given false c.in-Some.value) _ step c.in-Ok.is inv.5,
      ahead-on _ _ _ _ c.in-Some.value line _ _ _ step c.in-Ok.is _ _ _ _ _ c.behind_value-at.ensures.value inv.6,
    )

pub returns-in-Err : goal.returns-in-Err
returns-in-Err c = search (rules)

pub returns-in-None : goal.returns-in-None
returns-in-None c = search (rules)

pub returns : goal.returns
returns c = search (rules)
