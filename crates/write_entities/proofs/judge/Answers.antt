use borrow.Author.Rules.{rules}
use Rattle.sheets.proofs.Valued.{value_long}
use Rattle.write_lines.proofs.Lines.{line-given, skipped-on}
use Rattle.write_entities.proofs.Judging.{
  judge_end,
  judge_piece,
  judge_other,
  judge_not,
  judge_on,
  told-judged,
  told-skipped,
  told-next,
  told-within,
  judging,
}
use Rattle.write_entities.proofs.judge.Goals as goal

pub loop-next-init : goal.loop-next-init
loop-next-init c = search (rules, judging)

pub end_of-end-requires : goal.end_of-end-requires
end_of-end-requires c = search (rules, judging)

pub values_of-requires : goal.values_of-requires
values_of-requires c = search (rules, judging)

pub returns-then-end-size : goal.returns-then-end-size
returns-then-end-size c = record {
  right_value = search (rules, told-judged, judge_piece);
  skipped = search (rules, told-skipped);
  lines_bound = (search (rules, told-next), search (rules, told-within));
}

pub is_value-requires : goal.is_value-requires
is_value-requires c = search (rules, judging)

pub values_of-requires-then-not-is_value : goal.values_of-requires-then-not-is_value
values_of-requires-then-not-is_value c = search (rules, judging)

pub returns-then-not-is_value : goal.returns-then-not-is_value
returns-then-not-is_value c = record {
  right_value = told-judged _ _ _ _ _ c.values_of-then-not-is_value.ensures _
      (judge_other _ _ _ _ _ _ _ c.loop-next.invariant.4 c.loop-next.invariant.2 c.end_of-end.result (search rules) (search rules) (search rules)
      c.end_of-end.ensures.value c.if-end-size.false _ c.is_value.ensures c.if-not-is_value.true);
  skipped = search (rules, told-skipped);
  lines_bound = (search (rules, told-next), search (rules, told-within));
}

pub overflow_add-next : goal.overflow_add-next
overflow_add-next c = search (rules, judging)

pub strict_at-requires : goal.strict_at-requires
strict_at-requires c = record {
  at_le_end = value_long _ _ _ c.is_value.result c.is_value.ensures (search rules) (search rules) (search rules);
  end_in_bounds = search rules;
}

pub enum_known-value : goal.enum_known-value
enum_known-value c = search (rules, judging)

pub bounds-t-next : goal.bounds-t-next
bounds-t-next c = search (rules, judging)

pub right_too-right-requires : goal.right_too-right-requires
right_too-right-requires c = search (rules, judging)

pub step_at-state-requires : goal.step_at-state-requires
step_at-state-requires c = search (rules, judging)

pub overflow_add-next-in-Some : goal.overflow_add-next-in-Some
overflow_add-next-in-Some c = search (rules, judging)

pub overflow_add-lines : goal.overflow_add-lines
overflow_add-lines c = search (rules, judging)

pub loop-next-smaller : goal.loop-next-smaller
loop-next-smaller c = search (rules, judging)

pub loop-next-preserved : goal.loop-next-preserved
loop-next-preserved c =
    let inv = c.loop-next.invariant in
    let line = line-given c.args.t.now c.loop-next.next c.end_of-end.result c.is_value.result c.is_value.ensures c.if-not-is_value.false
    c.strict_at.result c.strict_at.ensures.value c.in-Some.value c.in-Some.is (search rules) (search rules) c.end_of-end.ensures.value in (
      search rules,
      search rules,
      search rules,
      skipped-on _ _ _ _ _ inv.3 line,
      judge_on _ _ _ _ _ line _ _ _ _ inv.4 _ _ c.right_too-right.ensures c.step_at-state.ensures,
    )

pub enum_told-1 : goal.enum_told-1
enum_told-1 c = search (rules, judging)

pub values_of-requires-in-None : goal.values_of-requires-in-None
values_of-requires-in-None c = search (rules, judging)

pub returns-in-None : goal.returns-in-None
returns-in-None c = record {
  right_value = told-judged _ _ _ _ _ c.values_of-in-None.ensures _
      (judge_not _ _ _ _ _ _ _ c.loop-next.invariant.4 c.loop-next.invariant.2 c.end_of-end.result (search rules) (search rules) (search rules)
      c.end_of-end.ensures.value c.if-end-size.false _ c.is_value.ensures c.if-not-is_value.false _ c.strict_at.ensures.value c.in-None.is);
  skipped = search (rules, told-skipped);
  lines_bound = (search (rules, told-next), search (rules, told-within));
}

pub values_of-requires-2 : goal.values_of-requires-2
values_of-requires-2 c = search (rules, judging)

pub returns : goal.returns
returns c = record {
  right_value = search (rules, told-judged, judge_end);
  skipped = search (rules, told-skipped);
  lines_bound = (search (rules, told-next), search (rules, told-within));
}
