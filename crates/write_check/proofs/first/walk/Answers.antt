use Rattle.std.proofs.Common.{◌+◌, arith, rules}
use Rattle.model.specs.Write.{global_rule, row_rules}
use Rattle.write_lines.proofs.Lines.{behind}
use Rattle.write_lines.proofs.Saying.{rules_end, rules_piece, rules_said, asking}
use Rattle.write_lines.proofs.Tables.{fill_said, fill_piece, fill_end, wrote_length, laying}
use Rattle.write_check.proofs.Walking.{if_good, if_wrong, go_end, go_piece, go_on, go_off, next-line, next-entries, next-asked, ordering}
use Rattle.write_check.proofs.Ahead.{ahead_go, ahead-asked, ahead-laid, ahead-counted}
use Rattle.file_canonical.proofs.Tallies.{line_short}
use Rattle.write_check.proofs.Counting.{count-start, begun_under, count-piece, count-on, count-end}
use Rattle.write_check.proofs.first.walk.Goals as goal

pub loop-at-init : goal.loop-at-init
loop-at-init c = search (rules, asking, laying, ordering, count-start, begun_under)

pub end_of-end-requires : goal.end_of-end-requires
end_of-end-requires c = search (rules, asking, laying, ordering)

pub bounds-t-at : goal.bounds-t-at
bounds-t-at c = search (rules, asking, laying, ordering)

pub is_mark-requires : goal.is_mark-requires
is_mark-requires c = search (rules, asking, laying, ordering)

pub wrong_piece-requires : goal.wrong_piece-requires
wrong_piece-requires c = search (rules, asking, laying, ordering)

pub told-requires : goal.told-requires
told-requires c = search rules

pub shape_of-classes-then-end-n : goal.shape_of-classes-then-end-n
shape_of-classes-then-end-n c = search (rules, asking, laying, ordering)

pub returns-then-end-n : goal.returns-then-end-n
returns-then-end-n c =
    rw c.told.ensures (record {
      verdict_value = search (rules, go_piece);
      if_good = if_good _ (search (rules, rules_piece));
      if_good_2 = if_good _ (search (rules, fill_piece));
      if_good_3 = if_good _ (search (rules, count-piece));
      under = search rules;
    })

pub line_at-said-requires : goal.line_at-said-requires
line_at-said-requires c = search (rules, asking, laying, ordering)

pub overflow_add-st : goal.overflow_add-st
overflow_add-st c = search (rules, asking, laying, ordering)

pub rule_too-pass-requires : goal.rule_too-pass-requires
rule_too-pass-requires c = search (rules, asking, laying, ordering)

pub keep-k-requires : goal.keep-k-requires
keep-k-requires c = search (rules, asking, laying, ordering)

pub tally_said-more-requires : goal.tally_said-more-requires
tally_said-more-requires c = search (rules, line_short)

pub step_line-requires : goal.step_line-requires
step_line-requires c = search (rules, asking, laying, ordering)

pub overflow_add-end : goal.overflow_add-end
overflow_add-end c = search (rules, c.end_of-end.ensures)

pub past_values-past-requires : goal.past_values-past-requires
past_values-past-requires c =
    let inv = c.loop-at.invariant in
    let said = c.line_at-said.result in
    let end = c.end_of-end.ensures.lower_bound in
    record {
      from_in_bounds = behind c.args.t.now _ _ inv.3 end.1 c.if-end-n.false;
      line_le_from = next-line _ _ said _ c.step_line.ensures c.in-Ok.is _ _ inv.0 end.0;
      entries_le_line = next-entries _ _ said _ c.step_line.ensures c.in-Ok.is inv.1;
      p_bound = c.tally_said-more.ensures.under_2.at;
    }

pub with_values-tally-requires : goal.with_values-tally-requires
with_values-tally-requires c = record { under = c.tally_said-more.ensures.under_2; at_bound = c.past_values-past.ensures.from_le_next.2 }

pub loop-at-smaller : goal.loop-at-smaller
loop-at-smaller c =
    omega (
      arith,
      c.loop-at-test.true,
      c.end_of-end.ensures.lower_bound,
      c.past_values-past.ensures.from_le_next,
      c.loop-at.invariant.2,
      c.loop-at.invariant.3,
    )

pub loop-at-preserved : goal.loop-at-preserved
loop-at-preserved c =
    let inv = c.loop-at.invariant in
    let past = c.past_values-past.ensures in
    let said = c.line_at-said in
    let more = c.if-end-n.false in
    let t = c.args.t.now in
    let at = c.loop-at.at in
    let st = c.loop-at.st in
    let taken = c.loop-at-test.true in
    let end = c.end_of-end.ensures in
    let lo = end.lower_bound.0 in
    let hi = end.lower_bound.1 in (
      omega (arith, past.line_le_next),
      omega (arith, past.line_le_next),
      omega (arith, past.from_le_next, inv.3),
      inv.3,
      omega (arith, past.from_le_next, lo, hi, c.keep-k.ensures.lower_bound, inv.4),
      wrote_length c.keep-k.ensures.wrote _ inv.5,
      ahead_go _ _ _ _ _ _ past.ahead _ (go_on _ t st at _ inv.6 inv.3 _ taken lo hi end.value c.step_line.result said.result more
          said.ensures.value c.step_line.ensures _ c.in-Ok.is),
      ahead-asked _ _ _ _ _ _ past.ahead global_rule row_rules c.rule_too-pass.result _
          (next-asked st _ said.result c.step_line.result c.step_line.ensures c.in-Ok.is global_rule row_rules c.rule_too-pass.result _ _
          (rules_said _ t at (st.line + 1) c.loop-at.pass inv.7 _ inv.3 _ taken lo hi end.value more said.result _ said.ensures.value
          c.rule_too-pass.ensures)),
      ahead-laid _ _ _ _ _ _ past.ahead _ _ _ (fill_said t at _ inv.3 _ taken lo hi end.value _ _ _ inv.8 more said.result
          said.ensures.value c.keep-k.ensures.wrote),
      c.with_values-tally.ensures.under_2,
      ahead-counted _ _ c.tally_said-more.result _ _ _ past.ahead _ c.with_values-tally.ensures.value _
          (count-on _ t c.loop-at.tally at _ inv.10 inv.3 _ taken lo hi end.value more said.result _ said.ensures.value
          c.tally_said-more.ensures.value),
    )

pub told-requires-in-Err : goal.told-requires-in-Err
told-requires-in-Err c = search rules

pub shape_of-classes-in-Err : goal.shape_of-classes-in-Err
shape_of-classes-in-Err c = wrote_length c.keep-k.ensures.wrote _ c.loop-at.invariant.5

pub returns-in-Err : goal.returns-in-Err
returns-in-Err c =
    let inv = c.loop-at.invariant in
    let said = c.line_at-said in
    let end = c.end_of-end.ensures in
    rw c.told-in-Err.ensures (record {
      verdict_value = go_off _ c.args.t.now _ _ _ inv.6 inv.3 _ c.loop-at-test.true end.lower_bound.0 end.lower_bound.1 end.value
          c.step_line.result said.result c.if-end-n.false said.ensures.value c.step_line.ensures _ c.in-Err.is;
      if_good = if_wrong _;
      if_good_2 = if_wrong _;
      if_good_3 = if_wrong _;
      under = inv.9;
    })

pub finish_of-requires : goal.finish_of-requires
finish_of-requires c = search (rules, asking, laying, ordering)

pub told-requires-2 : goal.told-requires-2
told-requires-2 c = search rules

pub shape_of-classes : goal.shape_of-classes
shape_of-classes c = search (rules, asking, laying, ordering)

pub returns : goal.returns
returns c =
    rw c.told-2.ensures (record {
      verdict_value = search (rules, go_end);
      if_good = if_good _ (search (rules, rules_end));
      if_good_2 = if_good _ (search (rules, fill_end));
      if_good_3 = if_good _ (search (rules, count-end));
      under = search rules;
    })
