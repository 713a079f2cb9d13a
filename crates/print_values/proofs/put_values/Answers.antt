use mathlib.Core.Path.{◌≡◌, sym, ◌∙◌}
use borrow.Author.Rules.{rules}
use native.Mathlib.Omega.{arith}
use Rattle.columns.proofs.Writes.{wrote_length}
use Rattle.layouts.proofs.Steps.{runs_left}
use Rattle.print.proofs.Taken.{found_sane}
use Rattle.print.proofs.Valued.{values_refused, values_room, values_owed, given_runs, found_default, found-given, valued}
use Rattle.print_values.proofs.put_values.Goals.{then-owed-eq0+in-Some+else-runs_on, then-owed-eq0+in-None, else-owed-eq0}
use Rattle.print_values.proofs.put_values.Goals as goal

pub marks_begun-g-requires : goal.marks_begun-g-requires
marks_begun-g-requires c = search rules

pub met_at-x-requires : goal.met_at-x-requires
met_at-x-requires c = search rules

pub loop-last-init : goal.loop-last-init
loop-last-init c = search (rules, valued)

pub value_at-got-requires : goal.value_at-got-requires
value_at-got-requires c = search rules

pub enum_told-1 : goal.enum_told-1
enum_told-1 c = search rules

pub shape_of-out-in-Err : goal.shape_of-out-in-Err
shape_of-out-in-Err c = search (rules, wrote_length)

pub returns-in-Err : goal.returns-in-Err
returns-in-Err c =
    let inv = c.loop-last.invariant in
    let pre = c.requires.values_stand in
    record {
      wrote = values_refused _ _ _ pre.stands _ _ pre.parameter pre.closing _ _ _ _ inv.3 (search rules) inv.0 c.value_at-got.ensures.value
          c.in-Err.is;
      upper_bound = omega (arith, inv.0, inv.1);
    }

pub enum_known-got : goal.enum_known-got
enum_known-got c = search rules

pub is_missing-requires : goal.is_missing-requires
is_missing-requires c = search rules

pub overflow_add-owed : goal.overflow_add-owed
overflow_add-owed c = search (rules, values_owed)

pub loop-last-smaller-then-is_missing : goal.loop-last-smaller-then-is_missing
loop-last-smaller-then-is_missing c =
    let sane = found_sane _ _ c.value_at-got.ensures.sane c.in-Ok.is in
    omega (arith, sane.0, sane.1)

pub loop-last-preserved-then-is_missing : goal.loop-last-preserved-then-is_missing
loop-last-preserved-then-is_missing c =
    let inv = c.loop-last.invariant in
    let pre = c.requires.values_stand in
    let sane = found_sane _ _ c.value_at-got.ensures.sane c.in-Ok.is in (
      sane.1,
      omega (arith, inv.1, sane.0),
      inv.2,
      found_default _ _ _ pre.stands _ _ pre.parameter pre.closing _ _ _ _ inv.3 (search rules) inv.0 c.value_at-got.ensures.value
          c.in-Ok.is c.is_missing.ensures c.if-is_missing.true,
    )

pub enum_known-g : goal.enum_known-g
enum_known-g c = search rules

pub runs_on-requires : goal.runs_on-requires
runs_on-requires c = search rules

pub is_reference-reference-requires : goal.is_reference-reference-requires
is_reference-reference-requires c = search rules

pub put_mostly_real-next-requires : goal.put_mostly_real-next-requires
put_mostly_real-next-requires c =
    let inv = c.loop-last.invariant in
    let pre = c.requires.values_stand in
    let sane = found_sane _ _ c.value_at-got.ensures.sane c.in-Ok.is in
    record {
      stands = pre.stands;
      writable = sane.2;
      at_bound = omega (arith, values_room _ _ _ pre.stands _ _ pre.parameter pre.closing _ _ _ _ inv.0 inv.1 c.requires.at_bound);
    }

pub overflow_sub-s : goal.overflow_sub-s
overflow_sub-s c = search (rules, runs_left)

pub with_left-requires : goal.with_left-requires
with_left-requires c = search rules

pub loop-last-smaller-then-runs_on : goal.loop-last-smaller-then-runs_on
loop-last-smaller-then-runs_on c =
    let sane = found_sane _ _ c.value_at-got.ensures.sane c.in-Ok.is in
    omega (arith, sane.0, sane.1)

pub loop-last-preserved-then-runs_on : goal.loop-last-preserved-then-runs_on
loop-last-preserved-then-runs_on c =
    let inv = c.loop-last.invariant in
    let pre = c.requires.values_stand in
    let sane = found_sane _ _ c.value_at-got.ensures.sane c.in-Ok.is in
    let put = given_runs _ _ _ _ _ _ _ c.if-owed-eq0.true c.in-Some.is c.runs_on.ensures c.if-runs_on.true c.with_left.ensures
    c.is_reference-reference.ensures c.put_mostly_real-next.ensures.wrote c.put_mostly_real-next.ensures.upper_bound in (
      sane.1,
      omega (arith, inv.1, sane.0, c.put_mostly_real-next.ensures.upper_bound),
      search (rules, wrote_length),
      rw c.if-owed-eq0.true (found-given _ _ _ pre.stands _ _ pre.parameter pre.closing _ _ _ _ inv.3 (search rules) inv.0
          c.value_at-got.ensures.value c.in-Ok.is c.is_missing.ensures c.if-is_missing.false put.marks put.laid),
    )

pub put_owed-z-requires : goal.put_owed-z-requires
put_owed-z-requires c =
    let inv = c.loop-last.invariant in
    let pre = c.requires.values_stand in
    let sane = found_sane _ _ c.value_at-got.ensures.sane c.in-Ok.is in
    record {
      stands = pre.stands;
      writable = sane.2;
      directory_there = pre.directory_there;
      room = values_room _ _ _ pre.stands _ _ pre.parameter pre.closing _ _ _ _ inv.0 inv.1 c.requires.at_bound;
    }

pub loop-last-smaller : goal.loop-last-smaller
loop-last-smaller c =
    let sane = found_sane _ _ c.value_at-got.ensures.sane c.in-Ok.is in
    omega (arith, sane.0, sane.1)

pub loop-last-preserved : goal.loop-last-preserved
loop-last-preserved c =
    let inv = c.loop-last.invariant in
    let pre = c.requires.values_stand in
    let sane = found_sane _ _ c.value_at-got.ensures.sane c.in-Ok.is in
    let same : c.if-owed-eq0.g ≡ c.loop-last.g = elim c.if-owed-eq0.branch [
      | then-owed-eq0+in-Some+else-runs_on w ↦ w.g-is ∙ sym w.in-Some.is
      | then-owed-eq0+in-None w ↦ w.g-is
      | else-owed-eq0 w ↦ w.g-is
    ] in
    let put = rw same at c.put_owed-z.ensures in (
      sane.1,
      omega (arith, inv.1, sane.0, c.put_owed-z.ensures.near),
      search (rules, wrote_length),
      found-given _ _ _ pre.stands _ _ pre.parameter pre.closing _ _ _ _ inv.3 (search rules) inv.0 c.value_at-got.ensures.value
          c.in-Ok.is c.is_missing.ensures c.if-is_missing.false put.marks put.laid,
    )

pub shape_of-out : goal.shape_of-out
shape_of-out c = search (rules, wrote_length)

pub returns : goal.returns
returns c = record { wrote = search (rules, valued); upper_bound = search (rules, valued) }
