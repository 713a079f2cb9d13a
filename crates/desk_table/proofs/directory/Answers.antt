-- What the plan says of the table is what the loop needs of it.
use Rattle.std.proofs.Common.{rules, arith, ◌≡◌, ◌++◌, take, drop, ap, ◌∙◌}
use Rattle.std.proofs.lemmas.List.{length-take-le}
use Rattle.desk_table.specs.Tables.{filled}
use Rattle.desk_table.proofs.Plans.{planned, filled_part}
use Rattle.desk_table.proofs.directory.Goals as goal

pub slice_bounds-slot-items-end : goal.slice_bounds-slot-items-end
slice_bounds-slot-items-end c =
    let p = planned c.args.list c.args.file.now c.args.table.now c.plan_for-told.result c.plan_for-told.ensures in
    omega (arith, p.within)

pub slice_bounds-slot-items-end-2 : goal.slice_bounds-slot-items-end-2
slice_bounds-slot-items-end-2 c =
    let p = planned c.args.list c.args.file.now c.args.table.now c.plan_for-told.result c.plan_for-told.ensures in
    let n = p.within in
    search rules

pub record_of-requires : goal.record_of-requires
record_of-requires c =
    let p = planned c.args.list c.args.file.now c.args.table.now c.plan_for-told.result c.plan_for-told.ensures in
    let n = length-take-le c.plan_for-told.result.count c.args.table.now p.within in
    p.inside c.loop-i.i (omega (arith, n))

pub returns : goal.returns
returns c =
    let x = c.plan_for-told.result in
    let rs = c.args.table.now in
    let p = planned c.args.list c.args.file.now rs x c.plan_for-told.ensures in
    let n = length-take-le x.count rs p.within in
    let e : c.loop-i.i ≡ x.count = omega (arith, n) in
    let t = c.loop-i.invariant ∙ ap (filled c.args.list c.args.file.now x.first (take x.count rs)) e in
    (p.answers, ap (λ ys. ys ++ drop x.count rs) t ∙ filled_part c.args.list c.args.file.now x.first rs x.count p.within ∙ p.slots)
