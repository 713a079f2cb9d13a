use borrow.Author.Rules.{rules}
use Rattle.vectors.proofs.Packs.{packs, leading}
use Rattle.vectors.proofs.all.Goals as goal

pub loop-at-init : goal.loop-at-init
loop-at-init c = search (rules, leading)

pub returns-in_default : goal.returns-in_default
returns-in_default c = search (rules, leading)

pub slice_bounds-score-count : goal.slice_bounds-score-count
slice_bounds-score-count c = search (rules, packs)

pub slice_bounds-score-start : goal.slice_bounds-score-start
slice_bounds-score-start c = search (rules, packs)

pub slice_bounds-score-end : goal.slice_bounds-score-end
slice_bounds-score-end c = search (rules, packs)

pub overflow_add-passed : goal.overflow_add-passed
overflow_add-passed c = search (rules, packs)

pub overflow_add-tried : goal.overflow_add-tried
overflow_add-tried c = search (rules, packs)

pub loop-at-smaller : goal.loop-at-smaller
loop-at-smaller c = search (rules, packs)

pub loop-at-preserved : goal.loop-at-preserved
loop-at-preserved c d =
    (search (rules, packs), search (rules, packs), search (rules, packs), search (rules, packs), search (rules, leading))

pub returns : goal.returns
returns c = search (rules, leading)
