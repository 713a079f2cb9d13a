-- The columns are a part of the text.
use borrow.Author.Rules.{rules}
use Rattle.sheets.proofs.Machine.{values}
use Rattle.sheets.proofs.Bounds.{within}
use Rattle.sheets_read.proofs.strict_at.Goals as goal

pub slice_bounds-strict-count : goal.slice_bounds-strict-count
slice_bounds-strict-count c = search (rules, values, within)

pub slice_bounds-strict-start : goal.slice_bounds-strict-start
slice_bounds-strict-start c = search (rules, values, within)

pub slice_bounds-strict-end : goal.slice_bounds-strict-end
slice_bounds-strict-end c = search (rules, values, within)

pub strict-requires : goal.strict-requires
strict-requires c = search (rules, values, within)

pub returns : goal.returns
returns c = search (rules, values, within)
