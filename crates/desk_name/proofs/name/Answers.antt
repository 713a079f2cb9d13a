-- The part is cut where the label starts, or it is the stand-in's, for as long as the file is lent.
use borrow.Author.Rules.{rules}
use Rattle.desk_name.proofs.Naming.{parts}
use Rattle.desk_name.proofs.name.Goals as goal

pub looked_up-there-requires : goal.looked_up-there-requires
looked_up-there-requires c = search (rules, parts)

pub enum_told-1 : goal.enum_told-1
enum_told-1 c = search (rules, parts)

pub slice_bounds-none-end : goal.slice_bounds-none-end
slice_bounds-none-end c = search (rules, parts)

pub shorter-requires : goal.shorter-requires
shorter-requires c = search (rules, parts)

pub enum_told-in-Blank : goal.enum_told-in-Blank
enum_told-in-Blank c = search (rules, parts)

pub shorter-requires-in-Blank : goal.shorter-requires-in-Blank
shorter-requires-in-Blank c = search (rules, parts)

pub enum_known-there : goal.enum_known-there
enum_known-there c = search (rules, parts)

pub overflow_add-result : goal.overflow_add-result
overflow_add-result c = search (rules, parts)

pub slice_bounds-result-count : goal.slice_bounds-result-count
slice_bounds-result-count c = search (rules, parts)

pub slice_bounds-result-start : goal.slice_bounds-result-start
slice_bounds-result-start c = search (rules, parts)

pub slice_bounds-result-end : goal.slice_bounds-result-end
slice_bounds-result-end c = search (rules, parts)

pub returns-in-Nobody : goal.returns-in-Nobody
returns-in-Nobody c = search (rules, parts)

pub returns-in-Blank : goal.returns-in-Blank
returns-in-Blank c = search (rules, parts)

pub returns-in-Label : goal.returns-in-Label
returns-in-Label c = search (rules, parts)
