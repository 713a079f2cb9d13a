-- One digit and a tab are read at once; any other number by its tab.
use borrow.Author.Rules.{rules}
use Rattle.sheets.proofs.Plains.{tabs}
use Rattle.sheets_numbers.proofs.tabbed_at.Goals as goal

pub overflow_sub-end : goal.overflow_sub-end
overflow_sub-end c = search (rules, tabs)

pub tabbed_by-requires : goal.tabbed_by-requires
tabbed_by-requires c = search (rules, tabs)

pub returns-then-end-at-lt2 : goal.returns-then-end-at-lt2
returns-then-end-at-lt2 c = search (rules, tabs)

pub overflow_add-at : goal.overflow_add-at
overflow_add-at c = search (rules, tabs)

pub bounds-s-at : goal.bounds-s-at
bounds-s-at c = search (rules, tabs)

pub tabbed_by-requires-then-s-at-ne9 : goal.tabbed_by-requires-then-s-at-ne9
tabbed_by-requires-then-s-at-ne9 c = search (rules, tabs)

pub returns-then-s-at-ne9 : goal.returns-then-s-at-ne9
returns-then-s-at-ne9 c = search (rules, tabs)

pub tabbed_by-requires-then-left-eq3 : goal.tabbed_by-requires-then-left-eq3
tabbed_by-requires-then-left-eq3 c = search (rules, tabs)

pub returns-then-left-eq3 : goal.returns-then-left-eq3
returns-then-left-eq3 c = search (rules, tabs)

pub bounds-s-at-2 : goal.bounds-s-at-2
bounds-s-at-2 c = search (rules, tabs)

pub tabbed_by-requires-then-b-lt48 : goal.tabbed_by-requires-then-b-lt48
tabbed_by-requires-then-b-lt48 c = search (rules, tabs)

pub returns-then-b-lt48 : goal.returns-then-b-lt48
returns-then-b-lt48 c = search (rules, tabs)

pub tabbed_by-requires-then-b-gt57 : goal.tabbed_by-requires-then-b-gt57
tabbed_by-requires-then-b-gt57 c = search (rules, tabs)

pub returns-then-b-gt57 : goal.returns-then-b-gt57
returns-then-b-gt57 c = search (rules, tabs)

pub overflow_add-result : goal.overflow_add-result
overflow_add-result c = search (rules, tabs)

pub returns : goal.returns
returns c = record {
  end_value = search (rules, tabs);
  number_value = search (rules, tabs);
  at_le_end_2 = (search (rules, tabs), search (rules, tabs));
}
