use borrow.Author.Rules.{rules}
use Rattle.sheets.proofs.Plains.{end_0, end_1, end_2, end_3, on_4, end_rest}
use Rattle.sheets_numbers.proofs.find.Goals as goal

pub returns-then-s-i-clause-value : goal.returns-then-s-i-clause-value
returns-then-s-i-clause-value c = search (rules, end_0, end_1, end_2, end_3, on_4, end_rest)

pub returns-then-s-i-2-clause-value : goal.returns-then-s-i-2-clause-value
returns-then-s-i-2-clause-value c = search (rules, end_0, end_1, end_2, end_3, on_4, end_rest)

pub returns-then-s-i-3-clause-value : goal.returns-then-s-i-3-clause-value
returns-then-s-i-3-clause-value c = search (rules, end_0, end_1, end_2, end_3, on_4, end_rest)

pub returns-then-s-i-4-clause-value : goal.returns-then-s-i-4-clause-value
returns-then-s-i-4-clause-value c = search (rules, end_0, end_1, end_2, end_3, on_4, end_rest)

pub loop-i-preserved : goal.loop-i-preserved
loop-i-preserved c = search (rules, end_0, end_1, end_2, end_3, on_4, end_rest)
