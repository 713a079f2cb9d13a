use borrow.Author.Rules.{rules}
use Rattle.sheets.proofs.Plains.{step}
use Rattle.sheets_numbers.proofs.add_digit.Goals as goal

pub returns-then-b-lt48-clause-value : goal.returns-then-b-lt48-clause-value
returns-then-b-lt48-clause-value c = search (rules, step)

pub returns-then-b-gt57-clause-value : goal.returns-then-b-gt57-clause-value
returns-then-b-gt57-clause-value c = search (rules, step)

pub returns-then-n-eq-UNREAD-clause-value : goal.returns-then-n-eq-UNREAD-clause-value
returns-then-n-eq-UNREAD-clause-value c = search (rules, step)

pub returns-then-n-eq0-clause-value : goal.returns-then-n-eq0-clause-value
returns-then-n-eq0-clause-value c = search (rules, step)

pub returns-then-m-gt-MOST_INTEGER_WIDE-clause-value : goal.returns-then-m-gt-MOST_INTEGER_WIDE-clause-value
returns-then-m-gt-MOST_INTEGER_WIDE-clause-value c = search (rules, step)

pub returns-clause-value : goal.returns-clause-value
returns-clause-value c = search (rules, step)
