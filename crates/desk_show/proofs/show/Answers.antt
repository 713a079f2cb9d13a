-- Too long a file is refused first; then reading says number and place, or has laid the sheet.
use borrow.Author.Rules.{rules}
use Rattle.desk_show.proofs.Shown.{shows}
use Rattle.desk_show.proofs.show.Goals as goal

pub put_refusal-requires : goal.put_refusal-requires
put_refusal-requires c = search (rules, shows)

pub shape_of-out-then-file-gt-MOST_INPUT : goal.shape_of-out-then-file-gt-MOST_INPUT
shape_of-out-then-file-gt-MOST_INPUT c = search (rules, shows)

pub returns-then-file-gt-MOST_INPUT : goal.returns-then-file-gt-MOST_INPUT
returns-then-file-gt-MOST_INPUT c = search (rules, shows)

pub read-told-requires : goal.read-told-requires
read-told-requires c = search (rules, shows)

pub put_refusal-requires-then-number-gt0 : goal.put_refusal-requires-then-number-gt0
put_refusal-requires-then-number-gt0 c = search (rules, shows)

pub shape_of-out-then-number-gt0 : goal.shape_of-out-then-number-gt0
shape_of-out-then-number-gt0 c = search (rules, shows)

pub returns-then-number-gt0 : goal.returns-then-number-gt0
returns-then-number-gt0 c = search (rules, shows)

pub shape_of-out : goal.shape_of-out
shape_of-out c = search (rules, shows)

pub returns : goal.returns
returns c = search (rules, shows)
