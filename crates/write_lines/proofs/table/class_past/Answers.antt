use borrow.Author.Rules.{rules}
use Rattle.write_lines.proofs.Tables.{walking}
use Rattle.write_lines.proofs.table.class_past.Goals as goal

pub returns-then-end-n : goal.returns-then-end-n
returns-then-end-n c = search (rules, walking)

pub loop-at-preserved-then-class-eq-NO_ENTRY : goal.loop-at-preserved-then-class-eq-NO_ENTRY
loop-at-preserved-then-class-eq-NO_ENTRY c = search (rules, walking)

pub returns-then-left-eq0 : goal.returns-then-left-eq0
returns-then-left-eq0 c = search (rules, walking)

pub loop-at-preserved : goal.loop-at-preserved
loop-at-preserved c = search (rules, walking)

pub returns : goal.returns
returns c = search (rules, walking)
