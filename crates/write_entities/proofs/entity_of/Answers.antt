-- The layout's state behind the values gives 14 and 15, the marks 18; the value lines are skipped.
use borrow.Author.Rules.{rules}
use Rattle.write_lines.proofs.Lines.{skipped-none}
use Rattle.write_entities.proofs.Judging.{entities}
use Rattle.write_entities.proofs.entity_of.Goals as goal

pub returns-in_default : goal.returns-in_default
returns-in_default c = record { found_value = search (rules, entities); skipped = skipped-none _ _; lines_bound = search (rules) }

pub returns : goal.returns
returns c = record { found_value = search (rules, entities); skipped = search (rules, entities); lines_bound = search (rules, entities) }
