-- The division, rounded up.
use borrow.Author.Rules.{rules}
use Rattle.records.specs.Flow.{line_count}
use Rattle.records.proofs.Lines.{lines_hold, lines_few}
use Rattle.records_flow.proofs.line_count.Goals as goal

pub returns : goal.returns
unfolding line_count
returns c = record {
  value = search (rules, lines_hold, lines_few);
  p_bound_2 = (search (rules, lines_hold, lines_few), search (rules, lines_hold, lines_few));
}
