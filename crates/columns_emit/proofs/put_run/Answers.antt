use borrow.Author.Rules.{rules}
use Rattle.columns.proofs.Writes.{run_past, part_filled}
use Rattle.columns_emit.proofs.put_run.Goals as goal

pub returns-then-out-at-clause-wrote : goal.returns-then-out-at-clause-wrote
returns-then-out-at-clause-wrote c = run_past c.args.out.now c.args.at c.args.b c.args.count c.if-out-at.true

pub returns-clause-wrote : goal.returns-clause-wrote
returns-clause-wrote c =
    part_filled c.args.out.now c.args.at c.min-last.result c.args.b c.args.count (search rules) c.min-last.ensures c.fill.new.self
    (c.fill.ensures.after (λ y e. e))
