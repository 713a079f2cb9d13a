use Rattle.vectors.proofs.room.fill.Goals as goal

pub returns-clause-out_after : goal.returns-clause-out_after
returns-clause-out_after c = c.fill.ensures.after (λ y e. e)
