-- Demand 2: a file is accepted exactly if it meets the rules. Assumes nothing.
use Rattle.desk.specs.Demands.{ExactlyTheRules}
use Rattle.desk.specs.Content.{sheet_by}
use Rattle.desk.proofs.Sound.{sound_rules}
use Rattle.desk.proofs.Content.{reads-sheet}

pub exactly_the_rules : ExactlyTheRules
exactly_the_rules list f = (λ a. sound_rules list f a.0 a.1, λ r. (sheet_by r, reads-sheet list f r))
