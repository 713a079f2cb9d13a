-- The code's form: what the last pass may count on: the counts hold, each entry is spelt by its lines, and its parameter lines are its
-- own.
use Rattle.std.specs.Prelude.{◌≡◌, List, ℕ, Ok}
use Rattle.cards.specs.declared.Counts.{Counts}
use Rattle.cards.specs.Rules.{Holds}
use Rattle.owners.specs.declared.Owned.TheVariants.{Everyone}
use Rattle.owners.specs.InFile.{owners_in}
use Rattle.model.specs.Read.{entries_in}
use Rattle.read_passes.specs.Passes.{pass_of}

-- a file with these counts is ready for the last pass
pub record Ready (f : List ℕ) (c : Counts) : Type 0 where
  pub holds : Holds f c
  pub spelt : pass_of (entries_in f c) ≡ Ok tt
  pub owned : owners_in f c ≡ Everyone
