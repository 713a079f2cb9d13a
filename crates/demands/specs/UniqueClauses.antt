-- "Show that no second result fits", of the clauses as they stand in the logic: for a function whose contract has no plain reading, as one
-- that is lent a slice of records. `Unique` says the same of a plain reading.
use Rattle.std.specs.Prelude.{◌≡◌}
use seplogic.Ra.Ura.{Ura}
use base.Logic.{SProp, ent, sep}
use prog.Memory.{Memory}
use prog.Routine.{Routine}
use types.Logic.{Logic}
use contract.Monad.{fact, Fun}
use contract.Lifetimes.{Lfts}
use denote.Triple.Entry.{Args, Res}
use denote.Triple.Clauses.{Ended, Clauses, Lasts, at_exit}
use Rattle.read_file.specs.contracts.read as read
use Rattle.desk_table.specs.contracts.directory as directory

-- two results with last values that both are as the clauses have it for the same arguments are the same
abbrev pub NoSecondIn : {M : Type 1} (𝓤 : Ura M) (T : Ended) → Clauses 𝓤 T → Type 1
NoSecondIn 𝓤 T c =
    (κs : Lfts T.signature.lifetimes) (a : Args T.signature κs) (g : (c κs a).ghost) (z z' : Res T.signature κs)
    (left left' : Lasts T κs a)
    → ent 𝓤 (sep 𝓤 ((c κs a).ensures g z (at_exit T κs a left)) ((c κs a).ensures g z' (at_exit T κs a left')))
    (fact 𝓤 ((z ≡ z') × (left ≡ left')))

-- read, at every model of the logic
abbrev pub ReadDeterminedIn : Type 1 → Type 2
ReadDeterminedIn M = (𝓤 : Ura M) (𝓛 : Logic 𝓤) (mem : Memory → SProp 𝓤) (run : Routine → Fun 𝓤)
    → NoSecondIn 𝓤 read.ended (read.clauses 𝓛 mem run)

-- the table, which has no plain reading
abbrev pub DirectoryDeterminedIn : Type 1 → Type 2
DirectoryDeterminedIn M = (𝓤 : Ura M) (𝓛 : Logic 𝓤) (mem : Memory → SProp 𝓤) (run : Routine → Fun 𝓤)
    → NoSecondIn 𝓤 directory.ended (directory.clauses 𝓛 mem run)
