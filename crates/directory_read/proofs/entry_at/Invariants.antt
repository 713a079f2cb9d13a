-- The numbers read so far, ahead of those that follow, are all of the entry; one that is misspelt makes the entry wrong.
use mathlib.Core.Path.{◌≡◌}
use Prim.Native.Nat.{◌-◌}
use lib.ListN.{length, take}
use Rattle.directory.specs.Lines.{numbers_from}
use Rattle.directory_read.proofs.Spelt.{ahead}
use Rattle.directory_read.proofs.entry_at.Given as goal

abbrev pub invariant-loop-n : goal.invariant-loop-n
invariant-loop-n l =
    (length l.xs ≡ 12) × (ahead (take l.n l.xs) (numbers_from l.file l.k l.n (12 - l.n)) ≡ numbers_from l.file l.k 0 12)
