-- The fields that are left fail where all do, and each value is read where the one before it ends.
use mathlib.Core.Path.{◌≡◌}
use Prim.Native.Nat.{◌-◌, ◌*◌, ◌≤◌}
use Rattle.columns.specs.First.{first_not}
use Rattle.records.specs.Record.{position_of}
use Rattle.model.specs.Read.{global_text}
use Rattle.read_passes.specs.Walks.{value_fits}
use Rattle.read_global.proofs.fields_fit.Given as goal

abbrev pub invariant-loop-k : goal.invariant-loop-k
invariant-loop-k l =
    (l.q ≤ l.lines * 72) × (l.q ≡ position_of 72 l.parameter l.closing (global_text l.file l.c) l.from l.k)
    × (first_not (value_fits l.parameter l.closing (global_text l.file l.c) l.from) l.k (l.n - l.k) ≡ first_not (value_fits l.parameter l.closing (global_text l.file l.c) l.from) 0 l.n)
