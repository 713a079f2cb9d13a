-- A value that is taken is the one that was read. Assumes nothing.
use mathlib.Core.Path.{◌≡◌, refl, ap, ◌∙◌}
use mathlib.Core.List.{List}
use Prim.Native.Nat.{ℕ, ◌≤◌}
use native.Mathlib.Omega.{arith}
use Rattle.values.specs.Value.{item_of}
use Rattle.std.specs.Prelude.{Ok, Err}
use Rattle.records.specs.Record.{Got, behind}
use Rattle.records.specs.Reading.{Sane}
use Rattle.records.specs.Items.{got_item}
use Rattle.read_entities.specs.declared.Taken.{Taken}
use Rattle.read_entities.specs.Taking.{taken_of}

-- ---- a value taken

pub taken_item : (t : List ℕ) (g : Got) → item_of t (taken_of g).value ≡ got_item t g
taken_item t (Ok x) = refl
taken_item t (Err x) = refl

pub taken_next : (g : Got) → (taken_of g).next ≡ behind g
taken_next (Ok x) = refl
taken_next (Err x) = refl

next_le : (p m : ℕ) (g : Got) → Sane p m g → (taken_of g).next ≤ m
next_le p m (Ok x) h = omega arith
next_le p m (Err x) h = omega arith

pub taken_in : (p m : ℕ) (g : Got) {x : Taken} → Sane p m g → x ≡ taken_of g → x.next ≤ m
taken_in p m g h e = rw e (next_le p m g h)

pub taken_at : (g got : Got) {x : Taken} → x ≡ taken_of g → g ≡ got → x ≡ taken_of got
taken_at g got e h = e ∙ ap taken_of h

pub ruleset feeding = (taken_in, taken_at)
