-- What is taken of a record keeps its limits; what is met in a record that is not refused ends behind its start. Assumes nothing.
use mathlib.Core.Path.{◌≡◌, sym, ap, ◌∙◌}
use mathlib.Core.List.{List}
use Prim.Native.Nat.{ℕ, ◌*◌, ◌≤◌, ◌<◌}
use native.Mathlib.Omega.{arith}
use lib.ListN.{length}
use Rattle.columns.specs.Columns.{text_of}
use Rattle.std.specs.Prelude.{Ok, Err}
use Rattle.records.specs.declared.Found.{Found}
use Rattle.records.specs.Record.{Got, value_at, values_at}
use Rattle.records.specs.Reading.{Stands, Writable, Sane}
use Rattle.records.proofs.Texts.{length-text}
use Rattle.records.proofs.Steps.{none-wrong}
use Rattle.read_entities.specs.declared.Taken.{Taken}
use Rattle.read_entities.specs.Taking.{taken_of}
use Rattle.read_entities.proofs.Feeding.{taken_in, taken_at}
use Rattle.print.specs.declared.Met.{Met}
use Rattle.print.specs.Taking.{Unrefused, met_of}

fits : (p m : ℕ) (g : Got) → Sane p m g → Writable m (taken_of g).value
fits p m (Ok x) h = h.3
fits p m (Err x) h = tt

pub taken-fits : (p m : ℕ) (g : Got) {x : Taken} → Sane p m g → x ≡ taken_of g → Writable m x.value
taken-fits p m g h e = rw e (fits p m g h)

pub ruleset taking = (taken_in, taken_at, taken-fits)

-- ---- a value that is met

pub met_same : (g got : Got) {x : Met} → x ≡ met_of g → g ≡ got → x ≡ met_of got
met_same g got e h = e ∙ ap met_of h

met_most : (p m : ℕ) (g : Got) → Sane p m g → (met_of g).next ≤ m
met_most p m (Ok x) h = omega arith
met_most p m (Err x) h = omega arith

pub met_in : (p m : ℕ) (g : Got) {x : Met} → Sane p m g → x ≡ met_of g → x.next ≤ m
met_in p m g h e = rw e (met_most p m g h)

met_limits : (p m : ℕ) (g : Got) → Sane p m g → Writable m (met_of g).value
met_limits p m (Ok x) h = h.3
met_limits p m (Err x) h = tt

pub met-fits : (p m : ℕ) (g : Got) {x : Met} → Sane p m g → x ≡ met_of g → Writable m x.value
met-fits p m g h e = rw e (met_limits p m g h)

-- it takes a character at least
pub met-more : (file : List ℕ) (base lines : ℕ) → Stands file base 64 lines → (c d : ℕ) → 0 < c → 0 < d → (q : ℕ) → q ≤ lines * 64 → Unrefused (values_at 64 c d (text_of file base 64 lines) q)
    → {g : Got} → g ≡ value_at 64 c d (text_of file base 64 lines) q → Sane q (lines * 64) g → {x : Met} → x ≡ met_of g → q < x.next
met-more file base lines st c d pc pd q h u {g} eg s ex = rw ex (by g (sym eg) s)
  where
    by : (y : Got) → value_at 64 c d (text_of file base 64 lines) q ≡ y → Sane q (lines * 64) y → q < (met_of y).next
    by (Ok y) e k = omega arith
    by (Err y) e k =
        let i : q ≤ length (text_of file base 64 lines) = omega (arith, length-text file base 64 lines st) in
        absurd (none-wrong 64 c d (text_of file base 64 lines) pc pd q i u.is e)

-- a value that is found ends behind its start, within the text
pub found_sane : (p m : ℕ) {g : Got} {x : Found} → Sane p m g → g ≡ Ok x → (p < x.next) × (x.next ≤ m) × Writable m x.value
found_sane p m h e =
    let k = rw e at h in
    (omega arith, omega arith, k.3)

pub ruleset meeting = (met_same, met_in, met-fits, met-more)
