-- Characters of a record's text and lines with a value. Assumes nothing.
use mathlib.Core.Path.{◌≡◌, sym, ◌∙◌}
use mathlib.Core.Bool.{Bool, cond}
use mathlib.Core.List.{List, [], ◌∷◌, ◌++◌}
use Prim.Native.Nat.{ℕ, ◌+◌, ◌*◌, ◌^◌, ◌≤◌, ◌<◌}
use native.Mathlib.Omega.{arith}
use lib.ListN.{length, get_or, take, drop, length-drop}
use lib.Seq.{get_or-drop}
use Rattle.columns.specs.Columns.{text_of}
use Rattle.columns.specs.Laid.{Wrote}
use Rattle.columns.proofs.Writes.{then, wrote_none, wrote_same, wrote_more, wrote_length}
use Rattle.values.specs.declared.Value.{Value}
use Rattle.values.specs.declared.Value.TheVariants.{Default, Whole, Real, Text}
use Rattle.values.specs.Value.{real, item_of, spelled}
use Rattle.values.specs.Writing.{chars, Inside}
use Rattle.records.specs.Reading.{Stands, Writable}
use Rattle.records.proofs.Texts.{length-text, small}
use Rattle.records.proofs.Puts.{inside}
use Rattle.sheets.specs.Sheet.{global, value, line_of}
use Rattle.sheets.specs.Writing.{global_head, value_head}
use Rattle.sheets.proofs.Written.{global_line_lem, value_line}

-- ---- characters

pub text-none : {o : List ℕ} {at : ℕ} (start : ℕ) (t : List ℕ) → Wrote o at (take 0 (drop start t)) o at
text-none start t = wrote_none

module _ (file : List ℕ) (base w lines : ℕ) (st : Stands file base w lines) (start count : ℕ) (room : start + count ≤ lines * w) where
  pub text-place : (i : ℕ) → i < count → start + i < 2 ^ 64
  text-place i h = omega (arith, small file base w lines st)

  pub text-next : (at i r : ℕ) → i < count → at < 2 ^ 60 → r ≡ at + i → r + 1 < 2 ^ 64
  text-next at i r h k e = omega (arith, small file base w lines st)

  -- one more
  pub text-more : {o o' o'' : List ℕ} {at r r' : ℕ} (i : ℕ) {x : ℕ} → i < count → x ≡ get_or (text_of file base w lines) (start + i) 0
      → Wrote o at (take i (drop start (text_of file base w lines))) o' r → Wrote o' r (x ∷ []) o'' r' → Wrote o at (take (i + 1) (drop start (text_of file base w lines))) o'' r'
  text-more i {x} h e p q =
      let t = text_of file base w lines in
      let l : i < length (drop start t) = simp length-drop (omega (arith, length-text file base w lines st)) in
      let y : x ≡ get_or (drop start t) i 0 = e ∙ sym (get_or-drop start t i 0) in
      wrote_more (drop start t) i p l (rw y at q)

pub text_all : {o o' : List ℕ} {at r : ℕ} (t : List ℕ) (i count : ℕ) → i ≤ count → count ≤ i → Wrote o at (take i t) o' r → Wrote o at (take count t) o' r
text_all t i count h k p =
    let e : i ≡ count = omega arith in
    rw e at p

pub ruleset texts = (text-none, text-place, text-next, text-more, text_all, wrote_length)

-- ---- a string's characters

module _ {o : List ℕ} {at : ℕ} (t : List ℕ) (v : Value) where
  pub chars_default : v ≡ Default → Wrote o at (chars t v) o at
  chars_default e = rw e wrote_none

  pub chars_whole : {neg : Bool} {size : ℕ} → v ≡ Whole neg size → Wrote o at (chars t v) o at
  chars_whole e = rw e wrote_none

  pub chars_real : {neg : Bool} {m : ℕ} {eneg : Bool} {x : ℕ} {double : Bool} → v ≡ Real neg m eneg x double → Wrote o at (chars t v) o at
  chars_real e = rw e wrote_none

pub chars-text : {o o' : List ℕ} {at r : ℕ} (t : List ℕ) (v : Value) {from count : ℕ} → v ≡ Text from count → Wrote o at (take count (drop from t)) o' r → Wrote o at (chars t v) o' r
chars-text t v e p = rw e p

pub chars-room : (m : ℕ) (v : Value) {from count : ℕ} → v ≡ Text from count → Writable m v → from + count ≤ m
chars-room m v {from} {count} e h =
    let k : Writable m (Text from count) = rw e at h in
    k.0

pub chars_few : (m : ℕ) (v : Value) {from count : ℕ} (at r : ℕ) → v ≡ Text from count → Writable m v → r ≡ at + count → r ≤ at + 999
chars_few m v {from} {count} at r e h q =
    let k : Writable m (Text from count) = rw e at h in
    omega arith

-- ---- lines

stands_inside : (file : List ℕ) (base w lines : ℕ) → Stands file base w lines → (v : Value) → Writable (lines * w) v → Inside (length (text_of file base w lines)) v
stands_inside file base w lines st v fits = rw (length-text file base w lines st) (inside (lines * w) v fits)

module _ {o o₁ o₂ o₃ : List ℕ} {at r₁ r₂ r₃ : ℕ} (file : List ℕ) (base w lines : ℕ) (st : Stands file base w lines) (v : Value) (fits : Writable (lines * w) v)
    (q : Wrote o₁ r₁ (chars (text_of file base w lines) v) o₂ r₂) (s : Wrote o₂ r₂ (10 ∷ []) o₃ r₃) where
  pub line_global : (n : ℕ) → Wrote o at (global_head n v) o₁ r₁ → Wrote o at (line_of (global n (item_of (text_of file base w lines) v)) ++ (10 ∷ [])) o₃ r₃
  line_global n p = wrote_same (then p (then q s)) (global_line_lem n (text_of file base w lines) v (stands_inside file base w lines st v fits))

  pub line-value : (reference : Bool) → Wrote o at (value_head reference v) o₁ r₁ → Wrote o at (line_of (value reference (item_of (text_of file base w lines) v)) ++ (10 ∷ [])) o₃ r₃
  line-value reference p = wrote_same (then p (then q s)) (value_line reference (text_of file base w lines) v (stands_inside file base w lines st v fits))

-- the line of a real, part by part
pub line_real : {o o₁ o₂ o₃ o₄ : List ℕ} {at r₁ r₂ r₃ r₄ : ℕ} {b : ℕ} (reference neg : Bool) (m : ℕ) (eneg : Bool) (e : ℕ) (double : Bool) → b ≡ cond reference 82 86
    → Wrote o at (b ∷ []) o₁ r₁ → Wrote o₁ r₁ (9 ∷ []) o₂ r₂ → Wrote o₂ r₂ (spelled (real neg m eneg e double)) o₃ r₃ → Wrote o₃ r₃ (10 ∷ []) o₄ r₄
    → Wrote o at (line_of (value reference (real neg m eneg e double)) ++ (10 ∷ [])) o₄ r₄
unfolding line_of
line_real reference neg m eneg e double eb p q r s = wrote_same (then p (then q (then r s))) (rw eb)

pub line_fields : {o o' : List ℕ} {at r : ℕ} (t : List ℕ) (reference : Bool) (v : Value) {neg : Bool} {m : ℕ} {eneg : Bool} {e : ℕ} {double : Bool} → v ≡ Real neg m eneg e double
    → Wrote o at (line_of (value reference (real neg m eneg e double)) ++ (10 ∷ [])) o' r → Wrote o at (line_of (value reference (item_of t v)) ++ (10 ∷ [])) o' r
line_fields t reference v h p = rw h p

pub ruleset lined = (chars_default, chars_whole, chars_real, chars-text, chars-room, chars_few, line_global, line-value)
