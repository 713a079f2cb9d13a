-- What the functions that write lines are asked.
use mathlib.Core.Path.{◌≡◌, sym, ap, ◌∙◌}
use mathlib.Core.Bool.{Bool, false, cond}
use mathlib.Core.List.{List, [], ◌∷◌, ◌++◌, append_assoc}
use Prim.Native.Nat.{ℕ, suc, ◌+◌, ◌-◌, ◌≤◌, ◌<◌}
use native.Mathlib.Numerals.{add-one}
use native.Mathlib.Omega.{arith}
use lib.ListN.{length, get_or, drop}
use lib.Seq.{drop-cons}
use borrow.Author.Tests.{ne_eqb}
use Rattle.columns.specs.declared.Signed.{Signed}
use Rattle.columns.specs.Decimal.{dec, signed_dec, to_right}
use Rattle.columns.specs.Laid.{Wrote, Owes}
use Rattle.columns.proofs.Writes.{then, wrote_same, owes_all, owes_less, owes_none}
use Rattle.values.specs.declared.Value.{Value}
use Rattle.values.specs.Value.{item_of}
use Rattle.values.specs.Writing.{front, chars, Inside}
use Rattle.values.proofs.Spells.{front-chars}
use Rattle.directory.specs.declared.Fields.{Fields}
use Rattle.directory.specs.Fields.{nought, in_order}
use Rattle.sheets.specs.Plain.{sized}
use Rattle.sheets.specs.Line.{spell, spells, entry_line}
use Rattle.sheets.specs.Sheet.{start, global, entry, value, last, line_of}
use Rattle.sheets.specs.Writing.{global_head, value_head}

pub two : {o o₁ o₂ : List ℕ} {at a b r₁ r₂ : ℕ} → Wrote o at (a ∷ []) o₁ r₁ → Wrote o₁ r₁ (b ∷ []) o₂ r₂ → Wrote o at (a ∷ b ∷ []) o₂ r₂
two p q = then p q

pub put-start : {o o₁ o₂ : List ℕ} {at r₁ r₂ : ℕ} (t : List ℕ) → Wrote o at (83 ∷ 9 ∷ []) o₁ r₁ → Wrote o₁ r₁ (t ++ (10 ∷ [])) o₂ r₂ → Wrote o at (line_of (start t) ++ (10 ∷ [])) o₂ r₂
unfolding line_of
put-start t p q = then p q

pub put_last : {o o₁ o₂ o₃ : List ℕ} {at r₁ r₂ r₃ : ℕ} (n : ℕ) → Wrote o at (90 ∷ 9 ∷ []) o₁ r₁ → Wrote o₁ r₁ (dec n) o₂ r₂ → Wrote o₂ r₂ (10 ∷ []) o₃ r₃ → Wrote o at (line_of (last n) ++ (10 ∷ [])) o₃ r₃
unfolding line_of
put_last n p q r = then p (then q r)

pub ruleset puts = (then, two, put-start, put_last)

-- ---- a value

-- a line with a value: its head, a string's characters, LF
pub global_line_lem : (n : ℕ) (t : List ℕ) (v : Value) → Inside (length t) v → global_head n v ++ (chars t v ++ (10 ∷ [])) ≡ line_of (global n (item_of t v)) ++ (10 ∷ [])
unfolding global_head line_of
global_line_lem n t v h =
    rw (front-chars t v h) (ap (λ (x : List ℕ). 71 ∷ (9 ∷ x))
    (append_assoc (dec n) (9 ∷ front v) (chars t v ++ (10 ∷ [])) ∙ ap (λ (x : List ℕ). dec n ++ (9 ∷ x)) (sym (append_assoc (front v) (chars t v) (10 ∷ [])))
    ∙ sym (append_assoc (dec n) (9 ∷ (front v ++ chars t v)) (10 ∷ []))))

pub value_line : (reference : Bool) (t : List ℕ) (v : Value) → Inside (length t) v → value_head reference v ++ (chars t v ++ (10 ∷ [])) ≡ line_of (value reference (item_of t v)) ++ (10 ∷ [])
unfolding value_head line_of
value_line reference t v h = rw (front-chars t v h) (simp append_assoc)

pub put_global_head : {o o₁ o₂ o₃ o₄ : List ℕ} {at r₁ r₂ r₃ r₄ : ℕ} (n : ℕ) (v : Value) → Wrote o at (71 ∷ 9 ∷ []) o₁ r₁ → Wrote o₁ r₁ (dec n) o₂ r₂ → Wrote o₂ r₂ (9 ∷ []) o₃ r₃
    → Wrote o₃ r₃ (front v) o₄ r₄ → Wrote o at (global_head n v) o₄ r₄
unfolding global_head
put_global_head n v p q r s = then p (then q (then r s))

pub put_value_head : {o o₁ o₂ : List ℕ} {at m r₁ r₂ : ℕ} (reference : Bool) (v : Value) → m ≡ cond reference 82 86 → Wrote o at (m ∷ 9 ∷ []) o₁ r₁ → Wrote o₁ r₁ (front v) o₂ r₂
    → Wrote o at (value_head reference v) o₂ r₂
unfolding value_head
put_value_head reference v e p q = rw (← e) (then p q)

pub ruleset heads = (put_global_head, put_value_head)

-- ---- the numbers of an entry line

pub num_status : {o o' : List ℕ} {at r : ℕ} (left : ℕ) (x : Signed) → Wrote o at (to_right 48 8 (dec x.size)) o' r → left ≡ 3 → Wrote o at (spell left x) o' r
unfolding spell
num_status left x p e = rw e p

pub num_plain : {o o' : List ℕ} {at r : ℕ} (left : ℕ) (x : Signed) → Wrote o at (signed_dec x) o' r → (left ≡ 3 → ⊥) → Wrote o at (spell left x) o' r
unfolding spell
num_plain left x p e = simp (ne_eqb _ _ e) p

-- one turn: a number and a tab
pub turn : {o bs o₁ o₂ o₃ : List ℕ} {at r₁ r₂ r₃ : ℕ} (xs : List Signed) (k : ℕ) → k < 13 → length xs ≡ 13
    → Owes o at bs o₁ r₁ (spells (13 - k) (drop k xs)) → Wrote o₁ r₁ (spell (12 - k) (get_or xs k nought)) o₂ r₂ → Wrote o₂ r₂ (9 ∷ []) o₃ r₃
    → Owes o at bs o₃ r₃ (spells (13 - (k + 1)) (drop (k + 1) xs))
unfolding spells
turn xs k h l p q t =
    let m : 13 - k ≡ suc (12 - k) = omega arith in
    let n : 13 - (k + 1) ≡ 12 - k = omega arith in
    let d : drop k xs ≡ get_or xs k nought ∷ drop (k + 1) xs = rw add-one (drop-cons xs k nought (omega arith)) in
    rw n (owes_less (owes_less (rw (m, d) at p) q) t)

pub turns_end : {o bs o' : List ℕ} {at r : ℕ} (xs : List Signed) (k : ℕ) → 13 ≤ k → Owes o at bs o' r (spells (13 - k) (drop k xs)) → Wrote o at bs o' r
unfolding spells
turns_end xs k h p =
    let m : 13 - k ≡ 0 = omega arith in
    owes_none (rw m at p)

pub wrote_entry : {o o₁ o₂ o₃ : List ℕ} {at r₁ r₂ r₃ m : ℕ} (label : List ℕ) (known : Bool) (n : ℕ) (x : Fields) (xs : List Signed) → m ≡ cond known 69 85 → xs ≡ sized false n ∷ in_order x
    → Wrote o at (m ∷ 9 ∷ []) o₁ r₁ → Wrote o₁ r₁ (spells 13 xs) o₂ r₂ → Wrote o₂ r₂ (label ++ (10 ∷ [])) o₃ r₃ → Wrote o at (line_of (entry known (sized false n) x label) ++ (10 ∷ [])) o₃ r₃
unfolding line_of entry_line
wrote_entry label known n x xs a b p q s = wrote_same (then p (then q s)) (rw (a, b) (simp append_assoc))

pub ruleset written = (owes_all, num_status, num_plain, turn, turns_end, wrote_entry)
