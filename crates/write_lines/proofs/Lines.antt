-- A pass over lines in its rest form: what is left has the answer of the whole.
use mathlib.Core.Path.{◌≡◌, refl, sym, ap, ◌∙◌}
use mathlib.Core.Bool.{Bool, true}
use mathlib.Core.List.{List, [], ◌∷◌}
use Prim.Native.Nat.{ℕ, ◌+◌, ◌-◌, ◌≤◌, ◌<◌}
use native.Mathlib.Omega.{arith}
use lib.ListN.{length, get_or, take, drop, length-drop, drop_of_length-le}
use lib.Dec.{eqb}
use lib.Seq.{get_or-drop}
use Rattle.std.proofs.Common.{Ok, Err}
use Rattle.columns.specs.Columns.{columns}
use Rattle.values.specs.declared.Value.{Value}
use Rattle.std.specs.Prelude.{Option, Some}
use Rattle.values.specs.Value.{Item, item_of}
use Rattle.values.specs.Strict.{strict_of}
use Rattle.sheets.specs.declared.Said.{Said}
use Rattle.sheets.specs.declared.Said.TheVariants.{Value as Given}
use Rattle.sheets.specs.Line.{run}
use Rattle.sheets.specs.Sheet.{Line, value, none, is_mark, is_value, pieces_of, last_piece, says_of, line_from, said_by, said_by_all, lines_in}
use Rattle.sheets.proofs.Plains.{columns-drop}
use Rattle.sheets.proofs.Says.{none_of}
use Rattle.sheets.proofs.Walk.{pieces_whole, lines_first, line_says}
use Rattle.sheets.proofs.Valued.{value_long, value-given}
use Rattle.write_lines.specs.Lines.{OfGlobal, OfRow, or_else, line_check, lines_pass, Skipped, SheetPass}

-- ---- passes one after another

pub or_good : (p : SheetPass) → or_else p (Ok tt) ≡ p
or_good (Ok u) = refl
or_good (Err r) = refl

pub or_assoc : (p q r : SheetPass) → or_else (or_else p q) r ≡ or_else p (or_else q r)
or_assoc (Ok u) q r = refl
or_assoc (Err w) q r = refl

-- ---- the lines of a text from a place on

-- what has no LF is a line that says nothing, if anything stands there
pub piece-line : (t : List ℕ) (at : ℕ) → at < length t → length t ≡ at + run 10 (drop at t) → lines_in (drop at t) ≡ none (is_mark (get_or t at 0)) ∷ []
unfolding lines_in said_by_all last_piece
piece-line t at lt en = by (drop at t) (length-drop at t) refl
  where
    by : (u : List ℕ) → length u ≡ length t - at → drop at t ≡ u → said_by_all (pieces_of (drop at t)) ≡ none (is_mark (get_or t at 0)) ∷ []
    by [] l e = absurd (omega arith)
    by (x ∷ xs) l e =
        let d : length (drop at t) ≤ run 10 (drop at t) = omega (arith, length-drop at t) in
        let w : length (x ∷ xs) ≤ run 10 (x ∷ xs) = rw e at d in
        let z : at + 0 ≡ at = omega arith in
        let y : x ≡ get_or t at 0 = ap (λ (l : List ℕ). get_or l 0 0) (sym e) ∙ get_or-drop at t 0 0 ∙ ap (λ (k : ℕ). get_or t k 0) z in
        rw (e, pieces_whole (x ∷ xs) w, y)

pub lines-piece : (t : List ℕ) (at : ℕ) → at < length t → length t ≡ at + run 10 (drop at t) → (b : Bool) × (lines_in (drop at t) ≡ none b ∷ [])
lines-piece t at lt en = (is_mark (get_or t at 0), piece-line t at lt en)

pub lines_none : (t : List ℕ) (at : ℕ) → length t ≤ at → lines_in (drop at t) ≡ []
unfolding lines_in
lines_none t at h = rw (drop_of_length-le t {i = at} h) none_of

-- a line by what is read of it
pub line_read : (t : List ℕ) (at end : ℕ) → at ≤ end → end < length t → end ≡ at + run 10 (drop at t) → (x : Said) → says_of (columns t at end) ≡ x
    → lines_in (drop at t) ≡ line_from (columns t at end) x ∷ lines_in (drop (end + 1) t)
line_read t at end lo hi en x ex = lines_first t at end lo hi en ∙ ap (λ (l : Line). l ∷ lines_in (drop (end + 1) t)) (line_says (columns t at end) x (sym ex))

-- a value line
module _ (t : List ℕ) (at end : ℕ) (b : Bool) (eb : b ≡ is_value (columns t at end)) (e : b ≡ true) (y : Option Value) (ey : y ≡ strict_of (columns t (at + 2) end)) (v : Value) (q : y ≡ Some v) where
  pub said-given : at ≤ end → end ≤ length t → says_of (columns t at end) ≡ Given (eqb (get_or t at 0) 82) v
  said-given lo hi = value-given t at end b eb (value_long t at end b eb lo hi e) e y ey v q

  pub line-given : at ≤ end → end < length t → end ≡ at + run 10 (drop at t)
      → lines_in (drop at t) ≡ value (eqb (get_or t at 0) 82) (item_of (take (end - (at + 2)) (drop (at + 2) t)) v) ∷ lines_in (drop (end + 1) t)
  unfolding columns
  line-given lo hi en =
      line_read t at end lo hi en (Given (eqb (get_or t at 0) 82) v) (said-given lo (omega arith))
      ∙ ap (λ (l : List ℕ). value (eqb (get_or t at 0) 82) (item_of l v) ∷ lines_in (drop (end + 1) t)) (columns-drop t at 2 end)

-- what is read back of it
pub strict_given : (t : List ℕ) (at end : ℕ) (y : Option Value) → y ≡ strict_of (columns t at end) → (v : Value) → y ≡ Some v → strict_of (take (end - at) (drop at t)) ≡ Some v
unfolding columns
strict_given t at end y e v q = sym e ∙ q

-- ---- the pass over them, line by line

module _ (t : List ℕ) (at n : ℕ) (all : n ≡ length t) (g : OfGlobal) (f : OfRow) (place : ℕ) where
  pub pass-end : n ≤ at → lines_pass g f place (lines_in (drop at t)) ≡ Ok tt
  unfolding lines_pass
  pass-end h = rw (lines_none t at (omega arith))

  module _ (end : ℕ) (lt : at < n) (lo : at ≤ end) (hi : end ≤ length t) (en : end ≡ at + run 10 (drop at t)) where
    pub pass-piece : end ≡ n → lines_pass g f place (lines_in (drop at t)) ≡ Ok tt
    unfolding lines_pass
    pass-piece h =
        let q = lines-piece t at (omega arith) (omega arith) in
        rw q.1

    pub pass-line : (end ≡ n → ⊥) → lines_pass g f place (lines_in (drop at t)) ≡ or_else (line_check g f place (said_by (columns t at end)) (lines_in (drop (end + 1) t))) (lines_pass g f (place + 1) (lines_in (drop (end + 1) t)))
    unfolding lines_pass
    pass-line h = rw (lines_first t at end lo (omega arith) en)

-- behind an LF
pub behind : (t : List ℕ) (n end : ℕ) → n ≡ length t → end ≤ length t → (end ≡ n → ⊥) → end + 1 ≤ length t
behind t n end e h k = omega arith

-- ---- value lines are asked nothing

pub skipped-none : (t : List ℕ) (from : ℕ) → Skipped t from from 0
skipped-none t from = record {
  same = λ g f place.
      let z : place + 0 ≡ place = omega arith in
      ap (λ (k : ℕ). lines_pass g f k (lines_in (drop from t))) z;
}

pub skipped-on : (t : List ℕ) (from at lines next : ℕ) → Skipped t from at lines → {reference : Bool} {v : Item} → lines_in (drop at t) ≡ value reference v ∷ lines_in (drop next t)
    → Skipped t from next (lines + 1)
unfolding lines_pass
skipped-on t from at lines next s e = record {
  same = λ g f place.
      let z : place + (lines + 1) ≡ place + lines + 1 = omega arith in
      ap (λ (k : ℕ). lines_pass g f k (lines_in (drop next t))) z ∙ sym (ap (lines_pass g f (place + lines)) e) ∙ s.same g f place;
}
