-- The value lines of a sheet from a place on, one by one, and their values into a record. Assumes nothing.
use mathlib.Core.Path.{◌≡◌, refl, sym, ap, ◌∙◌}
use mathlib.Core.Bool.{Bool, true, false, true≢false}
use mathlib.Core.List.{List, [], ◌∷◌}
use Prim.Native.Nat.{ℕ, ◌+◌, ◌-◌, ◌^◌, ◌≤◌, ◌<◌}
use native.Mathlib.Omega.{arith}
use native.Mathlib.Decide.{ℕ_discrete}
use lib.ListN.{length, get_or, take, drop}
use lib.Seq.{get_or-drop}
use lib.Dec.{eqb}
use borrow.Author.Tests.{not-true, not-false}
use Rattle.columns.specs.Columns.{columns}
use Rattle.columns.proofs.Columns.{byte_of}
use Rattle.columns.proofs.Tests.{both_right}
use Rattle.std.specs.Prelude.{Option, Some, None}
use Rattle.values.specs.declared.Value.{Value}
use Rattle.values.specs.Value.{item_of}
use Rattle.values.specs.Strict.{strict_of, meant}
use Rattle.values.proofs.Fronts.{meant_is}
use Rattle.records.specs.Flow.{piece}
use Rattle.records.specs.Written.{Put}
use Rattle.records.proofs.Puts.{Owed, owed_all, owed_none, put-length}
use Rattle.sheets.specs.declared.Said.{Said}
use Rattle.sheets.specs.declared.Said.TheVariants.{Value as Given, Nothing}
use Rattle.sheets.specs.Line.{run}
use Rattle.sheets.specs.Sheet.{Line, value, line_from, is_mark, is_value, says_of, last_piece, lines_in}
use Rattle.sheets.proofs.Walk.{line_says, lines_first}
use Rattle.sheets.proofs.Valued.{no_value, value_long as begun-long, value-given, value_not}
use Rattle.sheets_rows.specs.Rows.{value_given, values_first}
use Rattle.sheets_rows.proofs.Rows.{behind-none, piece_gives_none, no_values}
use Rattle.file_blocks.specs.Blocks.{items_first, behind_values, first_begins, Unbroken}
use Rattle.file_blocks.specs.Writing.{parted}
use Rattle.file_blocks.proofs.Ended.{parted-next}
use Rattle.file_blocks.proofs.Said.{line-part, lines_whole}

-- ---- a line

-- the values end
piece_ends : (t : List ℕ) → values_first (last_piece t) ≡ []
unfolding values_first
piece_ends t = piece_gives_none value_given (λ b. refl) t

-- a piece that no LF ends begins so or not
piece-begins : (s : List ℕ) → is_mark (get_or s 0 0) ≡ true → first_begins (behind_values (last_piece s)) ≡ true
unfolding is_mark last_piece behind_values
piece-begins [] h = h
piece-begins (b ∷ bs) h = h

never : {b : Bool} → b ≡ true → b ≡ false → ⊥
never e h = true≢false (sym e ∙ h)

module _ (t : List ℕ) (at end : ℕ) (run_is : end ≡ at + run 10 (drop at t)) (lo : at ≤ end) (hi : end ≤ length t) (b : Bool) (eb : b ≡ is_value (columns t at end)) where
  lines_are : end < length t → (x : Said) → x ≡ says_of (columns t at end) → lines_in (drop at t) ≡ line_from (columns t at end) x ∷ lines_in (drop (end + 1) t)
  lines_are k x e = lines_first t at end lo k run_is ∙ ap (λ (j : Line). j ∷ lines_in (drop (end + 1) t)) (line_says (columns t at end) x e)

  -- ---- the line is no value line

  module _ (no-is : b ≡ false) where
    ends : values_first (lines_in (drop at t)) ≡ []
    ends = pick (ℕ_discrete end (length t))
      where
        pick : Dec (end ≡ length t) → values_first (lines_in (drop at t)) ≡ []
        pick (yes h) = rw (lines_whole t at end run_is h) (piece_ends (drop at t))
        pick (no h) = rw (lines_are (omega arith) (says_of (columns t at end)) refl) (no_values (columns t at end) (lines_in (drop (end + 1) t)) (says_of (columns t at end)) (no_value t at end b eb no-is))

    pub values_behind_lem : (ls : List Line) → behind_values (lines_in (drop at t)) ≡ ls → lines_in (drop at t) ≡ ls
    unfolding values_first behind_values
    values_behind_lem ls e = sym (behind-none value_given (lines_in (drop at t)) ends) ∙ e

    pub values_all : {base w p r : ℕ} {o bs o1 : List ℕ} → Owed base w o p bs o1 r (parted w r (items_first (lines_in (drop at t)))) → Put base w o p bs o1 r
    unfolding parted
    values_all a = owed_none (rw ends at a)

  -- ---- it begins as one does, and so it is one

  module _ (yes-is : b ≡ true) (ok : Unbroken (lines_in (drop at t))) where
    abbrev part : List ℕ
    part = take (end - (at + 2)) (drop (at + 2) t)

    pub value_long : at + 2 ≤ end
    value_long = begun-long t at end b eb lo hi yes-is

    marked : is_mark (get_or (drop at t) 0 0) ≡ true
    unfolding is_value
    marked =
        let e : get_or (columns t at end) 0 0 ≡ get_or (drop at t) 0 0 = byte_of t at end 0 (omega (arith, value_long)) ∙ sym (get_or-drop at t 0 0) in
        ap is_mark (sym e) ∙ both_right (eqb (get_or (columns t at end) 1 0) 9) (is_mark (get_or (columns t at end) 0 0)) (sym eb ∙ yes-is)

    pub value_high : end < length t
    value_high = pick (ℕ_discrete end (length t))
      where
        pick : Dec (end ≡ length t) → end < length t
        pick (yes h) = absurd (never (ap (λ (ls : List Line). first_begins (behind_values ls)) (lines_whole t at end run_is h) ∙ piece-begins (drop at t) marked) ok)
        pick (no h) = omega arith

    part-is : columns t (at + 2) end ≡ part
    unfolding columns
    part-is = refl

    pub value_strict : strict_of part ≡ Some (meant part)
    unfolding behind_values
    value_strict = pick (strict_of part) refl
      where
        pick : (x : Option Value) → strict_of part ≡ x → strict_of part ≡ Some (meant part)
        pick (Some v) e = e ∙ ap Some (sym (meant_is part e))
        pick None e =
            let says : Nothing true ≡ says_of (columns t at end) = sym (value_not t at end b eb value_long yes-is None (sym e ∙ ap strict_of (sym part-is)) refl) in
            absurd (never (ap (λ (ls : List Line). first_begins (behind_values ls)) (lines_are value_high (Nothing true) says)) ok)

    line-is : lines_in (drop at t) ≡ value (eqb (get_or t at 0) 82) (item_of part (meant part)) ∷ lines_in (drop (end + 1) t)
    line-is =
        lines_are value_high (Given (eqb (get_or t at 0) 82) (meant part)) (sym (value-given t at end b eb value_long yes-is (Some (meant part)) (sym value_strict ∙ ap strict_of (sym part-is)) (meant part) refl))
        ∙ ap (λ (l : List ℕ). value (eqb (get_or t at 0) 82) (item_of l (meant part)) ∷ lines_in (drop (end + 1) t)) (line-part t at 2 end)

    behind-is : behind_values (lines_in (drop (end + 1) t)) ≡ behind_values (lines_in (drop at t))
    unfolding behind_values
    behind-is = sym (ap behind_values line-is)

    pub value-behind : (ls : List Line) → behind_values (lines_in (drop at t)) ≡ ls → behind_values (lines_in (drop (end + 1) t)) ≡ ls
    value-behind ls e = behind-is ∙ e

    pub value_unbroken : Unbroken (lines_in (drop (end + 1) t))
    value_unbroken = ap first_begins behind-is ∙ ok

    pub value-next : end + 1 ≤ length t
    value-next = omega (arith, value_high)

    pub value_room : length t < 2 ^ 64 → at + 2 < 2 ^ 64
    value_room h = omega (arith, value_long)

    pub value-sum : length t < 2 ^ 64 → end + 1 < 2 ^ 64
    value-sum h = omega (arith, value_high)

    pub value_less : length t - (end + 1) < length t - at
    value_less = omega (arith, value_high)

    pub value-more : {base w p r r' : ℕ} {o bs o1 o2 : List ℕ} → Owed base w o p bs o1 r (parted w r (items_first (lines_in (drop at t)))) → Put base w o1 r (piece w r (item_of part (meant part)) false) o2 r'
        → Owed base w o p bs o2 r' (parted w r' (items_first (lines_in (drop (end + 1) t))))
    unfolding values_first
    value-more a y = parted-next (item_of part (meant part)) (items_first (lines_in (drop (end + 1) t))) (rw line-is at a) y

-- the position has room
pub values_room : {base w p r : ℕ} {o bs o1 cs : List ℕ} → Owed base w o p bs o1 r cs → p + length bs ≤ 2 ^ 40 → r ≤ 2 ^ 40
values_room a h = omega (arith, a.next)

pub ruleset looping = (owed_all, values_behind_lem, values_all, value_long, value_strict, value-next, value_room, value-sum, value_less, values_room, put-length, not-true, not-false)
