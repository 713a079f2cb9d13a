-- What is printed: a refusal by its number and place, a sheet where reading laid it.
use mathlib.Core.Path.{◌≡◌, refl, sym, ap, ◌∙◌}
use mathlib.Core.Bool.{Bool, true, false, cond}
use mathlib.Core.List.{List}
use Prim.Native.Nat.{ℕ, ◌≤◌, ◌<◌}
use native.Mathlib.Omega.{arith}
use lib.ListN.{length, take}
use lib.Seq.{length-take-le}
use lib.Dec.{leb}
use borrow.Author.Tests.{le-leb, lt-leb, leb-true}
use Rattle.columns.specs.declared.Fault.TheVariants.{Room}
use Rattle.columns.specs.Refusal.{Outcome, accepted, refused, demand, ◌then◌}
use Rattle.columns.specs.Laid.{laid, length-laid, Wrote}
use Rattle.columns.proofs.Refusals.{numbered}
use Rattle.columns.proofs.Writes.{wrote_same, wrote_length}
use Rattle.model.specs.Read.{reads}
use Rattle.desk.specs.declared.Answer.{Answer}
use Rattle.desk.specs.Answers.{answer_of, left_in, printed, within_limits, igsheet}
use Rattle.desk_show.specs.Refusal.{refusal_line}

-- ---- what reading answered, by its outcome

-- what is accepted, where there is room for so many; else 16
abbrev limited : ℕ → Outcome (List ℕ) → Outcome (List ℕ)
limited room x = x then λ bs. demand (leb (length bs) room) Room 0 then λ _. accepted bs

by-sheet : (o o' : List ℕ) (n l : ℕ) (x : Outcome (List ℕ)) → n ≡ (answer_of (length o) x).number → l ≡ (answer_of (length o) x).length → o' ≡ left_in o x → n ≤ 0
    → Wrote o 0 (printed (limited (length o) x)) o' l × (l ≤ length o)
unfolding answer_of left_in
by-sheet o o' n l (refused f place) en el eo h = absurd (numbered f (omega arith))
by-sheet o o' n l (accepted bs) en el eo h = pick (leb (length bs) (length o)) refl en eo
  where
    pick : (b : Bool) → leb (length bs) (length o) ≡ b → n ≡ cond b 0 16 → o' ≡ cond b (laid o 0 bs) o
        → Wrote o 0 (printed (demand b Room 0 then λ _. accepted bs)) o' l × (l ≤ length o)
    pick true e en eo = (record { bytes = eo; next = omega (arith, el) }, omega (arith, el, leb-true (length bs) (length o) e))
    pick false e en eo = absurd (omega arith)

by-refusal : (o o' o'' : List ℕ) (n p r : ℕ) (x : Outcome (List ℕ)) → n ≡ (answer_of (length o) x).number → p ≡ (answer_of (length o) x).place → o' ≡ left_in o x → 0 < n
    → Wrote o' 0 (refusal_line n p) o'' r → Wrote o 0 (printed (limited (length o) x)) o'' r
unfolding answer_of left_in refusal_line
by-refusal o o' o'' n p r (refused f place) en ep eo h w = rw (en, ep, eo) at w
by-refusal o o' o'' n p r (accepted bs) en ep eo h w = pick (leb (length bs) (length o)) en eo
  where
    pick : (b : Bool) → n ≡ cond b 0 16 → o' ≡ cond b (laid o 0 bs) o → Wrote o 0 (printed (demand b Room 0 then λ _. accepted bs)) o'' r
    pick true en eo = absurd (omega arith)
    pick false en eo = rw (en, ep, eo) at w

left_length : (o : List ℕ) (x : Outcome (List ℕ)) → length (left_in o x) ≡ length o
unfolding left_in
left_length o (refused f place) = refl
left_length o (accepted bs) = pick (leb (length bs) (length o))
  where
    pick : (b : Bool) → length (cond b (laid o 0 bs) o) ≡ length o
    pick true = length-laid o 0 bs
    pick false = refl

-- ---- the program

-- a file that is not too long prints what reading it says
prints : (f : List ℕ) → length f ≤ 65448 → igsheet f ≡ printed (limited 65536 (reads 16383 f))
unfolding igsheet within_limits
prints f h = rw (le-leb (length f) 65448 h)

-- one that is too long prints 1, 0
prints_long : (f : List ℕ) → 65448 < length f → igsheet f ≡ refusal_line 1 0
unfolding igsheet within_limits refusal_line
prints_long f h = rw (lt-leb (length f) 65448 h)

module _ (f o o' : List ℕ) (r : ℕ) where
  pub long : 65448 < length f → Wrote o 0 (refusal_line 1 0) o' r → Wrote o 0 (igsheet f) o' r
  long h w = wrote_same w (sym (prints_long f h))

module _ (f o o' : List ℕ) (y : Answer) (ey : y ≡ answer_of (length o) (reads 16383 f)) (eo : o' ≡ left_in o (reads 16383 f)) (full : length o ≡ 65536) where
  told : y.number ≤ 0 → Wrote o 0 (printed (limited (length o) (reads 16383 f))) o' y.length × (y.length ≤ length o)
  told = by-sheet o o' y.number y.length (reads 16383 f) (ap (λ (z : Answer). z.number) ey) (ap (λ (z : Answer). z.length) ey) eo

  pub short_enough : y.number ≤ 0 → y.length ≤ 65536
  short_enough h = omega (arith, (told h).1, full)

  module _ (short : length f ≤ 65448) where
    same : printed (limited (length o) (reads 16383 f)) ≡ igsheet f
    same = ap (λ (k : ℕ). printed (limited k (reads 16383 f))) full ∙ sym (prints f short)

    pub sheet : y.number ≤ 0 → Wrote o 0 (igsheet f) o' y.length
    sheet h = wrote_same (told h).0 same

    pub refusal : {o'' : List ℕ} {r : ℕ} → 0 < y.number → Wrote o' 0 (refusal_line y.number y.place) o'' r → Wrote o 0 (igsheet f) o'' r
    refusal {o''} {r} h w =
        wrote_same (by-refusal o o' o'' y.number y.place r (reads 16383 f) (ap (λ (z : Answer). z.number) ey) (ap (λ (z : Answer). z.place) ey) eo h w) same

-- the buffer keeps its length, and what is printed is within it
pub left_long : (o o' : List ℕ) (x : Outcome (List ℕ)) → o' ≡ left_in o x → length o' ≡ length o
left_long o o' x e = ap length e ∙ left_length o x

pub full-line : {o o' bs : List ℕ} {at r : ℕ} → length o ≡ 65536 → Wrote o at bs o' r → length o' ≡ 65536
full-line e w = wrote_length w ∙ e

pub full_left : (o o' : List ℕ) (x : Outcome (List ℕ)) → length o ≡ 65536 → o' ≡ left_in o x → length o' ≡ 65536
full_left o o' x e eo = left_long o o' x eo ∙ e

pub line-within : (r : ℕ) → r ≤ 44 → r ≤ 65536
line-within r h = omega arith

-- as many bytes as are printed stand in the part that is printed
pub counted : (r : ℕ) (o : List ℕ) → r ≤ 65536 → length o ≡ 65536 → r ≡ length (take r o)
counted r o h e = sym (length-take-le r o (omega arith))

pub ruleset shows = (long, sheet, refusal, short_enough, left_long, wrote_length, full-line, full_left, line-within)
