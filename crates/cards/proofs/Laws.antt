-- The laws of the pass over lines.
use mathlib.Core.Path.{◌≡◌, sym, ◌∙◌}
use mathlib.Core.Bool.{Bool, true, false, ◌&&◌}
use Prim.Native.Nat.{ℕ, suc, ◌+◌, ◌-◌, ◌*◌, ◌/◌, ◌%◌, ◌≤◌, ◌<◌}
use native.Mathlib.Nat.{add-zero, add_assoc, sub-zero, sub_self}
use native.Mathlib.Omega.{arith}
use mathlib.Core.List.{List, ◌∷◌}
use lib.ListN.{length, get_or}
use lib.Dec.{leb, eqb}
use borrow.Author.Tests.{le-leb, leb-true, lt-leb, lt-ltb, eq-eqb, ne_eqb, not-true, not-false}
use Rattle.columns.specs.Columns.{columns, printable, blank, line_at}
use Rattle.columns.specs.Fixed.{field_of, is_number}
use Rattle.columns.proofs.Columns.{byte_of, columns_of}
use Rattle.columns.proofs.Tests.{both_left, both_right}
use Rattle.cards.specs.Shared.{file_line}
use Rattle.cards.specs.declared.Counts.{Counts}
use Rattle.cards.specs.declared.Placed.{Placed}
use Rattle.columns.specs.declared.Fault.{Fault}
use Rattle.columns.specs.declared.Fault.TheVariants.{ListOrLength, Byte, Section, Sequence, Terminate}
use Rattle.columns.specs.Format.{most_lines}
use Rattle.cards.proofs.Growth.{one_more, length_lines_from}
use Rattle.std.specs.Prelude.{Option, Some, None, Result, Ok, Err}
use Rattle.columns.specs.Refusal.{refusal_at}
use Rattle.cards.specs.Cards.{CardsRead, placed, lines_from, lines_of, line_ok, seven, counts, here, place_of, numbered_of, step_of, pass, tells, totals, closes, start, closed, length_ok, cards_of}

-- ---- a line's bytes and LF

pub line_no_end : (f : List ℕ) (at : ℕ) → (get_or f (at + 80) 0 ≡ 10 → ⊥) → eqb (get_or f (at + 80) 0) 10 ≡ line_ok (columns f at (at + 81))
unfolding line_ok
line_no_end f at h = rw (byte_of f at (at + 81) 80 (omega arith), ne_eqb _ _ h)

pub line-end : (f : List ℕ) (at : ℕ) (r : Bool) → get_or f (at + 80) 0 ≡ 10 → r ≡ printable (columns f at (at + 80)) → r ≡ line_ok (columns f at (at + 81))
unfolding line_ok
line-end f at r h e = rw (byte_of f at (at + 81) 80 (omega arith), eq-eqb _ _ h, columns_of f at (at + 81) 0 80 (omega arith) (omega arith), add-zero) e

pub ruleset lines = (line_no_end, line-end)

-- ---- where a line stands

pub here_first : (before later n : ℕ) (c : Counts) → before ≡ 0 → None ≡ here before later c n
here_first before later n c h = rw h

pub here_later : (before later n : ℕ) (c : Counts) → (before ≡ 0 → ⊥) → (later ≡ 0 → ⊥) → None ≡ here before later c n
here_later before later n c h k = rw (lt-ltb 0 before (omega arith), ne_eqb _ _ k)

pub here-here : (before later n : ℕ) (c : Counts) → (before ≡ 0 → ⊥) → later ≡ 0 → Some (placed c n) ≡ here before later c n
here-here before later n c h k = rw (lt-ltb 0 before (omega arith), eq-eqb _ _ k)

module _ (c : Counts) (left b : ℕ) where
  pub place-t : (r : Option Placed) (q : Counts) → b ≡ 84 → q ≡ counts c.s c.g c.d c.p (c.t + 1) → r ≡ here c.g c.t q (c.t + 1) → r ≡ place_of c left b
  unfolding place_of
  place-t r q h k e = rw (eq-eqb _ _ h, ← k) e

  module _ (n84 : b ≡ 84 → ⊥) where
    pub place_last : left ≡ 0 → None ≡ place_of c left b
    unfolding place_of
    place_last h = rw (ne_eqb _ _ n84, h)

    module _ (more : left ≡ 0 → ⊥) where
      pub place-s : (r : Option Placed) (q : Counts) → b ≡ 83 → q ≡ counts (c.s + 1) c.g c.d c.p c.t → r ≡ here 1 (c.g + c.d + c.p + c.t) q (c.s + 1) → r ≡ place_of c left b
      unfolding place_of
      place-s r q h k e = rw (ne_eqb _ _ n84, ne_eqb _ _ more, eq-eqb _ _ h, ← k) e

      module _ (n83 : b ≡ 83 → ⊥) where
        pub place-g : (r : Option Placed) (q : Counts) → b ≡ 71 → q ≡ counts c.s (c.g + 1) c.d c.p c.t → r ≡ here c.s (c.d + c.p + c.t) q (c.g + 1) → r ≡ place_of c left b
        unfolding place_of
        place-g r q h k e = rw (ne_eqb _ _ n84, ne_eqb _ _ more, ne_eqb _ _ n83, eq-eqb _ _ h, ← k) e

        module _ (n71 : b ≡ 71 → ⊥) where
          pub place-d : (r : Option Placed) (q : Counts) → b ≡ 68 → q ≡ counts c.s c.g (c.d + 1) c.p c.t → r ≡ here c.g (c.p + c.t) q (c.d + 1) → r ≡ place_of c left b
          unfolding place_of
          place-d r q h k e = rw (ne_eqb _ _ n84, ne_eqb _ _ more, ne_eqb _ _ n83, ne_eqb _ _ n71, eq-eqb _ _ h, ← k) e

          module _ (n68 : b ≡ 68 → ⊥) where
            pub place-p : (r : Option Placed) (q : Counts) → b ≡ 80 → q ≡ counts c.s c.g c.d (c.p + 1) c.t → r ≡ here c.g c.t q (c.p + 1) → r ≡ place_of c left b
            unfolding place_of
            place-p r q h k e = rw (ne_eqb _ _ n84, ne_eqb _ _ more, ne_eqb _ _ n83, ne_eqb _ _ n71, ne_eqb _ _ n68, eq-eqb _ _ h, ← k) e

            pub place_none : (b ≡ 80 → ⊥) → None ≡ place_of c left b
            unfolding place_of
            place_none h = rw (ne_eqb _ _ n84, ne_eqb _ _ more, ne_eqb _ _ n83, ne_eqb _ _ n71, ne_eqb _ _ n68, ne_eqb _ _ h)

pub ruleset places = (here_first, here_later, here-here, place-t, place_last, place-s, place-g, place-d, place-p, place_none)

-- ---- one line

seven-line : (f : List ℕ) (at a n : ℕ) → a + 7 ≤ 81 → seven (columns f at (at + 81)) a n ≡ seven f (at + a) n
unfolding seven
seven-line f at a n h = rw (columns_of f at (at + 81) a (a + 7) (omega arith) (omega arith), ← add_assoc)

-- its number in columns 74-80
number-line : (f : List ℕ) (at n : ℕ) → seven (columns f at (at + 81)) 73 n ≡ is_number (field_of (columns f (at + 73) (at + 80))) n
unfolding seven
number-line f at n = rw (columns_of f at (at + 81) 73 80 (omega arith) (omega arith))

tells-line : (f : List ℕ) (at a b n : ℕ) → a + 8 ≤ 81 → tells (columns f at (at + 81)) a b n ≡ tells f (at + a) b n
unfolding tells
tells-line f at a b n h = rw (byte_of f at (at + 81) a (omega arith), seven-line f at (a + 1) n (omega arith), ← add_assoc)

module _ (f : List ℕ) (k left : ℕ) (c : Counts) (ok : Bool) (eo : ok ≡ line_ok (columns f (81 * k) (81 * k + 81))) where
  pub step-bytes : ok ≡ false → Err Byte ≡ step_of c left (line_at f k)
  unfolding step_of line_at
  step-bytes h = rw (← eo, h)

  module _ (h : ok ≡ true) (x : Option Placed) (ex : x ≡ place_of c left (get_or f (81 * k + 72) 0)) where
    place_at_lem : step_of c left (line_at f k) ≡ numbered_of x (columns f (81 * k) (81 * k + 81))
    unfolding step_of line_at
    place_at_lem = rw (← eo, h, byte_of f (81 * k) (81 * k + 81) 72 (omega arith), ← ex)

    pub step_order : x ≡ None → Err Section ≡ step_of c left (line_at f k)
    unfolding numbered_of
    step_order e = rw (place_at_lem, e)

    pub step-number : (p : Placed) (y : Bool) → x ≡ Some p → y ≡ is_number (field_of (columns f (81 * k + 73) (81 * k + 80))) p.number → y ≡ false → Err Sequence ≡ step_of c left (line_at f k)
    unfolding numbered_of
    step-number p y e ey z = rw (place_at_lem, e, number-line f (81 * k) p.number, ← ey, z)

    pub step-next : (p : Placed) (y : Bool) → x ≡ Some p → y ≡ is_number (field_of (columns f (81 * k + 73) (81 * k + 80))) p.number → y ≡ true → Ok p.counts ≡ step_of c left (line_at f k)
    unfolding numbered_of
    step-next p y e ey z = rw (place_at_lem, e, number-line f (81 * k) p.number, ← ey, z)

pub ruleset steps = (not-true, not-false, step-bytes, step_order, step-number, step-next)

-- ---- the T line

pub tells-not : (f : List ℕ) (at b n : ℕ) → (get_or f at 0 ≡ b → ⊥) → false ≡ tells f at b n
unfolding tells
tells-not f at b n h = rw (ne_eqb _ _ h)

pub tells_so : (f : List ℕ) (at b n : ℕ) (r : Bool) → get_or f at 0 ≡ b → r ≡ is_number (field_of (columns f (at + 1) (at + 8))) n → r ≡ tells f at b n
unfolding tells seven
tells_so f at b n r h e =
    let z : at + 1 + 7 ≡ at + 8 = omega arith in
    rw (eq-eqb _ _ h, z) e

pub closes-odd : (f : List ℕ) (k : ℕ) (c : Counts) → (c.d % 2 ≡ 0 → ⊥) → false ≡ closes c (line_at f k)
unfolding closes
closes-odd f k c h = rw (ne_eqb _ _ h)

pub closes_all : (f : List ℕ) (k : ℕ) (c : Counts) (r s g d p b : Bool) → c.d % 2 ≡ 0
    → s ≡ tells f (81 * k) 83 c.s → g ≡ tells f (81 * k + 8) 71 c.g → d ≡ tells f (81 * k + 16) 68 c.d → p ≡ tells f (81 * k + 24) 80 c.p
    → b ≡ blank (columns f (81 * k + 32) (81 * k + 72)) → r ≡ s && (g && (d && (p && b))) → r ≡ closes c (line_at f k)
unfolding closes totals line_at
closes_all f k c r s g d p b h es eg ed ep eb e =
    rw (
      eq-eqb _ _ h,
      tells-line f (81 * k) 0 83 c.s (omega arith),
      tells-line f (81 * k) 8 71 c.g (omega arith),
      tells-line f (81 * k) 16 68 c.d (omega arith),
      tells-line f (81 * k) 24 80 c.p (omega arith),
      columns_of f (81 * k) (81 * k + 81) 32 72 (omega arith) (omega arith),
      add-zero,
      ← es,
      ← eg,
      ← ed,
      ← ep,
      ← eb,
    ) e

-- tests one after the other
pub ruleset ends = (tells-not, tells_so, closes-odd, closes_all)

-- ---- all lines: r is the answer

lines_more : (f : List ℕ) (k n : ℕ) → k < n → lines_from f k (n - k) ≡ line_at f k ∷ lines_from f (k + 1) (n - (k + 1))
unfolding lines_from
lines_more f k n h =
    let e : n - k ≡ suc (n - (k + 1)) = omega arith in
    rw e

module _ (r : CardsRead) (f : List ℕ) (c : Counts) (k n : ℕ) (inv : pass c (k + 1) (lines_from f k (n - k)) ≡ r) where
  module _ (lt : k < n) (x : Result Counts Fault) (ex : x ≡ step_of c (n - (k + 1)) (line_at f k)) where
    pub pass-wrong : (w : Fault) → x ≡ Err w → Err (refusal_at w (file_line (k + 1))) ≡ r
    unfolding pass
    pass-wrong w e = simp (pass, length_lines_from, ← ex, e) at (rw (lines_more f k n lt) at inv)

    pub pass-next : (q : Counts) → x ≡ Ok q → pass q (k + 1 + 1) (lines_from f (k + 1) (n - (k + 1))) ≡ r
    unfolding pass
    pass-next q e = simp (pass, length_lines_from, ← ex, e) at (rw (lines_more f k n lt) at inv)

  pub pass-end : k ≤ n → n ≤ k → Ok c ≡ r
  unfolding pass lines_from
  pass-end le ge =
      let e : k ≡ n = omega arith in
      rw (e, sub_self) at inv

-- ---- the whole file

-- a length that is no good
pub not_whole : (n : ℕ) → (n % 81 ≡ 0 → ⊥) → false ≡ length_ok n
unfolding length_ok
not_whole n h = rw (ne_eqb _ _ h)

pub no_lines : (n : ℕ) → n % 81 ≡ 0 → n / 81 < 1 → false ≡ length_ok n
unfolding length_ok
no_lines n w h = rw (eq-eqb _ _ w, lt-leb _ _ h)

pub whole_lines : (n : ℕ) (r : Bool) → n % 81 ≡ 0 → 1 ≤ n / 81 → r ≡ leb (n / 81) most_lines → r ≡ length_ok n
unfolding length_ok
whole_lines n r w lo e = rw (eq-eqb _ _ w, le-leb _ _ lo) e

pub ruleset lengths = (not_whole, no_lines, whole_lines)

-- a length that is good
pub some_lines : (n : ℕ) (x : Bool) → x ≡ length_ok n → x ≡ true → 1 ≤ n / 81
unfolding length_ok
some_lines n x ex h = leb-true _ _ (both_left (leb 1 (n / 81)) (leb (n / 81) most_lines) (both_right (eqb (n % 81) 0) _ (sym ex ∙ h)))

pub few_lines : (n : ℕ) (x : Bool) → x ≡ length_ok n → x ≡ true → n / 81 ≤ most_lines
unfolding length_ok
few_lines n x ex h = leb-true _ _ (both_right (leb 1 (n / 81)) (leb (n / 81) most_lines) (both_right (eqb (n % 81) 0) _ (sym ex ∙ h)))

module _ (f : List ℕ) where
  pub not_long : (x : Bool) → x ≡ length_ok (length f) → x ≡ false → Err (refusal_at ListOrLength (file_line 0)) ≡ cards_of f
  unfolding cards_of
  not_long x ex h = rw (← ex, h)

  module _ (y : Bool) (ey : y ≡ length_ok (length f)) (ok : y ≡ true) where
    inside : (r : CardsRead) → r ≡ pass start 1 (lines_of f) → cards_of f ≡ closed f (length f / 81) r
    unfolding cards_of
    inside r e = rw (← ey, ok, ← e)

    pub file-wrong : (w : Fault) (k : ℕ) → Err (refusal_at w (file_line k)) ≡ pass start 1 (lines_of f) → Err (refusal_at w (file_line k)) ≡ cards_of f
    unfolding closed
    file-wrong w k e = sym (inside _ e)

    pub file_open : (c : Counts) (x : Bool) → Ok c ≡ pass start 1 (lines_of f) → x ≡ closes c (line_at f (length f / 81 - 1)) → x ≡ false → Err (refusal_at Terminate (file_line (length f / 81))) ≡ cards_of f
    unfolding closed
    file_open c x e ex h = rw (inside _ e, ← ex, h)

    pub file_good : (c : Counts) (x : Bool) → Ok c ≡ pass start 1 (lines_of f) → x ≡ closes c (line_at f (length f / 81 - 1)) → x ≡ true → Ok c ≡ cards_of f
    unfolding closed
    file_good c x e ex h = rw (inside _ e, ← ex, h)

pub at-start : (f : List ℕ) → pass start (0 + 1) (lines_from f 0 (length f / 81 - 0)) ≡ pass start 1 (lines_of f)
unfolding lines_of
at-start f = rw sub-zero

pub ruleset files = (not-true, not-false, pass-wrong, pass-next, pass-end, one_more, some_lines, few_lines, not_long, file-wrong, file_open, file_good, at-start)
