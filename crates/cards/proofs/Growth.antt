-- What a file that is accepted is: each line moves the counts in one of five ways, and the end tells where each line stands.
use mathlib.Core.Path.{◌≡◌, refl, ap, ◌∙◌}
use mathlib.Core.Bool.{true, ◌&&◌}
use Prim.Native.Nat.{ℕ, zero, suc, ◌+◌, ◌-◌, ◌*◌, ◌/◌, ◌%◌, ◌≤◌, ◌<◌}
use native.Mathlib.Nat.{zero-add, add-zero}
use native.Mathlib.Decide.{ℕ_discrete}
use native.Mathlib.Omega.{arith}
use mathlib.Core.List.{List, [], ◌∷◌}
use lib.ListN.{length, get_or}
use lib.Dec.{eqb, ltb, leb}
use borrow.Author.Tests.{lt-ltb, le-ltb, ltb-true, eqb-true, eqb-false, leb-true}
use Rattle.columns.specs.Columns.{line_at}
use Rattle.columns.proofs.Tests.{cond_cases, both}
use Rattle.cards.specs.Shared.{file_line}
use Rattle.cards.specs.declared.Counts.{Counts}
use Rattle.cards.specs.declared.Placed.{Placed}
use Rattle.columns.specs.declared.Fault.{Fault}
use Rattle.columns.specs.declared.Fault.TheVariants.{ListOrLength, Byte, Sequence, Terminate}
use Rattle.columns.specs.declared.FileLine.{FileLine}
use Rattle.columns.specs.Format.{most_lines}
use Rattle.cards.specs.Rules.{Holds, Known, LineIs, letter_at, number_at, Meets}
use Rattle.std.specs.Prelude.{Option, Some, None, Result, Ok, Err}
use Rattle.columns.specs.Refusal.{refusal_at}
use Rattle.columns.specs.declared.Refusal.{Refusal}
use Rattle.cards.specs.Cards.{CardsRead, placed, lines_from, lines_of, line_ok, seven, counts, here, place_of, numbered_of, step_of, pass, totals, closes, start, closed, length_ok, cards_of, total}

-- ---- the five moves

-- a line of letter b, of which left more lines follow, makes q of the counts c, and its number is n
pub data Moves (c : Counts) (left b : ℕ) : Counts → ℕ → Type 0 where
  to-s : b ≡ 83 → (left ≡ 0 → ⊥) → c.g + c.d + c.p + c.t ≡ 0 → Moves c left b (counts (c.s + 1) c.g c.d c.p c.t) (c.s + 1)
  to-g : b ≡ 71 → (left ≡ 0 → ⊥) → 0 < c.s → c.d + c.p + c.t ≡ 0 → Moves c left b (counts c.s (c.g + 1) c.d c.p c.t) (c.g + 1)
  to-d : b ≡ 68 → (left ≡ 0 → ⊥) → 0 < c.g → c.p + c.t ≡ 0 → Moves c left b (counts c.s c.g (c.d + 1) c.p c.t) (c.d + 1)
  to-p : b ≡ 80 → (left ≡ 0 → ⊥) → 0 < c.g → c.t ≡ 0 → Moves c left b (counts c.s c.g c.d (c.p + 1) c.t) (c.p + 1)
  to-t : b ≡ 84 → 0 < c.g → c.t ≡ 0 → Moves c left b (counts c.s c.g c.d c.p (c.t + 1)) (c.t + 1)

data Places (c : Counts) (left b : ℕ) : Option Placed → Type 0 where
  no_place : Places c left b None
  place-of : {p : Placed} → Moves c left b p.counts p.number → Places c left b (Some p)

pub data Steps (c : Counts) (left : ℕ) (l : List ℕ) : Result Counts Fault → Type 0 where
  no_step : {w : Fault} → Steps c left l (Err w)
  step-of : {q : Counts} {n : ℕ} → Moves c left (get_or l 72 0) q n → line_ok l ≡ true → seven l 73 n ≡ true → Steps c left l (Ok q)

here_moves : {c : Counts} {left b : ℕ} (before later : ℕ) (q : Counts) (n : ℕ) → (0 < before → later ≡ 0 → Moves c left b q n) → Places c left b (here before later q n)
here_moves {c} {left} {b} before later q n h = cond_cases (Places c left b) (ltb 0 before && eqb later 0) (Some (placed q n)) None
    (λ e. place-of (h (ltb-true _ _ (both (ltb 0 before) (eqb later 0) e).0) (eqb-true _ _ (both (ltb 0 before) (eqb later 0) e).1))) (λ e. no_place)

place_moves : (c : Counts) (left b : ℕ) → Places c left b (place_of c left b)
unfolding place_of
place_moves c left b =
    let (s, g, d, p, t) : ℕ × ℕ × ℕ × ℕ × ℕ = (c.s, c.g, c.d, c.p, c.t) in
    cond_cases (Places c left b) (eqb b 84) _ _ (λ e. here_moves g t (counts s g d p (t + 1)) (t + 1) (λ h k. to-t (eqb-true _ _ e) h k)) (λ x.
    cond_cases (Places c left b) (eqb left 0) _ _ (λ e. no_place) (λ l.
    cond_cases (Places c left b) (eqb b 83) _ _ (λ e. here_moves 1 (g + d + p + t) (counts (s + 1) g d p t) (s + 1) (λ h k. to-s (eqb-true _ _ e) (eqb-false _ _ l) k)) (λ x.
    cond_cases (Places c left b) (eqb b 71) _ _ (λ e. here_moves s (d + p + t) (counts s (g + 1) d p t) (g + 1) (λ h k. to-g (eqb-true _ _ e) (eqb-false _ _ l) h k)) (λ x.
    cond_cases (Places c left b) (eqb b 68) _ _ (λ e. here_moves g (p + t) (counts s g (d + 1) p t) (d + 1) (λ h k. to-d (eqb-true _ _ e) (eqb-false _ _ l) h k)) (λ x.
    cond_cases (Places c left b) (eqb b 80) _ _ (λ e. here_moves g t (counts s g d (p + 1) t) (p + 1) (λ h k. to-p (eqb-true _ _ e) (eqb-false _ _ l) h k)) (λ x. no_place))))))

numbered_moves : (c : Counts) (left : ℕ) (x : Option Placed) (l : List ℕ) → line_ok l ≡ true → Places c left (get_or l 72 0) x → Steps c left l (numbered_of x l)
unfolding numbered_of
numbered_moves c left None l o h = no_step
numbered_moves c left (Some p) l o (place-of h) = cond_cases (Steps c left l) (seven l 73 p.number) (Ok p.counts) (Err Sequence) (λ e. step-of h o e) (λ e. no_step)

pub step_moves : (c : Counts) (left : ℕ) (l : List ℕ) → Steps c left l (step_of c left l)
unfolding step_of
step_moves c left l = cond_cases (Steps c left l) (line_ok l) _ (Err Byte) (λ e. numbered_moves c left (place_of c left (get_or l 72 0)) l e (place_moves c left (get_or l 72 0))) (λ e. no_step)

-- ---- what a move keeps

pub move_more : {c q : Counts} {left b n : ℕ} → Moves c left b q n → total q ≡ total c + 1
move_more (to-s e l k) = omega arith
move_more (to-g e l h k) = omega arith
move_more (to-d e l h k) = omega arith
move_more (to-p e l h k) = omega arith
move_more (to-t e h k) = omega arith

next_more : {c q : Counts} {left : ℕ} {l : List ℕ} → Steps c left l (Ok q) → total q ≡ total c + 1
next_more (step-of m o s) = move_more m

pub one_more : (c q : Counts) (left k : ℕ) (l : List ℕ) (x : Result Counts Fault) → x ≡ step_of c left l → x ≡ Ok q → total c ≡ k → total q ≡ k + 1
one_more c q left k l x ex e h = omega (arith, next_more (rw (← ex, e) at (step_moves c left l)))

move_last : {c q : Counts} {b n : ℕ} (left : ℕ) → Moves c left b q n → left ≡ 0 → q.t ≡ 1
move_last left (to-s e l k) z = absurd (l z)
move_last left (to-g e l h k) z = absurd (l z)
move_last left (to-d e l h k) z = absurd (l z)
move_last left (to-p e l h k) z = absurd (l z)
move_last left (to-t e h k) z = omega arith

-- no section has lines where one that it needs has none
pub record Good (c : Counts) : Type 0 where
  pub some_s : c.s ≡ 0 → c.g + c.d + c.p + c.t ≡ 0
  pub some_g : c.g ≡ 0 → c.d + c.p + c.t ≡ 0

move_good : {c q : Counts} {left b n : ℕ} → Moves c left b q n → Good c → Good q
move_good (to-s e l k) g = record { some_s = λ z. omega arith; some_g = λ z. omega arith }
move_good (to-g e l h k) g = record { some_s = λ z. omega arith; some_g = λ z. omega arith }
move_good (to-d e l h k) g = record { some_s = λ z. omega (arith, g.some_s z); some_g = λ z. omega arith }
move_good (to-p e l h k) g = record { some_s = λ z. omega (arith, g.some_s z); some_g = λ z. omega arith }
move_good (to-t e h k) g = record { some_s = λ z. omega (arith, g.some_s z); some_g = λ z. omega arith }

-- counts only grow, and a section's no more once a later one has a line
pub record Later (c q : Counts) : Type 0 where
  pub s : c.s ≤ q.s
  pub g : c.g ≤ q.g
  pub d : c.d ≤ q.d
  pub p : c.p ≤ q.p
  pub t : c.t ≤ q.t
  pub end-s : 0 < c.g + c.d + c.p + c.t → q.s ≡ c.s
  pub end-g : 0 < c.d + c.p + c.t → q.g ≡ c.g
  pub end-d : 0 < c.p + c.t → q.d ≡ c.d
  pub end-p : 0 < c.t → q.p ≡ c.p

later_same : {c : Counts} → Later c c
later_same = record { s = omega arith; g = omega arith; d = omega arith; p = omega arith; t = omega arith; end-s = λ z. refl; end-g = λ z. refl; end-d = λ z. refl; end-p = λ z. refl }

later_then : {a b c : Counts} → Later a b → Later b c → Later a c
later_then x y = record {
  s = omega (arith, x.s, y.s);
  g = omega (arith, x.g, y.g);
  d = omega (arith, x.d, y.d);
  p = omega (arith, x.p, y.p);
  t = omega (arith, x.t, y.t);
  end-s = λ z. y.end-s (omega (arith, x.g, x.d, x.p, x.t)) ∙ x.end-s z;
  end-g = λ z. y.end-g (omega (arith, x.d, x.p, x.t)) ∙ x.end-g z;
  end-d = λ z. y.end-d (omega (arith, x.p, x.t)) ∙ x.end-d z;
  end-p = λ z. y.end-p (omega (arith, x.t)) ∙ x.end-p z;
}

move_later : {c q : Counts} {left b n : ℕ} → Moves c left b q n → Later c q
move_later (to-s e l k) = record { s = omega arith; g = omega arith; d = omega arith; p = omega arith; t = omega arith; end-s = λ z. omega arith; end-g = λ z. refl; end-d = λ z. refl; end-p = λ z. refl }
move_later (to-g e l h k) = record { s = omega arith; g = omega arith; d = omega arith; p = omega arith; t = omega arith; end-s = λ z. refl; end-g = λ z. omega arith; end-d = λ z. refl; end-p = λ z. refl }
move_later (to-d e l h k) = record { s = omega arith; g = omega arith; d = omega arith; p = omega arith; t = omega arith; end-s = λ z. refl; end-g = λ z. refl; end-d = λ z. omega arith; end-p = λ z. refl }
move_later (to-p e l h k) = record { s = omega arith; g = omega arith; d = omega arith; p = omega arith; t = omega arith; end-s = λ z. refl; end-g = λ z. refl; end-d = λ z. refl; end-p = λ z. omega arith }
move_later (to-t e h k) = record { s = omega arith; g = omega arith; d = omega arith; p = omega arith; t = omega arith; end-s = λ z. refl; end-g = λ z. refl; end-d = λ z. refl; end-p = λ z. refl }

-- ---- where a line stands

module _ (c : Counts) (i j : ℕ) where
  pub at-s : i ≡ j → j < c.s → (letter_at c i ≡ 83) × (number_at c i ≡ j + 1)
  unfolding letter_at number_at
  at-s e h = (rw (lt-ltb i c.s (omega arith)), rw (lt-ltb i c.s (omega arith)) (omega arith))

  pub at_g : i ≡ c.s + j → j < c.g → (letter_at c i ≡ 71) × (number_at c i ≡ j + 1)
  unfolding letter_at number_at
  at_g e h = (rw (le-ltb i c.s (omega arith), lt-ltb i (c.s + c.g) (omega arith)), rw (le-ltb i c.s (omega arith), lt-ltb i (c.s + c.g) (omega arith)) (omega arith))

  pub at-d : i ≡ c.s + c.g + j → j < c.d → (letter_at c i ≡ 68) × (number_at c i ≡ j + 1)
  unfolding letter_at number_at
  at-d e h = (
    rw (le-ltb i c.s (omega arith), le-ltb i (c.s + c.g) (omega arith), lt-ltb i (c.s + c.g + c.d) (omega arith)),
    rw (le-ltb i c.s (omega arith), le-ltb i (c.s + c.g) (omega arith), lt-ltb i (c.s + c.g + c.d) (omega arith)) (omega arith),
  )

  pub at_p : i ≡ c.s + c.g + c.d + j → j < c.p → (letter_at c i ≡ 80) × (number_at c i ≡ j + 1)
  unfolding letter_at number_at
  at_p e h = (
    rw (le-ltb i c.s (omega arith), le-ltb i (c.s + c.g) (omega arith), le-ltb i (c.s + c.g + c.d) (omega arith), lt-ltb i (c.s + c.g + c.d + c.p) (omega arith)),
    rw (le-ltb i c.s (omega arith), le-ltb i (c.s + c.g) (omega arith), le-ltb i (c.s + c.g + c.d) (omega arith), lt-ltb i (c.s + c.g + c.d + c.p) (omega arith)) (omega arith),
  )

pub at-t : (c : Counts) (i : ℕ) → i ≡ c.s + c.g + c.d + c.p → (letter_at c i ≡ 84) × (number_at c i ≡ 1)
unfolding letter_at number_at
at-t c i e = (
  rw (le-ltb i c.s (omega arith), le-ltb i (c.s + c.g) (omega arith), le-ltb i (c.s + c.g + c.d) (omega arith), le-ltb i (c.s + c.g + c.d + c.p) (omega arith)),
  rw (le-ltb i c.s (omega arith), le-ltb i (c.s + c.g) (omega arith), le-ltb i (c.s + c.g + c.d) (omega arith), le-ltb i (c.s + c.g + c.d + c.p) (omega arith)),
)

pub line-is : {b n b' n' : ℕ} {l : List ℕ} → (b' ≡ b) × (n' ≡ n) → LineIs b n l → LineIs b' n' l
line-is e h = rw (e.0, e.1) h

-- a line that moved the counts stands where the counts of the end say
move_stands : {c q : Counts} {left b n : ℕ} {l : List ℕ} (r : Counts) → Moves c left b q n → Later q r → LineIs b n l → LineIs (letter_at r (total c)) (number_at r (total c)) l
move_stands {c} r (to-s e l k) y h = line-is (at-s r (total c) c.s (omega arith) (omega (arith, y.s))) (rw e at h)
move_stands {c} r (to-g e l h' k) y h = line-is (at_g r (total c) c.g (omega (arith, y.end-s (omega arith))) (omega (arith, y.g))) (rw e at h)
move_stands {c} r (to-d e l h' k) y h = line-is (at-d r (total c) c.d (omega (arith, y.end-s (omega arith), y.end-g (omega arith))) (omega (arith, y.d))) (rw e at h)
move_stands {c} r (to-p e l h' k) y h = line-is (at_p r (total c) c.p (omega (arith, y.end-s (omega arith), y.end-g (omega arith), y.end-d (omega arith))) (omega (arith, y.p))) (rw e at h)
move_stands {c} r (to-t e h' k) y h =
    let a : (letter_at r (total c) ≡ 84) × (number_at r (total c) ≡ 1) = at-t r (total c) (omega (arith, y.end-s (omega arith), y.end-g (omega arith), y.end-d (omega arith), y.end-p (omega arith))) in
    let z : 1 ≡ c.t + 1 = omega arith in
    line-is (a.0, a.1 ∙ z) (rw e at h)

-- ---- all lines

-- lines that were passed from the counts c to the counts q
pub record Ended (c : Counts) (ls : List (List ℕ)) (q : Counts) : Type 0 where
  pub more : total q ≡ total c + length ls
  pub good : Good c → Good q
  pub later : Later c q
  pub last : 0 < length ls → q.t ≡ 1
  pub stand : (j : ℕ) → j < length ls → LineIs (letter_at q (total c + j)) (number_at q (total c + j)) (get_or ls j [])

pub data Ends (c : Counts) (ls : List (List ℕ)) : CardsRead → Type 0 where
  refused : {w : Refusal FileLine} → Ends c ls (Err w)
  counted : {q : Counts} → Ended c ls q → Ends c ls (Ok q)

-- after T no line passes, so the last is T
ended-more : {c q r : Counts} {n : ℕ} (l : List ℕ) (ls : List (List ℕ)) → Moves c (length ls) (get_or l 72 0) q n → line_ok l ≡ true → seven l 73 n ≡ true → Ended q ls r → Ended c (l ∷ ls) r
ended-more {c} {q} {r} l ls m o s e = record {
  more = omega (arith, move_more m, e.more);
  good = λ g. e.good (move_good m g);
  later = later_then (move_later m) e.later;
  last = λ z. elim (ℕ_discrete (length ls) 0) [ yes y ↦ ended-none y | no y ↦ e.last (omega arith) ];
  stand = stand;
}
  where
    ended-none : length ls ≡ 0 → r.t ≡ 1
    ended-none y = omega (arith, move_last (length ls) m y, e.later.t, e.later.s, e.later.g, e.later.d, e.later.p, e.more)

    stand : (j : ℕ) → j < suc (length ls) → LineIs (letter_at r (total c + j)) (number_at r (total c + j)) (get_or (l ∷ ls) j [])
    stand zero h = rw add-zero (move_stands r m e.later (record { ok = o; letter = refl; number = s }))
    stand (suc j) h =
        let i : total c + suc j ≡ total q + j = omega (arith, move_more m) in
        rw i (e.stand j (omega arith))

ends_step : (c : Counts) (k : ℕ) (l : List ℕ) (ls : List (List ℕ)) (x : Result Counts Fault) → Steps c (length ls) l x → ((q : Counts) → Ends q ls (pass q (k + 1) ls))
    → Ends c (l ∷ ls) (elim x [ Err w ↦ Err (refusal_at w (file_line k)) | Ok q ↦ pass q (k + 1) ls ])
ends_step c k l ls (Err w) h rec = refused
ends_step c k l ls (Ok q) (step-of m o s) rec = then (pass q (k + 1) ls) (rec q)
  where
    then : (r : CardsRead) → Ends q ls r → Ends c (l ∷ ls) r
    then (Err w) refused = refused
    then (Ok r) (counted e) = counted (ended-more l ls m o s e)

pass_ends : (ls : List (List ℕ)) (c : Counts) (k : ℕ) → Ends c ls (pass c k ls)
unfolding pass
pass_ends [] c k = counted {q = c} (record { more = omega arith; good = λ g. g; later = later_same; last = λ e. absurd (omega arith); stand = λ j h. absurd (omega arith) })
pass_ends (l ∷ ls) c k = ends_step c k l ls (step_of c (length ls) l) (step_moves c (length ls) l) (λ q. pass_ends ls q (k + 1))

-- ---- the whole file

data Fits (f : List ℕ) : CardsRead → Type 0 where
  unfit : {w : Refusal FileLine} → Fits f (Err w)
  fit : {c : Counts} → Meets f c → Fits f (Ok c)

pub length_lines_from : (f : List ℕ) (n k : ℕ) → length (lines_from f k n) ≡ n
unfolding lines_from
length_lines_from f zero k = refl
length_lines_from f (suc n) k = ap suc (length_lines_from f n (k + 1))

-- line k of a text is the k-th of its lines
pub line-among : (f : List ℕ) (n k i : ℕ) → i < n → get_or (lines_from f k n) i [] ≡ line_at f (k + i)
unfolding lines_from
line-among f zero k i h = absurd (omega arith)
line-among f (suc n) k zero h = rw add-zero
line-among f (suc n) k (suc i) h = line-among f n (k + 1) i (omega arith) ∙ ap (λ (m : ℕ). line_at f m) (omega arith)

closed-fits : (f : List ℕ) (n : ℕ) (r : CardsRead) → length f ≡ 81 * n → 1 ≤ n → n ≤ most_lines → Ends start (lines_from f 0 n) r → Fits f (closed f n r)
unfolding closed closes
closed-fits f n (Err w) e lo hi h = unfit
closed-fits f n (Ok c) e lo hi (counted x) = cond_cases (Fits f) (eqb (c.d % 2) 0 && totals c (line_at f (n - 1))) (Ok c) (Err (refusal_at Terminate (file_line n))) (λ b.
    let m : total c ≡ 0 + length (lines_from f 0 n) = x.more in
    let l : length (lines_from f 0 n) ≡ n = length_lines_from f n 0 in
    let g : Good c = x.good (record { some_s = λ x. refl; some_g = λ x. refl }) in
    let t : c.t ≡ 1 = x.last (omega arith) in
    let p : (eqb (c.d % 2) 0 ≡ true) × (totals c (line_at f (n - 1)) ≡ true) = both (eqb (c.d % 2) 0) (totals c (line_at f (n - 1))) b in
    let last : n - 1 ≡ c.s + c.g + c.d + c.p = omega arith in
    fit (record {
      holds = record {
        size = omega arith;
        most = omega arith;
        has_s = elim (ℕ_discrete c.s 0) [ yes y ↦ absurd (omega (arith, g.some_s y)) | no y ↦ omega arith ];
        has_g = elim (ℕ_discrete c.g 0) [ yes y ↦ absurd (omega (arith, g.some_g y)) | no y ↦ omega arith ];
        has_t = t;
        even = eqb-true _ _ p.0;
      };
      line = λ i h. rw (line-among f n 0 i (omega arith), zero-add i) at (x.stand i (omega arith));
      tells = rw last at p.1;
    })) (λ b. unfit)

file-fits : (f : List ℕ) → Fits f (cards_of f)
unfolding cards_of length_ok lines_of
file-fits f = cond_cases (Fits f) (eqb (length f % 81) 0 && (leb 1 (length f / 81) && leb (length f / 81) most_lines)) _ (Err (refusal_at ListOrLength (file_line 0))) (λ b.
    let p : (eqb (length f % 81) 0 ≡ true) × (leb 1 (length f / 81) && leb (length f / 81) most_lines ≡ true) = both (eqb (length f % 81) 0) (leb 1 (length f / 81) && leb (length f / 81) most_lines) b in
    let q : (leb 1 (length f / 81) ≡ true) × (leb (length f / 81) most_lines ≡ true) = both (leb 1 (length f / 81)) (leb (length f / 81) most_lines) p.1 in
    closed-fits f (length f / 81) (pass start 1 (lines_from f 0 (length f / 81))) (omega (arith, eqb-true (length f % 81) 0 p.0)) (leb-true _ _ q.0) (leb-true _ _ q.1)
    (pass_ends (lines_from f 0 (length f / 81)) start 1)) (λ b. unfit)

fits_meets : {f : List ℕ} {c : Counts} → Fits f (Ok c) → Meets f c
fits_meets (fit h) = h

-- what is accepted meets the rules
pub sound : (f : List ℕ) (c : Counts) (r : CardsRead) → r ≡ cards_of f → r ≡ Ok c → Meets f c
sound f c r e h = fits_meets (rw (← e, h) at (file-fits f))

-- so its counts hold
pub known : (f : List ℕ) (r : CardsRead) → r ≡ cards_of f → Known f r
known f (Err w) e = tt
known f (Ok c) e = (sound f c (Ok c) e refl).holds

pub answer-known : (f : List ℕ) (r : CardsRead) → r ≡ cards_of f → (r ≡ cards_of f) × Known f r
answer-known f r e = (e, known f r e)

pub holds_of : (f : List ℕ) (c : Counts) (r : CardsRead) → Known f r → r ≡ Ok c → Holds f c
holds_of f c r h e = rw e at h
