-- What meets the rules is accepted, with its counts.
use mathlib.Core.Path.{◌≡◌, refl, sym, ap, ◌∙◌}
use mathlib.Core.Bool.{true}
use Prim.Native.Nat.{ℕ, zero, suc, ◌+◌, ◌-◌, ◌*◌, ◌/◌, ◌%◌, ◌≤◌, ◌<◌}
use mathlib.Core.Logic.{◌↔◌}
use native.Mathlib.Nat.{zero-add, add-zero}
use native.Mathlib.Omega.{arith}
use mathlib.Core.List.{List, [], ◌∷◌, ◌++◌}
use lib.ListN.{length, length-append}
use borrow.Author.Tests.{le-leb, eq-eqb}
use Rattle.cards.specs.declared.Counts.{Counts}
use Rattle.columns.specs.Columns.{line_at}
use Rattle.columns.specs.Format.{most_lines}
use Rattle.std.specs.Prelude.{Some, Ok}
use Rattle.cards.specs.Cards.{placed, lines_from, lines_of, counts, place_of, numbered_of, step_of, pass, totals, closes, start, cards_of, total}
use Rattle.cards.specs.Rules.{Holds, LineIs, letter_at, number_at, Meets}
use Rattle.cards.proofs.Growth.{at-s, at_g, at-d, at_p, at-t, sound}
use Rattle.cards.proofs.Laws.{here-here, place-s, place-g, place-d, place-p, place-t, whole_lines, file_good}

line_steps : {b n : ℕ} {l : List ℕ} → LineIs b n l → (c q : Counts) (left : ℕ) → place_of c left b ≡ Some (placed q n) → step_of c left l ≡ Ok q
unfolding step_of numbered_of
line_steps h c q left e = rw (h.ok, h.letter, e, h.number)

pass-one : (c q : Counts) (k : ℕ) (l : List ℕ) (ls : List (List ℕ)) → step_of c (length ls) l ≡ Ok q → pass c k (l ∷ ls) ≡ pass q (k + 1) ls
unfolding pass
pass-one c q k l ls e = simp (pass, e)

-- ---- a run of lines of one section

-- from at on there are m lines of letter b, numbered from 1
abbrev pub Run : List ℕ → ℕ → ℕ → ℕ → Type 0
Run f b at m = (i : ℕ) → i < m → LineIs b (i + 1) (line_at f (at + i))

-- where the counts after n lines of letter b are C n
module _ (f : List ℕ) (b : ℕ) (C : ℕ → Counts) (ok : (n left : ℕ) → (left ≡ 0 → ⊥) → place_of (C n) left b ≡ Some (placed (C (n + 1)) (n + 1))) where
  pass-from : (m n at k : ℕ) (rest : List (List ℕ)) → ((i : ℕ) → i < m → LineIs b (n + i + 1) (line_at f (at + i))) → 0 < length rest
      → pass (C n) k (lines_from f at m ++ rest) ≡ pass (C (n + m)) (k + m) rest
  unfolding lines_from
  pass-from zero n at k rest h r = rw (add-zero n, add-zero k)
  pass-from (suc m) n at k rest h r =
      let ls : List (List ℕ) = lines_from f (at + 1) m ++ rest in
      let (i, j) : (n + 1 + m ≡ n + suc m) × (k + 1 + m ≡ k + suc m) = (omega arith, omega arith) in
      let l : LineIs b (n + 1) (line_at f at) = rw (add-zero n, add-zero at) at (h 0 (omega arith)) in
      pass-one (C n) (C (n + 1)) k (line_at f at) ls (line_steps l (C n) (C (n + 1)) (length ls) (ok n (length ls) (λ z. omega (arith, length-append (lines_from f (at + 1) m) rest))))
      ∙ (rw (← i, ← j) (pass-from m (n + 1) (at + 1) (k + 1) rest (λ i l. shift i (h (suc i) (omega arith))) r))
    where
      shift : (i : ℕ) → LineIs b (n + suc i + 1) (line_at f (at + suc i)) → LineIs b (n + 1 + i + 1) (line_at f (at + 1 + i))
      shift i x =
          let (p, q) : (n + 1 + i + 1 ≡ n + suc i + 1) × (at + 1 + i ≡ at + suc i) = (omega arith, omega arith) in
          rw (p, q) x

  pass-run : (m at k : ℕ) (rest : List (List ℕ)) → Run f b at m → 0 < length rest → pass (C 0) k (lines_from f at m ++ rest) ≡ pass (C m) (k + m) rest
  pass-run m at k rest h r = rw (zero-add m) at (pass-from m 0 at k rest (λ i l. rw (zero-add i) (h i l)) r)

-- what each letter does where it stands
ok_s : (n left : ℕ) → (left ≡ 0 → ⊥) → place_of (counts n 0 0 0 0) left 83 ≡ Some (placed (counts (n + 1) 0 0 0 0) (n + 1))
ok_s n left m = sym (place-s (counts n 0 0 0 0) left 83 (λ z. omega arith) m _ _ refl refl refl)

ok_g : (s : ℕ) → 1 ≤ s → (n left : ℕ) → (left ≡ 0 → ⊥) → place_of (counts s n 0 0 0) left 71 ≡ Some (placed (counts s (n + 1) 0 0 0) (n + 1))
ok_g s h n left m = sym (place-g (counts s n 0 0 0) left 71 (λ z. omega arith) m (λ z. omega arith) _ _ refl refl (here-here s 0 (n + 1) (counts s (n + 1) 0 0 0) (λ z. omega arith) refl))

ok_d : (s g : ℕ) → 1 ≤ g → (n left : ℕ) → (left ≡ 0 → ⊥) → place_of (counts s g n 0 0) left 68 ≡ Some (placed (counts s g (n + 1) 0 0) (n + 1))
ok_d s g h n left m = sym (place-d (counts s g n 0 0) left 68 (λ z. omega arith) m (λ z. omega arith) (λ z. omega arith) _ _ refl refl (here-here g 0 (n + 1) (counts s g (n + 1) 0 0) (λ z. omega arith) refl))

ok_p : (s g d : ℕ) → 1 ≤ g → (n left : ℕ) → (left ≡ 0 → ⊥) → place_of (counts s g d n 0) left 80 ≡ Some (placed (counts s g d (n + 1) 0) (n + 1))
ok_p s g d h n left m = sym (place-p (counts s g d n 0) left 80 (λ z. omega arith) m (λ z. omega arith) (λ z. omega arith) (λ z. omega arith) _ _ refl refl (here-here g 0 (n + 1) (counts s g d (n + 1) 0) (λ z. omega arith) refl))

ok_t : (s g d p : ℕ) → 1 ≤ g → place_of (counts s g d p 0) 0 84 ≡ Some (placed (counts s g d p 1) 1)
ok_t s g d p h = sym (place-t (counts s g d p 0) 0 84 _ _ refl refl (here-here g 0 1 (counts s g d p 1) (λ z. omega arith) refl))

-- ---- the whole file

lines_split : (f : List ℕ) (a b k : ℕ) → lines_from f k (a + b) ≡ lines_from f k a ++ lines_from f (k + a) b
unfolding lines_from
lines_split f zero b k = rw (zero-add b, add-zero k)
lines_split f (suc a) b k =
    let (i, j) : (suc a + b ≡ suc (a + b)) × (k + suc a ≡ k + 1 + a) = (omega arith, omega arith) in
    rw (i, j, lines_split f a b (k + 1))

-- the same rules, section by section
pub record Sections (f : List ℕ) (s g d p : ℕ) : Type 0 where
  pub size : length f ≡ 81 * (s + g + d + p + 1)
  pub most : s + g + d + p + 1 ≤ most_lines
  pub has_s : 1 ≤ s
  pub has_g : 1 ≤ g
  pub even : d % 2 ≡ 0
  pub s-lines : Run f 83 0 s
  pub g-lines : Run f 71 s g
  pub d-lines : Run f 68 (s + g) d
  pub p-lines : Run f 80 (s + g + d) p
  pub t-line : LineIs 84 1 (line_at f (s + g + d + p))
  pub t-totals : totals (counts s g d p 1) (line_at f (s + g + d + p)) ≡ true

module _ (f : List ℕ) (s g d p : ℕ) (h : Sections f s g d p) where
  abbrev T : List ℕ
  T = line_at f (s + g + d + p)

  all_lines : lines_of f ≡ lines_from f 0 s ++ (lines_from f s g ++ (lines_from f (s + g) d ++ (lines_from f (s + g + d) p ++ (T ∷ []))))
  unfolding lines_of lines_from
  all_lines =
      let e : length f / 81 ≡ s + (g + (d + (p + 1))) = omega (arith, h.size) in
      rw (e, lines_split f s (g + (d + (p + 1))) 0, zero-add s, lines_split f g (d + (p + 1)) s, lines_split f d (p + 1) (s + g), lines_split f p 1 (s + g + d))

  pass-file : pass start 1 (lines_of f) ≡ Ok (counts s g d p 1)
  unfolding pass
  pass-file = rw all_lines
      (pass-run f 83 (λ n. counts n 0 0 0 0) ok_s s 0 1 _ h.s-lines (simp length-append (omega arith))
      ∙ pass-run f 71 (λ n. counts s n 0 0 0) (ok_g s h.has_s) g s _ _ h.g-lines (simp length-append (omega arith))
      ∙ pass-run f 68 (λ n. counts s g n 0 0) (ok_d s g h.has_g) d (s + g) _ _ h.d-lines (simp length-append (omega arith))
      ∙ pass-run f 80 (λ n. counts s g d n 0) (ok_p s g d h.has_g) p (s + g + d) _ (T ∷ []) h.p-lines (omega arith)
      ∙ pass-one (counts s g d p 0) (counts s g d p 1) _ T [] (line_steps h.t-line (counts s g d p 0) (counts s g d p 1) 0 (ok_t s g d p h.has_g)))

  closing : closes (counts s g d p 1) T ≡ true
  unfolding closes
  closing = rw (eq-eqb _ _ h.even) h.t-totals

  pub accepted : cards_of f ≡ Ok (counts s g d p 1)
  accepted =
      let size : length f ≡ 81 * (s + g + d + p + 1) = h.size in
      let most : s + g + d + p + 1 ≤ most_lines = h.most in
      let at : length f / 81 - 1 ≡ s + g + d + p = omega arith in
      sym (file_good f true (whole_lines (length f) true (omega arith) (omega arith) (sym (le-leb (length f / 81) most_lines (omega arith)))) refl (counts s g d p 1) true (sym pass-file) (sym (rw at closing)) refl)

-- ---- a file is accepted exactly if it meets the rules

meets_sections : (f : List ℕ) (c : Counts) → Meets f c → Sections f c.s c.g c.d c.p
unfolding totals
meets_sections f c m =
    let h : Holds f c = m.holds in
    let t : c.t ≡ 1 = h.has_t in
    record {
      size = omega (arith, h.size);
      most = omega (arith, h.most);
      has_s = h.has_s;
      has_g = h.has_g;
      even = h.even;
      s-lines = λ i h. line-at (0 + i) (i + 1) (omega arith) (at-s c (0 + i) i (omega arith) h);
      g-lines = λ i h. line-at (c.s + i) (i + 1) (omega arith) (at_g c (c.s + i) i refl h);
      d-lines = λ i h. line-at (c.s + c.g + i) (i + 1) (omega arith) (at-d c (c.s + c.g + i) i refl h);
      p-lines = λ i h. line-at (c.s + c.g + c.d + i) (i + 1) (omega arith) (at_p c (c.s + c.g + c.d + i) i refl h);
      t-line = line-at (c.s + c.g + c.d + c.p) 1 (omega arith) (at-t c (c.s + c.g + c.d + c.p) refl);
      t-totals = m.tells;
    }
  where
    line-at : {b : ℕ} (i n : ℕ) → i < total c → (letter_at c i ≡ b) × (number_at c i ≡ n) → LineIs b n (line_at f i)
    line-at i n h e = rw (e.0, e.1) at (m.line i h)

pub complete : (f : List ℕ) (c : Counts) → Meets f c → cards_of f ≡ Ok c
complete f c m = accepted f c.s c.g c.d c.p (meets_sections f c m) ∙ ap (λ (t : ℕ). Ok (counts c.s c.g c.d c.p t)) (sym m.holds.has_t)

pub rules : (f : List ℕ) (c : Counts) → (cards_of f ≡ Ok c) ↔ Meets f c
rules f c = (λ e. sound f c (cards_of f) refl e, complete f c)
