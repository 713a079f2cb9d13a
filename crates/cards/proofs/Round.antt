-- A file that is put together of its sections' lines has its counts, and its lines are those lines.
use mathlib.Core.Path.{◌≡◌, refl, sym, ap, ap₂, ◌∙◌}
use mathlib.Core.Bool.{true}
use Prim.Native.Nat.{ℕ, zero, suc, ◌+◌, ◌-◌, ◌*◌, ◌/◌, ◌%◌, ◌^◌, ◌≤◌, ◌<◌}
use native.Mathlib.Nat.{zero-add, add-zero}
use native.Mathlib.Omega.{arith}
use mathlib.Core.List.{List, [], ◌∷◌, ◌++◌, append_assoc}
use lib.ListN.{length, get_or, replicate, length-append, get_or-append}
use lib.Seq.{get_or_at, get_or-append-add}
use borrow.Author.Tests.{eq-eqb}
use Rattle.std.specs.Prelude.{Some}
use Rattle.columns.specs.Columns.{columns, printable, line_at}
use Rattle.columns.specs.Fixed.{field_of, is_number}
use Rattle.columns.specs.Decimal.{dec}
use Rattle.columns.proofs.Columns.{columns_skip, columns-part, columns_first}
use Rattle.columns.proofs.Looks.{print_both, print_cons, print_replicate, blank-replicate}
use Rattle.columns.proofs.Decimals.{length_dec_le, length_right, dec-digits, print_digits, print_right}
use Rattle.columns.proofs.Round.{field_zero_filled}
use Rattle.cards.specs.declared.Counts.{Counts}
use Rattle.std.specs.Prelude.{Ok}
use Rattle.cards.specs.Cards.{lines_from, lines_of, line_ok, seven, tells, totals, cards_of, total}
use Rattle.cards.specs.Written.{Body, All, Bodies, none, one, zeros, line_of, section, totals_of, counts_of, file_lines, file_of}
use Rattle.columns.specs.Columns.{joined}
use Rattle.columns.specs.Format.{most_lines}
use Rattle.cards.proofs.Growth.{line-among}
use Rattle.cards.proofs.Complete.{accepted}
use Rattle.cards.specs.Rules.{LineIs}

-- ---- a number with leading zeros

pub length-zeros : (n : ℕ) → n < 10 ^ 7 → length (zeros n) ≡ 7
unfolding zeros
length-zeros n h = length_right 48 7 (dec n) (length_dec_le 6 n h)

zeros-read : (n : ℕ) → field_of (zeros n) ≡ Some n
unfolding zeros
zeros-read n = field_zero_filled 7 n

print_zeros : (n : ℕ) → printable (zeros n) ≡ true
unfolding zeros
print_zeros n = print_right 48 7 (dec n) (omega arith) (omega arith) (print_digits (dec-digits n))

-- ---- a line that was written

pub all_append : {P : List ℕ → Type 0} {a b : List (List ℕ)} → All P a → All P b → All P (a ++ b)
all_append none q = q
all_append (one p ps) q = one p (all_append ps q)

-- whole lines
abbrev Whole : List (List ℕ) → Type 0
Whole = All (λ (l : List ℕ). length l ≡ 81)

pub body_of : {xs : List (List ℕ)} → Bodies xs → (i : ℕ) → i < length xs → Body (get_or xs i [])
body_of none i h = absurd (omega arith)
body_of (one p ps) zero h = p
body_of (one p ps) (suc i) h = body_of ps i (omega arith)

module _ (x : List ℕ) (b n : ℕ) (h : Body x) (k : n < 10 ^ 7) where
  front : length (x ++ (b ∷ zeros n)) ≡ 80
  front = simp length-append (omega (arith, length-zeros n k, h.wide))

  pub length-line : length (line_of x b n) ≡ 81
  unfolding line_of
  length-line = length-append (x ++ (b ∷ zeros n)) (10 ∷ []) ∙ ap (λ (i : ℕ). i + 1) front

  pub line_body : (a e : ℕ) → a ≤ e → e ≤ 72 → columns (line_of x b n) a e ≡ columns x a e
  unfolding line_of
  line_body a e m l = rw append_assoc (columns_first x ((b ∷ zeros n) ++ (10 ∷ [])) a e m (omega (arith, h.wide)))

  pub line-byte : (i : ℕ) → i < 72 → get_or (line_of x b n) i 0 ≡ get_or x i 0
  unfolding line_of
  line-byte i l = rw append_assoc (get_or-append x ((b ∷ zeros n) ++ (10 ∷ [])) 0 i (omega (arith, h.wide)))

  line-letter : get_or (line_of x b n) 72 0 ≡ b
  unfolding line_of
  line-letter = rw append_assoc (get_or_at x b (zeros n ++ (10 ∷ [])) 0 72 h.wide)

  line-number : columns (line_of x b n) 73 80 ≡ zeros n
  unfolding line_of
  line-number = rw append_assoc (columns_skip x _ 72 73 80 h.wide (omega arith) ∙ columns_skip (b ∷ []) _ 1 1 8 refl (omega arith) ∙ columns-part (zeros n) _ 7 (length-zeros n k))

  line-seven : seven (line_of x b n) 73 n ≡ true
  unfolding seven is_number
  line-seven = rw (line-number, zeros-read n, eq-eqb n n refl)

  line_good : 32 ≤ b → b ≤ 126 → line_ok (line_of x b n) ≡ true
  unfolding line_ok line_of
  line_good lo hi = rw (get_or_at (x ++ (b ∷ zeros n)) 10 [] 0 80 front, columns-part (x ++ (b ∷ zeros n)) (10 ∷ []) 80 front)
      (print_both x (b ∷ zeros n) h.good (print_cons b (zeros n) lo hi (print_zeros n)))

  pub line-written : 32 ≤ b → b ≤ 126 → LineIs b n (line_of x b n)
  line-written lo hi = record { ok = line_good lo hi; letter = line-letter; number = line-seven }

-- ---- a section that was written

pub length-section : (b n : ℕ) (xs : List (List ℕ)) → length (section b n xs) ≡ length xs
unfolding section
length-section b n [] = refl
length-section b n (x ∷ xs) = ap suc (length-section b (n + 1) xs)

-- line i of a section
pub section-line : (b n : ℕ) (xs : List (List ℕ)) (i : ℕ) → i < length xs → get_or (section b n xs) i [] ≡ line_of (get_or xs i []) b (n + i)
unfolding section
section-line b n [] i h = absurd (omega arith)
section-line b n (x ∷ xs) zero h = rw add-zero
section-line b n (x ∷ xs) (suc i) h = section-line b (n + 1) xs i (omega arith) ∙ ap (λ (m : ℕ). line_of (get_or xs i []) b m) (omega arith)

whole_section : (b n : ℕ) {xs : List (List ℕ)} → Bodies xs → n + length xs ≤ 10 ^ 7 → Whole (section b n xs)
unfolding section
whole_section b n none h = none
whole_section b n (one {x} {xs} p ps) h = one (length-line x b n p (omega arith)) (whole_section b (n + 1) ps (omega arith))

-- ---- the T line

tells-here : (b n : ℕ) (q : List ℕ) → n < 10 ^ 7 → tells ((b ∷ zeros n) ++ q) 0 b n ≡ true
unfolding tells seven is_number
tells-here b n q h = rw (eq-eqb b b refl, columns_skip (b ∷ []) (zeros n ++ q) 1 1 8 refl (omega arith), columns-part (zeros n) q 7 (length-zeros n h), zeros-read n, eq-eqb n n refl)

tells_skip : (p q : List ℕ) (m at b n : ℕ) → length p ≡ m → tells (p ++ q) (m + at) b n ≡ tells q at b n
unfolding tells seven
tells_skip p q m at b n e =
    let i : m + at + 1 - m ≡ at + 1 = omega arith in
    let j : m + at + 1 + 7 - m ≡ at + 1 + 7 = omega arith in
    rw (columns_skip p q m (m + at + 1) (m + at + 1 + 7) e (omega arith), i, j, ← e, get_or-append-add p q at 0)

module _ (c : Counts) (few : total c ≤ most_lines) where
  abbrev A : List ℕ
  A = 83 ∷ zeros c.s

  abbrev B : List ℕ
  B = 71 ∷ zeros c.g

  abbrev C : List ℕ
  C = 68 ∷ zeros c.d

  abbrev D : List ℕ
  D = 80 ∷ zeros c.p

  eight : (b n : ℕ) → n < 10 ^ 7 → length (b ∷ zeros n) ≡ 8
  eight b n h = ap suc (length-zeros n h)

  totals-here : (r : List ℕ) → totals c (A ++ (B ++ (C ++ (D ++ (replicate 40 32 ++ r))))) ≡ true
  unfolding totals
  totals-here r =
      let (ls, lg, ld, lp) : (c.s < 10 ^ 7) × (c.g < 10 ^ 7) × (c.d < 10 ^ 7) × (c.p < 10 ^ 7) = (omega arith, omega arith, omega arith, omega arith) in
      let (la, lb, lc, le) : (length A ≡ 8) × (length B ≡ 8) × (length C ≡ 8) × (length D ≡ 8) = (eight 83 c.s ls, eight 71 c.g lg, eight 68 c.d ld, eight 80 c.p lp) in
      let (r4, r3, r2, r1) : List ℕ × List ℕ × List ℕ × List ℕ = (replicate 40 32 ++ r, D ++ (replicate 40 32 ++ r), C ++ (D ++ (replicate 40 32 ++ r)), B ++ (C ++ (D ++ (replicate 40 32 ++ r)))) in
      rw (
        tells-here 83 c.s r1 ls,
        tells_skip A r1 8 0 71 c.g la ∙ tells-here 71 c.g r2 lg,
        tells_skip A r1 8 8 68 c.d la ∙ tells_skip B r2 8 0 68 c.d lb ∙ tells-here 68 c.d r3 ld,
        tells_skip A r1 8 16 80 c.p la ∙ tells_skip B r2 8 8 80 c.p lb ∙ tells_skip C r3 8 0 80 c.p lc ∙ tells-here 80 c.p r4 lp,
        columns_skip A r1 8 32 72 la (omega arith) ∙ columns_skip B r2 8 24 64 lb (omega arith) ∙ columns_skip C r3 8 16 56 lc (omega arith) ∙ columns_skip D r4 8 8 48 le (omega arith)
            ∙ columns-part (replicate 40 32) r 40 refl,
        blank-replicate 40,
      )

  totals_body : Body (totals_of c)
  unfolding totals_of
  totals_body = record {
    wide = simp length-append (omega (arith, length-zeros c.s (omega arith), length-zeros c.g (omega arith), length-zeros c.d (omega arith), length-zeros c.p (omega arith)));
    good = print_both A _ (lettered 83 c.s (omega arith) (omega arith)) (print_both B _ (lettered 71 c.g (omega arith) (omega arith))
        (print_both C _ (lettered 68 c.d (omega arith) (omega arith)) (print_both D (replicate 40 32) (lettered 80 c.p (omega arith) (omega arith)) (print_replicate 40 32 (omega arith) (omega arith)))));
  }
    where
      lettered : (b n : ℕ) → 32 ≤ b → b ≤ 126 → printable (b ∷ zeros n) ≡ true
      lettered b n lo hi = print_cons b (zeros n) lo hi (print_zeros n)

  totals-line : totals c (line_of (totals_of c) 84 1) ≡ true
  unfolding line_of totals_of
  totals-line = simp append_assoc (totals-here _)

-- ---- the lines of a text that is put together

length-joined : {ls : List (List ℕ)} → Whole ls → length (joined ls) ≡ 81 * length ls
unfolding joined
length-joined none = refl
length-joined (one {x} {xs} p ps) = rw (length-append x (joined xs)) (omega (arith, length-joined ps))

lines_after : {ls : List (List ℕ)} → Whole ls → (p : List ℕ) (k : ℕ) → length p ≡ 81 * k → lines_from (p ++ joined ls) k (length ls) ≡ ls
unfolding joined lines_from line_at
lines_after none p k e = refl
lines_after (one {x} {xs} h hs) p k e =
    let a : 81 * k - 81 * k ≡ 0 = omega arith in
    let b : 81 * k + 81 - 81 * k ≡ 81 = omega arith in
    let l : columns (p ++ (x ++ joined xs)) (81 * k) (81 * k + 81) ≡ x = columns_skip p (x ++ joined xs) (81 * k) (81 * k) (81 * k + 81) e (omega arith) ∙ (rw (a, b) (columns-part x (joined xs) 81 h)) in
    ap₂ (λ (a : List ℕ) (b : List (List ℕ)). a ∷ b) l
    (ap (λ (s : List ℕ). lines_from s (k + 1) (length xs)) (sym (append_assoc p x (joined xs))) ∙ lines_after hs (p ++ x) (k + 1) (length-append p x ∙ omega arith))

pub lines-joined : {ls : List (List ℕ)} → Whole ls → lines_of (joined ls) ≡ ls
unfolding lines_of
lines-joined {ls} h =
    let e : length (joined ls) / 81 ≡ length ls = omega (arith, length-joined h) in
    rw e (lines_after h [] 0 refl)

pub line-joined : {ls : List (List ℕ)} → Whole ls → (k : ℕ) → k < length ls → line_at (joined ls) k ≡ get_or ls k []
line-joined {ls} h k l = (rw zero-add at (sym (line-among (joined ls) (length ls) 0 k l))) ∙ ap (λ (x : List (List ℕ)). get_or x k []) (lines_after h [] 0 refl)

-- ---- the whole file

section-here : (b : ℕ) (xs rest : List (List ℕ)) (i : ℕ) → i < length xs → get_or (section b 1 xs ++ rest) i [] ≡ line_of (get_or xs i []) b (i + 1)
section-here b xs rest i h = get_or-append (section b 1 xs) rest [] i (omega (arith, length-section b 1 xs)) ∙ section-line b 1 xs i h ∙ ap (λ (m : ℕ). line_of (get_or xs i []) b m) (omega arith)

section-past : (b : ℕ) (xs rest : List (List ℕ)) (i : ℕ) → get_or (section b 1 xs ++ rest) (length xs + i) [] ≡ get_or rest i []
section-past b xs rest i = rw (← length-section b 1 xs) (get_or-append-add (section b 1 xs) rest i [])

module _ (S G D P : List (List ℕ)) (bs : Bodies S) (bg : Bodies G) (bd : Bodies D) (bp : Bodies P) (few : total (counts_of S G D P) ≤ most_lines) where
  abbrev F : List ℕ
  F = file_of S G D P

  abbrev s : ℕ
  s = length S

  abbrev g : ℕ
  g = length G

  abbrev d : ℕ
  d = length D

  abbrev p : ℕ
  p = length P

  abbrev T : List ℕ
  T = line_of (totals_of (counts_of S G D P)) 84 1

  body_t : Body (totals_of (counts_of S G D P))
  body_t = totals_body (counts_of S G D P) few

  whole_file : Whole (file_lines S G D P)
  unfolding file_lines
  whole_file = all_append (whole_section 83 1 bs (omega arith)) (all_append (whole_section 71 1 bg (omega arith)) (all_append (whole_section 68 1 bd (omega arith)) (all_append (whole_section 80 1 bp (omega arith))
      (one (length-line (totals_of (counts_of S G D P)) 84 1 body_t (omega arith)) none))))

  length-file : length (file_lines S G D P) ≡ total (counts_of S G D P)
  unfolding file_lines
  length-file = simp (length-append, length-section) (omega arith)

  pub file-lines : lines_of F ≡ file_lines S G D P
  unfolding file_of
  file-lines = lines-joined whole_file

  line-of : (k j : ℕ) → k ≡ j → k < total (counts_of S G D P) → line_at F k ≡ get_or (file_lines S G D P) j []
  unfolding file_of
  line-of k j e h = line-joined whole_file k (omega (arith, length-file)) ∙ ap (λ (m : ℕ). get_or (file_lines S G D P) m []) e

  pub s-line : (i : ℕ) → i < s → line_at F i ≡ line_of (get_or S i []) 83 (i + 1)
  unfolding file_lines
  s-line i h = line-of i i refl (omega arith) ∙ section-here 83 S _ i h

  pub g-line : (i : ℕ) → i < g → line_at F (s + i) ≡ line_of (get_or G i []) 71 (i + 1)
  unfolding file_lines
  g-line i h = line-of (s + i) (s + i) refl (omega arith) ∙ section-past 83 S _ i ∙ section-here 71 G _ i h

  pub d-line : (i : ℕ) → i < d → line_at F (s + g + i) ≡ line_of (get_or D i []) 68 (i + 1)
  unfolding file_lines
  d-line i h = line-of (s + g + i) (s + (g + i)) (omega arith) (omega arith) ∙ section-past 83 S _ (g + i) ∙ section-past 71 G _ i ∙ section-here 68 D _ i h

  pub p-line : (i : ℕ) → i < p → line_at F (s + g + d + i) ≡ line_of (get_or P i []) 80 (i + 1)
  unfolding file_lines
  p-line i h = line-of (s + g + d + i) (s + (g + (d + i))) (omega arith) (omega arith) ∙ section-past 83 S _ (g + (d + i)) ∙ section-past 71 G _ (d + i) ∙ section-past 68 D _ i ∙ section-here 80 P _ i h

  pub t-line : line_at F (s + g + d + p) ≡ T
  unfolding file_lines
  t-line = line-of (s + g + d + p) (s + (g + (d + (p + 0)))) (omega arith) (omega arith) ∙ section-past 83 S _ (g + (d + (p + 0))) ∙ section-past 71 G _ (d + (p + 0)) ∙ section-past 68 D _ (p + 0) ∙ section-past 80 P _ 0

  -- the columns of each section's lines are those that were given
  module _ (i a e : ℕ) (order : a ≤ e) (inside : e ≤ 72) where
    pub s-columns : i < s → columns (line_at F i) a e ≡ columns (get_or S i []) a e
    s-columns h = rw (s-line i h) (line_body (get_or S i []) 83 (i + 1) (body_of bs i h) (omega arith) a e order inside)

    pub g-columns : i < g → columns (line_at F (s + i)) a e ≡ columns (get_or G i []) a e
    g-columns h = rw (g-line i h) (line_body (get_or G i []) 71 (i + 1) (body_of bg i h) (omega arith) a e order inside)

    pub p-columns : i < p → columns (line_at F (s + g + d + i)) a e ≡ columns (get_or P i []) a e
    p-columns h = rw (p-line i h) (line_body (get_or P i []) 80 (i + 1) (body_of bp i h) (omega arith) a e order inside)

  pub round : 1 ≤ s → 1 ≤ g → d % 2 ≡ 0 → cards_of F ≡ Ok (counts_of S G D P)
  unfolding file_of
  round hs hg even = accepted F s g d p (record {
    size = length-joined whole_file ∙ ap (λ (n : ℕ). 81 * n) length-file;
    most = few;
    has_s = hs;
    has_g = hg;
    even = even;
    s-lines = λ i h. rw (zero-add i, s-line i h) (line-written (get_or S i []) 83 (i + 1) (body_of bs i h) (omega arith) (omega arith) (omega arith));
    g-lines = λ i h. rw (g-line i h) (line-written (get_or G i []) 71 (i + 1) (body_of bg i h) (omega arith) (omega arith) (omega arith));
    d-lines = λ i h. rw (d-line i h) (line-written (get_or D i []) 68 (i + 1) (body_of bd i h) (omega arith) (omega arith) (omega arith));
    p-lines = λ i h. rw (p-line i h) (line-written (get_or P i []) 80 (i + 1) (body_of bp i h) (omega arith) (omega arith) (omega arith));
    t-line = rw t-line (line-written (totals_of (counts_of S G D P)) 84 1 body_t (omega arith) (omega arith) (omega arith));
    t-totals = rw t-line (totals-line (counts_of S G D P) few);
  })
