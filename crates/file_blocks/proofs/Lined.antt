-- The lines of which each is written whole, put together of their parts. Assumes nothing.
use mathlib.Core.Path.{◌≡◌, sym}
use mathlib.Core.List.{List, [], ◌∷◌, ◌++◌, append_assoc, append-nil}
use Prim.Native.Nat.{ℕ, ◌+◌, ◌≤◌}
use native.Mathlib.Omega.{arith}
use lib.ListN.{length, replicate}
use Rattle.columns.specs.Columns.{joined}
use Rattle.columns.specs.Decimal.{dec, to_right, to_left}
use Rattle.columns.specs.Laid.{Wrote}
use Rattle.columns.proofs.Decimals.{length_dec_le, length_right, length_left}
use Rattle.columns.proofs.Writes.{then, wrote_same, wrote_length}
use Rattle.directory.specs.declared.Fields.{Fields}
use Rattle.directory.specs.Lines.{entry_lines}
use Rattle.directory.specs.Reading.{first_line, second_line}
use Rattle.directory.proofs.Puts.{entry-lines}
use Rattle.cards.specs.declared.Counts.{Counts}
use Rattle.cards.specs.Written.{zeros, line_of, section, totals_of}
use Rattle.file_blocks.specs.Blocks.{tail_of}
use Rattle.file_blocks.specs.Writing.{owner_of}

-- ---- a letter and a number

module _ {o o1 o2 : List ℕ} {at a r b : ℕ} (n : ℕ) where
  pub count_of : Wrote o at (b ∷ []) o1 a → Wrote o1 a (to_right 48 7 (dec n)) o2 r → Wrote o at (b ∷ zeros n) o2 r
  unfolding zeros
  count_of p q = then p q

  pub tail_of_lem : Wrote o at (b ∷ zeros n) o1 a → Wrote o1 a (10 ∷ []) o2 r → Wrote o at (tail_of b n) o2 r
  unfolding tail_of
  tail_of_lem p q = then p q

pub count_next : {o o1 : List ℕ} {a r : ℕ} (at n : ℕ) → Wrote o a (to_right 48 7 (dec n)) o1 r → a ≡ at + 1 → n ≤ 9999999 → r ≡ at + 8
count_next at n q e h = omega (arith, q.next, length_right 48 7 (dec n) (length_dec_le 6 n (omega arith)))

pub ruleset counted = (count_of, count_next, tail_of_lem, wrote_length)

-- ---- a line of 72 columns

-- its columns and its tail
pub line-of : (x : List ℕ) (b n : ℕ) → x ++ tail_of b n ≡ line_of x b n
unfolding line_of tail_of
line-of x b n = sym (append_assoc x (b ∷ zeros n) (10 ∷ []))

pub line_wrote : {o o1 o2 : List ℕ} {at a r : ℕ} (x : List ℕ) (b n : ℕ) → Wrote o at x o1 a → Wrote o1 a (tail_of b n) o2 r → Wrote o at (line_of x b n) o2 r
line_wrote x b n p q = wrote_same (then p q) (line-of x b n)

pub start-next : {o o1 : List ℕ} {at a r : ℕ} (t : List ℕ) → Wrote o at (to_left 72 t) o1 a → length t ≤ 72 → r ≡ a + 9 → r ≡ at + 81
start-next t p h e = omega (arith, p.next, length_left 72 t h)

pub ruleset starting = (line_wrote, start-next, wrote_length)

-- ---- the two D lines

pub entry_wrote : {o o1 o2 o3 o4 : List ℕ} {at a c d r : ℕ} (x : Fields) (from count : ℕ) (name : List ℕ) (n : ℕ) → Wrote o at (first_line x from) o1 a → Wrote o1 a (tail_of 68 n) o2 c
    → Wrote o2 c (second_line x count name) o3 d → Wrote o3 d (tail_of 68 (n + 1)) o4 r → Wrote o at (joined (section 68 n (entry_lines x from count name))) o4 r
unfolding joined section
entry_wrote x from count name n p1 p2 p3 p4 =
    let q1 = line_wrote (first_line x from) 68 n p1 p2 in
    let q2 = line_wrote (second_line x count name) 68 (n + 1) p3 p4 in
    rw (entry-lines x from count name, append-nil (line_of (second_line x count name) 68 (n + 1))) (then q1 q2)

pub entry_next : (at a b c r : ℕ) → a ≤ at + 252 → b ≡ a + 9 → c ≤ b + 252 → r ≡ c + 9 → r ≤ at + 522
entry_next at a b c r h e i f = omega arith

pub ruleset entering = (entry_wrote, entry_next, wrote_length)

-- ---- T

module _ {o o1 o2 o3 o4 : List ℕ} {at e f g r : ℕ} (c : Counts) {s g' d p : ℕ} (es : s ≡ c.s) (eg : g' ≡ c.g) (ed : d ≡ c.d) (ep : p ≡ c.p) where
  pub totals-of : Wrote o at (83 ∷ zeros s) o1 e → Wrote o1 e (71 ∷ zeros g') o2 f → Wrote o2 f (68 ∷ zeros d) o3 g → Wrote o3 g (80 ∷ zeros p) o4 r
      → Wrote o at ((83 ∷ zeros c.s) ++ ((71 ∷ zeros c.g) ++ ((68 ∷ zeros c.d) ++ (80 ∷ zeros c.p)))) o4 r
  totals-of p1 p2 p3 p4 = rw (← es, ← eg, ← ed, ← ep) (then p1 (then p2 (then p3 p4)))

pub ruleset totalling = (totals-of, wrote_length)

pub last_wrote : {o o1 o2 o3 : List ℕ} {at a b r : ℕ} (c : Counts)
    → Wrote o at ((83 ∷ zeros c.s) ++ ((71 ∷ zeros c.g) ++ ((68 ∷ zeros c.d) ++ (80 ∷ zeros c.p)))) o1 a → Wrote o1 a (replicate 40 32) o2 b → Wrote o2 b (tail_of 84 1) o3 r
    → Wrote o at (line_of (totals_of c) 84 1) o3 r
unfolding totals_of
last_wrote c p1 p2 p3 = line_wrote (totals_of c) 84 1 (wrote_same (then p1 p2) (parts (83 ∷ zeros c.s) (71 ∷ zeros c.g) (68 ∷ zeros c.d) (80 ∷ zeros c.p) (replicate 40 32))) p3
  where
    parts : (a b c d e : List ℕ) → (a ++ (b ++ (c ++ d))) ++ e ≡ a ++ (b ++ (c ++ (d ++ e)))
    parts a b c d e = rw (append_assoc a (b ++ (c ++ d)) e, append_assoc b (c ++ d) e, append_assoc c d e)

pub ruleset lasting = (last_wrote, wrote_length)

-- ---- column 65 to LF of a P line

pub owned-of : {o o1 o2 o3 : List ℕ} {at a b r : ℕ} (number n : ℕ) → Wrote o at (32 ∷ []) o1 a → Wrote o1 a (to_right 32 7 (dec number)) o2 b → Wrote o2 b (tail_of 80 n) o3 r
    → Wrote o at (owner_of number ++ tail_of 80 n) o3 r
owned-of number n p1 p2 p3 = then (then p1 p2) p3

pub owned-next : {o o1 : List ℕ} {a b r : ℕ} (at number : ℕ) → Wrote o a (to_right 32 7 (dec number)) o1 b → a ≡ at + 1 → number ≤ 9999999 → r ≡ b + 9 → r ≡ at + 17
owned-next at number q e h k = omega (arith, q.next, length_right 32 7 (dec number) (length_dec_le 6 number (omega arith)))

pub ruleset owning = (owned-of, owned-next, wrote_length)
