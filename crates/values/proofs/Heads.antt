-- What the head of a line is, from the digits that were scanned and the number that was read. Assumes nothing.
use mathlib.Core.Path.{◌≡◌, refl, sym, ap, ◌∙◌}
use mathlib.Core.Bool.{Bool, true, false, cond, ◌&&◌, and-false}
use mathlib.Core.List.{List}
use Prim.Native.Nat.{ℕ, ◌+◌, ◌^◌, ◌≤◌, ◌<◌, min}
use native.Mathlib.Nat.{zero-add}
use native.Mathlib.Omega.{arith}
use lib.ListN.{length, get_or}
use lib.Dec.{leb, eqb}
use borrow.Author.Tests.{eqb-true, leb-true, eq-eqb, ne_eqb, le-leb, lt-leb}
use Rattle.values.specs.declared.Token.{Token}
use Rattle.values.specs.declared.Run.{Run}
use Rattle.values.specs.declared.Head.{Head}
use Rattle.values.specs.declared.Head.TheVariants.{Count, Plain}
use Rattle.values.specs.Number.{digits, number_of}
use Rattle.values.specs.Head.{head_from, head_of}
use Rattle.values.specs.Reading.{start, scan, cap_run, Within}
use Rattle.values.proofs.Laws.{three, bound, scan-count, scan-value}
use Rattle.values.proofs.Ends.{inside, ends}

-- whether n digits that spell v, and x behind them, are a count
module _ (x n v : ℕ) where
  pub not-x : (x ≡ 72 → ⊥) → false ≡ (eqb x 72 && (leb n 3 && leb 1 v))
  not-x h = simp (ne_eqb x 72 h)

  pub not-n : x ≡ 72 → 3 < n → false ≡ (eqb x 72 && (leb n 3 && leb 1 v))
  not-n h l = simp (eq-eqb x 72 h, lt-leb n 3 l)

  pub by_v : x ≡ 72 → n ≤ 3 → leb 1 v ≡ (eqb x 72 && (leb n 3 && leb 1 v))
  by_v h l = simp (eq-eqb x 72 h, le-leb n 3 l)

-- a count is too short for the cap to be felt
head_cap : (x n v : ℕ) (k : Token) → v < 10 ^ n → head_from x n (min v (10 ^ 17)) k ≡ head_from x n v k
head_cap x n v k h = pick (leb n 3) refl
  where
    pick : (b : Bool) → leb n 3 ≡ b → head_from x n (min v (10 ^ 17)) k ≡ head_from x n v k
    pick true e = let q : min v (10 ^ 17) ≡ v = omega (arith, three v n h (leb-true n 3 e)) in simp q
    pick false e = simp (e, and-false)

head_in : (x n v m : ℕ) (k : Token) → v < 10 ^ n → (x ≡ 72 → n < m) → k.len ≤ m → Within m (head_from x n v k)
head_in x n v m k h i l = pick (eqb x 72) (leb n 3) (leb 1 v) refl refl
  where
    pick : (a b c : Bool) → eqb x 72 ≡ a → leb n 3 ≡ b → Within m (cond (a && (b && c)) (Count v (n + 1)) (Plain k))
    pick true true true e f = (omega (arith, three v n h (leb-true n 3 f)), omega (arith, i (eqb-true x 72 e)))
    pick true true false e f = l
    pick true false c e f = l
    pick false b c e f = l

module _ (l : List ℕ) (r : Run) (x : ℕ) (k : Token) {h : Head} where
  head-parts : h ≡ head_from x r.count r.value k → k ≡ number_of l → x ≡ get_or l r.count 0 → r ≡ cap_run (scan l start) → (h ≡ head_of l) × Within (length l) h
  unfolding head_of
  head-parts eh ek ex er =
      let R = scan l start in
      let b = bound l start (omega arith) in
      let n : R.count ≡ length (digits l) = scan-count l start ∙ zero-add _ in
      let c : r.count ≡ R.count = ap (λ (q : Run). q.count) er in
      let v : r.value ≡ min R.value (10 ^ 17) = ap (λ (q : Run). q.value) er in
      let g : h ≡ head_from x R.count R.value k = eh ∙ rw (c, v) (head_cap x R.count R.value k b) in (
        g ∙ rw (ek, ex, c, n, scan-value l start),
        rw g (head_in x R.count R.value (length l) k b (λ e. inside l R.count (rw (← c, ← ex, e) (omega arith))) (rw ek (ends l).0)),
      )

module _ (l : List ℕ) (r : Run) (x : ℕ) {b : Bool} where
  is-count : b ≡ (eqb x 72 && (leb r.count 3 && leb 1 r.value)) → b ≡ true → Count r.value (r.count + 1) ≡ head_from x r.count r.value (number_of l)
  is-count eb e = simp (sym eb ∙ e)

  count-parts : b ≡ (eqb x 72 && (leb r.count 3 && leb 1 r.value)) → b ≡ true → x ≡ get_or l r.count 0 → r ≡ cap_run (scan l start)
      → (Count r.value (r.count + 1) ≡ head_of l) × Within (length l) (Count r.value (r.count + 1))
  count-parts eb e ex er = head-parts l r x (number_of l) (is-count eb e) refl ex er

  pub head-count : b ≡ (eqb x 72 && (leb r.count 3 && leb 1 r.value)) → b ≡ true → x ≡ get_or l r.count 0 → r ≡ cap_run (scan l start) → Count r.value (r.count + 1) ≡ head_of l
  head-count eb e ex er = (count-parts eb e ex er).0

  pub head_few : b ≡ (eqb x 72 && (leb r.count 3 && leb 1 r.value)) → b ≡ true → x ≡ get_or l r.count 0 → r ≡ cap_run (scan l start) → r.value ≤ 999
  head_few eb e ex er = (count-parts eb e ex er).1.0

  pub head_in_line : b ≡ (eqb x 72 && (leb r.count 3 && leb 1 r.value)) → b ≡ true → x ≡ get_or l r.count 0 → r ≡ cap_run (scan l start) → r.count + 1 ≤ length l
  head_in_line eb e ex er = (count-parts eb e ex er).1.1

  pub head_plain : {k : Token} → b ≡ (eqb x 72 && (leb r.count 3 && leb 1 r.value)) → b ≡ false → x ≡ get_or l r.count 0 → r ≡ cap_run (scan l start) → k ≡ number_of l → Plain k ≡ head_of l
  head_plain {k} eb e ex er ek = let q : Plain k ≡ head_from x r.count r.value k = simp (sym eb ∙ e) in (head-parts l r x k q ek ex er).0

pub ruleset heads = (not-x, not-n, by_v, head-count, head_few, head_in_line, head_plain)

-- what callers know of a head by its case
pub count_few : (m : ℕ) {h : Head} {count len : ℕ} → h ≡ Count count len → Within m h → count ≤ 999
count_few m e v = (rw e at v).0

pub count_in_lem : {m : ℕ} {h : Head} {count len : ℕ} → h ≡ Count count len → Within m h → len ≤ m
count_in_lem e v = (rw e at v).1

pub plain_in : {m : ℕ} {h : Head} {k : Token} → h ≡ Plain k → Within m h → k.len ≤ m
plain_in e v = rw e at v

pub within_more : (m n : ℕ) (h : Head) → m ≤ n → Within m h → Within n h
within_more m n (Count count len) l w = (w.0, omega arith)
within_more m n (Plain k) l w = omega arith
