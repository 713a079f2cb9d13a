-- The check of ownership passes exactly if the rules hold.
use mathlib.Core.Path.{◌≡◌, refl}
use mathlib.Core.Bool.{Bool, true, false, ◌&&◌}
use Prim.Native.Nat.{ℕ, ◌+◌, ◌*◌, ◌/◌, ◌%◌, ◌≤◌, ◌<◌}
use native.Mathlib.Omega.{arith}
use lib.Dec.{leb, ltb, eqb}
use borrow.Author.Tests.{le-leb, lt-leb, lt-ltb, le-ltb, eq-eqb, leb-true, ltb-true, eqb-true, leb-false, ltb-false}
use Rattle.columns.specs.First.{first_not}
use Rattle.columns.proofs.Tests.{both}
use Rattle.columns.proofs.First.{none_fails, all_pass}
use Rattle.owners.specs.declared.Owned.{Owned}
use Rattle.owners.specs.declared.Owned.TheVariants.{Everyone, Entry, Line}
use Rattle.owners.specs.Owners.{name_is, entry_owns, in_range, line_owned, owners_of, verdict}
use Rattle.owners.specs.Rules.{Named, Owns}

-- ---- passed exactly if the rules hold

module _ (owner from count : ℕ → ℕ) (n p : ℕ) where
  -- the verdict that all is well, taken apart
  passes : (i k : ℕ) → verdict n p i k ≡ Everyone → (n ≤ i) × (p < k)
  passes i k e = pick (ltb i n) refl (leb k p) refl
    where
      pick : (a : Bool) → ltb i n ≡ a → (b : Bool) → leb k p ≡ b → (n ≤ i) × (p < k)
      pick true x b y = let z : ◌≡◌ {A = Owned} (Entry (record { 0 = 2 * i + 1 })) Everyone = rw x at e in let w : ◌≡◌ {A = ℕ} 0 1 = cc in absurd (omega arith)
      pick false x true y = let z : ◌≡◌ {A = Owned} (Line (record { 0 = k })) Everyone = rw (x, y) at e in let w : ◌≡◌ {A = ℕ} 0 1 = cc in absurd (omega arith)
      pick false x false y = (ltb-false _ _ x, leb-false _ _ y)

  -- an entry that passes
  entry_in_lem : (i : ℕ) → entry_owns owner from count p i ≡ true → (1 ≤ from i) × (from i + count i ≤ p + 1) × ((k : ℕ) → from i ≤ k → k < from i + count i → owner k ≡ 2 * i + 1)
  unfolding entry_owns name_is
  entry_in_lem i e =
      let end : ℕ = first_not (name_is owner (2 * i + 1)) (from i) (count i) in
      let a : (leb 1 (from i) ≡ true) × (leb (from i + count i) (p + 1) && eqb end (from i + count i) ≡ true) = both (leb 1 (from i)) (leb (from i + count i) (p + 1) && eqb end (from i + count i)) e in
      let b : (leb (from i + count i) (p + 1) ≡ true) × (eqb end (from i + count i) ≡ true) = both (leb (from i + count i) (p + 1)) (eqb end (from i + count i)) a.1 in (
        leb-true _ _ a.0,
        leb-true _ _ b.0,
        λ k lo hi. eqb-true (owner k) (2 * i + 1) (none_fails (name_is owner (2 * i + 1)) (count i) (from i) (omega (arith, eqb-true end (from i + count i) b.1)) k lo hi),
      )

  -- a line that passes
  line_in_lem : (k : ℕ) → line_owned owner from count n k ≡ true → Named owner from count n k
  unfolding line_owned in_range
  line_in_lem k e =
      let (m, i) : ℕ × ℕ = (owner k, owner k / 2) in
      let a : (eqb (m % 2) 1 ≡ true) × (ltb i n && (leb (from i) k && ltb k (from i + count i)) ≡ true) = both (eqb (m % 2) 1) (ltb i n && (leb (from i) k && ltb k (from i + count i))) e in
      let b : (ltb i n ≡ true) × (leb (from i) k && ltb k (from i + count i) ≡ true) = both (ltb i n) (leb (from i) k && ltb k (from i + count i)) a.1 in
      let c : (leb (from i) k ≡ true) × (ltb k (from i + count i) ≡ true) = both (leb (from i) k) (ltb k (from i + count i)) b.1 in
      record {
        entry = i;
        name = omega (arith, eqb-true (m % 2) 1 a.0);
        has = record { is = ltb-true _ _ b.0; after = leb-true _ _ c.0; before = ltb-true _ _ c.1 };
      }

  pub sound : owners_of owner from count n p ≡ Everyone → Owns owner from count n p
  unfolding owners_of
  sound e =
      let (a, b) : (n ≤ first_not (entry_owns owner from count p) 0 n) × (p < first_not (line_owned owner from count n) 1 p) = passes _ _ e in
      let owns : (i : ℕ) → i < n → entry_owns owner from count p i ≡ true = λ i h. none_fails (entry_owns owner from count p) n 0 (omega arith) i (omega arith) (omega arith) in
      record {
        starts = λ i h. (entry_in_lem i (owns i h)).0;
        stays = λ i h. (entry_in_lem i (owns i h)).1;
        names = λ i k h. (entry_in_lem i (owns i h.is)).2 k h.after h.before;
        lines = λ k lo hi. line_in_lem k (none_fails (line_owned owner from count n) p 1 (omega arith) k lo (omega arith));
      }

  module _ (o : Owns owner from count n p) where
    entry_owns_lem : (j : ℕ) → j < n → entry_owns owner from count p j ≡ true
    unfolding entry_owns name_is
    entry_owns_lem j h = rw (le-leb _ _ (o.starts j h), le-leb _ _ (o.stays j h))
        (eq-eqb _ _ (all_pass (name_is owner (2 * j + 1)) (count j) (from j) (λ k a b. eq-eqb _ _ (o.names j k (record { is = h; after = a; before = b })))))

    line-owned : (k : ℕ) → 1 ≤ k → k < 1 + p → line_owned owner from count n k ≡ true
    unfolding line_owned in_range
    line-owned k lo hi =
        let h : Named owner from count n k = o.lines k lo (omega arith) in
        let i : ℕ = h.entry in
        let q : (2 * i + 1) / 2 ≡ i = omega arith in
        let m : (2 * i + 1) % 2 ≡ 1 = omega arith in
        rw (h.name, q, m, lt-ltb _ _ h.has.is, le-leb _ _ h.has.after, lt-ltb _ _ h.has.before)

    pub complete : owners_of owner from count n p ≡ Everyone
    unfolding owners_of
    complete = rw (
      all_pass (entry_owns owner from count p) n 0 (λ j lo hi. entry_owns_lem j (omega arith)),
      all_pass (line_owned owner from count n) p 1 line-owned,
      le-ltb (0 + n) n (omega arith),
      lt-leb (1 + p) p (omega arith),
    )
