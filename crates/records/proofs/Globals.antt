-- The Global opening and its fields: a law for each case of what is asked; `delimits`, what any opening that is accepted names; and a field sees
-- no string. Assumes nothing.
use mathlib.Core.Path.{◌≡◌, refl, sym, ◌∙◌}
use mathlib.Core.Bool.{Bool, true, false, cond, not, ◌&&◌, ◌||◌}
use mathlib.Core.List.{List}
use Prim.Native.Nat.{ℕ, ◌+◌, ◌≤◌, ◌<◌}
use native.Mathlib.Omega.{arith}
use lib.ListN.{get_or}
use lib.Dec.{leb, ltb, eqb}
use Rattle.std.specs.Prelude.{Option, Some, None}
use borrow.Author.Tests.{eqb-false, leb-true, ltb-true, ltb-false, eq-eqb, ne_eqb, le-leb, lt-leb, not-true, not-false}
use Rattle.columns.proofs.Tests.{both_left}
use Rattle.values.specs.declared.Value.{Value}
use Rattle.values.specs.declared.Value.TheVariants.{Default, Whole, Real, Text}
use Rattle.values.specs.Value.{item_of, seen}
use Rattle.values.specs.Number.{is_digit, joins}
use Rattle.records.specs.declared.Opening.{Opening}
use Rattle.records.specs.declared.GlobalKind.{GlobalKind}
use Rattle.records.specs.declared.GlobalKind.TheVariants.{String, Real as RealKind, Integer}
use Rattle.records.specs.Global.{may_delimit, opens, opened, one_h, record_delimiter, opening_of, within, kind_of, up_to, in_range, is_kind, global_fits}
use Rattle.records.specs.Reading.{Delimits, sets_apart}

-- ---- delimiters

module _ (x : ℕ) where
  pub apart_blank : x < 33 → false ≡ sets_apart x
  apart_blank h = simp (lt-leb 33 x h)

  pub apart_low : 33 ≤ x → x < 48 → true ≡ sets_apart x
  apart_low h k = simp (le-leb 33 x h, lt-leb 48 x k)

  pub apart_high : 48 ≤ x → ltb 57 x ≡ sets_apart x
  apart_high h = simp (le-leb 33 x (omega arith), le-leb 48 x h) (pick (ltb 57 x) refl)
    where
      pick : (b : Bool) → ltb 57 x ≡ b → b ≡ not (leb x 57)
      pick true e = simp (lt-leb x 57 (ltb-true 57 x e))
      pick false e = simp (le-leb x 57 (ltb-false 57 x e))

  pub may_others : {r : Bool} → (x ≡ 43 → ⊥) → (x ≡ 45 → ⊥) → (x ≡ 46 → ⊥) → (x ≡ 68 → ⊥) → (x ≡ 69 → ⊥) → (x ≡ 72 → ⊥) → r ≡ sets_apart x → r ≡ may_delimit x
  unfolding may_delimit
  may_others a b c d e f er =
      er ∙ simp (ne_eqb x 43 a, ne_eqb x 45 b, ne_eqb x 46 c, ne_eqb x 68 d, ne_eqb x 69 e, ne_eqb x 72 f) (pick (is_digit x))
    where
      pick : (b : Bool) → leb 33 x && not b ≡ leb 33 x && not (b || false)
      pick true = refl
      pick false = refl

-- a delimiter is no blank
may_above : (x : ℕ) → may_delimit x ≡ true → 32 < x
unfolding may_delimit
may_above x e = omega (arith, leb-true 33 x (both_left (leb 33 x) (not (joins x)) e))

-- ---- the opening

module _ (c d next : ℕ) (last : Bool) where
  module _ {a : Bool} (ea : a ≡ may_delimit c) where
    pub opened-c : a ≡ false → None ≡ opened c d next last
    unfolding opened
    opened-c e = simp (sym ea ∙ e)

    module _ (e : a ≡ true) {b : Bool} (eb : b ≡ may_delimit d) where
      pub opened-d : b ≡ false → None ≡ opened c d next last
      unfolding opened
      opened-d f = simp (sym ea ∙ e, sym eb ∙ f)

      pub opened_same : b ≡ true → c ≡ d → None ≡ opened c d next last
      unfolding opened
      opened_same f g = simp (sym ea ∙ e, sym eb ∙ f, eq-eqb c d g)

      pub opened_both : b ≡ true → (c ≡ d → ⊥) → opens c d next last ≡ opened c d next last
      unfolding opened
      opened_both f g = simp (sym ea ∙ e, sym eb ∙ f, ne_eqb c d g)

pub ruleset marks = (apart_blank, apart_low, apart_high, may_others, opened-c, opened-d, opened_same, opened_both, not-true, not-false)

module _ (c p : ℕ) (t : List ℕ) {x : ℕ} (ex : x ≡ get_or t p 0) where
  pub record_part : {r : Option Opening} → x ≡ c → r ≡ opened c 59 (p + 1) false → r ≡ record_delimiter c t p
  unfolding record_delimiter
  record_part e er = rw (er, ← ex) (simp (eq-eqb x c e))

  module _ (n : x ≡ c → ⊥) where
    pub record_end : {r : Option Opening} → x ≡ 59 → r ≡ opened c 59 (p + 1) true → r ≡ record_delimiter c t p
    unfolding record_delimiter
    record_end e er = rw (er, ← ex) (simp (ne_eqb x c n, eq-eqb x 59 e))

    module _ (m : x ≡ 59 → ⊥) where
      pub record_one : (x ≡ 49 → ⊥) → None ≡ record_delimiter c t p
      unfolding record_delimiter
      record_one k = rw (← ex) (simp (ne_eqb x c n, ne_eqb x 59 m, ne_eqb x 49 k))

      module _ (k : x ≡ 49) {h : ℕ} (eh : h ≡ get_or t (p + 1) 0) where
        pub record_h : (h ≡ 72 → ⊥) → None ≡ record_delimiter c t p
        unfolding record_delimiter
        record_h l = rw (← ex, ← eh) (simp (ne_eqb x c n, ne_eqb x 59 m, eq-eqb x 49 k, ne_eqb h 72 l))

        module _ (l : h ≡ 72) {d y : ℕ} (ed : d ≡ get_or t (p + 2) 0) (ey : y ≡ get_or t (p + 3) 0) where
          pub named-part : {r : Option Opening} → y ≡ c → r ≡ opened c d (p + 4) false → r ≡ record_delimiter c t p
          unfolding record_delimiter
          named-part e er = rw (er, ← ex, ← eh, ← ed, ← ey) (simp (ne_eqb x c n, ne_eqb x 59 m, eq-eqb x 49 k, eq-eqb h 72 l, eq-eqb y c e))

          pub named_end : {r : Option Opening} → (y ≡ c → ⊥) → y ≡ d → r ≡ opened c d (p + 4) true → r ≡ record_delimiter c t p
          unfolding record_delimiter
          named_end o e er = rw (er, ← ex, ← eh, ← ed, ← ey) (simp (ne_eqb x c n, ne_eqb x 59 m, eq-eqb x 49 k, eq-eqb h 72 l, ne_eqb y c o, eq-eqb y d e))

          pub named-wrong : (y ≡ c → ⊥) → (y ≡ d → ⊥) → None ≡ record_delimiter c t p
          unfolding record_delimiter
          named-wrong o e = rw (← ex, ← eh, ← ed, ← ey) (simp (ne_eqb x c n, ne_eqb x 59 m, eq-eqb x 49 k, eq-eqb h 72 l, ne_eqb y c o, ne_eqb y d e))

module _ (t : List ℕ) {x : ℕ} (ex : x ≡ get_or t 0 0) where
  pub opening-comma : {r : Option Opening} → x ≡ 44 → r ≡ record_delimiter 44 t 1 → r ≡ opening_of t
  unfolding opening_of
  opening-comma e er = rw (er, ← ex) (simp (eq-eqb x 44 e))

  module _ (n : x ≡ 44 → ⊥) where
    pub opening-one : (x ≡ 49 → ⊥) → None ≡ opening_of t
    unfolding opening_of
    opening-one k = rw (← ex) (simp (ne_eqb x 44 n, ne_eqb x 49 k))

    module _ (k : x ≡ 49) {h : ℕ} (eh : h ≡ get_or t 1 0) where
      pub opening_h : (h ≡ 72 → ⊥) → None ≡ opening_of t
      unfolding opening_of
      opening_h l = rw (← ex, ← eh) (simp (ne_eqb x 44 n, eq-eqb x 49 k, ne_eqb h 72 l))

      module _ (l : h ≡ 72) {c y : ℕ} (ec : c ≡ get_or t 2 0) (ey : y ≡ get_or t 3 0) where
        pub opening_twice : (y ≡ c → ⊥) → None ≡ opening_of t
        unfolding opening_of
        opening_twice o = rw (← ex, ← eh, ← ec, ← ey) (simp (ne_eqb x 44 n, eq-eqb x 49 k, eq-eqb h 72 l, ne_eqb y c o))

        pub opening-named : {r : Option Opening} → y ≡ c → r ≡ record_delimiter c t 4 → r ≡ opening_of t
        unfolding opening_of
        opening-named o er = rw (er, ← ex, ← eh, ← ec, ← ey) (simp (ne_eqb x 44 n, eq-eqb x 49 k, eq-eqb h 72 l, eq-eqb y c o))

-- ---- what an opening names

opened_delimits : (m c d next : ℕ) (last : Bool) → next ≤ m → Delimits m (opened c d next last)
unfolding opened
opened_delimits m c d next last h = pick (may_delimit c) (may_delimit d) (eqb c d) refl refl refl
  where
    pick : (a b e : Bool) → may_delimit c ≡ a → may_delimit d ≡ b → eqb c d ≡ e → Delimits m (cond (a && (b && not e)) (opens c d next last) None)
    pick true true true f g k = tt
    pick true true false f g k = (may_above c f, may_above d g, eqb-false c d k, h)
    pick true false e f g k = tt
    pick false b e f g k = tt

record_delimits : (c p : ℕ) (t : List ℕ) → p ≤ 4 → Delimits 8 (record_delimiter c t p)
unfolding record_delimiter
record_delimits c p t h = pick (eqb (get_or t p 0) c) (eqb (get_or t p 0) 59) (one_h t p) (eqb (get_or t (p + 3) 0) c) (eqb (get_or t (p + 3) 0) (get_or t (p + 2) 0))
  where
    d : ℕ
    d = get_or t (p + 2) 0

    pick : (a b o e f : Bool) → Delimits 8 (cond a (opened c 59 (p + 1) false) (cond b (opened c 59 (p + 1) true) (cond o (cond e (opened c d (p + 4) false) (cond f (opened c d (p + 4) true) None)) None)))
    pick true b o e f = opened_delimits 8 c 59 (p + 1) false (omega arith)
    pick false true o e f = opened_delimits 8 c 59 (p + 1) true (omega arith)
    pick false false true true f = opened_delimits 8 c d (p + 4) false (omega arith)
    pick false false true false true = opened_delimits 8 c d (p + 4) true (omega arith)
    pick false false true false false = tt
    pick false false false e f = tt

pub delimits : (t : List ℕ) → Delimits 8 (opening_of t)
unfolding opening_of
delimits t = pick (eqb (get_or t 0 0) 44) (one_h t 0 && eqb (get_or t 3 0) (get_or t 2 0))
  where
    pick : (a b : Bool) → Delimits 8 (cond a (record_delimiter 44 t 1) (cond b (record_delimiter (get_or t 2 0) t 4) None))
    pick true b = record_delimits 44 1 t (omega arith)
    pick false true = record_delimits (get_or t 2 0) 4 t (omega arith)
    pick false false = tt

pub delimits_by : (c p : ℕ) (t : List ℕ) {r : Option Opening} → r ≡ record_delimiter c t p → p ≤ 4 → Delimits 8 r
delimits_by c p t e h = rw e (record_delimits c p t h)

pub ruleset openings = (record_part, record_end, record_one, record_h, named-part, named_end, named-wrong, opening-comma, opening-one, opening_h, opening_twice, opening-named, delimits_by)

-- ---- what a caller has in hand of an opening

module _ (m : ℕ) {r : Option Opening} {o : Opening} (e : r ≡ Some o) (h : Delimits m r) where
  parts : (32 < o.parameter) × (32 < o.closing) × (o.parameter ≡ o.closing → ⊥) × (o.next ≤ m)
  parts = rw e at h

  pub parameter_above : 32 < o.parameter
  parameter_above = parts.0

  pub record_above : 32 < o.closing
  record_above = parts.1

  pub they_differ : o.parameter ≡ o.closing → ⊥
  they_differ = parts.2

  pub opening_in : o.next ≤ m
  opening_in = parts.3

-- ---- fields

four : (n : ℕ) → (n ≡ 3 → ⊥) → (n ≡ 4 → ⊥) → (n ≡ 5 → ⊥) → (n ≡ 6 → ⊥) → 3 ≤ n → n ≤ 6 → ⊥
four n a b c d h k = omega arith

module _ (n : ℕ) where
  -- none of the fields that hold a string or a real
  pub kind_rest : (n ≡ 3 → ⊥) → (n ≡ 4 → ⊥) → (n ≡ 5 → ⊥) → (n ≡ 6 → ⊥) → (n ≡ 12 → ⊥) → (n ≡ 13 → ⊥) → (n ≡ 15 → ⊥) → (n ≡ 17 → ⊥)
      → (n ≡ 18 → ⊥) → (n ≡ 19 → ⊥) → (n ≡ 20 → ⊥) → (n ≡ 21 → ⊥) → (n ≡ 22 → ⊥) → Integer ≡ kind_of n
  unfolding kind_of
  kind_rest a b c d e f g h i j k l m =
      simp (low (leb 3 n) (leb n 6) refl refl, ne_eqb n 12 e, ne_eqb n 13 f, ne_eqb n 15 g, ne_eqb n 17 h, ne_eqb n 18 i, ne_eqb n 19 j, ne_eqb n 20 k, ne_eqb n 21 l, ne_eqb n 22 m)
    where
      low : (x y : Bool) → leb 3 n ≡ x → leb n 6 ≡ y → within 3 6 n ≡ false
      low true true p q = absurd (four n a b c d (leb-true 3 n p) (leb-true n 6 q))
      low true false p q = simp (p, q)
      low false y p q = simp p

module _ (high : ℕ) (neg : Bool) (size : ℕ) where
  pub up_sign : neg ≡ true → false ≡ up_to high neg size
  up_sign e = rw e

  pub up_none : neg ≡ false → size < 1 → false ≡ up_to high neg size
  up_none e h = simp (e, lt-leb 1 size h)

  pub up_some : neg ≡ false → 1 ≤ size → leb size high ≡ up_to high neg size
  up_some e h = simp (e, le-leb 1 size h)

module _ (n : ℕ) (neg : Bool) (size : ℕ) {r : Bool} where
  pub range_flags : n ≡ 14 → r ≡ up_to 11 neg size → r ≡ in_range n neg size
  unfolding in_range
  range_flags e er = rw (er, e)

  pub range_units : n ≡ 23 → r ≡ up_to 6 neg size → r ≡ in_range n neg size
  unfolding in_range
  range_units e er = rw (er, e)

pub range_any : (n : ℕ) (neg : Bool) (size : ℕ) → (n ≡ 14 → ⊥) → (n ≡ 23 → ⊥) → true ≡ in_range n neg size
unfolding in_range
range_any n neg size h k = simp (ne_eqb n 14 h, ne_eqb n 23 k)

kind_default : (k : GlobalKind) (n : ℕ) → true ≡ is_kind k n Default
kind_default String n = refl
kind_default RealKind n = refl
kind_default Integer n = refl

pub is_default_lem : (n : ℕ) (k : GlobalKind) {v : Value} → v ≡ Default → true ≡ is_kind k n v
is_default_lem n k e = rw e (kind_default k n)

pub is_whole : (n : ℕ) {k : GlobalKind} {v : Value} {neg : Bool} {size : ℕ} {r : Bool} → v ≡ Whole neg size → k ≡ Integer → r ≡ in_range n neg size → r ≡ is_kind k n v
is_whole n e f er = rw (e, f) er

pub fits-past : (n : ℕ) (v : Value) → 24 < n → false ≡ global_fits n v
unfolding global_fits
fits-past n v h = simp (lt-leb n 24 h)

pub fits-kind : (n : ℕ) (v : Value) {k : GlobalKind} {r : Bool} → n ≤ 24 → k ≡ kind_of n → r ≡ is_kind k n v → r ≡ global_fits n v
unfolding global_fits
fits-kind n v h e er = rw (er, e) (simp (le-leb n 24 h))

pub ruleset fields = (kind_rest, up_sign, up_none, up_some, range_flags, range_units, range_any, is_default_lem, is_whole, fits-past, fits-kind)

-- ---- a field asks nothing of a string but that it is one

kind-seen : (t : List ℕ) (k : GlobalKind) (n : ℕ) (v : Value) → is_kind k n v ≡ is_kind k n (seen (item_of t v))
kind-seen t String n Default = refl
kind-seen t String n (Whole neg size) = refl
kind-seen t String n (Real neg m eneg e double) = refl
kind-seen t String n (Text start count) = refl
kind-seen t RealKind n Default = refl
kind-seen t RealKind n (Whole neg size) = refl
kind-seen t RealKind n (Real neg m eneg e double) = refl
kind-seen t RealKind n (Text start count) = refl
kind-seen t Integer n Default = refl
kind-seen t Integer n (Whole neg size) = refl
kind-seen t Integer n (Real neg m eneg e double) = refl
kind-seen t Integer n (Text start count) = refl

pub fits-seen : (t : List ℕ) (n : ℕ) (v : Value) → global_fits n v ≡ global_fits n (seen (item_of t v))
unfolding global_fits
fits-seen t n v = rw (kind-seen t (kind_of n) n v)
