-- The values of a record, one after the other: each ends behind its start, so the fuel is never looked at again. Assumes nothing.
use mathlib.Core.Path.{◌≡◌, refl, sym, ap, ap₂, ◌∙◌}
use mathlib.Core.Bool.{Bool, true, false}
use mathlib.Core.List.{List, [], ◌∷◌}
use Prim.Native.Nat.{ℕ, zero, suc, ◌+◌, ◌-◌, ◌*◌, ◌^◌, ◌≤◌, ◌<◌}
use native.Mathlib.Nat.{zero-add}
use native.Mathlib.Omega.{arith}
use lib.ListN.{length}
use Rattle.std.specs.Prelude.{Result, Ok, Err}
use Rattle.columns.specs.declared.Fault.{Fault}
use Rattle.columns.specs.Columns.{text_of}
use Rattle.values.specs.declared.Value.{Value}
use Rattle.values.specs.declared.Value.TheVariants.{Default, Whole, Real, Text}
use Rattle.values.specs.Value.{Item, item_of}
use Rattle.records.specs.declared.Found.{Found}
use Rattle.records.specs.declared.Misspelt.{Misspelt}
use Rattle.records.specs.declared.Check.{Check}
use Rattle.records.specs.Record.{Got, found_at, refused_at, value_at, Values, values, wrong, more, after, values_from, values_at, trim, trimmed}
use Rattle.records.specs.Reading.{Stands, Sane, kept_after, kept_from, check_from, done_at, checked}
use Rattle.records.proofs.Texts.{length-text, small}
use Rattle.records.proofs.Bounds.{sane, next_more, next_less, next_in, wrong-from, wrong-behind, wrong-at}

module _ (w c d : ℕ) (t : List ℕ) (pc : 0 < c) (pd : 0 < d) where
  enough : (k m p : ℕ) → p ≤ length t → length t - p < k → length t - p < m → values_from k w c d t p ≡ values_from m w c d t p
  unfolding values_from
  enough zero m p i h l = absurd (omega arith)
  enough (suc k) zero p i h l = absurd (omega arith)
  enough (suc k) (suc m) p i h l = pick (value_at w c d t p) (sane w c d t pc pd p i) (λ next. enough k m next)
    where
      pick : (g : Got) → Sane p (length t) g
          → ((next : ℕ) → next ≤ length t → length t - next < k → length t - next < m → values_from k w c d t next ≡ values_from m w c d t next)
          → after t (values_from k w c d t) g ≡ after t (values_from m w c d t) g
      pick (Ok x) a ih = by x.last
        where
          by : (last : Bool) → after t (values_from k w c d t) (found_at x.value x.start x.next last) ≡ after t (values_from m w c d t) (found_at x.value x.start x.next last)
          by true = refl
          by false = ap (more (item_of t x.value)) (ih x.next (omega arith) (omega arith) (omega arith))
      pick (Err x) a ih = refl

  -- the three equations: the last value, one more, a refusal
  module _ (p : ℕ) where
    pub at_last : {v : Value} {s next : ℕ} → value_at w c d t p ≡ found_at v s next true → values_at w c d t p ≡ values (item_of t v ∷ []) next
    unfolding values_at values_from
    at_last e = rw (values_from, e)

    pub at_more : p ≤ length t → {v : Value} {s next : ℕ} → value_at w c d t p ≡ found_at v s next false → values_at w c d t p ≡ more (item_of t v) (values_at w c d t next)
    unfolding values_at values_from
    at_more h {v} {s} {next} e =
        let a = sane w c d t pc pd p h in
        let f = next_more p (length t) e a in
        let i = next_in p (length t) e a in
        rw (values_from, e) (ap (more (item_of t v)) (enough (length t) (suc (length t)) next i (omega arith) (omega arith)))

    pub at-wrong : {fault : Fault} {s at : ℕ} → value_at w c d t p ≡ refused_at fault s at → values_at w c d t p ≡ wrong fault s at
    unfolding values_at values_from
    at-wrong e = rw (values_from, e)

-- the values after the first
rest_of : (i : Item) (x : Values) {vs : List Item} {end : ℕ} → more i x ≡ values vs end → (us : List Item) × (vs ≡ i ∷ us) × (x ≡ values us end)
rest_of i (values us e) h = (us, (cc), (cc))
rest_of i (wrong fault s at) h = let z : ◌≡◌ {A = ℕ} 0 1 = cc in absurd (omega arith)

-- a record that is accepted, value by value: the last, one more, and none that is refused
module _ (w c d : ℕ) (t : List ℕ) (pc : 0 < c) (pd : 0 < d) (p : ℕ) (h : p ≤ length t) {vs : List Item} {end : ℕ} (r : values_at w c d t p ≡ values vs end) where
  pub last_is : {v : Value} {s next : ℕ} → value_at w c d t p ≡ found_at v s next true → (vs ≡ item_of t v ∷ []) × (next ≡ end)
  last_is e = let q = sym (at_last w c d t pc pd p e) ∙ r in ((cc), (cc))

  pub more-is : {v : Value} {s next : ℕ} → value_at w c d t p ≡ found_at v s next false → (us : List Item) × (vs ≡ item_of t v ∷ us) × (values_at w c d t next ≡ values us end)
  more-is {v} {s} {next} e = rest_of (item_of t v) (values_at w c d t next) (sym (at_more w c d t pc pd p h e) ∙ r)

  pub none-wrong : {fault : Fault} {s at : ℕ} → value_at w c d t p ≡ refused_at fault s at → ⊥
  none-wrong e = let q = sym (at-wrong w c d t pc pd p e) ∙ r in let z : ◌≡◌ {A = ℕ} 0 1 = cc in omega arith

-- ---- the loop over a record

-- one value more: what is kept
kept_more : (t : List ℕ) (n k : ℕ) (v : Value) (vs : List Item) → kept_from n k (trim (item_of t v) vs) ≡ kept_from (n + 1) (kept_after v k (n + 1)) vs
kept_more t n k Default [] = refl
kept_more t n k (Whole neg size) [] = refl
kept_more t n k (Real neg m eneg e double) [] = refl
kept_more t n k (Text start count) [] = refl
kept_more t n k v (u ∷ vs) = omega arith

one_more : (t : List ℕ) (n k : ℕ) (v : Value) (vs : Values) → check_from n k (more (item_of t v) vs) ≡ check_from (n + 1) (kept_after v k (n + 1)) vs
one_more t n k v (values vs end) =
    let e : n + suc (length vs) ≡ n + 1 + length vs = omega arith in
    ap₂ (λ (a b : ℕ). done_at a b end) e (kept_more t n k v (trimmed vs))
one_more t n k v (wrong fault s at) = refl

kept_all : (vs : List Item) → kept_from 0 0 vs ≡ length vs
kept_all [] = refl
kept_all (v ∷ vs) = zero-add _

-- the check from nothing is the check
pub check_start : (vs : Values) → check_from 0 0 vs ≡ checked vs
check_start (values vs end) = ap₂ (λ (a b : ℕ). done_at a b end) (zero-add (length vs)) (kept_all (trimmed vs))
check_start (wrong fault s at) = refl

-- how many values are kept, by what the next one is
module _ {v : Value} (k n : ℕ) where
  pub after_default : v ≡ Default → k ≡ kept_after v k n
  after_default e = rw e

  pub after_whole : {neg : Bool} {size : ℕ} → v ≡ Whole neg size → n ≡ kept_after v k n
  after_whole e = rw e

  pub after_real : {neg : Bool} {m : ℕ} {eneg : Bool} {e : ℕ} {double : Bool} → v ≡ Real neg m eneg e double → n ≡ kept_after v k n
  after_real e = rw e

  pub after_text : {start count : ℕ} → v ≡ Text start count → n ≡ kept_after v k n
  after_text e = rw e

module _ {file : List ℕ} {base w lines : ℕ} (st : Stands file base w lines) {c d : ℕ} (pc : 0 < c) (pd : 0 < d) where
  module _ (q n k : ℕ) {g : Got} {r : Result Check Misspelt} (h : q ≤ lines * w) (eg : g ≡ value_at w c d (text_of file base w lines) q) (inv : check_from n k (values_at w c d (text_of file base w lines) q) ≡ r) where
    module _ {x : Found} (e : g ≡ Ok x) {k' : ℕ} (ek : k' ≡ kept_after x.value k (n + 1)) where
      pub check_last : x.last ≡ true → done_at (n + 1) k' x.next ≡ r
      check_last l =
          let t = text_of file base w lines in
          ap (λ (y : ℕ). done_at (n + 1) y x.next) (ek ∙ sym (kept_more t n k x.value []))
          ∙ sym (ap (check_from n k) (at_last w c d t pc pd q (sym eg ∙ e ∙ ap (found_at x.value x.start x.next) l))) ∙ inv

      pub check_more : x.last ≡ false → check_from (n + 1) k' (values_at w c d (text_of file base w lines) x.next) ≡ r
      check_more l =
          let t = text_of file base w lines in
          let i : q ≤ length t = omega (arith, length-text file base w lines st) in
          ap (λ (y : ℕ). check_from (n + 1) y (values_at w c d t x.next)) ek
          ∙ sym (ap (check_from n k) (at_more w c d t pc pd q i (sym eg ∙ e ∙ ap (found_at x.value x.start x.next) l)) ∙ one_more t n k x.value (values_at w c d t x.next)) ∙ inv

    pub check_wrong : {x : Misspelt} → g ≡ Err x → Err x ≡ r
    check_wrong e = sym (ap (check_from n k) (at-wrong w c d (text_of file base w lines) pc pd q (sym eg ∙ e))) ∙ inv

-- n values stand between p and q
module _ (p n q m : ℕ) (i : p + n ≤ q) {g : Got} where
  pub count_next : {x : Found} → g ≡ Ok x → Sane q m g → p + (n + 1) ≤ x.next
  count_next e h = omega (arith, next_more q m e h)

  pub count-from : {x : Misspelt} → g ≡ Err x → Sane q m g → p ≤ x.start
  count-from e h = omega (arith, wrong-from q m e h)

pub count_fits : {file : List ℕ} {base w lines : ℕ} → Stands file base w lines → (p n q : ℕ) → p + n ≤ q → q ≤ lines * w → n + 1 < 2 ^ 64
count_fits {file} {base} {w} {lines} st p n q h k = omega (arith, small file base w lines st)

pub ruleset steps = (check_start, check_last, check_more, check_wrong, count_next, count-from, count_fits, next_in, next_less, wrong-behind, wrong-at)
