-- What was read from eight columns: it fits them, and it is no nought with a sign.
use mathlib.Core.Path.{◌≡◌, refl, ap}
use mathlib.Core.Bool.{Bool, true, false, cond, not, ◌&&◌}
use mathlib.Core.List.{List, [], ◌∷◌}
use Prim.Native.Nat.{ℕ, zero, suc, ◌+◌, ◌≤◌, ◌<◌}
use native.Mathlib.Omega.{arith}
use lib.ListN.{length, get_or, length-take}
use lib.Dec.{leb, eqb}
use borrow.Author.Tests.{leb-true}
use Rattle.std.specs.Prelude.{Option, Some, None}
use Rattle.std.proofs.lemmas.Option.{same_Some}
use Rattle.columns.specs.declared.Signed.{Signed}
use Rattle.columns.specs.Columns.{columns}
use Rattle.columns.specs.Fixed.{field_of, signed_of, with_sign, signed}
use Rattle.columns.specs.Decimal.{dec, signed_dec}
use Rattle.columns.proofs.Tests.{cond_cases, cond_same, both_left, both_right, true_false}
use Rattle.columns.proofs.Decimals.{dec-below, length-signed, dec-nought}
use Rattle.columns.proofs.Round.{signed-fits, signed-normal, field_fits_lem}
use Rattle.directory.specs.declared.Spelt.{Spelt}
use Rattle.directory.specs.Fields.{nought, fields_of}
use Rattle.directory.specs.Lines.{Slot, number, again, pointer, lines, slot_in, unsigned, number_in, Numbers, numbers, misspelt, with, numbers_from, positive, size_of, is_same, spelt_as, spelt, entry_at}
use Rattle.directory.specs.Reading.{Eight, Small}

pub slot_length : (f : List ℕ) (k : ℕ) (x : Slot) → length (slot_in f k x) ≤ 8
unfolding slot_in columns
slot_length f k x = simp length-take (omega arith)

-- ---- one number

pub fits_below : (x : Signed) → length (signed_dec x) ≤ 8 → x.size < 100000000
fits_below x h = dec-below 8 x.size (omega (arith, length-signed x))

-- no column at all is nought
none_fit : (x : Signed) → Some (signed false 0) ≡ Some x → length (signed_dec x) ≤ 8
none_fit x e =
    let z : signed false 0 ≡ x = cc in
    rw (← z, length-signed (signed false 0), dec-nought) (omega arith)

signed_fit : (t : List ℕ) (x : Signed) → length t ≤ 8 → signed_of t ≡ Some x → length (signed_dec x) ≤ 8
unfolding signed_of
signed_fit [] x h e = none_fit x e
signed_fit (b ∷ t) x h e = omega (arith, signed-fits (b ∷ t) x (omega arith) e)

pub signed_eight : (t : List ℕ) (x : Signed) → length t ≤ 8 → signed_of t ≡ Some x → Eight x
signed_eight t x h e = record { fits = signed_fit t x h e; below = fits_below x (signed_fit t x h e); normal = signed-normal t x e }

plain_fit : (t : List ℕ) (n : ℕ) → length t ≤ 8 → field_of t ≡ Some n → length (dec n) ≤ 8
unfolding field_of
plain_fit [] n h e =
    let z : 0 ≡ n = cc in
    rw (← z, dec-nought) (omega arith)
plain_fit (b ∷ t) n h e = omega (arith, field_fits_lem (b ∷ t) n (omega arith) e)

-- a number without a sign
pub record Plain (x : Signed) : Type 0 where
  pub eight : Eight x
  pub plain : x.neg ≡ false

plain-number : (n : ℕ) → length (dec n) ≤ 8 → Plain (record { neg = false; size = n })
plain-number n h =
    let l : length (signed_dec (record { neg = false; size = n })) ≤ 8 = rw (length-signed (record { neg = false; size = n })) (omega arith) in
    record { eight = record { fits = l; below = fits_below (record { neg = false; size = n }) l; normal = λ z. refl }; plain = refl }

pub plain_eight : (t : List ℕ) (x : Signed) → length t ≤ 8 → with_sign false (field_of t) ≡ Some x → Plain x
plain_eight t x h e = pick (field_of t) refl e
  where
    pick : (f : Option ℕ) → field_of t ≡ f → with_sign false f ≡ Some x → Plain x
    pick (Some n) q e =
        let z : signed false n ≡ x = cc in
        rw (← z, cond_same (eqb n 0) false) (plain-number n (plain_fit t n h q))
    pick None q e = let z : ◌≡◌ {A = ℕ} 0 1 = cc in absurd (omega arith)

-- ---- the numbers of an entry

-- number n of an entry
pub record Good (n : ℕ) (x : Signed) : Type 0 where
  pub eight : Eight x
  pub plain : unsigned n ≡ true → x.neg ≡ false

pub number_good : (f : List ℕ) (k n : ℕ) (x : Signed) → number_in f k n ≡ Some x → Good n x
unfolding number_in
number_good f k n x = pick (unsigned n) refl
  where
    t : List ℕ
    t = slot_in f k (number n)

    pick : (b : Bool) → unsigned n ≡ b → cond b (with_sign false (field_of t)) (signed_of t) ≡ Some x → Good n x
    pick true u e =
        let p : Plain x = plain_eight t x (slot_length f k (number n)) e in
        record { eight = p.eight; plain = λ _. p.plain }
    pick false u e = record { eight = signed_eight t x (slot_length f k (number n)) e; plain = λ v. absurd (true_false v u) }

abbrev GoodFrom : ℕ → List Signed → Type 0
GoodFrom n [] = Unit {0}
GoodFrom n (x ∷ xs) = Good n x × GoodFrom (n + 1) xs

abbrev AllGood : ℕ → ℕ → Numbers → Type 0
AllGood n more (numbers xs) = (length xs ≡ more) × GoodFrom n xs
AllGood n more misspelt = Unit {0}

all_good : (f : List ℕ) (k more n : ℕ) → AllGood n more (numbers_from f k n more)
unfolding numbers_from
all_good f k zero n = (refl, tt)
all_good f k (suc more) n = pick (number_in f k n) refl (numbers_from f k (n + 1) more) (all_good f k more (n + 1))
  where
    pick : (r : Option Signed) → number_in f k n ≡ r → (ns : Numbers) → AllGood (n + 1) more ns → AllGood n (suc more) (with r ns)
    pick (Some x) e (numbers xs) g = (ap suc g.0, (number_good f k n x e, g.1))
    pick (Some x) e misspelt g = tt
    pick None e ns g = tt

good_at : (xs : List Signed) (n j : ℕ) → GoodFrom n xs → j < length xs → Good (n + j) (get_or xs j nought)
good_at [] n j g h = absurd (omega arith)
good_at (x ∷ xs) n zero g h =
    let e : n + 0 ≡ n = omega arith in
    rw e g.0
good_at (x ∷ xs) n (suc j) g h =
    let e : n + suc j ≡ n + 1 + j = omega arith in
    rw e (good_at xs (n + 1) j g.1 (omega arith))

-- ---- the whole entry

size_eight : (t : List ℕ) → length t ≤ 8 → size_of (signed_of t) ≤ 99999999
size_eight t h = pick (signed_of t) refl
  where
    pick : (r : Option Signed) → signed_of t ≡ r → size_of r ≤ 99999999
    pick (Some x) e = omega (arith, (signed_eight t x h e).below)
    pick None e = omega arith

positive_low : (r : Option Signed) → positive r ≡ true → 1 ≤ size_of r
positive_low (Some x) e = leb-true 1 x.size (both_right (not x.neg) (leb 1 x.size) e)
positive_low None e = let z : ◌≡◌ {A = ℕ} 0 1 = cc in absurd (omega arith)

module _ (xs : List Signed) (l : length xs ≡ 12) (g : GoodFrom 0 xs) where
  good : (j : ℕ) → j < 12 → Good (0 + j) (get_or xs j nought)
  good j h = good_at xs 0 j g (omega arith)

  pub entry_small : (a from count : Option Signed) → size_of from ≤ 99999999 → size_of count ≤ 99999999 → Small (spelt_as (fields_of xs) a from count)
  entry_small a from count hf hc =
      cond_cases Small (is_same (get_or xs 0 nought) a && (positive from && positive count)) _ _
      (λ e.
      let p : positive from && positive count ≡ true = both_right (is_same (get_or xs 0 nought) a) (positive from && positive count) e in
      record {
        entity = (good 0 (omega arith)).eight;
        form = (good 1 (omega arith)).eight;
        structure = (good 2 (omega arith)).eight;
        font = (good 3 (omega arith)).eight;
        level = (good 4 (omega arith)).eight;
        view = (good 5 (omega arith)).eight;
        matrix = (good 6 (omega arith)).eight;
        display = (good 7 (omega arith)).eight;
        status = (good 8 (omega arith)).eight;
        weight = (good 9 (omega arith)).eight;
        colour = (good 10 (omega arith)).eight;
        subscript = (good 11 (omega arith)).eight;
        status_plain = (good 8 (omega arith)).plain refl;
        subscript_plain = (good 11 (omega arith)).plain refl;
        from_low = positive_low from (both_left (positive from) (positive count) p);
        from_high = hf;
        count_low = positive_low count (both_right (positive from) (positive count) p);
        count_high = hc;
      })
      (λ e. tt)

-- every entry that is read
pub small : (f : List ℕ) (k : ℕ) → Small (entry_at f k)
unfolding entry_at
small f k = pick (numbers_from f k 0 12) (all_good f k 12 0)
  where
    pick : (ns : Numbers) → AllGood 0 12 ns → Small (spelt ns (signed_of (slot_in f k again)) (signed_of (slot_in f k pointer)) (signed_of (slot_in f k lines)))
    pick (numbers xs) g =
        entry_small xs g.0 g.1 (signed_of (slot_in f k again)) (signed_of (slot_in f k pointer)) (signed_of (slot_in f k lines))
        (size_eight (slot_in f k pointer) (slot_length f k pointer)) (size_eight (slot_in f k lines) (slot_length f k lines))
    pick misspelt g = tt

pub small_read : (f : List ℕ) (k : ℕ) (r : Option Spelt) → r ≡ entry_at f k → Small r
small_read f k r e = rw e (small f k)

-- two that are read alike are alike part by part
pub same_spelt : (s t : Spelt) → Some s ≡ Some t → (s.fields ≡ t.fields) × (s.pointer ≡ t.pointer) × (s.lines ≡ t.lines)
same_spelt s t e =
    let q = same_Some s t e in (
      ap (λ (x : Spelt). x.fields) q,
      ap (λ (x : Spelt). x.pointer) q,
      ap (λ (x : Spelt). x.lines) q,
    )
