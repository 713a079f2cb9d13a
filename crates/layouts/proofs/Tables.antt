-- The code's table is the paper's. Assumes nothing.
use mathlib.Core.Path.{◌≡◌, refl, sym, ap, ap₂, ◌∙◌}
use mathlib.Core.List.{List, [], ◌∷◌, ◌++◌, map}
use Prim.Native.Nat.{ℕ, zero, suc, ◌-◌, ◌<◌, ◌≤◌}
use native.Mathlib.Nat.{not-suc-le-zero}
use native.Mathlib.Omega.{arith}
use lib.ListN.{length, get_or, take, drop, get_or-map, get_or-eq_default}
use mathlib.Core.Bool.{Bool, true, false, cond, not, ◌&&◌, ◌||◌, false≢true}
use mathlib.Core.Logic.{◌⊎◌, inl, inr}
use types.Run.{OneOf}
use lib.Dec.{eqb, ltb}
use borrow.Author.Tests.{eqb-true, eqb-false, ltb-true, ltb-false, ne_eqb, lt-ltb, le-ltb}
use Rattle.layouts.specs.Known.{bit, known}
use Rattle.layouts.specs.declared.LayoutPlace.{LayoutPlace}
use Rattle.layouts.specs.declared.Kind.{Kind}
use Rattle.layouts.specs.declared.Kind.TheVariants.{Rest}
use Rattle.layouts.specs.declared.Times.TheVariants.{Fixed}
use Rattle.layouts.specs.Layout.{◌of◌, Row, paper, bit_of, seek}
use Rattle.layouts.specs.Table.{table, place_at}
use Rattle.layouts.specs.Coded.{Shape, shapes, shape_in, shape_of, codes, letter_at, told}
use Rattle.layouts.specs.Machine.{reals, refers, kind_at}
use Rattle.layouts.specs.declared.LayoutState.{LayoutState}

-- a test that antt computes for each number below n
abbrev pub up_to : ℕ → (ℕ → Bool) → Bool
up_to zero f = true
up_to (suc n) f = f n && up_to n f

pub and_both : (a b : Bool) → (a && b) ≡ true → (a ≡ true) × (b ≡ true)
and_both true b e = (refl, e)
and_both false b e = absurd (false≢true e)

pub up_to_at : (n : ℕ) (f : ℕ → Bool) (i : ℕ) → up_to n f ≡ true → i < n → f i ≡ true
up_to_at zero f i e h = absurd (not-suc-le-zero h)
up_to_at (suc n) f i e h = go (eqb i n) refl (up_to_at n f i (and_both (f n) (up_to n f) e).1)
  where
    go : (b : Bool) → eqb i n ≡ b → (i < n → f i ≡ true) → f i ≡ true
    go true z ih = ap f (eqb-true i n z) ∙ (and_both (f n) (up_to n f) e).0
    go false z ih = let q = eqb-false i n z in ih (omega arith)

pub table-length : length table ≡ 116
unfolding table paper
table-length = refl

pub shape_is : (k j : ℕ) (p q : LayoutPlace) → k ≡ j → p ≡ q → q ≡ shape_of j → p ≡ shape_of k
shape_is k j p q e r h = r ∙ h ∙ ap shape_of (sym e)

-- what `rest` says of a match with these arms
abbrev pub NoneOf : List ℕ → ℕ → Type 0 → Type 0
NoneOf [] t r = r
NoneOf (x ∷ xs) t r = NoneOf xs t (r × (t ≡ x → ⊥))

none_first : (xs : List ℕ) (t : ℕ) (r : Type 0) → NoneOf xs t r → r
none_first [] t r h = h
none_first (x ∷ xs) t r h = (none_first xs t (r × (t ≡ x → ⊥)) h).0

shape_past : (xs : List Shape) (k : ℕ) (r : Type 0) → NoneOf (map (λ (x : Shape). x.letter) xs) k r → Fixed 1 of Rest ≡ shape_in xs k
shape_past [] k r h = refl
shape_past (x ∷ xs) k r h =
    simp (ne_eqb k x.letter (none_first (map (λ (x : Shape). x.letter) xs) k (r × (k ≡ x.letter → ⊥)) h).1) (shape_past xs k (r × (k ≡ x.letter → ⊥)) h)

pub shape_none : (k : ℕ) (p : LayoutPlace) → NoneOf (map (λ (x : Shape). x.letter) shapes) k Unit → p ≡ Fixed 1 of Rest → p ≡ shape_of k
unfolding shape_of shapes
shape_none k p h e = e ∙ shape_past shapes k Unit h

coded : map shape_of codes ≡ table
unfolding table paper shape_of shapes codes
coded = refl

rest_shape : shape_of 46 ≡ Fixed 1 of Rest
unfolding shape_of shapes
rest_shape = refl

pub looked : (i c : ℕ) (p : LayoutPlace) → c ≡ letter_at i → p ≡ shape_of c → p ≡ place_at i
unfolding place_at letter_at
looked i c p e q =
    q ∙ ap shape_of e ∙ sym (get_or-map shape_of codes i 46) ∙ ap₂ (λ (t : List LayoutPlace) (d : LayoutPlace). get_or t i d) coded rest_shape

pub past : (i : ℕ) → 116 ≤ i → place_at i ≡ Fixed 1 of Rest
unfolding place_at
past i h = get_or-eq_default table (Fixed 1 of Rest) (rw table-length h)

-- ---- the letters, each with its places

abbrev pub every : (ℕ → Bool) → List ℕ → Bool
every f [] = true
every f (k ∷ ks) = f k && every f ks

-- one of the places of a letter
pub letter-is : (ks : List ℕ) (i c : ℕ) → every (λ (k : ℕ). eqb c (letter_at k)) ks ≡ true → OneOf ks i → c ≡ letter_at i
letter-is [] i c e h = absurd h
letter-is (k ∷ []) i c e h = eqb-true c (letter_at k) (and_both (eqb c (letter_at k)) true e).0 ∙ ap letter_at (sym h)
letter-is (k ∷ j ∷ ks) i c e (inl h) =
    eqb-true c (letter_at k) (and_both (eqb c (letter_at k)) (every (λ (k : ℕ). eqb c (letter_at k)) (j ∷ ks)) e).0 ∙ ap letter_at (sym h)
letter-is (k ∷ j ∷ ks) i c e (inr h) =
    letter-is (j ∷ ks) i c (and_both (eqb c (letter_at k)) (every (λ (k : ℕ). eqb c (letter_at k)) (j ∷ ks)) e).1 h

-- where a letter stands
abbrev pub spots : ℕ → ℕ → List ℕ → List ℕ
spots c i [] = []
spots c i (x ∷ xs) = cond (eqb x c) (i ∷ spots c (suc i) xs) (spots c (suc i) xs)

-- a letter of many places has two arms
abbrev parted : List ℕ → List (List ℕ)
parted ks = cond (ltb 16 (length ks)) (take 16 ks ∷ drop 16 ks ∷ []) (ks ∷ [])

abbrev arms : List Shape → List (List ℕ)
arms [] = []
arms (x ∷ xs) = parted (spots x.letter 0 codes) ++ arms xs

-- where each letter stands
abbrev pub groups : List (List ℕ)
groups = arms shapes

-- what `rest` says of a match whose arms have these places
abbrev pub NoneIn : List (List ℕ) → ℕ → Type 0 → Type 0
NoneIn [] t r = r
NoneIn (ks ∷ kss) t r = NoneIn kss t (r × (OneOf ks t → ⊥))

none_in_first : (kss : List (List ℕ)) (t : ℕ) (r : Type 0) → NoneIn kss t r → r
none_in_first [] t r h = h
none_in_first (ks ∷ kss) t r h = (none_in_first kss t (r × (OneOf ks t → ⊥)) h).0

abbrev among : List ℕ → ℕ → Bool
among [] t = false
among (k ∷ ks) t = eqb t k || among ks t

abbrev among_any : List (List ℕ) → ℕ → Bool
among_any [] t = false
among_any (ks ∷ kss) t = among ks t || among_any kss t

or_cases : (a b : Bool) → (a || b) ≡ true → (a ≡ true) ⊎ (b ≡ true)
or_cases true b e = inl refl
or_cases false b e = inr e

one_of : (ks : List ℕ) (t : ℕ) → among ks t ≡ true → OneOf ks t
one_of [] t e = absurd (false≢true e)
one_of (k ∷ []) t e = elim (or_cases (eqb t k) false e) [ inl a ↦ eqb-true t k a | inr b ↦ absurd (false≢true b) ]
one_of (k ∷ j ∷ ks) t e = elim (or_cases (eqb t k) (among (j ∷ ks) t) e) [ inl a ↦ inl (eqb-true t k a) | inr b ↦ inr (one_of (j ∷ ks) t b) ]

none-among : (kss : List (List ℕ)) (t : ℕ) (r : Type 0) → NoneIn kss t r → among_any kss t ≡ true → ⊥
none-among [] t r h e = false≢true e
none-among (ks ∷ kss) t r h e =
    elim (or_cases (among ks t) (among_any kss t) e) [
      | inl a ↦ (none_in_first kss t (r × (OneOf ks t → ⊥)) h).1 (one_of ks t a)
      | inr b ↦ none-among kss t (r × (OneOf ks t → ⊥)) h b
    ]

all_letters : up_to 116 (λ (i : ℕ). among_any groups i || eqb 46 (letter_at i)) ≡ true
unfolding letter_at codes shapes
all_letters = refl

codes-length : length codes ≡ 116
unfolding codes
codes-length = refl

pub letter_rest : (i : ℕ) → NoneIn groups i Unit → 46 ≡ letter_at i
unfolding letter_at
letter_rest i h = pick (ltb i 116) refl
  where
    pick : (b : Bool) → ltb i 116 ≡ b → 46 ≡ letter_at i
    pick true q =
        elim (or_cases (among_any groups i) (eqb 46 (letter_at i)) (up_to_at 116 (λ (i : ℕ). among_any groups i || eqb 46 (letter_at i)) i all_letters (ltb-true i 116 q))) [
          | inl a ↦ absurd (none-among groups i Unit h a)
          | inr b ↦ eqb-true 46 (letter_at i) b
        ]
    pick false q = sym (get_or-eq_default codes 46 (rw codes-length (ltb-false i 116 q)))

-- ---- what bits tell of the places

pub told_low : (low high i : ℕ) → i < 64 → bit i low ≡ told low high i
unfolding told
told_low low high i h = simp (lt-ltb i 64 h)

pub told_high : (low high i : ℕ) → 64 ≤ i → i < 128 → bit (i - 64) high ≡ told low high i
unfolding told
told_high low high i h k = simp (le-ltb i 64 h, lt-ltb i 128 k)

pub told_none : (low high i : ℕ) → 64 ≤ i → 128 ≤ i → false ≡ told low high i
unfolding told
told_none low high i h k = simp (le-ltb i 64 h, le-ltb i 128 k)

pub ruleset bits = (told_low, told_high, told_none)

abbrev agree : Bool → Bool → Bool
agree true b = b
agree false b = not b

agree-is : (a b : Bool) → agree a b ≡ true → a ≡ b
agree-is true b e = sym e
agree-is false true e = absurd (false≢true e)
agree-is false false e = refl

-- bits that are right below 128 are right: past the table all is rest
all_told : (low high : ℕ) (f : Kind → Bool) → up_to 128 (λ (i : ℕ). agree (told low high i) (f (place_at i).kind)) ≡ true → f Rest ≡ false → (i : ℕ) → told low high i ≡ f (place_at i).kind
all_told low high f e z i = pick (ltb i 128) refl
  where
    pick : (b : Bool) → ltb i 128 ≡ b → told low high i ≡ f (place_at i).kind
    pick true q = agree-is (told low high i) (f (place_at i).kind) (up_to_at 128 (λ (i : ℕ). agree (told low high i) (f (place_at i).kind)) i e (ltb-true i 128 q))
    pick false q =
        let h = ltb-false i 128 q in
        sym (told_none low high i (omega arith) h) ∙ sym z ∙ ap (λ (p : LayoutPlace). f p.kind) (sym (past i (omega arith)))

reals-told : (i : ℕ) → told 30400293984804865 70368760954880 i ≡ reals (place_at i).kind
unfolding told place_at table paper
reals-told i = all_told 30400293984804865 70368760954880 reals refl refl i

references-told : (i : ℕ) → told 7277827994311363220 1453645242837802 i ≡ refers (place_at i).kind
unfolding told place_at table paper
references-told i = all_told 7277827994311363220 1453645242837802 refers refl refl i

pub reals_are : (i : ℕ) (b : Bool) → b ≡ told 30400293984804865 70368760954880 i → b ≡ reals (place_at i).kind
reals_are i b e = e ∙ reals-told i

pub references_are : (s : LayoutState) (b : Bool) → b ≡ told 7277827994311363220 1453645242837802 s.at → b ≡ refers (kind_at s)
references_are s b e = e ∙ references-told s.at

-- ---- the type list

pub bit_is : (t j f k : ℕ) → t ≡ j → bit_of j f ≡ k → k ≡ bit_of t f
bit_is t j f k e q = sym q ∙ ap (λ (x : ℕ). bit_of x f) (sym e)

pub bit_form : (t j f g k : ℕ) → t ≡ j → f ≡ g → bit_of j g ≡ k → k ≡ bit_of t f
bit_form t j f g k e d q = rw (e, d) (sym q)

pub no_402 : (t f : ℕ) → t ≡ 402 → (f ≡ 7 → ⊥) → 14 ≡ bit_of t f
unfolding bit_of paper
no_402 t f e h = rw e (simp (ne_eqb f 7 h))

pub no_406 : (t f : ℕ) → t ≡ 406 → (f ≡ 15 → ⊥) → 14 ≡ bit_of t f
unfolding bit_of paper
no_406 t f e h = rw e (simp (ne_eqb f 15 h))

seek-none : (rs : List Row) (t f : ℕ) (r : Type 0) → NoneOf (map (λ (q : Row). q.typ) rs) t r → seek rs t f ≡ length rs
seek-none [] t f r h = refl
seek-none (q ∷ rs) t f r h =
    simp (ne_eqb t q.typ (none_first (map (λ (q : Row). q.typ) rs) t (r × (t ≡ q.typ → ⊥)) h).1, seek-none rs t f (r × (t ≡ q.typ → ⊥)) h)

pub bit-none : (t f : ℕ) → NoneOf (map (λ (q : Row). q.typ) paper) t Unit → 14 ≡ bit_of t f
unfolding bit_of paper
bit-none t f h = sym (seek-none paper t f Unit h)

pub known-bit : (list t f k : ℕ) → k ≡ bit_of t f → k < 14 → bit k list ≡ known list t f
unfolding known paper
known-bit list t f k e h = rw (← e) (simp (lt-ltb k 14 h))

pub known-not : (list t f k : ℕ) → k ≡ bit_of t f → 14 ≤ k → false ≡ known list t f
unfolding known paper
known-not list t f k e h = rw (← e) (simp (le-ltb k 14 h))
