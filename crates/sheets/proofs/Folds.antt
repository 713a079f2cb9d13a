-- The code's form of a number keeps within the largest number exactly if the text is such a number, and then it is that number.
use mathlib.Core.Path.{◌≡◌, refl, sym, ap, ◌∙◌}
use mathlib.Core.Bool.{Bool, true, false, cond, ◌&&◌}
use mathlib.Core.List.{List, [], ◌∷◌, ◌++◌, append_assoc, append-nil}
use Prim.Native.Nat.{ℕ, ◌+◌, ◌-◌, ◌*◌, ◌/◌, ◌%◌, ◌≤◌, ◌<◌}
use native.Mathlib.Omega.{arith}
use native.Mathlib.Decide.{dec_lt, ℕ_discrete}
use lib.ListN.{length, get_or, drop}
use lib.Dec.{ltb, leb, eqb}
use borrow.Author.Tests.{le-leb, lt-leb, ne_eqb, leb-true, leb-false, ltb-true, lt-ltb}
use Rattle.columns.specs.Decimal.{dec}
use Rattle.columns.specs.Format.{most_integer}
use Rattle.columns.proofs.Tests.{both, both_true}
use Rattle.columns.proofs.Decimals.{dec_small, dec_big, by_digits_lem, count-is}
use Rattle.values.specs.Number.{value}
use Rattle.values.proofs.Digits.{Ds, one, dec_ds, dec-value}
use Rattle.sheets.specs.Plain.{sized, plain_of, is_plain, is_signed, signed_number, is_status, status_number}
use Rattle.sheets.specs.Line.{is_entry_number, entry_number}
use Rattle.sheets.specs.Folds.{misspelt, unread, digit_after, size_from, plain_fold, minus_of, signed_fold, status_from, status_fold, entry_fold}
use Rattle.sheets.proofs.Plains.{step_low, step_high, step_first, step-nought, step_big, step-more, minus_some, minus-nought, status_low, status_some, status_high}
use Rattle.sheets.proofs.Digits.{plain_round, plain_back, is-minus, is-unsigned, status_is, one-front, behind-one}

-- ---- one more byte
dec-more : (n d : ℕ) → 0 < n → d < 10 → dec (n * 10 + d) ≡ dec n ++ ((48 + d) ∷ [])
dec-more n d h k =
    let a : (n * 10 + d) / 10 ≡ n = omega arith in
    let b : (n * 10 + d) % 10 ≡ d = omega arith in
    dec_big (n * 10 + d) (omega arith) ∙ rw (a, b)

-- what was spelt is read
size-dec : (v : ℕ) → v ≤ most_integer → (rest : List ℕ) → plain_fold (dec v ++ rest) ≡ size_from v rest
unfolding size_from
size-dec = by_digits_lem (λ (v : ℕ). v ≤ most_integer → (rest : List ℕ) → plain_fold (dec v ++ rest) ≡ size_from v rest)
    (λ v h l rest. rw (dec_small v h) (ap (λ (k : ℕ). size_from k rest) (sym (step_first unread (48 + v) (omega arith) (omega arith) v (omega arith) refl))))
    (λ v h p l rest. rw (dec_big v h, append_assoc) (p (omega arith) _ ∙ ap (λ (k : ℕ). size_from k rest)
    (sym (step-more (v / 10) (48 + v % 10) (omega arith) (omega arith) (v % 10) (omega arith) (omega arith) (omega arith) (omega arith)) ∙ omega arith)))

size_own : (v : ℕ) → v ≤ most_integer → plain_fold (dec v) ≡ v
unfolding size_from
size_own v h = rw append-nil at (size-dec v h [])

-- what was read was spelt so
stays : (bs : List ℕ) → size_from misspelt bs ≡ misspelt
unfolding size_from
stays [] = refl
stays (b ∷ bs) = ap (λ (k : ℕ). size_from k bs) (wrong b) ∙ stays bs
  where
    wrong : (b : ℕ) → digit_after misspelt b ≡ misspelt
    wrong b = elim (dec_lt b 48) [
      | yes l ↦ sym (step_low _ b l)
      | no l ↦ elim (dec_lt 57 b) [
        | yes k ↦ sym (step_high _ b (omega arith) k)
        | no k ↦ sym (step_big _ b (omega arith) (omega arith) (b - 48) refl (omega arith) (omega arith) (omega arith))
      ]
    ]

-- what one more byte makes of a number
data Stepped (n b : ℕ) : Type 0 where
  wrong : digit_after n b ≡ misspelt → Stepped n b
  more : 48 ≤ b → b ≤ 57 → 0 < n → n * 10 + (b - 48) ≤ most_integer → digit_after n b ≡ n * 10 + (b - 48) → Stepped n b

stepped : (n b : ℕ) → n ≤ most_integer → Stepped n b
stepped n b h = elim (dec_lt b 48) [
  | yes l ↦ wrong (sym (step_low n b l))
  | no l ↦ elim (dec_lt 57 b) [
    | yes k ↦ wrong (sym (step_high n b (omega arith) k))
    | no k ↦ elim (ℕ_discrete n 0) [
      | yes z ↦ wrong (sym (step-nought n b (omega arith) (omega arith) z))
      | no z ↦ elim (dec_lt most_integer (n * 10 + (b - 48))) [
        | yes g ↦ wrong (sym (step_big n b (omega arith) (omega arith) (b - 48) refl (omega arith) z g))
        | no g ↦ more (omega arith) (omega arith) (omega arith) (omega arith) (sym (step-more n b (omega arith) (omega arith) (b - 48) refl (omega arith) z (omega arith)))
      ]
    ]
  ]
]

size_back : (bs : List ℕ) (n : ℕ) → n ≤ most_integer → size_from n bs ≤ most_integer → dec (size_from n bs) ≡ dec n ++ bs
unfolding size_from
size_back [] n h k = sym (append-nil (dec n))
size_back (b ∷ bs) n h k = pick (stepped n b h) (size_back bs (n * 10 + (b - 48)))
  where
    pick : Stepped n b → (n * 10 + (b - 48) ≤ most_integer → size_from (n * 10 + (b - 48)) bs ≤ most_integer → dec (size_from (n * 10 + (b - 48)) bs) ≡ dec (n * 10 + (b - 48)) ++ bs)
        → dec (size_from (digit_after n b) bs) ≡ dec n ++ (b ∷ bs)
    pick (wrong e) ih = absurd (omega (arith, stays bs, rw e at k))
    pick (more lo hi p g e) ih =
        let d : 48 + (b - 48) ≡ b = omega arith in
        rw (e, ih g (rw e at k), dec-more n (b - 48) p (omega arith), append_assoc, d)

size_all : (f : List ℕ) → plain_fold f ≤ most_integer → dec (plain_fold f) ≡ f
unfolding size_from
size_all [] h = absurd (omega arith)
size_all (b ∷ bs) h = elim (dec_lt b 48) [
  | yes l ↦ absurd (omega (arith, stays bs, rw (← step_low unread b l) at h))
  | no l ↦ elim (dec_lt 57 b) [
    | yes k ↦ absurd (omega (arith, stays bs, rw (← step_high unread b (omega arith) k) at h))
    | no k ↦ first (sym (step_first unread b (omega arith) (omega arith) (b - 48) refl refl)) (omega arith) (omega arith)
  ]
]
  where
    first : digit_after unread b ≡ b - 48 → 48 ≤ b → b ≤ 57 → dec (size_from (digit_after unread b) bs) ≡ b ∷ bs
    first e lo hi =
        let d : 48 + (b - 48) ≡ b = omega arith in
        rw (e, size_back bs (b - 48) (omega arith) (rw e at h), dec_small (b - 48) (omega arith), d)

-- ---- each form tells

-- a form of this size gives x; the text is such a number exactly if the size is within the largest, and then x is that number, y
pub record Tells {A : Type 0} (size : ℕ) (is : Bool) (x y : A) : Type 0 where
  pub within : leb size most_integer ≡ is
  pub same : is ≡ true → x ≡ y

module _ {A : Type 0} {size : ℕ} {is : Bool} {x y : A} where
  tells : (size ≤ most_integer → (is ≡ true) × (x ≡ y)) → (is ≡ true → size ≤ most_integer) → Tells size is x y
  tells f g = record { within = pick (leb size most_integer) refl is refl; same = λ e. (f (g e)).1 }
    where
      pick : (a : Bool) → leb size most_integer ≡ a → (b : Bool) → is ≡ b → a ≡ b
      pick true e b h = sym (f (leb-true _ _ e)).0 ∙ h
      pick false e false h = refl
      pick false e true h = absurd (omega (arith, leb-false size most_integer e, g h))

  pub tells_good : Tells size is x y → size ≤ most_integer → (is ≡ true) × (x ≡ y)
  tells_good t h =
      let e : is ≡ true = sym t.within ∙ le-leb _ _ h in
      (e, t.same e)

  pub tells_bad : Tells size is x y → most_integer < size → is ≡ false
  tells_bad t h = sym t.within ∙ lt-leb _ _ h

past : misspelt ≤ most_integer → ⊥
past h = omega arith

-- a number without a sign
pub plain-fold : (f : List ℕ) → Tells (plain_fold f) (is_plain f) (plain_fold f) (plain_of f)
plain-fold f = tells good back
  where
    good : plain_fold f ≤ most_integer → (is_plain f ≡ true) × (plain_fold f ≡ plain_of f)
    good h =
        let e : dec (plain_fold f) ≡ f = size_all f h in
        (ap is_plain (sym e) ∙ plain_round (plain_fold f) h, sym (dec-value (plain_fold f)) ∙ ap (value 0) e)

    back : is_plain f ≡ true → plain_fold f ≤ most_integer
    back e =
        let b = plain_back f e in
        rw (← b.0, size_own (plain_of f) b.1) b.1

-- a number with a minus or without
minus-fold : (f : List ℕ) → Tells (minus_of (plain_fold f)).size (is_plain f && ltb 0 (plain_of f)) (minus_of (plain_fold f)) (sized true (plain_of f))
minus-fold f = tells good back
  where
    n : ℕ
    n = plain_fold f

    good : (minus_of n).size ≤ most_integer → (is_plain f && ltb 0 (plain_of f) ≡ true) × (minus_of n ≡ sized true (plain_of f))
    good h = elim (ℕ_discrete n 0) [
      | yes z ↦ absurd (past (rw (← minus-nought n z) at h))
      | no z ↦ some z (tells_good (plain-fold f) (rw (← minus_some n z) at h))
    ]
      where
        some : (n ≡ 0 → ⊥) → (is_plain f ≡ true) × (n ≡ plain_of f) → (is_plain f && ltb 0 (plain_of f) ≡ true) × (minus_of n ≡ sized true (plain_of f))
        some z g = (both_true g.0 (lt-ltb 0 (plain_of f) (omega (arith, g.1))), sym (minus_some n z) ∙ ap (sized true) g.1)

    back : is_plain f && ltb 0 (plain_of f) ≡ true → (minus_of n).size ≤ most_integer
    back e =
        let p = both (is_plain f) (ltb 0 (plain_of f)) e in
        let g = (plain-fold f).same p.0 in
        let z : n ≡ 0 → ⊥ = omega (arith, g, ltb-true 0 (plain_of f) p.1) in
        rw (← minus_some n z, g) (plain_back f p.0).1

fold-minus : (f : List ℕ) → get_or f 0 0 ≡ 45 → signed_fold f ≡ minus_of (plain_fold (drop 1 f))
unfolding signed_fold
fold-minus f e = rw e

fold-plain : (f : List ℕ) → (get_or f 0 0 ≡ 45 → ⊥) → signed_fold f ≡ sized false (plain_fold f)
unfolding signed_fold
fold-plain f e = rw (ne_eqb _ _ e)

pub signed-fold : (f : List ℕ) → Tells (signed_fold f).size (is_signed f) (signed_fold f) (signed_number f)
signed-fold f = elim (ℕ_discrete (get_or f 0 0) 45) [
  | yes e ↦ rw (fold-minus f e, (is-minus f e).0, (is-minus f e).1) (minus-fold (drop 1 f))
  | no e ↦ rw (fold-plain f e, (is-unsigned f e).0, (is-unsigned f e).1) (record { within = (plain-fold f).within; same = λ g. ap (sized false) ((plain-fold f).same g) })
]

-- a status: the number is read behind a 1
front_of : (f : List ℕ) → size_from 1 f ≡ plain_fold (49 ∷ f)
unfolding size_from digit_after
front_of f = refl

pub status_fold_lem : (f : List ℕ) → Tells (status_fold f).size (is_status f) (status_fold f) (status_number f)
unfolding status_fold status_number
status_fold_lem f = tells good back
  where
    s : ℕ
    s = size_from 1 f

    behind : {b : ℕ} {bs : List ℕ} → Ds (b ∷ bs) → Ds bs
    behind (one e d) = d

    eight : 100000000 ≤ s → s < 200000000 → (is_status f ≡ true) × (status_from s ≡ sized false (plain_of f))
    eight l k =
        let d : dec s ≡ 49 ∷ f = ap dec (front_of f) ∙ size_all (49 ∷ f) (rw (← front_of f) (omega arith)) in
        let n : length f ≡ 8 = omega (arith, count-is 8 s l (omega arith), ap (λ (x : List ℕ). length x) d) in
        let g : Ds f = behind (rw d at (dec_ds s)) in
        let v : s ≡ value 0 (49 ∷ f) = sym (dec-value s) ∙ ap (value 0) d in
        (status_is g n, sym (status_some s l k) ∙ ap (sized false) (omega (arith, v, one-front g n)))

    good : (status_from s).size ≤ most_integer → (is_status f ≡ true) × (status_from s ≡ sized false (plain_of f))
    good h = elim (dec_lt s 100000000) [
      | yes l ↦ absurd (past (rw (← status_low s l) at h))
      | no l ↦ elim (dec_lt s 200000000) [ yes k ↦ eight (omega arith) k | no k ↦ absurd (past (rw (← status_high s (omega arith) (omega arith)) at h)) ]
    ]

    back : is_status f ≡ true → (status_from s).size ≤ most_integer
    back e =
        let b = behind-one f e in
        let v : s ≡ 100000000 + plain_of f = front_of f ∙ ap plain_fold (sym b.0) ∙ size_own (100000000 + plain_of f) (omega (arith, b.1)) in
        rw (← status_some s (omega arith) (omega (arith, b.1))) (omega (arith, b.1))

-- a number of an entry line that so many others follow
pub entry-fold : (left : ℕ) (f : List ℕ) → Tells (entry_fold left f).size (is_entry_number left f) (entry_fold left f) (entry_number left f)
unfolding entry_fold is_entry_number entry_number
entry-fold left f = pick (eqb left 3)
  where
    pick : (b : Bool) → Tells (cond b (status_fold f) (signed_fold f)).size (cond b (is_status f) (is_signed f)) (cond b (status_fold f) (signed_fold f)) (cond b (status_number f) (signed_number f))
    pick true = status_fold_lem f
    pick false = signed-fold f
