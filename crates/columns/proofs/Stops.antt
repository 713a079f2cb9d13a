-- A pass over elements accepts each of them, or its refusal has an index and all before it are accepted. Assumes nothing.
use mathlib.Core.Path.{◌≡◌, refl, sym, ap₂, ◌∙◌}
use mathlib.Core.List.{List, [], ◌∷◌, map, map-id}
use Prim.Native.Nat.{ℕ, suc, ◌+◌}
use native.Mathlib.Omega.{arith}
use Rattle.columns.specs.declared.Fault.{Fault}
use Rattle.columns.specs.Refusal.{Outcome, accepted, refused, each_at, ◌then◌}
use Rattle.columns.proofs.Outcomes.{then_accepted}

-- a pass over elements from a place on stops at element i, counted from 0: those before it pass, and it is refused
pub data Stops {A B : Type 0} (takes : A → ℕ) (f : ℕ → A → Outcome B) : ℕ → List A → ℕ → Fault → ℕ → Type 0 where
  here : {p : ℕ} {x : A} {xs : List A} {n : Fault} {q : ℕ} → f p x ≡ refused n q → Stops takes f p (x ∷ xs) 0 n q
  later : {p : ℕ} {x : A} {xs : List A} {i : ℕ} {n : Fault} {q : ℕ} (y : B) → f p x ≡ accepted y → Stops takes f (p + takes x) xs i n q
      → Stops takes f p (x ∷ xs) (suc i) n q

pub not_both : {A : Type 0} {a : A} {n : Fault} {p : ℕ} → accepted a ≡ refused n p → ⊥
not_both e = let z : ◌≡◌ {A = ℕ} 0 1 = cc in omega arith

module _ {A B : Type 0} (takes : A → ℕ) (f : ℕ → A → Outcome B) where
  -- a refusal has an index
  pub first_refused : (p : ℕ) (xs : List A) (n : Fault) (q : ℕ) → each_at takes f p xs ≡ refused n q → (i : ℕ) × Stops takes f p xs i n q
  unfolding each_at
  first_refused p [] n q e = absurd (not_both e)
  first_refused p (x ∷ xs) n q e = one (f p x) refl e (first_refused (p + takes x) xs n q)
    where
      two : (o : Outcome (List B)) (y : B) → f p x ≡ accepted y → (o then λ ys. accepted (y ∷ ys)) ≡ refused n q
          → (o ≡ refused n q → (i : ℕ) × Stops takes f (p + takes x) xs i n q) → (i : ℕ) × Stops takes f p (x ∷ xs) i n q
      two (accepted ys) y k e again = absurd (not_both e)
      two (refused m r) y k e again = let s = again (cc) in (suc s.0, later y k s.1)

      one : (o : Outcome B) → f p x ≡ o → (o then λ y. each_at takes f (p + takes x) xs then λ ys. accepted (y ∷ ys)) ≡ refused n q
          → (each_at takes f (p + takes x) xs ≡ refused n q → (i : ℕ) × Stops takes f (p + takes x) xs i n q) → (i : ℕ) × Stops takes f p (x ∷ xs) i n q
      one (accepted y) k e again = two (each_at takes f (p + takes x) xs) y k e again
      one (refused m r) k e again = let h : f p x ≡ refused n q = cc in (0, here h)

  -- and what stops is refused
  pub stops_refused : {p : ℕ} {xs : List A} {i : ℕ} {n : Fault} {q : ℕ} → Stops takes f p xs i n q → each_at takes f p xs ≡ refused n q
  unfolding each_at
  stops_refused (here e) = rw e
  stops_refused (later y e s) = rw (e, stops_refused s)

-- ---- all pass

-- a pass over elements from a place on accepts each, and makes these of them
pub data Accepts {A B : Type 0} (takes : A → ℕ) (f : ℕ → A → Outcome B) : ℕ → List A → List B → Type 0 where
  done : {p : ℕ} → Accepts takes f p [] []
  next : {p : ℕ} {x : A} {xs : List A} {y : B} {ys : List B} → f p x ≡ accepted y → Accepts takes f (p + takes x) xs ys → Accepts takes f p (x ∷ xs) (y ∷ ys)

module _ {A B : Type 0} (takes : A → ℕ) (f : ℕ → A → Outcome B) where
  -- what was accepted as a whole, each was
  pub all_accepted : (p : ℕ) (xs : List A) (ys : List B) → each_at takes f p xs ≡ accepted ys → Accepts takes f p xs ys
  unfolding each_at
  all_accepted p [] ys e = let z : [] ≡ ys = cc in rw (← z) done
  all_accepted p (x ∷ xs) ys e =
      let b = then_accepted (f p x) _ ys e in
      let d = then_accepted (each_at takes f (p + takes x) xs) _ ys b.second in
      let s = d.second in
      let z : b.value ∷ d.value ≡ ys = cc in
      rw (← z) (next b.first (all_accepted (p + takes x) xs d.value d.first))

  -- and where each is, the whole is
  pub accepts_all : {p : ℕ} {xs : List A} {ys : List B} → Accepts takes f p xs ys → each_at takes f p xs ≡ accepted ys
  unfolding each_at
  accepts_all done = refl
  accepts_all (next e s) = rw (e, accepts_all s)

  -- what is told of each made is what is told of what it was made of
  accepts_alike : {C : Type 0} (tell : B → C) (told : A → C) → ((p : ℕ) (x : A) (y : B) → f p x ≡ accepted y → tell y ≡ told x)
      → {p : ℕ} {xs : List A} {ys : List B} → Accepts takes f p xs ys → map tell ys ≡ map told xs
  accepts_alike tell told h done = refl
  accepts_alike {C} tell told h (next {p} {x} {xs} {y} e s) = ap₂ (λ (u : C) (us : List C). u ∷ us) (h p x y e) (accepts_alike tell told h s)

  pub each_alike : {C : Type 0} (tell : B → C) (told : A → C) → ((p : ℕ) (x : A) (y : B) → f p x ≡ accepted y → tell y ≡ told x)
      → (p : ℕ) (xs : List A) (ys : List B) → each_at takes f p xs ≡ accepted ys → map tell ys ≡ map told xs
  each_alike tell told h p xs ys e = accepts_alike tell told h (all_accepted p xs ys e)

  -- what each was made to
  pub each_is : (made : A → B) → ((p : ℕ) (x : A) (y : B) → f p x ≡ accepted y → y ≡ made x)
      → (p : ℕ) (xs : List A) (ys : List B) → each_at takes f p xs ≡ accepted ys → ys ≡ map made xs
  each_is made h p xs ys e = sym (map-id ys) ∙ each_alike (λ y. y) made h p xs ys e
