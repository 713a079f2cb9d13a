-- What holds of each of a list, and what was asked of each.
use mathlib.Core.Path.{◌≡◌, refl}
use mathlib.Core.Bool.{Bool, true, false}
use mathlib.Core.List.{List, [], ◌∷◌, map}
use Prim.Native.Nat.{ℕ, zero, suc, ◌+◌, ◌≤◌, ◌<◌}
use native.Mathlib.Omega.{arith}
use Rattle.columns.specs.declared.Signed.{Signed}
use Rattle.columns.specs.First.{up_from}
use Rattle.columns.specs.Fixed.{NormalSign}
use Rattle.columns.specs.Refusal.{Outcome, accepted, each_at}
use Rattle.columns.proofs.Stops.{Accepts, done, next, all_accepted}
use Rattle.directory.specs.Reading.{Normals}
use Rattle.sheets.specs.WellFormed.{Each, none, one, Proper}

-- a weaker fact holds of each too
pub each_also : {A : Type 0} {P Q : A → Type 0} → ((x : A) → P x → Q x) → {xs : List A} → Each P xs → Each Q xs
each_also f none = none
each_also f (one {x} {xs} p ps) = one (f x p) (each_also f ps)

-- of what was made of each
pub each_made : {A B : Type 0} {P : A → Type 0} {Q : B → Type 0} (g : A → B) → ((x : A) → P x → Q (g x)) → {xs : List A} → Each P xs → Each Q (map g xs)
each_made g f none = none
each_made g f (one {x} {xs} p ps) = one (f x p) (each_made g f ps)

-- two facts of each
pub each_both : {A : Type 0} {P Q : A → Type 0} {xs : List A} → Each P xs → Each Q xs → Each (λ (x : A). P x × Q x) xs
each_both none none = none
each_both (one p ps) (one q qs) = one (p, q) (each_both ps qs)

-- of numbers one after another
pub each_up : (P : ℕ → Type 0) (n i : ℕ) → ((j : ℕ) → i ≤ j → j < i + n → P j) → Each P (up_from i n)
unfolding up_from
each_up P zero i h = none
each_up P (suc n) i h = one (h i (omega arith) (omega arith)) (each_up P n (i + 1) (λ j lo hi. h j (omega arith) (omega arith)))

-- what each is accepted with, all are
pub each_accepts : {A : Type 0} {P : A → Type 0} (takes : A → ℕ) (f : ℕ → A → Outcome (Unit {0})) → ((p : ℕ) (x : A) → P x → f p x ≡ accepted tt)
    → (p : ℕ) {xs : List A} → Each P xs → (us : List (Unit {0})) × (each_at takes f p xs ≡ accepted us)
unfolding each_at
each_accepts takes f h p none = ([], refl)
each_accepts takes f h p (one {x} {xs} q qs) =
    let r = each_accepts takes f h (p + takes x) qs in
    (tt ∷ r.0, rw (h p x q, r.1))

-- of what was made of each
pub made_accepts : {A B : Type 0} {P : A → Type 0} (takes : B → ℕ) (f : ℕ → B → Outcome (Unit {0})) (g : A → B) → ((p : ℕ) (x : A) → P x → f p (g x) ≡ accepted tt)
    → (p : ℕ) {xs : List A} → Each P xs → (us : List (Unit {0})) × (each_at takes f p (map g xs) ≡ accepted us)
unfolding each_at
made_accepts takes f g h p none = ([], refl)
made_accepts takes f g h p (one {x} {xs} q qs) =
    let r = made_accepts takes f g h (p + takes (g x)) qs in
    (tt ∷ r.0, rw (h p x q, r.1))

-- what was accepted as a whole, each was
accepted_each : {A B : Type 0} {P : A → Type 0} {takes : A → ℕ} {f : ℕ → A → Outcome B} → ((p : ℕ) (x : A) (y : B) → f p x ≡ accepted y → P x)
    → {p : ℕ} {xs : List A} {ys : List B} → Accepts takes f p xs ys → Each P xs
accepted_each h done = none
accepted_each h (next {p} {x} {xs} {y} e s) = one (h p x y e) (accepted_each h s)

pub each_accepted : {A B : Type 0} {P : A → Type 0} (takes : A → ℕ) (f : ℕ → A → Outcome B) → ((p : ℕ) (x : A) (y : B) → f p x ≡ accepted y → P x)
    → (p : ℕ) (xs : List A) (ys : List B) → each_at takes f p xs ≡ accepted ys → Each P xs
each_accepted takes f h p xs ys e = accepted_each h (all_accepted takes f p xs ys e)

-- what is made of each holds something
made_each : {A B : Type 0} {Q : B → Type 0} {takes : A → ℕ} {f : ℕ → A → Outcome B} → ((p : ℕ) (x : A) (y : B) → f p x ≡ accepted y → Q y)
    → {p : ℕ} {xs : List A} {ys : List B} → Accepts takes f p xs ys → Each Q ys
made_each h done = none
made_each h (next {p} {x} {xs} {y} e s) = one (h p x y e) (made_each h s)

pub each_makes : {A B : Type 0} {Q : B → Type 0} (takes : A → ℕ) (f : ℕ → A → Outcome B) → ((p : ℕ) (x : A) (y : B) → f p x ≡ accepted y → Q y)
    → (p : ℕ) (xs : List A) (ys : List B) → each_at takes f p xs ≡ accepted ys → Each Q ys
each_makes takes f h p xs ys e = made_each h (all_accepted takes f p xs ys e)

-- what is known of each before holds of what was made of it
made_from : {A B : Type 0} {P : A → Type 0} {Q : B → Type 0} {takes : A → ℕ} {f : ℕ → A → Outcome B} → ((p : ℕ) (x : A) (y : B) → P x → f p x ≡ accepted y → Q y)
    → {p : ℕ} {xs : List A} {ys : List B} → Each P xs → Accepts takes f p xs ys → Each Q ys
made_from h none done = none
made_from {takes = takes} h {p = p} (one {x = x} q qs) (next {x = x'} {y = y} e s) = one (h p x y q e) (made_from h {p = p + takes x} qs s)

pub each_from : {A B : Type 0} {P : A → Type 0} {Q : B → Type 0} (takes : A → ℕ) (f : ℕ → A → Outcome B) → ((p : ℕ) (x : A) (y : B) → P x → f p x ≡ accepted y → Q y)
    → (p : ℕ) {xs : List A} → Each P xs → (ys : List B) → each_at takes f p xs ≡ accepted ys → Each Q ys
each_from takes f h p {xs} qs ys e = made_from h qs (all_accepted takes f p xs ys e)

-- ---- numbers of an entry

-- none of them is a nought with a sign
normal : (x : Signed) → Proper x → NormalSign x
normal x p z = pick x.neg refl
  where
    pick : (b : Bool) → x.neg ≡ b → b ≡ false
    pick true e = absurd (p.minus e z)
    pick false e = refl

pub normals : {xs : List Signed} → Each Proper xs → Normals xs
normals none = tt
normals (one {x} p ps) = (normal x p, normals ps)
