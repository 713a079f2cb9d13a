-- Refusals: the paper's number of each, and "the first refusal wins".
use Rattle.std.specs.Prelude.{Bool, true, false, List, [], ◌∷◌, ℕ, ◌+◌}
use Rattle.columns.specs.declared.Fault.{Fault}
use Rattle.columns.specs.declared.Refusal.{Refusal}
use Rattle.columns.specs.declared.Fault.TheVariants.{ListOrLength, Byte, Section, Sequence, Terminate, Spelling, Limit, Global}
use Rattle.columns.specs.declared.Fault.TheVariants.{Directory, Reference, Ownership, FirstValue, Macro, Layout, LayoutReference}
use Rattle.columns.specs.declared.Fault.TheVariants.{Room, SheetLine, Mark, TooLong}

-- "Refusal numbers and their order": the table
abbrev pub number : Fault → ℕ
number ListOrLength = 1
number Byte = 2
number Section = 3
number Sequence = 4
number Terminate = 5
number Spelling = 6
number Limit = 7
number Global = 8
number Directory = 9
number Reference = 10
number Ownership = 11
number FirstValue = 12
number Macro = 13
number Layout = 14
number LayoutReference = 15
number Room = 16
number SheetLine = 17
number Mark = 18
number TooLong = 19

-- a refusal at a line
abbrev pub refusal_at : {L : Type 0} → Fault → L → Refusal L
refusal_at n l = record { fault = n; line = l }

-- what was asked for, or a refusal and its place
pub data Outcome (A : Type 0) : Type 0 where
  accepted : A → Outcome A
  refused : Fault → ℕ → Outcome A

infixl 20 ◌then◌
-- the first refusal wins
abbrev pub ◌then◌ : {A B : Type 0} → Outcome A → (A → Outcome B) → Outcome B
(accepted a) then f = f a
(refused n p) then f = refused n p

-- a test that refuses
abbrev pub demand : Bool → Fault → ℕ → Outcome (Unit {0})
demand true n p = accepted tt
demand false n p = refused n p

-- one after the other, the first refusal wins: the first has this place, and the next stands as much further on as the one before takes
unfoldable pub each_at : {A B : Type 0} → (A → ℕ) → (ℕ → A → Outcome B) → ℕ → List A → Outcome (List B)
each_at takes f place [] = accepted []
each_at takes f place (x ∷ xs) = f place x then λ y. each_at takes f (place + takes x) xs then λ ys. accepted (y ∷ ys)
