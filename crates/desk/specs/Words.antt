-- The words that the demands are said in.
use Rattle.std.specs.Prelude.{◌≡◌}
use Rattle.columns.specs.Refusal.{Outcome, accepted}

-- "accepted"
abbrev pub Accepts : {A : Type 0} → Outcome A → Type 0
Accepts {A} o = (a : A) × (o ≡ accepted a)

-- "exactly if"
abbrev pub Iff : Type 0 → Type 0 → Type 0
Iff A B = (A → B) × (B → A)
