-- Demand 1: a refusal changes no byte of an output buffer and no slot of a lent table. Assumes nothing.
use mathlib.Core.Path.{◌≡◌, refl}
use mathlib.Core.Bool.{Bool, true, false, cond}
use mathlib.Core.List.{◌++◌}
use Prim.Native.Nat.{ℕ}
use lib.ListN.{length, drop}
use lib.Dec.{leb}
use Rattle.columns.specs.Laid.{laid}
use Rattle.columns.specs.Refusal.{accepted, refused}
use Rattle.desk.specs.Answers.{answer_of, left_in, slots_left}
use Rattle.desk.specs.Demands.{RefusalKeepsBuffer, RefusalKeepsTable}

-- what was accepted is told by 0, or there is no room for it
kept : {A : Type 0} (b : Bool) (x y : A) → (◌≡◌ {A = ℕ} (cond b 0 16) 0 → ⊥) → cond b x y ≡ y
kept true x y h = absurd (h refl)
kept false x y h = refl

pub refusal_keeps_buffer : RefusalKeepsBuffer
unfolding answer_of left_in
refusal_keeps_buffer (accepted bs) out h = kept (leb (length bs) (length out)) (laid out 0 bs) out h
refusal_keeps_buffer (refused n p) out h = refl

pub refusal_keeps_table : RefusalKeepsTable
unfolding answer_of slots_left
refusal_keeps_table (accepted rs) table h = kept (leb (length rs) (length table)) (rs ++ drop (length rs) table) table h
refusal_keeps_table (refused n p) table h = refl
