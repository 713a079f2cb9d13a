-- Demand 3 d does not hold of a smaller list's buffer that is too short: 16 and 15 for one file. Assumes nothing.
use mathlib.Core.Path.{◌≡◌, refl, sym, ap, ◌∙◌}
use mathlib.Core.List.{List, []}
use mathlib.Core.Logic.{◌⊎◌, inl, inr}
use Prim.Native.Nat.{ℕ}
use native.Mathlib.Omega.{arith}
use lib.ListN.{length}
use Rattle.columns.specs.Refusal.{accepted, refused}
use Rattle.columns.specs.Format.{most_list}
use Rattle.layouts.proofs.Demand.{all_types_lem}
use Rattle.model.specs.Read.{reads}
use Rattle.desk.specs.declared.Answer.{Answer}
use Rattle.desk.specs.Answers.{answer_of, left_in}
use Rattle.desk.specs.Demands.{OneInside}
use Rattle.desk.proofs.Entries.{refused_at_entry}
use Rattle.demands.specs.Calls.{ReadCall, read}
use Rattle.demands.specs.Lists.{EarlierAnswer, RoomNeeded}
use Rattle.demands.specs.NoRoom.{surface, sheet, no_room}

-- a call for every list, file and buffer
called : (list : ℕ) (file o : List ℕ) → ReadCall list file o (answer_of (length o) (reads list file)) (left_in o (reads list file))
called list file o =
    read ([], ([], tt)) (list, (record { ref_ptr = (0, 0); now = file }, (record { ref_ptr = (0, 0); ghost_name = 0; now = o }, tt))) _ (tt, (tt, (_, tt))) (refl, refl)

inside : OneInside 0 most_list
inside = record { small_list = (omega arith); large_list = (omega arith); inside = all_types_lem 0 (omega arith) }

pub room_needed : RoomNeeded
room_needed d = by (d 0 most_list inside surface [] _ [] _ _ _ (called 0 surface []) (λ z. sixteen z) tt (called most_list surface []))
  where
    sixteen : (answer_of 0 (reads 0 surface)).number ≡ 0 → ⊥
    sixteen z = let k : ◌≡◌ {A = ℕ} 16 0 = sym (ap (λ (a : Answer). a.number) no_room.1) ∙ z in omega arith

    by : (answer_of 0 (reads most_list surface) ≡ answer_of 0 (reads 0 surface))
        ⊎ EarlierAnswer 0 most_list surface (answer_of 0 (reads 0 surface)) (answer_of 0 (reads most_list surface)) → ⊥
    by (inl e) =
        let k : ◌≡◌ {A = ℕ} 15 16 = ap (λ (a : Answer). a.number) (sym no_room.2 ∙ e ∙ no_room.1) in
        omega arith
    by (inr e) =
        let k = e.entry in
        let r : reads 0 surface ≡ refused e.n e.p = (refused_at_entry 0 surface k.reached (omega arith) k.before_last e.n e.p).1 k.i k.smaller in
        let a : reads 0 surface ≡ accepted sheet = no_room.0 in
        let z : ◌≡◌ {A = ℕ} 0 1 = cc in
        omega arith
