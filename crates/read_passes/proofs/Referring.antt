-- References one by one, and entry by entry in one walk with 9 and 13, ask what rule 10 asks of all.
use mathlib.Core.Path.{◌≡◌, refl, sym, ap, ap₂, ◌∙◌}
use mathlib.Core.Bool.{Bool, true, false}
use mathlib.Core.List.{List}
use Prim.Native.Nat.{ℕ, ◌+◌, ◌-◌, ◌*◌, ◌/◌}
use native.Mathlib.Nat.{sub-zero}
use native.Mathlib.Omega.{arith}
use Rattle.columns.specs.declared.Fault.{Fault}
use Rattle.columns.specs.declared.Fault.TheVariants.{Reference}
use Rattle.columns.specs.declared.FileLine.{FileLine}
use Rattle.columns.specs.Refusal.{Outcome, accepted, refused, demand, ◌then◌}
use Rattle.cards.specs.declared.Counts.{Counts}
use Rattle.cards.specs.Cards.{first_d, entries, entry_line}
use Rattle.directory.specs.declared.Fields.{Fields}
use Rattle.directory.specs.declared.Entry.{Entry}
use Rattle.std.specs.Prelude.{Option, Some, Result, Ok, ⊤}
use Rattle.directory.specs.declared.Spelt.{Spelt}
use Rattle.directory.specs.Fields.{entry_of as meaning_of}
use Rattle.directory.specs.Lines.{entry_at, label_at}
use Rattle.directory.specs.Rules.{all_fit, references, reference_rule}
use Rattle.directory.specs.Asking.{rule_of}
use Rattle.directory.specs.Naming.{types_at}
use Rattle.model.specs.Read.{Listed, first_entry, entries_in, references_of, references_in}
use Rattle.model.proofs.Types.{types-listed}
use Rattle.std.specs.Prelude.{Err}
use Rattle.columns.specs.declared.Refusal.{Refusal}
use Rattle.columns.specs.Refusal.{refusal_at}
use Rattle.read_passes.specs.Passes.{FilePass}
use Rattle.read_passes.specs.Passes.{pass_of}
use Rattle.read_passes.specs.Listed.{listed_of, listed_at, entry_of, all_entries, all_types}
use Rattle.read_passes.specs.Walks.{or_else, first_among, turn_of, entry_check, reference_check, entries_outcome}
use Rattle.read_passes.proofs.Listing.{entries_are}
use Rattle.read_passes.proofs.Walks.{row_walk, entries_walk, both_on, both_here, both_end, turn_wrong, turn_good, turn_refused}
use Rattle.read_passes.proofs.Whole.{good_entries}

-- ---- those of one entry

module _ (types : List ℕ) (x : Fields) (line : FileLine) (kept : FilePass) where
  pub kept_stays : (n : Refusal FileLine) → kept ≡ Err n → Err n ≡ or_else kept (pass_of (reference_rule types x line.0))
  kept_stays n e = rw e

  module _ (g : kept ≡ Ok tt) (y : Entry) (ey : y ≡ meaning_of x) (b : Bool) (eb : b ≡ all_fit types (references y)) where
    asked : or_else kept (pass_of (reference_rule types x line.0)) ≡ pass_of (demand b Reference line.0)
    unfolding reference_rule
    asked = rw (g, ← ey, ← eb)

    pub refer_good : b ≡ true → Ok tt ≡ or_else kept (pass_of (reference_rule types x line.0))
    refer_good h = sym (asked ∙ rw h)

    pub refer-wrong : b ≡ false → Err (refusal_at Reference line) ≡ or_else kept (pass_of (reference_rule types x line.0))
    refer-wrong h = sym (asked ∙ rw h)

pub ruleset refers = (kept_stays, refer_good, refer-wrong)

-- ---- one entry

module _ (f : List ℕ) (c : Counts) (i k : ℕ) (r : Option Spelt) (ek : k ≡ entry_line c i) (er : r ≡ entry_at f k) where
  place : k + 1 ≡ first_entry c + 2 * i
  place = omega arith

  module _ (x : Spelt) (e : r ≡ Some x) where
    refers-at : reference_check f c i ≡ pass_of (reference_rule (types_at f (first_d c) (entries c)) x.fields (k + 1))
    unfolding reference_check listed_at
    refers-at =
        let q : (entry_of f c i).fields ≡ x.fields = ap (λ (y : Option Spelt). (listed_of (label_at f (entry_line c i)) y).fields) (ap (entry_at f) (sym ek) ∙ sym er ∙ e) in
        ap₂ (λ (y : Fields) (p : ℕ). pass_of (reference_rule (types_at f (first_d c) (entries c)) y p)) q (sym place)

    pub turn_kept : (rule : Result ⊤ Fault) → rule ≡ rule_of x.fields → rule ≡ Ok tt → (kept next : FilePass) (first d : ℕ) → first ≡ entry_line c 0 → d ≡ c.d
        → next ≡ or_else kept (pass_of (reference_rule (types_at f first (d / 2)) x.fields (k + 1))) → Ok next ≡ turn_of (entry_check f c i) (or_else kept (reference_check f c i))
    turn_kept rule eq g kept next first d ef ed en =
        let s : first ≡ first_d c = omega arith in
        let q : next ≡ or_else kept (reference_check f c i) = en ∙ rw (s, ed, refers-at) in
        ap (λ (p : FilePass). Ok p) q ∙ turn_good f c i k r ek er x e rule eq (or_else kept (reference_check f c i)) g

-- ---- all entries

-- the types that stand on the D lines are those of the entries, where all pass
pub types-stand : (f : List ℕ) (c : Counts) → pass_of (entries_in f c) ≡ Ok tt → all_types f c ≡ types_at f (first_d c) (entries c)
types-stand f c good = types-listed f c (all_entries f c) (good_entries f c good)

references_walk : (f : List ℕ) (c : Counts) → pass_of (entries_in f c) ≡ Ok tt → pass_of (references_in c (all_entries f c)) ≡ first_among (reference_check f c) 0 (entries c)
unfolding references_in reference_check
references_walk f c good =
    rw (types-stand f c good) (row_walk (references_of (types_at f (first_d c) (entries c))) (entry_of f c) (first_entry c) (entries c) 0 (first_entry c) (omega arith))

-- 10 has a say if all entries pass 9 and 13
both_walk : (f : List ℕ) (c : Counts) → or_else (first_among (entry_check f c) 0 (entries c)) (first_among (reference_check f c) 0 (entries c)) ≡ pass_of (entries_outcome f c)
unfolding entries_outcome
both_walk f c = rw (← entries_walk f c) (by (entries_in f c) refl)
  where
    by : (o : Outcome (List Listed)) → entries_in f c ≡ o → or_else (pass_of o) (first_among (reference_check f c) 0 (entries c)) ≡ pass_of (o then λ es. references_in c es)
    by (accepted es) e = sym (ap (λ (us : List Listed). pass_of (references_in c us)) (entries_are f c es e) ∙ references_walk f c (ap pass_of e))
    by (refused n p) e = refl

pub both_start : (f : List ℕ) (c : Counts) (d : ℕ) → d ≡ c.d
    → or_else (first_among (entry_check f c) 0 (d / 2 - 0)) (or_else (Ok tt) (first_among (reference_check f c) 0 (d / 2 - 0))) ≡ pass_of (entries_outcome f c)
both_start f c d e = rw (sub-zero, e) (both_walk f c)

pub ruleset turns = (turn_wrong, turn_refused, turn_kept, both_start, both_on, both_here, both_end)
