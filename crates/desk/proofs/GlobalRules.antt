-- The Global section is accepted exactly if it meets its rules. Assumes nothing.
use mathlib.Core.Path.{◌≡◌, ◌∙◌}
use mathlib.Core.Bool.{Bool, true, false}
use mathlib.Core.List.{List, []}
use Prim.Native.Nat.{ℕ, ◌+◌, ◌≤◌, ◌<◌}
use native.Mathlib.Nat.{zero-add}
use native.Mathlib.Omega.{arith}
use lib.ListN.{length, get_or}
use borrow.Author.Tests.{eq-eqb}
use Rattle.columns.specs.declared.Fault.TheVariants.{Global}
use Rattle.columns.specs.Refusal.{accepted}
use Rattle.columns.specs.First.{first_not}
use Rattle.columns.proofs.First.{before_first, all_pass}
use Rattle.columns.proofs.Outcomes.{demand_true}
use Rattle.values.specs.Value.{Item, default, seen}
use Rattle.records.specs.Global.{opens, first_field, opening_of, global_fits}
use Rattle.records.proofs.Globals.{delimits, parameter_above, record_above, opening_in}
use Rattle.cards.specs.declared.Counts.{Counts}
use Rattle.cards.specs.Rules.{Holds}
use Rattle.model.specs.Read.{GlobalRead, global_read, given, global_text, field_fits, global_in}
use Rattle.model.proofs.ReadApart.{GlobalApart, alone, more, global_apart}
use Rattle.read_passes.proofs.GlobalText.{text-length}
use Rattle.desk.specs.Rules.{GlobalIs, no_fields, fields}
use Rattle.desk.proofs.Spelling.{is-spelt, is_read, ends_in, no_stray_lem, stray_none}

-- fields of their kinds in their ranges
abbrev pub Fit : List Item → Type 0
Fit vs = (k : ℕ) → k < length vs → global_fits (first_field + k) (seen (get_or vs k default)) ≡ true

pub record GlobalMeets (t : List ℕ) (g : GlobalRead) : Type 0 where
  pub items : List Item
  pub is : GlobalIs t g.parameter g.record_end items
  pub fit : Fit items

fit_of : (vs : List Item) → first_not (field_fits vs) 0 (length vs) ≡ length vs → Fit vs
fit_of vs h k l = before_first (field_fits vs) (length vs) 0 k (omega arith) (omega arith)

of_fit : (vs : List Item) → Fit vs → first_not (field_fits vs) 0 (length vs) ≡ length vs
of_fit vs h = all_pass (field_fits vs) (length vs) 0 (λ j lo hi. h j (omega arith)) ∙ zero-add (length vs)

-- ---- accepted, so it meets them

pub global_sound : (f : List ℕ) (c : Counts) (g : GlobalRead) → global_in f c ≡ accepted g → GlobalMeets (global_text f c) g
global_sound f c g h = by (global_apart f c g h)
  where
    by : GlobalApart c (global_text f c) g → GlobalMeets (global_text f c) g
    by (alone p d next eo s e) = rw e (record { items = []; is = no_fields eo (no_stray_lem c (global_text f c) next s); fit = λ k l. absurd (omega arith) })
    by (more p d next vs end eo ev s fit e) =
        rw e (record { items = vs; is = fields eo (is-spelt 72 p d (global_text f c) next vs end ev) (no_stray_lem c (global_text f c) end s); fit = fit_of vs fit })

-- ---- it meets them, so it is accepted

module _ (f : List ℕ) (c : Counts) (ho : Holds f c) where
  reach : (p d next : ℕ) (last : Bool) → opening_of (global_text f c) ≡ opens p d next last → next ≤ length (global_text f c)
  reach p d next last e = omega (arith, opening_in 8 e (delimits (global_text f c)), text-length f c ho, ho.has_g)

  pub global_complete : (p d : ℕ) (vs : List Item) → GlobalIs (global_text f c) p d vs → Fit vs → global_in f c ≡ accepted (global_read p d (given first_field vs))
  unfolding global_in given
  global_complete p d vs (no_fields {next = next} e b) h = rw (e, stray_none c (global_text f c) next (reach p d next true e) b)
  global_complete p d vs (fields {next = next} {end = end} e s b) h =
      let pc = parameter_above 8 e (delimits (global_text f c)) in
      let pd = record_above 8 e (delimits (global_text f c)) in
      let r = is_read 72 p d (global_text f c) (omega arith) (omega arith) (reach p d next false e) s in
      let l = ends_in 72 p d (global_text f c) (omega arith) (omega arith) (reach p d next false e) s in
      rw (e, r, stray_none c (global_text f c) end l b) (rw (demand_true _ Global _ (eq-eqb _ _ (of_fit vs h))))
