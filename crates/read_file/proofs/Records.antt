-- A file that passes all checks has no record that is refused. Assumes nothing.
use mathlib.Core.Path.{◌≡◌, refl, sym, ap, ◌∙◌}
use mathlib.Core.List.{List}
use Prim.Native.Nat.{ℕ, ◌+◌, ◌-◌, ◌*◌, ◌/◌, ◌<◌}
use native.Mathlib.Omega.{arith}
use Rattle.columns.specs.Columns.{text_of}
use Rattle.cards.specs.declared.Counts.{Counts}
use Rattle.cards.specs.Cards.{first_d, first_p, entries, parameter_line}
use Rattle.records.specs.Record.{Values, values, wrong, values_at}
use Rattle.model.specs.Read.{Listed, first_entry, parameters_of, by_parameters, entity_in, last_pass}
use Rattle.std.specs.Prelude.{Ok}
use Rattle.read_passes.specs.Passes.{told, pass_of}
use Rattle.read_passes.specs.Listed.{entry_of, all_types}
use Rattle.read_passes.specs.Ready.{Ready}
use Rattle.read_passes.proofs.Facts.{Entered, entered}
use Rattle.read_passes.proofs.Walks.{each_good, row_walk}
use Rattle.read_weights.specs.Checks.{delimited, check_of}
use Rattle.read_weights.proofs.Facts.{checked-model, checked-ready}
use Rattle.print.specs.Taking.{Unrefused}
use Rattle.print.specs.Rows.{SpeltReads, RowReads, RowsRead}

-- what the last pass accepts was read
accepted_reads : (list : ℕ) (types : List ℕ) (place : ℕ) (e : Listed) (vals : Values) → pass_of (by_parameters list types place e vals) ≡ Ok tt → Unrefused vals
accepted_reads list types place e (values vs end) h = record { items = vs; end = end; is = refl }
accepted_reads list types place e (wrong n start at) h = let z : ◌≡◌ {A = ℕ} 0 1 = cc in absurd (omega arith)

module _ (list : ℕ) (f : List ℕ) (c : Counts) (p d : ℕ) (h : Ok (told c p d) ≡ check_of list f) where
  entity-passes : (i : ℕ) → i < entries c → pass_of (entity_in list f c (delimited p d) (all_types f c) (first_entry c + 2 * i) (entry_of f c i)) ≡ Ok tt
  unfolding last_pass
  entity-passes i k =
      each_good (λ j. pass_of (entity_in list f c (delimited p d) (all_types f c) (first_entry c + 2 * j) (entry_of f c j))) (entries c) 0 i
      (sym (row_walk (entity_in list f c (delimited p d) (all_types f c)) (entry_of f c) (first_entry c) (entries c) 0 (first_entry c) (omega arith))
      ∙ ap pass_of (checked-model list f (Ok (told c p d)) h (told c p d) refl).passes) (omega arith) (omega arith)

  entity-reads : (i : ℕ) → i < entries c → Unrefused (values_at 64 p d (parameters_of f c (entry_of f c i)) 0)
  unfolding entity_in
  entity-reads i k =
      accepted_reads list (all_types f c) (first_entry c + 2 * i) (entry_of f c i) (values_at 64 p d (parameters_of f c (entry_of f c i)) 0) (entity-passes i k)

  row_reads : (i : ℕ) → i < entries c → RowReads f (first_d c) (first_p c) p d i
  unfolding RowReads SpeltReads
  row_reads i k =
      let ready : Ready f c = checked-ready list f (Ok (told c p d)) h (told c p d) refl in
      let e : Entered f c i = entered f c ready.holds ready.spelt ready.owned i k in
      let u : Unrefused (values_at 64 p d (text_of f (81 * (first_p c + (e.from.0 - 1))) 64 e.count) 0) = rw e.listed at (entity-reads i k) in
      rw e.is (λ _. u)

  pub records-read : (s g b q : ℕ) → s ≡ c.s → g ≡ c.g → b ≡ c.d → q ≡ parameter_line c 1 → RowsRead f (s + g) (b / 2) q p d
  records-read s g b q es eg eb eq =
      let e : q ≡ first_p c = omega arith in
      rw (es, eg, eb, e) (record { row = row_reads })
