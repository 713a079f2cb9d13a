-- The last pass over a canonical file gives back the entries with their values. Assumes nothing.
use mathlib.Core.Path.{◌≡◌, refl, ap, ◌∙◌}
use mathlib.Core.List.{List, [], ◌++◌}
use Prim.Native.Nat.{ℕ, ◌+◌, ◌-◌, ◌*◌, ◌≤◌, ◌<◌}
use native.Mathlib.Omega.{arith}
use lib.ListN.{length, get_or, replicate}
use borrow.Author.Tests.{eq-eqb}
use Rattle.columns.specs.Columns.{columns}
use Rattle.columns.specs.Refusal.{accepted}
use Rattle.columns.specs.Format.{most_lines}
use Rattle.values.specs.Value.{Item}
use Rattle.records.specs.Record.{values, values_at}
use Rattle.records.specs.Flow.{flow, line_count}
use Rattle.records.proofs.Round.{round}
use Rattle.cards.specs.declared.Counts.{Counts}
use Rattle.cards.specs.Cards.{total}
use Rattle.cards.specs.Written.{Bodies, counts_of, file_of}
use Rattle.cards.proofs.Text.{p-text}
use Rattle.layouts.proofs.Fits.{keeps_accepts}
use Rattle.sheets.specs.WellFormed.{Each, none, one}
use Rattle.model.specs.Model.{Carried, type_of, types_of, entity_of}
use Rattle.model.specs.Canonical.{parameter_text}
use Rattle.model.specs.Fit.{EntryFits}
use Rattle.model.specs.Read.{global_read, two, first_entry, by_parameters, parameters_of, entity_in, last_pass}
use Rattle.demands_back.proofs.Held.{fines}
use Rattle.demands_back.proofs.Fitting.{values_of, values_held}
use Rattle.demands_back.proofs.Places.{record_lines, count_of, count-lines, Placed, Laid, laid_none, laid_one}
use Rattle.demands_back.proofs.EachAt.{Makes, makes_none, makes_one, each_made}
use Rattle.demands_back.proofs.Blocks.{record_line_long, record_joined, owned_record}
use Rattle.demands_back.proofs.Entries.{listed, listed_from, listed-types}

-- ---- a record that can be written

-- its values are read of its record
record_read : (list : ℕ) (types : List ℕ) (e : Carried) → EntryFits list types e → (r : List ℕ)
    → values_at 64 44 59 (parameter_text e ++ r) 0 ≡ values (values_of e) (length (flow 64 0 (values_of e)))
unfolding parameter_text
record_read list types e h r = round 64 (omega arith) (fines (values_held list types e h) (omega arith)) r

-- what is made of its values
values_taken : (list : ℕ) (types : List ℕ) (e : Carried) → EntryFits list types e → (from place end : ℕ)
    → by_parameters list types place (listed from e) (values (values_of e) end) ≡ accepted e
values_taken list types e h from place end = rw (eq-eqb (type_of e.fields) (type_of e.fields) refl, h.last_is_given, keeps_accepts types (entity_of e.fields e.values) list place h.layout)

-- ---- in the file

module _ (S G D P : List (List ℕ)) (bs : Bodies S) (bg : Bodies G) (bd : Bodies D) (bp : Bodies P) (few : total (counts_of S G D P) ≤ most_lines) where
  abbrev F : List ℕ
  F = file_of S G D P

  abbrev C : Counts
  C = counts_of S G D P

  -- the text of its P lines is its record and blanks
  parameters_stand : (i from : ℕ) (e : Carried) → Placed D P i from e
      → parameters_of F C (listed from e) ≡ parameter_text e ++ replicate (line_count 64 (length (parameter_text e)) * 64 - length (parameter_text e)) 32
  parameters_stand i from e at =
      rw (count-lines e)
      (p-text S G D P bs bg bd bp few (from - 1) (record_lines e) (omega (arith, at.low, at.inside, count-lines e)) (λ j h.
      let l : j < count_of e = omega (arith, count-lines e) in
      ap (λ (x : List ℕ). columns x 0 64) (at.block j l) ∙ owned_record (2 * i + 1) (get_or (record_lines e) j []) (record_line_long e j l))
      ∙ record_joined e)

  module _ (list : ℕ) (types : List ℕ) (gs : List (ℕ × Item)) where
    entity_in_lem : (i from : ℕ) (e : Carried) → Placed D P i from e → EntryFits list types e → (place : ℕ)
        → entity_in list F C (global_read 44 59 gs) types place (listed from e) ≡ accepted e
    unfolding entity_in
    entity_in_lem i from e at fit place =
        rw (parameters_stand i from e at, record_read list types e fit (replicate (line_count 64 (length (parameter_text e)) * 64 - length (parameter_text e)) 32))
        (values_taken list types e fit from place (length (flow 64 0 (values_of e))))

    entities_made : {i from : ℕ} {es : List Carried} → Laid D P i from es → Each (EntryFits list types) es → Makes (entity_in list F C (global_read 44 59 gs) types) (listed_from from es) es
    unfolding listed_from
    entities_made (laid_none a b) none = makes_none
    entities_made (laid_one {i} {from} {e} at more) (one fit fits) = makes_one (entity_in_lem i from e at fit) (entities_made more fits)

  -- the entries are given back
  pub last_back : (list : ℕ) (gs : List (ℕ × Item)) (es : List Carried) → Laid D P 0 1 es → Each (EntryFits list (types_of es)) es
      → last_pass list F C (global_read 44 59 gs) (listed_from 1 es) ≡ accepted es
  unfolding last_pass
  last_back list gs es l fits =
      rw (listed-types 1 es) (each_made two (entity_in list F C (global_read 44 59 gs) (types_of es)) (entities_made list (types_of es) gs l fits) (first_entry C))
