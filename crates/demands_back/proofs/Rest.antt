-- The canonical file of a model is read back from its D lines on: its entries as their D lines tell them, their references, their P lines, and the
-- entries with their values. Assumes nothing.
use mathlib.Core.Path.{◌≡◌}
use mathlib.Core.List.{List, map}
use Prim.Native.Nat.{ℕ}
use Rattle.columns.specs.Refusal.{accepted}
use Rattle.owners.specs.InFile.{owners_in, outcome}
use Rattle.model.specs.Model.{Model, types_of}
use Rattle.model.specs.Canonical.{start_lines, global_lines, directory_lines, parameter_lines, canonical}
use Rattle.model.specs.Fit.{Fits}
use Rattle.model.specs.Read.{global_read, entries_in, references_in, last_pass}
use Rattle.demands_back.proofs.Places.{laid}
use Rattle.demands_back.proofs.Bodies.{counts_in, Lined}
use Rattle.demands_back.proofs.Entries.{listed_from, noted, entries_back, references_back}
use Rattle.demands_back.proofs.Owned.{ownership_back}
use Rattle.demands_back.proofs.Last.{last_back}

module _ (list : ℕ) (m : Model) (h : Fits list m) (b : Lined m) where
  abbrev S : List (List ℕ)
  S = start_lines m

  abbrev G : List (List ℕ)
  G = global_lines m

  abbrev D : List (List ℕ)
  D = directory_lines 1 1 m.entries

  abbrev P : List (List ℕ)
  P = parameter_lines 1 m.entries

  -- 9 and 13 of each entry
  pub directory_back : entries_in (canonical m) (counts_in m) ≡ accepted (listed_from 1 m.entries)
  unfolding canonical
  directory_back =
      entries_back S G D P b.in_s b.in_g b.in_d b.in_p b.few list (types_of m.entries) m.entries (laid m.entries) h.entries

  -- 10 of all
  pub references-pass : references_in (counts_in m) (listed_from 1 m.entries) ≡ accepted (map noted (listed_from 1 m.entries))
  references-pass = references_back list (counts_in m) 1 m.entries h.entries

  -- 11
  pub owners_pass : outcome (counts_in m) (owners_in (canonical m) (counts_in m)) ≡ accepted tt
  unfolding canonical
  owners_pass =
      ownership_back S G D P b.in_s b.in_g b.in_d b.in_p b.few list (types_of m.entries) m.entries (laid m.entries) h.entries

  -- the last pass
  pub entries-given : last_pass list (canonical m) (counts_in m) (global_read 44 59 m.globals) (listed_from 1 m.entries) ≡ accepted m.entries
  unfolding canonical
  entries-given = last_back S G D P b.in_s b.in_g b.in_d b.in_p b.few list m.globals m.entries (laid m.entries) h.entries
