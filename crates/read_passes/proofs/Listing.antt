-- The entries that are accepted are those at their computed places.
use mathlib.Core.Path.{◌≡◌, sym, ap, ◌∙◌}
use mathlib.Core.List.{List, map, map-map}
use Prim.Native.Nat.{ℕ}
use Rattle.columns.specs.First.{up_from}
use Rattle.columns.specs.Refusal.{accepted}
use Rattle.columns.proofs.Stops.{each_is}
use Rattle.cards.specs.declared.Counts.{Counts}
use Rattle.cards.specs.Cards.{entries, entry_line}
use Rattle.directory.specs.Lines.{label_at}
use Rattle.model.specs.Read.{Listed, two, entry_in, entries_in, first_entry}
use Rattle.model.proofs.ReadApart.{entry_apart}
use Rattle.read_passes.specs.Listed.{listed_of, listed_at, all_entries}

-- an accepted entry is what its lines spell
pub entry-is : (f : List ℕ) (place k : ℕ) (e : Listed) → entry_in f place k ≡ accepted e → e ≡ listed_at f k
unfolding listed_at
entry-is f place k e h =
    let a = entry_apart f place k e h in
    a.is ∙ sym (ap (listed_of (label_at f k)) a.spelt)

pub entries_are : (f : List ℕ) (c : Counts) (es : List Listed) → entries_in f c ≡ accepted es → es ≡ all_entries f c
unfolding entries_in
entries_are f c es h =
    each_is two (entry_in f) (listed_at f) (entry-is f) (first_entry c) (map (entry_line c) (up_from 0 (entries c))) es h
    ∙ map-map (listed_at f) (entry_line c) (up_from 0 (entries c))
