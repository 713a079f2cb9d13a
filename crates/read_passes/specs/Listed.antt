-- The code's form: the entries of a file by their index: what is read at a computed place.
use Rattle.std.specs.Prelude.{List, [], map, ℕ}
use Rattle.std.specs.Prelude.{Option, Some, None}
use Rattle.columns.specs.First.{up_from}
use Rattle.cards.specs.declared.Counts.{Counts}
use Rattle.cards.specs.Cards.{entry_line, entries}
use Rattle.directory.specs.declared.Spelt.{Spelt}
use Rattle.directory.specs.Fields.{fields_of}
use Rattle.directory.specs.Lines.{entry_at, label_at}
use Rattle.model.specs.Read.{Listed, listed_type}

-- an entry that is spelt (a wrong one stands for nothing)
abbrev pub listed_of : List ℕ → Option Spelt → Listed
listed_of label (Some e) = record { fields = e.fields; label = label; pointer = e.pointer.0; lines = e.lines }
listed_of label None = record { fields = fields_of []; label = label; pointer = 0; lines = 0 }

-- the entry whose first D line is line k
unfoldable pub listed_at : List ℕ → ℕ → Listed
listed_at f k = listed_of (label_at f k) (entry_at f k)

-- entry i
abbrev pub entry_of : List ℕ → Counts → ℕ → Listed
entry_of f c i = listed_at f (entry_line c i)

-- the entries from i on, n of them
abbrev pub entries_from : List ℕ → Counts → ℕ → ℕ → List Listed
entries_from f c i n = map (entry_of f c) (up_from i n)

-- all of them, and their types
abbrev pub all_entries : List ℕ → Counts → List Listed
all_entries f c = entries_from f c 0 (entries c)

abbrev pub all_types : List ℕ → Counts → List ℕ
all_types f c = map listed_type (all_entries f c)
