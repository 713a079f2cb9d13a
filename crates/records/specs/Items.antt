-- The code's form: the first values of a record, one after the other from a position: what a walk over them meets.
use Rattle.std.specs.Prelude.{List, [], ◌∷◌, ℕ, zero, suc, Ok, Err}
use Rattle.values.specs.Value.{Item, default, item_of}
use Rattle.records.specs.Record.{Got, value_at, behind}

-- a value that was read (a refused one stands for nothing)
abbrev pub got_item : List ℕ → Got → Item
got_item t (Ok r) = item_of t r.value
got_item t (Err r) = default

-- n values from position p on
unfoldable pub items_from : ℕ → ℕ → ℕ → List ℕ → ℕ → ℕ → List Item
items_from w c d t p zero = []
items_from w c d t p (suc n) = got_item t (value_at w c d t p) ∷ items_from w c d t (behind (value_at w c d t p)) n
