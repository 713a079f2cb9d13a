-- The values of a record of a printable text can be spelt.
use mathlib.Core.Path.{◌≡◌}
use mathlib.Core.Bool.{true}
use mathlib.Core.List.{List, ◌∷◌}
use Prim.Native.Nat.{ℕ}
use lib.ListN.{drop}
use Rattle.columns.specs.Columns.{printable}
use Rattle.values.specs.Value.{Item}
use Rattle.records.specs.Record.{values, values_at, trimmed}
use Rattle.records.specs.Flow.{Fines, fine_one, fine_more, Prints}
use Rattle.records.proofs.Fine.{fine_values, printed_values, fine_trimmed, prints_trimmed}
use Rattle.sheets.specs.WellFormed.{Each, none, one, Held}

-- one by one
each_held : {vs : List Item} → Fines vs → Prints vs → Each Held vs
each_held (fine_one f) p = one (record { fine = f; printed = p.0 }) none
each_held (fine_more f fs) p = one (record { fine = f; printed = p.0 }) (each_held fs p.1)

tail_held : {v : Item} {vs : List Item} → Each Held (v ∷ vs) → Each Held vs
tail_held (one h hs) = hs

module _ (w c d : ℕ) (t : List ℕ) (h : printable t ≡ true) (p : ℕ) {vs : List Item} {end : ℕ} (e : values_at w c d t p ≡ values vs end) where
  -- all of them
  pub values_held : Each Held vs
  values_held = each_held (fine_values w c d t p e) (printed_values w c d t h p e)

  -- those behind the first, up to the last that is given
  pub rest_held : {v : Item} → vs ≡ v ∷ drop 1 vs → Each Held (trimmed (drop 1 vs))
  rest_held {v} first =
      let fines : Fines (v ∷ drop 1 vs) = rw first at (fine_values w c d t p e) in
      let prints : Prints (v ∷ drop 1 vs) = rw first at (printed_values w c d t h p e) in
      tail_held (each_held (fine_trimmed fines) (prints.0, prints_trimmed (drop 1 vs) prints.1))
