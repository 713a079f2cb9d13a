-- The last pass is a row of checks, one for each entity; the fields of G have no say in it.
use mathlib.Core.Path.{◌≡◌, refl, sym, ap₂, ◌∙◌}
use mathlib.Core.List.{List}
use Prim.Native.Nat.{ℕ, ◌-◌, ◌/◌}
use native.Mathlib.Omega.{arith}
use Rattle.cards.specs.declared.Counts.{Counts}
use Rattle.cards.specs.Cards.{entries}
use Rattle.values.specs.Value.{Item}
use Rattle.model.specs.Read.{GlobalRead, global_read, Listed, first_entry, entity_in, last_pass}
use Rattle.read_passes.specs.Passes.{pass_of}
use Rattle.read_passes.specs.Listed.{entry_of, all_entries, all_types}
use Rattle.read_passes.specs.Walks.{first_among}
use Rattle.read_passes.proofs.Walks.{walk_start, row_walk}
use Rattle.read_weights.specs.Checks.{delimited, entity_at}

module _ (list : ℕ) (f : List ℕ) (c : Counts) (p d : ℕ) where
  pub last_walk : pass_of (last_pass list f c (delimited p d) (all_entries f c)) ≡ first_among (entity_at list f c p d) 0 (entries c)
  unfolding last_pass entity_at
  last_walk = row_walk (entity_in list f c (delimited p d) (all_types f c)) (entry_of f c) (first_entry c) (entries c) 0 (first_entry c) (omega arith)

  pub last_start : (b : ℕ) → b ≡ c.d → first_among (entity_at list f c p d) 0 (b / 2 - 0) ≡ pass_of (last_pass list f c (delimited p d) (all_entries f c))
  last_start b e = walk_start (entity_at list f c p d) b c.d e ∙ sym last_walk

  -- two readings of G with these delimiters have one last pass
  fields_free : (es : List Listed) (gs : List (ℕ × Item)) → last_pass list f c (global_read p d gs) es ≡ last_pass list f c (delimited p d) es
  unfolding last_pass entity_in
  fields_free es gs = refl

  pub last_any : (g : GlobalRead) (es : List Listed) → g.parameter ≡ p → g.record_end ≡ d → last_pass list f c g es ≡ last_pass list f c (delimited p d) es
  last_any g es ep ed = ap₂ (λ (a b : ℕ). last_pass list f c (global_read a b g.fields) es) ep ed ∙ fields_free es g.fields
