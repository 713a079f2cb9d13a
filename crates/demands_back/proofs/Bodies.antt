-- The lines of a canonical file: each section's lines have 72 columns of bytes that a line may hold, and there are as many as a file may have.
-- Assumes nothing.
use mathlib.Core.Path.{◌≡◌}
use Prim.Native.Nat.{ℕ, ◌*◌, ◌%◌, ◌≤◌}
use native.Mathlib.Omega.{arith}
use lib.ListN.{length, length-map}
use Rattle.columns.specs.Decimal.{to_left}
use Rattle.columns.specs.Format.{most_lines}
use Rattle.cards.specs.declared.Counts.{Counts}
use Rattle.cards.specs.Cards.{total}
use Rattle.cards.specs.Written.{Bodies, counts_of}
use Rattle.model.specs.Model.{Model, types_of}
use Rattle.model.specs.Canonical.{start_lines, global_lines, directory_lines, parameter_lines, line_total}
use Rattle.model.specs.Fit.{Fits}
use Rattle.demands_back.proofs.Starts.{start_bodies}
use Rattle.demands_back.proofs.GlobalBodies.{global_bodies, global_some}
use Rattle.demands_back.proofs.Places.{length_directory}
use Rattle.demands_back.proofs.EntryBodies.{parameter_bodies, directory_bodies}

-- the counts of a model's canonical file
abbrev pub counts_in : Model → Counts
counts_in m = counts_of (start_lines m) (global_lines m) (directory_lines 1 1 m.entries) (parameter_lines 1 m.entries)

-- each section's lines have their columns, S and G have a line, D has two for each entry, and they are as many as a file may have
pub record Lined (m : Model) : Type 0 where
  pub in_s : Bodies (start_lines m)
  pub in_g : Bodies (global_lines m)
  pub in_d : Bodies (directory_lines 1 1 m.entries)
  pub in_p : Bodies (parameter_lines 1 m.entries)
  pub some_s : 1 ≤ length (start_lines m)
  pub some_g : 1 ≤ length (global_lines m)
  pub even : length (directory_lines 1 1 m.entries) % 2 ≡ 0
  pub few : total (counts_in m) ≤ most_lines

-- an S line for each start text
pub length-starts : (m : Model) → length (start_lines m) ≡ length m.starts
unfolding start_lines
length-starts m = length-map m.starts (to_left 72)

pub lined : (list : ℕ) (m : Model) → Fits list m → line_total m ≤ most_lines → Lined m
unfolding line_total start_lines global_lines
lined list m h short =
    let types = types_of m.entries in
    let d : length (directory_lines 1 1 m.entries) ≡ 2 * length m.entries = length_directory m.entries in
    record {
      in_s = start_bodies h.starts;
      in_g = global_bodies m.globals h.globals;
      in_d = directory_bodies list types 1 1 h.entries (omega arith) (omega arith);
      in_p = parameter_bodies list types 1 h.entries (omega arith);
      some_s = omega (arith, h.some, length-starts m);
      some_g = global_some m.globals;
      even = omega arith;
      few = short;
    }
