-- Demand 3, c: each sheet of a file, written back with its own list, gives the same bytes, or each is refused for length. Assumes nothing.
use mathlib.Core.Path.{◌≡◌}
use mathlib.Core.Logic.{◌⊎◌, inl, inr}
use Prim.Native.Nat.{◌≤◌, ◌<◌}
use native.Mathlib.Omega.{arith}
use native.Mathlib.Decide.{dec_le}
use Rattle.columns.specs.declared.Fault.TheVariants.{TooLong}
use Rattle.columns.specs.Refusal.{accepted, refused}
use Rattle.columns.specs.Format.{most_lines}
use Rattle.sheets.specs.Sheet.{sheet_text}
use Rattle.model.specs.Model.{sheet_of}
use Rattle.model.specs.Canonical.{line_total, canonical}
use Rattle.model.specs.Write.{writes}
use Rattle.model.specs.Fit.{Fits}
use Rattle.desk.specs.Demands.{SameBytes}
use Rattle.desk.proofs.Lists.{smaller_accepts}
use Rattle.demands.proofs.FromFile.{read_fits}
use Rattle.demands.proofs.Written.{written_short, written_long}

pub same_bytes_lem : SameBytes
same_bytes_lem small large o f m h = pick (dec_le (line_total m) most_lines)
  where
    fits_small : Fits small m
    fits_small = read_fits small f m (smaller_accepts small large o f m h).0

    fits_large : Fits large m
    fits_large = read_fits large f m h

    pick : Dec (line_total m ≤ most_lines)
        → ((line_total m ≤ most_lines) × ((writes small (sheet_text (sheet_of small m)) ≡ accepted (canonical m)) × (writes large (sheet_text (sheet_of large m)) ≡ accepted (canonical m))))
        ⊎ ((most_lines < line_total m) × ((writes small (sheet_text (sheet_of small m)) ≡ refused TooLong 0) × (writes large (sheet_text (sheet_of large m)) ≡ refused TooLong 0)))
    pick (yes l) = inl (l, (written_short small m fits_small l, written_short large m fits_large l))
    pick (no l) =
        let k : most_lines < line_total m = omega arith in
        inr (k, (written_long small m fits_small k, written_long large m fits_large k))
