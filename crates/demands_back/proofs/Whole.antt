-- The canonical file of a model that fits is read back as that model: the theorem of this crate. Assumes nothing.
use mathlib.Core.Path.{◌≡◌}
use Prim.Native.Nat.{ℕ, ◌≤◌}
use borrow.Author.Tests.{le-leb}
use Rattle.columns.specs.Refusal.{accepted}
use Rattle.columns.specs.Format.{most_lines, most_list}
use Rattle.model.specs.Model.{Model}
use Rattle.model.specs.Canonical.{line_total, canonical}
use Rattle.model.specs.Fit.{Fits}
use Rattle.model.specs.Read.{global_read, before, read_model}
use Rattle.demands_back.proofs.Bodies.{counts_in, Lined, lined}
use Rattle.demands_back.proofs.Head.{cards_back, starts_back, globals_back}
use Rattle.demands_back.proofs.Entries.{listed_from}
use Rattle.demands_back.proofs.Rest.{directory_back, references-pass, owners_pass, entries-given}

-- the steps of reading one after the other
module _ (list : ℕ) (m : Model) (h : Fits list m) (b : Lined m) where
  before_back : before (canonical m) ≡ accepted (record { counts = counts_in m; global = global_read 44 59 m.globals; listed = listed_from 1 m.entries })
  unfolding before
  before_back = rw (cards_back list m h b, globals_back list m h b, directory_back list m h b, references-pass list m h b, owners_pass list m h b)

  steps_back : read_model list (canonical m) ≡ accepted m
  unfolding read_model
  steps_back = rw (le-leb list most_list h.list_ok, before_back, entries-given list m h b, starts_back list m h b)

pub back : (list : ℕ) (m : Model) → Fits list m → line_total m ≤ most_lines → read_model list (canonical m) ≡ accepted m
back list m h short = steps_back list m h (lined list m h short)
