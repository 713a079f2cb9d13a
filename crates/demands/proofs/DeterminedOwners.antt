-- No second result fits the contract of a public function of crates owning and owners. Assumes nothing.
use mathlib.Core.Path.{refl}
use Rattle.owners_pass.proofs.owners.Kinds as owning-owners-kinds
use Rattle.owners_pass.proofs.owners.Reads as owning-owners-reads
use Rattle.owners_pass.proofs.line_of.Kinds as owning-line-of-kinds
use Rattle.owners_pass.proofs.line_of.Reads as owning-line-of-reads
use Rattle.owners.proofs.places.owner_at.Kinds as places-owner-at-kinds
use Rattle.owners.proofs.places.owner_at.Reads as places-owner-at-reads
use Rattle.owners.proofs.places.from_at.Kinds as places-from-at-kinds
use Rattle.owners.proofs.places.from_at.Reads as places-from-at-reads
use Rattle.owners.proofs.places.count_at.Kinds as places-count-at-kinds
use Rattle.owners.proofs.places.count_at.Reads as places-count-at-reads
use Rattle.demands.specs.Unique.{NoSecond}
use Rattle.demands.proofs.Unique.{once, number-once, line-once}

-- ---- owning

pub owning_owners : NoSecond owning-owners-kinds.ps owning-owners-kinds.r owning-owners-reads.Post
owning_owners κs a z z' left left' p q = (once p.0 q.0, refl)

pub owning_line_of : NoSecond owning-line-of-kinds.ps owning-line-of-kinds.r owning-line-of-reads.Post
owning_line_of κs a z z' left left' p q = (once p q, refl)

-- ---- owners::places

pub places_owner_at : NoSecond places-owner-at-kinds.ps places-owner-at-kinds.r places-owner-at-reads.Post
places_owner_at κs a z z' left left' p q = (number-once p q, refl)

pub places_from_at : NoSecond places-from-at-kinds.ps places-from-at-kinds.r places-from-at-reads.Post
places_from_at κs a z z' left left' p q = (line-once p q, refl)

pub places_count_at : NoSecond places-count-at-kinds.ps places-count-at-kinds.r places-count-at-reads.Post
places_count_at κs a z z' left left' p q = (once p q, refl)
