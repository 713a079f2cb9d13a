-- No second result fits the contract of a public function of crates weighing and reading. Assumes nothing.
use mathlib.Core.Path.{refl}
use Rattle.read_check.proofs.last_pass.Kinds as weighing-last-pass-kinds
use Rattle.read_check.proofs.last_pass.Reads as weighing-last-pass-reads
use Rattle.read_check.proofs.check.Kinds as weighing-check-kinds
use Rattle.read_check.proofs.check.Reads as weighing-check-reads
use Rattle.read_check.proofs.weigh.Kinds as weighing-weigh-kinds
use Rattle.read_check.proofs.weigh.Reads as weighing-weigh-reads
use Rattle.read_weights.proofs.entity_at.Kinds as entity-at-kinds
use Rattle.read_weights.proofs.entity_at.Reads as entity-at-reads
use Rattle.demands.specs.Unique.{NoSecond}
use Rattle.demands.proofs.Unique.{once}

-- ---- weighing

pub weighing_last_pass : NoSecond weighing-last-pass-kinds.ps weighing-last-pass-kinds.r weighing-last-pass-reads.Post
weighing_last_pass κs a z z' left left' p q = (once p.0 q.0, refl)

pub weighing_check : NoSecond weighing-check-kinds.ps weighing-check-kinds.r weighing-check-reads.Post
weighing_check κs a z z' left left' p q = (once p q, refl)

pub weighing_weigh : NoSecond weighing-weigh-kinds.ps weighing-weigh-kinds.r weighing-weigh-reads.Post
weighing_weigh κs a z z' left left' p q = (once p.0 q.0, refl)

-- ---- reading

pub entity-at : NoSecond entity-at-kinds.ps entity-at-kinds.r entity-at-reads.Post
entity-at κs a z z' left left' p q = (once p.0 q.0, refl)
