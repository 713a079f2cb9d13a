-- No second result fits the contract of a public function of crate rewrap. Assumes nothing.
use mathlib.Core.Path.{refl}
use Rattle.desk.proofs.answers.refusal.Kinds as answers-refusal-kinds
use Rattle.desk.proofs.answers.refusal.Reads as answers-refusal-reads
use Rattle.demands.specs.Unique.{NoSecond}
use Rattle.demands.proofs.Unique.{once}

pub answers_refusal : NoSecond answers-refusal-kinds.ps answers-refusal-kinds.r answers-refusal-reads.Post
answers_refusal κs a z z' left left' p q = (once p q, refl)
