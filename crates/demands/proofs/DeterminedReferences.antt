-- No second result fits the contract of a public function of crate references. Assumes nothing.
use mathlib.Core.Path.{refl}
use Rattle.references.proofs.class_of.Kinds as class-of-kinds
use Rattle.references.proofs.class_of.Reads as class-of-reads
use Rattle.references.proofs.fits.Kinds as fits-kinds
use Rattle.references.proofs.fits.Reads as fits-reads
use Rattle.demands.specs.Unique.{NoSecond}
use Rattle.demands.proofs.Unique.{once}

pub class_of_lem : NoSecond class-of-kinds.ps class-of-kinds.r class-of-reads.Post
class_of_lem κs a z z' left left' p q = (once p.0 q.0, refl)

pub fits : NoSecond fits-kinds.ps fits-kinds.r fits-reads.Post
fits κs a z z' left left' p q = (once p q, refl)
