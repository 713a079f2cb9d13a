-- No second result fits the contract of a public function of crates dpass, gpass and before. Assumes nothing.
use mathlib.Core.Path.{refl}
use Rattle.read_directory.proofs.entries.Kinds as dpass-entries-kinds
use Rattle.read_directory.proofs.entries.Reads as dpass-entries-reads
use Rattle.read_global.proofs.globals.Kinds as gpass-globals-kinds
use Rattle.read_global.proofs.globals.Reads as gpass-globals-reads
use Rattle.read_before.proofs.before.Kinds as before-before-kinds
use Rattle.read_before.proofs.before.Reads as before-before-reads
use Rattle.demands.specs.Unique.{NoSecond}
use Rattle.demands.proofs.Unique.{once}

-- ---- dpass

pub dpass_entries : NoSecond dpass-entries-kinds.ps dpass-entries-kinds.r dpass-entries-reads.Post
dpass_entries κs a z z' left left' p q = (once p q, refl)

-- ---- gpass

pub gpass_globals : NoSecond gpass-globals-kinds.ps gpass-globals-kinds.r gpass-globals-reads.Post
gpass_globals κs a z z' left left' p q = (once p q, refl)

-- ---- before

pub before-before : NoSecond before-before-kinds.ps before-before-kinds.r before-before-reads.Post
before-before κs a z z' left left' p q = (once p q, refl)
