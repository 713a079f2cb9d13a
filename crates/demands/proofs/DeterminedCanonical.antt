-- No second result fits the contract of a public function of crates tally and canonical. Assumes nothing.
use mathlib.Core.Path.{refl}
use Rattle.file_tally.proofs.tally_said.Kinds as tally-tally-said-kinds
use Rattle.file_tally.proofs.tally_said.Reads as tally-tally-said-reads
use Rattle.file_tally.proofs.behind_value.Kinds as tally-behind-value-kinds
use Rattle.file_tally.proofs.behind_value.Reads as tally-behind-value-reads
use Rattle.file_tally.proofs.with_values.Kinds as tally-with-values-kinds
use Rattle.file_tally.proofs.with_values.Reads as tally-with-values-reads
use Rattle.file_tally.proofs.lines_of.Kinds as tally-lines-of-kinds
use Rattle.file_tally.proofs.lines_of.Reads as tally-lines-of-reads
use Rattle.file_canonical.proofs.file.put_file.Kinds as file-put-file-kinds
use Rattle.file_canonical.proofs.file.put_file.Reads as file-put-file-reads
use Rattle.demands.specs.Unique.{NoSecond}
use Rattle.demands.proofs.Unique.{once, wrote_first}

-- ---- tally

pub tally_tally_said : NoSecond tally-tally-said-kinds.ps tally-tally-said-kinds.r tally-tally-said-reads.Post
tally_tally_said κs a z z' left left' p q = (once p.0 q.0, refl)

pub tally_behind_value : NoSecond tally-behind-value-kinds.ps tally-behind-value-kinds.r tally-behind-value-reads.Post
tally_behind_value κs a z z' left left' p q = (once p.0 q.0, refl)

pub tally_with_values : NoSecond tally-with-values-kinds.ps tally-with-values-kinds.r tally-with-values-reads.Post
tally_with_values κs a z z' left left' p q = (once p.0 q.0, refl)

pub tally_lines_of : NoSecond tally-lines-of-kinds.ps tally-lines-of-kinds.r tally-lines-of-reads.Post
tally_lines_of κs a z z' left left' p q = (once p q, refl)

-- ---- file_canonical::file

pub file_put_file : NoSecond file-put-file-kinds.ps file-put-file-kinds.r file-put-file-reads.Post
file_put_file κs a z z' left left' p q = wrote_first left.1 p.0 q.0
