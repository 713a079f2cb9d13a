-- No second result fits the contract of a public function of crate blocks. Assumes nothing.
use Rattle.file_blocks.proofs.lines.put_tail.Kinds as lines-put-tail-kinds
use Rattle.file_blocks.proofs.lines.put_tail.Reads as lines-put-tail-reads
use Rattle.file_blocks.proofs.lines.put_start_line.Kinds as lines-put-start-line-kinds
use Rattle.file_blocks.proofs.lines.put_start_line.Reads as lines-put-start-line-reads
use Rattle.file_blocks.proofs.lines.put_entry_lines.Kinds as lines-put-entry-lines-kinds
use Rattle.file_blocks.proofs.lines.put_entry_lines.Reads as lines-put-entry-lines-reads
use Rattle.file_blocks.proofs.lines.put_last_line.Kinds as lines-put-last-line-kinds
use Rattle.file_blocks.proofs.lines.put_last_line.Reads as lines-put-last-line-reads
use Rattle.file_blocks.proofs.text.close.Kinds as text-close-kinds
use Rattle.file_blocks.proofs.text.close.Reads as text-close-reads
use Rattle.demands.specs.Unique.{NoSecond}
use Rattle.demands.proofs.Unique.{once, left_first, wrote_first}

-- ---- file_blocks::lines

pub lines_put_tail : NoSecond lines-put-tail-kinds.ps lines-put-tail-kinds.r lines-put-tail-reads.Post
lines_put_tail κs a z z' left left' p q = wrote_first left.1 p.0 q.0

pub lines_put_start_line : NoSecond lines-put-start-line-kinds.ps lines-put-start-line-kinds.r lines-put-start-line-reads.Post
lines_put_start_line κs a z z' left left' p q = wrote_first left.1 p.0 q.0

pub lines_put_entry_lines : NoSecond lines-put-entry-lines-kinds.ps lines-put-entry-lines-kinds.r lines-put-entry-lines-reads.Post
lines_put_entry_lines κs a z z' left left' p q = wrote_first left.1 p.0 q.0

pub lines_put_last_line : NoSecond lines-put-last-line-kinds.ps lines-put-last-line-kinds.r lines-put-last-line-reads.Post
lines_put_last_line κs a z z' left left' p q = wrote_first left.1 p.0 q.0

-- ---- file_blocks::text

pub text-close : NoSecond text-close-kinds.ps text-close-kinds.r text-close-reads.Post
text-close κs a z z' left left' p q = (once p.1 q.1, left_first left.1 p.0 q.0)
