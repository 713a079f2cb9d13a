-- No second result fits the contract of a public function of crates flow, global, freeformat and records. Assumes nothing.
use mathlib.Core.Path.{refl}
use Rattle.records_flow.proofs.put_char.Kinds as flow-put-char-kinds
use Rattle.records_flow.proofs.put_char.Reads as flow-put-char-reads
use Rattle.records_flow.proofs.put_all.Kinds as flow-put-all-kinds
use Rattle.records_flow.proofs.put_all.Reads as flow-put-all-reads
use Rattle.records_flow.proofs.put_run.Kinds as flow-put-run-kinds
use Rattle.records_flow.proofs.put_run.Reads as flow-put-run-reads
use Rattle.records_flow.proofs.put_piece.Kinds as flow-put-piece-kinds
use Rattle.records_flow.proofs.put_piece.Reads as flow-put-piece-reads
use Rattle.records_flow.proofs.gap_of.Kinds as flow-gap-of-kinds
use Rattle.records_flow.proofs.gap_of.Reads as flow-gap-of-reads
use Rattle.records_flow.proofs.piece_end.Kinds as flow-piece-end-kinds
use Rattle.records_flow.proofs.piece_end.Reads as flow-piece-end-reads
use Rattle.records_flow.proofs.spelled_end.Kinds as flow-spelled-end-kinds
use Rattle.records_flow.proofs.spelled_end.Reads as flow-spelled-end-reads
use Rattle.records_flow.proofs.line_count.Kinds as flow-line-count-kinds
use Rattle.records_flow.proofs.line_count.Reads as flow-line-count-reads
use Rattle.records_global.proofs.opening_of.Kinds as global-opening-of-kinds
use Rattle.records_global.proofs.opening_of.Reads as global-opening-of-reads
use Rattle.records_global.proofs.stray.Kinds as global-stray-kinds
use Rattle.records_global.proofs.stray.Reads as global-stray-reads
use Rattle.records_global.proofs.global_fits.Kinds as global-global-fits-kinds
use Rattle.records_global.proofs.global_fits.Reads as global-global-fits-reads
use Rattle.records_read.proofs.char_at.Kinds as freeformat-char-at-kinds
use Rattle.records_read.proofs.char_at.Reads as freeformat-char-at-reads
use Rattle.records_read.proofs.behind_blanks.Kinds as freeformat-behind-blanks-kinds
use Rattle.records_read.proofs.behind_blanks.Reads as freeformat-behind-blanks-reads
use Rattle.records_read.proofs.value_at.Kinds as freeformat-value-at-kinds
use Rattle.records_read.proofs.value_at.Reads as freeformat-value-at-reads
use Rattle.records_read.proofs.check_from.Kinds as freeformat-check-from-kinds
use Rattle.records_read.proofs.check_from.Reads as freeformat-check-from-reads
use Rattle.records.proofs.position.index_of.Kinds as position-index-of-kinds
use Rattle.records.proofs.position.index_of.Reads as position-index-of-reads
use Rattle.records.proofs.position.column_of.Kinds as position-column-of-kinds
use Rattle.records.proofs.position.column_of.Reads as position-column-of-reads
use Rattle.demands.specs.Unique.{NoSecond}
use Rattle.demands.proofs.Unique.{once, put_first}

-- ---- flow

pub flow_put_char : NoSecond flow-put-char-kinds.ps flow-put-char-kinds.r flow-put-char-reads.Post
flow_put_char κs a z z' left left' p q = put_first left.1 p.0 q.0

pub flow_put_all : NoSecond flow-put-all-kinds.ps flow-put-all-kinds.r flow-put-all-reads.Post
flow_put_all κs a z z' left left' p q = put_first left.1 p.0 q.0

pub flow_put_run : NoSecond flow-put-run-kinds.ps flow-put-run-kinds.r flow-put-run-reads.Post
flow_put_run κs a z z' left left' p q = put_first left.1 p.0 q.0

pub flow_put_piece : NoSecond flow-put-piece-kinds.ps flow-put-piece-kinds.r flow-put-piece-reads.Post
flow_put_piece κs a z z' left left' p q = put_first left.1 p.0 q.0

pub flow_gap_of : NoSecond flow-gap-of-kinds.ps flow-gap-of-kinds.r flow-gap-of-reads.Post
flow_gap_of κs a z z' left left' p q = (once p.0 q.0, refl)

pub flow_piece_end : NoSecond flow-piece-end-kinds.ps flow-piece-end-kinds.r flow-piece-end-reads.Post
flow_piece_end κs a z z' left left' p q = (once p.0 q.0, refl)

pub flow_spelled_end : NoSecond flow-spelled-end-kinds.ps flow-spelled-end-kinds.r flow-spelled-end-reads.Post
flow_spelled_end κs a z z' left left' p q = (once p.0 q.0, refl)

pub flow_line_count : NoSecond flow-line-count-kinds.ps flow-line-count-kinds.r flow-line-count-reads.Post
flow_line_count κs a z z' left left' p q = (once p.0 q.0, refl)

-- ---- global

pub global_opening_of : NoSecond global-opening-of-kinds.ps global-opening-of-kinds.r global-opening-of-reads.Post
global_opening_of κs a z z' left left' p q = (once p.0 q.0, refl)

pub global_stray : NoSecond global-stray-kinds.ps global-stray-kinds.r global-stray-reads.Post
global_stray κs a z z' left left' p q = (once p.0 q.0, refl)

pub global_global_fits : NoSecond global-global-fits-kinds.ps global-global-fits-kinds.r global-global-fits-reads.Post
global_global_fits κs a z z' left left' p q = (once p q, refl)

-- ---- freeformat

pub freeformat_char_at : NoSecond freeformat-char-at-kinds.ps freeformat-char-at-kinds.r freeformat-char-at-reads.Post
freeformat_char_at κs a z z' left left' p q = (once p q, refl)

pub freeformat_behind_blanks : NoSecond freeformat-behind-blanks-kinds.ps freeformat-behind-blanks-kinds.r freeformat-behind-blanks-reads.Post
freeformat_behind_blanks κs a z z' left left' p q = (once p.0 q.0, refl)

pub freeformat_value_at : NoSecond freeformat-value-at-kinds.ps freeformat-value-at-kinds.r freeformat-value-at-reads.Post
freeformat_value_at κs a z z' left left' p q = (once p.0 q.0, refl)

pub freeformat_check_from : NoSecond freeformat-check-from-kinds.ps freeformat-check-from-kinds.r freeformat-check-from-reads.Post
freeformat_check_from κs a z z' left left' p q = (once p.0 q.0, refl)

-- ---- records::position

pub position_index_of : NoSecond position-index-of-kinds.ps position-index-of-kinds.r position-index-of-reads.Post
position_index_of κs a z z' left left' p q = (once p q, refl)

pub position_column_of : NoSecond position-column-of-kinds.ps position-column-of-kinds.r position-column-of-reads.Post
position_column_of κs a z z' left left' p q = (once p q, refl)
