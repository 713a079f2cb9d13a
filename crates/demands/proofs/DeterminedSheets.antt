-- No second result fits the contract of a public function of crates sheets, plain, said and sheetlines. Assumes nothing.
use mathlib.Core.Path.{◌≡◌, refl, sym, ap, ap₂, ◌∙◌}
use Prim.Native.Nat.{ℕ}
use Rattle.columns.specs.declared.Signed.{Signed}
use Rattle.columns.specs.Columns.{columns}
use Rattle.sheets.specs.Folds.{entry_fold}
use Rattle.sheets.proofs.order.value_step.Kinds as order-value-step-kinds
use Rattle.sheets.proofs.order.value_step.Reads as order-value-step-reads
use Rattle.sheets.proofs.order.step_line.Kinds as order-step-line-kinds
use Rattle.sheets.proofs.order.step_line.Reads as order-step-line-reads
use Rattle.sheets.proofs.order.finish_of.Kinds as order-finish-of-kinds
use Rattle.sheets.proofs.order.finish_of.Reads as order-finish-of-reads
use Rattle.sheets.proofs.order.wrong_piece.Kinds as order-wrong-piece-kinds
use Rattle.sheets.proofs.order.wrong_piece.Reads as order-wrong-piece-reads
use Rattle.sheets_numbers.proofs.size_at.Kinds as plain-size-at-kinds
use Rattle.sheets_numbers.proofs.size_at.Reads as plain-size-at-reads
use Rattle.sheets_numbers.proofs.num_at.Kinds as plain-num-at-kinds
use Rattle.sheets_numbers.proofs.num_at.Reads as plain-num-at-reads
use Rattle.sheets_numbers.proofs.find.Kinds as plain-find-kinds
use Rattle.sheets_numbers.proofs.find.Reads as plain-find-reads
use Rattle.sheets_numbers.proofs.tabbed_at.Kinds as plain-tabbed-at-kinds
use Rattle.sheets_numbers.proofs.tabbed_at.Reads as plain-tabbed-at-reads
use Rattle.sheets_read.proofs.end_of.Kinds as said-end-of-kinds
use Rattle.sheets_read.proofs.end_of.Reads as said-end-of-reads
use Rattle.sheets_read.proofs.entry_at.Kinds as said-entry-at-kinds
use Rattle.sheets_read.proofs.entry_at.Reads as said-entry-at-reads
use Rattle.sheets_read.proofs.strict_at.Kinds as said-strict-at-kinds
use Rattle.sheets_read.proofs.strict_at.Reads as said-strict-at-reads
use Rattle.sheets_read.proofs.line_at.Kinds as said-line-at-kinds
use Rattle.sheets_read.proofs.line_at.Reads as said-line-at-reads
use Rattle.sheets_read.proofs.is_mark.Kinds as said-is-mark-kinds
use Rattle.sheets_read.proofs.is_mark.Reads as said-is-mark-reads
use Rattle.sheets_read.proofs.is_value.Kinds as said-is-value-kinds
use Rattle.sheets_read.proofs.is_value.Reads as said-is-value-reads
use Rattle.sheets_lay.proofs.put_start.Kinds as sheetlines-put-start-kinds
use Rattle.sheets_lay.proofs.put_start.Reads as sheetlines-put-start-reads
use Rattle.sheets_lay.proofs.put_global_head.Kinds as sheetlines-put-global-head-kinds
use Rattle.sheets_lay.proofs.put_global_head.Reads as sheetlines-put-global-head-reads
use Rattle.sheets_lay.proofs.value_mark.Kinds as sheetlines-value-mark-kinds
use Rattle.sheets_lay.proofs.value_mark.Reads as sheetlines-value-mark-reads
use Rattle.sheets_lay.proofs.put_value_head.Kinds as sheetlines-put-value-head-kinds
use Rattle.sheets_lay.proofs.put_value_head.Reads as sheetlines-put-value-head-reads
use Rattle.sheets_lay.proofs.put_entry.Kinds as sheetlines-put-entry-kinds
use Rattle.sheets_lay.proofs.put_entry.Reads as sheetlines-put-entry-reads
use Rattle.sheets_lay.proofs.entry_len.Kinds as sheetlines-entry-len-kinds
use Rattle.sheets_lay.proofs.entry_len.Reads as sheetlines-entry-len-reads
use Rattle.sheets_lay.proofs.put_last.Kinds as sheetlines-put-last-kinds
use Rattle.sheets_lay.proofs.put_last.Reads as sheetlines-put-last-reads
use Rattle.demands.specs.Unique.{NoSecond}
use Rattle.demands.proofs.Unique.{once, wrote_first}

-- ---- sheets::order

pub order_value_step : NoSecond order-value-step-kinds.ps order-value-step-kinds.r order-value-step-reads.Post
order_value_step κs a z z' left left' p q = (once p q, refl)

pub order_step_line : NoSecond order-step-line-kinds.ps order-step-line-kinds.r order-step-line-reads.Post
order_step_line κs a z z' left left' p q = (once p q, refl)

pub order_finish_of : NoSecond order-finish-of-kinds.ps order-finish-of-kinds.r order-finish-of-reads.Post
order_finish_of κs a z z' left left' p q = (once p q, refl)

pub order_wrong_piece : NoSecond order-wrong-piece-kinds.ps order-wrong-piece-kinds.r order-wrong-piece-reads.Post
order_wrong_piece κs a z z' left left' p q = (once p q, refl)

-- ---- plain

pub plain_size_at : NoSecond plain-size-at-kinds.ps plain-size-at-kinds.r plain-size-at-reads.Post
plain_size_at κs a z z' left left' p q = (once p.0 q.0, refl)

pub plain_num_at : NoSecond plain-num-at-kinds.ps plain-num-at-kinds.r plain-num-at-reads.Post
plain_num_at κs a z z' left left' p q = (once p q, refl)

pub plain_find : NoSecond plain-find-kinds.ps plain-find-kinds.r plain-find-reads.Post
plain_find κs a z z' left left' p q = (once p.0 q.0, refl)

-- the number by where it ends
pub plain_tabbed_at : NoSecond plain-tabbed-at-kinds.ps plain-tabbed-at-kinds.r plain-tabbed-at-reads.Post
plain_tabbed_at κs a z z' left left' p q =
    let e : z.end ≡ z'.end = once p.0 q.0 in
    (ap₂ (λ (x : Signed) (k : ℕ). record { number = x; end = k }) (p.1.0 ∙ ap (λ (k : ℕ). entry_fold a.1.0 (columns a.0.now a.1.1.0 k)) e ∙ sym q.1.0) e, refl)

-- ---- said

pub said_end_of : NoSecond said-end-of-kinds.ps said-end-of-kinds.r said-end-of-reads.Post
said_end_of κs a z z' left left' p q = (once p.0 q.0, refl)

pub said_entry_at : NoSecond said-entry-at-kinds.ps said-entry-at-kinds.r said-entry-at-reads.Post
said_entry_at κs a z z' left left' p q = (once p q, refl)

pub said_strict_at : NoSecond said-strict-at-kinds.ps said-strict-at-kinds.r said-strict-at-reads.Post
said_strict_at κs a z z' left left' p q = (once p.0 q.0, refl)

pub said_line_at : NoSecond said-line-at-kinds.ps said-line-at-kinds.r said-line-at-reads.Post
said_line_at κs a z z' left left' p q = (once p.0 q.0, refl)

pub said_is_mark : NoSecond said-is-mark-kinds.ps said-is-mark-kinds.r said-is-mark-reads.Post
said_is_mark κs a z z' left left' p q = (once p q, refl)

pub said_is_value : NoSecond said-is-value-kinds.ps said-is-value-kinds.r said-is-value-reads.Post
said_is_value κs a z z' left left' p q = (once p q, refl)

-- ---- sheetlines

pub sheetlines_put_start : NoSecond sheetlines-put-start-kinds.ps sheetlines-put-start-kinds.r sheetlines-put-start-reads.Post
sheetlines_put_start κs a z z' left left' p q = wrote_first left.1 p.0 q.0

pub sheetlines_put_global_head : NoSecond sheetlines-put-global-head-kinds.ps sheetlines-put-global-head-kinds.r sheetlines-put-global-head-reads.Post
sheetlines_put_global_head κs a z z' left left' p q = wrote_first left.1 p.0 q.0

pub sheetlines_value_mark : NoSecond sheetlines-value-mark-kinds.ps sheetlines-value-mark-kinds.r sheetlines-value-mark-reads.Post
sheetlines_value_mark κs a z z' left left' p q = (once p q, refl)

pub sheetlines_put_value_head : NoSecond sheetlines-put-value-head-kinds.ps sheetlines-put-value-head-kinds.r sheetlines-put-value-head-reads.Post
sheetlines_put_value_head κs a z z' left left' p q = wrote_first left.1 p.0 q.0

pub sheetlines_put_entry : NoSecond sheetlines-put-entry-kinds.ps sheetlines-put-entry-kinds.r sheetlines-put-entry-reads.Post
sheetlines_put_entry κs a z z' left left' p q = wrote_first left.1 p.0 q.0

pub sheetlines_entry_len : NoSecond sheetlines-entry-len-kinds.ps sheetlines-entry-len-kinds.r sheetlines-entry-len-reads.Post
sheetlines_entry_len κs a z z' left left' p q = (once p.0 q.0, refl)

pub sheetlines_put_last : NoSecond sheetlines-put-last-kinds.ps sheetlines-put-last-kinds.r sheetlines-put-last-reads.Post
sheetlines_put_last κs a z z' left left' p q = wrote_first left.1 p.0 q.0
