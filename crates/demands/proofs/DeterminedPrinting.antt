-- No second result fits the contract of a public function of crates carried, printing, sheetglobals, printed and sheetstarts. Assumes nothing.
use mathlib.Core.Path.{refl}
use Rattle.print_values.proofs.put_values.Kinds as carried-put-values-kinds
use Rattle.print_values.proofs.put_values.Reads as carried-put-values-reads
use Rattle.print.proofs.characters.put_text.Kinds as characters-put-text-kinds
use Rattle.print.proofs.characters.put_text.Reads as characters-put-text-reads
use Rattle.print_globals.proofs.put_globals.Kinds as sheetglobals-put-globals-kinds
use Rattle.print_globals.proofs.put_globals.Reads as sheetglobals-put-globals-reads
use Rattle.print.proofs.lines.put_mostly_real.Kinds as lines-put-mostly-real-kinds
use Rattle.print.proofs.lines.put_mostly_real.Reads as lines-put-mostly-real-reads
use Rattle.print.proofs.lines.put_value_line.Kinds as lines-put-value-line-kinds
use Rattle.print.proofs.lines.put_value_line.Reads as lines-put-value-line-reads
use Rattle.print.proofs.lines.put_global_line.Kinds as lines-put-global-line-kinds
use Rattle.print.proofs.lines.put_global_line.Reads as lines-put-global-line-reads
use Rattle.print_sheet.proofs.rows.put_entity.Kinds as printed-rows-put-entity-kinds
use Rattle.print_sheet.proofs.rows.put_entity.Reads as printed-rows-put-entity-reads
use Rattle.print_sheet.proofs.rows.put_rows.Kinds as printed-rows-put-rows-kinds
use Rattle.print_sheet.proofs.rows.put_rows.Reads as printed-rows-put-rows-reads
use Rattle.print_sheet.proofs.put_sheet.Kinds as printed-put-sheet-kinds
use Rattle.print_sheet.proofs.put_sheet.Reads as printed-put-sheet-reads
use Rattle.print_starts.proofs.put_starts.Kinds as sheetstarts-put-starts-kinds
use Rattle.print_starts.proofs.put_starts.Reads as sheetstarts-put-starts-reads
use Rattle.print.proofs.taking.value_from.Kinds as taking-value-from-kinds
use Rattle.print.proofs.taking.value_from.Reads as taking-value-from-reads
use Rattle.print.proofs.taking.met_at.Kinds as taking-met-at-kinds
use Rattle.print.proofs.taking.met_at.Reads as taking-met-at-reads
use Rattle.demands.specs.Unique.{NoSecond}
use Rattle.demands.proofs.Unique.{once, wrote_first}

-- ---- carried

pub carried_put_values : NoSecond carried-put-values-kinds.ps carried-put-values-kinds.r carried-put-values-reads.Post
carried_put_values κs a z z' left left' p q = wrote_first left.1 p.0 q.0

-- ---- print::characters

pub characters_put_text : NoSecond characters-put-text-kinds.ps characters-put-text-kinds.r characters-put-text-reads.Post
characters_put_text κs a z z' left left' p q = wrote_first left.1 p.0 q.0

-- ---- sheetglobals

pub sheetglobals_put_globals : NoSecond sheetglobals-put-globals-kinds.ps sheetglobals-put-globals-kinds.r sheetglobals-put-globals-reads.Post
sheetglobals_put_globals κs a z z' left left' p q = wrote_first left.1 p.0 q.0

-- ---- print::lines

pub lines_put_mostly_real : NoSecond lines-put-mostly-real-kinds.ps lines-put-mostly-real-kinds.r lines-put-mostly-real-reads.Post
lines_put_mostly_real κs a z z' left left' p q = wrote_first left.1 p.0 q.0

pub lines_put_value_line : NoSecond lines-put-value-line-kinds.ps lines-put-value-line-kinds.r lines-put-value-line-reads.Post
lines_put_value_line κs a z z' left left' p q = wrote_first left.1 p.0 q.0

pub lines_put_global_line : NoSecond lines-put-global-line-kinds.ps lines-put-global-line-kinds.r lines-put-global-line-reads.Post
lines_put_global_line κs a z z' left left' p q = wrote_first left.1 p.0 q.0

-- ---- print_sheet::rows

pub printed_rows_put_entity : NoSecond printed-rows-put-entity-kinds.ps printed-rows-put-entity-kinds.r printed-rows-put-entity-reads.Post
printed_rows_put_entity κs a z z' left left' p q = wrote_first left.1 p.0 q.0

pub printed_rows_put_rows : NoSecond printed-rows-put-rows-kinds.ps printed-rows-put-rows-kinds.r printed-rows-put-rows-reads.Post
printed_rows_put_rows κs a z z' left left' p q = wrote_first left.1 p.0 q.0

-- ---- printed

pub printed_put_sheet : NoSecond printed-put-sheet-kinds.ps printed-put-sheet-kinds.r printed-put-sheet-reads.Post
printed_put_sheet κs a z z' left left' p q = wrote_first left.1 p.0 q.0

-- ---- sheetstarts

pub sheetstarts_put_starts : NoSecond sheetstarts-put-starts-kinds.ps sheetstarts-put-starts-kinds.r sheetstarts-put-starts-reads.Post
sheetstarts_put_starts κs a z z' left left' p q = wrote_first left.1 p.0 q.0

-- ---- print::taking

pub taking_value_from : NoSecond taking-value-from-kinds.ps taking-value-from-kinds.r taking-value-from-reads.Post
taking_value_from κs a z z' left left' p q = (once p.0 q.0, refl)

pub taking_met_at : NoSecond taking-met-at-kinds.ps taking-met-at-kinds.r taking-met-at-reads.Post
taking_met_at κs a z z' left left' p q = (once p.0 q.0, refl)
