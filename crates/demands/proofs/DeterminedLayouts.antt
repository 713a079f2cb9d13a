-- No second result fits the contract of a public function of crates typelists, machine, layoutrows and takes. Assumes nothing.
use mathlib.Core.Path.{refl}
use Rattle.layouts_lists.proofs.bit_of.Kinds as typelists-bit-of-kinds
use Rattle.layouts_lists.proofs.bit_of.Reads as typelists-bit-of-reads
use Rattle.layouts_lists.proofs.known.Kinds as typelists-known-kinds
use Rattle.layouts_lists.proofs.known.Reads as typelists-known-reads
use Rattle.layouts_lists.proofs.is_list.Kinds as typelists-is-list-kinds
use Rattle.layouts_lists.proofs.is_list.Reads as typelists-is-list-reads
use Rattle.layouts_machine.proofs.with_left.Kinds as machine-with-left-kinds
use Rattle.layouts_machine.proofs.with_left.Reads as machine-with-left-reads
use Rattle.layouts_machine.proofs.runs_on.Kinds as machine-runs-on-kinds
use Rattle.layouts_machine.proofs.runs_on.Reads as machine-runs-on-reads
use Rattle.layouts_machine.proofs.step.Kinds as machine-step-kinds
use Rattle.layouts_machine.proofs.step.Reads as machine-step-reads
use Rattle.layouts_machine.proofs.end.Kinds as machine-end-kinds
use Rattle.layouts_machine.proofs.end.Reads as machine-end-reads
use Rattle.layouts_machine.proofs.start.Kinds as machine-start-kinds
use Rattle.layouts_machine.proofs.start.Reads as machine-start-reads
use Rattle.layouts_machine.proofs.is_reference.Kinds as machine-is-reference-kinds
use Rattle.layouts_machine.proofs.is_reference.Reads as machine-is-reference-reads
use Rattle.layouts_rows.proofs.look.Kinds as layoutrows-look-kinds
use Rattle.layouts_rows.proofs.look.Reads as layoutrows-look-reads
use Rattle.layouts_rows.proofs.rests_in.Kinds as layoutrows-rests-in-kinds
use Rattle.layouts_rows.proofs.rests_in.Reads as layoutrows-rests-in-reads
use Rattle.layouts_takes.proofs.takes_in.Kinds as takes-takes-in-kinds
use Rattle.layouts_takes.proofs.takes_in.Reads as takes-takes-in-reads
use Rattle.layouts_rows.proofs.told.numeric_in.Kinds as layoutrows-told-numeric-in-kinds
use Rattle.layouts_rows.proofs.told.numeric_in.Reads as layoutrows-told-numeric-in-reads
use Rattle.layouts_rows.proofs.told.above_in.Kinds as layoutrows-told-above-in-kinds
use Rattle.layouts_rows.proofs.told.above_in.Reads as layoutrows-told-above-in-reads
use Rattle.layouts_rows.proofs.told.text_in.Kinds as layoutrows-told-text_in-kinds
use Rattle.layouts_rows.proofs.told.text_in.Reads as layoutrows-told-text_in-reads
use Rattle.layouts_rows.proofs.told.within_in.Kinds as layoutrows-told-within-in-kinds
use Rattle.layouts_rows.proofs.told.within_in.Reads as layoutrows-told-within-in-reads
use Rattle.layouts_rows.proofs.told.size_in.Kinds as layoutrows-told-size-in-kinds
use Rattle.layouts_rows.proofs.told.size_in.Reads as layoutrows-told-size-in-reads
use Rattle.demands.specs.Unique.{NoSecond}
use Rattle.demands.proofs.Unique.{once}

-- ---- typelists

pub typelists_bit_of : NoSecond typelists-bit-of-kinds.ps typelists-bit-of-kinds.r typelists-bit-of-reads.Post
typelists_bit_of κs a z z' left left' p q = (once p q, refl)

pub typelists_known : NoSecond typelists-known-kinds.ps typelists-known-kinds.r typelists-known-reads.Post
typelists_known κs a z z' left left' p q = (once p q, refl)

pub typelists_is_list : NoSecond typelists-is-list-kinds.ps typelists-is-list-kinds.r typelists-is-list-reads.Post
typelists_is_list κs a z z' left left' p q = (once p q, refl)

-- ---- machine

pub machine_with_left : NoSecond machine-with-left-kinds.ps machine-with-left-kinds.r machine-with-left-reads.Post
machine_with_left κs a z z' left left' p q = (once p q, refl)

pub machine_runs_on : NoSecond machine-runs-on-kinds.ps machine-runs-on-kinds.r machine-runs-on-reads.Post
machine_runs_on κs a z z' left left' p q = (once p q, refl)

pub machine_step : NoSecond machine-step-kinds.ps machine-step-kinds.r machine-step-reads.Post
machine_step κs a z z' left left' p q = (once p q, refl)

pub machine_end : NoSecond machine-end-kinds.ps machine-end-kinds.r machine-end-reads.Post
machine_end κs a z z' left left' p q = (once p.0 q.0, refl)

pub machine_start : NoSecond machine-start-kinds.ps machine-start-kinds.r machine-start-reads.Post
machine_start κs a z z' left left' p q = (once p q, refl)

pub machine_is_reference : NoSecond machine-is-reference-kinds.ps machine-is-reference-kinds.r machine-is-reference-reads.Post
machine_is_reference κs a z z' left left' p q = (once p q, refl)

-- ---- layoutrows

pub layoutrows_look : NoSecond layoutrows-look-kinds.ps layoutrows-look-kinds.r layoutrows-look-reads.Post
layoutrows_look κs a z z' left left' p q = (once p q, refl)

pub layoutrows_rests_in : NoSecond layoutrows-rests-in-kinds.ps layoutrows-rests-in-kinds.r layoutrows-rests-in-reads.Post
layoutrows_rests_in κs a z z' left left' p q = (once p q, refl)

-- ---- takes

pub takes_takes_in : NoSecond takes-takes-in-kinds.ps takes-takes-in-kinds.r takes-takes-in-reads.Post
takes_takes_in κs a z z' left left' p q = (once p q, refl)

-- ---- layouts_rows::told

pub layoutrows_told_numeric_in : NoSecond layoutrows-told-numeric-in-kinds.ps layoutrows-told-numeric-in-kinds.r layoutrows-told-numeric-in-reads.Post
layoutrows_told_numeric_in κs a z z' left left' p q = (once p q, refl)

pub layoutrows_told_above_in : NoSecond layoutrows-told-above-in-kinds.ps layoutrows-told-above-in-kinds.r layoutrows-told-above-in-reads.Post
layoutrows_told_above_in κs a z z' left left' p q = (once p q, refl)

pub layoutrows_told_text_in : NoSecond layoutrows-told-text_in-kinds.ps layoutrows-told-text_in-kinds.r layoutrows-told-text_in-reads.Post
layoutrows_told_text_in κs a z z' left left' p q = (once p q, refl)

pub layoutrows_told_within_in : NoSecond layoutrows-told-within-in-kinds.ps layoutrows-told-within-in-kinds.r layoutrows-told-within-in-reads.Post
layoutrows_told_within_in κs a z z' left left' p q = (once p q, refl)

pub layoutrows_told_size_in : NoSecond layoutrows-told-size-in-kinds.ps layoutrows-told-size-in-kinds.r layoutrows-told-size-in-reads.Post
layoutrows_told_size_in κs a z z' left left' p q = (once p q, refl)
