-- No second result fits the contract of a public function of crates emit, decimals, fixed and columns. Assumes nothing.
use mathlib.Core.Path.{refl}
use Rattle.columns_emit.proofs.put.Kinds as emit-put-kinds
use Rattle.columns_emit.proofs.put.Reads as emit-put-reads
use Rattle.columns_emit.proofs.put_all.Kinds as emit-put-all-kinds
use Rattle.columns_emit.proofs.put_all.Reads as emit-put-all-reads
use Rattle.columns_emit.proofs.put_run.Kinds as emit-put-run-kinds
use Rattle.columns_emit.proofs.put_run.Reads as emit-put-run-reads
use Rattle.columns_decimals.proofs.count_digits.Kinds as decimals-count-digits-kinds
use Rattle.columns_decimals.proofs.count_digits.Reads as decimals-count-digits-reads
use Rattle.columns_decimals.proofs.put_decimal.Kinds as decimals-put-decimal-kinds
use Rattle.columns_decimals.proofs.put_decimal.Reads as decimals-put-decimal-reads
use Rattle.columns_decimals.proofs.put_right.Kinds as decimals-put-right-kinds
use Rattle.columns_decimals.proofs.put_right.Reads as decimals-put-right-reads
use Rattle.columns_decimals.proofs.put_signed.Kinds as decimals-put-signed-kinds
use Rattle.columns_decimals.proofs.put_signed.Reads as decimals-put-signed-reads
use Rattle.columns_decimals.proofs.count_signed.Kinds as decimals-count-signed-kinds
use Rattle.columns_decimals.proofs.count_signed.Reads as decimals-count-signed-reads
use Rattle.columns_decimals.proofs.put_signed_right.Kinds as decimals-put-signed-right-kinds
use Rattle.columns_decimals.proofs.put_signed_right.Reads as decimals-put-signed-right-reads
use Rattle.columns_decimals.proofs.put_left.Kinds as decimals-put-left-kinds
use Rattle.columns_decimals.proofs.put_left.Reads as decimals-put-left-reads
use Rattle.columns_fixed.proofs.read_field.Kinds as fixed-read-field-kinds
use Rattle.columns_fixed.proofs.read_field.Reads as fixed-read-field-reads
use Rattle.columns_fixed.proofs.holds.Kinds as fixed-holds-kinds
use Rattle.columns_fixed.proofs.holds.Reads as fixed-holds-reads
use Rattle.columns_fixed.proofs.read_signed.Kinds as fixed-read-signed-kinds
use Rattle.columns_fixed.proofs.read_signed.Reads as fixed-read-signed-reads
use Rattle.columns.proofs.look.byte_at.Kinds as look-byte-at-kinds
use Rattle.columns.proofs.look.byte_at.Reads as look-byte-at-reads
use Rattle.columns.proofs.look.is_blank.Kinds as look-is-blank-kinds
use Rattle.columns.proofs.look.is_blank.Reads as look-is-blank-reads
use Rattle.columns.proofs.look.is_printable.Kinds as look-is-printable-kinds
use Rattle.columns.proofs.look.is_printable.Reads as look-is-printable-reads
use Rattle.columns.proofs.look.same.Kinds as look-same-kinds
use Rattle.columns.proofs.look.same.Reads as look-same-reads
use Rattle.columns.proofs.wide.Kinds as wide-kinds
use Rattle.columns.proofs.wide.Reads as wide-reads
use Rattle.columns.proofs.byte_u32.Kinds as byte-u32-kinds
use Rattle.columns.proofs.byte_u32.Reads as byte-u32-reads
use Rattle.columns.proofs.byte_u64.Kinds as byte-u64-kinds
use Rattle.columns.proofs.byte_u64.Reads as byte-u64-reads
use Rattle.demands.specs.Unique.{NoSecond}
use Rattle.demands.proofs.Unique.{once, wrote_first}

-- ---- emit

pub emit_put : NoSecond emit-put-kinds.ps emit-put-kinds.r emit-put-reads.Post
emit_put κs a z z' left left' p q = wrote_first left.1 p.0 q.0

pub emit_put_all : NoSecond emit-put-all-kinds.ps emit-put-all-kinds.r emit-put-all-reads.Post
emit_put_all κs a z z' left left' p q = wrote_first left.1 p.0 q.0

pub emit_put_run : NoSecond emit-put-run-kinds.ps emit-put-run-kinds.r emit-put-run-reads.Post
emit_put_run κs a z z' left left' p q = wrote_first left.1 p.0 q.0

-- ---- decimals

pub decimals_count_digits : NoSecond decimals-count-digits-kinds.ps decimals-count-digits-kinds.r decimals-count-digits-reads.Post
decimals_count_digits κs a z z' left left' p q = (once p.0 q.0, refl)

pub decimals_put_decimal : NoSecond decimals-put-decimal-kinds.ps decimals-put-decimal-kinds.r decimals-put-decimal-reads.Post
decimals_put_decimal κs a z z' left left' p q = wrote_first left.1 p.0 q.0

pub decimals_put_right : NoSecond decimals-put-right-kinds.ps decimals-put-right-kinds.r decimals-put-right-reads.Post
decimals_put_right κs a z z' left left' p q = wrote_first left.1 p.0 q.0

pub decimals_put_signed : NoSecond decimals-put-signed-kinds.ps decimals-put-signed-kinds.r decimals-put-signed-reads.Post
decimals_put_signed κs a z z' left left' p q = wrote_first left.1 p.0 q.0

pub decimals_count_signed : NoSecond decimals-count-signed-kinds.ps decimals-count-signed-kinds.r decimals-count-signed-reads.Post
decimals_count_signed κs a z z' left left' p q = (once p.0 q.0, refl)

pub decimals_put_signed_right : NoSecond decimals-put-signed-right-kinds.ps decimals-put-signed-right-kinds.r decimals-put-signed-right-reads.Post
decimals_put_signed_right κs a z z' left left' p q = wrote_first left.1 p.0 q.0

pub decimals_put_left : NoSecond decimals-put-left-kinds.ps decimals-put-left-kinds.r decimals-put-left-reads.Post
decimals_put_left κs a z z' left left' p q = wrote_first left.1 p.0 q.0

-- ---- fixed

pub fixed_read_field : NoSecond fixed-read-field-kinds.ps fixed-read-field-kinds.r fixed-read-field-reads.Post
fixed_read_field κs a z z' left left' p q = (once p.0 q.0, refl)

pub fixed_holds : NoSecond fixed-holds-kinds.ps fixed-holds-kinds.r fixed-holds-reads.Post
fixed_holds κs a z z' left left' p q = (once p q, refl)

pub fixed_read_signed : NoSecond fixed-read-signed-kinds.ps fixed-read-signed-kinds.r fixed-read-signed-reads.Post
fixed_read_signed κs a z z' left left' p q = (once p.0 q.0, refl)

-- ---- columns::look

pub look_byte_at : NoSecond look-byte-at-kinds.ps look-byte-at-kinds.r look-byte-at-reads.Post
look_byte_at κs a z z' left left' p q = (once p q, refl)

pub look_is_blank : NoSecond look-is-blank-kinds.ps look-is-blank-kinds.r look-is-blank-reads.Post
look_is_blank κs a z z' left left' p q = (once p q, refl)

pub look_is_printable : NoSecond look-is-printable-kinds.ps look-is-printable-kinds.r look-is-printable-reads.Post
look_is_printable κs a z z' left left' p q = (once p q, refl)

pub look_same : NoSecond look-same-kinds.ps look-same-kinds.r look-same-reads.Post
look_same κs a z z' left left' p q = (once p q, refl)

-- ---- columns

pub wide : NoSecond wide-kinds.ps wide-kinds.r wide-reads.Post
wide κs a z z' left left' p q = (once p.0 q.0, refl)

pub byte_u32 : NoSecond byte-u32-kinds.ps byte-u32-kinds.r byte-u32-reads.Post
byte_u32 κs a z z' left left' p q = (once p.0 q.0, refl)

pub byte_u64 : NoSecond byte-u64-kinds.ps byte-u64-kinds.r byte-u64-reads.Post
byte_u64 κs a z z' left left' p q = (once p.0 q.0, refl)
