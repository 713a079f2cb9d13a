-- No second result fits the contract of a public function of crates strict, digits, numbers, spell, limits and values. Assumes nothing.
use mathlib.Core.Path.{refl}
use Rattle.values_strict.proofs.strict.Kinds as strict-strict-kinds
use Rattle.values_strict.proofs.strict.Reads as strict-strict-reads
use Rattle.values_strict.proofs.front_of.Kinds as strict-front-of-kinds
use Rattle.values_strict.proofs.front_of.Reads as strict-front-of-reads
use Rattle.values_digits.proofs.scan_at.Kinds as digits-scan-at-kinds
use Rattle.values_digits.proofs.scan_at.Reads as digits-scan-at-reads
use Rattle.values_read.proofs.read.Kinds as numbers-read-kinds
use Rattle.values_read.proofs.read.Reads as numbers-read-reads
use Rattle.values_read.proofs.head_of.Kinds as numbers-head-of-kinds
use Rattle.values_read.proofs.head_of.Reads as numbers-head-of-reads
use Rattle.values_spell.proofs.put_whole.Kinds as spell-put-whole-kinds
use Rattle.values_spell.proofs.put_whole.Reads as spell-put-whole-reads
use Rattle.values_spell.proofs.put_real.Kinds as spell-put-real-kinds
use Rattle.values_spell.proofs.put_real.Reads as spell-put-real-reads
use Rattle.values_spell.proofs.put_head.Kinds as spell-put-head-kinds
use Rattle.values_spell.proofs.put_head.Reads as spell-put-head-reads
use Rattle.values_spell.proofs.put_front.Kinds as spell-put-front-kinds
use Rattle.values_spell.proofs.put_front.Reads as spell-put-front-reads
use Rattle.values_spell.proofs.whole_len.Kinds as spell-whole-len-kinds
use Rattle.values_spell.proofs.whole_len.Reads as spell-whole-len-reads
use Rattle.values_spell.proofs.real_len.Kinds as spell-real-len-kinds
use Rattle.values_spell.proofs.real_len.Reads as spell-real-len-reads
use Rattle.values_spell.proofs.head_len.Kinds as spell-head-len-kinds
use Rattle.values_spell.proofs.head_len.Reads as spell-head-len-reads
use Rattle.values_spell.proofs.front_len.Kinds as spell-front-len-kinds
use Rattle.values_spell.proofs.front_len.Reads as spell-front-len-reads
use Rattle.values_limits.proofs.finish_of.Kinds as limits-finish-of-kinds
use Rattle.values_limits.proofs.finish_of.Reads as limits-finish-of-reads
use Rattle.values.proofs.is_missing.Kinds as is-missing-kinds
use Rattle.values.proofs.is_missing.Reads as is-missing-reads
use Rattle.demands.specs.Unique.{NoSecond}
use Rattle.demands.proofs.Unique.{once, wrote_first}

-- ---- strict

pub strict_strict : NoSecond strict-strict-kinds.ps strict-strict-kinds.r strict-strict-reads.Post
strict_strict κs a z z' left left' p q = (once p.0 q.0, refl)

pub strict_front_of : NoSecond strict-front-of-kinds.ps strict-front-of-kinds.r strict-front-of-reads.Post
strict_front_of κs a z z' left left' p q = (once p.0 q.0, refl)

-- ---- digits

pub digits_scan_at : NoSecond digits-scan-at-kinds.ps digits-scan-at-kinds.r digits-scan-at-reads.Post
digits_scan_at κs a z z' left left' p q = (once p.0 q.0, refl)

-- ---- numbers

pub numbers_read : NoSecond numbers-read-kinds.ps numbers-read-kinds.r numbers-read-reads.Post
numbers_read κs a z z' left left' p q = (once p.0 q.0, refl)

pub numbers_head_of : NoSecond numbers-head-of-kinds.ps numbers-head-of-kinds.r numbers-head-of-reads.Post
numbers_head_of κs a z z' left left' p q = (once p.0 q.0, refl)

-- ---- spell

pub spell_put_whole : NoSecond spell-put-whole-kinds.ps spell-put-whole-kinds.r spell-put-whole-reads.Post
spell_put_whole κs a z z' left left' p q = wrote_first left.1 p.0 q.0

pub spell_put_real : NoSecond spell-put-real-kinds.ps spell-put-real-kinds.r spell-put-real-reads.Post
spell_put_real κs a z z' left left' p q = wrote_first left.1 p.0 q.0

pub spell_put_head : NoSecond spell-put-head-kinds.ps spell-put-head-kinds.r spell-put-head-reads.Post
spell_put_head κs a z z' left left' p q = wrote_first left.1 p.0 q.0

pub spell_put_front : NoSecond spell-put-front-kinds.ps spell-put-front-kinds.r spell-put-front-reads.Post
spell_put_front κs a z z' left left' p q = wrote_first left.1 p.0 q.0

pub spell_whole_len : NoSecond spell-whole-len-kinds.ps spell-whole-len-kinds.r spell-whole-len-reads.Post
spell_whole_len κs a z z' left left' p q = (once p.0 q.0, refl)

pub spell_real_len : NoSecond spell-real-len-kinds.ps spell-real-len-kinds.r spell-real-len-reads.Post
spell_real_len κs a z z' left left' p q = (once p.0 q.0, refl)

pub spell_head_len : NoSecond spell-head-len-kinds.ps spell-head-len-kinds.r spell-head-len-reads.Post
spell_head_len κs a z z' left left' p q = (once p.0 q.0, refl)

pub spell_front_len : NoSecond spell-front-len-kinds.ps spell-front-len-kinds.r spell-front-len-reads.Post
spell_front_len κs a z z' left left' p q = (once p.0 q.0, refl)

-- ---- limits

pub limits_finish_of : NoSecond limits-finish-of-kinds.ps limits-finish-of-kinds.r limits-finish-of-reads.Post
limits_finish_of κs a z z' left left' p q = (once p q, refl)

-- ---- values

pub is_missing_lem : NoSecond is-missing-kinds.ps is-missing-kinds.r is-missing-reads.Post
is_missing_lem κs a z z' left left' p q = (once p q, refl)
