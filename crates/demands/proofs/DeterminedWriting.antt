-- No second result fits the contract of a public function of crates writing, judging and asking. Assumes nothing.
use mathlib.Core.Path.{refl}
use Rattle.write_check.proofs.check.Kinds as check-kinds
use Rattle.write_check.proofs.check.Reads as check-reads
use Rattle.write_entities.proofs.named_rules.Kinds as judging-named-rules-kinds
use Rattle.write_entities.proofs.named_rules.Reads as judging-named-rules-reads
use Rattle.write_lines.proofs.heads.head_at.Kinds as asking-heads-head-at-kinds
use Rattle.write_lines.proofs.heads.head_at.Reads as asking-heads-head-at-reads
use Rattle.write_lines.proofs.refer.reference_of.Kinds as asking-refer-reference-of-kinds
use Rattle.write_lines.proofs.refer.reference_of.Reads as asking-refer-reference-of-reads
use Rattle.write_lines.proofs.refer.references.Kinds as asking-refer-references-kinds
use Rattle.write_lines.proofs.refer.references.Reads as asking-refer-references-reads
use Rattle.write_lines.proofs.rules.rule_too.Kinds as asking-rules-rule-too-kinds
use Rattle.write_lines.proofs.rules.rule_too.Reads as asking-rules-rule-too-reads
use Rattle.write_lines.proofs.table.keep.Kinds as asking-table-keep-kinds
use Rattle.write_lines.proofs.table.keep.Reads as asking-table-keep-reads
use Rattle.write_lines.proofs.table.class_at.Kinds as asking-table-class-at-kinds
use Rattle.write_lines.proofs.table.class_at.Reads as asking-table-class-at-reads
use Rattle.write_lines.proofs.table.some_at.Kinds as asking-table-some-at-kinds
use Rattle.write_lines.proofs.table.some_at.Reads as asking-table-some-at-reads
use Rattle.demands.specs.Unique.{NoSecond}
use Rattle.demands.proofs.Unique.{once, wrote_first}

-- ---- writing

pub check : NoSecond check-kinds.ps check-kinds.r check-reads.Post
check κs a z z' left left' p q = (once p q, refl)

-- ---- judging

pub judging_named_rules : NoSecond judging-named-rules-kinds.ps judging-named-rules-kinds.r judging-named-rules-reads.Post
judging_named_rules κs a z z' left left' p q = (once p q, refl)

-- ---- write_lines::heads

pub asking_heads_head_at : NoSecond asking-heads-head-at-kinds.ps asking-heads-head-at-kinds.r asking-heads-head-at-reads.Post
asking_heads_head_at κs a z z' left left' p q = (once p q, refl)

-- ---- write_lines::refer

pub asking_refer_reference_of : NoSecond asking-refer-reference-of-kinds.ps asking-refer-reference-of-kinds.r asking-refer-reference-of-reads.Post
asking_refer_reference_of κs a z z' left left' p q = (once p q, refl)

pub asking_refer_references : NoSecond asking-refer-references-kinds.ps asking-refer-references-kinds.r asking-refer-references-reads.Post
asking_refer_references κs a z z' left left' p q = (once p q, refl)

-- ---- write_lines::rules

pub asking_rules_rule_too : NoSecond asking-rules-rule-too-kinds.ps asking-rules-rule-too-kinds.r asking-rules-rule-too-reads.Post
asking_rules_rule_too κs a z z' left left' p q = (once p q, refl)

-- ---- write_lines::table

pub asking_table_keep : NoSecond asking-table-keep-kinds.ps asking-table-keep-kinds.r asking-table-keep-reads.Post
asking_table_keep κs a z z' left left' p q = wrote_first left.1 p.0 q.0

pub asking_table_class_at : NoSecond asking-table-class-at-kinds.ps asking-table-class-at-kinds.r asking-table-class-at-reads.Post
asking_table_class_at κs a z z' left left' p q = (once p q, refl)

pub asking_table_some_at : NoSecond asking-table-some-at-kinds.ps asking-table-some-at-kinds.r asking-table-some-at-reads.Post
asking_table_some_at κs a z z' left left' p q = (once p q, refl)
