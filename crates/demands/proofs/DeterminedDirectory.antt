-- No second result fits the contract of a public function of crates directory, dlines, classes, entryrules and dsection. Assumes nothing.
use mathlib.Core.Path.{refl}
use Rattle.directory.proofs.lines.place_of.Kinds as directory-place-of-kinds
use Rattle.directory.proofs.lines.place_of.Reads as directory-place-of-reads
use Rattle.directory.proofs.lines.start_of.Kinds as directory-start-of-kinds
use Rattle.directory.proofs.lines.start_of.Reads as directory-start-of-reads
use Rattle.directory.proofs.order.in_order.Kinds as directory-in-order-kinds
use Rattle.directory.proofs.order.in_order.Reads as directory-in-order-reads
use Rattle.directory.proofs.order.fields_of.Kinds as directory-fields-of-kinds
use Rattle.directory.proofs.order.fields_of.Reads as directory-fields-of-reads
use Rattle.directory_read.proofs.entry_at.Kinds as dlines-entry-at-kinds
use Rattle.directory_read.proofs.entry_at.Reads as dlines-entry-at-reads
use Rattle.directory_read.proofs.type_at.Kinds as dlines-type-at-kinds
use Rattle.directory_read.proofs.type_at.Reads as dlines-type-at-reads
use Rattle.directory_read.proofs.label_at.Kinds as dlines-label-at-kinds
use Rattle.directory_read.proofs.label_at.Reads as dlines-label-at-reads
use Rattle.directory_lookup.proofs.class_at.Kinds as classes-class-at-kinds
use Rattle.directory_lookup.proofs.class_at.Reads as classes-class-at-reads
use Rattle.directory_rules.proofs.entry_of.Kinds as entryrules-entry-of-kinds
use Rattle.directory_rules.proofs.entry_of.Reads as entryrules-entry-of-reads
use Rattle.directory_rules.proofs.entry_rules.Kinds as entryrules-entry-rules-kinds
use Rattle.directory_rules.proofs.entry_rules.Reads as entryrules-entry-rules-reads
use Rattle.directory_rules.proofs.wanted.Kinds as entryrules-wanted-kinds
use Rattle.directory_rules.proofs.wanted.Reads as entryrules-wanted-reads
use Rattle.directory_lay.proofs.put_first.Kinds as dsection-put-first-kinds
use Rattle.directory_lay.proofs.put_first.Reads as dsection-put-first-reads
use Rattle.directory_lay.proofs.put_second.Kinds as dsection-put-second-kinds
use Rattle.directory_lay.proofs.put_second.Reads as dsection-put-second-reads
use Rattle.demands.specs.Unique.{NoSecond}
use Rattle.demands.proofs.Unique.{once, wrote_first}

-- ---- directory

pub directory_place_of : NoSecond directory-place-of-kinds.ps directory-place-of-kinds.r directory-place-of-reads.Post
directory_place_of κs a z z' left left' p q = (once p.0 q.0, refl)

pub directory_start_of : NoSecond directory-start-of-kinds.ps directory-start-of-kinds.r directory-start-of-reads.Post
directory_start_of κs a z z' left left' p q = (once p q, refl)

pub directory_in_order : NoSecond directory-in-order-kinds.ps directory-in-order-kinds.r directory-in-order-reads.Post
directory_in_order κs a z z' left left' p q = (once p q, refl)

pub directory_fields_of : NoSecond directory-fields-of-kinds.ps directory-fields-of-kinds.r directory-fields-of-reads.Post
directory_fields_of κs a z z' left left' p q = (once p q, refl)

-- ---- dlines

pub dlines_entry_at : NoSecond dlines-entry-at-kinds.ps dlines-entry-at-kinds.r dlines-entry-at-reads.Post
dlines_entry_at κs a z z' left left' p q = (once p.0 q.0, refl)

pub dlines_type_at : NoSecond dlines-type-at-kinds.ps dlines-type-at-kinds.r dlines-type-at-reads.Post
dlines_type_at κs a z z' left left' p q = (once p.0 q.0, refl)

pub dlines_label_at : NoSecond dlines-label-at-kinds.ps dlines-label-at-kinds.r dlines-label-at-reads.Post
dlines_label_at κs a z z' left left' p q = (once p q, refl)

-- ---- classes

pub classes_class_at : NoSecond classes-class-at-kinds.ps classes-class-at-kinds.r classes-class-at-reads.Post
classes_class_at κs a z z' left left' p q = (once p q, refl)

-- ---- entryrules

pub entryrules_entry_of : NoSecond entryrules-entry-of-kinds.ps entryrules-entry-of-kinds.r entryrules-entry-of-reads.Post
entryrules_entry_of κs a z z' left left' p q = (once p q, refl)

pub entryrules_entry_rules : NoSecond entryrules-entry-rules-kinds.ps entryrules-entry-rules-kinds.r entryrules-entry-rules-reads.Post
entryrules_entry_rules κs a z z' left left' p q = (once p q, refl)

pub entryrules_wanted : NoSecond entryrules-wanted-kinds.ps entryrules-wanted-kinds.r entryrules-wanted-reads.Post
entryrules_wanted κs a z z' left left' p q = (once p q, refl)

-- ---- dsection

pub dsection_put_first : NoSecond dsection-put-first-kinds.ps dsection-put-first-kinds.r dsection-put-first-reads.Post
dsection_put_first κs a z z' left left' p q = wrote_first left.1 p.0 q.0

pub dsection_put_second : NoSecond dsection-put-second-kinds.ps dsection-put-second-kinds.r dsection-put-second-reads.Post
dsection_put_second κs a z z' left left' p q = wrote_first left.1 p.0 q.0
