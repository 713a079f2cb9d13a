-- No second result fits the contract of a public function of crates entitypass, entities and walking. Assumes nothing.
use mathlib.Core.Path.{refl, ap₂}
use Prim.Native.Nat.{ℕ}
use Rattle.read_entities.specs.Answers.{EntityAnswer}
use Rattle.read_entity.proofs.entity_pass.Kinds as entitypass-entity-pass-kinds
use Rattle.read_entity.proofs.entity_pass.Reads as entitypass-entity-pass-reads
use Rattle.read_entities.proofs.marks.marks_begun.Kinds as marks-marks-begun-kinds
use Rattle.read_entities.proofs.marks.marks_begun.Reads as marks-marks-begun-reads
use Rattle.read_entities.proofs.marks.mark_of.Kinds as marks-mark-of-kinds
use Rattle.read_entities.proofs.marks.mark_of.Reads as marks-mark-of-reads
use Rattle.read_entities.proofs.marks.mark_step.Kinds as marks-mark-step-kinds
use Rattle.read_entities.proofs.marks.mark_step.Reads as marks-mark-step-reads
use Rattle.read_entities.proofs.naming.named_at.Kinds as naming-named-at-kinds
use Rattle.read_entities.proofs.naming.named_at.Reads as naming-named-at-reads
use Rattle.read_walk.proofs.walk.Kinds as walking-walk-kinds
use Rattle.read_walk.proofs.walk.Reads as walking-walk-reads
use Rattle.demands.specs.Unique.{NoSecond}
use Rattle.demands.proofs.Unique.{once}

-- ---- entitypass

pub entitypass_entity_pass : NoSecond entitypass-entity-pass-kinds.ps entitypass-entity-pass-kinds.r entitypass-entity-pass-reads.Post
entitypass_entity_pass κs a z z' left left' p q = (ap₂ (λ (answer : EntityAnswer) (length : ℕ). record { answer = answer; length = length }) (once p.0 q.0) (once p.1.0 q.1.0), refl)

-- ---- read_entities::marks

pub marks_marks_begun : NoSecond marks-marks-begun-kinds.ps marks-marks-begun-kinds.r marks-marks-begun-reads.Post
marks_marks_begun κs a z z' left left' p q = (once p q, refl)

pub marks_mark_of : NoSecond marks-mark-of-kinds.ps marks-mark-of-kinds.r marks-mark-of-reads.Post
marks_mark_of κs a z z' left left' p q = (once p q, refl)

pub marks_mark_step : NoSecond marks-mark-step-kinds.ps marks-mark-step-kinds.r marks-mark-step-reads.Post
marks_mark_step κs a z z' left left' p q = (once p q, refl)

-- ---- read_entities::naming

pub naming_named_at : NoSecond naming-named-at-kinds.ps naming-named-at-kinds.r naming-named-at-reads.Post
naming_named_at κs a z z' left left' p q = (once p q, refl)

-- ---- walking

pub walking_walk : NoSecond walking-walk-kinds.ps walking-walk-kinds.r walking-walk-reads.Post
walking_walk κs a z z' left left' p q = (once p.0 q.0, refl)
