-- No second result fits the contract of a public function of crates sections, cards and oneline. Assumes nothing.
use mathlib.Core.Path.{refl}
use Rattle.cards_pass.proofs.cards.Kinds as sections-cards-kinds
use Rattle.cards_pass.proofs.cards.Reads as sections-cards-reads
use Rattle.cards.proofs.entry_number.Kinds as entry-number-kinds
use Rattle.cards.proofs.entry_number.Reads as entry-number-reads
use Rattle.cards.proofs.entry_line.Kinds as entry-line-kinds
use Rattle.cards.proofs.entry_line.Reads as entry-line-reads
use Rattle.cards.proofs.parameter_line.Kinds as parameter-line-kinds
use Rattle.cards.proofs.parameter_line.Reads as parameter-line-reads
use Rattle.cards.proofs.length_ok.Kinds as length-ok-kinds
use Rattle.cards.proofs.length_ok.Reads as length-ok-reads
use Rattle.cards_line.proofs.step_line.Kinds as oneline-step-line-kinds
use Rattle.cards_line.proofs.step_line.Reads as oneline-step-line-reads
use Rattle.demands.specs.Unique.{NoSecond}
use Rattle.demands.proofs.Unique.{once, number-once}

-- ---- sections

pub sections_cards : NoSecond sections-cards-kinds.ps sections-cards-kinds.r sections-cards-reads.Post
sections_cards κs a z z' left left' p q = (once p.0 q.0, refl)

-- ---- cards

pub entry-number : NoSecond entry-number-kinds.ps entry-number-kinds.r entry-number-reads.Post
entry-number κs a z z' left left' p q = (number-once p q, refl)

pub entry-line : NoSecond entry-line-kinds.ps entry-line-kinds.r entry-line-reads.Post
entry-line κs a z z' left left' p q = (once p.0 q.0, refl)

pub parameter_line_lem : NoSecond parameter-line-kinds.ps parameter-line-kinds.r parameter-line-reads.Post
parameter_line_lem κs a z z' left left' p q = (once p.0 q.0, refl)

pub length_ok_lem : NoSecond length-ok-kinds.ps length-ok-kinds.r length-ok-reads.Post
length_ok_lem κs a z z' left left' p q = (once p q, refl)

-- ---- oneline

pub oneline_step_line : NoSecond oneline-step-line-kinds.ps oneline-step-line-kinds.r oneline-step-line-reads.Post
oneline_step_line κs a z z' left left' p q = (once p q, refl)
