-- The passes one after another: the first that refuses is the file's refusal.
use mathlib.Core.Path.{◌≡◌, refl, sym, ap, ◌∙◌}
use mathlib.Core.List.{List}
use Prim.Native.Nat.{ℕ}
use native.Mathlib.Omega.{arith}
use Rattle.columns.specs.declared.Fault.TheVariants.{Ownership}
use Rattle.columns.specs.declared.FileLine.{FileLine}
use Rattle.columns.specs.declared.DirectoryNumber.{DirectoryNumber}
use Rattle.columns.specs.declared.ParameterLine.{ParameterLine}
use Rattle.columns.specs.Refusal.{Outcome, accepted, refused, ◌then◌}
use Rattle.cards.specs.declared.Counts.{Counts}
use Rattle.cards.specs.Cards.{CardsRead, cards_of}
use Rattle.cards.proofs.Growth.{holds_of}
use Rattle.cards.specs.Shared.{file_line}
use Rattle.owners.specs.declared.Owned.{Owned}
use Rattle.owners.specs.declared.Owned.TheVariants.{Everyone, Entry, Line}
use Rattle.owners.specs.InFile.{owners_in, line_of, outcome}
use Rattle.model.specs.Read.{GlobalRead, Listed, global_in, entries_in, references_in, before}
use Rattle.std.specs.Prelude.{Ok, Err}
use Rattle.columns.specs.declared.Refusal.{Refusal}
use Rattle.columns.specs.Refusal.{refusal_at}
use Rattle.read_passes.specs.declared.Delimiters.{Delimiters}
use Rattle.read_passes.specs.Passes.{FilePass, GlobalAnswer, BeforeAnswer, delimiters, told, pass_of, global_answer, before_answer}
use Rattle.read_passes.specs.Listed.{all_entries}
use Rattle.read_passes.specs.Walks.{entries_outcome, directory_outcome, behind_cards}
use Rattle.read_passes.proofs.Listing.{entries_are}

-- ---- 11

module _ (f : List ℕ) (c : Counts) (o : Owned) (eo : o ≡ owners_in f c) where
  pub owned_all : o ≡ Everyone → Ok tt ≡ pass_of (outcome c (owners_in f c))
  owned_all e = rw (← eo, e)

  module _ (l : FileLine) (el : l ≡ file_line (line_of c o)) where
    pub owned-entry : (m : DirectoryNumber) → o ≡ Entry m → Err (refusal_at Ownership l) ≡ pass_of (outcome c (owners_in f c))
    owned-entry m e = rw (← eo, el, e)

    pub owned-line : (k : ParameterLine) → o ≡ Line k → Err (refusal_at Ownership l) ≡ pass_of (outcome c (owners_in f c))
    owned-line k e = rw (← eo, el, e)

-- ---- the directory

-- entries that pass are those at their places
pub good_entries : (f : List ℕ) (c : Counts) → pass_of (entries_in f c) ≡ Ok tt → entries_in f c ≡ accepted (all_entries f c)
good_entries f c h = by (entries_in f c) refl h
  where
    by : (o : Outcome (List Listed)) → entries_in f c ≡ o → pass_of o ≡ Ok tt → entries_in f c ≡ accepted (all_entries f c)
    by (accepted es) e g = e ∙ ap (λ (x : List Listed). accepted x) (entries_are f c es e)
    by (refused n p) e g = let z : ◌≡◌ {A = ℕ} 0 1 = cc in absurd (omega arith)

-- what a pass refuses first, all refuse
refused_first : {A B : Type 0} (o : Outcome A) (k : A → Outcome B) (n : Refusal FileLine) → pass_of o ≡ Err n → pass_of (o then k) ≡ Err n
refused_first (accepted a) k n h = let z : ◌≡◌ {A = ℕ} 0 1 = cc in absurd (omega arith)
refused_first (refused m p) k n h = h

-- what it accepts, the next decides
good_first : {A B : Type 0} (o : Outcome A) (b : Outcome B) → pass_of o ≡ Ok tt → pass_of (o then λ _. b) ≡ pass_of b
good_first (accepted a) b h = refl
good_first (refused m p) b h = let z : ◌≡◌ {A = ℕ} 0 1 = cc in absurd (omega arith)

module _ (f : List ℕ) (c : Counts) (x : FilePass) (ex : x ≡ pass_of (entries_outcome f c)) where
  pub entries_refuse : (n : Refusal FileLine) → x ≡ Err n → Err n ≡ pass_of (directory_outcome f c)
  unfolding directory_outcome
  entries_refuse n e = sym (refused_first (entries_outcome f c) (λ _. outcome c (owners_in f c)) n (sym ex ∙ e))

  pub owners_decide : (r : FilePass) → x ≡ Ok tt → r ≡ pass_of (outcome c (owners_in f c)) → r ≡ pass_of (directory_outcome f c)
  unfolding directory_outcome
  owners_decide r e er = er ∙ sym (good_first (entries_outcome f c) (outcome c (owners_in f c)) (sym ex ∙ e))

pub ruleset directories = (owned_all, owned-entry, owned-line, entries_refuse, owners_decide)

-- ---- all

-- counts and delimiters, where a pass is good
abbrev answer_with : FilePass → Counts → ℕ → ℕ → BeforeAnswer
answer_with (Ok u) c p d = Ok (told c p d)
answer_with (Err n) c p d = Err n

module _ (c : Counts) (g : GlobalRead) where
  last_part : {U : Type 0} (o : Outcome U) (es : List Listed) → before_answer (o then λ _. accepted (record { counts = c; global = g; listed = es })) ≡ answer_with (pass_of o) c g.parameter g.record_end
  last_part (accepted x) es = refl
  last_part (refused n p) es = refl

  two-parts : {U W : Type 0} (r : Outcome U) (o : Outcome W) (es : List Listed)
      → before_answer (r then λ _. o then λ _. accepted (record { counts = c; global = g; listed = es })) ≡ answer_with (pass_of (r then λ _. o)) c g.parameter g.record_end
  two-parts (accepted x) o es = last_part o es
  two-parts (refused n p) o es = refl

  three-parts : {U W : Type 0} (e : Outcome (List Listed)) (r : List Listed → Outcome U) (o : Outcome W)
      → before_answer (e then λ es. r es then λ _. o then λ _. accepted (record { counts = c; global = g; listed = es })) ≡ answer_with (pass_of ((e then λ es. r es) then λ _. o)) c g.parameter g.record_end
  three-parts (accepted es) r o = two-parts (r es) o es
  three-parts (refused n p) r o = refl

module _ (f : List ℕ) (c : Counts) (x : GlobalAnswer) (ex : x ≡ global_answer (global_in f c)) where
  pub global_refuses : (n : Refusal FileLine) → x ≡ Err n → Err n ≡ before_answer (behind_cards f c)
  unfolding behind_cards
  global_refuses n e = by (global_in f c) (sym ex ∙ e)
    where
      by : (o : Outcome GlobalRead) → global_answer o ≡ Err n → Err n ≡ before_answer (o then λ g. entries_in f c then λ es. references_in c es then λ _. outcome c (owners_in f c) then λ _. accepted (record { counts = c; global = g; listed = es }))
      by (accepted g) h = let z : ◌≡◌ {A = ℕ} 0 1 = cc in absurd (omega arith)
      by (refused m p) h =
          let en : refusal_at m (file_line p) ≡ n = cc in
          rw (← en)

  module _ (s : Delimiters) (e : x ≡ Ok s) (y : FilePass) (ey : y ≡ pass_of (directory_outcome f c)) where
    decided : answer_with y c s.parameter s.closing ≡ before_answer (behind_cards f c)
    unfolding behind_cards directory_outcome entries_outcome
    decided = by (global_in f c) (sym ex ∙ e)
      where
        by : (o : Outcome GlobalRead) → global_answer o ≡ Ok s → answer_with y c s.parameter s.closing ≡ before_answer (o then λ g. entries_in f c then λ es. references_in c es then λ _. outcome c (owners_in f c) then λ _. accepted (record { counts = c; global = g; listed = es }))
        by (accepted g) h =
            let es : delimiters g.parameter g.record_end ≡ s = cc in
            let ep : g.parameter ≡ s.parameter = ap (λ (z : Delimiters). z.parameter) es in
            let ed : g.record_end ≡ s.closing = ap (λ (z : Delimiters). z.closing) es in
            rw (ey, ← ep, ← ed) (sym (three-parts c g (entries_in f c) (λ es. references_in c es) (outcome c (owners_in f c))))
        by (refused m q) h = let z : ◌≡◌ {A = ℕ} 0 1 = cc in absurd (omega arith)

    pub directory_refuses : (n : Refusal FileLine) → y ≡ Err n → Err n ≡ before_answer (behind_cards f c)
    directory_refuses n h = sym (ap (λ (z : FilePass). answer_with z c s.parameter s.closing) h) ∙ decided

    pub directory_passes : y ≡ Ok tt → Ok (told c s.parameter s.closing) ≡ before_answer (behind_cards f c)
    directory_passes h = sym (ap (λ (z : FilePass). answer_with z c s.parameter s.closing) h) ∙ decided

module _ (f : List ℕ) (x : CardsRead) (ex : x ≡ cards_of f) where
  pub cards_refuse : (n : Refusal FileLine) → x ≡ Err n → Err n ≡ before_answer (before f)
  unfolding before
  cards_refuse n e = rw (← ex, e)

  pub cards_pass : (c : Counts) (r : BeforeAnswer) → x ≡ Ok c → r ≡ before_answer (behind_cards f c) → r ≡ before_answer (before f)
  unfolding before behind_cards
  cards_pass c r e er = rw (← ex, e) er

pub ruleset wholes = (holds_of, global_refuses, directory_refuses, directory_passes, cards_refuse, cards_pass)
