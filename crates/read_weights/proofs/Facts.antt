-- What a caller of `weighing::check` has in hand: a good file has a model, is ready to be printed, and has delimiters; a refusal is that of reading.
use mathlib.Core.Path.{◌≡◌, refl, sym, ap, ap₂, ◌∙◌}
use mathlib.Core.List.{List, map}
use Prim.Native.Nat.{ℕ, ◌≤◌, ◌<◌}
use native.Mathlib.Omega.{arith}
use Rattle.columns.specs.declared.FileLine.{FileLine}
use Rattle.columns.specs.Refusal.{Outcome, accepted, refused, ◌then◌}
use Rattle.columns.specs.Format.{most_list}
use Rattle.cards.specs.declared.Counts.{Counts}
use Rattle.cards.specs.Shared.{file_line}
use Rattle.sheets.specs.Sheet.{sheet_text}
use Rattle.model.specs.Model.{Carried, Model, sheet_of}
use Rattle.model.specs.Read.{last_pass, model_with, before, read_model, reads}
use Rattle.model.proofs.ReadApart.{ReadApart, read_apart}
use Rattle.read_passes.specs.Listed.{all_entries}
use Rattle.read_passes.specs.Ready.{Ready}
use Rattle.read_passes.proofs.Facts.{Passed, passed_all}
use Rattle.read_passes.proofs.After.{Answered}
use Rattle.read_entities.proofs.Entries.{last_carries}
use Rattle.std.specs.Prelude.{Result, Ok, Err}
use Rattle.columns.specs.declared.Refusal.{Refusal}
use Rattle.columns.specs.Refusal.{refusal_at}
use Rattle.read_passes.specs.declared.Before.{Before as Told}
use Rattle.read_passes.specs.Passes.{BeforeAnswer, before_answer, told as told_of}
use Rattle.read_weights.specs.Checks.{delimited, carried_of, check_of}
use Rattle.read_weights.proofs.Checking.{last_same}

-- ---- the answer of `weighing::check`

-- the model of a file with these counts and delimiters: its entries carry what stands in their records
pub record Modelled (list : ℕ) (f : List ℕ) (c : Counts) (p d : ℕ) : Type 0 where
  pub told : Answered f c p d
  pub listed : list ≤ most_list
  pub passes : last_pass list f c (delimited p d) (all_entries f c) ≡ accepted (map (carried_of f c p d) (all_entries f c))
  pub is : read_model list f ≡ accepted (model_with f c told.whole.global (map (carried_of f c p d) (all_entries f c)))

modelled_of : (list : ℕ) (f : List ℕ) (m : Model) (c : Counts) (p d : ℕ) → read_model list f ≡ accepted m → (h : ReadApart list f m) → h.whole.counts ≡ c → h.whole.global.parameter ≡ p
    → h.whole.global.record_end ≡ d → Modelled list f c p d
modelled_of list f m c p d e h ec ep ed =
    let k : last_pass list f c (delimited p d) (all_entries f c) ≡ accepted h.carried = sym (last_same list f h.whole c p d ec ep ed (passed_all f h.whole h.told).listed) ∙ h.passes in
    let q : h.carried ≡ map (carried_of f c p d) (all_entries f c) = last_carries list f c (delimited p d) (all_entries f c) h.carried k in
    record {
      told = record { whole = h.whole; is = h.told; counts = ec; parameter = ep; closing = ed };
      listed = h.listed;
      passes = k ∙ ap (λ (es : List Carried). accepted es) q;
      is = e ∙ ap (λ (x : Model). accepted x) h.is ∙ ap₂ (λ (n : Counts) (es : List Carried). accepted (model_with f n h.whole.global es)) ec q;
    }

module _ (list : ℕ) (f : List ℕ) (r : BeforeAnswer) (er : r ≡ check_of list f) where
  answer : before_answer (read_model list f then λ _. before f) ≡ r
  unfolding check_of
  answer = sym er

  module _ (w : Told) (e : r ≡ Ok w) where
    pub checked-model : Modelled list f w.counts w.parameter w.closing
    checked-model = by (read_model list f) refl (answer ∙ e)
      where
        given : (m : Model) → read_model list f ≡ accepted m → (h : ReadApart list f m) → before_answer (before f) ≡ Ok w → Modelled list f w.counts w.parameter w.closing
        given m eo h g =
            let k : before_answer (accepted h.whole) ≡ Ok w = sym (ap before_answer h.told) ∙ g in
            let s : told_of h.whole.counts h.whole.global.parameter h.whole.global.record_end ≡ w = cc in
            modelled_of list f m w.counts w.parameter w.closing eo h (ap (λ (t : Told). t.counts) s) (ap (λ (t : Told). t.parameter) s) (ap (λ (t : Told). t.closing) s)

        by : (o : Outcome Model) → read_model list f ≡ o → before_answer (o then λ _. before f) ≡ Ok w → Modelled list f w.counts w.parameter w.closing
        by (accepted m) eo g = given m eo (read_apart list f m eo) g
        by (refused n l) eo g = let z : ◌≡◌ {A = ℕ} 0 1 = cc in absurd (omega arith)

    pub checked-passed : Passed f checked-model.told.whole
    checked-passed = passed_all f checked-model.told.whole checked-model.told.is

    pub checked-ready : Ready f w.counts
    checked-ready =
        let h = checked-passed in
        rw (← checked-model.told.counts) (record { holds = h.holds; spelt = h.spelt; owned = h.owned })

    pub checked_parameter : 0 < w.parameter
    checked_parameter = omega (arith, checked-model.told.parameter, checked-passed.delimiters.parameter)

    pub checked_closing : 0 < w.closing
    checked_closing = omega (arith, checked-model.told.closing, checked-passed.delimiters.closing)

    -- the sheet is the model's
    pub checked-sheet : reads list f ≡ accepted (sheet_text (sheet_of list (model_with f w.counts checked-model.told.whole.global (map (carried_of f w.counts w.parameter w.closing) (all_entries f w.counts)))))
    unfolding reads
    checked-sheet = ap (λ (o : Outcome Model). o then λ m. accepted (sheet_text (sheet_of list m))) checked-model.is

  -- a refusal is that of reading
  pub checked_refused : (n : Refusal FileLine) → r ≡ Err n → read_model list f ≡ refused n.fault n.line.0
  checked_refused n e = by (read_model list f) refl (answer ∙ e)
    where
      given : (m : Model) → (h : ReadApart list f m) → before_answer (before f) ≡ Err n → read_model list f ≡ refused n.fault n.line.0
      given m h g =
          let k : before_answer (accepted h.whole) ≡ Err n = sym (ap before_answer h.told) ∙ g in
          let z : ◌≡◌ {A = ℕ} 0 1 = cc in
          absurd (omega arith)

      by : (o : Outcome Model) → read_model list f ≡ o → before_answer (o then λ _. before f) ≡ Err n → read_model list f ≡ refused n.fault n.line.0
      by (accepted m) eo g = given m (read_apart list f m eo) g
      by (refused m q) eo g =
          let en : refusal_at m (file_line q) ≡ n = cc in
          rw (← en) eo

  pub checked_no_sheet : (n : Refusal FileLine) → r ≡ Err n → reads list f ≡ refused n.fault n.line.0
  unfolding reads
  checked_no_sheet n e = ap (λ (o : Outcome Model). o then λ m. accepted (sheet_text (sheet_of list m))) (checked_refused n e)
