-- Value lines in order are passed over: they are asked nothing and head no entry; each steps the state, and goes on in its record. Assumes nothing.
use Rattle.std.proofs.Common.{◌≡◌, ℕ, ◌+◌, Bool, List, ◌∷◌, sym, refl, ap, ◌∙◌, Ok}
use Rattle.columns.specs.Laid.{laid}
use Rattle.values.specs.declared.Value.{Value}
use Rattle.values.specs.Value.{item_of, is_missing}
use Rattle.sheets.specs.declared.Said.TheVariants.{Value as Given}
use Rattle.sheets.specs.declared.SheetState.{SheetState}
use Rattle.sheets.specs.Sheet.{Line, value}
use Rattle.sheets.specs.Order.{value_step, step_line, go_lines, SheetStep, SheetVerdict}
use Rattle.sheets.proofs.Walk.{step-said}
use Rattle.sheets_rows.specs.Rows.{types_in}
use Rattle.file_canonical.specs.declared.Tally.{Tally}
use Rattle.file_canonical.specs.Counting.{with_value, tallied, within, behind_value, capped, Lines}
use Rattle.file_canonical.proofs.Counted.{capped_same, value_same}
use Rattle.write_lines.specs.Lines.{OfGlobal, OfRow, or_else, lines_pass, SheetPass}
use Rattle.write_lines.specs.Classes.{classes_in}
use Rattle.write_check.specs.Ahead.{Ahead}
use Rattle.write_check.proofs.Walking.{next_place}

pub ahead_none : (st : SheetState) (p : ℕ) (ls : List Line) → Ahead st p ls st p ls
ahead_none st p ls = record { verdict = refl; asked = λ g f. refl; classes = refl; counted = λ x. refl }

-- one value line more
module _ (ls rest : List Line) (r : Bool) (s : List ℕ) (v : Value) (line : ls ≡ value r (item_of s v) ∷ rest) (st y : SheetState) (x : SheetStep) (p : x ≡ value_step st (is_missing v)) (q : x ≡ Ok y) where
  go_value : go_lines y rest ≡ go_lines st ls
  unfolding go_lines
  go_value =
      let h : step_line st (value r (item_of s v)) ≡ Ok y = sym (step-said st (Given r v) (0 ∷ 0 ∷ s)) ∙ sym p ∙ q in
      let w : go_lines st (value r (item_of s v) ∷ rest) ≡ go_lines y rest = rw (go_lines, h) in
      sym (ap (go_lines st) line ∙ w)

  pass-value : (g : OfGlobal) (f : OfRow) → lines_pass g f (y.line + 1) rest ≡ lines_pass g f (st.line + 1) ls
  unfolding lines_pass
  pass-value g f = ap (λ (k : ℕ). lines_pass g f (k + 1) rest) (next_place st y (Given r v) x p q) ∙ sym (ap (lines_pass g f (st.line + 1)) line)

  class_value : classes_in rest ≡ classes_in ls
  unfolding classes_in types_in
  class_value = sym (ap classes_in line)

  count-value : (at end : ℕ) → end ≡ behind_value at (item_of s v) → (k : Tally) → within (tallied (with_value k end) rest) ≡ within (tallied (with_value k at) ls)
  count-value at end e k =
      ap (λ (i : ℕ). within (tallied (with_value k i) rest)) e ∙ value_same k at r (item_of s v) rest ∙ sym (ap (λ (u : List Line). within (tallied (with_value k at) u)) line)

  pub ahead-on : (st₀ : SheetState) (p₀ : ℕ) (ls₀ : List Line) (at end : ℕ) → end ≡ behind_value at (item_of s v) → Ahead st₀ p₀ ls₀ st at ls → Ahead st₀ p₀ ls₀ y end rest
  ahead-on st₀ p₀ ls₀ at end e a = record {
    verdict = go_value ∙ a.verdict;
    asked = λ g f. pass-value g f ∙ a.asked g f;
    classes = class_value ∙ a.classes;
    counted = λ k. count-value at end e k ∙ a.counted k;
  }

-- what held before them holds behind them
module _ (st st' : SheetState) (at end : ℕ) (ls rest : List Line) (a : Ahead st at ls st' end rest) where
  pub ahead_go : (f : SheetVerdict) → go_lines st ls ≡ f → go_lines st' rest ≡ f
  ahead_go f h = a.verdict ∙ h

  pub ahead-asked : (g : OfGlobal) (f : OfRow) (p r : SheetPass) → or_else p (lines_pass g f (st.line + 1) ls) ≡ r → or_else p (lines_pass g f (st'.line + 1) rest) ≡ r
  ahead-asked g f p r h = ap (or_else p) (a.asked g f) ∙ h

  pub ahead-laid : (o c : List ℕ) (k : ℕ) → laid o k (classes_in ls) ≡ c → laid o k (classes_in rest) ≡ c
  ahead-laid o c k h = ap (laid o k) a.classes ∙ h

-- so many lines as were counted before them are counted behind them
pub ahead-counted : (st st' : SheetState) (x : Tally) (end : ℕ) (ls rest : List Line) → Ahead st x.at ls st' end rest → (y : Tally) → y ≡ capped (with_value x end) → (f : Lines)
    → within (tallied x ls) ≡ f → within (tallied y rest) ≡ f
ahead-counted st st' x end ls rest a y e f h = ap (λ (z : Tally). within (tallied z rest)) e ∙ capped_same (with_value x end) rest ∙ a.counted x ∙ h
