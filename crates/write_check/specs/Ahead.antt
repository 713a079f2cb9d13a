-- The code's form: value lines that are passed over: only the state and where they end in their record is kept.
use Rattle.std.specs.Prelude.{◌≡◌, ℕ, ◌+◌, List}
use Rattle.sheets.specs.declared.SheetState.{SheetState}
use Rattle.sheets.specs.Sheet.{Line}
use Rattle.sheets.specs.Order.{go_lines}
use Rattle.file_canonical.specs.declared.Tally.{Tally}
use Rattle.file_canonical.specs.Counting.{with_value, tallied, within}
use Rattle.write_lines.specs.Lines.{OfGlobal, OfRow, lines_pass}
use Rattle.write_lines.specs.Classes.{classes_in}

-- with another state and position, the lines `rest` have the verdict, the answers, the classes and the count that `ls` have with these
pub record Ahead (st : SheetState) (p : ℕ) (ls : List Line) (st' : SheetState) (p' : ℕ) (rest : List Line) : Type 0 where
  pub verdict : go_lines st' rest ≡ go_lines st ls
  pub asked : (g : OfGlobal) (f : OfRow) → lines_pass g f (st'.line + 1) rest ≡ lines_pass g f (st.line + 1) ls
  pub classes : classes_in rest ≡ classes_in ls
  pub counted : (x : Tally) → within (tallied (with_value x p') rest) ≡ within (tallied (with_value x p) ls)
