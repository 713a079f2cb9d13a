-- The parts of a sheet's lines are the parts of the sheet. Assumes nothing.
use mathlib.Core.Path.{◌≡◌, refl, ap, ◌∙◌}
use mathlib.Core.List.{List, [], ◌∷◌, map}
use Prim.Native.Nat.{ℕ}
use Rattle.values.specs.Value.{Item}
use Rattle.sheets.specs.Sheet.{Row, Sheet, global_lines, row_lines, lines_of}
use Rattle.sheets_rows.proofs.Rows.{starts-laid, globals-laid, first_laid, behind-laid, all_sheet}
use Rattle.model.specs.Model.{carried_of}
use Rattle.file_blocks.specs.Blocks.{global_given, globals_first, behind_globals}
use Rattle.file_canonical.specs.Laying.{start_given, starts_first, behind_starts, entry_given, entries_in, fields_in}
use Rattle.file_canonical.proofs.Turns.{entries-rows}

no_start : (gs : List (ℕ × Item)) (rs : List Row) → starts_first (global_lines gs (row_lines 0 rs)) ≡ []
unfolding starts_first global_lines row_lines
no_start [] [] = refl
no_start [] (r ∷ rs) = refl
no_start (g ∷ gs) rs = refl

no_global : (rs : List Row) → globals_first (row_lines 0 rs) ≡ []
unfolding globals_first row_lines
no_global [] = refl
no_global (r ∷ rs) = refl

module _ (s : Sheet) where
  pub sheet-starts : starts_first (lines_of s) ≡ s.starts
  unfolding lines_of starts_first
  sheet-starts = first_laid starts-laid start_given (λ t. refl) (global_lines s.globals (row_lines 0 s.rows)) (no_start s.globals s.rows) s.starts

  sheet-behind : behind_starts (lines_of s) ≡ global_lines s.globals (row_lines 0 s.rows)
  unfolding lines_of starts_first behind_starts
  sheet-behind = behind-laid starts-laid start_given (λ t. refl) (global_lines s.globals (row_lines 0 s.rows)) (no_start s.globals s.rows) s.starts

  pub sheet_fields : fields_in (lines_of s) ≡ s.globals
  unfolding globals_first
  sheet_fields = ap globals_first sheet-behind ∙ first_laid globals-laid global_given (λ g. refl) (row_lines 0 s.rows) (no_global s.rows) s.globals

  pub sheet-rows : behind_globals (behind_starts (lines_of s)) ≡ row_lines 0 s.rows
  unfolding globals_first behind_globals
  sheet-rows = ap behind_globals sheet-behind ∙ behind-laid globals-laid global_given (λ g. refl) (row_lines 0 s.rows) (no_global s.rows) s.globals

  pub sheet-entries : entries_in (lines_of s) ≡ map carried_of s.rows
  unfolding entries_in
  sheet-entries = all_sheet entry_given (λ t ls. refl) (λ g ls. refl) s ∙ entries-rows 0 s.rows
