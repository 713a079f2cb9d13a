-- The code's form: the bytes of a whole sheet as the code goes about them: the S lines, the G lines, the entries, the Z line.
use Rattle.std.specs.Prelude.{Bool, cond, List, [], ◌∷◌, ◌++◌, map, ℕ, ◌+◌, ◌*◌}
use Rattle.columns.specs.Columns.{text_of}
use Rattle.columns.specs.First.{up_from}
use Rattle.columns.specs.Format.{line_bytes, text_columns}
use Rattle.columns.specs.Letters.{newline}
use Rattle.records.specs.Record.{values_at}
use Rattle.records.specs.Global.{first_field}
use Rattle.sheets.specs.Sheet.{last, line_of}
use Rattle.model.specs.Model.{Carried}
use Rattle.model.specs.Read.{start_text, given}
use Rattle.print.specs.Bytes.{start_bytes, global_bytes, values_in, entity_bytes}
use Rattle.print.specs.Rows.{rows_bytes}

-- the fields from a position of the G text on; none if the record ended there
unfoldable pub field_bytes : ℕ → ℕ → List ℕ → ℕ → Bool → List ℕ
field_bytes c d t from ended = cond ended [] (global_bytes (given first_field (values_in (values_at text_columns c d t from))))

-- s S lines, g G lines, n entries, their P lines from line parameters on
unfoldable pub whole_bytes : ℕ → List ℕ → ℕ → ℕ → ℕ → ℕ → ℕ → ℕ → ℕ → Bool → List ℕ
whole_bytes list f s g n parameters c d from ended =
    start_bytes (map (start_text f) (up_from 0 s))
    ++ (field_bytes c d (text_of f (line_bytes * s) text_columns g) from ended
    ++ (rows_bytes list f (s + g) n parameters c d 0 n ++ (line_of (last n) ++ (newline ∷ []))))

-- carried entries, the first of them the k-th
unfoldable pub entries_bytes : ℕ → List ℕ → ℕ → List Carried → List ℕ
entries_bytes list types k [] = []
entries_bytes list types k (e ∷ es) =
    entity_bytes list types (2 * k + 1) e.fields e.label e.values ++ entries_bytes list types (k + 1) es
