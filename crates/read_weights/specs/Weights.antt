-- The code's form: the last pass with the bytes that the sheet takes behind its G lines.
use Rattle.std.specs.Prelude.{ℕ, ◌+◌, ◌*◌, ◌≤◌, false, List, [], ◌∷◌, ◌++◌, length, Result, Ok, Err}
use Rattle.columns.specs.declared.FileLine.{FileLine}
use Rattle.columns.specs.declared.Refusal.{Refusal}
use Rattle.columns.specs.Refusal.{refusal_at}
use Rattle.columns.specs.Columns.{text_of}
use Rattle.columns.specs.Format.{line_bytes, parameter_columns}
use Rattle.columns.specs.Letters.{newline}
use Rattle.cards.specs.declared.Counts.{Counts}
use Rattle.cards.specs.Cards.{first_d, first_p, entries, parameter_line}
use Rattle.cards.specs.Shared.{file_line}
use Rattle.values.specs.Value.{Item}
use Rattle.records.specs.Record.{values_at}
use Rattle.directory.specs.declared.Fields.{Fields}
use Rattle.directory.specs.Lines.{label_at}
use Rattle.layouts.specs.Known.{known}
use Rattle.sheets.specs.Plain.{sized}
use Rattle.sheets.specs.Sheet.{entry, last, line_of}
use Rattle.read_passes.specs.declared.Before.{Before as Told}
use Rattle.read_passes.specs.Passes.{FilePass, BeforeAnswer}
use Rattle.read_entities.specs.Answers.{EntityAnswer}
use Rattle.read_entities.specs.Marks.{carried_in}
use Rattle.read_entities.specs.Walking.{carried_length}
use Rattle.print.specs.Rows.{row_bytes, rows_bytes}
use Rattle.read_weights.specs.Checks.{record_answer}
use Rattle.read_weights.specs.declared.Weight.{Weight}

-- entities that pass, and the bytes that they take in the sheet; or the first refusal
abbrev pub Rows : Type 0
Rows = Result ℕ (Refusal FileLine)

-- what a file tells that passes all checks, and the bytes behind its G lines; or the first refusal
abbrev pub Weighing : Type 0
Weighing = Result Weight (Refusal FileLine)

abbrev pub weight : Told → ℕ → Weight
weight b n = record { told = b; rows = n }

-- what the record carries that stands in so many P lines from P line `from` on
unfoldable pub record_carried : List ℕ → Counts → ℕ → ℕ → ℕ → ℕ → List Item
record_carried f c p d from lines =
    carried_in (values_at parameter_columns p d (text_of f (line_bytes * parameter_line c from) parameter_columns lines) 0)

-- the bytes of entry i
unfoldable pub row_length : ℕ → List ℕ → Counts → ℕ → ℕ → ℕ → ℕ
row_length list f c p d i = length (row_bytes list f (first_d c) (entries c) (first_p c) p d i)

-- of so many entries from i on, and of the Z line
unfoldable pub rows_from : ℕ → List ℕ → Counts → ℕ → ℕ → ℕ → ℕ → ℕ
rows_from list f c p d i n =
    length (rows_bytes list f (first_d c) (entries c) (first_p c) p d i n ++ (line_of (last (entries c)) ++ (newline ∷ [])))

-- of all
abbrev pub rows_length : ℕ → List ℕ → Counts → ℕ → ℕ → ℕ
rows_length list f c p d = rows_from list f c p d 0 (entries c)

-- so many bytes, if an entity passes
abbrev pub answer_rows : EntityAnswer → ℕ → FileLine → Rows
answer_rows (Ok u) n line = Ok n
answer_rows (Err fault) n line = Err (refusal_at fault line)

-- entry i, whose first D line is line k, with these fields and its record in so many P lines from P line `from` on
unfoldable pub spelt_rows : ℕ → List ℕ → Counts → ℕ → ℕ → ℕ → ℕ → Fields → ℕ → ℕ → Rows
spelt_rows list f c p d i k x from lines =
    answer_rows (record_answer list f c p d x.entity.size x.form.size from lines)
    (length (line_of (entry (known list x.entity.size x.form.size) (sized false (2 * i + 1)) x (label_at f k)) ++ (newline ∷ [])) +
    carried_length (record_carried f c p d from lines))
    (file_line (k + 1))

-- so many bytes, if nothing is refused
abbrev pub rows_of : ℕ → FilePass → Rows
rows_of n (Ok u) = Ok n
rows_of n (Err r) = Err r

-- the answer of all checks, with those bytes
abbrev pub weight_of : ℕ → List ℕ → BeforeAnswer → Weighing
weight_of list f (Ok b) = Ok (weight b (rows_length list f b.counts b.parameter b.closing))
weight_of list f (Err r) = Err r

-- no more bytes than m
abbrev pub Few : ℕ → Rows → Type 0
Few m (Ok n) = n ≤ m
Few m (Err r) = Unit {0}

abbrev pub Light : ℕ → Weighing → Type 0
Light m (Ok w) = w.rows ≤ m
Light m (Err r) = Unit {0}
