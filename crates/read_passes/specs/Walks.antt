-- The code's form: the passes as the code walks them: the first refusal of a row of checks, and Global's fields by their positions.
use Rattle.std.specs.Prelude.{Bool, List, ℕ, zero, suc, ◌+◌, ◌*◌, eqb, Result, Ok, Err}
use Rattle.columns.specs.declared.Fault.TheVariants.{Global}
use Rattle.columns.specs.declared.FileLine.{FileLine}
use Rattle.columns.specs.declared.Refusal.{Refusal}
use Rattle.columns.specs.First.{first_not}
use Rattle.columns.specs.Refusal.{Outcome, accepted, demand, ◌then◌}
use Rattle.columns.specs.Format.{text_columns}
use Rattle.cards.specs.declared.Counts.{Counts}
use Rattle.cards.specs.Cards.{first_d, entries, entry_line}
use Rattle.directory.specs.Rules.{reference_rule}
use Rattle.directory.specs.Naming.{types_at}
use Rattle.values.specs.declared.Value.{Value}
use Rattle.values.specs.declared.Value.TheVariants.{Default}
use Rattle.values.specs.Value.{seen}
use Rattle.records.specs.Record.{Got, value_at, values_at, position_of, start_at}
use Rattle.records.specs.Items.{got_item}
use Rattle.records.specs.Global.{first_field, global_fits}
use Rattle.owners.specs.InFile.{owners_in, outcome as ownership_outcome}
use Rattle.model.specs.Read.{GlobalRead, Before, entry_in, first_entry, global_line, by_values, global_in, entries_in, references_in}
use Rattle.read_passes.specs.Passes.{FilePass, pass_of}
use Rattle.read_passes.specs.Listed.{entry_of}

-- the first refusal of two checks
abbrev pub or_else : FilePass → FilePass → FilePass
or_else (Ok u) q = q
or_else (Err r) q = Err r

-- the first refusal of the checks from i on, n of them
unfoldable pub first_among : (ℕ → FilePass) → ℕ → ℕ → FilePass
first_among check i zero = Ok tt
first_among check i (suc n) = or_else (check i) (first_among check (i + 1) n)

-- rules 9 and 13 of entry i
unfoldable pub entry_check : List ℕ → Counts → ℕ → FilePass
entry_check f c i = pass_of (entry_in f (first_entry c + 2 * i) (entry_line c i))

-- rule 10 of entry i, by the types that stand on the D lines: they are those of the entries, if all pass
unfoldable pub reference_check : List ℕ → Counts → ℕ → FilePass
reference_check f c i = pass_of (reference_rule (types_at f (first_d c) (entries c)) (entry_of f c i).fields (first_entry c + 2 * i))

-- an entry passes 9 and 13, with what is kept of 10; or it is refused
abbrev pub Turn : Type 0
Turn = Result FilePass (Refusal FileLine)

abbrev pub turn_of : FilePass → FilePass → Turn
turn_of (Ok u) kept = Ok kept
turn_of (Err r) kept = Err r

-- the value that was read; a refused one stands for nothing
abbrev pub got_value : Got → Value
got_value (Ok r) = r.value
got_value (Err r) = Default

-- whether value k of Global's text, read from a position on, may stand in its field
unfoldable pub value_fits : ℕ → ℕ → List ℕ → ℕ → ℕ → Bool
value_fits p d t from k =
    global_fits (first_field + k) (seen (got_item t (value_at text_columns p d t (position_of text_columns p d t from k))))

-- rule 8 of the first n values
unfoldable pub fields_fit : Counts → ℕ → ℕ → List ℕ → ℕ → ℕ → Outcome (Unit {0})
fields_fit c p d t from n =
    let k = first_not (value_fits p d t from) 0 n in demand (eqb k n) Global (global_line c (start_at text_columns p d t from k))

-- the record behind the opening
unfoldable pub values_outcome : Counts → List ℕ → ℕ → ℕ → ℕ → Outcome GlobalRead
values_outcome c t p d from = by_values c t p d from (values_at text_columns p d t from)

-- each entry 9, 13; all 10
unfoldable pub entries_outcome : List ℕ → Counts → Outcome (List (Unit {0}))
entries_outcome f c = entries_in f c then λ es. references_in c es

-- each entry 9, 13; all 10; then 11
unfoldable pub directory_outcome : List ℕ → Counts → Outcome (Unit {0})
directory_outcome f c = entries_outcome f c then λ _. ownership_outcome c (owners_in f c)

-- all that is asked behind the lines, given their counts
unfoldable pub behind_cards : List ℕ → Counts → Outcome Before
behind_cards f c =
    global_in f c
    then λ g. entries_in f c
    then λ es. references_in c es
    then λ _. ownership_outcome c (owners_in f c)
    then λ _. accepted (record { counts = c; global = g; listed = es })
