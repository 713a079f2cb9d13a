-- Reading a file: its refusals in the paper's order, its model, its sheet.
use Rattle.std.specs.Prelude.{Bool, true, false, cond, not, ◌&&◌, List, [], ◌∷◌, map, ℕ, suc, ◌+◌, ◌*◌}
use Rattle.std.specs.Prelude.{◌/◌, length, get_or}
use Rattle.std.specs.Prelude.{drop, leb, eqb, Option, Some, None}
use Rattle.columns.specs.declared.Fault.TheVariants.{ListOrLength, Spelling, Global, Directory, FirstValue}
use Rattle.columns.specs.Refusal.{Outcome, accepted, refused, demand, each_at, ◌then◌}
use Rattle.columns.specs.First.{first_not, up_from}
use Rattle.columns.specs.Columns.{columns, line_at, text_of}
use Rattle.columns.specs.Trim.{trim_end}
use Rattle.columns.specs.Format.{line_bytes, text_columns, parameter_columns, most_list}
use Rattle.columns.specs.Letters.{space}
use Rattle.values.specs.Value.{Item, default, whole, real, text, seen, is_default}
use Rattle.records.specs.declared.Opening.{Opening}
use Rattle.records.specs.Record.{Values, values, wrong, blanks, values_at, start_at, trimmed}
use Rattle.records.specs.Global.{opening_of, first_field, global_fits}
use Rattle.cards.specs.declared.Counts.{Counts}
use Rattle.cards.specs.Cards.{cards_of, outcome, first_g, first_d, entries, entry_line, parameter_line}
use Rattle.directory.specs.declared.Fields.{Fields}
use Rattle.directory.specs.declared.Spelt.{Spelt}
use Rattle.directory.specs.Lines.{entry_at, label_at}
use Rattle.directory.specs.Rules.{entry_rules, reference_rule}
use Rattle.owners.specs.InFile.{owners_in, outcome as ownership_outcome}
use Rattle.layouts.specs.Entities.{entity_check}
use Rattle.sheets.specs.Sheet.{sheet_text}
use Rattle.model.specs.Model.{Carried, Model, type_of, entity_of, sheet_of}

-- ---- S: text of columns 1-72 without trailing blanks

-- a blank
abbrev pub is_blank : ℕ → Bool
is_blank b = eqb b space

-- of line k
abbrev pub start_text : List ℕ → ℕ → List ℕ
start_text f k = trim_end is_blank (columns (line_at f k) 0 text_columns)

-- of all S lines
unfoldable pub starts_in : List ℕ → Counts → List (List ℕ)
starts_in f c = map (start_text f) (up_from 0 c.s)

-- ---- G: 6 and 7 in text order, then 8

-- columns 1-72 of G lines joined
abbrev pub global_text : List ℕ → Counts → List ℕ
global_text f c = text_of f (line_bytes * first_g c) text_columns c.g

-- the file line, from 1, of a position of this text
abbrev pub global_line : Counts → ℕ → ℕ
global_line c p = first_g c + p / text_columns + 1

-- the line where the value starts, or the last G line if the text ends early
abbrev pub spelling_line : Counts → List ℕ → ℕ → ℕ → ℕ
spelling_line c t start at = cond (eqb at (length t)) (first_d c) (global_line c start)

-- later columns are blank: else the first line with stray text after the record
unfoldable pub no_stray : Counts → List ℕ → ℕ → Outcome (Unit {0})
no_stray c t end = let q = end + blanks (drop end t) in demand (eqb q (length t)) Spelling (global_line c q)

-- field by field in text order
abbrev pub field_fits : List Item → ℕ → Bool
field_fits vs k = global_fits (first_field + k) (seen (get_or vs k default))

-- the fields that aren't default, numbered from n on
unfoldable pub given : ℕ → List Item → List (ℕ × Item)
given n [] = []
given n (v ∷ vs) = cond (is_default v) (given (suc n) vs) ((n, v) ∷ given (suc n) vs)

-- what G says: the two delimiters and the fields
pub record GlobalRead : Type 0 where
  pub parameter : ℕ
  pub record_end : ℕ
  pub fields : List (ℕ × Item)

-- the delimiters and the fields
abbrev pub global_read : ℕ → ℕ → List (ℕ × Item) → GlobalRead
global_read p d gs = record { parameter = p; record_end = d; fields = gs }

-- 6 or 7; stray text; 8; the fields
abbrev pub by_values : Counts → List ℕ → ℕ → ℕ → ℕ → Values → Outcome GlobalRead
by_values c t p d from (wrong n start at) = refused n (spelling_line c t start at)
by_values c t p d from (values vs end) =
    let k = first_not (field_fits vs) 0 (length vs) in
    no_stray c t end
    then λ _. demand (eqb k (length vs)) Global (global_line c (start_at text_columns p d t from k))
    then λ _. accepted (global_read p d (given first_field vs))

-- a wrong opening has the first G line; an opening that ends the record leaves no fields
abbrev pub by_opening : Counts → List ℕ → Option Opening → Outcome GlobalRead
by_opening c t None = refused Spelling (first_g c + 1)
by_opening c t (Some o) =
    elim o.last [
      | true ↦ no_stray c t o.next then λ _. accepted (global_read o.parameter o.closing [])
      | false ↦ by_values c t o.parameter o.closing o.next (values_at text_columns o.parameter o.closing t o.next)
    ]

-- what G says, or its first refusal
unfoldable pub global_in : List ℕ → Counts → Outcome GlobalRead
global_in f c = by_opening c (global_text f c) (opening_of (global_text f c))

-- ---- D: each entry 9, 13; all 10. The place of an entry is its first D line

-- an entry as its D lines tell it
pub record Listed : Type 0 where
  pub fields : Fields
  pub label : List ℕ
  pub pointer : ℕ
  pub lines : ℕ

-- 9 for a field that is misspelt, then 9 and 13
abbrev pub by_entry : List ℕ → ℕ → Option Spelt → Outcome Listed
by_entry label place None = refused Directory place
by_entry label place (Some e) =
    entry_rules e.fields place
    then λ _. accepted (record { fields = e.fields; label = label; pointer = e.pointer.0; lines = e.lines })

-- the entry whose first D line has this place
unfoldable pub entry_in : List ℕ → ℕ → ℕ → Outcome Listed
entry_in f place k = by_entry (label_at f k) place (entry_at f k)

-- two D lines an entry
abbrev pub two : {A : Type 0} → A → ℕ
two x = 2

-- the place of the first entry
abbrev pub first_entry : Counts → ℕ
first_entry c = first_d c + 1

-- each entry 9, 13
unfoldable pub entries_in : List ℕ → Counts → Outcome (List Listed)
entries_in f c = each_at two (entry_in f) (first_entry c) (map (entry_line c) (up_from 0 (entries c)))

-- the type of an entry
abbrev pub listed_type : Listed → ℕ
listed_type e = type_of e.fields

-- 10 of one entry
abbrev pub references_of : List ℕ → ℕ → Listed → Outcome (Unit {0})
references_of types place e = reference_rule types e.fields place

-- all 10
unfoldable pub references_in : Counts → List Listed → Outcome (List (Unit {0}))
references_in c es = each_at two (references_of (map listed_type es)) (first_entry c) es

-- ---- the last pass: each entry in turn 6 and 7 in text order, 12, 14, 15

-- columns 1-64 of an entity's P lines joined
abbrev pub parameters_of : List ℕ → Counts → Listed → List ℕ
parameters_of f c e = text_of f (line_bytes * parameter_line c e.pointer) parameter_columns e.lines

-- the integer type
abbrev pub is_type : ℕ → Item → Bool
is_type typ default = false
is_type typ (whole neg n) = not neg && eqb n typ
is_type typ (real neg m eneg x double) = false
is_type typ (text bs) = false

-- what an entry carries
abbrev pub carried : Listed → List Item → Carried
carried e vs = record { fields = e.fields; label = e.label; values = vs }

-- its first value is the type; of the others trailing defaults are dropped
abbrev pub by_parameters : ℕ → List ℕ → ℕ → Listed → Values → Outcome Carried
by_parameters list types place e (wrong n start at) = refused n place
by_parameters list types place e (values vs end) =
    let rest = trimmed (drop 1 vs) in
    demand (is_type (type_of e.fields) (get_or vs 0 default)) FirstValue place
    then λ _. entity_check list types (entity_of e.fields rest) place
    then λ _. accepted (carried e rest)

-- one entity of the last pass
unfoldable pub entity_in : ℕ → List ℕ → Counts → GlobalRead → List ℕ → ℕ → Listed → Outcome Carried
entity_in list f c g types place e =
    by_parameters list types place e (values_at parameter_columns g.parameter g.record_end (parameters_of f c e) 0)

-- each entry in turn
unfoldable pub last_pass : ℕ → List ℕ → Counts → GlobalRead → List Listed → Outcome (List Carried)
last_pass list f c g es = each_at two (entity_in list f c g (map listed_type es)) (first_entry c) es

-- ---- the file: 1; each line 2, 3, 4; 5; G 6 and 7, then 8; each entry 9, 13; all 10; 11; the last pass

-- the model of a file
abbrev pub model_with : List ℕ → Counts → GlobalRead → List Carried → Model
model_with f c g es = record { starts = starts_in f c; globals = g.fields; entries = es }

-- all that is asked before the last pass, where the list has no say
pub record Before : Type 0 where
  pub counts : Counts
  pub global : GlobalRead
  pub listed : List Listed

-- 1 (the length) to 5, 6 to 8 of G, 9, 13, 10, 11
unfoldable pub before : List ℕ → Outcome Before
before f =
    outcome (cards_of f)
    then λ c. global_in f c
    then λ g. entries_in f c
    then λ es. references_in c es
    then λ _. ownership_outcome c (owners_in f c)
    then λ _. accepted (record { counts = c; global = g; listed = es })

-- the model of a file, or its first refusal
unfoldable pub read_model : ℕ → List ℕ → Outcome Model
read_model list f =
    demand (leb list most_list) ListOrLength 0
    then λ _. before f
    then λ b. last_pass list f b.counts b.global b.listed
    then λ es. accepted (model_with f b.counts b.global es)

-- the sheet of a file, or its first refusal
unfoldable pub reads : ℕ → List ℕ → Outcome (List ℕ)
reads list f = read_model list f then λ m. accepted (sheet_text (sheet_of list m))
