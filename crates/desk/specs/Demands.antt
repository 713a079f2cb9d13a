-- The three demands as statements over the definitions.
use Rattle.std.specs.Prelude.{◌≡◌, Bool, true, false, List, [], ◌∷◌, map, ◌⊎◌, ℕ, ◌+◌, ◌*◌, ◌≤◌}
use Rattle.std.specs.Prelude.{◌<◌, length, take, drop}
use Rattle.columns.specs.declared.Fault.{Fault}
use Rattle.columns.specs.declared.Fault.TheVariants.{TooLong}
use Rattle.columns.specs.Refusal.{Outcome, accepted, refused, each_at}
use Rattle.columns.specs.Format.{most_lines, most_list}
use Rattle.values.specs.Value.{Item}
use Rattle.cards.specs.Cards.{entries}
use Rattle.directory.specs.declared.Fields.{Fields}
use Rattle.layouts.specs.Known.{known, Inside}
use Rattle.layouts.specs.Larger.{Late}
use Rattle.sheets.specs.Sheet.{Row, Sheet, row, sheet_text, lines_in, sheet_of as sheet_of_lines}
use Rattle.desk.specs.declared.Record.{Record}
use Rattle.model.specs.Model.{Carried, Model, type_of, value_in, sheet_of, model_of}
use Rattle.model.specs.Canonical.{line_total, canonical}
use Rattle.model.specs.Read.{Listed, Before, two, listed_type, entity_in, first_entry, before, read_model, reads}
use Rattle.model.specs.Write.{writes}
use Rattle.desk.specs.Words.{Accepts, Iff}
use Rattle.desk.specs.Rules.{MeetsRules, InRange}
use Rattle.desk.specs.Answers.{answer_of, left_in, slots_left}

-- ---- demand 1: every input has an answer (the definitions are functions), and a refusal changes nothing that was lent

-- of an output buffer
abbrev pub RefusalKeepsBuffer : Type 0
RefusalKeepsBuffer =
    (o : Outcome (List ℕ)) (out : List ℕ) → ((answer_of (length out) o).number ≡ 0 → ⊥) → left_in out o ≡ out

-- of a lent table
abbrev pub RefusalKeepsTable : Type 0
RefusalKeepsTable = (o : Outcome (List Record)) (table : List Record) → ((answer_of (length table) o).number ≡ 0 → ⊥)
    → slots_left table o ≡ table

-- ---- demand 2

-- "a file is accepted exactly if it meets those rules"
abbrev pub ExactlyTheRules : Type 0
ExactlyTheRules = (list : ℕ) (f : List ℕ) → Iff (Accepts (reads list f)) (MeetsRules list f)

-- "each parameter line then belongs to exactly one entity"
abbrev pub OneOwner : Type 0
OneOwner = (list : ℕ) (f : List ℕ) (r : MeetsRules list f) (k : ℕ) → 1 ≤ k → k ≤ r.counts.p
    → (i : ℕ) × ((i < entries r.counts)
    × (InRange (r.entry i) k × ((j : ℕ) → j < entries r.counts → InRange (r.entry j) k → j ≡ i)))

-- "its sheet, written and read again with the same list, gives that sheet if the written file keeps to 200,000 lines"
abbrev pub ThereAndBack : Type 0
ThereAndBack = (list : ℕ) (f : List ℕ) (m : Model) → read_model list f ≡ accepted m → line_total m ≤ most_lines
    → (writes list (sheet_text (sheet_of list m)) ≡ accepted (canonical m))
    × (reads list (canonical m) ≡ accepted (sheet_text (sheet_of list m)))

-- the model that a text's lines tell, and the canonical file that it describes
abbrev pub described : List ℕ → Model
described s = model_of (sheet_of_lines (lines_in s))

-- "a sheet is accepted exactly if the canonical file it describes keeps to that limit and reads back as that sheet"; that file is what is
-- written
abbrev pub SheetsExactly : Type 0
SheetsExactly = (list : ℕ) (s g : List ℕ)
    → Iff (writes list s ≡ accepted g)
    ((g ≡ canonical (described s)) × ((line_total (described s) ≤ most_lines) × (reads list g ≡ accepted s)))

-- ---- demand 3

-- "of two type lists, one inside the other"
pub record OneInside (small large : ℕ) : Type 0 where
  pub small_list : small ≤ most_list
  pub large_list : large ≤ most_list
  pub inside : Inside small large

-- a value marked V, whatever its mark
abbrev pub unmarked : Bool × Item → Bool × Item
unmarked v = (false, value_in v)

-- two entries of the two sheets: the same line for line; or only the larger list knows the entity: its letter is U for E, and its values
-- are the same, all of them marked V
pub data RowsAlike (small large : ℕ) : Row → Row → Type 0 where
  same : (r : Row) → RowsAlike small large r r
  marks_only : (x : Fields) (label : List ℕ) (vs : List (Bool × Item))
      → known small (type_of x) x.form.size ≡ false → known large (type_of x) x.form.size ≡ true
      → RowsAlike small large (row false x label (map unmarked vs)) (row true x label vs)

-- all entries of the two sheets, in order
pub data AllAlike (small large : ℕ) : List Row → List Row → Type 0 where
  none : AllAlike small large [] []
  more : {r q : Row} {rs qs : List Row} → RowsAlike small large r q → AllAlike small large rs qs
      → AllAlike small large (r ∷ rs) (q ∷ qs)

-- the two sheets
pub record SheetsAlike (small large : ℕ) (s t : Sheet) : Type 0 where
  pub starts : s.starts ≡ t.starts
  pub globals : s.globals ≡ t.globals
  pub rows : AllAlike small large s.rows t.rows

-- a. "if the larger accepts a file so does the smaller"; b. "their sheets differ only in the letters that mark an entity only the larger
-- knows, and its references"; the model is the same
abbrev pub SmallerAccepts : Type 0
SmallerAccepts = (small large : ℕ) → OneInside small large → (f : List ℕ) (m : Model) → read_model large f ≡ accepted m
    → (read_model small f ≡ accepted m) × SheetsAlike small large (sheet_of small m) (sheet_of large m)

-- c. "each written back with its own list gives the same bytes, or each is refused for length"
abbrev pub SameBytes : Type 0
SameBytes = (small large : ℕ) → OneInside small large → (f : List ℕ) (m : Model) → read_model large f ≡ accepted m
    → ((line_total m ≤ most_lines)
    × ((writes small (sheet_text (sheet_of small m)) ≡ accepted (canonical m))
    × (writes large (sheet_text (sheet_of large m)) ≡ accepted (canonical m))))
    ⊎ ((most_lines < line_total m)
    × ((writes small (sheet_text (sheet_of small m)) ≡ refused TooLong 0)
    × (writes large (sheet_text (sheet_of large m)) ≡ refused TooLong 0)))

-- what the last pass says of an entry, whose place is this
abbrev pub entity_under : ℕ → List ℕ → Before → ℕ → Listed → Outcome Carried
entity_under list f b place e = entity_in list f b.counts b.global (map listed_type b.listed) place e

-- a pass over entries, of two lines each from a place on, stops at entry i, counted from 0: the entries before it pass, and it is refused
pub record StopsAt {A B : Type 0} (f : ℕ → A → Outcome B) (place : ℕ) (es : List A) (i : ℕ) (n : Fault) (p : ℕ) : Type 0 where
  pub passed : List B
  pub pass : each_at two f place (take i es) ≡ accepted passed
  pub entry : A
  pub others : List A
  pub stands : drop i es ≡ entry ∷ others
  pub stops : f (place + 2 * i) entry ≡ refused n p

-- the last pass under a list
abbrev pub LastStops : ℕ → List ℕ → Before → ℕ → Fault → ℕ → Type 0
LastStops list f b i n p = StopsAt (entity_under list f b) (first_entry b.counts) b.listed i n p

-- all before the last pass is accepted; there the smaller list stops at entry i, and the larger at entry j before it
pub record EarlierEntry (small large : ℕ) (f : List ℕ) (n : Fault) (p : ℕ) (m : Fault) (q : ℕ) : Type 0 where
  pub reached : Before
  pub before_last : before f ≡ accepted reached
  pub i : ℕ
  pub j : ℕ
  pub earlier : j < i
  pub smaller : LastStops small f reached i n p
  pub larger : LastStops large f reached j m q

-- d. "if the smaller refuses, the larger gives the same refusal, or 14 or 15 at an earlier directory entry, the last pass over entities
-- counting as later than all before it": where the smaller refuses before the last pass the larger refuses alike
abbrev pub LargerRefuses : Type 0
LargerRefuses = (small large : ℕ) → OneInside small large → (f : List ℕ) (n : Fault) (p : ℕ) → reads small f ≡ refused n p
    → (reads large f ≡ refused n p)
    ⊎ ((m : Fault) × (q : ℕ) × (reads large f ≡ refused m q) × Late m × EarlierEntry small large f n p m q)

-- where all before the last pass is accepted, a refusal is that of one entry
abbrev pub RefusedAtEntry : Type 0
RefusedAtEntry = (list : ℕ) (f : List ℕ) (b : Before) → list ≤ most_list → before f ≡ accepted b → (n : Fault) (p : ℕ)
    → (reads list f ≡ refused n p → (i : ℕ) × LastStops list f b i n p)
    × ((i : ℕ) → LastStops list f b i n p → reads list f ≡ refused n p)
