-- The rules of document 01 for a file, with no order of checks in them.
use Rattle.std.specs.Prelude.{◌≡◌, true, false, List, [], ◌∷◌, ℕ, ◌+◌, ◌*◌, ◌≤◌, ◌<◌, length, get_or, drop}
use Rattle.std.specs.Prelude.{Some}
use Rattle.columns.specs.Columns.{blank, text_of}
use Rattle.columns.specs.Format.{line_bytes, text_columns, parameter_columns, most_list}
use Rattle.values.specs.declared.Value.{Value}
use Rattle.values.specs.Value.{Item, default, whole, item_of, seen}
use Rattle.records.specs.Record.{found_at, value_at}
use Rattle.records.specs.Global.{opens, opening_of, first_field, global_fits}
use Rattle.cards.specs.declared.Counts.{Counts}
use Rattle.cards.specs.Cards.{entries, entry_line, parameter_line}
use Rattle.cards.specs.Rules.{Meets}
use Rattle.directory.specs.declared.Fields.{Fields}
use Rattle.directory.specs.Fields.{entry_of}
use Rattle.directory.specs.Lines.{entry_at, parameter_line as line_number, spelt_entry}
use Rattle.directory.specs.Rules.{ranges_ok, references, all_fit}
use Rattle.owners.specs.InFile.{owner_in}
use Rattle.layouts.specs.Known.{known}
use Rattle.layouts.specs.Fits.{Keeps}
use Rattle.model.specs.Model.{type_of, entity_of}
use Rattle.model.specs.Read.{global_text}

-- a text in lines of w columns spells these values from position p on, parted by c, and the record that d closes ends at end
pub data Spells (w c d : ℕ) (t : List ℕ) : ℕ → List Item → ℕ → Type 0 where
  closing : {p s end : ℕ} {v : Value} → value_at w c d t p ≡ found_at v s end true → Spells w c d t p (item_of t v ∷ []) end
  parted : {p s next end : ℕ} {v : Value} {vs : List Item} → value_at w c d t p ≡ found_at v s next false
      → Spells w c d t next vs end → Spells w c d t p (item_of t v ∷ vs) end

-- the Global section opens with these delimiters and spells these fields; later columns are blank
pub data GlobalIs (t : List ℕ) (c d : ℕ) : List Item → Type 0 where
  no_fields : {next : ℕ} → opening_of t ≡ opens c d next true → blank (drop next t) ≡ true → GlobalIs t c d []
  fields : {next end : ℕ} {vs : List Item} → opening_of t ≡ opens c d next false → Spells text_columns c d t next vs end
      → blank (drop end t) ≡ true
      → GlobalIs t c d vs

-- what the D lines of entry i say: its numbers, the number of its first parameter line, and how many there are
pub record EntryIs : Type 0 where
  pub fields : Fields
  pub pointer : ℕ
  pub lines : ℕ

-- a parameter line lies in an entry's range
abbrev pub InRange : EntryIs → ℕ → Type 0
InRange e k = (e.pointer ≤ k) × (k < e.pointer + e.lines)

-- an entry of a file that meets the rules: `types` are those of all entries, c and d the delimiters
pub record EntryMeets (list : ℕ) (f : List ℕ) (counts : Counts) (c d : ℕ) (types : List ℕ) (i : ℕ) (e : EntryIs) : Type 0 where
  -- two D lines that spell it, in the ranges of its fields, and no MACRO
  pub spelt : entry_at f (entry_line counts i) ≡ Some (spelt_entry e.fields (line_number e.pointer) e.lines)
  pub ranges : ranges_ok e.fields ≡ true
  pub no_macro : type_of e.fields ≡ 306 → ⊥
  -- its references name entries of the file, of the types that they must name
  pub references_fit : all_fit types (references (entry_of e.fields)) ≡ true
  -- its range stays in P, and every line in it names the entry
  pub inside : e.pointer + e.lines ≤ counts.p + 1
  pub names : (k : ℕ) → InRange e k → owner_in f counts k ≡ 2 * i + 1
  -- its parameter lines spell its type number and its values
  pub values : List Item
  pub end : ℕ
  pub spells : Spells parameter_columns c d (text_of f (line_bytes * parameter_line counts e.pointer) parameter_columns e.lines) 0
      (whole false (type_of e.fields) ∷ values) end
  -- a known entity keeps to its layout
  pub layout : known list (type_of e.fields) e.fields.form.size ≡ true → Keeps types (entity_of e.fields values)

-- an entry's type
abbrev pub entry_type : EntryIs → ℕ
entry_type e = type_of e.fields

-- a file meets the rules under a list
pub record MeetsRules (list : ℕ) (f : List ℕ) : Type 0 where
  pub list_ok : list ≤ most_list
  -- every line is what the counts of lines say
  pub counts : Counts
  pub lines : Meets f counts
  -- the Global section: delimiters, and fields of their kinds in their ranges
  pub parameter : ℕ
  pub closing : ℕ
  pub globals : List Item
  pub global : GlobalIs (global_text f counts) parameter closing globals
  pub global_fits_lem : (k : ℕ) → k < length globals → global_fits (first_field + k) (seen (get_or globals k default)) ≡ true
  -- the entries
  pub entry : ℕ → EntryIs
  pub types : List ℕ
  pub types-length : length types ≡ entries counts
  pub types_are : (i : ℕ) → i < entries counts → get_or types i 0 ≡ entry_type (entry i)
  pub entry_meets : (i : ℕ) → i < entries counts → EntryMeets list f counts parameter closing types i (entry i)
  -- every P line lies in the range of the entry that it names
  pub owned : (k : ℕ) → 1 ≤ k → k ≤ counts.p
      → (i : ℕ) × ((i < entries counts) × ((owner_in f counts k ≡ 2 * i + 1) × InRange (entry i) k))
