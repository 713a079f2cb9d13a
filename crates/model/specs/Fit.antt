-- What every model meets that is read of a file or told by a sheet under a list: both can spell it, and it keeps the rules. No order of
-- checks is in it.
use Rattle.std.specs.Prelude.{◌≡◌, true, List, ℕ, suc, ◌*◌, ◌≤◌, ◌<◌, length}
use Rattle.columns.specs.Format.{most_list, most_integer}
use Rattle.values.specs.Value.{Item, seen}
use Rattle.records.specs.Record.{trimmed}
use Rattle.records.specs.Global.{global_fits}
use Rattle.directory.specs.Fields.{entry_of}
use Rattle.directory.specs.Rules.{ranges_ok, references, all_fit}
use Rattle.layouts.specs.Known.{known}
use Rattle.layouts.specs.Fits.{Keeps}
use Rattle.sheets.specs.Line.{is_label}
use Rattle.sheets.specs.Sheet.{is_start}
use Rattle.sheets.specs.Order.{no_field}
use Rattle.sheets.specs.WellFormed.{Rising, Each, Numbered, Held, Filled}
use Rattle.model.specs.Model.{Carried, Model, type_of, types_of, entity_of}

-- a start text
abbrev pub Start : List ℕ → Type 0
Start t = is_start t ≡ true

-- a Global field of its kind, in its range
abbrev pub InKind : ℕ × Item → Type 0
InKind g = global_fits g.0 (seen g.1) ≡ true

-- an entry among entries of these types
pub record EntryFits (list : ℕ) (types : List ℕ) (e : Carried) : Type 0 where
  -- its numbers and its label can be spelt, its numbers are in their ranges, and it is no MACRO
  pub numbers : Numbered e.fields
  pub ranges : ranges_ok e.fields ≡ true
  pub no_macro : type_of e.fields ≡ 306 → ⊥
  pub label : is_label e.label ≡ true
  -- its references name entries of the types that they must name
  pub references_fit : all_fit types (references (entry_of e.fields)) ≡ true
  -- its values can be spelt, the last of them is given, and a known entity keeps to its layout
  pub values : Each Held e.values
  pub last_is_given : trimmed e.values ≡ e.values
  pub layout : known list (type_of e.fields) e.fields.form.size ≡ true → Keeps types (entity_of e.fields e.values)

-- a model under a list
pub record Fits (list : ℕ) (m : Model) : Type 0 where
  pub list_ok : list ≤ most_list
  pub some : 0 < length m.starts
  pub starts : Each Start m.starts
  pub rising : Rising no_field m.globals
  pub globals : Each Filled m.globals
  pub in_kind : Each InKind m.globals
  pub entries : Each (EntryFits list (types_of m.entries)) m.entries
  -- the last directory number is within the limit
  pub few : 2 * length m.entries ≤ suc most_integer
