-- The impostors of document 01, each told by what it does wrong, and one more, which is right on canonical files only: none keeps demand 2.
-- The length of an answer is no part of a sheet; it is settled over the functions (`Functions.SheetTold`).
use Rattle.std.specs.Prelude.{◌≡◌, List, [], ◌∷◌, ◌++◌, map, ℕ, ◌≤◌, take}
use Rattle.columns.specs.declared.Fault.{Fault}
use Rattle.columns.specs.Refusal.{Outcome, accepted, refused}
use Rattle.columns.specs.Format.{most_lines, most_list}
use Rattle.cards.specs.Cards.{entries}
use Rattle.sheets.specs.Sheet.{Line, last, sheet_text, lines_in}
use Rattle.model.specs.Model.{Carried, Model, fields_in, sheet_of}
use Rattle.model.specs.Canonical.{line_total, canonical}
use Rattle.model.specs.Fit.{Fits}
use Rattle.desk.specs.Words.{Accepts}
use Rattle.desk.specs.Rules.{MeetsRules}
use Rattle.desk.specs.Content.{sheet_by}
use Rattle.demands.specs.Demand.{Way, AcceptsAndReturns, KeepsDemand}

-- ---- refuses everything

abbrev pub Refuses : Outcome (List ℕ) → Type 0
Refuses o = (n : Fault) × ((place : ℕ) × (o ≡ refused n place))

abbrev pub RefusesAll : Way → Type 0
RefusesAll rd = (list : ℕ) (f : List ℕ) → Refuses (rd list f)

-- ---- constant sheet: the same for whatever file it accepts under a list

abbrev pub ConstantSheet : Way → ℕ → List ℕ → Type 0
ConstantSheet rd list s = (f : List ℕ) → Accepts (rd list f) → rd list f ≡ accepted s

-- ---- writes nothing, for some file that it accepts

abbrev pub WritesNothing : Way → Type 0
WritesNothing rd = (list : ℕ) × ((f : List ℕ) × (rd list f ≡ accepted []))

-- ---- reads the first entry and pretends for the rest

-- an entry's label
abbrev pub label_in : Carried → List ℕ
label_in e = e.label

-- two models that differ at most in the values of the entries behind the first
pub record AlikeAtFirst (m m' : Model) : Type 0 where
  pub starts : m.starts ≡ m'.starts
  pub globals : m.globals ≡ m'.globals
  pub first : take 1 m.entries ≡ take 1 m'.entries
  pub fields : map fields_in m.entries ≡ map fields_in m'.entries
  pub labels : map label_in m.entries ≡ map label_in m'.entries
  pub lines : line_total m ≡ line_total m'

-- whatever it pretends, it answers alike where the values behind the first entry alone differ
abbrev pub FirstEntryOnly : Way → ℕ → Type 0
FirstEntryOnly rd list =
    (m m' : Model) → Fits list m → Fits list m' → AlikeAtFirst m m' → rd list (canonical m) ≡ rd list (canonical m')

-- ---- invents the Z count

-- lines of which the last is Z with this count
abbrev pub EndsWith : List Line → ℕ → Type 0
EndsWith ls n = (others : List Line) × (ls ≡ others ++ (last n ∷ []))

-- for some file that meets the rules it is not that of its entries
pub record InventsCount (rd : Way) : Type 0 where
  pub list : ℕ
  pub file : List ℕ
  pub meets : MeetsRules list file
  pub sheet : List ℕ
  pub read : rd list file ≡ accepted sheet
  pub count : ℕ
  pub ends : EndsWith (lines_in sheet) count
  pub other : count ≡ entries meets.counts → ⊥

-- ---- right on canonical files only: for some other file that meets the rules it gives another sheet than that of what the file carries

pub record CanonicalOnly (rd : Way) : Type 0 where
  pub right : (list : ℕ) (m : Model) → Fits list m → line_total m ≤ most_lines
      → rd list (canonical m) ≡ accepted (sheet_text (sheet_of list m))
  pub list : ℕ
  pub file : List ℕ
  pub meets : MeetsRules list file
  pub sheet : List ℕ
  pub read : rd list file ≡ accepted sheet
  pub other : sheet ≡ sheet_by meets → ⊥

-- ---- none keeps demand 2

abbrev pub ShutsOut : (Way → Type 0) → Type 0
ShutsOut Impostor = (rd wr : Way) → KeepsDemand rd wr → Impostor rd → ⊥

pub record NoImpostor : Type 0 where
  pub refuses_everything : ShutsOut RefusesAll
  pub constant_sheet : (list : ℕ) → list ≤ most_list → (s : List ℕ) → ShutsOut (λ (rd : Way). ConstantSheet rd list s)
  pub writes_nothing : ShutsOut WritesNothing
  pub first_for_the_rest : (list : ℕ) → list ≤ most_list → ShutsOut (λ (rd : Way). FirstEntryOnly rd list)
  pub invented_count : ShutsOut InventsCount
  pub canonical_only : ShutsOut CanonicalOnly

-- ---- what the first sentence is worth: a pair that keeps all the others, and is right on canonical files only

pub record RightOnlyThere : Type 1 where
  pub reader : Way
  pub writer : Way
  pub keeps : AcceptsAndReturns reader writer
  pub wrong : CanonicalOnly reader
