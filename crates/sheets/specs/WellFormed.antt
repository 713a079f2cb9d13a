-- Which sheets have a text: those whose lines are in order and can be spelt.
use Rattle.std.specs.Prelude.{◌≡◌, Bool, true, false, List, [], ◌∷◌, ℕ, suc, ◌*◌, ◌≤◌, ◌<◌, length}
use Rattle.columns.specs.declared.Signed.{Signed}
use Rattle.columns.specs.Format.{most_integer}
use Rattle.values.specs.Value.{Item, is_default, Fine, Printed}
use Rattle.records.specs.Global.{first_field, last_field}
use Rattle.directory.specs.declared.Fields.{Fields}
use Rattle.directory.specs.Fields.{in_order}
use Rattle.sheets.specs.Line.{is_label}
use Rattle.sheets.specs.Sheet.{is_start, Row, Sheet}
use Rattle.sheets.specs.Order.{no_field}

-- ---- their order

-- whether values end with a default; b if there are none
unfoldable pub ends_default : Bool → List (Bool × Item) → Bool
ends_default b [] = b
ends_default b (v ∷ vs) = ends_default (is_default v.1) vs

-- G numbers rise from n on
pub data Rising : ℕ → List (ℕ × Item) → Type 0 where
  no_more : {n : ℕ} → Rising n []
  higher : {n m : ℕ} {v : Item} {gs : List (ℕ × Item)} → n < m → Rising m gs → Rising n ((m, v) ∷ gs)

-- no entry's values end with a default
pub data Closed : List Row → Type 0 where
  no_rows : Closed []
  a-row : {r : Row} {rs : List Row} → ends_default false r.values ≡ false → Closed rs → Closed (r ∷ rs)

-- at least one S line
pub record Ordered (s : Sheet) : Type 0 where
  pub some : 0 < length s.starts
  pub rising : Rising no_field s.globals
  pub closed : Closed s.rows

-- ---- their spelling

-- of each
pub data Each {A : Type 0} (P : A → Type 0) : List A → Type 0 where
  none : Each P []
  one : {x : A} {xs : List A} → P x → Each P xs → Each P (x ∷ xs)

-- within the limit, and no minus nought
pub record Proper (x : Signed) : Type 0 where
  pub small : x.size ≤ most_integer
  pub minus : x.neg ≡ true → x.size ≡ 0 → ⊥

-- the numbers of an entry; its status has eight digits and no sign
pub record Numbered (x : Fields) : Type 0 where
  pub proper : Each Proper (in_order x)
  pub digits : x.status.size < 100000000
  pub unsigned : x.status.neg ≡ false

-- a value that a line can hold
pub record Held (v : Item) : Type 0 where
  pub fine : Fine v
  pub printed : Printed v

-- a Global field from 3 to 24 that isn't default
pub record Filled (g : ℕ × Item) : Type 0 where
  pub low : first_field ≤ g.0
  pub high : g.0 ≤ last_field
  pub given : is_default g.1 ≡ false
  pub held : Held g.1

pub record RowSpelt (r : Row) : Type 0 where
  pub numbers : Numbered r.fields
  pub label : is_label r.label ≡ true
  pub values : Each (λ (v : Bool × Item). Held v.1) r.values

-- the last directory number is within the limit too
pub record Spelt (s : Sheet) : Type 0 where
  pub starts : Each (λ (t : List ℕ). is_start t ≡ true) s.starts
  pub globals : Each Filled s.globals
  pub rows : Each RowSpelt s.rows
  pub few : 2 * length s.rows ≤ suc most_integer

-- a sheet that has a text
pub record WellFormed (s : Sheet) : Type 0 where
  pub ordered : Ordered s
  pub spelt : Spelt s
