-- A value by itself, the limits that it keeps, and its one spelling.
use Rattle.std.specs.Prelude.{◌≡◌, Bool, true, false, cond, ◌||◌, List, [], ◌∷◌, ◌++◌, ℕ, ◌+◌, ◌-◌, ◌%◌}
use Rattle.std.specs.Prelude.{◌^◌, ◌≤◌, ◌<◌, length}
use Rattle.std.specs.Prelude.{take, drop, ltb}
use Rattle.columns.specs.Columns.{printable}
use Rattle.columns.specs.Decimal.{dec, minus}
use Rattle.columns.specs.Format.{most_integer}
use Rattle.columns.specs.Letters.{point, letter_d, letter_e, letter_h}
use Rattle.values.specs.declared.Value.{Value}
use Rattle.values.specs.declared.Value.TheVariants.{Default, Whole, Real, Text}

-- a value by itself: a string is its characters. A real is m times ten to plus or minus e
pub data Item : Type 0 where
  default : Item
  whole : (neg : Bool) (size : ℕ) → Item
  real : (neg : Bool) (m : ℕ) (eneg : Bool) (e : ℕ) (double : Bool) → Item
  text : List ℕ → Item

-- what a value that was read in the text t is
abbrev pub item_of : List ℕ → Value → Item
item_of t Default = default
item_of t (Whole neg size) = whole neg size
item_of t (Real neg m eneg e double) = real neg m eneg e double
item_of t (Text start count) = text (take count (drop start t))

-- what a layout or a kind sees of it: not where a string stands
abbrev pub seen : Item → Value
seen default = Default
seen (whole neg size) = Whole neg size
seen (real neg m eneg e double) = Real neg m eneg e double
seen (text bs) = Text 0 (length bs)

-- whether nothing stands there
abbrev pub is_default : Item → Bool
is_default default = true
is_default (whole neg size) = false
is_default (real neg m eneg e double) = false
is_default (text bs) = false

-- the same of a value that was read, whatever the text
abbrev pub is_missing : Value → Bool
is_missing v = is_default (item_of [] v)

-- ---- its one spelling

-- D for a double, E for a single
abbrev pub letter : Bool → ℕ
letter double = cond double letter_d letter_e

-- the letter and e
abbrev pub ten_to : Bool → ℕ → Bool → List ℕ
ten_to eneg e double = letter double ∷ (minus eneg ++ dec e)

-- for a single E and e if e isn't 0, for a double always D and e
abbrev pub exponent : Bool → ℕ → Bool → List ℕ
exponent eneg e double = cond (double || ltb 0 e) (ten_to eneg e double) []

-- the count and H
abbrev pub head : ℕ → List ℕ
head count = dec count ++ (letter_h ∷ [])

-- integers and counts in plain decimal; a real is m, point, exponent; a string with its count
unfoldable pub spelled : Item → List ℕ
spelled default = []
spelled (whole neg size) = minus neg ++ dec size
spelled (real neg m eneg e double) = minus neg ++ (dec m ++ (point ∷ exponent eneg e double))
spelled (text bs) = head (length bs) ++ bs

-- ---- its limits

-- m has at most 17 digits and no zero at its end, e lies in -400..400; nought has no sign and e = 0
pub data Normal : Bool → ℕ → Bool → ℕ → Type 0 where
  nought : Normal false 0 false 0
  times : (neg : Bool) (m e : ℕ) → (m % 10 ≡ 0 → ⊥) → m < 10 ^ 17 → e ≤ 400 → Normal neg m false e
  over : (neg : Bool) (m e : ℕ) → (m % 10 ≡ 0 → ⊥) → m < 10 ^ 17 → 0 < e → e ≤ 400 → Normal neg m true e

-- the values that a record can hold
pub data Fine : Item → Type 0 where
  fine_default : Fine default
  fine_whole : (neg : Bool) (size : ℕ) → size ≤ most_integer → (size ≡ 0 → neg ≡ false) → Fine (whole neg size)
  fine_real : {neg : Bool} {m : ℕ} {eneg : Bool} {e : ℕ} → Normal neg m eneg e → (double : Bool) → Fine (real neg m eneg e double)
  fine_text : (bs : List ℕ) → 1 ≤ length bs → length bs ≤ 999 → Fine (text bs)

-- its characters are bytes that a line may hold
abbrev pub Printed : Item → Type 0
Printed default = Unit {0}
Printed (whole neg size) = Unit {0}
Printed (real neg m eneg e double) = Unit {0}
Printed (text bs) = printable bs ≡ true
