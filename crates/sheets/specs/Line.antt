-- An entry line: its spelling, and what is read of a line.
use Rattle.std.specs.Prelude.{Bool, true, false, cond, ◌&&◌, Option, Some, None, List, [], ◌∷◌, ◌++◌, ℕ, zero, suc}
use Rattle.std.specs.Prelude.{◌+◌, ◌-◌, length}
use Rattle.std.specs.Prelude.{get_or, take}
use Rattle.std.specs.Prelude.{drop, ltb, eqb}
use Rattle.columns.specs.declared.Signed.{Signed}
use Rattle.columns.specs.Columns.{printable}
use Rattle.columns.specs.Decimal.{signed_dec, zero_filled}
use Rattle.columns.specs.Format.{field_columns}
use Rattle.columns.specs.Letters.{tab, letter_e, letter_u}
use Rattle.directory.specs.declared.Fields.{Fields}
use Rattle.directory.specs.Fields.{field_count, status_at, in_order, fields_of, nought}
use Rattle.sheets.specs.declared.EntryLine.{EntryLine}
use Rattle.sheets.specs.Plain.{sized, is_signed, signed_number, is_status, status_number}

-- how many bytes come before the first c
unfoldable pub run : ℕ → List ℕ → ℕ
run c [] = 0
run c (b ∷ bs) = elim (eqb b c) [ true ↦ 0 | false ↦ suc (run c bs) ]

-- a label is eight bytes from 32 to 126
unfoldable pub is_label : List ℕ → Bool
is_label t = eqb (length t) field_columns && printable t

-- the numbers of an entry line: the directory number, and the entry's
abbrev pub number_count : ℕ
number_count = suc field_count

-- how many numbers follow the status
abbrev pub behind_status : ℕ
behind_status = field_count - 1 - status_at

-- a number of an entry line that so many others follow: the status has eight digits, the others are plain
unfoldable pub is_entry_number : ℕ → List ℕ → Bool
is_entry_number left t = cond (eqb left behind_status) (is_status t) (is_signed t)

unfoldable pub entry_number : ℕ → List ℕ → Signed
entry_number left t = cond (eqb left behind_status) (status_number t) (signed_number t)

-- a line that says this
abbrev pub entry_got : Bool → Signed → Fields → Option EntryLine
entry_got known n x = Some (record { known = known; number = n; fields = x })

abbrev pub entry_from : Bool → List Signed → Option EntryLine
entry_from known ns = entry_got known (get_or ns 0 nought) (fields_of (drop 1 ns))

-- so many numbers, a tab behind each, then the label; ns are the numbers read already
unfoldable pub numbers_of : Bool → ℕ → List Signed → List ℕ → Option EntryLine
numbers_of known zero ns t = elim (is_label t) [ true ↦ entry_from known ns | false ↦ None ]
numbers_of known (suc left) ns t = elim (ltb (run tab t) (length t) && is_entry_number left (take (run tab t) t)) [
  | true ↦ numbers_of known left (ns ++ (entry_number left (take (run tab t) t) ∷ [])) (drop (suc (run tab t)) t)
  | false ↦ None
]

-- what is read of an entry line: E or U, a tab, the numbers and the label
unfoldable pub entry_of : List ℕ → Option EntryLine
entry_of l = cond (eqb (get_or l 1 0) tab)
    (cond (eqb (get_or l 0 0) letter_e) (numbers_of true number_count [] (drop 2 l))
    (cond (eqb (get_or l 0 0) letter_u) (numbers_of false number_count [] (drop 2 l)) None))
    None

-- a line ends with its label
unfoldable pub label_of : List ℕ → List ℕ
label_of l = drop (length l - field_columns) l

-- ---- spelling

-- status 8 digits, other numbers in plain decimal
unfoldable pub spell : ℕ → Signed → List ℕ
spell left x = cond (eqb left behind_status) (zero_filled field_columns x.size) (signed_dec x)

-- as many numbers as are left, a tab behind each
unfoldable pub spells : ℕ → List Signed → List ℕ
spells zero ns = []
spells (suc left) [] = []
spells (suc left) (x ∷ xs) = spell left x ++ (tab ∷ spells left xs)

-- `E` (known) or `U` (not), directory number, the entry's numbers, label
unfoldable pub entry_line : Bool → ℕ → Fields → List ℕ → List ℕ
entry_line known n x label = cond known letter_e letter_u ∷ (tab ∷ (spells number_count (sized false n ∷ in_order x) ++ label))
