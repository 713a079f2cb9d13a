-- What rules 9, 13 and 10 ask of an entry, in a file and in a sheet.
use Rattle.std.specs.Prelude.{Bool, true, cond, not, ◌&&◌, ◌||◌, List, [], ◌∷◌, ◌++◌, ℕ, ◌/◌, ◌%◌, length}
use Rattle.std.specs.Prelude.{leb, eqb}
use Rattle.columns.specs.declared.Fault.TheVariants.{Directory, Macro, Reference}
use Rattle.columns.specs.declared.Signed.{Signed}
use Rattle.columns.specs.declared.DirectoryNumber.{DirectoryNumber}
use Rattle.columns.specs.Decimal.{signed_dec}
use Rattle.columns.specs.Refusal.{Outcome, demand, ◌then◌}
use Rattle.columns.specs.Format.{field_columns}
use Rattle.references.specs.References.{any, entry124, entry314, class_at, fits}
use Rattle.directory.specs.declared.Fields.{Fields}
use Rattle.directory.specs.declared.Attribute.{Attribute}
use Rattle.directory.specs.declared.Attribute.TheVariants.{Number as NumberOf, Reference as ReferenceTo}
use Rattle.directory.specs.declared.Entry.{Entry}
use Rattle.directory.specs.Fields.{in_order, entry_of}

-- ---- 9: ranges

-- 0 or more
abbrev pub or_more : Signed → Bool
or_more x = not x.neg

-- 0 or less
abbrev pub or_less : Signed → Bool
or_less x = x.neg || eqb x.size 0

-- up to a number, or negated a reference
abbrev pub up_to : ℕ → Signed → Bool
up_to most x = x.neg || leb x.size most

-- a pair of status digits
abbrev pub pair_ok : ℕ → ℕ → Bool
pair_ok pair most = leb (pair % 100) most

-- four pairs: blank 0..1, subordinate 0..3, use 0..5, hierarchy 0..2
unfoldable pub status_ok : ℕ → Bool
status_ok n = pair_ok (n / 1000000) 1 && (pair_ok (n / 10000) 3 && (pair_ok (n / 100) 5 && pair_ok n 2))

-- a value isn't too wide for its field
abbrev pub narrow : List Signed → Bool
narrow [] = true
narrow (x ∷ xs) = leb (length (signed_dec x)) field_columns && narrow xs

-- type, view, matrix, label display, weight, form are 0 or more; so is the subscript
abbrev pub signs_ok : Fields → Bool
signs_ok x =
    or_more x.entity && (or_more x.view && (or_more x.matrix && (or_more x.display && (or_more x.weight && (or_more x.form
    && or_more x.subscript)))))

-- structure 0 or less; font up to 5, level any, colour up to 8
abbrev pub limits_ok : Fields → Bool
limits_ok x = or_less x.structure && (up_to 5 x.font && up_to 8 x.colour)

-- all of them
unfoldable pub ranges_ok : Fields → Bool
ranges_ok x = signs_ok x && (limits_ok x && (status_ok x.status.size && narrow (in_order x)))

-- 9, then 13: type 306
unfoldable pub entry_rules : Fields → ℕ → Outcome (Unit {0})
entry_rules x place = demand (ranges_ok x) Directory place then λ _. demand (not (eqb x.entity.size 306)) Macro place

-- ---- 10: references

-- a directory number and the class of entry that it must name
abbrev pub unless0 : DirectoryNumber → ℕ → List (ℕ × ℕ)
unless0 d want = cond (eqb d.0 0) [] ((d.0, want) ∷ [])

-- a colour, font or level that is a reference
abbrev pub if_reference : Attribute → ℕ → List (ℕ × ℕ)
if_reference (NumberOf n) want = []
if_reference (ReferenceTo d) want = (d.0, want) ∷ []

-- matrix must name type 124, a negative colour type 314
abbrev pub references : Entry → List (ℕ × ℕ)
references e =
    unless0 e.structure any ++ (if_reference e.font any ++ (if_reference e.level any ++ (unless0 e.view any
    ++ (unless0 e.matrix entry124 ++ (unless0 e.display any ++ if_reference e.colour entry314)))))

-- each names what it must name
abbrev pub all_fit : List ℕ → List (ℕ × ℕ) → Bool
all_fit types [] = true
all_fit types (r ∷ rs) = fits r.1 (class_at types r.0) && all_fit types rs

-- each names an entry of the file, of the type that it must name
unfoldable pub reference_rule : List ℕ → Fields → ℕ → Outcome (Unit {0})
reference_rule types x place = demand (all_fit types (references (entry_of x))) Reference place
