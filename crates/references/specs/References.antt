-- References: a directory number names an entry of the file, and what is asked of that entry is told by its class.
use Rattle.std.specs.Prelude.{Bool, cond, ◌&&◌, List, ℕ, ◌/◌, ◌%◌, length, get_or, leb, ltb, eqb}

-- the classes. What names no entry of the file
abbrev pub no_entry : ℕ
no_entry = 0

-- an entry of a type that nobody asks for
abbrev pub other_entry : ℕ
other_entry = 1

-- a matrix
abbrev pub entry124 : ℕ
entry124 = 2

-- a colour definition
abbrev pub entry314 : ℕ
entry314 = 3

-- what 408 names
abbrev pub entry308 : ℕ
entry308 = 4

-- what the last p and q of 144 name
abbrev pub entry142 : ℕ
entry142 = 5

-- the class of an entry of a type
unfoldable pub class_of : ℕ → ℕ
class_of typ =
    cond (eqb typ 124) entry124 (cond (eqb typ 314) entry314 (cond (eqb typ 308) entry308 (cond (eqb typ 142) entry142 other_entry)))

-- "A reference names an odd directory number in the file": types are those of its entries in directory order
unfoldable pub class_at : List ℕ → ℕ → ℕ
class_at types n = cond (eqb (n % 2) 1 && ltb (n / 2) (length types)) (class_of (get_or types (n / 2) 0)) no_entry

-- what a place wants: any entry, or one of a class
abbrev pub any : ℕ
any = 0

-- an entry of this class is what a place wants
abbrev pub fits : ℕ → ℕ → Bool
fits want class = cond (eqb want any) (leb other_entry class) (eqb class want)
