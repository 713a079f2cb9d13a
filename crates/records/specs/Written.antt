-- The code's form: text laid into a file: position p of the text whose first line begins at base stands in the file at base + p / w * 81 +
-- p % w. A store past the file's end changes nothing.
use Rattle.std.specs.Prelude.{◌≡◌, List, [], ◌∷◌, ℕ, suc, ◌+◌, ◌*◌, ◌/◌, ◌%◌, ◌^◌, ◌≤◌, length, set}
use Rattle.columns.specs.Format.{line_columns, line_bytes}
use Rattle.values.specs.declared.Value.{Value}
use Rattle.values.specs.declared.Value.TheVariants.{Default, Whole, Real, Text}
use Rattle.values.specs.Writing.{front}
use Rattle.records.specs.Flow.{gap}

-- where position p stands in the file
abbrev pub index_of : ℕ → ℕ → ℕ → ℕ
index_of base w p = base + p / w * line_bytes + p % w

-- the characters bs laid over the file o from position p on
unfoldable pub over : ℕ → ℕ → List ℕ → ℕ → List ℕ → List ℕ
over base w o p [] = o
over base w o p (b ∷ bs) = over base w (set o (index_of base w p) b) (suc p) bs

-- what a function that writes text leaves: bs is laid into o from position p on, and r is the position after it
pub record Put (base w : ℕ) (o : List ℕ) (p : ℕ) (bs : List ℕ) (o' : List ℕ) (r : ℕ) : Type 0 where
  pub bytes : o' ≡ over base w o p bs
  pub next : r ≡ p + length bs

-- the place of a line in a file, and of a value in its text
pub record Room (base w p : ℕ) : Type 0 where
  pub low : base ≤ 2 ^ 40
  pub here : p ≤ 2 ^ 40
  pub wide : 1 ≤ w
  pub narrow : w ≤ line_columns

-- how many characters of a string are copied
abbrev pub copied : Value → ℕ
copied Default = 0
copied (Whole neg size) = 0
copied (Real neg m eneg e double) = 0
copied (Text start count) = count

-- the position behind a value's piece at p, of the value alone
unfoldable pub piece_end : ℕ → ℕ → Value → ℕ
piece_end w p v = p + gap w p (length (front v) + 1) + length (front v) + copied v + 1
