-- The code's form: the sheet of a file as the code goes about it: its bytes alone.
use Rattle.std.specs.Prelude.{List, [], ℕ}
use Rattle.columns.specs.Refusal.{Outcome, accepted, refused}
use Rattle.model.specs.Read.{reads}

-- what was accepted; a refusal has no bytes
abbrev pub bytes_of : Outcome (List ℕ) → List ℕ
bytes_of (accepted bs) = bs
bytes_of (refused n place) = []

-- the bytes of a file's sheet
unfoldable pub sheet_in : ℕ → List ℕ → List ℕ
sheet_in list f = bytes_of (reads list f)
