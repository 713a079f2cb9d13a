-- The name to show, as a part of what was lent: where it stands, and its bytes.
use Rattle.std.specs.Prelude.{◌≡◌, List, ℕ, ◌+◌, length, take, drop}
use Rattle.std.specs.Borrow.{Bor}
use Rattle.columns.specs.Format.{field_columns}
use Rattle.desk.specs.Answers.{Shown, label_from, stand_in, nothing}

-- r is the n bytes of s from at on, where they stand
pub record Part (s : Bor (List ℕ)) (at n : ℕ) (r : Bor (List ℕ)) : Type 0 where
  pub place : r.ref_ptr ≡ (s.ref_ptr.0, at + s.ref_ptr.1)
  pub bytes : r.now ≡ take n (drop at s.now)

-- r is what is shown: eight columns of the file, the whole stand-in, or the empty part at its start
unfoldable pub Shows : Bor (List ℕ) → Bor (List ℕ) → Shown → Bor (List ℕ) → Type 0
Shows file stand (label_from at) r = Part file at field_columns r
Shows file stand stand_in r = Part stand 0 (length stand.now) r
Shows file stand nothing r = Part stand 0 0 r
