-- The code's form: the numbers of a sheet in one pass over their bytes. A number past the largest says that the text spells none; a law in
-- `proofs/Folds` tells so of each form here.
use Rattle.std.specs.Prelude.{true, false, cond, ◌&&◌, List, [], ◌∷◌, ℕ, ◌+◌, ◌-◌, ◌*◌, drop, ltb, leb, eqb}
use Rattle.columns.specs.declared.Signed.{Signed}
use Rattle.columns.specs.Format.{most_integer}
use Rattle.columns.specs.Letters.{digit0}
use Rattle.values.specs.Number.{is_digit}
use Rattle.sheets.specs.Plain.{sized, is_minus}
use Rattle.sheets.specs.Line.{behind_status}

-- past the largest one number says "misspelt" and one "nothing was read yet"
abbrev pub misspelt : ℕ
misspelt = 2147483648

abbrev pub unread : ℕ
unread = 2147483649

-- a digit may come first; after that it may come if there is no 0 in front and the number stays within the limit. What is misspelt stays so
unfoldable pub digit_after : ℕ → ℕ → ℕ
digit_after n b =
    cond (is_digit b) (cond (eqb n unread) (b - digit0)
    (cond (ltb 0 n && leb (n * 10 + (b - digit0)) most_integer) (n * 10 + (b - digit0)) misspelt)) misspelt

unfoldable pub size_from : ℕ → List ℕ → ℕ
size_from n [] = n
size_from n (b ∷ bs) = size_from (digit_after n b) bs

-- a number without a sign
abbrev pub plain_fold : List ℕ → ℕ
plain_fold t = size_from unread t

-- minus nought is misspelt
unfoldable pub minus_of : ℕ → Signed
minus_of n = sized true (cond (eqb n 0) misspelt n)

unfoldable pub signed_fold : List ℕ → Signed
signed_fold t = cond (is_minus t) (minus_of (plain_fold (drop 1 t))) (sized false (plain_fold t))

-- eight digits: with a 1 in front of them they are the number 100,000,000 and the status
unfoldable pub status_from : ℕ → Signed
status_from n = sized false (cond (ltb n 100000000) misspelt (cond (ltb n 200000000) (n - 100000000) misspelt))

unfoldable pub status_fold : List ℕ → Signed
status_fold t = status_from (size_from 1 t)

-- a number of an entry line that so many others follow
unfoldable pub entry_fold : ℕ → List ℕ → Signed
entry_fold left t = cond (eqb left behind_status) (status_fold t) (signed_fold t)
