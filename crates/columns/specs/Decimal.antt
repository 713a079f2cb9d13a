-- A number in plain decimal; text to the right of its columns.
use Rattle.std.specs.Prelude.{ℕ, zero, suc, ◌+◌, ◌-◌, ◌/◌, ◌%◌, Bool, true, false, cond, List, [], ◌∷◌, ◌++◌}
use Rattle.std.specs.Prelude.{length, replicate, ltb}
use Rattle.columns.specs.declared.Signed.{Signed}
use Rattle.columns.specs.Letters.{space, minus_sign, digit0}

-- n's digits, the last f of them
unfoldable pub last_digits : ℕ → ℕ → List ℕ
last_digits zero n = []
last_digits (suc f) n = elim (ltb n 10) [ true ↦ (digit0 + n) ∷ [] | false ↦ last_digits f (n / 10) ++ ((digit0 + n % 10) ∷ []) ]

-- n's digits: there are at most n + 1
unfoldable pub dec : ℕ → List ℕ
dec n = last_digits (suc n) n

-- '-' or nothing
abbrev pub minus : Bool → List ℕ
minus neg = cond neg (minus_sign ∷ []) []

-- a number with its sign
unfoldable pub signed_dec : Signed → List ℕ
signed_dec x = minus x.neg ++ dec x.size

-- in width columns, to the right, with b before it
unfoldable pub to_right : ℕ → ℕ → List ℕ → List ℕ
to_right b width t = replicate (width - length t) b ++ t

-- right-justified with blanks; zero-filled
abbrev pub padded : ℕ → List ℕ → List ℕ
padded width t = to_right space width t

-- a number with zeros in front
abbrev pub zero_filled : ℕ → ℕ → List ℕ
zero_filled width n = to_right digit0 width (dec n)

-- to the left of width columns, blanks behind it
unfoldable pub to_left : ℕ → List ℕ → List ℕ
to_left width t = t ++ replicate (width - length t) space
