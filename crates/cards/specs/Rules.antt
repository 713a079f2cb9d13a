-- The rules of lines with no order in them: what every line of a file is, given the counts.
use Rattle.std.specs.Prelude.{ℕ, ◌+◌, ◌-◌, ◌*◌, ◌%◌, ◌≤◌, ◌<◌, ◌≡◌}
use Rattle.std.specs.Prelude.{true, cond, List, length, get_or, ltb, Ok, Err}
use Rattle.columns.specs.Columns.{line_at}
use Rattle.columns.specs.Format.{line_bytes, text_columns, most_lines}
use Rattle.columns.specs.Letters.{letter_d, letter_g, letter_p, letter_s, letter_t}
use Rattle.cards.specs.declared.Counts.{Counts}
use Rattle.cards.specs.Cards.{CardsRead, line_ok, seven, total, totals, first_g, first_d, first_p, first_t}

-- counts that a file of this length may have
pub record Holds (f : List ℕ) (c : Counts) : Type 0 where
  pub size : length f ≡ line_bytes * total c
  pub most : total c ≤ most_lines
  pub has_s : 1 ≤ c.s
  pub has_g : 1 ≤ c.g
  pub has_t : c.t ≡ 1
  pub even : c.d % 2 ≡ 0

-- an answer's counts hold
abbrev pub Known : List ℕ → CardsRead → Type 0
Known f (Ok c) = Holds f c
Known f (Err r) = Unit {0}

-- a good line of letter b and sequence number n
pub record LineIs (b n : ℕ) (l : List ℕ) : Type 0 where
  pub ok : line_ok l ≡ true
  pub letter : get_or l text_columns 0 ≡ b
  pub number : seven l (text_columns + 1) n ≡ true

-- the letter of line i, from 0, in a file with these counts: S, G, D, P, T
unfoldable pub letter_at : Counts → ℕ → ℕ
letter_at c i =
    cond (ltb i (first_g c)) letter_s
    (cond (ltb i (first_d c)) letter_g (cond (ltb i (first_p c)) letter_d (cond (ltb i (first_t c)) letter_p letter_t)))

-- its number in its section
unfoldable pub number_at : Counts → ℕ → ℕ
number_at c i = cond (ltb i (first_g c)) (i + 1) (cond (ltb i (first_d c)) (i - first_g c + 1)
    (cond (ltb i (first_p c)) (i - first_d c + 1) (cond (ltb i (first_t c)) (i - first_p c + 1) 1)))

-- a file that meets the rules
pub record Meets (f : List ℕ) (c : Counts) : Type 0 where
  pub holds : Holds f c
  pub line : (i : ℕ) → i < total c → LineIs (letter_at c i) (number_at c i) (line_at f i)
  pub tells : totals c (line_at f (first_t c)) ≡ true
