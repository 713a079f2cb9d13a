-- The letters that lines and values are made of, by their ASCII codes.
use Rattle.std.specs.Prelude.{ℕ}

-- ---- what parts a text

abbrev pub tab : ℕ
tab = 9

abbrev pub newline : ℕ
newline = 10

abbrev pub space : ℕ
space = 32

abbrev pub comma : ℕ
comma = 44

abbrev pub semicolon : ℕ
semicolon = 59

-- ---- what numbers and strings are spelt with

abbrev pub plus_sign : ℕ
plus_sign = 43

abbrev pub minus_sign : ℕ
minus_sign = 45

abbrev pub point : ℕ
point = 46

abbrev pub digit0 : ℕ
digit0 = 48

abbrev pub digit1 : ℕ
digit1 = 49

abbrev pub digit9 : ℕ
digit9 = 57

-- ---- the letters of sections, marks, exponents and strings

abbrev pub letter_d : ℕ
letter_d = 68

abbrev pub letter_e : ℕ
letter_e = 69

abbrev pub letter_g : ℕ
letter_g = 71

abbrev pub letter_h : ℕ
letter_h = 72

abbrev pub letter_p : ℕ
letter_p = 80

abbrev pub letter_r : ℕ
letter_r = 82

abbrev pub letter_s : ℕ
letter_s = 83

abbrev pub letter_t : ℕ
letter_t = 84

abbrev pub letter_u : ℕ
letter_u = 85

abbrev pub letter_v : ℕ
letter_v = 86

abbrev pub letter_x : ℕ
letter_x = 88

abbrev pub letter_z : ℕ
letter_z = 90
