-- A number of free format: an integer or a real, told by its spelling alone. A text is the list t of its characters; `get_or t i 0` is the
-- character at i, and 0 past the end.
use Rattle.std.specs.Prelude.{Bool, true, false, cond, ◌&&◌, ◌||◌, List, [], ◌∷◌, ◌++◌, ℕ, zero, suc, ◌+◌}
use Rattle.std.specs.Prelude.{◌-◌, ◌*◌, ◌/◌, ◌%◌}
use Rattle.std.specs.Prelude.{◌^◌, min, length, get_or, drop, ltb, leb, eqb}
use Rattle.columns.specs.Format.{most_integer}
use Rattle.columns.specs.Letters.{plus_sign, minus_sign, point, digit0, digit9, letter_d, letter_e, letter_h}
use Rattle.values.specs.declared.Number.{Number}
use Rattle.values.specs.declared.Number.TheVariants.{Whole, Real, Beyond, Bad}
use Rattle.values.specs.declared.Token.{Token}
use Rattle.values.specs.declared.Power.{Power}
use Rattle.values.specs.declared.Power.TheVariants.{None, Wrong, Of}

-- '+' or '-'
abbrev pub sign_len : ℕ → ℕ
sign_len c = cond (eqb c plus_sign || eqb c minus_sign) 1 0

-- '.'
abbrev pub point_len : ℕ → ℕ
point_len c = cond (eqb c point) 1 0

-- '0' to '9'
abbrev pub is_digit : ℕ → Bool
is_digit c = leb digit0 c && leb c digit9

-- what can go on a number or a string's count: a digit, `+ - . D E H`. No delimiter is one of them
abbrev pub joins : ℕ → Bool
joins c = is_digit c || (eqb c plus_sign || (eqb c minus_sign || (eqb c point || (eqb c letter_d || (eqb c letter_e || eqb c letter_h)))))

-- the digits that a text begins with
abbrev pub digits : List ℕ → List ℕ
digits [] = []
digits (c ∷ cs) = cond (is_digit c) (c ∷ digits cs) []

-- the number that v, followed by these digits, spells
abbrev pub value : ℕ → List ℕ → ℕ
value v [] = v
value v (c ∷ cs) = value (v * 10 + (c - digit0)) cs

-- how often ten divides v, up to n times
abbrev pub tens : ℕ → ℕ → ℕ
tens zero v = 0
tens (suc n) v = cond (eqb (v % 10) 0) (suc (tens n (v / 10))) 0

-- an exponent of one to three digits, ten to up less down; else the first place that cannot go on with it
abbrev pub power_of : Bool → ℕ → ℕ → Bool → ℕ → ℕ → Power
power_of neg count x double from end =
    cond (leb 1 count && leb count 3) (cond neg (Of 0 x double end) (Of x 0 double end)) (Wrong (from + min count 3))

-- the exponent behind its letter: a sign or none, and digits
unfoldable pub power : List ℕ → ℕ → Bool → Power
power t i double =
    let k = sign_len (get_or t i 0) in
    let ds = digits (drop (i + k) t) in
    power_of (eqb (get_or t i 0) minus_sign) (length ds) (value 0 ds) double (i + k) (i + k + length ds)

-- the exponent at i, if its letter is there: E, or D, which makes it double
unfoldable pub power_at : List ℕ → ℕ → Power
power_at t i = cond (eqb (get_or t i 0) letter_e) (power t (i + 1) false) (cond (eqb (get_or t i 0) letter_d) (power t (i + 1) true) None)

-- a number, and how many characters spell it
abbrev pub token : Number → ℕ → Token
token x len = record { number = x; len = len }

-- an integer: its size is at most 2,147,483,647; 0 has no sign
abbrev pub whole_of : Bool → ℕ → ℕ → Token
whole_of neg v len = token (cond (leb v most_integer) (Whole (cond (eqb v 0) false neg) v) Beyond) len

-- m times ten to up less down: m has at most 17 digits, the exponent lies in -400..400; zero has e = 0 and no sign
abbrev pub normal : Bool → ℕ → ℕ → ℕ → Bool → ℕ → Token
normal neg m up down double len =
    let e = (up - down) + (down - up) in
    token (cond (eqb m 0) (Real false 0 false 0 double)
    (cond (ltb m (10 ^ 17) && leb e 400) (Real neg m (ltb up down) e double) Beyond)) len

-- v, of count digits, times ten to up less down: the zeros at its end go to the exponent
abbrev pub real_of : Bool → ℕ → ℕ → ℕ → ℕ → Bool → ℕ → Token
real_of neg v count up down double len = normal neg (v / 10 ^ tens count v) (tens count v + up) down double len

-- v, of count digits, frac of them behind the point; p is 1 if there is a point; end is where they end
abbrev pub by_power : Power → Bool → ℕ → ℕ → ℕ → ℕ → ℕ → Token
by_power None neg v count frac p end = cond (eqb p 0) (whole_of neg v end) (real_of neg v count 0 frac false end)
by_power (Wrong at) neg v count frac p end = token Bad at
by_power (Of up down double last) neg v count frac p end = real_of neg v count up (frac + down) double last

-- the same, where a digit must be there
abbrev pub finish : Power → Bool → ℕ → ℕ → ℕ → ℕ → ℕ → Token
finish x neg v count frac p end = cond (eqb count 0) (token Bad end) (by_power x neg v count frac p end)

-- the number that a text begins with: a sign, digits with at most one point, an exponent
unfoldable pub number_of : List ℕ → Token
number_of t =
    let a = sign_len (get_or t 0 0) in
    let before = digits (drop a t) in
    let p = point_len (get_or t (a + length before) 0) in
    let behind = digits (drop (a + length before + p) t) in
    let end = a + (length before + length behind) + p in
    finish (power_at t end) (eqb (get_or t 0 0) minus_sign) (value 0 (before ++ behind))
    (length before + length behind) (length behind) p end
