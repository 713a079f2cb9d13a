-- The values of a record. Its text t is columns 1 to w of its lines, joined: position p stands on line p / w, so what "stands on one line"
-- is read in the rest of the line of its first character. c parts the values, d ends the record.
use Rattle.std.specs.Prelude.{Bool, true, false, cond, List, [], ◌∷◌, ℕ, zero, suc, ◌+◌, ◌-◌, ◌%◌, length, get_or, take}
use Rattle.std.specs.Prelude.{drop, leb, eqb, Result, Ok, Err}
use Rattle.columns.specs.declared.Fault.{Fault}
use Rattle.columns.specs.declared.Fault.TheVariants.{Spelling, Limit}
use Rattle.columns.specs.Trim.{trim_onto, trim_end}
use Rattle.columns.specs.Letters.{space}
use Rattle.values.specs.declared.Value.{Value}
use Rattle.values.specs.declared.Value.TheVariants.{Default, Whole, Real, Text}
use Rattle.values.specs.declared.Number.{Number}
use Rattle.values.specs.declared.Number.TheVariants.{Whole as WholeNumber, Real as RealNumber, Beyond, Bad}
use Rattle.values.specs.declared.Head.{Head}
use Rattle.values.specs.declared.Head.TheVariants.{Count, Plain}
use Rattle.values.specs.Head.{head_of}
use Rattle.values.specs.Value.{Item, item_of, is_default}
use Rattle.records.specs.declared.Next.{Next}
use Rattle.records.specs.declared.Next.TheVariants.{Delimiter, Other}
use Rattle.records.specs.declared.Found.{Found}
use Rattle.records.specs.declared.Misspelt.{Misspelt}

-- ---- one value

-- what is read of a value
abbrev pub Got : Type 0
Got = Result Found Misspelt

-- a value, where it starts, the position behind its delimiter, and whether that ends the record
abbrev pub found_at : Value → ℕ → ℕ → Bool → Got
found_at v s next last = Ok (record { value = v; start = s; next = next; last = last })

-- a refusal, where the value starts, and the first position that cannot continue it
abbrev pub miss : Fault → ℕ → ℕ → Misspelt
miss n s at = record { fault = n; start = s; at = at }

abbrev pub refused_at : Fault → ℕ → ℕ → Got
refused_at n s at = Err (miss n s at)

-- how many blanks a text begins with
abbrev pub blanks : List ℕ → ℕ
blanks [] = 0
blanks (x ∷ xs) = cond (eqb x space) (suc (blanks xs)) 0

-- what stands at q: a delimiter, or anything else
abbrev pub mark : ℕ → ℕ → ℕ → ℕ → Next
mark c d x q = cond (eqb x c) (Delimiter q false) (cond (eqb x d) (Delimiter q true) (Other q))

-- what stands behind the blanks from p on
unfoldable pub next_at : ℕ → ℕ → List ℕ → ℕ → Next
next_at c d t p = let q = p + blanks (drop p t) in mark c d (get_or t q 0) q

-- a value that starts at s, and what stands behind it
abbrev pub found : Value → ℕ → Next → Got
found v s (Delimiter at last) = found_at v s (at + 1) last
found v s (Other at) = refused_at Spelling s at

-- a number well spelt up to its delimiter but beyond its limits
abbrev pub beyond : ℕ → Next → Got
beyond s (Delimiter at last) = refused_at Limit s at
beyond s (Other at) = refused_at Spelling s at

-- a number that starts at s and ends at end, and what stands behind it
abbrev pub plain : ℕ → ℕ → Next → Number → Got
plain s end n (WholeNumber neg size) = found (Whole neg size) s n
plain s end n (RealNumber neg m eneg e double) = found (Real neg m eneg e double) s n
plain s end n Beyond = beyond s n
plain s end n Bad = refused_at Spelling s end

-- a string's text may cross lines and holds delimiters and blanks
abbrev pub headed : ℕ → ℕ → List ℕ → ℕ → Head → Got
headed c d t s (Count count len) =
    let at = s + len in
    cond (leb (at + count) (length t)) (found (Text at count) s (next_at c d t (at + count))) (refused_at Spelling s (length t))
headed c d t s (Plain k) = let end = s + k.len in plain s end (next_at c d t end) k.number

-- nothing before a delimiter is a default; a value's head is read in the rest of its line
abbrev pub by_next : ℕ → ℕ → ℕ → List ℕ → Next → Got
by_next w c d t (Delimiter at last) = found_at Default at (at + 1) last
by_next w c d t (Other s) = headed c d t s (head_of (take (w - s % w) (drop s t)))

-- the value from position p on
unfoldable pub value_at : ℕ → ℕ → ℕ → List ℕ → ℕ → Got
value_at w c d t p = by_next w c d t (next_at c d t p)

-- ---- all of a record

-- the values and the position behind the record, or the first refusal: where its value starts, and the first position that cannot continue
-- it
pub data Values : Type 0 where
  values : List Item → ℕ → Values
  wrong : Fault → (start at : ℕ) → Values

-- one value before the others
abbrev pub more : Item → Values → Values
more v (values vs end) = values (v ∷ vs) end
more v (wrong n s at) = wrong n s at

-- a value, and the rest of them
abbrev pub after : List ℕ → (ℕ → Values) → Got → Values
after t rest (Ok r) = elim r.last [ true ↦ values (item_of t r.value ∷ []) r.next | false ↦ more (item_of t r.value) (rest r.next) ]
after t rest (Err r) = wrong r.fault r.start r.at

-- at most `fuel` values
unfoldable pub values_from : ℕ → ℕ → ℕ → ℕ → List ℕ → ℕ → Values
values_from zero w c d t p = wrong Spelling p p
values_from (suc fuel) w c d t p = after t (values_from fuel w c d t) (value_at w c d t p)

-- all from p on: each takes a character at least
unfoldable pub values_at : ℕ → ℕ → ℕ → List ℕ → ℕ → Values
values_at w c d t p = values_from (suc (length t)) w c d t p

-- v before values of which none at the end is a default
abbrev pub trim : Item → List Item → List Item
trim v vs = trim_onto is_default v vs

-- the values without the defaults at the end
abbrev pub trimmed : List Item → List Item
trimmed vs = trim_end is_default vs

-- how many values there are up to the last that is no default
abbrev pub kept : List Item → ℕ
kept vs = length (trimmed vs)

-- ---- where the values stand

-- where a value starts: a default where its delimiter stands
abbrev pub start_of : Got → ℕ
start_of (Ok r) = r.start
start_of (Err r) = r.start

-- the position behind its delimiter
abbrev pub behind : Got → ℕ
behind (Ok r) = r.next
behind (Err r) = r.at

-- the position from which value k, counted from 0, is read
unfoldable pub position_of : ℕ → ℕ → ℕ → List ℕ → ℕ → ℕ → ℕ
position_of w c d t p zero = p
position_of w c d t p (suc k) = position_of w c d t (behind (value_at w c d t p)) k

-- where value k starts
unfoldable pub start_at : ℕ → ℕ → ℕ → List ℕ → ℕ → ℕ → ℕ
start_at w c d t p k = start_of (value_at w c d t (position_of w c d t p k))
