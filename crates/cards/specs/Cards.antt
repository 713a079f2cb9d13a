-- "Lines" of the paper: bytes and LF, section letters and their order, sequence numbers, the T line; the refusals 1 to 5 in their order.
-- What has gone before a line is told by the counts alone: the section reached is the last with a line in it, and a line's number follows.
use Rattle.std.specs.Prelude.{ℕ, zero, suc, ◌+◌, ◌-◌, ◌*◌, ◌/◌, ◌%◌, Bool, cond, ◌&&◌, List, [], ◌∷◌}
use Rattle.std.specs.Prelude.{length, get_or, leb, ltb, eqb, Option, Some, None, Result, Ok, Err}
use Rattle.columns.specs.declared.Fault.TheVariants.{ListOrLength, Byte, Section, Sequence, Terminate}
use Rattle.columns.specs.declared.Fault.{Fault}
use Rattle.columns.specs.declared.FileLine.{FileLine}
use Rattle.columns.specs.declared.Refusal.{Refusal}
use Rattle.columns.specs.Refusal.{Outcome, accepted, refused, refusal_at}
use Rattle.columns.specs.Columns.{columns, printable, blank, line_at}
use Rattle.columns.specs.Fixed.{field_of, is_number}
use Rattle.columns.specs.Format.{line_columns, line_bytes, text_columns, field_columns, most_lines}
use Rattle.columns.specs.Letters.{newline, letter_d, letter_g, letter_p, letter_s, letter_t}
use Rattle.cards.specs.declared.Counts.{Counts}
use Rattle.cards.specs.declared.Placed.{Placed}
use Rattle.cards.specs.Shared.{file_line}

-- n lines of a file, from line k on
unfoldable pub lines_from : List ℕ → ℕ → ℕ → List (List ℕ)
lines_from f k zero = []
lines_from f k (suc n) = line_at f k ∷ lines_from f (k + 1) n

-- all lines of a file
unfoldable pub lines_of : List ℕ → List (List ℕ)
lines_of f = lines_from f 0 (length f / line_bytes)

-- 80 bytes from 32 to 126, then LF
unfoldable pub line_ok : List ℕ → Bool
line_ok l = eqb (get_or l line_columns 0) newline && printable (columns l 0 line_columns)

-- the seven columns from at on hold n
unfoldable pub seven : List ℕ → ℕ → ℕ → Bool
seven l at n = is_number (field_of (columns l at (at + 7))) n

-- these counts, in the order of the sections
abbrev pub counts : ℕ → ℕ → ℕ → ℕ → ℕ → Counts
counts s g d p t = record { s = s; g = g; d = d; p = p; t = t }

-- how many lines are counted
abbrev pub total : Counts → ℕ
total c = c.s + c.g + c.d + c.p + c.t

-- these counts, and this number in its section
abbrev pub placed : Counts → ℕ → Placed
placed c n = record { counts = c; number = n }

-- a line stands here if what it needs before it is there, and nothing of a later section is
abbrev pub here : ℕ → ℕ → Counts → ℕ → Option Placed
here before later c n = cond (ltb 0 before && eqb later 0) (Some (placed c n)) None

-- the counts with a line of letter b, which left more lines follow, and its number in its section: T, S, G, D, P
unfoldable pub place_of : Counts → ℕ → ℕ → Option Placed
place_of c left b =
    let (s, g, d, p, t) : ℕ × ℕ × ℕ × ℕ × ℕ = (c.s, c.g, c.d, c.p, c.t) in
    cond (eqb b letter_t) (here g t (counts s g d p (t + 1)) (t + 1))
    (cond (eqb left 0) None
    (cond (eqb b letter_s) (here 1 (g + d + p + t) (counts (s + 1) g d p t) (s + 1))
    (cond (eqb b letter_g) (here s (d + p + t) (counts s (g + 1) d p t) (g + 1))
    (cond (eqb b letter_d) (here g (p + t) (counts s g (d + 1) p t) (d + 1))
    (cond (eqb b letter_p) (here g t (counts s g d (p + 1) t) (p + 1))
    None)))))

-- its number in columns 74-80
unfoldable pub numbered_of : Option Placed → List ℕ → Result Counts Fault
numbered_of None l = Err Section
numbered_of (Some p) l = cond (seven l (text_columns + 1) p.number) (Ok p.counts) (Err Sequence)

-- one line: its bytes, then its place, then its number
unfoldable pub step_of : Counts → ℕ → List ℕ → Result Counts Fault
step_of c left l = cond (line_ok l) (numbered_of (place_of c left (get_or l text_columns 0)) l) (Err Byte)

-- the counts of a file's sections, or its first refusal and that one's line
abbrev pub CardsRead : Type 0
CardsRead = Result Counts (Refusal FileLine)

-- line by line, the first of them line k of the file
unfoldable pub pass : Counts → ℕ → List (List ℕ) → CardsRead
pass c k [] = Ok c
pass c k (l ∷ ls) = elim (step_of c (length ls) l) [ Err w ↦ Err (refusal_at w (file_line k)) | Ok q ↦ pass q (k + 1) ls ]

-- a letter and a section's last sequence number
unfoldable pub tells : List ℕ → ℕ → ℕ → ℕ → Bool
tells l at b n = eqb (get_or l at 0) b && seven l (at + 1) n

-- the T line: four of these, then blanks
unfoldable pub totals : Counts → List ℕ → Bool
totals c l =
    tells l 0 letter_s c.s
    && (tells l field_columns letter_g c.g
    && (tells l (2 * field_columns) letter_d c.d
    && (tells l (3 * field_columns) letter_p c.p && blank (columns l (4 * field_columns) text_columns))))

-- the D lines are even in number, and T tells the counts
unfoldable pub closes : Counts → List ℕ → Bool
closes c l = eqb (c.d % 2) 0 && totals c l

-- before the first line
abbrev pub start : Counts
start = counts 0 0 0 0 0

-- after all lines: the T line, which is line n
unfoldable pub closed : List ℕ → ℕ → CardsRead → CardsRead
closed f n (Err r) = Err r
closed f n (Ok c) = cond (closes c (line_at f (n - 1))) (Ok c) (Err (refusal_at Terminate (file_line n)))

-- a length of whole lines, from 1 to the most
unfoldable pub length_ok : ℕ → Bool
length_ok n = eqb (n % line_bytes) 0 && (leb 1 (n / line_bytes) && leb (n / line_bytes) most_lines)

-- the counts of a file's sections, or its first refusal of 1 to 5
unfoldable pub cards_of : List ℕ → CardsRead
cards_of f =
    cond (length_ok (length f)) (closed f (length f / line_bytes) (pass start 1 (lines_of f))) (Err (refusal_at ListOrLength (file_line 0)))

-- the same as an outcome
abbrev pub outcome : CardsRead → Outcome Counts
outcome (Ok c) = accepted c
outcome (Err r) = refused r.fault r.line.0

-- where the sections start: the index of each one's first line, from 0; of G,
abbrev pub first_g : Counts → ℕ
first_g c = c.s

-- of D,
abbrev pub first_d : Counts → ℕ
first_d c = c.s + c.g

-- of P,
abbrev pub first_p : Counts → ℕ
first_p c = c.s + c.g + c.d

-- and the T line's
abbrev pub first_t : Counts → ℕ
first_t c = c.s + c.g + c.d + c.p

-- how many entries there are: two D lines each
abbrev pub entries : Counts → ℕ
entries c = c.d / 2

-- the index of entry i's first line; entries are counted from 0
abbrev pub entry_line : Counts → ℕ → ℕ
entry_line c i = first_d c + 2 * i

-- the index of P line k; P lines are counted from 1
abbrev pub parameter_line : Counts → ℕ → ℕ
parameter_line c k = first_p c + (k - 1)
