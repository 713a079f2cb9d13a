-- A sheet's text and what its lines say: each tells the other.
use mathlib.Core.Path.{◌≡◌, refl, sym, ap, ◌∙◌}
use mathlib.Core.Bool.{Bool, true, false, cond, not, ◌&&◌}
use mathlib.Core.List.{List, [], ◌∷◌, ◌++◌}
use Prim.Native.Nat.{ℕ, suc, ◌+◌, ◌-◌, ◌≤◌, ◌<◌}
use native.Mathlib.Numerals.{add-one}
use native.Mathlib.Omega.{arith}
use native.Mathlib.Decide.{ℕ_discrete}
use lib.ListN.{length, get_or, take, drop, length-append}
use lib.Seq.{take-append_seam, drop-append-add}
use lib.Dec.{leb, eqb}
use borrow.Author.Tests.{le-leb, lt-ltb, eq-eqb, ne_eqb}
use Rattle.std.proofs.Common.{Option, Some, None}
use Rattle.columns.specs.declared.Signed.{Signed}
use Rattle.columns.specs.Columns.{printable}
use Rattle.columns.specs.Decimal.{dec}
use Rattle.columns.proofs.Tests.{both, both_right}
use Rattle.values.specs.declared.Value.{Value}
use Rattle.values.specs.Value.{Item, item_of, spelled, is_missing}
use Rattle.values.specs.Strict.{strict_of}
use Rattle.values.proofs.Digits.{dec-value}
use Rattle.values.proofs.OneSpelling.{placed, placed_item, missing, missing_placed, sound, complete}
use Rattle.values.proofs.Sizes.{print_spelled}
use Rattle.directory.specs.declared.Fields.{Fields}
use Rattle.directory.specs.Fields.{in_order}
use Rattle.sheets.specs.declared.EntryLine.{EntryLine}
use Rattle.sheets.specs.declared.Said.{Said}
use Rattle.sheets.specs.declared.Said.TheVariants.{Global, Nothing}
use Rattle.sheets.specs.Plain.{plain_of, is_plain, sized}
use Rattle.sheets.specs.Line.{run, is_label, spells, entry_of, label_of, entry_line}
use Rattle.sheets.specs.Sheet.{Line, start, global, entry, value, last, none, line_from, into, pieces_of, is_mark, is_start, start_line, global_of, is_field_number, is_numbered, global_line, entry_line_of, value_of, last_line, by_mark, says_of, said_by, last_piece, said_by_all, line_of, text_of}
use Rattle.sheets.specs.WellFormed.{Held, Filled}
use Rattle.sheets.proofs.Marks.{Marked, says_each}
use Rattle.sheets.proofs.Machine.{has_number, global_right}
use Rattle.sheets.proofs.Digits.{plain_round, plain_back}
use Rattle.sheets.proofs.Round.{No, one, no_append, no_plain, no_dec, no_spell, run-field, run-cut, AllFit, nil, cons, entry_round, label_round, entry_back, Spelt}

-- ---- a text and its pieces
pub pieces_lf : (b : ℕ) (bs : List ℕ) → b ≡ 10 → pieces_of (b ∷ bs) ≡ [] ∷ pieces_of bs
unfolding pieces_of
pieces_lf b bs h = simp (pieces_of, eq-eqb _ _ h)

pub pieces_on : (b : ℕ) (bs : List ℕ) → (b ≡ 10 → ⊥) → pieces_of (b ∷ bs) ≡ into b (pieces_of bs)
unfolding pieces_of
pieces_on b bs h = simp (pieces_of, ne_eqb _ _ h)

pub pieces_none : pieces_of [] ≡ [] ∷ []
unfolding pieces_of
pieces_none = refl

into_some : (b : ℕ) (ls : List (List ℕ)) → 0 < length (into b ls)
unfolding into
into_some b [] = omega arith
into_some b (l ∷ ls) = omega arith

pub pieces_some : (t : List ℕ) → 0 < length (pieces_of t)
pieces_some [] = nothing
  where
    nothing : 0 < length (pieces_of [])
    nothing = rw pieces_none (omega arith)
pieces_some (b ∷ bs) = elim (ℕ_discrete b 10) [
  | yes h ↦ rw (pieces_lf b bs h) (omega arith)
  | no h ↦ rw (pieces_on b bs h) (into_some b (pieces_of bs))
]

pieces_line : {l : List ℕ} → No 10 l → (t : List ℕ) → pieces_of (l ++ (10 ∷ t)) ≡ l ∷ pieces_of t
unfolding into
pieces_line No.none t = pieces_lf 10 t refl
pieces_line (one {b} {bs} h d) t = pieces_on b (bs ++ (10 ∷ t)) h ∙ rw (pieces_line d t)

-- the pieces with LFs between them
joined : List (List ℕ) → List ℕ
joined [] = []
joined (l ∷ ls) = elim ls [ [] ↦ l | ◌∷◌ m ms ↦ l ++ (10 ∷ joined ls) ]

joined-into : (b : ℕ) (ls : List (List ℕ)) → joined (into b ls) ≡ b ∷ joined ls
unfolding joined into
joined-into b [] = refl
joined-into b (l ∷ []) = refl
joined-into b (l ∷ (m ∷ ms)) = refl

joined-more : (l : List ℕ) (ls : List (List ℕ)) → 0 < length ls → joined (l ∷ ls) ≡ l ++ (10 ∷ joined ls)
unfolding joined
joined-more l [] h = absurd (omega arith)
joined-more l (m ∷ ms) h = refl

joined_pieces : (t : List ℕ) → joined (pieces_of t) ≡ t
unfolding joined
joined_pieces [] = rw pieces_none
joined_pieces (b ∷ bs) = pick (ℕ_discrete b 10) (joined_pieces bs)
  where
    pick : Dec (b ≡ 10) → joined (pieces_of bs) ≡ bs → joined (pieces_of (b ∷ bs)) ≡ b ∷ bs
    pick (yes e) ih = ap joined (pieces_lf b bs e) ∙ joined-more [] (pieces_of bs) (pieces_some bs) ∙ rw (ih, e)
    pick (no e) ih = ap joined (pieces_on b bs e) ∙ joined-into b (pieces_of bs) ∙ rw ih

-- ---- one line

-- a line that can be spelt
pub data Well : Line → Type 0 where
  w_start : {t : List ℕ} → is_start t ≡ true → Well (start t)
  w_global : {n : ℕ} {v : Item} → Filled (n, v) → Well (global n v)
  w_entry : {known : Bool} {n : Signed} {e : Fields} {label : List ℕ} → n.neg ≡ false → AllFit 13 (n ∷ in_order e) → is_label label ≡ true → Well (entry known n e label)
  w_value : {reference : Bool} {v : Item} → Held v → Well (value reference v)
  w_last : {n : ℕ} → n ≤ 2147483647 → Well (last n)

pub own : (n : Signed) → n.neg ≡ false → sized false n.size ≡ n
own n h = ap (λ (b : Bool). sized b n.size) (sym h)

says_start : (t : List ℕ) → says_of (83 ∷ (9 ∷ t)) ≡ start_line t
unfolding says_of by_mark
says_start t = refl

says_global : (t : List ℕ) → says_of (71 ∷ (9 ∷ t)) ≡ global_line t
unfolding says_of by_mark
says_global t = refl

says_entry : (known : Bool) (t : List ℕ) → says_of (cond known 69 85 ∷ (9 ∷ t)) ≡ entry_line_of (entry_of (cond known 69 85 ∷ (9 ∷ t)))
unfolding says_of by_mark
says_entry true t = refl
says_entry false t = refl

says_entry_line : (known : Bool) (n : ℕ) (e : Fields) (label : List ℕ) → says_of (entry_line known n e label) ≡ entry_line_of (entry_of (entry_line known n e label))
unfolding entry_line
says_entry_line known n e label = says_entry known (spells 13 (sized false n ∷ in_order e) ++ label)

says_value : (reference : Bool) (t : List ℕ) → says_of (cond reference 82 86 ∷ (9 ∷ t)) ≡ value_of reference (strict_of t)
unfolding says_of by_mark
says_value true t = refl
says_value false t = refl

says_last : (t : List ℕ) → says_of (90 ∷ (9 ∷ t)) ≡ last_line t
unfolding says_of by_mark
says_last t = refl

skip : (k a b : ℕ) (t : List ℕ) → drop (2 + k) (a ∷ (b ∷ t)) ≡ drop k t
skip k a b t =
    let e : 2 + k ≡ suc (suc k) = omega arith in
    ap (λ (j : ℕ). drop j (a ∷ (b ∷ t))) e

numbered_round : (n : ℕ) (rest : List ℕ) → 3 ≤ n → n ≤ 24 → is_numbered (dec n ++ (9 ∷ rest)) ≡ true
unfolding is_numbered is_field_number
numbered_round n rest low high =
    simp (
      run-field (no_dec 9 (omega arith) n) rest,
      lt-ltb (length (dec n)) (length (dec n ++ (9 ∷ rest))) (simp length-append (omega arith)),
      take-append_seam (dec n) (9 ∷ rest),
      plain_round n (omega arith),
      dec-value n,
      le-leb 3 n low,
      le-leb n 24 high,
    )

global_round : (n : ℕ) (v : Item) → Filled (n, v) → line_from (71 ∷ (9 ∷ (dec n ++ (9 ∷ spelled v)))) (global_line (dec n ++ (9 ∷ spelled v))) ≡ global n v
global_round n v f = ap (line_from (71 ∷ (9 ∷ t))) (sym (global_right t (numbered_round n (spelled v) f.low f.high)) ∙ named) ∙ told
  where
    t : List ℕ
    t = dec n ++ (9 ∷ spelled v)

    r : run 9 t ≡ length (dec n)
    r = run-field (no_dec 9 (omega arith) n) (spelled v)

    d : drop (suc (length (dec n))) t ≡ spelled v
    d = rw (← add-one (length (dec n))) (drop-append-add (dec n) (9 ∷ spelled v) 1)

    k : take (length (dec n)) t ≡ dec n
    k = take-append_seam (dec n) (9 ∷ spelled v)

    named : global_of true (plain_of (take (run 9 t) t)) (2 + suc (run 9 t)) (strict_of (drop (suc (run 9 t)) t)) ≡ Global n (2 + suc (length (dec n))) (placed v)
    named = rw (r, k, dec-value n, d, complete f.held.fine f.held.printed, missing_placed v, f.given)

    told : global n (item_of (drop (2 + suc (length (dec n))) (71 ∷ (9 ∷ t))) (placed v)) ≡ global n v
    told = rw (skip (suc (length (dec n))) 71 9 t, d, placed_item v)

pub line_round : {i : Line} → Well i → said_by (line_of i) ≡ i
unfolding said_by line_of start_line last_line
line_round (w_start {t} h) = rw (says_start t, h)
line_round (w_global {n} {v} f) = rw (says_global (dec n ++ (9 ∷ spelled v))) (global_round n v f)
line_round (w_entry {known} {n} {e} {label} z a l) =
    rw (says_entry_line known n.size e label, entry_round known n.size e label (rw (own n z) a) l, label_round known n.size e label l) (ap (λ (x : Signed). entry known x e label) (own n z))
line_round (w_value {reference} {v} p) = rw (says_value reference (spelled v), complete p.fine p.printed, placed_item v)
line_round (w_last {n} h) = rw (says_last (dec n), plain_round n h, dec-value n)

-- no LF in a line
no_spells : {left : ℕ} {xs : List Signed} → AllFit left xs → No 10 (spells left xs)
unfolding spells
no_spells nil = No.none
no_spells (cons f a) =
    let h : ◌≡◌ {A = ℕ} 9 10 → ⊥ = omega arith in
    no_append 10 (omega arith) (no_spell 10 (omega arith) f) (one h (no_spells a))

marked : (m : ℕ) {t : List ℕ} → 32 ≤ m → No 10 t → No 10 (m ∷ (9 ∷ t))
marked m l d =
    let h : ◌≡◌ {A = ℕ} 9 10 → ⊥ = omega arith in
    let k : m ≡ 10 → ⊥ = omega arith in
    one k (one h d)

start_plain : (t : List ℕ) → is_start t ≡ true → printable t ≡ true
unfolding is_start
start_plain t h =
    both_right (not (eqb (get_or t (length t - 1) 0) 32)) (printable t)
    (both_right (leb (length t) 72) (not (eqb (get_or t (length t - 1) 0) 32) && printable t) h)

label_plain : (t : List ℕ) → is_label t ≡ true → printable t ≡ true
unfolding is_label
label_plain t h = both_right (eqb (length t) 8) (printable t) h

no_value : (v : Item) → Held v → No 10 (spelled v)
no_value v h = no_plain 10 (omega arith) (spelled v) (print_spelled v h.printed)

letter : (b : Bool) (m n : ℕ) → 32 ≤ m → 32 ≤ n → 32 ≤ cond b m n
letter true m n h k = h
letter false m n h k = k

pub no_line : {i : Line} → Well i → No 10 (line_of i)
unfolding line_of entry_line
no_line (w_start {t} h) = marked 83 (omega arith) (no_plain 10 (omega arith) t (start_plain t h))
no_line (w_global {n} {v} f) =
    let k : ◌≡◌ {A = ℕ} 9 10 → ⊥ = omega arith in
    marked 71 (omega arith) (no_append 10 (omega arith) (no_dec 10 (omega arith) n) (one k (no_value v f.held)))
no_line (w_entry {known} {n} {e} {label} z a l) =
    marked (cond known 69 85) (letter known 69 85 (omega arith) (omega arith))
    (no_append 10 (omega arith) (no_spells (rw (own n z) a)) (no_plain 10 (omega arith) label (label_plain label l)))
no_line (w_value {reference} {v} p) = marked (cond reference 82 86) (letter reference 82 86 (omega arith) (omega arith)) (no_value v p)
no_line (w_last {n} h) = marked 90 (omega arith) (no_dec 10 (omega arith) n)

-- ---- all lines
pub data AllWell : List Line → Type 0 where
  no_lines : AllWell []
  a-line : {i : Line} {is : List Line} → Well i → AllWell is → AllWell (i ∷ is)

pub lines_more : (l : List ℕ) (ls : List (List ℕ)) → 0 < length ls → said_by_all (l ∷ ls) ≡ said_by l ∷ said_by_all ls
unfolding said_by_all
lines_more l [] h = absurd (omega arith)
lines_more l (m ∷ ms) h = refl

pub none_of : said_by_all (pieces_of []) ≡ []
unfolding said_by_all pieces_of last_piece
none_of = refl

pub text_round : {is : List Line} → AllWell is → said_by_all (pieces_of (text_of is)) ≡ is
unfolding text_of
text_round no_lines = none_of
text_round (a-line {i} {is} w a) =
    rw (pieces_line (no_line w) (text_of is), lines_more (line_of i) (pieces_of (text_of is)) (pieces_some (text_of is)), line_round w, text_round a)

-- ---- what a line says is spelt so

-- the line says something; a directory number has no minus
abbrev pub Says : Line → Type 0
Says (start t) = Unit {0}
Says (global n v) = Unit {0}
Says (entry known n x label) = n.neg ≡ false
Says (value reference v) = Unit {0}
Says (last n) = Unit {0}
Says (none b) = ⊥

-- if a line says something, then that, and it is spelt so
Told : List ℕ → Line → Type 0
Told l i = Says i → Well i × (line_of i ≡ l)

untold : (l : List ℕ) (b : Bool) → Told l (none b)
unfolding Told
untold l b s = absurd s

told : {l : List ℕ} {i : Line} → Well i → line_of i ≡ l → Told l i
unfolding Told
told w e s = (w, e)

told_if : (c : Bool) (l : List ℕ) (x : Said) (b : Bool) → (c ≡ true → Well (line_from l x) × (line_of (line_from l x) ≡ l)) → Told l (line_from l (cond c x (Nothing b)))
told_if true l x b f = told (f refl).0 (f refl).1
told_if false l x b f = untold l b

start-told : (t : List ℕ) → is_start t ≡ true → Told (83 ∷ (9 ∷ t)) (start t)
unfolding line_of
start-told t e = told (w_start e) refl

global_told : (t : List ℕ) → Told (71 ∷ (9 ∷ t)) (line_from (71 ∷ (9 ∷ t)) (global_line t))
unfolding global_line line_of
global_told t = pick (strict_of v) refl
  where
    n : ℕ
    n = plain_of (take (run 9 t) t)

    v : List ℕ
    v = drop (suc (run 9 t)) t

    good : (w : Value) → strict_of v ≡ Some w → is_numbered t && not (is_missing w) ≡ true → Well (global n (item_of v w)) × (71 ∷ (9 ∷ (dec n ++ (9 ∷ spelled (item_of v w)))) ≡ 71 ∷ (9 ∷ t))
    good w e g =
        let z = sound v e in
        let a = both (is_numbered t) (not (is_missing w)) g in
        let k = has_number t a.0 in (
          w_global (record {
            low = k.low;
            high = k.high;
            given = missing v w ∙ given (is_missing w) a.1;
            held = record { fine = z.fine; printed = z.printed };
          }),
          rw (k.spelt, z.text) (ap (λ (x : List ℕ). 71 ∷ (9 ∷ x)) (run-cut 9 t k.tab)),
        )
      where
        given : (b : Bool) → not b ≡ true → b ≡ false
        given true e = sym e
        given false e = refl

    pick : (x : Option Value) → strict_of v ≡ x → Told (71 ∷ (9 ∷ t)) (line_from (71 ∷ (9 ∷ t)) (global_of (is_numbered t) n (2 + suc (run 9 t)) x))
    pick None e = untold (71 ∷ (9 ∷ t)) false
    pick (Some w) e =
        told_if (is_numbered t && not (is_missing w)) (71 ∷ (9 ∷ t)) (Global n (2 + suc (run 9 t)) w) false
        (λ g. rw (skip (suc (run 9 t)) 71 9 t) (good w e g))

entry-spelt : {l : List ℕ} {known : Bool} {n : Signed} {e : Fields} → Spelt l known n e → Told l (entry known n e (label_of l))
unfolding Told line_of
entry-spelt s z = (w_entry z s.fit s.label, s.text z)

entry-told : (l : List ℕ) → Told l (line_from l (entry_line_of (entry_of l)))
entry-told l = pick (entry_of l) refl
  where
    pick : (r : Option EntryLine) → entry_of l ≡ r → Told l (line_from l (entry_line_of r))
    pick (Some r) h = entry-spelt (entry_back l r.known r.number r.fields h)
    pick None h = untold l false

value-told : (reference : Bool) (m : ℕ) (t : List ℕ) → cond reference 82 86 ≡ m → Told (m ∷ (9 ∷ t)) (line_from (m ∷ (9 ∷ t)) (value_of reference (strict_of t)))
unfolding line_of
value-told reference m t c = pick (strict_of t) refl
  where
    pick : (x : Option Value) → strict_of t ≡ x → Told (m ∷ (9 ∷ t)) (line_from (m ∷ (9 ∷ t)) (value_of reference x))
    pick (Some w) e =
        let z = sound t e in
        told (w_value (record { fine = z.fine; printed = z.printed })) (rw (c, z.text))
    pick None e = untold (m ∷ (9 ∷ t)) true

last_told : (t : List ℕ) → is_plain t ≡ true → Told (90 ∷ (9 ∷ t)) (last (plain_of t))
unfolding line_of
last_told t e = told (w_last (plain_back t e).1) (ap (λ (x : List ℕ). 90 ∷ (9 ∷ x)) (plain_back t e).0)

says_untabbed : (l : List ℕ) → (get_or l 1 0 ≡ 9 → ⊥) → says_of l ≡ Nothing (is_mark (get_or l 0 0))
unfolding says_of
says_untabbed l h = simp (ne_eqb _ _ h)

two : (l : List ℕ) → get_or l 1 0 ≡ 9 → get_or l 0 0 ∷ (9 ∷ drop 2 l) ≡ l
two [] q = absurd (omega arith)
two (x ∷ []) q = absurd (omega arith)
two (x ∷ (y ∷ l)) q = rw q

mark-told : (b : ℕ) (t : List ℕ) → Told (b ∷ (9 ∷ t)) (line_from (b ∷ (9 ∷ t)) (says_of (b ∷ (9 ∷ t))))
mark-told b t =
    says_each (λ (x : Said). Told l (line_from l x)) l (untold l) (λ m e. rw (is m) (start-told t e)) (λ m. rw (is m) (global_told t)) (λ known m. entry-told l)
    (λ reference m. value-told reference b t (sym m.mark)) (λ m e. rw (is m) (last_told t e))
  where
    l : List ℕ
    l = b ∷ (9 ∷ t)

    is : {c : ℕ} → Marked l c → b ≡ c
    is m = m.mark

line-told : (l : List ℕ) → Told l (said_by l)
unfolding said_by
line-told l = elim (ℕ_discrete (get_or l 1 0) 9) [
  | yes e ↦ rw (← two l e) (mark-told (get_or l 0 0) (drop 2 l))
  | no e ↦ rw (says_untabbed l e) (untold l (is_mark (get_or l 0 0)))
]

-- ---- what a text says is spelt so
pub data AllSaid : List Line → Type 0 where
  none_said : AllSaid []
  one-said : {i : Line} {is : List Line} → Says i → AllSaid is → AllSaid (i ∷ is)

last_piece_lem : (l : List ℕ) → AllSaid (last_piece l) → AllWell (last_piece l) × (text_of (last_piece l) ≡ l)
unfolding last_piece text_of
last_piece_lem [] a = (no_lines, refl)
last_piece_lem (b ∷ bs) (one-said s a) = absurd s

pieces_back : (ls : List (List ℕ)) → 0 < length ls → AllSaid (said_by_all ls) → AllWell (said_by_all ls) × (text_of (said_by_all ls) ≡ joined ls)
unfolding said_by_all joined text_of Told
pieces_back [] h a = absurd (omega arith)
pieces_back (l ∷ []) h a = last_piece_lem l a
pieces_back (l ∷ (m ∷ ms)) h (one-said s a) =
    let w = line-told l s in
    let b = pieces_back (m ∷ ms) (omega arith) a in
    (a-line w.0 b.0, rw (w.1, b.1))

pub text_back : (t : List ℕ) → AllSaid (said_by_all (pieces_of t)) → AllWell (said_by_all (pieces_of t)) × (text_of (said_by_all (pieces_of t)) ≡ t)
text_back t a =
    let b = pieces_back (pieces_of t) (pieces_some t) a in
    (b.0, b.1 ∙ joined_pieces t)
