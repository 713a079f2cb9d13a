-- An entry line of a sheet in order shows which entry it heads: wherever it was found, its number tells. Assumes nothing.
use mathlib.Core.Path.{◌≡◌, refl, sym, ap, ◌∙◌}
use mathlib.Core.Bool.{Bool, true, false, cond, ◌||◌}
use mathlib.Core.List.{List, [], ◌∷◌, ◌++◌, map, append_assoc}
use Prim.Native.Nat.{ℕ, zero, suc, ◌+◌, ◌-◌, ◌*◌, ◌/◌, ◌%◌, ◌≤◌, ◌<◌}
use native.Mathlib.Omega.{arith}
use native.Mathlib.Decide.{dec_lt, ℕ_discrete}
use lib.ListN.{length, get_or, drop, length-append}
use lib.Seq.{take-append_seam, drop-append-add, drop-drop, get_or-drop}
use lib.Dec.{eqb}
use borrow.Author.Tests.{eqb-true, le-leb, lt-leb}
use Rattle.std.proofs.Common.{Ok}
use Rattle.columns.specs.declared.Signed.{Signed}
use Rattle.columns.specs.Columns.{columns}
use Rattle.columns.specs.Decimal.{dec, signed_dec}
use Rattle.columns.proofs.Columns.{columns_rest}
use Rattle.columns.proofs.Decimals.{dec-byte, dec_some, print_signed}
use Rattle.columns.proofs.Tests.{both_left, both_right}
use Rattle.values.specs.Value.{is_default}
use Rattle.values.proofs.Digits.{dec-value}
use Rattle.directory.specs.declared.Fields.{Fields}
use Rattle.directory.specs.Fields.{in_order}
use Rattle.references.specs.References.{class_of, class_at}
use Rattle.references.proofs.Classes.{class_at_lem}
use Rattle.sheets.specs.declared.SheetState.{SheetState}
use Rattle.columns.specs.Format.{most_integer}
use Rattle.sheets.specs.Plain.{sized, plain_of}
use Rattle.sheets.specs.Line.{run, spell, spells, entry_line}
use Rattle.sheets.specs.Folds.{plain_fold}
use Rattle.sheets.specs.Sheet.{Line, start, global, entry, value, last, none, into, pieces_of, said_by, said_by_all, lines_in, line_of, text_of}
use Rattle.sheets.specs.Order.{begin, step_line, go_lines, verdict_of}
use Rattle.sheets.proofs.Digits.{plain_round, plain_back}
use Rattle.sheets.proofs.Folds.{tells_good, plain-fold}
use Rattle.sheets.proofs.Round.{No, Fits, eight, plain, cons, no_plain, no_dec, run-field}
use Rattle.sheets.proofs.Says.{pieces_lf, pieces_on, pieces_some, lines_more, AllWell, no_lines, a-line, w_start, w_global, w_entry, w_value, w_last, own, text_back}
use Rattle.sheets.proofs.Takes.{start_inv, global_inv, entry_inv, value_inv, last_inv, none_inv, go_inv, all_said}
use Rattle.sheets_rows.specs.Rows.{types_in}
use Rattle.write_lines.specs.Classes.{sheet_types}
use Rattle.write_lines.specs.Shown.{begins_entry, EntryAt, plain_at, plain_class}

-- ---- a text is cut behind any LF of it

pieces_cut : (t : List ℕ) (p : ℕ) → p < length t → get_or t p 0 ≡ 10 → (l : List ℕ) × (ls : List (List ℕ)) × (pieces_of t ≡ l ∷ (ls ++ pieces_of (drop (suc p) t)))
unfolding into
pieces_cut [] p h e = absurd (omega arith)
pieces_cut (b ∷ bs) zero h e = ([], [], pieces_lf b bs e)
pieces_cut (b ∷ bs) (suc p) h e = pick (ℕ_discrete b 10) (pieces_cut bs p (omega arith) e)
  where
    pick : Dec (b ≡ 10) → (l : List ℕ) × (ls : List (List ℕ)) × (pieces_of bs ≡ l ∷ (ls ++ pieces_of (drop (suc p) bs)))
        → (l : List ℕ) × (ls : List (List ℕ)) × (pieces_of (b ∷ bs) ≡ l ∷ (ls ++ pieces_of (drop (suc p) bs)))
    pick (yes q) r = ([], r.0 ∷ r.1, pieces_lf b bs q ∙ rw r.2)
    pick (no q) r = (b ∷ r.0, r.1, pieces_on b bs q ∙ rw r.2)

said-cut : (ls more : List (List ℕ)) → 0 < length more → said_by_all (ls ++ more) ≡ map said_by ls ++ said_by_all more
said-cut [] more h = refl
said-cut (l ∷ ls) more h = lines_more l (ls ++ more) (rw (length-append ls more) (omega arith)) ∙ rw (said-cut ls more h)

lines_cut : (t : List ℕ) (p : ℕ) → p < length t → get_or t p 0 ≡ 10 → (ls : List Line) × (lines_in t ≡ ls ++ lines_in (drop (suc p) t))
unfolding lines_in
lines_cut t p h e =
    let c = pieces_cut t p h e in
    (map said_by (c.0 ∷ c.1), ap said_by_all c.2 ∙ said-cut (c.0 ∷ c.1) (pieces_of (drop (suc p) t)) (pieces_some (drop (suc p) t)))

-- ---- how many entries stand before a place

more-types : (l : Line) (ls : List Line) → length (types_in (l ∷ ls)) ≡ length (types_in (l ∷ [])) + length (types_in ls)
unfolding types_in
more-types (start t) ls = omega arith
more-types (global n v) ls = omega arith
more-types (entry known n x label) ls = omega arith
more-types (value reference v) ls = omega arith
more-types (last n) ls = omega arith
more-types (none b) ls = omega arith

step-types : (st y : SheetState) (l : Line) → step_line st l ≡ Ok y → y.entries ≡ st.entries + length (types_in (l ∷ []))
unfolding types_in
step-types st y (start t) e = rw (start_inv st y e).2 (omega arith)
step-types st y (global n v) e = rw (global_inv st y n e).4 (omega arith)
step-types st y (entry known n x label) e = rw (entry_inv st y n e).4 (omega arith)
step-types st y (value reference v) e = rw (value_inv st y (is_default v) e).1 (omega arith)
step-types st y (last n) e = rw (last_inv st y n e).4 (omega arith)
step-types st y (none b) e = absurd (none_inv st y b e)

go_past : (ls rest : List Line) (st : SheetState) (n : ℕ) → go_lines st (ls ++ rest) ≡ Ok n → (y : SheetState) × (go_lines y rest ≡ Ok n) × (y.entries ≡ st.entries + length (types_in ls))
unfolding types_in
go_past [] rest st n h = (st, h, omega arith)
go_past (l ∷ ls) rest st n h =
    let s = go_inv st l (ls ++ rest) n h in
    let r = go_past ls rest s.0 n s.2 in
    (r.0, r.1, omega (arith, r.2, step-types st s.0 l s.1, more-types l ls))

module _ (known : Bool) (m : Signed) (x : Fields) (label : List ℕ) (rest : List Line) where
  type_there : (ls : List Line) → get_or (types_in (ls ++ (entry known m x label ∷ rest))) (length (types_in ls)) 0 ≡ x.entity.size
  unfolding types_in
  type_there [] = refl
  type_there (start t ∷ ls) = type_there ls
  type_there (global n v ∷ ls) = type_there ls
  type_there (entry known' n x' label' ∷ ls) = type_there ls
  type_there (value reference v ∷ ls) = type_there ls
  type_there (last n ∷ ls) = type_there ls
  type_there (none b ∷ ls) = type_there ls

  types-behind : (ls : List Line) → length (types_in ls) < length (types_in (ls ++ (entry known m x label ∷ rest)))
  unfolding types_in
  types-behind [] = omega arith
  types-behind (start t ∷ ls) = types-behind ls
  types-behind (global n v ∷ ls) = types-behind ls
  types-behind (entry known' n x' label' ∷ ls) = omega (arith, types-behind ls)
  types-behind (value reference v ∷ ls) = types-behind ls
  types-behind (last n ∷ ls) = types-behind ls
  types-behind (none b ∷ ls) = types-behind ls

  class_there : (t : List ℕ) (n : ℕ) (ls : List Line) → verdict_of t ≡ Ok n → lines_in t ≡ ls ++ (entry known m x label ∷ rest) → class_of x.entity.size ≡ class_at (sheet_types t) m.size
  unfolding verdict_of sheet_types
  class_there t n ls good e =
      let p = go_past ls (entry known m x label ∷ rest) begin n (rw e at good) in
      let i = go_inv p.0 (entry known m x label) rest n p.1 in
      let s : m.size ≡ 2 * length (types_in ls) + 1 = ap (λ (z : Signed). z.size) (entry_inv p.0 i.0 m i.1).3 ∙ omega (arith, p.2) in
      let k : m.size / 2 ≡ length (types_in ls) = omega (arith, s) in
      let odd : m.size % 2 ≡ 1 = omega (arith, s) in
      let in-it : m.size / 2 < length (types_in (lines_in t)) = rw (k, e) (types-behind ls) in
      ap class_of (sym (type_there ls) ∙ rw (k, e)) ∙ class_at_lem (types_in (lines_in t)) m.size odd in-it

-- ---- a line of a good sheet is spelt as one: by its first byte it is an entry's, and its first two numbers stand behind that

never : false ≡ true → ⊥
never h =
    let z : ◌≡◌ {A = ℕ} 0 1 = ap (λ (b : Bool). cond b 1 0) h in
    omega arith

plain-dec : (n : ℕ) → n ≤ most_integer → plain_fold (dec n) ≡ n
plain-dec n h = (plain-fold (dec n)).same (plain_round n h) ∙ dec-value n

-- what reads as a plain number was spelt without a minus
plain-signed : (b : Bool) (n : ℕ) → plain_fold (signed_dec (sized b n)) ≤ most_integer → plain_fold (signed_dec (sized b n)) ≡ n
unfolding signed_dec
plain-signed true n h =
    let e : dec (plain_of (45 ∷ dec n)) ≡ 45 ∷ dec n = (plain_back (45 ∷ dec n) (tells_good (plain-fold (45 ∷ dec n)) h).0).0 in
    absurd (omega (arith, dec-byte (plain_of (45 ∷ dec n)) 0 (dec_some _), ap (λ (l : List ℕ). get_or l 0 0) e))
plain-signed false n h = (tells_good (plain-fold (dec n)) h).1 ∙ dec-value n

-- a text up to the tab behind it
module _ (t : List ℕ) (i : ℕ) (f rest : List ℕ) (no : No 9 f) (e : drop i t ≡ f ++ (9 ∷ rest)) (end : ℕ) (en : end ≡ i + run 9 (columns t i (length t))) where
  tab-at : end ≡ i + length f
  tab-at = en ∙ ap (λ (l : List ℕ). i + run 9 l) (columns_rest t i ∙ e) ∙ ap (λ (k : ℕ). i + k) (run-field no rest)

  text_there : columns t i end ≡ f
  unfolding columns
  text_there =
      let k : end - i ≡ length f = omega (arith, tab-at) in
      rw (k, e) (take-append_seam f (9 ∷ rest))

  rest_there : drop (end + 1) t ≡ rest
  rest_there =
      let k : end + 1 ≡ i + (length f + 1) = omega (arith, tab-at) in
      rw k (sym (drop-drop (length f + 1) i t) ∙ rw e (drop-append-add f (9 ∷ rest) 1))

-- a text of lines that begins as an entry's line does
record Headed (ls : List Line) (u : List ℕ) : Type 0 where
  known : Bool
  number : Signed
  fields : Fields
  label : List ℕ
  others : List Line
  rest : List ℕ
  first : ls ≡ entry known number fields label ∷ others
  small : number.size ≤ most_integer
  text : drop 2 u ≡ dec number.size ++ (9 ∷ (signed_dec fields.entity ++ (9 ∷ rest)))

two-spelt : (n : ℕ) (y : Signed) (xs : List Signed) → spells 13 (sized false n ∷ (y ∷ xs)) ≡ dec n ++ (9 ∷ (signed_dec y ++ (9 ∷ spells 11 xs)))
unfolding spells spell signed_dec
two-spelt n y xs = refl

small_number : {left : ℕ} {x : Signed} → Fits left x → x.size ≤ most_integer
small_number (eight n h) = omega arith
small_number (plain d p) = p.small

parted : (p q r label more : List ℕ) → ((p ++ (9 ∷ (q ++ (9 ∷ r)))) ++ label) ++ more ≡ p ++ (9 ∷ (q ++ (9 ∷ (r ++ (label ++ more)))))
parted p q r label more = simp append_assoc

headed : {ls : List Line} → AllWell ls → eqb (get_or (text_of ls) 0 0) 69 || eqb (get_or (text_of ls) 0 0) 85 ≡ true → Headed ls (text_of ls)
unfolding text_of line_of entry_line
headed no_lines h = absurd (never h)
headed (a-line (w_start s) a) h = absurd (never h)
headed (a-line (w_global f) a) h = absurd (never h)
headed (a-line {is = is} (w_entry {known} {n} {e} {label} z (cons f fs) l) a) h = record {
  known = known;
  number = n;
  fields = e;
  label = label;
  others = is;
  rest = spells 11 (drop 1 (in_order e)) ++ (label ++ (10 ∷ text_of is));
  first = refl;
  small = small_number f;
  text = ap (λ (l : List ℕ). (l ++ label) ++ (10 ∷ text_of is)) (two-spelt n.size e.entity (drop 1 (in_order e)))
      ∙ parted (dec n.size) (signed_dec e.entity) (spells 11 (drop 1 (in_order e))) label (10 ∷ text_of is);
}
headed (a-line (w_value {reference = true} p) a) h = absurd (never h)
headed (a-line (w_value {reference = false} p) a) h = absurd (never h)
headed (a-line (w_last q) a) h = absurd (never h)

-- the line at `at`, behind an LF, of which the first two numbers were read
module _ (t : List ℕ) (at : ℕ) (e : EntryAt t at) where
  behind : suc (at - 1) ≡ at
  behind = omega (arith, e.some)

  lf : get_or t (at - 1) 0 ≡ 10
  unfolding begins_entry
  lf = eqb-true _ _ (both_right (eqb (get_or t at 0) 69 || eqb (get_or t at 0) 85) (eqb (get_or t (at - 1) 0) 10) e.begins)

  before : List Line
  before = (lines_cut t (at - 1) (omega (arith, e.some, e.two)) lf).0

  from-here : lines_in t ≡ before ++ lines_in (drop at t)
  unfolding before
  from-here = (lines_cut t (at - 1) (omega (arith, e.some, e.two)) lf).1 ∙ ap (λ (k : ℕ). before ++ lines_in (drop k t)) behind

  spelt-here : AllWell (lines_in (drop at t)) × (text_of (lines_in (drop at t)) ≡ drop at t)
  unfolding verdict_of lines_in
  spelt-here =
      let p = go_past before (lines_in (drop at t)) begin e.entries (rw from-here at e.good) in
      text_back (drop at t) (all_said (lines_in (drop at t)) p.0 e.entries p.1)

  heads : Headed (lines_in (drop at t)) (drop at t)
  unfolding begins_entry
  heads =
      let z : at + 0 ≡ at = omega arith in
      let b : get_or (drop at t) 0 0 ≡ get_or t at 0 = rw z at (get_or-drop at t 0 0) in
      rw spelt-here.1 at (headed spelt-here.0 (rw (spelt-here.1, b) (both_left (eqb (get_or t at 0) 69 || eqb (get_or t at 0) 85) (eqb (get_or t (at - 1) 0) 10) e.begins)))

  -- the type, if it was read as a plain number
  typed : (r : ℕ) → r ≡ plain_class (plain_fold (signed_dec heads.fields.entity)) → (r ≡ 0 → ⊥) → r ≡ class_of heads.fields.entity.size
  unfolding plain_class
  typed r er h = elim (dec_lt most_integer y) [
    | yes g ↦ absurd (h (er ∙ rw (lt-leb y most_integer g)))
    | no g ↦ er ∙ rw (le-leb y most_integer (omega arith)) (ap class_of (plain-signed heads.fields.entity.neg heads.fields.entity.size (omega arith)))
  ]
    where
      y : ℕ
      y = plain_fold (signed_dec heads.fields.entity)

  pub class_shown : (tab m r : ℕ) → tab ≡ at + 2 + run 9 (columns t (at + 2) (length t)) → m ≡ plain_fold (columns t (at + 2) tab) → r ≡ plain_class (plain_at t (tab + 1)) → (r ≡ 0 → ⊥)
      → r ≡ class_at (sheet_types t) m
  unfolding plain_at
  class_shown tab m r et em er h =
      let first : List ℕ = dec heads.number.size in
      let next : List ℕ = signed_dec heads.fields.entity in
      let tabless : No 9 first = no_dec 9 (omega arith) heads.number.size in
      let s : drop (at + 2) t ≡ first ++ (9 ∷ (next ++ (9 ∷ heads.rest))) = sym (drop-drop 2 at t) ∙ heads.text in
      let d : drop (tab + 1) t ≡ next ++ (9 ∷ heads.rest) = rest_there t (at + 2) first _ tabless s tab et in
      let n : m ≡ heads.number.size = em ∙ ap plain_fold (text_there t (at + 2) first _ tabless s tab et) ∙ plain-dec heads.number.size heads.small in
      let y : plain_at t (tab + 1) ≡ plain_fold next = ap plain_fold (text_there t (tab + 1) next heads.rest (no_plain 9 (omega arith) next (print_signed heads.fields.entity)) d _ refl) in
      let c = class_there heads.known heads.number heads.fields heads.label heads.others t e.entries before e.good (from-here ∙ ap (λ (ls : List Line). before ++ ls) heads.first) in
      typed r (er ∙ ap plain_class y) h ∙ c ∙ ap (class_at (sheet_types t)) (sym n)
