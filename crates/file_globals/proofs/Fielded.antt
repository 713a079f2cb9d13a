-- The G lines of a sheet from a place on, one by one, and their fields into a record. Assumes nothing.
use mathlib.Core.Path.{◌≡◌, refl, sym, ap, ◌∙◌}
use mathlib.Core.Bool.{Bool, false}
use mathlib.Core.List.{List, [], ◌∷◌, ◌++◌, append_assoc, append-nil}
use Prim.Native.Nat.{ℕ, zero, suc, ◌+◌, ◌-◌, ◌%◌, ◌^◌, ◌≤◌, ◌<◌}
use native.Mathlib.Nat.{add-zero, mod-lt}
use native.Mathlib.Numerals.{add-one}
use native.Mathlib.Omega.{arith}
use lib.ListN.{length, take, drop, replicate, length-take, length-drop, length-append}
use borrow.Author.Tests.{le-leb}
use Rattle.std.proofs.Common.{Option, Some, None}
use Rattle.columns.specs.declared.Signed.{Signed}
use Rattle.columns.specs.Columns.{columns}
use Rattle.values.specs.declared.Value.{Value}
use Rattle.values.specs.Value.{Item, default, item_of, spelled}
use Rattle.records.specs.Flow.{firm, gap, piece}
use Rattle.records.specs.Reading.{Writable}
use Rattle.records.specs.Written.{Put}
use Rattle.records.proofs.Puts.{then, Owed, owed_all, owed_less, owed_none, put-length}
use Rattle.directory.specs.declared.Fields.{Fields}
use Rattle.sheets.specs.declared.Said.{Said}
use Rattle.sheets.specs.declared.Said.TheVariants.{Start, Global, Entry, Value as Given, Last, Nothing}
use Rattle.sheets.specs.Line.{run}
use Rattle.sheets.specs.Sheet.{Line, start, global, last, none, line_from, says_of, last_piece, lines_in}
use Rattle.sheets.specs.Reading.{Within}
use Rattle.sheets.proofs.Walk.{line_says, lines_first}
use Rattle.model.specs.Canonical.{filled}
use Rattle.file_blocks.specs.declared.GlobalLine.{GlobalLine}
use Rattle.sheets_rows.proofs.Rows.{behind-none, piece_gives_none}
use Rattle.file_blocks.specs.Blocks.{global_given, globals_first, behind_globals}
use Rattle.file_blocks.specs.Writing.{parted, FieldStands, FieldsEnd, FieldAt}
use Rattle.file_blocks.proofs.Ended.{put_same}
use Rattle.file_blocks.proofs.Said.{global_writable, line-part, lines_whole}

-- ---- a line

-- the fields end
ends_at : (t : List ℕ) (at : ℕ) {ls : List Line} → lines_in (drop at t) ≡ ls → globals_first ls ≡ [] → FieldsEnd t at
unfolding globals_first behind_globals
ends_at t at e h =
    let f : globals_first (lines_in (drop at t)) ≡ [] = ap globals_first e ∙ h in
    record { fields = f; behind = behind-none global_given (lines_in (drop at t)) f }

piece_ends : (t : List ℕ) → globals_first (last_piece t) ≡ []
unfolding globals_first
piece_ends t = piece_gives_none global_given (λ b. refl) t

module _ (t : List ℕ) (at end : ℕ) (run_is : end ≡ at + run 10 (drop at t)) where
  pub field-none : end ≡ length t → FieldsEnd t at
  field-none h = ends_at t at (lines_whole t at end run_is h) (piece_ends (drop at t))

  module _ (lo : at ≤ end) (hi : end ≤ length t) (h : end ≡ length t → ⊥) (x : Said) (e : x ≡ says_of (columns t at end)) where
    lines_are : (i : Line) → line_from (columns t at end) x ≡ i → lines_in (drop at t) ≡ i ∷ lines_in (drop (end + 1) t)
    lines_are i q =
        let k : end < length t = omega arith in
        lines_first t at end lo k run_is ∙ ap (λ (j : Line). j ∷ lines_in (drop (end + 1) t)) (line_says (columns t at end) x e ∙ q)

    pub field-here : {n k : ℕ} {v : Value} → Within (end - at) x → x ≡ Global n k v → FieldStands t at n (at + k) end v
    unfolding globals_first behind_globals
    field-here {n} {k} {v} w q =
        let i : Within (end - at) (Global n k v) = rw q at w in
        let ls : lines_in (drop at t) ≡ global n (item_of (take (end - (at + k)) (drop (at + k) t)) v) ∷ lines_in (drop (end + 1) t)
        = lines_are (global n (item_of (take (end - (at + k)) (drop (at + k) t)) v))
        (ap (line_from (columns t at end)) q ∙ ap (λ (l : List ℕ). global n (item_of l v)) (line-part t at k end)) in
        record {
          low = omega arith;
          inside = omega arith;
          high = omega arith;
          field = i.1;
          writable = global_writable t at end lo hi x e q;
          fields = ap globals_first ls;
          behind = ap behind_globals ls;
        }

    pub start-here : x ≡ Start → FieldsEnd t at
    unfolding globals_first
    start-here q = ends_at t at (lines_are (start (drop 2 (columns t at end))) (ap (line_from (columns t at end)) q)) refl

    pub value-here : {reference : Bool} {v : Value} → x ≡ Given reference v → FieldsEnd t at
    unfolding globals_first
    value-here {reference} {v} q = ends_at t at (lines_are (line_from (columns t at end) (Given reference v)) (ap (line_from (columns t at end)) q)) refl

    pub entry_here : {known : Bool} {n : Signed} {f : Fields} → x ≡ Entry known n f → FieldsEnd t at
    unfolding globals_first
    entry_here {known} {n} {f} q = ends_at t at (lines_are (line_from (columns t at end) (Entry known n f)) (ap (line_from (columns t at end)) q)) refl

    pub last_here : {n : ℕ} → x ≡ Last n → FieldsEnd t at
    unfolding globals_first
    last_here {n} q = ends_at t at (lines_are (last n) (ap (line_from (columns t at end)) q)) refl

    pub nothing_here : {b : Bool} → x ≡ Nothing b → FieldsEnd t at
    unfolding globals_first
    nothing_here {b} q = ends_at t at (lines_are (none b) (ap (line_from (columns t at end)) q)) refl

pub field_fits_lem : (t : List ℕ) (at end : ℕ) (x : Said) {n k : ℕ} {v : Value} → Within (end - at) x → x ≡ Global n k v → at ≤ end → end ≤ length t → length t < 2 ^ 64 → at + k < 2 ^ 64
field_fits_lem t at end x {n} {k} {v} w q l h m =
    let i : Within (end - at) (Global n k v) = rw q at w in
    omega arith

pub ruleset fielded = (field-none, field-here, start-here, value-here, entry_here, last_here, nothing_here, field_fits_lem)

-- ---- fields that are not given

-- a default is its delimiter
default_piece : (w p : ℕ) → 1 ≤ w → piece w p default false ≡ 44 ∷ []
unfolding piece gap firm spelled
default_piece w p h = simp (le-leb (p % w + 1) w (omega (arith, mod-lt p h)))

defaults : (w : ℕ) → 1 ≤ w → (j p : ℕ) (vs : List Item) → parted w p (replicate j default ++ vs) ≡ replicate j 44 ++ parted w (p + j) vs
unfolding parted
defaults w h zero p vs = rw add-zero
defaults w h (suc j) p vs =
    let e : p + 1 + j ≡ p + suc j = omega arith in
    rw (default_piece w p h, ← e) (ap (λ (l : List ℕ). 44 ∷ l) (defaults w h j (p + 1) vs))

-- the delimiters of those before it, and the field
pub one_field : {base p a r : ℕ} {o oa o1 : List ℕ} (n number j : ℕ) (v : Item) → j ≡ number - n → Put base 72 o p (replicate j 44) oa a → a ≡ p + j → Put base 72 oa a (piece 72 a v false) o1 r
    → Put base 72 o p (parted 72 p (filled n ((number, v) ∷ []))) o1 r
unfolding filled parted
one_field {p = p} {a = a} n number j v ej y ea z =
    let one : 1 ≤ 72 = omega arith in
    let e : parted 72 (p + j) (v ∷ []) ≡ piece 72 a v false = append-nil (piece 72 (p + j) v false) ∙ ap (λ (k : ℕ). piece 72 k v false) (sym ea) in
    put_same (then y z) (ap (λ (l : List ℕ). replicate j 44 ++ l) (sym e) ∙ sym (defaults 72 one j p (v ∷ [])) ∙ ap (λ (k : ℕ). parted 72 p (replicate k default ++ (v ∷ []))) ej)

parted-append : (w p : ℕ) (xs ys : List Item) → parted w p (xs ++ ys) ≡ parted w p xs ++ parted w (p + length (parted w p xs)) ys
unfolding parted
parted-append w p [] ys = rw add-zero
parted-append w p (v ∷ xs) ys =
    let z = piece w p v false in
    let q = p + length z in
    let e : q + length (parted w q xs) ≡ p + length (z ++ parted w q xs) = omega (arith, length-append z (parted w q xs)) in
    ap (λ (l : List ℕ). z ++ l) (parted-append w q xs ys) ∙ sym (append_assoc z (parted w q xs) (parted w (q + length (parted w q xs)) ys)) ∙ ap (λ (k : ℕ). (z ++ parted w q xs) ++ parted w k ys) e

-- the first field, and the others
first_field_lem : (w p n : ℕ) (g : ℕ × Item) (gs : List (ℕ × Item))
    → parted w p (filled n (g ∷ gs)) ≡ parted w p (filled n (g ∷ [])) ++ parted w (p + length (parted w p (filled n (g ∷ [])))) (filled (suc g.0) gs)
unfolding filled
first_field_lem w p n g gs =
    let ds : List Item = replicate (g.0 - n) default in
    ap (parted w p) (sym (append_assoc ds (g.1 ∷ []) (filled (suc g.0) gs))) ∙ parted-append w p (ds ++ (g.1 ∷ [])) (filled (suc g.0) gs)

-- there is room for the delimiters and for the field
pub run_room : (p number n j : ℕ) → p ≤ 2 ^ 39 → number ≤ 24 → j ≡ number - n → p + j ≤ 2 ^ 41
run_room p number n j h k e = omega arith

pub piece-room : (p a number n j : ℕ) → p ≤ 2 ^ 39 → number ≤ 24 → j ≡ number - n → a ≡ p + j → a ≤ 2 ^ 40
piece-room p a number n j h k e q = omega arith

pub ruleset one = (one_field, run_room, piece-room, put-length)

-- ---- all of them

module _ (t : List ℕ) (at : ℕ) {x : Option GlobalLine} (h : FieldAt t at x) {l : GlobalLine} (q : x ≡ Some l) where
  stands : FieldStands t at l.number l.from l.end l.value
  stands = rw q at h

  pub field_low : l.from ≤ l.end
  field_low = stands.inside

  pub field_high : l.end ≤ length t
  field_high = omega (arith, stands.high)

  pub field_next : l.end + 1 ≤ length t
  field_next = omega (arith, stands.high)

  pub field-on : (a : ℕ) → a ≤ at → a ≤ l.end + 1
  field-on a k = omega (arith, stands.low, stands.inside)

  pub field-sum : length t < 2 ^ 64 → l.end + 1 < 2 ^ 64
  field-sum k = omega (arith, stands.high)

  pub field_less : length t - (l.end + 1) < length t - at
  field_less = omega (arith, stands.low, stands.inside, stands.high)

  pub field_few : l.number ≤ 24
  field_few = stands.field

  pub field-behind : (ls : List Line) → behind_globals (lines_in (drop at t)) ≡ ls → behind_globals (lines_in (drop (l.end + 1) t)) ≡ ls
  field-behind ls e = sym stands.behind ∙ e

  pub field-written : Writable (length (take (l.end - l.from) (drop l.from t))) l.value
  field-written = rw (part t l.from l.end stands.inside (omega (arith, stands.high))) stands.writable
    where
      part : (t : List ℕ) (from end : ℕ) → from ≤ end → end ≤ length t → length (take (end - from) (drop from t)) ≡ end - from
      part t from end a b = simp (length-take, length-drop) (omega arith)

  pub field-more : {base p r r' : ℕ} {o bs o1 o2 : List ℕ} (n : ℕ) → Owed base 72 o p bs o1 r (parted 72 r (filled n (globals_first (lines_in (drop at t)))))
      → Put base 72 o1 r (parted 72 r (filled n ((l.number, item_of (take (l.end - l.from) (drop l.from t)) l.value) ∷ []))) o2 r'
      → Owed base 72 o p bs o2 r' (parted 72 r' (filled (l.number + 1) (globals_first (lines_in (drop (l.end + 1) t)))))
  field-more {r = r} n a y =
      let gs = globals_first (lines_in (drop (l.end + 1) t)) in
      let g : ℕ × Item = (l.number, item_of (take (l.end - l.from) (drop l.from t)) l.value) in
      rw (y.next, add-one l.number) (owed_less (rw (stands.fields, first_field_lem 72 r n g gs) at a) (rw y.next at y))

module _ (t : List ℕ) (at : ℕ) {x : Option GlobalLine} (h : FieldAt t at x) (q : x ≡ None) where
  done : FieldsEnd t at
  done = rw q at h

  pub fields_behind : (ls : List Line) → behind_globals (lines_in (drop at t)) ≡ ls → lines_in (drop at t) ≡ ls
  fields_behind ls e = sym done.behind ∙ e

  pub fields_all : {base w p r : ℕ} {o bs o1 : List ℕ} (n : ℕ) → Owed base w o p bs o1 r (parted w r (filled n (globals_first (lines_in (drop at t))))) → Put base w o p bs o1 r
  unfolding parted filled
  fields_all n a = owed_none (rw done.fields at a)

pub fields_room : {base w p r : ℕ} {o bs o1 cs : List ℕ} → Owed base w o p bs o1 r cs → p + length bs ≤ 2 ^ 39 → r ≤ 2 ^ 39
fields_room a h = omega (arith, a.next)

pub ruleset looping = (owed_all, field_low, field_high, field_next, field-on, field-sum, field_less, field_few, field-behind, field-written, field-more, fields_behind, fields_all, fields_room, put-length)
