-- The Global fields that are no default, one line after the other. Assumes nothing.
use mathlib.Core.Path.{◌≡◌, refl, sym, ap, ◌∙◌}
use mathlib.Core.Bool.{Bool, true, false, cond}
use mathlib.Core.List.{List, [], ◌∷◌, ◌++◌, append_assoc}
use Prim.Native.Nat.{ℕ, suc, ◌+◌, ◌-◌, ◌*◌, ◌^◌, ◌≤◌, ◌<◌}
use native.Mathlib.Numerals.{add-one}
use native.Mathlib.Omega.{arith}
use lib.ListN.{length}
use lib.Seq.{take_all}
use Rattle.columns.specs.Laid.{Wrote, Owes}
use Rattle.columns.proofs.Writes.{owes_all, owes_less, owes_none, owes_same, wrote_none, wrote_length}
use Rattle.values.specs.declared.Value.{Value}
use Rattle.values.specs.Value.{Item, item_of, is_default, is_missing}
use Rattle.records.specs.declared.Check.{Check}
use Rattle.records.specs.declared.Misspelt.{Misspelt}
use Rattle.std.specs.Prelude.{Result, Ok, Err}
use Rattle.records.specs.Record.{Values, values, wrong, value_at, values_at, behind}
use Rattle.records.specs.Reading.{Stands, checked, SaneCheck}
use Rattle.records.specs.Items.{got_item, items_from}
use Rattle.records.specs.Global.{first_field}
use Rattle.records.proofs.Texts.{small}
use Rattle.records.proofs.Items.{items_are}
use Rattle.sheets.specs.Sheet.{Line, global, line_of, global_lines, text_of as sheet_bytes}
use Rattle.values.proofs.OneSpelling.{missing}
use Rattle.model.specs.Read.{given}
use Rattle.read_entities.specs.declared.Taken.{Taken}
use Rattle.read_entities.specs.Taking.{taken_of}
use Rattle.read_entities.proofs.Feeding.{taken_item, taken_next}
use Rattle.read_entities.proofs.Passes.{Accepted, done_values}
use Rattle.print.specs.Bytes.{values_in, given_bytes, global_bytes}

pub global_lines_lem : (gs : List (ℕ × Item)) (rest : List Line) → sheet_bytes (global_lines gs rest) ≡ global_bytes gs ++ sheet_bytes rest
unfolding sheet_bytes global_lines global_bytes
global_lines_lem [] rest = refl
global_lines_lem (g ∷ gs) rest =
    ap (λ (l : List ℕ). line_of (global g.0 g.1) ++ (10 ∷ l)) (global_lines_lem gs rest)
    ∙ sym (append_assoc (line_of (global g.0 g.1)) (10 ∷ []) (global_bytes gs ++ sheet_bytes rest))
    ∙ sym (append_assoc (line_of (global g.0 g.1) ++ (10 ∷ [])) (global_bytes gs) (sheet_bytes rest))

-- ---- one field

module _ (n : ℕ) (t : List ℕ) (v : Value) {b : Bool} (e : b ≡ is_missing v) where
  pub given-none : {o : List ℕ} {at : ℕ} → b ≡ true → Wrote o at (given_bytes n (item_of t v)) o at
  unfolding given_bytes
  given-none h = rw (missing t v, ← e, h) wrote_none

  pub given_some : {o o' : List ℕ} {at r : ℕ} → b ≡ false → Wrote o at (line_of (global n (item_of t v)) ++ (10 ∷ [])) o' r → Wrote o at (given_bytes n (item_of t v)) o' r
  unfolding given_bytes
  given_some h p = rw (missing t v, ← e, h) p

pub ruleset given-lines = (given-none, given_some)

-- ---- how many there are

none_in : (vals : Values) (x : Misspelt) → checked vals ≡ Err x → [] ≡ values_in vals
none_in (values vs end) x h = let z : ◌≡◌ {A = ℕ} 0 1 = cc in absurd (omega arith)
none_in (wrong g a b) x h = refl

module _ (w c d : ℕ) (t : List ℕ) (from : ℕ) {k : Result Check Misspelt} (ek : k ≡ checked (values_at w c d t from)) where
  pub count_none : {x : Misspelt} → k ≡ Err x → items_from w c d t from 0 ≡ values_in (values_at w c d t from)
  unfolding items_from
  count_none {x} e = none_in (values_at w c d t from) x (sym ek ∙ e)

  pub count_all : {x : Check} → k ≡ Ok x → items_from w c d t from x.count ≡ values_in (values_at w c d t from)
  count_all {x} e =
      let a : Accepted (values_at w c d t from) x.count x.kept x.end = done_values (values_at w c d t from) x (sym ek ∙ e) in
      let q : x.count ≡ length a.vs = a.count in
      sym (items_are w c d t from a.vs x.end x.count a.is (omega arith)) ∙ take_all x.count a.vs (omega arith) ∙ ap values_in (sym a.is)

pub count_few : (p m : ℕ) {k : Result Check Misspelt} {x : Check} → SaneCheck p m k → k ≡ Ok x → x.count ≤ m
count_few p m {k} {x} sane e =
    let s : SaneCheck p m (Ok x) = rw e at sane in
    omega arith

pub ruleset counting = (count_none, count_all, count_few)

-- ---- all fields

given-more : (n : ℕ) (v : Item) (vs : List Item) → global_bytes (given n (v ∷ vs)) ≡ given_bytes n v ++ global_bytes (given (n + 1) vs)
unfolding global_bytes given given_bytes
given-more n v vs = rw add-one (by (is_default v))
  where
    by : (b : Bool) → global_bytes (cond b (given (suc n) vs) ((n, v) ∷ given (suc n) vs)) ≡ cond b [] (line_of (global n v) ++ (10 ∷ [])) ++ global_bytes (given (suc n) vs)
    by true = refl
    by false = refl

pub globals_all : (o : List ℕ) (at w c d : ℕ) (t : List ℕ) (from count left : ℕ) → left ≡ count → items_from w c d t from count ≡ values_in (values_at w c d t from)
    → Owes o at (global_bytes (given first_field (values_in (values_at w c d t from)))) o at (global_bytes (given 3 (items_from w c d t from left)))
globals_all o at w c d t from count left el e = rw el (owes_same (owes_all o at (global_bytes (given first_field (values_in (values_at w c d t from))))) (ap (λ (l : List Item). global_bytes (given 3 l)) (sym e)))

module _ (w c d : ℕ) (t : List ℕ) {o bs o₁ : List ℕ} {at r₁ : ℕ} (n e q : ℕ) (p : Owes o at bs o₁ r₁ (global_bytes (given n (items_from w c d t q (e - n))))) where
  pub globals-more : {o₂ : List ℕ} {r₂ : ℕ} {x : Taken} → x ≡ taken_of (value_at w c d t q) → n < e → Wrote o₁ r₁ (given_bytes n (item_of t x.value)) o₂ r₂
      → Owes o at bs o₂ r₂ (global_bytes (given (n + 1) (items_from w c d t x.next (e - (n + 1)))))
  unfolding items_from
  globals-more {x = x} ex h y =
      let ei : item_of t x.value ≡ got_item t (value_at w c d t q) = ap (λ (y : Taken). item_of t y.value) ex ∙ taken_item t (value_at w c d t q) in
      let en : x.next ≡ behind (value_at w c d t q) = ap (λ (y : Taken). y.next) ex ∙ taken_next (value_at w c d t q) in
      let more : ℕ = e - (n + 1) in
      let ek : e - n ≡ suc more = omega arith in
      let el : items_from w c d t q (e - n) ≡ item_of t x.value ∷ items_from w c d t x.next more
      = ap (items_from w c d t q) ek ∙ ap (λ (i : Item). i ∷ items_from w c d t (behind (value_at w c d t q)) more) (sym ei)
      ∙ ap (λ (j : ℕ). item_of t x.value ∷ items_from w c d t j more) (sym en) in
      owes_less (owes_same p (ap (λ (l : List Item). global_bytes (given n l)) el ∙ given-more n (item_of t x.value) (items_from w c d t x.next more))) y

  pub globals-end : e ≤ n → Wrote o at bs o₁ r₁
  unfolding items_from given global_bytes
  globals-end h =
      let z : e - n ≡ 0 = omega arith in
      owes_none (rw z at p)

module _ (file : List ℕ) (base lines : ℕ) (st : Stands file base 72 lines) where
  pub globals-room : (at left r : ℕ) → r + 1100 * left ≤ at + 79200 * lines → at < 2 ^ 58 → r < 2 ^ 59
  globals-room at left r h k = omega (arith, small file base 72 lines st)

  pub globals-few : (count : ℕ) → count ≤ lines * 72 → count < 2 ^ 32
  globals-few count h = omega (arith, small file base 72 lines st)

  pub globals-number : (count : ℕ) → count ≤ lines * 72 → 3 + count < 2 ^ 32
  globals-number count h = omega (arith, small file base 72 lines st)

pub ruleset globals = (globals_all, globals-more, globals-end, globals-room, globals-few, globals-number, wrote_length)
