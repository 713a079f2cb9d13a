-- An entity's values, one line after the other. Assumes nothing.
use mathlib.Core.Path.{◌≡◌, refl, sym, ap, ap₂, ◌∙◌}
use mathlib.Core.Bool.{Bool, true, false}
use mathlib.Core.List.{List, [], ◌∷◌, ◌++◌, append_assoc}
use Prim.Native.Nat.{ℕ, zero, suc, ◌+◌, ◌-◌, ◌*◌, ◌^◌, ◌≤◌, ◌<◌}
use native.Mathlib.Nat.{sub-zero}
use native.Mathlib.Numerals.{add-one}
use native.Mathlib.Omega.{arith}
use lib.ListN.{length, drop, replicate}
use borrow.Author.Tests.{not-true, not-false}
use Rattle.columns.specs.Columns.{text_of}
use Rattle.columns.specs.Laid.{Wrote, Owes}
use Rattle.columns.proofs.Writes.{owes_all, owes_less, owes_none, owes_same, wrote_length}
use Rattle.values.specs.declared.Value.{Value}
use Rattle.values.specs.declared.Value.TheVariants.{Default}
use Rattle.values.specs.Value.{Item, default, item_of, is_default, is_missing}
use Rattle.std.specs.Prelude.{Ok, Err}
use Rattle.records.specs.declared.Found.{Found}
use Rattle.records.specs.declared.Misspelt.{Misspelt}
use Rattle.records.specs.Record.{Got, found_at, values, value_at, values_at, trim, trimmed}
use Rattle.records.specs.Reading.{Stands}
use Rattle.records.proofs.Texts.{length-text, small}
use Rattle.records.proofs.Items.{trimmed_first}
use Rattle.records.proofs.Steps.{last_is, more-is, none-wrong}
use Rattle.directory.specs.Naming.{types_at}
use Rattle.layouts.specs.declared.LayoutState.{LayoutState}
use Rattle.std.specs.Prelude.{Option, Some}
use Rattle.layouts.specs.Walk.{stepped, feed, run, mark, marks_from}
use Rattle.layouts.specs.Named.{named}
use Rattle.layouts.specs.Machine.{refers, kind_at, stand, runs_on}
use Rattle.layouts.proofs.Steps.{step_runs}
use Rattle.layouts.proofs.Runs.{feed-stepped}
use Rattle.model.specs.Model.{marked}
use Rattle.sheets.specs.Sheet.{Line, value, line_of, value_lines, text_of as sheet_bytes}
use Rattle.values.proofs.OneSpelling.{missing, default_only}
use Rattle.read_entities.specs.Marks.{carried_in, marks_begun, marked_from}
use Rattle.read_entities.specs.Walking.{owing}
use Rattle.print.specs.declared.Met.{Met}
use Rattle.print.specs.Bytes.{value_bytes}
use Rattle.print.specs.Taking.{Unrefused, met_of, GivenPut}

-- the bytes of value lines stand before those of the lines behind them
pub value-lines : (vs : List (Bool × Item)) (rest : List Line) → sheet_bytes (value_lines vs rest) ≡ value_bytes vs ++ sheet_bytes rest
unfolding sheet_bytes value_lines value_bytes
value-lines [] rest = refl
value-lines (v ∷ vs) rest =
    ap (λ (l : List ℕ). line_of (value v.0 v.1) ++ (10 ∷ l)) (value-lines vs rest)
    ∙ sym (append_assoc (line_of (value v.0 v.1)) (10 ∷ []) (value_bytes vs ++ sheet_bytes rest))
    ∙ sym (append_assoc (line_of (value v.0 v.1) ++ (10 ∷ [])) (value_bytes vs) (sheet_bytes rest))

-- ---- the lines of the defaults owed before a value, and its own

module _ (types : List ℕ) where
  -- one value more
  line-more : (g : Option LayoutState) (v : Item) (vs : List Item)
      → value_bytes (marked_from types g (v ∷ vs)) ≡ (line_of (value (mark g) v) ++ (10 ∷ [])) ++ value_bytes (marked_from types (feed types g v) vs)
  unfolding value_bytes marked_from marks_from marked
  line-more g v vs = refl

  line-none : (g : Option LayoutState) → value_bytes (marked_from types g []) ≡ []
  unfolding value_bytes marked_from marks_from marked
  line-none g = refl

  -- some values, and others behind them
  lines-append : (g : Option LayoutState) (us vs : List Item)
      → value_bytes (marked_from types g (us ++ vs)) ≡ value_bytes (marked_from types g us) ++ value_bytes (marked_from types (run types g us) vs)
  unfolding run
  lines-append g [] vs = sym (ap (λ (l : List ℕ). l ++ value_bytes (marked_from types g vs)) (line-none g))
  lines-append g (u ∷ us) vs =
      let l : List ℕ = line_of (value (mark g) u) ++ (10 ∷ []) in
      let h : Option LayoutState = feed types g u in
      line-more g u (us ++ vs) ∙ ap (λ (x : List ℕ). l ++ x) (lines-append h us vs)
      ∙ sym (append_assoc l (value_bytes (marked_from types h us)) (value_bytes (marked_from types (run types h us) vs)))
      ∙ sym (ap (λ (x : List ℕ). x ++ value_bytes (marked_from types (run types h us) vs)) (line-more g u us))

  owed_first : (i n : ℕ) (v : Item) → i < n → owing (n - i) (v ∷ []) ≡ default ∷ owing (n - (i + 1)) (v ∷ [])
  owed_first i n v h = let e : n - i ≡ suc (n - (i + 1)) = omega arith in rw e

  owed_none : (i n : ℕ) (v : Item) → n ≤ i → owing (n - i) (v ∷ []) ≡ v ∷ []
  owed_none i n v h = let e : n - i ≡ 0 = omega arith in rw e

  module _ {o bs o₁ : List ℕ} {at r₁ : ℕ} (t : List ℕ) (v : Value) (s : Option LayoutState) (i n : ℕ) (p : Owes o at bs o₁ r₁ (value_bytes (marked_from types s (owing (n - i) (item_of t v ∷ []))))) where
    pub owed_more : {o₂ : List ℕ} {r₂ : ℕ} {b : Bool} {u : Option LayoutState} → i < n → b ≡ mark s → u ≡ stepped types s Default
        → Wrote o₁ r₁ (line_of (value b (item_of t Default)) ++ (10 ∷ [])) o₂ r₂ → Owes o at bs o₂ r₂ (value_bytes (marked_from types u (owing (n - (i + 1)) (item_of t v ∷ []))))
    owed_more {b = b} {u = u} h eb eu w =
        let vs : List Item = owing (n - (i + 1)) (item_of t v ∷ []) in
        let eg : feed types s default ≡ u = feed-stepped types t s Default ∙ sym eu in
        let e : value_bytes (marked_from types s (owing (n - i) (item_of t v ∷ []))) ≡ (line_of (value b default) ++ (10 ∷ [])) ++ value_bytes (marked_from types u vs)
        = ap (λ (l : List Item). value_bytes (marked_from types s l)) (owed_first i n (item_of t v) h) ∙ line-more s default vs
        ∙ ap (λ (m : Bool). (line_of (value m default) ++ (10 ∷ [])) ++ value_bytes (marked_from types (feed types s default) vs)) (sym eb)
        ∙ ap (λ (g : Option LayoutState). (line_of (value b default) ++ (10 ∷ [])) ++ value_bytes (marked_from types g vs)) eg in
        owes_less (owes_same p e) w

    pub owed_last : {o₂ : List ℕ} {r₂ : ℕ} {b : Bool} → n ≤ i → b ≡ mark s → Wrote o₁ r₁ (line_of (value b (item_of t v)) ++ (10 ∷ [])) o₂ r₂ → Wrote o at bs o₂ r₂
    owed_last {b = b} h eb w =
        let x : Item = item_of t v in
        let e : value_bytes (marked_from types s (owing (n - i) (x ∷ []))) ≡ (line_of (value b x) ++ (10 ∷ [])) ++ []
        = ap (λ (l : List Item). value_bytes (marked_from types s l)) (owed_none i n x h) ∙ line-more s x []
        ∙ ap (λ (m : Bool). (line_of (value m x) ++ (10 ∷ [])) ++ value_bytes (marked_from types (feed types s x) [])) (sym eb)
        ∙ ap (λ (l : List ℕ). (line_of (value b x) ++ (10 ∷ [])) ++ l) (line-none (feed types s x)) in
        owes_none (owes_less (owes_same p e) w)

  module _ (t : List ℕ) (v : Value) (s z : Option LayoutState) (i n : ℕ) (p : run types s (owing (n - i) (item_of t v ∷ [])) ≡ z) where
    pub owed_steps : {u : Option LayoutState} → i < n → u ≡ stepped types s Default → run types u (owing (n - (i + 1)) (item_of t v ∷ [])) ≡ z
    unfolding run
    owed_steps {u} h eu =
        let vs : List Item = owing (n - (i + 1)) (item_of t v ∷ []) in
        ap (λ (g : Option LayoutState). run types g vs) (eu ∙ sym (feed-stepped types t s Default)) ∙ sym (ap (run types s) (owed_first i n (item_of t v) h)) ∙ p

    pub owed_stepped : {u : Option LayoutState} → n ≤ i → u ≡ stepped types s v → u ≡ z
    unfolding run
    owed_stepped {u} h eu = eu ∙ sym (feed-stepped types t s v) ∙ sym (ap (run types s) (owed_none i n (item_of t v) h)) ∙ p

pub ruleset owed = (owes_all, owed_more, owed_last, owed_steps, owed_stepped, wrote_length, sub-zero)

-- where more of its kind follow and none is owed: its mark is that of the place, and one of it is left less
pub given_runs : (f : List ℕ) (base lines first n owed : ℕ) (v : Value) {g : Option LayoutState} {s u : LayoutState} → owed ≡ 0 → g ≡ Some s → {y : Bool} → y ≡ runs_on s v → y ≡ true
    → u ≡ stand s s.at (s.left - 1) → {m : Bool} → m ≡ refers (kind_at s) → {o o' : List ℕ} {at r : ℕ}
    → Wrote o at (line_of (value m (item_of (text_of f base 64 lines) v)) ++ (10 ∷ [])) o' r → r ≤ at + 1100 → GivenPut f base lines first n g owed v o at o' (record { next = r; marks = Some u })
given_runs f base lines first n owed v {g} {s} {u} z e {y} ey yt eu {m} em {o} {o'} {at} {r} w near =
    let types : List ℕ = types_at f first n in
    let t : List ℕ = text_of f base 64 lines in
    let low : owed ≤ 0 = omega arith in
    let step : Some u ≡ stepped types g v = rw e (step_runs s u v (named types v) y ey yt eu) in
    let mk : m ≡ mark g = rw e em in
    record {
      laid = owed_last types t v g 0 owed (rw sub-zero (owes_all o at (value_bytes (marked_from types g (owing owed (item_of t v ∷ [])))))) low mk w;
      marks = owed_stepped types t v g (run types g (owing owed (item_of t v ∷ []))) 0 owed (rw sub-zero refl) low step;
      near = omega arith;
    }

-- ---- all values

-- what is left behind position q, if the record goes on there
pub data Left (c d : ℕ) (t : List ℕ) (q : ℕ) : Bool → List Item → Type 0 where
  none : Left c d t q true []
  some : (vs : List Item) (end : ℕ) → values_at 64 c d t q ≡ values vs end → Left c d t q false vs

-- so many defaults were met behind the last line; what is owed are the lines of the values that are kept of them and of what is left
pub record Owing (types t : List ℕ) (c d : ℕ) (o : List ℕ) (at : ℕ) (bs o' : List ℕ) (r : ℕ) (g : Option LayoutState) (owed q : ℕ) (last : Bool) : Type 0 where
  pub left : List Item
  pub is : Left c d t q last left
  pub owes : Owes o at bs o' r (value_bytes (marked_from types g (trimmed (replicate owed default ++ left))))

-- a value that is met is the first of those that stand there
record First (c d : ℕ) (t : List ℕ) (vs : List Item) (x : Met) : Type 0 where
  left : List Item
  is : Left c d t x.next x.last left
  whole : vs ≡ item_of t x.value ∷ left

-- defaults and nothing behind them: none is kept
none_kept : (n : ℕ) → trimmed (replicate n default ++ []) ≡ []
none_kept zero = refl
none_kept (suc n) = ap (trim default) (none_kept n)

-- defaults before a given value are kept
some_kept : (n : ℕ) (v : Item) (vs : List Item) → is_default v ≡ false → trimmed (replicate n default ++ (v ∷ vs)) ≡ owing n (v ∷ []) ++ trimmed vs
some_kept zero v vs h = trimmed_first v vs h
some_kept (suc n) v vs h = ap (trim default) (some_kept n v vs h) ∙ onto n
  where
    onto : (k : ℕ) → trim default (owing k (v ∷ []) ++ trimmed vs) ≡ default ∷ (owing k (v ∷ []) ++ trimmed vs)
    onto zero = refl
    onto (suc k) = refl

-- one default more
one_owed : (n : ℕ) (vs : List Item) → replicate n default ++ (default ∷ vs) ≡ replicate (suc n) default ++ vs
one_owed zero vs = refl
one_owed (suc n) vs = ap (λ (l : List Item). default ∷ l) (one_owed n vs)

left_some : {c d : ℕ} {t : List ℕ} {q : ℕ} {b : Bool} {vs : List Item} → Left c d t q b vs → b ≡ false → (end : ℕ) × (values_at 64 c d t q ≡ values vs end)
left_some none e = let z : ◌≡◌ {A = ℕ} 0 1 = cc in absurd (omega arith)
left_some (some vs end r) e = (end, r)

left_none : {c d : ℕ} {t : List ℕ} {q : ℕ} {b : Bool} {vs : List Item} → Left c d t q b vs → b ≡ true → vs ≡ []
left_none none e = refl
left_none (some vs end r) e = let z : ◌≡◌ {A = ℕ} 0 1 = cc in absurd (omega arith)

module _ (file : List ℕ) (base lines : ℕ) (st : Stands file base 64 lines) (c d : ℕ) (pc : 0 < c) (pd : 0 < d) where
  abbrev t : List ℕ
  t = text_of file base 64 lines

  first_met : (q : ℕ) → q ≤ lines * 64 → {x : Met} → x ≡ met_of (value_at 64 c d t q) → (vs : List Item) (end : ℕ) → values_at 64 c d t q ≡ values vs end → First c d t vs x
  first_met q h ex vs end r = rw ex (by (value_at 64 c d t q) refl)
    where
      inside : q ≤ length (text_of file base 64 lines)
      inside = omega (arith, length-text file base 64 lines st)

      by : (g : Got) → value_at 64 c d (text_of file base 64 lines) q ≡ g → First c d (text_of file base 64 lines) vs (met_of g)
      by (Ok g) e = at_end g.value g.start g.next g.last e
        where
          at_end : (v : Value) (s next : ℕ) (last : Bool) → value_at 64 c d (text_of file base 64 lines) q ≡ found_at v s next last → First c d (text_of file base 64 lines) vs (met_of (found_at v s next last))
          at_end v s next true e = record { left = []; is = none; whole = (last_is 64 c d (text_of file base 64 lines) pc pd q inside r e).0 }
          at_end v s next false e =
              let m = more-is 64 c d (text_of file base 64 lines) pc pd q inside r e in
              record { left = m.0; is = some m.0 end m.2; whole = m.1 }
      by (Err g) e = absurd (none-wrong 64 c d (text_of file base 64 lines) pc pd q inside r e)

  module _ (types : List ℕ) where
    -- behind the type all of it is owed
    pub values_all : (list typ form : ℕ) (o : List ℕ) (at : ℕ) {g : Option LayoutState} {x : Met} → g ≡ marks_begun list typ form → Unrefused (values_at 64 c d t 0) → x ≡ met_of (value_at 64 c d t 0)
        → Owing types t c d o at (value_bytes (marked_from types (marks_begun list typ form) (carried_in (values_at 64 c d t 0)))) o at g 0 x.next x.last
    values_all list typ form o at {g} {x} eg u ex =
        let f : First c d t u.items x = first_met 0 (omega arith) ex u.items u.end u.is in
        let vs : List Item = carried_in (values_at 64 c d t 0) in
        let ev : vs ≡ trimmed f.left = ap carried_in u.is ∙ ap (λ (l : List Item). trimmed (drop 1 l)) f.whole in
        let e : marked_from types (marks_begun list typ form) vs ≡ marked_from types g (trimmed f.left) = ap₂ (marked_from types) (sym eg) ev in
        record { left = f.left; is = f.is; owes = owes_same (owes_all o at (value_bytes (marked_from types (marks_begun list typ form) vs))) (ap value_bytes e) }

    module _ {o bs o₁ : List ℕ} {at r₁ : ℕ} (g : Option LayoutState) (owed q : ℕ) {last : Bool} (p : Owing types t c d o at bs o₁ r₁ g owed q last) where
      -- nothing is left
      pub values_end : last ≡ true → Wrote o at bs o₁ r₁
      values_end h =
          let e : trimmed (replicate owed default ++ p.left) ≡ [] = ap (λ (l : List Item). trimmed (replicate owed default ++ l)) (left_none p.is h) ∙ none_kept owed in
          owes_none (owes_same p.owes (ap (λ (l : List Item). value_bytes (marked_from types g l)) e ∙ line-none types g))

      module _ (h : last ≡ false) where
        module _ (i : q ≤ lines * 64) {y : Met} (ey : y ≡ met_of (value_at 64 c d t q)) {b : Bool} (eb : b ≡ is_missing y.value) where
          abbrev met : First c d t p.left y
          met = first_met q i ey p.left (left_some p.is h).0 (left_some p.is h).1

          -- a default is owed
          pub values_default : b ≡ true → Owing types t c d o at bs o₁ r₁ g (owed + 1) y.next y.last
          values_default k =
              let v : Item = item_of t y.value in
              let us : List Item = met.left in
              let ev : v ≡ default = default_only v (missing t y.value ∙ sym eb ∙ k) in
              let e : replicate owed default ++ p.left ≡ replicate (owed + 1) default ++ us
              = ap (λ (l : List Item). replicate owed default ++ l) (met.whole ∙ ap (λ (u : Item). u ∷ us) ev) ∙ one_owed owed us ∙ ap (λ (n : ℕ). replicate n default ++ us) (sym (add-one owed)) in
              record { left = us; is = met.is; owes = owes_same p.owes (ap (λ (l : List Item). value_bytes (marked_from types g (trimmed l))) e) }

          -- a given value comes behind what was owed
          pub values_given : b ≡ false → {o₂ : List ℕ} {r₂ : ℕ} {u : Option LayoutState} → u ≡ run types g (owing owed (item_of t y.value ∷ []))
              → Wrote o₁ r₁ (value_bytes (marked_from types g (owing owed (item_of t y.value ∷ [])))) o₂ r₂ → Owing types t c d o at bs o₂ r₂ u 0 y.next y.last
          values_given k {u = u} eu w =
              let v : Item = item_of t y.value in
              let us : List Item = met.left in
              let e : trimmed (replicate owed default ++ p.left) ≡ owing owed (v ∷ []) ++ trimmed us
              = ap (λ (l : List Item). trimmed (replicate owed default ++ l)) met.whole ∙ some_kept owed v us (missing t y.value ∙ sym eb ∙ k) in
              let bytes : value_bytes (marked_from types g (trimmed (replicate owed default ++ p.left))) ≡ value_bytes (marked_from types g (owing owed (v ∷ []))) ++ value_bytes (marked_from types u (trimmed us))
              = ap (λ (l : List Item). value_bytes (marked_from types g l)) e ∙ lines-append types g (owing owed (v ∷ [])) (trimmed us)
              ∙ ap (λ (z : Option LayoutState). value_bytes (marked_from types g (owing owed (v ∷ []))) ++ value_bytes (marked_from types z (trimmed us))) (sym eu) in
              record { left = us; is = met.is; owes = owes_less (owes_same p.owes bytes) w }

    module _ {o bs o₁ : List ℕ} {at r₁ : ℕ} (g : Option LayoutState) (owed q : ℕ) {last : Bool} (p : Owing types t c d o at bs o₁ r₁ g owed q last) (h : last ≡ false) (i : q ≤ lines * 64) {got : Got} (eg : got ≡ value_at 64 c d t q) where
      -- no value of it is refused
      pub values_refused : {x : Misspelt} {o₂ : List ℕ} {r₂ : ℕ} → got ≡ Err x → Wrote o at bs o₂ r₂
      values_refused e =
          let l = left_some p.is h in
          let k : q ≤ length t = omega (arith, length-text file base 64 lines st) in
          absurd (none-wrong 64 c d t pc pd q k l.1 (sym eg ∙ e))

      module _ {x : Found} (e : got ≡ Ok x) {b : Bool} (eb : b ≡ is_missing x.value) where
        met-is : record { value = x.value; next = x.next; last = x.last } ≡ met_of (value_at 64 c d t q)
        met-is = sym (ap met_of (sym eg ∙ e))

        pub found_default : b ≡ true → Owing types t c d o at bs o₁ r₁ g (owed + 1) x.next x.last
        found_default k = values_default g owed q p h i met-is eb k

        pub found-given : b ≡ false → {o₂ : List ℕ} {r₂ : ℕ} {u : Option LayoutState} → u ≡ run types g (owing owed (item_of t x.value ∷ []))
            → Wrote o₁ r₁ (value_bytes (marked_from types g (owing owed (item_of t x.value ∷ [])))) o₂ r₂ → Owing types t c d o at bs o₂ r₂ u 0 x.next x.last
        found-given k eu w = values_given g owed q p h i met-is eb k eu w

  -- there is room for what is owed
  pub values_room : (at next owed q : ℕ) → q ≤ lines * 64 → next + 1100 * owed ≤ at + 1100 * q → at < 2 ^ 58 → next + 1100 * owed < 2 ^ 59
  values_room at next owed q i h k = omega (arith, small file base 64 lines st)

  pub values_owed : (at next owed q : ℕ) → q ≤ lines * 64 → next + 1100 * owed ≤ at + 1100 * q → at < 2 ^ 58 → owed + 1 < 2 ^ 64
  values_owed at next owed q i h k = omega (arith, small file base 64 lines st)

pub ruleset valued = (not-true, not-false, values_all, values_end, values_room, values_owed, wrote_length)
