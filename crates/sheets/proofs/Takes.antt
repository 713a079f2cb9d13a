-- What the machine over the lines takes is the lines of a sheet.
use mathlib.Core.Path.{◌≡◌, refl, ap, ◌∙◌}
use mathlib.Core.Bool.{Bool, true, false, cond, not, ◌&&◌}
use mathlib.Core.List.{List, [], ◌∷◌}
use Prim.Native.Nat.{ℕ, ◌+◌, ◌*◌, ◌≤◌, ◌<◌}
use native.Mathlib.Omega.{arith}
use lib.ListN.{length}
use lib.Dec.{ltb, leb, eqb}
use borrow.Author.Tests.{eqb-true, leb-true, ltb-true}
use Rattle.std.proofs.Common.{Err, Ok, Option, Some, None, is_some, unwrap_or}
use Rattle.columns.specs.declared.Signed.{Signed}
use Rattle.directory.specs.declared.Fields.{Fields}
use Rattle.sheets.specs.declared.SheetState.{SheetState}
use Rattle.sheets.specs.Plain.{sized}
use Rattle.values.specs.Value.{Item, is_default}
use Rattle.sheets.specs.Sheet.{Line, start, global, entry, value, last, none, start_lines, global_lines, value_lines, row_lines, lines_of, Parts, parts, with, parts_of, sheet_of}
use Rattle.sheets.specs.Order.{sheet_line, begin, next, closed, start_step, global_step, entry_step, value_step, last_step, none_step, step_line, verdict, finish, go_lines, SheetStep, SheetVerdict, unless}
use Rattle.sheets.specs.WellFormed.{ends_default, Rising, no_more, higher, Closed, no_rows, a-row, Ordered}
use Rattle.sheets.proofs.Says.{Says, AllSaid, none_said, one-said}
use Rattle.columns.proofs.Tests.{both_left, both_right}
use Rattle.columns.specs.declared.SheetLine.{SheetLine}

-- ---- a step that goes on, taken back
never_on : {A : Type 0} {n : SheetLine} {st : SheetState} → Err n ≡ Ok st → A
never_on e = absurd (let z : ◌≡◌ {A = ℕ} 0 1 = cc in omega arith)

never_good : {A : Type 0} {n : SheetLine} {k : ℕ} → Err n ≡ Ok k → A
never_good e = absurd (let z : ◌≡◌ {A = ℕ} 0 1 = cc in omega arith)

closed_inv : (st st' : SheetState) (x : SheetStep) → closed st x ≡ Ok st' → (st.run ≡ None) × (x ≡ Ok st')
unfolding closed
closed_inv st st' x h = pick st.run refl h
  where
    pick : (r : Option SheetLine) → st.run ≡ r → unless r x ≡ Ok st' → (st.run ≡ None) × (x ≡ Ok st')
    pick None e h = (e, h)
    pick (Some w) e h = never_on h

cond_inv : (c : Bool) (a st' : SheetState) (n : SheetLine) → cond c (Ok a) (Err n) ≡ Ok st' → (c ≡ true) × (st' ≡ a)
cond_inv true a st' n h = (refl, cc)
cond_inv false a st' n h = never_on h

module _ (st st' : SheetState) where
  pub start_inv : start_step st ≡ Ok st' → (st.run ≡ None) × (st.section ≤ 1) × (st' ≡ next st 1 st.field st.entries None)
  unfolding start_step
  start_inv h =
      let c = closed_inv st st' _ h in
      let d = cond_inv (leb st.section 1) _ st' _ c.1 in
      (c.0, leb-true _ _ d.0, d.1)

  pub global_inv : (n : ℕ) → global_step st n ≡ Ok st' → (st.run ≡ None) × (1 ≤ st.section) × (st.section ≤ 2) × (st.field < n) × (st' ≡ next st 2 n st.entries None)
  unfolding global_step
  global_inv n h =
      let c = closed_inv st st' _ h in
      let d = cond_inv (leb 1 st.section && (leb st.section 2 && ltb st.field n)) _ st' _ c.1 in
      let e = both_right (leb 1 st.section) (leb st.section 2 && ltb st.field n) d.0 in
      (c.0, leb-true _ _ (both_left (leb 1 st.section) (leb st.section 2 && ltb st.field n) d.0), leb-true _ _ (both_left (leb st.section 2) (ltb st.field n) e), ltb-true _ _ (both_right (leb st.section 2) (ltb st.field n) e), d.1)

  pub entry_inv : (x : Signed) → entry_step st x ≡ Ok st' → (st.run ≡ None) × (1 ≤ st.section) × (st.section ≤ 3) × (x ≡ sized false (2 * st.entries + 1)) × (st' ≡ next st 3 st.field (st.entries + 1) None)
  unfolding entry_step
  entry_inv x h =
      let c = closed_inv st st' _ h in
      let N = not x.neg && eqb x.size (2 * st.entries + 1) in
      let d = cond_inv (leb 1 st.section && (leb st.section 3 && N)) _ st' _ c.1 in
      let e = both_right (leb 1 st.section) (leb st.section 3 && N) d.0 in
      (c.0, leb-true _ _ (both_left (leb 1 st.section) (leb st.section 3 && N) d.0), leb-true _ _ (both_left (leb st.section 3) N e), number x.neg x.size (both_right (leb st.section 3) N e), d.1)
    where
      number : (b : Bool) (m : ℕ) → (not b && eqb m (2 * st.entries + 1)) ≡ true → sized b m ≡ sized false (2 * st.entries + 1)
      number true m e = absurd (let z : ◌≡◌ {A = ℕ} 0 1 = cc in omega arith)
      number false m e = ap (sized false) (eqb-true m (2 * st.entries + 1) e)

  pub value_inv : (b : Bool) → value_step st b ≡ Ok st' → (st.section ≡ 3) × (st' ≡ next st 3 st.field st.entries (cond b (Some (unwrap_or st.run (sheet_line (st.line + 1)))) None))
  unfolding value_step
  value_inv b h =
      let d = cond_inv (eqb st.section 3) _ st' _ h in
      (eqb-true _ _ d.0, d.1)

  pub last_inv : (n : ℕ) → last_step st n ≡ Ok st' → (st.run ≡ None) × (1 ≤ st.section) × (st.section ≤ 3) × (n ≡ st.entries) × (st' ≡ next st 4 st.field st.entries None)
  unfolding last_step
  last_inv n h =
      let c = closed_inv st st' _ h in
      let d = cond_inv (leb 1 st.section && (leb st.section 3 && eqb n st.entries)) _ st' _ c.1 in
      let e = both_right (leb 1 st.section) (leb st.section 3 && eqb n st.entries) d.0 in
      (c.0, leb-true _ _ (both_left (leb 1 st.section) (leb st.section 3 && eqb n st.entries) d.0), leb-true _ _ (both_left (leb st.section 3) (eqb n st.entries) e), eqb-true _ _ (both_right (leb st.section 3) (eqb n st.entries) e), d.1)

  pub none_inv : (b : Bool) → none_step st b ≡ Ok st' → ⊥
  unfolding none_step
  none_inv true h = never_on h
  none_inv false h = never_on (closed_inv st st' _ h).1

pub go_inv : (st : SheetState) (i : Line) (is : List Line) (n : ℕ) → go_lines st (i ∷ is) ≡ Ok n → (st' : SheetState) × (step_line st i ≡ Ok st') × (go_lines st' is ≡ Ok n)
unfolding go_lines
go_inv st i is n h = pick (step_line st i) refl h
  where
    pick : (x : SheetStep) → step_line st i ≡ x → ◌≡◌ {A = SheetVerdict} (elim x [ Ok st' ↦ go_lines st' is | Err m ↦ Err m ]) (Ok n) → (st' : SheetState) × (step_line st i ≡ Ok st') × (go_lines st' is ≡ Ok n)
    pick (Ok st') e h = (st', e, h)
    pick (Err m) e h = never_good h

end_inv : (st : SheetState) (n : ℕ) → go_lines st [] ≡ Ok n → (st.section ≡ 4) × (n ≡ st.entries)
unfolding go_lines finish closed
end_inv st n h = pick (eqb st.section 4) refl st.run h
  where
    pick : (a : Bool) → eqb st.section 4 ≡ a → (r : Option SheetLine) → cond a (Ok st.entries) (verdict (unless r (Err (sheet_line (st.line + 1))))) ≡ Ok n → (st.section ≡ 4) × (n ≡ st.entries)
    pick true e r h = (eqb-true _ _ e, cc)
    pick false e None h = never_good h
    pick false e (Some w) h = never_good h

says : (st : SheetState) (i : Line) (st' : SheetState) → step_line st i ≡ Ok st' → Says i
says st (start t) st' e = tt
says st (global m v) st' e = tt
says st (entry known x d label) st' e = ap (λ (y : Signed). y.neg) (entry_inv st st' x e).3
says st (value r v) st' e = tt
says st (last m) st' e = tt
says st (none b) st' e = none_inv st st' b e

-- every line says something
pub all_said : (is : List Line) (st : SheetState) (n : ℕ) → go_lines st is ≡ Ok n → AllSaid is
all_said [] st n h = none_said
all_said (i ∷ is) st n h =
    let g = go_inv st i is n h in
    one-said (says st i g.0 g.1) (all_said is g.0 n g.2)

-- after Z nothing comes
four : (is : List Line) (st : SheetState) (n : ℕ) → go_lines st is ≡ Ok n → st.section ≡ 4 → (is ≡ []) × (n ≡ st.entries)
four [] st n h s = (refl, (end_inv st n h).1)
four (i ∷ is) st n h s =
    let g = go_inv st i is n h in
    pick i g.0 g.1
  where
    pick : (i : Line) (st' : SheetState) → step_line st i ≡ Ok st' → (i ∷ is ≡ []) × (n ≡ st.entries)
    pick (start t) st' e = absurd (omega (arith, (start_inv st st' e).1))
    pick (global m v) st' e = absurd (omega (arith, (global_inv st st' m e).2))
    pick (entry known x d label) st' e = absurd (omega (arith, (entry_inv st st' x e).2))
    pick (value r v) st' e = absurd (omega (arith, (value_inv st st' (is_default v) e).0))
    pick (last m) st' e = absurd (omega (arith, (last_inv st st' m e).2))
    pick (none b) st' e = absurd (none_inv st st' b e)

-- ---- the parts of what is taken from a state on
abbrev lines_at : ℕ → Parts → List Line
lines_at k p = start_lines p.starts (global_lines p.globals (value_lines p.values (row_lines k p.rows)))

abbrev pending : SheetState → Bool
pending st = is_some st.run

record Whole (st : SheetState) (is : List Line) (n : ℕ) (p : Parts) : Type 0 where
  text : lines_at st.entries p ≡ is
  count : n ≡ st.entries + length p.rows
  starts : 2 ≤ st.section → p.starts ≡ []
  globals : 3 ≤ st.section → p.globals ≡ []
  values : st.section ≤ 2 → p.values ≡ []
  some : st.section ≡ 0 → 0 < length p.starts
  rising : Rising st.field p.globals
  ends : ends_default (pending st) p.values ≡ false
  rows : Closed p.rows

pending-none : (st : SheetState) → st.run ≡ None → pending st ≡ false
pending-none st h = rw h

pending-value : (b : Bool) (w : SheetLine) → is_some (cond b (Some w) None) ≡ b
pending-value false w = refl
pending-value true w = refl

module _ (st : SheetState) (is : List Line) (n : ℕ) (p : Parts) where
  start_whole : (t : List ℕ) → st.run ≡ None → st.section ≤ 1 → Whole (next st 1 st.field st.entries None) is n p → Whole st (start t ∷ is) n (with (start t) p)
  unfolding start_lines
  start_whole t r s w = record {
    text = ap (λ (x : List Line). start t ∷ x) w.text;
    count = w.count;
    starts = λ h. absurd (omega arith);
    globals = λ h. absurd (omega arith);
    values = λ h. w.values (omega arith);
    some = λ h. omega arith;
    rising = w.rising;
    ends = rw (pending-none st r) w.ends;
    rows = w.rows;
  }

  global_whole : (m : ℕ) (v : Item) → st.run ≡ None → 1 ≤ st.section → st.section ≤ 2 → st.field < m → Whole (next st 2 m st.entries None) is n p → Whole st (global m v ∷ is) n (with (global m v) p)
  unfolding start_lines global_lines
  global_whole m v r s u g w =
      let ss : p.starts ≡ [] = w.starts (omega arith) in
      record {
        text = rw ss (ap (λ (x : List Line). global m v ∷ x) (rw ss at w.text));
        count = w.count;
        starts = λ h. ss;
        globals = λ h. absurd (omega arith);
        values = λ h. w.values (omega arith);
        some = λ h. absurd (omega arith);
        rising = higher g w.rising;
        ends = rw (pending-none st r) w.ends;
        rows = w.rows;
      }

  entry_whole : (known : Bool) (x : Signed) (e : Fields) (label : List ℕ) → st.run ≡ None → 1 ≤ st.section → st.section ≤ 3 → x ≡ sized false (2 * st.entries + 1)
      → Whole (next st 3 st.field (st.entries + 1) None) is n p → Whole st (entry known x e label ∷ is) n (with (entry known x e label) p)
  unfolding start_lines global_lines value_lines row_lines ends_default
  entry_whole known x e label r s u d w =
      let ss : p.starts ≡ [] = w.starts (omega arith) in
      let gs : p.globals ≡ [] = w.globals (omega arith) in
      record {
        text = rw (ss, gs, d) (ap (λ (y : List Line). entry known (sized false (2 * st.entries + 1)) e label ∷ y) (rw (ss, gs) at w.text));
        count = w.count ∙ omega arith;
        starts = λ h. ss;
        globals = λ h. gs;
        values = λ h. refl;
        some = λ h. absurd (omega arith);
        rising = w.rising;
        ends = pending-none st r;
        rows = a-row w.ends w.rows;
      }

  value_whole : (b : Bool) (v : Item) → st.section ≡ 3 → Whole (next st 3 st.field st.entries (cond (is_default v) (Some (unwrap_or st.run (sheet_line (st.line + 1)))) None)) is n p
      → Whole st (value b v ∷ is) n (with (value b v) p)
  unfolding start_lines global_lines value_lines ends_default
  value_whole b v s w =
      let ss : p.starts ≡ [] = w.starts (omega arith) in
      let gs : p.globals ≡ [] = w.globals (omega arith) in
      record {
        text = rw (ss, gs) (ap (λ (y : List Line). value b v ∷ y) (rw (ss, gs) at w.text));
        count = w.count;
        starts = λ h. ss;
        globals = λ h. gs;
        values = λ h. absurd (omega arith);
        some = λ h. absurd (omega arith);
        rising = w.rising;
        ends = rw (pending-value (is_default v) (unwrap_or st.run (sheet_line (st.line + 1)))) at w.ends;
        rows = w.rows;
      }

last_whole : (st : SheetState) (n m : ℕ) → st.run ≡ None → 1 ≤ st.section → m ≡ st.entries → n ≡ st.entries → Whole st (last m ∷ []) n (parts [] [] [] [])
unfolding start_lines global_lines value_lines row_lines ends_default
last_whole st n m r s e d = record {
  text = rw e;
  count = d ∙ omega arith;
  starts = λ h. refl;
  globals = λ h. refl;
  values = λ h. refl;
  some = λ h. absurd (omega arith);
  rising = no_more;
  ends = pending-none st r;
  rows = no_rows;
}

whole : (is : List Line) (st : SheetState) (n : ℕ) → go_lines st is ≡ Ok n → st.section ≤ 3 → Whole st is n (parts_of is)
unfolding parts_of
whole [] st n h s = absurd (omega (arith, (end_inv st n h).0))
whole (i ∷ is) st n h s =
    let g = go_inv st i is n h in
    pick i g.0 g.1 g.2 (λ a. whole is a n)
  where
    pick : (i : Line) (st' : SheetState) → step_line st i ≡ Ok st' → go_lines st' is ≡ Ok n → ((a : SheetState) → go_lines a is ≡ Ok n → a.section ≤ 3 → Whole a is n (parts_of is)) → Whole st (i ∷ is) n (with i (parts_of is))
    pick (start t) st' e q ih =
        let v = start_inv st st' e in
        start_whole st is n (parts_of is) t v.0 v.1 (ih _ (rw v.2 at q) (omega arith))
    pick (global m u) st' e q ih =
        let v = global_inv st st' m e in
        global_whole st is n (parts_of is) m u v.0 v.1 v.2 v.3 (ih _ (rw v.4 at q) (omega arith))
    pick (entry known x d label) st' e q ih =
        let v = entry_inv st st' x e in
        entry_whole st is n (parts_of is) known x d label v.0 v.1 v.2 v.3 (ih _ (rw v.4 at q) (omega arith))
    pick (value b u) st' e q ih =
        let v = value_inv st st' (is_default u) e in
        value_whole st is n (parts_of is) b u v.0 (ih _ (rw v.1 at q) (omega arith))
    pick (last m) st' e q ih =
        let v = last_inv st st' m e in
        let f = four is (next st 4 st.field st.entries None) n (rw v.4 at q) refl in
        rw f.0 (last_whole st n m v.0 v.1 v.3 f.1)
    pick (none b) st' e q ih = absurd (none_inv st st' b e)

-- what is taken from the start is the lines of its model
pub order_back : (is : List Line) (n : ℕ) → go_lines begin is ≡ Ok n → (lines_of (sheet_of is) ≡ is) × Ordered (sheet_of is) × (n ≡ length (sheet_of is).rows)
unfolding lines_of sheet_of value_lines
order_back is n h = named (parts_of is) (whole is begin n h (omega arith))
  where
    named : (p : Parts) → Whole begin is n p → (start_lines p.starts (global_lines p.globals (row_lines 0 p.rows)) ≡ is) × Ordered (record { starts = p.starts; globals = p.globals; rows = p.rows }) × (n ≡ length p.rows)
    named p w = (rw (w.values (omega arith)) at w.text, record { some = w.some refl; rising = w.rising; closed = w.rows }, w.count ∙ omega arith)
