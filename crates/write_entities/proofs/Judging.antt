-- An entity of a sheet: its values one after the other, its layout's verdict and its marks. Assumes nothing.
use mathlib.Core.Path.{◌≡◌, refl, sym, ap, ◌∙◌}
use mathlib.Core.Bool.{Bool, true, false, cond, ◌&&◌}
use mathlib.Core.List.{List, [], ◌∷◌, map}
use Prim.Native.Nat.{ℕ, ◌+◌, ◌≤◌, ◌<◌}
use native.Mathlib.Omega.{arith}
use lib.ListN.{length, drop}
use borrow.Author.Tests.{not-true, not-false}
use Rattle.std.proofs.Common.{Ok, Err, is_err}
use Rattle.columns.specs.declared.Fault.{Fault}
use Rattle.columns.specs.declared.Fault.TheVariants.{Mark, Layout}
use Rattle.columns.specs.declared.Signed.{Signed}
use Rattle.columns.specs.Columns.{columns}
use Rattle.columns.specs.Refusal.{Outcome, accepted, refused, demand, ◌then◌, refusal_at}
use Rattle.columns.proofs.Tests.{and_assoc}
use Rattle.values.specs.declared.Value.{Value}
use Rattle.std.specs.Prelude.{Option, Some, None}
use Rattle.values.specs.Value.{Item, item_of}
use Rattle.values.specs.Strict.{strict_of}
use Rattle.directory.specs.declared.Fields.{Fields}
use Rattle.layouts.specs.declared.LayoutState.{LayoutState}
use Rattle.layouts.specs.Verdict.{Verdict}
use Rattle.layouts.specs.Known.{known}
use Rattle.layouts.specs.Named.{named}
use Rattle.layouts.specs.Machine.{start, step, end}
use Rattle.layouts.specs.Walk.{stepped, feed, run as runs, verdict_from, judged as walked, mark, marks_from}
use Rattle.layouts.specs.Entities.{Entity, fault, entity_check}
use Rattle.layouts.proofs.Runs.{feed-stepped}
use Rattle.layouts.proofs.Fits.{accepts_keeps}
use Rattle.layouts.proofs.Walk.{check_judged}
use Rattle.read_entities.specs.Marks.{marks_begun}
use Rattle.read_entities.proofs.Marking.{stepped_bad, marks_begin}
use Rattle.sheets.specs.declared.Said.{Said}
use Rattle.sheets.specs.declared.Said.TheVariants.{Entry, Nothing}
use Rattle.sheets.specs.Line.{run}
use Rattle.sheets.specs.Sheet.{Line, value, is_value, says_of, lines_in, row}
use Rattle.sheets.specs.Order.{sheet_line}
use Rattle.sheets.specs.Reading.{NoValue}
use Rattle.sheets.proofs.Valued.{no_value, value_long, value_not}
use Rattle.model.specs.Model.{value_in, mark_in, entity_of}
use Rattle.model.specs.Write.{equal, all_equal, row_entity_rules}
use Rattle.sheets_rows.specs.Rows.{values_first}
use Rattle.sheets_rows.proofs.Rows.{no_values}
use Rattle.write_entities.specs.declared.Judged.{Judged}
use Rattle.write_entities.specs.declared.Values.{Values}
use Rattle.write_lines.specs.Lines.{pass_of, Skipped, SheetPass}
use Rattle.write_lines.specs.Heads.{said_entity}
use Rattle.write_entities.specs.Judging.{right_too, judged_so, judged, values_of, verdict_if, answer_of}
use Rattle.write_lines.proofs.Lines.{lines-piece, lines_none, line_read, skipped-none}
use Rattle.write_lines.proofs.Others.{entity-other}

-- ---- one value

pub right_yes : (right reference m too : Bool) (g : Option LayoutState) → m ≡ mark g → too ≡ equal reference m → right ≡ true → too ≡ right_too right reference g
right_yes right reference m too g em et e = rw (e, ← em) et

pub right_no : (right reference : Bool) (g : Option LayoutState) → right ≡ false → false ≡ right_too right reference g
right_no right reference g e = rw e

-- a step with as much of the class as it asks for
pub stepped_for : (types : List ℕ) (g : Option LayoutState) (v : Value) {s : LayoutState} (class : ℕ) {r : Option LayoutState} → g ≡ Some s → step s v class ≡ step s v (named types v) → r ≡ step s v class → r ≡ stepped types g v
stepped_for types g v class e q h = rw e (h ∙ q)

pub ruleset values = (stepped_for, stepped_bad, right_yes, right_no)

-- ---- all of them: f is the answer

module _ (types t : List ℕ) (at size : ℕ) (g : Option LayoutState) (right : Bool) (f : Judged) (inv : judged types g right (values_first (lines_in (drop at t))) ≡ f) (all : size ≡ length t) where
  pub judge_end : size ≤ at → judged_so g right ≡ f
  unfolding judged values_first
  judge_end h = rw (lines_none t at (omega arith)) at inv

  module _ (stop : ℕ) (lt : at < size) (lo : at ≤ stop) (hi : stop ≤ length t) (en : stop ≡ at + run 10 (drop at t)) where
    pub judge_piece : stop ≡ size → judged_so g right ≡ f
    unfolding judged values_first
    judge_piece h =
        let q = lines-piece t at (omega arith) (omega arith) in
        rw q.1 at inv

    module _ (h : stop ≡ size → ⊥) (b : Bool) (eb : b ≡ is_value (columns t at stop)) where
      other : (x : Said) → says_of (columns t at stop) ≡ x → NoValue x → judged_so g right ≡ f
      unfolding judged
      other x ex o = rw (line_read t at stop lo (omega arith) en x ex, no_values (columns t at stop) (lines_in (drop (stop + 1) t)) x o) at inv

      pub judge_other : b ≡ false → judged_so g right ≡ f
      judge_other e = other (says_of (columns t at stop)) refl (no_value t at stop b eb e)

      pub judge_not : b ≡ true → (y : Option Value) → y ≡ strict_of (columns t (at + 2) stop) → y ≡ None → judged_so g right ≡ f
      judge_not e y ey q = other (Nothing true) (value_not t at stop b eb (value_long t at stop b eb lo hi e) e y ey q) tt

-- a value line, and those behind it
pub judge_on : (ls rest : List Line) (reference : Bool) (s : List ℕ) (v : Value) → ls ≡ value reference (item_of s v) ∷ rest
    → (types : List ℕ) (g : Option LayoutState) (right : Bool) (f : Judged) → judged types g right (values_first ls) ≡ f
    → (m : Bool) (u : Option LayoutState) → m ≡ right_too right reference g → u ≡ stepped types g v → judged types u m (values_first rest) ≡ f
unfolding judged values_first
judge_on ls rest reference s v line types g right f inv m u em eu =
    let w : values_first ls ≡ (reference, item_of s v) ∷ values_first rest = rw line in
    rw (eu, em, ← feed-stepped types s g v) (rw w at inv)

-- what is handed back
module _ (r : Values) (g : Option LayoutState) (right : Bool) (next lines : ℕ) (e : r ≡ values_of g right next lines) where
  pub told-judged : (f : Judged) → judged_so g right ≡ f → judged_so r.state r.right ≡ f
  told-judged f h = rw e h

  pub told-skipped : (t : List ℕ) (from : ℕ) → Skipped t from next lines → Skipped t from r.next r.lines
  told-skipped t from h = rw e h

  pub told-next : (from : ℕ) → from + lines ≤ next → from + r.lines ≤ r.next
  told-next from h = rw e h

  pub told-within : (size n : ℕ) → next ≤ size → size ≡ n → r.next ≤ n
  told-within size n h q = rw (e, ← q) h

pub ruleset judging = (not-true, not-false, judge_end, judge_piece, judge_other, judge_not, skipped-none)

-- ---- what comes of it

module _ (inside : Bool) (g : Option LayoutState) where
  pub verdict_out : inside ≡ false → Ok tt ≡ verdict_if inside g
  verdict_out e = rw e

  pub verdict_go : (s : LayoutState) (w : Verdict) → inside ≡ true → g ≡ Some s → w ≡ end s → w ≡ verdict_if inside g
  verdict_go s w e q h = rw (e, q) h

  pub verdict_bad : inside ≡ true → g ≡ None → Err Layout ≡ verdict_if inside g
  verdict_bad e q = rw (e, q)

pub ruleset verdicts = (not-true, not-false, verdict_out, verdict_go, verdict_bad)

module _ (inside marked : Bool) (j : Judged) (place : ℕ) (g : Option LayoutState) (w : Verdict) (b : Bool) (eg : g ≡ j.state) (ew : w ≡ verdict_if inside g) (eb : b ≡ equal marked inside) where
  answer : answer_of inside marked j place ≡ pass_of (fault w place then λ _. demand (b && j.right) Mark place)
  unfolding answer_of
  answer = rw (← eg, ← ew, ← eb)

  pub answer_fault : {n : Fault} → w ≡ Err n → Err (refusal_at n (sheet_line place)) ≡ answer_of inside marked j place
  answer_fault e = sym (answer ∙ rw e)

  pub answer_good : w ≡ Ok tt → b ≡ true → j.right ≡ true → Ok tt ≡ answer_of inside marked j place
  answer_good e h k = sym (answer ∙ rw (e, h, k))

  pub answer-value : w ≡ Ok tt → b ≡ true → j.right ≡ false → Err (refusal_at Mark (sheet_line place)) ≡ answer_of inside marked j place
  answer-value e h k = sym (answer ∙ rw (e, h, k))

  pub answer-entry : w ≡ Ok tt → b ≡ false → Err (refusal_at Mark (sheet_line place)) ≡ answer_of inside marked j place
  answer-entry e h = sym (answer ∙ rw (e, h))

pub ruleset answers = (answer_fault, answer_good, answer-value, answer-entry)

-- ---- the same as the paper says it

module _ (types : List ℕ) where
  judged-state : (g : Option LayoutState) (right : Bool) (vs : List (Bool × Item)) → (judged types g right vs).state ≡ runs types g (map value_in vs)
  unfolding judged runs
  judged-state g right [] = refl
  judged-state g right (v ∷ vs) = judged-state (feed types g v.1) (right_too right v.0 g) vs

  judged_right : (g : Option LayoutState) (right : Bool) (vs : List (Bool × Item)) → (judged types g right vs).right ≡ right && all_equal (map mark_in vs) (marks_from types g (map value_in vs))
  unfolding judged marks_from
  judged_right g true [] = refl
  judged_right g false [] = refl
  judged_right g right (v ∷ vs) =
      judged_right (feed types g v.1) (right_too right v.0 g) vs
      ∙ and_assoc right (equal v.0 (mark g)) (all_equal (map mark_in vs) (marks_from types (feed types g v.1) (map value_in vs)))

-- what comes behind a refusal has no say
then_same : {A B : Type 0} (o : Outcome A) (f g : A → Outcome B) → ((a : A) → o ≡ accepted a → f a ≡ g a) → o then f ≡ o then g
then_same (accepted a) f g h = h a refl
then_same (refused n p) f g h = refl

module _ (list : ℕ) (types : List ℕ) (place : ℕ) (marked : Bool) (x : Fields) (vs : List (Bool × Item)) where
  abbrev inside : Bool
  inside = known list x.entity.size x.form.size

  abbrev begin : Option LayoutState
  begin = marks_begun list x.entity.size x.form.size

  abbrev entity : Entity
  entity = entity_of x (map value_in vs)

  check_part : fault (verdict_if inside (runs types begin (map value_in vs))) place ≡ entity_check list types entity place
  unfolding marks_begun walked verdict_from
  check_part = by inside ∙ check_judged types list entity place
    where
      by : (b : Bool) → fault (verdict_if b (runs types (cond b (Some (start x.entity.size x.form.size)) None) (map value_in vs))) place
          ≡ cond b (fault (walked types entity) place) (accepted tt)
      by true = refl
      by false = refl

  -- the marks count where 14 and 15 are passed
  answer-row : answer_of inside marked (judged types begin true vs) place ≡ pass_of (row_entity_rules list types place (row marked x [] vs))
  unfolding answer_of
  answer-row =
      rw (judged-state types begin true vs, judged_right types begin true vs, check_part)
      (ap pass_of (then_same (entity_check list types entity place) _ _ (λ u h. rw (marks_begin types list x.entity.size x.form.size (map value_in vs) (accepts_keeps types entity list place u h)))))

  pub entity-told : (s : Said) (n : Signed) (inside : Bool) (g : Option LayoutState) (j : Judged) (r : SheetPass) → s ≡ Entry marked n x → inside ≡ known list x.entity.size x.form.size
      → g ≡ marks_begun list x.entity.size x.form.size → j ≡ judged types g true vs → r ≡ answer_of inside marked j place → r ≡ said_entity list types place vs s
  entity-told s n inside g j r e ei eg ej er = rw e (er ∙ rw (ei, ej, eg) answer-row)

pub ruleset entities = (entity-told, entity-other, skipped-none)

-- ---- a line that is not refused

pub not_refused : (p : SheetPass) → is_err p ≡ false → p ≡ Ok tt
not_refused (Ok u) h = refl
not_refused (Err w) h = absurd (let z : ◌≡◌ {A = ℕ} 0 1 = cc in omega arith)
