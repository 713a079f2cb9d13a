-- The pass over one entity: its first value, then the walk over the others. Assumes nothing.
use mathlib.Core.Path.{◌≡◌, refl, sym, ap, ◌∙◌}
use mathlib.Core.Bool.{Bool, true, false, cond}
use mathlib.Core.List.{List, [], ◌∷◌}
use Prim.Native.Nat.{ℕ, ◌+◌, ◌≤◌, ◌<◌}
use native.Mathlib.Nat.{zero-add}
use native.Mathlib.Omega.{arith}
use borrow.Author.Tests.{not-true, not-false}
use Rattle.columns.specs.declared.Fault.{Fault}
use Rattle.columns.specs.declared.Fault.TheVariants.{FirstValue, Layout}
use Rattle.columns.specs.Refusal.{Outcome, accepted, demand, ◌then◌}
use Rattle.values.specs.Value.{Item, item_of}
use Rattle.std.specs.Prelude.{Ok, Err}
use Rattle.records.specs.declared.Found.{Found}
use Rattle.records.specs.declared.Misspelt.{Misspelt}
use Rattle.records.specs.Record.{Got, found_at, Values, values, wrong, more, value_at, values_at, trimmed}
use Rattle.records.proofs.Bounds.{next_in}
use Rattle.records.proofs.Steps.{at_last, at_more, at-wrong}
use Rattle.layouts.specs.declared.LayoutState.{LayoutState}
use Rattle.std.specs.Prelude.{Option, Some, None}
use Rattle.layouts.specs.Verdict.{Verdict}
use Rattle.layouts.specs.Machine.{start, end}
use Rattle.layouts.specs.Known.{known}
use Rattle.layouts.specs.Entities.{fault}
use Rattle.layouts.specs.Walk.{run, verdict_from, judged}
use Rattle.layouts.proofs.Walk.{check_judged}
use Rattle.model.specs.Read.{is_type}
use Rattle.read_entities.specs.declared.Walked.{Walked}
use Rattle.read_entities.specs.declared.Weighed.{Weighed}
use Rattle.read_entities.specs.Taking.{entity_with}
use Rattle.read_entities.specs.Answers.{EntityAnswer, entity_answer, entity_pass_of, type_read, verdict_answer, pass_answer, weighed_of}
use Rattle.read_entities.specs.Marks.{carried_in, marks_begun}
use Rattle.read_entities.specs.Walking.{EntityWalked, walked_to, carried_length, owing, walked_from, Light}
use Rattle.read_entities.proofs.Passes.{read_type, answer-fault}
use Rattle.read_entities.proofs.Walks.{owing-none}

-- ---- the answer by cases

module _ (typed inside : Bool) (g : Option LayoutState) where
  pub answer_first : typed ≡ false → Err FirstValue ≡ pass_answer typed inside g
  answer_first e = rw e

  module _ (e : typed ≡ true) where
    pub answer_outside : inside ≡ false → Ok tt ≡ pass_answer typed inside g
    answer_outside h = rw (e, h)

    module _ (h : inside ≡ true) where
      pub answer_go : {s : LayoutState} {w : Verdict} {r : EntityAnswer} → g ≡ Some s → w ≡ end s → r ≡ verdict_answer w → r ≡ pass_answer typed inside g
      answer_go q ew er = rw (e, h, q, ← ew) er

      pub answer_bad : g ≡ None → Err Layout ≡ pass_answer typed inside g
      answer_bad q = rw (e, h, q)

pub ruleset answers = (not-true, not-false, answer_first, answer_outside, answer_go, answer_bad)

module _ (typed inside : Bool) {w : EntityWalked} where
  pub weighed_wrong : {f : Fault} → w ≡ Err f → record { answer = Err f; length = 0 } ≡ weighed_of typed inside w
  unfolding weighed_of
  weighed_wrong e = rw e

  pub weighed_done : {u : Walked} {a : EntityAnswer} → w ≡ Ok u → a ≡ pass_answer typed inside u.state → record { answer = a; length = u.length } ≡ weighed_of typed inside w
  unfolding weighed_of
  weighed_done e ea = rw (e, ea)

pub ruleset weighed = (weighed_wrong, weighed_done)

-- ---- its values

module _ (list : ℕ) (types : List ℕ) (typ form : ℕ) where
  -- the first value, and the layout behind the others
  pass_all : (i : Item) (vs : List Item) (to : ℕ) → pass_answer (is_type typ i) (known list typ form) (run types (marks_begun list typ form) (trimmed vs)) ≡ entity_pass_of list types typ form (values (i ∷ vs) to)
  unfolding entity_pass_of judged verdict_from marks_begun
  pass_all i vs to =
      by (is_type typ i) (known list typ form)
      ∙ ap (λ (o : Outcome (Unit {0})). entity_answer (demand (is_type typ i) FirstValue 0 then λ _. o)) (check_judged types list (entity_with typ form (trimmed vs)) 0)
    where
      by : (a b : Bool) → pass_answer a b (run types (cond b (Some (start typ form)) None) (trimmed vs))
          ≡ entity_answer (demand a FirstValue 0 then λ _. cond b (fault (judged types (entity_with typ form (trimmed vs))) 0) (accepted tt))
      by true true = answer-fault (judged types (entity_with typ form (trimmed vs))) 0
      by true false = refl
      by false b = refl

  values_wrong : (i : Item) (vals : Values) (g : Option LayoutState) (f : Fault) → walked_from types g 0 0 vals ≡ Err f → Err f ≡ entity_pass_of list types typ form (more i vals)
  unfolding entity_pass_of
  values_wrong i (values vs to) g f h = let z : ◌≡◌ {A = ℕ} 0 1 = cc in absurd (omega arith)
  values_wrong i (wrong n s at) g f h = let e : f ≡ n = cc in ap (λ (x : Fault). Err x) e

  values_done : (i : Item) (vals : Values) (u : Walked) → walked_from types (marks_begun list typ form) 0 0 vals ≡ Ok u
      → pass_answer (is_type typ i) (known list typ form) u.state ≡ entity_pass_of list types typ form (more i vals)
  values_done i (values vs to) u h =
      let w : walked_to (run types (marks_begun list typ form) (owing 0 (trimmed vs))) (0 + carried_length (owing 0 (trimmed vs))) ≡ u = cc in
      let e : u.state ≡ run types (marks_begun list typ form) (owing 0 (trimmed vs)) = sym (ap (λ (x : Walked). x.state) w) in
      ap (pass_answer (is_type typ i) (known list typ form)) (e ∙ ap (run types (marks_begun list typ form)) (owing-none (trimmed vs))) ∙ pass_all i vs to
  values_done i (wrong n s at) u h = let z : ◌≡◌ {A = ℕ} 0 1 = cc in absurd (omega arith)

-- ---- what is carried, measured

none-carried : (types : List ℕ) (i : Item) (vals : Values) (g : Option LayoutState) (f : Fault) → walked_from types g 0 0 vals ≡ Err f → 0 ≡ carried_length (carried_in (more i vals))
unfolding carried_length
none-carried types i (values vs to) g f h = let z : ◌≡◌ {A = ℕ} 0 1 = cc in absurd (omega arith)
none-carried types i (wrong n s at) g f h = refl

all_carried : (types : List ℕ) (i : Item) (vals : Values) (g : Option LayoutState) (u : Walked) → walked_from types g 0 0 vals ≡ Ok u → u.length ≡ carried_length (carried_in (more i vals))
all_carried types i (values vs to) g u h =
    let w : walked_to (run types g (owing 0 (trimmed vs))) (0 + carried_length (owing 0 (trimmed vs))) ≡ u = cc in
    let e : u.length ≡ 0 + carried_length (owing 0 (trimmed vs)) = sym (ap (λ (x : Walked). x.length) w) in
    e ∙ zero-add _ ∙ ap carried_length (owing-none (trimmed vs))
all_carried types i (wrong n s at) g u h = let z : ◌≡◌ {A = ℕ} 0 1 = cc in absurd (omega arith)

module _ {c d : ℕ} (pc : 0 < c) (pd : 0 < d) (t : List ℕ) {got : Got} (eg : got ≡ value_at 64 c d t 0) where
  pub weigh_refused : {x : Misspelt} → got ≡ Err x → 0 ≡ carried_length (carried_in (values_at 64 c d t 0))
  unfolding carried_length
  weigh_refused e = sym (ap (λ (vs : Values). carried_length (carried_in vs)) (at-wrong 64 c d t pc pd 0 (sym eg ∙ e)))

  module _ {x : Found} (e : got ≡ Ok x) where
    pub weigh_single : x.last ≡ true → 0 ≡ carried_length (carried_in (values_at 64 c d t 0))
    unfolding carried_length
    weigh_single l = sym (ap (λ (vs : Values). carried_length (carried_in vs)) (at_last 64 c d t pc pd 0 (sym eg ∙ e ∙ ap (found_at x.value x.start x.next) l)))

    module _ (l : x.last ≡ false) (types : List ℕ) (g : Option LayoutState) {w : EntityWalked} (ew : w ≡ walked_from types g 0 0 (values_at 64 c d t x.next)) where
      whole : carried_length (carried_in (more (item_of t x.value) (values_at 64 c d t x.next))) ≡ carried_length (carried_in (values_at 64 c d t 0))
      whole = sym (ap (λ (vs : Values). carried_length (carried_in vs)) (at_more 64 c d t pc pd 0 (omega arith) (sym eg ∙ e ∙ ap (found_at x.value x.start x.next) l)))

      pub weigh_walked : (typed inside : Bool) {r : Weighed} → r ≡ weighed_of typed inside w → r.length ≡ carried_length (carried_in (values_at 64 c d t 0))
      unfolding weighed_of
      weigh_walked typed inside er = ap (λ (y : Weighed). y.length) er ∙ by w ew
        where
          by : (z : EntityWalked) → z ≡ walked_from types g 0 0 (values_at 64 c d t x.next) → (weighed_of typed inside z).length ≡ carried_length (carried_in (values_at 64 c d t 0))
          by (Err f) ex = none-carried types (item_of t x.value) (values_at 64 c d t x.next) g f (sym ex) ∙ whole
          by (Ok u) ex = all_carried types (item_of t x.value) (values_at 64 c d t x.next) g u (sym ex) ∙ whole

pub weigh_light : (m : ℕ) (w : EntityWalked) (typed inside : Bool) {r : Weighed} → r ≡ weighed_of typed inside w → Light m w → r.length ≤ m
unfolding weighed_of
weigh_light m w typed inside er h = by w er h
  where
    by : {r : Weighed} (x : EntityWalked) → r ≡ weighed_of typed inside x → Light m x → r.length ≤ m
    by (Err f) e l = let k = ap (λ (y : Weighed). y.length) e in omega arith
    by (Ok u) e l = let k = ap (λ (y : Weighed). y.length) e in omega arith

-- ---- the pass

module _ (list : ℕ) (types : List ℕ) (typ form : ℕ) where
  module _ {c d : ℕ} (pc : 0 < c) (pd : 0 < d) (t : List ℕ) {got : Got} (eg : got ≡ value_at 64 c d t 0) where
    pub pass_refused : {x : Misspelt} → got ≡ Err x → Err x.fault ≡ entity_pass_of list types typ form (values_at 64 c d t 0)
    unfolding entity_pass_of
    pass_refused e = sym (ap (entity_pass_of list types typ form) (at-wrong 64 c d t pc pd 0 (sym eg ∙ e)))

    module _ {x : Found} (e : got ≡ Ok x) {typed inside : Bool} {g : Option LayoutState}
        (et : typed ≡ type_read typ x.value) (ei : inside ≡ known list typ form) (eb : g ≡ marks_begun list typ form) where
      its_type : typed ≡ is_type typ (item_of t x.value)
      its_type = et ∙ sym (read_type typ t x.value)

      pub pass_single : {r : EntityAnswer} → x.last ≡ true → r ≡ pass_answer typed inside g → r ≡ entity_pass_of list types typ form (values_at 64 c d t 0)
      unfolding run
      pass_single l er =
          er ∙ rw (its_type, ei, eb) (pass_all list types typ form (item_of t x.value) [] x.next)
          ∙ sym (ap (entity_pass_of list types typ form) (at_last 64 c d t pc pd 0 (sym eg ∙ e ∙ ap (found_at x.value x.start x.next) l)))

      module _ (l : x.last ≡ false) {w : EntityWalked} (ew : w ≡ walked_from types g 0 0 (values_at 64 c d t x.next)) where
        rest : values_at 64 c d t 0 ≡ more (item_of t x.value) (values_at 64 c d t x.next)
        rest = at_more 64 c d t pc pd 0 (omega arith) (sym eg ∙ e ∙ ap (found_at x.value x.start x.next) l)

        pub pass_walked : {r : Weighed} → r ≡ weighed_of typed inside w → r.answer ≡ entity_pass_of list types typ form (values_at 64 c d t 0)
        unfolding weighed_of
        pass_walked er = ap (λ (y : Weighed). y.answer) er ∙ by w ew ∙ sym (ap (entity_pass_of list types typ form) rest)
          where
            by : (z : EntityWalked) → z ≡ walked_from types g 0 0 (values_at 64 c d t x.next) → (weighed_of typed inside z).answer ≡ entity_pass_of list types typ form (more (item_of t x.value) (values_at 64 c d t x.next))
            by (Err f) ex = values_wrong list types typ form (item_of t x.value) (values_at 64 c d t x.next) g f (sym ex)
            by (Ok u) ex =
                rw (its_type, ei) (values_done list types typ form (item_of t x.value) (values_at 64 c d t x.next) u (ap (λ (y : Option LayoutState). walked_from types y 0 0 (values_at 64 c d t x.next)) (sym eb) ∙ sym ex))

pub ruleset passes = (pass_refused, pass_single, pass_walked, weigh_refused, weigh_single, weigh_walked, weigh_light, next_in)
