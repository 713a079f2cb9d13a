-- A step, and the end. Assumes nothing.
use mathlib.Core.Path.{◌≡◌, refl, sym, ap, ap₂, ◌∙◌}
use mathlib.Core.Bool.{Bool, true, false, not, ◌||◌, ◌&&◌, false≢true}
use Prim.Native.Nat.{ℕ, suc, ◌+◌, ◌-◌, ◌≤◌, ◌<◌}
use native.Mathlib.Omega.{arith}
use lib.Dec.{eqb, ltb}
use lib.ListN.{get_or-eq_default}
use borrow.Author.Tests.{ltb-true, ltb-false, lt-ltb, le-ltb}
use Rattle.columns.specs.Format.{most_integer}
use Rattle.layouts.specs.declared.Kind.{Kind}
use Rattle.layouts.specs.declared.Kind.TheVariants.{R, Given, Weight, S, I, Flag, Count, Outer, Upper1, Upper2, Degree1, Degree2, P, Q, Bound, Rest}
use Rattle.layouts.specs.declared.LayoutPlace.{LayoutPlace}
use Rattle.values.specs.declared.Value.{Value}
use Rattle.values.specs.declared.Value.TheVariants.{Default, Whole, Real, Text}
use Rattle.values.specs.Value.{is_missing}
use Rattle.layouts.specs.declared.LayoutState.{LayoutState}
use Rattle.std.specs.Prelude.{Option, Some, None, Err}
use Rattle.columns.specs.declared.Fault.TheVariants.{Layout}
use Rattle.layouts.specs.Verdict.{Verdict, OfLayout}
use Rattle.layouts.specs.Layout.{most_upper, paper, bit_of}
use Rattle.layouts.specs.Table.{place_at, starts, start_of}
use Rattle.layouts.specs.Machine.{fresh, start, numeric, above, text, need, refer, takes, settle, onward, rests, moved, step, closed, after, finish, end, within, size, with_k1, with_k2, with_m1, with_m2, with_bad, stand, follow, enter, beyond, reals, kind_at, runs_on}
use Rattle.references.specs.References.{fits}
use Rattle.layouts.specs.declared.Then.{Then}
use Rattle.layouts.specs.declared.Then.TheVariants.{Next}
use Rattle.layouts.proofs.Tables.{past, and_both}
use Rattle.layouts.proofs.Moves.{onward_same}

-- ---- the machine moves only where it is told to

abbrev place : Option LayoutState → ℕ → ℕ
place (Some t) i = t.at
place None i = i

need-at : (b : Bool) (t : LayoutState) → place (need b t) t.at ≡ t.at
need-at true t = refl
need-at false t = refl

refer-at : (free : Bool) (want : ℕ) (s : LayoutState) (v : Value) (class : ℕ) → place (refer free want s v class) s.at ≡ s.at
refer-at free want s Default class = refl
refer-at free want s (Whole neg n) class = refl
refer-at free want s (Real neg m eneg e double) class = refl
refer-at free want s (Text start count) class = refl

takes_at : (k : Kind) (s : LayoutState) (v : Value) (class : ℕ) → place (takes k s v class) s.at ≡ s.at
unfolding takes
takes_at R s v class = need-at (numeric v || is_missing v) s
takes_at Given s v class = need-at (numeric v) s
takes_at Weight s v class = need-at (above v) s
takes_at S s v class = need-at (text v || is_missing v) s
takes_at (I low high) s v class = need-at (within false low high v) s
takes_at Flag s v class = need-at (within true 0 1 v) s
takes_at Count s v class = need-at (within false 0 most_integer v) (with_k1 s (size v))
takes_at Outer s v class = need-at (within false 0 1 v) (with_k2 s (size v))
takes_at Upper1 s v class = need-at (within true 1 most_upper v) (with_k1 s (size v))
takes_at Upper2 s v class = need-at (within true 1 most_upper v) (with_k2 s (size v))
takes_at Degree1 s v class = need-at (within true 1 s.k1 v) (with_m1 s (size v))
takes_at Degree2 s v class = need-at (within true 1 s.k2 v) (with_m2 s (size v))
takes_at (P want) s v class = refer-at true want s v class
takes_at (Q want) s v class = refer-at false want s v class
takes_at (Bound want) s v class = refer-at (not (eqb s.k2 1)) want s v class
takes_at Rest s v class = need-at (is_missing v) s

pub stays : (k : Kind) (s t : LayoutState) (v : Value) (class : ℕ) → takes k s v class ≡ Some t → t.at ≡ s.at
stays k s t v class e = ap (λ (x : Option LayoutState). place x s.at) (sym e) ∙ takes_at k s v class

pub not_rest : (i : ℕ) → rests (place_at i).kind ≡ false → i < 116
not_rest i e = pick (ltb i 116) refl
  where
    pick : (b : Bool) → ltb i 116 ≡ b → i < 116
    pick true h = ltb-true i 116 h
    pick false h = absurd (false≢true (sym e ∙ ap (λ (p : LayoutPlace). rests p.kind) (past i (ltb-false i 116 h))))

module _ (s : LayoutState) (v : Value) (class : ℕ) (p : LayoutPlace) (g : Option LayoutState) (ep : p ≡ place_at s.at) (eg : g ≡ takes p.kind s v class) where
  room : (t : LayoutState) (b : Bool) → g ≡ Some t → b ≡ rests p.kind → b ≡ false → t.at < 116
  room t b e eb f =
      let h : s.at < 116 = not_rest s.at (ap (λ (q : LayoutPlace). rests q.kind) (sym ep) ∙ sym eb ∙ f) in
      let q : t.at ≡ s.at = ap (λ (x : Option LayoutState). place x s.at) (sym e ∙ eg) ∙ takes_at p.kind s v class in
      omega arith

  pub room-here : (t : LayoutState) (b : Bool) → g ≡ Some t → b ≡ rests p.kind → b ≡ false → t.at < 900
  room-here t b e eb f = omega (arith, room t b e eb f)

  step_is : (b : Bool) → b ≡ rests p.kind → step s v class ≡ moved b g
  unfolding step
  step_is b eb = sym (ap (λ (q : LayoutPlace). moved (rests q.kind) (takes q.kind s v class)) ep) ∙ ap₂ moved (sym eb) (sym eg)

  pub step_bad : g ≡ None → None ≡ step s v class
  step_bad e = sym (step_is (rests p.kind) refl ∙ rw e)

  pub step_rest : (t : LayoutState) (b : Bool) → g ≡ Some t → b ≡ rests p.kind → b ≡ true → Some t ≡ step s v class
  step_rest t b e eb f = sym (step_is b eb ∙ rw (e, f))

  pub step_go : (t u : LayoutState) (b : Bool) → g ≡ Some t → b ≡ rests p.kind → b ≡ false → u ≡ onward t → Some u ≡ step s v class
  step_go t u b e eb f q = sym (step_is b eb ∙ rw (e, f, q))

pub ruleset steps = (room-here, step_bad, step_rest, step_go)

-- ---- a run goes on

runs_parts : (s : LayoutState) (v : Value) → runs_on s v ≡ true → (1 < s.left) × ((reals (kind_at s) ≡ true) × (numeric v ≡ true))
unfolding runs_on
runs_parts s v e =
    let p = and_both (ltb 1 s.left) (reals (kind_at s) && numeric v) e in
    (ltb-true 1 s.left p.0, and_both (reals (kind_at s)) (numeric v) p.1)

pub runs_few : (s : LayoutState) (v : Value) → s.left ≤ 1 → false ≡ runs_on s v
unfolding runs_on
runs_few s v h = simp (le-ltb 1 s.left h)

pub runs_real : (s : LayoutState) (v : Value) (b r : Bool) → 1 < s.left → b ≡ reals (place_at s.at).kind → b ≡ true → r ≡ numeric v → r ≡ runs_on s v
unfolding runs_on
runs_real s v b r h e t q = q ∙ sym (ap₂ (λ (x y : Bool). x && (y && numeric v)) (lt-ltb 1 s.left h) (sym e ∙ t))

pub runs_other : (s : LayoutState) (v : Value) (b : Bool) → 1 < s.left → b ≡ reals (place_at s.at).kind → b ≡ false → false ≡ runs_on s v
unfolding runs_on
runs_other s v b h e t = sym (ap₂ (λ (x y : Bool). x && (y && numeric v)) (lt-ltb 1 s.left h) (sym e ∙ t))

pub ruleset running = (runs_few, runs_real, runs_other)

reals-take : (k : Kind) (s : LayoutState) (v : Value) (class : ℕ) → reals k ≡ true → numeric v ≡ true → moved (rests k) (takes k s v class) ≡ Some (onward s)
unfolding takes
reals-take R s v class e r = ap (λ (b : Bool). moved false (need (b || is_missing v) s)) r
reals-take Given s v class e r = ap (λ (b : Bool). moved false (need b s)) r
reals-take Weight s v class e r = absurd (false≢true e)
reals-take S s v class e r = absurd (false≢true e)
reals-take (I low high) s v class e r = absurd (false≢true e)
reals-take Flag s v class e r = absurd (false≢true e)
reals-take Count s v class e r = absurd (false≢true e)
reals-take Outer s v class e r = absurd (false≢true e)
reals-take Upper1 s v class e r = absurd (false≢true e)
reals-take Upper2 s v class e r = absurd (false≢true e)
reals-take Degree1 s v class e r = absurd (false≢true e)
reals-take Degree2 s v class e r = absurd (false≢true e)
reals-take (P want) s v class e r = absurd (false≢true e)
reals-take (Q want) s v class e r = absurd (false≢true e)
reals-take (Bound want) s v class e r = absurd (false≢true e)
reals-take Rest s v class e r = absurd (false≢true e)

pub runs_left : (s : LayoutState) (v : Value) (b : Bool) → b ≡ runs_on s v → b ≡ true → 1 ≤ s.left
runs_left s v b e t = let h = (runs_parts s v (sym e ∙ t)).0 in omega arith

pub step_runs : (s t : LayoutState) (v : Value) (class : ℕ) (b : Bool) → b ≡ runs_on s v → b ≡ true → t ≡ stand s s.at (s.left - 1) → Some t ≡ step s v class
unfolding step
step_runs s t v class b e h q =
    let p = runs_parts s v (sym e ∙ h) in
    ap Some (q ∙ onward_same s p.0) ∙ sym (reals-take (kind_at s) s v class p.1.0 p.1.1)

pub same_step : (s t : LayoutState) (v : Value) (class : ℕ) (g : Option LayoutState) → t ≡ stand s s.at s.left → g ≡ step t v class → g ≡ step s v class
same_step s t v class g e q = q ∙ ap (λ (x : LayoutState). step x v class) e

pub same_bad : (s t : LayoutState) (v : Value) (class : ℕ) (g : Option LayoutState) → t ≡ stand s s.at s.left → g ≡ step t v class → g ≡ None → None ≡ step s v class
same_bad s t v class g e q h = sym h ∙ same_step s t v class g e q

pub same_go : (s t u w : LayoutState) (v : Value) (class : ℕ) (g : Option LayoutState) → t ≡ stand s s.at s.left → g ≡ step t v class → g ≡ Some u → w ≡ stand u u.at u.left → Some w ≡ step s v class
same_go s t u w v class g e q h d = ap Some d ∙ sym h ∙ same_step s t v class g e q

pub ruleset one_step = (runs_left, step_runs, same_step, same_bad, same_go)

-- ---- the end

-- past the last of a place
abbrev passed : Option LayoutState → Option LayoutState
passed None = None
passed (Some t) = Some (settle (beyond t))

follow_last : (x : Then) (s : LayoutState) → follow x (stand s s.at 1) ≡ follow x s
follow_last Next s = refl

onward_last : (s : LayoutState) → onward (stand s s.at 1) ≡ settle (beyond s)
unfolding onward
onward_last s = ap (λ (t : LayoutState). settle (enter t)) (follow_last (place_at s.at).next s)

need_last : (b : Bool) (s : LayoutState) → moved false (need b (stand s s.at 1)) ≡ passed (need b s)
need_last true s = ap Some (onward_last s)
need_last false s = refl

refer_last : (free : Bool) (want : ℕ) (s : LayoutState) (v : Value) (class : ℕ) → moved false (refer free want (stand s s.at 1) v class) ≡ passed (refer free want s v class)
refer_last free want s Default class = ap Some (onward_last (with_bad s (s.bad || not free)))
refer_last free want s (Whole neg n) class = ap Some (onward_last (with_bad s (s.bad || not ((free && eqb n 0) || fits want class))))
refer_last free want s (Real neg m eneg e double) class = refl
refer_last free want s (Text start count) class = refl

takes_last : (k : Kind) (s : LayoutState) (v : Value) (class : ℕ) → moved false (takes k (stand s s.at 1) v class) ≡ passed (takes k s v class)
unfolding takes
takes_last R s v class = need_last (numeric v || is_missing v) s
takes_last Given s v class = need_last (numeric v) s
takes_last Weight s v class = need_last (above v) s
takes_last S s v class = need_last (text v || is_missing v) s
takes_last (I low high) s v class = need_last (within false low high v) s
takes_last Flag s v class = need_last (within true 0 1 v) s
takes_last Count s v class = need_last (within false 0 most_integer v) (with_k1 s (size v))
takes_last Outer s v class = need_last (within false 0 1 v) (with_k2 s (size v))
takes_last Upper1 s v class = need_last (within true 1 most_upper v) (with_k1 s (size v))
takes_last Upper2 s v class = need_last (within true 1 most_upper v) (with_k2 s (size v))
takes_last Degree1 s v class = need_last (within true 1 s.k1 v) (with_m1 s (size v))
takes_last Degree2 s v class = need_last (within true 1 s.k2 v) (with_m2 s (size v))
takes_last (P want) s v class = refer_last true want s v class
takes_last (Q want) s v class = refer_last false want s v class
takes_last (Bound want) s v class = refer_last (not (eqb s.k2 1)) want s v class
takes_last Rest s v class = need_last (is_missing v) s

rest_takes : (k : Kind) (s : LayoutState) → rests k ≡ true → takes k s Default 0 ≡ Some s
unfolding takes
rest_takes R s e = absurd (false≢true e)
rest_takes Given s e = absurd (false≢true e)
rest_takes Weight s e = absurd (false≢true e)
rest_takes S s e = absurd (false≢true e)
rest_takes (I low high) s e = absurd (false≢true e)
rest_takes Flag s e = absurd (false≢true e)
rest_takes Count s e = absurd (false≢true e)
rest_takes Outer s e = absurd (false≢true e)
rest_takes Upper1 s e = absurd (false≢true e)
rest_takes Upper2 s e = absurd (false≢true e)
rest_takes Degree1 s e = absurd (false≢true e)
rest_takes Degree2 s e = absurd (false≢true e)
rest_takes (P want) s e = absurd (false≢true e)
rest_takes (Q want) s e = absurd (false≢true e)
rest_takes (Bound want) s e = absurd (false≢true e)
rest_takes Rest s e = refl

abbrev gone_on : ℕ → Option LayoutState → Verdict
gone_on n None = Err Layout
gone_on n (Some t) = finish n t

gone_on_lem : (n : ℕ) (g : Option LayoutState) → after false g (λ (u : LayoutState). finish n (settle (beyond u))) ≡ gone_on n (passed g)
gone_on_lem n None = refl
gone_on_lem n (Some t) = refl

-- so many turns are done
module _ (o : Verdict) (i : ℕ) (t : LayoutState) (p : LayoutPlace) (b : Bool) (inv : o ≡ finish (16 - i) t) (pos : i < 16) (ep : p ≡ place_at t.at) (eb : b ≡ rests p.kind) where
  end_step : o ≡ after b (takes (kind_at t) t Default 0) (λ (u : LayoutState). finish (16 - i - 1) (settle (beyond u)))
  unfolding finish
  end_step =
      let m : 16 - i ≡ suc (16 - i - 1) = omega arith in
      inv ∙ ap (λ (k : ℕ). finish k t) m
      ∙ ap (λ (x : Bool). after x (takes (kind_at t) t Default 0) (λ (u : LayoutState). finish (16 - i - 1) (settle (beyond u)))) (ap (λ (q : LayoutPlace). rests q.kind) (sym ep) ∙ sym eb)

  pub end_rest : (r : Verdict) → b ≡ true → r ≡ closed t.bad → r ≡ o
  end_rest r f q =
      let k : takes (kind_at t) t Default 0 ≡ Some t = rest_takes (kind_at t) t (ap (λ (x : LayoutPlace). rests x.kind) (sym ep) ∙ sym eb ∙ f) in
      q ∙ sym (end_step ∙ rw (f, k))

  end_last : (x : LayoutState) (g : Option LayoutState) → b ≡ false → x ≡ stand t t.at 1 → g ≡ step x Default 0 → o ≡ gone_on (16 - i - 1) g
  unfolding step
  end_last x g f ex eg =
      let z : rests (kind_at t) ≡ false = ap (λ (q : LayoutPlace). rests q.kind) (sym ep) ∙ sym eb ∙ f in
      let y : g ≡ passed (takes (kind_at t) t Default 0) =
      eg ∙ ap (λ (u : LayoutState). step u Default 0) ex ∙ ap (λ (c : Bool). moved c (takes (kind_at t) (stand t t.at 1) Default 0)) z ∙ takes_last (kind_at t) t Default 0 in
      end_step ∙ ap (λ (c : Bool). after c (takes (kind_at t) t Default 0) (λ (u : LayoutState). finish (16 - i - 1) (settle (beyond u)))) f
      ∙ gone_on_lem (16 - i - 1) (takes (kind_at t) t Default 0) ∙ ap (gone_on (16 - i - 1)) (sym y)

  pub end_bad : (x : LayoutState) (g : Option LayoutState) → b ≡ false → x ≡ stand t t.at 1 → g ≡ step x Default 0 → g ≡ None → Err Layout ≡ o
  end_bad x g f ex eg h = sym (end_last x g f ex eg ∙ ap (gone_on (16 - i - 1)) h)

  pub end_go : (x u : LayoutState) (g : Option LayoutState) → b ≡ false → x ≡ stand t t.at 1 → g ≡ step x Default 0 → g ≡ Some u → o ≡ finish (16 - (i + 1)) u
  end_go x u g f ex eg h =
      let m : 16 - i - 1 ≡ 16 - (i + 1) = omega arith in
      end_last x g f ex eg ∙ ap (gone_on (16 - i - 1)) h ∙ ap (λ (k : ℕ). finish k u) m

pub end_none : (o : Verdict) (i : ℕ) (t : LayoutState) → o ≡ finish (16 - i) t → 16 ≤ i → Err Layout ≡ o
unfolding finish
end_none o i t inv h =
    let e : 16 - i ≡ 0 = omega arith in
    sym (inv ∙ rw e)

pub end_is : (s : LayoutState) → end s ≡ finish 16 s
unfolding end
end_is s = refl

-- no refusal but 14 and 15
pub closed_of_layout : (r : Verdict) (b : Bool) → r ≡ closed b → OfLayout r
closed_of_layout r true e = rw e (omega arith, omega arith)
closed_of_layout r false e = rw e tt

pub ruleset ends = (end_bad, end_rest, end_go, end_none, end_is, closed_of_layout)

pub started : (typ form b i : ℕ) (r : LayoutState) → b ≡ bit_of typ form → i ≡ start_of b → r ≡ enter (stand fresh i 0) → r ≡ start typ form
unfolding start
started typ form b i r eb e q = rw (e, eb) at q

pub start_past : (bit : ℕ) → 14 ≤ bit → 0 ≡ start_of bit
unfolding start_of paper
start_past bit h = sym (get_or-eq_default (starts 0 paper) 0 h)
