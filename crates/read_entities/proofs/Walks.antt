-- One walk over an entity's values: what is left of it, from the layout reached, has the answer of all. Assumes nothing.
use mathlib.Core.Path.{◌≡◌, refl, sym, ap, ap₂, ◌∙◌}
use mathlib.Core.Bool.{Bool, true, false, cond}
use mathlib.Core.List.{List, [], ◌∷◌, ◌++◌}
use Prim.Native.Nat.{ℕ, zero, suc, ◌+◌, ◌-◌, ◌*◌, ◌^◌, ◌≤◌, ◌<◌}
use native.Mathlib.Nat.{add-zero, sub-zero}
use native.Mathlib.Omega.{arith}
use lib.ListN.{length, replicate}
use Rattle.columns.specs.Columns.{text_of}
use Rattle.values.specs.declared.Value.{Value}
use Rattle.values.specs.declared.Value.TheVariants.{Default, Whole, Real, Text}
use Rattle.values.specs.Value.{Item, default, whole, real, item_of, is_default, head, spelled, is_missing}
use Rattle.values.specs.Writing.{front}
use Rattle.std.specs.Prelude.{Ok, Err}
use Rattle.records.specs.declared.Found.{Found}
use Rattle.records.specs.declared.Misspelt.{Misspelt}
use Rattle.records.specs.Record.{Got, found_at, Values, values, wrong, more, value_at, values_at, trim, trimmed}
use Rattle.records.specs.Reading.{Stands, Writable, Sane}
use Rattle.records.specs.Written.{copied}
use Rattle.records.proofs.Texts.{length-text, small}
use Rattle.records.proofs.Bounds.{next_more, next_in, next_less, can_write}
use Rattle.records.proofs.Puts.{inside, copied-text, spelled-length, copied_few}
use Rattle.records.proofs.Steps.{at_last, at_more, at-wrong}
use Rattle.layouts.specs.declared.LayoutState.{LayoutState}
use Rattle.std.specs.Prelude.{Option, Some, None}
use Rattle.layouts.specs.Named.{named}
use Rattle.layouts.specs.Machine.{stand, runs_on}
use Rattle.layouts.specs.Walk.{stepped, run}
use Rattle.layouts.proofs.Steps.{runs_left, step_runs}
use Rattle.layouts.proofs.Runs.{feed-stepped, run_bad, run-append}
use Rattle.read_entities.specs.Walking.{EntityWalked, walked_to, carried_length, owing, state_after, length_after, owed_after, walked_from}

abbrev done : Option LayoutState → ℕ → EntityWalked
done g size = Ok (walked_to g size)

-- ---- defaults

run_default : (types : List ℕ) (g : Option LayoutState) (n : ℕ) → run types (stepped types g Default) (replicate n default) ≡ run types g (replicate (suc n) default)
unfolding run
run_default types g n = ap (λ (x : Option LayoutState). run types x (replicate n default)) (sym (feed-stepped types [] g Default))

module _ (types : List ℕ) (g : Option LayoutState) (i n : ℕ) {f : Option LayoutState} (inv : run types g (replicate (n - i) default) ≡ f) where
  pub defaults_none : n ≤ i → g ≡ f
  unfolding run
  defaults_none h =
      let z : n - i ≡ 0 = omega arith in
      rw z at inv

  pub defaults_more : {u : Option LayoutState} → i < n → u ≡ stepped types g Default → run types u (replicate (n - (i + 1)) default) ≡ f
  defaults_more {u} h e =
      let z : suc (n - (i + 1)) ≡ n - i = omega arith in
      ap (λ (x : Option LayoutState). run types x (replicate (n - (i + 1)) default)) e ∙ run_default types g (n - (i + 1)) ∙ ap (λ (k : ℕ). run types g (replicate k default)) z ∙ inv

pub ruleset defaults = (defaults_none, defaults_more, sub-zero)

-- ---- behind a value

module _ (types : List ℕ) {g : Option LayoutState} (owed : ℕ) (v : Value) (b : Bool) (eb : b ≡ is_missing v) where
  pub state_same : b ≡ true → g ≡ state_after types g owed v
  state_same e = rw (← eb, e)

  module _ (e : b ≡ false) where
    pub state_bad : g ≡ None → None ≡ state_after types g owed v
    state_bad eg = rw (← eb, e, eg, run_bad types (replicate owed default))

    module _ (s : LayoutState) (eg : g ≡ Some s) (t : LayoutState) where
      -- none is owed, and more of its kind follow
      pub state_runs : (y : Bool) → owed ≡ 0 → y ≡ runs_on s v → y ≡ true → t ≡ stand s s.at (s.left - 1) → Some t ≡ state_after types g owed v
      unfolding run
      state_runs y z ey h et = rw (← eb, e, eg, z) (step_runs s t v (named types v) y ey h et)

      pub state-given : (h u : Option LayoutState) → t ≡ stand s s.at s.left → h ≡ run types (Some t) (replicate owed default) → u ≡ stepped types h v → u ≡ state_after types g owed v
      state-given h u et eh eu = rw (← eb, e, eg) (eu ∙ ap (λ (x : Option LayoutState). stepped types x v) (eh ∙ ap (λ (x : LayoutState). run types (Some x) (replicate owed default)) et))

pub ruleset states = (state_same, state_bad, state_runs, state-given, runs_left)

module _ (size owed : ℕ) {v : Value} where
  pub measured_whole : {neg : Bool} {n r : ℕ} → v ≡ Whole neg n → r ≡ length (spelled (whole neg n)) → size + 3 * owed + 3 + r ≡ length_after size owed v
  measured_whole e q = rw (e, q) (omega arith)

  pub measured_real : {neg : Bool} {m : ℕ} {eneg : Bool} {x : ℕ} {double : Bool} {r : ℕ} → v ≡ Real neg m eneg x double → r ≡ length (spelled (real neg m eneg x double)) → size + 3 * owed + 3 + r ≡ length_after size owed v
  measured_real e q = rw (e, q) (omega arith)

  pub measured_text : {start count r : ℕ} → v ≡ Text start count → r ≡ length (head count) → size + 3 * owed + 3 + r + count ≡ length_after size owed v
  measured_text e q = rw (e, q)

  -- a string is short
  module _ {start count : ℕ} (r : ℕ) (e : v ≡ Text start count) (few : copied v ≤ 999) (h : r ≤ 44) where
    pub text_light : size + 3 * owed + 3 + r + count ≤ size + 3 * owed + 1046
    text_light = omega (arith, copied-text e)

    pub text-fits : size < 2 ^ 60 → owed < 2 ^ 60 → size + 3 * owed + 3 + r + count < 2 ^ 64
    text-fits p q = omega (arith, copied-text e)

pub ruleset measures = (measured_whole, measured_real, measured_text, text_light, text-fits)

module _ (owed : ℕ) (v : Value) (b : Bool) (eb : b ≡ is_missing v) where
  pub owed_more : b ≡ true → owed + 1 ≡ owed_after owed v
  owed_more e = rw (← eb, e)

  pub owed_none : b ≡ false → 0 ≡ owed_after owed v
  owed_none e = rw (← eb, e)

pub ruleset owes = (owed_more, owed_none)

-- ---- defaults that are owed

one_default : (n : ℕ) (us : List Item) → replicate n default ++ (default ∷ us) ≡ replicate (suc n) default ++ us
one_default zero us = refl
one_default (suc n) us = ap (λ (l : List Item). default ∷ l) (one_default n us)

owing_default : (owed : ℕ) (us : List Item) → owing owed (trim default us) ≡ owing (owed + 1) us
owing_default owed [] = refl
owing_default owed (u ∷ us) =
    let z : suc owed ≡ owed + 1 = omega arith in
    one_default owed (u ∷ us) ∙ ap (λ (k : ℕ). replicate k default ++ (u ∷ us)) z

owing-given : (owed : ℕ) (i : Item) (us : List Item) → is_default i ≡ false → owing owed (trim i us) ≡ replicate owed default ++ (i ∷ us)
owing-given owed i [] e = rw e
owing-given owed i (u ∷ us) e = refl

pub owing-none : (us : List Item) → owing 0 us ≡ us
owing-none [] = refl
owing-none (u ∷ us) = refl

defaults_length : (n : ℕ) (us : List Item) → carried_length (replicate n default ++ us) ≡ 3 * n + carried_length us
unfolding carried_length spelled
defaults_length zero us = omega arith
defaults_length (suc n) us = omega (arith, defaults_length n us)

-- a value that is given, behind the defaults owed
module _ (types : List ℕ) (g : Option LayoutState) (owed : ℕ) (t : List ℕ) (v : Value) (us : List Item) (e : is_default (item_of t v) ≡ false) where
  given-state : run types g (owing owed (trim (item_of t v) us)) ≡ run types (stepped types (run types g (replicate owed default)) v) (owing 0 us)
  unfolding run
  given-state =
      ap (run types g) (owing-given owed (item_of t v) us e) ∙ run-append types g (replicate owed default) (item_of t v ∷ us)
      ∙ ap₂ (run types) (feed-stepped types t (run types g (replicate owed default)) v) (sym (owing-none us))

  given-length : (size : ℕ) → Writable (length t) v → size + carried_length (owing owed (trim (item_of t v) us)) ≡ size + 3 * owed + 3 + length (front v) + copied v + carried_length (owing 0 us)
  unfolding carried_length
  given-length size h =
      let a = ap carried_length (owing-given owed (item_of t v) us e) ∙ defaults_length owed (item_of t v ∷ us) in
      let b = ap carried_length (owing-none us) in
      omega (arith, a, b, spelled-length t v (inside (length t) v h))

module _ (types : List ℕ) (g : Option LayoutState) (owed size : ℕ) (t : List ℕ) where
  walk_one : (v : Value) (vals : Values) → Writable (length t) v
      → walked_from types g owed size (more (item_of t v) vals) ≡ walked_from types (state_after types g owed v) (owed_after owed v) (length_after size owed v) vals
  walk_one v (wrong fault start at) h = refl
  walk_one Default (values vs end) h = ap (λ (l : List Item). done (run types g l) (size + carried_length l)) (owing_default owed (trimmed vs))
  walk_one (Whole neg n) (values vs end) h = ap₂ done (given-state types g owed t (Whole neg n) (trimmed vs) refl) (given-length types g owed t (Whole neg n) (trimmed vs) refl size h)
  walk_one (Real neg m eneg e double) (values vs end) h = ap₂ done (given-state types g owed t (Real neg m eneg e double) (trimmed vs) refl) (given-length types g owed t (Real neg m eneg e double) (trimmed vs) refl size h)
  walk_one (Text start count) (values vs end) h = ap₂ done (given-state types g owed t (Text start count) (trimmed vs) refl) (given-length types g owed t (Text start count) (trimmed vs) refl size h)

  walk_all : (v : Value) (next : ℕ) → Writable (length t) v → walked_from types g owed size (values (item_of t v ∷ []) next) ≡ done (state_after types g owed v) (length_after size owed v)
  unfolding run carried_length
  walk_all v next h = walk_one v (values [] next) h ∙ ap (done (state_after types g owed v)) (add-zero (length_after size owed v))

-- ---- the loop over a record: f is the answer

module _ {file : List ℕ} {base lines : ℕ} (st : Stands file base 64 lines) {c d : ℕ} (pc : 0 < c) (pd : 0 < d) (types : List ℕ) where
  module _ (q owed size : ℕ) (g : Option LayoutState) {got : Got} {f : EntityWalked} (h : q ≤ lines * 64) (eg : got ≡ value_at 64 c d (text_of file base 64 lines) q)
      (inv : walked_from types g owed size (values_at 64 c d (text_of file base 64 lines) q) ≡ f) where
    pub walk_wrong : {x : Misspelt} → got ≡ Err x → Err x.fault ≡ f
    walk_wrong e = sym (ap (walked_from types g owed size) (at-wrong 64 c d (text_of file base 64 lines) pc pd q (sym eg ∙ e))) ∙ inv

    module _ (sane : Sane q (lines * 64) got) {x : Found} (e : got ≡ Ok x) {u : Option LayoutState} {size' : ℕ}
        (eu : u ≡ state_after types g owed x.value) (el : size' ≡ length_after size owed x.value) where
      can : Writable (length (text_of file base 64 lines)) x.value
      can = rw (length-text file base 64 lines st) (can_write q (lines * 64) e sane)

      pub walk_last : x.last ≡ true → Ok (walked_to u size') ≡ f
      walk_last l =
          let t = text_of file base 64 lines in
          ap₂ done eu el
          ∙ sym (ap (walked_from types g owed size) (at_last 64 c d t pc pd q (sym eg ∙ e ∙ ap (found_at x.value x.start x.next) l)) ∙ walk_all types g owed size t x.value x.next can) ∙ inv

      pub walk_more : {o' : ℕ} → o' ≡ owed_after owed x.value → x.last ≡ false → walked_from types u o' size' (values_at 64 c d (text_of file base 64 lines) x.next) ≡ f
      walk_more eo l =
          let t = text_of file base 64 lines in
          let i : q ≤ length t = omega (arith, length-text file base 64 lines st) in
          rw (eu, eo, el)
          (sym (ap (walked_from types g owed size) (at_more 64 c d t pc pd q i (sym eg ∙ e ∙ ap (found_at x.value x.start x.next) l)) ∙ walk_one types g owed size t x.value (values_at 64 c d t x.next) can) ∙ inv)

-- ---- its bounds: each value takes a character, and its line 1046 bytes at most

lighter : (b : Bool) (size size' owed o' q next : ℕ) → size + 1100 * owed ≤ 1100 * q → q < next → size' ≤ size + 3 * owed + 1046
    → size' ≡ cond b size size' → o' ≡ cond b (owed + 1) 0 → size' + 1100 * o' ≤ 1100 * next
lighter true size size' owed o' q next h l k es eo = omega arith
lighter false size size' owed o' q next h l k es eo = omega arith

same_length : (b : Bool) (size size' x : ℕ) → size' ≡ cond b size x → size' ≡ cond b size size'
same_length true size size' x e = e
same_length false size size' x e = refl

module _ (q owed size lines : ℕ) (i : size + 1100 * owed ≤ 1100 * q) {got : Got} (sane : Sane q (lines * 64) got) {x : Found} (e : got ≡ Ok x)
    {o' size' : ℕ} (el : size' ≡ length_after size owed x.value) (k : size' ≤ size + 3 * owed + 1046) (eo : o' ≡ owed_after owed x.value) where
  pub light_next : size' + 1100 * o' ≤ 1100 * x.next
  light_next =
      lighter (is_missing x.value) size size' owed o' q x.next i (next_more q (lines * 64) e sane) k
      (same_length (is_missing x.value) size size' (size + 3 * owed + 3 + length (front x.value) + copied x.value) el) eo

  pub light_all : size' ≤ 70400 * lines
  light_all = omega (arith, light_next, next_in q (lines * 64) e sane)

module _ {file : List ℕ} {base lines : ℕ} (st : Stands file base 64 lines) (q owed size : ℕ) (h : q ≤ lines * 64) (i : size + 1100 * owed ≤ 1100 * q) where
  pub length_small : size < 2 ^ 60
  length_small = omega (arith, small file base 64 lines st)

  pub owed_small : owed < 2 ^ 60
  owed_small = omega (arith, small file base 64 lines st)

pub copied-fits : (q m : ℕ) {got : Got} {x : Found} → got ≡ Ok x → Sane q m got → copied x.value ≤ 999
copied-fits q m {got} {x} e h = copied_few m x.value (can_write q m e h)

pub ruleset walks = (walk_wrong, walk_last, walk_more, light_next, light_all, length_small, owed_small, copied-fits, next_in, next_less)
