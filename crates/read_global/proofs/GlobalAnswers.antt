-- G's answer is put together of its opening, its values, what follows them, and its fields.
use mathlib.Core.Path.{◌≡◌, refl, sym, ap, ◌∙◌}
use mathlib.Core.Bool.{Bool, true, false}
use mathlib.Core.List.{List, []}
use Prim.Native.Nat.{ℕ, zero, suc, ◌+◌, ◌*◌, ◌≤◌, ◌<◌}
use native.Mathlib.Omega.{arith}
use lib.ListN.{length, get_or}
use lib.Seq.{take_all}
use lib.Dec.{eqb}
use Rattle.columns.specs.declared.Fault.{Fault}
use Rattle.columns.specs.declared.Fault.TheVariants.{Spelling, Global}
use Rattle.columns.specs.declared.FileLine.{FileLine}
use Rattle.columns.specs.Columns.{text_of}
use Rattle.columns.specs.First.{first_not}
use Rattle.columns.specs.Refusal.{Outcome, accepted, refused, demand, ◌then◌}
use Rattle.columns.proofs.First.{first_same}
use Rattle.cards.specs.declared.Counts.{Counts}
use Rattle.cards.specs.Rules.{Holds}
use Rattle.cards.specs.Shared.{file_line}
use Rattle.values.specs.Value.{Item, default, seen}
use Rattle.records.specs.declared.Check.{Check}
use Rattle.records.specs.declared.Misspelt.{Misspelt}
use Rattle.records.specs.declared.Opening.{Opening}
use Rattle.std.specs.Prelude.{Option, Some, None, Result, Ok, Err}
use Rattle.records.specs.Record.{Values, values, wrong, value_at, values_at, behind, position_of, start_at}
use Rattle.records.specs.Global.{first_field, opening_of, global_fits}
use Rattle.records.specs.Items.{got_item, items_from}
use Rattle.records.specs.Reading.{SaneCheck, Delimits, checked}
use Rattle.records.proofs.Bounds.{done_count, done_end, failed_start}
use Rattle.records.proofs.Globals.{parameter_above, record_above, opening_in}
use Rattle.records.proofs.Items.{items_are}
use Rattle.model.specs.Read.{GlobalRead, global_read, given, global_text, global_line, spelling_line, field_fits, no_stray, by_values, global_in}
use Rattle.columns.specs.declared.Refusal.{Refusal}
use Rattle.columns.specs.Refusal.{refusal_at}
use Rattle.read_passes.specs.Passes.{FilePass, GlobalAnswer, delimiters, pass_of, answer_of, global_answer}
use Rattle.read_passes.specs.Walks.{or_else, value_fits, fields_fit, values_outcome}
use Rattle.read_passes.proofs.GlobalText.{text_stands, text_small}

-- ---- the values by their positions

module _ (w c d : ℕ) (t : List ℕ) where
  pub get_d_items : (n j p : ℕ) → j < n → get_or (items_from w c d t p n) j default ≡ got_item t (value_at w c d t (position_of w c d t p j))
  unfolding items_from position_of
  get_d_items zero j p h = absurd (omega arith)
  get_d_items (suc n) zero p h = refl
  get_d_items (suc n) (suc j) p h = get_d_items n j (behind (value_at w c d t p)) (omega arith)

  -- value j of a record that is accepted
  pub value-at : (p : ℕ) (vs : List Item) (end j : ℕ) → values_at w c d t p ≡ values vs end → j < length vs → get_or vs j default ≡ got_item t (value_at w c d t (position_of w c d t p j))
  value-at p vs end j e h =
      let i : vs ≡ items_from w c d t p (length vs) = sym (take_all (length vs) vs (omega arith)) ∙ items_are w c d t p vs end (length vs) e (omega arith) in
      ap (λ (us : List Item). get_or us j default) i ∙ get_d_items (length vs) j p h

module _ (c : Counts) (t : List ℕ) (p d from : ℕ) where
  fields_same : (vs : List Item) (end : ℕ) → values_at 72 p d t from ≡ values vs end → first_not (field_fits vs) 0 (length vs) ≡ first_not (value_fits p d t from) 0 (length vs)
  unfolding value_fits
  fields_same vs end e =
      first_same (field_fits vs) (value_fits p d t from) (length vs) 0
      (λ j lo hi. ap (λ (v : Item). global_fits (first_field + j) (seen v)) (value-at 72 p d t from vs end j e (omega arith)))

  by_parts : (o : Outcome (Unit {0})) (b : Bool) (n : Fault) (q : ℕ) (g : GlobalRead) → pass_of (o then λ _. demand b n q then λ _. accepted g) ≡ or_else (pass_of o) (pass_of (demand b n q))
  by_parts (accepted x) true n q g = refl
  by_parts (accepted x) false n q g = refl
  by_parts (refused m l) b n q g = refl

  values_pass : (vs : List Item) (end : ℕ) → values_at 72 p d t from ≡ values vs end
      → pass_of (values_outcome c t p d from) ≡ or_else (pass_of (no_stray c t end)) (pass_of (fields_fit c p d t from (length vs)))
  unfolding values_outcome fields_fit
  values_pass vs end e =
      rw e (by_parts (no_stray c t end) (eqb (first_not (field_fits vs) 0 (length vs)) (length vs)) Global (global_line c (start_at 72 p d t from (first_not (field_fits vs) 0 (length vs)))) (global_read p d (given first_field vs))
      ∙ ap (λ (k : ℕ). or_else (pass_of (no_stray c t end)) (pass_of (demand (eqb k (length vs)) Global (global_line c (start_at 72 p d t from k))))) (fields_same vs end e))

  pub pass_done : (k : Result Check Misspelt) (x : Check) (r : FilePass) → k ≡ checked (values_at 72 p d t from) → k ≡ Ok x
      → r ≡ or_else (pass_of (no_stray c t x.end)) (pass_of (fields_fit c p d t from x.count)) → r ≡ pass_of (values_outcome c t p d from)
  pass_done k x r ek e er = by (values_at 72 p d t from) refl (sym ek ∙ e)
    where
      by : (vs : Values) → values_at 72 p d t from ≡ vs → checked vs ≡ Ok x → r ≡ pass_of (values_outcome c t p d from)
      by (values vs to) ev h =
          let en : length vs ≡ x.count = cc in
          let ee : to ≡ x.end = cc in
          er ∙ sym (values_pass vs to ev ∙ rw (en, ee))
      by (wrong f s at) ev h = let z : ◌≡◌ {A = ℕ} 0 1 = cc in absurd (omega arith)

  pub pass-wrong : (k : Result Check Misspelt) (x : Misspelt) (l : FileLine) → k ≡ checked (values_at 72 p d t from) → k ≡ Err x
      → l ≡ file_line (spelling_line c t x.start x.at) → Err (refusal_at x.fault l) ≡ pass_of (values_outcome c t p d from)
  unfolding values_outcome
  pass-wrong k x l ek e el = by (values_at 72 p d t from) refl (sym ek ∙ e)
    where
      by : (vs : Values) → values_at 72 p d t from ≡ vs → checked vs ≡ Err x → Err (refusal_at x.fault l) ≡ pass_of (by_values c t p d from (values_at 72 p d t from))
      by (values vs to) ev h = let z : ◌≡◌ {A = ℕ} 0 1 = cc in absurd (omega arith)
      by (wrong f s₁ at₁) ev h =
          let en : f ≡ x.fault = cc in
          let es : s₁ ≡ x.start = cc in
          let ea : at₁ ≡ x.at = cc in
          rw (el, ev, en, es, ea)

  answer-parts : (o : Outcome (Unit {0})) (b : Bool) (n : Fault) (q : ℕ) (gs : List (ℕ × Item))
      → answer_of (pass_of {A = GlobalRead} (o then λ _. demand b n q then λ _. accepted (global_read p d gs))) p d ≡ global_answer (o then λ _. demand b n q then λ _. accepted (global_read p d gs))
  answer-parts (accepted x) true n q gs = refl
  answer-parts (accepted x) false n q gs = refl
  answer-parts (refused m l) b n q gs = refl

  -- the values tell no other delimiters
  answer_values : answer_of (pass_of (values_outcome c t p d from)) p d ≡ global_answer (values_outcome c t p d from)
  unfolding values_outcome
  answer_values = by (values_at 72 p d t from)
    where
      by : (vs : Values) → answer_of (pass_of (by_values c t p d from vs)) p d ≡ global_answer (by_values c t p d from vs)
      by (values vs end) =
          answer-parts (no_stray c t end) (eqb (first_not (field_fits vs) 0 (length vs)) (length vs)) Global (global_line c (start_at 72 p d t from (first_not (field_fits vs) 0 (length vs)))) (given first_field vs)
      by (wrong n s at) = refl

  answer_alone : (o : Outcome (Unit {0})) → answer_of (pass_of o) p d ≡ global_answer (o then λ _. accepted (global_read p d []))
  answer_alone (accepted x) = refl
  answer_alone (refused n l) = refl

-- ---- one check after another

module _ (x y : FilePass) where
  pub else_here : (n : Refusal FileLine) (a : FilePass) → a ≡ x → a ≡ Err n → Err n ≡ or_else x y
  else_here n a e h = rw (← e, h)

  pub else_next : (a r : FilePass) → a ≡ x → a ≡ Ok tt → r ≡ y → r ≡ or_else x y
  else_next a r e h k = rw (← e, h) k

module _ (x : FilePass) (p d : ℕ) where
  pub answers_good : x ≡ Ok tt → Ok (delimiters p d) ≡ answer_of x p d
  answers_good e = rw e

  pub answers_refused : (n : Refusal FileLine) → x ≡ Err n → Err n ≡ answer_of x p d
  answers_refused n e = rw e

-- ---- the opening

module _ (f : List ℕ) (c : Counts) (s g : ℕ) (es : s ≡ c.s) (eg : g ≡ c.g) where
  same_text : text_of f (81 * s) 72 g ≡ global_text f c
  same_text = rw (es, eg)

  module _ (p d from : ℕ) (k : Result Check Misspelt) (ek : k ≡ checked (values_at 72 p d (text_of f (81 * s) 72 g) from)) where
    ek_is : k ≡ checked (values_at 72 p d (global_text f c) from)
    ek_is = ek ∙ ap (λ (t : List ℕ). checked (values_at 72 p d t from)) same_text

    pub record_done : (x : Check) (r : FilePass) → k ≡ Ok x
        → r ≡ or_else (pass_of (no_stray c (global_text f c) x.end)) (pass_of (fields_fit c p d (global_text f c) from x.count)) → r ≡ pass_of (values_outcome c (global_text f c) p d from)
    record_done x r e er = pass_done c (global_text f c) p d from k x r ek_is e er

    pub record_wrong : (x : Misspelt) (l : FileLine) → k ≡ Err x → l ≡ file_line (spelling_line c (global_text f c) x.start x.at) → Err (refusal_at x.fault l) ≡ pass_of (values_outcome c (global_text f c) p d from)
    record_wrong x l e el = pass-wrong c (global_text f c) p d from k x l ek_is e el

  module _ (v : Option Opening) (eo : v ≡ opening_of (text_of f (81 * s) 72 g)) where
    eo_is : opening_of (global_text f c) ≡ v
    eo_is = sym (eo ∙ ap opening_of same_text)

    pub opening-wrong : v ≡ None → Err (refusal_at Spelling (file_line (s + 1))) ≡ global_answer (global_in f c)
    unfolding global_in
    opening-wrong e = rw (eo_is, e, es)

    module _ (o : Opening) (e : v ≡ Some o) (x : FilePass) (r : GlobalAnswer) (er : r ≡ answer_of x o.parameter o.closing) where
      pub opening_last : o.last ≡ true → x ≡ pass_of (no_stray c (global_text f c) o.next) → r ≡ global_answer (global_in f c)
      unfolding global_in
      opening_last l ex = rw (eo_is, e, l) (er ∙ ap (λ (y : FilePass). answer_of y o.parameter o.closing) ex ∙ answer_alone c (global_text f c) o.parameter o.closing o.next (no_stray c (global_text f c) o.next))

      pub opening-more : o.last ≡ false → x ≡ pass_of (values_outcome c (global_text f c) o.parameter o.closing o.next) → r ≡ global_answer (global_in f c)
      unfolding global_in values_outcome
      opening-more l ex = rw (eo_is, e, l) (er ∙ ap (λ (y : FilePass). answer_of y o.parameter o.closing) ex ∙ answer_values c (global_text f c) o.parameter o.closing o.next)

-- ---- bounds

module _ (v : Option Opening) (o : Opening) (e : v ≡ Some o) (h : Delimits 8 v) where
  pub parameter_some : 0 < o.parameter
  parameter_some = omega (arith, parameter_above 8 e h)

  pub closing_some : 0 < o.closing
  closing_some = omega (arith, record_above 8 e h)

  pub behind-opening : (f : List ℕ) (c : Counts) → Holds f c → o.next ≤ c.g * 72
  behind-opening f c ho = omega (arith, opening_in 8 e h, ho.has_g)

module _ (f : List ℕ) (c : Counts) (ho : Holds f c) (g p : ℕ) (eg : g ≡ c.g) (k : Result Check Misspelt) (h : SaneCheck p (g * 72) k) where
  pub wrong_small : (x : Misspelt) → k ≡ Err x → x.start ≤ 16000000
  wrong_small x e = omega (arith, failed_start p (g * 72) e h, text_small f c ho)

  module _ (x : Check) (e : k ≡ Ok x) where
    pub done_small : x.count ≤ 16000000
    done_small = omega (arith, done_count p (g * 72) e h, done_end p (g * 72) e h, text_small f c ho)

    pub done_within : x.end ≤ c.g * 72
    done_within = omega (arith, done_end p (g * 72) e h)

pub ruleset answering = (text_stands, else_here, else_next, answers_good, answers_refused, record_done, record_wrong, opening-wrong, opening_last, opening-more, parameter_some, closing_some, behind-opening, wrong_small, done_small, done_within)
