-- G's text where it stands in the file: its lines, what follows the record, and its fields one after the other.
use mathlib.Core.Path.{◌≡◌, refl, sym, ap, ap₂, ◌∙◌}
use mathlib.Core.Bool.{Bool, true, false}
use mathlib.Core.List.{List}
use Prim.Native.Nat.{ℕ, zero, suc, ◌+◌, ◌-◌, ◌*◌, ◌/◌, ◌≤◌, ◌<◌}
use native.Mathlib.Nat.{sub-zero}
use native.Mathlib.Numerals.{add-one}
use native.Mathlib.Omega.{arith}
use lib.ListN.{length, drop}
use borrow.Author.Tests.{eq-eqb, ne_eqb, not-true, not-false}
use Rattle.columns.specs.declared.Fault.TheVariants.{Spelling, Global}
use Rattle.columns.specs.declared.FileLine.{FileLine}
use Rattle.columns.specs.Columns.{text_of}
use Rattle.columns.specs.First.{first_not}
use Rattle.columns.proofs.First.{first_on, first_here, first_end}
use Rattle.cards.specs.declared.Counts.{Counts}
use Rattle.cards.specs.Rules.{Holds}
use Rattle.cards.specs.Shared.{file_line}
use Rattle.values.specs.declared.Value.{Value}
use Rattle.values.specs.Value.{seen}
use Rattle.std.specs.Prelude.{Ok, Err}
use Rattle.records.specs.Record.{Got, blanks, value_at, start_of, behind, position_of, start_at}
use Rattle.records.specs.Global.{global_fits}
use Rattle.records.specs.Items.{got_item}
use Rattle.records.specs.Reading.{Stands, Sane}
use Rattle.records.proofs.Globals.{fits-seen}
use Rattle.records.proofs.Texts.{length-text, small}
use Rattle.model.specs.Read.{global_text, global_line, spelling_line, no_stray}
use Rattle.columns.specs.Refusal.{refusal_at}
use Rattle.read_passes.specs.Passes.{pass_of}
use Rattle.read_passes.specs.Walks.{got_value, value_fits, fields_fit}

-- ---- what was read

-- it stands in its text
pub start_in : (p m : ℕ) (g : Got) → Sane p m g → start_of g ≤ m
start_in p m (Ok x) h = omega arith
start_in p m (Err x) h = omega arith

pub behind_in : (p m : ℕ) (g : Got) → Sane p m g → behind g ≤ m
behind_in p m (Ok x) h = omega arith
behind_in p m (Err x) h = omega arith

-- a field asks nothing of a string but that it is one
fits_got : (t : List ℕ) (n : ℕ) (g : Got) → global_fits n (got_value g) ≡ global_fits n (seen (got_item t g))
unfolding global_fits
fits_got t n (Ok x) = fits-seen t n x.value
fits_got t n (Err x) = refl

-- the position of one more value is behind the one before it
position_more : (w c d : ℕ) (t : List ℕ) (k p : ℕ) → position_of w c d t p (suc k) ≡ behind (value_at w c d t (position_of w c d t p k))
unfolding position_of
position_more w c d t zero p = refl
position_more w c d t (suc k) p = position_more w c d t k (behind (value_at w c d t p))

pub position_next : (w c d : ℕ) (t : List ℕ) (k p : ℕ) → position_of w c d t p (k + 1) ≡ behind (value_at w c d t (position_of w c d t p k))
position_next w c d t k p = rw add-one (position_more w c d t k p)

pub position_first : (w c d : ℕ) (t : List ℕ) (p : ℕ) → p ≡ position_of w c d t p 0
unfolding position_of
position_first w c d t p = refl

-- ---- where the text stands

module _ (f : List ℕ) (c : Counts) (ho : Holds f c) where
  pub text_stands : (s g : ℕ) → s ≡ c.s → g ≡ c.g → Stands f (81 * s) 72 g
  text_stands s g es eg = record {
    wide = omega arith;
    narrow = omega arith;
    size = omega (arith, ho.size, ho.most);
    inside = omega (arith, ho.size);
  }

  pub text-length : length (global_text f c) ≡ c.g * 72
  text-length = length-text f (81 * c.s) 72 c.g (text_stands c.s c.g refl refl)

  pub text_small : c.g * 72 ≤ 16000000
  text_small = small f (81 * c.s) 72 c.g (text_stands c.s c.g refl refl)

  module _ (s g : ℕ) (es : s ≡ c.s) (eg : g ≡ c.g) where
    same_text : text_of f (81 * s) 72 g ≡ global_text f c
    same_text = rw (es, eg)

    -- ---- the lines of a refusal

    pub ends_early : (start at : ℕ) → at ≡ g * 72 → file_line (s + g) ≡ file_line (spelling_line c (global_text f c) start at)
    ends_early start at e = rw (eq-eqb at (length (global_text f c)) (omega (arith, text-length)), es, eg)

    pub starts_there : (start at : ℕ) (r : FileLine) → (at ≡ g * 72 → ⊥) → r ≡ file_line (global_line c start) → r ≡ file_line (spelling_line c (global_text f c) start at)
    starts_there start at r h e = rw (ne_eqb at (length (global_text f c)) (λ z. h (omega (arith, text-length)))) e

    -- ---- what follows the record

    module _ (end q : ℕ) (eq : q ≡ end + blanks (drop end (text_of f (81 * s) 72 g))) where
      q-is : end + blanks (drop end (global_text f c)) ≡ q
      q-is = sym (eq ∙ ap (λ (t : List ℕ). end + blanks (drop end t)) same_text)

      pub stray_none : q ≡ g * 72 → Ok tt ≡ pass_of (no_stray c (global_text f c) end)
      unfolding no_stray
      stray_none e = rw (q-is, eq-eqb q (length (global_text f c)) (omega (arith, text-length)))

      pub stray_some : (l : FileLine) → (q ≡ g * 72 → ⊥) → l ≡ file_line (global_line c q) → Err (refusal_at Spelling l) ≡ pass_of (no_stray c (global_text f c) end)
      unfolding no_stray
      stray_some l h e = rw (q-is, ne_eqb q (length (global_text f c)) (λ z. h (omega (arith, text-length))), e)

    -- ---- its fields, k of them passed

    module _ (p d from k q : ℕ) (v : Got) (ev : v ≡ value_at 72 p d (text_of f (81 * s) 72 g) q) (at : q ≡ position_of 72 p d (global_text f c) from k) where
      value-is : v ≡ value_at 72 p d (global_text f c) (position_of 72 p d (global_text f c) from k)
      value-is = ev ∙ ap₂ (λ (t : List ℕ) (x : ℕ). value_at 72 p d t x) same_text at

      pub fit_next : (next : ℕ) → next ≡ behind v → next ≡ position_of 72 p d (global_text f c) from (k + 1)
      fit_next next e = e ∙ ap behind value-is ∙ sym (position_next 72 p d (global_text f c) k from)

      module _ (n : ℕ) (x : Value) (b : Bool) (ex : x ≡ got_value v) (eb : b ≡ global_fits (3 + k) x) (h : k < n)
          (inv : first_not (value_fits p d (global_text f c) from) k (n - k) ≡ first_not (value_fits p d (global_text f c) from) 0 n) where
        fit_is : b ≡ value_fits p d (global_text f c) from k
        unfolding value_fits
        fit_is = eb ∙ ap (global_fits (3 + k)) ex ∙ fits_got (global_text f c) (3 + k) v ∙ ap (λ (y : Got). global_fits (3 + k) (seen (got_item (global_text f c) y))) value-is

        pub fit_on : b ≡ true → first_not (value_fits p d (global_text f c) from) (k + 1) (n - (k + 1)) ≡ first_not (value_fits p d (global_text f c) from) 0 n
        fit_on e = first_on (value_fits p d (global_text f c) from) k n _ inv h (sym fit_is ∙ e)

        pub fit_here : b ≡ false → (start : ℕ) (l : FileLine) → start ≡ start_of v → l ≡ file_line (global_line c start) → Err (refusal_at Global l) ≡ pass_of (fields_fit c p d (global_text f c) from n)
        unfolding fields_fit start_at
        fit_here e start l es el =
            rw (← first_here (value_fits p d (global_text f c) from) k n _ inv h (sym fit_is ∙ e), ne_eqb k n (λ z. omega arith))
            (ap (λ (y : FileLine). Err (refusal_at Global y)) (el ∙ ap (λ (x : ℕ). file_line (global_line c x)) (es ∙ ap start_of value-is)))

  -- ---- bounds

  module _ (g : ℕ) (eg : g ≡ c.g) where
    pub start_small : (q : ℕ) (v : Got) (start : ℕ) → Sane q (g * 72) v → start ≡ start_of v → start ≤ 16000000
    start_small q v start h e = omega (arith, start_in q (g * 72) v h, text_small)

    pub behind_small : (q : ℕ) (v : Got) (next : ℕ) → Sane q (g * 72) v → next ≡ behind v → next ≤ g * 72
    behind_small q v next h e = omega (arith, behind_in q (g * 72) v h)

    pub stray_small : (q : ℕ) → q ≤ g * 72 → q ≤ 16000000
    stray_small q h = omega (arith, text_small)

pub line_there : (c : Counts) (p s : ℕ) → s ≡ c.s → file_line (s + p / 72 + 1) ≡ file_line (global_line c p)
line_there c p s e = rw e

module _ (c : Counts) (p d : ℕ) (t : List ℕ) (from : ℕ) where
  pub fit_start : (n : ℕ) → first_not (value_fits p d t from) 0 (n - 0) ≡ first_not (value_fits p d t from) 0 n
  fit_start n = rw sub-zero

  pub fit_end : (k n : ℕ) → k ≤ n → n ≤ k → first_not (value_fits p d t from) k (n - k) ≡ first_not (value_fits p d t from) 0 n → Ok tt ≡ pass_of (fields_fit c p d t from n)
  unfolding fields_fit
  fit_end k n h l inv = rw (← first_end (value_fits p d t from) k n _ inv h l, eq-eqb k n (omega arith))

pub ruleset texts = (not-true, not-false, text_stands, ends_early, starts_there, stray_none, stray_some, fit_next, fit_on, fit_here, start_small, behind_small, stray_small, line_there, fit_start, fit_end, position_first)
