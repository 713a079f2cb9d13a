-- What numbers mean, and what references ask: one by one they ask what all ask together.
use mathlib.Core.Path.{◌≡◌, refl, sym, ap, ◌∙◌}
use mathlib.Core.Bool.{Bool, true, false, cond, ◌&&◌}
use mathlib.Core.List.{List, [], ◌∷◌, ◌++◌}
use Prim.Native.Nat.{ℕ, ◌+◌, ◌≤◌, ◌<◌}
use native.Mathlib.Numerals.{add-one}
use native.Mathlib.Omega.{arith}
use lib.ListN.{drop_of_length-le}
use lib.Seq.{drop-cons}
use lib.Dec.{eqb}
use borrow.Author.Tests.{eqb-true, eq-eqb, ne_eqb}
use Rattle.std.specs.Prelude.{Option, Some, None}
use Rattle.columns.specs.declared.Signed.{Signed}
use Rattle.columns.specs.declared.DirectoryNumber.{DirectoryNumber}
use Rattle.columns.specs.Fixed.{NormalSign}
use Rattle.columns.proofs.Tests.{cond_same, and_true, and_assoc, true_false}
use Rattle.references.specs.References.{any, entry124, entry314, class_at, fits}
use Rattle.directory.specs.declared.Fields.{Fields}
use Rattle.directory.specs.declared.Attribute.{Attribute}
use Rattle.directory.specs.declared.Attribute.TheVariants.{Number, Reference}
use Rattle.directory.specs.declared.Entry.{Entry}
use Rattle.directory.specs.declared.Wanted.{Wanted}
use Rattle.directory.specs.Fields.{named, attribute_of, number_of, entry_of}
use Rattle.directory.specs.Rules.{unless0, if_reference, references, all_fit}
use Rattle.directory.specs.Asking.{asking, of_number, of_attribute, reference_count, wants, wanted_of, asks_ok, all_ask_ok, rest_fit}

-- ---- what the numbers mean

pub attribute_minus : (x : Signed) → x.neg ≡ true → Reference (named x.size) ≡ attribute_of x
attribute_minus x h = rw h

pub attribute_plain : (x : Signed) → x.neg ≡ false → Number x.size ≡ attribute_of x
attribute_plain x h = rw h

-- a number that is no nought with a sign comes back
pub attribute_number : (x : Signed) → NormalSign x → number_of (attribute_of x) ≡ x
attribute_number x h = pick x.neg (eqb x.size 0) refl refl
  where
    pick : (b z : Bool) → x.neg ≡ b → eqb x.size 0 ≡ z → number_of (cond b (Reference (named x.size)) (Number x.size)) ≡ record { neg = b; size = x.size }
    pick true true e f = absurd (true_false e (h (eqb-true x.size 0 f)))
    pick true false e f = rw f
    pick false z e f = rw (cond_same (eqb x.size 0) false)

pub entry-is : (x : Fields) (font level colour : Attribute) → font ≡ attribute_of x.font → level ≡ attribute_of x.level → colour ≡ attribute_of x.colour
    → record {
      entity = x.entity.size;
      form = x.form.size;
      structure = named x.structure.size;
      font = font;
      level = level;
      view = named x.view.size;
      matrix = named x.matrix.size;
      display = named x.display.size;
      status = x.status.size;
      weight = x.weight.size;
      colour = colour;
      subscript = x.subscript.size;
    } ≡ entry_of x
unfolding entry_of
entry-is x font level colour e f g = rw (e, f, g)

pub ruleset meaning = (attribute_minus, attribute_plain, entry-is)

-- ---- what a reference asks

pub asks_none : (d : DirectoryNumber) (want : ℕ) → d.0 ≡ 0 → None ≡ of_number d want
asks_none d want e = rw (eq-eqb _ _ e)

pub asks_some : (d : DirectoryNumber) (want : ℕ) → (d.0 ≡ 0 → ⊥) → asking d want ≡ of_number d want
asks_some d want h = rw (ne_eqb _ _ h)

pub asks_number : (a : Attribute) (n want : ℕ) → a ≡ Number n → None ≡ of_attribute a want
asks_number a n want e = rw e

pub asks_reference : (a : Attribute) (d : DirectoryNumber) (want : ℕ) → a ≡ Reference d → asking d want ≡ of_attribute a want
asks_reference a d want e = rw e

module _ (e : Entry) (j : ℕ) (r : Option Wanted) where
  pub wants_structure : j ≡ 0 → r ≡ of_number e.structure any → r ≡ wanted_of e j
  unfolding wanted_of
  wants_structure h p = rw h p

  pub wants_font : j ≡ 1 → r ≡ of_attribute e.font any → r ≡ wanted_of e j
  unfolding wanted_of
  wants_font h p = rw h p

  pub wants_level : j ≡ 2 → r ≡ of_attribute e.level any → r ≡ wanted_of e j
  unfolding wanted_of
  wants_level h p = rw h p

  pub wants_view : j ≡ 3 → r ≡ of_number e.view any → r ≡ wanted_of e j
  unfolding wanted_of
  wants_view h p = rw h p

  pub wants_matrix : j ≡ 4 → r ≡ of_number e.matrix entry124 → r ≡ wanted_of e j
  unfolding wanted_of
  wants_matrix h p = rw h p

  pub wants_display : j ≡ 5 → r ≡ of_number e.display any → r ≡ wanted_of e j
  unfolding wanted_of
  wants_display h p = rw h p

  pub wants_colour : j < 7 → (j ≡ 0 → ⊥) → (j ≡ 1 → ⊥) → (j ≡ 2 → ⊥) → (j ≡ 3 → ⊥) → (j ≡ 4 → ⊥) → (j ≡ 5 → ⊥) → r ≡ of_attribute e.colour entry314 → r ≡ wanted_of e j
  unfolding wanted_of
  wants_colour h a b c d f g p =
      let z : j ≡ 6 = omega arith in
      rw z p

pub ruleset wanting = (asks_none, asks_some, asks_number, asks_reference, wants_structure, wants_font, wants_level, wants_view, wants_matrix, wants_display, wants_colour)

-- ---- all seven

module _ (types : List ℕ) where
  fit_append : (a b : List (ℕ × ℕ)) → all_fit types (a ++ b) ≡ all_fit types a && all_fit types b
  fit_append [] b = refl
  fit_append (r ∷ a) b = rw (fit_append a b) (sym (and_assoc (fits r.1 (class_at types r.0)) (all_fit types a) (all_fit types b)))

  fit_number : (d : DirectoryNumber) (want : ℕ) → all_fit types (unless0 d want) ≡ asks_ok types (of_number d want)
  fit_number d want = pick (eqb d.0 0)
    where
      pick : (b : Bool) → all_fit types (cond b [] ((d.0, want) ∷ [])) ≡ asks_ok types (cond b None (asking d want))
      pick true = refl
      pick false = and_true (fits want (class_at types d.0))

  fit_attribute : (a : Attribute) (want : ℕ) → all_fit types (if_reference a want) ≡ asks_ok types (of_attribute a want)
  fit_attribute (Number n) want = refl
  fit_attribute (Reference d) want = and_true (fits want (class_at types d.0))

  -- one part, and the rest
  fit_both : {p q : Bool} (a b : List (ℕ × ℕ)) → all_fit types a ≡ p → all_fit types b ≡ q → all_fit types (a ++ b) ≡ p && q
  fit_both a b e f = fit_append a b ∙ rw (e, f)

  pub all_fit_lem : (e : Entry) → all_fit types (references e) ≡ all_ask_ok types (wants e)
  all_fit_lem e =
      fit_both (unless0 e.structure any) _ (fit_number e.structure any)
      (fit_both (if_reference e.font any) _ (fit_attribute e.font any)
      (fit_both (if_reference e.level any) _ (fit_attribute e.level any)
      (fit_both (unless0 e.view any) _ (fit_number e.view any)
      (fit_both (unless0 e.matrix entry124) _ (fit_number e.matrix entry124)
      (fit_both (unless0 e.display any) _ (fit_number e.display any)
      (fit_attribute e.colour entry314 ∙ sym (and_true (asks_ok types (of_attribute e.colour entry314)))))))))

  -- ---- a loop over them: from reference j on

  module _ (e : Entry) where
    pub rest_all : rest_fit types e 0 ≡ all_fit types (references e)
    unfolding rest_fit
    rest_all = sym (all_fit_lem e)

    pub rest_next : (j : ℕ) → j < reference_count → rest_fit types e j ≡ asks_ok types (wanted_of e j) && rest_fit types e (j + 1)
    unfolding rest_fit wanted_of
    rest_next j h = rw add-one (ap (all_ask_ok types) (drop-cons (wants e) j None h))

    pub rest_end : (j : ℕ) → reference_count ≤ j → rest_fit types e j ≡ true
    unfolding rest_fit
    rest_end j h = ap (all_ask_ok types) (drop_of_length-le (wants e) {i = j} h)

    -- the same where the test is a call's answer, and f is the answer of the loop
    module _ (f : Bool) (j : ℕ) (inv : rest_fit types e j ≡ f) where
      module _ (h : j < reference_count) (w : Option Wanted) (x : Bool) (ew : w ≡ wanted_of e j) (ex : x ≡ asks_ok types w) where
        step : x && rest_fit types e (j + 1) ≡ f
        step = rw (ex, ew) (sym (rest_next j h) ∙ inv)

        pub rest_on : x ≡ true → rest_fit types e (j + 1) ≡ f
        rest_on t = rw t at step

        pub rest_no : x ≡ false → false ≡ f
        rest_no t = rw t at step

      pub rest_done : reference_count ≤ j → true ≡ f
      rest_done h = sym (rest_end j h) ∙ inv

pub ruleset resting = (rest_all, rest_on, rest_no, rest_done)
