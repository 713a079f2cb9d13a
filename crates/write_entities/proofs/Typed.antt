-- What a value names in a sheet, as far as its place asks for it. Assumes nothing.
use mathlib.Core.Path.{◌≡◌, refl, sym, ap, ◌∙◌}
use mathlib.Core.Bool.{Bool, true, false, not, ◌||◌, ◌&&◌}
use mathlib.Core.List.{List, [], ◌∷◌}
use Prim.Native.Nat.{ℕ, ◌≤◌, ◌<◌}
use native.Mathlib.Omega.{arith}
use lib.Dec.{leb, ltb, eqb}
use borrow.Author.Tests.{le-leb, lt-leb, ltb-false, eq-eqb}
use denote.Enum.Declared.{tag_of}
use types.Run.{OneOf, miss}
use Rattle.references.specs.References.{fits}
use Rattle.values.specs.declared.Value.{Value}
use Rattle.values.specs.declared.Value.TheVariants.{Default, Whole, Real, Text}
use Rattle.values.specs.contracts.Value.{the_type as value_type}
use Rattle.layouts.specs.declared.Kind.{Kind}
use Rattle.layouts.specs.declared.Kind.TheVariants.{R, Given, Weight, S, I, Flag, Count, Outer, Upper1, Upper2, Degree1, Degree2, P, Q, Bound, Rest}
use Rattle.layouts.specs.declared.LayoutState.{LayoutState}
use Rattle.layouts.specs.declared.LayoutPlace.{LayoutPlace}
use Rattle.layouts.specs.contracts.Kind.{the_type as kind_type}
use Rattle.layouts.specs.Table.{place_at}
use Rattle.layouts.specs.Machine.{kind_at, rests, moved, refer, takes, step}
use Rattle.layouts.specs.Named.{named}
use Rattle.read_entities.proofs.Names.{negative_names, whole_names}
use Rattle.write_lines.specs.Classes.{sheet_types, some_at, table_size, Tabled}
use Rattle.write_lines.proofs.Others.{names-other}
use Rattle.write_lines.proofs.Tables.{number_some}
use Rattle.write_entities.specs.Typed.{asks_type, some_named}

pub ruleset values = (negative_names, whole_names, names-other)

-- ---- where no type is asked for

module _ (n : ℕ) {v : Value} where
  pub negative_some : {neg : Bool} {size : ℕ} → v ≡ Whole neg size → neg ≡ true → 0 ≡ some_named n v
  negative_some e h = rw (e, h)

  pub whole_some : {neg : Bool} {size r : ℕ} → v ≡ Whole neg size → neg ≡ false → r ≡ some_at n size → r ≡ some_named n v
  whole_some e h k = rw (e, h) k

pub other_some : (n : ℕ) (v : Value) → OneOf (0 ∷ 2 ∷ 3 ∷ []) (tag_of value_type v) → 0 ≡ some_named n v
other_some n Default h = refl
other_some n (Whole neg size) h = absurd (miss (0 ∷ 2 ∷ 3 ∷ []) 1 tt h)
other_some n (Real neg m eneg e double) h = refl
other_some n (Text start count) h = refl

pub ruleset somes = (negative_some, whole_some, other_some)

-- ---- the places that ask for one

module _ {k : Kind} {want : ℕ} where
  pub asks_p : k ≡ P want → ltb 0 want ≡ asks_type k
  asks_p e = rw e

  pub asks_q : k ≡ Q want → ltb 0 want ≡ asks_type k
  asks_q e = rw e

  pub asks_bound : k ≡ Bound want → ltb 0 want ≡ asks_type k
  asks_bound e = rw e

pub asks_none : (k : Kind) → OneOf (0 ∷ 1 ∷ 2 ∷ 3 ∷ 4 ∷ 5 ∷ 6 ∷ 7 ∷ 8 ∷ 9 ∷ 10 ∷ 11 ∷ 15 ∷ []) (tag_of kind_type k) → false ≡ asks_type k
asks_none R h = refl
asks_none Given h = refl
asks_none Weight h = refl
asks_none S h = refl
asks_none (I low high) h = refl
asks_none Flag h = refl
asks_none Count h = refl
asks_none Outer h = refl
asks_none Upper1 h = refl
asks_none Upper2 h = refl
asks_none Degree1 h = refl
asks_none Degree2 h = refl
asks_none (P want) h = absurd (miss (0 ∷ 1 ∷ 2 ∷ 3 ∷ 4 ∷ 5 ∷ 6 ∷ 7 ∷ 8 ∷ 9 ∷ 10 ∷ 11 ∷ 15 ∷ []) 12 tt h)
asks_none (Q want) h = absurd (miss (0 ∷ 1 ∷ 2 ∷ 3 ∷ 4 ∷ 5 ∷ 6 ∷ 7 ∷ 8 ∷ 9 ∷ 10 ∷ 11 ∷ 15 ∷ []) 13 tt h)
asks_none (Bound want) h = absurd (miss (0 ∷ 1 ∷ 2 ∷ 3 ∷ 4 ∷ 5 ∷ 6 ∷ 7 ∷ 8 ∷ 9 ∷ 10 ∷ 11 ∷ 15 ∷ []) 14 tt h)
asks_none Rest h = refl

module _ (n : ℕ) (s : LayoutState) where
  pub looks_few : n ≤ table_size → true ≡ (leb n table_size || asks_type (kind_at s))
  looks_few h = rw (le-leb n table_size h)

  pub looks_many : table_size < n → (p : LayoutPlace) (b : Bool) → p ≡ place_at s.at → b ≡ asks_type p.kind → b ≡ (leb n table_size || asks_type (kind_at s))
  looks_many h p b e q = rw (lt-leb n table_size h) (q ∙ ap (λ (x : LayoutPlace). asks_type x.kind) e)

pub ruleset looks = (asks_p, asks_q, asks_bound, asks_none, looks_few, looks_many)

-- ---- a step takes any class of an entry where none is asked for

module _ (c d : ℕ) (like : leb 1 c ≡ leb 1 d) where
  same_refer : (free : Bool) (want : ℕ) (s : LayoutState) (v : Value) → ltb 0 want ≡ false → refer free want s v c ≡ refer free want s v d
  same_refer free want s Default h = refl
  same_refer free want s (Whole neg m) h =
      let z : want ≡ 0 = omega (arith, ltb-false 0 want h) in
      rw (z, like)
  same_refer free want s (Real neg m eneg e double) h = refl
  same_refer free want s (Text start count) h = refl

  same_takes : (k : Kind) (s : LayoutState) (v : Value) → asks_type k ≡ false → takes k s v c ≡ takes k s v d
  unfolding takes
  same_takes R s v h = refl
  same_takes Given s v h = refl
  same_takes Weight s v h = refl
  same_takes S s v h = refl
  same_takes (I low high) s v h = refl
  same_takes Flag s v h = refl
  same_takes Count s v h = refl
  same_takes Outer s v h = refl
  same_takes Upper1 s v h = refl
  same_takes Upper2 s v h = refl
  same_takes Degree1 s v h = refl
  same_takes Degree2 s v h = refl
  same_takes (P want) s v h = same_refer true want s v h
  same_takes (Q want) s v h = same_refer false want s v h
  same_takes (Bound want) s v h = same_refer (not (eqb s.k2 1)) want s v h
  same_takes Rest s v h = refl

  same_step : (s : LayoutState) (v : Value) → asks_type (kind_at s) ≡ false → step s v c ≡ step s v d
  unfolding step
  same_step s v h = ap (moved (rests (kind_at s))) (same_takes (kind_at s) s v h)

module _ (classes : List ℕ) (n : ℕ) (t : List ℕ) (tab : Tabled classes n t) where
  some_like : (v : Value) → leb 1 (some_named n v) ≡ leb 1 (named (sheet_types t) v)
  unfolding named
  some_like Default = refl
  some_like (Whole true m) = refl
  some_like (Whole false m) = number_some classes n t m tab
  some_like (Real neg m eneg e double) = refl
  some_like (Text start count) = refl

  module _ (s : LayoutState) (v : Value) (b : Bool) (eb : b ≡ (leb n table_size || asks_type (kind_at s))) (r : ℕ) where
    pub named_class : b ≡ true → r ≡ named (sheet_types t) v → step s v r ≡ step s v (named (sheet_types t) v)
    named_class h e = ap (step s v) e

    pub named_some : b ≡ false → r ≡ some_named n v → step s v r ≡ step s v (named (sheet_types t) v)
    named_some h e = ap (step s v) e ∙ same_step (some_named n v) (named (sheet_types t) v) (some_like v) s v (neither (leb n table_size) (asks_type (kind_at s)) (sym eb ∙ h))
      where
        neither : (a c : Bool) → (a || c) ≡ false → c ≡ false
        neither true c e = absurd (no e)
          where
            no : true ≡ false → ⊥
            no e = let z : ◌≡◌ {A = ℕ} 0 1 = cc in omega arith
        neither false c e = e

pub ruleset named_as_asked = (named_class, named_some)
