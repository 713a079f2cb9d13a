-- What a caller of `before` has in hand: a file that is ready for the last pass, and its delimiters; and where an entry's parameters stand.
use mathlib.Core.Path.{◌≡◌, refl, sym, ap, ◌∙◌}
use mathlib.Core.List.{List}
use Prim.Native.Nat.{ℕ, ◌+◌, ◌≤◌, ◌<◌}
use native.Mathlib.Omega.{arith}
use Rattle.columns.specs.declared.ParameterLine.{ParameterLine}
use Rattle.columns.specs.Refusal.{Outcome, accepted, refused}
use Rattle.cards.specs.declared.Counts.{Counts}
use Rattle.cards.specs.Cards.{entries, entry_line}
use Rattle.std.specs.Prelude.{Option, Some, None}
use Rattle.directory.specs.declared.Spelt.{Spelt}
use Rattle.directory.specs.Lines.{entry_at, spelt_entry}
use Rattle.directory.proofs.Within.{same_spelt}
use Rattle.model.specs.Read.{Before, before}
use Rattle.std.specs.Prelude.{Ok}
use Rattle.read_passes.specs.declared.Before.{Before as Told}
use Rattle.read_passes.specs.Passes.{BeforeAnswer, before_answer, told}
use Rattle.read_passes.specs.Listed.{entry_of}
use Rattle.read_passes.specs.Ready.{Ready}
use Rattle.read_passes.proofs.Facts.{passed_all, Entered, entered}

-- ---- the answer of `before`

-- what was accepted
pub record Answered (f : List ℕ) (c : Counts) (p d : ℕ) : Type 0 where
  pub whole : Before
  pub is : before f ≡ accepted whole
  pub counts : whole.counts ≡ c
  pub parameter : whole.global.parameter ≡ p
  pub closing : whole.global.record_end ≡ d

module _ (f : List ℕ) (r : BeforeAnswer) (er : r ≡ before_answer (before f)) where
  module _ (b : Told) (e : r ≡ Ok b) where
    pub answered : Answered f b.counts b.parameter b.closing
    answered = by (before f) refl (sym er ∙ e)
      where
        by : (o : Outcome Before) → before f ≡ o → before_answer o ≡ Ok b → Answered f b.counts b.parameter b.closing
        by (accepted w) eo h =
            let s : told w.counts w.global.parameter w.global.record_end ≡ b = cc in
            record {
              whole = w;
              is = eo;
              counts = ap (λ (t : Told). t.counts) s;
              parameter = ap (λ (t : Told). t.parameter) s;
              closing = ap (λ (t : Told). t.closing) s;
            }
        by (refused n l) eo h = let z : ◌≡◌ {A = ℕ} 0 1 = cc in absurd (omega arith)

    pub before-ready : Ready f b.counts
    before-ready =
        let a = answered in
        let h = passed_all f a.whole a.is in
        rw (← a.counts) (record { holds = h.holds; spelt = h.spelt; owned = h.owned })

    pub before_parameter : 0 < b.parameter
    before_parameter =
        let a = answered in
        omega (arith, a.parameter, (passed_all f a.whole a.is).delimiters.parameter)

    pub before_closing : 0 < b.closing
    before_closing =
        let a = answered in
        omega (arith, a.closing, (passed_all f a.whole a.is).delimiters.closing)

-- ---- an entry

module _ (f : List ℕ) (c : Counts) (rd : Ready f c) (i : ℕ) (h : i < entries c) (k : ℕ) (r : Option Spelt) (ek : k ≡ entry_line c i) (er : r ≡ entry_at f k) where
  entered_i : Entered f c i
  entered_i = entered f c rd.holds rd.spelt rd.owned i h

  r-is : r ≡ Some (spelt_entry entered_i.fields entered_i.from entered_i.count)
  r-is = er ∙ ap (entry_at f) ek ∙ entered_i.is

  -- it is no wrong one
  pub never_wrong : r ≡ None → ⊥
  never_wrong e = let q = r-is in let z : ◌≡◌ {A = ℕ} 0 1 = cc in omega arith

  module _ (x : Spelt) (e : r ≡ Some x) where
    same_from : entered_i.from ≡ x.pointer
    same_from = (same_spelt _ _ (sym r-is ∙ e)).1

    same_count : entered_i.count ≡ x.lines
    same_count = (same_spelt _ _ (sym r-is ∙ e)).2

    same_fields : entered_i.fields ≡ x.fields
    same_fields = (same_spelt _ _ (sym r-is ∙ e)).0

    -- the entry that is listed
    pub listed_fields : (entry_of f c i).fields ≡ x.fields
    listed_fields = rw entered_i.listed same_fields

    pub listed_pointer : (entry_of f c i).pointer ≡ x.pointer.0
    listed_pointer = rw entered_i.listed (ap (λ (y : ParameterLine). y.0) same_from)

    pub listed-lines : (entry_of f c i).lines ≡ x.lines
    listed-lines = rw entered_i.listed same_count

    from_eq : entered_i.from.0 ≡ x.pointer.0
    from_eq = ap (λ (y : ParameterLine). y.0) same_from

    pub pointer_some : 1 ≤ x.pointer.0
    pointer_some = omega (arith, from_eq, entered_i.from_some)

    pub pointer_stays : x.pointer.0 + x.lines ≤ c.p + 1
    pointer_stays = omega (arith, from_eq, same_count, entered_i.stays)
