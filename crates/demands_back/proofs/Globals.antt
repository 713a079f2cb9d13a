-- The Global text of a model, with the blanks that fill its last line, is read as the model's Global fields. Assumes nothing.
use mathlib.Core.Path.{◌≡◌, refl, sym, ap, ◌∙◌}
use mathlib.Core.Bool.{true, false}
use mathlib.Core.List.{List, [], ◌∷◌, ◌++◌, append_assoc}
use Prim.Native.Nat.{ℕ, zero, suc, ◌+◌}
use native.Mathlib.Omega.{arith}
use lib.ListN.{length, drop, replicate, length-append, length-replicate}
use lib.Seq.{drop-append_seam}
use lib.Dec.{eqb}
use borrow.Author.Tests.{eq-eqb}
use Rattle.columns.specs.declared.Fault.TheVariants.{Spelling}
use Rattle.columns.specs.First.{first_not}
use Rattle.columns.specs.Refusal.{accepted}
use Rattle.columns.proofs.Outcomes.{demand_true}
use Rattle.values.specs.Value.{Item}
use Rattle.records.specs.Record.{values, blanks, values_at}
use Rattle.records.specs.Flow.{flow}
use Rattle.records.specs.Global.{opens, first_field, opening_of, canonical_opening}
use Rattle.records.proofs.Round.{round_at, opening_round, opening-length}
use Rattle.cards.specs.declared.Counts.{Counts}
use Rattle.sheets.specs.WellFormed.{Rising, Each, Filled}
use Rattle.model.specs.Canonical.{filled, global_text}
use Rattle.model.specs.Fit.{InKind}
use Rattle.model.specs.Read.{global_line, no_stray, field_fits, given, global_read, by_values, by_opening}
use Rattle.demands_back.proofs.Held.{fines}
use Rattle.demands_back.proofs.Filled.{filled_held, filled_some, fields_fit_lem, given_back}

-- ---- blanks alone follow the record

blanks_all : (k : ℕ) → blanks (replicate k 32) ≡ k
blanks_all zero = refl
blanks_all (suc k) = ap suc (blanks_all k)

no_stray_lem : (c : Counts) (a : List ℕ) (k end : ℕ) → end ≡ length a → no_stray c (a ++ replicate k 32) end ≡ accepted tt
unfolding no_stray
no_stray_lem c a k end e =
    let t = a ++ replicate k 32 in
    let d : drop end t ≡ replicate k 32 = ap (λ (i : ℕ). drop i t) e ∙ drop-append_seam a (replicate k 32) in
    let b : blanks (drop end t) ≡ k = ap blanks d ∙ blanks_all k in
    let q : end + blanks (drop end t) ≡ length t = omega (arith, length-append a (replicate k 32), length-replicate {A = ℕ} k 32) in
    demand_true (eqb (end + blanks (drop end t)) (length t)) Spelling (global_line c (end + blanks (drop end t))) (eq-eqb (end + blanks (drop end t)) (length t) q)

-- ---- what is made of the opening and of the values

module _ (c : Counts) (t : List ℕ) where
  by_end : opening_of t ≡ opens 44 59 8 true → no_stray c t 8 ≡ accepted tt → by_opening c t (opening_of t) ≡ accepted (global_read 44 59 [])
  by_end o s = rw (o, s)

  by-fields : (vs : List Item) (end : ℕ) → no_stray c t end ≡ accepted tt → first_not (field_fits vs) 0 (length vs) ≡ length vs
      → by_values c t 44 59 8 (values vs end) ≡ accepted (global_read 44 59 (given first_field vs))
  by-fields vs end s f = rw (s, f, eq-eqb (length vs) (length vs) refl)

  by_values_lem : (vs : List Item) (end : ℕ) → opening_of t ≡ opens 44 59 8 false → values_at 72 44 59 t 8 ≡ values vs end
      → by_opening c t (opening_of t) ≡ by_values c t 44 59 8 (values vs end)
  by_values_lem vs end o v = rw (o, v)

-- ---- the text

pub text-read : (c : Counts) (gs : List (ℕ × Item)) → Rising 2 gs → Each Filled gs → Each InKind gs → (k : ℕ)
    → by_opening c (global_text gs ++ replicate k 32) (opening_of (global_text gs ++ replicate k 32)) ≡ accepted (global_read 44 59 gs)
unfolding global_text
text-read c [] r p q k =
    let a = canonical_opening true in
    by_end c (a ++ replicate k 32) (opening_round true (replicate k 32)) (no_stray_lem c a k 8 (sym (opening-length true)))
text-read c (g ∷ gs) r p q k =
    let (a, b) : List ℕ × List ℕ = (canonical_opening false, replicate k 32) in
    let vs = filled first_field (g ∷ gs) in
    let x = flow 72 8 vs in
    let t = (a ++ x) ++ b in
    let e : t ≡ a ++ (x ++ b) = append_assoc a x b in
    let d : drop 8 t ≡ x ++ b = ap (λ (l : List ℕ). drop 8 l) e ∙ ap (λ (i : ℕ). drop i (a ++ (x ++ b))) (sym (opening-length false)) ∙ drop-append_seam a (x ++ b) in
    let s : no_stray c t (8 + length x) ≡ accepted tt = no_stray_lem c (a ++ x) k (8 + length x) (omega (arith, length-append a x, opening-length false)) in
    by_values_lem c t vs (8 + length x) (ap opening_of e ∙ opening_round false (x ++ b)) (round_at 72 (omega arith) t 8 (fines (filled_held first_field p) (filled_some first_field g gs)) b d)
    ∙ by-fields c t vs (8 + length x) s (fields_fit_lem r p q) ∙ ap (λ (l : List (ℕ × Item)). accepted (global_read 44 59 l)) (given_back r p)
