-- What is read of a file that meets the rules is what the rules say that it carries. Assumes nothing.
use mathlib.Core.Path.{◌≡◌, refl, ap, ◌∙◌}
use mathlib.Core.Bool.{false}
use mathlib.Core.List.{List, ◌∷◌, map}
use Prim.Native.Nat.{ℕ, zero, suc, ◌+◌, ◌<◌}
use native.Mathlib.Nat.{zero-add}
use native.Mathlib.Omega.{arith}
use lib.ListN.{length}
use borrow.Author.Tests.{le-leb, eq-eqb}
use Rattle.columns.specs.First.{up_from}
use Rattle.columns.specs.Refusal.{Outcome, accepted, each_at}
use Rattle.columns.specs.Format.{most_list}
use Rattle.values.specs.Value.{whole}
use Rattle.records.specs.Record.{values, values_at, trimmed}
use Rattle.cards.specs.declared.Counts.{Counts}
use Rattle.cards.specs.Cards.{entries}
use Rattle.sheets.specs.Sheet.{sheet_text}
use Rattle.model.specs.Model.{type_of, entity_of, sheet_of}
use Rattle.model.specs.Read.{two, global_text, parameters_of, entity_in, first_entry, last_pass, read_model, reads}
use Rattle.read_passes.specs.Listed.{entry_of, all_entries, all_types}
use Rattle.desk.specs.Rules.{MeetsRules}
use Rattle.desk.specs.Content.{below, carried_at, model_of, sheet_by, ReadsContent, ReadsSheet, ExactlyTheModel, ExactlyTheSheet, OneContent}
use Rattle.layouts.proofs.Fits.{keeps_accepts}
use Rattle.desk.proofs.Keeping.{some_kept}
use Rattle.desk.proofs.Spelling.{is_read}
use Rattle.desk.proofs.Sound.{sound_rules}
use Rattle.desk.proofs.Complete.{above, g, listed, types_same, before-accepts}

pub length-below : {A : Type 0} (n : ℕ) (x : (i : ℕ) → i < n → A) → length (below n x) ≡ n
unfolding below
length-below zero x = refl
length-below (suc n) x = ap suc (length-below n _)

-- where each step from i on accepts x 0, x 1 and so on, all of them are accepted
all_below_lem : {A B : Type 0} (check : ℕ → A → Outcome B) (at : ℕ → A) (n i p : ℕ) (x : (j : ℕ) → j < n → B)
    → ((j : ℕ) (h : j < n) (q k : ℕ) → k ≡ i + j → check q (at k) ≡ accepted (x j h)) → each_at two check p (map at (up_from i n)) ≡ accepted (below n x)
unfolding each_at up_from below
all_below_lem check at zero i p x e = refl
all_below_lem check at (suc n) i p x e =
    rw (e 0 (omega arith) p i (omega arith), all_below_lem check at n (i + 1) (p + 2) (λ j h. x (suc j) (omega arith)) (λ j h q k s. e (suc j) _ q k (omega arith)))

module _ (list : ℕ) (f : List ℕ) (r : MeetsRules list f) where
  abbrev c : Counts
  c = r.counts

  -- entry i is read as what it carries
  entity-read : (i : ℕ) (h : i < entries c) (p : ℕ) → entity_in list f c (g list f r) (all_types f c) p (entry_of f c i) ≡ accepted (carried_at r i h)
  unfolding entity_in
  entity-read i h p =
      let m = r.entry_meets i h in
      let x = (r.entry i).fields in
      let a = above (global_text f c) r.parameter r.closing r.globals r.global in
      let e : values_at 64 r.parameter r.closing (parameters_of f c (entry_of f c i)) 0 ≡ values (whole false (type_of x) ∷ m.values) m.end =
      rw (listed list f r i h) (is_read 64 r.parameter r.closing _ a.0 a.1 (omega arith) m.spells) in
      rw e (rw (listed list f r i h, ← types_same list f r) (rw (eq-eqb (type_of x) _ refl, keeps_accepts r.types (entity_of x (trimmed m.values)) list p (λ k. some_kept r.types x m.values (m.layout k)))))

  -- so are all of them
  last_read : last_pass list f c (g list f r) (all_entries f c) ≡ accepted (below (entries c) (carried_at r))
  unfolding last_pass
  last_read =
      all_below_lem (entity_in list f c (g list f r) (all_types f c)) (entry_of f c) (entries c) 0 (first_entry c) (carried_at r)
      (λ i h p k e. rw (e, zero-add) (entity-read i h p))

pub reads_content : ReadsContent
unfolding read_model model_of
reads_content list f r = rw (le-leb list most_list r.list_ok, before-accepts list f r, last_read list f r)

pub reads-sheet : ReadsSheet
unfolding reads
reads-sheet list f r = rw (reads_content list f r)

pub exactly_the_model : ExactlyTheModel
unfolding reads
exactly_the_model list f m = (
  λ h.
      let r = sound_rules list f (sheet_text (sheet_of list m)) (rw h) in
      let e : read_model list f ≡ accepted (model_of r) = reads_content list f r in
      let z : model_of r ≡ m = cc in
      (r, z),
  λ k. reads_content list f k.0 ∙ ap accepted k.1,
)

pub exactly_the_sheet : ExactlyTheSheet
exactly_the_sheet list f s = (
  λ h.
      let r = sound_rules list f s h in
      let e : reads list f ≡ accepted (sheet_by r) = reads-sheet list f r in
      let z : sheet_by r ≡ s = cc in
      (r, z),
  λ k. reads-sheet list f k.0 ∙ ap accepted k.1,
)

pub one_content : OneContent
one_content list f r q =
    let a : read_model list f ≡ accepted (model_of r) = reads_content list f r in
    let b : read_model list f ≡ accepted (model_of q) = reads_content list f q in
    cc
