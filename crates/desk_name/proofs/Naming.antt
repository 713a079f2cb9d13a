-- The name of an entry: where it is found in a file that reading accepts, and the part that is shown. Assumes nothing.
use mathlib.Core.Path.{◌≡◌, refl, sym, ap, ap₂, subst, ◌∙◌}
use mathlib.Core.Bool.{Bool, true, false, cond, ◌&&◌}
use mathlib.Core.List.{List, [], ◌∷◌}
use Prim.Native.Nat.{ℕ, ◌+◌, ◌-◌, ◌*◌, ◌/◌, ◌%◌, ◌^◌, ◌≤◌, ◌<◌}
use native.Mathlib.Nat.{zero-add}
use native.Mathlib.Omega.{arith}
use lib.ListN.{length, length-map, take, drop}
use lib.Dec.{ltb, eqb}
use borrow.Author.Tests.{lt-ltb, le-ltb, eq-eqb, ne_eqb}
use denote.Ref.{Bor}
use Rattle.columns.specs.declared.Fault.{Fault}
use Rattle.columns.specs.declared.FileLine.{FileLine}
use Rattle.columns.specs.Columns.{columns, blank}
use Rattle.columns.specs.Refusal.{Outcome, ◌then◌}
use Rattle.columns.specs.First.{up_from}
use Rattle.columns.proofs.First.{length_up_from}
use Rattle.cards.specs.declared.Counts.{Counts}
use Rattle.cards.specs.Cards.{entry_line, entries}
use Rattle.directory.specs.Lines.{slots}
use Rattle.model.specs.Model.{Model}
use Rattle.model.specs.Read.{Before, before}
use Rattle.read_passes.specs.Listed.{entry_of, all_entries}
use Rattle.read_passes.specs.Ready.{Ready}
use Rattle.std.specs.Prelude.{Result, Ok, Err}
use Rattle.columns.specs.declared.Refusal.{Refusal}
use Rattle.read_passes.specs.declared.Before.{Before as Told}
use Rattle.read_passes.specs.Passes.{BeforeAnswer}
use Rattle.read_weights.specs.Checks.{check_of}
use Rattle.read_weights.proofs.Facts.{checked-model, checked-passed, checked-ready, checked_refused}
use Rattle.desk.specs.Answers.{Shown, label_from, stand_in, nothing, label_byte, label_or, name_in, by_reading, shown}
use Rattle.desk_name.specs.declared.Found.{Found}
use Rattle.desk_name.specs.declared.Found.TheVariants.{Label, Blank, Nobody}
use Rattle.desk_name.specs.Finding.{name_with, found_of, Inside}
use Rattle.desk_name.specs.Names.{Part, Shows}

-- ---- in the directory

label_byte_lem : (k : ℕ) → label_byte k ≡ 81 * (k + 1) + 56
unfolding slots
label_byte_lem k = refl

module _ (f : List ℕ) (c : Counts) (x n : ℕ) (en : n ≡ x) where
  -- an even number names no entry
  pub even_nobody : (n % 2 ≡ 1 → ⊥) → Nobody ≡ found_of (name_with f x c)
  unfolding name_with
  even_nobody h = rw (← en, ne_eqb (n % 2) 1 h)

  module _ (odd : n % 2 ≡ 1) (d : ℕ) (ed : d ≡ c.d) where
    far : d / 2 ≤ n / 2 → ltb (n / 2) (entries c) ≡ false
    far h = le-ltb (n / 2) (entries c) (omega arith)

    near : n / 2 < d / 2 → ltb (n / 2) (entries c) ≡ true
    near h = lt-ltb (n / 2) (entries c) (omega arith)

    -- nor does one past the last
    pub far_nobody : d / 2 ≤ n / 2 → Nobody ≡ found_of (name_with f x c)
    unfolding name_with
    far_nobody h = rw (← en, eq-eqb (n % 2) 1 odd, far h)

    module _ (h : n / 2 < d / 2) (k : ℕ) (ek : k ≡ entry_line c (n / 2)) (at : ℕ) (ea : at ≡ 81 * (k + 1) + 56) where
      here : name_with f x c ≡ label_or f at
      unfolding name_with
      here =
          let e : label_byte (entry_line c (n / 2)) ≡ at = label_byte_lem (entry_line c (n / 2)) ∙ ap (λ (j : ℕ). 81 * (j + 1) + 56) (sym ek) ∙ sym ea in
          rw (← en, eq-eqb (n % 2) 1 odd, near h, e)

      eight : columns f at (at + 8) ≡ take 8 (drop at f)
      unfolding columns
      eight =
          let e : at + 8 - at ≡ 8 = omega arith in
          rw e

      pub label_blank : (b : Bool) → b ≡ blank (columns f at (at + 8)) → b ≡ true → Blank ≡ found_of (name_with f x c)
      label_blank b eb t =
          let e : blank (take 8 (drop at f)) ≡ true = ap blank (sym eight) ∙ sym eb ∙ t in
          rw (here, e)

      pub label_here : (b : Bool) → b ≡ blank (columns f at (at + 8)) → b ≡ false → Label at ≡ found_of (name_with f x c)
      label_here b eb t =
          let e : blank (take 8 (drop at f)) ≡ false = ap blank (sym eight) ∙ sym eb ∙ t in
          rw (here, e)

      pub label_inside : Ready f c → at + 8 ≤ length f
      label_inside rd = omega (arith, rd.holds.size, rd.holds.has_t)

      pub label_low : Ready f c → at ≤ 16200000
      label_low rd = omega (arith, rd.holds.size, rd.holds.has_t, rd.holds.most)

      pub label_starts : Ready f c → at ≤ at + 8
      label_starts rd = omega arith

pub small_line : (f : List ℕ) (c : Counts) → Ready f c → (n d k : ℕ) → n / 2 < d / 2 → d ≡ c.d → k ≡ entry_line c (n / 2) → 81 * k + 162 < 2 ^ 64
small_line f c rd n d k h ed ek = omega (arith, rd.holds.size, rd.holds.most)

pub ruleset in_directory = (even_nobody, far_nobody, label_blank, label_here, label_inside, label_low, label_starts, small_line)

-- ---- in a file

-- there are as many entries as pairs of D lines
entries-counted : (f : List ℕ) (b : Before) (c : Counts) → b.counts ≡ c → b.listed ≡ all_entries f b.counts → length b.listed ≡ entries c
entries-counted f b c ec el =
    ap length el ∙ length-map (up_from 0 (entries b.counts)) (entry_of f b.counts) ∙ length_up_from (entries b.counts) 0 ∙ ap entries ec

name_same : (f : List ℕ) (x : ℕ) (b : Before) (c : Counts) → b.counts ≡ c → length b.listed ≡ entries c → name_in f x b ≡ name_with f x c
unfolding name_with
name_same f x b c ec el = ap₂ (λ (m : ℕ) (q : Counts). cond (eqb (x % 2) 1 && ltb (x / 2) m) (label_or f (label_byte (entry_line q (x / 2)))) nothing) el ec

module _ (list : ℕ) (f : List ℕ) (x : ℕ) (r : BeforeAnswer) (er : r ≡ check_of list f) where
  -- a refused file has no names
  pub refused_nobody : (n : Refusal FileLine) → r ≡ Err n → Nobody ≡ found_of (shown list f x)
  unfolding shown
  refused_nobody n e = ap (λ (o : Outcome Model). found_of (by_reading f x (o then λ _. before f))) (sym (checked_refused list f r er n e))

  module _ (w : Told) (e : r ≡ Ok w) where
    shown-with : shown list f x ≡ name_with f x w.counts
    unfolding shown
    shown-with =
        let m = checked-model list f r er w e in
        let b : Before = m.told.whole in
        let listed = entries-counted f b w.counts m.told.counts (checked-passed list f r er w e).listed in
        ap (λ (o : Outcome Model). by_reading f x (o then λ _. before f)) m.is ∙ ap (by_reading f x) m.told.is ∙ name_same f x b w.counts m.told.counts listed

    pub good_found : (y : Found) → y ≡ found_of (name_with f x w.counts) → y ≡ found_of (shown list f x)
    good_found y h = h ∙ ap found_of (sym shown-with)

pub ruleset in_file = (refused_nobody, good_found, checked-ready)

-- ---- the part that is shown

abbrev Bytes : Type 0
Bytes = Bor (List ℕ)

ptr_same : (r y : Bytes) → r ≡ y → r.ref_ptr ≡ y.ref_ptr
ptr_same r y e = ap (λ (z : Bytes). z.ref_ptr) e

now_same : (r y : Bytes) → r ≡ y → r.now ≡ y.now
now_same r y e = ap (λ (z : Bytes). z.now) e

take_all : (l : List ℕ) → take (length l) l ≡ l
take_all [] = refl
take_all (x ∷ l) = ap (λ (r : List ℕ). x ∷ r) (take_all l)

-- at the start of s
at-start : (s : Bytes) (q : ℕ × ℕ) → q ≡ s.ref_ptr → q ≡ (s.ref_ptr.0, 0 + s.ref_ptr.1)
at-start s q e = e ∙ ap (λ (n : ℕ). (s.ref_ptr.0, n)) (sym (zero-add s.ref_ptr.1))

module _ (file stand r : Bytes) where
  shows_nothing : (o : Shown) → found_of o ≡ Nobody → Part stand 0 0 r → Shows file stand o r
  unfolding Shows
  shows_nothing nothing h p = p
  shows_nothing stand_in h p = let z : ◌≡◌ {A = ℕ} 0 1 = cc in absurd (omega arith)
  shows_nothing (label_from at) h p = let z : ◌≡◌ {A = ℕ} 0 1 = cc in absurd (omega arith)

  shows_stand_in : (o : Shown) → found_of o ≡ Blank → Part stand 0 (length stand.now) r → Shows file stand o r
  unfolding Shows
  shows_stand_in nothing h p = let z : ◌≡◌ {A = ℕ} 0 1 = cc in absurd (omega arith)
  shows_stand_in stand_in h p = p
  shows_stand_in (label_from at) h p = let z : ◌≡◌ {A = ℕ} 0 1 = cc in absurd (omega arith)

  shows_label : (o : Shown) (at : ℕ) → found_of o ≡ Label at → Part file at 8 r → Shows file stand o r
  unfolding Shows
  shows_label nothing at h p = let z : ◌≡◌ {A = ℕ} 0 1 = cc in absurd (omega arith)
  shows_label stand_in at h p = let z : ◌≡◌ {A = ℕ} 0 1 = cc in absurd (omega arith)
  shows_label (label_from a) at h p =
      let e : a ≡ at = cc in
      rw e p

module _ (file stand : Bytes) (o : Shown) (w : Found) (ew : w ≡ found_of o) where
  pub nobody_shown : (r y : Bytes) → r ≡ y → w ≡ Nobody → y.ref_ptr ≡ stand.ref_ptr → y.now ≡ take 0 stand.now → Shows file stand o r
  nobody_shown r y er e ep en =
      shows_nothing file stand r o (sym ew ∙ e) (record { place = at-start stand r.ref_ptr (ptr_same r y er ∙ ep); bytes = now_same r y er ∙ en })

  pub blank-shown : (r : Bytes) → r ≡ stand → w ≡ Blank → Shows file stand o r
  blank-shown r er e =
      shows_stand_in file stand r o (sym ew ∙ e)
      (record { place = at-start stand r.ref_ptr (ptr_same r stand er); bytes = now_same r stand er ∙ sym (take_all stand.now) })

  pub label_shown : (at : ℕ) (r : Bytes) → w ≡ Label at → r.ref_ptr ≡ (file.ref_ptr.0, at + file.ref_ptr.1) → r.now ≡ take (at + 8 - at) (drop at file.now) → Shows file stand o r
  label_shown at r e ep en =
      let q : at + 8 - at ≡ 8 = omega arith in
      shows_label file stand r o at (sym ew ∙ e) (record { place = ep; bytes = en ∙ ap (λ (n : ℕ). take n (drop at file.now)) q })

module _ (size : ℕ) (w : Found) (h : Inside size w) (at : ℕ) (e : w ≡ Label at) where
  within : Inside size (Label at)
  within = subst (Inside size) e h

  pub within_end : at + 8 ≤ size
  within_end = within.0

  pub within-fits : at + 8 < 2 ^ 64
  within-fits = omega (arith, within.1)

pub ruleset parts = (nobody_shown, blank-shown, label_shown, within_end, within-fits)
