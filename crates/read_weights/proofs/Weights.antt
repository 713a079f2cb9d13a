-- The last pass and all checks, with the bytes that the sheet takes behind its G lines. Assumes nothing.
use mathlib.Core.Path.{◌≡◌, refl, sym, ap, ◌∙◌}
use mathlib.Core.Bool.{Bool, true, false}
use mathlib.Core.List.{List, [], ◌∷◌, ◌++◌}
use Prim.Native.Nat.{ℕ, suc, ◌+◌, ◌-◌, ◌*◌, ◌/◌, ◌^◌, ◌≤◌, ◌<◌}
use native.Mathlib.Omega.{arith}
use lib.Dec.{leb}
use lib.ListN.{length, length-append}
use borrow.Author.Tests.{not-true, not-false}
use Rattle.columns.specs.declared.Fault.TheVariants.{ListOrLength}
use Rattle.columns.specs.declared.FileLine.{FileLine}
use Rattle.columns.specs.Laid.{Wrote}
use Rattle.columns.specs.Format.{most_list}
use Rattle.cards.specs.declared.Counts.{Counts}
use Rattle.cards.specs.Cards.{entries}
use Rattle.cards.specs.Shared.{file_line}
use Rattle.sheets.specs.Sheet.{last, line_of}
use Rattle.model.specs.Read.{last_pass, before}
use Rattle.std.specs.Prelude.{Result, Ok, Err}
use Rattle.columns.specs.declared.Refusal.{Refusal}
use Rattle.columns.specs.Refusal.{refusal_at}
use Rattle.read_passes.specs.declared.Before.{Before as Told}
use Rattle.read_passes.specs.Passes.{FilePass, BeforeAnswer, pass_of, before_answer}
use Rattle.read_passes.specs.Listed.{all_entries}
use Rattle.read_passes.specs.Ready.{Ready}
use Rattle.read_passes.specs.Walks.{first_among}
use Rattle.read_passes.proofs.After.{before-ready, before_parameter, before_closing}
use Rattle.read_passes.proofs.Walks.{walk_on, walk_here, walk_end}
use Rattle.print.specs.Rows.{rows_bytes}
use Rattle.read_weights.specs.declared.Weight.{Weight}
use Rattle.read_weights.specs.Checks.{delimited, entity_at, check_of}
use Rattle.read_weights.specs.Weights.{Rows, Weighing, weight, row_length, rows_from, rows_length, rows_of, weight_of, Few, Light}
use Rattle.read_weights.proofs.Last.{last_start}
use Rattle.read_weights.proofs.Checking.{check_list, check_before, check_last, check_good}

-- ---- bytes of a pass

good_of : (n k : ℕ) (q : FilePass) → rows_of n q ≡ Ok k → q ≡ Ok tt
good_of n k (Ok u) h = refl
good_of n k (Err w) h = let z : ◌≡◌ {A = ℕ} 0 1 = cc in absurd (omega arith)

bytes_of : (n k : ℕ) (q : FilePass) → rows_of n q ≡ Ok k → k ≡ n
bytes_of n k (Ok u) h = cc
bytes_of n k (Err w) h = let z : ◌≡◌ {A = ℕ} 0 1 = cc in absurd (omega arith)

refused_of : (n : ℕ) (q : FilePass) (w : Refusal FileLine) → rows_of n q ≡ Err w → q ≡ Err w
refused_of n (Ok u) w h = let z : ◌≡◌ {A = ℕ} 0 1 = cc in absurd (omega arith)
refused_of n (Err v) w h =
    let e : v ≡ w = cc in
    ap (λ (x : Refusal FileLine). Err x) e

pub few_of : (m : ℕ) {y : Rows} {k : ℕ} → Few m y → y ≡ Ok k → k ≤ m
few_of m h e = rw e at h

-- ---- the loop over the entries: q is the answer of all, t the bytes of all

module _ (list : ℕ) (f : List ℕ) (c : Counts) (p d : ℕ) where
  rows-one : (i n : ℕ) → rows_from list f c p d i (suc n) ≡ row_length list f c p d i + rows_from list f c p d (i + 1) n
  unfolding rows_from row_length rows_bytes
  rows-one i n = simp length-append (omega arith)

  rows_none : (i : ℕ) → rows_from list f c p d i 0 ≡ length (line_of (last (entries c)) ++ (10 ∷ []))
  unfolding rows_from rows_bytes
  rows_none i = refl

  pub rows_start : (b : ℕ) → b ≡ c.d → 0 + rows_from list f c p d 0 (b / 2 - 0) ≡ rows_length list f c p d
  rows_start b e =
      let z : b / 2 - 0 ≡ entries c = omega arith in
      let s : rows_from list f c p d 0 (b / 2 - 0) ≡ rows_length list f c p d = ap (rows_from list f c p d 0) z in
      omega arith

  module _ (i n size : ℕ) {q : FilePass} {t : ℕ} (inv : first_among (entity_at list f c p d) i (n - i) ≡ q) (sum : size + rows_from list f c p d i (n - i) ≡ t) where
    module _ {y : Rows} (h : i < n) (ey : y ≡ rows_of (row_length list f c p d i) (entity_at list f c p d i)) where
      pub pass_on : {k : ℕ} → y ≡ Ok k → first_among (entity_at list f c p d) (i + 1) (n - (i + 1)) ≡ q
      pass_on {k} e = walk_on (entity_at list f c p d) i n q inv (entity_at list f c p d i) h refl (good_of (row_length list f c p d i) k (entity_at list f c p d i) (sym ey ∙ e))

      pub sum-on : {k : ℕ} → y ≡ Ok k → size + k + rows_from list f c p d (i + 1) (n - (i + 1)) ≡ t
      sum-on {k} e =
          let l : n - i ≡ suc (n - (i + 1)) = omega arith in
          let a : rows_from list f c p d i (n - i) ≡ row_length list f c p d i + rows_from list f c p d (i + 1) (n - (i + 1)) = ap (rows_from list f c p d i) l ∙ rows-one i (n - (i + 1)) in
          omega (arith, bytes_of (row_length list f c p d i) k (entity_at list f c p d i) (sym ey ∙ e))

      pub pass-here : {w : Refusal FileLine} → y ≡ Err w → Err w ≡ rows_of t q
      pass-here {w} e =
          ap (rows_of t) (walk_here (entity_at list f c p d) i n q inv (entity_at list f c p d i) h refl (refused_of (row_length list f c p d i) (entity_at list f c p d i) w (sym ey ∙ e)))

  pub pass-end : (i b size : ℕ) {q : FilePass} {t : ℕ} {o o' : List ℕ} {k : ℕ} → first_among (entity_at list f c p d) i (b / 2 - i) ≡ q → size + rows_from list f c p d i (b / 2 - i) ≡ t → b ≡ c.d → b / 2 ≤ i
      → Wrote o 0 (line_of (last (b / 2)) ++ (10 ∷ [])) o' k → Ok (size + k) ≡ rows_of t q
  pass-end i b size {q} {t} {k = k} inv sum eb h w =
      let z : b / 2 - i ≡ 0 = omega arith in
      let a : rows_from list f c p d i (b / 2 - i) ≡ length (line_of (last (entries c)) ++ (10 ∷ [])) = ap (rows_from list f c p d i) z ∙ rows_none i in
      let e : length (line_of (last (b / 2)) ++ (10 ∷ [])) ≡ length (line_of (last (entries c)) ++ (10 ∷ [])) = ap (λ (j : ℕ). length (line_of (last (j / 2)) ++ (10 ∷ []))) eb in
      let s : size + k ≡ t = omega (arith, w.next) in
      ap (λ (n : ℕ). Ok n) s ∙ ap (rows_of t) (walk_end (entity_at list f c p d) i (b / 2) q inv h)

module _ (f : List ℕ) (c : Counts) (rd : Ready f c) where
  -- what is added up stays small
  pub sum_fits : (i b size k : ℕ) {y : Rows} → b ≡ c.d → i < b / 2 → size ≤ 15000000000 * i → Few 15000000000 y → y ≡ Ok k → size + k < 2 ^ 64
  sum_fits i b size k eb h l m e = omega (arith, rd.holds.most, few_of 15000000000 m e)

  pub all_fit_lem : (i b size k : ℕ) → b ≡ c.d → i ≤ b / 2 → size ≤ 15000000000 * i → k ≤ 0 + 23 → size + k < 2 ^ 64
  all_fit_lem i b size k eb h l m = omega (arith, rd.holds.most)

  pub all_few : (i b size k : ℕ) → b ≡ c.d → i ≤ b / 2 → size ≤ 15000000000 * i → k ≤ 0 + 23 → size + k ≤ 2 ^ 51
  all_few i b size k eb h l m = omega (arith, rd.holds.most)

pub sum_few : (i size k : ℕ) {y : Rows} → size ≤ 15000000000 * i → Few 15000000000 y → y ≡ Ok k → size + k ≤ 15000000000 * (i + 1)
sum_few i size k l m e = omega (arith, few_of 15000000000 m e)

pub ruleset lasts = (last_start, rows_start, pass_on, sum-on, pass-here, pass-end, sum_few, sum_fits, all_few, all_fit_lem)

-- ---- all checks

module _ (list : ℕ) (f : List ℕ) (b : Bool) (eb : b ≡ leb list most_list) where
  pub weigh_list : b ≡ false → Err (refusal_at ListOrLength (file_line 0)) ≡ weight_of list f (check_of list f)
  weigh_list e = ap (weight_of list f) (check_list list f b eb e)

  module _ (e : b ≡ true) (t : BeforeAnswer) (et : t ≡ before_answer (before f)) where
    pub weigh_before : (n : Refusal FileLine) → t ≡ Err n → Err n ≡ weight_of list f (check_of list f)
    weigh_before n g = ap (weight_of list f) (check_before list f b eb e t et n g)

    module _ (w : Told) (g : t ≡ Ok w) (y : Rows) (ey : y ≡ rows_of (rows_length list f w.counts w.parameter w.closing) (pass_of (last_pass list f w.counts (delimited w.parameter w.closing) (all_entries f w.counts)))) where
      pub weigh_last : (n : Refusal FileLine) → y ≡ Err n → Err n ≡ weight_of list f (check_of list f)
      weigh_last n k =
          ap (weight_of list f) (check_last list f b eb e t et w g (pass_of (last_pass list f w.counts (delimited w.parameter w.closing) (all_entries f w.counts))) refl n (refused_of (rows_length list f w.counts w.parameter w.closing) (pass_of (last_pass list f w.counts (delimited w.parameter w.closing) (all_entries f w.counts))) n (sym ey ∙ k)))

      pub weigh_good : {n : ℕ} → y ≡ Ok n → Ok (weight w n) ≡ weight_of list f (check_of list f)
      weigh_good {n} k =
          ap (λ (m : ℕ). Ok (weight w m)) (bytes_of (rows_length list f w.counts w.parameter w.closing) n (pass_of (last_pass list f w.counts (delimited w.parameter w.closing) (all_entries f w.counts))) (sym ey ∙ k))
          ∙ ap (weight_of list f) (check_good list f b eb e t et w g (pass_of (last_pass list f w.counts (delimited w.parameter w.closing) (all_entries f w.counts))) refl (good_of (rows_length list f w.counts w.parameter w.closing) n (pass_of (last_pass list f w.counts (delimited w.parameter w.closing) (all_entries f w.counts))) (sym ey ∙ k)))

pub ruleset weighs = (not-true, not-false, before-ready, before_parameter, before_closing, few_of, weigh_list, weigh_before, weigh_last, weigh_good)

-- ---- the answer alone

module _ (list : ℕ) (f : List ℕ) {r : Weighing} (er : r ≡ weight_of list f (check_of list f)) where
  pub weight_refused : (n : Refusal FileLine) → r ≡ Err n → Err n ≡ check_of list f
  weight_refused n e = by (check_of list f) (sym er ∙ e)
    where
      by : (x : BeforeAnswer) → weight_of list f x ≡ Err n → Err n ≡ x
      by (Ok b) h = let z : ◌≡◌ {A = ℕ} 0 1 = cc in absurd (omega arith)
      by (Err m) h =
          let e : n ≡ m = cc in
          ap (λ (x : Refusal FileLine). Err x) e

  module _ (w : Weight) (e : r ≡ Ok w) where
    pub weight_good : Ok w.told ≡ check_of list f
    weight_good = by (check_of list f) (sym er ∙ e)
      where
        by : (x : BeforeAnswer) → weight_of list f x ≡ Ok w → Ok w.told ≡ x
        by (Ok b) h =
            let s : weight b (rows_length list f b.counts b.parameter b.closing) ≡ w = cc in
            ap (λ (t : Weight). Ok t.told) (sym s)
        by (Err m) h = let z : ◌≡◌ {A = ℕ} 0 1 = cc in absurd (omega arith)

    pub weight_rows : w.rows ≡ rows_length list f w.told.counts w.told.parameter w.told.closing
    weight_rows =
        let h : Ok w ≡ Ok (weight w.told (rows_length list f w.told.counts w.told.parameter w.told.closing)) = sym e ∙ er ∙ ap (weight_of list f) (sym weight_good) in
        let s : w ≡ weight w.told (rows_length list f w.told.counts w.told.parameter w.told.closing) = cc in
        ap (λ (t : Weight). t.rows) s

    pub weight_few : (m : ℕ) → Light m r → w.rows ≤ m
    weight_few m h = rw e at h

pub ruleset weights = (weight_refused, weight_good, weight_rows, weight_few)
