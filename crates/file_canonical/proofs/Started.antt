-- What the pass over the start lines is asked. Assumes nothing.
use mathlib.Core.Path.{◌≡◌, refl, sym, ap, ◌∙◌}
use mathlib.Core.List.{List, [], ◌∷◌, ◌++◌}
use Prim.Native.Nat.{ℕ, ◌+◌, ◌-◌, ◌*◌, ◌≤◌, ◌<◌}
use native.Mathlib.Omega.{arith}
use native.Mathlib.Decide.{ℕ_discrete}
use lib.ListN.{length, take, drop, length-take, length-drop}
use Rattle.columns.specs.Columns.{columns, joined}
use Rattle.columns.specs.Decimal.{to_left}
use Rattle.columns.specs.Laid.{Wrote, Owes}
use Rattle.columns.proofs.Columns.{length-columns}
use Rattle.columns.proofs.Writes.{owes_all, owes_less, owes_none, owes_length}
use Rattle.cards.specs.Written.{line_of, section}
use Rattle.sheets.specs.declared.Said.{Said}
use Rattle.sheets.specs.declared.Said.TheVariants.{Start, Global, Entry, Value as Given, Last, Nothing}
use Rattle.sheets.specs.Line.{run}
use Rattle.sheets.specs.Reading.{Within}
use Rattle.sheets.specs.Sheet.{Line, line_from, last_piece, says_of, lines_in}
use Rattle.sheets.proofs.Bounds.{says_within}
use Rattle.sheets.proofs.Walk.{lines_first, line_says}
use Rattle.sheets_rows.proofs.Rows.{behind-none}
use Rattle.file_blocks.proofs.Said.{line-part, lines_whole}
use Rattle.file_canonical.specs.Laying.{start_given, starts_first, behind_starts, StartStands, start_bytes}
use Rattle.sheets.proofs.Limits.{Can, says_can}

-- the last piece is no start line
no_starts : (s : List ℕ) → starts_first (last_piece s) ≡ []
unfolding starts_first last_piece
no_starts [] = refl
no_starts (b ∷ bs) = refl

module _ (t : List ℕ) (at e : ℕ) (en : e ≡ at + run 10 (drop at t)) (lo : at ≤ e) (hi : e ≤ length t) where
  stands : (x : Said) (rest : List Line) → Can (columns t at e) x → Within (length (columns t at e)) x → lines_in (drop at t) ≡ line_from (columns t at e) x ∷ rest
      → lines_in (drop (e + 1) t) ≡ rest → e < length t → 0 < length (starts_first (line_from (columns t at e) x ∷ rest)) → StartStands t at e
  unfolding starts_first behind_starts
  stands Start rest c w q f h s =
      let l : length (columns t at e) ≡ e - at = length-columns t at e lo hi in
      let d : length (drop 2 (columns t at e)) ≡ e - at - 2 = length-drop 2 (columns t at e) ∙ ap (λ (k : ℕ). k - 2) l in
      record {
        low = omega arith;
        high = h;
        short = omega arith;
        texts = ap starts_first q ∙ rw (line-part t at 2 e, f);
        behind = ap behind_starts q ∙ rw f;
      }
  stands (Global n k v) rest c w q f h s = absurd (omega arith)
  stands (Entry known n x) rest c w q f h s = absurd (omega arith)
  stands (Given reference v) rest c w q f h s = absurd (omega arith)
  stands (Last n) rest c w q f h s = absurd (omega arith)
  stands (Nothing b) rest c w q f h s = absurd (omega arith)

  -- where start lines stand, the first of them
  pub start-here : 0 < length (starts_first (lines_in (drop at t))) → StartStands t at e
  start-here s = pick (ℕ_discrete e (length t))
    where
      pick : Dec (e ≡ length t) → StartStands t at e
      pick (yes h) = absurd (omega (arith, ap length (ap starts_first (lines_whole t at e en h) ∙ no_starts (drop at t))))
      pick (no h) =
          let l = columns t at e in
          let q : lines_in (drop at t) ≡ line_from l (says_of l) ∷ lines_in (drop (e + 1) t) = lines_first t at e lo (omega arith) en ∙ ap (λ (i : Line). i ∷ lines_in (drop (e + 1) t)) (line_says l (says_of l) refl) in
          stands (says_of l) (lines_in (drop (e + 1) t)) (says_can l) (says_within l) q refl (omega arith) (rw q at s)

-- ---- the pass

start_first : (n : ℕ) (x : List ℕ) (xs : List (List ℕ)) → start_bytes n (x ∷ xs) ≡ line_of (to_left 72 x) 83 n ++ start_bytes (n + 1) xs
unfolding start_bytes section joined
start_first n x xs = refl

start_none : (n : ℕ) → start_bytes n [] ≡ []
unfolding start_bytes section joined
start_none n = refl

empty : (ts : List (List ℕ)) → length ts ≡ 0 → ts ≡ []
empty [] e = refl
empty (x ∷ ts) e = absurd (omega arith)

module _ {t : List ℕ} {at e : ℕ} (st : StartStands t at e) where
  pub starts-text : length (take (e - (at + 2)) (drop (at + 2) t)) ≤ 72
  starts-text = rw length-take (omega (arith, st.low, st.short))

  pub starts_less : (k s : ℕ) → k + length (starts_first (lines_in (drop at t))) ≡ s → k + 1 + length (starts_first (lines_in (drop (e + 1) t))) ≡ s
  starts_less k s q = omega (arith, ap length st.texts)

  pub starts-behind : (ls : List Line) → behind_starts (lines_in (drop at t)) ≡ ls → behind_starts (lines_in (drop (e + 1) t)) ≡ ls
  starts-behind ls q = sym st.behind ∙ q

  pub starts-laid : {o bs o1 o2 : List ℕ} {p r r1 : ℕ} (k : ℕ) → Owes o p bs o1 r (start_bytes (k + 1) (starts_first (lines_in (drop at t))))
      → Wrote o1 r (line_of (to_left 72 (take (e - (at + 2)) (drop (at + 2) t))) 83 (k + 1)) o2 r1
      → Owes o p bs o2 r1 (start_bytes (k + 1 + 1) (starts_first (lines_in (drop (e + 1) t))))
  starts-laid k w z = owes_less (rw (st.texts, start_first (k + 1) (take (e - (at + 2)) (drop (at + 2) t)) (starts_first (lines_in (drop (e + 1) t)))) at w) z

pub starts_some : (t : List ℕ) (at k s : ℕ) → k + length (starts_first (lines_in (drop at t))) ≡ s → k < s → 0 < length (starts_first (lines_in (drop at t)))
starts_some t at k s q h = omega arith

pub starts_all : {o bs o1 : List ℕ} {r : ℕ} (t : List ℕ) (at k s : ℕ) → Owes o 0 bs o1 r (start_bytes (k + 1) (starts_first (lines_in (drop at t)))) → r ≡ 81 * k
    → k + length (starts_first (lines_in (drop at t))) ≡ s → s ≤ k → Wrote o 0 bs o1 (81 * s)
starts_all {o} {bs} {o1} {r} t at k s w z q h =
    let e : k ≡ s = omega arith in
    let n : starts_first (lines_in (drop at t)) ≡ [] = empty (starts_first (lines_in (drop at t))) (omega arith) in
    rw (← e, ← z) (owes_none (rw (n, start_none (k + 1)) at w))

pub starts-end : (t : List ℕ) (at k s : ℕ) (ls : List Line) → behind_starts (lines_in (drop at t)) ≡ ls → k + length (starts_first (lines_in (drop at t))) ≡ s → s ≤ k → lines_in (drop at t) ≡ ls
unfolding starts_first behind_starts
starts-end t at k s ls q c h = sym (behind-none start_given (lines_in (drop at t)) (empty (starts_first (lines_in (drop at t))) (omega arith))) ∙ q

pub ruleset starts = (start-here, starts-text, starts_less, starts-behind, starts-laid, starts_some, starts_all, starts-end, owes_all, owes_length)
