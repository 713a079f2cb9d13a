-- The P lines of an entity: its type and its values with ',' behind each, the end of the record, the ends of the lines. Assumes nothing.
use mathlib.Core.Path.{◌≡◌, refl, sym, ap, ◌∙◌}
use mathlib.Core.Bool.{false}
use mathlib.Core.List.{List, [], ◌∷◌, ◌++◌}
use Prim.Native.Nat.{ℕ, ◌+◌, ◌-◌, ◌*◌, ◌^◌, ◌≤◌, ◌<◌}
use native.Mathlib.Nat.{zero-add}
use native.Mathlib.Omega.{arith}
use lib.ListN.{length, replicate, length-append}
use Rattle.columns.specs.Columns.{joined}
use Rattle.columns.specs.Decimal.{dec}
use Rattle.columns.specs.Laid.{laid}
use Rattle.columns.proofs.Decimals.{length_dec_le, length_right}
use Rattle.values.specs.Value.{Item, whole}
use Rattle.records.specs.Flow.{piece, line_count, in_lines}
use Rattle.records.specs.Written.{over, Put}
use Rattle.records.proofs.Puts.{then, put-length}
use Rattle.cards.specs.Written.{section}
use Rattle.model.specs.Canonical.{owned}
use Rattle.file_blocks.specs.Blocks.{record_text, block_lines}
use Rattle.file_blocks.specs.Writing.{parted, owner_of, tailed}
use Rattle.file_blocks.proofs.Filed.{filed}
use Rattle.file_blocks.proofs.Ended.{put_same, body, parted_body, flow_body, parted_long, ended}

owner_long : (number : ℕ) → number ≤ 9999999 → 64 + length (owner_of number) ≡ 72
owner_long number h = omega (arith, length_right 32 7 (dec number) (length_dec_le 6 number (omega arith)))

module _ {base p : ℕ} {o oa : List ℕ} (typ : ℕ) (vs : List Item) (x : Put base 64 o 0 (piece 64 0 (whole false typ) false) oa p) where
  first_long : length (parted 64 0 (whole false typ ∷ vs)) ≡ p + length (parted 64 p vs)
  unfolding parted
  first_long =
      let z = piece 64 0 (whole false typ) false in
      length-append z (parted 64 (0 + length z) vs) ∙ rw (← x.next) (ap (λ (k : ℕ). k + length (parted 64 p vs)) (sym (x.next ∙ zero-add (length z))))

  -- the values have room
  pub values_fit : length (record_text typ vs) ≤ 2 ^ 36 → p + length (parted 64 p vs) ≤ 2 ^ 40
  values_fit h = omega (arith, first_long, parted_long 64 0 (whole false typ) vs)

  module _ {ob : List ℕ} {end : ℕ} (y : Put base 64 oa p (parted 64 p vs) ob end) where
    all : Put base 64 o 0 (parted 64 0 (whole false typ ∷ vs)) ob end
    unfolding parted
    all = put_same (then x y) (ap (λ (k : ℕ). piece 64 0 (whole false typ) false ++ parted 64 k vs) x.next)

    -- the position behind them is the text's length
    pub block_long : end ≡ length (record_text typ vs)
    block_long = all.next ∙ zero-add (length (parted 64 0 (whole false typ ∷ vs))) ∙ parted_long 64 0 (whole false typ) vs

    pub block_some : 0 < p → 1 ≤ end
    block_some h = omega (arith, y.next)

    pub block_room : length (record_text typ vs) ≤ 2 ^ 36 → end ≤ 2 ^ 40
    block_room h = omega (arith, block_long)

    module _ {lines : ℕ} (l : lines ≡ line_count 64 end) where
      pub block_count_lem : lines ≡ line_count 64 (length (record_text typ vs))
      block_count_lem = l ∙ ap (line_count 64) block_long

      pub block_few : (from : ℕ) → from + line_count 64 (length (record_text typ vs)) ≤ 9999999 → from + lines ≤ 9999999
      block_few from h = omega (arith, block_count_lem)

      pub blocked : {oc od : List ℕ} (number from : ℕ) → number ≤ 9999999 → from + line_count 64 (length (record_text typ vs)) ≤ 9999999
          → oc ≡ over base 64 (over base 64 ob (end - 1) (59 ∷ [])) end (replicate (line_count 64 end * 64 - end) 32) → od ≡ tailed oc (base + 64) (owner_of number) 80 from lines
          → od ≡ laid o base (joined (section 80 from (block_lines number typ vs)))
      unfolding in_lines
      blocked {oc} {od} number from h k c e =
          let t = record_text typ vs in
          let n = line_count 64 (length t) in
          let v = whole false typ in
          let one : 1 ≤ 64 = omega arith in
          let ec : oc ≡ over base 64 o 0 (joined (in_lines 64 t)) = ended base 64 one (body 64 0 v vs) t (flow_body 64 0 v vs) (put_same all (parted_body 64 0 v vs)) c in
          e ∙ ap (λ (j : ℕ). tailed oc (base + 64) (owner_of number) 80 from j) block_count_lem
          ∙ ap (λ (u : List ℕ). tailed u (base + 64) (owner_of number) 80 from n) ec
          ∙ filed 64 80 (owner_of number) (owned number) one (owner_long number h) (λ u. refl) n t o base from k

pub ruleset blocking = (values_fit, block_some, block_room, block_count_lem, block_few, blocked, put-length)
