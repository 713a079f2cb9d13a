-- The G lines of a file: the opening and the fields with ',' behind each, the end of the record, the ends of the lines. Assumes nothing.
use mathlib.Core.Path.{◌≡◌, refl, sym, ap, ◌∙◌}
use mathlib.Core.List.{List, [], ◌∷◌, ◌++◌, map, append-nil}
use Prim.Native.Nat.{ℕ, zero, suc, ◌+◌, ◌-◌, ◌*◌, ◌^◌, ◌≤◌}
use native.Mathlib.Omega.{arith}
use lib.ListN.{length, replicate, length-append}
use Rattle.columns.specs.Columns.{joined}
use Rattle.columns.specs.Laid.{laid}
use Rattle.values.specs.Value.{Item, default}
use Rattle.records.specs.Flow.{line_count, cut, in_lines}
use Rattle.records.specs.Global.{first_field, canonical_opening}
use Rattle.records.specs.Written.{over, Put}
use Rattle.records.proofs.Puts.{then, put-length}
use Rattle.cards.specs.Written.{section}
use Rattle.model.specs.Canonical.{filled, global_text}
use Rattle.file_blocks.specs.Blocks.{global_bytes}
use Rattle.file_blocks.specs.Writing.{parted, tailed}
use Rattle.file_blocks.proofs.Filed.{filed}
use Rattle.file_blocks.proofs.Ended.{put_same, body, parted_body, flow_body, ended}

-- ---- the text up to its last delimiter

abbrev opening : List ℕ
opening = 49 ∷ 72 ∷ 44 ∷ 44 ∷ 49 ∷ 72 ∷ 59 ∷ 44 ∷ []

record Splits (gs : List (ℕ × Item)) : Type 0 where
  all : List ℕ
  comma : opening ++ parted 72 8 (filled first_field gs) ≡ all ++ (44 ∷ [])
  semicolon : global_text gs ≡ all ++ (59 ∷ [])

-- there is a field
some_filled : (n : ℕ) (g : ℕ × Item) (gs : List (ℕ × Item)) → (v : Item) × (vs : List Item) × (filled n (g ∷ gs) ≡ v ∷ vs)
unfolding filled
some_filled n g gs = pick (g.0 - n)
  where
    pick : (j : ℕ) → (v : Item) × (vs : List Item) × (replicate j default ++ (g.1 ∷ filled (suc g.0) gs) ≡ v ∷ vs)
    pick zero = (g.1, filled (suc g.0) gs, refl)
    pick (suc j) = (default, replicate j default ++ (g.1 ∷ filled (suc g.0) gs), refl)

splits : (gs : List (ℕ × Item)) → Splits gs
unfolding global_text filled parted canonical_opening
splits [] = record { all = 49 ∷ 72 ∷ 44 ∷ 44 ∷ 49 ∷ 72 ∷ 59 ∷ []; comma = refl; semicolon = refl }
splits (g ∷ gs) =
    let s = some_filled first_field g gs in
    let v = s.0 in
    let vs = s.1 in
    record {
      all = opening ++ body 72 8 v vs;
      comma = rw s.2 (ap (λ (l : List ℕ). opening ++ l) (parted_body 72 8 v vs));
      semicolon = rw s.2 (ap (λ (l : List ℕ). opening ++ l) (flow_body 72 8 v vs));
    }

same_lines : (ls : List (List ℕ)) → map (λ (x : List ℕ). x) ls ≡ ls
same_lines [] = refl
same_lines (l ∷ ls) = ap (λ (r : List (List ℕ)). l ∷ r) (same_lines ls)

-- ---- the lines

module _ {base p : ℕ} {o oa : List ℕ} (gs : List (ℕ × Item)) (x : Put base 72 o 0 opening oa p) where
  abbrev text : List ℕ
  text = global_text gs

  text_long : length text ≡ length (opening ++ parted 72 8 (filled first_field gs))
  text_long =
      let s = splits gs in
      ap length s.semicolon ∙ length-append s.all (59 ∷ []) ∙ sym (ap length s.comma ∙ length-append s.all (44 ∷ []))

  eight : p ≡ 8
  eight = x.next

  fields_long : length text ≡ p + length (parted 72 p (filled first_field gs))
  fields_long = text_long ∙ length-append opening (parted 72 8 (filled first_field gs)) ∙ ap (λ (k : ℕ). k + length (parted 72 k (filled first_field gs))) (sym eight)

  -- the fields have room
  pub fields_fit_lem : length (global_text gs) ≤ 2 ^ 36 → p + length (parted 72 p (filled first_field gs)) ≤ 2 ^ 39
  fields_fit_lem h = omega (arith, fields_long)

  module _ {ob : List ℕ} {end : ℕ} (y : Put base 72 oa p (parted 72 p (filled first_field gs)) ob end) where
    written : Put base 72 o 0 (opening ++ parted 72 8 (filled first_field gs)) ob end
    written = put_same (then x y) (ap (λ (k : ℕ). opening ++ parted 72 k (filled first_field gs)) eight)

    pub record_long : end ≡ length (global_text gs)
    record_long = y.next ∙ sym fields_long

    pub record_some : 1 ≤ end
    record_some = omega (arith, y.next, eight)

    pub record_room : length (global_text gs) ≤ 2 ^ 36 → end ≤ 2 ^ 40
    record_room h = omega (arith, record_long)

    module _ {lines : ℕ} (l : lines ≡ line_count 72 end) where
      pub record_count : lines ≡ line_count 72 (length (global_text gs))
      record_count = l ∙ ap (line_count 72) record_long

      pub record_few : 1 + line_count 72 (length (global_text gs)) ≤ 9999999 → lines ≤ 9999998
      record_few h = omega (arith, record_count)

      pub opened : {oc od : List ℕ} → 1 + line_count 72 (length (global_text gs)) ≤ 9999999
          → oc ≡ over base 72 (over base 72 ob (end - 1) (59 ∷ [])) end (replicate (line_count 72 end * 72 - end) 32) → od ≡ tailed oc (base + 72) [] 71 1 lines
          → od ≡ laid o base (global_bytes gs)
      unfolding in_lines global_bytes
      opened {oc} {od} k c e =
          let n = line_count 72 (length text) in
          let s = splits gs in
          let one : 1 ≤ 72 = omega arith in
          let ec : oc ≡ over base 72 o 0 (joined (in_lines 72 text)) = ended base 72 one s.all text s.semicolon (put_same written s.comma) c in
          e ∙ ap (λ (j : ℕ). tailed oc (base + 72) [] 71 1 j) record_count
          ∙ ap (λ (u : List ℕ). tailed u (base + 72) [] 71 1 n) ec
          ∙ filed 72 71 [] (λ (u : List ℕ). u) one (omega arith) (λ u. sym (append-nil u)) n text o base 1 k
          ∙ ap (λ (ls : List (List ℕ)). laid o base (joined (section 71 1 ls))) (same_lines (cut 72 n text))

pub ruleset opening-lines = (fields_fit_lem, record_some, record_room, record_count, record_few, opened, put-length)
