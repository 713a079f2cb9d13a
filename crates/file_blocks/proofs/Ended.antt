-- A record whose values were written with ',' behind each, ended: the last ',' becomes ';', and blanks fill the last line. Assumes nothing.
use mathlib.Core.Path.{◌≡◌, sym, ap, ◌∙◌}
use mathlib.Core.Bool.{false}
use mathlib.Core.List.{List, [], ◌∷◌, ◌++◌, append_assoc}
use Prim.Native.Nat.{ℕ, ◌+◌, ◌-◌, ◌*◌, ◌≤◌}
use native.Mathlib.Nat.{zero-add}
use native.Mathlib.Omega.{arith}
use lib.ListN.{length, set, replicate, length-append}
use lib.Seq.{set-set}
use Rattle.columns.specs.Columns.{joined}
use Rattle.values.specs.Value.{Item, spelled}
use Rattle.records.specs.Flow.{firm, gap, piece, flow, line_count, in_lines}
use Rattle.records.specs.Written.{index_of, over, Put}
use Rattle.records.proofs.Puts.{over-over, put-length, Owed, owed_less}
use Rattle.records.proofs.Lines.{join_lines}
use Rattle.file_blocks.specs.Writing.{parted}

-- the same characters by another name
pub put_same : {base w p r : ℕ} {o a b o1 : List ℕ} → Put base w o p a o1 r → a ≡ b → Put base w o p b o1 r
put_same x e = rw e at x

-- ---- up to the last delimiter

-- a value with the blanks before it
bare : ℕ → ℕ → Item → List ℕ
bare w p v = replicate (gap w p (firm v)) 32 ++ spelled v

-- all of the values but the last delimiter
pub body : ℕ → ℕ → Item → List Item → List ℕ
body w p v [] = bare w p v
body w p v (u ∷ vs) = piece w p v false ++ body w (p + length (piece w p v false)) u vs

pub parted_body : (w p : ℕ) (v : Item) (vs : List Item) → parted w p (v ∷ vs) ≡ body w p v vs ++ (44 ∷ [])
unfolding parted body bare piece
parted_body w p v [] = simp (append_assoc)
parted_body w p v (u ∷ vs) =
    ap (λ (l : List ℕ). piece w p v false ++ l) (parted_body w (p + length (piece w p v false)) u vs)
    ∙ sym (append_assoc (piece w p v false) (body w (p + length (piece w p v false)) u vs) (44 ∷ []))

pub flow_body : (w p : ℕ) (v : Item) (vs : List Item) → flow w p (v ∷ vs) ≡ body w p v vs ++ (59 ∷ [])
unfolding flow body bare piece
flow_body w p v [] = simp (append_assoc)
flow_body w p v (u ∷ vs) =
    ap (λ (l : List ℕ). piece w p v false ++ l) (flow_body w (p + length (piece w p v false)) u vs)
    ∙ sym (append_assoc (piece w p v false) (body w (p + length (piece w p v false)) u vs) (59 ∷ []))

-- both are as long
pub parted_long : (w p : ℕ) (v : Item) (vs : List Item) → length (parted w p (v ∷ vs)) ≡ length (flow w p (v ∷ vs))
parted_long w p v vs = rw (parted_body w p v vs, flow_body w p v vs) (simp length-append (omega arith))

-- of what is still owed, one value more is written
pub parted-next : {base w p r r' : ℕ} {o bs o1 o2 : List ℕ} (v : Item) (vs : List Item) → Owed base w o p bs o1 r (parted w r (v ∷ vs)) → Put base w o1 r (piece w r v false) o2 r'
    → Owed base w o p bs o2 r' (parted w r' vs)
unfolding parted
parted-next v vs a y = rw y.next (owed_less a (rw y.next at y))

-- ---- the last delimiter written over

over_last : (base w : ℕ) (o : List ℕ) (p : ℕ) (l : List ℕ) → over base w (over base w o p (l ++ (44 ∷ []))) (p + length l) (59 ∷ []) ≡ over base w o p (l ++ (59 ∷ []))
unfolding over
over_last base w o p l =
    let q = p + length l in
    let u = over base w o p l in
    ap (λ (x : List ℕ). set x (index_of base w q) 59) (sym (over-over base w o p l (44 ∷ []))) ∙ set-set u (index_of base w q) 44 59 ∙ over-over base w o p l (59 ∷ [])

-- the text in whole lines
pub ended : (base w : ℕ) → 1 ≤ w → {o o1 o2 : List ℕ} {p : ℕ} (l t : List ℕ) → t ≡ l ++ (59 ∷ []) → Put base w o 0 (l ++ (44 ∷ [])) o1 p
    → o2 ≡ over base w (over base w o1 (p - 1) (59 ∷ [])) p (replicate (line_count w p * w - p) 32) → o2 ≡ over base w o 0 (joined (in_lines w t))
ended base w h {o} {o1} {o2} {p} l t et x e =
    let n : p ≡ length l + 1 = x.next ∙ zero-add (length (l ++ (44 ∷ []))) ∙ length-append l (44 ∷ []) in
    let lt : length t ≡ p = ap length et ∙ length-append l (59 ∷ []) ∙ sym n in
    let q : p - 1 ≡ 0 + length l = omega arith in
    let e1 : over base w o1 (p - 1) (59 ∷ []) ≡ over base w o 0 t
    = ap (λ (k : ℕ). over base w o1 k (59 ∷ [])) q ∙ ap (λ (y : List ℕ). over base w y (0 + length l) (59 ∷ [])) x.bytes ∙ over_last base w o 0 l ∙ ap (over base w o 0) (sym et) in
    let e2 : p ≡ 0 + length t = omega arith in
    let bs : List ℕ = replicate (line_count w p * w - p) 32 in
    let e3 : t ++ bs ≡ joined (in_lines w t) = ap (λ (k : ℕ). t ++ replicate (line_count w k * w - k) 32) (sym lt) ∙ sym (join_lines w h t) in
    e ∙ ap (λ (y : List ℕ). over base w y p bs) e1 ∙ ap (λ (k : ℕ). over base w (over base w o 0 t) k bs) e2 ∙ over-over base w o 0 t bs ∙ ap (over base w o 0) e3

-- ---- what the code asks

pub close-is : {base w p q r a : ℕ} {o o1 o2 : List ℕ} → r ≡ line_count w p → Put base w o (p - 1) (59 ∷ []) o1 q → q ≡ p - 1 + 1 → 1 ≤ p → Put base w o1 q (replicate (r * w - q) 32) o2 a
    → o2 ≡ over base w (over base w o (p - 1) (59 ∷ [])) p (replicate (line_count w p * w - p) 32)
close-is {base} {w} {p} {q} {r} {a} {o} {o1} {o2} er x eq h y =
    let k : q ≡ p = omega arith in
    let y' : o2 ≡ over base w o1 p (replicate (r * w - p) 32) = rw k at y.bytes in
    y' ∙ ap (λ (l : List ℕ). over base w l p (replicate (r * w - p) 32)) x.bytes ∙ ap (λ (j : ℕ). over base w (over base w o (p - 1) (59 ∷ [])) p (replicate (j * w - p) 32)) er

pub ruleset closing = (close-is, put-length)
