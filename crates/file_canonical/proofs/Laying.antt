-- Two regions of a buffer, one behind the other, laid turn by turn: what is still owed of each. Assumes nothing.
use mathlib.Core.Path.{◌≡◌, refl, sym, ap, ◌∙◌}
use mathlib.Core.List.{List, [], ◌∷◌, ◌++◌}
use Prim.Native.Nat.{ℕ, suc, ◌+◌, ◌≤◌, ◌<◌}
use native.Mathlib.Omega.{arith}
use lib.ListN.{length, set, length-append}
use lib.Seq.{set_comm}
use Rattle.columns.specs.Laid.{laid, laid_nil, laid-laid, Wrote}
use Rattle.file_canonical.specs.Laying.{Owing}

-- a store before a region
set-laid : (o : List ℕ) (i b at : ℕ) (bs : List ℕ) → i < at → set (laid o at bs) i b ≡ laid (set o i b) at bs
unfolding laid
set-laid o i b at [] h = refl
set-laid o i b at (x ∷ bs) h = set-laid (set o at x) i b (suc at) bs (omega arith) ∙ ap (λ (l : List ℕ). laid l (suc at) bs) (set_comm o at i x b (λ e. omega arith))

-- a region, and one behind it: in any order
pub laid-before : (o : List ℕ) (p : ℕ) (x : List ℕ) (d : ℕ) (y : List ℕ) → d + length y ≤ p → laid (laid o p x) d y ≡ laid (laid o d y) p x
unfolding laid
laid-before o p x d [] h = refl
laid-before o p x d (b ∷ y) h = ap (λ (l : List ℕ). laid l (suc d) y) (set-laid o d b p x (omega arith)) ∙ laid-before (set o d b) p x (suc d) y (omega arith)

-- ---- two writes under way

-- b is laid at q, then a at d
pub owing_less : {o o' o'' : List ℕ} {d q r : ℕ} (a b ds ps : List ℕ) → Owing o o' d (a ++ ds) q (b ++ ps) → Wrote (laid o' q b) d a o'' r → Owing o o'' r ds (q + length b) ps
owing_less {o} {o'} {o''} {d} {q} {r} a b ds ps w z =
    let k : length (a ++ ds) ≡ length a + length ds = length-append a ds in
    let e : laid (laid o'' r ds) (q + length b) ps ≡ laid (laid o' d (a ++ ds)) q (b ++ ps) =
    ap (λ (l : List ℕ). laid l (q + length b) ps) (rw (z.bytes, z.next) (laid-laid (laid o' q b) d a ds) ∙ laid-before o' q b d (a ++ ds) w.apart) ∙ laid-laid (laid o' d (a ++ ds)) q b ps in
    record { bytes = w.bytes ∙ sym e; apart = omega (arith, w.apart, z.next) }

pub owing-none : {o o' : List ℕ} {d q : ℕ} → Owing o o' d [] q [] → o' ≡ o
owing-none {o} {o'} {d} {q} w = sym (w.bytes ∙ ap (λ (l : List ℕ). laid l q []) (laid_nil o' d) ∙ laid_nil o' q)
