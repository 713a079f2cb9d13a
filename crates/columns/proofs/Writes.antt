-- What one write after another leaves.
use mathlib.Core.Path.{◌≡◌, refl, sym, ap, ◌∙◌}
use Prim.Native.Nat.{ℕ, suc, ◌+◌, ◌-◌, ◌≤◌, ◌<◌, min}
use native.Mathlib.Nat.{add_assoc, add-zero}
use native.Mathlib.Numerals.{add-one}
use native.Mathlib.Omega.{arith}
use mathlib.Core.List.{List, [], ◌∷◌, ◌++◌}
use lib.ListN.{length, take, drop, get_or, set, replicate, length-append, length-take, length-drop, length-replicate, replicate-append-replicate, take-append-drop}
use lib.Seq.{take-suc, take_all, length-take-le, set_comm, set_out}
use native.Mathlib.Decide.{dec_le}
use borrow.Rule.Slice.PartMut.{put_mid}
use Rattle.std.proofs.lemmas.Slice.{put_mid-paste}
use Rattle.std.proofs.lemmas.List.{take-replicate}
use Rattle.std.proofs.lemmas.List.Edits.{paste_all}
use Rattle.columns.specs.Laid.{laid, length-laid, laid_one, laid_out, laid_nil, laid-laid, laid_eq, Wrote, Owes}

pub wrote_one : (o : List ℕ) (at b r : ℕ) → r ≡ at + 1 → Wrote o at (b ∷ []) (set o at b) r
wrote_one o at b r e = record { bytes = sym (laid_one o at b); next = e }

pub wrote_out : (o : List ℕ) (at b r : ℕ) → r ≡ at + 1 → length o ≤ at → Wrote o at (b ∷ []) o r
wrote_out o at b r e h = record { bytes = sym (laid_out o at b h); next = e }

pub wrote_none : {o : List ℕ} {at : ℕ} → Wrote o at [] o at
wrote_none {o} {at} = record { bytes = sym (laid_nil o at); next = sym (add-zero at) }

-- one write after another
pub then : {o o' o'' a b : List ℕ} {at r r' : ℕ} → Wrote o at a o' r → Wrote o' r b o'' r' → Wrote o at (a ++ b) o'' r'
then {o} {o'} {o''} {a} {b} {at} {r} {r'} p q = record {
  bytes = q.bytes ∙ (rw (p.bytes, p.next) (laid-laid o at a b));
  next = q.next ∙ (rw (p.next, length-append) (add_assoc at (length a) (length b)));
}

pub wrote_length : {o o' a : List ℕ} {at r : ℕ} → Wrote o at a o' r → length o' ≡ length o
wrote_length {o} {o'} {a} {at} p = ap length p.bytes ∙ length-laid o at a

-- the same bytes by another name
pub wrote_same : {o o' a b : List ℕ} {at r : ℕ} → Wrote o at a o' r → a ≡ b → Wrote o at b o' r
wrote_same p e = rw e at p

-- where there is room: what is before, the bytes, and what is after
pub wrote_eq : {o o' a : List ℕ} {at r : ℕ} → Wrote o at a o' r → r ≤ length o → o' ≡ take at o ++ (a ++ drop r o)
wrote_eq {o} {o'} {a} {at} {r} p h = p.bytes ∙ laid_eq o at a (omega (arith, p.next)) ∙ ap (λ (k : ℕ). take at o ++ (a ++ drop k o)) (sym p.next)

-- an empty buffer only measures: nothing is laid over it
pub laid_empty : (at : ℕ) (bs : List ℕ) → laid [] at bs ≡ []
laid_empty at bs = none (laid [] at bs) (length-laid [] at bs)
  where
    none : (l : List ℕ) → length l ≡ 0 → l ≡ []
    none [] e = refl
    none (x ∷ l) e = absurd (omega arith)

-- a copy: one byte more
pub wrote_more : {o o' o'' : List ℕ} {at r r' : ℕ} (s : List ℕ) (i : ℕ) → Wrote o at (take i s) o' r → i < length s → Wrote o' r (get_or s i 0 ∷ []) o'' r' → Wrote o at (take (i + 1) s) o'' r'
wrote_more s i p h q = rw (add-one, take-suc s i 0 h) (then p q)

pub wrote_all : {o o' : List ℕ} {at r : ℕ} (s : List ℕ) (i : ℕ) → Wrote o at (take i s) o' r → length s ≤ i → Wrote o at s o' r
wrote_all s i p h = rw (take_all i s h) at p

-- a run of one byte: one more
pub run_more : {o o' o'' : List ℕ} {at r r' b : ℕ} (i : ℕ) → Wrote o at (replicate i b) o' r → Wrote o' r (b ∷ []) o'' r' → Wrote o at (replicate (i + 1) b) o'' r'
run_more {b = b} i p q = rw (← replicate-append-replicate i 1 b) (then p q)

-- ---- where there is room, or none at all

-- past the end nothing is laid
pub laid-past : (o : List ℕ) (at : ℕ) (bs : List ℕ) → length o ≤ at → laid o at bs ≡ o
unfolding laid
laid-past o at [] h = refl
laid-past o at (b ∷ bs) h = rw (set_out o at b h) (laid-past o (suc at) bs (omega arith))

pub all_past : (o : List ℕ) (at : ℕ) (s : List ℕ) → length o ≤ at → Wrote o at s o (at + length s)
all_past o at s h = record { bytes = sym (laid-past o at s h); next = refl }

pub run_past : (o : List ℕ) (at b count : ℕ) → length o ≤ at → Wrote o at (replicate count b) o (at + count)
run_past o at b count h = record { bytes = sym (laid-past o at (replicate count b) h); next = rw length-replicate }

-- what there is no room for changes nothing
laid_clipped : (o : List ℕ) (at n : ℕ) (s : List ℕ) → n ≤ length s → length o ≤ at + n → laid o at (take n s) ≡ laid o at s
laid_clipped o at n s h k =
    let l : length (take n s) ≡ n = length-take-le n s h in
    let m : length (laid o at (take n s)) ≡ length o = length-laid o at (take n s) in
    sym (laid-past (laid o at (take n s)) (at + length (take n s)) (drop n s) (omega arith)) ∙ laid-laid o at (take n s) (drop n s) ∙ ap (λ (x : List ℕ). laid o at x) (take-append-drop n s)

-- one store for all that there is room for, which ends at last
module _ (o : List ℕ) (at last : ℕ) (s : List ℕ) (within : at < length o) (e : last ≡ min (at + length s) (length o)) where
  part_laid : laid o at (take (last - at) s) ≡ laid o at s
  part_laid = elim (dec_le (at + length s) (length o)) [
    | yes h ↦ ap (λ (x : List ℕ). laid o at x) (take_all (last - at) s (omega arith))
    | no h ↦ laid_clipped o at (last - at) s (omega arith) (omega arith)
  ]

  part_stored : (p : List ℕ) → p ≡ take (last - at) s → put_mid at (last - at) o p ≡ laid o at s
  part_stored p q =
      let l : length (take (last - at) s) ≡ last - at = length-take-le (last - at) s (omega arith) in
      put_mid-paste at (last - at) o p (take (last - at) s) (last - at) q refl (sym l) ∙ paste_all o at (take (last - at) s) (last - at) (sym l)
      ∙ ap (λ (k : ℕ). take at o ++ (take (last - at) s ++ drop (at + k) o)) (sym l) ∙ sym (laid_eq o at (take (last - at) s) (omega arith)) ∙ part_laid

  pub part_copied : (p : List ℕ) → p ≡ take (last - at) s → Wrote o at s (put_mid at (last - at) o p) (at + length s)
  part_copied p q = record { bytes = part_stored p q; next = refl }

pub part_filled : (o : List ℕ) (at last b count : ℕ) → at < length o → last ≡ min (at + count) (length o) → (p : List ℕ)
    → p ≡ replicate (length (take (last - at) (drop at o))) b → Wrote o at (replicate count b) (put_mid at (last - at) o p) (at + count)
part_filled o at last b count h e p q =
    let r : length (replicate count b) ≡ count = length-replicate count b in
    let n : length (take (last - at) (drop at o)) ≡ last - at = simp (length-take, length-drop) (omega arith) in
    let t : replicate (last - at) b ≡ take (last - at) (replicate count b) = sym (take-replicate (last - at) count b (omega arith)) in
    record {
      bytes = part_stored o at last (replicate count b) h (omega arith) p (q ∙ ap (λ (k : ℕ). replicate k b) n ∙ t);
      next = rw r;
    }

-- a store for each byte: none, and one more
pub wrote_start : {o : List ℕ} {at : ℕ} → Wrote o at [] o (at + 0)
wrote_start {o} {at} = record { bytes = sym (laid_nil o at); next = refl }

pub copy_more : {o o' : List ℕ} {at : ℕ} (s : List ℕ) (i : ℕ) → Wrote o at (take i s) o' (at + i) → i < length s → Wrote o at (take (i + 1) s) (set o' (at + i) (get_or s i 0)) (at + (i + 1))
copy_more {o} {o'} {at} s i p h = wrote_more s i p h (wrote_one o' (at + i) (get_or s i 0) (at + (i + 1)) (omega arith))

pub copy_all : {o o' : List ℕ} {at : ℕ} (s : List ℕ) (i : ℕ) → Wrote o at (take i s) o' (at + i) → i ≤ length s → length s ≤ i → Wrote o at s o' (at + length s)
copy_all {o} {o'} {at} s i p k h =
    let e : length s ≡ i = omega arith in
    rw e (wrote_all s i p h)

pub ruleset copies = (all_past, wrote_start, copy_more, copy_all)

pub ruleset clips = (wrote_none, wrote_more, wrote_all, wrote_length)

-- a store behind what is laid can come first
pub laid-before : (o : List ℕ) (at : ℕ) (a : List ℕ) (j b : ℕ) → at + length a ≤ j → laid (set o j b) at a ≡ set (laid o at a) j b
unfolding laid
laid-before o at [] j b h = refl
laid-before o at (x ∷ a) j b h = rw (set_comm o j at b x (λ e. omega arith)) (laid-before (set o at x) (suc at) a j b (omega arith))

-- the last byte first, and the last two
pub laid_last : (o : List ℕ) (at : ℕ) (a : List ℕ) (b : ℕ) → laid (set o (at + length a) b) at a ≡ laid o at (a ++ (b ∷ []))
laid_last o at a b = laid-before o at a (at + length a) b (omega arith) ∙ sym (laid_one (laid o at a) (at + length a) b) ∙ laid-laid o at a (b ∷ [])

pub laid_pair : (o : List ℕ) (at : ℕ) (a : List ℕ) (b c : ℕ) → laid (set (set o (at + length a) b) (at + length a + 1) c) at a ≡ laid o at ((a ++ (b ∷ [])) ++ (c ∷ []))
laid_pair o at a b c =
    let e : at + length (a ++ (b ∷ [])) ≡ at + length a + 1 = rw length-append (omega arith) in
    laid-before (set o (at + length a) b) at a (at + length a + 1) c (omega arith) ∙ rw (laid_last o at a b) (ap (λ (k : ℕ). set (laid o at (a ++ (b ∷ []))) k c) (sym e))
    ∙ sym (laid_one (laid o at (a ++ (b ∷ []))) (at + length (a ++ (b ∷ []))) c) ∙ laid-laid o at (a ++ (b ∷ [])) (c ∷ [])

-- ---- a write under way

pub owes_all : (o : List ℕ) (at : ℕ) (bs : List ℕ) → Owes o at bs o at bs
owes_all o at bs = record { bytes = refl; next = refl }

pub owes_less : {o bs o' o'' a cs : List ℕ} {at r r' : ℕ} → Owes o at bs o' r (a ++ cs) → Wrote o' r a o'' r' → Owes o at bs o'' r' cs
owes_less {o} {bs} {o'} {o''} {a} {cs} {at} {r} {r'} p q = record {
  bytes = rw (q.bytes, q.next, laid-laid o' r a cs) p.bytes;
  next = rw (q.next, add_assoc, ← length-append a cs) p.next;
}

pub owes_none : {o bs o' : List ℕ} {at r : ℕ} → Owes o at bs o' r [] → Wrote o at bs o' r
owes_none {o} {bs} {o'} {at} {r} p = record { bytes = sym (laid_nil o' r) ∙ p.bytes; next = sym (add-zero r) ∙ p.next }

-- what is owed by another name
pub owes_same : {o bs o' a b : List ℕ} {at r : ℕ} → Owes o at bs o' r a → a ≡ b → Owes o at bs o' r b
owes_same p e = rw e at p

pub owes_length : {o bs o' cs : List ℕ} {at r : ℕ} → Owes o at bs o' r cs → length o' ≡ length o
owes_length {o} {bs} {o'} {cs} {at} {r} p = sym (length-laid o' r cs) ∙ ap length p.bytes ∙ length-laid o at bs

pub ruleset writes = (wrote_one, wrote_out)
