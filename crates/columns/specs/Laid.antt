-- Bytes laid over a list from a place on, clipped to the list's length: `lib.Seq`'s `sets`, in which a store past the end changes nothing.
use Rattle.std.specs.Prelude.{◌≡◌, refl, ℕ, suc, ◌+◌, ◌≤◌, List, [], ◌∷◌, ◌++◌, length, take, drop, set}
use Rattle.std.proofs.Common.{◌∙◌, add-zero, add-suc, suc-add, append_assoc}
use Rattle.std.proofs.lemmas.List.Edits.{sets, sets-eq}
use Rattle.std.proofs.Math.Seq.{length-sets, set_out}

-- bs laid over o from at on
unfoldable pub laid : List ℕ → ℕ → List ℕ → List ℕ
laid o at bs = sets o at bs

-- the list's length stays
pub length-laid : (o : List ℕ) (at : ℕ) (bs : List ℕ) → length (laid o at bs) ≡ length o
unfolding laid
length-laid o at bs = length-sets o at bs

-- one byte is a store
pub laid_one : (o : List ℕ) (at b : ℕ) → laid o at (b ∷ []) ≡ set o at b
unfolding laid
laid_one o at b = refl

-- past the end nothing is laid
pub laid_out : (o : List ℕ) (at b : ℕ) → length o ≤ at → laid o at (b ∷ []) ≡ o
unfolding laid
laid_out o at b h = set_out o at b h

-- nothing is laid
pub laid_nil : (o : List ℕ) (at : ℕ) → laid o at [] ≡ o
unfolding laid
laid_nil o at = refl

-- one piece after another is both in one
pub laid-laid : (o : List ℕ) (at : ℕ) (a b : List ℕ) → laid (laid o at a) (at + length a) b ≡ laid o at (a ++ b)
unfolding laid
laid-laid o at [] b = rw add-zero
laid-laid o at (x ∷ a) b = rw (add-suc, ← suc-add) (laid-laid (set o at x) (suc at) a b)

-- where there is room: what is before, the bytes, and what is after
pub laid_eq : (o : List ℕ) (at : ℕ) (bs : List ℕ) → at + length bs ≤ length o
    → laid o at bs ≡ take at o ++ (bs ++ drop (at + length bs) o)
unfolding laid
laid_eq o at bs h = sets-eq bs o at h ∙ append_assoc (take at o) bs (drop (at + length bs) o)

-- what a function that writes leaves: bs is laid over o from at, and r is the place after it
pub record Wrote (o : List ℕ) (at : ℕ) (bs : List ℕ) (o' : List ℕ) (r : ℕ) : Type 0 where
  pub bytes : o' ≡ laid o at bs
  pub next : r ≡ at + length bs

-- a write under way: cs from r on is what is still to be laid
pub record Owes (o : List ℕ) (at : ℕ) (bs o' : List ℕ) (r : ℕ) (cs : List ℕ) : Type 0 where
  pub bytes : laid o' r cs ≡ laid o at bs
  pub next : r + length cs ≡ at + length bs
