-- In a file that is put together of its lines, the name on a P line is that in its columns; a file passes exactly if the rules hold.
use mathlib.Core.Path.{◌≡◌, refl, ap, ◌∙◌}
use Prim.Native.Nat.{ℕ, ◌+◌, ◌-◌, ◌≤◌}
use native.Mathlib.Omega.{arith}
use mathlib.Core.List.{List, []}
use lib.ListN.{length, get_or}
use Rattle.columns.specs.Columns.{line_at}
use Rattle.columns.specs.Refusal.{accepted}
use Rattle.columns.specs.Format.{most_lines}
use Rattle.cards.specs.declared.Counts.{Counts}
use Rattle.cards.specs.Cards.{total, entries}
use Rattle.cards.specs.Written.{Bodies, counts_of, file_of}
use Rattle.cards.proofs.Round.{body_of, line-byte, p-line, p-columns}
use Rattle.owners.specs.declared.Owned.{Owned}
use Rattle.owners.specs.declared.Owned.TheVariants.{Everyone, Entry, Line}
use Rattle.owners.specs.Rules.{Owns}
use Rattle.owners.specs.InFile.{name_of, owner_in, from_in, count_in, owners_in, outcome}
use Rattle.owners.proofs.Theory.{sound, complete}

-- ---- a file that passes

pub passes_owns : (f : List ℕ) (c : Counts) → owners_in f c ≡ Everyone → Owns (owner_in f c) (from_in f c) (count_in f c) (entries c) c.p
unfolding owners_in
passes_owns f c e = sound (owner_in f c) (from_in f c) (count_in f c) (entries c) c.p e

pub owns_passes : (f : List ℕ) (c : Counts) → Owns (owner_in f c) (from_in f c) (count_in f c) (entries c) c.p → owners_in f c ≡ Everyone
unfolding owners_in
owns_passes f c o = complete (owner_in f c) (from_in f c) (count_in f c) (entries c) c.p o

-- no refusal is that every line has its entry
pub accepted_everyone : (c : Counts) (o : Owned) → outcome c o ≡ accepted tt → o ≡ Everyone
accepted_everyone c Everyone e = refl
accepted_everyone c (Entry m) e = let z : ◌≡◌ {A = ℕ} 0 1 = cc in absurd (omega arith)
accepted_everyone c (Line k) e = let z : ◌≡◌ {A = ℕ} 0 1 = cc in absurd (omega arith)

-- ---- a file that was put together

module _ (S G D P : List (List ℕ)) (bs : Bodies S) (bg : Bodies G) (bd : Bodies D) (bp : Bodies P) (few : total (counts_of S G D P) ≤ most_lines) where
  abbrev F : List ℕ
  F = file_of S G D P

  abbrev C : Counts
  C = counts_of S G D P

  pub owner_written : (k : ℕ) → 1 ≤ k → k ≤ length P → owner_in F C k ≡ name_of (get_or P (k - 1) [])
  unfolding owner_in name_of
  owner_written k lo hi =
      let e : get_or (line_at F (length S + length G + length D + (k - 1))) 64 0 ≡ get_or (get_or P (k - 1) []) 64 0
      = ap (λ (l : List ℕ). get_or l 64 0) (p-line S G D P bs bg bd bp few (k - 1) (omega arith)) ∙ line-byte (get_or P (k - 1) []) 80 (k - 1 + 1) (body_of bp (k - 1) (omega arith)) (omega arith) 64 (omega arith) in
      rw (e, p-columns S G D P bs bg bd bp few (k - 1) 65 72 (omega arith) (omega arith) (omega arith))
