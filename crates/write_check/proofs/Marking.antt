-- The table of a sheet with many entries stands for the same as the table of classes. Assumes nothing.
use Rattle.std.proofs.Common.{◌≡◌, ℕ, ◌<◌, ◌≤◌, List, length, get_or, refl, ap, ◌∙◌, arith, eq-eqb, ne_eqb}
use Rattle.write_lines.specs.Classes.{table_size, Tabled}
use Rattle.write_lines.proofs.Tables.{wrote_length}
use Rattle.write_check.specs.Marked.{added_by, Marked}

pub marked_few : (n : ℕ) (o : List ℕ) → length o ≡ table_size → n ≤ table_size → Marked n o o
marked_few n o e h = record { size = e; same = λ _. refl }

pub marked-many : (n : ℕ) (o o' : List ℕ) → table_size < n → length o' ≡ table_size → Marked n o o'
marked-many n o o' h e = record { size = e; same = λ k. absurd (omega arith) }

pub ruleset marks = (marked_few, marked-many, wrote_length)

pub adds_known : (b : ℕ) → b ≡ 69 → 2 ≡ added_by b
unfolding added_by
adds_known b e = rw (eq-eqb b 69 e)

pub adds_unknown : (b : ℕ) → (b ≡ 69 → ⊥) → b ≡ 85 → 2 ≡ added_by b
unfolding added_by
adds_unknown b h e = rw (ne_eqb b 69 h, eq-eqb b 85 e)

pub adds_none : (b : ℕ) → (b ≡ 69 → ⊥) → (b ≡ 85 → ⊥) → 0 ≡ added_by b
unfolding added_by
adds_none b h k = rw (ne_eqb b 69 h, ne_eqb b 85 k)

pub ruleset adding = (adds_known, adds_unknown, adds_none)

pub tabled_marked : (c c' : List ℕ) (n : ℕ) (t : List ℕ) → Tabled c n t → Marked n c c' → Tabled c' n t
tabled_marked c c' n t tab m = record {
  size = m.size;
  each = λ few i h. ap (λ (l : List ℕ). get_or l i 0) (m.same few) ∙ tab.each few i h;
  count = tab.count;
  good = tab.good;
}
