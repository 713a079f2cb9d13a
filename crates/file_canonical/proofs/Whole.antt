-- Section behind section: the whole file. Assumes nothing.
use mathlib.Core.Path.{◌≡◌, refl, sym, ap, ◌∙◌}
use mathlib.Core.List.{List, ◌++◌, append_assoc}
use Prim.Native.Nat.{ℕ, ◌+◌, ◌*◌, ◌^◌, ◌≤◌}
use native.Mathlib.Omega.{arith}
use lib.ListN.{length, drop}
use Rattle.columns.specs.Laid.{laid, Wrote}
use Rattle.columns.specs.Format.{most_lines}
use Rattle.columns.proofs.Writes.{then, wrote_length, wrote_same}
use Rattle.records.specs.Flow.{line_count}
use Rattle.records.proofs.Lines.{lines_hold}
use Rattle.cards.specs.declared.Counts.{Counts}
use Rattle.cards.specs.Written.{line_of, totals_of}
use Rattle.sheets.specs.Sheet.{lines_in}
use Rattle.model.specs.Canonical.{global_text}
use Rattle.file_blocks.specs.Blocks.{globals_first, behind_globals, global_bytes}
use Rattle.file_canonical.specs.Laying.{starts_first, behind_starts, start_bytes, entries_in, entries_at, directory_bytes, parameter_bytes, both_laid, Turn, fields_in, TextsFit, TextsLaid, file_bytes, Ready}
use Rattle.file_canonical.proofs.Sections.{global_length, parameter_length}

-- laid where the last write ended
after : (o : List ℕ) (at : ℕ) (bs : List ℕ) {o' : List ℕ} {r : ℕ} → o' ≡ laid o at bs → r ≡ at + length bs → Wrote o at bs o' r
after o at bs e f = record { bytes = e; next = f }

five : {o o1 o2 o3 : List ℕ} {r : ℕ} (S G D P T : List ℕ) (a d p : ℕ) → length D ≡ 81 * d → length P ≡ 81 * p
    → Wrote o 0 (S ++ G) o1 (81 * a) → o2 ≡ laid (laid o1 (81 * a) D) (81 * (a + d)) P → Wrote o2 (81 * (a + d + p)) T o3 r
    → Wrote o 0 (S ++ (G ++ (D ++ (P ++ T)))) o3 r
five {o} {o1} {o2} {o3} {r} S G D P T a d p ld lp v c e =
    let w : Wrote o1 (81 * a) D (laid o1 (81 * a) D) (81 * (a + d)) = after o1 (81 * a) D refl (omega arith) in
    let x : Wrote (laid o1 (81 * a) D) (81 * (a + d)) P o2 (81 * (a + d + p)) = after (laid o1 (81 * a) D) (81 * (a + d)) P c (omega arith) in
    wrote_same (then v (then w (then x e))) (append_assoc S G (D ++ (P ++ T)))

-- ---- S and G

module _ (t : List ℕ) (s : ℕ) (f : TextsFit (lines_in t) s) (at : ℕ) (l : lines_in (drop at t) ≡ behind_starts (lines_in t)) where
  g-lines : line_count 72 (length (global_text (globals_first (lines_in (drop at t))))) ≤ most_lines
  g-lines = rw l f.globals

  pub texts_room : length (global_text (globals_first (lines_in (drop at t)))) ≤ 2 ^ 36
  texts_room = omega (arith, g-lines, lines_hold 72 (length (global_text (globals_first (lines_in (drop at t))))) (omega arith))

  pub texts_few : 1 + line_count 72 (length (global_text (globals_first (lines_in (drop at t))))) ≤ 9999999
  texts_few = omega (arith, g-lines)

  pub texts_laid : {o o1 o2 : List ℕ} {next : ℕ} → Wrote o 0 (start_bytes 1 (starts_first (lines_in t))) o1 (81 * s)
      → o2 ≡ laid o1 (81 * s) (global_bytes (globals_first (lines_in (drop at t))))
      → lines_in (drop next t) ≡ behind_globals (lines_in (drop at t)) → next ≤ length t → TextsLaid o t s o2 next
  texts_laid {o} {o1} {o2} {next} a b m i =
      let gs = fields_in (lines_in t) in
      let g = line_count 72 (length (global_text gs)) in
      record {
        wrote = then a (after o1 (81 * s) (global_bytes gs) (rw l at b) (omega (arith, global_length gs g refl f.globals)));
        lines = m ∙ ap behind_globals l;
        inside = i;
      }

pub ruleset texts = (texts_room, texts_few, texts_laid, wrote_length)

-- ---- all of it

module _ (t : List ℕ) (n : ℕ) (c : Counts) (y : Ready (lines_in t) n c) where
  pub ready_few : (c.s ≤ 200000) × (c.g ≤ 200000) × (c.d ≤ 200000) × (c.p ≤ 200000)
  ready_few = let h = y.few in (omega arith, omega arith, omega arith, omega arith)

  pub ready_texts : {s : ℕ} → s ≡ c.s → TextsFit (lines_in t) s
  ready_texts e = record { starts = y.s ∙ sym e; few = rw e ready_few.0; globals = rw y.g ready_few.1 }

  module _ {o o1 : List ℕ} {s at : ℕ} (l : TextsLaid o t s o1 at) where
    there : entries_at t at ≡ entries_in (lines_in t)
    there = ap entries_in l.lines ∙ y.entries

    pub ready-count : length (entries_at t at) ≡ n
    ready-count = ap length there ∙ y.count

    module _ {g d : ℕ} (es : s ≡ c.s) (eg : g ≡ c.g) (ed : d ≡ c.d) where
      pub ready_turn : Turn t (record { at = at; d = 81 * (s + g); p = 81 * (s + g + d); from = record { 0 = 1 } }) 0
      ready_turn =
          let h = y.few in
          record {
            rows = y.rows;
            lines = l.lines ∙ y.lines;
            inside = l.inside;
            apart = rw there (omega (arith, y.d));
            room = rw there (omega (arith, y.p));
            few = rw there (omega (arith, y.p));
            numbers = rw there (omega (arith, y.count, y.two));
          }

      pub ready-laid : {o2 o3 : List ℕ} {p r : ℕ} → p ≡ c.p
          → o2 ≡ both_laid o1 t (record { at = at; d = 81 * (s + g); p = 81 * (s + g + d); from = record { 0 = 1 } }) 0
          → Wrote o2 (81 * (s + g + d + p)) (line_of (totals_of c) 84 1) o3 r
          → Wrote o 0 (file_bytes (lines_in t) c) o3 r
      unfolding file_bytes
      ready-laid {o2} {o3} {p} {r} ep w e =
          let D = directory_bytes 0 1 (entries_in (lines_in t)) in
          let P = parameter_bytes 0 1 (entries_in (lines_in t)) in
          let k : line_count 72 (length (global_text (fields_in (lines_in t)))) ≡ g = y.g ∙ sym eg in
          let ld : length D ≡ 81 * d = y.d ∙ ap (λ (i : ℕ). 81 * i) (sym ed) in
          let lp : length P ≡ 81 * p = parameter_length (entries_in (lines_in t)) c.p y.p ready_few.3 (let h = y.few in omega (arith, y.count, y.two)) ∙ ap (λ (i : ℕ). 81 * i) (sym ep) in
          let w2 : o2 ≡ laid (laid o1 (81 * (s + g)) D) (81 * (s + g + d)) P = rw there at w in
          five (start_bytes 1 (starts_first (lines_in t))) (global_bytes (fields_in (lines_in t))) D P (line_of (totals_of c) 84 1) (s + g) d p ld lp (rw k at l.wrote) w2 e

  pub ready-s : c.s ≤ 200000
  ready-s = ready_few.0

  pub ready-g : c.g ≤ 200000
  ready-g = ready_few.1

  pub ready-d : c.d ≤ 200000
  ready-d = ready_few.2

  pub ready-p : c.p ≤ 200000
  ready-p = ready_few.3

pub ruleset laying = (ready_texts, ready-count, ready_turn, ready-laid, ready-s, ready-g, ready-d, ready-p, wrote_length)
