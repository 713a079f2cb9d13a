-- The canonical file of a model is read back up to its D lines: its counts, its start texts and its Global fields. Assumes nothing.
use mathlib.Core.Path.{◌≡◌, ap, ◌∙◌}
use mathlib.Core.List.{List, [], map}
use Prim.Native.Nat.{ℕ, ◌-◌, ◌*◌, ◌<◌}
use native.Mathlib.Nat.{zero-add}
use native.Mathlib.Omega.{arith}
use lib.ListN.{length, get_or}
use Rattle.columns.specs.Columns.{columns, line_at}
use Rattle.columns.specs.First.{up_from}
use Rattle.columns.specs.Refusal.{accepted}
use Rattle.columns.specs.Trim.{trim_end}
use Rattle.records.specs.Flow.{line_count}
use Rattle.records.specs.Global.{opening_of}
use Rattle.records.proofs.Lines.{join_lines}
use Rattle.cards.specs.Cards.{cards_of, outcome}
use Rattle.cards.proofs.Round.{body_of, s-columns, round}
use Rattle.cards.proofs.Text.{whole, g-text}
use Rattle.model.specs.Model.{Model}
use Rattle.model.specs.Canonical.{start_lines, global_text, global_lines, directory_lines, parameter_lines, canonical}
use Rattle.model.specs.Fit.{Fits}
use Rattle.model.specs.Read.{is_blank, start_text, starts_in, global_read, by_opening, global_in}
use Rattle.demands_back.proofs.Starts.{starts_each, map-up}
use Rattle.demands_back.proofs.Globals.{text-read}
use Rattle.demands_back.proofs.Bodies.{counts_in, Lined, length-starts}

module _ (list : ℕ) (m : Model) (h : Fits list m) (b : Lined m) where
  abbrev S : List (List ℕ)
  S = start_lines m

  abbrev G : List (List ℕ)
  G = global_lines m

  abbrev D : List (List ℕ)
  D = directory_lines 1 1 m.entries

  abbrev P : List (List ℕ)
  P = parameter_lines 1 m.entries

  -- 1 to 5
  pub cards_back : outcome (cards_of (canonical m)) ≡ accepted (counts_in m)
  unfolding canonical
  cards_back = ap outcome (round S G D P b.in_s b.in_g b.in_d b.in_p b.few b.some_s b.some_g b.even)

  -- ---- S

  start-columns : (i : ℕ) → i < length S → columns (line_at (canonical m) i) 0 72 ≡ get_or S i []
  unfolding canonical
  start-columns i l =
      s-columns S G D P b.in_s b.in_g b.in_d b.in_p b.few i 0 72 (omega arith) (omega arith) l
      ∙ whole (get_or S i []) (body_of b.in_s i l)

  start-at : (i : ℕ) → i < length m.starts → start_text (canonical m) i ≡ get_or m.starts i []
  unfolding start_lines
  start-at i l = ap (trim_end is_blank) (start-columns i (omega (arith, length-starts m))) ∙ starts_each h.starts i l

  pub starts_back : starts_in (canonical m) (counts_in m) ≡ m.starts
  unfolding starts_in
  starts_back =
      ap (λ (n : ℕ). map (start_text (canonical m)) (up_from 0 n)) (length-starts m)
      ∙ map-up (start_text (canonical m)) m.starts 0 (λ j l. ap (start_text (canonical m)) (zero-add j) ∙ start-at j l)

  -- ---- G: 6, 7 and 8

  pub globals_back : global_in (canonical m) (counts_in m) ≡ accepted (global_read 44 59 m.globals)
  unfolding global_in global_lines canonical
  globals_back =
      let t = global_text m.globals in
      ap (λ (x : List ℕ). by_opening (counts_in m) x (opening_of x))
      (g-text S G D P b.in_s b.in_g b.in_d b.in_p b.few ∙ join_lines 72 (omega arith) t)
      ∙ text-read (counts_in m) m.globals h.rising h.globals h.in_kind (line_count 72 (length t) * 72 - length t)
