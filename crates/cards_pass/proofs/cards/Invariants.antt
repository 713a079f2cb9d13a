-- `cards_pass::cards`: the pass from the counts so far over the lines left is the pass over all lines; the total of the counts is the line reached.
use mathlib.Core.Path.{◌≡◌}
use Prim.Native.Nat.{◌+◌, ◌-◌, ◌≤◌}
use Rattle.columns.specs.Format.{most_lines}
use Rattle.cards.specs.Cards.{lines_from, lines_of, pass, start, total}
use Rattle.cards_pass.proofs.cards.Given as goal

abbrev pub invariant-loop-k : goal.invariant-loop-k
invariant-loop-k l =
    (1 ≤ l.n) × (l.n ≤ most_lines) × (total l.c ≡ l.k) × (pass l.c (l.k + 1) (lines_from l.file l.k (l.n - l.k)) ≡ pass start 1 (lines_of l.file))
