-- The references left fit exactly if all do: those passed fit.
use mathlib.Core.Path.{◌≡◌}
use Rattle.directory.specs.Rules.{all_fit, references}
use Rattle.directory.specs.Asking.{rest_fit}
use Rattle.directory_rules.proofs.all_ask_ok.Given as goal

abbrev pub invariant-loop-j : goal.invariant-loop-j
invariant-loop-j g l = rest_fit (g.E.Entries.types l.entries) l.e l.j ≡ all_fit (g.E.Entries.types l.entries) (references l.e)
