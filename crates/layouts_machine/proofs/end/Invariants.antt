-- The verdict is that of the turns left from the state reached.
use Rattle.std.proofs.Common.{◌≡◌, ◌-◌}
use Rattle.layouts.specs.Machine.{finish, end}
use Rattle.layouts_machine.proofs.end.Given as goal

abbrev pub invariant-loop : goal.invariant-loop
invariant-loop l = end l.initial.t ≡ finish (16 - l.counter) l.t
