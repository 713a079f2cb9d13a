-- The paper's numbers of refusals: none is 0, which is the number of an answer that is no refusal. Assumes nothing.
use mathlib.Core.Path.{◌≡◌}
use native.Mathlib.Omega.{arith}
use Rattle.columns.specs.declared.Fault.{Fault}
use Rattle.columns.specs.declared.Fault.TheVariants.{ListOrLength, Byte, Section, Sequence, Terminate, Spelling, Limit, Global, Directory, Reference, Ownership, FirstValue, Macro, Layout, LayoutReference, Room, SheetLine, Mark, TooLong}
use Rattle.columns.specs.Refusal.{number}

-- no refusal has the number 0
pub numbered : (n : Fault) → number n ≡ 0 → ⊥
numbered ListOrLength e = omega arith
numbered Byte e = omega arith
numbered Section e = omega arith
numbered Sequence e = omega arith
numbered Terminate e = omega arith
numbered Spelling e = omega arith
numbered Limit e = omega arith
numbered Global e = omega arith
numbered Directory e = omega arith
numbered Reference e = omega arith
numbered Ownership e = omega arith
numbered FirstValue e = omega arith
numbered Macro e = omega arith
numbered Layout e = omega arith
numbered LayoutReference e = omega arith
numbered Room e = omega arith
numbered SheetLine e = omega arith
numbered Mark e = omega arith
numbered TooLong e = omega arith
