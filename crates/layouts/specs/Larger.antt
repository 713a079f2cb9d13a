-- What a larger list may add: 14 or 15.
use Rattle.std.specs.Prelude.{◌≡◌, ◌⊎◌}
use Rattle.columns.specs.declared.Fault.{Fault}
use Rattle.columns.specs.declared.Fault.TheVariants.{Layout, LayoutReference}

-- 14 or 15
abbrev pub Late : Fault → Type 0
Late n = (n ≡ Layout) ⊎ (n ≡ LayoutReference)
