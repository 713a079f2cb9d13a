-- The G lines of Global fields: one at least, 72 columns of bytes that a line may hold. Assumes nothing.
use mathlib.Core.Path.{◌≡◌, refl}
use mathlib.Core.Bool.{true, false}
use mathlib.Core.List.{List, [], ◌∷◌}
use Prim.Native.Nat.{ℕ, ◌≤◌}
use native.Mathlib.Omega.{arith}
use lib.ListN.{length, length-append}
use Rattle.columns.specs.Columns.{printable}
use Rattle.columns.proofs.Looks.{print_both}
use Rattle.values.specs.Value.{Item}
use Rattle.records.specs.Flow.{flow, in_lines}
use Rattle.records.specs.Global.{first_field, canonical_opening}
use Rattle.records.proofs.Round.{print_flow, opening-length}
use Rattle.cards.specs.Written.{All, none, one, Bodies}
use Rattle.sheets.specs.WellFormed.{Each, Filled}
use Rattle.model.specs.Canonical.{filled, global_text}
use Rattle.demands_back.proofs.Cuts.{Wide, lines_wide, lines_some}
use Rattle.demands_back.proofs.Held.{prints}
use Rattle.demands_back.proofs.Filled.{filled_held}

-- ---- the text

print_opening : printable (canonical_opening true) ≡ true
unfolding canonical_opening printable
print_opening = refl

print_opening_on : printable (canonical_opening false) ≡ true
unfolding canonical_opening printable
print_opening_on = refl

print_global : (gs : List (ℕ × Item)) → Each Filled gs → printable (global_text gs) ≡ true
unfolding global_text
print_global [] h = print_opening
print_global (g ∷ gs) h =
    let vs = filled first_field (g ∷ gs) in
    print_both (canonical_opening false) (flow 72 8 vs) print_opening_on (print_flow 72 8 vs (prints (filled_held first_field h)))

text_some : (gs : List (ℕ × Item)) → 1 ≤ length (global_text gs)
unfolding global_text
text_some [] = omega (arith, opening-length true)
text_some (g ∷ gs) = omega (arith, opening-length false, length-append (canonical_opening false) (flow 72 8 (filled first_field (g ∷ gs))))

-- ---- its lines

bodies_of : {xs : List (List ℕ)} → All (Wide 72) xs → Bodies xs
bodies_of none = none
bodies_of (one p ps) = one (record { wide = p.wide; good = p.good }) (bodies_of ps)

pub global_bodies : (gs : List (ℕ × Item)) → Each Filled gs → Bodies (in_lines 72 (global_text gs))
global_bodies gs h = bodies_of (lines_wide 72 (global_text gs) (print_global gs h))

pub global_some : (gs : List (ℕ × Item)) → 1 ≤ length (in_lines 72 (global_text gs))
global_some gs = lines_some 72 (global_text gs) (omega arith) (text_some gs)
