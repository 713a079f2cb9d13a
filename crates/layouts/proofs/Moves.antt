-- From place to place. Assumes nothing.
use mathlib.Core.Path.{◌≡◌, refl, sym, ap, ◌∙◌}
use mathlib.Core.Bool.{Bool}
use Prim.Native.Nat.{ℕ, ◌+◌, ◌-◌, ◌≤◌, ◌<◌}
use borrow.Author.Tests.{le-ltb, lt-ltb, eq-eqb, ne_eqb}
use Rattle.layouts.specs.declared.Then.{Then}
use Rattle.layouts.specs.declared.Then.TheVariants.{Next}
use Rattle.layouts.specs.declared.LayoutPlace.{LayoutPlace}
use Rattle.layouts.specs.declared.LayoutState.{LayoutState}
use Rattle.layouts.specs.Table.{place_at}
use Rattle.layouts.specs.Machine.{times, follow, enter, beyond, if_empty, stand, settle, onward}

pub follow-next : (x : Then) (s : LayoutState) → stand s (s.at + 1) 0 ≡ follow x s
follow-next Next s = refl

pub enter-is : (s : LayoutState) (p : LayoutPlace) (n : ℕ) → p ≡ place_at s.at → n ≡ times p.times s → stand s s.at n ≡ enter s
enter-is s p n ep en = ap (stand s s.at) (en ∙ ap (λ (q : LayoutPlace). times q.times s) ep)

pub beyond-is : (s : LayoutState) (p : LayoutPlace) (t r : LayoutState) → p ≡ place_at s.at → t ≡ follow p.next s → r ≡ enter t → r ≡ beyond s
beyond-is s p t r ep et er = er ∙ ap enter (et ∙ ap (λ (q : LayoutPlace). follow q.next s) ep)

pub settle-past : (s r : LayoutState) → s.left ≡ 0 → r ≡ beyond s → r ≡ settle s
unfolding settle
settle-past s r z q = q ∙ ap (λ (b : Bool). if_empty b (beyond s) s) (sym (eq-eqb s.left 0 z))

pub settle-here : (s : LayoutState) → (s.left ≡ 0 → ⊥) → s ≡ settle s
unfolding settle
settle-here s z = ap (λ (b : Bool). if_empty b (beyond s) s) (sym (ne_eqb s.left 0 z))

pub onward_same : (s : LayoutState) → 1 < s.left → stand s s.at (s.left - 1) ≡ onward s
unfolding onward
onward_same s h = simp (lt-ltb 1 s.left h)

pub onward-next : (s t r : LayoutState) → s.left ≤ 1 → t ≡ beyond s → r ≡ settle t → r ≡ onward s
unfolding onward
onward-next s t r h e q = simp (le-ltb 1 s.left h) (q ∙ ap settle e)

pub ruleset moves = (follow-next, enter-is, beyond-is, settle-past, settle-here, onward_same, onward-next)
