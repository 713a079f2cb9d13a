-- A value that was read back strictly is spelled on its line as a record has it: its piece is blanks, what stands there, and ','. Assumes nothing.
use mathlib.Core.Path.{◌≡◌, sym, ap, ◌∙◌}
use mathlib.Core.Bool.{false}
use mathlib.Core.List.{List, [], ◌∷◌}
use Prim.Native.Nat.{ℕ, ◌+◌, ◌^◌, ◌≤◌, ◌<◌}
use native.Mathlib.Omega.{arith}
use lib.ListN.{length, replicate}
use Rattle.std.specs.Prelude.{Some}
use Rattle.values.specs.Value.{item_of}
use Rattle.values.specs.Strict.{strict_of, meant}
use Rattle.values.specs.Writing.{front}
use Rattle.values.proofs.OneSpelling.{sound, strict_short}
use Rattle.values.proofs.Backs.{strict_inside}
use Rattle.records.specs.Flow.{firm, gap, piece}
use Rattle.records.specs.Written.{Put}
use Rattle.records.proofs.Puts.{firm-front, then, put-length}

module _ (l : List ℕ) (s : strict_of l ≡ Some (meant l)) where
  module _ {n : ℕ} (h : n ≤ length l) where
    pub front-sum : n + 1 < 2 ^ 64
    front-sum = omega (arith, strict_short l s)

    pub front-room : n + 1 ≤ 2 ^ 40
    front-room = omega (arith, strict_short l s)

  module _ {p g q : ℕ} (hp : p ≤ 2 ^ 40) (k : g ≤ 80) (eq : q ≡ p + g) where
    pub spelled-room : q + length l ≤ 2 ^ 41
    spelled-room = omega (arith, strict_short l s)

    pub comma-room : {e : ℕ} → e ≡ q + length l → e ≤ 2 ^ 41
    comma-room i = omega (arith, strict_short l s)

  pub spelled-piece : (n : ℕ) {base p g q e r : ℕ} {f f1 f2 f3 : List ℕ} → n ≡ length (front (meant l)) → g ≡ gap 64 p (n + 1) → Put base 64 f p (replicate g 32) f1 q
      → Put base 64 f1 q l f2 e → Put base 64 f2 e (44 ∷ []) f3 r → Put base 64 f p (piece 64 p (item_of l (meant l)) false) f3 r
  unfolding piece
  spelled-piece n en eg y1 y2 y3 =
      let t = (sound l s).text in
      let i : firm (item_of l (meant l)) ≡ n + 1 = firm-front l (meant l) (rw s at (strict_inside l)) ∙ ap (λ (k : ℕ). k + 1) (sym en) in
      rw (i, ← eg, t) (then y1 (then y2 y3))

pub run_room : (p g : ℕ) → p ≤ 2 ^ 40 → g ≤ 80 → p + g ≤ 2 ^ 41
run_room p g h k = omega arith

pub ruleset spelling = (front-sum, front-room, spelled-room, comma-room, spelled-piece, run_room, put-length)
