-- Ranges of an entry's numbers: one that is out of its range fails the whole, and so does one that is too wide.
use mathlib.Core.Path.{◌≡◌, refl, sym, ap, ◌∙◌}
use mathlib.Core.Bool.{Bool, true, false, cond, not, ◌&&◌}
use mathlib.Core.List.{List, [], ◌∷◌}
use Prim.Native.Nat.{ℕ, ◌+◌, ◌^◌, ◌≤◌, ◌<◌}
use native.Mathlib.Omega.{arith}
use native.Mathlib.Decide.{dec_lt}
use lib.ListN.{length}
use lib.Dec.{leb, ltb, eqb}
use borrow.Author.Tests.{le-leb, lt-leb, lt-ltb, le-ltb, ne_eqb, not-true, not-false}
use Rattle.std.specs.List.{list_all}
use Rattle.columns.specs.declared.Fault.TheVariants.{Directory, Macro}
use Rattle.columns.specs.declared.Signed.{Signed}
use Rattle.columns.specs.Decimal.{dec, minus, signed_dec}
use Rattle.columns.specs.Refusal.{◌then◌, demand}
use Rattle.columns.proofs.Decimals.{dec-below, length_dec_below, length-signed}
use Rattle.directory.specs.declared.Fields.{Fields}
use Rattle.std.specs.Prelude.{Ok, Err}
use Rattle.directory.specs.Fields.{nought, in_order}
use Rattle.directory.specs.Rules.{narrow, ranges_ok, entry_rules}
use Rattle.directory.specs.Asking.{outcome_of, rule_of}

-- ---- one number

-- so many columns are left for the digits of x, its sign in one of the eight
width : (x : Signed) (k : ℕ) → 1 ≤ k → length (signed_dec x) + k ≡ length (dec x.size) + 8 → ltb x.size (10 ^ k) ≡ leb (length (signed_dec x)) 8
width x k h e = elim (dec_lt x.size (10 ^ k)) [
  | yes l ↦ lt-ltb _ _ l ∙ sym (le-leb (length (signed_dec x)) 8 (omega (arith, length_dec_below k x.size h l)))
  | no l ↦ le-ltb x.size (10 ^ k) (omega arith) ∙ sym (lt-leb (length (signed_dec x)) 8 (wide l))
]
  where
    wide : (x.size < 10 ^ k → ⊥) → 8 < length (signed_dec x)
    wide l = elim (dec_lt 8 (length (signed_dec x))) [ yes q ↦ q | no q ↦ absurd (l (dec-below k x.size (omega arith))) ]

signed-length : (x : Signed) (b : Bool) → x.neg ≡ b → length (signed_dec x) ≡ length (minus b) + length (dec x.size)
signed-length x b h = length-signed x ∙ ap (λ (s : Bool). length (minus s) + length (dec x.size)) h

pub narrow-minus : (x : Signed) → x.neg ≡ true → ltb x.size 10000000 ≡ leb (length (signed_dec x)) 8
narrow-minus x h =
    let e : length (signed_dec x) ≡ 1 + length (dec x.size) = signed-length x true h in
    width x 7 (omega arith) (omega arith)

pub narrow-plain : (x : Signed) → x.neg ≡ false → ltb x.size 100000000 ≡ leb (length (signed_dec x)) 8
narrow-plain x h =
    let e : length (signed_dec x) ≡ 0 + length (dec x.size) = signed-length x false h in
    width x 8 (omega arith) (omega arith)

pub ruleset numbered = (narrow-minus, narrow-plain)

-- ---- all of them, one by one

pub narrow_is_all : (xs : List Signed) → list_all (λ x. leb (length (signed_dec x)) 8) xs ≡ narrow xs
narrow_is_all [] = refl
narrow_is_all (x ∷ xs) = ap (λ b. leb (length (signed_dec x)) 8 && b) (narrow_is_all xs)

-- ---- the whole

module _ (x : Fields) where
  -- ---- 9, then 13

  pub rule_9 : (s : Bool) → s ≡ ranges_ok x → s ≡ false → Err Directory ≡ rule_of x
  unfolding rule_of
  rule_9 s e h = rw (← e, h)

  pub rule_13 : (s : Bool) → s ≡ ranges_ok x → s ≡ true → x.entity.size ≡ 306 → Err Macro ≡ rule_of x
  unfolding rule_of
  rule_13 s e h k = rw (← e, h, k)

  pub rule_good : (s : Bool) → s ≡ ranges_ok x → s ≡ true → (x.entity.size ≡ 306 → ⊥) → Ok tt ≡ rule_of x
  unfolding rule_of
  rule_good s e h k = rw (← e, h, ne_eqb _ _ k)

  -- what the code answers is the rule's outcome
  pub rule_outcome : (place : ℕ) → outcome_of (rule_of x) place ≡ entry_rules x place
  unfolding rule_of entry_rules
  rule_outcome place = pick (ranges_ok x) (eqb x.entity.size 306)
    where
      pick : (a b : Bool) → outcome_of (cond a (cond b (Err Macro) (Ok tt)) (Err Directory)) place ≡ demand a Directory place then λ _. demand (not b) Macro place
      pick true true = refl
      pick true false = refl
      pick false b = refl

pub ruleset ruling = (not-true, not-false, rule_9, rule_13, rule_good)
