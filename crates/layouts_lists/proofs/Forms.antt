-- 402 and 406 are of the list in one form each. Assumes nothing.
use Rattle.std.proofs.Common.{◌≡◌, ℕ, refl}
use Rattle.layouts.specs.Layout.{paper, bit_of}
use Rattle.layouts.proofs.Tables.{bit_form, no_402, no_406}

module _ (typ form : ℕ) where
  pub form_7 : typ ≡ 402 → form ≡ 7 → 11 ≡ bit_of typ form
  unfolding bit_of paper
  form_7 e f = bit_form _ _ _ _ _ e f refl

  pub other_402 : typ ≡ 402 → (form ≡ 7 → ⊥) → 14 ≡ bit_of typ form
  unfolding bit_of paper
  other_402 e f = no_402 _ _ e f

  pub form_15 : typ ≡ 406 → form ≡ 15 → 12 ≡ bit_of typ form
  unfolding bit_of paper
  form_15 e f = bit_form _ _ _ _ _ e f refl

  pub other_406 : typ ≡ 406 → (form ≡ 15 → ⊥) → 14 ≡ bit_of typ form
  unfolding bit_of paper
  other_406 e f = no_406 _ _ e f

pub ruleset forms = (form_7, other_402, form_15, other_406)
