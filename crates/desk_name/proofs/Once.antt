-- No second part fits the contract of `name`: it fixes where the part stands and its bytes. Assumes nothing.
use mathlib.Core.Path.{◌≡◌, sym, ◌∙◌}
use mathlib.Core.List.{List}
use Prim.Native.Nat.{ℕ}
use denote.Ref.{Bor}
use Rattle.desk.specs.Answers.{Shown, label_from, stand_in, nothing}
use Rattle.desk_name.specs.Names.{Part, Shows}

part-once : (s r r' : Bor (List ℕ)) (at n : ℕ) → Part s at n r → Part s at n r' → (r.ref_ptr ≡ r'.ref_ptr) × (r.now ≡ r'.now)
part-once s r r' at n p p' = (p.place ∙ sym p'.place, p.bytes ∙ sym p'.bytes)

pub shown-once : (file stand r r' : Bor (List ℕ)) (o : Shown) → Shows file stand o r → Shows file stand o r' → (r.ref_ptr ≡ r'.ref_ptr) × (r.now ≡ r'.now)
unfolding Shows
shown-once file stand r r' (label_from at) p p' = part-once file r r' _ _ p p'
shown-once file stand r r' stand_in p p' = part-once stand r r' _ _ p p'
shown-once file stand r r' nothing p p' = part-once stand r r' _ _ p p'
