-- An entity, as its layout sees it.
use Rattle.std.specs.Prelude.{List, ℕ}
use Rattle.values.specs.Value.{Item}

-- values are those after the type number
pub record Entity : Type 0 where
  pub typ : ℕ
  pub form : ℕ
  pub values : List Item
