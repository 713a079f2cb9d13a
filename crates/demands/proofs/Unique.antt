-- No second result fits: a contract that equates its result, and what it leaves, with functions of the input has one. Assumes nothing.
use mathlib.Core.Path.{◌≡◌, refl, sym, ap, ◌∙◌}
use mathlib.Core.List.{List}
use Prim.Native.Nat.{ℕ}
use Rattle.columns.specs.declared.DirectoryNumber.{DirectoryNumber}
use Rattle.columns.specs.declared.ParameterLine.{ParameterLine}
use Rattle.columns.specs.Laid.{Wrote}
use Rattle.records.specs.Written.{Put}
use Rattle.desk_name.proofs.Once.{shown-once}
use Rattle.demands.specs.Unique.{ReadDetermined, WriteDetermined, SzelmikraReadDetermined, SzelmikraWriteDetermined, ShowDetermined, NameDetermined, AnsweredOnce, WroteOnce}

-- two that are the same third are one
pub once : {A : Type 0} {x y a : A} → x ≡ a → y ≡ a → x ≡ y
once p q = p ∙ sym q

-- a directory number and a parameter line are what their numbers are
pub number-once : {x y : DirectoryNumber} {n : ℕ} → x.0 ≡ n → y.0 ≡ n → x ≡ y
number-once p q = ap (λ (n : ℕ). record { 0 = n }) (once p q)

pub line-once : {x y : ParameterLine} {n : ℕ} → x.0 ≡ n → y.0 ≡ n → x ≡ y
line-once p q = ap (λ (n : ℕ). record { 0 = n }) (once p q)

-- ---- the forms of a contract

pub answered-once : AnsweredOnce
answered-once A B room o left r r' b b' p q = (once p.0 q.0, once p.1 q.1)

pub wrote_once : WroteOnce
wrote_once o at bs o' o'' r r' p q = (once p.next q.next, once p.bytes q.bytes)

-- text laid into the columns of a file
pub put-once : (base w : ℕ) (o : List ℕ) (p : ℕ) (bs o' o'' : List ℕ) (r r' : ℕ) → Put base w o p bs o' r → Put base w o p bs o'' r' → (r ≡ r') × (o' ≡ o'')
put-once base w o p bs o' o'' r r' h k = (once h.next k.next, once h.bytes k.bytes)

-- where the buffer is the first argument
pub wrote_first : {T : Type 0} (others : T) {o bs o' o'' : List ℕ} {at r r' : ℕ} → Wrote o at bs o' r → Wrote o at bs o'' r'
    → (r ≡ r') × (◌≡◌ {A = List ℕ × T} (o', others) (o'', others))
wrote_first {T} others p q = (once p.next q.next, ap (λ (out : List ℕ). (out, others)) (once p.bytes q.bytes))

pub put_first : {T : Type 0} (others : T) {base w p r r' : ℕ} {o bs o' o'' : List ℕ} → Put base w o p bs o' r → Put base w o p bs o'' r'
    → (r ≡ r') × (◌≡◌ {A = List ℕ × T} (o', others) (o'', others))
put_first {T} others h k = (once h.next k.next, ap (λ (out : List ℕ). (out, others)) (once h.bytes k.bytes))

-- where only what is left of it is told
pub left_first : {T : Type 0} (others : T) {o o' x : List ℕ} → o ≡ x → o' ≡ x → ◌≡◌ {A = List ℕ × T} (o, others) (o', others)
left_first {T} others p q = ap (λ (out : List ℕ). (out, others)) (once p q)

-- where the lent buffer or table is the third and last argument
pub answered_third : {A B : Type 0} {x z z' : A} {y b b' : B} → (z ≡ x) × (b ≡ y) → (z' ≡ x) × (b' ≡ y)
    → (z ≡ z') × (◌≡◌ {A = Unit {0} × (Unit {0} × (B × Unit {0}))} (tt, (tt, (b, tt))) (tt, (tt, (b', tt))))
answered_third {B = B} p q = (once p.0 q.0, ap (λ (b : B). (tt, (tt, (b, tt)))) (once p.1 q.1))

-- ---- the entry points

pub read_determined : ReadDetermined
read_determined κs a z z' left left' p q = answered_third p q

pub write_determined : WriteDetermined
write_determined κs a z z' left left' p q = answered_third p q

pub szelmikra_read_determined : SzelmikraReadDetermined
szelmikra_read_determined κs a z z' left left' p q = answered_third p q

pub szelmikra_write_determined : SzelmikraWriteDetermined
szelmikra_write_determined κs a z z' left left' p q = answered_third p q

pub name_determined : NameDetermined
name_determined κs a z z' left left' p q =
    let b = shown-once _ _ z z' _ p q in
    (b.0, b.1, refl)

pub show_determined : ShowDetermined
show_determined κs a z z' left left' p q =
    let b = wrote_first left.1.1 p.0 q.0 in
    (b.0, ap (λ (out : List ℕ × Unit {0}). (tt, out)) b.1)
