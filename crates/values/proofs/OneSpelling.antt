-- A text that is read back strictly is the spelling of what is read, and each value that a record can hold is read back from its spelling.
-- Assumes nothing.
use mathlib.Core.Path.{◌≡◌, refl, sym, ap, ◌∙◌}
use mathlib.Core.Bool.{Bool, true, false, cond, ◌&&◌, false≢true}
use mathlib.Core.List.{List, [], ◌∷◌, ◌++◌, append_assoc, append-nil}
use Prim.Native.Nat.{ℕ, ◌+◌, ◌≤◌, ◌<◌}
use native.Mathlib.Omega.{arith}
use native.Mathlib.Numerals.{add-one}
use lib.ListN.{length, get_or, take, drop, length-append, length-drop}
use lib.Seq.{take_all, drop-cons, drop-append_seam}
use lib.Dec.{leb, eqb}
use borrow.Author.Tests.{leb-true, eqb-true, eq-eqb}
use Rattle.columns.specs.Columns.{printable, same_bytes}
use Rattle.columns.specs.Decimal.{dec}
use Rattle.columns.proofs.Decimals.{dec_some}
use Rattle.columns.proofs.Looks.{same_eq, same_self}
use Rattle.values.specs.declared.Number.{Number}
use Rattle.values.specs.declared.Number.TheVariants.{Whole as WholeOf, Real as RealOf, Beyond, Bad}
use Rattle.values.specs.declared.Token.{Token}
use Rattle.values.specs.declared.Head.{Head}
use Rattle.values.specs.declared.Head.TheVariants.{Count, Plain}
use Rattle.values.specs.declared.Value.{Value}
use Rattle.values.specs.declared.Value.TheVariants.{Default, Whole, Real, Text}
use Rattle.std.specs.Prelude.{Option, Some, None}
use Rattle.values.specs.Number.{digits, value, number_of}
use Rattle.values.specs.Head.{head_of}
use Rattle.values.specs.Value.{Item, default, whole, real, text, item_of, is_default, is_missing, head, spelled, Fine, fine_default, fine_whole, fine_real, fine_text, Printed}
use Rattle.values.specs.Strict.{numeral, string, by_head, strict_of}
use Rattle.values.proofs.Laws.{three}
use Rattle.values.proofs.Ends.{inside}
use Rattle.values.proofs.Digits.{digits_ds, digits_rest, value-below, plain-dec}
use Rattle.values.proofs.Canon.{Numeral, is_whole, is_real, read_fine}
use Rattle.values.proofs.Round.{round, round_text}
use Rattle.values.proofs.Sizes.{number_some, spelled_short}

-- ---- what is read back is spelt so

-- what a head says of its text
abbrev HeadIs : List ℕ → Head → Type 0
HeadIs l (Count count len) = (count ≡ value 0 (digits l)) × (len ≡ length (digits l) + 1) × (get_or l (length (digits l)) 0 ≡ 72) × (1 ≤ count) × (count ≤ 999)
HeadIs l (Plain k) = k ≡ number_of l

head-is : (l : List ℕ) → HeadIs l (head_of l)
unfolding head_of
head-is l = pick (eqb (get_or l (length (digits l)) 0) 72) (leb (length (digits l)) 3) (leb 1 (value 0 (digits l))) refl refl refl
  where
    pick : (a b c : Bool) → eqb (get_or l (length (digits l)) 0) 72 ≡ a → leb (length (digits l)) 3 ≡ b → leb 1 (value 0 (digits l)) ≡ c
        → HeadIs l (cond (a && (b && c)) (Count (value 0 (digits l)) (length (digits l) + 1)) (Plain (number_of l)))
    pick true true true d e f =
        let n = length (digits l) in
        (refl, refl, eqb-true (get_or l n 0) 72 d, leb-true 1 (value 0 (digits l)) f, omega (arith, three (value 0 (digits l)) n (value-below (digits_ds l)) (leb-true n 3 e)))
    pick true true false d e f = refl
    pick true false c d e f = refl
    pick false b c d e f = refl

-- a text and the value that it was read as
pub record Spelt (l : List ℕ) (v : Value) : Type 0 where
  pub text : spelled (item_of l v) ≡ l
  pub fine : Fine (item_of l v)
  pub printed : Printed (item_of l v)

abbrev SpeltIf : List ℕ → Option Value → Type 0
SpeltIf l (Some v) = Spelt l v
SpeltIf l None = Unit {0}

-- a count with no zero before it is spelt plainly
head_plain : (l : List ℕ) (count len : ℕ) → HeadIs l (Count count len) → len ≡ length (head count) → head count ++ drop len l ≡ l
head_plain l count len h z =
    let ds = digits l in
    let n = length ds in
    let i : n < length l = inside l n (rw h.2 (omega arith)) in
    let s : 1 ≤ n = omega (arith, dec_some count, length-append (dec count) (72 ∷ [])) in
    let e : length (dec (value 0 ds)) ≡ n = rw (← h.0) (omega (arith, length-append (dec count) (72 ∷ []))) in
    let d : dec count ≡ ds = ap dec h.0 ∙ plain-dec (digits_ds l) s e in
    let r : drop n l ≡ 72 ∷ drop len l = drop-cons l n 0 i ∙ rw (h.2, h.1, add-one) in
    append_assoc (dec count) (72 ∷ []) (drop len l) ∙ ap (λ (x : List ℕ). x ++ (72 ∷ drop len l)) d ∙ ap (λ (x : List ℕ). ds ++ x) (sym r) ∙ digits_rest l

spelt-text : (l : List ℕ) (count len : ℕ) → HeadIs l (Count count len) → len + count ≡ length l → len ≡ length (head count) → printable (drop len l) ≡ true → Spelt l (Text len count)
unfolding spelled
spelt-text l count len h a z p =
    let m : length (drop len l) ≡ count = length-drop len l ∙ omega arith in
    let t : take count (drop len l) ≡ drop len l = take_all count (drop len l) (omega arith) in
    record {
      text = ap (λ (x : List ℕ). head (length x) ++ x) t ∙ ap (λ (k : ℕ). head k ++ drop len l) m ∙ head_plain l count len h z;
      fine = rw t (fine_text (drop len l) (rw m h.3) (rw m h.4));
      printed = ap printable t ∙ p;
    }

spelt-string : (l : List ℕ) (count len : ℕ) → HeadIs l (Count count len) → SpeltIf l (string l count len)
spelt-string l count len h = pick (eqb (len + count) (length l)) (eqb len (length (head count))) (printable (drop len l)) refl refl refl
  where
    pick : (a b c : Bool) → eqb (len + count) (length l) ≡ a → eqb len (length (head count)) ≡ b → printable (drop len l) ≡ c → SpeltIf l (cond (a && (b && c)) (Some (Text len count)) None)
    pick true true true d e f = spelt-text l count len h (eqb-true (len + count) (length l) d) (eqb-true len (length (head count)) e) f
    pick true true false d e f = tt
    pick true false c d e f = tt
    pick false b c d e f = tt

spelt-numeral : (l : List ℕ) (k : Number) → (number_of l).number ≡ k → SpeltIf l (numeral l k)
spelt-numeral l (WholeOf neg size) e = pick (same_bytes (spelled (whole neg size)) l) refl
  where
    pick : (b : Bool) → same_bytes (spelled (whole neg size)) l ≡ b → SpeltIf l (cond b (Some (Whole neg size)) None)
    pick true h = record { text = same_eq (spelled (whole neg size)) l h; fine = read_fine l e is_whole; printed = tt }
    pick false h = tt
spelt-numeral l (RealOf neg m eneg x double) e = pick (same_bytes (spelled (real neg m eneg x double)) l) refl
  where
    pick : (b : Bool) → same_bytes (spelled (real neg m eneg x double)) l ≡ b → SpeltIf l (cond b (Some (Real neg m eneg x double)) None)
    pick true h = record { text = same_eq (spelled (real neg m eneg x double)) l h; fine = read_fine l e is_real; printed = tt }
    pick false h = tt
spelt-numeral l Beyond e = tt
spelt-numeral l Bad e = tt

spelt-head : (l : List ℕ) (h : Head) → HeadIs l h → SpeltIf l (by_head l h)
spelt-head l (Count count len) i = spelt-string l count len i
spelt-head l (Plain k) i = spelt-numeral l k.number (ap (λ (r : Token). r.number) (sym i))

spelt_if : (l : List ℕ) → SpeltIf l (strict_of l)
unfolding strict_of spelled
spelt_if [] = record { text = refl; fine = fine_default; printed = tt }
spelt_if (b ∷ bs) = spelt-head (b ∷ bs) (head_of (b ∷ bs)) (head-is (b ∷ bs))

-- what is read back has this text for its spelling
pub sound : (l : List ℕ) {v : Value} → strict_of l ≡ Some v → Spelt l v
sound l e = rw e at (spelt_if l)

-- so it is short
pub strict_short : (l : List ℕ) {v : Value} → strict_of l ≡ Some v → length l ≤ 1003
strict_short l e = omega (arith, ap length (sound l e).text, spelled_short (sound l e).fine)

-- ---- what is spelt so is read back

-- a value where its spelling puts it
abbrev pub placed : Item → Value
placed default = Default
placed (whole neg size) = Whole neg size
placed (real neg m eneg e double) = Real neg m eneg e double
placed (text bs) = Text (length (head (length bs))) (length bs)

pub placed_item : (v : Item) → item_of (spelled v) (placed v) ≡ v
unfolding spelled
placed_item default = refl
placed_item (whole neg size) = refl
placed_item (real neg m eneg e double) = refl
placed_item (text bs) = ap text (ap (λ (x : List ℕ). take (length bs) x) (drop-append_seam (head (length bs)) bs) ∙ take_all (length bs) bs (omega arith))

-- nothing stands there in a default alone
pub default_only : (v : Item) → is_default v ≡ true → v ≡ default
default_only default e = refl
default_only (whole neg size) e = absurd (false≢true e)
default_only (real neg m eneg x double) e = absurd (false≢true e)
default_only (text bs) e = absurd (false≢true e)

-- and it does not turn on the text
pub missing : (t : List ℕ) (v : Value) → is_default (item_of t v) ≡ is_missing v
missing t Default = refl
missing t (Whole neg size) = refl
missing t (Real neg m eneg e double) = refl
missing t (Text at count) = refl

pub missing_placed : (v : Item) → is_missing (placed v) ≡ is_default v
missing_placed v = sym (missing (spelled v) (placed v)) ∙ ap is_default (placed_item v)

strict_some : (l : List ℕ) → (length l ≡ 0 → ⊥) → strict_of l ≡ by_head l (head_of l)
unfolding strict_of
strict_some [] h = absurd (h refl)
strict_some (b ∷ bs) h = refl

-- a spelling with a head is no default
by-head : (l : List ℕ) {h : Head} → head_of l ≡ h → (length l ≡ 0 → ⊥) → strict_of l ≡ by_head l h
by-head l e s = strict_some l s ∙ ap (by_head l) e

number_back : {v : Item} {k : Number} → Numeral v k → Fine v → strict_of (spelled v) ≡ numeral (spelled v) k
number_back {v} {k} n f = by-head (spelled v) (rw append-nil at ((round n f).head [] refl)) (number_some n)

text_back : (bs : List ℕ) → 1 ≤ length bs → length bs ≤ 999 → printable bs ≡ true → strict_of (spelled (text bs)) ≡ Some (placed (text bs))
unfolding spelled
text_back bs l h p =
    let s = head (length bs) in
    let e : head_of (s ++ bs) ≡ Count (length bs) (length s) = rw append-nil at (round_text bs l h []) in
    let n : length s + length bs ≡ length (s ++ bs) = sym (length-append s bs) in
    let d : drop (length s) (s ++ bs) ≡ bs = drop-append_seam s bs in
    by-head (s ++ bs) e (λ z. omega arith) ∙ rw d (simp (eq-eqb (length s + length bs) (length (s ++ bs)) n, eq-eqb (length s) (length s) refl, p))

default_back : strict_of (spelled default) ≡ Some Default
unfolding strict_of spelled
default_back = refl

-- each value that a record can hold and a line can show is read back from its spelling
pub complete : {v : Item} → Fine v → Printed v → strict_of (spelled v) ≡ Some (placed v)
complete fine_default p = default_back
complete (fine_whole neg size h z) p = number_back is_whole (fine_whole neg size h z) ∙ rw (same_self (spelled (whole neg size)))
complete (fine_real {neg} {m} {eneg} {e} ok double) p = number_back is_real (fine_real ok double) ∙ rw (same_self (spelled (real neg m eneg e double)))
complete (fine_text bs l h) p = text_back bs l h p

same_value : {v w : Value} → Some v ≡ Some w → v ≡ w
same_value e = cc

-- no two of them have one spelling
pub one_spelling : {v u : Item} → Fine v → Printed v → Fine u → Printed u → spelled v ≡ spelled u → v ≡ u
one_spelling {v} {u} f p g q e =
    let w : placed v ≡ placed u = same_value (sym (complete f p) ∙ ap strict_of e ∙ complete g q) in
    sym (placed_item v) ∙ ap (λ (l : List ℕ). item_of l (placed v)) e ∙ ap (item_of (spelled u)) w ∙ placed_item u
