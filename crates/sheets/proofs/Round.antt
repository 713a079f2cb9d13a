-- An entry line has one spelling: a line that was spelt is read as what it spells, and a line that is read was spelt so.
use mathlib.Core.Path.{◌≡◌, refl, sym, ap, ◌∙◌}
use mathlib.Core.Bool.{Bool, true, false, cond, ◌&&◌}
use mathlib.Core.List.{List, [], ◌∷◌, ◌++◌, append_assoc, append-nil}
use Prim.Native.Nat.{ℕ, zero, suc, ◌+◌, ◌-◌, ◌≤◌, ◌<◌}
use native.Mathlib.Numerals.{add-one}
use native.Mathlib.Omega.{arith}
use native.Mathlib.Decide.{ℕ_discrete}
use lib.ListN.{length, get_or, take, drop, length-append, drop_of_length-le}
use lib.Seq.{take-append_seam, drop-append-add, drop-cons, drop_at}
use lib.Dec.{ltb, leb, eqb}
use borrow.Author.Tests.{lt-ltb, ne_eqb, eqb-true, ltb-true, leb-true}
use Rattle.std.proofs.Common.{Option, None}
use Rattle.columns.specs.Decimal.{dec, signed_dec, zero_filled}
use Rattle.columns.specs.Columns.{printable}
use Rattle.values.specs.Number.{value}
use Rattle.columns.proofs.Decimals.{print_dec, print_signed, print_right}
use Rattle.columns.specs.declared.Signed.{Signed}
use Rattle.directory.specs.declared.Fields.{Fields}
use Rattle.sheets.specs.declared.EntryLine.{EntryLine}
use Rattle.directory.specs.Fields.{nought, in_order, fields_of}
use Rattle.sheets.specs.Plain.{sized, is_signed, signed_number, status_number}
use Rattle.sheets.specs.Line.{is_entry_number, entry_number, spell, spells, run, is_label, entry_from, numbers_of, entry_of, label_of, entry_line, entry_got}
use Rattle.sheets.specs.WellFormed.{Proper}
use Rattle.columns.proofs.Tests.{both, both_left, both_right}
use Rattle.sheets.proofs.Plains.{run-here, run_on}
use Rattle.sheets.proofs.Digits.{signed_round, signed_back, behind-one, status_round, status_back}

-- ---- one number, with so many behind it
pub data Fits : ℕ → Signed → Type 0 where
  eight : (n : ℕ) → n < 100000000 → Fits 3 (sized false n)
  plain : {left : ℕ} {x : Signed} → (left ≡ 3 → ⊥) → Proper x → Fits left x

module _ (left : ℕ) (h : left ≡ 3 → ⊥) where
  other : (f : List ℕ) → (is_entry_number left f ≡ is_signed f) × (entry_number left f ≡ signed_number f)
  unfolding is_entry_number entry_number
  other f = rw (ne_eqb _ _ h) (refl, refl)

  spell-other : (x : Signed) → spell left x ≡ signed_dec x
  unfolding spell
  spell-other x = simp (ne_eqb _ _ h)

num_round : {left : ℕ} {x : Signed} → Fits left x → (is_entry_number left (spell left x) ≡ true) × (entry_number left (spell left x) ≡ x)
unfolding is_entry_number entry_number status_number spell
num_round (eight n h) =
    let r = status_round n h in
    (r.0, ap (sized false) r.1)
num_round (plain {left} {x} h p) = rw (spell-other left h x, (other left h (signed_dec x)).0, (other left h (signed_dec x)).1) (signed_round x.neg x.size p.small p.minus)

status_number_lem : (f : List ℕ) → is_entry_number 3 f ≡ true → (spell 3 (entry_number 3 f) ≡ f) × Fits 3 (entry_number 3 f)
unfolding is_entry_number entry_number status_number spell
status_number_lem f h = (status_back f h, eight (value 0 f) (behind-one f h).1)

num_back : (left : ℕ) (f : List ℕ) → is_entry_number left f ≡ true → (spell left (entry_number left f) ≡ f) × Fits left (entry_number left f)
num_back left f h = elim (ℕ_discrete left 3) [ yes e ↦ rw e (status_number_lem f (rw e at h)) | no e ↦ number e ]
  where
    number : (left ≡ 3 → ⊥) → (spell left (entry_number left f) ≡ f) × Fits left (entry_number left f)
    number e =
        let o = other left e f in
        let b = signed_back f (sym o.0 ∙ h) in
        rw o.1 (spell-other left e (signed_number f) ∙ b.0, plain e b.1)

-- ---- no tab in a number; no LF either
pub data No (c : ℕ) : List ℕ → Type 0 where
  none : No c []
  one : {b : ℕ} {bs : List ℕ} → (b ≡ c → ⊥) → No c bs → No c (b ∷ bs)

module _ (c : ℕ) (low : c < 32) where
  pub no_append : {xs ys : List ℕ} → No c xs → No c ys → No c (xs ++ ys)
  no_append none e = e
  no_append (one h d) e = one h (no_append d e)

  pub no_plain : (t : List ℕ) → printable t ≡ true → No c t
  unfolding printable
  no_plain [] e = none
  no_plain (b ∷ bs) e =
      let p = both (leb 32 b) (leb b 126 && printable bs) e in
      let l : 32 ≤ b = leb-true 32 b p.0 in
      let h : b ≡ c → ⊥ = omega arith in
      one h (no_plain bs (both_right (leb b 126) (printable bs) p.1))

  pub no_dec : (v : ℕ) → No c (dec v)
  no_dec v = no_plain (dec v) (print_dec v)

  pub no_spell : {left : ℕ} {x : Signed} → Fits left x → No c (spell left x)
  unfolding spell
  no_spell (eight n h) = no_plain (zero_filled 8 n) (print_right 48 8 (dec n) (omega arith) (omega arith) (print_dec n))
  no_spell (plain {left} {x} h p) = rw (spell-other left h x) (no_plain (signed_dec x) (print_signed x))

pub run-field : {f : List ℕ} → No 9 f → (rest : List ℕ) → run 9 (f ++ (9 ∷ rest)) ≡ length f
run-field none rest = run-here 9 9 rest refl
run-field (one {b} {bs} h d) rest = run_on 9 b (bs ++ (9 ∷ rest)) h ∙ ap suc (run-field d rest)

-- a text with a c: what is before it, and what is behind it
pub run-cut : (c : ℕ) (t : List ℕ) → run c t < length t → take (run c t) t ++ (c ∷ drop (suc (run c t)) t) ≡ t
unfolding run
run-cut c [] h = absurd (omega arith)
run-cut c (b ∷ bs) h = pick (ℕ_discrete b c) (run-cut c bs)
  where
    pick : Dec (b ≡ c) → (run c bs < length bs → take (run c bs) bs ++ (c ∷ drop (suc (run c bs)) bs) ≡ bs) → take (run c (b ∷ bs)) (b ∷ bs) ++ (c ∷ drop (suc (run c (b ∷ bs))) (b ∷ bs)) ≡ b ∷ bs
    pick (yes e) ih = rw (run-here c b bs e, e)
    pick (no e) ih = rw (run_on c b bs e) (ap (λ (l : List ℕ). b ∷ l) (ih (omega (arith, run_on c b bs e))))

-- ---- the numbers of a line
pub data AllFit : ℕ → List Signed → Type 0 where
  nil : AllFit 0 []
  cons : {left : ℕ} {x : Signed} {xs : List Signed} → Fits left x → AllFit left xs → AllFit (suc left) (x ∷ xs)

numbers_zero : (known : Bool) (x : List Signed) (t : List ℕ) → is_label t ≡ true → numbers_of known 0 x t ≡ entry_from known x
unfolding numbers_of
numbers_zero known x t h = rw (numbers_of, h)

numbers_suc : (known : Bool) (left : ℕ) (acc : List Signed) (f rest : List ℕ) (x : Signed) → run 9 (f ++ (9 ∷ rest)) ≡ length f → (is_entry_number left f ≡ true) × (entry_number left f ≡ x)
    → numbers_of known (suc left) acc (f ++ (9 ∷ rest)) ≡ numbers_of known left (acc ++ (x ∷ [])) rest
unfolding numbers_of
numbers_suc known left acc f rest x r e =
    let d : drop (suc (length f)) (f ++ (9 ∷ rest)) ≡ rest = rw (← add-one (length f)) (drop-append-add f (9 ∷ rest) 1) in
    simp (numbers_of, r, take-append_seam f (9 ∷ rest), e.0, e.1, lt-ltb (length f) (length (f ++ (9 ∷ rest))) (simp length-append (omega arith)), d)

numbers_round : (known : Bool) (label : List ℕ) → is_label label ≡ true → {left : ℕ} {xs : List Signed} → AllFit left xs → (acc : List Signed)
    → numbers_of known left acc (spells left xs ++ label) ≡ entry_from known (acc ++ xs)
unfolding spells
numbers_round known label l nil acc = rw append-nil (numbers_zero known acc label l)
numbers_round known label l (cons {left} {x} {xs} f a) acc =
    rw append_assoc (numbers_suc known left acc (spell left x) (spells left xs ++ label) x (run-field (no_spell 9 (omega arith) f) _) (num_round f)
    ∙ numbers_round known label l a (acc ++ (x ∷ [])) ∙ rw append_assoc)

-- what is known of a text that was read
pub record Back (known : Bool) (left : ℕ) (acc : List Signed) (t : List ℕ) (r : Option EntryLine) : Type 0 where
  pub xs : List Signed
  pub label : List ℕ
  pub fit : AllFit left xs
  pub good : is_label label ≡ true
  pub text : spells left xs ++ label ≡ t
  pub entry : r ≡ entry_from known (acc ++ xs)

numbers_back : (known : Bool) (left : ℕ) (acc : List Signed) (t : List ℕ) (r : Option EntryLine) → (r ≡ None → ⊥) → numbers_of known left acc t ≡ r → Back known left acc t r
unfolding numbers_of spells
numbers_back known zero acc t r n e = pick (is_label t) refl e
  where
    pick : (b : Bool) → is_label t ≡ b → elim b [ true ↦ entry_from known acc | false ↦ None ] ≡ r → Back known 0 acc t r
    pick true l e = record { xs = []; label = t; fit = nil; good = l; text = refl; entry = rw append-nil (sym e) }
    pick false l e = absurd (n (sym e))
numbers_back known (suc left) acc t r n e = pick (ltb (run 9 t) (length t)) refl (is_entry_number left (take (run 9 t) t)) refl e (numbers_back known left (acc ++ (entry_number left (take (run 9 t) t) ∷ [])) (drop (suc (run 9 t)) t) r n)
  where
    x : Signed
    x = entry_number left (take (run 9 t) t)

    pick : (b : Bool) → ltb (run 9 t) (length t) ≡ b → (c : Bool) → is_entry_number left (take (run 9 t) t) ≡ c
        → elim (b && c) [ true ↦ numbers_of known left (acc ++ (x ∷ [])) (drop (suc (run 9 t)) t) | false ↦ None ] ≡ r
        → (numbers_of known left (acc ++ (x ∷ [])) (drop (suc (run 9 t)) t) ≡ r → Back known left (acc ++ (x ∷ [])) (drop (suc (run 9 t)) t) r)
        → Back known (suc left) acc t r
    pick true eb true ec e ih =
        let b = ih e in
        let w = num_back left (take (run 9 t) t) ec in
        record {
          xs = x ∷ b.xs;
          label = b.label;
          fit = cons w.1 b.fit;
          good = b.good;
          text = rw (append_assoc, w.0, b.text) (run-cut 9 t (ltb-true (run 9 t) (length t) eb));
          entry = rw append_assoc at b.entry;
        }
    pick true eb false ec e ih = absurd (n (sym e))
    pick false eb c ec e ih = absurd (n (sym e))

-- ---- the line
listed : ℕ → ℕ → List Signed → List Signed
listed zero j xs = []
listed (suc n) j xs = get_or xs j nought ∷ listed n (j + 1) xs

listed_all : (n j : ℕ) (xs : List Signed) → length xs ≡ j + n → drop j xs ≡ listed n j xs
unfolding listed
listed_all zero j xs h = drop_of_length-le xs {i = j} (omega arith)
listed_all (suc n) j xs h = drop-cons xs j nought (omega arith) ∙ ap (λ (l : List Signed). get_or xs j nought ∷ l) (rw (← add-one j) (listed_all n (j + 1) xs (omega arith)))

fit_length : {left : ℕ} {xs : List Signed} → AllFit left xs → length xs ≡ left
fit_length nil = refl
fit_length (cons f a) = ap suc (fit_length a)

-- thirteen numbers are the first of them and those of the fields that are made of the others
thirteen : (xs : List Signed) → AllFit 13 xs → get_or xs 0 nought ∷ in_order (fields_of (drop 1 xs)) ≡ xs
unfolding listed
thirteen [] a = absurd (omega (arith, fit_length a))
thirteen (x ∷ xs) a = ap (λ (l : List Signed). x ∷ l) (sym (listed_all 12 0 xs (omega (arith, fit_length a))))

pub entry_round : (known : Bool) (n : ℕ) (e : Fields) (label : List ℕ) → AllFit 13 (sized false n ∷ in_order e) → is_label label ≡ true
    → entry_of (entry_line known n e label) ≡ entry_got known (sized false n) e
unfolding entry_of entry_line
entry_round true n e label a l = numbers_round true label l a []
entry_round false n e label a l = numbers_round false label l a []

-- a label has eight bytes
pub label_eight : (l : List ℕ) → is_label l ≡ true → length l ≡ 8
unfolding is_label
label_eight l e = eqb-true (length l) 8 (both_left (eqb (length l) 8) (printable l) e)

label_of_lem : (p label : List ℕ) → is_label label ≡ true → label_of (p ++ label) ≡ label
unfolding label_of
label_of_lem p label l =
    let h : length label ≡ 8 = label_eight label l in
    let e : length (p ++ label) - 8 ≡ length p = rw (length-append p label) (omega arith) in
    rw e (drop_at p label (length p) refl)

pub label_round : (known : Bool) (n : ℕ) (e : Fields) (label : List ℕ) → is_label label ≡ true → label_of (entry_line known n e label) ≡ label
unfolding entry_line
label_round known n e label l = label_of_lem (cond known 69 85 ∷ (9 ∷ spells 13 (sized false n ∷ in_order e))) label l

-- what an entry line that is read says, and that it is spelt so unless its directory number is negative
pub record Spelt (t : List ℕ) (known : Bool) (n : Signed) (e : Fields) : Type 0 where
  pub text : n.neg ≡ false → entry_line known n.size e (label_of t) ≡ t
  pub fit : AllFit 13 (n ∷ in_order e)
  pub label : is_label (label_of t) ≡ true

-- two lines that say the same
pub same_line : {a b : Bool} {n m : Signed} {x y : Fields} → entry_got a n x ≡ entry_got b m y → (a ≡ b) × (n ≡ m) × (x ≡ y)
same_line {a} {b} {n} {m} {x} {y} g =
    let one : EntryLine = record { known = a; number = n; fields = x } in
    let two : EntryLine = record { known = b; number = m; fields = y } in
    let e : one ≡ two = cc in
    (ap (λ (r : EntryLine). r.known) e, ap (λ (r : EntryLine). r.number) e, ap (λ (r : EntryLine). r.fields) e)

numbers_spelt : (known : Bool) (t : List ℕ) (k : Bool) (n : Signed) (e : Fields) → numbers_of known 13 [] t ≡ entry_got k n e
    → (known ≡ k) × AllFit 13 (n ∷ in_order e) × ((label : List ℕ) × (is_label label ≡ true) × (spells 13 (n ∷ in_order e) ++ label ≡ t))
numbers_spelt known t k n e h = whole (numbers_back known 13 [] t (entry_got k n e) (λ w. let z : ◌≡◌ {A = ℕ} 0 1 = cc in omega arith) h)
  where
    named : (xs : List Signed) → AllFit 13 xs → entry_got k n e ≡ entry_got known (get_or xs 0 nought) (fields_of (drop 1 xs)) → (known ≡ k) × (n ∷ in_order e ≡ xs)
    named xs a g =
        let s = same_line g in
        (sym s.0, rw (s.1, s.2) (thirteen xs a))

    whole : Back known 13 [] t (entry_got k n e) → (known ≡ k) × AllFit 13 (n ∷ in_order e) × ((label : List ℕ) × (is_label label ≡ true) × (spells 13 (n ∷ in_order e) ++ label ≡ t))
    whole b =
        let o = named b.xs b.fit b.entry in
        (o.0, rw o.1 b.fit, (b.label, b.good, rw o.1 b.text))

pub entry_back : (t : List ℕ) (known : Bool) (n : Signed) (e : Fields) → entry_of t ≡ entry_got known n e → Spelt t known n e
unfolding entry_of entry_line
entry_back t known n e h = pick (eqb (get_or t 1 0) 9) refl (eqb (get_or t 0 0) 69) refl (eqb (get_or t 0 0) 85) refl h
  where
    two : (l : List ℕ) (a b : ℕ) → get_or l 0 0 ≡ a → get_or l 1 0 ≡ suc b → a ∷ (suc b ∷ drop 2 l) ≡ l
    two [] a b p q = absurd (omega arith)
    two (x ∷ []) a b p q = absurd (omega arith)
    two (x ∷ (y ∷ l)) a b p q = rw (p, q)

    whole : (m : ℕ) → get_or t 0 0 ≡ m → get_or t 1 0 ≡ 9 → cond known 69 85 ≡ m → AllFit 13 (n ∷ in_order e) → (label : List ℕ) → is_label label ≡ true → spells 13 (n ∷ in_order e) ++ label ≡ drop 2 t → Spelt t known n e
    whole m p q c a label l s =
        let w : m ∷ (9 ∷ (spells 13 (n ∷ in_order e) ++ label)) ≡ t = rw s (two t m 8 p q) in
        let o : label_of t ≡ label = rw (← w) (label_of_lem (m ∷ (9 ∷ spells 13 (n ∷ in_order e))) label l) in
        record {
          text = λ h. rw (o, c) (ap (λ (x : Signed). m ∷ (9 ∷ (spells 13 (x ∷ in_order e) ++ label))) (ap (λ (b : Bool). sized b n.size) (sym h)) ∙ w);
          fit = a;
          label = rw o l;
        }

    spelt : (m : ℕ) (k : Bool) → get_or t 0 0 ≡ m → get_or t 1 0 ≡ 9 → cond k 69 85 ≡ m → numbers_of k 13 [] (drop 2 t) ≡ entry_got known n e → Spelt t known n e
    spelt m k p q c h =
        let b = numbers_spelt k (drop 2 t) known n e h in
        whole m p q (rw b.0 at c) b.1 b.2.0 b.2.1 b.2.2

    pick : (a : Bool) → eqb (get_or t 1 0) 9 ≡ a → (b : Bool) → eqb (get_or t 0 0) 69 ≡ b → (c : Bool) → eqb (get_or t 0 0) 85 ≡ c
        → cond a (cond b (numbers_of true 13 [] (drop 2 t)) (cond c (numbers_of false 13 [] (drop 2 t)) None)) None ≡ entry_got known n e → Spelt t known n e
    pick true ea true eb c ec h = spelt 69 true (eqb-true _ _ eb) (eqb-true _ _ ea) refl h
    pick true ea false eb true ec h = spelt 85 false (eqb-true _ _ ec) (eqb-true _ _ ea) refl h
    pick true ea false eb false ec h = absurd (let z : ◌≡◌ {A = ℕ} 0 1 = cc in omega arith)
    pick false ea b eb c ec h = absurd (let z : ◌≡◌ {A = ℕ} 0 1 = cc in omega arith)
