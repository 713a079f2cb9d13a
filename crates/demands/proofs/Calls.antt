-- A call taken apart, from its contract: bytes that stand in the buffer, or no room for them, or a refusal. Assumes nothing.
use mathlib.Core.Path.{◌≡◌, refl, sym, ap, ◌∙◌}
use mathlib.Core.Bool.{Bool, true, false}
use mathlib.Core.List.{List, [], ◌∷◌, ◌++◌}
use mathlib.Core.Logic.{◌⊎◌, inl, inr}
use Prim.Native.Nat.{ℕ, ◌+◌, ◌≤◌, ◌<◌}
use native.Mathlib.Nat.{zero-add}
use native.Mathlib.Omega.{arith}
use lib.ListN.{length, take, drop}
use lib.Dec.{leb}
use borrow.Author.Tests.{leb-true, leb-false}
use Rattle.columns.specs.declared.Fault.{Fault}
use Rattle.columns.specs.declared.Fault.TheVariants.{Room}
use Rattle.columns.specs.Refusal.{Outcome, accepted, refused, number}
use Rattle.columns.specs.Laid.{laid, laid_eq}
use Rattle.columns.proofs.Refusals.{numbered}
use Rattle.model.specs.Read.{reads}
use Rattle.model.specs.Write.{writes}
use Rattle.desk.specs.declared.Answer.{Answer}
use Rattle.desk.specs.Answers.{answer, answer_of, left_in}
use Rattle.desk.specs.Content.{sheet_by}
use Rattle.desk.proofs.Content.{reads-sheet}
use Rattle.demands.specs.Functions.{KeptRest}
use Rattle.demands.specs.Calls.{ReadCall, WriteCall, read, szelmikra_read, write, szelmikra_write, given, RoomSeen}

-- ---- what a contract says

-- an answer and a buffer by an outcome
pub record Says (x : Outcome (List ℕ)) (o : List ℕ) (a : Answer) (s : List ℕ) : Type 0 where
  pub answers : a ≡ answer_of (length o) x
  pub leaves : s ≡ left_in o x

read_says : {list : ℕ} {file o s : List ℕ} {a : Answer} → ReadCall list file o a s → Says (reads list file) o a s
read_says (read κs a z left p) = record { answers = p.0; leaves = p.1 }
read_says (szelmikra_read κs a z left p) = record { answers = p.0; leaves = p.1 }

write_says : {list : ℕ} {sheet o s : List ℕ} {a : Answer} → WriteCall list sheet o a s → Says (writes list sheet) o a s
write_says (write κs a z left p) = record { answers = p.0; leaves = p.1 }
write_says (szelmikra_write κs a z left p) = record { answers = p.0; leaves = p.1 }

-- the ways that there are: bytes, bytes that there is no room for, a refusal
pub data Ends (x : Outcome (List ℕ)) (o : List ℕ) (a : Answer) (s : List ℕ) : Type 0 where
  whole : (bs : List ℕ) → x ≡ accepted bs → length bs ≤ length o → a ≡ answer 0 0 (length bs) → s ≡ laid o 0 bs → Ends x o a s
  short : (bs : List ℕ) → x ≡ accepted bs → length o < length bs → a ≡ answer 16 0 (length bs) → s ≡ o → Ends x o a s
  stopped : (n : Fault) (place : ℕ) → x ≡ refused n place → a ≡ answer (number n) place 0 → s ≡ o → Ends x o a s

-- these are all
ends : (x : Outcome (List ℕ)) (o : List ℕ) (a : Answer) (s : List ℕ) → a ≡ answer_of (length o) x → s ≡ left_in o x → Ends x o a s
unfolding answer_of left_in
ends (refused n place) o a s p q = stopped n place refl p q
ends (accepted bs) o a s p q = pick (leb (length bs) (length o)) refl
  where
    pick : (b : Bool) → leb (length bs) (length o) ≡ b → Ends (accepted bs) o a s
    pick true e = whole bs refl (leb-true (length bs) (length o) e) (rw e at p) (rw e at q)
    pick false e = short bs refl (leb-false (length bs) (length o) e) (rw e at p) (rw e at q)

pub read_ends : {list : ℕ} {file o s : List ℕ} {a : Answer} → ReadCall list file o a s → Ends (reads list file) o a s
read_ends {list} {file} {o} {s} {a} c = ends (reads list file) o a s (read_says c).answers (read_says c).leaves

pub write_ends : {list : ℕ} {sheet o s : List ℕ} {a : Answer} → WriteCall list sheet o a s → Ends (writes list sheet) o a s
write_ends {list} {sheet} {o} {s} {a} c = ends (writes list sheet) o a s (write_says c).answers (write_says c).leaves

-- ---- answer 0

-- what was answered with 0: these bytes, and they stand in the buffer
pub record Got (x : Outcome (List ℕ)) (o : List ℕ) (a : Answer) (s : List ℕ) : Type 0 where
  pub bytes : List ℕ
  pub outcome : x ≡ accepted bytes
  pub answers : a ≡ answer 0 0 (length bytes)
  pub stands : given a s ≡ bytes

take-front : (s t : List ℕ) → take (length s) (s ++ t) ≡ s
take-front [] t = refl
take-front (b ∷ s) t = ap (λ (l : List ℕ). b ∷ l) (take-front s t)

-- what is laid from the start on stands there
front-laid : (o bs : List ℕ) → length bs ≤ length o → take (length bs) (laid o 0 bs) ≡ bs
front-laid o bs h =
    let k : 0 + length bs ≤ length o = omega arith in
    ap (take (length bs)) (laid_eq o 0 bs k) ∙ take-front bs (drop (0 + length bs) o)

stand : (o bs : List ℕ) (a : Answer) (s : List ℕ) → length bs ≤ length o → a ≡ answer 0 0 (length bs) → s ≡ laid o 0 bs → given a s ≡ bs
stand o bs a s h p q = rw (p, q) (front-laid o bs h)

pub got : (x : Outcome (List ℕ)) (o : List ℕ) (a : Answer) (s : List ℕ) → Ends x o a s → a.number ≡ 0 → Got x o a s
got x o a s (whole bs e h p q) z = record { bytes = bs; outcome = e; answers = p; stands = stand o bs a s h p q }
got x o a s (short bs e h p q) z = absurd (numbered Room (sym (ap (λ (r : Answer). r.number) p) ∙ z))
got x o a s (stopped n place e p q) z = absurd (numbered n (sym (ap (λ (r : Answer). r.number) p) ∙ z))

-- of bytes that there is room for that is the answer
pub gives : (x : Outcome (List ℕ)) (o : List ℕ) (a : Answer) (s bs : List ℕ) → Ends x o a s → x ≡ accepted bs → length bs ≤ length o → (a ≡ answer 0 0 (length bs)) × (given a s ≡ bs)
gives x o a s bs (whole cs e h p q) k l = let z : cs ≡ bs = cc in (rw z at p, stand o cs a s h p q ∙ z)
gives x o a s bs (short cs e h p q) k l = let z : cs ≡ bs = cc in absurd (omega (arith, ap length z))
gives x o a s bs (stopped n place e p q) k l = let z : ◌≡◌ {A = ℕ} 0 1 = cc in absurd (omega arith)

-- of a refusal its number and place are
pub refuses : {x : Outcome (List ℕ)} {o : List ℕ} {a : Answer} {s : List ℕ} (n : Fault) (p : ℕ) → Ends x o a s → x ≡ refused n p → a ≡ answer (number n) p 0
refuses n p (whole bs e h q l) k = let z : ◌≡◌ {A = ℕ} 0 1 = cc in absurd (omega arith)
refuses n p (short bs e h q l) k = let z : ◌≡◌ {A = ℕ} 0 1 = cc in absurd (omega arith)
refuses n p (stopped m r e q l) k =
    let y : m ≡ n = cc in
    let z : r ≡ p = cc in
    rw (y, z) at q

-- ---- room

pub room-seen : RoomSeen
room-seen list file o s a c not_16 r = by (read_ends c) (reads-sheet list file r)
  where
    by : Ends (reads list file) o a s → reads list file ≡ accepted (sheet_by r) → length (sheet_by r) ≤ length o
    by (whole bs e h p q) k = let z : bs ≡ sheet_by r = cc in rw (ap length z) at h
    by (short bs e h p q) k = absurd (not_16 (ap (λ (x : Answer). x.number) p))
    by (stopped n place e p q) k = let z : ◌≡◌ {A = ℕ} 0 1 = cc in absurd (omega arith)

-- ---- what is left alone

drop-front : (s t : List ℕ) → drop (length s) (s ++ t) ≡ t
drop-front [] t = refl
drop-front (b ∷ s) t = drop-front s t

rest_laid : (o bs : List ℕ) → length bs ≤ length o → drop (length bs) (laid o 0 bs) ≡ drop (length bs) o
rest_laid o bs h =
    let k : 0 + length bs ≤ length o = omega arith in
    ap (drop (length bs)) (laid_eq o 0 bs k) ∙ drop-front bs (drop (0 + length bs) o) ∙ ap (λ (n : ℕ). drop n o) (zero-add (length bs))

pub keeps : (x : Outcome (List ℕ)) (o : List ℕ) (a : Answer) (s : List ℕ) → Ends x o a s → ((n : Fault) (p : ℕ) → x ≡ refused n p → number n ≡ 16 → ⊥) → KeptRest o a s
keeps x o a s (whole bs e h p q) never =
    rw (p, q) (record { accepted = λ z. (h, rest_laid o bs h); refused = λ no. absurd (no refl); no_room = λ z. absurd (omega arith); no_length = λ no. absurd (no refl) })
keeps x o a s (short bs e h p q) never =
    rw (p, q) (record { accepted = λ z. absurd (omega arith); refused = λ no. refl; no_room = λ z. h; no_length = λ no k. absurd (k refl) })
keeps x o a s (stopped n place e p q) never =
    rw (p, q) (record { accepted = λ z. absurd (numbered n z); refused = λ no. refl; no_room = λ z. absurd (never n place e z); no_length = λ no k. refl })

-- ---- asked again

-- a refusal that is no 16 does not hang on room; 16 tells the room that is enough
pub asked : (x : Outcome (List ℕ)) (o s o' s' : List ℕ) (a a' : Answer) → Ends x o a s → (a.number ≡ 0 → ⊥) → Ends x o' a' s'
    → ((a.number ≡ 16) × (a.length ≤ length o' → a' ≡ answer 0 0 a.length)) ⊎ (a' ≡ a)
asked x o s o' s' a a' (whole bs e h p q) not-0 w = absurd (not-0 (ap (λ (r : Answer). r.number) p))
asked x o s o' s' a a' (short bs e h p q) not-0 w =
    let n : a.length ≡ length bs = ap (λ (r : Answer). r.length) p in
    inl (ap (λ (r : Answer). r.number) p, λ k. (gives x o' a' s' bs w e (omega (arith, n))).0 ∙ ap (answer 0 0) (sym n))
asked x o s o' s' a a' (stopped n place e p q) not-0 w = inr (refuses n place w e ∙ sym p)
