-- Demand 2 over the functions, from their contracts and from demand 2 over the definitions. Assumes nothing.
use mathlib.Core.Path.{◌≡◌, refl, sym, ap, ◌∙◌}
use mathlib.Core.List.{List, [], ◌∷◌}
use mathlib.Core.Logic.{◌⊎◌, inl, inr}
use Prim.Native.Nat.{ℕ, ◌≤◌, ◌<◌}
use native.Mathlib.Omega.{arith}
use native.Mathlib.Decide.{dec_le}
use lib.ListN.{length}
use Rattle.columns.specs.declared.Fault.TheVariants.{TooLong}
use Rattle.columns.specs.Refusal.{Outcome, accepted, refused}
use Rattle.columns.specs.Format.{most_lines, most_bytes}
use Rattle.columns.proofs.Refusals.{numbered}
use Rattle.model.specs.Canonical.{line_total, canonical}
use Rattle.model.specs.Read.{reads}
use Rattle.model.specs.Write.{writes}
use Rattle.desk.specs.declared.Answer.{Answer}
use Rattle.desk.specs.Answers.{answer}
use Rattle.desk.specs.Demands.{described}
use Rattle.desk.specs.Content.{sheet_by}
use Rattle.desk.proofs.Exactly.{exactly_the_rules}
use Rattle.desk.proofs.Content.{reads-sheet}
use Rattle.desk.proofs.NeverRoom.{reads_never, writes_never}
use Rattle.demands.specs.Calls.{ReadCall, WriteCall, given}
use Rattle.demands.specs.Functions.{ReadsExactly, SheetTold, WritesExactly, ReadWriteRead, SheetWritten, WrittenRead, WriteReadWrite, KeepsRest, AskedFirst, NoneForNothing}
use Rattle.demands.proofs.Demand.{kept}
use Rattle.demands.proofs.Impostors.{no_impostor}
use Rattle.demands.proofs.Written.{written_long}
use Rattle.demands.proofs.ThereAndBack.{read-to, tells-model, read-writes, written-reads, sheets_exactly}
use Rattle.demands.proofs.Calls.{Ends, whole, short, stopped, Got, got, gives, refuses, keeps, asked, read_ends, write_ends}

-- ---- what is written of a file's sheet

-- a file that is read has at most 200,000 lines
file_short : (list : ℕ) (f s : List ℕ) → reads list f ≡ accepted s → length f ≤ most_bytes
file_short list f s h =
    let m = (exactly_the_rules list f).0 (s, h) in
    let k = m.lines.holds in
    omega (arith, k.size, k.most)

-- what is written is a file that is read
pub written-bytes : (list : ℕ) (s g : List ℕ) → writes list s ≡ accepted g → length g ≤ most_bytes
written-bytes list s g h = file_short list g s (written-reads list s g h)

-- it is written, or too long
sheet-written : (list : ℕ) (f s : List ℕ) → reads list f ≡ accepted s → ((g : List ℕ) × (writes list s ≡ accepted g)) ⊎ (writes list s ≡ refused TooLong 0)
sheet-written list f s h = pick (dec_le (line_total (described s)) most_lines)
  where
    pick : Dec (line_total (described s) ≤ most_lines) → ((g : List ℕ) × (writes list s ≡ accepted g)) ⊎ (writes list s ≡ refused TooLong 0)
    pick (yes l) = inl (canonical (described s), read-writes list f s h l)
    pick (no l) =
        let r = read-to list f s h in
        let k : most_lines < line_total r.model = omega (arith, ap line_total (tells-model list f s r)) in
        inr (ap (writes list) (sym r.text) ∙ written_long list r.model r.fits k)

-- so the writer answers 0, 16 or 19
abbrev Written : List ℕ → Answer → Type 0
Written o a = (a.number ≡ 0) ⊎ (((a.number ≡ 16) × (length o < a.length) × (a.length ≤ most_bytes)) ⊎ (a ≡ answer 19 0 0))

answers_accepted : (list : ℕ) (t o s g : List ℕ) (a : Answer) → Ends (writes list t) o a s → writes list t ≡ accepted g → Written o a
answers_accepted list t o s g a (whole bs e h p q) k = inl (ap (λ (r : Answer). r.number) p)
answers_accepted list t o s g a (short bs e h p q) k = inr (inl (ap (λ (r : Answer). r.number) p, rw p h, rw p (written-bytes list t bs e)))
answers_accepted list t o s g a (stopped n place e p q) k = let z : ◌≡◌ {A = ℕ} 0 1 = cc in absurd (omega arith)

written-answer : (list : ℕ) (f t o s : List ℕ) (a : Answer) → reads list f ≡ accepted t → Ends (writes list t) o a s → Written o a
written-answer list f t o s a h w = pick (sheet-written list f t h)
  where
    pick : ((g : List ℕ) × (writes list t ≡ accepted g)) ⊎ (writes list t ≡ refused TooLong 0) → Written o a
    pick (inl (g, e)) = answers_accepted list t o s g a w e
    pick (inr e) = inr (inr (refuses TooLong 0 w e))

-- ---- what is accepted

pub sheet-told : SheetTold
sheet-told list file o s a c r h = gives (reads list file) o a s (sheet_by r) (read_ends c) (reads-sheet list file r) h

pub reads_exactly : ReadsExactly
reads_exactly list file o s a c room = (
  λ z. let g = got (reads list file) o a s (read_ends c) z in (exactly_the_rules list file).0 (g.bytes, g.outcome),
  λ r. ap (λ (x : Answer). x.number) (sheet-told list file o s a c r (room r)).0,
)

pub writes_exactly : WritesExactly
writes_exactly list sheet o s o' s' a a' w room r room' = (
  (
    λ z.
        let g = got (writes list sheet) o a s (write_ends w) z in
        let k = (sheets_exactly list sheet g.bytes).0 g.outcome in
        let b = gives (reads list (canonical (described sheet))) o' a' s' sheet (read_ends r) (ap (reads list) (sym k.0) ∙ k.1.1) room' in
        (k.1.0, ap (λ (x : Answer). x.number) b.0, b.1),
    λ h.
        let g = got (reads list (canonical (described sheet))) o' a' s' (read_ends r) h.1 in
        let e : writes list sheet ≡ accepted (canonical (described sheet)) =
        (sheets_exactly list sheet (canonical (described sheet))).1 (refl, (h.0, g.outcome ∙ ap accepted (sym g.stands ∙ h.2))) in
        let k = written-bytes list sheet (canonical (described sheet)) e in
        ap (λ (x : Answer). x.number) (gives (writes list sheet) o a s (canonical (described sheet)) (write_ends w) e (omega arith)).0,
  ),
  λ z.
      let g = got (writes list sheet) o a s (write_ends w) z in
      g.stands ∙ ((sheets_exactly list sheet g.bytes).0 g.outcome).0,
)

-- ---- there and back

pub written_read : WrittenRead
written_read list sheet o s o' s' a a' w z r h =
    let g = got (writes list sheet) o a s (write_ends w) z in
    let e : reads list (given a s) ≡ accepted sheet = ap (reads list) g.stands ∙ written-reads list sheet g.bytes g.outcome in
    gives (reads list (given a s)) o' a' s' sheet (read_ends r) e h

pub sheet_written_answer : SheetWritten
sheet_written_answer list file o s o' s' a a' r z w =
    let g = got (reads list file) o a s (read_ends r) z in
    written-answer list file (given a s) o' s' a' (g.outcome ∙ ap accepted (sym g.stands)) (write_ends w)

pub read_write_read : ReadWriteRead
read_write_read list file o s o' s' o'' s'' a a' a'' r z w room r'' room'' = pick (sheet_written_answer list file o s o' s' a a' r z w)
  where
    g : Got (reads list file) o a s
    g = got (reads list file) o a s (read_ends r) z

    pick : (a'.number ≡ 0) ⊎ (((a'.number ≡ 16) × (length o' < a'.length) × (a'.length ≤ most_bytes)) ⊎ (a' ≡ answer 19 0 0))
        → ((a'.number ≡ 0) × (a'' ≡ a) × (given a'' s'' ≡ given a s)) ⊎ (a' ≡ answer 19 0 0)
    pick (inl e) =
        let n : a.length ≡ length (given a s) = ap (λ (x : Answer). x.length) g.answers ∙ ap length (sym g.stands) in
        let b = written_read list (given a s) o' s' o'' s'' a' a'' w e r'' (omega (arith, n)) in
        inl (e, b.0 ∙ ap (λ (k : List ℕ). answer 0 0 (length k)) g.stands ∙ sym g.answers, b.1)
    pick (inr (inl (e, k, l))) = absurd (omega arith)
    pick (inr (inr e)) = inr e

pub write_read_write : WriteReadWrite
write_read_write list sheet o s o' s' o'' s'' a a' a'' w z r room w'' room'' =
    let g = got (writes list sheet) o a s (write_ends w) z in
    let e : given a' s' ≡ sheet = (written_read list sheet o s o' s' a a' w z r room).1 in
    let n : a.length ≡ length g.bytes = ap (λ (x : Answer). x.length) g.answers in
    let b = gives (writes list (given a' s')) o'' a'' s'' g.bytes (write_ends w'') (ap (writes list) e ∙ g.outcome) (omega (arith, n)) in
    (b.0 ∙ sym g.answers, b.1 ∙ sym g.stands)

pub read_keeps_rest : KeepsRest ReadCall
read_keeps_rest list bytes o s a c = keeps (reads list bytes) o a s (read_ends c) (reads_never list bytes)

pub write_keeps_rest : KeepsRest WriteCall
write_keeps_rest list bytes o s a c = keeps (writes list bytes) o a s (write_ends c) (writes_never list bytes)

pub read_asked_first : AskedFirst ReadCall
read_asked_first list bytes o s o' s' a a' c not-0 c' = asked (reads list bytes) o s o' s' a a' (read_ends c) not-0 (read_ends c')

pub write_asked_first : AskedFirst WriteCall
write_asked_first list bytes o s o' s' a a' c not-0 c' = asked (writes list bytes) o s o' s' a a' (write_ends c) not-0 (write_ends c')

-- what is accepted into no room is empty
empty : (x : Outcome (List ℕ)) (a : Answer) (s : List ℕ) → Ends x [] a s → a.number ≡ 0 → x ≡ accepted []
empty x a s (whole bs e h p q) z = e ∙ ap accepted (none bs h)
  where
    none : (bs : List ℕ) → length bs ≤ 0 → bs ≡ []
    none [] h = refl
    none (b ∷ bs) h = absurd (omega arith)
empty x a s (short bs e h p q) z = absurd (omega (arith, ap (λ (r : Answer). r.number) p))
empty x a s (stopped n place e p q) z = absurd (numbered n (sym (ap (λ (r : Answer). r.number) p) ∙ z))

-- a sheet has its Z line
pub read_none_for_nothing : NoneForNothing ReadCall
read_none_for_nothing list bytes s a c z = no_impostor.writes_nothing reads writes kept (list, (bytes, empty (reads list bytes) a s (read_ends c) z))

-- a file has its T line
pub write_none_for_nothing : NoneForNothing WriteCall
write_none_for_nothing list bytes s a c z =
    let r = written-reads list bytes [] (empty (writes list bytes) a s (write_ends c) z) in
    let k = ((exactly_the_rules list []).0 (bytes, r)).lines.holds in
    omega (arith, k.size, k.has_t)
