-- Demand 3 over the functions, from their contracts and from demand 3 over the definitions. Assumes nothing.
use mathlib.Core.Path.{◌≡◌, sym, ap, ◌∙◌}
use mathlib.Core.List.{List}
use mathlib.Core.Logic.{◌⊎◌, inl, inr}
use Prim.Native.Nat.{ℕ, ◌≤◌, ◌<◌}
use native.Mathlib.Omega.{arith}
use lib.ListN.{length}
use Rattle.columns.specs.declared.Fault.{Fault}
use Rattle.columns.specs.declared.Fault.TheVariants.{TooLong}
use Rattle.columns.specs.Refusal.{accepted, refused}
use Rattle.columns.specs.Format.{most_lines}
use Rattle.layouts.specs.Larger.{Late}
use Rattle.sheets.specs.Sheet.{sheet_text}
use Rattle.model.specs.Model.{Model, sheet_of}
use Rattle.model.specs.Canonical.{line_total, canonical}
use Rattle.model.specs.Read.{read_model, reads}
use Rattle.model.specs.Write.{writes}
use Rattle.desk.specs.declared.Answer.{Answer}
use Rattle.desk.specs.Answers.{answer}
use Rattle.desk.specs.Demands.{OneInside, EarlierEntry}
use Rattle.desk.proofs.Content.{exactly_the_sheet}
use Rattle.desk.proofs.Lists.{smaller_accepts}
use Rattle.desk.proofs.Entries.{larger_refuses}
use Rattle.demands.specs.Calls.{ReadCall, given}
use Rattle.demands.specs.Lists.{SmallerReads, SameWritten, EarlierAnswer, LargerAnswers}
use Rattle.demands.proofs.Calls.{Ends, whole, short, stopped, got, gives, refuses, read_ends, write_ends}
use Rattle.demands.proofs.Functions.{written-bytes}
use Rattle.demands.proofs.ThereAndBack.{read-to}
use Rattle.demands.proofs.SameBytes.{same_bytes_lem}
use Rattle.demands.proofs.Letters.{letters, letters_length}

-- ---- a file read under both lists

-- one model, and its two sheets stand in the buffers
record Twice (small large : ℕ) (file s t : List ℕ) : Type 0 where
  model : Model
  read : read_model large file ≡ accepted model
  small_text : s ≡ sheet_text (sheet_of small model)
  large_text : t ≡ sheet_text (sheet_of large model)

reads-model : (list : ℕ) (file : List ℕ) (m : Model) → read_model list file ≡ accepted m → reads list file ≡ accepted (sheet_text (sheet_of list m))
unfolding reads
reads-model list file m e = rw e

twice : (small large : ℕ) → OneInside small large → (file o s o' s' : List ℕ) (a a' : Answer)
    → ReadCall large file o a s → a.number ≡ 0 → ReadCall small file o' a' s' → a.length ≤ length o'
    → (a' ≡ a) × Twice small large file (given a' s') (given a s)
twice small large i file o s o' s' a a' r z r' room =
    let g = got (reads large file) o a s (read_ends r) z in
    let t = read-to large file g.bytes g.outcome in
    let m = t.model in
    let both = smaller_accepts small large i file m t.read in
    let n : length (sheet_text (sheet_of small m)) ≡ length g.bytes = letters_length (letters small large (sheet_of small m) (sheet_of large m) both.1) ∙ ap length t.text in
    let k : a.length ≡ length g.bytes = ap (λ (x : Answer). x.length) g.answers in
    let b = gives (reads small file) o' a' s' (sheet_text (sheet_of small m)) (read_ends r') (reads-model small file m both.0) (omega arith) in (
      b.0 ∙ ap (answer 0 0) n ∙ sym g.answers,
      record { model = m; read = t.read; small_text = b.1; large_text = g.stands ∙ sym t.text },
    )

-- a and b
pub smaller_reads : SmallerReads
smaller_reads small large i file o s o' s' a a' r z r' room =
    let t = twice small large i file o s o' s' a a' r z r' room in
    let u = t.1 in
    let alike = (smaller_accepts small large i file u.model u.read).1 in (
      t.0,
      record {
        letters = (rw (u.small_text, u.large_text) (letters small large (sheet_of small u.model) (sheet_of large u.model) alike));
        small_sheet = sheet_of small u.model;
        large_sheet = sheet_of large u.model;
        small_text = u.small_text;
        large_text = u.large_text;
        alike = alike;
      },
    )

-- c
pub same_written : SameWritten
same_written small large i file o s o' s' w t w' t' a a' b b' r z r' room c most c' most' =
    pick (same_bytes_lem small large i file u.model u.read)
  where
    u : Twice small large file (given a' s') (given a s)
    u = (twice small large i file o s o' s' a a' r z r' room).1

    pick : ((line_total u.model ≤ most_lines) × ((writes small (sheet_text (sheet_of small u.model)) ≡ accepted (canonical u.model)) × (writes large (sheet_text (sheet_of large u.model)) ≡ accepted (canonical u.model))))
        ⊎ ((most_lines < line_total u.model) × ((writes small (sheet_text (sheet_of small u.model)) ≡ refused TooLong 0) × (writes large (sheet_text (sheet_of large u.model)) ≡ refused TooLong 0)))
        → ((b.number ≡ 0) × (b' ≡ b) × (given b' t' ≡ given b t)) ⊎ ((b ≡ answer 19 0 0) × (b' ≡ answer 19 0 0))
    pick (inl (_, (e, e'))) =
        let h = written-bytes small _ _ e in
        let x = gives (writes large (given a s)) w b t (canonical u.model) (write_ends c) (ap (writes large) u.large_text ∙ e') (omega arith) in
        let y = gives (writes small (given a' s')) w' b' t' (canonical u.model) (write_ends c') (ap (writes small) u.small_text ∙ e) (omega arith) in
        inl (ap (λ (k : Answer). k.number) x.0, y.0 ∙ sym x.0, y.1 ∙ sym x.1)
    pick (inr (_, (e, e'))) =
        inr (refuses TooLong 0 (write_ends c) (ap (writes large) u.large_text ∙ e'), refuses TooLong 0 (write_ends c') (ap (writes small) u.small_text ∙ e))

-- d
pub larger_answers : LargerAnswers
larger_answers small large i file o s o' s' a a' r refusal room r' = by (read_ends r)
  where
    by : Ends (reads small file) o a s → (a' ≡ a) ⊎ EarlierAnswer small large file a a'
    by (whole bs e h p q) = absurd (refusal (ap (λ (k : Answer). k.number) p))
    by (short bs e h p q) =
        let x = (exactly_the_sheet small file bs).0 e in
        absurd (omega (arith, room x.0, ap length x.1))
    by (stopped n place e p q) = pick (larger_refuses small large i file n place e)
      where
        pick : (reads large file ≡ refused n place) ⊎ ((m : Fault) × (x : ℕ) × (reads large file ≡ refused m x) × Late m × EarlierEntry small large file n place m x)
            → (a' ≡ a) ⊎ EarlierAnswer small large file a a'
        pick (inl h) = inl (refuses n place (read_ends r') h ∙ sym p)
        pick (inr (m, x, h, l, k)) = inr (record { n = n; p = place; smaller = p; m = m; q = x; larger = refuses m x (read_ends r') h; late = l; entry = k })
