-- A reader that invents the title of one file that is not canonical, beside the writer: the pair keeps all that is asked but what a file's sheet is. Assumes nothing.
use mathlib.Core.Path.{◌≡◌, refl, sym, ap, ◌∙◌}
use mathlib.Core.Bool.{Bool, true, false, cond}
use mathlib.Core.List.{List, [], ◌∷◌, ◌++◌}
use mathlib.Core.Logic.{◌⊎◌, inl, inr}
use Prim.Native.Nat.{ℕ, ◌≤◌}
use native.Mathlib.Omega.{arith}
use lib.ListN.{get_or}
use borrow.Author.Tests.{le-leb}
use Rattle.columns.specs.Columns.{columns, printable, blank, same_bytes, joined, line_at, text_of}
use Rattle.columns.specs.Decimal.{last_digits, dec, to_right, to_left}
use Rattle.columns.specs.First.{first_not, up_from}
use Rattle.columns.specs.Fixed.{digits_of, field_of, is_number}
use Rattle.columns.specs.Quoted.{codes}
use Rattle.columns.specs.Refusal.{accepted, each_at, ◌then◌}
use Rattle.columns.specs.Format.{most_lines, most_list}
use Rattle.columns.proofs.Looks.{same_eq, same_self}
use Rattle.columns.proofs.Outcomes.{then_accepted}
use Rattle.records.specs.Flow.{line_count, cut, in_lines}
use Rattle.records.specs.Global.{may_delimit, opened, record_delimiter, opening_of, canonical_opening}
use Rattle.cards.specs.declared.Counts.{Counts}
use Rattle.cards.specs.Cards.{lines_from, lines_of, line_ok, seven, place_of, numbered_of, step_of, pass, tells, totals, closes, closed, length_ok, cards_of}
use Rattle.cards.specs.Written.{zeros, line_of, section, totals_of, file_lines, file_of}
use Rattle.owners.specs.InFile.{owners_in}
use Rattle.owners.specs.Owners.{owners_of}
use Rattle.sheets.specs.Sheet.{sheet_text}
use Rattle.model.specs.Model.{Model, sheet_of}
use Rattle.model.specs.Canonical.{start_lines, global_text, global_lines, directory_lines, parameter_lines, line_total, canonical}
use Rattle.model.specs.Read.{global_read, starts_in, no_stray, global_in, entries_in, references_in, last_pass, before, read_model, reads}
use Rattle.model.specs.Write.{writes}
use Rattle.model.specs.Fit.{Fits}
use Rattle.desk.specs.Words.{Accepts, Iff}
use Rattle.desk.specs.Rules.{MeetsRules}
use Rattle.desk.specs.Demands.{described}
use Rattle.desk.specs.Content.{sheet_by}
use Rattle.desk.proofs.Exactly.{exactly_the_rules}
use Rattle.desk.proofs.Content.{reads-sheet}
use Rattle.demands.specs.Demand.{Way}
use Rattle.demands.specs.Impostors.{RightOnlyThere}
use Rattle.demands.proofs.Written.{written_short}
use Rattle.demands.proofs.Described.{described-sheet, one_told, written-sheet}
use Rattle.demands.proofs.ThereAndBack.{read-writes, written-reads, sheets_exactly}
use Rattle.demands.proofs.Examples.{titled, titled-fits, titled_short, a-start, b_start}

-- ---- the file: the title A, and a Global section whose opening is not the canonical one

abbrev line : List ℕ → List ℕ → List ℕ
line text number = to_left 72 text ++ number ++ (10 ∷ [])

abbrev odd : List ℕ
odd = line (codes "A") (codes "S0000001") ++ line (codes ",;") (codes "G0000001") ++ line (codes "S0000001G0000001D0000000P0000000") (codes "T0000001")

abbrev counts : Counts
counts = record { s = 1; g = 1; d = 0; p = 0; t = 1 }

odd-before : before odd ≡ accepted (record { counts = counts; global = global_read 44 59 []; listed = [] })
unfolding columns printable blank same_bytes joined line_at text_of last_digits dec to_right to_left first_not up_from digits_of field_of is_number may_delimit opened record_delimiter opening_of lines_from lines_of line_ok seven place_of numbered_of step_of pass tells totals closes closed length_ok cards_of owners_in owners_of each_at no_stray global_in entries_in references_in before
odd-before = refl

odd-starts : starts_in odd counts ≡ (65 ∷ []) ∷ []
unfolding starts_in up_from columns line_at to_left
odd-starts = refl

-- under every list it carries the title A alone
odd-read : (list : ℕ) → list ≤ most_list → reads list odd ≡ accepted (sheet_text (sheet_of list (titled 65)))
unfolding reads read_model last_pass each_at
odd-read list l = rw (le-leb list most_list l, odd-before, odd-starts)

-- its G line starts with a comma, a canonical one with 1
odd_byte : get_or odd 81 0 ≡ 44
unfolding to_left
odd_byte = refl

canonical-byte : (b : ℕ) → get_or (canonical (titled b)) 81 0 ≡ 49
unfolding joined to_left last_digits dec to_right in_lines cut line_count canonical_opening zeros line_of section totals_of file_lines file_of start_lines global_text global_lines directory_lines parameter_lines canonical
canonical-byte b = refl

not-canonical : (b : ℕ) → odd ≡ canonical (titled b) → ⊥
not-canonical b e = let z : ◌≡◌ {A = ℕ} 44 49 = sym odd_byte ∙ ap (λ (f : List ℕ). get_or f 81 0) e ∙ canonical-byte b in omega arith

-- ---- the pair

-- the title B, which no list has a say in
abbrev other : List ℕ
other = sheet_text (sheet_of 0 (titled 66))

other-any : (list : ℕ) → sheet_text (sheet_of list (titled 66)) ≡ other
unfolding sheet_of
other-any list = refl

abbrev reader : Way
reader list f = reads list f then λ s. accepted (cond (same_bytes f odd) other s)

-- what it accepts is read so, or it is that file
taken : (list : ℕ) (f s : List ℕ) → reader list f ≡ accepted s → Accepts (reads list f) × ((reads list f ≡ accepted s) ⊎ ((f ≡ odd) × (s ≡ other)))
taken list f s h =
    let b = then_accepted (reads list f) (λ (t : List ℕ). accepted (cond (same_bytes f odd) other t)) s h in
    ((b.value, b.first), by b.value (same_bytes f odd) refl b.first b.second)
  where
    by : (t : List ℕ) (k : Bool) → same_bytes f odd ≡ k → reads list f ≡ accepted t → accepted (cond k other t) ≡ accepted s
        → (reads list f ≡ accepted s) ⊎ ((f ≡ odd) × (s ≡ other))
    by t true k r e = let z : s ≡ other = cc in inr (same_eq f odd k, z)
    by t false k r e = let z : t ≡ s = cc in inl (r ∙ ap accepted z)

list_ok : (list : ℕ) (f : List ℕ) → Accepts (reads list f) → list ≤ most_list
list_ok list f a = ((exactly_the_rules list f).0 a).list_ok

-- a text that is written tells of no such file
not_written : (list : ℕ) (s : List ℕ) → writes list s ≡ accepted odd → ⊥
not_written list s h =
    let a = written-sheet list s odd h in
    let l = a.fits.list_ok in
    let r : reads list odd ≡ accepted s = written-reads list s odd h in
    let q : reads list odd ≡ accepted (sheet_text (sheet_of list (titled 65))) = odd-read list l in
    let e : s ≡ sheet_text (sheet_of list (titled 65)) = cc in
    not-canonical 65 (a.file ∙ ap canonical (ap described e ∙ described-sheet list (titled 65) (titled-fits list 65 l a-start)))

-- so what is written is read as it should be
written_right : (list : ℕ) (s g : List ℕ) → writes list s ≡ accepted g → reader list g ≡ accepted s
written_right list s g h = by (same_bytes g odd) refl
  where
    by : (k : Bool) → same_bytes g odd ≡ k → reader list g ≡ accepted s
    by true k = let e : g ≡ odd = same_eq g odd k in absurd (not_written list s (h ∙ ap accepted e))
    by false k = rw (written-reads list s g h, k)

-- ---- all that is asked but the sheet

keeps_files : (list : ℕ) (f : List ℕ) → Iff (Accepts (reader list f)) (MeetsRules list f)
keeps_files list f = (
  λ a. (exactly_the_rules list f).0 (taken list f a.0 a.1).0,
  λ r. let b = (exactly_the_rules list f).1 r in (cond (same_bytes f odd) other b.0, rw b.1),
)

keeps_back : (list : ℕ) (f s : List ℕ) → reader list f ≡ accepted s → line_total (described s) ≤ most_lines
    → (g : List ℕ) × ((writes list s ≡ accepted g) × (reader list g ≡ accepted s))
keeps_back list f s h l = by (taken list f s h).1
  where
    right : (g : List ℕ) → writes list s ≡ accepted g → (g : List ℕ) × ((writes list s ≡ accepted g) × (reader list g ≡ accepted s))
    right g w = (g, (w, written_right list s g w))

    by : (reads list f ≡ accepted s) ⊎ ((f ≡ odd) × (s ≡ other)) → (g : List ℕ) × ((writes list s ≡ accepted g) × (reader list g ≡ accepted s))
    by (inl e) = right (canonical (described s)) (read-writes list f s e l)
    by (inr e) =
        let o = list_ok list f (taken list f s h).0 in
        right (canonical (titled 66)) (ap (writes list) (e.1 ∙ sym (other-any list)) ∙ written_short list (titled 66) (titled-fits list 66 o b_start) (titled_short 66))

keeps_exactly : (list : ℕ) (s g : List ℕ)
    → Iff (writes list s ≡ accepted g) ((g ≡ canonical (described s)) × ((line_total (described s) ≤ most_lines) × (reader list g ≡ accepted s)))
keeps_exactly list s g = (
  λ h. let k = (sheets_exactly list s g).0 h in (k.0, (k.1.0, written_right list s g h)),
  λ k. by k.0 k.1.0 (taken list g s k.1.1).1,
)
  where
    by : g ≡ canonical (described s) → line_total (described s) ≤ most_lines → (reads list g ≡ accepted s) ⊎ ((g ≡ odd) × (s ≡ other)) → writes list s ≡ accepted g
    by c l (inl e) = (sheets_exactly list s g).1 (c, (l, e))
    by c l (inr e) = absurd (not-canonical 66 (sym e.0 ∙ c ∙ ap canonical (ap described e.1 ∙ described-sheet 0 (titled 66) (titled-fits 0 66 (omega arith) b_start))))

right_there : (list : ℕ) (m : Model) → Fits list m → line_total m ≤ most_lines → reader list (canonical m) ≡ accepted (sheet_text (sheet_of list m))
right_there list m f l = written_right list _ (canonical m) (written_short list m f l)

other_title : (s : List ℕ) → reads 0 odd ≡ accepted s → other ≡ s → ⊥
other_title s h e =
    let q : reads 0 odd ≡ accepted (sheet_text (sheet_of 0 (titled 65))) = odd-read 0 (omega arith) in
    let same : other ≡ sheet_text (sheet_of 0 (titled 65)) = cc in
    let m : titled 66 ≡ titled 65 = one_told 0 (titled 66) (titled 65) (titled-fits 0 66 (omega arith) b_start) (titled-fits 0 65 (omega arith) a-start) same in
    let z : ◌≡◌ {A = ℕ} 66 65 = ap (λ (m : Model). get_or (get_or m.starts 0 []) 0 0) m in
    omega arith

pub right_only_there : RightOnlyThere
right_only_there =
    let r = (exactly_the_rules 0 odd).0 (_, odd-read 0 (omega arith)) in
    record {
      reader = reader;
      writer = writes;
      keeps = record { files = keeps_files; there_and_back = keeps_back; exactly = keeps_exactly };
      wrong = record {
        right = right_there;
        list = 0;
        file = odd;
        meets = r;
        sheet = other;
        read = rw (odd-read 0 (omega arith), same_self odd);
        other = other_title (sheet_by r) (reads-sheet 0 odd r);
      };
    }
