-- No impostor keeps demand 2: what is read of a file that meets the rules is the sheet of what it carries, which tells its model and ends with its count. Assumes nothing.
use mathlib.Core.Path.{◌≡◌, refl, sym, ap, ◌∙◌}
use mathlib.Core.List.{List, [], ◌∷◌, ◌++◌}
use Prim.Native.Nat.{ℕ, ◌≤◌}
use native.Mathlib.Omega.{arith}
use lib.ListN.{length, get_or, length-append, length-map}
use Rattle.columns.specs.declared.Fault.{Fault}
use Rattle.columns.specs.Refusal.{Outcome, accepted, refused}
use Rattle.columns.specs.Format.{most_lines, most_list}
use Rattle.values.specs.Value.{Item, default, whole, real, text}
use Rattle.cards.specs.Cards.{entries}
use Rattle.sheets.specs.Sheet.{Line, last, sheet_text, pieces_of, last_piece, said_by_all, lines_in}
use Rattle.sheets.proofs.Sheets.{lines-written}
use Rattle.model.specs.Model.{Model, row_of, sheet_of}
use Rattle.model.specs.Canonical.{line_total, canonical}
use Rattle.model.specs.Fit.{Fits}
use Rattle.desk.specs.Rules.{MeetsRules}
use Rattle.desk.specs.Content.{model_of, sheet_by}
use Rattle.desk.specs.Chair.{file, sheet, read-chair}
use Rattle.desk.proofs.Content.{length-below, reads_content, exactly_the_sheet}
use Rattle.demands.specs.Demand.{Way, KeepsDemand}
use Rattle.demands.specs.Impostors.{RefusesAll, ConstantSheet, WritesNothing, AlikeAtFirst, FirstEntryOnly, EndsWith, InventsCount, ShutsOut, NoImpostor}
use Rattle.demands.proofs.FromFile.{read_fits}
use Rattle.demands.proofs.ToSheet.{sheet_formed}
use Rattle.demands.proofs.Described.{one_told}
use Rattle.demands.proofs.ThereAndBack.{reads_back}
use Rattle.demands.proofs.Demand.{one_reader}
use Rattle.demands.proofs.LastLine.{last_line_lem, one_last}
use Rattle.demands.proofs.Examples.{titled, titled-fits, titled_short, a-start, b_start, entry, paired, paired-fits, paired-lines, paired_lines'}

-- ---- canonical files

module _ (rd wr : Way) (h : KeepsDemand rd wr) (list : ℕ) where
  -- that of a model is read to its sheet
  the_sheet : (m : Model) → Fits list m → line_total m ≤ most_lines → rd list (canonical m) ≡ accepted (sheet_text (sheet_of list m))
  the_sheet m f l = (one_reader rd wr h list (canonical m) (sheet_text (sheet_of list m))).1 (reads_back list m f l)

  -- two that are read alike are of one
  one-read : (m k : Model) → Fits list m → Fits list k → line_total m ≤ most_lines → line_total k ≤ most_lines → rd list (canonical m) ≡ rd list (canonical k) → m ≡ k
  one-read m k f g l l' same =
      let a : rd list (canonical m) ≡ accepted (sheet_text (sheet_of list m)) = the_sheet m f l in
      let b : rd list (canonical k) ≡ accepted (sheet_text (sheet_of list k)) = the_sheet k g l' in
      one_told list m k f g (cc)

-- ---- refuses everything: the chair's file is read

no_refuser : ShutsOut RefusesAll
no_refuser rd wr h i = never ((one_reader rd wr h most_list file sheet).1 read-chair) (i most_list file).1.1
  where
    never : {o : Outcome (List ℕ)} {s : List ℕ} {n : Fault} {place : ℕ} → o ≡ accepted s → o ≡ refused n place → ⊥
    never a r = let z : ◌≡◌ {A = ℕ} 0 1 = cc in absurd (omega arith)

-- ---- constant sheet: two titles

no_constant : (list : ℕ) → list ≤ most_list → (s : List ℕ) → ShutsOut (λ (rd : Way). ConstantSheet rd list s)
no_constant list l s rd wr h c =
    let f : Fits list (titled 65) = titled-fits list 65 l a-start in
    let g : Fits list (titled 66) = titled-fits list 66 l b_start in
    let a = c (canonical (titled 65)) (_, the_sheet rd wr h list (titled 65) f (titled_short 65)) in
    let b = c (canonical (titled 66)) (_, the_sheet rd wr h list (titled 66) g (titled_short 66)) in
    let e : titled 65 ≡ titled 66 = one-read rd wr h list (titled 65) (titled 66) f g (titled_short 65) (titled_short 66) (a ∙ sym b) in
    let z : ◌≡◌ {A = ℕ} 65 66 = ap (λ (m : Model). get_or (get_or m.starts 0 []) 0 0) e in
    absurd (omega arith)

-- ---- reads the first entry and pretends for the rest: two files that differ in the value of their second entry

alike : AlikeAtFirst (paired 1) (paired 2)
alike = record { starts = refl; globals = refl; first = refl; fields = refl; labels = refl; lines = paired-lines ∙ sym paired_lines' }

no_pretence : (list : ℕ) → list ≤ most_list → ShutsOut (λ (rd : Way). FirstEntryOnly rd list)
no_pretence list l rd wr h p =
    let f : Fits list (paired 1) = paired-fits list 1 l (omega arith) in
    let g : Fits list (paired 2) = paired-fits list 2 l (omega arith) in
    let u : line_total (paired 1) ≤ most_lines = omega (arith, paired-lines) in
    let v : line_total (paired 2) ≤ most_lines = omega (arith, paired_lines') in
    let e : paired 1 ≡ paired 2 = one-read rd wr h list (paired 1) (paired 2) f g u v (p (paired 1) (paired 2) f g alike) in
    let z : ◌≡◌ {A = ℕ} 1 2 = ap second_value e in
    absurd (omega arith)
  where
    size : Item → ℕ
    size default = 0
    size (whole neg n) = n
    size (real neg m eneg x double) = 0
    size (text bs) = 0

    second_value : Model → ℕ
    second_value m = size (get_or (get_or m.entries 1 (entry [])).values 0 default)

-- ---- the last line: Z with the count of the entries

-- of a model's sheet
model-count : (list : ℕ) (m : Model) → Fits list m → EndsWith (lines_in (sheet_text (sheet_of list m))) (length m.entries)
unfolding sheet_of
model-count list m f =
    let a = last_line_lem (sheet_of list m) in
    let n : length (sheet_of list m).rows ≡ length m.entries = length-map m.entries (row_of list) in
    (a.0, lines-written (sheet_formed list m f).spelt ∙ a.1 ∙ ap (λ (k : ℕ). a.0 ++ (last k ∷ [])) n)

-- of the sheet of a file that meets the rules
the_count : (list : ℕ) (f : List ℕ) (r : MeetsRules list f) → EndsWith (lines_in (sheet_by r)) (entries r.counts)
unfolding model_of
the_count list f r =
    let a = model-count list (model_of r) (read_fits list f (model_of r) (reads_content list f r)) in
    (a.0, a.1 ∙ ap (λ (k : ℕ). a.0 ++ (last k ∷ [])) (length-below (entries r.counts) _))

-- ---- writes nothing: a text without lines has no last one

no_lines : lines_in [] ≡ []
unfolding lines_in pieces_of said_by_all last_piece
no_lines = refl

no_silence : ShutsOut WritesNothing
no_silence rd wr h (list, (f, e)) =
    let x = (exactly_the_sheet list f []).0 ((one_reader rd wr h list f []).0 e) in
    let a = the_count list f x.0 in
    let z : ◌≡◌ {A = List Line} [] (a.0 ++ (last (entries x.0.counts) ∷ [])) = sym no_lines ∙ ap lines_in (sym x.1) ∙ a.1 in
    absurd (omega (arith, ap length z, length-append a.0 (last (entries x.0.counts) ∷ [])))

-- ---- invents the count

no_count : ShutsOut InventsCount
no_count rd wr h i =
    let a : rd i.list i.file ≡ accepted (sheet_by i.meets) = h.content i.list i.file i.meets in
    let r : rd i.list i.file ≡ accepted i.sheet = i.read in
    let e : i.sheet ≡ sheet_by i.meets = cc in
    let b = the_count i.list i.file i.meets in
    i.other (one_last i.ends.0 b.0 i.count _ (sym i.ends.1 ∙ ap lines_in e ∙ b.1))

pub no_impostor : NoImpostor
no_impostor = record {
  refuses_everything = no_refuser;
  constant_sheet = no_constant;
  writes_nothing = no_silence;
  first_for_the_rest = no_pretence;
  invented_count = no_count;
  canonical_only = λ rd wr h i.
      let a : rd i.list i.file ≡ accepted (sheet_by i.meets) = h.content i.list i.file i.meets in
      let r : rd i.list i.file ≡ accepted i.sheet = i.read in
      i.other (cc);
}
