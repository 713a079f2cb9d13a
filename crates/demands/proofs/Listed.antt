-- The entries of a file as their D lines tell them: each can be spelt and keeps its rules, and its parameter lines are printable.
use mathlib.Core.Path.{◌≡◌, refl, sym, subst}
use mathlib.Core.Bool.{true}
use mathlib.Core.List.{List, map}
use Prim.Native.Nat.{ℕ, ◌+◌, ◌≤◌, ◌<◌}
use native.Mathlib.Omega.{arith}
use lib.ListN.{length}
use borrow.Author.Tests.{eq-eqb}
use Rattle.columns.specs.declared.Fault.TheVariants.{Reference}
use Rattle.columns.specs.declared.Signed.{Signed}
use Rattle.columns.specs.declared.ParameterLine.{ParameterLine}
use Rattle.columns.specs.Columns.{columns, printable, line_at}
use Rattle.columns.specs.Refusal.{accepted}
use Rattle.columns.proofs.Outcomes.{demand_accepted}
use Rattle.columns.proofs.Tests.{both_true, true_false}
use Rattle.cards.specs.declared.Counts.{Counts}
use Rattle.cards.specs.Cards.{total, entries, parameter_line, entry_line}
use Rattle.cards.specs.Rules.{Meets}
use Rattle.directory.specs.declared.Fields.{Fields}
use Rattle.directory.specs.Fields.{entry_of as directory_entry}
use Rattle.directory.specs.Lines.{slots, slot_in, label_at}
use Rattle.directory.specs.Reading.{Eight, Within}
use Rattle.directory.specs.Rules.{reference_rule, references, all_fit}
use Rattle.directory.proofs.Round.{spelt-within}
use Rattle.sheets.specs.Line.{is_label}
use Rattle.sheets.specs.WellFormed.{Each, none, one, Proper, Numbered}
use Rattle.model.specs.Read.{Listed, Before, entry_in, two, first_entry, entries_in, listed_type, references_of, references_in, parameters_of}
use Rattle.model.proofs.ReadApart.{entry_apart}
use Rattle.read_passes.specs.Listed.{entry_of, all_entries}
use Rattle.read_passes.proofs.Listing.{entries_are}
use Rattle.read_passes.proofs.Facts.{Passed, passed_entry}
use Rattle.directory.proofs.Ruled.{Ruled, rules_of}
use Rattle.desk.proofs.Sound.{taken}
use Rattle.sheets.proofs.Each.{each_made, each_up, each_accepted, each_from}
use Rattle.demands.proofs.Printable.{line_prints, line_wide, text_prints}

-- ---- its numbers and its label

-- a number of eight columns
proper : {x : Signed} → Eight x → Proper x
proper {x} e = record { small = omega (arith, e.below); minus = λ n z. true_false n (e.normal z) }

numbered : {x : Fields} {from : ParameterLine} {count : ℕ} → Within x from count → Numbered x
numbered w = record {
  proper =
      one (proper w.entity) (one (proper w.form) (one (proper w.structure) (one (proper w.font) (one (proper w.level) (one (proper w.view)
      (one (proper w.matrix) (one (proper w.display) (one (proper w.status) (one (proper w.weight) (one (proper w.colour)
      (one (proper w.subscript) none)))))))))));
  digits = w.status.below;
  unsigned = w.status_plain;
}

-- eight columns of the second line
label_columns : (f : List ℕ) (k : ℕ) → label_at f k ≡ columns (line_at f (k + 1)) 56 64
unfolding label_at slot_in slots
label_columns f k = refl

-- an entry whose lines stand in the file
pub record Told (e : Listed) : Type 0 where
  pub numbers : Numbered e.fields
  pub label : is_label e.label ≡ true
  pub ruled : Ruled e.fields

module _ (f : List ℕ) (c : Counts) (m : Meets f c) where
  is_label_lem : (k : ℕ) → k + 1 < total c → is_label (label_at f k) ≡ true
  unfolding is_label
  is_label_lem k h = rw (label_columns f k)
      (both_true (eq-eqb (length (columns (line_at f (k + 1)) 56 64)) 8 (line_wide f c m (k + 1) 56 64 h (omega arith) (omega arith))) (line_prints f c m (k + 1) 56 64 h (omega arith) (omega arith)))

  told : (p k : ℕ) (e : Listed) → k + 1 < total c → entry_in f p k ≡ accepted e → Told e
  told p k e l h =
      let a = entry_apart f p k e h in
      rw a.is (record { numbers = numbered (spelt-within f k a.fields a.from a.count a.spelt); label = is_label_lem k l; ruled = rules_of a.fields p tt a.rules })

  all_told : (es : List Listed) → entries_in f c ≡ accepted es → Each Told es
  unfolding entries_in
  all_told es h = each_from two (entry_in f) told (first_entry c) (each_made (entry_line c) (λ i k. k) (each_up (λ (i : ℕ). entry_line c i + 1 < total c) (entries c) 0 inside)) es h
    where
      inside : (i : ℕ) → 0 ≤ i → i < 0 + entries c → entry_line c i + 1 < total c
      inside i lo hi = omega (arith, m.holds.has_t)

-- ---- its references

abbrev pub Refers : List ℕ → Listed → Type 0
Refers types e = all_fit types (references (directory_entry e.fields)) ≡ true

refers : (types : List ℕ) (p : ℕ) (e : Listed) (u : Unit {0}) → references_of types p e ≡ accepted u → Refers types e
unfolding reference_rule
refers types p e u h = demand_accepted _ Reference p h

all_refer : (c : Counts) (es : List Listed) (us : List (Unit {0})) → references_in c es ≡ accepted us → Each (Refers (map listed_type es)) es
unfolding references_in
all_refer c es us h = each_accepted two (references_of (map listed_type es)) (refers (map listed_type es)) (first_entry c) es us h

-- ---- its parameter lines

abbrev pub ParametersPrint : List ℕ → Counts → Listed → Type 0
ParametersPrint f c e = printable (parameters_of f c e) ≡ true

-- ---- all of it

pub record Ready (f : List ℕ) (c : Counts) (es : List Listed) : Type 0 where
  pub each_told : Each Told es
  pub each_refers : Each (Refers (map listed_type es)) es
  pub each_prints : Each (ParametersPrint f c) es

module _ (f : List ℕ) (b : Before) (p : Passed f b) (m : Meets f b.counts) where
  parameters_print : (i : ℕ) → i < entries b.counts → ParametersPrint f b.counts (entry_of f b.counts i)
  parameters_print i h =
      let e = passed_entry f b p i h in
      let some = e.from_some in
      let stays = e.stays in
      let last = m.holds.has_t in
      rw e.listed (text_prints f b.counts m e.count (parameter_line b.counts e.from.0) 64 (omega arith) (omega arith))

  all_print : Each (ParametersPrint f b.counts) (all_entries f b.counts)
  all_print = each_made (entry_of f b.counts) (λ i h. h)
      (each_up (λ (i : ℕ). ParametersPrint f b.counts (entry_of f b.counts i)) (entries b.counts) 0 (λ i lo hi. parameters_print i (omega arith)))

  -- what is known of the entries before the last pass
  pub ready : Ready f b.counts b.listed
  ready =
      let t = taken (entries_in f b.counts) p.spelt in
      let r = taken (references_in b.counts (all_entries f b.counts)) p.refer in
      subst (Ready f b.counts) (sym p.listed) (record {
        each_told = rw (entries_are f b.counts t.0 t.1) at (all_told f b.counts m t.0 t.1);
        each_refers = all_refer b.counts (all_entries f b.counts) r.0 r.1;
        each_prints = all_print;
      })
