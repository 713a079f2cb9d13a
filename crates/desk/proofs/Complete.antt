-- A file that meets the rules meets all that is asked of it before the last pass; the last pass: `Content`. Assumes nothing.
use mathlib.Core.Path.{◌≡◌, refl, sym, ap, ◌∙◌}
use mathlib.Core.List.{List}
use Prim.Native.Nat.{ℕ, zero, suc, ◌+◌, ◌*◌, ◌≤◌, ◌<◌}
use native.Mathlib.Omega.{arith}
use lib.Seq.{ext_get_or}
use Rattle.columns.specs.Fixed.{signed_of}
use Rattle.columns.specs.Refusal.{accepted}
use Rattle.values.specs.Value.{Item}
use Rattle.records.specs.Global.{first_field}
use Rattle.records.proofs.Globals.{delimits, parameter_above, record_above}
use Rattle.cards.specs.declared.Counts.{Counts}
use Rattle.cards.specs.Cards.{entries, entry_line}
use Rattle.cards.proofs.Complete.{rules}
use Rattle.directory.specs.Lines.{slot_in, pointer, lines, label_at, parameter_line as line_number}
use Rattle.directory.specs.Rules.{reference_rule}
use Rattle.directory.proofs.Ruled.{rules_pass_lem}
use Rattle.owners.specs.InFile.{owner_in, from_in, count_in}
use Rattle.owners.specs.Rules.{Owns}
use Rattle.owners.proofs.Round.{owns_passes}
use Rattle.model.specs.Read.{GlobalRead, global_read, given, entry_in, entries_in, listed_type, references_of, references_in, first_entry, before}
use Rattle.model.proofs.Sizes.{size_same, size_some}
use Rattle.std.specs.Prelude.{Ok}
use Rattle.read_passes.specs.Passes.{FilePass, pass_of}
use Rattle.read_passes.specs.Listed.{listed_of, listed_at, entry_of, all_entries, all_types}
use Rattle.read_passes.specs.Walks.{first_among, entry_check}
use Rattle.read_passes.proofs.Spellings.{stood, types-length, types-at}
use Rattle.read_passes.proofs.Walks.{row_walk, entries_walk}
use Rattle.read_passes.proofs.Whole.{good_entries}
use Rattle.desk.specs.Rules.{GlobalIs, no_fields, fields, MeetsRules}
use Rattle.desk.proofs.GlobalRules.{global_complete}
use Rattle.desk.proofs.Sound.{taken}

-- where each passes, all do
all_good : (check : ℕ → FilePass) (n i : ℕ) → ((j : ℕ) → i ≤ j → j < i + n → check j ≡ Ok tt) → first_among check i n ≡ Ok tt
unfolding first_among
all_good check zero i h = refl
all_good check (suc n) i h = rw (h i (omega arith) (omega arith)) (all_good check n (i + 1) (λ j lo hi. h j (omega arith) (omega arith)))

-- delimiters are no blanks
pub above : (t : List ℕ) (p d : ℕ) (vs : List Item) → GlobalIs t p d vs → (0 < p) × (0 < d)
above t p d vs (no_fields e b) =
    let a = parameter_above 8 e (delimits t) in
    let c = record_above 8 e (delimits t) in
    (omega arith, omega arith)
above t p d vs (fields e s b) =
    let a = parameter_above 8 e (delimits t) in
    let c = record_above 8 e (delimits t) in
    (omega arith, omega arith)

module _ (list : ℕ) (f : List ℕ) (r : MeetsRules list f) where
  abbrev c : Counts
  c = r.counts

  abbrev pub g : GlobalRead
  g = global_read r.parameter r.closing (given first_field r.globals)

  -- entry i is what its lines say
  pub listed : (i : ℕ) → i < entries c → entry_of f c i ≡ record { fields = (r.entry i).fields; label = label_at f (entry_line c i); pointer = (r.entry i).pointer; lines = (r.entry i).lines }
  unfolding listed_at
  listed i h = ap (listed_of (label_at f (entry_line c i))) (r.entry_meets i h).spelt

  pub types_same : r.types ≡ all_types f c
  types_same =
      ext_get_or 0 r.types (all_types f c) (r.types-length ∙ sym (types-length f c))
      (λ i h. let l : i < entries c = omega (arith, r.types-length) in r.types_are i l ∙ (sym (ap listed_type (listed i l)) ∙ sym (types-at f c i l)))

  range_is : (i : ℕ) → i < entries c → ((r.entry i).pointer ≡ from_in f c i) × (((r.entry i).lines ≡ count_in f c i) × (1 ≤ (r.entry i).pointer))
  unfolding from_in count_in
  range_is i h =
      let w = stood f (entry_line c i) (r.entry i).fields (line_number (r.entry i).pointer) (r.entry i).lines (r.entry_meets i h).spelt in
      let a = size_same (signed_of (slot_in f (entry_line c i) pointer)) w.from_some in
      let b = size_same (signed_of (slot_in f (entry_line c i) lines)) w.count_some in
      let some = size_some (signed_of (slot_in f (entry_line c i) pointer)) w.from_some in
      let from = w.from_is in
      (w.from_is ∙ a, (w.count-is ∙ b, omega arith))

  owns : Owns (owner_in f c) (from_in f c) (count_in f c) (entries c) c.p
  owns = record {
    starts = λ i h. let q = range_is i h in let a = q.0 in let l = q.1.1 in omega arith;
    stays = λ i h. let q = range_is i h in let a = q.0 in let b = q.1.0 in let s = (r.entry_meets i h).inside in omega arith;
    names = λ i k x. let q = range_is i x.is in let a = q.0 in let b = q.1.0 in let lo = x.after in let hi = x.before in (r.entry_meets i x.is).names k (omega arith, omega arith);
    lines = λ k lo hi.
        let o = r.owned k lo hi in
        let q = range_is o.0 o.1.0 in
        let a = q.0 in
        let b = q.1.0 in
        let low = o.1.1.1.0 in
        let high = o.1.1.1.1 in
        record { entry = o.0; name = o.1.1.0; has = record { is = o.1.0; after = omega arith; before = omega arith } };
  }

  entry-passes : (i : ℕ) → i < entries c → entry_check f c i ≡ Ok tt
  unfolding entry_check entry_in
  entry-passes i h =
      let m = r.entry_meets i h in
      rw (m.spelt, rules_pass_lem (r.entry i).fields m.ranges m.no_macro (first_entry c + 2 * i))

  entries-pass : pass_of (entries_in f c) ≡ Ok tt
  entries-pass = entries_walk f c ∙ all_good (entry_check f c) (entries c) 0 (λ j lo hi. entry-passes j (omega arith))

  references-pass : pass_of (references_in c (all_entries f c)) ≡ Ok tt
  unfolding references_in reference_rule
  references-pass =
      row_walk (references_of (all_types f c)) (entry_of f c) (first_entry c) (entries c) 0 (first_entry c) (omega arith)
      ∙ all_good (λ j. pass_of (references_of (all_types f c) (first_entry c + 2 * j) (entry_of f c j))) (entries c) 0
      (λ j lo hi. let h : j < entries c = omega arith in rw (listed j h, ← types_same, (r.entry_meets j h).references_fit))

  pub before-accepts : before f ≡ accepted (record { counts = c; global = g; listed = all_entries f c })
  unfolding before
  before-accepts =
      let u = taken (references_in c (all_entries f c)) references-pass in
      rw ((rules f c).1 r.lines, global_complete f c r.lines.holds r.parameter r.closing r.globals r.global r.global_fits_lem, good_entries f c entries-pass, u.1, owns_passes f c owns)
