-- What is known of a file that passes all that is asked before the last pass.
use mathlib.Core.Path.{◌≡◌, refl, sym, ap, ◌∙◌}
use mathlib.Core.Bool.{Bool, true, false}
use mathlib.Core.List.{List}
use Prim.Native.Nat.{ℕ, ◌+◌, ◌*◌, ◌≤◌, ◌<◌}
use native.Mathlib.Omega.{arith}
use Rattle.columns.specs.declared.ParameterLine.{ParameterLine}
use Rattle.columns.specs.Fixed.{signed_of}
use Rattle.columns.specs.Refusal.{accepted}
use Rattle.cards.specs.declared.Counts.{Counts}
use Rattle.std.specs.Prelude.{Ok, Err}
use Rattle.cards.specs.Cards.{CardsRead, cards_of, outcome, entries, entry_line, parameter_line}
use Rattle.cards.specs.Rules.{Holds}
use Rattle.cards.proofs.Growth.{known, holds_of}
use Rattle.records.specs.Global.{opens, opening_of}
use Rattle.records.specs.Reading.{Stands}
use Rattle.records.proofs.Globals.{delimits, parameter_above, record_above, they_differ}
use Rattle.directory.specs.declared.Fields.{Fields}
use Rattle.std.specs.Prelude.{Some}
use Rattle.directory.specs.Lines.{slot_in, pointer, lines, entry_at, label_at, spelt_entry}
use Rattle.owners.specs.declared.Owned.TheVariants.{Everyone}
use Rattle.owners.specs.InFile.{from_in, count_in, owners_in}
use Rattle.owners.proofs.Round.{passes_owns, accepted_everyone}
use Rattle.model.specs.Read.{GlobalRead, Before, global_text, global_in, entries_in, references_in, before}
use Rattle.model.proofs.ReadApart.{GlobalApart, alone, more, global_apart, before_apart}
use Rattle.model.proofs.Sizes.{size_same, size_some}
use Rattle.read_passes.specs.Passes.{pass_of}
use Rattle.read_passes.specs.Listed.{listed_of, listed_at, entry_of, all_entries}
use Rattle.read_passes.proofs.Listing.{entries_are}
use Rattle.read_passes.proofs.Spellings.{stood, each_spelt}

-- ---- G

-- delimiters are no blanks and differ
pub record Delimiters (p d : ℕ) : Type 0 where
  pub parameter : 32 < p
  pub closing : 32 < d
  pub differ : p ≡ d → ⊥

opened_delimiters : (t : List ℕ) (p d next : ℕ) (last : Bool) → opening_of t ≡ opens p d next last → Delimiters p d
opened_delimiters t p d next last e =
    let h = delimits t in
    record { parameter = parameter_above 8 e h; closing = record_above 8 e h; differ = they_differ 8 e h }

pub delimiters_are : (c : Counts) (t : List ℕ) (g : GlobalRead) → GlobalApart c t g → Delimiters g.parameter g.record_end
delimiters_are c t g (alone p d next eo s e) = rw e (opened_delimiters t p d next true eo)
delimiters_are c t g (more p d next vs end eo ev s fit e) = rw e (opened_delimiters t p d next false eo)

-- ---- all

pub record Passed (f : List ℕ) (b : Before) : Type 0 where
  pub cards : cards_of f ≡ Ok b.counts
  pub holds : Holds f b.counts
  pub globals : global_in f b.counts ≡ accepted b.global
  pub said : GlobalApart b.counts (global_text f b.counts) b.global
  pub delimiters : Delimiters b.global.parameter b.global.record_end
  pub spelt : pass_of (entries_in f b.counts) ≡ Ok tt
  pub listed : b.listed ≡ all_entries f b.counts
  pub refer : pass_of (references_in b.counts (all_entries f b.counts)) ≡ Ok tt
  pub owned : owners_in f b.counts ≡ Everyone

counted : (r : CardsRead) (c : Counts) → outcome r ≡ accepted c → r ≡ Ok c
counted (Ok d) c h =
    let e : d ≡ c = cc in
    rw e
counted (Err n) c h = let z : ◌≡◌ {A = ℕ} 0 1 = cc in absurd (omega arith)

pub passed_all : (f : List ℕ) (b : Before) → before f ≡ accepted b → Passed f b
passed_all f b h =
    let a = before_apart f b h in
    let k = counted (cards_of f) b.counts a.counts in
    let l = entries_are f b.counts b.listed a.entries in
    let w = global_apart f b.counts b.global a.globals in
    record {
      cards = k;
      holds = holds_of f b.counts (cards_of f) (known f (cards_of f) refl) k;
      globals = a.globals;
      said = w;
      delimiters = delimiters_are b.counts (global_text f b.counts) b.global w;
      spelt = ap pass_of a.entries;
      listed = l;
      refer = ap pass_of (ap (references_in b.counts) (sym l) ∙ a.references);
      owned = accepted_everyone b.counts (owners_in f b.counts) a.owned;
    }

-- ---- an entry and its parameters

-- entry i, and its parameter lines, which stand in the file
pub record Entered (f : List ℕ) (c : Counts) (i : ℕ) : Type 0 where
  pub fields : Fields
  pub from : ParameterLine
  pub count : ℕ
  pub is : entry_at f (entry_line c i) ≡ Some (spelt_entry fields from count)
  pub listed : entry_of f c i ≡ record { fields = fields; label = label_at f (entry_line c i); pointer = from.0; lines = count }
  pub from_some : 1 ≤ from.0
  pub count_some : 1 ≤ count
  pub stays : from.0 + count ≤ c.p + 1
  pub stands : Stands f (81 * parameter_line c from.0) 64 count

module _ (f : List ℕ) (c : Counts) (ho : Holds f c) (good : pass_of (entries_in f c) ≡ Ok tt) (own : owners_in f c ≡ Everyone) where
  parameters_stand : (from count : ℕ) → 1 ≤ from → 1 ≤ count → from + count ≤ c.p + 1 → Stands f (81 * parameter_line c from) 64 count
  parameters_stand from count lo some hi = record {
    wide = omega arith;
    narrow = omega arith;
    size = omega (arith, ho.size, ho.most);
    inside = omega (arith, ho.size, ho.has_t);
  }

  pub entered : (i : ℕ) → i < entries c → Entered f c i
  unfolding listed_at from_in count_in
  entered i h =
      let s = each_spelt f c good i h in
      let w = stood f (entry_line c i) s.fields s.from s.count s.is in
      let o = passes_owns f c own in
      let ef : s.from.0 ≡ from_in f c i = w.from_is ∙ size_same (signed_of (slot_in f (entry_line c i) pointer)) w.from_some in
      let ec : s.count ≡ count_in f c i = w.count-is ∙ size_same (signed_of (slot_in f (entry_line c i) lines)) w.count_some in
      let a : 1 ≤ s.from.0 = omega (arith, w.from_is, size_some (signed_of (slot_in f (entry_line c i) pointer)) w.from_some) in
      let b : 1 ≤ s.count = omega (arith, w.count-is, size_some (signed_of (slot_in f (entry_line c i) lines)) w.count_some) in
      let t : s.from.0 + s.count ≤ c.p + 1 = omega (arith, ef, ec, o.stays i h) in
      record {
        fields = s.fields;
        from = s.from;
        count = s.count;
        is = s.is;
        listed = ap (listed_of (label_at f (entry_line c i))) s.is;
        from_some = a;
        count_some = b;
        stays = t;
        stands = parameters_stand s.from.0 s.count a b t;
      }

-- the same of a file that passes
pub passed_entry : (f : List ℕ) (b : Before) → Passed f b → (i : ℕ) → i < entries b.counts → Entered f b.counts i
passed_entry f b h i l = entered f b.counts h.holds h.spelt h.owned i l
