-- The entries of a canonical file are read back from their D lines, and their references pass. Assumes nothing.
use mathlib.Core.Path.{◌≡◌, refl, ap, ◌∙◌}
use mathlib.Core.List.{List, [], ◌∷◌, ◌++◌, map, append_assoc}
use Prim.Native.Nat.{ℕ, ◌+◌, ◌*◌, ◌/◌, ◌≤◌}
use native.Mathlib.Omega.{arith}
use lib.ListN.{length, get_or}
use Rattle.columns.specs.declared.Fault.TheVariants.{Reference}
use Rattle.columns.specs.Columns.{line_at}
use Rattle.columns.specs.First.{up_from}
use Rattle.columns.specs.Refusal.{accepted}
use Rattle.columns.specs.Format.{most_lines}
use Rattle.columns.proofs.Outcomes.{demand_true}
use Rattle.cards.specs.declared.Counts.{Counts}
use Rattle.cards.specs.Cards.{total, entry_line}
use Rattle.cards.specs.Written.{Bodies, line_of, counts_of, file_of, zeros}
use Rattle.cards.proofs.Round.{d-line}
use Rattle.std.specs.Prelude.{Some}
use Rattle.directory.specs.Fields.{entry_of}
use Rattle.directory.specs.Lines.{parameter_line, entry_at, label_at, spelt_entry}
use Rattle.directory.specs.Rules.{references, all_fit, reference_rule}
use Rattle.directory.proofs.Ruled.{rules_pass_lem}
use Rattle.directory.specs.Reading.{first_line, second_line, Writable}
use Rattle.directory.proofs.Round.{entry_read, label_read}
use Rattle.sheets.specs.WellFormed.{Each, none, one}
use Rattle.model.specs.Model.{Carried, type_of, types_of}
use Rattle.model.specs.Fit.{EntryFits}
use Rattle.model.specs.Read.{Listed, entry_in, two, first_entry, entries_in, listed_type, references_of, references_in}
use Rattle.demands_back.proofs.Fitting.{writable}
use Rattle.demands_back.proofs.Places.{count_of, count_some, Placed, placed_small, Laid, laid_none, laid_one, laid-length}
use Rattle.demands_back.proofs.EachAt.{Makes, makes_none, makes_one, each_made}

-- ---- an entry that fits

-- its references pass
references-pass : (list : ℕ) (types : List ℕ) (e : Carried) → EntryFits list types e → (place : ℕ) → reference_rule types e.fields place ≡ accepted tt
unfolding reference_rule
references-pass list types e h place = demand_true (all_fit types (references (entry_of e.fields))) Reference place h.references_fit

-- ---- the entries as their D lines tell them

-- an entry whose first P line is line `from`
abbrev pub listed : ℕ → Carried → Listed
listed from e = record { fields = e.fields; label = e.label; pointer = from; lines = count_of e }

-- entries whose blocks follow each other from line `from` on
unfoldable pub listed_from : ℕ → List Carried → List Listed
listed_from from [] = []
listed_from from (e ∷ es) = listed from e ∷ listed_from (from + count_of e) es

pub listed-types : (from : ℕ) (es : List Carried) → map listed_type (listed_from from es) ≡ types_of es
unfolding listed_from
listed-types from [] = refl
listed-types from (e ∷ es) = ap (λ (ts : List ℕ). type_of e.fields ∷ ts) (listed-types (from + count_of e) es)

-- ---- in the file

-- a line is its columns and what stands behind them
line-parts : (x : List ℕ) (b n : ℕ) → line_of x b n ≡ x ++ ((b ∷ zeros n) ++ (10 ∷ []))
unfolding line_of
line-parts x b n = append_assoc x (b ∷ zeros n) (10 ∷ [])

module _ (S G D P : List (List ℕ)) (bs : Bodies S) (bg : Bodies G) (bd : Bodies D) (bp : Bodies P) (few : total (counts_of S G D P) ≤ most_lines) where
  abbrev F : List ℕ
  F = file_of S G D P

  abbrev C : Counts
  C = counts_of S G D P

  module _ (list : ℕ) (types : List ℕ) (i from : ℕ) (e : Carried) (at : Placed D P i from e) (fit : EntryFits list types e) where
    -- its numbers, its pointer and its line count fit their columns
    written : Writable e.fields from (count_of e) e.label
    written =
        let (a, b) : (from ≤ length P) × (count_of e ≤ length P) = placed_small D P i from e at in
        writable list types e fit from (count_of e) at.low (omega arith) (count_some e) (omega arith)

    first_stands : line_at F (entry_line C i) ≡ first_line e.fields from ++ ((68 ∷ zeros (2 * i + 1)) ++ (10 ∷ []))
    first_stands =
        d-line S G D P bs bg bd bp few (2 * i) (omega (arith, at.among)) ∙ line-parts (get_or D (2 * i) []) 68 (2 * i + 1)
        ∙ ap (λ (x : List ℕ). x ++ ((68 ∷ zeros (2 * i + 1)) ++ (10 ∷ []))) at.first

    second_stands : line_at F (entry_line C i + 1) ≡ second_line e.fields (count_of e) e.label ++ ((68 ∷ zeros (2 * i + 1 + 1)) ++ (10 ∷ []))
    second_stands =
        let k : length S + length G + 2 * i + 1 ≡ length S + length G + (2 * i + 1) = omega arith in
        rw k (d-line S G D P bs bg bd bp few (2 * i + 1) at.among ∙ line-parts (get_or D (2 * i + 1) []) 68 (2 * i + 1 + 1)
        ∙ ap (λ (x : List ℕ). x ++ ((68 ∷ zeros (2 * i + 1 + 1)) ++ (10 ∷ []))) at.second)

    -- its D lines spell it
    pub entry-spelt : entry_at F (entry_line C i) ≡ Some (spelt_entry e.fields (parameter_line from) (count_of e))
    entry-spelt = entry_read e.fields from (count_of e) e.label written F (entry_line C i) _ _ first_stands second_stands

    entry_label : label_at F (entry_line C i) ≡ e.label
    entry_label = label_read e.fields from (count_of e) e.label written F (entry_line C i) _ _ first_stands second_stands

    -- and are read as it
    entry_in_lem : (place : ℕ) → entry_in F place (entry_line C i) ≡ accepted (listed from e)
    unfolding entry_in
    entry_in_lem place = rw (entry-spelt, entry_label, rules_pass_lem e.fields fit.ranges fit.no_macro place)

  entries_made : (list : ℕ) (types : List ℕ) {i from : ℕ} {es : List Carried} → Laid D P i from es → Each (EntryFits list types) es
      → Makes (entry_in F) (map (entry_line C) (up_from i (length es))) (listed_from from es)
  unfolding up_from listed_from
  entries_made list types (laid_none a b) none = makes_none
  entries_made list types (laid_one {i} {from} {e} at more) (one fit fits) = makes_one (entry_in_lem list types i from e at fit) (entries_made list types more fits)

  -- the entries are read back
  pub entries_back : (list : ℕ) (types : List ℕ) (es : List Carried) → Laid D P 0 1 es → Each (EntryFits list types) es → entries_in F C ≡ accepted (listed_from 1 es)
  unfolding entries_in
  entries_back list types es l fits =
      let n : length D / 2 ≡ length es = omega (arith, laid-length D P l) in
      rw n (each_made two (entry_in F) (entries_made list types l fits) (first_entry C))

-- ---- their references

-- nothing is made of each
abbrev pub noted : Listed → Unit {0}
noted e = tt

references_made : (list : ℕ) (types : List ℕ) (from : ℕ) {es : List Carried} → Each (EntryFits list types) es → Makes (references_of types) (listed_from from es) (map noted (listed_from from es))
unfolding listed_from
references_made list types from none = makes_none
references_made list types from (one {x} fit fits) = makes_one (references-pass list types x fit) (references_made list types (from + count_of x) fits)

-- the references pass
pub references_back : (list : ℕ) (c : Counts) (from : ℕ) (es : List Carried) → Each (EntryFits list (types_of es)) es → references_in c (listed_from from es) ≡ accepted (map noted (listed_from from es))
unfolding references_in
references_back list c from es fits = rw (listed-types from es) (each_made two (references_of (types_of es)) (references_made list (types_of es) from fits) (first_entry c))
