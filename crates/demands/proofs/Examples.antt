-- Small models that fit under every list: a start text alone, and one with two entries of a type that no list has. Assumes nothing.
use mathlib.Core.Path.{◌≡◌, refl, sym, ◌∙◌}
use mathlib.Core.Bool.{true, false, false≢true}
use mathlib.Core.List.{List, [], ◌∷◌}
use Prim.Native.Nat.{ℕ, ◌≤◌}
use native.Mathlib.Omega.{arith}
use lib.ListN.{replicate}
use Rattle.columns.specs.Columns.{printable}
use Rattle.columns.specs.Decimal.{dec, signed_dec, last_digits, to_left, to_right}
use Rattle.columns.specs.Format.{most_lines, most_list}
use Rattle.values.specs.Value.{Item, whole, fine_whole, spelled}
use Rattle.records.specs.Flow.{firm, gap, piece, flow, line_count, cut, in_lines}
use Rattle.records.specs.Record.{trimmed}
use Rattle.records.specs.Global.{canonical_opening}
use Rattle.directory.specs.Fields.{fields_of, nought, entry_of}
use Rattle.directory.specs.Lines.{entry_lines}
use Rattle.directory.specs.Rules.{status_ok, ranges_ok}
use Rattle.layouts.specs.Known.{known}
use Rattle.layouts.specs.Layout.{paper, bit_of}
use Rattle.sheets.specs.Line.{is_label}
use Rattle.sheets.specs.Sheet.{is_start}
use Rattle.sheets.specs.WellFormed.{Each, none, one, no_more, Proper, Numbered, Held}
use Rattle.model.specs.Model.{Carried, Model}
use Rattle.model.specs.Canonical.{start_lines, global_text, global_lines, parameter_text, block_of, directory_lines, parameter_lines, line_total}
use Rattle.model.specs.Fit.{EntryFits, Fits}

-- ---- a start text of one character

abbrev pub titled : ℕ → Model
titled b = record { starts = (b ∷ []) ∷ []; globals = []; entries = [] }

pub titled-fits : (list b : ℕ) → list ≤ most_list → is_start (b ∷ []) ≡ true → Fits list (titled b)
titled-fits list b l h = record {
  list_ok = l;
  some = (omega arith);
  starts = one h none;
  rising = no_more;
  globals = none;
  in_kind = none;
  entries = none;
  few = (omega arith);
}

pub titled_short : (b : ℕ) → line_total (titled b) ≤ most_lines
unfolding line_total start_lines global_lines global_text canonical_opening in_lines cut line_count directory_lines parameter_lines
titled_short b = omega arith

pub a-start : is_start (65 ∷ []) ≡ true
unfolding is_start printable
a-start = refl

pub b_start : is_start (66 ∷ []) ≡ true
unfolding is_start printable
b_start = refl

-- ---- two entries of type 0 with all numbers 0: the first has no values, the second has one

abbrev blanks : List ℕ
blanks = replicate 8 32

abbrev pub entry : List Item → Carried
entry vs = record { fields = fields_of []; label = blanks; values = vs }

abbrev pub paired : ℕ → Model
paired n = record { starts = (65 ∷ []) ∷ []; globals = []; entries = entry [] ∷ entry (whole false n ∷ []) ∷ [] }

nought_proper : Proper nought
nought_proper = record { small = (omega arith); minus = λ h k. false≢true h }

noughts : Numbered (fields_of [])
noughts = record {
  proper =
      one nought_proper (one nought_proper (one nought_proper (one nought_proper (one nought_proper (one nought_proper
      (one nought_proper (one nought_proper (one nought_proper (one nought_proper (one nought_proper (one nought_proper none)))))))))));
  digits = (omega arith);
  unsigned = refl;
}

noughts_ranged : ranges_ok (fields_of []) ≡ true
unfolding ranges_ok status_ok signed_dec dec last_digits
noughts_ranged = refl

blanks_label : is_label blanks ≡ true
unfolding is_label printable
blanks_label = refl

-- no list has the type
no_list : (list : ℕ) → known list 0 0 ≡ false
unfolding known bit_of paper
no_list list = refl

module _ (list : ℕ) (types : List ℕ) where
  entry-fits : (vs : List Item) → Each Held vs → trimmed vs ≡ vs → EntryFits list types (entry vs)
  unfolding entry_of
  entry-fits vs h t = record {
    numbers = noughts;
    ranges = noughts_ranged;
    no_macro = λ k. absurd (omega arith);
    label = blanks_label;
    references_fit = refl;
    values = h;
    last_is_given = t;
    layout = λ k. absurd (false≢true (sym (no_list list) ∙ k));
  }

pub paired-fits : (list n : ℕ) → list ≤ most_list → n ≤ 9 → Fits list (paired n)
paired-fits list n l h = record {
  list_ok = l;
  some = (omega arith);
  starts = one a-start none;
  rising = no_more;
  globals = none;
  in_kind = none;
  entries =
      one (entry-fits list (0 ∷ 0 ∷ []) [] none refl)
      (one (entry-fits list (0 ∷ 0 ∷ []) (whole false n ∷ []) (one (record { fine = fine_whole false n (omega arith) (λ z. refl); printed = tt }) none) refl) none);
  few = (omega arith);
}

pub paired-lines : line_total (paired 1) ≡ 9
unfolding line_total start_lines global_lines global_text canonical_opening in_lines cut line_count directory_lines parameter_lines entry_lines block_of parameter_text flow piece gap firm spelled dec last_digits to_right to_left
paired-lines = refl

pub paired_lines' : line_total (paired 2) ≡ 9
unfolding line_total start_lines global_lines global_text canonical_opening in_lines cut line_count directory_lines parameter_lines entry_lines block_of parameter_text flow piece gap firm spelled dec last_digits to_right to_left
paired_lines' = refl
