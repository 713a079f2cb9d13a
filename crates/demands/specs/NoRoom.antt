-- Worked examples: why demand 3 d asks for room. A trimmed surface (144) with no values, and no buffer: a list without 144 finds a
-- sheet, and no room for it, 16. A list with 144 refuses it for the surface that it doesn't name: 15, at its first D line. That is
-- neither the same answer, nor one at an earlier entry than a refusal's, since 16 is told of no entry.
use Rattle.std.specs.Prelude.{◌≡◌, refl, List, [], ◌∷◌, ◌++◌, ℕ, length}
use Rattle.columns.specs.Quoted.{codes}
use Rattle.columns.specs.Columns.{columns, printable, blank, same_bytes, joined, line_at, text_of as columns-text_of}
use Rattle.columns.specs.Decimal.{last_digits, dec, signed_dec, to_right}
use Rattle.columns.specs.First.{first_not, up_from}
use Rattle.columns.specs.Fixed.{digits_of, field_of, is_number, signed_of}
use Rattle.columns.specs.Refusal.{accepted, each_at}
use Rattle.columns.specs.Format.{most_list}
use Rattle.columns.specs.Letters.{tab, newline}
use Rattle.values.specs.Head.{head_of}
use Rattle.values.specs.Number.{power, power_at, number_of}
use Rattle.values.specs.Value.{spelled}
use Rattle.records.specs.Global.{may_delimit, opened, record_delimiter, opening_of, kind_of, in_range as records-in_range, global_fits}
use Rattle.records.specs.Record.{next_at, value_at, values_from, values_at, position_of, start_at}
use Rattle.references.specs.References.{class_of, class_at}
use Rattle.directory.specs.Fields.{entry_of as directory-entry_of}
use Rattle.directory.specs.Lines.{slots, slot_in, number_in, numbers_from, entry_at, label_at}
use Rattle.directory.specs.Rules.{status_ok, ranges_ok, entry_rules, reference_rule}
use Rattle.cards.specs.Cards.{lines_from, lines_of as cards-lines_of, line_ok, seven, place_of, numbered_of, step_of, pass, tells}
use Rattle.cards.specs.Cards.{totals, closes}
use Rattle.cards.specs.Cards.{closed as cards-closed, length_ok, cards_of}
use Rattle.owners.specs.InFile.{number_or0, size_or0, name_of, owner_in, from_in, count_in, owners_in}
use Rattle.owners.specs.Owners.{name_is, entry_owns, in_range as owners-in_range, line_owned, owners_of}
use Rattle.layouts.specs.Entities.{everywhere, verdict, entity_check, reference_places, marks}
use Rattle.layouts.specs.Fits.{places_of, asked}
use Rattle.layouts.specs.Known.{known}
use Rattle.layouts.specs.Layout.{paper, bit_of}
use Rattle.layouts.specs.Named.{named}
use Rattle.sheets.specs.Line.{spell, spells, entry_line}
use Rattle.sheets.specs.Sheet.{start_lines as sheets-start_lines, global_lines as sheets-global_lines, value_lines, row_lines}
use Rattle.sheets.specs.Sheet.{lines_of as sheets-lines_of, line_of as sheets-line_of, text_of as sheets-text_of, sheet_text}
use Rattle.model.specs.Model.{marked, row_of, sheet_of as model-sheet_of}
use Rattle.model.specs.Read.{starts_in, no_stray, given, global_in, entry_in, entries_in, references_in, entity_in, last_pass}
use Rattle.model.specs.Read.{before, read_model}
use Rattle.model.specs.Read.{reads}
use Rattle.desk.specs.Answers.{answer, answer_of}

abbrev line : List ℕ → List ℕ
line l = l ++ (newline ∷ [])

abbrev field : List ℕ → List ℕ
field l = tab ∷ l

abbrev pub surface : List ℕ
surface =
    line (codes "SET PIECE                                                               S0000001")
    ++ line (codes "1H,,1H;;                                                                G0000001")
    ++ line (codes "     144       1       0       0       0       0       0       001000000D0000001")
    ++ line (codes "     144       0       0       1       0                               0D0000002")
    ++ line (codes "144;                                                                   1P0000001")
    ++ line (codes "S0000001G0000001D0000002P0000001                                        T0000001")

-- its sheet, if no type is known
abbrev pub sheet : List ℕ
sheet =
    line (codes "S" ++ field (codes "SET PIECE"))
    ++ line (codes "U" ++ field (codes "1") ++ field (codes "144") ++ field (codes "0") ++ field (codes "0") ++ field (codes "0")
    ++ field (codes "0") ++ field (codes "0") ++ field (codes "0") ++ field (codes "0") ++ field (codes "01000000") ++ field (codes "0")
    ++ field (codes "0") ++ field (codes "0") ++ field (codes "        "))
    ++ line (codes "Z" ++ field (codes "1"))

-- under the list of no type it is read to that, for which there is no room; under the list of all types it is refused
pub no_room : (reads 0 surface ≡ accepted sheet) × (answer_of 0 (reads 0 surface) ≡ answer 16 0 (length sheet))
    × (answer_of 0 (reads most_list surface) ≡ answer 15 3 0)
unfolding columns printable blank same_bytes joined line_at columns-text_of last_digits dec signed_dec first_not up_from digits_of
    field_of is_number signed_of each_at head_of power power_at number_of spelled may_delimit opened record_delimiter opening_of
    kind_of records-in_range global_fits next_at value_at values_from values_at position_of start_at class_of class_at
    directory-entry_of slots slot_in number_in numbers_from entry_at label_at status_ok ranges_ok entry_rules reference_rule
    lines_from cards-lines_of line_ok seven place_of numbered_of step_of pass tells totals closes cards-closed length_ok cards_of
    number_or0 size_or0 name_of owner_in from_in count_in owners_in name_is entry_owns owners-in_range line_owned owners_of verdict
    entity_check marks known paper bit_of named spell spells entry_line sheets-start_lines sheets-global_lines value_lines row_lines
    sheets-lines_of sheets-line_of sheets-text_of sheet_text marked row_of model-sheet_of starts_in no_stray given global_in entry_in
    entries_in references_in entity_in last_pass before read_model reads to_right answer_of everywhere reference_places places_of
    asked
no_room = (refl, refl, refl)
