-- Worked examples: that of document 01, both ways: the file of a chair's pin in canonical form, and its sheet of 107 bytes.
use Rattle.std.specs.Prelude.{◌≡◌, refl, List, [], ◌∷◌, ◌++◌, ℕ, length}
use Rattle.columns.specs.Quoted.{codes}
use Rattle.columns.specs.Refusal.{accepted}
use Rattle.columns.specs.Columns.{columns, printable, blank, same_bytes, joined, line_at, text_of as columns-text_of}
use Rattle.columns.specs.Decimal.{last_digits, dec, signed_dec, to_right, to_left}
use Rattle.columns.specs.First.{first_not, up_from}
use Rattle.columns.specs.Fixed.{digits_of, field_of, is_number, signed_of}
use Rattle.columns.specs.Refusal.{each_at}
use Rattle.columns.specs.Format.{most_list}
use Rattle.values.specs.Head.{head_of}
use Rattle.values.specs.Number.{power, power_at, number_of}
use Rattle.values.specs.Strict.{strict_of}
use Rattle.values.specs.Value.{spelled}
use Rattle.records.specs.Flow.{firm, gap, piece, flow, line_count, cut, in_lines}
use Rattle.records.specs.Global.{may_delimit, opened, record_delimiter, opening_of, canonical_opening, kind_of}
use Rattle.records.specs.Global.{in_range as records-in_range}
use Rattle.records.specs.Global.{global_fits}
use Rattle.records.specs.Record.{next_at, value_at, values_from, values_at, position_of, start_at}
use Rattle.references.specs.References.{class_of, class_at}
use Rattle.directory.specs.Fields.{entry_of as directory-entry_of}
use Rattle.directory.specs.Lines.{slots, slot_in, number_in, numbers_from, entry_at, label_at, entry_lines}
use Rattle.directory.specs.Rules.{status_ok, ranges_ok, entry_rules, reference_rule}
use Rattle.cards.specs.Cards.{lines_from, lines_of as cards-lines_of, line_ok, seven, place_of, numbered_of, step_of, pass, tells}
use Rattle.cards.specs.Cards.{totals, closes}
use Rattle.cards.specs.Cards.{closed as cards-closed, length_ok, cards_of}
use Rattle.cards.specs.Written.{zeros, line_of as cards-line_of, section, totals_of, file_lines, file_of}
use Rattle.owners.specs.InFile.{number_or0, size_or0, name_of, owner_in, from_in, count_in, owners_in}
use Rattle.owners.specs.Owners.{name_is, entry_owns, in_range as owners-in_range, line_owned, owners_of}
use Rattle.layouts.specs.Entities.{everywhere, verdict, entity_check, reference_places, marks}
use Rattle.layouts.specs.Fits.{places_of, asked}
use Rattle.layouts.specs.Known.{known}
use Rattle.layouts.specs.Layout.{paper, bit_of}
use Rattle.layouts.specs.Named.{named}
use Rattle.sheets.specs.Line.{run as sheets-run, is_label, is_entry_number, entry_number, numbers_of, entry_of as sheets-entry_of}
use Rattle.sheets.specs.Line.{label_of, spell}
use Rattle.sheets.specs.Line.{spells, entry_line}
use Rattle.sheets.specs.Order.{closed as sheets-closed, start_step, global_step, entry_step, value_step, last_step, none_step}
use Rattle.sheets.specs.Order.{finish as sheets-finish, go_lines, verdict_of, read_sheet}
use Rattle.sheets.specs.Plain.{is_plain, is_signed, signed_number, all_digits, is_status, status_number}
use Rattle.sheets.specs.Sheet.{start_lines as sheets-start_lines, global_lines as sheets-global_lines, value_lines, row_lines}
use Rattle.sheets.specs.Sheet.{lines_of as sheets-lines_of, line_of as sheets-line_of, text_of as sheets-text_of, sheet_text}
use Rattle.sheets.specs.Sheet.{is_mark, is_start}
use Rattle.sheets.specs.Sheet.{start_line, is_field_number, is_numbered, global_line, last_line, by_mark, says_of, said_by, into, pieces_of}
use Rattle.sheets.specs.Sheet.{last_piece, said_by_all, lines_in, parts_of, sheet_of as sheets-sheet_of}
use Rattle.model.specs.Canonical.{start_lines as model-start_lines, filled, global_text, global_lines as model-global_lines, parameter_text}
use Rattle.model.specs.Canonical.{block_of, directory_lines, parameter_lines, line_total, canonical}
use Rattle.model.specs.Model.{marked, row_of, sheet_of as model-sheet_of, model_of}
use Rattle.model.specs.Read.{starts_in, no_stray, given, global_in, entry_in, entries_in, references_in, entity_in, last_pass}
use Rattle.model.specs.Read.{before, read_model}
use Rattle.model.specs.Read.{reads}
use Rattle.model.specs.Write.{sheet_rules, write_model, writes}

-- a line ends in LF; fields are parted by tabs
abbrev line : List ℕ → List ℕ
line l = l ++ (10 ∷ [])

abbrev field : List ℕ → List ℕ
field l = 9 ∷ l

-- the file in canonical form
abbrev pub file : List ℕ
file =
    line (codes "SET PIECE                                                               S0000001")
    ++ line (codes "1H,,1H;,5HCHAIR,7Hset.igs;                                              G0000001")
    ++ line (codes "     116       1       0       0       0       0       0       001000000D0000001")
    ++ line (codes "     116       0       0       1       0                   PIN01       0D0000002")
    ++ line (codes "116,15.E-1,0.,2.;                                                      1P0000001")
    ++ line (codes "S0000001G0000001D0000002P0000001                                        T0000001")

-- the sheet that igsheet prints
abbrev pub sheet : List ℕ
sheet =
    line (codes "S" ++ field (codes "SET PIECE"))
    ++ line (codes "G" ++ field (codes "3") ++ field (codes "5HCHAIR"))
    ++ line (codes "G" ++ field (codes "4") ++ field (codes "7Hset.igs"))
    ++ line (codes "E" ++ field (codes "1") ++ field (codes "116") ++ field (codes "0") ++ field (codes "0") ++ field (codes "0")
    ++ field (codes "0") ++ field (codes "0") ++ field (codes "0") ++ field (codes "0") ++ field (codes "01000000") ++ field (codes "0")
    ++ field (codes "0") ++ field (codes "0") ++ field (codes "   PIN01"))
    ++ line (codes "V" ++ field (codes "15.E-1"))
    ++ line (codes "V" ++ field (codes "0."))
    ++ line (codes "V" ++ field (codes "2."))
    ++ line (codes "Z" ++ field (codes "1"))

-- it has 107 bytes
pub sheet-length : length sheet ≡ 107
sheet-length = refl

-- the file is read to the sheet
pub read-chair : reads most_list file ≡ accepted sheet
unfolding columns printable blank same_bytes joined line_at columns-text_of last_digits dec signed_dec to_right to_left first_not
    up_from digits_of field_of is_number signed_of each_at head_of power power_at number_of strict_of spelled firm gap piece flow
    line_count cut in_lines may_delimit opened record_delimiter opening_of canonical_opening kind_of records-in_range global_fits
    next_at value_at values_from values_at position_of start_at class_of class_at directory-entry_of slots slot_in number_in
    numbers_from entry_at label_at entry_lines status_ok ranges_ok entry_rules reference_rule lines_from cards-lines_of line_ok
    seven place_of numbered_of step_of pass tells totals closes cards-closed length_ok cards_of zeros cards-line_of section
    totals_of file_lines file_of number_or0 size_or0 name_of owner_in from_in count_in owners_in name_is entry_owns owners-in_range
    line_owned owners_of verdict entity_check marks known paper bit_of named sheets-run is_label is_entry_number entry_number
    numbers_of sheets-entry_of label_of spell spells entry_line sheets-closed start_step global_step entry_step value_step
    last_step none_step sheets-finish go_lines verdict_of read_sheet is_plain is_signed signed_number all_digits is_status
    status_number sheets-start_lines sheets-global_lines value_lines row_lines sheets-lines_of sheets-line_of sheets-text_of sheet_text
    is_mark is_start start_line is_field_number is_numbered global_line last_line by_mark says_of said_by into pieces_of
    last_piece said_by_all lines_in parts_of sheets-sheet_of model-start_lines filled global_text model-global_lines parameter_text
    block_of directory_lines parameter_lines line_total canonical marked row_of model-sheet_of model_of starts_in no_stray given
    global_in entry_in entries_in references_in entity_in last_pass before read_model reads sheet_rules write_model writes
    everywhere reference_places places_of asked
read-chair = refl

-- the sheet is written to the file
pub written-chair : writes most_list sheet ≡ accepted file
unfolding columns printable blank same_bytes joined line_at columns-text_of last_digits dec signed_dec to_right to_left first_not
    up_from digits_of field_of is_number signed_of each_at head_of power power_at number_of strict_of spelled firm gap piece flow
    line_count cut in_lines may_delimit opened record_delimiter opening_of canonical_opening kind_of records-in_range global_fits
    next_at value_at values_from values_at position_of start_at class_of class_at directory-entry_of slots slot_in number_in
    numbers_from entry_at label_at entry_lines status_ok ranges_ok entry_rules reference_rule lines_from cards-lines_of line_ok
    seven place_of numbered_of step_of pass tells totals closes cards-closed length_ok cards_of zeros cards-line_of section
    totals_of file_lines file_of number_or0 size_or0 name_of owner_in from_in count_in owners_in name_is entry_owns owners-in_range
    line_owned owners_of verdict entity_check marks known paper bit_of named sheets-run is_label is_entry_number entry_number
    numbers_of sheets-entry_of label_of spell spells entry_line sheets-closed start_step global_step entry_step value_step
    last_step none_step sheets-finish go_lines verdict_of read_sheet is_plain is_signed signed_number all_digits is_status
    status_number sheets-start_lines sheets-global_lines value_lines row_lines sheets-lines_of sheets-line_of sheets-text_of sheet_text
    is_mark is_start start_line is_field_number is_numbered global_line last_line by_mark says_of said_by into pieces_of
    last_piece said_by_all lines_in parts_of sheets-sheet_of model-start_lines filled global_text model-global_lines parameter_text
    block_of directory_lines parameter_lines line_total canonical marked row_of model-sheet_of model_of starts_in no_stray given
    global_in entry_in entries_in references_in entity_in last_pass before read_model reads sheet_rules write_model writes
    everywhere reference_places places_of asked
written-chair = refl
