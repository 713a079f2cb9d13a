-- `put_globals` and `put_block` determine what they lay and the lines behind it, and not the place of those lines. Assumes nothing.
use mathlib.Core.Path.{◌≡◌, refl, sym, ap}
use mathlib.Core.List.{List, [], ◌∷◌}
use Prim.Native.Nat.{ℕ, suc}
use native.Mathlib.Omega.{arith}
use lib.ListN.{length}
use Rattle.columns.specs.Laid.{laid}
use Rattle.columns.specs.Decimal.{dec, last_digits}
use Rattle.values.specs.Value.{spelled}
use Rattle.records.specs.Flow.{line_count, flow, piece, gap, firm}
use Rattle.records.specs.Global.{canonical_opening}
use Rattle.sheets.specs.Sheet.{is_mark, into, pieces_of, last_piece, said_by_all, lines_in}
use Rattle.model.specs.Canonical.{global_text}
use Rattle.sheets_rows.specs.Rows.{values_first}
use Rattle.file_blocks.specs.declared.Block.{Block}
use Rattle.file_blocks.specs.Blocks.{globals_first, behind_globals, behind_values, Unbroken, items_first, record_text}
use Rattle.demands.specs.UniqueBlocks.{GlobalsDetermined, BlockDetermined, SecondGlobals, SecondBlock}
use Rattle.demands.proofs.Unique.{once, left_first}

pub globals_determined : GlobalsDetermined
globals_determined κs a z z' left left' p q = (once p.1.0 q.1.0, once p.1.1.0 q.1.1.0, left_first left.1 p.0 q.0)

pub block_determined : BlockDetermined
block_determined κs a z z' left left' p q = (once p.1.0 q.1.0, once p.1.1.0 q.1.1.0, left_first left.1 p.0 q.0)

-- ---- of a piece of two bytes that no LF ends, either byte begins the same lines

abbrev two_bytes : List ℕ
two_bytes = 120 ∷ (120 ∷ [])

-- nothing is laid over an empty buffer
none-laid : (at : ℕ) (bs : List ℕ) → [] ≡ laid [] at bs
unfolding laid
none-laid at [] = refl
none-laid at (b ∷ bs) = none-laid (suc at) bs

opening_short : (length (global_text (globals_first (lines_in two_bytes))) ≡ 8) × (line_count 72 (length (global_text (globals_first (lines_in two_bytes)))) ≡ 1)
unfolding global_text globals_first lines_in said_by_all pieces_of into last_piece is_mark canonical_opening line_count
opening_short = (refl, refl)

behind_same : (behind_globals (lines_in two_bytes) ≡ lines_in two_bytes) × (behind_globals (lines_in two_bytes) ≡ lines_in (120 ∷ []))
unfolding behind_globals lines_in said_by_all pieces_of into last_piece is_mark
behind_same = (refl, refl)

values_same : (behind_values (lines_in two_bytes) ≡ lines_in two_bytes) × (behind_values (lines_in two_bytes) ≡ lines_in (120 ∷ []))
unfolding behind_values lines_in said_by_all pieces_of into last_piece is_mark
values_same = (refl, refl)

-- it begins as no value line does
values_unbroken : Unbroken (lines_in two_bytes)
unfolding behind_values lines_in said_by_all pieces_of into last_piece is_mark
values_unbroken = refl

-- the record of type 1 is "1;"
record_short : (length (record_text 1 (items_first (lines_in two_bytes))) ≡ 2) × (line_count 64 (length (record_text 1 (items_first (lines_in two_bytes)))) ≡ 1)
unfolding dec last_digits flow piece gap firm spelled values_first lines_in said_by_all pieces_of into last_piece is_mark line_count
record_short = (refl, refl)

abbrev block_at : ℕ → Block
block_at n = record { next = n; lines = 1 }

apart : block_at 0 ≡ block_at 1 → ⊥
apart e = let z : ◌≡◌ {A = ℕ} 0 1 = ap (λ (b : Block). b.next) e in omega arith

pub second_globals : SecondGlobals
second_globals κs = record {
  passed = (record { ref_ptr = (0, 0); ghost_name = 0; now = [] }, (0, (record { ref_ptr = (0, 0); now = two_bytes }, (0, tt))));
  asked = (omega arith, (omega arith, (omega (arith, opening_short.0), omega (arith, opening_short.1))));
  left = ([], (tt, (tt, (tt, tt))));
  one = block_at 0;
  other = block_at 1;
  one-fits = (none-laid _ _, (sym opening_short.1, (sym behind_same.0, (omega arith, omega arith))));
  other_fits = (none-laid _ _, (sym opening_short.1, (sym behind_same.1, (omega arith, omega arith))));
  differ = apart;
}

pub second_block : SecondBlock
second_block κs = record {
  passed = (record { ref_ptr = (0, 0); ghost_name = 0; now = [] }, (0, (record { ref_ptr = (0, 0); now = two_bytes }, (0, (1, (record { 0 = 1 }, (record { 0 = 1 }, tt)))))));
  asked = record {
    inside = omega arith;
    low = omega arith;
    small = omega arith;
    room = omega (arith, record_short.0);
    numbered = omega arith;
    few = omega (arith, record_short.1);
    unbroken = values_unbroken;
  };
  left = ([], (tt, (tt, (tt, (tt, (tt, (tt, tt)))))));
  one = block_at 0;
  other = block_at 1;
  one-fits = (none-laid _ _, (sym record_short.1, (sym values_same.0, (omega arith, omega arith))));
  other_fits = (none-laid _ _, (sym record_short.1, (sym values_same.1, (omega arith, omega arith))));
  differ = apart;
}
