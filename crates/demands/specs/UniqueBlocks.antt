-- "Show that no second result fits", of the two functions that lay a part of the file and tell where the sheet goes on: what they lay, how
-- many lines it takes, and the lines of the sheet from there on are determined. The place itself is by those lines alone: where two places
-- have the same lines behind them, as in a last piece that no LF ends, either fits.
use Rattle.std.specs.Prelude.{◌≡◌, List, ℕ, drop}
use contract.Lifetimes.{Lfts}
use denote.Triple.Clauses.{Lasts, at_exit}
use borrow.Fn.Kind.{ParamKind, ResultKind}
use borrow.Fn.Kinds.{In, Out, Dens, res_t, ended_of}
use Rattle.sheets.specs.Sheet.{Line, lines_in}
use Rattle.file_blocks.specs.declared.Block.{Block}
use Rattle.file_globals.proofs.put_globals.Kinds as put-globals-kinds
use Rattle.file_globals.proofs.put_globals.Reads as put-globals-reads
use Rattle.file_parameters.proofs.put_block.Kinds as put-block-kinds
use Rattle.file_parameters.proofs.put_block.Reads as put-block-reads

-- the lines that stand behind a block
abbrev pub lines_behind : List ℕ → Block → List Line
lines_behind t b = lines_in (drop b.next t)

abbrev pub GlobalsDetermined : Type 0
GlobalsDetermined =
    (κs : Lfts 2) (a : Dens κs put-globals-kinds.ps) (z z' : Block)
    (left left' : Lasts (ended_of 2 put-globals-kinds.ps put-globals-kinds.r) κs a)
    → put-globals-reads.Post κs a z (at_exit (ended_of 2 put-globals-kinds.ps put-globals-kinds.r) κs a left)
    → put-globals-reads.Post κs a z' (at_exit (ended_of 2 put-globals-kinds.ps put-globals-kinds.r) κs a left')
    → (z.lines ≡ z'.lines) × (lines_behind a.1.1.0.now z ≡ lines_behind a.1.1.0.now z') × (left ≡ left')

abbrev pub BlockDetermined : Type 0
BlockDetermined =
    (κs : Lfts 2) (a : Dens κs put-block-kinds.ps) (z z' : Block)
    (left left' : Lasts (ended_of 2 put-block-kinds.ps put-block-kinds.r) κs a)
    → put-block-reads.Post κs a z (at_exit (ended_of 2 put-block-kinds.ps put-block-kinds.r) κs a left)
    → put-block-reads.Post κs a z' (at_exit (ended_of 2 put-block-kinds.ps put-block-kinds.r) κs a left')
    → (z.lines ≡ z'.lines) × (lines_behind a.1.1.0.now z ≡ lines_behind a.1.1.0.now z') × (left ≡ left')

-- arguments as a contract asks for, and two results as it promises
pub record SecondFits {n : ℕ} (ps : List (ParamKind n)) (r : ResultKind n) (Pre : In n ps) (Post : Out n ps r)
    (κs : Lfts n) : Type 0 where
  pub passed : Dens κs ps
  pub asked : Pre κs passed
  pub left : Lasts (ended_of n ps r) κs passed
  pub one : (res_t r κs).Denot
  pub other : (res_t r κs).Denot
  pub one-fits : Post κs passed one (at_exit (ended_of n ps r) κs passed left)
  pub other_fits : Post κs passed other (at_exit (ended_of n ps r) κs passed left)
  pub differ : one ≡ other → ⊥

abbrev pub SecondGlobals : Type 0
SecondGlobals = (κs : Lfts 2) → SecondFits put-globals-kinds.ps put-globals-kinds.r put-globals-reads.Pre put-globals-reads.Post κs

abbrev pub SecondBlock : Type 0
SecondBlock = (κs : Lfts 2) → SecondFits put-block-kinds.ps put-block-kinds.r put-block-reads.Pre put-block-reads.Post κs
