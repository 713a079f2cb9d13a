-- Reading and writing keep demand 2, and whoever keeps it reads and writes as they do. Assumes nothing.
use mathlib.Core.Path.{◌≡◌, ap, ◌∙◌}
use Rattle.columns.specs.Refusal.{accepted}
use Rattle.model.specs.Canonical.{canonical}
use Rattle.desk.specs.Demands.{described}
use Rattle.desk.specs.Content.{model_of, sheet_by}
use Rattle.desk.proofs.Exactly.{exactly_the_rules}
use Rattle.desk.proofs.Content.{reads_content, reads-sheet, exactly_the_sheet}
use Rattle.demands.specs.Demand.{Kept, OneReader, OneWriter, NothingLeftOut}
use Rattle.demands.proofs.FromFile.{read_fits}
use Rattle.demands.proofs.Described.{one_told}
use Rattle.demands.proofs.ThereAndBack.{read-writes, written-reads, sheets_exactly}

pub kept : Kept
kept = record {
  content = reads-sheet;
  rest = record {
    files = exactly_the_rules;
    there_and_back = λ list f s h l. let w = read-writes list f s h l in (canonical (described s), (w, written-reads list s (canonical (described s)) w));
    exactly = sheets_exactly;
  };
}

pub one_reader : OneReader
one_reader rd wr h list f s = (
  λ e.
      let r = (h.rest.files list f).0 (s, e) in
      let a : rd list f ≡ accepted (sheet_by r) = h.content list f r in
      let z : sheet_by r ≡ s = cc in
      reads-sheet list f r ∙ ap accepted z,
  λ e. let x = (exactly_the_sheet list f s).0 e in h.content list f x.0 ∙ ap accepted x.1,
)

pub one_writer : OneWriter
one_writer rd wr h list s g = (
  λ e. let k = (h.rest.exactly list s g).0 e in (sheets_exactly list s g).1 (k.0, (k.1.0, (one_reader rd wr h list g s).0 k.1.1)),
  λ e. let k = (sheets_exactly list s g).0 e in (h.rest.exactly list s g).1 (k.0, (k.1.0, (one_reader rd wr h list g s).1 k.1.1)),
)

pub nothing_left_out : NothingLeftOut
nothing_left_out rd wr h list f g r q same =
    let a : rd list f ≡ accepted (sheet_by r) = h.content list f r in
    let b : rd list g ≡ accepted (sheet_by q) = h.content list g q in
    let e : sheet_by r ≡ sheet_by q = cc in
    one_told list (model_of r) (model_of q) (read_fits list f (model_of r) (reads_content list f r)) (read_fits list g (model_of q) (reads_content list g q)) e
