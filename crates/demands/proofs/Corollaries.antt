-- What follows from the demands. Assumes nothing.
use mathlib.Core.Path.{◌≡◌, sym, ap, ◌∙◌}
use Rattle.columns.specs.Refusal.{Outcome, accepted}
use Rattle.model.specs.Model.{Model}
use Rattle.model.specs.Read.{reads}
use Rattle.model.specs.Write.{write_model, writes}
use Rattle.demands.specs.Corollaries.{CanonicalRead, ModelKept, OneModel, OneSheet, ReadsBack, WrittenAgain, OneModelInAll, IntegersIn, IntegerKept}
use Rattle.demands_back.proofs.Whole.{back}
use Rattle.demands.proofs.FromFile.{read_fits}
use Rattle.demands.proofs.ToSheet.{fits-writes}
use Rattle.demands.proofs.ThereAndBack.{read-to, tells-model, written-reads}

pub one-model : OneModel
one-model list f g s p q =
    let a = read-to list f s p in
    let b = read-to list g s q in
    (a.model, (a.read, b.read ∙ ap accepted (sym (tells-model list g s b) ∙ tells-model list f s a)))

-- the file's side: no order of checks gets in the way of a model that fits
pub canonical-read : CanonicalRead
canonical-read = back

pub model-kept : ModelKept
model-kept list f m h l = back list m (read_fits list f m h) l

pub written_back : ReadsBack
written_back = written-reads

pub one-sheet : OneSheet
one-sheet list s t g p q =
    let a : reads list g ≡ accepted s = written-reads list s g p in
    let b : reads list g ≡ accepted t = written-reads list t g q in
    cc

pub written_again : WrittenAgain
written_again list s g u h r =
    let a : reads list g ≡ accepted s = written-reads list s g h in
    let e : s ≡ u = cc in
    ap (writes list) (sym e) ∙ h

-- ---- what a file carries is carried all the way

pub one_model_in_all : OneModelInAll
one_model_in_all list f s h =
    let a = read-to list f s h in (
      a.model,
      record {
        file = a.read;
        sheet = ap (write_model list) (sym a.text) ∙ fits-writes list a.model a.fits;
        written = λ g w.
            let b = read-to list g s (written-reads list s g w) in
            b.read ∙ ap accepted (sym (tells-model list g s b) ∙ tells-model list f s a);
      },
    )

kept : {told : Outcome Model} {m : Model} → told ≡ accepted m → IntegersIn told m
kept {m = m} e = record { model = m; is-told = e; values = λ i j neg size h. h; fields = λ n neg size h. h }

pub integer-kept : IntegerKept
integer-kept list f s m h r =
    let a = one_model_in_all list f s h in
    let b = a.1.file in
    let e : a.0 ≡ m = cc in
    (kept (a.1.sheet ∙ ap accepted e), λ g w. kept (a.1.written g w ∙ ap accepted e))
