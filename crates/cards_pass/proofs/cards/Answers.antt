use borrow.Author.Rules.{rules}
use mathlib.Core.Path.{◌≡◌}
use Rattle.columns.proofs.Outcomes.{mapped_ok}
use Rattle.cards.proofs.Growth.{known}
use Rattle.cards.proofs.Laws.{files}
use Rattle.std.specs.Prelude.{Ok}
use Rattle.cards_pass.proofs.cards.Goals as goal

pub returns-then-not-length_ok : goal.returns-then-not-length_ok
returns-then-not-length_ok c = record {
  value = search (rules, files);
  known = tt;
}

pub returns-then-closes_at : goal.returns-then-closes_at
returns-then-closes_at c = record {
  value = search (rules, files);
  known = known c.args.file.now (Ok c.loop-k.c) (search (rules, files));
}

pub returns : goal.returns
returns c = record {
  value = search (rules, files);
  known = tt;
}

pub loop-k-init : goal.loop-k-init
loop-k-init c = search (rules, files)

pub returns-in_err-c-clause-value : goal.returns-in_err-c-clause-value
returns-in_err-c-clause-value c = search (rules, files)

pub loop-k-preserved : goal.loop-k-preserved
loop-k-preserved c =
    let e : c.step_line.result ≡ Ok c.in_ok-c.c = mapped_ok _ _ _ _ c.map_err.ensures.cases c.map_err.ensures.variant c.in_ok-c.was in
    search (rules, files)
