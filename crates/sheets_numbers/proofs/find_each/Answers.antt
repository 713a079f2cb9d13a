use Rattle.std.proofs.Common.{◌+◌, eqb, ap, arith, rules, tests}
use Rattle.std.proofs.lemmas.Iterator.{YieldsList-from_slice}
use Rattle.std.proofs.lemmas.Iterator.Search.{position_from_yields_List}
use Rattle.columns.specs.Columns.{columns}
use Rattle.columns.proofs.Columns.{length-columns}
use Rattle.sheets.proofs.Plains.{run_found, run_none}
use Rattle.sheets_numbers.proofs.find_each.Goals as goal

pub returns-in-Some-clause-value : goal.returns-in-Some-clause-value
unfolding columns
returns-in-Some-clause-value c =
    let s = columns c.args.s.now c.args.at c.args.end in
    ap (λ k. c.args.at + k)
    (run_found c.args.c s c.in-Some.k
    (position_from_yields_List (λ b. eqb b c.args.c) _ _ _ c.in-Some.ensures.ran (YieldsList-from_slice s cc) (λ x b q k. search (rules, tests))))

pub returns-in-None-clause-value : goal.returns-in-None-clause-value
unfolding columns
returns-in-None-clause-value c =
    let s = columns c.args.s.now c.args.at c.args.end in
    let e =
    run_none c.args.c s
    (position_from_yields_List (λ b. eqb b c.args.c) _ _ _ c.in-None.ensures.ran (YieldsList-from_slice s cc) (λ x b q k. search (rules, tests))) in
    omega (arith, e, length-columns c.args.s.now c.args.at c.args.end c.requires.at_le_end c.requires.end_in_bounds)
