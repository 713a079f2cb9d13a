-- `owners_pass::owners`: the first entry that fails, or else the first line; either is small, since a file has at most so many lines.
use borrow.Author.Rules.{rules}
use Rattle.owners.proofs.Laws.{answers, owners_small}
use Rattle.owners.specs.declared.Owned.TheVariants.{Entry, Line}
use Rattle.owners_pass.proofs.owners.Goals as goal

pub wide-n-requires : goal.wide-n-requires
wide-n-requires c = search (rules, answers)

pub first_entry-i-requires : goal.first_entry-i-requires
first_entry-i-requires c = search (rules, answers)

pub entry_number-requires : goal.entry_number-requires
entry_number-requires c = search (rules, answers)

pub returns-then-i-n : goal.returns-then-i-n
returns-then-i-n c = record {
  value = search (rules, answers);
  small = owners_small c.args.file.now c.args.c (Entry c.entry_number.result) (search rules) (search (rules, answers));
}

pub first_line-k-requires : goal.first_line-k-requires
first_line-k-requires c = search (rules, answers)

pub returns-then-k-c : goal.returns-then-k-c
returns-then-k-c c = record {
  value = search (rules, answers);
  small = owners_small c.args.file.now c.args.c (Line c.first_line-k.result) (search rules) (search (rules, answers));
}

pub returns : goal.returns
returns c = record {
  value = search (rules, answers);
  small = tt;
}
