-- The numbers of the entry are xs; the other fields are read here.
use borrow.Author.Rules.{rules}
use Rattle.directory.proofs.Within.{small_read}
use Rattle.directory_read.proofs.Spelt.{entries}
use Rattle.directory_read.proofs.with_pointer.Goals as goal

pub signed_in-again-requires : goal.signed_in-again-requires
signed_in-again-requires c = search (rules, entries)

pub signed_in-from-requires : goal.signed_in-from-requires
signed_in-from-requires c = search (rules, entries)

pub signed_in-count-requires : goal.signed_in-count-requires
signed_in-count-requires c = search (rules, entries)

pub fields_of-requires : goal.fields_of-requires
fields_of-requires c = search (rules, entries)

pub spelt_as-requires : goal.spelt_as-requires
spelt_as-requires c = search (rules, entries)

pub returns : goal.returns
returns c =
    let c0 = c.before.before.before.before.before.before in
    record { value = search (rules, entries); small = small_read c0.args.file.now c0.args.k c.spelt_as.result (search (rules, entries)) }
