-- `values_read::power_of`: a sign and digits are scanned as the definition has them; an exponent is too short for the cap to be felt.
use borrow.Author.Rules.{rules}
use Rattle.values.proofs.Steps.{powers}
use Rattle.values_read.proofs.power_of.Goals as goal

pub byte_at-s-requires : goal.byte_at-s-requires
byte_at-s-requires c = search (rules, powers)

pub sign_len-k-requires : goal.sign_len-k-requires
sign_len-k-requires c = search (rules, powers)

pub overflow_add-i : goal.overflow_add-i
overflow_add-i c = search (rules, powers)

pub scan_at-x-requires : goal.scan_at-x-requires
scan_at-x-requires c = search (rules, powers)

pub overflow_add-i-2 : goal.overflow_add-i-2
overflow_add-i-2 c = search (rules, powers)

pub overflow_add-i-3 : goal.overflow_add-i-3
overflow_add-i-3 c = search (rules, powers)

pub overflow_add-i-4 : goal.overflow_add-i-4
overflow_add-i-4 c = search (rules, powers)

pub power_from-requires : goal.power_from-requires
power_from-requires c = search (rules, powers)

pub returns : goal.returns
returns c = search (rules, powers)
