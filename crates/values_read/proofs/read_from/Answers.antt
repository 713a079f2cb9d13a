-- `values_read::read_from`: digits, point, digits and exponent are read where the definition looks for them.
use native.Mathlib.Omega.{arith}
use borrow.Author.Rules.{rules}
use Rattle.values.proofs.Steps.{numbered}
use Rattle.values_read.proofs.read_from.Goals as goal

pub byte_at-s-requires : goal.byte_at-s-requires
byte_at-s-requires c = search (rules, numbered)

pub sign_len-a-requires : goal.sign_len-a-requires
sign_len-a-requires c = search (rules, numbered)

pub before_of-w-requires : goal.before_of-w-requires
before_of-w-requires c = search (rules, numbered)

pub overflow_add-i : goal.overflow_add-i
overflow_add-i c = search (rules, numbered)

pub byte_at-requires : goal.byte_at-requires
byte_at-requires c = search (rules, numbered)

pub point_len-p-requires : goal.point_len-p-requires
point_len-p-requires c = search (rules, numbered)

pub overflow_add-i-2 : goal.overflow_add-i-2
overflow_add-i-2 c = search (rules, numbered)

pub scan_at-r-requires : goal.scan_at-r-requires
scan_at-r-requires c = search (rules, numbered)

pub overflow_add-end : goal.overflow_add-end
overflow_add-end c = search (rules, numbered)

pub overflow_add-end-2 : goal.overflow_add-end-2
overflow_add-end-2 c = search (rules, numbered)

pub power_at-requires : goal.power_at-requires
power_at-requires c = search (rules, numbered)

pub overflow_sub-r : goal.overflow_sub-r
overflow_sub-r c = search (rules, numbered)

pub finish_of-requires : goal.finish_of-requires
finish_of-requires c =
    record {
      zeros_bound =
          omega (arith, c.scan_at-r.ensures.count_le_count.2.zeros, c.scan_at-r.ensures.count_le_count, c.before_of-w.ensures.count_in_bounds_2);
      n_bound = omega (arith, c.scan_at-r.ensures.count_le_count, c.before_of-w.ensures.count_in_bounds_2);
    }

pub returns : goal.returns
returns c = search (rules, numbered)
