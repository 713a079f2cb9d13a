-- Each arm is a row of the type list, in its order; 402 and 406 look at the form too, and any other type has no row.
use Rattle.std.proofs.Common.{refl}
use Rattle.layouts.specs.Layout.{paper, bit_of}
use Rattle.layouts.proofs.Tables.{bit_is, bit-none}
use Rattle.layouts_lists.proofs.bit_of.Goals as goal

pub returns-in-100 : goal.returns-in-100
unfolding bit_of paper
returns-in-100 c = bit_is _ _ c.args.form _ c.in-100.is refl

pub returns-in-102 : goal.returns-in-102
unfolding bit_of paper
returns-in-102 c = bit_is _ _ c.args.form _ c.in-102.is refl

pub returns-in-110 : goal.returns-in-110
unfolding bit_of paper
returns-in-110 c = bit_is _ _ c.args.form _ c.in-110.is refl

pub returns-in-116 : goal.returns-in-116
unfolding bit_of paper
returns-in-116 c = bit_is _ _ c.args.form _ c.in-116.is refl

pub returns-in-124 : goal.returns-in-124
unfolding bit_of paper
returns-in-124 c = bit_is _ _ c.args.form _ c.in-124.is refl

pub returns-in-126 : goal.returns-in-126
unfolding bit_of paper
returns-in-126 c = bit_is _ _ c.args.form _ c.in-126.is refl

pub returns-in-128 : goal.returns-in-128
unfolding bit_of paper
returns-in-128 c = bit_is _ _ c.args.form _ c.in-128.is refl

pub returns-in-142 : goal.returns-in-142
unfolding bit_of paper
returns-in-142 c = bit_is _ _ c.args.form _ c.in-142.is refl

pub returns-in-144 : goal.returns-in-144
unfolding bit_of paper
returns-in-144 c = bit_is _ _ c.args.form _ c.in-144.is refl

pub returns-in-308 : goal.returns-in-308
unfolding bit_of paper
returns-in-308 c = bit_is _ _ c.args.form _ c.in-308.is refl

pub returns-in-314 : goal.returns-in-314
unfolding bit_of paper
returns-in-314 c = bit_is _ _ c.args.form _ c.in-314.is refl

pub returns-in-408 : goal.returns-in-408
unfolding bit_of paper
returns-in-408 c = bit_is _ _ c.args.form _ c.in-408.is refl

pub returns-in_default : goal.returns-in_default
unfolding bit_of paper
returns-in_default c = bit-none _ c.args.form c.in_default.in_default-own.rest
