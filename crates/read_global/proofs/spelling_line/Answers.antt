-- A text that ends early is told by its length.
use borrow.Author.Rules.{rules}
use Rattle.read_passes.proofs.GlobalText.{texts}
use Rattle.read_global.proofs.spelling_line.Goals as goal

pub wide-s-requires : goal.wide-s-requires
wide-s-requires c = search (rules, texts)

pub wide-g-requires : goal.wide-g-requires
wide-g-requires c = search (rules, texts)

pub overflow_mul-g : goal.overflow_mul-g
overflow_mul-g c = search (rules, texts)

pub overflow_add-result : goal.overflow_add-result
overflow_add-result c = search (rules, texts)

pub returns-then-at-g : goal.returns-then-at-g
returns-then-at-g c = search (rules, texts)

pub global_line-requires : goal.global_line-requires
global_line-requires c = search (rules, texts)

pub returns : goal.returns
returns c = search (rules, texts)
