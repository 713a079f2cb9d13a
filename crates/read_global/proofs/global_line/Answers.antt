-- Each 72 characters of the text are a line.
use borrow.Author.Rules.{rules}
use Rattle.read_passes.proofs.GlobalText.{texts}
use Rattle.read_global.proofs.global_line.Goals as goal

pub wide-requires : goal.wide-requires
wide-requires c = search (rules, texts)

pub overflow_add-result : goal.overflow_add-result
overflow_add-result c = search (rules, texts)

pub overflow_add-result-2 : goal.overflow_add-result-2
overflow_add-result-2 c = search (rules, texts)

pub returns : goal.returns
returns c = search (rules, texts)
