-- Each list is made empty.
use Rattle.std.proofs.Common.{[], rules, of_calls}
use Rattle.steps.proofs.table.no_nexts.Goals as goal

pub returns : goal.returns
returns c = λ r h. let made = c.from_fn.ensures.items.at r [] h in search (rules, of_calls)
