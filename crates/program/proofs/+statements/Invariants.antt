use Rattle.std.proofs.Common.{◌+◌, ◌*◌, length}
use Rattle.program.specs.Lists.{ListRead}
use Rattle.program.proofs.+statements.Given as goal

abbrev pub decreases-phrases::alternative : goal.decreases-phrases::alternative
decreases-phrases::alternative l = 4 * l.site.limits.left + 3

abbrev pub decreases-start::Start::braces : goal.decreases-start::Start::braces
decreases-start::Start::braces l = 4 * l.self.site.limits.left + 1

abbrev pub decreases-start::Start::choose : goal.decreases-start::Start::choose
decreases-start::Start::choose l = 4 * l.self.site.limits.left + 1

abbrev pub decreases-phrases::list : goal.decreases-phrases::list
decreases-phrases::list l = 4 * l.site.limits.left + 3

abbrev pub decreases-start::Start::repeat : goal.decreases-start::Start::repeat
decreases-start::Start::repeat l = 4 * l.self.site.limits.left + 1

abbrev pub decreases-phrases::statement : goal.decreases-phrases::statement
decreases-phrases::statement l = 4 * l.site.limits.left + 2

abbrev pub invariant-phrases::list-loop-site : goal.invariant-phrases::list-loop-site
invariant-phrases::list-loop-site l = ListRead l.site l.initial.words l.initial.board l.board l.rest

abbrev pub decreases-phrases::list-loop-site : goal.decreases-phrases::list-loop-site
decreases-phrases::list-loop-site l = length l.rest
