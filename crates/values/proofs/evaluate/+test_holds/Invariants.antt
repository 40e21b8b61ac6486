use Rattle.std.proofs.Common.{length}
use Rattle.values.proofs.evaluate.+test_holds.Given as goal

abbrev pub decreases-test_holds : goal.decreases-test_holds
decreases-test_holds l = length l.tests.now
