use Rattle.std.proofs.Common.{◌+◌, ◌*◌}
use Rattle.program.proofs.exits.+exits_of_part_around.Given as goal

abbrev pub decreases-exits_of : goal.decreases-exits_of
decreases-exits_of l = 2 * l.label + 1

abbrev pub decreases-part_around : goal.decreases-part_around
decreases-part_around l = 2 * l.label
