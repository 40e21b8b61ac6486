use Rattle.traces.proofs.theorem.traces_are_paths.Goals as goal
use Rattle.traces.proofs.Laws.{prefix_paths, paths_prefix}

pub returns : goal.returns
returns c = λ t π. (prefix_paths t π, paths_prefix t π)
