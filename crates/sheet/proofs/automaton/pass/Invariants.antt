use Rattle.std.proofs.Common.{◌≡◌, ◌+◌, drop, vec_items, vec_len, vec_capacity}
use Rattle.sheet.specs.Passes.{all_summaries, links}
use Rattle.sheet.proofs.automaton.pass.Given as goal

abbrev pub invariant-loop-node : goal.invariant-loop-node
invariant-loop-node l =
    (all_summaries (vec_items l.summaries) (drop l.node-index l.nodes) ≡ all_summaries (vec_items l.initial.summaries) l.nodes)
    × (links (vec_items l.summaries) l.follow (drop l.node-index l.nodes) ≡ links (vec_items l.initial.summaries) l.initial.follow l.nodes)
    × (vec_len l.summaries ≡ vec_len l.initial.summaries + l.node-index)
    × (vec_capacity l.summaries ≡ vec_capacity l.initial.summaries)
