use Rattle.std.proofs.Common.{◌≡◌, ◌≤◌, true, List, take, None, vec_items, vec_len, vec_capacity}
use Rattle.text.specs.declared.node.ArithNode.{ArithNode}
use Rattle.text.specs.declared.node.TestNode.{TestNode}
use Rattle.traces.specs.Programs.{Part, size}
use Rattle.traces.specs.Tables.{table}
use Rattle.traces.proofs.Links.{drafts}
use Rattle.machine.specs.Views.{views, all_stand}
use Rattle.program.specs.Outcomes.{DraftsFor}
use Rattle.program.proofs.link.link.Given as goal

abbrev pub invariant-loop-label : goal.invariant-loop-label
invariant-loop-label l = (63 ≤ vec_capacity l.statements) × (vec_len l.statements ≡ l.label)
    × ((ns : List ArithNode) (ts : List TestNode) (body : Part) → DraftsFor ns ts l.drafts (drafts body 0 None) → (views ns ts (vec_items l.statements) ≡ take l.label (table body 0 (size body) (size body))) × (all_stand ns ts (vec_items l.statements) ≡ true))
