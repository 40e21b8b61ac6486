use Rattle.std.proofs.Common.{◌≡◌, length, vec_items, arith}
use native.Mathlib.Nat.{ℕ_set}
use mathlib.Core.Logic.{∥∥₁_elim}
use Rattle.regular.specs.Words.{size}
use Rattle.regular.specs.Sets.{gather}
use Rattle.regular.specs.Automaton.{follow_sets}
use Rattle.sheet.specs.Sheets.{tree_of}
use Rattle.sheet.proofs.Leaves.{gathered}
use Rattle.sheet.proofs.sheet.Sheet.after.Goals as goal

pub returns : goal.returns
returns c =
    let s = c.args.self.now in
    let k : c.loop-place.place ≡ length (vec_items s.follow) = omega (arith, s.follow.ok, c.deref-next-items.ensures.len) in
    let l : length (vec_items s.follow) ≡ length (vec_items s.leaves) = omega (arith, s.follow.ok, s.leaves.ok, s.small) in
    ∥∥₁_elim s.stands (ℕ_set c.loop-place.all (gather (follow_sets (tree_of s)) c.args.set (size (tree_of s)))) (λ t. gathered t c.args.set c.loop-place.all c.loop-place.place k l c.loop-place.invariant)
