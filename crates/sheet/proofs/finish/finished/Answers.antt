use Rattle.std.proofs.Common.{◌+◌, ◌-◌, ◌≤◌, List, [], length, get_or, replicate, vec_items, sym, ap, ◌∙◌, subst, arith}
use Rattle.std.specs.List.{AllByRecursion}
use Rattle.regular.specs.Words.{size}
use Rattle.sheet.specs.declared.tree.Node.{Node}
use Rattle.sheet.specs.Passes.{nothing, all_summaries, links, Placed}
use Rattle.sheet.proofs.Laying.{laid_placed}
use Rattle.sheet.proofs.Finished.{same_tree, standing}
use Rattle.sheet.proofs.finish.finished.Goals as goal

pub automaton-first-requires : goal.automaton-first-requires
automaton-first-requires c =
    let d = c.args.draft in
    let e = c.requires.0 in
    let l = c.requires.1 in
    let few : 0 + size e ≤ 64 = omega (arith, l.leaf_count, d.few) in
    let same = c.as_slice.ensures.value in
    record {
      placed = subst (AllByRecursion Placed) (sym (same ∙ l.nodes)) (laid_placed e 0 0 few);
      summary_room = omega (arith, d.fit, d.few, c.as_slice.ensures.len);
      set_room = omega (arith, d.few);
    }

pub invariant_of-result : goal.invariant_of-result
invariant_of-result c =
    let d = c.args.draft in
    let e = c.requires.0 in
    let l = c.requires.1 in
    let same = c.as_slice.ensures.value in
    let first = c.automaton-first.ensures.first ∙ ap (λ (xs : List Node). (get_or (all_summaries [] xs) (length xs - 1) nothing).first) same in
    let follow = c.automaton-first.ensures.follow ∙ ap (links [] (replicate c.len.result 0)) same in
    record {
      small = (d.few.0, c.automaton-first.ensures.count ∙ c.len.ensures);
      stands = ∣ standing (vec_items d.nodes) (vec_items d.leaves) (vec_items d.tests.ariths) (vec_items d.tests.tests) e l.nodes l.stand c.automaton-first.result.0 (vec_items c.automaton-first.result.1) c.len.result (c.len.ensures ∙ l.leaf_count) first follow ∣₁;
    }

pub returns : goal.returns
returns c = λ e l. let d = c.args.draft in same_tree (vec_items d.nodes) (vec_items d.leaves) (vec_items d.tests.ariths) (vec_items d.tests.tests) e l.nodes l.stand
