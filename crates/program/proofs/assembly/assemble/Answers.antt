use Rattle.std.proofs.Common.{None, vec_items, sym, subst, arith}
use Rattle.text.proofs.Stands.{vec_long}
use Rattle.traces.proofs.Links.{drafts}
use Rattle.program.specs.Outcomes.{DraftsFor}
use Rattle.program.proofs.Linking.{as_long}
use Rattle.program.proofs.Wholes.{sound_of}
use Rattle.program.proofs.assembly.assemble.Goals as goal

pub invariant_of-result : goal.invariant_of-result
invariant_of-result c =
    let b = c.args.board in
    let p = c.requires.0 in
    let ns = vec_items b.expressions.ariths in
    let ts = vec_items b.expressions.tests in
    let s = subst (λ ds. DraftsFor ns ts ds (drafts p.0 0 None)) (sym c.as_slice.ensures.value) p.1 in
    let l = c.link.ensures ns ts p.0 s in
    let n = as_long ns ts (vec_items b.drafts) p.0 p.1 in
    let k = vec_long b.drafts in
    let f = b.few in
    record {
      is = sound_of c.args.header.now c.full.result _ p.0 c.full.ensures l.0 (omega arith);
      whole = l.1;
    }
