use Rattle.std.proofs.Common.{◌≤◌, ◌*◌, suc, None, Some, sym, ap, ◌∙◌, arith, length-set}
use Rattle.std.proofs.lemmas.List.{get_or-set_other}
use Rattle.traces.specs.Tables.{above}
use Rattle.program.proofs.Headed.{settings_set}
use Rattle.program.proofs.header.Header.declare.Goals as goal

pub invariant_of-self : goal.invariant_of-self
invariant_of-self c =
    let h = c.args.self.now in
    let i = c.index.result in
    let k : h.next ≤ i = let e = c.index.ensures.value in omega arith in
    record {
      six = length-set h.ranges i (Some c.args.range) ∙ h.six;
      product = c.in-Some.ensures.1 ∙ ap (λ n. h.settings * n) c.starts.ensures ∙ ap (λ n. n * suc (above c.args.range.from c.args.range.to)) h.product ∙ sym (settings_set h.ranges i c.args.range (let e = h.six in omega arith) (h.fresh i k));
      few = omega arith;
      within = omega arith;
      fresh = λ j l. get_or-set_other h.ranges i j (Some c.args.range) None (omega arith) ∙ h.fresh j (omega arith);
    }
