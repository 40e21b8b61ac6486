use Rattle.std.proofs.Common.{[], ◌∷◌, ◌++◌, None, vec_items, ap, ◌∙◌, arith}
use Rattle.text.specs.declared.word.Register.TheVariants.{A as ra}
use Rattle.program.specs.declared.draft.Kind.TheVariants.{Set}
use Rattle.program.proofs.Tables.{small, link_more, link_all}
use Rattle.program.proofs.link.link.Goals as goal

pub instruct-requires : goal.instruct-requires
instruct-requires c =
    let p = c.requires.0 in
    let e = c.exits_of.ensures p.0 p.1 p.2 p.3 in
    small p.0 p.1 c.args.drafts.now p.2 c.loop-label.label _ c.exits_of.result p.3 c.requires.1.0 (omega arith) e.0 e.1

pub loop-label-preserved : goal.loop-label-preserved
loop-label-preserved c =
    let i = c.loop-label.invariant in
    let x = c.push_reserved.ensures.capacity in
    let y = c.push_reserved.ensures.len in
    let a = i.0 in
    let b = i.1 in (
      omega arith,
      omega arith,
      λ ns ts body h. let e = c.exits_of.ensures ns ts body h in
          link_more ns ts c.args.drafts.now (vec_items c.loop-label.statements) _ c.loop-label.label (record { kind = Set ra 0; owner = None; end = 0 }) c.exits_of.result body h (omega arith) (c.push_reserved.ensures.items ∙ ap (λ s. vec_items c.loop-label.statements ++ s ∷ []) c.instruct.ensures) e.0 e.1 (i.2 ns ts body h),
    )

pub returns : goal.returns
returns c = λ ns ts body h. link_all ns ts c.args.drafts.now (vec_items c.loop-label.statements) c.loop-label.label body h (omega arith) (c.loop-label.invariant.2 ns ts body h)
