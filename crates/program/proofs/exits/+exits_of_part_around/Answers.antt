use Rattle.std.proofs.Common.{◌<◌, length, sym, ◌∙◌, subst, arith, rules}
use Rattle.program.specs.declared.exits.Around.{Around}
use Rattle.program.specs.Linked.{SameAround, around_at}
use Rattle.program.proofs.Linking.{owner_get, outer_before, around_none, around_some, exits_are}
use Rattle.program.proofs.exits.+exits_of_part_around.Goals as goal

pub exits_of-part_around-part-requires : goal.exits_of-part_around-part-requires
exits_of-part_around-part-requires t c = (search rules, (c.requires.0, (owner_get c.args.drafts.now c.args.label _ c.requires.0, c.requires.1)))

pub exits_of-returns : goal.exits_of-returns
exits_of-returns t c = λ ns ts body h.
    let e = exits_are ns ts c.args.drafts.now c.args.label body _ c.part_around-part.result h c.requires.0 (c.part_around-part.ensures ns ts body h) in
    (c.entry.ensures ∙ e.0, e.1)

-- the owner stands before the label
pub part_around-offset_bounds-drafts-outer : goal.part_around-offset_bounds-drafts-outer
part_around-offset_bounds-drafts-outer t c =
    let b = outer_before c.args.drafts.now c.args.label c.in-Some.outer _ c.requires.0 c.requires.1 c.in-Some.is in
    let h : c.in-Some.outer < length c.args.drafts.now = omega (arith, c.requires.0) in
    search rules

pub part_around-bounds-drafts-outer : goal.part_around-bounds-drafts-outer
part_around-bounds-drafts-outer t c = let b = outer_before c.args.drafts.now c.args.label c.in-Some.outer _ c.requires.0 c.requires.1 c.in-Some.is in omega (arith, c.requires.0)

pub part_around-exits_of-requires : goal.part_around-exits_of-requires
part_around-exits_of-requires t c =
    let b = outer_before c.args.drafts.now c.args.label c.in-Some.outer _ c.requires.0 c.requires.1 c.in-Some.is in
    (search rules, (omega (arith, c.requires.0), c.requires.1.1))

pub part_around-returns-in-None : goal.part_around-returns-in-None
part_around-returns-in-None t c = λ ns ts body h. around_none ns ts c.args.drafts.now c.args.label body h c.requires.0 (sym c.in-None.is ∙ c.requires.1.0)

pub part_around-returns-in-Some : goal.part_around-returns-in-Some
part_around-returns-in-Some t c = λ ns ts body h.
    let b = outer_before c.args.drafts.now c.args.label c.in-Some.outer _ c.requires.0 c.requires.1 c.in-Some.is in
    subst (λ (r : Around). SameAround r (around_at body c.args.label)) (sym c.enclosed.ensures)
    (around_some ns ts c.args.drafts.now c.args.label c.in-Some.outer body _ c.exits_of.result h c.requires.0 (omega (arith, c.requires.0)) (sym c.in-Some.is ∙ c.requires.1.0) (c.exits_of.ensures ns ts body h))
