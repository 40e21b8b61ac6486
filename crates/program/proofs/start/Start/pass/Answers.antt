use Rattle.std.proofs.Common.{◌∷◌, refl}
use Rattle.text.proofs.Parts.{broken}
use Rattle.traces.specs.Programs.{skip}
use Rattle.traces.proofs.Links.{to_skip}
use Rattle.syntax.specs.Phrases.{skips}
use Rattle.program.specs.declared.draft.Kind.TheVariants.{Skip}
use Rattle.program.proofs.Chains.{pass_many, pass_goes}
use Rattle.program.proofs.Parts.{phrase_stops, leaf_read, grown_none}
use Rattle.program.proofs.start.Start.pass.Goals as goal

pub returns-in_err-check_room : goal.returns-in_err-check_room
returns-in_err-check_room c =
    let f = c.in_err-check_room.ensures in
    broken _ _ _ c.in_err-check_room.field-0.0 c.from_residual.ensures.1 (phrase_stops _ _ (c.args.self.word ∷ c.args.self.rest.now) f.cause_is f.place_is (pass_many c.args.self.word c.args.self.rest.now c.requires f.why))

pub returns : goal.returns
returns c =
    leaf_read skip to_skip c.args.self.site (c.args.self.word ∷ c.args.self.rest.now) c.args.self.rest.now c.args.board.now c.add.new.self c.args.board.now.expressions Skip refl (skips c.requires)
    (pass_goes c.args.self.word c.args.self.rest.now c.requires c.in_ok-check_room.ensures) c.add.ensures.added.drafts c.add.ensures.added.expressions refl (grown_none _)
