use Rattle.std.proofs.Common.{◌∷◌, refl, lit≤}
use Rattle.text.specs.declared.word.Token.TheVariants.{Semicolon}
use Rattle.text.specs.Words.{register_index}
use Rattle.text.proofs.Tests.{is_token}
use Rattle.text.proofs.Parts.{broken}
use Rattle.traces.specs.Programs.{sense}
use Rattle.traces.proofs.Links.{to_sense}
use Rattle.program.specs.declared.draft.Kind.TheVariants.{Sense}
use Rattle.program.proofs.Chains.{sense_many, sense_none, sense_unknown, sense_end, sense_goes}
use Rattle.program.proofs.Parts.{phrase_stops, sense_derives, leaf_read, grown_none}
use Rattle.program.proofs.start.Start.sense.Goals as goal

pub returns-in_err-check_room : goal.returns-in_err-check_room
returns-in_err-check_room c =
    let f = c.in_err-check_room.ensures in
    broken _ _ _ c.in_err-check_room.field-0.0 c.from_residual.ensures.1 (phrase_stops _ _ (c.args.self.word ∷ c.args.self.rest.now) f.cause_is f.place_is (sense_many c.args.self.word c.args.self.rest.now c.requires f.why))

pub returns-in_err-register : goal.returns-in_err-register
returns-in_err-register c =
    let f = c.in_err-register.ensures in
    broken _ _ _ c.in_err-register.field-0.0 c.from_residual-in_err-register.ensures.1
    (phrase_stops _ _ c.args.self.rest.now f.0.cause_is f.0.place_is (sense_none c.args.self.word c.args.self.rest.now c.requires c.in_ok-check_room.ensures f.1))

pub returns-in_err-allows : goal.returns-in_err-allows
returns-in_err-allows c =
    let f = c.in_err-allows.ensures in
    broken _ _ _ c.in_err-allows.field-0.0 c.from_residual-in_err-allows.ensures.1
    (phrase_stops _ _ (c.in_ok-register.name ∷ c.in_ok-register.after.now) f.cause_is f.place_is (sense_unknown c.args.self.word c.args.self.rest.now c.in_ok-register.name c.in_ok-register.after.now c.in_ok-register.register c.in_ok-register.ensures.1 c.in_ok-register.ensures.0 c.requires c.in_ok-check_room.ensures f.why))

pub returns-in_err-behind : goal.returns-in_err-behind
returns-in_err-behind c =
    let f = c.in_err-behind.ensures in
    broken _ _ _ c.in_err-behind.field-0.0 c.from_residual-in_err-behind.ensures.1
    (phrase_stops _ _ c.in_ok-register.after.now f.0.cause_is f.0.place_is (sense_end c.args.self.word c.args.self.rest.now c.in_ok-register.name c.in_ok-register.after.now c.in_ok-register.register c.in_ok-register.ensures.1 c.in_ok-register.ensures.0 c.requires c.in_ok-check_room.ensures c.in_ok-allows.ensures f.1))

pub returns : goal.returns
returns c =
    let b = c.in_ok-behind.ensures in
    leaf_read (sense (register_index c.in_ok-register.register)) (to_sense (register_index c.in_ok-register.register)) c.args.self.site (c.args.self.word ∷ c.args.self.rest.now) c.in_ok-behind.behind.now c.args.board.now c.add.new.self c.args.board.now.expressions
    (Sense c.in_ok-register.register) refl
    (sense_derives c.requires c.in_ok-register.ensures.0 c.in_ok-register.ensures.1 b.1 (is_token b.0.token Semicolon (lit≤ tt) refl b.2))
    (sense_goes c.args.self.word c.args.self.rest.now c.in_ok-register.name c.in_ok-register.after.now c.in_ok-register.register c.in_ok-register.ensures.1 c.in_ok-register.ensures.0 c.requires c.in_ok-check_room.ensures c.in_ok-allows.ensures _ b)
    c.add.ensures.added.drafts c.add.ensures.added.expressions (c.in_ok-register.register, refl, refl) (grown_none _)
