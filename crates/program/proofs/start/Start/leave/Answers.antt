use Rattle.std.proofs.Common.{◌∷◌, sym, refl, ap, subst, lit≤}
use Rattle.text.specs.declared.reading.Fault.{Fault}
use Rattle.text.specs.declared.word.Token.TheVariants.{Semicolon}
use Rattle.text.proofs.Tests.{is_token}
use Rattle.text.proofs.Parts.{broken}
use Rattle.traces.specs.Programs.{break}
use Rattle.traces.proofs.Links.{to_break}
use Rattle.syntax.specs.Phrases.{sets, senses, skips, breaks}
use Rattle.program.specs.declared.draft.Kind.TheVariants.{Break}
use Rattle.program.proofs.Chains.{break_outside, break_many, break_end, break_goes}
use Rattle.program.proofs.Parts.{phrase_stops, leaf_read, grown_none}
use Rattle.program.proofs.start.Start.leave.Goals as goal

pub returns-then-not-self : goal.returns-then-not-self
returns-then-not-self c = phrase_stops _ _ (c.args.self.word ∷ c.args.self.rest.now) (ap (λ (f : Fault). f.cause) c.fault.ensures) (ap (λ (f : Fault). f.place) c.fault.ensures) (break_outside c.args.self.word c.args.self.rest.now c.requires c.if-not-self.true)

pub returns-in_err-check_room : goal.returns-in_err-check_room
returns-in_err-check_room c =
    let f = c.in_err-check_room.ensures in
    broken _ _ _ c.in_err-check_room.field-0.0 c.from_residual.ensures.1
    (phrase_stops _ _ (c.args.self.word ∷ c.args.self.rest.now) f.cause_is f.place_is (break_many c.args.self.word c.args.self.rest.now c.requires c.if-not-self.false f.why))

pub returns-in_err-behind : goal.returns-in_err-behind
returns-in_err-behind c =
    let f = c.in_err-behind.ensures in
    broken _ _ _ c.in_err-behind.field-0.0 c.from_residual-in_err-behind.ensures.1
    (phrase_stops _ _ c.args.self.rest.now f.0.cause_is f.0.place_is (break_end c.args.self.word c.args.self.rest.now c.requires c.if-not-self.false c.in_ok-check_room.ensures f.1))

pub returns : goal.returns
returns c =
    let b = c.in_ok-behind.ensures in
    leaf_read break to_break c.args.self.site (c.args.self.word ∷ c.args.self.rest.now) c.in_ok-behind.behind.now c.args.board.now c.add.new.self c.args.board.now.expressions Break refl
    (subst (λ x. Rattle.syntax.specs.Phrases.States Rattle.syntax.specs.Phrases.one (c.args.self.word ∷ x) break c.in_ok-behind.behind.now) (sym b.1) (breaks c.requires (is_token b.0.token Semicolon (lit≤ tt) refl b.2)))
    (break_goes c.args.self.word c.args.self.rest.now c.requires c.if-not-self.false c.in_ok-check_room.ensures _ b) c.add.ensures.added.drafts c.add.ensures.added.expressions refl (grown_none _)
