use Rattle.std.proofs.Common.{◌∷◌, refl, lit≤}
use Rattle.text.specs.declared.word.Token.TheVariants.{Set as Becomes, Semicolon}
use Rattle.text.specs.Words.{register_index}
use Rattle.text.proofs.Tests.{is_token}
use Rattle.text.proofs.Parts.{broken}
use Rattle.traces.specs.Programs.{assign}
use Rattle.traces.proofs.Links.{to_set}
use Rattle.program.specs.declared.draft.Kind.TheVariants.{Set}
use Rattle.program.proofs.Chains.{set_unknown, set_many, set_sign, set_sum, set_end, set_goes}
use Rattle.program.proofs.Parts.{phrase_stops, set_derives, leaf_read, arith_grown}
use Rattle.program.proofs.start.Start.set.Goals as goal

pub returns-in_err-allows : goal.returns-in_err-allows
returns-in_err-allows c =
    let f = c.in_err-allows.ensures in
    broken _ _ _ c.in_err-allows.field-0.0 c.from_residual.ensures.1 (phrase_stops _ _ (c.args.self.word ∷ c.args.self.rest.now) f.cause_is f.place_is (set_unknown c.args.self.word c.args.self.rest.now c.args.register c.requires f.why))

pub returns-in_err-check_room : goal.returns-in_err-check_room
returns-in_err-check_room c =
    let f = c.in_err-check_room.ensures in
    broken _ _ _ c.in_err-check_room.field-0.0 c.from_residual-in_err-check_room.ensures.1 (phrase_stops _ _ (c.args.self.word ∷ c.args.self.rest.now) f.cause_is f.place_is (set_many c.args.self.word c.args.self.rest.now c.args.register c.requires c.in_ok-allows.ensures f.why))

pub returns-in_err-right : goal.returns-in_err-right
returns-in_err-right c =
    let f = c.in_err-right.ensures in
    broken _ _ _ c.in_err-right.field-0.0 c.from_residual-in_err-right.ensures.1
    (phrase_stops _ _ c.args.self.rest.now f.0.cause_is f.0.place_is (set_sign c.args.self.word c.args.self.rest.now c.args.register c.requires c.in_ok-allows.ensures c.in_ok-check_room.ensures f.1))

pub returns-in_err-read : goal.returns-in_err-read
returns-in_err-read c =
    let f = c.in_err-read.ensures in
    broken _ _ _ c.in_err-read.field-0.0 c.from_residual-in_err-read.ensures.1
    (phrase_stops _ _ f.words refl f.place_is (set_sum c.args.self.word c.args.self.rest.now c.args.register c.requires c.in_ok-allows.ensures c.in_ok-check_room.ensures _ c.in_ok-right.ensures _ f.words f.stops))

pub returns-in_err-behind : goal.returns-in_err-behind
returns-in_err-behind c =
    let f = c.in_err-behind.ensures in
    let r = c.in_ok-read.ensures in
    broken _ _ _ c.in_err-behind.field-0.0 c.from_residual-in_err-behind.ensures.1
    (phrase_stops _ _ c.in_ok-read.read.rest.now f.0.cause_is f.0.place_is (set_end c.args.self.word c.args.self.rest.now c.args.register c.requires c.in_ok-allows.ensures c.in_ok-check_room.ensures _ _ _ c.in_ok-right.ensures r.goes f.1))

pub returns : goal.returns
returns c =
    let v = c.in_ok-right.ensures in
    let r = c.in_ok-read.ensures in
    let b = c.in_ok-behind.ensures in
    leaf_read (assign (register_index c.args.register) r.tree) (to_set (register_index c.args.register) r.tree) c.args.self.site (c.args.self.word ∷ c.args.self.rest.now) c.in_ok-behind.behind.now c.args.board.now c.add.new.self c.sum.new.room
    (Set c.args.register c.in_ok-read.read.index) refl
    (set_derives c.requires v.1 (is_token v.0.token Becomes (lit≤ tt) refl v.2) r.derives b.1 (is_token b.0.token Semicolon (lit≤ tt) refl b.2))
    (set_goes c.args.self.word c.args.self.rest.now c.args.register c.requires c.in_ok-allows.ensures c.in_ok-check_room.ensures _ _ _ _ v r.goes b)
    c.add.ensures.added.drafts c.add.ensures.added.expressions (c.args.register, c.in_ok-read.read.index, refl, refl, r.stands) (arith_grown r)
