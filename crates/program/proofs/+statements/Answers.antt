use Rattle.std.proofs.Common.{true, ◌∷◌, sym, refl, subst}
use Rattle.grammar.specs.Grammars.{Quiet}
use Rattle.text.specs.declared.word.Token.TheVariants.{If, While}
use Rattle.text.specs.Table.{statement, other, end_while, rules_of}
use Rattle.text.proofs.Parts.{broken}
use Rattle.program.proofs.Bounding.{onward}
use Rattle.program.proofs.Chains.{brace_deep}
use Rattle.program.proofs.Parts.{phrase_stops}
use Rattle.std.proofs.lemmas.Bool.Decides.{when_true}
use Rattle.program.proofs.Shorter.{phrase_shorter}
use Rattle.program.proofs.Compounds.{entered_stops, repeat_read, choose_stopped, choose_read, list_none, list_more, list_stopped, braces_stopped, braces_open, braces_read, no_statement, refused}
use Rattle.program.proofs.+statements.Goals as goal

pub start::Start::braces-returns-in_err-limits : goal.start::Start::braces-returns-in_err-limits
start::Start::braces-returns-in_err-limits t c =
    let f = c.in_err-limits.ensures in
    broken _ _ _ c.in_err-limits.field-0.0 c.from_residual.ensures.1
    (phrase_stops _ _ (c.args.self.word ∷ c.args.self.rest.now) f.cause_is f.place_is (brace_deep c.args.self.word c.args.self.rest.now c.requires f.none_left))

pub start::Start::braces-returns-in_err-inner : goal.start::Start::braces-returns-in_err-inner
start::Start::braces-returns-in_err-inner t c =
    broken _ _ _ c.in_err-inner.field-0.0 c.from_residual-in_err-inner.ensures.1
    (braces_stopped c.args.self.site c.args.self.word c.args.self.rest.now c.args.board.now c.requires c.in_ok-limits.ensures _ c.in_err-inner.ensures)

pub start::Start::braces-returns : goal.start::Start::braces-returns
start::Start::braces-returns t c =
    onward c.skip.result c.skip.ensures
    (λ y k. braces_read c.args.self.site c.args.self.word c.args.self.rest.now c.args.board.now c.requires c.in_ok-limits.ensures c.list.new.board _ c.in_ok-inner.ensures _ k)
    (λ f k. braces_open c.args.self.site c.args.self.word c.args.self.rest.now c.args.board.now c.requires c.in_ok-limits.ensures c.list.new.board _ c.in_ok-inner.ensures f k)

pub start::Start::choose-returns-in_err-first_behind : goal.start::Start::choose-returns-in_err-first_behind
start::Start::choose-returns-in_err-first_behind t c =
    broken _ _ _ c.in_err-first_behind.field-0.0 c.from_residual-in_err-first_behind.ensures.1
    (entered_stops c.args.self.word c.in_ok-opened.ensures If other c.args.self.site.inside _ c.requires (λ q. refl) refl (λ k i. i) c.in_err-first_behind.ensures)

pub start::Start::choose-returns-in_err-behind : goal.start::Start::choose-returns-in_err-behind
start::Start::choose-returns-in_err-behind t c =
    broken _ _ _ c.in_err-behind.field-0.0 c.from_residual-in_err-behind.ensures.1
    (choose_stopped c.args.self.word c.in_ok-opened.ensures c.requires c.len-middle.ensures c.in_ok-first_behind.ensures _ c.in_err-behind.ensures)

pub start::Start::choose-returns : goal.start::Start::choose-returns
start::Start::choose-returns t c =
    choose_read c.args.self.word c.in_ok-opened.ensures c.requires c.len-middle.ensures c.in_ok-first_behind.ensures
    c.alternative.new.board c.settle.new.self c.in_ok-behind.behind.now c.in_ok-behind.ensures c.settle.ensures

pub phrases::list-loop-site-init : goal.phrases::list-loop-site-init
phrases::list-loop-site-init t c = list_none _ _ _

pub phrases::list-returns-in_err-rest : goal.phrases::list-returns-in_err-rest
phrases::list-returns-in_err-rest t c =
    broken _ _ _ c.in_err-rest.field-0.0 c.from_residual.ensures.1
    (list_stopped c.args.site c.args.words.now c.args.board.now c.loop-site.board c.loop-site.rest.now _ c.loop-site.invariant (when_true _ _ c.loop-site-test.true c.begins.ensures) c.in_err-rest.ensures)

pub phrases::list-loop-site-smaller : goal.phrases::list-loop-site-smaller
phrases::list-loop-site-smaller t c = phrase_shorter c.in_ok-rest.ensures.derives

pub phrases::list-loop-site-preserved : goal.phrases::list-loop-site-preserved
phrases::list-loop-site-preserved t c =
    list_more c.args.site c.args.words.now c.args.board.now c.loop-site.board c.statement.new.board c.loop-site.rest.now c.in_ok-rest.rest.now c.loop-site.invariant (when_true _ _ c.loop-site-test.true c.begins.ensures) c.in_ok-rest.ensures

pub start::Start::repeat-returns-in_err-behind : goal.start::Start::repeat-returns-in_err-behind
start::Start::repeat-returns-in_err-behind t c =
    broken _ _ _ c.in_err-behind.field-0.0 c.from_residual-in_err-behind.ensures.1
    (entered_stops c.args.self.word c.in_ok-opened.ensures While end_while true _ c.requires (λ q. refl) refl (λ k i. refl) c.in_err-behind.ensures)

pub start::Start::repeat-returns : goal.start::Start::repeat-returns
start::Start::repeat-returns t c = repeat_read c.args.self.word c.in_ok-opened.ensures c.requires c.statement.new.board c.settle.new.self c.in_ok-behind.behind.now c.in_ok-behind.ensures c.settle.ensures

pub phrases::statement-returns-in_err-word : goal.phrases::statement-returns-in_err-word
phrases::statement-returns-in_err-word t c =
    let f = c.in_err-word.ensures in
    broken _ _ _ c.in_err-word.field-0.0 c.from_residual.ensures.1 (refused _ _ _ _ (subst (Quiet (rules_of statement)) (sym f.1) tt) f.0)

pub phrases::statement-returns-in_default : goal.phrases::statement-returns-in_default
phrases::statement-returns-in_default t c =
    refused _ _ _ _ (subst (Quiet (rules_of statement)) (sym c.in_ok-word.ensures) (no_statement c.in_ok-word.word c.in_ok-word.rest.now c.in_default.not-Current c.in_default.not-Initial c.in_default.not-Sense c.in_default.not-Semicolon c.in_default.not-If c.in_default.not-While c.in_default.not-Break c.in_default.not-OpenBrace)) c.unexpected.ensures
