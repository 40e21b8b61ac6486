use Rattle.std.proofs.Common.{[], ◌∷◌, refl, arith, lit≤}
use Rattle.text.specs.declared.reading.Limits.{Limits}
use Rattle.text.specs.declared.word.Token.TheVariants.{OpenBracket, CloseBracket}
use Rattle.text.specs.Derivations.{Condition}
use Rattle.text.specs.Outcomes.{TestRead, Stopped}
use Rattle.text.specs.Table.{one_test, joined, bracketed, close_bracket}
use Rattle.text.proofs.Tests.{is_token}
use Rattle.text.proofs.Going.{bracket_goes, bracket_deep, bracket_inner, bracket_open}
use Rattle.text.proofs.Parts.{broken, stops_by, from_inside, stopped_at, refused_at}
use Rattle.sheet.proofs.Items.{bracketed_read}
use Rattle.sheet.proofs.Going.{quiet_bracketed}
use Rattle.sheet.proofs.descent.bracketed.Goals as goal

pub returns-in_err-word : goal.returns-in_err-word
returns-in_err-word c =
    let f = c.in_err-word.ensures in
    broken _ _ _ c.in_err-word.field-0.0 c.from_residual.ensures.1 (refused_at bracketed _ _ _ _ _ _ refl (quiet_bracketed _ f.1) f.0)

pub returns-in_err-inside : goal.returns-in_err-inside
returns-in_err-inside c =
    let f = c.in_err-inside.ensures in
    broken _ _ _ c.in_err-inside.field-0.0 c.from_residual-in_err-inside.ensures.1
    (stopped_at c.in_ok-word.ensures.0 (stops_by _ _ (c.in_ok-word.word ∷ c.in_ok-word.rest.now) f.cause_is f.place_is (bracket_deep bracketed close_bracket OpenBracket CloseBracket (one_test ∷ joined ∷ []) _ 0 _ _ (λ p. refl) (λ k. omega arith) (λ k. refl) refl refl refl c.in_ok-word.word (is_token c.in_ok-word.word.token OpenBracket (lit≤ tt) refl c.in_ok-word.ensures.1) c.in_ok-word.rest.now f.none_left)))

pub returns-in_err-test : goal.returns-in_err-test
returns-in_err-test c =
    let d = c.in_ok-inside.ensures in
    let f = from_inside d (λ (l : Limits). Stopped (one_test ∷ joined ∷ []) l.scope l.left l.end c.args.tests.now.counted c.in_ok-word.rest.now c.in_err-test.field-0.0) c.in_err-test.ensures in
    broken _ _ _ c.in_err-test.field-0.0 c.from_residual-in_err-test.ensures.1
    (stopped_at c.in_ok-word.ensures.0 (stops_by _ _ f.words refl f.place_is (bracket_inner bracketed close_bracket OpenBracket CloseBracket (one_test ∷ joined ∷ []) _ 0 _ _ (λ p. refl) (λ k. omega arith) (λ k. refl) refl refl refl c.in_ok-word.word (is_token c.in_ok-word.word.token OpenBracket (lit≤ tt) refl c.in_ok-word.ensures.1) c.in_ok-word.rest.now _ f.words (omega (arith, d.left)) f.stops)))

pub returns-in_err-behind : goal.returns-in_err-behind
returns-in_err-behind c =
    let d = c.in_ok-inside.ensures in
    let r = from_inside d (λ (l : Limits). TestRead (one_test ∷ joined ∷ []) Condition l.scope l.left c.in_ok-word.rest.now c.args.tests.now c.condition.new.room c.in_ok-test.test.index c.in_ok-test.test.rest.now) c.in_ok-test.ensures in
    let f = c.in_err-behind.ensures in
    broken _ _ _ c.in_err-behind.field-0.0 c.from_residual-in_err-behind.ensures.1
    (stopped_at c.in_ok-word.ensures.0 (stops_by _ _ c.in_ok-test.test.rest.now f.0.cause_is f.0.place_is (bracket_open bracketed close_bracket OpenBracket CloseBracket (one_test ∷ joined ∷ []) _ _ _ _ (λ p. refl) (λ k. omega arith) (λ k. refl) refl refl refl c.in_ok-word.word (is_token c.in_ok-word.word.token OpenBracket (lit≤ tt) refl c.in_ok-word.ensures.1) c.in_ok-word.rest.now _ (omega (arith, d.left)) r.goes f.1)))

pub returns : goal.returns
returns c =
    let d = c.in_ok-inside.ensures in
    let r = from_inside d (λ (l : Limits). TestRead (one_test ∷ joined ∷ []) Condition l.scope l.left c.in_ok-word.rest.now c.args.tests.now c.condition.new.room c.in_ok-test.test.index c.in_ok-test.test.rest.now) c.in_ok-test.ensures in
    let k = c.in_ok-behind.ensures in
    bracketed_read c.in_ok-word.word k.0 r c.in_ok-word.ensures.0 (is_token c.in_ok-word.word.token OpenBracket (lit≤ tt) refl c.in_ok-word.ensures.1) k.1 (is_token k.0.token CloseBracket (lit≤ tt) refl k.2) (bracket_goes bracketed close_bracket OpenBracket CloseBracket (one_test ∷ joined ∷ []) _ _ _ _ (λ p. refl) (λ k. omega arith) (λ k. refl) refl refl refl c.in_ok-word.word (is_token c.in_ok-word.word.token OpenBracket (lit≤ tt) refl c.in_ok-word.ensures.1) c.in_ok-word.rest.now _ _ (omega (arith, d.left)) r.goes k)
