use Rattle.std.proofs.Common.{[], ◌∷◌, length, sym, refl, ap, subst, arith, lit≤}
use Rattle.grammar.specs.Grammars.{Quiet}
use Rattle.text.specs.declared.word.Token.TheVariants.{OpenBracket, CloseBracket}
use Rattle.text.specs.Derivations.{Condition}
use Rattle.text.specs.Outcomes.{TestRead, Stopped}
use Rattle.text.specs.Table.{one_test, joined, close_bracket, rules_of}
use Rattle.text.proofs.Tests.{is_token}
use Rattle.text.proofs.Going.{bracket_goes, bracket_deep, bracket_inner, bracket_open}
use Rattle.text.proofs.Parts.{broken, stops_by, from_inside, stopped_at, refused_at}
use Rattle.text.proofs.Conditions.{read_at, group_read, grouped, link_many, link_stopped, link_read, turned_none, turned_more, condition_read, condition_stopped, condition_stopped_first, tests_shorter}
use Rattle.text.proofs.boolean.+condition_linked_one_test.Goals as goal

pub linked-returns-in_err-count : goal.linked-returns-in_err-count
linked-returns-in_err-count t c =
    let f = c.in_err-count.ensures.1 in
    broken _ _ _ c.in_err-count.field-0.0 c.from_residual.ensures.1 (stops_by _ _ (c.args.word ∷ c.args.rest.now) f.cause_is f.place_is (link_many c.args.link _ _ _ c.args.word c.args.rest.now c.requires f.full))

pub linked-returns-in_err-right : goal.linked-returns-in_err-right
linked-returns-in_err-right t c = broken _ _ _ c.in_err-right.field-0.0 c.from_residual-in_err-right.ensures.1 (link_stopped c.args.link _ _ _ c.args.word c.args.rest.now c.args.room.now c.count.new.self _ c.requires c.in_ok-count.ensures.1 c.in_err-right.ensures)

pub linked-returns : goal.linked-returns
linked-returns t c = link_read c.args.link c.args.index _ _ c.args.word c.args.rest.now _ c.args.room.now c.count.new.self c.one_test.new.room c.push_test.new.self _ _ _ c.requires c.in_ok-count.ensures c.in_ok-right.ensures c.node-node.ensures c.push_test.ensures

pub one_test-returns-in_err-word : goal.one_test-returns-in_err-word
one_test-returns-in_err-word t c =
    let f = c.in_err-word.ensures in
    broken _ _ _ c.in_err-word.field-0.0 c.from_residual.ensures.1 (refused_at one_test _ _ _ _ _ _ refl (subst (λ x. Quiet (rules_of one_test) x) (sym f.1) tt) f.0)

pub one_test-returns-in_err-inside-in-OpenBracket : goal.one_test-returns-in_err-inside-in-OpenBracket
one_test-returns-in_err-inside-in-OpenBracket t c =
    let f = c.in_err-inside-in-OpenBracket.ensures in
    broken _ _ _ c.in_err-inside-in-OpenBracket.field-0.0 c.from_residual-in_err-inside-in-OpenBracket.ensures.1
    (stopped_at c.in_ok-word.ensures (stops_by _ _ (c.in_ok-word.word ∷ c.in_ok-word.rest.now) f.cause_is f.place_is (bracket_deep one_test close_bracket OpenBracket CloseBracket (one_test ∷ joined ∷ []) _ 0 _ _ (λ p. refl) (λ k. omega arith) (λ k. refl) refl refl refl c.in_ok-word.word c.in-OpenBracket.is c.in_ok-word.rest.now f.none_left)))

pub one_test-returns-in_err-inner-in-OpenBracket : goal.one_test-returns-in_err-inner-in-OpenBracket
one_test-returns-in_err-inner-in-OpenBracket t c =
    let d = c.in_ok-inside-in-OpenBracket.ensures in
    let f = from_inside d (λ l. Stopped (one_test ∷ joined ∷ []) l.scope l.left l.end c.args.room.now.counted c.in_ok-word.rest.now c.in_err-inner-in-OpenBracket.field-0.0) c.in_err-inner-in-OpenBracket.ensures in
    broken _ _ _ c.in_err-inner-in-OpenBracket.field-0.0 c.from_residual-in_err-inner-in-OpenBracket.ensures.1
    (stopped_at c.in_ok-word.ensures (stops_by _ _ f.words refl f.place_is (bracket_inner one_test close_bracket OpenBracket CloseBracket (one_test ∷ joined ∷ []) _ 0 _ _ (λ p. refl) (λ k. omega arith) (λ k. refl) refl refl refl c.in_ok-word.word c.in-OpenBracket.is c.in_ok-word.rest.now _ f.words (omega (arith, d.left)) f.stops)))

pub one_test-returns-in_err-behind-in-OpenBracket : goal.one_test-returns-in_err-behind-in-OpenBracket
one_test-returns-in_err-behind-in-OpenBracket t c =
    let d = c.in_ok-inside-in-OpenBracket.ensures in
    let r = from_inside d (λ l. TestRead (one_test ∷ joined ∷ []) Condition l.scope l.left c.in_ok-word.rest.now c.args.room.now c.condition.new.room c.in_ok-inner-in-OpenBracket.inner.index c.in_ok-inner-in-OpenBracket.inner.rest.now) c.in_ok-inner-in-OpenBracket.ensures in
    let f = c.in_err-behind-in-OpenBracket.ensures in
    broken _ _ _ c.in_err-behind-in-OpenBracket.field-0.0 c.from_residual-in_err-behind-in-OpenBracket.ensures.1
    (stopped_at c.in_ok-word.ensures (stops_by _ _ c.in_ok-inner-in-OpenBracket.inner.rest.now f.0.cause_is f.0.place_is (bracket_open one_test close_bracket OpenBracket CloseBracket (one_test ∷ joined ∷ []) _ _ _ _ (λ p. refl) (λ k. omega arith) (λ k. refl) refl refl refl c.in_ok-word.word c.in-OpenBracket.is c.in_ok-word.rest.now _ (omega (arith, d.left)) r.goes f.1)))

pub one_test-returns-in_ok-behind-in-OpenBracket : goal.one_test-returns-in_ok-behind-in-OpenBracket
one_test-returns-in_ok-behind-in-OpenBracket t c =
    let d = c.in_ok-inside-in-OpenBracket.ensures in
    let r = from_inside d (λ l. TestRead (one_test ∷ joined ∷ []) Condition l.scope l.left c.in_ok-word.rest.now c.args.room.now c.condition.new.room c.in_ok-inner-in-OpenBracket.inner.index c.in_ok-inner-in-OpenBracket.inner.rest.now) c.in_ok-inner-in-OpenBracket.ensures in
    let k = c.in_ok-behind-in-OpenBracket.ensures in
    read_at c.in_ok-word.ensures (group_read r (grouped c.in-OpenBracket.is r.derives k.1 (is_token k.0.token CloseBracket (lit≤ tt) refl k.2)) (bracket_goes one_test close_bracket OpenBracket CloseBracket (one_test ∷ joined ∷ []) _ _ _ _ (λ p. refl) (λ k. omega arith) (λ k. refl) refl refl refl c.in_ok-word.word c.in-OpenBracket.is c.in_ok-word.rest.now _ _ (omega (arith, d.left)) r.goes k))

pub condition-returns-in_err-read : goal.condition-returns-in_err-read
condition-returns-in_err-read t c = broken _ _ _ c.in_err-read.field-0.0 c.from_residual.ensures.1 (condition_stopped_first c.in_err-read.ensures)

pub condition-loop-link-init : goal.condition-loop-link-init
condition-loop-link-init t c = turned_none _ _ _ _ _

pub condition-returns-in_err-read-2 : goal.condition-returns-in_err-read-2
condition-returns-in_err-read-2 t c = broken _ _ _ c.in_err-read-2.field-0.0 c.from_residual-in_err-read-2.ensures.1 (condition_stopped c.in_ok-read.ensures c.loop-link.invariant (stopped_at c.in-Some.ensures.0 c.in_err-read-2.ensures))

pub condition-loop-link-smaller : goal.condition-loop-link-smaller
condition-loop-link-smaller t c =
    let j = c.in_ok-read-2.ensures in
    let w = ap length c.in-Some.ensures.0 in
    let v = ap length j.words in
    let s = tests_shorter j.derives in
    omega (arith, w, v, s)

pub condition-loop-link-preserved : goal.condition-loop-link-preserved
condition-loop-link-preserved t c = turned_more _ _ _ _ _ _ _ _ _ _ _ c.in-Some.link c.in-Some.word c.in-Some.rest.now c.loop-link.invariant c.in-Some.ensures.0 c.in-Some.ensures.1 c.in_ok-read-2.ensures

pub condition-returns : goal.condition-returns
condition-returns t c = condition_read _ _ _ _ _ _ _ _ _ _ c.in_ok-read.ensures c.loop-link.invariant c.in_default.ensures
