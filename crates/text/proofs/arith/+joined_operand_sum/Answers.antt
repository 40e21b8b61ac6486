use Rattle.std.proofs.Common.{[], ◌∷◌, length, sym, refl, ap, subst, arith, lit≤}
use Rattle.text.specs.declared.word.Token.TheVariants.{OpenParen, CloseParen}
use Rattle.grammar.specs.Grammars.{Quiet}
use Rattle.text.specs.Derivations.{Sum}
use Rattle.text.specs.Outcomes.{ArithRead, Stopped}
use Rattle.text.specs.Table.{operand, more, close_paren, rules_of}
use Rattle.text.proofs.Tests.{is_token}
use Rattle.text.proofs.Going.{bracket_goes, bracket_deep, bracket_inner, bracket_open, quiet_operand}
use Rattle.text.proofs.Parts.{broken, stops_by, from_inside, stopped_at, read_at, refused_at, join_many, join_stopped, join_read, turned_none, turned_more, sum_read, sum_stopped, sum_stopped_first, group_read, grouped, shorter}
use Rattle.text.proofs.arith.+joined_operand_sum.Goals as goal

pub joined-returns-in_err-count : goal.joined-returns-in_err-count
joined-returns-in_err-count t c =
    let f = c.in_err-count.ensures.1 in
    broken _ _ _ c.in_err-count.field-0.0 c.from_residual.ensures.1 (stops_by _ _ (c.args.word ∷ c.args.rest.now) f.cause_is f.place_is (join_many c.args.join _ _ _ c.args.word c.args.rest.now c.requires f.full))

pub joined-returns-in_err-right : goal.joined-returns-in_err-right
joined-returns-in_err-right t c = broken _ _ _ c.in_err-right.field-0.0 c.from_residual-in_err-right.ensures.1 (join_stopped c.args.join _ _ _ c.args.word c.args.rest.now c.args.room.now c.count.new.self _ c.requires c.in_ok-count.ensures.1 c.in_err-right.ensures)

pub joined-returns : goal.joined-returns
joined-returns t c = join_read c.args.join c.args.index _ _ c.args.word c.args.rest.now _ c.args.room.now c.count.new.self c.operand.new.room c.push_arith.new.self _ _ _ c.requires c.in_ok-count.ensures c.in_ok-right.ensures c.node-node.ensures c.push_arith.ensures

pub operand-returns-in_err-word : goal.operand-returns-in_err-word
operand-returns-in_err-word t c =
    let f = c.in_err-word.ensures in
    broken _ _ _ c.in_err-word.field-0.0 c.from_residual.ensures.1 (refused_at operand _ _ _ _ _ _ refl (subst (λ x. Quiet (rules_of operand) x) (sym f.1) tt) f.0)

pub operand-returns-in_err-inside-in-OpenParen : goal.operand-returns-in_err-inside-in-OpenParen
operand-returns-in_err-inside-in-OpenParen t c =
    let f = c.in_err-inside-in-OpenParen.ensures in
    broken _ _ _ c.in_err-inside-in-OpenParen.field-0.0 c.from_residual-in_err-inside-in-OpenParen.ensures.1
    (stopped_at c.in_ok-word.ensures (stops_by _ _ (c.in_ok-word.word ∷ c.in_ok-word.rest.now) f.cause_is f.place_is (bracket_deep operand close_paren OpenParen CloseParen (operand ∷ more ∷ []) _ 0 _ _ (λ p. refl) (λ k. omega arith) (λ k. refl) refl refl refl c.in_ok-word.word c.in-OpenParen.is c.in_ok-word.rest.now f.none_left)))

pub operand-returns-in_err-inner-in-OpenParen : goal.operand-returns-in_err-inner-in-OpenParen
operand-returns-in_err-inner-in-OpenParen t c =
    let d = c.in_ok-inside-in-OpenParen.ensures in
    let f = from_inside d (λ l. Stopped (operand ∷ more ∷ []) l.scope l.left l.end c.args.room.now.counted c.in_ok-word.rest.now c.in_err-inner-in-OpenParen.field-0.0) c.in_err-inner-in-OpenParen.ensures in
    broken _ _ _ c.in_err-inner-in-OpenParen.field-0.0 c.from_residual-in_err-inner-in-OpenParen.ensures.1
    (stopped_at c.in_ok-word.ensures (stops_by _ _ f.words refl f.place_is (bracket_inner operand close_paren OpenParen CloseParen (operand ∷ more ∷ []) _ 0 _ _ (λ p. refl) (λ k. omega arith) (λ k. refl) refl refl refl c.in_ok-word.word c.in-OpenParen.is c.in_ok-word.rest.now _ f.words (omega (arith, d.left)) f.stops)))

pub operand-returns-in_err-behind-in-OpenParen : goal.operand-returns-in_err-behind-in-OpenParen
operand-returns-in_err-behind-in-OpenParen t c =
    let d = c.in_ok-inside-in-OpenParen.ensures in
    let r = from_inside d (λ l. ArithRead (operand ∷ more ∷ []) Sum l.scope l.left c.in_ok-word.rest.now c.args.room.now c.sum.new.room c.in_ok-inner-in-OpenParen.inner.index c.in_ok-inner-in-OpenParen.inner.rest.now) c.in_ok-inner-in-OpenParen.ensures in
    let f = c.in_err-behind-in-OpenParen.ensures in
    broken _ _ _ c.in_err-behind-in-OpenParen.field-0.0 c.from_residual-in_err-behind-in-OpenParen.ensures.1
    (stopped_at c.in_ok-word.ensures (stops_by _ _ c.in_ok-inner-in-OpenParen.inner.rest.now f.0.cause_is f.0.place_is (bracket_open operand close_paren OpenParen CloseParen (operand ∷ more ∷ []) _ _ _ _ (λ p. refl) (λ k. omega arith) (λ k. refl) refl refl refl c.in_ok-word.word c.in-OpenParen.is c.in_ok-word.rest.now _ (omega (arith, d.left)) r.goes f.1)))

pub operand-returns-in_ok-behind-in-OpenParen : goal.operand-returns-in_ok-behind-in-OpenParen
operand-returns-in_ok-behind-in-OpenParen t c =
    let d = c.in_ok-inside-in-OpenParen.ensures in
    let r = from_inside d (λ l. ArithRead (operand ∷ more ∷ []) Sum l.scope l.left c.in_ok-word.rest.now c.args.room.now c.sum.new.room c.in_ok-inner-in-OpenParen.inner.index c.in_ok-inner-in-OpenParen.inner.rest.now) c.in_ok-inner-in-OpenParen.ensures in
    let k = c.in_ok-behind-in-OpenParen.ensures in
    read_at c.in_ok-word.ensures (group_read r (grouped c.in-OpenParen.is r.derives k.1 (is_token k.0.token CloseParen (lit≤ tt) refl k.2)) (bracket_goes operand close_paren OpenParen CloseParen (operand ∷ more ∷ []) _ _ _ _ (λ p. refl) (λ k. omega arith) (λ k. refl) refl refl refl c.in_ok-word.word c.in-OpenParen.is c.in_ok-word.rest.now _ _ (omega (arith, d.left)) r.goes k))

pub operand-returns-in_default : goal.operand-returns-in_default
operand-returns-in_default t c = refused_at operand _ _ _ _ _ _ refl (subst (λ x. Quiet (rules_of operand) x) (sym c.in_ok-word.ensures) (quiet_operand c.in_ok-word.word c.in_ok-word.rest.now c.in_default.not-Number c.in_default.not-Current c.in_default.not-Initial c.in_default.not-OpenParen)) c.unexpected.ensures

pub sum-returns-in_err-read : goal.sum-returns-in_err-read
sum-returns-in_err-read t c = broken _ _ _ c.in_err-read.field-0.0 c.from_residual.ensures.1 (sum_stopped_first c.in_err-read.ensures)

pub sum-loop-join-init : goal.sum-loop-join-init
sum-loop-join-init t c = turned_none _ _ _ _ _

pub sum-returns-in_err-read-2 : goal.sum-returns-in_err-read-2
sum-returns-in_err-read-2 t c = broken _ _ _ c.in_err-read-2.field-0.0 c.from_residual-in_err-read-2.ensures.1 (sum_stopped c.in_ok-read.ensures c.loop-join.invariant (stopped_at c.in-Some.ensures.0 c.in_err-read-2.ensures))

pub sum-loop-join-smaller : goal.sum-loop-join-smaller
sum-loop-join-smaller t c =
    let j = c.in_ok-read-2.ensures in
    let w = ap length c.in-Some.ensures.0 in
    let v = ap length j.words in
    let s = shorter j.derives in
    omega (arith, w, v, s)

pub sum-loop-join-preserved : goal.sum-loop-join-preserved
sum-loop-join-preserved t c = turned_more _ _ _ _ _ _ _ _ _ _ _ c.in-Some.join c.in-Some.word c.in-Some.rest.now c.loop-join.invariant c.in-Some.ensures.0 c.in-Some.ensures.1 c.in_ok-read-2.ensures

pub sum-returns : goal.sum-returns
sum-returns t c = sum_read _ _ _ _ _ _ _ _ _ _ c.in_ok-read.ensures c.loop-join.invariant c.in_default.ensures
