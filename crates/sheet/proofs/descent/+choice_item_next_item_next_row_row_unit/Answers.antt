use Rattle.std.proofs.Common.{[], ◌∷◌, length, sym, ap, subst, arith}
use Rattle.std.proofs.lemmas.Result.{MatchResult-weaker}
use Rattle.text.proofs.Parts.{broken}
use Rattle.text.specs.Table.{unit as unit_item}
use Rattle.sheet.specs.Texts.{NoItem}
use Rattle.sheet.specs.Owed.{Stops}
use Rattle.sheet.proofs.Items.{stopped_at}
use Rattle.sheet.proofs.Rows.{unit_at, item_read, item_unit_stopped, item_repeats_stopped, next_item, rowing_more, row_read, row_first_stopped, row_stopped, next_row, next_row_stopped, next_row_many, choosing_more, choice_read, choice_stopped, group_read, group_inner_stopped, group_open, group_deep, unit_refused, shorter, free_bar, is_bar}
use Rattle.sheet.proofs.descent.+choice_item_next_item_next_row_row_unit.Goals as goal

pub choice-returns-in_err-read-2 : goal.choice-returns-in_err-read-2
choice-returns-in_err-read-2 t c = broken _ _ _ c.in_err-read-2.field-0.0 c.from_residual-in_err-read-2.ensures.1 (choice_stopped _ _ _ _ _ _ _ _ _ c.in-Some.word c.in-Some.rest.now _ _ c.in_ok-read.ensures c.loop-word.invariant c.in-Some.ensures.0 c.in_err-read-2.ensures)

pub choice-loop-word-smaller : goal.choice-loop-word-smaller
choice-loop-word-smaller t c =
    let n = c.in_ok-read-2.ensures in
    let w = ap length c.in-Some.ensures.0 in
    let s = shorter n.derives in
    omega (arith, w, s)

pub choice-loop-word-preserved : goal.choice-loop-word-preserved
choice-loop-word-preserved t c = choosing_more _ _ _ _ _ _ _ c.in-Some.word c.in-Some.rest.now _ _ _ c.loop-word.invariant c.in-Some.ensures.0 (is_bar c.in-Some.word c.in-Some.ensures.1) c.in_ok-read-2.ensures

pub choice-returns : goal.choice-returns
choice-returns t c = choice_read _ _ _ _ _ _ _ _ _ c.in_ok-read.ensures c.loop-word.invariant (free_bar _ c.in_default.ensures)

pub item-returns-in_err-bare : goal.item-returns-in_err-bare
item-returns-in_err-bare t c = broken _ _ _ c.in_err-bare.field-0.0 c.from_residual.ensures.1 (item_unit_stopped c.args.draft.now c.args.limits.left c.args.words.now c.args.limits.end _ c.in_err-bare.ensures)

pub item-returns : goal.item-returns
item-returns t c =
    let u = c.in_ok-bare.ensures in
    MatchResult-weaker c.repeats.result c.repeats.ensures
    (λ r q. item_read _ _ _ _ _ _ _ _ _ u q)
    (λ f s. item_repeats_stopped _ _ _ _ _ _ c.args.limits.end f u (s c.args.limits.end))

pub next_item-returns : goal.next_item-returns
next_item-returns t c = next_item _ _ _ _ _ _ _ _ _ c.in_ok-next.ensures c.push.ensures

pub next_row-returns-in_err-count_sign : goal.next_row-returns-in_err-count_sign
next_row-returns-in_err-count_sign t c = broken _ _ _ c.in_err-count_sign.field-0.0 c.from_residual.ensures.1 (next_row_many c.args.draft.now c.args.limits.left c.args.word c.requires c.args.rest.now c.args.limits.end _ c.in_err-count_sign.ensures)

pub next_row-returns-in_err-next : goal.next_row-returns-in_err-next
next_row-returns-in_err-next t c =
    let s = c.in_ok-count_sign.ensures in
    broken _ _ _ c.in_err-next.field-0.0 c.from_residual-in_err-next.ensures.1 (next_row_stopped c.args.draft.now c.count_sign.new.self c.args.limits.left c.args.word c.requires c.args.rest.now s.0 s.1 c.args.limits.end _ c.in_err-next.ensures)

pub next_row-returns : goal.next_row-returns
next_row-returns t c =
    let s = c.in_ok-count_sign.ensures in
    next_row c.args.draft.now c.count_sign.new.self c.args.limits.left c.args.word c.requires c.args.rest.now s.0 s.1 c.args.index _ _ _ _ _ c.in_ok-next.ensures c.push.ensures

pub row-returns-in_err-read : goal.row-returns-in_err-read
row-returns-in_err-read t c = broken _ _ _ c.in_err-read.field-0.0 c.from_residual.ensures.1 (row_first_stopped c.args.draft.now c.args.limits.left c.args.words.now c.args.limits.end _ c.in_err-read.ensures)

pub row-returns-in_err-read-2 : goal.row-returns-in_err-read-2
row-returns-in_err-read-2 t c = broken _ _ _ c.in_err-read-2.field-0.0 c.from_residual-in_err-read-2.ensures.1 (row_stopped _ _ _ _ _ _ _ _ _ _ _ c.in_ok-read.ensures c.loop-limits.invariant c.loop-limits-test.ensures c.in_err-read-2.ensures)

pub row-loop-limits-smaller : goal.row-loop-limits-smaller
row-loop-limits-smaller t c =
    let n = c.in_ok-read-2.ensures in
    let p = shorter n.derives in
    let q = shorter n.repeating in
    omega (arith, p, q)

pub row-loop-limits-preserved : goal.row-loop-limits-preserved
row-loop-limits-preserved t c = rowing_more _ _ _ _ _ _ _ _ _ _ c.loop-limits.invariant c.loop-limits-test.ensures c.in_ok-read-2.ensures

pub row-returns : goal.row-returns
row-returns t c = row_read _ _ _ _ _ _ _ _ _ c.in_ok-read.ensures c.loop-limits.invariant c.loop-limits-test.ensures

pub unit-returns-in_err-word : goal.unit-returns-in_err-word
unit-returns-in_err-word t c =
    let f = c.in_err-word.ensures in
    broken _ _ _ c.in_err-word.field-0.0 c.from_residual.ensures.1 (unit_refused c.args.draft.now c.args.limits.left c.args.words.now c.args.limits.end _ (subst NoItem (sym f.1) tt) f.0)

pub unit-returns-in_err-inside-in-OpenParen : goal.unit-returns-in_err-inside-in-OpenParen
unit-returns-in_err-inside-in-OpenParen t c =
    broken _ _ _ c.in_err-inside-in-OpenParen.field-0.0 c.from_residual-in_err-inside-in-OpenParen.ensures.1
    (stopped_at (Stops c.args.draft.now c.args.limits.left (unit_item ∷ [])) c.args.limits.end _ c.args.words.now _ c.in_ok-word.ensures (group_deep c.args.draft.now c.args.limits c.in_ok-word.word c.in-OpenParen.is c.in_ok-word.rest.now c.args.limits.end _ c.in_err-inside-in-OpenParen.ensures))

pub unit-returns-in_err-inner-in-OpenParen : goal.unit-returns-in_err-inner-in-OpenParen
unit-returns-in_err-inner-in-OpenParen t c =
    broken _ _ _ c.in_err-inner-in-OpenParen.field-0.0 c.from_residual-in_err-inner-in-OpenParen.ensures.1
    (stopped_at (Stops c.args.draft.now c.args.limits.left (unit_item ∷ [])) c.args.limits.end _ c.args.words.now _ c.in_ok-word.ensures (group_inner_stopped c.args.draft.now c.args.limits _ c.in_ok-word.word c.in-OpenParen.is c.in_ok-word.rest.now c.in_ok-inside-in-OpenParen.ensures _ c.in_err-inner-in-OpenParen.ensures))

pub unit-returns-in_err-behind-in-OpenParen : goal.unit-returns-in_err-behind-in-OpenParen
unit-returns-in_err-behind-in-OpenParen t c =
    let f = c.in_err-behind-in-OpenParen.ensures in
    broken _ _ _ c.in_err-behind-in-OpenParen.field-0.0 c.from_residual-in_err-behind-in-OpenParen.ensures.1
    (stopped_at (Stops c.args.draft.now c.args.limits.left (unit_item ∷ [])) c.args.limits.end _ c.args.words.now _ c.in_ok-word.ensures (group_open c.args.draft.now c.args.limits _ c.in_ok-word.word c.in-OpenParen.is c.in_ok-word.rest.now c.in_ok-inside-in-OpenParen.ensures _ _ _ c.args.limits.end _ c.in_ok-inner-in-OpenParen.ensures f.1 f.0))

pub unit-returns-in_ok-behind-in-OpenParen : goal.unit-returns-in_ok-behind-in-OpenParen
unit-returns-in_ok-behind-in-OpenParen t c = unit_at _ _ c.in_ok-word.ensures (group_read c.args.draft.now c.args.limits _ c.in_ok-word.word c.in-OpenParen.is c.in_ok-word.rest.now c.in_ok-inside-in-OpenParen.ensures _ _ _ _ c.in_ok-inner-in-OpenParen.ensures c.in_ok-behind-in-OpenParen.ensures)

pub unit-returns-in_default : goal.unit-returns-in_default
unit-returns-in_default t c = unit_refused c.args.draft.now c.args.limits.left c.args.words.now c.args.limits.end _ (subst NoItem (sym c.in_ok-word.ensures) ((c.in_default.not-Empty, (c.in_default.not-OpenParen, (c.in_default.not-Question, tt))), c.in_default.not-Number)) c.unexpected.ensures
