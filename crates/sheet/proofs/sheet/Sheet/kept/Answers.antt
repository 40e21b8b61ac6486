use Rattle.std.proofs.Common.{◌≡◌, ℕ, Bool, true, false, length, vec_items, sym, refl, ◌∙◌, arith}
use native.Mathlib.Nat.{ℕ_set}
use mathlib.Core.Logic.{∥∥₁_elim}
use Rattle.regular.specs.Words.{size, holding}
use Rattle.regular.specs.Sets.{keep}
use Rattle.sheet.specs.Sheets.{tree_of}
use Rattle.sheet.proofs.Leaves.{kept_all, leaf_answer}
use Rattle.sheet.proofs.Turns.{keep_turn}
use Rattle.sheet.proofs.sheet.Sheet.kept.Goals as goal
use Rattle.sheet.proofs.sheet.Sheet.kept.Goals.{then-has+then-asserted, else-has, else-has-via-then-has+else-asserted, else-has-via-else-has}

pub loop-place-preserved : goal.loop-place-preserved
loop-place-preserved c =
    let s = c.args.self.now in
    let m = c.args.moment.now in
    let k = c.loop-place.place in
    let p : ℕ → Bool = λ q. holding (tree_of s) q m in
    let v = c.deref-leaf-items.ensures.value in
    let i = c.loop-place.invariant in
    elim c.if-has.branch [
      | then-has+then-asserted w ↦ w.held-is ∙ w.with-held.ensures.small (omega arith) ∙ keep_turn p c.args.set k c.loop-place.held true true (sym w.if-has.ensures) (sym (leaf_answer s.stands _ k m _ true v c.loop-place-test.true w.if-asserted.ensures)) i
      | else-has w ↦ elim w.else-has.branch [
        | else-has-via-then-has+else-asserted u ↦ w.held-is ∙ keep_turn p c.args.set k c.loop-place.held true false (sym u.if-has.ensures) (sym (leaf_answer s.stands _ k m _ false v c.loop-place-test.true u.if-asserted.ensures)) i
        | else-has-via-else-has u ↦ w.held-is ∙ keep_turn p c.args.set k c.loop-place.held false (p k) (sym u.if-has.ensures) refl i
      ]
    ]

pub returns : goal.returns
returns c =
    let s = c.args.self.now in
    let p : ℕ → Bool = λ q. holding (tree_of s) q c.args.moment.now in
    let k : c.loop-place.place ≡ length (vec_items s.leaves) = omega (arith, s.leaves.ok, c.deref-leaf-items.ensures.len) in
    ∥∥₁_elim s.stands (ℕ_set c.loop-place.held (keep p c.args.set (size (tree_of s)))) (λ t. kept_all t p c.args.set c.loop-place.held c.loop-place.place k c.loop-place.invariant)
