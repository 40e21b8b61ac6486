use Rattle.std.proofs.Common.{◌≡◌, cond, ℤ, ◌≤ℤ◌, ◌∙◌, arith, w16, w32, to_z, of_z}
use Rattle.std.specs.Prelude.{int_lt}
use Rattle.std.specs.Int.{int_max, int_min}
use Rattle.std.proofs.lemmas.Bool.{cond_both}
use Rattle.std.proofs.lemmas.Int.{ints, int_max_is, int_min_is}
use Rattle.traces.proofs.Spans.{range_ordered}
use Rattle.traces.proofs.range.Range.keep.Goals as goal

-- the nearer end by comparing is the nearer end by least and greatest
nearer : (low high v z : ℤ) → low ≤ℤ high → z ≡ int_max low (int_min v high) → z ≡ cond (int_lt v low) low (cond (int_lt high v) high v)
nearer low high v z h e =
    let m = int_max_is low (int_min v high) in
    let n = int_min_is v high in
    cond_both (int_lt v low) low (cond (int_lt high v) high v) (λ x. z ≡ x) (λ t. omega (arith, ints))
    (λ t. cond_both (int_lt high v) high v (λ x. z ≡ x) (λ u. omega (arith, ints)) (λ u. omega (arith, ints)))

pub returns : goal.returns
returns c =
    let r = c.args.self.now in
    let o = range_ordered r in
    let v = c.clamp.ensures.value in
    let low : to_z w32 (of_z w32 c.from.result) ≡ r.low = omega (arith, ints) in
    let high : to_z w32 (of_z w32 c.from-2.result) ≡ r.high = omega (arith, ints) in
    let same : to_z w32 (of_z w32 c.args.value) ≡ c.args.value = omega (arith, ints) in
    let k = nearer r.low r.high c.args.value c.clamp.result (omega (arith, ints)) (rw (low, high, same) at v) in
    let g = c.clamp.ensures.lower_bound in
    let h = c.clamp.ensures.upper_bound in
    let back : to_z w16 (of_z w16 (to_z w32 (of_z w32 c.clamp.result))) ≡ c.clamp.result = omega (arith, ints) in
    back ∙ k
