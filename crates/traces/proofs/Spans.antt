-- The values of a range: which they are. Assumes nothing.
use Rattle.std.proofs.Common.{◌≡◌, ℕ, zero, suc, true, false, ℤ, pos, negsuc, ◌+ℤ◌, ◌≤ℤ◌, ◌<ℤ◌, inl, inr, arith}
use mathlib.Core.HLevel.{is_prop→PathP}
use mathlib.Core.Bool.{Bool-set}
use lib.Signed.{le_z}
use Rattle.std.proofs.lemmas.Bool.{and_parts, and_from, cases_Bool}
use Rattle.std.proofs.lemmas.Int.{ints, by_lt_z}
use Rattle.model.specs.Cells.{In}
use Rattle.traces.specs.declared.range.Range.{Range}
use Rattle.traces.specs.Proper.{proper}
use Rattle.traces.specs.Tables.{upward, above, span}

-- what holds of the four numbers of a range
pub record Ordered (low high from to : ℤ) : Type 0 where
  pub floor : negsuc 999 ≤ℤ low
  pub ceiling : high ≤ℤ pos 1000
  pub first : low ≤ℤ from
  pub some : from ≤ℤ to
  pub last : to ≤ℤ high
  pub narrow : high ≤ℤ (low +ℤ pos 63)

pub yes_le : (x y : ℤ) → le_z x y ≡ true → x ≤ℤ y
yes_le x y e = omega (arith, ints)

pub ordered : (low high from to : ℤ) → proper low high from to ≡ true → Ordered low high from to
ordered l h f t e =
    let p = and_parts _ _ e in
    let q = and_parts _ _ p.1 in
    let r = and_parts _ _ q.1 in
    let s = and_parts _ _ r.1 in
    let u = and_parts _ _ s.1 in
    record { floor = yes_le _ _ p.0; ceiling = yes_le _ _ q.0; first = yes_le _ _ r.0; some = yes_le _ _ s.0; last = yes_le _ _ u.0; narrow = yes_le _ _ u.1 }

pub range_ordered : (r : Range) → Ordered r.low r.high r.from r.to
range_ordered r = ordered _ _ _ _ r.sound

pub above_is : (low v : ℤ) → low ≤ℤ v → low +ℤ pos (above low v) ≡ v
above_is low v h = omega (arith, ints)

pub upward_has : (z v : ℤ) (n : ℕ) → z ≤ℤ v → v <ℤ (z +ℤ pos n) → In v (upward z n)
upward_has z v zero g h = absurd (omega (arith, ints))
upward_has z v (suc n) g h = by_lt_z z v (λ l. inr (upward_has (z +ℤ pos 1) v n (omega (arith, ints)) (omega (arith, ints)))) (λ l. inl (omega (arith, ints)))

pub upward_only : (z v : ℤ) (n : ℕ) → In v (upward z n) → (z ≤ℤ v) × (v <ℤ (z +ℤ pos n))
upward_only z v zero m = absurd m
upward_only z v (suc n) (inl e) = (omega (arith, ints), omega (arith, ints))
upward_only z v (suc n) (inr m) = let k = upward_only (z +ℤ pos 1) v n m in (omega (arith, ints), omega (arith, ints))

pub wide : (r : Range) → r.low +ℤ pos (above r.low r.high) ≡ r.high
wide r = let o = range_ordered r in above_is r.low r.high (omega (arith, ints))

pub span_has : (r : Range) (v : ℤ) → r.low ≤ℤ v → v ≤ℤ r.high → In v (span r)
span_has r v g h = upward_has r.low v (suc (above r.low r.high)) g (let e = wide r in omega (arith, ints))

pub span_only : (r : Range) (v : ℤ) → In v (span r) → (r.low ≤ℤ v) × (v ≤ℤ r.high)
span_only r v m =
    let e = wide r in
    let k = upward_only r.low v (suc (above r.low r.high)) m in
    (k.0, omega (arith, ints))

pub improper : (low high from to : ℤ) → (Ordered low high from to → ⊥) → proper low high from to ≡ false
improper l h f t n = elim (cases_Bool (proper l h f t)) [ inl e ↦ absurd (n (ordered l h f t e)) | inr e ↦ e ]

pub le_yes : (x y : ℤ) → x ≤ℤ y → le_z x y ≡ true
le_yes x y h = grind (arith, ints)

pub is_proper : (low high from to : ℤ) → Ordered low high from to → proper low high from to ≡ true
is_proper l h f t o =
    and_from _ _ (le_yes _ _ o.floor) (and_from _ _ (le_yes _ _ o.ceiling) (and_from _ _ (le_yes _ _ o.first)
    (and_from _ _ (le_yes _ _ o.some) (and_from _ _ (le_yes _ _ o.last) (le_yes _ _ o.narrow)))))

-- a range is its four numbers
pub same_range : (r q : Range) → r.low ≡ q.low → r.high ≡ q.high → r.from ≡ q.from → r.to ≡ q.to → r ≡ q
same_range r q a b c d = λ i. record { low = a i; high = b i; from = c i; to = d i; sound = is_prop→PathP (λ j. proper (a j) (b j) (c j) (d j) ≡ true) (λ j. Bool-set (proper (a j) (b j) (c j) (d j)) true) r.sound q.sound i }
