-- The start codes: the codes of the settings, ascending. Assumes nothing.
use Rattle.std.proofs.Common.{◌≡◌, ℕ, zero, suc, ◌+◌, ◌*◌, ◌<◌, ◌≤◌, ◌⊎◌, List, [], ◌∷◌, ◌++◌, length, ℤ, pos, ◌+ℤ◌, ◌≤ℤ◌, Some, None, sym, refl, ap, ◌∙◌, subst, inl, inr, mul-suc, arith, length-append}
use Rattle.std.proofs.lemmas.Bool.{cases_eq}
use Rattle.std.proofs.lemmas.Int.{ints}
use Rattle.model.specs.Cells.{In, at}
use Rattle.traces.specs.declared.range.Range.{Range}
use Rattle.traces.specs.Traces.{Setting}
use Rattle.traces.specs.Tables.{above}
use Rattle.traces.specs.Codes.{packed, digits, below, start_codes, settings, Rises}
use Rattle.traces.proofs.Spans.{range_ordered, above_is, wide}
use Rattle.traces.proofs.Packing.{narrow, above_plus}

pub in_left : {A : Type 0} (x : A) (xs ys : List A) → In x xs → In x (xs ++ ys)
in_left x [] ys m = absurd m
in_left x (y ∷ xs) ys (inl e) = inl e
in_left x (y ∷ xs) ys (inr m) = inr (in_left x xs ys m)

pub in_right : {A : Type 0} (x : A) (xs ys : List A) → In x ys → In x (xs ++ ys)
in_right x [] ys m = m
in_right x (y ∷ xs) ys m = inr (in_right x xs ys m)

pub in_either : {A : Type 0} (x : A) (xs ys : List A) → In x (xs ++ ys) → In x xs ⊎ In x ys
in_either x [] ys m = inr m
in_either x (y ∷ xs) ys (inl e) = inl (inl e)
in_either x (y ∷ xs) ys (inr m) = elim (in_either x xs ys m) [ inl k ↦ inl (inr k) | inr k ↦ inr k ]

digits_has : (d n c k : ℕ) → d ≤ k → k < d + n → In (k + 64 * c) (digits d n c)
digits_has d zero c k g h = absurd (omega arith)
digits_has d (suc n) c k g h =
    elim (cases_eq k d) [ inl e ↦ inl (omega arith) | inr e ↦ inr (digits_has (suc d) n c k (omega arith) (omega arith)) ]

digits_only : (d n c x : ℕ) → In x (digits d n c) → (k : ℕ) × (d ≤ k) × (k < d + n) × (x ≡ k + 64 * c)
digits_only d zero c x m = absurd m
digits_only d (suc n) c x (inl e) = (d, omega arith, omega arith, e)
digits_only d (suc n) c x (inr m) = let k = digits_only (suc d) n c x m in (k.0, omega (arith, k.1), omega (arith, k.2), k.3)

below_has : (r : Range) (cs : List ℕ) (c k : ℕ) → In c cs → above r.low r.from ≤ k → k < above r.low r.from + suc (above r.from r.to) → In (k + 64 * c) (below r cs)
below_has r [] c k m g h = absurd m
below_has r (d ∷ cs) c k (inl e) g h = in_left (k + 64 * c) (digits (above r.low r.from) (suc (above r.from r.to)) d) (below r cs) (subst (λ y. In (k + 64 * c) (digits (above r.low r.from) (suc (above r.from r.to)) y)) e (digits_has _ _ c k g h))
below_has r (d ∷ cs) c k (inr m) g h = in_right (k + 64 * c) (digits (above r.low r.from) (suc (above r.from r.to)) d) (below r cs) (below_has r cs c k m g h)

below_only : (r : Range) (cs : List ℕ) (x : ℕ) → In x (below r cs)
    → (c : ℕ) × (k : ℕ) × In c cs × (above r.low r.from ≤ k) × (k < above r.low r.from + suc (above r.from r.to)) × (x ≡ k + 64 * c)
below_only r [] x m = absurd m
below_only r (d ∷ cs) x m =
    elim (in_either x (digits (above r.low r.from) (suc (above r.from r.to)) d) (below r cs) m) [
      | inl k ↦ let p = digits_only _ _ d x k in (d, p.0, inl refl, p.1, p.2, p.3)
      | inr k ↦ let p = below_only r cs x k in (p.0, p.1, inr p.2, p.3, p.4, p.5)
    ]

from_is : (r : Range) → r.low +ℤ pos (above r.low r.from) ≡ r.from
from_is r = let o = range_ordered r in above_is r.low r.from o.first

to_is : (r : Range) → r.from +ℤ pos (above r.from r.to) ≡ r.to
to_is r = let o = range_ordered r in above_is r.from r.to o.some

-- each setting's code is among the start codes
pub start_has : (rs : List Range) (ρ : List ℤ) → Setting rs ρ → In (packed rs ρ) (start_codes rs)
start_has [] [] s = inl refl
start_has [] (v ∷ vs) s = absurd s
start_has (r ∷ rs) [] s = absurd s
start_has (r ∷ rs) (v ∷ vs) s =
    let o = range_ordered r in
    let a = s.0 in
    let b = s.1 in
    let first = o.first in
    let g : r.low ≤ℤ v = omega (arith, ints) in
    let e = above_is r.low v g in
    let f = from_is r in
    let t = to_is r in
    below_has r (start_codes rs) (packed rs vs) (above r.low v) (start_has rs vs s.2) (omega (arith, ints)) (omega (arith, ints))

-- and there is no other
pub start_only : (rs : List Range) (x : ℕ) → In x (start_codes rs) → (ρ : List ℤ) × Setting rs ρ × (x ≡ packed rs ρ)
start_only [] x m = ([], tt, elim m [ inl e ↦ e | inr n ↦ absurd n ])
start_only (r ∷ rs) x m =
    let p = below_only r (start_codes rs) x m in
    let q = start_only rs p.0 p.2 in
    let k = p.1 in
    let a = p.3 in
    let b = p.4 in
    let f = from_is r in
    let t = to_is r in
    let e = above_plus r.low k in
    let eq = p.5 in
    let eq2 = q.2 in
    ((r.low +ℤ pos k) ∷ q.0, (omega (arith, ints), omega (arith, ints), q.1), omega arith)

digits_length : (d n c : ℕ) → length (digits d n c) ≡ n
digits_length d zero c = refl
digits_length d (suc n) c = ap suc (digits_length (suc d) n c)

below_length : (r : Range) (cs : List ℕ) → length (below r cs) ≡ suc (above r.from r.to) * length cs
below_length r [] = sym (native.Mathlib.Nat.mul-zero _)
below_length r (c ∷ cs) =
    let n = suc (above r.from r.to) in
    length-append (digits (above r.low r.from) n c) (below r cs)
    ∙ ap (λ m. m + length (below r cs)) (digits_length (above r.low r.from) n c)
    ∙ ap (λ m. n + m) (below_length r cs)
    ∙ (let e = mul-suc n (length cs) in omega arith)

pub start_length : (rs : List Range) → length (start_codes rs) ≡ settings rs
start_length [] = refl
start_length (r ∷ rs) = below_length r (start_codes rs) ∙ ap (λ m. suc (above r.from r.to) * m) (start_length rs)

-- ---- they rise
abbrev Above : ℕ → List ℕ → Type 0
Above x [] = Unit {0}
Above x (y ∷ ys) = x < y

rises_cons : (x : ℕ) (ys : List ℕ) → Above x ys → Rises ys → Rises (x ∷ ys)
rises_cons x [] a r = tt
rises_cons x (y ∷ ys) a r = (a, r)

rises_tail : (x : ℕ) (ys : List ℕ) → Rises (x ∷ ys) → Rises ys
rises_tail x [] r = tt
rises_tail x (y ∷ ys) r = r.1

rises_head : (x : ℕ) (ys : List ℕ) → Rises (x ∷ ys) → Above x ys
rises_head x [] r = tt
rises_head x (y ∷ ys) r = r.0

-- what stands behind the digits of c is above them all
above_digits : (d n c : ℕ) (ys : List ℕ) → d + n ≤ 64 → Above (64 * c + 63) ys → Rises ys → Rises (digits d n c ++ ys)
above_digits d zero c ys h a r = r
above_digits d (suc zero) c ys h a r = rises_cons (d + 64 * c) ys (lifted ys a) r
  where
    lifted : (zs : List ℕ) → Above (64 * c + 63) zs → Above (d + 64 * c) zs
    lifted [] b = tt
    lifted (z ∷ zs) b = omega arith
above_digits d (suc (suc n)) c ys h a r = (omega arith, above_digits (suc d) (suc n) c ys (omega arith) a r)

below_above : (r : Range) (c : ℕ) (cs : List ℕ) → Above c cs → Above (64 * c + 63) (below r cs)
below_above r c [] a = tt
below_above r c (d ∷ cs) a = omega arith

pub digits_room : (r : Range) → above r.low r.from + suc (above r.from r.to) ≤ 64
digits_room r =
    let o = range_ordered r in
    let n = narrow r in
    let f = from_is r in
    let t = to_is r in
    let w = wide r in
    let l = o.last in
    omega (arith, ints)

below_rises : (r : Range) (cs : List ℕ) → Rises cs → Rises (below r cs)
below_rises r [] h = tt
below_rises r (c ∷ cs) h =
    above_digits (above r.low r.from) (suc (above r.from r.to)) c (below r cs) (digits_room r) (below_above r c cs (rises_head c cs h)) (below_rises r cs (rises_tail c cs h))

pub start_rises : (rs : List Range) → Rises (start_codes rs)
start_rises [] = tt
start_rises (r ∷ rs) = below_rises r (start_codes rs) (start_rises rs)

-- ---- the code at a place
digits_at : (d n c p : ℕ) → p < n → at (digits d n c) p ≡ Some (d + p + 64 * c)
digits_at d zero c p h = absurd (omega arith)
digits_at d (suc n) c zero h = ap Some (omega arith)
digits_at d (suc n) c (suc p) h = digits_at (suc d) n c p (omega arith) ∙ ap Some (omega arith)

at_left : {A : Type 0} (xs ys : List A) (p : ℕ) → p < length xs → at (xs ++ ys) p ≡ at xs p
at_left [] ys p h = absurd (omega arith)
at_left (x ∷ xs) ys zero h = refl
at_left (x ∷ xs) ys (suc p) h = at_left xs ys p (omega arith)

at_right : {A : Type 0} (xs ys : List A) (p q : ℕ) → p ≡ length xs + q → at (xs ++ ys) p ≡ at ys q
at_right [] ys p q e = ap (λ k. at ys k) (omega arith)
at_right (x ∷ xs) ys zero q e = absurd (omega arith)
at_right (x ∷ xs) ys (suc p) q e = at_right xs ys p q (omega arith)

pub at_end : {A : Type 0} (xs : List A) (p : ℕ) → length xs ≤ p → at xs p ≡ None
at_end [] p h = refl
at_end (x ∷ xs) zero h = absurd (omega arith)
at_end (x ∷ xs) (suc p) h = at_end xs p (omega arith)

-- the code at a place of a register's starts over later ones
pub below_at : (r : Range) (cs : List ℕ) (n q p k c : ℕ) → n ≡ suc (above r.from r.to) → p ≡ n * q + k → k < n → at cs q ≡ Some c
    → at (below r cs) p ≡ Some (above r.low r.from + k + 64 * c)
below_at r [] n q p k c en e h a = absurd (let w : ◌≡◌ {A = ℕ} 0 1 = cc in omega arith)
below_at r (d ∷ cs) n zero p k c en e h a =
    let z = native.Mathlib.Nat.mul-zero n in
    let D = digits (above r.low r.from) (suc (above r.from r.to)) d in
    let l : p < length D = (let x = digits_length (above r.low r.from) (suc (above r.from r.to)) d in omega arith) in
    let pk : p ≡ k = omega arith in
    at_left D (below r cs) p l ∙ digits_at (above r.low r.from) (suc (above r.from r.to)) d p (omega arith) ∙ (let f : d ≡ c = cc in ap Some (omega arith))
below_at r (d ∷ cs) n (suc q) p k c en e h a =
    let z = mul-suc n q in
    let D = digits (above r.low r.from) (suc (above r.from r.to)) d in
    at_right D (below r cs) p (n * q + k) (let x = digits_length (above r.low r.from) (suc (above r.from r.to)) d in omega arith)
    ∙ below_at r cs n q (n * q + k) k c en refl h a
