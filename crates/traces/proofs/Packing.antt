-- Codes are packed and unpacked without loss. Assumes nothing.
use Rattle.std.proofs.Common.{◌≡◌, ℕ, zero, suc, ◌+◌, ◌*◌, ◌/◌, ◌%◌, ◌^◌, ◌<◌, ◌≤◌, true, leb, List, [], ◌∷◌, length, set, ℤ, pos, ◌+ℤ◌, ◌≤ℤ◌, sym, refl, arith}
use Rattle.std.proofs.lemmas.Bool.{and_parts, and_from, leb-true, le-leb, eqb-true}
use Rattle.std.proofs.lemmas.Int.{ints}
use Rattle.model.specs.Cells.{Limited}
use Rattle.traces.specs.declared.range.Range.{Range}
use Rattle.traces.specs.Traces.{State, range_at, kept, stored, Setting}
use Rattle.traces.specs.Tables.{above}
use Rattle.traces.specs.Codes.{packed, code, unpacked, in_range, state_of, is_state}
use Rattle.traces.proofs.Spans.{range_ordered, above_is, wide}

-- every value is in its range
abbrev pub Fits : List Range → List ℤ → Type 0
Fits [] [] = Unit {0}
Fits [] (v ∷ vs) = ⊥
Fits (r ∷ rs) [] = ⊥
Fits (r ∷ rs) (v ∷ vs) = (r.low ≤ℤ v) × (v ≤ℤ r.high) × Fits rs vs

-- the digit of a value in range
pub above_le : (r : Range) (v : ℤ) → r.low ≤ℤ v → v ≤ℤ r.high → above r.low v ≤ above r.low r.high
above_le r v g h = let e = above_is r.low v g in let f = wide r in omega (arith, ints)

pub narrow : (r : Range) → above r.low r.high ≤ 63
narrow r = let o = range_ordered r in let n = o.narrow in let f = wide r in omega (arith, ints)

pub above_plus : (z : ℤ) (n : ℕ) → above z (z +ℤ pos n) ≡ n
above_plus z n = let h : z ≤ℤ (z +ℤ pos n) = omega (arith, ints) in let e = above_is z (z +ℤ pos n) h in omega (arith, ints)

low_digit : (d m : ℕ) → d ≤ 63 → (d + 64 * m) % 64 ≡ d
low_digit d m h = omega arith

high_digits : (d m : ℕ) → d ≤ 63 → (d + 64 * m) / 64 ≡ m
high_digits d m h = omega arith

pub packed_below : (rs : List Range) (ρ : List ℤ) → Fits rs ρ → packed rs ρ < 64 ^ length rs
packed_below [] [] f = omega arith
packed_below [] (v ∷ vs) f = absurd f
packed_below (r ∷ rs) [] f = absurd f
packed_below (r ∷ rs) (v ∷ vs) f =
    let h = packed_below rs vs f.2 in
    let a = above_le r v f.0 f.1 in
    let n = narrow r in
    rw pow_more (omega arith)
  where
    pow_more : 64 ^ suc (length rs) ≡ 64 ^ length rs * 64
    pow_more = native.Mathlib.Nat.pow-suc 64 (length rs)

pub unpacked_packed : (rs : List Range) (ρ : List ℤ) → Fits rs ρ → unpacked rs (packed rs ρ) ≡ ρ
unpacked_packed [] [] f = refl
unpacked_packed [] (v ∷ vs) f = absurd f
unpacked_packed (r ∷ rs) [] f = absurd f
unpacked_packed (r ∷ rs) (v ∷ vs) f =
    let d = above_le r v f.0 f.1 in
    let n = narrow r in
    let l : above r.low v ≤ 63 = omega arith in
    let e = low_digit (above r.low v) (packed rs vs) l in
    let g = high_digits (above r.low v) (packed rs vs) l in
    let v' = above_is r.low v f.0 in
    let ih = unpacked_packed rs vs f.2 in
    rw (e, g, v', ih)

pub in_range_packed : (rs : List Range) (ρ : List ℤ) → Fits rs ρ → in_range rs (packed rs ρ) ≡ true
in_range_packed [] [] f = refl
in_range_packed [] (v ∷ vs) f = absurd f
in_range_packed (r ∷ rs) [] f = absurd f
in_range_packed (r ∷ rs) (v ∷ vs) f =
    let d = above_le r v f.0 f.1 in
    let n = narrow r in
    let l : above r.low v ≤ 63 = omega arith in
    let e = low_digit (above r.low v) (packed rs vs) l in
    let g = high_digits (above r.low v) (packed rs vs) l in
    rw (e, g) (and_from _ _ (le-leb _ _ d) (in_range_packed rs vs f.2))

pub unpacked_fits : (rs : List Range) (n : ℕ) → in_range rs n ≡ true → Fits rs (unpacked rs n)
unpacked_fits [] n e = tt
unpacked_fits (r ∷ rs) n e =
    let p = and_parts (leb (n % 64) (above r.low r.high)) (in_range rs (n / 64)) e in
    let d = leb-true (n % 64) (above r.low r.high) p.0 in
    let w = wide r in
    (omega (arith, ints), omega (arith, ints), unpacked_fits rs (n / 64) p.1)

pub packed_unpacked : (rs : List Range) (n : ℕ) → in_range rs n ≡ true → packed rs (unpacked rs n) ≡ n
packed_unpacked [] n e = sym (eqb-true _ _ e)
packed_unpacked (r ∷ rs) n e =
    let p = and_parts (leb (n % 64) (above r.low r.high)) (in_range rs (n / 64)) e in
    let ih = packed_unpacked rs (n / 64) p.1 in
    let a = above_plus r.low (n % 64) in
    omega arith

-- a register keeps a value in its range
pub kept_fits : (r : Range) (z : ℤ) → (r.low ≤ℤ kept r z) × (kept r z ≤ℤ r.high)
kept_fits r z = let w = wide r in (grind (arith, ints), grind (arith, ints))

pub set_fits : (rs : List Range) (ρ : List ℤ) (x : ℕ) (v : ℤ) → Fits rs ρ → (range_at rs x).low ≤ℤ v → v ≤ℤ (range_at rs x).high → Fits rs (set ρ x v)
set_fits [] [] x v f g h = tt
set_fits [] (w ∷ ws) x v f g h = absurd f
set_fits (r ∷ rs) [] x v f g h = absurd f
set_fits (r ∷ rs) (w ∷ ws) zero v f g h = (g, h, f.2)
set_fits (r ∷ rs) (w ∷ ws) (suc x) v f g h = (f.0, f.1, set_fits rs ws x v f.2 g h)

pub stored_fits : (rs : List Range) (ρ : List ℤ) (x : ℕ) (z : ℤ) → Fits rs ρ → Fits rs (stored rs ρ x z)
stored_fits rs ρ x z f = let k = kept_fits (range_at rs x) z in set_fits rs ρ x _ f k.0 k.1

pub setting_fits : (rs : List Range) (ρ : List ℤ) → Setting rs ρ → Fits rs ρ
setting_fits [] [] s = tt
setting_fits [] (v ∷ vs) s = absurd s
setting_fits (r ∷ rs) [] s = absurd s
setting_fits (r ∷ rs) (v ∷ vs) s =
    let o = range_ordered r in
    let a = o.first in
    let b = o.last in
    let c = s.0 in
    let d = s.1 in
    (omega (arith, ints), omega (arith, ints), setting_fits rs vs s.2)

pub fits_limited : (rs : List Range) (ρ : List ℤ) → Fits rs ρ → Limited ρ
fits_limited [] [] f = tt
fits_limited [] (v ∷ vs) f = absurd f
fits_limited (r ∷ rs) [] f = absurd f
fits_limited (r ∷ rs) (v ∷ vs) f =
    let o = range_ordered r in
    let a = o.floor in
    let b = o.ceiling in
    let c = f.0 in
    let d = f.1 in
    (omega (arith, ints), omega (arith, ints), fits_limited rs vs f.2)

-- a state's code, with six registers
module _ (rs : List Range) (six : length rs ≡ 6) where
  pub packed_small : (ρ : List ℤ) → Fits rs ρ → packed rs ρ < 2 ^ 36
  packed_small ρ f = let h = packed_below rs ρ f in (rw six at h)

  pub label_of : (σ : State) → Fits rs σ.values → code rs σ / 2 ^ 36 ≡ σ.label
  label_of σ f = let h = packed_small σ.values f in omega arith

  pub sum_of : (σ : State) → Fits rs σ.values → code rs σ % 2 ^ 36 ≡ packed rs σ.values
  sum_of σ f = let h = packed_small σ.values f in omega arith

  pub state_of_code : (σ : State) → Fits rs σ.values → state_of rs (code rs σ) ≡ σ
  state_of_code σ f = rw (label_of σ f, sum_of σ f, unpacked_packed rs σ.values f)

  pub is_state_code : (n : ℕ) (σ : State) → Fits rs σ.values → σ.label ≤ n → is_state rs n (code rs σ) ≡ true
  is_state_code n σ f l = rw (label_of σ f, sum_of σ f) (and_from _ _ (le-leb _ _ l) (in_range_packed rs σ.values f))

  pub code_of_state : (n x : ℕ) → is_state rs n x ≡ true → code rs (state_of rs x) ≡ x
  code_of_state n x e =
      let p = and_parts (leb (x / 2 ^ 36) n) (in_range rs (x % 2 ^ 36)) e in
      let h = packed_unpacked rs (x % 2 ^ 36) p.1 in
      omega arith

  pub state_fits : (n x : ℕ) → is_state rs n x ≡ true → Fits rs (state_of rs x).values
  state_fits n x e = let p = and_parts _ _ e in unpacked_fits rs (x % 2 ^ 36) p.1

  pub state_label : (n x : ℕ) → is_state rs n x ≡ true → (state_of rs x).label ≤ n
  state_label n x e = let p = and_parts _ _ e in leb-true _ _ p.0
