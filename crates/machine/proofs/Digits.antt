-- What one turn over the registers keeps. Assumes nothing.
use Rattle.std.proofs.Common.{◌≡◌, ℕ, zero, suc, ◌+◌, ◌*◌, ◌/◌, ◌%◌, ◌^◌, ◌<◌, ◌≤◌, List, [], ◌∷◌, map, fold, length, get_or, take, drop, ℤ, pos, ◌≤ℤ◌, Some, Option, sym, refl, ap, ◌∙◌, subst, mod-lt, mul_assoc, mul_comm, div-lt_iff_lt-mul, add-mul, mul-le-mul_left, one-mul, pow-suc, mul-one, mul-add, arith, w16, to_z, of_z}
use native.Mathlib.Nat.{div-add-mod}
use Rattle.std.proofs.lemmas.List.{drop_more, drop_all, get_or_read}
use Rattle.std.proofs.lemmas.Int.{ints}
use Rattle.std.specs.Iterator.{Yields}
use Rattle.std.specs.Iterator.Runs.{EachRunFrom, YieldsRun}
use Rattle.std.proofs.lemmas.Iterator.{YieldsList}
use Rattle.std.proofs.lemmas.Iterator.Consumers.{YieldsList-so_far}
use Rattle.model.specs.Cells.{at}
use Rattle.traces.specs.declared.range.Range.{Range}
use Rattle.traces.specs.Tables.{above}
use Rattle.traces.specs.Codes.{packed, settings, start_codes}
use Rattle.traces.proofs.Spans.{range_ordered}
use Rattle.traces.proofs.Packing.{Fits}
use Rattle.traces.proofs.Begins.{below_at, digits_room}

-- a value in range is the same in 16 bits
pub back : (r : Range) (v : ℤ) → r.low ≤ℤ v → v ≤ℤ r.high → to_z w16 (of_z w16 v) ≡ v
back r v g h = let o = range_ordered r in let a = o.floor in let b = o.ceiling in omega (arith, ints)

pub back_first : (r : Range) → to_z w16 (of_z w16 r.from) ≡ r.from
back_first r = let o = range_ordered r in back r r.from o.first (omega (arith, ints))

-- ---- packing
pub fits_at : (rs : List Range) (vs : List ℤ) (i : ℕ) (d : Range) → Fits rs vs → i < length rs → ((get_or rs i d).low ≤ℤ get_or vs i (pos 0)) × (get_or vs i (pos 0) ≤ℤ (get_or rs i d).high)
fits_at [] [] i d f h = absurd (omega arith)
fits_at [] (v ∷ vs) i d f h = absurd f
fits_at (r ∷ rs) [] i d f h = absurd f
fits_at (r ∷ rs) (v ∷ vs) zero d f h = (f.0, f.1)
fits_at (r ∷ rs) (v ∷ vs) (suc i) d f h = fits_at rs vs i d f.2 (omega arith)

-- the value at hand is in the range at hand
pub fits_here : (rs : List Range) (vs : List ℤ) (i : ℕ) (r : Range) (v : ℤ) → Fits rs vs → i < length rs → i < length vs → r ≡ get_or rs i r → v ≡ get_or vs i v → (r.low ≤ℤ v) × (v ≤ℤ r.high)
fits_here rs vs i r v f h k e g =
    let w = fits_at rs vs i r f h in
    let x : get_or vs i (pos 0) ≡ v = sym (get_or_read vs i v k g (pos 0)) in
    let y : get_or rs i r ≡ r = sym e in
    rw (y, x) at w

sums : (s w k c : ℕ) → s + w * (k + 64 * c) ≡ s + k * w + w * 64 * c
sums s w k c =
    let x = mul-add w k (64 * c) in
    let y = mul_comm w k in
    let z = mul_assoc w 64 c in
    omega arith

pub packed_more : (rs : List Range) (vs : List ℤ) (i : ℕ) (r : Range) (v : ℤ) (sum weight k all : ℕ) → i < length rs → i < length vs → r ≡ get_or rs i r → v ≡ get_or vs i v
    → sum + weight * packed (drop i rs) (drop i vs) ≡ all → k ≡ above r.low v → sum + k * weight + weight * 64 * packed (drop (i + 1) rs) (drop (i + 1) vs) ≡ all
packed_more rs vs i r v sum weight k all h l e g inv t =
    let p : drop i rs ≡ r ∷ drop (i + 1) rs = drop_more rs i r h ∙ ap (λ q. q ∷ drop (i + 1) rs) (sym e) in
    let q : drop i vs ≡ v ∷ drop (i + 1) vs = drop_more vs i v l ∙ ap (λ u. u ∷ drop (i + 1) vs) (sym g) in
    let w : packed (drop i rs) (drop i vs) ≡ k + 64 * packed (drop (i + 1) rs) (drop (i + 1) vs) =
    ap (λ qs. packed qs (drop i vs)) p ∙ ap (packed (r ∷ drop (i + 1) rs)) q ∙ ap (λ n. n + 64 * packed (drop (i + 1) rs) (drop (i + 1) vs)) (sym t) in
    sym (sums sum weight k (packed (drop (i + 1) rs) (drop (i + 1) vs))) ∙ ap (λ n. sum + weight * n) (sym w) ∙ inv

pow_six : (k : ℕ) → k ≤ 5 → 64 ^ k ≤ 64 ^ 5
pow_six k h = native.Mathlib.Nat.pow-le-pow_right {n = 64} (lib.Dec.lit< tt) h

-- ---- counting the settings
pub settings_pos : (rs : List Range) → 0 < settings rs
settings_pos [] = omega arith
settings_pos (r ∷ rs) = let h = settings_pos rs in let e = add-mul 1 (above r.from r.to) (settings rs) in let f = one-mul (settings rs) in let s : suc (above r.from r.to) ≡ 1 + above r.from r.to = omega arith in
    let g : suc (above r.from r.to) * settings rs ≡ settings rs + above r.from r.to * settings rs = ap (λ n. n * settings rs) s ∙ e ∙ ap (λ n. n + above r.from r.to * settings rs) f in omega arith

-- the number of a register's starts
abbrev pub choices : Range → ℕ
choices r = suc (above r.from r.to)

choices_from : (rs : List Range) (a : ℕ) → fold (λ m n. m * n) a (map choices rs) ≡ a * settings rs
choices_from [] a = sym (mul-one a)
choices_from (r ∷ rs) a = choices_from rs (a * choices r) ∙ mul_assoc a (choices r) (settings rs)

pub choices_all : (rs : List Range) → fold (λ m n. m * n) 1 (map choices rs) ≡ settings rs
choices_all rs = choices_from rs 1 ∙ one-mul (settings rs)

choices_front : (rs : List Range) (n a : ℕ) → fold (λ k m. k * m) a (take n (map choices rs)) ≤ a * settings rs
choices_front [] zero a = let e = mul-one a in omega arith
choices_front [] (suc n) a = let e = mul-one a in omega arith
choices_front (r ∷ rs) zero a =
    let m = mul-le-mul_left a (settings_pos (r ∷ rs)) in
    let e = mul-one a in
    omega arith
choices_front (r ∷ rs) (suc n) a =
    let h = choices_front rs n (a * choices r) in
    let e = mul_assoc a (choices r) (settings rs) in
    omega arith

map-itself : (xs : List ℕ) → map (λ x. x) xs ≡ xs
map-itself [] = refl
map-itself (x ∷ xs) = ap (λ l. x ∷ l) (map-itself xs)

-- no product on the way is above the whole
pub choices_fit : {S : Type 0} {steps : S → Option ℕ → S → Type 0} (s : S) (rs : List Range) → YieldsList steps (λ x. x) s (map choices rs) → settings rs ≤ 65536 → EachRunFrom steps s (λ p. fold (λ k m. k * m) 1 p.items < 2 ^ 64)
unfolding YieldsRun
choices_fit {steps = steps} s rs road few = λ p _ at.
    let e : p.items ≡ take (length p.items) (map choices rs) = sym (map-itself p.items) ∙ YieldsList-so_far road p.items p.gave.0.0 (subst (λ u. Yields steps u p.items p.gave.0.0) at p.gave.0.1) in
    let f = ap (fold (λ k m. k * m) 1) e in
    let h = choices_front rs (length p.items) 1 in
    let o = one-mul (settings rs) in
    omega arith

-- ---- the code of a start
pub rest_below : (rs : List Range) (i : ℕ) (d : Range) (rest n : ℕ) → i < length rs → rest < settings (drop i rs) → n ≡ suc (above (get_or rs i d).from (get_or rs i d).to)
    → rest / n < settings (drop (i + 1) rs)
rest_below rs i d rest n h l f =
    let e : settings (drop i rs) ≡ n * settings (drop (i + 1) rs) = ap settings (drop_more rs i d h) ∙ ap (λ m. m * settings (drop (i + 1) rs)) (sym f) in
    let c = mul_comm n (settings (drop (i + 1) rs)) in
    let p : 0 < n = omega arith in
    (div-lt_iff_lt-mul p).1 (omega arith)

pub start_more : (rs : List Range) (i : ℕ) (d : Range) (rest n first sum weight place : ℕ) → i < length rs → n ≡ suc (above (get_or rs i d).from (get_or rs i d).to)
    → first ≡ above (get_or rs i d).low (get_or rs i d).from
    → ((c : ℕ) → at (start_codes (drop i rs)) rest ≡ Some c → at (start_codes rs) place ≡ Some (sum + weight * c))
    → (c : ℕ) → at (start_codes (drop (i + 1) rs)) (rest / n) ≡ Some c → at (start_codes rs) place ≡ Some (sum + (first + rest % n) * weight + weight * 64 * c)
start_more rs i d rest n first sum weight place h f g inv c a =
    let r = get_or rs i d in
    let k = rest % n in
    let e = div-add-mod rest n in
    let p : 0 < n = omega arith in
    let m = mod-lt rest p in
    let b = below_at r (start_codes (drop (i + 1) rs)) n (rest / n) rest k c f (sym e) m a in
    let b' : at (start_codes (drop i rs)) rest ≡ Some (above r.low r.from + k + 64 * c) = ap (λ qs. at (start_codes qs) rest) (drop_more rs i d h) ∙ b in
    let z = inv (above r.low r.from + k + 64 * c) b' in
    z ∙ ap (λ n. Some (sum + weight * (n + k + 64 * c))) (sym g) ∙ ap Some (sums sum weight (first + k) c)

-- a digit is at most 63
pub start_digit : (r : Range) (rest n : ℕ) → n ≡ suc (above r.from r.to) → above r.low r.from + rest % n ≤ 63
start_digit r rest n e = let h = digits_room r in let p : 0 < n = omega arith in let m = mod-lt rest p in omega arith

pub weight_room : (i weight : ℕ) → i < 6 → weight ≡ 64 ^ i → weight ≤ 2 ^ 30
weight_room i weight h e = let p = pow_six i (omega arith) in omega arith

pub weight_more : (i weight : ℕ) → weight ≡ 64 ^ i → weight * 64 ≡ 64 ^ (i + 1)
weight_more i weight e = ap (λ w. w * 64) e ∙ sym (pow-suc 64 i) ∙ ap (λ k. 64 ^ k) (omega arith)

pub digit_room : (d weight : ℕ) → d ≤ 63 → d * weight ≤ 63 * weight
digit_room d weight h = native.Mathlib.Nat.mul-le-mul_right weight h

pub start_all : (rs : List Range) (i rest sum weight place : ℕ) → length rs ≤ i → rest < settings (drop i rs)
    → ((c : ℕ) → at (start_codes (drop i rs)) rest ≡ Some c → at (start_codes rs) place ≡ Some (sum + weight * c)) → at (start_codes rs) place ≡ Some sum
start_all rs i rest sum weight place h l inv =
    let e = drop_all i rs h in
    let l' : rest < 1 = subst (λ qs. rest < settings qs) e l in
    let z : rest ≡ 0 = omega arith in
    let a : at (start_codes (drop i rs)) rest ≡ Some 0 = ap (λ qs. at (start_codes qs) rest) e ∙ ap (λ k. at (0 ∷ []) k) z in
    inv 0 a ∙ ap Some (let m = native.Mathlib.Nat.mul-zero weight in omega arith)
