-- Which places the automaton's sets have: the bits at their one border. Assumes nothing.
use Rattle.std.proofs.Common.{◌≡◌, ℕ, zero, suc, ◌+◌, ◌/◌, ◌%◌, ◌^◌, ◌<◌, ◌≤◌, max, Bool, true, false, cond, ◌&&◌, ◌⊎◌, List, [], ◌∷◌, length, get_or, set, sym, refl, ap, ◌∙◌, subst, inl, inr, arith, length-set, get_or-set_other, get_or-set_same}
use native.Mathlib.Nat.{zero-max}
use lib.Bits.{bit_or}
use Rattle.std.proofs.lemmas.Nat.{mod_below}
use Rattle.std.proofs.lemmas.Nat.Bits.{bit_at-zero, bit_at_or, bit_at-pow_same, bit_at-pow_other}
use Rattle.std.proofs.lemmas.Bool.{eqb-true, eq-eqb, cases_Bool, cases_eq, cases_lt, false≢true, and_parts, and_from}
use Rattle.regular.specs.Words.{Regex, empty, one, sequence, alternative, star, plus, size}
use Rattle.regular.specs.Sets.{has, Has, with, gather, keep, gain}
use Rattle.regular.specs.Automaton.{nullable, firsts, lasts, follows}
use Rattle.regular.proofs.Paths.{First, Last, Follow}

bit_cases : (x : ℕ) → (x % 2 ≡ 0) ⊎ (x % 2 ≡ 1)
bit_cases x = let h = mod_below x 2 (omega arith) in grind arith

pub has_zero : (i : ℕ) → Has 0 i → ⊥
has_zero i h = let e = eqb-true (0 / 2 ^ i % 2) 1 h in omega (arith, bit_at-zero i)

pub has_or_to : (a b i : ℕ) → Has (bit_or a b) i → Has a i ⊎ Has b i
has_or_to a b i h =
    let e = eqb-true (bit_or a b / 2 ^ i % 2) 1 h in
    elim (bit_cases (a / 2 ^ i)) [
      | inl p ↦ inr (eq-eqb (b / 2 ^ i % 2) 1 (sym (zero-max (b / 2 ^ i % 2)) ∙ ap (λ z. max z (b / 2 ^ i % 2)) (sym p) ∙ sym (bit_at_or a b i) ∙ e))
      | inr p ↦ inl (eq-eqb (a / 2 ^ i % 2) 1 p)
    ]

pub has_or_left : (a b i : ℕ) → Has a i → Has (bit_or a b) i
has_or_left a b i h =
    let e = eqb-true (a / 2 ^ i % 2) 1 h in
    let m : max (a / 2 ^ i % 2) (b / 2 ^ i % 2) ≡ 1 = elim (bit_cases (b / 2 ^ i)) [ inl q ↦ simp (e, q) | inr q ↦ simp (e, q) ] in
    eq-eqb (bit_or a b / 2 ^ i % 2) 1 (bit_at_or a b i ∙ m)

pub has_or_right : (a b i : ℕ) → Has b i → Has (bit_or a b) i
has_or_right a b i h =
    let e = eqb-true (b / 2 ^ i % 2) 1 h in
    let m : max (a / 2 ^ i % 2) (b / 2 ^ i % 2) ≡ 1 = elim (bit_cases (a / 2 ^ i)) [ inl q ↦ simp (e, q) | inr q ↦ simp (e, q) ] in
    eq-eqb (bit_or a b / 2 ^ i % 2) 1 (bit_at_or a b i ∙ m)

pub has_one : (n : ℕ) → Has (2 ^ n) n
has_one n = eq-eqb (2 ^ n / 2 ^ n % 2) 1 (bit_at-pow_same n)

pub has_one_to : (n i : ℕ) → Has (2 ^ n) i → i ≡ n
has_one_to n i h =
    let e = eqb-true (2 ^ n / 2 ^ i % 2) 1 h in
    elim (cases_eq i n) [ inl p ↦ p | inr d ↦ let z = bit_at-pow_other n i d in omega arith ]

pub cond_has : (b : Bool) (x y j : ℕ) → Has (cond b x y) j → ((b ≡ true) × Has x j) ⊎ ((b ≡ false) × Has y j)
cond_has true x y j h = inl (refl, h)
cond_has false x y j h = inr (refl, h)

has_then : (b : Bool) (x y j : ℕ) → b ≡ true → Has x j → Has (cond b x y) j
has_then true x y j e h = h
has_then false x y j e h = absurd (false≢true e)

has_either : (b : Bool) (x y j : ℕ) → Has x j → Has y j → Has (cond b x y) j
has_either true x y j h k = h
has_either false x y j h k = k

below_suc : (q k : ℕ) → q < suc k → (q ≡ k) ⊎ (q < k)
below_suc q k h = grind arith

pub gather_to : (fs : List ℕ) (s k j : ℕ) → Has (gather fs s k) j → (q : ℕ) × (q < k) × Has s q × Has (get_or fs q 0) j
gather_to fs s zero j h = absurd (has_zero j h)
gather_to fs s (suc k) j h =
    elim (cond_has (has s k) (bit_or (gather fs s k) (get_or fs k 0)) (gather fs s k) j h) [
      | inl x ↦ elim (has_or_to (gather fs s k) (get_or fs k 0) j x.1) [
        | inl y ↦ let r = gather_to fs s k j y in (r.0, omega arith, r.2, r.3)
        | inr y ↦ (k, omega arith, x.0, y)
      ]
      | inr x ↦ let r = gather_to fs s k j x.1 in (r.0, omega arith, r.2, r.3)
    ]

pub gather_from : (fs : List ℕ) (s k j q : ℕ) → q < k → Has s q → Has (get_or fs q 0) j → Has (gather fs s k) j
gather_from fs s zero j q l h m = absurd (omega arith)
gather_from fs s (suc k) j q l h m =
    elim (below_suc q k l) [
      | inl e ↦ has_then (has s k) (bit_or (gather fs s k) (get_or fs k 0)) (gather fs s k) j (subst (Has s) e h) (has_or_right (gather fs s k) (get_or fs k 0) j (subst (λ (x : ℕ). Has (get_or fs x 0) j) e m))
      | inr b ↦ let r = gather_from fs s k j q b h m in has_either (has s k) (bit_or (gather fs s k) (get_or fs k 0)) (gather fs s k) j (has_or_left (gather fs s k) (get_or fs k 0) j r) r
    ]

pub keep_to : (p : ℕ → Bool) (s k j : ℕ) → Has (keep p s k) j → (j < k) × Has s j × (p j ≡ true)
keep_to p s zero j h = absurd (has_zero j h)
keep_to p s (suc k) j h =
    elim (cond_has (has s k && p k) (with (keep p s k) k) (keep p s k) j h) [
      | inl x ↦ elim (has_or_to (keep p s k) (2 ^ k) j x.1) [
        | inl y ↦ let r = keep_to p s k j y in (omega arith, r.1, r.2)
        | inr y ↦
            let e = has_one_to k j y in
            let a = and_parts (has s k) (p k) x.0 in
            (omega arith, subst (Has s) (sym e) a.0, subst (λ (z : ℕ). p z ≡ true) (sym e) a.1)
      ]
      | inr x ↦ let r = keep_to p s k j x.1 in (omega arith, r.1, r.2)
    ]

pub keep_from : (p : ℕ → Bool) (s k j : ℕ) → j < k → Has s j → p j ≡ true → Has (keep p s k) j
keep_from p s zero j l h t = absurd (omega arith)
keep_from p s (suc k) j l h t =
    elim (below_suc j k l) [
      | inl e ↦ has_then (has s k && p k) (with (keep p s k) k) (keep p s k) j (and_from (has s k) (p k) (subst (Has s) e h) (subst (λ (z : ℕ). p z ≡ true) e t)) (has_or_right (keep p s k) (2 ^ k) j (subst (Has (2 ^ k)) (sym e) (has_one k)))
      | inr b ↦ let r = keep_from p s k j b h t in has_either (has s k && p k) (with (keep p s k) k) (keep p s k) j (has_or_left (keep p s k) (2 ^ k) j r) r
    ]

abbrev SomeKept : (ℕ → Bool) → ℕ → ℕ → Type 0
SomeKept p s k = (keep p s k ≡ 0) ⊎ ((j : ℕ) × Has (keep p s k) j)

found : (p : ℕ → Bool) (s k : ℕ) → SomeKept p s k → (keep p s k ≡ 0 → ⊥) → (j : ℕ) × Has (keep p s k) j
found p s k (inl z) h = absurd (h z)
found p s k (inr z) h = z

cases_some : (p : ℕ → Bool) (s k : ℕ) → SomeKept p s k
cases_some p s zero = inl refl
cases_some p s (suc k) =
    elim (cases_Bool (has s k && p k)) [
      | inl e ↦ let a = and_parts (has s k) (p k) e in inr (k, keep_from p s (suc k) k (omega arith) a.0 a.1)
      | inr e ↦ elim (cases_some p s k) [
        | inl z ↦ inl (ap (λ b. cond b (with (keep p s k) k) (keep p s k)) e ∙ z)
        | inr z ↦ let r = keep_to p s k z.0 z.1 in inr (z.0, keep_from p s (suc k) z.0 (omega arith) r.1 r.2)
      ]
    ]

-- a set of kept places that is not empty has one
pub keep_some : (p : ℕ → Bool) (s k : ℕ) → (keep p s k ≡ 0 → ⊥) → (j : ℕ) × Has (keep p s k) j
keep_some p s k h = found p s k (cases_some p s k) h

-- one turn of `gain`: a set that may have gained something
abbrev Turn : Bool → List ℕ → ℕ → ℕ → List ℕ
Turn b gs more k = cond b (set gs k (bit_or (get_or gs k 0) more)) gs

either_length : (b : Bool) (gs : List ℕ) (k x : ℕ) → length (cond b (set gs k x) gs) ≡ length gs
either_length true gs k x = length-set gs k x
either_length false gs k x = refl

set_past : (gs : List ℕ) (k x p j : ℕ) → length gs ≤ k → Has (get_or (set gs k x) p 0) j → Has (get_or gs p 0) j
set_past [] k x p j l h = h
set_past (g ∷ gs) zero x p j l h = absurd (omega arith)
set_past (g ∷ gs) (suc k) x zero j l h = h
set_past (g ∷ gs) (suc k) x (suc p) j l h = set_past gs k x p j (omega arith) h

gained : (b : Bool) (gs : List ℕ) (more k p j : ℕ) → Has (get_or (Turn b gs more k) p 0) j → Has (get_or gs p 0) j ⊎ ((b ≡ true) × (p ≡ k) × Has more j)
gained false gs more k p j h = inl h
gained true gs more k p j h =
    elim (cases_eq p k) [
      | inl e ↦ elim (cases_lt k (length gs)) [
        | inl l ↦
            let r = subst (λ (x : ℕ). Has (get_or (set gs k (bit_or (get_or gs k 0) more)) x 0) j) e h in
            let s = subst (λ (x : ℕ). Has x j) (get_or-set_same gs k (bit_or (get_or gs k 0) more) 0 l) r in
            elim (has_or_to (get_or gs k 0) more j s) [
              | inl y ↦ inl (subst (λ (x : ℕ). Has (get_or gs x 0) j) (sym e) y)
              | inr y ↦ inr (refl, e, y)
            ]
        | inr l ↦ inl (set_past gs k (bit_or (get_or gs k 0) more) p j l h)
      ]
      | inr d ↦ inl (subst (λ (x : ℕ). Has x j) (get_or-set_other gs k p (bit_or (get_or gs k 0) more) 0 d) h)
    ]

set_short : (gs : List ℕ) (k x p j : ℕ) → length gs ≤ k → Has (get_or gs p 0) j → Has (get_or (set gs k x) p 0) j
set_short [] k x p j l h = h
set_short (g ∷ gs) zero x p j l h = absurd (omega arith)
set_short (g ∷ gs) (suc k) x zero j l h = h
set_short (g ∷ gs) (suc k) x (suc p) j l h = set_short gs k x p j (omega arith) h

kept : (b : Bool) (gs : List ℕ) (more k p j : ℕ) → Has (get_or gs p 0) j → Has (get_or (Turn b gs more k) p 0) j
kept false gs more k p j h = h
kept true gs more k p j h =
    elim (cases_eq p k) [
      | inl e ↦ elim (cases_lt k (length gs)) [
        | inl l ↦
            let o = has_or_left (get_or gs k 0) more j (subst (λ (x : ℕ). Has (get_or gs x 0) j) e h) in
            let s = subst (λ (x : ℕ). Has x j) (sym (get_or-set_same gs k (bit_or (get_or gs k 0) more) 0 l)) o in
            subst (λ (x : ℕ). Has (get_or (set gs k (bit_or (get_or gs k 0) more)) x 0) j) (sym e) s
        | inr l ↦ set_short gs k (bit_or (get_or gs k 0) more) p j l h
      ]
      | inr d ↦ subst (λ (x : ℕ). Has x j) (sym (get_or-set_other gs k p (bit_or (get_or gs k 0) more) 0 d)) h
    ]

fresh : (b : Bool) (gs : List ℕ) (more k p j : ℕ) → b ≡ true → p ≡ k → p < length gs → Has more j → Has (get_or (Turn b gs more k) p 0) j
fresh false gs more k p j t e l h = absurd (false≢true t)
fresh true gs more k p j t e l h =
    let b : k < length gs = omega arith in
    let s = subst (λ (x : ℕ). Has x j) (sym (get_or-set_same gs k (bit_or (get_or gs k 0) more) 0 b)) (has_or_right (get_or gs k 0) more j h) in
    subst (λ (x : ℕ). Has (get_or (set gs k (bit_or (get_or gs k 0) more)) x 0) j) (sym e) s

pub gain_length : (fs : List ℕ) (s more k : ℕ) → length (gain fs s more k) ≡ length fs
gain_length fs s more zero = refl
gain_length fs s more (suc k) = either_length (has s k) (gain fs s more k) k (bit_or (get_or (gain fs s more k) k 0) more) ∙ gain_length fs s more k

pub gain_to : (fs : List ℕ) (s more k p j : ℕ) → Has (get_or (gain fs s more k) p 0) j → Has (get_or fs p 0) j ⊎ (Has s p × Has more j)
gain_to fs s more zero p j h = inl h
gain_to fs s more (suc k) p j h =
    elim (gained (has s k) (gain fs s more k) more k p j h) [
      | inl x ↦ gain_to fs s more k p j x
      | inr x ↦ inr (subst (Has s) (sym x.1) x.0, x.2)
    ]

pub gain_old : (fs : List ℕ) (s more k p j : ℕ) → Has (get_or fs p 0) j → Has (get_or (gain fs s more k) p 0) j
gain_old fs s more zero p j h = h
gain_old fs s more (suc k) p j h = kept (has s k) (gain fs s more k) more k p j (gain_old fs s more k p j h)

pub gain_new : (fs : List ℕ) (s more k p j : ℕ) → p < k → p < length fs → Has s p → Has more j → Has (get_or (gain fs s more k) p 0) j
gain_new fs s more zero p j l b h m = absurd (omega arith)
gain_new fs s more (suc k) p j l b h m =
    elim (below_suc p k l) [
      | inl e ↦ fresh (has s k) (gain fs s more k) more k p j (subst (Has s) e h) e (omega (arith, gain_length fs s more k)) m
      | inr c ↦ kept (has s k) (gain fs s more k) more k p j (gain_new fs s more k p j c b h m)
    ]

pub firsts_to : (e : Regex) (n i : ℕ) → Has (firsts e n) i → First e n i
firsts_to empty n i h = has_zero i h
firsts_to (one a) n i h = has_one_to n i h
firsts_to (sequence e f) n i h =
    elim (cond_has (nullable e) (bit_or (firsts e n) (firsts f (n + size e))) (firsts e n) i h) [
      | inl x ↦ elim (has_or_to (firsts e n) (firsts f (n + size e)) i x.1) [ inl y ↦ inl (firsts_to e n i y) | inr y ↦ inr (x.0, firsts_to f (n + size e) i y) ]
      | inr x ↦ inl (firsts_to e n i x.1)
    ]
firsts_to (alternative e f) n i h = elim (has_or_to (firsts e n) (firsts f (n + size e)) i h) [ inl y ↦ inl (firsts_to e n i y) | inr y ↦ inr (firsts_to f (n + size e) i y) ]
firsts_to (star e) n i h = firsts_to e n i h
firsts_to (plus e) n i h = firsts_to e n i h

pub firsts_from : (e : Regex) (n i : ℕ) → First e n i → Has (firsts e n) i
firsts_from empty n i h = absurd h
firsts_from (one a) n i h = subst (Has (2 ^ n)) (sym h) (has_one n)
firsts_from (sequence e f) n i (inl h) = let r = firsts_from e n i h in has_either (nullable e) (bit_or (firsts e n) (firsts f (n + size e))) (firsts e n) i (has_or_left (firsts e n) (firsts f (n + size e)) i r) r
firsts_from (sequence e f) n i (inr h) = has_then (nullable e) (bit_or (firsts e n) (firsts f (n + size e))) (firsts e n) i h.0 (has_or_right (firsts e n) (firsts f (n + size e)) i (firsts_from f (n + size e) i h.1))
firsts_from (alternative e f) n i (inl h) = has_or_left (firsts e n) (firsts f (n + size e)) i (firsts_from e n i h)
firsts_from (alternative e f) n i (inr h) = has_or_right (firsts e n) (firsts f (n + size e)) i (firsts_from f (n + size e) i h)
firsts_from (star e) n i h = firsts_from e n i h
firsts_from (plus e) n i h = firsts_from e n i h

pub lasts_to : (e : Regex) (n i : ℕ) → Has (lasts e n) i → Last e n i
lasts_to empty n i h = has_zero i h
lasts_to (one a) n i h = has_one_to n i h
lasts_to (sequence e f) n i h =
    elim (cond_has (nullable f) (bit_or (lasts e n) (lasts f (n + size e))) (lasts f (n + size e)) i h) [
      | inl x ↦ elim (has_or_to (lasts e n) (lasts f (n + size e)) i x.1) [ inl y ↦ inl (x.0, lasts_to e n i y) | inr y ↦ inr (lasts_to f (n + size e) i y) ]
      | inr x ↦ inr (lasts_to f (n + size e) i x.1)
    ]
lasts_to (alternative e f) n i h = elim (has_or_to (lasts e n) (lasts f (n + size e)) i h) [ inl y ↦ inl (lasts_to e n i y) | inr y ↦ inr (lasts_to f (n + size e) i y) ]
lasts_to (star e) n i h = lasts_to e n i h
lasts_to (plus e) n i h = lasts_to e n i h

pub lasts_from : (e : Regex) (n i : ℕ) → Last e n i → Has (lasts e n) i
lasts_from empty n i h = absurd h
lasts_from (one a) n i h = subst (Has (2 ^ n)) (sym h) (has_one n)
lasts_from (sequence e f) n i (inl h) = has_then (nullable f) (bit_or (lasts e n) (lasts f (n + size e))) (lasts f (n + size e)) i h.0 (has_or_left (lasts e n) (lasts f (n + size e)) i (lasts_from e n i h.1))
lasts_from (sequence e f) n i (inr h) = let r = lasts_from f (n + size e) i h in has_either (nullable f) (bit_or (lasts e n) (lasts f (n + size e))) (lasts f (n + size e)) i (has_or_right (lasts e n) (lasts f (n + size e)) i r) r
lasts_from (alternative e f) n i (inl h) = has_or_left (lasts e n) (lasts f (n + size e)) i (lasts_from e n i h)
lasts_from (alternative e f) n i (inr h) = has_or_right (lasts e n) (lasts f (n + size e)) i (lasts_from f (n + size e) i h)
lasts_from (star e) n i h = lasts_from e n i h
lasts_from (plus e) n i h = lasts_from e n i h

pub follows_length : (e : Regex) (n : ℕ) (fs : List ℕ) → length (follows e n fs) ≡ length fs
follows_length empty n fs = refl
follows_length (one a) n fs = refl
follows_length (sequence e f) n fs = gain_length (follows f (n + size e) (follows e n fs)) (lasts e n) (firsts f (n + size e)) (length fs) ∙ follows_length f (n + size e) (follows e n fs) ∙ follows_length e n fs
follows_length (alternative e f) n fs = follows_length f (n + size e) (follows e n fs) ∙ follows_length e n fs
follows_length (star e) n fs = gain_length (follows e n fs) (lasts e n) (firsts e n) (length fs) ∙ follows_length e n fs
follows_length (plus e) n fs = gain_length (follows e n fs) (lasts e n) (firsts e n) (length fs) ∙ follows_length e n fs

abbrev Added : Regex → ℕ → List ℕ → ℕ → ℕ → Type 0
Added e n fs p j = Has (get_or fs p 0) j ⊎ Follow e n p j

looped_to : (e : Regex) (n : ℕ) (fs : List ℕ) (p j : ℕ) → ((h : Has (get_or (follows e n fs) p 0) j) → Added e n fs p j) → Has (get_or (gain (follows e n fs) (lasts e n) (firsts e n) (length fs)) p 0) j → Added (star e) n fs p j
looped_to e n fs p j ih h =
    elim (gain_to (follows e n fs) (lasts e n) (firsts e n) (length fs) p j h) [
      | inl x ↦ elim (ih x) [ inl y ↦ inl y | inr y ↦ inr (inl y) ]
      | inr x ↦ inr (inr (lasts_to e n p x.0, firsts_to e n j x.1))
    ]

pub follows_to : (e : Regex) (n : ℕ) (fs : List ℕ) (p j : ℕ) → Has (get_or (follows e n fs) p 0) j → Added e n fs p j
follows_to empty n fs p j h = inl h
follows_to (one a) n fs p j h = inl h
follows_to (sequence e f) n fs p j h =
    elim (gain_to (follows f (n + size e) (follows e n fs)) (lasts e n) (firsts f (n + size e)) (length fs) p j h) [
      | inl x ↦ elim (follows_to f (n + size e) (follows e n fs) p j x) [
        | inl y ↦ elim (follows_to e n fs p j y) [ inl z ↦ inl z | inr z ↦ inr (inl z) ]
        | inr y ↦ inr (inr (inl y))
      ]
      | inr x ↦ inr (inr (inr (lasts_to e n p x.0, firsts_to f (n + size e) j x.1)))
    ]
follows_to (alternative e f) n fs p j h =
    elim (follows_to f (n + size e) (follows e n fs) p j h) [
      | inl y ↦ elim (follows_to e n fs p j y) [ inl z ↦ inl z | inr z ↦ inr (inl z) ]
      | inr y ↦ inr (inr y)
    ]
follows_to (star e) n fs p j h = looped_to e n fs p j (follows_to e n fs p j) h
follows_to (plus e) n fs p j h = looped_to e n fs p j (follows_to e n fs p j) h

pub follows_old : (e : Regex) (n : ℕ) (fs : List ℕ) (p j : ℕ) → Has (get_or fs p 0) j → Has (get_or (follows e n fs) p 0) j
follows_old empty n fs p j h = h
follows_old (one a) n fs p j h = h
follows_old (sequence e f) n fs p j h = gain_old (follows f (n + size e) (follows e n fs)) (lasts e n) (firsts f (n + size e)) (length fs) p j (follows_old f (n + size e) (follows e n fs) p j (follows_old e n fs p j h))
follows_old (alternative e f) n fs p j h = follows_old f (n + size e) (follows e n fs) p j (follows_old e n fs p j h)
follows_old (star e) n fs p j h = gain_old (follows e n fs) (lasts e n) (firsts e n) (length fs) p j (follows_old e n fs p j h)
follows_old (plus e) n fs p j h = gain_old (follows e n fs) (lasts e n) (firsts e n) (length fs) p j (follows_old e n fs p j h)

looped_new : (e : Regex) (n : ℕ) (fs : List ℕ) (p j : ℕ) → p < length fs → Last e n p → First e n j → Has (get_or (gain (follows e n fs) (lasts e n) (firsts e n) (length fs)) p 0) j
looped_new e n fs p j b l h = gain_new (follows e n fs) (lasts e n) (firsts e n) (length fs) p j b (omega (arith, follows_length e n fs)) (lasts_from e n p l) (firsts_from e n j h)

pub follows_new : (e : Regex) (n : ℕ) (fs : List ℕ) (p j : ℕ) → p < length fs → Follow e n p j → Has (get_or (follows e n fs) p 0) j
follows_new empty n fs p j b h = absurd h
follows_new (one a) n fs p j b h = absurd h
follows_new (sequence e f) n fs p j b (inl h) = gain_old (follows f (n + size e) (follows e n fs)) (lasts e n) (firsts f (n + size e)) (length fs) p j (follows_old f (n + size e) (follows e n fs) p j (follows_new e n fs p j b h))
follows_new (sequence e f) n fs p j b (inr (inl h)) = gain_old (follows f (n + size e) (follows e n fs)) (lasts e n) (firsts f (n + size e)) (length fs) p j (follows_new f (n + size e) (follows e n fs) p j (omega (arith, follows_length e n fs)) h)
follows_new (sequence e f) n fs p j b (inr (inr h)) = gain_new (follows f (n + size e) (follows e n fs)) (lasts e n) (firsts f (n + size e)) (length fs) p j b (omega (arith, follows_length f (n + size e) (follows e n fs), follows_length e n fs)) (lasts_from e n p h.0) (firsts_from f (n + size e) j h.1)
follows_new (alternative e f) n fs p j b (inl h) = follows_old f (n + size e) (follows e n fs) p j (follows_new e n fs p j b h)
follows_new (alternative e f) n fs p j b (inr h) = follows_new f (n + size e) (follows e n fs) p j (omega (arith, follows_length e n fs)) h
follows_new (star e) n fs p j b (inl h) = gain_old (follows e n fs) (lasts e n) (firsts e n) (length fs) p j (follows_new e n fs p j b h)
follows_new (star e) n fs p j b (inr h) = looped_new e n fs p j b h.0 h.1
follows_new (plus e) n fs p j b (inl h) = gain_old (follows e n fs) (lasts e n) (firsts e n) (length fs) p j (follows_new e n fs p j b h)
follows_new (plus e) n fs p j b (inr h) = looped_new e n fs p j b h.0 h.1
