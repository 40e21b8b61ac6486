-- What it is to be a key: an exact comparison, and a digest. Assumes nothing.
use Rattle.std.specs.Prelude.{◌≡◌, ℕ, ◌*◌, ◌%◌, ◌^◌, Bool, true, false, ◌&&◌, ◌==◌, bit_xor, refl}
use borrow.Author.Tests.{eq-eqb, eqb-true, clash}
use Rattle.model.specs.declared.configuration.Configuration.{Configuration}

pub record KeyMeaning (K : Type 0) : Type 0 where
  -- whether two keys are the same
  pub alike : K → K → Bool
  -- the number that a key's bucket is taken from
  pub digest : K → ℕ
  pub sound : (x y : K) → alike x y ≡ true → x ≡ y
  pub complete : (x : K) → alike x x ≡ true

-- codes: equal numbers, and the number itself
abbrev pub code_key : KeyMeaning ℕ
code_key = record { alike = λ x y. x == y; digest = λ x. x; sound = eqb-true; complete = λ x. eq-eqb x x refl }

-- the odd number that digests multiply by, in 64 bits
abbrev pub spread : ℕ → ℕ
spread x = (x * 11400714819323198485) % 2 ^ 64

both : (a b : Bool) → (a && b) ≡ true → (a ≡ true) × (b ≡ true)
both true b e = (refl, e)
both false b e = absurd (clash e)

module _ {S : Type 0} (s : KeyMeaning S) where
  -- configurations: the same codes and the same watch state
  abbrev pub alike_configurations : Configuration S → Configuration S → Bool
  alike_configurations x y = x.first == y.first && (x.last == y.last && s.alike x.state y.state)

  pub same_configurations : (x y : Configuration S) → alike_configurations x y ≡ true → x ≡ y
  same_configurations x y e =
      let p = both _ _ e in
      let q = both _ _ p.1 in
      let a = eqb-true _ _ p.0 in
      let b = eqb-true _ _ q.0 in
      let t = s.sound _ _ q.1 in
      λ i. record { first = a i; last = b i; state = t i }

  pub configuration_itself : (x : Configuration S) → alike_configurations x x ≡ true
  configuration_itself x = simp (eq-eqb x.first x.first refl, eq-eqb x.last x.last refl, s.complete x.state)

  abbrev pub configuration_key : KeyMeaning (Configuration S)
  configuration_key = record { alike = alike_configurations; digest = λ x. bit_xor (spread (bit_xor (spread x.first) x.last)) (s.digest x.state); sound = same_configurations; complete = configuration_itself }
