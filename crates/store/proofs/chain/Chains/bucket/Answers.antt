-- A mask of a power of two less one is a remainder.
use Rattle.std.proofs.Common.{ℕ, ◌-◌, ◌/◌, ◌%◌, ◌^◌, ◌<◌, sym, ap, ◌∙◌, subst}
use lib.Bits.{bit_and, bit_xor}
use Rattle.model.specs.Keys.{spread}
use Rattle.std.proofs.lemmas.Nat.{and_mask, mod_below, pow_pos}
use Rattle.store.proofs.chain.Chains.bucket.Goals as goal

-- what is taken of a digest
abbrev upper : ℕ → ℕ
upper d = spread (bit_xor d (d / 2 ^ 32)) / 2 ^ 32

pub returns : goal.returns
returns g c =
    let k = c.args.self.bits in
    let d = c.digest-digest.result in
    let value = ap (λ n. bit_and (upper d) (n - 1)) c.count.ensures ∙ and_mask (upper d) k ∙ ap (λ x. upper x % 2 ^ k) c.digest-digest.ensures in
    record { value = value; below = subst (λ x. x < 2 ^ k) (sym value) (mod_below _ (2 ^ k) (pow_pos k)) }
