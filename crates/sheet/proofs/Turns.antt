-- One turn of the loop over assertions. Assumes nothing.
use Rattle.std.proofs.Common.{◌≡◌, ℕ, ◌+◌, Bool, cond, ◌&&◌, sym, ap, ◌∙◌, add-one}
use Rattle.regular.specs.Sets.{has, with, keep}

pub keep_turn : (p : ℕ → Bool) (s k x : ℕ) (b c : Bool) → has s k ≡ b → p k ≡ c → x ≡ keep p s k → cond (b && c) (with x k) x ≡ keep p s (k + 1)
keep_turn p s k x b c h q is =
    ap (λ (y : ℕ). cond (b && c) (with y k) y) is
    ∙ ap (λ (d : Bool). cond (d && c) (with (keep p s k) k) (keep p s k)) (sym h)
    ∙ ap (λ (d : Bool). cond (has s k && d) (with (keep p s k) k) (keep p s k)) (sym q)
    ∙ ap (keep p s) (sym (add-one k))
