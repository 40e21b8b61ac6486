use Rattle.std.proofs.Common.{ℕ, ◌<◌, ◌≤◌, ◌≡◌, ◌⊎◌, inl, inr, Bool, true, cond, ap, sym, ◌∙◌, arith}
use Rattle.std.proofs.lemmas.Bool.{cases_lt, ne_eqb}
use Rattle.std.proofs.Math.Dec.{eqb}
use Rattle.regular.specs.Sets.{with}
use Rattle.labels.specs.LabelBits.{bit}
use Rattle.labels.proofs.Labelled.{with_bit}
use Rattle.labels.proofs.sets.with_label.Goals as goal

gained : (s r l i : ℕ) → (l < 64 → r ≡ with s l) → (64 ≤ l → r ≡ s) → i < 64 → bit r i ≡ cond (eqb i l) true (bit s i)
gained s r l i small large h = go (cases_lt l 64)
  where
    go : (l < 64) ⊎ (64 ≤ l) → bit r i ≡ cond (eqb i l) true (bit s i)
    go (inl b) = ap (λ n. bit n i) (small b) ∙ with_bit s l i
    go (inr b) = ap (λ n. bit n i) (large b) ∙ sym (ap (λ (c : Bool). cond c true (bit s i)) (ne_eqb i l (λ e. absurd (omega arith))))

pub returns : goal.returns
returns c = λ i h. gained c.args.labels c.with.result c.args.label i c.with.ensures.small c.with.ensures.large h
