-- The greatest place of a bucket, and chains over plain functions of places. Assumes nothing.
use Rattle.std.proofs.Common.{◌≡◌, ℕ, zero, suc, ◌+◌, ◌*◌, ◌^◌, ◌<◌, ◌≤◌, cond, eqb, sym, refl, ap, ◌∙◌, subst, inl, inr, arith}
use Rattle.std.proofs.lemmas.Bool.{eqb-true, eqb-false, eq-eqb, ne_eqb, cond_both, cond-true, cond-false, cases_eq, cases_order}
use Rattle.std.proofs.lemmas.Nat.{pow_below, pow-add}
use Rattle.store.specs.Chains.{Buckets, top, Linked}

module _ (D : ℕ → ℕ) where
  pub top_le : (n b : ℕ) → top D n b ≤ n
  top_le zero b = omega arith
  top_le (suc i) b =
      let old = top_le i b in
      cond_both (eqb (D i) b) (suc i) (top D i b) (λ x. x ≤ suc i) (λ e. omega arith) (λ e. omega arith)

  -- no place of the bucket lies at or above its greatest
  pub top_above : (n b i : ℕ) → i < n → D i ≡ b → i < top D n b
  top_above zero b i h e = absurd (omega arith)
  top_above (suc m) b i h e =
      cond_both (eqb (D m) b) (suc m) (top D m b) (λ x. i < x)
      (λ t. omega arith)
      (λ t.
      elim (cases_eq i m) [
        | inl z ↦ absurd (eqb-false (D m) b t (ap D (sym z) ∙ e))
        | inr z ↦ top_above m b i (omega arith) e
      ])

  -- the greatest place is in the bucket
  pub top_again : (n b : ℕ) → top D (top D n b) b ≡ top D n b
  top_again zero b = refl
  top_again (suc m) b =
      cond_both (eqb (D m) b) (suc m) (top D m b) (λ x. top D x b ≡ x)
      (λ t. cond-true (eqb (D m) b) (suc m) (top D m b) t)
      (λ t. top_again m b)

  pub top_hit : (i b : ℕ) → top D (suc i) b ≡ suc i → D i ≡ b
  top_hit i b =
      cond_both (eqb (D i) b) (suc i) (top D i b) (λ x. x ≡ suc i → D i ≡ b)
      (λ t e. eqb-true (D i) b t)
      (λ t e. absurd (let low = top_le i b in omega arith))

pub top_same : (D E : ℕ → ℕ) (n b : ℕ) → ((i : ℕ) → i < n → D i ≡ E i) → top D n b ≡ top E n b
top_same D E zero b h = refl
top_same D E (suc m) b h =
    let here = h m (omega arith) in
    let below = top_same D E m b (λ i l. h i (omega arith)) in
    λ j. cond (eqb (here j) b) (suc m) (below j)

-- chains depend on the buckets and links of the stored places alone
pub kept_chains : (D E H H' N N' : ℕ → ℕ) (m n : ℕ) → Linked D H N m n → ((i : ℕ) → i < n → D i ≡ E i) → ((b : ℕ) → b < m → H' b ≡ H b) → ((i : ℕ) → i < n → N' i ≡ N i) → Linked E H' N' m n
kept_chains D E H H' N N' m n old same heads nexts = record {
  heads = λ b l. heads b l ∙ old.heads b l ∙ top_same D E n b same;
  nexts = λ i l. nexts i l ∙ old.nexts i l ∙ top_same D E i (D i) (λ j k. same j (omega arith)) ∙ ap (top E i) (same i l);
}

pub no_chains : (D H N : ℕ → ℕ) (m : ℕ) → ((b : ℕ) → b < m → H b ≡ 0) → Linked D H N m 0
no_chains D H N m h = record { heads = h; nexts = λ i l. absurd (omega arith) }

-- one more place, at the head of its chain
pub one_more : (D H H' N N' : ℕ → ℕ) (m n : ℕ) → Linked D H N m n → D n < m → H' (D n) ≡ suc n → ((b : ℕ) → (b ≡ D n → ⊥) → H' b ≡ H b) → N' n ≡ H (D n) → ((i : ℕ) → i < n → N' i ≡ N i) → Linked D H' N' m (suc n)
one_more D H H' N N' m n old low here else-heads next else-nexts = record {
  heads = λ b l.
      elim (cases_eq (D n) b) [
        | inl z ↦ ap H' (sym z) ∙ here ∙ sym (cond-true (eqb (D n) b) (suc n) (top D n b) (eq-eqb (D n) b z))
        | inr z ↦ else-heads b (λ e. z (sym e)) ∙ old.heads b l ∙ sym (cond-false (eqb (D n) b) (suc n) (top D n b) (ne_eqb (D n) b z))
      ];
  nexts = λ i l.
      elim (cases_eq i n) [
        | inl z ↦ subst (λ x. N' x ≡ top D x (D x)) (sym z) (next ∙ old.heads (D n) low)
        | inr z ↦ else-nexts i (omega arith) ∙ old.nexts i (omega arith)
      ];
}

-- a smaller power of two is at most half
half : (i j : ℕ) → i < j → 2 * 2 ^ i ≤ 2 ^ j
half i j h =
    let up : 2 ^ (i + 1) ≤ 2 ^ j = pow_up (i + 1) j (omega arith) in
    omega (arith, pow-add 2 i 1)
  where
    pow_up : (a b : ℕ) → a ≤ b → 2 ^ a ≤ 2 ^ b
    pow_up a b l = elim (cases_eq a b) [ inl z ↦ subst (λ x. 2 ^ a ≤ 2 ^ x) z (omega arith) | inr z ↦ let s : 2 ^ a < 2 ^ b = pow_below a b (omega arith) in omega arith ]

-- there is one number of buckets
pub same_buckets : (n m l : ℕ) → Buckets n m → Buckets n l → m ≡ l
same_buckets n m l p q =
    let i = p.power.0 in
    let j = q.power.0 in
    elim (cases_order i j) [
      | inl z ↦ p.power.1 ∙ ap (λ k. 2 ^ k) z ∙ sym q.power.1
      | inr (inl z) ↦ absurd (let h = half i j z in omega (arith, p.power.1, q.power.1, p.most, q.within))
      | inr (inr z) ↦ absurd (let h = half j i z in omega (arith, p.power.1, q.power.1, q.most, p.within))
    ]
