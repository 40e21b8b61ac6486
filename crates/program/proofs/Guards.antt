-- Reading ( B ). Assumes nothing.
use Rattle.std.proofs.Common.{◌≡◌, ℕ, ◌-◌, true, List, [], ◌∷◌, sym, refl, subst, arith, lit≤}
use Rattle.grammar.specs.Grammars.{Quiet}
use Rattle.grammar.proofs.Trees.{find_later}
use Rattle.text.specs.declared.expressions.Expressions.{Expressions}
use Rattle.text.specs.declared.reading.Fault.{Fault}
use Rattle.text.specs.declared.reading.Limits.{Limits}
use Rattle.text.specs.declared.word.Token.TheVariants.{OpenParen, CloseParen}
use Rattle.text.specs.declared.word.Word.{Word}
use Rattle.text.specs.Words.{at}
use Rattle.text.specs.Table.{plain, one_test, joined, close_paren, guard, line, rules_of}
use Rattle.text.specs.Derivations.{Condition}
use Rattle.text.specs.Reading.{Unlike, Skipped, FaultAt, Deeper, TooDeep}
use Rattle.text.specs.Outcomes.{TestRead, Stopped}
use Rattle.text.proofs.Going.{bracket_goes, bracket_deep, bracket_inner, bracket_open}
use Rattle.text.proofs.Parts.{stops_by, from_inside, stopped_at}
use Rattle.text.proofs.Tests.{is_token}
use Rattle.program.specs.Outcomes.{Guarded, guarded}

pub no_paren : (ws : List Word) → Unlike OpenParen ws → Quiet (rules_of guard) ws
no_paren [] u = tt
no_paren (w ∷ ws) u = find_later (line (at OpenParen) plain (one_test ∷ joined ∷ close_paren ∷ [])) [] w u

paren : (w : Word) → at OpenParen w ≡ true → w.token ≡ OpenParen
paren w o = is_token w.token OpenParen (lit≤ tt) refl o

module _ {limits : Limits} {ws₀ : List Word} {w : Word} {ws : List Word} (opens : (ws₀ ≡ w ∷ ws) × (at OpenParen w ≡ true)) where
  pub guard_deep : {n : ℕ} {f : Fault} → TooDeep limits w f → Stopped (guard ∷ []) limits.scope limits.left limits.end n ws₀ f
  guard_deep {n} {f} d = let o = opens.1 in stopped_at opens.0 (stops_by _ _ (w ∷ ws) d.cause_is d.place_is (bracket_deep guard close_paren OpenParen CloseParen (one_test ∷ joined ∷ []) n 0 limits.left limits.scope (λ p. refl) (λ k. omega arith) (λ k. refl) refl refl refl w (paren w o) ws d.none_left))

  module _ {inner : Limits} (d : Deeper limits inner) where
    pub guard_inner : {n : ℕ} {f : Fault} → Stopped (one_test ∷ joined ∷ []) inner.scope inner.left inner.end n ws f → Stopped (guard ∷ []) limits.scope limits.left limits.end n ws₀ f
    guard_inner {n} {f} g =
        let o = opens.1 in
        let h = from_inside d (λ l. Stopped (one_test ∷ joined ∷ []) l.scope l.left l.end n ws f) g in
        stopped_at opens.0 (stops_by _ _ h.words refl h.place_is (bracket_inner guard close_paren OpenParen CloseParen (one_test ∷ joined ∷ []) n 0 limits.left limits.scope (λ p. refl) (λ k. omega arith) (λ k. refl) refl refl refl w (paren w o) ws _ h.words (omega (arith, d.left)) h.stops))

    module _ {x y : Expressions} {i : ℕ} {mid : List Word} (g : TestRead (one_test ∷ joined ∷ []) Condition inner.scope inner.left ws x y i mid) where
      inside_read : TestRead (one_test ∷ joined ∷ []) Condition limits.scope (limits.left - 1) ws x y i mid
      inside_read = from_inside d (λ l. TestRead (one_test ∷ joined ∷ []) Condition l.scope l.left ws x y i mid) g

      pub guard_open : {f : Fault} → FaultAt limits.end mid f × Unlike CloseParen mid → Stopped (guard ∷ []) limits.scope limits.left limits.end x.counted ws₀ f
      guard_open f =
          let o = opens.1 in
          stopped_at opens.0 (stops_by _ _ mid f.0.cause_is f.0.place_is (bracket_open guard close_paren OpenParen CloseParen (one_test ∷ joined ∷ []) x.counted y.counted limits.left limits.scope (λ p. refl) (λ k. omega arith) (λ k. refl) refl refl refl w (paren w o) ws mid (omega (arith, d.left)) inside_read.goes f.1))

      pub guard_read : {rest : List Word} → Skipped CloseParen mid rest → TestRead (guard ∷ []) Guarded limits.scope limits.left ws₀ x y i rest
      guard_read {rest} k =
          let o = opens.1 in
          let r = inside_read in
          subst (λ us. TestRead (guard ∷ []) Guarded limits.scope limits.left us x y i rest) (sym opens.0) (record {
            tree = r.tree;
            derives = guarded (paren w o) (subst (λ us. Condition ws r.tree us) k.1 r.derives) (is_token k.0.token CloseParen (lit≤ tt) refl k.2);
            goes = bracket_goes guard close_paren OpenParen CloseParen (one_test ∷ joined ∷ []) x.counted y.counted limits.left limits.scope (λ p. refl) (λ k. omega arith) (λ k. refl) refl refl refl w (paren w o) ws mid rest (omega (arith, d.left)) r.goes k;
            stands = r.stands;
            last = r.last;
            added = r.added;
            ariths = r.ariths;
            added_tests = r.added_tests;
            tests = r.tests;
            count = r.count;
            node_count = r.node_count;
            counted = r.counted;
          })
