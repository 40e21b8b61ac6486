-- What a working check's numbers lie below, and that its configurations began in states. Assumes nothing.
use Rattle.std.proofs.Common.{◌≡◌, ℕ, zero, suc, ◌+◌, ◌*◌, ◌<◌, ◌≤◌, Bool, true, eqb, ltb, List, [], ◌∷◌, length, Some, None, Option, sym, subst, add-one, arith}
use Rattle.std.proofs.lemmas.Bool.{cond_both}
use Rattle.model.specs.Cells.{CellMeaning, In, at}
use Rattle.model.specs.Entries.{Entry}
use Rattle.model.specs.Keys.{KeyMeaning, configuration_key}
use Rattle.model.specs.Watches.{WatchMeaning}
use Rattle.model.specs.declared.configuration.Configuration.{Configuration}
use Rattle.levels.specs.Law.{Law}
use Rattle.levels.specs.Units.{Phase, looking, extending, passing, failing, filled, Standing, Kept, blamed, blamed_start, put_nexts, put_starts, begun, looked, look, extended, extend, turn, unit, says}
use Rattle.levels.specs.Units as units
use Rattle.levels.proofs.Counting.{after_one}
use Rattle.levels.proofs.Lists.{Entries}
use Rattle.levels.proofs.Standings.{Good}
use Rattle.levels.proofs.Storing.{in_keys}
use Rattle.levels.proofs.Theorem.{law, stands}
use Rattle.levels.proofs.Watching.{RunOf}
use Rattle.checking.specs.Standing.{after}

-- a phase's level after u units
abbrev Leveled : ℕ → Phase → Type 0
Leveled u (looking j low i) = j ≤ u + 1
Leveled u (extending j end i) = j ≤ u + 1
Leveled u passing = Unit {0}
Leveled u (failing b i y) = b ≤ u + 1
Leveled u filled = Unit {0}

-- the level and the place that come next are small, and the configuration there began in a state
pub record Facts {S : Type 0} (c : CellMeaning) (n : ℕ) (es : Entries S) (j i : ℕ) : Type 0 where
  pub level : j ≤ 2 * n
  pub next : i < length es
  pub fits : length es ≤ n
  pub first : (e : Entry (Configuration S)) → at es i ≡ Some e → c.state e.key.first ≡ true

abbrev pub Ready : {S : Type 0} → CellMeaning → ℕ → Entries S → Phase → Type 0
Ready c n es (looking j low i) = Facts c n es j i
Ready c n es (extending j end i) = Facts c n es j i
Ready c n es passing = Unit {0}
Ready c n es (failing b i y) = Unit {0}
Ready c n es filled = Unit {0}

module _ {S : Type 0} (c : CellMeaning) (w : WatchMeaning S) (kind : KeyMeaning S) (n : ℕ) where
  abbrev alike : Configuration S → Configuration S → Bool
  alike = (configuration_key kind).alike

  leveled_begun : (o : Option ℕ) (k : Kept S) → Leveled 0 (begun c w alike n o k).phase
  leveled_begun (Some x) k = omega arith
  leveled_begun None k =
      cond_both k.full _ _ (Leveled 0) (λ _. tt)
      (λ _. cond_both (eqb (length k.stored) 0) _ _ (Leveled 0) (λ _. tt) (λ _. omega arith))

  leveled_looked : (u j low i : ℕ) (es : Entries S) (o : Option ℕ) → j ≤ u + 1 → Leveled (u + 1) (looked c w alike n es j low i o).phase
  leveled_looked u j low i es (Some y) h = omega arith
  leveled_looked u j low i es None h = cond_both (ltb (i + 1) (length es)) _ _ (Leveled (u + 1)) (λ _. omega arith) (λ _. omega arith)

  leveled_extended : (u j end i : ℕ) (k : Kept S) → j ≤ u + 1 → Leveled (u + 1) (extended c w alike n j end i k).phase
  leveled_extended u j end i k h =
      cond_both k.full _ _ (Leveled (u + 1)) (λ _. tt)
      (λ _. cond_both (ltb (i + 1) end) _ _ (Leveled (u + 1)) (λ _. omega arith)
      (λ _. cond_both (eqb (length k.stored) end) _ _ (Leveled (u + 1)) (λ _. tt) (λ _. omega arith)))

  leveled_turn : (u : ℕ) (es : Entries S) (ph : Phase) → Leveled u ph → Leveled (u + 1) (turn c w alike n es ph).phase
  leveled_turn u es (looking j low i) h = go (at es i)
    where
      go : (o : Option (Entry (Configuration S))) → Leveled (u + 1) (look c w alike n es j low i o).phase
      go None = omega arith
      go (Some e) = leveled_looked u j low i es _ h
  leveled_turn u es (extending j end i) h = go (at es i)
    where
      go : (o : Option (Entry (Configuration S))) → Leveled (u + 1) (extend c w alike n es j end i o).phase
      go None = omega arith
      go (Some e) = leveled_extended u j end i _ h
  leveled_turn u es passing h = tt
  leveled_turn u es (failing b i y) h = omega arith
  leveled_turn u es filled h = tt

  leveled : (u : ℕ) → Leveled u (after c w kind n u).phase
  leveled zero = leveled_begun (blamed_start c w alike n c.starts) (put_starts c w alike n c.starts [])
  leveled (suc u) =
      subst (λ (s : Standing S). Leveled (suc u) s.phase) (sym (after_one c w alike n u))
      (subst (λ (v : ℕ). Leveled v (unit c w alike n (after c w kind n u)).phase) (add-one u) (leveled_turn u (after c w kind n u).stored (after c w kind n u).phase (leveled u)))

  began : (xs : List ℕ) (k : Configuration S) → RunOf c w xs k → c.state k.first ≡ true
  began [] k r = absurd r.0
  began (x ∷ xs) k r = c.starts_are_states k.first (subst (λ (y : ℕ). In y c.starts) (sym r.1.0) r.0.0)

  ready_from : (u : ℕ) (es : Entries S) (ph : Phase) → Good c w n u es ph → Law c w n u (units.said es ph) → Leveled u ph → Ready c n es ph
  ready_from u es (looking j low i) g l v =
      record {
        level = omega (arith, l.0, v);
        next = g.inside;
        fits = g.sound.fits;
        first = λ e a. let r = g.sound.each e.key (in_keys es i e a) in began r.0 e.key r.1;
      }
  ready_from u es (extending j end i) g l v =
      record {
        level = omega (arith, l.0, v);
        next = omega (arith, g.inside, g.bound);
        fits = g.sound.fits;
        first = λ e a. let r = g.sound.each e.key (in_keys es i e a) in began r.0 e.key r.1;
      }
  ready_from u es ph g l v = tt

  pub ready : (u : ℕ) → Ready c n (after c w kind n u).stored (after c w kind n u).phase
  ready u = ready_from u _ (after c w kind n u).phase (stands c w (configuration_key kind) n u) (law c w (configuration_key kind) n u) (leveled u)
