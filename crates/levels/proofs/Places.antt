-- Where the places of a check lie after each unit: inside the stored ones, and reached only from places that are not later. Assumes nothing.
use Rattle.std.proofs.Common.{◌≡◌, ℕ, zero, suc, ◌+◌, ◌<◌, ◌≤◌, Bool, false, eqb, ltb, ◌⊎◌, List, [], ◌∷◌, ◌++◌, length, Some, None, Option, sym, refl, subst, inl, inr, ⊎_elim, arith, ltb-true}
use borrow.Author.Tests.{eqb-false}
use Rattle.std.proofs.lemmas.Bool.{cond_both}
use Rattle.model.specs.Cells.{CellMeaning, at}
use Rattle.model.specs.Entries.{Entry}
use Rattle.model.specs.Watches.{WatchMeaning}
use Rattle.model.specs.declared.configuration.Configuration.{Configuration}
use Rattle.levels.specs.Units.{Phase, looking, extending, passing, failing, filled, Standing, Kept, onward, known, put, and_then, put_new, put_nexts, put_starts, blamed, blamed_start, begun, opened, looked, look, extended, extend, turn, unit, units, after}
use Rattle.levels.proofs.Lists.{Entries, length_push, at_push, some_none}

-- the stored entries are at most n, each reached from a place that is not later than its own
pub record KeptBack {S : Type 0} (n : ℕ) (es : Entries S) : Type 0 where
  pub fits : length es ≤ n
  pub back : (p : ℕ) (e : Entry (Configuration S)) → at es p ≡ Some e → e.from ≤ p

-- the places that a phase names are stored
abbrev pub Inside : {S : Type 0} → Entries S → Phase → Type 0
Inside es (looking j low i) = (low ≤ i) × (i < length es)
Inside es (extending j end i) = (i < end) × (end ≤ length es)
Inside es passing = Unit {0}
Inside es (failing m i y) = (m ≡ 0) ⊎ (i < length es)
Inside es filled = Unit {0}

abbrev pub Placed : {S : Type 0} → ℕ → Standing S → Type 0
Placed n s = KeptBack n s.stored × Inside s.stored s.phase

module _ {S : Type 0} (c : CellMeaning) (w : WatchMeaning S) (same : Configuration S → Configuration S → Bool) (n : ℕ) where
  -- storing keeps that, and loses nothing
  abbrev Keeps : Entries S → Kept S → Type 0
  Keeps es r = KeptBack n r.stored × (length es ≤ length r.stored)

  push_keeps : (es : Entries S) (e : Entry (Configuration S)) → KeptBack n es → length es < n → e.from ≤ length es → Keeps es (record { stored = es ++ (e ∷ []); full = false })
  push_keeps es e b h f =
      let l = length_push es e in (
        record {
          fits = omega arith;
          back = λ p d a. ⊎_elim (λ q. b.back p d q) (λ q. subst (λ (x : Entry (Configuration S)). x.from ≤ p) (sym q.1) (let z = q.0 in omega arith)) (at_push es e p d a);
        },
        omega arith,
      )

  put_keeps : (es : Entries S) (k : Configuration S) (from : ℕ) → KeptBack n es → from ≤ length es → Keeps es (put c w same n es k from)
  put_keeps es k from b f =
      cond_both (known c w same n k es) _ _ (λ r. Keeps es r) (λ a. (b, omega arith))
      (λ a. cond_both (ltb (length es) n) _ _ (λ r. Keeps es r) (λ h. push_keeps es (record { key = k; from = from }) b (ltb-true (length es) n h) f) (λ h. (b, omega arith)))

  new_keeps : (es : Entries S) (o : Option (Configuration S)) (from : ℕ) → KeptBack n es → from ≤ length es → Keeps es (put_new c w same n es o from)
  new_keeps es None from b f = (b, omega arith)
  new_keeps es (Some k) from b f = put_keeps es k from b f

  then_keeps : (es : Entries S) (r : Kept S) (go : Entries S → Kept S) → Keeps es r → ((fs : Entries S) → KeptBack n fs → length es ≤ length fs → Keeps fs (go fs)) → Keeps es (and_then c w same n r go)
  then_keeps es r go k next =
      cond_both r.full r (go r.stored) (λ a. Keeps es a) (λ t. k)
      (λ t. let q = next r.stored k.0 k.1 in let a = k.1 in let b = q.1 in (q.0, omega arith))

  nexts_keep : (i x : ℕ) (s : S) (ys : List ℕ) (es : Entries S) → KeptBack n es → i ≤ length es → Keeps es (put_nexts c w same n i x s ys es)
  nexts_keep i x s [] es b h = (b, omega arith)
  nexts_keep i x s (y ∷ ys) es b h =
      then_keeps es (put_new c w same n es (onward c w same n x s y) i) (put_nexts c w same n i x s ys) (new_keeps es (onward c w same n x s y) i b h)
      (λ fs a l. nexts_keep i x s ys fs a (omega arith))

  starts_keep : (xs : List ℕ) (es : Entries S) → KeptBack n es → Keeps es (put_starts c w same n xs es)
  starts_keep [] es b = (b, omega arith)
  starts_keep (x ∷ xs) es b =
      then_keeps es (put_new c w same n es (onward c w same n x w.first x) (length es)) (put_starts c w same n xs) (new_keeps es (onward c w same n x w.first x) (length es) b (omega arith))
      (λ fs a l. starts_keep xs fs a)

  none_kept : KeptBack {S = S} n []
  none_kept = record { fits = omega arith; back = λ p e h. absurd (some_none (sym h)) }

  begun_placed : (o : Option ℕ) (r : Kept S) → KeptBack n r.stored → Placed n (begun c w same n o r)
  begun_placed (Some x) r b = (none_kept, inl refl)
  begun_placed None r b = (
    b,
    cond_both r.full _ _ (λ ph. Inside r.stored ph) (λ t. tt)
        (λ t. cond_both (eqb (length r.stored) 0) _ _ (λ ph. Inside r.stored ph) (λ h. tt) (λ h. let z = eqb-false (length r.stored) 0 h in (omega arith, omega arith))),
  )

  looked_placed : (es : Entries S) (j low i : ℕ) (o : Option ℕ) → KeptBack n es → low ≤ i → i < length es → Placed n (looked c w same n es j low i o)
  looked_placed es j low i (Some y) b l h = (b, inr h)
  looked_placed es j low i None b l h = (
    b,
    cond_both (ltb (i + 1) (length es)) _ _ (λ ph. Inside es ph) (λ t. let z = ltb-true (i + 1) (length es) t in (omega arith, omega arith)) (λ t. (omega arith, omega arith)),
  )

  look_placed : (es : Entries S) (j low i : ℕ) (o : Option (Entry (Configuration S))) → KeptBack n es → low ≤ i → i < length es → Placed n (look c w same n es j low i o)
  look_placed es j low i None b l h = (b, (l, h))
  look_placed es j low i (Some e) b l h = looked_placed es j low i (blamed c w same n e.key.first e.key.state (c.nexts e.key.last)) b l h

  extended_placed : (es : Entries S) (j end i : ℕ) (r : Kept S) → Keeps es r → i < end → end ≤ length es → Placed n (extended c w same n j end i r)
  extended_placed es j end i r k h l = (
    k.0,
    cond_both r.full _ _ (λ ph. Inside r.stored ph) (λ t. tt)
        (λ t. cond_both (ltb (i + 1) end) _ _ (λ ph. Inside r.stored ph) (λ q. let z = ltb-true (i + 1) end q in let a = k.1 in (omega arith, omega arith))
        (λ q. cond_both (eqb (length r.stored) end) _ _ (λ ph. Inside r.stored ph) (λ a. tt)
        (λ a. let z = eqb-false (length r.stored) end a in let d = k.1 in (omega arith, omega arith)))),
  )

  extend_placed : (es : Entries S) (j end i : ℕ) (o : Option (Entry (Configuration S))) → KeptBack n es → i < end → end ≤ length es → Placed n (extend c w same n es j end i o)
  extend_placed es j end i None b h l = (b, (h, l))
  extend_placed es j end i (Some e) b h l =
      extended_placed es j end i (put_nexts c w same n i e.key.first e.key.state (c.nexts e.key.last) es)
      (nexts_keep i e.key.first e.key.state (c.nexts e.key.last) es b (omega arith)) h l

  pub turn_placed : (es : Entries S) (ph : Phase) → KeptBack n es → Inside es ph → Placed n (turn c w same n es ph)
  turn_placed es (looking j low i) b h = look_placed es j low i (at es i) b h.0 h.1
  turn_placed es (extending j end i) b h = extend_placed es j end i (at es i) b h.0 h.1
  turn_placed es passing b h = (b, h)
  turn_placed es (failing m i y) b h = (b, h)
  turn_placed es filled b h = (b, h)

  pub units_placed : (u : ℕ) (s : Standing S) → Placed n s → Placed n (units c w same n u s)
  units_placed zero s h = h
  units_placed (suc u) s h = units_placed u (unit c w same n s) (turn_placed s.stored s.phase h.0 h.1)

  -- after any units the stored places are at most n, and those that the phase names are among them
  pub placed : (u : ℕ) → Placed n (after c w same n u)
  placed u =
      units_placed u (opened c w same n)
      (begun_placed (blamed_start c w same n c.starts) (put_starts c w same n c.starts []) (starts_keep c.starts [] none_kept).0)
