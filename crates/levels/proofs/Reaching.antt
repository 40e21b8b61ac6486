-- What the stored entries say of runs: the run that led to a place, and the runs whose configurations are stored. Assumes nothing.
use Rattle.std.proofs.Common.{◌≡◌, ℕ, zero, suc, ◌<◌, ◌≤◌, List, [], ◌∷◌, length, Some, sym, ap, ◌∙◌, subst, ⊎_elim, arith}
use Rattle.model.specs.Cells.{CellMeaning, In, at}
use Rattle.model.specs.Entries.{Entry}
use Rattle.model.specs.Runs.{Run, Permitted}
use Rattle.model.specs.Watches.{WatchMeaning}
use Rattle.model.specs.declared.configuration.Configuration.{Configuration}
use Rattle.levels.specs.Law.{Clear, keys}
use Rattle.levels.specs.Units.{from_at, last_at, trail}
use Rattle.levels.proofs.Lists.{Entries, push, length_push, ends, below_at, some_injective, some_none}
use Rattle.levels.proofs.Storing.{Within, within_keys, place_of, in_keys}
use Rattle.levels.proofs.Watching.{RunOf, Steps, moved, permitted_from_has, has_from_permitted, has_push, run_pop, next_pop, has_pop}

module _ {S : Type 0} where
  -- xs are the last codes of the entry at place p and of those it was reached from, m in all
  abbrev pub Line : Entries S → ℕ → ℕ → List ℕ → Type 0
  Line es zero p xs = xs ≡ []
  Line es (suc m) p xs = (e : Entry (Configuration S)) × (at es p ≡ Some e) × (zs : List ℕ) × Line es m e.from zs × (xs ≡ push zs e.key.last)

  pub line_length : (es : Entries S) (m p : ℕ) (xs : List ℕ) → Line es m p xs → length xs ≡ m
  line_length es zero p xs l = ap length l
  line_length es (suc m) p xs l =
      ap length l.4 ∙ (length_push l.2 l.0.key.last ∙ ap suc (line_length es m l.0.from l.2 l.3))

  pub line_within : (es fs : Entries S) → Within es fs → (m p : ℕ) (xs : List ℕ) → Line es m p xs → Line fs m p xs
  line_within es fs s zero p xs l = l
  line_within es fs s (suc m) p xs l = (l.0, s p l.0 l.1, l.2, line_within es fs s m l.0.from l.2 l.3, l.4)

  pub from_at_is : (es : Entries S) (p : ℕ) (e : Entry (Configuration S)) → at es p ≡ Some e → from_at es p ≡ e.from
  from_at_is [] p e h = absurd (some_none (sym h))
  from_at_is (d ∷ ds) zero e h = ap (λ (r : Entry (Configuration S)). r.from) (some_injective h)
  from_at_is (d ∷ ds) (suc p) e h = from_at_is ds p e h

  pub last_at_is : (es : Entries S) (p : ℕ) (e : Entry (Configuration S)) → at es p ≡ Some e → last_at es p ≡ e.key.last
  last_at_is [] p e h = absurd (some_none (sym h))
  last_at_is (d ∷ ds) zero e h = ap (λ (r : Entry (Configuration S)). r.key.last) (some_injective h)
  last_at_is (d ∷ ds) (suc p) e h = last_at_is ds p e h

  pub line_trail : (es : Entries S) (m p : ℕ) (xs : List ℕ) → Line es m p xs → trail es m p ≡ xs
  line_trail es zero p xs l = sym l
  line_trail es (suc m) p xs l =
      let f = from_at_is es p l.0 l.1 in
      let a = last_at_is es p l.0 l.1 in
      let r = line_trail es m l.0.from l.2 l.3 in
      ap (λ (q : ℕ). push (trail es m q) (last_at es p)) f ∙ (ap (λ (q : ℕ). push (trail es m l.0.from) q) a ∙ (ap (λ (zs : List ℕ). push zs l.0.key.last) r ∙ sym l.4))

module _ {S : Type 0} (c : CellMeaning) (w : WatchMeaning S) where
  -- a configuration of a run of at most m states
  abbrev pub Shortly : ℕ → Configuration S → Type 0
  Shortly m k = (xs : List ℕ) × RunOf c w xs k × (length xs ≤ m)

  -- the entry at place p, and m states of a run that led to it
  abbrev pub Reached : Entries S → ℕ → ℕ → Type 0
  Reached es m p = (e : Entry (Configuration S)) × (at es p ≡ Some e) × (xs : List ℕ) × Line es m p xs × RunOf c w xs e.key

  -- none of the next codes makes a run with the configuration at place p unpermitted
  abbrev pub Fine : Entries S → ℕ → Type 0
  Fine es p = (e : Entry (Configuration S)) × (at es p ≡ Some e) × ((y : ℕ) → In y (c.nexts e.key.last) → (t : S) × Steps c w e.key y t)

  -- each configuration after the one at place p is stored
  abbrev pub Closed : Entries S → ℕ → Type 0
  Closed es p = (e : Entry (Configuration S)) × (at es p ≡ Some e)
      × ((y : ℕ) → In y (c.nexts e.key.last) → (t : S) → Steps c w e.key y t → In (moved c w e.key y t) (keys es))

  -- the configuration of each run of at most j states is stored below place b
  abbrev pub Covers : ℕ → ℕ → Entries S → Type 0
  Covers j b es = (xs : List ℕ) (k : Configuration S) → RunOf c w xs k → length xs ≤ j → (p : ℕ) × (p < b) × (e : Entry (Configuration S)) × (at es p ≡ Some e) × (k ≡ e.key)

  module _ (es fs : Entries S) (s : Within es fs) where
    pub reached_within : (m p : ℕ) → Reached es m p → Reached fs m p
    reached_within m p r = (r.0, s p r.0 r.1, r.2, line_within es fs s m p r.2 r.3, r.4)

    pub fine_within : (p : ℕ) → Fine es p → Fine fs p
    fine_within p f = (f.0, s p f.0 f.1, f.2)

    pub closed_within : (p : ℕ) → Closed es p → Closed fs p
    closed_within p f = (f.0, s p f.0 f.1, λ y h t e. within_keys es fs s (moved c w f.0.key y t) (f.2 y h t e))

    pub covers_within : (j b : ℕ) → Covers j b es → Covers j b fs
    covers_within j b f xs k r h = let q = f xs k r h in (q.0, q.1, q.2, s q.0 q.2 q.3, q.4)

  pub covered_in_keys : (j b : ℕ) (es : Entries S) → Covers j b es → (xs : List ℕ) (k : Configuration S) → RunOf c w xs k → length xs ≤ j → In k (keys es)
  covered_in_keys j b es f xs k r h =
      let p = f xs k r h in
      subst (λ (d : Configuration S). In d (keys es)) (sym p.4) (in_keys es p.0 p.2 p.3)

  -- a run is empty, of one state, or of one state more than another
  by_last : (P : List ℕ → Type 0) → ((x : ℕ) → P (x ∷ [])) → ((x : ℕ) (zs : List ℕ) (y : ℕ) → P (x ∷ push zs y)) → (xs : List ℕ) → Run c xs → P xs
  by_last P one more [] r = absurd r
  by_last P one more (x ∷ xs) r =
      ⊎_elim (λ e. subst (λ (zs : List ℕ). P (x ∷ zs)) (sym e) (one x)) (λ t. subst (λ (zs : List ℕ). P (x ∷ zs)) (sym t.2) (more x t.0 t.1)) (ends xs)

  module _ (j b : ℕ) (es : Entries S) (first : 1 ≤ j) (covers : Covers j b es) where
    -- where every covered configuration was looked at, no run of one state more is unpermitted
    pub clear_more : Clear c w j → ((p : ℕ) → p < b → Fine es p) → Clear c w (suc j)
    clear_more clear fine xs r h =
        by_last (λ xs. Run c xs → length xs ≤ suc j → Permitted c w xs) (λ x r h. clear (x ∷ []) r first)
        (λ x zs y r h.
        let l = length_push zs y in
        let m : suc (length zs) ≤ j = omega arith in
        let q = run_pop c w x y zs r in
        let k = has_from_permitted c w (x ∷ zs) q (clear (x ∷ zs) q m) in
        let p = covers (x ∷ zs) k.0 (q, k.1) m in
        let f = fine p.0 p.1 in
        let e : k.0 ≡ f.0.key = p.4 ∙ ap (λ (d : Entry (Configuration S)). d.key) (some_injective (sym p.3 ∙ f.1)) in
        let g = subst (λ (d : Configuration S). (y : ℕ) → In y (c.nexts d.last) → (t : S) × Steps c w d y t) (sym e) f.2 in
        let t = g y (next_pop c w x y zs k.0 r k.1) in
        permitted_from_has c w (x ∷ push zs y) (moved c w k.0 y t.0) (has_push c w (x ∷ zs) k.0 y t.0 k.1 t.1))
        xs r r h

    -- where every covered configuration was extended, the runs of one state more are covered
    pub covers_more : b ≤ length es → ((p : ℕ) → p < b → Closed es p) → Covers (suc j) (length es) es
    covers_more bound closed xs k r h =
        by_last (λ xs. RunOf c w xs k → length xs ≤ suc j → (p : ℕ) × (p < length es) × (e : Entry (Configuration S)) × (at es p ≡ Some e) × (k ≡ e.key))
        (λ x r h. let p = covers (x ∷ []) k r first in let l = p.1 in (p.0, omega arith, p.2, p.3, p.4))
        (λ x zs y r h.
        let l = length_push zs y in
        let m : suc (length zs) ≤ j = omega arith in
        let q = run_pop c w x y zs r.0 in
        let o = has_pop c w x y zs k r.1 in
        let p = covers (x ∷ zs) o.0 (q, o.1) m in
        let f = closed p.0 p.1 in
        let e : o.0 ≡ f.0.key = p.4 ∙ ap (λ (d : Entry (Configuration S)). d.key) (some_injective (sym p.3 ∙ f.1)) in
        let g = subst (λ (d : Configuration S). (y : ℕ) → In y (c.nexts d.last) → (t : S) → Steps c w d y t → In (moved c w d y t) (keys es)) (sym e) f.2 in
        let i = g y (next_pop c w x y zs o.0 r.0 o.1) o.2 o.3 in
        let a = place_of k es (subst (λ (d : Configuration S). In d (keys es)) o.4 i) in
        (a.0, below_at es a.0 a.1 a.2, a.1, a.2, a.3))
        xs r.0 r h
