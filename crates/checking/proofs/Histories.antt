-- Calls one after another, and the replies to them. Assumes nothing.
use Rattle.std.proofs.Common.{◌≡◌, ℕ, zero, suc, ◌+◌, ◌<◌, min, List, [], ◌∷◌, length, get_or, take, drop, set, Some, Result, sym, refl, ap, ◌∙◌, subst, inl, inr, add-one, arith}
use Rattle.std.proofs.lemmas.Bool.{cases_eq}
use Rattle.std.proofs.lemmas.List.{drop-set-lt}
use Rattle.model.specs.Cells.{CellMeaning, at}
use Rattle.model.specs.Keys.{KeyMeaning}
use Rattle.model.specs.Watches.{WatchMeaning}
use Rattle.model.specs.declared.configuration.Configuration.{Configuration}
use Rattle.model.specs.declared.refusal.Refusal.{Refusal}
use Rattle.store.specs.declared.record.Record.{Record}
use Rattle.checking.specs.declared.calls.Asked.{Asked}
use Rattle.checking.specs.declared.calls.Reply.{Reply}
use Rattle.checking.specs.declared.state.Check.{Check}
use Rattle.checking.specs.Replay.{History, granted, due, Keeps, Pays, Responds, places, history, Replayed}
use Rattle.checking.proofs.Turns.{beyond_more}

pub at_get_or : {A : Type 0} (xs : List A) (i : ℕ) (d : A) → i < length xs → at xs i ≡ Some (get_or xs i d)
at_get_or [] i d h = absurd (omega arith)
at_get_or (x ∷ xs) zero d h = refl
at_get_or (x ∷ xs) (suc i) d h = at_get_or xs i d (omega arith)

at_set_same : {A : Type 0} (xs : List A) (i : ℕ) (r : A) → i < length xs → at (set xs i r) i ≡ Some r
at_set_same [] i r h = absurd (omega arith)
at_set_same (x ∷ xs) zero r h = refl
at_set_same (x ∷ xs) (suc i) r h = at_set_same xs i r (omega arith)

at_set_below : {A : Type 0} (xs : List A) (i j : ℕ) (r : A) → j < i → at (set xs i r) j ≡ at xs j
at_set_below [] i j r h = refl
at_set_below (x ∷ xs) zero j r h = absurd (omega arith)
at_set_below (x ∷ xs) (suc i) zero r h = refl
at_set_below (x ∷ xs) (suc i) (suc j) r h = at_set_below xs i j r (omega arith)

history_more : (N : ℕ) (h : History) (calls : List Asked) (i : ℕ) (a : Asked) → at calls i ≡ Some a → history N h (take (i + 1) calls) ≡ granted (history N h (take i calls)) a.call (places N a)
history_more N h calls i a e = ap (λ k. history N h (take k calls)) (add-one i) ∙ go h calls i e
  where
    go : (h : History) (calls : List Asked) (i : ℕ) → at calls i ≡ Some a → history N h (take (suc i) calls) ≡ granted (history N h (take i calls)) a.call (places N a)
    go h [] i e = absurd (cc)
    go h (b ∷ bs) zero e = let s : b ≡ a = cc in ap (λ a. granted h a.call (places N a)) s
    go h (b ∷ bs) (suc i) e = go (granted h b.call (places N b)) bs i e

module _ {S : Type 0} (c : CellMeaning) (w : WatchMeaning S) (kind : KeyMeaning S) (N : ℕ) (calls : List Asked) where
  -- what holds after m of the calls, from a history h
  abbrev pub Done : (h : History) → Check → List (Record (Configuration S)) → List (Result Reply Refusal) → ℕ → Type 0
  Done h k xs rs m = Keeps c w kind (history N h (take m calls)) k xs × Replayed c w kind N h calls rs m

  pub done_more : (h : History) (k k' : Check) (xs ys : List (Record (Configuration S))) (rs : List (Result Reply Refusal)) (r : Result Reply Refusal) (m : ℕ) (a : Asked) → at calls m ≡ Some a → m < length rs → length xs ≡ N
      → Responds c w kind a.call (min a.places (length xs)) k k' xs ys r → Done h k xs rs m → Done h k' ys (set rs m r) (m + 1)
  done_more h k k' xs ys rs r m a e b n o q =
      let p : min a.places (length xs) ≡ places N a = ap (min a.places) n in
      let before = history N h (take m calls) in (
        subst (λ h. Keeps c w kind h k' ys) (sym (history_more N h calls m a e)) (subst (λ (p : ℕ). Keeps c w kind (granted before a.call p) k' ys) p (o.keeps before q.0)),
        λ j x y l f g.
            elim (cases_eq j m) [
              | inl s ↦
                  let there : x ≡ a = let v : at calls m ≡ Some x = ap (at calls) (sym s) ∙ f in cc in
                  let same : y ≡ r = let v : at (set rs m r) m ≡ Some y = ap (at (set rs m r)) (sym s) ∙ g in let u = at_set_same rs m r b in cc in
                  subst (λ (j : ℕ). Pays c w kind (due (history N h (take j calls)) x.call (places N x)) y) (sym s)
                  (subst (λ x. Pays c w kind (due before x.call (places N x)) y) (sym there)
                  (subst (λ y. Pays c w kind (due before a.call (places N a)) y) (sym same)
                  (subst (λ (p : ℕ). Pays c w kind (due before a.call p) r) p (o.pays before q.0))))
              | inr s ↦ let below : j < m = omega arith in q.1 j x y below f (sym (at_set_below rs m j r below) ∙ g)
            ],
      )

pub rest_more : (rs old : List (Result Reply Refusal)) (m : ℕ) (r : Result Reply Refusal) → drop m rs ≡ drop m old → drop (m + 1) (set rs m r) ≡ drop (m + 1) old
rest_more rs old m r e = drop-set-lt (m + 1) rs m r (omega arith) ∙ beyond_more old rs m (m + 1) (omega arith) e
