-- Where the arcs of each row lead, as one arc more is entered. Assumes nothing.
use Rattle.std.proofs.Common.{◌≡◌, ℕ, ◌+◌, ◌<◌, ◌≤◌, true, false, eqb, List, [], ◌∷◌, ◌++◌, length, get_or, take, set, Ok, Err, Result, MatchResult, is_ok, sym, refl, ap, ◌∙◌, subst, inl, inr, arith}
use Rattle.std.proofs.lemmas.List.{get_or-set_same, get_or-set_other, get_or_read, take_more}
use Rattle.std.proofs.lemmas.Bool.{cond-true, cond-false, eq-eqb, ne_eqb, cases_eq, true≢false, lt-ltb, le-ltb, and_from}
use Rattle.steps.specs.declared.row.Arc.{Arc}
use Rattle.steps.specs.Index.{Filed, Entered}
use Rattle.steps.specs.Laws.{nexts_push}
use Rattle.steps.specs.Tables.{nexts_of, proper_arc, proper_arcs}
use Rattle.steps.proofs.Lists.{arcs_push}

-- an arc between rows
module _ (n : ℕ) (a : Arc) (old : List (List ℕ)) (from : a.from < n) (to : a.to < n) (few : n ≤ 256) (bs : List Arc) (filed : Filed bs old) where
  pub full_row : 64 ≤ length (get_or old a.from []) → proper_arc n bs a ≡ false
  full_row h =
      let e : length (get_or old a.from []) ≡ length (nexts_of bs a.from) = ap length (filed a.from (omega arith)) in
      simp (lt-ltb a.from n from, lt-ltb a.to n to, le-ltb (length (nexts_of bs a.from)) 64 (omega arith))

  pub entered : (new : List ℕ) → length old ≡ 256 → length (get_or old a.from []) < 64 → new ≡ get_or old a.from [] ++ (a.to ∷ []) → (proper_arc n bs a ≡ true) × Filed (bs ++ (a ∷ [])) (set old a.from new)
  entered new long room is =
      let e : get_or old a.from [] ≡ nexts_of bs a.from = filed a.from (omega arith) in
      let r : length (nexts_of bs a.from) < 64 = subst (λ l. length l < 64) e room in (
        and_from _ _ (lt-ltb a.from n from) (and_from _ _ (lt-ltb a.to n to) (lt-ltb _ _ r)),
        λ x h. elim (cases_eq a.from x) [
          | inl q ↦
              subst (λ y. get_or (set old a.from new) y [] ≡ nexts_of (bs ++ (a ∷ [])) y) q
              (get_or-set_same old a.from new [] (omega arith) ∙ is ∙ ap (λ l. l ++ (a.to ∷ [])) e
              ∙ sym (nexts_push bs a a.from ∙ cond-true (eqb a.from a.from) _ _ (eq-eqb a.from a.from (λ _. a.from))))
          | inr q ↦
              get_or-set_other old a.from x new [] (λ s. q (sym s)) ∙ filed x h
              ∙ sym (nexts_push bs a x ∙ cond-false (eqb a.from x) _ _ (ne_eqb a.from x q))
        ],
      )

-- what putting an arc behind the others of its row comes to
pub enters : {X E : Type 0} (n : ℕ) (a : Arc) (old : List (List ℕ)) (r : Result X E) (row new : List ℕ) → a.from < n → a.to < n → n ≤ 256 → length old ≡ 256 → row ≡ get_or old a.from row
    → MatchResult r (λ _. (length (get_or old a.from row) < 64) × (new ≡ get_or old a.from row ++ (a.to ∷ []))) (λ _. (new ≡ get_or old a.from row) × (64 ≤ length (get_or old a.from row)))
    → Entered n a old (set old a.from new) r
enters n a old (Err q) row new from to few long is h = λ bs filed.
    let e = sym is ∙ get_or_read old a.from row (omega arith) is [] in
    full_row n a old from to few bs filed (subst (λ l. 64 ≤ length l) e h.1)
enters n a old (Ok x) row new from to few long is h = λ bs filed.
    let e = sym is ∙ get_or_read old a.from row (omega arith) is [] in
    entered n a old from to few bs filed new long (subst (λ l. length l < 64) e h.0) (h.1 ∙ ap (λ l. l ++ (a.to ∷ [])) e)

-- the same of another error
pub enters_as : {X E D : Type 0} (n : ℕ) (a : Arc) (old new : List (List ℕ)) (r : Result X E) (s : Result X D) → is_ok s ≡ is_ok r → Entered n a old new r → Entered n a old new s
enters_as n a old new (Ok x) (Ok y) e h = h
enters_as n a old new (Ok x) (Err y) e h = absurd (true≢false (sym e))
enters_as n a old new (Err x) (Ok y) e h = absurd (true≢false e)
enters_as n a old new (Err x) (Err y) e h = h

-- a result is one or the other
pub ok_is : {X E : Type 0} (r : Result X E) → is_ok r ≡ true → (x : X) × (r ≡ Ok x)
ok_is (Ok x) h = (x, refl)
ok_is (Err e) h = absurd (true≢false (sym h))

pub err_is : {X E : Type 0} (r : Result X E) → is_ok r ≡ false → (e : E) × (r ≡ Err e)
err_is (Ok x) h = absurd (true≢false h)
err_is (Err e) h = (e, refl)

-- one arc more of the list decides
pub arcs_more : (n : ℕ) (all : List Arc) (i : ℕ) (d : Arc) → i < length all → proper_arcs n [] (take i all) ≡ true → proper_arcs n [] (take (i + 1) all) ≡ proper_arc n (take i all) (get_or all i d)
arcs_more n all i d h good = ap (proper_arcs n []) (take_more all i d h) ∙ arcs_push n [] (take i all) (get_or all i d) good

pub filed_more : (n : ℕ) (all : List Arc) (i : ℕ) (d : Arc) (new : List (List ℕ)) → i < length all → proper_arcs n [] (take i all) ≡ true
    → (proper_arc n (take i all) (get_or all i d) ≡ true) × Filed (take i all ++ (get_or all i d ∷ [])) new → (proper_arcs n [] (take (i + 1) all) ≡ true) × Filed (take (i + 1) all) new
filed_more n all i d new h good p =
    (arcs_more n all i d h good ∙ p.0, subst (λ l. Filed l new) (sym (take_more all i d h)) p.1)
