-- The list of start rows as one row more is looked at. Assumes nothing.
use Rattle.std.proofs.Common.{◌≡◌, ℕ, suc, ◌+◌, ◌<◌, ◌≤◌, true, false, cond, List, [], ◌∷◌, ◌++◌, length, get_or, take, Ok, Err, Result, MatchResult, ap, ◌∙◌, sym, arith}
use Rattle.std.proofs.lemmas.List.{length-take-le, take_more}
use Rattle.std.proofs.lemmas.Bool.{cond-true, cond-false}
use Rattle.steps.specs.declared.row.Row.{Row}
use Rattle.steps.specs.Index.{Begun}
use Rattle.steps.specs.Laws.{swap, starts_few}
use Rattle.steps.specs.Tables.{starts_from}

starts_push : (i : ℕ) (rs : List Row) (r : Row) → starts_from i (rs ++ (r ∷ [])) ≡ cond r.start (starts_from i rs ++ ((i + length rs) ∷ [])) (starts_from i rs)
starts_push i [] r = ap (λ x. cond r.start (x ∷ []) []) (let e : i ≡ i + 0 = omega arith in e)
starts_push i (s ∷ rs) r =
    let e : suc i + length rs ≡ i + suc (length rs) = omega arith in
    ap (λ l. cond s.start (i ∷ l) l) (starts_push (suc i) rs r)
    ∙ swap s.start r.start i (suc i + length rs) (starts_from (suc i) rs)
    ∙ ap (λ x. cond r.start (cond s.start (i ∷ starts_from (suc i) rs) (starts_from (suc i) rs) ++ (x ∷ [])) (cond s.start (i ∷ starts_from (suc i) rs) (starts_from (suc i) rs))) e

module _ (rs : List Row) (i : ℕ) (xs : List ℕ) (d : Row) (here : i < length rs) (b : Begun (take i rs) xs) where
  abbrev r : Row
  r = get_or rs i d

  more : starts_from 0 (take (i + 1) rs) ≡ cond r.start (starts_from 0 (take i rs) ++ (i ∷ [])) (starts_from 0 (take i rs))
  more =
      let e : 0 + length (take i rs) ≡ i = let t = length-take-le i rs (omega arith) in omega arith in
      ap (starts_from 0) (take_more rs i d here) ∙ starts_push 0 (take i rs) r
      ∙ ap (λ x. cond r.start (starts_from 0 (take i rs) ++ (x ∷ [])) (starts_from 0 (take i rs))) e

  pub begun_other : r.start ≡ false → Begun (take (i + 1) rs) xs
  begun_other t = b ∙ sym (more ∙ cond-false r.start _ _ t)

  -- a start row's number, where there is room for one of each row
  pub begun_start : {X E : Type 0} (o : Result X E) (ys : List ℕ) → r.start ≡ true → length rs ≤ 256 → MatchResult o (λ _. (length xs < 256) × (ys ≡ xs ++ (i ∷ []))) (λ _. (ys ≡ xs) × (256 ≤ length xs)) → Begun (take (i + 1) rs) ys
  begun_start (Err e) ys t few h =
      let n = length-take-le i rs (omega arith) in
      let s = starts_few 0 (take i rs) in
      let e : length xs ≡ length (starts_from 0 (take i rs)) = ap length b in
      let full = h.1 in
      absurd (omega arith)
  begun_start (Ok x) ys t few h = h.1 ∙ ap (λ l. l ++ (i ∷ [])) b ∙ sym (more ∙ cond-true r.start _ _ t)
