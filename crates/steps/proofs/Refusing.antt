-- From what the tests found to the refusal that the table owes. Assumes nothing.
use Rattle.std.proofs.Common.{◌≡◌, ℕ, ◌+◌, ◌<◌, ◌≤◌, true, false, ◌⊎◌, List, [], length, take, Some, sym, refl, ap, ◌∙◌, inl, inr, ⊎_elim, arith}
use Rattle.std.proofs.lemmas.List.{take-take}
use Rattle.std.proofs.lemmas.Bool.{both_ways, and_from, le-leb}
use Rattle.model.specs.Cells.{at}
use Rattle.model.specs.Refusals.{reply}
use Rattle.model.specs.declared.refusal.Refusal.{Refusal}
use Rattle.model.specs.declared.refusal.Layer.TheVariants.{Steps}
use Rattle.model.specs.declared.refusal.Cause.TheVariants.{Many, Step}
use Rattle.steps.specs.declared.row.Row.{Row}
use Rattle.steps.specs.declared.row.Arc.{Arc}
use Rattle.steps.specs.Calls.{TooMany, Improper, First, Never, Refused}
use Rattle.steps.specs.Tables.{proper_row, proper_rows, proper_arc, proper_arcs, proper}
use Rattle.steps.proofs.Lists.{at_more, at_take, rows_push, arcs_push, row_at, arc_at}

module _ (rs : List Row) (bs : List Arc) where
  pub none_many : length rs ≤ 256 → length bs ≤ 4096 → Never (TooMany rs bs)
  none_many h l i (inl p) = let a = p.0 in let b = p.1 in omega arith
  none_many h l i (inr p) = let a = p.0 in let b = p.1 in omega arith

  pub rows_many : 256 < length rs → First (TooMany rs bs) 256
  rows_many h = (inl (omega arith, h), λ j l. ⊎_elim (λ p. let a = p.0 in omega arith) (λ p. let a = p.0 in omega arith))

  pub arcs_many : length rs ≤ 256 → 4096 < length bs → First (TooMany rs bs) (length rs + 4096)
  arcs_many h k = (inr (omega arith, omega arith), λ j l. ⊎_elim (λ p. let a = p.0 in let b = p.1 in omega arith) (λ p. let a = p.0 in omega arith))

  -- an improper row before place i of proper ones
  no_row : (i j : ℕ) → proper_rows (take i rs) ≡ true → j < i → ((r : Row) × (at rs j ≡ Some r) × (proper_row r ≡ false)) → ⊥
  no_row i j e l p = both_ways (proper_row p.0) p.2 (row_at (take i rs) j p.0 e (at_take rs i j l ∙ p.1))

  no_arc : (i j : ℕ) (a : Arc) → proper_arcs (length rs) [] (take i bs) ≡ true → j < i → at bs j ≡ Some a → proper_arc (length rs) (take j bs) a ≡ false → ⊥
  no_arc i j a e l h t =
      both_ways (proper_arc (length rs) (take j bs) a) t
      (ap (λ x. proper_arc (length rs) x a) (sym (take-take j i bs (omega arith))) ∙ arc_at (length rs) [] (take i bs) j a e (at_take bs i j l ∙ h))

  pub row_first : (i : ℕ) → i < length rs → proper_rows (take i rs) ≡ true → proper_rows (take (i + 1) rs) ≡ false → First (Improper rs bs) i
  row_first i h e f =
      let x = at_more rs i h in
      let t : proper_row x.0 ≡ false = sym (rows_push (take i rs) x.0 e) ∙ ap proper_rows (sym x.2) ∙ f in
      (inl (x.0, x.1, t), λ j l. ⊎_elim (no_row i j e l) (λ p. let q = p.1 in omega arith))

  pub arc_first : (i : ℕ) → i < length bs → proper_rows rs ≡ true → proper_arcs (length rs) [] (take i bs) ≡ true → proper_arcs (length rs) [] (take (i + 1) bs) ≡ false → First (Improper rs bs) (length rs + i)
  arc_first i h g e f =
      let x = at_more bs i h in
      let t : proper_arc (length rs) (take i bs) x.0 ≡ false = sym (arcs_push (length rs) [] (take i bs) x.0 e) ∙ ap (proper_arcs (length rs) []) (sym x.2) ∙ f in (
        inr (i, refl, x.0, x.1, t),
        λ j l. ⊎_elim (λ p. both_ways (proper_row p.0) p.2 (row_at rs j p.0 g p.1)) (λ p. let q = p.1 in no_arc i p.0 p.2 e (omega arith) p.3 p.4),
      )

  pub all_proper : proper_rows rs ≡ true → proper_arcs (length rs) [] bs ≡ true → Never (Improper rs bs)
  all_proper g e i (inl p) = both_ways (proper_row p.0) p.2 (row_at rs i p.0 g p.1)
  all_proper g e i (inr p) = both_ways (proper_arc (length rs) (take p.0 bs) p.2) p.4 (arc_at (length rs) [] bs p.0 p.2 e p.3)

  -- the three refusals
  pub refused_many : (e : Refusal) → ((e ≡ record { layer = Steps; cause = Many; place = 256 }) × (256 < length rs)) ⊎ ((e ≡ record { layer = Steps; cause = Many; place = length rs + 4096 }) × (length rs ≤ 256) × (4096 < length bs)) → Refused rs bs e
  refused_many e (inl p) = inl (256, ap reply p.0, rows_many p.1)
  refused_many e (inr p) = inl (length rs + 4096, ap reply p.0, arcs_many p.1 p.2)

  pub refused_row : (e : Refusal) → length rs ≤ 256 → length bs ≤ 4096 → ((i : ℕ) × (e ≡ record { layer = Steps; cause = Step; place = i }) × (i < length rs) × (proper_rows (take i rs) ≡ true) × (proper_rows (take (i + 1) rs) ≡ false)) → Refused rs bs e
  refused_row e h l p = inr (p.0, ap reply p.1, none_many h l, row_first p.0 p.2 p.3 p.4)

  pub refused_arc : (e : Refusal) → length rs ≤ 256 → length bs ≤ 4096 → proper_rows rs ≡ true → ((i : ℕ) × (e ≡ record { layer = Steps; cause = Step; place = length rs + i }) × (i < length bs) × (proper_arcs (length rs) [] (take i bs) ≡ true) × (proper_arcs (length rs) [] (take (i + 1) bs) ≡ false)) → Refused rs bs e
  refused_arc e h l g p = inr (length rs + p.0, ap reply p.1, none_many h l, arc_first p.0 p.2 g p.3 p.4)

  pub is_proper : length rs ≤ 256 → length bs ≤ 4096 → proper_rows rs ≡ true → proper_arcs (length rs) [] bs ≡ true → proper rs bs ≡ true
  is_proper h l g e = and_from _ _ (le-leb (length rs) 256 h) (and_from _ _ (le-leb (length bs) 4096 l) (and_from _ _ g e))
