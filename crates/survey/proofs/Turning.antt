-- The turns of the walk: one code more is gone through. Assumes nothing.
use Rattle.std.proofs.Common.{◌≡◌, ℕ, zero, suc, ◌+◌, ◌<◌, ◌≤◌, List, length, sym, ap, subst, add-one, arith}
use Rattle.model.specs.Cells.{CellMeaning, at}
use Rattle.store.specs.declared.record.Record.{Record}
use Rattle.store.specs.Entries.{entries}
use Rattle.survey.specs.Held.{Held, Packed}
use Rattle.survey.specs.Order.{visit, walked}
use Rattle.survey.proofs.Meeting.{begins_long}
use Rattle.survey.proofs.Walking.{walked_step, walked_begins}
use Rattle.survey.proofs.Holding.{held_length, held_then, packed_then, packed_more}

module _ (c : CellMeaning) (xs : List (Record ℕ)) where
  -- a start found no place
  pub starts_over : (ys : List (Record ℕ)) → Packed xs ys (walked c zero) → Packed xs ys (walked c (length xs))
  starts_over ys p = packed_more xs ys (walked c zero) (walked c (length xs)) p (walked_begins c zero (length xs) (omega arith))

  -- one code is gone through: its place is i, ys is the table before, zs after it
  module _ (ys zs : List (Record ℕ)) (i m : ℕ) (low : i < m) (h : Held xs ys m (walked c i)) where
    step_is : visit c i (entries ys m) (at (entries ys m) i) ≡ walked c (suc i)
    step_is = ap (λ es. visit c i es (at es i)) h.stored

    pub walk_more : (n : ℕ) → Held ys zs n (visit c i (entries ys m) (at (entries ys m) i)) → (i + 1 ≤ n) × Held xs zs n (walked c (i + 1))
    walk_more n q =
        let r = subst (Held ys zs n) step_is q in
        let a = held_length xs ys m (walked c i) h in
        let b = held_length ys zs n (walked c (suc i)) r in
        let l = begins_long (walked c i) (walked c (suc i)) (walked_step c i) in
        (omega arith, subst (λ j. Held xs zs n (walked c j)) (sym (add-one i)) (held_then xs ys zs m n (walked c i) (walked c (suc i)) h r (walked_step c i)))

    pub walk_over : Packed ys zs (visit c i (entries ys m) (at (entries ys m) i)) → Packed xs zs (walked c (length xs))
    walk_over q =
        let w = h.indexed.within in
        let e = h.long in
        packed_more xs zs (walked c (suc i)) (walked c (length xs)) (packed_then xs ys zs (walked c (suc i)) e (subst (Packed ys zs) step_is q)) (walked_begins c (suc i) (length xs) (omega arith))

  -- all codes are gone through: ws is the table once the starts were met
  pub walk_end : (ws ys : List (Record ℕ)) (k i m : ℕ) → i ≤ m → m ≤ i → Held xs ws k (walked c zero) → Held ws ys m (walked c i) → Held xs ys m (walked c m)
  walk_end ws ys k i m a b p q =
      let e : i ≡ m = omega arith in
      subst (λ j. Held xs ys m (walked c j)) e (held_then xs ws ys k m (walked c zero) (walked c i) p q (walked_begins c zero i (omega arith)))
