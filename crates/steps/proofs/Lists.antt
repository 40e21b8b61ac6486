-- The element at a place of a list, and the tests of rows and arcs as a list grows. Assumes nothing.
use Rattle.std.proofs.Common.{◌≡◌, ℕ, zero, suc, ◌+◌, ◌<◌, Bool, true, false, ◌&&◌, List, [], ◌∷◌, ◌++◌, length, get_or, take, ℤ, pos, negsuc, Some, sym, refl, ap, ◌∙◌, subst, arith}
use lib.Signed.{le_z}
use Rattle.std.specs.List.{list_all, AllWithin, HoldsAt}
use Rattle.std.proofs.lemmas.List.{append-nil, append_assoc, take_all, take_more}
use Rattle.std.proofs.lemmas.Bool.{and_parts, and_from}
use Rattle.std.proofs.lemmas.Option.{none-some, same_Some}
use Rattle.model.specs.Cells.{at}
use Rattle.steps.specs.declared.row.Row.{Row}
use Rattle.steps.specs.declared.row.Arc.{Arc}
use Rattle.steps.specs.Tables.{limited, proper_row, proper_rows, proper_arc, proper_arcs}
use Rattle.steps.specs.Laws.{arcs_parts}

module _ {A : Type 0} where
  pub at_get_or : (xs : List A) (i : ℕ) (d : A) → i < length xs → at xs i ≡ Some (get_or xs i d)
  at_get_or [] i d h = absurd (omega arith)
  at_get_or (x ∷ xs) zero d h = refl
  at_get_or (x ∷ xs) (suc i) d h = at_get_or xs i d (omega arith)

  -- an element of the list, and the front up to it
  pub at_more : (xs : List A) (i : ℕ) → i < length xs → (x : A) × (at xs i ≡ Some x) × (take (i + 1) xs ≡ take i xs ++ (x ∷ []))
  at_more [] i h = absurd (omega arith)
  at_more (y ∷ ys) i h = (get_or (y ∷ ys) i y, at_get_or (y ∷ ys) i y h, take_more (y ∷ ys) i y h)

  pub at_take : (xs : List A) (n i : ℕ) → i < n → at (take n xs) i ≡ at xs i
  at_take xs zero i h = absurd (omega arith)
  at_take [] (suc n) i h = refl
  at_take (x ∷ xs) (suc n) zero h = refl
  at_take (x ∷ xs) (suc n) (suc i) h = at_take xs n i (omega arith)

and_true : (b : Bool) → (b && true) ≡ b
and_true true = refl
and_true false = refl

pub and_second : (a b : Bool) → a ≡ true → (a && b) ≡ b
and_second true b e = refl
and_second false b e = cc

-- behind proper rows, one more decides
pub rows_push : (rs : List Row) (r : Row) → proper_rows rs ≡ true → proper_rows (rs ++ (r ∷ [])) ≡ proper_row r
rows_push [] r e = and_true (proper_row r)
rows_push (s ∷ rs) r e =
    let p = and_parts (proper_row s) (proper_rows rs) e in
    and_second (proper_row s) (proper_rows (rs ++ (r ∷ []))) p.0 ∙ rows_push rs r p.1

-- behind proper arcs, one more decides
pub arcs_push : (n : ℕ) (before bs : List Arc) (a : Arc) → proper_arcs n before bs ≡ true → proper_arcs n before (bs ++ (a ∷ [])) ≡ proper_arc n (before ++ bs) a
arcs_push n before [] a e = and_true (proper_arc n before a) ∙ ap (λ l. proper_arc n l a) (sym (append-nil before))
arcs_push n before (b ∷ bs) a e =
    let p = arcs_parts n before b bs e in
    and_second (proper_arc n before b) (proper_arcs n (before ++ (b ∷ [])) (bs ++ (a ∷ []))) p.0
    ∙ arcs_push n (before ++ (b ∷ [])) bs a p.1 ∙ ap (λ l. proper_arc n l a) (append_assoc before (b ∷ []) bs)

pub row_at : (rs : List Row) (i : ℕ) (r : Row) → proper_rows rs ≡ true → at rs i ≡ Some r → proper_row r ≡ true
row_at [] i r e h = absurd (none-some _ h)
row_at (s ∷ rs) zero r e h = subst (λ x. proper_row x ≡ true) (same_Some _ _ h) (and_parts (proper_row s) (proper_rows rs) e).0
row_at (s ∷ rs) (suc i) r e h = row_at rs i r (and_parts (proper_row s) (proper_rows rs) e).1 h

pub arc_at : (n : ℕ) (before bs : List Arc) (i : ℕ) (a : Arc) → proper_arcs n before bs ≡ true → at bs i ≡ Some a → proper_arc n (before ++ take i bs) a ≡ true
arc_at n before [] i a e h = absurd (none-some _ h)
arc_at n before (b ∷ bs) zero a e h =
    ap (λ l. proper_arc n l a) (append-nil before) ∙ subst (λ x. proper_arc n before x ≡ true) (same_Some _ _ h) (arcs_parts n before b bs e).0
arc_at n before (b ∷ bs) (suc i) a e h =
    ap (λ l. proper_arc n l a) (sym (append_assoc before (b ∷ []) (take i bs))) ∙ arc_at n (before ++ (b ∷ [])) bs i a (arcs_parts n before b bs e).1 h

-- a row that is proper, and one that is not
abbrev pub Right : Row → Type 0
Right r = proper_row r ≡ true

abbrev pub Wrong : Row → Type 0
Wrong r = proper_row r ≡ false

-- the test of one value, and of them all
abbrev pub within : ℤ → Bool
within v = le_z (negsuc 999) v && le_z v (pos 1000)

pub limited_all : (vs : List ℤ) → list_all within vs ≡ limited vs
limited_all [] = refl
limited_all (v ∷ vs) = and_assoc (le_z (negsuc 999) v) (le_z v (pos 1000)) (list_all within vs) ∙ ap (λ b. le_z (negsuc 999) v && (le_z v (pos 1000) && b)) (limited_all vs)
  where
    and_assoc : (a b c : Bool) → ((a && b) && c) ≡ (a && (b && c))
    and_assoc true b c = refl
    and_assoc false b c = refl

-- a row more is tested
rows_more : (rs : List Row) (i : ℕ) (d : Row) → i < length rs → proper_rows (take i rs) ≡ true → proper_rows (take (i + 1) rs) ≡ proper_row (get_or rs i d)
rows_more rs i d h e = ap proper_rows (take_more rs i d h) ∙ rows_push (take i rs) (get_or rs i d) e

proper_before : (rs : List Row) (i : ℕ) → AllWithin Right rs 0 i → proper_rows (take i rs) ≡ true
proper_before rs zero h = refl
proper_before [] (suc i) h = refl
proper_before (r ∷ rs) (suc i) h = and_from _ _ (h 0 r (omega arith) (omega arith)) (proper_before rs i (λ k d l u. h (suc k) d (omega arith) (omega arith)))

-- what looking for the first row that is not proper finds
pub all_right : (rs : List Row) → AllWithin Right rs 0 (length rs) → proper_rows rs ≡ true
all_right rs h = ap proper_rows (sym (take_all (length rs) rs (omega arith))) ∙ proper_before rs (length rs) h

pub first_wrong : (rs : List Row) (i : ℕ) → (i < length rs) × HoldsAt Wrong rs i × AllWithin Right rs 0 i → (i < length rs) × (proper_rows (take i rs) ≡ true) × (proper_rows (take (i + 1) rs) ≡ false)
first_wrong rs i h =
    let e = proper_before rs i h.2 in
    let x = at_more rs i h.0 in
    (h.0, e, rows_more rs i x.0 h.0 e ∙ h.1 x.0)
