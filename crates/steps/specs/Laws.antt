-- What it comes to that rows and arcs are proper: the laws that a cell's meaning asks for. Assumes nothing.
use Rattle.std.specs.Prelude.{◌≡◌, ℕ, zero, suc, ◌+◌, ◌<◌, ◌≤◌, Bool, true, false, cond, ◌&&◌, T, List, [], ◌∷◌, ◌++◌, length, ℤ, pos, negsuc, ◌==◌, int_le, nat_lt, refl}
use Rattle.std.proofs.Common.{sym, ap, subst, ◌∙◌, ⊎_elim, arith}
use Rattle.std.specs.Int.Signed.{le_z_yes}
use Rattle.std.proofs.lemmas.List.{append-nil, append_assoc, length_push}
use Rattle.std.proofs.lemmas.Bool.{and_parts, cond_both, ltb-true, eqb-true, true≢false}
use Rattle.model.specs.Cells.{In, Limited}
use Rattle.steps.specs.declared.row.Row.{Row}
use Rattle.steps.specs.declared.row.Arc.{Arc}
use Rattle.steps.specs.Tables.{nexts_of, starts_from, reading_of, limited, proper_row, proper_rows, proper_arc, proper_arcs}

holds : (b : Bool) → b ≡ true → T b
holds true e = tt
holds false e = absurd (true≢false (sym e))

-- no more starts than rows
pub starts_few : (i : ℕ) (rs : List Row) → length (starts_from i rs) ≤ length rs
starts_few i [] = omega arith
starts_few i (r ∷ rs) =
    let h = starts_few (suc i) rs in
    cond_both r.start (i ∷ starts_from (suc i) rs) (starts_from (suc i) rs) (λ l. length l ≤ suc (length rs)) (λ _. omega arith) (λ _. omega arith)

-- starts are rows
pub starts_below : (i x : ℕ) (rs : List Row) → In x (starts_from i rs) → x < i + length rs
starts_below i x [] = λ h. absurd h
starts_below i x (r ∷ rs) =
    let go : In x (starts_from (suc i) rs) → x < i + suc (length rs) = λ t. let h = starts_below (suc i) x rs t in omega arith in
    cond_both r.start (i ∷ starts_from (suc i) rs) (starts_from (suc i) rs) (λ l. In x l → x < i + suc (length rs)) (λ _. ⊎_elim (λ e. omega arith) go) (λ _. go)

-- the test of values is what a cell asks of them
pub limited_is : (vs : List ℤ) → limited vs ≡ true → Limited vs
limited_is [] e = tt
limited_is (v ∷ vs) e =
    let p = and_parts (int_le (negsuc 999) v) (int_le v (pos 1000) && limited vs) e in
    let q = and_parts (int_le v (pos 1000)) (limited vs) p.1 in
    (le_z_yes (holds _ p.0), le_z_yes (holds _ q.0), limited_is vs q.1)

-- labels and values of proper rows are limited
pub reading_limited : (rs : List Row) (x : ℕ) → proper_rows rs ≡ true → x < length rs → ((reading_of rs x).label < 64) × Limited (reading_of rs x).values
reading_limited [] x e h = absurd (omega arith)
reading_limited (r ∷ rs) zero e h =
    let p = and_parts (nat_lt r.label 64) (limited r.values) (and_parts (proper_row r) (proper_rows rs) e).0 in
    (ltb-true r.label 64 p.0, limited_is r.values p.1)
reading_limited (r ∷ rs) (suc x) e h = reading_limited rs x (and_parts (proper_row r) (proper_rows rs) e).1 (omega arith)

-- what a proper arc is
pub arc_parts : (n : ℕ) (before : List Arc) (a : Arc) → proper_arc n before a ≡ true → (a.from < n) × (a.to < n) × (length (nexts_of before a.from) < 64)
arc_parts n before a e =
    let p = and_parts (nat_lt a.from n) (nat_lt a.to n && nat_lt (length (nexts_of before a.from)) 64) e in
    let q = and_parts (nat_lt a.to n) (nat_lt (length (nexts_of before a.from)) 64) p.1 in
    (ltb-true _ _ p.0, ltb-true _ _ q.0, ltb-true _ _ q.1)

-- of proper arcs the first is proper, and so are the others behind it
pub arcs_parts : (n : ℕ) (before : List Arc) (a : Arc) (bs : List Arc) → proper_arcs n before (a ∷ bs) ≡ true → (proper_arc n before a ≡ true) × (proper_arcs n (before ++ (a ∷ [])) bs ≡ true)
arcs_parts n before a bs e = and_parts (proper_arc n before a) (proper_arcs n (before ++ (a ∷ [])) bs) e

-- arcs lead to rows
pub nexts_below : (n x y : ℕ) (before bs : List Arc) → proper_arcs n before bs ≡ true → In y (nexts_of bs x) → y < n
nexts_below n x y before [] e = λ h. absurd h
nexts_below n x y before (a ∷ bs) e =
    let p = arcs_parts n before a bs e in
    let q = (arc_parts n before a p.0).1 in
    let go = nexts_below n x y (before ++ (a ∷ [])) bs p.1 in
    cond_both (a.from == x) (a.to ∷ nexts_of bs x) (nexts_of bs x) (λ l. In y l → y < n) (λ _. ⊎_elim (λ e. omega arith) go) (λ _. go)

-- no arc leaves what is no row
pub nexts_none : (n x : ℕ) (before bs : List Arc) → proper_arcs n before bs ≡ true → n ≤ x → nexts_of bs x ≡ []
nexts_none n x before [] e h = refl
nexts_none n x before (a ∷ bs) e h =
    let p = arcs_parts n before a bs e in
    let q = (arc_parts n before a p.0).0 in
    let go = nexts_none n x (before ++ (a ∷ [])) bs p.1 h in
    cond_both (a.from == x) (a.to ∷ nexts_of bs x) (nexts_of bs x) (λ l. l ≡ []) (λ t. absurd (let s = eqb-true a.from x t in omega arith)) (λ _. go)

-- one more at the end, whatever stands at the front
pub swap : (p q : Bool) (y z : ℕ) (l : List ℕ) → cond p (y ∷ cond q (l ++ (z ∷ [])) l) (cond q (l ++ (z ∷ [])) l) ≡ cond q (cond p (y ∷ l) l ++ (z ∷ [])) (cond p (y ∷ l) l)
swap true true y z l = refl
swap true false y z l = refl
swap false true y z l = refl
swap false false y z l = refl

-- one more arc comes behind the others of its row
pub nexts_push : (bs : List Arc) (a : Arc) (x : ℕ) → nexts_of (bs ++ (a ∷ [])) x ≡ cond (a.from == x) (nexts_of bs x ++ (a.to ∷ [])) (nexts_of bs x)
nexts_push [] a x = refl
nexts_push (b ∷ bs) a x = ap (λ l. cond (b.from == x) (b.to ∷ l) l) (nexts_push bs a x) ∙ swap (b.from == x) (a.from == x) b.to a.to (nexts_of bs x)

-- at most 64 arcs leave a row
pub nexts_few : (n : ℕ) (before bs : List Arc) → proper_arcs n before bs ≡ true → ((x : ℕ) → length (nexts_of before x) ≤ 64) → (x : ℕ) → length (nexts_of (before ++ bs) x) ≤ 64
nexts_few n before [] e h x = subst (λ l. length (nexts_of l x) ≤ 64) (sym (append-nil before)) (h x)
nexts_few n before (a ∷ bs) e h x =
    let p = arcs_parts n before a bs e in
    let q = (arc_parts n before a p.0).2 in
    subst (λ l. length (nexts_of l x) ≤ 64) (append_assoc before (a ∷ []) bs)
    (nexts_few n (before ++ (a ∷ [])) bs p.1 (λ z.
    subst (λ l. length l ≤ 64) (sym (nexts_push before a z))
    (cond_both (a.from == z) (nexts_of before z ++ (a.to ∷ [])) (nexts_of before z) (λ l. length l ≤ 64)
    (λ t. let s = length_push (nexts_of before z) a.to in
    let u : length (nexts_of before z) < 64 = subst (λ w. length (nexts_of before w) < 64) (eqb-true a.from z t) q in
    omega arith)
    (λ _. h z))) x)
