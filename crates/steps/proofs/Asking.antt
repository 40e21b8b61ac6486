-- What the questions to a step table find in its rows and arcs. Assumes nothing.
use Rattle.std.proofs.Common.{◌≡◌, ℕ, zero, suc, ◌<◌, ◌≤◌, true, List, [], ◌∷◌, length, get_or, Option, Some, None, MatchOption, sym, refl, ap, ◌∙◌, arith}
use Rattle.std.specs.Borrow.{Bor}
use Rattle.std.specs.Slice.{IsItemAt}
use Rattle.std.proofs.lemmas.Bool.{ltb-true}
use Rattle.std.proofs.lemmas.List.{get_or_read}
use Rattle.model.specs.declared.moment.Reading.{Reading}
use Rattle.steps.specs.declared.row.Row.{Row}
use Rattle.steps.specs.declared.row.Arc.{Arc}
use Rattle.steps.specs.Index.{Filed}
use Rattle.steps.specs.Laws.{nexts_none}
use Rattle.steps.specs.Meaning.{proper_parts}
use Rattle.steps.specs.Tables.{nexts_of, reading_of, proper}

-- past the last place for a row no arc leaves
pub none_next : (rs : List Row) (bs : List Arc) (x : ℕ) → proper rs bs ≡ true → 256 ≤ x → nexts_of bs x ≡ []
none_next rs bs x fit h =
    let p = proper_parts rs bs fit in
    let few = p.0 in
    nexts_none (length rs) x [] bs p.3 (omega arith)

pub reading_is : (rs : List Row) (x : ℕ) (d : Row) → x < length rs → ◌≡◌ {A = Reading} (record { label = (get_or rs x d).label; values = (get_or rs x d).values }) (reading_of rs x)
reading_is [] x d h = absurd (omega arith)
reading_is (r ∷ rs) zero d h = refl
reading_is (r ∷ rs) (suc x) d h = reading_is rs x d (omega arith)

-- the list at a code's place is that of its next codes; there is none where no arc leaves
pub next_codes : (rs : List Row) (bs : List Arc) (nexts : List (List ℕ)) (x : ℕ) (ys none : Bor (List ℕ)) (o : Option (Bor (List ℕ))) (Q : Bor (List ℕ) → Type 0) → proper rs bs ≡ true → Filed bs nexts → length nexts ≡ 256
    → none.now ≡ [] → IsItemAt nexts x o → MatchOption o (ys ≡ none) Q → ((s : Bor (List ℕ)) → Q s → ys.now ≡ s.now) → ys.now ≡ nexts_of bs x
next_codes rs bs nexts x ys none None Q fit filed long empty found h k =
    let past = found.3 in
    ap (λ l. l.now) h ∙ empty ∙ sym (none_next rs bs x fit (omega arith))
next_codes rs bs nexts x ys none (Some s) Q fit filed long empty found h k =
    let here = ltb-true _ _ (sym found.0) in
    k s h ∙ get_or_read nexts x s.now here found.1 [] ∙ filed x (omega arith)
