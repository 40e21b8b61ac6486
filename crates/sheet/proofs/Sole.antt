-- The words of a sheet derive one expression. Assumes nothing.
use Rattle.std.proofs.Common.{◌≡◌, ℕ, false, eqb, List, ◌∷◌, sym, refl, ap, ◌∙◌, subst, arith}
use Rattle.text.specs.declared.word.Token.{Token}
use Rattle.text.specs.declared.word.Token.TheVariants.{Number, Empty, OpenParen, Plus, Question, Star}
use Rattle.text.specs.declared.word.Word.{Word}
use Rattle.text.specs.Words.{kind}
use Rattle.text.specs.Expressions.{Test}
use Rattle.text.specs.Derivations.{Condition}
use Rattle.text.specs.LabelSets.{LabelSet, these, MoreLabels, no_comma, comma, Labels, question, numbers}
use Rattle.text.proofs.Tests.{kinds_differ}
use Rattle.text.proofs.Unique.{condition_one}
use Rattle.regular.specs.Words.{Regex, one, sequence, alternative, with_rest}
use Rattle.sheet.specs.Texts.{marked, NoItem, Part, item, repeated, onto, or_else, Derives, is_empty, in_parens, asserted, not_repeated, starred, plussed, in_a_row, row_ends, next_in_row, chosen, no_bar, barred, SheetText, strict, rested}

-- a word of two kinds
clash : {X : Type 0} {t : Token} (u v : Token) → eqb (kind u) (kind v) ≡ false → t ≡ u → t ≡ v → X
clash u v h e f = absurd (kinds_differ u v h (sym e ∙ f))

tail_is : {c d : Word} {ws vs : List Word} → c ∷ ws ≡ d ∷ vs → ws ≡ vs
tail_is e = cc

more_labels_one : {ws : List Word} {ns ms : List ℕ} {r s : List Word} → MoreLabels ws ns r → MoreLabels ws ms s → (ns ≡ ms) × (r ≡ s)
more_labels_one (no_comma f) (no_comma g) = (refl, refl)
more_labels_one (no_comma f) (comma e h d) = absurd (f.0 e)
more_labels_one (comma e h d) (no_comma f) = absurd (f.0 e)
more_labels_one (comma {n = i} {ns = is} e h d) (comma {n = j} {ns = js} f k g) =
    let same = sym h ∙ k in
    let first : i ≡ j = cc in
    let p = more_labels_one d g in
    (ap (λ (x : ℕ). x ∷ is) first ∙ ap (λ (x : List ℕ). j ∷ x) p.0, p.1)

labels_one : {ws : List Word} {s t : LabelSet} {q r : List Word} → Labels ws s q → Labels ws t r → (s ≡ t) × (q ≡ r)
labels_one (question e) (question f) = (refl, refl)
labels_one (question e) (numbers {n = i} f d) = clash Question (Number i) refl e f
labels_one (numbers {n = i} e d) (question f) = clash (Number i) Question refl e f
labels_one (numbers {n = i} {ns = is} e d) (numbers {n = j} {ns = js} f g) =
    let same = sym e ∙ f in
    let first : i ≡ j = cc in
    let p = more_labels_one d g in
    (ap (λ (x : ℕ). these (x ∷ is)) first ∙ ap (λ (x : List ℕ). these (j ∷ x)) p.0, p.1)

-- labels begin with `?` or a number
labels_begin : {X : Type 0} {w : Word} {ws : List Word} {s : LabelSet} {r : List Word} (u : Token) → eqb (kind Question) (kind u) ≡ false → eqb 0 (kind u) ≡ false → Labels (w ∷ ws) s r → w.token ≡ u → X
labels_begin u a b (question e) f = clash Question u a e f
labels_begin u a b (numbers {n = i} e d) f = clash (Number i) u b e f

no_labels : {X : Type 0} {ws : List Word} {s : LabelSet} {r : List Word} → NoItem ws → Labels ws s r → X
no_labels h (question e) = absurd (h.0.1.1.0 e)
no_labels h (numbers {n = i} e d) = absurd (h.1 i e)

-- where no item begins there is none
no_item : {X : Type 0} {ws : List Word} {e : Regex} {r : List Word} → NoItem ws → Derives item ws e r → X
no_item h (is_empty e) = absurd (h.0.0 e)
no_item h (in_parens e d g) = absurd (h.0.1.0 e)
no_item h (asserted l e g b c) = no_labels h l

moved : (P : Regex → Part) {a b c : Regex} {ws vs rest : List Word} → a ≡ b → ws ≡ vs → Derives (P b) vs c rest → Derives (P a) ws c rest
moved P {a} {b} {c} {ws} {vs} {rest} e f d = subst (λ (x : Regex). Derives (P x) ws c rest) (sym e) (subst (λ (v : List Word). Derives (P b) v c rest) (sym f) d)

same_assertion : {s t : LabelSet} {a b : Test} → s ≡ t → a ≡ b → one (record { labels = marked s; test = a }) ≡ one (record { labels = marked t; test = b })
same_assertion p q = λ i. one (record { labels = marked (p i); test = q i })

pub derives_one : {p : Part} {ws : List Word} {e f : Regex} {r s : List Word} → Derives p ws e r → Derives p ws f s → (e ≡ f) × (r ≡ s)
derives_one (is_empty a) (is_empty b) = (refl, refl)
derives_one (is_empty a) (in_parens b d h) = clash Empty OpenParen refl a b
derives_one (is_empty a) (asserted l b h c g) = labels_begin Empty refl refl l a
derives_one (in_parens b d h) (is_empty a) = clash OpenParen Empty refl b a
derives_one (in_parens a d h) (in_parens b g k) = let p = derives_one d g in (p.0, tail_is p.1)
derives_one (in_parens b d h) (asserted l a k c g) = labels_begin OpenParen refl refl l b
derives_one (asserted l b h c g) (is_empty a) = labels_begin Empty refl refl l a
derives_one (asserted l a k c g) (in_parens b d h) = labels_begin OpenParen refl refl l b
derives_one (asserted l a h b g) (asserted {d = z} {rest = rest} {t = t} m c k d n) =
    let p = labels_one l m in
    let q = condition_one b (subst (λ (x : List Word). Condition x t (z ∷ rest)) (sym (tail_is (tail_is p.1))) d) in
    (same_assertion p.0 q.0, tail_is q.1)
derives_one (not_repeated f) (not_repeated g) = (refl, refl)
derives_one (not_repeated f) (starred e d) = absurd (f.0 e)
derives_one (not_repeated f) (plussed e d) = absurd (f.1.0 e)
derives_one (starred e d) (not_repeated f) = absurd (f.0 e)
derives_one (starred e d) (starred f g) = derives_one d g
derives_one (starred e d) (plussed f g) = clash Star Plus refl e f
derives_one (plussed e d) (not_repeated f) = absurd (f.1.0 e)
derives_one (plussed e d) (starred f g) = clash Plus Star refl e f
derives_one (plussed e d) (plussed f g) = derives_one d g
derives_one (in_a_row a b c) (in_a_row d e f) =
    let p = derives_one a d in
    let q = derives_one b (moved repeated p.0 p.1 e) in
    derives_one c (moved onto q.0 q.1 f)
derives_one (row_ends f) (row_ends g) = (refl, refl)
derives_one (row_ends f) (next_in_row a b c) = no_item f a
derives_one (next_in_row a b c) (row_ends f) = no_item f a
derives_one (next_in_row {e = x} a b c) (next_in_row d e f) =
    let p = derives_one a d in
    let q = derives_one b (moved repeated p.0 p.1 e) in
    derives_one c (moved onto (ap (sequence x) q.0) q.1 f)
derives_one (chosen a b) (chosen c d) = let p = derives_one a c in derives_one b (moved or_else p.0 p.1 d)
derives_one (no_bar f) (no_bar g) = (refl, refl)
derives_one (no_bar f) (barred e d g) = absurd (f.0 e)
derives_one (barred e d g) (no_bar f) = absurd (f.0 e)
derives_one (barred {e = x} a b c) (barred d e f) = let p = derives_one b e in derives_one c (moved or_else (ap (alternative x) p.0) p.1 f)

pub sheet_one : {ws : List Word} {e f : Regex} → SheetText ws e → SheetText ws f → e ≡ f
sheet_one (strict d) (strict g) = (derives_one d g).0
sheet_one (strict d) (rested g h) = let p = (derives_one d g).1 in let z : ◌≡◌ {A = ℕ} 0 1 = cc in absurd (omega arith)
sheet_one (rested d h) (strict g) = let p = (derives_one d g).1 in let z : ◌≡◌ {A = ℕ} 0 1 = cc in absurd (omega arith)
sheet_one (rested d h) (rested g k) = ap with_rest (derives_one d g).0
