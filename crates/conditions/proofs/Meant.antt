-- Conditions by the table and by their derivations are the same texts, and the answers on them mean what they say. Assumes nothing.
use Rattle.std.proofs.Common.{◌≡◌, ℕ, ◌≤◌, true, false, List, [], ◌∷◌, length, sym, refl, ap, ◌∙◌, subst, inr}
use borrow.Author.Tests.{clash}
use Rattle.grammar.specs.Grammars.{find, takes, Quiet}
use Rattle.grammar.specs.Answers.{fault, Deserved, SameTexts}
use Rattle.grammar.proofs.Trees.{Means}
use Rattle.grammar.proofs.Steps.{reading_good, reading_stuck}
use Rattle.grammar.proofs.Meaning.{reading_stands}
use Rattle.lexing.specs.Lexing.{words}
use Rattle.text.specs.declared.expressions.Expressions.{Expressions}
use Rattle.text.specs.declared.reading.Fault.{Fault}
use Rattle.text.specs.declared.word.Word.{Word}
use Rattle.text.specs.declared.word.Scope.TheVariants.{Every}
use Rattle.text.specs.Derivations.{Condition, condition, Tests, onto_test}
use Rattle.text.specs.Table.{Role, Item, operand, more, one_test, joined, comparison, close_paren, close_bracket, bracketed, semicolon, becomes, sensed, guard, statement, other, end_if, end_while, block, statements, declarations, declared_letter, bound, bare_bound, close_declaration, unit, repeats, more_labels, label, label_set, colon, group, expression, target, edges, rules_of, optional, table}
use Rattle.text.specs.Charges.{causes, counting, open_memo}
use Rattle.text.specs.Reading.{reads, Here, Goes, FaultAt}
use Rattle.text.specs.Outcomes.{TestRead, Stopped}
use Rattle.text.proofs.Closed.{closable}
use Rattle.text.proofs.Derived.{condition_reads}
use Rattle.text.proofs.Shared.{Mean, shared, stands_for}
use Rattle.text.proofs.Unique.{condition_one}
use Rattle.conditions.specs.Meaning.{IsCondition, condition_start, GoodCondition, BadCondition}

abbrev nothing_said : Item → List Word → List Word → Type 0
nothing_said i ws rest = Unit {0}

no_lines : (i : Item) → shared i ≡ false → (w : Word) (r : Role) (js : List Item) → find (rules_of i) w ≡ takes r js → (ws mid : List Word) → Means (Mean nothing_said) js ws mid → Mean nothing_said i (w ∷ ws) mid
no_lines operand e w q js f ws mid d = absurd (clash (sym e))
no_lines more e w q js f ws mid d = absurd (clash (sym e))
no_lines one_test e w q js f ws mid d = absurd (clash (sym e))
no_lines joined e w q js f ws mid d = absurd (clash (sym e))
no_lines comparison e w q js f ws mid d = absurd (clash (sym e))
no_lines close_paren e w q js f ws mid d = absurd (clash (sym e))
no_lines close_bracket e w q js f ws mid d = absurd (clash (sym e))
no_lines bracketed e w q js f ws mid d = absurd (clash (sym e))
no_lines semicolon e w q js f ws mid d = absurd (clash (sym e))
no_lines becomes e w q js f ws mid d = absurd (clash (sym e))
no_lines sensed e w q js f ws mid d = tt
no_lines guard e w q js f ws mid d = absurd (clash (sym e))
no_lines statement e w q js f ws mid d = tt
no_lines other e w q js f ws mid d = tt
no_lines end_if e w q js f ws mid d = tt
no_lines end_while e w q js f ws mid d = tt
no_lines block e w q js f ws mid d = tt
no_lines statements e w q js f ws mid d = tt
no_lines (declarations r) e w q js f ws mid d = tt
no_lines (declared_letter r) e w q js f ws mid d = tt
no_lines bound e w q js f ws mid d = tt
no_lines bare_bound e w q js f ws mid d = tt
no_lines close_declaration e w q js f ws mid d = tt
no_lines unit e w q js f ws mid d = tt
no_lines repeats e w q js f ws mid d = tt
no_lines more_labels e w q js f ws mid d = absurd (clash (sym e))
no_lines label e w q js f ws mid d = absurd (clash (sym e))
no_lines label_set e w q js f ws mid d = absurd (clash (sym e))
no_lines colon e w q js f ws mid d = absurd (clash (sym e))
no_lines group e w q js f ws mid d = tt
no_lines expression e w q js f ws mid d = tt
no_lines target e w q js f ws mid d = tt
no_lines edges e w q js f ws mid d = tt

no_left : (i : Item) → shared i ≡ false → optional i ≡ true → (ws : List Word) → Quiet (rules_of i) ws → Mean nothing_said i ws ws
no_left operand e o ws q = absurd (clash (sym e))
no_left more e o ws q = absurd (clash (sym e))
no_left one_test e o ws q = absurd (clash (sym e))
no_left joined e o ws q = absurd (clash (sym e))
no_left comparison e o ws q = absurd (clash (sym e))
no_left close_paren e o ws q = absurd (clash (sym e))
no_left close_bracket e o ws q = absurd (clash (sym e))
no_left bracketed e o ws q = absurd (clash (sym e))
no_left semicolon e o ws q = absurd (clash (sym e))
no_left becomes e o ws q = absurd (clash (sym e))
no_left sensed e o ws q = tt
no_left guard e o ws q = absurd (clash (sym e))
no_left statement e o ws q = tt
no_left other e o ws q = tt
no_left end_if e o ws q = tt
no_left end_while e o ws q = tt
no_left block e o ws q = tt
no_left statements e o ws q = tt
no_left (declarations r) e o ws q = tt
no_left (declared_letter r) e o ws q = tt
no_left bound e o ws q = tt
no_left bare_bound e o ws q = tt
no_left close_declaration e o ws q = tt
no_left unit e o ws q = tt
no_left repeats e o ws q = tt
no_left more_labels e o ws q = absurd (clash (sym e))
no_left label e o ws q = absurd (clash (sym e))
no_left label_set e o ws q = absurd (clash (sym e))
no_left colon e o ws q = absurd (clash (sym e))
no_left group e o ws q = tt
no_left expression e o ws q = tt
no_left target e o ws q = tt
no_left edges e o ws q = tt

-- the words that the table takes are the words that derive a tree
pub same_texts : SameTexts table condition_start IsCondition
same_texts ws = (
  λ d. condition_reads d.1,
  λ d.
      let x = stands_for nothing_said no_lines no_left d in
      let s = x.1 in
      let t = x.2.1 s.0 in
      (t.0, condition s.1 (subst (λ v. Tests (onto_test s.0) x.0 t.0 v) x.2.2 t.1)),
)

-- where the expression may begin
start : (n : ℕ) → Here n Every 16 (counting open_memo n) []
start n = record { counted = refl; scoped = refl; nested = refl }

meant : (ws : List Word) (n : ℕ) → Deserved table causes IsCondition (counting open_memo n) condition_start ws (reads ws (counting open_memo n) condition_start)
meant ws n = (reading_stands _ _ _ _ _ table causes closable condition_start refl IsCondition same_texts ws (counting open_memo n)).0

module _ (bs : List ℕ) (n : ℕ) (short : length bs ≤ 4096) where
  -- a fault in the expression
  pub faulty : (f : Fault) → Stopped (one_test ∷ joined ∷ []) Every 16 (length bs) n (words bs) f → BadCondition bs n f
  faulty f g = inr (record { short = short; rest = g.words; place_is = g.place_is; deserved = subst (Deserved table causes IsCondition (counting open_memo n) condition_start (words bs)) (g.stops (counting open_memo n) [] (start n)) (meant (words bs) n) })

  -- a word behind the expression
  pub too_much : (x y : Expressions) (i : ℕ) (rest : List Word) (f : Fault) → x.counted ≡ n → TestRead (one_test ∷ joined ∷ []) Condition Every 16 (words bs) x y i rest → (length rest ≡ 0 → ⊥) → FaultAt (length bs) rest f → BadCondition bs n f
  too_much x y i [] f c r e g = absurd (e refl)
  too_much x y i (w ∷ ws) f c r e g = inr (record { short = short; rest = w ∷ ws; place_is = g.place_is; deserved = subst (Deserved table causes IsCondition (counting open_memo n) condition_start (words bs)) (goes ∙ reading_stuck table causes w ws (counting open_memo y.counted) [] refl ∙ ap (λ v. fault v (w ∷ ws)) (sym g.cause_is)) (meant (words bs) n) })
    where
      goes : reads (words bs) (counting open_memo n) condition_start ≡ reads (w ∷ ws) (counting open_memo y.counted) []
      goes = subst (λ v. Goes v Every 16 (one_test ∷ joined ∷ []) (words bs) (w ∷ ws) y.counted) c r.goes (counting open_memo n) [] (start n)

  -- nothing behind it
  pub good_text : (x y : Expressions) (i : ℕ) (rest : List Word) → x.counted ≡ n → TestRead (one_test ∷ joined ∷ []) Condition Every 16 (words bs) x y i rest → rest ≡ [] → GoodCondition bs n y i
  good_text x y i rest c r e = record {
    short = short;
    tree = r.tree;
    derives = whole;
    only = λ t d. (condition_one d whole).0;
    stands = r.stands;
    memo = counting open_memo y.counted;
    deserved = subst (Deserved table causes IsCondition (counting open_memo n) condition_start (words bs)) (goes ∙ ap (λ v. reads v (counting open_memo y.counted) []) e ∙ reading_good table causes (counting open_memo y.counted) [] refl) (meant (words bs) n);
  }
    where
      whole : Condition (words bs) r.tree []
      whole = subst (λ v. Condition (words bs) r.tree v) e r.derives

      goes : reads (words bs) (counting open_memo n) condition_start ≡ reads rest (counting open_memo y.counted) []
      goes = subst (λ v. Goes v Every 16 (one_test ∷ joined ∷ []) (words bs) rest y.counted) c r.goes (counting open_memo n) [] (start n)
