-- What the words of a sheet derive is what the table reads, and nothing else. Assumes nothing.
use Rattle.std.proofs.Common.{◌≡◌, ℕ, List, [], ◌∷◌, refl, ◌∙◌, lit≤}
use Rattle.grammar.specs.Grammars.{takes, find, Quiet, Reads, nothing, took, without, Text}
use Rattle.grammar.proofs.Steps.{joins}
use Rattle.grammar.proofs.Trees.{find_later}
use Rattle.text.specs.declared.word.Token.TheVariants.{Number, Empty, Rest, OpenParen, CloseParen, OpenBracket, CloseBracket, Plus, Colon, Question, Bar, Star}
use Rattle.text.specs.declared.word.Word.{Word}
use Rattle.text.specs.Words.{at}
use Rattle.text.specs.Expressions.{Test}
use Rattle.text.specs.Table.{plain, sheet_sign, asserts, asserts_label, Item, close_bracket, bracketed, unit, repeats, more_labels, colon, group, expression, rules_of, table, line, sheet_start}
use Rattle.text.specs.Derivations.{Free, Condition}
use Rattle.text.specs.LabelSets.{LabelSet, Labels, question, numbers}
use Rattle.text.proofs.Tests.{other_kind}
use Rattle.text.proofs.Derived.{find_at, sign_reads, condition_reads, more_labels_read}
use Rattle.regular.specs.Words.{Regex}
use Rattle.sheet.specs.Texts.{Part, item, repeated, row, onto, choice, or_else, Derives, is_empty, in_parens, asserted, not_repeated, starred, plussed, in_a_row, row_ends, next_in_row, chosen, no_bar, barred, SheetText, strict, rested}

-- the item begins with an item of a sheet's expression, and then k is owed
pub record Opens (i : Item) (k : List Item) : Type 0 where
  pub at_empty : (p : ℕ) → find (rules_of i) (record { token = Empty; place = p }) ≡ takes sheet_sign k
  pub at_open : (p : ℕ) → find (rules_of i) (record { token = OpenParen; place = p }) ≡ takes plain (unit ∷ repeats ∷ group ∷ k)
  pub at_question : (p : ℕ) → find (rules_of i) (record { token = Question; place = p }) ≡ takes asserts (colon ∷ bracketed ∷ k)
  pub at_number : (n p : ℕ) → find (rules_of i) (record { token = Number n; place = p }) ≡ takes asserts_label (more_labels ∷ colon ∷ bracketed ∷ k)

-- what follows items in a row: the rest of a group, or of the whole expression
pub record Loop (z : Item) : Type 0 where
  pub opens : Opens z (repeats ∷ z ∷ [])
  pub at_bar : (p : ℕ) → find (rules_of z) (record { token = Bar; place = p }) ≡ takes sheet_sign (unit ∷ repeats ∷ z ∷ [])

pub unit_opens : Opens unit []
unit_opens = record { at_empty = λ p. refl; at_open = λ p. refl; at_question = λ p. refl; at_number = λ n p. refl }

pub group_loop : Loop group
group_loop = record { opens = record { at_empty = λ p. refl; at_open = λ p. refl; at_question = λ p. refl; at_number = λ n p. refl }; at_bar = λ p. refl }

pub expression_loop : Loop expression
expression_loop = record { opens = record { at_empty = λ p. refl; at_open = λ p. refl; at_question = λ p. refl; at_number = λ n p. refl }; at_bar = λ p. refl }

pub quiet_repeats : (ws : List Word) → Free (Star ∷ Plus ∷ []) ws → Quiet (rules_of repeats) ws
quiet_repeats [] f = tt
quiet_repeats (w ∷ ws) f = find_later (line (at Star) sheet_sign (repeats ∷ [])) (line (at Plus) sheet_sign (repeats ∷ []) ∷ []) w (other_kind w.token Star (lit≤ tt) refl f.0) ∙ find_later (line (at Plus) sheet_sign (repeats ∷ [])) [] w (other_kind w.token Plus (lit≤ tt) refl f.1.0)

-- what the table reads where a part stands
abbrev pub Tabled : Part → List Word → List Word → Type 0
Tabled item ws mid = (i : Item) (k : List Item) → Opens i k → (rest : List Word) → Reads table k mid rest → Reads table (i ∷ []) ws rest
Tabled (repeated e) ws mid = Reads table (repeats ∷ []) ws mid
Tabled row ws mid = (z : Item) → Loop z → (rest : List Word) → Reads table (z ∷ []) mid rest → Reads table (unit ∷ repeats ∷ z ∷ []) ws rest
Tabled (onto e) ws mid = (z : Item) → Loop z → (rest : List Word) → Reads table (z ∷ []) mid rest → Reads table (z ∷ []) ws rest
Tabled choice ws mid = (z : Item) → Loop z → (rest : List Word) → Reads table (z ∷ []) mid rest → Reads table (unit ∷ repeats ∷ z ∷ []) ws rest
Tabled (or_else e) ws mid = (z : Item) → Loop z → (rest : List Word) → Reads table (z ∷ []) mid rest → Reads table (z ∷ []) ws rest

-- `:` and `[ B ]`
test_reads : {c o d : Word} {inner mid rest : List Word} {t : Test} {k : List Item} → c.token ≡ Colon → o.token ≡ OpenBracket → Condition inner t (d ∷ mid) → d.token ≡ CloseBracket → Reads table k mid rest → Reads table (colon ∷ bracketed ∷ k) (c ∷ o ∷ inner) rest
test_reads {c} {o} {d} e h b g r = took (find_at colon c Colon e) nothing (took (find_at bracketed o OpenBracket h) (joins table (condition_reads b) (sign_reads close_bracket d CloseBracket g refl)) r)

labelled_reads : {c o d : Word} {ws inner mid rest : List Word} {s : LabelSet} {t : Test} (i : Item) (k : List Item) → Opens i k → Labels ws s (c ∷ o ∷ inner) → c.token ≡ Colon → o.token ≡ OpenBracket → Condition inner t (d ∷ mid) → d.token ≡ CloseBracket → Reads table k mid rest → Reads table (i ∷ []) ws rest
labelled_reads i k p (question {w = w} q) e h b g r = took (find_at i w Question q ∙ p.at_question w.place) (test_reads e h b g r) nothing
labelled_reads i k p (numbers {w = w} {n = n} q l) e h b g r = took (find_at i w (Number n) q ∙ p.at_number n w.place) (joins table (more_labels_read l) (test_reads e h b g r)) nothing

pub part_reads : {p : Part} {ws : List Word} {e : Regex} {mid : List Word} → Derives p ws e mid → Tabled p ws mid
part_reads (is_empty {w = w} e) = λ i k p rest r. took (find_at i w Empty e ∙ p.at_empty w.place) r nothing
part_reads (in_parens {o = o} {c = c} e d h) = λ i k p rest r. took (find_at i o OpenParen e ∙ p.at_open o.place) (joins table (part_reads d group group_loop _ (sign_reads group c CloseParen h refl)) r) nothing
part_reads (asserted l e h b g) = λ i k p rest r. labelled_reads i k p l e h b g r
part_reads (not_repeated {ws = ws} f) = without refl (quiet_repeats ws f) nothing
part_reads (starred {w = w} e d) = took (find_at repeats w Star e) (part_reads d) nothing
part_reads (plussed {w = w} e d) = took (find_at repeats w Plus e) (part_reads d) nothing
part_reads (in_a_row d f g) = λ z l rest r. joins table (part_reads d unit [] unit_opens _ nothing) (joins table (part_reads f) (part_reads g z l rest r))
part_reads (row_ends f) = λ z l rest r. r
part_reads (next_in_row d f g) = λ z l rest r. part_reads d z (repeats ∷ z ∷ []) l.opens rest (joins table (part_reads f) (part_reads g z l rest r))
part_reads (chosen d f) = λ z l rest r. part_reads d z l rest (part_reads f z l rest r)
part_reads (no_bar f) = λ z l rest r. r
part_reads (barred {w = w} e d f) = λ z l rest r. took (find_at z w Bar e ∙ l.at_bar w.place) (part_reads d z l rest (part_reads f z l rest r)) nothing

pub sheet_reads : {ws : List Word} {e : Regex} → SheetText ws e → Text table sheet_start ws
sheet_reads (strict d) = part_reads d expression expression_loop [] (without refl tt nothing)
sheet_reads (rested {w = w} d h) = part_reads d expression expression_loop [] (took (find_at expression w Rest h) nothing nothing)
