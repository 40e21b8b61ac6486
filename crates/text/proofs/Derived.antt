-- From derivations of expressions and labels to the table. Assumes nothing.
use Rattle.std.proofs.Common.{◌≡◌, List, [], ◌∷◌, refl, ap, ◌∙◌, lit≤}
use Rattle.grammar.specs.Grammars.{takes, find, Quiet, Reads, nothing, took, without}
use Rattle.grammar.proofs.Steps.{joins}
use Rattle.grammar.proofs.Trees.{find_later}
use Rattle.text.specs.declared.word.Token.{Token}
use Rattle.text.specs.declared.word.Token.TheVariants.{Number, Current, Initial, True, And, Or, Nand, OpenParen, CloseParen, OpenBracket, CloseBracket, Less, AtMost, Equal, Plus, Minus, Question, Comma}
use Rattle.text.specs.declared.word.Word.{Word}
use Rattle.text.specs.Words.{at}
use Rattle.text.specs.Table.{Role, plain, counted, Item, operand, more, one_test, joined, comparison, close_paren, close_bracket, more_labels, label, label_set, rules_of, table, line}
use Rattle.text.specs.Expressions.{Arith, Test}
use Rattle.text.specs.Derivations.{Free, SumPart, one, onto, Sums, a_number, a_current, an_initial, in_parens, no_more, adds, subtracts, Sum, sum, TestPart, one_of, onto_test, Tests, is_true, is_less, is_at_most, is_equal, in_brackets, no_more_tests, ands, ors, nands, Condition, condition}
use Rattle.text.specs.LabelSets.{LabelSet, MoreLabels, no_comma, comma, Labels, question, numbers}
use Rattle.text.proofs.Tests.{other_kind}

-- a word is found by its token, whatever its place
pub find_at : (i : Item) (w : Word) (t : Token) → w.token ≡ t → find (rules_of i) w ≡ find (rules_of i) (record { token = t; place = w.place })
find_at i w t e = ap (λ x. find (rules_of i) (record { token = x; place = w.place })) e

pub quiet_more : (ws : List Word) → Free (Plus ∷ Minus ∷ []) ws → Quiet (rules_of more) ws
quiet_more [] f = tt
quiet_more (w ∷ ws) f = find_later (line (at Plus) counted (operand ∷ more ∷ [])) (line (at Minus) counted (operand ∷ more ∷ []) ∷ []) w (other_kind w.token Plus (lit≤ tt) refl f.0) ∙ find_later (line (at Minus) counted (operand ∷ more ∷ [])) [] w (other_kind w.token Minus (lit≤ tt) refl f.1.0)

pub quiet_joined : (ws : List Word) → Free (And ∷ Or ∷ Nand ∷ []) ws → Quiet (rules_of joined) ws
quiet_joined [] f = tt
quiet_joined (w ∷ ws) f = find_later (line (at And) counted (one_test ∷ joined ∷ [])) (line (at Or) counted (one_test ∷ joined ∷ []) ∷ line (at Nand) counted (one_test ∷ joined ∷ []) ∷ []) w (other_kind w.token And (lit≤ tt) refl f.0) ∙ find_later (line (at Or) counted (one_test ∷ joined ∷ [])) (line (at Nand) counted (one_test ∷ joined ∷ []) ∷ []) w (other_kind w.token Or (lit≤ tt) refl f.1.0) ∙ find_later (line (at Nand) counted (one_test ∷ joined ∷ [])) [] w (other_kind w.token Nand (lit≤ tt) refl f.1.1.0)

pub quiet_labels : (ws : List Word) → Free (Comma ∷ []) ws → Quiet (rules_of more_labels) ws
quiet_labels [] f = tt
quiet_labels (w ∷ ws) f = find_later (line (at Comma) plain (label ∷ more_labels ∷ [])) [] w (other_kind w.token Comma (lit≤ tt) refl f.0)

-- a sign that pays off an item
pub sign_reads : (i : Item) (w : Word) (t : Token) {r : Role} {ws : List Word} → w.token ≡ t → find (rules_of i) (record { token = t; place = w.place }) ≡ takes r [] → Reads table (i ∷ []) (w ∷ ws) ws
sign_reads i w t e h = took (find_at i w t e ∙ h) nothing nothing

abbrev sum_item : SumPart → Item
sum_item one = operand
sum_item (onto a) = more

pub sums_read : {p : SumPart} {ws : List Word} {a : Arith} {rest : List Word} → Sums p ws a rest → Reads table (sum_item p ∷ []) ws rest
sums_read (a_number {w = w} {n = n} e) = sign_reads operand w (Number n) e refl
sums_read (a_current {w = w} {r = r} e) = sign_reads operand w (Current r) e refl
sums_read (an_initial {w = w} {r = r} e) = sign_reads operand w (Initial r) e refl
sums_read (in_parens {o = o} {c = c} e d f h) = took (find_at operand o OpenParen e) (joins table (sums_read d) (joins table (sums_read f) (sign_reads close_paren c CloseParen h refl))) nothing
sums_read (no_more {ws = ws} f) = without refl (quiet_more ws f) nothing
sums_read (adds {w = w} e d f) = took (find_at more w Plus e) (joins table (sums_read d) (sums_read f)) nothing
sums_read (subtracts {w = w} e d f) = took (find_at more w Minus e) (joins table (sums_read d) (sums_read f)) nothing

pub sum_reads : {ws : List Word} {a : Arith} {rest : List Word} → Sum ws a rest → Reads table (operand ∷ more ∷ []) ws rest
sum_reads (sum d f) = joins table (sums_read d) (sums_read f)

-- an operand begins a test as well: what was owed for it is owed, and then a comparison
opens_test : {ws mid rest : List Word} {a : Arith} → Sums one ws a mid → Reads table (more ∷ comparison ∷ operand ∷ more ∷ []) mid rest → Reads table (one_test ∷ []) ws rest
opens_test (a_number {w = w} {n = n} e) r = took (find_at one_test w (Number n) e) r nothing
opens_test (a_current {w = w} {r = q} e) r = took (find_at one_test w (Current q) e) r nothing
opens_test (an_initial {w = w} {r = q} e) r = took (find_at one_test w (Initial q) e) r nothing
opens_test (in_parens {o = o} {c = c} e d f h) r = took (find_at one_test o OpenParen e) (joins table (sums_read d) (joins table (sums_read f) (took (find_at close_paren c CloseParen h) nothing r))) nothing

compares : {ws mid rest : List Word} {a b : Arith} {w : Word} (t : Token) → Sum ws a (w ∷ mid) → w.token ≡ t → find (rules_of comparison) (record { token = t; place = w.place }) ≡ takes counted [] → Sum mid b rest → Reads table (one_test ∷ []) ws rest
compares {w = w} t (sum d f) e h s = opens_test d (joins table (sums_read f) (took (find_at comparison w t e ∙ h) nothing (sum_reads s)))

abbrev test_item : TestPart → Item
test_item one_of = one_test
test_item (onto_test t) = joined

pub tests_read : {p : TestPart} {ws : List Word} {t : Test} {rest : List Word} → Tests p ws t rest → Reads table (test_item p ∷ []) ws rest
tests_read (is_true {w = w} e) = sign_reads one_test w True e refl
tests_read (is_less a e b) = compares Less a e refl b
tests_read (is_at_most a e b) = compares AtMost a e refl b
tests_read (is_equal a e b) = compares Equal a e refl b
tests_read (in_brackets {o = o} {c = c} e d f h) = took (find_at one_test o OpenBracket e) (joins table (tests_read d) (joins table (tests_read f) (sign_reads close_bracket c CloseBracket h refl))) nothing
tests_read (no_more_tests {ws = ws} f) = without refl (quiet_joined ws f) nothing
tests_read (ands {w = w} e d f) = took (find_at joined w And e) (joins table (tests_read d) (tests_read f)) nothing
tests_read (ors {w = w} e d f) = took (find_at joined w Or e) (joins table (tests_read d) (tests_read f)) nothing
tests_read (nands {w = w} e d f) = took (find_at joined w Nand e) (joins table (tests_read d) (tests_read f)) nothing

pub condition_reads : {ws : List Word} {t : Test} {rest : List Word} → Condition ws t rest → Reads table (one_test ∷ joined ∷ []) ws rest
condition_reads (condition d f) = joins table (tests_read d) (tests_read f)

pub more_labels_read : {ws rest : List Word} {ns : List Prim.Native.Nat.ℕ} → MoreLabels ws ns rest → Reads table (more_labels ∷ []) ws rest
more_labels_read (no_comma {ws = ws} f) = without refl (quiet_labels ws f) nothing
more_labels_read (comma {c = c} {w = w} {n = n} e h d) = took (find_at more_labels c Comma e) (took (find_at label w (Number n) h) nothing (more_labels_read d)) nothing

pub labels_read : {ws rest : List Word} {s : LabelSet} → Labels ws s rest → Reads table (label_set ∷ []) ws rest
labels_read (question {w = w} e) = sign_reads label_set w Question e refl
labels_read (numbers {w = w} {n = n} e d) = took (find_at label_set w (Number n) e) (more_labels_read d) nothing
