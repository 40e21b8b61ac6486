-- Every item of the table can be closed. Assumes nothing.
use Rattle.std.proofs.Common.{◌≡◌, true, false, List, [], ◌∷◌, sym, refl, inl, inr}
use borrow.Author.Tests.{clash}
use Rattle.grammar.specs.Answers.{In, Drains, inner, lawful, all_owe, Shut, Closable}
use Rattle.text.specs.declared.word.Register.TheVariants.{A as ra, B as rb, C as rc, D as rd, E as re, F as rf}
use Rattle.text.specs.declared.word.Token.{Token}
use Rattle.text.specs.declared.word.Token.TheVariants.{Number, Current, True, Empty, Semicolon, OpenParen, CloseParen, CloseBrace, OpenBracket, CloseBracket, Less, Set, Colon, Question}
use Rattle.text.specs.declared.word.Word.{Word}
use Rattle.text.specs.Table.{plain, counted, operand_number, sensed_register, labelled, declares, bounds, ends_declaration, sheet_sign, labels, Item, operand, more, one_test, joined, comparison, close_paren, close_bracket, bracketed, semicolon, becomes, sensed, guard, statement, other, end_if, end_while, block, statements, declarations, declared_letter, bound, bare_bound, close_declaration, unit, repeats, more_labels, label, label_set, colon, group, expression, target, edges, rules_of, optional, to_the_end, table, program_start, sheet_start, monitor_start}

abbrev wd : Token → Word
wd t = record { token = t; place = 0 }

abbrev starters : List Word
starters = wd Question ∷ wd Semicolon ∷ wd CloseBrace ∷ wd CloseParen ∷ wd CloseBracket ∷ wd Set ∷ wd Colon ∷ wd OpenParen ∷ wd OpenBracket ∷ wd Less ∷ wd (Current rf) ∷ wd True ∷ wd (Number 0) ∷ wd Empty ∷ []

pub last_may : (i : Item) → to_the_end i ≡ true → optional i ≡ true
last_may operand e = absurd (clash e)
last_may more e = absurd (clash e)
last_may one_test e = absurd (clash e)
last_may joined e = absurd (clash e)
last_may comparison e = absurd (clash e)
last_may close_paren e = absurd (clash e)
last_may close_bracket e = absurd (clash e)
last_may bracketed e = absurd (clash e)
last_may semicolon e = absurd (clash e)
last_may becomes e = absurd (clash e)
last_may sensed e = absurd (clash e)
last_may guard e = absurd (clash e)
last_may statement e = absurd (clash e)
last_may other e = absurd (clash e)
last_may end_if e = absurd (clash e)
last_may end_while e = absurd (clash e)
last_may block e = absurd (clash e)
last_may statements e = refl
last_may (declarations r) e = absurd (clash e)
last_may (declared_letter r) e = absurd (clash e)
last_may bound e = absurd (clash e)
last_may bare_bound e = absurd (clash e)
last_may close_declaration e = absurd (clash e)
last_may unit e = absurd (clash e)
last_may repeats e = absurd (clash e)
last_may more_labels e = absurd (clash e)
last_may label e = absurd (clash e)
last_may label_set e = absurd (clash e)
last_may colon e = absurd (clash e)
last_may group e = absurd (clash e)
last_may expression e = refl
last_may target e = absurd (clash e)
last_may edges e = refl

pub owe_inner : (i : Item) → to_the_end i ≡ false → all_owe (inner to_the_end) (rules_of i) ≡ true
owe_inner operand e = refl
owe_inner more e = refl
owe_inner one_test e = refl
owe_inner joined e = refl
owe_inner comparison e = refl
owe_inner close_paren e = refl
owe_inner close_bracket e = refl
owe_inner bracketed e = refl
owe_inner semicolon e = refl
owe_inner becomes e = refl
owe_inner sensed e = refl
owe_inner guard e = refl
owe_inner statement e = refl
owe_inner other e = refl
owe_inner end_if e = refl
owe_inner end_while e = refl
owe_inner block e = refl
owe_inner statements e = absurd (clash (sym e))
owe_inner (declarations r) e = refl
owe_inner (declared_letter ra) e = refl
owe_inner (declared_letter rb) e = refl
owe_inner (declared_letter rc) e = refl
owe_inner (declared_letter rd) e = refl
owe_inner (declared_letter re) e = refl
owe_inner (declared_letter rf) e = refl
owe_inner bound e = refl
owe_inner bare_bound e = refl
owe_inner close_declaration e = refl
owe_inner unit e = refl
owe_inner repeats e = refl
owe_inner more_labels e = refl
owe_inner label e = refl
owe_inner label_set e = refl
owe_inner colon e = refl
owe_inner group e = refl
owe_inner expression e = absurd (clash (sym e))
owe_inner target e = refl
owe_inner edges e = absurd (clash (sym e))

pub owe_lawful : (i : Item) → to_the_end i ≡ true → all_owe (lawful to_the_end) (rules_of i) ≡ true
owe_lawful operand e = absurd (clash e)
owe_lawful more e = absurd (clash e)
owe_lawful one_test e = absurd (clash e)
owe_lawful joined e = absurd (clash e)
owe_lawful comparison e = absurd (clash e)
owe_lawful close_paren e = absurd (clash e)
owe_lawful close_bracket e = absurd (clash e)
owe_lawful bracketed e = absurd (clash e)
owe_lawful semicolon e = absurd (clash e)
owe_lawful becomes e = absurd (clash e)
owe_lawful sensed e = absurd (clash e)
owe_lawful guard e = absurd (clash e)
owe_lawful statement e = absurd (clash e)
owe_lawful other e = absurd (clash e)
owe_lawful end_if e = absurd (clash e)
owe_lawful end_while e = absurd (clash e)
owe_lawful block e = absurd (clash e)
owe_lawful statements e = refl
owe_lawful (declarations r) e = absurd (clash e)
owe_lawful (declared_letter r) e = absurd (clash e)
owe_lawful bound e = absurd (clash e)
owe_lawful bare_bound e = absurd (clash e)
owe_lawful close_declaration e = absurd (clash e)
owe_lawful unit e = absurd (clash e)
owe_lawful repeats e = absurd (clash e)
owe_lawful more_labels e = absurd (clash e)
owe_lawful label e = absurd (clash e)
owe_lawful label_set e = absurd (clash e)
owe_lawful colon e = absurd (clash e)
owe_lawful group e = absurd (clash e)
owe_lawful expression e = refl
owe_lawful target e = absurd (clash e)
owe_lawful edges e = refl

pub shut : (i : Item) → to_the_end i ≡ false → optional i ≡ true → Shut (rules_of i) starters
shut operand e h = absurd (clash h)
shut more e h = (refl, (refl, (refl, (refl, (refl, (refl, (refl, (refl, (refl, (refl, (refl, (refl, (refl, (refl, tt))))))))))))))
shut one_test e h = absurd (clash h)
shut joined e h = (refl, (refl, (refl, (refl, (refl, (refl, (refl, (refl, (refl, (refl, (refl, (refl, (refl, (refl, tt))))))))))))))
shut comparison e h = absurd (clash h)
shut close_paren e h = absurd (clash h)
shut close_bracket e h = absurd (clash h)
shut bracketed e h = absurd (clash h)
shut semicolon e h = absurd (clash h)
shut becomes e h = absurd (clash h)
shut sensed e h = absurd (clash h)
shut guard e h = absurd (clash h)
shut statement e h = absurd (clash h)
shut other e h = (refl, (refl, (refl, (refl, (refl, (refl, (refl, (refl, (refl, (refl, (refl, (refl, (refl, (refl, tt))))))))))))))
shut end_if e h = (refl, (refl, (refl, (refl, (refl, (refl, (refl, (refl, (refl, (refl, (refl, (refl, (refl, (refl, tt))))))))))))))
shut end_while e h = (refl, (refl, (refl, (refl, (refl, (refl, (refl, (refl, (refl, (refl, (refl, (refl, (refl, (refl, tt))))))))))))))
shut block e h = absurd (clash h)
shut statements e h = absurd (clash (sym e))
shut (declarations r) e h = (refl, (refl, (refl, (refl, (refl, (refl, (refl, (refl, (refl, (refl, (refl, (refl, (refl, (refl, tt))))))))))))))
shut (declared_letter r) e h = absurd (clash h)
shut bound e h = absurd (clash h)
shut bare_bound e h = absurd (clash h)
shut close_declaration e h = absurd (clash h)
shut unit e h = absurd (clash h)
shut repeats e h = (refl, (refl, (refl, (refl, (refl, (refl, (refl, (refl, (refl, (refl, (refl, (refl, (refl, (refl, tt))))))))))))))
shut more_labels e h = (refl, (refl, (refl, (refl, (refl, (refl, (refl, (refl, (refl, (refl, (refl, (refl, (refl, (refl, tt))))))))))))))
shut label e h = absurd (clash h)
shut label_set e h = absurd (clash h)
shut colon e h = absurd (clash h)
shut group e h = absurd (clash h)
shut expression e h = absurd (clash (sym e))
shut target e h = absurd (clash h)
shut edges e h = absurd (clash (sym e))

pub closes : (i : Item) → to_the_end i ≡ false → optional i ≡ false → (w : Word) × (ws : List Word) × In w starters × ((k : List Item) → Drains table (i ∷ k) (w ∷ ws) k)
closes operand e h = (wd (Number 0), [], (inr (inr (inr (inr (inr (inr (inr (inr (inr (inr (inr (inr (inl refl))))))))))))), λ k. (operand_number, _, refl, refl))
closes more e h = absurd (clash (sym h))
closes one_test e h = (wd True, [], (inr (inr (inr (inr (inr (inr (inr (inr (inr (inr (inr (inl refl)))))))))))), λ k. (counted, _, refl, refl))
closes joined e h = absurd (clash (sym h))
closes comparison e h = (wd Less, [], (inr (inr (inr (inr (inr (inr (inr (inr (inr (inl refl)))))))))), λ k. (counted, _, refl, refl))
closes close_paren e h = (wd CloseParen, [], (inr (inr (inr (inl refl)))), λ k. (plain, _, refl, refl))
closes close_bracket e h = (wd CloseBracket, [], (inr (inr (inr (inr (inl refl))))), λ k. (plain, _, refl, refl))
closes bracketed e h = (wd OpenBracket, wd True ∷ wd CloseBracket ∷ [], (inr (inr (inr (inr (inr (inr (inr (inr (inl refl))))))))), λ k. (plain, _, refl, (counted, _, refl, (plain, _, refl, refl))))
closes semicolon e h = (wd Semicolon, [], (inr (inl refl)), λ k. (plain, _, refl, refl))
closes becomes e h = (wd Set, [], (inr (inr (inr (inr (inr (inl refl)))))), λ k. (plain, _, refl, refl))
closes sensed e h = (wd (Current rf), [], (inr (inr (inr (inr (inr (inr (inr (inr (inr (inr (inl refl))))))))))), λ k. (sensed_register, _, refl, refl))
closes guard e h = (wd OpenParen, wd True ∷ wd CloseParen ∷ [], (inr (inr (inr (inr (inr (inr (inr (inl refl)))))))), λ k. (plain, _, refl, (counted, _, refl, (plain, _, refl, refl))))
closes statement e h = (wd Semicolon, [], (inr (inl refl)), λ k. (labelled, _, refl, refl))
closes other e h = absurd (clash (sym h))
closes end_if e h = absurd (clash (sym h))
closes end_while e h = absurd (clash (sym h))
closes block e h = (wd CloseBrace, [], (inr (inr (inl refl))), λ k. (plain, _, refl, refl))
closes statements e h = absurd (clash (sym e))
closes (declarations r) e h = absurd (clash (sym h))
closes (declared_letter ra) e h = (wd (Current rf), wd (Number 0) ∷ wd (Number 0) ∷ wd (Number 0) ∷ wd (Number 0) ∷ wd Semicolon ∷ [], (inr (inr (inr (inr (inr (inr (inr (inr (inr (inr (inl refl))))))))))), λ k. (declares, _, refl, (bounds, _, refl, (bounds, _, refl, (bounds, _, refl, (bounds, _, refl, (ends_declaration, _, refl, refl)))))))
closes (declared_letter rb) e h = (wd (Current rf), wd (Number 0) ∷ wd (Number 0) ∷ wd (Number 0) ∷ wd (Number 0) ∷ wd Semicolon ∷ [], (inr (inr (inr (inr (inr (inr (inr (inr (inr (inr (inl refl))))))))))), λ k. (declares, _, refl, (bounds, _, refl, (bounds, _, refl, (bounds, _, refl, (bounds, _, refl, (ends_declaration, _, refl, refl)))))))
closes (declared_letter rc) e h = (wd (Current rf), wd (Number 0) ∷ wd (Number 0) ∷ wd (Number 0) ∷ wd (Number 0) ∷ wd Semicolon ∷ [], (inr (inr (inr (inr (inr (inr (inr (inr (inr (inr (inl refl))))))))))), λ k. (declares, _, refl, (bounds, _, refl, (bounds, _, refl, (bounds, _, refl, (bounds, _, refl, (ends_declaration, _, refl, refl)))))))
closes (declared_letter rd) e h = (wd (Current rf), wd (Number 0) ∷ wd (Number 0) ∷ wd (Number 0) ∷ wd (Number 0) ∷ wd Semicolon ∷ [], (inr (inr (inr (inr (inr (inr (inr (inr (inr (inr (inl refl))))))))))), λ k. (declares, _, refl, (bounds, _, refl, (bounds, _, refl, (bounds, _, refl, (bounds, _, refl, (ends_declaration, _, refl, refl)))))))
closes (declared_letter re) e h = (wd (Current rf), wd (Number 0) ∷ wd (Number 0) ∷ wd (Number 0) ∷ wd (Number 0) ∷ wd Semicolon ∷ [], (inr (inr (inr (inr (inr (inr (inr (inr (inr (inr (inl refl))))))))))), λ k. (declares, _, refl, (bounds, _, refl, (bounds, _, refl, (bounds, _, refl, (bounds, _, refl, (ends_declaration, _, refl, refl)))))))
closes (declared_letter rf) e h = (wd (Current rf), wd (Number 0) ∷ wd (Number 0) ∷ wd (Number 0) ∷ wd (Number 0) ∷ wd Semicolon ∷ [], (inr (inr (inr (inr (inr (inr (inr (inr (inr (inr (inl refl))))))))))), λ k. (declares, _, refl, (bounds, _, refl, (bounds, _, refl, (bounds, _, refl, (bounds, _, refl, (ends_declaration, _, refl, refl)))))))
closes bound e h = (wd (Number 0), [], (inr (inr (inr (inr (inr (inr (inr (inr (inr (inr (inr (inr (inl refl))))))))))))), λ k. (bounds, _, refl, refl))
closes bare_bound e h = (wd (Number 0), [], (inr (inr (inr (inr (inr (inr (inr (inr (inr (inr (inr (inr (inl refl))))))))))))), λ k. (bounds, _, refl, refl))
closes close_declaration e h = (wd Semicolon, [], (inr (inl refl)), λ k. (ends_declaration, _, refl, refl))
closes unit e h = (wd Empty, [], (inr (inr (inr (inr (inr (inr (inr (inr (inr (inr (inr (inr (inr (inl refl)))))))))))))), λ k. (sheet_sign, _, refl, refl))
closes repeats e h = absurd (clash (sym h))
closes more_labels e h = absurd (clash (sym h))
closes label e h = (wd (Number 0), [], (inr (inr (inr (inr (inr (inr (inr (inr (inr (inr (inr (inr (inl refl))))))))))))), λ k. (labels, _, refl, refl))
closes label_set e h = (wd Question, [], (inl refl), λ k. (plain, _, refl, refl))
closes colon e h = (wd Colon, [], (inr (inr (inr (inr (inr (inr (inl refl))))))), λ k. (plain, _, refl, refl))
closes group e h = (wd CloseParen, [], (inr (inr (inr (inl refl)))), λ k. (plain, _, refl, refl))
closes expression e h = absurd (clash (sym e))
closes target e h = (wd (Number 0), [], (inr (inr (inr (inr (inr (inr (inr (inr (inr (inr (inr (inr (inl refl))))))))))))), λ k. (labels, _, refl, refl))
closes edges e h = absurd (clash (sym e))

abbrev pub closable : Closable table
closable = record { last = to_the_end; starters = starters; last_may = last_may; owe_inner = owe_inner; owe_lawful = owe_lawful; shut = shut; closes = closes }

pub program_lawful : lawful to_the_end program_start ≡ true
program_lawful = refl

pub sheet_lawful : lawful to_the_end sheet_start ≡ true
sheet_lawful = refl

pub monitor_lawful : lawful to_the_end monitor_start ≡ true
monitor_lawful = refl
