-- One word of a sheet, as the table reads it, in the forms that the proofs of the readers use. Assumes nothing.
use Rattle.std.proofs.Common.{◌≡◌, ℕ, suc, ◌<◌, ◌≤◌, List, [], ◌∷◌, ◌++◌, vec_len, sym, refl, ap, ◌∙◌, subst, inl, inr, arith, lit≤, le-ltb, lt-ltb}
use Rattle.grammar.specs.Grammars.{stuck, takes, find, Quiet}
use Rattle.grammar.specs.Answers.{feed, fine, charged, good, fault, stepping, reading}
use Rattle.grammar.proofs.Steps.{feed_takes, reading_stuck, reading_good}
use Rattle.grammar.proofs.Trees.{find_later}
use Rattle.model.specs.declared.refusal.Cause.TheVariants.{Many, Deep, Number as Numbered}
use Rattle.text.specs.declared.word.Token.{Token}
use Rattle.text.specs.declared.word.Token.TheVariants.{Number, Empty, Rest, OpenParen, CloseParen, OpenBracket, Question, Bar}
use Rattle.text.specs.declared.word.Word.{Word}
use Rattle.text.specs.Words.{at, a_number, amount}
use Rattle.text.specs.Table.{Role, plain, sheet_sign, asserts, asserts_label, Item, one_test, joined, close_bracket, bracketed, unit, repeats, more_labels, colon, group, expression, rules_of, table, line, unit_lines}
use Rattle.text.specs.Charges.{Memo, causes, when, deep, one_part, one_sign, counting, with_parts, with_signs, open_in}
use Rattle.text.specs.Derivations.{Free}
use Rattle.text.specs.Reading.{reads, cause_of, Skipped, Unlike}
use Rattle.text.proofs.Tests.{is_token, other_kind, no_number}
use Rattle.text.proofs.Derived.{find_at}
use Rattle.text.proofs.Going.{takes_word, charges_word, refuses, leaves_out, not_deep, too_deep}
use Rattle.sheet.specs.declared.draft.Draft.{Draft}
use Rattle.sheet.specs.Texts.{NoItem}
use Rattle.sheet.specs.Owed.{Here, Now, noted, Tail, ItemWord, at_empty, at_open, at_question, at_number}
use Rattle.sheet.proofs.Tabled.{Loop, group_loop, expression_loop}

pub tail_loop : (z : Item) → Tail z → Loop z
tail_loop z (inl e) = subst Loop (sym e) group_loop
tail_loop z (inr e) = subst Loop (sym e) expression_loop

-- the counts of a memo, written down
abbrev counts : Memo → ℕ → ℕ → ℕ → Memo
counts m n p q = with_signs (with_parts (counting m n) p) q

pub as_counted : (m : Memo) (n p q : ℕ) → m.counter ≡ n → m.parts ≡ p → m.signs ≡ q → m ≡ counts m n p q
as_counted m n p q a b c = ap (λ x. counts m x m.parts m.signs) a ∙ ap (λ x. counts m n x m.signs) b ∙ ap (counts m n p) c

-- what has been noted holds there
pub noted_here : (y : Draft) (left : ℕ) (m : Memo) (k : List Item) {n p q : ℕ} → Here n p q left m k → Now y left (noted m y) k
noted_here y left m k h = record { counted = refl; parts = refl; signs = refl; scoped = h.scoped; nested = h.nested }

pub sign_fine : (k : List Item) (m : Memo) → m.signs < 256 → open_in k ≤ 16 → one_sign k m ≡ fine (with_signs m (suc m.signs))
sign_fine k m h d = ap (λ b. when b Many (deep k (with_signs m (suc m.signs)))) (le-ltb 256 (suc m.signs) (omega arith)) ∙ not_deep k (with_signs m (suc m.signs)) d

pub sign_many : (k : List Item) (m : Memo) → 256 ≤ m.signs → one_sign k m ≡ charged Many
sign_many k m h = ap (λ b. when b Many (deep k (with_signs m (suc m.signs)))) (lt-ltb 256 (suc m.signs) (omega arith))

pub part_fine : (k : List Item) (m : Memo) → m.parts < 60 → open_in k ≤ 16 → one_part k m ≡ fine (with_parts m (suc m.parts))
part_fine k m h d = ap (λ b. when b Many (deep k (with_parts m (suc m.parts)))) (le-ltb 60 (suc m.parts) (omega arith)) ∙ not_deep k (with_parts m (suc m.parts)) d

pub part_many : (k : List Item) (m : Memo) → 60 ≤ m.parts → one_part k m ≡ charged Many
part_many k m h = ap (λ b. when b Many (deep k (with_parts m (suc m.parts)))) (lt-ltb 60 (suc m.parts) (omega arith))

-- a sign of the sheet where the item i stands
module _ (i : Item) (t : Token) (js : List Item) (found : (p : ℕ) → find (rules_of i) (record { token = t; place = p }) ≡ takes sheet_sign js) (x : Draft) (left : ℕ) (w : Word) (e : w.token ≡ t) (ws : List Word) where
  pub sign_goes : (y : Draft) → x.signs < 256 → y.tests.counted ≡ x.tests.counted → vec_len y.leaves ≡ vec_len x.leaves → y.signs ≡ suc x.signs → (m : Memo) (k j : List Item) → Now x left m j → open_in (js ++ k) ≤ 16 → reads (w ∷ ws) m (i ∷ k) ≡ reads ws (noted m y) (js ++ k)
  sign_goes y l a b c m k j h d =
      takes_word i t sheet_sign js w e found ws m (with_signs m (suc m.signs)) k (sign_fine (js ++ k) m (let z = h.signs in omega arith) d)
      ∙ ap (λ n. reads ws n (js ++ k)) (as_counted (with_signs m (suc m.signs)) y.tests.counted (vec_len y.leaves) y.signs (h.counted ∙ sym a) (h.parts ∙ sym b) (ap suc h.signs ∙ sym c))

  pub sign_stops : 256 ≤ x.signs → (m : Memo) (k j : List Item) → Now x left m j → reads (w ∷ ws) m (i ∷ k) ≡ fault Many (w ∷ ws)
  sign_stops l m k j h = charges_word i t sheet_sign js w e found ws m k Many (sign_many (js ++ k) m (let z = h.signs in omega arith))

-- the first word of an assertion: `?`, or `rest` for the whole sheet
module _ (i : Item) (t : Token) (js : List Item) (found : (p : ℕ) → find (rules_of i) (record { token = t; place = p }) ≡ takes asserts js) (x : Draft) (left : ℕ) (w : Word) (e : w.token ≡ t) (ws : List Word) where
  pub part_goes : vec_len x.leaves < 60 → (m : Memo) (k j : List Item) → Now x left m j → open_in (js ++ k) ≤ 16 → reads (w ∷ ws) m (i ∷ k) ≡ reads ws (with_parts m (suc m.parts)) (js ++ k)
  part_goes l m k j h d = takes_word i t asserts js w e found ws m (with_parts m (suc m.parts)) k (part_fine (js ++ k) m (let z = h.parts in omega arith) d)

  pub part_stops : 60 ≤ vec_len x.leaves → (m : Memo) (k j : List Item) → Now x left m j → reads (w ∷ ws) m (i ∷ k) ≡ fault Many (w ∷ ws)
  part_stops l m k j h = charges_word i t asserts js w e found ws m k Many (part_many (js ++ k) m (let z = h.parts in omega arith))

-- a number as the first word of an assertion
module _ (v : ℕ) (x : Draft) (left : ℕ) (w : Word) (e : w.token ≡ Number v) (ws : List Word) where
  pub number_goes : v < 64 → vec_len x.leaves < 60 → (m : Memo) (k j : List Item) → Now x left m j → open_in k ≤ 16 → reads (w ∷ ws) m (unit ∷ k) ≡ reads ws (with_parts m (suc m.parts)) (more_labels ∷ colon ∷ bracketed ∷ k)
  number_goes s l m k j h d = takes_word unit (Number v) asserts_label (more_labels ∷ colon ∷ bracketed ∷ []) w e (λ p. refl) ws m (with_parts m (suc m.parts)) k (ap (λ b. when b Numbered (one_part (more_labels ∷ colon ∷ bracketed ∷ k) m)) (le-ltb 63 (amount w.token) (let y = ap amount e in omega arith)) ∙ part_fine (more_labels ∷ colon ∷ bracketed ∷ k) m (let z = h.parts in omega arith) (omega arith))

  pub number_large : 63 < v → (m : Memo) (k : List Item) → reads (w ∷ ws) m (unit ∷ k) ≡ fault Numbered (w ∷ ws)
  number_large s m k = charges_word unit (Number v) asserts_label (more_labels ∷ colon ∷ bracketed ∷ []) w e (λ p. refl) ws m k Numbered (ap (λ b. when b Numbered (one_part (more_labels ∷ colon ∷ bracketed ∷ k) m)) (lt-ltb 63 (amount w.token) (let y = ap amount e in omega arith)))

  pub number_many : v < 64 → 60 ≤ vec_len x.leaves → (m : Memo) (k j : List Item) → Now x left m j → reads (w ∷ ws) m (unit ∷ k) ≡ fault Many (w ∷ ws)
  number_many s l m k j h = charges_word unit (Number v) asserts_label (more_labels ∷ colon ∷ bracketed ∷ []) w e (λ p. refl) ws m k Many (ap (λ b. when b Numbered (one_part (more_labels ∷ colon ∷ bracketed ∷ k) m)) (le-ltb 63 (amount w.token) (let y = ap amount e in omega arith)) ∙ part_many (more_labels ∷ colon ∷ bracketed ∷ k) m (let z = h.parts in omega arith))

-- nothing is owed any more, and a word comes
pub nothing_owed : (w : Word) (ws : List Word) (m : Memo) → reads (w ∷ ws) m [] ≡ fault (cause_of (w ∷ ws)) (w ∷ ws)
nothing_owed w ws m = reading_stuck table causes w ws m [] refl

-- two stacks that take a word alike are read alike
same_feed : (w : Word) (ws : List Word) (m : Memo) (k j : List Item) {r : Role} {i : List Item} → feed table k w ≡ takes r i → feed table j w ≡ takes r i → reads (w ∷ ws) m k ≡ reads (w ∷ ws) m j
unfolding reading
same_feed w ws m k j a b = ap (stepping causes w ws (reading table causes ws) m) (a ∙ sym b)

quiet_lines : (k : List Item) (w : Word) (ws : List Word) → NoItem (w ∷ ws) → find (unit_lines k) w ≡ stuck
quiet_lines k w ws h =
    find_later (line (at Empty) sheet_sign k) (line (at OpenParen) plain (unit ∷ repeats ∷ group ∷ k) ∷ line (at Question) asserts (colon ∷ bracketed ∷ k) ∷ line a_number asserts_label (more_labels ∷ colon ∷ bracketed ∷ k) ∷ []) w (other_kind w.token Empty (lit≤ tt) refl h.0.0)
    ∙ find_later (line (at OpenParen) plain (unit ∷ repeats ∷ group ∷ k)) (line (at Question) asserts (colon ∷ bracketed ∷ k) ∷ line a_number asserts_label (more_labels ∷ colon ∷ bracketed ∷ k) ∷ []) w (other_kind w.token OpenParen (lit≤ tt) refl h.0.1.0)
    ∙ find_later (line (at Question) asserts (colon ∷ bracketed ∷ k)) (line a_number asserts_label (more_labels ∷ colon ∷ bracketed ∷ k) ∷ []) w (other_kind w.token Question (lit≤ tt) refl h.0.1.1.0)
    ∙ find_later (line a_number asserts_label (more_labels ∷ colon ∷ bracketed ∷ k)) [] w (no_number w.token h.1)

-- no item begins here
pub quiet_unit : (ws : List Word) → NoItem ws → Quiet (rules_of unit) ws
quiet_unit [] h = tt
quiet_unit (w ∷ ws) h = quiet_lines [] w ws h

-- `(`
module _ (w : Word) (e : w.token ≡ OpenParen) (ws : List Word) where
  pub open_goes : (m : Memo) (k : List Item) → suc (open_in k) ≤ 16 → reads (w ∷ ws) m (unit ∷ k) ≡ reads ws m (unit ∷ repeats ∷ group ∷ k)
  open_goes m k d = takes_word unit OpenParen plain (unit ∷ repeats ∷ group ∷ []) w e (λ p. refl) ws m m k (not_deep (unit ∷ repeats ∷ group ∷ k) m (omega arith))

  pub open_deep : (m : Memo) (k : List Item) → 16 ≤ open_in k → reads (w ∷ ws) m (unit ∷ k) ≡ fault Deep (w ∷ ws)
  open_deep m k d = charges_word unit OpenParen plain (unit ∷ repeats ∷ group ∷ []) w e (λ p. refl) ws m k Deep (too_deep (unit ∷ repeats ∷ group ∷ k) m (omega arith))

-- `)`
pub close_goes : (ws rest : List Word) → Skipped CloseParen ws rest → (m : Memo) (k : List Item) → open_in k ≤ 16 → reads ws m (group ∷ k) ≡ reads rest m k
close_goes ws rest s m k d = ap (λ x. reads x m (group ∷ k)) s.1 ∙ takes_word group CloseParen plain [] s.0 (is_token s.0.token CloseParen (lit≤ tt) refl s.2) (λ p. refl) rest m m k (not_deep k m d)

quiet_group : (ws : List Word) → Unlike CloseParen ws → NoItem ws → Free (Bar ∷ []) ws → Quiet (rules_of group) ws
quiet_group [] u h b = tt
quiet_group (w ∷ ws) u h b =
    find_later (line (at CloseParen) plain []) (line (at Bar) sheet_sign (unit ∷ repeats ∷ group ∷ []) ∷ unit_lines (repeats ∷ group ∷ [])) w u
    ∙ find_later (line (at Bar) sheet_sign (unit ∷ repeats ∷ group ∷ [])) (unit_lines (repeats ∷ group ∷ [])) w (other_kind w.token Bar (lit≤ tt) refl b.0)
    ∙ quiet_lines (repeats ∷ group ∷ []) w ws h

pub close_stops : (ws : List Word) → Unlike CloseParen ws → NoItem ws → Free (Bar ∷ []) ws → (m : Memo) (k : List Item) → reads ws m (group ∷ k) ≡ fault (cause_of ws) ws
close_stops ws u h b m k = refuses group refl ws (quiet_group ws u h b) m k

-- the end of a sheet
pub end_good : (m : Memo) → reads [] m (expression ∷ []) ≡ good m
end_good m = reading_good table causes m (expression ∷ []) refl

quiet_expression : (w : Word) (ws : List Word) → (w.token ≡ Rest → ⊥) → NoItem (w ∷ ws) → Free (Bar ∷ []) (w ∷ ws) → Quiet (rules_of expression) (w ∷ ws)
quiet_expression w ws r h b =
    find_later (line (at Bar) sheet_sign (unit ∷ repeats ∷ expression ∷ [])) (line (at Rest) asserts [] ∷ unit_lines (repeats ∷ expression ∷ [])) w (other_kind w.token Bar (lit≤ tt) refl b.0)
    ∙ find_later (line (at Rest) asserts []) (unit_lines (repeats ∷ expression ∷ [])) w (other_kind w.token Rest (lit≤ tt) refl r)
    ∙ quiet_lines (repeats ∷ expression ∷ []) w ws h

pub end_stops : (w : Word) (ws : List Word) → (w.token ≡ Rest → ⊥) → NoItem (w ∷ ws) → Free (Bar ∷ []) (w ∷ ws) → (m : Memo) → reads (w ∷ ws) m (expression ∷ []) ≡ fault (cause_of (w ∷ ws)) (w ∷ ws)
end_stops w ws r h b m = leaves_out expression refl (w ∷ ws) (quiet_expression w ws r h b) m [] ∙ nothing_owed w ws m

-- an item in a row is read like any item
pub loop_item : (z : Item) → Loop z → (w : Word) (ws : List Word) → ItemWord w → (m : Memo) (k : List Item) → reads (w ∷ ws) m (z ∷ k) ≡ reads (w ∷ ws) m (unit ∷ repeats ∷ z ∷ k)
loop_item z l w ws (at_empty e) m k = same_feed w ws m (z ∷ k) (unit ∷ repeats ∷ z ∷ k) (feed_takes table z k w sheet_sign (repeats ∷ z ∷ []) (find_at z w Empty e ∙ l.opens.at_empty w.place)) (feed_takes table unit (repeats ∷ z ∷ k) w sheet_sign [] (find_at unit w Empty e))
loop_item z l w ws (at_open e) m k = same_feed w ws m (z ∷ k) (unit ∷ repeats ∷ z ∷ k) (feed_takes table z k w plain (unit ∷ repeats ∷ group ∷ repeats ∷ z ∷ []) (find_at z w OpenParen e ∙ l.opens.at_open w.place)) (feed_takes table unit (repeats ∷ z ∷ k) w plain (unit ∷ repeats ∷ group ∷ []) (find_at unit w OpenParen e))
loop_item z l w ws (at_question e) m k = same_feed w ws m (z ∷ k) (unit ∷ repeats ∷ z ∷ k) (feed_takes table z k w asserts (colon ∷ bracketed ∷ repeats ∷ z ∷ []) (find_at z w Question e ∙ l.opens.at_question w.place)) (feed_takes table unit (repeats ∷ z ∷ k) w asserts (colon ∷ bracketed ∷ []) (find_at unit w Question e))
loop_item z l w ws (at_number n e) m k = same_feed w ws m (z ∷ k) (unit ∷ repeats ∷ z ∷ k) (feed_takes table z k w asserts_label (more_labels ∷ colon ∷ bracketed ∷ repeats ∷ z ∷ []) (find_at z w (Number n) e ∙ l.opens.at_number n w.place)) (feed_takes table unit (repeats ∷ z ∷ k) w asserts_label (more_labels ∷ colon ∷ bracketed ∷ []) (find_at unit w (Number n) e))

pub quiet_bracketed : (ws : List Word) → Unlike OpenBracket ws → Quiet (rules_of bracketed) ws
quiet_bracketed [] u = tt
quiet_bracketed (w ∷ ws) u = find_later (line (at OpenBracket) plain (one_test ∷ joined ∷ close_bracket ∷ [])) [] w u
