-- What the table reads of a sheet is what its words derive. Assumes nothing.
use Rattle.std.proofs.Common.{◌≡◌, ℕ, ◌≤◌, true, false, eqb, ◌⊎◌, List, [], ◌∷◌, Some, None, Option, sym, refl, ap, ◌∙◌, subst, inl, inr, lit≤}
use borrow.Author.Tests.{clash}
use Rattle.grammar.specs.Grammars.{takes, find, Quiet, Text}
use Rattle.grammar.specs.Answers.{SameTexts}
use Rattle.grammar.proofs.Steps.{clash_step}
use Rattle.grammar.proofs.Trees.{Means}
use Rattle.text.specs.declared.word.Token.{Token}
use Rattle.text.specs.declared.word.Token.TheVariants.{Number, Empty, Rest, OpenParen, CloseParen, OpenBracket, CloseBracket, Plus, Colon, Question, Bar, Star}
use Rattle.text.specs.declared.word.Word.{Word}
use Rattle.text.specs.Words.{kind, at, a_number}
use Rattle.text.specs.Expressions.{Test}
use Rattle.text.specs.Table.{Role, plain, sheet_sign, asserts, asserts_label, Item, operand, more, one_test, joined, comparison, close_paren, close_bracket, bracketed, semicolon, becomes, sensed, guard, statement, other, end_if, end_while, block, statements, declarations, declared_letter, bound, bare_bound, close_declaration, unit, repeats, more_labels, label, label_set, colon, group, expression, target, edges, rules_of, optional, table, Line, line, unit_lines, sheet_start}
use Rattle.text.specs.Derivations.{Free, Condition}
use Rattle.text.specs.LabelSets.{LabelSet, every, these, Labels, question, numbers}
use Rattle.text.proofs.Tests.{of_kind, is_token, is_number, kinds_differ}
use Rattle.text.proofs.Shared.{Sign, Within, Mean, shared, stands_for, split, Split, shut_out}
use Rattle.regular.specs.Words.{Regex, empty, one, sequence, alternative, star, plus, with_rest}
use Rattle.sheet.specs.Texts.{marked, NoItem, item, repeated, onto, choice, or_else, Derives, is_empty, in_parens, asserted, not_repeated, starred, plussed, in_a_row, row_ends, next_in_row, chosen, no_bar, barred, strict, rested}
use Rattle.sheet.specs.Answered.{IsSheet}
use Rattle.sheet.proofs.Tabled.{sheet_reads}

-- a row behind alternatives that have been read, if any
abbrev behind : Option Regex → Regex → Regex
behind None f = f
behind (Some a) f = alternative a f

-- how the rest of an expression ends: by `)` in a group, else by `rest` or by the end
abbrev EndsGroup : List Word → List Word → Type 0
EndsGroup ws rest = Sign CloseParen ws rest

abbrev EndsSheet : List Word → List Word → Type 0
EndsSheet ws rest = (ws ≡ rest) ⊎ Sign Rest ws rest

-- the rest of an expression, behind alternatives a and a row s: more of the row, more alternatives, and the end
pub record GoesOn (E : List Word → List Word → Type 0) (a : Option Regex) (s : Regex) (ws rest : List Word) : Type 0 where
  pub in_row : Regex
  pub mid : List Word
  pub whole : Regex
  pub last : List Word
  pub more_row : Derives (onto s) ws in_row mid
  pub more_rows : Derives (or_else (behind a in_row)) mid whole last
  pub end : E last rest

-- what the items of sheets stand for; the items of other texts stand for nothing here
abbrev M : Item → List Word → List Word → Type 0
M operand ws rest = Unit {0}
M more ws rest = Unit {0}
M one_test ws rest = Unit {0}
M joined ws rest = Unit {0}
M comparison ws rest = Unit {0}
M close_paren ws rest = Unit {0}
M close_bracket ws rest = Unit {0}
M bracketed ws rest = Unit {0}
M semicolon ws rest = Unit {0}
M becomes ws rest = Unit {0}
M sensed ws rest = Unit {0}
M guard ws rest = Unit {0}
M statement ws rest = Unit {0}
M other ws rest = Unit {0}
M end_if ws rest = Unit {0}
M end_while ws rest = Unit {0}
M block ws rest = Unit {0}
M statements ws rest = Unit {0}
M (declarations r) ws rest = Unit {0}
M (declared_letter r) ws rest = Unit {0}
M bound ws rest = Unit {0}
M bare_bound ws rest = Unit {0}
M close_declaration ws rest = Unit {0}
M unit ws rest = (e : Regex) × Derives item ws e rest
M repeats ws rest = (e : Regex) → (f : Regex) × Derives (repeated e) ws f rest
M more_labels ws rest = Unit {0}
M label ws rest = Unit {0}
M label_set ws rest = Unit {0}
M colon ws rest = Unit {0}
M group ws rest = (a : Option Regex) (s : Regex) → GoesOn EndsGroup a s ws rest
M expression ws rest = (a : Option Regex) (s : Regex) → GoesOn EndsSheet a s ws rest
M target ws rest = Unit {0}
M edges ws rest = Unit {0}

tok : (w : Word) (u : Token) → 2 ≤ kind u → of_kind (kind u) ≡ u → at u w ≡ true → w.token ≡ u
tok w u b o e = is_token w.token u b o e

cast : (js k : List Item) (ws mid : List Word) → js ≡ k → Means (Mean M) k ws mid → Means (Mean M) js ws mid
cast js k ws mid e d = subst (λ x. Means (Mean M) x ws mid) (sym e) d

-- `:` and `[ B ]` behind labels
tested : {ws behind x0 x1 : List Word} {s : LabelSet} {t : Test} → Labels ws s behind → Sign Colon behind x0 → Within OpenBracket CloseBracket x0 t x1 → Derives item ws (one (record { labels = marked s; test = t })) x1
tested {ws} {behind} {x0} {x1} {s} {t} l c w =
    let inner = w.0 in
    let o = w.2 in
    let d = w.4 in
    asserted (subst (λ y. Labels ws s y) (c.1 ∙ ap (λ y. c.0 ∷ y) o.1) l) c.2 o.2 (subst (λ y. Condition inner t y) d.1 w.3) d.2

-- an item that has been read, and what was owed behind it
abbrev ItemRead : List Item → List Word → List Word → Type 0
ItemRead k ws mid = (e : Regex) × (x : List Word) × Derives item ws e x × Means (Mean M) k x mid

abbrev third_lines : List Item → List Line
third_lines k = line (at Question) asserts (colon ∷ bracketed ∷ k) ∷ line a_number asserts_label (more_labels ∷ colon ∷ bracketed ∷ k) ∷ []

unit_line : (k : List Item) (w : Word) (r : Role) (js : List Item) → find (unit_lines k) w ≡ takes r js → (ws mid : List Word) → Means (Mean M) js ws mid → ItemRead k (w ∷ ws) mid
unit_line k w r js e ws mid d = first (split (unit_lines k) w r js e)
  where
    fourth : Split (line a_number asserts_label (more_labels ∷ colon ∷ bracketed ∷ k) ∷ []) w r js → ItemRead k (w ∷ ws) mid
    fourth (inl h) =
        let s = is_number w.token h.0 in
        let x = cast (more_labels ∷ colon ∷ bracketed ∷ k) js ws mid h.2 d in
        let b = x.2.2.1 in
        (one (record { labels = marked (these (s.0 ∷ x.1.0)); test = b.0 }), x.2.2.0, tested (numbers s.1 x.1.1) x.2.1 b.1, x.2.2.2)
    fourth (inr h) = absurd (clash_step h.1)

    third : Split (third_lines k) w r js → ItemRead k (w ∷ ws) mid
    third (inl h) =
        let x = cast (colon ∷ bracketed ∷ k) js ws mid h.2 d in
        let b = x.2.1 in
        (one (record { labels = marked every; test = b.0 }), x.2.0, tested (question (tok w Question (lit≤ tt) refl h.0)) x.1 b.1, x.2.2)
    third (inr h) = fourth (split (line a_number asserts_label (more_labels ∷ colon ∷ bracketed ∷ k) ∷ []) w r js h.1)

    second : Split (line (at OpenParen) plain (unit ∷ repeats ∷ group ∷ k) ∷ third_lines k) w r js → ItemRead k (w ∷ ws) mid
    second (inl h) =
        let x = cast (unit ∷ repeats ∷ group ∷ k) js ws mid h.2 d in
        let a = x.1 in
        let b = x.2.1 a.0 in
        let g = x.2.2.1 None b.0 in
        let c = g.end in
        let inside = chosen (in_a_row a.1 b.1 g.more_row) g.more_rows in
        (g.whole, x.2.2.0, in_parens (tok w OpenParen (lit≤ tt) refl h.0) (subst (λ y. Derives choice ws g.whole y) c.1 inside) c.2, x.2.2.2)
    second (inr h) = third (split (third_lines k) w r js h.1)

    first : Split (unit_lines k) w r js → ItemRead k (w ∷ ws) mid
    first (inl h) = (empty, ws, is_empty (tok w Empty (lit≤ tt) refl h.0), cast k js ws mid h.2 d)
    first (inr h) = second (split (line (at OpenParen) plain (unit ∷ repeats ∷ group ∷ k) ∷ third_lines k) w r js h.1)

-- one more item in a row, and what follows it
row_more : (E : List Word → List Word → Type 0) (z : Item) (ws mid : List Word) → ((x : List Word) → Mean M z x mid → (a : Option Regex) (s : Regex) → GoesOn E a s x mid) → ItemRead (repeats ∷ z ∷ []) ws mid → (a : Option Regex) (s : Regex) → GoesOn E a s ws mid
row_more E z ws mid goes x a s =
    let b = x.3.1 x.0 in
    let rest = x.3.2 in
    let g = goes x.3.0 (subst (λ y. Mean M z x.3.0 y) rest.2 rest.1) a (sequence s b.0) in
    record { in_row = g.in_row; mid = g.mid; whole = g.whole; last = g.last; more_row = next_in_row x.2 b.1 g.more_row; more_rows = g.more_rows; end = g.end }

is_none : (w : Word) (t : Token) → w.token ≡ t → (u : Token) → eqb (kind t) (kind u) ≡ false → w.token ≡ u → ⊥
is_none w t e u h k = kinds_differ t u h (sym e ∙ k)

-- a sign that begins no item
no_item : (w : Word) (ws : List Word) (t : Token) → w.token ≡ t → eqb (kind t) (kind Empty) ≡ false → eqb (kind t) (kind OpenParen) ≡ false → eqb (kind t) (kind Question) ≡ false → ((n : ℕ) → eqb (kind t) (kind (Number n)) ≡ false) → NoItem (w ∷ ws)
no_item w ws t e a b c n = ((is_none w t e Empty a, (is_none w t e OpenParen b, (is_none w t e Question c, tt))), λ i k. is_none w t e (Number i) (n i) k)

-- `|` and one more row, and what follows it
rows_more : (E : List Word → List Word → Type 0) (z : Item) (w : Word) (ws mid : List Word) → w.token ≡ Bar → ((x : List Word) → Mean M z x mid → (a : Option Regex) (s : Regex) → GoesOn E a s x mid) → Means (Mean M) (unit ∷ repeats ∷ z ∷ []) ws mid → (a : Option Regex) (s : Regex) → GoesOn E a s (w ∷ ws) mid
rows_more E z w ws mid e goes x a s =
    let u = x.1 in
    let b = x.2.1 u.0 in
    let rest = x.2.2 in
    let g = goes x.2.0 (subst (λ y. Mean M z x.2.0 y) rest.2 rest.1) (Some (behind a s)) b.0 in
    record { in_row = s; mid = w ∷ ws; whole = g.whole; last = g.last; more_row = row_ends (no_item w ws Bar e refl refl refl (λ n. refl)); more_rows = barred e (in_a_row u.1 b.1 g.more_row) g.more_rows; end = g.end }

-- a sign that ends the rest of an expression
ended : (E : List Word → List Word → Type 0) (w : Word) (ws mid : List Word) (t : Token) → w.token ≡ t → NoItem (w ∷ ws) → Free (Bar ∷ []) (w ∷ ws) → E (w ∷ ws) mid → (a : Option Regex) (s : Regex) → GoesOn E a s (w ∷ ws) mid
ended E w ws mid t e n b x a s = record { in_row = s; mid = w ∷ ws; whole = behind a s; last = w ∷ ws; more_row = row_ends n; more_rows = no_bar b; end = x }

group_line : (w : Word) (r : Role) (js : List Item) → find (rules_of group) w ≡ takes r js → (ws mid : List Word) → Means (Mean M) js ws mid → M group (w ∷ ws) mid
group_line w r js e ws mid d = first (split (rules_of group) w r js e)
  where
    second : Split (line (at Bar) sheet_sign (unit ∷ repeats ∷ group ∷ []) ∷ unit_lines (repeats ∷ group ∷ [])) w r js → M group (w ∷ ws) mid
    second (inl h) = rows_more EndsGroup group w ws mid (tok w Bar (lit≤ tt) refl h.0) (λ x g. g) (cast (unit ∷ repeats ∷ group ∷ []) js ws mid h.2 d)
    second (inr h) = row_more EndsGroup group (w ∷ ws) mid (λ x g. g) (unit_line (repeats ∷ group ∷ []) w r js h.1 ws mid d)

    first : Split (rules_of group) w r js → M group (w ∷ ws) mid
    first (inl h) =
        let t = tok w CloseParen (lit≤ tt) refl h.0 in
        ended EndsGroup w ws mid CloseParen t (no_item w ws CloseParen t refl refl refl (λ n. refl)) (is_none w CloseParen t Bar refl, tt) (w, ap (λ y. w ∷ y) (cast [] js ws mid h.2 d), t)
    first (inr h) = second (split (line (at Bar) sheet_sign (unit ∷ repeats ∷ group ∷ []) ∷ unit_lines (repeats ∷ group ∷ [])) w r js h.1)

expression_line : (w : Word) (r : Role) (js : List Item) → find (rules_of expression) w ≡ takes r js → (ws mid : List Word) → Means (Mean M) js ws mid → M expression (w ∷ ws) mid
expression_line w r js e ws mid d = first (split (rules_of expression) w r js e)
  where
    second : Split (line (at Rest) asserts [] ∷ unit_lines (repeats ∷ expression ∷ [])) w r js → M expression (w ∷ ws) mid
    second (inl h) =
        let t = tok w Rest (lit≤ tt) refl h.0 in
        ended EndsSheet w ws mid Rest t (no_item w ws Rest t refl refl refl (λ n. refl)) (is_none w Rest t Bar refl, tt) (inr (w, ap (λ y. w ∷ y) (cast [] js ws mid h.2 d), t))
    second (inr h) = row_more EndsSheet expression (w ∷ ws) mid (λ x g. g) (unit_line (repeats ∷ expression ∷ []) w r js h.1 ws mid d)

    first : Split (rules_of expression) w r js → M expression (w ∷ ws) mid
    first (inl h) = rows_more EndsSheet expression w ws mid (tok w Bar (lit≤ tt) refl h.0) (λ x g. g) (cast (unit ∷ repeats ∷ expression ∷ []) js ws mid h.2 d)
    first (inr h) = second (split (line (at Rest) asserts [] ∷ unit_lines (repeats ∷ expression ∷ [])) w r js h.1)

repeats_line : (w : Word) (r : Role) (js : List Item) → find (rules_of repeats) w ≡ takes r js → (ws mid : List Word) → Means (Mean M) js ws mid → M repeats (w ∷ ws) mid
repeats_line w r js e ws mid d a = first (split (rules_of repeats) w r js e)
  where
    again : (f : Regex) → repeats ∷ [] ≡ js → (g : Regex) × Derives (repeated f) ws g mid
    again f same = let x = cast (repeats ∷ []) js ws mid same d in let y = x.1 f in (y.0, subst (λ z. Derives (repeated f) ws y.0 z) x.2 y.1)

    second : Split (line (at Plus) sheet_sign (repeats ∷ []) ∷ []) w r js → (f : Regex) × Derives (repeated a) (w ∷ ws) f mid
    second (inl h) = let y = again (plus a) h.2 in (y.0, plussed (tok w Plus (lit≤ tt) refl h.0) y.1)
    second (inr h) = absurd (clash_step h.1)

    first : Split (rules_of repeats) w r js → (f : Regex) × Derives (repeated a) (w ∷ ws) f mid
    first (inl h) = let y = again (star a) h.2 in (y.0, starred (tok w Star (lit≤ tt) refl h.0) y.1)
    first (inr h) = second (split (line (at Plus) sheet_sign (repeats ∷ []) ∷ []) w r js h.1)

item_line : (w : Word) (r : Role) (js : List Item) → find (rules_of unit) w ≡ takes r js → (ws mid : List Word) → Means (Mean M) js ws mid → M unit (w ∷ ws) mid
item_line w r js e ws mid d = let x = unit_line [] w r js e ws mid d in (x.0, subst (λ y. Derives item (w ∷ ws) x.0 y) x.3 x.2)

lines : (i : Item) → shared i ≡ false → (w : Word) (r : Role) (js : List Item) → find (rules_of i) w ≡ takes r js → (ws mid : List Word) → Means (Mean M) js ws mid → Mean M i (w ∷ ws) mid
lines operand h = absurd (clash (sym h))
lines more h = absurd (clash (sym h))
lines one_test h = absurd (clash (sym h))
lines joined h = absurd (clash (sym h))
lines comparison h = absurd (clash (sym h))
lines close_paren h = absurd (clash (sym h))
lines close_bracket h = absurd (clash (sym h))
lines bracketed h = absurd (clash (sym h))
lines semicolon h = absurd (clash (sym h))
lines becomes h = absurd (clash (sym h))
lines sensed h = λ w r js e ws mid d. tt
lines guard h = absurd (clash (sym h))
lines statement h = λ w r js e ws mid d. tt
lines other h = λ w r js e ws mid d. tt
lines end_if h = λ w r js e ws mid d. tt
lines end_while h = λ w r js e ws mid d. tt
lines block h = λ w r js e ws mid d. tt
lines statements h = λ w r js e ws mid d. tt
lines (declarations q) h = λ w r js e ws mid d. tt
lines (declared_letter q) h = λ w r js e ws mid d. tt
lines bound h = λ w r js e ws mid d. tt
lines bare_bound h = λ w r js e ws mid d. tt
lines close_declaration h = λ w r js e ws mid d. tt
lines unit h = item_line
lines repeats h = repeats_line
lines more_labels h = absurd (clash (sym h))
lines label h = absurd (clash (sym h))
lines label_set h = absurd (clash (sym h))
lines colon h = absurd (clash (sym h))
lines group h = group_line
lines expression h = expression_line
lines target h = λ w r js e ws mid d. tt
lines edges h = λ w r js e ws mid d. tt

free_repeats : (ws : List Word) → Quiet (rules_of repeats) ws → Free (Star ∷ Plus ∷ []) ws
free_repeats [] q = tt
free_repeats (w ∷ ws) q = let a = shut_out (rules_of repeats) w q in (kinds_differ w.token Star a.0, (kinds_differ w.token Plus a.1.0, tt))

-- no word that goes on, and not `rest`
free_expression : (ws : List Word) → Quiet (rules_of expression) ws → NoItem ws × Free (Bar ∷ []) ws
free_expression [] q = (tt, tt)
free_expression (w ∷ ws) q =
    let a = shut_out (rules_of expression) w q in
    (((kinds_differ w.token Empty a.1.1.0, (kinds_differ w.token OpenParen a.1.1.1.0, (kinds_differ w.token Question a.1.1.1.1.0, tt))), λ n k. kinds_differ w.token (Number n) a.1.1.1.1.1.0 k), (kinds_differ w.token Bar a.0, tt))

left_out : (i : Item) → shared i ≡ false → optional i ≡ true → (ws : List Word) → Quiet (rules_of i) ws → Mean M i ws ws
left_out operand h o = absurd (clash (sym h))
left_out more h o = absurd (clash (sym h))
left_out one_test h o = absurd (clash (sym h))
left_out joined h o = absurd (clash (sym h))
left_out comparison h o = absurd (clash (sym h))
left_out close_paren h o = absurd (clash (sym h))
left_out close_bracket h o = absurd (clash (sym h))
left_out bracketed h o = absurd (clash (sym h))
left_out semicolon h o = absurd (clash (sym h))
left_out becomes h o = absurd (clash (sym h))
left_out sensed h o = λ ws q. tt
left_out guard h o = absurd (clash (sym h))
left_out statement h o = λ ws q. tt
left_out other h o = λ ws q. tt
left_out end_if h o = λ ws q. tt
left_out end_while h o = λ ws q. tt
left_out block h o = λ ws q. tt
left_out statements h o = λ ws q. tt
left_out (declarations r) h o = λ ws q. tt
left_out (declared_letter r) h o = λ ws q. tt
left_out bound h o = λ ws q. tt
left_out bare_bound h o = λ ws q. tt
left_out close_declaration h o = λ ws q. tt
left_out unit h o = absurd (clash o)
left_out repeats h o = λ ws q e. (e, not_repeated (free_repeats ws q))
left_out more_labels h o = absurd (clash (sym h))
left_out label h o = absurd (clash (sym h))
left_out label_set h o = absurd (clash (sym h))
left_out colon h o = absurd (clash (sym h))
left_out group h o = absurd (clash o)
left_out expression h o = λ ws q a s. let f = free_expression ws q in record { in_row = s; mid = ws; whole = behind a s; last = ws; more_row = row_ends f.0; more_rows = no_bar f.1; end = inl refl }
left_out target h o = λ ws q. tt
left_out edges h o = λ ws q. tt

pub sheet_meant : (ws : List Word) → Text table sheet_start ws → IsSheet ws
sheet_meant ws t =
    let x = stands_for M lines left_out t in
    let a = x.1 in
    let b = x.2.1 a.0 in
    let rest = x.2.2 in
    let g = rest.1 None b.0 in
    let whole = chosen (in_a_row a.1 b.1 g.more_row) g.more_rows in
    finish g.whole g.last rest.0 rest.2 whole g.end
  where
    finish : (e : Regex) (last end : List Word) → end ≡ [] → Derives choice ws e last → EndsSheet last end → IsSheet ws
    finish e last end z d (inl h) = (e, strict (subst (λ y. Derives choice ws e y) (h ∙ z) d))
    finish e last end z d (inr h) = (with_rest e, rested (subst (λ y. Derives choice ws e y) (h.1 ∙ ap (λ y. h.0 ∷ y) z) d) h.2)

-- the derivations and the table have the same texts
pub same_sheets : SameTexts table sheet_start IsSheet
same_sheets ws = (λ t. sheet_reads t.1, sheet_meant ws)
