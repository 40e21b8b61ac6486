-- What the items that all texts share stand for: from the table to derivations. Assumes nothing.
use Rattle.std.proofs.Common.{◌≡◌, ℕ, Bool, true, false, ◌⊎◌, List, [], ◌∷◌, sym, refl, ap, ◌∙◌, subst, inl, inr, lit≤}
use borrow.Author.Tests.{clash}
use Rattle.grammar.specs.Grammars.{stuck, takes, find, Quiet, Reads}
use Rattle.grammar.proofs.Steps.{clash_step}
use Rattle.grammar.proofs.Trees.{Means, means, by_lines, stuck_here}
use Rattle.text.specs.declared.word.Register.{Register}
use Rattle.text.specs.declared.word.Token.{Token}
use Rattle.text.specs.declared.word.Token.TheVariants.{Number, Current, Initial, True, And, Or, Nand, Semicolon, OpenParen, CloseParen, OpenBracket, CloseBracket, Less, AtMost, Equal, Set, Plus, Minus, Colon, Question, Comma}
use Rattle.text.specs.declared.word.Word.{Word}
use Rattle.text.specs.Words.{kind, at, register_index}
use Rattle.text.specs.Table.{Role, plain, Item, operand, more, one_test, joined, comparison, close_paren, close_bracket, bracketed, semicolon, becomes, sensed, guard, statement, other, end_if, end_while, block, statements, declarations, declared_letter, bound, bare_bound, close_declaration, unit, repeats, more_labels, label, label_set, colon, group, expression, target, edges, rules_of, optional, table, Line, line}
use Rattle.text.specs.Expressions.{Arith, number, current, initial, plus, minus, Test, always, less, at_most, equal, both, either, not_both}
use Rattle.text.specs.Derivations.{Free, one, onto, Sums, a_number as num, a_current, an_initial, in_parens, no_more, adds, subtracts, Sum, sum, one_of, onto_test, Tests, is_true, is_less, is_at_most, is_equal, in_brackets, no_more_tests, ands, ors, nands, Condition, condition}
use Rattle.text.specs.LabelSets.{LabelSet, every, these, MoreLabels, no_comma, comma, Labels, question, numbers}
use Rattle.text.proofs.Tests.{of_kind, is_token, is_number, is_register, kinds_differ}

-- the words are a given sign and rest
abbrev pub Sign : Token → List Word → List Word → Type 0
Sign t ws rest = (w : Word) × (ws ≡ w ∷ rest) × (w.token ≡ t)

-- the words begin with a condition between two signs
abbrev pub Within : Token → Token → List Word → Test → List Word → Type 0
Within o c ws t rest = (inner : List Word) × (behind : List Word) × Sign o ws inner × Condition inner t behind × Sign c behind rest

-- what an item stands for: those that all texts share, and the others by M
abbrev pub Mean : (Item → List Word → List Word → Type 0) → Item → List Word → List Word → Type 0
Mean M operand ws rest = (a : Arith) × Sums one ws a rest
Mean M more ws rest = (b : Arith) → (a : Arith) × Sums (onto b) ws a rest
Mean M one_test ws rest = (t : Test) × Tests one_of ws t rest
Mean M joined ws rest = (s : Test) → (t : Test) × Tests (onto_test s) ws t rest
Mean M comparison ws rest = (w : Word) × (ws ≡ w ∷ rest) × ((w.token ≡ Less) ⊎ ((w.token ≡ AtMost) ⊎ (w.token ≡ Equal)))
Mean M close_paren ws rest = Sign CloseParen ws rest
Mean M close_bracket ws rest = Sign CloseBracket ws rest
Mean M bracketed ws rest = (t : Test) × Within OpenBracket CloseBracket ws t rest
Mean M semicolon ws rest = Sign Semicolon ws rest
Mean M becomes ws rest = Sign Set ws rest
Mean M sensed ws rest = M sensed ws rest
Mean M guard ws rest = (t : Test) × Within OpenParen CloseParen ws t rest
Mean M statement ws rest = M statement ws rest
Mean M other ws rest = M other ws rest
Mean M end_if ws rest = M end_if ws rest
Mean M end_while ws rest = M end_while ws rest
Mean M block ws rest = M block ws rest
Mean M statements ws rest = M statements ws rest
Mean M (declarations r) ws rest = M (declarations r) ws rest
Mean M (declared_letter r) ws rest = M (declared_letter r) ws rest
Mean M bound ws rest = M bound ws rest
Mean M bare_bound ws rest = M bare_bound ws rest
Mean M close_declaration ws rest = M close_declaration ws rest
Mean M unit ws rest = M unit ws rest
Mean M repeats ws rest = M repeats ws rest
Mean M more_labels ws rest = (ns : List ℕ) × MoreLabels ws ns rest
Mean M label ws rest = (n : ℕ) × Sign (Number n) ws rest
Mean M label_set ws rest = (s : LabelSet) × Labels ws s rest
Mean M colon ws rest = Sign Colon ws rest
Mean M group ws rest = M group ws rest
Mean M expression ws rest = M expression ws rest
Mean M target ws rest = M target ws rest
Mean M edges ws rest = M edges ws rest

-- the items that all texts share
abbrev pub shared : Item → Bool
shared operand = true
shared more = true
shared one_test = true
shared joined = true
shared comparison = true
shared close_paren = true
shared close_bracket = true
shared bracketed = true
shared semicolon = true
shared becomes = true
shared sensed = false
shared guard = true
shared statement = false
shared other = false
shared end_if = false
shared end_while = false
shared block = false
shared statements = false
shared (declarations r) = false
shared (declared_letter r) = false
shared bound = false
shared bare_bound = false
shared close_declaration = false
shared unit = false
shared repeats = false
shared more_labels = true
shared label = true
shared label_set = true
shared colon = true
shared group = false
shared expression = false
shared target = false
shared edges = false

tok : (w : Word) (u : Token) → Prim.Native.Nat.◌≤◌ 2 (kind u) → of_kind (kind u) ≡ u → at u w ≡ true → w.token ≡ u
tok w u b o e = is_token w.token u b o e

-- the lines behind the first
abbrev tl : List Line → List Line
tl [] = []
tl (l ∷ ls) = ls

-- the first line fits and owes this, or one behind it does
abbrev pub Split : List Line → Word → Role → List Item → Type 0
Split [] w r js = ⊥
Split (l ∷ ls) w r js = ((l.fits w ≡ true) × (l.role ≡ r) × (l.owes ≡ js)) ⊎ ((l.fits w ≡ false) × (find ls w ≡ takes r js))

pub split : (ls : List Line) (w : Word) (r : Role) (js : List Item) → find ls w ≡ takes r js → Split ls w r js
split [] w r js e = absurd (clash_step e)
split (l ∷ ls) w r js e = by_lines l ls w r js e

module _ (M : Item → List Word → List Word → Type 0) where
  abbrev ByLine : Item → Type 0
  ByLine i = (w : Word) (r : Role) (js : List Item) → find (rules_of i) w ≡ takes r js → (ws mid : List Word) → Means (Mean M) js ws mid → Mean M i (w ∷ ws) mid

  -- one line that owes nothing
  sign_line : (u : Token) → Prim.Native.Nat.◌≤◌ 2 (kind u) → of_kind (kind u) ≡ u → (q : Role) (w : Word) (r : Role) (js : List Item) → find (line (at u) q [] ∷ []) w ≡ takes r js → (ws mid : List Word) → Means (Mean M) js ws mid → Sign u (w ∷ ws) mid
  sign_line u b o q w r js e ws mid d = go (by_lines (line (at u) q []) [] w r js e)
    where
      go : ((at u w ≡ true) × (q ≡ r) × ([] ≡ js)) ⊎ ((at u w ≡ false) × (stuck ≡ takes r js)) → Sign u (w ∷ ws) mid
      go (inl h) = (w, ap (λ x. w ∷ x) (subst (λ x. Means (Mean M) x ws mid) (sym h.2) d), tok w u b o h.0)
      go (inr h) = absurd (clash_step h.1)

  cast : (js k : List Item) (ws mid : List Word) → js ≡ k → Means (Mean M) k ws mid → Means (Mean M) js ws mid
  cast js k ws mid e d = subst (λ x. Means (Mean M) x ws mid) (sym e) d

  operand_line : ByLine operand
  operand_line w r js e ws mid d = one_of_three (split (rules_of operand) w r js e)
    where
      three : Split (tl (tl (rules_of operand))) w r js → (a : Arith) × Sums one (w ∷ ws) a mid
      three (inl h) =
          let x = cast (operand ∷ more ∷ close_paren ∷ []) js ws mid h.2 d in
          let a = x.1 in
          let b = x.2.1 a.0 in
          let c = x.2.2.1 in
          let back = c.1 ∙ ap (λ y. c.0 ∷ y) x.2.2.2 in
          (b.0, in_parens (tok w OpenParen (lit≤ tt) refl h.0) a.1 (subst (λ y. Sums (onto a.0) x.0 b.0 y) back b.1) c.2)
      three (inr h) = absurd (clash_step h.1)

      two : Split (tl (rules_of operand)) w r js → (a : Arith) × Sums one (w ∷ ws) a mid
      two (inl h) = let s = is_register w.token h.0 in registered s.0 s.1
        where
          registered : (q : Register) → (w.token ≡ Current q) ⊎ (w.token ≡ Initial q) → (a : Arith) × Sums one (w ∷ ws) a mid
          registered q (inl t) = (current (register_index q), subst (λ y. Sums one (w ∷ ws) (current (register_index q)) y) (cast [] js ws mid h.2 d) (a_current t))
          registered q (inr t) = (initial (register_index q), subst (λ y. Sums one (w ∷ ws) (initial (register_index q)) y) (cast [] js ws mid h.2 d) (an_initial t))
      two (inr h) = three (split (tl (tl (rules_of operand))) w r js h.1)

      one_of_three : Split (rules_of operand) w r js → (a : Arith) × Sums one (w ∷ ws) a mid
      one_of_three (inl h) = let s = is_number w.token h.0 in (number s.0, subst (λ y. Sums one (w ∷ ws) (number s.0) y) (cast [] js ws mid h.2 d) (num s.1))
      one_of_three (inr h) = two (split (tl (rules_of operand)) w r js h.1)

  more_line : ByLine more
  more_line w r js e ws mid d b = first (split (rules_of more) w r js e)
    where
      joining : (t : Arith → Arith → Arith) → ((x : Arith) (m : List Word) (y : Arith) (z : List Word) → Sums one ws x m → Sums (onto (t b x)) m y z → Sums (onto b) (w ∷ ws) y z) → operand ∷ more ∷ [] ≡ js → (a : Arith) × Sums (onto b) (w ∷ ws) a mid
      joining t join same =
          let x = cast (operand ∷ more ∷ []) js ws mid same d in
          let a = x.1 in
          let c = x.2.1 (t b a.0) in
          (c.0, join a.0 x.0 c.0 mid a.1 (subst (λ y. Sums (onto (t b a.0)) x.0 c.0 y) x.2.2 c.1))

      second : Split (tl (rules_of more)) w r js → (a : Arith) × Sums (onto b) (w ∷ ws) a mid
      second (inl h) = joining minus (λ x m y z p q. subtracts (tok w Minus (lit≤ tt) refl h.0) p q) h.2
      second (inr h) = absurd (clash_step h.1)

      first : Split (rules_of more) w r js → (a : Arith) × Sums (onto b) (w ∷ ws) a mid
      first (inl h) = joining plus (λ x m y z p q. adds (tok w Plus (lit≤ tt) refl h.0) p q) h.2
      first (inr h) = second (split (tl (rules_of more)) w r js h.1)

  abbrev Comparing : List Word → List Word → Type 0
  Comparing ws rest = (w : Word) × (ws ≡ w ∷ rest) × ((w.token ≡ Less) ⊎ ((w.token ≡ AtMost) ⊎ (w.token ≡ Equal)))

  comparison_line : ByLine comparison
  comparison_line w r js e ws mid d = first (split (rules_of comparison) w r js e)
    where
      third : Split (tl (tl (rules_of comparison))) w r js → Comparing (w ∷ ws) mid
      third (inl h) = (w, ap (λ y. w ∷ y) (cast [] js ws mid h.2 d), inr (inr (tok w Equal (lit≤ tt) refl h.0)))
      third (inr h) = absurd (clash_step h.1)

      second : Split (tl (rules_of comparison)) w r js → Comparing (w ∷ ws) mid
      second (inl h) = (w, ap (λ y. w ∷ y) (cast [] js ws mid h.2 d), inr (inl (tok w AtMost (lit≤ tt) refl h.0)))
      second (inr h) = third (split (tl (tl (rules_of comparison))) w r js h.1)

      first : Split (rules_of comparison) w r js → Comparing (w ∷ ws) mid
      first (inl h) = (w, ap (λ y. w ∷ y) (cast [] js ws mid h.2 d), inl (tok w Less (lit≤ tt) refl h.0))
      first (inr h) = second (split (tl (rules_of comparison)) w r js h.1)

  -- A, a comparison and A
  compared : {ws behind mid rest : List Word} {a b : Arith} → Sum ws a behind → Comparing behind mid → Sum mid b rest → (t : Test) × Tests one_of ws t rest
  compared {ws} {behind} {mid} {rest} {a} {b} p c q = go c.2
    where
      left : Sum ws a (c.0 ∷ mid)
      left = subst (λ y. Sum ws a y) c.1 p

      go : (c.0.token ≡ Less) ⊎ ((c.0.token ≡ AtMost) ⊎ (c.0.token ≡ Equal)) → (t : Test) × Tests one_of ws t rest
      go (inl t) = (less a b, is_less left t q)
      go (inr (inl t)) = (at_most a b, is_at_most left t q)
      go (inr (inr t)) = (equal a b, is_equal left t q)

  -- an operand that has been read, and what is owed behind it in a comparison
  rest_compared : {vs ws mid : List Word} {a : Arith} → Sums one vs a ws → Means (Mean M) (more ∷ comparison ∷ operand ∷ more ∷ []) ws mid → (t : Test) × Tests one_of vs t mid
  rest_compared {vs} {ws} {mid} {a} p x =
      let l = x.1 a in
      let o = x.2.2.1 in
      let k = x.2.2.2.1 o.0 in
      compared (sum p l.1) x.2.1 (sum o.1 (subst (λ y. Sums (onto o.0) x.2.2.0 k.0 y) x.2.2.2.2 k.1))

  test_line : ByLine one_test
  test_line w r js e ws mid d = first (split (rules_of one_test) w r js e)
    where
      fifth : Split (tl (tl (tl (tl (rules_of one_test))))) w r js → (t : Test) × Tests one_of (w ∷ ws) t mid
      fifth (inl h) =
          let x = cast (operand ∷ more ∷ close_paren ∷ more ∷ comparison ∷ operand ∷ more ∷ []) js ws mid h.2 d in
          let a = x.1 in
          let b = x.2.1 a.0 in
          let c = x.2.2.1 in
          rest_compared (in_parens (tok w OpenParen (lit≤ tt) refl h.0) a.1 (subst (λ y. Sums (onto a.0) x.0 b.0 y) c.1 b.1) c.2) x.2.2.2
      fifth (inr h) = absurd (clash_step h.1)

      fourth : Split (tl (tl (tl (rules_of one_test)))) w r js → (t : Test) × Tests one_of (w ∷ ws) t mid
      fourth (inl h) = let s = is_register w.token h.0 in registered s.0 s.1
        where
          registered : (q : Register) → (w.token ≡ Current q) ⊎ (w.token ≡ Initial q) → (t : Test) × Tests one_of (w ∷ ws) t mid
          registered q (inl t) = rest_compared (a_current t) (cast (more ∷ comparison ∷ operand ∷ more ∷ []) js ws mid h.2 d)
          registered q (inr t) = rest_compared (an_initial t) (cast (more ∷ comparison ∷ operand ∷ more ∷ []) js ws mid h.2 d)
      fourth (inr h) = fifth (split (tl (tl (tl (tl (rules_of one_test))))) w r js h.1)

      third : Split (tl (tl (rules_of one_test))) w r js → (t : Test) × Tests one_of (w ∷ ws) t mid
      third (inl h) = let s = is_number w.token h.0 in rest_compared (num s.1) (cast (more ∷ comparison ∷ operand ∷ more ∷ []) js ws mid h.2 d)
      third (inr h) = fourth (split (tl (tl (tl (rules_of one_test)))) w r js h.1)

      second : Split (tl (rules_of one_test)) w r js → (t : Test) × Tests one_of (w ∷ ws) t mid
      second (inl h) =
          let x = cast (one_test ∷ joined ∷ close_bracket ∷ []) js ws mid h.2 d in
          let a = x.1 in
          let b = x.2.1 a.0 in
          let c = x.2.2.1 in
          let back = c.1 ∙ ap (λ y. c.0 ∷ y) x.2.2.2 in
          (b.0, in_brackets (tok w OpenBracket (lit≤ tt) refl h.0) a.1 (subst (λ y. Tests (onto_test a.0) x.0 b.0 y) back b.1) c.2)
      second (inr h) = third (split (tl (tl (rules_of one_test))) w r js h.1)

      first : Split (rules_of one_test) w r js → (t : Test) × Tests one_of (w ∷ ws) t mid
      first (inl h) = (always, subst (λ y. Tests one_of (w ∷ ws) always y) (cast [] js ws mid h.2 d) (is_true (tok w True (lit≤ tt) refl h.0)))
      first (inr h) = second (split (tl (rules_of one_test)) w r js h.1)

  joined_line : ByLine joined
  joined_line w r js e ws mid d b = first (split (rules_of joined) w r js e)
    where
      joining : (t : Test → Test → Test) → ((x : Test) (m : List Word) (y : Test) (z : List Word) → Tests one_of ws x m → Tests (onto_test (t b x)) m y z → Tests (onto_test b) (w ∷ ws) y z) → one_test ∷ joined ∷ [] ≡ js → (a : Test) × Tests (onto_test b) (w ∷ ws) a mid
      joining t join same =
          let x = cast (one_test ∷ joined ∷ []) js ws mid same d in
          let a = x.1 in
          let c = x.2.1 (t b a.0) in
          (c.0, join a.0 x.0 c.0 mid a.1 (subst (λ y. Tests (onto_test (t b a.0)) x.0 c.0 y) x.2.2 c.1))

      third : Split (tl (tl (rules_of joined))) w r js → (a : Test) × Tests (onto_test b) (w ∷ ws) a mid
      third (inl h) = joining not_both (λ x m y z p q. nands (tok w Nand (lit≤ tt) refl h.0) p q) h.2
      third (inr h) = absurd (clash_step h.1)

      second : Split (tl (rules_of joined)) w r js → (a : Test) × Tests (onto_test b) (w ∷ ws) a mid
      second (inl h) = joining either (λ x m y z p q. ors (tok w Or (lit≤ tt) refl h.0) p q) h.2
      second (inr h) = third (split (tl (tl (rules_of joined))) w r js h.1)

      first : Split (rules_of joined) w r js → (a : Test) × Tests (onto_test b) (w ∷ ws) a mid
      first (inl h) = joining both (λ x m y z p q. ands (tok w And (lit≤ tt) refl h.0) p q) h.2
      first (inr h) = second (split (tl (rules_of joined)) w r js h.1)

  -- a sign, a condition and what closes it
  within_line : (o c : Token) → Prim.Native.Nat.◌≤◌ 2 (kind o) → of_kind (kind o) ≡ o → (i : Item) → ((ws mid : List Word) → Mean M i ws mid → Sign c ws mid) → (w : Word) (r : Role) (js : List Item) → find (line (at o) plain (one_test ∷ joined ∷ i ∷ []) ∷ []) w ≡ takes r js → (ws mid : List Word) → Means (Mean M) js ws mid → (t : Test) × Within o c (w ∷ ws) t mid
  within_line o c big own i closing w r js e ws mid d = go (split (line (at o) plain (one_test ∷ joined ∷ i ∷ []) ∷ []) w r js e)
    where
      go : Split (line (at o) plain (one_test ∷ joined ∷ i ∷ []) ∷ []) w r js → (t : Test) × Within o c (w ∷ ws) t mid
      go (inl h) =
          let x = cast (one_test ∷ joined ∷ i ∷ []) js ws mid h.2 d in
          let a = x.1 in
          let b = x.2.1 a.0 in
          (b.0, (ws, x.2.0, (w, refl, tok w o big own h.0), condition a.1 b.1, subst (λ y. Sign c x.2.0 y) x.2.2.2 (closing _ _ x.2.2.1)))
      go (inr h) = absurd (clash_step h.1)

  label_line : ByLine label
  label_line w r js e ws mid d = go (split (rules_of label) w r js e)
    where
      go : Split (rules_of label) w r js → (n : ℕ) × Sign (Number n) (w ∷ ws) mid
      go (inl h) = let s = is_number w.token h.0 in (s.0, (w, ap (λ y. w ∷ y) (cast [] js ws mid h.2 d), s.1))
      go (inr h) = absurd (clash_step h.1)

  more_labels_line : ByLine more_labels
  more_labels_line w r js e ws mid d = go (split (rules_of more_labels) w r js e)
    where
      go : Split (rules_of more_labels) w r js → (ns : List ℕ) × MoreLabels (w ∷ ws) ns mid
      go (inl h) =
          let x = cast (label ∷ more_labels ∷ []) js ws mid h.2 d in
          let n = x.1 in
          let v = n.1 in
          let more = x.2.1 in
          (n.0 ∷ more.0, subst (λ y. MoreLabels (w ∷ y) (n.0 ∷ more.0) mid) (sym v.1) (comma (tok w Comma (lit≤ tt) refl h.0) v.2 (subst (λ y. MoreLabels x.0 more.0 y) x.2.2 more.1)))
      go (inr h) = absurd (clash_step h.1)

  label_set_line : ByLine label_set
  label_set_line w r js e ws mid d = first (split (rules_of label_set) w r js e)
    where
      second : Split (tl (rules_of label_set)) w r js → (s : LabelSet) × Labels (w ∷ ws) s mid
      second (inl h) =
          let s = is_number w.token h.0 in
          let x = cast (more_labels ∷ []) js ws mid h.2 d in
          (these (s.0 ∷ x.1.0), numbers s.1 (subst (λ y. MoreLabels ws x.1.0 y) x.2 x.1.1))
      second (inr h) = absurd (clash_step h.1)

      first : Split (rules_of label_set) w r js → (s : LabelSet) × Labels (w ∷ ws) s mid
      first (inl h) = (every, subst (λ y. Labels (w ∷ ws) every y) (cast [] js ws mid h.2 d) (question (tok w Question (lit≤ tt) refl h.0)))
      first (inr h) = second (split (tl (rules_of label_set)) w r js h.1)

-- no line fits: the first does not, and none behind it
abbrev ShutOut : List Line → Word → Type 0
ShutOut [] w = Unit {0}
ShutOut (l ∷ ls) w = (l.fits w ≡ false) × ShutOut ls w

pub shut_out : (ls : List Line) (w : Word) → find ls w ≡ stuck → ShutOut ls w
shut_out [] w e = tt
shut_out (l ∷ ls) w e = let a = stuck_here l ls w e in (a.0, shut_out ls w a.1)

-- no `+` and `-`, no `and`, `or` and `nand`, no comma
pub free_more : (ws : List Word) → Quiet (rules_of more) ws → Free (Plus ∷ Minus ∷ []) ws
free_more [] q = tt
free_more (w ∷ ws) q = let a = shut_out (rules_of more) w q in (kinds_differ w.token Plus a.0, (kinds_differ w.token Minus a.1.0, tt))

pub free_joined : (ws : List Word) → Quiet (rules_of joined) ws → Free (And ∷ Or ∷ Nand ∷ []) ws
free_joined [] q = tt
free_joined (w ∷ ws) q = let a = shut_out (rules_of joined) w q in (kinds_differ w.token And a.0, (kinds_differ w.token Or a.1.0, (kinds_differ w.token Nand a.1.1.0, tt)))

pub free_labels : (ws : List Word) → Quiet (rules_of more_labels) ws → Free (Comma ∷ []) ws
free_labels [] q = tt
free_labels (w ∷ ws) q = let a = shut_out (rules_of more_labels) w q in (kinds_differ w.token Comma a.0, tt)

-- what is left out of the items that all texts share, and what the other items stand for, is to be shown by each text
module _ (M : Item → List Word → List Word → Type 0)
    (lines : (i : Item) → shared i ≡ false → (w : Word) (r : Role) (js : List Item) → find (rules_of i) w ≡ takes r js → (ws mid : List Word) → Means (Mean M) js ws mid → Mean M i (w ∷ ws) mid)
    (left : (i : Item) → shared i ≡ false → optional i ≡ true → (ws : List Word) → Quiet (rules_of i) ws → Mean M i ws ws) where
  all_lines : (i : Item) (w : Word) (r : Role) (js : List Item) → find (rules_of i) w ≡ takes r js → (ws mid : List Word) → Means (Mean M) js ws mid → Mean M i (w ∷ ws) mid
  all_lines operand = operand_line M
  all_lines more = more_line M
  all_lines one_test = test_line M
  all_lines joined = joined_line M
  all_lines comparison = comparison_line M
  all_lines close_paren = sign_line M CloseParen (lit≤ tt) refl plain
  all_lines close_bracket = sign_line M CloseBracket (lit≤ tt) refl plain
  all_lines bracketed = within_line M OpenBracket CloseBracket (lit≤ tt) refl close_bracket (λ ws mid x. x)
  all_lines semicolon = sign_line M Semicolon (lit≤ tt) refl plain
  all_lines becomes = sign_line M Set (lit≤ tt) refl plain
  all_lines sensed = lines sensed refl
  all_lines guard = within_line M OpenParen CloseParen (lit≤ tt) refl close_paren (λ ws mid x. x)
  all_lines statement = lines statement refl
  all_lines other = lines other refl
  all_lines end_if = lines end_if refl
  all_lines end_while = lines end_while refl
  all_lines block = lines block refl
  all_lines statements = lines statements refl
  all_lines (declarations r) = lines (declarations r) refl
  all_lines (declared_letter r) = lines (declared_letter r) refl
  all_lines bound = lines bound refl
  all_lines bare_bound = lines bare_bound refl
  all_lines close_declaration = lines close_declaration refl
  all_lines unit = lines unit refl
  all_lines repeats = lines repeats refl
  all_lines more_labels = more_labels_line M
  all_lines label = label_line M
  all_lines label_set = label_set_line M
  all_lines colon = sign_line M Colon (lit≤ tt) refl plain
  all_lines group = lines group refl
  all_lines expression = lines expression refl
  all_lines target = lines target refl
  all_lines edges = lines edges refl

  all_left : (i : Item) → optional i ≡ true → (ws : List Word) → Quiet (rules_of i) ws → Mean M i ws ws
  all_left operand e = absurd (clash e)
  all_left more e = λ ws q b. (b, no_more (free_more ws q))
  all_left one_test e = absurd (clash e)
  all_left joined e = λ ws q t. (t, no_more_tests (free_joined ws q))
  all_left comparison e = absurd (clash e)
  all_left close_paren e = absurd (clash e)
  all_left close_bracket e = absurd (clash e)
  all_left bracketed e = absurd (clash e)
  all_left semicolon e = absurd (clash e)
  all_left becomes e = absurd (clash e)
  all_left sensed e = left sensed refl e
  all_left guard e = absurd (clash e)
  all_left statement e = left statement refl e
  all_left other e = left other refl e
  all_left end_if e = left end_if refl e
  all_left end_while e = left end_while refl e
  all_left block e = left block refl e
  all_left statements e = left statements refl e
  all_left (declarations r) e = left (declarations r) refl e
  all_left (declared_letter r) e = left (declared_letter r) refl e
  all_left bound e = left bound refl e
  all_left bare_bound e = left bare_bound refl e
  all_left close_declaration e = left close_declaration refl e
  all_left unit e = left unit refl e
  all_left repeats e = left repeats refl e
  all_left more_labels e = λ ws q. ([], no_comma (free_labels ws q))
  all_left label e = absurd (clash e)
  all_left label_set e = absurd (clash e)
  all_left colon e = absurd (clash e)
  all_left group e = left group refl e
  all_left expression e = left expression refl e
  all_left target e = left target refl e
  all_left edges e = left edges refl e

  -- what the table reads is what its items stand for
  pub stands_for : {k : List Item} {ws rest : List Word} → Reads table k ws rest → Means (Mean M) k ws rest
  stands_for d = means table (Mean M) all_lines all_left d
