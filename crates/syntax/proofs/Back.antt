-- From the table to derivations of programs. Assumes nothing.
use Rattle.std.proofs.Common.{◌≡◌, ℕ, suc, ◌≤◌, Bool, true, false, eqb, ◌⊎◌, List, [], ◌∷◌, set, ℤ, pos, ◌-ℤ◌, Some, Option, sym, refl, ap, ◌∙◌, subst, inl, inr, lit≤}
use borrow.Author.Tests.{clash}
use Rattle.std.proofs.lemmas.Bool.{eqb-true}
use Rattle.grammar.specs.Grammars.{stuck, takes, find, Quiet, Reads}
use Rattle.grammar.proofs.Steps.{clash_step}
use Rattle.grammar.proofs.Trees.{Means, by_lines, stuck_here}
use Rattle.text.specs.declared.word.Register.{Register}
use Rattle.text.specs.declared.word.Register.TheVariants.{A as ra, B as rb, C as rc, D as rd, E as re, F as rf}
use Rattle.text.specs.declared.word.Token.{Token}
use Rattle.text.specs.declared.word.Token.TheVariants.{Number, Current, Reg, Sense, If, Else, While, Break, Semicolon, OpenParen, CloseParen, OpenBrace, CloseBrace, Minus}
use Rattle.text.specs.declared.word.Word.{Word}
use Rattle.text.specs.Words.{kind, at, names, register_index}
use Rattle.text.specs.Table.{Role, plain, labelled, sensed_register, breaks as breaks_role, bounds as bounds_role, negates, ends_declaration, Item, operand, more, one_test, joined, comparison, close_paren, close_bracket, bracketed, semicolon, becomes, sensed, guard, statement, other, end_if, end_while, block, statements, declarations, declared_letter, bound, bare_bound, close_declaration, unit, repeats, more_labels, label, label_set, colon, group, expression, target, edges, rules_of, optional, table, Line, line, statement_lines, declares_register, following, program_start}
use Rattle.text.specs.Expressions.{Test}
use Rattle.text.specs.Derivations.{Free, Sum, sum, Condition}
use Rattle.text.proofs.Tests.{of_kind, is_token, is_number, is_register, kinds_differ}
use Rattle.traces.specs.Programs.{Part, assign, sense, skip, if_then, if_else, while, break, block as braced, empty, list}
use Rattle.syntax.specs.Phrases.{Names, one, behind, States, sets, senses, skips, ifs, if_elses, whiles, breaks, blocks, no_more, one_more, Bound, plainly, negated, Bounds, Declares, no_register, all_declared, register, undeclared, Program}
use Rattle.text.proofs.Shared.{Sign, Within, Mean, shared, split, stands_for}
use Rattle.syntax.proofs.Letters.{letter_is}

-- what stands where an if may have its else
abbrev pub ElsePart : List Word → List Word → Type 0
ElsePart ws rest = (Free (Else ∷ []) ws × (ws ≡ rest)) ⊎ ((e : Word) × (behind-else : List Word) × (u : Part) × (ws ≡ e ∷ behind-else) × (e.token ≡ Else) × States one behind-else u rest)

-- what the items of a program stand for
abbrev pub M : Item → List Word → List Word → Type 0
M operand ws rest = Unit {0}
M more ws rest = Unit {0}
M one_test ws rest = Unit {0}
M joined ws rest = Unit {0}
M comparison ws rest = Unit {0}
M close_paren ws rest = Unit {0}
M close_bracket ws rest = Unit {0}
M bracketed ws rest = Unit {0}
M semicolon ws rest = Unit {0}
M becomes ws rest = Unit {0}
M sensed ws rest = (x : ℕ) × (w : Word) × (ws ≡ w ∷ rest) × Names w.token x
M guard ws rest = Unit {0}
M statement ws rest = (s : Part) × States one ws s rest
M other ws rest = ElsePart ws rest
M end_if ws rest = ws ≡ rest
M end_while ws rest = ws ≡ rest
M block ws rest = (s : Part) → (t : Part) × (c : Word) × States (behind s) ws t (c ∷ rest) × (c.token ≡ CloseBrace)
M statements ws rest = (s : Part) → (t : Part) × States (behind s) ws t rest
M (declarations r) ws rest = (ds : List (Option Bounds)) → (es : List (Option Bounds)) × Declares (register_index r) ds ws es rest
M (declared_letter r) ws rest = (w : Word) → w.token ≡ Reg → (ds : List (Option Bounds)) → (es : List (Option Bounds)) × Declares (register_index r) ds (w ∷ ws) es rest
M bound ws rest = (z : ℤ) × Bound ws z rest
M bare_bound ws rest = (n : ℕ) × Sign (Number n) ws rest
M close_declaration ws rest = Sign Semicolon ws rest
M unit ws rest = Unit {0}
M repeats ws rest = Unit {0}
M more_labels ws rest = Unit {0}
M label ws rest = Unit {0}
M label_set ws rest = Unit {0}
M colon ws rest = Unit {0}
M group ws rest = Unit {0}
M expression ws rest = Unit {0}
M target ws rest = Unit {0}
M edges ws rest = Unit {0}

tok : (w : Word) (u : Token) → 2 ≤ kind u → of_kind (kind u) ≡ u → at u w ≡ true → w.token ≡ u
tok w u b o e = is_token w.token u b o e

names_of : (w : Word) → eqb (kind w.token) 1 ≡ true → (x : ℕ) × Names w.token x
names_of w e = let k = is_register w.token e in (register_index k.0, (k.0, k.1, refl))

abbrev ByLine : Item → Type 0
ByLine i = (w : Word) (r : Role) (js : List Item) → find (rules_of i) w ≡ takes r js → (ws mid : List Word) → Means (Mean M) js ws mid → Mean M i (w ∷ ws) mid

-- a single line that owes js: it fits, and these are owed
module _ (f : Word → Bool) (q : Role) (owes : List Item) where
  only_line : (w : Word) (r : Role) (js : List Item) → find (line f q owes ∷ []) w ≡ takes r js → (ws mid : List Word) → Means (Mean M) js ws mid → (f w ≡ true) × Means (Mean M) owes ws mid
  only_line w r js e ws mid d = go (by_lines (line f q owes) [] w r js e)
    where
      go : ((f w ≡ true) × (q ≡ r) × (owes ≡ js)) ⊎ ((f w ≡ false) × (stuck ≡ takes r js)) → (f w ≡ true) × Means (Mean M) owes ws mid
      go (inl h) = (h.0, subst (λ x. Means (Mean M) x ws mid) (sym h.2) d)
      go (inr h) = absurd (clash_step h.1)

sensed_line : ByLine sensed
sensed_line w r js e ws mid d = let k = only_line (at (Current ra)) sensed_register [] w r js e ws mid d in let n = names_of w k.0 in (n.0, w, ap (λ x. w ∷ x) k.1, n.1)

-- ---- statements
pub record Found (k : List Item) (w : Word) (ws mid : List Word) : Type 0 where
  pub part : Part
  pub rest : List Word
  pub states : States one (w ∷ ws) part rest
  pub means : Means (Mean M) k rest mid

-- the pieces of each statement, put together
set_found : (k : List Item) (w : Word) (ws mid : List Word) → eqb (kind w.token) 1 ≡ true → Means (Mean M) (becomes ∷ operand ∷ more ∷ semicolon ∷ k) ws mid → Found k w ws mid
set_found k w ws mid e (m₁, (v, e₁, f₁), (m₂, (a, d₁), (m₃, d₂, (m₄, (c, e₂, f₂), d)))) =
    let n = names_of w e in
    let b = d₂ a in
    record {
      part = assign n.0 b.0;
      rest = m₄;
      states = subst (λ x. States one (w ∷ x) (assign n.0 b.0) m₄) (sym e₁) (sets n.1 f₁ (subst (λ x. Sum m₁ b.0 x) e₂ (sum d₁ b.1)) f₂);
      means = d;
    }

sense_found : (k : List Item) (w : Word) (ws mid : List Word) → w.token ≡ Sense → Means (Mean M) (sensed ∷ semicolon ∷ k) ws mid → Found k w ws mid
sense_found k w ws mid e (m₁, (x, v, e₁, n), (m₂, (c, e₂, f₂), d)) =
    record { part = sense x; rest = m₂; states = subst (λ y. States one (w ∷ y) (sense x) m₂) (sym (e₁ ∙ ap (λ y. v ∷ y) e₂)) (senses e n f₂); means = d }

skip_found : (k : List Item) (w : Word) (ws mid : List Word) → w.token ≡ Semicolon → Means (Mean M) k ws mid → Found k w ws mid
skip_found k w ws mid e d = record { part = skip; rest = ws; states = skips e; means = d }

-- the words of a guard
guarded : (P : List Word → Type 0) (ws mid : List Word) (t : Test) → Within OpenParen CloseParen ws t mid
    → ((o c : Word) (inner : List Word) → o.token ≡ OpenParen → Condition inner t (c ∷ mid) → c.token ≡ CloseParen → P (o ∷ inner)) → P ws
guarded P ws mid t (inner, after, (o, e₁, f₁), d, (c, e₂, f₂)) go = subst P (sym e₁) (go o c inner f₁ (subst (λ x. Condition inner t x) e₂ d) f₂)

if_found : (k : List Item) (w : Word) (ws mid : List Word) → w.token ≡ If → Means (Mean M) (guard ∷ statement ∷ other ∷ k) ws mid → Found k w ws mid
if_found k w ws mid e (m₁, (t, g), (m₂, (s, d₁), (m₃, o, d))) = go o
  where
    go : ElsePart m₂ m₃ → Found k w ws mid
    go (inl (n, z)) = record {
      part = if_then t s;
      rest = m₂;
      means = subst (λ x. Means (Mean M) k x mid) (sym z) d;
      states = guarded (λ x. States one (w ∷ x) (if_then t s) m₂) ws m₁ t g (λ p c inner f c₁ h. ifs e f c₁ h d₁ n);
    }
    go (inr (l, x, u, z, f₁, d₂)) = record {
      part = if_else t s u;
      rest = m₃;
      means = d;
      states = guarded (λ y. States one (w ∷ y) (if_else t s u) m₃) ws m₁ t g (λ p c inner f c₁ h. if_elses e f c₁ h (subst (λ y. States one m₁ s y) z d₁) f₁ d₂);
    }

while_found : (k : List Item) (w : Word) (ws mid : List Word) → w.token ≡ While → Means (Mean M) (guard ∷ statement ∷ end_while ∷ k) ws mid → Found k w ws mid
while_found k w ws mid e (m₁, (t, g), (m₂, (s, d₁), (m₃, z, d))) =
    record {
      part = while t s;
      rest = m₂;
      means = subst (λ x. Means (Mean M) k x mid) (sym z) d;
      states = guarded (λ x. States one (w ∷ x) (while t s) m₂) ws m₁ t g (λ p c inner f c₁ h. whiles e f c₁ h d₁);
    }

break_found : (k : List Item) (w : Word) (ws mid : List Word) → w.token ≡ Break → Means (Mean M) (semicolon ∷ k) ws mid → Found k w ws mid
break_found k w ws mid e (m₁, (c, e₁, f₁), d) = record { part = break; rest = m₁; states = subst (λ x. States one (w ∷ x) break m₁) (sym e₁) (breaks e f₁); means = d }

block_found : (k : List Item) (w : Word) (ws mid : List Word) → w.token ≡ OpenBrace → Means (Mean M) (block ∷ k) ws mid → Found k w ws mid
block_found k w ws mid e (m₁, b, d) = let x = b empty in record { part = braced x.0; rest = m₁; states = blocks e x.2 x.3; means = d }

-- the lines of statements, from the last
abbrev S₇ : List Item → List Line
S₇ k = line (at OpenBrace) plain (block ∷ k) ∷ []

abbrev S₆ : List Item → List Line
S₆ k = line (at Break) breaks_role (semicolon ∷ k) ∷ S₇ k

abbrev S₅ : List Item → List Line
S₅ k = line (at While) labelled (guard ∷ statement ∷ end_while ∷ k) ∷ S₆ k

abbrev S₄ : List Item → List Line
S₄ k = line (at If) labelled (guard ∷ statement ∷ other ∷ k) ∷ S₅ k

abbrev S₃ : List Item → List Line
S₃ k = line (at Semicolon) labelled k ∷ S₄ k

abbrev S₂ : List Item → List Line
S₂ k = line (at Sense) labelled (sensed ∷ semicolon ∷ k) ∷ S₃ k

pub statement_found : (k : List Item) (w : Word) (r : Role) (js : List Item) → find (statement_lines k) w ≡ takes r js → (ws mid : List Word) → Means (Mean M) js ws mid → Found k w ws mid
statement_found k w r js e ws mid d =
    elim (split (statement_lines k) w r js e) [
      | inl h ↦ set_found k w ws mid h.0 (owed h.2)
      | inr h ↦ elim (split (S₂ k) w r js h.1) [
        | inl h ↦ sense_found k w ws mid (tok w Sense (lit≤ tt) refl h.0) (owed h.2)
        | inr h ↦ elim (split (S₃ k) w r js h.1) [
          | inl h ↦ skip_found k w ws mid (tok w Semicolon (lit≤ tt) refl h.0) (owed h.2)
          | inr h ↦ elim (split (S₄ k) w r js h.1) [
            | inl h ↦ if_found k w ws mid (tok w If (lit≤ tt) refl h.0) (owed h.2)
            | inr h ↦ elim (split (S₅ k) w r js h.1) [
              | inl h ↦ while_found k w ws mid (tok w While (lit≤ tt) refl h.0) (owed h.2)
              | inr h ↦ elim (split (S₆ k) w r js h.1) [
                | inl h ↦ break_found k w ws mid (tok w Break (lit≤ tt) refl h.0) (owed h.2)
                | inr h ↦ elim (split (S₇ k) w r js h.1) [
                  | inl h ↦ block_found k w ws mid (tok w OpenBrace (lit≤ tt) refl h.0) (owed h.2)
                  | inr h ↦ absurd (clash_step h.1)
                ]
              ]
            ]
          ]
        ]
      ]
    ]
  where
    owed : {owes : List Item} → owes ≡ js → Means (Mean M) owes ws mid
    owed x = subst (λ y. Means (Mean M) y ws mid) (sym x) d

statement_line : ByLine statement
statement_line w r js e ws mid d = let f = statement_found [] w r js e ws mid d in (f.part, subst (λ x. States one (w ∷ ws) f.part x) f.means f.states)

block_line : ByLine block
block_line w r js e ws mid d =
    elim (split (line (at CloseBrace) plain [] ∷ statement_lines (block ∷ [])) w r js e) [
      | inl h ↦ (λ s. (s, w, subst (λ x. States (behind s) (w ∷ ws) s (w ∷ x)) (subst (λ y. Means (Mean M) y ws mid) (sym h.2) d) no_more, tok w CloseBrace (lit≤ tt) refl h.0))
      | inr h ↦ (λ s. let f = statement_found (block ∷ []) w r js h.1 ws mid d in
          let b = f.means.1 (list s f.part) in
          (b.0, b.1, one_more f.states (subst (λ x. States (behind (list s f.part)) f.rest b.0 (b.1 ∷ x)) f.means.2 b.2), b.3))
    ]

statements_line : ByLine statements
statements_line w r js e ws mid d s =
    let f = statement_found (statements ∷ []) w r js e ws mid d in
    let b = f.means.1 (list s f.part) in
    (b.0, one_more f.states (subst (λ x. States (behind (list s f.part)) f.rest b.0 x) f.means.2 b.1))

other_line : ByLine other
other_line w r js e ws mid d =
    let k = only_line (at Else) plain (statement ∷ end_if ∷ []) w r js e ws mid d in
    let x = k.1 in
    inr (w, ws, x.1.0, refl, tok w Else (lit≤ tt) refl k.0, subst (λ y. States one ws x.1.0 y) (x.2.1 ∙ x.2.2) x.1.1)

free_other : (ws : List Word) → Quiet (rules_of other) ws → Free (Else ∷ []) ws
free_other [] q = tt
free_other (w ∷ ws) q = let a = stuck_here (line (at Else) plain (statement ∷ end_if ∷ [])) [] w q in (kinds_differ w.token Else a.0, tt)

-- ---- declarations
bare_line : ByLine bare_bound
bare_line w r js e ws mid d = let k = only_line (at (Number 0)) bounds_role [] w r js e ws mid d in let n = is_number w.token k.0 in (n.0, (w, ap (λ x. w ∷ x) k.1, n.1))

bound_line : ByLine bound
bound_line w r js e ws mid d =
    elim (split (rules_of bound) w r js e) [
      | inl h ↦ (let n = is_number w.token h.0 in let z : ws ≡ mid = subst (λ y. Means (Mean M) y ws mid) (sym h.2) d in (pos n.0, subst (λ x. Bound (w ∷ ws) (pos n.0) x) z (plainly n.1)))
      | inr h ↦ (let k = only_line (at Minus) negates (bare_bound ∷ []) w r js h.1 ws mid d in signed (tok w Minus (lit≤ tt) refl k.0) k.1)
    ]
  where
    signed : w.token ≡ Minus → Means (Mean M) (bare_bound ∷ []) ws mid → (z : ℤ) × Bound (w ∷ ws) z mid
    signed f (m₁, (n, (v, e₁, f₁)), z) = (pos 0 -ℤ pos n, subst (λ x. Bound (w ∷ x) (pos 0 -ℤ pos n) mid) (sym e₁) (subst (λ x. Bound (w ∷ v ∷ m₁) (pos 0 -ℤ pos n) x) z (negated f f₁)))

close_line : ByLine close_declaration
close_line w r js e ws mid d = let k = only_line (at Semicolon) ends_declaration [] w r js e ws mid d in (w, ap (λ x. w ∷ x) k.1, tok w Semicolon (lit≤ tt) refl k.0)

declarations_line : (q : Register) → ByLine (declarations q)
declarations_line q w r js e ws mid d ds =
    let k = only_line (at Reg) plain (declared_letter q ∷ []) w r js e ws mid d in
    let x = k.1 in
    let b = x.1 w (tok w Reg (lit≤ tt) refl k.0) ds in
    (b.0, subst (λ y. Declares (register_index q) ds (w ∷ ws) b.0 y) x.2 b.1)

free_reg : (q : Register) (ws : List Word) → Quiet (rules_of (declarations q)) ws → Free (Reg ∷ []) ws
free_reg q [] f = tt
free_reg q (w ∷ ws) f = let a = stuck_here (line (at Reg) plain (declared_letter q ∷ [])) [] w f in (kinds_differ w.token Reg a.0, tt)

-- what follows a register's declaration
follows : (q : Register) (ws rest : List Word) → Means (Mean M) (following q) ws rest → (ds : List (Option Bounds)) → (es : List (Option Bounds)) × Declares (suc (register_index q)) ds ws es rest
follows ra ws rest (m, d, z) ds = let b = d ds in (b.0, subst (λ x. Declares 1 ds ws b.0 x) z b.1)
follows rb ws rest (m, d, z) ds = let b = d ds in (b.0, subst (λ x. Declares 2 ds ws b.0 x) z b.1)
follows rc ws rest (m, d, z) ds = let b = d ds in (b.0, subst (λ x. Declares 3 ds ws b.0 x) z b.1)
follows rd ws rest (m, d, z) ds = let b = d ds in (b.0, subst (λ x. Declares 4 ds ws b.0 x) z b.1)
follows re ws rest (m, d, z) ds = let b = d ds in (b.0, subst (λ x. Declares 5 ds ws b.0 x) z b.1)
follows rf ws rest z ds = (ds, subst (λ x. Declares 6 ds ws ds x) z all_declared)

-- one declaration behind the word reg
declared : (q p : Register) (w : Word) (ws mid : List Word) → names p w ≡ true → register_index q ≤ register_index p
    → Means (Mean M) (bound ∷ bound ∷ bound ∷ bound ∷ close_declaration ∷ following p) ws mid → Mean M (declared_letter q) (w ∷ ws) mid
declared q p w ws mid e h (m₁, (z₁, b₁), (m₂, (z₂, b₂), (m₃, (z₃, b₃), (m₄, (z₄, b₄), (m₅, (c, e₁, f₁), d))))) o f ds =
    let b = follows p m₅ mid d (set ds (register_index p) (Some (record { low = z₁; high = z₂; from = z₃; to = z₄ }))) in
    (b.0, register f (letter_is w.token p (eqb-true _ _ e)) h b₁ b₂ b₃ (subst (λ x. Bound m₃ z₄ x) e₁ b₄) f₁ b.1)

-- the letters from a register on
abbrev Owed : Register → List Item
Owed p = bound ∷ bound ∷ bound ∷ bound ∷ close_declaration ∷ following p

letter_from : (q p : Register) (ls : List Line) → register_index q ≤ register_index p
    → ((w : Word) (r : Role) (js : List Item) → find ls w ≡ takes r js → (ws mid : List Word) → Means (Mean M) js ws mid → Mean M (declared_letter q) (w ∷ ws) mid)
    → (w : Word) (r : Role) (js : List Item) → find (declares_register p ∷ ls) w ≡ takes r js → (ws mid : List Word) → Means (Mean M) js ws mid → Mean M (declared_letter q) (w ∷ ws) mid
letter_from q p ls h later w r js e ws mid d =
    elim (split (declares_register p ∷ ls) w r js e) [
      | inl x ↦ declared q p w ws mid x.0 h (subst (λ y. Means (Mean M) y ws mid) (sym x.2) d)
      | inr x ↦ later w r js x.1 ws mid d
    ]

no_letter : (q : Register) (w : Word) (r : Role) (js : List Item) → find {I = Item} [] w ≡ takes r js → (ws mid : List Word) → Means (Mean M) js ws mid → Mean M (declared_letter q) (w ∷ ws) mid
no_letter q w r js e = absurd (clash_step e)

letter_line : (q : Register) → ByLine (declared_letter q)
letter_line ra = letter_from ra ra (declares_register rb ∷ declares_register rc ∷ declares_register rd ∷ declares_register re ∷ declares_register rf ∷ []) (lit≤ tt) (letter_from ra rb (declares_register rc ∷ declares_register rd ∷ declares_register re ∷ declares_register rf ∷ []) (lit≤ tt) (letter_from ra rc (declares_register rd ∷ declares_register re ∷ declares_register rf ∷ []) (lit≤ tt) (letter_from ra rd (declares_register re ∷ declares_register rf ∷ []) (lit≤ tt) (letter_from ra re (declares_register rf ∷ []) (lit≤ tt) (letter_from ra rf ([]) (lit≤ tt) (no_letter ra))))))
letter_line rb = letter_from rb rb (declares_register rc ∷ declares_register rd ∷ declares_register re ∷ declares_register rf ∷ []) (lit≤ tt) (letter_from rb rc (declares_register rd ∷ declares_register re ∷ declares_register rf ∷ []) (lit≤ tt) (letter_from rb rd (declares_register re ∷ declares_register rf ∷ []) (lit≤ tt) (letter_from rb re (declares_register rf ∷ []) (lit≤ tt) (letter_from rb rf ([]) (lit≤ tt) (no_letter rb)))))
letter_line rc = letter_from rc rc (declares_register rd ∷ declares_register re ∷ declares_register rf ∷ []) (lit≤ tt) (letter_from rc rd (declares_register re ∷ declares_register rf ∷ []) (lit≤ tt) (letter_from rc re (declares_register rf ∷ []) (lit≤ tt) (letter_from rc rf ([]) (lit≤ tt) (no_letter rc))))
letter_line rd = letter_from rd rd (declares_register re ∷ declares_register rf ∷ []) (lit≤ tt) (letter_from rd re (declares_register rf ∷ []) (lit≤ tt) (letter_from rd rf ([]) (lit≤ tt) (no_letter rd)))
letter_line re = letter_from re re (declares_register rf ∷ []) (lit≤ tt) (letter_from re rf ([]) (lit≤ tt) (no_letter re))
letter_line rf = letter_from rf rf ([]) (lit≤ tt) (no_letter rf)

lines : (i : Item) → shared i ≡ false → ByLine i
lines operand h = absurd (clash (sym h))
lines more h = absurd (clash (sym h))
lines one_test h = absurd (clash (sym h))
lines joined h = absurd (clash (sym h))
lines comparison h = absurd (clash (sym h))
lines close_paren h = absurd (clash (sym h))
lines close_bracket h = absurd (clash (sym h))
lines bracketed h = absurd (clash (sym h))
lines semicolon h = absurd (clash (sym h))
lines becomes h = absurd (clash (sym h))
lines sensed h = sensed_line
lines guard h = absurd (clash (sym h))
lines statement h = statement_line
lines other h = other_line
lines end_if h = λ w r js e. absurd (clash_step e)
lines end_while h = λ w r js e. absurd (clash_step e)
lines block h = block_line
lines statements h = statements_line
lines (declarations r) h = declarations_line r
lines (declared_letter r) h = letter_line r
lines bound h = bound_line
lines bare_bound h = bare_line
lines close_declaration h = close_line
lines unit h = λ w r js e ws mid d. tt
lines repeats h = λ w r js e ws mid d. tt
lines more_labels h = absurd (clash (sym h))
lines label h = absurd (clash (sym h))
lines label_set h = absurd (clash (sym h))
lines colon h = absurd (clash (sym h))
lines group h = λ w r js e ws mid d. tt
lines expression h = λ w r js e ws mid d. tt
lines target h = λ w r js e ws mid d. tt
lines edges h = λ w r js e ws mid d. tt

left : (i : Item) → shared i ≡ false → optional i ≡ true → (ws : List Word) → Quiet (rules_of i) ws → Mean M i ws ws
left operand h e = absurd (clash (sym h))
left more h e = absurd (clash (sym h))
left one_test h e = absurd (clash (sym h))
left joined h e = absurd (clash (sym h))
left comparison h e = absurd (clash (sym h))
left close_paren h e = absurd (clash (sym h))
left close_bracket h e = absurd (clash (sym h))
left bracketed h e = absurd (clash (sym h))
left semicolon h e = absurd (clash (sym h))
left becomes h e = absurd (clash (sym h))
left sensed h e = absurd (clash e)
left guard h e = absurd (clash (sym h))
left statement h e = absurd (clash e)
left other h e = λ ws q. inl (free_other ws q, refl)
left end_if h e = λ ws q. refl
left end_while h e = λ ws q. refl
left block h e = absurd (clash e)
left statements h e = λ ws q s. (s, no_more)
left (declarations r) h e = λ ws q ds. (ds, no_register (free_reg r ws q))
left (declared_letter r) h e = absurd (clash e)
left bound h e = absurd (clash e)
left bare_bound h e = absurd (clash e)
left close_declaration h e = absurd (clash e)
left unit h e = absurd (clash e)
left repeats h e = λ ws q. tt
left more_labels h e = absurd (clash (sym h))
left label h e = absurd (clash (sym h))
left label_set h e = absurd (clash (sym h))
left colon h e = absurd (clash (sym h))
left group h e = absurd (clash e)
left expression h e = λ ws q. tt
left target h e = absurd (clash e)
left edges h e = λ ws q. tt

pub reads_program : (ws : List Word) → Reads table program_start ws [] → Program ws
reads_program ws d = made (stands_for M lines left d)
  where
    made : Means (Mean M) program_start ws [] → Program ws
    made (m₁, f, (m₂, g, z)) = let x = f undeclared in let y = g empty in (x.0, y.0, record { mid = m₁; declares = x.1; states = subst (λ w. States (behind empty) m₁ y.0 w) z y.1 })
