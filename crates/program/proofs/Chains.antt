-- How the table reads statements, word by word: what each reader's contract says of the words. Assumes nothing.
use Rattle.std.proofs.Common.{◌≡◌, ℕ, suc, ◌<◌, ◌≤◌, Bool, true, false, cond, not, List, [], ◌∷◌, ◌++◌, sym, refl, ap, ◌∙◌, subst, inl, inr, append_assoc, append-nil, arith, lit≤, le-ltb, lt-ltb}
use Rattle.grammar.specs.Grammars.{Step, stuck, takes, find, Quiet}
use Rattle.grammar.specs.Answers.{next, feed, Charge, fine, charged, fault, stepping, reading}
use Rattle.grammar.proofs.Trees.{find_later}
use Rattle.model.specs.declared.refusal.Cause.{Cause}
use Rattle.model.specs.declared.refusal.Cause.TheVariants.{Many, Deep, Register as Registered, Break as Broken}
use Rattle.text.specs.declared.word.Register.{Register}
use Rattle.text.specs.declared.word.Token.{Token}
use Rattle.text.specs.declared.word.Token.TheVariants.{Current, Sense, If, Else, While, Break, Semicolon, OpenBrace, CloseBrace, Set}
use Rattle.text.specs.declared.word.Word.{Word}
use Rattle.text.specs.declared.word.Scope.{Scope}
use Rattle.text.specs.Words.{at, allowed}
use Rattle.text.specs.Table.{Role, plain, labelled, set_register, sensed_register, breaks, Item, operand, more, semicolon, becomes, sensed, guard, statement, other, end_if, end_while, block, statements, rules_of, optional, table, line, statement_lines}
use Rattle.text.specs.Charges.{Memo, causes, charge, when, deep, one_statement, counting, with_parts, opens, open_in, in_loop}
use Rattle.text.specs.Reading.{reads, Here, cause_of, Skipped, Unlike}
use Rattle.text.specs.Reading.{Goes as ExpressionGoes, Stops as ExpressionStops}
use Rattle.text.proofs.Tests.{is_token}
use Rattle.text.proofs.Going.{takes_word, charges_word, refuses, leaves_out, not_deep, too_deep, sign_goes, sign_stops}
use Rattle.program.specs.Places.{Place, Goes, Stops}
use Rattle.program.specs.Outcomes.{Letter}
use Rattle.program.specs.Lists.{Opens}

-- ---- one labelled statement more
statement_fine : (k : List Item) (m : Memo) (p : ℕ) → m.parts ≡ p → p < 63 → open_in k ≤ 16 → one_statement k m ≡ fine (with_parts m (suc p))
statement_fine k m p e h d =
    ap (λ b. when b Many (deep k (with_parts m (suc m.parts)))) (le-ltb 63 (suc m.parts) (omega arith)) ∙ not_deep k (with_parts m (suc m.parts)) d ∙ ap (λ q. fine (with_parts m (suc q))) e

statement_many : (k : List Item) (m : Memo) (p : ℕ) → m.parts ≡ p → 63 ≤ p → one_statement k m ≡ charged Many
statement_many k m p e h = ap (λ b. when b Many (deep k (with_parts m (suc m.parts)))) (lt-ltb 63 (suc m.parts) (omega arith))

statement_deep : (k : List Item) (m : Memo) (p : ℕ) → m.parts ≡ p → p < 63 → 16 < open_in k → one_statement k m ≡ charged Deep
statement_deep k m p e h d =
    ap (λ b. when b Many (deep k (with_parts m (suc m.parts)))) (le-ltb 63 (suc m.parts) (omega arith)) ∙ too_deep k (with_parts m (suc m.parts)) d

-- a statement by its first word
abbrev Found : Token → Role → List Item → Type 0
Found t r js = (q : ℕ) → find (rules_of statement) (record { token = t; place = q }) ≡ takes r js

letter_found : (t : Token) (r : Register) → Letter t r → Found t set_register (becomes ∷ operand ∷ more ∷ semicolon ∷ [])
letter_found t r (inl e) q = ap (λ u. find (rules_of statement) (record { token = u; place = q })) e
letter_found t r (inr e) q = ap (λ u. find (rules_of statement) (record { token = u; place = q })) e

letter_sensed : (t : Token) (r : Register) → Letter t r → (q : ℕ) → find (rules_of sensed) (record { token = t; place = q }) ≡ takes sensed_register []
letter_sensed t r (inl e) q = ap (λ u. find (rules_of sensed) (record { token = u; place = q })) e
letter_sensed t r (inr e) q = ap (λ u. find (rules_of sensed) (record { token = u; place = q })) e

-- what is owed behind the first word of an if or while has one more open
opened : (c : Item) → opens c ≡ 1 → (k : List Item) → open_in (guard ∷ statement ∷ c ∷ k) ≡ suc (open_in k)
opened c o k = let y = o in omega arith

module _ {n p : ℕ} {s : Scope} {left : ℕ} {inside : Bool} where
  room : (m : Memo) (k : List Item) → Place n p s left inside m k → open_in k ≤ 16
  room m k x = let h = x.nested in omega arith

  -- where an expression stands in a statement that has been counted
  here : (m : Memo) (k : List Item) → Place n p s left inside m k → Here n s left (with_parts m (suc p)) (semicolon ∷ k)
  here m k x = record { counted = x.counted; scoped = x.scoped; nested = let h = x.nested in omega arith }

  module _ (w : Word) (ws : List Word) where
    -- ---- first words
    labelled_goes : (t : Token) (js : List Item) → w.token ≡ t → Found t labelled js → p < 63 → (m : Memo) (k : List Item) → Place n p s left inside m k → open_in (js ++ k) ≤ 16
        → reads (w ∷ ws) m (statement ∷ k) ≡ reads ws (with_parts m (suc p)) (js ++ k)
    labelled_goes t js e f h m k x d = takes_word statement t labelled js w e f ws m (with_parts m (suc p)) k (statement_fine (js ++ k) m p x.read h d)

    labelled_many : (t : Token) (js : List Item) → w.token ≡ t → Found t labelled js → 63 ≤ p → Stops n p s left inside (statement ∷ []) (w ∷ ws) Many (w ∷ ws)
    labelled_many t js e f h m k x = charges_word statement t labelled js w e f ws m k Many (statement_many (js ++ k) m p x.read h)

    labelled_deep : (t : Token) (js : List Item) → w.token ≡ t → Found t labelled js → p < 63 → ((k : List Item) → open_in (js ++ k) ≡ suc (open_in k)) → left ≡ 0 → Stops n p s left inside (statement ∷ []) (w ∷ ws) Deep (w ∷ ws)
    labelled_deep t js e f h o z m k x = charges_word statement t labelled js w e f ws m k Deep (statement_deep (js ++ k) m p x.read h (let y = x.nested in let u = o k in omega arith))

    set_charge : (m : Memo) (k : List Item) (b : Bool) (c : Charge Memo Cause) → Place n p s left inside m k → allowed s w.token ≡ b → one_statement (becomes ∷ operand ∷ more ∷ semicolon ∷ k) m ≡ c
        → charge m set_register w (becomes ∷ operand ∷ more ∷ semicolon ∷ k) ≡ when (not b) Registered c
    set_charge m k b c x a e = ap (λ u. when (not (allowed u w.token)) Registered (one_statement (becomes ∷ operand ∷ more ∷ semicolon ∷ k) m)) x.scoped ∙ ap (λ u. when (not u) Registered (one_statement (becomes ∷ operand ∷ more ∷ semicolon ∷ k) m)) a ∙ ap (when (not b) Registered) e

    module _ (r : Register) (l : Letter w.token r) where
      pub set_unknown : allowed s w.token ≡ false → Stops n p s left inside (statement ∷ []) (w ∷ ws) Registered (w ∷ ws)
      set_unknown a m k x = charges_word statement w.token set_register _ w refl (letter_found w.token r l) ws m k Registered (set_charge m k false _ x a refl)

      pub set_many : allowed s w.token ≡ true → 63 ≤ p → Stops n p s left inside (statement ∷ []) (w ∷ ws) Many (w ∷ ws)
      set_many a h m k x = charges_word statement w.token set_register _ w refl (letter_found w.token r l) ws m k Many (set_charge m k true _ x a (statement_many (becomes ∷ operand ∷ more ∷ semicolon ∷ k) m p x.read h))

      set_begins : allowed s w.token ≡ true → p < 63 → (m : Memo) (k : List Item) → Place n p s left inside m k → reads (w ∷ ws) m (statement ∷ k) ≡ reads ws (with_parts m (suc p)) (becomes ∷ operand ∷ more ∷ semicolon ∷ k)
      set_begins a h m k x =
          takes_word statement w.token set_register (becomes ∷ operand ∷ more ∷ semicolon ∷ []) w refl (letter_found w.token r l) ws m (with_parts m (suc p)) k
          (set_charge m k true _ x a (statement_fine (becomes ∷ operand ∷ more ∷ semicolon ∷ k) m p x.read h (let y = x.nested in omega arith)))

      pub set_sign : allowed s w.token ≡ true → p < 63 → Unlike Set ws → Stops n p s left inside (statement ∷ []) (w ∷ ws) (cause_of ws) ws
      set_sign a h u m k x = set_begins a h m k x ∙ sign_stops becomes Set refl refl ws u (with_parts m (suc p)) (operand ∷ more ∷ semicolon ∷ k)

      set_after : allowed s w.token ≡ true → p < 63 → (ws₁ : List Word) → Skipped Set ws ws₁ → (m : Memo) (k : List Item) → Place n p s left inside m k
          → reads (w ∷ ws) m (statement ∷ k) ≡ reads ws₁ (with_parts m (suc p)) (operand ∷ more ∷ semicolon ∷ k)
      set_after a h ws₁ b m k x = set_begins a h m k x ∙ sign_goes becomes Set refl ws ws₁ b (with_parts m (suc p)) (operand ∷ more ∷ semicolon ∷ k) (let y = x.nested in omega arith)

      pub set_sum : allowed s w.token ≡ true → p < 63 → (ws₁ : List Word) → Skipped Set ws ws₁ → (c : Cause) (v : List Word) → ExpressionStops n s left (operand ∷ more ∷ []) ws₁ c v
          → Stops n p s left inside (statement ∷ []) (w ∷ ws) c v
      set_sum a h ws₁ b c v f m k x = set_after a h ws₁ b m k x ∙ f (with_parts m (suc p)) (semicolon ∷ k) (here m k x)

      set_summed : allowed s w.token ≡ true → p < 63 → (ws₁ ws₂ : List Word) (n' : ℕ) → Skipped Set ws ws₁ → ExpressionGoes n s left (operand ∷ more ∷ []) ws₁ ws₂ n' → (m : Memo) (k : List Item) → Place n p s left inside m k
          → reads (w ∷ ws) m (statement ∷ k) ≡ reads ws₂ (counting (with_parts m (suc p)) n') (semicolon ∷ k)
      set_summed a h ws₁ ws₂ n' b g m k x = set_after a h ws₁ b m k x ∙ g (with_parts m (suc p)) (semicolon ∷ k) (here m k x)

      pub set_end : allowed s w.token ≡ true → p < 63 → (ws₁ ws₂ : List Word) (n' : ℕ) → Skipped Set ws ws₁ → ExpressionGoes n s left (operand ∷ more ∷ []) ws₁ ws₂ n' → Unlike Semicolon ws₂
          → Stops n p s left inside (statement ∷ []) (w ∷ ws) (cause_of ws₂) ws₂
      set_end a h ws₁ ws₂ n' b g u m k x = set_summed a h ws₁ ws₂ n' b g m k x ∙ sign_stops semicolon Semicolon refl refl ws₂ u (counting (with_parts m (suc p)) n') k

      pub set_goes : allowed s w.token ≡ true → p < 63 → (ws₁ ws₂ ws₃ : List Word) (n' : ℕ) → Skipped Set ws ws₁ → ExpressionGoes n s left (operand ∷ more ∷ []) ws₁ ws₂ n' → Skipped Semicolon ws₂ ws₃
          → Goes n p s left inside (statement ∷ []) (w ∷ ws) ws₃ n' (suc p)
      set_goes a h ws₁ ws₂ ws₃ n' b g d m k x = set_summed a h ws₁ ws₂ n' b g m k x ∙ sign_goes semicolon Semicolon refl ws₂ ws₃ d (counting (with_parts m (suc p)) n') k (room m k x)

    -- the memo with as many words counted as before
    same_count : (m : Memo) (k : List Item) → Place n p s left inside m k → (vs : List Word) (j : List Item) → reads vs (with_parts m (suc p)) j ≡ reads vs (with_parts (counting m n) (suc p)) j
    same_count m k x vs j = ap (λ c. reads vs (with_parts (counting m c) (suc p)) j) x.counted

    -- ---- ;
    pub pass_many : w.token ≡ Semicolon → 63 ≤ p → Stops n p s left inside (statement ∷ []) (w ∷ ws) Many (w ∷ ws)
    pass_many e h = labelled_many Semicolon [] e (λ q. refl) h

    pub pass_goes : w.token ≡ Semicolon → p < 63 → Goes n p s left inside (statement ∷ []) (w ∷ ws) ws n (suc p)
    pass_goes e h m k x = labelled_goes Semicolon [] e (λ q. refl) h m k x (room m k x) ∙ same_count m k x ws k

    -- ---- break ;
    break_charge : (m : Memo) (k : List Item) (b : Bool) (c : Charge Memo Cause) → Place n p s left inside m k → inside ≡ b → one_statement (semicolon ∷ k) m ≡ c → charge m breaks w (semicolon ∷ k) ≡ when (not b) Broken c
    break_charge m k b c x i e = ap (λ u. when (not u) Broken (one_statement (semicolon ∷ k) m)) (x.looped ∙ i) ∙ ap (when (not b) Broken) e

    pub break_outside : w.token ≡ Break → inside ≡ false → Stops n p s left inside (statement ∷ []) (w ∷ ws) Broken (w ∷ ws)
    break_outside e i m k x = charges_word statement Break breaks (semicolon ∷ []) w e (λ q. refl) ws m k Broken (break_charge m k false _ x i refl)

    pub break_many : w.token ≡ Break → inside ≡ true → 63 ≤ p → Stops n p s left inside (statement ∷ []) (w ∷ ws) Many (w ∷ ws)
    break_many e i h m k x = charges_word statement Break breaks (semicolon ∷ []) w e (λ q. refl) ws m k Many (break_charge m k true _ x i (statement_many (semicolon ∷ k) m p x.read h))

    break_begins : w.token ≡ Break → inside ≡ true → p < 63 → (m : Memo) (k : List Item) → Place n p s left inside m k → reads (w ∷ ws) m (statement ∷ k) ≡ reads ws (with_parts m (suc p)) (semicolon ∷ k)
    break_begins e i h m k x = takes_word statement Break breaks (semicolon ∷ []) w e (λ q. refl) ws m (with_parts m (suc p)) k (break_charge m k true _ x i (statement_fine (semicolon ∷ k) m p x.read h (let y = x.nested in omega arith)))

    pub break_end : w.token ≡ Break → inside ≡ true → p < 63 → Unlike Semicolon ws → Stops n p s left inside (statement ∷ []) (w ∷ ws) (cause_of ws) ws
    break_end e i h u m k x = break_begins e i h m k x ∙ sign_stops semicolon Semicolon refl refl ws u (with_parts m (suc p)) k

    pub break_goes : w.token ≡ Break → inside ≡ true → p < 63 → (rest : List Word) → Skipped Semicolon ws rest → Goes n p s left inside (statement ∷ []) (w ∷ ws) rest n (suc p)
    break_goes e i h rest d m k x = break_begins e i h m k x ∙ sign_goes semicolon Semicolon refl ws rest d (with_parts m (suc p)) k (room m k x) ∙ same_count m k x rest k

    -- ---- sense a ;
    sense_begins : w.token ≡ Sense → p < 63 → (m : Memo) (k : List Item) → Place n p s left inside m k → reads (w ∷ ws) m (statement ∷ k) ≡ reads ws (with_parts m (suc p)) (sensed ∷ semicolon ∷ k)
    sense_begins e h m k x = labelled_goes Sense (sensed ∷ semicolon ∷ []) e (λ q. refl) h m k x (let y = x.nested in omega arith)

    pub sense_many : w.token ≡ Sense → 63 ≤ p → Stops n p s left inside (statement ∷ []) (w ∷ ws) Many (w ∷ ws)
    sense_many e h = labelled_many Sense (sensed ∷ semicolon ∷ []) e (λ q. refl) h

    pub sense_none : w.token ≡ Sense → p < 63 → Quiet (rules_of sensed) ws → Stops n p s left inside (statement ∷ []) (w ∷ ws) (cause_of ws) ws
    sense_none e h q m k x = sense_begins e h m k x ∙ refuses sensed refl ws q (with_parts m (suc p)) (semicolon ∷ k)

    sensed_charge : (v : Word) (m : Memo) (k : List Item) (b : Bool) (c : Charge Memo Cause) → Place n p s left inside m k → allowed s v.token ≡ b → deep (semicolon ∷ k) (with_parts m (suc p)) ≡ c
        → charge (with_parts m (suc p)) sensed_register v (semicolon ∷ k) ≡ when (not b) Registered c
    sensed_charge v m k b c x a e = ap (λ u. when (not (allowed u v.token)) Registered (deep (semicolon ∷ k) (with_parts m (suc p)))) x.scoped ∙ ap (λ u. when (not u) Registered (deep (semicolon ∷ k) (with_parts m (suc p)))) a ∙ ap (when (not b) Registered) e

    module _ (v : Word) (vs : List Word) (r : Register) (l : Letter v.token r) (same : ws ≡ v ∷ vs) where
      pub sense_unknown : w.token ≡ Sense → p < 63 → allowed s v.token ≡ false → Stops n p s left inside (statement ∷ []) (w ∷ ws) Registered (v ∷ vs)
      sense_unknown e h a m k x = sense_begins e h m k x ∙ ap (λ y. reads y (with_parts m (suc p)) (sensed ∷ semicolon ∷ k)) same
          ∙ charges_word sensed v.token sensed_register [] v refl (letter_sensed v.token r l) vs (with_parts m (suc p)) (semicolon ∷ k) Registered (sensed_charge v m k false _ x a refl)

      sense_named : w.token ≡ Sense → p < 63 → allowed s v.token ≡ true → (m : Memo) (k : List Item) → Place n p s left inside m k → reads (w ∷ ws) m (statement ∷ k) ≡ reads vs (with_parts m (suc p)) (semicolon ∷ k)
      sense_named e h a m k x = sense_begins e h m k x ∙ ap (λ y. reads y (with_parts m (suc p)) (sensed ∷ semicolon ∷ k)) same
          ∙ takes_word sensed v.token sensed_register [] v refl (letter_sensed v.token r l) vs (with_parts m (suc p)) (with_parts m (suc p)) (semicolon ∷ k)
          (sensed_charge v m k true _ x a (not_deep (semicolon ∷ k) (with_parts m (suc p)) (let y = x.nested in omega arith)))

      pub sense_end : w.token ≡ Sense → p < 63 → allowed s v.token ≡ true → Unlike Semicolon vs → Stops n p s left inside (statement ∷ []) (w ∷ ws) (cause_of vs) vs
      sense_end e h a u m k x = sense_named e h a m k x ∙ sign_stops semicolon Semicolon refl refl vs u (with_parts m (suc p)) k

      pub sense_goes : w.token ≡ Sense → p < 63 → allowed s v.token ≡ true → (rest : List Word) → Skipped Semicolon vs rest → Goes n p s left inside (statement ∷ []) (w ∷ ws) rest n (suc p)
      sense_goes e h a rest d m k x = sense_named e h a m k x ∙ sign_goes semicolon Semicolon refl vs rest d (with_parts m (suc p)) k (room m k x) ∙ same_count m k x rest k

    -- ---- if ( B ) S, and while ( B ) S
    module _ (t : Token) (e : w.token ≡ t) (c : Item) (f : Found t labelled (guard ∷ statement ∷ c ∷ [])) (o : opens c ≡ 1) where
      pub part_many : 63 ≤ p → Stops n p s left inside (statement ∷ []) (w ∷ ws) Many (w ∷ ws)
      part_many h = labelled_many t (guard ∷ statement ∷ c ∷ []) e f h

      pub part_deep : p < 63 → left ≡ 0 → Stops n p s left inside (statement ∷ []) (w ∷ ws) Deep (w ∷ ws)
      part_deep h z = labelled_deep t (guard ∷ statement ∷ c ∷ []) e f h (opened c o) z

      inner : (m : Memo) (k : List Item) (left' : ℕ) → suc left' ≡ left → Place n p s left inside m k → Here n s left' (with_parts m (suc p)) (statement ∷ c ∷ k)
      inner m k left' l x = record { counted = x.counted; scoped = x.scoped; nested = let h = x.nested in let y = o in omega arith }

      part_begins : p < 63 → {left' : ℕ} → suc left' ≡ left → (m : Memo) (k : List Item) → Place n p s left inside m k → reads (w ∷ ws) m (statement ∷ k) ≡ reads ws (with_parts m (suc p)) (guard ∷ statement ∷ c ∷ k)
      part_begins h l m k x = labelled_goes t (guard ∷ statement ∷ c ∷ []) e f h m k x (let y = x.nested in let u = opened c o k in omega arith)

      pub part_guard : p < 63 → {left' : ℕ} → suc left' ≡ left → (d : Cause) (v : List Word) → ExpressionStops n s left' (guard ∷ []) ws d v → Stops n p s left inside (statement ∷ []) (w ∷ ws) d v
      part_guard h l d v g m k x = part_begins h l m k x ∙ g (with_parts m (suc p)) (statement ∷ c ∷ k) (inner m k _ l x)

      module _ (inside' : Bool) (loops : (k : List Item) → in_loop k ≡ inside → in_loop (c ∷ k) ≡ inside') (n₁ : ℕ) (ws₁ : List Word) (h : p < 63) {left' : ℕ} (l : suc left' ≡ left) (g : ExpressionGoes n s left' (guard ∷ []) ws ws₁ n₁) where
        part_place : (m : Memo) (k : List Item) → Place n p s left inside m k → Place n₁ (suc p) s left' inside' (counting (with_parts m (suc p)) n₁) (c ∷ k)
        part_place m k x = record { counted = refl; read = refl; scoped = x.scoped; nested = (let y = x.nested in let u = o in omega arith); looped = loops k x.looped }

        part_guarded : (m : Memo) (k : List Item) → Place n p s left inside m k → reads (w ∷ ws) m (statement ∷ k) ≡ reads ws₁ (counting (with_parts m (suc p)) n₁) (statement ∷ c ∷ k)
        part_guarded m k x = part_begins h l m k x ∙ g (with_parts m (suc p)) (statement ∷ c ∷ k) (inner m k _ l x)

        pub part_first : (d : Cause) (v : List Word) → Stops n₁ (suc p) s left' inside' (statement ∷ []) ws₁ d v → Stops n p s left inside (statement ∷ []) (w ∷ ws) d v
        part_first d v z m k x = part_guarded m k x ∙ z (counting (with_parts m (suc p)) n₁) (c ∷ k) (part_place m k x)

        part_read : (n₂ p₂ : ℕ) (ws₂ : List Word) → Goes n₁ (suc p) s left' inside' (statement ∷ []) ws₁ ws₂ n₂ p₂ → (m : Memo) (k : List Item) → Place n p s left inside m k
            → reads (w ∷ ws) m (statement ∷ k) ≡ reads ws₂ (with_parts (counting m n₂) p₂) (c ∷ k)
        part_read n₂ p₂ ws₂ z m k x = part_guarded m k x ∙ z (counting (with_parts m (suc p)) n₁) (c ∷ k) (part_place m k x)

        -- what is left out at its end
        pub part_goes : optional c ≡ true → (n₂ p₂ : ℕ) (ws₂ : List Word) → Quiet (rules_of c) ws₂ → Goes n₁ (suc p) s left' inside' (statement ∷ []) ws₁ ws₂ n₂ p₂ → Goes n p s left inside (statement ∷ []) (w ∷ ws) ws₂ n₂ p₂
        part_goes q n₂ p₂ ws₂ u z m k x = part_read n₂ p₂ ws₂ z m k x ∙ leaves_out c q ws₂ u (with_parts (counting m n₂) p₂) k

-- ---- else
module _ {n p : ℕ} {s : Scope} {left : ℕ} {inside : Bool} (w : Word) (ws : List Word) (e : w.token ≡ If) (n₁ : ℕ) (ws₁ : List Word) (h : p < 63) {left' : ℕ} (l : suc left' ≡ left)
    (g : ExpressionGoes n s left' (guard ∷ []) ws ws₁ n₁) (n₂ p₂ : ℕ) (v : Word) (ws₂ : List Word) (f : v.token ≡ Else)
    (z : Goes n₁ (suc p) s left' inside (statement ∷ []) ws₁ (v ∷ ws₂) n₂ p₂) where
  else_begins : (m : Memo) (k : List Item) → Place n p s left inside m k → reads (w ∷ ws) m (statement ∷ k) ≡ reads ws₂ (with_parts (counting m n₂) p₂) (statement ∷ end_if ∷ k)
  else_begins m k x =
      part_read w ws If e other (λ q. refl) refl inside (λ k i. i) n₁ ws₁ h l g n₂ p₂ (v ∷ ws₂) z m k x
      ∙ takes_word other Else plain (statement ∷ end_if ∷ []) v f (λ q. refl) ws₂ (with_parts (counting m n₂) p₂) (with_parts (counting m n₂) p₂) k (not_deep (statement ∷ end_if ∷ k) (with_parts (counting m n₂) p₂) (let y = x.nested in omega arith))

  else_place : (m : Memo) (k : List Item) → Place n p s left inside m k → Place n₂ p₂ s left' inside (with_parts (counting m n₂) p₂) (end_if ∷ k)
  else_place m k x = record { counted = refl; read = refl; scoped = x.scoped; nested = (let y = x.nested in omega arith); looped = x.looped }

  pub else_stops : (d : Cause) (u : List Word) → Stops n₂ p₂ s left' inside (statement ∷ []) ws₂ d u → Stops n p s left inside (statement ∷ []) (w ∷ ws) d u
  else_stops d u y m k x = else_begins m k x ∙ y (with_parts (counting m n₂) p₂) (end_if ∷ k) (else_place m k x)

  pub else_goes : (n₃ p₃ : ℕ) (ws₃ : List Word) → Goes n₂ p₂ s left' inside (statement ∷ []) ws₂ ws₃ n₃ p₃ → Goes n p s left inside (statement ∷ []) (w ∷ ws) ws₃ n₃ p₃
  else_goes n₃ p₃ ws₃ y m k x = else_begins m k x ∙ y (with_parts (counting m n₂) p₂) (end_if ∷ k) (else_place m k x) ∙ leaves_out end_if refl ws₃ (quiet ws₃) (with_parts (counting m n₃) p₃) k
    where
      quiet : (vs : List Word) → Quiet (rules_of end_if) vs
      quiet [] = tt
      quiet (q ∷ vs) = refl

-- ---- lists of statements
-- the lines of statements, whatever is owed behind them
abbrev shifted : List Item → Step Item Role → Step Item Role
shifted k stuck = stuck
shifted k (takes r js) = takes r (js ++ k)

shift_line : (b : Bool) (r : Role) (js k : List Item) (x y : Step Item Role) → x ≡ shifted k y → cond b (takes r (js ++ k)) x ≡ shifted k (cond b (takes r js) y)
shift_line true r js k x y e = refl
shift_line false r js k x y e = e

shift_find : (k : List Item) (w : Word) → find (statement_lines k) w ≡ shifted k (find (statement_lines []) w)
shift_find k w =
    shift_line (at (Current Rattle.text.specs.declared.word.Register.TheVariants.A) w) set_register (becomes ∷ operand ∷ more ∷ semicolon ∷ []) k _ _
    (shift_line (at Sense w) labelled (sensed ∷ semicolon ∷ []) k _ _
    (shift_line (at Semicolon w) labelled [] k _ _
    (shift_line (at If w) labelled (guard ∷ statement ∷ other ∷ []) k _ _
    (shift_line (at While w) labelled (guard ∷ statement ∷ end_while ∷ []) k _ _
    (shift_line (at Break w) breaks (semicolon ∷ []) k _ _
    (shift_line (at OpenBrace w) plain (block ∷ []) k stuck stuck refl))))))

block_next : (y : Step Item Role) (k : List Item) (b c : Step Item Role) → next (shifted (block ∷ []) y) false k b ≡ next y false (block ∷ k) c
block_next stuck k b c = refl
block_next (takes r js) k b c = ap (takes r) (append_assoc js (block ∷ []) k)

text_next : (y : Step Item Role) (c : Step Item Role) → next (shifted (statements ∷ []) y) true [] stuck ≡ next y false (statements ∷ []) c
text_next stuck c = refl
text_next (takes r js) c = ap (takes r) (append-nil (js ++ statements ∷ []))

reads_fed : (w : Word) (ws : List Word) (m : Memo) (k j : List Item) → feed table k w ≡ feed table j w → reads (w ∷ ws) m k ≡ reads (w ∷ ws) m j
unfolding reading
reads_fed w ws m k j e = ap (stepping causes w ws (reading table causes ws) m) e

block_opens : (k : List Item) → Opens (block ∷ k)
block_opens k w ws m e =
    reads_fed w ws m (block ∷ k) (statement ∷ block ∷ k)
    (ap (λ y. next y false k (feed table k w)) (find_later (line (at CloseBrace) plain []) (statement_lines (block ∷ [])) w e ∙ shift_find (block ∷ []) w) ∙ block_next (find (statement_lines []) w) k _ _)

pub text_opens : Opens (statements ∷ [])
text_opens w ws m e = reads_fed w ws m (statements ∷ []) (statement ∷ statements ∷ []) (ap (λ y. next y true [] stuck) (shift_find (statements ∷ []) w) ∙ text_next (find (statement_lines []) w) _)

-- ---- { and }
module _ {n p : ℕ} {s : Scope} {left : ℕ} {inside : Bool} (w : Word) (ws : List Word) (e : w.token ≡ OpenBrace) where
  pub brace_deep : left ≡ 0 → Stops n p s left inside (statement ∷ []) (w ∷ ws) Deep (w ∷ ws)
  brace_deep z m k x = charges_word statement OpenBrace plain (block ∷ []) w e (λ q. refl) ws m k Deep (too_deep (block ∷ k) m (let y = x.nested in omega arith))

  brace_begins : {left' : ℕ} → suc left' ≡ left → (m : Memo) (k : List Item) → Place n p s left inside m k → reads (w ∷ ws) m (statement ∷ k) ≡ reads ws m (block ∷ k)
  brace_begins l m k x = takes_word statement OpenBrace plain (block ∷ []) w e (λ q. refl) ws m m k (not_deep (block ∷ k) m (let y = x.nested in omega arith))

  brace_place : {left' : ℕ} → suc left' ≡ left → (m : Memo) (k : List Item) → Place n p s left inside m k → Place n p s left' inside m (block ∷ k)
  brace_place l m k x = record { counted = x.counted; read = x.read; scoped = x.scoped; nested = (let y = x.nested in omega arith); looped = x.looped }

  -- what is inside is read where the block is owed
  pub brace_stops : {left' : ℕ} → suc left' ≡ left → (d : Cause) (v : List Word) → ((m : Memo) (k : List Item) → Opens k → Place n p s left' inside m k → reads ws m k ≡ fault d v) → Stops n p s left inside (statement ∷ []) (w ∷ ws) d v
  brace_stops l d v z m k x = brace_begins l m k x ∙ z m (block ∷ k) (block_opens k) (brace_place l m k x)

  module _ {left' : ℕ} (l : suc left' ≡ left) (n' p' : ℕ) (ws' : List Word) (z : (m : Memo) (k : List Item) → Opens k → Place n p s left' inside m k → reads ws m k ≡ reads ws' (with_parts (counting m n') p') k) where
    brace_inside : (m : Memo) (k : List Item) → Place n p s left inside m k → reads (w ∷ ws) m (statement ∷ k) ≡ reads ws' (with_parts (counting m n') p') (block ∷ k)
    brace_inside m k x = brace_begins l m k x ∙ z m (block ∷ k) (block_opens k) (brace_place l m k x)

    pub brace_end : ws' ≡ [] → Stops n p s left inside (statement ∷ []) (w ∷ ws) (cause_of ws') ws'
    brace_end q m k x = brace_inside m k x ∙ refuses block refl ws' (subst (Quiet (rules_of block)) (sym q) tt) (with_parts (counting m n') p') k

    pub brace_goes : (rest : List Word) → Skipped CloseBrace ws' rest → Goes n p s left inside (statement ∷ []) (w ∷ ws) rest n' p'
    brace_goes rest b m k x = brace_inside m k x ∙ ap (λ y. reads y (with_parts (counting m n') p') (block ∷ k)) b.1
        ∙ takes_word block CloseBrace plain [] b.0 (is_token b.0.token CloseBrace (lit≤ tt) refl b.2) (λ q. refl) rest (with_parts (counting m n') p') (with_parts (counting m n') p') k (not_deep k (with_parts (counting m n') p') (let y = x.nested in omega arith))
