-- One word of reading by the table, in the forms that the proofs of readers use. Assumes nothing.
use Rattle.std.proofs.Common.{◌≡◌, ℕ, suc, ◌-◌, ◌<◌, ◌≤◌, Bool, true, false, cond, not, List, [], ◌∷◌, ◌++◌, sym, refl, ap, ◌∙◌, arith, lit≤, le-ltb, lt-ltb}
use borrow.Author.Tests.{clash}
use Rattle.grammar.specs.Grammars.{Step, stuck, takes, find, Quiet}
use Rattle.grammar.specs.Answers.{next, feed, leaves, fine, charged, fault, stepping, reading}
use Rattle.grammar.proofs.Steps.{feed_takes, feed_stuck, reading_takes, reading_charged, reading_stuck, reading_ended, reading_without}
use Rattle.model.specs.declared.refusal.Cause.{Cause}
use Rattle.model.specs.declared.refusal.Cause.TheVariants.{Many, Deep, Number as Numbered, Register as Registered}
use Rattle.text.specs.declared.word.Register.{Register}
use Rattle.text.specs.declared.word.Token.{Token}
use Rattle.text.specs.declared.word.Token.TheVariants.{Number, Current, Initial, True, OpenParen, OpenBracket}
use Rattle.text.specs.declared.word.Word.{Word}
use Rattle.text.specs.declared.word.Scope.{Scope}
use Rattle.text.specs.Words.{at, a_number, a_register, amount, allowed}
use Rattle.text.specs.Table.{Role, plain, counted, operand_number, operand_register, Item, operand, more, one_test, joined, comparison, close_paren, close_bracket, rules_of, optional, table, line}
use Rattle.text.specs.Charges.{Memo, causes, charge, when, deep, one_word, counting, opens, open_in}
use Rattle.text.specs.Derivations.{Free}
use Rattle.text.specs.Reading.{reads, Here, Goes, Stops, cause_of, Skipped, Unlike}
use Rattle.text.proofs.Tests.{other_kind, no_number, no_register}
use Rattle.text.proofs.Derived.{find_at}

-- the item takes the word, and nothing is charged
pub takes_word : (i : Item) (t : Token) (r : Role) (js : List Item) (w : Word) → w.token ≡ t → ((p : ℕ) → find (rules_of i) (record { token = t; place = p }) ≡ takes r js) → (ws : List Word) (m n : Memo) (k : List Item) → charge m r w (js ++ k) ≡ fine n → reads (w ∷ ws) m (i ∷ k) ≡ reads ws n (js ++ k)
takes_word i t r js w e h ws m n k c = reading_takes table causes w ws m n (i ∷ k) (js ++ k) r (feed_takes table i k w r js (find_at i w t e ∙ h w.place)) c

-- the item takes the word, which is charged
pub charges_word : (i : Item) (t : Token) (r : Role) (js : List Item) (w : Word) → w.token ≡ t → ((p : ℕ) → find (rules_of i) (record { token = t; place = p }) ≡ takes r js) → (ws : List Word) (m : Memo) (k : List Item) (c : Cause) → charge m r w (js ++ k) ≡ charged c → reads (w ∷ ws) m (i ∷ k) ≡ fault c (w ∷ ws)
charges_word i t r js w e h ws m k c d = reading_charged table causes w ws m (i ∷ k) (js ++ k) r c (feed_takes table i k w r js (find_at i w t e ∙ h w.place)) d

-- an item that must stand here, and no line of it fits
pub refuses : (i : Item) → optional i ≡ false → (ws : List Word) → Quiet (rules_of i) ws → (m : Memo) (k : List Item) → reads ws m (i ∷ k) ≡ fault (cause_of ws) ws
refuses i o [] q m k = reading_ended table causes m (i ∷ k) (ap (λ b. mathlib.Core.Bool.◌&&◌ b (leaves table k)) o)
refuses i o (w ∷ ws) q m k = reading_stuck table causes w ws m (i ∷ k) (feed_stuck table i k w o q)

-- an item that may be left out, and no line of it fits
pub leaves_out : (i : Item) → optional i ≡ true → (ws : List Word) → Quiet (rules_of i) ws → (m : Memo) (k : List Item) → reads ws m (i ∷ k) ≡ reads ws m k
leaves_out i o ws q m k = reading_without table causes ws m i k o q

-- nothing is too deep
pub not_deep : (k : List Item) (m : Memo) → open_in k ≤ 16 → deep k m ≡ fine m
not_deep k m h = ap (λ b. when b Deep (fine m)) (le-ltb 16 (open_in k) h)

pub too_deep : (k : List Item) (m : Memo) → 16 < open_in k → deep k m ≡ charged Deep
too_deep k m h = ap (λ b. when b Deep (fine m)) (lt-ltb 16 (open_in k) h)

pub word_fine : (k : List Item) (m : Memo) → m.counter < 256 → open_in k ≤ 16 → one_word k m ≡ fine (counting m (suc m.counter))
word_fine k m h d = ap (λ b. when b Many (deep k (counting m (suc m.counter)))) (le-ltb 256 (suc m.counter) (omega arith)) ∙ not_deep k (counting m (suc m.counter)) d

pub word_many : (k : List Item) (m : Memo) → 256 ≤ m.counter → one_word k m ≡ charged Many
word_many k m h = ap (λ b. when b Many (deep k (counting m (suc m.counter)))) (lt-ltb 256 (suc m.counter) (omega arith))

-- an item that is paid off by one sign
pub sign_goes : (i : Item) (t : Token) → rules_of i ≡ (line (at t) plain [] ∷ []) → (ws rest : List Word) → Skipped t ws rest → (m : Memo) (k : List Item) → open_in k ≤ 16 → reads ws m (i ∷ k) ≡ reads rest m k
sign_goes i t same ws rest s m k d = ap (λ x. reads x m (i ∷ k)) s.1 ∙ reading_takes table causes s.0 rest m m (i ∷ k) k plain (feed_takes table i k s.0 plain [] (ap (λ ls. find ls s.0) same ∙ ap (λ b. cond b (takes plain []) stuck) s.2)) (not_deep k m d)

quiet_sign : (i : Item) (t : Token) → rules_of i ≡ (line (at t) plain [] ∷ []) → (ws : List Word) → Unlike t ws → Quiet (rules_of i) ws
quiet_sign i t same [] u = tt
quiet_sign i t same (w ∷ ws) u = ap (λ ls. find ls w) same ∙ ap (λ b. cond b (takes plain []) stuck) u

pub sign_stops : (i : Item) (t : Token) → rules_of i ≡ (line (at t) plain [] ∷ []) → optional i ≡ false → (ws : List Word) → Unlike t ws → (m : Memo) (k : List Item) → reads ws m (i ∷ k) ≡ fault (cause_of ws) ws
sign_stops i t same o ws u m k = refuses i o ws (quiet_sign i t same ws u) m k

-- Brackets round what is owed: the item i takes the opening sign and owes js and then the item c, which takes the closing one.
module _ (i c : Item) (o t : Token) (js : List Item) (n n' left : ℕ) (s : Scope)
    (opening : (p : ℕ) → find (rules_of i) (record { token = o; place = p }) ≡ takes plain (js ++ c ∷ []))
    (flat : (k : List Item) → open_in ((js ++ c ∷ []) ++ k) ≡ suc (open_in k))
    (order : (k : List Item) → (js ++ c ∷ []) ++ k ≡ js ++ c ∷ k)
    (closes : rules_of c ≡ (line (at t) plain [] ∷ []))
    (must : optional c ≡ false)
    (counts : opens c ≡ 1) where
  deeper : (m : Memo) (k : List Item) → 0 < left → Here n s left m k → Here n s (left - 1) m (c ∷ k)
  deeper m k l h = record { counted = h.counted; scoped = h.scoped; nested = let x = h.nested in let y = counts in omega arith }

  opened : (w : Word) → w.token ≡ o → (ws : List Word) (m : Memo) (k : List Item) → 0 < left → Here n s left m k → reads (w ∷ ws) m (i ∷ k) ≡ reads ws m (js ++ c ∷ k)
  opened w e ws m k l h = takes_word i o plain (js ++ c ∷ []) w e opening ws m m k (not_deep _ m (let x = h.nested in let y = flat k in omega arith)) ∙ ap (reads ws m) (order k)

  pub bracket_goes : (w : Word) → w.token ≡ o → (ws mid rest : List Word) → 0 < left → Goes n s (left - 1) js ws mid n' → Skipped t mid rest → Goes n s left (i ∷ []) (w ∷ ws) rest n'
  bracket_goes w e ws mid rest l g k' m k h = opened w e ws m k l h ∙ g m (c ∷ k) (deeper m k l h) ∙ sign_goes c t closes mid rest k' (counting m n') k (let x = h.nested in omega arith)

  pub bracket_deep : (w : Word) → w.token ≡ o → (ws : List Word) → left ≡ 0 → Stops n s left (i ∷ []) (w ∷ ws) Deep (w ∷ ws)
  bracket_deep w e ws l m k h = charges_word i o plain (js ++ c ∷ []) w e opening ws m k Deep (too_deep _ m (let x = h.nested in let y = flat k in omega arith))

  pub bracket_inner : (w : Word) → w.token ≡ o → (ws : List Word) (x : Cause) (v : List Word) → 0 < left → Stops n s (left - 1) js ws x v → Stops n s left (i ∷ []) (w ∷ ws) x v
  bracket_inner w e ws x v l g m k h = opened w e ws m k l h ∙ g m (c ∷ k) (deeper m k l h)

  pub bracket_open : (w : Word) → w.token ≡ o → (ws mid : List Word) → 0 < left → Goes n s (left - 1) js ws mid n' → Unlike t mid → Stops n s left (i ∷ []) (w ∷ ws) (cause_of mid) mid
  bracket_open w e ws mid l g u m k h = opened w e ws m k l h ∙ g m (c ∷ k) (deeper m k l h) ∙ sign_stops c t closes must mid u (counting m n') k

-- what is counted in an expression, at an item that is paid off by the word alone or owes no bracket
module _ (n : ℕ) (s : Scope) (left : ℕ) (i : Item) (t : Token) (js : List Item) (w : Word) (e : w.token ≡ t) (flat : (k : List Item) → open_in (js ++ k) ≡ open_in k) where
  pub counted_goes : ((p : ℕ) → find (rules_of i) (record { token = t; place = p }) ≡ takes counted js) → n < 256 → (ws : List Word) (m : Memo) (k : List Item) → Here n s left m k → reads (w ∷ ws) m (i ∷ k) ≡ reads ws (counting m (suc n)) (js ++ k)
  counted_goes f l ws m k h = takes_word i t counted js w e f ws m (counting m (suc n)) k (word_fine (js ++ k) m (let x = h.counted in omega arith) (let x = h.nested in let y = flat k in omega arith) ∙ ap (λ y. fine (counting m (suc y))) h.counted)

  pub counted_many : ((p : ℕ) → find (rules_of i) (record { token = t; place = p }) ≡ takes counted js) → 256 ≤ n → (ws : List Word) (m : Memo) (k : List Item) → Here n s left m k → reads (w ∷ ws) m (i ∷ k) ≡ fault Many (w ∷ ws)
  counted_many f l ws m k h = charges_word i t counted js w e f ws m k Many (word_many (js ++ k) m (let x = h.counted in omega arith))

-- a number as an operand
module _ (n : ℕ) (s : Scope) (left : ℕ) (w : Word) (v : ℕ) (e : w.token ≡ Number v) (ws : List Word) where
  pub number_goes : v ≤ 1000 → n < 256 → Goes n s left (operand ∷ []) (w ∷ ws) ws (suc n)
  number_goes small l m k h = takes_word operand (Number v) operand_number [] w e (λ p. refl) ws m (counting m (suc n)) k (ap (λ b. when b Numbered (one_word k m)) (le-ltb 1000 (amount w.token) (let y = ap amount e in omega arith)) ∙ word_fine k m (let x = h.counted in omega arith) (let x = h.nested in omega arith) ∙ ap (λ y. fine (counting m (suc y))) h.counted)

  pub number_large : 1000 < v → Stops n s left (operand ∷ []) (w ∷ ws) Numbered (w ∷ ws)
  number_large big m k h = charges_word operand (Number v) operand_number [] w e (λ p. refl) ws m k Numbered (ap (λ b. when b Numbered (one_word k m)) (lt-ltb 1000 (amount w.token) (let y = ap amount e in omega arith)))

  pub number_many : v ≤ 1000 → 256 ≤ n → Stops n s left (operand ∷ []) (w ∷ ws) Many (w ∷ ws)
  number_many small l m k h = charges_word operand (Number v) operand_number [] w e (λ p. refl) ws m k Many (ap (λ b. when b Numbered (one_word k m)) (le-ltb 1000 (amount w.token) (let y = ap amount e in omega arith)) ∙ word_many k m (let x = h.counted in omega arith))

-- a register as an operand
module _ (n : ℕ) (s : Scope) (left : ℕ) (w : Word) (t : Token) (e : w.token ≡ t) (found : (p : ℕ) → find (rules_of operand) (record { token = t; place = p }) ≡ takes operand_register []) (ws : List Word) where
  letter_is : (m : Memo) (k : List Item) (b : Bool) → Here n s left m k → allowed s t ≡ b → allowed m.scope w.token ≡ b
  letter_is m k b h a = ap (λ x. allowed x w.token) h.scoped ∙ ap (allowed s) e ∙ a

  pub register_goes : allowed s t ≡ true → n < 256 → Goes n s left (operand ∷ []) (w ∷ ws) ws (suc n)
  register_goes a l m k h = takes_word operand t operand_register [] w e found ws m (counting m (suc n)) k (ap (λ b. when (not b) Registered (one_word k m)) (letter_is m k true h a) ∙ word_fine k m (let x = h.counted in omega arith) (let x = h.nested in omega arith) ∙ ap (λ y. fine (counting m (suc y))) h.counted)

  pub register_unknown : allowed s t ≡ false → Stops n s left (operand ∷ []) (w ∷ ws) Registered (w ∷ ws)
  register_unknown a m k h = charges_word operand t operand_register [] w e found ws m k Registered (ap (λ b. when (not b) Registered (one_word k m)) (letter_is m k false h a))

  pub register_many : allowed s t ≡ true → 256 ≤ n → Stops n s left (operand ∷ []) (w ∷ ws) Many (w ∷ ws)
  register_many a l m k h = charges_word operand t operand_register [] w e found ws m k Many (ap (λ b. when (not b) Registered (one_word k m)) (letter_is m k true h a) ∙ word_many k m (let x = h.counted in omega arith))

-- a test that begins with no `true` and no `[` begins with an operand
pub test_as_sum : (ws : List Word) → Free (True ∷ OpenBracket ∷ []) ws → (m : Memo) (k : List Item) → reads ws m (one_test ∷ k) ≡ reads ws m (operand ∷ more ∷ comparison ∷ operand ∷ more ∷ k)
unfolding reading
test_as_sum [] f m k = refl
test_as_sum (w ∷ ws) f m k = ap (stepping causes w ws (reading table causes ws) m) (ways (at True w) (at OpenBracket w) (a_number w) (a_register w) (at OpenParen w) (other_kind w.token True (lit≤ tt) refl f.0) (other_kind w.token OpenBracket (lit≤ tt) refl f.1.0))
  where
    lines : Bool → Bool → Bool → Bool → Bool → Step Item Role
    lines p q a b c = cond p (takes counted []) (cond q (takes plain (one_test ∷ joined ∷ close_bracket ∷ [])) (cond a (takes operand_number (more ∷ comparison ∷ operand ∷ more ∷ [])) (cond b (takes operand_register (more ∷ comparison ∷ operand ∷ more ∷ [])) (cond c (takes plain (operand ∷ more ∷ close_paren ∷ more ∷ comparison ∷ operand ∷ more ∷ [])) stuck))))

    ways : (p q a b c : Bool) → p ≡ false → q ≡ false → next (lines p q a b c) false k (feed table k w) ≡ next (cond a (takes operand_number []) (cond b (takes operand_register []) (cond c (takes plain (operand ∷ more ∷ close_paren ∷ [])) stuck))) false (more ∷ comparison ∷ operand ∷ more ∷ k) (feed table (more ∷ comparison ∷ operand ∷ more ∷ k) w)
    ways true q a b c e h = absurd (clash (sym e))
    ways false true a b c e h = absurd (clash (sym h))
    ways false false true b c e h = refl
    ways false false false true c e h = refl
    ways false false false false true e h = refl
    ways false false false false false e h = refl

-- no line of an operand fits
pub quiet_operand : (w : Word) (ws : List Word) → ((n : ℕ) → w.token ≡ Number n → ⊥) → ((r : Register) → w.token ≡ Current r → ⊥) → ((r : Register) → w.token ≡ Initial r → ⊥) → (w.token ≡ OpenParen → ⊥) → Quiet (rules_of operand) (w ∷ ws)
quiet_operand w ws a b c d = ap (λ x. cond x (takes operand_number []) (find (line a_register operand_register [] ∷ line (at OpenParen) plain (operand ∷ more ∷ close_paren ∷ []) ∷ []) w)) (no_number w.token a) ∙ ap (λ x. cond x (takes operand_register []) (find (line (at OpenParen) plain (operand ∷ more ∷ close_paren ∷ []) ∷ []) w)) (no_register w.token b c) ∙ ap (λ x. cond x (takes plain (operand ∷ more ∷ close_paren ∷ [])) stuck) (other_kind w.token OpenParen (lit≤ tt) refl d)
