-- Labels as bits, and reading them by the table. Assumes nothing.
use Rattle.std.proofs.Common.{bit_or, ◌≡◌, ◌≢◌, ℕ, max, ◌^◌, ◌<◌, ◌≤◌, Bool, true, false, cond, eqb, ◌⊎◌, List, [], ◌∷◌, ◌++◌, sym, refl, ap, ◌∙◌, subst, inl, inr, arith, lit≤, le-ltb, lt-ltb, eq-eqb, ne_eqb}
use Rattle.std.specs.Int.{bit_at}
use Rattle.std.proofs.lemmas.Nat.Bits.{bit_at-zero, bit_at-lt, bit_at_or, bit_at_ones, bit_at-pow_same, bit_at-pow_other}
use Rattle.std.proofs.lemmas.Bool.{cases_eq}
use Rattle.std.proofs.lemmas.Bool.Decides.{nat_tests}
use Rattle.grammar.specs.Grammars.{stuck, takes, find, Quiet}
use Rattle.grammar.specs.Answers.{fault}
use Rattle.model.specs.declared.refusal.Cause.TheVariants.{Number as Numbered}
use Rattle.text.specs.declared.reading.Fault.{Fault}
use Rattle.text.specs.declared.word.Token.TheVariants.{Number, Comma as CommaToken, Question}
use Rattle.text.specs.declared.word.Word.{Word}
use Rattle.text.specs.declared.word.Token.{Token}
use Rattle.text.specs.Words.{amount, a_number, kind}
use Rattle.text.specs.Table.{Item, label, more_labels, label_set, labels, plain, rules_of, line}
use Rattle.text.specs.Charges.{Memo, open_in, when, deep}
use Rattle.text.specs.Reading.{reads, FaultAt, Skipped, Unlike}
use Rattle.text.specs.LabelSets.{every, these, listed, MoreLabels, no_comma, comma, Labels, question, numbers}
use Rattle.regular.specs.Sets.{with, collected}
use Rattle.labels.specs.LabelBits.{bit, LabelStops, NoLabel, LabelAt, MoreRead, SetRead}
use Rattle.text.proofs.Tests.{no_number, other_kind, is_token, free_of}
use Rattle.text.proofs.Derived.{quiet_labels}
use Rattle.text.proofs.Going.{takes_word, charges_word, refuses, leaves_out, not_deep}

one_or : (a b : ℕ) → a < 2 → b < 2 → eqb (max a b) 1 ≡ cond (eqb b 1) true (eqb a 1)
one_or a b p q = grind (arith, nat_tests)

bit_of_or : (s t i : ℕ) → bit (bit_or s t) i ≡ cond (bit t i) true (bit s i)
bit_of_or s t i = ap (λ n. eqb n 1) (bit_at_or s t i) ∙ one_or (bit_at s i) (bit_at t i) (bit_at-lt s i) (bit_at-lt t i)

pub with_bit : (s l i : ℕ) → bit (with s l) i ≡ cond (eqb i l) true (bit s i)
with_bit s l i = bit_of_or s (2 ^ l) i ∙ ap (λ c. cond c true (bit s i)) (go (cases_eq i l))
  where
    go : (i ≡ l) ⊎ (i ≢ l) → bit (2 ^ l) i ≡ eqb i l
    go (inl e) = ap (λ k. bit (2 ^ l) k) e ∙ ap (λ n. eqb n 1) (bit_at-pow_same l) ∙ sym (eq-eqb i l e)
    go (inr d) = ap (λ n. eqb n 1) (bit_at-pow_other l i d) ∙ sym (ne_eqb i l d)

first_or_later : (c d b : Bool) → cond d true (cond c true b) ≡ cond (cond c true d) true b
first_or_later true true b = refl
first_or_later true false b = refl
first_or_later false d b = refl

collected_bit : (s : ℕ) (ns : List ℕ) (i : ℕ) → bit (collected s ns) i ≡ cond (listed ns i) true (bit s i)
collected_bit s [] i = refl
collected_bit s (n ∷ ns) i = collected_bit (with s n) ns i ∙ ap (cond (listed ns i) true) (with_bit s n i) ∙ first_or_later (eqb i n) (listed ns i) (bit s i)

collected_last : (s : ℕ) (ns : List ℕ) (n : ℕ) → collected s (ns ++ n ∷ []) ≡ with (collected s ns) n
collected_last s [] n = refl
collected_last s (x ∷ ns) n = collected_last (with s x) ns n

-- a label that must stand here
quiet_label : (w : Word) (ws : List Word) → ((n : ℕ) → w.token ≡ Number n → ⊥) → Quiet (rules_of label) (w ∷ ws)
quiet_label w ws h = ap (λ b. cond b (takes labels []) stuck) (no_number w.token h)

pub label_refused : (end : ℕ) (ws : List Word) (f : Fault) → Quiet (rules_of label) ws → FaultAt end ws f → LabelStops (label ∷ []) end ws f
label_refused end ws f q h = record { words = ws; place_is = h.place_is; stops = λ m k d. refuses label refl ws q m k ∙ ap (λ c. fault c ws) (sym h.cause_is) }

pub label_other : (end : ℕ) (ws : List Word) (w : Word) (vs : List Word) (f : Fault) → ws ≡ w ∷ vs → ((n : ℕ) → w.token ≡ Number n → ⊥) → FaultAt end ws f → LabelStops (label ∷ []) end ws f
label_other end ws w vs f e h g = label_refused end ws f (subst (Quiet (rules_of label)) (sym e) (quiet_label w vs h)) g

-- an item that takes a label and owes more
number_fine : (i : Item) (js : List Item) (w : Word) (n : ℕ) → w.token ≡ Number n → ((p : ℕ) → find (rules_of i) (record { token = Number n; place = p }) ≡ takes labels js) → ((k : List Item) → open_in (js ++ k) ≡ open_in k) → n < 64 → (ws : List Word) (m : Memo) (k : List Item) → open_in k ≤ 16 → reads (w ∷ ws) m (i ∷ k) ≡ reads ws m (js ++ k)
number_fine i js w n e f flat h ws m k d = takes_word i (Number n) labels js w e f ws m m k (ap (λ b. when b Numbered (deep (js ++ k) m)) (le-ltb 63 (amount w.token) (let y = ap amount e in omega arith)) ∙ not_deep (js ++ k) m (let y = flat k in omega arith))

number_large : (i : Item) (js : List Item) (w : Word) (n : ℕ) → w.token ≡ Number n → ((p : ℕ) → find (rules_of i) (record { token = Number n; place = p }) ≡ takes labels js) → 63 < n → (ws : List Word) (m : Memo) (k : List Item) → reads (w ∷ ws) m (i ∷ k) ≡ fault Numbered (w ∷ ws)
number_large i js w n e f h ws m k = charges_word i (Number n) labels js w e f ws m k Numbered (ap (λ b. when b Numbered (deep (js ++ k) m)) (lt-ltb 63 (amount w.token) (let y = ap amount e in omega arith)))

pub label_large : (end : ℕ) (ws : List Word) (w : Word) (vs : List Word) (n : ℕ) (f : Fault) → ws ≡ w ∷ vs → w.token ≡ Number n → NoLabel n w f → LabelStops (label ∷ []) end ws f
label_large end ws w vs n f e t h = record { words = w ∷ vs; place_is = h.place_is; stops = λ m k d. ap (λ x. reads x m (label ∷ k)) e ∙ number_large label [] w n t (λ q. refl) h.large vs m k ∙ ap (λ x. fault x (w ∷ vs)) (sym h.cause_is) }

pub label_read : (ws : List Word) (w : Word) (vs : List Word) (n : ℕ) → ws ≡ w ∷ vs → w.token ≡ Number n → n < 64 → LabelAt ws n vs
label_read ws w vs n e t h = record { word = w; words = e; token = t; small = h; over = λ m k d. ap (λ x. reads x m (label ∷ k)) e ∙ number_fine label [] w n t (λ q. refl) (λ k. refl) h vs m k d }

-- what the turns of the loop have read
pub record Listed (s : ℕ) (ws : List Word) (s' : ℕ) (rest : List Word) : Type 0 where
  pub found : List ℕ
  pub extends : (ns : List ℕ) (end : List Word) → MoreLabels rest ns end → MoreLabels ws (found ++ ns) end
  pub over : (m : Memo) (k : List Item) → open_in k ≤ 16 → reads ws m (more_labels ∷ k) ≡ reads rest m (more_labels ∷ k)
  pub is : s' ≡ collected s found

is_comma : {t : Token} → eqb (kind t) (kind CommaToken) ≡ true → t ≡ CommaToken
is_comma h = is_token _ CommaToken (lit≤ tt) refl h

comma_goes : (w : Word) (ws : List Word) → w.token ≡ CommaToken → (m : Memo) (k : List Item) → open_in k ≤ 16 → reads (w ∷ ws) m (more_labels ∷ k) ≡ reads ws m (label ∷ more_labels ∷ k)
comma_goes w ws e m k d = takes_word more_labels CommaToken plain (label ∷ more_labels ∷ []) w e (λ p. refl) ws m m k (not_deep (label ∷ more_labels ∷ k) m (omega arith))

pub listed_more : (s : ℕ) (ws : List Word) (s₁ : ℕ) (left behind : List Word) (n : ℕ) (rest : List Word) (s₂ : ℕ) → Listed s ws s₁ left → Skipped CommaToken left behind → LabelAt behind n rest → s₂ ≡ with s₁ n → Listed s ws s₂ rest
listed_more s ws s₁ left behind n rest s₂ l c a b = record {
  found = l.found ++ n ∷ [];
  extends = λ ns end d. subst (λ x. MoreLabels ws x end) (sym (mathlib.Core.List.append_assoc l.found (n ∷ []) ns)) (l.extends (n ∷ ns) end (subst (λ x. MoreLabels x (n ∷ ns) end) (sym (c.1 ∙ ap (λ x. c.0 ∷ x) a.words)) (comma (is_comma c.2) a.token d)));
  over = λ m k d. l.over m k d ∙ ap (λ x. reads x m (more_labels ∷ k)) c.1 ∙ comma_goes c.0 behind (is_comma c.2) m k d ∙ a.over m (more_labels ∷ k) (omega arith);
  is = b ∙ ap (λ x. with x n) l.is ∙ sym (collected_last s l.found n);
}

pub listed_stopped : (end s : ℕ) (ws : List Word) (s₁ : ℕ) (left behind : List Word) (f : Fault) → Listed s ws s₁ left → Skipped CommaToken left behind → LabelStops (label ∷ []) end behind f → LabelStops (more_labels ∷ []) end ws f
listed_stopped end s ws s₁ left behind f l c g = record { words = g.words; place_is = g.place_is; stops = λ m k d. l.over m k d ∙ ap (λ x. reads x m (more_labels ∷ k)) c.1 ∙ comma_goes c.0 behind (is_comma c.2) m k d ∙ g.stops m (more_labels ∷ k) (omega arith) }

pub listed_done : (s : ℕ) (ws : List Word) (s₁ : ℕ) (rest : List Word) → Listed s ws s₁ rest → Unlike CommaToken rest → MoreRead s ws s₁ rest
listed_done s ws s₁ rest l u = let f = free_of CommaToken rest u in record {
  labels = l.found;
  derives = subst (λ x. MoreLabels ws x rest) (mathlib.Core.List.append-nil l.found) (l.extends [] rest (no_comma f));
  over = λ m k d. l.over m k d ∙ leaves_out more_labels refl rest (quiet_labels rest f) m k;
  is = l.is;
  bits = λ i h. ap (λ x. bit x i) l.is ∙ collected_bit s l.found i;
}

-- a set of labels
quiet_set : (w : Word) (ws : List Word) → (w.token ≡ Question → ⊥) → ((n : ℕ) → w.token ≡ Number n → ⊥) → Quiet (rules_of label_set) (w ∷ ws)
quiet_set w ws q h = ap (λ b. cond b (takes plain []) (find (line a_number labels (more_labels ∷ []) ∷ []) w)) (other_kind w.token Question (lit≤ tt) refl q) ∙ ap (λ b. cond b (takes labels (more_labels ∷ [])) stuck) (no_number w.token h)

pub set_refused : (end : ℕ) (ws : List Word) (f : Fault) → Quiet (rules_of label_set) ws → FaultAt end ws f → LabelStops (label_set ∷ []) end ws f
set_refused end ws f q h = record { words = ws; place_is = h.place_is; stops = λ m k d. refuses label_set refl ws q m k ∙ ap (λ c. fault c ws) (sym h.cause_is) }

pub set_other : (end : ℕ) (ws : List Word) (w : Word) (vs : List Word) (f : Fault) → ws ≡ w ∷ vs → (w.token ≡ Question → ⊥) → ((n : ℕ) → w.token ≡ Number n → ⊥) → FaultAt end ws f → LabelStops (label_set ∷ []) end ws f
set_other end ws w vs f e q h g = set_refused end ws f (subst (Quiet (rules_of label_set)) (sym e) (quiet_set w vs q h)) g

pub set_large : (end : ℕ) (ws : List Word) (w : Word) (vs : List Word) (n : ℕ) (f : Fault) → ws ≡ w ∷ vs → w.token ≡ Number n → NoLabel n w f → LabelStops (label_set ∷ []) end ws f
set_large end ws w vs n f e t h = record { words = w ∷ vs; place_is = h.place_is; stops = λ m k d. ap (λ x. reads x m (label_set ∷ k)) e ∙ number_large label_set (more_labels ∷ []) w n t (λ q. refl) h.large vs m k ∙ ap (λ x. fault x (w ∷ vs)) (sym h.cause_is) }

set_goes : (w : Word) (vs : List Word) (n : ℕ) → w.token ≡ Number n → n < 64 → (m : Memo) (k : List Item) → open_in k ≤ 16 → reads (w ∷ vs) m (label_set ∷ k) ≡ reads vs m (more_labels ∷ k)
set_goes w vs n t h m k d = number_fine label_set (more_labels ∷ []) w n t (λ q. refl) (λ k. omega arith) h vs m k d

pub set_stopped : (end : ℕ) (ws : List Word) (w : Word) (vs : List Word) (n : ℕ) (f : Fault) → ws ≡ w ∷ vs → w.token ≡ Number n → n < 64 → LabelStops (more_labels ∷ []) end vs f → LabelStops (label_set ∷ []) end ws f
set_stopped end ws w vs n f e t h g = record { words = g.words; place_is = g.place_is; stops = λ m k d. ap (λ x. reads x m (label_set ∷ k)) e ∙ set_goes w vs n t h m k d ∙ g.stops m k d }

in_none : (c : Bool) → cond c true false ≡ c
in_none true = refl
in_none false = refl

pub set_read : (ws : List Word) (w : Word) (vs : List Word) (n s s₁ : ℕ) (rest : List Word) → ws ≡ w ∷ vs → w.token ≡ Number n → n < 64 → s ≡ with 0 n → MoreRead s vs s₁ rest → SetRead ws s₁ rest
set_read ws w vs n s s₁ rest e t h b r =
    let ns = n ∷ r.labels in
    record {
      labels = these ns;
      derives = subst (λ x. Labels x (these ns) rest) (sym e) (numbers t r.derives);
      over = λ m k d. ap (λ x. reads x m (label_set ∷ k)) e ∙ set_goes w vs n t h m k d ∙ r.over m k d;
      bits = λ i q. ap (λ x. bit x i) (r.is ∙ ap (λ x. collected x r.labels) b) ∙ collected_bit 0 ns i ∙ ap (λ n. cond (listed ns i) true (eqb n 1)) (bit_at-zero i) ∙ in_none (listed ns i);
    }

pub set_all : (ws : List Word) (w : Word) (vs : List Word) → ws ≡ w ∷ vs → w.token ≡ Question → SetRead ws 18446744073709551615 vs
set_all ws w vs e t = record {
  labels = every;
  derives = subst (λ x. Labels x every vs) (sym e) (question t);
  over = λ m k d. ap (λ x. reads x m (label_set ∷ k)) e ∙ takes_word label_set Question plain [] w t (λ p. refl) vs m m k (not_deep k m d);
  bits = λ i h. ap (λ n. eqb n 1) (bit_at_ones 64 i h);
}
