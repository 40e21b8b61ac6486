-- From derivations of programs to the table. Assumes nothing.
use Rattle.std.proofs.Common.{◌≡◌, ℕ, zero, suc, ◌≤◌, false, eqb, List, [], ◌∷◌, ◌++◌, ℤ, Option, sym, refl, ap, ◌∙◌, subst, inl, inr, arith, lit≤}
use Rattle.grammar.specs.Grammars.{takes, find, Quiet, Reads, nothing, took, without}
use Rattle.grammar.proofs.Steps.{joins}
use Rattle.grammar.proofs.Trees.{find_later}
use Rattle.text.specs.declared.word.Register.{Register}
use Rattle.text.specs.declared.word.Register.TheVariants.{A as ra, B as rb, C as rc, D as rd, E as re, F as rf}
use Rattle.text.specs.declared.word.Token.{Token}
use Rattle.text.specs.declared.word.Token.TheVariants.{Number, Current, Initial, Reg, Sense, If, Else, While, Break, Semicolon, OpenParen, CloseParen, OpenBrace, CloseBrace, Set, Minus}
use Rattle.text.specs.declared.word.Word.{Word}
use Rattle.text.specs.Words.{kind, at, register_index}
use Rattle.text.specs.Table.{Role, plain, labelled, set_register, breaks as breaks_role, declares, Item, operand, more, close_paren, semicolon, becomes, sensed, guard, statement, other, end_if, end_while, block, statements, declarations, declared_letter, bound, bare_bound, close_declaration, rules_of, table, line, statement_lines, letter_lines, following, program_start}
use Rattle.text.specs.Expressions.{Test}
use Rattle.text.specs.Derivations.{Free, Condition}
use Rattle.text.proofs.Tests.{other_kind}
use Rattle.traces.specs.Programs.{Part}
use Rattle.syntax.specs.Phrases.{Names, Phrase, one, behind, States, sets, senses, skips, ifs, if_elses, whiles, breaks, blocks, no_more, one_more, Bound, plainly, negated, Bounds, Declares, no_register, all_declared, register, Program}
use Rattle.text.proofs.Derived.{find_at, sign_reads, sum_reads, condition_reads}
use Rattle.syntax.proofs.Letters.{index_small}

-- a statement's first word, what it owes, and how that is paid
pub record Begins (ws rest : List Word) : Type 0 where
  pub first : Word
  pub words : List Word
  pub split : ws ≡ first ∷ words
  pub role : Role
  pub owes : List Item
  pub found : (k : List Item) → find (statement_lines k) first ≡ takes role (owes ++ k)
  pub brace : at CloseBrace first ≡ false
  pub paid : Reads table owes words rest

-- what a phrase is to the table
abbrev pub Result : Phrase → List Word → List Word → Type 0
Result one ws rest = Begins ws rest
Result (behind s) ws rest = ((c : Word) (after : List Word) → rest ≡ c ∷ after → c.token ≡ CloseBrace → Reads table (block ∷ []) ws after) × (rest ≡ [] → Reads table (statements ∷ []) ws [])

-- a statement by its first word
statement_at : (k : List Item) (w : Word) (t : Token) → w.token ≡ t → find (statement_lines k) w ≡ find (statement_lines k) (record { token = t; place = w.place })
statement_at k w t e = ap (λ x. find (statement_lines k) (record { token = x; place = w.place })) e

named : (k : List Item) (w : Word) (x : ℕ) → Names w.token x → find (statement_lines k) w ≡ takes set_register (becomes ∷ operand ∷ more ∷ semicolon ∷ k)
named k w x (r, inl e, i) = statement_at k w (Current r) e
named k w x (r, inr e, i) = statement_at k w (Initial r) e

named_open : (w : Word) (x : ℕ) → Names w.token x → at CloseBrace w ≡ false
named_open w x (r, inl e, i) = ap (λ t. eqb (kind t) 19) e
named_open w x (r, inr e, i) = ap (λ t. eqb (kind t) 19) e

pub sensed_reads : {w : Word} {rest : List Word} {x : ℕ} → Names w.token x → Reads table (sensed ∷ []) (w ∷ rest) rest
sensed_reads {w = w} (r, inl e, i) = sign_reads sensed w (Current r) e refl
sensed_reads {w = w} (r, inr e, i) = sign_reads sensed w (Initial r) e refl

guard_reads : {o c : Word} {ws mid : List Word} {t : Test} → o.token ≡ OpenParen → Condition ws t (c ∷ mid) → c.token ≡ CloseParen → Reads table (guard ∷ []) (o ∷ ws) mid
guard_reads {o = o} {c = c} e d f = took (find_at guard o OpenParen e) (joins table (condition_reads d) (sign_reads close_paren c CloseParen f refl)) nothing

-- a statement that stands alone
alone : {ws rest : List Word} → Begins ws rest → Reads table (statement ∷ []) ws rest
alone {rest = rest} b = subst (λ x. Reads table (statement ∷ []) x rest) (sym b.split) (took (b.found []) (joins table b.paid nothing) nothing)

quiet_other : (ws : List Word) → Free (Else ∷ []) ws → Quiet (rules_of other) ws
quiet_other [] f = tt
quiet_other (w ∷ ws) f = find_later (line (at Else) plain (statement ∷ end_if ∷ [])) [] w (other_kind w.token Else (lit≤ tt) refl f.0)

quiet_none : (i : Item) (ws : List Word) → rules_of i ≡ [] → Quiet (rules_of i) ws
quiet_none i [] e = tt
quiet_none i (w ∷ ws) e = ap (λ ls. find ls w) e

-- statements to a closing brace, and to the end
in_block : {ws mid rest : List Word} → Begins ws mid → Reads table (block ∷ []) mid rest → Reads table (block ∷ []) ws rest
in_block {rest = rest} b d = subst (λ x. Reads table (block ∷ []) x rest) (sym b.split)
    (took (find_later (line (at CloseBrace) plain []) (statement_lines (block ∷ [])) b.first b.brace ∙ b.found (block ∷ [])) (joins table b.paid d) nothing)

in_text : {ws mid rest : List Word} → Begins ws mid → Reads table (statements ∷ []) mid rest → Reads table (statements ∷ []) ws rest
in_text {rest = rest} b d = subst (λ x. Reads table (statements ∷ []) x rest) (sym b.split) (took (b.found (statements ∷ [])) (joins table b.paid d) nothing)

pub phrase_reads : {p : Phrase} {ws : List Word} {s : Part} {rest : List Word} → States p ws s rest → Result p ws rest
phrase_reads (sets {w = w} {e = e} {c = c} {ws = ws} {x = x} n f d g) = record {
  first = w;
  words = e ∷ ws;
  split = refl;
  role = set_register;
  owes = becomes ∷ operand ∷ more ∷ semicolon ∷ [];
  found = λ k. named k w x n;
  brace = named_open w x n;
  paid = took (find_at becomes e Set f) nothing (joins table (sum_reads d) (sign_reads semicolon c Semicolon g refl));
}
phrase_reads (senses {w = w} {v = v} {c = c} {rest = rest} e n g) = record {
  first = w;
  words = v ∷ c ∷ rest;
  split = refl;
  role = labelled;
  owes = sensed ∷ semicolon ∷ [];
  found = λ k. statement_at k w Sense e;
  brace = ap (λ t. eqb (kind t) 19) e;
  paid = joins table (sensed_reads n) (sign_reads semicolon c Semicolon g refl);
}
phrase_reads (skips {c = c} {rest = rest} e) = record { first = c; words = rest; split = refl; role = labelled; owes = []; found = λ k. statement_at k c Semicolon e; brace = ap (λ t. eqb (kind t) 19) e; paid = nothing }
phrase_reads (ifs {w = w} {o = o} {c = c} {ws = ws} {rest = rest} e f d g s n) = record {
  first = w;
  words = o ∷ ws;
  split = refl;
  role = labelled;
  owes = guard ∷ statement ∷ other ∷ [];
  found = λ k. statement_at k w If e;
  brace = ap (λ t. eqb (kind t) 19) e;
  paid = joins table (guard_reads f d g) (joins table (alone (phrase_reads s)) (without refl (quiet_other rest n) nothing));
}
phrase_reads (if_elses {w = w} {o = o} {c = c} {e = l} {ws = ws} {rest = rest} e f d g s h u) = record {
  first = w;
  words = o ∷ ws;
  split = refl;
  role = labelled;
  owes = guard ∷ statement ∷ other ∷ [];
  found = λ k. statement_at k w If e;
  brace = ap (λ t. eqb (kind t) 19) e;
  paid = joins table (guard_reads f d g) (joins table (alone (phrase_reads s)) (took (find_at other l Else h) (joins table (alone (phrase_reads u)) (without refl (quiet_none end_if rest refl) nothing)) nothing));
}
phrase_reads (whiles {w = w} {o = o} {c = c} {ws = ws} {rest = rest} e f d g s) = record {
  first = w;
  words = o ∷ ws;
  split = refl;
  role = labelled;
  owes = guard ∷ statement ∷ end_while ∷ [];
  found = λ k. statement_at k w While e;
  brace = ap (λ t. eqb (kind t) 19) e;
  paid = joins table (guard_reads f d g) (joins table (alone (phrase_reads s)) (without refl (quiet_none end_while rest refl) nothing));
}
phrase_reads (breaks {w = w} {c = c} {rest = rest} e g) = record {
  first = w;
  words = c ∷ rest;
  split = refl;
  role = breaks_role;
  owes = semicolon ∷ [];
  found = λ k. statement_at k w Break e;
  brace = ap (λ t. eqb (kind t) 19) e;
  paid = sign_reads semicolon c Semicolon g refl;
}
phrase_reads (blocks {o = o} {c = c} {ws = ws} {rest = rest} e d g) = record {
  first = o;
  words = ws;
  split = refl;
  role = plain;
  owes = block ∷ [];
  found = λ k. statement_at k o OpenBrace e;
  brace = ap (λ t. eqb (kind t) 19) e;
  paid = (phrase_reads d).0 c rest refl g;
}
phrase_reads (no_more {ws = ws}) = (
  (λ c after e g. subst (λ x. Reads table (block ∷ []) x after) (sym e) (sign_reads block c CloseBrace g refl)),
  (λ e. subst (λ x. Reads table (statements ∷ []) x []) (sym e) (without refl tt nothing)),
)
phrase_reads (one_more d f) = ((λ c after e g. in_block (phrase_reads d) ((phrase_reads f).0 c after e g)), (λ e. in_text (phrase_reads d) ((phrase_reads f).1 e)))

-- ---- declarations
bound_reads : {ws rest : List Word} {z : ℤ} → Bound ws z rest → Reads table (bound ∷ []) ws rest
bound_reads (plainly {w = w} {n = n} e) = sign_reads bound w (Number n) e refl
bound_reads (negated {v = v} {w = w} {n = n} e f) = took (find_at bound v Minus e) (sign_reads bare_bound w (Number n) f refl) nothing

pub quiet_declarations : (r : Register) (ws : List Word) → Free (Reg ∷ []) ws → Quiet (rules_of (declarations r)) ws
quiet_declarations r [] f = tt
quiet_declarations r (w ∷ ws) f = find_later (line (at Reg) plain (declared_letter r ∷ [])) [] w (other_kind w.token Reg (lit≤ tt) refl f.0)

-- the letter q among those from r on
pub letter_found : (r q : Register) (p : ℕ) → register_index r ≤ register_index q → find (letter_lines r) (record { token = Current q; place = p }) ≡ takes declares (bound ∷ bound ∷ bound ∷ bound ∷ close_declaration ∷ following q)
letter_found ra ra p h = refl
letter_found ra rb p h = refl
letter_found ra rc p h = refl
letter_found ra rd p h = refl
letter_found ra re p h = refl
letter_found ra rf p h = refl
letter_found rb ra p h = absurd (omega arith)
letter_found rb rb p h = refl
letter_found rb rc p h = refl
letter_found rb rd p h = refl
letter_found rb re p h = refl
letter_found rb rf p h = refl
letter_found rc ra p h = absurd (omega arith)
letter_found rc rb p h = absurd (omega arith)
letter_found rc rc p h = refl
letter_found rc rd p h = refl
letter_found rc re p h = refl
letter_found rc rf p h = refl
letter_found rd ra p h = absurd (omega arith)
letter_found rd rb p h = absurd (omega arith)
letter_found rd rc p h = absurd (omega arith)
letter_found rd rd p h = refl
letter_found rd re p h = refl
letter_found rd rf p h = refl
letter_found re ra p h = absurd (omega arith)
letter_found re rb p h = absurd (omega arith)
letter_found re rc p h = absurd (omega arith)
letter_found re rd p h = absurd (omega arith)
letter_found re re p h = refl
letter_found re rf p h = refl
letter_found rf ra p h = absurd (omega arith)
letter_found rf rb p h = absurd (omega arith)
letter_found rf rc p h = absurd (omega arith)
letter_found rf rd p h = absurd (omega arith)
letter_found rf re p h = absurd (omega arith)
letter_found rf rf p h = refl

-- what is owed from the ith register on
abbrev pub from_register : ℕ → List Item
from_register zero = declarations ra ∷ []
from_register (suc zero) = declarations rb ∷ []
from_register (suc (suc zero)) = declarations rc ∷ []
from_register (suc (suc (suc zero))) = declarations rd ∷ []
from_register (suc (suc (suc (suc zero)))) = declarations re ∷ []
from_register (suc (suc (suc (suc (suc zero))))) = declarations rf ∷ []
from_register (suc (suc (suc (suc (suc (suc n)))))) = []

pub following_is : (r : Register) → following r ≡ from_register (suc (register_index r))
following_is ra = refl
following_is rb = refl
following_is rc = refl
following_is rd = refl
following_is re = refl
following_is rf = refl

-- one declaration where those from r on are owed
declaration_reads : (r q : Register) (w v : Word) (ws rest : List Word) → w.token ≡ Reg → v.token ≡ Current q → register_index r ≤ register_index q
    → Reads table (bound ∷ bound ∷ bound ∷ bound ∷ close_declaration ∷ following q) ws rest → Reads table (declarations r ∷ []) (w ∷ v ∷ ws) rest
declaration_reads r q w v ws rest e f h d =
    took (find_at (declarations r) w Reg e) (took (ap (λ x. find (letter_lines r) (record { token = x; place = v.place })) f ∙ letter_found r q v.place h) d nothing) nothing

place_reads : (i : ℕ) (q : Register) (w v : Word) (ws rest : List Word) → w.token ≡ Reg → v.token ≡ Current q → i ≤ register_index q
    → Reads table (bound ∷ bound ∷ bound ∷ bound ∷ close_declaration ∷ following q) ws rest → Reads table (from_register i) (w ∷ v ∷ ws) rest
place_reads zero q w v ws rest e f h d = declaration_reads ra q w v ws rest e f h d
place_reads (suc zero) q w v ws rest e f h d = declaration_reads rb q w v ws rest e f h d
place_reads (suc (suc zero)) q w v ws rest e f h d = declaration_reads rc q w v ws rest e f h d
place_reads (suc (suc (suc zero))) q w v ws rest e f h d = declaration_reads rd q w v ws rest e f h d
place_reads (suc (suc (suc (suc zero)))) q w v ws rest e f h d = declaration_reads re q w v ws rest e f h d
place_reads (suc (suc (suc (suc (suc zero))))) q w v ws rest e f h d = declaration_reads rf q w v ws rest e f h d
place_reads (suc (suc (suc (suc (suc (suc n)))))) q w v ws rest e f h d = let s = index_small q in absurd (omega arith)

none_reads : (i : ℕ) (ws : List Word) → Free (Reg ∷ []) ws → Reads table (from_register i) ws ws
none_reads zero ws f = without refl (quiet_declarations ra ws f) nothing
none_reads (suc zero) ws f = without refl (quiet_declarations rb ws f) nothing
none_reads (suc (suc zero)) ws f = without refl (quiet_declarations rc ws f) nothing
none_reads (suc (suc (suc zero))) ws f = without refl (quiet_declarations rd ws f) nothing
none_reads (suc (suc (suc (suc zero)))) ws f = without refl (quiet_declarations re ws f) nothing
none_reads (suc (suc (suc (suc (suc zero))))) ws f = without refl (quiet_declarations rf ws f) nothing
none_reads (suc (suc (suc (suc (suc (suc n)))))) ws f = nothing

pub declares_reads : {i : ℕ} {ds : List (Option Bounds)} {ws : List Word} {es : List (Option Bounds)} {rest : List Word} → Declares i ds ws es rest → Reads table (from_register i) ws rest
declares_reads (no_register {i = i} {ws = ws} f) = none_reads i ws f
declares_reads all_declared = nothing
declares_reads (register {i = i} {w = w} {v = v} {c = c} {ws₁ = ws₁} {mid = mid} {rest = rest} {r = r} e f h b₁ b₂ b₃ b₄ g d) =
    place_reads i r w v ws₁ rest e f h
    (joins table (bound_reads b₁) (joins table (bound_reads b₂) (joins table (bound_reads b₃) (joins table (bound_reads b₄) (joins table (sign_reads close_declaration c Semicolon g refl)
    (subst (λ k. Reads table k mid rest) (sym (following_is r)) (declares_reads d)))))))

pub program_reads : (ws : List Word) → Program ws → Reads table program_start ws []
program_reads ws (ds, body, d) = joins table (declares_reads d.declares) ((phrase_reads d.states).1 refl)
