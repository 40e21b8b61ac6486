-- Every cause but the grammar's own: what a word is charged with, in the order of the causes. Assumes nothing.
use Rattle.std.specs.Prelude.{ℕ, suc, ◌+◌, ◌*◌, Bool, true, false, cond, not, ◌&&◌, List, [], ◌∷◌, ℤ, pos, negsuc, ◌-ℤ◌, int_le, nat_lt, slice_set}
use Rattle.grammar.specs.Answers.{Charge, fine, charged, Causes}
use Rattle.model.specs.declared.refusal.Cause.{Cause}
use Rattle.model.specs.declared.refusal.Cause.TheVariants.{Byte, Unexpected, Range, Starts, Many, Deep, Number as Numbered, Register as Registered, Break as Broken}
use Rattle.text.specs.declared.word.Token.TheVariants.{Stray}
use Rattle.text.specs.declared.word.Word.{Word}
use Rattle.text.specs.declared.word.Scope.{Scope}
use Rattle.text.specs.declared.word.Scope.TheVariants.{Every, Declared}
use Rattle.text.specs.Words.{at, amount, letter, allowed}
use Rattle.text.specs.Table.{Role, plain, counted, operand_number, operand_register, set_register, sensed_register, labelled, breaks, declares, negates, bounds, ends_declaration, sheet_sign, asserts, asserts_label, labels, leaves_state, Item, operand, more, one_test, joined, comparison, close_paren, close_bracket, bracketed, semicolon, becomes, sensed, guard, statement, other, end_if, end_while, block, statements, declarations, declared_letter, bound, bare_bound, close_declaration, unit, repeats, more_labels, label, label_set, colon, group, expression, target, edges}

-- what is kept in mind from word to word
pub record Memo : Type 0 where
  -- the numbers, registers, `true` and operators in the text's A and B so far
  pub counter : ℕ
  -- the labelled statements, the assertions or the edges so far
  pub parts : ℕ
  -- the words `empty`, `*`, `+` and `|` of the sheet so far
  pub signs : ℕ
  -- the registers that may stand
  pub scope : Scope
  -- the settings of the declared registers so far
  pub settings : ℕ
  -- a `-` stands before the next number of the declaration
  pub negative : Bool
  -- the last four numbers of declarations
  pub low : ℤ
  pub high : ℤ
  pub from : ℤ
  pub to : ℤ

-- the memo before the first word
abbrev pub fresh : Scope → Memo
fresh s = record { counter = 0; parts = 0; signs = 0; scope = s; settings = 1; negative = false; low = pos 0; high = pos 0; from = pos 0; to = pos 0 }

-- in a program no register is declared before the first word, and in the other texts every register may stand
abbrev pub program_memo : Memo
program_memo = fresh (Declared (false ∷ false ∷ false ∷ false ∷ false ∷ false ∷ []))

abbrev pub open_memo : Memo
open_memo = fresh Every

-- the memo with another number of counted words
abbrev pub counting : Memo → ℕ → Memo
counting m n = record { counter = n; parts = m.parts; signs = m.signs; scope = m.scope; settings = m.settings; negative = m.negative; low = m.low; high = m.high; from = m.from; to = m.to }

-- the memo with another number of statements, assertions or edges
abbrev pub with_parts : Memo → ℕ → Memo
with_parts m n = record { counter = m.counter; parts = n; signs = m.signs; scope = m.scope; settings = m.settings; negative = m.negative; low = m.low; high = m.high; from = m.from; to = m.to }

-- the memo with another number of a sheet's signs
abbrev pub with_signs : Memo → ℕ → Memo
with_signs m n = record { counter = m.counter; parts = m.parts; signs = n; scope = m.scope; settings = m.settings; negative = m.negative; low = m.low; high = m.high; from = m.from; to = m.to }

abbrev pub declare : Scope → ℕ → Scope
declare Every i = Every
declare (Declared ds) i = Declared (slice_set ds i true)

-- the memo with one more register declared
abbrev pub declaring : Memo → ℕ → Memo
declaring m i = record { counter = m.counter; parts = m.parts; signs = m.signs; scope = declare m.scope i; settings = m.settings; negative = false; low = m.low; high = m.high; from = m.from; to = m.to }

abbrev pub negating : Memo → Memo
negating m = record { counter = m.counter; parts = m.parts; signs = m.signs; scope = m.scope; settings = m.settings; negative = true; low = m.low; high = m.high; from = m.from; to = m.to }

-- a number with the `-` that stands before it, or not
abbrev pub signed : Bool → ℕ → ℤ
signed false n = pos n
signed true n = pos 0 -ℤ pos n

-- the memo with one more number of a declaration: the last four are kept
abbrev pub bounding : Memo → ℕ → Memo
bounding m n = record { counter = m.counter; parts = m.parts; signs = m.signs; scope = m.scope; settings = m.settings; negative = false; low = m.high; high = m.from; from = m.to; to = signed m.negative n }

-- LO ≤ FROM ≤ TO ≤ HI, and HI - LO at most 63
abbrev pub ranged : Memo → Bool
ranged m = int_le m.low m.from && int_le m.from m.to && int_le m.to m.high && int_le (m.high -ℤ m.low) (pos 63)

abbrev pub size : ℤ → ℕ
size (pos n) = n
size (negsuc n) = 0

-- the settings with the register just declared: from FROM to TO
abbrev pub more_settings : Memo → ℕ
more_settings m = m.settings * suc (size (m.to -ℤ m.from))

abbrev pub with_settings : Memo → ℕ → Memo
with_settings m n = record { counter = m.counter; parts = m.parts; signs = m.signs; scope = m.scope; settings = n; negative = m.negative; low = m.low; high = m.high; from = m.from; to = m.to }

-- what counts as open: brackets, `if` and `while` until what they opened ends
abbrev pub opens : Item → ℕ
opens operand = 0
opens more = 0
opens one_test = 0
opens joined = 0
opens comparison = 0
opens close_paren = 1
opens close_bracket = 1
opens bracketed = 0
opens semicolon = 0
opens becomes = 0
opens sensed = 0
opens guard = 0
opens statement = 0
opens other = 1
opens end_if = 1
opens end_while = 1
opens block = 1
opens statements = 0
opens (declarations r) = 0
opens (declared_letter r) = 0
opens bound = 0
opens bare_bound = 0
opens close_declaration = 0
opens unit = 0
opens repeats = 0
opens more_labels = 0
opens label = 0
opens label_set = 0
opens colon = 0
opens group = 1
opens expression = 0
opens target = 0
opens edges = 0

-- how many are open where these items are owed
abbrev pub open_in : List Item → ℕ
open_in [] = 0
open_in (i ∷ k) = opens i + open_in k

abbrev pub ends_loop : Item → Bool
ends_loop operand = false
ends_loop more = false
ends_loop one_test = false
ends_loop joined = false
ends_loop comparison = false
ends_loop close_paren = false
ends_loop close_bracket = false
ends_loop bracketed = false
ends_loop semicolon = false
ends_loop becomes = false
ends_loop sensed = false
ends_loop guard = false
ends_loop statement = false
ends_loop other = false
ends_loop end_if = false
ends_loop end_while = true
ends_loop block = false
ends_loop statements = false
ends_loop (declarations r) = false
ends_loop (declared_letter r) = false
ends_loop bound = false
ends_loop bare_bound = false
ends_loop close_declaration = false
ends_loop unit = false
ends_loop repeats = false
ends_loop more_labels = false
ends_loop label = false
ends_loop label_set = false
ends_loop colon = false
ends_loop group = false
ends_loop expression = false
ends_loop target = false
ends_loop edges = false

-- some `while` is open where these items are owed
abbrev pub in_loop : List Item → Bool
in_loop [] = false
in_loop (i ∷ k) = cond (ends_loop i) true (in_loop k)

-- a cause where a test says so, and else what comes after it
abbrev pub when : Bool → Cause → Charge Memo Cause → Charge Memo Cause
when true c x = charged c
when false c x = x

-- at most 16 may be open at one word
abbrev pub deep : List Item → Memo → Charge Memo Cause
deep k m = when (nat_lt 16 (open_in k)) Deep (fine m)

-- one more counted word: at most 256
abbrev pub one_word : List Item → Memo → Charge Memo Cause
one_word k m = when (nat_lt 256 (suc m.counter)) Many (deep k (counting m (suc m.counter)))

-- one more labelled statement: at most 63
abbrev pub one_statement : List Item → Memo → Charge Memo Cause
one_statement k m = when (nat_lt 63 (suc m.parts)) Many (deep k (with_parts m (suc m.parts)))

-- one more assertion or edge: at most 60
abbrev pub one_part : List Item → Memo → Charge Memo Cause
one_part k m = when (nat_lt 60 (suc m.parts)) Many (deep k (with_parts m (suc m.parts)))

-- one more sign of a sheet: at most 256
abbrev pub one_sign : List Item → Memo → Charge Memo Cause
one_sign k m = when (nat_lt 256 (suc m.signs)) Many (deep k (with_signs m (suc m.signs)))

-- the charge of a word in its role, with what is owed after it: of several causes the smallest
abbrev pub charge : Memo → Role → Word → List Item → Charge Memo Cause
charge m plain w k = deep k m
charge m counted w k = one_word k m
charge m operand_number w k = when (nat_lt 1000 (amount w.token)) Numbered (one_word k m)
charge m operand_register w k = when (not (allowed m.scope w.token)) Registered (one_word k m)
charge m set_register w k = when (not (allowed m.scope w.token)) Registered (one_statement k m)
charge m sensed_register w k = when (not (allowed m.scope w.token)) Registered (deep k m)
charge m labelled w k = one_statement k m
charge m breaks w k = when (not (in_loop k)) Broken (one_statement k m)
charge m declares w k = deep k (declaring m (letter w.token))
charge m negates w k = deep k (negating m)
charge m bounds w k = when (nat_lt 1000 (amount w.token)) Numbered (deep k (bounding m (amount w.token)))
charge m ends_declaration w k = when (not (ranged m)) Range (when (nat_lt 65536 (more_settings m)) Starts (deep k (with_settings m (more_settings m))))
charge m sheet_sign w k = one_sign k m
charge m asserts w k = one_part k m
charge m asserts_label w k = when (nat_lt 63 (amount w.token)) Numbered (one_part k m)
charge m labels w k = when (nat_lt 63 (amount w.token)) Numbered (deep k m)
charge m leaves_state w k = when (nat_lt 63 (amount w.token)) Numbered (one_part k m)

-- where no text goes on with a word: a byte that begins no word, or a word that is not expected
abbrev pub causes : Causes Item Word Role Memo Cause
causes = record { wrong = λ w. cond (at Stray w) Byte Unexpected; ended = Unexpected; charge = charge }
