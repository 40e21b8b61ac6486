-- Which words are a cycle program, and which tree they derive. Assumes nothing.
use Rattle.std.specs.Prelude.{◌≡◌, ℕ, suc, ◌≤◌, ◌⊎◌, List, [], ◌∷◌, set, ℤ, pos, ◌-ℤ◌, Some, None, Option}
use Rattle.grammar.specs.Answers.{SameTexts}
use Rattle.text.specs.declared.word.Register.{Register}
use Rattle.text.specs.declared.word.Token.{Token}
use Rattle.text.specs.declared.word.Token.TheVariants.{Number, Current, Initial, Reg, Sense, If, Else, While, Break, Semicolon, OpenParen, CloseParen, OpenBrace, CloseBrace, Minus, Set}
use Rattle.text.specs.declared.word.Word.{Word}
use Rattle.text.specs.Words.{register_index}
use Rattle.text.specs.Table.{table, program_start}
use Rattle.text.specs.Expressions.{Arith, Test}
use Rattle.text.specs.Derivations.{Free, Sum, Condition}
use Rattle.traces.specs.declared.range.Range.{Range}
use Rattle.traces.specs.Programs.{Part, assign, sense, skip, if_then, if_else, while, break, block, empty, list, Tree}

-- a register's letter; a capital one is charged wherever it stands in a program
abbrev pub Names : Token → ℕ → Type 0
Names t x = (r : Register) × ((t ≡ Current r) ⊎ (t ≡ Initial r)) × (register_index r ≡ x)

-- one statement; or the statements behind a list that has been read
pub data Phrase : Type 0 where
  one : Phrase
  behind : Part → Phrase

-- the words ws begin with such a phrase, its tree is s, and rest is what is left
pub data States : Phrase → List Word → Part → List Word → Type 0 where
  -- a = A ;
  sets : {w e c : Word} {ws rest : List Word} {x : ℕ} {a : Arith} → Names w.token x → e.token ≡ Set → Sum ws a (c ∷ rest) → c.token ≡ Semicolon → States one (w ∷ e ∷ ws) (assign x a) rest
  -- sense a ;
  senses : {w v c : Word} {rest : List Word} {x : ℕ} → w.token ≡ Sense → Names v.token x → c.token ≡ Semicolon → States one (w ∷ v ∷ c ∷ rest) (sense x) rest
  -- ;
  skips : {c : Word} {rest : List Word} → c.token ≡ Semicolon → States one (c ∷ rest) skip rest
  -- if ( B ) S, with no else behind it
  ifs : {w o c : Word} {ws mid rest : List Word} {t : Test} {s : Part} → w.token ≡ If → o.token ≡ OpenParen → Condition ws t (c ∷ mid) → c.token ≡ CloseParen
      → States one mid s rest → Free (Else ∷ []) rest → States one (w ∷ o ∷ ws) (if_then t s) rest
  -- if ( B ) S else S
  if_elses : {w o c e : Word} {ws mid other rest : List Word} {t : Test} {s u : Part} → w.token ≡ If → o.token ≡ OpenParen → Condition ws t (c ∷ mid) → c.token ≡ CloseParen
      → States one mid s (e ∷ other) → e.token ≡ Else → States one other u rest → States one (w ∷ o ∷ ws) (if_else t s u) rest
  -- while ( B ) S
  whiles : {w o c : Word} {ws mid rest : List Word} {t : Test} {s : Part} → w.token ≡ While → o.token ≡ OpenParen → Condition ws t (c ∷ mid) → c.token ≡ CloseParen
      → States one mid s rest → States one (w ∷ o ∷ ws) (while t s) rest
  -- break ;
  breaks : {w c : Word} {rest : List Word} → w.token ≡ Break → c.token ≡ Semicolon → States one (w ∷ c ∷ rest) break rest
  -- { and statements and }
  blocks : {o c : Word} {ws rest : List Word} {s : Part} → o.token ≡ OpenBrace → States (behind empty) ws s (c ∷ rest) → c.token ≡ CloseBrace → States one (o ∷ ws) (block s) rest
  -- no statement more
  no_more : {s : Part} {ws : List Word} → States (behind s) ws s ws
  -- one more statement
  one_more : {s u t : Part} {ws mid rest : List Word} → States one ws u mid → States (behind (list s u)) mid t rest → States (behind s) ws t rest

-- a number of a declaration, with a - before it or not
pub data Bound : List Word → ℤ → List Word → Type 0 where
  plainly : {w : Word} {rest : List Word} {n : ℕ} → w.token ≡ Number n → Bound (w ∷ rest) (pos n) rest
  negated : {v w : Word} {rest : List Word} {n : ℕ} → v.token ≡ Minus → w.token ≡ Number n → Bound (v ∷ w ∷ rest) (pos 0 -ℤ pos n) rest

-- the four numbers of a declaration
pub record Bounds : Type 0 where
  pub low : ℤ
  pub high : ℤ
  pub from : ℤ
  pub to : ℤ

-- the words ws begin with declarations of registers from the ith on, which make ds of what was declared before, and rest is what is left
pub data Declares : ℕ → List (Option Bounds) → List Word → List (Option Bounds) → List Word → Type 0 where
  -- no declaration more
  no_register : {i : ℕ} {ds : List (Option Bounds)} {ws : List Word} → Free (Reg ∷ []) ws → Declares i ds ws ds ws
  -- no register is left
  all_declared : {ds : List (Option Bounds)} {ws : List Word} → Declares 6 ds ws ds ws
  -- reg a LO HI FROM TO ;
  register : {i : ℕ} {ds es : List (Option Bounds)} {w v c : Word} {ws₁ ws₂ ws₃ ws₄ mid rest : List Word} {r : Register} {low high from to : ℤ} → w.token ≡ Reg → v.token ≡ Current r → i ≤ register_index r
      → Bound ws₁ low ws₂ → Bound ws₂ high ws₃ → Bound ws₃ from ws₄ → Bound ws₄ to (c ∷ mid) → c.token ≡ Semicolon
      → Declares (suc (register_index r)) (set ds (register_index r) (Some (record { low = low; high = high; from = from; to = to }))) mid es rest → Declares i ds (w ∷ v ∷ ws₁) es rest

-- no register is declared
abbrev pub undeclared : List (Option Bounds)
undeclared = None ∷ None ∷ None ∷ None ∷ None ∷ None ∷ []

-- the words are a program with these declarations and this body
pub record Derives (ws : List Word) (ds : List (Option Bounds)) (body : Part) : Type 0 where
  pub mid : List Word
  pub declares : Declares 0 undeclared ws ds mid
  pub states : States (behind empty) mid body []

-- the words are a program
abbrev pub Program : List Word → Type 0
Program ws = (ds : List (Option Bounds)) × (body : Part) × Derives ws ds body

-- the declared ranges are those of the declarations
abbrev pub Ranged : List (Option Bounds) → List (Option Range) → Type 0
Ranged [] [] = Unit {0}
Ranged [] (r ∷ rs) = ⊥
Ranged (d ∷ ds) [] = ⊥
Ranged (None ∷ ds) (None ∷ rs) = Ranged ds rs
Ranged (None ∷ ds) (Some r ∷ rs) = ⊥
Ranged (Some b ∷ ds) (None ∷ rs) = ⊥
Ranged (Some b ∷ ds) (Some r ∷ rs) = (r.low ≡ b.low) × (r.high ≡ b.high) × (r.from ≡ b.from) × (r.to ≡ b.to) × Ranged ds rs

-- the words derive the tree
pub record Tells (ws : List Word) (t : Tree) : Type 0 where
  pub bounds : List (Option Bounds)
  pub derives : Derives ws bounds t.body
  pub ranged : Ranged bounds t.declared

-- programs are what the table of the grammar takes for a program
abbrev pub SamePrograms : Type 0
SamePrograms = SameTexts table program_start Program
