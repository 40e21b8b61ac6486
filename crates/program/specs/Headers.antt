-- What the readers of declarations answer. Assumes nothing.
use Rattle.std.specs.Prelude.{◌≡◌, ℕ, ◌<◌, ◌≤◌, false, ◌⊎◌, List, [], ◌∷◌, ◌++◌, map, ℤ, pos, negsuc, ◌≤ℤ◌, is_some, None, Option}
use Rattle.text.specs.Derivations.{Free}
use Rattle.grammar.specs.Answers.{fault}
use Rattle.model.specs.declared.refusal.Cause.TheVariants.{Number as Numbered}
use Rattle.text.specs.declared.reading.Fault.{Fault}
use Rattle.text.specs.declared.word.Scope.TheVariants.{Declared}
use Rattle.text.specs.declared.word.Token.TheVariants.{Number, Reg, Current}
use Rattle.text.specs.declared.word.Word.{Word}
use Rattle.text.specs.Table.{Item, bound, statements, program_start}
use Rattle.text.specs.declared.word.Register.{Register}
use Rattle.text.specs.Words.{register_index}
use Rattle.text.specs.Charges.{Memo, open_in, program_memo}
use Rattle.text.specs.Reading.{reads, place_of, FaultAt, Unlike}
use Rattle.syntax.specs.Phrases.{Bound, Bounds, Declares, Ranged, undeclared}
use Rattle.syntax.proofs.Forth.{from_register}
use Rattle.program.specs.declared.header.Header.{Header}

-- the memo with one more number of a declaration
abbrev pub shifted : Memo → ℤ → Memo
shifted m z = record { counter = m.counter; parts = m.parts; signs = m.signs; scope = m.scope; settings = m.settings; negative = false; low = m.high; high = m.from; from = m.to; to = z }

-- a number of a declaration has been read
pub record BoundRead (ws : List Word) (z : ℤ) (rest : List Word) : Type 0 where
  pub derives : Bound ws z rest
  pub floor : negsuc 999 ≤ℤ z
  pub ceiling : z ≤ℤ pos 1000
  pub goes : (m : Memo) (k : List Item) → m.negative ≡ false → open_in k ≤ 16 → reads ws m (bound ∷ k) ≡ reads rest (shifted m z) k

-- a fault where a number of a declaration must stand
pub record BoundStopped (end : ℕ) (ws : List Word) (f : Fault) : Type 0 where
  pub words : List Word
  pub place_is : f.place ≡ place_of end words
  pub stops : (m : Memo) (k : List Item) → m.negative ≡ false → open_in k ≤ 16 → reads ws m (bound ∷ k) ≡ fault f.cause words

-- a number without a sign before it
pub record NumberRead (ws : List Word) (z : ℤ) (rest : List Word) : Type 0 where
  pub word : Word
  pub number : ℕ
  pub words : ws ≡ word ∷ rest
  pub token : word.token ≡ Number number
  pub few : number ≤ 1000
  pub value : z ≡ pos number

-- a number that is too large
pub record NumberLarge (ws : List Word) (f : Fault) : Type 0 where
  pub word : Word
  pub number : ℕ
  pub rest : List Word
  pub words : ws ≡ word ∷ rest
  pub token : word.token ≡ Number number
  pub many : 1000 < number
  pub cause_is : f.cause ≡ Numbered
  pub place_is : f.place ≡ word.place

-- a number that is too large, or no number
abbrev pub NumberStopped : ℕ → List Word → Fault → Type 0
NumberStopped end ws f = NumberLarge ws f ⊎ (FaultAt end ws f × Unlike (Number 0) ws)

-- nothing is declared
pub record Blank (h : Header) : Type 0 where
  pub no_ranges : h.ranges ≡ None ∷ None ∷ None ∷ None ∷ None ∷ None ∷ []
  pub one_setting : h.settings ≡ 1
  pub from_the_first : h.next ≡ 0

-- what has been declared, as the declarations ds say and the memo has it
pub record Heads (h : Header) (ds : List (Option Bounds)) (m : Memo) : Type 0 where
  pub ranged : Ranged ds h.ranges
  pub counted : m.counter ≡ 0
  pub read : m.parts ≡ 0
  pub plain : m.negative ≡ false
  pub settings_are : m.settings ≡ h.settings
  pub scoped : m.scope ≡ Declared (map is_some h.ranges)

-- declarations have been read, from the text's first word
pub record HeaderRead (ws : List Word) (h : Header) (mid : List Word) : Type 0 where
  pub bounds : List (Option Bounds)
  pub memo : Memo
  pub heads : Heads h bounds memo
  pub derives : (es : List (Option Bounds)) (rest : List Word) → Declares h.next bounds mid es rest → Declares 0 undeclared ws es rest
  pub goes : reads ws program_memo program_start ≡ reads mid memo (from_register h.next ++ statements ∷ [])

pub record HeaderStopped (end : ℕ) (ws : List Word) (f : Fault) : Type 0 where
  pub words : List Word
  pub place_is : f.place ≡ place_of end words
  pub stops : reads ws program_memo program_start ≡ fault f.cause words

-- P holds of the words of each program that begins with the header h, and goes on with `reg` and the words us
abbrev pub Onward : Header → List Word → (List Word → Type 0) → Type 0
Onward h us P = (ws : List Word) (w : Word) → w.token ≡ Reg → h.next < 6 → HeaderRead ws h (w ∷ us) → P ws

-- the letter of a register from the ith on, and the words behind it; or no such letter
abbrev pub Lettered : ℕ → List Word → Register × List Word → Type 0
Lettered i ws x = (v : Word) × (ws ≡ v ∷ x.1) × (v.token ≡ Current x.0) × (i ≤ register_index x.0)

abbrev pub Unlettered : ℕ → List Word → Type 0
Unlettered i [] = Unit {0}
Unlettered i (w ∷ ws) = (r : Register) → w.token ≡ Current r → register_index r < i

-- no register is left to be declared, or no `reg` follows
abbrev pub NoReg : ℕ → List Word → Type 0
NoReg i ws = (6 ≤ i) ⊎ Free (Reg ∷ []) ws
