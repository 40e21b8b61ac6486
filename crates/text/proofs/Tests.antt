-- What tests of words tell. Assumes nothing.
use Rattle.std.proofs.Common.{◌≡◌, ℕ, ◌≤◌, Bool, true, false, eqb, ◌⊎◌, List, [], ◌∷◌, get_or, sym, refl, ap, ◌∙◌, inl, inr, arith, lit≤, eq-eqb, eqb-true}
use borrow.Author.Tests.{clash}
use denote.Enum.Bare.{sameb}
use denote.Enum.Declared.{tag_of}
use Rattle.text.specs.declared.word.Register.{Register}
use Rattle.text.specs.declared.word.Token.{Token}
use Rattle.text.specs.declared.word.Token.TheVariants.{Number, Current, Initial, True, And, Or, Nand, Reg, Sense, If, Else, While, Break, Empty, Rest, Name, Semicolon, OpenParen, CloseParen, OpenBrace, CloseBrace, OpenBracket, CloseBracket, Less, AtMost, Equal, Set, Plus, Minus, Colon, Question, Comma, Bar, Star, Stray}
use Rattle.text.specs.declared.word.Kind.{Kind}
use Rattle.text.specs.declared.word.Kind.TheVariants.{Number as NumberKind, Letter as LetterKind, True as TrueKind, And as AndKind, Or as OrKind, Nand as NandKind, Reg as RegKind, Sense as SenseKind, If as IfKind, Else as ElseKind, While as WhileKind, Break as BreakKind, Empty as EmptyKind, Rest as RestKind, Name as NameKind, Semicolon as SemicolonKind, OpenParen as OpenParenKind, CloseParen as CloseParenKind, OpenBrace as OpenBraceKind, CloseBrace as CloseBraceKind, OpenBracket as OpenBracketKind, CloseBracket as CloseBracketKind, Less as LessKind, AtMost as AtMostKind, Equal as EqualKind, Set as SetKind, Plus as PlusKind, Minus as MinusKind, Colon as ColonKind, Question as QuestionKind, Comma as CommaKind, Bar as BarKind, Star as StarKind, Stray as StrayKind}
use Rattle.text.specs.contracts.word.Kind.{the_type}
use Rattle.text.specs.declared.word.Word.{Word}
use Rattle.text.specs.Derivations.{Free}
use Rattle.text.specs.Reading.{Unlike}
use Rattle.text.specs.Words.{kind, kind_number}

-- the tokens in the order of their kinds
abbrev tokens : List Token
tokens = Stray ∷ Stray ∷ True ∷ And ∷ Or ∷ Nand ∷ Reg ∷ Sense ∷ If ∷ Else ∷ While ∷ Break ∷ Empty ∷ Rest ∷ Name ∷ Semicolon ∷ OpenParen ∷ CloseParen ∷ OpenBrace ∷ CloseBrace ∷ OpenBracket ∷ CloseBracket ∷ Less ∷ AtMost ∷ Equal ∷ Set ∷ Plus ∷ Minus ∷ Colon ∷ Question ∷ Comma ∷ Bar ∷ Star ∷ Stray ∷ []

abbrev pub of_kind : ℕ → Token
of_kind n = get_or tokens n Stray

-- a number, a register, or a word that is known by its kind
pub data Sort (t : Token) : Type 0 where
  numeric : (n : ℕ) → t ≡ Number n → Sort t
  small : (r : Register) → t ≡ Current r → Sort t
  capital : (r : Register) → t ≡ Initial r → Sort t
  other : 2 ≤ kind t → of_kind (kind t) ≡ t → Sort t

pub sort : (t : Token) → Sort t
sort (Number n) = numeric n refl
sort (Current r) = small r refl
sort (Initial r) = capital r refl
sort True = other (lit≤ tt) refl
sort And = other (lit≤ tt) refl
sort Or = other (lit≤ tt) refl
sort Nand = other (lit≤ tt) refl
sort Reg = other (lit≤ tt) refl
sort Sense = other (lit≤ tt) refl
sort If = other (lit≤ tt) refl
sort Else = other (lit≤ tt) refl
sort While = other (lit≤ tt) refl
sort Break = other (lit≤ tt) refl
sort Empty = other (lit≤ tt) refl
sort Rest = other (lit≤ tt) refl
sort Name = other (lit≤ tt) refl
sort Semicolon = other (lit≤ tt) refl
sort OpenParen = other (lit≤ tt) refl
sort CloseParen = other (lit≤ tt) refl
sort OpenBrace = other (lit≤ tt) refl
sort CloseBrace = other (lit≤ tt) refl
sort OpenBracket = other (lit≤ tt) refl
sort CloseBracket = other (lit≤ tt) refl
sort Less = other (lit≤ tt) refl
sort AtMost = other (lit≤ tt) refl
sort Equal = other (lit≤ tt) refl
sort Set = other (lit≤ tt) refl
sort Plus = other (lit≤ tt) refl
sort Minus = other (lit≤ tt) refl
sort Colon = other (lit≤ tt) refl
sort Question = other (lit≤ tt) refl
sort Comma = other (lit≤ tt) refl
sort Bar = other (lit≤ tt) refl
sort Star = other (lit≤ tt) refl
sort Stray = other (lit≤ tt) refl

-- a token of the kind of one with no number and no register is that token
pub is_token : (t u : Token) → 2 ≤ kind u → of_kind (kind u) ≡ u → eqb (kind t) (kind u) ≡ true → t ≡ u
is_token t u big own e = go (sort t) (eqb-true (kind t) (kind u) e)
  where
    go : Sort t → kind t ≡ kind u → t ≡ u
    go (numeric n h) same = absurd (let z = ap kind h in omega arith)
    go (small r h) same = absurd (let z = ap kind h in omega arith)
    go (capital r h) same = absurd (let z = ap kind h in omega arith)
    go (other b h) same = sym h ∙ ap of_kind same ∙ own

pub is_number : (t : Token) → eqb (kind t) 0 ≡ true → (n : ℕ) × (t ≡ Number n)
is_number t e = go (sort t) (eqb-true (kind t) 0 e)
  where
    go : Sort t → kind t ≡ 0 → (n : ℕ) × (t ≡ Number n)
    go (numeric n h) same = (n, h)
    go (small r h) same = absurd (let z = ap kind h in omega arith)
    go (capital r h) same = absurd (let z = ap kind h in omega arith)
    go (other b h) same = absurd (omega arith)

pub is_register : (t : Token) → eqb (kind t) 1 ≡ true → (r : Register) × ((t ≡ Current r) ⊎ (t ≡ Initial r))
is_register t e = go (sort t) (eqb-true (kind t) 1 e)
  where
    go : Sort t → kind t ≡ 1 → (r : Register) × ((t ≡ Current r) ⊎ (t ≡ Initial r))
    go (numeric n h) same = absurd (let z = ap kind h in omega arith)
    go (small r h) same = (r, inl h)
    go (capital r h) same = (r, inr h)
    go (other b h) same = absurd (omega arith)

not_true : (b : Bool) → (b ≡ true → ⊥) → b ≡ false
not_true true h = absurd (h refl)
not_true false h = refl

-- a token of another kind than a given one, which has no number and no register
pub other_kind : (t u : Token) → 2 ≤ kind u → of_kind (kind u) ≡ u → (t ≡ u → ⊥) → eqb (kind t) (kind u) ≡ false
other_kind t u big own apart = not_true _ (λ e. apart (is_token t u big own e))

pub no_number : (t : Token) → ((n : ℕ) → t ≡ Number n → ⊥) → eqb (kind t) 0 ≡ false
no_number t apart = not_true _ (λ e. let s = is_number t e in apart s.0 s.1)

either_way : {X Y : Type 0} → X ⊎ Y → (X → ⊥) → (Y → ⊥) → ⊥
either_way (inl x) f g = f x
either_way (inr y) f g = g y

pub no_register : (t : Token) → ((r : Register) → t ≡ Current r → ⊥) → ((r : Register) → t ≡ Initial r → ⊥) → eqb (kind t) 1 ≡ false
no_register t p q = not_true _ (λ e. let s = is_register t e in either_way s.1 (p s.0) (q s.0))

pub same_kind : (t u : Token) → t ≡ u → eqb (kind t) (kind u) ≡ true
same_kind t u e = eq-eqb (kind t) (kind u) (ap kind e)

-- two tokens of different kinds differ
pub kinds_differ : (t u : Token) → eqb (kind t) (kind u) ≡ false → t ≡ u → ⊥
kinds_differ t u h e = clash (sym h ∙ same_kind t u e)

-- words that begin with no sign of a kind are free of that sign
pub free_of : (t : Token) (ws : List Word) → Unlike t ws → Free (t ∷ []) ws
free_of t [] u = tt
free_of t (w ∷ ws) u = (kinds_differ w.token t u, tt)

-- two kinds are the same where their numbers are
number_is_tag : (k : Kind) → kind_number k ≡ tag_of the_type k
number_is_tag NumberKind = refl
number_is_tag LetterKind = refl
number_is_tag TrueKind = refl
number_is_tag AndKind = refl
number_is_tag OrKind = refl
number_is_tag NandKind = refl
number_is_tag RegKind = refl
number_is_tag SenseKind = refl
number_is_tag IfKind = refl
number_is_tag ElseKind = refl
number_is_tag WhileKind = refl
number_is_tag BreakKind = refl
number_is_tag EmptyKind = refl
number_is_tag RestKind = refl
number_is_tag NameKind = refl
number_is_tag SemicolonKind = refl
number_is_tag OpenParenKind = refl
number_is_tag CloseParenKind = refl
number_is_tag OpenBraceKind = refl
number_is_tag CloseBraceKind = refl
number_is_tag OpenBracketKind = refl
number_is_tag CloseBracketKind = refl
number_is_tag LessKind = refl
number_is_tag AtMostKind = refl
number_is_tag EqualKind = refl
number_is_tag SetKind = refl
number_is_tag PlusKind = refl
number_is_tag MinusKind = refl
number_is_tag ColonKind = refl
number_is_tag QuestionKind = refl
number_is_tag CommaKind = refl
number_is_tag BarKind = refl
number_is_tag StarKind = refl
number_is_tag StrayKind = refl

pub same_kinds : (a b : Kind) (t u : Token) (r : Bool) → r ≡ sameb the_type a b → kind_number a ≡ kind t → kind_number b ≡ kind u → r ≡ eqb (kind t) (kind u)
same_kinds a b t u r e p q = e ∙ ap (λ n. eqb n (tag_of the_type b)) (sym (number_is_tag a) ∙ p) ∙ ap (eqb (kind t)) (sym (number_is_tag b) ∙ q)
