-- What the table of the grammar asks of a word. Assumes nothing.
use Rattle.std.specs.Prelude.{ℕ, Bool, true, false, cond, ◌==◌, nat_lt, slice_index_or}
use Rattle.text.specs.declared.word.Register.{Register}
use Rattle.text.specs.declared.word.Register.TheVariants.{A as ra, B as rb, C as rc, D as rd, E as re, F as rf}
use Rattle.text.specs.declared.word.Token.{Token}
use Rattle.text.specs.declared.word.Token.TheVariants.{Number, Current, Initial, True, And, Or, Nand, Reg, Sense, If, Else, While, Break, Empty, Rest, Name, Semicolon, OpenParen, CloseParen, OpenBrace, CloseBrace, OpenBracket, CloseBracket, Less, AtMost, Equal, Set, Plus, Minus, Colon, Question, Comma, Bar, Star, Stray}
use Rattle.text.specs.declared.word.Kind.{Kind}
use Rattle.text.specs.declared.word.Kind.TheVariants.{Number as NumberKind, Letter as LetterKind, True as TrueKind, And as AndKind, Or as OrKind, Nand as NandKind, Reg as RegKind, Sense as SenseKind, If as IfKind, Else as ElseKind, While as WhileKind, Break as BreakKind, Empty as EmptyKind, Rest as RestKind, Name as NameKind, Semicolon as SemicolonKind, OpenParen as OpenParenKind, CloseParen as CloseParenKind, OpenBrace as OpenBraceKind, CloseBrace as CloseBraceKind, OpenBracket as OpenBracketKind, CloseBracket as CloseBracketKind, Less as LessKind, AtMost as AtMostKind, Equal as EqualKind, Set as SetKind, Plus as PlusKind, Minus as MinusKind, Colon as ColonKind, Question as QuestionKind, Comma as CommaKind, Bar as BarKind, Star as StarKind, Stray as StrayKind}
use Rattle.text.specs.declared.word.Word.{Word}
use Rattle.text.specs.declared.word.Scope.{Scope}
use Rattle.text.specs.declared.word.Scope.TheVariants.{Every, Declared}

-- the register's place among the six values of a moment
abbrev pub register_index : Register → ℕ
register_index ra = 0
register_index rb = 1
register_index rc = 2
register_index rd = 3
register_index re = 4
register_index rf = 5

-- the kind of a word: words of one kind are alike but for the number or the register
abbrev pub kind : Token → ℕ
kind (Number n) = 0
kind (Current r) = 1
kind (Initial r) = 1
kind True = 2
kind And = 3
kind Or = 4
kind Nand = 5
kind Reg = 6
kind Sense = 7
kind If = 8
kind Else = 9
kind While = 10
kind Break = 11
kind Empty = 12
kind Rest = 13
kind Name = 14
kind Semicolon = 15
kind OpenParen = 16
kind CloseParen = 17
kind OpenBrace = 18
kind CloseBrace = 19
kind OpenBracket = 20
kind CloseBracket = 21
kind Less = 22
kind AtMost = 23
kind Equal = 24
kind Set = 25
kind Plus = 26
kind Minus = 27
kind Colon = 28
kind Question = 29
kind Comma = 30
kind Bar = 31
kind Star = 32
kind Stray = 33

-- the number of a kind
abbrev pub kind_number : Kind → ℕ
kind_number NumberKind = 0
kind_number LetterKind = 1
kind_number TrueKind = 2
kind_number AndKind = 3
kind_number OrKind = 4
kind_number NandKind = 5
kind_number RegKind = 6
kind_number SenseKind = 7
kind_number IfKind = 8
kind_number ElseKind = 9
kind_number WhileKind = 10
kind_number BreakKind = 11
kind_number EmptyKind = 12
kind_number RestKind = 13
kind_number NameKind = 14
kind_number SemicolonKind = 15
kind_number OpenParenKind = 16
kind_number CloseParenKind = 17
kind_number OpenBraceKind = 18
kind_number CloseBraceKind = 19
kind_number OpenBracketKind = 20
kind_number CloseBracketKind = 21
kind_number LessKind = 22
kind_number AtMostKind = 23
kind_number EqualKind = 24
kind_number SetKind = 25
kind_number PlusKind = 26
kind_number MinusKind = 27
kind_number ColonKind = 28
kind_number QuestionKind = 29
kind_number CommaKind = 30
kind_number BarKind = 31
kind_number StarKind = 32
kind_number StrayKind = 33

-- the value of a number, 0 of any other word
abbrev pub amount : Token → ℕ
amount (Number n) = n
amount (Current r) = 0
amount (Initial r) = 0
amount True = 0
amount And = 0
amount Or = 0
amount Nand = 0
amount Reg = 0
amount Sense = 0
amount If = 0
amount Else = 0
amount While = 0
amount Break = 0
amount Empty = 0
amount Rest = 0
amount Name = 0
amount Semicolon = 0
amount OpenParen = 0
amount CloseParen = 0
amount OpenBrace = 0
amount CloseBrace = 0
amount OpenBracket = 0
amount CloseBracket = 0
amount Less = 0
amount AtMost = 0
amount Equal = 0
amount Set = 0
amount Plus = 0
amount Minus = 0
amount Colon = 0
amount Question = 0
amount Comma = 0
amount Bar = 0
amount Star = 0
amount Stray = 0

-- the place of a register's small letter, 6 of any other word
abbrev pub letter : Token → ℕ
letter (Number n) = 6
letter (Current r) = register_index r
letter (Initial r) = 6
letter True = 6
letter And = 6
letter Or = 6
letter Nand = 6
letter Reg = 6
letter Sense = 6
letter If = 6
letter Else = 6
letter While = 6
letter Break = 6
letter Empty = 6
letter Rest = 6
letter Name = 6
letter Semicolon = 6
letter OpenParen = 6
letter CloseParen = 6
letter OpenBrace = 6
letter CloseBrace = 6
letter OpenBracket = 6
letter CloseBracket = 6
letter Less = 6
letter AtMost = 6
letter Equal = 6
letter Set = 6
letter Plus = 6
letter Minus = 6
letter Colon = 6
letter Question = 6
letter Comma = 6
letter Bar = 6
letter Star = 6
letter Stray = 6

-- the registers that may stand: all of them, or the small letters of the declared ones
abbrev pub allowed : Scope → Token → Bool
allowed Every t = true
allowed (Declared ds) t = cond (nat_lt (letter t) 6) (slice_index_or ds (letter t) false) false

-- the word is of a token's kind
abbrev pub at : Token → Word → Bool
at t w = kind w.token == kind t

abbrev pub a_number : Word → Bool
a_number w = at (Number 0) w

-- a register's letter, small or capital
abbrev pub a_register : Word → Bool
a_register w = at (Current ra) w

-- the small letter of one register
abbrev pub names : Register → Word → Bool
names r w = letter w.token == register_index r
