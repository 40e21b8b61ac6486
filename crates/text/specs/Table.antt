-- One table for programs, sheets and monitors: what each item that is owed may be paid with. Assumes nothing.
use Rattle.std.specs.Prelude.{Bool, true, false, List, [], ◌∷◌}
use Rattle.grammar.specs.Grammars.{Rule, Grammar}
use Rattle.text.specs.declared.word.Register.{Register}
use Rattle.text.specs.declared.word.Register.TheVariants.{A as ra, B as rb, C as rc, D as rd, E as re, F as rf}
use Rattle.text.specs.declared.word.Token.TheVariants.{True, And, Or, Nand, Reg, Sense, If, Else, While, Break, Empty, Rest, Semicolon, OpenParen, CloseParen, OpenBrace, CloseBrace, OpenBracket, CloseBracket, Less, AtMost, Equal, Set, Plus, Minus, Colon, Question, Comma, Bar, Star}
use Rattle.text.specs.declared.word.Word.{Word}
use Rattle.text.specs.Words.{at, a_number, a_register, names}

-- what a word is there for: its charges depend on it
pub data Role : Type 0 where
  -- brackets and other words that are charged with nothing but depth
  plain : Role
  -- `true` and the operators of A and B
  counted : Role
  -- a number of an A
  operand_number : Role
  -- a register of an A
  operand_register : Role
  -- the register that a statement sets: the statement's first word
  set_register : Role
  -- the register that a statement senses
  sensed_register : Role
  -- the first word of any other labelled statement
  labelled : Role
  -- the word `break`: the first of its statement
  breaks : Role
  -- the letter of a declaration
  declares : Role
  -- a `-` of a declaration
  negates : Role
  -- a number of a declaration
  bounds : Role
  -- the `;` of a declaration
  ends_declaration : Role
  -- `empty`, `*`, `+` and `|` of a sheet
  sheet_sign : Role
  -- `?` as the first word of an assertion, and `rest`
  asserts : Role
  -- a number as the first word of an assertion
  asserts_label : Role
  -- any other label, and the state that an edge leads to
  labels : Role
  -- the state that an edge leaves: the edge's first word
  leaves_state : Role

-- what can be owed
pub data Item : Type 0 where
  -- a number, a register or a group
  operand : Item
  -- `+` or `-` and an operand, any number of times
  more : Item
  -- `true`, a comparison or a group
  one_test : Item
  -- `and`, `or` or `nand` and a test, any number of times
  joined : Item
  -- `<`, `<=` or `==`
  comparison : Item
  close_paren : Item
  close_bracket : Item
  -- `[`, a test and `]`
  bracketed : Item
  semicolon : Item
  -- `=`
  becomes : Item
  -- the register that is sensed
  sensed : Item
  -- `(`, a test and `)`
  guard : Item
  -- a statement
  statement : Item
  -- `else` and a statement, where an `if` has none yet
  other : Item
  -- the end of an `if` with its `else`
  end_if : Item
  -- the end of a `while`
  end_while : Item
  -- statements and the `}` that closes them
  block : Item
  -- statements to the end of the text
  statements : Item
  -- declarations from this register on
  declarations : Register → Item
  -- the letter of a declaration, from this register on
  declared_letter : Register → Item
  -- a number that may have a `-` before it
  bound : Item
  -- a number
  bare_bound : Item
  -- the `;` of a declaration
  close_declaration : Item
  -- an item of a sheet's expression, without the `*` and `+` behind it
  unit : Item
  -- `*` and `+`, any number of times
  repeats : Item
  -- `,` and a label, any number of times
  more_labels : Item
  label : Item
  -- `?`, or labels with commas
  label_set : Item
  colon : Item
  -- the rest of a group of a sheet, to its `)`
  group : Item
  -- the rest of a sheet's expression, to the end of the text
  expression : Item
  -- the state that an edge leads to
  target : Item
  -- edges to the end of the text
  edges : Item

abbrev pub Line : Type 0
Line = Rule Item Word Role

-- a word that fits plays a role, and then these items are owed
abbrev pub line : (Word → Bool) → Role → List Item → Line
line f r k = record { fits = f; role = r; owes = k }

-- the statements that may begin here, with what is owed after them
abbrev pub statement_lines : List Item → List Line
statement_lines k =
    line a_register set_register (becomes ∷ operand ∷ more ∷ semicolon ∷ k)
    ∷ line (at Sense) labelled (sensed ∷ semicolon ∷ k)
    ∷ line (at Semicolon) labelled k
    ∷ line (at If) labelled (guard ∷ statement ∷ other ∷ k)
    ∷ line (at While) labelled (guard ∷ statement ∷ end_while ∷ k)
    ∷ line (at Break) breaks (semicolon ∷ k)
    ∷ line (at OpenBrace) plain (block ∷ k)
    ∷ []

-- the items of an expression that may begin here, with what is owed after them
abbrev pub unit_lines : List Item → List Line
unit_lines k =
    line (at Empty) sheet_sign k
    ∷ line (at OpenParen) plain (unit ∷ repeats ∷ group ∷ k)
    ∷ line (at Question) asserts (colon ∷ bracketed ∷ k)
    ∷ line a_number asserts_label (more_labels ∷ colon ∷ bracketed ∷ k)
    ∷ []

-- after a register's declaration those behind it may be declared
abbrev pub following : Register → List Item
following ra = declarations rb ∷ []
following rb = declarations rc ∷ []
following rc = declarations rd ∷ []
following rd = declarations re ∷ []
following re = declarations rf ∷ []
following rf = []

abbrev pub declares_register : Register → Line
declares_register r = line (names r) declares (bound ∷ bound ∷ bound ∷ bound ∷ close_declaration ∷ following r)

-- the letters from a register on
abbrev pub letter_lines : Register → List Line
letter_lines ra = declares_register ra ∷ declares_register rb ∷ declares_register rc ∷ declares_register rd ∷ declares_register re ∷ declares_register rf ∷ []
letter_lines rb = declares_register rb ∷ declares_register rc ∷ declares_register rd ∷ declares_register re ∷ declares_register rf ∷ []
letter_lines rc = declares_register rc ∷ declares_register rd ∷ declares_register re ∷ declares_register rf ∷ []
letter_lines rd = declares_register rd ∷ declares_register re ∷ declares_register rf ∷ []
letter_lines re = declares_register re ∷ declares_register rf ∷ []
letter_lines rf = declares_register rf ∷ []

abbrev pub rules_of : Item → List Line
rules_of operand =
    line a_number operand_number []
    ∷ line a_register operand_register []
    ∷ line (at OpenParen) plain (operand ∷ more ∷ close_paren ∷ [])
    ∷ []
rules_of more = line (at Plus) counted (operand ∷ more ∷ []) ∷ line (at Minus) counted (operand ∷ more ∷ []) ∷ []
rules_of one_test =
    line (at True) counted []
    ∷ line (at OpenBracket) plain (one_test ∷ joined ∷ close_bracket ∷ [])
    ∷ line a_number operand_number (more ∷ comparison ∷ operand ∷ more ∷ [])
    ∷ line a_register operand_register (more ∷ comparison ∷ operand ∷ more ∷ [])
    ∷ line (at OpenParen) plain (operand ∷ more ∷ close_paren ∷ more ∷ comparison ∷ operand ∷ more ∷ [])
    ∷ []
rules_of joined =
    line (at And) counted (one_test ∷ joined ∷ [])
    ∷ line (at Or) counted (one_test ∷ joined ∷ [])
    ∷ line (at Nand) counted (one_test ∷ joined ∷ [])
    ∷ []
rules_of comparison = line (at Less) counted [] ∷ line (at AtMost) counted [] ∷ line (at Equal) counted [] ∷ []
rules_of close_paren = line (at CloseParen) plain [] ∷ []
rules_of close_bracket = line (at CloseBracket) plain [] ∷ []
rules_of bracketed = line (at OpenBracket) plain (one_test ∷ joined ∷ close_bracket ∷ []) ∷ []
rules_of semicolon = line (at Semicolon) plain [] ∷ []
rules_of becomes = line (at Set) plain [] ∷ []
rules_of sensed = line a_register sensed_register [] ∷ []
rules_of guard = line (at OpenParen) plain (one_test ∷ joined ∷ close_paren ∷ []) ∷ []
rules_of statement = statement_lines []
rules_of other = line (at Else) plain (statement ∷ end_if ∷ []) ∷ []
rules_of end_if = []
rules_of end_while = []
rules_of block = line (at CloseBrace) plain [] ∷ statement_lines (block ∷ [])
rules_of statements = statement_lines (statements ∷ [])
rules_of (declarations r) = line (at Reg) plain (declared_letter r ∷ []) ∷ []
rules_of (declared_letter r) = letter_lines r
rules_of bound = line a_number bounds [] ∷ line (at Minus) negates (bare_bound ∷ []) ∷ []
rules_of bare_bound = line a_number bounds [] ∷ []
rules_of close_declaration = line (at Semicolon) ends_declaration [] ∷ []
rules_of unit = unit_lines []
rules_of repeats = line (at Star) sheet_sign (repeats ∷ []) ∷ line (at Plus) sheet_sign (repeats ∷ []) ∷ []
rules_of more_labels = line (at Comma) plain (label ∷ more_labels ∷ []) ∷ []
rules_of label = line a_number labels [] ∷ []
rules_of label_set = line (at Question) plain [] ∷ line a_number labels (more_labels ∷ []) ∷ []
rules_of colon = line (at Colon) plain [] ∷ []
rules_of group = line (at CloseParen) plain [] ∷ line (at Bar) sheet_sign (unit ∷ repeats ∷ group ∷ []) ∷ unit_lines (repeats ∷ group ∷ [])
rules_of expression = line (at Bar) sheet_sign (unit ∷ repeats ∷ expression ∷ []) ∷ line (at Rest) asserts [] ∷ unit_lines (repeats ∷ expression ∷ [])
rules_of target = line a_number labels [] ∷ []
rules_of edges = line a_number leaves_state (target ∷ label_set ∷ colon ∷ bracketed ∷ semicolon ∷ edges ∷ []) ∷ []

-- what may be left out where no line fits
abbrev pub optional : Item → Bool
optional operand = false
optional more = true
optional one_test = false
optional joined = true
optional comparison = false
optional close_paren = false
optional close_bracket = false
optional bracketed = false
optional semicolon = false
optional becomes = false
optional sensed = false
optional guard = false
optional statement = false
optional other = true
optional end_if = true
optional end_while = true
optional block = false
optional statements = true
optional (declarations r) = true
optional (declared_letter r) = false
optional bound = false
optional bare_bound = false
optional close_declaration = false
optional unit = false
optional repeats = true
optional more_labels = true
optional label = false
optional label_set = false
optional colon = false
optional group = false
optional expression = true
optional target = false
optional edges = true

-- what repeats to the end of a text
abbrev pub to_the_end : Item → Bool
to_the_end operand = false
to_the_end more = false
to_the_end one_test = false
to_the_end joined = false
to_the_end comparison = false
to_the_end close_paren = false
to_the_end close_bracket = false
to_the_end bracketed = false
to_the_end semicolon = false
to_the_end becomes = false
to_the_end sensed = false
to_the_end guard = false
to_the_end statement = false
to_the_end other = false
to_the_end end_if = false
to_the_end end_while = false
to_the_end block = false
to_the_end statements = true
to_the_end (declarations r) = false
to_the_end (declared_letter r) = false
to_the_end bound = false
to_the_end bare_bound = false
to_the_end close_declaration = false
to_the_end unit = false
to_the_end repeats = false
to_the_end more_labels = false
to_the_end label = false
to_the_end label_set = false
to_the_end colon = false
to_the_end group = false
to_the_end expression = true
to_the_end target = false
to_the_end edges = true

abbrev pub table : Grammar Item Word Role
table = record { rules = rules_of; may = optional }

-- what is owed at the start of a program, of a sheet and of a monitor
abbrev pub program_start : List Item
program_start = declarations ra ∷ statements ∷ []

abbrev pub sheet_start : List Item
sheet_start = unit ∷ repeats ∷ expression ∷ []

abbrev pub monitor_start : List Item
monitor_start = edges ∷ []
