-- How a text is cut into words: the longest runs of letters or of digits, and the signs, longest first. Assumes nothing.
use Rattle.std.specs.Prelude.{ℕ, zero, suc, ◌+◌, ◌-◌, ◌*◌, min, Bool, false, cond, ◌&&◌, ◌||◌, List, [], ◌∷◌, length, take, codes, fold, ◌==◌, nat_le, slice_index}
use Rattle.std.specs.Str.{bytes_eq}
use Rattle.text.specs.declared.word.Register.TheVariants.{A as ra, B as rb, C as rc, D as rd, E as re, F as rf}
use Rattle.text.specs.declared.word.Token.{Token}
use Rattle.text.specs.declared.word.Token.TheVariants.{Number, Current, Initial, True, And, Or, Nand, Reg, Sense, If, Else, While, Break, Empty, Rest, Name, Semicolon, OpenParen, CloseParen, OpenBrace, CloseBrace, OpenBracket, CloseBracket, Less, AtMost, Equal, Set, Plus, Minus, Colon, Question, Comma, Bar, Star, Stray}
use Rattle.text.specs.declared.word.Word.{Word}

-- a byte from one to another
abbrev pub between : ℕ → ℕ → ℕ → Bool
between low high b = nat_le low b && nat_le b high

-- the letters a to z and A to Z
abbrev pub is_letter : ℕ → Bool
is_letter b = between 97 122 b || between 65 90 b

-- the digits 0 to 9
abbrev pub is_digit : ℕ → Bool
is_digit b = between 48 57 b

-- space and line feed stand between words
abbrev pub separates : ℕ → Bool
separates b = b == 32 || b == 10

-- how many bytes in a row pass a test
abbrev pub run : (ℕ → Bool) → List ℕ → ℕ
run p [] = 0
run p (b ∷ bs) = cond (p b) (suc (run p bs)) 0

-- the value of a run of digits
abbrev pub decimal : List ℕ → ℕ
decimal ds = fold (λ n d. n * 10 + (d - 48)) 0 ds

-- the token of a run of digits: all values above 1,000 are alike
abbrev pub number_token : List ℕ → Token
number_token ds = Number (min 1001 (decimal ds))

-- the token of one letter: a register now, a register at the start, or a name
abbrev pub letter_token : ℕ → Token
letter_token b = cond (b == 97) (Current ra) (cond (b == 98) (Current rb) (cond (b == 99) (Current rc) (cond (b == 100) (Current rd) (cond (b == 101) (Current re) (cond (b == 102) (Current rf) (cond (b == 65) (Initial ra) (cond (b == 66) (Initial rb) (cond (b == 67) (Initial rc) (cond (b == 68) (Initial rd) (cond (b == 69) (Initial re) (cond (b == 70) (Initial rf) (Name))))))))))))

-- the words of sheets, else a name
abbrev pub sheet_word : List ℕ → Token
sheet_word bs = cond (bytes_eq bs (codes "empty")) Empty (cond (bytes_eq bs (codes "rest")) Rest (Name))

-- the words of statements, else those of sheets
abbrev pub statement_word : List ℕ → Token
statement_word bs = cond (bytes_eq bs (codes "reg")) Reg (cond (bytes_eq bs (codes "sense")) Sense (cond (bytes_eq bs (codes "if")) If (cond (bytes_eq bs (codes "else")) Else (cond (bytes_eq bs (codes "while")) While (cond (bytes_eq bs (codes "break")) Break (sheet_word bs))))))

-- the words of expressions, else those of statements
abbrev pub expression_word : List ℕ → Token
expression_word bs = cond (bytes_eq bs (codes "true")) True (cond (bytes_eq bs (codes "and")) And (cond (bytes_eq bs (codes "or")) Or (cond (bytes_eq bs (codes "nand")) Nand (statement_word bs))))

-- the token of a run of letters
abbrev pub letters_token : List ℕ → Token
letters_token bs = cond (length bs == 1) (letter_token (slice_index bs 0)) (expression_word bs)

-- a sign of one byte, or a byte that begins no word
abbrev pub sign_token : ℕ → Token
sign_token b = cond (b == 59) Semicolon (cond (b == 40) OpenParen (cond (b == 41) CloseParen (cond (b == 123) OpenBrace (cond (b == 125) CloseBrace (cond (b == 91) OpenBracket (cond (b == 93) CloseBracket (cond (b == 43) Plus (cond (b == 45) Minus (cond (b == 58) Colon (cond (b == 63) Question (cond (b == 44) Comma (cond (b == 124) Bar (cond (b == 42) Star (Stray))))))))))))))

-- whether the next byte is `=`
abbrev pub equals_next : List ℕ → Bool
equals_next [] = false
equals_next (b ∷ bs) = b == 61

-- the token of a byte that is no letter and no digit, with the byte behind it
abbrev pub mark_token : ℕ → List ℕ → Token
mark_token b bs = cond (b == 60) (cond (equals_next bs) AtMost Less) (cond (b == 61) (cond (equals_next bs) Equal Set) (sign_token b))

abbrev pub mark_size : ℕ → List ℕ → ℕ
mark_size b bs = cond (b == 60 || b == 61) (cond (equals_next bs) 2 1) 1

-- the word that begins with the byte b and goes on with those of bs, and its length
abbrev pub token_at : ℕ → List ℕ → Token
token_at b bs = cond (is_letter b) (letters_token (take (run is_letter (b ∷ bs)) (b ∷ bs))) (cond (is_digit b) (number_token (take (run is_digit (b ∷ bs)) (b ∷ bs))) (mark_token b bs))

abbrev pub size_at : ℕ → List ℕ → ℕ
size_at b bs = cond (is_letter b) (run is_letter (b ∷ bs)) (cond (is_digit b) (run is_digit (b ∷ bs)) (mark_size b bs))

-- the words of what is left of a text from place p on, after the n bytes that belong to the word before
abbrev pub words_from : ℕ → ℕ → List ℕ → List Word
words_from p n [] = []
words_from p zero (b ∷ bs) = cond (separates b) (words_from (suc p) 0 bs) (record { token = token_at b bs; place = p } ∷ words_from (suc p) (size_at b bs - 1) bs)
words_from p (suc n) (b ∷ bs) = words_from (suc p) n bs

-- the words of a text
abbrev pub words : List ℕ → List Word
words bs = words_from 0 0 bs
