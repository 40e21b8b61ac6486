-- The letters of registers. Assumes nothing.
use Rattle.std.proofs.Common.{◌≡◌, ℕ, zero, suc, ◌<◌, sym, refl, ap, ◌∙◌, arith}
use Rattle.text.specs.declared.word.Register.{Register}
use Rattle.text.specs.declared.word.Register.TheVariants.{A as ra, B as rb, C as rc, D as rd, E as re, F as rf}
use Rattle.text.specs.declared.word.Token.{Token}
use Rattle.text.specs.declared.word.Token.TheVariants.{Number, Current, Initial, True, And, Or, Nand, Reg, Sense, If, Else, While, Break, Empty, Rest, Name, Semicolon, OpenParen, CloseParen, OpenBrace, CloseBrace, OpenBracket, CloseBracket, Less, AtMost, Equal, Set, Plus, Minus, Colon, Question, Comma, Bar, Star, Stray}
use Rattle.text.specs.Words.{letter, register_index}

pub index_small : (r : Register) → register_index r < 6
index_small ra = omega arith
index_small rb = omega arith
index_small rc = omega arith
index_small rd = omega arith
index_small re = omega arith
index_small rf = omega arith

abbrev register_of : ℕ → Register
register_of zero = ra
register_of (suc zero) = rb
register_of (suc (suc zero)) = rc
register_of (suc (suc (suc zero))) = rd
register_of (suc (suc (suc (suc zero)))) = re
register_of (suc (suc (suc (suc (suc n))))) = rf

register_back : (r : Register) → register_of (register_index r) ≡ r
register_back ra = refl
register_back rb = refl
register_back rc = refl
register_back rd = refl
register_back re = refl
register_back rf = refl

pub same_register : (q r : Register) → register_index q ≡ register_index r → q ≡ r
same_register q r e = sym (register_back q) ∙ ap register_of e ∙ register_back r

not_letter : (r : Register) (P : Type 0) → 6 ≡ register_index r → P
not_letter r P e = let h = index_small r in absurd (omega arith)

-- a word with a register's small letter
pub letter_is : (t : Token) (r : Register) → letter t ≡ register_index r → t ≡ Current r
letter_is (Number x) r e = not_letter r _ e
letter_is (Current q) r e = ap Current (same_register q r e)
letter_is (Initial x) r e = not_letter r _ e
letter_is True r e = not_letter r _ e
letter_is And r e = not_letter r _ e
letter_is Or r e = not_letter r _ e
letter_is Nand r e = not_letter r _ e
letter_is Reg r e = not_letter r _ e
letter_is Sense r e = not_letter r _ e
letter_is If r e = not_letter r _ e
letter_is Else r e = not_letter r _ e
letter_is While r e = not_letter r _ e
letter_is Break r e = not_letter r _ e
letter_is Empty r e = not_letter r _ e
letter_is Rest r e = not_letter r _ e
letter_is Name r e = not_letter r _ e
letter_is Semicolon r e = not_letter r _ e
letter_is OpenParen r e = not_letter r _ e
letter_is CloseParen r e = not_letter r _ e
letter_is OpenBrace r e = not_letter r _ e
letter_is CloseBrace r e = not_letter r _ e
letter_is OpenBracket r e = not_letter r _ e
letter_is CloseBracket r e = not_letter r _ e
letter_is Less r e = not_letter r _ e
letter_is AtMost r e = not_letter r _ e
letter_is Equal r e = not_letter r _ e
letter_is Set r e = not_letter r _ e
letter_is Plus r e = not_letter r _ e
letter_is Minus r e = not_letter r _ e
letter_is Colon r e = not_letter r _ e
letter_is Question r e = not_letter r _ e
letter_is Comma r e = not_letter r _ e
letter_is Bar r e = not_letter r _ e
letter_is Star r e = not_letter r _ e
letter_is Stray r e = not_letter r _ e
