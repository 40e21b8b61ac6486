use Rattle.lexing.specs.Lexing.{is_letter, is_digit}
use Rattle.lexing.proofs.Runs.{front_letters, front_digits}
use Rattle.lexing.proofs.scan.front.Goals as goal

pub returns-then-letter : goal.returns-then-letter
returns-then-letter c = λ b bs e. front_letters c.args.bytes.now b bs e _ _ c.letters_token.ensures (c.run-n.ensures.count is_letter (λ x r h. h)) c.if-letter.ensures

pub returns-then-digit : goal.returns-then-digit
returns-then-digit c = λ b bs e. front_digits c.args.bytes.now b bs e _ _ c.value.ensures (c.run-n-then-digit.ensures.count is_digit (λ x r h. h)) c.if-letter.ensures c.if-digit.ensures
