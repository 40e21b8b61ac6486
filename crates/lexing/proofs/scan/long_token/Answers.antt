use Rattle.std.proofs.Common.{arith, rules, codes}
use Rattle.lexing.specs.Lexing.{expression_word}
use Rattle.lexing.proofs.Runs.{read_as}
use Rattle.lexing.proofs.scan.long_token.Goals as goal

pub returns-in-true : goal.returns-in-true
returns-in-true c = read_as expression_word c.args.run.now (codes "true") (omega arith) (search rules)

pub returns-in-nand : goal.returns-in-nand
returns-in-nand c = read_as expression_word c.args.run.now (codes "nand") (omega arith) (search rules)

pub returns-in-else : goal.returns-in-else
returns-in-else c = read_as expression_word c.args.run.now (codes "else") (omega arith) (search rules)

pub returns-in-rest : goal.returns-in-rest
returns-in-rest c = read_as expression_word c.args.run.now (codes "rest") (omega arith) (search rules)

pub returns-in-sense : goal.returns-in-sense
returns-in-sense c = read_as expression_word c.args.run.now (codes "sense") (omega arith) (search rules)

pub returns-in-while : goal.returns-in-while
returns-in-while c = read_as expression_word c.args.run.now (codes "while") (omega arith) (search rules)

pub returns-in-break : goal.returns-in-break
returns-in-break c = read_as expression_word c.args.run.now (codes "break") (omega arith) (search rules)

pub returns-in-empty : goal.returns-in-empty
returns-in-empty c = read_as expression_word c.args.run.now (codes "empty") (omega arith) (search rules)
