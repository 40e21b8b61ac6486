use Rattle.syntax.proofs.theorem.same_texts.Goals as goal
use Rattle.syntax.proofs.Forth.{program_reads}
use Rattle.syntax.proofs.Back.{reads_program}

pub returns : goal.returns
returns c = λ ws. (program_reads ws, reads_program ws)
