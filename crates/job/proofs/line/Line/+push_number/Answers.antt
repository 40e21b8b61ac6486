use Rattle.std.proofs.Common.{◌≡◌, ◌++◌, decimal, length, ap, ◌∙◌, arith, length-append}
use Rattle.job.proofs.Numerals.{length_step, last_digit, only_digit, digit_room}
use Rattle.job.proofs.line.Line.+push_number.Goals as goal
use Rattle.job.proofs.line.Line.+push_number.Goals.{then-number-ge10, else-number-ge10}

pub push_number-requires : goal.push_number-requires
push_number-requires t c = (omega arith, omega (arith, length_step c.args.number c.if-number-ge10.true (omega arith)))

pub push_bytes-requires : goal.push_bytes-requires
push_bytes-requires t c =
    elim c.if-number-ge10.branch [
      | then-number-ge10 w ↦ digit_room _ _ _ _ _ c.requires (last_digit _ _ _ w.if-number-ge10.true (omega arith) (w.self-is ∙ w.push_number.ensures.number))
      | else-number-ge10 w ↦ digit_room _ _ _ _ _ c.requires (only_digit _ _ _ w.if-number-ge10.false w.self-is)
    ]

pub returns : goal.returns
returns t c =
    let number : c.push_bytes.new.self ≡ c.args.self.now ++ decimal c.args.number =
    c.push_bytes.ensures.bytes ∙ elim c.if-number-ge10.branch [
      | then-number-ge10 w ↦ last_digit _ _ _ w.if-number-ge10.true (omega arith) (w.self-is ∙ w.push_number.ensures.number)
      | else-number-ge10 w ↦ only_digit _ _ _ w.if-number-ge10.false w.self-is
    ] in
    record { number = number; longer = ap length number ∙ length-append c.args.self.now (decimal c.args.number) }
