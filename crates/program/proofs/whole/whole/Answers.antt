use Rattle.std.proofs.Common.{◌≡◌, ◌<◌, Bool, List, length, ap, ◌∙◌, arith}
use Rattle.std.proofs.lemmas.Bool.Decides.{nat_tests}
use Rattle.text.specs.declared.word.Scope.TheVariants.{Declared}
use Rattle.text.proofs.Parts.{broken}
use Rattle.std.proofs.lemmas.List.{nil_from_length}
use Rattle.program.proofs.Wholes.{blank_read, list_stopped, too_much, whole_read}
use Rattle.program.proofs.whole.whole.Goals as goal

pub declarations-requires : goal.declarations-requires
declarations-requires c = blank_read c.args.words.now c.args.header.now c.requires.0

pub returns-in_err-rest : goal.returns-in_err-rest
returns-in_err-rest c =
    let d = c.in_ok-body.ensures in
    let l = c.new.ensures ∙ ap (λ (s : List Bool). record { scope = Declared s; end = c.args.end; left = 16 }) c.flags.ensures in
    broken _ _ _ c.in_err-rest.field-0.0 c.from_residual-in_err-rest.ensures.1 (list_stopped d.0 d.1 l c.args.board.now c.requires.1.0 c.requires.1.1 _ c.in_err-rest.ensures)

pub returns-then-is_empty : goal.returns-then-is_empty
returns-then-is_empty c =
    let d = c.in_ok-body.ensures in
    let l = c.new.ensures ∙ ap (λ (s : List Bool). record { scope = Declared s; end = c.args.end; left = 16 }) c.flags.ensures in
    let z : length c.in_ok-rest.rest.now ≡ 0 = grind (arith, nat_tests) in
    whole_read d.0 d.1 l c.args.board.now c.requires.1.0 c.requires.1.1 c.in_ok-rest.ensures (nil_from_length _ z)

pub returns-else-is_empty : goal.returns-else-is_empty
returns-else-is_empty c =
    let d = c.in_ok-body.ensures in
    let l = c.new.ensures ∙ ap (λ (s : List Bool). record { scope = Declared s; end = c.args.end; left = 16 }) c.flags.ensures in
    let z : 0 < length c.in_ok-rest.rest.now = grind (arith, nat_tests) in
    too_much d.0 d.1 l c.args.board.now c.requires.1.0 c.requires.1.1 c.in_ok-rest.ensures _ z c.unexpected.ensures
