use Rattle.std.proofs.Common.{refl, ap, ◌∙◌, arith, lit≤}
use Rattle.text.specs.declared.reading.Fault.{Fault}
use Rattle.text.specs.declared.word.Token.TheVariants.{Semicolon}
use Rattle.text.proofs.Tests.{is_token}
use Rattle.text.proofs.Parts.{broken}
use Rattle.program.proofs.Bounding.{same, proper_same}
use Rattle.program.proofs.Headed.{letter_none, first_stopped, second_stopped, third_stopped, fourth_stopped, close_none, out_of_range, too_many, declared_read}
use Rattle.program.proofs.declarations.declaration.Goals as goal

pub returns-in_err-register : goal.returns-in_err-register
returns-in_err-register c = broken _ _ _ c.in_err-register.field-0.0 c.from_residual.ensures.1
    (λ ws w e s R. letter_none e s R _ _ c.in_err-register.ensures.1 c.in_err-register.ensures.0)

pub returns-in_err-low : goal.returns-in_err-low
returns-in_err-low c =
    let v = c.in_ok-register.ensures in
    broken _ _ _ c.in_err-low.field-0.0 c.from_residual-in_err-low.ensures.1
    (λ ws w e s R. first_stopped e s R v.1 v.2 v.3 _ _ c.in_err-low.ensures)

pub returns-in_err-high : goal.returns-in_err-high
returns-in_err-high c =
    let v = c.in_ok-register.ensures in
    broken _ _ _ c.in_err-high.field-0.0 c.from_residual-in_err-high.ensures.1
    (λ ws w e s R. second_stopped e s R v.1 v.2 v.3 c.in_ok-low.ensures _ _ c.in_err-high.ensures)

pub returns-in_err-from : goal.returns-in_err-from
returns-in_err-from c =
    let v = c.in_ok-register.ensures in
    broken _ _ _ c.in_err-from.field-0.0 c.from_residual-in_err-from.ensures.1
    (λ ws w e s R. third_stopped e s R v.1 v.2 v.3 c.in_ok-low.ensures c.in_ok-high.ensures _ _ c.in_err-from.ensures)

pub returns-in_err-to : goal.returns-in_err-to
returns-in_err-to c =
    let v = c.in_ok-register.ensures in
    broken _ _ _ c.in_err-to.field-0.0 c.from_residual-in_err-to.ensures.1
    (λ ws w e s R. fourth_stopped e s R v.1 v.2 v.3 c.in_ok-low.ensures c.in_ok-high.ensures c.in_ok-from.ensures _ _ c.in_err-to.ensures)

pub returns-in_err-mark : goal.returns-in_err-mark
returns-in_err-mark c =
    let v = c.in_ok-register.ensures in
    broken _ _ _ c.in_err-mark.field-0.0 c.from_residual-in_err-mark.ensures.1
    (λ ws w e s R. close_none e s R v.1 v.2 v.3 c.in_ok-low.ensures c.in_ok-high.ensures c.in_ok-from.ensures c.in_ok-to.ensures _ _ c.in_err-mark.ensures.1 c.in_err-mark.ensures.0)

pub returns-in_default : goal.returns-in_default
returns-in_default c =
    let v = c.in_ok-register.ensures in
    let x = c.in_ok-mark.ensures in
    let y = is_token c.in_ok-mark.mark.token Semicolon (lit≤ tt) refl x.1 in
    λ ws w e s R. out_of_range e s R v.1 v.2 v.3 c.in_ok-low.ensures c.in_ok-high.ensures c.in_ok-from.ensures c.in_ok-to.ensures x.0 y _ _
    (proper_same c.in_ok-low.ensures c.in_ok-high.ensures c.in_ok-from.ensures c.in_ok-to.ensures c.in_default.ensures) (ap (λ (f : Fault). f.cause) c.fault.ensures) (ap (λ (f : Fault). f.place) c.fault.ensures)

pub returns-in_err-declare : goal.returns-in_err-declare
returns-in_err-declare c =
    let v = c.in_ok-register.ensures in
    let x = c.in_ok-mark.ensures in
    let y = is_token c.in_ok-mark.mark.token Semicolon (lit≤ tt) refl x.1 in
    let r = c.in-Some.ensures in
    broken _ _ _ c.in_err-declare.field-0.0 c.from_residual-in_err-declare.ensures.1
    (λ ws w e s R. too_many e s R v.1 v.2 v.3 c.in_ok-low.ensures c.in_ok-high.ensures c.in_ok-from.ensures c.in_ok-to.ensures x.0 y c.in-Some.range (r.0 ∙ same c.in_ok-low.ensures) (r.1 ∙ same c.in_ok-high.ensures) (r.2 ∙ same c.in_ok-from.ensures) (r.3 ∙ same c.in_ok-to.ensures)
    _ _ c.in_err-declare.ensures.1)

pub returns : goal.returns
returns c =
    let v = c.in_ok-register.ensures in
    let x = c.in_ok-mark.ensures in
    let y = is_token c.in_ok-mark.mark.token Semicolon (lit≤ tt) refl x.1 in
    let r = c.in-Some.ensures in
    let d = c.in_ok-declare.ensures in (
      (λ ws w e s R. declared_read e s R v.1 v.2 v.3 c.in_ok-low.ensures c.in_ok-high.ensures c.in_ok-from.ensures c.in_ok-to.ensures x.0 y c.in-Some.range (r.0 ∙ same c.in_ok-low.ensures) (r.1 ∙ same c.in_ok-high.ensures) (r.2 ∙ same c.in_ok-from.ensures) (r.3 ∙ same c.in_ok-to.ensures)
          _ d),
      (let k = d.next in let l = v.3 in omega arith),
    )
