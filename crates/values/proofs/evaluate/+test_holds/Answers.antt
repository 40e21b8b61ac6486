use Rattle.std.proofs.Common.{refl, sym, ap, ◌∙◌, w32, SFits, to_z, of_z, rules}
use lib.Signed.{le_z, lt_z}
use mir.ValLaws.{to_z-of_z}
use Rattle.values.proofs.Values.{at_is}
use Rattle.values.proofs.Holding.{holds_none, told, bits_equal}
use Rattle.values.proofs.evaluate.+test_holds.Goals as goal

pub returns-in_default : goal.returns-in_default
returns-in_default t c = holds_none c.args.moment.now c.args.ariths.now c.args.tests.now c.args.index _ c.in_default.ensures.lookup.3

pub returns-in-Always : goal.returns-in-Always
returns-in-Always t c =
    let found = c.in-Some.ensures.lookup in
    told c.args.moment.now c.args.ariths.now c.args.tests.now c.args.index _ _ (at_is c.args.tests.now c.args.index _ _ found.3.0 (sym found.1 ∙ c.in-Always.is)) refl

pub returns-in-Less : goal.returns-in-Less
returns-in-Less t c =
    let found = c.in-Some.ensures.lookup in
    let fx : SFits w32 c.arith_value.result = search rules in
    let fy : SFits w32 c.arith_value-in-Less.result = search rules in
    told c.args.moment.now c.args.ariths.now c.args.tests.now c.args.index _ _ (at_is c.args.tests.now c.args.index _ _ found.3.0 (sym found.1 ∙ c.in-Less.is)) (c.arith_value.result, c.arith_value-in-Less.result, c.arith_value.ensures, c.arith_value-in-Less.ensures, ap (λ v. lt_z v (to_z w32 (of_z w32 c.arith_value-in-Less.result))) (to_z-of_z w32 c.arith_value.result fx) ∙ ap (λ v. lt_z c.arith_value.result v) (to_z-of_z w32 c.arith_value-in-Less.result fy))

pub returns-in-AtMost : goal.returns-in-AtMost
returns-in-AtMost t c =
    let found = c.in-Some.ensures.lookup in
    let fx : SFits w32 c.arith_value-in-AtMost.result = search rules in
    let fy : SFits w32 c.arith_value-in-AtMost-2.result = search rules in
    told c.args.moment.now c.args.ariths.now c.args.tests.now c.args.index _ _ (at_is c.args.tests.now c.args.index _ _ found.3.0 (sym found.1 ∙ c.in-AtMost.is)) (c.arith_value-in-AtMost.result, c.arith_value-in-AtMost-2.result, c.arith_value-in-AtMost.ensures, c.arith_value-in-AtMost-2.ensures, ap (λ v. le_z v (to_z w32 (of_z w32 c.arith_value-in-AtMost-2.result))) (to_z-of_z w32 c.arith_value-in-AtMost.result fx) ∙ ap (λ v. le_z c.arith_value-in-AtMost.result v) (to_z-of_z w32 c.arith_value-in-AtMost-2.result fy))

pub returns-in-Equal : goal.returns-in-Equal
returns-in-Equal t c =
    let found = c.in-Some.ensures.lookup in
    let fx : SFits w32 c.arith_value-in-Equal.result = search rules in
    let fy : SFits w32 c.arith_value-in-Equal-2.result = search rules in
    told c.args.moment.now c.args.ariths.now c.args.tests.now c.args.index _ _ (at_is c.args.tests.now c.args.index _ _ found.3.0 (sym found.1 ∙ c.in-Equal.is)) (c.arith_value-in-Equal.result, c.arith_value-in-Equal-2.result, c.arith_value-in-Equal.ensures, c.arith_value-in-Equal-2.ensures, bits_equal c.arith_value-in-Equal.result c.arith_value-in-Equal-2.result fx fy)

pub returns-in-Both : goal.returns-in-Both
returns-in-Both t c =
    let found = c.in-Some.ensures.lookup in
    told c.args.moment.now c.args.ariths.now c.args.tests.now c.args.index _ _ (at_is c.args.tests.now c.args.index _ _ found.3.0 (sym found.1 ∙ c.in-Both.is)) (c.test_holds.result, c.test_holds-in-Both.result, c.test_holds.ensures, c.test_holds-in-Both.ensures, refl)

pub returns-in-Either : goal.returns-in-Either
returns-in-Either t c =
    let found = c.in-Some.ensures.lookup in
    told c.args.moment.now c.args.ariths.now c.args.tests.now c.args.index _ _ (at_is c.args.tests.now c.args.index _ _ found.3.0 (sym found.1 ∙ c.in-Either.is)) (c.test_holds-in-Either.result, c.test_holds-in-Either-2.result, c.test_holds-in-Either.ensures, c.test_holds-in-Either-2.ensures, refl)

pub returns-in-NotBoth : goal.returns-in-NotBoth
returns-in-NotBoth t c =
    let found = c.in-Some.ensures.lookup in
    told c.args.moment.now c.args.ariths.now c.args.tests.now c.args.index _ _ (at_is c.args.tests.now c.args.index _ _ found.3.0 (sym found.1 ∙ c.in-NotBoth.is)) (c.test_holds-in-NotBoth.result, c.test_holds-in-NotBoth-2.result, c.test_holds-in-NotBoth.ensures, c.test_holds-in-NotBoth-2.ensures, refl)
