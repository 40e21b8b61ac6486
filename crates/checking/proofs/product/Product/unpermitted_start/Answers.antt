use Rattle.std.proofs.Common.{length, rules, arith}
use borrow.Author.Tests.{tests}
use Rattle.std.proofs.lemmas.Iterator.{YieldsList-from_range}
use Rattle.std.proofs.lemmas.Iterator.Consumers.{YieldsList-from_filter_map}
use Rattle.std.proofs.lemmas.Iterator.Search.{find_from_yields_List}
use Rattle.model.specs.Cells.{at}
use Rattle.checking.proofs.Starts.{stuck, found_blamed}
use Rattle.checking.proofs.product.Product.unpermitted_start.Goals as goal

pub returns : goal.returns
returns g c =
    let cell = g.C.Cell.cell c.args.self.now.cell.now in
    let watch = g.W.Watch.watch c.args.self.now.watch.now in
    let n = length cell.starts in
    found_blamed cell watch g.W.State.Key.kind c.find.result
    (find_from_yields_List (stuck cell watch g.W.State.Key.kind) _ _ c.find.result c.find.ensures.ran
    (YieldsList-from_filter_map _ (at cell.starts) (YieldsList-from_range 0 n n (search rules) (omega arith)) c.filter_map.ensures.closure (λ x r q k. search (rules, tests)))
    (λ x b q k. search (rules, tests)))
