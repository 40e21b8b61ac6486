use Rattle.grammar.proofs.Meaning.{by_table}
use Rattle.grammar.proofs.reading_stands.Goals as goal

pub returns : goal.returns
returns g c = by_table g.row.I.Denot g.row.W.Denot g.row.R.Denot g.row.M0.Denot g.row.C.Denot
