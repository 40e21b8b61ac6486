use Rattle.std.proofs.Common.{refl}
use Rattle.regular.proofs.Told.{follows_words}
use Rattle.regular.proofs.law.automaton_follows_words.Goals as goal

pub returns : goal.returns
returns c = record { first = refl; law = follows_words }
