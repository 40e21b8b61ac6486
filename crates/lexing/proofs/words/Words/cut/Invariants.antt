use Rattle.std.proofs.Common.{◌≡◌, ◌-◌, ◌≤◌, ◌++◌, length, drop, vec_items, vec_len}
use Rattle.lexing.specs.Lexing.{words, words_from}
use Rattle.lexing.proofs.words.Words.cut.Given as goal

abbrev pub invariant-loop-place : goal.invariant-loop-place
invariant-loop-place l = (l.place ≤ length l.text) × (vec_len l.self.list ≤ l.place) × (vec_items l.self.list ++ words_from l.place 0 (drop l.place l.text) ≡ words l.text)

abbrev pub decreases-loop-place : goal.decreases-loop-place
decreases-loop-place l = length l.text - l.place
