use Rattle.std.proofs.Common.{◌≡◌, replicate, vec_items, vec_len, vec_capacity}
use Rattle.sheet.proofs.automaton.clear.Given as goal

abbrev pub invariant-loop-place : goal.invariant-loop-place
invariant-loop-place l = (vec_items l.follow ≡ replicate l._place 0) × (vec_len l.follow ≡ l._place) × (vec_capacity l.follow ≡ vec_capacity l.initial.follow)
