-- A statement takes at least one word. Assumes nothing.
use Rattle.std.proofs.Common.{◌<◌, ◌≤◌, List, length, arith}
use Rattle.text.specs.declared.word.Word.{Word}
use Rattle.text.specs.Expressions.{Arith, Test}
use Rattle.text.specs.Derivations.{Sum, sum, Condition, condition}
use Rattle.text.proofs.Parts.{shorter}
use Rattle.text.proofs.Conditions.{tests_shorter}
use Rattle.traces.specs.Programs.{Part}
use Rattle.syntax.specs.Phrases.{Phrase, one, behind, States, sets, senses, skips, ifs, if_elses, whiles, breaks, blocks, no_more, one_more}

sum_shorter : {ws rest : List Word} {a : Arith} → Sum ws a rest → length rest < length ws
sum_shorter (sum d f) = let p = shorter d in let q = shorter f in omega arith

condition_shorter : {ws rest : List Word} {t : Test} → Condition ws t rest → length rest < length ws
condition_shorter (condition d f) = let p = tests_shorter d in let q = tests_shorter f in omega arith

abbrev pub Less : Phrase → List Word → List Word → Type 0
Less one ws rest = length rest < length ws
Less (behind s) ws rest = length rest ≤ length ws

pub phrase_shorter : {p : Phrase} {ws : List Word} {s : Part} {rest : List Word} → States p ws s rest → Less p ws rest
phrase_shorter (sets n f d g) = let p = sum_shorter d in omega arith
phrase_shorter (senses e n g) = omega arith
phrase_shorter (skips e) = omega arith
phrase_shorter (ifs e f d g s n) = let p = condition_shorter d in let q = phrase_shorter s in omega arith
phrase_shorter (if_elses e f d g s h u) = let p = condition_shorter d in let q = phrase_shorter s in let r = phrase_shorter u in omega arith
phrase_shorter (whiles e f d g s) = let p = condition_shorter d in let q = phrase_shorter s in omega arith
phrase_shorter (breaks e g) = omega arith
phrase_shorter (blocks e d g) = let p = phrase_shorter d in omega arith
phrase_shorter no_more = omega arith
phrase_shorter (one_more d f) = let p = phrase_shorter d in let q = phrase_shorter f in omega arith
