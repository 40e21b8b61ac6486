-- Words that are no letter of a register from a given one on. Assumes nothing.
use Rattle.std.proofs.Common.{◌≡◌, ◌<◌, ◌≤◌, false, [], ◌∷◌, ◌∙◌, inl, inr, arith}
use Rattle.std.proofs.lemmas.Bool.{eqb-true, cases_Bool}
use Rattle.grammar.specs.Grammars.{stuck, find}
use Rattle.grammar.proofs.Trees.{find_later}
use Rattle.text.specs.declared.word.Register.{Register}
use Rattle.text.specs.declared.word.Register.TheVariants.{A as ra, B as rb, C as rc, D as rd, E as re, F as rf}
use Rattle.text.specs.declared.word.Token.TheVariants.{Current}
use Rattle.text.specs.declared.word.Word.{Word}
use Rattle.text.specs.Words.{letter, names, register_index}
use Rattle.text.specs.Table.{letter_lines, declares_register}
use Rattle.syntax.proofs.Letters.{letter_is}

not_named : (r q : Register) (w : Word) → ((p : Register) → w.token ≡ Current p → register_index p < register_index r) → register_index r ≤ register_index q → names q w ≡ false
not_named r q w h l = elim (cases_Bool (names q w)) [ inr e ↦ e | inl e ↦ absurd (let x = h q (letter_is w.token q (eqb-true (letter w.token) (register_index q) e)) in omega arith) ]

pub no_letters : (r : Register) (w : Word) → ((p : Register) → w.token ≡ Current p → register_index p < register_index r) → find (letter_lines r) w ≡ stuck
no_letters ra w h = find_later (declares_register ra) (declares_register rb ∷ declares_register rc ∷ declares_register rd ∷ declares_register re ∷ declares_register rf ∷ []) w (not_named ra ra w h (lib.Dec.lit≤ tt)) ∙ find_later (declares_register rb) (declares_register rc ∷ declares_register rd ∷ declares_register re ∷ declares_register rf ∷ []) w (not_named ra rb w h (lib.Dec.lit≤ tt)) ∙ find_later (declares_register rc) (declares_register rd ∷ declares_register re ∷ declares_register rf ∷ []) w (not_named ra rc w h (lib.Dec.lit≤ tt)) ∙ find_later (declares_register rd) (declares_register re ∷ declares_register rf ∷ []) w (not_named ra rd w h (lib.Dec.lit≤ tt)) ∙ find_later (declares_register re) (declares_register rf ∷ []) w (not_named ra re w h (lib.Dec.lit≤ tt)) ∙ find_later (declares_register rf) ([]) w (not_named ra rf w h (lib.Dec.lit≤ tt))
no_letters rb w h = find_later (declares_register rb) (declares_register rc ∷ declares_register rd ∷ declares_register re ∷ declares_register rf ∷ []) w (not_named rb rb w h (lib.Dec.lit≤ tt)) ∙ find_later (declares_register rc) (declares_register rd ∷ declares_register re ∷ declares_register rf ∷ []) w (not_named rb rc w h (lib.Dec.lit≤ tt)) ∙ find_later (declares_register rd) (declares_register re ∷ declares_register rf ∷ []) w (not_named rb rd w h (lib.Dec.lit≤ tt)) ∙ find_later (declares_register re) (declares_register rf ∷ []) w (not_named rb re w h (lib.Dec.lit≤ tt)) ∙ find_later (declares_register rf) ([]) w (not_named rb rf w h (lib.Dec.lit≤ tt))
no_letters rc w h = find_later (declares_register rc) (declares_register rd ∷ declares_register re ∷ declares_register rf ∷ []) w (not_named rc rc w h (lib.Dec.lit≤ tt)) ∙ find_later (declares_register rd) (declares_register re ∷ declares_register rf ∷ []) w (not_named rc rd w h (lib.Dec.lit≤ tt)) ∙ find_later (declares_register re) (declares_register rf ∷ []) w (not_named rc re w h (lib.Dec.lit≤ tt)) ∙ find_later (declares_register rf) ([]) w (not_named rc rf w h (lib.Dec.lit≤ tt))
no_letters rd w h = find_later (declares_register rd) (declares_register re ∷ declares_register rf ∷ []) w (not_named rd rd w h (lib.Dec.lit≤ tt)) ∙ find_later (declares_register re) (declares_register rf ∷ []) w (not_named rd re w h (lib.Dec.lit≤ tt)) ∙ find_later (declares_register rf) ([]) w (not_named rd rf w h (lib.Dec.lit≤ tt))
no_letters re w h = find_later (declares_register re) (declares_register rf ∷ []) w (not_named re re w h (lib.Dec.lit≤ tt)) ∙ find_later (declares_register rf) ([]) w (not_named re rf w h (lib.Dec.lit≤ tt))
no_letters rf w h = find_later (declares_register rf) ([]) w (not_named rf rf w h (lib.Dec.lit≤ tt))
