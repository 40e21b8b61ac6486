-- Words derive one tree: that of an arithmetic or a boolean expression is unique, and so is what is left. Assumes nothing.
use Rattle.std.proofs.Common.{◌≡◌, ℕ, false, eqb, List, ◌∷◌, sym, refl, ap, ◌∙◌, subst, arith}
use Rattle.text.specs.declared.word.Register.{Register}
use Rattle.text.specs.declared.word.Token.{Token}
use Rattle.text.specs.declared.word.Token.TheVariants.{Number, Current, Initial, True, And, Or, Nand, OpenParen, OpenBracket, Less, AtMost, Equal, Plus, Minus}
use Rattle.text.specs.declared.word.Word.{Word}
use Rattle.text.specs.Words.{kind, register_index}
use Rattle.text.specs.Expressions.{Arith, number, current, initial, plus, minus, Test, less, at_most, equal, both, either, not_both}
use Rattle.text.specs.Derivations.{SumPart, onto, Sums, a_number, a_current, an_initial, in_parens, no_more, adds, subtracts, Sum, sum, TestPart, onto_test, Tests, is_true, is_less, is_at_most, is_equal, in_brackets, no_more_tests, ands, ors, nands, Condition, condition}
use Rattle.text.proofs.Tests.{kinds_differ}

-- a word of two kinds
clash : {X : Type 0} {t : Token} (u v : Token) → eqb (kind u) (kind v) ≡ false → t ≡ u → t ≡ v → X
clash u v h e f = absurd (kinds_differ u v h (sym e ∙ f))

now_or_start : {X : Type 0} {t : Token} (r q : Register) → t ≡ Current r → t ≡ Initial q → X
now_or_start r q e f = let h = sym e ∙ f in let z : ◌≡◌ {A = ℕ} 0 1 = cc in absurd (omega arith)

moved : {a b c : Arith} {ws vs rest : List Word} → a ≡ b → ws ≡ vs → Sums (onto b) vs c rest → Sums (onto a) ws c rest
moved {a} {b} {c} {ws} {vs} {rest} e f d = subst (λ x. Sums (onto x) ws c rest) (sym e) (subst (λ v. Sums (onto b) v c rest) (sym f) d)

moved_test : {a b c : Test} {ws vs rest : List Word} → a ≡ b → ws ≡ vs → Tests (onto_test b) vs c rest → Tests (onto_test a) ws c rest
moved_test {a} {b} {c} {ws} {vs} {rest} e f d = subst (λ x. Tests (onto_test x) ws c rest) (sym e) (subst (λ v. Tests (onto_test b) v c rest) (sym f) d)

pub sums_one : {p : SumPart} {ws : List Word} {a b : Arith} {r s : List Word} → Sums p ws a r → Sums p ws b s → (a ≡ b) × (r ≡ s)
sums_one (a_number {n = i} e) (a_number {n = j} f) = let h = sym e ∙ f in let same : i ≡ j = cc in (ap number same, refl)
sums_one (a_number {n = i} e) (a_current {r = j} f) = clash (Number i) (Current j) refl e f
sums_one (a_number {n = i} e) (an_initial {r = j} f) = clash (Number i) (Initial j) refl e f
sums_one (a_number {n = i} e) (in_parens f d g h) = clash (Number i) OpenParen refl e f
sums_one (a_current {r = i} e) (a_number {n = j} f) = clash (Current i) (Number j) refl e f
sums_one (a_current {r = i} e) (a_current {r = j} f) = let h = sym e ∙ f in let same : i ≡ j = cc in (ap (λ q. current (register_index q)) same, refl)
sums_one (a_current {r = i} e) (an_initial {r = j} f) = now_or_start i j e f
sums_one (a_current {r = i} e) (in_parens f d g h) = clash (Current i) OpenParen refl e f
sums_one (an_initial {r = i} e) (a_number {n = j} f) = clash (Initial i) (Number j) refl e f
sums_one (an_initial {r = i} e) (a_current {r = j} f) = now_or_start j i f e
sums_one (an_initial {r = i} e) (an_initial {r = j} f) = let h = sym e ∙ f in let same : i ≡ j = cc in (ap (λ q. initial (register_index q)) same, refl)
sums_one (an_initial {r = i} e) (in_parens f d g h) = clash (Initial i) OpenParen refl e f
sums_one (in_parens f d g h) (a_number {n = j} e) = clash OpenParen (Number j) refl f e
sums_one (in_parens f d g h) (a_current {r = j} e) = clash OpenParen (Current j) refl f e
sums_one (in_parens f d g h) (an_initial {r = j} e) = clash OpenParen (Initial j) refl f e
sums_one (in_parens {c = c} {rest = rest} e d f h) (in_parens {c = c₁} {rest = rest₁} e₁ d₁ f₁ h₁) =
    let p = sums_one d d₁ in
    let q = sums_one f (moved p.0 p.1 f₁) in
    (q.0, tail_is q.1)
  where
    tail_is : c ∷ rest ≡ c₁ ∷ rest₁ → rest ≡ rest₁
    tail_is e = cc
sums_one (no_more f) (no_more g) = (refl, refl)
sums_one (no_more f) (adds e d g) = absurd (f.0 e)
sums_one (no_more f) (subtracts e d g) = absurd (f.1.0 e)
sums_one (adds e d g) (no_more f) = absurd (f.0 e)
sums_one (subtracts e d g) (no_more f) = absurd (f.1.0 e)
sums_one (adds e d g) (subtracts f h k) = clash Plus Minus refl e f
sums_one (subtracts e d g) (adds f h k) = clash Minus Plus refl e f
sums_one (adds {a = a} e d g) (adds f h k) = let p = sums_one d h in sums_one g (moved (ap (plus a) p.0) p.1 k)
sums_one (subtracts {a = a} e d g) (subtracts f h k) = let p = sums_one d h in sums_one g (moved (ap (minus a) p.0) p.1 k)

pub sum_one : {ws : List Word} {a b : Arith} {r s : List Word} → Sum ws a r → Sum ws b s → (a ≡ b) × (r ≡ s)
sum_one (sum d f) (sum d₁ f₁) = let p = sums_one d d₁ in sums_one f (moved p.0 p.1 f₁)

-- an expression begins with a number, a register or a parenthesis
starts : {X : Type 0} {w : Word} {ws : List Word} {a : Arith} {r : List Word} (u : Token) → eqb 0 (kind u) ≡ false → eqb 1 (kind u) ≡ false → eqb (kind OpenParen) (kind u) ≡ false → Sum (w ∷ ws) a r → w.token ≡ u → X
starts u x y z (sum (a_number {n = i} e) f) g = clash (Number i) u x e g
starts u x y z (sum (a_current {r = i} e) f) g = clash (Current i) u y e g
starts u x y z (sum (an_initial {r = i} e) f) g = clash (Initial i) u y e g
starts u x y z (sum (in_parens e d f h) k) g = clash OpenParen u z e g

-- two comparisons of the same words
compared : {ws mid rest mid₁ rest₁ : List Word} {w w₁ : Word} {a b a₁ b₁ : Arith} → Sum ws a (w ∷ mid) → Sum mid b rest → Sum ws a₁ (w₁ ∷ mid₁) → Sum mid₁ b₁ rest₁ → (w ≡ w₁) × (a ≡ a₁) × (b ≡ b₁) × (rest ≡ rest₁)
compared {mid = mid} {mid₁ = mid₁} {rest₁ = rest₁} {w = w} {w₁ = w₁} {b₁ = b₁} p q p₁ q₁ =
    let s = sum_one p p₁ in
    let words = s.1 in
    let first : w ≡ w₁ = cc in
    let later : mid ≡ mid₁ = cc in
    let t = sum_one q (subst (λ v. Sum v b₁ rest₁) (sym later) q₁) in
    (first, s.0, t.0, t.1)

pub tests_one : {p : TestPart} {ws : List Word} {a b : Test} {r s : List Word} → Tests p ws a r → Tests p ws b s → (a ≡ b) × (r ≡ s)
tests_one (is_true e) (is_true f) = (refl, refl)
tests_one (is_true e) (in_brackets f d g h) = clash True OpenBracket refl e f
tests_one (in_brackets f d g h) (is_true e) = clash OpenBracket True refl f e
tests_one (is_true e) (is_less a f b) = starts True refl refl refl a e
tests_one (is_less a f b) (is_true e) = starts True refl refl refl a e
tests_one (in_brackets e d g h) (is_less a f b) = starts OpenBracket refl refl refl a e
tests_one (is_less a f b) (in_brackets e d g h) = starts OpenBracket refl refl refl a e
tests_one (is_true e) (is_at_most a f b) = starts True refl refl refl a e
tests_one (is_at_most a f b) (is_true e) = starts True refl refl refl a e
tests_one (in_brackets e d g h) (is_at_most a f b) = starts OpenBracket refl refl refl a e
tests_one (is_at_most a f b) (in_brackets e d g h) = starts OpenBracket refl refl refl a e
tests_one (is_true e) (is_equal a f b) = starts True refl refl refl a e
tests_one (is_equal a f b) (is_true e) = starts True refl refl refl a e
tests_one (in_brackets e d g h) (is_equal a f b) = starts OpenBracket refl refl refl a e
tests_one (is_equal a f b) (in_brackets e d g h) = starts OpenBracket refl refl refl a e
tests_one (is_less a e b) (is_less a₁ e₁ b₁) = let p = compared a b a₁ b₁ in (λ i. less (p.1 i) (p.2 i), p.3)
tests_one (is_less a e b) (is_at_most a₁ e₁ b₁) = let p = compared a b a₁ b₁ in clash Less AtMost refl e (ap (λ w. w.token) p.0 ∙ e₁)
tests_one (is_less a e b) (is_equal a₁ e₁ b₁) = let p = compared a b a₁ b₁ in clash Less Equal refl e (ap (λ w. w.token) p.0 ∙ e₁)
tests_one (is_at_most a e b) (is_less a₁ e₁ b₁) = let p = compared a b a₁ b₁ in clash AtMost Less refl e (ap (λ w. w.token) p.0 ∙ e₁)
tests_one (is_at_most a e b) (is_at_most a₁ e₁ b₁) = let p = compared a b a₁ b₁ in (λ i. at_most (p.1 i) (p.2 i), p.3)
tests_one (is_at_most a e b) (is_equal a₁ e₁ b₁) = let p = compared a b a₁ b₁ in clash AtMost Equal refl e (ap (λ w. w.token) p.0 ∙ e₁)
tests_one (is_equal a e b) (is_less a₁ e₁ b₁) = let p = compared a b a₁ b₁ in clash Equal Less refl e (ap (λ w. w.token) p.0 ∙ e₁)
tests_one (is_equal a e b) (is_at_most a₁ e₁ b₁) = let p = compared a b a₁ b₁ in clash Equal AtMost refl e (ap (λ w. w.token) p.0 ∙ e₁)
tests_one (is_equal a e b) (is_equal a₁ e₁ b₁) = let p = compared a b a₁ b₁ in (λ i. equal (p.1 i) (p.2 i), p.3)
tests_one (in_brackets {c = c} {rest = rest} e d f h) (in_brackets {c = c₁} {rest = rest₁} e₁ d₁ f₁ h₁) =
    let p = tests_one d d₁ in
    let q = tests_one f (moved_test p.0 p.1 f₁) in
    (q.0, tail_is q.1)
  where
    tail_is : c ∷ rest ≡ c₁ ∷ rest₁ → rest ≡ rest₁
    tail_is e = cc
tests_one (no_more_tests f) (no_more_tests g) = (refl, refl)
tests_one (no_more_tests f) (ands e d g) = absurd (f.0 e)
tests_one (no_more_tests f) (ors e d g) = absurd (f.1.0 e)
tests_one (no_more_tests f) (nands e d g) = absurd (f.1.1.0 e)
tests_one (ands e d g) (no_more_tests f) = absurd (f.0 e)
tests_one (ors e d g) (no_more_tests f) = absurd (f.1.0 e)
tests_one (nands e d g) (no_more_tests f) = absurd (f.1.1.0 e)
tests_one (ands {s = s} e d g) (ands f h k) = let p = tests_one d h in tests_one g (moved_test (ap (both s) p.0) p.1 k)
tests_one (ands e d g) (ors f h k) = clash And Or refl e f
tests_one (ands e d g) (nands f h k) = clash And Nand refl e f
tests_one (ors e d g) (ands f h k) = clash Or And refl e f
tests_one (ors {s = s} e d g) (ors f h k) = let p = tests_one d h in tests_one g (moved_test (ap (either s) p.0) p.1 k)
tests_one (ors e d g) (nands f h k) = clash Or Nand refl e f
tests_one (nands e d g) (ands f h k) = clash Nand And refl e f
tests_one (nands e d g) (ors f h k) = clash Nand Or refl e f
tests_one (nands {s = s} e d g) (nands f h k) = let p = tests_one d h in tests_one g (moved_test (ap (not_both s) p.0) p.1 k)

pub condition_one : {ws : List Word} {a b : Test} {r s : List Word} → Condition ws a r → Condition ws b s → (a ≡ b) × (r ≡ s)
condition_one (condition d f) (condition d₁ f₁) = let p = tests_one d d₁ in tests_one f (moved_test p.0 p.1 f₁)
