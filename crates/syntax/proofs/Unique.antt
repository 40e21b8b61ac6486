-- The words of a program derive one tree. Assumes nothing.
use Rattle.std.proofs.Common.{◌≡◌, ℕ, suc, false, eqb, List, [], ◌∷◌, set, ℤ, pos, ◌-ℤ◌, Some, None, Option, sym, refl, ap, ◌∙◌, subst, inl, inr, arith}
use Rattle.text.specs.declared.word.Register.{Register}
use Rattle.text.specs.declared.word.Token.{Token}
use Rattle.text.specs.declared.word.Token.TheVariants.{Number, Current, Initial, Sense, If, Else, While, Break, Semicolon, OpenBrace, CloseBrace, Minus}
use Rattle.text.specs.declared.word.Word.{Word}
use Rattle.text.specs.Words.{kind, register_index}
use Rattle.text.specs.Derivations.{Free}
use Rattle.text.proofs.Tests.{kinds_differ}
use Rattle.text.proofs.Unique.{sum_one, condition_one}
use Rattle.traces.specs.declared.range.Range.{Range}
use Rattle.traces.proofs.Spans.{same_range}
use Rattle.traces.specs.Programs.{Part, assign, sense, if_then, if_else, while, block, empty, list, Tree}
use Rattle.syntax.specs.Phrases.{Names, Phrase, one, behind, States, sets, senses, skips, ifs, if_elses, whiles, breaks, blocks, no_more, one_more, Bound, plainly, negated, Bounds, Declares, no_register, all_declared, register, Derives, Ranged, Tells}
use Rattle.syntax.proofs.Letters.{index_small}

-- a word of two kinds
clash : {X : Type 0} {t : Token} (u v : Token) → eqb (kind u) (kind v) ≡ false → t ≡ u → t ≡ v → X
clash u v h e f = absurd (kinds_differ u v h (sym e ∙ f))

tail_is : {c d : Word} {ws vs : List Word} → c ∷ ws ≡ d ∷ vs → ws ≡ vs
tail_is e = cc

-- a register's letter is one register's
names_one : {t : Token} {x y : ℕ} → Names t x → Names t y → x ≡ y
names_one (r, inl e, h) (q, inl f, k) = let g = sym e ∙ f in let same : r ≡ q = cc in sym h ∙ ap register_index same ∙ k
names_one (r, inl e, h) (q, inr f, k) = let g = sym e ∙ f in let z : ◌≡◌ {A = ℕ} 0 1 = cc in absurd (omega arith)
names_one (r, inr e, h) (q, inl f, k) = let g = sym e ∙ f in let z : ◌≡◌ {A = ℕ} 0 1 = cc in absurd (omega arith)
names_one (r, inr e, h) (q, inr f, k) = let g = sym e ∙ f in let same : r ≡ q = cc in sym h ∙ ap register_index same ∙ k

no_letter : {X : Type 0} {t : Token} {x : ℕ} (u : Token) → eqb 1 (kind u) ≡ false → Names t x → t ≡ u → X
no_letter u h (r, inl e, k) f = clash (Current r) u h e f
no_letter u h (r, inr e, k) f = clash (Initial r) u h e f

-- a list is read to the text's end or to the } that closes it
abbrev Over : List Word → Type 0
Over [] = Unit {0}
Over (w ∷ ws) = w.token ≡ CloseBrace

abbrev Stop : Phrase → List Word → Type 0
Stop one ws = Unit {0}
Stop (behind s) ws = Over ws

-- no statement begins there
no_statement : {X : Type 0} {ws rest : List Word} {s : Part} → Over ws → States one ws s rest → X
no_statement o (sets n e d c) = no_letter CloseBrace refl n o
no_statement o (senses w n c) = clash Sense CloseBrace refl w o
no_statement o (skips w) = clash Semicolon CloseBrace refl w o
no_statement o (ifs w p t c s f) = clash If CloseBrace refl w o
no_statement o (if_elses w p t c s e u) = clash If CloseBrace refl w o
no_statement o (whiles w p t c s) = clash While CloseBrace refl w o
no_statement o (breaks w c) = clash Break CloseBrace refl w o
no_statement o (blocks w s c) = clash OpenBrace CloseBrace refl w o

moved : {a b t : Part} {ws vs rest : List Word} → a ≡ b → ws ≡ vs → States (behind b) vs t rest → States (behind a) ws t rest
moved {a} {b} {t} {ws} {vs} {rest} e f d = subst (λ (x : Part). States (behind x) ws t rest) (sym e) (subst (λ (v : List Word). States (behind b) v t rest) (sym f) d)

from_there : {t : Part} {ws vs rest : List Word} → ws ≡ vs → States one vs t rest → States one ws t rest
from_there {t} {ws} {vs} {rest} f d = subst (λ (v : List Word). States one v t rest) (sym f) d

pub states_one : {p : Phrase} {ws : List Word} {s t : Part} {r q : List Word} → States p ws s r → States p ws t q → Stop p r → Stop p q → (s ≡ t) × (r ≡ q)
states_one (sets n₁ e₁ d₁ c₁) (sets n₂ e₂ d₂ c₂) a b =
    let x = names_one n₁ n₂ in
    let p = sum_one d₁ d₂ in
    (λ i. assign (x i) (p.0 i), tail_is p.1)
states_one (senses w₁ n₁ c₁) (senses w₂ n₂ c₂) a b = (ap sense (names_one n₁ n₂), refl)
states_one (skips w₁) (skips w₂) a b = (refl, refl)
states_one (ifs w₁ o₁ t₁ c₁ s₁ f₁) (ifs w₂ o₂ t₂ c₂ s₂ f₂) a b =
    let p = condition_one t₁ t₂ in
    let q = states_one s₁ (from_there (tail_is p.1) s₂) tt tt in
    (λ i. if_then (p.0 i) (q.0 i), q.1)
states_one (ifs w₁ o₁ t₁ c₁ s₁ f₁) (if_elses w₂ o₂ t₂ c₂ s₂ e₂ u₂) a b =
    let p = condition_one t₁ t₂ in
    let q = states_one s₁ (from_there (tail_is p.1) s₂) tt tt in
    absurd ((subst (Free (Else ∷ [])) q.1 f₁).0 e₂)
states_one (if_elses w₁ o₁ t₁ c₁ s₁ e₁ u₁) (ifs w₂ o₂ t₂ c₂ s₂ f₂) a b =
    let p = condition_one t₁ t₂ in
    let q = states_one s₁ (from_there (tail_is p.1) s₂) tt tt in
    absurd ((subst (Free (Else ∷ [])) (sym q.1) f₂).0 e₁)
states_one (if_elses w₁ o₁ t₁ c₁ s₁ e₁ u₁) (if_elses w₂ o₂ t₂ c₂ s₂ e₂ u₂) a b =
    let p = condition_one t₁ t₂ in
    let q = states_one s₁ (from_there (tail_is p.1) s₂) tt tt in
    let k = states_one u₁ (from_there (tail_is q.1) u₂) tt tt in
    (λ i. if_else (p.0 i) (q.0 i) (k.0 i), k.1)
states_one (whiles w₁ o₁ t₁ c₁ s₁) (whiles w₂ o₂ t₂ c₂ s₂) a b =
    let p = condition_one t₁ t₂ in
    let q = states_one s₁ (from_there (tail_is p.1) s₂) tt tt in
    (λ i. while (p.0 i) (q.0 i), q.1)
states_one (breaks w₁ c₁) (breaks w₂ c₂) a b = (refl, refl)
states_one (blocks w₁ s₁ c₁) (blocks w₂ s₂ c₂) a b = let q = states_one s₁ s₂ c₁ c₂ in (ap block q.0, tail_is q.1)
states_one (sets n₁ e₁ d₁ c₁) (senses w₂ n₂ c₂) a b = no_letter Sense refl n₁ w₂
states_one (sets n₁ e₁ d₁ c₁) (skips w₂) a b = no_letter Semicolon refl n₁ w₂
states_one (sets n₁ e₁ d₁ c₁) (ifs w₂ o₂ t₂ c₂ s₂ f₂) a b = no_letter If refl n₁ w₂
states_one (sets n₁ e₁ d₁ c₁) (if_elses w₂ o₂ t₂ c₂ s₂ e₂ u₂) a b = no_letter If refl n₁ w₂
states_one (sets n₁ e₁ d₁ c₁) (whiles w₂ o₂ t₂ c₂ s₂) a b = no_letter While refl n₁ w₂
states_one (sets n₁ e₁ d₁ c₁) (breaks w₂ c₂) a b = no_letter Break refl n₁ w₂
states_one (sets n₁ e₁ d₁ c₁) (blocks w₂ s₂ c₂) a b = no_letter OpenBrace refl n₁ w₂
states_one (senses w₁ n₁ c₁) (sets n₂ e₂ d₂ c₂) a b = no_letter Sense refl n₂ w₁
states_one (senses w₁ n₁ c₁) (skips w₂) a b = clash Sense Semicolon refl w₁ w₂
states_one (senses w₁ n₁ c₁) (ifs w₂ o₂ t₂ c₂ s₂ f₂) a b = clash Sense If refl w₁ w₂
states_one (senses w₁ n₁ c₁) (if_elses w₂ o₂ t₂ c₂ s₂ e₂ u₂) a b = clash Sense If refl w₁ w₂
states_one (senses w₁ n₁ c₁) (whiles w₂ o₂ t₂ c₂ s₂) a b = clash Sense While refl w₁ w₂
states_one (senses w₁ n₁ c₁) (breaks w₂ c₂) a b = clash Sense Break refl w₁ w₂
states_one (senses w₁ n₁ c₁) (blocks w₂ s₂ c₂) a b = clash Sense OpenBrace refl w₁ w₂
states_one (skips w₁) (sets n₂ e₂ d₂ c₂) a b = no_letter Semicolon refl n₂ w₁
states_one (skips w₁) (senses w₂ n₂ c₂) a b = clash Semicolon Sense refl w₁ w₂
states_one (skips w₁) (ifs w₂ o₂ t₂ c₂ s₂ f₂) a b = clash Semicolon If refl w₁ w₂
states_one (skips w₁) (if_elses w₂ o₂ t₂ c₂ s₂ e₂ u₂) a b = clash Semicolon If refl w₁ w₂
states_one (skips w₁) (whiles w₂ o₂ t₂ c₂ s₂) a b = clash Semicolon While refl w₁ w₂
states_one (skips w₁) (breaks w₂ c₂) a b = clash Semicolon Break refl w₁ w₂
states_one (skips w₁) (blocks w₂ s₂ c₂) a b = clash Semicolon OpenBrace refl w₁ w₂
states_one (ifs w₁ o₁ t₁ c₁ s₁ f₁) (sets n₂ e₂ d₂ c₂) a b = no_letter If refl n₂ w₁
states_one (ifs w₁ o₁ t₁ c₁ s₁ f₁) (senses w₂ n₂ c₂) a b = clash If Sense refl w₁ w₂
states_one (ifs w₁ o₁ t₁ c₁ s₁ f₁) (skips w₂) a b = clash If Semicolon refl w₁ w₂
states_one (ifs w₁ o₁ t₁ c₁ s₁ f₁) (whiles w₂ o₂ t₂ c₂ s₂) a b = clash If While refl w₁ w₂
states_one (ifs w₁ o₁ t₁ c₁ s₁ f₁) (breaks w₂ c₂) a b = clash If Break refl w₁ w₂
states_one (ifs w₁ o₁ t₁ c₁ s₁ f₁) (blocks w₂ s₂ c₂) a b = clash If OpenBrace refl w₁ w₂
states_one (if_elses w₁ o₁ t₁ c₁ s₁ e₁ u₁) (sets n₂ e₂ d₂ c₂) a b = no_letter If refl n₂ w₁
states_one (if_elses w₁ o₁ t₁ c₁ s₁ e₁ u₁) (senses w₂ n₂ c₂) a b = clash If Sense refl w₁ w₂
states_one (if_elses w₁ o₁ t₁ c₁ s₁ e₁ u₁) (skips w₂) a b = clash If Semicolon refl w₁ w₂
states_one (if_elses w₁ o₁ t₁ c₁ s₁ e₁ u₁) (whiles w₂ o₂ t₂ c₂ s₂) a b = clash If While refl w₁ w₂
states_one (if_elses w₁ o₁ t₁ c₁ s₁ e₁ u₁) (breaks w₂ c₂) a b = clash If Break refl w₁ w₂
states_one (if_elses w₁ o₁ t₁ c₁ s₁ e₁ u₁) (blocks w₂ s₂ c₂) a b = clash If OpenBrace refl w₁ w₂
states_one (whiles w₁ o₁ t₁ c₁ s₁) (sets n₂ e₂ d₂ c₂) a b = no_letter While refl n₂ w₁
states_one (whiles w₁ o₁ t₁ c₁ s₁) (senses w₂ n₂ c₂) a b = clash While Sense refl w₁ w₂
states_one (whiles w₁ o₁ t₁ c₁ s₁) (skips w₂) a b = clash While Semicolon refl w₁ w₂
states_one (whiles w₁ o₁ t₁ c₁ s₁) (ifs w₂ o₂ t₂ c₂ s₂ f₂) a b = clash While If refl w₁ w₂
states_one (whiles w₁ o₁ t₁ c₁ s₁) (if_elses w₂ o₂ t₂ c₂ s₂ e₂ u₂) a b = clash While If refl w₁ w₂
states_one (whiles w₁ o₁ t₁ c₁ s₁) (breaks w₂ c₂) a b = clash While Break refl w₁ w₂
states_one (whiles w₁ o₁ t₁ c₁ s₁) (blocks w₂ s₂ c₂) a b = clash While OpenBrace refl w₁ w₂
states_one (breaks w₁ c₁) (sets n₂ e₂ d₂ c₂) a b = no_letter Break refl n₂ w₁
states_one (breaks w₁ c₁) (senses w₂ n₂ c₂) a b = clash Break Sense refl w₁ w₂
states_one (breaks w₁ c₁) (skips w₂) a b = clash Break Semicolon refl w₁ w₂
states_one (breaks w₁ c₁) (ifs w₂ o₂ t₂ c₂ s₂ f₂) a b = clash Break If refl w₁ w₂
states_one (breaks w₁ c₁) (if_elses w₂ o₂ t₂ c₂ s₂ e₂ u₂) a b = clash Break If refl w₁ w₂
states_one (breaks w₁ c₁) (whiles w₂ o₂ t₂ c₂ s₂) a b = clash Break While refl w₁ w₂
states_one (breaks w₁ c₁) (blocks w₂ s₂ c₂) a b = clash Break OpenBrace refl w₁ w₂
states_one (blocks w₁ s₁ c₁) (sets n₂ e₂ d₂ c₂) a b = no_letter OpenBrace refl n₂ w₁
states_one (blocks w₁ s₁ c₁) (senses w₂ n₂ c₂) a b = clash OpenBrace Sense refl w₁ w₂
states_one (blocks w₁ s₁ c₁) (skips w₂) a b = clash OpenBrace Semicolon refl w₁ w₂
states_one (blocks w₁ s₁ c₁) (ifs w₂ o₂ t₂ c₂ s₂ f₂) a b = clash OpenBrace If refl w₁ w₂
states_one (blocks w₁ s₁ c₁) (if_elses w₂ o₂ t₂ c₂ s₂ e₂ u₂) a b = clash OpenBrace If refl w₁ w₂
states_one (blocks w₁ s₁ c₁) (whiles w₂ o₂ t₂ c₂ s₂) a b = clash OpenBrace While refl w₁ w₂
states_one (blocks w₁ s₁ c₁) (breaks w₂ c₂) a b = clash OpenBrace Break refl w₁ w₂
states_one no_more no_more a b = (refl, refl)
states_one no_more (one_more u₂ d₂) a b = no_statement a u₂
states_one (one_more u₁ d₁) no_more a b = no_statement b u₁
states_one (one_more {s = s} u₁ d₁) (one_more u₂ d₂) a b =
    let p = states_one u₁ u₂ tt tt in
    states_one d₁ (moved (ap (list s) p.0) p.1 d₂) a b

bound_one : {ws : List Word} {y z : ℤ} {r q : List Word} → Bound ws y r → Bound ws z q → (y ≡ z) × (r ≡ q)
bound_one (plainly {n = i} e) (plainly {n = j} f) = let g = sym e ∙ f in let same : i ≡ j = cc in (ap pos same, refl)
bound_one (plainly {n = i} e) (negated f g) = clash (Number i) Minus refl e f
bound_one (negated f g) (plainly {n = i} e) = clash Minus (Number i) refl f e
bound_one (negated {n = i} f e) (negated {n = j} h k) = let g = sym e ∙ k in let same : i ≡ j = cc in (ap (λ n. pos 0 -ℤ pos n) same, refl)

bound_at : {ws vs : List Word} {z : ℤ} {r : List Word} → ws ≡ vs → Bound vs z r → Bound ws z r
bound_at {z = z} {r = r} e b = subst (λ v. Bound v z r) (sym e) b

declares_at : (ds : List (Option Bounds)) {r q : Register} {b c : Bounds} {ws vs : List Word} {es : List (Option Bounds)} {rest : List Word} → r ≡ q → b ≡ c → ws ≡ vs
    → Declares (suc (register_index q)) (set ds (register_index q) (Some c)) vs es rest → Declares (suc (register_index r)) (set ds (register_index r) (Some b)) ws es rest
declares_at ds {r} {q} {b} {c} {ws} {vs} {es} {rest} e f g d =
    subst (λ x. Declares (suc (register_index x)) (set ds (register_index x) (Some b)) ws es rest) (sym e)
    (subst (λ x. Declares (suc (register_index q)) (set ds (register_index q) (Some x)) ws es rest) (sym f) (subst (λ x. Declares (suc (register_index q)) (set ds (register_index q) (Some c)) x es rest) (sym g) d))

pub declares_one : {i : ℕ} {ds : List (Option Bounds)} {ws : List Word} {es fs : List (Option Bounds)} {r q : List Word} → Declares i ds ws es r → Declares i ds ws fs q → (es ≡ fs) × (r ≡ q)
declares_one (no_register f) (no_register g) = (refl, refl)
declares_one (no_register f) all_declared = (refl, refl)
declares_one (no_register f) (register e v h b₁ b₂ b₃ b₄ c d) = absurd (f.0 e)
declares_one all_declared (no_register f) = (refl, refl)
declares_one all_declared all_declared = (refl, refl)
declares_one all_declared (register {r = r} e v h b₁ b₂ b₃ b₄ c d) = let s = index_small r in absurd (omega arith)
declares_one (register e v h b₁ b₂ b₃ b₄ c d) (no_register f) = absurd (f.0 e)
declares_one (register {r = r} e v h b₁ b₂ b₃ b₄ c d) all_declared = let s = index_small r in absurd (omega arith)
declares_one (register {ds = ds} {mid = mid} {r = r} {low = k₁} {high = k₂} {from = k₃} {to = k₄} e v h b₁ b₂ b₃ b₄ c d) (register {es = fs} {mid = mid'} {rest = rest'} {r = r'} {low = l₁} {high = l₂} {from = l₃} {to = l₄} e' v' h' b₁' b₂' b₃' b₄' c' d') =
    let g = sym v ∙ v' in
    let same : r ≡ r' = cc in
    let p₁ = bound_one b₁ b₁' in
    let p₂ = bound_one b₂ (bound_at p₁.1 b₂') in
    let p₃ = bound_one b₃ (bound_at p₂.1 b₃') in
    let p₄ = bound_one b₄ (bound_at p₃.1 b₄') in
    declares_one d (declares_at ds same (λ i. record { low = p₁.0 i; high = p₂.0 i; from = p₃.0 i; to = p₄.0 i }) (tail_is p₄.1) d')

ranged_one : (ds : List (Option Bounds)) (rs qs : List (Option Range)) → Ranged ds rs → Ranged ds qs → rs ≡ qs
ranged_one [] [] [] h k = refl
ranged_one [] [] (q ∷ qs) h k = absurd k
ranged_one [] (r ∷ rs) [] h k = absurd h
ranged_one [] (r ∷ rs) (q ∷ qs) h k = absurd h
ranged_one (d ∷ ds) [] qs h k = absurd h
ranged_one (d ∷ ds) (r ∷ rs) [] h k = absurd k
ranged_one (None ∷ ds) (None ∷ rs) (None ∷ qs) h k = ap (λ v. None ∷ v) (ranged_one ds rs qs h k)
ranged_one (None ∷ ds) (None ∷ rs) (Some q ∷ qs) h k = absurd k
ranged_one (None ∷ ds) (Some r ∷ rs) (q ∷ qs) h k = absurd h
ranged_one (Some b ∷ ds) (None ∷ rs) (q ∷ qs) h k = absurd h
ranged_one (Some b ∷ ds) (Some r ∷ rs) (None ∷ qs) h k = absurd k
ranged_one (Some b ∷ ds) (Some r ∷ rs) (Some q ∷ qs) h k =
    let e = same_range r q (h.0 ∙ sym k.0) (h.1 ∙ sym k.1) (h.2 ∙ sym k.2) (h.3 ∙ sym k.3) in
    let f = ranged_one ds rs qs h.4 k.4 in
    λ i. Some (e i) ∷ f i

-- the declarations and the body of a program are those that its words derive
derives_one : {ws : List Word} {ds es : List (Option Bounds)} {s t : Part} → Derives ws ds s → Derives ws es t → (ds ≡ es) × (s ≡ t)
derives_one {t = t} x y =
    let p = declares_one x.declares y.declares in
    let q = states_one x.states (subst (λ v. States (behind empty) v t []) (sym p.1) y.states) tt tt in
    (p.0, q.0)

-- the words of a program tell one tree
pub tells_one : {ws : List Word} {t u : Tree} → Tells ws t → Tells ws u → t ≡ u
tells_one {t = t} {u = u} x y =
    let p = derives_one x.derives y.derives in
    let q = ranged_one x.bounds t.declared u.declared x.ranged (subst (λ v. Ranged v u.declared) (sym p.0) y.ranged) in
    λ i. record { declared = q i; body = p.1 i }
