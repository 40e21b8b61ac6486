-- How the table reads a declaration, and what it adds to what has been declared. Assumes nothing.
use Rattle.std.proofs.Common.{◌≡◌, ℕ, zero, suc, ◌*◌, ◌<◌, ◌≤◌, Bool, true, false, not, ◌&&◌, ltb, is_some, List, [], ◌∷◌, ◌++◌, map, length, get_or, set, ℤ, pos, negsuc, ◌-ℤ◌, nat_abs, ◌≤ℤ◌, Some, None, Option, sym, refl, ap, ◌∙◌, subst, inl, inr, mul_assoc, mul_comm, one-mul, arith, le-ltb, lt-ltb}
use borrow.Author.Tests.{clash}
use Rattle.grammar.specs.Grammars.{Quiet}
use Rattle.grammar.specs.Answers.{Charge, fine, fault}
use Rattle.model.specs.declared.refusal.Cause.{Cause}
use Rattle.model.specs.declared.refusal.Cause.TheVariants.{Range as OutOfRange, Starts as TooMany}
use Rattle.text.specs.declared.word.Register.{Register}
use Rattle.text.specs.declared.word.Token.TheVariants.{Current, Reg, Semicolon}
use Rattle.text.specs.declared.word.Word.{Word}
use Rattle.text.specs.Words.{at, letter, register_index}
use Rattle.text.specs.Table.{plain, declares, ends_declaration, Item, statements, declarations, declared_letter, bound, close_declaration, following, program_start, rules_of, line}
use Rattle.text.specs.Charges.{Memo, charge, when, deep, with_settings, more_settings, ranged, declaring, declare, size as gap, open_in, program_memo}
use Rattle.text.specs.Reading.{reads, Unlike}
use Rattle.text.proofs.Going.{takes_word, charges_word, refuses, not_deep}
use lib.Signed.{le_z}
use Rattle.std.proofs.lemmas.Int.{ints}
use Rattle.std.proofs.lemmas.Bool.{and_parts, and_from, cases_Bool}
use Rattle.grammar.proofs.Trees.{find_later}
use Rattle.text.specs.declared.reading.Fault.{Fault}
use Rattle.text.specs.declared.word.Scope.TheVariants.{Declared as InScope}
use Rattle.text.specs.declared.word.Register.TheVariants.{A as ra, B as rb, C as rc, D as rd, E as re, F as rf}
use Rattle.text.specs.Reading.{place_of, FaultAt}
use Rattle.traces.specs.declared.range.Range.{Range}
use Rattle.traces.specs.Proper.{proper}
use Rattle.traces.specs.Programs.{range}
use Rattle.traces.specs.Tables.{above}
use Rattle.traces.specs.Codes.{settings}
use Rattle.traces.proofs.Spans.{Ordered, ordered, is_proper, range_ordered}
use Rattle.syntax.specs.Phrases.{Bound, Bounds, Declares, register, Ranged}
use Rattle.syntax.proofs.Forth.{from_register, letter_found, following_is}
use Rattle.program.specs.declared.header.Header.{Header}
use Rattle.program.specs.Headers.{shifted, BoundRead, BoundStopped, HeaderRead, HeaderStopped, Unlettered}
use Rattle.program.specs.Boards.{Charged}
use Rattle.program.specs.Growth.{Declared}
use Rattle.std.proofs.lemmas.List.{map-set}

-- ---- the register of a place
record At (i : ℕ) : Type 0 where
  name : Register
  index : register_index name ≡ i
  owes : from_register i ≡ declarations name ∷ []

at_place : (i : ℕ) → i < 6 → At i
at_place zero h = record { name = ra; index = refl; owes = refl }
at_place (suc zero) h = record { name = rb; index = refl; owes = refl }
at_place (suc (suc zero)) h = record { name = rc; index = refl; owes = refl }
at_place (suc (suc (suc zero))) h = record { name = rd; index = refl; owes = refl }
at_place (suc (suc (suc (suc zero)))) h = record { name = re; index = refl; owes = refl }
at_place (suc (suc (suc (suc (suc zero))))) h = record { name = rf; index = refl; owes = refl }
at_place (suc (suc (suc (suc (suc (suc n)))))) h = absurd (omega arith)

flat : (q : Register) → open_in (following q ++ statements ∷ []) ≡ 0
flat ra = refl
flat rb = refl
flat rc = refl
flat rd = refl
flat re = refl
flat rf = refl

-- ---- ranges and settings
ranged_is : (z₁ z₂ z₃ z₄ : ℤ) → proper z₁ z₂ z₃ z₄ ≡ true → (le_z z₁ z₃ && le_z z₃ z₄ && le_z z₄ z₂ && le_z (z₂ -ℤ z₁) (pos 63)) ≡ true
ranged_is z₁ z₂ z₃ z₄ e =
    let o = ordered z₁ z₂ z₃ z₄ e in
    let a = o.first in let b = o.some in let c = o.last in let d = o.narrow in
    and_from _ _ (and_from _ _ (and_from _ _ (Rattle.traces.proofs.Spans.le_yes z₁ z₃ a) (Rattle.traces.proofs.Spans.le_yes z₃ z₄ b)) (Rattle.traces.proofs.Spans.le_yes z₄ z₂ c)) (Rattle.traces.proofs.Spans.le_yes (z₂ -ℤ z₁) (pos 63) (omega (arith, ints)))

not_ranged : (z₁ z₂ z₃ z₄ : ℤ) → negsuc 999 ≤ℤ z₁ → z₂ ≤ℤ pos 1000 → proper z₁ z₂ z₃ z₄ ≡ false → (le_z z₁ z₃ && le_z z₃ z₄ && le_z z₄ z₂ && le_z (z₂ -ℤ z₁) (pos 63)) ≡ false
not_ranged z₁ z₂ z₃ z₄ f c e =
    elim (cases_Bool (le_z z₁ z₃ && le_z z₃ z₄ && le_z z₄ z₂ && le_z (z₂ -ℤ z₁) (pos 63))) [
      | inr q ↦ q
      | inl q ↦
          let p = and_parts (le_z z₁ z₃ && le_z z₃ z₄ && le_z z₄ z₂) (le_z (z₂ -ℤ z₁) (pos 63)) q in
          let s = and_parts (le_z z₁ z₃ && le_z z₃ z₄) (le_z z₄ z₂) p.0 in
          let t = and_parts (le_z z₁ z₃) (le_z z₃ z₄) s.0 in
          let n = Rattle.traces.proofs.Spans.yes_le (z₂ -ℤ z₁) (pos 63) p.1 in
          let y = is_proper z₁ z₂ z₃ z₄ (record { floor = f; ceiling = c; first = Rattle.traces.proofs.Spans.yes_le z₁ z₃ t.0; some = Rattle.traces.proofs.Spans.yes_le z₃ z₄ t.1; last = Rattle.traces.proofs.Spans.yes_le z₄ z₂ s.1; narrow = omega (arith, ints) }) in
          absurd (clash (sym e ∙ y))
    ]

gap_of : (z : ℤ) → pos 0 ≤ℤ z → gap z ≡ nat_abs z
gap_of (pos n) h = refl
gap_of (negsuc n) h = absurd (omega (arith, ints))

gap_is : (a b : ℤ) → a ≤ℤ b → gap (b -ℤ a) ≡ above a b
gap_is a b h = gap_of (b -ℤ a) (omega (arith, ints))

ranged_set : (ds : List (Option Bounds)) (rs : List (Option Range)) (i : ℕ) (b : Bounds) (r : Range) → Ranged ds rs → r.low ≡ b.low → r.high ≡ b.high → r.from ≡ b.from → r.to ≡ b.to → Ranged (set ds i (Some b)) (set rs i (Some r))
ranged_set [] [] i b r h e f g l = tt
ranged_set [] (q ∷ rs) i b r h e f g l = absurd h
ranged_set (d ∷ ds) [] i b r h e f g l = absurd h
ranged_set (None ∷ ds) (None ∷ rs) zero b r h e f g l = (e, f, g, l, h)
ranged_set (None ∷ ds) (Some q ∷ rs) zero b r h e f g l = absurd h
ranged_set (Some d ∷ ds) (None ∷ rs) zero b r h e f g l = absurd h
ranged_set (Some d ∷ ds) (Some q ∷ rs) zero b r h e f g l = (e, f, g, l, h.4)
ranged_set (None ∷ ds) (None ∷ rs) (suc i) b r h e f g l = ranged_set ds rs i b r h e f g l
ranged_set (None ∷ ds) (Some q ∷ rs) (suc i) b r h e f g l = absurd h
ranged_set (Some d ∷ ds) (None ∷ rs) (suc i) b r h e f g l = absurd h
ranged_set (Some d ∷ ds) (Some q ∷ rs) (suc i) b r h e f g l = (h.0, h.1, h.2, h.3, ranged_set ds rs i b r h.4 e f g l)

pub settings_set : (rs : List (Option Range)) (i : ℕ) (r : Range) → i < length rs → get_or rs i None ≡ None → settings (map range (set rs i (Some r))) ≡ settings (map range rs) * suc (above r.from r.to)
settings_set [] i r h e = absurd (omega arith)
settings_set (q ∷ rs) zero r h e = mul_comm (suc (above r.from r.to)) (settings (map range rs)) ∙ ap (λ n. n * suc (above r.from r.to)) (sym (ap (λ (o : Option Range). suc (above (range o).from (range o).to) * settings (map range rs)) e ∙ one-mul (settings (map range rs))))
settings_set (q ∷ rs) (suc i) r h e =
    ap (λ n. suc (above (range q).from (range q).to) * n) (settings_set rs i r (omega arith) e) ∙ sym (mul_assoc (suc (above (range q).from (range q).to)) (settings (map range rs)) (suc (above r.from r.to)))

-- ---- the words of a declaration
module _ {ws₀ : List Word} {h : Header} {w : Word} {words : List Word} (e : w.token ≡ Reg) (small : h.next < 6) (R : HeaderRead ws₀ h (w ∷ words)) where
  reg_goes : reads ws₀ program_memo program_start ≡ reads words R.memo (declared_letter (at_place h.next small).name ∷ statements ∷ [])
  reg_goes =
      let a = at_place h.next small in
      R.goes ∙ ap (λ js. reads (w ∷ words) R.memo (js ++ statements ∷ [])) a.owes
      ∙ takes_word (declarations a.name) Reg plain (declared_letter a.name ∷ []) w e (λ _. refl) words R.memo R.memo (statements ∷ []) (not_deep (declared_letter a.name ∷ statements ∷ []) R.memo (omega arith))

  pub letter_none : (end : ℕ) (f : Fault) → Unlettered h.next words → FaultAt end words f → HeaderStopped end ws₀ f
  letter_none end f u a = record {
    words = words;
    place_is = a.place_is;
    stops = reg_goes ∙ refuses (declared_letter (at_place h.next small).name) refl words (quiet_letters (at_place h.next small) words u) R.memo (statements ∷ []) ∙ ap (λ c. fault c words) (sym a.cause_is);
  }
    where
      quiet_letters : (p : At h.next) (vs : List Word) → Unlettered h.next vs → Quiet (rules_of (declared_letter p.name)) vs
      quiet_letters p [] u = tt
      quiet_letters p (v ∷ vs) u = Rattle.program.proofs.Letters.no_letters p.name v (λ q g. let x = u q g in let y = p.index in omega arith)

  stopped : (end : ℕ) (f : Fault) (v : List Word) → f.place ≡ place_of end v → reads ws₀ program_memo program_start ≡ fault f.cause v → HeaderStopped end ws₀ f
  stopped end f v p g = record { words = v; place_is = p; stops = g }

  module _ {v : Word} {q : Register} {ws₁ : List Word} (s : words ≡ v ∷ ws₁) (f : v.token ≡ Current q) (l : h.next ≤ register_index q) where
    abbrev m₁ : Memo
    m₁ = declaring R.memo (register_index q)

    abbrev F : List Item
    F = following q ++ statements ∷ []

    letter_goes : reads ws₀ program_memo program_start ≡ reads ws₁ m₁ (bound ∷ bound ∷ bound ∷ bound ∷ close_declaration ∷ F)
    letter_goes =
        let a = at_place h.next small in
        reg_goes ∙ ap (λ x. reads x R.memo (declared_letter a.name ∷ statements ∷ [])) s
        ∙ takes_word (declared_letter a.name) (Current q) declares (bound ∷ bound ∷ bound ∷ bound ∷ close_declaration ∷ following q) v f (λ p. letter_found a.name q p (let y = a.index in omega arith)) ws₁ R.memo m₁ (statements ∷ [])
        (ap (λ t. deep (bound ∷ bound ∷ bound ∷ bound ∷ close_declaration ∷ F) (declaring R.memo (letter t))) f ∙ not_deep (bound ∷ bound ∷ bound ∷ bound ∷ close_declaration ∷ F) m₁ (let y = flat q in omega arith))

    pub first_stopped : (end : ℕ) (g : Fault) → BoundStopped end ws₁ g → HeaderStopped end ws₀ g
    first_stopped end g b = stopped end g b.words b.place_is (letter_goes ∙ b.stops m₁ (bound ∷ bound ∷ bound ∷ close_declaration ∷ F) refl (let y = flat q in omega arith))

    module _ {z₁ : ℤ} {ws₂ : List Word} (b₁ : BoundRead ws₁ z₁ ws₂) where
      goes₁ : reads ws₀ program_memo program_start ≡ reads ws₂ (shifted m₁ z₁) (bound ∷ bound ∷ bound ∷ close_declaration ∷ F)
      goes₁ = letter_goes ∙ b₁.goes m₁ (bound ∷ bound ∷ bound ∷ close_declaration ∷ F) refl (let y = flat q in omega arith)

      pub second_stopped : (end : ℕ) (g : Fault) → BoundStopped end ws₂ g → HeaderStopped end ws₀ g
      second_stopped end g b = stopped end g b.words b.place_is (goes₁ ∙ b.stops (shifted m₁ z₁) (bound ∷ bound ∷ close_declaration ∷ F) refl (let y = flat q in omega arith))

      module _ {z₂ : ℤ} {ws₃ : List Word} (b₂ : BoundRead ws₂ z₂ ws₃) where
        goes₂ : reads ws₀ program_memo program_start ≡ reads ws₃ (shifted (shifted m₁ z₁) z₂) (bound ∷ bound ∷ close_declaration ∷ F)
        goes₂ = goes₁ ∙ b₂.goes (shifted m₁ z₁) (bound ∷ bound ∷ close_declaration ∷ F) refl (let y = flat q in omega arith)

        pub third_stopped : (end : ℕ) (g : Fault) → BoundStopped end ws₃ g → HeaderStopped end ws₀ g
        third_stopped end g b = stopped end g b.words b.place_is (goes₂ ∙ b.stops (shifted (shifted m₁ z₁) z₂) (bound ∷ close_declaration ∷ F) refl (let y = flat q in omega arith))

        module _ {z₃ : ℤ} {ws₄ : List Word} (b₃ : BoundRead ws₃ z₃ ws₄) where
          goes₃ : reads ws₀ program_memo program_start ≡ reads ws₄ (shifted (shifted (shifted m₁ z₁) z₂) z₃) (bound ∷ close_declaration ∷ F)
          goes₃ = goes₂ ∙ b₃.goes (shifted (shifted m₁ z₁) z₂) (bound ∷ close_declaration ∷ F) refl (let y = flat q in omega arith)

          pub fourth_stopped : (end : ℕ) (g : Fault) → BoundStopped end ws₄ g → HeaderStopped end ws₀ g
          fourth_stopped end g b = stopped end g b.words b.place_is (goes₃ ∙ b.stops (shifted (shifted (shifted m₁ z₁) z₂) z₃) (close_declaration ∷ F) refl (let y = flat q in omega arith))

          module _ {z₄ : ℤ} {ws₅ : List Word} (b₄ : BoundRead ws₄ z₄ ws₅) where
            abbrev m₄ : Memo
            m₄ = shifted (shifted (shifted (shifted m₁ z₁) z₂) z₃) z₄

            goes₄ : reads ws₀ program_memo program_start ≡ reads ws₅ m₄ (close_declaration ∷ F)
            goes₄ = goes₃ ∙ b₄.goes (shifted (shifted (shifted m₁ z₁) z₂) z₃) (close_declaration ∷ F) refl (let y = flat q in omega arith)

            pub close_none : (end : ℕ) (g : Fault) → Unlike Semicolon ws₅ → FaultAt end ws₅ g → HeaderStopped end ws₀ g
            close_none end g u a = stopped end g ws₅ a.place_is (goes₄ ∙ refuses close_declaration refl ws₅ (quiet ws₅ u) m₄ F ∙ ap (λ c. fault c ws₅) (sym a.cause_is))
              where
                quiet : (vs : List Word) → Unlike Semicolon vs → Quiet (rules_of close_declaration) vs
                quiet [] u = tt
                quiet (x ∷ vs) u = find_later (line (at Semicolon) ends_declaration []) [] x u

            module _ {c : Word} {mid : List Word} (t : ws₅ ≡ c ∷ mid) (g : c.token ≡ Semicolon) where
              charge_at : (b : Bool) (d : Charge Memo Cause) → ranged m₄ ≡ b → when (ltb 65536 (more_settings m₄)) TooMany (deep F (with_settings m₄ (more_settings m₄))) ≡ d → charge m₄ ends_declaration c F ≡ when (not b) OutOfRange d
              charge_at b d x y = ap (λ u. when (not u) OutOfRange (when (ltb 65536 (more_settings m₄)) TooMany (deep F (with_settings m₄ (more_settings m₄))))) x ∙ ap (when (not b) OutOfRange) y

              pub out_of_range : (end : ℕ) (k : Fault) → proper z₁ z₂ z₃ z₄ ≡ false → k.cause ≡ OutOfRange → k.place ≡ c.place → HeaderStopped end ws₀ k
              out_of_range end k n x y = stopped end k (c ∷ mid) y
                  (goes₄ ∙ ap (λ u. reads u m₄ (close_declaration ∷ F)) t ∙ charges_word close_declaration Semicolon ends_declaration [] c g (λ _. refl) mid m₄ F OutOfRange (charge_at false _ (not_ranged z₁ z₂ z₃ z₄ b₁.floor b₂.ceiling n) refl) ∙ ap (λ u. fault u (c ∷ mid)) (sym x))

              module _ (r : Range) (e₁ : r.low ≡ z₁) (e₂ : r.high ≡ z₂) (e₃ : r.from ≡ z₃) (e₄ : r.to ≡ z₄) where
                sound : proper z₁ z₂ z₃ z₄ ≡ true
                sound = subst (λ a. proper a z₂ z₃ z₄ ≡ true) e₁ (subst (λ a. proper r.low a z₃ z₄ ≡ true) e₂ (subst (λ a. proper r.low r.high a z₄ ≡ true) e₃ (subst (λ a. proper r.low r.high r.from a ≡ true) e₄ r.sound)))

                count_is : more_settings m₄ ≡ h.settings * suc (above r.from r.to)
                count_is =
                    let o = range_ordered r in
                    ap (λ n. n * suc (gap (z₄ -ℤ z₃))) R.heads.settings_are ∙ ap (λ n. h.settings * suc n) (ap (λ a. gap (a -ℤ z₃)) (sym e₄) ∙ ap (λ a. gap (r.to -ℤ a)) (sym e₃) ∙ gap_is r.from r.to o.some)

                pub too_many : (end : ℕ) (k : Fault) → Charged (65536 < h.settings * suc (above r.from r.to)) TooMany c k → HeaderStopped end ws₀ k
                too_many end k x = let i = count_is in let n = x.why in stopped end k (c ∷ mid) x.place_is
                    (goes₄ ∙ ap (λ u. reads u m₄ (close_declaration ∷ F)) t ∙ charges_word close_declaration Semicolon ends_declaration [] c g (λ _. refl) mid m₄ F TooMany
                    (charge_at true _ (ranged_is z₁ z₂ z₃ z₄ sound) (ap (λ b. when b TooMany (deep F (with_settings m₄ (more_settings m₄)))) (lt-ltb 65536 (more_settings m₄) (omega arith)))) ∙ ap (λ u. fault u (c ∷ mid)) (sym x.cause_is))

                declared_goes : (n : ℕ) → n ≡ h.settings * suc (above r.from r.to) → n ≤ 65536 → reads ws₀ program_memo program_start ≡ reads mid (with_settings m₄ n) (from_register (suc (register_index q)) ++ statements ∷ [])
                declared_goes n a b =
                    let i = count_is in
                    goes₄ ∙ ap (λ u. reads u m₄ (close_declaration ∷ F)) t
                    ∙ takes_word close_declaration Semicolon ends_declaration [] c g (λ _. refl) mid m₄ (with_settings m₄ n) F
                    (charge_at true _ (ranged_is z₁ z₂ z₃ z₄ sound) (ap (λ u. when u TooMany (deep F (with_settings m₄ (more_settings m₄)))) (le-ltb 65536 (more_settings m₄) (omega arith)) ∙ not_deep F (with_settings m₄ (more_settings m₄)) (let y = flat q in omega arith) ∙ ap (λ u. fine (with_settings m₄ u)) (i ∙ sym a)))
                    ∙ ap (λ js. reads mid (with_settings m₄ n) (js ++ statements ∷ [])) (following_is q)

                pub declared_read : (y : Header) → Declared q r h y → HeaderRead ws₀ y mid
                declared_read y x =
                    let i = register_index q in
                    let a = x.ranges in
                    let b = x.settings in
                    let k = x.next in
                    let H = R.heads in
                    record {
                      bounds = set R.bounds i (Some (record { low = z₁; high = z₂; from = z₃; to = z₄ }));
                      memo = with_settings m₄ y.settings;
                      heads = record {
                        ranged = subst (λ rs. Ranged (set R.bounds i (Some (record { low = z₁; high = z₂; from = z₃; to = z₄ }))) rs) (sym a) (ranged_set R.bounds h.ranges i (record { low = z₁; high = z₂; from = z₃; to = z₄ }) r H.ranged e₁ e₂ e₃ e₄);
                        counted = H.counted;
                        read = H.read;
                        plain = refl;
                        settings_are = refl;
                        scoped = ap (λ u. declare u i) H.scoped ∙ ap InScope (sym (map-set is_some h.ranges i (Some r))) ∙ ap (λ rs. InScope (map is_some rs)) (sym a);
                      };
                      derives = λ es rest d. R.derives es rest (subst (λ us. Declares h.next R.bounds (w ∷ us) es rest) (sym s)
                          (register e f l b₁.derives b₂.derives b₃.derives (subst (λ us. Bound ws₄ z₄ us) t b₄.derives) g (subst (λ u. Declares u (set R.bounds i (Some (record { low = z₁; high = z₂; from = z₃; to = z₄ }))) mid es rest) k d)));
                      goes = declared_goes y.settings b y.few ∙ ap (λ u. reads mid (with_settings m₄ y.settings) (from_register u ++ statements ∷ [])) (sym k);
                    }
