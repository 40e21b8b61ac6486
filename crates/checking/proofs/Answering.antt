-- One call among many: what it answers is due by the calls before it. Assumes nothing.
use Rattle.std.proofs.Common.{◌≡◌, ℕ, zero, suc, ◌+◌, ◌<◌, ◌≤◌, true, false, cond, eqb, leb, ◌⊎◌, List, [], ◌∷◌, ◌++◌, length, take, drop, Some, Ok, Err, Result, sym, refl, ap, ◌∙◌, subst, inl, inr, arith, length-append, length-drop, take-append-drop, length-take-le, eq-eqb, ne_eqb, le-leb}
use borrow.Author.Tests.{lt-leb}
use Rattle.std.specs.Result.{result_map_both, MatchResult, IsOkAnd}
use Rattle.std.proofs.lemmas.List.{take_at}
use Rattle.std.proofs.lemmas.Bool.{cases_eq}
use Rattle.model.specs.Cells.{CellMeaning, at}
use Rattle.model.specs.Entries.{Entry}
use Rattle.model.specs.Keys.{KeyMeaning, configuration_key}
use Rattle.model.specs.Refusals.{reply}
use Rattle.model.specs.Watches.{WatchMeaning}
use Rattle.model.specs.declared.answer.Answer.{Answer}
use Rattle.model.specs.declared.configuration.Configuration.{Configuration}
use Rattle.model.specs.declared.refusal.Refusal.{Refusal}
use Rattle.levels.specs.Units as units
use Rattle.levels.specs.Units.{looking, extending, passing, failing, filled, said, says, from_at, last_at, trail}
use Rattle.levels.proofs.Lists.{at_below, below_at}
use Rattle.levels.proofs.Places.{KeptBack, Inside, Placed, placed}
use Rattle.levels.proofs.Reaching.{from_at_is, last_at_is}
use Rattle.levels.proofs.Theorem.{law}
use Rattle.store.specs.Entries.{entries}
use Rattle.store.specs.declared.record.Record.{Record}
use Rattle.store.proofs.Laws.{entries_length, entries_take}
use Rattle.checking.specs.declared.calls.Call.{Call}
use Rattle.checking.specs.declared.calls.Call.TheVariants.{Open, Work, Restart, Verdict, Shown}
use Rattle.checking.specs.declared.calls.Reply.{Reply}
use Rattle.checking.specs.declared.calls.Reply.TheVariants.{Told, Code}
use Rattle.checking.specs.declared.state.Check.{Check}
use Rattle.checking.specs.Opening.{Opens, Restarts}
use Rattle.checking.specs.Replay.{History, since, due, told, code, refused, Tells, Refuses, CodeOf, ShownOf, Pays, Keeps, Responds, Opened}
use Rattle.checking.specs.Showing.{whole, shown, CodeAt, NoCode, ShownAt}
use Rattle.checking.specs.Standing as standing
use Rattle.checking.specs.Standing.{phase_of, view, after, answer, Stands}
use Rattle.checking.specs.Working.{Works}
use Rattle.checking.proofs.Trails.{run_length}

-- the first p records of a table, lent on: bs is what they hold after it, and ys the whole table
pub record Part {A : Type 0} (xs bs ys : List A) (p : ℕ) : Type 0 where
  pub inside : p ≤ length xs
  pub long : length bs ≡ p
  pub front : take p ys ≡ bs
  pub whole_long : length ys ≡ length xs
  pub same : bs ≡ take p xs → ys ≡ xs

pub part_of : {A : Type 0} (xs bs : List A) (p : ℕ) → p ≤ length xs → length bs ≡ length (take p xs) → Part xs bs (bs ++ drop p xs) p
part_of xs bs p h l =
    let long : length bs ≡ p = l ∙ length-take-le p xs h in
    record {
      inside = h;
      long = long;
      front = take_at bs (drop p xs) p long;
      whole_long = length-append bs (drop p xs) ∙ omega (arith, long, length-drop p xs);
      same = λ s. ap (λ l. l ++ drop p xs) s ∙ take-append-drop p xs;
    }

-- a result, with what it tells as a reply
abbrev pub mapped : {T : Type 0} → (T → Reply) → Result T Refusal → Result Reply Refusal
mapped f a = result_map_both f (λ e. e) a

pub mapped_is : {T : Type 0} (f : T → Reply) (a : Result T Refusal) (r : Result Reply Refusal) → MatchResult a (λ x. IsOkAnd r (λ y. y ≡ f x)) (λ e. r ≡ Err e) → r ≡ mapped f a
mapped_is f (Ok x) (Ok y) h = ap Ok h
mapped_is f (Ok x) (Err e) h = absurd h
mapped_is f (Err e) r h = h

-- what an answer of a standing tells
pub tells : {S : Type 0} (es : List (Entry (Configuration S))) (ph : units.Phase) → Tells (said es ph) (standing.told ph (length es))
tells es (failing b i y) = (refl, sym (run_length es b i y))
tells es ph = (refl, refl)

pub told_stored : {S : Type 0} (es : List (Entry (Configuration S))) (ph : units.Phase) → (standing.told ph (length es)).stored ≡ length es
told_stored es ph = elim ph as (λ ph. (standing.told ph (length es)).stored ≡ length es) [ looking j low i ↦ refl | extending j end i ↦ refl | passing ↦ refl | failing b i y ↦ refl | filled ↦ refl ]

at_take : {A : Type 0} (ws : List A) (m i : ℕ) (e : A) → at (take m ws) i ≡ Some e → at ws i ≡ Some e
at_take [] zero i e h = h
at_take [] (suc m) i e h = h
at_take (w ∷ ws) zero i e h = absurd (cc)
at_take (w ∷ ws) (suc m) zero e h = h
at_take (w ∷ ws) (suc m) (suc i) e h = at_take ws m i e h

-- the trail stays among the stored entries
pub trail_same : {S : Type 0} (ws es : List (Entry (Configuration S))) (m : ℕ) → es ≡ take m ws → ((p : ℕ) (e : Entry (Configuration S)) → at es p ≡ Some e → e.from ≤ p) → (b i : ℕ) → (b ≡ 0) ⊎ (i < length es) → trail ws b i ≡ trail es b i
trail_same ws es m t back zero i h = refl
trail_same ws es m t back (suc b) i (inl z) = absurd (omega arith)
trail_same ws es m t back (suc b) i (inr h) =
    let e = at_below es i h in
    let there = at_take ws m i e.0 (ap (λ l. at l i) (sym t) ∙ e.1) in
    let f : from_at ws i ≡ from_at es i = from_at_is ws i e.0 there ∙ sym (from_at_is es i e.0 e.1) in
    let l : last_at ws i ≡ last_at es i = last_at_is ws i e.0 there ∙ sym (last_at_is es i e.0 e.1) in
    let near = back i e.0 e.1 in
    let g = from_at_is es i e.0 e.1 in
    ap (λ j. trail ws b j ++ (last_at ws i ∷ [])) f
    ∙ ap (λ r. r ++ (last_at ws i ∷ [])) (trail_same ws es m t back b (from_at es i) (inr (omega arith)))
    ∙ ap (λ y. trail es b (from_at es i) ++ (y ∷ [])) l

-- the code at a place of a run, as a reply
code_of : (run : List ℕ) (q z : ℕ) (r : Result Reply Refusal) → r ≡ Ok (Code z) → at run q ≡ Some z → CodeOf run q r
code_of run q z r e a = (
  λ y b. e ∙ ap (λ y. Ok (Code y)) (let i : z ≡ y = cc in i),
  λ l. absurd (omega (arith, below_at run q z a)),
)

no_code_of : (run : List ℕ) (q : ℕ) (e : Refusal) (r : Result Reply Refusal) → r ≡ Err e → length run ≤ q → reply e ≡ (6, 15, q) → CodeOf run q r
no_code_of run q e r f l g = (λ y b. absurd (omega (arith, below_at run q y b)), λ _. (e, f, g))

-- what a shown state answers, by the phase
shown_of : {S : Type 0} (xs : List (Record (Configuration S))) (m : ℕ) (ph : units.Phase) → m ≤ length xs → KeptBack (length xs) (entries xs m) → Inside (entries xs m) ph → (q : ℕ) (r : Result Reply Refusal)
    → ((y : ℕ) → r ≡ Ok (Code y) → CodeAt (shown ph xs) q y → ShownOf (said (entries xs m) ph) q r) × ((e : Refusal) → r ≡ Err e → NoCode (shown ph xs) q e → ShownOf (said (entries xs m) ph) q r)
shown_of xs m (failing d i z) l b n q r =
    let same : trail (whole xs) d i ++ (z ∷ []) ≡ trail (entries xs m) d i ++ (z ∷ []) = ap (λ t. t ++ (z ∷ [])) (trail_same (whole xs) (entries xs m) m (sym (entries_take xs m (length xs) l)) b.back d i n) in (
      λ y f g. code_of _ q y r f (ap (λ run. at run q) (sym same) ∙ g),
      λ e f g. no_code_of _ q e r f (subst (λ run. length run ≤ q) same g.0) g.1,
    )
shown_of xs m ph l b n q r = (λ y f g. absurd g, λ e f g. (e, f, g))

-- an answer of the definition pays what is told
module _ {S : Type 0} (c : CellMeaning) (w : WatchMeaning S) (kind : KeyMeaning S) where
  pub pays_told : (n u : ℕ) (a : Answer) (r : Result Reply Refusal) → r ≡ Ok (Told a) → a ≡ answer (after c w kind n u) → Pays c w kind (told n u) r
  pays_told n u a r e f =
      let t = after c w kind n u in (
        a,
        e,
        law c w (configuration_key kind) n u,
        subst (λ a. Tells (says t) a) (sym f) (tells t.stored t.phase),
        ap (λ (a : Answer). a.stored) f ∙ told_stored t.stored t.phase,
      )

  -- the history's check is opened with the history's places
  places_of : (h : History) (k : Check) (xs : List (Record (Configuration S))) → Keeps c w kind h k xs → k.places ≡ h.places
  places_of h k xs q = q.stands.places ∙ length-take-le h.places xs q.within

  module _ (k k' : Check) (xs bs ys : List (Record (Configuration S))) (p : ℕ) (part : Part xs bs ys p) where
    -- a call that changes nothing keeps the history
    kept_same : bs ≡ take p xs → k' ≡ k → (h : History) → Keeps c w kind h k xs → Keeps c w kind h k' ys
    kept_same s e h q = subst (λ k. Keeps c w kind h k ys) (sym e) (subst (λ ys. Keeps c w kind h k ys) (sym (part.same s)) q)

    -- the check stands in the part that was lent
    pub kept_part : (u : ℕ) → Stands c w kind u k' bs → Keeps c w kind (since p u) k' ys
    kept_part u s =
        record {
          within = omega (arith, part.inside, part.whole_long);
          stands = subst (λ bs. Stands c w kind u k' bs) (sym part.front) s;
        }

    pub long_part : length (take p xs) ≡ p
    long_part = length-take-le p xs part.inside

    pub opens : (a : Result (Check × Answer) Refusal) (b : Result Answer Refusal) (r : Result Reply Refusal) → r ≡ mapped Told b → Opens c w kind (take p xs) bs a → Opened a k k' b → Responds c w kind Open p k k' xs ys r
    opens (Ok a) b r f o d =
        let small : leb p 1000000 ≡ true = le-leb p 1000000 (omega (arith, o.0, long_part)) in
        record {
          pays = λ h q. subst (λ b. Pays c w kind (cond b (told p 0) (refused 6 17 p)) r) (sym small)
              (pays_told p 0 a.1 r (f ∙ ap (mapped Told) d.1) (o.2 ∙ ap (λ n. answer (after c w kind n 0)) long_part));
          keeps = λ h q. subst (λ b. Keeps c w kind (cond b (since p 0) h) k' ys) (sym small)
              (kept_part 0 (subst (λ k. Stands c w kind 0 k bs) (sym d.0) o.1.stands));
        }
    opens (Err e) b r f o d =
        let large : leb p 1000000 ≡ false = lt-leb p 1000000 (omega (arith, o.0, long_part)) in
        record {
          pays = λ h q. subst (λ b. Pays c w kind (cond b (told p 0) (refused 6 17 p)) r) (sym large)
              (e, f ∙ ap (mapped Told) d.1, o.2 ∙ ap (λ n. (6, 17, n)) long_part);
          keeps = λ h q. subst (λ b. Keeps c w kind (cond b (since p 0) h) k' ys) (sym large) (kept_same o.1 d.0 h q);
        }

    -- where the lengths fit, the check stands in the part as the history says
    fits : (h : History) → Keeps c w kind h k xs → k.places ≡ length (take p xs) → p ≡ h.places
    fits h q f = sym long_part ∙ sym f ∙ places_of h k xs q

    fitting : (h : History) → Keeps c w kind h k xs → p ≡ h.places → Stands c w kind h.units k (take p xs)
    fitting h q e = subst (λ (n : ℕ). Stands c w kind h.units k (take n xs)) (sym e) q.stands

    -- where they do not, the call is turned away
    misfit : (h : History) → Keeps c w kind h k xs → (k.places ≡ length (take p xs) → ⊥) → eqb p h.places ≡ false
    misfit h q f = ne_eqb p h.places (λ e. f (places_of h k xs q ∙ sym e ∙ sym long_part))

    refused_misfit : (e : Refusal) (r : Result Reply Refusal) → r ≡ Err e → reply e ≡ (6, 16, length (take p xs)) → Refuses r 6 16 p
    refused_misfit e r f g = (e, f, g ∙ ap (λ n. (6, 16, n)) long_part)

    -- an answer after a history that ends with u units
    paid : (h : History) (u : ℕ) (a : Answer) (r : Result Reply Refusal) → p ≡ h.places → r ≡ Ok (Told a) → a ≡ answer (after c w kind (length (take p xs)) u) → Pays c w kind (told h.places u) r
    paid h u a r e f g = pays_told h.places u a r f (g ∙ ap (λ n. answer (after c w kind n u)) (long_part ∙ e))

    kept : (h : History) (u : ℕ) → p ≡ h.places → Stands c w kind u k' bs → Keeps c w kind (since h.places u) k' ys
    kept h u e s = subst (λ (n : ℕ). Keeps c w kind (since n u) k' ys) e (kept_part u s)

    pub works : (m : ℕ) (a : Result Answer Refusal) (r : Result Reply Refusal) → r ≡ mapped Told a → Works c w kind m k k' (take p xs) bs a → Responds c w kind (Work m) p k k' xs ys r
    works m (Ok a) r e o =
        record {
          pays = λ h q.
              let f = fits h q o.0 in
              subst (λ b. Pays c w kind (cond b (told h.places (h.units + m)) (refused 6 16 p)) r) (sym (eq-eqb p h.places f))
              (paid h (h.units + m) a r f e (o.3 h.units (fitting h q f)).1);
          keeps = λ h q.
              let f = fits h q o.0 in
              subst (λ b. Keeps c w kind (cond b (since h.places (h.units + m)) h) k' ys) (sym (eq-eqb p h.places f))
              (kept h (h.units + m) f (o.3 h.units (fitting h q f)).0);
        }
    works m (Err x) r e o =
        record {
          pays = λ h q. subst (λ b. Pays c w kind (cond b (told h.places (h.units + m)) (refused 6 16 p)) r) (sym (misfit h q o.0)) (refused_misfit x r e o.3);
          keeps = λ h q. subst (λ b. Keeps c w kind (cond b (since h.places (h.units + m)) h) k' ys) (sym (misfit h q o.0)) (kept_same o.2 o.1 h q);
        }

    pub restarts : (a : Result Answer Refusal) (r : Result Reply Refusal) → r ≡ mapped Told a → Restarts c w kind k k' (take p xs) bs a → Responds c w kind Restart p k k' xs ys r
    restarts (Ok a) r e o =
        record {
          pays = λ h q.
              let f = fits h q o.0 in
              subst (λ b. Pays c w kind (cond b (told h.places 0) (refused 6 16 p)) r) (sym (eq-eqb p h.places f))
              (paid h 0 a r f e (o.2 (fitting h q f).sound.small).1);
          keeps = λ h q.
              let f = fits h q o.0 in
              subst (λ b. Keeps c w kind (cond b (since h.places 0) h) k' ys) (sym (eq-eqb p h.places f))
              (kept h 0 f (o.2 (fitting h q f).sound.small).0);
        }
    restarts (Err x) r e o =
        record {
          pays = λ h q. subst (λ b. Pays c w kind (cond b (told h.places 0) (refused 6 16 p)) r) (sym (misfit h q o.0)) (refused_misfit x r e o.3);
          keeps = λ h q. subst (λ b. Keeps c w kind (cond b (since h.places 0) h) k' ys) (sym (misfit h q o.0)) (kept_same o.2 o.1 h q);
        }

    pub says_told : (a : Answer) (r : Result Reply Refusal) → r ≡ Ok (Told a) → a ≡ standing.told (phase_of k.phase) k.stored → k' ≡ k → bs ≡ take p xs → Responds c w kind Verdict p k k' xs ys r
    says_told a r e f same there =
        record {
          pays = λ h q.
              let s = q.stands in
              pays_told h.places h.units a r e
              (
              f
              ∙ ap (standing.told (phase_of k.phase)) (sym (entries_length (take h.places xs) k.stored s.sound.indexed.within))
              ∙ ap answer s.is
              ∙ ap (λ n. answer (after c w kind n h.units)) (length-take-le h.places xs q.within)
              );
          keeps = λ h q. kept_same there same h q;
        }

    -- the stored entries are those of the definition, so they lead back to a start
    placed_so : (h : History) → Stands c w kind h.units k (take p xs) → Placed (length (take p xs)) (view k (take p xs))
    placed_so h s = subst (λ t. Placed (length (take p xs)) t) (sym s.is) (placed c w (configuration_key kind).alike (length (take p xs)) h.units)

    paid_code : (h : History) (q : ℕ) (r : Result Reply Refusal) → p ≡ h.places → (s : Stands c w kind h.units k (take p xs)) → ShownOf (said (entries (take p xs) k.stored) (phase_of k.phase)) q r → Pays c w kind (code h.places h.units q) r
    paid_code h q r f s o = (
      law c w (configuration_key kind) h.places h.units,
      subst (λ (n : ℕ). ShownOf (says (after c w kind n h.units)) q r) (long_part ∙ f) (subst (λ t. ShownOf (says t) q r) s.is o),
    )

    shows_due : (q : ℕ) (a : Result ℕ Refusal) (r : Result Reply Refusal) → r ≡ mapped Code a → ShownAt k (take p xs) q a → (h : History) → Keeps c w kind h k xs → Pays c w kind (due h (Shown q) p) r
    shows_due q (Ok y) r e o h g =
        let f = fits h g o.0 in
        let s = fitting h g f in
        let b = placed_so h s in
        subst (λ b. Pays c w kind (cond b (code h.places h.units q) (refused 6 16 p)) r) (sym (eq-eqb p h.places f))
        (paid_code h q r f s ((shown_of (take p xs) k.stored (phase_of k.phase) s.sound.indexed.within b.0 b.1 q r).0 y e o.1))
    shows_due q (Err x) r e o h g =
        elim (cases_eq k.places (length (take p xs))) [
          | inl t ↦
              let f = fits h g t in
              let s = fitting h g f in
              let b = placed_so h s in
              subst (λ b. Pays c w kind (cond b (code h.places h.units q) (refused 6 16 p)) r) (sym (eq-eqb p h.places f))
              (paid_code h q r f s ((shown_of (take p xs) k.stored (phase_of k.phase) s.sound.indexed.within b.0 b.1 q r).1 x e (o.0 t)))
          | inr t ↦
              subst (λ b. Pays c w kind (cond b (code h.places h.units q) (refused 6 16 p)) r) (sym (misfit h g t)) (refused_misfit x r e (o.1 t))
        ]

    pub shows : (q : ℕ) (a : Result ℕ Refusal) (r : Result Reply Refusal) → r ≡ mapped Code a → ShownAt k (take p xs) q a → k' ≡ k → bs ≡ take p xs → Responds c w kind (Shown q) p k k' xs ys r
    shows q a r e o same there =
        record {
          pays = λ h g. shows_due q a r e o h g;
          keeps = λ h g. kept_same there same h g;
        }

module _ {S : Type 0} (c : CellMeaning) (w : WatchMeaning S) (kind : KeyMeaning S) where
  -- the same call, with as many places
  pub same_call : {call call' : Call} {q p : ℕ} {k k' : Check} {xs ys : List (Record (Configuration S))} {r : Result Reply Refusal} → call ≡ call' → q ≡ p → Responds c w kind call' q k k' xs ys r → Responds c w kind call p k k' xs ys r
  same_call {call = call} {q = q} {k = k} {k' = k'} {xs = xs} {ys = ys} {r = r} i e h = subst (λ (p : ℕ). Responds c w kind call p k k' xs ys r) e (subst (λ call. Responds c w kind call q k k' xs ys r) (sym i) h)

  -- the first opening, in the part of the table that is lent
  pub begin_so : (xs bs : List (Record (Configuration S))) (q p : ℕ) → q ≡ p → p ≤ length xs → length bs ≡ length (take q xs) → (a : Check × Answer) → Opens c w kind (take q xs) bs (Ok a)
      → (p ≤ 1000000) × Pays c w kind (told p 0) (Ok (Told a.1)) × Keeps c w kind (since p 0) a.0 (bs ++ drop q xs) × (length (bs ++ drop q xs) ≡ length xs)
  begin_so xs bs q p e inside l a o =
      let part : Part xs bs (bs ++ drop q xs) q = part_of xs bs q (omega arith) l in
      let long = length-take-le q xs (omega arith) ∙ e in (
        omega (arith, o.0, long),
        pays_told c w kind p 0 a.1 (Ok (Told a.1)) refl (o.2 ∙ ap (λ n. answer (after c w kind n 0)) long),
        subst (λ (p : ℕ). Keeps c w kind (since p 0) a.0 (bs ++ drop q xs)) e (kept_part c w kind a.0 a.0 xs bs (bs ++ drop q xs) q part 0 o.1.stands),
        part.whole_long,
      )
