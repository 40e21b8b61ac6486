-- What settles a check: a code that makes a run unpermitted, nothing left to extend, or no place left. Assumes nothing.
use Rattle.std.proofs.Common.{◌≡◌, ℕ, zero, suc, ◌<◌, ◌≤◌, List, length, ⊎_elim, arith}
use Rattle.std.proofs.lemmas.Bool.{cases_lt}
use Rattle.model.specs.Cells.{CellMeaning, In}
use Rattle.model.specs.Runs.{Has}
use Rattle.model.specs.Watches.{WatchMeaning}
use Rattle.model.specs.declared.configuration.Configuration.{Configuration}
use Rattle.levels.specs.Law.{Bad, Early, More, Clear, Law, Counts, keys}
use Rattle.levels.specs.Units.{passed, failed}
use Rattle.levels.proofs.Lists.{Entries, pigeons}
use Rattle.levels.proofs.Reaching.{Shortly, Fine, Closed, Covers, covered_in_keys, clear_more, covers_more}
use Rattle.levels.proofs.Storing.{length_keys, Over, Sound}

module _ {S : Type 0} (c : CellMeaning) (w : WatchMeaning S) where
  -- an unpermitted run has more states than those that are clear
  pub bad_later : (m : ℕ) → Clear c w m → (ys : List ℕ) → Bad c w ys → m < length ys
  bad_later m clear ys b = ⊎_elim (λ h. h) (λ h. absurd (b.1 (clear ys b.0 h))) (cases_lt m (length ys))

  -- one too many among the configurations of runs that are clear
  pub more_from_over : (n m : ℕ) → Clear c w m → Over n (Shortly c w m) → More c w n
  more_from_over n m clear o = (
    o.0,
    o.1,
    o.2,
    λ k h.
        let r = o.3 k h in
        (r.0, (r.1.0, λ ys b. let l = bad_later m clear ys b in let q = r.2 in omega arith), r.1.1),
  )

  -- there was room if the configurations of all those runs are stored
  pub no_more : (n : ℕ) (es : Entries S) → length es ≤ n → ((xs : List ℕ) (k : Configuration S) → Early c w xs → Has c w xs k → In k (keys es)) → More c w n → ⊥
  no_more n es fits f m =
      let l = pigeons m.0 (keys es) m.2 (λ k h. let r = m.3 k h in f r.0 k r.1 r.2) in
      let e = length_keys es in
      let q = m.1 in
      omega arith

  -- what is stored are the configurations of all those runs, and of no others
  counted : (n m : ℕ) (es : Entries S) → Sound n (Shortly c w m) es → Clear c w m → ((xs : List ℕ) (k : Configuration S) → Early c w xs → Has c w xs k → In k (keys es)) → Counts c w (keys es)
  counted n m es sound clear f = record {
    apart = sound.apart;
    only = λ k h. let r = sound.each k h in (r.0, (r.1.0, λ ys b. let l = bad_later m clear ys b in let q = r.2 in omega arith), r.1.1);
    all = f;
  }

  -- a fail: there was room, and the run shown is a shortest that is not permitted
  pub fails : (n u j b : ℕ) (es : Entries S) (xs : List ℕ) → length es ≤ n → Clear c w j → Covers c w j b es → Bad c w xs → length xs ≡ suc j → Law c w n u (failed xs)
  fails n u j b es xs fits clear covers bad len = (
    no_more n es fits (λ zs k e h. let l = e.1 xs bad in covered_in_keys c w j b es covers zs k (e.0, h) (omega arith)),
    (bad, λ ys a. let l = bad_later j clear ys a in omega arith),
  )

  -- and what is stored then
  pub fails_counted : (n j b : ℕ) (es : Entries S) (xs : List ℕ) → Sound n (Shortly c w j) es → Clear c w j → Covers c w j b es → Bad c w xs → length xs ≡ suc j → Counts c w (keys es)
  fails_counted n j b es xs sound clear covers bad len =
      counted n j es sound clear (λ zs k e h. let l = e.1 xs bad in covered_in_keys c w j b es covers zs k (e.0, h) (omega arith))

  module _ (j : ℕ) (es : Entries S) (first : 1 ≤ j) (clear : Clear c w j) (covers : Covers c w j (length es) es)
      (fine : (p : ℕ) → p < length es → Fine c w es p) (closed : (p : ℕ) → p < length es → Closed c w es p) where
    -- then it is so of every length
    all : (m : ℕ) → Clear c w (suc m) × Covers c w (suc m) (length es) es
    all zero = (λ xs r h. clear xs r (omega arith), λ xs k r h. covers xs k r (omega arith))
    all (suc m) =
        let a = all m in (
          clear_more c w (suc m) (length es) es (omega arith) a.1 a.0 fine,
          covers_more c w (suc m) (length es) es (omega arith) a.1 (omega arith) closed,
        )

    -- a pass: there was room, and every run is permitted
    pub passes : (n u : ℕ) → length es ≤ n → Law c w n u passed
    passes n u fits = (
      no_more n es fits (λ xs k e h. covered_in_keys c w (suc (length xs)) (length es) es (all (length xs)).1 xs k (e.0, h) (omega arith)),
      λ xs r. (all (length xs)).0 xs r (omega arith),
    )

    -- and what is stored then
    pub passes_counted : (n : ℕ) → Sound n (Shortly c w j) es → Counts c w (keys es)
    passes_counted n sound =
        counted n j es sound clear (λ xs k e h. covered_in_keys c w (suc (length xs)) (length es) es (all (length xs)).1 xs k (e.0, h) (omega arith))
