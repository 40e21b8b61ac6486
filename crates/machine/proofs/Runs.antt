-- The runs of a program's cell are its prefix traces. Assumes nothing.
use Rattle.std.proofs.Common.{◌≡◌, ℕ, true, List, [], ◌∷◌, sym, refl, subst, arith}
use Rattle.model.specs.Cells.{In}
use Rattle.model.specs.Runs.{Run, Path as CodePath}
use Rattle.traces.specs.declared.range.Range.{Range}
use Rattle.traces.specs.Programs.{Tree, ranges}
use Rattle.traces.specs.Traces.{State, ◌▹◌, Prefix}
use Rattle.traces.specs.Tables.{Instruction, table_of}
use Rattle.traces.specs.Codes.{code, codes, packed, start_codes, sound}
use Rattle.traces.proofs.Packing.{setting_fits}
use Rattle.traces.proofs.Begins.{start_has, start_only}
use Rattle.traces.proofs.Laws.{is_sound, CodesPath, states_path, states_told, path_states, trace_path, path_trace}
use Rattle.machine.specs.Meanings.{meaning, Coded, RunsAreTraces, TellsStates}

module _ (rs : List Range) (tbl : List Instruction) (s : sound rs tbl ≡ true) where
  path_codes : (x : ℕ) (ys : List ℕ) → CodePath (meaning rs tbl s) x ys → CodesPath rs tbl (is_sound rs tbl s) x ys
  path_codes x [] p = tt
  path_codes x (y ∷ ys) p = (p.0, path_codes y ys p.1)

  codes_path : (x : ℕ) (ys : List ℕ) → CodesPath rs tbl (is_sound rs tbl s) x ys → CodePath (meaning rs tbl s) x ys
  codes_path x [] p = tt
  codes_path x (y ∷ ys) p = (p.0, codes_path y ys p.1)

module _ (t : Tree) (s : sound (ranges t) (table_of t) ≡ true) where
  run_coded : (xs : List ℕ) → Run (meaning (ranges t) (table_of t) s) xs → Coded t xs
  run_coded [] r = absurd r
  run_coded (x ∷ xs) r =
      let k = start_only (ranges t) x r.0 in
      let σ = 0 ▹ k.0 in
      let e : x ≡ code (ranges t) σ = (let z = k.2 in omega arith) in
      let i = path_states (ranges t) (table_of t) (is_sound (ranges t) (table_of t) s) σ xs (setting_fits (ranges t) k.0 k.1) (omega arith)
      (subst (λ y. CodesPath (ranges t) (table_of t) (is_sound (ranges t) (table_of t) s) y xs) e (path_codes (ranges t) (table_of t) s x xs r.1)) in
      record { trace = σ ∷ i.0; prefix = (path_trace t σ i.0 refl i.2, k.1); listed = both x (code (ranges t) σ) xs (codes (ranges t) i.0) e i.1 }
    where
      both : (x y : ℕ) (xs ys : List ℕ) → x ≡ y → xs ≡ ys → x ∷ xs ≡ y ∷ ys
      both x y xs ys e f = cc

  coded_run : (π : List State) → Prefix t π → Run (meaning (ranges t) (table_of t) s) (codes (ranges t) π)
  coded_run [] p = p.1
  coded_run (σ ∷ π) p =
      let w = trace_path t σ π p.0 in
      let z = w.0 in
      let e : packed (ranges t) σ.values ≡ code (ranges t) σ = omega arith in (
        subst (λ x. In x (start_codes (ranges t))) e (start_has (ranges t) σ.values p.1),
        codes_path (ranges t) (table_of t) s (code (ranges t) σ) (codes (ranges t) π)
            (states_path (ranges t) (table_of t) (is_sound (ranges t) (table_of t) s) σ π (setting_fits (ranges t) σ.values p.1) (omega arith) w.1),
      )

  pub tells_states : TellsStates t (meaning (ranges t) (table_of t) s)
  tells_states [] p = refl
  tells_states (σ ∷ π) p =
      let w = trace_path t σ π p.0 in
      let z = w.0 in
      states_told (ranges t) (table_of t) (is_sound (ranges t) (table_of t) s) σ π (setting_fits (ranges t) σ.values p.1) (omega arith) w.1

  pub runs_traces : RunsAreTraces t (meaning (ranges t) (table_of t) s)
  runs_traces xs = (run_coded xs, λ c. subst (Run (meaning (ranges t) (table_of t) s)) (sym c.listed) (coded_run c.trace c.prefix))

pub runs_of : (t : Tree) (rs : List Range) (tbl : List Instruction) → rs ≡ ranges t → tbl ≡ table_of t → (s : sound rs tbl ≡ true) → RunsAreTraces t (meaning rs tbl s)
runs_of t rs tbl e f =
    subst (λ qs. (s : sound qs tbl ≡ true) → RunsAreTraces t (meaning qs tbl s)) (sym e)
    (subst (λ ys. (s : sound (ranges t) ys ≡ true) → RunsAreTraces t (meaning (ranges t) ys s)) (sym f) (runs_traces t))

pub states_of : (t : Tree) (rs : List Range) (tbl : List Instruction) → rs ≡ ranges t → tbl ≡ table_of t → (s : sound rs tbl ≡ true) → TellsStates t (meaning rs tbl s)
states_of t rs tbl e f =
    subst (λ qs. (s : sound qs tbl ≡ true) → TellsStates t (meaning qs tbl s)) (sym e)
    (subst (λ ys. (s : sound (ranges t) ys ≡ true) → TellsStates t (meaning (ranges t) ys s)) (sym f) (tells_states t))
