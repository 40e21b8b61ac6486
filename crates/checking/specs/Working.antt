-- What granting units of work comes to. Assumes nothing.
use Rattle.std.specs.Prelude.{◌≡◌, ℕ, ◌+◌, List, length, Ok, Err, Result, ◌≢◌}
use Rattle.model.specs.Cells.{CellMeaning}
use Rattle.model.specs.Keys.{KeyMeaning}
use Rattle.model.specs.Refusals.{reply}
use Rattle.model.specs.Watches.{WatchMeaning}
use Rattle.model.specs.declared.answer.Answer.{Answer}
use Rattle.model.specs.declared.configuration.Configuration.{Configuration}
use Rattle.model.specs.declared.refusal.Refusal.{Refusal}
use Rattle.store.specs.declared.record.Record.{Record}
use Rattle.checking.specs.declared.state.Check.{Check}
use Rattle.checking.specs.Standing.{Stands, Adds, after, answer, phase_of, told}

-- work: a table of another length is refused with MISFIT, and check and table stay as they were; else a check that
-- stands as after u units stands as after u and the granted ones, and the answer is what it then says
abbrev pub Works : {S : Type 0} → CellMeaning → WatchMeaning S → KeyMeaning S → ℕ → Check → Check → List (Record (Configuration S)) → List (Record (Configuration S)) → Result Answer Refusal → Type 0
Works c w kind units k k' xs ys (Ok a) =
    (k.places ≡ length xs) × Adds k k' xs ys × (a ≡ told (phase_of k'.phase) k'.stored)
    × ((u : ℕ) → Stands c w kind u k xs → Stands c w kind (u + units) k' ys × (a ≡ answer (after c w kind (length xs) (u + units))))
Works c w kind units k k' xs ys (Err e) = (k.places ≢ length xs) × (k' ≡ k) × (ys ≡ xs) × (reply e ≡ (6, 16, length xs))
