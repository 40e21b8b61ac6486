-- What a watch means: its first state, which lists of moments a state permits, and its step. Assumes nothing.
use Rattle.std.specs.Prelude.{◌≡◌, List, [], ◌∷◌, Some, None, Option}
use Rattle.model.specs.declared.moment.Moment.{Moment}

pub record WatchMeaning (S : Type 0) : Type 1 where
  -- the state before the first moment
  pub first : S
  -- the lists of moments that may follow in a state
  pub permits : S → List Moment → Type 0
  -- the state after one more moment
  pub step : S → Moment → Option S
  -- the empty list is always permitted
  pub nothing : (s : S) → permits s []
  -- a state after a moment permits exactly the rests of the permitted lists that begin with it
  pub goes : (s t : S) (m : Moment) → step s m ≡ Some t → (ms : List Moment) → (permits t ms → permits s (m ∷ ms)) × (permits s (m ∷ ms) → permits t ms)
  -- there is none only where no permitted list begins so
  pub stops : (s : S) (m : Moment) → step s m ≡ None → (ms : List Moment) → permits s (m ∷ ms) → ⊥
