-- What cutting a text leaves in the room for its words. Assumes nothing.
use Rattle.std.specs.Prelude.{◌≡◌, ℕ, ◌<◌, ◌≤◌, List, ◌++◌, length, drop, vec_items, vec_len}
use Rattle.model.specs.declared.refusal.Cause.TheVariants.{Length}
use Rattle.text.specs.declared.reading.Fault.{Fault}
use Rattle.lexing.specs.declared.words.Words.{Words}
use Rattle.lexing.specs.Lexing.{words, words_from}

-- the words of a text of at most 4,096 bytes
abbrev pub CutSo : List ℕ → Words → Type 0
CutSo bs y = (length bs ≤ 4096) × (vec_items y.list ≡ words bs)

-- the fault of a longer text
pub record TooLong (bs : List ℕ) (f : Fault) : Type 0 where
  pub long : 4096 < length bs
  pub cause_is : f.cause ≡ Length
  pub place_is : f.place ≡ 4096

-- one step: the words so far with those behind the place are the same, the place is further on, and at most one word more
pub record StepSo (bs : List ℕ) (p : ℕ) (x y : Words) (q : ℕ) : Type 0 where
  pub onward : p < q
  pub within : q ≤ length bs
  pub same : vec_items y.list ++ words_from q 0 (drop q bs) ≡ vec_items x.list ++ words_from p 0 (drop p bs)
  pub few : vec_len x.list ≤ p → vec_len y.list ≤ q
