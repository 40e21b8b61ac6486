-- The law of a check over any list of calls, those that are turned away among them. Assumes nothing.
use Rattle.std.specs.Prelude.{◌≡◌, ℕ, ◌+◌, ◌<◌, ◌≤◌, min, cond, List, [], ◌∷◌, length, take, drop, Some, Ok, Err, Result, ◌==◌, nat_le}
use Rattle.model.specs.Cells.{CellMeaning, at}
use Rattle.model.specs.Keys.{KeyMeaning}
use Rattle.model.specs.Refusals.{reply}
use Rattle.model.specs.Watches.{WatchMeaning}
use Rattle.model.specs.declared.answer.Answer.{Answer}
use Rattle.model.specs.declared.answer.Verdict.TheVariants.{Working, Pass, Fail, Full}
use Rattle.model.specs.declared.configuration.Configuration.{Configuration}
use Rattle.model.specs.declared.refusal.Refusal.{Refusal}
use Rattle.levels.specs.Law.{Law}
use Rattle.levels.specs.Units.{Outcome, working, passed, failed, full, says}
use Rattle.store.specs.declared.record.Record.{Record}
use Rattle.checking.specs.declared.calls.Call.{Call}
use Rattle.checking.specs.declared.calls.Call.TheVariants.{Open, Work, Restart, Verdict, Shown}
use Rattle.checking.specs.declared.calls.Reply.{Reply}
use Rattle.checking.specs.declared.calls.Reply.TheVariants.{Told, Code}
use Rattle.checking.specs.declared.calls.Asked.{Asked}
use Rattle.checking.specs.declared.state.Check.{Check}
use Rattle.checking.specs.Standing.{Stands, after}

-- since the last opening or restart: the number of places, and the units granted
pub record History : Type 0 where
  pub places : ℕ
  pub units : ℕ

abbrev pub since : ℕ → ℕ → History
since n u = record { places = n; units = u }

-- a call with p places changes the history only if it is not turned away
abbrev pub granted : History → Call → ℕ → History
granted h Open p = cond (nat_le p 1000000) (since p 0) h
granted h (Work m) p = cond (p == h.places) (since h.places (h.units + m)) h
granted h Restart p = cond (p == h.places) (since h.places 0) h
granted h Verdict p = h
granted h (Shown q) p = h

-- what is owed to a call: what a check in n places says after u units, a code of the run that it then shows, a refusal
pub data Due : Type 0 where
  told : ℕ → ℕ → Due
  code : ℕ → ℕ → ℕ → Due
  refused : ℕ → ℕ → ℕ → Due

abbrev pub due : History → Call → ℕ → Due
due h Open p = cond (nat_le p 1000000) (told p 0) (refused 6 17 p)
due h (Work m) p = cond (p == h.places) (told h.places (h.units + m)) (refused 6 16 p)
due h Restart p = cond (p == h.places) (told h.places 0) (refused 6 16 p)
due h Verdict p = told h.places h.units
due h (Shown q) p = cond (p == h.places) (code h.places h.units q) (refused 6 16 p)

-- an answer that tells an outcome: its verdict, and its count, which for a fail is the length of the run shown
abbrev pub Tells : Outcome → Answer → Type 0
Tells (working k) a = (a.verdict ≡ Working) × (a.count ≡ k)
Tells passed a = (a.verdict ≡ Pass) × (a.count ≡ 0)
Tells (failed run) a = (a.verdict ≡ Fail) × (a.count ≡ length run)
Tells full a = (a.verdict ≡ Full) × (a.count ≡ 0)

-- a refusal with these numbers
abbrev pub Refuses : Result Reply Refusal → ℕ → ℕ → ℕ → Type 0
Refuses r l c p = (e : Refusal) × (r ≡ Err e) × (reply e ≡ (l, c, p))

-- the code at place q of a run: BEYOND at or past its length
abbrev pub CodeOf : List ℕ → ℕ → Result Reply Refusal → Type 0
CodeOf run q r = ((y : ℕ) → at run q ≡ Some y → r ≡ Ok (Code y)) × (length run ≤ q → Refuses r 6 15 q)

-- NO RUN without a fail
abbrev pub ShownOf : Outcome → ℕ → Result Reply Refusal → Type 0
ShownOf (working k) q r = Refuses r 6 14 0
ShownOf passed q r = Refuses r 6 14 0
ShownOf (failed run) q r = CodeOf run q r
ShownOf full q r = Refuses r 6 14 0

module _ {S : Type 0} (c : CellMeaning) (w : WatchMeaning S) (kind : KeyMeaning S) where
  -- what a check in n places says after u units: it is lawful
  abbrev pub outcome : ℕ → ℕ → Outcome
  outcome n u = says (after c w kind n u)

  -- a reply that pays what is due. Whatever is told of a check obeys the law of a check: see Law
  abbrev pub Pays : Due → Result Reply Refusal → Type 0
  Pays (told n u) r =
      (a : Answer) × (r ≡ Ok (Told a)) × Law c w n u (outcome n u) × Tells (outcome n u) a × (a.stored ≡ length (after c w kind n u).stored)
  Pays (code n u q) r = Law c w n u (outcome n u) × ShownOf (outcome n u) q r
  Pays (refused l k p) r = Refuses r l k p

  -- the check, and the records of the table, stand as the history says
  pub record Keeps (h : History) (k : Check) (xs : List (Record (Configuration S))) : Type 0 where
    pub within : h.places ≤ length xs
    pub stands : Stands c w kind h.units k (take h.places xs)

  -- one call, with p places
  pub record Responds (call : Call) (p : ℕ) (k k' : Check) (xs ys : List (Record (Configuration S))) (r : Result Reply Refusal) : Type 0 where
    pub pays : (h : History) → Keeps h k xs → Pays (due h call p) r
    pub keeps : (h : History) → Keeps h k xs → Keeps (granted h call p) k' ys

-- the open check, and the answer, after a call to open
abbrev pub Opened : Result (Check × Answer) Refusal → Check → Check → Result Answer Refusal → Type 0
Opened (Ok a) k k' r = (k' ≡ a.0) × (r ≡ Ok a.1)
Opened (Err e) k k' r = (k' ≡ k) × (r ≡ Err e)

-- how many places a call has of a table of N
abbrev pub places : ℕ → Asked → ℕ
places N a = min a.places N

-- the history after calls in a table of N places, from a history before
abbrev pub history : ℕ → History → List Asked → History
history N h [] = h
history N h (a ∷ more) = history N (granted h a.call (places N a)) more

-- each of the first m replies pays what is due to its call, by the calls before it
abbrev pub Replayed : {S : Type 0} → CellMeaning → WatchMeaning S → KeyMeaning S → ℕ → History → List Asked → List (Result Reply Refusal) → ℕ → Type 0
Replayed c w kind N h calls replies m =
    (j : ℕ) (a : Asked) (r : Result Reply Refusal) → j < m → at calls j ≡ Some a → at replies j ≡ Some r → Pays c w kind (due (history N h (take j calls)) a.call (places N a)) r

-- a replay in a table of N places that begins by opening a check in p of them: over 1,000,000 are refused with LARGE, and
-- table and replies stay as they were; else the opening and every call is answered as is due to it, as far as there is
-- room for replies, and the replies behind them stay as they were
abbrev pub Replays : {S : Type 0} → CellMeaning → WatchMeaning S → KeyMeaning S → ℕ → List Asked → List (Record (Configuration S)) → List (Record (Configuration S)) → List (Result Reply Refusal) → List (Result Reply Refusal) → Result Answer Refusal → Type 0
Replays c w kind p calls xs ys old new (Ok a) =
    (p ≤ 1000000) × Pays c w kind (told p 0) (Ok (Told a)) × Replayed c w kind (length xs) (since p 0) calls new (length calls) × (drop (length calls) new ≡ drop (length calls) old)
Replays c w kind p calls xs ys old new (Err e) = (1000000 < p) × (ys ≡ xs) × (new ≡ old) × (reply e ≡ (6, 17, p))
