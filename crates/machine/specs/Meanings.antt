-- The cell that a table of instructions is, and which lists of codes are the traces of a program. Assumes nothing.
use Rattle.std.specs.Prelude.{◌≡◌, ℕ, true, List, map, length}
use Rattle.model.specs.Cells.{CellMeaning}
use Rattle.model.specs.Runs.{Run}
use Rattle.traces.specs.declared.range.Range.{Range}
use Rattle.traces.specs.Programs.{Tree, ranges}
use Rattle.traces.specs.Traces.{State, Prefix}
use Rattle.traces.specs.Tables.{Instruction}
use Rattle.traces.specs.Codes.{codes, state_of, is_state, start_codes, next_codes, sound}
use Rattle.traces.proofs.Laws.{is_sound, starts_few, nexts_few, starts_are_states, nexts_are_states, nexts_none, labels_limited, values_limited}

-- the cell: its states, starts and next codes, and what a code says
abbrev pub meaning : (rs : List Range) (tbl : List Instruction) → sound rs tbl ≡ true → CellMeaning
meaning rs tbl s = record {
  state = is_state rs (length tbl);
  starts = start_codes rs;
  nexts = next_codes rs tbl;
  reads = state_of rs;
  few_starts = starts_few rs tbl (is_sound rs tbl s);
  few_nexts = nexts_few rs tbl;
  starts_are_states = starts_are_states rs tbl (is_sound rs tbl s);
  nexts_are_states = nexts_are_states rs tbl (is_sound rs tbl s);
  none_from_no_state = nexts_none rs tbl;
  labels_limited = labels_limited rs tbl (is_sound rs tbl s);
  values_limited = values_limited rs tbl (is_sound rs tbl s);
}

-- a list of codes is the code list of a prefix trace of the program
pub record Coded (t : Tree) (xs : List ℕ) : Type 0 where
  pub trace : List State
  pub prefix : Prefix t trace
  pub listed : xs ≡ codes (ranges t) trace

-- the runs of the cell are the prefix traces of the program: all of them and no others
abbrev pub RunsAreTraces : Tree → CellMeaning → Type 0
RunsAreTraces t c = (xs : List ℕ) → (Run c xs → Coded t xs) × (Coded t xs → Run c xs)

-- what the cell tells of the codes of a prefix trace are the states of the trace
abbrev pub TellsStates : Tree → CellMeaning → Type 0
TellsStates t c = (π : List State) → Prefix t π → map c.reads (codes (ranges t) π) ≡ π
