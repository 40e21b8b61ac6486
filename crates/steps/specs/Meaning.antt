-- The cell that proper rows and arcs stand for. Assumes nothing.
use Rattle.std.specs.Prelude.{◌≡◌, ◌≤◌, true, ◌&&◌, List, [], length, nat_le, nat_lt}
use Rattle.std.proofs.Common.{arith}
use Rattle.std.proofs.lemmas.Bool.{and_parts, leb-true, ltb-true, ltb-false, lt-ltb}
use Rattle.model.specs.Cells.{CellMeaning}
use Rattle.steps.specs.declared.row.Row.{Row}
use Rattle.steps.specs.declared.row.Arc.{Arc}
use Rattle.steps.specs.Tables.{nexts_of, starts_from, reading_of, proper_rows, proper_arcs, proper}
use Rattle.steps.specs.Laws.{starts_few, starts_below, reading_limited, nexts_below, nexts_none, nexts_few}

-- what proper rows and arcs are
pub proper_parts : (rs : List Row) (bs : List Arc) → proper rs bs ≡ true → (length rs ≤ 256) × (length bs ≤ 4096) × (proper_rows rs ≡ true) × (proper_arcs (length rs) [] bs ≡ true)
proper_parts rs bs e =
    let p = and_parts (nat_le (length rs) 256) (nat_le (length bs) 4096 && (proper_rows rs && proper_arcs (length rs) [] bs)) e in
    let q = and_parts (nat_le (length bs) 4096) (proper_rows rs && proper_arcs (length rs) [] bs) p.1 in
    let t = and_parts (proper_rows rs) (proper_arcs (length rs) [] bs) q.1 in
    (leb-true _ _ p.0, leb-true _ _ q.0, t.0, t.1)

-- the states are the row numbers; the starts follow row order, the next codes arc order; a row gives its label and values
abbrev pub table_cell : (rs : List Row) (bs : List Arc) → proper rs bs ≡ true → CellMeaning
table_cell rs bs e =
    let p = proper_parts rs bs e in
    record {
      state = λ x. nat_lt x (length rs);
      starts = starts_from 0 rs;
      nexts = λ x. nexts_of bs x;
      reads = λ x. reading_of rs x;
      few_starts = let a = p.0 in let b = starts_few 0 rs in omega arith;
      few_nexts = λ x. nexts_few (length rs) [] bs p.3 (λ z. omega arith) x;
      starts_are_states = λ x h. let a = starts_below 0 x rs h in lt-ltb x (length rs) (omega arith);
      nexts_are_states = λ x y h. lt-ltb y (length rs) (nexts_below (length rs) x y [] bs p.3 h);
      none_from_no_state = λ x h. nexts_none (length rs) x [] bs p.3 (ltb-false x (length rs) h);
      labels_limited = λ x h. (reading_limited rs x p.2 (ltb-true x (length rs) h)).0;
      values_limited = λ x h. (reading_limited rs x p.2 (ltb-true x (length rs) h)).1;
    }
