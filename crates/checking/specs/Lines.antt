-- What the cell and the watch of the tests stand for. Assumes nothing.
use Rattle.std.specs.Prelude.{◌≡◌, ℕ, ◌+◌, ◌%◌, ◌<◌, ◌≤◌, Bool, true, false, cond, List, [], ◌∷◌, length, pos, Some, None, Option, nat_lt, refl}
use Rattle.std.proofs.Common.{sym, ap, ◌∙◌, arith}
use Rattle.std.specs.Int.Signed.{le_z_yes}
use Rattle.std.proofs.lemmas.Bool.{true≢false, both_ways, lt-ltb, ltb-true}
use Rattle.model.specs.Cells.{CellMeaning}
use Rattle.model.specs.Watches.{WatchMeaning}
use Rattle.model.specs.declared.moment.Moment.{Moment}

-- a code twice, or nothing
abbrev pub twice : Bool → ℕ → List ℕ
twice true x = x ∷ x ∷ []
twice false x = []

pub few : (b : Bool) (x : ℕ) → length (twice b x) ≤ 2
few true x = omega arith
few false x = omega arith

-- every code is a state, and its label is what is left of it by 4; the next code of 0, 1 and 2 is one more, twice
abbrev pub line : Bool → CellMeaning
line on = record {
  state = λ x. true;
  starts = twice on 0;
  nexts = λ x. twice (nat_lt x 3) (x + 1);
  reads = λ x. record { label = x % 4; values = pos 0 ∷ pos 0 ∷ pos 0 ∷ pos 0 ∷ pos 0 ∷ pos 0 ∷ [] };
  few_starts = omega (arith, few on 0);
  few_nexts = λ x. omega (arith, few (nat_lt x 3) (x + 1));
  starts_are_states = λ x h. refl;
  nexts_are_states = λ x y h. refl;
  none_from_no_state = λ x h. absurd (true≢false h);
  labels_limited = λ x h. omega arith;
  values_limited = λ x h. (le_z_yes tt, le_z_yes tt, (le_z_yes tt, le_z_yes tt, (le_z_yes tt, le_z_yes tt, (le_z_yes tt, le_z_yes tt, (le_z_yes tt, le_z_yes tt, (le_z_yes tt, le_z_yes tt, tt))))));
}

-- every label is below the limit
abbrev pub Low : ℕ → List Moment → Type 0
Low n [] = Unit {0}
Low n (m ∷ ms) = (m.label < n) × Low n ms

abbrev pub some : Option ℕ → Bool
some None = false
some (Some s) = true

pub some_cond : (b : Bool) (s : ℕ) → some (cond b (Some s) None) ≡ b
some_cond true s = refl
some_cond false s = refl

-- one state, which permits the lists whose labels are all below the limit
abbrev pub below : ℕ → WatchMeaning ℕ
below n = record {
  first = 0;
  permits = λ s ms. Low n ms;
  step = λ s m. cond (nat_lt m.label n) (Some s) None;
  nothing = λ s. tt;
  goes = λ s t m e ms. (λ h. (ltb-true m.label n (sym (some_cond (nat_lt m.label n) s) ∙ ap some e), h), λ h. h.1);
  stops = λ s m e ms h. both_ways (nat_lt m.label n) (sym (some_cond (nat_lt m.label n) s) ∙ ap some e) (lt-ltb m.label n h.0);
}
