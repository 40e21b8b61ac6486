-- The statements that drafts become. Assumes nothing.
use Rattle.std.specs.Prelude.{◌≡◌, ℕ, ◌+◌, ◌<◌, ◌≤◌, true, List, None}
use Rattle.text.specs.declared.node.ArithNode.{ArithNode}
use Rattle.text.specs.declared.node.TestNode.{TestNode}
use Rattle.traces.specs.Programs.{Part, size}
use Rattle.traces.specs.Tables.{table}
use Rattle.traces.proofs.Links.{drafts}
use Rattle.machine.specs.declared.statement.Statement.{Statement}
use Rattle.machine.specs.declared.statement.Statement.TheVariants.{Set as DoSet, Sense as DoSense, Go, Branch}
use Rattle.machine.specs.Views.{views, all_stand}
use Rattle.program.specs.declared.draft.Kind.{Kind}
use Rattle.program.specs.declared.draft.Kind.TheVariants.{Set, Sense, Skip, Break, Choose, Repeat}
use Rattle.program.specs.declared.draft.Draft.{Draft}
use Rattle.program.specs.declared.exits.Exits.{Exits}
use Rattle.program.specs.Outcomes.{DraftsFor}
use Rattle.program.specs.Linked.{entered_at}

-- the statement of a kind at a label, with the end of its labels and its exits
abbrev pub made_of : Kind → ℕ → ℕ → Exits → Statement
made_of (Set r i) label end x = DoSet r i x.after
made_of (Sense r) label end x = DoSense r x.after
made_of Skip label end x = Go x.after
made_of Break label end x = Go x.breaks
made_of (Choose i m) label end x = Branch i (entered_at (label + 1) m x.after) (entered_at m end x.after)
made_of (Repeat i) label end x = Branch i (entered_at (label + 1) end label) x.after

-- all labels are labels of a program
pub record Small (label end : ℕ) (x : Exits) : Type 0 where
  pub label_small : label < 63
  pub end_small : end ≤ 63
  pub after_small : x.after ≤ 63
  pub breaks_small : x.breaks ≤ 63

-- the statements are those of the list of statements that the drafts stand for
abbrev pub LinkedSo : List Draft → List Statement → Type 0
LinkedSo ds ss = (ns : List ArithNode) (ts : List TestNode) (body : Part) → DraftsFor ns ts ds (drafts body 0 None) → (views ns ts ss ≡ table body 0 (size body) (size body)) × (all_stand ns ts ss ≡ true)
