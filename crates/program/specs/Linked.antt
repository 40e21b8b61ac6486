-- The labels that drafts go on to, against the pure drafts that they stand for. Assumes nothing.
use Rattle.std.specs.Prelude.{◌≡◌, ℕ, zero, suc, cond, List, [], ◌∷◌, None, Option, nat_lt, slice_index_or}
use Rattle.text.specs.declared.node.ArithNode.{ArithNode}
use Rattle.text.specs.declared.node.TestNode.{TestNode}
use Rattle.traces.specs.Programs.{Part, size}
use Rattle.traces.proofs.Links.{to_skip, Draft as PureDraft, drafts, all_exits, exits, Exits as PureExits, Around as PureAround, around_of, draft}
use Rattle.program.specs.declared.draft.Kind.{Kind}
use Rattle.program.specs.declared.draft.Kind.TheVariants.{Set, Sense, Skip, Break, Choose, Repeat}
use Rattle.program.specs.declared.draft.Draft.{Draft}
use Rattle.program.specs.declared.exits.Exits.{Exits}
use Rattle.program.specs.declared.exits.Around.{Around}
use Rattle.program.specs.Outcomes.{DraftsFor}

abbrev pub entered_at : ℕ → ℕ → ℕ → ℕ
entered_at f e a = cond (nat_lt f e) f a

abbrev pub enclosed_kind : Kind → ℕ → ℕ → Exits → ℕ → Around
enclosed_kind (Set r i) end owner own label = record { limit = end; exits = own }
enclosed_kind (Sense r) end owner own label = record { limit = end; exits = own }
enclosed_kind Skip end owner own label = record { limit = end; exits = own }
enclosed_kind Break end owner own label = record { limit = end; exits = own }
enclosed_kind (Choose i m) end owner own label = record { limit = cond (nat_lt label m) m end; exits = own }
enclosed_kind (Repeat i) end owner own label = record { limit = end; exits = record { after = owner; breaks = own.after } }

abbrev pub enclosed_by : Draft → ℕ → Exits → ℕ → Around
enclosed_by d owner own label = enclosed_kind d.kind d.end owner own label

-- the drafts stand for those of some list of statements
abbrev pub Drafted : List Draft → Type 0
Drafted ds = (ns : List ArithNode) × (ts : List TestNode) × (body : Part) × DraftsFor ns ts ds (drafts body 0 None)

-- the pure draft and the exits at a label
abbrev pub draft_at : Part → ℕ → PureDraft
draft_at body j = slice_index_or (drafts body 0 None) j (draft to_skip None 0)

abbrev pub exits_at : Part → ℕ → PureExits
exits_at body j = slice_index_or (all_exits body 0 (size body) (size body)) j (exits 0 0)

abbrev pub around_at : Part → ℕ → PureAround
around_at body j = around_of (draft_at body) (exits_at body) (size body) (draft_at body j).owner j

-- the exits, and the part that a statement stands in, are those of the tree
abbrev pub SameExits : Exits → PureExits → Type 0
SameExits r x = (r.after ≡ x.after) × (r.breaks ≡ x.breaks)

abbrev pub SameAround : Around → PureAround → Type 0
SameAround r x = (r.limit ≡ x.limit) × (r.exits.after ≡ x.after) × (r.exits.breaks ≡ x.breaks)

-- the exits of the statement at a label are those of the list of statements
abbrev pub ExitsAt : List Draft → ℕ → Exits → Type 0
ExitsAt ds label r = (ns : List ArithNode) (ts : List TestNode) (body : Part) → DraftsFor ns ts ds (drafts body 0 None) → SameExits r (exits_at body label)

abbrev pub AroundAt : List Draft → ℕ → Around → Type 0
AroundAt ds label r = (ns : List ArithNode) (ts : List TestNode) (body : Part) → DraftsFor ns ts ds (drafts body 0 None) → SameAround r (around_at body label)

-- the owner of the draft at a label
abbrev pub owner_of : List Draft → ℕ → Option ℕ
owner_of [] j = None
owner_of (d ∷ ds) zero = d.owner
owner_of (d ∷ ds) (suc j) = owner_of ds j

abbrev pub OwnerAt : List Draft → ℕ → Option ℕ → Type 0
OwnerAt ds label o = o ≡ owner_of ds label
