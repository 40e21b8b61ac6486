-- Putting together what the readers of statements answer. Assumes nothing.
use Rattle.std.proofs.Common.{◌≡◌, ℕ, suc, ◌+◌, List, [], ◌∷◌, ◌++◌, length, vec_items, vec_len, sym, refl, ap, ◌∙◌, subst, append_assoc, append-nil, arith, length-append}
use Rattle.model.specs.declared.refusal.Cause.{Cause}
use Rattle.text.specs.declared.expressions.Expressions.{Expressions}
use Rattle.text.specs.declared.node.ArithNode.{ArithNode}
use Rattle.text.specs.declared.node.TestNode.{TestNode}
use Rattle.text.specs.declared.reading.Fault.{Fault}
use Rattle.text.specs.declared.word.Word.{Word}
use Rattle.text.specs.Expressions.{Arith, Test}
use Rattle.text.specs.Table.{Item, statement}
use Rattle.text.specs.Reading.{place_of}
use Rattle.text.specs.Outcomes.{ArithRead, TestRead}
use Rattle.text.proofs.Stands.{vec_long, arith_more, test_more}
use Rattle.traces.specs.Programs.{Part, size, assign, sense}
use Rattle.traces.proofs.Links.{to_set, to_sense, to_skip, to_break, to_choose, to_repeat, Kind as PureKind, Draft as PureDraft, drafts, drafts_length}
use Rattle.syntax.specs.Phrases.{States, one, sets, senses}
use Rattle.text.specs.declared.word.Register.{Register}
use Rattle.text.specs.declared.word.Token.TheVariants.{Set as Becomes, Sense as Senses, Semicolon}
use Rattle.text.specs.Words.{register_index}
use Rattle.text.specs.Derivations.{Sum}
use Rattle.program.specs.declared.draft.Kind.{Kind}
use Rattle.program.specs.declared.draft.Draft.{Draft}
use Rattle.program.specs.declared.board.Board.{Board}
use Rattle.program.specs.declared.site.Site.{Site}
use Rattle.program.specs.Places.{Goes, Stops}
use Rattle.program.specs.Outcomes.{KindFor, DraftsFor, Grown, PhraseRead, PhraseStopped, Letter}

pub phrase_stops : {js : List Item} {site : Site} {ws : List Word} {x : Board} (f : Fault) (c : Cause) (v : List Word) → f.cause ≡ c → f.place ≡ place_of site.limits.end v
    → Stops x.expressions.counted (vec_len x.drafts) site.limits.scope site.limits.left site.inside js ws c v → PhraseStopped js site ws x f
phrase_stops {js} {site} {ws} {x} f c v e p s = record {
  words = v;
  place_is = p;
  stops = subst (λ d. Stops x.expressions.counted (vec_len x.drafts) site.limits.scope site.limits.left site.inside js ws d v) (sym e) s;
}

-- nothing added
pub grown_none : (x : Expressions) → Grown x x
grown_none x = record { more_ariths = []; ariths = sym (append-nil (vec_items x.ariths)); more_tests = []; tests = sym (append-nil (vec_items x.tests)) }

pub grown_more : (x y z : Expressions) → Grown x y → Grown y z → Grown x z
grown_more x y z g h = record {
  more_ariths = g.more_ariths ++ h.more_ariths;
  ariths = h.ariths ∙ ap (λ v. v ++ h.more_ariths) g.ariths ∙ append_assoc (vec_items x.ariths) g.more_ariths h.more_ariths;
  more_tests = g.more_tests ++ h.more_tests;
  tests = h.tests ∙ ap (λ v. v ++ h.more_tests) g.tests ∙ append_assoc (vec_items x.tests) g.more_tests h.more_tests;
}

pub grown_to : (x y z : Expressions) → Grown x y → z ≡ y → Grown x z
grown_to x y z g e = subst (λ v. Grown x v) (sym e) g

-- what stands goes on to stand
kind_more : (k : Kind) (p : PureKind) (ns xs : List ArithNode) (ts ys : List TestNode) → KindFor ns ts k p → KindFor (ns ++ xs) (ts ++ ys) k p
kind_more k (to_set x e) ns xs ts ys h = (h.0, h.1, h.2, h.3, arith_more ns xs h.1 e h.4)
kind_more k (to_sense x) ns xs ts ys h = h
kind_more k to_skip ns xs ts ys h = h
kind_more k to_break ns xs ts ys h = h
kind_more k (to_choose t m) ns xs ts ys h = (h.0, h.1, test_more ns xs ts ys h.0 t h.2)
kind_more k (to_repeat t) ns xs ts ys h = (h.0, h.1, test_more ns xs ts ys h.0 t h.2)

drafts_more : (ds : List Draft) (ps : List PureDraft) (ns xs : List ArithNode) (ts ys : List TestNode) → DraftsFor ns ts ds ps → DraftsFor (ns ++ xs) (ts ++ ys) ds ps
drafts_more [] [] ns xs ts ys h = tt
drafts_more [] (p ∷ ps) ns xs ts ys h = absurd h
drafts_more (d ∷ ds) [] ns xs ts ys h = absurd h
drafts_more (d ∷ ds) (p ∷ ps) ns xs ts ys h =
    (record { kind_is = kind_more d.kind p.kind ns xs ts ys h.0.kind_is; owner_is = h.0.owner_is; end_is = h.0.end_is }, drafts_more ds ps ns xs ts ys h.1)

pub drafts_grown : (x y : Expressions) (ds : List Draft) (ps : List PureDraft) → Grown x y → DraftsFor (vec_items x.ariths) (vec_items x.tests) ds ps → DraftsFor (vec_items y.ariths) (vec_items y.tests) ds ps
drafts_grown x y ds ps g h =
    subst (λ ns. DraftsFor ns (vec_items y.tests) ds ps) (sym g.ariths) (subst (λ ts. DraftsFor (vec_items x.ariths ++ g.more_ariths) ts ds ps) (sym g.tests) (drafts_more ds ps _ g.more_ariths _ g.more_tests h))

pub drafts_append : (ns : List ArithNode) (ts : List TestNode) (ds es : List Draft) (ps qs : List PureDraft) → DraftsFor ns ts ds ps → DraftsFor ns ts es qs → DraftsFor ns ts (ds ++ es) (ps ++ qs)
drafts_append ns ts [] es [] qs h k = k
drafts_append ns ts [] es (p ∷ ps) qs h k = absurd h
drafts_append ns ts (d ∷ ds) es [] qs h k = absurd h
drafts_append ns ts (d ∷ ds) es (p ∷ ps) qs h k = (h.0, drafts_append ns ts ds es ps qs h.1 k)

pub drafts_long : (ns : List ArithNode) (ts : List TestNode) (ds : List Draft) (ps : List PureDraft) → DraftsFor ns ts ds ps → length ds ≡ length ps
drafts_long ns ts [] [] h = refl
drafts_long ns ts [] (p ∷ ps) h = absurd h
drafts_long ns ts (d ∷ ds) [] h = absurd h
drafts_long ns ts (d ∷ ds) (p ∷ ps) h = ap suc (drafts_long ns ts ds ps h.1)

-- as many labels more as the phrase has
pub longer : {js : List Item} {D : List Word → Part → List Word → Type 0} {site : Site} {ws : List Word} {x y : Board} {rest : List Word} (r : PhraseRead js D site ws x y rest) → vec_len y.drafts ≡ vec_len x.drafts + size r.tree
longer {site = site} {x = x} {y = y} r =
    let a = vec_long x.drafts in
    let b = vec_long y.drafts in
    let c = ap length r.appended in
    let d = length-append (vec_items x.drafts) r.added in
    let e = drafts_long _ _ r.added _ r.stand in
    let f = drafts_length r.tree (vec_len x.drafts) site.owner in
    omega arith

pub pushed_long : (x z : Board) (d : Draft) → vec_items z.drafts ≡ vec_items x.drafts ++ d ∷ [] → vec_len z.drafts ≡ suc (vec_len x.drafts)
pushed_long x z d e =
    let a = vec_long x.drafts in
    let b = vec_long z.drafts in
    let c = ap length e in
    let f = length-append (vec_items x.drafts) (d ∷ []) in
    omega arith

-- a statement that is one draft
pub leaf_read : (s : Part) (p : PureKind) (site : Site) (ws rest : List Word) (x z : Board) (e : Expressions) (k : Kind)
    → drafts s (vec_len x.drafts) site.owner ≡ (record { kind = p; owner = site.owner; end = vec_len x.drafts + 1 }) ∷ []
    → States one ws s rest
    → Goes x.expressions.counted (vec_len x.drafts) site.limits.scope site.limits.left site.inside (statement ∷ []) ws rest e.counted (suc (vec_len x.drafts))
    → vec_items z.drafts ≡ vec_items x.drafts ++ (record { kind = k; owner = site.owner; end = vec_len x.drafts + 1 }) ∷ [] → z.expressions ≡ e
    → KindFor (vec_items e.ariths) (vec_items e.tests) k p → Grown x.expressions e → PhraseRead (statement ∷ []) (States one) site ws x z rest
leaf_read s p site ws rest x z e k same d g a f h w = record {
  tree = s;
  derives = d;
  goes = subst (λ q. Goes x.expressions.counted (vec_len x.drafts) site.limits.scope site.limits.left site.inside (statement ∷ []) ws rest q (vec_len z.drafts)) (sym (ap (λ (y : Expressions). y.counted) f))
      (subst (λ q. Goes x.expressions.counted (vec_len x.drafts) site.limits.scope site.limits.left site.inside (statement ∷ []) ws rest e.counted q) (sym (pushed_long x z _ a)) g);
  added = (record { kind = k; owner = site.owner; end = vec_len x.drafts + 1 }) ∷ [];
  appended = a;
  stand = subst (λ q. DraftsFor (vec_items z.expressions.ariths) (vec_items z.expressions.tests) ((record { kind = k; owner = site.owner; end = vec_len x.drafts + 1 }) ∷ []) q) (sym same)
      (subst (λ (y : Expressions). DraftsFor (vec_items y.ariths) (vec_items y.tests) ((record { kind = k; owner = site.owner; end = vec_len x.drafts + 1 }) ∷ []) ((record { kind = p; owner = site.owner; end = vec_len x.drafts + 1 }) ∷ [])) (sym f)
      (record { kind_is = h; owner_is = refl; end_is = refl }, tt));
  grown = grown_to x.expressions e z.expressions w f;
}

-- what an arithmetic or a boolean expression adds
pub arith_grown : {js : List Item} {D : List Word → Arith → List Word → Type 0} {s : Rattle.text.specs.declared.word.Scope.Scope} {left : ℕ} {ws : List Word} {x y : Expressions} {i : ℕ} {rest : List Word} → ArithRead js D s left ws x y i rest → Grown x y
arith_grown {x = x} r = record { more_ariths = r.added; ariths = r.ariths; more_tests = []; tests = r.tests ∙ sym (append-nil (vec_items x.tests)) }

pub test_grown : {js : List Item} {D : List Word → Test → List Word → Type 0} {s : Rattle.text.specs.declared.word.Scope.Scope} {left : ℕ} {ws : List Word} {x y : Expressions} {i : ℕ} {rest : List Word} → TestRead js D s left ws x y i rest → Grown x y
test_grown r = record { more_ariths = r.added; ariths = r.ariths; more_tests = r.added_tests; tests = r.tests }

pub set_derives : {w v c : Word} {ws vs mid rest : List Word} {r : Register} {a : Arith} → Letter w.token r → ws ≡ v ∷ vs → v.token ≡ Becomes → Sum vs a mid → mid ≡ c ∷ rest → c.token ≡ Semicolon → States one (w ∷ ws) (assign (register_index r) a) rest
set_derives {w = w} {vs = vs} {rest = rest} {r = r} {a = a} l e f d m g = subst (λ x. States one (w ∷ x) (assign (register_index r) a) rest) (sym e) (sets (r, l, refl) f (subst (λ x. Sum vs a x) m d) g)

pub sense_derives : {w v c : Word} {ws vs rest : List Word} {r : Register} → w.token ≡ Senses → ws ≡ v ∷ vs → Letter v.token r → vs ≡ c ∷ rest → c.token ≡ Semicolon → States one (w ∷ ws) (sense (register_index r)) rest
sense_derives {w = w} {v = v} {rest = rest} {r = r} e f l m g = subst (λ x. States one (w ∷ x) (sense (register_index r)) rest) (sym (f ∙ ap (λ x. v ∷ x) m)) (senses e (r, l, refl) g)
