-- Statements with statements in them, and lists of statements, put together. Assumes nothing.
use Rattle.std.proofs.Common.{◌≡◌, ℕ, suc, ◌+◌, ◌≤◌, Bool, true, List, [], ◌∷◌, ◌++◌, length, set, Some, vec_items, vec_len, sym, refl, ap, ◌∙◌, subst, inl, inr, append_assoc, append-nil, arith, lit≤, length-append}
use Rattle.text.specs.declared.expressions.Expressions.{Expressions}
use Rattle.text.specs.declared.reading.Fault.{Fault}
use Rattle.text.specs.declared.word.Word.{Word}
use Rattle.text.specs.Expressions.{Test}
use Rattle.text.specs.Nodes.{TestAt}
use Rattle.text.specs.Table.{Item, statement, guard, other, end_while, rules_of}
use Rattle.text.specs.Reading.{reads, place_of, Skipped, Unlike, cause_of, FaultAt, Deeper}
use Rattle.text.specs.declared.reading.Limits.{Limits}
use Rattle.std.proofs.lemmas.List.{length-set}
use Rattle.std.proofs.Math.Seq.{set-append_seam}
use Rattle.program.specs.Boards.{Replaced}
use Rattle.text.proofs.Stands.{vec_long, test_more}
use Rattle.traces.specs.Programs.{Part, size, if_then, if_else, while, block, empty, list}
use Rattle.traces.proofs.Links.{drafts, drafts_length}
use Rattle.syntax.specs.Phrases.{States, one, behind, ifs, if_elses, whiles, blocks, no_more, one_more}
use Rattle.text.specs.declared.word.Register.{Register}
use Rattle.text.specs.declared.word.Token.TheVariants.{Current, Initial, Sense, Semicolon, Break, If, While, Else, OpenParen, CloseParen, OpenBrace, CloseBrace}
use Rattle.text.specs.Derivations.{Condition, Free}
use Rattle.program.specs.declared.draft.Draft.{Draft}
use Rattle.program.specs.declared.board.Board.{Board}
use Rattle.program.specs.declared.site.Site.{Site}
use Rattle.program.specs.Places.{Place, Goes, Stops}
use Rattle.grammar.specs.Answers.{fault}
use Rattle.program.specs.Outcomes.{DraftsFor, Grown, PhraseRead, PhraseStopped, Guarded, guarded}
use borrow.Author.Tests.{clash}
use Rattle.grammar.specs.Grammars.{Quiet, find, takes}
use Rattle.text.specs.declared.word.Token.{Token}
use Rattle.grammar.proofs.Trees.{find_later}
use Rattle.text.specs.Charges.{Memo, counting, with_parts, opens, in_loop}
use Rattle.text.specs.Words.{at}
use Rattle.text.specs.Table.{line, plain, labelled, end_if, sensed, semicolon, breaks as breaks_role, block as block_item, set_register, becomes, operand, more, Line}
use Rattle.text.specs.declared.word.Register.TheVariants.{A as ra}
use Rattle.text.proofs.Going.{refuses}
use Rattle.text.proofs.Tests.{is_token, other_kind, no_register}
use Rattle.program.specs.declared.draft.Kind.TheVariants.{Choose, Repeat}
use Rattle.program.specs.Lists.{Opens, Ended, Begun, PlaceOn, ListRead, ListDone, ListStopped, ElseRead, ElseStopped, Entered}
use Rattle.program.proofs.Chains.{part_goes, part_first, else_goes, else_stops, brace_stops, brace_end, brace_goes}
use Rattle.program.proofs.Parts.{grown_none, grown_more, grown_to, drafts_grown, drafts_append, longer, pushed_long, test_grown, phrase_stops}

-- ---- lists
pub list_none : (site : Site) (ws : List Word) (x : Board) → ListRead site ws x x ws
list_none site ws x = record {
  tree = empty;
  derives = λ t e d. d;
  goes = λ m k o p. ap (λ n. reads ws (with_parts (counting m n) m.parts) k) p.counted ∙ ap (λ q. reads ws (with_parts (counting m x.expressions.counted) q) k) p.read;
  added = [];
  appended = sym (append-nil (vec_items x.drafts));
  stand = tt;
  grown = grown_none x.expressions;
}

-- where the next statement of a list stands
place_on : (site : Site) (x y : Board) (m : Memo) (k : List Item) → PlaceOn site x m k → PlaceOn site y (with_parts (counting m y.expressions.counted) (vec_len y.drafts)) k
place_on site x y m k p = record { counted = refl; read = refl; scoped = p.scoped; nested = p.nested; looped = p.looped }

opened : (k : List Item) → Opens k → (ws : List Word) → Begun ws → (m : Memo) → reads ws m k ≡ reads ws m (statement ∷ k)
opened k o [] b m = absurd b
opened k o (w ∷ ws) b m = o w ws m b

list_long : {site : Site} {ws : List Word} {x y : Board} {rest : List Word} (r : ListRead site ws x y rest) → vec_len y.drafts ≡ vec_len x.drafts + size r.tree
list_long {site} {x = x} {y = y} r =
    let a = vec_long x.drafts in
    let b = vec_long y.drafts in
    let c = ap length r.appended in
    let d = length-append (vec_items x.drafts) r.added in
    let e = Rattle.program.proofs.Parts.drafts_long _ _ r.added _ r.stand in
    let f = drafts_length r.tree (vec_len x.drafts) site.owner in
    omega arith

pub list_more : (site : Site) (ws : List Word) (x y z : Board) (mid rest : List Word) → ListRead site ws x y mid → Begun mid → PhraseRead (statement ∷ []) (States one) site mid y z rest → ListRead site ws x z rest
list_more site ws x y z mid rest r b s = record {
  tree = list r.tree s.tree;
  derives = λ t e d. r.derives t e (one_more s.derives d);
  goes = λ m k o p. r.goes m k o p ∙ opened k o mid b _ ∙ s.goes (with_parts (counting m y.expressions.counted) (vec_len y.drafts)) k (place_on site x y m k p);
  added = r.added ++ s.added;
  appended = s.appended ∙ ap (λ v. v ++ s.added) r.appended ∙ append_assoc (vec_items x.drafts) r.added s.added;
  stand = drafts_append _ _ r.added s.added _ _ (drafts_grown y.expressions z.expressions r.added _ s.grown r.stand)
      (subst (λ n. DraftsFor (vec_items z.expressions.ariths) (vec_items z.expressions.tests) s.added (drafts s.tree n site.owner)) (list_long r) s.stand);
  grown = grown_more x.expressions y.expressions z.expressions r.grown s.grown;
}

pub list_stopped : (site : Site) (ws : List Word) (x y : Board) (mid : List Word) (f : Fault) → ListRead site ws x y mid → Begun mid → PhraseStopped (statement ∷ []) site mid y f → ListStopped site ws x f
list_stopped site ws x y mid f r b s = record {
  words = s.words;
  place_is = s.place_is;
  stops = λ m k o p. r.goes m k o p ∙ opened k o mid b _ ∙ s.stops (with_parts (counting m y.expressions.counted) (vec_len y.drafts)) k (place_on site x y m k p);
}

-- ---- blocks
no_brace : (ws : List Word) → Ended ws → Unlike CloseBrace ws → ws ≡ []
no_brace [] e u = refl
no_brace (w ∷ ws) e u = absurd (clash (sym u ∙ e))

module _ (site : Site) (w : Word) (ws : List Word) (x : Board) (e : w.token ≡ OpenBrace) {inner : Limits} (d : Deeper site.limits inner) where
  -- the site of what is in the block
  abbrev pub block_site : Site
  block_site = record { limits = inner; inside = site.inside; owner = site.owner }

  pub braces_stopped : (f : Fault) → ListStopped block_site ws x f → PhraseStopped (statement ∷ []) site (w ∷ ws) x f
  braces_stopped f s = phrase_stops f f.cause s.words refl (s.place_is ∙ ap (λ k. place_of k s.words) d.end)
      (brace_stops w ws e d.left f.cause s.words
      (subst (λ v. (m : Memo) (k : List Item) → Opens k → Place x.expressions.counted (vec_len x.drafts) v inner.left site.inside m k → reads ws m k ≡ fault f.cause s.words) d.scope s.stops))

  module _ (y : Board) (mid : List Word) (r : ListDone block_site ws x y mid) where
    inside_goes : (m : Memo) (k : List Item) → Opens k → Place x.expressions.counted (vec_len x.drafts) site.limits.scope inner.left site.inside m k → reads ws m k ≡ reads mid (with_parts (counting m y.expressions.counted) (vec_len y.drafts)) k
    inside_goes = subst (λ v. (m : Memo) (k : List Item) → Opens k → Place x.expressions.counted (vec_len x.drafts) v inner.left site.inside m k → reads ws m k ≡ reads mid (with_parts (counting m y.expressions.counted) (vec_len y.drafts)) k) d.scope r.read.goes

    pub braces_open : (f : Fault) → FaultAt site.limits.end mid f × Unlike CloseBrace mid → PhraseStopped (statement ∷ []) site (w ∷ ws) x f
    braces_open f u = phrase_stops f _ mid u.0.cause_is u.0.place_is
        (brace_end w ws e d.left y.expressions.counted (vec_len y.drafts) mid inside_goes (no_brace mid r.ended u.1))

    pub braces_read : (rest : List Word) → Skipped CloseBrace mid rest → PhraseRead (statement ∷ []) (States one) site (w ∷ ws) x y rest
    braces_read rest s = record {
      tree = block r.read.tree;
      derives = blocks e (subst (λ v. States (behind empty) ws r.read.tree v) s.1 (r.read.derives r.read.tree mid no_more)) (is_token s.0.token CloseBrace (lit≤ tt) refl s.2);
      goes = brace_goes w ws e d.left y.expressions.counted (vec_len y.drafts) mid inside_goes rest s;
      added = r.read.added;
      appended = r.read.appended;
      stand = r.read.stand;
      grown = r.read.grown;
    }

-- ---- if and while
-- the site of a part
abbrev pub part_site : Limits → Bool → ℕ → Site
part_site inner j label = record { limits = inner; inside = j; owner = Some label }

set_same_long : (y z : Board) (label : ℕ) (d : Draft) → vec_items z.drafts ≡ set (vec_items y.drafts) label d → vec_len y.drafts ≡ vec_len z.drafts
set_same_long y z label d r = let a = vec_long y.drafts in let c = vec_long z.drafts in let f = ap length r in let g = length-set (vec_items y.drafts) label d in omega arith

guard_words : {ws : List Word} {t : Test} {rest : List Word} (P : List Word → Type 0) → Guarded ws t rest → ((o c : Word) (vs : List Word) → o.token ≡ OpenParen → Condition vs t (c ∷ rest) → c.token ≡ CloseParen → P (o ∷ vs)) → P ws
guard_words P (guarded {o = o} {c = c} {ws = vs} e d f) g = g o c vs e d f

quiet_none : (i : Item) (ws : List Word) → rules_of i ≡ [] → Quiet (rules_of i) ws
quiet_none i [] e = tt
quiet_none i (w ∷ ws) e = ap (λ ls. find ls w) e

quiet_other : (ws : List Word) → Free (Else ∷ []) ws → Quiet (rules_of other) ws
quiet_other [] f = tt
quiet_other (w ∷ ws) f = find_later (line (at Else) plain (statement ∷ end_if ∷ [])) [] w (other_kind w.token Else (lit≤ tt) refl f.0)

module _ {site : Site} (w : Word) {ws : List Word} {x b : Board} {label i : ℕ} {inner : Limits} {mid : List Word} (n : Entered site ws x b label i inner mid) where
  one_longer : vec_len b.drafts ≡ suc (vec_len x.drafts)
  one_longer = pushed_long x b n.draft n.pushed

  -- what is read in a part is read where the whole stands
  place_inside : (f : Fault) (us : List Word) → f.place ≡ place_of inner.end us → f.place ≡ place_of site.limits.end us
  place_inside f us e = e ∙ ap (λ k. place_of k us) n.deeper.end

  stops_inside : (j : Bool) (y : Board) (us : List Word) (f : Fault) (s : PhraseStopped (statement ∷ []) (part_site inner j label) us y f) → Stops y.expressions.counted (vec_len y.drafts) site.limits.scope inner.left j (statement ∷ []) us f.cause s.words
  stops_inside j y us f s = subst (λ v. Stops y.expressions.counted (vec_len y.drafts) v inner.left j (statement ∷ []) us f.cause s.words) n.deeper.scope s.stops

  goes_inside : (j : Bool) (y z : Board) (us rest : List Word) → PhraseRead (statement ∷ []) (States one) (part_site inner j label) us y z rest
      → Goes y.expressions.counted (vec_len y.drafts) site.limits.scope inner.left j (statement ∷ []) us rest z.expressions.counted (vec_len z.drafts)
  goes_inside j y z us rest r = subst (λ v. Goes y.expressions.counted (vec_len y.drafts) v inner.left j (statement ∷ []) us rest z.expressions.counted (vec_len z.drafts)) n.deeper.scope r.goes

  pub entered_stops : (t : Token) (c : Item) (j : Bool) (f : Fault) → w.token ≡ t → ((q : ℕ) → find (rules_of statement) (record { token = t; place = q }) ≡ takes labelled (guard ∷ statement ∷ c ∷ [])) → opens c ≡ 1
      → ((k : List Item) → in_loop k ≡ site.inside → in_loop (c ∷ k) ≡ j) → PhraseStopped (statement ∷ []) (part_site inner j label) mid b f → PhraseStopped (statement ∷ []) site (w ∷ ws) x f
  entered_stops t c j f h g o l s = phrase_stops f f.cause s.words refl (place_inside f s.words s.place_is)
      (part_first w ws t h c g o j l b.expressions.counted mid n.few n.deeper.left n.test.goes f.cause s.words
      (subst (λ p. Stops b.expressions.counted p site.limits.scope inner.left j (statement ∷ []) mid f.cause s.words) one_longer (stops_inside j b mid f s)))

  -- the first part
  module _ (j : Bool) (y : Board) (rest : List Word) (r : PhraseRead (statement ∷ []) (States one) (part_site inner j label) mid b y rest) where
    first_goes : Goes b.expressions.counted (suc (vec_len x.drafts)) site.limits.scope inner.left j (statement ∷ []) mid rest y.expressions.counted (vec_len y.drafts)
    first_goes = subst (λ p. Goes b.expressions.counted p site.limits.scope inner.left j (statement ∷ []) mid rest y.expressions.counted (vec_len y.drafts)) one_longer (goes_inside j b y mid rest r)

    first_stand : DraftsFor (vec_items y.expressions.ariths) (vec_items y.expressions.tests) r.added (drafts r.tree (vec_len x.drafts + 1) (Some (vec_len x.drafts)))
    first_stand =
        subst (λ k. DraftsFor (vec_items y.expressions.ariths) (vec_items y.expressions.tests) r.added (drafts r.tree (vec_len x.drafts + 1) (Some k))) n.label_is
        (subst (λ k. DraftsFor (vec_items y.expressions.ariths) (vec_items y.expressions.tests) r.added (drafts r.tree k (Some label))) (one_longer ∙ omega arith) r.stand)

  -- the test goes on to stand
  test_stands : (y : Expressions) → Grown b.expressions y → TestAt (vec_items y.ariths) (vec_items y.tests) i n.test.tree
  test_stands y g = subst (λ ns. TestAt ns (vec_items y.tests) i n.test.tree) (sym g.ariths)
      (subst (λ ts. TestAt (vec_items b.expressions.ariths ++ g.more_ariths) ts i n.test.tree) (sym g.tests) (test_more _ g.more_ariths _ g.more_tests i n.test.tree n.test.stands))

  -- the drafts ds of all parts have been added, and the draft of the whole is settled
  settled : (tree : Part) (ds : List Draft) (d : Draft) (y z : Board) (rest : List Word) → States one (w ∷ ws) tree rest
      → Goes x.expressions.counted (vec_len x.drafts) site.limits.scope site.limits.left site.inside (statement ∷ []) (w ∷ ws) rest y.expressions.counted (vec_len y.drafts)
      → vec_items y.drafts ≡ vec_items b.drafts ++ ds → Grown b.expressions y.expressions → DraftsFor (vec_items y.expressions.ariths) (vec_items y.expressions.tests) (d ∷ ds) (drafts tree (vec_len x.drafts) site.owner) → Replaced label d y z
      → PhraseRead (statement ∷ []) (States one) site (w ∷ ws) x z rest
  settled tree ds d y z rest s g a h stand r = record {
    tree = tree;
    derives = s;
    goes = subst (λ (v : Expressions). Goes x.expressions.counted (vec_len x.drafts) site.limits.scope site.limits.left site.inside (statement ∷ []) (w ∷ ws) rest v.counted (vec_len z.drafts)) (sym r.expressions)
        (subst (λ q. Goes x.expressions.counted (vec_len x.drafts) site.limits.scope site.limits.left site.inside (statement ∷ []) (w ∷ ws) rest y.expressions.counted q) (set_same_long y z label d r.drafts) g);
    added = d ∷ ds;
    appended = r.drafts ∙ ap (λ v. set v label d) (a ∙ ap (λ v. v ++ ds) n.pushed ∙ append_assoc (vec_items x.drafts) (n.draft ∷ []) ds)
        ∙ ap (λ k. set (vec_items x.drafts ++ n.draft ∷ ds) k d) (n.label_is ∙ vec_long x.drafts) ∙ set-append_seam (vec_items x.drafts) n.draft ds d;
    stand = subst (λ (v : Expressions). DraftsFor (vec_items v.ariths) (vec_items v.tests) (d ∷ ds) (drafts tree (vec_len x.drafts) site.owner)) (sym r.expressions) stand;
    grown = grown_to x.expressions y.expressions z.expressions (grown_more x.expressions b.expressions y.expressions (test_grown n.test) h) r.expressions;
  }

  -- while ( B ) S
  pub repeat_read : w.token ≡ While → (y z : Board) (rest : List Word) → PhraseRead (statement ∷ []) (States one) (part_site inner true label) mid b y rest
      → Replaced label (record { kind = Repeat i; owner = site.owner; end = vec_len y.drafts }) y z → PhraseRead (statement ∷ []) (States one) site (w ∷ ws) x z rest
  repeat_read h y z rest r s =
      let lb = one_longer in
      let ly = longer r in
      settled (while n.test.tree r.tree) r.added _ y z rest
      (guard_words (λ v. States one (w ∷ v) (while n.test.tree r.tree) rest) n.test.derives (λ o c vs o' d' c'. whiles h o' d' c' r.derives))
      (part_goes w ws While h end_while (λ _. refl) refl true (λ k u. refl) b.expressions.counted mid n.few n.deeper.left n.test.goes refl y.expressions.counted (vec_len y.drafts) rest (quiet_none end_while rest refl)
      (first_goes true y rest r))
      r.appended r.grown (record { kind_is = (i, refl, test_stands y.expressions r.grown); owner_is = refl; end_is = omega arith }, first_stand true y rest r) s

  -- if ( B ) S, and if ( B ) S else S
  module _ (h : w.token ≡ If) {y : Board} {middle : ℕ} (m : middle ≡ vec_len y.drafts) {first : List Word} (r : PhraseRead (statement ∷ []) (States one) (part_site inner site.inside label) mid b y first) where
    -- the draft of the if, where the board t has all drafts of its parts
    abbrev pub choice : Board → Draft
    choice t = record { kind = Choose i middle; owner = site.owner; end = vec_len t.drafts }

    pub choose_stopped : (f : Fault) → ElseStopped (part_site inner site.inside label) first y f → PhraseStopped (statement ∷ []) site (w ∷ ws) x f
    choose_stopped f (v, vs, u, g, s) = phrase_stops f f.cause s.words refl (place_inside f s.words s.place_is)
        (else_stops w ws h b.expressions.counted mid n.few n.deeper.left n.test.goes y.expressions.counted (vec_len y.drafts) v vs g
        (subst (λ us. Goes b.expressions.counted (suc (vec_len x.drafts)) site.limits.scope inner.left site.inside (statement ∷ []) mid us y.expressions.counted (vec_len y.drafts)) u (first_goes site.inside y first r))
        f.cause s.words (stops_inside site.inside y vs f s))

    choose_none : (z : Board) → Free (Else ∷ []) first → Replaced label (choice y) y z → PhraseRead (statement ∷ []) (States one) site (w ∷ ws) x z first
    choose_none z u s =
        let lb = one_longer in
        let ly = longer r in
        settled (if_then n.test.tree r.tree) r.added _ y z first
        (guard_words (λ v. States one (w ∷ v) (if_then n.test.tree r.tree) first) n.test.derives (λ o c vs o' d' c'. ifs h o' d' c' r.derives u))
        (part_goes w ws If h other (λ _. refl) refl site.inside (λ k v. v) b.expressions.counted mid n.few n.deeper.left n.test.goes refl y.expressions.counted (vec_len y.drafts) first (quiet_other first u)
        (first_goes site.inside y first r))
        r.appended r.grown (record { kind_is = (i, ap (Choose i) (omega arith), test_stands y.expressions r.grown); owner_is = refl; end_is = omega arith }, first_stand site.inside y first r) s

    choose_both : (y₂ z : Board) (rest : List Word) (v : Word) (vs : List Word) → first ≡ v ∷ vs → v.token ≡ Else → PhraseRead (statement ∷ []) (States one) (part_site inner site.inside label) vs y y₂ rest
        → Replaced label (choice y₂) y₂ z → PhraseRead (statement ∷ []) (States one) site (w ∷ ws) x z rest
    choose_both y₂ z rest v vs u g r₂ s =
        let lb = one_longer in
        let ly = longer r in
        let l₂ = longer r₂ in
        let g₂ = grown_more b.expressions y.expressions y₂.expressions r.grown r₂.grown in
        settled (if_else n.test.tree r.tree r₂.tree) (r.added ++ r₂.added) _ y₂ z rest
        (guard_words (λ us. States one (w ∷ us) (if_else n.test.tree r.tree r₂.tree) rest) n.test.derives (λ o c us o' d' c'. if_elses h o' d' c' (subst (λ t. States one mid r.tree t) u r.derives) g r₂.derives))
        (else_goes w ws h b.expressions.counted mid n.few n.deeper.left n.test.goes y.expressions.counted (vec_len y.drafts) v vs g
        (subst (λ us. Goes b.expressions.counted (suc (vec_len x.drafts)) site.limits.scope inner.left site.inside (statement ∷ []) mid us y.expressions.counted (vec_len y.drafts)) u (first_goes site.inside y first r))
        y₂.expressions.counted (vec_len y₂.drafts) rest (goes_inside site.inside y y₂ vs rest r₂))
        (r₂.appended ∙ ap (λ t. t ++ r₂.added) r.appended ∙ append_assoc (vec_items b.drafts) r.added r₂.added) g₂ (
          record { kind_is = (i, ap (Choose i) (omega arith), test_stands y₂.expressions g₂); owner_is = refl; end_is = omega arith },
          drafts_append _ _ r.added r₂.added _ _ (drafts_grown y.expressions y₂.expressions r.added _ r₂.grown (first_stand site.inside y first r))
              (subst (λ k. DraftsFor (vec_items y₂.expressions.ariths) (vec_items y₂.expressions.tests) r₂.added (drafts r₂.tree (vec_len x.drafts + 1 + size r.tree) (Some k))) n.label_is
              (subst (λ k. DraftsFor (vec_items y₂.expressions.ariths) (vec_items y₂.expressions.tests) r₂.added (drafts r₂.tree k (Some label))) (omega arith) r₂.stand)),
        ) s

    pub choose_read : (y₂ z : Board) (rest : List Word) → ElseRead (part_site inner site.inside label) first y y₂ rest → Replaced label (choice y₂) y₂ z → PhraseRead (statement ∷ []) (States one) site (w ∷ ws) x z rest
    choose_read y₂ z rest (inl k) s =
        subst (λ t. PhraseRead (statement ∷ []) (States one) site (w ∷ ws) x z t) (sym k.1) (choose_none z k.0 (subst (λ (t : Board). Replaced label (choice t) t z) k.2 s))
    choose_read y₂ z rest (inr k) s = choose_both y₂ z rest k.0 k.1 k.2 k.3 k.4 s

-- the lines of statements, from the last
abbrev S₇ : List Line
S₇ = line (at OpenBrace) plain (block_item ∷ []) ∷ []

abbrev S₆ : List Line
S₆ = line (at Break) breaks_role (semicolon ∷ []) ∷ S₇

abbrev S₅ : List Line
S₅ = line (at While) labelled (guard ∷ statement ∷ end_while ∷ []) ∷ S₆

abbrev S₄ : List Line
S₄ = line (at If) labelled (guard ∷ statement ∷ other ∷ []) ∷ S₅

abbrev S₃ : List Line
S₃ = line (at Semicolon) labelled [] ∷ S₄

abbrev S₂ : List Line
S₂ = line (at Sense) labelled (sensed ∷ semicolon ∷ []) ∷ S₃

-- no statement begins with this word
pub no_statement : (w : Word) (ws : List Word) → ((r : Register) → w.token ≡ Current r → ⊥) → ((r : Register) → w.token ≡ Initial r → ⊥) → (w.token ≡ Sense → ⊥) → (w.token ≡ Semicolon → ⊥) → (w.token ≡ If → ⊥) → (w.token ≡ While → ⊥) → (w.token ≡ Break → ⊥) → (w.token ≡ OpenBrace → ⊥)
    → Quiet (rules_of statement) (w ∷ ws)
no_statement w ws c n s m i h b o =
    find_later (line (at (Current ra)) set_register (becomes ∷ operand ∷ more ∷ semicolon ∷ [])) S₂ w (no_register w.token c n) ∙ find_later (line (at Sense) labelled (sensed ∷ semicolon ∷ [])) S₃ w (other_kind w.token Sense (lit≤ tt) refl s)
    ∙ find_later (line (at Semicolon) labelled []) S₄ w (other_kind w.token Semicolon (lit≤ tt) refl m) ∙ find_later (line (at If) labelled (guard ∷ statement ∷ other ∷ [])) S₅ w (other_kind w.token If (lit≤ tt) refl i)
    ∙ find_later (line (at While) labelled (guard ∷ statement ∷ end_while ∷ [])) S₆ w (other_kind w.token While (lit≤ tt) refl h) ∙ find_later (line (at Break) breaks_role (semicolon ∷ [])) S₇ w (other_kind w.token Break (lit≤ tt) refl b)
    ∙ find_later (line (at OpenBrace) plain (block_item ∷ [])) [] w (other_kind w.token OpenBrace (lit≤ tt) refl o)

pub refused : (site : Site) (ws : List Word) (x : Board) (f : Fault) → Quiet (rules_of statement) ws → FaultAt site.limits.end ws f → PhraseStopped (statement ∷ []) site ws x f
refused site ws x f q a = phrase_stops f (cause_of ws) ws a.cause_is a.place_is (λ m k p. refuses statement refl ws q m k)

pub else_longer : (site : Site) (ws : List Word) (x y : Board) (rest : List Word) → ElseRead site ws x y rest → vec_len x.drafts ≤ vec_len y.drafts
else_longer site ws x y rest (inl k) = let e = ap (λ (t : Board). vec_len t.drafts) k.2 in omega arith
else_longer site ws x y rest (inr k) = let e = longer k.4 in omega arith
