-- A whole program, put together from its declarations and its statements. Assumes nothing.
use Rattle.std.proofs.Common.{◌≡◌, ℕ, is_some, zero, suc, ◌<◌, ◌≤◌, true, false, List, [], ◌∷◌, ◌++◌, map, length, get_or, None, vec_items, vec_len, sym, refl, ap, ◌∙◌, subst, inl, inr, arith, lit≤, eq-eqb}
use Rattle.std.proofs.lemmas.Bool.{and_from, le-leb}
use Rattle.grammar.specs.Grammars.{stuck}
use Rattle.grammar.specs.Answers.{next, fault}
use Rattle.grammar.proofs.Steps.{reading_stuck, reading_good}
use Rattle.text.specs.declared.reading.Fault.{Fault}
use Rattle.text.specs.declared.word.Register.TheVariants.{A as ra, B as rb, C as rc, D as rd, E as re, F as rf}
use Rattle.text.specs.declared.word.Scope.TheVariants.{Declared}
use Rattle.text.specs.declared.word.Token.TheVariants.{CloseBrace}
use Rattle.text.specs.declared.word.Word.{Word}
use Rattle.text.specs.Words.{at}
use Rattle.text.specs.Table.{statements, declarations, program_start, table}
use Rattle.text.specs.Charges.{Memo, causes, counting, with_parts, program_memo}
use Rattle.text.specs.Reading.{reads, place_of, cause_of, FaultAt}
use Rattle.text.specs.declared.reading.Limits.{Limits}
use Rattle.text.proofs.Derived.{find_at}
use Rattle.text.proofs.Going.{leaves_out}
use Rattle.text.proofs.Stands.{vec_long}
use Rattle.text.proofs.Tests.{is_token}
use Rattle.traces.specs.declared.range.Range.{Range}
use Rattle.traces.specs.Programs.{Part, size, range}
use Rattle.traces.specs.Tables.{Instruction, table as table_from}
use Rattle.traces.specs.Codes.{settings, lead_to, sound}
use Rattle.traces.proofs.Links.{drafts}
use Rattle.traces.proofs.Walks.{length_table}
use Rattle.syntax.specs.Phrases.{Declares, no_register, all_declared, States, behind, no_more, Ranged, undeclared}
use Rattle.syntax.proofs.Forth.{from_register, quiet_declarations}
use Rattle.program.specs.declared.board.Board.{Board}
use Rattle.program.specs.declared.header.Header.{Header}
use Rattle.program.specs.declared.site.Site.{Site}
use Rattle.program.specs.Headers.{Blank, HeaderRead, HeaderStopped, NoReg}
use Rattle.program.specs.Lists.{Ended, PlaceOn, ListDone, ListStopped}
use Rattle.program.specs.Outcomes.{DraftsFor}
use Rattle.program.specs.Wholes.{WholeRead}
use Rattle.std.proofs.lemmas.List.{length-map, ext_get_or, get_or-map, nil_from_length}
use Rattle.program.proofs.Chains.{text_opens}
use Rattle.program.proofs.Tables.{table_leads}

pub blank_read : (ws : List Word) (h : Header) → Blank h → HeaderRead ws h ws
blank_read ws h b = record {
  bounds = undeclared;
  memo = program_memo;
  heads = record {
    ranged = subst (Ranged undeclared) (sym b.no_ranges) tt;
    counted = refl;
    read = refl;
    plain = refl;
    settings_are = sym b.one_setting;
    scoped = ap (λ rs. Declared (map is_some rs)) (sym b.no_ranges);
  };
  derives = λ es rest d. subst (λ n. Declares n undeclared ws es rest) b.from_the_first d;
  goes = ap (λ n. reads ws program_memo (from_register n ++ statements ∷ [])) (sym b.from_the_first);
}

-- what is made of the elements one by one
pub mapped : {X Y : Type 0} (f : X → Y) (d : X) (xs : List X) (ys : List Y) → length ys ≡ length xs → ((i : ℕ) → i < length ys → get_or ys i (f d) ≡ f (get_or xs i d)) → ys ≡ map f xs
mapped f d xs ys n e = ext_get_or (f d) ys (map f xs) (n ∙ sym (length-map xs f)) (λ i h. e i h ∙ sym (get_or-map f xs i d (f d) (omega arith)))

-- no declaration follows, so those that are owed are left out
none_left : (i : ℕ) (mid : List Word) (m : Memo) → NoReg i mid → reads mid m (from_register i ++ statements ∷ []) ≡ reads mid m (statements ∷ [])
none_left zero mid m (inl k) = absurd (omega arith)
none_left zero mid m (inr f) = leaves_out (declarations ra) refl mid (quiet_declarations ra mid f) m (statements ∷ [])
none_left (suc zero) mid m (inl k) = absurd (omega arith)
none_left (suc zero) mid m (inr f) = leaves_out (declarations rb) refl mid (quiet_declarations rb mid f) m (statements ∷ [])
none_left (suc (suc zero)) mid m (inl k) = absurd (omega arith)
none_left (suc (suc zero)) mid m (inr f) = leaves_out (declarations rc) refl mid (quiet_declarations rc mid f) m (statements ∷ [])
none_left (suc (suc (suc zero))) mid m (inl k) = absurd (omega arith)
none_left (suc (suc (suc zero))) mid m (inr f) = leaves_out (declarations rd) refl mid (quiet_declarations rd mid f) m (statements ∷ [])
none_left (suc (suc (suc (suc zero)))) mid m (inl k) = absurd (omega arith)
none_left (suc (suc (suc (suc zero)))) mid m (inr f) = leaves_out (declarations re) refl mid (quiet_declarations re mid f) m (statements ∷ [])
none_left (suc (suc (suc (suc (suc zero))))) mid m (inl k) = absurd (omega arith)
none_left (suc (suc (suc (suc (suc zero))))) mid m (inr f) = leaves_out (declarations rf) refl mid (quiet_declarations rf mid f) m (statements ∷ [])
none_left (suc (suc (suc (suc (suc (suc i)))))) mid m n = refl

-- a } that closes nothing
closes_nothing : (w : Word) (ws : List Word) (m : Memo) → at CloseBrace w ≡ true → reads (w ∷ ws) m (statements ∷ []) ≡ fault (cause_of (w ∷ ws)) (w ∷ ws)
closes_nothing w ws m c = reading_stuck table causes w ws m (statements ∷ []) (ap (λ s. next s true [] stuck) (find_at statements w CloseBrace (is_token w.token CloseBrace (lit≤ tt) refl c)))

-- for crates/judge, which cites it
pub no_items : {X : Type 0} (xs : List X) → length xs ≡ 0 → xs ≡ []
no_items [] e = refl
no_items (x ∷ xs) e = absurd (omega arith)

module _ {ws : List Word} {h : Header} {mid : List Word} (R : HeaderRead ws h mid) (n : NoReg h.next mid) where
  declared : Declares 0 undeclared ws R.bounds mid
  declared = R.derives R.bounds mid (by n)
    where
      by : NoReg h.next mid → Declares h.next R.bounds mid R.bounds mid
      by (inl k) = let s = h.within in let e : 6 ≡ h.next = omega arith in subst (λ i. Declares i R.bounds mid R.bounds mid) e all_declared
      by (inr f) = no_register f

  statements_next : reads ws program_memo program_start ≡ reads mid R.memo (statements ∷ [])
  statements_next = R.goes ∙ none_left h.next mid R.memo n

  module _ {limits : Limits} {end : ℕ} (same : limits ≡ record { scope = Declared (map is_some h.ranges); end = end; left = 16 }) (x : Board) (no-drafts : vec_len x.drafts ≡ 0) (no_words : x.expressions.counted ≡ 0) where
    abbrev pub site : Site
    site = record { limits = limits; inside = false; owner = None }

    place : PlaceOn site x R.memo (statements ∷ [])
    place = record {
      counted = R.heads.counted ∙ sym no_words;
      read = R.heads.read ∙ sym no-drafts;
      scoped = R.heads.scoped ∙ sym (ap (λ (l : Limits). l.scope) same);
      nested = let k = ap (λ (l : Limits). l.left) same in omega arith;
      looped = refl;
    }

    pub list_stopped : (f : Fault) → ListStopped site mid x f → HeaderStopped end ws f
    list_stopped f s = record { words = s.words; place_is = s.place_is ∙ ap (λ (l : Limits). place_of l.end s.words) same; stops = statements_next ∙ s.stops R.memo (statements ∷ []) text_opens place }

    module _ {y : Board} {rest : List Word} (L : ListDone site mid x y rest) where
      after : Memo
      after = with_parts (counting R.memo y.expressions.counted) (vec_len y.drafts)

      list_goes : reads ws program_memo program_start ≡ reads rest (with_parts (counting R.memo y.expressions.counted) (vec_len y.drafts)) (statements ∷ [])
      list_goes = statements_next ∙ L.read.goes R.memo (statements ∷ []) text_opens place

      pub too_much : (f : Fault) → 0 < length rest → FaultAt end rest f → HeaderStopped end ws f
      too_much f l a = record { words = rest; place_is = a.place_is; stops = list_goes ∙ more rest L.ended l ∙ ap (λ c. fault c rest) (sym a.cause_is) }
        where
          more : (us : List Word) → Ended us → 0 < length us → reads us (with_parts (counting R.memo y.expressions.counted) (vec_len y.drafts)) (statements ∷ []) ≡ fault (cause_of us) us
          more [] d k = absurd (omega arith)
          more (w ∷ us) d k = closes_nothing w us (with_parts (counting R.memo y.expressions.counted) (vec_len y.drafts)) d

      pub whole_read : rest ≡ [] → WholeRead ws h y
      whole_read e =
          let m = with_parts (counting R.memo y.expressions.counted) (vec_len y.drafts) in
          let l = L.read in
          let none : vec_items x.drafts ≡ [] = nil_from_length (vec_items x.drafts) (sym (vec_long x.drafts) ∙ no-drafts) in
          record {
            bounds = R.bounds;
            body = l.tree;
            derives = record { mid = mid; declares = declared; states = l.derives l.tree [] (subst (λ v. States (behind l.tree) v l.tree []) (sym e) no_more) };
            ranged = R.heads.ranged;
            memo = m;
            good = list_goes ∙ ap (λ v. reads v m (statements ∷ [])) e ∙ reading_good table causes m (statements ∷ []) refl;
            stand = subst (λ ds. DraftsFor (vec_items y.expressions.ariths) (vec_items y.expressions.tests) ds (drafts l.tree 0 None)) (sym (l.appended ∙ ap (λ ds. ds ++ l.added) none))
                (subst (λ k. DraftsFor (vec_items y.expressions.ariths) (vec_items y.expressions.tests) l.added (drafts l.tree k None)) no-drafts l.stand);
          }

-- six ranges with few settings, and the table of at most 63 statements
pub sound_of : (h : Header) (rs : List Range) (tbl : List Instruction) (body : Part) → rs ≡ map range h.ranges → tbl ≡ table_from body 0 (size body) (size body) → size body ≤ 63 → sound rs tbl ≡ true
sound_of h rs tbl body e is short =
    let six : length rs ≡ 6 = ap length e ∙ length-map h.ranges range ∙ h.six in
    let few : settings rs ≤ 65536 = subst (λ n. n ≤ 65536) (h.product ∙ ap settings (sym e)) h.few in
    let t = length_table body 0 (size body) (size body) in
    let n : length tbl ≡ size body = ap length is ∙ t in
    and_from _ _ (eq-eqb (length rs) 6 six)
    (and_from _ _ (le-leb (settings rs) 65536 few)
    (and_from _ _ (le-leb (length tbl) 63 (omega arith))
    (subst (λ k. lead_to k tbl ≡ true) (sym n) (subst (λ u. lead_to (size body) u ≡ true) (sym is) (table_leads body)))))
