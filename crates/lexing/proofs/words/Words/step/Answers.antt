use Rattle.std.proofs.Common.{◌+◌, ◌<◌, ◌≤◌, true, false, ◌++◌, length, drop, vec_items, sym, ap, ◌∙◌, arith, rules}
use Rattle.lexing.specs.Lexing.{separates, words_from}
use Rattle.lexing.proofs.Runs.{part_is, part_first, separator_step, step_within, step_onward, word_same}
use Rattle.lexing.proofs.words.Words.step.Goals as goal

pub returns-then-separator : goal.returns-then-separator
returns-then-separator c =
    let text = c.args.text.now in
    let p = c.args.place in
    let h : c.args.place < length c.args.text.now = c.requires.0 in
    record {
      onward = omega arith;
      within = omega arith;
      same = ap (λ ws. vec_items c.args.self.now.list ++ ws) (sym (separator_step text p h (part_first text p h separates true c.if-separator.ensures)));
      few = λ l. omega arith;
    }

pub overflow_add-result-2 : goal.overflow_add-result-2
overflow_add-result-2 c =
    let h : c.args.place < length c.args.text.now = c.requires.0 in
    let f = c.front-token.ensures _ _ (part_is c.args.text.now c.args.place h) in
    let w = step_within c.args.text.now c.args.place h in
    let small : c.args.place + c.front-token.result.1 ≤ 4096 = omega (arith, f.1, w, c.requires) in
    search rules

pub returns : goal.returns
returns c =
    let text = c.args.text.now in
    let p = c.args.place in
    let h : c.args.place < length c.args.text.now = c.requires.0 in
    let f = c.front-token.ensures _ _ (part_is c.args.text.now c.args.place h) in
    let w = step_within c.args.text.now c.args.place h in
    let o = step_onward c.args.text.now c.args.place h in
    record {
      onward = omega (arith, f.1, o);
      within = omega (arith, f.1, w);
      same = ap (λ ws. ws ++ words_from (p + c.front-token.result.1) 0 (drop (p + c.front-token.result.1) text)) c.push_reserved.ensures.items ∙ word_same text p h (vec_items c.args.self.now.list) _ _ (part_first text p h separates false c.if-separator.ensures) f.0 f.1;
      few = λ l. omega (arith, c.push_reserved.ensures.len, f.1, o);
    }
