-- An if or while that cannot be opened. Assumes nothing.
use Rattle.std.proofs.Common.{◌≡◌, ◌<◌, ◌≤◌, ◌⊎◌, List, [], ◌∷◌, vec_len, inl, inr, refl, ap, ◌∙◌, subst}
use Rattle.model.specs.declared.refusal.Cause.TheVariants.{Many}
use Rattle.text.specs.declared.reading.Fault.{Fault}
use Rattle.text.specs.declared.reading.Limits.{Limits}
use Rattle.text.specs.declared.word.Token.TheVariants.{If, While}
use Rattle.text.specs.declared.word.Word.{Word}
use Rattle.text.specs.Table.{statement, guard, other, end_while}
use Rattle.text.specs.Outcomes.{Stopped}
use Rattle.text.specs.Reading.{place_of, Deeper, TooDeep}
use Rattle.text.specs.Reading.{Stops as ExpressionStops}
use Rattle.program.specs.declared.board.Board.{Board}
use Rattle.program.specs.declared.site.Site.{Site}
use Rattle.program.specs.Boards.{Charged}
use Rattle.program.specs.Outcomes.{PhraseStopped}
use Rattle.program.proofs.Chains.{part_many, part_deep, part_guard}
use Rattle.program.proofs.Parts.{phrase_stops}

module _ (site : Site) (w : Word) (ws : List Word) (x : Board) (e : (w.token ≡ If) ⊎ (w.token ≡ While)) where
  pub open_many : (f : Fault) → Charged (63 ≤ vec_len x.drafts) Many w f → PhraseStopped (statement ∷ []) site (w ∷ ws) x f
  open_many f c = phrase_stops f _ (w ∷ ws) c.cause_is c.place_is (elim e [
    | inl h ↦ part_many w ws If h other (λ q. refl) refl c.why
    | inr h ↦ part_many w ws While h end_while (λ q. refl) refl c.why
  ])

  module _ (few : vec_len x.drafts < 63) where
    pub open_deep : (f : Fault) → TooDeep site.limits w f → PhraseStopped (statement ∷ []) site (w ∷ ws) x f
    open_deep f c = phrase_stops f _ (w ∷ ws) c.cause_is c.place_is (elim e [
      | inl h ↦ part_deep w ws If h other (λ q. refl) refl few c.none_left
      | inr h ↦ part_deep w ws While h end_while (λ q. refl) refl few c.none_left
    ])

    pub open_stopped : {inner : Limits} → Deeper site.limits inner → (f : Fault) → Stopped (guard ∷ []) inner.scope inner.left inner.end x.expressions.counted ws f → PhraseStopped (statement ∷ []) site (w ∷ ws) x f
    open_stopped {inner} d f s =
        let g : ExpressionStops x.expressions.counted site.limits.scope inner.left (guard ∷ []) ws f.cause s.words = subst (λ v. ExpressionStops x.expressions.counted v inner.left (guard ∷ []) ws f.cause s.words) d.scope s.stops in
        phrase_stops f _ s.words refl (s.place_is ∙ ap (λ k. place_of k s.words) d.end) (elim e [
          | inl h ↦ part_guard w ws If h other (λ q. refl) refl few d.left _ s.words g
          | inr h ↦ part_guard w ws While h end_while (λ q. refl) refl few d.left _ s.words g
        ])
