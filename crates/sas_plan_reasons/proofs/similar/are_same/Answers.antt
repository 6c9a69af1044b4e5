-- The words are the same if they are so at each place.
use Rattle.std.proofs.Common.{◌≡◌, true, get_or, arith, ◌∙◌, sym, subst, inl, inr}
use Rattle.std.proofs.lemmas.Bool.{false≢true, cases_eq}
use Rattle.sas_plan_reasons.proofs.BorrowedWords.{same_values, same_at, same_many, ne_is, eq_is, same_there}
use Rattle.sas_plan_reasons.proofs.similar.are_same.Goals as goal

pub returns-then-words-others : goal.returns-then-words-others
returns-then-words-others c = (λ t. absurd (false≢true t), λ e. absurd (c.if-words-others.true (same_many c.args.words.now c.args.others.now e)))

pub returns-then-ne : goal.returns-then-ne
returns-then-ne c = (λ t. absurd (false≢true t), λ e. absurd (ne_is _ _ (sym c.ne.ensures ∙ c.if-ne.true) (same_at c.args.words.now c.args.others.now c.if-words-others.false e c.loop-place.place _ c.loop-place-test.true)))

pub loop-place-preserved : goal.loop-place-preserved
loop-place-preserved c k d lt = elim (cases_eq k c.loop-place.place) [
  | inl e ↦ subst (λ n. (get_or c.args.words.now n d).now ≡ (get_or c.args.others.now n d).now) (sym e)
      (same_there c.args.words.now c.args.others.now c.loop-place.place _ _ d c.if-words-others.false c.loop-place-test.true (eq_is _ _ (sym c.ne.ensures ∙ c.if-ne.false)))
  | inr ne ↦ c.loop-place.invariant k d (omega (arith, lt, ne))
]

pub returns : goal.returns
returns c = (λ t. same_values c.args.words.now c.args.others.now c.if-words-others.false (λ k d lt. c.loop-place.invariant k d (omega (arith, lt, c.loop-place-test.false))), λ e i. true)
