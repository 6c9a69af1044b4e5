-- Names with the same words in order of bytes have the same words in some order, and the same sum.
use Rattle.std.proofs.Common.{List, ℕ, ◌≡◌, ap, sym, ◌∙◌, subst}
use Rattle.std.proofs.lemmas.Bool.{false≢true}
use Rattle.sas_plan_reasons.specs.Words.{parts, words}
use Rattle.sas_plan_reasons.specs.Similar.{AreSorted}
use Rattle.sas_plan_reasons.proofs.BorrowedWords.{values}
use Rattle.sas_plan_reasons.proofs.PermutedWords.{permuted_from, not_permuted, same_sum}
use Rattle.sas_plan_reasons.proofs.similar.Sought.likeness.Goals as goal

pub returns-then-sum_of_words-self : goal.returns-then-sum_of_words-self
returns-then-sum_of_words-self c = λ is. c.if-sum_of_words-self.true (c.sum_of_words.ensures ∙ (sym (same_sum _ _ is) ∙ sym c.requires.sum))

pub returns-then-are_same-2 : goal.returns-then-are_same-2
returns-then-are_same-2 c =
    let words_are : values c.in_ok-words.words.items ≡ words c.args.name.now = c.in_ok-words.ensures ∙ ap parts (c.as_slice.ensures.value ∙ c.in_ok-text.ensures.ok) in
    let its : AreSorted (words c.args.name.now) (values c.in_ok-sorted.sorted.items) = subst (λ (t : List ℕ). AreSorted (parts t) (values c.in_ok-sorted.sorted.items)) (c.as_slice-4.ensures.value ∙ c.in_ok-text.ensures.ok) c.in_ok-sorted.ensures in
    let same = c.are_same-2.ensures.0 c.if-are_same-2.true in
    let other : words c.args.name.now ≡ values c.args.self.now.words.items → ⊥ = λ e. false≢true (sym c.if-are_same.false ∙ c.are_same.ensures.1 (ap values c.as_slice-2.ensures.value ∙ (words_are ∙ (e ∙ ap values (sym c.as_slice-3.ensures.value))))) in
    (permuted_from _ _ _ _ c.requires.sorted its (sym (rw (c.as_slice-5.ensures.value, c.as_slice-6.ensures.value) at same)), other)

pub returns : goal.returns
returns c =
    let its : AreSorted (words c.args.name.now) (values c.in_ok-sorted.sorted.items) = subst (λ (t : List ℕ). AreSorted (parts t) (values c.in_ok-sorted.sorted.items)) (c.as_slice-4.ensures.value ∙ c.in_ok-text.ensures.ok) c.in_ok-sorted.ensures in
    not_permuted _ _ _ _ c.requires.sorted its
    (λ e. false≢true (sym c.if-are_same-2.false ∙ c.are_same-2.ensures.1 (ap values c.as_slice-5.ensures.value ∙ (sym e ∙ ap values (sym c.as_slice-6.ensures.value)))))
