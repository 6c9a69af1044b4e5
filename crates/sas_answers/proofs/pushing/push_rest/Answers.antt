use Rattle.sas_answers.proofs.pushing.push_rest.Goals as goal

pub returns-in-CouldBe : goal.returns-in-CouldBe
returns-in-CouldBe g c = rw c.in-CouldBe.is c.push_words-in-CouldBe.ensures
