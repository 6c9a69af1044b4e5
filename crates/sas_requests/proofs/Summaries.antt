-- The text of a summary, line by line.
use Rattle.std.proofs.lemmas.Grind.{common_steps}
use Rattle.sas_requests.proofs.Imports.{arith, ◌≡◌, ℕ, ◌≤◌, List, [], ◌∷◌, ◌++◌, length, take, codes, sym, ap, ◌∙◌, flat_map, flat_map-map, take_all, Fact, Variable, text, Outline, text_of_both, fact_line, initial_lines, number_lines, goal_fact_lines, summary_lines}

-- the summary, part by part
pub summary_is : (o : Outline) (numbers : List ℕ) → numbers ≡ text (number_lines o) → numbers ++ text (initial_lines o.variables o.init) ++ text (goal_fact_lines o.variables o.goal) ≡ text (summary_lines o)
summary_is o numbers is = grind (arith, common_steps, text, initial_lines, goal_fact_lines, text_of_both, number_lines)

module _ (variables : List Variable) where
  -- the line of a fact of the goal, and its end
  abbrev pub goal_text : Fact → List ℕ
  goal_text f = fact_line (codes "goal") variables f.var f.value ++ 10 ∷ []

  pub goal_is : (facts : List Fact) → text (goal_fact_lines variables facts) ≡ flat_map goal_text facts
  goal_is facts = flat_map-map (λ (line : List ℕ). line ++ 10 ∷ []) (λ (f : Fact). fact_line (codes "goal") variables f.var f.value) facts

  -- all facts, so that the text is whole
  pub goal_all : (facts : List Fact) (n : ℕ) → length facts ≤ n → flat_map goal_text (take n facts) ≡ text (goal_fact_lines variables facts)
  goal_all facts n h = ap (flat_map goal_text) (take_all n facts h) ∙ sym (goal_is facts)
