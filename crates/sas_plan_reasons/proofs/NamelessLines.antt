-- The steps that name no operator, and what is reported of them.
use Rattle.std.proofs.lemmas.Grind.{common_steps}
use Rattle.std.proofs.lemmas.List.{take-append-le}
use Rattle.std.specs.Prelude.{nat_lt}
use Rattle.sas_plan_reasons.proofs.Imports.{◌==◌, ◌&&◌, ◌≡◌, ℕ, suc, ◌+◌, ◌<◌, ◌≤◌, Bool, true, false, not, is_some, if◌then◌else◌, List, [], ◌∷◌, ◌++◌, length, take, flat_map, get_or, Option, Some, None, refl, sym, ◌∙◌, ap, subst, inl, inr, arith, option_map_or, AllByRecursion, Contains, list_any_at, list_any_none, cases_Bool, length-take, length-append, append_assoc, take_all, get_or-take, Parts, PlanParts, step_at, is_nameless, nameless_steps, bytes_eq, bytes_eq-Decides, get_or_default, Operator, operator_at, existing, IsNextNamed, AreFirsts, places, places_from, places_to, place_is, Line, ExplainsOnce, similar_operator, NamelessSteps, AreNameless, first_nameless, nameless_step_lines, nameless_lines, some_similar}
use Rattle.sas_answers.specs.declared.line.Line.TheVariants as line
use Rattle.sas_plan_reasons.proofs.Once.{IsPlain, plain_lines}
use Rattle.sas_plan_reasons.proofs.Faulty.{place_more, place_not}

-- ---- the first of them

-- no operator has the name exactly if there is no lowest one
nameless_is : (p : Parts) (name : List ℕ) (first : Option ℕ) → IsNextNamed p name 0 first → not (is_some first) ≡ is_nameless p name
nameless_is p name None none = sym (ap not (list_any_none (λ (o : Operator). bytes_eq o.name name) p.operators (λ i d lt. elim (cases_Bool (bytes_eq (get_or p.operators i d).name name)) [
  | inl is ↦ absurd (none i (omega arith) (record { exists = lt; named = ap (λ (o : Operator). o.name) (get_or_default p.operators i _ d lt) ∙ (bytes_eq-Decides (get_or p.operators i d).name name).0 is }))
  | inr not_is ↦ not_is
])))
nameless_is p name (Some first) low = sym (ap not (list_any_at (λ (o : Operator). bytes_eq o.name name) p.operators first _ low.of_name.exists
    ((bytes_eq-Decides (operator_at p first).name name).1 low.of_name.named)))

abbrev pub is_none_at : Parts → ℕ → Bool
is_none_at p first = not (is_some (existing p first))

same_places : {A B : Type 0} (place : ℕ) (f : A → Bool) (g : B → Bool) (xs : List A) (ys : List B) (a : A) (b : B) → length xs ≡ length ys
    → ((i : ℕ) → i < length xs → f (get_or xs i a) ≡ g (get_or ys i b)) → places_from place f xs ≡ places_from place g ys
same_places place f g [] [] a b same each = refl
same_places place f g [] (y ∷ ys) a b same each = absurd (omega (arith, same))
same_places place f g (x ∷ xs) [] a b same each = absurd (omega (arith, same))
same_places place f g (x ∷ xs) (y ∷ ys) a b same each =
    ap (λ t. if t then place ∷ places_from (place + 1) f xs else places_from (place + 1) f xs) (each 0 (omega arith))
    ∙ ap (λ (l : List ℕ). if g y then place ∷ l else l) (same_places (place + 1) f g xs ys a b (omega (arith, same)) (λ i lt. each (suc i) (omega (arith, lt))))

pub nameless_places : (p : Parts) (steps : List (List ℕ)) (firsts : List ℕ) → AreFirsts p steps firsts → places (is_none_at p) firsts ≡ places (is_nameless p) steps
nameless_places p steps firsts are = same_places 0 (is_none_at p) (is_nameless p) firsts steps 0 [] are.one_each
    (λ i lt. nameless_is p (get_or steps i []) (existing p (get_or firsts i 0)) (are.each i (omega (arith, are.one_each))))

-- one more item of a list of which the first n are taken
pub take_more_if : (n : ℕ) (l : List ℕ) (x : ℕ) → length (take n l) < n → take n (l ++ x ∷ []) ≡ take n l ++ x ∷ []
take_more_if n l x few = grind (arith, common_steps, length-take, take_all, length-append)

pub take_no_more : (n : ℕ) (l : List ℕ) (x : ℕ) → n ≤ length (take n l) → take n (l ++ x ∷ []) ≡ take n l
take_no_more n l x many = take-append-le n l (x ∷ []) (omega (arith, many, length-take n l))

-- an item among the first ones is among all
in_front : (n : ℕ) (l : List ℕ) (x : ℕ) → Contains (take n l) x → Contains l x
in_front n l x (i, lt, is) = (i, omega (arith, lt, length-take n l), sym (get_or-take n l i x (omega (arith, lt, length-take n l))) ∙ is)

pub nameless_within : (p : Parts) (steps : List (List ℕ)) (k : ℕ) → Contains (first_nameless p steps) k → k < length steps
nameless_within p steps k among = let w = place_is (is_nameless p) 0 steps k (in_front 5 (places (is_nameless p) steps) k among) in omega (arith, w.within, w.is)

module _ (p : Parts) (firsts first : List ℕ) (k : ℕ) (lt : k < length firsts) (so_far : first ≡ take 5 (places_to (is_none_at p) k firsts)) where
  pub noted_one_more : length first < 5 → is_none_at p (get_or firsts k 0) ≡ true → first ++ k ∷ [] ≡ take 5 (places_to (is_none_at p) (k + 1) firsts)
  noted_one_more few is = ap (λ (l : List ℕ). l ++ k ∷ []) so_far
      ∙ (sym (take_more_if 5 (places_to (is_none_at p) k firsts) k (omega (arith, few, ap (λ (l : List ℕ). length l) so_far)))
      ∙ ap (λ (l : List ℕ). take 5 l) (sym (place_more (is_none_at p) k firsts 0 lt is)))

  pub noted_no_more : is_none_at p (get_or firsts k 0) ≡ false → first ≡ take 5 (places_to (is_none_at p) (k + 1) firsts)
  noted_no_more is = so_far ∙ ap (λ (l : List ℕ). take 5 l) (sym (place_not (is_none_at p) k firsts 0 lt is))

  pub noted_enough : 5 ≤ length first → first ≡ take 5 (places_to (is_none_at p) (k + 1) firsts)
  noted_enough many = elim (cases_Bool (is_none_at p (get_or firsts k 0))) [
    | inl t ↦ so_far ∙ (sym (take_no_more 5 (places_to (is_none_at p) k firsts) k (omega (arith, many, ap (λ (l : List ℕ). length l) so_far)))
        ∙ ap (λ (l : List ℕ). take 5 l) (sym (place_more (is_none_at p) k firsts 0 lt t)))
    | inr f ↦ noted_no_more f
  ]

-- ---- what is reported of them

step_plain : (p : Parts) (plan : PlanParts) (before : ℕ) (behind : List Line) → AllByRecursion IsPlain behind → AllByRecursion IsPlain (nameless_step_lines p plan before ++ behind)
step_plain p plan before behind plain = of (similar_operator p (step_at plan before))
  where
    of : (similar : Option ℕ) → AllByRecursion IsPlain (line.Step (before + 1) ∷ option_map_or (λ operator. line.SimilarOperator operator ∷ []) similar [] ++ behind)
    of None = (refl, plain)
    of (Some operator) = (refl, (refl, plain))

steps_plain : (p : Parts) (plan : PlanParts) (first : List ℕ) (behind : List Line) → AllByRecursion IsPlain behind
    → AllByRecursion IsPlain (flat_map (nameless_step_lines p plan) first ++ behind)
steps_plain p plan [] behind plain = plain
steps_plain p plan (before ∷ first) behind plain =
    subst (λ (l : List Line). AllByRecursion IsPlain l) (sym (append_assoc (nameless_step_lines p plan before) (flat_map (nameless_step_lines p plan) first) behind))
    (step_plain p plan before (flat_map (nameless_step_lines p plan) first ++ behind) (steps_plain p plan first behind plain))

hint_plain : (given : Bool) → AllByRecursion IsPlain (if given then line.OtherTaskHint ∷ [] else [])
hint_plain true = (refl, _)
hint_plain false = _

pub nameless_reported : (p : Parts) (plan : PlanParts) (lines : List Line) → lines ≡ nameless_lines p plan → ExplainsOnce lines (λ its. its ≡ nameless_lines p plan)
nameless_reported p plan lines are =
    (nameless_lines p plan, refl, are ∙ sym (plain_lines [] (nameless_lines p plan) (steps_plain p plan (first_nameless p plan.steps) _ (refl, hint_plain _))))

-- all of them, and whether the plan may be of another task
pub all_reported : (p : Parts) (plan : PlanParts) (nameless : NamelessSteps) (similar hint : Bool) (steps : ℕ) (lines : List Line) → AreNameless p plan.steps nameless → steps ≡ length plan.steps
    → similar ≡ some_similar p plan nameless.first.items → hint ≡ (nat_lt 1 steps && ((nameless.count == steps) && not similar))
    → lines ≡ (flat_map (nameless_step_lines p plan) nameless.first.items ++ line.NamelessSteps nameless.count steps ∷ []) ++ (if hint then line.OtherTaskHint ∷ [] else [])
    → ExplainsOnce lines (λ its. its ≡ nameless_lines p plan)
all_reported p plan nameless similar hint steps lines are many is_similar is_hint is = nameless_reported p plan lines
    (is ∙ (append_assoc (flat_map (nameless_step_lines p plan) nameless.first.items) (line.NamelessSteps nameless.count steps ∷ []) (if hint then line.OtherTaskHint ∷ [] else [])
    ∙ (ap (λ h. flat_map (nameless_step_lines p plan) nameless.first.items ++ line.NamelessSteps nameless.count steps ∷ (if h then line.OtherTaskHint ∷ [] else []))
    (is_hint ∙ ap (λ s. nat_lt 1 steps && ((nameless.count == steps) && not s)) is_similar)
    ∙ (ap (λ (l : List ℕ). flat_map (nameless_step_lines p plan) l ++ line.NamelessSteps nameless.count steps ∷ (if nat_lt 1 steps && ((nameless.count == steps) && not (some_similar p plan l)) then line.OtherTaskHint ∷ [] else [])) are.first
    ∙ (ap (λ n. flat_map (nameless_step_lines p plan) (first_nameless p plan.steps) ++ line.NamelessSteps n steps ∷ (if nat_lt 1 steps && ((n == steps) && not (some_similar p plan (first_nameless p plan.steps))) then line.OtherTaskHint ∷ [] else [])) are.count
    ∙ ap (λ n. flat_map (nameless_step_lines p plan) (first_nameless p plan.steps) ++ line.NamelessSteps (nameless_steps p plan.steps) n ∷ (if nat_lt 1 n && ((nameless_steps p plan.steps == n) && not (some_similar p plan (first_nameless p plan.steps))) then line.OtherTaskHint ∷ [] else [])) many)))))
