-- What is stored for an outline, after a line and after a variable.
use Rattle.sas_task_reader.proofs.Imports.{◌≡◌, ◌-◌, ◌^◌, ℕ, List, length, refl, ap, ◌∙◌, arith, min, IsNumber, WellRanged, outline_of, Event, LineValues, SoFar, after, behind_variable, OutlineSoFar, outline_in, kept_of, Option, Some, None, Result, Ok, Err, Kind, ParsedSection, AddsSection, KeepsSection}
use Rattle.sas_task_reader.specs.declared.task_judge.sections.Section.TheVariants as sections
use Rattle.sas_task_file.specs.declared.places.Event.TheVariants as event

-- a line that is not of a group, an operator or a rule changes only the rest
pub record IsOfRest (e : Event) : Type 0 where
  pub facts : e ≡ event.Facts → ⊥
  pub fact : e ≡ event.Fact → ⊥
  pub group : e ≡ event.Group → ⊥
  pub effects : e ≡ event.Effects → ⊥
  pub effect : e ≡ event.Effect → ⊥
  pub operator : e ≡ event.Operator → ⊥
  pub rule : e ≡ event.Rule → ⊥

rest_after : (s : SoFar) (e : Event) (said : LineValues) (line : List ℕ) → IsOfRest e → record (kept_of s) { rest = after (kept_of s).rest e said line } ≡ kept_of (after s e said line)
rest_after s event.Nothing said line of = refl
rest_after s event.Metric said line of = refl
rest_after s event.Name said line of = refl
rest_after s event.Layer said line of = refl
rest_after s event.Values said line of = refl
rest_after s event.Value said line of = refl
rest_after s event.Variable said line of = refl
rest_after s event.Facts said line of = absurd (of.facts refl)
rest_after s event.Fact said line of = absurd (of.fact refl)
rest_after s event.Group said line of = absurd (of.group refl)
rest_after s event.State said line of = refl
rest_after s event.Goal said line of = refl
rest_after s event.Effects said line of = absurd (of.effects refl)
rest_after s event.Effect said line of = absurd (of.effect refl)
rest_after s event.Operator said line of = absurd (of.operator refl)
rest_after s event.Rule said line of = absurd (of.rule refl)

-- what is stored if only the rest changes
module _ (kept : OutlineSoFar) (new s : SoFar) (is : kept ≡ kept_of s) where
  abbrev rest_changed : (t : SoFar) → new ≡ t → record kept { rest = new } ≡ record (kept_of s) { rest = t }
  rest_changed t then = ap (λ (r : SoFar). record kept { rest = r }) then ∙ ap (λ (k : OutlineSoFar). record k { rest = t }) is

  pub seen_after : (e : Event) (said : LineValues) (line : List ℕ) → IsOfRest e → new ≡ after (kept_of s).rest e said line → record kept { rest = new } ≡ kept_of (after s e said line)
  seen_after e said line of then = rest_changed (after (kept_of s).rest e said line) then ∙ rest_after s e said line of

-- a variable is stored in the rest
pub seen_variable : (kept old : OutlineSoFar) (new : SoFar) (ranges bytes : List ℕ) (r : Result (Option ParsedSection) Kind) → kept ≡ old → AddsSection sections.Variable ranges bytes kept.rest new r
    → KeepsSection (λ lines s seen. seen ≡ kept_of s) sections.Variable ranges bytes old (record kept { rest = new }) r
seen_variable kept old new ranges bytes (Ok (Some parsed)) view h =
    let (v, ahead, keeps) = h.took in
    record {
      took = (
        v,
        ahead,
        λ lines s is.
            let seen = view ∙ is in
            rest_changed kept new s seen (behind_variable (kept_of s).rest v) (keeps lines (kept_of s).rest (ap (λ (k : OutlineSoFar). k.rest) seen)),
      );
      none = tt;
      memory = tt;
    }
seen_variable kept old new ranges bytes (Ok None) view h = record { took = tt; none = ap (λ (r : SoFar). record kept { rest = r }) h.none ∙ view; memory = tt }
seen_variable kept old new ranges bytes (Err k) view h = record { took = tt; none = tt; memory = h.memory }

-- a count below the bound is exact
counted_number : (n : ℕ) → IsNumber n → min n (2 ^ 32 - 1) ≡ n
counted_number n h = omega (arith, h)

-- the stored outline of a well ranged task is its outline
pub outline_is : (s : SoFar) → WellRanged s.parts → outline_in (kept_of s) ≡ outline_of s.parts
outline_is s w =
    ap (λ (n : ℕ). record (outline_in (kept_of s)) { groups = n }) (counted_number (length s.parts.groups) w.groups.count)
    ∙ ap (λ (n : ℕ). record (outline_in (kept_of s)) { groups = length s.parts.groups; operators = n }) (counted_number (length s.parts.operators) w.operators.count)
    ∙ ap (λ (n : ℕ). record (outline_of s.parts) { rules = n }) (counted_number (length s.parts.rules) w.rules.count)
