-- How a run over files ends.
use Rattle.std.proofs.Common.{◌≡◌, ◌<◌, ℕ, List, Bool, true, false, true≢false, Option, Some, None, Result, Ok, Err, IfOk, is_some, refl, sym, ap, subst, arith}
use Rattle.sas_answers.specs.declared.ending.Status.{Status}
use Rattle.sas_answers.specs.declared.ending.Status.TheVariants.{Yes, No}
use Rattle.sas_answers.specs.declared.ending.ToolFault.{ToolFault}
use Rattle.sas_requests.specs.Headline.{Headline}
use Rattle.sas_tool.specs.Files.{Opens}
use Rattle.sas_tool.specs.Held.{Held, absent, holds}
use Rattle.sas_tool.specs.Says.{Says}
use Rattle.sas_tool.specs.Statuses.{exit_status}

pub never : {F : Type 0} (left : F → Option (List ℕ)) (h : Held) (f : F) → Opens left h (Some f) → h ≡ absent → ⊥
never left h f opens is = true≢false (ap is_some (subst (λ k. Opens left k (Some f)) is opens))

pub left_is : {F : Type 0} (left : F → Option (List ℕ)) (h : Held) (f : F) (b : List ℕ) → Opens left h (Some f) → h ≡ holds b → left f ≡ Some b
left_is left h f b opens is = subst (λ k. Opens left k (Some f)) is opens

pub not_held : {F : Type 0} (left : F → Option (List ℕ)) (h : Held) (b : List ℕ) → Opens left h None → h ≡ holds b → ⊥
not_held left h b opens is = subst (λ k. Opens left k None) is opens

abbrev is_yes : Status → Bool
is_yes Yes = true
is_yes No = false

-- a status above 1 says nothing
pub none_said : (P : Type 0) (status : ℕ) → 1 < status → status < 2 → P
none_said P status more less = absurd (omega (arith, more, less))

pub says_none : (b c : List ℕ) (Sent : List ℕ → Type 0) (status : ℕ) → 1 < status → Says b c Sent status
says_none b c Sent status more = record {
  yes = λ e. absurd (omega (arith, e, more));
  no = λ e. absurd (omega (arith, e, more));
  line = λ e. absurd (omega (arith, e, more));
}

pub says_of : (b c : List ℕ) (Sent : List ℕ → Type 0) (result : Result Status ToolFault) → IfOk result (Headline b c Sent) → Says b c Sent (exit_status result)
says_of b c Sent (Ok Yes) h =
    let solves = h.yes.0 refl in
    record {
      yes = λ e. (solves.0, solves.1, (h.line solves.0 solves.1).1 solves.2, solves.2);
      no = λ e. absurd (omega (arith, e));
      line = λ e. h.line;
    }
says_of b c Sent (Ok No) h = record {
  yes = λ e. absurd (omega (arith, e));
  no = λ e steps cost solves. true≢false (sym (ap is_yes (h.yes.1 (steps, cost, solves))));
  line = λ e. h.line;
}
says_of b c Sent (Err fault) h = says_none b c Sent 3 (omega arith)

-- of groups
pub invariants_said : (P : Type 0) (result : Result Status ToolFault) → IfOk result (λ status. P) → exit_status result < 2 → P
invariants_said P (Ok Yes) h less = h
invariants_said P (Ok No) h less = h
invariants_said P (Err fault) h less = none_said P 3 (omega arith) less
