use Rattle.sas_lines.proofs.Imports.{arith, ◌≡◌, ◌<◌, ◌≤◌, ◌^◌, ◌/◌, ℕ, List, length, take, Option, Some, None, decimal, IfNone}
use Rattle.sas_lines.proofs.Digits.{is_short, is_below, same_value, in_two}
use Rattle.sas_lines.proofs.spelling.cost.Goals as goal

short : (line : List ℕ) (r : Option ℕ) → length line ≤ 19 → IfNone r ((n : ℕ) → n < 10 ^ 19 → line ≡ decimal n → ⊥) → IfNone r ((n : ℕ) → n < 2 ^ 64 → line ≡ decimal n → ⊥)
short line None l h = λ n s e. h n (is_below line n 19 s e l) e
short line (Some v) l h = tt

if_none : (r : Option ℕ) {P : Type 0} → P → IfNone r P
if_none None p = p
if_none (Some v) p = tt

pub returns-then-line-lt20-clause-none : goal.returns-then-line-lt20-clause-none
returns-then-line-lt20-clause-none c = short c.args.line.now c.short_number.result (omega arith) c.short_number.ensures.none

pub returns-then-line-gt20-clause-none : goal.returns-then-line-gt20-clause-none
returns-then-line-gt20-clause-none c = λ n h e. omega (arith, is_short c.args.line.now n 20 (omega arith) (omega arith) h e)

pub returns-in_err-tenth-clause-none : goal.returns-in_err-tenth-clause-none
returns-in_err-tenth-clause-none c = if_none c.from_residual.result (λ n h e.
    let two = in_two c.args.line.now n h e (omega arith) in
    c.in_err-tenth.ensures.none (n / 10) (omega arith) two.front)

pub returns-then-value-clause-none : goal.returns-then-value-clause-none
returns-then-value-clause-none c = λ n h e.
    let two = in_two c.args.line.now n h e (omega arith) in
    let found = c.in_ok-tenth.ensures.found in
    let same = same_value (take 19 c.args.line.now) c.in_ok-tenth.tenth (n / 10) (omega (arith, found.0)) (omega arith) found.1 two.front in
    omega (arith, two.last, same)
