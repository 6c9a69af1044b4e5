-- Numbers by their digits.
use Rattle.sas_task_file.proofs.Imports.{◌≡◌, ℕ, ◌+◌, ◌*◌, ◌/◌, ◌%◌, ◌-◌, ◌<◌, ◌≤◌, [], ◌∷◌, ◌++◌, ap, ◌∙◌, arith, decimal, decimal_digit, decimal_step}

-- a number of one digit
pub digit_is : (d : ℕ) → 48 ≤ d → d ≤ 57 → decimal (d - 48) ≡ d ∷ []
digit_is d low high =
    let same : 48 + (d - 48) ≡ d = omega arith in
    decimal_digit (d - 48) (omega arith) ∙ ap (λ (x : ℕ). x ∷ []) same

-- a number with one more digit
pub digit_more : (n d : ℕ) → 0 < n → n < 1000000000 → 48 ≤ d → d ≤ 57 → decimal (n * 10 + (d - 48)) ≡ decimal n ++ d ∷ []
digit_more n d some few low high =
    let m = n * 10 + (d - 48) in
    let tens : m / 10 ≡ n = omega arith in
    let unit : 48 + m % 10 ≡ d = omega arith in
    decimal_step m (omega arith) (omega arith) ∙ ap (λ (x : ℕ). decimal x ++ (48 + m % 10) ∷ []) tens ∙ ap (λ (x : ℕ). decimal n ++ x ∷ []) unit
