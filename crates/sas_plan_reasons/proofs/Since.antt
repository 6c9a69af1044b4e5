-- In a run each variable has exactly one last change.
use Rattle.std.proofs.Common.{rules}
use Rattle.std.proofs.lemmas.Grind.{common_steps}
use Rattle.sas_plan_reasons.proofs.Imports.{◌≡◌, ◌≢◌, ℕ, zero, suc, ◌+◌, ◌-◌, ◌<◌, ◌≤◌, length, refl, sym, ◌∙◌, ap, subst, inl, inr, arith, cases_eq, Run, value_at, IsSince}

module _ (run : Run) (var : ℕ) where
  -- the last change among the states up to the one with number n
  record IsSinceUpTo (n since : ℕ) : Type 0 where
    within : since ≤ n
    changed : (before : ℕ) → since ≡ before + 1 → value_at run before var ≢ value_at run since var
    unchanged : (later : ℕ) → since ≤ later → later + 1 ≤ n → value_at run later var ≡ value_at run (later + 1) var

  since_up_to : (n : ℕ) → (since : ℕ) × IsSinceUpTo n since
  since_up_to zero = grind (arith, common_steps)
  since_up_to (suc n) = elim (cases_eq (value_at run n var) (value_at run (n + 1) var)) [
    | inl same ↦ kept same (since_up_to n)
    | inr other ↦ (
      n + 1,
      record {
        within = omega arith;
        changed = λ before e same. other (subst (λ k. value_at run k var ≡ value_at run (n + 1) var) (let f : before ≡ n = omega arith in f) same);
        unchanged = λ later from upto. absurd (omega arith);
      },
    )
  ]
    where
      kept : value_at run n var ≡ value_at run (n + 1) var → (since : ℕ) × IsSinceUpTo n since → (since : ℕ) × IsSinceUpTo (suc n) since
      kept same w = (
        w.0,
        record {
          within = (let le = w.1.within in omega arith);
          changed = w.1.changed;
          unchanged = λ later from upto. elim (cases_eq later n) [
            | inl e ↦ subst (λ k. value_at run k var ≡ value_at run (k + 1) var) (sym e) same
            | inr ne ↦ w.1.unchanged later from (omega arith)
          ];
        },
      )

  -- from a last change on the value is the same
  same_from : (since : ℕ) → IsSince run var since → (more : ℕ) → since + more < length run.states → value_at run (since + more) var ≡ value_at run since var
  same_from since is zero lt = ap (λ k. value_at run k var) (let e : since + zero ≡ since = omega arith in e)
  same_from since is (suc more) lt = search (rules, arith, same_from since is more)

  -- so no later number is a last change
  none_later : (a b : ℕ) → IsSince run var a → IsSince run var b → a < b → ⊥
  none_later a zero x y lt = omega arith
  none_later a (suc b) x y lt = y.changed b (omega arith)
      (let u = x.unchanged b (omega arith) (let e = y.exists in omega arith) in u ∙ ap (λ k. value_at run k var) (let e : b + 1 ≡ suc b = omega arith in e))

pub some_since : (run : Run) (var : ℕ) → 0 < length run.states → (since : ℕ) × IsSince run var since
some_since run var some = from (length run.states) refl
  where
    from : (n : ℕ) → n ≡ length run.states → (since : ℕ) × IsSince run var since
    from zero e = absurd (omega arith)
    from (suc n) e = let w = since_up_to run var n in (
      w.0,
      record {
        exists = (let le = w.1.within in omega arith);
        changed = w.1.changed;
        unchanged = λ later from upto. w.1.unchanged later from (omega arith);
      },
    )

pub one_since : (run : Run) (var a b : ℕ) → IsSince run var a → IsSince run var b → a ≡ b
one_since run var a b x y = omega (arith, none_later run var a b x y, none_later run var b a y x)

pub same_since : (run : Run) (var since : ℕ) → IsSince run var since → (later : ℕ) → since ≤ later → later < length run.states
    → value_at run later var ≡ value_at run since var
same_since run var since is later from upto =
    ap (λ k. value_at run k var) (let e : later ≡ since + (later - since) = omega arith in e)
    ∙ same_from run var since is (later - since) (omega arith)
