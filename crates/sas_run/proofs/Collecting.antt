-- The operators of a chain, from its first one on.
use Rattle.sas_run.proofs.Imports.{◌≡◌, ◌≢◌, ◌⊎◌, ℕ, ◌+◌, ◌<◌, List, [], ◌∷◌, ◌++◌, length, Option, None, Some, IfSome, inl, inr, refl, sym, subst, arith, none-some, cases_eq, same_Some, unwrap_or, Vec, All-push, All-weaker, Contains-push, Contains-append_left, Parts, nat_cmp, operator_at, IsNextNamed, LongChain, Requires, operators_with, IsPushed, IsIn, ArePart, IsLongChain}
use Rattle.std.proofs.lemmas.Bool.{cases_order}
use Rattle.std.proofs.lemmas.List.Quantifiers.{all_pairs_push}
use Rattle.std.specs.BTreeMap.{is_at}
use Rattle.std.specs.Option.{option_cmp}
use Rattle.std.specs.Prelude.{Contains, false}
use Rattle.sas_run.specs.LongChains.{items_of}

-- whether two optional values are the same
same_or_not : (v w : Option ℕ) → (v ≡ w) ⊎ (v ≢ w)
same_or_not h1 h2 = grind (arith, none-some, cases_eq, same_Some)

-- the map tells different values apart
pub apart_from : (value other : Option ℕ) → other ≢ value → is_at (option_cmp nat_cmp value) other ≡ false
apart_from value other apart = grind arith

-- a list that isn't there is empty
pub items_or_none : (o : Option (Vec ℕ)) (none : Vec ℕ) → none.items ≡ [] → (unwrap_or o none).items ≡ items_of o
items_or_none None none empty = empty
items_or_none (Some operators) none empty = refl

module _ (p : Parts) (first operator : ℕ) (next : Option ℕ) (in_chain : IsIn p first None operator) (is_next : IsNextNamed p (operator_at p first).name (operator + 1) next) where
  pub next_in_chain : IfSome next (IsIn p first None)
  next_in_chain = grind arith

  stays : (o : ℕ) → IsIn p first (Some operator) o → IsIn p first next o
  stays o h = grind arith

  itself : IsIn p first next operator
  itself = grind arith

  -- it is the operator, or was in the chain before
  was : (o : ℕ) → IsIn p first next o → (o ≡ operator) ⊎ IsIn p first (Some operator) o
  was o h = grind (arith, cases_order)

  kept : (operators : List ℕ) → ArePart p first (Some operator) operators → ArePart p first next operators
  kept operators are = record { in_chain = All-weaker (IsIn p first (Some operator)) (IsIn p first next) stays operators are.in_chain; ascend = are.ascend }

  pushed : (operators : List ℕ) → ArePart p first (Some operator) operators → ArePart p first next (operators ++ operator ∷ [])
  pushed operators are = record {
    in_chain = All-push (IsIn p first next) operators operator (kept operators are).in_chain itself;
    ascend = all_pairs_push (λ low high. low < high) operators operator are.ascend (λ k d lt. (are.in_chain k d lt).2);
  }

  pub one_more : (chain new : LongChain) (value : Option ℕ) → IsLongChain p first chain (Some operator) → IsPushed chain value operator new → Requires (operator_at p operator) chain.var value
      → IsLongChain p first new next
  one_more chain new value are is requires = record {
    var = subst (λ v. v < length p.variables) (sym is.var) are.var;
    parts = λ other. elim (same_or_not other value) [
      | inl same ↦ subst (λ v. ArePart p first next (operators_with new v)) (sym same) (subst (ArePart p first next) (sym is.here) (pushed (operators_with chain value) (are.parts value)))
      | inr apart ↦ subst (ArePart p first next) (sym (is.others other apart)) (kept (operators_with chain other) (are.parts other))
    ];
    all = λ o h. elim (was o h) [
      | inl same ↦ (
        value,
        subst (λ k. Contains (operators_with new value) k) (sym same) (subst (λ l. Contains l operator) (sym is.here) (Contains-push (operators_with chain value) operator)),
        subst (λ v. Requires (operator_at p o) v value) (sym is.var) (subst (λ k. Requires (operator_at p k) chain.var value) (sym same) requires),
      )
      | inr before ↦
          let (its, there, requires) = are.all o before in (
            its,
            elim (same_or_not its value) [
              | inl same ↦ subst (λ v. Contains (operators_with new v) o) (sym same) (subst (λ l. Contains l o) (sym is.here) (Contains-append_left (operators_with chain value) (operator ∷ []) o (subst (λ v. Contains (operators_with chain v) o) same there)))
              | inr apart ↦ subst (λ l. Contains l o) (sym (is.others its apart)) there
            ],
            subst (λ v. Requires (operator_at p o) v its) (sym is.var) requires,
          )
    ];
  }
