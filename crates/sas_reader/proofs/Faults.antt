-- Bytes that aren't live have a fault, and so reading any bytes has a result.
use Rattle.sas_reader.proofs.Imports.{◌≡◌, ℕ, ◌+◌, ◌≤◌, ◌≢◌, Bool, List, [], ◌∷◌, ◌++◌, length, refl, sym, subst, ◌∙◌, append_assoc, arith, ◌⊎◌, inl, inr, length-append, Ok, Err, append-nil, eqb_tells, without_return, lines, unfinished, Fault, Kind, End, Trailing, TooLong, Format, Live, FaultOf, EndOf, Node, ended, before, IsAllowed, OneLine, After, Grammar, FaultlessIsLive, SomeReading}
use Rattle.sas_reader.proofs.Live.{one_more, live, path_start, path_plain, path_line, fault_long, fault_done, fault_line, fault_stays}
use Rattle.sas_reader.proofs.Paths.{Path}

ended_or : {T V I S : Type 0} (n : Node T V I S) → ((v : V) × (n ≡ ended v)) ⊎ ((s : S) × (ok : I → Bool) × (next : I → T) × (n ≡ before s ok next))
ended_or (ended v) = inl (v, refl)
ended_or (before s ok next) = inr (s, ok, next, refl)

apart : {T V I S : Type 0} (s : S) (ok : I → Bool) (next : I → T) (v : V) → (let m : Node T V I S = before s ok next in m) ≡ ended v → ⊥
apart s ok next v e = absurd cc

not_ended : {T V I S : Type 0} (n : Node T V I S) (s : S) (ok : I → Bool) (next : I → T) (v : V) → n ≡ before s ok next → n ≡ ended v → ⊥
not_ended n s ok next v e f = apart s ok next v (sym e ∙ f)

abbrev fault_with : List ℕ → Kind → Fault
fault_with front k = record { line = length (lines front) + 1; kind = k }

module _ {T V I S : Type 0} (F : Format V I S) (Fits : I → Type 0) (node : T → Node T V I S) (start : T) (g : Grammar F Fits node start) where
  -- the prefix has no fault, and so the whole has none
  abbrev None : ℕ → List ℕ → Type 0
  None limit bytes = (f : Fault) → FaultOf F limit bytes f → ⊥

  no_fault : (limit : ℕ) (front : List ℕ) (x : ℕ) (rest : List ℕ) (k : Kind) → None limit (front ++ x ∷ rest) → FaultOf F limit (one_more front x) (fault_with front k) → ⊥
  no_fault limit front x rest k h d = h (fault_with front k) (subst (λ (b : List ℕ). FaultOf F limit b (fault_with front k)) (append_assoc front (x ∷ []) rest) (fault_stays F limit (one_more front x) rest (fault_with front k) d))

  taken : (p : T) (s : S) (ok : I → Bool) (next : I → T) (i : I) → node p ≡ before s ok next → IsAllowed F Fits s ok i → After F Fits node p (i ∷ []) (next i)
  taken p s ok next i e t = subst (λ n. OneLine F Fits n i (λ r. r ≡ next i)) (sym e) (t, refl)

  line_goes : (limit : ℕ) (p : T) (s : S) (ok : I → Bool) (next : I → T) (front rest : List ℕ) → node p ≡ before s ok next → Path F Fits node start p front → length front + 1 ≤ limit → None limit (front ++ 10 ∷ rest)
      → ((q : T) → Path F Fits node start q (one_more front 10) → ⊥) → ⊥
  line_goes limit p s ok next front rest e h l none later =
      let no : (i : I) → IsAllowed F Fits s ok i → F.texts.spelled i ≡ without_return (unfinished front) → ⊥ = λ i t w. later (next i) (path_line F Fits node start p (next i) front i h (taken p s ok next i e t) w) in
      g.some_kind s (without_return (unfinished front)) (λ k kind. no_fault limit front 10 rest k none (fault_line F Fits node start g limit p s ok next front (fault_with front k) e h (record { none = no; kind = kind }) l refl))

  byte_goes : (limit : ℕ) (p : T) (s : S) (ok : I → Bool) (next : I → T) (front : List ℕ) (x : ℕ) (rest : List ℕ) → node p ≡ before s ok next → Path F Fits node start p front → length front + 1 ≤ limit → None limit (front ++ x ∷ rest)
      → ((q : T) → Path F Fits node start q (one_more front x) → ⊥) → ⊥
  byte_goes limit p s ok next front x rest e h l none later =
      elim (eqb_tells x 10) [
        | inl y ↦ line_goes limit p s ok next front rest e h l (subst (λ (b : ℕ). None limit (front ++ b ∷ rest)) y.1 none) (λ q t. later q (subst (λ (b : ℕ). Path F Fits node start q (one_more front b)) (sym y.1) t))
        | inr n ↦ later p (path_plain F Fits node start p front x h n.1 (λ v f. not_ended (node p) s ok next v e f))
      ]

  one_goes : (limit : ℕ) (p : T) (front : List ℕ) (x : ℕ) (rest : List ℕ) → Path F Fits node start p front → length front ≤ limit → None limit (front ++ x ∷ rest)
      → ((q : T) → length (one_more front x) ≤ limit → Path F Fits node start q (one_more front x) → ⊥) → ⊥
  one_goes limit p front x rest h l none later =
      elim (eqb_tells (length front) limit) [
        | inl y ↦ no_fault limit front x rest TooLong none (fault_long F Fits node start g limit p front x (fault_with front TooLong) h y.1 refl refl)
        | inr n ↦
            let ne : length front ≢ limit = n.1 in
            let lt : length front + 1 ≤ limit = omega arith in
            let short : length (one_more front x) ≤ limit = omega (arith, length-append front (x ∷ [])) in
            elim (ended_or (node p)) [
              | inl d ↦ no_fault limit front x rest Trailing none (fault_done F Fits node start g limit p d.0 front x (fault_with front Trailing) d.1 h lt refl refl)
              | inr b ↦ byte_goes limit p b.0 b.1 b.2 front x rest b.3 h lt none (λ q t. later q short t)
            ]
      ]

  scan : (limit : ℕ) (p : T) (front rest : List ℕ) → Path F Fits node start p front → length front ≤ limit → None limit (front ++ rest) → (Live F limit (front ++ rest) → ⊥) → ⊥
  scan limit p front [] h l none dead = dead (subst (Live F limit) (sym (append-nil front)) (live F Fits node start g limit p front l h))
  scan limit p front (x ∷ rest) h l none dead =
      one_goes limit p front x rest h l none
      (λ q short t. scan limit q (one_more front x) rest t short (subst (None limit) (sym (append_assoc front (x ∷ []) rest)) none) (λ a. dead (subst (Live F limit) (append_assoc front (x ∷ []) rest) a)))

  pub faultless_is_live : FaultlessIsLive F
  faultless_is_live limit bytes none dead = scan limit start [] bytes (path_start F Fits node start) (omega arith) none dead

  pub some_reading : SomeReading F
  some_reading limit bytes h =
      faultless_is_live limit bytes (λ f a. h (Err f) (inl a)) (λ a.
      let end : EndOf F limit bytes (fault_with bytes End) = record { live = a; none = λ v r. h (Ok v) (r, a.short); line = refl; kind = refl } in
      h (Err (fault_with bytes End)) (inr end))
