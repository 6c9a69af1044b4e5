-- Effects in columns: the effect at an index, appending an effect, and truncating.
use Rattle.sas_flat.proofs.Imports.{◌≡◌, ℕ, zero, suc, ◌+◌, ◌-◌, ◌<◌, ◌≤◌, List, [], ◌∷◌, ◌++◌, length, take, replicate, get_or, refl, sym, ap, ◌∙◌, arith, append-nil, append_assoc, length-append, slice_range, drop, length-take-le, length-replicate, get_or-take, get_or-append-add, take-append-drop, take-map, get_or-append, get_or-append_seam, drop-append_seam, Change, Fact, table, effect_with, change_in_list, effects_of, effect_in_list, Effect, plain_effect, plain_effects}
use Rattle.sas_flat.proofs.Tables.{length-table, table_same, table_none, table_more, table_append, get_or-table, take-table}

pub no_effects : (cs : List Change) (ds : List (List Fact)) → cs ≡ [] → effects_of cs ds ≡ []
no_effects cs ds none = table_none (length cs) _ (ap length none)

same_effect : (c c' : Change) (d d' : List Fact) → c ≡ c' → d ≡ d' → effect_with c d ≡ effect_with c' d'
same_effect c c' d d' changes conditions = ap (λ x. effect_with x d) changes ∙ ap (λ x. effect_with c' x) conditions

module _ (cs : List Change) (ds : List (List Fact)) (es : List Effect) (is : effects_of cs ds ≡ es) where
  pub effect_count : length cs ≡ length es
  effect_count = sym (length-table (length cs) _) ∙ ap length is

  pub effect_at_place : (i : ℕ) → i < length es → effect_in_list es i ≡ effect_with (change_in_list cs i) (get_or ds i [])
  effect_at_place i h = ap (λ l. effect_in_list l i) (sym is) ∙ get_or-table (length cs) _ i _ (omega (arith, effect_count))

pub effects_more : (cs : List Change) (ds : List (List Fact)) (c : Change) (d : List Fact) → length ds ≡ length cs
    → effects_of (cs ++ c ∷ []) (ds ++ d ∷ []) ≡ effects_of cs ds ++ effect_with c d ∷ []
effects_more cs ds c d pairs = table_more (length cs) (length (cs ++ c ∷ [])) _ _ (effect_with c d) (omega (arith, length-append cs (c ∷ [])))
    (λ i h. same_effect _ _ _ _ (get_or-append cs (c ∷ []) _ i h) (get_or-append ds (d ∷ []) [] i (omega (arith, pairs))))
    (same_effect _ _ _ _ (get_or-append_seam cs c [] _) (ap (λ n. get_or (ds ++ d ∷ []) n []) (sym pairs) ∙ get_or-append_seam ds d [] []))

-- effects behind the others
pub effects_append : (cs more : List Change) (ds behind : List (List Fact)) → length ds ≡ length cs
    → effects_of (cs ++ more) (ds ++ behind) ≡ effects_of cs ds ++ effects_of more behind
effects_append cs more ds behind pairs =
    ap (λ n. table n (λ i. effect_with (change_in_list (cs ++ more) i) (get_or (ds ++ behind) i []))) (length-append cs more)
    ∙ table_append (length cs) (length more) _ _ _
    (λ i h. same_effect _ _ _ _ (get_or-append cs more _ i h) (get_or-append ds behind [] i (omega (arith, pairs))))
    (λ j h. same_effect _ _ _ _ (get_or-append-add cs more j _)
    (ap (λ n. get_or (ds ++ behind) (n + j) []) (sym pairs) ∙ get_or-append-add ds behind j []))

-- a list of no conditions more says no more than none at its place
filled_at : (k : ℕ) (ds : List (List Fact)) (i : ℕ) → get_or (ds ++ replicate k []) i [] ≡ get_or ds i []
filled_at zero [] i = refl
filled_at (suc k) [] zero = refl
filled_at (suc k) [] (suc i) = filled_at k [] i
filled_at k (d ∷ ds) zero = refl
filled_at k (d ∷ ds) (suc i) = filled_at k ds i

-- so lists of no conditions behind the others say nothing
pub effects_filled : (cs : List Change) (ds : List (List Fact)) (k : ℕ) → effects_of cs (ds ++ replicate k []) ≡ effects_of cs ds
effects_filled cs ds k = table_same (length cs) _ _ (λ i h. same_effect _ _ _ _ refl (filled_at k ds i))

-- a list for each effect
pub filled_length : (cs : List Change) (ds : List (List Fact)) (k : ℕ) → length ds ≤ length cs → k ≡ length cs - length ds
    → length (ds ++ replicate k []) ≡ length cs
filled_length cs ds k fits is = omega (arith, fits, is, length-append ds (replicate k []), length-replicate {A = List Fact} k [])

-- effects without conditions behind the others
plain_behind : (more cs : List Change) (ds : List (List Fact)) → length ds ≡ length cs
    → effects_of (cs ++ more) (ds ++ replicate (length more) []) ≡ effects_of cs ds ++ plain_effects more
plain_behind [] cs ds pairs =
    ap (λ l. effects_of l (ds ++ [])) (append-nil cs) ∙ ap (λ l. effects_of cs l) (append-nil ds) ∙ sym (append-nil (effects_of cs ds))
plain_behind (c ∷ more) cs ds pairs =
    ap (λ l. effects_of l (ds ++ [] ∷ replicate (length more) [])) (sym (append_assoc cs (c ∷ []) more))
    ∙ ap (λ l. effects_of ((cs ++ c ∷ []) ++ more) l) (sym (append_assoc ds ([] ∷ []) (replicate (length more) [])))
    ∙ plain_behind more (cs ++ c ∷ []) (ds ++ [] ∷ []) (omega (arith, pairs, length-append cs (c ∷ []), length-append ds ([] ∷ [])))
    ∙ ap (λ l. l ++ plain_effects more) (effects_more cs ds c [] pairs)
    ∙ append_assoc (effects_of cs ds) (effect_with c [] ∷ []) (plain_effects more)

pub plain_more : (more cs : List Change) (ds : List (List Fact)) → length ds ≤ length cs
    → effects_of (cs ++ more) ds ≡ effects_of cs ds ++ plain_effects more
plain_more more cs ds fits =
    let k = length cs - length ds in
    let all = ds ++ replicate k [] in
    sym (effects_filled (cs ++ more) ds k)
    ∙ sym (effects_filled (cs ++ more) all (length more))
    ∙ plain_behind more cs all (filled_length cs ds k fits refl)
    ∙ ap (λ l. l ++ plain_effects more) (effects_filled cs ds k)

-- effects of which none has conditions, nor one behind them
pub plain_range : (cs : List Change) (ds : List (List Fact)) (start end : ℕ) → length ds ≤ start → start ≤ length cs
    → slice_range (effects_of cs ds) start end ≡ plain_effects (slice_range cs start end)
plain_range cs ds start end none fits =
    let front = take start cs in
    let behind = drop start cs in
    let many : length front ≡ start = length-take-le start cs fits in
    let split : effects_of cs ds ≡ effects_of front ds ++ plain_effects behind =
    ap (λ l. effects_of l ds) (sym (take-append-drop start cs)) ∙ plain_more behind front ds (omega (arith, none, many)) in
    let count : length (effects_of front ds) ≡ start = length-table (length front) _ ∙ many in
    let rest : drop start (effects_of cs ds) ≡ plain_effects behind =
    ap (λ l. drop start l) split
    ∙ ap (λ n. drop n (effects_of front ds ++ plain_effects behind)) (sym count)
    ∙ drop-append_seam (effects_of front ds) (plain_effects behind) in
    ap (λ l. take (end - start) l) rest ∙ take-map plain_effect (end - start) behind

-- one effect more, where a list of conditions stands at its place
pub filled_more : (cs : List Change) (ds : List (List Fact)) (k : ℕ) (c : Change) (d : List Fact) → length ds ≤ length cs → k ≡ length cs - length ds
    → effects_of (cs ++ c ∷ []) ((ds ++ replicate k []) ++ d ∷ []) ≡ effects_of cs ds ++ effect_with c d ∷ []
filled_more cs ds k c d fits is =
    effects_more cs (ds ++ replicate k []) c d (filled_length cs ds k fits is) ∙ ap (λ l. l ++ effect_with c d ∷ []) (effects_filled cs ds k)

-- effects more, where lists of conditions stand at their places
pub filled_append : (cs more : List Change) (ds behind : List (List Fact)) (k : ℕ) → length ds ≤ length cs → k ≡ length cs - length ds
    → effects_of (cs ++ more) ((ds ++ replicate k []) ++ behind) ≡ effects_of cs ds ++ effects_of more behind
filled_append cs more ds behind k fits is =
    effects_append cs more (ds ++ replicate k []) behind (filled_length cs ds k fits is) ∙ ap (λ l. l ++ effects_of more behind) (effects_filled cs ds k)

-- effects more of which none has conditions
pub bare_append : (cs more : List Change) (ds none : List (List Fact)) → length ds ≤ length cs → none ≡ []
    → effects_of (cs ++ more) ds ≡ effects_of cs ds ++ effects_of more none
bare_append cs more ds none fits is =
    let k = length cs - length ds in
    sym (effects_filled (cs ++ more) ds k)
    ∙ ap (λ l. effects_of (cs ++ more) l) (sym (append-nil (ds ++ replicate k [])))
    ∙ filled_append cs more ds [] k fits refl
    ∙ ap (λ l. effects_of cs ds ++ effects_of more l) (sym is)

-- the first effects
pub effects_taken : (cs : List Change) (ds : List (List Fact)) (n : ℕ) → n ≤ length cs
    → effects_of (take n cs) (take n ds) ≡ take n (effects_of cs ds)
effects_taken cs ds n h =
    ap (λ m. table m (λ i. effect_with (change_in_list (take n cs) i) (get_or (take n ds) i []))) (length-take-le n cs h)
    ∙ table_same n _ _ (λ i b. same_effect _ _ _ _ (get_or-take n cs i _ b) (get_or-take n ds i [] b))
    ∙ sym (take-table (length cs) _ n h)

-- where all lists of conditions stay
pub effects_cut : (cs : List Change) (ds : List (List Fact)) (n : ℕ) → n ≤ length cs → effects_of (take n cs) ds ≡ take n (effects_of cs ds)
effects_cut cs ds n h =
    ap (λ m. table m (λ i. effect_with (change_in_list (take n cs) i) (get_or ds i []))) (length-take-le n cs h)
    ∙ table_same n _ _ (λ i b. same_effect _ _ _ _ (get_or-take n cs i _ b) refl)
    ∙ sym (take-table (length cs) _ n h)

-- behind the last item is none
pub none_behind : {X : Type 0} (l : List X) (i : ℕ) (d : X) → length l ≤ i → d ≡ get_or l i d
none_behind [] i d h = refl
none_behind (x ∷ l) zero d h = absurd (omega arith)
none_behind (x ∷ l) (suc i) d h = none_behind l i d (omega arith)
