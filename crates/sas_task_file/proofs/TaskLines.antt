-- A line of a task has one meaning at a slot, its fault has one kind, and it contains no LF and no
-- CR.
use Rattle.std.proofs.lemmas.Grind.{common_steps}
use Rattle.sas_task_file.proofs.Imports.{◌≡◌, ℕ, List, [], ◌∷◌, ◌++◌, length, refl, sym, ap, subst, ◌∙◌, arith, Option, flat_map, AllByRecursion, decimal, Fact, Effect, IsNumber, IsSigned, signed_decimal, NoSpace, same_words, NoSpace-number, NoSpace-signed, same_signed, Kind, Keyword, Name, Shape, Value, decimal_injective, TaskLine, word, name, number, signed, fact, effect, head, TaskSlot, word_slot, name_slot, number_slot, signed_slot, fact_slot, effect_slot, head_slot, task_slot, fact_words, head_words, task_line_bytes, TaskLineFits, FactNumbers, HeadNumbers, EffectNumbers, NumbersKind, no_shape, no_value, TaskKind, number_in, signed_in, fact_in, effect_in, head_in, fact_same}
use Rattle.sas_task_file.proofs.Blocks.{word_is, name_is, number_is, signed_is, fact_is, effect_is, head_is}

-- ---- one meaning

number_same : (m n : ℕ) → IsNumber m → IsNumber n → decimal m ≡ decimal n → m ≡ n
number_same m n h k e = decimal_injective m n (omega arith) (omega arith) e

same_fact_words : (f g : Fact) (ws vs : List (List ℕ)) → FactNumbers f → FactNumbers g → fact_words f ++ ws ≡ fact_words g ++ vs → (f ≡ g) × (ws ≡ vs)
same_fact_words f g ws vs h k e = grind (arith, common_steps, fact_same, number_same)

same_fact : (f g : Fact) → FactNumbers f → FactNumbers g → task_line_bytes (fact f) ≡ task_line_bytes (fact g) → f ≡ g
same_fact f g h k e =
    let w = same_words (decimal f.var) (decimal g.var) (decimal f.value ∷ []) (decimal g.value ∷ []) (NoSpace-number f.var h.0) (NoSpace-number f.value h.1, tt) (NoSpace-number g.var k.0) (NoSpace-number g.value k.1, tt) e in
    (same_fact_words f g [] [] h k w).0

same_head_words : (u v : ℕ) (o p : Option ℕ) (m n : ℕ) → HeadNumbers u o m → HeadNumbers v p n → head_words u o m ≡ head_words v p n → (u ≡ v) × (o ≡ p) × (m ≡ n)
same_head_words u v o p m n h k e = grind (arith, common_steps, number_same, same_signed)

same_head : (u v : ℕ) (o p : Option ℕ) (m n : ℕ) → HeadNumbers u o m → HeadNumbers v p n → task_line_bytes (head u o m) ≡ task_line_bytes (head v p n) → head u o m ≡ head v p n
same_head u v o p m n h k e =
    let w = same_words (decimal u) (decimal v) (signed_decimal o ∷ decimal m ∷ []) (signed_decimal p ∷ decimal n ∷ []) (NoSpace-number u h.0) (NoSpace-signed o h.1, (NoSpace-number m h.2, tt)) (NoSpace-number v k.0) (NoSpace-signed p k.1, (NoSpace-number n k.2, tt)) e in
    let s = same_head_words u v o p m n h k w in
    ap (λ (x : ℕ). head x o m) s.0 ∙ ap (λ (x : Option ℕ). head v x m) s.1 ∙ ap (λ (x : ℕ). head v p x) s.2

-- the same number of facts, and then other words
same_facts : (fs gs : List Fact) (ws vs : List (List ℕ)) → AllByRecursion FactNumbers fs → AllByRecursion FactNumbers gs → length fs ≡ length gs → flat_map fact_words fs ++ ws ≡ flat_map fact_words gs ++ vs → (fs ≡ gs) × (ws ≡ vs)
same_facts [] [] ws vs h k l e = (refl, e)
same_facts [] (g ∷ gs) ws vs h k l e = absurd (omega arith)
same_facts (f ∷ fs) [] ws vs h k l e = absurd (omega arith)
same_facts (f ∷ fs) (g ∷ gs) ws vs h k l e =
    let a = same_fact_words f g (flat_map fact_words fs ++ ws) (flat_map fact_words gs ++ vs) h.0 k.0 e in
    let b = same_facts fs gs ws vs h.1 k.1 (omega arith) a.1 in
    (ap (λ (x : Fact). x ∷ fs) a.0 ∙ ap (λ (x : List Fact). g ∷ x) b.0, b.1)

pub NoSpace-facts : (fs : List Fact) (ws : List (List ℕ)) → AllByRecursion FactNumbers fs → AllByRecursion NoSpace ws → AllByRecursion NoSpace (flat_map fact_words fs ++ ws)
NoSpace-facts [] ws h g = g
NoSpace-facts (f ∷ fs) ws h g = (NoSpace-number f.var h.0.0, (NoSpace-number f.value h.0.1, NoSpace-facts fs ws h.1 g))

-- the words of an effect after the number of its conditions
abbrev pub effect_rest : Effect → List (List ℕ)
effect_rest e = flat_map fact_words e.conditions ++ head_words e.var e.old e.new

pub NoSpace-effect : (e : Effect) → EffectNumbers e → AllByRecursion NoSpace (effect_rest e)
NoSpace-effect e h = NoSpace-facts e.conditions (head_words e.var e.old e.new) h.conditions (NoSpace-number e.var h.head.0, (NoSpace-signed e.old h.head.1, (NoSpace-number e.new h.head.2, tt)))

effect_fields : (e f : Effect) → e.conditions ≡ f.conditions → (e.var ≡ f.var) × (e.old ≡ f.old) × (e.new ≡ f.new) → e ≡ f
effect_fields e f c h = grind (arith, common_steps)

same_effect : (e f : Effect) → EffectNumbers e → EffectNumbers f → task_line_bytes (effect e) ≡ task_line_bytes (effect f) → e ≡ f
same_effect e f h k q =
    let w = same_words (decimal (length e.conditions)) (decimal (length f.conditions)) (effect_rest e) (effect_rest f) (NoSpace-number (length e.conditions) h.count) (NoSpace-effect e h) (NoSpace-number (length f.conditions) k.count) (NoSpace-effect f k) q in
    let c : decimal (length e.conditions) ≡ decimal (length f.conditions) = cc in
    let t : effect_rest e ≡ effect_rest f = cc in
    let s = same_facts e.conditions f.conditions (head_words e.var e.old e.new) (head_words f.var f.old f.new) h.conditions k.conditions (number_same (length e.conditions) (length f.conditions) h.count k.count c) t in
    effect_fields e f s.0 (same_head_words e.var f.var e.old f.old e.new f.new h.head k.head s.1)

name_line : (v : List ℕ) (j : TaskLine) → task_slot j ≡ name_slot → v ≡ task_line_bytes j → name v ≡ j
name_line v j s e = let q = name_is j s in ap name (e ∙ ap task_line_bytes (sym q)) ∙ q

number_line : (v : ℕ) (j : TaskLine) → task_slot j ≡ number_slot → IsNumber v → TaskLineFits j → decimal v ≡ task_line_bytes j → number v ≡ j
number_line v j s f g e = let q = number_is j s in ap number (number_same v (number_in j) f (subst TaskLineFits (sym q) g) (e ∙ ap task_line_bytes (sym q))) ∙ q

signed_line : (v : Option ℕ) (j : TaskLine) → task_slot j ≡ signed_slot → IsSigned v → TaskLineFits j → signed_decimal v ≡ task_line_bytes j → signed v ≡ j
signed_line v j s f g e = let q = signed_is j s in ap signed (same_signed v (signed_in j) f (subst TaskLineFits (sym q) g) (e ∙ ap task_line_bytes (sym q))) ∙ q

fact_line : (v : Fact) (j : TaskLine) → task_slot j ≡ fact_slot → FactNumbers v → TaskLineFits j → task_line_bytes (fact v) ≡ task_line_bytes j → fact v ≡ j
fact_line v j s f g e = let q = fact_is j s in ap fact (same_fact v (fact_in j) f (subst TaskLineFits (sym q) g) (e ∙ ap task_line_bytes (sym q))) ∙ q

effect_line : (v : Effect) (j : TaskLine) → task_slot j ≡ effect_slot → EffectNumbers v → TaskLineFits j → task_line_bytes (effect v) ≡ task_line_bytes j → effect v ≡ j
effect_line v j s f g e = let q = effect_is j s in ap effect (same_effect v (effect_in j) f (subst TaskLineFits (sym q) g) (e ∙ ap task_line_bytes (sym q))) ∙ q

head_line_is : (u : ℕ) (o : Option ℕ) (m : ℕ) (j : TaskLine) → task_slot j ≡ head_slot → HeadNumbers u o m → TaskLineFits j → task_line_bytes (head u o m) ≡ task_line_bytes j → head u o m ≡ j
head_line_is u o m j s f g e = let q = head_is j s in let h = head_in j in same_head u h.var o h.old m h.new f (subst TaskLineFits (sym q) g) (e ∙ ap task_line_bytes (sym q)) ∙ q

pub one_task_line : (i j : TaskLine) → task_slot i ≡ task_slot j → TaskLineFits i → TaskLineFits j → task_line_bytes i ≡ task_line_bytes j → i ≡ j
one_task_line (word v) j s f g e = word_is v j (sym s)
one_task_line (name v) j s f g e = name_line v j (sym s) e
one_task_line (number v) j s f g e = number_line v j (sym s) f g e
one_task_line (signed v) j s f g e = signed_line v j (sym s) f g e
one_task_line (fact v) j s f g e = fact_line v j (sym s) f g e
one_task_line (effect v) j s f g e = effect_line v j (sym s) f g e
one_task_line (head u o m) j s f g e = head_line_is u o m j (sym s) f g e

-- ---- one kind

one_numbers_kind : (s : TaskSlot) (bytes : List ℕ) (j k : Kind) → NumbersKind s bytes j → NumbersKind s bytes k → j ≡ k
one_numbers_kind s bytes j k (no_shape a) (no_shape b) = refl
one_numbers_kind s bytes j k (no_shape a) (no_value b) = absurd (a b)
one_numbers_kind s bytes j k (no_value a) (no_shape b) = absurd (b a)
one_numbers_kind s bytes j k (no_value a) (no_value b) = refl

some_numbers_kind : (s : TaskSlot) (bytes : List ℕ) → ((k : Kind) → NumbersKind s bytes k → ⊥) → ⊥
some_numbers_kind s bytes h = h Shape (no_shape (λ b. h Value (no_value b)))

pub one_task_kind : (s : TaskSlot) (bytes : List ℕ) (j k : Kind) → TaskKind s bytes j → TaskKind s bytes k → j ≡ k
one_task_kind (word_slot w) bytes j k a b = a ∙ sym b
one_task_kind name_slot bytes j k a b = a ∙ sym b
one_task_kind number_slot bytes j k a b = one_numbers_kind number_slot bytes j k a b
one_task_kind signed_slot bytes j k a b = one_numbers_kind signed_slot bytes j k a b
one_task_kind fact_slot bytes j k a b = one_numbers_kind fact_slot bytes j k a b
one_task_kind effect_slot bytes j k a b = one_numbers_kind effect_slot bytes j k a b
one_task_kind head_slot bytes j k a b = one_numbers_kind head_slot bytes j k a b

pub some_task_kind : (s : TaskSlot) (bytes : List ℕ) → ((k : Kind) → TaskKind s bytes k → ⊥) → ⊥
some_task_kind (word_slot w) bytes h = h Keyword refl
some_task_kind name_slot bytes h = h Name refl
some_task_kind number_slot bytes h = some_numbers_kind number_slot bytes h
some_task_kind signed_slot bytes h = some_numbers_kind signed_slot bytes h
some_task_kind fact_slot bytes h = some_numbers_kind fact_slot bytes h
some_task_kind effect_slot bytes h = some_numbers_kind effect_slot bytes h
some_task_kind head_slot bytes h = some_numbers_kind head_slot bytes h
