-- The last line of a task: the machine knows which one it is, and so whether only a line end is
-- missing.
use Rattle.sas_task_reader.proofs.Imports.{◌≡◌, ◌↔◌, ℕ, zero, suc, ◌≤◌, List, [], ◌∷◌, ◌++◌, length, map, refl, sym, ap, subst, ◌∙◌, arith, inl, inr, ◌⊎◌, Option, Some, None, IsSomeAnd, IfSome, IfNone, codes, take_all, length-take, map-append, decimal_digit, Parts, Kind, Excerpt, kept_bytes, take, without_return, return_length, AreAllLines, EndsUnended, LeadsToEnd, ended, cut_at, ends_split, after_ends, same_path, TaskLine, word, number, task_slot, task_line_bytes, task_layout, task_format, TaskLineFits, slot_of_due, number_in, Place, Tracker, row_at, after_move, TaskMachine, TaskState, SoFar, state_after, state_of, table_node, table_start, LedBy, IsLastLine}
use Rattle.sas_reader.specs.declared.fault.Kind.TheVariants as kinds
use Rattle.sas_task_file.specs.declared.places.Place.TheVariants as at
use Rattle.sas_task_file.proofs.TaskEnds.{IsOver, over_if_ended}
use Rattle.sas_task_file.proofs.TaskGrammar.{task_grammar}
use Rattle.sas_task_file.proofs.TableLines.{of_table_line, not_over}

-- ---- the line that leads to the end

zero_line : (i : TaskLine) → task_slot i ≡ task_slot (number 0) → number_in i ≡ 0 → task_line_bytes i ≡ codes "0"
zero_line (number n) s e = ap (λ (m : ℕ). task_line_bytes (number m)) e ∙ decimal_digit 0 (omega arith)
zero_line _ s e = absurd cc

word_line : (i : TaskLine) (w : List ℕ) → task_slot i ≡ task_slot (word w) → task_line_bytes i ≡ w
word_line (word v) w s = cc
word_line _ w s = absurd cc

places_apart : at.Operators ≡ at.RuleEnd → ⊥
places_apart e = cc

-- after the line all lines have been read
abbrev EndsAt : Place → ℕ → ℕ → Tracker → TaskLine → Type 0
EndsAt p left more t i =
    let u : Tracker = record t { place = p; left = left; more = more } in
    IsOver (after_move (row_at p u).moves (number_in i) u) × (task_slot i ≡ slot_of_due (row_at p u).due) × (IsOver u → ⊥)

abbrev Last : Place → ℕ → TaskLine → Type 0
Last p left i = (left ≡ 0) × (((p ≡ at.Operators) × (task_line_bytes i ≡ codes "0")) ⊎ ((p ≡ at.RuleEnd) × (task_line_bytes i ≡ codes "end_rule")))

last_at : (p : Place) (left more : ℕ) (t : Tracker) (i : TaskLine) → EndsAt p left more t i → Last p left i
last_at at.Operators zero more t i h = (refl, inl (refl, zero_line i h.1 h.0.1))
last_at at.RuleEnd left more t i h = (h.0.1, inr (refl, word_line i (codes "end_rule") h.1))
last_at at.Rules zero more t i h = absurd (h.2 (refl, refl))
last_at at.Rules (suc left) more t i h = let e = h.0.0 in absurd cc
last_at _ zero zero t i h = let e = h.0.0 in absurd cc
last_at _ zero (suc more) t i h = let e = h.0.0 in absurd cc
last_at _ (suc left) zero t i h = let e = h.0.0 in absurd cc
last_at _ (suc left) (suc more) t i h = let e = h.0.0 in absurd cc

-- such a line leads to the end
ends_by : (t : Tracker) (s : SoFar) (line : List ℕ) → (t.left ≡ 0) × (((t.place ≡ at.Operators) × (line ≡ codes "0")) ⊎ ((t.place ≡ at.RuleEnd) × (line ≡ codes "end_rule")))
    → (i : TaskLine) × (v : Parts) × LeadsToEnd task_format TaskLineFits table_node (record { tracker = t; so_far = s }) (i ∷ []) v × (task_line_bytes i ≡ line)
ends_by t s line (l, inl (p, e)) =
    let u : Tracker = record t { place = at.Operators; left = 0 } in
    let there : u ≡ t = sym (ap (λ (q : Place). let r : Tracker = record t { place = q } in r) p ∙ ap (λ (n : ℕ). let r : Tracker = record t { place = at.Operators; left = n } in r) l) in
    (number 0, s.parts, subst (λ (x : Tracker). LeadsToEnd task_format TaskLineFits table_node (record { tracker = x; so_far = s }) (number 0 ∷ []) s.parts) there (record { slot = refl; fits = omega arith; good = refl }, refl), decimal_digit 0 (omega arith) ∙ sym e)
ends_by t s line (l, inr (p, e)) =
    let u : Tracker = record t { place = at.RuleEnd; left = 0 } in
    let there : u ≡ t = sym (ap (λ (q : Place). let r : Tracker = record t { place = q } in r) p ∙ ap (λ (n : ℕ). let r : Tracker = record t { place = at.RuleEnd; left = n } in r) l) in
    (word (codes "end_rule"), s.parts, subst (λ (x : Tracker). LeadsToEnd task_format TaskLineFits table_node (record { tracker = x; so_far = s }) (word (codes "end_rule") ∷ []) s.parts) there (record { slot = refl; fits = tt; good = refl }, refl), sym e)

module _ {K : Type 0} (keeps : List (List ℕ) → SoFar → K → Type 0) (lines : List (List ℕ)) (m : TaskMachine K) (h : LedBy keeps lines m) where
  abbrev there : TaskState
  there = state_of m.judge h.so_far

  -- with the last line, the lines are all lines of a task
  all_lines : (line : List ℕ) → IsLastLine m.judge line → AreAllLines task_format (lines ++ line ∷ [])
  all_lines line last =
      let e = ends_by m.judge.tracker h.so_far line last in
      let s = task_grammar.sound (h.leads.items ++ e.0 ∷ []) e.1 (after_ends task_format TaskLineFits table_node table_start there e.1 h.leads.items (e.0 ∷ []) h.leads.after e.2) in
      (e.1, s.0, ap (map task_line_bytes) (sym s.1) ∙ map-append task_line_bytes h.leads.items (e.0 ∷ []) ∙ ap (λ (l : List (List ℕ)). l ++ task_line_bytes e.0 ∷ []) h.leads.spells ∙ ap (λ (l : List ℕ). lines ++ l ∷ []) e.3)

  last_of : (v : Parts) (line : List ℕ) (after : List TaskLine) → map task_line_bytes after ≡ line ∷ [] → LeadsToEnd task_format TaskLineFits table_node there after v → IsLastLine m.judge line
  last_of v line [] e r = absurd cc
  last_of v line (i ∷ j ∷ more) e r = absurd cc
  last_of v line (i ∷ []) e r =
      let Then : TaskState → Type 0 = λ z. table_node z ≡ ended v in
      let t = of_table_line there i Then r in
      let u = m.judge.tracker in
      let last = last_at u.place u.left u.more u i (over_if_ended (state_after there i) v t.1, t.0.slot, not_over there i Then r) in
      let is : task_line_bytes i ≡ line = cc in
      subst (λ (l : List ℕ). IsLastLine m.judge l) is last

  -- and the other way
  last_line : (line : List ℕ) → AreAllLines task_format (lines ++ line ∷ []) → IsLastLine m.judge line
  last_line line (v, good, e) =
      let c = cut_at task_line_bytes lines (line ∷ []) (task_layout v) e in
      let s = ends_split task_format TaskLineFits table_node table_start v c.before c.after (subst (λ (l : List TaskLine). LeadsToEnd task_format TaskLineFits table_node table_start l v) c.whole (task_grammar.complete v good)) in
      let same = (same_path task_format TaskLineFits table_node table_start task_grammar table_start there s.0 h.leads.items c.before h.leads.after s.1 (h.leads.spells ∙ sym c.front_is)).state in
      last_of v line c.after c.back_is (subst (λ (x : TaskState). LeadsToEnd task_format TaskLineFits table_node x c.after v) (sym same) s.2)

  -- ---- a text at an early end

  last_short : (line : List ℕ) → IsLastLine m.judge line → length line ≤ 8
  last_short line (l, inl (p, e)) = omega (arith, ap length e)
  last_short line (l, inr (p, e)) = omega (arith, ap length e)

  one_last : (a b : List ℕ) → IsLastLine m.judge a → IsLastLine m.judge b → a ≡ b
  one_last a b (l, inl (p, e)) (k, inl (q, f)) = e ∙ sym f
  one_last a b (l, inl (p, e)) (k, inr (q, f)) = absurd (places_apart (sym p ∙ q))
  one_last a b (l, inr (p, e)) (k, inl (q, f)) = absurd (places_apart (sym q ∙ p))
  one_last a b (l, inr (p, e)) (k, inr (q, f)) = e ∙ sym f

  module _ (text : List ℕ) (found : Excerpt) (front : kept_bytes found ≡ take 65 text) where
    -- a short text is kept as a whole
    whole_if : length (kept_bytes found) ≤ 64 → kept_bytes found ≡ text
    whole_if short = front ∙ take_all 65 text (omega (arith, short, ap length front, length-take 65 text))

    -- the last line is kept, too
    kept_if : (line : List ℕ) → IsLastLine m.judge line → without_return text ≡ line → kept_bytes found ≡ text
    kept_if line last e = front ∙ take_all 65 text (omega (arith, last_short line last, ap length e, return_length text))

    pub unended : {L : Type 0} (now : L → List ℕ) (kind : Kind) (lacks : Type 0) (last : Option L) → IfSome last (λ l. IsLastLine m.judge (now l)) → IfNone last ((line : List ℕ) → IsLastLine m.judge line → ⊥)
        → (lacks ↔ (kind ≡ kinds.End) × IsSomeAnd last (λ l. without_return (kept_bytes found) ≡ now l)) → lacks ↔ EndsUnended task_format kind lines text
    unended now kind lacks None some none law = (λ l. absurd (law.0 l).1, λ (e, all). absurd (none (without_return text) (last_line (without_return text) all)))
    unended now kind lacks (Some l) some none law = (
      λ yes.
          let says = law.0 yes in
          let whole = whole_if (omega (arith, last_short (now l) some, ap length says.1, return_length (kept_bytes found))) in
          (says.0, subst (λ (w : List ℕ). AreAllLines task_format (lines ++ w ∷ [])) (sym says.1 ∙ ap without_return whole) (all_lines (now l) some)),
      λ (e, all).
          let last = last_line (without_return text) all in
          law.1 (e, ap without_return (kept_if (without_return text) last refl) ∙ one_last (without_return text) (now l) last some),
    )
