-- The judge notes the numbers of items as the table of places says, whether a line or a whole
-- section is accepted.
use Rattle.sas_task_reader.proofs.Imports.{◌≡◌, ℕ, zero, suc, ◌+◌, ◌-◌, ◌<◌, List, [], ◌∷◌, ◌++◌, length, refl, sym, ap, subst, ◌∙◌, arith, Option, Some, TaskLine, number_in, variable_lines, group_lines, operator_lines, rule_lines, Variable, Fact, Operator, Effect, Place, Move, Tracker, tracker_start, track, track_line, row_at, row_in, after_move, TaskJudge, row_of, Counts, ListCount, counts_start, after_count, counts_after, count_at, counts_behind, HasNoted, after-append, Block, variable_told, group_told, operator_told, rule_told}
use Rattle.sas_task_file.specs.declared.places.Place.TheVariants as at
use Rattle.sas_task_file.specs.declared.places.Move.TheVariants as moves

-- ---- one line

-- the tracker has the number that is noted
same_count : (m : Move) (a b k : ℕ) (t : Tracker) (c : Counts) → after_move m a t ≡ after_move m b t → after_count m k a c ≡ after_count m k b c
same_count (moves.Count p) a b k t c e = ap (λ (u : Tracker). let r : Counts = record c { section = record { line = k; number = u.total } } in r) e
same_count (moves.List p) a b k t c e = ap (λ (u : Tracker). let r : Counts = record c { list = record { line = k; number = u.more } } in r) e
same_count (moves.Range p) a b k t c e = ap (λ (u : Tracker). let r : Counts = record c { list = record { line = k; number = u.more } } in r) e
same_count _ a b k t c e = refl

section_on : (m : Move) (k n : ℕ) (c d : Counts) → c.section ≡ d.section → (after_count m k n c).section ≡ (after_count m k n d).section
section_on (moves.Count p) k n c d e = refl
section_on _ k n c d e = e

-- counts that agree on what applies before a line do so behind it
abbrev AgreesOn : Place → ℕ → ℕ → Tracker → ℕ → ℕ → Counts → Counts → Type 0
AgreesOn p left more t k n c d =
    let u : Tracker = record t { place = p; left = left; more = more } in
    let m : Move = (row_at p u).moves in
    let v = after_move m n u in
    count_at v.place (length v.ranges) (after_count m k n c) ≡ count_at v.place (length v.ranges) (after_count m k n d)

here_on : (p : Place) (left more : ℕ) (t : Tracker) (k n : ℕ) (c d : Counts) → c.section ≡ d.section → count_at p (length t.ranges) c ≡ count_at p (length t.ranges) d → AgreesOn p left more t k n c d
here_on at.VariableValues left zero t k n c d e h = ap (λ (x : ListCount). Some x) e
here_on at.VariableValues left (suc more) t k n c d e h = h
here_on at.GroupFacts left zero t k n c d e h = ap (λ (x : ListCount). Some x) e
here_on at.GroupFacts left (suc more) t k n c d e h = h
here_on at.GoalFacts left zero t k n c d e h = refl
here_on at.GoalFacts left (suc more) t k n c d e h = h
here_on at.Prevail left zero t k n c d e h = refl
here_on at.Prevail left (suc more) t k n c d e h = h
here_on at.Effects left zero t k n c d e h = refl
here_on at.Effects left (suc more) t k n c d e h = h
here_on at.RuleConditions left zero t k n c d e h = refl
here_on at.RuleConditions left (suc more) t k n c d e h = h
here_on at.OperatorEnd left more t k n c d e h = ap (λ (x : ListCount). Some x) e
here_on at.RuleEnd left more t k n c d e h = ap (λ (x : ListCount). Some x) e
here_on at.Rules zero more t k n c d e h = ap (λ (x : ListCount). Some x) e
here_on at.Rules (suc left) more t k n c d e h = refl
here_on _ zero zero t k n c d e h = refl
here_on _ zero (suc more) t k n c d e h = refl
here_on _ (suc left) zero t k n c d e h = refl
here_on _ (suc left) (suc more) t k n c d e h = refl

module _ (items : List TaskLine) (item : TaskLine) (j k : TaskJudge) (tracks : track tracker_start items ≡ j.tracker) (noted : HasNoted items j) (leads : track_line j.tracker item ≡ k.tracker) where
  -- the judge has noted the number on one more line
  pub noted_on : (number n : ℕ) → number ≡ 1 + length items → k.tracker ≡ after_move (row_of j).moves n j.tracker → k.counts ≡ after_count (row_of j).moves number n j.counts → HasNoted (items ++ item ∷ []) k
  noted_on number n line moved counts =
      let m = (row_of j).moves in
      let l = 1 + length items in
      let a = after_count m l (number_in item) j.counts in
      let b = after_count m l (number_in item) (counts_behind items) in
      let judge : k.counts ≡ a = counts ∙ ap (λ (x : ℕ). after_count m x n j.counts) line ∙ same_count m n (number_in item) l j.tracker j.counts (sym moved ∙ sym leads) in
      let behind : counts_behind (items ++ item ∷ []) ≡ b = after-append 1 tracker_start counts_start items (item ∷ []) ∙ ap (λ (t : Tracker). after_count (row_in t).moves l (number_in item) (counts_behind items)) tracks in
      let t = j.tracker in
      let agree = here_on t.place t.left t.more t l (number_in item) j.counts (counts_behind items) noted.section noted.here in
      record {
        section = ap (λ (c : Counts). c.section) judge ∙ section_on m l (number_in item) j.counts (counts_behind items) noted.section ∙ sym (ap (λ (c : Counts). c.section) behind);
        here = ap (count_at k.tracker.place (length k.tracker.ranges)) judge ∙ subst (λ (u : Tracker). count_at u.place (length u.ranges) a ≡ count_at u.place (length u.ranges) b) leads agree ∙ sym (ap (count_at k.tracker.place (length k.tracker.ranges)) behind);
      }

-- ---- a whole section

-- the lines of a section keep the number of sections
abbrev pub KeepsCount : Tracker → List TaskLine → Type 0
KeepsCount t items = (n : ℕ) (c : Counts) → (counts_after n t c items).section ≡ c.section

pub noted_past : (items lines : List TaskLine) (j : TaskJudge) (next : Tracker) → track tracker_start items ≡ j.tracker → HasNoted items j → ((c : Counts) → count_at next.place (length next.ranges) c ≡ Some c.section) → KeepsCount j.tracker lines → HasNoted (items ++ lines) (record j { tracker = next })
noted_past items lines j next tracks noted in_section keeps =
    let behind : (counts_behind (items ++ lines)).section ≡ (counts_behind items).section =
    ap (λ (c : Counts). c.section) (after-append 1 tracker_start counts_start items lines)
    ∙ ap (λ (t : Tracker). (counts_after (1 + length items) t (counts_behind items) lines).section) tracks
    ∙ keeps (1 + length items) (counts_behind items) in
    let same : j.counts.section ≡ (counts_behind (items ++ lines)).section = noted.section ∙ sym behind in
    record {
      section = same;
      here = in_section j.counts ∙ ap (λ (x : ListCount). Some x) same ∙ sym (in_section (counts_behind (items ++ lines)));
    }

next_left : (n : ℕ) → 0 < n → n ≡ suc (n - 1)
next_left zero h = absurd (omega arith)
next_left (suc n) h = omega arith

module _ (t : Tracker) (left : 0 < t.left) where
  begun : (p : Place) → t.place ≡ p → t ≡ record t { place = p; left = suc (t.left - 1) }
  begun p here = ap (λ (q : Place). let r : Tracker = record t { place = q } in r) here ∙ ap (λ (n : ℕ). let r : Tracker = record t { place = p; left = n } in r) (next_left t.left left)

  keeps_by : (u v : Tracker) (items : List TaskLine) (n : ℕ) (c : Counts) (said : List (Option ListCount)) → t ≡ u → Block n u c items said v → (counts_after n t c items).section ≡ c.section
  keeps_by u v items n c said e b = ap (λ (x : Tracker). (counts_after n x c items).section) e ∙ ap (λ (d : Counts). d.section) b.tells.notes ∙ b.same

  pub variable_keeps : t.place ≡ at.Variables → (v : Variable) → KeepsCount t (variable_lines v)
  variable_keeps here v n c = keeps_by _ _ (variable_lines v) n c _ (begun at.Variables here) (variable_told t (t.left - 1) n c v)

  pub group_keeps : t.place ≡ at.Groups → (facts : List Fact) → KeepsCount t (group_lines facts)
  group_keeps here facts n c = keeps_by _ _ (group_lines facts) n c _ (begun at.Groups here) (group_told t (t.left - 1) n c facts)

  pub operator_keeps : t.place ≡ at.Operators → (o : Operator) → KeepsCount t (operator_lines o)
  operator_keeps here o n c = keeps_by _ _ (operator_lines o) n c _ (begun at.Operators here) (operator_told t (t.left - 1) n c o)

  pub rule_keeps : t.place ≡ at.Rules → (r : Effect) → KeepsCount t (rule_lines r)
  rule_keeps here r n c = keeps_by _ _ (rule_lines r) n c _ (begun at.Rules here) (rule_told t (t.left - 1) n c r)
