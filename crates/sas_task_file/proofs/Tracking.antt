-- A tracker has what is expected on each line of a task: its marks, line by line, are those of a
-- section.
use Rattle.sas_task_file.proofs.Imports.{◌≡◌, ℕ, List, [], ◌∷◌, ◌++◌, refl, sym, ap, subst, ◌∙◌, Place, Mark, TaskLine, task_slot, slot_of_due, Tracker, track_line, track, mark_in}
use Rattle.sas_task_file.specs.declared.places.Place.TheVariants as place

-- the marks of lines after a tracker
abbrev pub track_marks : Tracker → List TaskLine → List Mark
track_marks t [] = []
track_marks t (i ∷ items) = mark_in t ∷ track_marks (track_line t i) items

-- places after the last variable
abbrev pub IsBehindVariables : Place → Type 0
IsBehindVariables place.Groups = Unit {0}
IsBehindVariables place.GroupSize = Unit {0}
IsBehindVariables place.GroupFacts = Unit {0}
IsBehindVariables place.StateValues = Unit {0}
IsBehindVariables place.GoalBegin = Unit {0}
IsBehindVariables place.GoalSize = Unit {0}
IsBehindVariables place.GoalFacts = Unit {0}
IsBehindVariables place.OperatorCount = Unit {0}
IsBehindVariables place.Operators = Unit {0}
IsBehindVariables place.OperatorName = Unit {0}
IsBehindVariables place.PrevailCount = Unit {0}
IsBehindVariables place.Prevail = Unit {0}
IsBehindVariables place.Effects = Unit {0}
IsBehindVariables place.OperatorEnd = Unit {0}
IsBehindVariables place.Rules = Unit {0}
IsBehindVariables place.RuleSize = Unit {0}
IsBehindVariables place.RuleConditions = Unit {0}
IsBehindVariables place.RuleEnd = Unit {0}
IsBehindVariables _ = ⊥

-- ---- lines after lines: their last tracker, and their marks

pub track-append : (t : Tracker) (a b : List TaskLine) → track t (a ++ b) ≡ track (track t a) b
track-append t [] b = refl
track-append t (i ∷ a) b = track-append (track_line t i) a b

pub track_marks-append : (t : Tracker) (a b : List TaskLine) → track_marks t (a ++ b) ≡ track_marks t a ++ track_marks (track t a) b
track_marks-append t [] b = refl
track_marks-append t (i ∷ a) b = ap (λ (x : List Mark). mark_in t ∷ x) (track_marks-append (track_line t i) a b)

module _ (ranges : List ℕ) where
  -- after the last variable all ranges are known
  abbrev pub Known : Tracker → Type 0
  Known t = IsBehindVariables t.place → t.ranges ≡ ranges

  -- each line belongs where one is expected, and after the last variable all ranges are known
  abbrev pub Along : Tracker → List TaskLine → Type 0
  Along t [] = Known t
  Along t (i ∷ items) = Known t × (slot_of_due (mark_in t).due ≡ task_slot i) × Along (track_line t i) items

  -- after this tracker the lines have these marks, and lead to that tracker
  pub record Scan (t : Tracker) (items : List TaskLine) (said : List Mark) (u : Tracker) : Type 0 where
    pub marks : track_marks t items ≡ said
    pub ends : track t items ≡ u
    pub along : Along t items

  -- ---- scans after scans

  pub along-append : (t : Tracker) (a b : List TaskLine) → Along t a → Along (track t a) b → Along t (a ++ b)
  along-append t [] b h g = g
  along-append t (i ∷ a) b h g = (h.0, h.1, along-append (track_line t i) a b h.2 g)

  infixl 20 ◌then◌
  pub ◌then◌ : {t u v : Tracker} {a b : List TaskLine} {m n : List Mark} → Scan t a m u → Scan u b n v → Scan t (a ++ b) (m ++ n) v
  ◌then◌ {t = t} {a = a} {b = b} {n = n} s r = record {
    marks = track_marks-append t a b ∙ ap (λ (x : Tracker). track_marks t a ++ track_marks x b) s.ends ∙ ap (λ (x : List Mark). track_marks t a ++ x) r.marks ∙ ap (λ (x : List Mark). x ++ n) s.marks;
    ends = track-append t a b ∙ ap (λ (x : Tracker). track x b) s.ends ∙ r.ends;
    along = along-append t a b s.along (subst (λ (x : Tracker). Along x b) (sym s.ends) r.along);
  }

  -- the same, in another form
  pub marked : {t u : Tracker} {a : List TaskLine} {m n : List Mark} → Scan t a m u → m ≡ n → Scan t a n u
  marked s e = record { marks = s.marks ∙ e; ends = s.ends; along = s.along }

  pub leading : {t u v : Tracker} {a : List TaskLine} {m : List Mark} → Scan t a m u → u ≡ v → Scan t a m v
  leading s e = record { marks = s.marks; ends = s.ends ∙ e; along = s.along }

  pub spelled : {t u : Tracker} {a b : List TaskLine} {m : List Mark} → Scan t a m u → a ≡ b → Scan t b m u
  spelled {t = t} {u = u} {m = m} s e = subst (λ (x : List TaskLine). Scan t x m u) e s

  -- one line
  pub one : {t u : Tracker} (i : TaskLine) → Known t → slot_of_due (mark_in t).due ≡ task_slot i → track_line t i ≡ u → Known u → Scan t (i ∷ []) (mark_in t ∷ []) u
  one i h s e k = record { marks = refl; ends = e; along = (h, s, subst Known (sym e) k) }
