-- One line of a task moves the judge, as the table of places says.
use Rattle.sas_task_reader.proofs.Imports.{IsTrue, ◌≡◌, ℕ, zero, suc, ◌-◌, length, List, [], ◌∷◌, refl, sym, ap, subst, ◌∙◌, Result, Ok, Err, Option, Some, None, result_err, none-some, take, without_return, FrontOf, front_of_lines, line_before_end, plain, inl, inr, Kind, IsAllowed, IsRejected, Rejects, TaskLine, task_slot, slot_of_due, task_line_bytes, task_format, TaskLineFits, name_in, number_in, Due, Row, Move, row_at, row_in, after_move, after_count, Counts, NotesLine, Tracker, TaskJudge, TaskState, numbers_of, state_after, state_of, row_of, RejectsLine, JudgesLine, MovesAhead, HasEnded, IsRow, HasRow, ParsesDue, test_of_due, line_of_due, Event, LineValues, SoFar, Place, after, LineAhead}
use Rattle.sas_reader.specs.declared.fault.Kind.TheVariants as kinds
use Rattle.sas_task_file.specs.declared.places.Place.TheVariants as at
use Rattle.sas_task_file.specs.declared.marks.Due.TheVariants as due
use Rattle.sas_task_file.specs.declared.places.Move.TheVariants as moves
use Rattle.sas_task_file.proofs.TaskEnds.{over_if_nothing, nothing_if_over}
use Rattle.sas_task_file.proofs.TableLines.{due_node, table_line}

-- ---- a parsed line

-- what the parser stored of the expected line moves the tracker and the content as the line does
pub record SaysLine (r : Row) : Type 0 where
  pub moves : (said : LineValues) (line : List ℕ) (t : Tracker) → after_move r.moves (number_in (line_of_due r.due said line)) t ≡ after_move r.moves said.number t
  pub adds : (said : LineValues) (line : List ℕ) (s : SoFar) → (let i = line_of_due r.due said line in after s r.adds (numbers_of i) (name_in i) ≡ after s r.adds said line)

says_line : (p : Place) (left more : ℕ) (t : Tracker) → SaysLine (row_at p (record t { place = p; left = left; more = more }))
says_line at.Rules zero more t = record { moves = λ said line t. refl; adds = λ said line s. refl }
says_line at.Rules (suc left) more t = record { moves = λ said line t. refl; adds = λ said line s. refl }
says_line _ zero zero t = record { moves = λ said line t. refl; adds = λ said line s. refl }
says_line _ zero (suc more) t = record { moves = λ said line t. refl; adds = λ said line s. refl }
says_line _ (suc left) zero t = record { moves = λ said line t. refl; adds = λ said line s. refl }
says_line _ (suc left) (suc more) t = record { moves = λ said line t. refl; adds = λ said line s. refl }

said_here : (t : Tracker) → SaysLine (row_in t)
said_here t = says_line t.place t.left t.more t

-- ---- a line that is allowed, and one that isn't

module _ (j : TaskJudge) (going_on : HasEnded j → ⊥) (line : List ℕ) where
  pub judged : (k : TaskJudge) → (let i : TaskLine = line_of_due (row_of j).due k.said line in IsAllowed task_format TaskLineFits (slot_of_due (row_of j).due) (test_of_due j.tracker.ranges (row_of j).due) i → task_line_bytes i ≡ line
      → k.tracker ≡ after_move (row_of j).moves k.said.number j.tracker → JudgesLine j line k (Ok (row_of j).adds))
  judged k allowed spells moved = λ s.
      let r = row_of j in
      let i : TaskLine = line_of_due r.due k.said line in
      let says = said_here j.tracker in
      let t : SoFar = after s r.adds k.said line in
      let next : state_after (state_of j s) i ≡ state_of k t =
      ap (λ (u : Tracker). let x : TaskState = record { tracker = u; so_far = after s r.adds (numbers_of i) (name_in i) } in x) (says.moves k.said line j.tracker ∙ sym moved)
      ∙ ap (λ (u : SoFar). let x : TaskState = record { tracker = k.tracker; so_far = u } in x) (says.adds k.said line s) in
      record {
        item = i;
        leads = table_line (state_of j s) i (λ x. x ≡ state_of k t) going_on allowed next;
        spells = spells;
      }

  pub rejected : (kind : Kind) → IsRejected task_format TaskLineFits (slot_of_due (row_of j).due) (test_of_due j.tracker.ranges (row_of j).due) line kind → RejectsLine j line kind
  rejected kind h = λ s. subst (λ n. Rejects task_format TaskLineFits n line kind) (sym (due_node (row_of j).due (state_of j s) (λ e. going_on (over_if_nothing j.tracker e)))) h

  -- ---- the judge

  module _ (r : Row) (is : IsRow j.tracker r) where
    pub took : (said : LineValues) (t : Tracker) (n : Counts) → ParsesDue j.tracker.ranges r.due line said (Ok tt) → t ≡ after_move r.moves said.number j.tracker
        → JudgesLine j line (record { tracker = t; said = said; counts = n }) (Ok r.adds)
    took said t n =
        subst (λ (x : Row). ParsesDue j.tracker.ranges x.due line said (Ok tt) → t ≡ after_move x.moves said.number j.tracker → JudgesLine j line (record { tracker = t; said = said; counts = n }) (Ok x.adds)) (sym is.is)
        (λ parsed moved. judged (record { tracker = t; said = said; counts = n }) parsed.0 parsed.1 moved)

    pub noted : (said : LineValues) (t : Tracker) (n : Counts) (number : ℕ) → t ≡ after_move r.moves said.number j.tracker → n ≡ after_count r.moves number said.number j.counts → NotesLine j number (record { tracker = t; said = said; counts = n })
    noted said t n number =
        subst (λ (x : Row). t ≡ after_move x.moves said.number j.tracker → n ≡ after_count x.moves number said.number j.counts → NotesLine j number (record { tracker = t; said = said; counts = n })) (sym is.is)
        (λ moved counts. (moved, counts))

    pub refused : (said : LineValues) (kind : Kind) → ParsesDue j.tracker.ranges r.due line said (Err kind) → JudgesLine j line (record j { said = said }) (Err kind)
    refused said kind =
        subst (λ (x : Row). ParsesDue j.tracker.ranges x.due line said (Err kind) → JudgesLine j line (record j { said = said }) (Err kind)) (sym is.is)
        (λ p. (p.0, λ e. inr (p.1 e), λ n. rejected kind (p.2 n), λ n. refl))

    pub out_of_memory : (k : TaskJudge) (p : Place) → r.moves ≡ moves.Range p → JudgesLine j line k (Err kinds.Memory)
    out_of_memory k p e = ((λ h. cc, λ h. cc), λ h. inl (p, ap (λ (x : Row). x.moves) (sym is.is) ∙ e), λ n. absurd (n refl), λ n. absurd (n refl))

-- the kind of the fault, if any
abbrev some_or : Kind → Option Kind → Kind
some_or other None = other
some_or other (Some kind) = kind

pub refused_as : (j k : TaskJudge) (line : List ℕ) (r : Result Event Kind) (kind : Kind) → result_err r ≡ Some kind → JudgesLine j line k (Err kind) → JudgesLine j line k r
refused_as j k line (Ok event) kind e h = absurd (none-some kind e)
refused_as j k line (Err other) kind e h = subst (λ (x : Kind). JudgesLine j line k (Err x)) (sym (ap (some_or other) e)) h

-- ---- the first line of some bytes

module _ (j k : TaskJudge) (bytes rest : List ℕ) where
  -- the first line has this content, which is what is expected
  pub moves_ahead : (d : Due) (e : Event) (i : TaskLine) → HasRow j.tracker d e moves.Item → (d ≡ due.Nothing → ⊥) → LineAhead i bytes rest → line_of_due d k.said (task_line_bytes i) ≡ i → task_slot i ≡ slot_of_due d → IsTrue (test_of_due j.tracker.ranges d i)
      → k.tracker ≡ after_move moves.Item k.said.number j.tracker → k.counts ≡ j.counts → MovesAhead j bytes k e rest
  moves_ahead d e i says some ahead is slot good moved same = record {
    line = task_line_bytes i;
    plain = ahead.plain;
    before = ahead.before;
    moves =
        let line = task_line_bytes i in
        let same : line_of_due (row_of j).due k.said line ≡ i = ap (λ (x : Due). line_of_due x k.said line) says.due ∙ is in
        let allowed : IsAllowed task_format TaskLineFits (slot_of_due (row_of j).due) (test_of_due j.tracker.ranges (row_of j).due) i =
        subst (λ (x : Due). IsAllowed task_format TaskLineFits (slot_of_due x) (test_of_due j.tracker.ranges x) i) (sym says.due) (record { slot = slot; fits = ahead.fits; good = good }) in
        subst (λ (x : Event). JudgesLine j line k (Ok x)) says.adds
        (judged j (λ h. some (sym says.due ∙ nothing_if_over j.tracker h)) line k
        (subst (λ (x : TaskLine). IsAllowed task_format TaskLineFits (slot_of_due (row_of j).due) (test_of_due j.tracker.ranges (row_of j).due) x) (sym same) allowed)
        (ap task_line_bytes same)
        (moved ∙ ap (λ (x : Move). after_move x k.said.number j.tracker) (sym says.moves)));
    item = says.moves;
    counts = same;
  }

  -- the line is the bytes before the last byte that was taken, without a CR at their end
  pub taken_line : (event : Event) → MovesAhead j bytes k event rest → (line : List ℕ) → line ≡ without_return (take (length bytes - length rest - 1) bytes) → FrontOf (line ∷ []) rest bytes × JudgesLine j line k (Ok event) × ((row_of j).moves ≡ moves.Item) × (k.counts ≡ j.counts)
  taken_line event h line is =
      let p = plain h.line h.plain in
      subst (λ (l : List ℕ). FrontOf (l ∷ []) rest bytes × JudgesLine j l k (Ok event) × ((row_of j).moves ≡ moves.Item) × (k.counts ≡ j.counts)) (line_before_end h.line rest bytes p h.before ∙ sym is) (front_of_lines (h.line ∷ []) rest bytes (p, tt) h.before, h.moves, h.item, h.counts)
