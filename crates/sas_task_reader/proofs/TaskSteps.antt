-- One more line of a task moves the machine.
use Rattle.sas_task_reader.proofs.Imports.{◌≡◌, ℕ, ◌+◌, List, [], ◌∷◌, ◌++◌, sym, ap, ◌∙◌, Ok, FrontOf, LinesAccepted, one_more, TaskLine, task_line_bytes, task_format, TaskLineFits, SoFar, Event, LineValues, after, map-append, after_append, TaskJudge, table_node, table_start, state_of, row_of, JudgesLine, NotesLine, TaskMachine, LedBy, HasNoted, TaskState, tracker_start, track, track_line, number_in, after_count, Move, length, length-map, arith}
use Rattle.sas_task_file.specs.declared.places.Move.TheVariants as by
use Rattle.sas_task_file.proofs.TableLines.{tracked, of_table_line}
use Rattle.sas_task_reader.proofs.Noting.{noted_on}

-- the judge k has noted one line more than the judge j
abbrev pub NotesNext : List (List ℕ) → TaskJudge → TaskJudge → Type 0
NotesNext before j k = (items : List TaskLine) (item : TaskLine) → length items ≡ length before → track tracker_start items ≡ j.tracker → HasNoted items j → track_line j.tracker item ≡ k.tracker → HasNoted (items ++ item ∷ []) k

pub notes_line : (before : List (List ℕ)) (j k : TaskJudge) (number : ℕ) → length before + 1 ≡ number → NotesLine j number k → NotesNext before j k
notes_line before j k number line n = λ items item many tracks noted leads. noted_on items item j k tracks noted leads number k.said.number (omega (arith, line, many)) n.0 n.1

notes_ahead : (before : List (List ℕ)) (j k : TaskJudge) → (row_of j).moves ≡ by.Item → k.counts ≡ j.counts → NotesNext before j k
notes_ahead before j k item_is same = λ items item many tracks noted leads.
    let l = 1 + length items in
    noted_on items item j k tracks noted leads l (number_in item) (omega arith) (sym leads) (same ∙ sym (ap (λ (m : Move). after_count m l (number_in item) j.counts) item_is))

-- a machine that a line moves is led by this line as well, whatever `said` becomes
pub led_on : {K : Type 0} (keeps : List (List ℕ) → SoFar → K → Type 0) (before : List (List ℕ)) (m : TaskMachine K) (j : TaskJudge) (said : LineValues) (kept : K) (event : Event) (line : List ℕ) → LedBy keeps before m → JudgesLine m.judge line j (Ok event)
    → ((lines : List (List ℕ)) (s : SoFar) → keeps lines s m.kept → keeps (lines ++ line ∷ []) (after s event j.said line) kept) → NotesNext before m.judge j → LedBy keeps (before ++ line ∷ []) (record m { judge = record j { said = said }; kept = kept })
led_on keeps before m j said kept event line h moves keeps_on notes =
    let t = after h.so_far event j.said line in
    let on = moves h.so_far in
    let x = state_of m.judge h.so_far in
    let leads = of_table_line x on.item (λ y. y ≡ state_of j t) on.leads in
    let noted = notes h.leads.items on.item (sym (length-map h.leads.items task_line_bytes) ∙ ap length h.leads.spells) (tracked h.leads.items table_start x h.leads.after) h.counts (ap (λ (y : TaskState). y.tracker) leads.1) in
    record {
      so_far = t;
      leads = record {
        items = h.leads.items ++ on.item ∷ [];
        after = after_append task_format TaskLineFits table_node table_start (state_of m.judge h.so_far) (state_of j t) h.leads.items (on.item ∷ []) h.leads.after on.leads;
        spells = map-append task_line_bytes h.leads.items (on.item ∷ []) ∙ ap (λ (l : List (List ℕ)). l ++ task_line_bytes on.item ∷ []) h.leads.spells ∙ ap (λ (l : List ℕ). before ++ l ∷ []) on.spells;
      };
      kept = keeps_on before h.so_far h.kept;
      counts = record { section = noted.section; here = noted.here };
    }

-- one more line is accepted ahead
pub next_line : {K : Type 0} (keeps : List (List ℕ) → SoFar → K → Type 0) (m : TaskMachine K) (bytes : List ℕ) (n : TaskMachine K) (count : ℕ) (rest : List ℕ) → LinesAccepted (LedBy keeps) m bytes n count rest → (j : TaskJudge) (said : LineValues) (kept : K) (event : Event) (line left : List ℕ) → FrontOf (line ∷ []) left rest × JudgesLine n.judge line j (Ok event) × ((row_of n.judge).moves ≡ by.Item) × (j.counts ≡ n.judge.counts)
    → ((lines : List (List ℕ)) (s : SoFar) → keeps lines s n.kept → keeps (lines ++ line ∷ []) (after s event j.said line) kept) → LinesAccepted (LedBy keeps) m bytes (record n { judge = record j { said = said }; kept = kept }) (count + 1) left
next_line keeps m bytes n count rest h j said kept event line left ahead keeps_on =
    one_more (LedBy keeps) m bytes n count rest h (record n { judge = record j { said = said }; kept = kept }) line left ahead.0
    (λ before led. led_on keeps before n j said kept event line led ahead.1 keeps_on (notes_ahead before n.judge j ahead.2 ahead.3))
