-- The machine moves past a section that is stored at once.
use Rattle.sas_task_reader.proofs.Imports.{◌≡◌, ℕ, List, [], ◌∷◌, ◌++◌, take, sym, ap, ◌∙◌, Ok, Some, Option, IsFront, AcceptsAhead, lines, lines-none, map-append, after_append, TaskLine, task_line_bytes, task_format, TaskLineFits, variable_lines, group_lines, operator_lines, rule_lines, spelled, LinesAhead, TaskJudge, TaskMachine, table_node, table_start, state_of, behind_variable, behind_group, behind_operator, behind_rule, past_section, SectionDue, LedBy, Section, ContentOf, section_lines, behind_section, SectionAhead, ParsedSection, SoFar, Tracker, WrongWord, Place, Counts, count_at, Front, length, None}
use Rattle.sas_task_reader.specs.declared.task_judge.sections.Section.TheVariants as sections
use Rattle.sas_task_file.proofs.Stretches.{LeadsOn}
use Rattle.sas_task_file.proofs.TableLines.{tracked}
use Rattle.sas_task_reader.proofs.Noting.{KeepsCount, noted_past, variable_keeps, group_keeps, operator_keeps, rule_keeps}
use Rattle.sas_task_reader.proofs.SectionLines.{variable_on, group_on, operator_on, rule_on}

-- lines that are stored at once have at least one byte
some_bytes : (i : TaskLine) (items : List TaskLine) (bytes : List ℕ) (front : Front) → LinesAhead (i ∷ items) bytes front → front.bytes ≡ 0 → ⊥
some_bytes i items bytes front h zero =
    let none : [] ≡ spelled (i ∷ items) = sym lines-none ∙ ap (λ (n : ℕ). lines (take n bytes)) (sym zero) ∙ h.stands.stand.lines in
    absurd cc

-- the judge with another tracker
abbrev pub with_tracker : TaskJudge → Tracker → TaskJudge
with_tracker j t = record j { tracker = t }

module _ {K : Type 0} (keeps : List (List ℕ) → SoFar → K → Type 0) (m : TaskMachine K) (next : Tracker) (kept : K) (bytes : List ℕ) (front : Front) where
  -- the keeper stored a section that leads the tracker to `next`
  pub record SectionKept : Type 0 where
    pub items : List TaskLine
    pub behind : SoFar → SoFar
    pub leads : (s : SoFar) → LeadsOn (state_of m.judge s) items (record { tracker = next; so_far = behind s })
    pub keeps_on : (lines : List (List ℕ)) (s : SoFar) → keeps lines s m.kept → keeps (lines ++ spelled items) (behind s) kept
    pub stands : IsFront (spelled items) bytes front
    pub some : front.bytes ≡ 0 → ⊥
    pub in_section : (c : Counts) → count_at next.place (length next.ranges) c ≡ Some c.section
    pub counts : KeepsCount m.judge.tracker items

  module _ (k : SectionKept) where
    -- its lines lead the machine as well
    led_behind : (wrong : Option WrongWord) (before : List (List ℕ)) → LedBy keeps before m → LedBy keeps (before ++ spelled k.items) (record { judge = with_tracker m.judge next; kept = kept; wrong = wrong })
    led_behind wrong before h =
        record {
          so_far = k.behind h.so_far;
          leads = record {
            items = h.leads.items ++ k.items;
            after = after_append task_format TaskLineFits table_node table_start (state_of m.judge h.so_far) (record { tracker = next; so_far = k.behind h.so_far }) h.leads.items k.items h.leads.after (k.leads h.so_far);
            spells = map-append task_line_bytes h.leads.items k.items ∙ ap (λ (l : List (List ℕ)). l ++ spelled k.items) h.leads.spells;
          };
          kept = k.keeps_on before h.so_far h.kept;
          counts = noted_past h.leads.items k.items m.judge next (tracked h.leads.items table_start (state_of m.judge h.so_far) h.leads.after) h.counts k.in_section k.counts;
        }

    -- and the machine accepts it
    pub accepts : (j : TaskJudge) (wrong : Option WrongWord) → j ≡ with_tracker m.judge next → AcceptsAhead (LedBy keeps) m bytes (record { judge = j; kept = kept; wrong = wrong }) (Ok front)
    accepts j wrong is = rw is record {
      took = λ _. (spelled k.items, k.stands, led_behind wrong);
      none = λ zero. absurd (k.some zero);
      memory = tt;
    }

module _ {K : Type 0} (keeps : List (List ℕ) → SoFar → K → Type 0) (m : TaskMachine K) (kept : K) (bytes : List ℕ) (parsed : ParsedSection) where
  -- what is stored of a section leads past it
  pub section_kept : (section : Section) (a : ContentOf section) → SectionDue m.judge section → SectionAhead section m.judge.tracker.ranges bytes a parsed
      → ((lines : List (List ℕ)) (s : SoFar) → keeps lines s m.kept → keeps (lines ++ spelled (section_lines section a)) (behind_section section s a) kept) → SectionKept keeps m (past_section parsed.range m.judge.tracker) kept bytes parsed.front
  section_kept sections.Variable v due h keeps_on =
      rw h.1 (record { items = variable_lines v; behind = λ s. behind_variable s v; leads = λ s. variable_on m.judge.tracker s v due.0 due.1 h.0.0 h.0.1.fits; keeps_on = keeps_on; stands = h.0.1.stands; some = some_bytes _ _ bytes parsed.front h.0.1; in_section = λ c. ap (λ (p : Place). count_at p (length (past_section (Some (length v.values)) m.judge.tracker).ranges) c) due.0; counts = variable_keeps m.judge.tracker due.1 due.0 v })
  section_kept sections.Group facts due h keeps_on =
      rw h.1 (record { items = group_lines facts; behind = λ s. behind_group s facts; leads = λ s. group_on m.judge.tracker s facts due.0 due.1 h.0.0 h.0.1.fits; keeps_on = keeps_on; stands = h.0.1.stands; some = some_bytes _ _ bytes parsed.front h.0.1; in_section = λ c. ap (λ (p : Place). count_at p (length (past_section None m.judge.tracker).ranges) c) due.0; counts = group_keeps m.judge.tracker due.1 due.0 facts })
  section_kept sections.Operator o due h keeps_on =
      rw h.1 (record { items = operator_lines o; behind = λ s. behind_operator s o; leads = λ s. operator_on m.judge.tracker s o due.0 due.1 h.0.0 h.0.1.fits; keeps_on = keeps_on; stands = h.0.1.stands; some = some_bytes _ _ bytes parsed.front h.0.1; in_section = λ c. ap (λ (p : Place). count_at p (length (past_section None m.judge.tracker).ranges) c) due.0; counts = operator_keeps m.judge.tracker due.1 due.0 o })
  section_kept sections.Rule r due h keeps_on =
      rw h.1 (record { items = rule_lines r; behind = λ s. behind_rule s r; leads = λ s. rule_on m.judge.tracker s r due.0 due.1 h.0.0 h.0.1.fits; keeps_on = keeps_on; stands = h.0.1.stands; some = some_bytes _ _ bytes parsed.front h.0.1; in_section = λ c. ap (λ (p : Place). count_at p (length (past_section None m.judge.tracker).ranges) c) due.0; counts = rule_keeps m.judge.tracker due.1 due.0 r })
