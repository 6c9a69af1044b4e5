-- What went out of a text that was put in pieces.
use Rattle.std.proofs.lemmas.Grind.{common_steps}
use Rattle.sas_answers.proofs.Imports.{◌≡◌, ◌⊎◌, ℕ, ◌+◌, ◌^◌, ◌<◌, List, [], ◌++◌, length, take, append-nil, length-append, take_at, arith, refl, sym, ap, subst, ◌∙◌, Option, Some, None, Result, Ok, Err, IfErr, IsErrOf, Appends, Device, Short, Status, ToolFault, Memory, Read, TooLong, Write, Output, StopsAt, Ends, EndsCounting, IsWrite, Writes, Answers, Piece, Puts, Breaks}

-- what was put where nothing is held in the end went out
pub all_sent : (a b : Option (List ℕ)) (p q : Piece) (bytes whole : List ℕ) → p ≡ record { held = []; written = 0 } → q.held ≡ [] → bytes ≡ whole → Puts a b p q bytes → Appends a b whole
all_sent a b p q bytes whole starts empty is puts =
    let sent : bytes ≡ puts.gone = sym (ap (λ (r : Piece). r.held ++ bytes) starts) ∙ puts.whole ∙ ap (λ (l : List ℕ). puts.gone ++ l) empty ∙ append-nil puts.gone in
    subst (Appends a b) (sym sent ∙ is) puts.sent

-- and where a write failed the first bytes went out, as many as are counted
pub first_counted : (a b : Option (List ℕ)) (p : Piece) (bytes whole : List ℕ) (short : Short) → p ≡ record { held = []; written = 0 } → bytes ≡ whole → Breaks a b p bytes short
    → (number : ℕ) × (number < 2 ^ 64 → short.written ≡ number) × (number < length whole) × Appends a b (take number whole)
first_counted a b p bytes whole short starts is broken =
    let parts : whole ≡ broken.gone ++ broken.rest = sym is ∙ sym (ap (λ (r : Piece). r.held ++ bytes) starts) ∙ broken.whole in
    let lengths : length whole ≡ length broken.gone + length broken.rest = ap length parts ∙ length-append broken.gone broken.rest in
    let zero_before : p.written ≡ 0 = ap (λ (r : Piece). r.written) starts in
    let first : take (length broken.gone) whole ≡ broken.gone = ap (take (length broken.gone)) parts ∙ take_at broken.gone broken.rest (length broken.gone) refl in (
      length broken.gone,
      λ fits. broken.counted (omega (arith, zero_before, fits)) ∙ ap (λ (n : ℕ). n + length broken.gone) zero_before ∙ omega arith,
      omega (arith, lengths, broken.some),
      subst (Appends a b) (sym first) broken.sent,
    )

-- ---- how a run ends

module _ (Out : Option Output → Type 0) (Sent : List ℕ → Type 0) where
  -- what ends with an exact number ends with one that is exact where it can be
  pub counting_ends : (r : Result Status ToolFault) → Ends Out Sent r → EndsCounting Out Sent r
  counting_ends (Ok status) ends = ends
  counting_ends (Err (Write written)) stops = (written, λ _. refl, stops)
  counting_ends (Err TooLong) is = is
  counting_ends (Err Memory) is = tt
  counting_ends (Err Read) is = tt

  -- and the other way round where the output is short
  pub exact_ends : ((o : Output) → Out (Some o) → length o.text < 2 ^ 64) → (r : Result Status ToolFault) → EndsCounting Out Sent r → Ends Out Sent r
  exact_ends short (Ok status) ends = ends
  exact_ends short (Err (Write written)) (number, counts, (output, is, less, sent)) =
      subst (StopsAt Out Sent) (sym (counts (omega (arith, less, short output is)))) (output, is, less, sent)
  exact_ends short (Err TooLong) is = is
  exact_ends short (Err Memory) is = tt
  exact_ends short (Err Read) is = tt

-- what ends with one output ends with another that follows from it
pub ends_by : (Sent : List ℕ → Type 0) (A B : Option Output → Type 0) (r : Result Status ToolFault) → ((o : Option Output) → A o → B o) → EndsCounting A Sent r → EndsCounting B Sent r
ends_by Sent A B (Ok status) to (output, is, same, sent) = (output, to (Some output) is, same, sent)
ends_by Sent A B (Err (Write written)) to (number, counts, (output, is, less, sent)) = (number, counts, (output, to (Some output) is, less, sent))
ends_by Sent A B (Err TooLong) to is = to None is
ends_by Sent A B (Err Memory) to is = tt
ends_by Sent A B (Err Read) to is = tt

-- and with an output that is right
pub ends_counting_as : (o : Output) (Sent : List ℕ → Type 0) (Out : Option Output → Type 0) (r : Result Status ToolFault) → Out (Some o)
    → EndsCounting (λ output. output ≡ Some o) Sent r → EndsCounting Out Sent r
ends_counting_as o Sent Out r right = ends_by Sent (λ output. output ≡ Some o) Out r (λ output is. subst Out (sym is) right)

-- ---- what a call promises that writes

unread : (Q : Type 0) (r : Result Status ToolFault) → IfErr r (λ e. IsWrite e ⊎ ((e ≡ Memory) × Q)) → IsErrOf r Read → ⊥
unread Q r starved is = grind (arith, common_steps)

unwritten : (Q : Type 0) (r : Result Status ToolFault) → IfErr r (λ e. IsWrite e ⊎ ((e ≡ Memory) × Q)) → IfErr r (λ e. IsWrite e ⊎ Q)
unwritten Q r starved = grind (arith, common_steps)

module _ {W : Type 0} (contents : W → Option (List ℕ)) (old new : Device W) (r : Result Status ToolFault) where
  -- it writes an output that follows from the one that it wrote
  pub writes_by : (A B : Option Output → Type 0) → ((o : Option Output) → A o → B o) → Writes contents (EndsCounting A) old new r → Writes contents (EndsCounting B) old new r
  writes_by A B to w = record { ends = ends_by _ A B r to w.ends; nothing = w.nothing; writes = w.writes }

  -- one that is right
  pub writes_as : (o : Output) (Out : Option Output → Type 0) → Out (Some o) → Writes contents (EndsCounting (λ output. output ≡ Some o)) old new r → Writes contents (EndsCounting Out) old new r
  writes_as o Out right = writes_by (λ output. output ≡ Some o) Out (λ output is. subst Out (sym is) right)

  -- whose bytes may be counted exactly
  pub writes_counting : (Out : Option Output → Type 0) → Writes contents (Ends Out) old new r → Writes contents (EndsCounting Out) old new r
  writes_counting Out w = record { ends = counting_ends Out _ r w.ends; nothing = w.nothing; writes = w.writes }

  -- it answers about inputs where what it wrote does, and didn't end at a failed read
  pub writes_answers : (A B : (List ℕ → Type 0) → Result Status ToolFault → Type 0) → ((Sent : List ℕ → Type 0) → (IsErrOf r Read → ⊥) → A Sent r → B Sent r) → Writes contents A old new r → Answers contents B old new r
  writes_answers A B to w = record { ends = to _ (unread (new ≡ old) r w.nothing) w.ends; nothing = unwritten (new ≡ old) r w.nothing; writes = w.writes }

  -- and where another answer does
  pub answers_by : (A B : (List ℕ → Type 0) → Result Status ToolFault → Type 0) → ((Sent : List ℕ → Type 0) → A Sent r → B Sent r) → Answers contents A old new r → Answers contents B old new r
  answers_by A B to w = record { ends = to _ w.ends; nothing = w.nothing; writes = w.writes }
