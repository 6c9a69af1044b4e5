-- Lines that a machine accepts ahead, one after another.
use Rattle.sas_reader.proofs.Imports.{◌≡◌, ℕ, ◌+◌, ◌-◌, ◌≤◌, List, [], ◌∷◌, ◌++◌, length, take, refl, sym, ap, subst, ◌∙◌, append_assoc, arith, length-append, Ok, append-nil, take_at, lines, unfinished, lines-append, unfinished-append, lines-few, lines-none, unfinished-none, FrontOf, AcceptsAhead}

module _ {M : Type 0} (led_by : List (List ℕ) → M → Type 0) (m : M) (bytes : List ℕ) where
  -- as many lines as `count` were accepted, and the rest is left
  pub record LinesAccepted (n : M) (count : ℕ) (rest : List ℕ) : Type 0 where
    pub front : List ℕ
    pub are : bytes ≡ front ++ rest
    pub whole : unfinished front ≡ []
    pub many : length (lines front) ≡ count
    pub few : count + length rest ≤ length bytes
    pub leads : (before : List (List ℕ)) → led_by before m → led_by (before ++ lines front) n
    pub none : count ≡ 0 → n ≡ m

  pub none_accepted : LinesAccepted m 0 bytes
  none_accepted = record { front = []; are = refl; whole = unfinished-none; many = ap length lines-none; few = omega arith; leads = λ before h. subst (λ l. led_by l m) (sym (ap (λ (l : List (List ℕ)). before ++ l) lines-none ∙ append-nil before)) h; none = λ _. refl }

  module _ (n : M) (count : ℕ) (rest : List ℕ) (h : LinesAccepted n count rest) where
    -- one more line with its end, which leads the machine to k
    pub one_more : (k : M) (line left : List ℕ) → FrontOf (line ∷ []) left rest → ((before : List (List ℕ)) → led_by before n → led_by (before ++ line ∷ []) k) → LinesAccepted k (count + 1) left
    one_more k line left one on =
        let both : lines (h.front ++ one.front) ≡ lines h.front ++ line ∷ [] = lines-append h.front one.front ∙ ap (λ (x : List ℕ). lines h.front ++ lines (x ++ one.front)) h.whole ∙ ap (λ (l : List (List ℕ)). lines h.front ++ l) one.lines in
        record {
          front = h.front ++ one.front;
          are = h.are ∙ ap (λ (x : List ℕ). h.front ++ x) one.are ∙ sym (append_assoc h.front one.front left);
          whole = unfinished-append h.front one.front ∙ ap (λ (x : List ℕ). unfinished (x ++ one.front)) h.whole ∙ one.whole;
          many = ap length both ∙ length-append (lines h.front) (line ∷ []) ∙ ap (λ x. x + 1) h.many;
          few = omega (arith, h.few, ap length one.are, length-append one.front left, lines-few one.front, ap length one.lines);
          leads = λ before led. subst (λ l. led_by l k) (append_assoc before (lines h.front) (line ∷ []) ∙ ap (λ (l : List (List ℕ)). before ++ l) (sym both)) (on (before ++ lines h.front) (h.leads before led));
          none = λ zero. absurd (omega (arith, zero));
        }

    -- the machine accepts their bytes
    pub accepted : AcceptsAhead led_by m bytes n (Ok (record { lines = count; bytes = length bytes - length rest }))
    accepted =
        let size = length bytes - length rest in
        let long : length h.front ≡ size = omega (arith, ap length h.are, length-append h.front rest) in
        let taken : take size bytes ≡ h.front = ap (take size) h.are ∙ take_at h.front rest size long in
        record {
          took = λ some. (lines h.front, record { stand = record { within = omega arith; lines = ap lines taken; rest = ap unfinished taken ∙ h.whole }; many = h.many }, h.leads);
          none = λ zero. h.none (omega (arith, zero, h.few));
          memory = tt;
        }
