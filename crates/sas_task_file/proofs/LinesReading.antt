-- Reading several lines, each up to its end.
use Rattle.sas_task_file.proofs.Imports.{◌≡◌, ℕ, ◌+◌, ◌-◌, ◌<◌, ◌≤◌, inl, inr, Bool, List, [], ◌∷◌, ◌++◌, length, Option, refl, sym, ap, subst, ◌∙◌, append_assoc, length-append, arith, IsTrue, codes, flat_map, list_all, AllByRecursion, and_parts, flat_map-append, map-append, length-map, list_all-append, Fact, is_name, IsName, Change, Effect, EndedLines, LinesStandFirst, lines_stand_first, ended_lines_then, plain_lines, LineAhead, NumberAhead, LinesBefore, AppendedBefore, spelled, LinesAhead, VariableAhead, GroupAhead, OperatorAhead, RuleAhead, fact_in_ranges, effect_in_ranges, change_in_ranges, Front, IsPlain, TaskLine, word, name, number, signed, fact, effect, head, single_line, task_line_bytes, TaskLineFits, variable_lines, group_lines, operator_lines, rule_lines, and_from}
use Rattle.std.proofs.Common.{append-nil}
use Rattle.sas_flat.specs.Effects.{effect_with}
use Rattle.sas_flat.specs.Operators as flat
use Rattle.sas_flat.specs.Variables as flat_variables
use Rattle.sas_task_file.proofs.AheadReading.{number_is_ahead}

-- ---- some lines, then more

All-append : {A : Type 0} (P : A → Type 0) (xs ys : List A) → AllByRecursion P xs → AllByRecursion P ys → AllByRecursion P (xs ++ ys)
All-append P [] ys h g = g
All-append P (x ∷ xs) ys h g = (h.0, All-append P xs ys h.1 g)

spelled-append : (a b : List TaskLine) → spelled (a ++ b) ≡ spelled a ++ spelled b
spelled-append a b = map-append task_line_bytes a b

pub lines_then : {a b : List TaskLine} {bytes more rest : List ℕ} → LinesBefore a bytes more → LinesBefore b more rest → LinesBefore (a ++ b) bytes rest
lines_then {a = a} {b = b} {bytes = bytes} {more = more} {rest = rest} h g = record {
  fits = All-append TaskLineFits a b h.fits g.fits;
  plain = subst (AllByRecursion IsPlain) (sym (spelled-append a b)) (All-append IsPlain (spelled a) (spelled b) h.plain g.plain);
  before = subst (λ ls. EndedLines ls rest bytes) (sym (spelled-append a b)) (ended_lines_then (spelled a) (spelled b) bytes more rest h.before g.before);
}

pub one_line : {i : TaskLine} {bytes rest : List ℕ} → LineAhead i bytes rest → LinesBefore (i ∷ []) bytes rest
one_line h = record { fits = (h.fits, tt); plain = (h.plain, tt); before = h.before }

pub two_lines : {i j : TaskLine} {bytes more rest : List ℕ} → LineAhead i bytes more → LineAhead j more rest → LinesBefore (i ∷ j ∷ []) bytes rest
two_lines h g = lines_then (one_line h) (one_line g)

-- the rest is no longer than the bytes
ends_shorten : (ls : List (List ℕ)) (rest bytes : List ℕ) → EndedLines ls rest bytes → length rest ≤ length bytes
ends_shorten [] rest bytes e = omega (arith, ap length e)
ends_shorten (l ∷ ls) rest bytes e =
    let more = ends_shorten ls rest e.0 e.2 in
    elim e.1 [ inl is ↦ omega (arith, more, ap length is, length-append l (10 ∷ e.0)) | inr is ↦ omega (arith, more, ap length is, length-append l (13 ∷ 10 ∷ e.0)) ]

pub rest_fits : {items : List TaskLine} {bytes rest : List ℕ} → LinesBefore items bytes rest → length rest ≤ length bytes
rest_fits {items = items} {bytes = bytes} {rest = rest} h = ends_shorten (spelled items) rest bytes h.before

-- ---- a number, and this many lines

-- the bytes are this number, a line for each of these items, which are all allowed, and then the
-- rest
pub record CountedBefore {A : Type 0} (says : A → TaskLine) (may_stand : A → Bool)
    (count : ℕ) (each : List A) (bytes rest : List ℕ) : Type 0 where
  pub lines : LinesBefore (number count ∷ flat_map (single_line says) each) bytes rest
  pub stand : IsTrue (list_all may_stand each)

module _ {A : Type 0} (says : A → TaskLine) (may_stand : A → Bool) where
  pub one_more : {count : ℕ} (xs : List A) (x : A) {bytes more rest : List ℕ} → CountedBefore says may_stand count xs bytes more → LineAhead (says x) more rest → IsTrue (may_stand x) → CountedBefore says may_stand count (xs ++ x ∷ []) bytes rest
  one_more {count = count} xs x {bytes = bytes} {rest = rest} h g may =
      let more_lines : number count ∷ flat_map (single_line says) (xs ++ x ∷ []) ≡ (number count ∷ flat_map (single_line says) xs) ++ says x ∷ [] = ap (λ l. number count ∷ l) (flat_map-append (single_line says) xs (x ∷ [])) in
      record {
        lines = subst (λ l. LinesBefore l bytes rest) (sym more_lines) (lines_then h.lines (one_line g));
        stand = list_all-append may_stand xs (x ∷ []) ∙ and_from (list_all may_stand xs) (list_all may_stand (x ∷ [])) h.stand (and_from (may_stand x) _ may refl);
      }

  -- the same, where the items are appended to a list
  pub none_appended : (count : ℕ) (old : List A) {bytes rest : List ℕ} → NumberAhead bytes count 10 rest → AppendedBefore says may_stand count 0 old old bytes rest
  none_appended count old h = record { items = []; are = sym (append-nil old); many = refl; lines = one_line (number_is_ahead _ _ count h); stand = refl }

  -- one more was appended
  pub one_more_appended : {count done : ℕ} {old new end : List A} (x : A) {bytes more rest : List ℕ} → AppendedBefore says may_stand count done old new bytes more → end ≡ new ++ x ∷ [] → LineAhead (says x) more rest → IsTrue (may_stand x) → AppendedBefore says may_stand count (done + 1) old end bytes rest
  one_more_appended {old = old} x h is ahead may =
      let more = one_more h.items x (record { lines = h.lines; stand = h.stand }) ahead may in
      record {
        items = h.items ++ x ∷ [];
        are = is ∙ ap (λ l. l ++ x ∷ []) h.are ∙ append_assoc old h.items (x ∷ []);
        many = omega (arith, h.many, length-append h.items (x ∷ []));
        lines = more.lines;
        stand = more.stand;
      }

  -- all were appended
  pub all_appended : {count : ℕ} {old new : List A} {bytes rest : List ℕ} (h : AppendedBefore says may_stand count count old new bytes rest) → CountedBefore says may_stand (length h.items) h.items bytes rest
  all_appended h = rw h.many (record { lines = h.lines; stand = h.stand })

-- ---- from the first byte on

pub lines_are_ahead : (items : List TaskLine) (bytes rest : List ℕ) (front : Front) → LinesBefore items bytes rest → front.bytes ≡ length bytes - length rest → front.lines ≡ length items → LinesAhead items bytes front
lines_are_ahead items bytes rest front h taken many = record {
  fits = h.fits;
  plain = h.plain;
  stands = record {
    stand = subst (LinesStandFirst bytes (spelled items)) (sym taken) (lines_stand_first bytes rest (spelled items) (plain_lines (spelled items) h.plain) h.before);
    many = length-map items task_line_bytes ∙ sym many;
  };
}

one_each : {A : Type 0} (says : A → TaskLine) (xs : List A) → length (flat_map (single_line says) xs) ≡ length xs
one_each says [] = refl
one_each says (x ∷ xs) = let e = one_each says xs in omega (arith, e)

-- ---- a variable, a mutex group

all_named : (names : List (List ℕ)) → IsTrue (list_all is_name names) → AllByRecursion IsName names
all_named [] h = tt
all_named (w ∷ names) h =
    let each = and_parts (is_name w) (list_all is_name names) h in
    (each.0, all_named names each.1)

abbrev first_lines : List ℕ → Option ℕ → List TaskLine
first_lines label layer = word (codes "begin_variable") ∷ name label ∷ signed layer ∷ []

pub variable_is_ahead : (label : List ℕ) (layer : Option ℕ) (values : List (List ℕ)) (front : Front) {bytes names_on end_on rest : List ℕ} → IsName label × LinesBefore (first_lines label layer) bytes names_on → 0 < length values → CountedBefore name is_name (length values) values names_on end_on → LineAhead (word (codes "end_variable")) end_on rest → front.bytes ≡ length bytes - length rest → front.lines ≡ 5 + length values → VariableAhead bytes (flat_variables.variable label layer values) front
variable_is_ahead label layer values front {bytes = bytes} {rest = rest} begins some names ends taken many =
    let name_lines : List TaskLine = number (length values) ∷ flat_map (single_line name) values in
    let last : List TaskLine = word (codes "end_variable") ∷ [] in
    let items = variable_lines (flat_variables.variable label layer values) in
    let all : LinesBefore items bytes rest = lines_then (lines_then begins.1 names.lines) (one_line ends) in
    let long : length items ≡ 5 + length values = omega (arith, length-append (flat_map (single_line name) values) last, one_each name values) in
    (record { name = begins.0; values = all_named values names.stand; some = some }, lines_are_ahead items bytes rest front all taken (many ∙ sym long))

pub group_is_ahead : (ranges : List ℕ) (facts : List Fact) (front : Front) {bytes facts_on end_on rest : List ℕ} → LineAhead (word (codes "begin_mutex_group")) bytes facts_on → CountedBefore fact (fact_in_ranges ranges) (length facts) facts facts_on end_on → LineAhead (word (codes "end_mutex_group")) end_on rest → front.bytes ≡ length bytes - length rest → front.lines ≡ 3 + length facts → GroupAhead ranges bytes facts front
group_is_ahead ranges facts front {bytes = bytes} {rest = rest} begins before ends taken many =
    let last : List TaskLine = word (codes "end_mutex_group") ∷ [] in
    let items = group_lines facts in
    let all : LinesBefore items bytes rest = lines_then (lines_then (one_line begins) before.lines) (one_line ends) in
    let long : length items ≡ 3 + length facts = omega (arith, length-append (flat_map (single_line fact) facts) last, one_each fact facts) in
    (before.stand, lines_are_ahead items bytes rest front all taken (many ∙ sym long))

-- ---- an operator, a rule

abbrev begin_lines : List ℕ → List TaskLine
begin_lines label = word (codes "begin_operator") ∷ name label ∷ []

abbrev end_lines : ℕ → List TaskLine
end_lines cost = number cost ∷ word (codes "end_operator") ∷ []

module _ (ranges label : List ℕ) (cost : ℕ) (prevail : List Fact) (effects : List Effect) (front : Front) {bytes facts_on effects_on end_on rest : List ℕ} where
  pub operator_is_ahead : IsName label × LinesBefore (begin_lines label) bytes facts_on → CountedBefore fact (fact_in_ranges ranges) (length prevail) prevail facts_on effects_on → CountedBefore effect (effect_in_ranges ranges) (length effects) effects effects_on end_on → LinesBefore (end_lines cost) end_on rest → front.bytes ≡ length bytes - length rest → front.lines ≡ 6 + length prevail + length effects → OperatorAhead ranges bytes (flat.operator label prevail effects cost) front
  operator_is_ahead begins facts changes ends taken many =
      let fact_lines : List TaskLine = number (length prevail) ∷ flat_map (single_line fact) prevail in
      let effect_lines : List TaskLine = number (length effects) ∷ flat_map (single_line effect) effects in
      let items = operator_lines (flat.operator label prevail effects cost) in
      let all = lines_then (lines_then (lines_then begins.1 facts.lines) changes.lines) ends in
      let same : begin_lines label ++ fact_lines ++ effect_lines ++ end_lines cost ≡ items = ap (λ l. word (codes "begin_operator") ∷ name label ∷ l) (sym (append_assoc (fact_lines ++ effect_lines) (number cost ∷ []) (word (codes "end_operator") ∷ []))) in
      let long : length items ≡ 6 + length prevail + length effects = omega (arith, ap length same, length-append (begin_lines label ++ fact_lines ++ effect_lines) (end_lines cost), length-append (begin_lines label ++ fact_lines) effect_lines, length-append (begin_lines label) fact_lines, one_each fact prevail, one_each effect effects) in
      (record { name = begins.0; prevail = facts.stand; effects = changes.stand }, lines_are_ahead items bytes rest front (subst (λ l. LinesBefore l bytes rest) same all) taken (many ∙ sym long))

abbrev last_lines : Change → List TaskLine
last_lines c = head c.var c.old c.new ∷ word (codes "end_rule") ∷ []

pub rule_is_ahead : (ranges : List ℕ) (c : Change) (facts : List Fact) (front : Front) {bytes facts_on head_on rest : List ℕ} → LineAhead (word (codes "begin_rule")) bytes facts_on → CountedBefore fact (fact_in_ranges ranges) (length facts) facts facts_on head_on → IsTrue (change_in_ranges ranges c.var c.old c.new) × LinesBefore (last_lines c) head_on rest → front.bytes ≡ length bytes - length rest → front.lines ≡ 4 + length facts → RuleAhead ranges bytes (effect_with c facts) front
rule_is_ahead ranges c facts front {bytes = bytes} {rest = rest} begins before ends taken many =
    let fact_lines : List TaskLine = number (length facts) ∷ flat_map (single_line fact) facts in
    let items = rule_lines (effect_with c facts) in
    let all = lines_then (lines_then (one_line begins) before.lines) ends.1 in
    let same : word (codes "begin_rule") ∷ (fact_lines ++ last_lines c) ≡ items = ap (λ l. word (codes "begin_rule") ∷ l) (sym (append_assoc fact_lines (head c.var c.old c.new ∷ []) (word (codes "end_rule") ∷ []))) in
    let long : length items ≡ 4 + length facts = omega (arith, ap length same, length-append fact_lines (last_lines c), one_each fact facts) in
    (and_from _ _ before.stand ends.0, lines_are_ahead items bytes rest front (subst (λ l. LinesBefore l bytes rest) same all) taken (many ∙ sym long))
