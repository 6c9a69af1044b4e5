-- What is counted and noted goes on to fit the state.
use Rattle.sas_axioms.proofs.Imports.{arith, ◌≡◌, ℕ, ◌≤◌, List, ◌++◌, length, get_or, set, sym, ◌∙◌, All, Contains, heap_items, All-contains, All-append, Parts, rule_at, IsState, IsOnLayer, IsLayered, looks_down, SameOff, get_or-set_other, Agenda, Work, IsAwaited, RemovesFromAgenda, AreCounted, IsHolding, AsksAbout, CountsChange, IsOnTrack, KeepsRoom, IsRuleOn, no_effect}
use Rattle.sas_axioms.proofs.Counters.{all_hold_when_none_open, none_open_when_all_hold}

-- what holds of all elements of a list holds of those of one that has no others
pub all_still : {X : Type 0} (P : X → Type 0) (xs ys : List X) → All (Contains xs) ys → All P xs → All P ys
all_still P xs ys still all k d lt = All-contains P xs (get_or ys k d) all (still k d lt)

-- a counter is at zero just where the rule holds
pub holding_when_zero : (p : Parts) (layer rule : ℕ) (s counters : List ℕ) → AreCounted p s counters → IsRuleOn p layer rule → get_or counters rule 0 ≡ 0 → IsHolding p s rule
holding_when_zero p layer rule s counters counts is zero = all_hold_when_none_open (λ v. get_or s v 0) (rule_at p rule).conditions (sym (counts.exact layer rule is) ∙ zero)

pub zero_when_holding : (p : Parts) (layer rule : ℕ) (s counters : List ℕ) → AreCounted p s counters → IsRuleOn p layer rule → IsHolding p s rule → get_or counters rule 0 ≡ 0
zero_when_holding p layer rule s counters counts is hold = counts.exact layer rule is ∙ none_open_when_all_hold (λ v. get_or s v 0) (rule_at p rule).conditions hold

-- a rule that is awaited is on the layer
pub awaited_on : (p : Parts) (layer rule : ℕ) (s : List ℕ) (w : Work) → IsOnTrack p layer s w → IsAwaited w.agenda layer rule → IsRuleOn p layer rule
awaited_on p layer rule s w track awaited = grind (arith, heap_items)

-- the work with another agenda
abbrev pub with_agenda : Work → Agenda → Work
with_agenda w a = record { layer = w.layer; counters = w.counters; stack = w.stack; sources = w.sources; agenda = a }

-- a rule is taken off
pub track_taken : (p : Parts) (layer rule : ℕ) (s : List ℕ) (w : Work) (a' : Agenda) → IsOnTrack p layer s w → RemovesFromAgenda layer rule w.agenda a'
    → IsOnTrack p layer s (with_agenda w a')
track_taken p layer rule s w a' track takes = search (arith, all_still)

-- rules of the layer are made ready
pub track_ready : (p : Parts) (layer : ℕ) (s : List ℕ) (w : Work) (a' : Agenda) (rules : List ℕ) → IsOnTrack p layer s w → All (λ (r : ℕ). IsRuleOn p layer r) rules
    → a'.ready.items ≡ w.agenda.ready.items ++ rules → a'.noted ≡ w.agenda.noted
    → IsOnTrack p layer s (with_agenda w a')
track_ready p layer s w a' rules track all ready noted = record {
  state = track.state;
  counts = track.counts;
  places = track.places;
  ordered = rw noted track.ordered;
  noted = rw noted track.noted;
  from = rw noted track.from;
  ready = rw ready (All-append (λ (r : ℕ). IsRuleOn p layer r) w.agenda.ready.items rules track.ready all);
}

-- a rule that asks about a variable is on no lower layer
pub asks_down : (p : Parts) (layer var : ℕ) → IsLayered p → IsOnLayer p layer var → (its rule : ℕ) → IsRuleOn p its rule → AsksAbout p var rule → layer ≤ its
asks_down p layer var layered on its rule is asks = grind (arith, rule_at, no_effect, looks_down)

-- a variable changes about which no rule of a lower layer asks
pub track_moved : (p : Parts) (layer var : ℕ) (s s' : List ℕ) (w w' : Work) → ((its rule : ℕ) → IsRuleOn p its rule → AsksAbout p var rule → layer ≤ its) → IsState p.variables s'
    → IsOnTrack p layer s w → CountsChange p var s w s' w' → length w'.sources ≡ length w.sources → IsOnTrack p layer s' w'
track_moved p layer var s s' w w' down state track moves sources = grind (arith, heap_items, get_or)

-- a source is set
pub track_set : (p : Parts) (layer : ℕ) (s : List ℕ) (w : Work) (sources : List ℕ) → length sources ≡ length w.sources → IsOnTrack p layer s w
    → IsOnTrack p layer s (record { layer = w.layer; counters = w.counters; stack = w.stack; sources = sources; agenda = w.agenda })
track_set p layer s w sources same track = grind arith

-- ---- what a variable of the layer leaves alone

pub off_step : (p : Parts) (layer at : ℕ) (s0 s s' : List ℕ) (var value : ℕ) → at ≡ layer → SameOff p layer s0 s → IsOnLayer p at var → s' ≡ set s var value → SameOff p layer s0 s'
off_step p layer at s0 s s' var value same so_far on is v off = grind (arith, get_or-set_other)

pub room_more : (w w' w'' : Work) → KeepsRoom w w' → KeepsRoom w' w'' → KeepsRoom w w''
room_more w w' w'' a b = record { layer = b.layer ∙ a.layer; stack = b.stack ∙ a.stack; one_each = b.one_each ∙ a.one_each; sources = b.sources ∙ a.sources }
