-- Updating the counters for the basic variables that changed, one at a time.
use Rattle.sas_axioms.proofs.Imports.{◌≡◌, ◌≢◌, ℕ, zero, suc, ◌<◌, List, [], ◌∷◌, length, get_or, set, refl, sym, ◌∙◌, ap, subst, inl, inr, arith, All, cases_eq, get_or-set_same, get_or-set_other, set-get_or, All-nil, All-cons, All-head, All-tail, Reverse, Fact, Parts, IsState, HaveGone, IsBasic, IsOnLayer, IsSettledAt, Holds, differs_same, Work, LayerRule, IsEmpty, SourcesHold, CountsChange, IsFollowed, IsBetween, IsRuleOn}
use Rattle.std.proofs.lemmas.Grind.{same_number_lists}
use Rattle.sas_axioms.proofs.FallingSteps.{noted_moved}
use Rattle.sas_axioms.proofs.Sources.{sources_same}
use Rattle.sas_axioms.proofs.Tracking.{track_moved}

-- ---- the facts that are gone

-- the first of them is no longer among them, where its variable has its new value
module _ (p : Parts) (f : Fact) (rest : List Fact) (m s : List ℕ) (have : HaveGone p (f ∷ rest) m s) where
  not_first : All (λ (g : Fact). f.var ≢ g.var) rest
  not_first k d lt = have.once zero (suc k) d (omega arith) (omega arith)

  pub gone_one : f.var < length m → HaveGone p rest (set m f.var (get_or s f.var 0)) s
  gone_one within = record {
    basic = All-tail (λ (g : Fact). IsBasic p g.var) f rest have.basic;
    exist = All-tail (λ (g : Fact). g.var < length p.variables) f rest have.exist;
    held = λ k d lt. get_or-set_other m f.var (get_or rest k d).var (get_or s f.var 0) 0 (λ e. not_first k d lt (sym e))
        ∙ All-tail (Holds (λ v. get_or m v 0)) f rest have.held k d lt;
    once = λ i j d lt below. have.once (suc i) (suc j) d (omega arith) (omega arith);
    others = λ v not. elim (cases_eq v f.var) [
      | inl e ↦ subst (λ x. get_or s x 0 ≡ get_or (set m f.var (get_or s f.var 0)) x 0) (sym e) (sym (get_or-set_same m f.var (get_or s f.var 0) 0 within))
      | inr ne ↦ have.others v (All-cons (λ (g : Fact). g.var ≢ v) f rest (λ e. ne (sym e)) not) ∙ sym (get_or-set_other m f.var v (get_or s f.var 0) 0 ne)
    ];
  }

  -- the variable has the value that it had
  pub gone_same : f.var < length m → f.value ≡ get_or s f.var 0 → HaveGone p rest m s
  gone_same within same = subst (λ xs. HaveGone p rest xs s)
      (ap (λ x. set m f.var x) (sym same ∙ sym (All-head (Holds (λ v. get_or m v 0)) f rest have.held)) ∙ set-get_or m f.var 0) (gone_one within)

-- where none is left, the values are those of the state
pub gone_all : (p : Parts) (m s : List ℕ) → length m ≡ length s → HaveGone p [] m s → m ≡ s
gone_all p m s one_each have = same_number_lists m s one_each (λ v lt. sym (have.others v (All-nil (λ (g : Fact). g.var ≢ v))))

-- ---- what is counted

pub counted_nothing : (p : Parts) (s : List ℕ) (w : Work) → IsFollowed p s w → IsEmpty w.agenda → IsBetween p s 0 s w
counted_nothing p s w followed empty = record {
  layered = followed.layered;
  track = record {
    state = followed.state;
    counts = followed.counts;
    places = followed.places;
    ordered = empty.ordered;
    noted = rw empty.noted (All-nil (λ (e : Reverse LayerRule). IsRuleOn p e.0.layer e.0.rule));
    from = λ k d lt. omega arith;
    ready = rw empty.ready (All-nil (λ (r : ℕ). IsRuleOn p 0 r));
  };
  to = record {
    settled = followed.settled;
    same = λ layer v le on. refl;
    noted = λ layer rule le on. inr ((λ h. h), (λ h. h));
    have = λ layer. (followed.given layer).have;
    held = λ layer le. (followed.given layer).hold;
  };
  below = λ n lt. absurd {A = IsSettledAt p n s} (omega arith);
  hold = λ n lt. absurd {A = SourcesHold p n w.sources s s} (omega arith);
  empty = empty.ready;
}

-- one basic variable more
pub counted_more : (p : Parts) (s0 m : List ℕ) (w w' : Work) (v value : ℕ) → IsBasic p v → IsState p.variables (set m v value) → w'.sources ≡ w.sources → IsBetween p s0 0 m w
    → CountsChange p v m w (set m v value) w' → IsBetween p s0 0 (set m v value) w'
counted_more p s0 m w w' v value basic state same_sources so_far moves = record {
  layered = so_far.layered;
  track = track_moved p 0 v m (set m v value) w w' (λ its rule on asks. omega arith) state so_far.track moves (ap length same_sources);
  to = rw same_sources record {
    settled = so_far.to.settled;
    same = λ layer u le on. so_far.to.same layer u le on ∙ sym (kept layer u on);
    noted = noted_moved p 0 v s0 m (set m v value) w w' moves so_far.to.noted;
    have = λ layer. sources_same p layer m (set m v value) w.sources w.sources (kept layer) (λ u on. refl) (so_far.to.have layer);
    held = λ layer le u on d. so_far.to.held layer le u on (differs_same p (set m v value) m u (kept layer u on) d);
  };
  below = λ n lt. absurd {A = IsSettledAt p n (set m v value)} (omega arith);
  hold = λ n lt. absurd {A = SourcesHold p n w'.sources (set m v value) (set m v value)} (omega arith);
  empty = rw moves.notes.ready so_far.empty;
}
  where
    kept : (layer u : ℕ) → IsOnLayer p layer u → get_or (set m v value) u 0 ≡ get_or m u 0
    kept layer u on = get_or-set_other m v u value 0 (λ e. (let a = subst (λ x. IsOnLayer p layer x) e on in let b = basic in cc))
