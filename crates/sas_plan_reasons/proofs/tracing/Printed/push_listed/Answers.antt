-- The variable at the next place of the list is printed.
use Rattle.sas_plan_reasons.proofs.Imports.{◌≡◌, ℕ, ◌+◌, ◌<◌, ◌≤◌, List, length, get_or, sym, ap, ◌∙◌, subst, arith, get_or_default, Listing, Pushes, pushes_then}
use Rattle.sas_plan_reasons.proofs.Changing.{IsNext, listed_next, listed_more, listed_all, printed_next, text_next, printed_all, text_all}
use Rattle.sas_plan_reasons.proofs.tracing.Printed.push_listed.Goals as goal

-- what stands at a place of the list that is read stands there in the list that was passed
at_place : (now listed : List ℕ) (index var : ℕ) → now ≡ listed → index < length listed → var ≡ get_or now index var → get_or listed index 0 ≡ var
at_place now listed index var same lt is = search (arith, get_or_default, get_or)

pub loop-index-preserved : goal.loop-index-preserved
loop-index-preserved g c =
    let task = c.args.task.now in
    let s = c.args.self.now.values in
    let s' = c.args.state.now in
    let listed = c.args.self.now.listing.vars.items in
    let inv = c.loop-index.invariant in
    let index = c.loop-index.index in
    let var = c.index-var.result.now in
    let values = c.loop-index.self.values in
    let fits = c.requires.fits ∙ sym c.requires.state in
    let lt : index < length listed = omega (arith, c.loop-index-test.true, c.len-index-end.ensures, c.args.self.now.listing.vars.ok.0) in
    let is = at_place c.loop-index.self.listing.vars.items listed index var (ap (λ (its : Listing). its.vars.items) inv.listing) lt c.index-var.ensures in
    let next = subst (IsNext task s s' inv.upto) is (listed_next task s s' listed c.requires.ascending c.requires.cover fits index inv.upto inv.at lt) in
    record {
      listing = c.push_change.ensures.listing ∙ inv.listing;
      upto = var + 1;
      at = rw is at (listed_more task s s' listed c.requires.ascending c.requires.cover fits index inv.upto inv.at lt);
      printed = rw c.push_change.ensures.printed (printed_next task s s' values inv.upto inv.printed var next);
      pushes = subst (Pushes g.W.Write.contents _ _) (text_next task s s' values inv.upto inv.printed var next) (pushes_then _ _ _ _ _ _ inv.pushes c.push_change.ensures.pushes);
    }

pub returns : goal.returns
returns g c =
    let task = c.args.task.now in
    let s = c.args.self.now.values in
    let s' = c.args.state.now in
    let listed = c.args.self.now.listing.vars.items in
    let inv = c.loop-index.invariant in
    let values = c.loop-index.self.values in
    let fits = c.requires.fits ∙ sym c.requires.state in
    let all : length listed ≤ c.loop-index.index = omega (arith, c.loop-index-test.false, c.len-index-end.ensures, c.args.self.now.listing.vars.ok.0) in
    let within : inv.upto ≤ length task.variables = omega (arith, inv.at.within, c.requires.state) in
    let still = listed_all task s s' listed c.requires.ascending c.requires.cover fits c.loop-index.index inv.upto inv.at all in
    record {
      pushes = subst (Pushes g.W.Write.contents _ _) (text_all task s s' values inv.upto inv.printed c.requires.state within still) inv.pushes;
      listing = inv.listing;
      printed = printed_all task s s' values inv.upto inv.printed c.requires.state within still;
    }
