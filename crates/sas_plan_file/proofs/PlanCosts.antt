-- Bytes that lack only a cost line, by their lines.
use Rattle.sas_plan_file.proofs.Imports.{◌≡◌, ◌≢◌, ◌↔◌, ℕ, List, [], ◌∷◌, ◌++◌, append-nil, append_assoc, refl, sym, ap, subst, ◌∙◌, lines, unfinished, without_return, lines-one, lines-append, lines-end, unfinished-append, unfinished-end, plain, IsPlain, PlanParts, Fault, Reads, AreAllLines, FaultOf, FaultIsNoText, IsAbout, of_line, of_byte, of_end, plan_format, PlanKind, IsCostLine, end_behind, with_end, LacksCostLine, rest_line, EndsWithoutCost}
use Rattle.sas_reader.specs.declared.fault.Kind.TheVariants as kinds
use Rattle.sas_plan_file.proofs.PlanEnds.{no_end_kind}
use Rattle.sas_plan_file.proofs.PlanGrammar.{plain-cost_line}

-- the bytes with an end have their lines and the rest, and then no rest
record Ended (bytes : List ℕ) : Type 0 where
  all : lines (with_end bytes) ≡ lines bytes ++ rest_line (unfinished bytes)
  none : unfinished (with_end bytes) ≡ []

ended_by : (bytes rest : List ℕ) → unfinished bytes ≡ rest → (lines (bytes ++ end_behind rest) ≡ lines bytes ++ rest_line rest) × (unfinished (bytes ++ end_behind rest) ≡ [])
ended_by bytes [] e = (ap lines (append-nil bytes) ∙ sym (append-nil (lines bytes)), ap unfinished (append-nil bytes) ∙ e)
ended_by bytes (b ∷ rest) e = (lines-end bytes ∙ ap (λ (r : List ℕ). lines bytes ++ without_return r ∷ []) e, unfinished-end bytes)

ended_of : (bytes : List ℕ) → Ended bytes
ended_of bytes = let h = ended_by bytes (unfinished bytes) refl in record { all = h.0; none = h.1 }

module _ (line : List ℕ) (is : IsCostLine line) where
  cost_read : lines (line ++ 10 ∷ []) ≡ line ∷ []
  cost_read =
      let p = plain line (subst IsPlain is.3 (plain-cost_line is.0 is.1 is.2)) in
      lines-one line p.no_end ∙ ap (λ (l : List ℕ). l ∷ []) p.no_return

  cost_behind : (bytes : List ℕ) → unfinished bytes ≡ [] → lines (bytes ++ (line ++ 10 ∷ [])) ≡ lines bytes ++ line ∷ []
  cost_behind bytes none =
      lines-append bytes (line ++ 10 ∷ [])
      ∙ ap (λ (u : List ℕ). lines bytes ++ lines (u ++ (line ++ 10 ∷ []))) none
      ∙ ap (λ (ls : List (List ℕ)). lines bytes ++ ls) cost_read

  cost_ends : (bytes : List ℕ) → unfinished bytes ≡ [] → unfinished (bytes ++ (line ++ 10 ∷ [])) ≡ []
  cost_ends bytes none = unfinished-append bytes (line ++ 10 ∷ []) ∙ ap (λ (u : List ℕ). unfinished (u ++ (line ++ 10 ∷ []))) none ∙ unfinished-end line

  -- the bytes, ended, and the cost are a plan exactly if their lines, the rest and the cost are those of one
  whole : (bytes : List ℕ) → ((v : PlanParts) × Reads plan_format.texts (with_end bytes ++ (line ++ 10 ∷ [])) v) ↔ AreAllLines plan_format ((lines bytes ++ rest_line (unfinished bytes)) ++ line ∷ [])
  whole bytes =
      let e = ended_of bytes in
      let all = cost_behind (with_end bytes) e.none ∙ ap (λ (ls : List (List ℕ)). ls ++ line ∷ []) e.all in
      (λ (v, r). (v, r.good, sym r.lines ∙ all), λ (v, good, same). (v, record { good = good; lines = all ∙ sym same; rest = cost_ends (with_end bytes) e.none }))

lacks_cost_line : (bytes : List ℕ) → LacksCostLine bytes ↔ ((line : List ℕ) × IsCostLine line × AreAllLines plan_format ((lines bytes ++ rest_line (unfinished bytes)) ++ line ∷ []))
lacks_cost_line bytes = (λ (line, is, text). (line, is, (whole line is bytes).0 text), λ (line, is, all). (line, is, (whole line is bytes).1 all))

-- no text begins with bytes that have a fault
module _ (no_text : FaultIsNoText plan_format) (limit : ℕ) (bytes : List ℕ) (f : Fault) (short : f.kind ≢ kinds.TooLong) where
  faulty_lacks_none : FaultOf plan_format limit bytes f → LacksCostLine bytes → ⊥
  faulty_lacks_none h (line, is, (v, r)) =
      let behind = end_behind (unfinished bytes) in
      let same = append_assoc bytes behind (line ++ 10 ∷ []) in
      no_text limit bytes (behind ++ (line ++ 10 ∷ [])) f v h short (subst (λ (l : List ℕ). Reads plan_format.texts l v) same r)

  -- what the fault is about tells whether only the cost line is missing
  pub ends_without_cost : (accepted : List (List ℕ)) (text : List ℕ) → IsAbout plan_format limit bytes f accepted text → LacksCostLine bytes ↔ EndsWithoutCost f.kind accepted text
  ends_without_cost accepted text (of_line h ha ht s n k) = (λ lacks. absurd (faulty_lacks_none h lacks), λ (e, line, is, all). absurd (no_end_kind text (subst (PlanKind text) e k)))
  ends_without_cost accepted text (of_byte h ha ht v r k) = (λ lacks. absurd (faulty_lacks_none h lacks), λ (e, line, is, all). absurd (let apart : kinds.Trailing ≡ kinds.End = sym k ∙ e in cc))
  ends_without_cost accepted text (of_end h ha ht) = rw (ha, ht) (let same = lacks_cost_line bytes in (λ lacks. let (line, is, all) = same.0 lacks in (h.kind, line, is, all), λ (e, line, is, all). same.1 (line, is, all)))
