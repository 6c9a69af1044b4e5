-- Converts promises about a machine that follows a grammar to promises about the format.
use Rattle.sas_reader.proofs.Imports.{Behavior, ◌≡◌, ℕ, ◌+◌, ◌≤◌, List, [], ◌∷◌, length, sym, subst, ◌∙◌, append_assoc, inl, inr, Err, ◌++◌, take, drop, refl, arith, length-drop, take-append-drop, without_return, lines, unfinished, Fault, Kind, Reads, Format, Live, FaultOf, EndOf, MoreIsDue, ReadsAs, Node, ended, Rejects, Leads, Grammar, most_bytes, Reached, LineIsDue, Stops, full, over, rejected, FaultIn, EndsEarly, IsRefused, ReadFails, unread, early, faulty, Excerpt, Refusal, Refuses, unread_at, ended_at, faulty_at}
use Rattle.sas_reader.specs.declared.fault.Kind.TheVariants as kinds
use Rattle.sas_reader.proofs.Live.{one_more, live, reads_done, fault_long, fault_done, fault_rejected, fault_stays, end_open}
use Rattle.sas_reader.proofs.Paths.{Path}

-- A machine that has accepted lines is at a state to which these lead. It has ended if that state
-- has, and a line that it rejects may not follow there.
pub record At {T V I S M : Type 0} (F : Format V I S) (Fits : I → Type 0) (node : T → Node T V I S) (start : T) (B : Behavior M) (ls : List (List ℕ)) (m : M) : Type 0 where
  pub state : T
  pub leads : Leads F Fits node start ls state
  pub value : B.ended m → (v : V) × (node state ≡ ended v)
  pub is_ended : (v : V) → node state ≡ ended v → B.ended m
  pub refuses : (line : List ℕ) (k : Kind) → (B.ended m → ⊥) → B.rejects m line k → Rejects F Fits (node state) line k

abbrev pub Follows : {T V I S M : Type 0} (F : Format V I S) (Fits : I → Type 0) (node : T → Node T V I S) (start : T) → Behavior M → Type 0
Follows {M = M} F Fits node start B = (ls : List (List ℕ)) (m : M) → B.led_by ls m → At F Fits node start B ls m

module _ {T V I S M : Type 0} (F : Format V I S) (Fits : I → Type 0) (node : T → Node T V I S) (start : T) (g : Grammar F Fits node start) (B : Behavior M) (follows : Follows F Fits node start B) where
  abbrev pub at : (m : M) (bytes : List ℕ) → Reached B m bytes → At F Fits node start B (lines bytes) m
  at m bytes h = follows (lines bytes) m h.led

  pub path_of : (m : M) (bytes : List ℕ) (h : Reached B m bytes) → Path F Fits node start (at m bytes h).state bytes
  path_of m bytes h = let a = at m bytes h in record { leads = a.leads; ended = λ v d. h.rest (a.is_ended v d) }

  -- a machine that hasn't ended expects more lines
  ends_at : (limit : ℕ) (m : M) (bytes : List ℕ) (f : Fault) → Reached B m bytes → (B.ended m → ⊥) → length bytes ≤ limit → f.line ≡ length (lines bytes) + 1 → f.kind ≡ kinds.End → EndOf F limit bytes f
  ends_at limit m bytes f h going l n k = end_open F Fits node start g limit (at m bytes h).state bytes f (path_of m bytes h) (λ v d. going ((at m bytes h).is_ended v d)) l n k

  pub end_of_format : (limit : ℕ) (bytes : List ℕ) (f : Fault) (now : M) (found : Excerpt) → EndsEarly B limit bytes f now found → EndOf F limit bytes f
  end_of_format limit bytes f now found h = ends_at limit now bytes f h.reached h.open_still h.short h.line h.kind

  pub live_of_format : (limit : ℕ) (m : M) (bytes : List ℕ) → length bytes ≤ limit → Reached B m bytes → Live F limit bytes
  live_of_format limit m bytes l h = live F Fits node start g limit (at m bytes h).state bytes l (path_of m bytes h)

  pub reads_of_format : (m : M) (v : V) (bytes : List ℕ) (h : Reached B m bytes) → node (at m bytes h).state ≡ ended v → Reads F.texts bytes v
  reads_of_format m v bytes h d = reads_done F Fits node start g (at m bytes h).state v bytes d (path_of m bytes h)

  -- if the machine has ended, a value was read
  pub some_read : (m : M) (bytes : List ℕ) → Reached B m bytes → B.ended m → (v : V) × Reads F.texts bytes v
  some_read m bytes h d = let v = (at m bytes h).value d in (v.0, reads_of_format m v.0 bytes h v.1)

  pub more_is_due : (limit : ℕ) (bytes piece : List ℕ) → LineIsDue B limit bytes piece → MoreIsDue F limit bytes piece
  more_is_due limit bytes piece h =
      let came = bytes ++ take h.at piece in
      let end = ends_at limit h.machine came (record { line = length (lines came) + 1; kind = kinds.End }) h.reached h.open_still (omega (arith, h.room)) refl refl in
      record {
        front = take h.at piece;
        rest = drop h.at piece;
        whole = sym (take-append-drop h.at piece);
        some = omega (arith, h.within, length-drop h.at piece);
        live = end.live;
        none = end.none;
        room = h.room;
      }

  stopped : (limit : ℕ) (m : M) (bytes : List ℕ) (byte : ℕ) (f : Fault) (now : M) (found : Excerpt) → Reached B m bytes → f.line ≡ length (lines bytes) + 1 → Stops B limit m bytes byte f.kind now found → FaultOf F limit (one_more bytes byte) f
  stopped limit m bytes byte f now found h n (full l k) = fault_long F Fits node start g limit (at m bytes h).state bytes byte f (path_of m bytes h) l n k
  stopped limit m bytes byte f now found h n (over l d k stays is) =
      let v = (at m bytes h).value d in
      fault_done F Fits node start g limit (at m bytes h).state v.0 bytes byte f v.1 (path_of m bytes h) l n k
  stopped limit m bytes byte f now found h n (rejected l going b r behind is) =
      subst (λ (x : ℕ). FaultOf F limit (one_more bytes x) f) (sym b)
      (fault_rejected F Fits node start g limit (at m bytes h).state bytes f (path_of m bytes h) ((at m bytes h).refuses (without_return (unfinished bytes)) f.kind going r) l n)

  pub fault_of_format : (limit : ℕ) (bytes : List ℕ) (f : Fault) (now : M) (found : Excerpt) → FaultIn B limit bytes f now found → FaultOf F limit bytes f
  fault_of_format limit bytes f now found h =
      subst (λ (b : List ℕ). FaultOf F limit b f) (append_assoc h.front (h.byte ∷ []) h.after ∙ sym h.whole) (fault_stays F limit (one_more h.front h.byte) h.after f (stopped limit h.machine h.front h.byte f now found h.reached h.line h.stops))

  pub refusal : (limit : ℕ) (bytes : List ℕ) (r : Refusal M) → IsRefused B limit bytes r → ReadsAs F limit bytes (Err r.fault)
  refusal limit bytes r (inl h) = inl (fault_of_format limit bytes r.fault r.machine r.found h)
  refusal limit bytes r (inr h) = inr (end_of_format limit bytes r.fault r.machine r.found h)

  pub device_refusal : (bytes : List ℕ) (End : Type 0) (r : Refusal M) → ReadFails B most_bytes bytes End r → Refuses F bytes End r.fault
  device_refusal bytes End r (unread m h l n k) = unread_at (live_of_format most_bytes m bytes l h) n k
  device_refusal bytes End r (early e h) = ended_at e (end_of_format most_bytes bytes r.fault r.machine r.found h)
  device_refusal bytes End r (faulty h ne) = faulty_at (fault_of_format most_bytes bytes r.fault r.machine r.found h) ne
