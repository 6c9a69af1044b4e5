-- The verdicts before operators are looked at.
use Rattle.sas_mutex.proofs.Imports.{arith, common_steps, ◌≢◌, List, All, Parts, Verdict, Exclusive, AreJointVerdicts, AreFirstVerdicts}

-- where no group may be exclusive, the verdicts before operators are looked at are the joint ones
pub decided_at_first : (p : Parts) (verdicts : List Verdict) → AreFirstVerdicts p verdicts
    → All (λ (verdict : Verdict). verdict ≢ Exclusive) verdicts → AreJointVerdicts p verdicts
decided_at_first p verdicts first none = grind (arith, common_steps)
