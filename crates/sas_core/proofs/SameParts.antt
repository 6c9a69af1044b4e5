-- The equality of each type of parts, and of a whole task, decides whether the values are the same.
use Rattle.std.proofs.Common.{arith}
use Rattle.std.proofs.lemmas.Grind.{common_steps}
use Rattle.sas_core.proofs.Imports.{◌≡◌, ℕ, Bool, ◌&&◌, Option, Some, None, refl, ap, nat_eq, List, Decides, beq, option_eq, unsigned_Decides, booleans_Decides, pointwise, pointwise_decides, false≢true, Fact, Variable, Effect, Operator, Parts}

also : {P Q : Type 0} {a b : Bool} → Decides a P → Decides b Q → Decides (a && b) (P × Q)
also {P} {Q} {a} {b} first second = grind (arith, common_steps)

that : {P Q : Type 0} {a : Bool} → Decides a P → (P → Q) → (Q → P) → Decides a Q
that decides to from = (λ e. to (decides.0 e), λ q. decides.1 (from q))

optional : (a b : Option ℕ) → Decides (option_eq nat_eq a b) (a ≡ b)
optional None None = (λ e. refl, λ e. refl)
optional None (Some y) = (λ e. absurd (false≢true e), λ e. absurd (cc))
optional (Some x) None = (λ e. absurd (false≢true e), λ e. absurd (cc))
optional (Some x) (Some y) = (λ e. ap Some ((unsigned_Decides x y).0 e), λ e. (unsigned_Decides x y).1 (cc))

bytes : (a b : List ℕ) → Decides (pointwise nat_eq a b) (a ≡ b)
bytes = pointwise_decides unsigned_Decides

abbrev fact_eq : Fact → Fact → Bool
fact_eq f g = nat_eq f.var g.var && nat_eq f.value g.value

fact : (f g : Fact) → Decides (fact_eq f g) (f ≡ g)
fact f g = grind (arith, common_steps, that, also)

pub fact_same : (f g : Fact) → f.var ≡ g.var → f.value ≡ g.value → f ≡ g
fact_same f g on is = grind (arith, common_steps)

abbrev variable_eq : Variable → Variable → Bool
variable_eq v w = pointwise nat_eq v.name w.name && (option_eq nat_eq v.layer w.layer && pointwise (pointwise nat_eq) v.values w.values)

variable : (v w : Variable) → Decides (variable_eq v w) (v ≡ w)
variable v w =
    that (also (bytes v.name w.name) (also (optional v.layer w.layer) (pointwise_decides bytes v.values w.values)))
    (λ fields i. record { name = fields.0 i; layer = fields.1.0 i; values = fields.1.1 i })
    (λ same. (λ i. (same i).name, (λ i. (same i).layer, λ i. (same i).values)))

abbrev effect_eq : Effect → Effect → Bool
effect_eq e f = pointwise fact_eq e.conditions f.conditions && (nat_eq e.var f.var && (option_eq nat_eq e.old f.old && nat_eq e.new f.new))

effect : (e f : Effect) → Decides (effect_eq e f) (e ≡ f)
effect e f =
    that (also (pointwise_decides fact e.conditions f.conditions) (also (unsigned_Decides e.var f.var) (also (optional e.old f.old) (unsigned_Decides e.new f.new))))
    (λ fields i. record { conditions = fields.0 i; var = fields.1.0 i; old = fields.1.1.0 i; new = fields.1.1.1 i })
    (λ same. (λ i. (same i).conditions, (λ i. (same i).var, (λ i. (same i).old, λ i. (same i).new))))

abbrev operator_eq : Operator → Operator → Bool
operator_eq o p = pointwise nat_eq o.name p.name && (pointwise fact_eq o.prevail p.prevail && (pointwise effect_eq o.effects p.effects && nat_eq o.cost p.cost))

operator : (o p : Operator) → Decides (operator_eq o p) (o ≡ p)
operator o p =
    that (also (bytes o.name p.name) (also (pointwise_decides fact o.prevail p.prevail) (also (pointwise_decides effect o.effects p.effects) (unsigned_Decides o.cost p.cost))))
    (λ fields i. record { name = fields.0 i; prevail = fields.1.0 i; effects = fields.1.1.0 i; cost = fields.1.1.1 i })
    (λ same. (λ i. (same i).name, (λ i. (same i).prevail, (λ i. (same i).effects, λ i. (same i).cost))))

abbrev parts_eq : Parts → Parts → Bool
parts_eq p q = beq p.metric q.metric && (pointwise variable_eq p.variables q.variables && (pointwise (pointwise fact_eq) p.groups q.groups && (pointwise nat_eq p.init q.init && (pointwise fact_eq p.goal q.goal && (pointwise operator_eq p.operators q.operators && pointwise effect_eq p.rules q.rules)))))

pub parts : (p q : Parts) → Decides (parts_eq p q) (p ≡ q)
parts p q =
    that (also (booleans_Decides p.metric q.metric) (also (pointwise_decides variable p.variables q.variables) (also (pointwise_decides (pointwise_decides fact) p.groups q.groups) (also (bytes p.init q.init) (also (pointwise_decides fact p.goal q.goal) (also (pointwise_decides operator p.operators q.operators) (pointwise_decides effect p.rules q.rules)))))))
    (λ fields i. record { metric = fields.0 i; variables = fields.1.0 i; groups = fields.1.1.0 i; init = fields.1.1.1.0 i; goal = fields.1.1.1.1.0 i; operators = fields.1.1.1.1.1.0 i; rules = fields.1.1.1.1.1.1 i })
    (λ same. (λ i. (same i).metric, (λ i. (same i).variables, (λ i. (same i).groups, (λ i. (same i).init, (λ i. (same i).goal, (λ i. (same i).operators, λ i. (same i).rules)))))))
