-- The first fault of the walk is the one at the least place.
use Rattle.std.proofs.Common.{zero, suc, inl, inr, [], ◌∷◌, Some, None, refl, arith}
use Rattle.std.specs.Prelude.{Option}
use Rattle.config_keys.specs.Checks.{Checks, passes, fails, ◌⨾◌, first, or_else}
use Rattle.config_keys.specs.Places.{FailsAt, NotAfter, IsLeastOrNone}
use Rattle.config_keys.specs.declared.fault.ConfigFault.{ConfigFault}

-- of two checks, the first has a fault, or it has none
both_least : (a b : Checks) (o r : Option ConfigFault) → IsLeastOrNone a o → IsLeastOrNone b r → IsLeastOrNone (a ⨾ b) (or_else o r)
both_least a b (Some f) r h k = (
  zero ∷ h.0,
  h.1,
  λ q. elim q as (λ q. (g : ConfigFault) → FailsAt (a ⨾ b) q g → NotAfter (zero ∷ h.0) q) [
    | [] ↦ λ g x. absurd x
    | y ∷ (q → _) ↦ elim y as (λ y. (g : ConfigFault) → FailsAt (a ⨾ b) (y ∷ q) g → NotAfter (zero ∷ h.0) (y ∷ q)) [ zero ↦ λ g x. inr (refl, h.2 q g x) | suc (n → _) ↦ λ g x. inl (omega arith) ]
  ],
)
both_least a b None (Some f) h k = (
  1 ∷ k.0,
  (refl, k.1),
  λ q. elim q as (λ q. (g : ConfigFault) → FailsAt (a ⨾ b) q g → NotAfter (1 ∷ k.0) q) [
    | [] ↦ λ g x. absurd x
    | y ∷ (q → _) ↦ elim y as (λ y. (g : ConfigFault) → FailsAt (a ⨾ b) (y ∷ q) g → NotAfter (1 ∷ k.0) (y ∷ q)) [ zero ↦ λ g x. absurd (h q g x) | suc (n → _) ↦ λ g x. inr (omega (arith, x.0), k.2 q g x.1) ]
  ],
)
both_least a b None None h k = λ q. elim q as (λ q. (g : ConfigFault) → FailsAt (a ⨾ b) q g → ⊥) [
  | [] ↦ λ g x. x
  | y ∷ (q → _) ↦ elim y as (λ y. (g : ConfigFault) → FailsAt (a ⨾ b) (y ∷ q) g → ⊥) [ zero ↦ λ g x. h q g x | suc (n → _) ↦ λ g x. k q g x.1 ]
]

pub least : (c : Checks) → IsLeastOrNone c (first c)
least passes = λ q g x. x
least (fails f) = ([], refl, λ q g x. tt)
least (a ⨾ b) = both_least a b (first a) (first b) (least a) (least b)
