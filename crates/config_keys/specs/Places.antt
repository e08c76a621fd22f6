-- The set of all faults, each with its place.
use Rattle.std.specs.Prelude.{◌≡◌, ℕ, zero, suc, ◌<◌, ◌⊎◌, List, [], ◌∷◌, Option, Some, None}
use Rattle.config_keys.specs.Checks.{Checks, passes, fails, ◌⨾◌}
use Rattle.config_keys.specs.declared.fault.ConfigFault.{ConfigFault}

-- the check at this place fails with this fault
abbrev pub FailsAt : Checks → List ℕ → ConfigFault → Type 0
FailsAt passes p f = ⊥
FailsAt (fails g) [] f = g ≡ f
FailsAt (fails g) (x ∷ p) f = ⊥
FailsAt (a ⨾ b) [] f = ⊥
FailsAt (a ⨾ b) (zero ∷ p) f = FailsAt a p f
FailsAt (a ⨾ b) (suc n ∷ p) f = (n ≡ 0) × FailsAt b p f

-- the order of places
abbrev pub NotAfter : List ℕ → List ℕ → Type 0
NotAfter [] q = Unit {0}
NotAfter (x ∷ p) [] = ⊥
NotAfter (x ∷ p) (y ∷ q) = (x < y) ⊎ ((x ≡ y) × NotAfter p q)

-- a fault at the least place of all faults
abbrev pub IsLeastFault : Checks → ConfigFault → Type 0
IsLeastFault c f = (p : List ℕ) × FailsAt c p f × ((q : List ℕ) (g : ConfigFault) → FailsAt c q g → NotAfter p q)

abbrev pub HasNoFault : Checks → Type 0
HasNoFault c = (q : List ℕ) (g : ConfigFault) → FailsAt c q g → ⊥

abbrev pub IsLeastOrNone : Checks → Option ConfigFault → Type 0
IsLeastOrNone c None = HasNoFault c
IsLeastOrNone c (Some f) = IsLeastFault c f
