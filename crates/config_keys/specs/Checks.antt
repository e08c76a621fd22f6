-- Checks in the order of a walk, and the first one that fails.
use Rattle.std.specs.Prelude.{◌≡◌, Option, Some, None, Result, Ok, Err}
use Rattle.config_keys.specs.declared.fault.ConfigFault.{ConfigFault}
use Rattle.config_keys.specs.declared.fault.ConfigFault.TheVariants.{NoMemory}

-- Each check of a tree passes or fails by itself; its place is the way to it, where the first of two comes before the second.
infixr 10 ◌⨾◌
pub data Checks : Type 0 where
  passes : Checks
  fails : ConfigFault → Checks
  ◌⨾◌ : Checks → Checks → Checks

abbrev pub or_else : {A : Type 0} → Option A → Option A → Option A
or_else (Some x) o = Some x
or_else None o = o

-- the fault at the least place
abbrev pub first : Checks → Option ConfigFault
first passes = None
first (fails f) = Some f
first (a ⨾ b) = or_else (first a) (first b)

-- a refusal is for want of memory, or names the fault at the least place
abbrev pub Refuses : ConfigFault → Checks → Type 0
Refuses NoMemory c = Unit {0}
Refuses e c = first c ≡ Some e

-- A reader refuses, or gives the value where there is no fault.
abbrev pub Gives : {X : Type 0} → Result X ConfigFault → Checks → Option X → Type 0
Gives (Ok x) c v = (first c ≡ None) × (v ≡ Some x)
Gives (Err e) c v = Refuses e c
