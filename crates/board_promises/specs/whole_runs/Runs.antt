-- Runs of a machine: what happens to it, one event after another, and the state that they lead to. Every list of events has the newest first, so that the past of an event is what stands behind it.
use Rattle.std.specs.Prelude.{◌≡◌, ℕ, ◌==◌, Bool, true, false, List, [], ◌∷◌, Option, Some, None, IsSome}
use Rattle.std.specs.List.{list_any}
use Rattle.run_model.specs.World.{World}
use Rattle.run_model.specs.Machine.{Happening, Restarts, Told, Outcome, Machine, tells_nothing}
use Rattle.run_model.specs.Frame.{state_by}

-- An event: what happens, with the outside at its time.
pub record Event (Call : Type 0) : Type 0 where
  pub world : World
  pub what : Happening Call

-- the state after these events; what isn't allowed changes nothing
abbrev pub state_after : {State Call : Type 0} → Machine State Call → State → List (Event Call) → State
state_after mac first [] = first
state_after mac first (e ∷ past) = state_by (state_after mac first past) (mac.happens e.world (state_after mac first past) e.what)

-- each event was allowed in the state that those before it had led to
abbrev pub AreAllowed : {State Call : Type 0} → Machine State Call → State → List (Event Call) → Type 0
AreAllowed mac first [] = Unit {0}
AreAllowed mac first (e ∷ past) = IsSome (mac.happens e.world (state_after mac first past) e.what) × AreAllowed mac first past

-- what an event tells
abbrev pub told_or_nothing : {State : Type 0} → Option (Outcome State) → Told
told_or_nothing None = tells_nothing
told_or_nothing (Some out) = out.told

-- ---- what is said of events

-- the chip is reset
abbrev pub is_restart : {Call : Type 0} → Happening Call → Bool
is_restart (Restarts reason) = true
is_restart _ = false

-- it is this object
abbrev pub is_of : ℕ → Option ℕ → Bool
is_of g None = false
is_of g (Some h) = h == g

-- none of these is such
abbrev pub NoneOf : {A : Type 0} → (A → Bool) → List A → Type 0
NoneOf p es = list_any p es ≡ false
