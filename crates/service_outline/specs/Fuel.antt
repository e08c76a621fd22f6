-- The steps that a frame has left, and the moves of its window, at most.
use Rattle.std.specs.Prelude.{ℕ, ◌+◌, ◌<◌, ◌≤◌, Option, Some, None}
use Rattle.service_outline.specs.declared.done.Epilogue.{Epilogue}
use Rattle.service_outline.specs.declared.done.Epilogue.TheVariants.{Nothing, Error, One, Two}
use Rattle.service_outline.specs.declared.done.Done.{Done}
use Rattle.service_outline.specs.declared.done.BodyTaken.{BodyTaken}
use Rattle.service_outline.specs.declared.body.Looked.{Looked}
use Rattle.service_outline.specs.declared.body.Looked.TheVariants.{Refused, Goes}
use Rattle.service_outline.specs.declared.short.Short.{Short}
use Rattle.service_outline.specs.declared.short.Short.TheVariants.{Calling, Loading, Entering, Inside, Opening, Telling, Returning}

-- a body's step leaves it fewer steps, or was one of those that it had
abbrev pub ShortensTo : (before later : ℕ) → Option Done → Type 0
ShortensTo before later None = later < before
ShortensTo before later (Some n) = 1 ≤ before

abbrev pub Shortens : {Body : Type 0} → (Body → ℕ) → Body → Body × BodyTaken → Type 0
Shortens fuel k p = ShortensTo (fuel k) (fuel p.0) p.1.done

-- a call goes on with no more steps than its bound
abbrev pub LooksShort : {Body : Type 0} → (Body → ℕ) → ℕ → Looked Body → Type 0
LooksShort fuel most (Refused n) = Unit {0}
LooksShort fuel most (Goes k) = fuel k ≤ most

abbrev pub tell_fuel : Epilogue → ℕ
tell_fuel Nothing = 1
tell_fuel (Error e) = 1
tell_fuel (One k) = 2
tell_fuel (Two k j) = 3

-- the steps that a frame has left
abbrev pub short_fuel : {Call Body : Type 0} → (Call → ℕ) → (Body → ℕ) → Short Call Body → ℕ
short_fuel most fuel (Calling c) = 7 + most c
short_fuel most fuel (Loading c) = 6 + most c
short_fuel most fuel (Entering k) = 6 + fuel k
short_fuel most fuel (Inside k) = 5 + fuel k
short_fuel most fuel (Opening n) = 1 + tell_fuel n.owed
short_fuel most fuel (Telling n) = tell_fuel n.owed
short_fuel most fuel (Returning a) = 1

-- the moves of the window that it is in, or begins next
abbrev pub short_room : {Call Body : Type 0} → (Call → ℕ) → (Body → ℕ) → Short Call Body → ℕ
short_room most fuel (Calling c) = 3 + most c
short_room most fuel (Loading c) = 2 + most c
short_room most fuel (Entering k) = 2 + fuel k
short_room most fuel (Inside k) = 1 + fuel k
short_room most fuel (Opening n) = 1
short_room most fuel (Telling n) = 0
short_room most fuel (Returning a) = 0
