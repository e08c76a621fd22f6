-- Each step leaves a frame fewer steps, and a window fewer moves.
-- Used by Steps.
use Rattle.std.proofs.Common.{ℕ, ◌+◌, ◌<◌, ◌≤◌, Option, Some, None, arith}
use Rattle.service_outline.specs.declared.done.Epilogue.{Epilogue}
use Rattle.service_outline.specs.declared.done.Epilogue.TheVariants.{Nothing, Error, One, Two}
use Rattle.service_outline.specs.declared.done.Done.{Done}
use Rattle.service_outline.specs.declared.body.Looked.{Looked}
use Rattle.service_outline.specs.declared.body.Looked.TheVariants.{Refused, Goes}
use Rattle.service_outline.specs.Short.{left_look, left_body}
use Rattle.service_outline.specs.Fuel.{ShortensTo, LooksShort, tell_fuel, short_fuel, short_room}

owed_small : (w : Epilogue) (m : ℕ) → 1 + tell_fuel w < 6 + m
owed_small Nothing m = omega arith
owed_small (Error e) m = omega arith
owed_small (One k) m = omega arith
owed_small (Two k j) m = omega arith

done_small : (w : Epilogue) (m : ℕ) → 1 ≤ m → 1 + tell_fuel w < 5 + m
done_small Nothing m h = omega arith
done_small (Error e) m h = omega arith
done_small (One k) m h = omega arith
done_small (Two k j) m h = omega arith

module _ {Call Body : Type 0} (most : Call → ℕ) (fuel : Body → ℕ) where
  pub look_fuel : (c : Call) (l : Looked Body) → LooksShort fuel (most c) l → short_fuel most fuel (left_look l) < 6 + most c
  look_fuel c (Refused n) h = owed_small n.owed (most c)
  look_fuel c (Goes k) h = omega (arith, h)

  pub body_fuel : (before : ℕ) (k : Body) (left : Option Done) → ShortensTo before (fuel k) left → short_fuel most fuel (left_body k left) < 5 + before
  body_fuel before k None h = omega (arith, h)
  body_fuel before k (Some n) h = done_small n.owed before h

  pub body_room : (before : ℕ) (k : Body) (left : Option Done) → ShortensTo before (fuel k) left → short_room most fuel (left_body k left) < 1 + before
  body_room before k None h = omega (arith, h)
  body_room before k (Some n) h = omega (arith, h)

  pub look_room : (c : Call) (l : Looked Body) → LooksShort fuel (most c) l → short_room most fuel (left_look l) < 2 + most c
  look_room c (Refused n) h = omega arith
  look_room c (Goes k) h = omega (arith, h)
