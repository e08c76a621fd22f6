-- When a machine is another one whose calls are named otherwise.
use Rattle.std.specs.Prelude.{◌≡◌, ℕ, Bool, option_map}
use Rattle.mcal_base.specs.declared.moves.Unit as units
use Rattle.run_model.specs.Machine.{Happening, Acts, Serves, Starts, Aborts, Moves, Restarts, Machine}
use Rattle.run_model.specs.World.{World}
use Rattle.audit_base.specs.Deeds.{Member}

-- a happening with its calls named otherwise
abbrev pub renamed : {C D : Type 0} → (C → D) → Happening C → Happening D
renamed as_call (Acts c times) = Acts (as_call c) times
renamed as_call (Serves l r) = Serves l r
renamed as_call (Starts u by r) = Starts u (option_map as_call by) r
renamed as_call (Aborts u) = Aborts u
renamed as_call (Moves order) = Moves order
renamed as_call (Restarts reason) = Restarts reason

-- The one is the other, with these names of its calls, and it has these lines.
pub record IsSame {S C D : Type 0} (as_call : C → D) (m : Member S C) (n : Machine S D) (used : ℕ → Bool) : Type 0 where
  pub happens : (w : World) (s : S) (h : Happening C) → m.machine.happens w s h ≡ n.happens w s (renamed as_call h)
  pub ready : (w : World) (s : S) (l : ℕ) → m.machine.ready w s l ≡ n.ready w s l
  pub due : (w : World) (s : S) (l : ℕ) → m.machine.due w s l ≡ n.due w s l
  pub line_waits : (w : World) (s : S) (l : ℕ) → m.machine.line_waits w s l ≡ n.line_waits w s l
  pub startable : (w : World) (s : S) (u : units.Unit) → m.machine.startable w s u ≡ n.startable w s u
  pub rate : (s : S) → m.machine.rate s ≡ n.rate s
  pub expires : (w : World) (s : S) → m.machine.expires w s ≡ n.expires w s
  pub service_of : (c : C) → m.machine.service_of c ≡ n.service_of (as_call c)
  pub reporting : (c : C) → m.machine.reporting c ≡ n.reporting (as_call c)
  pub polls : (w : World) (s : S) (c : C) → m.machine.polls w s c ≡ n.polls w s (as_call c)
  pub lines : (l : ℕ) → m.lines l ≡ used l
