-- Runs of the machine: what comes of a list of happenings, one after another.
use Rattle.std.specs.Prelude.{Bool, true, false, List, [], ◌∷◌, Option, Some, None}
use Rattle.mcal_base.specs.declared.answer.Answer.{Answer}
use Rattle.mcal_base.specs.declared.moves.Event.TheVariants.{Act}
use Rattle.run_model.specs.World.{World, world_after}
use Rattle.run_model.specs.Machine.{Happening, Acts, Moves, Restarts, Outcome}
use Rattle.run_model.specs.Frame.{Called, state_by, asks_reset}
use Rattle.module_machines.specs.mcu.Machine.{McuState, mcu_machine}
use Rattle.module_machines.specs.declared.mcu.call.Call.{Call}
use Rattle.module_machines.specs.declared.mcu.call.Call.TheVariants.{Init, InitRamSection, Clock, PerformReset}
use Rattle.module_machines.specs.declared.mcu.call.ClockCall.TheVariants.{InitClock}
use Rattle.module_machines.specs.declared.mcu.table.McuTable.{McuTable}

-- A moment: the outside, and the module.
pub record Moment : Type 0 where
  pub world : World
  pub state : McuState

-- the outside after a happening: ticks advance the peripheral time by the module's rate
abbrev pub world_by : World → McuState → Happening Call → World
world_by w s (Moves order) = world_after w s.rate order
world_by w s _ = w

-- the state after a happening
abbrev pub state_after : McuTable → World → McuState → Happening Call → McuState
state_after d w s h = state_by s ((mcu_machine d).happens w s h)

-- what a call answers
abbrev pub answer_in : Option (Outcome McuState) → Option Answer
answer_in None = None
answer_in (Some out) = Some out.told.answer

abbrev pub answer_of : McuTable → Moment → Call → Option Answer
answer_of d m call = answer_in ((mcu_machine d).happens m.world m.state (Acts call (λ c. 0)))

-- the moment after a happening, and after several
abbrev pub after : McuTable → Moment → Happening Call → Moment
after d m h = record { world = world_by m.world m.state h; state = state_after d m.world m.state h }

abbrev pub after_all : McuTable → Moment → List (Happening Call) → Moment
after_all d m [] = m
after_all d m (h ∷ hs) = after_all d (after d m h) hs

-- neither a call that starts the PLL nor a reset
abbrev pub leaves_pll : Happening Call → Bool
leaves_pll (Acts (Clock (InitClock n)) times) = false
leaves_pll (Restarts reason) = false
leaves_pll _ = true

-- neither a call about the clock nor a reset
abbrev pub leaves_clock : Happening Call → Bool
leaves_clock (Acts (Clock call) times) = false
leaves_clock (Restarts reason) = false
leaves_clock _ = true

-- anything but a reset
abbrev pub is_no_reset : Happening Call → Bool
is_no_reset (Restarts reason) = false
is_no_reset _ = true

-- neither a call that fills a section nor a reset
abbrev pub leaves_ram : Happening Call → Bool
leaves_ram (Acts (InitRamSection n) times) = false
leaves_ram (Restarts reason) = false
leaves_ram _ = true

-- `Mcu_Init`, and `Mcu_PerformReset`
abbrev pub is_init : Call → Bool
is_init Init = true
is_init _ = false

abbrev pub is_reset : Call → Bool
is_reset PerformReset = true
is_reset _ = false

-- a call that acts here asks for a reset
abbrev pub asks_reset_of : McuTable → World → McuState → Call → Bool
asks_reset_of d w s call = asks_reset (mcu_machine d) (Called call) (Some Act) ((mcu_machine d).happens w s (Acts call (λ c. 0)))
