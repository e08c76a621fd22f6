-- The driver as a guest in the pins' block: what its frames may do, what each of their moves makes of the host's state, and what they rest on.
use Rattle.std.specs.Prelude.{◌≡◌, ℕ, ◌<◌, ◌==◌, nat_lt, Bool, false}
use Rattle.chip_model.specs.Chip.{Chip, flipped, pin_of}
use Rattle.chip_model.specs.declared.wiring.Wiring.{Wiring}
use Rattle.mcal_base.specs.declared.module_name.ModuleName.TheVariants.{Port}
use Rattle.mcal_base.specs.declared.moves.Move.{Move}
use Rattle.mcal_base.specs.declared.moves.Move.TheVariants.{Read, Write, Load}
use Rattle.mcal_base.specs.declared.register.Reg.TheVariants.{PortLevels, PortPut, PinFlip}
use Rattle.run_model.specs.World.{World}
use Rattle.service_outline.specs.guests.Guest.{Guest}
use Rattle.module_machines.specs.dio.Checks.{reporting, service_of}
use Rattle.dio_driver.specs.Frames.{DioStands, dio_fuel, frame_of}
use Rattle.module_machines.specs.dio.Machine.{HostPins, does}
use Rattle.module_machines.specs.dio.Table.{FitsDio}
use Rattle.module_machines.specs.declared.dio.call.Call.{Call}
use Rattle.module_machines.specs.declared.dio.table.DioTable.{DioTable}
use Rattle.dio_driver.specs.declared.frame.DioFrame.{DioFrame}
use Rattle.dio_driver.specs.declared.frame.TheConstants.{NOWHERE}

-- a move that a frame may make: an access of a port or of a pin, and the load of a call with an error
abbrev pub dio_may : Move → Bool
dio_may (Read (PortLevels q)) = nat_lt q 8
dio_may (Read (PinFlip p)) = nat_lt p 64
dio_may (Write (PortPut q) word) = nat_lt q 8
dio_may (Load k) = k == NOWHERE
dio_may _ = false

-- what a move makes of the host's state
abbrev pub state_after : {State : Type 0} → HostPins State → Move → State → State
state_after h (Write (PortPut q) word) s = h.put q word s
state_after h (Read (PinFlip p)) s = h.flip p s
state_after h _ s = s

-- the chip has the levels of the host's pins, and each pin has the host's level also once its latch is inverted
pub record SeesPins {State : Type 0} (h : HostPins State) (chip : Chip) (w : World) (s : State) : Type 0 where
  pub levels : (p : ℕ) → p < 64 → pin_of chip p ≡ h.level w s p
  pub flips : (p : ℕ) → p < 64 → pin_of (flipped chip p) p ≡ h.level w (h.flip p s) p

-- the guest of a host with such pins, on a chip that is wired so
abbrev pub dio : {State : Type 0} → DioTable → HostPins State → (wired : Wiring → Type 0) → Guest State Call DioFrame
dio d h wired = record {
  fits = FitsDio d;
  can_call = λ c. Unit {0};
  block = Port;
  frame_of = frame_of d;
  service_of = service_of;
  reporting = reporting d;
  does = does h d;
  may = dio_may;
  moves_of = state_after h;
  steps = 64;
  window = 32;
  fuel = dio_fuel;
  stands = DioStands d;
  wired = wired;
  sees = SeesPins h;
}
