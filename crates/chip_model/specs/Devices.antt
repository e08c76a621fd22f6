-- The devices on the serial units: the word that comes in with a move, and what becomes of the devices.
use Rattle.std.specs.Prelude.{ℕ, ◌≡◌, ◌-◌, ◌≤◌, List, MatchBool}
use Rattle.chip_blocks.specs.units.Serials.{outgoing, unit_at}
use Rattle.mcal_base.specs.declared.moves.Move.{Move}
use Rattle.mcal_base.specs.declared.moves.Move.TheVariants.{Write}
use Rattle.mcal_base.specs.declared.register.Reg.TheVariants.{SerialData}
use Rattle.serial_devices.specs.Lines.{Line, CallsOne, answered}
use Rattle.chip_model.specs.Chip.{Chip, has_device, next_word}

-- the word that comes in with a move: where a serial word begins, whatever the selected device answers, 65,536 where it
-- refuses the exchange, and without a device the unit's next waiting word; with any other move 0
abbrev pub ComesIn : Chip → Move → (received : ℕ) → Type 0
ComesIn c (Write (SerialData u) value) received = MatchBool (has_device c u) (received ≤ 65536) (received ≡ next_word c u)
ComesIn c made received = received ≡ 0

-- a word that begins calls the device that its unit selects, once; any other move leaves all devices as they were
abbrev pub CallsRight : Chip → Move → (received : ℕ) → (old new : List Line) → Type 0
CallsRight c (Write (SerialData u) value) received old new =
    MatchBool (has_device c u)
    (CallsOne old new ((unit_at c.serials u).select - 1) (outgoing (unit_at c.serials u) value) (answered received))
    (new ≡ old)
CallsRight c made received old new = new ≡ old
