-- What the chip says of a step: which words may come in and go out there.
use Rattle.std.specs.Prelude.{ℕ, min, nat_le, Bool, true, false, ◌&&◌, ◌==◌, Option, Some, None, if◌then◌else◌}
use Rattle.chip_model.specs.Chip.{Chip, has_device, next_word}
use Rattle.chip_blocks.specs.units.Serials.{unit_at, outgoing}
use Rattle.chip_blocks.specs.declared.units.serial.Serial.{Serial}
use Rattle.mcal_base.specs.declared.moves.Move.{Move}
use Rattle.mcal_base.specs.declared.moves.Move.TheVariants.{Write}
use Rattle.mcal_base.specs.declared.register.Reg.TheVariants.{SerialData}
use Rattle.run_model.specs.Machine.{select_of}
use Rattle.audit_base.specs.declared.done.Begun.{Begun}

-- the word may come in on a serial unit
abbrev pub may_come_in : Chip → (unit received : ℕ) → Bool
may_come_in c u received = if has_device c u then nat_le received 65536 else received == next_word c u

-- the word may come in with the move
abbrev pub received_right : Chip → Move → (received : ℕ) → Bool
received_right c (Write (SerialData u) v) received = may_come_in c u received
received_right c made received = received == 0

-- the word that begins is the one that a write of this value to a unit begins
abbrev pub is_begun_by : Serial → (unit value : ℕ) → Begun → Bool
is_begun_by x u v b = u == b.unit && outgoing x v == b.word && min x.width 16 == b.width && x.select == select_of b.device

-- a word is written to a serial unit exactly where one begins, and it is that word
abbrev pub sends_right : Chip → Option Begun → Move → Bool
sends_right c None (Write (SerialData u) v) = false
sends_right c None _ = true
sends_right c (Some b) (Write (SerialData u) v) = is_begun_by (unit_at c.serials u) u v b
sends_right c (Some b) _ = false
