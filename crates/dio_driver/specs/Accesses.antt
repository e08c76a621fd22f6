-- The one access of a call without an error: its move, and what the call answers by its value.
use Rattle.std.specs.Prelude.{ℕ, ◌/◌, ◌%◌, ◌==◌}
use Rattle.mcal_base.specs.Bits.{bit_of}
use Rattle.mcal_base.specs.declared.answer.Answer.{Answer}
use Rattle.mcal_base.specs.declared.moves.Move.{Move}
use Rattle.mcal_base.specs.declared.moves.Move.TheVariants.{Read, Write}
use Rattle.mcal_base.specs.declared.register.Reg.TheVariants.{PortLevels, PortPut, PinFlip}
use Rattle.run_model.specs.Machine.{no_answer, number}
use Rattle.module_machines.specs.dio.Values.{moved_up, moved_down, stands_high, level_answer, word_of}
use Rattle.dio_driver.specs.declared.access.Access.{Access}
use Rattle.dio_driver.specs.declared.access.Access.TheVariants.{Level, Flip, Levels, Put}
use Rattle.module_machines.specs.declared.dio.table.PortPins.{PortPins}
use Rattle.module_machines.specs.declared.dio.call.Call.{Call}
use Rattle.module_machines.specs.declared.dio.call.Call.TheVariants.{ReadChannel, WriteChannel, FlipChannel, ReadPort, WritePort, ReadChannelGroup, WriteChannelGroup}

-- ---- the access

abbrev pub access_of : Call → PortPins → Access
access_of (ReadChannel p) pins = Level p
access_of (FlipChannel p) pins = Flip p
access_of (WriteChannel p high) pins = Put pins (moved_up pins (bit_of high))
access_of (ReadPort q) pins = Levels pins
access_of (ReadChannelGroup g) pins = Levels pins
access_of (WritePort q value) pins = Put pins (moved_up pins value)
access_of (WriteChannelGroup g value) pins = Put pins (moved_up pins value)

abbrev pub move_of : Access → Move
move_of (Level p) = Read (PortLevels (p / 8))
move_of (Flip p) = Read (PinFlip p)
move_of (Levels pins) = Read (PortLevels pins.port)
move_of (Put pins levels) = Write (PortPut pins.port) (word_of pins levels)

abbrev pub answer_by : Access → (value : ℕ) → Answer
answer_by (Level p) value = level_answer (stands_high value (p % 8))
answer_by (Flip p) value = level_answer (value == 1)
answer_by (Levels pins) value = number (moved_down pins value)
answer_by (Put pins levels) value = no_answer
