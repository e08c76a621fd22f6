-- Values of ports, and of some pins of one.
use Rattle.std.specs.Prelude.{ℕ, ◌+◌, ◌*◌, ◌/◌, ◌%◌, ◌^◌, Bool, if◌then◌else◌, bit_and}
use Rattle.mcal_base.specs.Bits.{has_bit}
use Rattle.mcal_base.specs.declared.answer.Answer.{Answer}
use Rattle.mcal_base.specs.declared.answer_name.AnswerName.TheVariants.{StdHigh, StdLow}
use Rattle.run_model.specs.Machine.{named}
use Rattle.module_machines.specs.declared.dio.table.PortPins.{PortPins}

-- what the bit of the first of these pins counts in their port
abbrev pub weight : PortPins → ℕ
weight pins = 2 ^ (pins.offset % 8)

-- a value as levels of the port: its lowest eight bits moved up, of which those of the pins stay
abbrev pub moved_up : PortPins → (value : ℕ) → ℕ
moved_up pins value = bit_and (value % 256 * weight pins) pins.mask

-- the pins' value in their port's: their bits alone, moved down
abbrev pub moved_down : PortPins → (port : ℕ) → ℕ
moved_down pins port = bit_and port pins.mask / weight pins

-- a bit of a port's value is set
abbrev pub stands_high : (port place : ℕ) → Bool
stands_high port place = has_bit port place

-- the answer that is a level
abbrev pub level_answer : Bool → Answer
level_answer high = if high then named StdHigh else named StdLow

-- the word that puts levels to these pins: the mask in bits 8 to 15, the levels below
abbrev pub word_of : PortPins → (levels : ℕ) → ℕ
word_of pins levels = 256 * pins.mask + levels
