-- Which events a frame may have, and at which moves they stand.
use Rattle.std.specs.Prelude.{ℕ, Bool, true, false, ◌&&◌, ◌||◌, not, ◌==◌, List, Option, Some, None}
use Rattle.mcal_base.specs.declared.moves.Event.{Event}
use Rattle.mcal_base.specs.declared.moves.Event.TheVariants.{Act, Serve, Abort, Start}
use Rattle.mcal_base.specs.declared.moves.Move.{Move}
use Rattle.mcal_base.specs.declared.moves.Move.TheVariants.{Read, Write}
use Rattle.mcal_base.specs.declared.moves.Unit as units
use Rattle.mcal_base.specs.declared.moves.Unit.TheVariants.{Adc0, Adc1, Spi0, Spi1}
use Rattle.mcal_base.specs.declared.register.Reg.TheVariants.{ConverterGo, ConverterAbort, SerialData}
use Rattle.run_model.specs.Frame.{is_wait}
use Rattle.audit_frames.specs.LineRules.{may_serve}
use Rattle.audit_frames.specs.declared.lines.Lines.{Lines}
use Rattle.audit_frames.specs.declared.terms.Task.{Task}
use Rattle.audit_frames.specs.declared.terms.Task.TheVariants.{Call, Line}

-- the unit is this converter unit, and this serial unit
abbrev pub is_converter_of : units.Unit → ℕ → Bool
is_converter_of Adc0 k = k == 0
is_converter_of Adc1 k = k == 1
is_converter_of Spi0 k = false
is_converter_of Spi1 k = false

abbrev pub is_serial_of : units.Unit → ℕ → Bool
is_serial_of Adc0 k = false
is_serial_of Adc1 k = false
is_serial_of Spi0 k = k == 0
is_serial_of Spi1 k = k == 1

-- the move writes the register that starts the unit
abbrev pub starts : units.Unit → Move → Bool
starts u (Write (ConverterGo k) v) = is_converter_of u k
starts u (Write (SerialData k) v) = is_serial_of u k
starts u _ = false

-- the move reads the register that aborts it, which gave 1
abbrev pub aborts : units.Unit → Move → (value : ℕ) → Bool
aborts u (Read (ConverterAbort k)) value = is_converter_of u k && value == 1
aborts u _ value = false

-- a frame waits for a word with the mask open
abbrev pub waits_open : (inside : Bool) → Move → Bool
waits_open inside made = not (is_wait made) || not inside

-- the event stands at a move that it can stand at
abbrev pub stands_at : Option Event → Move → (value : ℕ) → Bool
stands_at None made value = true
stands_at (Some Act) made value = true
stands_at (Some (Serve l)) made value = true
stands_at (Some (Start u)) made value = starts u made
stands_at (Some (Abort u)) made value = aborts u made value

abbrev pub is_call : Task → Bool
is_call (Call c) = true
is_call (Line l) = false

-- a call acts once, and a handler doesn't; lines are served in a window, and units start and abort with no notice owed
abbrev pub may_have : Task → Lines → (has_acted owes inside : Bool) → (polls : List ℕ) → Option Event → Bool
may_have task x has_acted owes inside polls None = true
may_have task x has_acted owes inside polls (Some Act) = is_call task && not has_acted
may_have task x has_acted owes inside polls (Some (Serve l)) = may_serve x task polls l owes && inside
may_have task x has_acted owes inside polls (Some (Abort u)) = not owes
may_have task x has_acted owes inside polls (Some (Start u)) = not owes
