use Rattle.std.proofs.Common.{sym}
use Rattle.trace_reader.proofs.FoundRows.{chosen_rows}
use Rattle.trace_reader.proofs.registers.register_of.Goals as goal

pub returns : goal.returns
returns c =
    rw (c.or-6.ensures, c.or-5.ensures, c.or-4.ensures, c.or-3.ensures, c.or-2.ensures, c.or.ensures, c.timer.ensures, c.pulse.ensures, c.capture.ensures, c.converter.ensures, c.serial.ensures, c.pin.ensures, c.clock.ensures)
    (sym (chosen_rows c.args.letter.now c.args.name.now c.args.first c.args.second))
