use Rattle.trace_reader.proofs.registers.pin.Goals as goal

pub returns : goal.returns
returns c = c.chosen.ensures
