use Rattle.trace_reader.proofs.registers.capture.Goals as goal

pub returns : goal.returns
returns c = c.chosen.ensures
