use Rattle.trace_reader.proofs.registers.timer.Goals as goal

pub returns : goal.returns
returns c = c.chosen.ensures
