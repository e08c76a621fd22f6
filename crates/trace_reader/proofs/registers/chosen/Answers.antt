use Rattle.std.proofs.Common.{Some, ap, ◌∙◌}
use Rattle.trace_reader.proofs.FoundRows.{reg_of}
use Rattle.trace_reader.proofs.registers.chosen.Goals as goal

pub returns-in-Some : goal.returns-in-Some
returns-in-Some c = ap Some c.register.ensures ∙ ap reg_of c.in-Some.ensures

pub returns-in-None : goal.returns-in-None
returns-in-None c = ap reg_of c.in-None.ensures
