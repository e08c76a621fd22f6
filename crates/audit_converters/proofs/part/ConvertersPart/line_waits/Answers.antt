use Rattle.audit_converters.proofs.part.ConvertersPart.line_waits.Goals as goal

pub returns : goal.returns
returns c w s fits at stands = c.line_waits.ensures w s at.now stands
