use Rattle.audit_converters.proofs.part.ConvertersPart.reset.Goals as goal

pub returns-clause-comes : goal.returns-clause-comes
returns-clause-comes c w s stands = c.reset.ensures.is w s c.args._reason
