use Rattle.audit_converters.proofs.subject.ConvertersSubject.starts_uncalled.Goals as goal

pub returns : goal.returns
returns c w s received fits at stands = c.starts.ensures w s stands
