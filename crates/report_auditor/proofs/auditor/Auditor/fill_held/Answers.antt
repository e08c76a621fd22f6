-- Each cause is that of the run.
use Rattle.std.proofs.Common.{sym, ◌∙◌, ap}
use Rattle.std.specs.List.{list_any}
use Rattle.run_model.specs.Moment.{reads_from}
use Rattle.audit_subject.specs.Origins.{origin_of}
use Rattle.report_auditor.proofs.HeldLaws.{any_origin, fill_is, fill_there}
use Rattle.report_auditor.proofs.auditor.Auditor.fill_held.Goals as goal

pub returns-clause-there : goal.returns-clause-there
returns-clause-there g c none =
    let within = rw (← c.self.view_is) at c.requires.within in
    g.met.P.Whole.filled c.self.inside.parts c.args.channel within (sym c.fills-there.ensures ∙ fill_there c.masked-masked.result c.fills-there.result _ (sym c.fill_cause.ensures ∙ none))

pub returns-clause-held : goal.returns-clause-held
returns-clause-held g c t p stands =
    let s = rw (← c.self.view_is) at stands in
    let own = g.P.Subject.setting (g.P.Part.table c.self.inside.parts) in
    let read = c.one_reads-read.ensures ∙ (ap (λ xs. list_any (λ o. reads_from own c.args.channel (origin_of o)) xs) c.as_slice.ensures.value ∙ any_origin origin_of (reads_from own c.args.channel) c.self.inside.origins.items) in
    c.fill_cause.ensures ∙ fill_is g.P.Whole.agrees g.P.Subject.setting g.P.Part.table g.P.Part.stands t _ p s c.args.channel c.masked-masked.result c.fills-there.result c.in_use-used.result c.one_reads-read.result c.masked-masked.ensures c.fills-there.ensures (c.in_use-used.ensures p.moment.world p.moment.state s.state) read
