use Rattle.std.proofs.Common.{ap, None, ◌∙◌}
use Rattle.std.specs.Prelude.{is_some}
use Rattle.spi_machine.specs.Machine.{number_of, start_of}
use Rattle.spi_machine.specs.State.{SpiState}
use Rattle.audit_serial.proofs.Framed.{starts_as}
use Rattle.audit_serial.specs.Stands.{state_of}
use Rattle.audit_serial.proofs.subject.SerialsSubject.starts_uncalled.Goals as goal

pub returns : goal.returns
returns c w s received fits at stands =
    let d = c.args.self.now.configured.table in
    let k = number_of c.args.unit in
    c.starts_next.ensures ∙ (starts_as d w (state_of c.args.self.now) k received ∙ ap (λ (x : SpiState). is_some (start_of d w x k None received)) stands)
