use Rattle.std.proofs.Common.{Some, sym, ap, ◌∙◌}
use Rattle.trace_reader.specs.declared.told.Told.{Told}
use Rattle.trace_reader.proofs.Scanning.{step_again}
use Rattle.trace_reader.proofs.scan.step.Goals as goal

pub returns : goal.returns
returns c =
    step_again c.args.number c.in_ok-depth.depth c.in_ok-made.value c.in_ok-received.received c.in_ok-made.made c.first_event-event.result.0 c.args.text.now c.in_ok-depth.rest.now c.in_ok-rest.rest.now c.in_ok-made.rest.now c.first_event-event.result.1.now
    c.ranges.number.fits c.in_ok-depth.ensures c.in_ok-rest.ensures c.in_ok-made.ensures c.first_event-event.ensures c.in_ok-received.ensures.text c.in_ok-received.ensures.fits
    ∙ ap (λ (told : Told). Some (record { number = c.args.number; told = told })) (sym c.told_step-told.ensures)
