use Rattle.std.proofs.Common.{◌∙◌, ◌==◌, ap, sym, slice_index_or}
use Rattle.std.specs.Prelude.{if◌then◌else◌}
use Rattle.module_machines.specs.port.Machine.{Inverted, PinState, after_change, untouched}
use Rattle.audit_clock.specs.PinStands.{state_of}
use Rattle.audit_clock.proofs.PortPlaces.{inverted_there}
use Rattle.audit_clock.proofs.pins.Pins.invert.Goals as goal

pub returns-clause-is : goal.returns-clause-is
returns-clause-is c s h =
    let q = c.args.number in
    record {
      initialised = c.set.ensures.initialised ∙ h.initialised;
      pins = λ p lt.
          let old = slice_index_or c.args.self.now.pins p untouched in
          inverted_there q p old (slice_index_or c.set.new.self.pins p untouched) (state_of c.at-state.result)
          (λ is. c.at-state.ensures ∙ ap (λ j. slice_index_or c.args.self.now.pins j untouched) (sym is))
          (c.set.ensures.pins p lt ∙ ap (λ (x : PinState). if p == q then x else old) c.with_latch.ensures)
          ∙ ap (λ x. after_change (Inverted q) (λ _. x) p) (h.pins p lt);
    }
