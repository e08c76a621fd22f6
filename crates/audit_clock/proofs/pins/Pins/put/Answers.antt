use Rattle.std.proofs.Common.{◌≡◌, ◌+◌, ◌*◌, ◌/◌, ◌%◌, ◌∙◌, ap, sym, refl, arith, slice_index_or, nat_lt, ◌==◌, ◌&&◌}
use Rattle.std.specs.Prelude.{if◌then◌else◌}
use Rattle.module_machines.specs.port.Machine.{Put, PinState, after_change, untouched}
use Rattle.audit_clock.specs.PinStands.{latched, state_of}
use Rattle.audit_clock.proofs.PortPlaces.{put_none, put_next, put_all}
use Rattle.audit_clock.proofs.pins.Pins.put.Goals as goal

pub loop-place-init : goal.loop-place-init
loop-place-init c = record { pins = λ p lt. put_none c.args.port p c.args.word (slice_index_or c.args.self.now.pins p untouched); driver = refl; initialised = refl }

pub loop-place-preserved : goal.loop-place-preserved
loop-place-preserved c =
    let k = c.loop-place.invariant in
    let n = c.loop-place.place in
    let number = 8 * c.args.port + n in
    record {
      pins = λ p lt. put_next c.args.port n p c.args.word (slice_index_or c.args.self.now.pins p untouched) (slice_index_or c.loop-place.self.pins p untouched) (slice_index_or c.set.new.self.pins p untouched) (state_of c.at.result) (omega arith) (k.pins p lt)
          (λ is. c.at.ensures ∙ ap (λ j. slice_index_or c.loop-place.self.pins j untouched) (sym is))
          (c.set.ensures.pins p lt ∙ ap (λ (x : PinState). if p == number then x else slice_index_or c.loop-place.self.pins p untouched) c.latched-state.ensures);
      driver = c.set.ensures.driver ∙ k.driver;
      initialised = c.set.ensures.initialised ∙ k.initialised;
    }

pub returns-clause-is : goal.returns-clause-is
returns-clause-is c s h =
    let k = c.loop-place.invariant in
    let all : c.loop-place.place ≡ 8 = omega arith in
    let q = c.args.port in
    record {
      initialised = k.initialised ∙ h.initialised;
      pins = λ p lt.
          let old = slice_index_or c.args.self.now.pins p untouched in
          k.pins p lt
          ∙ ap (λ n. if q == p / 8 && nat_lt (p % 8) n then latched c.args.word (p % 8) old else old) all
          ∙ put_all q p c.args.word old
          ∙ ap (λ x. after_change (Put q c.args.word) (λ _. x) p) (h.pins p lt);
    }

pub returns-clause-driver : goal.returns-clause-driver
returns-clause-driver c = c.loop-place.invariant.driver
