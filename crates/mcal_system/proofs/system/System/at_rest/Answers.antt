use Rattle.std.proofs.Common.{◌≡◌, refl, sym, ◌∙◌, ap, subst}
use Rattle.chip_model.specs.Chip.{Chip}
use Rattle.mcal_drivers.specs.Drivers.{drivers_of}
use Rattle.mcal_drivers.specs.declared.drivers.Drivers.{Drivers}
use Rattle.mcal_system.specs.Runs.{resting}
use Rattle.mcal_system.specs.laws.Resting.{IsResting}
use Rattle.mcal_system.proofs.Carried.{alone, legal, parts_of, resting_there, seen, some}
use Rattle.mcal_system.proofs.Resting.{run_at}
use Rattle.mcal_system.proofs.system.System.at_rest.Goals as goal

pub returns-then-not-is_at_rest-clause-is : goal.returns-then-not-is_at_rest-clause-is
returns-then-not-is_at_rest-clause-is c = some c.self.inside.engine c.self.invariant.made c.args.self.now c.self.view_is c.bus-bus.ensures.stands c.if-not-is_at_rest.ensures.frames

pub invariant_of-result : goal.invariant_of-result
invariant_of-result c =
    let e = c.self.inside.engine in
    let made = c.self.invariant.made in
    let none = alone e made (seen e) refl c.if-not-is_at_rest.ensures.quiet in
    let told = legal e made (seen e) refl c.journal.result.now.entries c.journal.ensures.legal in
    let rests = resting_there e made (seen e) refl c.bus-bus.ensures.stands none c.self.invariant.valid c.journal.result.now.entries (ap (λ w. w.entries) c.journal.ensures.journal) told in
    let drivers_are = c.driver-drivers.ensures.driver ∙ made ∙ ap drivers_of (sym c.config.ensures) in (
      parts_of e c.config.ensures c.script.ensures c.devices.ensures c.journal.ensures.journal (λ k ds n w. IsResting k ds n w.entries c.bus-bus.result.now) (subst (λ (x : Chip). IsResting e.config e.script e.devices e.journal.entries x) (sym c.bus-bus.ensures.chip) rests),
      record {
        captures_are = c.captures-2.ensures ∙ ap (λ (u : Drivers). u.captures) drivers_are;
        converters_are = c.converters.ensures ∙ ap (λ (u : Drivers). u.converters) drivers_are;
        serial_is = c.serial.ensures ∙ ap (λ (u : Drivers). u.serial) drivers_are;
      },
    )

pub returns-clause-is : goal.returns-clause-is
returns-clause-is c = parts_of c.self.inside.engine c.config.ensures c.script.ensures c.devices.ensures c.journal.ensures.journal (λ k ds n w. run_at n k ds w.entries ≡ resting c.args.self.now) (ap resting c.self.view_is)

pub returns-clause-alone : goal.returns-clause-alone
returns-clause-alone c = alone c.self.inside.engine c.self.invariant.made c.args.self.now c.self.view_is c.if-not-is_at_rest.ensures.quiet
