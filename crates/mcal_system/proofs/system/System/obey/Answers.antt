use Rattle.std.proofs.Common.{refl, sym, ◌∙◌, ap}
use Rattle.mcal_drivers.specs.Drivers.{drivers_of}
use Rattle.mcal_system.proofs.Carried.{adds, calls, devices_there, on_ok_map, seen}
use Rattle.mcal_system.proofs.system.System.obey.Goals as goal

pub obey-obeyed-requires-clause-hung : goal.obey-obeyed-requires-clause-hung
obey-obeyed-requires-clause-hung g c = c.requires.hung ∙ sym (devices_there c.self.inside.engine c.self.invariant.made c.args.self.now c.self.view_is c.bus.ensures.stands)

pub returns-clause-adds : goal.returns-clause-adds
returns-clause-adds g c = on_ok_map c.obey-obeyed.result (λ h. adds c.self.inside.engine c.self.invariant.made c.args.self.now c.self.view_is c.args.directive.now c.obey-obeyed.new.self h) c.obey-obeyed.ensures.adds

pub returns-clause-hung : goal.returns-clause-hung
returns-clause-hung g c =
    let e = c.obey-obeyed.new.self in
    let made = c.obey-obeyed.ensures.same.driver ∙ c.self.invariant.made ∙ ap drivers_of (sym c.obey-obeyed.ensures.same.config) in
    c.obey-obeyed.ensures.hung ∙ devices_there e made (seen e) refl c.bus-2.ensures.stands

pub returns-clause-calls : goal.returns-clause-calls
returns-clause-calls g c = calls c.self.inside.engine c.self.invariant.made c.args.self.now c.self.view_is c.obey-obeyed.new.self _ _ c.obey-obeyed.ensures.calls
