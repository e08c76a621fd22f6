-- Chip, machines and what stands outside go on together.
use Rattle.std.proofs.Common.{◌≡◌, sym, ◌∙◌, ap, subst, arith}
use Rattle.chip_model.specs.Chip.{happened}
use Rattle.run_model.specs.Machine as machines
use Rattle.run_model.specs.World.{world_after}
use Rattle.audit_base.specs.Outside.{IsWorld}
use Rattle.report_auditor.specs.Deeds.{devices_after}
use Rattle.report_auditor.specs.Seeing.{moved_in}
use Rattle.report_auditor.proofs.DeedLaws.{comes_allowed, moved}
use Rattle.report_auditor.proofs.ServedParts.{as_run, machine_is}
use Rattle.report_auditor.proofs.SoundLaws.{can_happen, can_move, chip_devices, moved_sound, there_is, world_devices}
use Rattle.report_auditor.proofs.auditor.Auditor.moves.Goals as goal

pub moved-requires-clause-fits : goal.moved-requires-clause-fits
moved-requires-clause-fits g c = let r = rw (← c.self.view_is) at c.requires.ready in r.sound.can_tell

pub moved-requires-clause-count : goal.moved-requires-clause-count
moved-requires-clause-count g c = let h = rw (← c.self.view_is) at c.requires.time in h.told

pub moved-requires-clause-there : goal.moved-requires-clause-there
moved-requires-clause-there g c = there_is c.args.directive.now.order c.requires.there

pub move_by-requires-clause-short : goal.move_by-requires-clause-short
move_by-requires-clause-short g c = let h = rw (← c.self.view_is) at c.requires.time in omega (arith, h.osc)

pub move_by-requires-clause-there : goal.move_by-requires-clause-there
move_by-requires-clause-there g c = there_is c.args.directive.now.order c.requires.there

pub move_by-requires-clause-times : goal.move_by-requires-clause-times
move_by-requires-clause-times g c = let h = rw (← c.self.view_is) at c.requires.time in can_move c.self.inside.outside c.args.directive.now.order c.args.rate h c.requires.few c.requires.rate.1

pub move_by-requires-clause-count : goal.move_by-requires-clause-count
move_by-requires-clause-count g c = let h = rw (← c.self.view_is) at c.requires.time in h.told

pub hardware-requires : goal.hardware-requires
hardware-requires g c =
    let h = rw (← c.self.view_is) at c.requires.time in
    let r = rw (← c.self.view_is) at c.requires.ready in
    let same = rw (← c.self.view_is) at c.requires.rate in
    can_happen c.self.inside.bus c.self.inside.outside c.args.directive.now.order c.args.rate r.sound.osc r.sound.time (r.rate ∙ sym same.0) r.sound.room r.sound.sources h c.requires.few same.1 c.requires.there

pub returns-clause-moved : goal.returns-clause-moved
returns-clause-moved g c t p stands =
    let s = rw (← c.self.view_is) at stands in
    let own = g.P.Subject.setting t in
    let order = c.args.directive.now.order in
    let m = p.moment in
    let mac = (g.P.Part.member (g.P.Part.table c.self.inside.parts)).machine in
    let same = rw (← c.self.view_is) at c.requires.rate in
    let is : mac ≡ own.machine = machine_is g.P.Whole.agrees g.P.Subject.setting g.P.Part.table g.P.Part.stands g.P.Part.member g.met.P.Subject.member_is t _ p s in
    let allowed = comes_allowed g.P.Whole.agrees g.P.Subject.setting g.P.Part.table g.P.Part.stands t m _ (machines.Moves order) (mac.happens m.world m.state (machines.Moves order)) (ap (λ x. x.happens m.world m.state (machines.Moves order)) is) (c.in_ok-moved.ensures.comes m.world m.state s.world s.state) in
    let rate = as_run g.P.Whole.agrees g.P.Subject.setting g.P.Part.table g.P.Part.stands g.P.Part.member g.met.P.Subject.member_is t _ p s (λ x. x.rate m.state) c.args.rate ((rw (← c.self.view_is) at c.requires.is) m.state s.state) in
    let world = subst (λ n. IsWorld c.move_by.new.self (world_after m.world n order)) rate (c.in_ok-move_by.ensures.world m.world s.world) in
    let chip = c.hardware.ensures ∙ ap (λ v. happened v.chip order) c.self.view_is in (
      allowed.is,
      moved g.P.Whole.agrees g.P.Subject.setting g.P.Part.table g.P.Part.stands t g.met.P.Whole.kept_by_order g.met.P.Whole.ticked c.args.self.now _ p order stands allowed (c.in_ok-moved.ensures.table ∙ ap (λ v. g.P.Part.table v.parts) c.self.view_is) chip world
          (world_devices m.world (own.machine.rate m.state) order ∙ (ap (λ n. devices_after n order) s.devices ∙ (sym (chip_devices c.self.inside.bus order) ∙ sym (ap (λ x. x.devices) c.hardware.ensures))))
          (ap (λ x. x.devices) c.hardware.ensures ∙ (chip_devices c.self.inside.bus order ∙ (ap (λ n. devices_after n order) s.hung ∙ sym c.devices_after-self-inside.ensures)))
          (ap (λ v. v.frames) c.self.view_is) (ap (λ v. v.origins) c.self.view_is) (ap (λ v. v.tally) c.self.view_is)
          (c.happens.ensures ∙ ap (λ v. moved_in order v.seen) c.self.view_is),
    )

pub returns-clause-sound : goal.returns-clause-sound
returns-clause-sound g c given ready =
    let r = rw (← c.self.view_is) at ready in
    let same = rw (← c.self.view_is) at c.requires.rate in
    let order = c.args.directive.now.order in
    moved_sound g.P.Part.fits g.P.Whole.within given c.args.self.now _ order c.args.rate ready.sound (ready.rate ∙ sym c.requires.rate.0)
    (c.in_ok-moved.ensures.fits c.move_by.new.self c.in_ok-move_by.ensures.after) (g.met.P.Whole.stays c.self.inside.parts c.moved.new.self c.in_ok-moved.ensures.table r.sound.in_limits)
    (c.hardware.ensures ∙ ap (λ v. happened v.chip order) c.self.view_is)
    (λ w at. c.in_ok-move_by.ensures.world w (rw (← c.self.view_is) at at)) (ap (λ v. v.frames) c.self.view_is) (ap (λ v. v.origins) c.self.view_is)
