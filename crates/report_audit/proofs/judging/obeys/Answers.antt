-- Each kind of directive is taken as what its items print.
use Rattle.std.proofs.Common.{◌≡◌, true, inl, inr, refl, subst, arith}
use Rattle.mcal_base.specs.declared.directive.Order.{Order}
use Rattle.mcal_base.specs.declared.directive.Order.TheVariants as orders
use Rattle.script_runner.specs.Scripts.{is_offered}
use Rattle.script_runner.specs.Standing.{is_built, words_by}
use Rattle.report_auditor.specs.Auditing.{Stands}
use Rattle.report_text.specs.Unread.{own_text}
use Rattle.report_audit.specs.Obeying.{HandlesLine}
use Rattle.report_audit.proofs.ObeyLaws.{MovesHardware, by_order, few_open, hardware_as, reset_as}
use Rattle.report_audit.proofs.TakeLaws.{fewer, for_none}
use Rattle.report_audit.proofs.judging.obeys.Goals as goal

-- Call
pub call-requires-clause-ready : goal.call-requires-clause-ready
call-requires-clause-ready g c = for_none g.P.Part.fits g.P.Whole.within g.P.Part.ticks (words_by c.args.directive.now.order) c.args.auditor.now c.requires.ready

pub call-requires-clause-has : goal.call-requires-clause-has
call-requires-clause-has g c = subst (λ (x : Order). is_offered g.P.Whole.has_service x ≡ true) c.in-Call.is c.requires.can.offered

pub returns-in-Call-clause-obeys : goal.returns-in-Call-clause-obeys
returns-in-Call-clause-obeys g c t p stands served = by_order (g.P.Subject.setting t) g.P.Whole.call_of (g.P.Whole.showing c.args.configuration.now) p c.call.result (Stands g.P.Whole.agrees g.P.Subject.setting g.P.Part.table g.P.Part.stands t c.call.new.auditor) c.args.report.now.number (own_text c.args.report.now) (own_text c.call.new.report) c.args.directive.now (omega arith) (few_open (g.P.Subject.setting t) _ p.moment.opens stands.frames c.requires.ready.sound.few) served c.requires.can.built (orders.Call c.in-Call.level c.in-Call.request) c.in-Call.is (c.call.ensures.call t p stands served)

pub returns-in-Call-clause-ready : goal.returns-in-Call-clause-ready
returns-in-Call-clause-ready g c given ready = c.call.ensures.ready given (fewer g.P.Part.fits g.P.Whole.within g.P.Part.ticks (words_by c.args.directive.now.order) given c.args.auditor.now ready)

pub returns-in-Call-clause-on : goal.returns-in-Call-clause-on
returns-in-Call-clause-on g c t p stands = c.call.ensures.on

-- Do
pub call-requires-in-Do-clause-ready : goal.call-requires-in-Do-clause-ready
call-requires-in-Do-clause-ready g c = for_none g.P.Part.fits g.P.Whole.within g.P.Part.ticks (words_by c.args.directive.now.order) c.args.auditor.now c.requires.ready

pub call-requires-in-Do-clause-has : goal.call-requires-in-Do-clause-has
call-requires-in-Do-clause-has g c = subst (λ (x : Order). is_offered g.P.Whole.has_service x ≡ true) c.in-Do.is c.requires.can.offered

pub returns-in-Do-clause-obeys : goal.returns-in-Do-clause-obeys
returns-in-Do-clause-obeys g c t p stands served = by_order (g.P.Subject.setting t) g.P.Whole.call_of (g.P.Whole.showing c.args.configuration.now) p c.call-in-Do.result (Stands g.P.Whole.agrees g.P.Subject.setting g.P.Part.table g.P.Part.stands t c.call-in-Do.new.auditor) c.args.report.now.number (own_text c.args.report.now) (own_text c.call-in-Do.new.report) c.args.directive.now (omega arith) (few_open (g.P.Subject.setting t) _ p.moment.opens stands.frames c.requires.ready.sound.few) served c.requires.can.built (orders.Do c.in-Do.level c.in-Do.request) c.in-Do.is (c.call-in-Do.ensures.call t p stands served)

pub returns-in-Do-clause-ready : goal.returns-in-Do-clause-ready
returns-in-Do-clause-ready g c given ready = c.call-in-Do.ensures.ready given (fewer g.P.Part.fits g.P.Whole.within g.P.Part.ticks (words_by c.args.directive.now.order) given c.args.auditor.now ready)

pub returns-in-Do-clause-on : goal.returns-in-Do-clause-on
returns-in-Do-clause-on g c t p stands = c.call-in-Do.ensures.on

-- Enter
pub enter-requires-clause-ready : goal.enter-requires-clause-ready
enter-requires-clause-ready g c = for_none g.P.Part.fits g.P.Whole.within g.P.Part.ticks (words_by c.args.directive.now.order) c.args.auditor.now c.requires.ready

pub enter-requires-clause-there : goal.enter-requires-clause-there
enter-requires-clause-there g c = subst HandlesLine c.in-Enter.is c.requires.can.handles

pub returns-in-Enter-clause-obeys : goal.returns-in-Enter-clause-obeys
returns-in-Enter-clause-obeys g c t p stands served = by_order (g.P.Subject.setting t) g.P.Whole.call_of (g.P.Whole.showing c.args.configuration.now) p c.enter.result (Stands g.P.Whole.agrees g.P.Subject.setting g.P.Part.table g.P.Part.stands t c.enter.new.auditor) c.args.report.now.number (own_text c.args.report.now) (own_text c.enter.new.report) c.args.directive.now (omega arith) (few_open (g.P.Subject.setting t) _ p.moment.opens stands.frames c.requires.ready.sound.few) served c.requires.can.built (orders.Enter c.in-Enter.irq) c.in-Enter.is (c.enter.ensures.enter t p stands served)

pub returns-in-Enter-clause-ready : goal.returns-in-Enter-clause-ready
returns-in-Enter-clause-ready g c given ready = c.enter.ensures.ready given (fewer g.P.Part.fits g.P.Whole.within g.P.Part.ticks (words_by c.args.directive.now.order) given c.args.auditor.now ready)

pub returns-in-Enter-clause-on : goal.returns-in-Enter-clause-on
returns-in-Enter-clause-on g c t p stands = c.enter.ensures.on

-- Serve
pub enter-requires-in-Serve-clause-ready : goal.enter-requires-in-Serve-clause-ready
enter-requires-in-Serve-clause-ready g c = for_none g.P.Part.fits g.P.Whole.within g.P.Part.ticks (words_by c.args.directive.now.order) c.args.auditor.now c.requires.ready

pub enter-requires-in-Serve-clause-there : goal.enter-requires-in-Serve-clause-there
enter-requires-in-Serve-clause-there g c = subst HandlesLine c.in-Serve.is c.requires.can.handles

pub returns-in-Serve-clause-obeys : goal.returns-in-Serve-clause-obeys
returns-in-Serve-clause-obeys g c t p stands served = by_order (g.P.Subject.setting t) g.P.Whole.call_of (g.P.Whole.showing c.args.configuration.now) p c.enter-in-Serve.result (Stands g.P.Whole.agrees g.P.Subject.setting g.P.Part.table g.P.Part.stands t c.enter-in-Serve.new.auditor) c.args.report.now.number (own_text c.args.report.now) (own_text c.enter-in-Serve.new.report) c.args.directive.now (omega arith) (few_open (g.P.Subject.setting t) _ p.moment.opens stands.frames c.requires.ready.sound.few) served c.requires.can.built (orders.Serve c.in-Serve.irq) c.in-Serve.is (c.enter-in-Serve.ensures.enter t p stands served)

pub returns-in-Serve-clause-ready : goal.returns-in-Serve-clause-ready
returns-in-Serve-clause-ready g c given ready = c.enter-in-Serve.ensures.ready given (fewer g.P.Part.fits g.P.Whole.within g.P.Part.ticks (words_by c.args.directive.now.order) given c.args.auditor.now ready)

pub returns-in-Serve-clause-on : goal.returns-in-Serve-clause-on
returns-in-Serve-clause-on g c t p stands = c.enter-in-Serve.ensures.on

-- Run
pub goes-requires : goal.goes-requires
goes-requires g c = record { ready = for_none g.P.Part.fits g.P.Whole.within g.P.Part.ticks (words_by c.args.directive.now.order) c.args.auditor.now c.requires.ready }

pub returns-in-Run-clause-obeys : goal.returns-in-Run-clause-obeys
returns-in-Run-clause-obeys g c t p stands served = by_order (g.P.Subject.setting t) g.P.Whole.call_of (g.P.Whole.showing c.args.configuration.now) p c.goes.result (Stands g.P.Whole.agrees g.P.Subject.setting g.P.Part.table g.P.Part.stands t c.goes.new.auditor) c.args.report.now.number (own_text c.args.report.now) (own_text c.goes.new.report) c.args.directive.now (omega arith) (few_open (g.P.Subject.setting t) _ p.moment.opens stands.frames c.requires.ready.sound.few) served c.requires.can.built (orders.Run c.in-Run.steps) c.in-Run.is (c.goes.ensures.goes t p stands served)

pub returns-in-Run-clause-ready : goal.returns-in-Run-clause-ready
returns-in-Run-clause-ready g c given ready = c.goes.ensures.ready given (fewer g.P.Part.fits g.P.Whole.within g.P.Part.ticks (words_by c.args.directive.now.order) given c.args.auditor.now ready)

pub returns-in-Run-clause-on : goal.returns-in-Run-clause-on
returns-in-Run-clause-on g c t p stands = c.goes.ensures.on

-- Upto
pub goes-requires-in-Upto : goal.goes-requires-in-Upto
goes-requires-in-Upto g c = record { ready = for_none g.P.Part.fits g.P.Whole.within g.P.Part.ticks (words_by c.args.directive.now.order) c.args.auditor.now c.requires.ready }

pub returns-in-Upto-clause-obeys : goal.returns-in-Upto-clause-obeys
returns-in-Upto-clause-obeys g c t p stands served = by_order (g.P.Subject.setting t) g.P.Whole.call_of (g.P.Whole.showing c.args.configuration.now) p c.goes-in-Upto.result (Stands g.P.Whole.agrees g.P.Subject.setting g.P.Part.table g.P.Part.stands t c.goes-in-Upto.new.auditor) c.args.report.now.number (own_text c.args.report.now) (own_text c.goes-in-Upto.new.report) c.args.directive.now (omega arith) (few_open (g.P.Subject.setting t) _ p.moment.opens stands.frames c.requires.ready.sound.few) served c.requires.can.built (orders.Upto c.in-Upto.stop) c.in-Upto.is (c.goes-in-Upto.ensures.goes t p stands served)

pub returns-in-Upto-clause-ready : goal.returns-in-Upto-clause-ready
returns-in-Upto-clause-ready g c given ready = c.goes-in-Upto.ensures.ready given (fewer g.P.Part.fits g.P.Whole.within g.P.Part.ticks (words_by c.args.directive.now.order) given c.args.auditor.now ready)

pub returns-in-Upto-clause-on : goal.returns-in-Upto-clause-on
returns-in-Upto-clause-on g c t p stands = c.goes-in-Upto.ensures.on

-- Finish
pub goes-requires-in-Finish : goal.goes-requires-in-Finish
goes-requires-in-Finish g c = record { ready = for_none g.P.Part.fits g.P.Whole.within g.P.Part.ticks (words_by c.args.directive.now.order) c.args.auditor.now c.requires.ready }

pub returns-in-Finish-clause-obeys : goal.returns-in-Finish-clause-obeys
returns-in-Finish-clause-obeys g c t p stands served = by_order (g.P.Subject.setting t) g.P.Whole.call_of (g.P.Whole.showing c.args.configuration.now) p c.goes-in-Finish.result (Stands g.P.Whole.agrees g.P.Subject.setting g.P.Part.table g.P.Part.stands t c.goes-in-Finish.new.auditor) c.args.report.now.number (own_text c.args.report.now) (own_text c.goes-in-Finish.new.report) c.args.directive.now (omega arith) (few_open (g.P.Subject.setting t) _ p.moment.opens stands.frames c.requires.ready.sound.few) served c.requires.can.built (orders.Finish) c.in-Finish.is (c.goes-in-Finish.ensures.goes t p stands served)

pub returns-in-Finish-clause-ready : goal.returns-in-Finish-clause-ready
returns-in-Finish-clause-ready g c given ready = c.goes-in-Finish.ensures.ready given (fewer g.P.Part.fits g.P.Whole.within g.P.Part.ticks (words_by c.args.directive.now.order) given c.args.auditor.now ready)

pub returns-in-Finish-clause-on : goal.returns-in-Finish-clause-on
returns-in-Finish-clause-on g c t p stands = c.goes-in-Finish.ensures.on

-- Tick
pub ticks-requires : goal.ticks-requires
ticks-requires g c = record { ready = for_none g.P.Part.fits g.P.Whole.within g.P.Part.ticks (words_by c.args.directive.now.order) c.args.auditor.now c.requires.ready }

pub returns-in-Tick-clause-obeys : goal.returns-in-Tick-clause-obeys
returns-in-Tick-clause-obeys g c t p stands served = by_order (g.P.Subject.setting t) g.P.Whole.call_of (g.P.Whole.showing c.args.configuration.now) p c.ticks.result (Stands g.P.Whole.agrees g.P.Subject.setting g.P.Part.table g.P.Part.stands t c.ticks.new.auditor) c.args.report.now.number (own_text c.args.report.now) (own_text c.ticks.new.report) c.args.directive.now (omega arith) (few_open (g.P.Subject.setting t) _ p.moment.opens stands.frames c.requires.ready.sound.few) served c.requires.can.built (orders.Tick c.in-Tick.count) c.in-Tick.is (c.ticks.ensures.ticks t p stands served)

pub returns-in-Tick-clause-ready : goal.returns-in-Tick-clause-ready
returns-in-Tick-clause-ready g c given ready = c.ticks.ensures.ready given (fewer g.P.Part.fits g.P.Whole.within g.P.Part.ticks (words_by c.args.directive.now.order) given c.args.auditor.now ready)

pub returns-in-Tick-clause-on : goal.returns-in-Tick-clause-on
returns-in-Tick-clause-on g c t p stands = c.ticks.ensures.on

-- Reset
pub says_reset-requires : goal.says_reset-requires
says_reset-requires g c = record { ready = for_none g.P.Part.fits g.P.Whole.within g.P.Part.ticks (words_by c.args.directive.now.order) c.args.auditor.now c.requires.ready }

pub returns-in-Reset-clause-obeys : goal.returns-in-Reset-clause-obeys
returns-in-Reset-clause-obeys g c t p stands served =
    let built = subst (λ (x : Order). is_built x ≡ true) c.in-Reset.is c.requires.can.built in
    by_order (g.P.Subject.setting t) g.P.Whole.call_of (g.P.Whole.showing c.args.configuration.now) p c.says_reset.result (Stands g.P.Whole.agrees g.P.Subject.setting g.P.Part.table g.P.Part.stands t c.says_reset.new.auditor) c.args.report.now.number (own_text c.args.report.now) (own_text c.says_reset.new.report) c.args.directive.now (omega arith) (few_open (g.P.Subject.setting t) _ p.moment.opens stands.frames c.requires.ready.sound.few) served c.requires.can.built (orders.Reset c.in-Reset.reason) c.in-Reset.is (reset_as (g.P.Subject.setting t) g.P.Whole.call_of (g.P.Whole.showing c.args.configuration.now) p c.says_reset.result (Stands g.P.Whole.agrees g.P.Subject.setting g.P.Part.table g.P.Part.stands t c.says_reset.new.auditor) c.args.report.now.number (own_text c.args.report.now) (own_text c.says_reset.new.report) c.args.directive.now.line c.in-Reset.reason built (c.says_reset.ensures.resets t p stands served))

pub returns-in-Reset-clause-ready : goal.returns-in-Reset-clause-ready
returns-in-Reset-clause-ready g c given ready = c.says_reset.ensures.ready given (fewer g.P.Part.fits g.P.Whole.within g.P.Part.ticks (words_by c.args.directive.now.order) given c.args.auditor.now ready)

pub returns-in-Reset-clause-on : goal.returns-in-Reset-clause-on
returns-in-Reset-clause-on g c t p stands = c.says_reset.ensures.on

-- Show
pub returns-in-Show-clause-obeys : goal.returns-in-Show-clause-obeys
returns-in-Show-clause-obeys g c t p stands served = by_order (g.P.Subject.setting t) g.P.Whole.call_of (g.P.Whole.showing c.args.configuration.now) p c.show.result (Stands g.P.Whole.agrees g.P.Subject.setting g.P.Part.table g.P.Part.stands t c.show.new.auditor) c.args.report.now.number (own_text c.args.report.now) (own_text c.show.new.report) c.args.directive.now (omega arith) (few_open (g.P.Subject.setting t) _ p.moment.opens stands.frames c.requires.ready.sound.few) served c.requires.can.built (orders.Show c.in-Show.what) c.in-Show.is (c.show.ensures.show t p stands served)

pub returns-in-Show-clause-ready : goal.returns-in-Show-clause-ready
returns-in-Show-clause-ready g c given ready = c.show.ensures.ready given (fewer g.P.Part.fits g.P.Whole.within g.P.Part.ticks (words_by c.args.directive.now.order) given c.args.auditor.now ready)

pub returns-in-Show-clause-on : goal.returns-in-Show-clause-on
returns-in-Show-clause-on g c t p stands = c.show.ensures.on t p stands

-- the hardware
pub hardware-requires-clause-there : goal.hardware-requires-clause-there
hardware-requires-clause-there g c = c.requires.can.there

pub returns-in-Level-clause-obeys : goal.returns-in-Level-clause-obeys
returns-in-Level-clause-obeys g c t p stands served =
    let moves : MovesHardware c.args.directive.now.order = elim c.in-Level.is [
      | inl e ↦ rw e.2 tt
      | inr (inl e) ↦ rw e.2 tt
      | inr (inr (inl e)) ↦ rw e.1 tt
      | inr (inr (inr (inl e))) ↦ rw e.2 tt
      | inr (inr (inr (inr (inl e)))) ↦ rw e.1 tt
      | inr (inr (inr (inr (inr (inl e))))) ↦ rw e tt
      | inr (inr (inr (inr (inr (inr e))))) ↦ rw e.2 tt
    ] in
    by_order (g.P.Subject.setting t) g.P.Whole.call_of (g.P.Whole.showing c.args.configuration.now) p c.hardware.result (Stands g.P.Whole.agrees g.P.Subject.setting g.P.Part.table g.P.Part.stands t c.hardware.new.auditor) c.args.report.now.number (own_text c.args.report.now) (own_text c.hardware.new.report) c.args.directive.now (omega arith) (few_open (g.P.Subject.setting t) _ p.moment.opens stands.frames c.requires.ready.sound.few) served c.requires.can.built (c.args.directive.now.order) refl (hardware_as (g.P.Subject.setting t) g.P.Whole.call_of (g.P.Whole.showing c.args.configuration.now) p c.hardware.result (Stands g.P.Whole.agrees g.P.Subject.setting g.P.Part.table g.P.Part.stands t c.hardware.new.auditor) c.args.report.now.number (own_text c.args.report.now) (own_text c.hardware.new.report) c.args.directive.now.line c.args.directive.now.order moves (c.hardware.ensures.hardware t p stands served))

pub returns-in-Level-clause-on : goal.returns-in-Level-clause-on
returns-in-Level-clause-on g c t p stands = c.hardware.ensures.on
