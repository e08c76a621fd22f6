use Rattle.std.proofs.Common.{◌≡◌}
use Rattle.chip_model.specs.Chip.{word_of}
use Rattle.module_machines.specs.icu.Shown.{stamp_at}
use Rattle.mcal_base.specs.Layout.{place_of}
use Rattle.mcal_base.specs.declared.layout.Array.TheVariants.{Stamps}
use Rattle.audit_modules.proofs.Below.{one_more, one_fails, all_pass}
use Rattle.audit_modules.proofs.stamps.has_stamps.Goals as goal

pub loop-place-preserved : goal.loop-place-preserved
loop-place-preserved c s h = one_more (λ i. word_of c.args.bus.now (place_of (Stamps c.args.channel) i) ≡ stamp_at s c.args.channel i) c.loop-place.place c.has_stamp.result (c.loop-place.invariant s h) (c.has_stamp.ensures s h) c.if-not-has_stamp.false

pub returns-then-not-has_stamp : goal.returns-then-not-has_stamp
returns-then-not-has_stamp c s h = one_fails (λ i. word_of c.args.bus.now (place_of (Stamps c.args.channel) i) ≡ stamp_at s c.args.channel i) c.loop-place.place 64 c.has_stamp.result c.loop-place-test.true (c.has_stamp.ensures s h) c.if-not-has_stamp.true

pub returns : goal.returns
returns c s h = all_pass (λ i. word_of c.args.bus.now (place_of (Stamps c.args.channel) i) ≡ stamp_at s c.args.channel i) c.loop-place.place 64 c.loop-place-test.false (c.loop-place.invariant s h)
