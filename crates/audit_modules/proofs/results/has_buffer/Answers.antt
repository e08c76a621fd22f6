use Rattle.std.proofs.Common.{◌≡◌}
use Rattle.adc_machine.specs.Machine.{place_value}
use Rattle.adc_machine.specs.Words.{result_word}
use Rattle.chip_model.specs.Chip.{word_of}
use Rattle.audit_modules.proofs.Below.{one_more, one_fails, all_pass}
use Rattle.audit_modules.proofs.results.has_buffer.Goals as goal

pub loop-place-preserved : goal.loop-place-preserved
loop-place-preserved c s h = one_more (λ p. word_of c.args.bus.now (result_word c.args.group c.args.buffer p) ≡ place_value s c.args.group c.args.buffer p) c.loop-place.place c.has_result.result (c.loop-place.invariant s h) (c.has_result.ensures s h) c.if-not-has_result.false

pub returns-then-not-has_result : goal.returns-then-not-has_result
returns-then-not-has_result c s h = one_fails (λ p. word_of c.args.bus.now (result_word c.args.group c.args.buffer p) ≡ place_value s c.args.group c.args.buffer p) c.loop-place.place c.args.count c.has_result.result c.loop-place-test.true (c.has_result.ensures s h) c.if-not-has_result.true

pub returns : goal.returns
returns c s h = all_pass (λ p. word_of c.args.bus.now (result_word c.args.group c.args.buffer p) ≡ place_value s c.args.group c.args.buffer p) c.loop-place.place c.args.count c.loop-place-test.false (c.loop-place.invariant s h)
