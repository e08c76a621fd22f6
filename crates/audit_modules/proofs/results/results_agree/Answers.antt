use Rattle.adc_machine.specs.Words.{HoldsResults}
use Rattle.chip_model.specs.Chip.{word_of}
use Rattle.audit_modules.proofs.Below.{one_more, one_fails, all_pass}
use Rattle.audit_modules.proofs.Joining.{all_results}
use Rattle.audit_modules.proofs.results.results_agree.Goals as goal

pub loop-group-preserved : goal.loop-group-preserved
loop-group-preserved c s h = one_more (λ g. HoldsResults (word_of c.args.bus.now) c.args.converters.now.table s g) c.loop-group.group c.results_stand.result (c.loop-group.invariant s h) (c.results_stand.ensures s h) c.if-not-results_stand.false

pub returns-then-not-results_stand : goal.returns-then-not-results_stand
returns-then-not-results_stand c s h = all_results c.args.bus.now c.args.converters.now.table s _ (one_fails (λ g. HoldsResults (word_of c.args.bus.now) c.args.converters.now.table s g) c.loop-group.group 16 c.results_stand.result c.loop-group-test.true (c.results_stand.ensures s h) c.if-not-results_stand.true)

pub returns : goal.returns
returns c s h = all_results c.args.bus.now c.args.converters.now.table s _ (all_pass (λ g. HoldsResults (word_of c.args.bus.now) c.args.converters.now.table s g) c.loop-group.group 16 c.loop-group-test.false (c.loop-group.invariant s h))
