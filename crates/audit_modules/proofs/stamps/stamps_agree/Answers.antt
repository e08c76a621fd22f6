use Rattle.audit_modules.specs.Agrees.{StampsIf}
use Rattle.audit_modules.proofs.Below.{one_more, one_fails, all_pass}
use Rattle.audit_modules.proofs.Joining.{all_stamps}
use Rattle.audit_modules.proofs.stamps.stamps_agree.Goals as goal

pub loop-channel-preserved : goal.loop-channel-preserved
loop-channel-preserved c s h = one_more (λ k. StampsIf c.args.captures.now.driver c.args.bus.now s k) c.loop-channel.channel c.stamps_stand.result (c.loop-channel.invariant s h) (c.stamps_stand.ensures s h) c.if-not-stamps_stand.false

pub returns-then-not-stamps_stand : goal.returns-then-not-stamps_stand
returns-then-not-stamps_stand c s h = all_stamps c.args.captures.now.driver c.args.bus.now s _ (one_fails (λ k. StampsIf c.args.captures.now.driver c.args.bus.now s k) c.loop-channel.channel 8 c.stamps_stand.result c.loop-channel-test.true (c.stamps_stand.ensures s h) c.if-not-stamps_stand.true)

pub returns : goal.returns
returns c s h = all_stamps c.args.captures.now.driver c.args.bus.now s _ (all_pass (λ k. StampsIf c.args.captures.now.driver c.args.bus.now s k) c.loop-channel.channel 8 c.loop-channel-test.false (c.loop-channel.invariant s h))
