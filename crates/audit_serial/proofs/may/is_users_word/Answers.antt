use Rattle.std.proofs.Common.{arith, refl, sym, ◌∙◌}
use Rattle.spi_machine.specs.Bounds.{is_users_place}
use Rattle.audit_serial.proofs.Walks.{any_here, any_next, any_none}
use Rattle.audit_serial.proofs.may.is_users_word.Goals as goal

pub loop-number-init : goal.loop-number-init
loop-number-init c = refl

pub loop-number-preserved : goal.loop-number-preserved
loop-number-preserved c = c.loop-number.invariant ∙ any_next (is_users_place c.args.word) c.args.channels.now c.loop-number.number (omega arith) (sym c.is_users_place.ensures ∙ c.if-is_users_place.false)

pub returns-then-is_users_place : goal.returns-then-is_users_place
returns-then-is_users_place c = sym (c.loop-number.invariant ∙ any_here (is_users_place c.args.word) c.args.channels.now c.loop-number.number (omega arith) (sym c.is_users_place.ensures ∙ c.if-is_users_place.true))

pub returns : goal.returns
returns c = sym (c.loop-number.invariant ∙ any_none (is_users_place c.args.word) c.args.channels.now c.loop-number.number (omega arith))
