use Rattle.std.proofs.Common.{◌≡◌, ◌∙◌, Err, ap, arith, map, refl, sym}
use Rattle.std.specs.Prelude.{string_bytes}
use Rattle.mcal_base.specs.Causes.{Rose}
use Rattle.sweep_top.specs.Wishes.{asked_by}
use Rattle.sweep_top.proofs.Calling.{failed_printed, file_printed, many_printed, still_any, still_failed, usage_printed}
use Rattle.sweep_top.proofs.top.printed_by.Goals as goal

pub returns-in_default-clause-printed : goal.returns-in_default-clause-printed
returns-in_default-clause-printed g c = usage_printed (g.S.Source.left c.args.input.now) (asked_by (map string_bytes c.args.words.now)) (Rose (g.S.Source.faults c.args.input.now) (g.S.Source.faults c.args.input.now)) c.refused.result (sym c.asked_by.ensures ∙ c.in_default.is) c.refused.ensures

pub returns-in-Ok-clause-printed : goal.returns-in-Ok-clause-printed
returns-in-Ok-clause-printed g c = file_printed (g.S.Source.left c.args.input.now) (g.S.Source.left c.read_all.new.input) (asked_by (map string_bytes c.args.words.now)) (Rose (g.S.Source.faults c.args.input.now) (g.S.Source.faults c.read_all.new.input)) c.in-Some.asked c.deref.result.now c.printed_of.result (sym c.asked_by.ensures ∙ c.in-Some.is) (rw c.deref.ensures.value c.in-Ok.ensures.all.0) c.in-Ok.ensures.all.1 (omega (arith, c.in-Ok.ensures.limit, c.deref.ensures.len)) c.printed_of.ensures

pub returns-in-Err-Fault-clause-printed : goal.returns-in-Err-Fault-clause-printed
returns-in-Err-Fault-clause-printed g c = failed_printed (g.S.Source.left c.args.input.now) (asked_by (map string_bytes c.args.words.now)) (Rose (g.S.Source.faults c.args.input.now) (g.S.Source.faults c.read_all.new.input)) c.read_failed.result (c.read_all.ensures.fault (c.in-Err-Fault.is ∙ ap (λ e. Err e) c.in-Err-Fault.field-0-is)) c.read_failed.ensures

pub returns-in-Err-TooLong-clause-printed : goal.returns-in-Err-TooLong-clause-printed
returns-in-Err-TooLong-clause-printed g c = many_printed (g.S.Source.left c.args.input.now) (asked_by (map string_bytes c.args.words.now)) (Rose (g.S.Source.faults c.args.input.now) (g.S.Source.faults c.read_all.new.input)) c.in-Some.asked c.refused-in-Err-TooLong.result (sym c.asked_by.ensures ∙ c.in-Some.is) (c.read_all.ensures.long (c.in-Err-TooLong.is ∙ ap (λ e. Err e) c.in-Err-TooLong.field-0-is)) c.refused-in-Err-TooLong.ensures

pub returns-in_default-clause-still : goal.returns-in_default-clause-still
returns-in_default-clause-still g c = still_any c.refused.result (g.S.Source.faults c.args.input.now ≡ g.S.Source.faults c.args.input.now) refl

pub returns-in-Ok-clause-still : goal.returns-in-Ok-clause-still
returns-in-Ok-clause-still g c = still_any c.printed_of.result (g.S.Source.faults c.read_all.new.input ≡ g.S.Source.faults c.args.input.now) (c.read_all.ensures.still (λ e. cc))

pub returns-in-Err-Fault-clause-still : goal.returns-in-Err-Fault-clause-still
returns-in-Err-Fault-clause-still g c = still_failed c.read_failed.result (g.S.Source.faults c.read_all.new.input ≡ g.S.Source.faults c.args.input.now) c.read_failed.ensures

pub returns-in-Err-TooLong-clause-still : goal.returns-in-Err-TooLong-clause-still
returns-in-Err-TooLong-clause-still g c = still_any c.refused-in-Err-TooLong.result (g.S.Source.faults c.read_all.new.input ≡ g.S.Source.faults c.args.input.now) (c.read_all.ensures.still (λ e. cc))
