use Rattle.std.proofs.Common.{refl}
use Rattle.bench_top.specs.Judged.{judged_input, no_report, too_many_bytes}
use Rattle.bench_top.proofs.Calling.{concludes_so, none_ran}
use Rattle.bench_top.proofs.Judging.{forgot_of, left_empty}
use Rattle.bench_top.proofs.top.conclude_audit.Goals as goal

pub returns-in-Ok-clause-concludes : goal.returns-in-Ok-clause-concludes
returns-in-Ok-clause-concludes g c = c.say_verdict.ensures.concludes c.args.devices (judged_input c.args.bytes.now) c.in-Ok.ensures.judged

pub returns-in-Err-Refused-clause-concludes : goal.returns-in-Err-Refused-clause-concludes
returns-in-Err-Refused-clause-concludes g c =
    concludes_so c.args.devices _ _ _ _ (rw c.in-Err-Refused.field-0-is at c.in-Err-Refused.ensures.refused) (c.refuse.ensures c.args.devices)

pub returns-in-Err-Refused-clause-journal : goal.returns-in-Err-Refused-clause-journal
returns-in-Err-Refused-clause-journal g c = none_ran c.args.devices _ _ _ (c.refuse.ensures c.args.devices)

pub returns-in-Err-NoReport-clause-concludes : goal.returns-in-Err-NoReport-clause-concludes
returns-in-Err-NoReport-clause-concludes g c =
    concludes_so c.args.devices _ no_report _ _ (rw c.in-Err-NoReport.field-0-is at c.in-Err-NoReport.ensures.refused) (c.print.ensures.concludes c.args.devices)

pub returns-in-Err-NoReport-clause-journal : goal.returns-in-Err-NoReport-clause-journal
returns-in-Err-NoReport-clause-journal g c = none_ran c.args.devices no_report _ _ (c.print.ensures.concludes c.args.devices)

pub returns-in-Err-TooLong-clause-concludes : goal.returns-in-Err-TooLong-clause-concludes
returns-in-Err-TooLong-clause-concludes g c =
    concludes_so c.args.devices _ too_many_bytes _ _ (rw c.in-Err-TooLong.field-0-is at c.in-Err-TooLong.ensures.refused) (c.print-in-Err-TooLong.ensures.concludes c.args.devices)

pub returns-in-Err-TooLong-clause-journal : goal.returns-in-Err-TooLong-clause-journal
returns-in-Err-TooLong-clause-journal g c = none_ran c.args.devices too_many_bytes _ _ (c.print-in-Err-TooLong.ensures.concludes c.args.devices)

pub returns-in-Err-NoMemory-clause-concludes : goal.returns-in-Err-NoMemory-clause-concludes
returns-in-Err-NoMemory-clause-concludes g c =
    forgot_of c.args.devices (judged_input c.args.bytes.now) _ _ c.no_memory.ensures.status refl refl (left_empty c.args.devices (judged_input c.args.bytes.now) _ c.no_memory.ensures.journal) (c.no_memory.ensures.keeps c.args.devices (judged_input c.args.bytes.now))
