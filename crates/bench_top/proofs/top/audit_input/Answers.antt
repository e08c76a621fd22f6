use Rattle.std.proofs.Common.{◌∙◌, Err, ap, refl}
use Rattle.bench_top.specs.Judged.{read_fault, too_many_audited}
use Rattle.bench_top.proofs.Calling.{told_nothing, told_printed}
use Rattle.bench_top.proofs.Returning.{audit_returns, fault_returns, many_audits_return, wanting_returns}
use Rattle.bench_top.proofs.top.audit_input.Goals as goal

pub returns-in-Ok : goal.returns-in-Ok
returns-in-Ok g c = λ lines there.
    let is = c.in-Ok.is in
    audit_returns _ c.deref.result.now refl (rw c.deref.ensures.value c.in-Ok.ensures.all.0) c.in-Ok.ensures.all.1 (c.read_most.ensures.still (λ e. cc)) c.conclude_audit.ensures.concludes
    (told_nothing c.args.devices _ lines lines c.conclude_audit.ensures.journal there refl)

pub returns-in-Err-Fault : goal.returns-in-Err-Fault
returns-in-Err-Fault g c = λ lines there.
    let concludes = c.print.ensures.concludes c.args.devices in
    fault_returns _ tt (c.read_most.ensures.fault (c.in-Err-Fault.is ∙ ap (λ e. Err e) c.in-Err-Fault.field-0-is)) c.read_most.ensures.later concludes c.print.ensures.remembers
    (told_printed c.args.devices read_fault _ _ lines concludes there)

pub returns-in-Err-TooLong : goal.returns-in-Err-TooLong
returns-in-Err-TooLong g c = λ lines there.
    let is = c.in-Err-TooLong.is ∙ ap (λ e. Err e) c.in-Err-TooLong.field-0-is in
    let concludes = c.print-in-Err-TooLong.ensures.concludes c.args.devices in
    many_audits_return _ refl (c.read_most.ensures.long is) (c.read_most.ensures.still (λ e. cc)) concludes (told_printed c.args.devices too_many_audited _ _ lines concludes there)

pub returns-in-Err-NoMemory : goal.returns-in-Err-NoMemory
returns-in-Err-NoMemory g c = λ lines there.
    let is = c.in-Err-NoMemory.is ∙ ap (λ e. Err e) c.in-Err-NoMemory.field-0-is in
    wanting_returns _ tt c.no_memory.ensures.status c.no_memory.ensures.journal refl refl (c.read_most.ensures.still (λ e. cc)) (told_nothing c.args.devices _ lines lines c.no_memory.ensures.journal there refl)
