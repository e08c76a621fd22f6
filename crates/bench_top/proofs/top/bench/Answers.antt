use Rattle.std.proofs.Common.{◌∙◌, Err, Some, ap, refl, sym, arith, map, vec_len}
use Rattle.std.specs.Prelude.{string_bytes}
use Rattle.bench_top.specs.Judged.{read_fault, too_many_bytes, usage}
use Rattle.bench_top.proofs.Calling.{hung_so, told_nothing, told_printed}
use Rattle.bench_top.proofs.Returning.{audit_so, fault_returns, file_returns, generated_returns, many_returns, reads_file, usage_returns, wanting_returns}
use Rattle.bench_top.proofs.Forms.{generated_within}
use Rattle.bench_top.proofs.top.bench.Goals as goal

pub returns-in_default : goal.returns-in_default
returns-in_default g c =
    let concludes = c.print.ensures.concludes (vec_len c.args.rack.now) in
    usage_returns _ (sym c.form_of.ensures ∙ c.in_default.is) concludes c.print.ensures.remembers
    (told_printed (vec_len c.args.rack.now) usage _ _ _ concludes (hung_so _ c.args.rack.now.items (vec_len c.args.rack.now) (omega arith))) refl refl

pub generate-requires : goal.generate-requires
generate-requires g c =
    generated_within (map string_bytes c.args.words.now) c.in-Gen.seed c.in-Gen.count (sym c.form_of.ensures ∙ c.in-Some.is ∙ ap (λ f. Some f) c.in-Gen.is)

pub returns-in-Gen : goal.returns-in-Gen
returns-in-Gen g c =
    generated_returns _ c.in-Gen.seed c.in-Gen.count (sym c.form_of.ensures ∙ c.in-Some.is ∙ ap (λ f. Some f) c.in-Gen.is) c.generate.ensures.concludes c.generate.ensures.told refl refl

pub returns-in-Audit : goal.returns-in-Audit
returns-in-Audit g c =
    audit_so _ _ _ _ _ _ _ (sym c.form_of.ensures ∙ c.in-Some.is ∙ ap (λ f. Some f) c.in-Audit.is) c.len.ensures
    (c.audit_input.ensures _ (hung_so _ c.args.rack.now.items c.len.result (omega (arith, c.len.ensures))))

pub returns-in-Ok : goal.returns-in-Ok
returns-in-Ok g c =
    let is = c.in-Ok.is in
    file_returns _ _ c.in-Ok.bytes.items (sym c.form_of.ensures ∙ c.in-Some.is ∙ ap (λ f. Some f) c.in-File.is) (omega (arith, c.in-Ok.ensures.limit))
    c.in-Ok.ensures.all.0 c.in-Ok.ensures.all.1 (c.read_most.ensures.still (λ e. cc)) c.conclude.ensures.concludes c.conclude.ensures.told

pub returns-in-Err-TooLong : goal.returns-in-Err-TooLong
returns-in-Err-TooLong g c =
    let is = c.in-Err-TooLong.is ∙ ap (λ e. Err e) c.in-Err-TooLong.field-0-is in
    let concludes = c.print-in-Err-TooLong.ensures.concludes (vec_len c.args.rack.now) in
    many_returns _ _ (sym c.form_of.ensures ∙ c.in-Some.is ∙ ap (λ f. Some f) c.in-File.is) (c.read_most.ensures.long is) (c.read_most.ensures.still (λ e. cc)) concludes
    (told_printed (vec_len c.args.rack.now) too_many_bytes _ _ _ concludes (hung_so _ c.args.rack.now.items (vec_len c.args.rack.now) (omega arith)))

pub returns-in-Err-Fault : goal.returns-in-Err-Fault
returns-in-Err-Fault g c =
    let concludes = c.print-in-Err-Fault.ensures.concludes (vec_len c.args.rack.now) in
    fault_returns _ (reads_file _ _ (sym c.form_of.ensures ∙ c.in-Some.is ∙ ap (λ f. Some f) c.in-File.is)) (c.read_most.ensures.fault (c.in-Err-Fault.is ∙ ap (λ e. Err e) c.in-Err-Fault.field-0-is)) c.read_most.ensures.later
    concludes c.print-in-Err-Fault.ensures.remembers
    (told_printed (vec_len c.args.rack.now) read_fault _ _ _ concludes (hung_so _ c.args.rack.now.items (vec_len c.args.rack.now) (omega arith)))

pub returns-in-Err-NoMemory : goal.returns-in-Err-NoMemory
returns-in-Err-NoMemory g c =
    let is = c.in-Err-NoMemory.is ∙ ap (λ e. Err e) c.in-Err-NoMemory.field-0-is in
    wanting_returns _ (reads_file _ _ (sym c.form_of.ensures ∙ c.in-Some.is ∙ ap (λ f. Some f) c.in-File.is)) c.no_memory.ensures.status c.no_memory.ensures.journal refl refl (c.read_most.ensures.still (λ e. cc))
    (told_nothing (vec_len c.args.rack.now) _ _ _ c.no_memory.ensures.journal (hung_so _ c.args.rack.now.items (vec_len c.args.rack.now) (omega arith)) refl)
