use Rattle.std.proofs.Common.{◌∙◌, Err, ap, inl, inr, arith, refl, vec_len}
use Rattle.std.proofs.lemmas.Bool.{OnTrue_at, OnFalse_at}
use Rattle.bench_top.specs.Judged.{Runs}
use Rattle.bench_top.specs.Runs.{shows_of}
use Rattle.bench_top.proofs.Calling.{hung_so, left_so, told_nothing, told_so}
use Rattle.bench_top.proofs.Judging.{forgot_of, left_empty, report_ends, too_long_ends}
use Rattle.bench_top.proofs.Lines.{all_told}
use Rattle.bench_top.proofs.Promised.{whole_keeps, stopped_keeps}
use Rattle.bench_top.proofs.top.run_and_report.Goals as goal

pub returns-in_default-clause-concludes : goal.returns-in_default-clause-concludes
returns-in_default-clause-concludes g c =
    forgot_of (vec_len c.args.rack.now) (Runs c.args.printing c.args.config c.args.script.now) _ _ c.no_memory.ensures.status refl refl (left_empty (vec_len c.args.rack.now) (Runs c.args.printing c.args.config c.args.script.now) _ c.no_memory.ensures.journal) (c.no_memory.ensures.keeps (vec_len c.args.rack.now) (Runs c.args.printing c.args.config c.args.script.now))

pub returns-in_default-clause-told : goal.returns-in_default-clause-told
returns-in_default-clause-told g c = told_nothing (vec_len c.args.rack.now) _ _ _ c.no_memory.ensures.journal (hung_so _ c.args.rack.now.items (vec_len c.args.rack.now) (omega arith)) refl

pub returns-in_default-run-clause-concludes : goal.returns-in_default-run-clause-concludes
returns-in_default-run-clause-concludes g c =
    forgot_of (vec_len c.args.rack.now) (Runs c.args.printing c.args.config c.args.script.now) _ _ c.no_memory-in_default-run.ensures.status refl refl (left_empty (vec_len c.args.rack.now) (Runs c.args.printing c.args.config c.args.script.now) _ c.no_memory-in_default-run.ensures.journal) (c.no_memory-in_default-run.ensures.keeps (vec_len c.args.rack.now) (Runs c.args.printing c.args.config c.args.script.now))

pub returns-in_default-run-clause-told : goal.returns-in_default-run-clause-told
returns-in_default-run-clause-told g c = told_nothing (vec_len c.args.rack.now) _ _ _ c.no_memory-in_default-run.ensures.journal (hung_so _ c.args.rack.now.items (vec_len c.args.rack.now) (omega arith)) c.in_default-run.ensures.told

pub returns-then-ran-clause-concludes : goal.returns-then-ran-clause-concludes
returns-then-ran-clause-concludes g c =
    c.finish.ensures.concludes (vec_len c.args.rack.now) (Runs c.args.printing c.args.config c.args.script.now) (inr (OnTrue_at c.if-ran.true c.in-Ok-run.ensures.stopped, ap (λ t. record { status = 5; text = t }) c.as_bytes.ensures.value))
    (stopped_keeps (vec_len c.args.rack.now) c.args.config c.args.script.now c.in-Ok-run.ran.journal.entries c.requires.valid c.requires.script (OnTrue_at c.if-ran.true c.in-Ok-run.ensures.stopped))

pub returns-then-ran-clause-told : goal.returns-then-ran-clause-told
returns-then-ran-clause-told g c = told_so (vec_len c.args.rack.now) _ _ _ _ (ap (λ w. w.entries) c.finish.ensures.journal) c.in-Ok-run.ensures.told

pub returns-then-ran-2-clause-concludes : goal.returns-then-ran-2-clause-concludes
returns-then-ran-2-clause-concludes g c =
    let whole = OnFalse_at c.if-ran.false c.in-Ok-run.ensures.whole in
    left_so (vec_len c.args.rack.now) (Runs c.args.printing c.args.config c.args.script.now) _ _ _ c.no_room.ensures.status (ap (λ w. w.entries) c.no_room.ensures.journal) refl refl (inr (inl whole)) (whole_keeps (vec_len c.args.rack.now) c.args.config c.args.script.now c.in-Ok-run.ran.journal.entries c.requires.valid c.requires.script whole)

pub returns-then-ran-2-clause-told : goal.returns-then-ran-2-clause-told
returns-then-ran-2-clause-told g c = told_so (vec_len c.args.rack.now) _ _ _ _ (ap (λ w. w.entries) c.no_room.ensures.journal) c.in-Ok-run.ensures.told

pub returns-in-Ok-report-clause-concludes : goal.returns-in-Ok-report-clause-concludes
returns-in-Ok-report-clause-concludes g c =
    let shows = shows_of (vec_len c.args.rack.now) c.args.config c.args.script.now c.in-Ok-run.ran.journal.entries in
    let whole = OnFalse_at c.if-ran.false c.in-Ok-run.ensures.whole in
    let shown = OnFalse_at c.if-ran-2.false (OnFalse_at c.if-ran.false c.in-Ok-run.ensures.shown) in
    let is = c.as_bytes-in-Ok-report.ensures.value ∙ c.in-Ok-report.ensures.text shows shown in
    c.finish-in-Ok-report.ensures.concludes (vec_len c.args.rack.now) (Runs c.args.printing c.args.config c.args.script.now)
    (report_ends (vec_len c.args.rack.now) c.args.printing c.is_traced.result c.args.config c.args.script.now c.in-Ok-run.ran.journal.entries c.as_bytes-in-Ok-report.result.now c.printed-part.result.now c.is_traced.ensures whole is
    (rw c.as_bytes-in-Ok-report.ensures.len c.in-Ok-report.ensures.within) c.printed-part.ensures)
    (whole_keeps (vec_len c.args.rack.now) c.args.config c.args.script.now c.in-Ok-run.ran.journal.entries c.requires.valid c.requires.script whole)

pub returns-in-Ok-report-clause-told : goal.returns-in-Ok-report-clause-told
returns-in-Ok-report-clause-told g c = told_so (vec_len c.args.rack.now) _ _ _ _ (ap (λ w. w.entries) c.finish-in-Ok-report.ensures.journal) c.in-Ok-run.ensures.told

pub returns-in-Err-TooLong-clause-concludes : goal.returns-in-Err-TooLong-clause-concludes
returns-in-Err-TooLong-clause-concludes g c =
    let shows = shows_of (vec_len c.args.rack.now) c.args.config c.args.script.now c.in-Ok-run.ran.journal.entries in
    let whole = OnFalse_at c.if-ran.false c.in-Ok-run.ensures.whole in
    let shown = OnFalse_at c.if-ran-2.false (OnFalse_at c.if-ran.false c.in-Ok-run.ensures.shown) in
    let more = c.report.ensures.too_long shows shown (all_told (vec_len c.args.rack.now) c.args.config c.args.script.now c.in-Ok-run.ran.journal.entries c.requires.script whole)
    (c.in-Err-TooLong.is ∙ ap (λ e. Err e) c.in-Err-TooLong.field-0-is) in
    c.finish-in-Err-TooLong.ensures.concludes (vec_len c.args.rack.now) (Runs c.args.printing c.args.config c.args.script.now)
    (too_long_ends (vec_len c.args.rack.now) c.args.printing c.is_traced.result c.args.config c.args.script.now c.in-Ok-run.ran.journal.entries c.as_bytes-in-Err-TooLong.result.now c.is_traced.ensures whole more c.as_bytes-in-Err-TooLong.ensures.value)
    (whole_keeps (vec_len c.args.rack.now) c.args.config c.args.script.now c.in-Ok-run.ran.journal.entries c.requires.valid c.requires.script whole)

pub returns-in-Err-TooLong-clause-told : goal.returns-in-Err-TooLong-clause-told
returns-in-Err-TooLong-clause-told g c = told_so (vec_len c.args.rack.now) _ _ _ _ (ap (λ w. w.entries) c.finish-in-Err-TooLong.ensures.journal) c.in-Ok-run.ensures.told

pub returns-clause-concludes : goal.returns-clause-concludes
returns-clause-concludes g c =
    let whole = OnFalse_at c.if-ran.false c.in-Ok-run.ensures.whole in
    left_so (vec_len c.args.rack.now) (Runs c.args.printing c.args.config c.args.script.now) _ _ _ c.no_room-in-Err-NoMemory.ensures.status (ap (λ w. w.entries) c.no_room-in-Err-NoMemory.ensures.journal) refl refl (inr (inl whole))
    (whole_keeps (vec_len c.args.rack.now) c.args.config c.args.script.now c.in-Ok-run.ran.journal.entries c.requires.valid c.requires.script whole)

pub returns-clause-told : goal.returns-clause-told
returns-clause-told g c = told_so (vec_len c.args.rack.now) _ _ _ _ (ap (λ w. w.entries) c.no_room-in-Err-NoMemory.ensures.journal) c.in-Ok-run.ensures.told
