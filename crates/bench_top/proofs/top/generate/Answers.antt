use Rattle.std.proofs.Common.{◌∙◌, ap, inr, arith, refl, vec_len}
use Rattle.bench_top.specs.Judged.{Generates}
use Rattle.bench_top.proofs.Calling.{hung_so, left_so, told_nothing, told_so}
use Rattle.bench_top.proofs.Judging.{forgot_of, left_empty}
use Rattle.bench_top.proofs.Generating.{generated_ends, generated_keeps, generated_line, generated_whole, script_may_ask, script_may_run}
use Rattle.bench_top.proofs.top.generate.Goals as goal

pub run-requires-clause-script : goal.run-requires-clause-script
run-requires-clause-script g c = script_may_run c.args.seed c.args.count _ c.requires (c.deref.ensures.value ∙ c.in-Ok.ensures)

pub run-requires-clause-offered : goal.run-requires-clause-offered
run-requires-clause-offered g c = script_may_ask c.args.seed c.args.count _ (c.deref.ensures.value ∙ c.in-Ok.ensures)

pub returns-in_default-clause-concludes : goal.returns-in_default-clause-concludes
returns-in_default-clause-concludes g c = forgot_of (vec_len c.args.rack.now) (Generates c.args.seed c.args.count) _ _ c.no_memory.ensures.status refl refl (left_empty (vec_len c.args.rack.now) (Generates c.args.seed c.args.count) _ c.no_memory.ensures.journal) (c.no_memory.ensures.keeps (vec_len c.args.rack.now) (Generates c.args.seed c.args.count))

pub returns-in_default-clause-told : goal.returns-in_default-clause-told
returns-in_default-clause-told g c = told_nothing (vec_len c.args.rack.now) _ _ _ c.no_memory.ensures.journal (hung_so _ c.args.rack.now.items (vec_len c.args.rack.now) (omega arith)) refl

pub returns-in_default-run-clause-concludes : goal.returns-in_default-run-clause-concludes
returns-in_default-run-clause-concludes g c =
    forgot_of (vec_len c.args.rack.now) (Generates c.args.seed c.args.count) _ _ c.no_memory-in_default-run.ensures.status refl refl (left_empty (vec_len c.args.rack.now) (Generates c.args.seed c.args.count) _ c.no_memory-in_default-run.ensures.journal) (c.no_memory-in_default-run.ensures.keeps (vec_len c.args.rack.now) (Generates c.args.seed c.args.count))

pub returns-in_default-run-clause-told : goal.returns-in_default-run-clause-told
returns-in_default-run-clause-told g c = told_nothing (vec_len c.args.rack.now) _ _ _ c.no_memory-in_default-run.ensures.journal (hung_so _ c.args.rack.now.items (vec_len c.args.rack.now) (omega arith)) c.in_default-run.ensures.told

pub returns-in-Ok-generated_text-clause-concludes : goal.returns-in-Ok-generated_text-clause-concludes
returns-in-Ok-generated_text-clause-concludes g c =
    let made = c.deref.ensures.value ∙ c.in-Ok.ensures in
    let whole = generated_whole (vec_len c.args.rack.now) c.args.seed c.args.count _ _ _ c.in-Ok-run.ran.too_long c.requires c.board.ensures.value made c.in-Ok-run.ensures.whole c.in-Ok-run.ensures.stopped in
    c.finish.ensures.concludes (vec_len c.args.rack.now) (Generates c.args.seed c.args.count) (generated_ends (vec_len c.args.rack.now) c.args.seed c.args.count _ _ whole
    (generated_line (vec_len c.args.rack.now) c.args.seed c.args.count c.in-Ok-run.ran.journal.entries c.deref-2.result.now _ (c.deref-2.ensures.value ∙ c.in-Ok.ensures) (λ shows. c.as_bytes.ensures.value ∙ c.in-Ok-generated_text.ensures shows))) (generated_keeps (vec_len c.args.rack.now) c.args.seed c.args.count _ c.requires whole)

pub returns-in-Ok-generated_text-clause-told : goal.returns-in-Ok-generated_text-clause-told
returns-in-Ok-generated_text-clause-told g c = told_so (vec_len c.args.rack.now) _ _ _ _ (ap (λ w. w.entries) c.finish.ensures.journal) c.in-Ok-run.ensures.told

pub returns-clause-concludes : goal.returns-clause-concludes
returns-clause-concludes g c =
    let made = c.deref.ensures.value ∙ c.in-Ok.ensures in
    let whole = generated_whole (vec_len c.args.rack.now) c.args.seed c.args.count _ _ _ c.in-Ok-run.ran.too_long c.requires c.board.ensures.value made c.in-Ok-run.ensures.whole c.in-Ok-run.ensures.stopped in
    left_so (vec_len c.args.rack.now) (Generates c.args.seed c.args.count) _ _ _ c.no_room.ensures.status (ap (λ w. w.entries) c.no_room.ensures.journal) refl refl (inr whole) (generated_keeps (vec_len c.args.rack.now) c.args.seed c.args.count _ c.requires whole)

pub returns-clause-told : goal.returns-clause-told
returns-clause-told g c = told_so (vec_len c.args.rack.now) _ _ _ _ (ap (λ w. w.entries) c.no_room.ensures.journal) c.in-Ok-run.ensures.told
