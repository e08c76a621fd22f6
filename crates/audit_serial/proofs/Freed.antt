-- A unit whose run, or what it carried out, was taken from it gets the same as one that was left as it was.
use Rattle.std.proofs.Common.{◌≡◌, ℕ, ◌+◌, Bool, true, false, List, [], ◌∷◌, ◌++◌, Option, Some, None, refl, sym, ap, ◌∙◌}
use Rattle.std.specs.Prelude.{if◌then◌else◌}
use Rattle.mcal_base.specs.declared.answer_name.AnswerName.TheVariants.{EOk, ENotOk, SpiJobOk, SpiSeqOk}
use Rattle.run_model.specs.Machine.{answers, named, outcome, outcome_with, tells_nothing}
use Rattle.run_model.specs.World.{World}
use Rattle.spi_machine.specs.Machine.{after_last, all_kept, as_begun, begins_on, carries_job, carries_on, job_begun, job_done, job_over, job_words, kept, pending_of, result_by, sent, sent_on, sequence_result_by, served_by, stored}
use Rattle.spi_machine.specs.Numbered.{with_item}
use Rattle.spi_machine.specs.Pending.{Pending, given_back, goes_to_next, next_job}
use Rattle.spi_machine.specs.State.{Carrying, SpiState, wire_at, with_carried, with_run}
use Rattle.spi_machine.specs.Transfers.{Goes, ToDestination, ToChannel, Nowhere, JobWord, Run, begun, on_wire, received_with, word_of}
use Rattle.spi_machine.specs.declared.table.SpiTable.{SpiTable}
use Rattle.audit_serial.specs.Flows.{kept_all, kept_in, last_taken, over_by, sent_free, served_free, stored_in}
use Rattle.audit_serial.proofs.ByNumber.{item_twice}

-- ---- words that came in change the channels alone

pub stored_as : (s : SpiState) (x : JobWord) (g : Goes) (v : ℕ) → stored s x g v ≡ record s { channels = stored_in s.channels x g v }
stored_as s x ToDestination v = refl
stored_as s x ToChannel v = refl
stored_as s x Nowhere v = refl

kept_as : (s : SpiState) (x : JobWord) (g : Goes) (v : ℕ) → kept s x g v ≡ record s { channels = kept_in s.channels x g v }
kept_as s x ToDestination v = refl
kept_as s x ToChannel v = refl
kept_as s x Nowhere v = refl

all_kept_as : (s : SpiState) (ws : List JobWord) (vs : List ℕ) → all_kept s ws vs ≡ record s { channels = kept_all s.channels ws vs }
all_kept_as s [] vs = refl
all_kept_as s (w ∷ ws) [] = refl
all_kept_as s (w ∷ ws) (v ∷ vs) = ap (λ (t : SpiState). all_kept t ws vs) (kept_as s w w.goes v) ∙ all_kept_as (record s { channels = kept_in s.channels w w.goes v }) ws vs

pub after_last_as : (s : SpiState) (r : Run) → after_last s r false ≡ record s { channels = last_taken s.channels r }
after_last_as s r =
    ap (λ (t : SpiState). all_kept t r.words (received_with r)) (stored_as s (word_of r) (word_of r).goes r.transfer.incoming)
    ∙ all_kept_as (record s { channels = stored_in s.channels (word_of r) (word_of r).goes r.transfer.incoming }) r.words (received_with r)

pub after_results : (s : SpiState) (r : Run) (failed : Bool) → (after_last s r failed).job_results ≡ s.job_results
after_results s r true = refl
after_results s r false = ap (λ (t : SpiState). t.job_results) (after_last_as s r)

pub after_sequences : (s : SpiState) (r : Run) (failed : Bool) → (after_last s r failed).sequence_results ≡ s.sequence_results
after_sequences s r true = refl
after_sequences s r false = ap (λ (t : SpiState). t.sequence_results) (after_last_as s r)

-- ---- a run

run_freed : (s : SpiState) (u : ℕ) (r : Run) (failed : Bool) → with_run (after_last s r failed) u None ≡ after_last (with_run s u None) r failed
run_freed s u r true = refl
run_freed s u r false = ap (λ (t : SpiState). with_run t u None) (after_last_as s r) ∙ sym (after_last_as (with_run s u None) r)

begins_twice : (d : SpiTable) (s : SpiState) (u received : ℕ) (p : Option Pending) (r : Run) → begins_on d s u received p r ≡ begins_on d (with_run s u None) u received p r
begins_twice d s u received p r =
    ap (λ us. outcome_with (record s { units = us; wires = with_item [] s.wires u (wire_at s u ++ on_wire received (word_of r) ∷ []) }) tells_nothing (Some (as_begun d u p (word_of r)))) (sym (item_twice None s.units u None (Some r)))

begins_freed : (d : SpiTable) (s : SpiState) (u received : ℕ) (p : Option Pending) (x : JobWord) (g : Goes) (v : ℕ) (r : Run)
    → begins_on d (stored s x g v) u received p r ≡ begins_on d (stored (with_run s u None) x g v) u received p r
begins_freed d s u received p x g v r =
    ap (λ (t : SpiState). begins_on d t u received p r) (stored_as s x g v)
    ∙ (begins_twice d (record s { channels = stored_in s.channels x g v }) u received p r
    ∙ sym (ap (λ (t : SpiState). begins_on d t u received p r) (stored_as (with_run s u None) x g v)))

over_freed : (d : SpiTable) (s : SpiState) (u : ℕ) (failed : Bool) (p : Option Pending) → job_over d s u failed p ≡ over_by d (with_run s u None) failed p
over_freed d s u failed None = refl
over_freed d s u failed (Some p) = refl

served_goes_on : (d : SpiTable) (w : World) (s : SpiState) (u received : ℕ) (r : Run) → served_by d w s u received r true ≡ served_free d w (with_run s u None) u received r true
served_goes_on d w s u received r = begins_freed d s u received (pending_of s r) (word_of r) (word_of r).goes r.transfer.incoming (begun w.now received r.sequence r.words (received_with r))

pub served_freed : (d : SpiTable) (w : World) (s : SpiState) (u received : ℕ) (r : Run) (goes : Bool) → served_by d w s u received r goes ≡ served_free d w (with_run s u None) u received r goes
served_freed d w s u received r true = served_goes_on d w s u received r
served_freed d w s u received r false =
    over_freed d (after_last s r r.transfer.failed) u r.transfer.failed (pending_of s r)
    ∙ ap (λ (t : SpiState). over_by d t r.transfer.failed (pending_of s r)) (run_freed s u r r.transfer.failed)

-- ---- what a unit carries out

carries_twice : (d : SpiTable) (s : SpiState) (u received : ℕ) (p : Pending) (r : Run) → carries_on d s u received p r ≡ carries_on d (with_carried s u None) u received p r
carries_twice d s u received p r =
    ap (λ xs. outcome_with (record s { carried = xs; wires = with_item [] s.wires u (wire_at s u ++ on_wire received (word_of r) ∷ []) }) tells_nothing (Some (as_begun d u (Some p) (word_of r)))) (sym (item_twice None s.carried u None (Some (record { entry = p; run = r }))))

after_freed : (s : SpiState) (u : ℕ) (r : Run) (failed : Bool) → with_carried (after_last s r failed) u None ≡ after_last (with_carried s u None) r failed
after_freed s u r true = refl
after_freed s u r false = ap (λ (t : SpiState). with_carried t u None) (after_last_as s r) ∙ sym (after_last_as (with_carried s u None) r)

done_freed : (d : SpiTable) (s : SpiState) (u : ℕ) (x : Carrying) (failed : Bool) → with_carried (job_done d s x failed) u None ≡ job_done d (with_carried s u None) x failed
done_freed d s u x failed = ap (λ (t : SpiState). record t { job_results = with_item SpiJobOk s.job_results (next_job d x.entry) (result_by failed) }) (after_freed s u x.run failed)

carried_freed : (d : SpiTable) (w : World) (s : SpiState) (u received : ℕ) (p : Pending) → carries_job d w s u received p ≡ carries_job d w (with_carried s u None) u received p
carried_freed d w s u received p = carries_twice d (job_begun d s p) u received p (begun w.now received p.sequence (job_words d s (next_job d p)) [])

pub sent_freed : (d : SpiTable) (w : World) (s : SpiState) (u received : ℕ) (x : Carrying) (same : Bool) → sent_on d w s u received x same ≡ sent_on d w (with_carried s u None) u received x same
sent_freed d w s u received x true =
    let word = word_of x.run in
    let r = begun w.now received x.entry.sequence x.run.words (received_with x.run) in
    ap (λ (t : SpiState). carries_on d t u received x.entry r) (stored_as s word word.goes x.run.transfer.incoming)
    ∙ (carries_twice d (record s { channels = stored_in s.channels word word.goes x.run.transfer.incoming }) u received x.entry r
    ∙ sym (ap (λ (t : SpiState). carries_on d t u received x.entry r) (stored_as (with_carried s u None) word word.goes x.run.transfer.incoming)))
sent_freed d w s u received x false =
    carried_freed d w (job_done d s x false) u received (goes_to_next x.entry) ∙ ap (λ (t : SpiState). carries_job d w t u received (goes_to_next x.entry)) (done_freed d s u x false)

pub sequence_freed : (d : SpiTable) (s : SpiState) (u : ℕ) (x : Carrying) (failed : Bool) → sent d s u x failed ≡ sent_free d (with_carried s u None) x failed
sequence_freed d s u x failed =
    ap (λ (t : SpiState). outcome (record t {
      sequence_results = with_item SpiSeqOk s.sequence_results x.entry.sequence (sequence_result_by failed);
      job_results = given_back d x.entry (x.entry.next + 1) (with_item SpiJobOk s.job_results (next_job d x.entry) (result_by failed));
    }) (answers (named (if failed then ENotOk else EOk)))) (done_freed d s u x failed)
