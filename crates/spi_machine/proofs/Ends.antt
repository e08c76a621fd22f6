-- A job that ends: its result, its free unit and its notices.
use Rattle.std.proofs.Common.{◌≡◌, ℕ, Bool, true, false, ◌+◌, Option, Some, None, drop, refl, sym, ◌∙◌, ap}
use Rattle.std.specs.Prelude.{find}
use Rattle.std.proofs.lemmas.List.{append-nil}
use Rattle.mcal_base.specs.facts.Options.{some_is}
use Rattle.mcal_base.specs.declared.answer_name.AnswerName.{AnswerName}
use Rattle.mcal_base.specs.declared.answer_name.AnswerName.TheVariants.{SpiJobOk}
use Rattle.run_model.specs.Machine.{Serves, Outcome}
use Rattle.run_model.specs.World.{World}
use Rattle.spi_machine.proofs.Numbers.{item-same}
use Rattle.spi_machine.proofs.Results.{results-other}
use Rattle.spi_machine.proofs.Runs.{after_last-seen, serve_by}
use Rattle.spi_machine.proofs.SequenceChanges.{found, pending-changed, pending-without}
use Rattle.spi_machine.proofs.WordLaws.{comes_again, comes-once}
use Rattle.spi_machine.specs.Promised.{EndsJob, NamesJobsOnce, job_ends_as}
use Rattle.spi_machine.specs.Machine.{spi_machine, after_last, result_by, sequence_after, job_over, served_by, served, unit_of, run_of, ready, pending_of}
use Rattle.spi_machine.specs.Pending.{Pending, is_of, is_pending, goes_to_next, end_by, has_further, next_job, job_result}
use Rattle.spi_machine.specs.State.{SpiState, run_at, job_notice}
use Rattle.spi_machine.specs.Table.{jobs_of}
use Rattle.spi_machine.specs.Transfers.{Run, goes_on}
use Rattle.spi_machine.specs.declared.table.SpiTable.{SpiTable}

after-ends : (d : SpiTable) (t : SpiState) (u : ℕ) (p : Pending) (e : Option AnswerName) (result : AnswerName) → run_at t u ≡ None
    → job_result t.job_results (next_job d p) ≡ result → comes_again d p ≡ false → is_pending p.sequence t.pending ≡ true → EndsJob d u p result (sequence_after d t p e)
after-ends d t u p None result f r once there =
    record { free = f; result = r; notices = rw (pending-changed p.sequence p.sequence goes_to_next (λ p. refl) t.pending ∙ there) (sym (append-nil (job_notice d (next_job d p)))) }
after-ends d t u p (Some x) result f r once there =
    record {
      free = f;
      result = results-other (drop (p.next + 1) (jobs_of d p.sequence)) (drop (p.next + 1) p.had) t.job_results (next_job d p) once ∙ r;
      notices = rw (pending-without p.sequence t.pending) refl;
    }

as-result : (failed : Bool) → result_by failed ≡ job_ends_as failed
as-result true = refl
as-result false = refl

over-ends : (d : SpiTable) (s : SpiState) (u : ℕ) (failed : Bool) (o : Option Pending) (p : Pending) → o ≡ Some p → comes_again d p ≡ false → is_pending p.sequence s.pending ≡ true
    → EndsJob d u p (job_ends_as failed) (job_over d s u failed o)
over-ends d s u failed None p e once there = absurd (cc e)
over-ends d s u failed (Some x) p e once there =
    rw (some_is x p e)
    (after-ends d _ u p (end_by p.cancelled failed (has_further d p)) (job_ends_as failed) (item-same None s.units u None)
    (item-same SpiJobOk s.job_results (next_job d p) (result_by failed) ∙ as-result failed) once there)

served_by-ends : (d : SpiTable) (w : World) (s : SpiState) (u received : ℕ) (r : Run) (b : Bool) (p : Pending) → b ≡ false → find (is_of r.sequence) s.pending ≡ Some p
    → comes_again d p ≡ false → EndsJob d u p (job_ends_as r.transfer.failed) (served_by d w s u received r b)
served_by-ends d w s u received r true p e f once = absurd (cc e)
served_by-ends d w s u received r false p e f once =
    let at = found r.sequence p s.pending f in
    let there : is_pending p.sequence s.pending ≡ true = ap (λ q. is_pending q s.pending) at.0 ∙ at.1 in
    over-ends d (after_last s r r.transfer.failed) u r.transfer.failed (pending_of s r) p f once
    (ap (λ ps. is_pending p.sequence ps) (after_last-seen (λ s. s.pending) (λ s c x. refl) s r r.transfer.failed) ∙ there)

served-ends : (d : SpiTable) (w : World) (s : SpiState) (k : Option ℕ) (received : ℕ) (o : Option Run) (u : ℕ) (r : Run) (p : Pending) → k ≡ Some u → o ≡ Some r
    → goes_on r ≡ false → find (is_of r.sequence) s.pending ≡ Some p → comes_again d p ≡ false → EndsJob d u p (job_ends_as r.transfer.failed) (served d w s k received o)
served-ends d w s None received o u r p a b e f once = absurd (cc a)
served-ends d w s (Some v) received None u r p a b e f once = absurd (cc b)
served-ends d w s (Some v) received (Some x) u r p a b e f once = rw (some_is v u a, some_is x r b) (served_by-ends d w s u received r (goes_on r) p e f once)

pub serve-ends : (d : SpiTable) (w : World) (s : SpiState) (l received : ℕ) (out : Outcome SpiState) (u : ℕ) (r : Run) (p : Pending)
    → (spi_machine d).happens w s (Serves l received) ≡ Some out → unit_of l ≡ Some u → run_at s u ≡ Some r
    → goes_on r ≡ false → find (is_of r.sequence) s.pending ≡ Some p → NamesJobsOnce d → EndsJob d u p (job_ends_as r.transfer.failed) out
serve-ends d w s l received out u r p h a b e f once =
    let there : run_of s (unit_of l) ≡ Some r = rw a b in
    rw (← serve_by (ready w s l) (served d w s (unit_of l) received (run_of s (unit_of l))) out h)
    (served-ends d w s (unit_of l) received (run_of s (unit_of l)) u r p a there e f (comes-once d p once))
