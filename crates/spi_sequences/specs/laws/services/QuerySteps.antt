-- Spi_GetJobResult, Spi_GetSequenceResult and Spi_GetHWUnitStatus: their steps.
-- Used by services.QueryRight, src/service/query.rt, services.AtOnce.
use Rattle.std.proofs.Common.{◌+◌, ◌==◌, if◌then◌else◌}
use Rattle.spi_sequences.specs.Terms
use Terms.{Act, AnswerName, BodyTaken, Bool, ends, false, goes, job_result_in, job_word, JobPlace, JobQuery, jobs_list}
use Terms.{Load, Move, named, nat_le, nat_lt, next_in, NEXTS, None, Nothing, Option, PENDING, place_in, QueryBody}
use Terms.{run_in, Running, running_word, sequence_result_in, sequence_word, Some, SpiBusy, SpiIdle, SpiJobPending}
use Terms.{SpiJobQueued, true, ℕ}
use Rattle.spi_sequences.specs.declared.service.query.JobPlace.TheVariants as place
use Rattle.spi_sequences.specs.declared.service.query.QueryBody.TheVariants as query

abbrev pub job_move : JobQuery → JobPlace → Move
job_move r place.Running = Load (running_word r.unit)
job_move r (place.Look q) = Load (sequence_word q)
job_move r (place.Next q i) = Load NEXTS
job_move r place.Result = Load (job_word r.job)

-- the unit runs the job
abbrev pub is_running_job : ℕ → Option Running → Bool
is_running_job j None = false
is_running_job j (Some r) = r.job == j

-- what follows the look at a sequence, by the place that the job has in it
abbrev pub after_look : ℕ → JobPlace
after_look q = if nat_lt q 7 then place.Look (q + 1) else place.Result

abbrev pub by_place : ℕ → Option ℕ → JobPlace
by_place q None = after_look q
by_place q (Some i) = place.Next q i

abbrev pub job_looked : JobQuery → ℕ → (pending : Bool) → JobPlace
job_looked r q true = by_place q (place_in (jobs_list r.table q) r.job)
job_looked r q false = after_look q

-- the place afterwards, and the answer where it acts
abbrev pub job_took : JobQuery → JobPlace → ℕ → JobPlace × Option AnswerName
job_took r place.Running v = if is_running_job r.job (run_in v) then (place.Running, Some SpiJobPending) else (place.Look 0, None)
job_took r (place.Look q) v = (job_looked r q (v == PENDING), None)
job_took r (place.Next q i) v = if nat_le (next_in v q) i then (place.Next q i, Some SpiJobQueued) else (place.Result, None)
job_took r place.Result v = (place.Result, Some (job_result_in v))

abbrev pub answers_with : AnswerName → BodyTaken
answers_with n = ends (Some Act) (named n) Nothing

abbrev pub answers_by : Option AnswerName → BodyTaken
answers_by None = goes
answers_by (Some n) = answers_with n

abbrev pub query_work : QueryBody → Move
query_work (query.Job r) = job_move r r.place
query_work (query.Sequence q) = Load (sequence_word q)
query_work (query.Unit u) = Load (running_word u)

abbrev pub query_takes : QueryBody → ℕ → QueryBody × BodyTaken
query_takes (query.Job r) v = (query.Job (record r { place = (job_took r r.place v).0 }), answers_by (job_took r r.place v).1)
query_takes (query.Sequence q) v = (query.Sequence q, answers_with (sequence_result_in v))
query_takes (query.Unit u) v = (query.Unit u, answers_with (if v == 0 then SpiIdle else SpiBusy))
