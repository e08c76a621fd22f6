-- The pending sequences, which of their jobs is next, and the results.
use Rattle.std.specs.Prelude.{ℕ, ◌+◌, ◌==◌, nat_lt, Bool, true, false, ◌&&◌, ◌||◌, not, if◌then◌else◌, List, [], ◌∷◌, length, map, filter, drop, Option, Some, None, slice_index_or}
use Rattle.std.specs.List.{list_any}
use Rattle.mcal_base.specs.declared.answer_name.AnswerName.{AnswerName}
use Rattle.mcal_base.specs.declared.answer_name.AnswerName.TheVariants.{SpiJobOk, SpiSeqOk, SpiSeqFailed, SpiSeqCanceled}
use Rattle.spi_machine.specs.declared.table.SpiTable.{SpiTable}
use Rattle.spi_machine.specs.Numbered.{with_item}
use Rattle.spi_machine.specs.Table.{job_of, sequence_of, jobs_of, channels_of, priority_by, is_interruptible, is_on_unit}

-- A pending sequence.
pub record Pending : Type 0 where
  pub sequence : ℕ
  -- the number of its request
  pub request : ℕ
  -- the place of its job that runs, or that runs next
  pub next : ℕ
  pub started : Bool
  pub cancelled : Bool
  -- the results that its jobs had at the request
  pub had : List AnswerName

-- as requested
abbrev pub requested : (sequence request : ℕ) → (had : List AnswerName) → Pending
requested q number had = record { sequence = q; request = number; next = 0; started = false; cancelled = false; had = had }

-- ---- the list

abbrev pub is_of : (sequence : ℕ) → Pending → Bool
is_of q p = p.sequence == q

abbrev pub is_pending : (sequence : ℕ) → List Pending → Bool
is_pending q ps = list_any (is_of q) ps

-- with the entry of a sequence changed, and how it is changed
abbrev pub changed : (sequence : ℕ) → (Pending → Pending) → List Pending → List Pending
changed q f ps = map (λ p. if is_of q p then f p else p) ps

-- without a sequence
abbrev pub without : (sequence : ℕ) → List Pending → List Pending
without q ps = filter (λ p. not (is_of q p)) ps

abbrev pub starts : Pending → Pending
starts p = record p { started = true }

abbrev pub goes_to_next : Pending → Pending
goes_to_next p = record p { next = p.next + 1 }

abbrev pub cancels : Pending → Pending
cancels p = record p { cancelled = true }

-- a sequence has a job, and two sequences have one in common
abbrev pub has_job : SpiTable → (sequence job : ℕ) → Bool
has_job d q j = list_any (λ k. k == j) (jobs_of d q)

abbrev pub shares_job : SpiTable → (sequence other : ℕ) → Bool
shares_job d q other = list_any (has_job d q) (jobs_of d other)

-- the sequence, or one that has a job in common with it, is pending
abbrev pub is_held : SpiTable → (sequence : ℕ) → List Pending → Bool
is_held d q ps = list_any (λ p. is_of q p || shares_job d q p.sequence) ps

-- a job uses a channel
abbrev pub uses_channel : SpiTable → (channel job : ℕ) → Bool
uses_channel d c j = list_any (λ k. k == c) (channels_of d j)

-- a pending sequence uses a channel
abbrev pub is_in_use : SpiTable → (channel : ℕ) → List Pending → Bool
is_in_use d c ps = list_any (λ p. list_any (uses_channel d c) (jobs_of d p.sequence)) ps

-- ---- the next job

-- its job that runs, or that runs next
abbrev pub next_job : SpiTable → Pending → ℕ
next_job d p = slice_index_or (jobs_of d p.sequence) p.next 0

-- its job that runs now isn't the last one
abbrev pub has_further : SpiTable → Pending → Bool
has_further d p = nat_lt (p.next + 1) (length (jobs_of d p.sequence))

-- a started sequence that isn't interruptible keeps its unit
abbrev pub keeps_unit : SpiTable → Pending → Bool
keeps_unit d p = p.started && not (is_interruptible (sequence_of d p.sequence))

-- the priority of its next job
abbrev pub priority_of : SpiTable → Pending → ℕ
priority_of d p = priority_by (job_of d (next_job d p))

-- one that keeps its unit stands above all priorities, which are 0 to 3
abbrev pub rank : SpiTable → Pending → ℕ
rank d p = if keeps_unit d p then 4 else priority_of d p

-- the next job of one runs before that of the other: it ranks higher, or as high with an earlier request
abbrev pub precedes : SpiTable → Pending → Pending → Bool
precedes d p other = nat_lt (rank d other) (rank d p) || (rank d p == rank d other && nat_lt p.request other.request)

-- the better of one and of the best of the others, where there are any
abbrev pub better : SpiTable → Pending → Option Pending → Pending
better d p None = p
better d p (Some other) = if precedes d other p then other else p

-- the one that no other precedes
abbrev pub best : SpiTable → List Pending → Option Pending
best d [] = None
best d (p ∷ ps) = Some (better d p (best d ps))

-- the next job of a pending sequence runs on a unit
abbrev pub is_for : SpiTable → (number : ℕ) → Pending → Bool
is_for d u p = is_on_unit u (job_of d (next_job d p))

-- the pending sequence whose next job a free unit runs
abbrev pub next_on : SpiTable → (number : ℕ) → List Pending → Option Pending
next_on d u ps = best d (filter (is_for d u) ps)

-- ---- results, by number; what never ran is OK

abbrev pub job_result : List AnswerName → ℕ → AnswerName
job_result rs j = slice_index_or rs j SpiJobOk

abbrev pub sequence_result : List AnswerName → ℕ → AnswerName
sequence_result rs q = slice_index_or rs q SpiSeqOk

-- these jobs get these results
abbrev pub with_results : (jobs : List ℕ) → (results : List AnswerName) → List AnswerName → List AnswerName
with_results [] _ rs = rs
with_results (j ∷ js) [] rs = rs
with_results (j ∷ js) (x ∷ xs) rs = with_results js xs (with_item SpiJobOk rs j x)

-- jobs get one result
abbrev pub all_get : AnswerName → (jobs : List ℕ) → List AnswerName → List AnswerName
all_get x js rs = with_results js (map (λ j. x) js) rs

-- the jobs of a sequence from a place on get back what they had
abbrev pub given_back : SpiTable → Pending → (from : ℕ) → List AnswerName → List AnswerName
given_back d p from rs = with_results (drop from (jobs_of d p.sequence)) (drop from p.had) rs

-- how a sequence ends with its job, where it does: by whether it was cancelled, the job failed, and a further job is
-- there
abbrev pub end_by : (cancelled failed further : Bool) → Option AnswerName
end_by true _ _ = Some SpiSeqCanceled
end_by false true _ = Some SpiSeqFailed
end_by false false true = None
end_by false false false = Some SpiSeqOk
