-- A pinned bank that is read: its moves, and the answer with which the call ends.
-- Used by src/service/read.rt, adc_driver: bookkeeping.Decreases, services.BodySteps and 3 more.
use Rattle.std.specs.Prelude.{ℕ, Bool, true, false, Option, Some, None}
use Rattle.adc_groups.specs.StepTerms
use StepTerms.{Answer, BodyTaken, ends, EOk, goes, has_read, Leaves, Move, named_with, Newest, no_answer, Nothing}
use StepTerms.{Over, read_more, read_move, Reading, Release, Releases, Shuts, Stage, STATE, Take, take_gave}
use StepTerms.{take_left, take_move, take_start, trio_of}
use Rattle.adc_groups.specs.declared.service.read.Stage.TheVariants.{Reads}

abbrev pub stage_move : Reading → Stage → Move
stage_move r Reads = read_move r
stage_move r Shuts = Move.Mask
stage_move r (Releases t) = take_move t
stage_move r Leaves = Move.Unmask
stage_move r Over = Move.Load STATE

abbrev pub newest_move : Newest → Move
newest_move n = stage_move n.reading n.stage

-- all was read, or not yet
abbrev pub stage_read : Bool → Stage
stage_read true = Shuts
stage_read false = Reads

abbrev pub stage_by : Take → Option Answer → Stage
stage_by t None = Releases t
stage_by t (Some a) = Leaves

abbrev pub stage_released : Take → ℕ → Stage
stage_released t x = stage_by (take_left t x) (take_gave t x).ended

abbrev pub left_by : Newest → Stage → ℕ → Newest
left_by n Reads x = record n { reading = read_more n.reading x; stage = stage_read (has_read (read_more n.reading x)) }
left_by n Shuts x = record n { stage = Releases (take_start (trio_of n.reading.rounds) Release) }
left_by n (Releases t) x = record n { stage = stage_released t x }
left_by n Leaves x = record n { stage = Over }
left_by n Over x = n

abbrev pub newest_left : Newest → ℕ → Newest
newest_left n x = left_by n n.stage x

abbrev pub taken_by : Stage → BodyTaken
taken_by Over = ends None no_answer Nothing
taken_by _ = goes

abbrev pub newest_taken : Newest → BodyTaken
newest_taken n = taken_by n.stage

-- what the call ends with
abbrev pub answer_by : Reading → Stage → Option Answer
answer_by r Over = Some (named_with EOk r.values)
answer_by r _ = None

abbrev pub newest_answer : Newest → Option Answer
newest_answer n = answer_by n.reading n.stage
