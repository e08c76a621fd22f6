-- Frames that request, start or serve: their steps.
-- From services.ServeSteps, services.StartSteps.
-- Used by spi_driver: services.UnitBounds, spi_driver: bookkeeping.MaskDiscipline and 16 more.
use Rattle.std.specs.Prelude.{◌+◌, ◌==◌, ◌&&◌, ◌||◌, if◌then◌else◌}
use Rattle.spi_sequences.specs.StepTerms
use StepTerms.{Act, acts, Add, add_gave, add_left, add_move, After, BodyTaken, Bool, ends, ENotOk, EOk, Event, false}
use StepTerms.{FrameRole, goes, Handler, has_ended, is_sync_unit, Load, Main, MARKS, Move, named, nat_lt, NEXTS}
use StepTerms.{no_answer, None, Note, Nothing, Notice, Option, order_places, owed_error, PENDING, reporting, Requested}
use StepTerms.{RequestPlace, Rest, sequence_word, ServePlace, ServeStep, shares, Some, SpiAsyncTransmit, SpiSeqPending}
use StepTerms.{SpiTable, Started, StartPlace, STATE, Store, suc, Transmit, true, unit_of_sequence, UnitBody, UnitPlace}
use StepTerms.{unmarked_in, Unmask, with_next_in, zero, ℕ}
use Rattle.spi_sequences.specs.laws.services.{ServeSteps.{serve_move, serve_takes}, StartSteps.{start_move}}
use Rattle.spi_sequences.specs.laws.services.StartSteps.{start_takes}
use Rattle.word_shapes.specs.declared.add.Add.TheVariants as adds
use Rattle.spi_sequences.specs.declared.service.request.RequestPlace.TheVariants as request
use Rattle.spi_sequences.specs.declared.service.request.Requested.TheVariants as requested
use Rattle.spi_sequences.specs.declared.service.serve.ServePlace.TheVariants as serve
use Rattle.spi_sequences.specs.declared.service.serve.ServeStep.TheVariants as steps
use Rattle.spi_sequences.specs.declared.service.start.StartPlace.TheVariants as start
use Rattle.spi_sequences.specs.declared.service.start.Started.TheVariants as started
use Rattle.spi_sequences.specs.declared.service.unit.After.TheVariants as after
use Rattle.spi_sequences.specs.declared.service.unit.UnitPlace.TheVariants as place

-- ---- the request of a sequence

abbrev pub request_move : (sequence : ℕ) → RequestPlace → Move
request_move q (request.Look k) = Load (sequence_word k)
request_move q request.Accept = Store (sequence_word q) PENDING
request_move q request.Nexts = Load NEXTS
request_move q (request.First v) = Store NEXTS v
request_move q request.Marks = Load MARKS
request_move q (request.Unmark v) = Store MARKS v
request_move q (request.Add p) = add_move p

-- a sequence was looked at, and is in the way or not
abbrev pub request_looked : ℕ → (in_the_way : Bool) → RequestPlace × Requested
request_looked k true = (request.Look k, requested.Held)
request_looked k false = (if nat_lt k 7 then request.Look (k + 1) else request.Accept, requested.Goes None)

abbrev pub request_adds : Add → ℕ → (ended : Bool) → RequestPlace × Requested
request_adds p v true = (request.Add (add_left p v), requested.Accepted)
request_adds p v false = (request.Add (add_left p v), requested.Goes None)

abbrev pub request_takes : SpiTable → (sequence : ℕ) → RequestPlace → ℕ → RequestPlace × Requested
request_takes d q (request.Look k) v = request_looked k (v == PENDING && (k == q || shares d q k))
request_takes d q request.Accept v = (request.Nexts, requested.Goes (Some Act))
request_takes d q request.Nexts v = (request.First (with_next_in v q 0), requested.Goes None)
request_takes d q (request.First x) v = (request.Marks, requested.Goes None)
request_takes d q request.Marks v = (request.Unmark (unmarked_in v q), requested.Goes None)
request_takes d q (request.Unmark x) v = (request.Add (adds.Count (order_places (unit_of_sequence d q)) q), requested.Goes None)
request_takes d q (request.Add p) v = request_adds p v (has_ended (add_gave p v))

-- ---- frames that start or serve units

-- the sequence that is requested, 0 where none is
abbrev pub requested_by : FrameRole → ℕ
requested_by (Transmit q) = q
requested_by Handler = 0
requested_by Main = 0
requested_by Rest = 0

abbrev pub unit_move : UnitBody → UnitPlace → Move
unit_move k (place.Request r) = request_move (requested_by k.errand) r
unit_move k place.Act = Load STATE
unit_move k (place.Opens a) = Unmask
unit_move k (place.Tell n o) = Note n
unit_move k (place.Serve r) = serve_move k.table k.unit r
unit_move k (place.Start r) = start_move k.table k.unit r

abbrev pub unit_work : UnitBody → Move
unit_work k = unit_move k k.place

-- a step that goes on, with an event or none
abbrev pub passes : Option Event → BodyTaken
passes e = record { event = e; done = None }

abbrev pub unit_at : UnitBody → UnitPlace → UnitBody
unit_at k p = record k { place = p }

-- the place after the opening of the mask
abbrev pub told_first : Option Notice → Option Notice → UnitPlace
told_first (Some n) o = place.Tell n o
told_first None (Some n) = place.Tell n None
told_first None None = place.Start start.Shut

abbrev pub opened : After → UnitPlace
opened after.Serve = place.Serve serve.Shut
opened after.Start = place.Start start.Shut
opened (after.Tell e) = told_first e.job e.sequence

abbrev pub told_next : Option Notice → UnitPlace
told_next None = place.Start start.Shut
told_next (Some n) = place.Tell n None

-- what is left of both units after the first one: it was served where a further word or a start was the last thing there
abbrev pub rest_after : UnitPlace → FrameRole
rest_after (place.Serve (serve.Stand p)) = Rest
rest_after (place.Start p) = Rest
rest_after _ = Main

-- the main function goes on with the other unit, unless that sends by Spi_SyncTransmit
abbrev pub main_over : UnitBody → UnitPlace → (sync : Bool) → UnitBody × BodyTaken
main_over k p true = (unit_at k p, ends None no_answer Nothing)
main_over k p false = (record k { errand = rest_after p; unit = 1; place = place.Opens after.Serve }, goes)

-- the unit has what it needs: the frame ends, or goes on with the other unit
abbrev pub unit_over : UnitBody → UnitPlace → FrameRole → (number : ℕ) → UnitBody × BodyTaken
unit_over k p Main zero = main_over k p (is_sync_unit k.table 1)
unit_over k p Main (suc u) = (unit_at k p, ends None no_answer Nothing)
unit_over k p Rest u = (unit_at k p, ends None no_answer Nothing)
unit_over k p Handler u = (unit_at k p, ends None no_answer Nothing)
unit_over k p (Transmit q) u = (unit_at k p, ends None (named EOk) Nothing)

-- a pending sequence is in the way of the request
abbrev pub held_by : SpiTable → BodyTaken
held_by d = ends (Some Act) (named ENotOk) (owed_error (reporting d) SpiAsyncTransmit SpiSeqPending)

abbrev pub after_request : UnitBody → RequestPlace × Requested → UnitBody × BodyTaken
after_request k (r, requested.Goes e) = (unit_at k (place.Request r), passes e)
after_request k (r, requested.Held) = (unit_at k (place.Request r), held_by k.table)
after_request k (r, requested.Accepted) = (unit_at k (place.Opens after.Start), goes)

abbrev pub after_serve : UnitBody → ServePlace × ServeStep → UnitBody × BodyTaken
after_serve k (r, steps.Goes e) = (unit_at k (place.Serve r), passes e)
after_serve k (r, steps.Over) = unit_over k (place.Serve r) k.errand k.unit
after_serve k (r, steps.JobOver e) = (unit_at k (place.Opens (after.Tell e)), goes)

abbrev pub after_start : UnitBody → StartPlace × Started → UnitBody × BodyTaken
after_start k (r, started.Goes e) = (unit_at k (place.Start r), passes e)
after_start k (r, started.Over) = unit_over k (place.Start r) k.errand k.unit

-- the main function acts, and ends where its unit sends by Spi_SyncTransmit
abbrev pub unit_acts : UnitBody → (sync : Bool) → UnitBody × BodyTaken
unit_acts k true = (k, ends (Some Act) no_answer Nothing)
unit_acts k false = (unit_at k (place.Opens after.Serve), acts)

abbrev pub unit_took : UnitBody → UnitPlace → ℕ → UnitBody × BodyTaken
unit_took k (place.Request r) v = after_request k (request_takes k.table (requested_by k.errand) r v)
unit_took k place.Act v = unit_acts k (is_sync_unit k.table k.unit)
unit_took k (place.Opens a) v = (unit_at k (opened a), goes)
unit_took k (place.Tell n o) v = (unit_at k (told_next o), goes)
unit_took k (place.Serve r) v = after_serve k (serve_takes k.table k.unit r v)
unit_took k (place.Start r) v = after_start k (start_takes k.table k.unit r v)

abbrev pub unit_takes : UnitBody → ℕ → UnitBody × BodyTaken
unit_takes k v = unit_took k k.place v
