-- The outline's routine: what each place of it does, becomes and gives.
use Rattle.std.specs.Prelude.{ℕ, Option, Some, None}
use Rattle.mcal_base.specs.declared.answer.Answer.{Answer}
use Rattle.mcal_base.specs.declared.moves.Move.{Move}
use Rattle.mcal_base.specs.declared.moves.Move.TheVariants.{Load, Mask, Unmask, Note, Report}
use Rattle.mcal_base.specs.declared.moves.Event.{Event}
use Rattle.mcal_base.specs.declared.moves.Event.TheVariants.{Act}
use Rattle.mcal_base.specs.declared.routine.Taken.{Taken}
use Rattle.run_model.specs.Machine.{no_answer}
use Rattle.service_outline.specs.declared.done.Epilogue.{Epilogue}
use Rattle.service_outline.specs.declared.done.Epilogue.TheVariants.{Nothing, Error, One, Two}
use Rattle.service_outline.specs.declared.done.Done.{Done}
use Rattle.service_outline.specs.declared.done.BodyTaken.{BodyTaken}
use Rattle.service_outline.specs.declared.body.Looked.{Looked}
use Rattle.service_outline.specs.declared.body.Looked.TheVariants.{Refused, Goes}
use Rattle.service_outline.specs.declared.short.Short.{Short}
use Rattle.service_outline.specs.declared.short.Short.TheVariants.{Calling, Loading, Entering, Inside, Opening, Telling, Returning}

-- outside its body, and before the load of its state word
abbrev pub IsOutside : {Call Body : Type 0} → Short Call Body → Type 0
IsOutside (Inside k) = ⊥
IsOutside _ = Unit {0}

abbrev pub IsLoading : {Call Body : Type 0} → Short Call Body → Type 0
IsLoading (Loading c) = Unit {0}
IsLoading _ = ⊥

-- how it tells what it owes
abbrev pub tells : ℕ → Epilogue → Move
tells word Nothing = Load word
tells word (Error e) = Report e
tells word (One k) = Note k
tells word (Two k j) = Note k

abbrev pub short_move : {Call Body : Type 0} → ℕ → (Body → Move) → Short Call Body → Move
short_move word work_of (Calling c) = Mask
short_move word work_of (Loading c) = Load word
short_move word work_of (Entering k) = Mask
short_move word work_of (Inside k) = work_of k
short_move word work_of (Opening n) = Unmask
short_move word work_of (Telling n) = tells word n.owed
short_move word work_of (Returning a) = Load word

-- a step with nothing beside its move, with an event, and the last one
abbrev pub goes : Taken
goes = record { event = None; ended = None }

abbrev pub does : Option Event → Taken
does e = record { event = e; ended = None }

abbrev pub ends : Answer → Taken
ends a = record { event = None; ended = Some a }

-- after its first step, where it is a call or a handler before its window
abbrev pub begun : {Call Body : Type 0} → Short Call Body → Short Call Body
begun (Calling c) = Loading c
begun (Entering k) = Inside k
begun (Loading c) = Loading c
begun (Inside k) = Inside k
begun (Opening n) = Opening n
begun (Telling n) = Telling n
begun (Returning a) = Returning a

abbrev pub left_look : {Call Body : Type 0} → Looked Body → Short Call Body
left_look (Refused n) = Opening n
left_look (Goes k) = Inside k

abbrev pub gave_look : {Body : Type 0} → Looked Body → Taken
gave_look (Refused n) = does (Some Act)
gave_look (Goes k) = goes

abbrev pub left_body : {Call Body : Type 0} → Body → Option Done → Short Call Body
left_body k None = Inside k
left_body k (Some n) = Opening n

abbrev pub left_open : {Call Body : Type 0} → Answer → Epilogue → Short Call Body
left_open a Nothing = Returning no_answer
left_open a (Error e) = Telling (record { answer = a; owed = Error e })
left_open a (One k) = Telling (record { answer = a; owed = One k })
left_open a (Two k j) = Telling (record { answer = a; owed = Two k j })

abbrev pub gave_open : Answer → Epilogue → Taken
gave_open a Nothing = ends a
gave_open a (Error e) = goes
gave_open a (One k) = goes
gave_open a (Two k j) = goes

abbrev pub left_told : {Call Body : Type 0} → Answer → Epilogue → Short Call Body
left_told a Nothing = Returning no_answer
left_told a (Error e) = Returning no_answer
left_told a (One k) = Returning a
left_told a (Two k j) = Telling (record { answer = a; owed = One j })

abbrev pub gave_told : Answer → Epilogue → Taken
gave_told a Nothing = ends a
gave_told a (Error e) = ends a
gave_told a (One k) = goes
gave_told a (Two k j) = goes

abbrev pub short_left : {Call Body : Type 0} → (Call → ℕ → Looked Body) → (Body → ℕ → Body × BodyTaken) → Short Call Body → ℕ → Short Call Body
short_left looked takes (Calling c) x = Loading c
short_left looked takes (Loading c) x = left_look (looked c x)
short_left looked takes (Entering k) x = Inside k
short_left looked takes (Inside k) x = left_body (takes k x).0 (takes k x).1.done
short_left looked takes (Opening n) x = left_open n.answer n.owed
short_left looked takes (Telling n) x = left_told n.answer n.owed
short_left looked takes (Returning a) x = Returning no_answer

-- the answer of a body that ends its frame itself, where it isn't done with
abbrev pub ended_by : Option Answer → Option Done → Option Answer
ended_by None left = None
ended_by (Some a) None = Some a
ended_by (Some a) (Some n) = None

abbrev pub gave_body : Option Event → Option Answer → Taken
gave_body e a = record { event = e; ended = a }

-- what a step gave, where bodies end their frame so
abbrev pub ending_gave : {Call Body : Type 0} → (Call → ℕ → Looked Body) → (Body → ℕ → Body × BodyTaken) → (Body → Option Answer) → Short Call Body → ℕ → Taken
ending_gave looked takes ends_with (Calling c) x = goes
ending_gave looked takes ends_with (Loading c) x = gave_look (looked c x)
ending_gave looked takes ends_with (Entering k) x = goes
ending_gave looked takes ends_with (Inside k) x = gave_body (takes k x).1.event (ended_by (ends_with (takes k x).0) (takes k x).1.done)
ending_gave looked takes ends_with (Opening n) x = gave_open n.answer n.owed
ending_gave looked takes ends_with (Telling n) x = gave_told n.answer n.owed
ending_gave looked takes ends_with (Returning a) x = ends a

-- and where none does
abbrev pub short_gave : {Call Body : Type 0} → (Call → ℕ → Looked Body) → (Body → ℕ → Body × BodyTaken) → Short Call Body → ℕ → Taken
short_gave looked takes = ending_gave looked takes (λ k. None)
