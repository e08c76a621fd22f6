-- The places of a frame's body: what each does next, and what a step makes of it.
-- From services.Decisions, services.ReadSteps, services.WriteBatchSteps, words.WindowWords.
-- Used by adc_driver: bookkeeping.Decreases, adc_driver: bookkeeping.CleanPlaces and 33 more.
use Rattle.std.specs.Prelude.{ℕ, ◌+◌, ◌-◌, ◌%◌, nat_lt, Bool, true, false, if◌then◌else◌, Option, Some, None, List, [], ◌∷◌, ◌++◌, length, slice_index_or}
use Rattle.adc_groups.specs.StepTerms
use StepTerms.{Aborts, AdcBody, AdcNotification, AdcTable, Answer, bank_of, BodyTaken, Chooses, Continuation}
use StepTerms.{ConverterAbort, ConverterDone, ConverterState, Copied, copy_after, copy_move, Copying, copying}
use StepTerms.{Decided, ends, Event, Flag, Front, front_gave, front_left, front_move, goes, group_of, inputs_of}
use StepTerms.{Keeps, limited, Looks, Makes, Move, no_answer, Nothing, Opens, Out, Outside, Phase, Pins, Place, Put}
use StepTerms.{put_gave, put_left, put_move, Quits, Reads, Reg, rounds_of, Seeks, Serves, STATE, Surveys, Suspended}
use StepTerms.{Take, take_left, take_move, take_start, TakePart, Tells, TriggerFlags, trio_of, Window, Word}
use StepTerms.{word_number, WriteBatch}
use Rattle.word_shapes.specs.declared.streams.copying.Copied.TheVariants as copied
use Rattle.adc_groups.specs.laws.services.Decisions.{entered, decided, flagged, surveyed, sought, chosen, pin, reading, aborted, copies_or}
use Rattle.adc_groups.specs.laws.services.WriteBatchSteps.{making_move, making_left, making_event, making_over}
use Rattle.adc_groups.specs.laws.services.ReadSteps.{newest_move, newest_left, newest_taken, newest_answer}
use Rattle.adc_groups.specs.laws.words.WindowWords.{word_at}

-- ---- with the mask open

abbrev pub outside_move : Outside → Move
outside_move (Outside.Copies c a) = copy_move c
outside_move (Outside.Counts r) = Move.Read (ConverterDone r.unit)
outside_move (Outside.Reads g b) = Move.Load STATE
outside_move (Outside.Notes g u) = Move.Note (record { kind = AdcNotification; id = g })
outside_move (Outside.Closes w) = Move.Mask

-- what comes after values were copied
abbrev pub tells_or : Bool → (unit group : ℕ) → Outside
tells_or true u g = Outside.Notes g u
tells_or false u g = Outside.Closes (Window.Begin u)

abbrev pub after_copies : Copied → Outside
after_copies (Serves t) = Outside.Closes (Window.Serve t)
after_copies (Tells u g on) = tells_or on u g
after_copies (Keeps r) = Outside.Closes (Window.Keep r)

-- so many inputs of an aborted round have ended
abbrev pub all_kept : Suspended → ℕ → Suspended
all_kept r n = record r { kept = limited (r.kept + n) 32 }

abbrev pub keeps_some : AdcTable → Suspended → ℕ → Outside
keeps_some d r n = copies_or (copying (copied.Ended (rounds_of d r.group) r.unit n r.kept)) (Keeps (all_kept r n)) (Outside.Closes (Window.Keep (all_kept r n)))

abbrev pub keeps : AdcTable → Suspended → (ended : ℕ) → Outside
keeps d r x = let k = length (inputs_of (group_of d r.group)) in keeps_some d r (limited x (k - limited r.kept k))

abbrev pub copies_on : Copied → Option Copying → Outside
copies_on a (Some c) = Outside.Copies c a
copies_on a None = after_copies a

abbrev pub outside_left : AdcTable → Outside → ℕ → Place
outside_left d (Outside.Copies c a) x = Out (copies_on a (copy_after c x))
outside_left d (Outside.Counts r) x = Out (keeps d r x)
outside_left d (Outside.Reads g b) x = Reads (reading d g b)
outside_left d (Outside.Notes g u) x = Out (Outside.Closes (Window.Begin u))
outside_left d (Outside.Closes w) x = entered w

-- ---- places

abbrev pub flag_register : Window → Reg
flag_register (Window.Take u) = ConverterState u
flag_register w = TriggerFlags

abbrev pub look_move : AdcTable → Option Word → Move
look_move d None = Move.Unmask
look_move d (Some w) = Move.Load (word_number d w)

-- the pin of a group's newest bank, and what comes once it was looked up
abbrev pub pin_of : AdcTable → ℕ → Take
pin_of d g = take_start (trio_of (rounds_of d g)) TakePart.Pin

abbrev pub pinned : AdcTable → ℕ → Phase → (value : ℕ) → Place
pinned d g p x = pin g p (take_left (pin_of d g) x) (bank_of (x % 4))

abbrev pub place_move : AdcTable → Place → Move
place_move d (Flag w) = Move.Read (flag_register w)
place_move d (Looks w seen) = look_move d (word_at w (length seen))
place_move d (Surveys w g) = Move.Load (word_number d (Word.Phase g))
place_move d (Seeks w r) = front_move r
place_move d (Chooses u g r) = put_move r
place_move d (Pins g p) = take_move (pin_of d g)
place_move d (Reads n) = newest_move n
place_move d (Aborts r) = Move.Read (ConverterAbort r.unit)
place_move d (Makes m) = making_move d m
place_move d (Quits u) = Move.Store (word_number d (Word.Claim u)) 0
place_move d (Opens o) = Move.Unmask
place_move d (Out o) = outside_move o

-- what was decided, at a place
abbrev pub follows : Place → Decided → Place × BodyTaken
follows k (Decided.Ends t) = (k, t)
follows k (Decided.Goes k1) = (k1, goes)

-- one more word was seen
abbrev pub seen_more : List ℕ → ℕ → List ℕ
seen_more seen x = if nat_lt (length seen) 6 then seen ++ x ∷ [] else seen

abbrev pub look_takes : AdcTable → Window → List ℕ → Option Word → Place × BodyTaken
look_takes d w seen (Some word) = (Looks w seen, goes)
look_takes d w seen None = follows (Looks w seen) (decided d w seen)

-- the number that a routine gave
abbrev pub given : Answer → ℕ
given a = slice_index_or a.words 0 0

abbrev pub seek_takes : AdcTable → Window → Front → Option Answer → Place × BodyTaken
seek_takes d w r None = (Seeks w r, goes)
seek_takes d w r (Some a) = follows (Seeks w r) (sought d w (given a))

abbrev pub choose_takes : (unit group : ℕ) → Put → Option Answer → Place × BodyTaken
choose_takes u g r None = (Chooses u g r, goes)
choose_takes u g r (Some a) = follows (Chooses u g r) (chosen u g (bank_of (given a)))

abbrev pub step : Option Event → BodyTaken
step e = record { event = e; done = None }

abbrev pub after_making : Option Event → WriteBatch → Continuation → Place × BodyTaken
after_making e m (Continuation.Ends n) = (Makes m, record { event = e; done = Some n })
after_making e m (Continuation.Goes o) = (Opens o, step e)

abbrev pub making_takes : Option Event → WriteBatch → Place × BodyTaken
making_takes e m = if making_over m then after_making e m m.after else (Makes m, step e)

-- with the mask open it begins to read a bank, or goes on so
abbrev pub opened : AdcTable → Outside → Place
opened d (Outside.Reads g b) = Reads (reading d g b)
opened d o = Out o

-- ---- parts of a step, each at a place of its own kind

-- all moves of a window were made
abbrev pub IsMaking : Place → Type 0
IsMaking (Makes m) = Unit {0}
IsMaking _ = ⊥

abbrev pub made : Place → Option Event → Place × BodyTaken
made (Makes m) e = after_making e m m.after
made k e = (k, step e)

-- all words that decide were looked at
abbrev pub IsLooking : Place → Type 0
IsLooking (Looks w seen) = Unit {0}
IsLooking _ = ⊥

abbrev pub looked : AdcTable → Place → Place × BodyTaken
looked d (Looks w seen) = follows (Looks w seen) (decided d w seen)
looked d k = (k, goes)

-- the mask is open, or is opened
abbrev pub IsOutside : Place → Type 0
IsOutside (Opens o) = Unit {0}
IsOutside (Out o) = Unit {0}
IsOutside _ = ⊥

-- a search for a request or a bank, and what was found
abbrev pub IsSearching : Place → Type 0
IsSearching (Seeks w r) = Unit {0}
IsSearching (Chooses u g r) = Unit {0}
IsSearching _ = ⊥

abbrev pub found : AdcTable → Place → ℕ → Place × BodyTaken
found d (Seeks w r) x = follows (Seeks w r) (sought d w x)
found d (Chooses u g r) x = follows (Chooses u g r) (chosen u g (bank_of x))
found d k x = (k, goes)

-- one value decides
abbrev pub IsDeciding : Place → Type 0
IsDeciding (Flag w) = Unit {0}
IsDeciding (Surveys w g) = Unit {0}
IsDeciding (Pins g p) = Unit {0}
IsDeciding (Aborts r) = Unit {0}
IsDeciding _ = ⊥

-- ---- a step

abbrev pub place_takes : AdcTable → Place → ℕ → Place × BodyTaken
place_takes d (Flag w) x = follows (Flag w) (flagged w x)
place_takes d (Looks w seen) x = look_takes d w (seen_more seen x) (word_at w (length (seen_more seen x)))
place_takes d (Surveys w g) x = follows (Surveys w g) (surveyed d w g x)
place_takes d (Seeks w r) x = seek_takes d w (front_left r x) (front_gave r x).ended
place_takes d (Chooses u g r) x = choose_takes u g (put_left r x) (put_gave r x).ended
place_takes d (Pins g p) x = (pinned d g p x, goes)
place_takes d (Reads n) x = (Reads (newest_left n x), newest_taken n)
place_takes d (Aborts r) x = ((aborted d r x).1, step (aborted d r x).0)
place_takes d (Makes m) x = making_takes (making_event m) (making_left m x)
place_takes d (Quits u) x = (Quits u, ends None no_answer Nothing)
place_takes d (Opens o) x = (opened d o, goes)
place_takes d (Out o) x = (outside_left d o x, goes)

-- ---- bodies

abbrev pub body_work : AdcBody → Move
body_work k = place_move k.table k.place

abbrev pub body_takes : AdcBody → ℕ → AdcBody × BodyTaken
body_takes k x = (record k { place = (place_takes k.table k.place x).0 }, (place_takes k.table k.place x).1)

-- the answer of a body that has ended its frame itself
abbrev pub place_ends : Place → Option Answer
place_ends (Reads n) = newest_answer n
place_ends k = None

abbrev pub body_ends : AdcBody → Option Answer
body_ends k = place_ends k.place
