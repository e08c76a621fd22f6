-- The events of a journal's deeds, and what each frame says of its own.
use Rattle.std.specs.Prelude.{◌≡◌, List, [], ◌∷◌, ◌++◌, Option, Some, None}
use Rattle.mcal_base.specs.declared.answer.Answer.{Answer}
use Rattle.mcal_base.specs.declared.moves.Event as marks
use Rattle.mcal_base.specs.declared.moves.Event.TheVariants.{Act}
use Rattle.mcal_base.specs.declared.moves.Move.{Move}
use Rattle.mcal_base.specs.declared.moves.Move.TheVariants.{Note}
use Rattle.mcal_base.specs.declared.notice.Notice.{Notice}
use Rattle.run_model.specs.declared.item.Stepped.{Stepped}
use Rattle.run_model.specs.World.{World}
use Rattle.run_model.specs.Machine.{Happening, Moves, Restarts, Outcome}
use Rattle.run_model.specs.Frame.{Origin, Called, Entered, Open, brought_by, happening_at, outcome_of}
use Rattle.run_model.specs.Moment.{Setting, Moment, Transition, Begins, Enters, Steps, Happens, Resets, after}
use Rattle.board_promises.specs.whole_runs.Runs.{Event, told_or_nothing}

-- ---- events

-- the event of a step of the top frame
abbrev pub event_of_step : {State Call : Type 0} → Moment State Call → List (Open Call) → Stepped → Option (Happening Call)
event_of_step m [] s = None
event_of_step m (o ∷ os) s = happening_at o.origin (brought_by m.world o.committed s.made s.received) s.event

-- the event of a deed: what stands at a step, what the hardware does, and a reset; a beginning is none
abbrev pub event_of : {State Call : Type 0} → Moment State Call → Transition Call → Option (Happening Call)
event_of m (Begins c level) = None
event_of m (Enters l) = None
event_of m (Steps s) = event_of_step m m.opens s
event_of m (Happens order) = Some (Moves order)
event_of m (Resets reason) = Some (Restarts reason)

-- the events so far, the newest first, with one more where there is one
abbrev pub with_event : {Call : Type 0} → World → Option (Happening Call) → List (Event Call) → List (Event Call)
with_event w None past = past
with_event w (Some h) past = record { world = w; what = h } ∷ past

-- the events of deeds from a moment on, behind them those before it
abbrev pub events_of : {State Call : Type 0} → Setting State Call → Moment State Call → List (Event Call) → List (Transition Call) → List (Event Call)
events_of g m past [] = past
events_of g m past (d ∷ ds) = events_of g (after g m d) (with_event m.world (event_of m d) past) ds

-- ---- what a frame says

-- What the own events of a frame under way have told it, and which notices it has given.
pub record Said : Type 0 where
  -- the answer that its act told
  pub answer : Option Answer
  -- the notices that its events told, and those that it has given, in their order
  pub told : List Notice
  pub given : List Notice

abbrev pub said_nothing : Said
said_nothing = record { answer = None; told = []; given = [] }

abbrev pub notices_in : Move → List Notice
notices_in (Note n) = n ∷ []
notices_in _ = []

abbrev pub answer_told : {State : Type 0} → Option Answer → Option marks.Event → Option (Outcome State) → Option Answer
answer_told a (Some Act) (Some out) = Some out.told.answer
answer_told a e out = a

-- after a step of its own
abbrev pub said_after : {State Call : Type 0} → Setting State Call → Moment State Call → List (Open Call) → Stepped → Said → Said
said_after g m os s x =
    let out = outcome_of g.machine m.world m.state (event_of_step m os s) in
    record { answer = answer_told x.answer s.event out; told = x.told ++ (told_or_nothing out).notices; given = x.given ++ notices_in s.made }

-- what the frames under way have said after a step of the top one, which may end with it
abbrev pub top_said : Said → Option Answer → List Said → List Said
top_said x None rest = x ∷ rest
top_said x (Some answer) rest = rest

abbrev pub all_said_after_step : {State Call : Type 0} → Setting State Call → Moment State Call → Stepped → List Said → List Said
all_said_after_step g m s [] = []
all_said_after_step g m s (x ∷ xs) = top_said (said_after g m m.opens s x) s.ended xs

abbrev pub all_said_after : {State Call : Type 0} → Setting State Call → Moment State Call → Transition Call → List Said → List Said
all_said_after g m (Begins c level) xs = said_nothing ∷ xs
all_said_after g m (Enters l) xs = said_nothing ∷ xs
all_said_after g m (Steps s) xs = all_said_after_step g m s xs
all_said_after g m (Happens order) xs = xs
all_said_after g m (Resets reason) xs = []

-- the printed answer of a finished call is the one that its act told
abbrev pub Answered : {Call : Type 0} → Origin Call → Answer → Option Answer → Type 0
Answered (Called c) answer told = told ≡ Some answer
Answered (Entered l) answer told = Unit {0}

-- a frame that ends has given each notice that its events told, once, in their order
abbrev pub EndsSaid : {Call : Type 0} → Origin Call → Option Answer → Said → Type 0
EndsSaid origin None x = Unit {0}
EndsSaid origin (Some answer) x = Answered origin answer x.answer × (x.given ≡ x.told)

abbrev pub StepSaid : {State Call : Type 0} → Setting State Call → Moment State Call → List (Open Call) → Stepped → List Said → Type 0
StepSaid g m [] s xs = Unit {0}
StepSaid g m (o ∷ os) s [] = ⊥
StepSaid g m (o ∷ os) s (x ∷ xs) = EndsSaid o.origin s.ended (said_after g m (o ∷ os) s x)

abbrev pub DeedSaid : {State Call : Type 0} → Setting State Call → Moment State Call → Transition Call → List Said → Type 0
DeedSaid g m (Steps s) xs = StepSaid g m m.opens s xs
DeedSaid g m _ xs = Unit {0}

-- each frame that ends has said what its events told
abbrev pub AllSaid : {State Call : Type 0} → Setting State Call → Moment State Call → List Said → List (Transition Call) → Type 0
AllSaid g m xs [] = Unit {0}
AllSaid g m xs (d ∷ ds) = DeedSaid g m d xs × AllSaid g (after g m d) (all_said_after g m d xs) ds
