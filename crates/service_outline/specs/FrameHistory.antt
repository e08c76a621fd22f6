-- What a frame has done so far and has yet to tell, and what its events add to that.
use Rattle.std.specs.Prelude.{◌≡◌, ℕ, Bool, true, false, ◌||◌, List, [], ◌∷◌, ◌++◌, Option, Some, None}
use Rattle.std.specs.List.{list_all}
use Rattle.mcal_base.specs.declared.answer.Answer.{Answer}
use Rattle.mcal_base.specs.declared.moves.DevError.{DevError}
use Rattle.mcal_base.specs.declared.moves.Event.{Event}
use Rattle.mcal_base.specs.declared.moves.Event.TheVariants.{Act, Serve, Abort, Start}
use Rattle.mcal_base.specs.declared.moves.Move.{Move}
use Rattle.run_model.specs.World.{World}
use Rattle.run_model.specs.Machine.{Told, Machine, no_answer}
use Rattle.run_model.specs.Frame.{Origin, Called, Entered, Owing, Open, owing, committed_after, report_of}
use Rattle.run_model.specs.Legal.{has_line, IsNext, StartsUncalled}
use Rattle.service_outline.specs.Outline.{form, acted_in, served_in, owed_in, report_in}

-- the answer of its act and the lines that it polled there, the lines that it served and those that it surely missed, the
-- times of its commits, the notices that it owes, and the error that it has to report
pub record FrameHistory : Type 0 where
  pub acted : Option Answer
  pub polled : List ℕ
  pub served : List ℕ
  pub missed : List ℕ
  pub committed : ℕ → Option ℕ
  pub owed : List Owing
  pub report : Option DevError

abbrev pub fresh_history : FrameHistory
fresh_history = record { acted = None; polled = []; served = []; missed = []; committed = λ c. None; owed = []; report = None }

-- the past of a frame that was told this, polled no line, made these commits, and has told nothing
abbrev pub past_of : {State Call : Type 0} → Machine State Call → Option Told → Origin Call → (ℕ → Option ℕ) → FrameHistory
past_of mac told origin committed = record { acted = acted_in told origin; polled = []; served = served_in told origin; missed = []; committed = committed; owed = owed_in told origin; report = report_in mac told origin }

-- a frame with the level, misses and counts of another, and this past
abbrev pub with_past : {Call : Type 0} → Open Call → FrameHistory → Open Call
with_past r p = record r { polled = p.polled; committed = p.committed }

-- lines that a frame surely missed it has missed
abbrev pub AreMissed : List ℕ → (missed : ℕ → Bool) → Type 0
AreMissed ls missed = (l : ℕ) → has_line ls l ≡ true → missed l ≡ true

abbrev pub having : {Call : Type 0} → Open Call → Origin Call → FrameHistory → Bool → Open Call
having r origin p inside = form (with_past r p) origin p.acted p.served p.owed p.report inside

-- the past after a move that names a register or a word
abbrev pub past_wrote : World → Move → FrameHistory → FrameHistory
past_wrote w made p = record p { committed = committed_after w p.committed made }

-- the past after an event that told this
abbrev pub past_after : {State Call : Type 0} → Machine State Call → World → State → Origin Call → Event → Told → FrameHistory → FrameHistory
past_after mac w s (Called c) Act t p = record p { acted = Some t.answer; polled = mac.polls w s c; owed = p.owed ++ owing false t.notices; report = report_of mac c t.error }
past_after mac w s (Entered l) Act t p = p
past_after mac w s origin (Serve k) t p = record p { served = k ∷ p.served; owed = p.owed ++ owing true t.notices }
past_after mac w s origin (Abort u) t p = record p { owed = p.owed ++ owing false t.notices }
past_after mac w s origin (Start u) t p = record p { owed = p.owed ++ owing false t.notices }

-- a call acts once, and serves lines that it polls, in their order; a handler serves its line once; a call serves, and a unit is started or
-- aborted, where no notice is owed; what a call starts for itself it starts before it acts
abbrev pub MayDo : {State Call : Type 0} → Machine State Call → World → State → FrameHistory → Event → Origin Call → Type 0
MayDo mac w s p Act (Called c) = p.acted ≡ None
MayDo mac w s p Act (Entered l) = ⊥
MayDo mac w s p (Serve k) (Called c) = IsNext (mac.polls w s c) p.served k × (p.owed ≡ [])
MayDo mac w s p (Serve k) (Entered l) = (k ≡ l) × (p.served ≡ [])
MayDo mac w s p (Abort u) origin = p.owed ≡ []
MayDo mac w s p (Start u) origin = (p.owed ≡ []) × StartsUncalled mac w s u p.acted

-- a call ends with the answer of its act, and has served or missed the lines that it polled; a handler has served its line or missed it
abbrev pub MayAnswer : {Call : Type 0} → Origin Call → FrameHistory → (ℕ → Bool) → Answer → Type 0
MayAnswer (Called c) p missed a = (p.acted ≡ Some a) × (list_all (λ l. has_line p.served l || (missed l || has_line p.missed l)) p.polled ≡ true)
MayAnswer (Entered l) p missed a = (has_line p.served l || missed l ≡ true) × (a ≡ no_answer)

-- it is of this origin, with this past
pub data IsThisFrame {Call : Type 0} (origin : Origin Call) (p : FrameHistory) : Origin Call → FrameHistory → Type 0 where
  Is_this_frame : IsThisFrame origin p origin p
