-- Which steps a frame may make, by what is kept of it, and what is kept after one.
use Rattle.std.specs.Prelude.{ℕ, Bool, true, ◌&&◌, ◌||◌, not, List, [], ◌∷◌, Option, Some, None, is_some}
use Rattle.mcal_base.specs.declared.answer.Answer.{Answer}
use Rattle.mcal_base.specs.declared.moves.Event.{Event}
use Rattle.mcal_base.specs.declared.moves.Event.TheVariants.{Act, Serve, Abort, Start}
use Rattle.mcal_base.specs.declared.moves.Move.{Move}
use Rattle.run_model.specs.Frame.{is_act, report_after}
use Rattle.run_model.specs.Machine.{Told}
use Rattle.audit_frames.specs.AccessRules as accesses
use Rattle.audit_frames.specs.ActRules as acts
use Rattle.audit_frames.specs.EventRules as events
use Rattle.audit_frames.specs.Kept.{Kept}
use Rattle.audit_frames.specs.LineRules as lines
use Rattle.audit_frames.specs.OwingRules as owing
use Rattle.audit_frames.specs.OwingRules.{is_empty}
use Rattle.audit_frames.specs.PaceRules as pace
use Rattle.audit_frames.specs.declared.owing.Owing.{Owing}
use Rattle.audit_frames.specs.declared.terms.Around.{Around}
use Rattle.audit_frames.specs.declared.terms.Step.{Step}
use Rattle.audit_frames.specs.declared.terms.Task.{Task}
use Rattle.audit_frames.specs.declared.terms.Task.TheVariants.{Call, Line}
use Rattle.audit_frames.specs.declared.terms.Terms.{Terms}

-- a frame that has done nothing yet
abbrev pub fresh : Terms → Kept
fresh terms = record { terms = terms; lines = lines.lines_none; accesses = accesses.accesses_none; pace = pace.pace_none; acted = None; answer = None; report = None; owed = [] }

abbrev pub first_owed : List Owing → Option Owing
first_owed [] = None
first_owed (n ∷ ns) = Some n

-- when the frame last wrote the commit register of each pulse channel, with this move
abbrev pub committed_at : Kept → Move → (now : ℕ) → List (Option ℕ)
committed_at k made now = accesses.committed_after k.accesses.committed made now

abbrev pub is_going : Kept → Bool
is_going k = pace.is_going k.pace k.terms

-- ---- before a step

-- it may have the step's event, here
abbrev pub may_have_event : Kept → Step → (polls : List ℕ) → Bool
may_have_event k s polls = events.may_have k.terms.task k.lines (is_some k.answer) (not (is_empty k.owed)) k.pace.inside polls s.event && events.stands_at s.event s.made s.value

-- it may make the step's move, with what its event tells
abbrev pub may_move : Kept → Step → Told → (reported : Option Bool) → Bool
may_move k s t reported =
    events.waits_open k.pace.inside s.made
    && accesses.are_together k.accesses k.terms.task k.pace.inside (k.pace.acts_since || is_act s.event) s.made
    && owing.move_right k.pace.inside k.owed (acts.report_by k.terms.task k.report s.event t.error reported) s.made
    && acts.reset_right k.terms.task s.made s.event t.error s.ends

-- there is room for it
abbrev pub has_room : Kept → Step → Bool
has_room k s = pace.has_room k.pace k.terms s.made

abbrev pub may_make : Kept → Step → Told → (polls : List ℕ) → Around → Bool
may_make k s t polls x = may_have_event k s polls && may_move k s t x.reported && has_room k s

-- ---- after it

abbrev pub answer_after : Option Answer → Option Event → Answer → Option Answer
answer_after a (Some Act) answer = Some answer
answer_after a (Some (Serve l)) answer = a
answer_after a (Some (Abort u)) answer = a
answer_after a (Some (Start u)) answer = a
answer_after a None answer = a

abbrev pub kept_after : Kept → Step → Told → (polls : List ℕ) → Around → Kept
kept_after k s t polls x = record {
  terms = k.terms;
  lines = lines.lines_after k.lines k.terms.task s.event polls x.unready;
  accesses = accesses.accesses_after k.accesses k.terms.task s.made x;
  pace = pace.pace_after k.pace s.made s.event;
  acted = acts.acted_after k.terms.task k.pace.inside s.made k.acted s.event t.error;
  answer = answer_after k.answer s.event t.answer;
  report = report_after (acts.report_by k.terms.task k.report s.event t.error x.reported) s.made;
  owed = owing.owed_after k.owed s.made s.event t.notices;
}

-- its call has acted, or it is a handler's
abbrev pub answered : Task → Option Answer → Bool
answered (Call c) a = is_some a
answered (Line l) a = true

abbrev pub has_answer : Kept → Bool
has_answer k = answered k.terms.task k.answer

-- it may end
abbrev pub may_end : Kept → (calm : ℕ) → Bool
may_end k calm =
    has_answer k
    && lines.are_met k.lines k.terms.task
    && is_empty k.owed
    && not (is_some k.report)
    && not k.pace.inside
    && not k.pace.noted
    && acts.writes_right k.acted (accesses.are_made k.accesses k.terms.task)
    && lines.are_left k.lines k.terms.task calm

-- what it has done stands so far, and where it ends, in all
abbrev pub stands_after : Kept → (ends : Bool) → (calm : ℕ) → Bool
stands_after k ends calm =
    acts.halves_right k.acted k.accesses.low_read k.accesses.high_read
    && acts.errors_right k.acted k.accesses.wrote
    && (not ends || may_end k calm)

-- ---- the step

abbrev pub step_right : Kept → Step → Told → (polls : List ℕ) → Around → Bool
step_right k s t polls x = may_make k s t polls x && stands_after (kept_after k s t polls x) s.ends x.calm
