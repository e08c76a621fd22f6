-- A step is judged right exactly where the frame may make it, and what is kept after it stands for the frame after it.
use Rattle.std.proofs.Common.{◌≡◌, ℕ, ◌+◌, ◌<◌, ◌≤◌, Bool, true, false, not, ◌&&◌, ◌||◌, List, length, Option, Some, None, refl, sym, ◌∙◌, ap, subst}
use Rattle.std.specs.Prelude.{bit_or, is_some}
use Rattle.std.specs.List.{list_any}
use Rattle.mcal_base.proofs.BitLaws.{has_bit-or}
use Rattle.mcal_base.specs.Bits.{has_bit}
use Rattle.mcal_base.specs.Reach.{CanApply}
use Rattle.mcal_base.specs.declared.answer.Answer.{Answer}
use Rattle.mcal_base.specs.declared.moves.Event.{Event}
use Rattle.mcal_base.specs.declared.moves.Event.TheVariants.{Act, Serve, Abort, Start}
use Rattle.mcal_base.specs.facts.Truths.{and_first, and_second}
use Rattle.mcal_base.specs.facts.Options.{some_is}
use Rattle.run_model.specs.declared.item.Stepped.{Stepped}
use Rattle.run_model.specs.Frame as frame
use Rattle.run_model.specs.Frame.{Origin, Called, Entered, Open, outcome_at, state_after, open_after}
use Rattle.run_model.specs.Legal as legal
use Rattle.run_model.specs.Legal.{EndRight, LeavesNone, MayEnd, StartsRight, WritesRight, has_met, is_left_waiting}
use Rattle.run_model.specs.Machine.{Told, no_answer}
use Rattle.run_model.specs.Moment.{Setting, Moment}
use Rattle.run_model.specs.World.{World}
use Rattle.audit_frames.specs.AccessRules as accesses
use Rattle.audit_frames.specs.AccessRules.{counter_of}
use Rattle.audit_frames.specs.ActRules as acts
use Rattle.audit_frames.specs.Decides.{Decides}
use Rattle.audit_frames.specs.EventRules as events
use Rattle.audit_frames.specs.FrameRules.{answer_after, answered, kept_after, may_end, may_make, may_move, stands_after}
use Rattle.audit_frames.specs.Judged.{Sound, Complete, Going}
use Rattle.audit_frames.specs.Kept.{Kept}
use Rattle.audit_frames.specs.LineRules as lines
use Rattle.audit_frames.specs.OwingRules as owing
use Rattle.audit_frames.specs.OwingRules.{is_empty}
use Rattle.audit_frames.specs.Parts.{EventHad, IsHad}
use Rattle.audit_frames.specs.StandsFor.{AccessesStand, ActStands, IsTask, LinesStand, PaceStands, StandsFor, kind_at, must_of}
use Rattle.audit_frames.specs.Told.{IsAround, answer_of, ended_of, step_of}
use Rattle.audit_frames.specs.declared.terms.Around.{Around}
use Rattle.audit_frames.specs.declared.terms.Task.{Task}
use Rattle.audit_frames.specs.declared.terms.Task.TheVariants.{Call, Line}
use Rattle.audit_frames.proofs.AccessLaws.{all_made, beside_act_is, beside_kept, channels_kept, committed_kept, high_kept, low_kept, lows_kept, made_kept, together}
use Rattle.audit_frames.proofs.ActLaws.{Owes, acted_kept, answer_kept, errors_are, halves, report_kept, reset_is, writes_are}
use Rattle.audit_frames.proofs.Deciding.{and_join, both, clear, itself, missing, three, valued, worded, yes}
use Rattle.audit_frames.proofs.EventLaws.{event_at, going, had, room, wait_open}
use Rattle.audit_frames.proofs.LineLaws.{ServesSmall, calls_left, has_served_kept, met_bits, own_left, polled_asked, polled_kept, served_kept}
use Rattle.audit_frames.proofs.MaskLaws.{bit_small, covering}
use Rattle.audit_frames.proofs.OwingLaws.{move_is, owed_kept, owes_none}

-- ---- what is kept after a step

module _ {State C : Type 0} (g : Setting State C) (m : Moment State C) (o : Open C) (s : Stepped) (k : Kept) (t : Told) (polls : List ℕ) (x : Around) (stands : StandsFor g k o) (told : IsAround g m o s k.terms.asked t polls x) (can : CanApply s.made) where
  lines_kept : ServesSmall s.event → LinesStand k.terms.asked (lines.lines_after k.lines k.terms.task s.event polls x.unready) (open_after g.machine m.world m.state o s.made s.received s.event)
  lines_kept small = record {
    polled = λ l. polled_kept g k.terms.asked m.world m.state k.terms.task o.origin k.lines.polled o.polled polls s.event l stands.begun.task (stands.lines.polled l) stands.begun.asked told.polled;
    served = λ l. served_kept k.lines.served o.served s.event l (stands.lines.served l) small;
    has_served = has_served_kept k.lines.has_served o.served s.event stands.lines.has_served;
    missed = λ l on. has_bit-or k.lines.missed x.unready l ∙ (ap (λ b. b || has_bit x.unready l) (stands.lines.missed l on) ∙ ap (λ b. o.missed l || b) (told.unready l on));
    asks = λ l. polled_asked g k.terms.asked m.world m.state k.terms.task o.origin o.polled s.event l stands.begun.task (stands.lines.asks l);
  }

  accesses_kept : AccessesStand g k.terms.task (accesses.accesses_after k.accesses k.terms.task s.made x) (open_after g.machine m.world m.state o s.made s.received s.event)
  accesses_kept = record {
    low_read = low_kept (counter_of k.terms.task) s.made o.reads k.accesses.low_read stands.accesses.low_read;
    high_read = high_kept (counter_of k.terms.task) s.made o.reads k.accesses.high_read stands.accesses.high_read;
    wrote = ap (λ b. b || frame.is_write s.made) stands.accesses.wrote;
    made = λ i lt. made_kept (kind_at (must_of g o.origin) i) o.writes s.made k.accesses.made x.settles i (stands.accesses.made i lt) (told.settles i lt);
    lows = λ p. lows_kept k.accesses.lows o.since s.made p can (stands.accesses.lows p);
    beside = beside_kept k.accesses.beside k.terms.task (legal.is_beside_act g.machine o.origin) o.since s.made (beside_act_is g k.terms.asked k.terms.task o.origin stands.begun.task) stands.accesses.beside;
    committed = λ c. committed_kept m.world k.accesses.committed o.committed s.made x.time c can stands.accesses.channels told.now stands.accesses.committed;
    channels = channels_kept k.accesses.committed s.made x.time stands.accesses.channels;
  }

  pace_kept : PaceStands (kept_after k (step_of s) t polls x).pace (open_after g.machine m.world m.state o s.made s.received s.event)
  pace_kept = record {
    inside = ap (λ b. frame.inside_after b s.made) stands.pace.inside;
    acts_since = ap (λ b. frame.acts_after b s.made s.event) stands.pace.acts_since;
    steps = ap (λ n. n + 1) stands.pace.steps;
    window = ap (λ b. frame.window_after b k.pace.window s.made) stands.pace.inside ∙ ap (λ n. frame.window_after o.inside n s.made) stands.pace.window;
    noted = refl;
  }

  pub kept : ServesSmall s.event → StandsFor g (kept_after k (step_of s) t polls x) (open_after g.machine m.world m.state o s.made s.received s.event)
  kept small = record {
    begun = record { task = stands.begun.task; tag = stands.begun.tag; steps = stands.begun.steps; window = stands.begun.window; asked = stands.begun.asked };
    lines = lines_kept small;
    accesses = accesses_kept;
    pace = pace_kept;
    acted = acted_kept g k.terms.asked k.terms.task o.origin k.pace.inside o.inside s.made k.acted o.acted_at s.event t (outcome_at g.machine m.world m.state o s.made s.received s.event) stands.pace.inside stands.begun.task told.told stands.acted;
    answer = ap (λ a. answer_after a s.event t.answer) stands.answer ∙ answer_kept o.acted s.event t (outcome_at g.machine m.world m.state o s.made s.received s.event) told.told;
    report = ap (λ r. frame.report_after r s.made) (report_kept g k.terms.asked k.terms.task o.origin k.report o.report s.event t (outcome_at g.machine m.world m.state o s.made s.received s.event) x.reported stands.begun.task told.told told.reported stands.report);
    owed = owed_kept k.owed o.owed s.made s.event t (outcome_at g.machine m.world m.state o s.made s.received s.event) told.told stands.owed;
  }

-- ---- what it has done stands, and where it ends in all

five : {a b c d e : Bool} {P Q R S T : Type 0} → Decides a P → Decides b Q → Decides c R → Decides d S → Decides e T → Decides (a && b && c && d && e) (P × Q × R × S × T)
five da db dc dd de = worded (λ h. (h.0.0, h.0.1, h.0.2, h.1, h.2)) (λ h. ((h.0, h.1, h.2), h.3, h.4)) (three (three da db dc) dd de)

-- the last part of a step in which the frame may end: what the frame has done, and the state after it
module _ {State C : Type 0} (g : Setting State C) (w : World) (s : State) (o : Open C) (k : Kept) (calm : ℕ) (stands : StandsFor g k o) (waits : (l : ℕ) → has_bit k.terms.asked l ≡ true → has_bit calm l ≡ not (g.machine.line_waits w s l)) where
  met : (l : ℕ) → has_bit k.terms.asked l ≡ true → has_bit (bit_or k.lines.served k.lines.missed) l ≡ has_met o l
  met l on = met_bits o k.lines.served k.lines.missed l (stands.lines.served l) (stands.lines.missed l on)

  acted_so : (answer : Answer) → (a : Option Answer) → a ≡ o.acted → Some answer ≡ a → Decides (is_some a) (o.acted ≡ Some answer)
  acted_so answer a same is = record { says = λ e. sym same ∙ sym is; shows = λ e. ap (λ y. is_some y) (sym is) }

  may_answer : (task : Task) (origin : Origin C) (answer : Answer) → IsTask g k.terms.asked task origin → Some answer ≡ answer_of task k.answer → Decides (answered task k.answer && lines.are_met k.lines task) (MayEnd origin o answer)
  may_answer (Call c) (Called d) answer is ends = both (acted_so answer k.answer stands.answer ends) (covering k.lines.polled (bit_or k.lines.served k.lines.missed) (has_met o) o.polled stands.lines.polled (λ l on. met l (stands.lines.asks l on)))
  may_answer (Line l) (Entered d) answer is ends =
      worded (λ h. (h.1, some_is answer no_answer ends)) (λ h. (tt, h.0))
      (both (yes {P = Unit {0}} tt) (valued (met l is.1) (subst (λ n. Decides (has_met o l) (has_met o n ≡ true)) is.0 (itself (has_met o l)))))
  may_answer (Call c) (Entered d) answer is ends = absurd is
  may_answer (Line l) (Called d) answer is ends = absurd is

  owes : (task : Task) (origin : Origin C) → IsTask g k.terms.asked task origin → AccessesStand g task k.accesses o → origin ≡ o.origin → Owes g origin (accesses.are_made k.accesses task) o.writes
  owes (Call c) (Called d) is a same = all_made (g.must d) o.writes c.duties k.accesses.made is.duties (subst (λ y. (i : ℕ) → i < length (must_of g y) → has_bit k.accesses.made i ≡ list_any (kind_at (must_of g y) i) o.writes) (sym same) a.made)
  owes (Line l) (Entered d) is a same = refl
  owes (Call c) (Entered d) is a same = absurd is
  owes (Line l) (Called d) is a same = absurd is

  left : (task : Task) (origin : Origin C) → IsTask g k.terms.asked task origin → Decides (lines.are_left k.lines task calm) (LeavesNone g.machine w s origin o.polled o.served)
  left (Call c) (Called d) is = calls_left g.machine w s o.polled o.served k.lines.polled k.lines.served calm stands.lines.polled stands.lines.served (λ l on. waits l (stands.lines.asks l on))
  left (Line l) (Entered d) is = subst (λ n. Decides (lines.are_left k.lines (Line l) calm) (is_left_waiting g.machine w s o.served n ≡ false)) is.0 (own_left g.machine w s o.served k.lines.served calm l (stands.lines.served l) (waits l is.1))
  left (Call c) (Entered d) is = absurd is
  left (Line l) (Called d) is = absurd is

  ends_so : (answer : Answer) → Some answer ≡ answer_of k.terms.task k.answer → Decides (may_end k calm) (EndRight o (Some answer) × WritesRight g o (Some answer) × StartsRight g.machine w s o (Some answer))
  ends_so answer is =
      three
      (five (may_answer k.terms.task o.origin answer stands.begun.task is)
      (owes_none k.owed o.owed stands.owed)
      (valued (ap (λ r. not (is_some r)) stands.report) (missing o.report))
      (valued (ap (λ b. not b) stands.pace.inside) (clear o.inside))
      (valued (ap (λ b. not b) stands.pace.noted) (clear o.noted)))
      (writes_are g k.terms.asked k.terms.task o.origin (counter_of k.terms.task) k.acted o.acted_at (accesses.are_made k.accesses k.terms.task) o.writes stands.begun.task stands.acted (owes k.terms.task o.origin stands.begun.task stands.accesses refl))
      (left k.terms.task o.origin stands.begun.task)

  ends_or_not : (ended : Option Answer) → ended ≡ ended_of k (is_some ended) → Decides (not (is_some ended) || may_end k calm) (EndRight o ended × WritesRight g o ended × StartsRight g.machine w s o ended)
  ends_or_not None is = yes (tt, tt, tt)
  ends_or_not (Some answer) is = ends_so answer is

  halves_stand : (task : Task) (origin : Origin C) → IsTask g k.terms.asked task origin → AccessesStand g task k.accesses o → ActStands (counter_of task) k.acted o.acted_at → Decides (acts.halves_right k.acted k.accesses.low_read k.accesses.high_read) (legal.HalvesRight (legal.halves_of g origin) o.reads o.acted_at)
  halves_stand (Call c) (Called d) is a act = subst (λ h. Decides (acts.halves_right k.acted k.accesses.low_read k.accesses.high_read) (legal.HalvesRight h o.reads o.acted_at)) (sym is.counter) (halves c.counter o.reads k.acted o.acted_at k.accesses.low_read k.accesses.high_read act a.low_read a.high_read)
  halves_stand (Line l) (Entered d) is a act = halves None o.reads k.acted o.acted_at k.accesses.low_read k.accesses.high_read act a.low_read a.high_read
  halves_stand (Call c) (Entered d) is a act = absurd is
  halves_stand (Line l) (Called d) is a act = absurd is

  pub after : (ended : Option Answer) → ended ≡ ended_of k (is_some ended)
      → Decides (stands_after k (is_some ended) calm) (legal.HalvesRight (legal.halves_of g o.origin) o.reads o.acted_at × legal.ErrorsRight o.wrote o.acted_at × (EndRight o ended × WritesRight g o ended × StartsRight g.machine w s o ended))
  after ended is =
      three
      (halves_stand k.terms.task o.origin stands.begun.task stands.accesses stands.acted)
      (valued (ap (λ b. acts.errors_right k.acted b) stands.accesses.wrote) (errors_are (counter_of k.terms.task) k.acted o.acted_at o.wrote stands.acted))
      (ends_or_not ended is)

  -- where it ends so, its answer is the one that is kept
  answer_is : (task : Task) (origin : Origin C) (answer : Answer) → IsTask g k.terms.asked task origin → MayEnd origin o answer → Some answer ≡ answer_of task k.answer
  answer_is (Call c) (Called d) answer is h = sym h.0 ∙ sym stands.answer
  answer_is (Line l) (Entered d) answer is h = ap (λ a. Some a) h.1
  answer_is (Call c) (Entered d) answer is h = absurd is
  answer_is (Line l) (Called d) answer is h = absurd is

  pub ended_is : (ended : Option Answer) → EndRight o ended → ended ≡ ended_of k (is_some ended)
  ended_is None h = refl
  ended_is (Some answer) h = answer_is k.terms.task o.origin answer stands.begun.task h.0

-- ---- before the step

module _ {State C : Type 0} (g : Setting State C) (m : Moment State C) (o : Open C) (s : Stepped) (k : Kept) (t : Told) (polls : List ℕ) (x : Around) (stands : StandsFor g k o) (told : IsAround g m o s k.terms.asked t polls x) where
  event_is : (e : Option Event) → Decides (events.may_have k.terms.task k.lines (is_some k.answer) (not (is_empty k.owed)) k.pace.inside polls e && events.stands_at e s.made s.value) (EventHad g m o s e)
  event_is None = yes tt
  event_is (Some e) = both (had g m.world m.state k.terms.asked k.lines k.answer k.owed k.pace.inside polls o k.terms.task o.origin e stands.begun.task stands.lines stands.answer stands.owed stands.pace.inside told.polled) (event_at e s.made s.value)

  together_is : Decides (accesses.are_together k.accesses k.terms.task k.pace.inside (k.pace.acts_since || frame.is_act s.event) s.made) (legal.WindowRight (legal.is_beside_act g.machine o.origin) o.inside o.since (o.acts_since || frame.is_act s.event) s.made)
  together_is =
      valued
      (ap (λ b. accesses.are_together k.accesses k.terms.task b (k.pace.acts_since || frame.is_act s.event) s.made) stands.pace.inside ∙ ap (λ b. accesses.are_together k.accesses k.terms.task o.inside (b || frame.is_act s.event) s.made) stands.pace.acts_since)
      (together k.accesses k.terms.task (legal.is_beside_act g.machine o.origin) o.inside (o.acts_since || frame.is_act s.event) o.since s.made (beside_act_is g k.terms.asked k.terms.task o.origin stands.begun.task) stands.accesses.lows stands.accesses.beside)

  moves_so : Decides (owing.move_right k.pace.inside k.owed (acts.report_by k.terms.task k.report s.event t.error x.reported) s.made) (legal.MoveRight o.inside o.owed (frame.report_by g.machine o.origin o.report s.event (outcome_at g.machine m.world m.state o s.made s.received s.event)) s.made)
  moves_so =
      valued
      (ap (λ b. owing.move_right b k.owed (acts.report_by k.terms.task k.report s.event t.error x.reported) s.made) stands.pace.inside)
      (move_is o.inside k.owed o.owed (acts.report_by k.terms.task k.report s.event t.error x.reported) (frame.report_by g.machine o.origin o.report s.event (outcome_at g.machine m.world m.state o s.made s.received s.event)) s.made stands.owed
      (report_kept g k.terms.asked k.terms.task o.origin k.report o.report s.event t (outcome_at g.machine m.world m.state o s.made s.received s.event) x.reported stands.begun.task told.told told.reported stands.report))

  move_all : Decides (may_move k (step_of s) t x.reported)
      (((frame.is_wait s.made ≡ true → o.inside ≡ false)
      × legal.WindowRight (legal.is_beside_act g.machine o.origin) o.inside o.since (o.acts_since || frame.is_act s.event) s.made
      × legal.MoveRight o.inside o.owed (frame.report_by g.machine o.origin o.report s.event (outcome_at g.machine m.world m.state o s.made s.received s.event)) s.made)
      × ((frame.resets_chip s.made ≡ frame.asks_reset g.machine o.origin s.event (outcome_at g.machine m.world m.state o s.made s.received s.event)) × (frame.resets_chip s.made ≡ true → s.ended ≡ None)))
  move_all =
      both
      (three (wait_open k.pace.inside o.inside s.made stands.pace.inside) together_is moves_so)
      (reset_is g k.terms.asked k.terms.task o.origin s.made s.event t (outcome_at g.machine m.world m.state o s.made s.received s.event) s.ended stands.begun.task told.told)

  pub before : Decides (may_make k (step_of s) t polls x)
      (EventHad g m o s s.event
      × (((frame.is_wait s.made ≡ true → o.inside ≡ false)
      × legal.WindowRight (legal.is_beside_act g.machine o.origin) o.inside o.since (o.acts_since || frame.is_act s.event) s.made
      × legal.MoveRight o.inside o.owed (frame.report_by g.machine o.origin o.report s.event (outcome_at g.machine m.world m.state o s.made s.received s.event)) s.made)
      × ((frame.resets_chip s.made ≡ frame.asks_reset g.machine o.origin s.event (outcome_at g.machine m.world m.state o s.made s.received s.event)) × (frame.resets_chip s.made ≡ true → s.ended ≡ None)))
      × ((o.steps + 1 ≤ g.steps_of o.origin) × (frame.window_after o.inside o.window s.made ≤ g.window_of o.origin)))
  before = three (event_is s.event) move_all (room k.pace k.terms o (g.steps_of o.origin) (g.window_of o.origin) s.made stands.pace stands.begun.steps stands.begun.window)

  -- a line that is served is one of those that are asked for
  had_small : (task : Task) (origin : Origin C) (l : ℕ) → IsTask g k.terms.asked task origin → IsHad g.machine m.world m.state o (Serve l) origin → l < 64
  had_small (Call c) (Called d) l is h = bit_small k.terms.asked l stands.begun.asked (is.polls m.world m.state l h.0.0)
  had_small (Line n) (Entered d) l is h = subst (λ y. y < 64) (is.0 ∙ sym h.0) (bit_small k.terms.asked n stands.begun.asked is.1)
  had_small (Call c) (Entered d) l is h = absurd is
  had_small (Line n) (Called d) l is h = absurd is

  pub small : (e : Option Event) → EventHad g m o s e → ServesSmall e
  small (Some (Serve l)) h = had_small k.terms.task o.origin l stands.begun.task h.0
  small (Some Act) h = tt
  small (Some (Abort u)) h = tt
  small (Some (Start u)) h = tt
  small None h = tt

-- ---- the step

module _ {State C : Type 0} (g : Setting State C) where
  pub sound : Sound g
  sound m o s k t polls x stands told can ended right =
      let k1 : Kept = kept_after k (step_of s) t polls x in
      let o1 : Open C = open_after g.machine m.world m.state o s.made s.received s.event in
      let b = (before g m o s k t polls x stands told).says (and_first (may_make k (step_of s) t polls x) (stands_after k1 (is_some s.ended) x.calm) right) in
      let stands1 : StandsFor g k1 o1 = kept g m o s k t polls x stands told can (small g m o s k t polls x stands told s.event b.0) in
      let a = (after g m.world (state_after g.machine m.world m.state o s.made s.received s.event) o1 k1 x.calm stands1 told.calm s.ended ended).says (and_second (may_make k (step_of s) t polls x) (stands_after k1 (is_some s.ended) x.calm) right) in
      record {
        right = record {
          event = b.0;
          waits_open = b.1.0.0;
          halves = a.0;
          together = b.1.0.1;
          errors = a.1;
          move = b.1.0.2;
          reset = b.1.1.0;
          stays = b.1.1.1;
          ends = a.2.0;
          writes = a.2.1;
          starts = a.2.2;
          steps = b.2.0;
          window = b.2.1;
        };
        stands = stands1;
      }

  pub complete : Complete g
  complete m o s k t polls x stands told can f =
      let k1 : Kept = kept_after k (step_of s) t polls x in
      let o1 : Open C = open_after g.machine m.world m.state o s.made s.received s.event in
      let stands1 : StandsFor g k1 o1 = kept g m o s k t polls x stands told can (small g m o s k t polls x stands told s.event f.event) in
      let ended : s.ended ≡ ended_of k1 (is_some s.ended) = ended_is g m.world (state_after g.machine m.world m.state o s.made s.received s.event) o1 k1 x.calm stands1 told.calm s.ended f.ends in (
        ended,
        and_join (may_make k (step_of s) t polls x) (stands_after k1 (is_some s.ended) x.calm)
            ((before g m o s k t polls x stands told).shows (f.event, ((f.waits_open, f.together, f.move), (f.reset, f.stays)), (f.steps, f.window)))
            ((after g m.world (state_after g.machine m.world m.state o s.made s.received s.event) o1 k1 x.calm stands1 told.calm s.ended ended).shows (f.halves, f.errors, (f.ends, f.writes, f.starts))),
      )

  pub goes : Going g
  goes o k stands = worded (λ h. record { steps = h.0; window = h.1 }) (λ h. (h.steps, h.window)) (going k.pace k.terms o (g.steps_of o.origin) (g.window_of o.origin) stands.pace stands.begun.steps stands.begun.window)
