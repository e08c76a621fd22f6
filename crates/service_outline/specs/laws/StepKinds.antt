-- The kinds of step that a frame makes, for any driver. What is left is the relation after the step.
-- Used by Steps, ShortServices, Owing, SweepRight, pwm_driver: Parts and 1 more.
use Rattle.std.proofs.Common.{◌≡◌, ℕ, ◌+◌, ◌<◌, ◌≤◌, Bool, true, false, ◌&&◌, ◌||◌, not, List, [], ◌∷◌, Option, Some, None, refl, sym, ◌∙◌, ap, subst, arith}
use Rattle.std.specs.Prelude.{IsSome, is_some, ◌==◌}
use Rattle.std.specs.List.{list_any, list_all}
use Rattle.std.proofs.lemmas.Bool.Decides.{nat_tests}
use Rattle.std.proofs.lemmas.Bool.{and_from}
use Rattle.mcal_base.specs.facts.Truths.{and_first, and_second}
use Rattle.chip_model.specs.Chip.{Chip}
use Rattle.mcal_base.specs.declared.answer.Answer.{Answer}
use Rattle.mcal_base.specs.declared.moves.DevError.{DevError}
use Rattle.mcal_base.specs.declared.moves.Event.{Event}
use Rattle.mcal_base.specs.declared.moves.Event.TheVariants.{Act, Serve, Abort, Start}
use Rattle.mcal_base.specs.declared.moves.Move.{Move}
use Rattle.mcal_base.specs.declared.moves.Move.TheVariants.{Read, Write, Load, Store, Mask, Unmask, Note, Report}
use Rattle.mcal_base.specs.declared.notice.Notice.{Notice}
use Rattle.mcal_base.specs.declared.register.Reg.TheVariants.{SerialData}
use Rattle.mcal_base.specs.declared.routine.Taken.{Taken}
use Rattle.run_model.specs.World.{World}
use Rattle.run_model.specs.Machine.{Told, Begun, Outcome, Machine, no_answer, outcome_with}
use Rattle.run_model.specs.Frame.{Origin, Called, Entered, Owing, Open, brought_by, happening_of, outcome_of, state_by, begun_by, acted_by, polled_by, committed_after, served_by, owed_by, owed_after, ActedAt, acted_at_by, reads_after, is_write, writes_after, report_by, report_after, inside_after, since_after, is_act, acts_after, window_after, is_note, missed_after, is_shared, resets_chip, begins_word, is_reset_service, asks_reset}
use Rattle.run_model.specs.Moment.{Setting}
use Rattle.run_model.specs.Legal.{has_line, MayEnd, ReceivedRight, MoveRight, ShowsRight, StandsAt, SendsRight, IsOwnEvent, is_beside_act, WindowRight, HalvesRight, halves_of, ErrorsRight, HasMade, LeavesNone}
use Rattle.step_runner.specs.Driver.{Driver, KeepsStep, RoomRight, stepped}
use Rattle.service_outline.specs.Short.{goes, does, ends}
use Rattle.service_outline.specs.Outline.{form}
use Rattle.service_outline.specs.Acts.{LeavesRight}
use Rattle.service_outline.specs.FrameHistory.{FrameHistory, having, past_wrote, past_after, MayDo}

-- what the frame has done after a step at which the machine gave this
abbrev pub open_with : {State Call : Type 0} → Machine State Call → World → State → Open Call → Move → Option Event → Option (Outcome State) → Open Call
open_with mac w s o made e out = record {
  origin = o.origin;
  tag = o.tag;
  acted = acted_by o.acted e out;
  acted_at = acted_at_by o.origin o.inside made o.acted_at e out;
  polled = polled_by mac w s o.origin o.polled e;
  served = served_by o.served e;
  missed = missed_after mac w s o.missed;
  committed = committed_after w o.committed made;
  reads = reads_after o.reads made;
  wrote = o.wrote || is_write made;
  writes = writes_after o.writes made;
  owed = owed_after (owed_by o.owed e out) made;
  report = report_after (report_by mac o.origin o.report e out) made;
  inside = inside_after o.inside made;
  since = since_after o.since made;
  acts_since = acts_after o.acts_since made e;
  steps = o.steps + 1;
  window = window_after o.inside o.window made;
  noted = is_note made;
}

-- the same, of a move that names a register or a word
abbrev pub open_plain : {State Call : Type 0} → Machine State Call → World → State → Open Call → Move → Option Event → Option (Outcome State) → Open Call
open_plain mac w s o made e out = record {
  origin = o.origin;
  tag = o.tag;
  acted = acted_by o.acted e out;
  acted_at = acted_at_by o.origin o.inside made o.acted_at e out;
  polled = polled_by mac w s o.origin o.polled e;
  served = served_by o.served e;
  missed = missed_after mac w s o.missed;
  committed = committed_after w o.committed made;
  reads = reads_after o.reads made;
  wrote = o.wrote || is_write made;
  writes = writes_after o.writes made;
  owed = owed_by o.owed e out;
  report = report_by mac o.origin o.report e out;
  inside = o.inside;
  since = since_after o.since made;
  acts_since = acts_after o.acts_since made e;
  steps = o.steps + 1;
  window = window_after o.inside o.window made;
  noted = is_note made;
}

-- the level, misses, commits, reads, writes, window and counts after a step without an event
abbrev pub rest_after : {State Call : Type 0} → Machine State Call → World → State → Open Call → Move → Open Call
rest_after mac w s o made = record o { missed = missed_after mac w s o.missed; committed = committed_after w o.committed made; reads = reads_after o.reads made; wrote = o.wrote || is_write made; writes = writes_after o.writes made; since = since_after o.since made; acts_since = acts_after o.acts_since made None; steps = o.steps + 1; window = window_after o.inside o.window made; noted = is_note made }

-- where a frame acted, after an event that told this
abbrev pub acted_then : {Call : Type 0} → Origin Call → Move → Event → Told → Option ActedAt → Option ActedAt
acted_then (Called c) made Act t a = Some (record { made = made; inside = true; error = t.error })
acted_then (Called c) made (Serve k) t a = a
acted_then (Called c) made (Abort u) t a = a
acted_then (Called c) made (Start u) t a = a
acted_then (Entered l) made e t a = a

acted_same : {State Call : Type 0} (origin : Origin Call) (made : Move) (e : Event) (s : State) (t : Told) (b : Option Begun) (a : Option ActedAt) → acted_at_by origin true made a (Some e) (Some (outcome_with s t b)) ≡ acted_then origin made e t a
acted_same (Called c) made Act s t b a = refl
acted_same (Called c) made (Serve k) s t b a = refl
acted_same (Called c) made (Abort u) s t b a = refl
acted_same (Called c) made (Start u) s t b a = refl
acted_same (Entered l) made Act s t b a = refl
acted_same (Entered l) made (Serve k) s t b a = refl
acted_same (Entered l) made (Abort u) s t b a = refl
acted_same (Entered l) made (Start u) s t b a = refl

-- the same after an event
abbrev pub rest_acted : {State Call : Type 0} → Machine State Call → World → State → Open Call → Move → Origin Call → Event → Told → Open Call
rest_acted mac w s o made origin e t = record (rest_after mac w s o made) { acted_at = acted_then origin made e t o.acted_at; acts_since = acts_after o.acts_since made (Some e) }

pub plainly : {State Call : Type 0} (mac : Machine State Call) (w : World) (s : State) (o : Open Call) (made : Move) (e : Option Event) (out : Option (Outcome State)) → is_shared made ≡ false → open_with mac w s o made e out ≡ open_plain mac w s o made e out
plainly mac w s o (Read r) e out p = refl
plainly mac w s o (Write r v) e out p = refl
plainly mac w s o (Load n) e out p = refl
plainly mac w s o (Store n v) e out p = refl
plainly mac w s o Mask e out p = absurd (cc)
plainly mac w s o Unmask e out p = absurd (cc)
plainly mac w s o (Note j) e out p = absurd (cc)
plainly mac w s o (Report j) e out p = absurd (cc)

pub move_plain : (inside : Bool) (owed : List Owing) (report : Option DevError) (made : Move) → is_shared made ≡ false → MoveRight inside owed report made
move_plain inside owed report (Read r) p = tt
move_plain inside owed report (Write r v) p = tt
move_plain inside owed report (Load n) p = tt
move_plain inside owed report (Store n v) p = tt
move_plain inside owed report Mask p = absurd (cc)
move_plain inside owed report Unmask p = absurd (cc)
move_plain inside owed report (Note j) p = absurd (cc)
move_plain inside owed report (Report j) p = absurd (cc)

-- a move that begins no serial word sends none
pub silent_sends : (chip : Chip) (made : Move) → begins_word made ≡ false → SendsRight chip None made
silent_sends chip (Write (SerialData u) v) e = absurd (cc)
silent_sends chip _ e = tt

-- and no word comes in at it
pub silent_received : (chip : Chip) (w : World) (made : Move) (received : ℕ) → begins_word made ≡ false → ReceivedRight chip w made received → received ≡ 0
silent_received chip w (Write (SerialData u) v) received e h = absurd (cc)
silent_received chip w _ received e h = h

pub shows_plain : {State Call : Type 0} (g : Setting State Call) (chip : Chip) (s : State) (origin : Origin Call) (owed : List Owing) (made : Move) → is_shared made ≡ false → ShowsRight g chip s origin owed made
shows_plain g chip s origin owed (Read r) p = tt
shows_plain g chip s origin owed (Write r v) p = tt
shows_plain g chip s origin owed (Load n) p = tt
shows_plain g chip s origin owed (Store n v) p = tt
shows_plain g chip s origin owed Mask p = absurd (cc)
shows_plain g chip s origin owed Unmask p = absurd (cc)
shows_plain g chip s origin owed (Note j) p = absurd (cc)
shows_plain g chip s origin owed (Report j) p = absurd (cc)

pub room_plain : (bound : ℕ) (inside : Bool) (before later : ℕ) (made : Move) → is_shared made ≡ false → (inside ≡ true → later < before) → RoomRight bound inside before later made
room_plain bound inside before later (Read r) p h = h
room_plain bound inside before later (Write r v) p h = h
room_plain bound inside before later (Load n) p h = h
room_plain bound inside before later (Store n v) p h = h
room_plain bound inside before later Mask p h = absurd (cc)
room_plain bound inside before later Unmask p h = absurd (cc)
room_plain bound inside before later (Note j) p h = absurd (cc)
room_plain bound inside before later (Report j) p h = absurd (cc)

pub or_true : (a : Bool) {b : Bool} → b ≡ true → a || b ≡ true
or_true true e = refl
or_true false e = e

-- a frame by its fields
pub form_is : {Call : Type 0} (o : Open Call) (owed : List Owing) (report : Option DevError) (inside : Bool) → o.owed ≡ owed → o.report ≡ report → o.inside ≡ inside → o ≡ form o o.origin o.acted o.served owed report inside
form_is o owed report inside e f g =
    ap (λ x. form o o.origin o.acted o.served x o.report o.inside) e
    ∙ (ap (λ x. form o o.origin o.acted o.served owed x o.inside) f
    ∙ ap (λ x. form o o.origin o.acted o.served owed report x) g)

more_missed : (a x b : Bool) → a || x ≡ true → a || (x || b) ≡ true
more_missed true x b e = refl
more_missed false true b e = refl
more_missed false false b e = absurd (cc)

-- lines that were met have been met later on
all_more : (served : List ℕ) (missed ready : ℕ → Bool) (ls : List ℕ) → list_all (λ l. has_line served l || missed l) ls ≡ true → list_all (λ l. has_line served l || (missed l || not (ready l))) ls ≡ true
all_more served missed ready [] h = refl
all_more served missed ready (l ∷ ls) h =
    let before = list_all (λ l. has_line served l || missed l) ls in
    and_from (has_line served l || (missed l || not (ready l))) (list_all (λ l. has_line served l || (missed l || not (ready l))) ls)
    (more_missed (has_line served l) (missed l) (not (ready l)) (and_first (has_line served l || missed l) before h))
    (all_more served missed ready ls (and_second (has_line served l || missed l) before h))

-- a call of a service that asks for no reset asks for none
pub asks_no : {State Call : Type 0} (mac : Machine State Call) (c : Call) (e : Option Event) (out : Option (Outcome State)) → is_reset_service (mac.service_of c) ≡ false → asks_reset mac (Called c) e out ≡ false
asks_no mac c None out h = refl
asks_no mac c (Some Act) None h = refl
asks_no mac c (Some Act) (Some out) h = ap (λ b. b && not (is_some out.told.error)) h
asks_no mac c (Some (Serve k)) out h = refl
asks_no mac c (Some (Abort u)) out h = refl
asks_no mac c (Some (Start u)) out h = refl

-- a frame that may end may do so later
pub may_more : {State Call : Type 0} (mac : Machine State Call) (w : World) (s : State) (o : Open Call) (made : Move) (origin : Origin Call) (a : Answer) → MayEnd origin o a → MayEnd origin (rest_after mac w s o made) a
may_more mac w s o made (Called c) a h = (h.0, all_more o.served o.missed (mac.ready w s) o.polled h.1)
may_more mac w s o made (Entered l) a h = (more_missed (has_line o.served l) (o.missed l) (not (mac.ready w s l)) h.0, h.1)

pub same_line : (l : ℕ) → list_any (λ k. k == l) (l ∷ []) ≡ true
same_line l = grind (arith, nat_tests)

-- a handler that has served may end
pub served_ends : {Call : Type 0} (l : ℕ) (o : Open Call) (a : Answer) → o.served ≡ l ∷ [] → a ≡ no_answer → MayEnd {Call = Call} (Entered l) o a
served_ends l o a e i = (ap (λ x. x || o.missed l) (ap (λ x. list_any (λ k. k == l) x) e ∙ same_line l), i)

module _ {State Call Frame : Type 0} (d : Driver State Call Frame) (chip : Chip) (w : World) (s : State) (received : ℕ) (f later : Frame) (Kept : State → Open Call → Type 0) where
  abbrev pub Keeps : Open Call → Move → ℕ → Taken → Type 0
  Keeps o made value taken = KeepsStep d (record { chip = chip; world = w; state = s; opens = []; steps = 0 }) f o later (stepped made value received taken) Kept

  -- a plain move with no event
  pub plain_step : (r : Open Call) (origin : Origin Call) (acted : Option Answer) (served : List ℕ) (owed : List Owing) (report : Option DevError) (inside : Bool) (made : Move) (value : ℕ) → is_shared made ≡ false → resets_chip made ≡ false → begins_word made ≡ false → d.setting.may origin made ≡ true → d.fuel later < d.fuel f → (inside ≡ true → d.room later < d.room f) → LeavesRight d.setting origin (reads_after r.reads made) (r.wrote || is_write made) r.acted_at → WindowRight (is_beside_act d.setting.machine origin) inside r.since (r.acts_since || false) made → Kept s (form (rest_after d.setting.machine w s (form r origin acted served owed report inside) made) origin acted served owed report inside) → Keeps (form r origin acted served owed report inside) made value goes
  plain_step r (Called c) acted served owed report inside made value p still silent own fuel room leaves together k = record {
    event = tt;
    sends = silent_sends chip made silent;
    halves = leaves.0;
    errors = leaves.1;
    together = together;
    shows = shows_plain d.setting chip s _ owed made p;
    stays = λ e. refl;
    move = move_plain inside owed report made p;
    ends = tt;
    writes = tt;
    starts = tt;
    own = or_true (is_shared made) own;
    reset = still;
    fuel = fuel;
    room = room_plain (d.setting.window_of (Called c)) inside (d.room f) (d.room later) made p room;
    kept = subst (λ x. Kept s x) (sym (plainly d.setting.machine w s (form r (Called c) acted served owed report inside) made None None p)) k;
  }
  plain_step r (Entered l) acted served owed report inside made value p still silent own fuel room leaves together k = record {
    event = tt;
    sends = silent_sends chip made silent;
    halves = leaves.0;
    errors = leaves.1;
    together = together;
    shows = shows_plain d.setting chip s _ owed made p;
    stays = λ e. refl;
    move = move_plain inside owed report made p;
    ends = tt;
    writes = tt;
    starts = tt;
    own = or_true (is_shared made) own;
    reset = still;
    fuel = fuel;
    room = room_plain (d.setting.window_of (Entered l)) inside (d.room f) (d.room later) made p room;
    kept = subst (λ x. Kept s x) (sym (plainly d.setting.machine w s (form r (Entered l) acted served owed report inside) made None None p)) k;
  }

  -- a plain move with the mask open, the last step of its frame
  pub last_step : (r : Open Call) (origin : Origin Call) (acted : Option Answer) (served : List ℕ) (word value : ℕ) (a : Answer) → d.setting.may origin (Load word) ≡ true → MayEnd origin (form r origin acted served [] None false) a → 1 ≤ d.fuel f → LeavesRight d.setting origin (reads_after r.reads (Load word)) (r.wrote || is_write (Load word)) r.acted_at → HasMade d.setting origin r.writes r.acted_at → LeavesNone d.setting.machine w s origin r.polled served → Kept s (form (rest_after d.setting.machine w s (form r origin acted served [] None false) (Load word)) origin acted served [] None false) → Keeps (form r origin acted served [] None false) (Load word) value (ends a)
  last_step r (Called c) acted served word value a own m fuel leaves paid idle k = record {
    event = tt;
    sends = tt;
    halves = leaves.0;
    errors = leaves.1;
    together = tt;
    shows = tt;
    stays = λ e. absurd (cc);
    move = tt;
    ends = (may_more d.setting.machine w s (form r (Called c) acted served [] None false) (Load word) (Called c) a m, refl, refl, refl, refl);
    writes = paid;
    starts = idle;
    own = own;
    reset = refl;
    fuel = fuel;
    room = λ e. absurd (cc);
    kept = k;
  }
  last_step r (Entered l) acted served word value a own m fuel leaves paid idle k = record {
    event = tt;
    sends = tt;
    halves = leaves.0;
    errors = leaves.1;
    together = tt;
    shows = tt;
    stays = λ e. absurd (cc);
    move = tt;
    ends = (may_more d.setting.machine w s (form r (Entered l) acted served [] None false) (Load word) (Entered l) a m, refl, refl, refl, refl);
    writes = paid;
    starts = idle;
    own = own;
    reset = refl;
    fuel = fuel;
    room = λ e. absurd (cc);
    kept = k;
  }

  -- the mask is closed
  pub mask_step : (r : Open Call) (origin : Origin Call) (acted : Option Answer) (served : List ℕ) (owed : List Owing) (report : Option DevError) (value : ℕ) → d.fuel later < d.fuel f → 1 + d.room later ≤ d.setting.window_of origin → LeavesRight d.setting origin (reads_after r.reads Mask) (r.wrote || is_write Mask) r.acted_at → Kept s (form (rest_after d.setting.machine w s (form r origin acted served owed report false) Mask) origin acted served owed report true) → Keeps (form r origin acted served owed report false) Mask value goes
  mask_step r (Called c) acted served owed report value fuel room leaves k = record { event = tt; sends = tt; halves = leaves.0; errors = leaves.1; together = tt; shows = tt; stays = λ e. refl; move = refl; ends = tt; writes = tt; starts = tt; own = refl; reset = refl; fuel = fuel; room = room; kept = k }
  mask_step r (Entered l) acted served owed report value fuel room leaves k = record { event = tt; sends = tt; halves = leaves.0; errors = leaves.1; together = tt; shows = tt; stays = λ e. refl; move = refl; ends = tt; writes = tt; starts = tt; own = refl; reset = refl; fuel = fuel; room = room; kept = k }

  -- the mask is opened, and the frame goes on
  pub unmask_step : (r : Open Call) (origin : Origin Call) (acted : Option Answer) (served : List ℕ) (owed : List Owing) (report : Option DevError) (value : ℕ) → d.fuel later < d.fuel f → 1 ≤ d.room f → LeavesRight d.setting origin (reads_after r.reads Unmask) (r.wrote || is_write Unmask) r.acted_at → WindowRight (is_beside_act d.setting.machine origin) true r.since (r.acts_since || false) Unmask → Kept s (form (rest_after d.setting.machine w s (form r origin acted served owed report true) Unmask) origin acted served owed report false) → Keeps (form r origin acted served owed report true) Unmask value goes
  unmask_step r (Called c) acted served owed report value fuel room leaves together k = record { event = tt; sends = tt; halves = leaves.0; errors = leaves.1; together = together; shows = tt; stays = λ e. refl; move = refl; ends = tt; writes = tt; starts = tt; own = refl; reset = refl; fuel = fuel; room = room; kept = k }
  unmask_step r (Entered l) acted served owed report value fuel room leaves together k = record { event = tt; sends = tt; halves = leaves.0; errors = leaves.1; together = together; shows = tt; stays = λ e. refl; move = refl; ends = tt; writes = tt; starts = tt; own = refl; reset = refl; fuel = fuel; room = room; kept = k }

  -- the mask is opened, and the frame ends
  pub leave_step : (r : Open Call) (origin : Origin Call) (acted : Option Answer) (served : List ℕ) (value : ℕ) (a : Answer) → MayEnd origin (rest_after d.setting.machine w s (form r origin acted served [] None true) Unmask) a → 1 ≤ d.fuel f → 1 ≤ d.room f → LeavesRight d.setting origin (reads_after r.reads Unmask) (r.wrote || is_write Unmask) r.acted_at → HasMade d.setting origin r.writes r.acted_at → LeavesNone d.setting.machine w s origin r.polled served → WindowRight (is_beside_act d.setting.machine origin) true r.since (r.acts_since || false) Unmask → Kept s (form (rest_after d.setting.machine w s (form r origin acted served [] None true) Unmask) origin acted served [] None false) → Keeps (form r origin acted served [] None true) Unmask value (ends a)
  leave_step r (Called c) acted served value a m fuel room leaves paid idle together k = record { event = tt; sends = tt; halves = leaves.0; errors = leaves.1; together = together; shows = tt; stays = λ e. absurd (cc); move = refl; ends = (m, refl, refl, refl, refl); writes = paid; starts = idle; own = refl; reset = refl; fuel = fuel; room = room; kept = k }
  leave_step r (Entered l) acted served value a m fuel room leaves paid idle together k = record { event = tt; sends = tt; halves = leaves.0; errors = leaves.1; together = together; shows = tt; stays = λ e. absurd (cc); move = refl; ends = (m, refl, refl, refl, refl); writes = paid; starts = idle; own = refl; reset = refl; fuel = fuel; room = room; kept = k }

  -- a report, the last step of its frame
  pub report_step : (r : Open Call) (origin : Origin Call) (acted : Option Answer) (served : List ℕ) (value : ℕ) (a : Answer) (e : DevError) → MayEnd origin (form r origin acted served [] (Some e) false) a → 1 ≤ d.fuel f → LeavesRight d.setting origin (reads_after r.reads (Report e)) (r.wrote || is_write (Report e)) r.acted_at → HasMade d.setting origin r.writes r.acted_at → LeavesNone d.setting.machine w s origin r.polled served → Kept s (form (rest_after d.setting.machine w s (form r origin acted served [] (Some e) false) (Report e)) origin acted served [] None false) → Keeps (form r origin acted served [] (Some e) false) (Report e) value (ends a)
  report_step r (Called c) acted served value a x m fuel leaves paid idle k = record { event = tt; sends = tt; halves = leaves.0; errors = leaves.1; together = tt; shows = tt; stays = λ e. absurd (cc); move = refl; ends = (may_more d.setting.machine w s (form r (Called c) acted served [] (Some x) false) (Report x) (Called c) a m, refl, refl, refl, refl); writes = paid; starts = idle; own = refl; reset = refl; fuel = fuel; room = λ e. absurd (cc); kept = k }
  report_step r (Entered l) acted served value a x m fuel leaves paid idle k = record { event = tt; sends = tt; halves = leaves.0; errors = leaves.1; together = tt; shows = tt; stays = λ e. absurd (cc); move = refl; ends = (may_more d.setting.machine w s (form r (Entered l) acted served [] (Some x) false) (Report x) (Entered l) a m, refl, refl, refl, refl); writes = paid; starts = idle; own = refl; reset = refl; fuel = fuel; room = λ e. absurd (cc); kept = k }

  -- a notice
  pub note_step : (r : Open Call) (origin : Origin Call) (acted : Option Answer) (served : List ℕ) (report : Option DevError) (n : Notice) (by : Bool) (ns : List Owing) (value : ℕ) → d.fuel later < d.fuel f → (by ≡ true → d.setting.shows origin n chip s) → LeavesRight d.setting origin (reads_after r.reads (Note n)) (r.wrote || is_write (Note n)) r.acted_at → Kept s (form (rest_after d.setting.machine w s (form r origin acted served (record { notice = n; served = by } ∷ ns) report false) (Note n)) origin acted served ns report false) → Keeps (form r origin acted served (record { notice = n; served = by } ∷ ns) report false) (Note n) value goes
  note_step r (Called c) acted served report n by ns value fuel shown leaves k = record { event = tt; sends = tt; halves = leaves.0; errors = leaves.1; together = tt; shows = shown; stays = λ e. refl; move = (refl, refl); ends = tt; writes = tt; starts = tt; own = refl; reset = refl; fuel = fuel; room = λ e. absurd (cc); kept = k }
  note_step r (Entered l) acted served report n by ns value fuel shown leaves k = record { event = tt; sends = tt; halves = leaves.0; errors = leaves.1; together = tt; shows = shown; stays = λ e. refl; move = (refl, refl); ends = tt; writes = tt; starts = tt; own = refl; reset = refl; fuel = fuel; room = λ e. absurd (cc); kept = k }

  own_event : (r : Open Call) (p : FrameHistory) (e : Event) (origin : Origin Call) → MayDo d.setting.machine w s p e origin → IsOwnEvent d.setting.machine w s (having r origin p true) e origin
  own_event r p Act (Called c) h = h
  own_event r p Act (Entered l) h = h
  own_event r p (Serve k) (Called c) h = (h.0, h.1, refl)
  own_event r p (Serve k) (Entered l) h = (h.0, h.1, refl)
  own_event r p (Abort u) origin h = h
  own_event r p (Start u) origin h = h

  -- what the frame has done after an event
  had : (r : Open Call) (p : FrameHistory) (made : Move) (e : Event) (origin : Origin Call) (s1 : State) (t : Told) (b : Option Begun) → MayDo d.setting.machine w s p e origin → open_plain d.setting.machine w s (having r origin p true) made (Some e) (Some (outcome_with s1 t b)) ≡ having (rest_acted d.setting.machine w s (having r origin p true) made origin e t) origin (past_after d.setting.machine w s origin e t (past_wrote w made p)) true
  had r p made Act (Called c) s1 t b may = refl
  had r p made Act (Entered l) s1 t b may = absurd may
  had r p made (Serve k) (Called c) s1 t b may = refl
  had r p made (Serve k) (Entered l) s1 t b may = refl
  had r p made (Abort u) (Called c) s1 t b may = refl
  had r p made (Abort u) (Entered l) s1 t b may = refl
  had r p made (Start u) (Called c) s1 t b may = refl
  had r p made (Start u) (Entered l) s1 t b may = refl

  -- an event, at a plain move in a window
  pub event_step : (r : Open Call) (origin : Origin Call) (p : FrameHistory) (made : Move) (value : ℕ) (e : Event) (s1 : State) (t : Told) (b : Option Begun) → is_shared made ≡ false → resets_chip made ≡ asks_reset d.setting.machine origin (Some e) (Some (outcome_with s1 t b)) → d.setting.may origin made ≡ true → d.fuel later < d.fuel f → d.room later < d.room f → MayDo d.setting.machine w s p e origin → StandsAt e made value → outcome_of d.setting.machine w s (happening_of origin (brought_by w p.committed made received) e) ≡ Some (outcome_with s1 t b) → SendsRight chip b made → LeavesRight d.setting origin (reads_after r.reads made) (r.wrote || is_write made) (acted_then origin made e t r.acted_at) → WindowRight (is_beside_act d.setting.machine origin) true r.since (r.acts_since || is_act (Some e)) made → Kept s1 (having (rest_acted d.setting.machine w s (having r origin p true) made origin e t) origin (past_after d.setting.machine w s origin e t (past_wrote w made p)) true) → Keeps (having r origin p true) made value (does (Some e))
  event_step r origin p made value e s1 t b plain reset own fuel room may stands is sends leaves together k =
      let mac = d.setting.machine in
      let o = having r origin p true in
      let out = outcome_of mac w s (happening_of origin (brought_by w p.committed made received) e) in
      record {
        event = (own_event r p e origin may, stands, subst (λ x. IsSome x) (sym is) refl);
        sends = subst (λ x. SendsRight chip (begun_by x) made) (sym is) sends;
        halves = subst (λ x. HalvesRight (halves_of d.setting origin) (reads_after r.reads made) (acted_at_by origin true made r.acted_at (Some e) x)) (sym is) (subst (λ x. HalvesRight (halves_of d.setting origin) (reads_after r.reads made) x) (sym (acted_same origin made e s1 t b r.acted_at)) leaves.0);
        errors = subst (λ x. ErrorsRight (r.wrote || is_write made) (acted_at_by origin true made r.acted_at (Some e) x)) (sym is) (subst (λ x. ErrorsRight (r.wrote || is_write made) x) (sym (acted_same origin made e s1 t b r.acted_at)) leaves.1);
        together = together;
        shows = shows_plain d.setting chip s origin p.owed made plain;
        stays = λ i. refl;
        move = move_plain true p.owed (report_by mac origin p.report (Some e) out) made plain;
        ends = tt;
        writes = tt;
        starts = tt;
        own = or_true (is_shared made) own;
        reset = subst (λ x. resets_chip made ≡ asks_reset mac origin (Some e) x) (sym is) reset;
        fuel = fuel;
        room = room_plain (d.setting.window_of origin) true (d.room f) (d.room later) made plain (λ e. room);
        kept = subst (λ x. Kept (state_by s x) (open_with mac w s o made (Some e) x)) (sym is) (subst (λ x. Kept s1 x) (sym (plainly mac w s o made (Some e) (Some (outcome_with s1 t b)) plain ∙ had r p made e origin s1 t b may)) k);
      }
