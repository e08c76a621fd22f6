-- The steps of a directive so far, with what is kept, and where they end.
use Rattle.std.proofs.Common.{◌≡◌, ℕ, ◌+◌, Bool, true, false, ◌&&◌, ◌||◌, List, [], ◌∷◌, ◌++◌, length, Result, Ok, Err, Some, refl, sym, ◌∙◌, ap, subst}
use Rattle.std.proofs.lemmas.List.{append-nil}
use Rattle.std.specs.Prelude.{IfOk, is_some}
use Rattle.bench_report.specs.Lines.{Line, Restarts}
use Rattle.bench_report.specs.declared.frames.Purpose.{Purpose}
use Rattle.chip_model.specs.Chip.{wait_on}
use Rattle.mcal_base.specs.declared.directive.Order.TheVariants.{Tick}
use Rattle.mcal_base.specs.declared.directive.Reason.{Reason}
use Rattle.mcal_base.specs.declared.directive.Reason.TheVariants.{Software, Watchdog}
use Rattle.run_model.specs.Follows as run
use Rattle.run_model.specs.Frame.{Open, resets_chip}
use Rattle.run_model.specs.Legal.{IsServed}
use Rattle.run_model.specs.Moment.{Moment, Setting, Steps, Happens, Resets, after}
use Rattle.run_model.specs.declared.item.Stepped.{Stepped}
use Rattle.run_model.specs.declared.stop_condition.StopCondition.{StopCondition}
use Rattle.audit_base.specs.declared.outside.Outside.{Outside}
use Rattle.audit_frames.specs.Kept.{Kept}
use Rattle.audit_frames.specs.StackRules.{StandAll}
use Rattle.report_text.specs.reading.Blocks.{AuditState, printed}
use Rattle.report_text.specs.reading.Steps.{Comes, PrintsSteps, StepComes, WaitComes, LastStep, ResetStep, MoreSteps, RunsOut, is_silent, lines_at}
use Rattle.report_text.specs.Unread.{Unread, own_text}
use Rattle.report_auditor.specs.Auditing.{Auditing, IsReady, Stands, moved_to, purpose_by, purposes_by}
use Rattle.report_auditor.specs.Deeds.{Judges, restarted}
use Rattle.report_auditor.specs.Seeing.{Agreeing}
use Rattle.report_steps.specs.Going.{FitsReset, FitsStep, NoneComes, PrintsReset, ResetCame, SoFar, StepCame, ok_where, waited_to}
use Rattle.report_steps.specs.Lines.{Advances, TakesLine, TakesLines}
use Rattle.report_steps.specs.Reaching as reaching
use Rattle.report_steps.specs.StepRules.{NoEnd, stepped_to}
use Rattle.report_steps.specs.Taking.{PrintsOn, Takes}
use Rattle.report_steps.specs.declared.made.Made.{Made}
use Rattle.report_steps.proofs.EndLaws.{as_lines}
use Rattle.report_steps.proofs.GoingLaws.{counted_none, makes_uncounted, no_end, ok_behind, ok_no_end}
use Rattle.report_steps.proofs.LinesLaws.{advances_none, advances_on}
use Rattle.report_steps.proofs.NextLaws.{top_step}
use Rattle.report_steps.proofs.ReachLaws.{last_same, silent_same}
use Rattle.report_steps.proofs.SoFarLaws.{done, front_is, next, not_reset, nothing_left, served_after, start, undone, was_reset}

-- ---- what comes from here on

module _ {State Call : Type 0} (g : Setting State Call) (reach : StopCondition) (p : AuditState State Call) (n : ℕ) (text : List ℕ) where
  -- no step fits the block, and no reset
  pub none_prints : ((s : Stepped) (at : Moment State Call) (waits more : List Line) → FitsStep g p n text s at waits more → ⊥) → ((ticks : ℕ) → FitsReset g p n text ticks → ⊥)
      → (count : ℕ) (silent : Bool) (lines : List Line) (last : Moment State Call) (left : List Purpose) → PrintsSteps g reach count silent p.moment p.frames lines last left → text ≡ printed n lines → ⊥
  none_prints never goes count silent lines last left (LastStep s at waits comes resets stops) e =
      let b = silent && is_silent (waits ++ lines_at at p.frames s) in
      never s at waits (ok_where b) (record { comes = comes; behind = ok_no_end b; text_is = e ∙ ap (printed n) (ok_behind silent (waits ++ lines_at at p.frames s)) })
  none_prints never goes count silent lines last left (ResetStep s at waits comes resets reset) e =
      never s at waits (Restarts Software (length (after g at (Steps s)).opens) ∷ []) (record { comes = comes; behind = refl; text_is = e })
  none_prints never goes count silent lines last left (MoreSteps s at waits rest comes resets stops more) e = never s at waits rest (record { comes = comes; behind = no_end g more; text_is = e })
  none_prints never goes count silent lines last left (RunsOut unit ticks waits ends left1 comes) e =
      goes ticks (record {
        out = record { unit = unit; waits = record { busy = waits.busy; ends = ends; waits = (waits.unmasked, waits.may) }; left = left1; dropped_is = refl; fits = waits.fits; comes = waits.comes; resets = comes };
        text_is = e;
      })

  -- the lines are that of the reset
  only_reset : ((s : Stepped) (at : Moment State Call) (waits more : List Line) → FitsStep g p n text s at waits more → ⊥)
      → (count : ℕ) (silent : Bool) (lines : List Line) (last : Moment State Call) (left : List Purpose) → PrintsSteps g reach count silent p.moment p.frames lines last left → text ≡ printed n lines → lines ≡ Restarts Watchdog (length p.moment.opens) ∷ []
  only_reset never count silent lines last left (LastStep s at waits comes resets stops) e =
      let b = silent && is_silent (waits ++ lines_at at p.frames s) in
      absurd (never s at waits (ok_where b) (record { comes = comes; behind = ok_no_end b; text_is = e ∙ ap (printed n) (ok_behind silent (waits ++ lines_at at p.frames s)) }))
  only_reset never count silent lines last left (ResetStep s at waits comes resets reset) e =
      absurd (never s at waits (Restarts Software (length (after g at (Steps s)).opens) ∷ []) (record { comes = comes; behind = refl; text_is = e }))
  only_reset never count silent lines last left (MoreSteps s at waits rest comes resets stops more) e = absurd (never s at waits rest (record { comes = comes; behind = no_end g more; text_is = e }))
  only_reset never count silent lines last left (RunsOut unit ticks waits ends left1 comes) e = refl

module _ {State Call : Type 0} (g : Setting State Call) (reach : StopCondition) (first : AuditState State Call) (whole : List ℕ) (count : ℕ) (silent : Bool) (p : AuditState State Call) (S : AuditState State Call → Type 0) (r r1 : Unread)
    (so_far : SoFar g reach first r.number whole count silent p (own_text r)) where
  -- nothing right comes
  pub ends_wrong : NoneComes g p r → (rest : List ℕ) → Takes false (PrintsOn g reach 0 true first) S r.number whole rest
  ends_wrong none rest all there h e =
      let b = so_far.back all there h e in
      none_prints g reach p r.number (own_text r) none.never none.goes count silent b.lines there.moment there.frames b.prints.steps b.text_is

  -- the watchdog's reset comes
  pub ends_reset : ResetCame g p S r r1 → Takes true (PrintsOn g reach 0 true first) S r.number whole (own_text r1)
  ends_reset it =
      let line = Restarts Watchdog (length p.moment.opens) ∷ [] in
      let there : AuditState State Call = restarted g (waited_to g p it.ticks) Watchdog in
      let waits = it.out.waits in
      let comes : WaitComes g p.moment it.out.unit it.ticks = record { busy = waits.busy; unmasked = waits.waits.0; may = waits.waits.1; fits = it.out.fits; comes = it.out.comes } in
      let prints : PrintsOn g reach count silent p line there = record {
        steps = RunsOut it.out.unit it.ticks comes waits.ends it.out.left it.out.resets;
        tally = counted_none p.tally ∙ sym (makes_uncounted p.tally (Restarts Watchdog (length p.moment.opens)) [] refl refl refl refl refl);
      } in
      record {
        lines = so_far.front ++ line;
        place = there;
        prints = so_far.on line there prints;
        is = front_is r.number whole (own_text r) (own_text r1) so_far.front line so_far.is it.text_is;
        stands = it.stands;
        whole = λ all last h e.
            let b = so_far.back all last h e in
            nothing_left r.number (own_text r) (own_text r1) line it.text_is
            (b.text_is ∙ ap (printed r.number) (only_reset g reach p r.number (own_text r) it.never count silent b.lines last.moment last.frames b.prints.steps b.text_is));
      }

  -- ---- a step came

  module _ (made : Made) (it : StepCame g p S r r1 made) where
    only : (s : Stepped) (at : Moment State Call) (waits more : List Line) → StepComes g p.moment s at waits → NoEnd more → own_text r ≡ printed r.number ((waits ++ lines_at at p.frames s) ++ more) → (s ≡ it.step) × (at ≡ it.at) × (waits ≡ it.waits)
    only s at waits more comes behind e = it.only s at waits more (record { comes = comes; behind = behind; text_is = e })

    goes : (unit ticks : ℕ) → WaitComes g p.moment unit ticks → run.ends_within (wait_on p.moment.chip unit) (g.machine.expires p.moment.world p.moment.state) ≡ true → g.machine.expires p.moment.world p.moment.state ≡ Some ticks
        → Comes g (after g p.moment (Happens (Tick ticks))) (Resets Watchdog) → own_text r ≡ printed r.number (Restarts Watchdog (length p.moment.opens) ∷ []) → ⊥
    goes unit ticks waits ends left comes e = it.goes ticks (record {
      out = record { unit = unit; waits = record { busy = waits.busy; ends = ends; waits = (waits.unmasked, waits.may) }; left = left; dropped_is = refl; fits = waits.fits; comes = waits.comes; resets = comes };
      text_is = e;
    })

    pub there : AuditState State Call
    there = stepped_to g (moved_to it.at p) it.step

    resets_is : reaching.resets made ≡ resets_chip it.step.made
    resets_is = ap reaching.resets it.is

    last_is : (more : ℕ) → made.ended || reaching.is_reached reach more made ≡ (is_some it.step.ended || run.is_reached reach more it.step)
    last_is more = ap (λ m. m.ended || reaching.is_reached reach more m) it.is ∙ sym (last_same reach more it.step)

    module _ (purpose : Purpose) (purposes : List Purpose) (has_frame : p.frames ≡ purpose ∷ purposes) (more : ℕ) (one : more ≡ count + 1) where
      silent_is : (silent && reaching.is_silent made) ≡ (silent && is_silent (it.waits ++ lines_at it.at p.frames it.step))
      silent_is = ap (λ b. silent && b) (ap reaching.is_silent it.is ∙ sym (silent_same g p.moment it.at it.step it.waits p.frames purpose purposes has_frame it.comes))

      stops_is : made.ended || reaching.is_reached reach more made ≡ (is_some it.step.ended || run.is_reached reach (count + 1) it.step)
      stops_is = last_is more ∙ ap (λ k. is_some it.step.ended || run.is_reached reach k it.step) one

      -- it goes on
      pub goes_on : reaching.resets made ≡ false → made.ended || reaching.is_reached reach more made ≡ false
          → SoFar g reach first r.number whole more (silent && reaching.is_silent made) (stepped_to g (moved_to it.at p) it.step) (own_text r1)
      goes_on off on =
          subst (λ k. SoFar g reach first r.number whole k (silent && reaching.is_silent made) (stepped_to g (moved_to it.at p) it.step) (own_text r1)) (sym one)
          (subst (λ b. SoFar g reach first r.number whole (count + 1) b (stepped_to g (moved_to it.at p) it.step) (own_text r1)) (sym silent_is)
          (next g reach first r.number whole count silent p (own_text r) (own_text r1) so_far it.step it.at it.waits it.comes it.text_is only goes (sym resets_is ∙ off) (sym stops_is ∙ on)))

      -- it is the last one
      pub stops_done : (right : Bool) (r2 : Unread) → reaching.resets made ≡ false → made.ended || reaching.is_reached reach more made ≡ true → TakesLines right (ok_where (silent && reaching.is_silent made)) r1 r2 → r1.number ≡ r.number
          → Takes right (PrintsOn g reach 0 true first) S r.number whole (own_text r2)
      stops_done true r2 off on taken same =
          done g reach first r.number whole count silent p (own_text r) (own_text r1) so_far it.step it.at it.waits it.comes it.text_is only goes (sym resets_is ∙ off) (sym stops_is ∙ on) S (own_text r2)
          (subst (λ b. own_text r1 ≡ printed r.number (ok_where b) ++ own_text r2) silent_is (subst (λ k. own_text r1 ≡ printed k (ok_where (silent && reaching.is_silent made)) ++ own_text r2) same taken.text)) it.stands
      stops_done false r2 off on taken same =
          undone g reach first r.number whole count silent p (own_text r) (own_text r1) so_far it.step it.at it.waits it.comes it.text_is only goes (sym resets_is ∙ off) (sym stops_is ∙ on)
          (λ left e. taken left (subst (λ k. own_text r1 ≡ printed k (ok_where (silent && reaching.is_silent made)) ++ left) (sym same) (subst (λ b. own_text r1 ≡ printed r.number (ok_where b) ++ left) (sym silent_is) e)))

    -- it resets the chip
    pub stops_reset : (right : Bool) (S1 : AuditState State Call → Type 0) (rest : List ℕ) → reaching.resets made ≡ true → Takes right (PrintsReset g (stepped_to g (moved_to it.at p) it.step) Software) S1 r.number (own_text r1) rest
        → Takes right (PrintsOn g reach 0 true first) S1 r.number whole rest
    stops_reset true S1 rest on took = was_reset g reach first r.number whole count silent p (own_text r) (own_text r1) so_far it.step it.at it.waits it.comes it.text_is only goes (sym resets_is ∙ on) S1 rest took
    stops_reset false S1 rest on none = not_reset g reach first r.number whole count silent p (own_text r) (own_text r1) so_far it.step it.at it.waits it.comes it.text_is only goes (sym resets_is ∙ on) none

-- ---- the newest frame's purpose

pub record HasPurpose (frames : List Purpose) : Type 0 where
  pub purpose : Purpose
  pub more : List Purpose
  pub is : frames ≡ purpose ∷ more

has_purpose : {State Call : Type 0} (g : Setting State Call) (kept : List Kept) (o : Open Call) (os : List (Open Call)) (frames : List Purpose) → StandAll g kept (o ∷ os) → frames ≡ purposes_by kept → HasPurpose frames
has_purpose g [] o os frames h e = absurd h
has_purpose g (k ∷ ks) o os frames h e = record { purpose = purpose_by k.terms.task; more = purposes_by ks; is = e }

pub purpose_there : {Parts Table State Call : Type 0} (agrees : Agreeing Table State) (setting : Table → Setting State Call) (table : Parts → Table) (stands : Parts → State → Type 0) (t : Table) (a : Auditing Parts Call) (p : AuditState State Call) → Stands agrees setting table stands t a p
    → (s : Stepped) (at : Moment State Call) (waits : List Line) → StepComes (setting t) p.moment s at waits → HasPurpose p.frames
purpose_there agrees setting table stands t a p h s at waits comes =
    let top = top_step (setting t) p.moment s at waits comes in
    has_purpose (setting t) a.frames top.0 top.1 p.frames (subst (λ ys. StandAll (setting t) a.frames ys) top.2 h.frames) h.purposes

-- ---- the loop

-- the place that the steps so far lead to
pub record GoesTo {Parts Table State Call : Type 0} (agrees : Agreeing Table State) (setting : Table → Setting State Call) (table : Parts → Table) (stands : Parts → State → Type 0) (t : Table) (reach : StopCondition) (first : AuditState State Call) (now : Auditing Parts Call) (before after : Unread) (count : ℕ) (silent : Bool) : Type 0 where
  pub place : AuditState State Call
  pub kept : Stands agrees setting table stands t now place
  pub so_far : SoFar (setting t) reach first before.number (own_text before) count silent place (own_text after)

-- so far lines were taken, and what is kept is ready and stands for that place
pub record SoGoes {Parts Table State Call : Type 0} (agrees : Agreeing Table State) (setting : Table → Setting State Call) (table : Parts → Table) (stands : Parts → State → Type 0) (fits : Parts → Outside → Type 0) (within : Parts → Type 0) (ticks : Parts → ℕ)
    (reach : StopCondition) (old now : Auditing Parts Call) (before after : Unread) (count : ℕ) (silent : Bool) : Type 0 where
  pub ready : (given : ℕ) → IsReady fits within ticks given old → IsReady fits within ticks given now
  pub on : Advances before after
  pub goes : (t : Table) (p : AuditState State Call) → Stands agrees setting table stands t old p → IsServed (setting t) p.moment → GoesTo agrees setting table stands t reach p now before after count silent

module _ {Parts Table State Call : Type 0} (agrees : Agreeing Table State) (setting : Table → Setting State Call) (table : Parts → Table) (stands : Parts → State → Type 0) (fits : Parts → Outside → Type 0) (within : Parts → Type 0) (ticks : Parts → ℕ)
    (reach : StopCondition) (old : Auditing Parts Call) (before : Unread) where
  pub none_yet : SoGoes agrees setting table stands fits within ticks reach old old before before 0 true
  none_yet = record {
    ready = λ given h. h;
    on = advances_none before;
    goes = λ t p kept served. record { place = p; kept = kept; so_far = start (setting t) reach p before.number (own_text before) served };
  }

  module _ (now new : Auditing Parts Call) (after next : Unread) (count : ℕ) (silent : Bool) (so : SoGoes agrees setting table stands fits within ticks reach old now before after count silent) where
    -- the places' number is the block's
    here : (t : Table) (p : AuditState State Call) (h : GoesTo agrees setting table stands t reach p now before after count silent) → SoFar (setting t) reach p after.number (own_text before) count silent h.place (own_text after)
    here t p h = subst (λ n. SoFar (setting t) reach p n (own_text before) count silent h.place (own_text after)) (sym so.on.number) h.so_far

    back : (right : Bool) (t : Table) (p : AuditState State Call) (rest : List ℕ) → Takes right (PrintsOn (setting t) reach 0 true p) (Stands agrees setting table stands t new) after.number (own_text before) rest
        → Takes right (PrintsOn (setting t) reach 0 true p) (Stands agrees setting table stands t new) before.number (own_text before) rest
    back right t p rest h = subst (λ n. Takes right (PrintsOn (setting t) reach 0 true p) (Stands agrees setting table stands t new) n (own_text before) rest) so.on.number h

    module _ (came : (t : Table) (p : AuditState State Call) → Stands agrees setting table stands t now p → IsServed (setting t) p.moment → NoneComes (setting t) p after) where
      pub wrong : (t : Table) (p : AuditState State Call) → Stands agrees setting table stands t old p → IsServed (setting t) p.moment → (rest : List ℕ)
          → Takes false (PrintsOn (setting t) reach 0 true p) (Stands agrees setting table stands t new) before.number (own_text before) rest
      wrong t p kept served rest =
          let h = so.goes t p kept served in
          back false t p rest (ends_wrong (setting t) reach p (own_text before) count silent h.place (Stands agrees setting table stands t new) after next (here t p h) (came t h.place h.kept h.so_far.served) rest)

    module _ (came : (t : Table) (p : AuditState State Call) → Stands agrees setting table stands t now p → IsServed (setting t) p.moment → ResetCame (setting t) p (Stands agrees setting table stands t new) after next) where
      pub reset : (t : Table) (p : AuditState State Call) → Stands agrees setting table stands t old p → IsServed (setting t) p.moment
          → Takes true (PrintsOn (setting t) reach 0 true p) (Stands agrees setting table stands t new) before.number (own_text before) (own_text next)
      reset t p kept served =
          let h = so.goes t p kept served in
          back true t p (own_text next) (ends_reset (setting t) reach p (own_text before) count silent h.place (Stands agrees setting table stands t new) after next (here t p h) (came t h.place h.kept h.so_far.served))

    module _ (made : Made) (came : (t : Table) (p : AuditState State Call) → Stands agrees setting table stands t now p → IsServed (setting t) p.moment → StepCame (setting t) p (Stands agrees setting table stands t new) after next made)
        (more : ℕ) (one : more ≡ count + 1) (on : Advances after next) where
      -- it goes on
      pub again : reaching.resets made ≡ false → made.ended || reaching.is_reached reach more made ≡ false → ((given : ℕ) → IsReady fits within ticks given now → IsReady fits within ticks given new)
          → SoGoes agrees setting table stands fits within ticks reach old new before next more (silent && reaching.is_silent made)
      again off open_end ready = record {
        ready = λ given h. ready given (so.ready given h);
        on = advances_on before after next so.on on;
        goes = λ t p kept served.
            let h = so.goes t p kept served in
            let it = came t h.place h.kept h.so_far.served in
            let has = purpose_there agrees setting table stands t now h.place h.kept it.step it.at it.waits it.comes in
            record {
              place = stepped_to (setting t) (moved_to it.at h.place) it.step;
              kept = it.stands;
              so_far = subst (λ n. SoFar (setting t) reach p n (own_text before) more (silent && reaching.is_silent made) (stepped_to (setting t) (moved_to it.at h.place) it.step) (own_text next)) so.on.number
                  (goes_on (setting t) reach p (own_text before) count silent h.place (Stands agrees setting table stands t new) after next (here t p h) made it has.purpose has.more has.is more one off open_end);
            };
      }

      -- it is the last one
      pub last_one : (right : Bool) (end : Unread) → reaching.resets made ≡ false → made.ended || reaching.is_reached reach more made ≡ true → TakesLines right (ok_where (silent && reaching.is_silent made)) next end
          → (t : Table) (p : AuditState State Call) → Stands agrees setting table stands t old p → IsServed (setting t) p.moment
          → Takes right (PrintsOn (setting t) reach 0 true p) (Stands agrees setting table stands t new) before.number (own_text before) (own_text end)
      last_one right end off ends taken t p kept served =
          let h = so.goes t p kept served in
          let it = came t h.place h.kept h.so_far.served in
          let has = purpose_there agrees setting table stands t now h.place h.kept it.step it.at it.waits it.comes in
          back right t p (own_text end)
          (stops_done (setting t) reach p (own_text before) count silent h.place (Stands agrees setting table stands t new) after next (here t p h) made it has.purpose has.more has.is more one right end off ends taken on.number)

      -- it resets the chip, and the line of that is judged
      pub resets_so : (right : Bool) (last : Auditing Parts Call) (end : Unread) → reaching.resets made ≡ true
          → ((t : Table) (p : AuditState State Call) → Stands agrees setting table stands t new p → IsServed (setting t) p.moment → Takes right (PrintsReset (setting t) p Software) (Stands agrees setting table stands t last) next.number (own_text next) (own_text end))
          → (t : Table) (p : AuditState State Call) → Stands agrees setting table stands t old p → IsServed (setting t) p.moment
          → Takes right (PrintsOn (setting t) reach 0 true p) (Stands agrees setting table stands t last) before.number (own_text before) (own_text end)
      resets_so right last end restarts resets t p kept served =
          let h = so.goes t p kept served in
          let it = came t h.place h.kept h.so_far.served in
          let q : AuditState State Call = stepped_to (setting t) (moved_to it.at h.place) it.step in
          let S1 : AuditState State Call → Type 0 = Stands agrees setting table stands t last in
          let judged = resets t q it.stands (served_after (setting t) reach p before.number (own_text before) it.comes) in
          subst (λ n. Takes right (PrintsOn (setting t) reach 0 true p) S1 n (own_text before) (own_text end)) so.on.number
          (stops_reset (setting t) reach p (own_text before) count silent h.place (Stands agrees setting table stands t new) after next (here t p h) made it right S1 (own_text end) restarts
          (subst (λ n. Takes right (PrintsReset (setting t) q Software) S1 n (own_text next) (own_text end)) on.number judged))

      pub resets_all : {E : Type 0} (r : Result Bool E) (last : Auditing Parts Call) (end : Unread) → reaching.resets made ≡ true
          → ((t : Table) (p : AuditState State Call) → Stands agrees setting table stands t new p → IsServed (setting t) p.moment
          → IfOk r (λ right. Takes right (PrintsReset (setting t) p Software) (Stands agrees setting table stands t last) next.number (own_text next) (own_text end)))
          → (t : Table) (p : AuditState State Call) → Stands agrees setting table stands t old p → IsServed (setting t) p.moment
          → IfOk r (λ right. Takes right (PrintsOn (setting t) reach 0 true p) (Stands agrees setting table stands t last) before.number (own_text before) (own_text end))
      resets_all (Ok right) last end restarts resets t p kept served = resets_so right last end restarts resets t p kept served
      resets_all (Err e) last end restarts resets t p kept served = tt

-- ---- the line of a reset

module _ {State Call : Type 0} (g : Setting State Call) (p : AuditState State Call) (reason : Reason) (S : AuditState State Call → Type 0) (r r1 : Unread) (depth : ℕ) (deep : depth ≡ length p.moment.opens) where
  -- it doesn't come
  pub no_line : TakesLine false (Restarts reason depth) r r1 → (rest : List ℕ) → Takes false (PrintsReset g p reason) S r.number (own_text r) rest
  no_line h rest all last prints e =
      as_lines false (Restarts reason depth) r r1 h []
      (e ∙ (ap (printed r.number) (prints.lines_are ∙ ap (λ n. Restarts reason n ∷ []) (sym deep)) ∙ sym (append-nil (printed r.number (Restarts reason depth ∷ [])))))

  -- it comes, and the reset is judged
  pub with_reset : (right : Bool) → TakesLine true (Restarts reason depth) r r1 → Judges right (Comes g p.moment (Resets reason)) (S (restarted g p reason)) → Takes right (PrintsReset g p reason) S r.number (own_text r) (own_text r1)
  with_reset true taken judged =
      let is : own_text r ≡ printed r.number (Restarts reason (length p.moment.opens) ∷ []) ++ own_text r1 = subst (λ n. own_text r ≡ printed r.number (Restarts reason n ∷ []) ++ own_text r1) deep taken.text in
      record {
        lines = Restarts reason (length p.moment.opens) ∷ [];
        place = restarted g p reason;
        prints = record { comes = judged.0; lines_are = refl; leads = refl };
        is = is;
        stands = judged.1;
        whole = λ all there prints e. nothing_left r.number (own_text r) (own_text r1) (Restarts reason (length p.moment.opens) ∷ []) is (e ∙ ap (printed r.number) prints.lines_are);
      }
  with_reset false taken judged = λ all there prints e. judged prints.comes
