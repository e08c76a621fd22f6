-- What is taken of each kind of directive: a beginning, steps of the newest frame, the hardware, ticks and a reset.
use Rattle.std.proofs.Common.{◌≡◌, ℕ, zero, suc, ◌-◌, ◌<◌, ◌≤◌, Bool, true, false, List, [], ◌∷◌, length, Option, Some, None, refl, sym, ap, subst, arith}
use Rattle.std.specs.Prelude.{nat_lt, MatchBool}
use Rattle.bench_report.specs.Lines.{Line, Done}
use Rattle.bench_report.specs.Showing.{Showing}
use Rattle.bench_report.specs.declared.frames.Purpose.{Purpose}
use Rattle.bench_report.specs.declared.frames.Purpose.TheVariants as purposes
use Rattle.irq_control.specs.declared.held.Held.{Held}
use Rattle.irq_control.specs.declared.held.Held.TheVariants.{Empty, Frames}
use Rattle.mcal_base.specs.declared.directive.Order.{Order}
use Rattle.mcal_base.specs.declared.directive.Order.TheVariants as orders
use Rattle.mcal_base.specs.declared.directive.Order.TheVariants.{Tick}
use Rattle.mcal_base.specs.declared.directive.Reason.TheVariants.{Watchdog}
use Rattle.mcal_base.specs.declared.directive.Shown.{Shown}
use Rattle.mcal_base.specs.declared.service.Service.{Service}
use Rattle.mcal_base.specs.facts.Numbers.{lt_from, lt_since}
use Rattle.mcal_base.specs.facts.Truths.{off_on, on_off}
use Rattle.run_model.specs.Frame.{Called, Origin, Open}
use Rattle.run_model.specs.Moment.{Setting, Happens, after}
use Rattle.run_model.specs.declared.stop_condition.StopCondition.{StopCondition}
use Rattle.run_model.specs.declared.stop_condition.StopCondition.TheVariants.{Count, Until, Whole}
use Rattle.audit_frames.specs.Kept.{Kept}
use Rattle.audit_frames.specs.StackRules.{StandAll}
use Rattle.report_text.specs.reading.Blocks.{AuditState}
use Rattle.report_text.specs.reading.Steps.{Comes}
use Rattle.script_runner.specs.Standing.{makes_no_step}
use Rattle.report_auditor.specs.Auditing.{NamesThere, moved_to}
use Rattle.report_auditor.specs.Deeds.{Judges, beginning, restarted}
use Rattle.report_steps.specs.Going.{PrintsReset, waited_to}
use Rattle.report_steps.specs.Taking.{PrintsOn, Takes, Took}
use Rattle.report_audit.specs.Directives.{PrintsBegun, PrintsBeginning, PrintsDeed, PrintsGoingOver, PrintsHappening, PrintsHeld, PrintsReaching, PrintsRows, PrintsShowOver, PrintsThrough, PrintsTicksOn, PrintsTicksTo, TicksOn, begun_to}
use Rattle.report_audit.specs.Obeying.{NamesKnown}
use Rattle.report_audit.proofs.TakeLaws.{takes_as}

-- ---- frames

module _ {State Call : Type 0} (g : Setting State Call) where
  -- as many are kept as are under way
  pub none_open : (ks : List Kept) (os : List (Open Call)) → StandAll g ks os → length ks ≡ 0 → os ≡ []
  none_open [] [] h e = refl
  none_open [] (o ∷ os) h e = absurd h
  none_open (k ∷ ks) [] h e = refl
  none_open (k ∷ ks) (o ∷ os) h e = absurd (omega (arith, e))

  -- one is
  pub record IsOpen (os : List (Open Call)) : Type 0 where
    pub first : Open Call
    pub rest : List (Open Call)
    pub is : os ≡ first ∷ rest

  pub some_open : (ks : List Kept) (os : List (Open Call)) → StandAll g ks os → (length ks ≡ 0 → ⊥) → IsOpen os
  some_open [] os h e = absurd (e refl)
  some_open (k ∷ ks) [] h e = absurd h
  some_open (k ∷ ks) (o ∷ os) h e = record { first = o; rest = os; is = refl }

  pub as_many : (ks : List Kept) (os : List (Open Call)) → StandAll g ks os → length ks ≡ length os
  as_many [] [] h = refl
  as_many [] (o ∷ os) h = absurd h
  as_many (k ∷ ks) [] h = absurd h
  as_many (k ∷ ks) (o ∷ os) h = ap (λ n. suc n) (as_many ks os h.1)

module _ {State Call : Type 0} (g : Setting State Call) (p : AuditState State Call) (Stands : AuditState State Call → Type 0) (right : Bool) (n : ℕ) (text rest : List ℕ) where
  -- ---- beginnings

  module _ (whole : Bool) (x : Origin Call) (level : ℕ) (purpose : Purpose) (held : Option Held) where
    pub held_begins : (cause : Held) → held ≡ Some cause → Takes right (PrintsHeld p cause) Stands n text rest → Takes right (λ lines there. PrintsBeginning g whole p x level purpose held lines there) Stands n text rest
    held_begins cause e h = subst (λ (y : Option Held). Takes right (λ lines there. PrintsBeginning g whole p x level purpose y lines there) Stands n text rest) (sym e) h

    pub none_begins : held ≡ None → (Comes g p.moment (beginning x level) → ⊥) → Takes false (λ lines there. PrintsBeginning g whole p x level purpose held lines there) Stands n text rest
    none_begins e none = subst (λ (y : Option Held). Takes false (λ lines there. PrintsBeginning g whole p x level purpose y lines there) Stands n text rest) (sym e) (λ all there q is. none q.0)

    pub begun_begins : held ≡ None → Comes g p.moment (beginning x level) → Takes right (λ lines there. PrintsBegun g whole (begun_to g p x level purpose) lines there) Stands n text rest
        → Takes right (λ lines there. PrintsBeginning g whole p x level purpose held lines there) Stands n text rest
    begun_begins e comes h =
        subst (λ (y : Option Held). Takes right (λ lines there. PrintsBeginning g whole p x level purpose y lines there) Stands n text rest) (sym e)
        (takes_as right (λ lines there. PrintsBegun g whole (begun_to g p x level purpose) lines there) (λ lines there. Comes g p.moment (beginning x level) × PrintsBegun g whole (begun_to g p x level purpose) lines there)
        Stands n text rest (λ lines there. ((λ q. (comes, q)), (λ q. q.1))) h)

  -- ---- steps of the newest frame

  pub empty_goes : (reach : StopCondition) → p.moment.opens ≡ [] → Takes right (PrintsHeld p Empty) Stands n text rest → Takes right (λ lines there. PrintsGoingOver g reach p p.moment.opens lines there) Stands n text rest
  empty_goes reach e h = subst (λ (os : List (Open Call)). Takes right (λ lines there. PrintsGoingOver g reach p os lines there) Stands n text rest) (sym e) h

  over_goes : (reach : StopCondition) → IsOpen g p.moment.opens → Takes right (λ lines there. PrintsReaching g reach p lines there) Stands n text rest → Takes right (λ lines there. PrintsGoingOver g reach p p.moment.opens lines there) Stands n text rest
  over_goes reach some h = subst (λ (os : List (Open Call)). Takes right (λ lines there. PrintsGoingOver g reach p os lines there) Stands n text rest) (sym some.is) h

  none_reaches : (reach : StopCondition) → makes_no_step reach ≡ true → Takes right (λ lines there. (lines ≡ Done ∷ []) × (there ≡ p)) Stands n text rest → Takes right (λ lines there. PrintsReaching g reach p lines there) Stands n text rest
  none_reaches (Count zero) e h = h
  none_reaches (Count (suc k)) e h = absurd (cc)
  none_reaches (Until stop) e h = absurd (cc)
  none_reaches Whole e h = absurd (cc)

  some_reaches : (reach : StopCondition) → makes_no_step reach ≡ false → Takes right (PrintsOn g reach 0 true p) Stands n text rest → Takes right (λ lines there. PrintsReaching g reach p lines there) Stands n text rest
  some_reaches (Count zero) e h = absurd (cc)
  some_reaches (Count (suc k)) e h = h
  some_reaches (Until stop) e h = h
  some_reaches Whole e h = h

  pub none_goes : (reach : StopCondition) → IsOpen g p.moment.opens → makes_no_step reach ≡ true → Takes right (λ lines there. (lines ≡ Done ∷ []) × (there ≡ p)) Stands n text rest
      → Takes right (λ lines there. PrintsGoingOver g reach p p.moment.opens lines there) Stands n text rest
  none_goes reach some e h = over_goes reach some (none_reaches reach e h)

  pub some_goes : (reach : StopCondition) → IsOpen g p.moment.opens → makes_no_step reach ≡ false → Takes right (PrintsOn g reach 0 true p) Stands n text rest
      → Takes right (λ lines there. PrintsGoingOver g reach p p.moment.opens lines there) Stands n text rest
  some_goes reach some e h = over_goes reach some (some_reaches reach e h)

  -- ---- a show

  module _ (showing : Showing State) (what : Shown) where
    pub rows_show : p.moment.opens ≡ [] → Takes right (λ lines there. PrintsRows p (showing p.moment.world p.moment.state what) lines there) Stands n text rest
        → Takes right (λ lines there. PrintsShowOver showing p what p.moment.opens lines there) Stands n text rest
    rows_show e h = subst (λ (os : List (Open Call)). Takes right (λ lines there. PrintsShowOver showing p what os lines there) Stands n text rest) (sym e) h

    pub held_show : IsOpen g p.moment.opens → Takes right (PrintsHeld p Frames) Stands n text rest → Takes right (λ lines there. PrintsShowOver showing p what p.moment.opens lines there) Stands n text rest
    held_show some h = subst (λ (os : List (Open Call)). Takes right (λ lines there. PrintsShowOver showing p what os lines there) Stands n text rest) (sym some.is) h

  -- ---- the hardware

  module _ (order : Order) (held : Option Held) where
    pub held_happens : (cause : Held) → held ≡ Some cause → Takes right (PrintsHeld p cause) Stands n text rest → Takes right (λ lines there. PrintsHappening g p order held lines there) Stands n text rest
    held_happens cause e h = subst (λ (y : Option Held). Takes right (λ lines there. PrintsHappening g p order y lines there) Stands n text rest) (sym e) h

    pub none_happens : held ≡ None → (Comes g p.moment (Happens order) → ⊥) → Takes false (λ lines there. PrintsHappening g p order held lines there) Stands n text rest
    none_happens e none = subst (λ (y : Option Held). Takes false (λ lines there. PrintsHappening g p order y lines there) Stands n text rest) (sym e) (λ all there q is. none q.comes)

    pub deed_happens : held ≡ None → Takes right (PrintsDeed (Comes g p.moment (Happens order)) (moved_to (after g p.moment (Happens order)) p)) Stands n text rest
        → Takes right (λ lines there. PrintsHappening g p order held lines there) Stands n text rest
    deed_happens e h = subst (λ (y : Option Held). Takes right (λ lines there. PrintsHappening g p order y lines there) Stands n text rest) (sym e) h

  -- ---- ticks

  module _ (ticks : ℕ) (left : Option ℕ) where
    pub never_ends : left ≡ None → Takes right (λ lines there. PrintsTicksOn g p ticks lines there) Stands n text rest → Takes right (λ lines there. PrintsTicksTo g p ticks left lines there) Stands n text rest
    never_ends e h = subst (λ (y : Option ℕ). Takes right (λ lines there. PrintsTicksTo g p ticks y lines there) Stands n text rest) (sym e) h

    by_test : (k : ℕ) (b : Bool) → nat_lt ticks k ≡ b → Takes right (λ lines there. MatchBool b (PrintsTicksOn g p ticks lines there) (PrintsThrough g p k (ticks - k) lines there)) Stands n text rest
        → Takes right (λ lines there. PrintsTicksTo g p ticks (Some k) lines there) Stands n text rest
    by_test k b e h = subst (λ (y : Bool). Takes right (λ lines there. MatchBool y (PrintsTicksOn g p ticks lines there) (PrintsThrough g p k (ticks - k) lines there)) Stands n text rest) (sym e) h

    pub ends_later : (k : ℕ) → left ≡ Some k → ticks < k → Takes right (λ lines there. PrintsTicksOn g p ticks lines there) Stands n text rest → Takes right (λ lines there. PrintsTicksTo g p ticks left lines there) Stands n text rest
    ends_later k e lt h = subst (λ (y : Option ℕ). Takes right (λ lines there. PrintsTicksTo g p ticks y lines there) Stands n text rest) (sym e) (by_test k true (lt_from ticks k lt) h)

    pub ends_there : (k : ℕ) → left ≡ Some k → k ≤ ticks → Takes right (PrintsThrough g p k (ticks - k)) Stands n text rest → Takes right (λ lines there. PrintsTicksTo g p ticks left lines there) Stands n text rest
    ends_there k e le h = subst (λ (y : Option ℕ). Takes right (λ lines there. PrintsTicksTo g p ticks y lines there) Stands n text rest) (sym e) (by_test k false (lt_since ticks k le) h)

-- ---- ticks through the watchdog's reset

module _ {State Call : Type 0} (g : Setting State Call) (p : AuditState State Call) (left more n : ℕ) (text rest : List ℕ) where
  -- the ticks don't come
  pub early : (Stands : AuditState State Call → Type 0) → (Comes g p.moment (Happens (Tick left)) → ⊥) → Takes false (PrintsThrough g p left more) Stands n text rest
  early Stands none = λ all there q is. none q.comes

  -- what says the reset
  reset_said : (all : List Line) (there : AuditState State Call) → PrintsThrough g p left more all there → PrintsReset g (waited_to g p left) Watchdog all (restarted g (waited_to g p left) Watchdog)
  reset_said all there q = record { comes = q.resets; lines_are = q.lines_are; leads = refl }

  -- it isn't said
  pub unsaid : (Stands Later : AuditState State Call → Type 0) → Takes false (PrintsReset g (waited_to g p left) Watchdog) Stands n text rest → Takes false (PrintsThrough g p left more) Later n text rest
  unsaid Stands Later none = λ all there q is. none all (restarted g (waited_to g p left) Watchdog) (reset_said all there q) is

  -- it is, and then ticks come, or none are left
  pub said : (Stands Later : AuditState State Call → Type 0) (to : AuditState State Call) → Comes g p.moment (Happens (Tick left)) → Took (PrintsReset g (waited_to g p left) Watchdog) Stands n text rest
      → TicksOn g (restarted g (waited_to g p left) Watchdog) more to → Later to → Took (PrintsThrough g p left more) Later n text rest
  said Stands Later to comes h on later = record {
    lines = h.lines;
    place = to;
    prints = record { comes = comes; resets = h.prints.comes; lines_are = h.prints.lines_are; leads = on };
    is = h.is;
    stands = later;
    whole = λ all there q e. h.whole all (restarted g (waited_to g p left) Watchdog) (reset_said all there q) e;
  }

pub ticks_done : {State Call : Type 0} (g : Setting State Call) (p : AuditState State Call) (more : ℕ) → more ≡ 0 → TicksOn g p more p
ticks_done g p zero e = refl
ticks_done g p (suc more) e = absurd (omega (arith, e))

pub ticks_come : {State Call : Type 0} (g : Setting State Call) (p : AuditState State Call) (more : ℕ) → (more ≡ 0 → ⊥) → Comes g p.moment (Happens (Tick more)) → TicksOn g p more (waited_to g p more)
ticks_come g p zero e comes = absurd (e refl)
ticks_come g p (suc more) e comes = (comes, refl)

ticks_came : {State Call : Type 0} (g : Setting State Call) (p : AuditState State Call) (more : ℕ) (to : AuditState State Call) → (more ≡ 0 → ⊥) → TicksOn g p more to → Comes g p.moment (Happens (Tick more))
ticks_came g p zero to e h = absurd (e refl)
ticks_came g p (suc more) to e h = h.0

-- the ticks that are left don't come
pub late : {State Call : Type 0} (g : Setting State Call) (p : AuditState State Call) (left more n : ℕ) (text rest : List ℕ) (Later : AuditState State Call → Type 0) → (more ≡ 0 → ⊥)
    → (Comes g (restarted g (waited_to g p left) Watchdog).moment (Happens (Tick more)) → ⊥) → Takes false (PrintsThrough g p left more) Later n text rest
late g p left more n text rest Later some none = λ all there q is. none (ticks_came g (restarted g (waited_to g p left) Watchdog) more there some q.leads)

-- ---- a call

-- what a frame was begun for, by the request
pub call_begun : {State Call : Type 0} (g : Setting State Call) (p : AuditState State Call) (Stands : AuditState State Call → Type 0) (c d : Call) (level : ℕ) (service : Service) → c ≡ d → g.machine.service_of d ≡ service
    → Comes g p.moment (beginning (Called c) level) × Stands (record { moment = after g p.moment (beginning (Called c) level); frames = purposes.Call (g.machine.service_of c) ∷ p.frames; tally = p.tally })
    → Comes g p.moment (beginning (Called d) level) × Stands (begun_to g p (Called d) level (purposes.Call service))
call_begun g p Stands c d level service same is h =
    subst (λ s. Comes g p.moment (beginning (Called d) level) × Stands (begun_to g p (Called d) level (purposes.Call s))) is
    (subst (λ x. Comes g p.moment (beginning (Called x) level) × Stands (begun_to g p (Called x) level (purposes.Call (g.machine.service_of x)))) same h)

pub call_never : {State Call : Type 0} (g : Setting State Call) (p : AuditState State Call) (c d : Call) (level : ℕ) → c ≡ d → (Comes g p.moment (beginning (Called c) level) → ⊥) → Comes g p.moment (beginning (Called d) level) → ⊥
call_never g p c d level same none comes = none (subst (λ x. Comes g p.moment (beginning (Called x) level)) (sym same) comes)

-- ---- what was judged

-- a frame that was judged right begins, and one that was judged wrong doesn't
pub begins_right : {State Call : Type 0} (g : Setting State Call) (p : AuditState State Call) (Stands : AuditState State Call → Type 0) (x : Origin Call) (level : ℕ) (purpose : Purpose) (b : Bool) → b ≡ true
    → Judges b (Comes g p.moment (beginning x level)) (Stands (begun_to g p x level purpose)) → Comes g p.moment (beginning x level) × Stands (begun_to g p x level purpose)
begins_right g p Stands x level purpose true e h = h
begins_right g p Stands x level purpose false e h = off_on e

pub begins_wrong : {State Call : Type 0} (g : Setting State Call) (p : AuditState State Call) (Stands : AuditState State Call → Type 0) (x : Origin Call) (level : ℕ) (purpose : Purpose) (b : Bool) → b ≡ false
    → Judges b (Comes g p.moment (beginning x level)) (Stands (begun_to g p x level purpose)) → Comes g p.moment (beginning x level) → ⊥
begins_wrong g p Stands x level purpose true e h = on_off e
begins_wrong g p Stands x level purpose false e h = h

-- so does the hardware
pub moves_right : {State Call : Type 0} (g : Setting State Call) (p : AuditState State Call) (Stands : AuditState State Call → Type 0) (order : Order) (b : Bool) → b ≡ true
    → Judges b (Comes g p.moment (Happens order)) (Stands (moved_to (after g p.moment (Happens order)) p)) → Comes g p.moment (Happens order) × Stands (moved_to (after g p.moment (Happens order)) p)
moves_right g p Stands order true e h = h
moves_right g p Stands order false e h = off_on e

pub moves_wrong : {State Call : Type 0} (g : Setting State Call) (p : AuditState State Call) (Stands : AuditState State Call → Type 0) (order : Order) (b : Bool) → b ≡ false
    → Judges b (Comes g p.moment (Happens order)) (Stands (moved_to (after g p.moment (Happens order)) p)) → Comes g p.moment (Happens order) → ⊥
moves_wrong g p Stands order true e h = on_off e
moves_wrong g p Stands order false e h = h

-- lines that were taken
pub right_takes : {State Call : Type 0} (Prints : List Line → AuditState State Call → Type 0) (Stands : AuditState State Call → Type 0) (n : ℕ) (text rest : List ℕ) (b : Bool) → b ≡ true → Takes b Prints Stands n text rest → Took Prints Stands n text rest
right_takes Prints Stands n text rest true e h = h
right_takes Prints Stands n text rest false e h = off_on e

pub wrong_takes : {State Call : Type 0} (Prints : List Line → AuditState State Call → Type 0) (Stands : AuditState State Call → Type 0) (n : ℕ) (text rest : List ℕ) (b : Bool) → b ≡ false → Takes b Prints Stands n text rest → Takes false Prints Stands n text rest
wrong_takes Prints Stands n text rest true e h = on_off e
wrong_takes Prints Stands n text rest false e h = h

-- the ticks behind the watchdog's reset
pub through_judged : {State Call : Type 0} (g : Setting State Call) (p : AuditState State Call) (left more n : ℕ) (text rest : List ℕ) (Stands Later : AuditState State Call → Type 0) (right : Bool) → (more ≡ 0 → ⊥) → Comes g p.moment (Happens (Tick left))
    → Took (PrintsReset g (waited_to g p left) Watchdog) Stands n text rest
    → Judges right (Comes g (restarted g (waited_to g p left) Watchdog).moment (Happens (Tick more))) (Later (waited_to g (restarted g (waited_to g p left) Watchdog) more))
    → Takes right (PrintsThrough g p left more) Later n text rest
through_judged g p left more n text rest Stands Later true some comes h j =
    let fallen = restarted g (waited_to g p left) Watchdog in
    said g p left more n text rest Stands Later (waited_to g fallen more) comes h (ticks_come g fallen more some j.0) j.1
through_judged g p left more n text rest Stands Later false some comes h j = late g p left more n text rest Later some j

-- what an order names is there, where its channel is
pub names_all : (order : Order) → NamesKnown order → ((c : ℕ) (words : List ℕ) → order ≡ orders.Fill c words → c < 16) → NamesThere order
names_all (orders.Fill c words) h few = few c words refl
names_all (orders.Level pin high) h few = h
names_all (orders.Analog input value) h few = h
names_all (orders.Trigger input) h few = h
names_all (orders.Miso unit words) h few = h
names_all (orders.SpiFault unit) h few = h
names_all _ h few = tt
