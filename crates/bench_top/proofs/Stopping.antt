-- No journal is both that of a whole run and that of one which stopped.
use Rattle.std.proofs.Common.{◌≡◌, ℕ, zero, suc, ◌+◌, Bool, true, false, List, [], ◌∷◌, ◌++◌, append-nil, refl, ap, sym, subst, ◌∙◌, arith, Option, Some, None, drop, inl, inr}
use Rattle.std.specs.Prelude.{◌||◌, is_some, nat_le, length, MatchBool}
use Rattle.std.proofs.lemmas.Bool.Decides.{nat_tests}
use Rattle.chip_model.specs.Chip.{wait_on}
use Rattle.irq_control.specs.declared.held.Held.{Held}
use Rattle.mcal_base.specs.declared.config.whole.Config.{Config}
use Rattle.mcal_base.specs.declared.directive.Directive.{Directive}
use Rattle.mcal_base.specs.declared.directive.Order.{Order}
use Rattle.mcal_base.specs.declared.directive.Order.TheVariants as orders
use Rattle.mcal_base.specs.declared.directive.Reason.TheVariants.{Watchdog}
use Rattle.mcal_base.specs.declared.directive.Request.{Request}
use Rattle.run_model.specs.declared.stop_condition.StopCondition.{StopCondition}
use Rattle.run_model.specs.declared.stop_condition.StopCondition.TheVariants.{Count, Until, Whole}
use Rattle.run_model.specs.Entry as entry
use Rattle.run_model.specs.Entry.{Entry, Said}
use Rattle.run_model.specs.Follows.{call_held, line_held, deeds_in, is_reached, BeginsWhole, Follows, Gives, Goes, GoesOn, IsOne, IsStep, ComesAwaited, Waits, ends_within}
use Rattle.run_model.specs.Frame.{Open, resets_chip}
use Rattle.run_model.specs.Moment.{Setting, Moment, Transition, Begins, Enters, Steps, Happens, after, after_all, start_moment}
use Rattle.run_model.specs.Stops.{BeginsToStop, FollowsToStop, GivesToStop, GoesToStop, IsStepBefore, StopsWithin, WaitsBefore}
use Rattle.script_runner.specs.Scripts.{LinesRise, IsScript, chip_for}
use Rattle.mcal_system.specs.Setting.{system_setting, call_of}
use Rattle.bench_report.specs.Report.{later_entries, own_entries}
use Rattle.bench_report.proofs.Items.{any, is_show, Each, lines_of}
use Rattle.bench_top.specs.Runs.{IsWholeRun, IsStoppedRun}
use Rattle.bench_top.proofs.Lines.{AllAbove, above_both, above_each, both_left, later_are, own_are}

-- ---- the steps of a directive go as far as it reaches, or it asks for one more

goes_by : (X Y : Type 0) {More : Type 0} (resets ends : Bool) → (resets || ends) ≡ false → MatchBool resets X (MatchBool ends Y More) → More
goes_by X Y true ends e h = cc
goes_by X Y false true e h = cc
goes_by X Y false false e h = h

-- ticks that a frame waits are no other's, and the watchdog's time doesn't end in those before a step
within_self : (n : ℕ) → nat_le n n ≡ false → ⊥
within_self n e = grind (arith, nat_tests)

waits_not : {State Call : Type 0} (g : Setting State Call) (line : ℕ) (m : Moment State Call) (n : ℕ) (es : List Entry) (More : Type 0) → Waits g line m n es More → WaitsBefore g m n es → (More → ⊥) → ⊥
waits_not g line m n es More h k more = by (ends_within (wait_on m.chip h.unit) (g.machine.expires m.world m.state)) h.goes
  where
    by : (q : Bool) → MatchBool q ((g.machine.expires m.world m.state ≡ Some n) × IsOne m line (entry.Resets Watchdog (length m.opens)) es) ((n ≡ wait_on m.chip h.unit) × ComesAwaited h.unit es × More) → ⊥
    by true over = within_self n (subst (λ t. ends_within n t ≡ false) over.0 k.in_time)
    by false on = more on.2

step_not : {State Call : Type 0} (g : Setting State Call) (line : ℕ) (reach : StopCondition) (made : ℕ) (m : Moment State Call) (e : Entry) (es : List Entry) (said : Said) →
    ((n : ℕ) (deed : Transition Call) → GoesOn g line reach n (after g m deed) es → GoesToStop g line reach n (after g m deed) es → ⊥) → IsStep g line reach made m e es said (λ n deed. GoesOn g line reach n (after g m deed) es) →
    IsStepBefore g line reach made m e es said (λ n deed. GoesToStop g line reach n (after g m deed) es) → ⊥
step_not g line reach made m e es (entry.Steps s) more h k =
    more (made + 1) (Steps s) (goes_by _ _ (resets_chip s.made) (is_some s.ended || is_reached reach (made + 1) s) k.2 h.2) k.3
step_not g line reach made m e es (entry.Happens (orders.Tick n)) more h k = waits_not g line m n es _ h.2 k.2 (λ goes. more made (Happens (orders.Tick n)) goes k.3)
step_not g line reach made m e es (entry.Happens o) more h k = k
step_not g line reach made m e es entry.Begins more h k = k
step_not g line reach made m e es (entry.Stays c) more h k = k
step_not g line reach made m e es (entry.Resets r n) more h k = k

goes_not : {State Call : Type 0} (g : Setting State Call) (line : ℕ) (reach : StopCondition) (es : List Entry) (made : ℕ) (m : Moment State Call) → GoesOn g line reach made m es → GoesToStop g line reach made m es → ⊥
goes_not g line reach [] made m h k = h
goes_not g line reach (e ∷ es) made m h k = step_not g line reach made m e es e.said (λ n deed. goes_not g line reach es n (after g m deed)) h k

within_not : {State Call : Type 0} (g : Setting State Call) (line : ℕ) (reach : StopCondition) (m : Moment State Call) (os : List (Open Call)) (items : List Entry) → Goes g line reach m os items → StopsWithin g line reach m os items → ⊥
within_not g line reach m [] items h k = k
within_not g line (Count zero) m (o ∷ os) items h k = k
within_not g line (Count (suc n)) m (o ∷ os) items h k = goes_not g line (Count (suc n)) items 0 m h k
within_not g line (Until stop) m (o ∷ os) items h k = goes_not g line (Until stop) items 0 m h k
within_not g line Whole m (o ∷ os) items h k = goes_not g line Whole items 0 m h k

begins_not : {State Call : Type 0} (g : Setting State Call) (m : Moment State Call) (line : ℕ) (deed : Transition Call) (cause held : Option Held) (items : List Entry) → held ≡ cause → BeginsWhole g m line deed cause items →
    BeginsToStop g line m deed held items → ⊥
begins_not g m line deed (Some c) held items e h k = let free = k.free in cc
begins_not g m line deed None held items e h k =
    let same : h.steps ≡ k.steps = ap (λ (es : List Entry). drop 1 es) (sym h.is ∙ k.is) in
    goes_not g line Whole k.steps 0 (after g m deed) (subst (λ (es : List Entry). GoesOn g line Whole 0 (after g m deed) es) same h.goes) k.goes

gives_not : {State Call : Type 0} (g : Setting State Call) (call_of : Request → Call) (m : Moment State Call) (line : ℕ) (order : Order) (items : List Entry) → Gives g call_of m line order items → GivesToStop g call_of m line order items → ⊥
gives_not g call_of m line (orders.Do level r) items h k = begins_not g m line (Begins (call_of r) level) (call_held g m (call_of r) level) (call_held g m (call_of r) level) items refl h k
gives_not g call_of m line (orders.Serve l) items h k = begins_not g m line (Enters l) (line_held g m l) (line_held g m l) items refl h k
gives_not g call_of m line (orders.Run n) items h k = within_not g line (Count n) m m.opens items h k
gives_not g call_of m line (orders.Upto stop) items h k = within_not g line (Until stop) m m.opens items h k
gives_not g call_of m line orders.Finish items h k = within_not g line Whole m m.opens items h k
gives_not g call_of m line _ items h k = k

-- ---- the items up to a stop have the directive's line

before_each : {State Call : Type 0} (g : Setting State Call) (line : ℕ) (reach : StopCondition) (made : ℕ) (m : Moment State Call) (e : Entry) (es : List Entry) (said : Said) (More : (made : ℕ) → Transition Call → Type 0) →
    ((n : ℕ) (deed : Transition Call) → More n deed → Each line any es) → IsStepBefore g line reach made m e es said More → Each line any (e ∷ es)
before_each g line reach made m e es (entry.Steps s) More more h = (h.0, tt, more (made + 1) (Steps s) h.3)
before_each g line reach made m e es (entry.Happens (orders.Tick n)) More more h = (h.0, tt, more made (Happens (orders.Tick n)) h.3)
before_each g line reach made m e es (entry.Happens o) More more h = absurd h
before_each g line reach made m e es entry.Begins More more h = absurd h
before_each g line reach made m e es (entry.Stays c) More more h = absurd h
before_each g line reach made m e es (entry.Resets r n) More more h = absurd h

stop_each : {State Call : Type 0} (g : Setting State Call) (line : ℕ) (reach : StopCondition) (es : List Entry) (made : ℕ) (m : Moment State Call) → GoesToStop g line reach made m es → Each line any es
stop_each g line reach [] made m h = tt
stop_each g line reach (e ∷ es) made m h =
    before_each g line reach made m e es e.said (λ n deed. GoesToStop g line reach n (after g m deed) es) (λ n deed k. stop_each g line reach es n (after g m deed) k) h

within_each : {State Call : Type 0} (g : Setting State Call) (line : ℕ) (reach : StopCondition) (m : Moment State Call) (os : List (Open Call)) (items : List Entry) → StopsWithin g line reach m os items → Each line any items
within_each g line reach m [] items h = absurd h
within_each g line (Count zero) m (o ∷ os) items h = absurd h
within_each g line (Count (suc n)) m (o ∷ os) items h = stop_each g line (Count (suc n)) items 0 m h
within_each g line (Until stop) m (o ∷ os) items h = stop_each g line (Until stop) items 0 m h
within_each g line Whole m (o ∷ os) items h = stop_each g line Whole items 0 m h

begun_each : {State Call : Type 0} (g : Setting State Call) (m : Moment State Call) (line : ℕ) (deed : Transition Call) (held : Option Held) (items : List Entry) → BeginsToStop g line m deed held items → Each line any items
begun_each g m line deed held items h = subst (λ (es : List Entry). Each line any es) (sym h.is) (refl, tt, stop_each g line Whole h.steps 0 (after g m deed) h.goes)

stop_lines : {State Call : Type 0} (g : Setting State Call) (call_of : Request → Call) (m : Moment State Call) (line : ℕ) (order : Order) (items : List Entry) → GivesToStop g call_of m line order items → Each line any items
stop_lines g call_of m line (orders.Do level r) items h = begun_each g m line (Begins (call_of r) level) (call_held g m (call_of r) level) items h
stop_lines g call_of m line (orders.Serve l) items h = begun_each g m line (Enters l) (line_held g m l) items h
stop_lines g call_of m line (orders.Run n) items h = within_each g line (Count n) m m.opens items h
stop_lines g call_of m line (orders.Upto stop) items h = within_each g line (Until stop) m m.opens items h
stop_lines g call_of m line orders.Finish items h = within_each g line Whole m m.opens items h
stop_lines g call_of m line _ items h = absurd h

stop_above : {State Call : Type 0} (g : Setting State Call) (call_of : Request → Call) (ds : List Directive) (low : ℕ) (m : Moment State Call) (es : List Entry) → LinesRise low ds → FollowsToStop g call_of m ds es → AllAbove low es
stop_above g call_of [] low m es rise h = absurd h
stop_above g call_of (d ∷ ds) low m es rise (inl h) = above_each low d.line es rise.0 (stop_lines g call_of m d.line d.order es h)
stop_above g call_of (d ∷ ds) low m es rise (inr h) =
    let own : Each d.line any h.first = lines_of g call_of m d.line d.order h.first (is_show d.order) refl h.gives in
    subst (λ (xs : List Entry). AllAbove low xs) (sym h.is) (above_both low d.line h.first h.later rise.0 own (stop_above g call_of ds d.line _ h.later rise.1 h.rest))

-- ---- a directive's items are those with its line

-- the items of the first directive, and those behind them
parted : (line : ℕ) (first later es : List Entry) → es ≡ first ++ later → Each line any first → AllAbove line later → (own_entries line es ≡ first) × (later_entries line es ≡ later)
parted line first later es is own above =
    (ap (λ (xs : List Entry). own_entries line xs) is ∙ own_are line first later own above, ap (λ (xs : List Entry). later_entries line xs) is ∙ later_are line first later own above)

-- items behind all that have the line
no_later : (line : ℕ) (first later : List Entry) → Each line any (first ++ later) → AllAbove line later → later ≡ []
unfolding AllAbove
no_later line [] [] own above = refl
no_later line [] (e ∷ es) own above = absurd (let at = own.0 in let over = above.0 in omega (arith, at, over))
no_later line (e ∷ first) later own above = no_later line first later own.2 above

all_first : (first later : List Entry) → later ≡ [] → first ++ later ≡ first
all_first first later e = rw e (append-nil first)

follows_not : {State Call : Type 0} (g : Setting State Call) (call_of : Request → Call) (ds : List Directive) (low : ℕ) (m : Moment State Call) (es : List Entry) → LinesRise low ds → Follows g call_of m ds es → FollowsToStop g call_of m ds es → ⊥
follows_not g call_of [] low m es rise h k = k
follows_not g call_of (d ∷ ds) low m es rise h (inl k) =
    let above = (both_left g call_of ds d.line _ h.later rise.1 h.rest).0 in
    let own = subst (λ (xs : List Entry). Each d.line any xs) h.is (stop_lines g call_of m d.line d.order es k) in
    let same : es ≡ h.first = h.is ∙ all_first h.first h.later (no_later d.line h.first h.later own above) in
    gives_not g call_of m d.line d.order h.first h.gives (subst (λ (xs : List Entry). GivesToStop g call_of m d.line d.order xs) same k)
follows_not g call_of (d ∷ ds) low m es rise h (inr k) =
    let own : Each d.line any h.first = lines_of g call_of m d.line d.order h.first (is_show d.order) refl h.gives in
    let own1 : Each d.line any k.first = lines_of g call_of m d.line d.order k.first (is_show d.order) refl k.gives in
    let a = parted d.line h.first h.later es h.is own (both_left g call_of ds d.line _ h.later rise.1 h.rest).0 in
    let b = parted d.line k.first k.later es k.is own1 (stop_above g call_of ds d.line _ k.later rise.1 k.rest) in
    let first : k.first ≡ h.first = sym b.0 ∙ a.0 in
    let later : k.later ≡ h.later = sym b.1 ∙ a.1 in
    let rest = subst (λ (xs : List Entry). FollowsToStop g call_of (after_all g m (deeds_in call_of d.order xs)) ds k.later) first k.rest in
    follows_not g call_of ds d.line (after_all g m (deeds_in call_of d.order h.first)) h.later rise.1 h.rest (subst (λ (xs : List Entry). FollowsToStop g call_of (after_all g m (deeds_in call_of d.order h.first)) ds xs) later rest)

pub not_both : (devices : ℕ) (config : Config) (script : List Directive) (es : List Entry) → IsScript script → IsWholeRun devices config script es → IsStoppedRun devices config script es → ⊥
not_both devices config script es s whole stopped =
    follows_not (system_setting config) call_of script 0 (start_moment (system_setting config) (chip_for devices config script)) es s.lines whole.run.follows stopped.run.follows
