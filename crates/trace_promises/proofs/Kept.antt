-- What the machines of two drivers keep is kept by both as one, and by every run.
use Rattle.std.proofs.Common.{ℕ, Bool, true, false, List, [], ◌∷◌, ◌++◌, Option, Some, None}
use Rattle.std.specs.Prelude.{cond}
use Rattle.mcal_base.specs.declared.directive.Directive.{Directive}
use Rattle.mcal_base.specs.declared.directive.Order.{Order}
use Rattle.mcal_base.specs.declared.directive.Order.TheVariants as orders
use Rattle.mcal_base.specs.declared.directive.Request.{Request}
use Rattle.mcal_base.specs.declared.directive.Shown.{Shown}
use Rattle.mcal_base.specs.declared.moves.Event.{Event}
use Rattle.mcal_base.specs.declared.moves.Event.TheVariants as events
use Rattle.run_model.specs.Entry as entry
use Rattle.run_model.specs.Frame.{Open, Origin, Called, Entered, Brought, state_by, outcome_of, happening_at, brought_by}
use Rattle.run_model.specs.Machine.{Happening, Acts, Serves, Starts, Aborts, Moves, Restarts, Outcome}
use Rattle.run_model.specs.Moment.{Setting, Moment, Transition, Begins, Enters, Steps, Happens, Resets, after, after_all}
use Rattle.run_model.specs.Script.{order_at, beginnings_of, moved_by, deed_of}
use Rattle.run_model.specs.World.{World, world_after}
use Rattle.run_model.specs.declared.item.Stepped.{Stepped}
use Rattle.step_runner.specs.Union.{first_call, second_call, union_setting, lift_out, in_both, in_first}
use Rattle.step_runner.specs.declared.either.Either.{Either}
use Rattle.step_runner.specs.declared.either.Either.TheVariants.{Left, Right}
use Rattle.service_outline.specs.guests.Guest.{Guest, guest_happens, guest_setting}
use Rattle.bench_report.specs.Numbers.{IsNumber, Each}
use Rattle.bench_report.specs.Rows.{Row}
use Rattle.bench_report.specs.Showing.{Showing, item_rows, shows_from}
use Rattle.trace_promises.specs.Keeping.{OrderBrings, WorldFits, HappeningFits, Keeps}
use Rattle.trace_promises.specs.Numbers.{SaidBrings, BringsNumbers}

-- nothing is asked of a state
pub keeps_nothing : {State Call : Type 0} (g : Setting State Call) → Keeps g (λ s. Unit {0})
keeps_nothing g = record { first = tt; stays = λ w s h v f p. tt }

-- ---- two as one

module _ {S T : Type 0} (P : S → Type 0) (Q : T → Type 0) where
  abbrev Both : S × T → Type 0
  Both s = P s.0 × Q s.1

  at_first : (s : S × T) (o : Option (Outcome S)) → P (state_by s.0 o) → Q s.1 → Both (state_by s (lift_out (λ a. (a, s.1)) o))
  at_first s None p q = (p, q)
  at_first s (Some out) p q = (p, q)

  at_second : (s : S × T) (o : Option (Outcome T)) → P s.0 → Q (state_by s.1 o) → Both (state_by s (lift_out (λ b. (s.0, b)) o))
  at_second s None p q = (p, q)
  at_second s (Some out) p q = (p, q)

  at_one : (s : S × T) (b : Bool) (x y : Option (Outcome (S × T))) → Both (state_by s x) → Both (state_by s y) → Both (state_by s (cond b x y))
  at_one s true x y p q = p
  at_one s false x y p q = q

  at_either : (s : S × T) (x : Option (Outcome S)) (y : Option (Outcome T)) → Both s → P (state_by s.0 x) → Q (state_by s.1 y) → Both (state_by s (in_first s.0 s.1 x y))
  at_either s (Some out) y h p q = (p, h.1)
  at_either s None None h p q = h
  at_either s None (Some out) h p q = (h.0, q)

  at_both : (s : S × T) (x : Option (Outcome S)) (y : Option (Outcome T)) → Both s → P (state_by s.0 x) → Q (state_by s.1 y) → Both (state_by s (in_both x y))
  at_both s None y h p q = h
  at_both s (Some x) None h p q = h
  at_both s (Some x) (Some y) h p q = (p, q)

  module _ {C D : Type 0} (ours : ℕ → Bool) (g : Setting S C) (h : Setting T D) (a : Keeps g P) (b : Keeps h Q) where
    both_stay : (w : World) (s : S × T) (x : Happening (Either C D)) → WorldFits w → HappeningFits x → Both s → Both (state_by s ((union_setting ours g h).machine.happens w s x))
    both_stay w s (Acts (Left c) times) v f k = at_first s _ (a.stays w s.0 (Acts c times) v f k.0) k.1
    both_stay w s (Acts (Right d) times) v f k = at_second s _ k.0 (b.stays w s.1 (Acts d times) v f k.1)
    both_stay w s (Serves l r) v f k = at_one s (ours l) _ _ (at_first s _ (a.stays w s.0 (Serves l r) v f k.0) k.1) (at_second s _ k.0 (b.stays w s.1 (Serves l r) v f k.1))
    both_stay w s (Starts u made_by r) v f k = at_either s (g.machine.happens w s.0 (Starts u (first_call made_by) r)) (h.machine.happens w s.1 (Starts u (second_call made_by) r)) k (a.stays w s.0 (Starts u (first_call made_by) r) v f k.0) (b.stays w s.1 (Starts u (second_call made_by) r) v f k.1)
    both_stay w s (Aborts u) v f k = at_either s (g.machine.happens w s.0 (Aborts u)) (h.machine.happens w s.1 (Aborts u)) k (a.stays w s.0 (Aborts u) v f k.0) (b.stays w s.1 (Aborts u) v f k.1)
    both_stay w s (Moves order) v f k = at_both s (g.machine.happens w s.0 (Moves order)) (h.machine.happens w s.1 (Moves order)) k (a.stays w s.0 (Moves order) v f k.0) (b.stays w s.1 (Moves order) v f k.1)
    both_stay w s (Restarts reason) v f k = at_both s (g.machine.happens w s.0 (Restarts reason)) (h.machine.happens w s.1 (Restarts reason)) k (a.stays w s.0 (Restarts reason) v f k.0) (b.stays w s.1 (Restarts reason) v f k.1)

    pub keeps_both : Keeps (union_setting ours g h) Both
    keeps_both = record { first = (a.first, b.first); stays = both_stay }

-- ---- with a guest, whose calls keep it too

module _ {S C D G : Type 0} (P : S → Type 0) (h : Setting S C) (g : Guest S D G) (keeps : Keeps h P) (calls : (w : World) (s : S) (c : D) → P s → P (g.does w s c).state) where
  guest_stays : (w : World) (s : S) (x : Happening (Either C D)) → WorldFits w → HappeningFits x → P s → P (state_by s (guest_happens h.machine g w s x))
  guest_stays w s (Acts (Left c) times) v f k = keeps.stays w s (Acts c times) v f k
  guest_stays w s (Acts (Right c) times) v f k = calls w s c k
  guest_stays w s (Serves l r) v f k = keeps.stays w s (Serves l r) v f k
  guest_stays w s (Starts u made_by r) v f k = keeps.stays w s (Starts u (first_call made_by) r) v f k
  guest_stays w s (Aborts u) v f k = keeps.stays w s (Aborts u) v f k
  guest_stays w s (Moves order) v f k = keeps.stays w s (Moves order) v f k
  guest_stays w s (Restarts reason) v f k = keeps.stays w s (Restarts reason) v f k

  pub keeps_guest : Keeps (guest_setting h g) P
  keeps_guest = record { first = keeps.first; stays = guest_stays }

-- ---- what a run brings

abbrev EventFits : {Call : Type 0} → Option (Happening Call) → Type 0
EventFits None = Unit {0}
EventFits (Some h) = HappeningFits h

event_fits : {Call : Type 0} (origin : Origin Call) (b : Brought) (e : Option Event) → IsNumber b.received → EventFits (happening_at origin b e)
event_fits origin b None k = tt
event_fits (Called c) b (Some events.Act) k = tt
event_fits (Entered l) b (Some events.Act) k = tt
event_fits (Called c) b (Some (events.Serve l)) k = k
event_fits (Entered m) b (Some (events.Serve l)) k = k
event_fits (Called c) b (Some (events.Abort u)) k = tt
event_fits (Entered l) b (Some (events.Abort u)) k = tt
event_fits (Called c) b (Some (events.Start u)) k = k
event_fits (Entered l) b (Some (events.Start u)) k = k

abbrev DeedFits : {Call : Type 0} → Transition Call → Type 0
DeedFits (Steps s) = IsNumber s.received
DeedFits (Happens order) = OrderBrings order
DeedFits _ = Unit {0}

moved_fit : (Call : Type 0) (order : Order) → OrderBrings order → Each DeedFits (moved_by {Call = Call} order)
moved_fit Call (orders.Show what) k = tt
moved_fit Call _ k = (k, tt)

begun_fit : {Call : Type 0} (call_of : Request → Call) (o : Option Order) → Each DeedFits (beginnings_of call_of o)
begun_fit call_of (Some (orders.Call level r)) = (tt, tt)
begun_fit call_of (Some (orders.Do level r)) = (tt, tt)
begun_fit call_of (Some (orders.Enter line)) = (tt, tt)
begun_fit call_of (Some (orders.Serve line)) = (tt, tt)
begun_fit call_of _ = tt

deeds_fit : {Call : Type 0} (call_of : Request → Call) (o : Option Order) (said : entry.Said) → SaidBrings said → Each DeedFits (deed_of call_of o said)
deeds_fit call_of o (entry.Happens order) k = moved_fit _ order k
deeds_fit call_of o entry.Begins k = begun_fit call_of o
deeds_fit call_of o (entry.Stays cause) k = tt
deeds_fit call_of o (entry.Steps step) k = (k, tt)
deeds_fit call_of o (entry.Resets reason dropped) k = (tt, tt)

-- ---- a run

-- what analog inputs took
world_fits : (w : World) (rate : ℕ) (order : Order) → OrderBrings order → WorldFits w → WorldFits (world_after w rate order)
world_fits w rate (orders.Analog i level) f v = (f, v)
world_fits w rate (orders.Tick n) f v = v
world_fits w rate (orders.Level p high) f v = v
world_fits w rate _ f v = v

module _ {State Call : Type 0} (g : Setting State Call) (P : State → Type 0) (keeps : Keeps g P) where
  abbrev MomentFits : Moment State Call → Type 0
  MomentFits m = WorldFits m.world × P m.state

  by_happening : (w : World) (s : State) (h : Option (Happening Call)) → WorldFits w → EventFits h → P s → P (state_by s (outcome_of g.machine w s h))
  by_happening w s None v f p = p
  by_happening w s (Some h) v f p = keeps.stays w s h v f p

  kept_step : (m : Moment State Call) (opens : List (Open Call)) (s : Stepped) → IsNumber s.received → MomentFits m → MomentFits (after g (record m { opens = opens }) (Steps s))
  kept_step m [] s f k = k
  kept_step m (o ∷ os) s f k =
      let brought = brought_by m.world o.committed s.made s.received in
      (k.0, by_happening m.world m.state (happening_at o.origin brought s.event) k.0 (event_fits o.origin brought s.event f) k.1)

  kept_after : (m : Moment State Call) (d : Transition Call) → DeedFits d → MomentFits m → MomentFits (after g m d)
  kept_after m (Begins c level) f k = k
  kept_after m (Enters l) f k = k
  kept_after m (Steps s) f k = kept_step m m.opens s f k
  kept_after m (Happens order) f k = (world_fits m.world (g.machine.rate m.state) order f k.0, keeps.stays m.world m.state (Moves order) k.0 f k.1)
  kept_after m (Resets reason) f k = (k.0, keeps.stays m.world m.state (Restarts reason) k.0 tt k.1)

  kept_all : (m : Moment State Call) (ds : List (Transition Call)) → Each DeedFits ds → MomentFits m → MomentFits (after_all g m ds)
  kept_all m [] f k = k
  kept_all m (d ∷ ds) f k = kept_all (after g m d) ds f.1 (kept_after m d f.0 k)

  -- ---- what it shows

  module _ (call_of : Request → Call) (showing : Showing State) (script : List Directive) (R : List Row → Type 0) (right : (w : World) (s : State) (what : Shown) → P s → R (showing w s what)) where
    order_shows : (m : Moment State Call) (order : Order) (others : List (List Row)) → P m.state → Each R others → Each R (item_rows showing m (entry.Happens order) ++ others)
    order_shows m (orders.Show what) others p h = (right m.world m.state what p, h)
    order_shows m _ others p h = h

    item_shows : (m : Moment State Call) (said : entry.Said) (others : List (List Row)) → P m.state → Each R others → Each R (item_rows showing m said ++ others)
    item_shows m (entry.Happens order) others p h = order_shows m order others p h
    item_shows m entry.Begins others p h = h
    item_shows m (entry.Stays cause) others p h = h
    item_shows m (entry.Steps step) others p h = h
    item_shows m (entry.Resets reason dropped) others p h = h

    pub shows_right : (m : Moment State Call) (es : List entry.Entry) → Each BringsNumbers es → MomentFits m → Each R (shows_from g call_of showing script m es)
    shows_right m [] f k = tt
    shows_right m (e ∷ es) f k =
        let order = order_at script e.line in
        let deeds = deed_of call_of order e.said in
        item_shows m e.said _ k.1 (shows_right (after_all g m deeds) es f.1 (kept_all m deeds (deeds_fit call_of order e.said f.0) k))
