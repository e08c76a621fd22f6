-- A run that stopped, and the steps that are counted.
use Rattle.std.proofs.Common.{◌≡◌, ℕ, zero, suc, ◌+◌, false, cond, List, [], ◌∷◌, ◌++◌, refl, ◌∙◌, ap, inl, inr, arith, append_assoc}
use Rattle.std.proofs.lemmas.List.Sums.{sum_by-append}
use Rattle.mcal_base.specs.declared.directive.Directive.{Directive}
use Rattle.mcal_base.specs.declared.directive.Order.{Order}
use Rattle.mcal_base.specs.declared.directive.Request.{Request}
use Rattle.run_model.specs.declared.item.Stepped.{Stepped}
use Rattle.run_model.specs.declared.stop_condition.StopCondition.{StopCondition}
use Rattle.run_model.specs.declared.stop_condition.StopCondition.TheVariants.{Count, Until, Whole}
use Rattle.run_model.specs.Entry.{Entry, Said, Written, written}
use Rattle.run_model.specs.Frame.{Open}
use Rattle.run_model.specs.Follows.{deeds_in}
use Rattle.run_model.specs.Moment.{Setting, Moment, after_all}
use Rattle.run_model.specs.Stops.{GoesToStop, StopsWithin, GivesToStop, FollowsToStop, is_step, steps_in}
use Rattle.run_model.proofs.Following.{FollowsTo, Nothing_followed, Then_followed, Went, Not_yet, Step_on, Readies, At_once, After_wait}
use Rattle.script_runner.specs.Standing.{IsCounted}

-- steps at none of which the directive stops, and then others
pub stops_through : {State Call : Type 0} (g : Setting State Call) (line : ℕ) (reach : StopCondition) {made made1 : ℕ} {m last : Moment State Call} {es : List Entry} (fs : List Entry) → Went g line reach made m es made1 last → GoesToStop g line reach made1 last fs → GoesToStop g line reach made m (es ++ fs)
stops_through g line reach fs (Not_yet made m) h = h
stops_through g line reach fs (Step_on made m t ws m1 es made1 last At_once q k rest) h = (refl, refl, rw (q, k) refl, stops_through g line reach fs rest h)
stops_through g line reach fs (Step_on made m t ws m1 es made1 last (After_wait u busy shown may early awaited) q k rest) h =
    (refl, refl, record { unit = u; busy = busy; ticks = refl; unmasked = shown; may = may; in_time = early; step = awaited }, (refl, refl, rw (q, k) refl, stops_through g line reach fs rest h))

-- the wait of the step that would come next
pub waits_to_stop : {State Call : Type 0} (g : Setting State Call) (line : ℕ) (reach : StopCondition) (made : ℕ) {m m1 : Moment State Call} {s : Stepped} {ws : List Entry} → Readies g line m s ws m1 → GoesToStop g line reach made m ws
waits_to_stop g line reach made At_once = tt
waits_to_stop g line reach made (After_wait u busy shown may early awaited) = (refl, refl, record { unit = u; busy = busy; ticks = refl; unmasked = shown; may = may; in_time = early; step = tt }, tt)

-- what a wait is to the machine
pub ready_deeds : {State Call : Type 0} (g : Setting State Call) (call_of : Request → Call) (order : Order) (line : ℕ) {m m1 : Moment State Call} {s : Stepped} {ws : List Entry} → Readies g line m s ws m1 → after_all g m (deeds_in call_of order ws) ≡ m1
ready_deeds g call_of order line At_once = refl
ready_deeds g call_of order line (After_wait u busy shown may early awaited) = refl

-- the same as items of a directive that wants a step of a frame that is there
pub stops_within : {State Call : Type 0} (g : Setting State Call) (line : ℕ) (reach : StopCondition) (m : Moment State Call) (items : List Entry) (o : Open Call) (os : List (Open Call)) → (reach ≡ Count 0 → ⊥) → GoesToStop g line reach 0 m items → StopsWithin g line reach m (o ∷ os) items
stops_within g line (Count zero) m items o os not h = absurd (not refl)
stops_within g line (Count (suc n)) m items o os not h = h
stops_within g line (Until stop) m items o os not h = h
stops_within g line Whole m items o os not h = h

-- the items of some directives, and then those of the next up to the stop
pub follows_to_stop : {State Call : Type 0} (g : Setting State Call) (call_of : Request → Call) {m last : Moment State Call} {ds : List Directive} {es : List Entry} (d : Directive) (later_ds : List Directive) (now : List Entry) → FollowsTo g call_of m ds es last → GivesToStop g call_of last d.line d.order now → FollowsToStop g call_of m (ds ++ d ∷ later_ds) (es ++ now)
follows_to_stop g call_of d later_ds now (Nothing_followed m) gives = inl gives
follows_to_stop g call_of d later_ds now (Then_followed m e ds first later last held rest) gives =
    inr (record { first = first; later = later ++ now; is = append_assoc first later now; gives = held; rest = follows_to_stop g call_of d later_ds now rest gives })

-- an item is counted where it is a step
pub steps_written : (w : Written) (line depth : ℕ) (said : Said) (words : List ℕ) → steps_in (written w line depth said words).entries ≡ steps_in w.entries + cond (is_step said) 1 0
steps_written w line depth said words =
    let e : Entry = record { line = line; depth = depth; said = said } in
    sum_by-append (λ x. cond (is_step x.said) 1 0) w.entries (e ∷ []) ∙ omega arith

-- an item that is no step is not counted
pub no_step_counted : (line n : ℕ) (said : Said) (ws : List ℕ) (taken taken1 : ℕ) (before after : Written) → is_step said ≡ false → taken1 ≡ taken → after ≡ written before line n said ws → IsCounted taken before taken1 after
no_step_counted line n said ws taken taken1 before after other same is =
    let more = ap (λ w. steps_in w.entries) is ∙ steps_written before line n said ws in
    let none = ap {B = ℕ} (λ b. cond b 1 0) other in
    omega (arith, more, none, same)

-- the steps of some items, and then of two that are none
pub two_counted : (xs : List Entry) (e f : Entry) → is_step e.said ≡ false → is_step f.said ≡ false → steps_in (xs ++ e ∷ f ∷ []) ≡ steps_in xs
two_counted xs e f one two = sum_by-append (λ x. cond (is_step x.said) 1 0) xs (e ∷ f ∷ []) ∙ rw (one, two) (omega arith)
