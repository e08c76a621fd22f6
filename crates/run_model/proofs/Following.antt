-- A journal that follows a script, as items are added at its end.
use Rattle.std.proofs.Common.{◌≡◌, ℕ, ◌+◌, ◌<◌, true, false, ◌||◌, List, [], ◌∷◌, ◌++◌, length, Some, is_some, refl, sym, ◌∙◌, ap, subst, append_assoc, append-nil}
use Rattle.chip_model.specs.Chip.{wait_on, is_masked}
use Rattle.mcal_base.specs.declared.directive.Directive.{Directive}
use Rattle.mcal_base.specs.declared.directive.Order.{Order}
use Rattle.mcal_base.specs.declared.directive.Order.TheVariants as orders
use Rattle.mcal_base.specs.declared.directive.Reason.TheVariants.{Watchdog, Software}
use Rattle.mcal_base.specs.declared.directive.Request.{Request}
use Rattle.run_model.specs.declared.item.Stepped.{Stepped}
use Rattle.run_model.specs.declared.stop_condition.StopCondition.{StopCondition}
use Rattle.run_model.specs.Entry as entry
use Rattle.run_model.specs.Moment.{Setting, Moment, Transition, Steps, Happens, Resets, after, after_all}
use Rattle.run_model.specs.Script.{order_at, deed_of, deeds_of}
use Rattle.run_model.specs.Follows.{awaits, MayWait, ends_within, is_reached, GoesOn, Gives, deeds_in, Follows}
use Rattle.run_model.specs.Frame.{resets_chip}

pub after_all-append : {State Call : Type 0} (g : Setting State Call) (m : Moment State Call) (hs ks : List (Transition Call)) → after_all g m (hs ++ ks) ≡ after_all g (after_all g m hs) ks
after_all-append g m [] ks = refl
after_all-append g m (h ∷ hs) ks = after_all-append g (after g m h) hs ks

pub deeds_of-append : {Call : Type 0} (call_of : Request → Call) (script : List Directive) (es fs : List entry.Entry) → deeds_of call_of script (es ++ fs) ≡ deeds_of call_of script es ++ deeds_of call_of script fs
deeds_of-append call_of script [] fs = refl
deeds_of-append call_of script (e ∷ es) fs =
    ap (λ ds. deed_of call_of (order_at script e.line) e.said ++ ds) (deeds_of-append call_of script es fs)
    ∙ sym (append_assoc (deed_of call_of (order_at script e.line) e.said) (deeds_of call_of script es) (deeds_of call_of script fs))

pub deeds_in-append : {Call : Type 0} (call_of : Request → Call) (order : Order) (es fs : List entry.Entry) → deeds_in call_of order (es ++ fs) ≡ deeds_in call_of order es ++ deeds_in call_of order fs
deeds_in-append call_of order [] fs = refl
deeds_in-append call_of order (e ∷ es) fs =
    ap (λ ds. deed_of call_of (Some order) e.said ++ ds) (deeds_in-append call_of order es fs)
    ∙ sym (append_assoc (deed_of call_of (Some order) e.said) (deeds_in call_of order es) (deeds_in call_of order fs))

-- the items follow the directives, and lead from a moment to a moment
pub data FollowsTo {State Call : Type 0} (g : Setting State Call) (call_of : Request → Call) : Moment State Call → List Directive → List entry.Entry → Moment State Call → Type 0 where
  Nothing_followed : (m : Moment State Call) → FollowsTo g call_of m [] [] m
  Then_followed : (m : Moment State Call) (d : Directive) (ds : List Directive) (now later : List entry.Entry) (last : Moment State Call) → Gives g call_of m d.line d.order now → FollowsTo g call_of (after_all g m (deeds_in call_of d.order now)) ds later last → FollowsTo g call_of m (d ∷ ds) (now ++ later) last

pub follows_from : {State Call : Type 0} (g : Setting State Call) (call_of : Request → Call) {m last : Moment State Call} {ds : List Directive} {es : List entry.Entry} → FollowsTo g call_of m ds es last → Follows g call_of m ds es
follows_from g call_of (Nothing_followed m) = refl
follows_from g call_of (Then_followed m d ds now later last gives rest) = record { first = now; later = later; is = refl; gives = gives; rest = follows_from g call_of rest }

pub follows_more : {State Call : Type 0} (g : Setting State Call) (call_of : Request → Call) {m last : Moment State Call} {ds : List Directive} {es : List entry.Entry} (d : Directive) (now : List entry.Entry) → FollowsTo g call_of m ds es last → Gives g call_of last d.line d.order now → FollowsTo g call_of m (ds ++ d ∷ []) (es ++ now) (after_all g last (deeds_in call_of d.order now))
follows_more g call_of d now (Nothing_followed m) gives =
    subst (λ es. FollowsTo g call_of m (d ∷ []) es (after_all g m (deeds_in call_of d.order now))) (append-nil now) (Then_followed m d [] now [] (after_all g m (deeds_in call_of d.order now)) gives (Nothing_followed (after_all g m (deeds_in call_of d.order now))))
follows_more g call_of d now (Then_followed m e ds first later last held rest) gives =
    subst (λ es. FollowsTo g call_of m (e ∷ (ds ++ d ∷ [])) es (after_all g last (deeds_in call_of d.order now))) (sym (append_assoc first later now))
    (Then_followed m e (ds ++ d ∷ []) first (later ++ now) (after_all g last (deeds_in call_of d.order now)) held (follows_more g call_of d now rest gives))

-- what stands before a step of the top frame, and the moment in which the step is made: nothing, or its wait
pub data Readies {State Call : Type 0} (g : Setting State Call) (line : ℕ) (m : Moment State Call) (s : Stepped) : List entry.Entry → Moment State Call → Type 0 where
  At_once : Readies g line m s [] m
  After_wait : (u : ℕ) → 0 < wait_on m.chip u → is_masked m.chip ≡ false → MayWait g m.opens u → ends_within (wait_on m.chip u) (g.machine.expires m.world m.state) ≡ false → awaits u s.made ≡ true → Readies g line m s ((record { line = line; depth = length m.opens; said = entry.Happens (orders.Tick (wait_on m.chip u)) }) ∷ []) (after g m (Happens (orders.Tick (wait_on m.chip u))))

-- the items are steps of the top frame at none of which the directive stops, and lead from a moment to a moment, after so many steps
pub data Went {State Call : Type 0} (g : Setting State Call) (line : ℕ) (reach : StopCondition) : ℕ → Moment State Call → List entry.Entry → ℕ → Moment State Call → Type 0 where
  Not_yet : (made : ℕ) (m : Moment State Call) → Went g line reach made m [] made m
  Step_on : (made : ℕ) (m : Moment State Call) (s : Stepped) (ws : List entry.Entry) (m1 : Moment State Call) (es : List entry.Entry) (made1 : ℕ) (last : Moment State Call) → Readies g line m s ws m1 → resets_chip s.made ≡ false → is_some s.ended || is_reached reach (made + 1) s ≡ false → Went g line reach (made + 1) (after g m1 (Steps s)) es made1 last → Went g line reach made m (ws ++ (record { line = line; depth = length m1.opens; said = entry.Steps s }) ∷ es) made1 last

module _ {State Call : Type 0} (g : Setting State Call) (line : ℕ) (reach : StopCondition) where
  -- the item of a step in this moment
  abbrev step_at : Moment State Call → Stepped → entry.Entry
  step_at m s = record { line = line; depth = length m.opens; said = entry.Steps s }

  -- one more step, after its wait
  pub went_more : {made made1 : ℕ} {m last : Moment State Call} {es : List entry.Entry} (s : Stepped) (ws : List entry.Entry) (m1 : Moment State Call) → Went g line reach made m es made1 last → Readies g line last s ws m1 → resets_chip s.made ≡ false → is_some s.ended || is_reached reach (made1 + 1) s ≡ false → Went g line reach made m (es ++ (ws ++ step_at m1 s ∷ [])) (made1 + 1) (after g m1 (Steps s))
  went_more s ws m1 (Not_yet made m) w r h = Step_on made m s ws m1 [] (made + 1) (after g m1 (Steps s)) w r h (Not_yet (made + 1) (after g m1 (Steps s)))
  went_more s ws m1 (Step_on made m t vs m2 es made1 last At_once q k rest) w r h = Step_on made m t [] m (es ++ (ws ++ step_at m1 s ∷ [])) (made1 + 1) (after g m1 (Steps s)) At_once q k (went_more s ws m1 rest w r h)
  went_more s ws m1 (Step_on made m t vs m2 es made1 last (After_wait u busy shown may early awaited) q k rest) w r h = Step_on made m t vs m2 (es ++ (ws ++ step_at m1 s ∷ [])) (made1 + 1) (after g m1 (Steps s)) (After_wait u busy shown may early awaited) q k (went_more s ws m1 rest w r h)

  -- the items go on with others where these come from the moment to which they lead
  pub goes_through : {made made1 : ℕ} {m last : Moment State Call} {es : List entry.Entry} (fs : List entry.Entry) → Went g line reach made m es made1 last → GoesOn g line reach made1 last fs → GoesOn g line reach made m (es ++ fs)
  goes_through fs (Not_yet made m) h = h
  goes_through fs (Step_on made m t vs m2 es made1 last At_once q k rest) h = (refl, refl, rw q (rw k (goes_through fs rest h)))
  goes_through fs (Step_on made m t vs m2 es made1 last (After_wait u busy shown may early awaited) q k rest) h = (refl, refl, record { unit = u; busy = busy; unmasked = shown; may = may; goes = rw early (refl, awaited, (refl, refl, rw q (rw k (goes_through fs rest h)))) })

  -- after its wait a step comes, and what comes after it
  pub goes_ready : (made : ℕ) (m : Moment State Call) (s : Stepped) (ws : List entry.Entry) (m1 : Moment State Call) (fs : List entry.Entry) → Readies g line m s ws m1 → GoesOn g line reach made m1 (step_at m1 s ∷ fs) → GoesOn g line reach made m (ws ++ step_at m1 s ∷ fs)
  goes_ready made m s ws m1 fs At_once h = h
  goes_ready made m s ws m1 fs (After_wait u busy shown may early awaited) h = (refl, refl, record { unit = u; busy = busy; unmasked = shown; may = may; goes = rw early (refl, awaited, h) })

  -- a last step, at which the directive stops
  pub goes_on_to : {made made1 : ℕ} {m last : Moment State Call} {es : List entry.Entry} (s : Stepped) (ws : List entry.Entry) (m1 : Moment State Call) → Went g line reach made m es made1 last → Readies g line last s ws m1 → resets_chip s.made ≡ false → is_some s.ended || is_reached reach (made1 + 1) s ≡ true → GoesOn g line reach made m (es ++ (ws ++ step_at m1 s ∷ []))
  goes_on_to {made1 = made1} {last = last} s ws m1 w ready r h = goes_through (ws ++ step_at m1 s ∷ []) w (goes_ready made1 last s ws m1 [] ready (refl, refl, rw r (rw h refl)))

  -- a last step, which resets the chip
  pub goes_on_to_reset : {made made1 : ℕ} {m last : Moment State Call} {es : List entry.Entry} (s : Stepped) (ws : List entry.Entry) (m1 : Moment State Call) → Went g line reach made m es made1 last → Readies g line last s ws m1 → resets_chip s.made ≡ true → GoesOn g line reach made m (es ++ (ws ++ step_at m1 s ∷ (record { line = line; depth = length (after g m1 (Steps s)).opens; said = entry.Resets Software (length (after g m1 (Steps s)).opens) }) ∷ []))
  goes_on_to_reset {made1 = made1} {last = last} s ws m1 w ready r = goes_through (ws ++ step_at m1 s ∷ (record { line = line; depth = length (after g m1 (Steps s)).opens; said = entry.Resets Software (length (after g m1 (Steps s)).opens) }) ∷ []) w (goes_ready made1 last s ws m1 ((record { line = line; depth = length (after g m1 (Steps s)).opens; said = entry.Resets Software (length (after g m1 (Steps s)).opens) }) ∷ []) ready (refl, refl, rw r refl))

  -- a wait in which the watchdog's time ends: its reset comes in place of the step
  pub goes_on_to_end : {made made1 : ℕ} {m last : Moment State Call} {es : List entry.Entry} (u left : ℕ) → Went g line reach made m es made1 last → 0 < wait_on last.chip u → is_masked last.chip ≡ false → MayWait g last.opens u → g.machine.expires last.world last.state ≡ Some left → ends_within (wait_on last.chip u) (Some left) ≡ true → GoesOn g line reach made m (es ++ (record { line = line; depth = length last.opens; said = entry.Happens (orders.Tick left) }) ∷ (record { line = line; depth = length last.opens; said = entry.Resets Watchdog (length last.opens) }) ∷ [])
  goes_on_to_end {last = last} u left w busy shown may is late = goes_through ((record { line = line; depth = length last.opens; said = entry.Happens (orders.Tick left) }) ∷ (record { line = line; depth = length last.opens; said = entry.Resets Watchdog (length last.opens) }) ∷ []) w (refl, refl, record { unit = u; busy = busy; unmasked = shown; may = may; goes = rw (is, late) (refl, refl) })

  -- what the items are to the machine
  pub went_deeds : (call_of : Request → Call) (order : Order) {made made1 : ℕ} {m last : Moment State Call} {es : List entry.Entry} → Went g line reach made m es made1 last → after_all g m (deeds_in call_of order es) ≡ last
  went_deeds call_of order (Not_yet made m) = refl
  went_deeds call_of order (Step_on made m t vs m2 es made1 last At_once q k rest) = went_deeds call_of order rest
  went_deeds call_of order (Step_on made m t vs m2 es made1 last (After_wait u busy shown may early awaited) q k rest) = went_deeds call_of order rest
