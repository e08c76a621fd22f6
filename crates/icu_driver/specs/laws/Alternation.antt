-- The edges of a measurement turn, as the levels of its pin do.
-- From module_machines: icu.Edges.
-- Used by Levels.
use Rattle.std.proofs.Common.{◌≡◌, ℕ, ◌+◌, ◌%◌, ◌^◌, Bool, true, false, ◌&&◌, ◌||◌, ◌==◌, not, nat_lt, List, [], ◌∷◌, ◌++◌, length, cond, Option, Some, None, refl, sym, ◌∙◌, ap, subst}
use Rattle.std.specs.Prelude.{if◌then◌else◌}
use Rattle.std.proofs.lemmas.List.{append_assoc}
use Rattle.mcal_base.specs.facts.Truths.{on_off}
use Rattle.mcal_base.specs.facts.Numbers.{eq_is}
use Rattle.mcal_base.specs.declared.config.icu.IcuMeasurementMode.{IcuMeasurementMode}
use Rattle.mcal_base.specs.declared.config.icu.IcuMeasurementMode.TheVariants.{SignalMeasurement}
use Rattle.run_model.specs.World.{World, with_at}
use Rattle.module_machines.specs.icu.Edges.{Edge, is_same}
use Rattle.icu_driver.specs.Refinement.{Alternate, EndsAt, HasTurns}
use Rattle.module_machines.specs.icu.Machine.{Capture, edge_taken, edge_queued, edge_at_pin}
use Rattle.module_machines.specs.icu.Table.{is_counter, is_measurement, chooses}
use Rattle.module_machines.specs.declared.icu.table.Channel.{Channel}
use Rattle.module_machines.specs.icu.laws.Edges.{taken-still}

turned_level : (old v : Bool) → is_same old v ≡ false → is_same v (not old) ≡ true
turned_level true true e = absurd (cc)
turned_level true false e = refl
turned_level false true e = refl
turned_level false false e = absurd (cc)

-- ---- one more edge behind the others

alternate_more : (lost old : Bool) (es : List Edge) (e : Edge) → is_same e.rising (not old) ≡ true → e.after_gap ≡ lost → Alternate es → EndsAt lost old es → Alternate (es ++ e ∷ [])
alternate_more lost old [] e t g a h = tt
alternate_more lost old (x ∷ []) e t g a h = (λ f. ap (λ b. is_same e.rising (not b)) (h (sym g ∙ f)) ∙ t, tt)
alternate_more lost old (x ∷ y ∷ ys) e t g a h = (a.0, alternate_more lost old (y ∷ ys) e t g a.1 h)

ends_more : (es : List Edge) (e : Edge) → EndsAt false e.rising (es ++ e ∷ [])
ends_more [] e = λ f. refl
ends_more (x ∷ []) e = λ f. refl
ends_more (x ∷ y ∷ ys) e = ends_more (y ∷ ys) e

-- after a loss nothing is said
ends_lost : (level : Bool) (es : List Edge) → EndsAt true level es
ends_lost level [] = tt
ends_lost level (x ∷ []) = λ f. on_off f
ends_lost level (x ∷ y ∷ ys) = ends_lost level (y ∷ ys)

abbrev Turned : Bool → Capture → Type 0
Turned level x = Alternate (x.served ++ x.waiting) × EndsAt x.lost level (x.served ++ x.waiting)

queued_turned : (r : Bool) (now : ℕ) (v old : Bool) (x : Capture) → is_same old v ≡ false → Turned old x → Turned v (if r then record x { waiting = x.waiting ++ record { time = now % 2 ^ 32; rising = v; after_gap = x.lost } ∷ []; lost = false } else record x { lost = true })
queued_turned true now v old x e h =
    let new : Edge = record { time = now % 2 ^ 32; rising = v; after_gap = x.lost } in
    let is = append_assoc x.served x.waiting (new ∷ []) in
    (subst Alternate is (alternate_more x.lost old (x.served ++ x.waiting) new (turned_level old v e) refl h.0 h.1), subst (λ es. EndsAt false v es) is (ends_more (x.served ++ x.waiting) new))
queued_turned false now v old x e h = (h.0, ends_lost v (x.served ++ x.waiting))

-- ---- an edge at a pin

no_counter : (m : IcuMeasurementMode) → is_measurement m ≡ true → is_counter m ≡ false
no_counter SignalMeasurement e = refl
no_counter _ e = absurd (cc)

-- a measurement that is on queues each edge
measured_queued : (k : Channel) (now : ℕ) (v : Bool) (x : Capture) → is_measurement k.mode ≡ true → x.on ≡ true → edge_taken k now v x ≡ edge_queued now v x
measured_queued k now v x m o =
    ap (λ z. if not (z && (is_measurement k.mode || chooses x.activation v)) then x else if is_counter k.mode then record x { count = (x.count + 1) % 2 ^ 32 } else edge_queued now v x) o
    ∙ ap (λ z. if not (z || chooses x.activation v) then x else if is_counter k.mode then record x { count = (x.count + 1) % 2 ^ 32 } else edge_queued now v x) m
    ∙ ap (λ z. if z then record x { count = (x.count + 1) % 2 ^ 32 } else edge_queued now v x) (no_counter k.mode m)

abbrev Turning : Channel → Bool → Capture → Type 0
Turning k level x = is_measurement k.mode ≡ true → x.on ≡ true → Turned level x

taken_turning : (k : Channel) (now : ℕ) (v old : Bool) (x : Capture) → is_same old v ≡ false → Turning k old x → Turning k v (edge_taken k now v x)
taken_turning k now v old x e h = λ m on. let o = sym (ap (λ (y : Capture). y.on) (taken-still k now v x)) ∙ on in subst (λ (y : Capture). Turned v y) (sym (measured_queued k now v x m o)) (queued_turned (nat_lt (length x.waiting) 4) now v old x e (h m o))

-- a level that changes, and one that doesn't
changed_by : (k : Channel) (w : World) (pin : ℕ) (v : Bool) (x : Capture) (q : Bool) → (k.pin == pin) ≡ q → is_same (w.levels pin) v ≡ false → Turning k (w.levels k.pin) x → Turning k (cond q v (w.levels k.pin)) (if q then edge_taken k w.now v x else x)
changed_by k w pin v x true e f h = taken_turning k w.now v (w.levels k.pin) x (ap (λ p. is_same (w.levels p) v) (eq_is k.pin pin e) ∙ f) h
changed_by k w pin v x false e f h = h

same_to : (a b : Bool) → is_same a b ≡ true → a ≡ b
same_to true true e = refl
same_to true false e = absurd (cc)
same_to false true e = absurd (cc)
same_to false false e = refl

kept_by : (k : Channel) (w : World) (pin : ℕ) (v : Bool) (x : Capture) (q : Bool) → (k.pin == pin) ≡ q → is_same (w.levels pin) v ≡ true → Turning k (w.levels k.pin) x → Turning k (cond q v (w.levels k.pin)) x
kept_by k w pin v x true e f h = subst (λ l. Turning k l x) (ap (λ p. w.levels p) (eq_is k.pin pin e) ∙ same_to (w.levels pin) v f) h
kept_by k w pin v x false e f h = h

pub pin_turns : (k : Option Channel) (w : World) (pin : ℕ) (v : Bool) (x : Capture) → is_same (w.levels pin) v ≡ false → HasTurns k w x → HasTurns k (record w { levels = with_at w.levels pin v }) (edge_at_pin k w.now pin v x)
pin_turns None w pin v x e h = tt
pin_turns (Some k) w pin v x e h = changed_by k w pin v x (k.pin == pin) refl e h

pub pin_kept : (k : Option Channel) (w : World) (pin : ℕ) (v : Bool) (x : Capture) → is_same (w.levels pin) v ≡ true → HasTurns k w x → HasTurns k (record w { levels = with_at w.levels pin v }) x
pin_kept None w pin v x e h = tt
pin_kept (Some k) w pin v x e h = kept_by k w pin v x (k.pin == pin) refl e h
