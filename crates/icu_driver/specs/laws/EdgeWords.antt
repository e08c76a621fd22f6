-- What an edge leaves of a channel beside its queue and count: its words, its course and its place for a stamp.
-- From module_machines: icu.Edges, module_machines: icu.Channels.
-- Used by Levels.
use Rattle.std.proofs.Common.{◌≡◌, ℕ, ◌+◌, ◌%◌, ◌<◌, ◌≤◌, ◌^◌, Bool, true, false, ◌&&◌, ◌||◌, ◌==◌, not, nat_lt, [], ◌∷◌, ◌++◌, length, List, Option, Some, None, refl, sym, ◌∙◌, ap, subst, arith, length-append}
use Rattle.std.specs.Prelude.{if◌then◌else◌}
use Rattle.std.specs.List.{AllByRecursion}
use Rattle.std.proofs.lemmas.Bool.Decides.{nat_tests}
use Rattle.mcal_base.specs.declared.config.icu.IcuMeasurementMode.{IcuMeasurementMode}
use Rattle.mcal_base.specs.declared.config.icu.IcuMeasurementMode.TheVariants.{SignalEdgeDetect, EdgeCounter, Timestamp, SignalMeasurement}
use Rattle.module_machines.specs.icu.Edges.{Edge}
use Rattle.icu_driver.specs.Refinement.{ChannelWords, ModeWords, IsCourse, IsStart, HasPlace, Stamped, Is_on, Is_stopped, Is_fresh}
use Rattle.module_machines.specs.icu.Machine.{Capture, edge_taken, edge_queued, is_taken, edge_at_pin}
use Rattle.module_machines.specs.icu.Table.{is_counter, is_measurement, chooses}
use Rattle.module_machines.specs.declared.icu.table.Channel.{Channel}
use Rattle.module_machines.specs.icu.laws.Channels.{by_if}
use Rattle.module_machines.specs.icu.laws.Edges.{still, taken-still}

-- ---- words

stamped_to : (x : Capture) (v : ℕ) → Stamped x v → Stamped (still x) v
stamped_to x _ (Is_on e) = Is_on e
stamped_to x _ (Is_stopped e f) = Is_stopped e f
stamped_to x _ (Is_fresh e f) = Is_fresh e f

stamped_from : (x : Capture) (v : ℕ) → Stamped (still x) v → Stamped x v
stamped_from x _ (Is_on e) = Is_on e
stamped_from x _ (Is_stopped e f) = Is_stopped e f
stamped_from x _ (Is_fresh e f) = Is_fresh e f

words_to : (m : IcuMeasurementMode) (at : ℕ → ℕ) (behind : ℕ → Bool) (c : ℕ) (k : Channel) (x : Capture) → ModeWords m at behind c k x → ModeWords m at behind c k (still x)
words_to SignalEdgeDetect at behind c k x h = record { switch = h.switch; mark = h.mark }
words_to EdgeCounter at behind c k x h = tt
words_to Timestamp at behind c k x h = record { switch = h.switch; mark = λ f. stamped_to x _ (h.mark f); size = h.size; interval = h.interval; place = h.place; left = h.left }
words_to SignalMeasurement at behind c k x h = record { waits = h.waits; mark = h.mark; seen = h.seen; start = h.start; opposite = h.opposite; value = h.value; time = h.time }

words_from : (m : IcuMeasurementMode) (at : ℕ → ℕ) (behind : ℕ → Bool) (c : ℕ) (k : Channel) (x : Capture) → ModeWords m at behind c k (still x) → ModeWords m at behind c k x
words_from SignalEdgeDetect at behind c k x h = record { switch = h.switch; mark = h.mark }
words_from EdgeCounter at behind c k x h = tt
words_from Timestamp at behind c k x h = record { switch = h.switch; mark = λ f. stamped_from x _ (h.mark f); size = h.size; interval = h.interval; place = h.place; left = h.left }
words_from SignalMeasurement at behind c k x h = record { waits = h.waits; mark = h.mark; seen = h.seen; start = h.start; opposite = h.opposite; value = h.value; time = h.time }

-- the words of a channel that waits, lost and counts otherwise
pub words_still : (k : Option Channel) (at : ℕ → ℕ) (behind : ℕ → Bool) (c : ℕ) (x y : Capture) → still y ≡ still x → ChannelWords k at behind c x → ChannelWords k at behind c y
words_still None at behind c x y e h = tt
words_still (Some k) at behind c x y e h = words_from k.mode at behind c k y (subst (λ z. ModeWords k.mode at behind c k z) (sym e) (words_to k.mode at behind c k x h))

-- ---- an edge at a pin

-- a channel that is off takes none
pub off_same : (k : Channel) (now : ℕ) (rising : Bool) (x : Capture) → x.on ≡ false → edge_taken k now rising x ≡ x
off_same k now rising x e = ap (λ z. if not (z && (is_measurement k.mode || chooses x.activation rising)) then x else if is_counter k.mode then record x { count = (x.count + 1) % 2 ^ 32 } else edge_queued now rising x) e

pub pin_off_same : (k : Option Channel) (now pin : ℕ) (rising : Bool) (x : Capture) → x.on ≡ false → edge_at_pin k now pin rising x ≡ x
pin_off_same None now pin rising x e = refl
pin_off_same (Some k) now pin rising x e = by_if (λ y. y ≡ x) (k.pin == pin) (edge_taken k now rising x) x (off_same k now rising x e) refl

queued_room : (now : ℕ) (rising : Bool) (x : Capture) (q : Bool) → nat_lt (length x.waiting) 4 ≡ q → length x.waiting ≤ 4 → length (if q then record x { waiting = x.waiting ++ record { time = now % 2 ^ 32; rising = rising; after_gap = x.lost } ∷ []; lost = false } else record x { lost = true }).waiting ≤ 4
queued_room now rising x true e h =
    let less : length x.waiting < 4 = is_less (length x.waiting) e in
    rw (length-append x.waiting (record { time = now % 2 ^ 32; rising = rising; after_gap = x.lost } ∷ [])) (omega (arith, less))
  where
    is_less : (n : ℕ) → nat_lt n 4 ≡ true → n < 4
    is_less n e = grind (arith, nat_tests)
queued_room now rising x false e h = h

taken_room : (k : Channel) (now : ℕ) (rising : Bool) (x : Capture) → length x.waiting ≤ 4 → length (edge_taken k now rising x).waiting ≤ 4
taken_room k now rising x h =
    by_if (λ (y : Capture). length y.waiting ≤ 4) (not (is_taken k rising x)) x (if is_counter k.mode then record x { count = (x.count + 1) % 2 ^ 32 } else edge_queued now rising x) h
    (by_if (λ (y : Capture). length y.waiting ≤ 4) (is_counter k.mode) (record x { count = (x.count + 1) % 2 ^ 32 }) (edge_queued now rising x) h (queued_room now rising x (nat_lt (length x.waiting) 4) refl h))

counter_waits : (k : Channel) (now : ℕ) (rising : Bool) (x : Capture) → is_counter k.mode ≡ true → (x.waiting ≡ []) × (x.lost ≡ false) → ((edge_taken k now rising x).waiting ≡ []) × ((edge_taken k now rising x).lost ≡ false)
counter_waits k now rising x c h =
    subst (λ (y : Capture). (y.waiting ≡ []) × (y.lost ≡ false)) (sym (ap (λ z. if not (is_taken k rising x) then x else if z then record x { count = (x.count + 1) % 2 ^ 32 } else edge_queued now rising x) c))
    (by_if (λ (y : Capture). (y.waiting ≡ []) × (y.lost ≡ false)) (not (is_taken k rising x)) x (record x { count = (x.count + 1) % 2 ^ 32 }) h h)

small_next : (n : ℕ) → (n + 1) % 2 ^ 32 < 2 ^ 32
small_next n = omega arith

taken_count : (k : Channel) (now : ℕ) (rising : Bool) (x : Capture) → x.count < 2 ^ 32 → (edge_taken k now rising x).count < 2 ^ 32
taken_count k now rising x h =
    by_if (λ (y : Capture). y.count < 2 ^ 32) (not (is_taken k rising x)) x (if is_counter k.mode then record x { count = (x.count + 1) % 2 ^ 32 } else edge_queued now rising x) h
    (by_if (λ (y : Capture). y.count < 2 ^ 32) (is_counter k.mode) (record x { count = (x.count + 1) % 2 ^ 32 }) (edge_queued now rising x) (small_next x.count)
    (by_if (λ (y : Capture). y.count < 2 ^ 32) (nat_lt (length x.waiting) 4) (record x { waiting = x.waiting ++ record { time = now % 2 ^ 32; rising = rising; after_gap = x.lost } ∷ []; lost = false }) (record x { lost = true }) h h))

-- a channel that is no counter counts none
taken_uncounted : (k : Channel) (now : ℕ) (rising : Bool) (x : Capture) → is_counter k.mode ≡ false → x.count ≡ 0 → (edge_taken k now rising x).count ≡ 0
taken_uncounted k now rising x c h =
    subst (λ (y : Capture). y.count ≡ 0) (sym (ap (λ z. if not (is_taken k rising x) then x else if z then record x { count = (x.count + 1) % 2 ^ 32 } else edge_queued now rising x) c))
    (by_if (λ (y : Capture). y.count ≡ 0) (not (is_taken k rising x)) x (edge_queued now rising x) h
    (by_if (λ (y : Capture). y.count ≡ 0) (nat_lt (length x.waiting) 4) (record x { waiting = x.waiting ++ record { time = now % 2 ^ 32; rising = rising; after_gap = x.lost } ∷ []; lost = false }) (record x { lost = true }) h h))

-- times that fit a register
abbrev Fit : Capture → Type 0
Fit x = AllByRecursion (λ (e : Edge). e.time < 2 ^ 32) x.waiting

fits_more : (es : List Edge) (e : Edge) → e.time < 2 ^ 32 → AllByRecursion (λ (e : Edge). e.time < 2 ^ 32) es → AllByRecursion (λ (e : Edge). e.time < 2 ^ 32) (es ++ e ∷ [])
fits_more [] e lt h = (lt, tt)
fits_more (x ∷ xs) e lt h = (h.0, fits_more xs e lt h.1)

small_time : (n : ℕ) → n % 2 ^ 32 < 2 ^ 32
small_time n = omega arith

taken_times : (k : Channel) (now : ℕ) (rising : Bool) (x : Capture) → Fit x → Fit (edge_taken k now rising x)
taken_times k now rising x h =
    let new : Edge = record { time = now % 2 ^ 32; rising = rising; after_gap = x.lost } in
    by_if Fit (not (is_taken k rising x)) x (if is_counter k.mode then record x { count = (x.count + 1) % 2 ^ 32 } else edge_queued now rising x) h
    (by_if Fit (is_counter k.mode) (record x { count = (x.count + 1) % 2 ^ 32 }) (edge_queued now rising x) h
    (by_if Fit (nat_lt (length x.waiting) 4) (record x { waiting = x.waiting ++ new ∷ []; lost = false }) (record x { lost = true }) (fits_more x.waiting new (small_time now) h) h))

taken_course : (k : Channel) (now : ℕ) (rising : Bool) (x : Capture) → IsCourse (Some k) x → IsCourse (Some k) (edge_taken k now rising x)
taken_course k now rising x h =
    let stays = taken-still k now rising x in
    record {
      room = taken_room k now rising x h.room;
      times = taken_times k now rising x h.times;
      counter = λ c. counter_waits k now rising x c (h.counter c);
      off = λ f. let was = sym (ap (λ (y : Capture). y.on) stays) ∙ f in subst (λ (y : Capture). (y.waiting ≡ []) × (y.lost ≡ false)) (sym (off_same k now rising x was)) (h.off was);
      start = subst (λ (y : Capture). IsStart y.start) (sym stays) h.start;
      count = taken_count k now rising x h.count;
      unstarted = λ f. ap (λ (y : Capture). y.start) stays ∙ h.unstarted f;
      uncounted = λ f. taken_uncounted k now rising x f (h.uncounted f);
    }

-- few edges wait after an edge, and none where none may
pub pin_course : (k : Option Channel) (now pin : ℕ) (rising : Bool) (x : Capture) → IsCourse k x → IsCourse k (edge_at_pin k now pin rising x)
pin_course None now pin rising x h = h
pin_course (Some k) now pin rising x h = by_if (λ y. IsCourse (Some k) y) (k.pin == pin) (edge_taken k now rising x) x (taken_course k now rising x h) h

-- there is a place for the next stamp after it
pub place_still : (k : Option Channel) (x y : Capture) → still y ≡ still x → HasPlace k x → HasPlace k y
place_still None x y e h = tt
place_still (Some k) x y e h = from_still (subst (λ z. HasPlace (Some k) z) (sym e) (to_still h))
  where
    to_still : HasPlace (Some k) x → HasPlace (Some k) (still x)
    to_still h = h

    from_still : HasPlace (Some k) (still y) → HasPlace (Some k) y
    from_still h = h
