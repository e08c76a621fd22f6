-- Adc_ReadGroup of a group that has a round: it looks which bank is the newest, acts, and pins that.
-- From adc_groups: words.StoreOneWord, adc_groups: services.SingleWordCalls, adc_groups: services.BodySteps and 7 more.
-- Used by adc_driver: services.AllSteps.
use Rattle.std.proofs.Common.{◌≡◌, ◌≢◌, ◌+◌, ◌*◌, ◌%◌, ◌<◌, ◌||◌, [], ◌∷◌, ◌∙◌, ◌⊎◌}
use Rattle.adc_laws.specs.serving.Terms
use Terms.{acts_by, adc_bodies, adc_machine, AdcBody, AdcGround, AdcState, AdcTable, Agrees, answers, ap, arith}
use Terms.{asks_no, bank_of, Banks, body_ends, body_work, Bool, Call, Called, cases, Chip, chip_after, circumstances}
use Terms.{CommitsTo, Completed, Continuation, ended_at, ends_with_stream, EOk, error_by, Event, false, first_error}
use Terms.{FitsAdc, foot_of, FrameHistory, fresh_history, group_at, group_errors, group_of, group_with, group_word}
use Terms.{GroupAgrees, has_turn, Idle, inl, inr, is_idle, Is_this_frame, IsCalling, IsOnlyReader, IsPinning}
use Terms.{IsSoundGroup, length, List, Makes, making_owed, MayCall, MayPin, named_with, newest, None, not_reset}
use Terms.{one_owed, Origin, others_here, outcome, Outside, own-control, own_named, own_of, PendingWrites, Phase}
use Terms.{phase_number, phase_of, Pins, Place, read_from, read_phase, read_sound, ReadGroup, reads, refl}
use Terms.{Reservations, RightOr, rounds_of, same, Service, Some, some_samples, SoundGroup, Stands, stands-agree}
use Terms.{Status, status_read, step, steps_so, Store, stored_here, stored_other, StreamCompleted, StructureOp, subst}
use Terms.{sym, Take, touched, Touches, trio_apart, trio_of, trio_words, TripleBuffer, true, turn_same, value_of}
use Terms.{within, word_of, World, WriteBatch, ℕ}
use Rattle.adc_laws.specs.serving.laws.words.ControlWord.{newest_listed, pin_agrees, reader}
use Rattle.adc_groups.specs.Places.{pinning}

module _ (d : AdcTable) (fits : FitsAdc d) (f r : AdcBody → ℕ) (below : Reservations) (chip : Chip) (w : World) (s : AdcState) (h : Agrees d below chip w s) (m : ℕ → Bool) (y : ℕ) (g : ℕ) (x : Phase) (may : MayCall d s g ReadGroup) (alone : IsOnlyReader g below) (pins : IsPinning d s g x) where
  abbrev trio : TripleBuffer
  trio = trio_of (rounds_of d g)

  abbrev v : ℕ
  v = word_of chip (trio_of (rounds_of d g)).control

  abbrev line : Origin Call
  line = Called (Call.Group g ReadGroup)

  abbrev ends : Bool
  ends = ends_with_stream (group_of d g)

  -- ---- the machine's step

  abbrev t : AdcState
  t = read_from d s g

  abbrev whole : List ℕ
  whole = newest (group_at s g).rounds

  -- what is so of a group that has a round
  by_status : (P : Status → Type 0) → P Completed → P StreamCompleted → P (group_at s g).status
  by_status P a b = subst P (sym pins.is) (by pins.status pins.some)
    where
      by : (z : Status) → (z ≡ Completed) ⊎ (z ≡ StreamCompleted) → P z
      by z (inl e) = subst P (sym e) a
      by z (inr e) = subst P (sym e) b

  awake : (group_at s g).status ≢ Idle
  awake = by_status (λ z. z ≢ Idle) (λ e. absurd (cc)) (λ e. absurd (cc))

  some_rounds : 0 < length (group_at s g).rounds
  some_rounds = cases pins.some
      (λ e. (h.sound.groups g).rounds (pins.is ∙ e))
      (λ e. let le = (h.sound.groups g).stream (pins.is ∙ e) in let some = some_samples d fits g may.there in omega (arith, le, some))

  none_error : error_by d (Call.Group g ReadGroup) (circumstances d s (Call.Group g ReadGroup)) ≡ None
  none_error = group_errors d s g ReadGroup may ∙ ap (λ z. first_error Service.AdcReadGroup (false ∷ false ∷ z ∷ false ∷ false ∷ false ∷ [])) (by_status (λ z. is_idle z ≡ false) refl refl)

  does : Some (acts_by d s (Call.Group g ReadGroup) (error_by d (Call.Group g ReadGroup) (circumstances d s (Call.Group g ReadGroup)))) ≡ Some (outcome t (answers (named_with EOk whole)))
  does = ap (λ z. Some (acts_by d s (Call.Group g ReadGroup) z)) none_error ∙ ap (λ z. Some z) (by_status (λ z. reads d s g z ≡ outcome t (answers (named_with EOk whole))) refl refl)

  -- ---- the words after the phase is stored

  abbrev first : Chip
  first = chip_after chip (Store (group_word d g 0) (phase_number x)) 0

  keeps : Touches s g (record (group_at s g) { status = status_read (ends_with_stream (group_of d g)) (group_at s g).status })
  keeps = record { waiting = refl; trigger = refl; rounds = refl }

  fresh : IsSoundGroup d t g
  fresh = subst (λ z. SoundGroup (group_of d g) (has_turn t g) z) (sym (same d w s h.sound g (within d g may.there) _ keeps))
      (subst (λ q. SoundGroup (group_of d g) q (record (group_at s g) { status = status_read (ends_with_stream (group_of d g)) (group_at s g).status })) (sym (turn_same d w s h.sound g (within d g may.there) _ keeps g)) (read_sound (group_of d g) (has_turn s g) (group_at s g) may.there awake (h.sound.groups g)))

  was : GroupAgrees d (word_of chip) s g
  was = (h.settled may.on).groups g may.there

  phase_first : phase_number x ≡ phase_of (status_read (ends_with_stream (group_of d g)) (group_at s g).status) (has_turn s g || (group_at s g).trigger)
  phase_first = pins.phase ∙ (read_phase ends pins.status (has_turn s g || (group_at s g).trigger) ∙ ap (λ z. phase_of (status_read (ends_with_stream (group_of d g)) z) (has_turn s g || (group_at s g).trigger)) (sym pins.is))

  first_agrees : Agrees d below first w t
  first_agrees = touched d fits below chip w s h may.on g may.there 0 (phase_number x) (omega arith) _ keeps (λ e. awake) fresh
      (group_with d fits below chip w s h may.on g may.there 0 (phase_number x) (omega arith) _ keeps (λ e. awake)
      (stored_here d fits below chip w s h may.on g may.there 0 (phase_number x) (omega arith) _ keeps (λ e. awake) ∙ phase_first)
      (others_here d fits below chip w s h may.on g may.there 0 (phase_number x) (omega arith) _ keeps (λ e. awake) 1 (λ z. omega (arith, z)) (omega arith) ∙ was.chosen)
      (others_here d fits below chip w s h may.on g may.there 0 (phase_number x) (omega arith) _ keeps (λ e. awake) 2 (λ z. omega (arith, z)) (omega arith) ∙ was.notified))

  first_trio : (j : ℕ) → own_of (trio_of (rounds_of d g)) j ≡ true → word_of first j ≡ word_of chip j
  first_trio j own = stored_other chip (group_word d g 0) (phase_number x) 0 j (trio_apart d fits g g 0 j may.there may.there (omega arith) own)

  -- the newest bank has what is answered
  is_whole : (b : Banks) → Stands trio (word_of first) b → b.newest ≡ whole
  is_whole b stands =
      let here = stands-agree trio (word_of first) (word_of chip) b first_trio stands in
      let q = h.banks g may.there in
      newest_listed trio (word_of chip) b here ∙ (sym (newest_listed trio (word_of chip) q.banks q.stands) ∙ q.newest awake some_rounds)

  -- ---- the step

  abbrev later : PendingWrites
  later = record { table = d; order = None; banks = Some (StructureOp.Take (Take.Hold (trio_of (rounds_of d g)).control (v % 4 + 4 * (v % 4 + 1)) (v % 4))); deeds = []; after = Continuation.Goes (Outside.Reads g (bank_of (v % 4))) }

  abbrev held : Reservations
  held = reader g (bank_of (v % 4)) [] whole ∷ below

  pinned_first : Agrees d held (chip_after first (Store (trio_of (rounds_of d g)).control (v % 4 + 4 * (v % 4 + 1))) 0) w t
  pinned_first = subst (λ n. Agrees d (reader g (bank_of (n % 4)) [] whole ∷ below) (chip_after first (Store (trio_of (rounds_of d g)).control (n % 4 + 4 * (n % 4 + 1))) 0) w t) (first_trio (trio_of (rounds_of d g)).control (own-control trio)) (pin_agrees d fits g may.there first w t below may.on alone first_agrees whole is_whole)

  settles : (n : ℕ) × CommitsTo (making_owed d) n later first (λ c. Agrees d held c w t)
  settles = one_owed (making_owed d) (λ c. Agrees d held c w t) later first None (own_named d fits (own_of trio) (λ k e. trio_words d fits g k may.there e) (Store (trio_of (rounds_of d g)).control (v % 4 + 4 * (v % 4 + 1))) (own-control trio)) tt refl pinned_first

  abbrev body : AdcBody
  body = record { table = d; place = Makes (pinning d g x v) }

  pub pin_right : RightOr (AdcGround d) (adc_bodies d f r) below chip w s (record { table = d; place = Makes (pinning d g x (word_of chip (trio_of (rounds_of d g)).control)) }) (Called (Call.Group g ReadGroup)) y fresh_history m (ended_at (adc_bodies d f r) body_ends (record { table = d; place = Makes (pinning d g x (word_of chip (trio_of (rounds_of d g)).control)) }) (value_of chip (body_work (record { table = d; place = Makes (pinning d g x (word_of chip (trio_of (rounds_of d g)).control)) }))))
  pin_right =
      steps_so d f r below chip w s m y line fresh_history body (record { table = d; place = Makes (record (pinning d g x v) { made = 1 }) }) (step (Some Event.Act)) refl refl (record {
        may = refl;
        stands = tt;
        state = t;
        told = answers (named_with EOk whole);
        begins = None;
        is = does;
        sends = tt;
        acts = tt;
        reset = sym (asks_no (adc_machine d) (Call.Group g ReadGroup) (Some Event.Act) (Some (outcome t (answers (named_with EOk whole)))) (not_reset (Call.Group g ReadGroup)));
        next = (settles, (refl, (alone, (whole, Is_this_frame))));
      })

  -- it looks which bank is the newest
  pub pins_step : RightOr (AdcGround d) (adc_bodies d f r) below chip w s (record { table = d; place = Pins g x }) (Called (Call.Group g ReadGroup)) y fresh_history m (ended_at (adc_bodies d f r) body_ends (record { table = d; place = Pins g x }) (value_of chip (body_work (record { table = d; place = Pins g x }))))
  pins_step =
      steps_so d f r below chip w s m y line fresh_history (record { table = d; place = Pins g x }) body (record { event = None; done = None }) refl refl
      (h, (refl, (g, x, (Is_this_frame, may), alone, pins, refl)))

-- the same from what is known at the places
module _ (d : AdcTable) (fits : FitsAdc d) (f r : AdcBody → ℕ) (below : Reservations) (chip : Chip) (w : World) (s : AdcState) (h : Agrees d below chip w s) (m : ℕ → Bool) (y : ℕ) where
  abbrev StepRight : Place → Origin Call → FrameHistory → Type 0
  StepRight k o p = RightOr (AdcGround d) (adc_bodies d f r) below chip w s (record { table = d; place = k }) o y p m (ended_at (adc_bodies d f r) body_ends (record { table = d; place = k }) (value_of chip (body_work (record { table = d; place = k }))))

  pub pins_from : (g : ℕ) (x : Phase) (o : Origin Call) (p : FrameHistory) → IsCalling d s g ReadGroup o p → IsOnlyReader g below → IsPinning d s g x → StepRight (Pins g x) o p
  pins_from g x _ _ (Is_this_frame, may) alone pins = pins_step d fits f r below chip w s h m y g x may alone pins

  pub pin_makes : (k : WriteBatch) (o : Origin Call) (p : FrameHistory) → MayPin d below (foot_of chip) s o p k → StepRight (Makes k) o p
  pin_makes k _ _ (g, x, (Is_this_frame, may), alone, pins, e) = subst (λ z. StepRight (Makes z) (Called (Call.Group g ReadGroup)) fresh_history) (sym e) (pin_right d fits f r below chip w s h m y g x may alone pins)
