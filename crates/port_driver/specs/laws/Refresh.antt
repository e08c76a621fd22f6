-- Port_RefreshPortDirection: its writes, what holds at each, and that they are right.
-- From RefinementRight, Halves, service_outline: Acts, service_outline: StepKinds.
-- Used by Lawful, service/refresh/rt.
use Rattle.std.proofs.Common.{◌≡◌, ◌+◌, ◌-◌, ◌/◌, ◌<◌, [], ◌∙◌, if◌then◌else◌}
use Rattle.port_driver.specs.Terms
use Terms.{Act, acts_by, Alone, ap, AreLong, arith, AssertedAt, BodyTaken, Bool, Call, Called, Chip, chip_after}
use Terms.{Directions, ends, error_by, false, Fixed, FrameHistory, fresh_history, goes, half_write, Is_alone, is_out}
use Terms.{is_shared, Is_this_frame, IsThisFrame, Levels, LongBodies, MakesTo, may, missed_after, Move, nat_lt}
use Terms.{nat_tests, never_clean, no_answer, None, not, Nothing, ones, Option, or_true, Origin, past_wrote, Pin, pin_at, pin_of, PinState, place_at, PointAssertion, port_basis, port_machine, PortTable, PortRepresents, PortState, put, put_mode, rank_of, refl, RefreshBody, refreshed, RefreshPortDirection, Reservations, Right, sets, Shortens, Some, subst, sym, tells_nothing, true, TurnsTo, value_of, wanted_of, wants, Within, work, World, world_after, writes_latches, ℕ}
use Rattle.port_driver.specs.laws.RefinementRight.{written_agrees, with_fixed, may_halves, IsSilentMove, calm_halves}
use Rattle.port_driver.specs.laws.RefinementRight.{past_halves, sends_halves, may_dry, dry_halves}
use Rattle.port_driver.specs.laws.Halves.{halves_after, length-after, put_none, put_whole, put_written}
use Rattle.port_driver.specs.declared.service.refresh.RefreshBody.TheVariants as bodies

abbrev pub refresh_work : RefreshBody → Move
refresh_work (bodies.Write d n) = half_write d Fixed n

abbrev pub refresh_takes : RefreshBody → ℕ → RefreshBody × BodyTaken
refresh_takes (bodies.Write d n) x = if nat_lt n 3 then (bodies.Write d (n + 1), goes) else (bodies.Write d n, ends (Some Act) no_answer Nothing)

abbrev pub refresh_left : RefreshBody → ℕ
refresh_left (bodies.Write d n) = 1 + (3 - n)

-- it is this driver
pub data Same (d : PortTable) : PortTable → Type 0 where
  Is_same : Same d d

abbrev pub refresh_spot : (d : PortTable) → RefreshBody → PointAssertion (port_basis d)
refresh_spot d (bodies.Write e n) = Within n [] (λ below f w s o t. Same d e × IsThisFrame (Called RefreshPortDirection) fresh_history o t × Alone below × (n < 4) × (error_by d RefreshPortDirection (not s.initialised) ≡ None))

abbrev pub refresh_bodies : (d : PortTable) → LongBodies (port_basis d) RefreshBody
refresh_bodies d = record { work_of = refresh_work; takes = refresh_takes; fuel = refresh_left; room = refresh_left; clean = λ k. false; assertion = refresh_spot d }

under : (n : ℕ) → nat_lt n 3 ≡ true → n < 3
under n e = grind (arith, nat_tests)

last : (n : ℕ) → n < 4 → nat_lt n 3 ≡ false → n ≡ 3
last n lt e = grind (arith, nat_tests)

-- all of them made, the directions are the refreshed ones
direction_done : (k : Option Pin) (p : ℕ) (x : PinState) → p < 64 → put (wanted_of Fixed k) p 4 (is_out x.direction) ≡ is_out (refreshed k x).direction
direction_done None p x lt = refl
direction_done (Some k) p x lt = by k.direction_changeable
  where
    by : (q : Bool) → put (if q then None else Some (is_out k.direction)) p 4 (is_out x.direction) ≡ is_out (if q then x else record x { direction = k.direction }).direction
    by true = refl
    by false = put_whole (Some (is_out k.direction)) p (is_out x.direction) lt

same_mode : (k : Option Pin) (x : PinState) → x.mode ≡ (refreshed k x).mode
same_mode None x = refl
same_mode (Some k) x = by k.direction_changeable
  where
    by : (q : Bool) → x.mode ≡ (if q then x else record x { direction = k.direction }).mode
    by true = refl
    by false = refl

same_latch : (k : Option Pin) (x : PinState) → x.latch ≡ (refreshed k x).latch
same_latch None x = refl
same_latch (Some k) x = by k.direction_changeable
  where
    by : (q : Bool) → x.latch ≡ (if q then x else record x { direction = k.direction }).latch
    by true = refl
    by false = refl

module _ (d : PortTable) where
  -- one more of its writes
  wrote : (chip : Chip) (w : World) (s : PortState) (n received : ℕ) → PortRepresents d [] n chip w s → PortRepresents d [] (n + 1) (chip_after chip (half_write d Fixed n) received) w s
  wrote chip w s n received h =
      let b = record chip.pins { out = halves_after (sets n) chip.pins.out (n / 2) (ones (wants d Fixed) n) } in
      written_agrees d [] [] n (n + 1) chip w s s _ _ received b (with_fixed chip (sets n) (n / 2) (ones (wants d Fixed) n) received) tt refl
      (record { out = length-after (sets n) chip.pins.out (n / 2) (ones (wants d Fixed) n) ∙ h.whole.out; latches = h.whole.latches; modes = h.whole.modes })
      h.latches
      h.modes
      (λ p lt. put_written (wants d Fixed) chip.pins.out n p _ h.whole.out lt (h.directions p lt))
      h

  refreshed_all : (chip : Chip) (w : World) (s : PortState) → PortRepresents d [] 4 chip w s → PortRepresents d [] 0 chip w (work d s RefreshPortDirection)
  refreshed_all chip w s h = record {
    right = tt;
    all = h.all;
    whole = h.whole;
    word = h.word;
    latches = λ p lt. h.latches p lt ∙ ap (λ b. put (wants d Levels p) p 0 b) (same_latch (pin_of d p) (pin_at s p));
    modes = λ p lt. h.modes p lt ∙ ap (λ m. put_mode (pin_of d p) (rank_of d p) 0 m) (same_mode (pin_of d p) (pin_at s p));
    directions = λ p lt. h.directions p lt ∙ (ap (λ b. put (wants d Fixed p) p 4 b) (put_none (wants d Directions p) p (is_out (pin_at s p).direction)) ∙ (direction_done (pin_of d p) p (pin_at s p) lt ∙ sym (put_none (wants d Fixed p) p _ ∙ put_none (wants d Directions p) p _)));
  }

  steps : (below : Reservations) (chip : Chip) (w : World) (s : PortState) (k : RefreshBody) (o : Origin Call) (y : ℕ) (t : FrameHistory) (m : ℕ → Bool) → AssertedAt (port_basis d) (refresh_bodies d) below chip w s k o t → Right (port_basis d) (refresh_bodies d) below chip w s k o y t m
  steps below chip w s (bodies.Write e n) o y t m (h, (Is_same, Is_this_frame, Is_alone, lt, pass)) = by (nat_lt n 3) refl
    where
      made : Move
      made = half_write d Fixed n

      after : Chip
      after = chip_after chip made y

      now : PortRepresents d [] (n + 1) after w s
      now = wrote chip w s n y h

      same : fresh_history ≡ past_wrote w made fresh_history
      same = sym (past_halves w Fixed (sets n) (n / 2) (ones (wants d Fixed) n) fresh_history)

      by : (q : Bool) → nat_lt n 3 ≡ q → MakesTo (port_basis d) (refresh_bodies d) [] chip after w s (Called RefreshPortDirection) made false 0 y fresh_history (missed_after (port_machine d) w s m) (if q then (bodies.Write d (n + 1), goes) else (bodies.Write d n, ends (Some Act) no_answer Nothing))
      by true i = (now, (Is_same, subst (λ x. IsThisFrame (Called RefreshPortDirection) fresh_history (Called RefreshPortDirection) x) same Is_this_frame, Is_alone, (let low = under n i in omega (arith, low)), pass))
      by false i = record {
        may = refl;
        stands = tt;
        state = work d s RefreshPortDirection;
        told = tells_nothing;
        begins = None;
        is = ap (λ x. Some (acts_by d s RefreshPortDirection x)) pass;
        sends = sends_halves chip Fixed (sets n) (n / 2) (ones (wants d Fixed) n);
        acts = tt;
        reset = (calm_halves Fixed (sets n) (n / 2) (ones (wants d Fixed) n)).still;
        next = (refreshed_all after w s (subst (λ j. PortRepresents d [] j after w s) (let is = last n lt i in omega (arith, is)) now), record { may = (refl, refl); served = false; owed = refl; shown = λ x. absurd (cc); report = refl });
      }

  own : (below : Reservations) (chip : Chip) (w : World) (s : PortState) (k : RefreshBody) (o : Origin Call) (t : FrameHistory) → AssertedAt (port_basis d) (refresh_bodies d) below chip w s k o t → may (refresh_work k) ≡ true
  own below chip w s (bodies.Write e n) o t (h, (same, being, alone, lt, pass)) = may_halves Fixed (sets n) (n / 2) (ones (wants e Fixed) n) (omega (arith, lt))

  dry : (k : RefreshBody) → writes_latches (refresh_work k) ≡ false
  dry (bodies.Write e n) = dry_halves Fixed (sets n) (n / 2) (ones (wants e Fixed) n) (λ e. absurd (cc))

  calm : (k : RefreshBody) → IsSilentMove (refresh_work k)
  calm (bodies.Write e n) = calm_halves Fixed (sets n) (n / 2) (ones (wants e Fixed) n)

  turns : (k : RefreshBody) (x : ℕ) → TurnsTo (refresh_bodies d) 32 k (refresh_takes k x)
  turns (bodies.Write e n) x = by (nat_lt n 3) refl
    where
      by : (q : Bool) → nat_lt n 3 ≡ q → TurnsTo (refresh_bodies d) 32 (bodies.Write e n) (if q then (bodies.Write e (n + 1), goes) else (bodies.Write e n, ends (Some Act) no_answer Nothing))
      by true i = (refl, let low = under n i in omega (arith, low))
      by false i = omega arith

  shortens : (k : RefreshBody) (x : ℕ) → Shortens refresh_left k (refresh_takes k x)
  shortens (bodies.Write e n) x = by (nat_lt n 3) refl
    where
      by : (q : Bool) → nat_lt n 3 ≡ q → Shortens refresh_left (bodies.Write e n) (if q then (bodies.Write e (n + 1), goes) else (bodies.Write e n, ends (Some Act) no_answer Nothing))
      by true i = let low = under n i in omega (arith, low)
      by false i = omega arith

  stays : (below : Reservations) (w w1 : World) (s : PortState) (k : RefreshBody) (o : Origin Call) (t : FrameHistory) → place_at ((refresh_bodies d).assertion k) below tt w s o t → place_at ((refresh_bodies d).assertion k) below tt w1 s o t
  stays below w w1 s (bodies.Write e n) o t h = h

  pub refresh_right : AreLong (port_basis d) (refresh_bodies d)
  refresh_right = record {
    own = λ below chip w s k o t h. or_true (is_shared (refresh_work k)) (may_dry o (refresh_work k) (own below chip w s k o t h) (dry k));
    turns = λ below chip w s k o t h. turns k (value_of chip (refresh_work k));
    steps = λ below chip w s k o y t m come few h. steps below chip w s k o y t m h;
    later = λ below chip w s order k o t come shut h. stays below w (world_after w chip.clock.rate order) s k o t h.1;
    calm = λ below chip w s k o t h e. let c = calm k in (c.still, c.silent);
    shortens = shortens;
    cleans = λ k x. never_clean (refresh_work k) k (refresh_takes k x);
  }
