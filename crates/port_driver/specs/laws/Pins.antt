-- Port_SetPinDirection and Port_SetPinMode: their one write, and that it is right.
-- From RefinementRight, Halves, service_outline: SweepWords, service_outline: Acts, service_outline: StepKinds.
-- Used by service/pin/rt, Lawful.
use Rattle.std.proofs.Common.{◌≡◌, ◌≢◌, ◌/◌, ◌%◌, ◌<◌, ◌^◌, ◌==◌, [], ◌∙◌}
use Rattle.port_driver.specs.Terms
use Terms.{Act, acts_by, Adc, Alone, ap, AreLong, arith, AssertedAt, BodyTaken, Bool, Call, Called, changed, Chip}
use Terms.{chip_after, chosen, cond, Direction, Directions, each_but, ends, eq_other, eq_self, error_by, false, Fixed}
use Terms.{FrameHistory, fresh_history, get_or-set_other, get_or-set_same, Is_alone, is_out, is_shared, Is_this_frame}
use Terms.{IsThisFrame, length, length-set, Levels, LongBodies, may, Mode, mode_number, Move, never_clean, no_answer}
use Terms.{None, not, Nothing, or_true, Origin, pin_at, pin_of, PinBody, PinCall, PinMode, PinState, PointAssertion, port_basis, PortTable, PortPinDirection, PortPinMode, PortRepresents, PortState, put, put_mode, rank_of, refl, register, Reservations, Right, SetPinDirection, SetPinMode, slice_index_or, slice_set, Some, sym, tells_nothing, true, TurnsTo, value_of, wants, with_at, Within, work, World, Write, writes_latches, ℕ}
use Rattle.port_driver.specs.laws.RefinementRight.{put_mode_none, written_agrees, with_directions, with_mode}
use Rattle.port_driver.specs.laws.RefinementRight.{may_halves, may_mode, IsSilentMove, calm_halves, sends_halves}
use Rattle.port_driver.specs.laws.RefinementRight.{may_dry, dry_halves}
use Rattle.port_driver.specs.laws.Halves.{halves_after, length-after, put_none, single_after}
use Rattle.module_machines.specs.declared.port.call.Call.TheVariants as calls

abbrev pub pin_work : PinBody → Move
pin_work (Direction p x) = Write (register Directions (is_out x) (p / 32)) (2 ^ (p % 32))
pin_work (Mode p m) = Write (PinMode p) (mode_number m)

abbrev pub pin_takes : PinBody → ℕ → PinBody × BodyTaken
pin_takes k x = (k, ends (Some Act) no_answer Nothing)

-- the call that it is of, and the pin
abbrev pub call_by : PinBody → Call
call_by (Direction p x) = calls.Pin p (SetPinDirection x)
call_by (Mode p m) = calls.Pin p (SetPinMode (Some m))

abbrev pub number_in : PinBody → ℕ
number_in (Direction p x) = p
number_in (Mode p m) = p

abbrev pub pin_spot : (d : PortTable) → PinBody → PointAssertion (port_basis d)
pin_spot d k = Within 0 [] (λ below f w s o t. IsThisFrame (Called (call_by k)) fresh_history o t × Alone below × (number_in k < 64) × (error_by d (call_by k) (not s.initialised) ≡ None))

abbrev pub pin_bodies : (d : PortTable) → LongBodies (port_basis d) PinBody
pin_bodies d = record { work_of = pin_work; takes = pin_takes; fuel = λ k. 1; room = λ k. 1; clean = λ k. false; assertion = pin_spot d }

-- what a call leaves of the pins, by what is looked at
module _ {A : Type 0} (see : PinState → A) (f : ℕ → PinState) (p : ℕ) (x : PinState) where
  seen_same : see (with_at f p x p) ≡ see x
  seen_same = ap (λ q. see (cond q x (f p))) (eq_self p)

  seen_other : (q : ℕ) → q ≢ p → see (with_at f p x q) ≡ see (f q)
  seen_other q ne = ap (λ b. see (cond b x (f q))) (eq_other q p ne)

  seen_kept : see x ≡ see (f p) → (q : ℕ) → see (f q) ≡ see (with_at f p x q)
  seen_kept e q = each_but (λ i. see (f i) ≡ see (with_at f p x i)) p (sym e ∙ sym seen_same) q (λ ne. sym (seen_other q ne))

  seen_chosen : (q : ℕ) → chosen (q == p) (see x) (see (f q)) ≡ see (with_at f p x q)
  seen_chosen q = each_but (λ i. chosen (i == p) (see x) (see (f i)) ≡ see (with_at f p x i)) p (ap (λ b. chosen b (see x) (see (f p))) (eq_self p) ∙ sym seen_same) q (λ ne. ap (λ b. chosen b (see x) (see (f q))) (eq_other q p ne) ∙ sym (seen_other q ne))

module _ (d : PortTable) (chip : Chip) (w : World) (s : PortState) (h : PortRepresents d [] 0 chip w s) (p : ℕ) (low : p < 64) (received : ℕ) where
  latches_kept : (call : PinCall) → (changed call (pin_at s p)).latch ≡ (pin_at s p).latch → (q : ℕ) → put (wants d Levels q) q 0 (pin_at s q).latch ≡ put (wants d Levels q) q 0 (with_at (λ i. pin_at s i) p (changed call (pin_at s p)) q).latch
  latches_kept call e q = ap (λ b. put (wants d Levels q) q 0 b) (seen_kept (λ x. x.latch) (λ i. pin_at s i) p (changed call (pin_at s p)) e q)

  turned : (x : PortPinDirection) → PortRepresents d [] 0 (chip_after chip (Write (register Directions (is_out x) (p / 32)) (2 ^ (p % 32))) received) w (work d s (calls.Pin p (SetPinDirection x)))
  turned x =
      let b = record chip.pins { out = halves_after (is_out x) chip.pins.out (p / 32) (2 ^ (p % 32)) } in
      let new = changed (SetPinDirection x) (pin_at s p) in
      written_agrees d [] [] 0 0 chip w s (work d s (calls.Pin p (SetPinDirection x))) _ _ received b (with_directions chip (is_out x) (p / 32) (2 ^ (p % 32)) received) tt refl
      (record { out = length-after (is_out x) chip.pins.out (p / 32) (2 ^ (p % 32)) ∙ h.whole.out; latches = h.whole.latches; modes = h.whole.modes })
      (λ q lt. h.latches q lt ∙ latches_kept (SetPinDirection x) refl q)
      (λ q lt. h.modes q lt ∙ ap (λ m. put_mode (pin_of d q) (rank_of d q) 0 m) (seen_kept (λ y. y.mode) (λ i. pin_at s i) p new refl q))
      (λ q lt. single_after (is_out x) chip.pins.out p q h.whole.out lt
      ∙ (ap (λ y. chosen (q == p) (is_out x) y) (h.directions q lt ∙ (put_none (wants d Fixed q) q _ ∙ put_none (wants d Directions q) q _))
      ∙ (seen_chosen (λ y. is_out y.direction) (λ i. pin_at s i) p new q
      ∙ sym (put_none (wants d Fixed q) q _ ∙ put_none (wants d Directions q) q _))))
      h

  modes_after : (m : PortPinMode) (q : ℕ) → slice_index_or (slice_set chip.pins.modes p m) q Adc ≡ chosen (q == p) m (slice_index_or chip.pins.modes q Adc)
  modes_after m q = each_but (λ i. slice_index_or (slice_set chip.pins.modes p m) i Adc ≡ chosen (i == p) m (slice_index_or chip.pins.modes i Adc)) p
      (get_or-set_same chip.pins.modes p m Adc within ∙ sym (ap (λ b. chosen b m (slice_index_or chip.pins.modes p Adc)) (eq_self p))) q
      (λ ne. get_or-set_other chip.pins.modes p q m Adc ne ∙ sym (ap (λ b. chosen b m (slice_index_or chip.pins.modes q Adc)) (eq_other q p ne)))
    where
      within : p < length chip.pins.modes
      within = let size = h.whole.modes in omega (arith, size, low)

  muxed : (m : PortPinMode) → PortRepresents d [] 0 (chip_after chip (Write (PinMode p) (mode_number m)) received) w (work d s (calls.Pin p (SetPinMode (Some m))))
  muxed m =
      let b = record chip.pins { modes = slice_set chip.pins.modes p m } in
      let new = changed (SetPinMode (Some m)) (pin_at s p) in
      written_agrees d [] [] 0 0 chip w s (work d s (calls.Pin p (SetPinMode (Some m)))) (PinMode p) (mode_number m) received b (with_mode chip p m received) tt refl
      (record { out = h.whole.out; latches = h.whole.latches; modes = length-set chip.pins.modes p m ∙ h.whole.modes })
      (λ q lt. h.latches q lt ∙ latches_kept (SetPinMode (Some m)) refl q)
      (λ q lt. modes_after m q
      ∙ (ap (λ y. chosen (q == p) m y) (h.modes q lt ∙ put_mode_none (pin_of d q) (rank_of d q) _)
      ∙ (seen_chosen (λ y. y.mode) (λ i. pin_at s i) p new q
      ∙ sym (put_mode_none (pin_of d q) (rank_of d q) _))))
      (λ q lt. h.directions q lt ∙ ap (λ y. put (wants d Fixed q) q 0 (put (wants d Directions q) q 0 y)) (seen_kept (λ y. is_out y.direction) (λ i. pin_at s i) p new refl q))
      h

module _ (d : PortTable) where
  steps : (below : Reservations) (chip : Chip) (w : World) (s : PortState) (k : PinBody) (o : Origin Call) (y : ℕ) (t : FrameHistory) (m : ℕ → Bool) → AssertedAt (port_basis d) (pin_bodies d) below chip w s k o t → Right (port_basis d) (pin_bodies d) below chip w s k o y t m
  steps below chip w s (Direction p x) o y t m (h, (Is_this_frame, Is_alone, lt, pass)) = record {
    may = refl;
    stands = tt;
    state = work d s (calls.Pin p (SetPinDirection x));
    told = tells_nothing;
    begins = None;
    is = ap (λ e. Some (acts_by d s (calls.Pin p (SetPinDirection x)) e)) pass;
    sends = sends_halves chip Directions (is_out x) (p / 32) (2 ^ (p % 32));
    acts = tt;
    reset = (calm_halves Directions (is_out x) (p / 32) (2 ^ (p % 32))).still;
    next = (turned d chip w s h p lt y x, record { may = (refl, refl); served = false; owed = refl; shown = λ e. absurd (cc); report = refl });
  }
  steps below chip w s (Mode p x) o y t m (h, (Is_this_frame, Is_alone, lt, pass)) = record {
    may = refl;
    stands = tt;
    state = work d s (calls.Pin p (SetPinMode (Some x)));
    told = tells_nothing;
    begins = None;
    is = ap (λ e. Some (acts_by d s (calls.Pin p (SetPinMode (Some x))) e)) pass;
    sends = tt;
    acts = tt;
    reset = refl;
    next = (muxed d chip w s h p lt y x, record { may = (refl, refl); served = false; owed = refl; shown = λ e. absurd (cc); report = refl });
  }

  own : (k : PinBody) → number_in k < 64 → may (pin_work k) ≡ true
  own (Direction p x) lt = may_halves Directions (is_out x) (p / 32) (2 ^ (p % 32)) (omega (arith, lt))
  own (Mode p m) lt = may_mode p (mode_number m) lt

  dry : (k : PinBody) → writes_latches (pin_work k) ≡ false
  dry (Direction p x) = dry_halves Directions (is_out x) (p / 32) (2 ^ (p % 32)) (λ e. absurd (cc))
  dry (Mode p m) = refl

  calm : (k : PinBody) → IsSilentMove (pin_work k)
  calm (Direction p x) = calm_halves Directions (is_out x) (p / 32) (2 ^ (p % 32))
  calm (Mode p m) = record { still = refl; silent = refl }

  turns : (k : PinBody) (x : ℕ) → TurnsTo (pin_bodies d) 32 k (pin_takes k x)
  turns (Direction p x) y = omega arith
  turns (Mode p m) y = omega arith

  pub pin_right : AreLong (port_basis d) (pin_bodies d)
  pin_right = record {
    own = λ below chip w s k o t h. or_true (is_shared (pin_work k)) (may_dry o (pin_work k) (own k h.1.2) (dry k));
    turns = λ below chip w s k o t h. turns k (value_of chip (pin_work k));
    steps = λ below chip w s k o y t m come few h. steps below chip w s k o y t m h;
    later = λ below chip w s order k o t come shut h. h.1;
    calm = λ below chip w s k o t h e. let c = calm k in (c.still, c.silent);
    shortens = λ k x. omega arith;
    cleans = λ k x. never_clean (pin_work k) k (pin_takes k x);
  }
