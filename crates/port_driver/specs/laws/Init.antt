-- Port_Init: its sweep of writes, what it holds meanwhile, its act, and that they are right.
-- From RefinementRight, Halves, Ranks, service_outline: SweepWords, service_outline: StepKinds and 2 more.
-- Used by service/init/rt, Lawful, Latches.
use Rattle.std.proofs.Common.{◌≡◌, ◌≢◌, ◌+◌, ◌-◌, ◌/◌, ◌<◌, ◌≤◌, [], ◌∷◌, ◌∙◌, if◌then◌else◌}
use Rattle.port_driver.specs.Terms
use Terms.{Act, Adc, all-step, Alone, ap, AreLong, arith, AssertedAt, begins_word, BodyTaken, Bool, Call, Called, Chip}
use Terms.{chip_after, configured, Directions, DirectionsAgree, each_but, ends, false, Fixed, FrameHistory}
use Terms.{fresh_history, get_or-set_other, get_or-set_same, half_write, HeldRight, Init, InitDone, initial}
use Terms.{initial_mode, Is_alone, is_configured, is_out, is_shared, is_some, Is_this_frame, IsThisFrame, LatchesAgree}
use Terms.{length, length-set, Levels, List, LongBodies, lt_is, lt_isnt, Made, may, mode_number, mode_of, mode_write}
use Terms.{ModesAgree, Move, nat_lt, nat_tests, no_answer, None, Nothing, ones, Option, or_true, Origin, past_wrote, Pin, pin_at, pin_of, PinMode, PinState, place_at, PointAssertion, port_basis, port_may, PortTable, PortPinMode, PortRepresents, PortState, put, put_mode, rank_of, ranked, refl, Reservations, ReservedBy, resets_chip, Right, sets, Setup, slice_index_or, slice_set, Some, STATE, stored_same, Stores, subst, Sweep, sweep, sweep_right, Sweeping, sym, tells_nothing, true, TurnsTo, value_of, wanted_of, wants, with_holds, Within, work, World, world_after, writes_latches, Written, written, written_in, ℕ}
use Rattle.port_driver.specs.declared.service.init.InitDone.TheVariants.{Store}
use Rattle.port_driver.specs.laws.RefinementRight.{basis_right, put_mode_none, written_agrees, with_latches}
use Rattle.port_driver.specs.laws.RefinementRight.{with_directions, with_mode, may_halves, may_mode, IsSilentMove}
use Rattle.port_driver.specs.laws.RefinementRight.{calm_halves, past_halves, may_dry, may_at_init}
use Rattle.port_driver.specs.laws.Halves.{halves_after, length-after, put_none, put_whole, put_written}
use Rattle.port_driver.specs.laws.Ranks.{IsRanked, with_rank-found, same_rank, counted-lt}

-- ---- the sweep

abbrev pub setup_count : Setup → ℕ
setup_count a = 8 + configured a.driver

-- four writes of levels, one of the mode of each configured pin, and four of directions
abbrev pub setup_at : PortTable → ℕ → (levels modes : Bool) → Move
setup_at d i true q = half_write d Levels i
setup_at d i false true = mode_write d (i - 4)
setup_at d i false false = half_write d Directions (i - (4 + configured d))

abbrev pub setup_move : Setup → ℕ → Move
setup_move a i = setup_at a.driver i (nat_lt i 4) (nat_lt i (4 + configured a.driver))

abbrev pub setup_after : Setup → InitDone
setup_after a = Store

abbrev pub done_work : InitDone → Move
done_work Store = Stores STATE 1

abbrev pub done_takes : InitDone → ℕ → InitDone × BodyTaken
done_takes k x = (k, ends (Some Act) no_answer Nothing)

-- the writes are this driver's
pub data IsSetUp (d : PortTable) : Setup → Type 0 where
  Is_setup : IsSetUp d (record { driver = d })

abbrev pub IsInit : Reservations → Origin Call → FrameHistory → Type 0
IsInit below o t = IsThisFrame (Called Init) fresh_history o t × Alone below

abbrev pub part : PortTable → ℕ → List Written
part d i = written d i ∷ []

abbrev pub setting_up : (d : PortTable) → Sweeping (port_basis d) Setup InitDone
setting_up d = record { count = setup_count; move = setup_move; after = setup_after; hold = λ a i. part d i; place = λ a below o t. IsSetUp d a × IsInit below o t }

abbrev pub done_spot : (d : PortTable) → InitDone → PointAssertion (port_basis d)
done_spot d Store = Within 0 (part d (8 + configured d)) (λ below f w s o t. IsInit below o t)

abbrev pub done_bodies : (d : PortTable) → LongBodies (port_basis d) InitDone
done_bodies d = record { work_of = done_work; takes = done_takes; fuel = λ k. 1; room = λ k. 1; clean = λ k. false; assertion = done_spot d }

abbrev pub init_bodies : (d : PortTable) → LongBodies (port_basis d) (Sweep Setup InitDone)
init_bodies d = sweep (setting_up d) (done_bodies d)

-- ---- a write of it

module _ (d : PortTable) (held held1 : Reservations) (chip : Chip) (w : World) (s : PortState) (received : ℕ) (right : HeldRight held1) (h : PortRepresents d held 0 chip w s) where
  -- so many are made
  abbrev Made1 : ℕ → ℕ → ℕ → Reservations → Type 0
  Made1 a m c x = ((written_in x).levels ≡ a) × ((written_in x).modes ≡ m) × ((written_in x).directions ≡ c)

  pub wrote_levels : (a m c : ℕ) → Made1 a m c held → Made1 (a + 1) m c held1 → PortRepresents d held1 0 (chip_after chip (half_write d Levels a) received) w s
  wrote_levels a m c was is =
      let b = record chip.pins { latches = halves_after (sets a) chip.pins.latches (a / 2) (ones (wants d Levels) a) } in
      written_agrees d held held1 0 0 chip w s s _ _ received b (with_latches chip (sets a) (a / 2) (ones (wants d Levels) a) received) right refl
      (record { out = h.whole.out; latches = length-after (sets a) chip.pins.latches (a / 2) (ones (wants d Levels) a) ∙ h.whole.latches; modes = h.whole.modes })
      (subst (λ n. LatchesAgree d n b s) (sym is.0) (λ p lt. put_written (wants d Levels) chip.pins.latches a p (pin_at s p).latch h.whole.latches lt (subst (λ n. LatchesAgree d n chip.pins s) was.0 h.latches p lt)))
      (subst (λ n. ModesAgree d n b s) (was.1 ∙ sym is.1) h.modes)
      (subst (λ n. DirectionsAgree d n 0 b s) (was.2 ∙ sym is.2) h.directions)
      h

  pub wrote_directions : (a m c : ℕ) → Made1 a m c held → Made1 a m (c + 1) held1 → PortRepresents d held1 0 (chip_after chip (half_write d Directions c) received) w s
  wrote_directions a m c was is =
      let b = record chip.pins { out = halves_after (sets c) chip.pins.out (c / 2) (ones (wants d Directions) c) } in
      written_agrees d held held1 0 0 chip w s s _ _ received b (with_directions chip (sets c) (c / 2) (ones (wants d Directions) c) received) right refl
      (record { out = length-after (sets c) chip.pins.out (c / 2) (ones (wants d Directions) c) ∙ h.whole.out; latches = h.whole.latches; modes = h.whole.modes })
      (subst (λ n. LatchesAgree d n b s) (was.0 ∙ sym is.0) h.latches)
      (subst (λ n. ModesAgree d n b s) (was.1 ∙ sym is.1) h.modes)
      (subst (λ n. DirectionsAgree d n 0 b s) (sym is.2) (λ p lt.
      put_written (wants d Directions) chip.pins.out c p (is_out (pin_at s p).direction) h.whole.out lt (subst (λ n. DirectionsAgree d n 0 chip.pins s) was.2 h.directions p lt ∙ put_none (wants d Fixed p) p _)
      ∙ sym (put_none (wants d Fixed p) p _)))
      h

  -- the mode of the pin whose turn it is, and of another one
  rank_next : (k : Option Pin) (rank r : ℕ) (old : PortPinMode) → (is_some k ≡ true → rank ≢ r) → put_mode k rank r old ≡ put_mode k rank (r + 1) old
  rank_next None rank r old ne = refl
  rank_next (Some k) rank r old ne = ap (λ q. if q then k.initial_mode else old) (same (ne refl))
    where
      same : rank ≢ r → nat_lt rank r ≡ nat_lt rank (r + 1)
      same other = grind (arith, nat_tests)

  rank_here : (k : Option Pin) (rank r : ℕ) (old : PortPinMode) → is_some k ≡ true → rank ≡ r → mode_of k ≡ put_mode k rank (r + 1) old
  rank_here None rank r old on e = absurd (cc)
  rank_here (Some k) rank r old on e = ap (λ q. if q then k.initial_mode else old) (sym below)
    where
      below : nat_lt rank (r + 1) ≡ true
      below = grind (arith, nat_tests)

  pub wrote_mode : (a m c : ℕ) → m < configured d → Made1 a m c held → Made1 a (m + 1) c held1 → PortRepresents d held1 0 (chip_after chip (mode_write d m) received) w s
  wrote_mode a m c lt was is =
      let p = ranked d m in
      let b = record chip.pins { modes = slice_set chip.pins.modes p (initial_mode d p) } in
      written_agrees d held held1 0 0 chip w s s (PinMode p) (mode_number (initial_mode d p)) received b (with_mode chip p (initial_mode d p) received) right refl
      (record { out = h.whole.out; latches = h.whole.latches; modes = length-set chip.pins.modes p (initial_mode d p) ∙ h.whole.modes })
      (subst (λ n. LatchesAgree d n b s) (was.0 ∙ sym is.0) h.latches)
      (subst (λ n. ModesAgree d n b s) (sym is.1) modes)
      (subst (λ n. DirectionsAgree d n 0 b s) (was.2 ∙ sym is.2) h.directions)
      h
    where
      found : IsRanked (is_configured d) m 64 (ranked d m)
      found = with_rank-found (is_configured d) m 64 lt

      within : ranked d m < length chip.pins.modes
      within = let size = h.whole.modes in let low = found.below in omega (arith, size, low)

      here : slice_index_or (slice_set chip.pins.modes (ranked d m) (initial_mode d (ranked d m))) (ranked d m) Adc ≡ put_mode (pin_of d (ranked d m)) (rank_of d (ranked d m)) (m + 1) (pin_at s (ranked d m)).mode
      here = get_or-set_same chip.pins.modes (ranked d m) (initial_mode d (ranked d m)) Adc within ∙ rank_here (pin_of d (ranked d m)) (rank_of d (ranked d m)) m (pin_at s (ranked d m)).mode found.on found.rank

      modes : (q : ℕ) → q < 64 → slice_index_or (slice_set chip.pins.modes (ranked d m) (initial_mode d (ranked d m))) q Adc ≡ put_mode (pin_of d q) (rank_of d q) (m + 1) (pin_at s q).mode
      modes q low = each_but (λ i. i < 64 → slice_index_or (slice_set chip.pins.modes (ranked d m) (initial_mode d (ranked d m))) i Adc ≡ put_mode (pin_of d i) (rank_of d i) (m + 1) (pin_at s i).mode) (ranked d m) (λ g. here) q
          (λ ne g. get_or-set_other chip.pins.modes (ranked d m) q (initial_mode d (ranked d m)) Adc ne
          ∙ (subst (λ n. ModesAgree d n chip.pins s) was.1 h.modes q g
          ∙ rank_next (pin_of d q) (rank_of d q) m (pin_at s q).mode (λ on e. ne (same_rank (is_configured d) q (ranked d m) on found.on (e ∙ sym found.rank))))) low

-- ---- the sweep's steps

module _ (d : PortTable) where
  abbrev one : Origin Call → ℕ → ReservedBy Call Written
  one o i = record { by = o; what = written d i; acted = None }

  step_by : (i : ℕ) (chip : Chip) (w : World) (s : PortState) → i < 8 + configured d → PortRepresents d (one (Called Init) i ∷ []) 0 chip w s → (q : Bool) → nat_lt i 4 ≡ q → (r : Bool) → nat_lt i (4 + configured d) ≡ r → PortRepresents d (one (Called Init) (i + 1) ∷ []) 0 (chip_after chip (setup_at d i q r) 0) w s
  step_by i chip w s lt h true e r f =
      let low = lt_is i 4 e in
      wrote_levels d (one (Called Init) i ∷ []) (one (Called Init) (i + 1) ∷ []) chip w s 0 (refl, refl) h i 0 0
      (omega (arith, low), omega (arith, low), omega (arith, low)) (omega (arith, low), omega (arith, low), omega (arith, low))
  step_by i chip w s lt h false e true f =
      let past = lt_isnt i 4 e in
      let low = lt_is i (4 + configured d) f in
      wrote_mode d (one (Called Init) i ∷ []) (one (Called Init) (i + 1) ∷ []) chip w s 0 (refl, refl) h 4 (i - 4) 0 (omega (arith, past, low))
      (omega (arith, past), omega (arith, past, low), omega (arith, low)) (omega (arith, past), omega (arith, past, low), omega (arith, low))
  step_by i chip w s lt h false e false f =
      let past = lt_isnt i (4 + configured d) f in
      wrote_directions d (one (Called Init) i ∷ []) (one (Called Init) (i + 1) ∷ []) chip w s 0 (refl, refl) h 4 (configured d) (i - (4 + configured d))
      (omega (arith, past), omega (arith, past), refl) (omega (arith, past), omega (arith, past), omega (arith, past))

  own_by : (i : ℕ) → i < 8 + configured d → (q : Bool) → nat_lt i 4 ≡ q → (r : Bool) → nat_lt i (4 + configured d) ≡ r → may (setup_at d i q r) ≡ true
  own_by i lt true e r f = may_halves Levels (sets i) (i / 2) (ones (wants d Levels) i) (let low = lt_is i 4 e in omega (arith, low))
  own_by i lt false e true f =
      let past = lt_isnt i 4 e in
      let low = lt_is i (4 + configured d) f in
      let found = with_rank-found (is_configured d) (i - 4) 64 (omega (arith, past, low)) in
      may_mode (ranked d (i - 4)) (mode_number (initial_mode d (ranked d (i - 4)))) found.below
  own_by i lt false e false f =
      let past = lt_isnt i (4 + configured d) f in
      may_halves Directions (sets (i - (4 + configured d))) ((i - (4 + configured d)) / 2) (ones (wants d Directions) (i - (4 + configured d))) (omega (arith, past, lt))

  calm_by : (i : ℕ) (q r : Bool) → IsSilentMove (setup_at d i q r)
  calm_by i true r = calm_halves Levels (sets i) (i / 2) (ones (wants d Levels) i)
  calm_by i false true = record { still = refl; silent = refl }
  calm_by i false false = calm_halves Directions (sets (i - (4 + configured d))) ((i - (4 + configured d)) / 2) (ones (wants d Directions) (i - (4 + configured d)))

-- a write of pins commits nothing
past_by : (d : PortTable) (w : World) (i : ℕ) (q r : Bool) (t : FrameHistory) → past_wrote w (setup_at d i q r) t ≡ t
past_by d w i true r t = past_halves w Levels (sets i) (i / 2) (ones (wants d Levels) i) t
past_by d w i false true t = refl
past_by d w i false false t = past_halves w Directions (sets (i - (4 + configured d))) ((i - (4 + configured d)) / 2) (ones (wants d Directions) (i - (4 + configured d))) t

-- ---- the act

-- each pin as it is configured, where it is
latch_done : (k : Option Pin) (p n : ℕ) (x : PinState) → n ≡ 4 → p < 64 → put (wanted_of Levels k) p n x.latch ≡ (initial k x).latch
latch_done None p n x e lt = refl
latch_done (Some k) p n x e lt = ap (λ m. put (Some k.level_high) p m x.latch) e ∙ put_whole (Some k.level_high) p x.latch lt

direction_done : (k : Option Pin) (p n : ℕ) (x : PinState) → n ≡ 4 → p < 64 → put (wanted_of Directions k) p n (is_out x.direction) ≡ is_out (initial k x).direction
direction_done None p n x e lt = refl
direction_done (Some k) p n x e lt = ap (λ m. put (Some (is_out k.direction)) p m (is_out x.direction)) e ∙ put_whole (Some (is_out k.direction)) p (is_out x.direction) lt

mode_done : (k : Option Pin) (rank n : ℕ) (x : PinState) → (is_some k ≡ true → rank < n) → put_mode k rank n x.mode ≡ (initial k x).mode
mode_done None rank n x lt = refl
mode_done (Some k) rank n x lt = ap (λ q. if q then k.initial_mode else x.mode) (yes (lt refl))
  where
    yes : rank < n → nat_lt rank n ≡ true
    yes low = grind (arith, nat_tests)

acted : (d : PortTable) (held : ReservedBy Call Written) (chip : Chip) (w : World) (s : PortState) (received : ℕ) → held.what ≡ written d (8 + configured d) → PortRepresents d (held ∷ []) 0 chip w s → PortRepresents d [] 0 (chip_after chip (Stores STATE 1) received) w (work d s Init)
acted d held chip w s received is h = record {
  right = tt;
  all = all-step chip (Made (Stores STATE 1) received) tt h.all;
  whole = h.whole;
  word = stored_same chip STATE 1 received (omega arith) h.all.words;
  latches = λ p lt. h.latches p lt ∙ (latch_done (pin_of d p) p held.what.levels (pin_at s p) levels lt ∙ sym (put_none (wants d Levels p) p _));
  modes = λ p lt. h.modes p lt ∙ (mode_done (pin_of d p) (rank_of d p) held.what.modes (pin_at s p) (λ on. let low = counted-lt (is_configured d) p 64 lt on in omega (arith, low, modes)) ∙ sym (put_mode_none (pin_of d p) (rank_of d p) _));
  directions = λ p lt. h.directions p lt ∙ (put_none (wants d Fixed p) p _ ∙ (direction_done (pin_of d p) p held.what.directions (pin_at s p) directions lt ∙ sym (put_none (wants d Fixed p) p _ ∙ put_none (wants d Directions p) p _)));
}
  where
    levels : held.what.levels ≡ 4
    levels = ap (λ (x : Written). x.levels) is ∙ omega arith

    modes : held.what.modes ≡ configured d
    modes = ap (λ (x : Written). x.modes) is ∙ omega arith

    directions : held.what.directions ≡ 4
    directions = ap (λ (x : Written). x.directions) is ∙ omega arith

module _ (d : PortTable) where
  done_steps : (below : Reservations) (chip : Chip) (w : World) (s : PortState) (k : InitDone) (o : Origin Call) (y : ℕ) (t : FrameHistory) (m : ℕ → Bool) → AssertedAt (port_basis d) (done_bodies d) below chip w s k o t → Right (port_basis d) (done_bodies d) below chip w s k o y t m
  done_steps below chip w s Store o y t m (h, (Is_this_frame, Is_alone)) = record {
    may = refl;
    stands = tt;
    state = work d s Init;
    told = tells_nothing;
    begins = None;
    is = refl;
    sends = tt;
    acts = tt;
    reset = refl;
    next = (acted d (one d o (8 + configured d)) chip w s y refl h, record { may = (refl, refl); served = false; owed = refl; shown = λ e. absurd (cc); report = refl });
  }

  done_right : AreLong (port_basis d) (done_bodies d)
  done_right = record {
    own = λ below chip w s k o t h. or_true (is_shared (done_work k)) (may_dry o (done_work k) (own k) (dry k));
    turns = λ below chip w s k o t h. turns k (value_of chip (done_work k));
    steps = λ below chip w s k o y t m come few h. done_steps below chip w s k o y t m h;
    later = λ below chip w s order k o t come shut h. stays below w (world_after w chip.clock.rate order) s k o t h.1;
    calm = λ below chip w s k o t h e. calm k;
    shortens = λ k x. omega arith;
    cleans = λ k x. tt;
  }
    where
      own : (k : InitDone) → may (done_work k) ≡ true
      own Store = refl

      dry : (k : InitDone) → writes_latches (done_work k) ≡ false
      dry Store = refl

      turns : (k : InitDone) (x : ℕ) → TurnsTo (done_bodies d) 32 k (done_takes k x)
      turns Store x = omega arith

      calm : (k : InitDone) → (resets_chip (done_work k) ≡ false) × (begins_word (done_work k) ≡ false)
      calm Store = (refl, refl)

      stays : (below : Reservations) (w w1 : World) (s : PortState) (k : InitDone) (o : Origin Call) (t : FrameHistory) → place_at ((done_bodies d).assertion k) below tt w s o t → place_at ((done_bodies d).assertion k) below tt w1 s o t
      stays below w w1 s Store o t h = h

  -- what the sweep owes of its objects
  own : (a : Setup) (i : ℕ) (below : Reservations) (o : Origin Call) (t : FrameHistory) → i < setup_count a → (setting_up d).place a below o t → port_may o (setup_move a i) ≡ true
  own a i below o t lt (Is_setup, (Is_this_frame, alone)) = may_at_init (setup_move a i) (own_by d i lt (nat_lt i 4) refl (nat_lt i (4 + configured d)) refl)

  step : (a : Setup) (i : ℕ) (below : Reservations) (chip : Chip) (w : World) (s : PortState) (o : Origin Call) (t : FrameHistory) → i < setup_count a → (setting_up d).place a below o t → PortRepresents d (with_holds o t.acted (part d i) below) 0 chip w s → PortRepresents d (with_holds o t.acted (part d (i + 1)) below) 0 (chip_after chip (setup_move a i) 0) w s
  step a i below chip w s o t lt (Is_setup, (Is_this_frame, Is_alone)) h = step_by d i chip w s lt h (nat_lt i 4) refl (nat_lt i (4 + configured d)) refl

  follows : (a : Setup) (below : Reservations) (chip : Chip) (w : World) (s : PortState) (o : Origin Call) (t : FrameHistory) → (setting_up d).place a below o t → PortRepresents d (with_holds o t.acted (part d (setup_count a)) below) 0 chip w s → AssertedAt (port_basis d) (done_bodies d) below chip w s Store o t
  follows a below chip w s o t (Is_setup, f) h = (h, f)

  pub init_right : AreLong (port_basis d) (init_bodies d)
  init_right = sweep_right (port_basis d) (setting_up d) (done_bodies d) (basis_right d) done_right (record {
    own = own;
    still = λ a i. let calm = calm_by a.driver i (nat_lt i 4) (nat_lt i (4 + configured a.driver)) in (calm.still, calm.silent);
    step = step;
    stays = λ a i below w o t h. subst (λ x. IsSetUp d a × IsInit below o x) (sym (past_by a.driver w i (nat_lt i 4) (nat_lt i (4 + configured a.driver)) t)) h;
    follows = follows;
    closed = λ a. refl;
    room = λ a below o t h. omega arith;
    unclean = λ k. refl;
  })

  -- none of its writes is made yet
  pub begins_init : (chip : Chip) (w : World) (s : PortState) → PortRepresents d [] 0 chip w s → PortRepresents d (one d (Called Init) 0 ∷ []) 0 chip w s
  begins_init chip w s h = record {
    right = (refl, refl);
    all = h.all;
    whole = h.whole;
    word = h.word;
    latches = subst (λ n. LatchesAgree d n chip.pins s) levels h.latches;
    modes = subst (λ n. ModesAgree d n chip.pins s) modes h.modes;
    directions = subst (λ n. DirectionsAgree d n 0 chip.pins s) directions h.directions;
  }
    where
      levels : 0 ≡ (written d 0).levels
      levels = omega arith

      modes : 0 ≡ (written d 0).modes
      modes = omega arith

      directions : 0 ≡ (written d 0).directions
      directions = omega arith
