-- Spi_Init: its places, what its steps leave, and that it is right.
-- From services.InitActRight, services.InitPrepared, services.InitSteps, words.WordsOfModule, words.Cases and 7 more.
-- Used by spi_driver: bookkeeping.Lawful, spi_driver: bookkeeping.UnpolledFrames, spi_driver: services.UnitBegins.
use Rattle.std.proofs.Common.{◌≡◌, ◌+◌, ◌-◌, ◌*◌, ◌/◌, ◌%◌, ◌<◌, ◌≤◌, ◌||◌, [], ◌∷◌, ◌++◌, ◌∙◌, if◌then◌else◌}
use Rattle.spi_sequences.specs.Terms
use Terms.{acts_by, ap, AreLong, arith, AssertedAt, bank_word, begins_word, Bool, Call, Called, Channel, channel_of}
use Terms.{Chip, chip_after, cond, control_word, count_by, drop, drop_all, error_by, false, FitsSpi, FrameHistory}
use Terms.{free_bank, fresh_history, goes, happened, has_ended, InitBody, initial, InitPlace, inl, inr, internal_by}
use Terms.{is_closed, is_off, is_own_word, is_shared, is_some, Is_this_frame, IsThisFrame, job_word, length}
use Terms.{length-replicate, List, LongBodies, lt_from, MakesTo, Mask, may, Memory, missed_after, moved, nat_lt}
use Terms.{never_clean, NO_CHANNEL, None, Option, option_as, or_else, Order, order_word, Origin, Outside, own-control}
use Terms.{own-word, place_at, placed_of, PointAssertion, Preparing, Put, put_gave, put_more, Putting, Received, refl}
use Terms.{replicate, Reservation, Reservations, resets_chip, Right, running_word, Sent, sequence_word, set_up_word}
use Terms.{Shortens, Side, slice_index_or, Some, some_or_none, spi_basis, spi_machine, SpiRepresents, SpiState}
use Terms.{SpiTable, STATE, Store, subst, suc, sum_by, sum_by-cons, sym, tells_nothing, trio_of, true, TurnsMask}
use Terms.{TurnsTo, Under, Unmask, value_of, whether_as, whole_steps, Within, word_later, word_of, World, world_after}
use Terms.{zero, ℕ}
use Rattle.spi_sequences.specs.laws.bookkeeping.RefinementRight.{apart_agrees, frame_may}
use Rattle.spi_sequences.specs.laws.{hardware.SourceFilled.{own_low}, hardware.StableUnderHardware.{mode_later}}
use Rattle.spi_sequences.specs.laws.services.InitActRight.{all_cleared, all_readied, AllCleared, cleared_apart}
use Rattle.spi_sequences.specs.laws.services.InitActRight.{clears, is_internal, jobs_below, jobs_cleared}
use Rattle.spi_sequences.specs.laws.services.InitActRight.{more_cleared, readied_at, readied_below, renewed}
use Rattle.spi_sequences.specs.laws.services.InitActRight.{sequences_below, sequences_cleared, set_ups_below}
use Rattle.spi_sequences.specs.laws.services.InitActRight.{set_ups_cleared, units_below, units_cleared, with_set_up}
use Rattle.spi_sequences.specs.laws.services.InitPrepared.{chosen, committed, filled_on, first_of, is_in, prep}
use Rattle.spi_sequences.specs.laws.services.InitPrepared.{prepared_agrees, prepared_by, prepared_first, small}
use Rattle.spi_sequences.specs.laws.services.InitSteps.{after_channel, after_set_up, after_side, fill_from, first_in}
use Rattle.spi_sequences.specs.laws.services.InitSteps.{init_commits, init_move, init_takes, init_work, set_up_move}
use Rattle.spi_sequences.specs.laws.{services.SetUpRight.{may_store}, services.WriteRight.{free_few, put_less}}
use Rattle.spi_sequences.specs.laws.words.WordsOfModule.{has_channel, of_sixteen, own_banks, own_first, own_set_up}
use Rattle.spi_sequences.specs.laws.words.WordsToState.{is_below, is_past}
use Rattle.word_shapes.specs.TripleBuffer as trio
use Rattle.word_shapes.specs.declared.put.Put.TheVariants as puts
use Rattle.spi_machine.specs.declared.call.Call.TheVariants as calls
use Rattle.spi_sequences.specs.declared.service.init.InitPlace.TheVariants as init

-- ---- what is held at a place

abbrev pub stored_before : SpiTable → InitPlace → List (ℕ × ℕ)
stored_before d init.Opens = []
stored_before d (init.Free u) = units_below u
stored_before d (init.Empty u) = (running_word u, 0) ∷ units_below u
stored_before d (init.Job j) = jobs_below j
stored_before d (init.Sequence q) = sequences_below q
stored_before d (init.SetUp c) = set_ups_below d c
stored_before d (init.Choose c side) = set_ups_below d (suc c)
stored_before d (init.Fill c side b i) = set_ups_below d (suc c)
stored_before d (init.Shut c side b) = set_ups_below d (suc c)
stored_before d (init.Commit c side p) = set_ups_below d (suc c)
stored_before d (init.Reopen c side) = set_ups_below d (suc c)
stored_before d _ = set_ups_below d 16

abbrev pub readied_before : SpiTable → InitPlace → List (ℕ × Bool)
readied_before d (init.SetUp c) = readied_below d c
readied_before d (init.Choose c side) = readied_at d c side
readied_before d (init.Fill c side b i) = readied_at d c side
readied_before d (init.Shut c side b) = readied_at d c side
readied_before d (init.Commit c side p) = readied_at d c side
readied_before d (init.Reopen c side) = (c, is_in side) ∷ readied_at d c side
readied_before d init.Closes = readied_below d 16
readied_before d init.Store = readied_below d 16
readied_before d _ = []

-- a bank with so many first words
abbrev pub filled_to : SpiTable → ℕ → Side → (bank count : ℕ) → Option (ℕ × Bool × Putting)
filled_to d c side b i = Some (c, is_in side, record { bank = b; filled = replicate i (first_in (placed_of d c) side) })

-- the bank that is committed
abbrev pub bank_in : Put → ℕ
bank_in (puts.Commit j b) = b
bank_in (puts.Tell j v) = v % 4
bank_in _ = 0

abbrev pub fills_at : SpiTable → InitPlace → Option (ℕ × Bool × Putting)
fills_at d (init.Fill c side b i) = filled_to d c side b i
fills_at d (init.Shut c side b) = filled_to d c side b (placed_of d c).channel.length
fills_at d (init.Commit c side p) = filled_to d c side (bank_in p) (placed_of d c).channel.length
fills_at d _ = None

abbrev pub prepares_at : SpiTable → InitPlace → List Reservation
prepares_at d p = Preparing (stored_before d p) (readied_before d p) (fills_at d p) ∷ []

-- ---- places

-- the frame is that of the call, above no other one of the module
abbrev pub IsInit : SpiTable → SpiTable → Reservations → Origin Call → FrameHistory → Type 0
IsInit d x below o t = IsThisFrame (Called calls.Init) fresh_history o t × (below ≡ []) × (x ≡ d)

-- the channel is configured and internal
abbrev pub IsInternal : SpiTable → ℕ → Type 0
IsInternal d c = (k : Channel) × (channel_of d c ≡ Some k) × (k.internal ≡ true)

abbrev pub IsCommitting : SpiTable → ℕ → Side → Memory → Put → Type 0
IsCommitting d c side m (puts.Commit j b) = j ≡ control_word (placed_of d c) side
IsCommitting d c side m (puts.Tell j v) = (j ≡ control_word (placed_of d c) side) × (v ≡ v % 4 + 4 * (m j / 4))
IsCommitting d c side m _ = ⊥

abbrev pub init_spot_at : (d : SpiTable) → SpiTable → InitPlace → PointAssertion (spi_basis d)
init_spot_at d x init.Opens = Within (Under tt) [] (λ below f w s o t. IsInit d x below o t × (is_off s.mode ≡ true))
init_spot_at d x (init.Free u) = Outside (prepares_at d (init.Free u)) (λ below o t. IsInit d x below o t × (u < 2))
init_spot_at d x (init.Empty u) = Outside (prepares_at d (init.Empty u)) (λ below o t. IsInit d x below o t × (u < 2))
init_spot_at d x (init.Job j) = Outside (prepares_at d (init.Job j)) (λ below o t. IsInit d x below o t × (j < 16))
init_spot_at d x (init.Sequence q) = Outside (prepares_at d (init.Sequence q)) (λ below o t. IsInit d x below o t × (q < 8))
init_spot_at d x (init.SetUp c) = Outside (prepares_at d (init.SetUp c)) (λ below o t. IsInit d x below o t × (c < 16))
init_spot_at d x (init.Choose c side) = Outside (prepares_at d (init.Choose c side)) (λ below o t. IsInit d x below o t × IsInternal d c)
init_spot_at d x (init.Fill c side b i) = Outside (prepares_at d (init.Fill c side b i)) (λ below o t. IsInit d x below o t × IsInternal d c × (i < (placed_of d c).channel.length))
init_spot_at d x (init.Shut c side b) = Outside (prepares_at d (init.Shut c side b)) (λ below o t. IsInit d x below o t × IsInternal d c)
init_spot_at d x (init.Commit c side p) = Within (Under tt) (prepares_at d (init.Commit c side p)) (λ below f w s o t. IsInit d x below o t × IsInternal d c × IsCommitting d c side f.0 p)
init_spot_at d x (init.Reopen c side) = Within (Under tt) (prepares_at d (init.Reopen c side)) (λ below f w s o t. IsInit d x below o t × IsInternal d c)
init_spot_at d x init.Closes = Outside (prepares_at d init.Closes) (λ below o t. IsInit d x below o t)
init_spot_at d x init.Store = Within (Under tt) (prepares_at d init.Store) (λ below f w s o t. IsInit d x below o t)

-- the steps of a channel after its set-up, of those of the last so many channels, and after a channel
abbrev pub channel_cost : SpiTable → ℕ → ℕ
channel_cost d c = if (placed_of d c).channel.internal then 12 + 2 * (placed_of d c).channel.length else 0

abbrev pub costs : SpiTable → ℕ → ℕ
costs d zero = 0
costs d (suc n) = 1 + channel_cost d (15 - n) + costs d n

abbrev pub rest_after : SpiTable → ℕ → ℕ
rest_after d c = 2 + costs d (15 - c)

-- after a side
abbrev pub rest_of : SpiTable → ℕ → Side → ℕ
rest_of d c Sent = 6 + (placed_of d c).channel.length + rest_after d c
rest_of d c Received = rest_after d c

abbrev pub init_fuel_at : SpiTable → InitPlace → ℕ
init_fuel_at d init.Opens = 34 + rest_after d 0 + channel_cost d 0
init_fuel_at d (init.Free u) = 29 + 2 * (2 - u) + rest_after d 0 + channel_cost d 0
init_fuel_at d (init.Empty u) = 28 + 2 * (2 - u) + rest_after d 0 + channel_cost d 0
init_fuel_at d (init.Job j) = 11 + (16 - j) + rest_after d 0 + channel_cost d 0
init_fuel_at d (init.Sequence q) = 2 + (8 - q) + rest_after d 0 + channel_cost d 0
init_fuel_at d (init.SetUp c) = 1 + channel_cost d c + rest_after d c
init_fuel_at d (init.Choose c side) = 6 + (placed_of d c).channel.length + rest_of d c side
init_fuel_at d (init.Fill c side b i) = 5 + ((placed_of d c).channel.length - i) + rest_of d c side
init_fuel_at d (init.Shut c side b) = 4 + rest_of d c side
init_fuel_at d (init.Commit c side p) = 2 + put_more p + rest_of d c side
init_fuel_at d (init.Reopen c side) = 1 + rest_of d c side
init_fuel_at d init.Closes = 2
init_fuel_at d init.Store = 1

abbrev pub init_room_at : InitPlace → ℕ
init_room_at (init.Commit c side p) = 1 + put_more p
init_room_at init.Store = 1
init_room_at _ = 0

abbrev pub init_bodies : (d : SpiTable) → LongBodies (spi_basis d) InitBody
init_bodies d = record { work_of = init_work; takes = init_takes; fuel = λ k. init_fuel_at k.table k.place; room = λ k. init_room_at k.place; clean = λ k. false; assertion = λ k. init_spot_at d k.table k.place }

-- ---- the steps

more_first : (i v : ℕ) → replicate i v ++ v ∷ [] ≡ replicate (suc i) v
more_first zero v = refl
more_first (suc i) v = ap (λ xs. v ∷ xs) (more_first i v)

module _ (d : SpiTable) (fits : FitsSpi d) (w : World) (s : SpiState) where
  here : IsInit d d [] (Called calls.Init) fresh_history
  here = (Is_this_frame, refl, refl)

  abbrev StandsAt : Chip → InitPlace → Type 0
  StandsAt chip p = AssertedAt (spi_basis d) (init_bodies d) [] chip w s (record { table = d; place = p }) (Called calls.Init) fresh_history

  pub placed_internal : (c : ℕ) → c < 16 → (placed_of d c).channel.internal ≡ is_internal (channel_of d c)
  placed_internal c lt =
      let at : c % 16 ≡ c = omega (arith, lt) in
      ap (λ n. (or_else NO_CHANNEL (slice_index_or d.channels n None)).internal) at ∙ (
      elim (channel_of d c) as (λ o. (or_else NO_CHANNEL o).internal ≡ is_internal o)
      [ None ↦ refl | Some k ↦ refl ])

  -- after a channel
  next_channel : (chip : Chip) (c : ℕ) → c < 16 → SpiRepresents d (prep (set_ups_below d (suc c)) (readied_below d (suc c)) None) chip w s → StandsAt chip (after_channel c)
  next_channel chip c lt h = whether_as (nat_lt c 15) (λ q. StandsAt chip (if q then init.SetUp (c + 1) else init.Closes))
      (λ e. let less = is_below c 15 e in let next : suc c ≡ c + 1 = omega arith in (subst (λ n. SpiRepresents d (prep (set_ups_below d n) (readied_below d n) None) chip w s) next h, (here, omega (arith, less))))
      (λ e. let le = is_past c 15 e in let all : suc c ≡ 16 = omega (arith, le, lt) in (subst (λ n. SpiRepresents d (prep (set_ups_below d n) (readied_below d n) None) chip w s) all h, here))

  -- after its set-up
  set_up_done : (chip : Chip) (c : ℕ) → c < 16 → SpiRepresents d (prep (set_ups_below d (suc c)) (readied_below d c) None) chip w s → StandsAt chip (after_set_up d c)
  set_up_done chip c lt h =
      subst (λ q. StandsAt chip (if q then init.Choose c Sent else after_channel c)) (sym (placed_internal c lt))
      (whether_as (is_internal (channel_of d c)) (λ q. StandsAt chip (if q then init.Choose c Sent else after_channel c))
      (λ e. (h, (here, some_or_none (channel_of d c) (λ k f. (k, f, sym (ap is_internal f) ∙ e)) (λ f. absurd (let g = sym (ap is_internal f) ∙ e in cc)))))
      (λ e. next_channel chip c lt (subst (λ q. SpiRepresents d (prep (set_ups_below d (suc c)) (if q then (c, true) ∷ (c, false) ∷ readied_below d c else readied_below d c) None) chip w s) (sym e) h)))

  module _ (c : ℕ) (k : Channel) (known : channel_of d c ≡ Some k) (internal : k.internal ≡ true) where
    pub width : (placed_of d c).channel.length ≡ k.length
    width = ap (λ x. x.length) (has_channel d fits c k known)

    -- at a place of a bank, or after the last one
    filled_from : (chip : Chip) (side : Side) (b i : ℕ) → i ≤ (placed_of d c).channel.length → SpiRepresents d (prep (set_ups_below d (suc c)) (readied_at d c side) (filled_to d c side b i)) chip w s → StandsAt chip (fill_from d c side b i)
    filled_from chip side b i le h = whether_as (nat_lt i (placed_of d c).channel.length) (λ q. StandsAt chip (if q then init.Fill c side b i else init.Shut c side b))
        (λ e. (h, (here, (k, known, internal), is_below i (placed_of d c).channel.length e)))
        (λ e. let past = is_past i (placed_of d c).channel.length e in let all : i ≡ (placed_of d c).channel.length = omega (arith, le, past) in (subst (λ n. SpiRepresents d (prep (set_ups_below d (suc c)) (readied_at d c side) (filled_to d c side b n)) chip w s) all h, (here, (k, known, internal))))

    -- a place is filled in
    fills_one : (chip : Chip) (side : Side) (b i : ℕ) → i < (placed_of d c).channel.length → SpiRepresents d (prep (set_ups_below d (suc c)) (readied_at d c side) (filled_to d c side b i)) chip w s
        → SpiRepresents d (prep (set_ups_below d (suc c)) (readied_at d c side) (filled_to d c side b (i + 1))) (chip_after chip (Store (bank_word (placed_of d c) side b i) (first_in (placed_of d c) side)) 0) w s
    fills_one chip side b i lt h =
        let v = first_in (placed_of d c) side in
        let st = set_ups_below d (suc c) in
        let rd = readied_at d c side in
        let xs = replicate i v in
        let count : length xs ≡ i = length-replicate i v in
        let more : xs ++ v ∷ [] ≡ replicate (i + 1) v = more_first i v ∙ (let e : suc i ≡ i + 1 = omega arith in ap (λ n. replicate n v) e) in
        let next = filled_on d fits c k known internal side st rd chip w s b xs (prepared_by d st rd (filled_to d c side b i) chip w s h) v (omega (arith, count, lt, width)) (λ j n there. cleared_apart d fits j ((set_ups_cleared d (suc c)) j n there).0 c k known internal side) in
        subst (λ ys. SpiRepresents d (prep st rd (Some (c, is_in side, record { bank = b; filled = ys }))) (chip_after chip (Store (bank_word (placed_of d c) side b i) v) 0) w s) more
        (subst (λ n. SpiRepresents d (prep st rd (Some (c, is_in side, record { bank = b; filled = xs ++ v ∷ [] }))) (chip_after chip (Store (trio.word_at (trio_of (placed_of d c) side) b n) v) 0) w s) count
        (prepared_agrees d st rd (Some (c, is_in side, record { bank = b; filled = xs ++ v ∷ [] })) _ w s next))

    -- the bank is the newest
    commits_all : (chip : Chip) (side : Side) (b : ℕ) → SpiRepresents d (prep (set_ups_below d (suc c)) (readied_at d c side) (filled_to d c side b (placed_of d c).channel.length)) chip w s
        → SpiRepresents d (prep (set_ups_below d (suc c)) ((c, is_in side) ∷ readied_at d c side) None) (chip_after chip (Store (control_word (placed_of d c) side) (b % 4 + 4 * (word_of chip (control_word (placed_of d c) side) / 4))) 0) w s
    commits_all chip side b h =
        let n = (placed_of d c).channel.length in
        let v = first_in (placed_of d c) side in
        let st = set_ups_below d (suc c) in
        let rd = readied_at d c side in
        prepared_agrees d st ((c, is_in side) ∷ rd) None _ w s
        (committed d fits c k known internal side st rd chip w s b (replicate n v) (prepared_by d st rd (filled_to d c side b n) chip w s h) (ap (λ m. replicate m v) width ∙ ap (λ x. replicate k.length x) (first_same side)) (length-replicate n v ∙ width) (λ j m there. cleared_apart d fits j ((set_ups_cleared d (suc c)) j m there).0 c k known internal side))
      where
        first_same : (side : Side) → first_in (placed_of d c) side ≡ first_of k side
        first_same Sent = ap (λ x. x.default_data) (has_channel d fits c k known)
        first_same Received = refl

    pub small_bank : (chip : Chip) (side : Side) (b i : ℕ) → SpiRepresents d (prep (set_ups_below d (suc c)) (readied_at d c side) (filled_to d c side b i)) chip w s → b < 3
    small_bank chip side b i h = small d fits c k known internal side (set_ups_below d (suc c)) (readied_at d c side) chip w s b (replicate i (first_in (placed_of d c) side)) (prepared_by d _ _ (filled_to d c side b i) chip w s h)

    -- after a side
    side_done : (chip : Chip) (side : Side) → SpiRepresents d (prep (set_ups_below d (suc c)) ((c, is_in side) ∷ readied_at d c side) None) chip w s → StandsAt chip (after_side c side)
    side_done chip Sent h = (h, (here, (k, known, internal)))
    side_done chip Received h = next_channel chip c (of_sixteen d c k fits known) (subst (λ q. SpiRepresents d (prep (set_ups_below d (suc c)) (if q then (c, true) ∷ (c, false) ∷ readied_below d c else readied_below d c) None) chip w s) (sym (ap is_internal known ∙ internal)) h)

  -- a word of the module's first ones is cleared
  clears_first : (st : List (ℕ × ℕ)) (chip : Chip) (j : ℕ) → STATE < j → j < STATE + 64 → AllCleared d st → SpiRepresents d (prep st [] None) chip w s → SpiRepresents d (prep ((j, 0) ∷ st) [] None) (chip_after chip (Store j 0) 0) w s
  clears_first st chip j low high all h = clears d fits st [] chip w s j (inl (low, high)) all h

  module _ (chip : Chip) (y : ℕ) (m : ℕ → Bool) where
    abbrev RightAt : InitPlace → Type 0
    RightAt p = Right (spi_basis d) (init_bodies d) [] chip w s (record { table = d; place = p }) (Called calls.Init) y fresh_history m

    abbrev MakesFor : ℕ → Option Channel → Type 0
    MakesFor c k = MakesTo (spi_basis d) (init_bodies d) [] chip (chip_after chip (set_up_move d c k) y) w s (Called calls.Init) (set_up_move d c k) false (value_of chip (set_up_move d c k)) y fresh_history (missed_after (spi_machine d) w s m) (record { table = d; place = after_set_up d c }, goes)

    set_up_step : (c : ℕ) → c < 16 → SpiRepresents d (prep (set_ups_below d c) (readied_below d c) None) chip w s → RightAt (init.SetUp c)
    set_up_step c lt h = option_as (channel_of d c) (MakesFor c)
        (λ e. later chip None e h)
        (λ k e. later (chip_after chip (Store (set_up_word (placed_of d c)) 0) y) (Some k) e (clears d fits (set_ups_below d c) (readied_below d c) chip w s (set_up_word (placed_of d c)) (inr (c, k, e, refl)) (set_ups_cleared d c) h))
      where
        later : (chip1 : Chip) (k : Option Channel) → channel_of d c ≡ k → SpiRepresents d (prep (with_set_up (set_up_word (placed_of d c)) k (set_ups_below d c)) (readied_below d c) None) chip1 w s → StandsAt chip1 (after_set_up d c)
        later chip1 k e a = set_up_done chip1 c lt (subst (λ o. SpiRepresents d (prep (with_set_up (set_up_word (placed_of d c)) o (set_ups_below d c)) (readied_below d c) None) chip1 w s) (sym e) a)

    pub steps_at : (p : InitPlace) → StandsAt chip p → RightAt p
    steps_at init.Opens (h, (i, off)) = (prepared_agrees d [] [] None (chip_after chip Unmask y) w s (prepared_first d (chip_after chip Unmask y) w s off (apart_agrees d fits [] chip w s Unmask y refl h)), (here, omega arith))
    steps_at (init.Free u) (h, (i, lt)) = (clears_first (units_below u) chip (running_word u) (omega arith) (omega (arith, lt)) (units_cleared d u (omega (arith, lt))) h, (here, lt))
    steps_at (init.Empty zero) (h, (i, lt)) = (clears_first ((running_word 0, 0) ∷ units_below 0) chip (order_word 0 + 2) (omega arith) (omega arith) (more_cleared d (running_word 0) (units_below 0) (inl (omega arith, omega arith)) (units_cleared d 0 (omega arith))) h, (here, omega arith))
    steps_at (init.Empty (suc zero)) (h, (i, lt)) = (clears_first ((running_word 1, 0) ∷ units_below 1) chip (order_word 1 + 2) (omega arith) (omega arith) (more_cleared d (running_word 1) (units_below 1) (inl (omega arith, omega arith)) (units_cleared d 1 (omega arith))) h, (here, omega arith))
    steps_at (init.Empty (suc (suc u))) (h, (i, lt)) = absurd (omega (arith, lt))
    steps_at (init.Job j) (h, (i, lt)) =
        let next = clears_first (jobs_below j) chip (job_word j) (omega arith) (omega (arith, lt)) (jobs_cleared d j (omega (arith, lt))) h in
        whether_as (nat_lt j 15) (λ q. StandsAt (chip_after chip (Store (job_word j) 0) y) (if q then init.Job (j + 1) else init.Sequence 0))
        (λ e. let less = is_below j 15 e in let more : suc j ≡ j + 1 = omega arith in (subst (λ n. SpiRepresents d (prep (jobs_below n) [] None) (chip_after chip (Store (job_word j) 0) 0) w s) more next, (here, omega (arith, less))))
        (λ e. let le = is_past j 15 e in let all : suc j ≡ 16 = omega (arith, le, lt) in (subst (λ n. SpiRepresents d (prep (jobs_below n) [] None) (chip_after chip (Store (job_word j) 0) 0) w s) all next, (here, omega arith)))
    steps_at (init.Sequence q) (h, (i, lt)) =
        let next = clears_first (sequences_below q) chip (sequence_word q) (omega arith) (omega (arith, lt)) (sequences_cleared d q (omega (arith, lt))) h in
        whether_as (nat_lt q 7) (λ b. StandsAt (chip_after chip (Store (sequence_word q) 0) y) (if b then init.Sequence (q + 1) else init.SetUp 0))
        (λ e. let less = is_below q 7 e in let more : suc q ≡ q + 1 = omega arith in (subst (λ n. SpiRepresents d (prep (sequences_below n) [] None) (chip_after chip (Store (sequence_word q) 0) 0) w s) more next, (here, omega (arith, less))))
        (λ e. let le = is_past q 7 e in let all : suc q ≡ 8 = omega (arith, le, lt) in (subst (λ n. SpiRepresents d (prep (sequences_below n) [] None) (chip_after chip (Store (sequence_word q) 0) 0) w s) all next, (here, omega arith)))
    steps_at (init.SetUp c) (h, (i, lt)) = set_up_step c lt h
    steps_at (init.Choose c side) (h, (i, (k, known, internal))) =
        let v : ℕ = word_of chip (control_word (placed_of d c) side) in
        let st : List (ℕ × ℕ) = set_ups_below d (suc c) in
        let rd : List (ℕ × Bool) = readied_at d c side in
        filled_from c k known internal chip side (free_bank v) 0 (omega arith) (prepared_agrees d st rd (filled_to d c side (free_bank v) 0) chip w s (chosen d fits c k known internal side st rd chip w s (prepared_by d st rd None chip w s h) (free_bank v) (free_few v)))
    steps_at (init.Fill c side b i) (h, (is, (k, known, internal), lt)) = subst (λ q. StandsAt (chip_after chip (Store (bank_word (placed_of d c) side b i) (first_in (placed_of d c) side)) y) (if q then fill_from d c side b (i + 1) else init.Shut c side b)) (sym (lt_from i 255 (let w1 = width c k known internal in let n = (fits.channels c k known).few in omega (arith, lt, w1, n))))
        (filled_from c k known internal (chip_after chip (Store (bank_word (placed_of d c) side b i) (first_in (placed_of d c) side)) y) side b (i + 1) (omega (arith, lt)) (fills_one c k known internal chip side b i lt h))
    steps_at (init.Shut c side b) (h, (i, internal)) = (apart_agrees d fits _ chip w s Mask y refl h, (here, internal, refl))
    steps_at (init.Commit c side (puts.Commit j b)) (h, (i, (k, known, internal), at)) =
        let few : b < 3 = small_bank c k known internal chip side b (placed_of d c).channel.length h in
        let same : b ≡ (b % 4 + 4 * (word_of chip j / 4)) % 4 = omega (arith, few) in
        let told : b % 4 + 4 * (word_of chip j / 4) ≡ (b % 4 + 4 * (word_of chip j / 4)) % 4 + 4 * (word_of chip j / 4) = omega arith in
        (subst (λ n. SpiRepresents d (prep (set_ups_below d (suc c)) (readied_at d c side) (filled_to d c side n (placed_of d c).channel.length)) chip w s) same h, (here, (k, known, internal), (at, told)))
    steps_at (init.Commit c side (puts.Tell j v)) (h, (i, (k, known, internal), (at, is))) =
        let twice : v % 4 % 4 ≡ v % 4 = omega arith in
        let same : v % 4 % 4 + 4 * (word_of chip (control_word (placed_of d c) side) / 4) ≡ v = ap (λ n. v % 4 % 4 + 4 * (word_of chip n / 4)) (sym at) ∙ ap (λ z. z + 4 * (word_of chip j / 4)) twice ∙ sym is in
        let readied : Reservations = prep (set_ups_below d (suc c)) ((c, is_in side) ∷ readied_at d c side) None in
        (subst (λ n. SpiRepresents d readied (chip_after chip (Store n v) 0) w s) (sym at) (subst (λ n. SpiRepresents d readied (chip_after chip (Store (control_word (placed_of d c) side) n) 0) w s) same (commits_all c k known internal chip side (v % 4) h)), (here, (k, known, internal)))
    steps_at (init.Reopen c side) (h, (i, (k, known, internal))) = side_done c k known internal (chip_after chip Unmask y) side (apart_agrees d fits _ chip w s Unmask y refl h)
    steps_at init.Closes (h, i) = (apart_agrees d fits _ chip w s Mask y refl h, here)
    steps_at init.Store (h, i) = record {
      may = refl;
      stands = tt;
      state = initial d s;
      told = tells_nothing;
      begins = None;
      is = ap (λ off. Some (acts_by d s calls.Init (error_by d calls.Init off false))) h.right.0.1;
      sends = tt;
      acts = tt;
      reset = refl;
      next = (renewed d fits (set_ups_below d 16) (readied_below d 16) chip w s (prepared_by d (set_ups_below d 16) (readied_below d 16) None chip w s h) (all_cleared d fits) (all_readied d fits), record { may = (refl, refl); served = false; owed = refl; shown = λ e. absurd (cc); report = refl });
    }
    steps_at (init.Commit c side _) h = absurd h.1.2

-- ---- the steps are within the bound of the call

abbrev cost_of : Channel → ℕ
cost_of x = if x.internal then 12 + 2 * x.length else 0

abbrev cost_by : Option Channel → ℕ
cost_by None = 0
cost_by (Some x) = cost_of x

cost_is : (d : SpiTable) (c : ℕ) → c < 16 → channel_cost d c ≡ cost_by (channel_of d c)
cost_is d c lt = let at : c % 16 ≡ c = omega (arith, lt) in ap (λ n. cost_of (or_else NO_CHANNEL (slice_index_or d.channels n None))) at ∙ (
    elim (channel_of d c) as (λ o. cost_of (or_else NO_CHANNEL o) ≡ cost_by o)
    [ None ↦ refl | Some x ↦ refl ])

drop_next : {A : Type 0} (f : A) (xs : List A) (i : ℕ) → i < length xs → drop i xs ≡ slice_index_or xs i f ∷ drop (suc i) xs
drop_next f [] i lt = absurd (omega (arith, lt))
drop_next f (x ∷ xs) zero lt = refl
drop_next f (x ∷ xs) (suc i) lt = drop_next f xs i (omega (arith, lt))

module _ (d : SpiTable) (fits : FitsSpi d) where
  costs_are : (n : ℕ) → n ≤ 16 → costs d n ≡ n + sum_by cost_by (drop (16 - n) d.channels)
  costs_are zero le = let rows = fits.rows.0 in let none : drop 16 d.channels ≡ [] = drop_all 16 d.channels (omega (arith, rows)) in let empty : sum_by cost_by (drop 16 d.channels) ≡ 0 = ap (sum_by cost_by) none in omega (arith, empty)
  costs_are (suc n) le =
      let rows = fits.rows.0 in
      let before : 15 - n ≡ 16 - suc n = omega (arith, le) in
      let next : suc (15 - n) ≡ 16 - n = omega (arith, le) in
      let cost = cost_is d (15 - n) (omega arith) in
      let rest = costs_are n (omega (arith, le)) in
      let split : drop (15 - n) d.channels ≡ channel_of d (15 - n) ∷ drop (16 - n) d.channels = drop_next None d.channels (15 - n) (omega (arith, rows)) ∙ ap (λ i. channel_of d (15 - n) ∷ drop i d.channels) next in
      let sum : sum_by cost_by (drop (16 - suc n) d.channels) ≡ cost_by (channel_of d (15 - n)) + sum_by cost_by (drop (16 - n) d.channels) = ap (λ i. sum_by cost_by (drop i d.channels)) (sym before) ∙ ap (sum_by cost_by) split ∙ sum_by-cons cost_by (channel_of d (15 - n)) (drop (16 - n) d.channels) in
      omega (arith, cost, rest, sum)

within : (xs : List (Option Channel)) → sum_by cost_by xs ≤ 48 * count_by is_some xs + 8 * sum_by internal_by xs
within [] = omega arith
within (None ∷ xs) = let rest = within xs in omega (arith, rest)
within (Some x ∷ xs) =
    let rest = within xs in
    let costs : sum_by cost_by (Some x ∷ xs) ≡ cost_of x + sum_by cost_by xs = sum_by-cons cost_by (Some x) xs in
    let number : count_by is_some (Some x ∷ xs) ≡ 1 + count_by is_some xs = sum_by-cons (λ (y : Option Channel). cond (is_some y) 1 0) (Some x) xs in
    let words : sum_by internal_by (Some x ∷ xs) ≡ internal_by (Some x) + sum_by internal_by xs = sum_by-cons internal_by (Some x) xs in
    let one : cost_of x ≤ 48 + 8 * internal_by (Some x) =
    elim x.internal as (λ b. (if b then 12 + 2 * x.length else 0) ≤ 48 + 8 * (if b then x.length else 0))
    [ true ↦ omega arith | false ↦ omega arith ] in
    omega (arith, one, costs, number, words, rest)

-- the steps of its body
pub init_within : (d : SpiTable) → FitsSpi d → init_fuel_at d init.Opens ≤ whole_steps d - 7
init_within d fits =
    let all = costs_are d fits 16 (omega arith) in
    let most = within d.channels in
    omega (arith, all, most)

-- ---- the body

module _ (d : SpiTable) where
  known_frame : (below : Reservations) (chip : Chip) (w : World) (s : SpiState) (x : SpiTable) (p : InitPlace) (o : Origin Call) (t : FrameHistory) → place_at (init_spot_at d x p) below ((spi_basis d).foot chip) w s o t → IsInit d x below o t
  known_frame below chip w s x init.Closes o t h = h
  known_frame below chip w s x init.Store o t h = h
  known_frame below chip w s x _ o t h = h.0

  -- so it is alone, and has the driver's own table
  alone : (P : Reservations → SpiTable → Origin Call → FrameHistory → Type 0) → P [] d (Called calls.Init) fresh_history → (below : Reservations) (x : SpiTable) (o : Origin Call) (t : FrameHistory) → IsInit d x below o t → P below x o t
  alone P p [] x _ _ (Is_this_frame, e, is) = subst (λ z. P [] z (Called calls.Init) fresh_history) (sym is) p
  alone P p (b ∷ bs) x o t (being, e, is) = absurd (cc)

  module _ (fits : FitsSpi d) where
    init_steps : (below : Reservations) (chip : Chip) (w : World) (s : SpiState) (k : InitBody) (o : Origin Call) (y : ℕ) (t : FrameHistory) (m : ℕ → Bool) → AssertedAt (spi_basis d) (init_bodies d) below chip w s k o t → Right (spi_basis d) (init_bodies d) below chip w s k o y t m
    init_steps below chip w s k o y t m h =
        alone (λ below x o t. AssertedAt (spi_basis d) (init_bodies d) below chip w s (record { table = x; place = k.place }) o t → Right (spi_basis d) (init_bodies d) below chip w s (record { table = x; place = k.place }) o y t m)
        (steps_at d fits w s chip y m k.place) below k.table o t (known_frame below chip w s k.table k.place o t h.1) h

  -- ---- masks and windows

  after_channel_open : (x : SpiTable) (c : ℕ) → is_closed (init_spot_at d x (after_channel c)) ≡ false
  after_channel_open x c =
      elim (nat_lt c 15) as (λ q. is_closed (init_spot_at d x (if q then init.SetUp (c + 1) else init.Closes)) ≡ false)
      [ true ↦ refl | false ↦ refl ]

  set_up_open : (x : SpiTable) (c : ℕ) → is_closed (init_spot_at d x (after_set_up x c)) ≡ false
  set_up_open x c = whether_as (placed_of x c).channel.internal (λ q. is_closed (init_spot_at d x (if q then init.Choose c Sent else after_channel c)) ≡ false)
      (λ _. refl)
      (λ _. after_channel_open x c)

  fill_open : (x : SpiTable) (c : ℕ) (side : Side) (b i : ℕ) → is_closed (init_spot_at d x (fill_from x c side b i)) ≡ false
  fill_open x c side b i = whether_as (nat_lt i (placed_of x c).channel.length) (λ q. is_closed (init_spot_at d x (if q then init.Fill c side b i else init.Shut c side b)) ≡ false)
      (λ _. refl)
      (λ _. refl)

  turns_at : (x : SpiTable) (p : InitPlace) (v : ℕ) → TurnsTo (init_bodies d) 32 (record { table = x; place = p }) (init_takes (record { table = x; place = p }) v)
  turns_at x init.Opens v = (refl, refl, refl, refl)
  turns_at x (init.Free u) v = refl
  turns_at x (init.Empty zero) v = refl
  turns_at x (init.Empty (suc u)) v = refl
  turns_at x (init.Job j) v =
      elim (nat_lt j 15) as (λ q. is_closed (init_spot_at d x (if q then init.Job (j + 1) else init.Sequence 0)) ≡ false)
      [ true ↦ refl | false ↦ refl ]
  turns_at x (init.Sequence n) v =
      elim (nat_lt n 7) as (λ q. is_closed (init_spot_at d x (if q then init.Sequence (n + 1) else init.SetUp 0)) ≡ false)
      [ true ↦ refl | false ↦ refl ]
  turns_at x (init.SetUp c) v =
      elim (channel_of x c) as (λ k. TurnsMask 32 false (is_closed (init_spot_at d x (after_set_up x c))) 0 (init_room_at (after_set_up x c)) (set_up_move x c k) None None)
      [ None ↦ set_up_open x c | Some k ↦ set_up_open x c ]
  turns_at x (init.Choose c side) v = fill_open x c side (free_bank v) 0
  turns_at x (init.Fill c side b i) v =
      elim (nat_lt i 255) as (λ q. is_closed (init_spot_at d x (if q then fill_from x c side b (i + 1) else init.Shut c side b)) ≡ false)
      [ true ↦ fill_open x c side b (i + 1) | false ↦ refl ]
  turns_at x (init.Shut c side b) v = (refl, refl, omega arith, refl, refl)
  turns_at x (init.Commit c side (puts.Commit j n)) v = (refl, omega arith)
  turns_at x (init.Reopen c Sent) v = (refl, refl, refl, refl)
  turns_at x (init.Reopen c Received) v = (refl, after_channel_open x c, refl, refl)
  turns_at x init.Closes v = (refl, refl, omega arith, refl, refl)
  turns_at x init.Store v = omega arith
  turns_at x _ v = (refl, omega arith)

  -- ---- the steps that are left

  cost_step : (x : SpiTable) (c : ℕ) → c < 15 → costs x (15 - c) ≡ 1 + channel_cost x (c + 1) + costs x (15 - (c + 1))
  cost_step x c lt =
      let next : 15 - c ≡ suc (15 - (c + 1)) = omega (arith, lt) in
      let back : 15 - (15 - (c + 1)) ≡ c + 1 = omega (arith, lt) in
      ap (costs x) next ∙ ap (λ n. 1 + channel_cost x n + costs x (15 - (c + 1))) back

  after_channel_less : (x : SpiTable) (c : ℕ) → init_fuel_at x (after_channel c) ≤ rest_after x c
  after_channel_less x c = whether_as (nat_lt c 15) (λ q. init_fuel_at x (if q then init.SetUp (c + 1) else init.Closes) ≤ rest_after x c)
      (λ e. let step = cost_step x c (is_below c 15 e) in omega (arith, step))
      (λ e. omega arith)

  fill_less : (x : SpiTable) (c : ℕ) (side : Side) (b i n : ℕ) → 4 + rest_of x c side < n → (i < (placed_of x c).channel.length → 5 + ((placed_of x c).channel.length - i) + rest_of x c side < n) → init_fuel_at x (fill_from x c side b i) < n
  fill_less x c side b i n shut fill = whether_as (nat_lt i (placed_of x c).channel.length) (λ q. init_fuel_at x (if q then init.Fill c side b i else init.Shut c side b) < n)
      (λ e. fill (is_below i (placed_of x c).channel.length e))
      (λ e. shut)

  shortens_at : (x : SpiTable) (p : InitPlace) (v : ℕ) → Shortens (init_bodies d).fuel (record { table = x; place = p }) (init_takes (record { table = x; place = p }) v)
  shortens_at x (init.Empty zero) v = omega arith
  shortens_at x (init.Job j) v = whether_as (nat_lt j 15) (λ q. init_fuel_at x (if q then init.Job (j + 1) else init.Sequence 0) < 11 + (16 - j) + rest_after x 0 + channel_cost x 0)
      (λ e. let lt = is_below j 15 e in omega (arith, lt))
      (λ e. omega arith)
  shortens_at x (init.Sequence n) v = whether_as (nat_lt n 7) (λ q. init_fuel_at x (if q then init.Sequence (n + 1) else init.SetUp 0) < 2 + (8 - n) + rest_after x 0 + channel_cost x 0)
      (λ e. let lt = is_below n 7 e in omega (arith, lt))
      (λ e. omega arith)
  shortens_at x (init.SetUp c) v =
      let le = after_channel_less x c in
      elim (placed_of x c).channel.internal as (λ q. init_fuel_at x (if q then init.Choose c Sent else after_channel c) < 1 + (if q then 12 + 2 * (placed_of x c).channel.length else 0) + rest_after x c)
      [ true ↦ omega arith | false ↦ omega (arith, le) ]
  shortens_at x (init.Choose c side) v = fill_less x c side (free_bank v) 0 (6 + (placed_of x c).channel.length + rest_of x c side) (omega arith) (λ lt. omega arith)
  shortens_at x (init.Fill c side b i) v =
      elim (nat_lt i 255) as (λ q. init_fuel_at x (if q then fill_from x c side b (i + 1) else init.Shut c side b) < 5 + ((placed_of x c).channel.length - i) + rest_of x c side)
      [ true ↦ fill_less x c side b (i + 1) (5 + ((placed_of x c).channel.length - i) + rest_of x c side) (omega arith) (λ lt. omega (arith, lt)) | false ↦ omega arith ]
  shortens_at x (init.Commit c side p) v = whether_as (has_ended (put_gave p v)) (λ q. init_fuel_at x (init_commits c side p v q) < 2 + put_more p + rest_of x c side)
      (λ e. omega arith)
      (λ e. let lt = put_less p v e in omega (arith, lt))
  shortens_at x (init.Reopen c Received) v = let le = after_channel_less x c in omega (arith, le)
  shortens_at x _ v = omega arith

  -- a step without an event resets nothing
  calm_at : (x : SpiTable) (p : InitPlace) → (resets_chip (init_move x p) ≡ false) × (begins_word (init_move x p) ≡ false)
  calm_at x (init.SetUp c) =
      elim (channel_of x c) as (λ k. (resets_chip (set_up_move x c k) ≡ false) × (begins_word (set_up_move x c k) ≡ false))
      [ None ↦ (refl, refl) | Some k ↦ (refl, refl) ]
  calm_at x (init.Commit c side (puts.Commit j n)) = (refl, refl)
  calm_at x _ = (refl, refl)

  -- ---- the moves, and what comes to pass meanwhile

  module _ (fits : FitsSpi d) where
    own_control_of : (c : ℕ) (k : Channel) → channel_of d c ≡ Some k → k.internal ≡ true → (side : Side) → is_own_word d (control_word (placed_of d c) side) ≡ true
    own_control_of c k e internal side = own_banks d fits c k e internal side _ (own-control (trio_of (placed_of d c) side))

    own_at : (chip : Chip) (w : World) (s : SpiState) (p : InitPlace) → AssertedAt (spi_basis d) (init_bodies d) [] chip w s (record { table = d; place = p }) (Called calls.Init) fresh_history → is_shared (init_move d p) || may d (init_move d p) ≡ true
    own_at chip w s (init.Free u) (h, (i, lt)) = may_store d fits (running_word u) 0 (own_first d (running_word u) (omega arith) (omega (arith, lt)))
    own_at chip w s (init.Empty u) (h, (i, lt)) = may_store d fits (order_word u + 2) 0 (own_first d (order_word u + 2) (omega arith) (omega (arith, lt)))
    own_at chip w s (init.Job j) (h, (i, lt)) = may_store d fits (job_word j) 0 (own_first d (job_word j) (omega arith) (omega (arith, lt)))
    own_at chip w s (init.Sequence n) (h, (i, lt)) = may_store d fits (sequence_word n) 0 (own_first d (sequence_word n) (omega arith) (omega (arith, lt)))
    own_at chip w s (init.SetUp c) h = option_as (channel_of d c) (λ k. is_shared (set_up_move d c k) || may d (set_up_move d c k) ≡ true)
        (λ e. may_store d fits STATE 0 (own_first d STATE (omega arith) (omega arith)))
        (λ k e. may_store d fits (set_up_word (placed_of d c)) 0 (own_set_up d fits c k e))
    own_at chip w s (init.Choose c side) (h, (i, (k, known, internal))) = may_store d fits _ 0 (own_control_of c k known internal side)
    own_at chip w s (init.Fill c side b i) (h, (is, (k, known, internal), lt)) =
        may_store d fits (bank_word (placed_of d c) side b i) (first_in (placed_of d c) side) (own_banks d fits c k known internal side _ (own-word (trio_of (placed_of d c) side) b i (small_bank d fits w s c k known internal chip side b i h) lt))
    own_at chip w s (init.Commit c side (puts.Commit j n)) (h, (i, (k, known, internal), at)) = may_store d fits j 0 (ap (is_own_word d) at ∙ own_control_of c k known internal side)
    own_at chip w s (init.Commit c side (puts.Tell j v)) (h, (i, (k, known, internal), (at, is))) = may_store d fits j v (ap (is_own_word d) at ∙ own_control_of c k known internal side)
    own_at chip w s (init.Commit c side _) h = absurd h.1.2
    own_at chip w s init.Store h = may_store d fits STATE 1 (own_first d STATE (omega arith) (omega arith))
    own_at chip w s _ h = refl

    init_own : (below : Reservations) (chip : Chip) (w : World) (s : SpiState) (k : InitBody) (o : Origin Call) (t : FrameHistory) → AssertedAt (spi_basis d) (init_bodies d) below chip w s k o t → is_shared (init_work k) || may d (init_work k) ≡ true
    init_own below chip w s k o t h =
        alone (λ below x o t. AssertedAt (spi_basis d) (init_bodies d) below chip w s (record { table = x; place = k.place }) o t → is_shared (init_move x k.place) || may d (init_move x k.place) ≡ true)
        (own_at chip w s k.place) below k.table o t (known_frame below chip w s k.table k.place o t h.1) h

    later_at : (below : Reservations) (chip : Chip) (w : World) (s : SpiState) (order : Order) (x : SpiTable) (p : InitPlace) (o : Origin Call) (t : FrameHistory) → AssertedAt (spi_basis d) (init_bodies d) below chip w s (record { table = x; place = p }) o t → place_at (init_spot_at d x p) below ((spi_basis d).foot (happened chip order)) (world_after w chip.clock.rate order) (moved d w s order) o t
    later_at below chip w s order x init.Opens o t (h, (i, off)) = (i, ap is_off (mode_later d w s order) ∙ off)
    later_at below chip w s order x (init.Commit c side (puts.Tell j v)) o t (h, (i, (k, known, internal), (at, is))) =
        (i, (k, known, internal), (at, is ∙ ap (λ n. v % 4 + 4 * (n / 4)) (sym (word_later chip order j h.outside.all.words (own_low d fits j (ap (is_own_word d) at ∙ own_control_of c k known internal side))))))
    later_at below chip w s order x (init.Commit c side (puts.Choose j)) o t (h, (i, internal, at)) = absurd at
    later_at below chip w s order x (init.Commit c side (puts.Fill j v)) o t (h, (i, internal, at)) = absurd at
    later_at below chip w s order x _ o t (h, at) = at

    pub init_right : AreLong (spi_basis d) (init_bodies d)
    init_right = record {
      own = λ below chip w s k o t h. frame_may d o (init_work k) (init_own below chip w s k o t h);
      turns = λ below chip w s k o t h. subst (λ n. TurnsTo (init_bodies d) n k (init_takes k (value_of chip (init_work k)))) refl (turns_at k.table k.place (value_of chip (init_work k)));
      steps = λ below chip w s k o y t m come few h. init_steps fits below chip w s k o y t m h;
      later = λ below chip w s order k o t come shut h. later_at below chip w s order k.table k.place o t h;
      calm = λ below chip w s k o t h e. calm_at k.table k.place;
      shortens = λ k x. shortens_at k.table k.place x;
      cleans = λ k x. never_clean (init_work k) k (init_takes k x);
    }
