-- What frames hold, and how words and registers stand for the machine's state.
use Rattle.std.specs.Prelude.{◌≡◌, ◌≢◌, ℕ, ◌+◌, ◌*◌, ◌/◌, ◌%◌, ◌^◌, ◌<◌, ◌≤◌, ◌==◌, nat_lt, nat_le, if◌then◌else◌, Bool, true, false, ◌&&◌, ◌||◌, not, min, List, [], ◌∷◌, Option, Some, None, is_some, length, map, take, slice_get, slice_index}
use Rattle.std.specs.List.{list_any, AllByRecursion}
use Rattle.std.specs.Option.{option_map}
use Rattle.chip_blocks.specs.converter.Converters as chips
use Rattle.chip_blocks.specs.converter.Converters.{Converters}
use Rattle.chip_blocks.specs.converter.Rounds as rounds
use Rattle.chip_blocks.specs.declared.converter.converter.Converter.{Converter}
use Rattle.chip_model.specs.Chip.{Chip, word_of}
use Rattle.mcal_base.specs.Bits.{has_bit, bit_of}
use Rattle.mcal_base.specs.declared.answer_name.AnswerName.TheVariants.{EOk}
use Rattle.mcal_base.specs.declared.moves.Move.{Move}
use Rattle.mcal_base.specs.declared.moves.Move.TheVariants as moves
use Rattle.mcal_base.specs.declared.register.Reg.{Reg}
use Rattle.mcal_base.specs.declared.register.Reg.TheVariants.{EnableSet, EnableClear}
use Rattle.run_model.specs.Frame.{Origin, Called, Entered}
use Rattle.run_model.specs.Outside.{StandsIn}
use Rattle.run_model.specs.World.{World, Sample, sample_at}
use Rattle.run_model.specs.Machine.{named_with}
use Rattle.service_outline.specs.Services.{ReservedBy, SharedRefinement}
use Rattle.word_shapes.specs.Banks.{Banks, Putting, Taking}
use Rattle.word_shapes.specs.Order.{Entry, is_there}
use Rattle.word_shapes.specs.PriorityQueue.{Holds as HoldsOrder, own_of}
use Rattle.word_shapes.specs.TripleBuffer.{Stands, IsBank}
use Rattle.word_shapes.specs.streams.Rounds.{trio_of, bank_number, bank_word, kept_word}
use Rattle.word_shapes.specs.declared.streams.column.Column.{Column}
use Rattle.word_shapes.specs.declared.streams.rounds.Bank.{Bank}
use Rattle.adc_machine.specs.Bounds.{adc_setting}
use Rattle.adc_machine.specs.Groups.{Status, Idle, Busy, Completed, StreamCompleted, GroupState, Request, Round, inputs_of, samples_of, inputs_left, is_linear_stream, ends_with_stream, is_finished, is_full, is_same, newest, untouched, trigger_input, suspends, values_of}
use Rattle.adc_machine.specs.Machine.{is_unit_line, is_trigger_line, place_value, moved}
use Rattle.adc_machine.specs.Configured.{unit_of}
use Rattle.adc_groups.specs.Stored.{word_number, order_of, rounds_of}
use Rattle.adc_machine.specs.Laws.{ends_at}
use Rattle.adc_machine.specs.Table.{group_of, object_count, unit_level}
use Rattle.adc_machine.specs.Triggers.{mark_at, listener}
use Rattle.adc_machine.specs.Turns.{AdcState, group_at, round_at, has_turn, is_on, starts, aborts}
use Rattle.adc_machine.specs.Words.{is_word, is_converter, result_word, buffer_number, place_count, input_count}
use Rattle.adc_machine.specs.declared.call.Call.{Call}
use Rattle.adc_machine.specs.declared.call.Call.TheVariants as calls
use Rattle.adc_machine.specs.declared.call.GroupCall.TheVariants.{ReadGroup}
use Rattle.adc_machine.specs.declared.call.ResultBuffer.{ResultBuffer}
use Rattle.adc_machine.specs.declared.call.ResultBuffer.TheVariants.{Zero, One}
use Rattle.adc_machine.specs.declared.table.AdcTable.{AdcTable}
use Rattle.adc_machine.specs.declared.table.Group as configured
use Rattle.adc_groups.specs.declared.words.Word.TheVariants as words
use Rattle.adc_groups.specs.declared.words.TheConstants.{STATE}
use Rattle.adc_groups.specs.laws.services.InitSteps.{clear_at}

-- ---- what is held

pub data Reservation : Type 0 where
  -- so many of the words that Adc_Init clears are 0
  Clears : (upto : ℕ) → Reservation
  -- what is possible on the unit will be started, and a round that is outranked will yield
  Starts : (unit : ℕ) → Reservation
  Yields : (unit : ℕ) → Reservation
  -- the unit is claimed: a round's values are copied to this bank, so many with the next one, which was read
  Fills : (unit group kept : ℕ) → Bank → (done : ℕ) → (value : Option ℕ) → Reservation
  -- the unit is claimed: all values of its round are in this bank
  Full : (unit group : ℕ) → Bank → Reservation
  -- the unit is claimed: the values of an aborted round are copied behind those that were kept; how many they are is read first
  Keeps : (unit group kept : ℕ) → (ended : Option ℕ) → (done : ℕ) → (value : Option ℕ) → Reservation
  -- the unit is claimed: all values of an aborted round, so many, are kept
  Whole : (unit group count : ℕ) → Reservation
  -- the unit is claimed, and the frame has nothing of it
  Claims : (unit : ℕ) → Reservation
  -- the bank is copied to these places of a user's buffer, those of the first so many inputs already
  Copies : Bank → Column → (done : ℕ) → (value : Option ℕ) → Reservation
  -- the bank stays as it is, has what the call answered, and was read so far
  Reads : (group : ℕ) → Bank → (values : List ℕ) → Reservation

abbrev pub Reservations : Type 0
Reservations = List (ReservedBy Call Reservation)

-- some frame holds what is so
abbrev pub some_hold : (Reservation → Bool) → Reservations → Bool
some_hold p [] = false
some_hold p (h ∷ hs) = p h.what || some_hold p hs

-- it has promised the starts of a unit, and the yielding on it
abbrev pub starts_on : ℕ → Reservation → Bool
starts_on u (Starts v) = u == v
starts_on u _ = false

abbrev pub yields_on : ℕ → Reservation → Bool
yields_on u (Yields v) = u == v
yields_on u _ = false

-- it is the handler of the unit's own line that has promised its starts
abbrev pub is_handler : (unit : ℕ) → Origin Call → Bool
is_handler u (Called c) = false
is_handler u (Entered l) = is_unit_line l && l == 24 + u

abbrev pub starts_own : ℕ → ReservedBy Call Reservation → Bool
starts_own u h = starts_on u h.what && is_handler u h.by

-- Some frame has promised the yielding on a unit, above any handler of the unit's own line that has promised its starts. Such a
-- handler has found a finished round, and whatever starts after that is what waits first: no request below outranks it.
abbrev pub will_yield : ℕ → Reservations → Bool
will_yield u [] = false
will_yield u (h ∷ hs) = yields_on u h.what || (not (starts_own u h) && will_yield u hs)

-- it is clearing words
abbrev pub is_clearing : Reservation → Bool
is_clearing (Clears n) = true
is_clearing _ = false

-- it claims a unit
abbrev pub claims_on : ℕ → Reservation → Bool
claims_on u (Fills v g e b i x) = u == v
claims_on u (Full v g b) = u == v
claims_on u (Keeps v g e n i x) = u == v
claims_on u (Whole v g n) = u == v
claims_on u (Claims v) = u == v
claims_on u _ = false

-- ---- what the configuration has to be

-- where the words of a group end, counted as their start
abbrev pub end_of : configured.Group → ℕ
end_of k = k.start + (32 + 6 * length k.inputs)

-- a group's unit is configured; it has inputs, which are there, and places for its rounds; and its words are the module's
pub record FitsGroup (d : AdcTable) (k : configured.Group) : Type 0 where
  pub unit : is_some (unit_level d k.unit) ≡ true
  pub some : 0 < length k.inputs
  pub few : length k.inputs ≤ 32
  pub inputs : (i x : ℕ) → slice_get k.inputs i ≡ Some x → x < 32
  pub places : (0 < k.samples) × (k.samples ≤ 64)
  pub trigger : (i : ℕ) → k.trigger ≡ Some i → i < 4
  pub start : 64 ≤ k.start
  pub words : end_of k ≤ 64 + 32 * object_count d + 6 * input_count d

-- no two groups have one trigger input or a word in common, there is room for all words, and no group has a number past the last
pub record FitsAdc (d : AdcTable) : Type 0 where
  pub groups : (g : ℕ) (k : configured.Group) → group_of d g ≡ Some k → FitsGroup d k
  pub alone : (g h i : ℕ) → trigger_input (group_of d g) ≡ Some i → trigger_input (group_of d h) ≡ Some i → g ≡ h
  pub apart : (g h : ℕ) (k j : configured.Group) → group_of d g ≡ Some k → group_of d h ≡ Some j → g < h → end_of k ≤ j.start
  pub room : 64 + 32 * object_count d + 6 * input_count d ≤ 8192
  pub rows : length d.groups ≤ 16

-- ---- what the machine's states have in common

-- What is so of a group of every state, by what is configured of it and whether it has a turn: a group that isn't idle has a buffer,
-- one that is has neither a turn nor an enabled trigger, one whose stream is completed goes on exactly where it doesn't end with
-- its stream, and a linear one whose stream is full has neither.
pub record SoundGroup (k : Option configured.Group) (turned : Bool) (x : GroupState) : Type 0 where
  pub configured : k ≡ None → x ≡ untouched
  pub chosen : x.status ≢ Idle → is_some x.chosen ≡ true
  pub turn : x.status ≡ Idle → turned ≡ false
  pub trigger : x.status ≡ Idle → x.trigger ≡ false
  pub input : x.trigger ≡ true → is_some (trigger_input k) ≡ true
  pub going : x.status ≡ StreamCompleted → turned || x.trigger ≡ not (ends_with_stream k)
  pub rounds : x.status ≡ Completed → 0 < length x.rounds
  pub stream : x.status ≡ StreamCompleted → samples_of k ≤ length x.rounds
  pub linear : is_linear_stream k ≡ true → length x.rounds ≤ samples_of k
  pub lasts : turned || x.trigger ≡ true → is_full k (length x.rounds) ≡ false
  pub whole : (r : List ℕ) (i : ℕ) → slice_get x.rounds i ≡ Some r → length r ≡ length (inputs_of k)

abbrev pub IsSoundGroup : AdcTable → AdcState → ℕ → Type 0
IsSoundGroup d s g = SoundGroup (group_of d g) (has_turn s g) (group_at s g)

-- a request's number isn't above the last one, and it doesn't keep the values of all inputs, and none of a group that doesn't suspend
abbrev pub IsSoundRequest : AdcTable → AdcState → ℕ → Request → Type 0
IsSoundRequest d s g q = (0 < q.number) × (q.number ≤ s.requests) × (length q.kept < length (inputs_of (group_of d g))) × (suspends (group_of d g) ≡ false → q.kept ≡ [])

pub record IsSound (d : AdcTable) (w : World) (s : AdcState) : Type 0 where
  pub groups : (g : ℕ) → IsSoundGroup d s g
  pub waits : (g : ℕ) (q : Request) → (group_at s g).waiting ≡ Some q → IsSoundRequest d s g q
  pub runs : (u : ℕ) (r : Round) → round_at s u ≡ Some r → (u < 2) × (is_on u (group_of d r.group) ≡ true) × ((group_at s r.group).waiting ≡ None) × (r.start ≤ w.now) × IsSoundRequest d s r.group r.request
  pub marks : (i : ℕ) → mark_at s i ≡ true → is_some (listener d s i) ≡ true
  -- a group that hardware triggers listens while it has a turn
  pub hears : (g : ℕ) → has_turn s g ≡ true → is_some (trigger_input (group_of d g)) ≡ true → (group_at s g).trigger ≡ true
  pub rest : s.initialised ≡ false → (g : ℕ) → ((group_at s g).status ≡ Idle) × ((u : ℕ) → round_at s u ≡ None)
  pub off : s.initialised ≡ false → (i : ℕ) → mark_at s i ≡ false

-- ---- the words

-- the group of a round and 1 more, 0 for a free unit
abbrev pub running_of : Option Round → ℕ
running_of None = 0
running_of (Some r) = 1 + r.group

abbrev pub phase_of : Status → (goes_on : Bool) → ℕ
phase_of Idle goes_on = 0
phase_of Busy goes_on = 1
phase_of Completed goes_on = 2
phase_of StreamCompleted true = 3
phase_of StreamCompleted false = 4

abbrev pub chosen_of : Option ResultBuffer → ℕ
chosen_of None = 0
chosen_of (Some b) = 1 + buffer_number b

-- what the turn of a group keeps, while it waits or has a round
abbrev pub kept_of_round : ℕ → Option Round → List ℕ
kept_of_round g None = []
kept_of_round g (Some r) = if r.group == g then r.request.kept else []

abbrev pub kept_by : Option Request → List ℕ → List ℕ
kept_by (Some q) kept = q.kept
kept_by None kept = kept

abbrev pub kept_in : AdcTable → AdcState → ℕ → List ℕ
kept_in d s g = kept_by (group_at s g).waiting (kept_of_round g (round_at s (unit_of (group_of d g))))

-- the words of an initialised module about a group; the number of its kept values and these are left out while a frame keeps more
pub record GroupAgrees (d : AdcTable) (word : ℕ → ℕ) (s : AdcState) (g : ℕ) : Type 0 where
  pub phase : word (word_number d (words.Phase g)) ≡ phase_of (group_at s g).status (has_turn s g || (group_at s g).trigger)
  pub chosen : word (word_number d (words.Chosen g)) ≡ chosen_of (group_at s g).chosen
  pub notified : word (word_number d (words.Notified g)) ≡ bit_of (group_at s g).notification
  pub turn : word (word_number d (words.Turn g)) ≡ bit_of (has_turn s g)
  pub count : (group_at s g).status ≢ Idle → word (word_number d (words.Count g)) ≡ min (length (group_at s g).rounds) (samples_of (group_of d g))
  pub place : (group_at s g).status ≢ Idle → word (word_number d (words.Place g)) ≡ length (group_at s g).rounds % samples_of (group_of d g)
  pub kept : has_turn s g ≡ true → word (word_number d (words.Claim (unit_of (group_of d g)))) ≢ 2 + g → word (word_number d (words.Kept g)) ≡ length (kept_in d s g)
  pub values : has_turn s g ≡ true → word (word_number d (words.Claim (unit_of (group_of d g)))) ≢ 2 + g → (i v : ℕ) → slice_get (kept_in d s g) i ≡ Some v → word (kept_word (rounds_of d g) i) ≡ v

-- the order of a unit's requests: each group that has a turn on it, marked where it waits, by the numbers of the requests
abbrev pub number_by : Option Request → Option Round → ℕ
number_by (Some q) r = q.number
number_by None (Some r) = r.request.number
number_by None None = 0

abbrev pub number_at : AdcTable → AdcState → ℕ → ℕ
number_at d s g = number_by (group_at s g).waiting (round_at s (unit_of (group_of d g)))

pub record IsOrder (d : AdcTable) (s : AdcState) (u : ℕ) (xs : List Entry) : Type 0 where
  pub there : (g : ℕ) → is_there g xs ≡ (has_turn s g && is_on u (group_of d g))
  pub waits : (i : ℕ) (x : Entry) → slice_get xs i ≡ Some x → x.waits ≡ is_some (group_at s x.number).waiting
  pub sorted : (i j : ℕ) (x y : Entry) → i < j → slice_get xs i ≡ Some x → slice_get xs j ≡ Some y → number_at d s x.number < number_at d s y.number

pub record UnitAgrees (d : AdcTable) (word : ℕ → ℕ) (s : AdcState) (u : ℕ) : Type 0 where
  pub running : word (word_number d (words.Running u)) ≡ running_of (round_at s u)
  pub order : (xs : List Entry) × HoldsOrder (order_of u) word xs × IsOrder d s u xs

-- ---- the claims

-- what one hold says of the claim on a unit: that of a frame that keeps a group's values may be lost to a stop of that group
abbrev pub claim_fits : Reservation → (word : ℕ) → Bool
claim_fits (Keeps u g e n i x) v = v == 2 + g || v == 1
claim_fits (Whole u g n) v = v == 2 + g || v == 1
claim_fits h v = v == 1

-- a unit is claimed by at most one frame, and its word tells so
abbrev pub claim_right : Reservations → (unit word : ℕ) → Bool
claim_right [] u v = v == 0
claim_right (h ∷ hs) u v = if claims_on u h.what then claim_fits h.what v && not (some_hold (claims_on u) hs) else claim_right hs u v

-- ---- the registers

-- a round that is over was over at some time up to now
abbrev pub IsOver : rounds.Round → (now : ℕ) → Type 0
IsOver x now = (t : ℕ) × (x.closed ≡ Some t) × (t ≤ now)

-- The round on the chip has the inputs that the machine's one still had to convert, and the same start; the result of each that
-- has ended is its level at that time.
pub record IsRound (k : Option configured.Group) (b : Converters) (w : World) (a : Converter) (r : Round) : Type 0 where
  pub on : a.round.closed ≡ None
  pub start : a.round.start ≡ r.start
  pub count : a.round.count ≡ length (inputs_left k r)
  pub inputs : (i input : ℕ) → slice_get (inputs_left k r) i ≡ Some input → rounds.input_of a.round i ≡ input
  pub values : (i input : ℕ) → slice_get (inputs_left k r) i ≡ Some input → ends_at r i ≤ w.now → chips.result b.levels b.time a i ≡ sample_at w.samples input (ends_at r i)

abbrev pub RoundAgrees : AdcTable → Converters → World → Converter → Option Round → Type 0
RoundAgrees d b w a None = IsOver a.round b.time
RoundAgrees d b w a (Some r) = IsRound (group_of d r.group) b w a r

-- the block has both units with all their list registers, and no level was set after now
pub record IsBlock (b : Converters) (w : World) : Type 0 where
  pub all : length b.units ≡ 2
  pub lists : (u : ℕ) → u < 2 → length (chips.unit_at b u).list ≡ 8
  pub past : b.levels.since ≤ b.time
  pub samples : AllByRecursion (λ (x : Sample). x.since ≤ b.levels.since) w.samples

pub record TriggersAgree (d : AdcTable) (b : Converters) (s : AdcState) : Type 0 where
  pub gates : (i : ℕ) → i < 4 → has_bit b.gates i ≡ is_some (listener d s i)
  pub flags : (i : ℕ) → i < 4 → has_bit b.pulses i ≡ mark_at s i
  pub others : b.pulses < 16

-- ---- the banks

-- the bank that a frame fills for the group, with how many values it has, and the bank that one reads
abbrev pub put_of : AdcTable → ℕ → Reservation → Option (ℕ × ℕ)
put_of d g (Fills u h e b i x) = if g == h then Some (bank_number b, i) else None
put_of d g (Full u h b) = if g == h then Some (bank_number b, length (inputs_of (group_of d g))) else None
put_of d g _ = None

abbrev pub take_of : ℕ → Reservation → Option ℕ
take_of g (Reads h b vs) = if g == h then Some (bank_number b) else None
take_of g _ = None

-- the first of what is held that gives something
abbrev pub or_else : {T : Type 0} → Option T → Option T → Option T
or_else (Some x) y = Some x
or_else None y = y

abbrev pub first_held : {T : Type 0} → (Reservation → Option T) → Reservations → Option T
first_held f [] = None
first_held f (h ∷ hs) = or_else (f h.what) (first_held f hs)

-- the newest round stands in the newest bank, where the group has one since its start; a put and a take are under way where a frame fills or reads
pub record BanksAgree (d : AdcTable) (held : Reservations) (word : ℕ → ℕ) (s : AdcState) (g : ℕ) : Type 0 where
  pub banks : Banks
  pub stands : Stands (trio_of (rounds_of d g)) word banks
  pub newest : (group_at s g).status ≢ Idle → 0 < length (group_at s g).rounds → banks.newest ≡ newest (group_at s g).rounds
  pub put : option_map (λ (p : Putting). (p.bank, length p.filled)) banks.put ≡ first_held (put_of d g) held
  pub take : option_map (λ (t : Taking). t.bank) banks.take ≡ first_held (take_of g) held

-- ---- what is held is right

-- the next value of a copy, where it was read
abbrev pub IsNext : Option ℕ → ℕ → Type 0
IsNext None v = Unit {0}
IsNext (Some x) v = x ≡ v

-- the buffer of a column
abbrev pub buffer_by : (second : Bool) → ResultBuffer
buffer_by false = Zero
buffer_by true = One

abbrev pub buffer_in : Column → ResultBuffer
buffer_in c = buffer_by c.second

-- the handler of the unit's line fills the bank of the open put with the values of the round, if the unit still has it
pub record FillsRight (d : AdcTable) (chip : Chip) (w : World) (s : AdcState) (u g e : ℕ) (b : Bank) (i : ℕ) (x : Option ℕ) : Type 0 where
  pub same : (r : Round) → round_at s u ≡ Some r → (r.group ≡ g) × (length r.request.kept ≡ e) × (is_finished w (group_of d g) r ≡ true)
  pub filled : (r : Round) (j v : ℕ) → round_at s u ≡ Some r → j < i → slice_get (values_of w (group_of d g) r) j ≡ Some v → word_of chip (bank_word (rounds_of d g) b j) ≡ v
  pub next : (r : Round) (v : ℕ) → round_at s u ≡ Some r → slice_get (values_of w (group_of d g) r) i ≡ Some v → IsNext x v

-- the same once all are in the bank
pub record FullRight (d : AdcTable) (chip : Chip) (w : World) (s : AdcState) (u g : ℕ) (b : Bank) : Type 0 where
  pub same : (r : Round) → round_at s u ≡ Some r → (r.group ≡ g) × (is_finished w (group_of d g) r ≡ true)
  pub filled : (r : Round) (j v : ℕ) → round_at s u ≡ Some r → slice_get (values_of w (group_of d g) r) j ≡ Some v → word_of chip (bank_word (rounds_of d g) b j) ≡ v

-- the values behind those that were kept are the results of the unit, which is free; nothing is said of a group that was stopped
abbrev pub result_of : Chip → (unit at : ℕ) → ℕ
result_of chip u i = chips.result chip.converters.levels chip.converters.time (chips.unit_at chip.converters u) i

pub record KeepsRight (d : AdcTable) (chip : Chip) (s : AdcState) (u g e : ℕ) (n : Option ℕ) (i : ℕ) (x : Option ℕ) : Type 0 where
  pub waits : is_some (group_at s g).waiting ≡ true
  pub count : length (kept_in d s g) ≡ e + rounds.ended (chips.unit_at chip.converters u).round chip.converters.time
  pub told : (k : ℕ) → n ≡ Some k → k ≡ rounds.ended (chips.unit_at chip.converters u).round chip.converters.time
  pub word : word_of chip (word_number d (words.Kept g)) ≡ e
  pub kept : (j v : ℕ) → j < e + i → slice_get (kept_in d s g) j ≡ Some v → word_of chip (kept_word (rounds_of d g) j) ≡ v
  pub results : (j v : ℕ) → slice_get (kept_in d s g) (e + j) ≡ Some v → result_of chip u j ≡ v
  pub next : (v : ℕ) → x ≡ Some v → slice_get (kept_in d s g) (e + i) ≡ Some v

-- all of them are kept
pub record WholeRight (d : AdcTable) (chip : Chip) (s : AdcState) (u g n : ℕ) : Type 0 where
  pub waits : is_some (group_at s g).waiting ≡ true
  pub count : length (kept_in d s g) ≡ n
  pub kept : (j v : ℕ) → slice_get (kept_in d s g) j ≡ Some v → word_of chip (kept_word (rounds_of d g) j) ≡ v

-- what is still to be copied stands in the newest bank
pub record CopiesRight (d : AdcTable) (chip : Chip) (s : AdcState) (b : Bank) (c : Column) (i : ℕ) (x : Option ℕ) : Type 0 where
  pub newest : word_of chip (trio_of (rounds_of d c.group)).control % 4 ≡ bank_number b
  pub values : (j : ℕ) → j < length (inputs_of (group_of d c.group)) → i ≤ j → word_of chip (bank_word (rounds_of d c.group) b j) ≡ place_value s c.group (buffer_in c) (j * c.samples + c.place)
  pub next : (v : ℕ) → x ≡ Some v → v ≡ place_value s c.group (buffer_in c) (i * c.samples + c.place)

-- the bank is pinned and has what the call answered, and what was read is the front of that
pub record ReadsRight (d : AdcTable) (chip : Chip) (h : ReservedBy Call Reservation) (g : ℕ) (b : Bank) (vs : List ℕ) : Type 0 where
  pub whole : List ℕ
  pub answered : h.acted ≡ Some (named_with EOk whole)
  pub pinned : word_of chip (trio_of (rounds_of d g)).control / 4 ≡ bank_number b + 1
  pub bank : IsBank (trio_of (rounds_of d g)) (word_of chip) (bank_number b) whole
  pub front : vs ≡ take (length vs) whole

-- the word that is cleared at this place of the order of Adc_Init is 0
abbrev pub IsZero : Chip → Move → Type 0
IsZero chip (moves.Store k v) = word_of chip k ≡ v
IsZero chip _ = Unit {0}

abbrev pub IsCleared : AdcTable → Chip → ℕ → Type 0
IsCleared d chip i = IsZero chip (clear_at d i)

-- and each is of the frame that may hold it, of an initialised module but for Adc_Init; where a stop took the claim of one that
-- keeps values, a new turn of the group has kept nothing
abbrev pub HeldRight : AdcTable → Chip → World → AdcState → ReservedBy Call Reservation → Reservation → Type 0
HeldRight d chip w s h (Clears n) = (h.by ≡ Called calls.Init) × (s.initialised ≡ false) × ((i : ℕ) → i < n → IsCleared d chip i)
HeldRight d chip w s h (Starts u) = s.initialised ≡ true
HeldRight d chip w s h (Yields u) = s.initialised ≡ true
HeldRight d chip w s h (Fills u g e b i x) = (h.by ≡ Entered (24 + u)) × (s.initialised ≡ true) × (is_on u (group_of d g) ≡ true) × FillsRight d chip w s u g e b i x
HeldRight d chip w s h (Full u g b) = (h.by ≡ Entered (24 + u)) × (s.initialised ≡ true) × (is_on u (group_of d g) ≡ true) × FullRight d chip w s u g b
HeldRight d chip w s h (Claims u) = (h.by ≡ Entered (24 + u)) × (s.initialised ≡ true) × (round_at s u ≡ None)
HeldRight d chip w s h (Whole u g n) = (s.initialised ≡ true) × (is_on u (group_of d g) ≡ true) × (round_at s u ≡ None) × (word_of chip (word_number d (words.Claim u)) ≡ 2 + g → WholeRight d chip s u g n)
HeldRight d chip w s h (Keeps u g e n i x) = (s.initialised ≡ true) × (is_on u (group_of d g) ≡ true) × (round_at s u ≡ None) × (word_of chip (word_number d (words.Claim u)) ≡ 2 + g → KeepsRight d chip s u g e n i x) × (word_of chip (word_number d (words.Claim u)) ≢ 2 + g → kept_in d s g ≡ [])
HeldRight d chip w s h (Copies b c i x) = (h.by ≡ Entered (24 + unit_of (group_of d c.group))) × (s.initialised ≡ true) × (is_some (group_of d c.group) ≡ true) × CopiesRight d chip s b c i x
HeldRight d chip w s h (Reads g b vs) = (h.by ≡ Called (calls.Group g ReadGroup)) × (s.initialised ≡ true) × (is_some (group_of d g) ≡ true) × ReadsRight d chip h g b vs

abbrev pub AllRight : AdcTable → Chip → World → AdcState → Reservations → Type 0
AllRight d chip w s [] = Unit {0}
AllRight d chip w s (h ∷ hs) = HeldRight d chip w s h h.what × AllRight d chip w s hs

-- ---- the places of the users' buffers

-- a frame has yet to copy to this place
abbrev pub is_owed : (group : ℕ) → ResultBuffer → (place : ℕ) → Reservation → Bool
is_owed g b p (Copies k c i x) = c.group == g && (is_same (buffer_in c) b && (p % c.samples == c.place && nat_le i (p / c.samples)))
is_owed g b p _ = false

abbrev pub PlacesAgree : AdcTable → Reservations → (ℕ → ℕ) → AdcState → Type 0
PlacesAgree d held word s = (g : ℕ) (b : ResultBuffer) (p : ℕ) → p < place_count d g → some_hold (is_owed g b p) held ≡ false → word (result_word g b p) ≡ place_value s g b p

-- ---- no unit waits

-- where a unit may start something some frame has promised that, and where a round is outranked some frame has promised that it yields, above any handler that serves the unit
pub record Promised (d : AdcTable) (held : Reservations) (w : World) (s : AdcState) (u : ℕ) : Type 0 where
  pub starts : is_some (starts d s u) ≡ true → some_hold (starts_on u) held ≡ true
  pub yields : is_some (aborts d w s u) ≡ true → will_yield u held ≡ true

-- a frame that claims a unit has promised its starts, below that
abbrev pub Backed : Reservations → Type 0
Backed [] = Unit {0}
Backed (h ∷ hs) = ((u : ℕ) → claims_on u h.what ≡ true → some_hold (starts_on u) hs ≡ true) × Backed hs

-- ---- the agreement

-- the words and registers of the initialised module
pub record Settled (d : AdcTable) (held : Reservations) (chip : Chip) (w : World) (s : AdcState) : Type 0 where
  pub groups : (g : ℕ) → is_some (group_of d g) ≡ true → GroupAgrees d (word_of chip) s g
  pub units : (u : ℕ) → u < 2 → UnitAgrees d (word_of chip) s u
  pub claims : (u : ℕ) → u < 2 → claim_right held u (word_of chip (word_number d (words.Claim u))) ≡ true
  pub lines : (l : ℕ) → is_unit_line l || is_trigger_line l ≡ true → has_bit chip.control.enabled l ≡ true
  pub promised : (u : ℕ) → Promised d held w s u

-- the words and registers agree with the state and with what is held
pub record Agrees (d : AdcTable) (held : Reservations) (chip : Chip) (w : World) (s : AdcState) : Type 0 where
  pub sound : IsSound d w s
  pub outside : StandsIn chip w
  pub state : word_of chip STATE ≡ bit_of s.initialised
  pub right : AllRight d chip w s held
  pub banks : (g : ℕ) → is_some (group_of d g) ≡ true → BanksAgree d held (word_of chip) s g
  pub block : IsBlock chip.converters w
  pub rounds : (u : ℕ) → u < 2 → RoundAgrees d chip.converters w (chips.unit_at chip.converters u) (round_at s u)
  pub triggers : TriggersAgree d chip.converters s
  pub places : PlacesAgree d held (word_of chip) s
  pub backed : Backed held
  pub settled : s.initialised ≡ true → Settled d held chip w s
  -- the chosen buffers of a module that is uninitialised, until its words are cleared
  pub left : s.initialised ≡ false → some_hold is_clearing held ≡ false → (g : ℕ) → is_some (group_of d g) ≡ true → word_of chip (word_number d (words.Chosen g)) ≡ chosen_of (group_at s g).chosen

-- ---- what is the module's

-- the value has a bit of one of the module's lines, or one past those of a register
abbrev pub has_lines : ℕ → Bool
has_lines v = list_any (λ l. has_bit v l) (24 ∷ 25 ∷ 28 ∷ 29 ∷ 30 ∷ 31 ∷ []) || not (nat_lt v (2 ^ 32))

abbrev pub owns_written : Reg → ℕ → Bool
owns_written EnableSet v = has_lines v
owns_written EnableClear v = has_lines v
owns_written r v = is_converter r

abbrev pub adc_owns : AdcTable → Move → Bool
adc_owns d (moves.Read r) = is_converter r
adc_owns d (moves.Write r v) = owns_written r v
adc_owns d (moves.Load k) = is_word d k
adc_owns d (moves.Store k v) = is_word d k
adc_owns d _ = false

-- What the top frame may have under work: nothing, or before it starts a round on a unit it stores the unit's words, ahead of
-- the start. Then all agrees with other words there.
abbrev pub Ahead : Type 0
Ahead = Option ℕ

abbrev pub is_ahead : (unit word : ℕ) → Bool
is_ahead u k = k == STATE + 8 + 8 * u || (k == STATE + 9 + 8 * u || own_of (order_of u) k)

abbrev pub AdcRepresents : AdcTable → Reservations → Ahead → Chip → World → AdcState → Type 0
AdcRepresents d held None chip w s = Agrees d held chip w s
AdcRepresents d held (Some u) chip w s = (ws : List ℕ) × Agrees d held (record chip { words = ws }) w s × ((k : ℕ) → is_ahead u k ≡ false → slice_index ws k ≡ word_of chip k) × (length chip.words ≡ length ws)

-- what places rest on, of the chip: the list registers by unit, the driver words, and the lines that are enabled
pub record Footprint : Type 0 where
  pub lists : List (List ℕ)
  pub word : ℕ → ℕ
  pub enabled : ℕ

abbrev pub foot_of : Chip → Footprint
foot_of chip = record { lists = map (λ (a : Converter). a.list) chip.converters.units; word = word_of chip; enabled = chip.control.enabled }

-- what all services of the driver stand on, while no move is owed
abbrev pub bare : AdcTable → SharedRefinement AdcState Call
bare d = record {
  setting = adc_setting d;
  wired = λ chip. Unit {0};
  lines = λ l. is_unit_line l || is_trigger_line l;
  watches = false;
  owns = λ o made. adc_owns d made;
  count = λ s. s.requests;
  later = λ w s order. moved d s order;
  Lag = Ahead;
  settled = None;
  Reservation = Reservation;
  represents = AdcRepresents d;
  Footprint = Footprint;
  foot = foot_of;
}
