-- The basis keeps what it owes: at the start, in time, under moves elsewhere, over a reset and at rest.
-- From hardware.StableUnderHardware, words.JobPlaces, hardware.SourceFilled, service_outline: Words and 3 more.
-- Used by spi_driver: bookkeeping.KeepsToModule, spi_driver: bookkeeping.Lawful and 16 more.
use Rattle.std.proofs.Common.{◌≡◌, ◌+◌, ◌-◌, ◌*◌, ◌/◌, ◌%◌, ◌^◌, ◌<◌, ◌≤◌, ◌==◌, ◌&&◌, ◌||◌, [], ◌∷◌, ◌∙◌, ◌⊎◌}
use Rattle.std.proofs.Common.{if◌then◌else◌}
use Rattle.spi_sequences.specs.Terms
use Terms.{act-leaves, after_read, and_false, and_parts, ap, arith, best, Bool, Call, Called, carries_channel, Carrying}
use Terms.{channel_of, channels_by, channels_of, Chip, chip_after, clear_apart, ClockPll, ClockRate, Contains, due}
use Terms.{EnableClear, EnableSet, eq_is, eq_isnt, false, Fill, fills_there, filter, first_state, FitsSpi, Going}
use Terms.{happened, Hardware, has_bit, has_bit-or, has_bit-pow_other, has_bit-without, has_done, has_handler}
use Terms.{has_lines, Init, inl, inr, InTransfer, is_done, is_for, is_for_lines, is_in_use, is_interrupt, is_masked}
use Terms.{is_off, is_on_unit, is_owed, is_shared, is_some, is_sync_unit, is_used, is_word_of, IsBasis, Job, job_of}
use Terms.{jobs_of, Level, level_leaves, line-serial, List, list_any, Load, Made, may, may_name, may_write, MayCome}
use Terms.{Move, move_there, moved, names_there, nat_lt, nat_tests, next_at, next_by, next_job, next_on, None, not}
use Terms.{number_of, Option, or_parts, Order, Origin, outcome, owns_written, Pending, PowerOn, rate-left, Read}
use Terms.{reads_from, ready, refl, Reg, Reservations, ResetRequest, resets_chip, Run, run_at, RunsNext, Serial}
use Terms.{SerialAck, SerialData, SerialSelect, SerialWidth, set_apart, sets_rate, Some, some_or_none, Spi0, Spi1}
use Terms.{spi_bare, spi_owns, spi_setting, SpiFault, SpiRepresents, SpiState, SpiTable, stands-event, stands-move}
use Terms.{StandsIn, Steady, Store, stores_in, subst, suc, sym, SyncTransmit, tells_nothing, TimerLow, true, unit_at}
use Terms.{unit_of, unit_of_sequence, UnitAgrees, uses, uses_by, uses_channel, uses_unit, view, whether, whether_as}
use Terms.{wiring-left, word-left, word_apart, word_of, World, world_after, Write, zero, ℕ}
use Rattle.chip_model.specs.Chip.{is_pending}
use Rattle.mcal_base.specs.{declared.directive.Order.TheVariants.{Tick}, declared.register.Reg.TheVariants.{SerialWait}}
use Rattle.mcal_base.specs.facts.Truths.{and_true}
use Rattle.run_model.specs.Frame.{is_wait}
use Rattle.spi_machine.specs.{Bounds.{is_serial, may_wait}, Machine.{run_of}}
use Rattle.spi_sequences.specs.laws.hardware.SourceFilled.{fill_agrees, not_both, spared_by, spared_none}
use Rattle.spi_sequences.specs.laws.hardware.StableUnderHardware.{by_two, done_same, fault_agrees, none_in}
use Rattle.spi_sequences.specs.laws.hardware.StableUnderHardware.{reset_agrees, same_agrees}
use Rattle.spi_sequences.specs.laws.{words.JobPlaces.{asked_unit, none_by}, words.WordsOfModule.{some_at}}
use Rattle.spi_sequences.specs.laws.words.WordsToState.{any_some, is_number, none_any, not_true}
use Rattle.std.proofs.lemmas.Bool.{or_from}
use Rattle.spi_machine.specs.declared.call.Call.TheVariants as calls
use Rattle.chip_blocks.specs.units.Serials as serials
use Rattle.chip_blocks.specs.declared.units.serial.Word as chips
use Rattle.mcal_base.specs.declared.moves.Unit as units

-- ---- in time

time_later : (w : World) (rate : ℕ) (order : Order) → w.now ≤ (world_after w rate order).now
time_later w rate (Tick n) = omega arith
time_later w rate _ = omega arith

same_orders : (d : SpiTable) → FitsSpi d → (held : Reservations) (chip : Chip) (w : World) (s : SpiState) (order : Order) → StandsIn (happened chip order) (world_after w chip.clock.rate order) → (happened chip order).serials.units ≡ chip.serials.units → ((k : ℕ) → word_of (happened chip order) k ≡ word_of chip k)
    → ((u : ℕ) → u < 2 → has_bit (happened chip order).control.enabled (26 + u) ≡ has_bit chip.control.enabled (26 + u)) → SpiRepresents d held chip w s → SpiRepresents d held (happened chip order) (world_after w chip.clock.rate order) s
same_orders d fits held chip w s order stands units words enabled h = same_agrees d fits held chip (happened chip order) w (world_after w chip.clock.rate order) s (time_later w chip.clock.rate order) stands (wiring-left chip (Hardware order)) units (λ k own. words k) enabled h

-- no job uses a channel that isn't there
unused_none : (d : SpiTable) → FitsSpi d → (c : ℕ) (s : SpiState) → is_some (channel_of d c) ≡ false → uses d s c ≡ false
unused_none d fits c s none = or_from (is_in_use d c s.pending) (list_any (carries_channel d c) s.carried) (none_any (λ p. list_any (uses_channel d c) (jobs_of d p.sequence)) s.pending (λ p is. by_sequence p.sequence)) (none_any (carries_channel d c) s.carried (λ o is. by_carried o))
  where
    there : (j n : ℕ) → Contains (channels_of d j) n → (o : Option Job) → job_of d j ≡ o → is_some (channel_of d n) ≡ true
    there j n is None e = absurd (none_in n (subst (λ k. Contains (channels_by k) n) e is))
    there j n is (Some k) e = ap is_some ((fits.jobs j k e).there n is).2

    by_channel : (j : ℕ) → (n : ℕ) × Contains (channels_of d j) n × ((n == c) ≡ true) → ⊥
    by_channel j (n, is, same) = let f = sym (ap (λ m. is_some (channel_of d m)) (is_number n c same)) ∙ there j n is (job_of d j) refl in let g = sym f ∙ none in cc

    by_job : (q : ℕ) → (j : ℕ) × Contains (jobs_of d q) j × (uses_channel d c j ≡ true) → ⊥
    by_job q (j, is, uses) = by_channel j (any_some (λ k. k == c) (channels_of d j) uses)

    by_sequence : (q : ℕ) → list_any (uses_channel d c) (jobs_of d q) ≡ false
    by_sequence q = not_true (list_any (uses_channel d c) (jobs_of d q)) (λ e. by_job q (any_some (uses_channel d c) (jobs_of d q) e))

    by_carried : (o : Option Carrying) → carries_channel d c o ≡ false
    by_carried None = refl
    by_carried (Some x) = by_sequence x.entry.sequence

later_agrees : (d : SpiTable) → FitsSpi d → (held : Reservations) (chip : Chip) (w : World) (s : SpiState) (order : Order) → MayCome (spi_setting d) held chip w s order → SpiRepresents d held chip w s → SpiRepresents d held (happened chip order) (world_after w chip.clock.rate order) (moved d w s order)
later_agrees d fits held chip w s order come h = agrees_after order come (stands-event chip w order (fills_there (spi_setting d) (is_masked chip) w s come.frames order come.free) h.outside)
  where
    fill : (c : ℕ) (ws : List ℕ) → MayCome (spi_setting d) held chip w s (Fill c ws) → (q : Bool) → is_some (channel_of d c) ≡ q → SpiRepresents d held (happened chip (Fill c ws)) (world_after w chip.clock.rate (Fill c ws)) (moved d w s (Fill c ws))
    fill c ws come true e =
        let none = or_parts (uses d s c) (list_any (reads_from (spi_setting d) c) come.frames) (or_parts (is_masked chip) (uses d s c || list_any (reads_from (spi_setting d) c) come.frames) (ap (λ q. is_masked chip || (q && (uses d s c || list_any (reads_from (spi_setting d) c) come.frames))) (sym e) ∙ come.free.0)).1 in
        fill_agrees d fits held chip w s c ws come.free.1 none.0 h (spared_by d s.mode s.channels c held (come.among (reads_from (spi_setting d) c) none.1) h.right)
    fill c ws come false e = fill_agrees d fits held chip w s c ws come.free.1 (unused_none d fits c s e) h (spared_none d s.mode s.channels c held e h.right)

    agrees_after : (order : Order) → MayCome (spi_setting d) held chip w s order → StandsIn (happened chip order) (world_after w chip.clock.rate order) → SpiRepresents d held (happened chip order) (world_after w chip.clock.rate order) (moved d w s order)
    agrees_after (SpiFault u) come stands = fault_agrees d held chip w s u h
    agrees_after (Fill c ws) come stands = fill c ws come (is_some (channel_of d c)) refl
    agrees_after (Level p v) come stands = same_orders d fits held chip w s (Level p v) stands (level_leaves (λ c. c.serials.units) chip p v refl) (λ k. word-left k chip (Hardware (Level p v)) tt) (λ u lt. level_leaves (λ c. has_bit c.control.enabled (26 + u)) chip p v refl) h
    agrees_after order come stands = same_orders d fits held chip w s order stands refl (λ k. refl) (λ u lt. refl) h

-- ---- moves elsewhere

read_apart : (chip : Chip) (r : Reg) → (after_read chip r).serials ≡ chip.serials
read_apart chip (TimerLow c) = refl
read_apart chip _ = refl

written_apart : (chip : Chip) (r : Reg) (v received : ℕ) → owns_written r v ≡ false → (chip_after chip (Write r v) received).serials ≡ chip.serials
written_apart chip (SerialSelect u) v received e = absurd (cc)
written_apart chip (SerialWidth u) v received e = absurd (cc)
written_apart chip (SerialData u) v received e = absurd (cc)
written_apart chip (SerialAck u) v received e = absurd (cc)
written_apart chip _ v received e = refl

serials_apart : (d : SpiTable) (chip : Chip) (made : Move) (received : ℕ) → spi_owns d made ≡ false → (chip_after chip made received).serials ≡ chip.serials
serials_apart d chip (Read r) received e = read_apart chip r
serials_apart d chip (Write r v) received e = written_apart chip r v received e
serials_apart d chip _ received e = refl

either_none : (a b c : Bool) → (a || b) || c ≡ false → (a ≡ false) × (b ≡ false) × (c ≡ false)
either_none a b c e = let p = or_parts (a || b) c e in let q = or_parts a b p.0 in (q.0, q.1, p.1)

no_line : (v u : ℕ) → u < 2 → has_lines v ≡ false → has_bit v (26 + u) ≡ false
no_line v u lt e = let p = either_none (has_bit v 26) (has_bit v 27) (not (nat_lt v 4294967296)) e in by_two (λ n. has_bit v (26 + n) ≡ false) p.0 p.1 u lt

lines_fit : (v : ℕ) → has_lines v ≡ false → v < 2 ^ 32
lines_fit v e = let p = (either_none (has_bit v 26) (has_bit v 27) (not (nat_lt v 4294967296)) e).2 in small v p
  where
    small : (v : ℕ) → not (nat_lt v 4294967296) ≡ false → v < 2 ^ 32
    small v e = grind (arith, nat_tests)

written_enabled : (chip : Chip) (r : Reg) (v received u : ℕ) → owns_written r v ≡ false → u < 2 → has_bit (chip_after chip (Write r v) received).control.enabled (26 + u) ≡ has_bit chip.control.enabled (26 + u)
written_enabled chip EnableSet v received u e lt = has_bit-or chip.control.enabled v (26 + u) ∙ set_apart (has_bit chip.control.enabled (26 + u)) (has_bit v (26 + u)) (no_line v u lt e)
written_enabled chip EnableClear v received u e lt = has_bit-without chip.control.enabled v (26 + u) (lines_fit v e) (omega (arith, lt)) ∙ clear_apart (has_bit chip.control.enabled (26 + u)) (has_bit v (26 + u)) (no_line v u lt e)
written_enabled chip _ v received u e lt = refl

read_enabled : (chip : Chip) (r : Reg) → (after_read chip r).control ≡ chip.control
read_enabled chip (TimerLow c) = refl
read_enabled chip _ = refl

enabled_apart : (d : SpiTable) (chip : Chip) (made : Move) (received u : ℕ) → spi_owns d made ≡ false → u < 2 → has_bit (chip_after chip made received).control.enabled (26 + u) ≡ has_bit chip.control.enabled (26 + u)
enabled_apart d chip (Read r) received u e lt = ap (λ k. has_bit k.enabled (26 + u)) (read_enabled chip r)
enabled_apart d chip (Write r v) received u e lt = written_enabled chip r v received u e lt
enabled_apart d chip _ received u e lt = refl

unstored : (d : SpiTable) (made : Move) → spi_owns d made ≡ false → stores_in (is_word_of d) made ≡ false
unstored d (Store k v) e = e
unstored d _ e = refl

pub apart_agrees : (d : SpiTable) → FitsSpi d → (held : Reservations) (chip : Chip) (w : World) (s : SpiState) (made : Move) (received : ℕ) → spi_owns d made ≡ false → SpiRepresents d held chip w s → SpiRepresents d held (chip_after chip made received) w s
apart_agrees d fits held chip w s made received e h =
    same_agrees d fits held chip (chip_after chip made received) w w s (omega arith) (stands-move chip w made received h.outside) (wiring-left chip (Made made received)) (ap (λ b. b.units) (serials_apart d chip made received e)) (λ k own. word_apart (is_word_of d) chip made received k (unstored d made e) own)
    (λ u lt. enabled_apart d chip made received u e lt) h

-- ---- what a frame may do

owned_plain : (d : SpiTable) (made : Move) → spi_owns d made ≡ true → is_shared made ≡ false
owned_plain d (Read r) e = refl
owned_plain d (Write r v) e = refl
owned_plain d (Load k) e = refl
owned_plain d (Store k v) e = refl
owned_plain d _ e = absurd (cc)

-- a value for lines of the module alone is for one of them, or for both
by_lines : (P : ℕ → Type 0) → P 67108864 → P 134217728 → P 201326592 → (v : ℕ) → is_for_lines v ≡ true → P v
by_lines P one other both v e = subst P (sym (whole v e)) (at (v / 67108864) (subst (λ n. not (n == 0) ≡ true) (whole v e) (some v e)) (few v e))
  where
    at : (n : ℕ) → not (67108864 * n == 0) ≡ true → n < 4 → P (67108864 * n)
    at zero e lt = absurd (cc)
    at (suc zero) e lt = one
    at (suc (suc zero)) e lt = other
    at (suc (suc (suc zero))) e lt = both
    at (suc (suc (suc (suc n)))) e lt = absurd (omega (arith, lt))

    whole : (v : ℕ) → is_for_lines v ≡ true → v ≡ 67108864 * (v / 67108864)
    whole v e = let zero_rest : v % 67108864 ≡ 0 = grind (arith, nat_tests) in omega (arith, zero_rest)

    some : (v : ℕ) → is_for_lines v ≡ true → not (v == 0) ≡ true
    some v e = grind (arith, nat_tests)

    few : (v : ℕ) → is_for_lines v ≡ true → v / 67108864 < 4
    few v e = let lt : v < 268435456 = grind (arith, nat_tests) in omega (arith, lt)

lines_named : (v : ℕ) → is_for_lines v ≡ true → has_lines v ≡ true
lines_named v e = by_lines (λ n. has_lines n ≡ true) refl refl refl v e

other_line : (bits line : ℕ) → is_for_lines bits ≡ true → (line == 26 || line == 27) ≡ false → has_bit bits line ≡ false
other_line bits line e f =
    let p = or_parts (line == 26) (line == 27) f in
    let first : has_bit 67108864 line ≡ false = has_bit-pow_other 26 line (eq_isnt line 26 p.0) in
    let second : has_bit 134217728 line ≡ false = has_bit-pow_other 27 line (eq_isnt line 27 p.1) in
    by_lines (λ n. has_bit n line ≡ false) first second (has_bit-or 67108864 134217728 line ∙ ap (λ q. q || has_bit 134217728 line) first ∙ second) bits e

written_owned : (r : Reg) (v : ℕ) → may_write r v ≡ true → owns_written r v ≡ true
written_owned EnableSet v e = lines_named v e
written_owned EnableClear v e = lines_named v e
written_owned _ v e = e

may_owned : (d : SpiTable) (made : Move) → may_name d made ≡ true → spi_owns d made ≡ true
may_owned d (Write r v) e = written_owned r v e
may_owned d (Read r) e = (and_parts (is_serial r) (not (is_wait (Read r))) e).0
may_owned d _ e = e

pub may_parts : (d : SpiTable) (made : Move) → may d made ≡ true → (spi_owns d made ≡ true) × (names_there made ≡ true)
may_parts d made e = let p = and_parts (may_name d made) (names_there made) e in (may_owned d made p.0, p.1)

-- what each frame may do, this one may
pub frame_names : (d : SpiTable) (o : Origin Call) (made : Move) → may d made ≡ true → may_wait d made o || may d made ≡ true
frame_names d o made e = elim (may_wait d made o) as (λ b. b || may d made ≡ true) [ true ↦ refl | false ↦ e ]

pub frame_may : (d : SpiTable) (o : Origin Call) (made : Move) → is_shared made || may d made ≡ true → is_shared made || (may_wait d made o || may d made) ≡ true
frame_may d o made e = by (is_shared made) (may_wait d made o) e
  where
    by : (a b : Bool) → a || may d made ≡ true → a || (b || may d made) ≡ true
    by false false e = e
    by _ _ e = refl

-- it reads a wait register that is there, or each frame may make it
abbrev pub FrameMoves : SpiTable → Move → Type 0
FrameMoves d made = ((u : ℕ) × (made ≡ Read (SerialWait u)) × (names_there made ≡ true)) ⊎ (may d made ≡ true)

pub frame_moves : (d : SpiTable) (o : Origin Call) (made : Move) → may_wait d made o || may d made ≡ true → FrameMoves d made
frame_moves d o made e = whether (may_wait d made o)
    (λ f. inl (waits made o f))
    (λ f. inr (sym (ap (λ b. b || may d made) f) ∙ e))
  where
    waits : (made : Move) (o : Origin Call) → may_wait d made o ≡ true → (u : ℕ) × (made ≡ Read (SerialWait u)) × (names_there made ≡ true)
    waits (Read (SerialWait u)) (Called (calls.Sequence q SyncTransmit)) e = (u, refl, (and_parts (unit_of_sequence d q == u) (names_there (Read (SerialWait u))) e).1)
    waits _ _ e = absurd (cc)

frame_parts : (d : SpiTable) (o : Origin Call) (made : Move) → may_wait d made o || may d made ≡ true → (spi_owns d made ≡ true) × (names_there made ≡ true)
frame_parts d o made e =
    elim (frame_moves d o made e)
    [ inl (u, is, there) ↦ (ap (spi_owns d) is, there) | inr e ↦ may_parts d made e ]

-- it resets nothing and sets no rate
abbrev pub IsPlain : Move → Type 0
IsPlain made = (resets_chip made ≡ false) × (sets_rate made ≡ false)

written_plain : (d : SpiTable) (r : Reg) (v : ℕ) → may_name d (Write r v) ≡ true → IsPlain (Write r v)
written_plain d ResetRequest v e = absurd (cc)
written_plain d ClockPll v e = absurd (cc)
written_plain d ClockRate v e = absurd (cc)
written_plain d _ v e = (refl, refl)

pub plain_move : (d : SpiTable) (made : Move) → may d made ≡ true → IsPlain made
plain_move d (Write r v) e = written_plain d r v (and_parts (may_name d (Write r v)) (names_there (Write r v)) e).0
plain_move d _ e = (refl, refl)

frame_plain : (d : SpiTable) (o : Origin Call) (made : Move) → may_wait d made o || may d made ≡ true → IsPlain made
frame_plain d o made e =
    elim (frame_moves d o made e)
    [ inl (u, is, there) ↦ (ap resets_chip is, ap sets_rate is) | inr e ↦ plain_move d made e ]

-- ---- what is due

-- a unit's word is done on the chip where it is in the machine
unit_done : (d : SpiTable) (x : Serial) (r : Option Run) (now : ℕ) (g : Option Going) → UnitAgrees d x r g → serials.is_done x now ≡ has_done now r
unit_done d x r now None h = ap (λ o. serials.has_ended o now) h.0 ∙ sym (ap (λ o. has_done now o) h.1)
unit_done d x r now (Some g) h = by x.word refl h.2 ∙ sym (ap (λ o. has_done now o) h.1)
  where
    by : (o : Option chips.Word) → x.word ≡ o → InTransfer o h.0 → serials.has_ended x.word now ≡ is_done now h.0
    by None e a = absurd a
    by (Some y) e a = ap (λ o. serials.has_ended o now) e ∙ done_same y h.0 now a.start

module _ (d : SpiTable) (fits : FitsSpi d) (held : Reservations) (chip : Chip) (w : World) (s : SpiState) (h : SpiRepresents d held chip w s) where
  -- and it is unserved where it runs a job of an initialised module
  off_none : (u : ℕ) → is_off s.mode ≡ true → run_at s u ≡ None
  off_none u e = none_by (run_at s u) ((h.sound.off e).1 u)

  -- a unit that carries out sequences for calls runs no job of a pending one
  idle_sync : (u : ℕ) → is_sync_unit d u ≡ true → run_at s u ≡ None
  idle_sync u e = none_by (run_at s u) (h.sound.carries.idle u e)

  due_unit : (u line : ℕ) → u < 2 → line ≡ 26 + u → unit_of line ≡ Some u → is_pending chip line ≡ due w s line
  due_unit u line lt at is = wired ∙ pending_as_due ∙ sym (ap (λ o. (not (is_off s.mode) && has_done w.now (run_of s o)) && is_interrupt s.mode) is)
    where
      wired : is_pending chip line ≡ serials.is_done (unit_at chip.serials u) chip.serials.time && (is_interrupt s.mode && not (is_sync_unit d u))
      wired =
          let back : line - 26 ≡ u = omega (arith, at) in
          line-serial chip line (omega (arith, at)) (omega (arith, at, lt))
          ∙ ap (λ n. serials.is_done (unit_at chip.serials n) chip.serials.time && has_bit chip.control.enabled line) back
          ∙ ap (λ q. serials.is_done (unit_at chip.serials u) chip.serials.time && q) (ap (λ n. has_bit chip.control.enabled n) at ∙ h.lines u lt)

      on : has_done w.now (run_at s u) ≡ (not (is_off s.mode) && has_done w.now (run_at s u))
      on = whether_as (is_off s.mode) (λ q. has_done w.now (run_at s u) ≡ (not q && has_done w.now (run_at s u)))
          (λ e. ap (λ r. has_done w.now r) (off_none u e))
          (λ e. refl)

      pending_as_due : serials.is_done (unit_at chip.serials u) chip.serials.time && (is_interrupt s.mode && not (is_sync_unit d u)) ≡ (not (is_off s.mode) && has_done w.now (run_at s u)) && is_interrupt s.mode
      pending_as_due = whether (is_sync_unit d u)
          (λ e.
          ap (λ q. serials.is_done (unit_at chip.serials u) chip.serials.time && (is_interrupt s.mode && not q)) e
          ∙ ap (λ q. serials.is_done (unit_at chip.serials u) chip.serials.time && q) (and_false (is_interrupt s.mode)) ∙ and_false (serials.is_done (unit_at chip.serials u) chip.serials.time)
          ∙ sym (ap (λ r. (not (is_off s.mode) && has_done w.now r) && is_interrupt s.mode) (idle_sync u e) ∙ ap (λ q. q && is_interrupt s.mode) (and_false (not (is_off s.mode)))))
          (λ e.
          let time : chip.serials.time ≡ w.now = h.outside.together.serials ∙ h.outside.now in
          ap (λ q. serials.is_done (unit_at chip.serials u) chip.serials.time && (is_interrupt s.mode && not q)) e
          ∙ ap (λ q. q && (is_interrupt s.mode && true)) (unit_done d (unit_at chip.serials u) (run_at s u) chip.serials.time (h.going u) (h.units u lt e) ∙ ap (λ t. has_done t (run_at s u)) time)
          ∙ ap (λ q. has_done w.now (run_at s u) && q) (and_true (is_interrupt s.mode))
          ∙ ap (λ q. q && is_interrupt s.mode) on)

  pub due_line : (line : ℕ) → (line == 26 || line == 27) ≡ true → is_pending chip line ≡ due w s line
  due_line line e = whether (line == 26)
      (λ i. due_unit 0 line (omega arith) (eq_is line 26 i) (ap unit_of (eq_is line 26 i)))
      (λ i. let f = sym (ap (λ b. b || line == 27) i) ∙ e in due_unit 1 line (omega arith) (eq_is line 27 f) (ap unit_of (eq_is line 27 f)))

  -- a handler serves a unit that runs a job
  runs_used : (u : ℕ) → u < 2 → is_some (run_at s u) ≡ true → has_handler d u ≡ true
  runs_used u lt e = ap (λ q. uses_unit d u && not q) async ∙ ap (λ q. q && true) (by (h.going u) refl (h.units u lt async) (h.nexts u lt))
    where
      async : is_sync_unit d u ≡ false
      async = whether (is_sync_unit d u) (λ i. absurd (let f = sym e ∙ ap is_some (idle_sync u i) in cc)) (λ i. i)

      by : (g : Option Going) → h.going u ≡ g → UnitAgrees d (unit_at chip.serials u) (run_at s u) g → RunsNext d (view s) u g → uses_unit d u ≡ true
      by None i a n = absurd (let f = sym e ∙ ap is_some a.1 in cc)
      by (Some g) i a n = some_at (is_on_unit u) d.jobs (next_job d g.pending) refl n.2

  done_some : (now : ℕ) (r : Option Run) → has_done now r ≡ true → is_some r ≡ true
  done_some now None e = e
  done_some now (Some r) e = refl

  pub due_used : (line : ℕ) → due w s line ≡ true → is_used d line ≡ true
  due_used line e = by (line == 26) (line == 27) refl refl (and_parts (not (is_off s.mode)) (has_done w.now (run_of s (unit_of line))) (and_parts (ready w s line) (is_interrupt s.mode) e).0).1
    where
      by : (p q : Bool) → (line == 26) ≡ p → (line == 27) ≡ q → has_done w.now (run_of s (unit_of line)) ≡ true → is_used d line ≡ true
      by true q i j f = let at : unit_of line ≡ Some 0 = ap (λ b. if b then Some 0 else if line == 27 then Some 1 else None) i in ap (uses_by d) at ∙ runs_used 0 (omega arith) (done_some w.now (run_at s 0) (sym (ap (λ o. has_done w.now (run_of s o)) at) ∙ f))
      by false true i j f = let at : unit_of line ≡ Some 1 = ap (λ b. if b then Some 0 else if line == 27 then Some 1 else None) i ∙ ap (λ b. if b then Some 1 else None) j in ap (uses_by d) at ∙ runs_used 1 (omega arith) (done_some w.now (run_at s 1) (sym (ap (λ o. has_done w.now (run_of s o)) at) ∙ f))
      by false false i j f = let at : unit_of line ≡ None = ap (λ b. if b then Some 0 else if line == 27 then Some 1 else None) i ∙ ap (λ b. if b then Some 1 else None) j in absurd (let g = sym f ∙ ap (λ o. has_done w.now (run_of s o)) at in cc)

  -- one that carries out sequences for calls has nothing to serve
  pub none_served : (u : ℕ) → is_sync_unit d u ≡ true → ready w s (26 + u) ≡ false
  none_served u sync = by u sync
    where
      at : (v : ℕ) → is_sync_unit d v ≡ true → not (is_off s.mode) && has_done w.now (run_at s v) ≡ false
      at v e = ap (λ r. not (is_off s.mode) && has_done w.now r) (idle_sync v e) ∙ and_false (not (is_off s.mode))

      not_line : (n v : ℕ) → n < 28 → (26 + suc (suc v) == n) ≡ false
      not_line n v lt = grind (arith, nat_tests)

      beyond : (v : ℕ) → unit_of (26 + suc (suc v)) ≡ None
      beyond v = ap (λ q. if q then Some 0 else if 26 + suc (suc v) == 27 then Some 1 else None) (not_line 26 v (omega arith)) ∙ ap (λ q. if q then Some 1 else None) (not_line 27 v (omega arith))

      by : (v : ℕ) → is_sync_unit d v ≡ true → ready w s (26 + v) ≡ false
      by zero e = at 0 e
      by (suc zero) e = at 1 e
      by (suc (suc v)) e = ap (λ o. not (is_off s.mode) && has_done w.now (run_of s o)) (beyond v) ∙ and_false (not (is_off s.mode))

  pub unused_line : (line : ℕ) → is_used d line ≡ false → due w s line ≡ false
  unused_line line e = whether (due w s line) (λ i. not_both (is_used d line) (due_used line i) e) (λ i. i)

  -- ---- starts

  none_for : (u : ℕ) → ((p : Pending) → Contains s.pending p → is_for d u p ≡ true → ⊥) → next_on d u s.pending ≡ None
  none_for u none = ap (λ ps. best d ps) (none_filtered s.pending none)
    where
      none_filtered : (ps : List Pending) → ((p : Pending) → Contains ps p → is_for d u p ≡ true → ⊥) → filter (is_for d u) ps ≡ []
      none_filtered [] none = refl
      none_filtered (p ∷ ps) none = whether (is_for d u p)
          (λ e. absurd (none p (0, omega arith, refl) e))
          (λ e. ap (λ b. if b then p ∷ filter (is_for d u) ps else filter (is_for d u) ps) e ∙ (none_filtered ps (λ x there. none x (suc there.0, let lt = there.1 in omega (arith, lt), there.2))))

used_line : (d : SpiTable) (line : ℕ) → is_used d line ≡ true → (line == 26 || line == 27) ≡ true
used_line d line e = whether (line == 26 || line == 27)
    (λ i. i)
    (λ f.
    let p = or_parts (line == 26) (line == 27) f in
    let at : unit_of line ≡ None = ap (λ b. if b then Some 0 else if line == 27 then Some 1 else None) p.0 ∙ ap (λ b. if b then Some 1 else None) p.1 in
    absurd (let g = sym e ∙ ap (uses_by d) at in cc))

-- no unit waits to which no start is owed
pub waits_none : (d : SpiTable) → FitsSpi d → (held : Reservations) (chip : Chip) (w : World) (s : SpiState) (u : ℕ) → u < 2 → is_owed u held ≡ false → SpiRepresents d held chip w s → is_some (next_at d s (Some u)) ≡ false
waits_none d fits held chip w s u lt free h = by (is_off s.mode) (run_at s u) refl
  where
    none : run_at s u ≡ None → (p : Pending) → Contains s.pending p → is_for d u p ≡ true → ⊥
    none e p there for = whether (is_sync_unit d u)
        (λ i. let f = sym (asked_unit d fits (view s) h.sound u p there for) ∙ i in cc)
        (λ i.
        let idle : h.going u ≡ None = some_or_none (h.going u) (λ g j. absurd (let a = subst (λ o. UnitAgrees d (unit_at chip.serials u) (run_at s u) o) j (h.units u lt i) in let f = sym e ∙ a.1 in cc)) (λ j. j) in
        let owed = sym free ∙ h.owed u p lt idle there for in cc)

    by : (q : Bool) (r : Option Run) → run_at s u ≡ r → is_some (if q then None else next_by d s u r) ≡ false
    by false None e = ap is_some (none_for d fits held chip w s h u (none e))
    by _ _ e = refl

waits : (d : SpiTable) → FitsSpi d → (chip : Chip) (w : World) (s : SpiState) (u : units.Unit) → SpiRepresents d [] chip w s → is_some (next_at d s (number_of u)) ≡ false
waits d fits chip w s Spi0 h = waits_none d fits [] chip w s 0 (omega arith) refl h
waits d fits chip w s Spi1 h = waits_none d fits [] chip w s 1 (omega arith) refl h
waits d fits chip w s _ h = refl

pub bare_right : (d : SpiTable) → FitsSpi d → IsBasis (spi_bare d)
bare_right d fits = record {
  starts = λ chip w wired stands. reset_agrees d fits chip w PowerOn stands wired;
  moves = λ held chip w s order come. refl;
  resets = λ held gap chip w s reason h. (outcome first_state tells_nothing, refl, reset_agrees d fits chip w reason h.outside h.wired);
  agrees_later = λ held gap chip w s order come shut h. later_agrees d fits held chip w s order come h;
  agrees_apart = λ held chip w s made received e h. apart_agrees d fits held chip w s made received (e (Called Init)) h;
  may_owns = λ o made e. (frame_parts d o made e).0;
  owns_plain = λ o made e. owned_plain d made e;
  may_there = λ o made e. move_there made (frame_parts d o made e).1;
  enables = λ o bits line e other. other_line bits line (and_parts (is_for_lines bits) true e).0 other;
  loads = λ origin value h. h;
  watched = λ held gap chip w s has osc h. cc;
  unwatched = λ w s none. refl;
  owns_called = λ line made e. (Init, e);
  used_lines = λ line e. used_line d line e;
  due_used = λ held chip w s line h e. due_used d fits held chip w s h line e;
  pends = λ held chip w s line there h e. due_line d fits held chip w s h line there ∙ e;
  rests = λ chip w s line there h. due_line d fits [] chip w s h line there;
  unused = λ held chip w s line there h free. due_line d fits held chip w s h line there ∙ unused_line d fits held chip w s h line free;
  unmasked = λ held chip w s origins among h. h.arrays;
  rest = λ chip w s h. h.arrays;
  waits = λ chip w s u h. waits d fits chip w s u h;
  error_leaves = λ w s call times out e. act-leaves d w s call times out e;
  count_first = refl;
  count_happens = λ w s h out e. omega arith;
  count_moves = λ w s order out e. omega arith;
  count_resets = λ w s reason out e. omega arith;
  rated = Steady (λ chip o made received e. rate-left chip made received (frame_plain d o made e).1) (λ w s h out e. refl);
  rate_starts = refl;
  rate_moves = λ w s order out e. refl;
  rate_resets = λ chip w s reason out e. refl;
}
