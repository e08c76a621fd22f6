-- What holds of a call about a channel before it acts, and what an act does to the channel.
-- From One, Steady, RefinementRight.
-- Used by Gate, Stamp, Measure, Count, KeepRight and 9 more.
use Rattle.std.proofs.Common.{◌≡◌, ◌<◌, ◌&&◌, ◌||◌, ◌∙◌}
use Rattle.icu_driver.specs.Terms
use Terms.{Acts, acts_by, answers, ap, arith, asked, bare, bare_block, behind, Bool, Capture, capture_at, Captures}
use Terms.{Channel, channel_answer, channel_of, channel_work, ChannelCall, ChannelWords, chip_capture, closed}
use Terms.{counts_edges, EdgeCounter, emptying, eq_other, error_by, false, get_or-map, happens, HasPlace, HasTurns, IcuTable, IcuMeasurementMode, IcuState, is_counter, is_detection, is_measurement, is_own_word, is_some, is_stamp, is_timestamp, IsCourse, length, ModeWords, nat_lt, nat_tests, None, not, off_on, opening, Option, outcome, own_word, refl, SignalEdgeDetect, SignalMeasurement, Some, STATE, subst, suits, switched, sym, Timestamp, true, with_capture, word, World, ℕ}
use Rattle.icu_driver.specs.laws.{One.{IsAt, IsRow, apart_words}, Steady.{without_edges, calm_at}}
use Rattle.module_machines.specs.declared.icu.call.Call.TheVariants as calls

-- the call names a channel that is for it, and shows no error while the module is on
pub record MayCall (d : IcuTable) (c : ℕ) (call : ChannelCall) : Type 0 where
  pub lt : c < 8
  pub channel : Channel
  pub known : channel_of d c ≡ Some channel
  pub suited : suits call channel ≡ true
  pub pass : (on : Bool) → error_by d (calls.Channel c call) false on ≡ None

-- what it does when it acts
pub acts_is : (d : IcuTable) (w : World) (s : IcuState) (c : ℕ) (call : ChannelCall) (times : ℕ → ℕ) (i : MayCall d c call) → s.initialised ≡ true → happens d w s (Acts (calls.Channel c call) times) ≡ Some (outcome (with_capture s c (channel_work call (capture_at s c))) (answers (channel_answer i.channel call (capture_at s c))))
acts_is d w s c call times i on = ap (λ u. Some (acts_by d s (calls.Channel c call) (error_by d (calls.Channel c call) (not u) (capture_at s c).on))) on ∙ (ap (λ e. Some (acts_by d s (calls.Channel c call) e)) (i.pass (capture_at s c).on) ∙ ap (λ k. Some (asked k s c call)) i.known)

-- ---- the modes of channels

pub detects : (m : IcuMeasurementMode) → is_detection m ≡ true → m ≡ SignalEdgeDetect
detects SignalEdgeDetect e = refl
detects EdgeCounter e = off_on e
detects Timestamp e = off_on e
detects SignalMeasurement e = off_on e

pub counts : (m : IcuMeasurementMode) → is_counter m ≡ true → m ≡ EdgeCounter
counts SignalEdgeDetect e = off_on e
counts EdgeCounter e = refl
counts Timestamp e = off_on e
counts SignalMeasurement e = off_on e

pub stamps : (m : IcuMeasurementMode) → is_timestamp m ≡ true → m ≡ Timestamp
stamps SignalEdgeDetect e = off_on e
stamps EdgeCounter e = off_on e
stamps Timestamp e = refl
stamps SignalMeasurement e = off_on e

pub measures : (m : IcuMeasurementMode) → is_measurement m ≡ true → m ≡ SignalMeasurement
measures SignalEdgeDetect e = off_on e
measures EdgeCounter e = off_on e
measures Timestamp e = off_on e
measures SignalMeasurement e = refl

-- ---- a channel by its mode

module _ (d : IcuTable) (c : ℕ) (k : Channel) (known : channel_of d c ≡ Some k) where
  module _ (m : IcuMeasurementMode) (is : k.mode ≡ m) (at : ℕ → ℕ) (behind : ℕ → Bool) (x : Capture) where
    pub to_mode : ChannelWords (channel_of d c) at behind c x → ModeWords m at behind c k x
    to_mode h = subst (λ z. ModeWords z at behind c k x) is (subst (λ z. ChannelWords z at behind c x) known h)

    pub from_mode : ModeWords m at behind c k x → ChannelWords (channel_of d c) at behind c x
    from_mode h = subst (λ z. ChannelWords z at behind c x) (sym known) (subst (λ z. ModeWords z at behind c k x) (sym is) h)

  pub is_there : is_some (channel_of d c) ≡ true
  is_there = ap (λ z. is_some z) known

  pub counting : counts_edges (channel_of d c) ≡ is_counter k.mode
  counting = ap (λ z. counts_edges z) known

  -- one that stamps nothing has its place, and one that measures nothing its turns
  pub place_by : (x : Capture) → is_timestamp k.mode ≡ false → HasPlace (channel_of d c) x
  place_by x e = subst (λ z. HasPlace z x) (sym known) (λ m on. off_on (sym e ∙ ap (λ z. is_timestamp z) m))

  pub turns_by : (w : World) (x : Capture) → is_measurement k.mode ≡ false → HasTurns (channel_of d c) w x
  turns_by w x e = subst (λ z. HasTurns z w x) (sym known) (λ m on. off_on (sym e ∙ m))

-- ---- a channel that is switched

pub switched_course : (k : Option Channel) (q : Bool) (x : Capture) → IsCourse k x → IsCourse k (switched q x)
switched_course k q x h = record { room = omega arith; times = tt; counter = λ f. (refl, refl); off = λ f. (refl, refl); start = h.start; count = h.count; unstarted = h.unstarted; uncounted = h.uncounted }

pub off_place : (k : Option Channel) (x : Capture) → x.on ≡ false → HasPlace k x
off_place None x e = tt
off_place (Some k) x e = λ m on. off_on (sym e ∙ on)

pub off_turns : (k : Option Channel) (w : World) (x : Capture) → x.on ≡ false → HasTurns k w x
off_turns None w x e = tt
off_turns (Some k) w x e = λ m on. off_on (sym e ∙ on)

-- ---- what is under work at a channel

pub opening_at : (c : ℕ) → IsAt c (opening c)
opening_at c = record { gates = λ k ne. eq_other k c ne; queues = λ k ne. eq_other k c ne; counts = λ k ne. refl; words = λ first k r lt ne. refl; state = refl; stamps = λ k i ne. refl; moded = refl; lines = refl }

pub emptying_at : (c : ℕ) → IsAt c (emptying c)
emptying_at c = record { gates = λ k ne. refl; queues = λ k ne. eq_other k c ne; counts = λ k ne. refl; words = λ first k r lt ne. refl; state = refl; stamps = λ k i ne. refl; moded = refl; lines = refl }

pub behind_at : (first c : ℕ) → IsRow first → c < 8 → IsAt c (behind (word first c))
behind_at first c row lt = record { gates = λ k ne. refl; queues = λ k ne. refl; counts = λ k ne. refl; words = λ other k r few ne. eq_other (word other k) (word first c) (apart_words other first k c r row few lt ne); state = let a = row.1 in eq_other STATE (word first c) (λ e. absurd (omega (arith, a, e))); stamps = λ k i ne. refl; moded = refl; lines = refl }

-- ---- what stays of block and state

pub bare_at : (b : Captures) (c : ℕ) → length b.captures ≡ 8 → c < 8 → chip_capture (bare_block b) c ≡ bare (chip_capture b c)
bare_at b c size lt = get_or-map bare b.captures c closed closed (omega (arith, size, lt))

pub calm_on : (s : IcuState) (c : ℕ) → c < 8 → (capture_at (without_edges s) c).on ≡ (capture_at s c).on
calm_on s c lt = ap (λ x. x.on) (calm_at s c lt)

-- a word of a row may be named
pub may_row : (d : IcuTable) (first c : ℕ) → IsRow first → c < 8 → (is_own_word d (word first c) || is_stamp d (word first c)) && nat_lt (word first c) 147456 ≡ true
may_row d first c row lt =
    let a = row.1 in
    let b = row.2 in
    ap (λ q. (q || is_stamp d (word first c)) && nat_lt (word first c) 147456) (own_word d (word first c) (omega (arith, a)) (omega (arith, b, lt))) ∙ there (word first c) (omega (arith, b, lt))
  where
    there : (j : ℕ) → j < 147456 → nat_lt j 147456 ≡ true
    there j e = grind (arith, nat_tests)
