-- The agreement by its parts: what a move leaves of the block, the words and the lines.
-- From ChannelTimes, module_machines: gpt.Channels, service_outline: SweepWords.
-- Used by Mode, Start, DeInit, Stop, Switch and 5 more.
use Rattle.std.proofs.Common.{◌≡◌, ℕ, ◌*◌, ◌%◌, ◌<◌, ◌≤◌, ◌≢◌, ◌^◌, Bool, true, false, [], length, refl, sym, ◌∙◌, ap, subst, arith}
use Rattle.std.specs.Prelude.{if◌then◌else◌}
use Rattle.gpt_driver.specs.laws.Base.{lt-ltb, Chip, chip_after, word_of, HasAll, Made, word-left, word-stored, Timers, timer_at, with_timer, acted, acting, counter, is_running, is_flagged, Timer, timer_at-acted_on, timer_at-acted_off, timer_at-with_timer_same, timer_at-with_timer_other, has_bit, Move, TimerGateSet, TimerGateClear, TimerFlags, TimerZero, World, StandsIn, stands-move, each_but, Lag, settled, none, only, behind, TimerAgrees, BlockAgrees, Word, TheState, TargetOf, SwitchesOf, number_of, IsWord, value_in, WordsAgree, LinesAgree, GptRepresents, GptState, channel_at, first_state, Timing, Mode, untouched, is_off, elapsed, target_of, runs, is_marked, with_channel, switches, channel_of, bit, target_word, switches_word, packed, switches_of, GptTable, Switches, STATE, LAST_WORD, Unflags, Opens, Shuts, Zeroes, Store, Write}
use Rattle.std.proofs.lemmas.Bool.{ne_eqb}
use Rattle.chip_blocks.specs.declared.timers.timer.Act.{Act}
use Rattle.mcal_base.proofs.BitLaws.{has_bit-pow_same, has_bit-pow_other, one_shifted}
use Rattle.mcal_base.specs.declared.TheConstants.{WORDS}
use Rattle.module_machines.specs.gpt.laws.Channels.{channel_same, channel_other}
use Rattle.gpt_driver.specs.laws.ChannelTimes.{running_is, counter_is, flagged_is}

-- ---- numbers

-- the bit of a channel is its alone
bit_is : (c : ℕ) → c < 8 → bit c ≡ 2 ^ c
bit_is c lt = ap (λ q. if q then 2 ^ c else 0) (lt-ltb c 32 (omega (arith, lt)))

pub bit_shifted : (c : ℕ) → c < 8 → bit c ≡ 1 * 2 ^ c % 2 ^ 32
bit_shifted c lt = let few : c < 32 = omega (arith, lt) in bit_is c lt ∙ sym (one_shifted c few)

pub has_one : (c : ℕ) → c < 8 → has_bit (bit c) c ≡ true
has_one c lt = ap (λ x. has_bit x c) (bit_is c lt) ∙ has_bit-pow_same c

pub has_other : (c k : ℕ) → c < 8 → k ≢ c → has_bit (bit c) k ≡ false
has_other c k lt ne = ap (λ x. has_bit x k) (bit_is c lt) ∙ has_bit-pow_other c k ne

-- the switches that stand in a word
pub unpacked : (x : Switches) → switches_of (packed x) ≡ x
unpacked x = unpack x.notification x.wakeup x.woken
  where
    unpack : (a b c : Bool) → switches_of (packed (record { notification = a; wakeup = b; woken = c })) ≡ record { notification = a; wakeup = b; woken = c }
    unpack true true true = refl
    unpack true false true = refl
    unpack false true true = refl
    unpack false false true = refl
    unpack _ _ _ = refl

-- ---- the words

-- where they stand, and that they are 0 at first
pub word_at : (x : Word) → IsWord x → (STATE ≤ number_of x) × (number_of x ≤ LAST_WORD)
word_at TheState there = (omega arith, omega arith)
word_at _ there = (omega (arith, there), omega (arith, there))

pub first_value : (x : Word) → 0 ≡ value_in first_state x
first_value TheState = refl
first_value _ = refl

-- words of one number are one word
same_word : (s : GptState) (x y : Word) → IsWord x → IsWord y → number_of y ≡ number_of x → value_in s x ≡ value_in s y
same_word s TheState TheState i j e = refl
same_word s (TargetOf c) (TargetOf k) i j e = let is : c ≡ k = omega (arith, e) in ap (λ n. target_of (channel_at s n).course) is
same_word s (SwitchesOf c) (SwitchesOf k) i j e = let is : c ≡ k = omega (arith, e) in ap (λ n. packed (channel_at s n).switches) is
same_word s _ _ i j e = absurd (omega arith)

-- a channel of an initialised module may be touched
pub never_off : (m : Mode) {A : Type 0} → is_off m ≡ false → is_off m ≡ true → A
never_off m on off = absurd (cc)

module _ (d : GptTable) where
  -- ---- a channel of the block, at this time

  module _ (chip : Chip) (w : World) (s : GptState) (gap : Lag) (h : GptRepresents d gap chip w s) (c : ℕ) (lt : c < 8) (closed : gap.block c ≡ false) where
    pub runs_here : is_running (timer_at chip.timers c) chip.timers.time ≡ runs (channel_of d c) w.now (channel_at s c).course
    runs_here = running_is (channel_of d c) _ _ _ (h.block c lt closed) chip.timers.time ∙ ap (λ n. runs (channel_of d c) n (channel_at s c).course) h.outside.now

    pub elapsed_here : counter (timer_at chip.timers c) chip.timers.time ≡ elapsed (channel_of d c) w.now (channel_at s c).course
    elapsed_here = counter_is (channel_of d c) _ _ _ (h.block c lt closed) chip.timers.time ∙ ap (λ n. elapsed (channel_of d c) n (channel_at s c).course) h.outside.now

    pub marked_here : is_flagged (timer_at chip.timers c) chip.timers.time ≡ is_marked (channel_of d c) w.now (channel_at s c)
    marked_here = flagged_is (channel_of d c) _ _ _ (h.block c lt closed) chip.timers.time ∙ ap (λ n. is_marked (channel_of d c) n (channel_at s c)) h.outside.now

  -- ---- what an act on some channels leaves of the block

  pub block_acted : (act : Act) (b : Timers) (bits : ℕ) (open1 : ℕ → Bool) (s1 : GptState) → length b.timers ≡ 8 → ((c : ℕ) → c < 8 → open1 c ≡ false → (has_bit bits c ≡ true) → TimerAgrees (channel_of d c) (has_bit b.one_shot c) (acting act (has_bit b.one_shot c) b.time (timer_at b c)) (channel_at s1 c)) → ((c : ℕ) → c < 8 → open1 c ≡ false → has_bit bits c ≡ false → TimerAgrees (channel_of d c) (has_bit b.one_shot c) (timer_at b c) (channel_at s1 c)) → BlockAgrees d open1 (acted act b bits) s1
  block_acted act b bits open1 s1 size on off c lt closed = by_bit (has_bit bits c) refl
    where
      by_bit : (q : Bool) → has_bit bits c ≡ q → TimerAgrees (channel_of d c) (has_bit b.one_shot c) (timer_at (acted act b bits) c) (channel_at s1 c)
      by_bit true e = subst (λ t. TimerAgrees (channel_of d c) (has_bit b.one_shot c) t (channel_at s1 c)) (sym (timer_at-acted_on act b bits c (record { all = size; within = lt }) e)) (on c lt closed e)
      by_bit false e = subst (λ t. TimerAgrees (channel_of d c) (has_bit b.one_shot c) t (channel_at s1 c)) (sym (timer_at-acted_off act b bits c (record { all = size; within = lt }) e)) (off c lt closed e)

  -- an act on one channel, which the others don't feel
  pub one_acted : (act : Act) (chip : Chip) (w : World) (s s1 : GptState) (gap : Lag) (open1 : ℕ → Bool) (c : ℕ) → c < 8 → GptRepresents d gap chip w s → (open1 c ≡ false → TimerAgrees (channel_of d c) (has_bit chip.timers.one_shot c) (acting act (has_bit chip.timers.one_shot c) chip.timers.time (timer_at chip.timers c)) (channel_at s1 c)) → ((k : ℕ) → k < 8 → k ≢ c → open1 k ≡ false → (gap.block k ≡ false) × (channel_at s1 k ≡ channel_at s k)) → BlockAgrees d open1 (acted act chip.timers (bit c)) s1
  one_acted act chip w s s1 gap open1 c lt h new same = block_acted act chip.timers (bit c) open1 s1 h.outside.all.timers (λ k below closed e. subst (λ i. TimerAgrees (channel_of d i) (has_bit chip.timers.one_shot i) (acting act (has_bit chip.timers.one_shot i) chip.timers.time (timer_at chip.timers i)) (channel_at s1 i)) (sym (hits k e)) (new (subst (λ i. open1 i ≡ false) (hits k e) closed))) (λ k below closed e. let o = same k below (misses k e) closed in subst (λ x. TimerAgrees (channel_of d k) (has_bit chip.timers.one_shot k) (timer_at chip.timers k) x) (sym o.1) (h.block k below o.0))
    where
      hits : (k : ℕ) → has_bit (bit c) k ≡ true → k ≡ c
      hits k = each_but (λ i. has_bit (bit c) i ≡ true → i ≡ c) c (λ e. refl) k (λ ne e. absurd (let f = has_other c k lt ne in cc))

      misses : (k : ℕ) → has_bit (bit c) k ≡ false → k ≢ c
      misses k e i = let f : has_bit (bit c) k ≡ true = subst (λ j. has_bit (bit c) j ≡ true) (sym i) (has_one c lt) in cc

  -- a register of a channel that counts for its next start alone
  pub block_set : (chip : Chip) (w : World) (s : GptState) (c : ℕ) (t : Timer) → c < 8 → GptRepresents d settled chip w s → (TimerAgrees (channel_of d c) (has_bit chip.timers.one_shot c) (timer_at chip.timers c) (channel_at s c) → TimerAgrees (channel_of d c) (has_bit chip.timers.one_shot c) t (channel_at s c)) → BlockAgrees d none (with_timer chip.timers c t) s
  block_set chip w s c t lt h new k below closed =
      each_but (λ i. TimerAgrees (channel_of d i) (has_bit chip.timers.one_shot i) (timer_at (with_timer chip.timers c t) i) (channel_at s i)) c
      (subst (λ x. TimerAgrees (channel_of d c) (has_bit chip.timers.one_shot c) x (channel_at s c)) (sym (timer_at-with_timer_same chip.timers c t (record { all = h.outside.all.timers; within = lt }))) (new (h.block c lt refl))) k
      (λ ne. subst (λ x. TimerAgrees (channel_of d k) (has_bit chip.timers.one_shot k) x (channel_at s k)) (sym (timer_at-with_timer_other chip.timers c k t ne)) (h.block k below closed))

  -- ---- a word that is stored

  pub words_stored : (chip : Chip) (s : GptState) (before after : ℕ → Bool) (j v : ℕ) → j < WORDS → HasAll chip → WordsAgree before chip s → ((x : Word) → IsWord x → number_of x ≡ j → v ≡ value_in s x) → ((x : Word) → IsWord x → number_of x ≢ j → after (number_of x) ≡ false → before (number_of x) ≡ false) → WordsAgree after (chip_after chip (Store j v) 0) s
  words_stored chip s before after j v lt all h hit miss x there closed =
      each_but (λ i. number_of x ≡ i → word_of (chip_after chip (Store j v) 0) i ≡ value_in s x) j
      (λ e. word-stored chip j v 0 [] all lt tt ∙ hit x there e) (number_of x)
      (λ ne e. word-left (number_of x) chip (Made (Store j v) 0) (λ i. ne (sym i)) ∙ h x there (miss x there ne closed)) refl

  -- the one word that is behind is stored
  pub caught_up : (chip : Chip) (w : World) (s : GptState) (x : Word) (v : ℕ) → IsWord x → v ≡ value_in s x → GptRepresents d (behind (number_of x)) chip w s → GptRepresents d settled (chip_after chip (Store (number_of x) v) 0) w s
  caught_up chip w s x v there is h = record {
    outside = stands-move chip w (Store (number_of x) v) 0 h.outside;
    block = h.block;
    words = words_stored chip s (only (number_of x)) none (number_of x) v (let at = (word_at x there).1 in omega (arith, at)) h.outside.all h.words (λ y i e. is ∙ same_word s x y there i e) (λ y i ne closed. ne_eqb (number_of y) (number_of x) ne);
    lines = h.lines;
    clean = h.clean;
  }

  -- ---- one channel changed in the machine

  pub words_with : (chip : Chip) (s : GptState) (after : ℕ → Bool) (c : ℕ) (x : Timing) → c < 8 → WordsAgree none chip s → (after (target_word c) ≡ false → target_of x.course ≡ target_of (channel_at s c).course) → (after (switches_word c) ≡ false → x.switches ≡ (channel_at s c).switches) → WordsAgree after chip (with_channel s c x)
  words_with chip s after c x lt h target switches TheState there closed = h TheState tt refl
  words_with chip s after c x lt h target switches (TargetOf k) there closed =
      each_but (λ i. after (target_word i) ≡ false → word_of chip (target_word i) ≡ target_of (channel_at (with_channel s c x) i).course) c
      (λ g. h (TargetOf c) lt refl ∙ sym (ap (λ y. target_of y.course) (channel_same s c x lt) ∙ target g)) k
      (λ ne g. h (TargetOf k) there refl ∙ sym (ap (λ y. target_of y.course) (channel_other s c k x there ne))) closed
  words_with chip s after c x lt h target switches (SwitchesOf k) there closed =
      each_but (λ i. after (switches_word i) ≡ false → word_of chip (switches_word i) ≡ packed (channel_at (with_channel s c x) i).switches) c
      (λ g. h (SwitchesOf c) lt refl ∙ sym (ap (λ y. packed y.switches) (channel_same s c x lt) ∙ ap (λ y. packed y) (switches g))) k
      (λ ne g. h (SwitchesOf k) there refl ∙ sym (ap (λ y. packed y.switches) (channel_other s c k x there ne))) closed

  -- ---- an act on one channel, in the whole agreement: the machine changes the channel too, or it doesn't

  pub stands_acted : (act : Act) (chip : Chip) (w : World) (bits : ℕ) → StandsIn chip w → StandsIn (record chip { timers = acted act chip.timers bits }) w
  stands_acted Opens chip w bits h = stands-move chip w (Write TimerGateSet bits) 0 h
  stands_acted Shuts chip w bits h = stands-move chip w (Write TimerGateClear bits) 0 h
  stands_acted Zeroes chip w bits h = stands-move chip w (Write TimerZero bits) 0 h
  stands_acted Unflags chip w bits h = stands-move chip w (Write TimerFlags bits) 0 h

  pub acted_with : (act : Act) (chip : Chip) (w : World) (s : GptState) (c : ℕ) (x : Timing) (before open1 after : ℕ → Bool) → c < 8 → is_off s.mode ≡ false → GptRepresents d (record settled { block = before }) chip w s → (open1 c ≡ false → TimerAgrees (channel_of d c) (has_bit chip.timers.one_shot c) (acting act (has_bit chip.timers.one_shot c) chip.timers.time (timer_at chip.timers c)) x) → ((k : ℕ) → k ≢ c → open1 k ≡ false → before k ≡ false) → (after (target_word c) ≡ false → target_of x.course ≡ target_of (channel_at s c).course) → (after (switches_word c) ≡ false → x.switches ≡ (channel_at s c).switches) → GptRepresents d (record settled { block = open1; words = after }) (record chip { timers = acted act chip.timers (bit c) }) w (with_channel s c x)
  acted_with act chip w s c x before open1 after lt on h new rest target switches = record {
    outside = stands_acted act chip w (bit c) h.outside;
    block = one_acted act chip w s (with_channel s c x) (record settled { block = before }) open1 c lt h (λ g. subst (λ y. TimerAgrees (channel_of d c) (has_bit chip.timers.one_shot c) (acting act (has_bit chip.timers.one_shot c) chip.timers.time (timer_at chip.timers c)) y) (sym (channel_same s c x lt)) (new g)) (λ k below ne g. (rest k ne g, channel_other s c k x below ne));
    words = words_with chip s after c x lt h.words target switches;
    lines = h.lines;
    clean = never_off s.mode on;
  }

  pub acted_here : (act : Act) (chip : Chip) (w : World) (s : GptState) (c : ℕ) (before open1 : ℕ → Bool) → c < 8 → GptRepresents d (record settled { block = before }) chip w s → (open1 c ≡ false → TimerAgrees (channel_of d c) (has_bit chip.timers.one_shot c) (acting act (has_bit chip.timers.one_shot c) chip.timers.time (timer_at chip.timers c)) (channel_at s c)) → ((k : ℕ) → k ≢ c → open1 k ≡ false → before k ≡ false) → GptRepresents d (record settled { block = open1 }) (record chip { timers = acted act chip.timers (bit c) }) w s
  acted_here act chip w s c before open1 lt h new rest = record {
    outside = stands_acted act chip w (bit c) h.outside;
    block = one_acted act chip w s s (record settled { block = before }) open1 c lt h new (λ k below ne g. (rest k ne g, refl));
    words = h.words;
    lines = h.lines;
    clean = h.clean;
  }

  -- after a move, by its parts
  pub moved : (made : Move) (chip : Chip) (w : World) (s s1 : GptState) (gap gap1 : Lag) → GptRepresents d gap chip w s → BlockAgrees d gap1.block (chip_after chip made 0).timers s1 → WordsAgree gap1.words (chip_after chip made 0) s1 → LinesAgree gap1.lines s1.mode (chip_after chip made 0).control.enabled → (is_off s1.mode ≡ true → (c : ℕ) → channel_at s1 c ≡ untouched) → GptRepresents d gap1 (chip_after chip made 0) w s1
  moved made chip w s s1 gap gap1 h block words lines clean = record { outside = stands-move chip w made 0 h.outside; block = block; words = words; lines = lines; clean = clean }
