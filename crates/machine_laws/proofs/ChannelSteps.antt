-- What a happening makes of one channel of the timers.
use Rattle.std.proofs.Common.{◌≡◌, ℕ, ◌<◌, ◌==◌, Bool, true, false, not, List, [], ◌∷◌, Option, Some, None, refl, sym, ◌∙◌, ap, subst, arith}
use Rattle.std.specs.List.{list_all}
use Rattle.std.specs.Prelude.{if◌then◌else◌}
use Rattle.std.proofs.lemmas.Bool.Decides.{nat_tests}
use Rattle.std.proofs.lemmas.Bool.{and_parts}
use Rattle.mcal_base.specs.facts.Numbers.{eq_self}
use Rattle.mcal_base.specs.declared.error_name.ErrorName.{ErrorName}
use Rattle.run_model.specs.Frame.{state_by}
use Rattle.run_model.specs.Machine.{Happening, Acts, Serves, Starts, Aborts, Moves, Restarts}
use Rattle.run_model.specs.World.{World}
use Rattle.module_machines.specs.gpt.Checks.{error_by}
use Rattle.module_machines.specs.gpt.Machine.{GptState, Timing, channel_at, untouched, is_off, is_asleep, is_busy, started, stopped, slept, changed, with_channel, wakes, notifies, served_channel, served_by, served, ready, switches, acts_by}
use Rattle.module_machines.specs.gpt.Table.{channel_of}
use Rattle.module_machines.specs.declared.gpt.call.Call.{Call}
use Rattle.module_machines.specs.declared.gpt.call.Call.TheVariants.{Init, DeInit, SetMode}
use Rattle.module_machines.specs.declared.gpt.call.Call.TheVariants as calls
use Rattle.module_machines.specs.declared.gpt.call.ChannelCall.TheVariants.{GetTimeElapsed, GetTimeRemaining, StartTimer, StopTimer}
use Rattle.module_machines.specs.declared.gpt.call.ChannelCall.TheVariants as asks
use Rattle.module_machines.specs.declared.gpt.call.Change.{Change}
use Rattle.module_machines.specs.declared.gpt.call.GptMode.TheVariants as modes
use Rattle.module_machines.specs.declared.gpt.table.Channel.{Channel}
use Rattle.module_machines.specs.declared.gpt.table.GptTable.{GptTable}
use Rattle.module_machines.specs.gpt.laws.Channels.{table_at}
use Rattle.machine_laws.specs.timers.Channels.{Occurrence, state_after, after_all, leaves_module}

-- ---- what it may make of a channel, where it doesn't leave it

pub data Makes (d : GptTable) (w : World) (t : Timing) (c : ℕ) : Happening Call → Timing → Type 0 where
  begins : {h : Happening Call} → leaves_module h ≡ false → Makes d w t c h untouched
  starts : (v : ℕ) (times : ℕ → ℕ) → Makes d w t c (Acts (calls.Channel c (StartTimer v)) times) (started w.now v t)
  stops : (times : ℕ → ℕ) → Makes d w t c (Acts (calls.Channel c StopTimer) times) (stopped (channel_of d c) w.now t)
  sleeps : (times : ℕ → ℕ) → Makes d w t c (Acts (SetMode (Some modes.Sleep)) times) (slept (channel_of d c) w.now t)
  switched : (by : Change) (times : ℕ → ℕ) → Makes d w t c (Acts (calls.Channel c (asks.Change by)) times) (record t { switches = changed by t.switches })
  serves : (wakes : Bool) (received : ℕ) → Makes d w t c (Serves c received) (served_channel wakes w.now t)

-- ---- a channel that was put

are_same : (c n : ℕ) → (c == n) ≡ true → n ≡ c
are_same c n e = grind (arith, nat_tests)

pub put_at : (s : GptState) (n c : ℕ) (x : Timing) → c < 8 → channel_at (with_channel s n x) c ≡ (if c == n then x else channel_at s c)
put_at s n c x lt = table_at (λ k. if k == n then x else channel_at s k) c lt

pub put_same : (s : GptState) (c : ℕ) (x : Timing) → c < 8 → channel_at (with_channel s c x) c ≡ x
put_same s c x lt = put_at s c c x lt ∙ ap (λ q. if q then x else channel_at s c) (eq_self c)

-- where it is another one, the channel is as it was
put : (P : Timing → Type 0) (s : GptState) (n c : ℕ) (x : Timing) → c < 8 → (n ≡ c → P x) → P (channel_at s c) → P (channel_at (with_channel s n x) c)
put P s n c x lt here there = subst P (sym (put_at s n c x lt)) (by (c == n) refl) where
  by : (q : Bool) → (c == n) ≡ q → P (if q then x else channel_at s c)
  by true e = here (are_same c n e)
  by false e = there

-- ---- a step

module _ (P : Timing → Type 0) (d : GptTable) (w : World) (s : GptState) (c : ℕ) (lt : c < 8) (stays : P (channel_at s c)) where
  switches_make : (o : Option Channel) (n : ℕ) (by : Change) (times : ℕ → ℕ)
      → ((y : Timing) → Makes d w (channel_at s c) c (Acts (calls.Channel n (asks.Change by)) times) y → P y)
      → P (channel_at (switches o s n by).state c)
  switches_make None n by times made = stays
  switches_make (Some k) n by times made =
      put P s n c (record (channel_at s n) { switches = changed by (channel_at s n).switches }) lt
      (λ at. subst (λ i. ((y : Timing) → Makes d w (channel_at s c) c (Acts (calls.Channel i (asks.Change by)) times) y → P y) → P (record (channel_at s i) { switches = changed by (channel_at s i).switches })) (sym at)
      (λ f. f _ (switched by times)) made)
      stays

  acts_make : (call : Call) (times : ℕ → ℕ) (e : Option ErrorName) → ((y : Timing) → Makes d w (channel_at s c) c (Acts call times) y → P y) → P (channel_at (acts_by d w s call e).state c)
  acts_make call times (Some e) made = stays
  acts_make Init times None made = made untouched (begins refl)
  acts_make DeInit times None made = made untouched (begins refl)
  acts_make (SetMode None) times None made = stays
  acts_make (SetMode (Some modes.Normal)) times None made = stays
  acts_make (SetMode (Some modes.Sleep)) times None made =
      subst P (sym (table_at (λ i. slept (channel_of d i) w.now (channel_at s i)) c lt)) (made _ (sleeps times))
  acts_make (calls.Channel n GetTimeElapsed) times None made = stays
  acts_make (calls.Channel n GetTimeRemaining) times None made = stays
  acts_make (calls.Channel n (StartTimer v)) times None made =
      put P s n c (started w.now v (channel_at s n)) lt
      (λ at. subst (λ i. ((y : Timing) → Makes d w (channel_at s c) c (Acts (calls.Channel i (StartTimer v)) times) y → P y) → P (started w.now v (channel_at s i))) (sym at)
      (λ f. f _ (starts v times)) made)
      stays
  acts_make (calls.Channel n StopTimer) times None made =
      put P s n c (stopped (channel_of d n) w.now (channel_at s n)) lt
      (λ at. subst (λ i. ((y : Timing) → Makes d w (channel_at s c) c (Acts (calls.Channel i StopTimer) times) y → P y) → P (stopped (channel_of d i) w.now (channel_at s i))) (sym at)
      (λ f. f _ (stops times)) made)
      stays
  acts_make (calls.Channel n (asks.Change by)) times None made = switches_make (channel_of d n) n by times made

  served_make : (line received : ℕ) (a b : Bool) → ((y : Timing) → Makes d w (channel_at s c) c (Serves line received) y → P y) → P (channel_at (served_by w s line a b).state c)
  served_make line received true b made =
      put P s line c (served_channel true w.now (channel_at s line)) lt
      (λ at. subst (λ i. ((y : Timing) → Makes d w (channel_at s c) c (Serves i received) y → P y) → P (served_channel true w.now (channel_at s i))) (sym at) (λ f. f _ (serves true received)) made)
      stays
  served_make line received false b made =
      put P s line c (served_channel false w.now (channel_at s line)) lt
      (λ at. subst (λ i. ((y : Timing) → Makes d w (channel_at s c) c (Serves i received) y → P y) → P (served_channel false w.now (channel_at s i))) (sym at) (λ f. f _ (serves false received)) made)
      stays

  serves_make : (line received : ℕ) (q : Bool) → ((y : Timing) → Makes d w (channel_at s c) c (Serves line received) y → P y) → P (channel_at (state_by s (if q then Some (served w s line) else None)) c)
  serves_make line received true made = served_make line received (wakes s.mode (channel_at s line).switches) (notifies s.mode (channel_at s line).switches) made
  serves_make line received false made = stays

  -- what holds of the channel holds after a happening, if it holds of all that it may make of it
  pub step : (h : Happening Call) → ((y : Timing) → Makes d w (channel_at s c) c h y → P y) → P (channel_at (state_after d w s h) c)
  step (Acts call times) made = acts_make call times (error_by d call (is_off s.mode) (is_asleep s.mode) (is_busy d w s call)) made
  step (Serves line received) made = serves_make line received (ready d w s line) made
  step (Starts u made_by received) made = stays
  step (Aborts u) made = stays
  step (Moves order) made = stays
  step (Restarts reason) made = made untouched (begins refl)

-- ---- the module stays initialised

acts_on : (d : GptTable) (w : World) (s : GptState) (call : Call) (times : ℕ → ℕ) (e : Option ErrorName) → leaves_module (Acts call times) ≡ true → is_off s.mode ≡ false → is_off (acts_by d w s call e).state.mode ≡ false
acts_on d w s call times (Some e) left on = on
acts_on d w s Init times None left on = absurd (cc left)
acts_on d w s DeInit times None left on = absurd (cc left)
acts_on d w s (SetMode None) times None left on = on
acts_on d w s (SetMode (Some modes.Normal)) times None left on = refl
acts_on d w s (SetMode (Some modes.Sleep)) times None left on = refl
acts_on d w s (calls.Channel n GetTimeElapsed) times None left on = on
acts_on d w s (calls.Channel n GetTimeRemaining) times None left on = on
acts_on d w s (calls.Channel n (StartTimer v)) times None left on = on
acts_on d w s (calls.Channel n StopTimer) times None left on = on
acts_on d w s (calls.Channel n (asks.Change by)) times None left on = by_channel (channel_of d n) where
  by_channel : (o : Option Channel) → is_off (switches o s n by).state.mode ≡ false
  by_channel None = on
  by_channel (Some k) = on

served_on : (w : World) (s : GptState) (line : ℕ) (a b : Bool) → is_off s.mode ≡ false → is_off (served_by w s line a b).state.mode ≡ false
served_on w s line true b on = on
served_on w s line false b on = on

serves_on : (w : World) (s : GptState) (line : ℕ) (q : Bool) → is_off s.mode ≡ false → is_off (state_by s (if q then Some (served w s line) else None)).mode ≡ false
serves_on w s line true on = served_on w s line (wakes s.mode (channel_at s line).switches) (notifies s.mode (channel_at s line).switches) on
serves_on w s line false on = on

pub step_on : (d : GptTable) (w : World) (s : GptState) (h : Happening Call) → leaves_module h ≡ true → is_off s.mode ≡ false → is_off (state_after d w s h).mode ≡ false
step_on d w s (Acts call times) left on = acts_on d w s call times (error_by d call (is_off s.mode) (is_asleep s.mode) (is_busy d w s call)) left on
step_on d w s (Serves line received) left on = serves_on w s line (ready d w s line) on
step_on d w s (Starts u made_by received) left on = on
step_on d w s (Aborts u) left on = on
step_on d w s (Moves order) left on = on
step_on d w s (Restarts reason) left on = absurd (cc left)

-- ---- histories

pub all_steps : (d : GptTable) (P : GptState → Type 0) (leaves : Happening Call → Bool)
    → ((w : World) (s : GptState) (h : Happening Call) → leaves h ≡ true → P s → P (state_after d w s h))
    → (s : GptState) (xs : List Occurrence) → list_all (λ (x : Occurrence). leaves x.what) xs ≡ true → P s → P (after_all d s xs)
all_steps d P leaves one s [] left p = p
all_steps d P leaves one s (x ∷ xs) left p =
    let parts = and_parts (leaves x.what) (list_all (λ (y : Occurrence). leaves y.what) xs) left in
    all_steps d P leaves one (state_after d x.world s x.what) xs parts.1 (one x.world s x.what parts.0 p)

pub not_itself : (c : ℕ) → not (c == c) ≡ true → ⊥
not_itself c e = let no : not (c == c) ≡ false = ap not (eq_self c) in absurd (cc (sym no ∙ e))
