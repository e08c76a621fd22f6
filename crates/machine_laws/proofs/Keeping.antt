-- What a happening leaves of a channel and of the mode.
use Rattle.std.proofs.Common.{◌≡◌, ℕ, ◌==◌, Bool, true, false, not, List, [], ◌∷◌, Option, Some, None, refl, sym, ◌∙◌, ap}
use Rattle.std.specs.List.{list_all}
use Rattle.std.specs.Prelude.{find, if◌then◌else◌}
use Rattle.std.proofs.lemmas.Bool.{and_parts}
use Rattle.mcal_base.specs.facts.Numbers.{eq_self}
use Rattle.mcal_base.specs.declared.answer_name.AnswerName.{AnswerName}
use Rattle.mcal_base.specs.declared.directive.Order.{Order}
use Rattle.mcal_base.specs.declared.directive.Order.TheVariants.{Fill, SpiFault}
use Rattle.mcal_base.specs.declared.error_name.ErrorName.{ErrorName}
use Rattle.run_model.specs.Frame.{state_by}
use Rattle.run_model.specs.Machine.{Happening, Acts, Serves, Starts, Aborts, Moves, Restarts}
use Rattle.run_model.specs.World.{World}
use Rattle.spi_machine.proofs.Numbers.{channel-seen}
use Rattle.spi_machine.proofs.Runs.{stored-seen, after_last-seen}
use Rattle.spi_machine.proofs.WordLaws.{job_over-channels}
use Rattle.spi_machine.specs.Channels.{ChannelState}
use Rattle.spi_machine.specs.Checks.{error_by}
use Rattle.spi_machine.specs.Machine.{acts_by, sent_on, unless_busy, cancelled, cancelled_by, channel_work, finds_held, stored, kept, all_kept, after_last, sequence_after, job_over, pending_of, served_by, served, unit_of, run_of, ready, start_by, next_at, number_of, moved}
use Rattle.spi_machine.specs.Pending.{Pending, is_of, end_by, has_further}
use Rattle.spi_machine.specs.Runs.{Occurrence, state_after, after_all}
use Rattle.spi_machine.specs.State.{SpiState, Carrying, Off, mode_of, is_busy, is_off, is_running, channel_at}
use Rattle.spi_machine.specs.Table.{channel_of}
use Rattle.spi_machine.specs.Transfers.{Goes, ToDestination, ToChannel, Nowhere, JobWord, Run, goes_on, word_of, received_with}
use Rattle.spi_machine.specs.declared.call.Call.{Call}
use Rattle.spi_machine.specs.declared.call.Call.TheVariants.{Init, DeInit, SetAsyncMode, MainFunctionHandling, Channel, Sequence, Get}
use Rattle.spi_machine.specs.declared.call.ChannelCall.{ChannelCall}
use Rattle.spi_machine.specs.declared.call.ChannelCall.TheVariants.{WriteIb, ReadIb, SetupEb}
use Rattle.spi_machine.specs.declared.call.SequenceCall.TheVariants.{AsyncTransmit, Cancel, SyncTransmit}
use Rattle.spi_machine.specs.declared.table.SpiTable.{SpiTable}
use Rattle.machine_laws.specs.serial.Buffers.{leaves_channels, leaves_mode}
use Rattle.machine_laws.proofs.Sendings.{act_so, start_so}

-- ---- a channel

unless_channels : (b : Bool) (s after : SpiState) → after.channels ≡ s.channels → (unless_busy b s after).state.channels ≡ s.channels
unless_channels true s after e = refl
unless_channels false s after e = e

cancelled_by_channels : (d : SpiTable) (s : SpiState) (p : Pending) (b : Bool) → (cancelled_by d s p b).state.channels ≡ s.channels
cancelled_by_channels d s p true = refl
cancelled_by_channels d s p false = refl

cancelled_channels : (d : SpiTable) (s : SpiState) (o : Option Pending) → (cancelled d s o).state.channels ≡ s.channels
cancelled_channels d s None = refl
cancelled_channels d s (Some p) = cancelled_by_channels d s p (is_running s p.sequence)

-- what of a channel neither a word that comes in changes nor one that is filled in
pub record IsOfCalls {A : Type 0} (see : ChannelState → A) : Type 0 where
  pub destination : (x : ChannelState) (ws : List ℕ) → see (record x { destination = ws }) ≡ see x
  pub received : (x : ChannelState) (ws : List ℕ) → see (record x { received = ws }) ≡ see x
  pub source : (x : ChannelState) (ws : List ℕ) → see (record x { source = ws }) ≡ see x

module _ {A : Type 0} (see : ChannelState → A) (of : IsOfCalls see) (d : SpiTable) (w : World) (s : SpiState) (c : ℕ) where
  stored_sees : (t : SpiState) (x : JobWord) (g : Goes) (v : ℕ) → see (channel_at (stored t x g v) c) ≡ see (channel_at t c)
  stored_sees t x ToDestination v = channel-seen see t x.channel c _ (of.destination (channel_at t x.channel) _)
  stored_sees t x ToChannel v = refl
  stored_sees t x Nowhere v = refl

  kept_sees : (t : SpiState) (x : JobWord) (g : Goes) (v : ℕ) → see (channel_at (kept t x g v) c) ≡ see (channel_at t c)
  kept_sees t x ToDestination v = refl
  kept_sees t x ToChannel v = channel-seen see t x.channel c _ (of.received (channel_at t x.channel) _)
  kept_sees t x Nowhere v = refl

  all_kept_sees : (t : SpiState) (xs : List JobWord) (vs : List ℕ) → see (channel_at (all_kept t xs vs) c) ≡ see (channel_at t c)
  all_kept_sees t [] vs = refl
  all_kept_sees t (x ∷ xs) [] = refl
  all_kept_sees t (x ∷ xs) (v ∷ vs) = all_kept_sees (kept t x x.goes v) xs vs ∙ kept_sees t x x.goes v

  after_last_sees : (r : Run) (failed : Bool) → see (channel_at (after_last s r failed) c) ≡ see (channel_at s c)
  after_last_sees r true = refl
  after_last_sees r false = all_kept_sees (stored s (word_of r) (word_of r).goes r.transfer.incoming) r.words (received_with r) ∙ stored_sees s (word_of r) (word_of r).goes r.transfer.incoming

  same_channels : (after : SpiState) → after.channels ≡ s.channels → see (channel_at after c) ≡ see (channel_at s c)
  same_channels after e = ap (λ xs. see (channel_at (record s { channels = xs }) c)) e

  served_by_sees : (u received : ℕ) (r : Run) (b : Bool) → see (channel_at (served_by d w s u received r b).state c) ≡ see (channel_at s c)
  served_by_sees u received r true = stored_sees s (word_of r) (word_of r).goes r.transfer.incoming
  served_by_sees u received r false =
      ap (λ xs. see (channel_at (record s { channels = xs }) c)) (job_over-channels d (after_last s r r.transfer.failed) u r.transfer.failed (pending_of s r)) ∙ after_last_sees r r.transfer.failed

  served_sees : (k : Option ℕ) (received : ℕ) (o : Option Run) → see (channel_at (served d w s k received o).state c) ≡ see (channel_at s c)
  served_sees None received o = refl
  served_sees (Some u) received None = refl
  served_sees (Some u) received (Some r) = served_by_sees u received r (goes_on r)

  serves_sees : (line received : ℕ) (b : Bool) → see (channel_at (state_by s (if b then Some (served d w s (unit_of line) received (run_of s (unit_of line))) else None)) c) ≡ see (channel_at s c)
  serves_sees line received true = served_sees (unit_of line) received (run_of s (unit_of line))
  serves_sees line received false = refl

  starts_sees : (k : Option ℕ) (received : ℕ) (o : Option Pending) → see (channel_at (state_by s (start_by d w s k received o)) c) ≡ see (channel_at s c)
  starts_sees None received o = refl
  starts_sees (Some u) received None = refl
  starts_sees (Some u) received (Some p) = refl

  moved_sees : (order : Order) → see (channel_at (moved d w s order) c) ≡ see (channel_at s c)
  moved_sees (Fill k ws) = channel-seen see s k c _ (of.source (channel_at s k) _)
  moved_sees (SpiFault u) = refl
  moved_sees order = refl

  acts_see : (call : Call) (times : ℕ → ℕ) (e : Option ErrorName) → leaves_channels (Acts call times) ≡ true
      → ((n : ℕ) (by : ChannelCall) → call ≡ Channel n by → see (channel_at (channel_work (channel_of d n) s n by).state c) ≡ see (channel_at s c))
      → see (channel_at (acts_by d s call e).state c) ≡ see (channel_at s c)
  acts_see call times (Some e) left by = refl
  acts_see Init times None left by = absurd (cc left)
  acts_see DeInit times None left by = same_channels (unless_busy (is_busy s) s (record s { mode = Off })).state (unless_channels (is_busy s) s (record s { mode = Off }) refl)
  acts_see (SetAsyncMode m) times None left by = same_channels (unless_busy (is_busy s) s (record s { mode = mode_of m })).state (unless_channels (is_busy s) s (record s { mode = mode_of m }) refl)
  acts_see MainFunctionHandling times None left by = refl
  acts_see (Channel n call) times None left by = by n call refl
  acts_see (Sequence q AsyncTransmit) times None left by = refl
  acts_see (Sequence q SyncTransmit) times None left by = refl
  acts_see (Sequence q Cancel) times None left by = same_channels (cancelled d s (find (is_of q) s.pending)).state (cancelled_channels d s (find (is_of q) s.pending))
  acts_see (Get query) times None left by = refl

  sent_on_sees : (u received : ℕ) (x : Carrying) (b : Bool) → see (channel_at (sent_on d w s u received x b).state c) ≡ see (channel_at s c)
  sent_on_sees u received x true = stored_sees s (word_of x.run) (word_of x.run).goes x.run.transfer.incoming
  sent_on_sees u received x false = after_last_sees x.run false

  -- it is left where no call changes it
  pub step_sees : (h : Happening Call) → leaves_channels h ≡ true
      → ((n : ℕ) (by : ChannelCall) (times : ℕ → ℕ) → h ≡ Acts (Channel n by) times → see (channel_at (channel_work (channel_of d n) s n by).state c) ≡ see (channel_at s c))
      → see (channel_at (state_after d w s h) c) ≡ see (channel_at s c)
  step_sees (Acts call times) left by =
      act_so (λ t. see (channel_at t c) ≡ see (channel_at s c)) d w s call refl
      (acts_see call times (error_by d call (is_off s.mode) (finds_held d s call)) left (λ n b e. by n b times (ap (λ x. Acts x times) e)))
      (λ q x ends. after_last_sees x.run x.run.transfer.failed)
  step_sees (Serves line received) left by = serves_sees line received (ready w s line)
  step_sees (Starts unit made_by received) left by =
      start_so (λ t. see (channel_at t c) ≡ see (channel_at s c)) d w s (number_of unit) made_by received refl
      (λ n. starts_sees (number_of unit) received (next_at d s (number_of unit))) (λ u q on. refl) (λ u q x on more. sent_on_sees u received x (goes_on x.run))
  step_sees (Aborts unit) left by = refl
  step_sees (Moves order) left by = moved_sees order
  step_sees (Restarts reason) left by = absurd (cc left)

-- ---- the mode

cancelled_by_mode : (d : SpiTable) (s : SpiState) (p : Pending) (b : Bool) → (cancelled_by d s p b).state.mode ≡ s.mode
cancelled_by_mode d s p true = refl
cancelled_by_mode d s p false = refl

cancelled_mode : (d : SpiTable) (s : SpiState) (o : Option Pending) → (cancelled d s o).state.mode ≡ s.mode
cancelled_mode d s None = refl
cancelled_mode d s (Some p) = cancelled_by_mode d s p (is_running s p.sequence)

acts_mode : (d : SpiTable) (s : SpiState) (call : Call) (times : ℕ → ℕ) (e : Option ErrorName) → leaves_mode (Acts call times) ≡ true → (acts_by d s call e).state.mode ≡ s.mode
acts_mode d s call times (Some e) left = refl
acts_mode d s Init times None left = absurd (cc left)
acts_mode d s DeInit times None left = absurd (cc left)
acts_mode d s (SetAsyncMode m) times None left = absurd (cc left)
acts_mode d s MainFunctionHandling times None left = refl
acts_mode d s (Channel n call) times None left = work_mode call where
  work_mode : (call : ChannelCall) → (channel_work (channel_of d n) s n call).state.mode ≡ s.mode
  work_mode (WriteIb p) = refl
  work_mode ReadIb = refl
  work_mode (SetupEb p q k) = refl
acts_mode d s (Sequence q AsyncTransmit) times None left = refl
acts_mode d s (Sequence q SyncTransmit) times None left = refl
acts_mode d s (Sequence q Cancel) times None left = cancelled_mode d s (find (is_of q) s.pending)
acts_mode d s (Get query) times None left = refl

after_mode : (d : SpiTable) (t : SpiState) (p : Pending) (e : Option AnswerName) → (sequence_after d t p e).state.mode ≡ t.mode
after_mode d t p None = refl
after_mode d t p (Some x) = refl

over_mode : (d : SpiTable) (s : SpiState) (u : ℕ) (failed : Bool) (o : Option Pending) → (job_over d s u failed o).state.mode ≡ s.mode
over_mode d s u failed None = refl
over_mode d s u failed (Some p) = after_mode d _ p (end_by p.cancelled failed (has_further d p))

served_by_mode : (d : SpiTable) (w : World) (s : SpiState) (u received : ℕ) (r : Run) (b : Bool) → (served_by d w s u received r b).state.mode ≡ s.mode
served_by_mode d w s u received r true = stored-seen (λ s. s.mode) (λ s c x. refl) s (word_of r) (word_of r).goes r.transfer.incoming
served_by_mode d w s u received r false =
    over_mode d (after_last s r r.transfer.failed) u r.transfer.failed (pending_of s r) ∙ after_last-seen (λ s. s.mode) (λ s c x. refl) s r r.transfer.failed

served_mode : (d : SpiTable) (w : World) (s : SpiState) (k : Option ℕ) (received : ℕ) (o : Option Run) → (served d w s k received o).state.mode ≡ s.mode
served_mode d w s None received o = refl
served_mode d w s (Some u) received None = refl
served_mode d w s (Some u) received (Some r) = served_by_mode d w s u received r (goes_on r)

serves_mode : (d : SpiTable) (w : World) (s : SpiState) (line received : ℕ) (b : Bool) → (state_by s (if b then Some (served d w s (unit_of line) received (run_of s (unit_of line))) else None)).mode ≡ s.mode
serves_mode d w s line received true = served_mode d w s (unit_of line) received (run_of s (unit_of line))
serves_mode d w s line received false = refl

starts_mode : (d : SpiTable) (w : World) (s : SpiState) (k : Option ℕ) (received : ℕ) (o : Option Pending) → (state_by s (start_by d w s k received o)).mode ≡ s.mode
starts_mode d w s None received o = refl
starts_mode d w s (Some u) received None = refl
starts_mode d w s (Some u) received (Some p) = refl

moved_mode : (d : SpiTable) (w : World) (s : SpiState) (order : Order) → (moved d w s order).mode ≡ s.mode
moved_mode d w s (Fill c ws) = refl
moved_mode d w s (SpiFault u) = refl
moved_mode d w s order = refl

sent_on_mode : (d : SpiTable) (w : World) (s : SpiState) (u received : ℕ) (x : Carrying) (b : Bool) → (sent_on d w s u received x b).state.mode ≡ s.mode
sent_on_mode d w s u received x true = stored-seen (λ s. s.mode) (λ s c x. refl) s (word_of x.run) (word_of x.run).goes x.run.transfer.incoming
sent_on_mode d w s u received x false = after_last-seen (λ s. s.mode) (λ s c x. refl) s x.run false

step_mode : (d : SpiTable) (w : World) (s : SpiState) (h : Happening Call) → leaves_mode h ≡ true → (state_after d w s h).mode ≡ s.mode
step_mode d w s (Acts call times) left =
    act_so (λ t. t.mode ≡ s.mode) d w s call refl (acts_mode d s call times (error_by d call (is_off s.mode) (finds_held d s call)) left)
    (λ q x ends. after_last-seen (λ s. s.mode) (λ s c x. refl) s x.run x.run.transfer.failed)
step_mode d w s (Serves line received) left = serves_mode d w s line received (ready w s line)
step_mode d w s (Starts unit made_by received) left =
    start_so (λ t. t.mode ≡ s.mode) d w s (number_of unit) made_by received refl
    (λ n. starts_mode d w s (number_of unit) received (next_at d s (number_of unit))) (λ u q on. refl) (λ u q x on more. sent_on_mode d w s u received x (goes_on x.run))
step_mode d w s (Aborts unit) left = refl
step_mode d w s (Moves order) left = moved_mode d w s order
step_mode d w s (Restarts reason) left = absurd (cc left)

-- ---- histories

pub all_same : {A : Type 0} (see : SpiState → A) (d : SpiTable) (leaves : Happening Call → Bool) → ((w : World) (s : SpiState) (h : Happening Call) → leaves h ≡ true → see (state_after d w s h) ≡ see s)
    → (s : SpiState) (xs : List Occurrence) → list_all (λ (x : Occurrence). leaves x.what) xs ≡ true → see (after_all d s xs) ≡ see s
all_same see d leaves one s [] left = refl
all_same see d leaves one s (x ∷ xs) left =
    let parts = and_parts (leaves x.what) (list_all (λ (y : Occurrence). leaves y.what) xs) left in
    all_same see d leaves one (state_after d x.world s x.what) xs parts.1 ∙ one x.world s x.what parts.0

pub mode_all : (d : SpiTable) (s : SpiState) (xs : List Occurrence) → list_all (λ (x : Occurrence). leaves_mode x.what) xs ≡ true → (after_all d s xs).mode ≡ s.mode
mode_all d s xs left = all_same (λ t. t.mode) d leaves_mode (λ w t h one. step_mode d w t h one) s xs left

pub not_itself : (c : ℕ) → not (c == c) ≡ true → ⊥
not_itself c e = let no : not (c == c) ≡ false = ap not (eq_self c) in absurd (cc (sym no ∙ e))
