-- The moves of a window after its word, as a frame owes them; and that those after a further word leave the agreement, where the
-- unit is cleared.
-- From words.FacingWords, spi_sequences: services.ServeSteps, words.KeepingWords, services.FurtherBegun and 13 more.
-- Used by services.ServeRight, services.JobLeft, words.AllKept, sending.services.SendFurther and 4 more.
use Rattle.std.proofs.Common.{◌≡◌, ◌≢◌, ◌+◌, ◌%◌, ◌^◌, ◌<◌, ◌≤◌, ◌&&◌, ◌==◌, [], ◌∷◌, ◌++◌, ◌∙◌, ◌⊎◌, if◌then◌else◌}
use Rattle.spi_laws.specs.serving.Terms
use Terms.{after_serve, all_pending, Answer, ap, arith, Arrived, as_begun, asked_word, bank_of, bank_word, begins}
use Terms.{begins_on, Begun, begun, Bool, Call, CarriesAgrees, Channel, channel_at, channel_next, channel_of}
use Terms.{channel_served, ChannelState, Chip, chip_after, cleared_of, clears, Commit, commit_ends, CommitsAfter}
use Terms.{CommitsTo, Contains, control_word, Destination, destination_own, destination_word, ends_of, ExternalAgrees}
use Terms.{false, few_places, find, FitsSpi, found_entry, FrameRole, free_bank, Goes, goes_by, Going, has_channel}
use Terms.{has_done, has_ended, held_word, inl, inr, InTransfer, is_last_place, is_number, is_of, is_sync_unit}
use Terms.{is_there, IsFound, IsFurther, IsServed, item-same, job_of, JobWord, Keep, keep_ends, keep_left, keep_move}
use Terms.{keep_of, keeping, Leaving, length, length-set, length_by, lets_of, lets_with, List, Main, may, may_store}
use Terms.{may_users, Memory, min, mod-mod, Move, nat_le, nat_lt, nat_tests, next_job, None, not, notes, Nowhere}
use Terms.{on_wire, one_owed, one_pending, Option, Origin, outcome_with, owed_left, owed_move, owes_move, own-control}
use Terms.{own_first, own_held, own_low, packed_position, PartBy, Pending, pending_of, PendingWrites, place_of, Placed}
use Terms.{placed_of, Position, position_word, positive, Put, put_gave, put_left, put_move, Received, received_with}
use Terms.{refl, releasing, Reservations, Run, run_at, run_of, same_or_other, select_by, select_of, SendsRight, Sent}
use Terms.{Serial, SerialData, serve_commits, serve_keeps, serve_keeps_last, serve_lets, serve_move, serve_owes}
use Terms.{serve_releases, serve_takes, served, served_by, ServePlace, Serves, ServeStep, SetUp, slice_index_or, Some}
use Terms.{SOURCES, spi_machine, spi_owing, SpiRepresents, SpiState, SpiTable, stands-move, StandsIn, Store, stored}
use Terms.{stored_other, stored_same, subst, sym, Take, take_gave, take_move, taker_of, ToChannel, ToDestination}
use Terms.{trio_of, true, unit_at, unit_of, unit_over, unit_owed, unit_run, UnitAgrees, UnitBody, UnitPlace, Units}
use Terms.{unless_done, unpacked, untouched, value_of, view, where_owed, wire_at, with_item, with_word, word_after}
use Terms.{word_at, word_of, World, Write, zero, ℕ}
use Rattle.spi_laws.specs.serving.laws.{bookkeeping.JobEnd.{unit_other, unit_same}, services.FurtherBegun.{After, At}}
use Rattle.spi_laws.specs.serving.laws.services.FurtherBegun.{moved_on, run_agrees, stored_elsewhere, stored_is}
use Rattle.spi_laws.specs.serving.laws.{services.FurtherBegun.{stored_like, stored_there, with_run_and}, ToServe.{ToServe}}
use Rattle.spi_laws.specs.serving.laws.words.FacingWords.{asked_by, at_is, goes_further, is_ready, narrow, next_at}
use Rattle.spi_laws.specs.serving.laws.words.FacingWords.{next_channel, next_word, runs_so, served_by as by_served}
use Rattle.spi_laws.specs.serving.laws.words.FacingWords.{served_is, standing, UnderWay, unit_line, way, width_same}
use Rattle.spi_laws.specs.serving.laws.{words.FacingWords.{word_is}, words.KeepingWords.{IsKept, IsLet, kept_first}}
use Rattle.spi_laws.specs.serving.laws.words.KeepingWords.{kept_more, kept_nowhere, kept_outside, let_ends, let_none}
use Rattle.spi_laws.specs.serving.laws.{words.KeepingWords.{NotLet, there_known, words_after}, words.Positions.{held_back}}
use Rattle.spi_laws.specs.serving.laws.{words.Positions.{Next, part_few, Same, Stands}, words.SidesApart.{banks_low}}
use Rattle.spi_laws.specs.serving.laws.words.SidesApart.{banks_own, is_inside}
use Rattle.chip_blocks.specs.units.Serials as serials
use Rattle.word_shapes.specs.declared.take.Take.TheVariants as takes
use Rattle.word_shapes.specs.declared.jobs.keeping.Keep.TheVariants as keeps
use Rattle.spi_machine.specs.Transfers as transfers
use Rattle.spi_sequences.specs.declared.service.serve.ServePlace.TheVariants as serve
use Rattle.spi_sequences.specs.declared.service.unit.UnitPlace.TheVariants as units
use Rattle.spi_laws.specs.serving.laws.words.Positions as positions
use Rattle.spi_laws.specs.serving.laws.words.KeepingWords as into_bank
use Rattle.spi_machine.specs.Machine as machine

-- a frame with a place of its serving window
abbrev pub serving : SpiTable → FrameRole → (number : ℕ) → ServePlace → UnitBody
serving d e u q = record { table = d; errand = e; unit = u; place = units.Serve q }

-- a frame whose window is over owes nothing
pub over_none : (k : UnitBody) (q : UnitPlace) (e : FrameRole) (n : ℕ) → unless_done (unit_over k q e n).1.done (unit_owed (unit_over k q e n).0) ≡ None
over_none k q Main zero = grind arith
over_none k q _ _ = refl

-- the moves of a window after a further word has begun, as a frame owes them
pub record OwesWords (d : SpiTable) (u : ℕ) (into : ServePlace → PendingWrites) : Type 0 where
  pub moves : (q : ServePlace) → owed_move (into q) ≡ serve_move d u q
  pub lets : (a : Arrived) (p : Position) (t : Take) (v : ℕ) → owed_left (into (serve.Let a p t)) v ≡ Some (into (serve_lets d a p t v (has_ended (take_gave t v))).0)
  pub keeps : (k : Keep) (p : Position) (v : ℕ) → owed_left (into (serve.Keep k p)) v ≡ Some (into (serve_keeps k p (keep_ends k)).0)
  pub stands : (p : Position) (v : ℕ) → owed_left (into (serve.Stand p)) v ≡ None

-- as one that serves does
pub served_words : (d : SpiTable) (e : FrameRole) (u : ℕ) → OwesWords d u (λ q. Units (serving d e u q))
served_words d e u = record {
  moves = λ q. refl;
  lets = λ a p t v. grind arith;
  keeps = λ k p v. grind arith;
  stands = λ p v. over_none (serving d e u (serve.Stand p)) (units.Serve (serve.Stand p)) e u;
}

-- one move, as it is owed
pub owed_step : (d : SpiTable) (Done : Chip → Type 0) (o : PendingWrites) (m : Move) → owed_move o ≡ m → (c : Chip) (left : Option PendingWrites) → owes_move d m ≡ true → owed_left o (value_of c m) ≡ left
    → CommitsAfter (spi_owing d) left (chip_after c m 0) Done → CommitsAfter (spi_owing d) (Some o) c Done
owed_step d Done o m is c left own e rest =
    one_owed (spi_owing d) Done o c left (subst (λ k. owes_move d k ≡ true) (sym is) own) tt (ap (λ k. owed_left o (value_of c k)) is ∙ e)
    (subst (λ k. CommitsAfter (spi_owing d) left (chip_after c k 0) Done) (sym is) rest)

-- ---- the moves of a job's end, as a frame owes them

-- the places of a job's end that are followed by others of it
abbrev pub IsEnding : ServePlace → Type 0
IsEnding (serve.Free r c) = Unit {0}
IsEnding (serve.Release l n t) = Unit {0}
IsEnding (serve.KeepLast l k) = Unit {0}
IsEnding (serve.Commit l n c) = Unit {0}
IsEnding p = ⊥

-- a frame owes them so
pub record OwesEnds (d : SpiTable) (u : ℕ) (into : ServePlace → PendingWrites) : Type 0 where
  pub moves : (q : ServePlace) → owed_move (into q) ≡ serve_move d u q
  pub lefts : (q : ServePlace) (v : ℕ) → IsEnding q → serve_owes (serve_takes d u q v).0 ≡ true → owed_left (into q) v ≡ Some (into (serve_takes d u q v).0)

pub owes_place : (d : SpiTable) (e : FrameRole) (u : ℕ) (q : ServePlace) → serve_owes q ≡ true → unit_owed (serving d e u q) ≡ Some (Units (serving d e u q))
owes_place d e u q o = ap (λ b. where_owed b (Units (serving d e u q))) o

-- as one that serves does
pub served_ends : (d : SpiTable) (e : FrameRole) (u : ℕ) → OwesEnds d u (λ q. Units (serving d e u q))
served_ends d e u = record { moves = λ q. refl; lefts = lefts }
  where
    left : ServePlace → ServePlace × ServeStep → Option PendingWrites
    left q r = unless_done (after_serve (serving d e u q) r).1.done (unit_owed (after_serve (serving d e u q) r).0)

    releases : (l : Leaving) (n : ℕ) (t : Take) (v : ℕ) (b : Bool) → serve_owes (serve_releases d l n t v b).0 ≡ true → left (serve.Release l n t) (serve_releases d l n t v b) ≡ Some (Units (serving d e u (serve_releases d l n t v b).0))
    releases l n t v true o = owes_place d e u (serve_releases d l n t v true).0 o
    releases l n t v false o = refl

    keeps : (l : Leaving) (k : Keep) (b : Bool) → serve_owes (serve_keeps_last d l k b).0 ≡ true → left (serve.KeepLast l k) (serve_keeps_last d l k b) ≡ Some (Units (serving d e u (serve_keeps_last d l k b).0))
    keeps l k true o = owes_place d e u (serve_keeps_last d l k true).0 o
    keeps l k false o = refl

    commits : (l : Leaving) (n : ℕ) (c : Commit) (v : ℕ) (b : Bool) → serve_owes (serve_commits d l n c v b).0 ≡ true → left (serve.Commit l n c) (serve_commits d l n c v b) ≡ Some (Units (serving d e u (serve_commits d l n c v b).0))
    commits l n c v true o = owes_place d e u (serve_commits d l n c v true).0 o
    commits l n c v false o = refl

    lefts : (q : ServePlace) (v : ℕ) → IsEnding q → serve_owes (serve_takes d u q v).0 ≡ true → owed_left (Units (serving d e u q)) v ≡ Some (Units (serving d e u (serve_takes d u q v).0))
    lefts (serve.Free r c) v i o = owes_place d e u (ends_of d r c) o
    lefts (serve.Release l n t) v i o = releases l n t v (has_ended (take_gave t v)) o
    lefts (serve.KeepLast l k) v i o = keeps l k (keep_ends k) o
    lefts (serve.Commit l n c) v i o = commits l n c v (commit_ends c v) o
    lefts _ v i o = absurd i

-- one move of them
module _ (d : SpiTable) (u : ℕ) (into : ServePlace → PendingWrites) (owes : OwesEnds d u into) (Done : Chip → Type 0) where
  pub end_step : (q : ServePlace) (c : Chip) (left : Option PendingWrites) → owes_move d (serve_move d u q) ≡ true → owed_left (into q) (value_of c (serve_move d u q)) ≡ left → CommitsAfter (spi_owing d) left (chip_after c (serve_move d u q) 0) Done → CommitsAfter (spi_owing d) (Some (into q)) c Done
  end_step q c left own e rest = owed_step d Done (into q) (serve_move d u q) (owes.moves q) c left own e rest

  -- to another place of the end
  pub end_to : (q z : ServePlace) (c : Chip) → IsEnding q → (serve_takes d u q (value_of c (serve_move d u q))).0 ≡ z → serve_owes z ≡ true → owes_move d (serve_move d u q) ≡ true → CommitsAfter (spi_owing d) (Some (into z)) (chip_after c (serve_move d u q) 0) Done → CommitsAfter (spi_owing d) (Some (into q)) c Done
  end_to q z c ending to owed own rest =
      end_step q c (Some (into z)) own (owes.lefts q (value_of c (serve_move d u q)) ending (subst (λ x. serve_owes x ≡ true) (sym to) owed) ∙ ap (λ x. Some (into x)) to) rest

-- ---- the moves that keep a job's last word and make what came in readable, whichever frame makes them, and what it owes
-- after them

pub record OwesKeep (owing : Keep → PendingWrites) (next : PendingWrites) : Type 0 where
  pub moves : (k : Keep) → owed_move (owing k) ≡ keep_move k
  pub lefts : (k : Keep) (v : ℕ) → owed_left (owing k) v ≡ Some (if keep_ends k then next else owing (keep_left k))

pub record OwesPut (owing : Put → PendingWrites) (next : PendingWrites) : Type 0 where
  pub moves : (p : Put) → owed_move (owing p) ≡ put_move p
  pub lefts : (p : Put) (v : ℕ) → owed_left (owing p) v ≡ Some (if has_ended (put_gave p v) then next else owing (put_left p v))

-- one of the first
pub keep_to : (d : SpiTable) (owing : Keep → PendingWrites) (next : PendingWrites) → OwesKeep owing next → (Done : Chip → Type 0) → (k : Keep) (z : PendingWrites) (c : Chip) → (if keep_ends k then next else owing (keep_left k)) ≡ z → owes_move d (keep_move k) ≡ true → (i : ℕ) × CommitsTo (spi_owing d) i z (chip_after c (keep_move k) 0) Done
    → (i : ℕ) × CommitsTo (spi_owing d) i (owing k) c Done
keep_to d owing next owes Done k z c to own rest = owed_step d Done (owing k) (keep_move k) (owes.moves k) c (Some z) own (owes.lefts k (value_of c (keep_move k)) ∙ ap (λ x. Some x) to) rest

-- ---- how the word is kept, by its channel

-- as a frame knows it by the word that it loaded
abbrev pub kept_way : Placed → (place : ℕ) → Memory → (word : ℕ) → Keep
kept_way x i m v = keeping x i (taker_of x i (m (asked_word x i))) v

-- what is so of each way is so of that one
pub each_way : (x : Placed) (i : ℕ) (m : Memory) (v : ℕ) (P : Keep → Type 0)
    → (x.channel.internal ≡ true → i ≡ 0 → P (keeps.Hold x (free_bank (m (control_word x Received))) v))
    → (x.channel.internal ≡ true → 0 < i → P (keeps.Fill x i (bank_of (m (held_word x))) v))
    → (x.channel.internal ≡ false → (unpacked (m (held_word x))).destination ≡ true → P (keeps.Store x i v))
    → (x.channel.internal ≡ false → (unpacked (m (held_word x))).destination ≡ false → P (keeps.Drop x)) → P (kept_way x i m v)
each_way x i m v P hold fill store drop = by x.channel.internal refl (i == 0) refl (unpacked (m (held_word x))).destination refl
  where
    as_kept : (k : Keep) → kept_way x i m v ≡ k → P k → P (kept_way x i m v)
    as_kept k e = subst P (sym e)

    by : (q : Bool) → x.channel.internal ≡ q → (z : Bool) → (i == 0) ≡ z → (b : Bool) → (unpacked (m (held_word x))).destination ≡ b → P (kept_way x i m v)
    by true e true f b g = as_kept (keeps.Hold x (free_bank (m (control_word x Received))) v) (rw (e, f, f)) (hold e (is_number i 0 f))
    by true e false f b g = as_kept (keeps.Fill x i (bank_of (m (held_word x))) v) (rw (e, f, f)) (fill e (positive i f))
    by false e z f true g = as_kept (keeps.Store x i v) (rw (e, g)) (store e g)
    by false e z f false g = as_kept (keeps.Drop x) (rw (e, g)) (drop e g)

module _ (d : SpiTable) (fits : FitsSpi d) (below : Reservations) (chip : Chip) (w : World) (s : SpiState) (h : SpiRepresents d below chip w s) (u : ℕ) (few : u < 2) (a : Arrived) (p : Position) (v y : ℕ)
    (i : IsFurther d (word_of chip) s w.now u a p) (wide : (unit_at chip.serials u).width ≡ (channel_next d a p).channel.width) (is_word : (run : Run) → unit_run d s u ≡ Some run → v ≡ (word_after run).sent) where
  abbrev pub by : IsServed d (word_of chip) s w.now u a.served
  by = by_served d fits below chip w s h u few a p i

  abbrev pub under : UnderWay d below chip w s h u by.done.run
  under = way d fits below chip w s h u few a.served by

  abbrev pub going : Going
  going = under.job

  abbrev pub run : Run
  run = by.done.run

  abbrev first : Stands d fits u (word_of chip) going under.for under.represents going.at (length going.received)
  first = standing d fits below chip w s h u few a.served by

  abbrev second : Stands d fits u (word_of chip) going under.for under.represents p (length going.received + 1)
  second = (next_at d fits below chip w s h u few a p i).0

  abbrev pub st : ToServe
  st = record { d = d; fits = fits; below = below; chip = chip; w = w; s = s; h = h; on = under.on; u = u; few = few; g = going; is = under.is }

  abbrev pub at : At st going.at (length going.received)
  at = record { part = first.part; there = first.there; inside = first.inside; count = first.count }

  abbrev pub next : At st p (length going.received + 1)
  next = record { part = second.part; there = second.there; inside = second.inside; count = second.count }

  pub follows : After st going.at p (length at.part.values)
  follows = elim (next_at d fits below chip w s h u few a p i).1 [ Same e f ↦ Same e f | Next e f g ↦ Next e f g ]

  -- what came in
  abbrev pub came : ℕ
  came = under.transfer.incoming

  came_is : a.word ≡ came
  came_is = i.arrived.word run by.done.is (by.done.failed ∙ i.good) ∙ ap (λ (z : Run). z.transfer.incoming) under.runs

  abbrev pub here : Placed
  here = placed_of d at.part.channel

  abbrev pub there : Placed
  there = placed_of d next.part.channel

  abbrev pub word : JobWord
  word = word_after run

  abbrev pub chip1 : Chip
  chip1 = chip_after chip (Write (SerialData u) v) y

  outside1 : StandsIn chip1 w
  outside1 = stands-move chip w (Write (SerialData u) v) y h.outside

  -- ---- the event

  abbrev pub stored_word : JobWord
  stored_word = transfers.word_of run

  abbrev pub later_run : Run
  later_run = begun w.now y run.sequence run.words (received_with run)

  abbrev pub channels : List ChannelState
  channels = (stored s stored_word stored_word.goes run.transfer.incoming).channels

  abbrev pub wires : List (List (ℕ × ℕ))
  wires = with_item [] s.wires u (wire_at s u ++ on_wire y (transfers.word_of later_run) ∷ [])

  -- the word that begins
  abbrev pub word1 : Begun
  word1 = as_begun d u (Some going.pending) word

  -- ---- the word on the wire

  wide_is : (unit_at chip.serials u).width ≡ there.channel.width
  wide_is = wide ∙ ap (λ (x : Placed). x.channel.width) (next_channel d fits below chip w s h u few a p i)

  least : min there.channel.width 16 ≡ there.channel.width
  least = let le = narrow d fits below chip w s h u few a p i in omega (arith, le)

  width_is : word.width ≡ there.channel.width
  width_is = ap (λ (z : JobWord). z.width) (next_word d fits below chip w s h u few a p i) ∙ width_same d fits below chip w s h u few a p i

  sent_is : word.sent ≡ slice_index_or next.part.values p.word 0 % 2 ^ there.channel.width
  sent_is = ap (λ (z : JobWord). z.sent) (next_word d fits below chip w s h u few a p i) ∙ ap (λ n. slice_index_or next.part.values p.word 0 % 2 ^ n) (width_same d fits below chip w s h u few a p i)

  abbrev pub Selected : Chip → Type 0
  Selected c = (unit_at c.serials u).select ≡ select_of (select_by (job_of d (next_job d going.pending)))

  pub further_sends : Selected chip → SendsRight chip (Some word1) (Write (SerialData u) v)
  further_sends select = record {
    on = refl;
    word =
        ap (λ n. v % 2 ^ min n 16) wide_is ∙ ap (λ n. v % 2 ^ n) least ∙ ap (λ z. z % 2 ^ there.channel.width) (is_word run by.done.is ∙ sent_is)
        ∙ mod-mod (slice_index_or next.part.values p.word 0) (2 ^ there.channel.width) ∙ sym sent_is;
    width = ap (λ n. min n 16) wide_is ∙ least ∙ sym width_is;
    select = select;
  }

  -- ---- the unit after it

  pub unit1 : CarriesAgrees d (unit_at chip1.serials u) (Some later_run) (Some (moved_on going p came))
  unit1 = subst (λ x. CarriesAgrees d x (Some later_run) (Some (moved_on going p came))) (sym (unit_same chip u (serials.begun y chip.serials.time (unit_at chip.serials u)) h.size few))
      (begins w.now y (word_after (run_of d going under.transfer)), ap (λ (z : Run). Some (begun w.now y z.sequence z.words (received_with z))) under.runs, transfers1)
    where
      transfers1 : InTransfer (serials.begun y chip.serials.time (unit_at chip.serials u)).word (begins w.now y (word_after (run_of d going under.transfer)))
      transfers1 = record {
        start = h.outside.together.serials ∙ h.outside.now;
        incoming = λ e. ap (λ n. y % 2 ^ min n 16) wide_is ∙ ap (λ n. y % 2 ^ n) (least ∙ sym width_is) ∙ ap (λ (z : Run). y % 2 ^ (word_after z).width) under.runs;
        failed = refl;
      }

  pub selected1 : Selected chip → Selected chip1
  selected1 select = ap (λ (x : Serial). x.select) (unit_same chip u (serials.begun y chip.serials.time (unit_at chip.serials u)) h.size few) ∙ select

  -- ---- the moves that are owed

  abbrev Lets : Chip → Type 0
  Lets c = IsLet st at p next follows came c

  abbrev pub Keeps : Chip → Type 0
  Keeps c = IsKept st at p next follows came c

  -- the chip has what the beginning left beside the words
  pub record IsAfter (c : Chip) : Type 0 where
    pub serials : c.serials ≡ chip1.serials
    pub wiring : c.wiring ≡ chip.wiring
    pub control : c.control ≡ chip.control

  abbrev pub Destinations : Chip → Type 0
  Destinations c = (n j : ℕ) → j < length_by (channel_of d n) → word_of c (place_of (Destination n) j) ≡ word_at (slice_index_or channels n untouched).destination j

  own_position : may d (Store (position_word u) (packed_position p)) ≡ true
  own_position = may_store d fits (position_word u) (packed_position p) (own_first d (position_word u) (omega arith) (omega (arith, few)))

  -- the chip as the last of them leaves it
  abbrev pub placed_in : Chip → Chip
  placed_in c = chip_after c (Store (position_word u) (packed_position p)) 0

  module _ (into : ServePlace → PendingWrites) (owes : OwesWords d u into) (Done : Chip → Type 0) (over : (c : Chip) → Keeps c → IsAfter c → Destinations c → Done (placed_in c)) where
    abbrev pub Owes : ServePlace → Chip → Type 0
    Owes q c = (n : ℕ) × CommitsTo (spi_owing d) n (into q) c Done

    -- one move of the window
    step_to : (q : ServePlace) (c : Chip) (left : Option PendingWrites) → owes_move d (serve_move d u q) ≡ true → owed_left (into q) (value_of c (serve_move d u q)) ≡ left → CommitsAfter (spi_owing d) left (chip_after c (serve_move d u q) 0) Done → Owes q c
    step_to q c left own e rest = owed_step d Done (into q) (serve_move d u q) (owes.moves q) c left own e rest

    stand : (c : Chip) → Keeps c → IsAfter c → Destinations c → Owes (serve.Stand p) c
    stand c kept rest destinations = step_to (serve.Stand p) c None own_position (owes.stands p (value_of c (Store (position_word u) (packed_position p)))) (over c kept rest destinations)

    -- ---- the word is kept

    keep_is : keep_of d a ≡ kept_way here going.at.word (word_of chip) came
    keep_is =
        ap (λ t. keeping (channel_served d a.served) a.served.at.word t a.word) i.arrived.taken.taker
        ∙ ap (λ x. kept_way x a.served.at.word (word_of chip) a.word) (served_is d fits below chip w s h u few a.served by)
        ∙ ap (λ (q : Position). kept_way here q.word (word_of chip) a.word) (at_is d fits below chip w s h u few a.served by)
        ∙ ap (λ z. kept_way here going.at.word (word_of chip) z) came_is

    abbrev known : (k : Channel) × (channel_of d at.part.channel ≡ Some k)
    known = into_bank.here_known st at

    agrees_here : PartBy here.channel.internal (word_of chip) here going.at going.at.channel at.part
    agrees_here = (under.represents.parts going.at.channel first.part first.there).1

    -- what the machine stores of it
    abbrev here_word : JobWord
    here_word = positions.word_at d fits u (word_of chip) going under.for under.represents first.part going.at.word

    channels_are : channels ≡ (stored s here_word here_word.goes came).channels
    channels_are = ap (λ (x : JobWord). (stored s x x.goes run.transfer.incoming).channels) (word_is d fits below chip w s h u few a.served by) ∙ ap (λ (z : Run). (stored s here_word here_word.goes z.transfer.incoming).channels) under.runs

    goes_there : (g : Goes) → at.part.goes ≡ g → channels ≡ (stored s here_word g came).channels
    goes_there g f = channels_are ∙ ap (λ z. (stored s here_word z came).channels) f

    not_let : (j : ℕ) → SOURCES ≤ j → NotLet st at p next follows came j
    not_let j le = λ q. let k = there_known st at p next follows came in banks_low d fits next.part.channel k.0 k.1 (is_inside d fits next.part.channel k.0 k.1 q) Sent j le

    held_low : held_word here < SOURCES
    held_low = own_low d fits (held_word here) (own_held d fits at.part.channel known.0 known.1)

    -- destinations that are as they were
    same_destinations : (c : Chip) → ((n j : ℕ) → n < 16 → j < 64 → word_of c (place_of (Destination n) j) ≡ word_of chip (place_of (Destination n) j)) → channels ≡ s.channels → Destinations c
    same_destinations c same f n j lt = let small = few_places d fits n j lt in same n j small.0 small.1 ∙ (h.arrays n).destination j lt ∙ ap (λ cs. word_at (slice_index_or cs n untouched).destination j) (sym f)

    -- where an internal channel keeps it
    module _ (c : Chip) (l : Lets c) (rest : IsAfter c) where
      internal_destinations : here.channel.internal ≡ true → (c1 : Chip) → Keeps c1 → Destinations c1
      internal_destinations q c1 kept = same_destinations c1 (λ n j lt less. kept.others (place_of (Destination n) j) (not_let (place_of (Destination n) j) (omega arith)) (λ r. (banks_low d fits at.part.channel known.0 known.1 (is_inside d fits at.part.channel known.0 known.1 r) Received (place_of (Destination n) j) (omega arith), λ f. let low = held_low in absurd (omega (arith, low, f))), λ r. absurd (let f = sym q ∙ r in cc))) (goes_there ToChannel (subst (λ b. PartBy b (word_of chip) here going.at going.at.channel at.part) q agrees_here).goes)

      keep_first : here.channel.internal ≡ true → going.at.word ≡ 0 → Owes (serve.Keep (keeps.Hold here (free_bank (word_of chip (control_word here Received))) came) p) c
      keep_first q z =
          step_to (serve.Keep (keeps.Hold here b came) p) c (Some (into (serve.Keep (keeps.Fill here 0 b came) p))) (may_store d fits (held_word here) b (own_held d fits at.part.channel known.0 known.1)) (owes.keeps (keeps.Hold here b came) p (value_of c (keep_move (keeps.Hold here b came))))
          (step_to (serve.Keep (keeps.Fill here 0 b came) p) held_c (Some (into (serve.Stand p))) (may_store d fits (bank_word here Received b 0) came (banks_own d fits at.part.channel known.0 known.1 (is_inside d fits at.part.channel known.0 known.1 q) Received (bank_word here Received b 0) (into_bank.own_first st at known.0 known.1 (is_inside d fits at.part.channel known.0 known.1 q)))) (owes.keeps (keeps.Fill here 0 b came) p (value_of held_c (keep_move (keeps.Fill here 0 b came))))
          (stand (chip_after held_c (Store (bank_word here Received b 0) came) 0) kept (record { serials = rest.serials; wiring = rest.wiring; control = rest.control }) (internal_destinations q (chip_after held_c (Store (bank_word here Received b 0) came) 0) kept)))
        where
          b : ℕ
          b = free_bank (word_of chip (control_word here Received))

          held_c : Chip
          held_c = chip_after c (Store (held_word here) b) 0

          kept : Keeps (chip_after held_c (Store (bank_word here Received b 0) came) 0)
          kept = kept_first st at p next follows came c l q z

      keep_more : here.channel.internal ≡ true → 0 < going.at.word → Owes (serve.Keep (keeps.Fill here going.at.word (bank_of (word_of chip (held_word here))) came) p) c
      keep_more q z =
          step_to (serve.Keep (keeps.Fill here going.at.word b came) p) c (Some (into (serve.Stand p))) (may_store d fits (bank_word here Received b going.at.word) came (banks_own d fits at.part.channel known.0 known.1 (is_inside d fits at.part.channel known.0 known.1 q) Received (bank_word here Received b going.at.word) (into_bank.own_more st at known.0 known.1 (is_inside d fits at.part.channel known.0 known.1 q) z))) (owes.keeps (keeps.Fill here going.at.word b came) p (value_of c (keep_move (keeps.Fill here going.at.word b came))))
          (stand (chip_after c (Store (bank_word here Received b going.at.word) came) 0) kept (record { serials = rest.serials; wiring = rest.wiring; control = rest.control }) (internal_destinations q (chip_after c (Store (bank_word here Received b going.at.word) came) 0) kept))
        where
          b : ℕ
          b = bank_of (word_of chip (held_word here))

          kept : Keeps (chip_after c (Store (bank_word here Received b going.at.word) came) 0)
          kept = kept_more st at p next follows came c l q z

      -- an external channel's word goes to the user's destination, or nowhere
      module _ (q : here.channel.internal ≡ false) where
        external : ExternalAgrees (word_of chip) here going.at going.at.channel at.part
        external = subst (λ b. PartBy b (word_of chip) here going.at going.at.channel at.part) q agrees_here

        by_is : unpacked (word_of chip (held_word here)) ≡ external.by
        by_is = held_back d fits u (word_of chip) going under.for under.represents going.at.channel first.part first.there external

        goes_is : (b : Bool) → (unpacked (word_of chip (held_word here))).destination ≡ b → at.part.goes ≡ goes_by b
        goes_is b f = external.goes ∙ ap goes_by (ap (λ (z : SetUp). z.destination) (sym by_is) ∙ f)

        keep_nowhere : (unpacked (word_of chip (held_word here))).destination ≡ false → Owes (serve.Keep (keeps.Drop here) p) c
        keep_nowhere f =
            step_to (serve.Keep (keeps.Drop here) p) c (Some (into (serve.Stand p))) (may_store d fits (held_word here) 0 (own_held d fits at.part.channel known.0 known.1)) (owes.keeps (keeps.Drop here) p (value_of c (keep_move (keeps.Drop here))))
            (stand c (kept_nowhere st at p next follows came c l q) rest
            (same_destinations c (λ n j lt less. l.others (place_of (Destination n) j) (not_let (place_of (Destination n) j) (omega arith))) (goes_there Nowhere (goes_is false f))))

        keep_outside : (unpacked (word_of chip (held_word here))).destination ≡ true → Owes (serve.Keep (keeps.Store here going.at.word came) p) c
        keep_outside f =
            step_to (serve.Keep (keeps.Store here going.at.word came) p) c (Some (into (serve.Stand p))) (may_users d fits (destination_word here going.at.word) (destination_own d fits at.part.channel going.at.word within) (omega (arith, small.0, small.1))) (owes.keeps (keeps.Store here going.at.word came) p (value_of c (keep_move (keeps.Store here going.at.word came))))
            (stand (chip_after c (Store (destination_word here going.at.word) came) 0) kept (record { serials = rest.serials; wiring = rest.wiring; control = rest.control }) there_now)
          where
            within : going.at.word < length_by (channel_of d at.part.channel)
            within = subst (λ o. going.at.word < length_by o) (sym known.1) (subst (λ (z : Channel). going.at.word < z.length) (has_channel d fits at.part.channel known.0 known.1) (let lt = first.inside in let le = part_few d fits u (word_of chip) going under.for under.represents going.at.channel first.part first.there in omega (arith, lt, le)))

            small : (at.part.channel < 16) × (going.at.word < 64)
            small = few_places d fits at.part.channel going.at.word within

            kept : Keeps (chip_after c (Store (destination_word here going.at.word) came) 0)
            kept = kept_outside st at p next follows came c l q

            there_now : (n j : ℕ) → j < length_by (channel_of d n) → word_of (chip_after c (Store (destination_word here going.at.word) came) 0) (place_of (Destination n) j) ≡ word_at (slice_index_or channels n untouched).destination j
            there_now n j lt = split (same_or_other n at.part.channel) (same_or_other j going.at.word) ∙ ap (λ cs. word_at (slice_index_or cs n untouched).destination j) (sym (goes_there ToDestination (goes_is true f)))
              where
                apart : place_of (Destination n) j ≢ destination_word here going.at.word → word_of (chip_after c (Store (destination_word here going.at.word) came) 0) (place_of (Destination n) j) ≡ word_at (channel_at s n).destination j
                apart ne = stored_other c (destination_word here going.at.word) came 0 (place_of (Destination n) j) ne ∙ l.others (place_of (Destination n) j) (not_let (place_of (Destination n) j) (omega arith)) ∙ (h.arrays n).destination j lt

                split : (n ≡ at.part.channel) ⊎ (n ≢ at.part.channel) → (j ≡ going.at.word) ⊎ (j ≢ going.at.word) → word_of (chip_after c (Store (destination_word here going.at.word) came) 0) (place_of (Destination n) j) ≡ word_at (slice_index_or (stored s here_word ToDestination came).channels n untouched).destination j
                split (inl a1) (inl b1) =
                    subst (λ k. word_of (chip_after c (Store (destination_word here going.at.word) came) 0) (place_of (Destination k) j) ≡ word_at (slice_index_or (stored s here_word ToDestination came).channels k untouched).destination j) (sym a1)
                    (subst (λ k. word_of (chip_after c (Store (destination_word here going.at.word) came) 0) (place_of (Destination at.part.channel) k) ≡ word_at (slice_index_or (stored s here_word ToDestination came).channels at.part.channel untouched).destination k) (sym b1)
                    (stored_same c (destination_word here going.at.word) came 0 (omega (arith, small.0, small.1)) l.outside.all.words ∙ sym (stored_there s here_word came)))
                split (inr a1) b1 =
                    let less : j < 64 = (few_places d fits n j lt).1 in
                    apart (λ g1. a1 (omega (arith, g1, less, small.1))) ∙ sym (stored_elsewhere s here_word came n j (inl a1))
                split (inl a1) (inr b1) = apart (λ g1. b1 (omega (arith, g1, a1))) ∙ sym (stored_elsewhere s here_word came n j (inr b1))

      -- the word is kept, wherever it goes
      keep_owes : Owes (serve.Keep (keep_of d a) p) c
      keep_owes = subst (λ k. Owes (serve.Keep k p) c) (sym keep_is) (each_way here going.at.word (word_of chip) came (λ k. Owes (serve.Keep k p) c) keep_first keep_more (λ q f. keep_outside q f) (λ q f. keep_nowhere q f))

    -- ---- the pin of the next channel ends with its last word

    after_begin : IsAfter chip1
    after_begin = record { serials = refl; wiring = refl; control = refl }

    last_says : (n l : ℕ) → nat_lt (n + 1) l ≡ not (nat_le l (n + 1))
    last_says n l = grind (arith, nat_tests)

    is_last : there.channel.internal ≡ true → (b : Bool) → is_last_place there p.word ≡ b → nat_lt (p.word + 1) (length next.part.values) ≡ not b
    is_last q b f =
        let represents = subst (λ z. PartBy z (word_of chip) there going.at p.channel next.part) q (under.represents.parts p.channel second.part second.there).1 in
        ap (nat_lt (p.word + 1)) represents.count ∙ last_says p.word there.channel.length ∙ ap not f

    lets_by : (q : Bool) → there.channel.internal ≡ q → (b : Bool) → is_last_place there p.word ≡ b → Owes (lets_with d a p there) chip1
    lets_by true f true g1 =
        let cw : ℕ = control_word there Sent in
        subst (λ z. Owes (if z then serve.Let a p (releasing there Sent) else serve.Keep (keep_of d a) p) chip1) (sym (ap (λ z. z && is_last_place there p.word) f ∙ g1))
        (step_to (serve.Let a p (takes.Release cw)) chip1 (Some (into (serve.Let a p (takes.Free cw (word_of chip1 cw % 4))))) (own f) (owes.lets a p (takes.Release cw) (value_of chip1 (take_move (takes.Release cw))))
        (step_to (serve.Let a p (takes.Free cw (word_of chip1 cw % 4))) chip1 (Some (into (serve.Keep (keep_of d a) p))) (own f) (owes.lets a p (takes.Free cw (word_of chip1 cw % 4)) (value_of chip1 (take_move (takes.Free cw (word_of chip1 cw % 4)))))
        (keep_owes (chip_after chip1 (Store cw (word_of chip1 cw % 4)) 0) (let_ends st at p next follows came chip1 outside1 (λ j. refl) f (is_last f true g1)) (record { serials = refl; wiring = refl; control = refl }))))
      where
        own : there.channel.internal ≡ true → may d (Store (control_word there Sent) (word_of chip1 (control_word there Sent) % 4)) ≡ true
        own q = let k = there_known st at p next follows came in may_store d fits (control_word there Sent) (word_of chip1 (control_word there Sent) % 4) (banks_own d fits next.part.channel k.0 k.1 (is_inside d fits next.part.channel k.0 k.1 q) Sent (control_word there Sent) (own-control (trio_of there Sent)))
    lets_by true f false g1 =
        subst (λ z. Owes (if z then serve.Let a p (releasing there Sent) else serve.Keep (keep_of d a) p) chip1) (sym (ap (λ z. z && is_last_place there p.word) f ∙ g1))
        (keep_owes chip1 (let_none st at p next follows came chip1 outside1 (λ j. refl) (λ q. is_last f false g1)) after_begin)
    lets_by false f b g1 =
        subst (λ z. Owes (if z && is_last_place there p.word then serve.Let a p (releasing there Sent) else serve.Keep (keep_of d a) p) chip1) (sym f)
        (keep_owes chip1 (let_none st at p next follows came chip1 outside1 (λ j. refl) (λ q. absurd (let k = sym f ∙ q in cc))) after_begin)

    pub further_owes : Owes (lets_of d a p) chip1
    further_owes = subst (λ x. Owes (lets_with d a p x) chip1) (sym (next_channel d fits below chip w s h u few a p i)) (lets_by there.channel.internal refl (is_last_place there p.word) refl)

  -- ---- a frame that serves the line of a unit that starts jobs of pending sequences

  module _ (async : is_sync_unit d u ≡ false) where
    abbrev its : Pending
    its = under.job.pending

    runs : run_at s u ≡ Some run
    runs = sym (runs_so d fits below chip w s h u few async) ∙ by.done.is

    -- it is a job of a pending sequence, under its device
    asked : Contains s.pending its × ((unit_at chip.serials u).select ≡ select_of (select_by (job_of d (next_job d its))))
    asked = asked_by d fits below chip w s h u few async under.job under.is

    -- ---- the event

    -- the machine's state after it
    abbrev pub state1 : SpiState
    state1 = with_run_and s u later_run channels wires

    found : IsFound its.sequence s.pending
    found = found_entry its.sequence s.pending (is_there d fits below chip w s h s.pending its asked.0)

    pending_is : pending_of s run ≡ Some its
    pending_is = ap (λ (z : Run). find (is_of z.sequence) s.pending) under.runs ∙ found.is ∙ ap (λ z. Some z) (one_pending d fits below chip w s h found.entry its (all_pending (view s) found.entry found.there) (all_pending (view s) its asked.0) found.of)

    pub further_is : (spi_machine d).happens w s (Serves (26 + u) y) ≡ Some (outcome_with state1 (notes []) (Some word1))
    further_is =
        ap (λ q. if q then Some (served d w s (unit_of (26 + u)) y (machine.run_of s (unit_of (26 + u)))) else None) (is_ready d fits below chip w s h u few under.on (ap (has_done w.now) runs ∙ by.done.done))
        ∙ ap (λ o. Some (served d w s o y (machine.run_of s o))) (unit_line u few)
        ∙ ap (λ r. Some (served d w s (Some u) y r)) runs
        ∙ ap (λ q. Some (served_by d w s u y run q)) (goes_further d fits below chip w s h u few a p i)
        ∙ ap (λ o. Some (begins_on d (stored s stored_word stored_word.goes run.transfer.incoming) u y o later_run)) pending_is
        ∙ ap (λ z. Some (outcome_with (with_word z u y later_run) (notes []) (Some word1))) (stored_is s stored_word stored_word.goes run.transfer.incoming)

    pub asked_sends : SendsRight chip (Some word1) (Write (SerialData u) v)
    asked_sends = further_sends asked.1

    -- ---- the moves that are owed

    unit : UnitAgrees d (unit_at chip1.serials u) (Some later_run) (Some (moved_on under.job p came))
    unit = let x = unit1 in (x.0, x.1, x.2, selected1 asked.1)

    module _ (e : FrameRole) (owner : Origin Call) (acted : Option Answer) where
      abbrev Done : Chip → Type 0
      Done c = SpiRepresents d (cleared_of u owner acted ∷ below) c w state1

      over : (c : Chip) → Keeps c → IsAfter c → Destinations c → Done (placed_in c)
      over c kept rest destinations =
          let final : Chip = placed_in c in
          clears d below final w state1 u owner acted fits
          (run_agrees st at p next follows came final (words_after st at p next follows came c kept) async later_run channels wires run runs refl (stored_like s stored_word stored_word.goes run.transfer.incoming)
          (stands-move c w (Store (position_word u) (packed_position p)) 0 kept.outside) rest.wiring rest.control (ap (λ x. length x.units) rest.serials ∙ length-set chip.serials.units u _ ∙ h.size)
          (subst (λ x. UnitAgrees d (unit_at x u) (Some later_run) (Some (moved_on under.job p came))) (sym rest.serials) unit)
          (λ n ne. ap (λ x. unit_at x n) rest.serials ∙ unit_other chip u n (serials.begun y chip.serials.time (unit_at chip.serials u)) ne)
          (λ n j lt. stored_other c (position_word u) (packed_position p) 0 (place_of (Destination n) j) (λ f. omega (arith, f, few)) ∙ destinations n j lt)) (λ q none also for. let free = sym (item-same None s.units u (Some later_run)) ∙ none in cc)

      pub asked_owes : (n : ℕ) × CommitsTo (spi_owing d) n (Units (serving d e u (lets_of d a p))) chip1 Done
      asked_owes = further_owes (λ q. Units (serving d e u q)) (served_words d e u) Done over
