-- A job begins on a unit that is between jobs, whichever frame begins it: what stood before, under one name, and what the
-- unit does then.
-- From spi_sequences: words.FirstParts, bookkeeping.RanState, spi_sequences: words.WordsToState, ToStart.
-- Used by sending.services.SendBegun, words.PinnedBanks, sending.services.SendGoesOn and 3 more.
use Rattle.std.proofs.Common.{◌≡◌, ◌≢◌, ◌<◌, ◌==◌, [], ◌∷◌, if◌then◌else◌}
use Rattle.spi_laws.specs.starting.Terms
use Terms.{AllRight, as_read, BanksAgree, Channel, channel_at, channel_of, channels_of, external_part, ExternalAgrees}
use Terms.{false, first_parts, FitsSpi, Going, going_next, held_word, internal_part, InternalAgrees, is_for, is_off}
use Terms.{length, Memory, next_job, None, Option, packed, part_at, Pending, placed_of, Reservations, RunAgrees}
use Terms.{set_up_or, Some, some_words, source_word, SpiState, SpiTable, starts, true, view, word_of, ℕ}
use Rattle.spi_laws.specs.starting.laws.{bookkeeping.RanState.{debt_of, first_place}, ToStart.{ToStart}}

pub record ToBegin : Type 0 where
  pub d : SpiTable
  pub fits : FitsSpi d
  pub held : Reservations
  -- the state whose channels have the words that the job sends
  pub s : SpiState
  pub right : AllRight d s.mode s.channels held
  pub on : is_off s.mode ≡ false
  -- the unit, and the entry whose next job begins
  pub u : ℕ
  pub few : u < 2
  pub p : Pending
  pub for : is_for d u p ≡ true
  -- what the units do before
  pub going : ℕ → Option Going
  pub free : going u ≡ None
  pub theirs : (n : ℕ) (g : Going) → n < 2 → going n ≡ Some g → is_for d n g.pending ≡ true
  -- the words before its channels are made ready
  pub words : Memory
  pub runs : (n : ℕ) → n < 2 → n ≢ u → RunAgrees d words n (going n)
  pub banks : (b : ℕ) (k : Channel) → channel_of d b ≡ Some k → k.internal ≡ true → BanksAgree d held going words (view s) b k
  -- what is sent of each channel
  pub some : (b : ℕ) (k : Channel) → channel_of d b ≡ Some k → 0 < length (part_at d s b).values
  pub written : (b : ℕ) (k : Channel) → channel_of d b ≡ Some k → k.internal ≡ true → length (channel_at s b).written ≡ k.length
  pub inner : (b : ℕ) (k : Channel) → channel_of d b ≡ Some k → k.internal ≡ true → InternalAgrees (placed_of d b).channel (part_at d s b)
  pub outer : (b : ℕ) (k : Channel) → channel_of d b ≡ Some k → k.internal ≡ false → (m : Memory) (n : ℕ) → ((i : ℕ) → m (source_word (placed_of d b) i) ≡ words (source_word (placed_of d b) i))
      → m (held_word (placed_of d b)) ≡ packed (as_read (set_up_or k (channel_at s b).set_up)) → ExternalAgrees m (placed_of d b) first_place n (part_at d s b)

-- the job as its first word is in transfer
abbrev pub begun_going : ToBegin → Going
begun_going t = record { pending = t.p; parts = first_parts t.d t.s (channels_of t.d (next_job t.d t.p)); at = first_place; received = [] }

-- what the units do then
abbrev pub going_begun : ToBegin → (number : ℕ) → Option Going
going_begun t n = if n == t.u then Some (begun_going t) else t.going n

-- as a start begins the next job of a pending sequence
abbrev pub of_start : ToStart → ToBegin
of_start st = record {
  d = st.d;
  fits = st.fits;
  held = debt_of st.u st.owner st.acted ∷ st.below;
  s = st.s;
  right = st.h.right;
  on = st.h.right.0.1;
  u = st.u;
  few = st.h.right.0.0;
  p = starts st.p;
  for = st.for;
  going = st.h.going;
  free = st.free;
  theirs = λ n g lt e. (going_next st.d st.fits (debt_of st.u st.owner st.acted ∷ st.below) st.chip st.w st.s st.h n g lt e).2;
  words = word_of st.chip;
  runs = λ n lt ne. (st.h.words.on st.h.right.0.1).runs n lt;
  banks = st.h.words.banks;
  some = λ b k known. some_words st.d st.fits (debt_of st.u st.owner st.acted ∷ st.below) st.chip st.w st.s st.h st.h.right.0.1 b k known;
  written = λ b k known internal. (st.h.sizes st.h.right.0.1 b k known).written internal;
  inner = λ b k known internal. internal_part st.d st.fits (debt_of st.u st.owner st.acted ∷ st.below) st.chip st.w st.s st.h st.h.right.0.1 b k known internal;
  outer = λ b k known external m n same holds. external_part st.d st.fits (debt_of st.u st.owner st.acted ∷ st.below) st.chip st.w st.s st.h st.h.right.0.1 b k known external m first_place n (λ i lt. same i) holds;
}
