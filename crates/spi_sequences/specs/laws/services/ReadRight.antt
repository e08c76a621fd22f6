-- Spi_ReadIB: that it is right.
-- From services.ChannelSteps, words.SideWords, bookkeeping.RefinementRight, hardware.StableUnderHardware and 7 more.
-- Used by spi_driver: bookkeeping.Lawful, spi_driver: bookkeeping.UnpolledFrames and 4 more.
use Rattle.std.proofs.Common.{◌≡◌, ◌+◌, ◌-◌, ◌*◌, ◌%◌, ◌<◌, ◌≤◌, ◌==◌, ◌&&◌, ◌||◌, [], ◌∷◌, ◌++◌, ◌∙◌, if◌then◌else◌}
use Rattle.spi_sequences.specs.Terms
use Terms.{acts_by, Adding, agrees_after, AllRight, AllSend, and_parts, Answer, answers, ap, AreCarried, AreEnding}
use Terms.{arith, AssertedAt, bank_of, bank_word, Banks, begins_word, Bool, Call, Called, Channel, channel_at}
use Terms.{channel_of, Chip, chip_after, Contains, control_word, ended_by, EOk, error_by, false, first_items, FitsSpi}
use Terms.{FrameHistory, fresh_history, gap_at, gave, happened, has_ended, holds_at, is_closed, is_off, is_own_word}
use Terms.{is_shared, Is_this_frame, IsThisFrame, kept-word, length, length_by, length_push, List, LongBodies, lt_from}
use Terms.{MakesTo, Mask, may, MayStop, Memory, missed_after, moved, named_with, nat_lt, never_clean, newest-in, None}
use Terms.{one_more, Option, or_rest, Order, Origin, Outside, owes_nothing, own-control, own-word, pins, place_at}
use Terms.{Placed, placed_of, PointAssertion, put_held, PutRight, read_answer, ReadBody, ReadIb, Reading, ReadPlace}
use Terms.{ready, Received, refl, releases, Reservation, Reservations, resets_chip, RightOr, ShortensTo, slice_index}
use Terms.{Some, spi_bare, spi_basis, spi_machine, spi_owing, SpiRepresents, SpiState, SpiTable, stands-move, Store}
use Terms.{stored, subst, suc, sym, Take, take, take_all, take_gave, take_held, take_more, trio_of, TripleBuffer, true}
use Terms.{TurnsMask, Under, Unmask, value_of, view, whether_as, with_holds, Within, word_later, word_of, WORDS, World}
use Terms.{world_after, zero, ℕ}
use Rattle.word_shapes.specs.Banks.{pinning, releasing}
use Rattle.spi_sequences.specs.laws.bookkeeping.PendingWritesBounds.{take_less}
use Rattle.spi_sequences.specs.laws.bookkeeping.RefinementRight.{apart_agrees, frame_may}
use Rattle.spi_sequences.specs.laws.{hardware.SourceFilled.{own_low}, hardware.StableUnderHardware.{mode_later}}
use Rattle.spi_sequences.specs.laws.{hardware.StableUnderHardware.{none_in}, services.ChannelSteps.{ends_at, read_at}}
use Rattle.spi_sequences.specs.laws.services.ChannelSteps.{read_ends, read_further, read_move, read_pins}
use Rattle.spi_sequences.specs.laws.services.ChannelSteps.{read_releases, read_takes, read_took, read_word, read_work}
use Rattle.spi_sequences.specs.laws.{services.SetUpRight.{may_store}, words.SideWords.{banks_changed, beside_back}}
use Rattle.spi_sequences.specs.laws.words.SideWords.{beside_one, differs_by_store, IsBeside, IsLike, mine}
use Rattle.spi_sequences.specs.laws.words.SideWords.{none_readied, received_changed, stands_by_store, trio_fits}
use Rattle.spi_sequences.specs.laws.{words.WordsOfModule.{has_channel, own_banks}, words.WordsToState.{is_below}}
use Rattle.spi_sequences.specs.laws.words.WordsToState.{is_past, same_number}
use Rattle.word_shapes.specs.TripleBuffer as trio
use Rattle.word_shapes.specs.declared.take.Take.TheVariants as takes
use Rattle.spi_machine.specs.declared.call.Call.TheVariants as calls
use Rattle.spi_sequences.specs.declared.service.read.ReadPlace.TheVariants as read

-- ---- places

abbrev pub asks : ℕ → Call
asks c = calls.Channel c ReadIb

-- the frame reads this internal channel, of which no other one does
pub record IsReadAt (d : SpiTable) (x : Placed) (below : Reservations) (c : ℕ) (k : Channel) : Type 0 where
  pub known : channel_of d c ≡ Some k
  pub internal : k.internal ≡ true
  pub placed : x ≡ placed_of d c
  pub alone : take_held c below ≡ None

abbrev pub IsReader : SpiTable → ReadBody → Reservations → ℕ → Channel → Type 0
IsReader d r below c k = IsReadAt d r.placed below c k

-- its call finds no error, and the module is initialised
abbrev pub IsBefore : SpiTable → ReadBody → (off : Bool) → Reservations → Origin Call → FrameHistory → Type 0
IsBefore d r off below o t = (c : ℕ) × (k : Channel) × IsThisFrame (Called (asks c)) fresh_history o t × IsReader d r below c k × (error_by d (asks c) off false ≡ None) × (off ≡ false) × (r.words ≡ [])

-- it has acted with this answer
abbrev pub answered : List ℕ → FrameHistory
answered xs = record fresh_history { acted = Some (named_with EOk xs) }

abbrev pub IsAfter : SpiTable → ReadBody → (words : List ℕ → List ℕ → Type 0) → Reservations → Origin Call → FrameHistory → Type 0
IsAfter d r words below o t = (c : ℕ) × (k : Channel) × (xs : List ℕ) × IsThisFrame (Called (asks c)) (answered xs) o t × IsReader d r below c k × (length xs ≡ k.length) × (k.length ≤ 64) × (r.bank < 3) × words r.words xs

-- what it has read of it
abbrev pub IsNothing : List ℕ → List ℕ → Type 0
IsNothing ws xs = ws ≡ []

abbrev pub IsPart : List ℕ → List ℕ → Type 0
IsPart ws xs = (ws ≡ take (length ws) xs) × (length ws < length xs)

abbrev pub IsWhole : List ℕ → List ℕ → Type 0
IsWhole ws xs = ws ≡ xs

-- the pin is under way, by the control word
abbrev pub IsPinning : Placed → Memory → Take → Type 0
IsPinning x m (takes.Pin c) = c ≡ control_word x Received
IsPinning x m (takes.Hold c v b) = (c ≡ control_word x Received) × (v ≡ m c % 4 + 4 * (m c % 4 + 1)) × (b ≡ m c % 4)
IsPinning x m _ = ⊥

abbrev pub IsReleasing : Placed → Memory → Take → Type 0
IsReleasing x m (takes.Release c) = c ≡ control_word x Received
IsReleasing x m (takes.Free c v) = (c ≡ control_word x Received) × (v ≡ m c % 4)
IsReleasing x m _ = ⊥

abbrev pub pinned : ReadBody → List Reservation
pinned r = Reading r.placed.number r.bank ∷ []

abbrev pub read_spot_at : (d : SpiTable) → ReadBody → ReadPlace → PointAssertion (spi_basis d)
read_spot_at d r (read.Pin p) = Within (Under tt) [] (λ below f w s o t. IsBefore d r (is_off s.mode) below o t × IsPinning r.placed f.0 p)
read_spot_at d r read.Opens = Within (Under tt) (pinned r) (λ below f w s o t. IsAfter d r IsNothing below o t)
read_spot_at d r read.Load = Outside (pinned r) (λ below o t. IsAfter d r IsPart below o t)
read_spot_at d r read.Shut = Outside (pinned r) (λ below o t. IsAfter d r IsWhole below o t)
read_spot_at d r (read.Release p) = Within (Under tt) (pinned r) (λ below f w s o t. IsAfter d r IsWhole below o t × IsReleasing r.placed f.0 p)
read_spot_at d r read.Leave = Within (Under tt) [] (λ below f w s o t. IsAfter d r IsWhole below o t)
read_spot_at d r read.Over = Outside [] (λ below o t. ⊥)

abbrev pub read_fuel_at : ReadBody → ReadPlace → ℕ
read_fuel_at r (read.Pin p) = 10 + r.placed.channel.length + take_more p
read_fuel_at r read.Opens = 9 + r.placed.channel.length
read_fuel_at r read.Load = 8 + (r.placed.channel.length - length r.words)
read_fuel_at r read.Shut = 6
read_fuel_at r (read.Release p) = 4 + take_more p
read_fuel_at r read.Leave = 2
read_fuel_at r read.Over = 1

abbrev pub read_room_at : ReadPlace → ℕ
read_room_at (read.Pin p) = 1 + take_more p
read_room_at (read.Release p) = 1 + take_more p
read_room_at _ = 0

abbrev pub read_bodies : (d : SpiTable) → LongBodies (spi_basis d) ReadBody
read_bodies d = record { work_of = read_work; takes = read_takes; fuel = λ r. read_fuel_at r r.place; room = λ r. read_room_at r.place; clean = λ r. false; assertion = λ r. read_spot_at d r r.place }

-- ---- what is held

module _ (d : SpiTable) (fits : FitsSpi d) (below : Reservations) (chip : Chip) (w : World) (s : SpiState) (r : ReadBody) (c : ℕ) (k : Channel) (i : IsReader d r below c k) where
  number : r.placed.number ≡ c
  number = ap (λ x. x.number) i.placed

  len : r.placed.channel.length ≡ k.length
  len = ap (λ x. x.channel.length) i.placed ∙ ap (λ x. x.length) (has_channel d fits c k i.known)

  abbrev banks : TripleBuffer
  banks = trio_of (placed_of d c) Received

  is_one : (r.placed.number == c) ≡ true
  is_one = ap (λ n. n == c) number ∙ same_number c

  control : control_word r.placed Received ≡ banks.control
  control = ap (λ x. control_word x Received) i.placed

  -- the frame holds its pin
  abbrev holding : Option Answer → Reservations
  holding acted = record { by = Called (asks c); what = Reading r.placed.number r.bank; acted = acted } ∷ below

  takes_it : (xs : List ℕ) → take_held c (holding (Some (named_with EOk xs))) ≡ Some (record { bank = r.bank; kept = xs })
  takes_it xs = ap (λ q. or_rest (if q then Some (record { bank = r.bank; kept = xs }) else None) (take_held c below)) is_one

  aside : (acted : Option Answer) → IsBeside d fits c k i.known i.internal Received below (holding acted)
  aside acted = beside_one d fits c k i.known i.internal Received _ below is_one

  like : IsLike d fits c k i.known i.internal Received s.channels s
  like = record { source = λ n. refl; destination = λ n. refl; set_up = λ n. refl; written = λ n ne. refl; received = λ n ne. refl }

-- the act: the newest bank is pinned, and has what is answered
module _ (d : SpiTable) (fits : FitsSpi d) (below : Reservations) (chip : Chip) (w : World) (s : SpiState) (r : ReadBody) (c : ℕ) (k : Channel) (i : IsReader d r below c k) (on : is_off s.mode ≡ false) where
  abbrev readable : List ℕ
  readable = first_items 0 (length_by (channel_of d c)) (channel_at s c).received

  abbrev at : TripleBuffer
  at = banks d fits below chip w s r c k i

  abbrev has : Option Answer → Reservations
  has acted = holding d fits below chip w s r c k i acted

  abbrev word : ℕ
  word = word_of chip at.control % 4 + 4 * (word_of chip at.control % 4 + 1)

  -- the control word is stored, and what is held of the pin changes
  control_stored : (held held1 : Reservations) (v : ℕ) (h : SpiRepresents d held chip w s) → IsBeside d fits c k i.known i.internal Received held held1 → put_held d (view s).sources c false held1 ≡ put_held d (view s).sources c false held
      → AllRight d s.mode s.channels held1 → AllSend d chip w h.going s held1 → AreCarried (view s) held1 → (x : Banks) → trio.Stands at (stored (word_of chip) at.control v) x → x.newest ≡ (h.words.banks c k i.known i.internal).received.newest
      → x.take ≡ take_held c held1 → PutRight h.going (word_of chip) (placed_of d c) (put_held d (view s).sources c true held1) x.put → SpiRepresents d held1 (chip_after chip (Store at.control v) 0) w s
  control_stored held held1 v h beside puts right sending carried x stands newest reads keeps =
      let b = h.words.banks c k i.known i.internal in
      let none = none_readied d s.mode s.channels held on h.right in
      let differs = differs_by_store (mine d fits c k i.known i.internal Received) chip at.control v h.outside.all.words (own-control at) in
      banks_changed d fits c k i.known i.internal Received held held1 chip (chip_after chip (Store at.control v) 0) w s h on s.channels (like d fits below chip w s r c k i) (stands-move chip w (Store at.control v) 0 h.outside) differs beside (λ internal. (h.sizes on c k i.known).written internal) right sending carried
      (λ internal. received_changed d fits c k i.known i.internal held held1 chip (chip_after chip (Store at.control v) 0) h.going (view s) (view s) differs beside refl puts x
      (stands_by_store at chip at.control v x (trio_fits d fits c k i.known i.internal Received) h.outside.all.words (own-control at) stands)
      (λ p. newest ∙ b.readable none.1) (λ is. absurd (none_in _ (subst (λ xs. Contains xs (c, true)) (beside.readied ∙ none.0) is))) reads keeps b)

  pinned_now : SpiRepresents d below chip w s → r.bank ≡ word_of chip at.control % 4 → SpiRepresents d (has (Some (named_with EOk readable))) (chip_after chip (Store at.control word) 0) w s
  pinned_now h e =
      let b = h.words.banks c k i.known i.internal in
      let newest : b.received.newest ≡ readable =
      b.readable (none_readied d s.mode s.channels below on h.right).1 ∙ ap (λ o. first_items 0 (length_by o) (channel_at s c).received) (sym i.known) in
      control_stored below (has (Some (named_with EOk readable))) word h (aside d fits below chip w s r c k i (Some (named_with EOk readable))) refl ((ap (λ n. Called (asks n)) (sym (number d fits below chip w s r c k i)), refl, on), h.right) (tt, h.sending) h.carriers
      (pinning b.received) (pins at (word_of chip) b.received (trio_fits d fits c k i.known i.internal Received) (b.reads ∙ i.alone) b.receives) refl
      (ap (λ n. Some (record { bank = n; kept = b.received.newest })) (sym (newest-in at (word_of chip) b.received b.receives) ∙ sym e) ∙ ap (λ xs. Some (record { bank = r.bank; kept = xs })) newest ∙ sym (takes_it d fits below chip w s r c k i readable)) b.keeps

  -- the pin ends
  released_now : (acted : Option Answer) → SpiRepresents d (has acted) chip w s → SpiRepresents d below (chip_after chip (Store at.control (word_of chip at.control % 4)) 0) w s
  released_now acted h =
      let b = h.words.banks c k i.known i.internal in
      control_stored (has acted) below (word_of chip at.control % 4) h (beside_back d fits c k i.known i.internal Received below (has acted) (aside d fits below chip w s r c k i acted)) refl h.right.1 h.sending.1 h.carriers
      (releasing b.received) (releases at (word_of chip) b.received (trio_fits d fits c k i.known i.internal Received) b.receives) refl (sym i.alone) b.keeps

  -- a word of the pinned bank
  reads_word : (xs : List ℕ) (n : ℕ) → SpiRepresents d (has (Some (named_with EOk xs))) chip w s → n < k.length → word_of chip (bank_word r.placed Received r.bank n) ≡ slice_index xs n
  reads_word xs n h lt =
      let b = h.words.banks c k i.known i.internal in
      ap (λ x. word_of chip (bank_word x Received r.bank n)) i.placed
      ∙ kept-word at (word_of chip) b.received (record { bank = r.bank; kept = xs }) n b.receives (b.reads ∙ takes_it d fits below chip w s r c k i xs) (subst (λ x. n < x.length) (sym (has_channel d fits c k i.known)) lt)

-- ---- the steps

module _ (d : SpiTable) (fits : FitsSpi d) (below : Reservations) (chip : Chip) (w : World) (s : SpiState) (r : ReadBody) (o : Origin Call) (y : ℕ) (t : FrameHistory) (m : ℕ → Bool) where
  -- a step at a place, by what the frame ends with
  abbrev StepBy : ReadPlace → Option Answer → Type 0
  StepBy p None = MakesTo (spi_basis d) (read_bodies d) below chip (chip_after chip (read_move r p) y) w s o (read_move r p) false (value_of chip (read_move r p)) y t m (read_took r p (value_of chip (read_move r p)))
  StepBy p (Some a) = (read_move r p ≡ Unmask) × SpiRepresents d below (chip_after chip Unmask y) w s × MayStop (spi_basis d) o t m (owes_nothing a)

  abbrev StepAt : ReadPlace → Type 0
  StepAt p = StepBy p (ended_by (read_ends (read_took r p (value_of chip (read_move r p))).0) (read_took r p (value_of chip (read_move r p))).1.done)

  abbrev PlaceAt : ReadPlace → Type 0
  PlaceAt p = agrees_after (spi_bare d) (spi_owing d) (with_holds o t.acted (holds_at (read_spot_at d r p)) below) (gap_at (read_spot_at d r p)) chip w s × place_at (read_spot_at d r p) below ((spi_basis d).foot chip) w s o t

-- after a word, or before the first one
onward : (d : SpiTable) (below : Reservations) (chip : Chip) (w : World) (s : SpiState) (r : ReadBody) (ws : List ℕ) (c : ℕ) (k : Channel) (xs : List ℕ) → IsReader d r below c k → r.placed.channel.length ≡ k.length → length xs ≡ k.length → k.length ≤ 64 → r.bank < 3
    → ws ≡ take (length ws) xs → length ws ≤ length xs → SpiRepresents d (record { by = Called (asks c); what = Reading r.placed.number r.bank; acted = Some (named_with EOk xs) } ∷ below) chip w s
    → AssertedAt (spi_basis d) (read_bodies d) below chip w s (record r { words = ws; place = read_further r.placed ws }) (Called (asks c)) (answered xs)
onward d below chip w s r ws c k xs i len count few lt part le h = whether_as (nat_lt (length ws) 64) (λ a. At (if a && nat_lt (length ws) r.placed.channel.length then read.Load else read.Shut))
    (λ ea. whether_as (nat_lt (length ws) r.placed.channel.length) (λ b. At (if b then read.Load else read.Shut))
    (λ eb. (h, (c, k, xs, Is_this_frame, i, count, few, lt, (part, let less = is_below (length ws) r.placed.channel.length eb in omega (arith, less, len, count)))))
    (λ eb. whole (let past = is_past (length ws) r.placed.channel.length eb in omega (arith, past, le, len, count))))
    (λ ea. whole (let past = is_past (length ws) 64 ea in omega (arith, past, le, few, count)))
  where
    At : ReadPlace → Type 0
    At p = AssertedAt (spi_basis d) (read_bodies d) below chip w s (record r { words = ws; place = p }) (Called (asks c)) (answered xs)

    whole : length ws ≡ length xs → At read.Shut
    whole e = (h, (c, k, xs, Is_this_frame, i, count, few, lt, part ∙ take_all (length ws) xs (omega (arith, e))))

-- the place after a word ends no frame
further_goes : (x : Placed) (xs ws : List ℕ) → ended_by (ends_at (read_further x xs) ws) None ≡ None
further_goes x xs ws = whether_as (nat_lt (length xs) 64 && nat_lt (length xs) x.channel.length) (λ q. ended_by (ends_at (if q then read.Load else read.Shut) ws) None ≡ None)
    (λ _. refl)
    (λ _. refl)

pub length-first : (n : ℕ) (xs : List ℕ) → length (first_items 0 n xs) ≡ n
length-first zero xs = refl
length-first (suc n) [] = ap suc (length-first n [])
length-first (suc n) (x ∷ xs) = ap suc (length-first n xs)

-- each step is right
module _ (d : SpiTable) (fits : FitsSpi d) (below : Reservations) (chip : Chip) (w : World) (s : SpiState) (r : ReadBody) (y : ℕ) (m : ℕ → Bool) where
  -- the act
  pins_now : (c1 v b : ℕ) (o : Origin Call) (t : FrameHistory) → SpiRepresents d below chip w s → IsBefore d r (is_off s.mode) below o t → IsPinning r.placed (word_of chip) (takes.Hold c1 v b) → StepAt d fits below chip w s r o y t m (read.Pin (takes.Hold c1 v b))
  pins_now c1 v b o t h (c, k, Is_this_frame, i, clear, on, none) (at, is, bank) =
      let after : ReadBody = record r { bank = b % 4; place = read.Opens } in
      let tr : TripleBuffer = banks d fits below chip w s after c k i in
      let same : c1 ≡ tr.control = at ∙ control d fits below chip w s r c k i in
      let xs : List ℕ = readable d fits below chip w s after c k i on in
      let bank_is : b % 4 ≡ word_of chip tr.control % 4 = ap (λ n. n % 4) (bank ∙ ap (λ j. word_of chip j % 4) same) ∙ omega arith in
      let newest : length xs ≡ k.length = ap (λ o. length (first_items 0 (length_by o) (channel_at s c).received)) i.known ∙ length-first k.length (channel_at s c).received in
      let x = h.words.banks c k i.known i.internal in
      let n = newest-in tr (word_of chip) x.received x.receives in
      let lt = x.receives.below in
      let small : b % 4 < 3 = omega (arith, bank_is, n, lt) in
      subst (λ j. StepAt d fits below chip w s r (Called (asks c)) y fresh_history m (read.Pin (takes.Hold j v b))) (sym same)
      (subst (λ n. StepAt d fits below chip w s r (Called (asks c)) y fresh_history m (read.Pin (takes.Hold tr.control n b))) (sym (is ∙ ap (λ j. word_of chip j % 4 + 4 * (word_of chip j % 4 + 1)) same)) (record {
        may = refl;
        stands = tt;
        state = s;
        told = answers (read_answer (channel_of d c) (channel_at s c));
        begins = None;
        is = ap (λ e. Some (acts_by d s (asks c) e)) clear;
        sends = tt;
        acts = tt;
        reset = refl;
        next = (pinned_now d fits below chip w s after c k i on h bank_is, (c, k, xs, Is_this_frame, i, newest, (fits.channels c k i.known).few, small, none));
      }))

  read_step : (p : ReadPlace) (o : Origin Call) (t : FrameHistory) → PlaceAt d fits below chip w s r o y t m p → StepAt d fits below chip w s r o y t m p
  read_step (read.Pin (takes.Pin c1)) o t (h, (before, at)) = (h, (before, (at, refl, refl)))
  read_step (read.Pin (takes.Hold c1 v b)) o t (h, (before, at)) = pins_now c1 v b o t h before at
  read_step (read.Pin _) o t (h, (before, at)) = absurd at
  read_step read.Opens o t (h, (c, k, xs, Is_this_frame, i, count, few, lt, none)) =
      subst (λ a. StepBy d fits below chip w s r (Called (asks c)) y (answered xs) m read.Opens a) (sym (further_goes r.placed r.words r.words))
      (onward d below (chip_after chip Unmask y) w s r r.words c k xs i (len d fits below chip w s r c k i) count few lt (none ∙ sym (ap (λ ws. take (length ws) xs) none)) (let n = ap length none in omega (arith, n)) (apart_agrees d fits _ chip w s Unmask y refl h))
  read_step read.Load o t (h, (c, k, xs, Is_this_frame, i, count, few, lt, (part, less))) =
      let v : ℕ = word_of chip (bank_word r.placed Received r.bank (length r.words)) in
      let word_is : read_word r.words v ≡ r.words ++ v ∷ [] = ap (λ b. if b then r.words ++ v ∷ [] else r.words) (lt_from (length r.words) 64 (omega (arith, less, count, few))) in
      let longer : length (r.words ++ v ∷ []) ≡ length r.words + 1 = length_push r.words v in
      let is : v ≡ slice_index xs (length r.words) = reads_word d fits below chip w s r c k i h.right.0.2 xs (length r.words) h (omega (arith, less, count)) in
      let more : r.words ++ v ∷ [] ≡ take (length (r.words ++ v ∷ [])) xs =
      ap (λ ws. ws ++ v ∷ []) part ∙ ap (λ n. take (length r.words) xs ++ n ∷ []) is ∙ sym (one_more xs (length r.words) 0 less) ∙ ap (λ n. take n xs) (sym longer) in
      subst (λ a. StepBy d fits below chip w s r (Called (asks c)) y (answered xs) m read.Load a) (sym (further_goes r.placed (read_word r.words v) (read_word r.words v)))
      (subst (λ ws. AssertedAt (spi_basis d) (read_bodies d) below chip w s (record r { words = ws; place = read_further r.placed ws }) (Called (asks c)) (answered xs)) (sym word_is)
      (onward d below chip w s r (r.words ++ v ∷ []) c k xs i (len d fits below chip w s r c k i) count few lt more (omega (arith, longer, less)) h))
  read_step read.Shut o t (h, after) = (apart_agrees d fits _ chip w s Mask y refl h, (after, refl))
  read_step (read.Release (takes.Release c1)) o t (h, (after, at)) = (h, (after, (at, refl)))
  read_step (read.Release (takes.Free c1 v)) o t (h, ((c, k, xs, Is_this_frame, i, count, few, lt, all), (at, is))) =
      let same = at ∙ control d fits below chip w s r c k i in (
        subst (λ j. SpiRepresents d below (chip_after chip (Store j v) y) w s) (sym same) (subst (λ n. SpiRepresents d below (chip_after chip (Store (banks d fits below chip w s r c k i).control n) y) w s) (sym (is ∙ ap (λ j. word_of chip j % 4) same)) (released_now d fits below chip w s r c k i h.right.0.2 (Some (named_with EOk xs)) h)),
        (c, k, xs, Is_this_frame, i, count, few, lt, all),
      )
  read_step (read.Release _) o t h = absurd h.1.1
  read_step read.Leave o t (h, (c, k, xs, Is_this_frame, i, count, few, lt, all)) = (refl, apart_agrees d fits below chip w s Unmask y refl h, record { may = (ap (λ ws. Some (named_with EOk ws)) (sym all), refl); served = false; owed = refl; shown = λ e. absurd (cc); report = refl })
  read_step read.Over o t (h, none) = absurd none

-- ---- the bodies

further_less : (r : ReadBody) (ws : List ℕ) (n : ℕ) → 7 < n → (nat_lt (length ws) r.placed.channel.length ≡ true → 8 + (r.placed.channel.length - length ws) < n) → read_fuel_at (record r { words = ws; place = read_further r.placed ws }) (read_further r.placed ws) < n
further_less r ws n many more = whether_as (nat_lt (length ws) 64 && nat_lt (length ws) r.placed.channel.length) (λ q. read_fuel_at (record r { words = ws; place = if q then read.Load else read.Shut }) (if q then read.Load else read.Shut) < n)
    (λ e. more (and_parts (nat_lt (length ws) 64) (nat_lt (length ws) r.placed.channel.length) e).1)
    (λ e. omega (arith, many))

read_less : (r : ReadBody) (p : ReadPlace) (x : ℕ) → ShortensTo (read_fuel_at r p) (read_fuel_at (read_took r p x).0 (read_took r p x).0.place) (read_took r p x).1.done
read_less r (read.Pin p) x = whether_as (has_ended (take_gave p x)) (λ q. let z = read_pins r p x (bank_of (gave (take_gave p x))) q in ShortensTo (10 + r.placed.channel.length + take_more p) (read_fuel_at z.0 z.0.place) z.1.done)
    (λ e. omega arith)
    (λ e. let lt = take_less p x e in omega (arith, lt))
read_less r read.Opens x = further_less r r.words (9 + r.placed.channel.length) (omega arith) (λ e. omega arith)
read_less r read.Load x = whether_as (nat_lt (length r.words) 64) (λ q. let ws = if q then r.words ++ x ∷ [] else r.words in read_fuel_at (record r { words = ws; place = read_further r.placed ws }) (read_further r.placed ws) < 8 + (r.placed.channel.length - length r.words))
    (λ e. further_less r (r.words ++ x ∷ []) (8 + (r.placed.channel.length - length r.words)) (omega arith) (λ f. let n = length_push r.words x in let lt = is_below (length (r.words ++ x ∷ [])) r.placed.channel.length f in omega (arith, n, lt)))
    (λ e. subst (λ b. read_fuel_at (record r { words = r.words; place = if b && nat_lt (length r.words) r.placed.channel.length then read.Load else read.Shut }) (if b && nat_lt (length r.words) r.placed.channel.length then read.Load else read.Shut) < 8 + (r.placed.channel.length - length r.words)) (sym e) (omega arith))
read_less r (read.Release p) x = whether_as (has_ended (take_gave p x)) (λ q. let z = read_releases r p x q in ShortensTo (4 + take_more p) (read_fuel_at z.0 z.0.place) z.1.done)
    (λ e. omega arith)
    (λ e. let lt = take_less p x e in omega (arith, lt))
read_less r _ x = omega arith

module _ (d : SpiTable) where
  -- the place after a word is with the mask open
  further_open : (r : ReadBody) (x : Placed) (ws : List ℕ) → is_closed (read_spot_at d r (read_further x ws)) ≡ false
  further_open r x ws = whether_as (nat_lt (length ws) 64 && nat_lt (length ws) x.channel.length) (λ q. is_closed (read_spot_at d r (if q then read.Load else read.Shut)) ≡ false)
      (λ _. refl)
      (λ _. refl)

  abbrev TurnsAt : ReadBody → ReadPlace → ℕ → Type 0
  TurnsAt r p x = let z = read_took r p x in TurnsMask 32 (is_closed (read_spot_at d r p)) (is_closed (read_spot_at d z.0 z.0.place)) (read_room_at p) (read_room_at z.0.place) (read_move r p) z.1.event z.1.done

  read_turns : (below : Reservations) (w : World) (s : SpiState) (f : (spi_basis d).Footprint) (o : Origin Call) (t : FrameHistory) (r : ReadBody) (p : ReadPlace) (x : ℕ) → place_at (read_spot_at d r p) below f w s o t → TurnsAt r p x
  read_turns below w s f o t r (read.Pin (takes.Pin c)) x h = (refl, omega arith)
  read_turns below w s f o t r (read.Pin (takes.Hold c v b)) x h = (refl, omega arith)
  read_turns below w s f o t r read.Opens x h = (refl, further_open (read_at r (read_further r.placed r.words)) r.placed r.words, refl, refl)
  read_turns below w s f o t r read.Load x h = further_open (record r { words = read_word r.words x; place = read_further r.placed (read_word r.words x) }) r.placed (read_word r.words x)
  read_turns below w s f o t r read.Shut x h = (refl, refl, omega arith, refl, refl)
  read_turns below w s f o t r (read.Release (takes.Release c)) x h = (refl, omega arith)
  read_turns below w s f o t r (read.Release (takes.Free c v)) x h = (refl, omega arith)
  read_turns below w s f o t r read.Leave x h = (refl, refl, refl, refl)
  read_turns below w s f o t r read.Over x h = absurd h
  read_turns below w s f o t r _ x h = absurd h.1

  module _ (fits : FitsSpi d) where
    own_control_of : (below : Reservations) (r : ReadBody) (c : ℕ) (k : Channel) → IsReader d r below c k → is_own_word d (control_word r.placed Received) ≡ true
    own_control_of below r c k i = ap (λ x. is_own_word d (control_word x Received)) i.placed ∙ own_banks d fits c k i.known i.internal Received _ (own-control (trio_of (placed_of d c) Received))

    read_own : (below : Reservations) (w : World) (s : SpiState) (f : (spi_basis d).Footprint) (o : Origin Call) (t : FrameHistory) (r : ReadBody) (p : ReadPlace) → place_at (read_spot_at d r p) below f w s o t → is_shared (read_move r p) || may d (read_move r p) ≡ true
    read_own below w s f o t r (read.Pin (takes.Pin j)) ((c, k, being, i, clear, on, none), at) = may_store d fits j 0 (ap (is_own_word d) at ∙ own_control_of below r c k i)
    read_own below w s f o t r (read.Pin (takes.Hold j v b)) ((c, k, being, i, clear, on, none), at) = may_store d fits j v (ap (is_own_word d) at.0 ∙ own_control_of below r c k i)
    read_own below w s f o t r read.Opens h = refl
    read_own below w s f o t r read.Load (c, k, xs, being, i, count, few, lt, (part, less)) =
        may_store d fits _ 0 (ap (λ x. is_own_word d (bank_word x Received r.bank (length r.words))) i.placed ∙ own_banks d fits c k i.known i.internal Received _ (own-word (trio_of (placed_of d c) Received) r.bank (length r.words) lt (let n = ap (λ x. x.length) (has_channel d fits c k i.known) in omega (arith, less, count, n))))
    read_own below w s f o t r read.Shut h = refl
    read_own below w s f o t r (read.Release (takes.Release j)) ((c, k, xs, being, i, count, few, lt, all), at) = may_store d fits j 0 (ap (is_own_word d) at ∙ own_control_of below r c k i)
    read_own below w s f o t r (read.Release (takes.Free j v)) ((c, k, xs, being, i, count, few, lt, all), at) = may_store d fits j v (ap (is_own_word d) at.0 ∙ own_control_of below r c k i)
    read_own below w s f o t r read.Leave h = refl
    read_own below w s f o t r read.Over h = absurd h
    read_own below w s f o t r _ h = absurd h.1

    before_later : (w : World) (s : SpiState) (order : Order) (r : ReadBody) (below : Reservations) (o : Origin Call) (t : FrameHistory) → IsBefore d r (is_off s.mode) below o t → IsBefore d r (is_off (moved d w s order).mode) below o t
    before_later w s order r below o t h = subst (λ mode. IsBefore d r (is_off mode) below o t) (sym (mode_later d w s order)) h

    read_later : (below : Reservations) (chip : Chip) (w : World) (s : SpiState) (order : Order) (o : Origin Call) (t : FrameHistory) (r : ReadBody) (p : ReadPlace) → length chip.words ≡ WORDS → place_at (read_spot_at d r p) below ((spi_basis d).foot chip) w s o t → place_at (read_spot_at d r p) below ((spi_basis d).foot (happened chip order)) (world_after w chip.clock.rate order) (moved d w s order) o t
    read_later below chip w s order o t r (read.Pin (takes.Pin j)) whole (before, at) = (before_later w s order r below o t before, at)
    read_later below chip w s order o t r (read.Pin (takes.Hold j v b)) whole ((c, k, being, i, clear, on, none), (at, is, bank)) =
        let same = word_later chip order j whole (own_low d fits j (ap (is_own_word d) at ∙ own_control_of below r c k i)) in
        (before_later w s order r below o t (c, k, being, i, clear, on, none), (at, is ∙ ap (λ n. n % 4 + 4 * (n % 4 + 1)) (sym same), bank ∙ ap (λ n. n % 4) (sym same)))
    read_later below chip w s order o t r (read.Pin _) whole h = absurd h.1
    read_later below chip w s order o t r (read.Release (takes.Release j)) whole h = h
    read_later below chip w s order o t r (read.Release (takes.Free j v)) whole ((c, k, xs, being, i, count, few, lt, all), (at, is)) =
        let same = word_later chip order j whole (own_low d fits j (ap (is_own_word d) at ∙ own_control_of below r c k i)) in
        ((c, k, xs, being, i, count, few, lt, all), (at, is ∙ ap (λ n. n % 4) (sym same)))
    read_later below chip w s order o t r (read.Release _) whole h = absurd h.1
    read_later below chip w s order o t r read.Over whole h = absurd h
    read_later below chip w s order o t r _ whole h = h

    read_calm : (r : ReadBody) (p : ReadPlace) → (resets_chip (read_move r p) ≡ false) × (begins_word (read_move r p) ≡ false)
    read_calm r (read.Pin (takes.Pin j)) = (refl, refl)
    read_calm r (read.Release (takes.Pin j)) = (refl, refl)
    read_calm r _ = (refl, refl)

    -- no place of a read looks for a line
    looks_not : (r : ReadBody) (p : ReadPlace) (ready : ℕ → Bool) (t : FrameHistory) (Then : FrameHistory → Type 0) → Then t → Adding (read_spot_at d r p) ready t Then
    looks_not r (read.Pin p) ready t Then h = h
    looks_not r _ ready t Then h = h

    looking : (below : Reservations) (chip : Chip) (w : World) (s : SpiState) (r : ReadBody) (o : Origin Call) (y : ℕ) (t : FrameHistory) (m : ℕ → Bool) (a : Option Answer) → StepBy d fits below chip w s r o y t (missed_after (spi_machine d) w s m) r.place a → RightOr (spi_basis d) (read_bodies d) below chip w s r o y t m a
    looking below chip w s r o y t m None h = looks_not r r.place (ready w s) t _ h
    looking below chip w s r o y t m (Some a) h = h

    pub read_right : AreEnding (spi_basis d) (read_bodies d) read_ends
    read_right = record {
      own = λ below chip w s r o t h. frame_may d o (read_work r) (read_own below w s ((spi_basis d).foot chip) o t r r.place h.1);
      turns = λ below chip w s r o t h. read_turns below w s ((spi_basis d).foot chip) o t r r.place (value_of chip (read_work r)) h.1;
      steps = λ below chip w s r o y t m come few h. looking below chip w s r o y t m (ended_by (read_ends (read_took r r.place (value_of chip (read_move r r.place))).0) (read_took r r.place (value_of chip (read_move r r.place))).1.done) (read_step d fits below chip w s r y (missed_after (spi_machine d) w s m) r.place o t h);
      later = λ below chip w s order r o t come shut h. read_later below chip w s order o t r r.place (words_by r r.place below chip w s _ h.0) h.1;
      calm = λ below chip w s r o t h e. read_calm r r.place;
      shortens = λ r x. read_less r r.place x;
      cleans = λ r x. never_clean (read_work r) r (read_takes r x);
    }
      where
        words_by : (r : ReadBody) (p : ReadPlace) (below : Reservations) (chip : Chip) (w : World) (s : SpiState) (held : Reservations) → agrees_after (spi_bare d) (spi_owing d) held (gap_at (read_spot_at d r p)) chip w s → length chip.words ≡ WORDS
        words_by r (read.Pin p) below chip w s held h = h.outside.all.words
        words_by r _ below chip w s held h = h.outside.all.words
