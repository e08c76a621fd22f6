-- Spi_WriteIB: that it is right.
-- From words.SideWords, services.ChannelSteps, words.WordsOfModule, hardware.StableUnderHardware and 8 more.
-- Used by spi_driver: bookkeeping.Lawful, services.InitRight, spi_driver: bookkeeping.UnpolledFrames and 5 more.
use Rattle.std.proofs.Common.{◌≡◌, ◌+◌, ◌-◌, ◌*◌, ◌/◌, ◌%◌, ◌<◌, ◌≤◌, ◌==◌, ◌||◌, [], ◌∷◌, ◌++◌, ◌∙◌, if◌then◌else◌}
use Rattle.spi_sequences.specs.Terms
use Terms.{acts_by, AllRight, AllSend, answers, ap, AreCarried, AreLong, arith, AssertedAt, bank_word, Banks}
use Terms.{begins_word, Bool, Call, Called, Channel, channel-seen, channel_at, channel_of, ChannelState, Chip}
use Terms.{chip_after, chooses, choosing, commits, committing, Contains, control_word, DiffersIn, EOk, error_by, false}
use Terms.{filling, fills, first_items, FitsSpi, FrameHistory, free_bank, fresh_history, get_or-replicate, happened}
use Terms.{has_ended, is_closed, is_off, is_own_word, is_shared, is_some, Is_this_frame, IsReady, IsThisFrame}
use Terms.{item-other, item-same, length, length-replicate, length-take-le, length_by, List, Load, LongBodies, lt_from}
use Terms.{Mask, may, Memory, moved, named, nat_lt, nat_tests, never_clean, None, Null, Option, or_rest, Order, Origin}
use Terms.{Outside, own-control, own-word, place_at, place_of, placed_of, PointAssertion, Pointer, Put, put_gave}
use Terms.{put_held, put_left, put_more, Putting, refl, Reservation, Reservations, resets_chip, Right, Sent, Shortens}
use Terms.{slice_index_or, Some, Source, source_word, spi_basis, SpiRepresents, SpiState, SpiTable, stands-move}
use Terms.{StandsIn, Store, subst, suc, sym, take, take_all, take_held, TakeRight, to_write, trio_of, TripleBuffer}
use Terms.{true, TurnsTo, Under, Unmask, untouched, Users, value_of, view, whether_as, with_channel, Within, word_later}
use Terms.{word_of, words_from, World, world_after, WriteBody, WriteIb, Writing, Written, written_from, zero, ℕ}
use Rattle.std.proofs.lemmas.List.{take_more}
use Rattle.spi_sequences.specs.laws.bookkeeping.RefinementRight.{apart_agrees, frame_may}
use Rattle.spi_sequences.specs.laws.{hardware.SourceFilled.{own_low}, hardware.StableUnderHardware.{mode_later}}
use Rattle.spi_sequences.specs.laws.{hardware.StableUnderHardware.{none_in, pointwise}, services.ChannelSteps.{word_by}}
use Rattle.spi_sequences.specs.laws.services.ChannelSteps.{write_commits, write_from, write_takes, write_work}
use Rattle.spi_sequences.specs.laws.{services.ReadRight.{length-first}, services.SetUpRight.{may_store, may_users}}
use Rattle.spi_sequences.specs.laws.{words.SameWords.{right_as}, words.SideWords.{banks_changed, beside_back}}
use Rattle.spi_sequences.specs.laws.words.SideWords.{beside_one, beside_then, differs_by_store, differs_none}
use Rattle.spi_sequences.specs.laws.words.SideWords.{IsBeside, IsLike, mine, none_readied, sent_changed}
use Rattle.spi_sequences.specs.laws.{words.SideWords.{stands_by_store, trio_fits}, words.WordsOfModule.{has_channel}}
use Rattle.spi_sequences.specs.laws.words.WordsOfModule.{of_sixteen, own_banks, source_own}
use Rattle.spi_sequences.specs.laws.words.WordsToState.{is_below, is_past, same_number}
use Rattle.word_shapes.specs.TripleBuffer as trio
use Rattle.word_shapes.specs.declared.put.Put.TheVariants as puts
use Rattle.spi_machine.specs.declared.call.Call.TheVariants as calls
use Rattle.spi_sequences.specs.declared.service.write.WriteBody.TheVariants as write

-- ---- the words that are written

pub first-at : (n : ℕ) (xs : List ℕ) (i : ℕ) → i < n → slice_index_or (first_items 0 n xs) i 0 ≡ slice_index_or xs i 0
first-at zero xs i lt = absurd (omega (arith, lt))
first-at (suc n) [] (suc i) lt = first-at n [] i (omega (arith, lt))
first-at (suc n) (x ∷ xs) (suc i) lt = first-at n xs i (omega (arith, lt))
first-at _ _ _ lt = refl

first-all : (n : ℕ) (xs : List ℕ) → length xs ≡ n → first_items 0 n xs ≡ xs
first-all zero [] e = refl
first-all (suc n) (x ∷ xs) e = ap (λ ys. x ∷ ys) (first-all n xs (omega (arith, e)))
first-all _ _ e = absurd (omega (arith, e))

from_length : (p : Pointer) (k : Channel) (x : ChannelState) → length (words_from p k.length k x) ≡ k.length
from_length Users k x = length-first k.length x.source
from_length Null k x = length-replicate k.length k.default_data

from_source : (p : Pointer) (k : Channel) (x : ChannelState) → words_from p k.length k (record untouched { source = x.source }) ≡ words_from p k.length k x
from_source Users k x = refl
from_source Null k x = refl

-- ---- places

abbrev pub asks : ℕ → Pointer → Call
asks c p = calls.Channel c (WriteIb p)

-- the frame writes this internal channel, which no other one does
pub record IsWriter (d : SpiTable) (r : Written) (below : Reservations) (c : ℕ) (k : Channel) : Type 0 where
  pub known : channel_of d c ≡ Some k
  pub internal : k.internal ≡ true
  pub placed : r.placed ≡ placed_of d c
  pub alone : (sources : ℕ → List ℕ) → put_held d sources c false below ≡ None
  pub clear : error_by d (asks c r.source) false false ≡ None

abbrev pub IsWriting : SpiTable → Written → Reservations → Origin Call → FrameHistory → Type 0
IsWriting d r below o t = (c : ℕ) × (k : Channel) × IsThisFrame (Called (asks c r.source)) fresh_history o t × IsWriter d r below c k

-- the put is committed, by the control word
abbrev pub IsCommitting : Written → (bank : ℕ) → Memory → Put → Type 0
IsCommitting r b m (puts.Commit c n) = (c ≡ control_word r.placed Sent) × (n ≡ b)
IsCommitting r b m (puts.Tell c v) = (c ≡ control_word r.placed Sent) × (v ≡ b % 4 + 4 * (m c / 4))
IsCommitting r b m _ = ⊥

abbrev pub writes : Written → (bank count : ℕ) → Option ℕ → List Reservation
writes r b i x = Writing r.placed.number r.source b i x ∷ []

abbrev pub write_spot : (d : SpiTable) → WriteBody → PointAssertion (spi_basis d)
write_spot d (write.Choose r) = Within (Under tt) [] (λ below f w s o t. IsWriting d r below o t × (is_off s.mode ≡ false))
write_spot d (write.Opens r b) = Within (Under tt) (writes r b 0 None) (λ below f w s o t. IsWriting d r below o t × (b < 3))
write_spot d (write.Load r b i) = Outside (writes r b i None) (λ below o t. IsWriting d r below o t × (b < 3) × (i < r.placed.channel.length) × (r.source ≡ Users))
write_spot d (write.Fill r b i v) = Outside (writes r b i (Some v)) (λ below o t. IsWriting d r below o t × (b < 3) × (i < r.placed.channel.length))
write_spot d (write.Shut r b) = Outside (writes r b r.placed.channel.length None) (λ below o t. IsWriting d r below o t × (b < 3))
write_spot d (write.Commit r b p) = Within (Under tt) (writes r b r.placed.channel.length None) (λ below f w s o t. IsWriting d r below o t × (b < 3) × IsCommitting r b f.0 p)

abbrev pub write_fuel : WriteBody → ℕ
write_fuel (write.Choose r) = 7 + 2 * r.placed.channel.length
write_fuel (write.Opens r b) = 6 + 2 * r.placed.channel.length
write_fuel (write.Load r b i) = 5 + 2 * (r.placed.channel.length - i)
write_fuel (write.Fill r b i v) = 4 + 2 * (r.placed.channel.length - i)
write_fuel (write.Shut r b) = 3
write_fuel (write.Commit r b p) = 1 + put_more p

abbrev pub write_room : WriteBody → ℕ
write_room (write.Choose r) = 1
write_room (write.Commit r b p) = 1 + put_more p
write_room _ = 0

abbrev pub write_bodies : (d : SpiTable) → LongBodies (spi_basis d) WriteBody
write_bodies d = record { work_of = write_work; takes = write_takes; fuel = write_fuel; room = write_room; clean = λ k. false; assertion = write_spot d }

-- ---- what is held

module _ (d : SpiTable) (fits : FitsSpi d) (below : Reservations) (r : Written) (c : ℕ) (k : Channel) (i : IsWriter d r below c k) where
  number : r.placed.number ≡ c
  number = ap (λ x. x.number) i.placed

  len : r.placed.channel.length ≡ k.length
  len = ap (λ x. x.channel.length) i.placed ∙ ap (λ x. x.length) (has_channel d fits c k i.known)

  abbrev banks : TripleBuffer
  banks = trio_of (placed_of d c) Sent

  is_one : (r.placed.number == c) ≡ true
  is_one = ap (λ n. n == c) number ∙ same_number c

  control : control_word r.placed Sent ≡ banks.control
  control = ap (λ x. control_word x Sent) i.placed

  abbrev holding : (bank count : ℕ) → Option ℕ → Reservations
  holding b n x = record { by = Called (asks c r.source); what = Writing r.placed.number r.source b n x; acted = None } ∷ below

  aside : (b n : ℕ) (x : Option ℕ) → IsBeside d fits c k i.known i.internal Sent below (holding b n x)
  aside b n x = beside_one d fits c k i.known i.internal Sent _ below is_one

  -- its put
  puts_it : (sources : ℕ → List ℕ) (b n : ℕ) (x : Option ℕ) → put_held d sources c false (holding b n x) ≡ Some (record { bank = b; filled = take n (to_write (channel_of d c) r.source (sources c)) })
  puts_it sources b n x = ap (λ q. or_rest (if q then Some (record { bank = b; filled = take n (to_write (channel_of d c) r.source (sources c)) }) else None) (put_held d sources c false below)) is_one

  module _ (s : SpiState) where
    -- all that it writes
    abbrev all : List ℕ
    all = to_write (channel_of d c) r.source (channel_at s c).source

    all_is : all ≡ words_from r.source k.length k (channel_at s c)
    all_is = ap (λ o. to_write o r.source (channel_at s c).source) i.known ∙ from_source r.source k (channel_at s c)

    all_length : length all ≡ k.length
    all_length = ap length all_is ∙ from_length r.source k (channel_at s c)

    right_for : (b n : ℕ) (x : Option ℕ) → is_off s.mode ≡ false → IsReady all n x → AllRight d s.mode s.channels below → AllRight d s.mode s.channels (holding b n x)
    right_for b n x on ready right = ((ap (λ j. Called (asks j r.source)) (sym number), subst (λ j. IsReady (to_write (channel_of d j) r.source (channel_at s j).source) n x) (sym number) ready, on, ap is_some (ap (channel_of d) number ∙ i.known)), right)

    ready_of : (b n : ℕ) (x : Option ℕ) → AllRight d s.mode s.channels (holding b n x) → IsReady all n x
    ready_of b n x right = subst (λ j. IsReady (to_write (channel_of d j) r.source (channel_at s j).source) n x) number right.0.1

    same_channels : IsLike d fits c k i.known i.internal Sent s.channels s
    same_channels = record { source = λ n. refl; destination = λ n. refl; set_up = λ n. refl; written = λ n ne. refl; received = λ n ne. refl }

-- ---- what the steps leave

module _ (d : SpiTable) (fits : FitsSpi d) (below : Reservations) (chip : Chip) (w : World) (s : SpiState) (r : Written) (c : ℕ) (k : Channel) (i : IsWriter d r below c k) where
  abbrev at : TripleBuffer
  at = banks d fits below r c k i

  abbrev has : (bank count : ℕ) → Option ℕ → Reservations
  has b n x = holding d fits below r c k i b n x

  abbrev own : ℕ → Bool
  own = mine d fits c k i.known i.internal Sent

  abbrev written : List ℕ
  written = all d fits below r c k i s

  -- what it holds of its bank changes, with a word of the bank or none; what is sent stays
  bank_held : (held : Reservations) (b n : ℕ) (y : Option ℕ) (chip1 : Chip) (h : SpiRepresents d held chip w s) → is_off s.mode ≡ false → IsBeside d fits c k i.known i.internal Sent held (has b n y)
      → put_held d (view s).sources c true (has b n y) ≡ put_held d (view s).sources c true held → take_held c (has b n y) ≡ take_held c held → AllRight d s.mode s.channels below → AllSend d chip w h.going s below → AreCarried (view s) (has b n y) → IsReady written n y → StandsIn chip1 w → DiffersIn own chip chip1
      → (x : Banks) → trio.Stands at (word_of chip1) x → x.newest ≡ (h.words.banks c k i.known i.internal).sent.newest → TakeRight h.going c x.take → x.put ≡ put_held d (view s).sources c false (has b n y) → SpiRepresents d (has b n y) chip1 w s
  bank_held held b n y chip1 h on beside puts takes right sending carried ready outside differs x stands newest pinned put =
      let z = h.words.banks c k i.known i.internal in
      let none = none_readied d s.mode s.channels held on h.right in
      banks_changed d fits c k i.known i.internal Sent held (has b n y) chip chip1 w s h on s.channels (same_channels d fits below r c k i s) outside differs beside (λ internal. (h.sizes on c k i.known).written internal)
      (right_for d fits below r c k i s b n y on ready right) (tt, sending) carried
      (λ internal. sent_changed d fits c k i.known i.internal held (has b n y) chip chip1 h.going (view s) (view s) differs beside refl puts takes x stands (λ p. newest ∙ z.written none.1)
      (λ is. absurd (none_in _ (subst (λ xs. Contains xs (c, false)) (beside.readied ∙ none.0) is))) pinned put z)

  aside_then : (b n : ℕ) (x : Option ℕ) (m : ℕ) (y : Option ℕ) → IsBeside d fits c k i.known i.internal Sent (has b n x) (has b m y)
  aside_then b n x m y = beside_then d fits c k i.known i.internal Sent (has b n x) (has b m y) below (aside d fits below r c k i b n x) (aside d fits below r c k i b m y)

  -- a bank is chosen
  chosen_now : is_off s.mode ≡ false → SpiRepresents d below chip w s → (b : ℕ) → b ≡ trio.free (word_of chip at.control) → SpiRepresents d (has b 0 None) chip w s
  chosen_now on h b e =
      let x = h.words.banks c k i.known i.internal in
      bank_held below b 0 None chip h on (aside d fits below r c k i b 0 None) refl refl h.right h.sending h.carriers tt h.outside (differs_none own chip h.outside.all.words)
      (choosing b x.sent) (subst (λ n. trio.Stands at (word_of chip) (choosing n x.sent)) (sym e) (chooses at (word_of chip) x.sent x.sends)) refl x.pinned (sym (puts_it d fits below r c k i (view s).sources b 0 None))

  -- the next word is ready, or isn't any more
  ready_now : (b n : ℕ) (x y : Option ℕ) → SpiRepresents d (has b n x) chip w s → IsReady written n y → SpiRepresents d (has b n y) chip w s
  ready_now b n x y h ready =
      let z = h.words.banks c k i.known i.internal in
      bank_held (has b n x) b n y chip h h.right.0.2 (aside_then b n x n y) refl refl h.right.1 h.sending.1 h.carriers ready h.outside (differs_none own chip h.outside.all.words)
      z.sent z.sends refl z.pinned (z.writes ∙ puts_it d fits below r c k i (view s).sources b n x ∙ sym (puts_it d fits below r c k i (view s).sources b n y))

  -- it is filled in
  filled_now : (b n v : ℕ) → SpiRepresents d (has b n (Some v)) chip w s → n < k.length → SpiRepresents d (has b (n + 1) None) (chip_after chip (Store (trio.word_at at b n) v) 0) w s
  filled_now b n v h lt =
      let z = h.words.banks c k i.known i.internal in
      let p : Putting = record { bank = b; filled = take n written } in
      let a = all_length d fits below r c k i s in
      let few : length (take n written) ≡ n = length-take-le n written (omega (arith, a, lt)) in
      let width : at.len ≡ k.length = ap (λ x. x.length) (has_channel d fits c k i.known) in
      let open_put : z.sent.put ≡ Some p = z.writes ∙ puts_it d fits below r c k i (view s).sources b n (Some v) in
      let put_at = subst (λ o. trio.PutIn at (word_of chip) z.sent.bank z.sent.take o) open_put z.sends.put in
      let owned : own (trio.word_at at b n) ≡ true = own-word at b n put_at.below (omega (arith, lt, width)) in
      let more : take n written ++ v ∷ [] ≡ take (n + 1) written = ap (λ y. take n written ++ y ∷ []) (ready_of d fits below r c k i s b n (Some v) h.right) ∙ sym (take_more written n 0 (omega (arith, a, lt))) in
      bank_held (has b n (Some v)) b (n + 1) None (chip_after chip (Store (trio.word_at at b n) v) 0) h h.right.0.2 (aside_then b n (Some v) (n + 1) None) refl refl h.right.1 h.sending.1 h.carriers tt
      (stands-move chip w (Store (trio.word_at at b n) v) 0 h.outside) (differs_by_store own chip (trio.word_at at b n) v h.outside.all.words owned) (filling v p z.sent)
      (subst (λ j. trio.Stands at (word_of (chip_after chip (Store (trio.word_at at b j) v) 0)) (filling v p z.sent)) few
      (stands_by_store at chip (trio.word_at at b (length (take n written))) v (filling v p z.sent) (trio_fits d fits c k i.known i.internal Sent) h.outside.all.words (subst (λ j. own (trio.word_at at b j) ≡ true) (sym few) owned)
      (fills at (word_of chip) z.sent p v (trio_fits d fits c k i.known i.internal Sent) (omega (arith, few, lt, width)) open_put z.sends)))
      refl z.pinned (ap (λ ys. Some (record { bank = b; filled = ys })) more ∙ sym (puts_it d fits below r c k i (view s).sources b (n + 1) None))

  -- the state with the words written
  abbrev after : SpiState
  after = with_channel s c (written_from r.source (channel_of d c) (channel_at s c))

  kept_by : (o : Option Channel) (x : ChannelState) → ((written_from r.source o x).source ≡ x.source) × ((written_from r.source o x).destination ≡ x.destination) × ((written_from r.source o x).set_up ≡ x.set_up) × ((written_from r.source o x).received ≡ x.received)
  kept_by None x = (refl, refl, refl, refl)
  kept_by (Some k) x = (refl, refl, refl, refl)

  written_like : IsLike d fits c k i.known i.internal Sent after.channels s
  written_like =
      let x = kept_by (channel_of d c) (channel_at s c) in
      record {
        source = λ n. channel-seen (λ z. z.source) s c n (written_from r.source (channel_of d c) (channel_at s c)) x.0;
        destination = λ n. channel-seen (λ z. z.destination) s c n (written_from r.source (channel_of d c) (channel_at s c)) x.1;
        set_up = λ n. channel-seen (λ z. z.set_up) s c n (written_from r.source (channel_of d c) (channel_at s c)) x.2;
        written = λ n ne. ap (λ z. z.written) (item-other untouched s.channels c n (written_from r.source (channel_of d c) (channel_at s c)) ne);
        received = λ n ne. ap (λ z. z.received) (item-other untouched s.channels c n (written_from r.source (channel_of d c) (channel_at s c)) ne);
      }

  -- the act: the bank is the newest
  committed_now : (b : ℕ) → SpiRepresents d (has b k.length None) chip w s → SpiRepresents d below (chip_after chip (Store at.control (b % 4 + 4 * (word_of chip at.control / 4))) 0) w after
  committed_now b h =
      let told : ℕ = b % 4 + 4 * (word_of chip at.control / 4) in
      let z = h.words.banks c k i.known i.internal in
      let p : Putting = record { bank = b; filled = take k.length written } in
      let a = all_length d fits below r c k i s in
      let few : length (take k.length written) ≡ k.length = length-take-le k.length written (omega (arith, a)) in
      let width : at.len ≡ k.length = ap (λ x. x.length) (has_channel d fits c k i.known) in
      let open_put : z.sent.put ≡ Some p = z.writes ∙ puts_it d fits below r c k i (view s).sources b k.length None in
      let none = none_readied d s.mode s.channels below h.right.0.2 h.right.1 in
      let differs = differs_by_store own chip at.control told h.outside.all.words (own-control at) in
      let beside = beside_back d fits c k i.known i.internal Sent below (has b k.length None) (aside d fits below r c k i b k.length None) in
      -- what it sends now
      let sends_now : (channel_at after c).written ≡ words_from r.source k.length k (channel_at s c) =
      ap (λ x. x.written) (item-same untouched s.channels c (written_from r.source (channel_of d c) (channel_at s c))) ∙ ap (λ o. (written_from r.source o (channel_at s c)).written) i.known in
      let newest : take k.length written ≡ first_items 0 k.length (channel_at after c).written =
      take_all k.length written (omega (arith, a)) ∙ all_is d fits below r c k i s
      ∙ sym (first-all k.length (words_from r.source k.length k (channel_at s c)) (from_length r.source k (channel_at s c))) ∙ ap (λ xs. first_items 0 k.length xs) (sym sends_now) in
      let received_same = ap (λ x. x.received) (item-same untouched s.channels c (written_from r.source (channel_of d c) (channel_at s c))) ∙ (kept_by (channel_of d c) (channel_at s c)).3 in
      let puts_same = ap (λ f. put_held d f c true below) (pointwise (view after).sources (view s).sources written_like.source) in
      banks_changed d fits c k i.known i.internal Sent (has b k.length None) below chip (chip_after chip (Store at.control told) 0) w s h h.right.0.2 after.channels written_like (stands-move chip w (Store at.control told) 0 h.outside) differs beside (λ internal. ap length sends_now ∙ from_length r.source k (channel_at s c))
      (right_as d s.mode s.channels after.channels written_like.source below h.right.1) h.sending.1 h.carriers
      (λ internal. sent_changed d fits c k i.known i.internal (has b k.length None) below chip (chip_after chip (Store at.control told) 0) h.going (view s) (view after) differs beside received_same puts_same refl (committing p z.sent)
      (stands_by_store at chip at.control told (committing p z.sent) (trio_fits d fits c k i.known i.internal Sent) h.outside.all.words (own-control at) (commits at (word_of chip) z.sent p (trio_fits d fits c k i.known i.internal Sent) (few ∙ sym width) open_put z.sends))
      (λ q. newest) (λ is. absurd (none_in _ (subst (λ xs. Contains xs (c, false)) none.0 is))) z.pinned (sym (i.alone (view after).sources)) z)

-- ---- the steps

-- a bank that is free is one of three
pub free_few : (v : ℕ) → free_bank v ≡ trio.free v
free_few v = grind (arith, nat_tests)

put_small : (t : TripleBuffer) (m : Memory) (x : Banks) (p : Putting) → x.put ≡ Some p → trio.Stands t m x → p.bank < 3
put_small t m x p e h = (subst (λ o. trio.PutIn t m x.bank x.take o) e h.put).below

-- the frame stands at the word of a place, or after the last one
onward : (d : SpiTable) (fits : FitsSpi d) (below : Reservations) (chip : Chip) (w : World) (s : SpiState) (r : Written) (b n c : ℕ) (k : Channel) (i : IsWriter d r below c k) → b < 3 → n ≤ k.length → SpiRepresents d (holding d fits below r c k i b n None) chip w s
    → AssertedAt (spi_basis d) (write_bodies d) below chip w s (write_from r b n) (Called (asks c r.source)) fresh_history
onward d fits below chip w s r b n c k i lt few h = whether_as (nat_lt n r.placed.channel.length) (λ q. AssertedAt (spi_basis d) (write_bodies d) below chip w s (if q then word_by r.source r b n else write.Shut r b) (Called (asks c r.source)) fresh_history)
    (λ e. words r.source refl (is_below n r.placed.channel.length e))
    (λ e. (subst (λ j. SpiRepresents d (holding d fits below r c k i b j None) chip w s) (let past = is_past n r.placed.channel.length e in omega (arith, past, few, width)) h, ((c, k, Is_this_frame, i), lt)))
  where
    width : r.placed.channel.length ≡ k.length
    width = len d fits below r c k i

    default : n < r.placed.channel.length → r.source ≡ Null → r.placed.channel.default_data ≡ slice_index_or (all d fits below r c k i s) n 0
    default less e =
        ap (λ x. x.channel.default_data) i.placed ∙ ap (λ x. x.default_data) (has_channel d fits c k i.known)
        ∙ sym (get_or-replicate k.length n k.default_data 0 (omega (arith, less, width))) ∙ sym (ap (λ q. slice_index_or (words_from q k.length k (channel_at s c)) n 0) e) ∙ sym (ap (λ xs. slice_index_or xs n 0) (all_is d fits below r c k i s))

    words : (p : Pointer) → r.source ≡ p → n < r.placed.channel.length → AssertedAt (spi_basis d) (write_bodies d) below chip w s (word_by p r b n) (Called (asks c r.source)) fresh_history
    words Users e less = (h, ((c, k, Is_this_frame, i), lt, less, e))
    words Null e less = (ready_now d fits below chip w s r c k i b n None (Some r.placed.channel.default_data) h (default less e), ((c, k, Is_this_frame, i), lt, less))

module _ (d : SpiTable) (fits : FitsSpi d) where
  write_steps : (below : Reservations) (chip : Chip) (w : World) (s : SpiState) (k : WriteBody) (o : Origin Call) (y : ℕ) (t : FrameHistory) (m : ℕ → Bool) → AssertedAt (spi_basis d) (write_bodies d) below chip w s k o t → Right (spi_basis d) (write_bodies d) below chip w s k o y t m
  write_steps below chip w s (write.Choose r) o y t m (h, ((c, k, Is_this_frame, i), on)) =
      let v : ℕ = word_of chip (control_word r.placed Sent) in
      let is : free_bank v ≡ trio.free (word_of chip (banks d fits below r c k i).control) = free_few v ∙ ap (λ j. trio.free (word_of chip j)) (control d fits below r c k i) in
      let x = chosen_now d fits below chip w s r c k i on h (free_bank v) is in
      let z = x.words.banks c k i.known i.internal in
      let small = put_small (banks d fits below r c k i) (word_of chip) z.sent (record { bank = free_bank v; filled = [] }) (z.writes ∙ puts_it d fits below r c k i (view s).sources (free_bank v) 0 None) z.sends in
      (x, ((c, k, Is_this_frame, i), small))
  write_steps below chip w s (write.Opens r b) o y t m (h, ((c, k, Is_this_frame, i), lt)) = onward d fits below (chip_after chip Unmask y) w s r b 0 c k i lt (omega arith) (apart_agrees d fits _ chip w s Unmask y refl h)
  write_steps below chip w s (write.Load r b n) o y t m (h, ((c, k, Is_this_frame, i), lt, less, e)) =
      let width = len d fits below r c k i in
      let is : word_of chip (source_word r.placed n) ≡ slice_index_or (all d fits below r c k i s) n 0 =
      ap (λ x. word_of chip (source_word x n)) i.placed ∙ (h.arrays c).source n (subst (λ z. n < length_by z) (sym i.known) (omega (arith, less, width)))
      ∙ sym (first-at k.length (channel_at s c).source n (omega (arith, less, width))) ∙ sym (ap (λ q. slice_index_or (words_from q k.length k (channel_at s c)) n 0) e) ∙ sym (ap (λ xs. slice_index_or xs n 0) (all_is d fits below r c k i s)) in
      (ready_now d fits below chip w s r c k i b n None (Some (word_of chip (source_word r.placed n))) h is, ((c, k, Is_this_frame, i), lt, less))
  write_steps below chip w s (write.Fill r b n v) o y t m (h, ((c, k, Is_this_frame, i), lt, less)) =
      let width : r.placed.channel.length ≡ k.length = len d fits below r c k i in
      let small : k.length ≤ 64 = (fits.channels c k i.known).few in
      subst (λ q. AssertedAt (spi_basis d) (write_bodies d) below (chip_after chip (Store (bank_word r.placed Sent b n) v) y) w s (if q then write_from r b (n + 1) else write.Shut r b) (Called (asks c r.source)) fresh_history) (sym (lt_from n 255 (omega (arith, less, width, small))))
      (onward d fits below (chip_after chip (Store (bank_word r.placed Sent b n) v) y) w s r b (n + 1) c k i lt (omega (arith, less, width))
      (subst (λ x. SpiRepresents d (holding d fits below r c k i b (n + 1) None) (chip_after chip (Store (bank_word x Sent b n) v) y) w s) (sym i.placed) (filled_now d fits below chip w s r c k i b n v h (omega (arith, less, width)))))
  write_steps below chip w s (write.Shut r b) o y t m (h, ((c, k, Is_this_frame, i), lt)) = (apart_agrees d fits _ chip w s Mask y refl h, ((c, k, Is_this_frame, i), lt, (refl, refl)))
  write_steps below chip w s (write.Commit r b (puts.Commit j n)) o y t m (h, (writing, lt, (at, is))) = (h, (writing, lt, (at, ap (λ z. z % 4 + 4 * (word_of chip j / 4)) is)))
  write_steps below chip w s (write.Commit r b (puts.Tell j v)) o y t m (h, ((c, k, Is_this_frame, i), lt, (at, is))) =
      let same = at ∙ control d fits below r c k i in
      let whole = subst (λ n. SpiRepresents d (holding d fits below r c k i b n None) chip w s) (len d fits below r c k i) h in
      record {
        may = refl;
        stands = tt;
        state = with_channel s c (written_from r.source (channel_of d c) (channel_at s c));
        told = answers (named EOk);
        begins = None;
        is = ap (λ off. Some (acts_by d s (asks c r.source) (error_by d (asks c r.source) off false))) h.right.0.2 ∙ ap (λ e. Some (acts_by d s (asks c r.source) e)) i.clear;
        sends = tt;
        acts = tt;
        reset = refl;
        next = (subst (λ z. SpiRepresents d below (chip_after chip (Store z v) y) w (with_channel s c (written_from r.source (channel_of d c) (channel_at s c)))) (sym same) (subst (λ n. SpiRepresents d below (chip_after chip (Store (banks d fits below r c k i).control n) y) w (with_channel s c (written_from r.source (channel_of d c) (channel_at s c)))) (sym (is ∙ ap (λ z. b % 4 + 4 * (word_of chip z / 4)) same)) (committed_now d fits below chip w s r c k i b whole)), record { may = (refl, refl); served = false; owed = refl; shown = λ e. absurd (cc); report = refl });
      }
  write_steps below chip w s (write.Commit r b _) o y t m h = absurd h.1.2

-- ---- the bodies

pub put_less : (p : Put) (v : ℕ) → has_ended (put_gave p v) ≡ false → put_more (put_left p v) < put_more p
put_less (puts.Commit c b) v e = omega arith
put_less _ v e = absurd (cc)

from_less : (r : Written) (b n m : ℕ) → 3 < m → (n < r.placed.channel.length → 5 + 2 * (r.placed.channel.length - n) < m) → write_fuel (write_from r b n) < m
from_less r b n m many more = whether_as (nat_lt n r.placed.channel.length) (λ q. write_fuel (if q then word_by r.source r b n else write.Shut r b) < m)
    (λ e. words r.source (is_below n r.placed.channel.length e))
    (λ e. omega (arith, many))
  where
    words : (p : Pointer) → n < r.placed.channel.length → write_fuel (word_by p r b n) < m
    words Users lt = more lt
    words Null lt = let l = more lt in omega (arith, l)

write_less : (k : WriteBody) (x : ℕ) → Shortens write_fuel k (write_takes k x)
write_less (write.Opens r b) x = from_less r b 0 (6 + 2 * r.placed.channel.length) (omega arith) (λ lt. omega arith)
write_less (write.Fill r b n v) x =
    elim (nat_lt n 255) as (λ q. write_fuel (if q then write_from r b (n + 1) else write.Shut r b) < 4 + 2 * (r.placed.channel.length - n))
    [ true ↦ from_less r b (n + 1) (4 + 2 * (r.placed.channel.length - n)) (omega arith) (λ lt. omega (arith, lt)) | false ↦ omega arith ]
write_less (write.Commit r b p) x = whether_as (has_ended (put_gave p x)) (λ q. Shortens write_fuel (write.Commit r b p) (write_commits r b p x q))
    (λ e. omega arith)
    (λ e. let lt = put_less p x e in omega (arith, lt))
write_less _ x = omega arith

module _ (d : SpiTable) where
  from_open : (r : Written) (b n : ℕ) → is_closed (write_spot d (write_from r b n)) ≡ false
  from_open r b n = by (nat_lt n r.placed.channel.length) r.source
    where
      by : (q : Bool) (p : Pointer) → is_closed (write_spot d (if q then word_by p r b n else write.Shut r b)) ≡ false
      by true Users = refl
      by _ _ = refl

  write_turns : (k : WriteBody) (x : ℕ) → TurnsTo (write_bodies d) 32 k (write_takes k x)
  write_turns (write.Choose r) x = (refl, omega arith)
  write_turns (write.Opens r b) x = (refl, from_open r b 0, refl, refl)
  write_turns (write.Load r b n) x = refl
  write_turns (write.Fill r b n v) x =
      elim (nat_lt n 255) as (λ q. is_closed (write_spot d (if q then write_from r b (n + 1) else write.Shut r b)) ≡ false)
      [ true ↦ from_open r b (n + 1) | false ↦ refl ]
  write_turns (write.Shut r b) x = (refl, refl, omega arith, refl, refl)
  write_turns (write.Commit r b (puts.Commit c n)) x = (refl, omega arith)
  write_turns _ x = omega arith

  module _ (fits : FitsSpi d) where
    own_control_of : (below : Reservations) (r : Written) (c : ℕ) (k : Channel) → IsWriter d r below c k → is_own_word d (control_word r.placed Sent) ≡ true
    own_control_of below r c k i = ap (λ x. is_own_word d (control_word x Sent)) i.placed ∙ own_banks d fits c k i.known i.internal Sent _ (own-control (trio_of (placed_of d c) Sent))

    write_own : (below : Reservations) (chip : Chip) (w : World) (s : SpiState) (k : WriteBody) (o : Origin Call) (t : FrameHistory) → AssertedAt (spi_basis d) (write_bodies d) below chip w s k o t → is_shared (write_work k) || may d (write_work k) ≡ true
    write_own below chip w s (write.Choose r) o t (h, ((c, k, being, i), on)) = may_store d fits _ 0 (own_control_of below r c k i)
    write_own below chip w s (write.Load r b n) o t (h, ((c, k, being, i), lt, less, e)) =
        ap (λ x. may d (Load (source_word x n))) i.placed ∙ may_users d fits (place_of (Source c) n) (source_own d fits c n (subst (λ z. n < length_by z) (sym i.known) (let width = len d fits below r c k i in omega (arith, less, width))))
        (let few = (fits.channels c k i.known).few in let width = len d fits below r c k i in let small = of_sixteen d c k fits i.known in omega (arith, less, few, width, small))
    write_own below chip w s (write.Fill r b n v) o t (h, ((c, k, being, i), lt, less)) =
        may_store d fits _ v (ap (λ x. is_own_word d (bank_word x Sent b n)) i.placed ∙ own_banks d fits c k i.known i.internal Sent _ (own-word (trio_of (placed_of d c) Sent) b n lt (let width = len d fits below r c k i in let n1 = ap (λ x. x.length) (has_channel d fits c k i.known) in omega (arith, less, width, n1))))
    write_own below chip w s (write.Commit r b (puts.Commit j n)) o t (h, ((c, k, being, i), lt, (at, is))) = may_store d fits j 0 (ap (is_own_word d) at ∙ own_control_of below r c k i)
    write_own below chip w s (write.Commit r b (puts.Tell j v)) o t (h, ((c, k, being, i), lt, (at, is))) = may_store d fits j v (ap (is_own_word d) at ∙ own_control_of below r c k i)
    write_own below chip w s (write.Commit r b _) o t h = absurd h.1.2
    write_own below chip w s _ o t h = refl

    write_later : (below : Reservations) (chip : Chip) (w : World) (s : SpiState) (order : Order) (k : WriteBody) (o : Origin Call) (t : FrameHistory) → AssertedAt (spi_basis d) (write_bodies d) below chip w s k o t → place_at (write_spot d k) below ((spi_basis d).foot (happened chip order)) (world_after w chip.clock.rate order) (moved d w s order) o t
    write_later below chip w s order (write.Choose r) o t (h, (writing, on)) = (writing, ap is_off (mode_later d w s order) ∙ on)
    write_later below chip w s order (write.Commit r b (puts.Tell j v)) o t (h, ((c, k, being, i), lt, (at, is))) =
        ((c, k, being, i), lt, (at, is ∙ ap (λ n. b % 4 + 4 * (n / 4)) (sym (word_later chip order j h.outside.all.words (own_low d fits j (ap (is_own_word d) at ∙ own_control_of below r c k i))))))
    write_later below chip w s order (write.Commit r b (puts.Choose j)) o t (h, (writing, lt, at)) = absurd at
    write_later below chip w s order (write.Commit r b (puts.Fill j v)) o t (h, (writing, lt, at)) = absurd at
    write_later below chip w s order _ o t (h, place) = place

    pub write_right : AreLong (spi_basis d) (write_bodies d)
    write_right = record {
      own = λ below chip w s k o t h. frame_may d o (write_work k) (write_own below chip w s k o t h);
      turns = λ below chip w s k o t h. write_turns k (value_of chip (write_work k));
      steps = λ below chip w s k o y t m come few h. write_steps d fits below chip w s k o y t m h;
      later = λ below chip w s order k o t come shut h. write_later below chip w s order k o t h;
      calm = λ below chip w s k o t h e. calm k;
      shortens = write_less;
      cleans = λ k x. never_clean (write_work k) k (write_takes k x);
    }
      where
        calm : (k : WriteBody) → (resets_chip (write_work k) ≡ false) × (begins_word (write_work k) ≡ false)
        calm (write.Commit r b (puts.Commit j n)) = (refl, refl)
        calm _ = (refl, refl)
