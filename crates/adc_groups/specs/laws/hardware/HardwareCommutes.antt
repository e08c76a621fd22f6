-- What windows of the module owe: the hardware may move between any two of these moves, and either order comes to alike chips.
-- From services.WriteBatchSteps, words.Cases, service_outline: SimpleMoves.
-- Used by bookkeeping.PendingWritesRight, services.StopWords, adc_laws: serving.services.ServeActRight and 9 more.
use Rattle.std.proofs.Common.{◌≡◌, ◌≢◌, ◌+◌, ◌-◌, ◌*◌, ◌^◌, ◌<◌, ◌≤◌, ◌&&◌, ◌||◌, ◌==◌, [], ◌∷◌, ◌∙◌, if◌then◌else◌}
use Rattle.adc_groups.specs.Terms
use Terms.{ack_left, AdcTable, Add, add_gave, add_left, after_deeds, Again, again_gave, again_left, Alike, Alike_but}
use Terms.{Alike_same, all_rooms, and_le_l, and_parts, and_second, Answer, ap, Are_closed, Are_same, AreFlagsAlike}
use Terms.{arith, begins_word, bit_at, bit_at-lt, bit_or, Bool, cases, Chip, chip_after, Closes, committed_after}
use Terms.{Continuation, Converter, ConverterAbort, ConverterAck, Converters, deed_move, Differs, Drop, drop_gave}
use Terms.{drop_left, Dropped, edged, EnableClear, expiry_of, false, finished-later, finished_not_running, FitsAbort}
use Terms.{FitsAck, FitsFlags, FitsGates, flag_left, Flags_left, Flags_same, get_or-map, get_or-set_other}
use Terms.{get_or-set_same, happened, has_bit, has_bit-or, has_bit-pow_other, has_bit-pow_same, has_bit-without}
use Terms.{if_same, Is_closed, is_fill, Is_finished, Is_open, is_other, Is_over, is_shared, is_simple, is_some, IsBlock}
use Terms.{IsDone, IsOver, IsUnkept, left_by, length, length-map, length-set, List, Load, LowersTo, map, Move, nat_lt}
use Terms.{nat_tests, Next, next_gave, next_left, None, not, Option, or_lt, Order, outside_at, owed_of, owed_own}
use Terms.{PendingWrites, Put, put_gave, put_left, Read, Reason, refl, Reg, reset_chip, resets_chip, rooms}
use Terms.{same_from_bits_below, same_or_other, Search, search_move, set_apart, shape_after, shape_move, shape_room}
use Terms.{slice_index, slice_index_or, slice_set, Some, some_same, Store, StructureOp, subst, suc, sym, Take}
use Terms.{take_gave, take_left, TriggerClear, TriggerFlags, true, UnitsAlike, unused, whether, whether_as, WindowWrite}
use Terms.{without, Word, word_number, words-read, words-write, words_happened, World, Write, ℕ}
use Rattle.chip_blocks.specs.converter.Rounds.{Round}
use Rattle.adc_groups.specs.PendingWrites.{is_owed, IsSound}
use Rattle.chip_blocks.specs.converter.Converters as chips
use Rattle.chip_blocks.specs.converter.Rounds as rounds
use Rattle.word_shapes.specs.declared.add.Add.TheVariants as adds
use Rattle.word_shapes.specs.declared.again.Again.TheVariants as agains
use Rattle.word_shapes.specs.declared.choosing.Next.TheVariants as nexts
use Rattle.word_shapes.specs.declared.put.Put.TheVariants as puts
use Rattle.word_shapes.specs.declared.take.Take.TheVariants as takes
use Rattle.word_shapes.proofs.RoomLaws as room

-- ---- the kinds of moves

module _ (see : Move → Type 0) (loads : (k : ℕ) → see (Load k)) (stores : (k v : ℕ) → see (Store k v)) (aborts : (u : ℕ) → see (Read (ConverterAbort u))) (disables : (v : ℕ) → see (Write EnableClear v))
    (acknowledges : (u v : ℕ) → see (Write (ConverterAck u) v)) (clears : (v : ℕ) → see (Write TriggerClear v)) (drops_flags : (v : ℕ) → see (Write TriggerFlags v)) where
  read_kind : (r : Reg) → is_owed (Read r) ≡ true → see (Read r)
  read_kind (ConverterAbort u) e = aborts u
  read_kind _ e = absurd (cc)

  written_kind : (r : Reg) (v : ℕ) → is_owed (Write r v) ≡ true → see (Write r v)
  written_kind EnableClear v e = disables v
  written_kind (ConverterAck u) v e = acknowledges u v
  written_kind TriggerClear v e = clears v
  written_kind TriggerFlags v e = drops_flags v
  written_kind _ v e = absurd (cc)

  by_kind : (made : Move) → is_owed made ≡ true → see made
  by_kind (Load k) e = loads k
  by_kind (Store k v) e = stores k v
  by_kind (Read r) e = read_kind r e
  by_kind (Write r v) e = written_kind r v e
  by_kind _ e = absurd (cc)

pub kind_of : (d : AdcTable) (made : Move) → owed_own d made ≡ true → is_owed made ≡ true
kind_of d made e = and_second _ (is_owed made) e

pub owed_plain : (made : Move) → is_owed made ≡ true → is_shared made ≡ false
owed_plain = by_kind (λ m. is_shared m ≡ false) (λ k. refl) (λ k v. refl) (λ u. refl) (λ v. refl) (λ u v. refl) (λ v. refl) (λ v. refl)

pub owed_calm : (made : Move) → is_owed made ≡ true → (resets_chip made ≡ false) × (begins_word made ≡ false)
owed_calm = by_kind (λ m. (resets_chip m ≡ false) × (begins_word m ≡ false)) (λ k. (refl, refl)) (λ k v. (refl, refl)) (λ u. (refl, refl)) (λ v. (refl, refl)) (λ u v. (refl, refl)) (λ v. (refl, refl)) (λ v. (refl, refl))

pub owed_times : (w : World) (times : ℕ → Option ℕ) (made : Move) → is_owed made ≡ true → committed_after w times made ≡ times
owed_times w times = by_kind (λ m. committed_after w times m ≡ times) (λ k. refl) (λ k v. refl) (λ u. refl) (λ v. refl) (λ u v. refl) (λ v. refl) (λ v. refl)

pub owed_steady : (chip : Chip) (made : Move) → is_owed made ≡ true → (chip_after chip made 0).clock.rate ≡ chip.clock.rate
owed_steady chip = by_kind (λ m. (chip_after chip m 0).clock.rate ≡ chip.clock.rate) (λ k. refl) (λ k v. refl) (λ u. refl) (λ v. refl) (λ u v. refl) (λ v. refl) (λ v. refl)

pub owed_unwound : (chip : Chip) (made : Move) → is_owed made ≡ true → expiry_of (chip_after chip made 0) ≡ expiry_of chip
owed_unwound chip = by_kind (λ m. expiry_of (chip_after chip m 0) ≡ expiry_of chip) (λ k. refl) (λ k v. refl) (λ u. refl) (λ v. refl) (λ u v. refl) (λ v. refl) (λ v. refl)

pub owed_reset : (chip : Chip) (made : Move) (reason : Reason) → is_owed made ≡ true → reset_chip (chip_after chip made 0) reason ≡ reset_chip chip reason
owed_reset chip made reason = by_kind (λ m. reset_chip (chip_after chip m 0) reason ≡ reset_chip chip reason) (λ k. refl) (λ k v. refl) (λ u. refl) (λ v. refl) (λ u v. refl) (λ v. refl) (λ v. refl) made

-- ---- a change of words is made of loads and stores

search_simple : (r : Search) → is_simple (search_move r) ≡ true
search_simple (Search.Tally at) = refl
search_simple _ = refl

pub shape_simple : (s : StructureOp) → is_simple (shape_move s) ≡ true
shape_simple (Add (adds.Tell at t)) = refl
shape_simple (Again (agains.Tell at t)) = refl
shape_simple (Drop (Dropped.Look r n)) = search_simple r
shape_simple (Next (nexts.Look r ranks)) = search_simple r
shape_simple (Put (puts.Tell c v)) = refl
shape_simple (Take (takes.Free c v)) = refl
shape_simple _ = refl

-- ---- each leaves fewer

lowered : (before later : ℕ) (q : Option Answer) (s : StructureOp) → shape_room s ≡ later → LowersTo before later q → rooms (if is_some q then None else Some s) < before
lowered before later None s e h = let lt = h in omega (arith, lt, e)
lowered before later (Some a) s e h = let lt = h in omega (arith, lt)

pub shape_lowers : (s : StructureOp) (v : ℕ) → rooms (shape_after s v) < shape_room s
shape_lowers (Add r) v = lowered _ _ (add_gave r v).ended (Add (add_left r v)) refl (room.add-lowers r v)
shape_lowers (Again r) v = lowered _ _ (again_gave r v).ended (Again (again_left r v)) refl (room.again-lowers r v)
shape_lowers (Drop r) v = lowered _ _ (drop_gave r v).ended (Drop (drop_left r v)) refl (room.drop-lowers r v)
shape_lowers (Next r) v = lowered _ _ (next_gave r v).ended (Next (next_left r v)) refl (room.next-lowers r v)
shape_lowers (Put r) v = lowered _ _ (put_gave r v).ended (Put (put_left r v)) refl (room.put-lowers r v)
shape_lowers (Take r) v = lowered _ _ (take_gave r v).ended (Take (take_left r v)) refl (room.take-lowers r v)

pub some_room : (s : StructureOp) → 0 < shape_room s
some_room s = let lt = shape_lowers s 0 in omega (arith, lt)

abbrev rooms_of : PendingWrites → ℕ
rooms_of x = all_rooms x.order x.banks x.deeds

-- what is owed has as many as its parts
owed_rooms : (d : AdcTable) (o b : Option StructureOp) (ds : List WindowWrite) (t : Continuation) (y : PendingWrites) → owed_of d o b ds t ≡ Some y → (rooms_of y ≡ all_rooms o b ds) × (0 < rooms_of y)
owed_rooms d (Some s) b ds t y e = let same : record { table = d; order = Some s; banks = b; deeds = ds; after = t } ≡ y = some_same e in let some = some_room s in (ap rooms_of (sym same), subst (λ z. 0 < rooms_of z) same (omega (arith, some)))
owed_rooms d None (Some s) ds t y e = let same : record { table = d; order = None; banks = Some s; deeds = ds; after = t } ≡ y = some_same e in let some = some_room s in (ap rooms_of (sym same), subst (λ z. 0 < rooms_of z) same (omega (arith, some)))
owed_rooms d None None (x ∷ xs) t y e = let same : record { table = d; order = None; banks = None; deeds = x ∷ xs; after = t } ≡ y = some_same e in (ap rooms_of (sym same), subst (λ z. 0 < rooms_of z) same (omega arith))
owed_rooms d None None [] t y e = absurd (cc)

pub shorter_by : (d : AdcTable) (o b : Option StructureOp) (ds : List WindowWrite) (t : Continuation) (v : ℕ) (y : PendingWrites) → left_by d o b ds t v ≡ Some y → rooms_of y - 1 < all_rooms o b ds - 1
shorter_by d (Some s) b ds t v y e = let k = owed_rooms d (shape_after s v) b ds t y e in let is = k.0 in let some = k.1 in let lt = shape_lowers s v in omega (arith, is, some, lt)
shorter_by d None (Some s) ds t v y e = let k = owed_rooms d None (shape_after s v) ds t y e in let is = k.0 in let some = k.1 in let lt = shape_lowers s v in omega (arith, is, some, lt)
shorter_by d None None (x ∷ xs) t v y e = let k = owed_rooms d None None xs t y e in let is = k.0 in let some = k.1 in omega (arith, is, some)
shorter_by d None None [] t v y e = absurd (cc)

-- ---- rounds that aren't running

pub done_later : (x : Round) (m n : ℕ) → m ≤ n → IsDone x m → IsDone x n
done_later x m n le (Is_finished e) = Is_finished (finished-later x m n le e)
done_later x m n le (Is_over h) = Is_over (h.0, h.1, (let past = h.2 in omega (arith, past, le)))

pub sound_later : (x : Round) (m n : ℕ) → m ≤ n → IsSound x m → IsSound x n
sound_later x m n le (Is_open e) = Is_open e
sound_later x m n le (Is_closed h) = Is_closed (h.0, h.1, (let past = h.2 in omega (arith, past, le)))

-- an aborted round isn't running, and an acknowledged one is over
pub aborted_done : (x : Converter) (now : ℕ) → IsSound x.round now → IsDone (chips.aborted now x).round now
aborted_done x now h = whether_as (rounds.is_running x.round now) (λ q. IsDone (if q then record x { round = rounds.over now x.round } else x).round now)
    (λ e. Is_over (now, refl, omega arith)) (λ e. still true e h)
  where
    still : (q : Bool) → rounds.is_running x.round now ≡ false → IsSound x.round now → IsDone x.round now
    still q e (Is_closed k) = Is_over k
    still q e (Is_open k) = Is_finished (finish (rounds.is_idle x.round) (rounds.ended x.round now == x.round.count) (ap (λ o. is_some o) k) e)
      where
        finish : (idle all : Bool) → idle ≡ false → not idle && not all ≡ false → not idle && all ≡ true
        finish false true i j = refl
        finish _ _ i j = absurd (cc)

pub acknowledged_over : (x : Converter) (now : ℕ) → IsDone x.round now → IsOver (chips.acknowledged now x).round now
acknowledged_over x now h = whether_as (rounds.is_finished x.round now) (λ q. IsOver (if q then record x { round = rounds.over now x.round } else x).round now)
    (λ e. (now, refl, omega arith)) (λ e. still e h)
  where
    still : rounds.is_finished x.round now ≡ false → IsDone x.round now → IsOver x.round now
    still e (Is_finished f) = absurd (cc)
    still e (Is_over k) = k

pub done_stays : (x : Converter) (now : ℕ) → IsDone x.round now → chips.aborted now x ≡ x
done_stays x now h = ap (λ q. if q then record x { round = rounds.over now x.round } else x) (quiet h)
  where
    quiet : IsDone x.round now → rounds.is_running x.round now ≡ false
    quiet (Is_finished e) = finished_not_running x.round now e
    quiet (Is_over k) = ap (λ q. not q && not (rounds.ended x.round now == x.round.count)) (ap (λ o. is_some o) k.1)

pub aborted_list : (x : Converter) (now : ℕ) → (chips.aborted now x).list ≡ x.list
aborted_list x now =
    elim (rounds.is_running x.round now) as (λ q. (if q then record x { round = rounds.over now x.round } else x).list ≡ x.list)
    [ true ↦ refl | false ↦ refl ]

pub acknowledged_list : (x : Converter) (now : ℕ) → (chips.acknowledged now x).list ≡ x.list
acknowledged_list x now =
    elim (rounds.is_finished x.round now) as (λ q. (if q then record x { round = rounds.over now x.round } else x).list ≡ x.list)
    [ true ↦ refl | false ↦ refl ]

-- ---- words after deeds

deed_words : (d : AdcTable) (a b : Chip) (made : Move) → a.words ≡ b.words → (chip_after a made 0).words ≡ (chip_after b made 0).words
deed_words d a b (Read r) e = words-read a r ∙ (e ∙ sym (words-read b r))
deed_words d a b (Write r v) e = words-write a r v 0 ∙ (e ∙ sym (words-write b r v 0))
deed_words d a b (Store k v) e = ap (λ ws. slice_set ws k v) e
deed_words d a b _ e = e

deeds_words : (d : AdcTable) (a b : Chip) (ds : List WindowWrite) → a.words ≡ b.words → (after_deeds d a ds).words ≡ (after_deeds d b ds).words
deeds_words d a b [] e = e
deeds_words d a b (x ∷ xs) e = deeds_words d (chip_after a (deed_move d x) 0) (chip_after b (deed_move d x) 0) xs (deed_words d a b (deed_move d x) e)

pub unkept_same : (d : AdcTable) (u : ℕ) (a b : Chip) (ds : List WindowWrite) → a.words ≡ b.words → IsUnkept d u a ds → IsUnkept d u b ds
unkept_same d u a b ds e h g i = h g (ap (λ ws. slice_index ws (word_number d (Word.Claim u))) (deeds_words d a b ds e) ∙ i)

-- ---- Owed moves and the hardware come to alike chips in either order, and alike chips stay so while the rest is made.

-- ---- what the hardware leaves of the block

abbrev pub block_after : Order → (rate : ℕ) → Converters → Converters
block_after (Order.Tick n) r c = chips.ticked c (n * r)
block_after (Order.Analog i v) r c = chips.after_analog c i v
block_after (Order.Trigger i) r c = chips.after_pulse c i
block_after _ r c = c

abbrev with_block : Chip → Converters → Chip
with_block chip c = record chip { converters = c }

-- the block goes its own way
happened_with : (chip : Chip) (c : Converters) (order : Order) → is_fill order ≡ false → happened (with_block chip c) order ≡ with_block (happened chip order) (block_after order chip.clock.rate c)
happened_with chip c (Order.Level p v) e = if_same (λ x. with_block x c) (is_other (outside_at chip p) v) (edged chip p v) chip
happened_with chip c (Order.Fill k ws) e = absurd (cc)
happened_with chip c _ e = refl

pub happened_block : (chip : Chip) (order : Order) → is_fill order ≡ false → (happened chip order).converters ≡ block_after order chip.clock.rate chip.converters
happened_block chip order e = ap (λ x. x.converters) (happened_with chip chip.converters order e)

-- ---- flags as numbers

pub bits_of_flags : (a b : ℕ) → a < 16 → b < 16 → ((i : ℕ) → i < 4 → has_bit b i ≡ has_bit a i) → b ≡ a
bits_of_flags a b lt also same = same_from_bits_below 4 b a also lt (λ i few. one (bit_at b i) (bit_at a i) (bit_at-lt b i) (bit_at-lt a i) (same i few))
  where
    one : (m n : ℕ) → m < 2 → n < 2 → (m == 1) ≡ (n == 1) → m ≡ n
    one m n s t e = whether (n == 1)
        (λ f. let g : (m == 1) ≡ true = e ∙ f in grind (arith, nat_tests))
        (λ f. let g : (m == 1) ≡ false = e ∙ f in grind (arith, nat_tests))

pub small_or : (p i : ℕ) → p < 16 → i < 4 → bit_or p (2 ^ i) < 16
small_or p i few lt = or_lt 4 p (2 ^ i) few (below i lt)
  where
    below : (k : ℕ) → k < 4 → 2 ^ k < 2 ^ 4
    below (suc (suc (suc (suc k)))) lt = absurd (omega (arith, lt))
    below _ lt = omega arith

pub small_without : (p v : ℕ) → p < 16 → without p v < 16
small_without p v few = let le = and_le_l p (2 ^ 32 - 1 - v) in omega (arith, le, few)

one_bit : (i j : ℕ) (q : Bool) → (j == i) ≡ q → has_bit (2 ^ i) j ≡ q
one_bit i j true e = let same : j ≡ i = grind (arith, nat_tests) in ap (λ k. has_bit (2 ^ i) k) same ∙ has_bit-pow_same i
one_bit i j false e = let other : j ≢ i = grind (arith, nat_tests) in has_bit-pow_other i j other

-- ---- units by number

pub unit_set : (units : List Converter) (u : ℕ) (x : Converter) → u < length units → slice_index_or (slice_set units u x) u unused ≡ x
unit_set units u x lt = get_or-set_same units u x unused lt

pub unit_other : (units : List Converter) (u k : ℕ) (x : Converter) → k ≢ u → slice_index_or (slice_set units u x) k unused ≡ slice_index_or units k unused
unit_other units u k x ne = get_or-set_other units u k x unused ne

-- the block with another unit
pub unit_block : (c : Converters) (w : World) (u : ℕ) (x : Converter) → IsBlock c w → (u < 2 → length x.list ≡ 8) → IsBlock (chips.with_unit c u x) w
unit_block c w u x h eight = record {
  all = length-set c.units u x ∙ h.all;
  lists = λ k less. cases (same_or_other k u) (λ e. here k less e) (λ ne. ap (λ (z : Converter). length z.list) (unit_other c.units u k x ne) ∙ h.lists k less);
  past = h.past;
  samples = h.samples;
}
  where
    here : (k : ℕ) → k < 2 → k ≡ u → length (slice_index_or (slice_set c.units u x) k unused).list ≡ 8
    here k less e =
        let few : u < 2 = subst (λ n. n < 2) e less in
        let there : u < length c.units = (let all = h.all in omega (arith, few, all)) in
        ap (λ n. length (slice_index_or (slice_set c.units u x) n unused).list) e ∙ (ap (λ (z : Converter). length z.list) (unit_set c.units u x there) ∙ eight few)

-- ---- the block after a move and the hardware, in either order

-- what two blocks differ in
record Blocks (d : AdcTable) (ds : List WindowWrite) (chip : Chip) (a b : Converters) : Type 0 where
  time : b.time ≡ a.time
  levels : b.levels ≡ a.levels
  gates : b.gates ≡ a.gates
  all : length a.units ≡ 2
  also : length b.units ≡ 2
  units : (u : ℕ) → u < 2 → UnitsAlike d ds chip u a.time (chips.unit_at a u) (chips.unit_at b u)
  flags : AreFlagsAlike ds a.pulses b.pulses

-- the same, as chips
differ_so : (d : AdcTable) (ds : List WindowWrite) (chip : Chip) (a b : Converters) → Blocks d ds (with_block chip a) a b → Differs d ds (with_block chip a) (with_block chip b)
differ_so d ds chip a b h = record { rest = refl; time = h.time; levels = h.levels; gates = h.gates; all = h.all; also = h.also; units = h.units; flags = h.flags }

same_block : (d : AdcTable) (ds : List WindowWrite) (chip : Chip) (a b : Converters) → b ≡ a → with_block chip b ≡ with_block chip a
same_block d ds chip a b e = ap (λ c. with_block chip c) e

pub alike_left : (d : AdcTable) (xs : List WindowWrite) (t : Continuation) (a b : Chip) → Differs d xs a b → Alike d (owed_of d None None xs t) a b
alike_left d [] t a b h = Alike_but h
alike_left d (x ∷ xs) t a b h = Alike_but (refl, refl, h)

-- of one unit
module _ (d : AdcTable) (ds : List WindowWrite) (chip : Chip) (c : Converters) (u : ℕ) (few : u < 2) (all : length c.units ≡ 2) (f : (now : ℕ) → Converter → Converter) where
  abbrev changed : Converters → Converters
  changed b = chips.with_unit b u (f b.time (chips.unit_at b u))

  -- what is to be shown of the unit
  abbrev Closed : (now : ℕ) → Converter → Converter → Type 0
  Closed now x y = (y.list ≡ x.list) × Closes (ack_left ds u) x.round now × Closes (ack_left ds u) y.round now

  unit_by : (a : Chip) (now : ℕ) (p q : ℕ → Converter) (x y : Converter) → IsUnkept d u a ds → Closed now x y → p u ≡ x → q u ≡ y → ((k : ℕ) → k < 2 → k ≢ u → q k ≡ p k) → (k : ℕ) → k < 2 → UnitsAlike d ds a k now (p k) (q k)
  unit_by a now p q x y unkept h here there same k lt = cases (same_or_other k u)
      (λ e. subst (λ n. UnitsAlike d ds a n now (p n) (q n)) (sym e) (Are_closed (ap (λ z. z.list) there ∙ (h.0 ∙ sym (ap (λ z. z.list) here))) (subst (λ z. Closes (ack_left ds u) z.round now) (sym here) h.1) (subst (λ z. Closes (ack_left ds u) z.round now) (sym there) h.2) unkept))
      (λ ne. Are_same (same k lt ne))

  module _ (ticks : (m : ℕ) → Closed (c.time + m) (f c.time (chips.unit_at c u)) (f (c.time + m) (chips.unit_at c u)))
      (levels : Closed c.time (chips.settled c.levels c.time (f c.time (chips.unit_at c u))) (f c.time (chips.settled c.levels c.time (chips.unit_at c u)))) where
    in_units : (k : ℕ) → k < 2 → k < length c.units
    in_units k lt = omega (arith, lt, all)

    ticked_blocks : (r n : ℕ) (h : Chip) → IsUnkept d u (with_block h (block_after (Order.Tick n) r (changed c))) ds → Blocks d ds (with_block h (block_after (Order.Tick n) r (changed c))) (block_after (Order.Tick n) r (changed c)) (changed (block_after (Order.Tick n) r c))
    ticked_blocks r n h unkept = record {
      time = refl;
      levels = refl;
      gates = refl;
      all = length-set c.units u (f c.time (chips.unit_at c u)) ∙ all;
      also = length-set c.units u (f (c.time + n * r) (chips.unit_at c u)) ∙ all;
      units = unit_by (with_block h (block_after (Order.Tick n) r (changed c))) (c.time + n * r) (λ k. slice_index_or (slice_set c.units u (f c.time (chips.unit_at c u))) k unused) (λ k. slice_index_or (slice_set c.units u (f (c.time + n * r) (chips.unit_at c u))) k unused) (f c.time (chips.unit_at c u)) (f (c.time + n * r) (chips.unit_at c u))
          unkept (ticks (n * r)) (unit_set c.units u (f c.time (chips.unit_at c u)) (in_units u few)) (unit_set c.units u (f (c.time + n * r) (chips.unit_at c u)) (in_units u few)) (λ k lt ne. unit_other c.units u k (f (c.time + n * r) (chips.unit_at c u)) ne ∙ sym (unit_other c.units u k (f c.time (chips.unit_at c u)) ne));
      flags = Flags_same refl;
    }

    levelled_blocks : (r i v : ℕ) (h : Chip) → IsUnkept d u (with_block h (block_after (Order.Analog i v) r (changed c))) ds → Blocks d ds (with_block h (block_after (Order.Analog i v) r (changed c))) (block_after (Order.Analog i v) r (changed c)) (changed (block_after (Order.Analog i v) r c))
    levelled_blocks r i v h unkept = record {
      time = refl;
      levels = refl;
      gates = refl;
      all = length-map set g ∙ (length-set c.units u z ∙ all);
      also = length-set (map g c.units) u z1 ∙ (length-map c.units g ∙ all);
      units = unit_by (with_block h (block_after (Order.Analog i v) r (changed c))) c.time (λ k. slice_index_or (map g set) k unused) (λ k. slice_index_or (slice_set (map g c.units) u z1) k unused) (g z) (f c.time (g (chips.unit_at c u)))
          unkept levels
          (get_or-map g set u unused unused (in_set u few) ∙ ap g (unit_set c.units u z (in_units u few)))
          (unit_set (map g c.units) u z1 (in_map u few) ∙ ap (λ x. f c.time x) (get_or-map g c.units u unused unused (in_units u few)))
          (λ k lt ne. unit_other (map g c.units) u k z1 ne ∙ (get_or-map g c.units k unused unused (in_units k lt) ∙ (ap g (sym (unit_other c.units u k z ne)) ∙ sym (get_or-map g set k unused unused (in_set k lt)))));
      flags = Flags_same refl;
    }
      where
        g : Converter → Converter
        g = chips.settled c.levels c.time

        z : Converter
        z = f c.time (chips.unit_at c u)

        set : List Converter
        set = slice_set c.units u z

        z1 : Converter
        z1 = f c.time (chips.unit_at (chips.after_analog c i v) u)

        in_set : (k : ℕ) → k < 2 → k < length set
        in_set k lt = let size = length-set c.units u z in omega (arith, lt, size, all)

        in_map : (k : ℕ) → k < 2 → k < length (map g c.units)
        in_map k lt = let size = length-map c.units g in omega (arith, lt, size, all)

    pulsed_same : (q : Bool) (p : ℕ) → changed (if q then record c { pulses = p } else c) ≡ (if q then record (changed c) { pulses = p } else changed c)
    pulsed_same true p = refl
    pulsed_same false p = refl

    -- with the hardware in either order
    commutes_block : (t : Continuation) (order : Order) (r : ℕ) (h : Chip) → is_fill order ≡ false → ((b : Converters) → IsUnkept d u (with_block h b) ds) → Alike d (owed_of d None None ds t) (with_block h (block_after order r (changed c))) (with_block h (changed (block_after order r c)))
    commutes_block t (Order.Tick n) r h e unkept = alike_left d ds t _ _ (differ_so d ds h _ _ (ticked_blocks r n h (unkept (block_after (Order.Tick n) r (changed c)))))
    commutes_block t (Order.Analog i v) r h e unkept = alike_left d ds t _ _ (differ_so d ds h _ _ (levelled_blocks r i v h (unkept (block_after (Order.Analog i v) r (changed c)))))
    commutes_block t (Order.Trigger i) r h e unkept = Alike_same (same_block d ds h _ _ (pulsed_same (nat_lt i 4 && has_bit c.gates i) (bit_or c.pulses (2 ^ i))))
    commutes_block t (Order.Fill k ws) r h e unkept = absurd (cc)
    commutes_block t _ r h e unkept = Alike_same refl

pub closes_over : (q : Bool) (x : Round) (now : ℕ) → IsOver x now → Closes q x now
closes_over true x now h = Is_over h
closes_over false x now h = h

over_later : (x : Round) (m n : ℕ) → m ≤ n → IsOver x m → IsOver x n
over_later x m n le h = (h.0, h.1, (let past = h.2 in omega (arith, past, le)))

module _ (d : AdcTable) (ds : List WindowWrite) (t : Continuation) (chip : Chip) (order : Order) (none : is_fill order ≡ false) where
  unkept_after : (u : ℕ) → IsUnkept d u chip ds → (b : Converters) → IsUnkept d u (with_block (happened chip order) b) ds
  unkept_after u h b = unkept_same d u chip (with_block (happened chip order) b) ds (sym (words_happened chip order none)) h

  -- a move of the block by itself, and the hardware
  either_order : (made : Converters → Converters) → Alike d (owed_of d None None ds t) (with_block (happened chip order) (block_after order chip.clock.rate (made chip.converters))) (with_block (happened chip order) (made (block_after order chip.clock.rate chip.converters)))
      → Alike d (owed_of d None None ds t) (happened (with_block chip (made chip.converters)) order) (with_block (happened chip order) (made (happened chip order).converters))
  either_order made h =
      subst (λ x. Alike d (owed_of d None None ds t) x (with_block (happened chip order) (made (happened chip order).converters))) (sym (happened_with chip (made chip.converters) order none))
      (subst (λ c. Alike d (owed_of d None None ds t) (with_block (happened chip order) (block_after order chip.clock.rate (made chip.converters))) (with_block (happened chip order) (made c))) (sym (happened_block chip order none)) h)

  pub abort_commutes : (u : ℕ) → u < 2 → FitsAbort d u chip ds → Alike d (owed_of d None None ds t) (happened (chip_after chip (Read (ConverterAbort u)) 0) order) (chip_after (happened chip order) (Read (ConverterAbort u)) 0)
  abort_commutes u few fit =
      let c = chip.converters in
      let x = chips.unit_at c u in
      let q = ack_left ds u in
      let done = λ (y : Round) (now : ℕ) (h : IsDone y now). subst (λ b. Closes b y now) (sym fit.ack) h in
      let first = aborted_done x c.time fit.round in
      either_order (λ b. chips.with_unit b u (chips.aborted b.time (chips.unit_at b u)))
      (commutes_block d ds chip c u few fit.all chips.aborted
      (λ m. (aborted_list x (c.time + m) ∙ sym (aborted_list x c.time), done _ _ (done_later _ c.time (c.time + m) (omega arith) first), done _ _ (aborted_done x (c.time + m) (sound_later x.round c.time (c.time + m) (omega arith) fit.round))))
      (aborted_list (chips.settled c.levels c.time x) c.time ∙ sym (aborted_list x c.time), done _ _ first, done _ _ (aborted_done (chips.settled c.levels c.time x) c.time fit.round))
      t order chip.clock.rate (happened chip order) none (unkept_after u fit.unkept))

  pub ack_commutes : (u v : ℕ) → u < 2 → FitsAck d u chip ds → Alike d (owed_of d None None ds t) (happened (chip_after chip (Write (ConverterAck u) v) 0) order) (chip_after (happened chip order) (Write (ConverterAck u) v) 0)
  ack_commutes u v few fit =
      let c = chip.converters in
      let x = chips.unit_at c u in
      let q = ack_left ds u in
      let first = acknowledged_over x c.time fit.round in
      either_order (λ b. chips.with_unit b u (chips.acknowledged b.time (chips.unit_at b u)))
      (commutes_block d ds chip c u few fit.all chips.acknowledged
      (λ m. (acknowledged_list x (c.time + m) ∙ sym (acknowledged_list x c.time), closes_over q (chips.acknowledged c.time x).round (c.time + m) (over_later (chips.acknowledged c.time x).round c.time (c.time + m) (omega arith) first), closes_over q (chips.acknowledged (c.time + m) x).round (c.time + m) (acknowledged_over x (c.time + m) (done_later x.round c.time (c.time + m) (omega arith) fit.round))))
      (acknowledged_list (chips.settled c.levels c.time x) c.time ∙ sym (acknowledged_list x c.time), closes_over q (chips.acknowledged c.time x).round c.time first, closes_over q (chips.acknowledged c.time (chips.settled c.levels c.time x)).round c.time (acknowledged_over (chips.settled c.levels c.time x) c.time fit.round))
      t order chip.clock.rate (happened chip order) none (unkept_after u fit.unkept))

  abbrev Both : Converters → Converters → Type 0
  Both x y = Alike d (owed_of d None None ds t) (with_block (happened chip order) x) (with_block (happened chip order) y)

  -- a gate that is switched off: until the flag is cleared too, a pulse may have set it or not
  pub gates_commute : (v : ℕ) → FitsGates v chip ds → Alike d (owed_of d None None ds t) (happened (chip_after chip (Write TriggerClear v) 0) order) (chip_after (happened chip order) (Write TriggerClear v) 0)
  gates_commute v fit = either_order (λ b. record b { gates = without b.gates v }) (gates_after order none)
    where
      c : Converters
      c = chip.converters

      off : Converters → Converters
      off b = record b { gates = without b.gates v }

      inside : (i : ℕ) → i < 4 → has_bit (without chip.converters.gates v) i ≡ (has_bit chip.converters.gates i && not (has_bit v i))
      inside i lt = has_bit-without chip.converters.gates v i fit.bits (omega (arith, lt))

      pulses : (i : ℕ) (q r : Bool) → (nat_lt i 4 && has_bit (without chip.converters.gates v) i) ≡ q → (nat_lt i 4 && has_bit chip.converters.gates i) ≡ r
          → Both (if q then record chip.converters { gates = without chip.converters.gates v; pulses = bit_or chip.converters.pulses (2 ^ i) } else record chip.converters { gates = without chip.converters.gates v }) (if r then record chip.converters { gates = without chip.converters.gates v; pulses = bit_or chip.converters.pulses (2 ^ i) } else record chip.converters { gates = without chip.converters.gates v })
      pulses i true false e f = absurd (gone (nat_lt i 4) refl e f)
        where
          gone : (s : Bool) → nat_lt i 4 ≡ s → (s && has_bit (without chip.converters.gates v) i) ≡ true → (s && has_bit chip.converters.gates i) ≡ false → ⊥
          gone true g e f = let lt : i < 4 = grind (arith, nat_tests) in let h : (has_bit chip.converters.gates i && not (has_bit v i)) ≡ true = sym (inside i lt) ∙ e in both (has_bit chip.converters.gates i) (not (has_bit v i)) h f
            where
              both : (a b : Bool) → a && b ≡ true → a ≡ false → ⊥
              both true b x y = cc
              both false b x y = cc
          gone false g e f = cc
      pulses i false true e f = alike_left d ds t _ _ (differ_so d ds (happened chip order) _ _ (record {
        time = refl;
        levels = refl;
        gates = refl;
        all = fit.all;
        also = fit.all;
        units = λ u lt. Are_same refl;
        flags = Flags_left (record { few = fit.few; also = small_or chip.converters.pulses i fit.few few; bits = λ j lt none. has_bit-or chip.converters.pulses (2 ^ i) j ∙ set_apart (has_bit chip.converters.pulses j) (has_bit (2 ^ i) j) (one_bit i j false (apart j none)) });
      }))
        where
          few : i < 4
          few = whether_as (nat_lt i 4) (λ s. (s && has_bit chip.converters.gates i) ≡ true → i < 4)
              (λ g f. grind (arith, nat_tests)) (λ g f. absurd (cc)) f

          named : has_bit v i ≡ true
          named = gate_cleared (nat_lt i 4) (has_bit chip.converters.gates i) (has_bit v i) refl e f
            where
              gate_cleared : (s g b : Bool) → b ≡ has_bit v i → (nat_lt i 4 && has_bit (without chip.converters.gates v) i) ≡ false → (nat_lt i 4 && has_bit chip.converters.gates i) ≡ true → has_bit v i ≡ true
              gate_cleared s g true h e f = sym h
              gate_cleared s g false h e f = absurd (out (nat_lt i 4) (has_bit chip.converters.gates i) f (ap (λ q. nat_lt i 4 && q) (sym (inside i few)) ∙ e) (sym h))
                where
                  out : (s g : Bool) → s && g ≡ true → s && (g && not (has_bit v i)) ≡ false → has_bit v i ≡ false → ⊥
                  out true true f e h = let k : not (has_bit v i) ≡ true = ap (λ q. not q) h in cc
                  out _ _ f e h = cc

          apart : (j : ℕ) → flag_left ds j ≡ false → (j == i) ≡ false
          apart j none = whether_as (j == i) (λ q. q ≡ false)
              (λ h. let same : j ≡ i = grind (arith, nat_tests) in absurd (let k : flag_left ds j ≡ true = ap (λ n. flag_left ds n) same ∙ fit.flags i few named in cc))
              (λ h. refl)
      pulses i _ _ e f = Alike_same refl

      gates_after : (o : Order) → is_fill o ≡ false → Both (block_after o chip.clock.rate (record chip.converters { gates = without chip.converters.gates v })) (record (block_after o chip.clock.rate chip.converters) { gates = without (block_after o chip.clock.rate chip.converters).gates v })
      gates_after (Order.Trigger i) e = subst (λ b. Both (chips.after_pulse (record chip.converters { gates = without chip.converters.gates v }) i) b) (turned (nat_lt i 4 && has_bit chip.converters.gates i)) (pulses i _ _ refl refl)
        where
          turned : (r : Bool) → (if r then record chip.converters { gates = without chip.converters.gates v; pulses = bit_or chip.converters.pulses (2 ^ i) } else record chip.converters { gates = without chip.converters.gates v })
              ≡ record (if r then record chip.converters { pulses = bit_or chip.converters.pulses (2 ^ i) } else chip.converters) { gates = without (if r then record chip.converters { pulses = bit_or chip.converters.pulses (2 ^ i) } else chip.converters).gates v }
          turned true = refl
          turned false = refl
      gates_after _ e = Alike_same refl

  -- a flag that is cleared behind its gate
  pub flags_commute : (v : ℕ) → FitsFlags v chip → Alike d (owed_of d None None ds t) (happened (chip_after chip (Write TriggerFlags v) 0) order) (chip_after (happened chip order) (Write TriggerFlags v) 0)
  flags_commute v fit = either_order (λ b. record b { pulses = without b.pulses v }) (Alike_same (same_block d ds (happened chip order) _ _ (pulses_after order none)))
    where
      p : ℕ
      p = chip.converters.pulses

      cleared : (i : ℕ) → i < 4 → has_bit chip.converters.gates i ≡ true → without (bit_or chip.converters.pulses (2 ^ i)) v ≡ bit_or (without chip.converters.pulses v) (2 ^ i)
      cleared i lt on = bits_of_flags (bit_or (without chip.converters.pulses v) (2 ^ i)) (without (bit_or chip.converters.pulses (2 ^ i)) v) (small_or (without chip.converters.pulses v) i (small_without chip.converters.pulses v fit.few) lt) (small_without (bit_or chip.converters.pulses (2 ^ i)) v (small_or chip.converters.pulses i fit.few lt))
          (λ j few. has_bit-without (bit_or chip.converters.pulses (2 ^ i)) v j fit.bits (omega (arith, few)) ∙ (ap (λ q. q && not (has_bit v j)) (has_bit-or chip.converters.pulses (2 ^ i) j) ∙ (turn (has_bit chip.converters.pulses j) (has_bit (2 ^ i) j) (has_bit v j) (λ e. apart j e) ∙ sym (has_bit-or (without chip.converters.pulses v) (2 ^ i) j ∙ ap (λ q. q || has_bit (2 ^ i) j) (has_bit-without chip.converters.pulses v j fit.bits (omega (arith, few)))))))
        where
          turn : (a b w : Bool) → (b ≡ true → w ≡ false) → ((a || b) && not w) ≡ ((a && not w) || b)
          turn true true w h = ap (λ q. not q) (h refl) ∙ sym (whether_as (not w) (λ q. (q || true) ≡ true)
              (λ _. refl) (λ _. refl))
          turn true false w h = sym ((elim (not w) as (λ q. (q || false) ≡ q) [ true ↦ refl | false ↦ refl ]))
          turn false true w h = ap (λ q. not q) (h refl)
          turn false false w h = refl

          apart : (j : ℕ) → has_bit (2 ^ i) j ≡ true → has_bit v j ≡ false
          apart j e = bit_off (j == i) refl
            where
              bit_off : (q : Bool) → (j == i) ≡ q → has_bit v j ≡ false
              bit_off true h = let same : j ≡ i = grind (arith, nat_tests) in ap (λ n. has_bit v n) same ∙ closed
                where
                  closed : has_bit v i ≡ false
                  closed = whether_as (has_bit v i) (λ q. q ≡ false)
                      (λ k. absurd (let f = fit.gates i lt k in cc)) (λ k. refl)
              bit_off false h = absurd (let f = one_bit i j false h in cc)

      pulses_after : (o : Order) → is_fill o ≡ false → record (block_after o chip.clock.rate chip.converters) { pulses = without (block_after o chip.clock.rate chip.converters).pulses v } ≡ block_after o chip.clock.rate (record chip.converters { pulses = without chip.converters.pulses v })
      pulses_after (Order.Trigger i) e = pulsed (nat_lt i 4 && has_bit chip.converters.gates i) refl
        where
          pulsed : (q : Bool) → (nat_lt i 4 && has_bit chip.converters.gates i) ≡ q → record (if q then record chip.converters { pulses = bit_or chip.converters.pulses (2 ^ i) } else chip.converters) { pulses = without (if q then record chip.converters { pulses = bit_or chip.converters.pulses (2 ^ i) } else chip.converters).pulses v }
              ≡ (if q then record chip.converters { pulses = bit_or (without chip.converters.pulses v) (2 ^ i) } else record chip.converters { pulses = without chip.converters.pulses v })
          pulsed true h = let both = and_parts (nat_lt i 4) (has_bit chip.converters.gates i) h in ap (λ n. record chip.converters { pulses = n }) (cleared i (let few = both.0 in grind (arith, nat_tests)) both.1)
          pulsed false h = refl
      pulses_after _ e = refl
