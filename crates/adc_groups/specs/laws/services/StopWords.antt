-- A group is stopped: the state after it, and what its window's moves make of words and of the block.
-- From hardware.HardwareCommutes, words.StructureParts, services.Decisions, bookkeeping.RefinementRight and 6 more.
-- Used by services.StopRight, adc_laws: serving.services.ServeActRight, adc_laws: serving.services.ServeWords and 1 more.
use Rattle.std.proofs.Common.{◌≡◌, ◌≢◌, ◌+◌, ◌*◌, ◌^◌, ◌<◌, ◌≤◌, ◌&&◌, ◌||◌, ◌==◌, [], ◌∷◌, ◌++◌, ◌∙◌, if◌then◌else◌}
use Rattle.adc_groups.specs.Terms
use Terms.{Abort, ack_left, AdcState, AdcTable, after_deeds, after_list, AllMay, AllRight, and_false, and_true, ap}
use Terms.{arith, bit_of_trigger, Bool, Chip, chip_after, claim_fits, claim_lost, claim_right, claims_on, Continuation}
use Terms.{Converter, ConverterAck, Converters, deed_move, eq_self, false, FitsAdc, flag_left, group_at, group_of}
use Terms.{group_same, GroupState, has_bit, has_bit-without, HasWords, Idle, idle, is_some, is_word, IsBlock, IsDone}
use Terms.{IsUnkept, Keeps, length, length-set, List, making_owed, nat_lt, nat_tests, None, not, off, off_where, Option}
use Terms.{option_as, owed_of, pow_below, quiet, refl, Reservation, Reservations, round_at, Set, Some, some_hold, STATE}
use Terms.{stopped, Store, subst, suc, sym, taken_away, trigger_bit, trigger_input, true, unless_of, unmarked_group}
use Terms.{unmarked_round, untouched, Whole, WindowWrite, without, without_mark, Word, word_number, word_of, World, ℕ}
use Rattle.adc_groups.specs.{declared.making.WindowWrite.TheVariants.{Write}, laws.bookkeeping.FrameRule.{claim_keeps}}
use Rattle.adc_groups.specs.laws.bookkeeping.RefinementRight.{bit_is, input_small}
use Rattle.adc_groups.specs.laws.hardware.HardwareCommutes.{aborted_done, aborted_list, acknowledged_list}
use Rattle.adc_groups.specs.laws.hardware.HardwareCommutes.{acknowledged_over, unit_block, unit_other, unit_set}
use Rattle.adc_groups.specs.{laws.hardware.HardwareCommutes.{unkept_same}, laws.services.RequestRight.{may_set}}
use Rattle.adc_groups.specs.{laws.words.StoreOneWord.{other_at, past_untouched}, laws.words.StructureParts.{AllOf}}
use Rattle.adc_groups.specs.laws.words.StructureParts.{deeds_unit, deeds_whole, lows_set, own_named, set_at}
use Rattle.adc_groups.specs.{laws.words.StructureParts.{units_set}, laws.words.WordsOfModule.{claim_words}}
use Rattle.adc_groups.specs.{laws.words.WordsOfModule.{running_words}, PendingWrites.{IsSound}}
use Rattle.mcal_base.specs.facts.Truths.{or_true}
use Rattle.chip_blocks.specs.converter.Converters as chips

-- ---- the state

abbrev pub halted : GroupState → GroupState
halted x = record x { status = Idle; notification = false; waiting = None; trigger = false }

pub halted_group : (d : AdcTable) (s : AdcState) (g : ℕ) → g < 16 → group_at (stopped d s g) g ≡ halted (group_at s g)
halted_group d s g lt =
    unmarked_group (off s g) g (trigger_input (group_of d g))
    ∙ (group_same (idle s g) g (record (group_at (idle s g) g) { trigger = false }) lt
    ∙ (ap (λ (x : GroupState). record x { trigger = false }) (group_same (quiet s g) g (record (group_at (quiet s g) g) { waiting = None }) lt)
    ∙ ap (λ (x : GroupState). record x { waiting = None; trigger = false }) (group_same s g (record (group_at s g) { status = Idle; notification = false }) lt)))

pub halted_other : (d : AdcTable) (s : AdcState) (g : ℕ) → ((k : ℕ) → 16 ≤ k → group_at s k ≡ untouched) → (k : ℕ) → k ≢ g → group_at (stopped d s g) k ≡ group_at s k
halted_other d s g past k ne =
    unmarked_group (off s g) k (trigger_input (group_of d g))
    ∙ (other_at (idle s g) g (record (group_at (idle s g) g) { trigger = false }) (past_untouched (quiet s g) g (record (group_at (quiet s g) g) { waiting = None })) k ne
    ∙ (other_at (quiet s g) g (record (group_at (quiet s g) g) { waiting = None }) (past_untouched s g (record (group_at s g) { status = Idle; notification = false })) k ne
    ∙ other_at s g (record (group_at s g) { status = Idle; notification = false }) past k ne))

pub halted_round : (d : AdcTable) (s : AdcState) (g : ℕ) → ((v : ℕ) → round_at s (suc (suc v)) ≡ None) → (v : ℕ) → round_at (stopped d s g) v ≡ unless_of g (round_at s v)
halted_round d s g past v = unmarked_round (off s g) v (trigger_input (group_of d g)) ∙ by v
  where
    by : (v : ℕ) → round_at (off s g) v ≡ unless_of g (round_at s v)
    by (suc (suc v)) = sym (ap (λ r. unless_of g r) (past v))
    by _ = refl

pub halted_rest : (d : AdcTable) (s : AdcState) (g : ℕ) → ((stopped d s g).initialised ≡ s.initialised) × ((stopped d s g).requests ≡ s.requests) × ((stopped d s g).results ≡ s.results)
halted_rest d s g = by (trigger_input (group_of d g))
  where
    by : (o : Option ℕ) → ((without_mark (off s g) o).initialised ≡ s.initialised) × ((without_mark (off s g) o).requests ≡ s.requests) × ((without_mark (off s g) o).results ≡ s.results)
    by None = (refl, refl, refl)
    by (Some i) = (refl, refl, refl)

-- ---- the moves

-- what its window makes after the first deed and the order, by whether the group has a turn and a trigger, whether its round is
-- taken away and whether a claim is lost
abbrev pub ends_of : AdcTable → (unit group : ℕ) → (turned wired run lost : Bool) → List WindowWrite
ends_of d u g true wired run lost = Set (Word.Notified g) 0 ∷ (off_where wired (trigger_bit d g) ++ (taken_away run u ++ (claim_lost lost u ++ Set (Word.Turn g) 0 ∷ [])))
ends_of d u g false wired run lost = Set (Word.Notified g) 0 ∷ off_where wired (trigger_bit d g)

pub ends_all : (d : AdcTable) (u g : ℕ) (q wired run lost : Bool) → AllOf g u (ends_of d u g q wired run lost)
ends_all d u g false true run lost = (refl, (tt, (tt, tt)))
ends_all d u g false false run lost = (refl, tt)
ends_all d u g true true true true = (refl, (tt, (tt, (tt, (tt, (refl, (refl, (refl, tt))))))))
ends_all d u g true true true false = (refl, (tt, (tt, (tt, (tt, (refl, (refl, tt)))))))
ends_all d u g true true false false = (refl, (tt, (tt, (refl, tt))))
ends_all d u g true false true true = (refl, (tt, (tt, (refl, (refl, (refl, tt))))))
ends_all d u g true false false true = (refl, (refl, (refl, tt)))
ends_all d u g true false false false = (refl, (refl, tt))
ends_all d u g _ _ _ _ = (refl, (tt, (tt, (refl, (refl, tt)))))

abbrev pub turn_set : Bool → (j x : ℕ) → ℕ
turn_set true j x = set_at 3 0 j x
turn_set false j x = x

pub ends_low : (d : AdcTable) (u g : ℕ) (q wired run lost : Bool) (j x : ℕ) → lows_set (ends_of d u g q wired run lost) j x ≡ turn_set q j (set_at 2 0 j x)
ends_low d u g false false run lost j x = refl
ends_low d u g true true true false j x = refl
ends_low d u g true true false false j x = refl
ends_low d u g true false true false j x = refl
ends_low d u g true false false false j x = refl
ends_low d u g _ _ _ _ j x = refl

abbrev where_set : Bool → (place value j x : ℕ) → ℕ
where_set true i v j x = set_at i v j x
where_set false i v j x = x

pub ends_unit : (d : AdcTable) (u g : ℕ) (q wired run lost : Bool) → (q ≡ false → (run ≡ false) × (lost ≡ false)) → (j x : ℕ) → units_set (ends_of d u g q wired run lost) j x ≡ where_set lost 1 1 j (where_set run 0 0 j x)
ends_unit d u g false true false true still j x = absurd (let e = (still refl).1 in cc)
ends_unit d u g false true false false still j x = refl
ends_unit d u g false false false true still j x = absurd (let e = (still refl).1 in cc)
ends_unit d u g false false false false still j x = refl
ends_unit d u g true true true true still j x = refl
ends_unit d u g true true true false still j x = refl
ends_unit d u g true true false true still j x = refl
ends_unit d u g true true false false still j x = refl
ends_unit d u g true false true true still j x = refl
ends_unit d u g true false true false still j x = refl
ends_unit d u g true false false true still j x = refl
ends_unit d u g true false false false still j x = refl
ends_unit d u g _ _ _ lost still j x = absurd (let e = (still refl).0 in cc)

pub ends_claim : (d : AdcTable) (u g : ℕ) (q wired run lost : Bool) → (q ≡ false → (run ≡ false) × (lost ≡ false)) → (x : ℕ) → units_set (ends_of d u g q wired run lost) 1 x ≡ (if lost then 1 else x)
ends_claim d u g q wired run lost still x = ends_unit d u g q wired run lost still 1 x ∙ claim_set run lost
  where
    claim_set : (run lost : Bool) → where_set lost 1 1 1 (where_set run 0 0 1 x) ≡ (if lost then 1 else x)
    claim_set true false = refl
    claim_set false false = refl
    claim_set _ _ = refl

pub ends_running : (d : AdcTable) (u g : ℕ) (q wired run lost : Bool) → (q ≡ false → (run ≡ false) × (lost ≡ false)) → (x : ℕ) → units_set (ends_of d u g q wired run lost) 0 x ≡ (if run then 0 else x)
ends_running d u g q wired run lost still x = ends_unit d u g q wired run lost still 0 x ∙ running_set run lost
  where
    running_set : (run lost : Bool) → where_set lost 1 1 0 (where_set run 0 0 0 x) ≡ (if run then 0 else x)
    running_set true false = refl
    running_set false false = refl
    running_set _ _ = refl

pub turn_kept : (q : Bool) (j x : ℕ) → (3 == j) ≡ false → turn_set q j x ≡ x
turn_kept true j x e = ap (λ b. if b then 0 else x) e
turn_kept false j x e = refl

-- ---- the block

abbrev pub off_block : Bool → ℕ → Converters → Converters
off_block true v c = record c { gates = without c.gates v; pulses = without c.pulses v }
off_block false v c = c

abbrev aborted_block : ℕ → Converters → Converters
aborted_block u c = chips.with_unit c u (chips.aborted c.time (chips.unit_at c u))

abbrev acknowledged_block : ℕ → Converters → Converters
acknowledged_block u c = chips.with_unit c u (chips.acknowledged c.time (chips.unit_at c u))

abbrev pub away_block : Bool → ℕ → Converters → Converters
away_block true u c = acknowledged_block u (aborted_block u c)
away_block false u c = c

pub ends_block : (d : AdcTable) (u g : ℕ) (q wired run lost : Bool) → (q ≡ false → (run ≡ false) × (lost ≡ false)) → (c : Chip) → (after_list (deed_move d) c (ends_of d u g q wired run lost)).converters ≡ away_block run u (off_block wired (trigger_bit d g) c.converters)
ends_block d u g false wired true lost still c = absurd (let e = (still refl).0 in cc)
ends_block d u g false false false lost still c = refl
ends_block d u g true true true false still c = refl
ends_block d u g true true false false still c = refl
ends_block d u g true false true false still c = refl
ends_block d u g true false false false still c = refl
ends_block d u g _ _ _ _ still c = refl

pub ends_control : (d : AdcTable) (u g : ℕ) (q wired run lost : Bool) (c : Chip) → (after_list (deed_move d) c (ends_of d u g q wired run lost)).control ≡ c.control
ends_control d u g false false run lost c = refl
ends_control d u g true true true false c = refl
ends_control d u g true true false false c = refl
ends_control d u g true false true false c = refl
ends_control d u g true false false false c = refl
ends_control d u g _ _ _ _ c = refl

-- what stays of the block
pub record BlockStays (w : World) (u : ℕ) (c e : Converters) : Type 0 where
  pub time : e.time ≡ c.time
  pub levels : e.levels ≡ c.levels
  pub block : IsBlock e w
  pub others : (k : ℕ) → k ≢ u → chips.unit_at e k ≡ chips.unit_at c k

off_stays : (w : World) (u : ℕ) (q : Bool) (v : ℕ) (c : Converters) → IsBlock c w → BlockStays w u c (off_block q v c)
off_stays w u true v c h = record { time = refl; levels = refl; block = record { all = h.all; lists = h.lists; past = h.past; samples = h.samples }; others = λ k ne. refl }
off_stays w u false v c h = record { time = refl; levels = refl; block = h; others = λ k ne. refl }

away_stays : (w : World) (u : ℕ) (q : Bool) (c : Converters) → IsBlock c w → BlockStays w u c (away_block q u c)
away_stays w u true c h =
    let ends = unit_block c w u (chips.aborted c.time (chips.unit_at c u)) h (λ less. ap length (aborted_list (chips.unit_at c u) c.time) ∙ h.lists u less) in
    record {
      time = refl;
      levels = refl;
      block = unit_block (aborted_block u c) w u (chips.acknowledged c.time (chips.unit_at (aborted_block u c) u)) ends (λ less. ap length (acknowledged_list (chips.unit_at (aborted_block u c) u) c.time) ∙ ends.lists u less);
      others = λ k ne. unit_other (aborted_block u c).units u k (chips.acknowledged c.time (chips.unit_at (aborted_block u c) u)) ne ∙ unit_other c.units u k (chips.aborted c.time (chips.unit_at c u)) ne;
    }
away_stays w u false c h = record { time = refl; levels = refl; block = h; others = λ k ne. refl }

pub block_stays : (w : World) (u : ℕ) (wired run : Bool) (v : ℕ) (c : Converters) → IsBlock c w → BlockStays w u c (away_block run u (off_block wired v c))
block_stays w u wired run v c h =
    let a = off_stays w u wired v c h in
    let b = away_stays w u run (off_block wired v c) a.block in
    record { time = b.time ∙ a.time; levels = b.levels ∙ a.levels; block = b.block; others = λ k ne. b.others k ne ∙ a.others k ne }

pub off_unit : (wired : Bool) (v u : ℕ) (c : Converters) → chips.unit_at (off_block wired v c) u ≡ chips.unit_at c u
off_unit true v u c = refl
off_unit false v u c = refl

pub off_time : (wired : Bool) (v : ℕ) (c : Converters) → (off_block wired v c).time ≡ c.time
off_time true v c = refl
off_time false v c = refl

-- the flags and gates of a block whose unit's round is taken away
pub away_bits : (run : Bool) (u : ℕ) (c : Converters) → ((away_block run u c).gates ≡ c.gates) × ((away_block run u c).pulses ≡ c.pulses)
away_bits true u c = (refl, refl)
away_bits false u c = (refl, refl)

-- the unit is over then
pub away_over : (u : ℕ) (c : Converters) → u < length c.units → IsSound (chips.unit_at c u).round c.time → (t : ℕ) × ((chips.unit_at (away_block true u c) u).round.closed ≡ Some t) × (t ≤ c.time)
away_over u c lt sound =
    let x : Converter = chips.aborted c.time (chips.unit_at c u) in
    let inner : chips.unit_at (aborted_block u c) u ≡ x = unit_set c.units u x lt in
    let more : u < length (aborted_block u c).units = (let e = length-set c.units u x in omega (arith, e, lt)) in
    let is : chips.unit_at (away_block true u c) u ≡ chips.acknowledged c.time x = unit_set (aborted_block u c).units u (chips.acknowledged c.time (chips.unit_at (aborted_block u c) u)) more ∙ ap (λ z. chips.acknowledged c.time z) inner in
    let over = acknowledged_over x c.time (aborted_done (chips.unit_at c u) c.time sound) in
    (over.0, ap (λ (z : Converter). z.round.closed) is ∙ over.1, over.2)

-- ---- claims

-- where a frame keeps values of a group, no round is on the unit
pub kept_free : (d : AdcTable) (chip : Chip) (w : World) (s : AdcState) (u k : ℕ) (hs : Reservations) → AllRight d chip w s hs → claim_right hs u (2 + k) ≡ true → round_at s u ≡ None
kept_free d chip w s u k hs r e = (claim_keeps d chip w s u k hs r e).0

-- such a claim may be lost
pub claim_loses : (u k : ℕ) (hs : Reservations) → claim_right hs u (2 + k) ≡ true → claim_right hs u 1 ≡ true
claim_loses u k [] e = absurd (let none : (2 + k == 0) ≡ true = e in grind (arith, nat_tests))
claim_loses u k (x ∷ xs) e = one x.what (claims_on u x.what) (claim_loses u k xs) e
  where
    fits : (z : Reservation) → claim_fits z (2 + k) ≡ true → claim_fits z 1 ≡ true
    fits (Keeps v j n m i y) f = or_true (1 == 2 + j)
    fits (Whole v j n) f = or_true (1 == 2 + j)
    fits _ f = refl

    both : (a b c : Bool) → (a ≡ true → b ≡ true) → a && c ≡ true → b && c ≡ true
    both true b c f e = ap (λ q. q && c) (f refl) ∙ e
    both false b c f e = absurd (cc)

    one : (z : Reservation) (q : Bool) → (claim_right xs u (2 + k) ≡ true → claim_right xs u 1 ≡ true) → (if q then claim_fits z (2 + k) && not (some_hold (claims_on u) xs) else claim_right xs u (2 + k)) ≡ true → (if q then claim_fits z 1 && not (some_hold (claims_on u) xs) else claim_right xs u 1) ≡ true
    one z true rest f = both (claim_fits z (2 + k)) (claim_fits z 1) (not (some_hold (claims_on u) xs)) (fits z) f
    one z false rest f = rest f

-- ---- its moves may be made

pub deeds_list : (d : AdcTable) (c : Chip) (ds : List WindowWrite) → after_deeds d c ds ≡ after_list (deed_move d) c ds
deeds_list d c [] = refl
deeds_list d c (x ∷ xs) = deeds_list d (chip_after c (deed_move d x) 0) xs

pub bits_few : (d : AdcTable) → FitsAdc d → (g : ℕ) → trigger_bit d g < 2 ^ 32
bits_few d fits g = option_as (trigger_input (group_of d g)) (λ o. bit_of_trigger o < 2 ^ 32)
    (λ i e. let few = input_small d fits g i e in subst (λ n. n < 2 ^ 32) (sym (bit_is i few)) (pow_below i 32 (omega (arith, few))))
    (λ e. omega arith)

module _ (d : AdcTable) (fits : FitsAdc d) (g u : ℕ) (there : is_some (group_of d g) ≡ true) (few : u < 2) (after : Continuation) where
  abbrev May : Chip → List WindowWrite → Type 0
  May c ds = AllMay (making_owed d) (deed_move d) (λ xs. owed_of d None None xs after) c ds

  there_unit : nat_lt u 2 ≡ true
  there_unit = grind (arith, nat_tests)

  may_off : (wired : Bool) (c : Chip) (rest : List WindowWrite) → length c.converters.units ≡ 2 → c.converters.pulses < 16 → May (after_list (deed_move d) c (off_where wired (trigger_bit d g))) rest → May c (off_where wired (trigger_bit d g) ++ rest)
  may_off false c rest all small m = m
  may_off true c rest all small m =
      let bits = bits_few d fits g in
      ((refl, record { all = all; bits = bits; few = small; flags = λ i lt e. ap (λ q. q || flag_left rest i) e }), ((refl, record { bits = bits; few = small; gates = λ i lt e. has_bit-without c.converters.gates (trigger_bit d g) i bits (omega (arith, lt)) ∙ (ap (λ q. has_bit c.converters.gates i && not q) e ∙ and_false (has_bit c.converters.gates i)) }), m))

  may_away : (run : Bool) (c : Chip) (rest : List WindowWrite) → length c.converters.units ≡ 2 → (run ≡ true → IsSound (chips.unit_at c.converters u).round c.converters.time) → (run ≡ true → IsUnkept d u c (Set (Word.Running u) 0 ∷ rest)) → May (after_list (deed_move d) c (taken_away run u)) rest → May c (taken_away run u ++ rest)
  may_away false c rest all sound free m = m
  may_away true c rest all sound free m =
      let x : Converter = chips.aborted c.converters.time (chips.unit_at c.converters u) in
      let is : chips.unit_at (aborted_block u c.converters) u ≡ x = unit_set c.converters.units u x (omega (arith, few, all)) in (
        (and_true (nat_lt u 2) ∙ there_unit, record { all = all; round = sound refl; ack = ap (λ q. q || ack_left (Set (Word.Running u) 0 ∷ rest) u) (eq_self u); unkept = unkept_same d u c (chip_after c (deed_move d (Write (ConverterAck u) 1)) 0) (Set (Word.Running u) 0 ∷ rest) refl (free refl) }),
        (
          (and_true (nat_lt u 2) ∙ there_unit, record { all = length-set c.converters.units u x ∙ all; round = subst (λ (z : Converter). IsDone z.round c.converters.time) (sym is) (aborted_done (chips.unit_at c.converters u) c.converters.time (sound refl)); unkept = unkept_same d u c (chip_after c (deed_move d (Abort u)) 0) (Set (Word.Running u) 0 ∷ rest) refl (free refl) }),
          ((own_named d fits (λ k. is_word d k) (λ k e. e) (Store (word_number d (Word.Running u)) 0) (running_words d u few), tt), m),
        ),
      )

  may_lose : (lost : Bool) (c : Chip) (rest : List WindowWrite) → May (after_list (deed_move d) c (claim_lost lost u)) rest → May c (claim_lost lost u ++ rest)
  may_lose false c rest m = m
  may_lose true c rest m = ((own_named d fits (λ k. is_word d k) (λ k e. e) (Store (word_number d (Word.Claim u)) 1) (claim_words d u few), tt), m)

  off_nil : (wired : Bool) → off_where wired (trigger_bit d g) ++ [] ≡ off_where wired (trigger_bit d g)
  off_nil true = refl
  off_nil false = refl

  off_all : (wired : Bool) → AllOf g u (Set (Word.Notified g) 0 ∷ off_where wired (trigger_bit d g))
  off_all true = (refl, (tt, (tt, tt)))
  off_all false = (refl, tt)

  off_claim : (wired : Bool) (x : ℕ) → units_set (Set (Word.Notified g) 0 ∷ off_where wired (trigger_bit d g)) 1 x ≡ x
  off_claim true x = refl
  off_claim false x = refl

  off_after : (wired : Bool) (c : Chip) → (after_list (deed_move d) c (off_where wired (trigger_bit d g))).converters ≡ off_block wired (trigger_bit d g) c.converters
  off_after true c = refl
  off_after false c = refl

  off_length : (wired : Bool) (c : Converters) → length (off_block wired (trigger_bit d g) c).units ≡ length c.units
  off_length true c = refl
  off_length false c = refl

  last_all : (lost : Bool) → AllOf g u (Set (Word.Running u) 0 ∷ (claim_lost lost u ++ Set (Word.Turn g) 0 ∷ []))
  last_all true = (refl, (refl, (refl, tt)))
  last_all false = (refl, (refl, tt))

  last_claim : (lost : Bool) (x : ℕ) → units_set (Set (Word.Running u) 0 ∷ (claim_lost lost u ++ Set (Word.Turn g) 0 ∷ [])) 1 x ≡ (if lost then 1 else x)
  last_claim true x = refl
  last_claim false x = refl

  pub may_ends : (q wired run lost : Bool) (c : Chip) → HasWords c → length c.converters.units ≡ 2 → c.converters.pulses < 16 → (run ≡ true → IsSound (chips.unit_at c.converters u).round c.converters.time) → (run ≡ true → (k : ℕ) → word_of c (word_number d (Word.Claim u)) ≢ 2 + k) → May c (ends_of d u g q wired run lost)
  may_ends false wired run lost c whole all small sound free = ((may_set d fits g there 2 0 (omega arith), tt), subst (λ zs. May (chip_after c (deed_move d (Set (Word.Notified g) 0)) 0) zs) (off_nil wired) (may_off wired (chip_after c (deed_move d (Set (Word.Notified g) 0)) 0) [] all small tt))
  may_ends true wired run lost c whole all small sound free = (
    (may_set d fits g there 2 0 (omega arith), tt),
    may_off wired told (taken_away run u ++ (claim_lost lost u ++ Set (Word.Turn g) 0 ∷ [])) all small
        (may_away run later (claim_lost lost u ++ Set (Word.Turn g) 0 ∷ []) (ap (λ (z : Converters). length z.units) (off_after wired told) ∙ (off_length wired c.converters ∙ all)) unit unkept
        (may_lose lost (after_list (deed_move d) later (taken_away run u)) (Set (Word.Turn g) 0 ∷ []) ((may_set d fits g there 3 0 (omega arith), tt), tt))),
  )
    where
      told : Chip
      told = chip_after c (deed_move d (Set (Word.Notified g) 0)) 0

      later : Chip
      later = after_list (deed_move d) told (off_where wired (trigger_bit d g))

      unit : run ≡ true → IsSound (chips.unit_at later.converters u).round later.converters.time
      unit e = subst (λ (z : Converters). IsSound (chips.unit_at z u).round z.time) (sym (off_after wired told)) (subst (λ n. IsSound (chips.unit_at (off_block wired (trigger_bit d g) c.converters) u).round n) (sym (off_time wired (trigger_bit d g) c.converters)) (subst (λ (z : Converter). IsSound z.round c.converters.time) (sym (off_unit wired (trigger_bit d g) u c.converters)) (sound e)))

      whole_later : HasWords later
      whole_later = deeds_whole d (Set (Word.Notified g) 0 ∷ off_where wired (trigger_bit d g)) c whole

      at : STATE + 8 + 8 * u + 1 ≡ word_number d (Word.Claim u)
      at = omega arith

      before : word_of later (STATE + 8 + 8 * u + 1) ≡ word_of c (STATE + 8 + 8 * u + 1)
      before = deeds_unit d fits g u there few (Set (Word.Notified g) 0 ∷ off_where wired (trigger_bit d g)) (off_all wired) c whole 1 (omega arith) ∙ off_claim wired (word_of c (STATE + 8 + 8 * u + 1))

      last : word_of (after_deeds d later (Set (Word.Running u) 0 ∷ (claim_lost lost u ++ Set (Word.Turn g) 0 ∷ []))) (STATE + 8 + 8 * u + 1) ≡ (if lost then 1 else word_of c (STATE + 8 + 8 * u + 1))
      last =
          ap (λ z. word_of z (STATE + 8 + 8 * u + 1)) (deeds_list d later (Set (Word.Running u) 0 ∷ (claim_lost lost u ++ Set (Word.Turn g) 0 ∷ [])))
          ∙ (deeds_unit d fits g u there few (Set (Word.Running u) 0 ∷ (claim_lost lost u ++ Set (Word.Turn g) 0 ∷ [])) (last_all lost) later whole_later 1 (omega arith)
          ∙ (last_claim lost (word_of later (STATE + 8 + 8 * u + 1)) ∙ ap (λ x. if lost then 1 else x) before))

      unkept : run ≡ true → IsUnkept d u later (Set (Word.Running u) 0 ∷ (claim_lost lost u ++ Set (Word.Turn g) 0 ∷ []))
      unkept e k same = by lost (sym last ∙ subst (λ n. word_of (after_deeds d later (Set (Word.Running u) 0 ∷ (claim_lost lost u ++ Set (Word.Turn g) 0 ∷ []))) n ≡ 2 + k) (sym at) same)
        where
          by : (l : Bool) → (if l then 1 else word_of c (STATE + 8 + 8 * u + 1)) ≡ 2 + k → ⊥
          by true f = omega (arith, f)
          by false f = free e k (subst (λ n. word_of c n ≡ 2 + k) at f)
