-- What a change leaves of all that frames below hold.
-- From words.WordsChange, words.WordsOfModule, hardware.StableUnderHardware, words.Cases and 3 more.
-- Used by services.RequestRight, services.StopRight, services.EnableTriggerRight and 15 more.
use Rattle.std.proofs.Common.{◌≡◌, ◌≢◌, ◌+◌, ◌-◌, ◌*◌, ◌/◌, ◌%◌, ◌<◌, ◌≤◌, ◌&&◌, ◌||◌, ◌==◌, [], ◌∷◌, ◌∙◌, ◌⊎◌}
use Rattle.std.proofs.Common.{if◌then◌else◌}
use Rattle.adc_groups.specs.Terms
use Terms.{AdcState, AdcTable, Agrees, AllRight, and_first, and_second, ap, arith, Backed, Bank, bank_number, bank_word}
use Terms.{BanksAgree, bit_of, Bool, Call, cases, Chip, chosen_of, claim_fits, claim_right, Claims, claims_on, Clears}
use Terms.{Column, Converter, Converters, Copies, Entry, eq_is, eq_other, eq_self, false, Fills, first_held, FitsAdc}
use Terms.{Full, group_at, group_of, group_word, GroupAgrees, GroupState, has_bit, has_turn, HeldRight, holds-agree}
use Terms.{inl, inputs_of, inr, is_clearing, is_on, is_owed, is_round_of, is_some, is_trigger_line, is_unit_line}
use Terms.{IsBlock, IsSound, IsSoundGroup, IsSoundRequest, Keeps, KeepsRight, kept_by, kept_in, kept_of_round}
use Terms.{kept_word, length, List, listener, mark_at, min, nat_lt, nat_tests, newest, None, none_some, not, number_at}
use Terms.{number_by, Option, option_as, order_of, order_own, own_of, phase_of, place_count, place_value, PlacesAgree}
use Terms.{Promised, put_of, Reads, refl, Request, Reservation, Reservations, ReservedBy, result_word, ResultBuffer}
use Terms.{Round, round_at, RoundAgrees, rounds_of, running_of, same_or_other, samples_of, Settled, slice_get, Some}
use Terms.{some_hold, SoundGroup, stands-agree, StandsIn, start_of, STATE, subst, sym, take_of, trigger_input}
use Terms.{TriggersAgree, trio_of, true, unit_of, UnitAgrees, whether_as, Whole, WholeRight, Word, word_number, word_of}
use Terms.{World, ℕ}
use Rattle.adc_groups.specs.laws.{bookkeeping.RefinementRight.{off_unit}, hardware.StableUnderHardware.{few_values}}
use Rattle.adc_groups.specs.laws.hardware.StableUnderHardware.{kept_within, listed_agree}
use Rattle.adc_groups.specs.laws.{words.OrderWords.{listed_there}, words.StoreOneWord.{groups_apart, place_apart}}
use Rattle.adc_groups.specs.laws.{words.StoreOneWord.{start_from}, words.WordsChange.{and_off, at_most, bank_is}}
use Rattle.adc_groups.specs.laws.words.WordsChange.{bank_past, bank_place, banks_front, claim_is, control_is}
use Rattle.adc_groups.specs.laws.words.WordsChange.{eight_low, in_order, kept_inside, kept_is, kept_look, kept_past}
use Rattle.adc_groups.specs.laws.words.WordsChange.{look_same, low_within, none_low, one_low, own_at, past_eight}
use Rattle.adc_groups.specs.laws.words.WordsChange.{past_state, past_unit, place_past, running_is, SameRound}
use Rattle.adc_groups.specs.laws.words.WordsChange.{seven_low, six_low, small_low, turn_look, unit_low, units_apart}
use Rattle.adc_groups.specs.laws.words.WordsOfModule.{bank_below, on_there, unit_is, unit_small, unit_within}
use Rattle.std.proofs.lemmas.Bool.{not-true}
use Rattle.chip_blocks.specs.converter.Converters as chips
use Rattle.chip_blocks.specs.converter.Rounds as rounds

-- the banks of a group stand as before where their words stay, and where the same put and take are under way
pub banks_stay : {d : AdcTable} {before after : Reservations} {s : AdcState} {g : ℕ} (a b : Chip) → BanksAgree d before (word_of a) s g → ((k : ℕ) → own_of (trio_of (rounds_of d g)) k ≡ true → word_of b k ≡ word_of a k)
    → first_held (put_of d g) before ≡ first_held (put_of d g) after → first_held (take_of g) before ≡ first_held (take_of g) after → BanksAgree d after (word_of b) s g
banks_stay {d} {g} a b q stay put take = record {
  banks = q.banks;
  stands = stands-agree (trio_of (rounds_of d g)) (word_of a) (word_of b) q.banks (λ k own. sym (stay k own)) q.stands;
  newest = q.newest;
  put = q.put ∙ put;
  take = q.take ∙ take;
}

-- the same puts and takes are under way, the same places are owed, the same claims are right, and as much is cleared
pub record SameWork (d : AdcTable) (before after : Reservations) : Type 0 where
  pub puts : (g : ℕ) → first_held (put_of d g) before ≡ first_held (put_of d g) after
  pub takes : (g : ℕ) → first_held (take_of g) before ≡ first_held (take_of g) after
  pub owed : (g : ℕ) (b : ResultBuffer) (p : ℕ) → p < place_count d g → some_hold (is_owed g b p) after ≡ false → some_hold (is_owed g b p) before ≡ false
  pub claims : (u v : ℕ) → claim_right before u v ≡ true → claim_right after u v ≡ true
  pub clears : some_hold is_clearing after ≡ false → some_hold is_clearing before ≡ false

-- then chip and state agree as before
pub holds_anew : {d : AdcTable} {before after : Reservations} {chip : Chip} {w : World} {s : AdcState} → Agrees d before chip w s → SameWork d before after → AllRight d chip w s after → Backed after → ((u : ℕ) → Promised d before w s u → Promised d after w s u)
    → Agrees d after chip w s
holds_anew {d} {chip} h same right backed promised = record {
  sound = h.sound;
  outside = h.outside;
  state = h.state;
  right = right;
  banks = λ g there. banks_stay chip chip (h.banks g there) (λ k own. refl) (same.puts g) (same.takes g);
  block = h.block;
  rounds = h.rounds;
  triggers = h.triggers;
  places = λ g b p lt free. h.places g b p lt (same.owed g b p lt free);
  backed = backed;
  settled = λ e. (let q = h.settled e in record { groups = q.groups; units = q.units; claims = λ u lt. same.claims u (word_of chip (word_number d (Word.Claim u))) (q.claims u lt); lines = q.lines; promised = λ u. promised u (q.promised u) });
  left = λ off free. h.left off (same.clears free);
}

-- ---- claims

-- where the frame that runs claims a unit, its claim's word fits, and no frame below claims the unit
pub claim_tells : (u : ℕ) (fits rest : Bool) (below : Reservations) → (if u == u then fits && not (some_hold (claims_on u) below) else rest) ≡ true → (fits ≡ true) × (some_hold (claims_on u) below ≡ false)
claim_tells u fits rest below e =
    let both : fits && not (some_hold (claims_on u) below) ≡ true = sym (ap (λ q. if q then fits && not (some_hold (claims_on u) below) else rest) (eq_self u)) ∙ e in
    (and_first fits (not (some_hold (claims_on u) below)) both, not-true (some_hold (claims_on u) below) (and_second fits (not (some_hold (claims_on u) below)) both))

-- and it is 1 where it keeps no values
pub claimed_parts : (u x : ℕ) (below : Reservations) (rest : Bool) → (if u == u then (x == 1) && not (some_hold (claims_on u) below) else rest) ≡ true → (x ≡ 1) × (some_hold (claims_on u) below ≡ false)
claimed_parts u x below rest e = let both = claim_tells u (x == 1) rest below e in (eq_is x 1 both.0, both.1)

-- what is said of a claim by frames below one that claims another unit
pub claim_past : (v u : ℕ) (first rest : Bool) → v ≢ u → (if v == u then first else rest) ≡ rest
claim_past v u first rest ne = ap (λ q. if q then first else rest) (eq_other v u ne)

-- ---- A change of one group, of its unit and of their words leaves all else agreeing: other groups, the other unit, what frames hold,
-- and the places of the users' buffers.

-- ---- what changes, and what stays

-- A change of a group and of its unit: what stays of the state, of words, of registers and of what is held.
pub record Stays (d : AdcTable) (before after : Reservations) (a b : Chip) (s t : AdcState) (g u : ℕ) : Type 0 where
  pub on : s.initialised ≡ true
  pub still : t.initialised ≡ true
  pub requests : s.requests ≤ t.requests
  pub others : (k : ℕ) → k ≢ g → group_at t k ≡ group_at s k
  pub rounds : (v : ℕ) → v ≢ u → round_at t v ≡ round_at s v
  pub from : (r : Round) → round_at t u ≡ Some r → r.group ≢ g → round_at s u ≡ Some r
  pub to : (r : Round) → round_at s u ≡ Some r → r.group ≢ g → round_at t u ≡ Some r
  pub results : (k : ℕ) → k ≢ g → (n : ResultBuffer) (p : ℕ) → place_value t k n p ≡ place_value s k n p
  -- only the group's first seven words, its control word and the words of the unit may be others
  pub elsewhere : (k : ℕ) → ((i : ℕ) → i < 8 → k ≢ group_word d g i) → ((i : ℕ) → i < 5 → k ≢ STATE + 8 + 8 * u + i) → word_of b k ≡ word_of a k
  -- a claim of another group stays
  pub claim_from : (k : ℕ) → k ≢ g → word_of b (word_number d (Word.Claim u)) ≡ 2 + k → word_of a (word_number d (Word.Claim u)) ≡ 2 + k
  pub claim_to : (k : ℕ) → k ≢ g → word_of a (word_number d (Word.Claim u)) ≡ 2 + k → word_of b (word_number d (Word.Claim u)) ≡ 2 + k
  -- and so does what its round has
  pub unit : (k : ℕ) → k ≢ g → word_of b (word_number d (Word.Claim u)) ≡ 2 + k → chips.unit_at b.converters u ≡ chips.unit_at a.converters u
  pub units : (v : ℕ) → v < 2 → v ≢ u → chips.unit_at b.converters v ≡ chips.unit_at a.converters v
  pub levels : b.converters.levels ≡ a.converters.levels
  pub time : b.converters.time ≡ a.converters.time
  pub enabled : (l : ℕ) → is_unit_line l || is_trigger_line l ≡ true → has_bit b.control.enabled l ≡ has_bit a.control.enabled l
  -- the top frame holds nothing else of other groups than before
  pub puts : (k : ℕ) → k ≢ g → first_held (put_of d k) after ≡ first_held (put_of d k) before
  pub takes : (k : ℕ) → k ≢ g → first_held (take_of k) after ≡ first_held (take_of k) before

-- what a frame below holds isn't touched: where it claims the unit, no round comes new to that, and neither it nor the group's turn keeps anything of the group;
-- and a bank of the group that it copies stays the newest, with the places of the group, and one that it reads stays pinned
pub record Spares (d : AdcTable) (a b : Chip) (s t : AdcState) (g u : ℕ) (z : Reservation) : Type 0 where
  pub rounds : claims_on u z ≡ true → (r : Round) → round_at t u ≡ Some r → round_at s u ≡ Some r
  pub unkept : claims_on u z ≡ true → word_of b (word_number d (Word.Claim u)) ≢ 2 + g
  pub lost : claims_on u z ≡ true → kept_in d t g ≡ []
  pub copies : (n : Bank) (c : Column) (i : ℕ) (x : Option ℕ) → z ≡ Copies n c i x → c.group ≡ g → (word_of b (group_word d g 7) % 4 ≡ word_of a (group_word d g 7) % 4) × ((m : ResultBuffer) (p : ℕ) → place_value t g m p ≡ place_value s g m p)
  pub reads : (k : ℕ) (n : Bank) (vs : List ℕ) → z ≡ Reads k n vs → k ≡ g → word_of b (group_word d g 7) / 4 ≡ word_of a (group_word d g 7) / 4

abbrev pub AllSpare : AdcTable → (a b : Chip) → AdcState → AdcState → (g u : ℕ) → Reservations → Type 0
AllSpare d a b s t g u [] = Unit {0}
AllSpare d a b s t g u (h ∷ hs) = Spares d a b s t g u h.what × AllSpare d a b s t g u hs

-- where each hold is
pub all_spare : (d : AdcTable) (a b : Chip) (s t : AdcState) (g u : ℕ) → ((z : Reservation) → Spares d a b s t g u z) → (hs : Reservations) → AllSpare d a b s t g u hs
all_spare d a b s t g u each [] = tt
all_spare d a b s t g u each (h ∷ hs) = (each h.what, all_spare d a b s t g u each hs)

-- the unit is free, and the group waits where the unit's claim keeps its values
abbrev pub IsKept : AdcTable → Chip → AdcState → (unit group : ℕ) → Type 0
IsKept d chip s u k = (round_at s u ≡ None) × (word_of chip (word_number d (Word.Claim u)) ≡ 2 + k → is_some (group_at s k).waiting ≡ true)

-- it is so of a group whose values a claim may keep, since some frame does
pub claim_keeps : (d : AdcTable) (chip : Chip) (w : World) (s : AdcState) (u k : ℕ) (hs : Reservations) → AllRight d chip w s hs
    → claim_right hs u (2 + k) ≡ true → IsKept d chip s u k
claim_keeps d chip w s u k [] r e = absurd (let none : (2 + k == 0) ≡ true = e in grind (arith, nat_tests))
claim_keeps d chip w s u k (x ∷ xs) r e = one x.what r.0 (claim_keeps d chip w s u k xs r.1) e
  where
    plain : (q : Bool) → (claim_right xs u (2 + k) ≡ true → IsKept d chip s u k)
        → (if q then (2 + k == 1) && not (some_hold (claims_on u) xs) else claim_right xs u (2 + k)) ≡ true → IsKept d chip s u k
    plain true rest f = absurd (let one = and_first (2 + k == 1) (not (some_hold (claims_on u) xs)) f in grind (arith, nat_tests))
    plain false rest f = rest f

    keeping : (v j : ℕ) (q : Bool) → (u == v) ≡ q → IsKept d chip s v j → (claim_right xs u (2 + k) ≡ true → IsKept d chip s u k)
        → (if q then ((2 + k == 2 + j) || (2 + k == 1)) && not (some_hold (claims_on u) xs) else claim_right xs u (2 + k)) ≡ true
        → IsKept d chip s u k
    keeping v j true i kept rest f =
        let unit : v ≡ u = grind (arith, nat_tests) in
        let one = and_first ((2 + k == 2 + j) || (2 + k == 1)) (not (some_hold (claims_on u) xs)) f in
        let group : j ≡ k = grind (arith, nat_tests) in
        subst (λ n. IsKept d chip s n k) unit (subst (λ n. IsKept d chip s v n) group kept)
    keeping v j false i kept rest f = rest f

    one : (z : Reservation) → HeldRight d chip w s x z → (claim_right xs u (2 + k) ≡ true → IsKept d chip s u k)
        → (if claims_on u z then claim_fits z (2 + k) && not (some_hold (claims_on u) xs) else claim_right xs u (2 + k)) ≡ true
        → IsKept d chip s u k
    one (Fills v j n m i y) h rest f = plain (u == v) rest f
    one (Full v j n) h rest f = plain (u == v) rest f
    one (Claims v) h rest f = plain (u == v) rest f
    one (Keeps v j n m i y) h rest f = keeping v j (u == v) refl (h.2, λ c. (h.3 c).waits) rest f
    one (Whole v j n) h rest f = keeping v j (u == v) refl (h.2, λ c. (h.3 c).waits) rest f
    one _ h rest f = rest f

-- no frame keeps values of a group that doesn't wait
pub no_keeper : (d : AdcTable) (chip : Chip) (w : World) (s : AdcState) (g u : ℕ) → is_some (group_at s g).waiting ≡ false
    → (hs : Reservations) → AllRight d chip w s hs → claim_right hs u (word_of chip (word_number d (Word.Claim u))) ≡ true
    → word_of chip (word_number d (Word.Claim u)) ≢ 2 + g
no_keeper d chip w s g u none hs right claim same = let on : is_some (group_at s g).waiting ≡ true = (claim_keeps d chip w s u g hs right (subst (λ v. claim_right hs u v ≡ true) same claim)).1 same in cc

-- What is new of the group and of its unit, and of what looks at all groups.
pub record Fresh (d : AdcTable) (after : Reservations) (b : Chip) (w : World) (t : AdcState) (g u : ℕ) : Type 0 where
  pub sound : IsSoundGroup d t g
  pub waits : (q : Request) → (group_at t g).waiting ≡ Some q → IsSoundRequest d t g q
  pub runs : (r : Round) → round_at t u ≡ Some r → r.group ≡ g → ((group_at t g).waiting ≡ None) × (r.start ≤ w.now) × IsSoundRequest d t g r.request
  pub marks : (i : ℕ) → mark_at t i ≡ true → is_some (listener d t i) ≡ true
  pub hears : has_turn t g ≡ true → is_some (trigger_input (group_of d g)) ≡ true → (group_at t g).trigger ≡ true
  pub outside : StandsIn b w
  pub block : IsBlock b.converters w
  pub round : RoundAgrees d b.converters w (chips.unit_at b.converters u) (round_at t u)
  pub triggers : TriggersAgree d b.converters t
  pub right : AllRight d b w t after
  pub banks : BanksAgree d after (word_of b) t g
  pub places : PlacesAgree d after (word_of b) t
  pub backed : Backed after
  pub group : GroupAgrees d (word_of b) t g
  pub unit : UnitAgrees d (word_of b) t u
  pub claims : (v : ℕ) → v < 2 → claim_right after v (word_of b (word_number d (Word.Claim v))) ≡ true
  pub promised : (v : ℕ) → Promised d after w t v

-- a unit's round agrees as before where the unit is the same, at the same time
pub round_kept : (d : AdcTable) (x y : Converters) (w : World) (p q : Converter) (r : Option Round) → q ≡ p → y.levels ≡ x.levels → y.time ≡ x.time → RoundAgrees d x w p r → RoundAgrees d y w q r
round_kept d x y w p q None same levels time h = (h.0, ap (λ (z : Converter). z.round.closed) same ∙ h.1, subst (λ n. h.0 ≤ n) (sym time) h.2)
round_kept d x y w p q (Some r) same levels time h = record {
  on = ap (λ (z : Converter). z.round.closed) same ∙ h.on;
  start = ap (λ (z : Converter). z.round.start) same ∙ h.start;
  count = ap (λ (z : Converter). z.round.count) same ∙ h.count;
  inputs = λ i input e. ap (λ (z : Converter). rounds.input_of z.round i) same ∙ h.inputs i input e;
  values = λ i input e le. ap (λ z. chips.result y.levels y.time z i) same ∙ (ap (λ n. chips.result y.levels n p i) time ∙ (ap (λ l. chips.result l x.time p i) levels ∙ h.values i input e le));
}

module _ (d : AdcTable) (fits : FitsAdc d) (before after : Reservations) (a b : Chip) (w : World) (s t : AdcState) (h : Agrees d before a w s) (g u : ℕ) (at : is_on u (group_of d g) ≡ true) (c : Stays d before after a b s t g u) where
  there : is_some (group_of d g) ≡ true
  there = on_there u (group_of d g) at

  few : u < 2
  few = unit_within d fits u g at

  -- ---- words that stay

  of_other : (k j : ℕ) → is_some (group_of d k) ≡ true → k ≢ g → j < 32 + 6 * length (inputs_of (group_of d k)) → word_of b (group_word d k j) ≡ word_of a (group_word d k j)
  of_other k j here ne less = c.elsewhere (group_word d k j) (λ i lt. groups_apart d fits g k i j there here (λ e. ne (sym e)) (eight_low i lt) less) (λ i lt e. past_unit (start_of (group_of d k)) j u i (start_from d fits k here).0 few lt e)

  low_stays : (k j : ℕ) → is_some (group_of d k) ≡ true → k ≢ g → j < 32 → word_of b (group_word d k j) ≡ word_of a (group_word d k j)
  low_stays k j here ne less = of_other k j here ne (low_within j (length (inputs_of (group_of d k))) less)

  -- a word of the group's own, behind its first eight
  of_group : (j : ℕ) → 8 ≤ j → word_of b (group_word d g j) ≡ word_of a (group_word d g j)
  of_group j le = c.elsewhere (group_word d g j) (λ i lt e. past_eight (start_of (group_of d g)) i j lt le e) (λ i lt e. past_unit (start_of (group_of d g)) j u i (start_from d fits g there).0 few lt e)

  -- any group's word behind its first eight
  behind : (k j : ℕ) → is_some (group_of d k) ≡ true → 8 ≤ j → j < 32 + 6 * length (inputs_of (group_of d k))
      → word_of b (group_word d k j) ≡ word_of a (group_word d k j)
  behind k j here le less = cases (same_or_other k g)
      (λ e. subst (λ m. word_of b (group_word d m j) ≡ word_of a (group_word d m j)) (sym e) (of_group j le))
      (λ ne. of_other k j here ne less)

  bank_stays : (k : ℕ) (n : Bank) (j : ℕ) → is_some (group_of d k) ≡ true → j < length (inputs_of (group_of d k))
      → word_of b (bank_word (rounds_of d k) n j) ≡ word_of a (bank_word (rounds_of d k) n j)
  bank_stays k n j here less =
      let len = length (inputs_of (group_of d k)) in
      subst (λ m. word_of b m ≡ word_of a m) (bank_is d k n j) (behind k (32 + bank_number n * len + j) here (bank_past (bank_number n) len j) (bank_place (bank_number n) len j (bank_below d fits n) less))

  kept_stays : (k j : ℕ) → is_some (group_of d k) ≡ true → j < length (inputs_of (group_of d k)) → word_of b (kept_word (rounds_of d k) j) ≡ word_of a (kept_word (rounds_of d k) j)
  kept_stays k j here less =
      let len = length (inputs_of (group_of d k)) in
      subst (λ m. word_of b m ≡ word_of a m) (kept_is d k j) (behind k (32 + 3 * len + j) here (kept_past len j) (kept_inside j len less))

  -- a word of the other unit, and the state word
  unit_stays : (v i : ℕ) → v < 2 → v ≢ u → i < 5 → word_of b (STATE + 8 + 8 * v + i) ≡ word_of a (STATE + 8 + 8 * v + i)
  unit_stays v i less ne lt = c.elsewhere (STATE + 8 + 8 * v + i) (λ j lt1 e. past_unit (start_of (group_of d g)) j v i (start_from d fits g there).0 less lt (sym e)) (λ j lt1 e. units_apart u v i j lt lt1 ne e)

  state_stays : word_of b STATE ≡ word_of a STATE
  state_stays = c.elsewhere STATE (λ j lt e. past_state (start_of (group_of d g)) j (start_from d fits g there).0 e) (λ j lt e. unit_low u j e)

  pub claim_stays : (v : ℕ) → v < 2 → v ≢ u → word_of b (word_number d (Word.Claim v)) ≡ word_of a (word_number d (Word.Claim v))
  claim_stays v less ne = subst (λ k. word_of b k ≡ word_of a k) (claim_is d v) (unit_stays v 1 less ne one_low)

  -- ---- the state of other groups

  same_round : (v : ℕ) → SameRound g (round_at t v) (round_at s v)
  same_round v = cases (same_or_other v u)
      (λ e. subst (λ n. SameRound g (round_at t n) (round_at s n)) (sym e) (record { from = c.from; to = c.to }))
      (λ ne. record { from = λ x i n. sym (c.rounds v ne) ∙ i; to = λ x i n. c.rounds v ne ∙ i })

  waiting_same : (k : ℕ) → k ≢ g → (group_at t k).waiting ≡ (group_at s k).waiting
  waiting_same k ne = ap (λ (x : GroupState). x.waiting) (c.others k ne)

  seen_round : (k v : ℕ) → k ≢ g → is_round_of k (round_at t v) ≡ is_round_of k (round_at s v)
  seen_round k v ne = turn_look k (round_at t v) ∙ (look_same false (λ x. true) g k (round_at t v) (round_at s v) ne (same_round v) ∙ sym (turn_look k (round_at s v)))

  pub turn_same : (k : ℕ) → k ≢ g → has_turn t k ≡ has_turn s k
  turn_same k ne =
      ap (λ q. is_some q || is_round_of k (round_at t 0) || is_round_of k (round_at t 1)) (waiting_same k ne)
      ∙ (ap (λ q. is_some (group_at s k).waiting || q || is_round_of k (round_at t 1)) (seen_round k 0 ne)
      ∙ ap (λ q. is_some (group_at s k).waiting || is_round_of k (round_at s 0) || q) (seen_round k 1 ne))

  kept_round : (k v : ℕ) → k ≢ g → kept_of_round k (round_at t v) ≡ kept_of_round k (round_at s v)
  kept_round k v ne = kept_look k (round_at t v) ∙ (look_same [] (λ x. x.request.kept) g k (round_at t v) (round_at s v) ne (same_round v) ∙ sym (kept_look k (round_at s v)))

  pub kept_same : (k : ℕ) → k ≢ g → kept_in d t k ≡ kept_in d s k
  kept_same k ne =
      ap (λ q. kept_by q (kept_of_round k (round_at t (unit_of (group_of d k))))) (waiting_same k ne)
      ∙ ap (λ q. kept_by (group_at s k).waiting q) (kept_round k (unit_of (group_of d k)) ne)

  -- a group of the other unit
  other_group : (v k : ℕ) → v ≢ u → is_on v (group_of d k) ≡ true → k ≢ g
  other_group v k ne on e = ne (sym (unit_is d fits v (group_of d k) on) ∙ (ap (λ n. unit_of (group_of d n)) e ∙ unit_is d fits u (group_of d g) at))

  number_same : (v k : ℕ) → v ≢ u → is_on v (group_of d k) ≡ true → number_at d t k ≡ number_at d s k
  number_same v k ne on =
      let unit : unit_of (group_of d k) ≡ v = unit_is d fits v (group_of d k) on in
      ap (λ q. number_by q (round_at t (unit_of (group_of d k)))) (waiting_same k (other_group v k ne on))
      ∙ ap (λ q. number_by (group_at s k).waiting q) (c.rounds (unit_of (group_of d k)) (λ e. ne (sym unit ∙ e)))

  -- ---- what is held

  -- a round of a claimed unit was there before
  was_there : (v : ℕ) (z : Reservation) → Spares d a b s t g u z → claims_on v z ≡ true → (r : Round) → round_at t v ≡ Some r → round_at s v ≡ Some r
  was_there v z free claims r e = cases (same_or_other v u)
      (λ i. subst (λ n. round_at s n ≡ Some r) (sym i) (free.rounds (subst (λ n. claims_on n z ≡ true) i claims) r (subst (λ n. round_at t n ≡ Some r) i e)))
      (λ ne. sym (c.rounds v ne) ∙ e)

  no_round : (v : ℕ) (z : Reservation) → Spares d a b s t g u z → claims_on v z ≡ true → round_at s v ≡ None → round_at t v ≡ None
  no_round v z free claims e = option_as (round_at t v) (λ q. q ≡ None)
      (λ r i. none_some (sym e ∙ was_there v z free claims r i)) (λ _. refl)

  -- where a unit's claim keeps a group's values, that is another group, whose claim was there before
  module _ (v k : ℕ) (z : Reservation) (free : Spares d a b s t g u z) (claims : claims_on v z ≡ true) (on : is_on v (group_of d k) ≡ true) (claim : word_of b (word_number d (Word.Claim v)) ≡ 2 + k) where
    kept_other : k ≢ g
    kept_other e =
        let unit : v ≡ u = sym (unit_is d fits v (group_of d k) on) ∙ (ap (λ n. unit_of (group_of d n)) e ∙ unit_is d fits u (group_of d g) at) in
        free.unkept (subst (λ n. claims_on n z ≡ true) unit claims) (subst (λ n. word_of b (word_number d (Word.Claim n)) ≡ 2 + g) unit (claim ∙ ap (λ n. 2 + n) e))

    claimed_before : word_of a (word_number d (Word.Claim v)) ≡ 2 + k
    claimed_before = cases (same_or_other v u)
        (λ e. subst (λ n. word_of a (word_number d (Word.Claim n)) ≡ 2 + k) (sym e) (c.claim_from k kept_other (subst (λ n. word_of b (word_number d (Word.Claim n)) ≡ 2 + k) e claim)))
        (λ ne. sym (claim_stays v (unit_within d fits v k on) ne) ∙ claim)

    unit_before : chips.unit_at b.converters v ≡ chips.unit_at a.converters v
    unit_before = cases (same_or_other v u)
        (λ e. subst (λ n. chips.unit_at b.converters n ≡ chips.unit_at a.converters n) (sym e) (c.unit k kept_other (subst (λ n. word_of b (word_number d (Word.Claim n)) ≡ 2 + k) e claim)))
        (λ ne. c.units v (unit_within d fits v k on) ne)

    whole_changed : (n : ℕ) → WholeRight d a s v k n → WholeRight d b t v k n
    whole_changed n q = record {
      waits = ap (λ o. is_some o) (waiting_same k kept_other) ∙ q.waits;
      count = ap length (kept_same k kept_other) ∙ q.count;
      kept = λ j m is. let was = sym (ap (λ xs. slice_get xs j) (kept_same k kept_other)) ∙ is in kept_stays k j (on_there v (group_of d k) on) (kept_within d w s h.sound k j m was) ∙ q.kept j m was;
    }

    keeps_changed : (e : ℕ) (n : Option ℕ) (i : ℕ) (x : Option ℕ) → KeepsRight d a s v k e n i x → KeepsRight d b t v k e n i x
    keeps_changed e n i x q = record {
      waits = ap (λ o. is_some o) (waiting_same k kept_other) ∙ q.waits;
      count = ap length (kept_same k kept_other) ∙ (q.count ∙ sym (ap (λ m. e + m) ended));
      told = λ m f. q.told m f ∙ sym ended;
      word = low_stays k 6 (on_there v (group_of d k) on) kept_other six_low ∙ q.word;
      kept = λ j m less is. let was = sym (ap (λ xs. slice_get xs j) (kept_same k kept_other)) ∙ is in kept_stays k j (on_there v (group_of d k) on) (kept_within d w s h.sound k j m was) ∙ q.kept j m less was;
      results = λ j m is. result j ∙ q.results j m (sym (ap (λ xs. slice_get xs (e + j)) (kept_same k kept_other)) ∙ is);
      next = λ m is. ap (λ xs. slice_get xs (e + i)) (kept_same k kept_other) ∙ q.next m is;
    }
      where
        ended : rounds.ended (chips.unit_at b.converters v).round b.converters.time ≡ rounds.ended (chips.unit_at a.converters v).round a.converters.time
        ended = ap (λ x. rounds.ended x.round b.converters.time) unit_before ∙ ap (λ n. rounds.ended (chips.unit_at a.converters v).round n) c.time

        result : (j : ℕ) → chips.result b.converters.levels b.converters.time (chips.unit_at b.converters v) j ≡ chips.result a.converters.levels a.converters.time (chips.unit_at a.converters v) j
        result j = ap (λ x. chips.result b.converters.levels b.converters.time x j) unit_before ∙ (ap (λ n. chips.result b.converters.levels n (chips.unit_at a.converters v) j) c.time ∙ ap (λ l. chips.result l a.converters.time (chips.unit_at a.converters v) j) c.levels)

  -- and where none does, a turn of the group keeps nothing
  lost_changed : (v k : ℕ) (z : Reservation) → Spares d a b s t g u z → claims_on v z ≡ true → is_on v (group_of d k) ≡ true → word_of b (word_number d (Word.Claim v)) ≢ 2 + k → (word_of a (word_number d (Word.Claim v)) ≢ 2 + k → kept_in d s k ≡ []) → kept_in d t k ≡ []
  lost_changed v k z free claims on lost was = cases (same_or_other k g)
      (λ e.
      let unit : v ≡ u = sym (unit_is d fits v (group_of d k) on) ∙ (ap (λ n. unit_of (group_of d n)) e ∙ unit_is d fits u (group_of d g) at) in
      subst (λ n. kept_in d t n ≡ []) (sym e) (free.lost (subst (λ n. claims_on n z ≡ true) unit claims)))
      (λ ne. kept_same k ne ∙ was (not_before ne (same_or_other v u)))
    where
      not_before : k ≢ g → (v ≡ u) ⊎ (v ≢ u) → word_of a (word_number d (Word.Claim v)) ≢ 2 + k
      not_before ne (inl e) f = lost (subst (λ n. word_of b (word_number d (Word.Claim n)) ≡ 2 + k) (sym e) (c.claim_to k ne (subst (λ n. word_of a (word_number d (Word.Claim n)) ≡ 2 + k) e f)))
      not_before ne (inr off) f = lost (claim_stays v (unit_within d fits v k on) off ∙ f)

  held_changed : (x : ReservedBy Call Reservation) (z : Reservation) → Spares d a b s t g u z → HeldRight d a w s x z → HeldRight d b w t x z
  held_changed x (Clears n) free r = absurd (let f = r.1 in let e = c.on in cc)
  held_changed x (Claims v) free r = (r.0, c.still, no_round v (Claims v) free (eq_self v) r.2)
  held_changed x (Fills v k e n j p) free r = (
    r.0,
    c.still,
    r.2,
    (let q = r.3 in record {
      same = λ z o. q.same z (was_there v (Fills v k e n j p) free (eq_self v) z o);
      filled = λ z m i o less is. let f = was_there v (Fills v k e n j p) free (eq_self v) z o in bank_stays k n m (on_there v (group_of d k) r.2) (few_values d w s h.sound v z k f (q.same z f).0 m i is) ∙ q.filled z m i f less is;
      next = λ z i o is. q.next z i (was_there v (Fills v k e n j p) free (eq_self v) z o) is;
    }),
  )
  held_changed x (Full v k n) free r = (
    r.0,
    c.still,
    r.2,
    (let q = r.3 in record {
      same = λ z o. q.same z (was_there v (Full v k n) free (eq_self v) z o);
      filled = λ z m i o is. let f = was_there v (Full v k n) free (eq_self v) z o in bank_stays k n m (on_there v (group_of d k) r.2) (few_values d w s h.sound v z k f (q.same z f).0 m i is) ∙ q.filled z m i f is;
    }),
  )
  held_changed x (Whole v k n) free r = (c.still, r.1, no_round v (Whole v k n) free (eq_self v) r.2, λ e. whole_changed v k (Whole v k n) free (eq_self v) r.1 e n (r.3 (claimed_before v k (Whole v k n) free (eq_self v) r.1 e)))
  held_changed x (Keeps v k e n j p) free r = (c.still, r.1, no_round v (Keeps v k e n j p) free (eq_self v) r.2, λ f. keeps_changed v k (Keeps v k e n j p) free (eq_self v) r.1 f e n j p (r.3 (claimed_before v k (Keeps v k e n j p) free (eq_self v) r.1 f)), λ f. lost_changed v k (Keeps v k e n j p) free (eq_self v) r.1 f r.4)
  held_changed x (Copies n k j p) free r = (
    r.0,
    c.still,
    r.2,
    (let q = r.3 in let stay = control_and_results (same_or_other k.group g) in record {
      newest = stay.0 ∙ q.newest;
      values = λ m less le. bank_stays k.group n m r.2 less ∙ (q.values m less le ∙ sym (stay.1 _ _));
      next = λ m e. q.next m e ∙ sym (stay.1 _ _);
    }),
  )
    where
      control_and_results : (k.group ≡ g) ⊎ (k.group ≢ g) → (word_of b (trio_of (rounds_of d k.group)).control % 4 ≡ word_of a (trio_of (rounds_of d k.group)).control % 4) × ((m : ResultBuffer) (i : ℕ) → place_value t k.group m i ≡ place_value s k.group m i)
      control_and_results (inl e) =
          let kept = free.copies n k j p refl e in
          (subst (λ z. word_of b z % 4 ≡ word_of a z % 4) (ap (λ z. group_word d z 7) (sym e) ∙ control_is d k.group) kept.0, λ m i. subst (λ z. place_value t z m i ≡ place_value s z m i) (sym e) (kept.1 m i))
      control_and_results (inr ne) = (ap (λ m. m % 4) (subst (λ m. word_of b m ≡ word_of a m) (control_is d k.group) (low_stays k.group 7 r.2 ne seven_low)), c.results k.group ne)
  held_changed x (Reads k n vs) free r = (
    r.0,
    c.still,
    r.2,
    (let q = r.3 in record {
      whole = q.whole;
      answered = q.answered;
      pinned = pin (same_or_other k g) ∙ q.pinned;
      bank = (q.bank.0, listed_agree (word_of b) (word_of a) (bank_word (rounds_of d k) n 0) (length q.whole) (λ m less. word m (subst (λ z. m < z) (q.bank.0) less)) ∙ q.bank.1);
      front = q.front;
    }),
  )
    where
      pin : (k ≡ g) ⊎ (k ≢ g) → word_of b (trio_of (rounds_of d k)).control / 4 ≡ word_of a (trio_of (rounds_of d k)).control / 4
      pin (inl e) = subst (λ z. word_of b z / 4 ≡ word_of a z / 4) (ap (λ z. group_word d z 7) (sym e) ∙ control_is d k) (free.reads k n vs refl e)
      pin (inr ne) = ap (λ m. m / 4) (subst (λ m. word_of b m ≡ word_of a m) (control_is d k) (low_stays k 7 r.2 ne seven_low))

      word : (m : ℕ) → m < length (inputs_of (group_of d k)) → word_of b (bank_word (rounds_of d k) n 0 + m) ≡ word_of a (bank_word (rounds_of d k) n 0 + m)
      word m less = subst (λ z. word_of b z ≡ word_of a z) (banks_front d k n m) (bank_stays k n m r.2 less)
  held_changed x _ free r = c.still

  -- what frames below hold stays right
  pub all_changed : (hs : Reservations) → AllSpare d a b s t g u hs → AllRight d a w s hs → AllRight d b w t hs
  all_changed [] free r = tt
  all_changed (x ∷ xs) free r = (held_changed x x.what free.0 r.0, all_changed xs free.1 r.1)

  -- ---- other groups and the other unit

  -- the words of a group's banks stay where its control word does
  trio_stays : (k : ℕ) → is_some (group_of d k) ≡ true → word_of b (group_word d k 7) ≡ word_of a (group_word d k 7) → (j : ℕ)
      → own_of (trio_of (rounds_of d k)) j ≡ true → word_of a j ≡ word_of b j
  trio_stays k here control j own = sym (whether_as (j == (trio_of (rounds_of d k)).control) (λ q. word_of b j ≡ word_of a j)
      (λ e. subst (λ m. word_of b m ≡ word_of a m) (control_is d k ∙ sym (eq_is j (trio_of (rounds_of d k)).control e)) control)
      (λ e. let at = own_at d k j e own in subst (λ m. word_of b m ≡ word_of a m) at.0 (behind k (j - (STATE + start_of (group_of d k))) here at.1 at.2)))

  trio_other : (k j : ℕ) → is_some (group_of d k) ≡ true → k ≢ g → own_of (trio_of (rounds_of d k)) j ≡ true → word_of a j ≡ word_of b j
  trio_other k j here ne own = trio_stays k here (low_stays k 7 here ne seven_low) j own

  pub trio_group : word_of b (group_word d g 7) ≡ word_of a (group_word d g 7) → (j : ℕ) → own_of (trio_of (rounds_of d g)) j ≡ true → word_of a j ≡ word_of b j
  trio_group control j own = trio_stays g there control j own

  -- the places of the users' buffers
  pub place_stays : (k : ℕ) (n : ResultBuffer) (p : ℕ) → word_of b (result_word k n p) ≡ word_of a (result_word k n p)
  place_stays k n p = c.elsewhere (result_word k n p) (λ i lt. place_apart d fits g i k n p there (eight_low i lt)) (λ i lt e. place_past k n p u i few lt e)

  -- the claims' words, where that of the unit stays
  pub claims_stay : word_of b (word_number d (Word.Claim u)) ≡ word_of a (word_number d (Word.Claim u)) → (v : ℕ) → v < 2 → word_of b (word_number d (Word.Claim v)) ≡ word_of a (word_number d (Word.Claim v))
  claims_stay same v less = cases (same_or_other v u)
      (λ e. subst (λ n. word_of b (word_number d (Word.Claim n)) ≡ word_of a (word_number d (Word.Claim n))) (sym e) same)
      (λ ne. claim_stays v less ne)

  banks_changed : (k : ℕ) → is_some (group_of d k) ≡ true → k ≢ g → BanksAgree d before (word_of a) s k → BanksAgree d after (word_of b) t k
  banks_changed k here ne q = record {
    banks = q.banks;
    stands = stands-agree (trio_of (rounds_of d k)) (word_of a) (word_of b) q.banks (λ j own. trio_other k j here ne own) q.stands;
    newest = λ i some. q.newest (λ z. i (ap (λ (x : GroupState). x.status) (c.others k ne) ∙ z)) (subst (λ (x : GroupState). 0 < length x.rounds) (c.others k ne) some) ∙ ap (λ (x : GroupState). newest x.rounds) (sym (c.others k ne));
    put = q.put ∙ sym (c.puts k ne);
    take = q.take ∙ sym (c.takes k ne);
  }

  group_changed : (k : ℕ) → is_some (group_of d k) ≡ true → k ≢ g → GroupAgrees d (word_of a) s k → GroupAgrees d (word_of b) t k
  group_changed k here ne q = record {
    phase = low 0 refl ∙ (q.phase ∙ (ap (λ (x : GroupState). phase_of x.status (has_turn s k || x.trigger)) (sym (c.others k ne)) ∙ ap (λ o. phase_of (group_at t k).status (o || (group_at t k).trigger)) (sym (turn_same k ne))));
    chosen = low 1 refl ∙ (q.chosen ∙ ap (λ (x : GroupState). chosen_of x.chosen) (sym (c.others k ne)));
    notified = low 2 refl ∙ (q.notified ∙ ap (λ (x : GroupState). bit_of x.notification) (sym (c.others k ne)));
    turn = low 3 refl ∙ (q.turn ∙ ap (λ o. bit_of o) (sym (turn_same k ne)));
    count = λ e. low 4 refl ∙ (q.count (λ i. e (ap (λ (x : GroupState). x.status) (c.others k ne) ∙ i)) ∙ ap (λ (x : GroupState). min (length x.rounds) (samples_of (group_of d k))) (sym (c.others k ne)));
    place = λ e. low 5 refl ∙ (q.place (λ i. e (ap (λ (x : GroupState). x.status) (c.others k ne) ∙ i)) ∙ ap (λ (x : GroupState). length x.rounds % samples_of (group_of d k)) (sym (c.others k ne)));
    kept = λ e f. low 6 refl ∙ (q.kept (sym (turn_same k ne) ∙ e) (λ i. f (claimed i)) ∙ ap length (sym (kept_same k ne)));
    values = λ e f j m is. let was = sym (ap (λ xs. slice_get xs j) (kept_same k ne)) ∙ is in kept_stays k j here (kept_within d w s h.sound k j m was) ∙ q.values (sym (turn_same k ne) ∙ e) (λ i. f (claimed i)) j m was;
  }
    where
      low : (j : ℕ) → nat_lt j 8 ≡ true → word_of b (group_word d k j) ≡ word_of a (group_word d k j)
      low j less = low_stays k j here ne (small_low j less)

      v : ℕ
      v = unit_of (group_of d k)

      claimed : word_of a (word_number d (Word.Claim (unit_of (group_of d k)))) ≡ 2 + k → word_of b (word_number d (Word.Claim (unit_of (group_of d k)))) ≡ 2 + k
      claimed e = cases (same_or_other (unit_of (group_of d k)) u)
          (λ i. subst (λ n. word_of b (word_number d (Word.Claim n)) ≡ 2 + k) (sym i) (c.claim_to k ne (subst (λ n. word_of a (word_number d (Word.Claim n)) ≡ 2 + k) i e)))
          (λ nu. claim_stays (unit_of (group_of d k)) (unit_small d fits k here) nu ∙ e)

  unit_changed : (v : ℕ) → v < 2 → v ≢ u → UnitAgrees d (word_of a) s v → UnitAgrees d (word_of b) t v
  unit_changed v less ne q = record {
    running = subst (λ k. word_of b k ≡ word_of a k) (running_is d v) (unit_stays v 0 less ne none_low) ∙ (q.running ∙ ap (λ r. running_of r) (sym (c.rounds v ne)));
    order =
        let o = q.order.2 in (
          q.order.0,
          holds-agree (order_of v) (word_of a) (word_of b) q.order.0 (λ k own. sym (order_stays k own)) q.order.1,
          record {
            there = λ k. o.there k ∙ cases (same_or_other k g)
                (λ e. and_off (has_turn s k) (has_turn t k) (is_on v (group_of d k)) (ap (λ n. is_on v (group_of d n)) e ∙ off_unit d fits g u v at ne))
                (λ nk. ap (λ z. z && is_on v (group_of d k)) (sym (turn_same k nk)));
            waits = λ n x e. o.waits n x e ∙ ap (λ z. is_some z) (sym (waiting_same x.number (other_group v x.number ne (on n x e))));
            sorted = λ n m x z lt e f. subst (λ k. k < number_at d t z.number) (sym (number_same v x.number ne (on n x e))) (subst (λ k. number_at d s x.number < k) (sym (number_same v z.number ne (on m z f))) (o.sorted n m x z lt e f));
          },
        );
  }
    where
      on : (n : ℕ) (x : Entry) → slice_get q.order.0 n ≡ Some x → is_on v (group_of d x.number) ≡ true
      on n x e = and_second (has_turn s x.number) (is_on v (group_of d x.number)) (sym (q.order.2.there x.number) ∙ listed_there q.order.0 n x e)

      order_stays : (k : ℕ) → order_own (order_of v) k ≡ true → word_of b k ≡ word_of a k
      order_stays k own = let at = in_order v k own in subst (λ j. word_of b j ≡ word_of a j) at.0 (unit_stays v (k - (STATE + 8 + 8 * v)) less ne at.1)

  -- ---- all of it

  module _ (n : Fresh d after b w t g u) where
    more : (m : ℕ) → m ≤ s.requests → m ≤ t.requests
    more m le = at_most m s.requests t.requests le c.requests

    sound_changed : IsSound d w t
    sound_changed = record {
      groups = λ k. cases (same_or_other k g)
          (λ e. subst (λ m. IsSoundGroup d t m) (sym e) n.sound)
          (λ ne. subst (λ x. SoundGroup (group_of d k) (has_turn t k) x) (sym (c.others k ne)) (subst (λ q. SoundGroup (group_of d k) q (group_at s k)) (sym (turn_same k ne)) (h.sound.groups k)));
      waits = λ k q e. waits_by k q e (same_or_other k g);
      runs = λ v r e. runs_by v r e (same_or_other r.group g);
      marks = n.marks;
      hears = λ k e i. cases (same_or_other k g)
          (λ q. subst (λ m. (group_at t m).trigger ≡ true) (sym q) (n.hears (subst (λ m. has_turn t m ≡ true) q e) (subst (λ m. is_some (trigger_input (group_of d m)) ≡ true) q i)))
          (λ ne. ap (λ (x : GroupState). x.trigger) (c.others k ne) ∙ h.sound.hears k (sym (turn_same k ne) ∙ e) i);
      rest = λ off. absurd (let e = c.still in cc);
      off = λ off. absurd (let e = c.still in cc);
    }
      where
        waits_by : (k : ℕ) (q : Request) → (group_at t k).waiting ≡ Some q → (k ≡ g) ⊎ (k ≢ g) → IsSoundRequest d t k q
        waits_by k q e (inl i) = subst (λ m. IsSoundRequest d t m q) (sym i) (n.waits q (subst (λ m. (group_at t m).waiting ≡ Some q) i e))
        waits_by k q e (inr ne) = let x = h.sound.waits k q (sym (waiting_same k ne) ∙ e) in (x.0, more q.number x.1, x.2, x.3)

        on_unit : (v : ℕ) (r : Round) → round_at t v ≡ Some r → r.group ≡ g → v ≡ u
        on_unit v r e i =
            elim (same_or_other v u)
            [ inl q ↦ q | inr ne ↦ (let x = h.sound.runs v r (sym (c.rounds v ne) ∙ e) in absurd (other_group v r.group ne x.1 i)) ]

        runs_by : (v : ℕ) (r : Round) → round_at t v ≡ Some r → (r.group ≡ g) ⊎ (r.group ≢ g) → (v < 2) × (is_on v (group_of d r.group) ≡ true) × ((group_at t r.group).waiting ≡ None) × (r.start ≤ w.now) × IsSoundRequest d t r.group r.request
        runs_by v r e (inl i) =
            let unit = on_unit v r e i in
            let x = n.runs r (subst (λ m. round_at t m ≡ Some r) unit e) i in
            (subst (λ m. m < 2) (sym unit) few, subst (λ m. is_on m (group_of d r.group) ≡ true) (sym unit) (subst (λ m. is_on u (group_of d m) ≡ true) (sym i) at), subst (λ m. (group_at t m).waiting ≡ None) (sym i) x.0, x.1, subst (λ m. IsSoundRequest d t m r.request) (sym i) x.2)
        runs_by v r e (inr ne) = let x = h.sound.runs v r ((same_round v).from r e ne) in (x.0, x.1, waiting_same r.group ne ∙ x.2, x.3, (x.4.0, more r.request.number x.4.1, x.4.2, x.4.3))

    settled_changed : Settled d after b w t
    settled_changed =
        let q = h.settled c.on in record {
          groups = λ k here. cases (same_or_other k g)
              (λ e. subst (λ m. GroupAgrees d (word_of b) t m) (sym e) n.group)
              (λ ne. group_changed k here ne ((h.settled c.on).groups k here));
          units = λ v less. cases (same_or_other v u)
              (λ e. subst (λ m. UnitAgrees d (word_of b) t m) (sym e) n.unit)
              (λ ne. unit_changed v less ne ((h.settled c.on).units v less));
          claims = n.claims;
          lines = λ l e. c.enabled l e ∙ q.lines l e;
          promised = n.promised;
        }

    -- all agrees after the change
    pub changed : Agrees d after b w t
    changed = record {
      sound = sound_changed;
      outside = n.outside;
      state = state_stays ∙ (h.state ∙ ap (λ q. bit_of q) (c.on ∙ sym c.still));
      right = n.right;
      banks = λ k here. cases (same_or_other k g)
          (λ e. subst (λ m. BanksAgree d after (word_of b) t m) (sym e) n.banks)
          (λ ne. banks_changed k here ne (h.banks k here));
      block = n.block;
      rounds = λ v less. cases (same_or_other v u)
          (λ e. subst (λ m. RoundAgrees d b.converters w (chips.unit_at b.converters m) (round_at t m)) (sym e) n.round)
          (λ ne. subst (λ q. RoundAgrees d b.converters w (chips.unit_at b.converters v) q) (sym (c.rounds v ne)) (round_kept d a.converters b.converters w (chips.unit_at a.converters v) (chips.unit_at b.converters v) (round_at s v) (c.units v less ne) c.levels c.time (h.rounds v less)));
      triggers = n.triggers;
      places = n.places;
      backed = n.backed;
      settled = λ e. settled_changed;
      left = λ off. absurd (let on = c.still in cc);
    }
