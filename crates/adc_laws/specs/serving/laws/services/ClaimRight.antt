-- The handler of a unit's line reads whether a finished round is there, looks whose it is, and chooses a bank for it.
-- From adc_groups: words.WordsChange, adc_groups: services.Decisions, adc_groups: words.WordsOfModule and 11 more.
-- Used by adc_driver: services.AllSteps, services.ServeRight, services.CopyRight, services.GiveUpRight and 2 more.
use Rattle.std.proofs.Common.{◌≡◌, ◌≢◌, ◌+◌, ◌-◌, ◌/◌, ◌%◌, ◌<◌, ◌&&◌, ◌||◌, ◌==◌, [], ◌∷◌, ◌∙◌, if◌then◌else◌}
use Rattle.adc_laws.specs.serving.Terms
use Terms.{aborts, adc_bodies, adc_machine, AdcBody, AdcGround, AdcState, AdcTable, Agrees, all_stay, AllRight, ap}
use Terms.{arith, AssertedAt, bank_number, bank_of, banks_stay, BanksAgree, body_ends, body_work, Bool, Call, cases}
use Terms.{Chip, chip_after, Chooses, chooses, choosing, chosen, claim, claim_now, claim_other, claim_past}
use Terms.{claim_right, claim_stays_below, claim_words, Claims, claims_on, CommitsTo, Continuation, ConverterState}
use Terms.{copies_or, copying, core_claim, CoreStays, DecidedRight, decides_so, ended_at, Entered, eq_is, eq_other}
use Terms.{eq_self, false, few_inputs, Fills, finished_here, first_held, FitsAdc, Flag, flagged, foot_of}
use Terms.{FrameHistory, free, fresh_history, Full, Goes, group_in, group_of, HasWords, held, HeldRight, InFlag}
use Terms.{inputs_of, InWindow, is_done, is_finished, is_handler, is_on, is_round_of, is_some, Is_this_frame, is_word}
use Terms.{IsAlone, IsChosen, IsTaken, Keeps, kept_claimed, kept_in, kept_round, kept_within, length, limited, List}
use Terms.{Load, looking, Looks, looks_right, makes, making, making_owed, missed_after, nat_le, nat_lt, nat_tests}
use Terms.{None, none_aborted, not, on_there, one_owed, Option, or_else, or_from, or_left, or_right, Origin, Outside}
use Terms.{over, own_named, PendingWrites, Place, place_claimed, place_ends, Put, put_of, put_start, PutPart, Read}
use Terms.{ready, refl, Reservation, Reservations, ReservedBy, RightOr, Round, round_at, round_turn, rounds_of}
use Terms.{running_of, same_or_other, Serves, Set, Some, some_hold, some_inputs, stands-agree, Starts, starts_on}
use Terms.{stays_agree, Store, subst, suc, sym, take_by, Taken, trio_claimed, trio_of, TripleBuffer, true, unclaimed}
use Terms.{unit_is, unit_of, value_of, whether_as, Whole, will_yield, Window, within, Word, word_number, word_of}
use Terms.{World, zero, ℕ}
use Rattle.adc_laws.specs.serving.laws.words.ControlWord.{number_of_bank}
use Rattle.word_shapes.specs.declared.streams.rounds.Bank.TheVariants.{Zero}
use Rattle.adc_groups.specs.laws.services.Decisions.{take}
use Rattle.chip_blocks.specs.converter.Converters as chips
use Rattle.chip_blocks.specs.converter.Rounds as rounds
use Rattle.std.proofs.lemmas.Bool.{and_right, not-false}
use Rattle.word_shapes.specs.declared.streams.copying.Copied.TheVariants as copied
use Rattle.mcal_base.specs.facts.Truths.{if_true}

-- the state of a unit is 2 where its round is finished
state_two : (x : rounds.Round) (now : ℕ) → (rounds.state x now == 2) ≡ rounds.is_finished x now
state_two x now = by (rounds.is_idle x) (rounds.ended x now == x.count)
  where
    by : (idle all : Bool) → ((if idle then 0 else (if all then 2 else 1)) == 2) ≡ not idle && all
    by false true = refl
    by _ _ = refl

free_three : (n : ℕ) → free n < 3
free_three n = by (not (n % 4 == 0 || (nat_lt 0 (n / 4) && n / 4 - 1 == 0))) (not (n % 4 == 1 || (nat_lt 0 (n / 4) && n / 4 - 1 == 1)))
  where
    by : (p q : Bool) → (if p then 0 else if q then 1 else 2) < 3
    by false true = omega arith
    by _ _ = omega arith

group_back : (g : ℕ) → g < 16 → group_in (1 + g) ≡ Some g
group_back g lt = let back : 1 + g - 1 ≡ g = omega arith in if_true (nat_lt 0 (1 + g) && nat_le (1 + g) 16) (Some (1 + g - 1)) None (grind (arith, nat_tests)) ∙ ap (λ n. Some n) back

-- a round that is there is one of an initialised module
pub round_on : (d : AdcTable) (held : Reservations) (chip : Chip) (w : World) (s : AdcState) (u : ℕ) (r : Round) → Agrees d held chip w s → round_at s u ≡ Some r → s.initialised ≡ true
round_on d held chip w s u r h e = whether_as s.initialised (λ q. q ≡ true)
    (λ i. refl)
    (λ i. absurd (let none = (h.sound.rest i 0).1 u in let gone : None ≡ Some r = sym none ∙ e in cc))

module _ (d : AdcTable) (fits : FitsAdc d) (f r : AdcBody → ℕ) (below : Reservations) (chip : Chip) (w : World) (s : AdcState) (m : ℕ → Bool) (y : ℕ) where
  abbrev lines_missed : ℕ → Bool
  lines_missed = missed_after (adc_machine d) w s m

  abbrev StepRight : Place → Origin Call → FrameHistory → Type 0
  StepRight k o p = RightOr (AdcGround d) (adc_bodies d f r) below chip w s (record { table = d; place = k }) o y p m (ended_at (adc_bodies d f r) body_ends (record { table = d; place = k }) (value_of chip (body_work (record { table = d; place = k }))))

  -- ---- the register of the line

  pub off_line : (u : ℕ) → u < 2 → is_done d w (round_at s u) ≡ false → lines_missed (24 + u) ≡ true
  off_line u lt none = or_right (m (24 + u)) (not (ready d w s (24 + u))) (ap (λ q. not q) (by u lt none))
    where
      by : (u : ℕ) → u < 2 → is_done d w (round_at s u) ≡ false → ready d w s (24 + u) ≡ false
      by zero lt e = and_right s.initialised (is_done d w (round_at s 0)) e
      by (suc zero) lt e = and_right s.initialised (is_done d w (round_at s 1)) e
      by (suc (suc u)) lt e = absurd (omega (arith, lt))

  pub take_flag : (u : ℕ) (o : Origin Call) (p : FrameHistory) → InFlag d (Window.Take u) below o p → Agrees d below chip w s → StepRight (Flag (Window.Take u)) o p
  take_flag u _ _ (Is_this_frame, few, alone) h =
      decides_so d fits f r below chip w s m y (Flag (Window.Take u)) (flagged (Window.Take u) (rounds.state (chips.unit_at chip.converters u).round chip.converters.time)) (Entered (24 + u)) fresh_history refl
      (by (rounds.state (chips.unit_at chip.converters u).round chip.converters.time == 2) (state_two (chips.unit_at chip.converters u).round chip.converters.time ∙ finished_here d fits below chip w s h u few))
    where
      by : (q : Bool) → q ≡ is_done d w (round_at s u) → DecidedRight d f r below chip w s (Entered (24 + u)) (Read (ConverterState u)) false (rounds.state (chips.unit_at chip.converters u).round chip.converters.time) y fresh_history lines_missed (Flag (Window.Take u)) (if q then Goes (looking (Window.Take u)) else over)
      by true e = ((h, (refl, ((Is_this_frame, few, alone, sym e), (refl, omega arith, tt)))), refl)
      by false e = ((h, record { may = (off_line u few (sym e), refl); served = false; owed = refl; shown = λ z. absurd (cc); report = refl }), refl)

  -- ---- whose round it is

  round_is_done : (q : Option Round) → is_done d w q ≡ true → (x : Round) × (q ≡ Some x)
  round_is_done None e = absurd (cc)
  round_is_done (Some x) e = (x, refl)

  module _ (u : ℕ) (few : u < 2) (h : Agrees d below chip w s) (x : Round) (is : round_at s u ≡ Some x) (done : is_done d w (round_at s u) ≡ true) (K : Place) (k v : ℕ) (ends : place_ends K ≡ None) where
    on_its_unit : is_on u (group_of d x.group) ≡ true
    on_its_unit = (h.sound.runs u x is).1

    take_right : InWindow d (Window.Take u) below w s (Entered (24 + u)) fresh_history → DecidedRight d f r below chip w s (Entered (24 + u)) (Load k) false v y fresh_history lines_missed K (take d u (word_of chip (word_number d (Word.Running u))))
    take_right in_window =
        subst (λ n. DecidedRight d f r below chip w s (Entered (24 + u)) (Load k) false v y fresh_history lines_missed K (take d u n)) (sym (((h.settled (round_on d below chip w s u x h is)).units u few).running ∙ ap (λ q. running_of q) is))
        (subst (λ q. DecidedRight d f r below chip w s (Entered (24 + u)) (Load k) false v y fresh_history lines_missed K (take_by d u q)) (sym (group_back x.group (within d x.group (on_there u (group_of d x.group) on_its_unit))))
        (subst (λ q. DecidedRight d f r below chip w s (Entered (24 + u)) (Load k) false v y fresh_history lines_missed K (if q then Goes (Chooses u x.group (put_start (trio_of (rounds_of d x.group)) PutPart.Choose)) else over)) (sym on_its_unit)
        ((h, (refl, ((Is_this_frame, few, in_window.2, record { round = x; is = is; group = refl; finished = sym (ap (λ q. is_done d w q) is) ∙ done }), refl))), refl)))

  pub take_looks : (u : ℕ) (o : Origin Call) (p : FrameHistory) (seen : List ℕ) → InWindow d (Window.Take u) below w s o p → AssertedAt (AdcGround d) (adc_bodies d f r) below chip w s (record { table = d; place = Looks (Window.Take u) seen }) o p → StepRight (Looks (Window.Take u) seen) o p
  take_looks u _ _ seen (Is_this_frame, few, alone, done) stand =
      let x = round_is_done (round_at s u) done in
      looks_right d f r below chip w s (Window.Take u) (Entered (24 + u)) y fresh_history m (omega arith) seen stand (λ k v. take_right u few stand.0 x.0 x.1 done (Looks (Window.Take u) (held d fits f r below chip w s m y (Window.Take u))) k v refl (Is_this_frame, few, alone, done))

  -- ---- a bank is chosen

  pub chooses_step : (u g : ℕ) (q : Put) (o : Origin Call) (p : FrameHistory) → InWindow d (Window.Claim (record { unit = u; group = g; bank = Zero })) below w s o p → q ≡ put_start (trio_of (rounds_of d g)) PutPart.Choose → Agrees d below chip w s → StepRight (Chooses u g q) o p
  chooses_step u g q o p in_window start h = subst (λ z. StepRight (Chooses u g z) o p) (sym start)
      (decides_so d fits f r below chip w s m y (Chooses u g (Put.Choose (trio_of (rounds_of d g)).control)) (chosen u g (bank_of (free (word_of chip (trio_of (rounds_of d g)).control)))) o p refl
      ((h, (refl, (in_window, (refl, omega arith, number_of_bank (free (word_of chip (trio_of (rounds_of d g)).control)) (free_three (word_of chip (trio_of (rounds_of d g)).control)))))), refl))

-- ---- The handler claims its unit, before it opens the mask to copy a finished round to the bank that it has chosen.

-- ---- a round that isn't taken yet is claimed by none

not_claimed : (d : AdcTable) (chip : Chip) (w : World) (s : AdcState) (u : ℕ) (r : Round) (x : ReservedBy Call Reservation) (z : Reservation) → HeldRight d chip w s x z → x.by ≢ Entered (24 + u) → round_at s u ≡ Some r → claims_on u z ≡ false
not_claimed d chip w s u r x z right ne is = one z right
  where
    by_line : (v : ℕ) (q : Bool) → (u == v) ≡ q → x.by ≡ Entered (24 + v) → q ≡ false
    by_line v true e by = absurd (ne (by ∙ ap (λ n. Entered (24 + n)) (sym (eq_is u v e))))
    by_line v false e by = refl

    by_round : (v : ℕ) (q : Bool) → (u == v) ≡ q → round_at s v ≡ None → q ≡ false
    by_round v true e none = absurd (let gone : None ≡ Some r = sym none ∙ (ap (λ n. round_at s n) (sym (eq_is u v e)) ∙ is) in cc)
    by_round v false e none = refl

    one : (z : Reservation) → HeldRight d chip w s x z → claims_on u z ≡ false
    one (Fills v g e b i k) h = by_line v (u == v) refl h.0
    one (Full v g b) h = by_line v (u == v) refl h.0
    one (Claims v) h = by_line v (u == v) refl h.0
    one (Keeps v g e n i k) h = by_round v (u == v) refl h.2
    one (Whole v g n) h = by_round v (u == v) refl h.2
    one _ h = refl

pub none_claims : (d : AdcTable) (chip : Chip) (w : World) (s : AdcState) (u : ℕ) (r : Round) (hs : Reservations) → AllRight d chip w s hs → IsAlone (24 + u) hs → round_at s u ≡ Some r → some_hold (claims_on u) hs ≡ false
none_claims d chip w s u r [] right alone is = refl
none_claims d chip w s u r (x ∷ xs) right alone is = or_from (claims_on u x.what) (some_hold (claims_on u) xs) (not_claimed d chip w s u r x x.what right.0 alone.0 is) (none_claims d chip w s u r xs right.1 alone.1 is)

zero_word : (n : ℕ) → false ≡ not (n == 0) → n ≡ 0
zero_word n e = eq_is n 0 (not-false (n == 0) (sym e))

-- what a handler of a unit's line holds that has claimed the unit
abbrev pub claiming : (unit : ℕ) → Reservation → Reservations → Reservations
claiming u z below = record { by = Entered (24 + u); what = z; acted = None } ∷ record { by = Entered (24 + u); what = Starts u; acted = None } ∷ below

module _ (d : AdcTable) (fits : FitsAdc d) (below : Reservations) (chip : Chip) (w : World) (s : AdcState) (h : Agrees d below chip w s) (t : Taken) (few : t.unit < 2) (alone : IsAlone (24 + t.unit) below) (taken : IsTaken d w s t.unit t.group) where
  abbrev u : ℕ
  u = t.unit

  abbrev g : ℕ
  g = t.group

  abbrev x : Round
  x = taken.round

  on : s.initialised ≡ true
  on = round_on d below chip w s t.unit taken.round h taken.is

  pub claim_at : is_on t.unit (group_of d t.group) ≡ true
  claim_at = subst (λ n. is_on t.unit (group_of d n) ≡ true) taken.group (h.sound.runs t.unit taken.round taken.is).1

  there : is_some (group_of d g) ≡ true
  there = on_there u (group_of d g) claim_at

  unit : unit_of (group_of d g) ≡ u
  unit = unit_is d fits u (group_of d g) claim_at

  none : some_hold (claims_on u) below ≡ false
  none = none_claims d chip w s u x below h.right alone taken.is

  zero_claim : word_of chip (word_number d (Word.Claim t.unit)) ≡ 0
  zero_claim = zero_word (word_of chip (word_number d (Word.Claim t.unit))) (sym none ∙ unclaimed u (word_of chip (word_number d (Word.Claim t.unit))) below ((h.settled on).claims u few))

  -- what the round keeps, and how many values
  pub few_kept : length taken.round.request.kept < length (inputs_of (group_of d t.group))
  few_kept = subst (λ n. length taken.round.request.kept < length (inputs_of (group_of d n))) taken.group (h.sound.runs t.unit taken.round taken.is).4.2

  of_group : is_round_of g (round_at s u) ≡ true
  of_group = ap (λ q. is_round_of g q) taken.is ∙ (ap (λ n. n == g) taken.group ∙ eq_self g)

  kept_is : kept_in d s t.group ≡ taken.round.request.kept
  kept_is = subst (λ n. kept_in d s n ≡ taken.round.request.kept) taken.group (kept_round d fits w s h.sound t.unit taken.round taken.is)

  unkept : word_of chip (word_number d (Word.Claim (unit_of (group_of d g)))) ≢ 2 + g
  unkept e = let zero = ap (λ n. word_of chip (word_number d (Word.Claim n))) unit ∙ zero_claim in omega (arith, e, zero)

  count_is : word_of chip (word_number d (Word.Kept t.group)) ≡ length taken.round.request.kept
  count_is = ((h.settled on).groups g there).kept (round_turn s g u few of_group) unkept ∙ ap length kept_is

  pub limited_is : limited (word_of chip (word_number d (Word.Kept t.group))) 32 ≡ length taken.round.request.kept
  limited_is = ap (λ n. limited n 32) count_is ∙ ap (λ q. if q then length taken.round.request.kept else 32) small
    where
      small : nat_lt (length taken.round.request.kept) 32 ≡ true
      small = let lt = few_kept in let most = few_inputs d fits g there in let less : length taken.round.request.kept < 32 = omega (arith, lt, most) in grind (arith, nat_tests)

  -- ---- once it is claimed

  abbrev now : Chip
  now = chip_after chip (Store (word_number d (Word.Claim t.unit)) 1) 0

  abbrev after : Reservations
  after = claiming t.unit (Fills t.unit t.group (length taken.round.request.kept) t.bank 0 None) below

  whole : HasWords chip
  whole = h.outside.all.words

  core : CoreStays d chip now
  core = core_claim d fits chip 1 whole u few

  same_round : (q : Round) → round_at s u ≡ Some q → x ≡ q
  same_round q e = let both : Some x ≡ Some q = sym taken.is ∙ e in cc

  module _ (chosen : bank_number t.bank ≡ free (word_of chip (trio_of (rounds_of d t.group)).control)) where
    abbrev trio : TripleBuffer
    trio = trio_of (rounds_of d t.group)

    b0 : BanksAgree d below (word_of chip) s g
    b0 = h.banks g there

    agreed : BanksAgree d after (word_of now) s g
    agreed = record {
      banks = choosing (free (word_of chip (trio_of (rounds_of d t.group)).control)) b0.banks;
      stands = stands-agree trio (word_of chip) (word_of now) (choosing (free (word_of chip (trio_of (rounds_of d t.group)).control)) b0.banks) (λ j own. sym (trio_claimed d fits u few chip whole 1 g j there own)) (chooses trio (word_of chip) b0.banks b0.stands);
      newest = b0.newest;
      put = ap (λ n. Some (n, 0)) (sym chosen) ∙ sym (ap (λ q. or_else (if q then Some (bank_number t.bank, 0) else None) (first_held (put_of d g) below)) (eq_self g));
      take = b0.take;
    }

    others : (k : ℕ) → is_some (group_of d k) ≡ true → k ≢ g → BanksAgree d after (word_of now) s k
    others k here ne = banks_stay chip now (h.banks k here) (λ j own. trio_claimed d fits u few chip whole 1 k j here own)
        (sym (ap (λ z. or_else (if z then Some (bank_number t.bank, 0) else None) (first_held (put_of d k) below)) (eq_other k g ne))) refl

    -- its round is finished, so there is nothing to abort on its unit
    calm : is_some (aborts d w s u) ≡ false
    calm = none_aborted d w s u (λ z e. subst (λ (q : Round). is_finished w (group_of d q.group) q ≡ true) (same_round z e) (ap (λ n. is_finished w (group_of d n) taken.round) taken.group ∙ taken.finished))

    pub claims_agree : Agrees d (claiming t.unit (Fills t.unit t.group (length taken.round.request.kept) t.bank 0 None) below) (chip_after chip (Store (word_number d (Word.Claim t.unit)) 1) 0) w s
    claims_agree = stays_agree d fits below chip now w s h on core after (record {
      right = (
        (
          refl,
          on,
          claim_at,
          record {
            same = λ q e. subst (λ z. (z.group ≡ g) × (length z.request.kept ≡ length taken.round.request.kept) × (is_finished w (group_of d g) z ≡ true)) (same_round q e) (taken.group, refl, taken.finished);
            filled = λ q j n e lt is. absurd (omega (arith, lt));
            next = λ q n e is. tt;
          },
        ),
        (on, all_stay d fits below chip now w s h on core below (claim_stays_below d fits u few chip whole 1 (omega arith) w s below h.right none) h.right),
      );
      banks = λ k here. cases (same_or_other k g)
          (λ e. subst (λ n. BanksAgree d after (word_of now) s n) (sym e) agreed)
          (λ ne. others k here ne);
      places = λ k n p lt free. place_claimed d fits u few chip whole 1 k n p ∙ h.places k n p lt free;
      backed = (λ v e. or_left (v == u) (some_hold (starts_on v) below) e, (λ v e. absurd (cc), h.backed));
      claimed = λ k here ne same. cases (same_or_other (unit_of (group_of d k)) u)
          (λ e. let zero = ap (λ n. word_of chip (word_number d (Word.Claim n))) e ∙ zero_claim in omega (arith, same, zero))
          (λ off. ne (claim_other d fits u few chip whole 1 (unit_of (group_of d k)) off ∙ same));
      claims = λ v less. cases (same_or_other v u)
          (λ e. subst (λ n. claim_right after n (word_of now (word_number d (Word.Claim n))) ≡ true) (sym e)
          (ap (λ n. claim_right after u n) (claim_now d fits u few chip whole 1) ∙ (ap (λ q. if q then not (some_hold (claims_on u) below) else claim_right below u 1) (eq_self u) ∙ ap (λ q. not q) none)))
          (λ ne. claim_past v u _ _ ne ∙ (ap (λ n. claim_right below v n) (claim_other d fits u few chip whole 1 v ne) ∙ (h.settled on).claims v less));
      promised = λ v. (let q = (h.settled on).promised v in record {
        starts = λ e. or_right (v == u) (some_hold (starts_on v) below) (q.starts e);
        yields = λ some. cases (same_or_other v u)
            (λ e. absurd (let here : is_some (aborts d w s u) ≡ true = subst (λ n. is_some (aborts d w s n) ≡ true) e some in let none = calm in cc))
            (λ ne. ap (λ q. not (q && is_handler v (Entered (24 + t.unit))) && will_yield v below) (eq_other v u ne) ∙ q.yields some);
      });
      kept = λ k here off j v is. kept_claimed d fits u few chip whole 1 k here j (kept_within d w s h.sound k j v is);
    })

-- ---- the window

module _ (d : AdcTable) (fits : FitsAdc d) (f r : AdcBody → ℕ) (below : Reservations) (chip : Chip) (w : World) (s : AdcState) (m : ℕ → Bool) (y : ℕ) (t : Taken) where
  abbrev line : Origin Call
  line = Entered (24 + t.unit)

  abbrev missed : ℕ → Bool
  missed = missed_after (adc_machine d) w s m

  module _ (h : Agrees d below chip w s) (few : t.unit < 2) (alone : IsAlone (24 + t.unit) below) (taken : IsTaken d w s t.unit t.group) (chosen : bank_number t.bank ≡ free (word_of chip (trio_of (rounds_of d t.group)).control)) (K : Place) (k v : ℕ) (ends : place_ends K ≡ None) where
    abbrev e : ℕ
    e = length taken.round.request.kept

    at : is_on t.unit (group_of d t.group) ≡ true
    at = claim_at d fits below chip w s h t few alone taken

    known : is_some (group_of d t.group) ≡ true
    known = on_there t.unit (group_of d t.group) at

    abbrev copies_then : Continuation
    copies_then = Continuation.Goes (Outside.Copies (record { what = copied.Round (rounds_of d t.group) t.unit (length taken.round.request.kept) t.bank; done = 0; value = None }) (Serves t))

    abbrev owed : PendingWrites
    owed = record { table = d; order = None; banks = None; deeds = Set (Word.Claim t.unit) 1 ∷ []; after = copies_then }

    abbrev Done : Chip → Type 0
    Done c = Agrees d (claiming t.unit (Fills t.unit t.group (length taken.round.request.kept) t.bank 0 None) below) c w s

    settles : (n : ℕ) × CommitsTo (making_owed d) n owed chip Done
    settles = one_owed (making_owed d) Done owed chip None (own_named d fits (λ j. is_word d j) (λ j i. i) (Store (word_number d (Word.Claim t.unit)) 1) (claim_words d t.unit few)) tt refl (claims_agree d fits below chip w s h t few alone taken chosen)

    abbrev Decides : Continuation → Type 0
    Decides z = DecidedRight d f r below chip w s line (Load k) false v y fresh_history missed K (makes (making None (Set (Word.Claim t.unit) 1 ∷ []) z))

    some : (length (inputs_of (group_of d t.group)) == 0) ≡ false
    some = eq_other (length (inputs_of (group_of d t.group))) 0 (λ i. (let lt = some_inputs d fits t.group known in omega (arith, lt, i)))

    claim_decides : DecidedRight d f r below chip w s line (Load k) false v y fresh_history missed K (claim d t (word_of chip (word_number d (Word.Kept t.group))))
    claim_decides =
        subst (λ n. Decides (Continuation.Goes (copies_or (copying (copied.Round (rounds_of d t.group) t.unit n t.bank)) (Serves t) (Outside.Closes (Window.Serve t))))) (sym (limited_is d fits below chip w s h t few alone taken))
        (subst (λ q. Decides (Continuation.Goes (copies_or (if q then None else Some (record { what = copied.Round (rounds_of d t.group) t.unit (length taken.round.request.kept) t.bank; done = 0; value = None })) (Serves t) (Outside.Closes (Window.Serve t))))) (sym some)
        ((settles, (refl, ((refl, refl, refl, few_kept d fits below chip w s h t few alone taken), some_inputs d fits t.group known, (Is_this_frame, alone, few, at)))), refl))

  pub claim_looks : (o : Origin Call) (p : FrameHistory) (seen : List ℕ) → InWindow d (Window.Claim t) below w s o p → IsChosen d (foot_of chip) (Window.Claim t) → AssertedAt (AdcGround d) (adc_bodies d f r) below chip w s (record { table = d; place = Looks (Window.Claim t) seen }) o p
      → RightOr (AdcGround d) (adc_bodies d f r) below chip w s (record { table = d; place = Looks (Window.Claim t) seen }) o y p m (ended_at (adc_bodies d f r) body_ends (record { table = d; place = Looks (Window.Claim t) seen }) (value_of chip (body_work (record { table = d; place = Looks (Window.Claim t) seen }))))
  claim_looks _ _ seen (Is_this_frame, few, alone, taken) chosen stand = looks_right d f r below chip w s (Window.Claim t) line y fresh_history m (omega arith) seen stand (λ k v. claim_decides stand.0 few alone taken chosen (Looks (Window.Claim t) (held d fits f r below chip w s m y (Window.Claim t))) k v refl)
