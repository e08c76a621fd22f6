-- A store of a group's word, with the change of the group that it stands for, leaves all else agreeing.
-- From words.WordsOfModule, hardware.StableUnderHardware, words.Cases, service_outline: Words, words.OrderWords.
-- Used by adc_laws: serving.services.PinRight, services.SingleWordCalls, adc_driver: services.InitWords and 17 more.
use Rattle.std.proofs.Common.{◌≡◌, ◌≢◌, ◌+◌, ◌-◌, ◌*◌, ◌/◌, ◌%◌, ◌<◌, ◌≤◌, ◌&&◌, ◌||◌, ◌==◌, [], ◌∷◌, ◌∙◌}
use Rattle.std.proofs.Common.{if◌then◌else◌}
use Rattle.adc_groups.specs.Terms
use Terms.{aborts, aborts_by, AdcState, AdcTable, Agrees, all_groups, AllRight, ap, arith, Bank, bank_number, bank_word}
use Terms.{BanksAgree, bit_of, Bool, Call, cases, cases_lt, Chip, chip_after, chosen_of, claim_right, Clears}
use Terms.{comes_before, cond, Copies, end_of, false, Fills, first_of, FitsAdc, Full, Group, group_at, group_of}
use Terms.{group_other, group_same, group_word, GroupAgrees, GroupState, has_input, has_turn, HeldRight, holds-agree}
use Terms.{Idle, inl, inputs_of, inr, is_finished, is_on, is_outranked, is_round_of, is_some, IsSound, IsSoundGroup}
use Terms.{Keeps, kept_by, kept_in, kept_of_round, kept_word, length, List, list_any, listener, listener_among, listens}
use Terms.{min, nat_lt, nat_tests, newest, next_among, next_group, None, not, number_at, number_by, number_in, Option}
use Terms.{order_of, order_own, own-control, own-word, own_of, phase_of, Promised, rank_of, Reads, refl, Reservation}
use Terms.{Reservations, ReservedBy, result_word, ResultBuffer, Round, round_at, rounds_of, same_or_other, samples_of}
use Terms.{Settled, slice_get, slice_index_or, Some, SoundGroup, stands-agree, stands-move, start_of, starts, starts_by}
use Terms.{STATE, Store, stored_other, stored_same, subst, suc, sym, trio_of, true, unit_of, UnitAgrees, untouched}
use Terms.{waits_for, whether, Whole, with_group, Word, word_number, word_of, World, ℕ}
use Rattle.adc_groups.specs.laws.hardware.StableUnderHardware.{few_values, kept_within, listed_agree}
use Rattle.adc_groups.specs.laws.{words.OrderWords.{order_kept}, words.WordsOfModule.{bank_below, low_words, on_there}}
use Rattle.adc_groups.specs.laws.words.WordsOfModule.{unit_small, unit_within, within, words_below}

-- what is so of a group is so in another state that has it, with the same turn
pub sound_by : (d : AdcTable) (s t : AdcState) (g : ℕ) → group_at t g ≡ group_at s g → has_turn t g ≡ has_turn s g → IsSoundGroup d s g → IsSoundGroup d t g
sound_by d s t g same turn h = subst (λ x. SoundGroup (group_of d g) (has_turn t g) x) (sym same) (subst (λ q. SoundGroup (group_of d g) q (group_at s g)) (sym turn) h)

-- ---- groups of a changed state

-- behind the last number no group is changed
pub past_untouched : (s : AdcState) (g : ℕ) (y : GroupState) (k : ℕ) → 16 ≤ k → group_at (with_group s g y) k ≡ untouched
past_untouched s g y k le = let at : k ≡ suc (suc (suc (suc (suc (suc (suc (suc (suc (suc (suc (suc (suc (suc (suc (suc (k - 16)))))))))))))))) = omega (arith, le) in ap (λ n. group_at (with_group s g y) n) at

pub sound_past : (d : AdcTable) (s : AdcState) → ((g : ℕ) → IsSoundGroup d s g) → (k : ℕ) → 16 ≤ k → group_at s k ≡ untouched
sound_past d s sound k le = (sound k).configured (whether (nat_lt k 16)
    (λ e. let lt : k < 16 = grind (arith, nat_tests) in absurd (omega (arith, le, lt)))
    (λ e. ap (λ q. if q then slice_index_or d.groups k None else None) e))

pub other_at : (s : AdcState) (g : ℕ) (y : GroupState) → ((k : ℕ) → 16 ≤ k → group_at s k ≡ untouched) → (k : ℕ) → k ≢ g → group_at (with_group s g y) k ≡ group_at s k
other_at s g y past k ne = whether (nat_lt k 16)
    (λ e. group_other s g y k (grind (arith, nat_tests)) ne)
    (λ e. let le : 16 ≤ k = grind (arith, nat_tests) in past_untouched s g y k le ∙ sym (past k le))

-- the group with other values, of which these parts stay
pub record Touches (s : AdcState) (g : ℕ) (y : GroupState) : Type 0 where
  pub waiting : y.waiting ≡ (group_at s g).waiting
  pub trigger : y.trigger ≡ (group_at s g).trigger
  pub rounds : y.rounds ≡ (group_at s g).rounds

module _ (d : AdcTable) (w : World) (s : AdcState) (sound : IsSound d w s) (g : ℕ) (lt : g < 16) (y : GroupState) (keeps : Touches s g y) where
  -- every other group is as it was
  pub others : (h : ℕ) → h ≢ g → group_at (with_group s g y) h ≡ group_at s h
  others = other_at s g y (sound_past d s sound.groups)

  pub same : group_at (with_group s g y) g ≡ y
  same = group_same s g y lt

  -- a part that stays is the same in each group
  part : {A : Type 0} (see : GroupState → A) → see y ≡ see (group_at s g) → (h : ℕ) → see (group_at (with_group s g y) h) ≡ see (group_at s h)
  part see e h = cases (same_or_other h g)
      (λ i. subst (λ k. see (group_at (with_group s g y) k) ≡ see (group_at s k)) (sym i) (ap see same ∙ e))
      (λ ne. ap see (others h ne))

  pub waiting_same : (h : ℕ) → (group_at (with_group s g y) h).waiting ≡ (group_at s h).waiting
  waiting_same = part (λ x. x.waiting) keeps.waiting

  pub trigger_same : (h : ℕ) → (group_at (with_group s g y) h).trigger ≡ (group_at s h).trigger
  trigger_same = part (λ x. x.trigger) keeps.trigger

  pub rounds_same : (h : ℕ) → (group_at (with_group s g y) h).rounds ≡ (group_at s h).rounds
  rounds_same = part (λ x. x.rounds) keeps.rounds

  pub turn_same : (h : ℕ) → has_turn (with_group s g y) h ≡ has_turn s h
  turn_same h = ap (λ q. is_some q || is_round_of h (round_at s 0) || is_round_of h (round_at s 1)) (waiting_same h)

  listens_same : (i h : ℕ) → listens d (with_group s g y) i h ≡ listens d s i h
  listens_same i h = ap (λ b. has_input i (group_of d h) && b) (trigger_same h)

  listener_in : (i : ℕ) (gs : List ℕ) → listener_among d (with_group s g y) i gs ≡ listener_among d s i gs
  listener_in i [] = refl
  listener_in i (h ∷ hs) = ap (λ b. cond b (Some h) (listener_among d (with_group s g y) i hs)) (listens_same i h) ∙ ap (λ o. cond (listens d s i h) (Some h) o) (listener_in i hs)

  pub listener_same : (i : ℕ) → listener d (with_group s g y) i ≡ listener d s i
  listener_same i = listener_in i all_groups

-- ---- The words of a group that calls change are apart from all others.

module _ (d : AdcTable) (fits : FitsAdc d) where
  -- the first word of a group and the one after its last, of one that is there
  pub start_from : (g : ℕ) → is_some (group_of d g) ≡ true → (64 ≤ start_of (group_of d g)) × (start_of (group_of d g) + (32 + 6 * length (inputs_of (group_of d g))) ≤ 8192)
  start_from g there = by (group_of d g) refl there
    where
      by : (k : Option Group) → group_of d g ≡ k → is_some k ≡ true → (64 ≤ start_of k) × (start_of k + (32 + 6 * length (inputs_of k)) ≤ 8192)
      by None e h = absurd (cc)
      by (Some k) e h = let f = fits.groups g k e in let last = f.words in let room = fits.room in (f.start, omega (arith, last, room))

  -- words of two groups are two
  pub groups_apart : (g h i j : ℕ) → is_some (group_of d g) ≡ true → is_some (group_of d h) ≡ true → g ≢ h → i < 32 → j < 32 + 6 * length (inputs_of (group_of d h)) → group_word d h j ≢ group_word d g i
  groups_apart g h i j there here ne lt few = by (group_of d g) (group_of d h) refl refl there here few
    where
      less : (k l : Group) → (g ≡ h → ⊥) → ((a b : ℕ) (x y : Group) → group_of d a ≡ Some x → group_of d b ≡ Some y → a < b → end_of x ≤ y.start) → group_of d g ≡ Some k → group_of d h ≡ Some l → j < 32 + 6 * length l.inputs → STATE + l.start + j ≢ STATE + k.start + i
      less k l unlike apart e f few same = elim (cases_lt g h) [
        | inl lower ↦ (let le = apart g h k l e f lower in omega (arith, le, same, lt))
        | inr above ↦ (let up : h < g = (let two : g ≢ h = unlike in omega (arith, above, two)) in let le = apart h g l k f e up in omega (arith, le, same, few))
      ]

      by : (k l : Option Group) → group_of d g ≡ k → group_of d h ≡ l → is_some k ≡ true → is_some l ≡ true → j < 32 + 6 * length (inputs_of l) → STATE + start_of l + j ≢ STATE + start_of k + i
      by (Some k) (Some l) e f p q few = less k l ne fits.apart e f few
      by _ _ e f p q few = absurd (cc)

  -- one of the first 64 words is none of a group's
  pub unit_apart : (g i j : ℕ) → is_some (group_of d g) ≡ true → j < 64 → STATE + j ≢ group_word d g i
  unit_apart g i j there lt same = let low = (start_from g there).0 in omega (arith, low, lt, same)

  -- a place of a user's buffer is none
  pub place_apart : (g i h : ℕ) (b : ResultBuffer) (p : ℕ) → is_some (group_of d g) ≡ true → i < 32 → result_word h b p ≢ group_word d g i
  place_apart g i h ResultBuffer.Zero p there lt same = let high = (start_from g there).1 in omega (arith, high, lt, same)
  place_apart g i h ResultBuffer.One p there lt same = let high = (start_from g there).1 in omega (arith, high, lt, same)

  pub kept_apart : (g i j : ℕ) → i < 7 → kept_word (rounds_of d g) j ≢ group_word d g i
  kept_apart g i j lt same = omega (arith, same, lt)

  -- the banks' words, with their control word, of any group
  pub trio_apart : (g h i k : ℕ) → is_some (group_of d g) ≡ true → is_some (group_of d h) ≡ true → i < 7 → own_of (trio_of (rounds_of d h)) k ≡ true → k ≢ group_word d g i
  trio_apart g h i k there here lt own same =
      let start : ℕ = start_of (group_of d h) in
      let len : ℕ = length (inputs_of (group_of d h)) in
      cases (same_or_other g h)
      (λ e.
      let o = offset (k == STATE + start_of (group_of d h) + 7) refl in
      let at = o.1 in
      let le = o.2 in
      let here : k ≡ group_word d h i = same ∙ ap (λ n. group_word d n i) e in
      omega (arith, at, le, here, lt))
      (λ ne.
      let o = offset (k == STATE + start_of (group_of d h) + 7) refl in
      groups_apart g h i o.0 there here ne (omega (arith, lt)) o.3 (sym o.1 ∙ same))
    where
      offset : (q : Bool) → (k == STATE + start_of (group_of d h) + 7) ≡ q → (j : ℕ) × (k ≡ STATE + start_of (group_of d h) + j) × (7 ≤ j) × (j < 32 + 6 * length (inputs_of (group_of d h)))
      offset true e = (7, (let at : k ≡ STATE + start_of (group_of d h) + 7 = grind (arith, nat_tests) in at), omega arith, omega arith)
      offset false e =
          let low : STATE + start_of (group_of d h) + 32 ≤ k = grind (arith, nat_tests) in
          let high : k < STATE + start_of (group_of d h) + 32 + 3 * length (inputs_of (group_of d h)) = grind (arith, nat_tests) in
          (k - (STATE + start_of (group_of d h)), omega (arith, low), omega (arith, low), omega (arith, low, high))

-- ---- A store of a group's word, with the change of the group that it stands for, leaves all else agreeing.

-- a group that has no other request and no other turn is chosen as before
module _ (d : AdcTable) (s t : AdcState) (rounds : (u : ℕ) → round_at t u ≡ round_at s u) (waiting : (h : ℕ) → (group_at t h).waiting ≡ (group_at s h).waiting) where
  waits_same : (u h : ℕ) → waits_for d t u h ≡ waits_for d s u h
  waits_same u h = ap (λ q. is_on u (group_of d h) && is_some q) (waiting h)

  before_same : (k h : ℕ) → comes_before d t k h ≡ comes_before d s k h
  before_same k h = ap (λ q. nat_lt (rank_of d h) (rank_of d k) || (rank_of d k == rank_of d h && nat_lt (number_in q) (number_in (group_at t h).waiting))) (waiting k)
      ∙ ap (λ q. nat_lt (rank_of d h) (rank_of d k) || (rank_of d k == rank_of d h && nat_lt (number_in (group_at s k).waiting) (number_in q))) (waiting h)

  first_same : (h : ℕ) (o : Option ℕ) → first_of d t h o ≡ first_of d s h o
  first_same h None = refl
  first_same h (Some k) = ap (λ q. cond q k h) (before_same k h)

  among_same : (u : ℕ) (gs : List ℕ) → next_among d t u gs ≡ next_among d s u gs
  among_same u [] = refl
  among_same u (h ∷ hs) =
      ap (λ q. cond q (Some (first_of d t h (next_among d t u hs))) (next_among d t u hs)) (waits_same u h)
      ∙ (ap (λ o. cond (waits_for d s u h) (Some (first_of d t h o)) o) (among_same u hs)
      ∙ ap (λ k. cond (waits_for d s u h) (Some k) (next_among d s u hs)) (first_same h (next_among d s u hs)))

  pub next_same : (u : ℕ) → next_group d t u ≡ next_group d s u
  next_same u = among_same u all_groups

  pub starts_same : (u : ℕ) → starts d t u ≡ starts d s u
  starts_same u = ap (λ r. starts_by r (next_group d t u)) (rounds u) ∙ ap (λ o. starts_by (round_at s u) o) (next_same u)

  any_same : (u g : ℕ) (hs : List ℕ) → list_any (λ h. waits_for d t u h && nat_lt (rank_of d g) (rank_of d h)) hs ≡ list_any (λ h. waits_for d s u h && nat_lt (rank_of d g) (rank_of d h)) hs
  any_same u g [] = refl
  any_same u g (h ∷ hs) =
      ap (λ q. (q && nat_lt (rank_of d g) (rank_of d h)) || list_any (λ h. waits_for d t u h && nat_lt (rank_of d g) (rank_of d h)) hs) (waits_same u h)
      ∙ ap (λ q. (waits_for d s u h && nat_lt (rank_of d g) (rank_of d h)) || q) (any_same u g hs)

  pub outranked_same : (u g : ℕ) → is_outranked d t u g ≡ is_outranked d s u g
  outranked_same u g = any_same u g all_groups

  aborts_in : (w : World) (u : ℕ) (r : Option Round) → is_some (aborts_by d w t u r) ≡ is_some (aborts_by d w s u r)
  aborts_in w u None = refl
  aborts_in w u (Some r) = ap (λ q. is_some (cond (not (is_finished w (group_of d r.group) r) && q) (Some r) None)) (outranked_same u r.group)

  pub aborts_same : (w : World) (u : ℕ) → is_some (aborts d w t u) ≡ is_some (aborts d w s u)
  aborts_same w u = ap (λ r. is_some (aborts_by d w t u r)) (rounds u) ∙ aborts_in w u (round_at s u)

module _ (d : AdcTable) (fits : FitsAdc d) (held : Reservations) (a : Chip) (w : World) (s : AdcState) (h : Agrees d held a w s) (on : s.initialised ≡ true) (g : ℕ) (there : is_some (group_of d g) ≡ true) (i v : ℕ) (lt : i < 3) (y : GroupState) (keeps : Touches s g y)
    (newest_too : y.status ≢ Idle → (group_at s g).status ≢ Idle) where
  abbrev b : Chip
  b = chip_after a (Store (group_word d g i) v) 0

  abbrev t : AdcState
  t = with_group s g y

  small : g < 16
  small = within d g there

  word : (k : ℕ) → k ≢ group_word d g i → word_of b k ≡ word_of a k
  word k ne = stored_other a (group_word d g i) v 0 k ne

  other : (k : ℕ) → k ≢ g → group_at t k ≡ group_at s k
  other = others d w s h.sound g small y keeps

  waiting : (k : ℕ) → (group_at t k).waiting ≡ (group_at s k).waiting
  waiting = waiting_same d w s h.sound g small y keeps

  turn : (k : ℕ) → has_turn t k ≡ has_turn s k
  turn = turn_same d w s h.sound g small y keeps

  -- words that stay
  bank_stays : (k : ℕ) (n : Bank) (j : ℕ) → is_some (group_of d k) ≡ true → j < length (inputs_of (group_of d k)) → word_of b (bank_word (rounds_of d k) n j) ≡ word_of a (bank_word (rounds_of d k) n j)
  bank_stays k n j here few = word (bank_word (rounds_of d k) n j) (trio_apart d fits g k i (bank_word (rounds_of d k) n j) there here (omega (arith, lt)) (own-word (trio_of (rounds_of d k)) (bank_number n) j (bank_below d fits n) few))

  low_stays : (k j : ℕ) → is_some (group_of d k) ≡ true → (k ≡ g → j ≢ i) → j < 32 → word_of b (group_word d k j) ≡ word_of a (group_word d k j)
  low_stays k j here ne few = cases (same_or_other k g)
      (λ e. word (group_word d k j) (λ q. ne e (let at : group_word d k j ≡ group_word d g j = ap (λ n. group_word d n j) e in omega (arith, q, at))))
      (λ unlike. word (group_word d k j) (groups_apart d fits g k i j there here (λ e. unlike (sym e)) (omega (arith, lt)) (omega (arith, few))))

  kept_stays : (k j : ℕ) → is_some (group_of d k) ≡ true → j < length (inputs_of (group_of d k)) → word_of b (kept_word (rounds_of d k) j) ≡ word_of a (kept_word (rounds_of d k) j)
  kept_stays k j here few = cases (same_or_other k g)
      (λ e. word (kept_word (rounds_of d k) j) (λ q. kept_apart d fits g i j (omega (arith, lt)) (ap (λ n. kept_word (rounds_of d n) j) (sym e) ∙ q)))
      (λ unlike. word (kept_word (rounds_of d k) j) (λ q. groups_apart d fits g k i (32 + 3 * length (inputs_of (group_of d k)) + j) there here (λ e. unlike (sym e)) (omega (arith, lt)) (omega (arith, few)) (sym at ∙ q)))
    where
      at : kept_word (rounds_of d k) j ≡ group_word d k (32 + 3 * length (inputs_of (group_of d k)) + j)
      at = omega arith

  unit_stays : (j : ℕ) → j < 64 → word_of b (STATE + j) ≡ word_of a (STATE + j)
  unit_stays j few = word (STATE + j) (unit_apart d fits g i j there few)

  claim_stays : (u : ℕ) → u < 2 → word_of b (word_number d (Word.Claim u)) ≡ word_of a (word_number d (Word.Claim u))
  claim_stays u few = let at : STATE + (9 + 8 * u) ≡ word_number d (Word.Claim u) = omega arith in subst (λ k. word_of b k ≡ word_of a k) at (unit_stays (9 + 8 * u) (omega (arith, few)))

  kept_same : (k : ℕ) → kept_in d t k ≡ kept_in d s k
  kept_same k = ap (λ q. kept_by q (kept_of_round k (round_at s (unit_of (group_of d k))))) (waiting k)

  number_same : (k : ℕ) → number_at d t k ≡ number_at d s k
  number_same k = ap (λ q. number_by q (round_at s (unit_of (group_of d k)))) (waiting k)

  -- ---- the state

  module _ (fresh : IsSoundGroup d t g) where
    sound_touched : IsSound d w t
    sound_touched = record {
      groups = λ k. cases (same_or_other k g)
          (λ e. subst (λ n. IsSoundGroup d t n) (sym e) fresh)
          (λ ne. sound_by d s t k (other k ne) (turn k) (h.sound.groups k));
      waits = λ k q e. h.sound.waits k q (sym (waiting k) ∙ e);
      runs = λ u r e. let x = h.sound.runs u r e in (x.0, x.1, waiting r.group ∙ x.2, x.3, x.4);
      marks = λ j e. ap (λ o. is_some o) (listener_same d w s h.sound g small y keeps j) ∙ h.sound.marks j e;
      hears = λ k e i. trigger_same d w s h.sound g small y keeps k ∙ h.sound.hears k (sym (turn k) ∙ e) i;
      rest = λ off. absurd (let f = on in cc);
      off = h.sound.off;
    }

  -- ---- what is held

  held_touched : (x : ReservedBy Call Reservation) (z : Reservation) → HeldRight d a w s x z → HeldRight d b w t x z
  held_touched x (Clears n) r = absurd (let f = r.1 in let e = on in cc)
  held_touched x (Fills u k e n j p) r = (r.0, r.1, r.2, (let q = r.3 in record { same = q.same; filled = λ z m c o few is. bank_stays k n m (on_there u (group_of d k) r.2) (few_values d w s h.sound u z k o (q.same z o).0 m c is) ∙ q.filled z m c o few is; next = q.next }))
  held_touched x (Full u k n) r = (r.0, r.1, r.2, (let q = r.3 in record { same = q.same; filled = λ z m c o is. bank_stays k n m (on_there u (group_of d k) r.2) (few_values d w s h.sound u z k o (q.same z o).0 m c is) ∙ q.filled z m c o is }))
  held_touched x (Whole u k n) r = (
    r.0,
    r.1,
    r.2,
    λ e. let q = r.3 (sym (claim_stays u (unit_within d fits u k r.1)) ∙ e) in record {
      waits = ap (λ o. is_some o) (waiting k) ∙ q.waits;
      count = ap length (kept_same k) ∙ q.count;
      kept = λ j m is. let was = sym (ap (λ xs. slice_get xs j) (kept_same k)) ∙ is in kept_stays k j (on_there u (group_of d k) r.1) (kept_within d w s h.sound k j m was) ∙ q.kept j m was;
    },
  )
  held_touched x (Keeps u k e n j p) r = (
    r.0,
    r.1,
    r.2,
    (λ f. let q = r.3 (sym (claim_stays u (unit_within d fits u k r.1)) ∙ f) in record {
      waits = ap (λ o. is_some o) (waiting k) ∙ q.waits;
      count = ap length (kept_same k) ∙ q.count;
      told = q.told;
      word = low_stays k 6 (on_there u (group_of d k) r.1) (λ same z. omega (arith, z, lt)) (omega arith) ∙ q.word;
      kept = λ c m few is. let was = sym (ap (λ xs. slice_get xs c) (kept_same k)) ∙ is in kept_stays k c (on_there u (group_of d k) r.1) (kept_within d w s h.sound k c m was) ∙ q.kept c m few was;
      results = λ c m is. q.results c m (sym (ap (λ xs. slice_get xs (e + c)) (kept_same k)) ∙ is);
      next = λ m is. ap (λ xs. slice_get xs (e + j)) (kept_same k) ∙ q.next m is;
    }),
    λ f. kept_same k ∙ r.4 (λ i. f (claim_stays u (unit_within d fits u k r.1) ∙ i)),
  )
  held_touched x (Copies n c j p) r = (
    r.0,
    r.1,
    r.2,
    (let q = r.3 in record {
      newest = ap (λ m. m % 4) (word (trio_of (rounds_of d c.group)).control (trio_apart d fits g c.group i (trio_of (rounds_of d c.group)).control there r.2 (omega (arith, lt)) (own-control (trio_of (rounds_of d c.group))))) ∙ q.newest;
      values = λ m few le. bank_stays c.group n m r.2 few ∙ q.values m few le;
      next = q.next;
    }),
  )
  held_touched x (Reads k n vs) r = (
    r.0,
    r.1,
    r.2,
    (let q = r.3 in record {
      whole = q.whole;
      answered = q.answered;
      pinned = ap (λ m. m / 4) (word (trio_of (rounds_of d k)).control (trio_apart d fits g k i (trio_of (rounds_of d k)).control there r.2 (omega (arith, lt)) (own-control (trio_of (rounds_of d k))))) ∙ q.pinned;
      bank = (q.bank.0, listed_agree (word_of b) (word_of a) (bank_word (rounds_of d k) n 0) (length q.whole) (λ m few. at m (let e = q.bank.0 in omega (arith, few, e))) ∙ q.bank.1);
      front = q.front;
    }),
  )
    where
      at : (m : ℕ) → m < length (inputs_of (group_of d k)) → word_of b (bank_word (rounds_of d k) n 0 + m) ≡ word_of a (bank_word (rounds_of d k) n 0 + m)
      at m few = let same : bank_word (rounds_of d k) n m ≡ bank_word (rounds_of d k) n 0 + m = omega arith in subst (λ z. word_of b z ≡ word_of a z) same (bank_stays k n m r.2 few)
  held_touched x _ r = r

  all_touched : (hs : Reservations) → AllRight d a w s hs → AllRight d b w t hs
  all_touched [] r = tt
  all_touched (x ∷ xs) r = (held_touched x x.what r.0, all_touched xs r.1)

  -- ---- banks and words

  banks_touched : (k : ℕ) → is_some (group_of d k) ≡ true → BanksAgree d held (word_of a) s k → BanksAgree d held (word_of b) t k
  banks_touched k here q = record {
    banks = q.banks;
    stands = stands-agree (trio_of (rounds_of d k)) (word_of a) (word_of b) q.banks (λ j own. sym (word j (trio_apart d fits g k i j there here (omega (arith, lt)) own))) q.stands;
    newest = λ ne some. q.newest (status k ne) (subst (λ rs. 0 < length rs) (rounds k) some) ∙ ap (λ rs. newest rs) (sym (rounds k));
    put = q.put;
    take = q.take;
  }
    where
      rounds : (k : ℕ) → (group_at t k).rounds ≡ (group_at s k).rounds
      rounds = rounds_same d w s h.sound g small y keeps

      status : (k : ℕ) → (group_at t k).status ≢ Idle → (group_at s k).status ≢ Idle
      status k ne = cases (same_or_other k g)
          (λ e. subst (λ n. (group_at s n).status ≢ Idle) (sym e) (newest_too (λ idle. ne (ap (λ n. (group_at t n).status) e ∙ (ap (λ z. z.status) (same d w s h.sound g small y keeps) ∙ idle)))))
          (λ unlike. λ idle. ne (ap (λ z. z.status) (other k unlike) ∙ idle))

  group_touched : (k : ℕ) → k ≢ g → is_some (group_of d k) ≡ true → GroupAgrees d (word_of a) s k → GroupAgrees d (word_of b) t k
  group_touched k ne here q = record {
    phase = at 0 (omega arith) ∙ (q.phase ∙ (ap (λ z. phase_of z.status (has_turn s k || z.trigger)) (sym (other k ne)) ∙ ap (λ o. phase_of (group_at t k).status (o || (group_at t k).trigger)) (sym (turn k))));
    chosen = at 1 (omega arith) ∙ (q.chosen ∙ ap (λ z. chosen_of z.chosen) (sym (other k ne)));
    notified = at 2 (omega arith) ∙ (q.notified ∙ ap (λ z. bit_of z.notification) (sym (other k ne)));
    turn = at 3 (omega arith) ∙ (q.turn ∙ ap (λ o. bit_of o) (sym (turn k)));
    count = λ e. at 4 (omega arith) ∙ (q.count (λ idle. e (ap (λ z. z.status) (other k ne) ∙ idle)) ∙ ap (λ z. min (length z.rounds) (samples_of (group_of d k))) (sym (other k ne)));
    place = λ e. at 5 (omega arith) ∙ (q.place (λ idle. e (ap (λ z. z.status) (other k ne) ∙ idle)) ∙ ap (λ z. length z.rounds % samples_of (group_of d k)) (sym (other k ne)));
    kept = λ e f. at 6 (omega arith) ∙ (q.kept (sym (turn k) ∙ e) (λ c. f (claim ∙ c)) ∙ ap length (sym (kept_same k)));
    values = λ e f j m is. let was = sym (ap (λ xs. slice_get xs j) (kept_same k)) ∙ is in kept_stays k j here (kept_within d w s h.sound k j m was) ∙ q.values (sym (turn k) ∙ e) (λ c. f (claim ∙ c)) j m was;
  }
    where
      at : (j : ℕ) → j < 32 → word_of b (group_word d k j) ≡ word_of a (group_word d k j)
      at j few = low_stays k j here (λ e. absurd (ne e)) few

      claim : word_of b (word_number d (Word.Claim (unit_of (group_of d k)))) ≡ word_of a (word_number d (Word.Claim (unit_of (group_of d k))))
      claim = claim_stays (unit_of (group_of d k)) (unit_small d fits k here)

  unit_touched : (u : ℕ) → u < 2 → UnitAgrees d (word_of a) s u → UnitAgrees d (word_of b) t u
  unit_touched u few q = record {
    running = (let at : STATE + (8 + 8 * u) ≡ word_number d (Word.Running u) = omega arith in subst (λ k. word_of b k ≡ word_of a k) at (unit_stays (8 + 8 * u) (omega (arith, few)))) ∙ q.running;
    order = (q.order.0, holds-agree (order_of u) (word_of a) (word_of b) q.order.0 (λ k own. sym (order_stays k own)) q.order.1, order_kept d s t u turn (λ k. ap (λ z. is_some z) (waiting k)) (λ k on. number_same k) q.order.0 q.order.2);
  }
    where
      order_stays : (k : ℕ) → order_own (order_of u) k ≡ true → word_of b k ≡ word_of a k
      order_stays k own =
          let low : STATE + 10 + 8 * u ≤ k = grind (arith, nat_tests) in
          let high : k ≤ STATE + 12 + 8 * u = grind (arith, nat_tests) in
          let at : STATE + (k - STATE) ≡ k = omega (arith, low) in
          subst (λ j. word_of b j ≡ word_of a j) at (unit_stays (k - STATE) (omega (arith, low, high, few)))

  -- what was stored, and the group's other words
  pub stored_here : word_of b (group_word d g i) ≡ v
  stored_here = let below = words_below d fits (group_word d g i) (low_words d fits g i there (omega (arith, lt))) in stored_same a (group_word d g i) v 0 (omega (arith, below)) h.outside.all.words

  pub others_here : (j : ℕ) → j ≢ i → j < 32 → word_of b (group_word d g j) ≡ word_of a (group_word d g j)
  others_here j ne few = low_stays g j there (λ e. ne) few

  -- the group's words, where one of the first three was stored
  pub group_with : word_of b (group_word d g 0) ≡ phase_of y.status (has_turn s g || y.trigger) → word_of b (group_word d g 1) ≡ chosen_of y.chosen → word_of b (group_word d g 2) ≡ bit_of y.notification → GroupAgrees d (word_of b) t g
  group_with phase chosen notified = record {
    phase = phase ∙ (ap (λ (z : GroupState). phase_of z.status (has_turn s g || z.trigger)) (sym is) ∙ ap (λ o. phase_of (group_at t g).status (o || (group_at t g).trigger)) (sym (turn g)));
    chosen = chosen ∙ ap (λ (z : GroupState). chosen_of z.chosen) (sym is);
    notified = notified ∙ ap (λ (z : GroupState). bit_of z.notification) (sym is);
    turn = low 3 (omega arith) (omega arith) ∙ (q.turn ∙ ap (λ o. bit_of o) (sym (turn g)));
    count = λ e. low 4 (omega arith) (omega arith) ∙ (q.count (was e) ∙ ap (λ z. min (length z) (samples_of (group_of d g))) (sym rounds));
    place = λ e. low 5 (omega arith) (omega arith) ∙ (q.place (was e) ∙ ap (λ z. length z % samples_of (group_of d g)) (sym rounds));
    kept = λ e f. low 6 (omega arith) (omega arith) ∙ (q.kept (sym (turn g) ∙ e) (λ c. f (claim ∙ c)) ∙ ap length (sym (kept_same g)));
    values = λ e f j n at. let before = sym (ap (λ xs. slice_get xs j) (kept_same g)) ∙ at in kept_stays g j there (kept_within d w s h.sound g j n before) ∙ q.values (sym (turn g) ∙ e) (λ c. f (claim ∙ c)) j n before;
  }
    where
      q : GroupAgrees d (word_of a) s g
      q = (h.settled on).groups g there

      is : group_at t g ≡ y
      is = same d w s h.sound g small y keeps

      rounds : (group_at t g).rounds ≡ (group_at s g).rounds
      rounds = rounds_same d w s h.sound g small y keeps g

      low : (j : ℕ) → 3 ≤ j → j < 32 → word_of b (group_word d g j) ≡ word_of a (group_word d g j)
      low j le few = others_here j (λ z. omega (arith, z, lt, le)) few

      was : (group_at t g).status ≢ Idle → (group_at s g).status ≢ Idle
      was e = newest_too (λ idle. e (ap (λ (z : GroupState). z.status) is ∙ idle))

      claim : word_of b (word_number d (Word.Claim (unit_of (group_of d g)))) ≡ word_of a (word_number d (Word.Claim (unit_of (group_of d g))))
      claim = claim_stays (unit_of (group_of d g)) (unit_small d fits g there)

  module _ (fresh : IsSoundGroup d t g) (represents : GroupAgrees d (word_of b) t g) where
    promised_touched : (u : ℕ) → Promised d held w s u → Promised d held w t u
    promised_touched u q = record {
      starts = λ e. q.starts (ap (λ o. is_some o) (sym (starts_same d s t (λ k. refl) waiting u)) ∙ e);
      yields = λ e. q.yields (sym (aborts_same d s t (λ k. refl) waiting w u) ∙ e);
    }

    settled_touched : Settled d held a w s → Settled d held b w t
    settled_touched q = record {
      groups = λ k here. cases (same_or_other k g)
          (λ e. subst (λ n. GroupAgrees d (word_of b) t n) (sym e) represents)
          (λ ne. group_touched k ne here (q.groups k here));
      units = λ u few. unit_touched u few (q.units u few);
      claims = λ u few. ap (λ z. claim_right held u z) (claim_stays u few) ∙ q.claims u few;
      lines = q.lines;
      promised = λ u. promised_touched u (q.promised u);
    }

    -- all agrees after the store
    pub touched : Agrees d held (chip_after a (Store (group_word d g i) v) 0) w (with_group s g y)
    touched = record {
      sound = sound_touched fresh;
      outside = stands-move a w (Store (group_word d g i) v) 0 h.outside;
      state = let unit_word_stays : word_of b STATE ≡ word_of a STATE = unit_stays 0 (omega arith) in unit_word_stays ∙ h.state;
      right = all_touched held h.right;
      banks = λ k here. banks_touched k here (h.banks k here);
      block = h.block;
      rounds = h.rounds;
      triggers = record { gates = λ j few. h.triggers.gates j few ∙ ap (λ o. is_some o) (sym (listener_same d w s h.sound g small y keeps j)); flags = h.triggers.flags; others = h.triggers.others };
      places = λ k n p few free. word (result_word k n p) (place_apart d fits g i k n p there (omega (arith, lt))) ∙ h.places k n p few free;
      backed = h.backed;
      settled = λ e. settled_touched (h.settled e);
      left = λ off. absurd (let q = on in cc);
    }
