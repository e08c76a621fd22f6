-- A frame starts the group that waits first on a free unit, step by step: the order changes, then the unit's list registers and words,
-- and at the last move the unit starts, and the frame is done. And a window that is to start a group, as a whole.
-- From services.WriteBatchRight, adc_groups: services.Decisions, adc_groups: words.WordsOfModule and 14 more.
-- Used by adc_driver: services.AllSteps, adc_driver: bookkeeping.NoneWaitsPlaces.
use Rattle.std.proofs.Common.{◌≡◌, ◌≢◌, ◌+◌, ◌-◌, ◌*◌, ◌<◌, ◌≤◌, ◌||◌, ◌==◌, [], ◌∷◌, ◌∙◌, ◌⊎◌, if◌then◌else◌}
use Rattle.adc_laws.specs.turns.Terms
use Terms.{acted, adc_bodies, adc_machine, adc_windows, AdcBody, AdcGround, AdcRepresents, AdcState, AdcTable, after}
use Terms.{Agrees, Answer, ap, arith, AssertedAt, body_ends, body_takes, body_work, Bool, Call, Called, cases, Chip}
use Terms.{chip_after, choice, choice_next, choosing_next, chosen, claim_right, claim_words, claimed_parts, claims_on}
use Terms.{conversion, convert, Converter, ConverterGo, ConverterList, DecidedRight, deed_move, done, drop, ended_at}
use Terms.{ended_by, Ends, ends_claim, Entered, Entry, eq_is, eq_self, Event, false, few_inputs, FitsAdc, foot_of}
use Terms.{four_from, FrameHistory, fresh_history, gap_at, get_or-map, get_or-set_other, get_or-set_same, group_at}
use Terms.{group_of, Has_acted, Has_served, has_served, HasMade, HasWords, hold_in, holds-agree, holds-below}
use Terms.{holds_at, HoldsOrder, inl, inputs_of, inr, InWindow, is_ahead, is_some, Is_this_frame, IsFirst, IsOrder}
use Terms.{IsStart, IsStarting, kept_in, kept_request, length, length-set, List, list_any, list_deed, lists_for, Load}
use Terms.{Looks, looks_right, Makes, makes, MakesTo, may_end, MayStop, memories, Memory, missed_after, Move}
use Terms.{moves_ahead, named_converter, named_number, named_of, NamesOwn, nat_le, nat_lt, nat_tests, Next, next-ends}
use Terms.{next_gave, next_group, next_left, next_move, next_start, no_answer, None, nothing_more, number_of}
use Terms.{of_driver, on_there, Option, order_of, order_words, Orders, Origin, owed_of, own_of, Place, place_at}
use Terms.{PointAssertion, Prepares, ranks_of, refl, Request, Reservations, RightOr, running_words, same_or_other}
use Terms.{Set, slice_get, slice_index, slice_index_or, slice_set, Some, some_hold, spot_or, spot_start, start_deeds}
use Terms.{started, starting, starts_by, STATE, step, steps_so, Store, stored_other, stored_same, StructureOp, subst}
use Terms.{suc, sym, tells_nothing, true, unclaimed, unit_is, unit_named, unit_set, UnitAgrees, unused, value-same}
use Terms.{value_of, waiting, waits_turn, Window, WindowWrite, with_holds, within, Word, word_number, word_of}
use Terms.{word_there, words-after, World, Write, WriteBatch, zero, ℕ}
use Rattle.adc_laws.specs.turns.laws.{words.ListedInputs.{list_agrees}, services.WriteBatchRight.{lists_ahead, some_ahead}}
use Rattle.adc_laws.specs.turns.laws.services.WriteBatchRight.{order_work, deed_work, order_takes, deed_takes, claim_among}
use Rattle.adc_laws.specs.turns.laws.services.WriteBatchRight.{len_start, list_at, running_at, claim_at, last_takes, go_at}
use Rattle.adc_laws.specs.turns.laws.{words.BegunWords.{started_agrees}, services.ClaimEndRight.{may_leave}}
use Rattle.chip_blocks.specs.converter.Converters as chips
use Rattle.word_shapes.specs.Playing as playing
use Rattle.mcal_base.specs.facts.Numbers.{same_or_other}
use Rattle.adc_machine.specs.Machine.{starts_on}
use Rattle.service_outline.specs.FrameHistory.{MayDo, past_after, past_wrote}
use Rattle.std.proofs.lemmas.Bool.{not-false}
use Rattle.mcal_base.specs.facts.Truths.{or_true}

test_le : (m n : ℕ) → m ≤ n → nat_le m n ≡ true
test_le m n le = grind (arith, nat_tests)

-- a making of a start, at this stage
abbrev pub stage : AdcTable → (u g e left : ℕ) → (claimed : Bool) → Option StructureOp → ℕ → WriteBatch
stage d u g e left c o j = record (conversion d u g e left c) { order = o; made = j }

-- a move at which nothing stands, of a word or a list register
abbrev IsPlain : Move → Type 0
IsPlain (Load k) = Unit {0}
IsPlain (Store k v) = Unit {0}
IsPlain (Write (ConverterList u i) v) = Unit {0}
IsPlain _ = ⊥

-- what is held doesn't name the group
hold_same : (u g : ℕ) (c : Bool) → hold_in (Window.Convert u 0 c) ≡ hold_in (Window.Convert u g c)
hold_same u g true = refl
hold_same u g false = refl

-- a group that waits has a request
pub asks_for : (s : AdcState) (g : ℕ) → is_some (group_at s g).waiting ≡ true → (q : Request) × ((group_at s g).waiting ≡ Some q)
asks_for s g e = by (group_at s g).waiting refl e
  where
    by : (o : Option Request) → (group_at s g).waiting ≡ o → is_some o ≡ true → (q : Request) × ((group_at s g).waiting ≡ Some q)
    by None i f = absurd (cc)
    by (Some q) i f = (q, i)

-- ---- the unit starts

-- at the move at which the unit starts its event stands, of a handler that may end with it
handler_goes : (d : AdcTable) (f r : AdcBody → ℕ) (below : Reservations) (chip : Chip) (w : World) (s : AdcState) (m : ℕ → Bool) (y u g left l : ℕ) (p : FrameHistory) (clean : Bool) (v : ℕ) (j : AdcBody) → u < 2 → IsFirst d s u g → MayDo (adc_machine d) w s p (Event.Start (unit_named u)) (Entered l)
    → MayStop (AdcGround d) (Entered l) (past_after (adc_machine d) w s (Entered l) (Event.Start (unit_named u)) tells_nothing (past_wrote w (Write (ConverterGo u) left) p)) (missed_after (adc_machine d) w s m) (done no_answer) → Agrees d below (chip_after chip (Write (ConverterGo u) left) y) w (started w s u g)
    → MakesTo (AdcGround d) (adc_bodies d f r) below chip (chip_after chip (Write (ConverterGo u) left) y) w s (Entered l) (Write (ConverterGo u) left) clean v y p (missed_after (adc_machine d) w s m) (j, record { event = Some (Event.Start (unit_named u)); done = Some (done no_answer) })
handler_goes d f r below chip w s m y u g left l p clean v j few first may stop h = record {
  may = may;
  stands = (named_converter u few, named_number u few);
  state = started w s u g;
  told = tells_nothing;
  begins = None;
  is = ap (λ n. starts_on d w s n) (named_of u few) ∙ ap (λ n. starting w s u n) first.3;
  sends = tt;
  acts = tt;
  reset = refl;
  next = (h, stop);
}

-- and of any frame
go_makes : (d : AdcTable) (f r : AdcBody → ℕ) (below : Reservations) (chip : Chip) (w : World) (s : AdcState) (m : ℕ → Bool) (y u g left : ℕ) (c : Bool) (o : Origin Call) (p : FrameHistory) (clean : Bool) (v : ℕ) (j : AdcBody) → InWindow d (Window.Convert u g c) below w s o p → Agrees d below (chip_after chip (Write (ConverterGo u) left) y) w (started w s u g)
    → MakesTo (AdcGround d) (adc_bodies d f r) below chip (chip_after chip (Write (ConverterGo u) left) y) w s o (Write (ConverterGo u) left) clean v y p (missed_after (adc_machine d) w s m) (j, record { event = Some (Event.Start (unit_named u)); done = Some (done no_answer) })
go_makes d f r below chip w s m y u g left true _ _ clean v j (Is_this_frame, few, on, alone, first) h = handler_goes d f r below chip w s m y u g left (24 + u) fresh_history clean v j few first (refl, tt) (may_leave d w s m u few first.0) h
go_makes d f r below chip w s m y u g left false _ _ clean v j (Has_served l own Is_this_frame, few, on, none, first) h =
    handler_goes d f r below chip w s m y u g left l (has_served l) clean v j few first (refl, tt) (may_end d u below (Entered l) (has_served l) (missed_after (adc_machine d) w s m) (Has_served l own Is_this_frame)) h
go_makes d f r below chip w s m y u g left false _ _ clean v j (Has_acted a Is_this_frame, few, on, none, first) h = record {
  may = (refl, λ q. ap is_some (ap (λ n. starts_on d w s n) (named_of u few) ∙ ap (λ n. starting w s u n) first.3));
  stands = (named_converter u few, named_number u few);
  state = started w s u g;
  told = tells_nothing;
  begins = None;
  is = ap (λ n. starts_on d w s n) (named_of u few) ∙ ap (λ n. starting w s u n) first.3;
  sends = tt;
  acts = tt;
  reset = refl;
  next = (h, may_end d u below (Called a) acted (missed_after (adc_machine d) w s m) (Has_acted a Is_this_frame));
}

module _ (d : AdcTable) (fits : FitsAdc d) (f r : AdcBody → ℕ) (below : Reservations) (w : World) (s : AdcState) (o : Origin Call) (p : FrameHistory) (u : ℕ) (few : u < 2) where
  -- ---- how it stands

  abbrev StandAt : PointAssertion (AdcGround d) → Chip → Type 0
  StandAt sp chip = (AdcGround d).represents (with_holds o p.acted (holds_at sp) below) (gap_at sp) chip w s × place_at sp below (foot_of chip) w s o p

  abbrev held : Bool → Reservations
  held c = with_holds o p.acted (hold_in (Window.Convert u 0 c)) below

  pub stand_start : (g e left : ℕ) (c : Bool) (q : Option StructureOp) (j : ℕ) → j ≤ moves_ahead left c → (chip : Chip) → AdcRepresents d (held c) (Some u) chip w s → IsStarting d below (foot_of chip) w s o p u (stage d u g e left c q j)
      → AssertedAt (AdcGround d) (adc_bodies d f r) below chip w s (record { table = d; place = Makes (stage d u g e left c q j) }) o p
  stand_start g e left c q j le chip h at =
      subst (λ b. StandAt (spot_or (adc_windows d f r) (if b then None else owed_of d q None (drop j (start_deeds d u g e left c)) nothing_more) (of_driver (d ≡ d) (spot_start d (stage d u g e left c q j) (number_of (unit_named u)) (list_any ends_claim (start_deeds d u g e left c))))) chip) (sym (test_le j (moves_ahead left c) le))
      (subst (λ n. StandAt (of_driver (d ≡ d) (spot_start d (stage d u g e left c q j) n (list_any ends_claim (start_deeds d u g e left c)))) chip) (sym (named_of u few))
      (subst (λ b. StandAt (of_driver (d ≡ d) (spot_start d (stage d u g e left c q j) (Some u) b)) chip) (sym (claim_among d u g e left c)) (h, (refl, at))))

  -- ---- a step at which nothing stands

  module _ (chip : Chip) (m : ℕ → Bool) (y : ℕ) where
    abbrev missed : ℕ → Bool
    missed = missed_after (adc_machine d) w s m

    abbrev StepRight : AdcBody → Type 0
    StepRight k = RightOr (AdcGround d) (adc_bodies d f r) below chip w s k o y p m (ended_at (adc_bodies d f r) body_ends k (value_of chip (body_work k)))

    plain : (made : Move) → IsPlain made → (clean : Bool) (v : ℕ) (j : AdcBody) → AssertedAt (AdcGround d) (adc_bodies d f r) below (chip_after chip made y) w s j o p → MakesTo (AdcGround d) (adc_bodies d f r) below chip (chip_after chip made y) w s o made clean v y p missed (j, step None)
    plain (Load k) at clean v j h = h
    plain (Store k x) at clean v j h = h
    plain (Write (ConverterList n i) x) at clean v j h = h
    plain _ at clean v j h = absurd at

    plain_step : (k j : AdcBody) (made : Move) → body_work k ≡ made → IsPlain made → body_takes k (value_of chip made) ≡ (j, step None) → body_ends j ≡ None → AssertedAt (AdcGround d) (adc_bodies d f r) below (chip_after chip made y) w s j o p → StepRight k
    plain_step k j made work at takes ends h =
        steps_so d f r below chip w s m y o p k j (step None) (ap (λ n. body_takes k (value_of chip n)) work ∙ takes) (ap (λ a. ended_by a None) ends)
        (subst (λ n. MakesTo (AdcGround d) (adc_bodies d f r) below chip (chip_after chip n y) w s o n ((adc_bodies d f r).clean k) (value_of chip n) y p missed (j, step None)) (sym work) (plain made at ((adc_bodies d f r).clean k) (value_of chip made) j h))

  -- ---- words that are stored ahead

  not_own : (k : ℕ) → own_of (order_of u) k ≡ true → is_ahead u k ≡ true
  not_own k own = ap (λ c. k == STATE + 8 + 8 * u || (k == STATE + 9 + 8 * u || c)) own ∙ (ap (λ q. k == STATE + 8 + 8 * u || q) (or_true (k == STATE + 9 + 8 * u)) ∙ or_true (k == STATE + 8 + 8 * u))

  other_word : (k n : ℕ) → is_ahead u k ≡ false → is_ahead u n ≡ true → k ≢ n
  other_word k n off on e = let same : is_ahead u k ≡ true = ap (λ z. is_ahead u z) e ∙ on in absurd (cc)

  running_ahead : is_ahead u (word_number d (Word.Running u)) ≡ true
  running_ahead = ap (λ q. q || (word_number d (Word.Running u) == STATE + 9 + 8 * u || own_of (order_of u) (word_number d (Word.Running u)))) (eq_self (STATE + 8 + 8 * u))

  claim_ahead : is_ahead u (word_number d (Word.Claim u)) ≡ true
  claim_ahead =
      ap (λ q. word_number d (Word.Claim u) == STATE + 8 + 8 * u || (q || own_of (order_of u) (word_number d (Word.Claim u)))) (eq_self (STATE + 9 + 8 * u))
      ∙ or_true (word_number d (Word.Claim u) == STATE + 8 + 8 * u)

  -- all agrees with other words there after such a store
  stored_ahead : (c : Bool) (chip : Chip) (k v y : ℕ) → is_ahead u k ≡ true → AdcRepresents d (held c) (Some u) chip w s → AdcRepresents d (held c) (Some u) (chip_after chip (Store k v) y) w s
  stored_ahead c chip k v y on h = (h.0, h.1, (λ n off. h.2 n off ∙ sym (stored_other chip k v y n (other_word n k off on))), length-set chip.words k v ∙ h.3)

  in_order : (at k : ℕ) → k == at || (k == at + 1 || k == at + 2) ≡ true → at ≤ k
  in_order at k e = grind (arith, nat_tests)

  off_order : (k : ℕ) → k < STATE + 10 + 8 * u → own_of (order_of u) k ≡ true → ⊥
  off_order k lt own = let low = in_order (STATE + 10 + 8 * u) k own in omega (arith, lt, low)

  -- ---- what the window knows

  pub knows : (g : ℕ) (c : Bool) → InWindow d (Window.Convert u g c) below w s o p → (s.initialised ≡ true) × IsFirst d s u g × (c ≡ false → some_hold (claims_on u) below ≡ false)
  knows g true h = (h.2, h.4, λ e. absurd (cc))
  knows g false h = (h.2, h.4, λ e. h.3)

  -- ---- the order

  module _ (chip : Chip) (m : ℕ → Bool) (y : ℕ) (g e left : ℕ) (c : Bool) (start : IsStart d below w s o p u g e left c) (h : AdcRepresents d (held c) (Some u) chip w s) where
    abbrev body : Option StructureOp → ℕ → AdcBody
    body q j = record { table = d; place = Makes (stage d u g e left c q j) }

    abbrev Right : Option StructureOp → ℕ → Type 0
    Right q j = StepRight chip m y (body q j)

    whole : HasWords chip
    whole = h.3 ∙ h.1.outside.all.words

    long : length (start_deeds d u g e left c) ≡ moves_ahead left c + 1
    long = len_start d u g e left c

    -- the words that the order's change leaves
    after_order : (made : Move) → NamesOwn (own_of (order_of u)) made → AdcRepresents d (held c) (Some u) (chip_after chip made y) w s × (after (word_of chip) made ≡ word_of (chip_after chip made y)) × IsPlain made × (word_of (chip_after chip made y) (word_number d (Word.Claim u)) ≡ word_of chip (word_number d (Word.Claim u)))
    after_order (Load k) own = (h, refl, tt, refl)
    after_order (Store k v) own = (
      stored_ahead c chip k v y (not_own k own) h,
      memories (after (word_of chip) (Store k v)) (word_of (chip_after chip (Store k v) y)) (words-after (own_of (order_of u)) chip (Store k v) whole (λ n on. word_there d fits n (order_words d u n few on)) own),
      tt,
      stored_other chip k v y (word_number d (Word.Claim u)) (λ i. off_order (word_number d (Word.Claim u)) (omega arith) (ap (λ n. own_of (order_of u) n) i ∙ own)),
    )
    after_order _ own = absurd own

    none_made : (k : Chip) → word_of k (word_number d (Word.Claim u)) ≡ word_of chip (word_number d (Word.Claim u)) → HasMade d (foot_of chip) u g e left c 0 → HasMade d (foot_of k) u g e left c 0
    none_made k same made = record { lists = λ i lt less. absurd (omega (arith, lt)); running = λ lt. absurd (omega (arith, lt)); claim = λ i. same ∙ made.claim i }

    module _ (xs : List Entry) (is_order : IsOrder d s u xs) (first : choice (ranks_of d) xs ≡ g) (small : g < 16) (made : HasMade d (foot_of chip) u g e left c 0) where
      abbrev Done : Memory → List ℕ → Type 0
      Done k ws = HoldsOrder (order_of u) k (chosen (choice (ranks_of d) xs) xs) × (ws ≡ choice (ranks_of d) xs ∷ [])

      waits_no_more : chosen (choice (ranks_of d) xs) xs ≡ waiting g false xs
      waits_no_more = ap (λ n. chosen n xs) first ∙ (let on : nat_lt g 16 ≡ true = grind (arith, nat_tests) in ap (λ q. if q then waiting g false xs else xs) on)

      -- a step of the order's change
      order_step : (n : ℕ) (k : Next) → Ends choosing_next (own_of (order_of u)) n k (word_of chip) Done → Right (Some (StructureOp.Next k)) 0
      order_step zero k ends = absurd ends
      order_step (suc n) k ends = step_of_move (next_move k) refl ends.0
        where
          step_of_move : (move : Move) → next_move k ≡ move → NamesOwn (own_of (order_of u)) (next_move k) → Right (Some (StructureOp.Next k)) 0
          step_of_move move is own = on (next_gave k (value_of chip (next_move k))).ended refl
            where
              v : ℕ
              v = value_of chip (next_move k)

              later : Chip
              later = chip_after chip (next_move k) y

              left_by : AdcRepresents d (held c) (Some u) (chip_after chip (next_move k) y) w s × (after (word_of chip) (next_move k) ≡ word_of (chip_after chip (next_move k) y)) × IsPlain (next_move k) × (word_of (chip_after chip (next_move k) y) (word_number d (Word.Claim u)) ≡ word_of chip (word_number d (Word.Claim u)))
              left_by = after_order (next_move k) own

              given_is : playing.given (word_of chip) (next_move k) ≡ value_of chip (next_move k)
              given_is = sym (value-same (own_of (order_of u)) chip (next_move k) own)

              goes : playing.Either (next_gave k (value_of chip (next_move k))).ended (Ends choosing_next (own_of (order_of u)) n (next_left k (value_of chip (next_move k))) (word_of (chip_after chip (next_move k) y)) Done) (Done (word_of (chip_after chip (next_move k) y)))
              goes = subst (λ z. playing.Either (next_gave k z).ended (Ends choosing_next (own_of (order_of u)) n (next_left k z) (word_of (chip_after chip (next_move k) y)) Done) (Done (word_of (chip_after chip (next_move k) y)))) given_is
                  (subst (λ (z : Memory). playing.Either (next_gave k (playing.given (word_of chip) (next_move k))).ended (Ends choosing_next (own_of (order_of u)) n (next_left k (playing.given (word_of chip) (next_move k))) z Done) (Done z)) left_by.1 ends.2)

              stands : (a : Option Answer) → playing.Either a (Ends choosing_next (own_of (order_of u)) n (next_left k (value_of chip (next_move k))) (word_of (chip_after chip (next_move k) y)) Done) (Done (word_of (chip_after chip (next_move k) y)))
                  → AssertedAt (AdcGround d) (adc_bodies d f r) below (chip_after chip (next_move k) y) w s (body (if is_some a then None else Some (StructureOp.Next (next_left k (value_of chip (next_move k))))) 0) o p
              stands None x = stand_start g e left c (Some (StructureOp.Next (next_left k (value_of chip (next_move k))))) 0 (omega arith) (chip_after chip (next_move k) y) left_by.0 (Orders g e left c n (next_left k (value_of chip (next_move k))) xs start is_order first x (none_made (chip_after chip (next_move k) y) left_by.3 made))
              stands (Some a) x = stand_start g e left c None 0 (omega arith) (chip_after chip (next_move k) y) left_by.0 (Prepares g e left c 0 xs start (omega arith) is_order (subst (λ zs. HoldsOrder (order_of u) (word_of (chip_after chip (next_move k) y)) zs) waits_no_more x.1.0) (none_made (chip_after chip (next_move k) y) left_by.3 made))

              on : (a : Option Answer) → (next_gave k (value_of chip (next_move k))).ended ≡ a → Right (Some (StructureOp.Next k)) 0
              on a i =
                  plain_step chip m y (body (Some (StructureOp.Next k)) 0) (body (if is_some a then None else Some (StructureOp.Next (next_left k (value_of chip (next_move k))))) 0) (next_move k)
                  (order_work d (Event.Start (unit_named u)) (start_deeds d u g e left c) (moves_ahead left c) nothing_more (some_ahead left c) (StructureOp.Next k) 0) left_by.2
                  (order_takes d (Event.Start (unit_named u)) (start_deeds d u g e left c) (moves_ahead left c) nothing_more (some_ahead left c) (StructureOp.Next k) 0 (value_of chip (next_move k)) (some_ahead left c) (let n = long in omega (arith, n))
                  ∙ ap (λ q. (body (if is_some q then None else Some (StructureOp.Next (next_left k (value_of chip (next_move k))))) 0, step None)) i) refl
                  (stands a (subst (λ q. playing.Either q (Ends choosing_next (own_of (order_of u)) n (next_left k (value_of chip (next_move k))) (word_of (chip_after chip (next_move k) y)) Done) (Done (word_of (chip_after chip (next_move k) y)))) i goes))

    -- ---- registers and words

    module _ (xs : List Entry) (is_order : IsOrder d s u xs) (holds : HoldsOrder (order_of u) (word_of chip) (waiting g false xs)) where
      known : (s.initialised ≡ true) × IsFirst d s u g × (c ≡ false → some_hold (claims_on u) below ≡ false)
      known = knows g c start.window

      few_left : left ≤ 32
      few_left = let most = few_inputs d fits g (on_there u (group_of d g) known.1.1) in let all = start.all in omega (arith, most, all)

      list_of : (k : Chip) → u < length k.converters.units → slice_index_or (foot_of k).lists u [] ≡ (chips.unit_at k.converters u).list
      list_of k lt = get_or-map (λ (z : Converter). z.list) k.converters.units u unused [] lt

      within_units : u < length chip.converters.units
      within_units = let all = h.1.block.all in omega (arith, all, few)

      -- a move of the list at which nothing stands, ahead of the start
      made_step : (j : ℕ) (x : WindowWrite) → slice_get (start_deeds d u g e left c) j ≡ Some x → IsPlain (deed_move d x) → j < moves_ahead left c → AdcRepresents d (held c) (Some u) (chip_after chip (deed_move d x) y) w s
          → HoldsOrder (order_of u) (word_of (chip_after chip (deed_move d x) y)) (waiting g false xs) → HasMade d (foot_of (chip_after chip (deed_move d x) y)) u g e left c (j + 1) → Right None j
      made_step j x at alone early still ordered made =
          plain_step chip m y (body None j) (body None (j + 1)) (deed_move d x)
          (deed_work d (Event.Start (unit_named u)) (start_deeds d u g e left c) (moves_ahead left c) nothing_more (some_ahead left c) j x at) alone
          (deed_takes d (Event.Start (unit_named u)) (start_deeds d u g e left c) (moves_ahead left c) nothing_more (some_ahead left c) j (value_of chip (deed_move d x)) early (let n = long in omega (arith, n, early))) refl
          (stand_start g e left c None (j + 1) (omega (arith, early)) (chip_after chip (deed_move d x) y) still (Prepares g e left c (j + 1) xs start (omega (arith, early)) is_order ordered made))

      -- a list register takes four inputs
      list_step : (j : ℕ) → j < lists_for left → HasMade d (foot_of chip) u g e left c j → Right None j
      list_step j lt made =
          made_step j (list_deed d u g e j) (list_at d u g e left c j lt) tt (let more = lists_ahead left c in omega (arith, lt, more))
          (h.0, list_agrees d fits (held c) (record chip { words = h.0 }) w s h.1 u few j (four_from (inputs_of (group_of d g)) (e + 4 * j)), h.2, h.3) holds now
        where
          later : Chip
          later = chip_after chip (deed_move d (list_deed d u g e j)) y

          is_list : slice_index_or (foot_of later).lists u [] ≡ slice_set (slice_index_or (foot_of chip).lists u []) j (four_from (inputs_of (group_of d g)) (e + 4 * j))
          is_list =
              let unit : chips.unit_at later.converters u ≡ chips.listed j (four_from (inputs_of (group_of d g)) (e + 4 * j)) (chips.unit_at chip.converters u) = unit_set chip.converters.units u (chips.listed j (four_from (inputs_of (group_of d g)) (e + 4 * j)) (chips.unit_at chip.converters u)) within_units in
              list_of later (let n = length-set chip.converters.units u (chips.listed j (four_from (inputs_of (group_of d g)) (e + 4 * j)) (chips.unit_at chip.converters u)) in let l = within_units in omega (arith, n, l))
              ∙ (ap (λ (z : Converter). z.list) unit ∙ ap (λ zs. slice_set zs j (four_from (inputs_of (group_of d g)) (e + 4 * j))) (sym (list_of chip within_units)))

          eight : length (slice_index_or (foot_of chip).lists u []) ≡ 8
          eight = ap length (list_of chip within_units) ∙ h.1.block.lists u few

          now : HasMade d (foot_of later) u g e left c (j + 1)
          now = record {
            lists = λ i le less. ap (λ zs. slice_index zs i) is_list ∙ by i le less (same_or_other i j);
            running = λ le. absurd (omega (arith, le, lt));
            claim = λ i. made.claim (cases i (λ i. inl i) (λ i. absurd (omega (arith, i, lt))));
          }
            where
              by : (i : ℕ) → i < j + 1 → i < lists_for left → (i ≡ j) ⊎ (i ≢ j) → slice_index (slice_set (slice_index_or (foot_of chip).lists u []) j (four_from (inputs_of (group_of d g)) (e + 4 * j))) i ≡ four_from (inputs_of (group_of d g)) (e + 4 * i)
              by i le less (inl same) = subst (λ n. slice_index (slice_set (slice_index_or (foot_of chip).lists u []) j (four_from (inputs_of (group_of d g)) (e + 4 * j))) n ≡ four_from (inputs_of (group_of d g)) (e + 4 * n)) (sym same) (get_or-set_same (slice_index_or (foot_of chip).lists u []) j (four_from (inputs_of (group_of d g)) (e + 4 * j)) 0 (let n = eight in let l = few_left in omega (arith, n, l, lt)))
              by i le less (inr ne) = get_or-set_other (slice_index_or (foot_of chip).lists u []) j i (four_from (inputs_of (group_of d g)) (e + 4 * j)) 0 ne ∙ made.lists i (omega (arith, le, ne)) less

      -- a word of the unit is stored
      order_left : (k v : ℕ) → k < STATE + 10 + 8 * u → HoldsOrder (order_of u) (word_of (chip_after chip (Store k v) y)) (waiting g false xs)
      order_left k v lt = holds-agree (order_of u) (word_of chip) (word_of (chip_after chip (Store k v) y)) (waiting g false xs) (λ n own. sym (stored_other chip k v y n (λ i. off_order n (omega (arith, i, lt)) own))) holds

      running_step : HasMade d (foot_of chip) u g e left c (lists_for left) → Right None (lists_for left)
      running_step made =
          made_step (lists_for left) (Set (Word.Running u) (1 + g)) (running_at d u g e left c) tt (lists_ahead left c)
          (stored_ahead c chip (word_number d (Word.Running u)) (1 + g) y running_ahead h) (order_left (word_number d (Word.Running u)) (1 + g) (omega arith)) now
        where
          later : Chip
          later = chip_after chip (Store (word_number d (Word.Running u)) (1 + g)) y

          now : HasMade d (foot_of later) u g e left c (lists_for left + 1)
          now = record {
            lists = λ i le less. made.lists i less less;
            running = λ le. stored_same chip (word_number d (Word.Running u)) (1 + g) y (word_there d fits (word_number d (Word.Running u)) (running_words d u few)) whole;
            claim = λ i. stored_other chip (word_number d (Word.Running u)) (1 + g) y (word_number d (Word.Claim u)) (λ n. omega (arith, n)) ∙ made.claim (cases i
                (λ i. inl i)
                (λ i. absurd (omega (arith, i))));
          }

      -- the claim ends with the start, where the frame has one
      claim_step : c ≡ true → HasMade d (foot_of chip) u g e left c (lists_for left + 1) → Right None (lists_for left + 1)
      claim_step i made =
          made_step (lists_for left + 1) (Set (Word.Claim u) 0) (ap (λ q. slice_get (start_deeds d u g e left q) (lists_for left + 1)) i ∙ claim_at d u g e left) tt (subst (λ q. lists_for left + 1 < moves_ahead left q) (sym i) (omega arith))
          (stored_ahead c chip (word_number d (Word.Claim u)) 0 y claim_ahead h) (order_left (word_number d (Word.Claim u)) 0 (omega arith)) now
        where
          later : Chip
          later = chip_after chip (Store (word_number d (Word.Claim u)) 0) y

          now : HasMade d (foot_of later) u g e left c (lists_for left + 1 + 1)
          now = record {
            lists = λ i le less. made.lists i (omega (arith, less)) less;
            running = λ le. stored_other chip (word_number d (Word.Claim u)) 0 y (word_number d (Word.Running u)) (λ n. omega (arith, n)) ∙ made.running (omega arith);
            claim = λ i. stored_same chip (word_number d (Word.Claim u)) 0 y (word_there d fits (word_number d (Word.Claim u)) (claim_words d u few)) whole;
          }

      -- at the last move the unit starts, and the frame is done
      go_step : HasMade d (foot_of chip) u g e left c (moves_ahead left c) → Right None (moves_ahead left c)
      go_step made =
          steps_so d f r below chip w s m y o p (body None (moves_ahead left c)) (body None (moves_ahead left c + 1)) (record { event = Some (Event.Start (unit_named u)); done = Some (done no_answer) })
          (last_takes d (Event.Start (unit_named u)) (start_deeds d u g e left c) (moves_ahead left c) nothing_more (some_ahead left c) (value_of chip (body_work (body None (moves_ahead left c)))) (len_start d u g e left c)) refl
          (subst (λ n. MakesTo (AdcGround d) (adc_bodies d f r) below chip (chip_after chip n y) w s o n ((adc_bodies d f r).clean (body None (moves_ahead left c))) (value_of chip n) y p (missed_after (adc_machine d) w s m) (body None (moves_ahead left c + 1), record { event = Some (Event.Start (unit_named u)); done = Some (done no_answer) })) (sym work)
          (go_makes d f r below chip w s m y u g left c o p ((adc_bodies d f r).clean (body None (moves_ahead left c))) 0 (body None (moves_ahead left c + 1)) start.window represents))
        where
          work : body_work (body None (moves_ahead left c)) ≡ Write (ConverterGo u) left
          work = deed_work d (Event.Start (unit_named u)) (start_deeds d u g e left c) (moves_ahead left c) nothing_more (some_ahead left c) (moves_ahead left c) (WindowWrite.Write (ConverterGo u) left) (go_at d u g e left c)

          asks : (q : Request) × ((group_at s g).waiting ≡ Some q)
          asks = asks_for s g known.1.2

          count : length asks.0.kept ≡ e
          count = ap length (sym (kept_request d fits w s h.1.sound g asks.0 asks.1)) ∙ start.kept

          gone : (q : Bool) → (q ≡ false) ⊎ (lists_for left + 1 < moves_ahead left q)
          gone true = inr (omega arith)
          gone false = inl refl

          represents : Agrees d below (chip_after chip (Write (ConverterGo u) left) y) w (started w s u g)
          represents =
              started_agrees d fits below chip h.0 w s u g left y c o p few known.0 known.1.0 known.1.1 asks.0 asks.1 known.1.3 known.2 (subst (λ hs. Agrees d (with_holds o p.acted hs below) (record chip { words = h.0 }) w s) (hold_same u g c) h.1) h.2 (h.3 ∙ h.1.outside.all.words)
              (ap (λ n. n + left) count ∙ start.all) (λ i lt. ap (λ zs. slice_index zs i) (sym (list_of chip (let all = h.1.block.all in omega (arith, all, few)))) ∙ (made.lists i (let l = lists_ahead left c in omega (arith, lt, l)) lt ∙ ap (λ n. four_from (inputs_of (group_of d g)) (n + 4 * i)) (sym count)))
              (made.running (lists_ahead left c)) (made.claim (gone c)) xs is_order holds

      -- whichever move it is
      prepares : (j : ℕ) → j ≤ moves_ahead left c → HasMade d (foot_of chip) u g e left c j → Right None j
      prepares j le made = list_or_further (nat_lt j (lists_for left)) refl
        where
          -- the last ones
          last : (q : Bool) → c ≡ q → lists_for left < j → Right None j
          last false i lt =
              let same : moves_ahead left c ≡ j = (let n = ap (λ z. moves_ahead left z) i in omega (arith, n, lt, le)) in
              subst (λ n. Right None n) same (go_step (subst (λ n. HasMade d (foot_of chip) u g e left c n) (sym same) made))
          last true i lt = cases (same_or_other j (lists_for left + 1))
              (λ k. subst (λ n. Right None n) (sym k) (claim_step i (subst (λ n. HasMade d (foot_of chip) u g e left c n) k made)))
              (λ ne.
              let same : moves_ahead left c ≡ j = (let n = ap (λ z. moves_ahead left z) i in omega (arith, n, lt, le, ne)) in
              subst (λ n. Right None n) same (go_step (subst (λ n. HasMade d (foot_of chip) u g e left c n) (sym same) made)))

          list_or_further : (q : Bool) → nat_lt j (lists_for left) ≡ q → Right None j
          list_or_further true i = list_step j (grind (arith, nat_tests)) made
          list_or_further false i = cases (same_or_other j (lists_for left))
              (λ k. subst (λ n. Right None n) (sym k) (running_step (subst (λ n. HasMade d (foot_of chip) u g e left c n) k made)))
              (λ ne. last c refl (let ge : lists_for left ≤ j = grind (arith, nat_tests) in omega (arith, ge, ne)))

  -- ---- any step of a start, and what its window decides

  module _ (chip : Chip) (m : ℕ → Bool) (y : ℕ) where
    -- the step of a start, wherever it is
    pub starting_right : (k : WriteBatch) → IsStarting d below (foot_of chip) w s o p u k → AdcRepresents d (with_holds o p.acted (hold_in (Window.Convert u 0 (list_any ends_claim k.deeds))) below) (Some u) chip w s → StepRight chip m y (record { table = d; place = Makes k })
    starting_right _ (Orders g e left c n x xs start is_order first ends made) h =
        order_step chip m y g e left c start (subst (λ z. AdcRepresents d (held z) (Some u) chip w s) (claim_among d u g e left c) h) xs is_order first (within_group g c start) made n x ends
      where
        within_group : (g : ℕ) (c : Bool) → IsStart d below w s o p u g e left c → g < 16
        within_group g c start = within d g (on_there u (group_of d g) (knows g c start.window).1.1)
    starting_right _ (Prepares g e left c j xs start le is_order holds made) h = prepares chip m y g e left c start (subst (λ z. AdcRepresents d (held z) (Some u) chip w s) (claim_among d u g e left c) h) xs is_order holds j le made

    -- ---- what the window decides

    module _ (g : ℕ) (c : Bool) (in_window : InWindow d (Window.Convert u g c) below w s o p) (h : Agrees d (with_holds o p.acted (hold_in (Window.Convert u g c)) below) chip w s) where
      facts : (s.initialised ≡ true) × IsFirst d s u g × (c ≡ false → some_hold (claims_on u) below ≡ false)
      facts = knows g c in_window

      is_there : is_some (group_of d g) ≡ true
      is_there = on_there u (group_of d g) facts.1.1

      ask : (q : Request) × ((group_at s g).waiting ≡ Some q)
      ask = asks_for s g facts.1.2

      is_kept : kept_in d s g ≡ ask.0.kept
      is_kept = kept_request d fits w s h.sound g ask.0 ask.1

      less : length (kept_in d s g) < length (inputs_of (group_of d g))
      less = let n = ap length is_kept in let k = (h.sound.waits g ask.0 ask.1).2 in omega (arith, n, k)

      -- the claim is none, or the frame's own
      claim_small : word_of chip (word_number d (Word.Claim u)) ≢ 2 + g
      claim_small i = not_lost c facts.2 h
        where
          not_lost : (z : Bool) → (z ≡ false → some_hold (claims_on u) below ≡ false) → Agrees d (with_holds o p.acted (hold_in (Window.Convert u g z)) below) chip w s → ⊥
          not_lost false none k = let zero_is = eq_is (word_of chip (word_number d (Word.Claim u))) 0 (not-false (word_of chip (word_number d (Word.Claim u)) == 0) (sym (unclaimed u (word_of chip (word_number d (Word.Claim u))) below ((k.settled facts.0).claims u few)) ∙ none refl)) in omega (arith, zero_is, i)
          not_lost true none k = let one = (claimed_parts u (word_of chip (word_number d (Word.Claim u))) below (claim_right below u (word_of chip (word_number d (Word.Claim u)))) ((k.settled facts.0).claims u few)).0 in omega (arith, one, i)

      kept_is : word_of chip (word_number d (Word.Kept g)) ≡ length (kept_in d s g)
      kept_is = ((h.settled facts.0).groups g is_there).kept (waits_turn s g facts.1.2) (λ i. claim_small (ap (λ v. word_of chip (word_number d (Word.Claim v))) (sym (unit_is d fits u (group_of d g) facts.1.1)) ∙ i))

      limit : (if nat_lt (word_of chip (word_number d (Word.Kept g))) (length (inputs_of (group_of d g))) then word_of chip (word_number d (Word.Kept g)) else length (inputs_of (group_of d g))) ≡ length (kept_in d s g)
      limit = ap (λ n. if nat_lt n (length (inputs_of (group_of d g))) then n else length (inputs_of (group_of d g))) kept_is ∙ (let on : nat_lt (length (kept_in d s g)) (length (inputs_of (group_of d g))) ≡ true = small in ap (λ q. if q then length (kept_in d s g) else length (inputs_of (group_of d g))) on)
        where
          small : nat_lt (length (kept_in d s g)) (length (inputs_of (group_of d g))) ≡ true
          small = let lt = less in grind (arith, nat_tests)

      abbrev e : ℕ
      e = length (kept_in d s g)

      abbrev left : ℕ
      left = length (inputs_of (group_of d g)) - length (kept_in d s g)

      unit : UnitAgrees d (word_of chip) s u
      unit = (h.settled facts.0).units u few

      start : IsStart d below w s o p u g e left c
      start = record { window = in_window; kept = refl; all = (let lt = less in omega (arith, lt)) }

      made : HasMade d (foot_of chip) u g e left c 0
      made = record { lists = λ i lt small. absurd (omega (arith, lt)); running = λ lt. absurd (omega (arith, lt)); claim = claims }
        where
          unheld : (z : Bool) → z ≡ false → some_hold (claims_on u) below ≡ false → Agrees d (with_holds o p.acted (hold_in (Window.Convert u g z)) below) chip w s → word_of chip (word_number d (Word.Claim u)) ≡ 0
          unheld true i none k = absurd (cc)
          unheld false i none k = eq_is (word_of chip (word_number d (Word.Claim u))) 0 (not-false (word_of chip (word_number d (Word.Claim u)) == 0) (sym (unclaimed u (word_of chip (word_number d (Word.Claim u))) below ((k.settled facts.0).claims u few)) ∙ none))

          claims : (c ≡ false) ⊎ (lists_for left + 1 < 0) → word_of chip (word_number d (Word.Claim u)) ≡ 0
          claims (inl i) = unheld c i (facts.2 i) h
          claims (inr i) = absurd (omega (arith, i))

      is_next : next_group d s u ≡ Some g
      is_next = sym (ap (λ q. starts_by q (next_group d s u)) facts.1.0) ∙ facts.1.3

      pub convert_right : (K : Place) (k v : ℕ) → DecidedRight d f r below chip w s o (Load k) false v y p (missed_after (adc_machine d) w s m) K (convert d u g c (word_of chip (word_number d (Word.Kept g))))
      convert_right K k v =
          subst (λ n. DecidedRight d f r below chip w s o (Load k) false v y p (missed_after (adc_machine d) w s m) K (makes (conversion d u g n (length (inputs_of (group_of d g)) - n) c))) (sym limit) (
            stand_start g e left c (Some (StructureOp.Next (next_start (order_of u) (ranks_of d)))) 0 (omega arith) chip (chip.words, subst (λ hs. Agrees d (with_holds o p.acted hs below) chip w s) (sym (hold_same u g c)) h, (λ n off. refl), refl)
                (Orders g e left c (if nat_lt 8 (length unit.order.0) then 4 else 3) (next_start (order_of u) (ranks_of d)) unit.order.0 start unit.order.2 (choice_next d s u unit.order.0 unit.order.2 (holds-below (order_of u) (word_of chip) unit.order.0 unit.order.1) g is_next).0 (next-ends (order_of u) (ranks_of d) (word_of chip) unit.order.0 unit.order.1) made),
            refl,
          )

    pub convert_looks : (g : ℕ) (c : Bool) (seen : List ℕ) → InWindow d (Window.Convert u g c) below w s o p → AssertedAt (AdcGround d) (adc_bodies d f r) below chip w s (record { table = d; place = Looks (Window.Convert u g c) seen }) o p
        → StepRight chip m y (record { table = d; place = Looks (Window.Convert u g c) seen })
    convert_looks g c seen in_window stand = looks_right d f r below chip w s (Window.Convert u g c) o y p m (omega arith) seen stand (λ k v. convert_right g c in_window stand.0 (Looks (Window.Convert u g c) (word_of chip (word_number d (Word.Kept g)) ∷ [])) k v)
