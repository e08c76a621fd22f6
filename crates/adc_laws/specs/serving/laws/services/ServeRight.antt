-- The step at which a handler serves its unit's round: its move is the acknowledgement, and what its window makes after that settles to
-- all that the machine has then.
-- From adc_groups: services.Decisions, services.ServeActRight, adc_groups: words.StructureParts and 10 more.
-- Used by adc_driver: services.AllSteps.
use Rattle.std.proofs.Common.{◌≡◌, ◌≢◌, ◌+◌, ◌*◌, ◌/◌, ◌%◌, ◌<◌, ◌≤◌, ◌&&◌, ◌||◌, ◌==◌, [], ◌∷◌, ◌++◌, ◌∙◌}
use Rattle.std.proofs.Common.{if◌then◌else◌}
use Rattle.adc_laws.specs.serving.Terms
use Terms.{adc_bodies, adc_machine, AdcBody, AdcGround, AdcState, AdcTable, again-ends, again_part, again_start}
use Terms.{Agrees, ap, arith, Bank, bank_number, bit_of, body_ends, body_work, Bool, buffer_by, Call, Chip}
use Terms.{chip_after, chosen_of, Column, column_of, CommitsAfter, CommitsTo, Continuation, ConverterAck, Converters}
use Terms.{Copies, copies_or, counted, deed_move, deeds_listed, differs_none, DiffersIn, drop-ends, drop_part}
use Terms.{drop_start, dropping, ended_at, Entered, Entry, entry, eq_other, Event, false, first_takes, FitsAdc}
use Terms.{following, foot_of, FrameHistory, fresh_history, Full, Group, group_at, group_of, GroupAgrees, happens}
use Terms.{has_turn, HasWords, hold_served, HoldsOrder, Idle, inputs_of, is_continuous, is_full, is_on, is_some}
use Terms.{is_streamed, is_there, Is_this_frame, is_word, IsAlone, IsAtUnit, IsServing, left_of, length, length-set}
use Terms.{length_after, limited, List, Load, Makes, making, making_owed, MayCopy, MayServe, min, mod-eq_of_lt}
use Terms.{mod-lt, nat_lt, nat_tests, no_answer, None, not, notes, off_where, on_there, One, one_more, one_owed}
use Terms.{Option, order_first, order_of, order_words, Origin, outcome, Outside, owed_of, own-control, own_named}
use Terms.{own_of, past_after, PendingWrites, Phase, phase_after, phase_in, phase_number, phase_of, phase_on, Put}
use Terms.{put_start, PutPart, refl, Reservations, ResultBuffer, RightOr, Round, round_at, round_words, rounds_of}
use Terms.{RoundSeen, samples_of, serving, settles_list, settles_part, Some, some_inputs, some_samples, SoundGroup}
use Terms.{status_after, step, steps_so, Store, StructureOp, subst, sym, Taken, Tells, trigger_bit, trigger_input}
use Terms.{trio_of, trio_words, true, turn_deed, turn_shape, value_of, values_of, waiting, waiting_again, Window}
use Terms.{WindowWrite, with_holds, Word, word_of, word_there, World, WriteBatch, Zero, ℕ}
use Rattle.adc_laws.specs.serving.laws.{bookkeeping.ServedSound.{both_ways}, services.ServeActRight.{there, lt, past}}
use Rattle.adc_laws.specs.serving.laws.services.ServeActRight.{unit_was, turn_was, group_is, finished, acts_agree}
use Rattle.adc_laws.specs.serving.laws.{services.ClaimRight.{claiming, none_claims}, services.ServeWords.{serves_of}}
use Rattle.adc_laws.specs.serving.laws.{services.ServeWords.{may_serves}, bookkeeping.ServedState.{served, serves_round}}
use Rattle.adc_laws.specs.serving.laws.words.StreamNumbers.{count_after, place_after, last_after, full_after, phase_served}
use Rattle.run_model.specs.Machine.{Serves}
use Rattle.chip_blocks.specs.converter.Converters as chips
use Rattle.word_shapes.specs.PriorityQueue as ranked
use Rattle.word_shapes.specs.declared.streams.copying.Copied.TheVariants as copied

-- how a round is served, by what its words are to be
abbrev pub serving_by : AdcTable → (unit group : ℕ) → Bank → (count place phase : ℕ) → (again off : Bool) → Column → (on : Bool) → WriteBatch
serving_by d u g b n p v again off col on = record (making (Some (Event.Serve (24 + u))) (WindowWrite.Write (ConverterAck u) 1 ∷ serves_of d u g n p v again off) (Continuation.Goes (Outside.Copies (record { what = copied.Bank (rounds_of d g) b col; done = 0; value = None }) (Tells u g on)))) {
  order = Some (turn_shape u g again);
  banks = Some (StructureOp.Put (put_start (trio_of (rounds_of d g)) (PutPart.Commit (bank_number b))));
}

module _ (d : AdcTable) (fits : FitsAdc d) (f r : AdcBody → ℕ) (below : Reservations) (chip : Chip) (w : World) (s : AdcState) (m : ℕ → Bool) (y : ℕ) (u g : ℕ) (b : Bank) (few : u < 2) (alone : IsAlone (24 + u) below) (x : Round) (is : round_at s u ≡ Some x) (h : Agrees d (claiming u (Full u g b) below) chip w s)
    (full con : Bool) (ef : is_full (group_of d g) (length (group_at s g).rounds + 1) ≡ full) (ec : is_continuous (group_of d g) ≡ con) (count place phase : ℕ) (count_is : count ≡ min (length (group_at s g).rounds + 1) (samples_of (group_of d g))) (place_is : place ≡ (length (group_at s g).rounds + 1) % samples_of (group_of d g))
    (phase_is : phase ≡ phase_of (status_after (length (group_at s g).rounds % samples_of (group_of d g) + 1 == samples_of (group_of d g)) (group_at s g).status) (con && not full || (group_at s g).trigger && not full)) (second : Bool) (chosen : (group_at s g).chosen ≡ Some (buffer_by second)) (on : Bool) (notified : (group_at s g).notification ≡ on) where
  abbrev line : Origin Call
  line = Entered (24 + u)

  abbrev again : Bool
  again = con && not full

  abbrev off : Bool
  off = full && is_some (trigger_input (group_of d g))

  abbrev col : Column
  col = record { group = g; second = second; samples = samples_of (group_of d g); place = length (group_at s g).rounds % samples_of (group_of d g) }

  abbrev next : Continuation
  next = Continuation.Goes (Outside.Copies (record { what = copied.Bank (rounds_of d g) b (record { group = g; second = second; samples = samples_of (group_of d g); place = length (group_at s g).rounds % samples_of (group_of d g) }); done = 0; value = None }) (Tells u g on))

  abbrev ys : List WindowWrite
  ys = serves_of d u g count place phase (con && not full) (full && is_some (trigger_input (group_of d g)))

  in_group : is_on u (group_of d g) ≡ true
  in_group = h.right.0.2

  at_unit : IsAtUnit u below
  at_unit = (alone, none_claims d chip w s u x below h.right.1.1 alone is)

  here : is_some (group_of d g) ≡ true
  here = there d fits below chip w s u g b few alone x is h

  abbrev after : Reservations
  after = claiming u (Copies b (record { group = g; second = second; samples = samples_of (group_of d g); place = length (group_at s g).rounds % samples_of (group_of d g) }) 0 None) below

  abbrev t : AdcState
  t = served d s g u few (lt d fits below chip w s u g b few alone x is h) (past d fits below chip w s u g b few alone x is h) x.request.number (values_of w (group_of d g) x) full con

  abbrev deed : WindowWrite
  deed = WindowWrite.Write (ConverterAck u) 1

  abbrev first : Chip
  first = chip_after chip (deed_move d (WindowWrite.Write (ConverterAck u) 1)) 0

  all_words : HasWords chip
  all_words = h.outside.all.words

  first_whole : HasWords first
  first_whole = length_after chip (deed_move d deed) 0 ∙ all_words

  abbrev Done : Chip → Type 0
  Done c = Agrees d after c w t

  -- ---- the bank and the deeds, once the order has changed

  abbrev left : List Entry
  left = if con && not full then waiting g true (unit_was d fits below chip w s u g b few alone x is h).order.0 else left_of g (unit_was d fits below chip w s u g b few alone x is h).order.0

  own_order : (k : ℕ) → ranked.own_of (order_of u) k ≡ true → is_word d k ≡ true
  own_order k e = order_words d u k few e

  own_trio : (k : ℕ) → own_of (trio_of (rounds_of d g)) k ≡ true → is_word d k ≡ true
  own_trio k e = trio_words d fits g k here e

  module _ (a : Chip) (differs : DiffersIn (ranked.own_of (order_of u)) first a) (holds : HoldsOrder (order_of u) (word_of a) left) where
    abbrev control : ℕ
    control = (trio_of (rounds_of d g)).control

    abbrev value : ℕ
    value = bank_number b % 4 + 4 * (word_of a (trio_of (rounds_of d g)).control / 4)

    abbrev put_told : Chip
    put_told = chip_after a (Store (trio_of (rounds_of d g)).control (bank_number b % 4 + 4 * (word_of a (trio_of (rounds_of d g)).control / 4))) 0

    block_same : a.converters ≡ first.converters
    block_same = ap (λ (c : Chip). c.converters) differs.rest

    deeds_come : CommitsAfter (making_owed d) (owed_of d None None ys next) put_told Done
    deeds_come =
        settles_list (making_owed d) (deed_move d) (λ ds. owed_of d None None ds next) (deeds_listed d fits next) Done ys put_told
        (may_serves d fits g u here few next count place phase (con && not full) (full && is_some (trigger_input (group_of d g))) put_told
        (ap (λ (c : Converters). length c.units) block_same ∙ (length-set chip.converters.units u (chips.acknowledged chip.converters.time (chips.unit_at chip.converters u)) ∙ h.block.all))
        (subst (λ (c : Converters). c.pulses < 16) (sym block_same) h.triggers.others))
        (acts_agree d fits below chip w s u g b few alone x is h full con ef ec a differs holds count place phase count_is place_is phase_is second chosen)

    abbrev at_store : PendingWrites
    at_store = record { table = d; order = None; banks = Some (StructureOp.Put (Put.Tell (trio_of (rounds_of d g)).control (bank_number b % 4 + 4 * (word_of a (trio_of (rounds_of d g)).control / 4)))); deeds = ys; after = next }

    abbrev at_load : PendingWrites
    at_load = record { table = d; order = None; banks = Some (StructureOp.Put (put_start (trio_of (rounds_of d g)) (PutPart.Commit (bank_number b)))); deeds = ys; after = next }

    stores : (n : ℕ) × CommitsTo (making_owed d) n at_store a Done
    stores = one_owed (making_owed d) Done at_store a (owed_of d None None ys next) (own_named d fits (own_of (trio_of (rounds_of d g))) own_trio (Store control value) (own-control (trio_of (rounds_of d g)))) tt refl deeds_come

    bank_comes : CommitsAfter (making_owed d) (owed_of d None (Some (StructureOp.Put (put_start (trio_of (rounds_of d g)) (PutPart.Commit (bank_number b))))) ys next) a Done
    bank_comes = one_owed (making_owed d) Done at_load a (Some at_store) (own_named d fits (own_of (trio_of (rounds_of d g))) own_trio (Load control) (own-control (trio_of (rounds_of d g)))) tt refl stores

  -- ---- the order

  abbrev bank_next : Option PendingWrites
  bank_next = owed_of d None (Some (StructureOp.Put (put_start (trio_of (rounds_of d g)) (PutPart.Commit (bank_number b))))) ys next

  xs_first : HoldsOrder (order_of u) (word_of first) (unit_was d fits below chip w s u g b few alone x is h).order.0
  xs_first = order_first d fits g u here few chip all_words deed tt first (differs_none (ranked.own_of (order_of u)) first first_whole) [] tt (unit_was d fits below chip w s u g b few alone x is h).order.0 (unit_was d fits below chip w s u g b few alone x is h).order.1

  small : g < 16
  small = lt d fits below chip w s u g b few alone x is h

  entry_is : entry g ≡ g
  entry_is = mod-eq_of_lt small

  order_settles : (q : Bool) → con && not full ≡ q → (n : ℕ) × CommitsTo (making_owed d) n (record { table = d; order = Some (turn_shape u g q); banks = Some (StructureOp.Put (put_start (trio_of (rounds_of d g)) (PutPart.Commit (bank_number b)))); deeds = ys; after = next }) first Done
  order_settles true e =
      settles_part waiting_again (ranked.own_of (order_of u)) (making_owed d) (λ p. record { table = d; order = Some (StructureOp.Again p); banks = Some (StructureOp.Put (put_start (trio_of (rounds_of d g)) (PutPart.Commit (bank_number b)))); deeds = ys; after = next }) (λ ws. bank_next)
      (again_part d fits (ranked.own_of (order_of u)) own_order (Some (StructureOp.Put (put_start (trio_of (rounds_of d g)) (PutPart.Commit (bank_number b))))) ys next) (λ k i. word_there d fits k (own_order k i)) (λ k ws. HoldsOrder (order_of u) k (waiting (entry g) true (unit_was d fits below chip w s u g b few alone x is h).order.0) × (ws ≡ [])) Done
      2 (again_start (order_of u) (entry g)) first first_whole (again-ends (order_of u) (entry g) (word_of first) (unit_was d fits below chip w s u g b few alone x is h).order.0 (subst (λ n. n < 16) (sym entry_is) small) xs_first)
      (λ a ws differs dd. bank_comes a differs (subst (λ q. HoldsOrder (order_of u) (word_of a) (if q then waiting g true (unit_was d fits below chip w s u g b few alone x is h).order.0 else left_of g (unit_was d fits below chip w s u g b few alone x is h).order.0)) (sym e) (subst (λ n. HoldsOrder (order_of u) (word_of a) (waiting n true (unit_was d fits below chip w s u g b few alone x is h).order.0)) entry_is dd.0)))
  order_settles false e =
      settles_part dropping (ranked.own_of (order_of u)) (making_owed d) (λ p. record { table = d; order = Some (StructureOp.Drop p); banks = Some (StructureOp.Put (put_start (trio_of (rounds_of d g)) (PutPart.Commit (bank_number b)))); deeds = ys; after = next }) (λ ws. bank_next)
      (drop_part d fits (ranked.own_of (order_of u)) own_order (Some (StructureOp.Put (put_start (trio_of (rounds_of d g)) (PutPart.Commit (bank_number b))))) ys next) (λ k i. word_there d fits k (own_order k i)) (λ k ws. HoldsOrder (order_of u) k (left_of (entry g) (unit_was d fits below chip w s u g b few alone x is h).order.0) × (ws ≡ [])) Done
      (if nat_lt 8 (length (unit_was d fits below chip w s u g b few alone x is h).order.0) then 6 else 4) (drop_start (order_of u) (entry g)) first first_whole (drop-ends (order_of u) (entry g) (word_of first) (unit_was d fits below chip w s u g b few alone x is h).order.0 xs_first listed)
      (λ a ws differs dd. bank_comes a differs (subst (λ q. HoldsOrder (order_of u) (word_of a) (if q then waiting g true (unit_was d fits below chip w s u g b few alone x is h).order.0 else left_of g (unit_was d fits below chip w s u g b few alone x is h).order.0)) (sym e) (subst (λ n. HoldsOrder (order_of u) (word_of a) (left_of n (unit_was d fits below chip w s u g b few alone x is h).order.0)) entry_is dd.0)))
    where
      listed : is_there (entry g) (unit_was d fits below chip w s u g b few alone x is h).order.0 ≡ true
      listed = ap (λ n. is_there n (unit_was d fits below chip w s u g b few alone x is h).order.0) entry_is ∙ ((unit_was d fits below chip w s u g b few alone x is h).order.2.there g ∙ (ap (λ q. q && is_on u (group_of d g)) (turn_was d fits below chip w s u g b few alone x is h) ∙ in_group))

  -- ---- the step

  serves : happens d w s (Serves (24 + u) 0) ≡ Some (outcome t (record { answer = no_answer; error = None; notices = notes on g }))
  serves =
      serves_round d w s g u few small (past d fits below chip w s u g b few alone x is h) x 0 h.right.0.1 is (group_is d fits below chip w s u g b few alone x is h) (finished d fits below chip w s u g b few alone x is h)
      ∙ (ap (λ q. Some (outcome (served d s g u few small (past d fits below chip w s u g b few alone x is h) x.request.number (values_of w (group_of d g) x) q (is_continuous (group_of d g))) (record { answer = no_answer; error = None; notices = notes (group_at s g).notification g }))) ef
      ∙ (ap (λ q. Some (outcome (served d s g u few small (past d fits below chip w s u g b few alone x is h) x.request.number (values_of w (group_of d g) x) full q) (record { answer = no_answer; error = None; notices = notes (group_at s g).notification g }))) ec
      ∙ ap (λ q. Some (outcome t (record { answer = no_answer; error = None; notices = notes q g }))) notified))

  may_copy : (q : Bool) → MayCopy d below (Tells u g q) (Entered (24 + u)) (past_after (adc_machine d) w s (Entered (24 + u)) (Event.Serve (24 + u)) (record { answer = no_answer; error = None; notices = notes q g }) fresh_history)
  may_copy true = (Is_this_frame, at_unit, few, in_group)
  may_copy false = (Is_this_frame, at_unit, few, in_group)

  abbrev body : WriteBatch → AdcBody
  body k = record { table = d; place = Makes k }

  abbrev made : WriteBatch
  made = serving_by d u g b count place phase (con && not full) (full && is_some (trigger_input (group_of d g))) (record { group = g; second = second; samples = samples_of (group_of d g); place = length (group_at s g).rounds % samples_of (group_of d g) }) on

  pub act_right : RightOr (AdcGround d) (adc_bodies d f r) below chip w s (record { table = d; place = Makes (serving_by d u g b count place phase (con && not full) (full && is_some (trigger_input (group_of d g))) (record { group = g; second = second; samples = samples_of (group_of d g); place = length (group_at s g).rounds % samples_of (group_of d g) }) on) }) (Entered (24 + u)) y fresh_history m
      (ended_at (adc_bodies d f r) body_ends (record { table = d; place = Makes (serving_by d u g b count place phase (con && not full) (full && is_some (trigger_input (group_of d g))) (record { group = g; second = second; samples = samples_of (group_of d g); place = length (group_at s g).rounds % samples_of (group_of d g) }) on) })
      (value_of chip (body_work (record { table = d; place = Makes (serving_by d u g b count place phase (con && not full) (full && is_some (trigger_input (group_of d g))) (record { group = g; second = second; samples = samples_of (group_of d g); place = length (group_at s g).rounds % samples_of (group_of d g) }) on) }))))
  act_right =
      steps_so d f r below chip w s m y line fresh_history (body made) (body (record made { made = 1 })) (step (Some (Event.Serve (24 + u))))
      (first_takes d (Event.Serve (24 + u)) deed (WindowWrite.Set (Word.Running u) 0) (WindowWrite.Set (Word.Count g) count ∷ WindowWrite.Set (Word.Place g) place ∷ WindowWrite.Set (Word.Phase g) phase ∷ turn_deed g again ∷ (off_where off (trigger_bit d g) ++ WindowWrite.Set (Word.Claim u) 0 ∷ [])) (Some (turn_shape u g again)) (Some (StructureOp.Put (put_start (trio_of (rounds_of d g)) (PutPart.Commit (bank_number b))))) next (value_of chip (deed_move d deed))) refl (record {
        may = (refl, refl);
        stands = tt;
        state = t;
        told = record { answer = no_answer; error = None; notices = notes on g };
        begins = None;
        is = serves;
        sends = tt;
        acts = tt;
        reset = refl;
        next = (order_settles again refl, (refl, ((refl, refl, refl, mod-lt (length (group_at s g).rounds) (some_samples d fits g here)), some_inputs d fits g here, may_copy on)));
      })

-- ---- A handler that is about to serve its round serves it rightly, by the words that its window has seen.

-- ---- what the words tell

chosen_is : (o : Option ResultBuffer) (n : ℕ) → is_some o ≡ true → n ≡ chosen_of o → o ≡ Some (buffer_by (n == 2))
chosen_is None n some e = absurd (cc)
chosen_is (Some Zero) n some e = subst (λ k. Some Zero ≡ Some (buffer_by (k == 2))) (sym e) refl
chosen_is (Some One) n some e = subst (λ k. Some One ≡ Some (buffer_by (k == 2))) (sym e) refl

notified_is : (q : Bool) (n : ℕ) → n ≡ bit_of q → q ≡ (n == 1)
notified_is true n e = subst (λ k. true ≡ (k == 1)) (sym e) refl
notified_is false n e = subst (λ k. false ≡ (k == 1)) (sym e) refl

goes_on : (con wired full : Bool) → con && not full || wired && not full ≡ (con || wired) && not full
goes_on true true true = refl
goes_on true false true = refl
goes_on true wired false = refl
goes_on false wired full = refl

module _ (d : AdcTable) (fits : FitsAdc d) (f r : AdcBody → ℕ) (below : Reservations) (chip : Chip) (w : World) (s : AdcState) (m : ℕ → Bool) (y : ℕ) (t : Taken) (few : t.unit < 2) (alone : IsAlone (24 + t.unit) below) (x : Round) (is : round_at s t.unit ≡ Some x) where
  abbrev k : Option Group
  k = group_of d t.group

  abbrev seen : RoundSeen
  seen = round_words d (foot_of chip) t

  abbrev many : ℕ
  many = counted d (foot_of chip) t

  abbrev full : Bool
  full = is_full (group_of d t.group) (counted d (foot_of chip) t)

  -- the serving, by whether there is anything to copy
  abbrev serving_with : Bool → WriteBatch
  serving_with q = record (serving d t (round_words d (foot_of chip) t) (counted d (foot_of chip) t) (is_full (group_of d t.group) (counted d (foot_of chip) t))) {
    after = Continuation.Goes (copies_or (if q then None else Some (record { what = copied.Bank (rounds_of d t.group) t.bank (column_of d t.group (round_words d (foot_of chip) t)); done = 0; value = None })) (Tells t.unit t.group ((round_words d (foot_of chip) t).notified == 1)) (Outside.Closes (Window.Begin t.unit)));
  }

  abbrev ServesRight : WriteBatch → Type 0
  ServesRight z = RightOr (AdcGround d) (adc_bodies d f r) below chip w s (record { table = d; place = Makes z }) (Entered (24 + t.unit)) y fresh_history m (ended_at (adc_bodies d f r) body_ends (record { table = d; place = Makes z }) (value_of chip (body_work (record { table = d; place = Makes z }))))

  module _ (h : Agrees d (claiming t.unit (Full t.unit t.group t.bank) below) chip w s) where
    configured : is_some (group_of d t.group) ≡ true
    configured = on_there t.unit (group_of d t.group) h.right.0.2

    some : 0 < samples_of (group_of d t.group)
    some = some_samples d fits t.group configured

    few_samples : samples_of (group_of d t.group) ≤ 64
    few_samples = by (group_of d t.group) refl configured
      where
        by : (k : Option Group) → group_of d t.group ≡ k → is_some k ≡ true → samples_of k ≤ 64
        by None e i = absurd (cc)
        by (Some k) e i = (fits.groups t.group k e).places.1

    was : GroupAgrees d (word_of chip) s t.group
    was = (h.settled h.right.0.1).groups t.group configured

    turned : has_turn s t.group ≡ true
    turned = turn_was d fits below chip w s t.unit t.group t.bank few alone x is h

    sound : SoundGroup (group_of d t.group) (has_turn s t.group) (group_at s t.group)
    sound = h.sound.groups t.group

    awake : (group_at s t.group).status ≢ Idle
    awake e = absurd (let off = sound.turn e in let on = turned in cc)

    abbrev n : ℕ
    n = length (group_at s t.group).rounds

    place_seen : seen.place ≡ length (group_at s t.group).rounds % samples_of (group_of d t.group)
    place_seen = was.place awake

    full_is : is_full (group_of d t.group) (length (group_at s t.group).rounds + 1) ≡ full
    full_is = sym (ap (λ i. is_full (group_of d t.group) (one_more i (samples_of (group_of d t.group)))) (was.count awake) ∙ full_after (group_of d t.group) (length (group_at s t.group).rounds))

    count_is : many ≡ min (length (group_at s t.group).rounds + 1) (samples_of (group_of d t.group))
    count_is = ap (λ i. one_more i (samples_of (group_of d t.group))) (was.count awake) ∙ count_after (length (group_at s t.group).rounds) (samples_of (group_of d t.group))

    place_is : following seen.place (samples_of (group_of d t.group)) ≡ (length (group_at s t.group).rounds + 1) % samples_of (group_of d t.group)
    place_is = ap (λ i. following i (samples_of (group_of d t.group))) place_seen ∙ place_after (length (group_at s t.group).rounds) (samples_of (group_of d t.group)) some few_samples

    -- its trigger is on where it has one
    heard : (group_at s t.group).trigger ≡ is_some (trigger_input (group_of d t.group))
    heard = both_ways (group_at s t.group).trigger (is_some (trigger_input (group_of d t.group))) sound.input (h.sound.hears t.group turned)

    phase_is : phase_number (phase_after d t.group seen full) ≡ phase_of (status_after (length (group_at s t.group).rounds % samples_of (group_of d t.group) + 1 == samples_of (group_of d t.group)) (group_at s t.group).status) (is_continuous (group_of d t.group) && not full || (group_at s t.group).trigger && not full)
    phase_is =
        ap (λ q. phase_number (if q || is_streamed (phase_in seen.phase) then phase_on ((is_continuous (group_of d t.group) || is_some (trigger_input (group_of d t.group))) && not full) else Phase.Completed))
        (ap (λ i. following i (samples_of (group_of d t.group)) == 0) place_seen ∙ last_after (length (group_at s t.group).rounds) (samples_of (group_of d t.group)) some few_samples)
        ∙ (ap (λ v. phase_number (if (length (group_at s t.group).rounds % samples_of (group_of d t.group) + 1 == samples_of (group_of d t.group)) || is_streamed (phase_in v) then phase_on ((is_continuous (group_of d t.group) || is_some (trigger_input (group_of d t.group))) && not full) else Phase.Completed)) was.phase
        ∙ (phase_served (group_at s t.group).status (has_turn s t.group || (group_at s t.group).trigger) (length (group_at s t.group).rounds % samples_of (group_of d t.group) + 1 == samples_of (group_of d t.group)) ((is_continuous (group_of d t.group) || is_some (trigger_input (group_of d t.group))) && not full) awake
        ∙ ap (λ q. phase_of (status_after (length (group_at s t.group).rounds % samples_of (group_of d t.group) + 1 == samples_of (group_of d t.group)) (group_at s t.group).status) q)
        (sym (ap (λ q. is_continuous (group_of d t.group) && not full || q && not full) heard ∙ goes_on (is_continuous (group_of d t.group)) (is_some (trigger_input (group_of d t.group))) full))))

    at_place : limited seen.place 64 ≡ length (group_at s t.group).rounds % samples_of (group_of d t.group)
    at_place = ap (λ i. limited i 64) place_seen ∙ ap (λ q. if q then length (group_at s t.group).rounds % samples_of (group_of d t.group) else 64) small
      where
        small : nat_lt (length (group_at s t.group).rounds % samples_of (group_of d t.group)) 64 ≡ true
        small = let lt = mod-lt (length (group_at s t.group).rounds) some in let most = few_samples in let less : length (group_at s t.group).rounds % samples_of (group_of d t.group) < 64 = omega (arith, lt, most) in grind (arith, nat_tests)

    abbrev by_place : ℕ → WriteBatch
    by_place p = serving_by d t.unit t.group t.bank (counted d (foot_of chip) t) (following seen.place (samples_of (group_of d t.group))) (phase_number (phase_after d t.group (round_words d (foot_of chip) t) (is_full (group_of d t.group) (counted d (foot_of chip) t)))) (is_continuous (group_of d t.group) && not (is_full (group_of d t.group) (counted d (foot_of chip) t)))
        (is_full (group_of d t.group) (counted d (foot_of chip) t) && is_some (trigger_input (group_of d t.group))) (record { group = t.group; second = seen.chosen == 2; samples = samples_of (group_of d t.group); place = p }) (seen.notified == 1)

    serves_now : ServesRight (serving_with false)
    serves_now = subst (λ p. ServesRight (by_place p)) (sym at_place)
        (act_right d fits f r below chip w s m y t.unit t.group t.bank few alone x is h full (is_continuous (group_of d t.group)) full_is refl many (following seen.place (samples_of (group_of d t.group))) (phase_number (phase_after d t.group (round_words d (foot_of chip) t) (is_full (group_of d t.group) (counted d (foot_of chip) t)))) count_is place_is phase_is
        (seen.chosen == 2) (chosen_is (group_at s t.group).chosen seen.chosen (sound.chosen awake) was.chosen) (seen.notified == 1) (notified_is (group_at s t.group).notification seen.notified was.notified))

  -- there is something to copy, since the group has inputs
  serves_by : (q : Bool) → (length (inputs_of (group_of d t.group)) == 0) ≡ q → is_some (group_of d t.group) ≡ true → Agrees d (with_holds (Entered (24 + t.unit)) None (hold_served (serving_with q).after) below) chip w s → ServesRight (serving_with q)
  serves_by false e here h = serves_now h
  serves_by true e here h = absurd (let some = some_inputs d fits t.group here in let off = eq_other (length (inputs_of (group_of d t.group))) 0 (λ i. omega (arith, some, i)) in let no : true ≡ false = sym e ∙ off in cc)

-- at any place that may serve
module _ (d : AdcTable) (fits : FitsAdc d) (f r : AdcBody → ℕ) (below : Reservations) (chip : Chip) (w : World) (s : AdcState) (m : ℕ → Bool) (y : ℕ) where
  abbrev StepRight : WriteBatch → Origin Call → FrameHistory → Type 0
  StepRight k o p = RightOr (AdcGround d) (adc_bodies d f r) below chip w s (record { table = d; place = Makes k }) o y p m (ended_at (adc_bodies d f r) body_ends (record { table = d; place = Makes k }) (value_of chip (body_work (record { table = d; place = Makes k }))))

  pub serve_makes : (k : WriteBatch) (o : Origin Call) (p : FrameHistory) → MayServe d below (foot_of chip) s o p k → Agrees d (with_holds o p.acted (hold_served k.after) below) chip w s → StepRight k o p
  serve_makes k o p may h = by may.0 may.1 o p may.2 may.3 may.4 may.5 may.6 may.7 h
    where
      by : (t : Taken) (x : Round) (o : Origin Call) (p : FrameHistory) → IsServing (24 + t.unit) o p → t.unit < 2 → IsAlone (24 + t.unit) below → is_some (group_of d t.group) ≡ true → round_at s t.unit ≡ Some x → k ≡ serving d t (round_words d (foot_of chip) t) (counted d (foot_of chip) t) (is_full (group_of d t.group) (counted d (foot_of chip) t))
          → Agrees d (with_holds o p.acted (hold_served k.after) below) chip w s → StepRight k o p
      by t x _ _ Is_this_frame few alone here is e h =
          subst (λ z. StepRight z (Entered (24 + t.unit)) fresh_history) (sym e)
          (serves_by d fits f r below chip w s m y t few alone x is (length (inputs_of (group_of d t.group)) == 0) refl here (subst (λ (z : WriteBatch). Agrees d (with_holds (Entered (24 + t.unit)) None (hold_served z.after) below) chip w s) e h))
