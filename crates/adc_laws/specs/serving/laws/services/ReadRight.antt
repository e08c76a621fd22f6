-- Adc_ReadGroup reads the bank that it has pinned, whatever interrupts, ends the pin, and answers all values of one round.
-- From adc_groups: services.BodySteps, adc_groups: words.WordsOfModule, words.ControlWord and 5 more.
-- Used by adc_driver: services.AllSteps, adc_driver: services.BeginSteps.
use Rattle.std.proofs.Common.{◌≡◌, ◌+◌, ◌%◌, ◌<◌, ◌≤◌, ◌&&◌, ◌==◌, [], ◌∷◌, ◌++◌, ◌∙◌, if◌then◌else◌}
use Rattle.adc_laws.specs.serving.Terms
use Terms.{adc_bodies, adc_setting, AdcBody, AdcGround, AdcState, AdcTable, Agrees, AllRight, Answer, ap, arith}
use Terms.{AssertedAt, Bank, bank_number, bank_word, bare_right, Beside, blocks, body_ends, body_work, Bool, Call}
use Terms.{Called, Chip, chip_after, class_of, ended_at, ended_by, EOk, eq_is, eq_self, false, few_inputs, first_held}
use Terms.{FitsAdc, FrameHistory, fresh_history, goes, group_of, has_read, HeldRight, holds_anew, inputs_of}
use Terms.{Is_this_frame, IsOnlyReader, IsReading, IsReleasing, length, length_push, List, mark_of, Mask, named_with}
use Terms.{nat_lt, nat_tests, None, not, Option, or_else, Origin, Out, Outside, read_more, ReadGroup, Reads}
use Terms.{ReadsPlace, refl, Reservation, Reservations, ReservedBy, RightOr, Rounds, rounds_of, slice_index, Some}
use Terms.{some_inputs, Stage, stage_read, steps_so, Store, subst, sym, Take, take, take_all, take_of, trio_of, true}
use Terms.{Unmask, value_of, whether_as, whole_word, word_of, World, ℕ}
use Rattle.adc_laws.specs.serving.laws.words.ControlWord.{reader, release_agrees}
use Rattle.std.proofs.lemmas.List.{take_more as one_more}

abbrev words_in : Option Answer → List ℕ
words_in None = []
words_in (Some a) = a.words

-- the frame has read one more value of its bank
module _ (d : AdcTable) (g : ℕ) (b : Bank) (vs us whole : List ℕ) (below : Reservations) (chip : Chip) (w : World) (s : AdcState) (h : Agrees d (reader g b vs whole ∷ below) chip w s) where
  answered_whole : whole ≡ h.right.0.3.whole
  answered_whole = ap words_in h.right.0.3.answered

  pub value_read : length vs < length (inputs_of (group_of d g)) → word_of chip (bank_word (rounds_of d g) b (length vs)) ≡ slice_index whole (length vs)
  value_read lt = whole_word (trio_of (rounds_of d g)) (word_of chip) (bank_number b) (length vs) h.right.0.3.whole lt h.right.0.3.bank ∙ ap (λ xs. slice_index xs (length vs)) (sym answered_whole)

  pub count_read : length whole ≡ length (inputs_of (group_of d g))
  count_read = ap length answered_whole ∙ h.right.0.3.bank.0

  pub front_read : vs ≡ take (length vs) whole
  front_read = h.right.0.3.front ∙ ap (λ xs. take (length vs) xs) (sym answered_whole)

  pub reads_agree : us ≡ take (length us) whole → Agrees d (reader g b us whole ∷ below) chip w s
  reads_agree front = holds_anew h (record { puts = λ k. refl; takes = λ k. refl; owed = λ k n p lt free. free; claims = λ n v e. e; clears = λ e. e })
      ((h.right.0.0, h.right.0.1, h.right.0.2, (let q = h.right.0.3 in record { whole = q.whole; answered = q.answered; pinned = q.pinned; bank = q.bank; front = front ∙ ap (λ xs. take (length us) xs) answered_whole })), h.right.1)
      (λ u e. absurd (cc), h.backed.1) (λ n z. record { starts = z.starts; yields = z.yields })

module _ (d : AdcTable) (fits : FitsAdc d) (f r : AdcBody → ℕ) (below : Reservations) (chip : Chip) (w : World) (s : AdcState) (m : ℕ → Bool) (y : ℕ) (g : ℕ) (b : Bank) where
  abbrev at : List ℕ → Stage → AdcBody
  at vs z = record { table = d; place = ReadsPlace (record { group = g; reading = record { rounds = rounds_of d g; bank = b; values = vs }; stage = z }) }

  abbrev StepRight : List ℕ → Stage → List ℕ → Type 0
  StepRight vs z whole = RightOr (AdcGround d) (adc_bodies d f r) below chip w s (at vs z) (Called (Call.Group g ReadGroup)) y (record fresh_history { acted = Some (named_with EOk whole) }) m (ended_at (adc_bodies d f r) body_ends (at vs z) (value_of chip (body_work (at vs z))))

  -- ---- with the mask open

  module _ (vs whole : List ℕ) (alone : IsOnlyReader g below) (lt : length vs < length (inputs_of (group_of d g))) (h : Agrees d (reader g b vs whole ∷ below) chip w s) where
    abbrev x : ℕ
    x = word_of chip (bank_word (rounds_of d g) b (length vs))

    few : nat_lt (length vs) 32 ≡ true
    few = let most = few_inputs d fits g h.right.0.2 in let less : length vs < 32 = omega (arith, lt, most) in grind (arith, nat_tests)

    more : read_more (record { rounds = rounds_of d g; bank = b; values = vs }) x ≡ record { rounds = rounds_of d g; bank = b; values = vs ++ x ∷ [] }
    more = ap (λ q. if q then record { rounds = rounds_of d g; bank = b; values = vs ++ x ∷ [] } else record { rounds = rounds_of d g; bank = b; values = vs }) few

    long : length (vs ++ x ∷ []) ≡ length vs + 1
    long = length_push vs x

    front : vs ++ x ∷ [] ≡ take (length (vs ++ x ∷ [])) whole
    front =
        let less : length vs < length whole = (let all = count_read d g b vs vs whole below chip w s h in omega (arith, lt, all)) in
        ap (λ us. us ++ x ∷ []) (front_read d g b vs vs whole below chip w s h) ∙ (ap (λ n. take (length vs) whole ++ n ∷ []) (value_read d g b vs vs whole below chip w s h lt) ∙ (sym (one_more whole (length vs) 0 less) ∙ ap (λ n. take n whole) (sym long)))

    -- all was read where no value is left
    is_over : (a n : ℕ) → n ≤ 32 → not (nat_lt a n && nat_lt a 32) ≡ true → n ≤ a
    is_over a n most e = grind (arith, nat_tests)

    is_under : (a n : ℕ) → not (nat_lt a n && nat_lt a 32) ≡ false → a < n
    is_under a n e = grind (arith, nat_tests)

    abbrev next : Bool → AdcBody
    next z = at (vs ++ x ∷ []) (stage_read z)

    stands_next : (z : Bool) → has_read (record { rounds = rounds_of d g; bank = b; values = vs ++ x ∷ [] }) ≡ z → AssertedAt (AdcGround d) (adc_bodies d f r) below chip w s (next z) (Called (Call.Group g ReadGroup)) (record fresh_history { acted = Some (named_with EOk whole) })
    stands_next true e =
        let over = is_over (length (vs ++ x ∷ [])) (length (inputs_of (group_of d g))) (few_inputs d fits g h.right.0.2) e in
        let all = count_read d g b vs vs whole below chip w s h in
        let same : whole ≡ vs ++ x ∷ [] = sym (front ∙ take_all (length (vs ++ x ∷ [])) whole (omega (arith, over, all))) in
        (reads_agree d g b vs (vs ++ x ∷ []) whole below chip w s h front, (refl, (refl, alone, subst (λ us. IsReading d g us (Called (Call.Group g ReadGroup)) (record fresh_history { acted = Some (named_with EOk whole) })) same Is_this_frame)))
    stands_next false e = (reads_agree d g b vs (vs ++ x ∷ []) whole below chip w s h front, (refl, (refl, is_under (length (vs ++ x ∷ [])) (length (inputs_of (group_of d g))) e, alone, (whole, Is_this_frame))))

    none_ends : (z : Bool) → ended_by (body_ends (next z)) None ≡ None
    none_ends true = refl
    none_ends false = refl

    pub reads_right : StepRight vs Stage.Reads whole
    reads_right =
        steps_so d f r below chip w s m y (Called (Call.Group g ReadGroup)) (record fresh_history { acted = Some (named_with EOk whole) }) (at vs Stage.Reads) (next (has_read (record { rounds = rounds_of d g; bank = b; values = vs ++ x ∷ [] }))) goes
        (ap (λ q. (record { table = d; place = ReadsPlace (record { group = g; reading = q; stage = stage_read (has_read q) }) }, goes)) more) (none_ends (has_read (record { rounds = rounds_of d g; bank = b; values = vs ++ x ∷ [] }))) (stands_next (has_read (record { rounds = rounds_of d g; bank = b; values = vs ++ x ∷ [] })) refl)

  -- it has read all, and closes the mask
  pub shuts_right : (vs : List ℕ) → IsOnlyReader g below → Agrees d (reader g b vs vs ∷ below) chip w s → StepRight vs Stage.Shuts vs
  shuts_right vs alone h = ((bare_right d fits).agrees_apart (reader g b vs vs ∷ below) chip w s Mask y (λ origin. refl) h, (refl, (refl, alone, Is_this_frame, refl)))

  -- the pin ends
  pub releases_right : (vs : List ℕ) (t : Take) → IsOnlyReader g below → IsReleasing d g (word_of chip) t → Agrees d (reader g b vs vs ∷ below) chip w s → StepRight vs (Stage.Releases t) vs
  releases_right vs (Take.Release c) alone e h = (h, (refl, (refl, alone, Is_this_frame, (e, refl))))
  releases_right vs (Take.Free c v) alone e h =
      let freed = release_agrees d fits g h.right.0.2 chip w s below h.right.0.1 alone b vs vs h in
      (subst (λ k. Agrees d below (chip_after chip (Store c k) 0) w s) (sym e.1) (subst (λ k. Agrees d below (chip_after chip (Store k (word_of chip k % 4)) 0) w s) (sym e.0) freed), (refl, Is_this_frame))
  releases_right vs _ alone e h = absurd e

  -- each step of a call that reads is right
  abbrev reading_body : Rounds → List ℕ → Stage → AdcBody
  reading_body rs vs z = record { table = d; place = ReadsPlace (record { group = g; reading = record { rounds = rs; bank = b; values = vs }; stage = z }) }

  abbrev StepAt : Rounds → List ℕ → Stage → Origin Call → FrameHistory → Type 0
  StepAt rs vs z o p = RightOr (AdcGround d) (adc_bodies d f r) below chip w s (reading_body rs vs z) o y p m (ended_at (adc_bodies d f r) body_ends (reading_body rs vs z) (value_of chip (body_work (reading_body rs vs z))))

  pub read_step : (rs : Rounds) (vs : List ℕ) (z : Stage) (o : Origin Call) (p : FrameHistory) → AssertedAt (AdcGround d) (adc_bodies d f r) below chip w s (reading_body rs vs z) o p → StepAt rs vs z o p
  read_step rs vs Stage.Reads o p (h, (same, (is, lt, alone, (whole, Is_this_frame)))) = subst (λ q. StepAt q vs Stage.Reads (Called (Call.Group g ReadGroup)) (record fresh_history { acted = Some (named_with EOk whole) })) (sym is) (reads_right vs whole alone (subst (λ (q : Rounds). length vs < q.inputs) is lt) h)
  read_step rs vs Stage.Shuts o p (h, (same, (is, alone, Is_this_frame))) = subst (λ q. StepAt q vs Stage.Shuts (Called (Call.Group g ReadGroup)) (record fresh_history { acted = Some (named_with EOk vs) })) (sym is) (shuts_right vs alone h)
  read_step rs vs (Stage.Releases t) o p (h, (same, (is, alone, Is_this_frame, e))) = subst (λ q. StepAt q vs (Stage.Releases t) (Called (Call.Group g ReadGroup)) (record fresh_history { acted = Some (named_with EOk vs) })) (sym is) (releases_right vs t alone e h)
  read_step rs vs Stage.Leaves o p (h, (same, Is_this_frame)) = (refl, (bare_right d fits).agrees_apart below chip w s Unmask y (λ origin. refl) h, record { may = (refl, refl); served = false; owed = refl; shown = λ e. absurd (cc); report = refl })
  read_step rs vs Stage.Over o p (h, (same, none)) = absurd none

  -- where the mask is open before the first value is read
  abbrev begin_body : AdcBody
  begin_body = record { table = d; place = Out (Outside.Reads g b) }

  pub reads_begin : (o : Origin Call) (p : FrameHistory) → AssertedAt (AdcGround d) (adc_bodies d f r) below chip w s (record { table = d; place = Out (Outside.Reads g b) }) o p
      → RightOr (AdcGround d) (adc_bodies d f r) below chip w s (record { table = d; place = Out (Outside.Reads g b) }) o y p m (ended_at (adc_bodies d f r) body_ends (record { table = d; place = Out (Outside.Reads g b) }) (value_of chip (body_work (record { table = d; place = Out (Outside.Reads g b) }))))
  reads_begin o p (h, (same, (alone, (whole, Is_this_frame)))) =
      steps_so d f r below chip w s m y (Called (Call.Group g ReadGroup)) (record fresh_history { acted = Some (named_with EOk whole) }) begin_body (at [] Stage.Reads) goes refl refl
      (h, (refl, (refl, some_inputs d fits g h.right.0.2, alone, (whole, Is_this_frame))))

-- ---- A call of Adc_ReadGroup begins above no other one of its group, since it has the group as its key.

module _ (d : AdcTable) (chip : Chip) (w : World) (s : AdcState) (g : ℕ) where
  abbrev Free : Origin Call → Type 0
  Free o = blocks (class_of (Call.Group g ReadGroup)) (mark_of (adc_setting d) o) ≡ false

  -- another call of the group would keep it off
  kept_off : Free (Called (Call.Group g ReadGroup)) → ⊥
  kept_off free = absurd (let on = eq_self g in let off : (g == g) ≡ false = free in cc)

  not_read : (x : ReservedBy Call Reservation) (z : Reservation) → HeldRight d chip w s x z → Free x.by → take_of g z ≡ None
  not_read x (Reads k b vs) right free = whether_as (g == k) (λ q. (if q then Some (bank_number b) else None) ≡ None)
      (λ e. absurd (kept_off (subst Free (right.0 ∙ ap (λ n. Called (Call.Group n ReadGroup)) (sym (eq_is g k e))) free)))
      (λ e. refl)
  not_read x _ right free = refl

  pub only_reader : (hs : Reservations) → AllRight d chip w s hs → Beside (adc_setting d) (Called (Call.Group g ReadGroup)) hs → IsOnlyReader g hs
  only_reader [] right beside = refl
  only_reader (x ∷ xs) right beside = ap (λ o. or_else o (first_held (take_of g) xs)) (not_read x x.what right.0 beside.0) ∙ only_reader xs right.1 beside.1
