-- A claim on a unit ends with the frame that has it: nothing waits for the unit any more, or what waits starts.
-- From adc_groups: words.WordsChange, adc_groups: bookkeeping.FrameRule, adc_groups: services.BodySteps and 4 more.
-- Used by services.AbortRight, services.KeepRight, words.BegunWords, adc_driver: services.AllSteps and 1 more.
use Rattle.std.proofs.Common.{◌≡◌, ◌≢◌, ◌+◌, ◌/◌, ◌%◌, ◌<◌, ◌&&◌, ◌||◌, [], ◌∷◌, ◌∙◌, if◌then◌else◌}
use Rattle.adc_laws.specs.turns.Terms
use Terms.{adc_bodies, adc_machine, AdcBody, AdcGround, AdcState, AdcTable, Agrees, all_stay, AllSpare, Answer, ap}
use Terms.{arith, banks_stay, body_ends, body_work, Bool, Call, cases, Chip, chip_after, claim_fits, claim_now}
use Terms.{claim_other, claim_past, claim_right, claim_stays_below, claimed_parts, Claims, claims_on, core_claim}
use Terms.{CoreStays, done, drop_starts, ended_at, Entered, false, FitsAdc, FrameHistory, fresh_history, group_of}
use Terms.{group_word, HasWords, hold_in, is_done, Is_this_frame, kept_claimed, kept_within, MaySeek, MayStop}
use Terms.{missed_after, next_group, no_answer, None, not, Option, Origin, place_claimed, Quits, ready, refl}
use Terms.{Reservations, ResultBuffer, RightOr, round_at, same_or_other, some_hold, Starts, starts, starts_by}
use Terms.{stays_agree, Store, subst, suc, sym, trio_claimed, true, unit_of, value_of, whether_as, Window, with_holds}
use Terms.{Word, word_number, word_of, World, ℕ}
use Rattle.adc_machine.specs.Machine.{place_value}
use Rattle.mcal_base.specs.facts.Truths.{and_false}
use Rattle.std.proofs.lemmas.Bool.{or_parts, or_right}

-- ---- claims

-- where no frame claims a unit its word is 0
pub claim_none : (u : ℕ) (hs : Reservations) → some_hold (claims_on u) hs ≡ false → claim_right hs u 0 ≡ true
claim_none u [] e = refl
claim_none u (x ∷ xs) e =
    whether_as (claims_on u x.what) (λ q. q || some_hold (claims_on u) xs ≡ false → (if q then claim_fits x.what 0 && not (some_hold (claims_on u) xs) else claim_right xs u 0) ≡ true) (λ _ f. absurd (cc)) (λ _ f. claim_none u xs f) e

-- and where it is 0 then, and the words of other units stay, all claims are right
pub claims_left : (d : AdcTable) (u : ℕ) (hs : Reservations) (a b : Chip) → some_hold (claims_on u) hs ≡ false → word_of b (word_number d (Word.Claim u)) ≡ 0 → ((v : ℕ) → v < 2 → v ≢ u → word_of b (word_number d (Word.Claim v)) ≡ word_of a (word_number d (Word.Claim v)))
    → ((v : ℕ) → v < 2 → v ≢ u → claim_right hs v (word_of a (word_number d (Word.Claim v))) ≡ true) → (v : ℕ) → v < 2 → claim_right hs v (word_of b (word_number d (Word.Claim v))) ≡ true
claims_left d u hs a b none zero same was v less = cases (same_or_other v u)
    (λ e. subst (λ n. claim_right hs n (word_of b (word_number d (Word.Claim n))) ≡ true) (sym e) (subst (λ n. claim_right hs u n ≡ true) (sym zero) (claim_none u hs none)))
    (λ ne. subst (λ n. claim_right hs v n ≡ true) (sym (same v less ne)) (was v less ne))

-- what frames hold that claim nothing of a unit isn't touched by a change of it and of a group whose control word and places stay
pub unclaimed_spare : (d : AdcTable) (a b : Chip) (s t : AdcState) (g u : ℕ) → word_of b (group_word d g 7) ≡ word_of a (group_word d g 7) → ((m : ResultBuffer) (p : ℕ) → place_value t g m p ≡ place_value s g m p) → (hs : Reservations) → some_hold (claims_on u) hs ≡ false → AllSpare d a b s t g u hs
unclaimed_spare d a b s t g u control places [] free = tt
unclaimed_spare d a b s t g u control places (z ∷ zs) free =
    let k = or_parts (claims_on u z.what) (some_hold (claims_on u) zs) free in
    (record { rounds = λ i. absurd (let off = k.0 in cc); unkept = λ i. absurd (let off = k.0 in cc); lost = λ i. absurd (let off = k.0 in cc); copies = λ n c j x i e. (ap (λ v. v % 4) control, places); reads = λ k n vs i e. ap (λ v. v / 4) control }, unclaimed_spare d a b s t g u control places zs k.1)

-- ---- the word of a claim becomes 0, and the frame claims no more

module _ (d : AdcTable) (fits : FitsAdc d) (u : ℕ) (few : u < 2) (chip : Chip) (w : World) (s : AdcState) (on : s.initialised ≡ true) where
  abbrev b : Chip
  b = chip_after chip (Store (word_number d (Word.Claim u)) 0) 0

  module _ (o : Origin Call) (a : Option Answer) (hs : Reservations) (h : Agrees d (record { by = o; what = Claims u; acted = a } ∷ hs) chip w s) where
    parts : (word_of chip (word_number d (Word.Claim u)) ≡ 1) × (some_hold (claims_on u) hs ≡ false)
    parts = claimed_parts u (word_of chip (word_number d (Word.Claim u))) hs (claim_right hs u (word_of chip (word_number d (Word.Claim u)))) ((h.settled on).claims u few)

    whole : HasWords chip
    whole = h.outside.all.words

    core : CoreStays d chip b
    core = core_claim d fits chip 0 whole u few

    claim_same : (v : ℕ) → v ≢ u → word_of b (word_number d (Word.Claim v)) ≡ word_of chip (word_number d (Word.Claim v))
    claim_same = claim_other d fits u few chip whole 0

    claim_group : (k : ℕ) → word_of b (word_number d (Word.Claim (unit_of (group_of d k)))) ≢ 2 + k → word_of chip (word_number d (Word.Claim (unit_of (group_of d k)))) ≢ 2 + k
    claim_group k ne e = cases (same_or_other (unit_of (group_of d k)) u)
        (λ i. let one : 1 ≡ 2 + k = sym parts.0 ∙ (ap (λ v. word_of chip (word_number d (Word.Claim v))) (sym i) ∙ e) in omega (arith, one))
        (λ nu. ne (claim_same (unit_of (group_of d k)) nu ∙ e))

    claims_same : (v : ℕ) → v < 2 → claim_right hs v (word_of b (word_number d (Word.Claim v))) ≡ true
    claims_same = claims_left d u hs chip b parts.1 (claim_now d fits u few chip whole 0) (λ v less. claim_same v) (λ v less ne. sym (claim_past v u _ _ ne) ∙ (h.settled on).claims v less)

    pub drop_claim : Agrees d hs b w s
    drop_claim = stays_agree d fits (record { by = o; what = Claims u; acted = a } ∷ hs) chip b w s h on core hs (record {
      right = all_stay d fits (record { by = o; what = Claims u; acted = a } ∷ hs) chip b w s h on core hs (claim_stays_below d fits u few chip whole 0 (omega arith) w s hs h.right.1 parts.1) h.right.1;
      banks = λ k here. banks_stay chip b (h.banks k here) (λ j own. trio_claimed d fits u few chip whole 0 k j here own) refl refl;
      places = λ k n p less free. place_claimed d fits u few chip whole 0 k n p ∙ h.places k n p less free;
      backed = h.backed.1;
      claimed = λ k here. claim_group k;
      claims = claims_same;
      promised = λ v. (let x = (h.settled on).promised v in record { starts = x.starts; yields = x.yields });
      kept = λ k here off j v is. kept_claimed d fits u few chip whole 0 k here j (kept_within d w s h.sound k j v is);
    })

-- ---- a handler whose round is gone

-- its line wasn't ready, where its unit is free
pub off_ready : (d : AdcTable) (w : World) (s : AdcState) (m : ℕ → Bool) (u : ℕ) → u < 2 → round_at s u ≡ None → missed_after (adc_machine d) w s m (24 + u) ≡ true
off_ready d w s m u few none = or_right (m (24 + u)) (not (ready d w s (24 + u))) (ap (λ q. not q) (by u few none))
  where
    by : (u : ℕ) → u < 2 → round_at s u ≡ None → ready d w s (24 + u) ≡ false
    by (suc (suc u)) lt e = absurd (omega (arith, lt))
    by _ lt e = ap (λ r. s.initialised && is_done d w r) e ∙ and_false s.initialised

pub may_leave : (d : AdcTable) (w : World) (s : AdcState) (m : ℕ → Bool) (u : ℕ) → u < 2 → round_at s u ≡ None → MayStop (AdcGround d) (Entered (24 + u)) fresh_history (missed_after (adc_machine d) w s m) (done no_answer)
may_leave d w s m u few none = record { may = (off_ready d w s m u few none, refl); served = false; owed = refl; shown = λ e. absurd (cc); report = refl }

-- ---- the step

pub quit_right : (d : AdcTable) → FitsAdc d → (f r : AdcBody → ℕ) (below : Reservations) (chip : Chip) (w : World) (s : AdcState) (m : ℕ → Bool) (y u : ℕ) (o : Origin Call) (p : FrameHistory) → MaySeek d (Window.Leave u) below w s o p → next_group d s u ≡ None → Agrees d (with_holds o p.acted (hold_in (Window.Leave u)) below) chip w s
    → RightOr (AdcGround d) (adc_bodies d f r) below chip w s (record { table = d; place = Quits u }) o y p m (ended_at (adc_bodies d f r) body_ends (record { table = d; place = Quits u }) (value_of chip (body_work (record { table = d; place = Quits u }))))
quit_right d fits f r below chip w s m y u _ _ (Is_this_frame, few, on, alone, free) none h =
    let left = drop_claim d fits u few chip w s on (Entered (24 + u)) None (record { by = Entered (24 + u); what = Starts u; acted = None } ∷ below) h in
    (drop_starts d (chip_after chip (Store (word_number d (Word.Claim u)) 0) 0) w s (Entered (24 + u)) None u below left (λ i. absurd (let off : starts d s u ≡ None = ap (λ z. starts_by z (next_group d s u)) free ∙ none in cc)), may_leave d w s m u few free)
