-- A group whose round was served is one that a state may have.
-- From adc_groups: words.Cases.
-- Used by services.ServeActRight, services.ServeRight.
use Rattle.std.proofs.Common.{◌≡◌, ◌≢◌, ◌+◌, ◌%◌, ◌<◌, ◌≤◌, ◌&&◌, ◌||◌, ◌==◌, [], ◌∷◌, ◌++◌, ◌∙◌, ◌⊎◌}
use Rattle.adc_laws.specs.serving.Terms
use Terms.{ap, arith, Bool, cases, cond, ends_with_stream, eq_is, false, Group, GroupState, Idle, inl, inputs_of, inr}
use Terms.{is_continuous, is_full, is_linear_stream, is_some, length, length_push, List, mod-le, nat_le, nat_tests}
use Terms.{None, not, Option, refl, Request, samples_of, slice_get, Some, SoundGroup, Status, status_after}
use Terms.{StreamCompleted, suc, sym, trigger_input, true, whether, whether_as, zero, ℕ}
use Rattle.mcal_base.specs.facts.Truths.{and_first}

-- the status after a round
pub not_idle : (last : Bool) (x : Status) → status_after last x ≡ Idle → ⊥
not_idle false Idle e = absurd (cc)
not_idle _ _ e = absurd (cc)

-- a stream is completed by its last round, or was before
completed_by : (last : Bool) (x : Status) → status_after last x ≡ StreamCompleted → (last ≡ true) ⊎ (x ≡ StreamCompleted)
completed_by true x e = inl refl
completed_by false StreamCompleted e = inr refl
completed_by _ _ e = absurd (cc)

lt_of : (x y : ℕ) → nat_le x y ≡ false → y < x
lt_of x y e = grind (arith, nat_tests)

-- two tests of which each gives the other
pub both_ways : (a b : Bool) → (a ≡ true → b ≡ true) → (b ≡ true → a ≡ true) → a ≡ b
both_ways true b on back = sym (on refl)
both_ways false true on back = back refl
both_ways false false on back = refl

-- one more round of the group is whole
pushed : {A : Type 0} (xs : List A) (y : A) (i : ℕ) (z : A) → slice_get (xs ++ y ∷ []) i ≡ Some z → (slice_get xs i ≡ Some z) ⊎ (z ≡ y)
pushed [] y zero z e = inr (cc)
pushed [] y (suc i) z e = absurd (cc)
pushed (x ∷ xs) y zero z e = inl e
pushed (x ∷ xs) y (suc i) z e = pushed xs y i z e

module _ (k : Option Group) (x : GroupState) (there : is_some k ≡ true) (some : 0 < samples_of k) (sound : SoundGroup k true x) (hears : is_some (trigger_input k) ≡ true → x.trigger ≡ true) (values : List ℕ) (whole : length values ≡ length (inputs_of k)) where
  abbrev last : Bool
  last = length x.rounds % samples_of k + 1 == samples_of k

  abbrev status : Status
  status = status_after (length x.rounds % samples_of k + 1 == samples_of k) x.status

  awake : x.status ≢ Idle
  awake e = absurd (let off = sound.turn e in cc)

  -- a completed stream has as many rounds as its buffer holds
  all_there : status ≡ StreamCompleted → samples_of k ≤ length x.rounds + 1
  all_there e = cases (completed_by last x.status e)
      (λ i. let is = eq_is (length x.rounds % samples_of k + 1) (samples_of k) i in let le = mod-le (length x.rounds) (samples_of k) in omega (arith, is, le))
      (λ i. let le = sound.stream i in omega (arith, le))

  -- a full stream is linear, and a linear one that isn't completed isn't full
  full_linear : is_full k (length x.rounds + 1) ≡ true → is_linear_stream k ≡ true
  full_linear e = and_first (is_linear_stream k) (nat_le (samples_of k) (length x.rounds + 1)) e

  going_on : is_full k (length x.rounds + 1) ≡ false → is_linear_stream k ≡ true → status ≡ StreamCompleted → ⊥
  going_on e linear is = let le = all_there is in let lt = lt_of (samples_of k) (length x.rounds + 1) (sym (ap (λ q. q && nat_le (samples_of k) (length x.rounds + 1)) linear) ∙ e) in omega (arith, le, lt)

  few_before : is_linear_stream k ≡ true → length x.rounds + 1 ≤ samples_of k
  few_before linear = let lt = lt_of (samples_of k) (length x.rounds) (sym (ap (λ q. q && nat_le (samples_of k) (length x.rounds)) linear) ∙ sound.lasts refl) in omega (arith, lt)

  -- which groups end with their stream
  ends_linear : is_linear_stream k ≡ true → ends_with_stream k ≡ true
  ends_linear e =
      (elim k as (λ o. is_linear_stream o ≡ true → ends_with_stream o ≡ true)
      [ None ↦ λ i. absurd (cc) | Some z ↦ λ i. ap (λ q. cond q true (not z.continuous && not (is_some z.trigger))) i ]) e

  ends_other : is_linear_stream k ≡ false → ends_with_stream k ≡ not (is_continuous k) && not (is_some (trigger_input k))
  ends_other e = by k there e
    where
      by : (o : Option Group) → is_some o ≡ true → is_linear_stream o ≡ false → ends_with_stream o ≡ not (is_continuous o) && not (is_some (trigger_input o))
      by None i j = absurd (cc)
      by (Some z) i j = ap (λ q. cond q true (not z.continuous && not (is_some z.trigger))) j

  hears_same : x.trigger ≡ is_some (trigger_input k)
  hears_same = both_ways x.trigger (is_some (trigger_input k)) sound.input hears

  -- by whether its turn goes on, and its trigger
  pub served_sound : (turned trigger : Bool) (waiting : Option Request) → (trigger ≡ true → x.trigger ≡ true) → (status ≡ StreamCompleted → turned || trigger ≡ not (ends_with_stream k)) → (turned || trigger ≡ true → is_full k (length x.rounds + 1) ≡ false) → SoundGroup k turned (record x { status = status; rounds = x.rounds ++ values ∷ []; trigger = trigger; waiting = waiting })
  served_sound turned trigger waiting less going lasts = record {
    configured = λ e. absurd (let none : is_some k ≡ false = ap (λ o. is_some o) e in let on = there in cc);
    chosen = λ e. sound.chosen awake;
    turn = λ e. absurd (not_idle last x.status e);
    trigger = λ e. absurd (not_idle last x.status e);
    input = λ e. sound.input (less e);
    going = going;
    rounds = λ e. (let n = length_push x.rounds values in omega (arith, n));
    stream = λ e. (let n = length_push x.rounds values in let le = all_there e in omega (arith, n, le));
    linear = λ e. (let n = length_push x.rounds values in let le = few_before e in omega (arith, n, le));
    lasts = λ e. ap (λ n. is_full k n) (length_push x.rounds values) ∙ lasts e;
    whole = λ r i e. whole_by r i e (pushed x.rounds values i r e);
  }
    where
      whole_by : (r : List ℕ) (i : ℕ) → slice_get (x.rounds ++ values ∷ []) i ≡ Some r → (slice_get x.rounds i ≡ Some r) ⊎ (r ≡ values) → length r ≡ length (inputs_of k)
      whole_by r i e (inl z) = sound.whole r i z
      whole_by r i e (inr z) = ap length z ∙ whole

  pub full_going : is_full k (length x.rounds + 1) ≡ true → false ≡ not (ends_with_stream k)
  full_going e = sym (ap (λ q. not q) (ends_linear (full_linear e)))

  pub again_going : is_full k (length x.rounds + 1) ≡ false → is_continuous k ≡ true → status ≡ StreamCompleted → true ≡ not (ends_with_stream k)
  again_going e on is = whether (is_linear_stream k)
      (λ i. absurd (going_on e i is))
      (λ i. sym (ap (λ q. not q) (ends_other i ∙ ap (λ q. not q && not (is_some (trigger_input k))) on)))

  pub rest_going : is_full k (length x.rounds + 1) ≡ false → is_continuous k ≡ false → status ≡ StreamCompleted → x.trigger ≡ not (ends_with_stream k)
  rest_going e off is = whether (is_linear_stream k)
      (λ i. absurd (going_on e i is))
      (λ i. hears_same ∙ (whether_as (is_some (trigger_input k)) (λ q. q ≡ not (not q)) (λ _. refl) (λ _. refl) ∙ sym (ap (λ q. not q) (ends_other i ∙ ap (λ q. not q && not (is_some (trigger_input k))) off))))

  -- the three ways on: its stream is full, it waits again, or it has no turn any more
  pub after_full : is_full k (length x.rounds + 1) ≡ true → SoundGroup k false (record x { status = status_after (length x.rounds % samples_of k + 1 == samples_of k) x.status; rounds = x.rounds ++ values ∷ []; trigger = false })
  after_full full = served_sound false false x.waiting (λ e. absurd (cc)) (λ e. full_going full) (λ e. absurd (cc))

  pub after_again : (q : Option Request) → is_full k (length x.rounds + 1) ≡ false → is_continuous k ≡ true → SoundGroup k true (record x { status = status_after (length x.rounds % samples_of k + 1 == samples_of k) x.status; rounds = x.rounds ++ values ∷ []; waiting = q })
  after_again q full on = served_sound true x.trigger q (λ e. e) (λ e. again_going full on e) (λ e. full)

  pub after_rest : is_full k (length x.rounds + 1) ≡ false → is_continuous k ≡ false → SoundGroup k false (record x { status = status_after (length x.rounds % samples_of k + 1 == samples_of k) x.status; rounds = x.rounds ++ values ∷ [] })
  after_rest full off = served_sound false x.trigger x.waiting (λ e. e) (λ e. rest_going full off e) (λ e. full)
