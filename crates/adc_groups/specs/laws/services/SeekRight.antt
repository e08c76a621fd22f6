-- A unit looks for the turn that comes next: which one is chosen, when it begins or yields, and the steps of the windows that seek it.
-- From services.Decisions, services.BodySteps, services.CallSteps, services.SingleWordCalls and 7 more.
-- Used by adc_driver: services.AllSteps, adc_laws: turns.services.KeepRight, adc_laws: turns.services.StartRight and 5 more.
use Rattle.std.proofs.Common.{◌≡◌, ◌≢◌, ◌+◌, ◌-◌, ◌<◌, ◌≤◌, ◌&&◌, ◌||◌, ◌==◌, [], ◌∷◌, ◌∙◌, ◌⊎◌, if◌then◌else◌}
use Rattle.adc_groups.specs.Terms
use Terms.{aborts, aborts_by, adc_bodies, adc_machine, AdcBody, AdcGround, AdcState, AdcTable, Agrees, AllBelow}
use Terms.{AllRight, AllWaiting, and_false, and_first, and_from, and_parts, Answer, ap, arith, AssertedAt, Backed}
use Terms.{begins, begins_next, body_ends, body_work, BodyTaken, Bool, Call, Chip, choice, choice-only, choosing_front}
use Terms.{claim_fits, claim_right, Claims, claims_on, cond, Decided, done, ended_at, ended_by, Ends, Entry, eq_is}
use Terms.{eq_other, false, Fills, FitsAdc, follows, foot_of, FrameHistory, Front, front-ends, front_gave, front_left}
use Terms.{front_start, Full, given, Goes, goes_right, group_at, group_in, group_of, Has_acted, Has_served, has_turn}
use Terms.{HasDone, HeldRight, hold_in, holds-below, HoldsOrder, inl, inr, InWindow, is_finished, is_handler, is_on}
use Terms.{is_outranked, is_round_of, is_some, is_there, Is_this_frame, IsChoice, IsNext, IsOrder, IsOutranked}
use Terms.{IsSeeking, Keeps, length, List, Load, looking, Looks, MakesTo, MaySeek, MayStop, missed_after, nat_le}
use Terms.{nat_lt, nat_tests, next_group, next_is, no_answer, None, none-choice, none_is, not, number_at, number_by}
use Terms.{number_in, Option, option_as, or_right, order_of, order_own, Origin, over, Place, place_ends, Promised, rank}
use Terms.{rank_of, ranks_of, refl, Request, Reservation, Reservations, RightOr, Round, round_at, running_of, same_line}
use Terms.{same_or_other, Search, seek_takes, Seeks, slice_get, slice_index_or, Some, some_hold, sought, sought_unit}
use Terms.{Starts, starts, starts_by, starts_on, subst, suc, sym, true, UnitAgrees, value_of, waits_for, Whole}
use Terms.{will_yield, Window, with_holds, Word, word_number, word_of, World, Yields, yields, yields_by, zero, ℕ}
use Rattle.adc_groups.specs.laws.{bookkeeping.FrameRule.{holds_anew}, bookkeeping.PendingWritesRight.{yields_below}}
use Rattle.adc_groups.specs.laws.services.CallSteps.{any_off, any_on, held, off_or}
use Rattle.adc_groups.specs.laws.services.SingleWordCalls.{DecidedRight, looks_right, none_ends}
use Rattle.adc_groups.specs.laws.{words.OrderWords.{listed_there}, words.WordsOfModule.{on_there, within}}
use Rattle.word_shapes.specs.Playing as playing

pub rank_at : (d : AdcTable) (k : ℕ) → k < 16 → rank (ranks_of d) k ≡ rank_of d k
rank_at d (suc (suc (suc (suc (suc (suc (suc (suc (suc (suc (suc (suc (suc (suc (suc (suc k)))))))))))))))) lt = absurd (omega (arith, lt))
rank_at d _ lt = refl

-- a waiting group's number
number_waiting : (q : Option Request) (r : Option Round) → is_some q ≡ true → number_by q r ≡ number_in q
number_waiting None r e = absurd (cc)
number_waiting (Some q) r e = refl

-- an entry that is there has a place
there_at : (n : ℕ) (ys : List Entry) → is_there n ys ≡ true → (j : ℕ) × (x : Entry) × (slice_get ys j ≡ Some x) × (x.number ≡ n)
there_at n [] e = absurd (cc)
there_at n (y ∷ ys) e = by (λ f. there_at n ys f) (y.number == n) refl e
  where
    by : (is_there n ys ≡ true → (j : ℕ) × (x : Entry) × (slice_get ys j ≡ Some x) × (x.number ≡ n)) → (q : Bool) → (y.number == n) ≡ q → q || is_there n ys ≡ true → (j : ℕ) × (x : Entry) × (slice_get (y ∷ ys) j ≡ Some x) × (x.number ≡ n)
    by rest true i f = (0, y, refl, eq_is y.number n i)
    by rest false i f = let k = rest f in (suc k.0, k.1, k.2, k.3)

below_at : (ys : List Entry) → AllBelow ys → (i : ℕ) (x : Entry) → slice_get ys i ≡ Some x → x.number < 16
below_at [] all i x e = absurd (cc)
below_at (y ∷ ys) all zero x e = let same : y ≡ x = cc in subst (λ (z : Entry). z.number < 16) same all.0
below_at (y ∷ ys) all (suc i) x e = below_at ys all.1 i x e

module _ (d : AdcTable) (s : AdcState) (u g : ℕ) (next : IsNext d s u g) (small : g < 16) where
  -- what is known of the entries of a part of the order
  abbrev Waits : List Entry → Type 0
  Waits ys = (i : ℕ) (x : Entry) → slice_get ys i ≡ Some x → x.waits ≡ true → (waits_for d s u x.number ≡ true) × (x.number < 16)

  abbrev Sorted : List Entry → Type 0
  Sorted ys = (i j : ℕ) (x y : Entry) → i < j → slice_get ys i ≡ Some x → slice_get ys j ≡ Some y → number_at d s x.number < number_at d s y.number

  no_higher : (x : Entry) → waits_for d s u x.number ≡ true → x.number < 16 → rank (ranks_of d) x.number ≤ rank (ranks_of d) g
  no_higher x e lt = let le = (next.first x.number e).0 in let a = rank_at d x.number lt in let b = rank_at d g small in omega (arith, le, a, b)

  all_within : (ys : List Entry) → Waits ys → AllWaiting (λ x. rank (ranks_of d) x.number ≤ rank (ranks_of d) g) ys
  all_within [] h = tt
  all_within (y ∷ ys) h = (λ e. let k = h 0 y refl e in no_higher y k.0 k.1, all_within ys (λ i x e f. h (suc i) x e f))

  lower : (x z : Entry) → waits_for d s u x.number ≡ true → x.number < 16 → z.number ≡ g → number_at d s x.number < number_at d s z.number → rank (ranks_of d) x.number < rank (ranks_of d) g
  lower x z e lt same less =
      let first = next.first x.number e in
      let le = first.0 in
      let a = rank_at d x.number lt in
      let b = rank_at d g small in
      let here : number_at d s x.number ≡ number_in (group_at s x.number).waiting = number_waiting (group_at s x.number).waiting _ (and_parts (is_on u (group_of d x.number)) (is_some (group_at s x.number).waiting) e).1 in
      let there : number_at d s z.number ≡ number_in (group_at s g).waiting = ap (λ n. number_at d s n) same ∙ number_waiting (group_at s g).waiting _ (and_parts (is_on u (group_of d g)) (is_some (group_at s g).waiting) next.waits).1 in
      strict (rank (ranks_of d) x.number) (rank (ranks_of d) g) (omega (arith, le, a, b)) (λ f. let i = first.1 (sym a ∙ (f ∙ b)) in omega (arith, i, here, there, less))
    where
      strict : (p q : ℕ) → p ≤ q → (p ≡ q → ⊥) → p < q
      strict p q le ne = grind (arith, le, ne)

  found : (ys : List Entry) → Waits ys → Sorted ys → ((i : ℕ) (x : Entry) → slice_get ys i ≡ Some x → x.number ≡ g → x.waits ≡ true) → is_there g ys ≡ true → IsChoice (ranks_of d) ys g
  found [] h sorted own e = absurd (cc)
  found (y ∷ ys) h sorted own e = first_or_later (found ys (λ i x f k. h (suc i) x f k) (λ i j x z lt f k. sorted (suc i) (suc j) x z (omega (arith, lt)) f k) (λ i x f k. own (suc i) x f k)) (y.number == g) refl e
    where
      first_or_later : (is_there g ys ≡ true → IsChoice (ranks_of d) ys g) → (q : Bool) → (y.number == g) ≡ q → q || is_there g ys ≡ true → IsChoice (ranks_of d) (y ∷ ys) g
      first_or_later rest true i f = record {
        before = [];
        after = ys;
        is = ap (λ (z : Entry). z ∷ ys) (entry (eq_is y.number g i) (own 0 y refl (eq_is y.number g i)));
        below = tt;
        within = all_within ys (λ i x f k. h (suc i) x f k);
      }
        where
          entry : y.number ≡ g → y.waits ≡ true → ◌≡◌ {A = Entry} y (record { number = g; waits = true })
          entry p q = ap (λ n. let z : Entry = record { number = n; waits = y.waits } in z) p ∙ ap (λ b. let z : Entry = record { number = g; waits = b } in z) q
      first_or_later rest false i f =
          let k = rest f in
          let j = there_at g ys f in
          record { before = y ∷ k.before; after = k.after; is = ap (λ zs. y ∷ zs) k.is; below = (λ e. let o = h 0 y refl e in lower y j.1 o.0 o.1 j.3 (sorted 0 (suc j.0) y j.1 (omega arith) refl j.2), k.below); within = k.within }

module _ (d : AdcTable) (s : AdcState) (u : ℕ) (xs : List Entry) (o : IsOrder d s u xs) (all : AllBelow xs) where
  waiting_at : (i : ℕ) (x : Entry) → slice_get xs i ≡ Some x → x.waits ≡ true → (waits_for d s u x.number ≡ true) × (x.number < 16)
  waiting_at i x e w = (and_from (is_on u (group_of d x.number)) (is_some (group_at s x.number).waiting) (and_parts (has_turn s x.number) (is_on u (group_of d x.number)) (sym (o.there x.number) ∙ listed_there xs i x e)).1 (sym (o.waits i x e) ∙ w), below_at xs all i x e)

  turn_of : (g : ℕ) → waits_for d s u g ≡ true → has_turn s g && is_on u (group_of d g) ≡ true
  turn_of g e = let k = and_parts (is_on u (group_of d g)) (is_some (group_at s g).waiting) e in and_from (has_turn s g) (is_on u (group_of d g)) (ap (λ q. q || is_round_of g (round_at s 0) || is_round_of g (round_at s 1)) k.1) k.0

  pub choice_next : (g : ℕ) → next_group d s u ≡ Some g → (choice (ranks_of d) xs ≡ g) × (g < 16)
  choice_next g e =
      let next = next_is d s u g e in
      let there : is_there g xs ≡ true = o.there g ∙ turn_of g next.waits in
      let at = there_at g xs there in
      let small : g < 16 = subst (λ n. n < 16) at.3 (below_at xs all at.0 at.1 at.2) in (
        choice-only (ranks_of d) xs g small (found d s u g next small xs waiting_at o.sorted (λ i x f k. o.waits i x f ∙ (ap (λ n. is_some (group_at s n).waiting) k ∙ (and_parts (is_on u (group_of d g)) (is_some (group_at s g).waiting) next.waits).1)) there),
        small,
      )

  none_wait : ((h : ℕ) → waits_for d s u h ≡ false) → (ys : List Entry) → ((i : ℕ) (x : Entry) → slice_get ys i ≡ Some x → x.waits ≡ true → (waits_for d s u x.number ≡ true) × (x.number < 16)) → AllWaiting (λ x. ⊥) ys
  none_wait none [] h = tt
  none_wait none (y ∷ ys) h = (λ e. let on = (h 0 y refl e).0 in let off = none y.number in absurd (cc), none_wait none ys (λ i x f k. h (suc i) x f k))

  pub choice_none : next_group d s u ≡ None → choice (ranks_of d) xs ≡ 16
  choice_none e = none-choice (ranks_of d) xs (none_wait (λ h. none_is d s u h e) xs waiting_at)

-- ---- Windows that look for what may start, or has to yield, on a unit: what they decide, and what is promised no more.

-- ---- promises that are kept

module _ (d : AdcTable) (chip : Chip) (w : World) (s : AdcState) (o : Origin Call) (a : Option Answer) (u : ℕ) (hs : Reservations) where
  skip : (v : ℕ) (q : Bool) → v ≢ u → (v == u) || q ≡ true → q ≡ true
  skip v q ne e = sym (ap (λ z. z || q) (eq_other v u ne)) ∙ e

  pub drop_starts : Agrees d (record { by = o; what = Starts u; acted = a } ∷ hs) chip w s → (is_some (starts d s u) ≡ true → some_hold (starts_on u) hs ≡ true) → Agrees d hs chip w s
  drop_starts h more = holds_anew h (record { puts = λ k. refl; takes = λ k. refl; owed = λ k n p lt free. free; claims = λ n v e. e; clears = λ e. e }) h.right.1 h.backed.1 (λ v q. promised v q (same_or_other v u))
    where
      promised : (v : ℕ) → Promised d (record { by = o; what = Starts u; acted = a } ∷ hs) w s v → (v ≡ u) ⊎ (v ≢ u) → Promised d hs w s v
      promised v q (inl e) = subst (λ n. Promised d hs w s n) (sym e) (record { starts = more; yields = subst (λ n. is_some (aborts d w s n) ≡ true → will_yield n hs ≡ true) e (λ f. yields_below ((v == u) && is_handler v o) (will_yield v hs) (q.yields f)) })
      promised v q (inr ne) = record { starts = λ e. skip v (some_hold (starts_on v) hs) ne (q.starts e); yields = λ e. yields_below ((v == u) && is_handler v o) (will_yield v hs) (q.yields e) }

  pub drop_yields : Agrees d (record { by = o; what = Yields u; acted = a } ∷ hs) chip w s → (is_some (aborts d w s u) ≡ true → will_yield u hs ≡ true) → Agrees d hs chip w s
  drop_yields h more = holds_anew h (record { puts = λ k. refl; takes = λ k. refl; owed = λ k n p lt free. free; claims = λ n v e. e; clears = λ e. e }) h.right.1 h.backed.1 (λ v q. promised v q (same_or_other v u))
    where
      promised : (v : ℕ) → Promised d (record { by = o; what = Yields u; acted = a } ∷ hs) w s v → (v ≡ u) ⊎ (v ≢ u) → Promised d hs w s v
      promised v q (inl e) = subst (λ n. Promised d hs w s n) (sym e) (record { starts = subst (λ n. is_some (starts d s n) ≡ true → some_hold (starts_on n) hs ≡ true) e q.starts; yields = more })
      promised v q (inr ne) = record { starts = q.starts; yields = λ e. skip v (will_yield v hs) ne (q.yields e) }

-- ---- claims

-- whoever claims has promised
pub backed_starts : (u : ℕ) (hs : Reservations) → Backed hs → some_hold (claims_on u) hs ≡ true → some_hold (starts_on u) hs ≡ true
backed_starts u [] b e = absurd (cc)
backed_starts u (x ∷ xs) b e = by (claims_on u x.what) refl e (λ f. backed_starts u xs b.1 f)
  where
    by : (q : Bool) → claims_on u x.what ≡ q → q || some_hold (claims_on u) xs ≡ true → (some_hold (claims_on u) xs ≡ true → some_hold (starts_on u) xs ≡ true) → starts_on u x.what || some_hold (starts_on u) xs ≡ true
    by true i f rest = or_right (starts_on u x.what) (some_hold (starts_on u) xs) (b.0 u i)
    by false i f rest = or_right (starts_on u x.what) (some_hold (starts_on u) xs) (rest f)

fits_some : (z : Reservation) (v : ℕ) → claim_fits z v ≡ true → v ≢ 0
fits_some (Keeps u g e n i x) v f i0 = absurd (let k : (0 == 2 + g) || (0 == 1) ≡ true = ap (λ n. (n == 2 + g) || (n == 1)) (sym i0) ∙ f in grind (arith, nat_tests))
fits_some (Whole u g n) v f i0 = absurd (let k : (0 == 2 + g) || (0 == 1) ≡ true = ap (λ n. (n == 2 + g) || (n == 1)) (sym i0) ∙ f in grind (arith, nat_tests))
fits_some _ v f e = let i = eq_is v 1 f in omega (arith, e, i)

-- the word of a claim is 0 where no frame claims the unit, and nowhere else
pub unclaimed : (u v : ℕ) (hs : Reservations) → claim_right hs u v ≡ true → some_hold (claims_on u) hs ≡ not (v == 0)
unclaimed u v [] e = sym (ap (λ q. not q) e)
unclaimed u v (x ∷ xs) e = by (claims_on u x.what) e (unclaimed u v xs)
  where
    by : (q : Bool) → (if q then claim_fits x.what v && not (some_hold (claims_on u) xs) else claim_right xs u v) ≡ true → (claim_right xs u v ≡ true → some_hold (claims_on u) xs ≡ not (v == 0)) → q || some_hold (claims_on u) xs ≡ not (v == 0)
    by true f rest = sym (ap (λ q. not q) (eq_other v 0 (fits_some x.what v (and_first (claim_fits x.what v) (not (some_hold (claims_on u) xs)) f))))
    by false f rest = rest f

-- a claimed unit has nothing to abort: it is free, or its round is finished
pub none_aborted : (d : AdcTable) (w : World) (s : AdcState) (u : ℕ) → ((x : Round) → round_at s u ≡ Some x → is_finished w (group_of d x.group) x ≡ true) → is_some (aborts d w s u) ≡ false
none_aborted d w s u h = option_as (round_at s u) (λ q. is_some (aborts_by d w s u q) ≡ false)
    (λ x e. ap (λ q. is_some (cond (not q && is_outranked d s u x.group) (Some x) None)) (h x e)) (λ _. refl)

pub claimed_calm : (d : AdcTable) (chip : Chip) (w : World) (s : AdcState) (u : ℕ) (hs : Reservations) → AllRight d chip w s hs → some_hold (claims_on u) hs ≡ true → is_some (aborts d w s u) ≡ false
claimed_calm d chip w s u [] r e = absurd (cc)
claimed_calm d chip w s u (x ∷ xs) r e = one x.what r.0 (claimed_calm d chip w s u xs r.1) e
  where
    free : (v : ℕ) (q : Bool) → (u == v) ≡ q → round_at s v ≡ None → (some_hold (claims_on u) xs ≡ true → is_some (aborts d w s u) ≡ false) → q || some_hold (claims_on u) xs ≡ true → is_some (aborts d w s u) ≡ false
    free v true i none rest f = ap (λ z. is_some (aborts_by d w s u z)) (ap (λ n. round_at s n) (eq_is u v i) ∙ none)
    free v false i none rest f = rest f

    over_now : (v g : ℕ) (q : Bool) → (u == v) ≡ q → ((z : Round) → round_at s v ≡ Some z → (z.group ≡ g) × (is_finished w (group_of d g) z ≡ true)) → (some_hold (claims_on u) xs ≡ true → is_some (aborts d w s u) ≡ false) → q || some_hold (claims_on u) xs ≡ true → is_some (aborts d w s u) ≡ false
    over_now v g true i same rest f = none_aborted d w s u (λ z e. (let k = same z (sym (ap (λ n. round_at s n) (eq_is u v i)) ∙ e) in ap (λ n. is_finished w (group_of d n) z) k.0 ∙ k.1))
    over_now v g false i same rest f = rest f

    one : (z : Reservation) → HeldRight d chip w s x z → (some_hold (claims_on u) xs ≡ true → is_some (aborts d w s u) ≡ false) → claims_on u z || some_hold (claims_on u) xs ≡ true → is_some (aborts d w s u) ≡ false
    one (Fills v j n m i y) h rest f = over_now v j (u == v) refl (λ z e. (let k = h.3.same z e in (k.0, k.2))) rest f
    one (Full v j n) h rest f = over_now v j (u == v) refl (λ z e. h.3.same z e) rest f
    one (Claims v) h rest f = free v (u == v) refl h.2 rest f
    one (Keeps v j n m i y) h rest f = free v (u == v) refl h.2 rest f
    one (Whole v j n) h rest f = free v (u == v) refl h.2 rest f
    one _ h rest f = rest f

-- ---- a frame that has done its work may end

pub may_end : (d : AdcTable) (u : ℕ) (below : Reservations) (o : Origin Call) (p : FrameHistory) (missed : ℕ → Bool) → HasDone u below o p → MayStop (AdcGround d) o p missed (done no_answer)
may_end d u below _ _ missed (Has_acted c Is_this_frame) = record { may = (refl, refl); served = false; owed = refl; shown = λ e. absurd (cc); report = refl }
may_end d u below _ _ missed (Has_served l own Is_this_frame) = record { may = (ap (λ q. q || missed l) (same_line l), refl); served = true; owed = refl; shown = λ e. tt; report = refl }

-- ---- what is decided

module _ (d : AdcTable) (fits : FitsAdc d) (f r : AdcBody → ℕ) (below : Reservations) (chip : Chip) (w : World) (s : AdcState) (m : ℕ → Bool) (y : ℕ) (u : ℕ) (few : u < 2) (on : s.initialised ≡ true) (o : Origin Call) (p : FrameHistory) (has : HasDone u below o p) (K : Place) (k v : ℕ) (ends : place_ends K ≡ None) where
  abbrev Decides : Decided → Type 0
  Decides x = DecidedRight d f r below chip w s o (Load k) false v y p m K x

  few_moves : (n : ℕ) → (if nat_lt 8 n then 3 else 2) ≤ 3
  few_moves n = elim (nat_lt 8 n) as (λ q. (if q then 3 else 2) ≤ 3) [ true ↦ omega arith | false ↦ omega arith ]

  none_runs : (q : Option Round) → (running_of q == 0) ≡ not (is_some q)
  none_runs None = refl
  none_runs (Some x) = let more : (1 + x.group == 0) ≡ false = grind (arith, nat_tests) in more

  -- what may start
  module _ (h : Agrees d (with_holds o p.acted (hold_in (Window.Begin u)) below) chip w s) where
    claimed : some_hold (claims_on u) below ≡ not (word_of chip (word_number d (Word.Claim u)) == 0)
    claimed = unclaimed u (word_of chip (word_number d (Word.Claim u))) below ((h.settled on).claims u few)

    ends_here : (is_some (starts d s u) ≡ true → some_hold (starts_on u) below ≡ true) → Decides over
    ends_here more = ((drop_starts d chip w s o p.acted u below h more, may_end d u below o p m has), ends)

    pub begins_right : Decides (begins d u (word_of chip (word_number d (Word.Running u))) (word_of chip (word_number d (Word.Claim u))))
    begins_right = subst (λ n. Decides (begins d u n (word_of chip (word_number d (Word.Claim u))))) (sym ((h.settled on).units u few).running) (begins_by_round (round_at s u) refl (word_of chip (word_number d (Word.Claim u)) == 0) refl)
      where
        begins_by_round : (q : Option Round) → round_at s u ≡ q → (z : Bool) → (word_of chip (word_number d (Word.Claim u)) == 0) ≡ z → Decides (begins d u (running_of q) (word_of chip (word_number d (Word.Claim u))))
        begins_by_round (Some x) e z i = subst (λ b. Decides (if b && (word_of chip (word_number d (Word.Claim u)) == 0) then Goes (Seeks (Window.Begin u) (front_start (order_of u) (ranks_of d))) else over)) (sym (none_runs (Some x))) (ends_here (λ j. absurd (let none : starts d s u ≡ None = ap (λ b. starts_by b (next_group d s u)) e in cc)))
        begins_by_round None e false i = subst (λ b. Decides (if b then Goes (Seeks (Window.Begin u) (front_start (order_of u) (ranks_of d))) else over)) (sym i) (ends_here (λ j. backed_starts u below h.backed.1 (claimed ∙ ap (λ b. not b) i)))
        begins_by_round None e true i =
            let xs = ((h.settled on).units u few).order in
            subst (λ b. Decides (if b then Goes (Seeks (Window.Begin u) (front_start (order_of u) (ranks_of d))) else over)) (sym i)
            ((h, (refl, ((has, few, on, claimed ∙ ap (λ b. not b) i, e), ((if nat_lt 8 (length xs.0) then 3 else 2), xs.0, few_moves (length xs.0), xs.1, front-ends (order_of u) (ranks_of d) (word_of chip) xs.0 xs.1)))), refl)

  -- what has to yield
  module _ (h : Agrees d (with_holds o p.acted (hold_in (Window.Yield u)) below) chip w s) where
    claimed_below : some_hold (claims_on u) below ≡ not (word_of chip (word_number d (Word.Claim u)) == 0)
    claimed_below = unclaimed u (word_of chip (word_number d (Word.Claim u))) below ((h.settled on).claims u few)

    goes_next : is_some (aborts d w s u) ≡ false → Decides (Goes (begins_next u))
    goes_next none = ((drop_yields d chip w s o p.acted u (with_holds o p.acted (hold_in (Window.Begin u)) below) h (λ e. absurd (cc)), (refl, (has, few))), refl)

    pub yields_right : Decides (yields d u (word_of chip (word_number d (Word.Running u))) (word_of chip (word_number d (Word.Claim u))))
    yields_right = subst (λ n. Decides (yields d u n (word_of chip (word_number d (Word.Claim u))))) (sym ((h.settled on).units u few).running) (yields_by_round (round_at s u) refl (word_of chip (word_number d (Word.Claim u)) == 0) refl)
      where
        group_back : (g : ℕ) → g < 16 → group_in (1 + g) ≡ Some g
        group_back g lt =
            let a : nat_lt 0 (1 + g) ≡ true = grind (arith, nat_tests) in
            let b : nat_le (1 + g) 16 ≡ true = grind (arith, nat_tests) in
            let c : 1 + g - 1 ≡ g = omega arith in
            ap (λ q. if q && nat_le (1 + g) 16 then Some (1 + g - 1) else None) a ∙ (ap (λ q. if q then Some (1 + g - 1) else None) b ∙ ap (λ n. Some n) c)

        yields_by_round : (q : Option Round) → round_at s u ≡ q → (z : Bool) → (word_of chip (word_number d (Word.Claim u)) == 0) ≡ z → Decides (yields d u (running_of q) (word_of chip (word_number d (Word.Claim u))))
        yields_by_round None e z i = goes_next (ap (λ b. is_some (aborts_by d w s u b)) e)
        yields_by_round (Some x) e false i =
            let lt = within d x.group (on_there u (group_of d x.group) (h.sound.runs u x e).1) in
            subst (λ b. Decides (Goes (yields_by d u (word_of chip (word_number d (Word.Claim u))) b))) (sym (group_back x.group lt))
            (subst (λ b. Decides (Goes (if b then Seeks (Window.Suspend u x.group) (front_start (order_of u) (ranks_of d)) else begins_next u))) (sym i) (goes_next (claimed_calm d chip w s u below h.right.1.1 (claimed_below ∙ ap (λ b. not b) i))))
        yields_by_round (Some x) e true i =
            let lt = within d x.group (on_there u (group_of d x.group) (h.sound.runs u x e).1) in
            let xs = ((h.settled on).units u few).order in
            subst (λ b. Decides (Goes (yields_by d u (word_of chip (word_number d (Word.Claim u))) b))) (sym (group_back x.group lt))
            (subst (λ b. Decides (Goes (if b then Seeks (Window.Suspend u x.group) (front_start (order_of u) (ranks_of d)) else begins_next u))) (sym i)
            ((h, (refl, ((has, few, on, claimed_below ∙ ap (λ b. not b) i, record { round = x; is = e; group = refl }), ((if nat_lt 8 (length xs.0) then 3 else 2), xs.0, few_moves (length xs.0), xs.1, front-ends (order_of u) (ranks_of d) (word_of chip) xs.0 xs.1)))), refl))

-- ---- A window that seeks which request waits first on a unit, step by step, and what it decides by that.

module _ (d : AdcTable) (fits : FitsAdc d) (f r : AdcBody → ℕ) (below : Reservations) (chip : Chip) (w : World) (s : AdcState) (m : ℕ → Bool) (y : ℕ) (o : Origin Call) (p : FrameHistory) where
  abbrev missed : ℕ → Bool
  missed = missed_after (adc_machine d) w s m

  -- ---- a step

  module _ (win : Window) (is : MaySeek d win below w s o p) (h : Agrees d (with_holds o p.acted (hold_in win) below) chip w s) (xs : List Entry) (holds : HoldsOrder (order_of (sought_unit win)) (word_of chip) xs)
      (decides : (K : Place) (k v : ℕ) → place_ends K ≡ None → DecidedRight d f r below chip w s o (Load k) false v y p missed K (sought d win (choice (ranks_of d) xs))) where
    abbrev GoesWhole : ℕ → Place × BodyTaken → Type 0
    GoesWhole k z = MakesTo (AdcGround d) (adc_bodies d f r) below chip chip w s o (Load k) false (word_of chip k) y p missed (record { table = d; place = z.0 }, z.1) × (ended_by (place_ends z.0) z.1.done ≡ None)

    abbrev Found : (ℕ → ℕ) → List ℕ → Type 0
    Found k found = HoldsOrder (order_of (sought_unit win)) k xs × (found ≡ choice (ranks_of d) xs ∷ [])

    goes_on : (k n : ℕ) → n ≤ 3 → (later : Front) (q : Option Answer) → playing.Either q (Ends choosing_front (order_own (order_of (sought_unit win))) n later (word_of chip) Found) (Found (word_of chip)) → GoesWhole k (seek_takes d win later q)
    goes_on k n le later None e = ((h, (refl, (is, (n, xs, le, holds, e)))), refl)
    goes_on k n le later (Some a) e =
        let x : given a ≡ choice (ranks_of d) xs = ap (λ ws. slice_index_or ws 0 0) e.1.1 in
        let right = decides (Seeks win later) k (word_of chip k) refl in
        subst (λ z. GoesWhole k (follows (Seeks win later) (sought d win z))) (sym x) (right.0, none_ends (place_ends (follows (Seeks win later) (sought d win (choice (ranks_of d) xs))).0) (follows (Seeks win later) (sought d win (choice (ranks_of d) xs))).1.done right.1)

    abbrev Step : Front → Type 0
    Step q = RightOr (AdcGround d) (adc_bodies d f r) below chip w s (record { table = d; place = Seeks win q }) o y p m (ended_at (adc_bodies d f r) body_ends (record { table = d; place = Seeks win q }) (value_of chip (body_work (record { table = d; place = Seeks win q }))))

    pub seek_step : (z : Search) (ranks : List ℕ) (n : ℕ) → n ≤ 3 → Ends choosing_front (order_own (order_of (sought_unit win))) n (record { search = z; ranks = ranks }) (word_of chip) Found → Step (record { search = z; ranks = ranks })
    seek_step z ranks zero le e = absurd e
    seek_step (Search.Tally at) ranks (suc n) le e = let q : Front = record { search = Search.Tally at; ranks = ranks } in let x = goes_on at.tally n (omega (arith, le)) (front_left q (word_of chip at.tally)) (front_gave q (word_of chip at.tally)).ended e.2 in goes_right (AdcGround d) (adc_bodies d f r) below chip w s (record { table = d; place = Seeks win q }) o y p m _ x.1 x.0
    seek_step (Search.Low at t) ranks (suc n) le e = let q : Front = record { search = Search.Low at t; ranks = ranks } in let x = goes_on at.low n (omega (arith, le)) (front_left q (word_of chip at.low)) (front_gave q (word_of chip at.low)).ended e.2 in goes_right (AdcGround d) (adc_bodies d f r) below chip w s (record { table = d; place = Seeks win q }) o y p m _ x.1 x.0
    seek_step (Search.High at t l) ranks (suc n) le e = let q : Front = record { search = Search.High at t l; ranks = ranks } in let x = goes_on at.high n (omega (arith, le)) (front_left q (word_of chip at.high)) (front_gave q (word_of chip at.high)).ended e.2 in goes_right (AdcGround d) (adc_bodies d f r) below chip w s (record { table = d; place = Seeks win q }) o y p m _ x.1 x.0

  -- ---- what is decided

  -- the order of the unit is the machine's
  same_order : (u : ℕ) (xs zs : List Entry) → HoldsOrder (order_of u) (word_of chip) xs → HoldsOrder (order_of u) (word_of chip) zs → xs ≡ zs
  same_order u xs zs a b = sym a.is ∙ b.is

  module _ (u : ℕ) (few : u < 2) (on : s.initialised ≡ true) (has : HasDone u below o p) (xs : List Entry) (holds : HoldsOrder (order_of u) (word_of chip) xs) (K : Place) (k v : ℕ) (ends : place_ends K ≡ None) where
    abbrev SeekDecides : Decided → Type 0
    SeekDecides x = DecidedRight d f r below chip w s o (Load k) false v y p missed K x

    module _ (unit : UnitAgrees d (word_of chip) s u) where
      next_there : (g : ℕ) → next_group d s u ≡ Some g → (choice (ranks_of d) xs ≡ g) × (g < 16)
      next_there g e = let same = same_order u xs unit.order.0 holds unit.order.1 in let x = choice_next d s u unit.order.0 unit.order.2 (holds-below (order_of u) (word_of chip) unit.order.0 unit.order.1) g e in (ap (λ z. choice (ranks_of d) z) same ∙ x.0, x.1)

      next_none : next_group d s u ≡ None → choice (ranks_of d) xs ≡ 16
      next_none e = let same = same_order u xs unit.order.0 holds unit.order.1 in ap (λ z. choice (ranks_of d) z) same ∙ choice_none d s u unit.order.0 unit.order.2 (holds-below (order_of u) (word_of chip) unit.order.0 unit.order.1) e

    -- the unit is free: its next group starts
    pub begin_sought : Agrees d (with_holds o p.acted (hold_in (Window.Begin u)) below) chip w s → some_hold (claims_on u) below ≡ false → round_at s u ≡ None → SeekDecides (sought d (Window.Begin u) (choice (ranks_of d) xs))
    begin_sought h unclaimed free = option_as (next_group d s u) (λ q. SeekDecides (sought d (Window.Begin u) (choice (ranks_of d) xs)))
        (λ g e.
        let x = next_there ((h.settled on).units u few) g e in
        let waits = and_parts (is_on u (group_of d g)) (is_some (group_at s g).waiting) (next_is d s u g e).waits in
        let small : nat_lt g 16 ≡ true = (let lt = x.1 in grind (arith, nat_tests)) in
        subst (λ z. SeekDecides (sought d (Window.Begin u) z)) (sym x.0) (subst (λ q. SeekDecides (if q then Goes (looking (Window.Convert u g false)) else over)) (sym small)
        ((h, (refl, ((has, few, on, unclaimed, (free, waits.0, waits.1, ap (λ z. starts_by z (next_group d s u)) free ∙ e)), (refl, omega arith, tt)))), refl)))
        (λ e. subst (λ x. SeekDecides (sought d (Window.Begin u) x)) (sym (next_none ((h.settled on).units u few) e)) ((drop_starts d chip w s o p.acted u below h (λ i. absurd (let none : starts d s u ≡ None = ap (λ z. starts_by z (next_group d s u)) free ∙ e in cc)), may_end d u below o p missed has), ends))

    -- the unit has a round: it yields to a group of higher priority
    pub suspend_sought : (g : ℕ) → Agrees d (with_holds o p.acted (hold_in (Window.Suspend u g)) below) chip w s → some_hold (claims_on u) below ≡ false → IsOutranked d s u g → SeekDecides (sought d (Window.Suspend u g) (choice (ranks_of d) xs))
    suspend_sought g h unclaimed round = suspends_or_stays (next_group d s u) refl
      where
        -- no group that waits outranks it
        stays : is_outranked d s u g ≡ false → SeekDecides (Goes (begins_next u))
        stays none = ((drop_yields d chip w s o p.acted u (with_holds o p.acted (hold_in (Window.Begin u)) below) h (λ e. absurd (let calm = none_out in cc)), (refl, (has, few))), refl)
          where
            none_out : is_some (aborts d w s u) ≡ false
            none_out = ap (λ q. is_some (aborts_by d w s u q)) round.is ∙ (ap (λ q. is_some (cond (not (is_finished w (group_of d round.round.group) round.round) && q) (Some round.round) None)) (ap (λ n. is_outranked d s u n) round.group ∙ none) ∙ ap (λ q. is_some (cond q (Some round.round) None)) (and_false (not (is_finished w (group_of d round.round.group) round.round))))

        suspends_or_stays : (q : Option ℕ) → next_group d s u ≡ q → SeekDecides (sought d (Window.Suspend u g) (choice (ranks_of d) xs))
        suspends_or_stays None e = subst (λ x. SeekDecides (sought d (Window.Suspend u g) x)) (sym (next_none ((h.settled on).units u few) e)) (stays (any_off (λ j. waits_for d s u j && nat_lt (rank_of d g) (rank_of d j)) (λ j lt. ap (λ q. q && nat_lt (rank_of d g) (rank_of d j)) (none_is d s u j e))))
        suspends_or_stays (Some x) e =
            let z = next_there ((h.settled on).units u few) x e in
            let small : nat_lt x 16 ≡ true = (let lt = z.1 in grind (arith, nat_tests)) in
            subst (λ n. SeekDecides (sought d (Window.Suspend u g) n)) (sym z.0) (subst (λ q. SeekDecides (Goes (if q && nat_lt (rank_of d g) (rank_of d x) then looking (Window.Suspend u g) else begins_next u))) (sym small) (ranked (nat_lt (rank_of d g) (rank_of d x)) refl))
          where
            next : IsNext d s u x
            next = next_is d s u x e

            not_less : (a b c : ℕ) → c ≤ b → nat_lt a b ≡ false → nat_lt a c ≡ false
            not_less a b c le i = grind (arith, nat_tests)

            small_x : x < 16
            small_x = (next_there ((h.settled on).units u few) x e).1

            ranked : (q : Bool) → nat_lt (rank_of d g) (rank_of d x) ≡ q → SeekDecides (Goes (if q then looking (Window.Suspend u g) else begins_next u))
            ranked true i = ((h, (refl, ((has, few, on, unclaimed, round, any_on (λ j. waits_for d s u j && nat_lt (rank_of d g) (rank_of d j)) x small_x (and_from (waits_for d s u x) (nat_lt (rank_of d g) (rank_of d x)) next.waits i)), (refl, omega arith, tt)))), refl)
            ranked false i = stays (any_off (λ j. waits_for d s u j && nat_lt (rank_of d g) (rank_of d j)) (λ j lt. off_or (waits_for d s u j) (nat_lt (rank_of d g) (rank_of d j)) (λ k. not_less (rank_of d g) (rank_of d x) (rank_of d j) (next.first j k).0 i)))

-- ---- The steps of windows that look for what may start or has to yield on a unit, and that seek it.

module _ (d : AdcTable) (fits : FitsAdc d) (f r : AdcBody → ℕ) (below : Reservations) (chip : Chip) (w : World) (s : AdcState) (m : ℕ → Bool) (y : ℕ) (o : Origin Call) (p : FrameHistory) (u : ℕ) where
  abbrev StepRight : Place → Type 0
  StepRight k = RightOr (AdcGround d) (adc_bodies d f r) below chip w s (record { table = d; place = k }) o y p m (ended_at (adc_bodies d f r) body_ends (record { table = d; place = k }) (value_of chip (body_work (record { table = d; place = k }))))

  abbrev At : Place → Type 0
  At k = AssertedAt (AdcGround d) (adc_bodies d f r) below chip w s (record { table = d; place = k }) o p

  abbrev words_held : Window → List ℕ
  words_held win = held d fits f r below chip w s m y win

  pub yield_looks : (seen : List ℕ) → InWindow d (Window.Yield u) below w s o p → At (Looks (Window.Yield u) seen) → StepRight (Looks (Window.Yield u) seen)
  yield_looks seen is stand = looks_right d f r below chip w s (Window.Yield u) o y p m (omega arith) seen stand (λ k v. yields_right d fits f r below chip w s (missed_after (adc_machine d) w s m) y u is.1 is.2 o p is.0 (Looks (Window.Yield u) (words_held (Window.Yield u))) k v refl stand.0)

  pub begin_looks : (seen : List ℕ) → InWindow d (Window.Begin u) below w s o p → At (Looks (Window.Begin u) seen) → StepRight (Looks (Window.Begin u) seen)
  begin_looks seen is stand = looks_right d f r below chip w s (Window.Begin u) o y p m (omega arith) seen stand (λ k v. begins_right d fits f r below chip w s (missed_after (adc_machine d) w s m) y u is.1 is.2 o p is.0 (Looks (Window.Begin u) (words_held (Window.Begin u))) k v refl stand.0)

  pub begin_seeks : (q : Front) → MaySeek d (Window.Begin u) below w s o p → IsSeeking d (foot_of chip) (Window.Begin u) q → Agrees d (with_holds o p.acted (hold_in (Window.Begin u)) below) chip w s → StepRight (Seeks (Window.Begin u) q)
  begin_seeks q is seek h =
      seek_step d fits f r below chip w s m y o p (Window.Begin u) is h seek.1 seek.3 (λ K k v ends. begin_sought d fits f r below chip w s m y o p u is.1 is.2 is.0 seek.1 seek.3 K k v ends h is.3 is.4) q.search q.ranks seek.0 seek.2 seek.4

  pub suspend_seeks : (g : ℕ) (q : Front) → MaySeek d (Window.Suspend u g) below w s o p → IsSeeking d (foot_of chip) (Window.Suspend u g) q → Agrees d (with_holds o p.acted (hold_in (Window.Suspend u g)) below) chip w s → StepRight (Seeks (Window.Suspend u g) q)
  suspend_seeks g q is seek h =
      seek_step d fits f r below chip w s m y o p (Window.Suspend u g) is h seek.1 seek.3 (λ K k v ends. suspend_sought d fits f r below chip w s m y o p u is.1 is.2 is.0 seek.1 seek.3 K k v ends g h is.3 is.4) q.search q.ranks seek.0 seek.2 seek.4
