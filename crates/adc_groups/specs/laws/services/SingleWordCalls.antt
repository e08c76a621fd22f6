-- A window looks at its words and decides: acts that change nothing, and calls that change one word of their group.
-- From services.Decisions, services.BodySteps, words.StoreOneWord, words.WindowWords, words.WordsOfModule and 5 more.
-- Used by services.CallSteps, adc_laws: serving.services.PinRight, services.DeInitRight, services.SeekRight and 12 more.
use Rattle.std.proofs.Common.{◌≡◌, ◌≢◌, ◌+◌, ◌-◌, ◌*◌, ◌/◌, ◌%◌, ◌<◌, ◌≤◌, ◌||◌, [], ◌∷◌, ◌++◌, ◌∙◌, if◌then◌else◌}
use Rattle.adc_groups.specs.Terms
use Terms.{acts_and_ends, acts_by, adc_bodies, adc_machine, AdcBody, AdcGround, AdcState, AdcTable, add-mul, Agrees}
use Terms.{Answer, answer_refused, answers, ap, arith, asks_no, AssertedAt, bit_of, body_ends, body_work, BodyTaken}
use Terms.{Bool, buffer_number, Busy, Call, Called, change, Chip, chip_after, chosen_of, circumstances, clean_in}
use Terms.{Completed, Continuation, Decided, decided, div-add-mod', Done, done, ended_at, ended_by, ends_with_stream}
use Terms.{EOk, error_by, error_told, ErrorName, Event, false, first_error, FitsAdc, follows, foot_of, FrameHistory}
use Terms.{fresh_history, GetGroupStatus, GetStreamLastPointer, Goes, goes_right, Group, group_at, group_facts}
use Terms.{group_of, group_service, group_word, GroupAgrees, GroupCall, GroupState, has_turn, Idle, is_idle}
use Terms.{is_reset_service, is_some, Is_this_frame, IsDealing, IsSoundGroup, length, List, Load, look_move, look_takes}
use Terms.{Looks, Makes, MakesTo, making, map, MayCall, min, missed_after, mod-mul-add, mod_below, Move, name_of, named}
use Terms.{nat_lt, nat_tests, no_answer, None, not, Nothing, Notification, numbers, Option, or_parts, Origin, outcome}
use Terms.{owed, owing_notices, phase_in, phase_of, Place, place_ends, point, point_by, pointed, Points, points}
use Terms.{preceding, refl, Request, Reservations, ResultBuffer, RightOr, samples_of, seen_more, Service, service_of}
use Terms.{Set, SetupResultBuffer, slice_get, Some, SoundGroup, Status, status, status_read, Store, StreamCompleted}
use Terms.{subst, suc, sym, take, tells_error, true, value_of, whether_as, Window, with_group, Word, word_number}
use Terms.{word_of, words_of, work, World, WriteBatch, zero, zero_null, ℕ}
use Rattle.adc_groups.specs.laws.words.StoreOneWord.{group_with, others_here, same, stored_here, touched, Touches}
use Rattle.adc_groups.specs.laws.words.{StoreOneWord.{turn_same}, WindowWords.{word_at}, WordsOfModule.{some_samples}}
use Rattle.adc_groups.specs.laws.words.WordsOfModule.{within}
use Rattle.adc_machine.specs.Groups as groups

one_less : (a r n : ℕ) → a + r ≡ n → 0 < r → a + (r - 1) ≡ n - 1
one_less a r n e some = omega (arith, e, some)

one_row : (a b k n : ℕ) → b ≡ n → b ≡ a + 1 * k → 0 < k → a + (k - 1) ≡ n - 1
one_row a b k n e at pos = omega (arith, e, at, pos)

last_row : (q k n : ℕ) → q * k ≡ n → 0 < n → 0 < k → (q - 1) * k + (k - 1) ≡ n - 1
last_row zero k n e some pos = let none : zero * k ≡ 0 = omega arith in absurd (omega (arith, e, none, some))
last_row (suc q) k n e some pos =
    let same : suc q ≡ q + 1 = omega arith in
    let back : suc q - 1 ≡ q = omega arith in
    ap (λ x. x * k + (k - 1)) back ∙ one_row (q * k) (suc q * k) k n e (ap (λ x. x * k) same ∙ add-mul q 1 k) pos

pub preceding_place : (n k : ℕ) → 0 < n → 0 < k → preceding (n % k) k ≡ (n - 1) % k
preceding_place n k some pos = whether_as (nat_lt 0 (n % k)) (λ b. (if b then n % k - 1 else k - 1) ≡ (n - 1) % k)
    (λ e.
    let more : 0 < n % k = grind (arith, nat_tests) in
    let below = mod_below n k pos in
    let lt : n % k - 1 < k = omega (arith, below) in
    sym (mod-mul-add (n / k) k (n % k - 1) lt) ∙ ap (λ x. x % k) (one_less (n / k * k) (n % k) n whole more))
    (λ e.
    let none : n % k ≡ 0 = grind (arith, nat_tests) in
    let lt : k - 1 < k = omega (arith, pos) in
    let rows : n / k * k ≡ n = omega (arith, whole, none) in
    sym (mod-mul-add (n / k - 1) k (k - 1) lt) ∙ ap (λ x. x % k) (last_row (n / k) k n rows some pos))
  where
    whole : n / k * k + n % k ≡ n
    whole = div-add-mod' n k

-- ---- A window looks at its words one after the other: once it has seen all of them, what it decides by them is right.

-- what is decided is right: the frame stands where it goes on, or may end so, and it hasn't ended itself
abbrev pub DecidedRight : (d : AdcTable) (f r : AdcBody → ℕ) → Reservations → Chip → World → AdcState → Origin Call → (made : Move) → (clean : Bool) → (value received : ℕ) → FrameHistory → (ℕ → Bool) → Place → Decided → Type 0
DecidedRight d f r below chip w s o made clean v y p m k x =
    MakesTo (AdcGround d) (adc_bodies d f r) below chip (chip_after chip made y) w s o made clean v y p m (record { table = d; place = (follows k x).0 }, (follows k x).1)
    × (place_ends (follows k x).0 ≡ None)

-- ---- lists

got : {A : Type 0} (xs : List A) (n : ℕ) → n < length xs → (x : A) × (slice_get xs n ≡ Some x)
got [] n lt = absurd (omega (arith, lt))
got (x ∷ xs) zero lt = (x, refl)
got (x ∷ xs) (suc n) lt = got xs n (omega (arith, lt))

none_past : {A : Type 0} (xs : List A) (n : ℕ) → slice_get xs n ≡ None → length xs ≤ n
none_past [] n e = omega arith
none_past (x ∷ xs) zero e = absurd (cc)
none_past (x ∷ xs) (suc n) e = let le = none_past xs n e in omega (arith, le)

pub some_within : {A : Type 0} (xs : List A) (n : ℕ) (x : A) → slice_get xs n ≡ Some x → n < length xs
some_within [] n x e = absurd (cc)
some_within (y ∷ ys) zero x e = omega arith
some_within (y ∷ ys) (suc n) x e = let lt = some_within ys n x e in omega (arith, lt)

taken_more : {A : Type 0} (f : A → ℕ) (xs : List A) (n : ℕ) (x : A) → slice_get xs n ≡ Some x → take (suc n) (map f xs) ≡ take n (map f xs) ++ f x ∷ []
taken_more f [] n x e = absurd (cc)
taken_more f (y ∷ ys) zero x e = let same : y ≡ x = cc in ap (λ z. f z ∷ []) same
taken_more f (y ∷ ys) (suc n) x e = ap (λ zs. f y ∷ zs) (taken_more f ys n x e)

taken_all : (xs : List ℕ) (n : ℕ) → length xs ≤ n → take n xs ≡ xs
taken_all [] zero le = refl
taken_all [] (suc n) le = refl
taken_all (x ∷ xs) zero le = absurd (omega (arith, le))
taken_all (x ∷ xs) (suc n) le = ap (λ zs. x ∷ zs) (taken_all xs n (omega (arith, le)))

taken_length : (xs : List ℕ) (n : ℕ) → n ≤ length xs → length (take n xs) ≡ n
taken_length xs zero le = refl
taken_length [] (suc n) le = absurd (omega (arith, le))
taken_length (x ∷ xs) (suc n) le = ap suc (taken_length xs n (omega (arith, le)))

mapped_length : {A : Type 0} (f : A → ℕ) (xs : List A) → length (map f xs) ≡ length xs
mapped_length f [] = refl
mapped_length f (x ∷ xs) = ap suc (mapped_length f xs)

pub none_ends : (q : Option Answer) (left : Option Done) → q ≡ None → ended_by q left ≡ None
none_ends None left e = refl
none_ends (Some a) left e = absurd (cc)

-- ---- a window's words

module _ (d : AdcTable) (f r : AdcBody → ℕ) (below : Reservations) (chip : Chip) (w : World) (s : AdcState) (win : Window) (o : Origin Call) (y : ℕ) (p : FrameHistory) (m : ℕ → Bool) (few : length (words_of win) ≤ 6) where
  -- what the words hold
  abbrev held : List ℕ
  held = map (λ x. word_of chip (word_number d x)) (words_of win)

  abbrev missed : ℕ → Bool
  missed = missed_after (adc_machine d) w s m

  abbrev look_body : List ℕ → AdcBody
  look_body seen = record { table = d; place = Looks win seen }

  -- a step that saw these words, by the one that comes next
  abbrev Steps : (k v : ℕ) → Place × BodyTaken → Type 0
  Steps k v z = MakesTo (AdcGround d) (adc_bodies d f r) below chip chip w s o (Load k) (clean_in win) v y p missed (record { table = d; place = z.0 }, z.1) × (ended_by (place_ends z.0) z.1.done ≡ None)

  abbrev Decides : Type 0
  Decides = (k v : ℕ) → DecidedRight d f r below chip w s o (Load k) (clean_in win) v y p missed (Looks win held) (decided d win held)

  module _ (n : ℕ) (x : Word) (at : slice_get (words_of win) n ≡ Some x) (stand : AssertedAt (AdcGround d) (adc_bodies d f r) below chip w s (look_body (take n held)) o p) (decides : Decides) where
    look_within : n < length (words_of win)
    look_within = some_within (words_of win) n x at

    same_length : length held ≡ length (words_of win)
    same_length = mapped_length (λ z. word_of chip (word_number d z)) (words_of win)

    long : length (take (suc n) held) ≡ suc n
    long = let same = same_length in let lt = look_within in taken_length held (suc n) (omega (arith, same, lt))

    by_next : (q : Option Word) → slice_get (words_of win) (suc n) ≡ q → (k v : ℕ) → Steps k v (look_takes d win (take (suc n) held) q)
    by_next (Some z) e k v =
        let lt = some_within (words_of win) (suc n) z e in
        ((stand.0, (stand.1.0, (stand.1.1.0, (ap (λ i. take i held) (sym long), (let l = long in omega (arith, l, lt)), stand.1.1.1.2)))), refl)
    by_next None e k v =
        let le = none_past (words_of win) (suc n) e in
        let all : take (suc n) held ≡ held = (let same = same_length in taken_all held (suc n) (omega (arith, same, le))) in
        let right : Steps k v (follows (Looks win held) (decided d win held)) = (let z = decides k v in (z.0, none_ends (place_ends (follows (Looks win held) (decided d win held)).0) (follows (Looks win held) (decided d win held)).1.done z.1)) in
        subst (λ seen. Steps k v (follows (Looks win seen) (decided d win seen))) (sym all) right

    seen_one : (k : ℕ) → Steps k (word_of chip (word_number d x)) (look_takes d win (seen_more (take n held) (word_of chip (word_number d x))) (word_at win (length (seen_more (take n held) (word_of chip (word_number d x))))))
    seen_one k =
        let v : ℕ = word_of chip (word_number d x) in
        let short : nat_lt (length (take n held)) 6 ≡ true = (let lt = look_within in let same = same_length in let l : length (take n held) ≡ n = taken_length held n (omega (arith, same, lt)) in subst (λ i. nat_lt i 6 ≡ true) (sym l) (let less : n < 6 = omega (arith, lt, few) in grind (arith, nat_tests))) in
        let more : seen_more (take n held) v ≡ take (suc n) held = ap (λ q. if q then take n held ++ v ∷ [] else take n held) short ∙ sym (taken_more (λ z. word_of chip (word_number d z)) (words_of win) n x at) in
        subst (λ seen. Steps k v (look_takes d win seen (word_at win (length seen)))) (sym more) (subst (λ i. Steps k v (look_takes d win (take (suc n) held) (word_at win i))) (sym long) (by_next (word_at win (suc n)) refl k v))

  -- the step of a window, by what it has seen and by the word that is next
  abbrev Whole : List ℕ → ℕ → Option Word → Type 0
  Whole xs n q =
      let made : Move = look_move d q in
      let v : ℕ = value_of chip made in
      let z : Place × BodyTaken = look_takes d win (seen_more xs v) (word_at win (length (seen_more xs v))) in
      MakesTo (AdcGround d) (adc_bodies d f r) below chip (chip_after chip made y) w s o made (clean_in win) v y p missed (record { table = d; place = z.0 }, z.1) × (ended_by (place_ends z.0) z.1.done ≡ None)

  -- the step of a window that looks
  pub looks_right : (seen : List ℕ) → AssertedAt (AdcGround d) (adc_bodies d f r) below chip w s (look_body seen) o p → Decides
      → RightOr (AdcGround d) (adc_bodies d f r) below chip w s (look_body seen) o y p m (ended_at (adc_bodies d f r) body_ends (look_body seen) (value_of chip (look_move d (word_at win (length seen)))))
  looks_right seen stand decides = goes_right (AdcGround d) (adc_bodies d f r) below chip w s (look_body seen) o y p m (ended_at (adc_bodies d f r) body_ends (look_body seen) (value_of chip (look_move d (word_at win (length seen))))) whole.1 whole.0
    where
      here : (x : Word) × (slice_get (words_of win) (length seen) ≡ Some x)
      here = got (words_of win) (length seen) stand.1.1.1.1

      is_seen : seen ≡ take (length seen) held
      is_seen = stand.1.1.1.0

      whole : Whole seen (length seen) (word_at win (length seen))
      whole = subst (Whole seen (length seen)) (sym here.1) (subst (λ xs. Whole xs (length seen) (Some here.0)) (sym is_seen) (seen_one (length seen) here.0 here.1 (subst (λ xs. AssertedAt (AdcGround d) (adc_bodies d f r) below chip w s (look_body xs) o p) is_seen stand) decides (word_number d here.0)))

-- ---- Acts that change nothing: calls that find an error in what they have looked at, and questions.

-- ---- the errors of a call about a group

-- no call resets the chip
pub not_reset : (c : Call) → is_reset_service (service_of c) ≡ false
not_reset (Call.Group g (Notification true)) = refl
not_reset _ = refl

-- those of an initialised module about a group that is there
pub group_errors : (d : AdcTable) (s : AdcState) (g : ℕ) (call : GroupCall) → MayCall d s g call
    → error_by d (Call.Group g call) (circumstances d s (Call.Group g call)) ≡ first_error (group_service call) (false ∷ false ∷ group_facts call (group_of d g) (circumstances d s (Call.Group g call)))
group_errors d s g call may =
    let rest : List Bool = group_facts call (group_of d g) (circumstances d s (Call.Group g call)) in
    ap (λ u. first_error (group_service call) (u ∷ not (is_some (group_of d g)) ∷ rest)) (ap (λ q. not q) may.on)
    ∙ ap (λ t. first_error (group_service call) (false ∷ t ∷ rest)) (ap (λ q. not q) may.there)

-- ---- acts

module _ (d : AdcTable) (f r : AdcBody → ℕ) (below : Reservations) (chip : Chip) (w : World) (s : AdcState) (h : Agrees d below chip w s) (m : ℕ → Bool) (y : ℕ) where
  -- it finds an error
  pub refused_right : (c : Call) (e : ErrorName) (K : Place) (k v : ℕ) → place_ends K ≡ None → error_by d c (circumstances d s c) ≡ Some e
      → DecidedRight d f r below chip w s (Called c) (Load k) true v y fresh_history m K (acts_and_ends (answer_refused c) (owed d (service_of c) e))
  refused_right c e K k v ends is =
      let told = error_told (adc_machine d) c (answer_refused c) e in (
        record {
          may = refl;
          stands = tt;
          state = s;
          told = tells_error (answer_refused c) e;
          begins = None;
          is = ap (λ x. Some (acts_by d s c x)) is;
          sends = tt;
          acts = (refl, refl);
          reset = sym (asks_no (adc_machine d) c (Some Event.Act) (Some (outcome s (tells_error (answer_refused c) e))) (not_reset c));
          next = (h, record { may = (refl, refl); served = false; owed = ap (λ ns. owing_notices false ns) told.1; shown = λ i. absurd (cc); report = told.2 });
        },
        ends,
      )

  -- it answers, and leaves all as it is
  pub answered_right : (c : Call) (a : Answer) (K : Place) (k v : ℕ) → place_ends K ≡ None → error_by d c (circumstances d s c) ≡ None → work d s c ≡ outcome s (answers a)
      → DecidedRight d f r below chip w s (Called c) (Load k) true v y fresh_history m K (acts_and_ends a Nothing)
  answered_right c a K k v ends none is = (
    record {
      may = refl;
      stands = tt;
      state = s;
      told = answers a;
      begins = None;
      is = ap (λ x. Some (acts_by d s c x)) none ∙ ap (λ x. Some x) is;
      sends = tt;
      acts = tt;
      reset = sym (asks_no (adc_machine d) c (Some Event.Act) (Some (outcome s (answers a))) (not_reset c));
      next = (h, record { may = (refl, refl); served = false; owed = refl; shown = λ i. absurd (cc); report = refl });
    },
    ends,
  )

  -- ---- Adc_GetGroupStatus

  named_as : (x : Status) (on : Bool) → name_of (phase_in (phase_of x on)) ≡ groups.name_of x
  named_as StreamCompleted true = refl
  named_as _ _ = refl

  pub status_right : (g : ℕ) (K : Place) (k v : ℕ) → place_ends K ≡ None → MayCall d s g GetGroupStatus
      → DecidedRight d f r below chip w s (Called (Call.Group g GetGroupStatus)) (Load k) true v y fresh_history m K (status (word_of chip (word_number d (Word.Phase g))))
  status_right g K k v ends may =
      let there = (h.settled may.on).groups g may.there in
      let x : Status = (group_at s g).status in
      let on : Bool = has_turn s g || (group_at s g).trigger in
      let same : name_of (phase_in (word_of chip (word_number d (Word.Phase g)))) ≡ groups.name_of x = ap (λ p. name_of (phase_in p)) there.phase ∙ named_as x on in
      subst (λ n. DecidedRight d f r below chip w s (Called (Call.Group g GetGroupStatus)) (Load k) true v y fresh_history m K (acts_and_ends (named n) Nothing)) (sym same)
      (answered_right (Call.Group g GetGroupStatus) (named (groups.name_of x)) K k v ends (group_errors d s g GetGroupStatus may) refl)

  -- ---- Adc_GetStreamLastPointer

  abbrev pointer : ℕ → Call
  pointer g = Call.Group g GetStreamLastPointer

  abbrev PointRight : (g : ℕ) → Place → (k v : ℕ) → Decided → Type 0
  PointRight g K k v x = DecidedRight d f r below chip w s (Called (pointer g)) (Load k) true v y fresh_history m K x

  point_errors : (g : ℕ) (x : Status) → MayCall d s g GetStreamLastPointer → (group_at s g).status ≡ x → error_by d (pointer g) (circumstances d s (pointer g)) ≡ first_error Service.AdcGetStreamLastPointer (false ∷ false ∷ is_idle x ∷ false ∷ false ∷ false ∷ [])
  point_errors g x may is = group_errors d s g GetStreamLastPointer may ∙ ap (λ z. first_error Service.AdcGetStreamLastPointer (false ∷ false ∷ is_idle z ∷ false ∷ false ∷ false ∷ [])) is

  -- a group that has a round: its change is to be made
  asked : (g : ℕ) (K : Place) (k v : ℕ) → MayCall d s g GetStreamLastPointer → (x : Status) → (group_at s g).status ≡ x → (x ≡ Busy → ⊥) → (x ≡ Idle → ⊥) → (n : ℕ) → phase_of (status_read (ends_with_stream (group_of d g)) x) true ≡ n → (ns : List ℕ) → ns ≡ pointed d s g
      → PointRight g K k v (Goes (change (Set (Word.Phase g) n) (numbers ns)))
  asked g K k v may x is nb ni n phase ns told =
      let deals : IsDealing d below (foot_of chip) w s (Called (pointer g)) fresh_history (making (Some Event.Act) (Set (Word.Phase g) n ∷ []) (Continuation.Ends (done (numbers ns)))) =
      subst (λ c. IsDealing d below (foot_of chip) w s (Called (pointer g)) fresh_history (making (Some Event.Act) (Set (Word.Phase g) c ∷ []) (Continuation.Ends (done (numbers ns))))) phase
      (subst (λ c. IsDealing d below (foot_of chip) w s (Called (pointer g)) fresh_history (making (Some Event.Act) (Set (Word.Phase g) (phase_of (status_read (ends_with_stream (group_of d g)) x) true) ∷ []) (Continuation.Ends (done (numbers c))))) (sym told)
      (Points g x (Is_this_frame, may) is nb ni)) in
      ((h, (refl, deals)), refl)

  -- the phase that a group has once its newest round was read
  pub completed_phase : (b : Bool) → phase_of (status_read b Completed) true ≡ 1
  completed_phase true = refl
  completed_phase false = refl

  ends_as : (a b : Bool) → a ≡ not b → b ≡ not a
  ends_as true false e = refl
  ends_as false true e = refl
  ends_as _ _ e = absurd (cc)

  pub streamed_phase : (g : ℕ) (on : Bool) → (group_at s g).status ≡ StreamCompleted → has_turn s g || (group_at s g).trigger ≡ on → phase_of (status_read (ends_with_stream (group_of d g)) StreamCompleted) true ≡ phase_of (status_read (not on) StreamCompleted) true
  streamed_phase g on is so = ap (λ b. phase_of (status_read b StreamCompleted) true) (ends_as on (ends_with_stream (group_of d g)) (sym so ∙ (h.sound.groups g).going is))

  module _ (g : ℕ) (K : Place) (k v : ℕ) (ends : place_ends K ≡ None) (may : MayCall d s g GetStreamLastPointer) (c p : ℕ) (told : (group_at s g).status ≢ Idle → 0 < length (group_at s g).rounds → c ∷ preceding p (samples_of (group_of d g)) ∷ [] ≡ pointed d s g) where
    more : {m n : ℕ} → m ≤ n → (m ≤ 0 → ⊥) → 0 < n
    more le some = grind arith

    point_by_status : (x : Status) (on : Bool) → (group_at s g).status ≡ x → has_turn s g || (group_at s g).trigger ≡ on → (samples_of (group_of d g) ≤ 0 → ⊥) → PointRight g K k v (point_by d g c p (phase_in (phase_of x on)))
    point_by_status Idle on is so some = refused_right (pointer g) ErrorName.AdcIdle K k v ends (point_errors g Idle may is)
    point_by_status Busy on is so some = answered_right (pointer g) zero_null K k v ends (point_errors g Busy may is) (ap (λ z. points d s g z) is)
    point_by_status Completed on is so some = asked g K k v may Completed is (λ e. absurd (cc)) (λ e. absurd (cc)) 1 (completed_phase (ends_with_stream (group_of d g))) _ (told (λ e. absurd (let i = is in cc)) ((h.sound.groups g).rounds is))
    point_by_status StreamCompleted true is so some = asked g K k v may StreamCompleted is (λ e. absurd (cc)) (λ e. absurd (cc)) 1 (streamed_phase g true is so) _ (told (λ e. absurd (let i = is in cc)) (let le = (h.sound.groups g).stream is in more le some))
    point_by_status StreamCompleted false is so some = asked g K k v may StreamCompleted is (λ e. absurd (cc)) (λ e. absurd (cc)) 0 (streamed_phase g false is so) _ (told (λ e. absurd (let i = is in cc)) (let le = (h.sound.groups g).stream is in more le some))

  pub point_right : FitsAdc d → (g : ℕ) (K : Place) (k v : ℕ) → place_ends K ≡ None → MayCall d s g GetStreamLastPointer
      → PointRight g K k v (point d g (word_of chip (word_number d (Word.Phase g))) (word_of chip (word_number d (Word.Count g))) (word_of chip (word_number d (Word.Place g))))
  point_right fits g K k v ends may =
      let there = (h.settled may.on).groups g may.there in
      let x : Status = (group_at s g).status in
      let on : Bool = has_turn s g || (group_at s g).trigger in
      let c : ℕ = word_of chip (word_number d (Word.Count g)) in
      let p : ℕ = word_of chip (word_number d (Word.Place g)) in
      let some = some_samples d fits g may.there in
      let told = λ (ne : x ≢ Idle) (more : 0 < length (group_at s g).rounds).
      ap (λ z. z ∷ preceding p (samples_of (group_of d g)) ∷ []) (there.count ne)
      ∙ ap (λ z. min (length (group_at s g).rounds) (samples_of (group_of d g)) ∷ z ∷ []) (ap (λ z. preceding z (samples_of (group_of d g))) (there.place ne) ∙ preceding_place (length (group_at s g).rounds) (samples_of (group_of d g)) more some) in
      subst (λ z. PointRight g K k v (point_by d g c p (phase_in z))) (sym there.phase) (point_by_status g K k v ends may c p told x on refl refl (λ le. omega (arith, le, some)))

-- ---- Calls that change one word of their group: the step that makes the change.

-- ---- what stays so of a group

no_group : {A : Type 0} (k : Option Group) → is_some k ≡ true → k ≡ None → A
no_group None there e = absurd (cc)
no_group (Some k) there e = absurd (cc)

-- a buffer, a notification and a request that waits are no matter of its status, of its trigger or of its rounds
aside_sound : (k : Option Group) (q : Bool) (x : GroupState) (b : Option ResultBuffer) (on : Bool) (r : Option Request) → is_some k ≡ true → (x.status ≢ Idle → is_some b ≡ true) → SoundGroup k q x → SoundGroup k q (record x { chosen = b; notification = on; waiting = r })
aside_sound k q x b on r there chosen h = record {
  configured = λ e. no_group k there e;
  chosen = chosen;
  turn = h.turn;
  trigger = h.trigger;
  input = h.input;
  going = h.going;
  rounds = h.rounds;
  stream = h.stream;
  linear = h.linear;
  lasts = h.lasts;
  whole = h.whole;
}

pub chosen_sound : (k : Option Group) (q : Bool) (x : GroupState) (b : ResultBuffer) → is_some k ≡ true → SoundGroup k q x → SoundGroup k q (record x { chosen = Some b })
chosen_sound k q x b there h = aside_sound k q x (Some b) x.notification x.waiting there (λ e. refl) h

pub notified_sound : (k : Option Group) (q : Bool) (x : GroupState) (on : Bool) → is_some k ≡ true → SoundGroup k q x → SoundGroup k q (record x { notification = on })
notified_sound k q x on there h = aside_sound k q x x.chosen on x.waiting there h.chosen h

pub waiting_sound : (k : Option Group) (q : Bool) (x : GroupState) (r : Option Request) → is_some k ≡ true → SoundGroup k q x → SoundGroup k q (record x { waiting = r })
waiting_sound k q x r there h = aside_sound k q x x.chosen x.notification r there h.chosen h

-- it is busy, or idle with nothing under way
busy_sound : (k : Option Group) (q : Bool) (x : GroupState) → is_some k ≡ true → x.status ≢ Idle → SoundGroup k q x → SoundGroup k q (record x { status = Busy })
busy_sound k q x there ne h = record {
  configured = λ e. no_group k there e;
  chosen = λ e. h.chosen ne;
  turn = λ e. absurd (cc);
  trigger = λ e. absurd (cc);
  input = h.input;
  going = λ e. absurd (cc);
  rounds = λ e. absurd (cc);
  stream = λ e. absurd (cc);
  linear = h.linear;
  lasts = h.lasts;
  whole = h.whole;
}

idle_sound : (k : Option Group) (q : Bool) (x : GroupState) → is_some k ≡ true → x.status ≡ StreamCompleted → ends_with_stream k ≡ true → SoundGroup k q x → SoundGroup k q (record x { status = Idle })
idle_sound k q x there is ends h =
    let off = or_parts q x.trigger (h.going is ∙ ap (λ b. not b) ends) in
    record {
      configured = λ e. no_group k there e;
      chosen = λ e. absurd (e refl);
      turn = λ e. off.0;
      trigger = λ e. off.1;
      input = h.input;
      going = λ e. absurd (cc);
      rounds = λ e. absurd (cc);
      stream = λ e. absurd (cc);
      linear = h.linear;
      lasts = h.lasts;
      whole = h.whole;
    }

-- after its newest round was read
pub read_sound : (k : Option Group) (q : Bool) (x : GroupState) → is_some k ≡ true → x.status ≢ Idle → SoundGroup k q x → SoundGroup k q (record x { status = status_read (ends_with_stream k) x.status })
read_sound k q x there ne h = by (ends_with_stream k) refl x.status refl
  where
    by : (b : Bool) → ends_with_stream k ≡ b → (z : Status) → x.status ≡ z → SoundGroup k q (record x { status = status_read b z })
    by true e StreamCompleted f = idle_sound k q x there f e h
    by false e Idle f = busy_sound k q x there ne h
    by _ e _ f = busy_sound k q x there ne h

-- what was read isn't completed any more, so that its phase is the same whether it goes on or not
pub read_phase : (b : Bool) (z : Status) (on : Bool) → phase_of (status_read b z) true ≡ phase_of (status_read b z) on
read_phase true Idle on = refl
read_phase false Idle on = refl
read_phase _ _ on = refl

pub not_idle : (z : Status) → (z ≡ Idle → ⊥) → is_idle z ≡ false
not_idle Idle ne = absurd (ne refl)
not_idle _ ne = refl

module _ (d : AdcTable) (fits : FitsAdc d) (f r : AdcBody → ℕ) (below : Reservations) (chip : Chip) (w : World) (s : AdcState) (h : Agrees d below chip w s) (m : ℕ → Bool) (y : ℕ) where
  abbrev body : WriteBatch → AdcBody
  body k = record { table = d; place = Makes k }

  abbrev IsRight : WriteBatch → Call → Type 0
  IsRight k c = RightOr (AdcGround d) (adc_bodies d f r) below chip w s (body k) (Called c) y fresh_history m (ended_at (adc_bodies d f r) body_ends (body k) (value_of chip (body_work (body k))))

  -- a call acts at its one deed, with this answer
  deed_right : (c : Call) (word : Word) (v : ℕ) (a : Answer) (t : AdcState) → error_by d c (circumstances d s c) ≡ None → work d s c ≡ outcome t (answers a)
      → Agrees d below (chip_after chip (Store (word_number d word) v) 0) w t → IsRight (making (Some Event.Act) (Set word v ∷ []) (Continuation.Ends (done a))) c
  deed_right c word v a t none is represents = record {
    may = refl;
    stands = tt;
    state = t;
    told = answers a;
    begins = None;
    is = ap (λ x. Some (acts_by d s c x)) none ∙ ap (λ x. Some x) is;
    sends = tt;
    acts = tt;
    reset = sym (asks_no (adc_machine d) c (Some Event.Act) (Some (outcome t (answers a))) (not_reset c));
    next = (represents, record { may = (refl, refl); served = false; owed = refl; shown = λ i. absurd (cc); report = refl });
  }

  -- with a change of a group that stands for one of its first three words
  module _ (g : ℕ) (on : s.initialised ≡ true) (there : is_some (group_of d g) ≡ true) (i v : ℕ) (lt : i < 3) (x : GroupState) (keeps : Touches s g x) (too : x.status ≢ Idle → (group_at s g).status ≢ Idle) (sound : SoundGroup (group_of d g) (has_turn s g) x) where
    small : g < 16
    small = within d g there

    fresh : IsSoundGroup d (with_group s g x) g
    fresh = subst (λ z. SoundGroup (group_of d g) (has_turn (with_group s g x) g) z) (sym (same d w s h.sound g small x keeps)) (subst (λ q. SoundGroup (group_of d g) q x) (sym (turn_same d w s h.sound g small x keeps g)) sound)

    abbrev later : Chip
    later = chip_after chip (Store (group_word d g i) v) 0

    now : GroupAgrees d (word_of chip) s g
    now = (h.settled on).groups g there

    here : word_of later (group_word d g i) ≡ v
    here = stored_here d fits below chip w s h on g there i v lt x keeps too

    other : (j : ℕ) → j ≢ i → j < 32 → word_of later (group_word d g j) ≡ word_of chip (group_word d g j)
    other = others_here d fits below chip w s h on g there i v lt x keeps too

    one_changed : word_of later (group_word d g 0) ≡ phase_of x.status (has_turn s g || x.trigger) → word_of later (group_word d g 1) ≡ chosen_of x.chosen → word_of later (group_word d g 2) ≡ bit_of x.notification → Agrees d below later w (with_group s g x)
    one_changed phase chosen notified = touched d fits below chip w s h on g there i v lt x keeps too fresh (group_with d fits below chip w s h on g there i v lt x keeps too phase chosen notified)

  pub sets_up : (g : ℕ) (b : ResultBuffer) → MayCall d s g (SetupResultBuffer (Some b)) → (group_at s g).status ≡ Idle
      → IsRight (making (Some Event.Act) (Set (Word.Chosen g) (1 + buffer_number b) ∷ []) (Continuation.Ends (done (named EOk)))) (Call.Group g (SetupResultBuffer (Some b)))
  sets_up g b may idle =
      let x : GroupState = record (group_at s g) { chosen = Some b } in
      let keeps : Touches s g x = record { waiting = refl; trigger = refl; rounds = refl } in
      let sound = chosen_sound (group_of d g) (has_turn s g) (group_at s g) b may.there (h.sound.groups g) in
      let was = now g may.on may.there 1 (1 + buffer_number b) (omega arith) x keeps (λ e. e) sound in
      let at = other g may.on may.there 1 (1 + buffer_number b) (omega arith) x keeps (λ e. e) sound in
      deed_right (Call.Group g (SetupResultBuffer (Some b))) (Word.Chosen g) (1 + buffer_number b) (named EOk) (with_group s g x)
      (group_errors d s g (SetupResultBuffer (Some b)) may ∙ ap (λ z. first_error Service.AdcSetupResultBuffer (false ∷ false ∷ false ∷ not (is_idle z) ∷ false ∷ false ∷ [])) idle) refl
      (one_changed g may.on may.there 1 (1 + buffer_number b) (omega arith) x keeps (λ e. e) sound
      (at 0 (λ z. omega (arith, z)) (omega arith) ∙ was.phase) (here g may.on may.there 1 (1 + buffer_number b) (omega arith) x keeps (λ e. e) sound) (at 2 (λ z. omega (arith, z)) (omega arith) ∙ was.notified))

  notifies_by : (g : ℕ) (on : Bool) → MayCall d s g (Notification on) → error_by d (Call.Group g (Notification on)) (circumstances d s (Call.Group g (Notification on))) ≡ None
      → IsRight (making (Some Event.Act) (Set (Word.Notified g) (bit_of on) ∷ []) (Continuation.Ends (done no_answer))) (Call.Group g (Notification on))
  notifies_by g on may none =
      let x : GroupState = record (group_at s g) { notification = on } in
      let keeps : Touches s g x = record { waiting = refl; trigger = refl; rounds = refl } in
      let sound = notified_sound (group_of d g) (has_turn s g) (group_at s g) on may.there (h.sound.groups g) in
      let was = now g may.on may.there 2 (bit_of on) (omega arith) x keeps (λ e. e) sound in
      let at = other g may.on may.there 2 (bit_of on) (omega arith) x keeps (λ e. e) sound in
      deed_right (Call.Group g (Notification on)) (Word.Notified g) (bit_of on) no_answer (with_group s g x) none refl
      (one_changed g may.on may.there 2 (bit_of on) (omega arith) x keeps (λ e. e) sound
      (at 0 (λ z. omega (arith, z)) (omega arith) ∙ was.phase) (at 1 (λ z. omega (arith, z)) (omega arith) ∙ was.chosen) (here g may.on may.there 2 (bit_of on) (omega arith) x keeps (λ e. e) sound))

  pub notifies : (g : ℕ) (on : Bool) → MayCall d s g (Notification on) → IsRight (making (Some Event.Act) (Set (Word.Notified g) (bit_of on) ∷ []) (Continuation.Ends (done no_answer))) (Call.Group g (Notification on))
  notifies g true may = notifies_by g true may (group_errors d s g (Notification true) may ∙ ap (λ z. first_error Service.AdcEnableGroupNotification (false ∷ false ∷ z ∷ false ∷ false ∷ false ∷ [])) may.right)
  notifies g false may = notifies_by g false may (group_errors d s g (Notification false) may ∙ ap (λ z. first_error Service.AdcDisableGroupNotification (false ∷ false ∷ z ∷ false ∷ false ∷ false ∷ [])) may.right)

  -- what a question for the pointer does to a group that has a round
  points_by : (g : ℕ) (z : Status) → (group_at s g).status ≡ z → (z ≡ Busy → ⊥) → (z ≡ Idle → ⊥) → points d s g (group_at s g).status ≡ points d s g Completed
  points_by g Idle is nb ni = absurd (ni refl)
  points_by g Busy is nb ni = absurd (nb refl)
  points_by g _ is nb ni = ap (λ z. points d s g z) is

  pub points_to : (g : ℕ) (z : Status) → MayCall d s g GetStreamLastPointer → (group_at s g).status ≡ z → (z ≡ Busy → ⊥) → (z ≡ Idle → ⊥)
      → IsRight (making (Some Event.Act) (Set (Word.Phase g) (phase_of (status_read (ends_with_stream (group_of d g)) z) true) ∷ []) (Continuation.Ends (done (numbers (pointed d s g))))) (Call.Group g GetStreamLastPointer)
  points_to g z may is nb ni =
      let ends : Bool = ends_with_stream (group_of d g) in
      let x : GroupState = record (group_at s g) { status = status_read ends (group_at s g).status } in
      let v : ℕ = phase_of (status_read ends z) true in
      let keeps : Touches s g x = record { waiting = refl; trigger = refl; rounds = refl } in
      let ne : (group_at s g).status ≢ Idle = λ e. ni (sym is ∙ e) in
      let too : x.status ≢ Idle → (group_at s g).status ≢ Idle = λ e. ne in
      let sound = read_sound (group_of d g) (has_turn s g) (group_at s g) may.there ne (h.sound.groups g) in
      let was = now g may.on may.there 0 v (omega arith) x keeps too sound in
      let at = other g may.on may.there 0 v (omega arith) x keeps too sound in
      deed_right (Call.Group g GetStreamLastPointer) (Word.Phase g) v (numbers (pointed d s g)) (with_group s g x)
      (group_errors d s g GetStreamLastPointer may ∙ ap (λ q. first_error Service.AdcGetStreamLastPointer (false ∷ false ∷ q ∷ false ∷ false ∷ false ∷ [])) (not_idle (group_at s g).status ne)) (points_by g z is nb ni)
      (one_changed g may.on may.there 0 v (omega arith) x keeps too sound
      (here g may.on may.there 0 v (omega arith) x keeps too sound ∙ (read_phase ends z (has_turn s g || (group_at s g).trigger) ∙ ap (λ q. phase_of (status_read ends q) (has_turn s g || (group_at s g).trigger)) (sym is)))
      (at 1 (λ q. omega (arith, q)) (omega arith) ∙ was.chosen) (at 2 (λ q. omega (arith, q)) (omega arith) ∙ was.notified))
