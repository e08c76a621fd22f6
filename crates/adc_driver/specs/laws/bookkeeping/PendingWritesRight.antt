-- A window that owes moves makes them: after each one it owes the others, and after the last one it ends or opens the mask.
-- From adc_groups: services.WriteBatchSteps, adc_groups: services.BodySteps, adc_groups: words.Cases.
-- Used by bookkeeping.NoneWaitsPlaces, bookkeeping.Joined.
use Rattle.std.proofs.Common.{◌≡◌, ◌+◌, ◌<◌, ◌≤◌, ◌&&◌, ◌==◌, [], ◌∷◌, ◌∙◌, if◌then◌else◌}
use Rattle.adc_driver.specs.Terms
use Terms.{adc_bodies, adc_windows, AdcBody, AdcGround, AdcState, AdcTable, after_making, Agrees, and_first, ap}
use Terms.{AreWindows, arith, bare, body_ends, body_takes, body_work, BodyTaken, Bool, Call, Called, Chip}
use Terms.{Continuation, Continues, deed_or_open, Done, drop, either_shape, Event, false, FrameHistory, fresh_history}
use Terms.{GoesFree, GoesOwing, hold_then, is_first, is_owed, is_some, Is_this_frame, Leaves_acted, length, List}
use Terms.{Makes, making_by, making_event, making_left, making_move, making_over, making_owed, may, MayLeave, MayStop}
use Terms.{Move, nat_le, nat_lt, nat_tests, None, not, one_made, Opens, Option, order_left, Origin, Outside, owed_of}
use Terms.{owes_at, owes_making, PendingWrites, Place, place_ends, place_then, refl, Reservations, slice_get, Some}
use Terms.{some_same, step, StructureOp, subst, suc, sym, true, whether_as, Windows, WindowWrite, with_holds, World}
use Terms.{WriteBatch, zero, ℕ}
use Rattle.adc_groups.specs.PendingWrites.{move_by, left_by}

-- ---- the deeds that are left

abbrev first_deed : List WindowWrite → Option WindowWrite
first_deed [] = None
first_deed (x ∷ xs) = Some x

abbrev other_deeds : List WindowWrite → List WindowWrite
other_deeds [] = []
other_deeds (x ∷ xs) = xs

next_deed : (n : ℕ) (ds : List WindowWrite) → slice_get ds n ≡ first_deed (drop n ds)
next_deed zero [] = refl
next_deed (suc n) (x ∷ xs) = next_deed n xs
next_deed _ _ = refl

more_deeds : (n : ℕ) (ds : List WindowWrite) → drop (suc n) ds ≡ other_deeds (drop n ds)
more_deeds zero [] = refl
more_deeds (suc n) (x ∷ xs) = more_deeds n xs
more_deeds _ _ = refl

-- there are some where not so many were made
abbrev has_deeds : List WindowWrite → Bool
has_deeds [] = false
has_deeds (x ∷ xs) = true

lt_suc : (n m : ℕ) → nat_lt (suc n) (suc m) ≡ nat_lt n m
lt_suc n m = whether_as (nat_lt n m) (λ q. nat_lt (suc n) (suc m) ≡ q)
    (λ e. grind (arith, nat_tests))
    (λ e. grind (arith, nat_tests))

le_suc : (n m : ℕ) → nat_le (suc n) (suc m) ≡ nat_le n m
le_suc n m = whether_as (nat_le n m) (λ q. nat_le (suc n) (suc m) ≡ q)
    (λ e. grind (arith, nat_tests))
    (λ e. grind (arith, nat_tests))

deeds_left : (n : ℕ) (ds : List WindowWrite) → nat_lt n (length ds) ≡ has_deeds (drop n ds)
deeds_left zero [] = refl
deeds_left zero (x ∷ xs) = let lt : 0 < length (x ∷ xs) = omega arith in grind (arith, nat_tests)
deeds_left (suc n) [] = grind (arith, nat_tests)
deeds_left (suc n) (x ∷ xs) = lt_suc n (length xs) ∙ deeds_left n xs

deeds_over : (n : ℕ) (ds : List WindowWrite) → nat_le (length ds) n ≡ not (has_deeds (drop n ds))
deeds_over zero [] = refl
deeds_over zero (x ∷ xs) = let lt : 0 < length (x ∷ xs) = omega arith in grind (arith, nat_tests)
deeds_over (suc n) [] = grind (arith, nat_tests)
deeds_over (suc n) (x ∷ xs) = le_suc (length xs) n ∙ deeds_over n xs

-- ---- the moves of a window past its event

-- what is owed is over where nothing is
owed_over : (d : AdcTable) (o b : Option StructureOp) (ds : List WindowWrite) (t : Continuation) → (q : Bool) → q ≡ not (has_deeds ds) → not (is_some o) && (not (is_some b) && q) ≡ not (is_some (owed_of d o b ds t))
owed_over d None None (x ∷ xs) t q e = e
owed_over d None None [] t q e = e
owed_over d _ _ ds t q e = refl

not_first : (e : Option Event) (made ahead : ℕ) (q : Bool) → is_some e && nat_le made ahead ≡ false → is_some e && (ahead == 0 && (made == 0 && q)) ≡ false
not_first None made ahead q h = refl
not_first (Some e) made ahead q h = by (ahead == 0) (made == 0) refl refl
  where
    by : (a b : Bool) → (ahead == 0) ≡ a → (made == 0) ≡ b → a && (b && q) ≡ false
    by true true i j = absurd (let le : nat_le made ahead ≡ true = grind (arith, nat_tests) in let no : true ≡ false = sym le ∙ h in cc)
    by _ _ i j = refl

no_event : (e : Option Event) (made ahead : ℕ) → is_some e && nat_le made ahead ≡ false → (if made == ahead then e else None) ≡ None
no_event None made ahead h =
    elim (made == ahead) as (λ q. (let z : Option Event = if q then None else None in z) ≡ None)
    [ true ↦ refl | false ↦ refl ]
no_event (Some e) made ahead h = whether_as (made == ahead) (λ q. (if q then Some e else None) ≡ None)
    (λ same. absurd (let le : nat_le made ahead ≡ true = grind (arith, nat_tests) in let no : true ≡ false = sym le ∙ h in cc))
    (λ same. refl)

past_event : (e : Option Event) (made ahead : ℕ) → is_some e && nat_le made ahead ≡ false → is_some e && nat_le (suc made) ahead ≡ false
past_event None made ahead h = refl
past_event (Some e) made ahead h = grind (arith, nat_tests)

pub owed_about : (d : AdcTable) (o b : Option StructureOp) (ds : List WindowWrite) (t : Continuation) (y : PendingWrites) → owed_of d o b ds t ≡ Some y → (y.table ≡ d) × (y.after ≡ t)
owed_about d (Some s) b ds t y e = let same : record { table = d; order = Some s; banks = b; deeds = ds; after = t } ≡ y = some_same e in (ap (λ z. z.table) (sym same), ap (λ z. z.after) (sym same))
owed_about d None (Some s) ds t y e = let same : record { table = d; order = None; banks = Some s; deeds = ds; after = t } ≡ y = some_same e in (ap (λ z. z.table) (sym same), ap (λ z. z.after) (sym same))
owed_about d None None (x ∷ xs) t y e = let same : record { table = d; order = None; banks = None; deeds = x ∷ xs; after = t } ≡ y = some_same e in (ap (λ z. z.table) (sym same), ap (λ z. z.after) (sym same))
owed_about d None None [] t y e = absurd (cc)

-- a making past its event, what it owes, and whether that is all
abbrev owed_by : AdcTable → WriteBatch → Option PendingWrites
owed_by d m = owed_of d m.order m.banks (drop m.made m.deeds) m.after

abbrev is_before : WriteBatch → Bool
is_before m = is_some m.event && nat_le m.made m.ahead

pub making_owes : (d : AdcTable) (m : WriteBatch) → making_over m ≡ not (is_some (owed_by d m))
making_owes d m = owed_over d m.order m.banks (drop m.made m.deeds) m.after (nat_le (length m.deeds) m.made) (deeds_over m.made m.deeds)

-- a making that owes this is past its event
pub past_by : (d : AdcTable) (m : WriteBatch) (x : PendingWrites) → owes_making d m ≡ Some x → (is_before m ≡ false) × (owed_by d m ≡ Some x)
past_by d m x h = whether_as (is_before m) (λ q. (if q then None else owed_by d m) ≡ Some x → (q ≡ false) × (owed_by d m ≡ Some x)) (λ _ h. absurd (cc)) (λ _ h. (refl, h)) h

module _ (d : AdcTable) (ds : List WindowWrite) (made : ℕ) (e : Option Event) (ahead : ℕ) (t : Continuation) (past : is_some e && nat_le made ahead ≡ false) where
  abbrev at : Option StructureOp → Option StructureOp → WriteBatch
  at o b = record { deeds = ds; made = made; event = e; ahead = ahead; order = o; banks = b; after = t }

  unfirst : (o b : Option StructureOp) → is_first (at o b) ≡ false
  unfirst o b = not_first e made ahead (is_some (slice_get ds 0)) past

  -- the next move is the first that is owed
  move_is : (o b : Option StructureOp) (x : PendingWrites) → owed_of d o b (drop made ds) t ≡ Some x → making_move d (at o b) ≡ move_by x.table x.order x.banks x.deeds
  move_is o b x h = ap (λ q. making_by d (at o b) (if q then None else either_shape o b)) (unfirst o b) ∙ by o b h
    where
      deed_is : (xs : List WindowWrite) → owed_of d None None xs t ≡ Some x → deed_or_open d (first_deed xs) ≡ move_by x.table x.order x.banks x.deeds
      deed_is [] h = absurd (cc)
      deed_is (y ∷ ys) h = let same : record { table = d; order = None; banks = None; deeds = y ∷ ys; after = t } ≡ x = some_same h in ap (λ z. move_by z.table z.order z.banks z.deeds) same

      by : (o b : Option StructureOp) → owed_of d o b (drop made ds) t ≡ Some x → making_by d (at o b) (either_shape o b) ≡ move_by x.table x.order x.banks x.deeds
      by (Some s) b h = let same : record { table = d; order = Some s; banks = b; deeds = drop made ds; after = t } ≡ x = some_same h in ap (λ z. move_by z.table z.order z.banks z.deeds) same
      by None (Some s) h = let same : record { table = d; order = None; banks = Some s; deeds = drop made ds; after = t } ≡ x = some_same h in ap (λ z. move_by z.table z.order z.banks z.deeds) same
      by None None h = ap (λ z. deed_or_open d z) (next_deed made ds) ∙ deed_is (drop made ds) h

  -- after it is left what is owed then, and the making is past its event
  abbrev IsLeft : PendingWrites → ℕ → WriteBatch → Type 0
  IsLeft x v m = (owed_by d m ≡ left_by x.table x.order x.banks x.deeds x.after v) × (m.after ≡ t) × (is_before m ≡ false)

  is_left : (o b : Option StructureOp) (x : PendingWrites) (v : ℕ) → owed_of d o b (drop made ds) t ≡ Some x → IsLeft x v (making_left (at o b) v)
  is_left o b x v h = subst (λ q. IsLeft x v (if q then one_made (at o b) else order_left (at o b) o v)) (sym (unfirst o b)) (by o b h)
    where
      after_one : (xs : List WindowWrite) → drop made ds ≡ xs → owed_of d None None xs t ≡ Some x → IsLeft x v (one_made (at None None))
      after_one [] i h = absurd (cc)
      after_one (y ∷ ys) i h =
          let same : record { table = d; order = None; banks = None; deeds = y ∷ ys; after = t } ≡ x = some_same h in
          let more : nat_lt made (length ds) ≡ true = deeds_left made ds ∙ ap has_deeds i in
          let rest : drop (suc made) ds ≡ ys = more_deeds made ds ∙ ap other_deeds i in
          subst (λ q. IsLeft x v (if q then record (at None None) { made = made + 1 } else at None None)) (sym more)
          (subst (λ n. IsLeft x v (record (at None None) { made = n })) (let next : suc made ≡ made + 1 = omega arith in next)
          (ap (λ zs. owed_of d None None zs t) rest ∙ ap (λ z. left_by z.table z.order z.banks z.deeds z.after v) same, refl, past_event e made ahead past))

      by : (o b : Option StructureOp) → owed_of d o b (drop made ds) t ≡ Some x → IsLeft x v (order_left (at o b) o v)
      by (Some s) b h = let same : record { table = d; order = Some s; banks = b; deeds = drop made ds; after = t } ≡ x = some_same h in (ap (λ z. left_by z.table z.order z.banks z.deeds z.after v) same, refl, past)
      by None (Some s) h = let same : record { table = d; order = None; banks = Some s; deeds = drop made ds; after = t } ≡ x = some_same h in (ap (λ z. left_by z.table z.order z.banks z.deeds z.after v) same, refl, past)
      by None None h = after_one (drop made ds) refl h

-- ---- the bodies

-- a frame that has acted, and owes nothing, may end
pub leave_stop : (d : AdcTable) (o : Origin Call) (p : FrameHistory) (missed : ℕ → Bool) (n : Done) → MayLeave o p n → MayStop (AdcGround d) o p missed n
leave_stop d _ _ missed n (Leaves_acted c Is_this_frame none) =
    subst (λ z. MayStop (AdcGround d) (Called c) (record fresh_history { acted = Some n.answer }) missed (record { answer = n.answer; owed = z })) (sym none) (record { may = (refl, refl); served = false; owed = refl; shown = λ i. absurd (cc); report = refl })

module _ (d : AdcTable) (f r : AdcBody → ℕ) (opens : (t : AdcTable) (o : Outside) → r (record { table = t; place = Opens o }) ≡ 0) where
  abbrev V : Windows (bare d) PendingWrites (AdcTable × Continuation) AdcBody (making_owed d)
  V = adc_windows d f r

  -- the body makes the moves that it owes
  pub makes : (k : AdcBody) (x : PendingWrites) → V.owes k ≡ Some x → V.bodies.work_of k ≡ (making_owed d).move x
  makes k x h = by k.place h
    where
      by : (q : Place) → owes_at k.table q ≡ Some x → body_work (record { table = k.table; place = q }) ≡ move_by x.table x.order x.banks x.deeds
      by (Makes m) h = let p = past_by k.table m x h in move_is k.table m.deeds m.made m.event m.ahead m.after p.0 m.order m.banks x p.1
      by _ h = absurd (cc)

  -- what is left of a making after a step
  pub left_of : (c : AdcTable) (m : WriteBatch) (x : PendingWrites) (v : ℕ) → owes_making c m ≡ Some x → (owed_by c (making_left m v) ≡ left_by x.table x.order x.banks x.deeds x.after v) × ((making_left m v).after ≡ m.after) × (is_before (making_left m v) ≡ false)
  left_of c m x v h = let p = past_by c m x h in is_left c m.deeds m.made m.event m.ahead m.after p.0 m.order m.banks x v p.1

  no_event_at : (c : AdcTable) (m : WriteBatch) (x : PendingWrites) → owes_making c m ≡ Some x → making_event m ≡ None
  no_event_at c m x h = no_event m.event m.made m.ahead (past_by c m x h).0

  abbrev takes_at : AdcTable → Option Event → WriteBatch → Bool → AdcBody × BodyTaken
  takes_at c e m q = let z : Place × BodyTaken = if q then after_making e m m.after else (Makes m, step e) in (record { table = c; place = z.0 }, z.1)

  -- after one that isn't the last it owes the others
  pub on : (k : AdcBody) (x y : PendingWrites) (value : ℕ) → V.owes k ≡ Some x → (making_owed d).left x value ≡ Some y → GoesOwing V x y (V.bodies.takes k value)
  on k x y v h l = by k.place h
    where
      going : (m : WriteBatch) → owes_making k.table m ≡ Some x → (e : Option Event) → e ≡ None → GoesOwing V x y (takes_at k.table e (making_left m v) (making_over (making_left m v)))
      going m h e none =
          let p = left_of k.table m x v h in
          let owed : owed_by k.table (making_left m v) ≡ Some y = p.0 ∙ l in
          let before = owed_about k.table m.order m.banks (drop m.made m.deeds) m.after x (past_by k.table m x h).1 in
          let later = owed_about k.table (making_left m v).order (making_left m v).banks (drop (making_left m v).made (making_left m v).deeds) (making_left m v).after y owed in
          let more : making_over (making_left m v) ≡ false = making_owes k.table (making_left m v) ∙ ap (λ q. not (is_some q)) owed in
          let about : (y.table, y.after) ≡ (x.table, x.after) = ap (λ z. (z, y.after)) (later.0 ∙ sym before.0) ∙ ap (λ z. (x.table, z)) (later.1 ∙ (p.1 ∙ sym before.1)) in
          subst (λ q. GoesOwing V x y (takes_at k.table e (making_left m v) q)) (sym more)
          (ap (λ q. if q then None else owed_by k.table (making_left m v)) p.2 ∙ owed, ap step none, about)

      by : (q : Place) → owes_at k.table q ≡ Some x → GoesOwing V x y (body_takes (record { table = k.table; place = q }) v)
      by (Makes m) h = going m h (making_event m) (no_event_at k.table m x h)
      by _ h = absurd (cc)

  -- and after the last one it ends, or opens the mask
  abbrev Over : PendingWrites → AdcBody × BodyTaken → Type 0
  Over x z = (z.1.event ≡ None) × GoesFree V (V.about x) z.0 z.1.done

  pub over : (k : AdcBody) (x : PendingWrites) (value : ℕ) → V.owes k ≡ Some x → (making_owed d).left x value ≡ None → ((V.bodies.takes k value).1.event ≡ None) × GoesFree V (V.about x) (V.bodies.takes k value).0 (V.bodies.takes k value).1.done
  over k x v h l = by k.place h
    where
      free : (c : AdcTable) (t : Continuation) (m : WriteBatch) (e : Option Event) → e ≡ None → x.table ≡ c → x.after ≡ t → Over x (let z : Place × BodyTaken = after_making e m t in (record { table = c; place = z.0 }, z.1))
      free c (Continuation.Ends n) m e none same is = (none, tt)
      free c (Continuation.Goes o) m e none same is =
          let fuel : f (record { table = c; place = Opens o }) ≤ V.steps_after (c, Continuation.Goes o) = omega arith in
          let least = opens c o in
          (none, (refl, refl, refl, subst (λ a. f (record { table = c; place = Opens o }) ≤ V.steps_after a) (sym (ap (λ z. (z, x.after)) same ∙ ap (λ z. (c, z)) is)) fuel, omega (arith, least)))

      going : (m : WriteBatch) → owes_making k.table m ≡ Some x → (e : Option Event) → e ≡ None → Over x (takes_at k.table e (making_left m v) (making_over (making_left m v)))
      going m h e none =
          let p = left_of k.table m x v h in
          let owed : owed_by k.table (making_left m v) ≡ None = p.0 ∙ l in
          let before = owed_about k.table m.order m.banks (drop m.made m.deeds) m.after x (past_by k.table m x h).1 in
          let last : making_over (making_left m v) ≡ true = making_owes k.table (making_left m v) ∙ ap (λ q. not (is_some q)) owed in
          subst (λ q. Over x (takes_at k.table e (making_left m v) q)) (sym last)
          (free k.table (making_left m v).after (making_left m v) e none before.0 (before.1 ∙ sym p.1))

      by : (q : Place) → owes_at k.table q ≡ Some x → Over x (body_takes (record { table = k.table; place = q }) v)
      by (Makes m) h = going m h (making_event m) (no_event_at k.table m x h)
      by _ h = absurd (cc)

  -- it ends its frame with none of them by itself
  pub unended : (k : AdcBody) (x : PendingWrites) (value : ℕ) → V.owes k ≡ Some x → body_ends (V.bodies.takes k value).0 ≡ None
  unended k x v h = by k.place h
    where
      ended : (e : Option Event) (m : WriteBatch) (t : Continuation) → place_ends (after_making e m t).0 ≡ None
      ended e m (Continuation.Ends n) = refl
      ended e m (Continuation.Goes o) = refl

      going : (e : Option Event) (m : WriteBatch) (q : Bool) → place_ends (let z : Place × BodyTaken = if q then after_making e m m.after else (Makes m, step e) in z.0) ≡ None
      going e m true = ended e m m.after
      going e m false = refl

      by : (q : Place) → owes_at k.table q ≡ Some x → place_ends (body_takes (record { table = k.table; place = q }) v).0.place ≡ None
      by (Makes m) h = going (making_event m) (making_left m v) (making_over (making_left m v))
      by _ h = absurd (cc)

  -- ---- what a frame may do while moves are owed, and how it stands after the last one: it may end, or opens the mask next

  -- its frame may make what it owes
  pub may_owed : (a : AdcTable × Continuation) (below : Reservations) (o : Origin Call) (p : FrameHistory) (made : Move) → V.place a below o p → (making_owed d).own made ≡ true → may d made ≡ true
  may_owed a below o p made h e = and_first (may d made) (is_owed made) e

  -- ---- after the last one

  module _ (below : Reservations) (chip : Chip) (w : World) (s : AdcState) (o : Origin Call) (p : FrameHistory) (missed : ℕ → Bool) where
    abbrev GoesOn : AdcBody × BodyTaken → Type 0
    GoesOn z = Continues (AdcGround d) (adc_bodies d f r) below chip w s o p missed z.0 z.1.done

    abbrev after_at : AdcTable → Option Event → WriteBatch → Continuation → AdcBody × BodyTaken
    after_at c e m t = let z : Place × BodyTaken = after_making e m t in (record { table = c; place = z.0 }, z.1)

    last_stands : (c : AdcTable) (t : Continuation) (m : WriteBatch) (e : Option Event) → c ≡ d → place_then d t below o p → Agrees d (with_holds o p.acted (hold_then t) below) chip w s → GoesOn (after_at c e m t)
    last_stands c (Continuation.Ends n) m e same place h = (h, leave_stop d o p missed n place)
    last_stands c (Continuation.Goes x) m e same place h = (h, (same, place))

    stands_at : (c : AdcTable) (q : Place) (x : PendingWrites) (v : ℕ) → owes_at c q ≡ Some x → (making_owed d).left x v ≡ None → (x.table ≡ d) × place_then d x.after below o p → Agrees d (with_holds o p.acted (hold_then x.after) below) chip w s → GoesOn (body_takes (record { table = c; place = q }) v)
    stands_at c (Makes m) x v owed none place h =
        let left = left_of c m x v owed in
        let about = owed_about c m.order m.banks (drop m.made m.deeds) m.after x (past_by c m x owed).1 in
        let last : making_over (making_left m v) ≡ true = making_owes c (making_left m v) ∙ ap (λ q. not (is_some q)) (left.0 ∙ none) in
        let after : x.after ≡ (making_left m v).after = about.1 ∙ sym left.1 in
        subst (λ q. GoesOn (let z : Place × BodyTaken = if q then after_making (making_event m) (making_left m v) (making_left m v).after else (Makes (making_left m v), step (making_event m)) in (record { table = c; place = z.0 }, z.1))) (sym last)
        (last_stands c (making_left m v).after (making_left m v) (making_event m) (sym about.0 ∙ place.0) (subst (λ t. place_then d t below o p) after place.1) (subst (λ t. Agrees d (with_holds o p.acted (hold_then t) below) chip w s) after h))
    stands_at c _ x v owed none place h = absurd (cc)

  pub stands_after : (k : AdcBody) (x : PendingWrites) (v : ℕ) (below : Reservations) (chip : Chip) (w : World) (s : AdcState) (o : Origin Call) (p : FrameHistory) (missed : ℕ → Bool) → V.owes k ≡ Some x → (making_owed d).left x v ≡ None → V.place (V.about x) below o p → Agrees d (with_holds o p.acted (V.hold (V.about x)) below) chip w s
      → Continues (AdcGround d) (adc_bodies d f r) below chip w s o p missed (V.bodies.takes k v).0 (V.bodies.takes k v).1.done
  stands_after k x v below chip w s o p missed owed none place h = stands_at below chip w s o p missed k.table k.place x v owed none place h

  -- ---- the places where moves are owed

  pub windows_are : AreWindows (adc_windows d f r) body_ends
  windows_are = record {
    makes = makes;
    on = on;
    over = over;
    unended = unended;
    may = may_owed;
    stands = stands_after;
  }
