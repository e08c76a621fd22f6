-- The moves of a window whose event comes after some of them, one after the other.
-- From adc_groups: services.WriteBatchSteps, adc_groups: services.Decisions, adc_groups: services.BodySteps.
-- Used by services.StartRight, adc_driver: bookkeeping.MayMove, adc_driver: bookkeeping.NoneWaitsPlaces and 1 more.
use Rattle.std.proofs.Common.{◌≡◌, ◌+◌, ◌<◌, ◌&&◌, ◌||◌, ◌==◌, [], ◌∷◌, ◌++◌, ◌∙◌, if◌then◌else◌}
use Rattle.adc_laws.specs.turns.Terms
use Terms.{AdcBody, AdcTable, after_making, ap, arith, body_takes, Bool, claim_ended, Continuation, ConverterGo}
use Terms.{deed_move, deed_or_open, ends_claim, eq_other, eq_self, Event, false, is_some, length, length-append}
use Terms.{length-map, length-range_with_len, List, list_any, list_deed, lists_for, Makes, making_by, making_event}
use Terms.{making_left, making_move, making_over, making_takes, map, moves_ahead, nat_lt, nat_tests, None, one_made}
use Terms.{Option, range_with_len, refl, Set, shape_after, shape_move, slice_get, Some, start_deeds, step}
use Terms.{StructureOp, suc, true, WindowWrite, Word, WriteBatch, zero, ℕ}
use Rattle.adc_groups.specs.declared.making.WindowWrite.TheVariants.{Write}

module _ (d : AdcTable) (e : Event) (ds : List WindowWrite) (ahead : ℕ) (t : Continuation) (some : 0 < ahead) where
  abbrev pub mk : Option StructureOp → ℕ → WriteBatch
  mk o j = record { deeds = ds; made = j; event = Some e; ahead = ahead; order = o; banks = None; after = t }

  abbrev pub at_mk : Option StructureOp → ℕ → AdcBody
  at_mk o j = record { table = d; place = Makes (mk o j) }

  not_first : (j : ℕ) → (ahead == 0) && ((j == 0) && is_some (slice_get ds 0)) ≡ false
  not_first j = ap (λ q. q && ((j == 0) && is_some (slice_get ds 0))) (eq_other ahead 0 (λ i. omega (arith, i, some)))

  -- ---- which move is next

  pub order_work : (s : StructureOp) (j : ℕ) → making_move d (mk (Some s) j) ≡ shape_move s
  order_work s j = ap (λ q. making_by d (mk (Some s) j) (if q then None else Some s)) (not_first j)

  pub deed_work : (j : ℕ) (x : WindowWrite) → slice_get ds j ≡ Some x → making_move d (mk None j) ≡ deed_move d x
  deed_work j x at = ap (λ q. making_by d (mk None j) (if q then None else None)) (not_first j) ∙ ap (λ o. deed_or_open d o) at

  -- ---- what is left after it

  no_event : (o : Option StructureOp) (j : ℕ) → j < ahead → making_event (mk o j) ≡ None
  no_event o j lt = ap (λ q. if q then Some e else None) (eq_other j ahead (λ i. omega (arith, i, lt)))

  open_still : (o : Option StructureOp) (j : ℕ) → j < length ds → making_over (mk o j) ≡ false
  open_still (Some s) j lt = refl
  open_still None j lt = grind (arith, nat_tests)

  goes_on : (o : Option StructureOp) (j : ℕ) → j < length ds → making_takes None (mk o j) ≡ (Makes (mk o j), step None)
  goes_on o j lt = ap (λ q. if q then after_making None (mk o j) t else (Makes (mk o j), step None)) (open_still o j lt)

  pub order_takes : (s : StructureOp) (j v : ℕ) → j < ahead → j < length ds → body_takes (at_mk (Some s) j) v ≡ (at_mk (shape_after s v) j, step None)
  order_takes s j v lt less =
      ap (λ k. (record { table = d; place = k.0 }, k.1))
      (ap (λ q. making_takes q (making_left (mk (Some s) j) v)) (no_event (Some s) j lt)
      ∙ (ap (λ q. making_takes None (if q then one_made (mk (Some s) j) else mk (shape_after s v) j)) (not_first j)
      ∙ goes_on (shape_after s v) j less))

  one_more : (j v : ℕ) → j < length ds → making_left (mk None j) v ≡ mk None (j + 1)
  one_more j v less = ap (λ q. if q then one_made (mk None j) else one_made (mk None j)) (not_first j) ∙ ap (λ q. if q then mk None (j + 1) else mk None j) small
    where
      small : nat_lt j (length ds) ≡ true
      small = grind (arith, nat_tests)

  pub deed_takes : (j v : ℕ) → j < ahead → j + 1 < length ds → body_takes (at_mk None j) v ≡ (at_mk None (j + 1), step None)
  deed_takes j v lt less =
      ap (λ k. (record { table = d; place = k.0 }, k.1))
      (ap (λ q. making_takes q (making_left (mk None j) v)) (no_event None j lt)
      ∙ (ap (λ m. making_takes None m) (one_more j v (omega (arith, less))) ∙ goes_on None (j + 1) less))

  -- the last one is that of the event
  pub last_takes : (v : ℕ) → length ds ≡ ahead + 1 → body_takes (at_mk None ahead) v ≡ (record { table = d; place = (after_making (Some e) (mk None (ahead + 1)) t).0 }, (after_making (Some e) (mk None (ahead + 1)) t).1)
  last_takes v len =
      ap (λ k. (record { table = d; place = k.0 }, k.1))
      (ap (λ q. making_takes (if q then Some e else None) (making_left (mk None ahead) v)) (eq_self ahead)
      ∙ (ap (λ m. making_takes (Some e) m) (one_more ahead v (omega (arith, len)))
      ∙ ap (λ q. if q then after_making (Some e) (mk None (ahead + 1)) t else (Makes (mk None (ahead + 1)), step (Some e))) over))
    where
      over : making_over (mk None (ahead + 1)) ≡ true
      over = grind (arith, nat_tests)

-- ---- the moves of a start

-- the list registers come ahead of a start, and more
pub lists_ahead : (left : ℕ) (c : Bool) → lists_for left < moves_ahead left c
lists_ahead left true = omega arith
lists_ahead left false = omega arith

pub some_ahead : (left : ℕ) (c : Bool) → 0 < moves_ahead left c
some_ahead left true = omega arith
some_ahead left false = omega arith

get_front : (xs ys : List WindowWrite) (i : ℕ) → i < length xs → slice_get (xs ++ ys) i ≡ slice_get xs i
get_front [] ys i lt = absurd (omega (arith, lt))
get_front (x ∷ xs) ys zero lt = refl
get_front (x ∷ xs) ys (suc i) lt = get_front xs ys i (omega (arith, lt))

get_behind : (xs ys : List WindowWrite) (i j : ℕ) → i ≡ length xs + j → slice_get (xs ++ ys) i ≡ slice_get ys j
get_behind [] ys i j e = let same : i ≡ j = omega (arith, e) in ap (λ n. slice_get ys n) same
get_behind (x ∷ xs) ys zero j e = absurd (omega (arith, e))
get_behind (x ∷ xs) ys (suc i) j e = get_behind xs ys i j (omega (arith, e))

get_range : (f : ℕ → WindowWrite) (a n i : ℕ) → i < n → slice_get (map f (range_with_len a n)) i ≡ Some (f (a + i))
get_range f a zero i lt = absurd (omega (arith, lt))
get_range f a (suc n) zero lt = let same : a ≡ a + 0 = omega arith in ap (λ k. Some (f k)) same
get_range f a (suc n) (suc i) lt = let same : a + 1 + i ≡ a + suc i = omega arith in get_range f (a + 1) n i (omega (arith, lt)) ∙ ap (λ k. Some (f k)) same

any_behind : (xs ys : List WindowWrite) → list_any ends_claim (xs ++ ys) ≡ (list_any ends_claim xs || list_any ends_claim ys)
any_behind [] ys = refl
any_behind (x ∷ xs) ys = ap (λ q. ends_claim x || q) (any_behind xs ys) ∙ assoc (ends_claim x)
  where
    assoc : (q : Bool) → (q || (list_any ends_claim xs || list_any ends_claim ys)) ≡ ((q || list_any ends_claim xs) || list_any ends_claim ys)
    assoc true = refl
    assoc false = refl

module _ (d : AdcTable) (u g e left : ℕ) where
  abbrev pub registers : List WindowWrite
  registers = map (list_deed d u g e) (range_with_len 0 (lists_for left))

  len_registers : length registers ≡ lists_for left
  len_registers = length-map (range_with_len 0 (lists_for left)) (list_deed d u g e) ∙ length-range_with_len 0 (lists_for left)

  none_ends : (n a : ℕ) → list_any ends_claim (map (list_deed d u g e) (range_with_len a n)) ≡ false
  none_ends zero a = refl
  none_ends (suc n) a = none_ends n (a + 1)

  -- a claim ends among them exactly where the frame has one
  pub claim_among : (c : Bool) → list_any ends_claim (start_deeds d u g e left c) ≡ c
  claim_among c = any_behind registers (Set (Word.Running u) (1 + g) ∷ (claim_ended c u ++ Write (ConverterGo u) left ∷ [])) ∙ (ap (λ q. q || list_any ends_claim (Set (Word.Running u) (1 + g) ∷ (claim_ended c u ++ Write (ConverterGo u) left ∷ []))) (none_ends (lists_for left) 0) ∙ by c)
    where
      by : (c : Bool) → list_any ends_claim (Set (Word.Running u) (1 + g) ∷ (claim_ended c u ++ Write (ConverterGo u) left ∷ [])) ≡ c
      by true = refl
      by false = refl

  pub len_start : (c : Bool) → length (start_deeds d u g e left c) ≡ moves_ahead left c + 1
  len_start true = length-append registers (Set (Word.Running u) (1 + g) ∷ Set (Word.Claim u) 0 ∷ Write (ConverterGo u) left ∷ []) ∙ (let n = len_registers in omega (arith, n))
  len_start false = length-append registers (Set (Word.Running u) (1 + g) ∷ Write (ConverterGo u) left ∷ []) ∙ (let n = len_registers in omega (arith, n))

  -- which one is at each place
  pub list_at : (c : Bool) (i : ℕ) → i < lists_for left → slice_get (start_deeds d u g e left c) i ≡ Some (list_deed d u g e i)
  list_at c i lt = get_front registers (Set (Word.Running u) (1 + g) ∷ (claim_ended c u ++ Write (ConverterGo u) left ∷ [])) i (let n = len_registers in omega (arith, n, lt)) ∙ (get_range (list_deed d u g e) 0 (lists_for left) i lt ∙ (let same : 0 + i ≡ i = omega arith in ap (λ n. Some (list_deed d u g e n)) same))

  pub running_at : (c : Bool) → slice_get (start_deeds d u g e left c) (lists_for left) ≡ Some (Set (Word.Running u) (1 + g))
  running_at c = get_behind registers (Set (Word.Running u) (1 + g) ∷ (claim_ended c u ++ Write (ConverterGo u) left ∷ [])) (lists_for left) 0 (let n = len_registers in omega (arith, n))

  pub claim_at : slice_get (start_deeds d u g e left true) (lists_for left + 1) ≡ Some (Set (Word.Claim u) 0)
  claim_at = get_behind registers (Set (Word.Running u) (1 + g) ∷ (claim_ended true u ++ Write (ConverterGo u) left ∷ [])) (lists_for left + 1) 1 (let n = len_registers in omega (arith, n))

  pub go_at : (c : Bool) → slice_get (start_deeds d u g e left c) (moves_ahead left c) ≡ Some (Write (ConverterGo u) left)
  go_at true = get_behind registers (Set (Word.Running u) (1 + g) ∷ (claim_ended true u ++ Write (ConverterGo u) left ∷ [])) (lists_for left + 2) 2 (let n = len_registers in omega (arith, n))
  go_at false = get_behind registers (Set (Word.Running u) (1 + g) ∷ (claim_ended false u ++ Write (ConverterGo u) left ∷ [])) (lists_for left + 1) 1 (let n = len_registers in omega (arith, n))
