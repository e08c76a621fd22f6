-- A body comes to a clean place from clean ones alone, by moves that read no register and write nothing.
-- From adc_groups: services.BodySteps, adc_groups: services.Decisions, adc_groups: services.WriteBatchSteps and 4 more.
-- Used by bookkeeping.Joined.
use Rattle.std.proofs.Common.{◌≡◌, ◌&&◌, ◌==◌, ◌∙◌, if◌then◌else◌}
use Rattle.adc_driver.specs.Terms
use Terms.{Aborts, AdcBody, AdcTable, after_making, Answer, begins, body_takes, body_work, BodyTaken, Bool}
use Terms.{choose_takes, Chooses, clean_at, clean_in, Cleans, Continuation, Decided, decided, Done, Ends, entered}
use Terms.{Event, false, Flag, flagged, follows, Front, front_gave, front_left, given, Goes, group_in, group_of}
use Terms.{is_on, is_quiet, is_ready, is_some, KeepsClean, length, List, look_move, look_takes, looking, Looks, Makes}
use Terms.{making_event, making_left, making_over, Move, nat_lt, None, opened, Opens, Option, or_owed, Out, Outside}
use Terms.{outside_left, owes_at, PendingWrites, Pins, Place, place_move, place_takes, Put, put_gave, put_left, Quits}
use Terms.{rank_of, Reads, refl, round_seen, RoundSeen, seek_takes, Seeks, seen_more, serve, Some, sought, subst}
use Terms.{Surveys, Suspended, sym, take_by, Taken, true, whether_as, Window, Word, word_at, word_seen, WriteBatch}
use Terms.{yields_by, ℕ}
use Rattle.adc_driver.specs.laws.{bookkeeping.Rank.{bodies}, words.EitherOne.{either}}

-- ---- what was decided

abbrev CleansTo : (was : Bool) → Move → Place × BodyTaken → Type 0
CleansTo was made t = KeepsClean was made (clean_at t.0) t.1.done

-- a frame is done with the step, or goes on where it isn't clean
abbrev Soils : Decided → Type 0
Soils (Ends t) = is_some t.done ≡ true
Soils (Goes k) = clean_at k ≡ false

soiled : (was is : Bool) (made : Move) (o : Option Done) → is ≡ false → KeepsClean was made is o
soiled was is made None e = λ f. absurd (let g = sym e ∙ f in cc)
soiled was is made (Some n) e = tt

quiet : (is : Bool) (made : Move) (o : Option Done) → is_quiet made ≡ true → KeepsClean true made is o
quiet is made None e = λ f. (refl, e)
quiet is made (Some n) e = tt

ended : (was is : Bool) (made : Move) (o : Option Done) → is_some o ≡ true → KeepsClean was made is o
ended was is made None e = absurd (cc)
ended was is made (Some n) e = tt

follows_clean : (was : Bool) (made : Move) (k : Place) (x : Decided) → Soils x → CleansTo was made (follows k x)
follows_clean was made k (Ends t) e = ended was (clean_at k) made t.done e
follows_clean was made k (Goes j) e = λ f. absurd (let g = sym e ∙ f in cc)

entered_soiled : (w : Window) → clean_at (entered w) ≡ false
entered_soiled w = whether_as (clean_in w) (λ q. clean_at (if q then Quits 0 else looking w) ≡ false)
    (λ e. refl)
    (λ e. e)

flagged_soiled : (w : Window) (v : ℕ) → Soils (flagged w v)
flagged_soiled w v = either Soils (is_ready w v) _ _ (entered_soiled w) refl

-- windows other than the first one of a call
yields_soiled : (d : AdcTable) (u c : ℕ) (o : Option ℕ) → clean_at (yields_by d u c o) ≡ false
yields_soiled d u c None = refl
yields_soiled d u c (Some g) = either (λ k. clean_at k ≡ false) (c == 0) _ _ refl refl

begins_soiled : (d : AdcTable) (u r c : ℕ) → Soils (begins d u r c)
begins_soiled d u r c = either Soils (r == 0 && c == 0) _ _ refl refl

take_soiled : (d : AdcTable) (u : ℕ) (o : Option ℕ) → Soils (take_by d u o)
take_soiled d u None = refl
take_soiled d u (Some g) = either Soils (is_on u (group_of d g)) _ _ refl refl

serve_soiled : (d : AdcTable) (t : Taken) (x : RoundSeen) → Soils (serve d t x)
serve_soiled d t x = either Soils (x.running == 0) _ _ refl refl

decided_soiled : (d : AdcTable) (w : Window) (seen : List ℕ) → clean_in w ≡ false → Soils (decided d w seen)
decided_soiled d (Window.Yield u) seen e = yields_soiled d u (word_seen seen 1) (group_in (word_seen seen 0))
decided_soiled d (Window.Suspend u g) seen e = refl
decided_soiled d (Window.Keep r) seen e = refl
decided_soiled d (Window.Begin u) seen e = begins_soiled d u (word_seen seen 0) (word_seen seen 1)
decided_soiled d (Window.Leave u) seen e = refl
decided_soiled d (Window.Convert u g c) seen e = refl
decided_soiled d (Window.Take u) seen e = take_soiled d u (group_in (word_seen seen 0))
decided_soiled d (Window.Claim t) seen e = refl
decided_soiled d (Window.Serve t) seen e = serve_soiled d t (round_seen seen)
decided_soiled d (Window.Trigger i g) seen e = refl
decided_soiled d _ seen e = absurd (cc)

sought_soiled : (d : AdcTable) (w : Window) (x : ℕ) → Soils (sought d w x)
sought_soiled d (Window.Suspend u g) x = either (λ k. clean_at k ≡ false) (nat_lt x 16 && nat_lt (rank_of d g) (rank_of d x)) _ _ refl refl
sought_soiled d (Window.Begin u) x = either Soils (nat_lt x 16) _ _ refl refl
sought_soiled d (Window.Leave u) x = either Soils (nat_lt x 16) _ _ refl refl
sought_soiled d _ x = refl

-- ---- places

looks_quiet : (d : AdcTable) (o : Option Word) → is_quiet (look_move d o) ≡ true
looks_quiet d None = refl
looks_quiet d (Some k) = refl

looks_clean : (d : AdcTable) (w : Window) (seen : List ℕ) (x : ℕ) → CleansTo (clean_in w) (place_move d (Looks w seen)) (place_takes d (Looks w seen) x)
looks_clean d w seen x = whether_as (clean_in w) (λ q. CleansTo q (place_move d (Looks w seen)) (place_takes d (Looks w seen) x))
    (λ e. let t = place_takes d (Looks w seen) x in quiet (clean_at t.0) (place_move d (Looks w seen)) t.1.done (looks_quiet d (word_at w (length seen))))
    (λ e. more e (word_at w (length (seen_more seen x))))
  where
    more : clean_in w ≡ false → (o : Option Word) → CleansTo false (place_move d (Looks w seen)) (look_takes d w (seen_more seen x) o)
    more e None = follows_clean false (place_move d (Looks w seen)) (Looks w (seen_more seen x)) (decided d w (seen_more seen x)) (decided_soiled d w (seen_more seen x) e)
    more e (Some k) = soiled false (clean_in w) (place_move d (Looks w seen)) None e

seeks_clean : (d : AdcTable) (w : Window) (made : Move) (r : Front) (o : Option Answer) → CleansTo false made (seek_takes d w r o)
seeks_clean d w made r None = soiled false false made None refl
seeks_clean d w made r (Some a) = follows_clean false made (Seeks w r) (sought d w (given a)) (sought_soiled d w (given a))

chooses_clean : (u g : ℕ) (made : Move) (r : Put) (o : Option Answer) → CleansTo false made (choose_takes u g r o)
chooses_clean u g made r None = soiled false false made None refl
chooses_clean u g made r (Some a) = soiled false false made None refl

aborts_clean : (d : AdcTable) (r : Suspended) (x : ℕ) (made : Move) → CleansTo false made (place_takes d (Aborts r) x)
aborts_clean d r x made = either (λ (t : Option Event × Place). KeepsClean false made (clean_at t.1) None) (x == 1) _ _ (soiled false false made None refl) (soiled false false made None refl)

makes_clean : (d : AdcTable) (m : WriteBatch) (x : ℕ) (made : Move) → CleansTo false made (place_takes d (Makes m) x)
makes_clean d m x made = either (λ t. CleansTo false made t) (making_over (making_left m x)) _ _ (over_clean (making_left m x) (making_left m x).after) (soiled false false made None refl)
  where
    over_clean : (n : WriteBatch) (t : Continuation) → CleansTo false made (after_making (making_event m) n t)
    over_clean n (Continuation.Ends z) = tt
    over_clean n (Continuation.Goes o) = soiled false false made None refl

outs_soiled : (d : AdcTable) (o : Outside) (x : ℕ) → clean_at (outside_left d o x) ≡ false
outs_soiled d (Outside.Closes w) x = entered_soiled w
outs_soiled d _ x = refl

opens_soiled : (d : AdcTable) (o : Outside) → clean_at (opened d o) ≡ false
opens_soiled d (Outside.Copies c a) = refl
opens_soiled d _ = refl

place_cleans : (d : AdcTable) (k : Place) (x : ℕ) → CleansTo (clean_at k) (place_move d k) (place_takes d k x)
place_cleans d (Flag w) x = follows_clean false (place_move d (Flag w)) (Flag w) (flagged w x) (flagged_soiled w x)
place_cleans d (Looks w seen) x = looks_clean d w seen x
place_cleans d (Surveys w g) x = let t = place_takes d (Surveys w g) x in quiet (clean_at t.0) (place_move d (Surveys w g)) t.1.done refl
place_cleans d (Seeks w r) x = seeks_clean d w (place_move d (Seeks w r)) (front_left r x) (front_gave r x).ended
place_cleans d (Chooses u g r) x = chooses_clean u g (place_move d (Chooses u g r)) (put_left r x) (put_gave r x).ended
place_cleans d (Pins g p) x = soiled false false (place_move d (Pins g p)) None refl
place_cleans d (Reads n) x = let t = place_takes d (Reads n) x in soiled false false (place_move d (Reads n)) t.1.done refl
place_cleans d (Aborts r) x = aborts_clean d r x (place_move d (Aborts r))
place_cleans d (Makes m) x = makes_clean d m x (place_move d (Makes m))
place_cleans d (Quits u) x = tt
place_cleans d (Opens o) x = soiled false (clean_at (opened d o)) Move.Unmask None (opens_soiled d o)
place_cleans d (Out o) x = soiled false (clean_at (outside_left d o x)) (place_move d (Out o)) None (outs_soiled d o x)

-- ---- bodies

soiled_owed : (o : Option PendingWrites) → or_owed (λ y. false) o false ≡ false
soiled_owed None = refl
soiled_owed (Some x) = refl

pub clean_is : (d : AdcTable) (k : AdcBody) → (bodies d).clean k ≡ clean_at k.place
clean_is d k = by k.table k.place
  where
    by : (x : AdcTable) (p : Place) → (bodies d).clean (record { table = x; place = p }) ≡ clean_at p
    by x (Makes m) = soiled_owed (owes_at x (Makes m))
    by x _ = refl

pub cleans : (d : AdcTable) (k : AdcBody) (v : ℕ) → owes_at k.table k.place ≡ None → Cleans (bodies d).clean (body_work k) k (body_takes k v)
cleans d k v e =
    let t = body_takes k v in
    subst (λ q. KeepsClean q (body_work k) ((bodies d).clean t.0) t.1.done) (sym (clean_is d k))
    (subst (λ q. KeepsClean (clean_at k.place) (body_work k) q t.1.done) (sym (clean_is d t.0)) (place_cleans k.table k.place v))
