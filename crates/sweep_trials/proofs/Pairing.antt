-- Pairs that were tried, one first place after another.
use Rattle.std.proofs.Common.{◌≡◌, ℕ, ◌+◌, ◌<◌, ◌≤◌, Bool, false, List, [], ◌∷◌, ◌++◌, Option, Some, None, if◌then◌else◌, get_or, length, map, take, zero, suc, refl, sym, ap, ap₂, ◌∙◌, subst, inl, inr, append_assoc, append-nil, length-append, arith}
use Rattle.std.specs.Prelude.{count_by, is_some, slice_get, sum_by, vec_len}
use Rattle.std.proofs.lemmas.List.{length-map, length-take-le, map-append, take_more}
use Rattle.std.proofs.lemmas.List.Sums.{count_by-le-length, sum_by-cons, sum_by_push}
use Rattle.std.proofs.lemmas.Option.{none-some, same_Some}
use Rattle.mcal_base.specs.declared.directive.Directive.{Directive}
use Rattle.bench_sweep.proofs.Differing.{get_of_more}
use Rattle.bench_sweep.specs.Places.{places}
use Rattle.bench_sweep.specs.declared.groups.Settled.{Settled}
use Rattle.bench_sweep.specs.declared.groups.Tried.{Tried}
use Rattle.bench_sweep.specs.declared.outcomes.Outcome.{Outcome}
use Rattle.bench_sweep.specs.declared.places.BlockPlace.{BlockPlace}
use Rattle.sweep_trials.proofs.Stopping.{few_places, inner_more}
use Rattle.sweep_trials.proofs.Trying.{at_on, tried_on}
use Rattle.sweep_trials.specs.Pairs.{ArePairs, AreSweptPairs, Behind, IsBehind, IsPairTried, count_pairs, told_from, told_pair, told_pairs}
use Rattle.sweep_trials.specs.Shown.{IsInnerAt}
use Rattle.sweep_trials.specs.Stops.{AreInners, StopsTwice, steps_of}
use Rattle.sweep_trials.specs.Stops.StopsTwice.{InAll}
use Rattle.sweep_trials.specs.Trials.{AreKept, AreTried, IsInner}
use Rattle.sweep_trials.specs.declared.opened.Opened.{Opened}
use Rattle.sweep_trials.specs.declared.reactions.Following.{Following}
use Rattle.sweep_trials.specs.declared.seen.RunSeen.{RunSeen}
use Rattle.sweep_trials.specs.declared.stop.Stop.{Stop}
use Rattle.sweep_trials.specs.declared.stop.Stop.TheVariants.{TooManyInAll}
use Rattle.sweep_trials.specs.declared.sweeping.Moment.{Moment}
use Rattle.sweep_trials.specs.declared.trials.Ends.{Ends}

-- no more wait than were tried
pub few_waiting : (tried : List Tried) → count_by (λ t. t.waits) tried ≤ length tried
few_waiting tried = count_by-le-length (λ (t : Tried). t.waits) tried

-- one pair more behind a first place
told_more : (number first second : ℕ) (xs : List Tried) (t : Tried) → told_from number first second (xs ++ t ∷ []) ≡ told_from number first second xs ++ told_from number first (second + length xs) (t ∷ [])
told_more number first second [] t = ap (λ (k : ℕ). told_from number first k (t ∷ [])) (omega arith)
told_more number first second (x ∷ xs) t =
    let one : List (Moment × Settled) = if x.waits then [] else told_pair number first second x.outcome ∷ [] in
    let e : told_from number first (second + 1 + length xs) (t ∷ []) ≡ told_from number first (second + suc (length xs)) (t ∷ []) = ap (λ (k : ℕ). told_from number first k (t ∷ [])) (omega arith) in
    ap (λ (ps : List (Moment × Settled)). one ++ ps) (told_more number first (second + 1) xs t)
    ∙ sym (append_assoc one (told_from number first (second + 1) xs) (told_from number first (second + 1 + length xs) (t ∷ [])))
    ∙ ap (λ (ps : List (Moment × Settled)). told_from number first second (x ∷ xs) ++ ps) e

pub kept_more : {Y : Type 0} (f : Moment × Settled → Y) (number first i : ℕ) (tried : List Tried) (d : Tried) (start old new : List Y) → i < length tried → new ≡ old ++ map f (told_from number first i (get_or tried i d ∷ [])) → old ≡ start ++ map f (told_from number first 0 (take i tried)) → new ≡ start ++ map f (told_from number first 0 (take (i + 1) tried))
kept_more f number first i tried d start old new l e h =
    let x : Tried = get_or tried i d in
    let before : List (Moment × Settled) = told_from number first 0 (take i tried) in
    let one : List (Moment × Settled) = told_from number first i (x ∷ []) in
    let k : 0 + length (take i tried) ≡ i = omega (arith, length-take-le i tried (omega (arith, l))) in
    let t : told_from number first 0 (take (i + 1) tried) ≡ before ++ one =
    ap (λ (ts : List Tried). told_from number first 0 ts) (take_more tried i d l) ∙ told_more number first 0 (take i tried) x ∙ ap (λ (j : ℕ). before ++ told_from number first j (x ∷ [])) k in
    e ∙ ap (λ ys. ys ++ map f one) h ∙ append_assoc start (map f before) (map f one) ∙ ap (λ ys. start ++ ys) (sym (map-append f before one) ∙ ap (λ ps. map f ps) (sym t))

-- the pairs of one first place more
pairs_more : (number first : ℕ) (bs : List Behind) (b : Behind) → told_pairs number first (bs ++ b ∷ []) ≡ told_pairs number first bs ++ told_from (number + count_pairs bs) (first + length bs) 0 b.tried
pairs_more number first [] b = append-nil (told_from number first 0 b.tried) ∙ ap₂ (λ (n f : ℕ). told_from n f 0 b.tried) (omega arith) (omega arith)
pairs_more number first (x ∷ bs) b =
    let n : ℕ = number + vec_len x.inner.all in
    let k : n + count_pairs bs ≡ number + count_pairs (x ∷ bs) = omega (arith, sum_by-cons (λ (y : Behind). vec_len y.inner.all) x bs) in
    let f : first + 1 + length bs ≡ first + suc (length bs) = omega arith in
    ap (λ (ps : List (Moment × Settled)). told_from number first 0 x.tried ++ ps) (pairs_more n (first + 1) bs b)
    ∙ sym (append_assoc (told_from number first 0 x.tried) (told_pairs n (first + 1) bs) (told_from (n + count_pairs bs) (first + 1 + length bs) 0 b.tried))
    ∙ ap₂ (λ (i j : ℕ). told_pairs number first (x ∷ bs) ++ told_from i j 0 b.tried) k f

length-push : {X : Type 0} (xs : List X) (y : X) → length (xs ++ y ∷ []) ≡ length xs + 1
length-push xs y = omega (arith, length-append xs (y ∷ []))

-- all pairs so far, of which the next one has the number, behind the next first place
pub record PairsSoFar (of_run : List Directive → RunSeen → Type 0) (following : Following) (placed second behind : List Directive) (o : Opened) (outcomes : List Outcome) (from : ℕ) (stops : Bool) (moments : List Moment) (settled : List Settled) (skipped number first : ℕ) : Type 0 where
  pub all : List Behind
  pub pairs : ArePairs of_run following placed second behind o outcomes from stops moments settled skipped all
  pub count : length all ≡ first
  pub numbered : count_pairs all ≡ number

pub none_so_far : (of_run : List Directive → RunSeen → Type 0) (following : Following) (placed second behind : List Directive) (o : Opened) (outcomes : List Outcome) (from : ℕ) (stops : Bool) (moments : List Moment) (settled : List Settled) (skipped : ℕ) → moments ≡ [] → settled ≡ [] → skipped ≡ 0 → PairsSoFar of_run following placed second behind o outcomes from stops moments settled skipped 0 0
none_so_far of_run following placed second behind o outcomes from stops moments settled skipped m s k = record {
  all = [];
  pairs = record {
    each = λ i b g. absurd (cc);
    ahead = λ i b g. absurd (cc);
    whole = λ i b g. absurd (cc);
    moments_told = m;
    settled_told = s;
    skipped_told = k;
  };
  count = refl;
  numbered = refl;
}

pub one_more : (of_run : List Directive → RunSeen → Type 0) (following : Following) (placed second behind : List Directive) (o : Opened) (a b : List Outcome) (from : ℕ) (stops : Bool) (moments ms : List Moment) (settled ss : List Settled) (skipped k number first count : ℕ) (inner : Opened) (tried : List Tried) → PairsSoFar of_run following placed second behind o a from stops moments settled skipped number first → AreKept a b
    → ((p : BlockPlace) → slice_get (places o.block.items o.steps.items) first ≡ Some p → IsInner of_run following o placed p inner) → AreTried of_run following second behind inner b 0 tried → (first < from → tried ≡ []) → (from ≤ first → stops ≡ false → length tried ≡ vec_len inner.all) → count ≡ vec_len inner.all
    → ms ≡ moments ++ map (λ t. t.0) (told_from number first 0 tried) → ss ≡ settled ++ map (λ t. t.1) (told_from number first 0 tried) → k ≡ skipped + count_by (λ t. t.waits) tried
    → PairsSoFar of_run following placed second behind o b from stops ms ss k (number + count) (first + 1)
one_more of_run following placed second behind o a b from stops moments ms settled ss skipped k number first count inner tried so_far kept opened ts ahead whole c em es ek =
    let new : Behind = record { inner = inner; tried = tried } in
    let all : List Behind = so_far.all in
    let p = so_far.pairs in
    let told : told_pairs 0 0 (all ++ new ∷ []) ≡ told_pairs 0 0 all ++ told_from number first 0 tried =
    pairs_more 0 0 all new ∙ ap₂ (λ (n f : ℕ). told_pairs 0 0 all ++ told_from n f 0 tried) (omega (arith, so_far.numbered)) (omega (arith, so_far.count)) in
    let here : IsBehind of_run following placed second behind o b first new = record { opened = opened; tried = ts } in
    record {
      all = all ++ new ∷ [];
      pairs = record {
        each = λ i x g. elim (get_of_more all new i x g) [
          | inl h ↦ record { opened = (p.each i x h).opened; tried = tried_on of_run following second behind x.inner a b 0 x.tried kept (p.each i x h).tried }
          | inr h ↦ subst (λ (y : Behind). IsBehind of_run following placed second behind o b i y) (sym h.1) (subst (λ (j : ℕ). IsBehind of_run following placed second behind o b j new) (sym (h.0 ∙ so_far.count)) here)
        ];
        ahead = λ i x g l. elim (get_of_more all new i x g) [
          | inl h ↦ p.ahead i x h l
          | inr h ↦ ap (λ (y : Behind). y.tried) h.1 ∙ ahead (omega (arith, l, h.0, so_far.count))
        ];
        whole = λ i x g l s. elim (get_of_more all new i x g) [
          | inl h ↦ p.whole i x h l s
          | inr h ↦ ap (λ (y : Behind). length y.tried) h.1 ∙ whole (omega (arith, l, h.0, so_far.count)) s ∙ ap (λ (y : Behind). vec_len y.inner.all) (sym h.1)
        ];
        moments_told = em ∙ ap (λ (xs : List Moment). xs ++ map (λ t. t.0) (told_from number first 0 tried)) p.moments_told ∙ sym (map-append (λ (t : Moment × Settled). t.0) (told_pairs 0 0 all) (told_from number first 0 tried)) ∙ ap (λ ps. map (λ (t : Moment × Settled). t.0) ps) (sym told);
        settled_told = es ∙ ap (λ (xs : List Settled). xs ++ map (λ t. t.1) (told_from number first 0 tried)) p.settled_told ∙ sym (map-append (λ (t : Moment × Settled). t.1) (told_pairs 0 0 all) (told_from number first 0 tried)) ∙ ap (λ ps. map (λ (t : Moment × Settled). t.1) ps) (sym told);
        skipped_told = omega (arith, ek, p.skipped_told, sum_by_push (λ (y : Behind). count_by (λ t. t.waits) y.tried) all new);
      };
      count = omega (arith, length-push all new, so_far.count);
      numbered = omega (arith, sum_by_push (λ (y : Behind). vec_len y.inner.all) all new, so_far.numbered, c);
    }

-- how many first places there are so far is how many there are up to the end
pub all_so_far : (of_run : List Directive → RunSeen → Type 0) (following : Following) (placed second behind : List Directive) (o : Opened) (outcomes : List Outcome) (from until : ℕ) (stops : Bool) (moments : List Moment) (settled : List Settled) (skipped number first : ℕ) → PairsSoFar of_run following placed second behind o outcomes from stops moments settled skipped number first → (stops ≡ false → first ≡ until) → AreSweptPairs of_run following placed second behind o outcomes from until stops moments settled skipped
all_so_far of_run following placed second behind o outcomes from until stops moments settled skipped number first so_far e = record { all = so_far.all; pairs = so_far.pairs; to_end = λ s. so_far.count ∙ e s }

pub none_by : {X : Type 0} (o : Option X) → is_some o ≡ false → o ≡ None
none_by None e = refl
none_by (Some x) e = absurd (cc)

-- a sweep that isn't to stop has no outcomes at which it stops
pub swept_as : (of_run : List Directive → RunSeen → Type 0) (following : Following) (placed second behind : List Directive) (o : Opened) (outcomes : List Outcome) (from until : ℕ) (stops : Option Ends) (first : Bool) (moments : List Moment) (settled : List Settled) (skipped : ℕ) → (first ≡ false → stops ≡ None) → AreSweptPairs of_run following placed second behind o outcomes from until (is_some stops) moments settled skipped → AreSweptPairs of_run following placed second behind o outcomes from until first moments settled skipped
swept_as of_run following placed second behind o outcomes from until stops first moments settled skipped h s =
    let p = s.pairs in
    record {
      all = s.all;
      pairs = record {
        each = p.each;
        ahead = p.ahead;
        whole = λ i b g l e. p.whole i b g l (ap is_some (h e));
        moments_told = p.moments_told;
        settled_told = p.settled_told;
        skipped_told = p.skipped_told;
      };
      to_end = λ e. s.to_end (ap is_some (h e));
    }

pub pair_on : (of_run : List Directive → RunSeen → Type 0) (following : Following) (placed second behind : List Directive) (o : Opened) (a b : List Outcome) (first : ℕ) (place : Opened → ℕ) (outcome : ℕ) → AreKept a b → IsPairTried of_run following placed second behind o a first place outcome → IsPairTried of_run following placed second behind o b first place outcome
pair_on of_run following placed second behind o a b first place outcome k t = record { inner = t.inner; opened = t.opened; tried = at_on of_run following second behind t.inner a b (place t.inner) outcome k t.tried }

-- ---- more pairs than steps may be taken

mapped : {X Y : Type 0} (h : X → Y) (xs : List X) (i : ℕ) (y : Y) → slice_get (map h xs) i ≡ Some y → (x : X) × (slice_get xs i ≡ Some x) × (h x ≡ y)
mapped h [] i y e = absurd (none-some y e)
mapped h (x ∷ xs) zero y e = (x, refl, same_Some (h x) y e)
mapped h (x ∷ xs) (suc i) y e = mapped h xs i y e

more_steps : (bs : List Behind) → count_pairs bs ≤ sum_by steps_of (map (λ (b : Behind). b.inner) bs)
more_steps [] = omega arith
more_steps (b ∷ bs) = omega (arith, more_steps bs, few_places b.inner, sum_by-cons (λ (x : Behind). vec_len x.inner.all) b bs, sum_by-cons steps_of b.inner (map (λ (x : Behind). x.inner) bs))

pub too_many_pairs : (of_run : List Directive → RunSeen → Type 0) (at_limit : List Directive → Stop → Type 0) (following : Following) (placed second behind : List Directive) (o : Opened) (outcomes : List Outcome) (from : ℕ) (stops : Bool) (moments : List Moment) (settled : List Settled) (skipped number first count : ℕ) (inner : Opened) → PairsSoFar of_run following placed second behind o outcomes from stops moments settled skipped number first → IsInnerAt of_run following o placed first inner → count ≡ vec_len inner.all → number ≤ 100000000 → 100000000 < number + count → StopsTwice of_run at_limit following placed second behind o TooManyInAll
too_many_pairs of_run at_limit following placed second behind o outcomes from stops moments settled skipped number first count inner so_far opened c few many =
    let before : List Opened = map (λ (b : Behind). b.inner) so_far.all in
    let all : length before ≡ first = length-map so_far.all (λ (b : Behind). b.inner) ∙ so_far.count in
    let each : AreInners of_run following placed o before = λ i x g.
    let b = mapped (λ (y : Behind). y.inner) so_far.all i x g in
    subst (λ (y : Opened). IsInnerAt of_run following o placed i y) b.2 (so_far.pairs.each i b.0 b.1).opened
    in
    InAll (before ++ inner ∷ []) (inner_more of_run following placed o before inner first each all opened) (omega (arith, more_steps so_far.all, few_places inner, sum_by_push steps_of before inner, so_far.numbered, c, many))
