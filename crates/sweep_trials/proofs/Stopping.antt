-- Stops that are passed on, and where they come.
use Rattle.std.proofs.Common.{◌≡◌, ℕ, ◌+◌, ◌-◌, ◌<◌, ◌≤◌, ◌^◌, ◌++◌, ◌||◌, Bool, true, IfErr, IsErrAnd, OnOk, List, [], ◌∷◌, Result, Ok, Err, Some, arith, length, length-append, max, min, nat_lt, refl, sym, ap, subst, slice_get, vec_len, ◌∙◌, inl, inr}
use Rattle.std.proofs.lemmas.List.Sums.{sum_by_push}
use Rattle.std.proofs.lemmas.Nat.{mul-le}
use Rattle.std.proofs.lemmas.Option.{slice_get_cases}
use Rattle.mcal_base.specs.declared.directive.Directive.{Directive}
use Rattle.bench_sweep.proofs.Differing.{get_of_more}
use Rattle.bench_sweep.specs.Places.{places}
use Rattle.bench_sweep.specs.declared.groups.Tried.{Tried}
use Rattle.bench_sweep.specs.declared.outcomes.Outcome.{Outcome}
use Rattle.bench_sweep.specs.declared.places.BlockPlace.{BlockPlace}
use Rattle.sweep_trials.specs.Shown.{IsInnerAt}
use Rattle.sweep_trials.specs.Stops.{AreFew, AreInners, HaveSteps, StopsAt, StopsTrying, StopsTwice, Unless, ends_waiting, steps_of}
use Rattle.sweep_trials.specs.Stops.IsToTry.{Next}
use Rattle.sweep_trials.specs.Stops.StopsTwice.{InAll}
use Rattle.sweep_trials.specs.Trials.{AreTried}
use Rattle.sweep_trials.specs.declared.opened.Opened.{Opened}
use Rattle.sweep_trials.specs.declared.reactions.Following.{Following}
use Rattle.sweep_trials.specs.declared.seen.RunSeen.{RunSeen}
use Rattle.sweep_trials.specs.declared.stop.Stop.{Stop}
use Rattle.sweep_trials.specs.declared.stop.Stop.TheVariants as stops

-- one reason for another
pub unless_so : (P Q : Stop → Type 0) (stop : Stop) → (P stop → Q stop) → Unless P stop → Unless Q stop
unless_so P Q stops.TooManyDirectives f u = f u
unless_so P Q stops.TooManySteps f u = f u
unless_so P Q stops.TooManyInAll f u = f u
unless_so P Q stops.TooManyNotices f u = f u
unless_so P Q stops.TooLongReport f u = f u
unless_so P Q (stops.NoPlace n) f u = f u
unless_so P Q stops.NoMemory f u = tt

pub stopped_so : {A : Type 0} (P Q : Stop → Type 0) (r : Result A Stop) → ((stop : Stop) → P stop → Q stop) → IfErr r (Unless P) → IfErr r (Unless Q)
stopped_so P Q (Ok x) f u = tt
stopped_so P Q (Err stop) f u = unless_so P Q stop (f stop) u

-- memory was wanting
pub no_memory : {A : Type 0} (P : Stop → Type 0) (r : Result A Stop) → IsErrAnd r (λ stop. stop ≡ stops.NoMemory) → IfErr r (Unless P)
no_memory P (Ok x) e = tt
no_memory P (Err stop) e = subst (λ (s : Stop). Unless P s) (sym e) tt

pub memory_so : {A : Type 0} (P : Stop → Type 0) (r : Result A Stop) (stop : Stop) → IsErrAnd r (λ s. s ≡ stop) → stop ≡ stops.NoMemory → IfErr r (Unless P)
memory_so P (Ok x) stop e m = tt
memory_so P (Err s) stop e m = subst (λ (z : Stop). Unless P z) (sym (e ∙ m)) tt

pub memory_only : {A : Type 0} (r : Result A Stop) (stop : Stop) → IsErrAnd r (λ s. s ≡ stop) → stop ≡ stops.NoMemory → IfErr r (λ s. s ≡ stops.NoMemory)
memory_only (Ok x) stop e m = tt
memory_only (Err s) stop e m = e ∙ m

pub memory_only_at : {A : Type 0} (r : Result A Stop) → IsErrAnd r (λ s. s ≡ stops.NoMemory) → IfErr r (λ s. s ≡ stops.NoMemory)
memory_only_at (Ok x) e = tt
memory_only_at (Err s) e = e

-- a stop is passed on, with another reason
pub passed : {A : Type 0} (P Q : Stop → Type 0) (r : Result A Stop) (stop : Stop) → IsErrAnd r (λ s. s ≡ stop) → (P stop → Q stop) → Unless P stop → IfErr r (Unless Q)
passed P Q (Ok x) stop e f u = tt
passed P Q (Err s) stop e f u = subst (λ (z : Stop). Unless Q z) (sym e) (unless_so P Q stop f u)

pub if_ok : {A E : Type 0} {X : Type 0} (r : Result A E) → X → OnOk r X
if_ok (Ok a) x = x
if_ok (Err e) x = tt

-- ---- places

-- a place of each number stands in an opened block
pub place_there : (o : Opened) (number : ℕ) → number < vec_len o.all → (p : BlockPlace) × (slice_get (places o.block.items o.steps.items) number ≡ Some p)
place_there o number l =
    let listed : List BlockPlace = places o.block.items o.steps.items in
    let same : length o.all.items ≡ length listed = ap (λ (ps : List BlockPlace). length ps) o.each in
    elim ((slice_get_cases listed number).1) [
      | inl h ↦ (h.0, h.2)
      | inr h ↦ absurd (omega (arith, h.0, l, o.all.ok.0, same))
    ]

-- with one place more, it is the last one that waits or not
pub waits_last : (tried : List Tried) (t : Tried) → ends_waiting (tried ++ t ∷ []) ≡ t.waits
waits_last [] t = refl
waits_last (x ∷ []) t = refl
waits_last (x ∷ y ∷ ts) t = waits_last (y ∷ ts) t

-- the place behind those that were tried is to be tried
pub next_stops : (of_run : List Directive → RunSeen → Type 0) (at_limit : List Directive → Stop → Type 0) (f : Following) (placed behind : List Directive) (o : Opened) (outcomes : List Outcome) (from until place count : ℕ) (tried : List Tried) (waits : Bool) (stop : Stop) → AreTried of_run f placed behind o outcomes from tried → count ≡ length tried → from + count ≡ place → waits ≡ ends_waiting tried → (nat_lt place until || waits) ≡ true → StopsAt of_run at_limit f placed behind o place stop → StopsTrying of_run at_limit f placed behind o from until stop
next_stops of_run at_limit f placed behind o outcomes from until place count tried waits stop each c at w on stops =
    let here : place ≡ from + length tried = sym at ∙ ap (λ (n : ℕ). from + n) c in
    record {
      number = from + length tried;
      try = Next outcomes tried each (subst (λ (n : ℕ). (nat_lt n until || ends_waiting tried) ≡ true) here (subst (λ (b : Bool). (nat_lt place until || b) ≡ true) w on));
      stops = subst (λ (n : ℕ). StopsAt of_run at_limit f placed behind o n stop) here stops;
    }

-- ---- steps of all runs

-- there are no more places than steps
pub few_places : (o : Opened) → vec_len o.all ≤ steps_of o
few_places o = omega (arith, mul-le (vec_len o.all) 1 (vec_len o.all) (max 1 (vec_len o.seen)) (omega arith) (omega arith))

-- one first place more
pub inner_more : (of_run : List Directive → RunSeen → Type 0) (f : Following) (placed : List Directive) (o : Opened) (inners : List Opened) (inner : Opened) (n : ℕ) → AreInners of_run f placed o inners → length inners ≡ n → IsInnerAt of_run f o placed n inner → AreInners of_run f placed o (inners ++ inner ∷ [])
inner_more of_run f placed o inners inner n each c at = λ i x g. elim (get_of_more inners inner i x g) [
  | inl h ↦ each i x h
  | inr h ↦ subst (λ (y : Opened). IsInnerAt of_run f o placed i y) (sym h.1) (subst (λ (j : ℕ). IsInnerAt of_run f o placed j inner) (sym (h.0 ∙ c)) at)
]

pub no_steps : (of_run : List Directive → RunSeen → Type 0) (f : Following) (placed : List Directive) (o : Opened) → HaveSteps of_run f placed o 0 0
no_steps of_run f placed o = record { inners = []; each = λ i inner g. absurd (cc); all = refl; steps_are = refl }

pub steps_more : (of_run : List Directive → RunSeen → Type 0) (f : Following) (placed : List Directive) (o inner : Opened) (n steps next : ℕ) → HaveSteps of_run f placed o n steps → IsInnerAt of_run f o placed n inner → next ≡ min (steps + steps_of inner) (2 ^ 64 - 1) → HaveSteps of_run f placed o (n + 1) next
steps_more of_run f placed o inner n steps next h at k = record {
  inners = h.inners ++ inner ∷ [];
  each = inner_more of_run f placed o h.inners inner n h.each h.all at;
  all = omega (arith, length-append h.inners (inner ∷ []), h.all);
  steps_are = omega (arith, sum_by_push steps_of h.inners inner, h.steps_are, k);
}

-- more steps than may be taken
pub too_many : (of_run : List Directive → RunSeen → Type 0) (at_limit : List Directive → Stop → Type 0) (f : Following) (placed second behind : List Directive) (o : Opened) (n steps : ℕ) → HaveSteps of_run f placed o n steps → 100000000 < steps → StopsTwice of_run at_limit f placed second behind o stops.TooManyInAll
too_many of_run at_limit f placed second behind o n steps h l = InAll h.inners h.each (omega (arith, h.steps_are, l))

pub are_few : (of_run : List Directive → RunSeen → Type 0) (f : Following) (placed : List Directive) (o : Opened) (steps : ℕ) → HaveSteps of_run f placed o (vec_len o.all) steps → steps ≤ 100000000 → AreFew of_run f placed o
are_few of_run f placed o steps h l = record { inners = h.inners; each = h.each; all = h.all; few = omega (arith, h.steps_are, l) }
