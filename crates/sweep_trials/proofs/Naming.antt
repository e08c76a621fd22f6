-- The names of places that may not be there.
use Rattle.std.proofs.Common.{◌≡◌, ℕ, ◌-◌, ◌<◌, IfErr, IfOk, List, Option, Result, Ok, Err, Some, arith, length, min, string_bytes, subst, sym, ap, String}
use Rattle.std.specs.Prelude.{slice_get, vec_len}
use Rattle.std.specs.declared.alloc.Global.{Global}
use Rattle.std.proofs.lemmas.Option.{slice_get_within}
use Rattle.mcal_base.specs.declared.directive.Directive.{Directive}
use Rattle.bench_sweep.specs.Places.{places}
use Rattle.bench_sweep.specs.declared.places.BlockPlace.{BlockPlace}
use Rattle.sweep_trials.specs.Names.{IsNameBy, IsPairName}
use Rattle.sweep_trials.specs.Stops.{StopsInner, StopsName, Unless}
use Rattle.sweep_trials.specs.declared.opened.Opened.{Opened}
use Rattle.sweep_trials.specs.declared.reactions.Following.{Following}
use Rattle.sweep_trials.specs.declared.seen.RunSeen.{RunSeen}
use Rattle.sweep_trials.specs.declared.stop.Stop.{Stop}
use Rattle.sweep_trials.specs.declared.sweeping.Moment.{Moment}
use Rattle.sweep_trials.proofs.Stopping.{stopped_so}

-- there is no place of such a number
pub within_all : (o : Opened) (number : ℕ) (p : BlockPlace) → slice_get (places o.block.items o.steps.items) number ≡ Some p → number < vec_len o.all
within_all o number p e =
    let same : length o.all.items ≡ length (places o.block.items o.steps.items) = ap (λ (ps : List BlockPlace). length ps) o.each in
    omega (arith, slice_get_within (places o.block.items o.steps.items) number p e, same, o.all.ok.0)

-- where a place is there, it is the one that is named
pair_name : (of_run : List Directive → RunSeen → Type 0) (following : Following) (placed : List Directive) (o : Opened) (first second shown : ℕ) (name : List ℕ) → shown ≡ min first (vec_len o.all - 1) → IsPairName of_run following placed o shown second name → IsPairName of_run following placed o first second name
pair_name of_run following placed o first second shown name e n = record {
  inner = n.inner;
  opened = λ p h. n.opened p (subst (λ (i : ℕ). slice_get (places o.block.items o.steps.items) i ≡ Some p) (same p h) h);
  front = n.front;
  back = n.back;
  first_is = λ p h. n.first_is p (subst (λ (i : ℕ). slice_get (places o.block.items o.steps.items) i ≡ Some p) (same p h) h);
  second_is = n.second_is;
  is = n.is;
}
  where
    same : (p : BlockPlace) → slice_get (places o.block.items o.steps.items) first ≡ Some p → first ≡ shown
    same p h = omega (arith, e, within_all o first p h)

pub named_pair : {E : Type 0} (of_run : List Directive → RunSeen → Type 0) (following : Following) (placed : List Directive) (o : Opened) (m : Moment) (second shown : ℕ) (r : Result (String Global) E) → m.second ≡ Some second → shown ≡ min m.first (vec_len o.all - 1) → IfOk r (λ text. IsPairName of_run following placed o shown second (string_bytes text)) → IfOk r (λ text. IsNameBy of_run following placed o m.first m.second (string_bytes text))
named_pair of_run following placed o m second shown (Ok text) s e n = subst (λ (x : Option ℕ). IsNameBy of_run following placed o m.first x (string_bytes text)) (sym s) (pair_name of_run following placed o m.first second shown (string_bytes text) e n)
named_pair of_run following placed o m second shown (Err x) s e n = tt

pub stops_name : {A : Type 0} (of_run : List Directive → RunSeen → Type 0) (at_limit : List Directive → Stop → Type 0) (f : Following) (placed : List Directive) (o : Opened) (m : Moment) (second shown : ℕ) (r : Result A Stop) → m.second ≡ Some second → shown ≡ min m.first (vec_len o.all - 1) → IfErr r (Unless (StopsInner of_run at_limit f placed o shown)) → IfErr r (Unless (StopsName of_run at_limit f placed o m))
stops_name of_run at_limit f placed o m second shown r s e u = stopped_so (StopsInner of_run at_limit f placed o shown) (StopsName of_run at_limit f placed o m) r (λ stop h. record { second = second; pair = s; stops = subst (λ (n : ℕ). StopsInner of_run at_limit f placed o n stop) e h }) u
