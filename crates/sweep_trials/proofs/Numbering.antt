-- The pairs of one first place more.
use Rattle.std.proofs.Common.{◌≡◌, ℕ, ◌+◌, ◌-◌, ◌<◌, ◌≤◌, List, [], ◌∷◌, ◌++◌, Result, Ok, Err, IfOk, inl, inr, length, length-append, refl, sym, subst, ◌∙◌, arith}
use Rattle.std.specs.Prelude.{vec_len}
use Rattle.std.proofs.lemmas.List.Sums.{sum_by_push}
use Rattle.mcal_base.specs.declared.directive.Directive.{Directive}
use Rattle.bench_sweep.proofs.Differing.{get_of_more}
use Rattle.sweep_trials.specs.Shown.{IsInnerAt, IsPairAt, IsPairSeen, IsPlaceSeen, IsSeenAt}
use Rattle.sweep_trials.specs.declared.followed.Followed.{Followed}
use Rattle.sweep_trials.specs.declared.opened.Opened.{Opened}
use Rattle.sweep_trials.specs.declared.reactions.Following.{Following}
use Rattle.sweep_trials.specs.declared.seen.RunSeen.{RunSeen}

-- a pair of the first place
pub pair_first : (of_run : List Directive → RunSeen → Type 0) (following : Following) (placed : List Directive) (o : Opened) (number : ℕ) → IsPairAt of_run following placed o number 0 number
pair_first of_run following placed o number = record { before = []; each = λ i inner g. absurd (cc); count = refl; numbered = omega arith }

-- a pair that is behind those of a first place
pub pair_on : (of_run : List Directive → RunSeen → Type 0) (following : Following) (placed : List Directive) (o : Opened) (number first left count : ℕ) (inner : Opened) → IsPairAt of_run following placed o number first left → IsInnerAt of_run following o placed first inner → count ≡ vec_len inner.all → count ≤ left → IsPairAt of_run following placed o number (first + 1) (left - count)
pair_on of_run following placed o number first left count inner p at c l =
    let all : List Opened = p.before ++ inner ∷ [] in
    record {
      before = all;
      each = λ i x g. elim (get_of_more p.before inner i x g) [
        | inl h ↦ p.each i x h
        | inr h ↦ subst (λ (y : Opened). IsInnerAt of_run following o placed i y) (sym h.1) (subst (λ (j : ℕ). IsInnerAt of_run following o placed j inner) (sym (h.0 ∙ p.count)) at)
      ];
      count = let one : length all ≡ length p.before + 1 = length-append p.before (inner ∷ []) in omega (arith, one, p.count);
      numbered = omega (arith, sum_by_push (λ (y : Opened). vec_len y.all) p.before inner, p.numbered, c, l);
    }

-- the run of a place that is there
pub place_seen : {E : Type 0} (of_run : List Directive → RunSeen → Type 0) (following : Following) (placed behind : List Directive) (o : Opened) (number : ℕ) (r : Result Followed E) → number < vec_len o.all → IfOk r (λ found. IsSeenAt of_run following placed behind o number found) → IfOk r (IsPlaceSeen of_run following placed behind o number)
place_seen of_run following placed behind o number (Ok found) there seen = record { there = there; seen = seen }
place_seen of_run following placed behind o number (Err e) there seen = tt

-- the run of a pair
pub pair_seen : {E : Type 0} (of_run : List Directive → RunSeen → Type 0) (following : Following) (placed second behind : List Directive) (o inner : Opened) (number first left : ℕ) (r : Result Followed E) → first < vec_len o.all → IsPairAt of_run following placed o number first left → IsInnerAt of_run following o placed first inner → left < vec_len inner.all → IfOk r (λ found. IsSeenAt of_run following second behind inner left found) → IfOk r (IsPairSeen of_run following placed second behind o number)
pair_seen of_run following placed second behind o inner number first left (Ok found) there at opened within seen = record { first = first; left = left; there = there; at = at; inner = inner; opened = opened; run = record { there = within; seen = seen } }
pair_seen of_run following placed second behind o inner number first left (Err e) there at opened within seen = tt
