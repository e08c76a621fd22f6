-- The places of an opened block, and what is made of one.
use Rattle.std.proofs.Common.{◌≡◌, ℕ, ◌<◌, List, [], ◌++◌, Result, Ok, Err, Some, IfOk, All, length, get_or, suc, refl, sym, ap, ◌∙◌, subst, arith}
use Rattle.std.specs.List.{slice_get}
use Rattle.std.proofs.lemmas.List.Elements.{All-get_or}
use Rattle.std.proofs.lemmas.Option.{same_Some, slice_get_read}
use Rattle.mcal_base.specs.declared.directive.Directive.{Directive}
use Rattle.bench_sweep.specs.Placed.{block_on, block_up, put_in}
use Rattle.bench_sweep.specs.Places.{IsBy, places, places_from}
use Rattle.bench_sweep.specs.declared.cuts.Cut.{Cut}
use Rattle.bench_sweep.specs.declared.places.BlockPlace.{BlockPlace}
use Rattle.sweep_trials.specs.Grown.{IsSeen}
use Rattle.sweep_trials.specs.declared.followed.Followed.{Followed}
use Rattle.sweep_trials.specs.declared.reactions.Following.{Following}
use Rattle.sweep_trials.specs.declared.seen.RunSeen.{RunSeen}

-- there is a place in each block
pub some_place : (block : List Directive) (steps : List ℕ) (all : List BlockPlace) (n : ℕ) → all ≡ places block steps → n ≡ length all → 0 < n
some_place block steps all n e c =
    let k : length all ≡ suc (length (places_from 0 block steps)) = ap length e in
    omega (arith, c, k)

pub place_listed : (listed all : List BlockPlace) (n i : ℕ) (p : BlockPlace) → all ≡ listed → n ≡ length all → i < n → p ≡ get_or all i p → slice_get listed i ≡ Some p
place_listed listed all n i p e c l r = subst (λ (ps : List BlockPlace). slice_get ps i ≡ Some p) e (slice_get_read all n i p c l r)

pub place_by : (count : ℕ) (all : List BlockPlace) (n i : ℕ) (p : BlockPlace) → All (IsBy count) all → n ≡ length all → i < n → p ≡ get_or all i p → p.directive < count
place_by count all n i p a c l r = subst (λ (q : BlockPlace). q.directive < count) (sym r) (All-get_or (IsBy count) all i p (omega (arith, c, l)) a)

-- what was cut at the place of a number was cut at each place that has it
pub cut_up : {E : Type 0} (block : List Directive) (listed : List BlockPlace) (n : ℕ) (q : BlockPlace) (r : Result Cut E) → slice_get listed n ≡ Some q → IfOk r (λ cut. cut.up.items ≡ block_up block q) → IfOk r (λ cut. (p : BlockPlace) → slice_get listed n ≡ Some p → cut.up.items ≡ block_up block p)
cut_up block listed n q (Ok cut) e u = λ p f. u ∙ ap (λ (x : BlockPlace). block_up block x) (same_Some q p (sym e ∙ f))
cut_up block listed n q (Err x) e u = tt

pub cut_on : {E : Type 0} (block : List Directive) (steps : List ℕ) (listed : List BlockPlace) (n : ℕ) (q : BlockPlace) (r : Result Cut E) → slice_get listed n ≡ Some q → IfOk r (λ cut. cut.on.items ≡ block_on block steps q) → IfOk r (λ cut. (p : BlockPlace) → slice_get listed n ≡ Some p → cut.on.items ≡ block_on block steps p)
cut_on block steps listed n q (Ok cut) e u = λ p f. u ∙ ap (λ (x : BlockPlace). block_on block steps x) (same_Some q p (sym e ∙ f))
cut_on block steps listed n q (Err x) e u = tt

-- the parts stand one behind another
pub put_together : (before block placed behind : List Directive) (steps : List ℕ) (p : BlockPlace) (z a b c d e r s t up on : List Directive) → z ≡ [] → r ≡ before → s ≡ up → t ≡ on → up ≡ block_up block p → on ≡ block_on block steps p → a ≡ z ++ r → b ≡ a ++ s → c ≡ b ++ placed → d ≡ c ++ t → e ≡ d ++ behind → e ≡ put_in before placed block behind steps p
put_together before block placed behind steps p z a b c d e r s t up on n q1 q2 q3 u o k1 k2 k3 k4 k5 = rw (k5, k4, k3, k2, k1, n, q1, q2, q3, u, o) refl

-- what was seen of the directives that were put together
pub seen_at : {E : Type 0} (of_run : List Directive → RunSeen → Type 0) (following : Following) (start : List Directive) (r : Result Followed E) (listed : List BlockPlace) (n : ℕ) (put : BlockPlace → List Directive) → ((p : BlockPlace) → slice_get listed n ≡ Some p → start ≡ put p) → IfOk r (λ found. IsSeen of_run following start found) → IfOk r (λ found. (p : BlockPlace) → slice_get listed n ≡ Some p → IsSeen of_run following (put p) found)
seen_at of_run following start (Ok found) listed n put h s = λ p e. subst (λ (ds : List Directive). IsSeen of_run following ds found) (h p e) s
seen_at of_run following start (Err x) listed n put h s = tt
