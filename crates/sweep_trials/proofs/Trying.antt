-- What is opened and what is tried.
use Rattle.std.proofs.Common.{◌≡◌, ℕ, ◌+◌, ◌≤◌, List, [], ◌∷◌, ◌++◌, Result, Ok, Err, Some, IfOk, drop, take, length, refl, sym, ap, ap₂, ◌∙◌, subst, inl, inr, append_assoc, arith, add-one, zero, suc, None}
use Rattle.std.proofs.lemmas.List.{length-take-le}
use Rattle.std.proofs.lemmas.Option.{none-some}
use Rattle.std.specs.Prelude.{slice_get, vec_len}
use Rattle.mcal_base.specs.declared.directive.Directive.{Directive}
use Rattle.bench_sweep.proofs.Differing.{get_of_more, number_kept, number_tells, stay_different}
use Rattle.bench_sweep.specs.Groups.{settled}
use Rattle.bench_sweep.specs.Outcomes.{AreDifferent, Tells, number_of, telling, with_outcome}
use Rattle.bench_sweep.specs.Placed.{block_on, block_up, put_in}
use Rattle.bench_sweep.specs.Places.{places}
use Rattle.bench_sweep.specs.declared.groups.Settled.{Settled}
use Rattle.bench_sweep.specs.declared.groups.Tried.{Tried}
use Rattle.bench_sweep.specs.declared.outcomes.Outcome.{Outcome}
use Rattle.bench_sweep.specs.declared.places.BlockPlace.{BlockPlace}
use Rattle.sweep_trials.specs.Counts.{counts}
use Rattle.sweep_trials.specs.Grown.{IsSeen}
use Rattle.sweep_trials.specs.Trials.{AreKept, AreTried, IsBlock, IsInner, IsOpened, IsTrial, IsTriedAt, once_from}
use Rattle.sweep_trials.specs.declared.followed.Followed.{Followed}
use Rattle.sweep_trials.specs.declared.opened.Opened.{Opened}
use Rattle.sweep_trials.specs.declared.reactions.Following.{Following}
use Rattle.sweep_trials.specs.declared.seen.RunSeen.{RunSeen}
use Rattle.sweep_trials.specs.declared.sweeping.Moment.{Moment}

pub opened_of : {E : Type 0} (of_run : List Directive → RunSeen → Type 0) (following : Following) (first start : List Directive) (count n : ℕ) (found : Followed) (r : Result Opened E) → start ≡ first → n ≡ count → IsSeen of_run following start found → IfOk r (λ o. o.before.items ≡ take n found.directives.items) → IfOk r (λ o. o.block.items ≡ drop n found.directives.items) → IfOk r (λ o. o.steps.items ≡ drop n (counts (vec_len found.directives) found.seen.steps.items)) → IfOk r (λ o. o.seen.items ≡ found.seen.steps.items) → IfOk r (λ o. o.moves.items ≡ found.seen.moves.items) → IfOk r (λ o. vec_len o.moves ≡ vec_len o.seen) → IfOk r (λ o. IsOpened of_run following first count o)
opened_of of_run following first start count j found (Ok o) e f seen b k s w m n = record {
  found = found;
  seen = subst (λ (ds : List Directive). IsSeen of_run following ds found) e seen;
  before = b ∙ ap (λ (i : ℕ). take i found.directives.items) f;
  block = k ∙ ap (λ (i : ℕ). drop i found.directives.items) f;
  steps = s ∙ ap (λ (i : ℕ). drop i (counts (vec_len found.directives) found.seen.steps.items)) f;
  made = w;
  moves = m;
  named = n;
}
opened_of of_run following first start count j found (Err x) e f seen b k s w m n = tt

-- what the run of a block that begins at a place begins with
pub inner_start : (o : Opened) (placed before block up on : List Directive) (p : BlockPlace) → up ≡ block_up o.block.items p → on ≡ block_on o.block.items o.steps.items p → before ≡ o.before.items ++ up → block ≡ placed ++ on → before ++ block ≡ o.before.items ++ block_up o.block.items p ++ placed ++ block_on o.block.items o.steps.items p
inner_start o placed before block up on p u w b k =
    let e : before ≡ o.before.items ++ block_up o.block.items p = b ∙ ap (λ (ds : List Directive). o.before.items ++ ds) u in
    let f : block ≡ placed ++ block_on o.block.items o.steps.items p = k ∙ ap (λ (ds : List Directive). placed ++ ds) w in
    ap₂ (λ (xs ys : List Directive). xs ++ ys) e f ∙ sym (append_assoc (o.before.items ++ block_up o.block.items p) placed (block_on o.block.items o.steps.items p))

pub inner_of : {E : Type 0} (of_run : List Directive → RunSeen → Type 0) (following : Following) (o : Opened) (placed : List Directive) (n : ℕ) (before block up on : List Directive) (count : ℕ) (r : Result Opened E) → ((p : BlockPlace) → slice_get (places o.block.items o.steps.items) n ≡ Some p → up ≡ block_up o.block.items p) → ((p : BlockPlace) → slice_get (places o.block.items o.steps.items) n ≡ Some p → on ≡ block_on o.block.items o.steps.items p) → before ≡ o.before.items ++ up → block ≡ placed ++ on → count ≡ length before → IfOk r (λ inner. IsOpened of_run following (before ++ block) count inner) → IfOk r (λ inner. (p : BlockPlace) → slice_get (places o.block.items o.steps.items) n ≡ Some p → IsInner of_run following o placed p inner)
inner_of of_run following o placed n before block up on count (Ok inner) u w b k c opened = λ p h.
    let e : before ≡ o.before.items ++ block_up o.block.items p = b ∙ ap (λ (ds : List Directive). o.before.items ++ ds) (u p h) in
    let g : before ++ block ≡ o.before.items ++ block_up o.block.items p ++ placed ++ block_on o.block.items o.steps.items p = inner_start o placed before block up on p (u p h) (w p h) b k in
    let m : count ≡ length (o.before.items ++ block_up o.block.items p) = c ∙ ap length e in
    let at : IsOpened of_run following (before ++ block) (length (o.before.items ++ block_up o.block.items p)) inner = subst (λ (i : ℕ). IsOpened of_run following (before ++ block) i inner) m opened in
    subst (λ (ds : List Directive). IsOpened of_run following ds (length (o.before.items ++ block_up o.block.items p)) inner) g at
inner_of of_run following o placed n before block up on count (Err x) u w b k c opened = tt

pub block_of : {E : Type 0} (of_run : List Directive → RunSeen → Type 0) (following : Following) (before block first z : List Directive) (ahead : Followed) (count : ℕ) (r : Result Opened E) → z ≡ [] → first ≡ z ++ before → IsSeen of_run following first ahead → count ≡ vec_len ahead.directives → IfOk r (λ o. IsOpened of_run following (ahead.directives.items ++ block) count o) → IfOk r (λ o. IsBlock of_run following before block o)
block_of of_run following before block first z ahead count (Ok o) n e seen c opened = record {
  ahead = ahead;
  seen = subst (λ (ds : List Directive). IsSeen of_run following ds ahead) (e ∙ ap (λ (ds : List Directive). ds ++ before) n) seen;
  opened = subst (λ (i : ℕ). IsOpened of_run following (ahead.directives.items ++ block) i o) c opened;
}
block_of of_run following before block first z ahead count (Err x) n e seen c opened = tt

-- outcomes that were kept, one step after another
pub kept_same : (all : List Outcome) → AreKept all all
kept_same all = record { numbers = λ n o g. g; differ = λ d. d }

pub kept_further : (a b c : List Outcome) → AreKept a b → AreKept b c → AreKept a c
kept_further a b c k l = record { numbers = λ n o g. l.numbers n o (k.numbers n o g); differ = λ d. l.differ (k.differ d) }

pub kept_with : (outcome : Outcome) (all : List Outcome) → AreKept all (with_outcome outcome all)
kept_with outcome all = record { numbers = number_kept outcome all; differ = stay_different outcome all }

tells_on : (a b : List Outcome) (n : ℕ) (told : List (ℕ × List ℕ)) → AreKept a b → Tells a n told → Tells b n told
tells_on a b n told k (o, g, e) = (o, k.numbers n o g, e)

pub trial_on : (of_run : List Directive → RunSeen → Type 0) (following : Following) (a b : List Outcome) (first : List Directive) (n : ℕ) → AreKept a b → IsTrial of_run following a first n → IsTrial of_run following b first n
trial_on of_run following a b first n k t = record { found = t.found; seen = t.seen; tells = tells_on a b n _ k t.tells }

pub at_on : (of_run : List Directive → RunSeen → Type 0) (following : Following) (placed behind : List Directive) (o : Opened) (a b : List Outcome) (place n : ℕ) → AreKept a b → IsTriedAt of_run following placed behind o a place n → IsTriedAt of_run following placed behind o b place n
at_on of_run following placed behind o a b place n k t = λ p h. trial_on of_run following a b (put_in o.before.items placed o.block.items behind o.steps.items p) n k (t p h)

pub tried_on : (of_run : List Directive → RunSeen → Type 0) (following : Following) (placed behind : List Directive) (o : Opened) (a b : List Outcome) (from : ℕ) (all : List Tried) → AreKept a b → AreTried of_run following placed behind o a from all → AreTried of_run following placed behind o b from all
tried_on of_run following placed behind o a b from all k ts = λ i t g. at_on of_run following placed behind o a b (from + i) t.outcome k (ts i t g)

-- what was told of a run has the number
pub keep_tells : (old new : List Outcome) (o : Outcome) (n : ℕ) (told : List (ℕ × List ℕ)) → n ≡ number_of o old → new ≡ with_outcome o old → telling o ≡ told → Tells new n told
keep_tells old new o n told e f t = subst (λ (all : List Outcome). Tells all n told) (sym f) (subst (λ (i : ℕ). Tells (with_outcome o old) i told) (sym e) (subst (λ (ts : List (ℕ × List ℕ)). Tells (with_outcome o old) (number_of o old) ts) t (number_tells o old)))

pub keep_kept : (old new : List Outcome) (o : Outcome) → new ≡ with_outcome o old → AreKept old new
keep_kept old new o e = subst (λ (all : List Outcome). AreKept old all) (sym e) (kept_with o old)

pub kept_along : (a b c : List Outcome) → b ≡ c → AreKept a b → AreKept a c
kept_along a b c e k = subst (λ (all : List Outcome). AreKept a all) e k

-- one place more was tried
pub tried_more : (of_run : List Directive → RunSeen → Type 0) (following : Following) (placed behind : List Directive) (o : Opened) (a b z : List Outcome) (from place n : ℕ) (all next : List Tried) (t : Tried) → n ≡ length all → from + n ≡ place → AreKept a b → z ≡ b → AreTried of_run following placed behind o a from all → IsTriedAt of_run following placed behind o b place t.outcome → next ≡ all ++ t ∷ [] → AreTried of_run following placed behind o z from next
tried_more of_run following placed behind o a b z from place n all next t c p k q ts here e =
    let m : from + length all ≡ place = omega (arith, c, p) in
    let now : AreTried of_run following placed behind o b from (all ++ t ∷ []) = λ i x g. elim (get_of_more all t i x g) [
      | inl h ↦ at_on of_run following placed behind o a b (from + i) x.outcome k (ts i x h)
      | inr h ↦ subst (λ (y : Tried). IsTriedAt of_run following placed behind o b (from + i) y.outcome) (sym h.1) (subst (λ (j : ℕ). IsTriedAt of_run following placed behind o b j t.outcome) (sym (ap (λ (j : ℕ). from + j) h.0 ∙ m)) here)
    ] in
    subst (λ (outcomes : List Outcome). AreTried of_run following placed behind o outcomes from next) (sym q) (subst (λ (ys : List Tried). AreTried of_run following placed behind o b from ys) (sym e) now)

pub none_tried : (of_run : List Directive → RunSeen → Type 0) (following : Following) (placed behind : List Directive) (o : Opened) (outcomes : List Outcome) (from : ℕ) (all : List Tried) → all ≡ [] → AreTried of_run following placed behind o outcomes from all
none_tried of_run following placed behind o outcomes from all e = subst (λ (ys : List Tried). AreTried of_run following placed behind o outcomes from ys) (sym e) (λ i t g. absurd (none-some t g))

abbrev once_at : ℕ → Moment
once_at n = record { number = n; first = n; second = None }

-- the moments of one place more
pub once_more : (first n : ℕ) → once_from first (n + 1) ≡ once_from first n ++ record { number = first + n; first = first + n; second = None } ∷ []
once_more first zero = ap (λ (k : ℕ). once_at k ∷ []) (omega arith)
once_more first (suc n) =
    let e : first + 1 + n ≡ first + suc n = omega arith in
    let t : once_from (first + 1) (n + 1) ≡ once_from (first + 1) n ++ once_at (first + suc n) ∷ [] = once_more (first + 1) n ∙ ap (λ (k : ℕ). once_from (first + 1) n ++ once_at k ∷ []) e in
    rw (add-one (suc n)) (ap (λ (ms : List Moment). once_at first ∷ ms) (rw (add-one n) at t))

settled_length : (ts : List Tried) → length (settled ts) ≡ length ts
settled_length [] = refl
settled_length (t ∷ ts) = ap suc (settled_length ts)

-- how many places are told of
pub told_length : (all : List Settled) (most n : ℕ) (tried : List Tried) → all ≡ take most (settled tried) → n ≡ length tried → most ≤ n → length all ≡ most
told_length all most n tried e c l = ap length e ∙ length-take-le most (settled tried) (omega (arith, c, l, settled_length tried))

-- no outcomes, of which none tells what another does
pub none_differ : (all : List Outcome) → all ≡ [] → AreDifferent all
none_differ all e = subst AreDifferent (sym e) (λ i j a b l g h. absurd (none-some a g))
