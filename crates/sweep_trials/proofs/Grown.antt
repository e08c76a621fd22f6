-- Directives in which calls were put behind notices.
use Rattle.std.proofs.Common.{◌≡◌, ℕ, ◌+◌, ◌<◌, ◌≤◌, List, [], ◌∷◌, ◌++◌, Result, Ok, Err, Vec, Some, IfOk, arith, drop, length, length-append, length-drop, slice_get, take, refl, sym, ap, ap₂, ◌∙◌}
use Rattle.std.proofs.lemmas.List.{length-map, length-take-le}
use Rattle.std.proofs.lemmas.Option.{none-some, same_Some}
use Rattle.mcal_base.specs.declared.directive.Directive.{Directive}
use Rattle.bench_sweep.specs.Flat.{lines_of, numbered_from}
use Rattle.bench_sweep.specs.Placed.{block_on, block_up, on_there, up_there}
use Rattle.bench_sweep.specs.Places.{at}
use Rattle.bench_sweep.specs.declared.places.Spot.TheVariants.{Step}
use Rattle.sweep_trials.specs.Follows.{IsUnfollowed}
use Rattle.sweep_trials.specs.Grown.{AreGrown, with_call_behind}
use Rattle.sweep_trials.specs.Grown.AreGrown.{Same, More}
use Rattle.sweep_trials.specs.declared.reactions.Following.{Following}
use Rattle.sweep_trials.specs.declared.reactions.Reaction.{Reaction}
use Rattle.sweep_trials.specs.declared.seen.RunSeen.{RunSeen}

pub lines_count : (ds : List Directive) → length (lines_of ds) ≡ length ds
lines_count ds = length-map ds (λ (d : Directive). d.line)

-- the call of a number was put at a place, where what runs up to there, the call and what runs from there on stand one behind another
pub put_behind : {Z E : Type 0} (calls : List Reaction) (before : List Directive) (steps : List ℕ) (directive made n : ℕ) (reaction : Reaction) (up on : List Directive) (r : Result (Vec Directive Z) E) → slice_get calls n ≡ Some reaction → up ≡ block_up before (at directive (Step made)) → on ≡ block_on before steps (at directive (Step made)) → IfOk r (λ all. all.items ≡ up ++ reaction.directive ∷ on) → IfOk r (λ all. (x : Reaction) → slice_get calls n ≡ Some x → all.items ≡ with_call_behind before steps directive made x.directive)
put_behind calls before steps directive made n reaction up on (Ok all) is u o p = λ x e.
    p ∙ ap₂ (λ (us os : List Directive). us ++ reaction.directive ∷ os) u o ∙ ap (λ (y : Reaction). with_call_behind before steps directive made y.directive) (same_Some reaction x (sym is ∙ e))
put_behind calls before steps directive made n reaction up on (Err x) is u o p = tt

-- one call more was put
pub grows_more : (of_run : List Directive → RunSeen → Type 0) (f : Following) (first now next : List Directive) (seen : RunSeen) (put directive made n : ℕ) (steps : List ℕ) → of_run (numbered_from 1 now) seen → (u : IsUnfollowed f now seen.steps.items directive made n steps) → ((x : Reaction) → slice_get f.calls.now n ≡ Some x → next ≡ with_call_behind now steps directive made x.directive) → AreGrown of_run f first put now → AreGrown of_run f first (put + 1) next
grows_more of_run f first now next seen put directive made n steps run u is grown = More put now next grown (record {
  seen = seen;
  run = run;
  directive = directive;
  made = made;
  number = n;
  steps = steps;
  unfollowed = u;
  is = is u.reaction u.is;
})

no_call : (calls : List Reaction) (n : ℕ) (x : Reaction) → calls ≡ [] → slice_get calls n ≡ Some x → ⊥
no_call calls n x e g = none-some x (sym (ap (λ (rs : List Reaction). slice_get rs n) e) ∙ g)

-- no call is put where none follows a notice
pub nothing_put : {of_run : List Directive → RunSeen → Type 0} {first next : List Directive} {n : ℕ} (f : Following) → f.calls.now ≡ [] → AreGrown of_run f first n next → next ≡ first
nothing_put f none Same = refl
nothing_put f none (More m now next grown is) = absurd (no_call f.calls.now is.number is.unfollowed.reaction none is.unfollowed.is)

-- calls that are put make no script shorter
length_put : (before : List Directive) (steps : List ℕ) (directive made : ℕ) (call : Directive) → directive < length before → length before ≤ length (with_call_behind before steps directive made call)
length_put before steps directive made call l =
    let p = at directive (Step made) in
    let up : List Directive = up_there (Step made) (slice_get before directive) in
    let on : List Directive = on_there (Step made) (slice_get before directive) (slice_get steps directive) in
    let rest : List Directive = call ∷ (on ++ drop (directive + 1) before) in
    omega (arith, l, length-append (take directive before ++ up) rest, length-append (take directive before) up, length-append on (drop (directive + 1) before), length-take-le directive before (omega (arith, l)), length-drop (directive + 1) before)

grown_length : {of_run : List Directive → RunSeen → Type 0} {f : Following} {first next : List Directive} {n : ℕ} → AreGrown of_run f first n next → length first ≤ length next
grown_length Same = omega arith
grown_length (More m now next grown is) =
    let longer : length now ≤ length (with_call_behind now is.steps is.directive is.made is.unfollowed.reaction.directive) = length_put now is.steps is.directive is.made is.unfollowed.reaction.directive is.unfollowed.there in
    omega (arith, grown_length grown, longer, ap (λ (ds : List Directive). length ds) is.is)

-- a block that is behind so many directives stays there
pub block_stays : {of_run : List Directive → RunSeen → Type 0} {f : Following} (before block start next : List Directive) {n : ℕ} → start ≡ before ++ block → 0 < length block → AreGrown of_run f start n next → length before < length next
block_stays before block start next e some grown = omega (arith, grown_length grown, ap (λ (ds : List Directive). length ds) e, length-append before block, some)
