-- The walk over the steps of a run that finds what is followed, and the first notice that isn't.
use Rattle.std.proofs.Common.{◌≡◌, ℕ, ◌+◌, ◌<◌, ◌≤◌, Bool, false, List, [], ◌∷◌, ◌++◌, Option, Some, None, true, length, get_or, take, zero, suc, refl, sym, ap, ap₂, subst, ◌∙◌, inl, inr, arith}
use Rattle.std.specs.Prelude.{MatchOption, slice_get}
use Rattle.std.proofs.lemmas.Bool.{cases_lt}
use Rattle.std.proofs.lemmas.List.{take_more}
use Rattle.std.proofs.lemmas.List.Quantifiers.{position-Some}
use Rattle.std.proofs.lemmas.Option.{get_or_from_slice_get, same_Some, slice_get-get_or, slice_get_within}
use Rattle.mcal_base.specs.declared.directive.Directive.{Directive}
use Rattle.mcal_base.specs.declared.notice.Notice.{Notice}
use Rattle.sweep_trials.specs.Counts.{counts, counts_from, steps_on}
use Rattle.sweep_trials.specs.Follows.{AreFollowed, IsFollowed, IsQuiet, IsUnfollowed, IsWanted, StandsAlone, StandsBehind, call_behind, is_free_call, is_same, may_intrude}
use Rattle.sweep_trials.specs.Follows.AreFollowed.{Quiet, Next}
use Rattle.sweep_trials.specs.declared.reactions.Following.{Following}
use Rattle.sweep_trials.specs.declared.reactions.Reaction.{Reaction}
use Rattle.sweep_trials.specs.declared.seen.StepSeen.{StepSeen}

counted_from : (line n : ℕ) (seen : List StepSeen) (d : ℕ) → d < n → slice_get (counts_from line n seen) d ≡ Some (steps_on (line + d) seen)
counted_from line zero seen d l = absurd (omega (arith, l))
counted_from line (suc n) seen zero l = ap (λ (k : ℕ). Some (steps_on k seen)) (omega arith)
counted_from line (suc n) seen (suc d) l = counted_from (line + 1) n seen d (omega (arith, l)) ∙ ap (λ (k : ℕ). Some (steps_on k seen)) (omega arith)

-- how many steps the directive of a line made, as they were counted
pub counted_at : (n : ℕ) (seen : List StepSeen) (d line made : ℕ) (all : List ℕ) → d < n → line ≡ d + 1 → all ≡ counts n seen → slice_get all d ≡ Some made → steps_on line seen ≡ made
counted_at n seen d line made all l e c g =
    let k : line ≡ 1 + d = omega (arith, e) in
    ap (λ (i : ℕ). steps_on i seen) k ∙ same_Some (steps_on (1 + d) seen) made (sym (counted_from 1 n seen d l) ∙ ap (λ (ns : List ℕ). slice_get ns d) (sym c) ∙ g)

-- one step more, of which nothing is to follow
pub quiet_more : (f : Following) (directives : List Directive) (whole : List StepSeen) (i n : ℕ) (d : StepSeen) (taken : List ℕ) → i < length whole → n ≡ length directives → AreFollowed f directives whole (take i whole) taken → IsQuiet f.calls.now n (get_or whole i d) → AreFollowed f directives whole (take (i + 1) whole) taken
quiet_more f directives whole i n d taken l c all quiet =
    subst (λ (seen : List StepSeen). AreFollowed f directives whole seen taken) (sym (take_more whole i d l))
    (Quiet (take i whole) taken (get_or whole i d) all (subst (λ (k : ℕ). IsQuiet f.calls.now k (get_or whole i d)) c quiet))

-- one step more, which is followed by a call of its own
pub followed_more : (f : Following) (directives : List Directive) (whole : List StepSeen) (i n directive number made all at : ℕ) (d : StepSeen) (call : Reaction) (so_far steps taken next : List ℕ) → i < length whole → n ≡ length directives → AreFollowed f directives whole (take i whole) taken → IsWanted f.calls.now n (get_or whole i d) directive number → slice_get f.calls.now number ≡ Some call → so_far ≡ counts n (take (i + 1) whole) → slice_get so_far directive ≡ Some made → steps ≡ counts n whole → slice_get steps directive ≡ Some all → made ≡ all → StandsBehind f directives taken directive call.directive.line at → next ≡ taken ++ at ∷ [] → AreFollowed f directives whole (take (i + 1) whole) next
followed_more f directives whole i n directive number made all at d call so_far steps taken next l c before wanted is cm gm cs gs same stands e =
    let step : StepSeen = get_or whole i d in
    let more : take (i + 1) whole ≡ take i whole ++ step ∷ [] = take_more whole i d l in
    let made_so : steps_on step.line (take (i + 1) whole) ≡ made = counted_at n (take (i + 1) whole) directive step.line made so_far wanted.within wanted.line cm gm in
    let made_all : steps_on step.line whole ≡ all = counted_at n whole directive step.line all steps wanted.within wanted.line cs gs in
    let followed : IsFollowed f directives whole (take i whole) taken step at = record {
      directive = directive;
      number = number;
      reaction = call;
      wanted = subst (λ (k : ℕ). IsWanted f.calls.now k step directive number) c wanted;
      is = is;
      last = ap (λ (seen : List StepSeen). steps_on step.line seen) (sym more) ∙ made_so ∙ same ∙ sym made_all;
      stands = stands;
    } in
    subst (λ (ts : List ℕ). AreFollowed f directives whole (take (i + 1) whole) ts) (sym e)
    (subst (λ (seen : List StepSeen). AreFollowed f directives whole seen (taken ++ at ∷ [])) (sym more) (Next (take i whole) taken step at before followed))

given_by : (calls : List Reaction) (notice : Option Notice) (n : ℕ) (call : Reaction) → call_behind calls notice ≡ Some n → slice_get calls n ≡ Some call → (given : Notice) × (notice ≡ Some given) × (is_same call.notice given ≡ true)
given_by calls None n call e s = absurd (cc)
given_by calls (Some x) n call e s =
    let first : is_same (get_or calls n call).notice x ≡ true = (position-Some (λ (r : Reaction). is_same r.notice x) calls n call e).1 in
    (x, refl, subst (λ (r : Reaction). is_same r.notice x ≡ true) (get_or_from_slice_get calls n call call s) first)

-- where there is a place, this stands too
pub own_too : (o : Option ℕ) (P N : Type 0) (Q : ℕ → Type 0) → P → MatchOption o N Q → MatchOption o (P → N) (λ n. P × Q n)
own_too None P N Q p h = λ q. h
own_too (Some n) P N Q p h = (p, h)

-- the same holds of each directive between one and a place
abbrev pub EachBetween : (ℕ → Directive → Bool) → Bool → List Directive → ℕ → ℕ → Type 0
EachBetween p b directives directive place = (k : ℕ) (d : Directive) → directive < k → k < place → slice_get directives k ≡ Some d → p k d ≡ b

-- it holds up to the next one, where it holds of that too
pub between_more : (p : ℕ → Directive → Bool) (b : Bool) (directives : List Directive) (directive place : ℕ) (found : Directive) → slice_get directives place ≡ Some found → p place found ≡ b → EachBetween p b directives directive place → EachBetween p b directives directive (place + 1)
between_more p b directives directive place found is may before k d a l e =
    elim (cases_lt k place) [
      | inl h ↦ before k d a h e
      | inr h ↦
          let same : k ≡ place = omega (arith, h, l) in
          let one : found ≡ d = same_Some found d (sym is ∙ ap (λ (i : ℕ). slice_get directives i) (sym same) ∙ e) in
          ap₂ (λ (i : ℕ) (x : Directive). p i x) same (sym one) ∙ may
    ]

-- no call stands right behind a directive, where none is free up to a place and what is there may not stand between
pub alone_here : (f : Following) (directives : List Directive) (taken : List ℕ) (directive line place : ℕ) (found : Directive) → slice_get directives place ≡ Some found → directive < place → is_free_call line taken place found ≡ false → may_intrude f found.line ≡ false → EachBetween (λ k d. is_free_call line taken k d) false directives directive place → StandsAlone f directives taken directive line
alone_here f directives taken directive line place found is d not_free not_may before at s =
    elim (cases_lt place at) [
      | inl h ↦ let never : true ≡ false = sym (s.between place found d h is) ∙ not_may in absurd (cc)
      | inr h ↦ let never : true ≡ false = sym s.free ∙ between_more (λ k x. is_free_call line taken k x) false directives directive place found is not_free before at s.call s.behind (omega (arith, h)) s.there in absurd (cc)
    ]

-- none does, where none is free up to the end
pub alone_all : (f : Following) (directives : List Directive) (taken : List ℕ) (directive line place : ℕ) → length directives ≤ place → EachBetween (λ k d. is_free_call line taken k d) false directives directive place → StandsAlone f directives taken directive line
alone_all f directives taken directive line place l before at s =
    let there : at < length directives = slice_get_within directives at s.call s.there in
    let never : true ≡ false = sym s.free ∙ before at s.call s.behind (omega (arith, there, l)) s.there in
    absurd (cc)

-- a step that isn't followed by a call of its own
pub unfollowed_at : (f : Following) (directives : List Directive) (whole : List StepSeen) (i n directive number made all : ℕ) (d : StepSeen) (call : Reaction) (so_far steps taken : List ℕ) → i < length whole → n ≡ length directives → AreFollowed f directives whole (take i whole) taken → IsWanted f.calls.now n (get_or whole i d) directive number → slice_get f.calls.now number ≡ Some call → so_far ≡ counts n (take (i + 1) whole) → slice_get so_far directive ≡ Some made → steps ≡ counts n whole → slice_get steps directive ≡ Some all → (made ≡ all → StandsAlone f directives taken directive call.directive.line) → IsUnfollowed f directives whole directive made number steps
unfollowed_at f directives whole i n directive number made all d call so_far steps taken l c before wanted is cm gm cs gs none =
    let step : StepSeen = get_or whole i d in
    let more : take (i + 1) whole ≡ take i whole ++ step ∷ [] = take_more whole i d l in
    let made_so : steps_on step.line (take (i + 1) whole) ≡ made = counted_at n (take (i + 1) whole) directive step.line made so_far wanted.within wanted.line cm gm in
    let made_all : steps_on step.line whole ≡ all = counted_at n whole directive step.line all steps wanted.within wanted.line cs gs in
    let given = given_by f.calls.now step.notice number call wanted.call is in
    record {
      there = omega (arith, wanted.within, c);
      counted = cs ∙ ap (λ (k : ℕ). counts k whole) c;
      reaction = call;
      is = is;
      gives = record {
        number = i;
        step = step;
        given = given.0;
        is = slice_get-get_or whole i d l;
        line = wanted.line;
        gives = given.1;
        same = given.2;
        count = made_so;
      };
      taken = taken;
      followed = before;
      alone = λ at x.
          let same : x.directive ≡ directive = omega (arith, x.wanted.line, wanted.line) in
          let named : x.number ≡ number = same_Some x.number number (sym x.wanted.call ∙ wanted.call) in
          let called : x.reaction ≡ call = same_Some x.reaction call (sym x.is ∙ ap (λ (k : ℕ). slice_get f.calls.now k) named ∙ is) in
          let whole_made : made ≡ all = sym made_so ∙ ap (λ (seen : List StepSeen). steps_on step.line seen) more ∙ x.last ∙ made_all in
          none whole_made at (subst (λ (k : ℕ). StandsBehind f directives taken k call.directive.line at) same (subst (λ (y : Reaction). StandsBehind f directives taken x.directive y.directive.line at) called x.stands));
    }

counted_length : (line n : ℕ) (seen : List StepSeen) → length (counts_from line n seen) ≡ n
counted_length line zero seen = refl
counted_length line (suc n) seen = ap suc (counted_length (line + 1) n seen)

pub unfollowed_same : (f : Following) (directives : List Directive) (seen : List StepSeen) (directive made number : ℕ) (steps : List ℕ) → IsUnfollowed f directives seen directive made number steps → length steps ≡ length directives
unfollowed_same f directives seen directive made number steps u = ap (λ (ns : List ℕ). length ns) u.counted ∙ counted_length 1 (length directives) seen

pub unfollowed_named : (f : Following) (directives : List Directive) (seen : List StepSeen) (directive made number : ℕ) (steps : List ℕ) → IsUnfollowed f directives seen directive made number steps → number < length f.calls.now
unfollowed_named f directives seen directive made number steps u = slice_get_within f.calls.now number u.reaction u.is
