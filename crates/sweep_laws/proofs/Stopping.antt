-- A run of a block up to a step is that of the block up to one of its places.
use Rattle.std.proofs.Common.{◌≡◌, ◌⊎◌, ℕ, ◌+◌, ◌<◌, true, inl, inr, List, [], ◌∷◌, ◌++◌, Option, Some, suc, take, sym, ap, ◌∙◌, subst, append_assoc, arith}
use Rattle.std.specs.Prelude.{slice_get}
use Rattle.mcal_base.specs.declared.config.whole.Config.{Config}
use Rattle.mcal_base.specs.declared.directive.Directive.{Directive}
use Rattle.mcal_drivers.specs.Setting.{SystemCall, SystemState, call_of, system_setting}
use Rattle.run_model.specs.Entry.{Entry}
use Rattle.run_model.specs.Follows.{Follows}
use Rattle.run_model.specs.Moment.{Moment}
use Rattle.bench_sweep.specs.Cuts.{on_line, orders_up}
use Rattle.bench_sweep.specs.Placed.{block_up, up_there}
use Rattle.bench_sweep.specs.Places.{at, begins_frame, places}
use Rattle.bench_sweep.specs.declared.places.Spot.TheVariants.{Begun, Behind, Step}
use Rattle.sweep_laws.proofs.Fronts.{IsBegunAt, IsCutAt, begun_run, cut_run}
use Rattle.sweep_laws.proofs.Ordered.{among_begun, among_behind, among_stepped}
use Rattle.sweep_laws.specs.Fronts.{EndsByBeginning, EndsByStep, Makes, StopsAtBeginning, StopsAtPlace}
use Rattle.sweep_laws.specs.Moments.{IsAmong}

-- the block up to a place behind a step
up_to : (block : List Directive) (i made : ℕ) (d : Directive) → slice_get block i ≡ Some d → take i block ++ on_line d.line (orders_up d.order (suc made)) ≡ block_up block (at i (Step (made + 1)))
up_to block i made d e =
    let k : suc made ≡ made + 1 = omega arith in
    ap (λ (n : ℕ). take i block ++ on_line d.line (orders_up d.order n)) k ∙ ap (λ (o : Option Directive). take i block ++ up_there (Step (made + 1)) o) (sym e)

pub stops : (config : Config) (m : Moment SystemState SystemCall) (block : List Directive) (steps : List ℕ) (front back : List Entry) → Makes (system_setting config) call_of m block steps (front ++ back) → EndsByStep front → StopsAtPlace config m block steps front
stops config m block steps front back makes by =
    let all : front ++ back ≡ by.before ++ by.last ∷ back = ap (λ (es : List Entry). es ++ back) by.is ∙ append_assoc by.before (by.last ∷ []) back in
    let c : IsCutAt (system_setting config) call_of m block steps (by.before ++ by.last ∷ []) = cut_run (system_setting config) call_of block steps m by.before back by.last by.step by.steps by.goes_on (subst (λ (es : List Entry). Makes (system_setting config) call_of m block steps es) all makes) in
    record {
      place = at c.number (Step (c.made + 1));
      among = among_stepped block steps c.number c.all c.made c.directive c.at c.makes c.within;
      follows = subst (λ (es : List Entry). Follows (system_setting config) call_of m (block_up block (at c.number (Step (c.made + 1)))) es) (sym by.is)
          (subst (λ (ds : List Directive). Follows (system_setting config) call_of m ds (by.before ++ by.last ∷ [])) (up_to block c.number c.made c.directive c.at) c.follows);
    }

begun_how : (config : Config) (m : Moment SystemState SystemCall) (block : List Directive) (steps : List ℕ) (items : List Entry) (i n : ℕ) (d : Directive) → slice_get block i ≡ Some d → slice_get steps i ≡ Some n →
    ((n ≡ 0) × Follows (system_setting config) call_of m (take i block ++ d ∷ []) items) ⊎ ((begins_frame d.order ≡ true) × Follows (system_setting config) call_of m (take i block ++ on_line d.line (orders_up d.order 0)) items) →
    (IsAmong (places block steps) (at i Behind) × Follows (system_setting config) call_of m (block_up block (at i Behind)) items) ⊎ ((0 < n → IsAmong (places block steps) (at i Begun)) × Follows (system_setting config) call_of m (block_up block (at i Begun)) items)
begun_how config m block steps items i n d e f (inl (z, h)) =
    inl (among_behind block steps i d e (f ∙ ap (λ (k : ℕ). Some k) z), subst (λ (ds : List Directive). Follows (system_setting config) call_of m ds items) (ap (λ (o : Option Directive). take i block ++ up_there Behind o) (sym e)) h)
begun_how config m block steps items i n d e f (inr (b, h)) =
    inr ((λ l. among_begun block steps i n d e f l b), subst (λ (ds : List Directive). Follows (system_setting config) call_of m ds items) (ap (λ (o : Option Directive). take i block ++ up_there Begun o) (sym e)) h)

pub begins : (config : Config) (m : Moment SystemState SystemCall) (block : List Directive) (steps : List ℕ) (front back : List Entry) → Makes (system_setting config) call_of m block steps (front ++ back) → EndsByBeginning front → StopsAtBeginning config m block steps front
begins config m block steps front back makes by =
    let all : front ++ back ≡ by.before ++ by.last ∷ back = ap (λ (es : List Entry). es ++ back) by.is ∙ append_assoc by.before (by.last ∷ []) back in
    let c : IsBegunAt (system_setting config) call_of m block steps (by.before ++ by.last ∷ []) = begun_run (system_setting config) call_of block steps m by.before back by.last by.begins (subst (λ (es : List Entry). Makes (system_setting config) call_of m block steps es) all makes) in
    let d : IsBegunAt (system_setting config) call_of m block steps front = subst (λ (es : List Entry). IsBegunAt (system_setting config) call_of m block steps es) (sym by.is) c in
    record { number = d.number; made = d.all; makes = d.makes; how = begun_how config m block steps front d.number d.all d.directive d.at d.makes d.how }
