-- The directives of a text may be run: each of them can be, and each service that they ask for is had.
use Rattle.std.proofs.Common.{◌≡◌, ℕ, ◌+◌, ◌==◌, ◌<◌, ◌≤◌, Bool, true, false, List, [], ◌∷◌, length, inl, inr, refl, sym, subst, arith}
use Rattle.std.specs.Prelude.{if◌then◌else◌}
use Rattle.std.proofs.lemmas.Bool.Decides.{nat_tests}
use Rattle.std.specs.Str.Lines.{lines, lines_of_parts}
use Rattle.mcal_base.specs.declared.directive.Directive.{Directive}
use Rattle.mcal_base.specs.declared.directive.Order.{Order}
use Rattle.mcal_base.specs.declared.directive.Order.TheVariants.{Call, Do, Tick, Miso, Reset}
use Rattle.mcal_base.specs.declared.service.Service.{Service}
use Rattle.mcal_base.specs.declared.service.Service.TheVariants.{McuInit}
use Rattle.mcal_base.specs.declared.directive.Reason.TheVariants as reasons
use Rattle.mcal_system.specs.Setting.{has_service}
use Rattle.bench_script.specs.Productions.{HoldsOrder, HoldDirectives}
use Rattle.bench_script.proofs.Whole.{script_is}
use Rattle.script_runner.specs.Scripts.{LinesRise, AllBuilt, IsScript, AllOffered, is_offered}
use Rattle.script_runner.specs.Standing as runner
use Rattle.bench_top.specs.Judged.{IsRead}

-- the lines of directives rise
rises : (low n : ℕ) (ls : List (List ℕ)) (ds : List Directive) → low < n → HoldDirectives n ls ds → LinesRise low ds
rises low n [] [] lt h = tt
rises low n [] (d ∷ ds) lt h = absurd h
rises low n (line ∷ ls) ds lt (inl h) = rises low (n + 1) ls ds (omega (arith, lt)) h.1
rises low n (line ∷ ls) ds lt (inr h) = subst (λ (xs : List Directive). LinesRise low xs) (sym h.2) (lt, rises n (n + 1) ls h.1 (omega arith) h.4)

-- an order of a line
obeyed : (line : List ℕ) (order : Order) → HoldsOrder line order → runner.is_built order ≡ true
obeyed line (Tick n) h = let most = h.is.given.number.below in grind (arith, nat_tests, most)
obeyed line (Miso unit words) h = let most = h.is.given.number.below in grind (arith, nat_tests, most)
obeyed line (Reset reasons.PowerOn) h = refl
obeyed line (Reset reasons.Watchdog) h = refl
obeyed line (Reset reasons.Software) h = absurd h.is.given
obeyed line _ h = refl

all_obeyed : (n : ℕ) (ls : List (List ℕ)) (ds : List Directive) → HoldDirectives n ls ds → AllBuilt ds
all_obeyed n [] [] h = tt
all_obeyed n [] (d ∷ ds) h = absurd h
all_obeyed n (line ∷ ls) ds (inl h) = all_obeyed (n + 1) ls ds h.1
all_obeyed n (line ∷ ls) ds (inr h) = subst (λ (xs : List Directive). AllBuilt xs) (sym h.2) (obeyed line h.0 h.3, all_obeyed (n + 1) ls h.1 h.4)

pub may_run : (ds : List Directive) → IsRead ds → IsScript ds
may_run ds read =
    let s = script_is read.text ds read.is in
    record { lines = rises 0 1 (lines read.text) ds (omega arith) s.hold; built = all_obeyed 1 (lines read.text) ds s.hold; few = omega (arith, s.few) }

-- each service that a script may ask for is one that a driver has
served : (s : Service) → has_service s ≡ true
unfolding has_service
served McuInit = refl
served _ = refl

offered : (order : Order) → is_offered has_service order ≡ true
offered (Call level r) = served r.service
offered (Do level r) = served r.service
offered _ = refl

pub may_ask : (ds : List Directive) → AllOffered has_service ds
may_ask [] = tt
may_ask (d ∷ ds) = (offered d.order, may_ask ds)

-- a text has no more lines than parts
last_few : (b : Bool) (x : List ℕ) → length (if b then [] else x ∷ []) ≤ 1
last_few true x = omega arith
last_few false x = omega arith

pub lines_few : (ps : List (List ℕ)) → length (lines_of_parts ps) ≤ length ps
lines_few [] = omega arith
lines_few (x ∷ []) = last_few (length x == 0) x
lines_few (x ∷ y ∷ more) = let ih = lines_few (y ∷ more) in omega (arith, ih)
