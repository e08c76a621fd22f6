-- The directives of a text can be obeyed: what each line names is there.
use Rattle.std.proofs.Common.{◌≡◌, ℕ, suc, ◌+◌, ◌<◌, ◌≤◌, Bool, true, List, [], ◌∷◌, length, inl, inr, refl, sym, subst, arith}
use Rattle.std.specs.Prelude.{Ok}
use Rattle.std.proofs.lemmas.Bool.Decides.{nat_tests}
use Rattle.std.specs.Str.Lines.{lines}
use Rattle.bench_report.specs.Numbers.{Each}
use Rattle.bench_script.specs.Productions.{HoldsOrder, HoldDirectives}
use Rattle.bench_script.specs.Script.{script}
use Rattle.bench_script.proofs.Whole.{script_is}
use Rattle.mcal_base.specs.declared.directive.Directive.{Directive}
use Rattle.mcal_base.specs.declared.directive.Order.{Order}
use Rattle.mcal_base.specs.declared.directive.Order.TheVariants.{Call, Do, Enter, Serve, Tick, Level, Analog, Trigger, Miso, SpiFault, Reset}
use Rattle.mcal_base.specs.declared.directive.Reason.TheVariants as reasons
use Rattle.mcal_base.specs.declared.service.Service.{Service}
use Rattle.script_runner.specs.Scripts.{LinesRise, is_offered}
use Rattle.script_runner.specs.Standing.{is_built}
use Rattle.report_text.specs.reading.Fits.{DirectiveFits, OrderFits}
use Rattle.report_audit.specs.Judged.{CanAudit}
use Rattle.report_audit.specs.Obeying.{CanObey, CanObeyAll, HandlesLine, NamesKnown}

-- ---- an order of a line

built : (line : List ℕ) (order : Order) → HoldsOrder line order → is_built order ≡ true
built line (Tick n) h = let most = h.is.given.number.below in grind (arith, nat_tests, most)
built line (Miso unit words) h = let most = h.is.given.number.below in grind (arith, nat_tests, most)
built line (Reset reasons.PowerOn) h = refl
built line (Reset reasons.Watchdog) h = refl
built line (Reset reasons.Software) h = absurd h.is.given
built line _ h = refl

below : (n most bound : ℕ) → n ≤ most → most < bound → n < bound
below n most bound h lt = omega (arith, h, lt)

known : (line : List ℕ) (order : Order) → HoldsOrder line order → NamesKnown order
known line (Level pin high) h = below pin 63 64 h.is.given.number.below (omega arith)
known line (Analog input value) h = below input 31 32 h.is.given.number.below (omega arith)
known line (Trigger input) h = below input 3 4 h.is.given.number.below (omega arith)
known line (Miso unit words) h = below unit 1 2 h.is.given.number.below (omega arith)
known line (SpiFault unit) h = below unit 1 2 h.is.given.number.below (omega arith)
known line _ h = tt

handles : (line : List ℕ) (order : Order) → HoldsOrder line order → HandlesLine order
handles line (Enter n) h = below n 31 64 h.is.given.number.below (omega arith)
handles line (Serve n) h = below n 31 64 h.is.given.number.below (omega arith)
handles line _ h = tt

order_fits : (line : List ℕ) (order : Order) → HoldsOrder line order → OrderFits order
order_fits line (Enter n) h = below n 31 4294967296 h.is.given.number.below (omega arith)
order_fits line (Serve n) h = below n 31 4294967296 h.is.given.number.below (omega arith)
order_fits line _ h = tt

offered : (has_service : Service → Bool) → ((s : Service) → has_service s ≡ true) → (order : Order) → is_offered has_service order ≡ true
offered has_service all (Call level r) = all r.service
offered has_service all (Do level r) = all r.service
offered has_service all _ = refl

-- ---- all lines

rises : (low n : ℕ) (ls : List (List ℕ)) (ds : List Directive) → low < n → HoldDirectives n ls ds → LinesRise low ds
rises low n [] [] lt h = tt
rises low n [] (d ∷ ds) lt h = absurd h
rises low n (line ∷ ls) ds lt (inl h) = rises low (n + 1) ls ds (omega (arith, lt)) h.1
rises low n (line ∷ ls) ds lt (inr h) = subst (λ (xs : List Directive). LinesRise low xs) (sym h.2) (lt, rises n (n + 1) ls h.1 (omega arith) h.4)

one_fewer : (n k : ℕ) → n + suc k < 4294967296 → (n + 1) + k < 4294967296
one_fewer n k h = omega (arith, h)

number_fits : (n k : ℕ) → n + suc k < 4294967296 → n < 4294967296
number_fits n k h = omega (arith, h)

all_fit : (n : ℕ) (ls : List (List ℕ)) (ds : List Directive) → n + length ls < 4294967296 → HoldDirectives n ls ds → Each DirectiveFits ds
all_fit n [] [] lt h = tt
all_fit n [] (d ∷ ds) lt h = absurd h
all_fit n (line ∷ ls) ds lt (inl h) = all_fit (n + 1) ls ds (one_fewer n (length ls) lt) h.1
all_fit n (line ∷ ls) ds lt (inr h) =
    subst (λ (xs : List Directive). Each DirectiveFits xs) (sym h.2) ((number_fits n (length ls) lt, order_fits line h.0 h.3), all_fit (n + 1) ls h.1 (one_fewer n (length ls) lt) h.4)

module _ (has_service : Service → Bool) (all : (s : Service) → has_service s ≡ true) where
  can : (line : List ℕ) (n : ℕ) (order : Order) → HoldsOrder line order → CanObey has_service (record { line = n; order = order })
  can line n order h = record { built = built line order h; there = known line order h; handles = handles line order h; offered = offered has_service all order }

  all_can : (n : ℕ) (ls : List (List ℕ)) (ds : List Directive) → HoldDirectives n ls ds → CanObeyAll has_service ds
  all_can n [] [] h = tt
  all_can n [] (d ∷ ds) h = absurd h
  all_can n (line ∷ ls) ds (inl h) = all_can (n + 1) ls ds h.1
  all_can n (line ∷ ls) ds (inr h) = subst (λ (xs : List Directive). CanObeyAll has_service xs) (sym h.2) (can line n h.0 h.3, all_can (n + 1) ls h.1 h.4)

  first_line : (k : ℕ) → k < 4294967295 → 1 + k < 4294967296
  first_line k h = omega (arith, h)

  pub can_audit : (text : List ℕ) (ds : List Directive) → length (lines text) < 4294967295 → script text ≡ Ok ds → CanAudit has_service ds
  can_audit text ds few is =
      let s = script_is text ds is in
      record { lines = rises 0 1 (lines text) ds (omega arith) s.hold; fits = all_fit 1 (lines text) ds (first_line (length (lines text)) few) s.hold; can = all_can 1 (lines text) ds s.hold }
