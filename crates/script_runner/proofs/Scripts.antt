-- A script's directives, one after another.
use Rattle.std.proofs.Common.{◌≡◌, ℕ, zero, suc, ◌+◌, ◌*◌, ◌<◌, ◌≤◌, Bool, true, false, cond, List, [], ◌∷◌, ◌++◌, length, take, drop, Some, sym, ◌∙◌, ap, subst, arith, add-one}
use Rattle.std.specs.Prelude.{slice_get, slice_index_or, ◌==◌, ◌/◌}
use Rattle.std.proofs.lemmas.Bool.Decides.{nat_tests}
use Rattle.std.proofs.lemmas.List.Sums.{sum_by-append}
use Rattle.mcal_base.specs.facts.Numbers.{eq_from}
use Rattle.chip_model.specs.Chip.{Chip, now_of}
use Rattle.mcal_base.specs.declared.directive.Directive.{Directive}
use Rattle.mcal_base.specs.declared.directive.Request.{Request}
use Rattle.mcal_base.specs.declared.service.Service.{Service}
use Rattle.run_model.specs.Entry.{Written}
use Rattle.run_model.specs.Moment.{start_moment}
use Rattle.run_model.specs.Script.{order_at, beginnings_of}
use Rattle.run_model.specs.Stops.{FollowsToStop, steps_in}
use Rattle.run_model.proofs.Following.{FollowsTo, Nothing_followed, follows_more}
use Rattle.step_runner.specs.Driver.{Driver}
use Rattle.step_runner.specs.Kept.{Kept, kept_empty}
use Rattle.step_runner.specs.Stands.{Stands}
use Rattle.script_runner.specs.Busy.{busies}
use Rattle.script_runner.specs.Runs.{room_for}
use Rattle.script_runner.specs.Scripts.{LinesRise, AllBuilt, AllOffered, is_offered, words_given, script_bound}
use Rattle.script_runner.specs.Standing.{moment_of, IsStanding, Obeyed, Stuck, GivenFits, is_built, words_by, room_on, work_of, bounds_of}
use Rattle.script_runner.specs.laws.Going.{Going}
use Rattle.script_runner.proofs.Stops.{follows_to_stop}

-- a directive further on has a greater line
line_above : (low : ℕ) (script : List Directive) (k : ℕ) (d : Directive) → LinesRise low script → slice_get script k ≡ Some d → low < d.line
line_above low [] k d h e = cc
line_above low (x ∷ xs) zero d h e = let i : x ≡ d = cc in subst (λ y. low < y.line) i h.0
line_above low (x ∷ xs) (suc k) d h e = let i = line_above x.line xs k d h.1 e in omega (arith, i, h.0)

other_line : (a b : ℕ) → a < b → (a == b) ≡ false
other_line a b h = grind (arith, nat_tests)

-- what stands at a directive's line
pub at_line : (low : ℕ) (script : List Directive) (k : ℕ) (d : Directive) → LinesRise low script → slice_get script k ≡ Some d → order_at script d.line ≡ Some d.order
at_line low [] k d h e = cc
at_line low (x ∷ xs) zero d h e =
    let i : x ≡ d = cc in
    ap (λ b. cond b (Some x.order) (order_at xs d.line)) (eq_from x.line d.line (ap (λ y. y.line) i)) ∙ ap (λ y. Some y.order) i
at_line low (x ∷ xs) (suc k) d h e =
    ap (λ b. cond b (Some x.order) (order_at xs d.line)) (other_line x.line d.line (line_above x.line xs k d h.1 e)) ∙ at_line x.line xs k d h.1 e

pub built_at : (script : List Directive) (k : ℕ) (d : Directive) → AllBuilt script → slice_get script k ≡ Some d → is_built d.order ≡ true
built_at [] k d h e = cc
built_at (x ∷ xs) zero d h e = let i : x ≡ d = cc in subst (λ y. is_built y.order ≡ true) i h.0
built_at (x ∷ xs) (suc k) d h e = built_at xs k d h.1 e

pub offered_at : (has : Service → Bool) (script : List Directive) (k : ℕ) (d : Directive) → AllOffered has script → slice_get script k ≡ Some d → is_offered has d.order ≡ true
offered_at has [] k d h e = cc
offered_at has (x ∷ xs) zero d h e = let i : x ≡ d = cc in subst (λ y. is_offered has y.order ≡ true) i h.0
offered_at has (x ∷ xs) (suc k) d h e = offered_at has xs k d h.1 e

-- what a loop over a script is at
pub got : (script : List Directive) (k : ℕ) (d : Directive) → k < length script → d ≡ slice_index_or script k d → slice_get script k ≡ Some d
got [] k d lt e = absurd (omega arith)
got (x ∷ xs) zero d lt e = ap (λ y. Some y) (sym e)
got (x ∷ xs) (suc k) d lt e = got xs k d (omega (arith, lt)) e

-- one directive more
pub take_more : (script : List Directive) (k : ℕ) (d : Directive) → slice_get script k ≡ Some d → take (k + 1) script ≡ take k script ++ d ∷ []
take_more [] k d e = cc
take_more (x ∷ xs) zero d e = let i : x ≡ d = cc in ap (λ y. y ∷ []) i
take_more (x ∷ xs) (suc k) d e = rw add-one (ap (λ ys. x ∷ ys) (rw add-one at (take_more xs k d e)))

-- what is before a directive, and what is behind it
split_at : (script : List Directive) (k : ℕ) (d : Directive) → slice_get script k ≡ Some d → script ≡ take k script ++ d ∷ drop (k + 1) script
split_at [] k d e = cc
split_at (x ∷ xs) zero d e = let i : x ≡ d = cc in ap (λ y. y ∷ xs) i
split_at (x ∷ xs) (suc k) d e = rw add-one (ap (λ ys. x ∷ ys) (rw add-one at (split_at xs k d e)))

script_bound-append : {State Call Frame : Type 0} (d : Driver State Call Frame) (call_of : Request → Call) (ds : List Directive) (e : Directive) → script_bound d.setting call_of (ds ++ e ∷ []) ≡ script_bound d.setting call_of ds + bounds_of d.setting (beginnings_of call_of (Some e.order))
script_bound-append d call_of [] e = omega arith
script_bound-append d call_of (x ∷ xs) e = let h = script_bound-append d call_of xs e in omega (arith, h)

pub script_bound-take : {State Call Frame : Type 0} (d : Driver State Call Frame) (call_of : Request → Call) (n : ℕ) (ds : List Directive) → script_bound d.setting call_of (take n ds) ≤ script_bound d.setting call_of ds
script_bound-take d call_of zero ds = omega arith
script_bound-take d call_of (suc n) [] = omega arith
script_bound-take d call_of (suc n) (x ∷ xs) = let h = script_bound-take d call_of n xs in omega (arith, h)

-- half of a number, rounded up, twice
halves : (n : ℕ) → n ≤ 2 * ((n + 1) / 2)
halves n = omega arith

-- the words of a script by its first directive
given_first : (d : Directive) (ds : List Directive) → words_given (d ∷ ds) ≡ words_by d.order + words_given ds
given_first d ds = sum_by-append (λ x. words_by x.order) (d ∷ []) ds ∙ omega arith

-- the words that are given before a directive, by it and behind it
given_at : (script : List Directive) (k : ℕ) (d : Directive) → slice_get script k ≡ Some d → words_given script ≡ words_given (take k script) + words_by d.order + words_given (drop (k + 1) script)
given_at script k d e = ap words_given (split_at script k d e) ∙ sum_by-append (λ x. words_by x.order) (take k script) (d ∷ drop (k + 1) script) ∙ omega (arith, given_first d (drop (k + 1) script))

-- the words with one directive more
pub given_more : (script : List Directive) (k : ℕ) (d : Directive) → slice_get script k ≡ Some d → words_given (take (k + 1) script) ≡ words_given (take k script) + words_by d.order
given_more script k d e = ap words_given (take_more script k d e) ∙ sum_by-append (λ x. words_by x.order) (take k script) (d ∷ []) ∙ omega (arith, given_first d [])

module _ {State Call Frame : Type 0} (d : Driver State Call Frame) (first : Chip) (call_of : Request → Call) (script : List Directive) where
  pub goes_on : (most at : ℕ) (directive : Directive) (chip : Chip) (k : Kept Frame) (before : Written) (chip1 : Chip) (k1 : Kept Frame) (after : Written) → at < length script → slice_get script at ≡ Some directive → Going d first call_of script most at chip k before → Obeyed d first call_of script most directive.line directive.order chip k before chip1 k1 after → Going d first call_of script most (at + 1) chip1 k1 after
  goes_on most at directive chip k before chip1 k1 after lt e h o =
      let a = o.adds in
      let more = follows_more d.setting call_of directive a.items h.follows a.right in
      record {
        follows = subst (λ ds. FollowsTo d.setting call_of (start_moment d.setting first) ds after.entries (moment_of d first call_of script after.entries)) (sym (take_more script at directive e)) (subst (λ es. FollowsTo d.setting call_of (start_moment d.setting first) (take at script ++ directive ∷ []) es (moment_of d first call_of script after.entries)) (sym a.is) (subst (λ m. FollowsTo d.setting call_of (start_moment d.setting first) (take at script ++ directive ∷ []) (before.entries ++ a.items) m) a.leads more));
        stands = a.stands;
        steps = o.filled.steps;
        counted = omega (arith, o.filled.counted, h.counted);
        spent = subst (λ ds. work_of d k1 ≤ script_bound d.setting call_of ds) (sym (take_more script at directive e)) (rw (script_bound-append d call_of (take at script) directive) (omega (arith, o.spent, h.spent)));
        items = (let a = o.filled.items in let b = h.items in omega (arith, a, o.filled.room, b, lt));
        words = omega (arith, o.filled.words, o.filled.words_room, h.words);
        osc = (let a = o.osc in let b = h.osc in omega (arith, a, b, o.more));
        now = (let a = o.now in let b = h.now in omega (arith, a, b, o.more));
        given = λ u lt. omega (arith, o.given u, h.given u lt, given_more script at directive e);
      }

  -- a run that would pass a number of steps has frames whose bounds pass it
  pub passes : (most at work : ℕ) (directive : Directive) → slice_get script at ≡ Some directive → work ≤ script_bound d.setting call_of (take at script) → most < work + bounds_of d.setting (beginnings_of call_of (Some directive.order)) → most < script_bound d.setting call_of script
  passes most at work directive e spent wants =
      let taken = script_bound-take d call_of (at + 1) script in
      let more = ap (script_bound d.setting call_of) (take_more script at directive e) ∙ script_bound-append d call_of (take at script) directive in
      omega (arith, taken, more, spent, wants)

  -- a run that stops in a directive
  pub stops_in : (most at : ℕ) (directive : Directive) (chip : Chip) (k : Kept Frame) (before : Written) (chip1 : Chip) (k1 : Kept Frame) (after : Written) → slice_get script at ≡ Some directive → Going d first call_of script most at chip k before → Stuck d first call_of script most directive.line directive.order k before chip1 k1 after → FollowsToStop d.setting call_of (start_moment d.setting first) script after.entries
  stops_in most at directive chip k before chip1 k1 after e h s =
      subst (λ es. FollowsToStop d.setting call_of (start_moment d.setting first) script es) (sym s.is)
      (subst (λ ds. FollowsToStop d.setting call_of (start_moment d.setting first) ds (before.entries ++ s.items)) (sym (split_at script at directive e))
      (follows_to_stop d.setting call_of directive (drop (at + 1) script) s.items h.follows s.right))

  -- as many steps are in it as were taken
  pub stops_counted : (most at : ℕ) (directive : Directive) (chip : Chip) (k : Kept Frame) (before : Written) (chip1 : Chip) (k1 : Kept Frame) (after : Written) → Going d first call_of script most at chip k before → Stuck d first call_of script most directive.line directive.order k before chip1 k1 after → steps_in after.entries ≡ most
  stops_counted most at directive chip k before chip1 k1 after h s = omega (arith, h.counted, s.counted, s.steps)

  -- there is room for the words of the next directive
  pub given_fits : (most at : ℕ) (directive : Directive) (chip : Chip) (k : Kept Frame) (w : Written) → slice_get script at ≡ Some directive → Going d first call_of script most at chip k w → GivenFits directive.order chip
  given_fits most at directive chip k w e h u lt = omega (arith, h.given u lt, given_at script at directive e)

  pub going_start : (most : ℕ) (chip : Chip) (k : Kept Frame) (w : Written) → chip ≡ first → busies first ≡ 0 → first.clock.osc ≡ 0 → now_of first ≡ 0 → ((u : ℕ) → u < 2 → room_on first u ≡ words_given script) → k ≡ kept_empty → w ≡ record { entries = []; room = room_for most (length script); words = []; words_room = 64 * length script } → Stands d first first k.frames [] → Going d first call_of script most 0 chip k w
  going_start most chip k w chip_is none_busy none_osc none_now roomy k_is w_is stands =
      let entries_are : w.entries ≡ [] = ap (λ x. x.entries) w_is in
      let e1 = ap (λ x. x.room) w_is in
      let e2 = ap (λ x. x.words_room) w_is in
      let e3 = ap (λ x. length x.entries) w_is in
      let e4 = ap (λ x. length x.words) w_is in
      let e5 = ap (λ x. x.steps) k_is in
      record {
        follows = subst (λ es. FollowsTo d.setting call_of (start_moment d.setting first) [] es (moment_of d first call_of script es)) (sym entries_are) (Nothing_followed (start_moment d.setting first));
        stands = subst (λ es. IsStanding d first call_of script chip k.frames es) (sym entries_are) (subst (λ c. Stands d first c k.frames []) (sym chip_is) stands);
        steps = omega (arith, e5);
        counted = ap (λ es. steps_in es) entries_are ∙ sym e5;
        spent = subst (λ x. work_of d x ≤ 0) (sym k_is) (omega arith);
        items = (let none : busies chip ≡ 0 = ap busies chip_is ∙ none_busy in let half = halves most in omega (arith, e1, e3, none, half, e5));
        words = omega (arith, e2, e4);
        osc = (let e : chip.clock.osc ≡ first.clock.osc = ap (λ c. c.clock.osc) chip_is in omega (arith, e, none_osc));
        now = (let e : now_of chip ≡ now_of first = ap now_of chip_is in omega (arith, e, none_now));
        given = λ u lt. subst (λ c. words_given script ≤ room_on c u + words_given []) (sym chip_is) (omega (arith, roomy u lt));
      }

-- the bounds with one directive more
pub bound_more : {State Call Frame : Type 0} (d : Driver State Call Frame) (call_of : Request → Call) (script : List Directive) (at : ℕ) (directive : Directive) → slice_get script at ≡ Some directive → script_bound d.setting call_of (take (at + 1) script) ≡ script_bound d.setting call_of (take at script) + bounds_of d.setting (beginnings_of call_of (Some directive.order))
bound_more d call_of script at directive e = ap (script_bound d.setting call_of) (take_more script at directive e) ∙ script_bound-append d call_of (take at script) directive
