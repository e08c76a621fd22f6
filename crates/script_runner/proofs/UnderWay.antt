-- A run under way: from its beginning, over each directive, and what is known of it.
use Rattle.std.proofs.Common.{◌≡◌, ℕ, zero, suc, ◌+◌, ◌*◌, ◌<◌, ◌≤◌, Bool, true, false, List, [], ◌∷◌, length, take, Some, refl, sym, ◌∙◌, subst, arith}
use Rattle.std.specs.Prelude.{slice_get, min, ◌==◌}
use Rattle.std.specs.Bool.{OnTrue, OnFalse}
use Rattle.std.proofs.Math.Nat.{min-le_left}
use Rattle.std.proofs.lemmas.Bool.Decides.{nat_tests}
use Rattle.std.proofs.lemmas.List.{take_all}
use Rattle.chip_model.specs.Chip.{Chip}
use Rattle.mcal_base.specs.declared.config.whole.Config.{Config}
use Rattle.mcal_base.specs.declared.directive.Directive.{Directive}
use Rattle.mcal_base.specs.declared.directive.Request.{Request}
use Rattle.mcal_base.specs.declared.service.Service.{Service}
use Rattle.run_model.specs.Entry.{Written}
use Rattle.run_model.specs.Follows.{Follows}
use Rattle.run_model.specs.Legal.{IsLegal, IsQuiet, QuietAtRest}
use Rattle.run_model.specs.Moment.{start_moment}
use Rattle.run_model.specs.Script.{deeds_of, order_at}
use Rattle.run_model.specs.Stops.{FollowsToStop, steps_in}
use Rattle.run_model.proofs.Following.{follows_from}
use Rattle.run_model.proofs.LegalLaws.{served-last}
use Rattle.step_runner.specs.Driver.{Driver}
use Rattle.step_runner.specs.Kept.{Kept, kept_empty}
use Rattle.step_runner.specs.Stands.{Stands}
use Rattle.script_runner.specs.Runs.{Run, IsAtRest, room_for}
use Rattle.script_runner.specs.Scripts.{IsScript, AllOffered, is_offered, IsRun, IsStopped, chip_for, script_bound, words_given}
use Rattle.script_runner.specs.Standing.{moment_of, IsStanding, HasRoom, HasTime, GivenFits, Obeyed, Stuck, is_built, room_on, work_of}
use Rattle.script_runner.specs.laws.Going.{Going, IsUnderWay}
use Rattle.script_runner.proofs.Arms.{depth_is}
use Rattle.script_runner.proofs.Orders.{no_opens}
use Rattle.script_runner.proofs.Scripts.{going_start, goes_on, stops_in, stops_counted, passes, at_line, built_at, offered_at, given_fits}

-- a place with a directive is within the script
pub there : (script : List Directive) (k : ℕ) (d : Directive) → slice_get script k ≡ Some d → k < length script
there [] k d e = cc
there (x ∷ xs) zero d e = omega arith
there (x ∷ xs) (suc k) d e = let h = there xs k d e in omega (arith, h)

-- without a number of frames there is none
pub none_left : (n m : ℕ) → n ≡ m → (n == 0) ≡ true → m ≡ 0
none_left n m e h = grind (arith, nat_tests)

-- each of the two serial units has the room
roomy : (devices : ℕ) (config : Config) (script : List Directive) (u : ℕ) → u < 2 → room_on (chip_for devices config script) u ≡ words_given script
roomy devices config script zero lt = refl
roomy devices config script (suc zero) lt = refl
roomy devices config script (suc (suc u)) lt = absurd (omega arith)

module _ {State Call Frame : Type 0} (d : Driver State Call Frame) (call_of : Request → Call) (has : Service → Bool) (config : Config) (script : List Directive) (devices limit most : ℕ) where
  abbrev first : Chip
  first = chip_for devices config script

  abbrev UnderWay : (at : ℕ) → Bool → Chip → Kept Frame → Written → Type 0
  UnderWay at too_long chip k w = IsUnderWay d call_of has config script devices limit most at too_long chip k w

  pub begins : (chip : Chip) (k : Kept Frame) (w : Written) → d.fits → IsScript script → AllOffered has script → limit < 4294967295 → most ≡ min limit (script_bound d.setting call_of script) → chip ≡ first → k ≡ kept_empty → w ≡ record { entries = []; room = room_for most (length script); words = []; words_room = 64 * length script } → Stands d first first k.frames [] → UnderWay 0 false chip k w
  begins chip k w fits is_script offered small least chip_is k_is w_is stands = record {
    fits = fits;
    is_script = is_script;
    offered = offered;
    small = small;
    least = least;
    going = going_start d first call_of script most chip k w chip_is refl refl refl (roomy devices config script) k_is w_is stands;
    halted = tt;
  }

  pub going_of : (at : ℕ) (too_long : Bool) (chip : Chip) (k : Kept Frame) (w : Written) → too_long ≡ false → UnderWay at too_long chip k w → Going d first call_of script most at chip k w
  going_of at false chip k w e u = u.going
  going_of at true chip k w e u = cc

  -- no more steps than the limit
  below : most ≡ min limit (script_bound d.setting call_of script) → most ≤ limit
  below least = let h = min-le_left limit (script_bound d.setting call_of script) in omega (arith, least, h)

  -- ---- the next directive

  pub next_at : (at : ℕ) (too_long : Bool) (directive : Directive) (chip : Chip) (k : Kept Frame) (w : Written) → slice_get script at ≡ Some directive → UnderWay at too_long chip k w → order_at script directive.line ≡ Some directive.order
  next_at at too_long directive chip k w e u = at_line 0 script at directive u.is_script.lines e

  pub next_built : (at : ℕ) (too_long : Bool) (directive : Directive) (chip : Chip) (k : Kept Frame) (w : Written) → slice_get script at ≡ Some directive → UnderWay at too_long chip k w → is_built directive.order ≡ true
  next_built at too_long directive chip k w e u = built_at script at directive u.is_script.built e

  pub next_offered : (at : ℕ) (too_long : Bool) (directive : Directive) (chip : Chip) (k : Kept Frame) (w : Written) → slice_get script at ≡ Some directive → UnderWay at too_long chip k w → is_offered has directive.order ≡ true
  next_offered at too_long directive chip k w e u = offered_at has script at directive u.offered e

  pub next_given : (at : ℕ) (too_long : Bool) (directive : Directive) (chip : Chip) (k : Kept Frame) (w : Written) → slice_get script at ≡ Some directive → too_long ≡ false → UnderWay at too_long chip k w → GivenFits directive.order chip
  next_given at too_long directive chip k w e on u = given_fits d first call_of script most at directive chip k w e (going_of at too_long chip k w on u)

  -- there is time for it, and room
  pub next_time : (at : ℕ) (too_long : Bool) (directive : Directive) (chip : Chip) (k : Kept Frame) (w : Written) → slice_get script at ≡ Some directive → too_long ≡ false → UnderWay at too_long chip k w → HasTime most k.steps chip
  next_time at too_long directive chip k w e on u =
      let h = going_of at too_long chip k w on u in
      let lt = there script at directive e in
      let few = below u.least in
      let osc = h.osc in
      let now = h.now in
      record { osc = omega (arith, lt, u.is_script.few, osc, h.steps, few, u.small); now = omega (arith, lt, u.is_script.few, now, h.steps, few, u.small) }

  pub next_room : (at : ℕ) (too_long : Bool) (directive : Directive) (chip : Chip) (k : Kept Frame) (w : Written) → slice_get script at ≡ Some directive → too_long ≡ false → UnderWay at too_long chip k w → HasRoom most k.steps 3 chip w
  next_room at too_long directive chip k w e on u =
      let h = going_of at too_long chip k w on u in
      let lt = there script at directive e in
      record { steps = h.steps; items = (let a = h.items in omega (arith, a, lt)); words = omega (arith, h.words, lt); counted = h.counted }

  pub next_number : (at : ℕ) (too_long : Bool) (directive : Directive) (chip : Chip) (k : Kept Frame) (w : Written) → slice_get script at ≡ Some directive → UnderWay at too_long chip k w → at + 1 < 18446744073709551616
  next_number at too_long directive chip k w e u = omega (arith, there script at directive e, u.is_script.few)

  -- it was obeyed
  goes_on_false : (at : ℕ) (directive : Directive) (chip : Chip) (k : Kept Frame) (w : Written) (chip1 : Chip) (k1 : Kept Frame) (w1 : Written) → slice_get script at ≡ Some directive → UnderWay at false chip k w → Obeyed d first call_of script most directive.line directive.order chip k w chip1 k1 w1 → UnderWay (at + 1) false chip1 k1 w1
  goes_on_false at directive chip k w chip1 k1 w1 e u o = record {
    fits = u.fits;
    is_script = u.is_script;
    offered = u.offered;
    small = u.small;
    least = u.least;
    going = goes_on d first call_of script most at directive chip k w chip1 k1 w1 (there script at directive e) e u.going o;
    halted = tt;
  }

  pub goes : (at : ℕ) (too_long : Bool) (directive : Directive) (chip : Chip) (k : Kept Frame) (w : Written) (chip1 : Chip) (k1 : Kept Frame) (w1 : Written) → slice_get script at ≡ Some directive → too_long ≡ false → UnderWay at too_long chip k w → Obeyed d first call_of script most directive.line directive.order chip k w chip1 k1 w1 → UnderWay (at + 1) too_long chip1 k1 w1
  goes at false directive chip k w chip1 k1 w1 e on u o = goes_on_false at directive chip k w chip1 k1 w1 e u o
  goes at true directive chip k w chip1 k1 w1 e on u o = cc

  -- it stopped
  pub stops : (at : ℕ) (too_long : Bool) (directive : Directive) (chip : Chip) (k : Kept Frame) (w : Written) (chip1 : Chip) (k1 : Kept Frame) (w1 : Written) → slice_get script at ≡ Some directive → too_long ≡ false → UnderWay at too_long chip k w → Stuck d first call_of script most directive.line directive.order k w chip1 k1 w1 → UnderWay at true chip1 k1 w1
  stops at too_long directive chip k w chip1 k1 w1 e on u s =
      let h = going_of at too_long chip k w on u in
      record {
        fits = u.fits;
        is_script = u.is_script;
        offered = u.offered;
        small = u.small;
        least = u.least;
        going = tt;
        halted = record {
          follows = stops_in d first call_of script most at directive chip k w chip1 k1 w1 e h s;
          stands = s.stands;
          steps = stops_counted d first call_of script most at directive chip k w chip1 k1 w1 h s;
          few = passes d first call_of script most at (work_of d k) directive e h.spent s.wants;
        };
      }

  -- ---- what is known

  pub stands_of : (at : ℕ) (too_long : Bool) (chip : Chip) (k : Kept Frame) (w : Written) → UnderWay at too_long chip k w → IsStanding d first call_of script chip k.frames w.entries
  stands_of at false chip k w u = u.going.stands
  stands_of at true chip k w u = u.halted.stands

  pub follows_of : (at : ℕ) (too_long : Bool) (chip : Chip) (k : Kept Frame) (w : Written) → UnderWay at too_long chip k w → OnFalse too_long (Follows d.setting call_of (start_moment d.setting first) (take at script) w.entries)
  follows_of at false chip k w u = follows_from d.setting call_of u.going.follows
  follows_of at true chip k w u = tt

  pub stopped_of : (at : ℕ) (too_long : Bool) (chip : Chip) (k : Kept Frame) (w : Written) → UnderWay at too_long chip k w → OnTrue too_long (FollowsToStop d.setting call_of (start_moment d.setting first) script w.entries)
  stopped_of at false chip k w u = tt
  stopped_of at true chip k w u = u.halted.follows

  pub legal_of : (at : ℕ) (too_long : Bool) (chip : Chip) (k : Kept Frame) (w : Written) → UnderWay at too_long chip k w → IsLegal d.setting (start_moment d.setting first) (deeds_of call_of script w.entries)
  legal_of at too_long chip k w u = (stands_of at too_long chip k w u).legal

  pub few_of : (at : ℕ) (too_long : Bool) (chip : Chip) (k : Kept Frame) (w : Written) → UnderWay at too_long chip k w → steps_in w.entries ≤ limit
  few_of at false chip k w u = omega (arith, u.going.counted, u.going.steps, below u.least)
  few_of at true chip k w u = omega (arith, u.halted.steps, below u.least)

  -- the limit is the most where the bounds of all frames pass it
  all_of : (bound : ℕ) → most ≡ min limit bound → most < bound → most ≡ limit
  all_of bound least lt = grind (arith, nat_tests, min-le_left limit bound)

  pub run_of : (at : ℕ) (too_long : Bool) (chip : Chip) (k : Kept Frame) (w : Written) → UnderWay at too_long chip k w → too_long ≡ false → at ≡ length script → IsRun d.setting first call_of script w.entries
  run_of at too_long chip k w u on all =
      let h = going_of at too_long chip k w on u in
      record {
        follows = subst (λ ds. Follows d.setting call_of (start_moment d.setting first) ds w.entries) (take_all at script (omega (arith, all))) (follows_from d.setting call_of h.follows);
        legal = h.stands.legal;
      }

  pub is_stopped : (at : ℕ) (too_long : Bool) (chip : Chip) (k : Kept Frame) (w : Written) → UnderWay at too_long chip k w → OnTrue too_long (IsStopped d.setting first call_of limit script w.entries)
  is_stopped at false chip k w u = tt
  is_stopped at true chip k w u = record {
    follows = u.halted.follows;
    legal = u.halted.stands.legal;
    steps = u.halted.steps ∙ all_of (script_bound d.setting call_of script) u.least u.halted.few;
  }

  pub within_of : (at : ℕ) (too_long : Bool) (chip : Chip) (k : Kept Frame) (w : Written) → UnderWay at too_long chip k w → OnTrue too_long (limit < script_bound d.setting call_of script)
  within_of at false chip k w u = tt
  within_of at true chip k w u = let h = all_of (script_bound d.setting call_of script) u.least u.halted.few in omega (arith, h, u.halted.few)

  -- without a frame the moment is at rest
  pub alone_of : (at : ℕ) (too_long : Bool) (chip : Chip) (k : Kept Frame) (w : Written) → UnderWay at too_long chip k w → length k.frames ≡ 0 → (moment_of d first call_of script w.entries).opens ≡ []
  alone_of at too_long chip k w u none =
      let st = stands_of at too_long chip k w u in
      no_opens d first call_of script (moment_of d first call_of script w.entries).opens (sym (depth_is d first call_of script chip k.frames w.entries st) ∙ none)

  pub quiet_of : (at : ℕ) (too_long : Bool) (chip : Chip) (k : Kept Frame) (w : Written) → UnderWay at too_long chip k w → length k.frames ≡ 0 → IsQuiet d.setting (moment_of d first call_of script w.entries)
  quiet_of at too_long chip k w u none =
      let m = moment_of d first call_of script w.entries in
      let st = stands_of at too_long chip k w u in
      subst (λ os. QuietAtRest d.setting m os) (alone_of at too_long chip k w u none) (served-last d.setting (start_moment d.setting first) (deeds_of call_of script w.entries) st.legal).quiet

  -- and the chip is the machine's in all that may be seen
  pub at_rest : {M : Type 0} (driver : M) (at : ℕ) (too_long : Bool) (chip : Chip) (k : Kept Frame) (w : Written) (none : Bool) → UnderWay at too_long chip k w → (none ≡ true → length k.frames ≡ 0) → OnTrue none (IsAtRest d call_of (let r : Run M Frame = record { driver = driver; config = config; script = script; devices = devices; limit = limit; obeyed = at; too_long = too_long; journal = w; chip = chip; frames = k.frames } in r))
  at_rest driver at too_long chip k w false u e = tt
  at_rest driver at too_long chip k w true u e = record { alone = alone_of at too_long chip k w u (e refl); chip = (stands_of at too_long chip k w u).matches.chip_is; quiet = quiet_of at too_long chip k w u (e refl) }
