-- A journal that follows a script has no items of other lines.
use Rattle.std.proofs.Common.{◌≡◌, ℕ, ◌<◌, false, List, [], ◌∷◌, ◌++◌, refl, ap, sym, subst, ◌∙◌, arith}
use Rattle.std.specs.Prelude.{◌==◌}
use Rattle.std.proofs.lemmas.Bool.{eq-eqb}
use Rattle.std.proofs.lemmas.Bool.Decides.{nat_tests}
use Rattle.mcal_base.specs.declared.directive.Directive.{Directive}
use Rattle.mcal_base.specs.declared.directive.Request.{Request}
use Rattle.run_model.specs.Entry.{Entry}
use Rattle.run_model.specs.Follows.{Follows}
use Rattle.run_model.specs.Moment.{Setting, Moment, start_moment}
use Rattle.mcal_base.specs.declared.config.whole.Config.{Config}
use Rattle.script_runner.specs.Scripts.{LinesRise, IsScript, chip_for}
use Rattle.mcal_system.specs.Setting.{system_setting, call_of}
use Rattle.bench_top.specs.Runs.{IsWholeRun}
use Rattle.bench_report.specs.Report.{later_entries, left_over, own_entries}
use Rattle.bench_report.proofs.Items.{any, is_show, Each, lines_of}

-- all lines are above this one
unfoldable pub AllAbove : ℕ → List Entry → Type 0
AllAbove low [] = Unit {0}
AllAbove low (e ∷ es) = (low < e.line) × AllAbove low es

pub above_both : (low line : ℕ) (first later : List Entry) → low < line → Each line any first → AllAbove line later → AllAbove low (first ++ later)
unfolding AllAbove
above_both low line [] [] lt h k = tt
above_both low line [] (e ∷ es) lt h k = (omega (arith, lt, k.0), above_both low line [] es lt tt k.1)
above_both low line (e ∷ es) later lt h k = (omega (arith, lt, h.0), above_both low line es later lt h.2 k)

pub above_each : (low line : ℕ) (es : List Entry) → low < line → Each line any es → AllAbove low es
unfolding AllAbove
above_each low line [] lt h = tt
above_each low line (e ∷ es) lt h = (omega (arith, lt, h.0), above_each low line es lt h.2)

other_line : (line : ℕ) (e : Entry) → line < e.line → (e.line == line) ≡ false
other_line line e lt = grind (arith, nat_tests)

none_later : (line : ℕ) (later : List Entry) → AllAbove line later → later_entries line later ≡ later
unfolding AllAbove
none_later line [] h = refl
none_later line (e ∷ es) h = rw (other_line line e h.0) refl

pub later_are : (line : ℕ) (first later : List Entry) → Each line any first → AllAbove line later → later_entries line (first ++ later) ≡ later
later_are line [] later h k = none_later line later k
later_are line (e ∷ es) later h k = rw (eq-eqb e.line line h.0) (later_are line es later h.2 k)

-- the items of a directive are those that have its line
none_own : (line : ℕ) (later : List Entry) → AllAbove line later → own_entries line later ≡ []
unfolding AllAbove
none_own line [] h = refl
none_own line (e ∷ es) h = rw (other_line line e h.0) refl

pub own_are : (line : ℕ) (first later : List Entry) → Each line any first → AllAbove line later → own_entries line (first ++ later) ≡ first
own_are line [] later h k = none_own line later k
own_are line (e ∷ es) later h k = rw (eq-eqb e.line line h.0) (ap (λ (xs : List Entry). e ∷ xs) (own_are line es later h.2 k))

pub both_left : {State Call : Type 0} (g : Setting State Call) (call_of : Request → Call) (ds : List Directive) (low : ℕ) (m : Moment State Call) (es : List Entry) → LinesRise low ds → Follows g call_of m ds es → AllAbove low es × (left_over ds es ≡ [])
unfolding AllAbove
both_left g call_of [] low m es rise h = (subst (λ (xs : List Entry). AllAbove low xs) (sym h) tt, h)
both_left g call_of (d ∷ ds) low m es rise h =
    let own : Each d.line any h.first = lines_of g call_of m d.line d.order h.first (is_show d.order) refl h.gives in
    let rest = both_left g call_of ds d.line _ h.later rise.1 h.rest in
    let parted : later_entries d.line es ≡ h.later = ap (λ (xs : List Entry). later_entries d.line xs) h.is ∙ later_are d.line h.first h.later own rest.0 in (
      subst (λ (xs : List Entry). AllAbove low xs) (sym h.is) (above_both low d.line h.first h.later rise.0 own rest.0),
      ap (λ (xs : List Entry). left_over ds xs) parted ∙ rest.1,
    )

-- a journal that follows a script has no items of other lines
pub none_left : {State Call : Type 0} (g : Setting State Call) (call_of : Request → Call) (ds : List Directive) (low : ℕ) (m : Moment State Call) (es : List Entry) → LinesRise low ds → Follows g call_of m ds es → left_over ds es ≡ []
none_left g call_of ds low m es rise h = (both_left g call_of ds low m es rise h).1

-- all items of a whole run are those of its script
pub all_told : (devices : ℕ) (config : Config) (script : List Directive) (es : List Entry) → IsScript script → IsWholeRun devices config script es → left_over script es ≡ []
all_told devices config script es s run = none_left (system_setting config) call_of script 0 (start_moment (system_setting config) (chip_for devices config script)) es s.lines run.run.follows
