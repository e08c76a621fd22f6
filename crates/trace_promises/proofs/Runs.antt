-- The items of a journal that follows a script, directive by directive.
use Rattle.std.proofs.Common.{◌≡◌, ℕ, suc, ◌<◌, Bool, true, false, List, [], ◌∷◌, ◌++◌, length, Some, refl, ◌∙◌, ap, sym, subst, arith}
use Rattle.std.specs.Prelude.{◌==◌, slice_get}
use Rattle.std.proofs.lemmas.Bool.{eq-eqb}
use Rattle.std.proofs.lemmas.Bool.Decides.{nat_tests}
use Rattle.mcal_base.specs.declared.directive.Directive.{Directive}
use Rattle.mcal_base.specs.declared.directive.Order.{Order}
use Rattle.mcal_base.specs.declared.directive.Request.{Request}
use Rattle.run_model.specs.Entry.{Entry}
use Rattle.run_model.specs.Follows.{Follows, deeds_in}
use Rattle.run_model.specs.Moment.{Setting, Moment, Transition}
use Rattle.run_model.specs.Script.{order_at, deed_of, deeds_of}
use Rattle.run_model.proofs.Following.{deeds_of-append}
use Rattle.script_runner.specs.Scripts.{LinesRise}
use Rattle.script_runner.proofs.Scripts.{at_line}
use Rattle.bench_report.specs.Report.{own_entries, later_entries}
use Rattle.bench_report.proofs.Items.{any, is_show, Each, lines_of}

-- ---- items by their lines

-- all lines are above this one
abbrev pub AllAbove : ℕ → List Entry → Type 0
AllAbove low [] = Unit {0}
AllAbove low (e ∷ es) = (low < e.line) × AllAbove low es

above_both : (low line : ℕ) (first later : List Entry) → low < line → Each line any first → AllAbove line later → AllAbove low (first ++ later)
above_both low line [] [] lt h k = tt
above_both low line [] (e ∷ es) lt h k = (omega (arith, lt, k.0), above_both low line [] es lt tt k.1)
above_both low line (e ∷ es) later lt h k = (omega (arith, lt, h.0), above_both low line es later lt h.2 k)

other_line : (line : ℕ) (e : Entry) → line < e.line → (e.line == line) ≡ false
other_line line e lt = grind (arith, nat_tests)

none_own : (line : ℕ) (later : List Entry) → AllAbove line later → own_entries line later ≡ []
none_own line [] h = refl
none_own line (e ∷ es) h = rw (other_line line e h.0) refl

none_later : (line : ℕ) (later : List Entry) → AllAbove line later → later_entries line later ≡ later
none_later line [] h = refl
none_later line (e ∷ es) h = rw (other_line line e h.0) refl

pub own_are : (line : ℕ) (first later : List Entry) → Each line any first → AllAbove line later → own_entries line (first ++ later) ≡ first
own_are line [] later h k = none_own line later k
own_are line (e ∷ es) later h k = rw (eq-eqb e.line line h.0) (ap (λ (xs : List Entry). e ∷ xs) (own_are line es later h.2 k))

pub later_are : (line : ℕ) (first later : List Entry) → Each line any first → AllAbove line later → later_entries line (first ++ later) ≡ later
later_are line [] later h k = none_later line later k
later_are line (e ∷ es) later h k = rw (eq-eqb e.line line h.0) (later_are line es later h.2 k)

module _ {State Call : Type 0} (g : Setting State Call) (call_of : Request → Call) where
  pub all_above : (low : ℕ) (ds : List Directive) (m : Moment State Call) (es : List Entry) → LinesRise low ds → Follows g call_of m ds es → AllAbove low es
  all_above low [] m es rise h = subst (λ (xs : List Entry). AllAbove low xs) (sym h) tt
  all_above low (d ∷ ds) m es rise h =
      subst (λ (xs : List Entry). AllAbove low xs) (sym h.is)
      (above_both low d.line h.first h.later rise.0 (lines_of g call_of m d.line d.order h.first (is_show d.order) refl h.gives) (all_above d.line ds _ h.later rise.1 h.rest))

  -- ---- the deeds of a directive

  -- each directive's order is found at its line
  abbrev pub Finds : List Directive → List Directive → Type 0
  Finds script [] = Unit {0}
  Finds script (d ∷ ds) = (order_at script d.line ≡ Some d.order) × Finds script ds

  finds_by : (script ds : List Directive) → ((k : ℕ) (d : Directive) → slice_get ds k ≡ Some d → order_at script d.line ≡ Some d.order) → Finds script ds
  finds_by script [] f = tt
  finds_by script (d ∷ ds) f = (f 0 d refl, finds_by script ds (λ k x e. f (suc k) x e))

  pub finds : (low : ℕ) (script : List Directive) → LinesRise low script → Finds script script
  finds low script rise = finds_by script script (λ k d e. at_line low script k d rise e)

  same_deeds : (script : List Directive) (line : ℕ) (order : Order) (es : List Entry) → order_at script line ≡ Some order → Each line any es → deeds_of call_of script es ≡ deeds_in call_of order es
  same_deeds script line order [] found h = refl
  same_deeds script line order (e ∷ es) found h =
      ap (λ (n : ℕ). deed_of call_of (order_at script n) e.said ++ deeds_of call_of script es) h.0
      ∙ (ap (λ o. deed_of call_of o e.said ++ deeds_of call_of script es) found
      ∙ ap (λ (xs : List (Transition Call)). deed_of call_of (Some order) e.said ++ xs) (same_deeds script line order es found h.2))

  pub deeds_split : (script : List Directive) (line : ℕ) (order : Order) (first later : List Entry) → order_at script line ≡ Some order → Each line any first → deeds_of call_of script (first ++ later) ≡ deeds_in call_of order first ++ deeds_of call_of script later
  deeds_split script line order first later found h = deeds_of-append call_of script first later ∙ ap (λ (xs : List (Transition Call)). xs ++ deeds_of call_of script later) (same_deeds script line order first found h)
