-- What is kept of the shows of a run, as it goes on.
use Rattle.std.proofs.Common.{◌≡◌, ℕ, ◌<◌, ◌≤◌, Bool, true, false, List, [], ◌∷◌, ◌++◌, refl, ap, sym, subst, ◌∙◌, append-nil, arith, Option, Some, None, length}
use Rattle.std.specs.Prelude.{MatchOption, Result, Ok, Err, OnOk, OnErr, is_err}
use Rattle.std.specs.Bool.{OnFalse, OnTrue}
use Rattle.std.proofs.lemmas.Bool.{OnTrue_at}
use Rattle.run_model.specs.Stops.{steps_in}
use Rattle.mcal_base.specs.declared.config.whole.Config.{Config}
use Rattle.mcal_base.specs.declared.directive.Directive.{Directive}
use Rattle.mcal_base.specs.declared.directive.Order.{Order}
use Rattle.mcal_base.specs.declared.directive.Order.TheVariants as orders
use Rattle.mcal_base.specs.declared.directive.Shown.{Shown}
use Rattle.run_model.specs.Entry.{Entry}
use Rattle.run_model.specs.Follows.{Gives, Shows}
use Rattle.run_model.specs.Frame.{Open}
use Rattle.run_model.specs.Moment.{Moment, start_moment, after_all}
use Rattle.run_model.specs.Script.{deeds_of}
use Rattle.run_model.proofs.Following.{deeds_of-append}
use Rattle.script_runner.specs.Scripts.{chip_for, IsRun, IsStopped}
use Rattle.bench_report.specs.Shown.{rows_text, kept, push, texts_of}
use Rattle.bench_report.proofs.Fitting.{push_kept}
use Rattle.bench_report.proofs.Items.{is_show}
use Rattle.bench_report.proofs.Journals.{nothing_shown, held_shown, one_shown}
use Rattle.mcal_system.specs.Runs.{SystemRun, IsSameRun, AddsItems, moment_of, moment_after, most_steps, bound_of}
use Rattle.mcal_system.specs.Setting.{SystemState, SystemCall, system_setting, call_of}
use Rattle.bench_top.specs.Runs.{IsKept, IsShown, shown_by, shows_of, IsWholeRun, IsStoppedRun}
use Rattle.shown_rows.specs.Shows.{show_rows}

-- the texts of a run
texts : (devices : ℕ) → Config → List Directive → List Entry → List (List ℕ)
texts devices c script es = texts_of es (shows_of devices c script es)

same_texts : (devices devices1 : ℕ) (c c1 : Config) (script script1 : List Directive) (es es1 : List Entry) → devices1 ≡ devices → c1 ≡ c → script1 ≡ script → es1 ≡ es → texts devices1 c1 script1 es1 ≡ texts devices c script es
same_texts devices devices1 c c1 script script1 es es1 n p q r = ap (λ (k : ℕ). texts k c1 script1 es1) n ∙ ap (λ (k : Config). texts devices k script1 es1) p ∙ ap (λ (ss : List Directive). texts devices c ss es1) q ∙ ap (λ (xs : List Entry). texts devices c script xs) r

same_moment : (devices devices1 : ℕ) (c c1 : Config) (script script1 : List Directive) (es es1 : List Entry) → devices1 ≡ devices → c1 ≡ c → script1 ≡ script → es1 ≡ es → moment_after devices1 c1 script1 es1 ≡ moment_after devices c script es
same_moment devices devices1 c c1 script script1 es es1 n p q r = ap (λ (k : ℕ). moment_after k c1 script1 es1) n ∙ ap (λ (k : Config). moment_after devices k script1 es1) p ∙ ap (λ (ss : List Directive). moment_after devices c ss es1) q ∙ ap (λ (xs : List Entry). moment_after devices c script xs) r

first_moment : (devices : ℕ) → Config → List Directive → Moment SystemState SystemCall
first_moment devices c script = start_moment (system_setting c) (chip_for devices c script)

-- an order that shows nothing
no_show : (o : Order) → shown_by o ≡ None → is_show o ≡ false
no_show (orders.Show what) h = cc
no_show _ h = refl

is_shown : (o : Order) (what : Shown) → shown_by o ≡ Some what → o ≡ orders.Show what
is_shown (orders.Show w) what h = let e : w ≡ what = cc in ap (λ (x : Shown). orders.Show x) e
is_shown _ what h = cc

-- a directive that shows nothing
pub kept_quiet : (before after : SystemRun) (d : Directive) (shown : Option (List (List ℕ))) → IsSameRun before after → AddsItems d before after → shown_by d.order ≡ None → IsKept before shown → IsKept after shown
unfolding texts first_moment
kept_quiet before after d shown same adds none h =
    h ∙ ap (λ (ts : List (List ℕ)). kept ts) (sym (same_texts before.devices after.devices before.config after.config before.script after.script (before.journal.entries ++ adds.items) after.journal.entries same.devices same.config same.script adds.is
    ∙ nothing_shown (system_setting before.config) call_of (show_rows before.config) before.script (first_moment before.devices before.config before.script) before.journal.entries adds.items d (no_show d.order none) adds.gives))

-- a show moves nothing
still_by : (c : Config) (script : List Directive) (line : ℕ) (what : Shown) (m : Moment SystemState SystemCall) (os : List (Open SystemCall)) (items : List Entry) → Shows m line (orders.Show what) os items → deeds_of call_of script items ≡ []
still_by c script line what m [] items h = ap (λ (xs : List Entry). deeds_of call_of script xs) h
still_by c script line what m (o ∷ os) items h = ap (λ (xs : List Entry). deeds_of call_of script xs) h

still : (devices : ℕ) (c : Config) (script : List Directive) (line : ℕ) (what : Shown) (es items : List Entry) → Gives (system_setting c) call_of (moment_after devices c script es) line (orders.Show what) items → moment_after devices c script (es ++ items) ≡ moment_after devices c script es
still devices c script line what es items gives =
    let m = moment_after devices c script es in
    ap (λ ds. after_all (system_setting c) (start_moment (system_setting c) (chip_for devices c script)) ds) (deeds_of-append call_of script es items ∙ ap (λ ds. deeds_of call_of script es ++ ds) (still_by c script line what m m.opens items gives) ∙ append-nil (deeds_of call_of script es))

-- what a show gives
gives_show : (before : SystemRun) (d : Directive) (what : Shown) (items : List Entry) → d.order ≡ orders.Show what → Gives (system_setting before.config) call_of (moment_of before) d.line d.order items → Gives (system_setting before.config) call_of (moment_of before) d.line (orders.Show what) items
gives_show before d what items e gives = subst (λ (o : Order). Gives (system_setting before.config) call_of (moment_of before) d.line o items) e gives

moment_kept : (before after : SystemRun) (d : Directive) (what : Shown) → IsSameRun before after → (adds : AddsItems d before after) → Gives (system_setting before.config) call_of (moment_of before) d.line (orders.Show what) adds.items → moment_of after ≡ moment_of before
moment_kept before after d what same adds gives =
    same_moment before.devices after.devices before.config after.config before.script after.script (before.journal.entries ++ adds.items) after.journal.entries same.devices same.config same.script adds.is
    ∙ still before.devices before.config before.script d.line what before.journal.entries adds.items gives

-- a show that is held
some_open : (os : List (Open SystemCall)) → 0 < length os → os ≡ [] → ⊥
some_open [] lt e = absurd (omega (arith, lt))
some_open (o ∷ os) lt e = cc

pub kept_held : (before after : SystemRun) (d : Directive) (what : Shown) (shown : Option (List (List ℕ))) → IsSameRun before after → AddsItems d before after → shown_by d.order ≡ Some what → 0 < length (moment_of after).opens → IsKept before shown → IsKept after shown
unfolding texts first_moment
kept_held before after d what shown same adds is busy h =
    let gives = gives_show before d what adds.items (is_shown d.order what is) adds.gives in
    let held = subst (λ (m : Moment SystemState SystemCall). 0 < length m.opens) (moment_kept before after d what same adds gives) busy in
    h ∙ ap (λ (ts : List (List ℕ)). kept ts) (sym (same_texts before.devices after.devices before.config after.config before.script after.script (before.journal.entries ++ adds.items) after.journal.entries same.devices same.config same.script adds.is
    ∙ held_shown (system_setting before.config) call_of (show_rows before.config) before.script (first_moment before.devices before.config before.script) before.journal.entries adds.items d.line what (some_open (moment_of before).opens held) gives))

-- a show with no frame under way
after_show : (before after : SystemRun) (d : Directive) (what : Shown) → IsSameRun before after → AddsItems d before after → shown_by d.order ≡ Some what → (moment_of after).opens ≡ [] →
    texts after.devices after.config after.script after.journal.entries ≡ texts before.devices before.config before.script before.journal.entries ++ rows_text d.line (show_rows after.config (moment_of after).world (moment_of after).state what) ∷ []
unfolding texts first_moment
after_show before after d what same adds is rest =
    let gives = gives_show before d what adds.items (is_shown d.order what is) adds.gives in
    let moment = moment_kept before after d what same adds gives in
    let alone = subst (λ (m : Moment SystemState SystemCall). m.opens ≡ []) moment rest in
    same_texts before.devices after.devices before.config after.config before.script after.script (before.journal.entries ++ adds.items) after.journal.entries same.devices same.config same.script adds.is
    ∙ one_shown (system_setting before.config) call_of (show_rows before.config) before.script (first_moment before.devices before.config before.script) before.journal.entries adds.items d.line what alone gives
    ∙ ap (λ (m : Moment SystemState SystemCall). texts before.devices before.config before.script before.journal.entries ++ rows_text d.line (show_rows before.config m.world m.state what) ∷ []) (sym moment)
    ∙ ap (λ (c : Config). texts before.devices before.config before.script before.journal.entries ++ rows_text d.line (show_rows c (moment_of after).world (moment_of after).state what) ∷ []) (sym same.config)

pub kept_shown : (before after : SystemRun) (d : Directive) (what : Shown) (shown shown1 : Option (List (List ℕ))) (text : List ℕ) → IsSameRun before after → AddsItems d before after → shown_by d.order ≡ Some what → (moment_of after).opens ≡ [] →
    text ≡ rows_text d.line (show_rows after.config (moment_of after).world (moment_of after).state what) → shown1 ≡ push shown text → IsKept before shown → IsKept after shown1
unfolding texts
kept_shown before after d what shown shown1 text same adds is rest e put h =
    let ts = texts before.devices before.config before.script before.journal.entries in
    put
    ∙ ap (λ (o : Option (List (List ℕ))). push o text) h
    ∙ push_kept ts text
    ∙ ap (λ (t : List ℕ). kept (ts ++ t ∷ [])) e
    ∙ ap (λ (us : List (List ℕ)). kept us) (sym (after_show before after d what same adds is rest))

-- where no more is kept
full_none : (o : Option (List (List ℕ))) (b : Bool) → MatchOption o (b ≡ true) (λ texts. b ≡ false) → b ≡ true → o ≡ None
full_none None b h e = refl
full_none (Some ts) b h e = cc

pub kept_full : (before after : SystemRun) (d : Directive) (what : Shown) (shown : Option (List (List ℕ))) (full : Bool) → IsSameRun before after → AddsItems d before after → shown_by d.order ≡ Some what → (moment_of after).opens ≡ [] →
    MatchOption shown (full ≡ true) (λ texts. full ≡ false) → full ≡ true → IsKept before shown → IsKept after shown
kept_full before after d what shown full same adds is rest match is_full h =
    let none = full_none shown full match is_full in
    let text = rows_text d.line (show_rows after.config (moment_of after).world (moment_of after).state what) in
    kept_shown before after d what shown shown text same adds is rest refl (none ∙ sym (ap (λ (o : Option (List (List ℕ))). push o text) none)) h

-- before the first directive nothing was shown
pub kept_first : (run : SystemRun) (shown : Option (List (List ℕ))) → run.journal.entries ≡ [] → shown ≡ kept [] → IsKept run shown
unfolding texts
kept_first run shown e h = h ∙ ap (λ (ts : List (List ℕ)). kept ts) (sym (ap (λ (es : List Entry). texts run.devices run.config run.script es) e))

-- what is kept of a run that is over
pub shown_of : (run : SystemRun) (devices : ℕ) (c : Config) (script : List Directive) (es : List Entry) (shown : Option (List (List ℕ))) → run.devices ≡ devices → run.config ≡ c → run.script ≡ script → es ≡ run.journal.entries → IsKept run shown → IsShown devices c script es shown
unfolding texts
shown_of run devices c script es shown n p q r h = h ∙ ap (λ (ts : List (List ℕ)). kept ts) (same_texts devices run.devices c run.config script run.script es run.journal.entries n p q (sym r))

-- a run that was obeyed to its end, and one that stopped
pub whole_run : (run : SystemRun) (devices : ℕ) (c : Config) (script : List Directive) (es : List Entry) → run.devices ≡ devices → run.config ≡ c → run.script ≡ script →
    IsRun (system_setting run.config) (chip_for run.devices run.config run.script) call_of run.script es → steps_in es ≤ most_steps → IsWholeRun devices c script es
whole_run run devices c script es n p q r few = record {
  run = subst (λ (m : ℕ). IsRun (system_setting c) (chip_for m c script) call_of script es) n (subst (λ (k : Config). IsRun (system_setting k) (chip_for run.devices k script) call_of script es) p (subst (λ (ss : List Directive). IsRun (system_setting run.config) (chip_for run.devices run.config ss) call_of ss es) q r));
  steps = few;
}

pub stopped_run : (run : SystemRun) (devices : ℕ) (c : Config) (script : List Directive) (es : List Entry) → run.devices ≡ devices → run.config ≡ c → run.script ≡ script → run.too_long ≡ true →
    OnTrue run.too_long (IsStopped (system_setting run.config) (chip_for run.devices run.config run.script) call_of most_steps run.script es) → OnTrue run.too_long (most_steps < bound_of run.config run.script) → IsStoppedRun devices c script es
stopped_run run devices c script es n p q long r more = record {
  run = subst (λ (m : ℕ). IsStopped (system_setting c) (chip_for m c script) call_of most_steps script es) n (subst (λ (k : Config). IsStopped (system_setting k) (chip_for run.devices k script) call_of most_steps script es) p (subst (λ (ss : List Directive). IsStopped (system_setting run.config) (chip_for run.devices run.config ss) call_of most_steps ss es) q (OnTrue_at long r)));
  bound = subst (λ (k : Config). most_steps < bound_of k script) p (subst (λ (ss : List Directive). most_steps < bound_of run.config ss) q (OnTrue_at long more));
}

-- what holds of a result by whether it is an error
pub at_err : {A E P : Type 0} (r : Result A E) (b : Bool) → b ≡ is_err r → b ≡ true → OnErr r P → P
at_err (Ok x) b e t h = cc
at_err (Err x) b e t h = h

pub at_ok : {A E P : Type 0} (r : Result A E) (b : Bool) → b ≡ is_err r → b ≡ false → OnOk r P → P
at_ok (Ok x) b e f h = h
at_ok (Err x) b e f h = cc

-- what holds where a flag is down
pub on_false : {P Q : Type 0} (b : Bool) → (P → Q) → OnFalse b P → OnFalse b Q
on_false true f h = tt
on_false false f h = f h

pub kept_up : (run : SystemRun) (lost : Bool) (shown : Option (List (List ℕ))) → lost ≡ true → OnFalse lost (IsKept run shown)
kept_up run true shown e = tt
kept_up run false shown e = cc

pub kept_so : (run : SystemRun) (lost : Bool) (shown shown1 : Option (List (List ℕ))) → shown1 ≡ shown → IsKept run shown → OnFalse lost (IsKept run shown1)
kept_so run true shown shown1 e h = tt
kept_so run false shown shown1 e h = subst (λ (o : Option (List (List ℕ))). IsKept run o) (sym e) h
