-- The act of a call: its error, its report and the reset that it asks for are as the machine tells.
use Rattle.std.proofs.Common.{◌≡◌, ℕ, Bool, true, false, not, ◌&&◌, ◌||◌, List, Option, Some, None, refl, sym, ◌∙◌, ap}
use Rattle.std.specs.Prelude.{if◌then◌else◌, is_some, option_map}
use Rattle.std.specs.List.{list_any, Contains}
use Rattle.mcal_base.specs.declared.answer.Answer.{Answer}
use Rattle.mcal_base.specs.declared.error_name.ErrorName.{ErrorName}
use Rattle.mcal_base.specs.declared.moves.DevError.{DevError}
use Rattle.mcal_base.specs.declared.moves.Event.{Event}
use Rattle.mcal_base.specs.declared.moves.Event.TheVariants.{Act, Serve, Abort, Start}
use Rattle.mcal_base.specs.declared.moves.Move.{Move}
use Rattle.mcal_base.specs.declared.moves.Move.TheVariants.{Read}
use Rattle.mcal_base.specs.declared.register.Reg.{Reg}
use Rattle.mcal_base.specs.facts.Truths.{off_on, on_off, or_true}
use Rattle.run_model.specs.Frame as frame
use Rattle.run_model.specs.Frame.{Origin, Called, Entered, ActedAt, acted_by, acted_at_by, is_reset_service, report_as}
use Rattle.run_model.specs.Legal.{ActsLow, HalvesRight, WritesNothing, ErrorsRight, MadeUnless, AllMade, HasMade}
use Rattle.run_model.specs.Machine.{Outcome, Told}
use Rattle.run_model.specs.Moment.{Halves, Setting}
use Rattle.audit_frames.specs.AccessRules.{counter_of, is_low_of, is_high_of, reads_low}
use Rattle.audit_frames.specs.ActRules.{acted_after, halves_right, errors_right, writes_right, report_of, report_by, asks_reset, reset_right}
use Rattle.audit_frames.specs.Decides.{Decides}
use Rattle.audit_frames.specs.FrameRules.{answer_after}
use Rattle.audit_frames.specs.StandsFor.{halves_of, IsCaller, IsTask, ActStands}
use Rattle.audit_frames.specs.Told.{IsTold, IsReported}
use Rattle.audit_frames.specs.declared.act.Acted.{Acted}
use Rattle.audit_frames.specs.declared.terms.Caller.{Caller}
use Rattle.audit_frames.specs.declared.terms.Counter.{Counter}
use Rattle.audit_frames.specs.declared.terms.Task.{Task}
use Rattle.audit_frames.specs.declared.terms.Task.TheVariants.{Call, Line}
use Rattle.audit_frames.proofs.AccessLaws.{high_of, low_of, low_read, none_any}
use Rattle.audit_frames.proofs.Deciding.{any_contains, both, clear, implies, itself, missing, no, valued, worded, yes}

-- ---- halves

-- without an error the act stands at a read of the low half where both were read
acts_low : (h : Halves) (reads : List Reg) (at : ActedAt) (error : Option ErrorName) (failed low high alow : Bool) → failed ≡ is_some error
    → Decides low (Contains reads h.low) → Decides high (Contains reads h.high) → Decides alow ((at.made ≡ Read h.low) × (at.inside ≡ true))
    → Decides (failed || not (low && high) || alow) (ActsLow h reads at error)
acts_low h reads at (Some e) failed low high alow f dl dh da = valued (ap (λ b. b || not (low && high) || alow) f) (yes tt)
acts_low h reads at None failed low high alow f dl dh da = valued (ap (λ b. b || not (low && high) || alow) f) (worded (λ g l r. g (l, r)) (λ g p. g p.0 p.1) (implies (both dl dh) da))

halves_none : (acted : Option Acted) (low high : Bool) → low ≡ false → halves_right acted low high ≡ true
halves_none None low high e = refl
halves_none (Some a) low high e = ap (λ b. a.failed || not (b && high) || a.low) e ∙ (ap (λ b. b || a.low) (or_true a.failed))

pub halves : (n : Option Counter) (reads : List Reg) (acted : Option Acted) (at : Option ActedAt) (low high : Bool) → ActStands n acted at
    → low ≡ list_any (is_low_of n) reads → high ≡ list_any (is_high_of n) reads
    → Decides (halves_right acted low high) (HalvesRight (option_map halves_of n) reads at)
halves None reads acted at low high stands l h = valued (halves_none acted low high (l ∙ none_any (is_low_of None) reads (λ r. refl))) (yes tt)
halves (Some n) reads None None low high stands l h = yes tt
halves (Some n) reads None (Some at) low high stands l h = absurd stands
halves (Some n) reads (Some a) None low high stands l h = absurd stands
halves (Some n) reads (Some a) (Some at) low high stands l h =
    acts_low (halves_of n) reads at at.error a.failed low high a.low stands.1
    (valued l (any_contains (is_low_of (Some n)) (halves_of n).low (low_of n) reads))
    (valued h (any_contains (is_high_of (Some n)) (halves_of n).high (high_of n) reads))
    (valued stands.0 (both (low_read n at.made) (itself at.inside)))

-- ---- errors, and what is owed without one

nothing_written : (error : Option ErrorName) (failed wrote : Bool) → failed ≡ is_some error → Decides (not (failed && wrote)) (WritesNothing wrote error)
nothing_written None failed wrote e = valued (ap (λ b. not (b && wrote)) e) (yes tt)
nothing_written (Some x) failed wrote e = valued (ap (λ b. not (b && wrote)) e) (clear wrote)

pub errors_are : (n : Option Counter) (acted : Option Acted) (at : Option ActedAt) (wrote : Bool) → ActStands n acted at → Decides (errors_right acted wrote) (ErrorsRight wrote at)
errors_are n None None wrote stands = yes tt
errors_are n None (Some at) wrote stands = absurd stands
errors_are n (Some a) None wrote stands = absurd stands
errors_are n (Some a) (Some at) wrote stands = nothing_written at.error a.failed wrote stands.1

made_unless : (error : Option ErrorName) (failed all : Bool) (kinds : List (Move → Bool)) (writes : List Move) → failed ≡ is_some error → Decides all (AllMade kinds writes) → Decides (failed || all) (MadeUnless error kinds writes)
made_unless None failed all kinds writes e d = valued (ap (λ b. b || all) e) d
made_unless (Some x) failed all kinds writes e d = valued (ap (λ b. b || all) e) (yes tt)

writes_any : (acted : Option Acted) → writes_right acted true ≡ true
writes_any None = refl
writes_any (Some a) = or_true a.failed

-- a call's writes are those of its kinds, and a handler owes none
abbrev pub Owes : {State Call : Type 0} → Setting State Call → Origin Call → (all : Bool) → List Move → Type 0
Owes g (Called c) all writes = Decides all (AllMade (g.must c) writes)
Owes g (Entered l) all writes = all ≡ true

pub writes_are : {State Call : Type 0} (g : Setting State Call) (asked : ℕ) (task : Task) (origin : Origin Call) (n : Option Counter) (acted : Option Acted) (at : Option ActedAt) (all : Bool) (writes : List Move)
    → IsTask g asked task origin → ActStands n acted at → Owes g origin all writes
    → Decides (writes_right acted all) (HasMade g origin writes at)
writes_are g asked (Call k) (Called c) n None None all writes is stands owes = yes tt
writes_are g asked (Call k) (Called c) n None (Some at) all writes is stands owes = absurd stands
writes_are g asked (Call k) (Called c) n (Some a) None all writes is stands owes = absurd stands
writes_are g asked (Call k) (Called c) n (Some a) (Some at) all writes is stands owes = made_unless at.error a.failed all (g.must c) writes stands.1 owes
writes_are g asked (Line l) (Entered d) n acted at all writes is stands owes = valued (ap (λ b. writes_right acted b) owes ∙ writes_any acted) (yes tt)
writes_are g asked (Call k) (Entered d) n acted at all writes is stands owes = absurd is
writes_are g asked (Line l) (Called c) n acted at all writes is stands owes = absurd is

-- ---- after a step

pub answer_kept : {State : Type 0} (a : Option Answer) (e : Option Event) (t : Told) (out : Option (Outcome State)) → IsTold e t out → answer_after a e t.answer ≡ acted_by a e out
answer_kept a (Some Act) t (Some out) h = ap (λ (x : Told). Some x.answer) (sym h)
answer_kept a (Some Act) t None h = absurd h
answer_kept a (Some (Serve k)) t out h = refl
answer_kept a (Some (Abort u)) t out h = refl
answer_kept a (Some (Start u)) t out h = refl
answer_kept a None t out h = refl

pub acted_kept : {State Call : Type 0} (g : Setting State Call) (asked : ℕ) (task : Task) (origin : Origin Call) (q inside : Bool) (made : Move) (acted : Option Acted) (at : Option ActedAt) (e : Option Event) (t : Told) (out : Option (Outcome State))
    → q ≡ inside → IsTask g asked task origin → IsTold e t out → ActStands (counter_of task) acted at
    → ActStands (counter_of task) (acted_after task q made acted e t.error) (acted_at_by origin inside made at e out)
acted_kept g asked (Call k) (Called c) q inside made acted at (Some Act) t (Some out) same is h stands = (ap (λ b. reads_low k.counter made && b) same, ap (λ (x : Told). is_some x.error) (sym h))
acted_kept g asked (Call k) (Called c) q inside made acted at (Some Act) t None same is h stands = absurd h
acted_kept g asked (Call k) (Called c) q inside made acted at (Some (Serve l)) t out same is h stands = stands
acted_kept g asked (Call k) (Called c) q inside made acted at (Some (Abort u)) t out same is h stands = stands
acted_kept g asked (Call k) (Called c) q inside made acted at (Some (Start u)) t out same is h stands = stands
acted_kept g asked (Call k) (Called c) q inside made acted at None t out same is h stands = stands
acted_kept g asked (Line l) (Entered d) q inside made acted at (Some Act) t out same is h stands = stands
acted_kept g asked (Line l) (Entered d) q inside made acted at (Some (Serve k)) t out same is h stands = stands
acted_kept g asked (Line l) (Entered d) q inside made acted at (Some (Abort u)) t out same is h stands = stands
acted_kept g asked (Line l) (Entered d) q inside made acted at (Some (Start u)) t out same is h stands = stands
acted_kept g asked (Line l) (Entered d) q inside made acted at None t out same is h stands = stands
acted_kept g asked (Call k) (Entered d) q inside made acted at e t out same is h stands = absurd is
acted_kept g asked (Line l) (Called c) q inside made acted at e t out same is h stands = absurd is

-- ---- the report

report_found : {State Call : Type 0} (g : Setting State Call) (asked : ℕ) (k : Caller) (c : Call) (error : Option ErrorName) (reported : Option Bool) → IsCaller g asked k c → IsReported g.machine (Called c) error reported → report_of k error reported ≡ frame.report_of g.machine c error
report_found g asked k c None reported is r = refl
report_found g asked k c (Some e) reported is r = ap (λ x. report_as x e reported) (sym is.service) ∙ ap (λ x. report_as (g.machine.service_of c) e x) r

pub report_kept : {State Call : Type 0} (g : Setting State Call) (asked : ℕ) (task : Task) (origin : Origin Call) (r q : Option DevError) (e : Option Event) (t : Told) (out : Option (Outcome State)) (reported : Option Bool)
    → IsTask g asked task origin → IsTold e t out → IsReported g.machine origin t.error reported → r ≡ q
    → report_by task r e t.error reported ≡ frame.report_by g.machine origin q e out
report_kept g asked (Call k) (Called c) r q (Some Act) t (Some out) reported is h rep same = report_found g asked k c t.error reported is rep ∙ ap (λ (x : Told). frame.report_of g.machine c x.error) (sym h)
report_kept g asked (Call k) (Called c) r q (Some Act) t None reported is h rep same = absurd h
report_kept g asked (Call k) (Called c) r q (Some (Serve l)) t out reported is h rep same = same
report_kept g asked (Call k) (Called c) r q (Some (Abort u)) t out reported is h rep same = same
report_kept g asked (Call k) (Called c) r q (Some (Start u)) t out reported is h rep same = same
report_kept g asked (Call k) (Called c) r q None t out reported is h rep same = same
report_kept g asked (Line l) (Entered d) r q (Some Act) t out reported is h rep same = same
report_kept g asked (Line l) (Entered d) r q (Some (Serve k)) t out reported is h rep same = same
report_kept g asked (Line l) (Entered d) r q (Some (Abort u)) t out reported is h rep same = same
report_kept g asked (Line l) (Entered d) r q (Some (Start u)) t out reported is h rep same = same
report_kept g asked (Line l) (Entered d) r q None t out reported is h rep same = same
report_kept g asked (Call k) (Entered d) r q e t out reported is h rep same = absurd is
report_kept g asked (Line l) (Called c) r q e t out reported is h rep same = absurd is

-- ---- the reset

asks_same : {State Call : Type 0} (g : Setting State Call) (asked : ℕ) (task : Task) (origin : Origin Call) (e : Option Event) (t : Told) (out : Option (Outcome State))
    → IsTask g asked task origin → IsTold e t out → asks_reset task e t.error ≡ frame.asks_reset g.machine origin e out
asks_same g asked (Call k) (Called c) (Some Act) t (Some out) is h = ap (λ x. is_reset_service x && not (is_some t.error)) (sym is.service) ∙ ap (λ (x : Told). is_reset_service (g.machine.service_of c) && not (is_some x.error)) (sym h)
asks_same g asked (Call k) (Called c) (Some Act) t None is h = absurd h
asks_same g asked (Call k) (Called c) (Some (Serve l)) t out is h = refl
asks_same g asked (Call k) (Called c) (Some (Abort u)) t out is h = refl
asks_same g asked (Call k) (Called c) (Some (Start u)) t out is h = refl
asks_same g asked (Call k) (Called c) None t out is h = refl
asks_same g asked (Line l) (Entered d) e t out is h = refl
asks_same g asked (Call k) (Entered d) e t out is h = absurd is
asks_same g asked (Line l) (Called c) e t out is h = absurd is

reset_decided : (resets asks : Bool) (ended : Option Answer) → Decides (if resets then asks && not (is_some ended) else not asks) ((resets ≡ asks) × (resets ≡ true → ended ≡ None))
reset_decided true true ended = worded (λ e. (refl, λ x. e)) (λ h. h.1 refl) (missing ended)
reset_decided true false ended = no (λ h. on_off h.0)
reset_decided false true ended = no (λ h. off_on h.0)
reset_decided false false ended = yes (refl, λ e. off_on e)

pub reset_is : {State Call : Type 0} (g : Setting State Call) (asked : ℕ) (task : Task) (origin : Origin Call) (made : Move) (e : Option Event) (t : Told) (out : Option (Outcome State)) (ended : Option Answer)
    → IsTask g asked task origin → IsTold e t out
    → Decides (reset_right task made e t.error (is_some ended)) ((frame.resets_chip made ≡ frame.asks_reset g.machine origin e out) × (frame.resets_chip made ≡ true → ended ≡ None))
reset_is g asked task origin made e t out ended is h =
    valued (ap (λ b. if frame.resets_chip made then b && not (is_some ended) else not b) (asks_same g asked task origin e t out is h)) (reset_decided (frame.resets_chip made) (frame.asks_reset g.machine origin e out) ended)
