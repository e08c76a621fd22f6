-- The load of the state word: what it decides for each call, and that this is what the machine says.
-- From Bodies, Base.
-- Used by Lawful, asked/rt.
use Rattle.std.proofs.Common.{◌≡◌, ℕ, ◌<◌, Bool, true, false, ◌==◌, not, length, cond, List, [], ◌∷◌, Option, Some, None, refl, ◌∙◌, ap, arith}
use Rattle.std.specs.Prelude.{if◌then◌else◌, is_some, slice_index_or}
use Rattle.std.specs.Option.{option_or}
use Rattle.std.proofs.lemmas.Bool.{not-false}
use Rattle.gpt_driver.specs.laws.Base.{bits_of, ErrorName, GptBusy, no_answer, Nothing, Done, owed_error, error_by, service_of, allows, answer_refused, has_value, state_word, GptState, Mode, Off, is_off, is_asleep, reporting, channel_of, is_one_shot, Call, Init, DeInit, SetMode, OfChannel, ChannelCall, GetTimeElapsed, GetTimeRemaining, StartTimer, StopTimer, Changes, Channel, GptTable, Asked, Change, Check, Notification, Wakeup, ToNormal, ToSleep, Looked, Goes, First, Second, Passed}
use Rattle.mcal_base.proofs.RowLaws.{none_holds, last_at}
use Rattle.mcal_base.specs.det_errors.Rows.{errors_of}
use Rattle.mcal_base.specs.declared.service.Service.TheVariants as services
use Rattle.service_outline.specs.declared.body.Looked.TheVariants.{Refused}
use Rattle.module_machines.specs.gpt.Checks.{facts_by}
pub use Rattle.gpt_driver.specs.declared.service.count.CountBody.TheVariants.{ElapsedLow, RemainingTarget}
pub use Rattle.gpt_driver.specs.declared.service.deinit.DeInitBody.TheVariants.{Look as DeInitLook}
pub use Rattle.gpt_driver.specs.declared.service.init.InitBody.TheVariants.{Enable}
pub use Rattle.gpt_driver.specs.declared.service.mode.ModeBody.TheVariants.{Wake, Gather}
pub use Rattle.gpt_driver.specs.declared.service.start.StartBody.TheVariants.{Look as StartLook}
pub use Rattle.gpt_driver.specs.declared.service.stop.StopBody.TheVariants.{OneShot, Continuous}
pub use Rattle.gpt_driver.specs.declared.service.switch.SwitchBody.TheVariants.{Load as SwitchLoad}
use Rattle.gpt_driver.specs.laws.Bodies.{ChannelBody, GptBody}

-- ---- what it decides

abbrev pub facts_of : Asked → ℕ → List Bool
facts_of q word = facts_by q.driver q.call (word == 0) (word == 2) false

abbrev pub refusal_of : Asked → ErrorName → Done
refusal_of q e = record { answer = answer_refused q.call; owed = owed_error (reporting q.driver) (service_of q.call) e }

abbrev pub let_be : Looked GptBody
let_be = Refused (record { answer = no_answer; owed = Nothing })

-- the body of a call about a configured channel
abbrev pub begun_with : GptTable → Channel → ChannelCall → ChannelBody
begun_with d k GetTimeElapsed = First (First (ElapsedLow k.number))
begun_with d k GetTimeRemaining = First (First (RemainingTarget k.number))
begun_with d k (StartTimer v) = First (Second (StartLook (record { channel = k.number; value = v; prescaler = k.prescaler; one_shot_bits = bits_of (is_one_shot d) 8; busy = owed_error (reporting d) services.GptStartTimer GptBusy })))
begun_with d k StopTimer = Second (First (if k.one_shot then OneShot k.number else Continuous k.number))
begun_with d k (Changes by) = Second (Second (SwitchLoad k.number by))

abbrev pub begun_on : GptTable → ChannelCall → Option Channel → Looked GptBody
begun_on d call None = let_be
begun_on d call (Some k) = Goes (Second (First (begun_with d k call)))

-- what a call without an error so far goes on with
abbrev pub begins : GptTable → Call → Looked GptBody
begins d Init = Goes (First (First Enable))
begins d DeInit = Goes (First (Second (First (DeInitLook (owed_error (reporting d) services.GptDeInit GptBusy)))))
begins d (SetMode None) = let_be
begins d (SetMode (Some ToNormal)) = Goes (First (Second (Second Wake)))
begins d (SetMode (Some ToSleep)) = Goes (First (Second (Second (Gather 0 0))))
begins d (OfChannel c call) = begun_on d call (channel_of d c)

abbrev pub begun_of : Asked → Looked GptBody
begun_of q = begins q.driver q.call

abbrev pub looked_by : Asked → Option ErrorName → Looked GptBody
looked_by q None = begun_of q
looked_by q (Some e) = Refused (refusal_of q e)

abbrev pub gpt_looked : Asked → ℕ → Looked GptBody
gpt_looked q word = looked_by q (error_by q.driver q.call (word == 0) (word == 2) false)

-- ---- what a call shows that has no error

-- a condition of its row doesn't hold
no_error : (d : GptTable) (s : GptState) (call : Call) → Passed d s call → (k : ℕ) → k < length (errors_of (service_of call)) → slice_index_or (facts_by d call (is_off s.mode) (is_asleep s.mode) false) k false ≡ false
no_error d s call pass k lt = none_holds (errors_of (service_of call)) (facts_by d call (is_off s.mode) (is_asleep s.mode) false) pass k lt

pub off_of : (d : GptTable) (s : GptState) → Passed d s Init → is_off s.mode ≡ true
off_of d s pass = not-false (is_off s.mode) (no_error d s Init pass 0 (omega arith))

pub on_of : (d : GptTable) (s : GptState) (call : Call) → (call ≡ Init → ⊥) → Passed d s call → is_off s.mode ≡ false
on_of d s Init n pass = absurd (n refl)
on_of d s (OfChannel c (Changes (Notification true))) n pass = no_error d s (OfChannel c (Changes (Notification true))) pass 0 (omega arith)
on_of d s (OfChannel c (Changes (Wakeup true))) n pass = no_error d s (OfChannel c (Changes (Wakeup true))) pass 0 (omega arith)
on_of d s call n pass = no_error d s call pass 0 (omega arith)

pub mode_of : (d : GptTable) (s : GptState) → Passed d s (SetMode None) → ⊥
mode_of d s pass = let e = no_error d s (SetMode None) pass 1 (omega arith) in cc

pub allowed : (d : GptTable) (s : GptState) (c : ℕ) (call : ChannelCall) → Passed d s (OfChannel c call) → allows call (channel_of d c) ≡ true
allowed d s c (Changes Check) pass = refl
allowed d s c (Changes (Notification true)) pass = not-false _ (no_error d s (OfChannel c (Changes (Notification true))) pass 1 (omega arith))
allowed d s c (Changes (Wakeup true)) pass = not-false _ (no_error d s (OfChannel c (Changes (Wakeup true))) pass 1 (omega arith))
allowed d s c call pass = not-false (allows call (channel_of d c)) (no_error d s (OfChannel c call) pass 1 (omega arith))

pub value_of : (d : GptTable) (s : GptState) (c v : ℕ) → Passed d s (OfChannel c (StartTimer v)) → has_value v (channel_of d c) ≡ true
value_of d s c v pass = not-false (has_value v (channel_of d c)) (no_error d s (OfChannel c (StartTimer v)) pass 2 (omega arith))

-- ---- what is busy counts only where nothing stands before it

pub deinit_busy : (d : GptTable) (u a b : Bool) (o : Option ErrorName) → error_by d DeInit u a false ≡ o → error_by d DeInit u a b ≡ option_or o (cond b (Some GptBusy) None)
deinit_busy d u a b o h = last_at (errors_of services.GptDeInit) (u ∷ false ∷ false ∷ false ∷ false ∷ false ∷ []) 1 b refl (omega arith) ∙ ap (λ x. option_or x (cond b (Some GptBusy) None)) h

pub start_busy : (d : GptTable) (c v : ℕ) (u a b : Bool) (o : Option ErrorName) → error_by d (OfChannel c (StartTimer v)) u a false ≡ o → error_by d (OfChannel c (StartTimer v)) u a b ≡ option_or o (cond b (Some GptBusy) None)
start_busy d c v u a b o h = last_at (errors_of services.GptStartTimer) (u ∷ not (is_some (channel_of d c)) ∷ not (has_value v (channel_of d c)) ∷ a ∷ false ∷ false ∷ []) 4 b refl (omega arith) ∙ ap (λ x. option_or x (cond b (Some GptBusy) None)) h

pub change_unhindered : (d : GptTable) (c : ℕ) (by : Change) (u a b : Bool) → error_by d (OfChannel c (Changes by)) u a b ≡ error_by d (OfChannel c (Changes by)) u a false
change_unhindered d c (Notification true) u a b = refl
change_unhindered d c (Wakeup true) u a b = refl
change_unhindered d c _ u a b = refl

-- an error that the look names stands whatever is busy
pub early : (d : GptTable) (call : Call) (u a b : Bool) (e : ErrorName) → error_by d call u a false ≡ Some e → error_by d call u a b ≡ Some e
early d DeInit u a b e h = deinit_busy d u a b (Some e) h
early d (OfChannel c (StartTimer v)) u a b e h = start_busy d c v u a b (Some e) h
early d (OfChannel c (Changes by)) u a b e h = change_unhindered d c by u a b ∙ h
early d _ u a b e h = h

pub asked_word : (d : GptTable) (call : Call) (m : Mode) → gpt_looked (record { call = call; driver = d }) (state_word m) ≡ looked_by (record { call = call; driver = d }) (error_by d call (is_off m) (is_asleep m) false)
asked_word d call Off = refl
asked_word d call _ = refl
