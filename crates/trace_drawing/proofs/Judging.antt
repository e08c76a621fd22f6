-- What the ending of a call says of the outcome, where the source tells its bytes.
use Rattle.std.proofs.Common.{◌≡◌, ◌≢◌, refl, ap, ℕ, ◌<◌, ◌≤◌, List, [], length, Option, Some, None, inl, subst, sym, arith, ◌∙◌, append-nil}
use Rattle.std.specs.Prelude.{replicate}
use Rattle.std.specs.Option.{IfSome}
use Rattle.std.specs.Io.KnownBytes.{Appends}
use Rattle.std.proofs.lemmas.Bool.Decides.{nat_tests}
use Rattle.std.proofs.lemmas.List.{length-replicate}
use Rattle.mcal_base.specs.Causes.{Rose}
use Rattle.trace_drawing.specs.Judged.{Ending, usage, ending_of, judged}
use Rattle.trace_drawing.specs.Outcomes.{IsEnded, WritesFront, FrontOf, EndsOnSome, Concludes}
use Rattle.trace_drawing.specs.declared.input.InputEnd.TheVariants as ends
use Rattle.trace_drawing.specs.declared.program.Form.{Form}

-- ---- how a call ends

-- a call that writes the text with which it is to end
pub concludes_of : (ending : Ending) (status : ℕ) (before after : Option (List ℕ)) (faults now : ℕ) → ending.status ≢ 4 → status ≤ 9 → (status ≢ 3 → status ≡ ending.status) → (status ≢ 3 → Appends before after ending.text) → (status ≢ 3 → now ≡ faults) →
    (status ≡ 3 → Rose faults now) → (status ≡ 3 → WritesFront before after ending.text) → Concludes ending status before after faults now
concludes_of ending status before after faults now four known is wrote still fault front = record {
  known = known;
  ends = λ a b. record { status_is = is a; written = wrote a };
  front = front;
  nothing = λ e. absurd (let f : status ≢ 3 = λ g. absurd (omega (arith, e, g)) in four (sym (is f) ∙ e));
  still = still;
  fault = fault;
}

appends_nothing : (before : Option (List ℕ)) → Appends before before []
appends_nothing None = tt
appends_nothing (Some xs) = sym (append-nil xs)

-- and one that finds no memory
pub nothing_written : (ending : Ending) (before : Option (List ℕ)) (faults : ℕ) → Concludes ending 4 before before faults faults
nothing_written ending before faults = record {
  known = omega arith;
  ends = λ a b. absurd (b refl);
  front = λ e. cc;
  nothing = λ e. appends_nothing before;
  still = λ a. refl;
  fault = λ e. cc;
}

-- ---- the bytes end so, where they are told

pub record JudgesSo (left : Option (List ℕ)) (form : Option Form) (ending : Ending) : Type 0 where
  pub judges : IfSome left (λ bytes. judged form bytes ≡ ending)

pub front_of : (left : Option (List ℕ)) (form : Option Form) (ending : Ending) (failed : Type 0) (status : ℕ) (before after : Option (List ℕ)) (faults now : ℕ) → JudgesSo left form ending → Concludes ending status before after faults now → status ≡ 3 →
    IfSome left (λ bytes. FrontOf (judged form bytes) failed before after)
front_of None form ending failed status before after faults now h c s = tt
front_of (Some bytes) form ending failed status before after faults now h c s = subst (λ (e : Ending). FrontOf e failed before after) (sym h.judges) (inl (c.front s))

pub ends_on : (form : Option Form) (bytes : List ℕ) (ending : Ending) (status : ℕ) (before after : Option (List ℕ)) (faults now : ℕ) → judged form bytes ≡ ending → Concludes ending status before after faults now → status ≢ 3 → status ≢ 4 → EndsOnSome form status before after
ends_on form bytes ending status before after faults now is c s m = record { bytes = bytes; ended = subst (λ (e : Ending). IsEnded e status before after) (sym is) (c.ends s m) }

-- wrong words end so, whatever memory there is
pub usage_status : (status : ℕ) (before after : Option (List ℕ)) (faults now : ℕ) → Concludes usage status before after faults now → status ≢ 3 → (status ≢ 4) → status ≡ 1
usage_status status before after faults now c s m = (c.ends s m).status_is

-- ---- which bytes

many_are : (form : Form) (bytes : List ℕ) → 268435456 < length bytes → judged (Some form) bytes ≡ ending_of ends.TooLong
many_are form bytes h = grind (arith, nat_tests)

pub usage_is : (words : Option Form) (bytes : List ℕ) → words ≡ None → judged words bytes ≡ usage
usage_is words bytes e = ap (λ (w : Option Form). judged w bytes) e

pub so_many : (n : ℕ) → (bytes : List ℕ) × (length bytes ≡ n)
so_many n = (replicate n 0, length-replicate n 0)

pub many_is : (words : Option Form) (form : Form) → words ≡ Some form → judged words (so_many 268435457).0 ≡ ending_of ends.TooLong
many_is words form e = let size = (so_many 268435457).1 in ap (λ (w : Option Form). judged w (so_many 268435457).0) e ∙ many_are form (so_many 268435457).0 (omega (arith, size))

pub usage_judged : (left : Option (List ℕ)) (words : Option Form) → words ≡ None → JudgesSo left words usage
usage_judged None words e = record { judges = tt }
usage_judged (Some bytes) words e = record { judges = usage_is words bytes e }
