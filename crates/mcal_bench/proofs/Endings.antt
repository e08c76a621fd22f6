-- The program ends as the call of `bench` does, with two devices.
use Rattle.std.proofs.Common.{◌≡◌, ◌≢◌, ℕ, ◌≤◌, List, [], Option, Some, None, subst, sym, arith, ◌∙◌}
use Rattle.std.specs.Option.{IfSome}
use Rattle.bench_top.specs.Calls.{Call, MeetsFault, Stream, Writes}
use Rattle.bench_top.specs.Contract.{KeepsContract}
use Rattle.bench_top.specs.Groups.{IsUndisturbed}
use Rattle.bench_top.specs.Judged.{judged}
use Rattle.bench_top.specs.Outcomes.{EndsOnSome, IsEnded}
use Rattle.bench_top.specs.declared.top.Outcome.{Outcome}
use Rattle.bench_top.specs.declared.words.Form.{Form}
use Rattle.mcal_bench.specs.Ends.{HasEnded, HasEndedOnSome}

exact_at : (left : Option (List ℕ)) (form : Option Form) (devices status : ℕ) (outcome : Outcome) (sink : Stream) → devices ≡ 2 → status ≡ outcome.status →
    IfSome left (λ bytes. IsEnded devices (judged form bytes) outcome sink) → IfSome left (λ bytes. HasEnded 2 (judged form bytes) status sink)
exact_at None form devices status outcome sink two is e = tt
exact_at (Some bytes) form devices status outcome sink two is e =
    record { outcome = outcome; status_is = is; ended = subst (λ (n : ℕ). IsEnded n (judged form bytes) outcome sink) two e }

-- the status says that nothing failed
calm : (call : Call) (status : ℕ) → status ≡ call.outcome.status → status ≢ 2 → status ≢ 3 → status ≢ 4 → IsUndisturbed call
calm call status is r s m = record { source = λ e. r (is ∙ e); sink = λ e. s (is ∙ e); memory = λ e. m (is ∙ e) }

pub ended_exact : (call : Call) (status : ℕ) → KeepsContract call → status ≡ call.outcome.status → call.devices ≡ 2 → status ≢ 2 → status ≢ 3 → status ≢ 4 →
    IfSome call.source.before (λ bytes. HasEnded 2 (judged call.form bytes) status call.sink)
ended_exact call status keeps is two r s m = exact_at call.source.before call.form call.devices status call.outcome call.sink two is (keeps.exact (calm call status is r s m)).on_bytes

pub ended_on_some : (call : Call) (status : ℕ) → KeepsContract call → status ≡ call.outcome.status → call.devices ≡ 2 → status ≢ 2 → status ≢ 3 → status ≢ 4 → HasEndedOnSome 2 call.form status call.sink
ended_on_some call status keeps is two r s m =
    record { outcome = call.outcome; status_is = is; ended = subst (λ (n : ℕ). EndsOnSome n call.form call.outcome call.sink) two (keeps.exact (calm call status is r s m)).on_some }

pub ended_known : (call : Call) (status : ℕ) → KeepsContract call → status ≡ call.outcome.status → status ≤ 8
ended_known call status keeps is = let known = keeps.known in omega (arith, is, known)

pub ended_read : (call : Call) (status : ℕ) → KeepsContract call → status ≡ call.outcome.status → status ≡ 2 → MeetsFault call.source
ended_read call status keeps is e = (keeps.source.told (sym is ∙ e)).fault

pub ended_write : (call : Call) (status : ℕ) → KeepsContract call → status ≡ call.outcome.status → status ≡ 3 → MeetsFault call.sink
ended_write call status keeps is e = (keeps.sink.told (sym is ∙ e)).fault

pub ended_nothing : (call : Call) (status : ℕ) → KeepsContract call → status ≡ call.outcome.status → status ≡ 4 → Writes call.sink []
ended_nothing call status keeps is e = (keeps.memory (sym is ∙ e)).nothing
