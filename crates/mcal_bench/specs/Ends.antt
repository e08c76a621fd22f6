-- How the bench program ends.
use Rattle.std.specs.Prelude.{◌≡◌, ℕ, Option}
use Rattle.bench_top.specs.Calls.{Stream}
use Rattle.bench_top.specs.Judged.{Judgement}
use Rattle.bench_top.specs.Outcomes.{EndsOnSome, IsEnded}
use Rattle.bench_top.specs.declared.top.Outcome.{Outcome}
use Rattle.bench_top.specs.declared.words.Form.{Form}

-- It ended as it was judged, with some journal, which ends with the process: with this status, and with all of the text written.
pub record HasEnded (devices : ℕ) (judgement : Judgement) (status : ℕ) (sink : Stream) : Type 0 where
  pub outcome : Outcome
  pub status_is : status ≡ outcome.status
  pub ended : IsEnded devices judgement outcome sink

-- It ended as it is to end on some bytes, whatever is known of those that came, with a journal that keeps what is promised of their run.
pub record HasEndedOnSome (devices : ℕ) (form : Option Form) (status : ℕ) (sink : Stream) : Type 0 where
  pub outcome : Outcome
  pub status_is : status ≡ outcome.status
  pub ended : EndsOnSome devices form outcome sink
