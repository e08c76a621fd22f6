-- Proved over the definitions.
use Rattle.std.proofs.Common.{ap, ◌∙◌}
use Rattle.std.specs.Prelude.{slice_index}
use Rattle.chip_model.specs.declared.wiring.Wiring.{Wiring}
use Rattle.chip_model.specs.Chip.{power_on, hung}
use Rattle.chip_model.proofs.HistoryLaws.{wiring-left_all}
use Rattle.chip_model.proofs.WiringLaws.{source-length_of, sources-within}
use Rattle.chip_model.proofs.laws.source_arrays.Goals as goal

pub returns : goal.returns
returns _ = record {
  places = λ config room devices channel xs lt. ap (λ (w : Wiring). slice_index w.sources channel) (wiring-left_all (hung devices (power_on config room)) xs) ∙ source-length_of config channel lt;
  most = λ config room devices channel xs w lt. rw (wiring-left_all (hung devices (power_on config room)) xs) (sources-within config w channel lt);
}
