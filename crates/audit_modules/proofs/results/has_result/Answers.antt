use Rattle.std.proofs.Common.{◌+◌, ◌*◌, ap, ◌∙◌}
use Rattle.chip_model.specs.Chip.{word_of}
use Rattle.audit_modules.proofs.Below.{same_words}
use Rattle.audit_modules.proofs.results.has_result.Goals as goal

pub returns : goal.returns
returns c s h = same_words c.word.result c.result.result _ _ (c.word.ensures ∙ ap (λ n. word_of c.args.bus.now (73728 + 2048 * (2 * c.args.group + n) + c.args.place)) c.buffer_number.ensures.is) (c.result.ensures s h)
