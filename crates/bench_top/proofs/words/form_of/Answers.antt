use Rattle.std.specs.Prelude.{string_bytes}
use Rattle.bench_top.proofs.Forms.{many_words}
use Rattle.bench_top.proofs.words.form_of.Goals as goal

pub returns-in_default-2 : goal.returns-in_default-2
returns-in_default-2 c = many_words string_bytes c.args.words.now c.in_default.len_at_least
