use Rattle.std.proofs.Common.{◌∙◌, sym, arith}
use Rattle.bench_top.proofs.Numerals.{number_read, none_read}
use Rattle.sweep_top.proofs.words.number_between.Goals as goal

pub returns-in-Ok-clause-is : goal.returns-in-Ok-clause-is
returns-in-Ok-clause-is c =
    number_read c.args.least c.args.most c.args.word.now c.in-Ok.number (sym (c.starts_with.ensures.byte (omega arith) (omega arith) (λ w o h. h)) ∙ c.if-starts_with.false) c.in-Ok.ensures.value.0.0.0 c.in-Ok.ensures.value.0.1
    c.if-least-number.true c.if-number-most.true

pub returns-in_default-3-clause-is : goal.returns-in_default-3-clause-is
returns-in_default-3-clause-is c =
    none_read _ c.args.least c.args.most c.args.word.now c.in_default.field-0 c.requires (sym (c.starts_with.ensures.byte (omega arith) (omega arith) (λ w o h. h)) ∙ c.if-starts_with.false) c.in_default.ensures.value.0
