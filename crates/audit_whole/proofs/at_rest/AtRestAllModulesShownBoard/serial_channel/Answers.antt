use Rattle.std.proofs.Common.{◌≡◌, Option, ◌∙◌, ap, refl, subst, sym}
use Rattle.std.specs.Option.{IfSome}
use Rattle.mcal_base.specs.Layout.{length_of}
use Rattle.mcal_base.specs.declared.layout.Array.TheVariants.{Source}
use Rattle.shown_rows.specs.Shows.{serial_channel}
use Rattle.shown_rows.proofs.SoundSerial.{channel_words}
use Rattle.word_shapes.specs.declared.jobs.channel.Channel.{Channel}
use Rattle.spi_machine.specs.Table.{channel_of, table_of}
use Rattle.spi_machine.specs.declared.table.SpiTable.{SpiTable}
use Rattle.audit_whole.specs.Resting.{Resting}
use Rattle.audit_whole.proofs.at_rest.AtRestAllModulesShownBoard.serial_channel.Goals as goal

pub returns-clause-is : goal.returns-clause-is
returns-clause-is c =
    c.channel.ensures
    ∙ ap (λ (d : SpiTable). channel_of d c.args.number) c.self.invariant.2
    ∙ ap (λ (r : Resting _). serial_channel r.config c.args.number) c.self.view_is

pub returns-clause-words : goal.returns-clause-words
returns-clause-words c =
    let i = c.self.inside in
    let n = c.args.number in
    rw (← c.self.view_is)
    (subst (λ (o : Option Channel). IfSome o (λ k. k.length ≡ length_of i.config.now (Source n))) (sym (c.channel.ensures ∙ ap (λ (d : SpiTable). channel_of d n) c.self.invariant.2))
    (channel_words i.config.now.spi c.self.invariant.0.spi n (channel_of (table_of i.config.now.spi) n) refl))
