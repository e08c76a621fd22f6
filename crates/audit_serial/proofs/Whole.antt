-- The state as a whole, and what is asked of it by number.
use Rattle.std.proofs.Common.{◌≡◌, ℕ, ◌≤◌, true, false, List, Option, Some, None, refl, ap, ◌∙◌, arith}
use Rattle.std.specs.Prelude.{is_some}
use Rattle.mcal_base.specs.declared.answer_name.AnswerName.{AnswerName}
use Rattle.word_shapes.specs.declared.jobs.channel.Channel.{Channel}
use Rattle.spi_machine.specs.Channels.{ChannelState}
use Rattle.spi_machine.specs.Machine.{next_by}
use Rattle.spi_machine.specs.Pending.{next_on}
use Rattle.spi_machine.specs.State.{SpiState}
use Rattle.spi_machine.specs.Table.{length_by}
use Rattle.spi_machine.specs.Transfers.{Run}
use Rattle.spi_machine.specs.declared.table.SpiTable.{SpiTable}
use Rattle.audit_serial.specs.Carried.{UnitsKept}
use Rattle.audit_serial.specs.Queued.{QueueKept}
use Rattle.audit_serial.specs.Stands.{state_by}
use Rattle.audit_serial.specs.declared.serials.Mode.{Mode}

-- of the same parts it is the same state
pub same_parts : (mode : Mode) (cs ds : List ChannelState) (js ks ps qs : List AnswerName) (a b : QueueKept) (u v : UnitsKept)
    → cs ≡ ds → js ≡ ks → ps ≡ qs → a ≡ b → u ≡ v → state_by mode cs js ps a u ≡ state_by mode ds ks qs b v
same_parts mode cs ds js ks ps qs a b u v e f g h i =
    ap (λ x. state_by mode x js ps a u) e
    ∙ (ap (λ x. state_by mode ds x ps a u) f ∙ (ap (λ x. state_by mode ds ks x a u) g ∙ (ap (λ x. state_by mode ds ks qs x u) h ∙ ap (λ x. state_by mode ds ks qs b x) i)))

pub not_free : (d : SpiTable) (s : SpiState) (u : ℕ) (o : Option Run) → is_some o ≡ true → None ≡ next_by d s u o
not_free d s u None e = absurd (cc)
not_free d s u (Some r) e = refl

pub is_free : (d : SpiTable) (s : SpiState) (u : ℕ) (o : Option Run) → is_some o ≡ false → next_on d u s.pending ≡ next_by d s u o
is_free d s u None e = refl
is_free d s u (Some r) e = absurd (cc)

-- a channel that has at most 64 words where it is configured has no more where it isn't
pub short_by : (o : Option Channel) → ((k : Channel) → o ≡ Some k → k.length ≤ 64) → length_by o ≤ 64
short_by None h = omega arith
short_by (Some k) h = h k refl
