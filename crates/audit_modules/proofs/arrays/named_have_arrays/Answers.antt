use Rattle.std.proofs.Common.{ℕ, subst, sym}
use Rattle.std.specs.List.{Contains}
use Rattle.chip_model.specs.Chip.{word_of}
use Rattle.mcal_base.specs.declared.notice.NoticeKind.{NoticeKind}
use Rattle.spi_machine.specs.Bounds.{HoldsArrays, channels_by_kind}
use Rattle.audit_frames.specs.Decides.{Decides}
use Rattle.audit_serial.specs.Stands.{state_of}
use Rattle.audit_modules.proofs.Joining.{names_none, none_named}
use Rattle.audit_modules.proofs.arrays.named_have_arrays.Goals as goal

pub returns-in-SpiJobEndNotification : goal.returns-in-SpiJobEndNotification
returns-in-SpiJobEndNotification c =
    let d = c.args.serials.now.configured.table in
    subst (λ (m : NoticeKind). Decides c.job_has_arrays.result ((k : ℕ) → Contains (channels_by_kind d m c.args.notice.id) k → HoldsArrays (word_of c.args.bus.now) d (state_of c.args.serials.now) k)) (sym c.in-SpiJobEndNotification.is) c.job_has_arrays.ensures

pub returns-in-SpiSeqEndNotification : goal.returns-in-SpiSeqEndNotification
returns-in-SpiSeqEndNotification c =
    let d = c.args.serials.now.configured.table in
    subst (λ (m : NoticeKind). Decides c.sequence_has_arrays.result ((k : ℕ) → Contains (channels_by_kind d m c.args.notice.id) k → HoldsArrays (word_of c.args.bus.now) d (state_of c.args.serials.now) k)) (sym c.in-SpiSeqEndNotification.is) c.sequence_has_arrays.ensures

pub returns-in_default : goal.returns-in_default
returns-in_default c = none_named c.args.bus.now c.args.serials.now.configured.table (state_of c.args.serials.now) _ (names_none c.args.serials.now.configured.table c.args.notice.kind c.args.notice.id c.in_default.not-SpiJobEndNotification c.in_default.not-SpiSeqEndNotification)
