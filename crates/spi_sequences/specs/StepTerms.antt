-- The vocabulary of the steps: what their law files take from elsewhere.
pub use Rattle.mcal_base.specs.declared.answer_name.AnswerName.{AnswerName}
pub use Rattle.mcal_base.specs.declared.answer_name.AnswerName.TheVariants.{ENotOk, EOk, SpiBusy, SpiIdle}
pub use Rattle.mcal_base.specs.declared.error_name.ErrorName.TheVariants.{SpiSeqInProcess, SpiSeqPending}
pub use Rattle.mcal_base.specs.declared.{moves.Event.{Event}, moves.Event.TheVariants.{Act, Start}, moves.Move.{Move}}
pub use Rattle.mcal_base.specs.declared.moves.Move.TheVariants.{Load, Mask, Note, Read, Store, Unmask, Write}
pub use Rattle.mcal_base.specs.declared.{moves.Unit.TheVariants.{Spi0, Spi1}, notice.Notice.{Notice}}
pub use Rattle.mcal_base.specs.declared.notice.NoticeKind.TheVariants.{SpiJobEndNotification, SpiSeqEndNotification}
pub use Rattle.mcal_base.specs.declared.register.Reg.TheVariants.{EnableClear, EnableSet, SerialAck, SerialData}
pub use Rattle.mcal_base.specs.declared.register.Reg.TheVariants.{SerialReceived, SerialSelect, SerialState}
pub use Rattle.mcal_base.specs.declared.{register.Reg.TheVariants.{SerialWait, SerialWidth}, routine.Taken.{Taken}}
pub use Rattle.mcal_base.specs.declared.service.Service.TheVariants.{SpiAsyncTransmit, SpiSyncTransmit}
pub use Rattle.run_model.specs.Machine.{named, no_answer, select_of}
pub use Rattle.service_outline.specs.{declared.done.BodyTaken.{BodyTaken}, declared.done.Epilogue.{Epilogue}}
pub use Rattle.service_outline.specs.{declared.done.Epilogue.TheVariants.{Nothing, One}, Done.{acts, ends, goes}}
pub use Rattle.service_outline.specs.Done.{owed_error}
pub use Rattle.word_shapes.specs.declared.jobs.{banks.Commit.{Commit}, channel.Placed.{Placed}}
pub use Rattle.word_shapes.specs.declared.jobs.{channel.Side.TheVariants.{Received, Sent}, finding.Find.{Find}}
pub use Rattle.word_shapes.specs.declared.jobs.{keeping.Keep.{Keep}, keeping.Taker.{Taker}}
pub use Rattle.word_shapes.specs.{declared.jobs.preparing.Prepare.{Prepare}, jobs.Parts.{asking, commit_ends, commit_left}}
pub use Rattle.word_shapes.specs.jobs.Parts.{commit_move, committing, find_gave, find_left, find_move, finding, finding_first}
pub use Rattle.word_shapes.specs.jobs.Parts.{gave, has_ended, keep_ends, keep_left, keep_move, keeping, prepare_ends}
pub use Rattle.word_shapes.specs.jobs.Parts.{prepare_left, prepare_move, preparing, releasing, taker_of}
pub use Rattle.spi_machine.specs.declared.call.AsyncMode.TheVariants.{Interrupt, Polling}
pub use Rattle.spi_machine.specs.{declared.table.SpiTable.{SpiTable}, Machine.{reporting}, Table.{is_interruptible}}
pub use Rattle.spi_machine.specs.Table.{is_sync_unit, job_of, notifies_job, notifies_sequence, priority_by, select_by}
pub use Rattle.spi_machine.specs.{Table.{sequence_of}, Wiring.{channel_at_place, channel_number, job_at_place}}
pub use Rattle.spi_machine.specs.Wiring.{jobs_list, list_of, placed_of, shares, unit_of_sequence}
pub use Rattle.spi_sequences.specs.declared.service.cancel.CancelBody.{CancelBody}
pub use Rattle.spi_sequences.specs.declared.service.cancel.Cancelled.{Cancelled}
pub use Rattle.spi_sequences.specs.declared.service.request.Requested.{Requested}
pub use Rattle.spi_sequences.specs.declared.service.request.RequestPlace.{RequestPlace}
pub use Rattle.spi_sequences.specs.{declared.service.serve.Arrived.{Arrived}, declared.service.serve.Ended.{Ended}}
pub use Rattle.spi_sequences.specs.declared.service.serve.Leaving.{Leaving}
pub use Rattle.spi_sequences.specs.declared.service.serve.SequenceNext.{SequenceNext}
pub use Rattle.spi_sequences.specs.declared.service.serve.Served.{Served}
pub use Rattle.spi_sequences.specs.declared.service.serve.ServePlace.{ServePlace}
pub use Rattle.spi_sequences.specs.declared.service.serve.ServeStep.{ServeStep}
pub use Rattle.spi_sequences.specs.declared.service.serve.ServeStep.TheVariants.{JobOver}
pub use Rattle.spi_sequences.specs.{declared.service.start.Chosen.{Chosen}, declared.service.start.Started.{Started}}
pub use Rattle.spi_sequences.specs.declared.service.start.StartPlace.{StartPlace}
pub use Rattle.spi_sequences.specs.declared.service.sync.SyncBody.{SyncBody}
pub use Rattle.spi_sequences.specs.{declared.service.sync.SyncPlace.{SyncPlace}, declared.service.unit.After.{After}}
pub use Rattle.spi_sequences.specs.declared.service.unit.FrameRole.{FrameRole}
pub use Rattle.spi_sequences.specs.declared.service.unit.FrameRole.TheVariants.{Handler, Main, Rest, Transmit}
pub use Rattle.spi_sequences.specs.declared.service.unit.UnitBody.{UnitBody}
pub use Rattle.spi_sequences.specs.{declared.service.unit.UnitPlace.{UnitPlace}, declared.service.whole.Whole.{Whole}}
pub use Rattle.spi_sequences.specs.declared.service.whole.Whole.TheVariants.{DeInit, Mode, Status}
pub use Rattle.spi_sequences.specs.{declared.service.whole.WholeBody.{WholeBody}, declared.words.Position.{Position}}
pub use Rattle.spi_sequences.specs.{declared.words.Running.{Running}, declared.words.TheConstants.{CANCELLED, FAILED}}
pub use Rattle.spi_sequences.specs.declared.words.TheConstants.{LINES, MARKS, NEXTS, PENDING, STATE}
pub use Rattle.spi_sequences.specs.Words.{cancelled_bit, has_mark, job_word, next_in, order_places, packed_position}
pub use Rattle.spi_sequences.specs.Words.{packed_run, position_in, position_word, run_in, running_word, search_of}
pub use Rattle.spi_sequences.specs.Words.{sequence_word, started_bit, unmarked_in, with_next_in}
pub use Rattle.std.specs.Prelude.{bit_or, Bool, false, List, min, nat_le, nat_lt, None, not, Option, slice_index_or}
pub use Rattle.std.specs.Prelude.{slice_set, Some, suc, true, zero, ℕ}
pub use Rattle.word_shapes.specs.{declared.add.Add.{Add}, declared.again.Again.{Again}, declared.choosing.Front.{Front}}
pub use Rattle.word_shapes.specs.{declared.choosing.Next.{Next}, declared.dropped.Dropped.{Dropped}}
pub use Rattle.word_shapes.specs.{declared.put.Put.{Put}, declared.take.Take.{Take}, PriorityQueue.{add_gave, add_left}}
pub use Rattle.word_shapes.specs.PriorityQueue.{add_move, again_gave, again_left, again_move, drop_gave, drop_left}
pub use Rattle.word_shapes.specs.PriorityQueue.{drop_move, front_gave, front_left, front_move, next_gave, next_left}
pub use Rattle.word_shapes.specs.{PriorityQueue.{next_move}, TripleBuffer.{put_gave, put_left, put_move, take_gave}}
pub use Rattle.word_shapes.specs.TripleBuffer.{take_left, take_move}
