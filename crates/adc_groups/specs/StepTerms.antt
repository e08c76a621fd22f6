-- The vocabulary of this crate's steps: what the files that tell a body's steps take from elsewhere.
pub use Rattle.std.specs.{List.{range_with_len}}
pub use Rattle.mcal_base.specs.{Bits.{bit_of, has_bit}, declared.answer.Answer.{Answer}}
pub use Rattle.mcal_base.specs.{declared.answer_name.AnswerName.{AnswerName}}
pub use Rattle.mcal_base.specs.{declared.answer_name.AnswerName.TheVariants.{AdcBusy, AdcCompleted, AdcIdle}}
pub use Rattle.mcal_base.specs.{declared.answer_name.AnswerName.TheVariants.{AdcStreamCompleted, ENotOk, EOk}}
pub use Rattle.mcal_base.specs.{declared.error_name.ErrorName.{ErrorName}, declared.moves.Event.{Event}}
pub use Rattle.mcal_base.specs.{declared.moves.Event.TheVariants.{Act}, declared.moves.Move.{Move}}
pub use Rattle.mcal_base.specs.{declared.moves.Move.TheVariants.{Load, Read, Store, Unmask, Write}}
pub use Rattle.mcal_base.specs.{declared.moves.Unit.TheVariants.{Adc0, Adc1}}
pub use Rattle.mcal_base.specs.{declared.notice.NoticeKind.TheVariants.{AdcNotification}, declared.register.Reg.{Reg}}
pub use Rattle.mcal_base.specs.{declared.register.Reg.TheVariants.{ConverterAbort, ConverterAck, ConverterDone}}
pub use Rattle.mcal_base.specs.{declared.register.Reg.TheVariants.{ConverterGo, ConverterList, ConverterState}}
pub use Rattle.mcal_base.specs.{declared.register.Reg.TheVariants.{EnableClear, EnableSet, TriggerClear}}
pub use Rattle.mcal_base.specs.{declared.register.Reg.TheVariants.{TriggerFlags, TriggerSet}}
pub use Rattle.mcal_base.specs.{declared.service.Service.{Service}}
pub use Rattle.mcal_base.specs.det_errors.{Rows.{first_error}}
pub use Rattle.run_model.specs.{Machine.{named, named_with, no_answer, numbers}}
pub use Rattle.word_shapes.specs.{PriorityQueue.{add_gave, add_left, add_move, add_start, again_gave, again_left}}
pub use Rattle.word_shapes.specs.{PriorityQueue.{again_move, again_start, drop_gave, drop_left, drop_move}}
pub use Rattle.word_shapes.specs.{PriorityQueue.{drop_start, front_gave, front_left, front_move, front_start}}
pub use Rattle.word_shapes.specs.{PriorityQueue.{next_gave, next_left, next_move, next_start}}
pub use Rattle.word_shapes.specs.{TripleBuffer.{put_gave, put_left, put_move, put_start, take_gave, take_left}}
pub use Rattle.word_shapes.specs.{TripleBuffer.{take_move, take_start}, declared.choosing.Front.{Front}}
pub use Rattle.word_shapes.specs.{declared.put.Put.{Put}, declared.put.PutPart.{PutPart}, declared.take.Take.{Take}}
pub use Rattle.word_shapes.specs.{declared.take.TakePart.{TakePart}, declared.take.TakePart.TheVariants.{Release}}
pub use Rattle.service_outline.specs.{Done.{ends, goes, owed_error}, declared.body.Looked.{Looked}}
pub use Rattle.service_outline.specs.{declared.body.Or.{Or}, declared.body.Or.TheVariants.{First, Second}}
pub use Rattle.service_outline.specs.{declared.done.BodyTaken.{BodyTaken}, declared.done.Done.{Done}}
pub use Rattle.service_outline.specs.{declared.done.Epilogue.{Epilogue}, declared.done.Epilogue.TheVariants.{Nothing}}
pub use Rattle.service_outline.specs.{declared.sweep.Sweep.{Sweep}}
pub use Rattle.word_shapes.specs.streams.{Copying.{copy_after, copy_move, copying, has_read, read_more, read_move}}
pub use Rattle.word_shapes.specs.streams.{Rounds.{bank_number, bank_of, trio_of}, Stream.{following, limited, one_more}}
pub use Rattle.word_shapes.specs.{streams.Stream.{preceding}, declared.streams.column.Column.{Column}}
pub use Rattle.word_shapes.specs.declared.streams.{copying.Copying.{Copying}, reading.Reading.{Reading}}
pub use Rattle.word_shapes.specs.declared.streams.{rounds.Bank.{Bank}}
pub use Rattle.adc_machine.specs.{Checks.{answer_refused, Circumstances, facts_by, has_notification, is_triggered}}
pub use Rattle.adc_machine.specs.{Checks.{service_of, zero_null}, Configured.{four_from, next_of, ranks_of, unit_of}}
pub use Rattle.adc_machine.specs.{Groups.{inputs_of, is_continuous, is_full, samples_of, suspends, trigger_input}}
pub use Rattle.adc_machine.specs.{Machine.{reporting, takes_one}, Table.{group_of}, Turns.{is_on, rank_of}}
pub use Rattle.adc_machine.specs.{Words.{buffer_number}, declared.call.Call.{Call}}
pub use Rattle.adc_machine.specs.{declared.call.Call.TheVariants.{DeInit, Group, Init}}
pub use Rattle.adc_machine.specs.{declared.call.GroupCall.{GroupCall}, declared.call.ResultBuffer.{ResultBuffer}}
pub use Rattle.adc_machine.specs.{declared.table.AdcTable.{AdcTable}}
pub use Rattle.adc_groups.specs.{Stored.{bit, entry, group_in, is_under_way, order_of, phase_in, phase_number}}
pub use Rattle.adc_groups.specs.{Stored.{phase_read, rounds_of, word_number}, declared.asked.Asked.{Asked}}
pub use Rattle.adc_groups.specs.{declared.body.AdcBody.{AdcBody}, declared.body.Decided.{Decided}}
pub use Rattle.adc_groups.specs.{declared.body.Decided.TheVariants.{Ends, Goes}, declared.body.Place.{Place}}
pub use Rattle.adc_groups.specs.{declared.body.Place.TheVariants.{Aborts, Chooses, Flag, Looks, Makes, Opens, Out}}
pub use Rattle.adc_groups.specs.{declared.body.Place.TheVariants.{Pins, Quits, Reads, Seeks, Surveys}}
pub use Rattle.adc_groups.specs.{declared.making.Continuation.{Continuation}}
pub use Rattle.adc_groups.specs.{declared.making.StructureOp.{StructureOp}}
pub use Rattle.adc_groups.specs.{declared.making.StructureOp.TheVariants.{Add, Again, Drop, Next}}
pub use Rattle.adc_groups.specs.{declared.making.WindowWrite.{WindowWrite}}
pub use Rattle.adc_groups.specs.{declared.making.WindowWrite.TheVariants.{Abort, Disable, Set}}
pub use Rattle.adc_groups.specs.{declared.making.WriteBatch.{WriteBatch}, declared.outside.Copied.{Copied}}
pub use Rattle.adc_groups.specs.{declared.outside.Copied.TheVariants.{Keeps, Serves, Tells}}
pub use Rattle.adc_groups.specs.{declared.outside.Outside.{Outside}, declared.outside.Outside.TheVariants.{Closes}}
pub use Rattle.adc_groups.specs.{declared.outside.Outside.TheVariants.{Copies, Counts}}
pub use Rattle.adc_groups.specs.{declared.outside.Suspended.{Suspended}, declared.outside.Taken.{Taken}}
pub use Rattle.adc_groups.specs.{declared.service.module.InitBody.{InitBody}, declared.service.module.Setup.{Setup}}
pub use Rattle.adc_groups.specs.{declared.service.read.Newest.{Newest}, declared.service.read.Stage.{Stage}}
pub use Rattle.adc_groups.specs.{declared.service.read.Stage.TheVariants.{Leaves, Over, Releases, Shuts}}
pub use Rattle.adc_groups.specs.{declared.service.serve.RoundSeen.{RoundSeen}}
pub use Rattle.adc_groups.specs.{declared.service.stop.StopSeen.{StopSeen}, declared.window.Window.{Window}}
pub use Rattle.adc_groups.specs.{declared.words.Phase.{Phase}, declared.words.TheConstants.{LINES, STATE}}
pub use Rattle.adc_groups.specs.{declared.words.Word.{Word}}
