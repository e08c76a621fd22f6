use Rattle.std.proofs.Common.{ap, sym}
use Rattle.bench_report.specs.Registers.{register_text}
use Rattle.bench_report.proofs.registers.parts_of.Goals as goal

pub returns-in-EnableSet : goal.returns-in-EnableSet
returns-in-EnableSet c = sym (ap register_text c.in-EnableSet.is)

pub returns-in-EnableClear : goal.returns-in-EnableClear
returns-in-EnableClear c = sym (ap register_text c.in-EnableClear.is)

pub returns-in-TimerTarget : goal.returns-in-TimerTarget
unfolding lib.Utf8.encode
returns-in-TimerTarget c = sym (ap register_text c.in-TimerTarget.is)

pub returns-in-TimerPrescaler : goal.returns-in-TimerPrescaler
unfolding lib.Utf8.encode
returns-in-TimerPrescaler c = sym (ap register_text c.in-TimerPrescaler.is)

pub returns-in-TimerOneShot : goal.returns-in-TimerOneShot
returns-in-TimerOneShot c = sym (ap register_text c.in-TimerOneShot.is)

pub returns-in-TimerGateSet : goal.returns-in-TimerGateSet
returns-in-TimerGateSet c = sym (ap register_text c.in-TimerGateSet.is)

pub returns-in-TimerGateClear : goal.returns-in-TimerGateClear
returns-in-TimerGateClear c = sym (ap register_text c.in-TimerGateClear.is)

pub returns-in-TimerRun : goal.returns-in-TimerRun
returns-in-TimerRun c = sym (ap register_text c.in-TimerRun.is)

pub returns-in-TimerFlags : goal.returns-in-TimerFlags
returns-in-TimerFlags c = sym (ap register_text c.in-TimerFlags.is)

pub returns-in-TimerZero : goal.returns-in-TimerZero
returns-in-TimerZero c = sym (ap register_text c.in-TimerZero.is)

pub returns-in-TimerLow : goal.returns-in-TimerLow
unfolding lib.Utf8.encode
returns-in-TimerLow c = sym (ap register_text c.in-TimerLow.is)

pub returns-in-TimerHigh : goal.returns-in-TimerHigh
unfolding lib.Utf8.encode
returns-in-TimerHigh c = sym (ap register_text c.in-TimerHigh.is)

pub returns-in-PulsePeriod : goal.returns-in-PulsePeriod
unfolding lib.Utf8.encode
returns-in-PulsePeriod c = sym (ap register_text c.in-PulsePeriod.is)

pub returns-in-PulseDuty : goal.returns-in-PulseDuty
unfolding lib.Utf8.encode
returns-in-PulseDuty c = sym (ap register_text c.in-PulseDuty.is)

pub returns-in-PulsePolarity : goal.returns-in-PulsePolarity
unfolding lib.Utf8.encode
returns-in-PulsePolarity c = sym (ap register_text c.in-PulsePolarity.is)

pub returns-in-PulseCommit : goal.returns-in-PulseCommit
unfolding lib.Utf8.encode
returns-in-PulseCommit c = sym (ap register_text c.in-PulseCommit.is)

pub returns-in-PulseIdle : goal.returns-in-PulseIdle
unfolding lib.Utf8.encode
returns-in-PulseIdle c = sym (ap register_text c.in-PulseIdle.is)

pub returns-in-PulseOut : goal.returns-in-PulseOut
unfolding lib.Utf8.encode
returns-in-PulseOut c = sym (ap register_text c.in-PulseOut.is)

pub returns-in-PulseEdges : goal.returns-in-PulseEdges
returns-in-PulseEdges c = sym (ap register_text c.in-PulseEdges.is)

pub returns-in-PulseFlags : goal.returns-in-PulseFlags
returns-in-PulseFlags c = sym (ap register_text c.in-PulseFlags.is)

pub returns-in-CaptureCondition : goal.returns-in-CaptureCondition
unfolding lib.Utf8.encode
returns-in-CaptureCondition c = sym (ap register_text c.in-CaptureCondition.is)

pub returns-in-CaptureMode : goal.returns-in-CaptureMode
unfolding lib.Utf8.encode
returns-in-CaptureMode c = sym (ap register_text c.in-CaptureMode.is)

pub returns-in-CaptureGateSet : goal.returns-in-CaptureGateSet
returns-in-CaptureGateSet c = sym (ap register_text c.in-CaptureGateSet.is)

pub returns-in-CaptureGateClear : goal.returns-in-CaptureGateClear
returns-in-CaptureGateClear c = sym (ap register_text c.in-CaptureGateClear.is)

pub returns-in-CaptureCountLow : goal.returns-in-CaptureCountLow
unfolding lib.Utf8.encode
returns-in-CaptureCountLow c = sym (ap register_text c.in-CaptureCountLow.is)

pub returns-in-CaptureCountHigh : goal.returns-in-CaptureCountHigh
unfolding lib.Utf8.encode
returns-in-CaptureCountHigh c = sym (ap register_text c.in-CaptureCountHigh.is)

pub returns-in-CaptureZero : goal.returns-in-CaptureZero
unfolding lib.Utf8.encode
returns-in-CaptureZero c = sym (ap register_text c.in-CaptureZero.is)

pub returns-in-CaptureTimeLow : goal.returns-in-CaptureTimeLow
unfolding lib.Utf8.encode
returns-in-CaptureTimeLow c = sym (ap register_text c.in-CaptureTimeLow.is)

pub returns-in-CaptureTimeHigh : goal.returns-in-CaptureTimeHigh
unfolding lib.Utf8.encode
returns-in-CaptureTimeHigh c = sym (ap register_text c.in-CaptureTimeHigh.is)

pub returns-in-CaptureInfo : goal.returns-in-CaptureInfo
unfolding lib.Utf8.encode
returns-in-CaptureInfo c = sym (ap register_text c.in-CaptureInfo.is)

pub returns-in-CapturePop : goal.returns-in-CapturePop
unfolding lib.Utf8.encode
returns-in-CapturePop c = sym (ap register_text c.in-CapturePop.is)

pub returns-in-CaptureFlush : goal.returns-in-CaptureFlush
unfolding lib.Utf8.encode
returns-in-CaptureFlush c = sym (ap register_text c.in-CaptureFlush.is)

pub returns-in-ConverterList : goal.returns-in-ConverterList
unfolding lib.Utf8.encode
returns-in-ConverterList c = sym (ap register_text c.in-ConverterList.is)

pub returns-in-ConverterGo : goal.returns-in-ConverterGo
unfolding lib.Utf8.encode
returns-in-ConverterGo c = sym (ap register_text c.in-ConverterGo.is)

pub returns-in-ConverterState : goal.returns-in-ConverterState
unfolding lib.Utf8.encode
returns-in-ConverterState c = sym (ap register_text c.in-ConverterState.is)

pub returns-in-ConverterResult : goal.returns-in-ConverterResult
unfolding lib.Utf8.encode
returns-in-ConverterResult c = sym (ap register_text c.in-ConverterResult.is)

pub returns-in-ConverterDone : goal.returns-in-ConverterDone
unfolding lib.Utf8.encode
returns-in-ConverterDone c = sym (ap register_text c.in-ConverterDone.is)

pub returns-in-ConverterAbort : goal.returns-in-ConverterAbort
unfolding lib.Utf8.encode
returns-in-ConverterAbort c = sym (ap register_text c.in-ConverterAbort.is)

pub returns-in-ConverterAck : goal.returns-in-ConverterAck
unfolding lib.Utf8.encode
returns-in-ConverterAck c = sym (ap register_text c.in-ConverterAck.is)

pub returns-in-TriggerSet : goal.returns-in-TriggerSet
returns-in-TriggerSet c = sym (ap register_text c.in-TriggerSet.is)

pub returns-in-TriggerClear : goal.returns-in-TriggerClear
returns-in-TriggerClear c = sym (ap register_text c.in-TriggerClear.is)

pub returns-in-TriggerFlags : goal.returns-in-TriggerFlags
returns-in-TriggerFlags c = sym (ap register_text c.in-TriggerFlags.is)

pub returns-in-SerialSelect : goal.returns-in-SerialSelect
unfolding lib.Utf8.encode
returns-in-SerialSelect c = sym (ap register_text c.in-SerialSelect.is)

pub returns-in-SerialWidth : goal.returns-in-SerialWidth
unfolding lib.Utf8.encode
returns-in-SerialWidth c = sym (ap register_text c.in-SerialWidth.is)

pub returns-in-SerialData : goal.returns-in-SerialData
unfolding lib.Utf8.encode
returns-in-SerialData c = sym (ap register_text c.in-SerialData.is)

pub returns-in-SerialReceived : goal.returns-in-SerialReceived
unfolding lib.Utf8.encode
returns-in-SerialReceived c = sym (ap register_text c.in-SerialReceived.is)

pub returns-in-SerialState : goal.returns-in-SerialState
unfolding lib.Utf8.encode
returns-in-SerialState c = sym (ap register_text c.in-SerialState.is)

pub returns-in-SerialWait : goal.returns-in-SerialWait
unfolding lib.Utf8.encode
returns-in-SerialWait c = sym (ap register_text c.in-SerialWait.is)

pub returns-in-SerialAck : goal.returns-in-SerialAck
unfolding lib.Utf8.encode
returns-in-SerialAck c = sym (ap register_text c.in-SerialAck.is)

pub returns-in-PinDirectionSet : goal.returns-in-PinDirectionSet
returns-in-PinDirectionSet c = sym (ap register_text c.in-PinDirectionSet.is)

pub returns-in-PinDirectionClear : goal.returns-in-PinDirectionClear
returns-in-PinDirectionClear c = sym (ap register_text c.in-PinDirectionClear.is)

pub returns-in-PinOutSet : goal.returns-in-PinOutSet
returns-in-PinOutSet c = sym (ap register_text c.in-PinOutSet.is)

pub returns-in-PinOutClear : goal.returns-in-PinOutClear
returns-in-PinOutClear c = sym (ap register_text c.in-PinOutClear.is)

pub returns-in-PinMode : goal.returns-in-PinMode
unfolding lib.Utf8.encode
returns-in-PinMode c = sym (ap register_text c.in-PinMode.is)

pub returns-in-PortPut : goal.returns-in-PortPut
unfolding lib.Utf8.encode
returns-in-PortPut c = sym (ap register_text c.in-PortPut.is)

pub returns-in-PortLevels : goal.returns-in-PortLevels
unfolding lib.Utf8.encode
returns-in-PortLevels c = sym (ap register_text c.in-PortLevels.is)

pub returns-in-PinFlip : goal.returns-in-PinFlip
unfolding lib.Utf8.encode
returns-in-PinFlip c = sym (ap register_text c.in-PinFlip.is)

pub returns-in-ClockPll : goal.returns-in-ClockPll
returns-in-ClockPll c = sym (ap register_text c.in-ClockPll.is)

pub returns-in-ClockLock : goal.returns-in-ClockLock
returns-in-ClockLock c = sym (ap register_text c.in-ClockLock.is)

pub returns-in-ClockRate : goal.returns-in-ClockRate
returns-in-ClockRate c = sym (ap register_text c.in-ClockRate.is)

pub returns-in-ResetReason : goal.returns-in-ResetReason
returns-in-ResetReason c = sym (ap register_text c.in-ResetReason.is)

pub returns-in-ResetRequest : goal.returns-in-ResetRequest
returns-in-ResetRequest c = sym (ap register_text c.in-ResetRequest.is)

pub returns-in-WatchdogLoad : goal.returns-in-WatchdogLoad
returns-in-WatchdogLoad c = sym (ap register_text c.in-WatchdogLoad.is)

pub returns-in-Ram : goal.returns-in-Ram
returns-in-Ram c = sym (ap register_text c.in-Ram.is)
