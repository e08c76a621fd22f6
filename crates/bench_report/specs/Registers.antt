-- How the registers of the chip are spelled.
use Rattle.std.specs.Prelude.{ℕ, List, ◌++◌, codes, decimal, encode_utf8}
use Rattle.mcal_base.specs.declared.register.Reg.{Reg}
use Rattle.mcal_base.specs.declared.register.Reg.TheVariants as regs
use Rattle.bench_report.specs.declared.registers.Parts.{Parts}
use Rattle.bench_report.specs.declared.registers.Parts.TheVariants as parts

-- a register of a channel, a unit or a pin: a letter, the number, and the name after the point
abbrev pub numbered_register : List ℕ → ℕ → List ℕ → List ℕ
numbered_register letter n name = letter ++ (decimal n ++ name)

-- the parts of a name, as the code has them
abbrev pub parts_text : Parts → List ℕ
parts_text (parts.Plain name) = name.now
parts_text (parts.Ending letters n) = numbered_register letters.now n (codes "")
parts_text (parts.Numbered letter n name) = numbered_register (encode_utf8 letter) n name.now
parts_text (parts.Placed letter n name k) = numbered_register (encode_utf8 letter) n (numbered_register name.now k (codes ""))

-- a register, as the chip names it
abbrev pub register_text : Reg → List ℕ
register_text regs.EnableSet = codes "IE.SET"
register_text regs.EnableClear = codes "IE.CLR"
register_text (regs.TimerTarget c) = numbered_register (codes "T") c (codes ".TARGET")
register_text (regs.TimerPrescaler c) = numbered_register (codes "T") c (codes ".PRE")
register_text regs.TimerOneShot = codes "T.ONESHOT"
register_text regs.TimerGateSet = codes "T.GATESET"
register_text regs.TimerGateClear = codes "T.GATECLR"
register_text regs.TimerRun = codes "T.RUN"
register_text regs.TimerFlags = codes "T.FLAGS"
register_text regs.TimerZero = codes "T.ZERO"
register_text (regs.TimerLow c) = numbered_register (codes "T") c (codes ".LOW")
register_text (regs.TimerHigh c) = numbered_register (codes "T") c (codes ".HIGH")
register_text (regs.PulsePeriod c) = numbered_register (codes "P") c (codes ".PERIOD")
register_text (regs.PulseDuty c) = numbered_register (codes "P") c (codes ".DUTY")
register_text (regs.PulsePolarity c) = numbered_register (codes "P") c (codes ".POL")
register_text (regs.PulseCommit c) = numbered_register (codes "P") c (codes ".COMMIT")
register_text (regs.PulseIdle c) = numbered_register (codes "P") c (codes ".IDLE")
register_text (regs.PulseOut c) = numbered_register (codes "P") c (codes ".OUT")
register_text regs.PulseEdges = codes "P.EDGES"
register_text regs.PulseFlags = codes "P.FLAGS"
register_text (regs.CaptureCondition c) = numbered_register (codes "C") c (codes ".COND")
register_text (regs.CaptureMode c) = numbered_register (codes "C") c (codes ".MODE")
register_text regs.CaptureGateSet = codes "C.GATESET"
register_text regs.CaptureGateClear = codes "C.GATECLR"
register_text (regs.CaptureCountLow c) = numbered_register (codes "C") c (codes ".COUNTLOW")
register_text (regs.CaptureCountHigh c) = numbered_register (codes "C") c (codes ".COUNTHIGH")
register_text (regs.CaptureZero c) = numbered_register (codes "C") c (codes ".ZERO")
register_text (regs.CaptureTimeLow c) = numbered_register (codes "C") c (codes ".TIMELOW")
register_text (regs.CaptureTimeHigh c) = numbered_register (codes "C") c (codes ".TIMEHIGH")
register_text (regs.CaptureInfo c) = numbered_register (codes "C") c (codes ".INFO")
register_text (regs.CapturePop c) = numbered_register (codes "C") c (codes ".POP")
register_text (regs.CaptureFlush c) = numbered_register (codes "C") c (codes ".FLUSH")
register_text (regs.ConverterList u k) = numbered_register (codes "A") u (numbered_register (codes ".LIST") k (codes ""))
register_text (regs.ConverterGo u) = numbered_register (codes "A") u (codes ".GO")
register_text (regs.ConverterState u) = numbered_register (codes "A") u (codes ".STATE")
register_text (regs.ConverterResult u k) = numbered_register (codes "A") u (numbered_register (codes ".RESULT") k (codes ""))
register_text (regs.ConverterDone u) = numbered_register (codes "A") u (codes ".DONE")
register_text (regs.ConverterAbort u) = numbered_register (codes "A") u (codes ".ABORT")
register_text (regs.ConverterAck u) = numbered_register (codes "A") u (codes ".ACK")
register_text regs.TriggerSet = codes "A.TRIGSET"
register_text regs.TriggerClear = codes "A.TRIGCLR"
register_text regs.TriggerFlags = codes "A.TRIGFLAGS"
register_text (regs.SerialSelect u) = numbered_register (codes "S") u (codes ".SELECT")
register_text (regs.SerialWidth u) = numbered_register (codes "S") u (codes ".WIDTH")
register_text (regs.SerialData u) = numbered_register (codes "S") u (codes ".DATA")
register_text (regs.SerialReceived u) = numbered_register (codes "S") u (codes ".RX")
register_text (regs.SerialState u) = numbered_register (codes "S") u (codes ".STATE")
register_text (regs.SerialWait u) = numbered_register (codes "S") u (codes ".WAIT")
register_text (regs.SerialAck u) = numbered_register (codes "S") u (codes ".ACK")
register_text (regs.PinDirectionSet h) = numbered_register (codes "D.DIRSET") h (codes "")
register_text (regs.PinDirectionClear h) = numbered_register (codes "D.DIRCLR") h (codes "")
register_text (regs.PinOutSet h) = numbered_register (codes "D.OUTSET") h (codes "")
register_text (regs.PinOutClear h) = numbered_register (codes "D.OUTCLR") h (codes "")
register_text (regs.PinMode p) = numbered_register (codes "D") p (codes ".MODE")
register_text (regs.PortPut q) = numbered_register (codes "Q") q (codes ".PUT")
register_text (regs.PortLevels q) = numbered_register (codes "Q") q (codes ".IN")
register_text (regs.PinFlip p) = numbered_register (codes "F") p (codes ".FLIP")
register_text regs.ClockPll = codes "M.PLL"
register_text regs.ClockLock = codes "M.LOCK"
register_text regs.ClockRate = codes "M.RATE"
register_text regs.ResetReason = codes "M.REASON"
register_text regs.ResetRequest = codes "M.RESET"
register_text regs.WatchdogLoad = codes "W.LOAD"
register_text (regs.Ram k) = numbered_register (codes "R") k (codes "")
