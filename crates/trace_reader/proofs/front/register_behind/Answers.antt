use Rattle.trace_reader.proofs.front.register_behind.Goals as goal

pub returns-in-84 : goal.returns-in-84
returns-in-84 c = rw c.in-84.is c.timer.ensures

pub returns-in-80 : goal.returns-in-80
returns-in-80 c = rw c.in-80.is c.pulse.ensures

pub returns-in-67 : goal.returns-in-67
returns-in-67 c = rw c.in-67.is c.capture.ensures

pub returns-in-65 : goal.returns-in-65
returns-in-65 c = rw c.in-65.is c.converter.ensures

pub returns-in-83 : goal.returns-in-83
returns-in-83 c = rw c.in-83.is c.serial.ensures

pub returns-in-68 : goal.returns-in-68
returns-in-68 c = rw c.in-68.is c.pin.ensures

pub returns-in-81 : goal.returns-in-81
returns-in-81 c = rw c.in-81.is c.port.ensures

pub returns-in-70 : goal.returns-in-70
returns-in-70 c = rw c.in-70.is c.flip.ensures

pub returns-in-82 : goal.returns-in-82
returns-in-82 c = rw c.in-82.is c.ram.ensures

pub returns-in-73 : goal.returns-in-73
returns-in-73 c = rw c.in-73.is c.enable.ensures

pub returns-in-77 : goal.returns-in-77
returns-in-77 c = rw c.in-77.is c.clock.ensures

pub returns-in-87 : goal.returns-in-87
returns-in-87 c = rw c.in-87.is c.watchdog.ensures
