-- Each body as one of the driver's bodies.
-- Used by Look, Lawful, service/rt, mcal_drivers: Frames.
use Rattle.port_driver.specs.Terms
use Terms.{First, InitDone, Opens, Or, PinBody, RefreshBody, Second, Setup, Sweep}

-- a place in any body of the driver
abbrev pub PortBody : Type 0
PortBody = Or (Sweep Setup InitDone) (Or RefreshBody PinBody)

abbrev pub init_body : Setup → PortBody
init_body a = First (record { objects = a; place = Opens })

abbrev pub refresh_body : RefreshBody → PortBody
refresh_body k = Second (First k)

abbrev pub pin_body : PinBody → PortBody
pin_body k = Second (Second k)
