-- Each body as one of the driver's bodies.
-- Used by Look, Lawful, service/rt, Windows, mcal_drivers: Frames.
use Rattle.pwm_driver.specs.Terms
use Terms.{DeInitBody, First, InitBody, NotifyBody, Opens, Or, OutputBody, RestBody, Second, ServeBody, Setup, Sweep}

-- a place in any body of the driver
abbrev pub PwmBody : Type 0
PwmBody = Or (Or (Sweep Setup InitBody) DeInitBody) (Or (Or OutputBody (Or RestBody NotifyBody)) ServeBody)

abbrev pub init_body : Setup → PwmBody
init_body r = First (First (record { objects = r; place = Opens }))

abbrev pub deinit_body : DeInitBody → PwmBody
deinit_body k = First (Second k)

abbrev pub output_body : OutputBody → PwmBody
output_body k = Second (First (First k))

abbrev pub rest_body : RestBody → PwmBody
rest_body k = Second (First (Second (First k)))

abbrev pub notify_body : NotifyBody → PwmBody
notify_body k = Second (First (Second (Second k)))

abbrev pub serve_body : ServeBody → PwmBody
serve_body k = Second (Second k)
