use Rattle.std.proofs.Common.{◌≡◌, ◌==◌, false, refl, arith}
use Rattle.std.proofs.lemmas.Bool.Decides.{nat_tests}
use Rattle.bench_script.proofs.Fronts.{none_begin}
use Rattle.bench_script.proofs.services.services_under.Goals as goal

pub returns-in-77 : goal.returns-in-77
returns-in-77 c = rw c.in-77.is c.mcu_services.ensures

pub returns-in-80 : goal.returns-in-80
returns-in-80 c = rw c.in-80.is c.port_or_pwm_services.ensures

pub returns-in-71 : goal.returns-in-71
returns-in-71 c = rw c.in-71.is c.gpt_services.ensures

pub returns-in-73 : goal.returns-in-73
returns-in-73 c = rw c.in-73.is c.icu_services.ensures

pub returns-in-65 : goal.returns-in-65
returns-in-65 c = rw c.in-65.is c.adc_services.ensures

pub returns-in-83 : goal.returns-in-83
returns-in-83 c = rw c.in-83.is c.spi_services.ensures

pub returns-in-68 : goal.returns-in-68
returns-in-68 c = rw c.in-68.is c.dio_services.ensures

pub returns-in-87 : goal.returns-in-87
returns-in-87 c = rw c.in-87.is c.wdg_services.ensures

pub returns-in_default : goal.returns-in_default
returns-in_default c = λ rest e.
    let not-77 : (c.args.letter == 77) ≡ false = grind (arith, nat_tests, c.in_default) in
    let not-80 : (c.args.letter == 80) ≡ false = grind (arith, nat_tests, c.in_default) in
    let not-71 : (c.args.letter == 71) ≡ false = grind (arith, nat_tests, c.in_default) in
    let not-73 : (c.args.letter == 73) ≡ false = grind (arith, nat_tests, c.in_default) in
    let not-65 : (c.args.letter == 65) ≡ false = grind (arith, nat_tests, c.in_default) in
    let not-83 : (c.args.letter == 83) ≡ false = grind (arith, nat_tests, c.in_default) in
    let not-68 : (c.args.letter == 68) ≡ false = grind (arith, nat_tests, c.in_default) in
    let not-87 : (c.args.letter == 87) ≡ false = grind (arith, nat_tests, c.in_default) in
    none_begin c.args.letter (rw (not-77, not-80, not-71, not-73, not-65, not-83, not-68, not-87) refl) rest
