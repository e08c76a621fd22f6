use Rattle.std.proofs.Common.{◌≡◌, ◌==◌, false, refl, arith}
use Rattle.std.proofs.lemmas.Bool.Decides.{nat_tests}
use Rattle.bench_script.proofs.Fronts.{of_length, none_so_long}
use Rattle.bench_script.proofs.services.adc_services.Goals as goal

pub returns-in-8 : goal.returns-in-8
returns-in-8 c = rw c.in-8.is (λ rest e. of_length 65 8 rest e)

pub returns-in-10 : goal.returns-in-10
returns-in-10 c = rw c.in-10.is (λ rest e. of_length 65 10 rest e)

pub returns-in-13 : goal.returns-in-13
returns-in-13 c = rw c.in-13.is (λ rest e. of_length 65 13 rest e)

pub returns-in-18 : goal.returns-in-18
returns-in-18 c = rw c.in-18.is (λ rest e. of_length 65 18 rest e)

pub returns-in-21 : goal.returns-in-21
returns-in-21 c = rw c.in-21.is (λ rest e. of_length 65 21 rest e)

pub returns-in-23 : goal.returns-in-23
returns-in-23 c = rw c.in-23.is (λ rest e. of_length 65 23 rest e)

pub returns-in-24 : goal.returns-in-24
returns-in-24 c = rw c.in-24.is (λ rest e. of_length 65 24 rest e)

pub returns-in-25 : goal.returns-in-25
returns-in-25 c = rw c.in-25.is (λ rest e. of_length 65 25 rest e)

pub returns-in-26 : goal.returns-in-26
returns-in-26 c = rw c.in-26.is (λ rest e. of_length 65 26 rest e)

pub returns-in-27 : goal.returns-in-27
returns-in-27 c = rw c.in-27.is (λ rest e. of_length 65 27 rest e)

pub returns-in-28 : goal.returns-in-28
returns-in-28 c = rw c.in-28.is (λ rest e. of_length 65 28 rest e)

pub returns-in_default : goal.returns-in_default
returns-in_default c = λ rest e.
    let not-8 : (c.args.letters == 8) ≡ false = grind (arith, nat_tests, c.in_default) in
    let not-10 : (c.args.letters == 10) ≡ false = grind (arith, nat_tests, c.in_default) in
    let not-13 : (c.args.letters == 13) ≡ false = grind (arith, nat_tests, c.in_default) in
    let not-18 : (c.args.letters == 18) ≡ false = grind (arith, nat_tests, c.in_default) in
    let not-21 : (c.args.letters == 21) ≡ false = grind (arith, nat_tests, c.in_default) in
    let not-23 : (c.args.letters == 23) ≡ false = grind (arith, nat_tests, c.in_default) in
    let not-24 : (c.args.letters == 24) ≡ false = grind (arith, nat_tests, c.in_default) in
    let not-25 : (c.args.letters == 25) ≡ false = grind (arith, nat_tests, c.in_default) in
    let not-26 : (c.args.letters == 26) ≡ false = grind (arith, nat_tests, c.in_default) in
    let not-27 : (c.args.letters == 27) ≡ false = grind (arith, nat_tests, c.in_default) in
    let not-28 : (c.args.letters == 28) ≡ false = grind (arith, nat_tests, c.in_default) in
    none_so_long 65 c.args.letters (rw (not-8, not-10, not-13, not-18, not-21, not-23, not-24, not-25, not-26, not-27, not-28) refl) rest e
