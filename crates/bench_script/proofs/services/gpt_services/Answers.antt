use Rattle.std.proofs.Common.{◌≡◌, ◌==◌, false, refl, arith}
use Rattle.std.proofs.lemmas.Bool.Decides.{nat_tests}
use Rattle.bench_script.proofs.Fronts.{of_length, none_so_long}
use Rattle.bench_script.proofs.services.gpt_services.Goals as goal

pub returns-in-8 : goal.returns-in-8
returns-in-8 c = rw c.in-8.is (λ rest e. of_length 71 8 rest e)

pub returns-in-10 : goal.returns-in-10
returns-in-10 c = rw c.in-10.is (λ rest e. of_length 71 10 rest e)

pub returns-in-11 : goal.returns-in-11
returns-in-11 c = rw c.in-11.is (λ rest e. of_length 71 11 rest e)

pub returns-in-13 : goal.returns-in-13
returns-in-13 c = rw c.in-13.is (λ rest e. of_length 71 13 rest e)

pub returns-in-14 : goal.returns-in-14
returns-in-14 c = rw c.in-14.is (λ rest e. of_length 71 14 rest e)

pub returns-in-15 : goal.returns-in-15
returns-in-15 c = rw c.in-15.is (λ rest e. of_length 71 15 rest e)

pub returns-in-16 : goal.returns-in-16
returns-in-16 c = rw c.in-16.is (λ rest e. of_length 71 16 rest e)

pub returns-in-17 : goal.returns-in-17
returns-in-17 c = rw c.in-17.is (λ rest e. of_length 71 17 rest e)

pub returns-in-18 : goal.returns-in-18
returns-in-18 c = rw c.in-18.is (λ rest e. of_length 71 18 rest e)

pub returns-in-20 : goal.returns-in-20
returns-in-20 c = rw c.in-20.is (λ rest e. of_length 71 20 rest e)

pub returns-in-22 : goal.returns-in-22
returns-in-22 c = rw c.in-22.is (λ rest e. of_length 71 22 rest e)

pub returns-in-23 : goal.returns-in-23
returns-in-23 c = rw c.in-23.is (λ rest e. of_length 71 23 rest e)

pub returns-in_default : goal.returns-in_default
returns-in_default c = λ rest e.
    let not-8 : (c.args.letters == 8) ≡ false = grind (arith, nat_tests, c.in_default) in
    let not-10 : (c.args.letters == 10) ≡ false = grind (arith, nat_tests, c.in_default) in
    let not-11 : (c.args.letters == 11) ≡ false = grind (arith, nat_tests, c.in_default) in
    let not-13 : (c.args.letters == 13) ≡ false = grind (arith, nat_tests, c.in_default) in
    let not-14 : (c.args.letters == 14) ≡ false = grind (arith, nat_tests, c.in_default) in
    let not-15 : (c.args.letters == 15) ≡ false = grind (arith, nat_tests, c.in_default) in
    let not-16 : (c.args.letters == 16) ≡ false = grind (arith, nat_tests, c.in_default) in
    let not-17 : (c.args.letters == 17) ≡ false = grind (arith, nat_tests, c.in_default) in
    let not-18 : (c.args.letters == 18) ≡ false = grind (arith, nat_tests, c.in_default) in
    let not-20 : (c.args.letters == 20) ≡ false = grind (arith, nat_tests, c.in_default) in
    let not-22 : (c.args.letters == 22) ≡ false = grind (arith, nat_tests, c.in_default) in
    let not-23 : (c.args.letters == 23) ≡ false = grind (arith, nat_tests, c.in_default) in
    none_so_long 71 c.args.letters (rw (not-8, not-10, not-11, not-13, not-14, not-15, not-16, not-17, not-18, not-20, not-22, not-23) refl) rest e
