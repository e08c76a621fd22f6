use Rattle.audit_serial.proofs.Terms.{ap, arith, drop, kept_all, length, map, min, next_kept, none_kept, refl, sym, word_as, ◌+◌, ◌<◌, ◌∙◌, ◌≤◌}
use Rattle.audit_serial.proofs.channels.Channels.keep_all.Goals as goal

pub loop-place-init : goal.loop-place-init
loop-place-init c = refl

pub loop-place-preserved : goal.loop-place-preserved
loop-place-preserved c =
    let k = c.loop-place.place in
    let ws = c.args.words.now in
    let vs = c.args.values.now in
    let less : k < min (length ws) (length vs) = omega arith in
    ap (λ zs. kept_all zs (map word_as (drop (k + 1) ws)) (drop (k + 1) vs)) c.in_ok-keep.ensures
    ∙ (sym (next_kept c.loop-place.self ws vs k _ 0 (omega (arith, less)) (omega (arith, less))) ∙ c.loop-place.invariant)

pub returns : goal.returns
returns c =
    let k = c.loop-place.place in
    let ws = c.args.words.now in
    let vs = c.args.values.now in
    let all : min (length ws) (length vs) ≤ k = omega arith in
    sym (none_kept c.loop-place.self ws vs k all) ∙ c.loop-place.invariant
