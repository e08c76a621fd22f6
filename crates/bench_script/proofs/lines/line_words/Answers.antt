use Rattle.std.proofs.Common.{◌≡◌, ◌∙◌, ◌<◌, ◌+◌, ◌∷◌, arith, true, false, refl, sym, ap, length, drop, get_or}
use Rattle.std.proofs.lemmas.Bool.Decides.{nat_tests}
use Rattle.std.proofs.lemmas.List.{take_rest}
use Rattle.bench_script.specs.Lines.{is_blank}
use Rattle.bench_script.specs.Scanned.{begins, is_letter, after_line}
use Rattle.bench_script.proofs.Line.{letter_on, letter_stays, blank_stays, after_on, byte_at, begins_at, kept_to, blank_kept, line_ends, none_after, text_ends}
use Rattle.bench_script.proofs.lines.line_words.Goals as goal
use Rattle.bench_script.proofs.lines.line_words.Goals.{then-not-is_letter+in_ok-keep_word+else-not-is_blank, else-not-is_letter}

pub returns-then-not-is_blank : goal.returns-then-not-is_blank
returns-then-not-is_blank c =
    let i = c.loop-place.invariant in
    let within : c.loop-place.place < length c.args.text.now = grind (arith, nat_tests, c.loop-place-test.true) in
    let other : begins is_letter (drop c.loop-place.place c.args.text.now) ≡ false = begins_at is_letter c.args.text.now c.loop-place.place within ∙ (sym c.is_letter.ensures ∙ c.if-not-is_letter.true) in
    let there = byte_at c.args.text.now c.loop-place.place within in
    let kept = kept_to (λ w. w.now) c.loop-place.words.items c.keep_word.new.words.items c.args.text.now c.loop-place.start c.loop-place.place i.before i.word i.read c.in_ok-keep_word.ensures other in
    let end = rw (take_rest c.args.text.now (c.loop-place.place + 1)) at c.after_end.ensures in
    line_ends (λ w. w.now) c.keep_word.new.words.items c.args.text.now (get_or c.args.text.now c.loop-place.place 0 ∷ drop (c.loop-place.place + 1) c.args.text.now) c.after_end.result (rw there at kept) (i.after ∙ ap after_line there) end

pub loop-place-preserved : goal.loop-place-preserved
loop-place-preserved c =
    let i = c.loop-place.invariant in
    let within : c.loop-place.place < length c.args.text.now = grind (arith, nat_tests, c.loop-place-test.true) in
    elim c.if-not-is_letter.branch [
      | then-not-is_letter+in_ok-keep_word+else-not-is_blank w ↦
          let other : begins is_letter (drop c.loop-place.place c.args.text.now) ≡ false = begins_at is_letter c.args.text.now c.loop-place.place within ∙ (sym c.is_letter.ensures ∙ w.if-not-is_letter.true) in
          let blank : is_blank (get_or c.args.text.now c.loop-place.place 0) ≡ true = sym w.is_blank.ensures ∙ w.if-not-is_blank.false in
          let kept = kept_to (λ w. w.now) c.loop-place.words.items w.keep_word.new.words.items c.args.text.now c.loop-place.start c.loop-place.place i.before i.word i.read w.in_ok-keep_word.ensures other in
          rw (w.start-is, w.words-is) (record {
            before = omega arith;
            within = omega arith;
            word = refl;
            read = blank_kept (λ w. w.now) w.keep_word.new.words.items c.args.text.now c.loop-place.place kept within blank;
            after = i.after ∙ after_on c.args.text.now c.loop-place.place within (blank_stays _ blank);
          })
      | else-not-is_letter w ↦
          let letter : is_letter (get_or c.args.text.now c.loop-place.place 0) ≡ true = sym c.is_letter.ensures ∙ w.if-not-is_letter.false in
          rw (w.start-is, w.words-is) (record {
            before = omega arith;
            within = omega arith;
            word = letter_on c.args.text.now c.loop-place.start c.loop-place.place within letter i.word;
            read = i.read;
            after = i.after ∙ after_on c.args.text.now c.loop-place.place within (letter_stays _ letter);
          })
    ]

pub returns : goal.returns
returns c =
    let i = c.loop-place.invariant in
    let end : c.loop-place.place ≡ length c.args.text.now = grind (arith, nat_tests, i.within, c.loop-place-test.false) in
    let kept = kept_to (λ w. w.now) c.loop-place.words.items c.keep_word-2.new.words.items c.args.text.now c.loop-place.start (length c.args.text.now) (rw end at i.before) (rw end at i.word) i.read c.in_ok-keep_word-2.ensures (none_after c.args.text.now) in
    text_ends (λ w. w.now) c.keep_word-2.new.words.items c.args.text.now kept (rw end at i.after)
