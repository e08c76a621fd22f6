use Rattle.sweep_trials.proofs.Putting.{put_together}
use Rattle.sweep_trials.proofs.opened.Opened.placed.Goals as goal

pub returns : goal.returns
returns c = λ p h.
    let s = c.args.self.now in
    let cut = c.in_ok-cut in
    put_together s.before.items s.block.items c.args.placed.now c.args.behind.now s.steps.items p
    c.new-all.result.items c.copy_behind.new.all.items c.copy_behind-2.new.all.items c.copy_behind-3.new.all.items c.copy_behind-4.new.all.items c.copy_behind-5.new.all.items
    c.deref.result.now c.deref-2.result.now c.deref-3.result.now cut.cut.up.items cut.cut.on.items
    c.new-all.ensures.items c.deref.ensures.value c.deref-2.ensures.value c.deref-3.ensures.value (cut.ensures.up p h) (cut.ensures.on p h)
    c.in_ok-copy_behind.ensures c.in_ok-copy_behind-2.ensures c.in_ok-copy_behind-3.ensures c.in_ok-copy_behind-4.ensures c.in_ok-copy_behind-5.ensures
