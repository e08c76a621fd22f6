use Rattle.std.proofs.Common.{◌<◌, arith, length, ap}
use Rattle.run_model.proofs.Numbers.{length-items_of, numbered_none, items_none}
use Rattle.run_model.proofs.items.Items.push.Goals as goal

pub push_reserved-requires : goal.push_reserved-requires
push_reserved-requires c =
    let room : length c.self.inside.kept.items < c.self.inside.room = rw length-items_of at (rw (← c.self.view_is) at c.requires.room) in
    omega (arith, room, c.self.inside.kept.ok.0, c.self.invariant.1)

pub invariant_of-self : goal.invariant_of-self
invariant_of-self c =
    let room : length c.self.inside.kept.items < c.self.inside.room = rw length-items_of at (rw (← c.self.view_is) at c.requires.room) in
    rw (c.push_reserved.ensures.items, c.push_reserved.ensures.len, c.push_reserved.ensures.capacity) (
      omega (arith, room, c.self.inside.kept.ok.0),
      c.self.invariant.1,
      omega (arith, c.self.invariant.2),
      c.self.invariant.3,
      numbered_none _ c.self.inside.kept.items _ c.self.invariant.4 c.requires.plain,
    )

pub returns : goal.returns
returns c =
    rw (c.push_reserved.ensures.items, ← c.self.view_is)
    (ap (λ is. record { items = is; room = c.self.inside.room }) (items_none c.self.inside.rests.rests c.self.inside.kept.items _ c.requires.plain))
