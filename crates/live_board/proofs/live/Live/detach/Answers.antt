use Rattle.std.proofs.Common.{ap, arith}
use Rattle.live_board.proofs.live.Live.detach.Goals as goal

pub count_off-requires : goal.count_off-requires
count_off-requires g c = omega (arith, ap (λ v. v.devices) c.self.view_is)
