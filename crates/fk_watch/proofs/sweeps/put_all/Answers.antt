use Rattle.fk_watch.proofs.Touching.{touch_placed}
use Rattle.fk_watch.proofs.sweeps.put_all.Goals as goal

pub put-requires : goal.put-requires
put-requires c = touch_placed c.args.touches.now c.putting.touch-index c.touch-item.result c.args.sweeps.now.entries c.putting.sweeps.entries c.putting-test.true c.touch-item.is c.requires c.putting.invariant.1
