-- What is fit on services stays so where they are armed.
use Rattle.std.proofs.Common.{Option, Some, None}
use Rattle.fk_client.specs.Fit.{IsFit as ClientIsFit}
use Rattle.fk_client.specs.Meaning as client
use Rattle.fk_engine.specs.declared.times.Times.{Times}
use Rattle.fk_engine.specs.Fit.{FitsTurnOf}
use Rattle.fk_engine.specs.Machines.{IsFit, Meaning, Follower, Leader, Teller, Beat}
use Rattle.fk_engine.specs.Serving.{armed}
use Rattle.fk_engine.specs.Stepping.{FitsStepOf}
use Rattle.fk_watch.specs.Services.{Services}

machine_armed : (s : Services) (t : Times) (m : Meaning) → IsFit s t m → IsFit (armed s) t m
machine_armed s t (Follower m) f = record {
  going = f.going;
  first = f.first;
  kept = f.kept;
  session = record { table = f.session.table; post = f.session.post; pushes = f.session.pushes; inbox = f.session.inbox };
  limits = f.limits;
}
machine_armed s t (Leader m) f = record {
  going = f.going;
  first = f.first;
  session = record { table = f.session.table; post = f.session.post; notes = f.session.notes; inbox = f.session.inbox };
  limits = f.limits;
}
machine_armed s t (Teller m) f = record {
  going = f.going;
  tx = f.tx;
  next = λ firing others e. record { id = (f.next firing others e).id; session = (f.next firing others e).session; inbox = (f.next firing others e).inbox };
}
machine_armed s t (Beat m) f = record {
  going = f.going;
  inv = f.inv;
  session = record { table = f.session.table; post = f.session.post; requests = f.session.requests; inbox = f.session.inbox };
}

pub step_armed : (s : Services) (t : Times) (o : Option Meaning) → FitsStepOf s t o → FitsStepOf (armed s) t o
step_armed s t None f = tt
step_armed s t (Some m) f = machine_armed s t m f

client_armed : (s : Services) (m : client.Meaning) → ClientIsFit s.table s.post s.watches m → ClientIsFit (armed s).table (armed s).post (armed s).watches m
client_armed s m f = record {
  busy = f.busy;
  table = f.table;
  post = f.post;
  inbox = f.inbox;
  sends = f.sends;
  watches = f.watches;
  seen = f.seen;
  request = f.request;
}

pub turn_armed : (s : Services) (o : Option client.Meaning) → FitsTurnOf s o → FitsTurnOf (armed s) o
turn_armed s None f = tt
turn_armed s (Some m) f = record { session = f.session; turn = λ e. client_armed s m (f.turn e) }
