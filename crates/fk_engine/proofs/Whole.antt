-- Parts that are the same, one by one, are the same.
use Rattle.std.proofs.Common.{◌≡◌}
use Rattle.fk_engine.specs.Parts.{Meaning}

pub same_parts : (p q : Meaning) → p.times ≡ q.times → p.functions ≡ q.functions → p.clients ≡ q.clients → p.services ≡ q.services → p ≡ q
same_parts p q a b c d = λ i. record { times = a i; functions = b i; clients = c i; services = d i }
