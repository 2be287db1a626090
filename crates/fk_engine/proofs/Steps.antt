-- Services that are the same, one by one, are the same.
use Rattle.std.proofs.Common.{◌≡◌}
use Rattle.fk_watch.specs.Services.{Services}

pub same_services : (s t : Services) → s.table ≡ t.table → s.post ≡ t.post → s.watches ≡ t.watches → s.user ≡ t.user → s ≡ t
same_services s t a b c d = λ i. record { table = a i; post = b i; watches = c i; user = d i }
