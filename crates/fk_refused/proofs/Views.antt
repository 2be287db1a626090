-- Views that go back, and are refused.
use Rattle.std.proofs.lemmas.Bool.{false≢true}
use Rattle.fk_refused.specs.Views.{OlderMissing, OlderRead, ReadBehindANotice, ReadBehindARead, ReadBehindAnExpiry}

pub older_read : OlderRead
older_read r = false≢true r.0

pub older_missing : OlderMissing
older_missing r = false≢true r.0

pub read_behind_a_notice : ReadBehindANotice
read_behind_a_notice r = false≢true r.1.0

pub read_behind_an_expiry : ReadBehindAnExpiry
read_behind_an_expiry r = false≢true r.0

pub read_behind_a_read : ReadBehindARead
read_behind_a_read r = false≢true r.0
