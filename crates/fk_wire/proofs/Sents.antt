-- The texts of a sent request are read back.
use Rattle.std.proofs.Common.{refl}
use Rattle.json.proofs.Printed.Utf8.{IsUtf8-are_ascii as utf8_key}
use Rattle.fk_wire.specs.SentText.{CanSaySent, IsSent, sent_data, sent_from}
use Rattle.fk_wire.proofs.Requests.{request_back, request_fit}
use Rattle.fk_wire.proofs.Texts.{ReadsBack}
use Rattle.fk_wire.proofs.Values.{number_back, number_fit, version_back, version_fit}

pub sents : ReadsBack IsSent CanSaySent sent_data sent_from
sents = record {
  fit = λ v m h s. (utf8_key _ refl, request_fit 123 m.request h.0.0 h.1, (utf8_key _ refl, number_fit m.seen h.0.1, (utf8_key _ refl, version_fit v, tt)));
  version = λ v m. version_back v;
  back = λ v m h s. rw (request_back v m.request h.0.0 h.1 s, number_back m.seen h.0.1) refl;
}
