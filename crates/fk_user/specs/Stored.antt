-- What a user store keeps.
use Rattle.fk_user.specs.declared.user_store.UserStore.{UserStore}
use Rattle.fk_user.specs.Meaning.{Meaning}
use Rattle.fk_user.specs.Records.{record_in}

abbrev pub store_of : UserStore → Meaning
store_of s = record {
  records = record_in s.records;
  mark = s.mark;
  epoch = s.epoch;
  armed = s.armed;
  faults = s.faults;
}
