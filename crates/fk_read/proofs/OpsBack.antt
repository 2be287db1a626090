-- Each operation reads back from the words of its line.
use Rattle.std.proofs.Common.{◌≡◌, true, List, Some, refl}
use Rattle.std.specs.List.{flat_map}
use Rattle.fk_base.specs.Digits.{number_below}
use Rattle.fk_base.specs.Path.{Name}
use Rattle.fk_print.specs.ClientNames.{are_client_names}
use Rattle.fk_print.specs.OpText.{op_words}
use Rattle.fk_print.specs.WellFormed.{IsOp}
use Rattle.fk_print.specs.declared.op.Op.{Op}
use Rattle.fk_print.specs.declared.op.Op.TheVariants as op
use Rattle.fk_read.specs.Cut.{words_in}
use Rattle.fk_read.specs.ReadOp.{op_of, word_of}
use Rattle.fk_read.specs.ReadWords.{number_of}
use Rattle.fk_read.proofs.WordsBack.{number_back, take_code, take_number, take_path, take_small, words_in_decimal}
use Rattle.fk_read.proofs.ClientsBack.{client_back, client_no_number, take_client, words_in_client}
use Rattle.fk_read.proofs.SpotsBack.{take_spot_back, take_word}

pub op_back : (names : List Name) (o : Op) → are_client_names names ≡ true → IsOp names o
    → op_of names (flat_map words_in (op_words names o)) ≡ Some o
unfolding word_of number_of number_below
op_back names (op.Pong c ping) known fits = rw (words_in_client names c known fits.0, client_no_number names c known fits.0, client_back names c known fits.0, take_number ping fits.1) refl
op_back names (op.TakeDone c k t) known fits = rw (words_in_client names c known fits.0, client_no_number names c known fits.0, client_back names c known fits.0, take_number k fits.1, take_number t fits.2) refl
op_back names (op.TakeEvicted c k t) known fits = rw (words_in_client names c known fits.0, client_no_number names c known fits.0, client_back names c known fits.0, take_number k fits.1, take_number t fits.2) refl
op_back names (op.TakeRefused c k) known fits = rw (words_in_client names c known fits.0, client_no_number names c known fits.0, client_back names c known fits.0, take_number k fits.1) refl
op_back names (op.TakeLost c k) known fits = rw (words_in_client names c known fits.0, client_no_number names c known fits.0, client_back names c known fits.0, take_number k fits.1) refl
op_back names (op.TakeWatch c id) known fits = rw (words_in_client names c known fits.0, client_no_number names c known fits.0, client_back names c known fits.0, take_number id fits.1) refl
op_back names (op.TakePing c ping) known fits = rw (words_in_client names c known fits.0, client_no_number names c known fits.0, client_back names c known fits.0, take_number ping fits.1) refl
op_back names (op.LookOk c i m) known fits = rw (words_in_client names c known fits.0, client_no_number names c known fits.0, client_back names c known fits.0, take_small i fits.1, take_number m fits.2) refl
op_back names (op.LookBehind c i m) known fits = rw (words_in_client names c known fits.0, client_no_number names c known fits.0, client_back names c known fits.0, take_small i fits.1, take_number m fits.2) refl
op_back names (op.LookHeld c i m id) known fits = rw (words_in_client names c known fits.0, client_no_number names c known fits.0, client_back names c known fits.0, take_small i fits.1, take_number m fits.2, take_number id fits.3) refl
op_back names (op.Send c i k) known fits = rw (words_in_client names c known fits.0, client_no_number names c known fits.0, client_back names c known fits.0, take_small i fits.1, take_number k fits.2) refl
op_back names (op.Read c i s) known fits = rw (words_in_client names c known fits.0, client_no_number names c known fits.0, client_back names c known fits.0, take_small i fits.1, take_number s fits.2) refl
op_back names (op.WatchSet c i id) known fits = rw (words_in_client names c known fits.0, client_no_number names c known fits.0, client_back names c known fits.0, take_small i fits.1, words_in_decimal id fits.2, number_back id fits.2) refl
op_back names (op.WatchSwept c i t) known fits = rw (words_in_client names c known fits.0, client_no_number names c known fits.0, client_back names c known fits.0, take_small i fits.1, take_number t fits.2) refl
op_back names (op.Local c i) known fits = rw (words_in_client names c known fits.0, client_no_number names c known fits.0, client_back names c known fits.0, take_small i fits.1) refl
op_back names (op.PongFault c) known fits = rw (words_in_client names c known fits, client_no_number names c known fits, client_back names c known fits) refl
op_back names (op.TakeFault c) known fits = rw (words_in_client names c known fits, client_no_number names c known fits, client_back names c known fits) refl
op_back names (op.LookFault c i) known fits = rw (words_in_client names c known fits.0, client_no_number names c known fits.0, client_back names c known fits.0, take_small i fits.1) refl
op_back names (op.SendFault c i) known fits = rw (words_in_client names c known fits.0, client_no_number names c known fits.0, client_back names c known fits.0, take_small i fits.1) refl
op_back names (op.ReadFault c i) known fits = rw (words_in_client names c known fits.0, client_no_number names c known fits.0, client_back names c known fits.0, take_small i fits.1) refl
op_back names (op.WatchFault c i) known fits = rw (words_in_client names c known fits.0, client_no_number names c known fits.0, client_back names c known fits.0, take_small i fits.1) refl
op_back names (op.Tell n c id) known fits = rw (words_in_decimal n fits.0, number_back n fits.0, take_client names c known fits.1, take_number id fits.2) refl
op_back names (op.Told n t) known fits = rw (words_in_decimal n fits.0, number_back n fits.0, take_number t fits.1) refl
op_back names (op.ProbeClosed n) known fits = rw (words_in_decimal n fits, number_back n fits) refl
op_back names (op.ProbeFresh n) known fits = rw (words_in_decimal n fits, number_back n fits) refl
op_back names (op.ProbeWaiting n) known fits = rw (words_in_decimal n fits, number_back n fits) refl
op_back names (op.ProbeLate n ping m) known fits = rw (words_in_decimal n fits.0, number_back n fits.0, take_number ping fits.1, take_number m fits.2) refl
op_back names (op.Ping n c) known fits = rw (words_in_decimal n fits.0, number_back n fits.0, take_client names c known fits.1) refl
op_back names (op.NoteOk n) known fits = rw (words_in_decimal n fits, number_back n fits) refl
op_back names (op.NoteMiss n ping) known fits = rw (words_in_decimal n fits.0, number_back n fits.0, take_number ping fits.1) refl
op_back names (op.Evict n k) known fits = rw (words_in_decimal n fits.0, number_back n fits.0, take_number k fits.1) refl
op_back names (op.PendingYes n t) known fits = rw (words_in_decimal n fits.0, number_back n fits.0, take_number t fits.1) refl
op_back names (op.PendingNo n t) known fits = rw (words_in_decimal n fits.0, number_back n fits.0, take_number t fits.1) refl
op_back names (op.DropOk n t) known fits = rw (words_in_decimal n fits.0, number_back n fits.0, take_number t fits.1) refl
op_back names (op.DropMiss n t d) known fits = rw (words_in_decimal n fits.0, number_back n fits.0, take_number t fits.1, take_number d fits.2) refl
op_back names (op.SweepOk n t f) known fits = rw (words_in_decimal n fits.0, number_back n fits.0, take_number t fits.1, take_number f fits.2) refl
op_back names (op.SweepMiss n t s f) known fits = rw (words_in_decimal n fits.0, number_back n fits.0, take_number t fits.1, take_number s fits.2, take_number f fits.3) refl
op_back names (op.PutOk n t p) known fits = rw (words_in_decimal n fits.0, number_back n fits.0, take_number t fits.1, take_path p fits.2) refl
op_back names (op.PutMiss n t p s) known fits = rw (words_in_decimal n fits.0, number_back n fits.0, take_number t fits.1, take_path p fits.2, take_number s fits.3) refl
op_back names (op.PublishOk n t) known fits = rw (words_in_decimal n fits.0, number_back n fits.0, take_number t fits.1) refl
op_back names (op.PublishMiss n t m) known fits = rw (words_in_decimal n fits.0, number_back n fits.0, take_number t fits.1, take_number m fits.2) refl
op_back names (op.Notify n t w) known fits = rw (words_in_decimal n fits.0, number_back n fits.0, take_number t fits.1, take_number w fits.2) refl
op_back names (op.DoneOk n t) known fits = rw (words_in_decimal n fits.0, number_back n fits.0, take_number t fits.1) refl
op_back names (op.DoneMiss n t d) known fits = rw (words_in_decimal n fits.0, number_back n fits.0, take_number t fits.1, take_number d fits.2) refl
op_back names (op.SessionNew n) known fits = rw (words_in_decimal n fits, number_back n fits) refl
op_back names (op.SessionClosed n) known fits = rw (words_in_decimal n fits, number_back n fits) refl
op_back names (op.SessionApplied n) known fits = rw (words_in_decimal n fits, number_back n fits) refl
op_back names (op.SessionRefused n) known fits = rw (words_in_decimal n fits, number_back n fits) refl
op_back names (op.SessionPast n) known fits = rw (words_in_decimal n fits, number_back n fits) refl
op_back names (op.Owned n count) known fits = rw (words_in_decimal n fits.0, number_back n fits.0, take_number count fits.1) refl
op_back names (op.LockOk n p) known fits = rw (words_in_decimal n fits.0, number_back n fits.0, take_path p fits.1) refl
op_back names (op.LockBusy n p h m) known fits = rw (words_in_decimal n fits.0, number_back n fits.0, take_path p fits.1, take_number h fits.2, take_number m fits.3) refl
op_back names (op.Push n t) known fits = rw (words_in_decimal n fits.0, number_back n fits.0, take_number t fits.1) refl
op_back names (op.RefuseOk n code place m) known fits = rw (words_in_decimal n fits.0, number_back n fits.0, take_code code, take_spot_back place m fits.1 fits.2) refl
op_back names (op.RefuseSettled n code place m s) known fits = rw (words_in_decimal n fits.0, number_back n fits.0, take_code code, take_spot_back place m fits.1 fits.2, take_number s fits.3) refl
op_back names (op.RefuseLock n code place t p h m) known fits = rw (words_in_decimal n fits.0, number_back n fits.0, take_code code, take_spot_back place t fits.1 fits.2, take_path p fits.3, take_number h fits.4, take_number m fits.5) refl
op_back names (op.LostOk n) known fits = rw (words_in_decimal n fits, number_back n fits) refl
op_back names (op.LostSettled n s) known fits = rw (words_in_decimal n fits.0, number_back n fits.0, take_number s fits.1) refl
op_back names op.Idle known fits = refl
op_back names (op.Clock m) known fits = rw (words_in_decimal m fits, number_back m fits) refl
op_back names (op.Follower n c k) known fits = rw (words_in_decimal n fits.0, number_back n fits.0, take_client names c known fits.1, take_number k fits.2) refl
op_back names (op.Leader n t) known fits = rw (words_in_decimal n fits.0, number_back n fits.0, take_number t fits.1) refl
op_back names (op.Teller n w) known fits = rw (words_in_decimal n fits.0, number_back n fits.0, take_number w fits.1) refl
op_back names (op.Beat n c) known fits = rw (words_in_decimal n fits.0, number_back n fits.0, take_client names c known fits.1) refl
op_back names (op.Crash n) known fits = rw (words_in_decimal n fits, number_back n fits) refl
op_back names (op.Fault n word) known fits = rw (words_in_decimal n fits, number_back n fits, take_word word) refl
op_back names (op.CommitOk n t) known fits = rw (words_in_decimal n fits.0, number_back n fits.0, take_number t fits.1) refl
op_back names (op.CommitSettled n t s) known fits = rw (words_in_decimal n fits.0, number_back n fits.0, take_number t fits.1, take_number s fits.2) refl
op_back names (op.CommitLock n t p h m) known fits = rw (words_in_decimal n fits.0, number_back n fits.0, take_number t fits.1, take_path p fits.2, take_number h fits.3, take_number m fits.4) refl
op_back names (op.Reply n c k) known fits = rw (words_in_decimal n fits.0, number_back n fits.0, take_client names c known fits.1, take_number k fits.2) refl
op_back names (op.AckOk n) known fits = rw (words_in_decimal n fits, number_back n fits) refl
op_back names (op.AckGone n) known fits = rw (words_in_decimal n fits, number_back n fits) refl
