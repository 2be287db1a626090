-- What the words of an operation say. Only the words that tell two operations apart are looked at:
-- whether the others are right, the text of what was read shows.
use Rattle.std.specs.Prelude.{ℕ, if◌then◌else◌, List, [], ◌∷◌, codes, Option, Some, None}
use Rattle.std.specs.Option.{option_and_then}
use Rattle.std.specs.Str.{bytes_eq}
use Rattle.fk_base.specs.Path.{Name}
use Rattle.fk_base.specs.declared.code.Code.{Code}
use Rattle.fk_print.specs.Words.{Text}
use Rattle.fk_print.specs.declared.op.Op.{Op}
use Rattle.fk_print.specs.declared.op.Op.TheVariants as op
use Rattle.fk_print.specs.declared.op.Word.{Word}
use Rattle.fk_print.specs.declared.op.Word.TheVariants as word
use Rattle.fk_read.specs.Reads.{option_or_else, take, then_read, then_word}
use Rattle.fk_read.specs.ReadWords.{client_of, code_of, number_of, path_of_word}
use Rattle.fk_read.specs.ReadEnding.{ending_of, take_spot}
use Rattle.fk_read.specs.ReadClient.{client_op}
use Rattle.fk_read.specs.declared.ending.Ending.{Ending}
use Rattle.fk_read.specs.declared.ending.Ending.TheVariants as ending

-- the first word of a function's operation
unfoldable pub word_of : Text → Option Word
word_of text =
    if bytes_eq text (codes "session") then Some word.Session
    else if bytes_eq text (codes "owned") then Some word.Owned
    else if bytes_eq text (codes "lock") then Some word.Lock
    else if bytes_eq text (codes "push") then Some word.Push
    else if bytes_eq text (codes "commit") then Some word.Commit
    else if bytes_eq text (codes "refuse") then Some word.Refuse
    else if bytes_eq text (codes "lost") then Some word.Lost
    else if bytes_eq text (codes "reply") then Some word.Reply
    else if bytes_eq text (codes "ack") then Some word.Ack
    else if bytes_eq text (codes "pending") then Some word.Pending
    else if bytes_eq text (codes "drop") then Some word.Drop
    else if bytes_eq text (codes "sweep") then Some word.Sweep
    else if bytes_eq text (codes "put") then Some word.Put
    else if bytes_eq text (codes "publish") then Some word.Publish
    else if bytes_eq text (codes "notify") then Some word.Notify
    else if bytes_eq text (codes "done") then Some word.Done
    else if bytes_eq text (codes "tell") then Some word.Tell
    else if bytes_eq text (codes "told") then Some word.Told
    else if bytes_eq text (codes "probe") then Some word.Probe
    else if bytes_eq text (codes "ping") then Some word.Ping
    else if bytes_eq text (codes "note") then Some word.Note
    else if bytes_eq text (codes "evict") then Some word.Evict
    else None

abbrev pub session_of : ℕ → List Text → Option Op
session_of n words = then_word words λ word rest.
    if bytes_eq word (codes "new") then Some (op.SessionNew n)
    else if bytes_eq word (codes "closed") then Some (op.SessionClosed n)
    else if bytes_eq word (codes "applied") then Some (op.SessionApplied n)
    else if bytes_eq word (codes "refused") then Some (op.SessionRefused n)
    else Some (op.SessionPast n)

abbrev pub lock_op : ℕ → List Text → Option Op
lock_op n words =
    then_read (take path_of_word words) λ path rest. then_word rest λ word rest.
    if bytes_eq word (codes "ok") then Some (op.LockOk n path)
    else (then_read (take number_of rest) λ holder rest. then_read (take number_of rest) λ moment rest. Some (op.LockBusy n path holder moment))

abbrev pub commit_by : ℕ → ℕ → Ending → Option Op
commit_by n t ending.Done = Some (op.CommitOk n t)
commit_by n t (ending.Settled s) = Some (op.CommitSettled n t s)
commit_by n t (ending.Lock p h m) = Some (op.CommitLock n t p h m)

abbrev pub commit_op : ℕ → List Text → Option Op
commit_op n words = then_read (take number_of words) λ t rest. option_and_then (commit_by n t) (ending_of rest)

abbrev pub refuse_by : ℕ → Code → ℕ × ℕ → Ending → Option Op
refuse_by n code spot ending.Done = Some (op.RefuseOk n code spot.0 spot.1)
refuse_by n code spot (ending.Settled s) = Some (op.RefuseSettled n code spot.0 spot.1 s)
refuse_by n code spot (ending.Lock p h m) = Some (op.RefuseLock n code spot.0 spot.1 p h m)

abbrev pub refuse_op : ℕ → List Text → Option Op
refuse_op n words = then_read (take code_of words) λ code rest. then_read (take_spot rest) λ spot rest.
    option_and_then (refuse_by n code spot) (ending_of rest)

abbrev pub lost_by : ℕ → Ending → Option Op
lost_by n ending.Done = Some (op.LostOk n)
lost_by n (ending.Settled s) = Some (op.LostSettled n s)
lost_by n (ending.Lock p h m) = None

abbrev pub ack_op : ℕ → List Text → Option Op
ack_op n words = then_word words λ word rest.
    if bytes_eq word (codes "ok") then Some (op.AckOk n) else Some (op.AckGone n)

abbrev pub pending_op : ℕ → List Text → Option Op
pending_op n words = then_read (take number_of words) λ t rest. then_word rest λ word rest.
    if bytes_eq word (codes "yes") then Some (op.PendingYes n t) else Some (op.PendingNo n t)

abbrev pub drop_op : ℕ → List Text → Option Op
drop_op n words = then_read (take number_of words) λ t rest. then_word rest λ word rest.
    if bytes_eq word (codes "ok") then Some (op.DropOk n t)
    else (then_read (take number_of rest) λ d rest. Some (op.DropMiss n t d))

abbrev pub sweep_op : ℕ → List Text → Option Op
sweep_op n words = then_read (take number_of words) λ t rest. then_word rest λ word rest. then_read (take number_of rest) λ s rest.
    if bytes_eq word (codes "ok") then Some (op.SweepOk n t s)
    else (then_read (take number_of rest) λ f rest. Some (op.SweepMiss n t s f))

abbrev pub put_op : ℕ → List Text → Option Op
put_op n words = then_read (take number_of words) λ t rest. then_read (take path_of_word rest) λ path rest. then_word rest λ word rest.
    if bytes_eq word (codes "ok") then Some (op.PutOk n t path)
    else (then_read (take number_of rest) λ s rest. Some (op.PutMiss n t path s))

abbrev pub publish_op : ℕ → List Text → Option Op
publish_op n words = then_read (take number_of words) λ t rest. then_word rest λ word rest.
    if bytes_eq word (codes "ok") then Some (op.PublishOk n t)
    else (then_read (take number_of rest) λ m rest. Some (op.PublishMiss n t m))

abbrev pub done_op : ℕ → List Text → Option Op
done_op n words = then_read (take number_of words) λ t rest. then_word rest λ word rest.
    if bytes_eq word (codes "ok") then Some (op.DoneOk n t)
    else (then_read (take number_of rest) λ d rest. Some (op.DoneMiss n t d))

abbrev pub probe_op : ℕ → List Text → Option Op
probe_op n words = then_word words λ word rest.
    if bytes_eq word (codes "closed") then Some (op.ProbeClosed n)
    else if bytes_eq word (codes "fresh") then Some (op.ProbeFresh n)
    else if bytes_eq word (codes "waiting") then Some (op.ProbeWaiting n)
    else (then_read (take number_of rest) λ p rest. then_read (take number_of rest) λ m rest. Some (op.ProbeLate n p m))

abbrev pub note_op : ℕ → List Text → Option Op
note_op n words = then_word words λ word rest.
    if bytes_eq word (codes "ok") then Some (op.NoteOk n)
    else (then_read (take number_of rest) λ p rest. Some (op.NoteMiss n p))

-- behind the first word of an operation
abbrev pub named_op : List Name → ℕ → Word → List Text → Option Op
named_op names n word.Session words = session_of n words
named_op names n word.Owned words = then_read (take number_of words) λ count rest. Some (op.Owned n count)
named_op names n word.Lock words = lock_op n words
named_op names n word.Push words = then_read (take number_of words) λ t rest. Some (op.Push n t)
named_op names n word.Commit words = commit_op n words
named_op names n word.Refuse words = refuse_op n words
named_op names n word.Lost words = option_and_then (lost_by n) (ending_of words)
named_op names n word.Reply words = then_read (take (client_of names) words) λ c rest. then_read (take number_of rest) λ k rest. Some (op.Reply n c k)
named_op names n word.Ack words = ack_op n words
named_op names n word.Pending words = pending_op n words
named_op names n word.Drop words = drop_op n words
named_op names n word.Sweep words = sweep_op n words
named_op names n word.Put words = put_op n words
named_op names n word.Publish words = publish_op n words
named_op names n word.Notify words = then_read (take number_of words) λ t rest. then_read (take number_of rest) λ w rest. Some (op.Notify n t w)
named_op names n word.Done words = done_op n words
named_op names n word.Tell words = then_read (take (client_of names) words) λ c rest. then_read (take number_of rest) λ id rest. Some (op.Tell n c id)
named_op names n word.Told words = then_read (take number_of words) λ t rest. Some (op.Told n t)
named_op names n word.Probe words = probe_op n words
named_op names n word.Ping words = then_read (take (client_of names) words) λ c rest. Some (op.Ping n c)
named_op names n word.Note words = note_op n words
named_op names n word.Evict words = then_read (take number_of words) λ k rest. Some (op.Evict n k)

-- a function starts or ends, or makes an operation
abbrev pub function_op : List Name → ℕ → List Text → Option Op
function_op names n words = then_word words λ word rest.
    if bytes_eq word (codes "follower") then (then_read (take (client_of names) rest) λ c rest. then_read (take number_of rest) λ k rest. Some (op.Follower n c k))
    else if bytes_eq word (codes "leader") then (then_read (take number_of rest) λ t rest. Some (op.Leader n t))
    else if bytes_eq word (codes "teller") then (then_read (take number_of rest) λ w rest. Some (op.Teller n w))
    else if bytes_eq word (codes "beat") then (then_read (take (client_of names) rest) λ c rest. Some (op.Beat n c))
    else if bytes_eq word (codes "crash") then Some (op.Crash n)
    else if bytes_eq word (codes "fault") then (then_read (take word_of rest) λ first rest. Some (op.Fault n first))
    else option_and_then (λ first. named_op names n first rest) (word_of word)

-- behind a first word that is no number and another word: a moment, or a client's operation
abbrev pub other_op : List Name → Text → Text → List Text → Option Op
other_op names first second rest =
    option_or_else (number_of second) (λ m. Some (op.Clock m)) (option_and_then (λ c. client_op c second rest) (client_of names first))

-- behind a first word that is no number
abbrev pub free_op : List Name → Text → List Text → Option Op
free_op names first [] = Some op.Idle
free_op names first (second ∷ rest) = other_op names first second rest

-- an operation
abbrev pub op_of : List Name → List Text → Option Op
op_of names words = then_word words λ first rest.
    option_or_else (number_of first) (λ n. function_op names n rest) (free_op names first rest)
