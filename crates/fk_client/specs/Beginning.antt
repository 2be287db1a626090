-- What a client's next command asks of the services.
use Rattle.std.specs.Prelude.{◌≡◌, ℕ, true, false, if◌then◌else◌, Option, Some, None}
use Rattle.fk_base.specs.Path.{PathNames}
use Rattle.fk_queue.specs.Meaning as post
use Rattle.fk_queue.specs.declared.lane.Lane.TheVariants as lane
use Rattle.fk_tree.specs.Ask.{path_asked}
use Rattle.fk_tree.specs.declared.request.Request.{Request}
use Rattle.fk_user.specs.Meaning as user
use Rattle.fk_wire.specs.SentText.{sent_text}
use Rattle.fk_wire.specs.declared.version.Version.TheVariants as version
use Rattle.fk_spec.specs.Client.{Reading, all_go_on}
use Rattle.fk_spec.specs.Plan.{Ask, Want, Unfit, Writes, Reads}
use Rattle.fk_client.specs.Known.{by_outcome}
use Rattle.fk_client.specs.Meaning.{Meaning}
use Rattle.fk_client.specs.Services.{message_of}

-- there is a next command, and it wants this
abbrev pub Wants : Option Ask → Want → Type 0
Wants None w = ⊥
Wants (Some a) w = a.want ≡ w

abbrev pub WantsWrite : Want → Request → Type 0
WantsWrite Unfit r = ⊥
WantsWrite (Writes x) r = x ≡ r
WantsWrite (Reads q watch) r = ⊥

-- none that isn't answered has to be waited for
abbrev pub OthersGoOn : Meaning → Type 0
OthersGoOn m = all_go_on by_outcome m.asks m.client.sent ≡ true

-- the next command is a write of this request
abbrev pub IsNextWrite : Option Ask → Request → Type 0
IsNextWrite None r = ⊥
IsNextWrite (Some a) r = WantsWrite a.want r

abbrev pub WantsRead : Want → PathNames → Type 0
WantsRead Unfit path = ⊥
WantsRead (Writes r) path = ⊥
WantsRead (Reads q watch) path = path_asked q ≡ path

-- the next command is a read of this path
abbrev pub IsNextRead : Option Ask → PathNames → Type 0
IsNextRead None path = ⊥
IsNextRead (Some a) path = WantsRead a.want path

-- what a read finds at a path, where the storage doesn't fail
abbrev pub read_at : user.Meaning → PathNames → Option Reading
read_at u path =
    if u.armed then None
    else Some (record { node = (u.records path).node; stamp = (u.records path).stamp; looked = false })

-- the post after a request was sent, where there is memory
abbrev pub posted : ℕ → ℕ → Request → post.Meaning → post.Meaning
posted session seen r q = post.posted (lane.Session session) (sent_text version.Two (message_of seen r)) q
