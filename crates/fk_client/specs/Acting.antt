-- What is said of one operation of a client and its lines, whatever the services are that it doesn't use.
use Rattle.std.specs.Prelude.{◌≡◌, List, Option, Some, Result, IfOk}
use Rattle.fk_print.specs.declared.line.Line.{Line}
use Rattle.fk_print.specs.declared.op.Op.{Op}
use Rattle.fk_queue.specs.Meaning as post
use Rattle.fk_store.specs.Meaning as table
use Rattle.fk_user.specs.Meaning as user
use Rattle.fk_watch.specs.Meaning.{Watches}
use Rattle.fk_wire.specs.declared.message.Tell.{Tell}
use Rattle.fk_spec.specs.Sight.{Sight}
use Rattle.fk_client.specs.Meaning.{Meaning}
use Rattle.fk_client.specs.Services.{post_by, table_by, user_by, watches_by}
use Rattle.fk_client.specs.Shown.{lines_in, made_by, made_in}
use Rattle.fk_client.specs.Sighting.{sight_by}

-- the operation changes no table
abbrev pub KeepsTable : {E : Type 0} → Result (Op × List Line) E → Type 0
KeepsTable r = (t : table.Meaning) → IfOk r (λ x. t ≡ table_by x.0 t)

-- the operation of this client changes no post
abbrev pub KeepsPost : {E : Type 0} → Result (Op × List Line) E → Meaning → Type 0
KeepsPost r m = (q : post.Meaning) → IfOk r (λ x. q ≡ post_by m x.0 q)

-- the operation of this client changes no table of watches
abbrev pub KeepsWatches : {E : Type 0} → Result (Op × List Line) E → Meaning → Type 0
KeepsWatches r m = (w : Watches) → IfOk r (λ x. w ≡ watches_by m x.0 w)

-- the operation changes no user storage
abbrev pub KeepsUser : {E : Type 0} → Result (Op × List Line) E → Type 0
KeepsUser r = (u : user.Meaning) → IfOk r (λ x. u ≡ user_by x.0 u)

-- these are the lines of the operation, whatever the client reads
abbrev pub Prints : {E : Type 0} → Result (Op × List Line) E → Meaning → Type 0
Prints r m = (s : Sight) → IfOk r (λ x. x.1 ≡ lines_in s x.0 m)

-- the client is `new` after the operation, whatever it reads and is told
abbrev pub GoesOn : {E : Type 0} → Result (Op × List Line) E → Meaning → Meaning → Type 0
GoesOn r old new = (s : Sight) (told : Option Tell) → IfOk r (λ x. new ≡ made_in s told x.0 old)

-- these are the lines of the operation where this message is told, whatever the services are
abbrev pub PrintsOf : {E : Type 0} → Tell → Result (Op × List Line) E → Meaning → Type 0
PrintsOf told r m = (q : post.Meaning) (w : Watches) (u : user.Meaning)
    → IfOk r (λ x. x.1 ≡ lines_in (sight_by q w u (Some told) m) x.0 m)

-- the client is `new` after the operation where this message is told, whatever the services are
abbrev pub GoesOnAt : {E : Type 0} → Tell → Result (Op × List Line) E → Meaning → Meaning → Type 0
GoesOnAt told r old new = (q : post.Meaning) (w : Watches) (u : user.Meaning)
    → IfOk r (λ x. new ≡ made_by q w u (Some told) x.0 old)
