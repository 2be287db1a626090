-- What a deployment comes to for the protocol: how long its locks last, and what its clients ask for.
use Rattle.std.specs.Prelude.{ℕ, zero, suc, nat_le, Bool, true, false, ◌&&◌, if◌then◌else◌, List, [], ◌∷◌, Option, Some, None, length}
use Rattle.fk_base.specs.Path.{PathNames, path_of, is_root}
use Rattle.fk_tree.specs.declared.request.Part.{Part}
use Rattle.fk_tree.specs.declared.request.Part.TheVariants as part
use Rattle.fk_tree.specs.declared.request.Query.{Query}
use Rattle.fk_tree.specs.declared.request.Query.TheVariants as query
use Rattle.fk_tree.specs.declared.request.Request.{Request}
use Rattle.fk_tree.specs.declared.request.Request.TheVariants as request
use Rattle.fk_print.specs.declared.line.Verb.{Verb}
use Rattle.fk_print.specs.declared.line.Verb.TheVariants as verb
use Rattle.fk_script.specs.declared.command.Command.{Command}
use Rattle.fk_script.specs.declared.command.Command.TheVariants as command
use Rattle.fk_script.specs.declared.command.PartCommand.{PartCommand}
use Rattle.fk_script.specs.declared.command.PartCommand.TheVariants as part_command
use Rattle.fk_script.specs.declared.deployment.Block.{Block}
use Rattle.fk_script.specs.declared.deployment.Deployment.{Deployment}

-- what a command wants: nothing that can be asked, a change of the tree, or an answer from it
pub data Want : Type 0 where
  Unfit : Want
  Writes : (r : Request) → Want
  Reads : (q : Query) (watch : Bool) → Want

-- a command, as its client comes to it
pub record Ask : Type 0 where
  pub verb : Verb
  pub wait : Bool
  pub want : Want

-- the clients in file order, each with its commands in order
pub record Plan : Type 0 where
  pub lock : ℕ
  pub beat : ℕ
  pub asks : List (List Ask)

-- whether this is the number of one of the plan's clients, from 1
abbrev pub is_client : Plan → ℕ → Bool
is_client p c = nat_le 1 c && nat_le c (length p.asks)

-- how many bytes of data a command may bring
abbrev pub data_limit : ℕ
data_limit = 16384

-- how long a path's text may be
abbrev pub most_path : ℕ
most_path = 512

-- and that of a sequential create, to which ten digits are added
abbrev pub most_numbered_path : ℕ
most_numbered_path = 502

abbrev pub path_limit : Bool → ℕ
path_limit seq = if seq then most_numbered_path else most_path

-- the path that a word means, where it means one and isn't too long
abbrev pub path_within : ℕ → List ℕ → Option PathNames
path_within limit text = if nat_le (length text) limit then path_of text else None

abbrev pub is_small : List ℕ → Bool
is_small bytes = nat_le (length bytes) data_limit

abbrev pub at_path : Option PathNames → (PathNames → Want) → Want
at_path None f = Unfit
at_path (Some p) f = f p

-- the root can't be deleted
abbrev pub want_delete : PathNames → Want → Want
want_delete p w = if is_root p then Unfit else w

abbrev pub create_part : List ℕ → Bool → Option PathNames → Option Part
create_part bytes eph None = None
create_part bytes eph (Some p) = if is_small bytes then Some (part.Create p bytes eph) else None

abbrev pub delete_part : Option PathNames → (PathNames → Part) → Option Part
delete_part None f = None
delete_part (Some p) f = if is_root p then None else Some (f p)

abbrev pub set_part : List ℕ → Option PathNames → (PathNames → Part) → Option Part
set_part bytes None f = None
set_part bytes (Some p) f = if is_small bytes then Some (f p) else None

abbrev pub part_of : PartCommand → Option Part
part_of (part_command.Create path bytes eph) = create_part bytes eph (path_within most_path path)
part_of (part_command.Set path bytes version) = set_part bytes (path_within most_path path) (λ p. part.Set p bytes version)
part_of (part_command.Delete path version) = delete_part (path_within most_path path) (λ p. part.Delete p version)

abbrev pub and_part : Option Part → Option (List Part) → Option (List Part)
and_part None ps = None
and_part (Some p) None = None
and_part (Some p) (Some ps) = Some (p ∷ ps)

abbrev pub parts_of : List PartCommand → Option (List Part)
parts_of [] = Some []
parts_of (c ∷ cs) = and_part (part_of c) (parts_of cs)

abbrev pub want_multi : Option (List Part) → Want
want_multi None = Unfit
want_multi (Some ps) = Writes (request.Multi ps)

-- A command is unfit where the rules of a path or a limit refuse its path or its data, or one of its
-- parts', or where it deletes the root.
abbrev pub want_of : Command → Want
want_of (command.Create path bytes seq eph wait) = if is_small bytes then at_path (path_within (path_limit seq) path) (λ p. Writes (request.Create p bytes seq eph)) else Unfit
want_of (command.Set path bytes version wait) = if is_small bytes then at_path (path_within most_path path) (λ p. Writes (request.Set p bytes version)) else Unfit
want_of (command.Delete path version wait) = at_path (path_within most_path path) (λ p. want_delete p (Writes (request.Delete p version)))
want_of (command.Get path watch) = at_path (path_within most_path path) (λ p. Reads (query.Get p) watch)
want_of (command.Stat path watch) = at_path (path_within most_path path) (λ p. Reads (query.Stat p) watch)
want_of (command.Ls path watch) = at_path (path_within most_path path) (λ p. Reads (query.Ls p) watch)
want_of command.Close = Writes (request.Close false)
want_of (command.Multi parts wait) = want_multi (parts_of parts)

abbrev pub verb_of : Command → Verb
verb_of (command.Create path bytes seq eph wait) = verb.Create
verb_of (command.Set path bytes version wait) = verb.Set
verb_of (command.Delete path version wait) = verb.Delete
verb_of (command.Get path watch) = verb.Get
verb_of (command.Stat path watch) = verb.Stat
verb_of (command.Ls path watch) = verb.Ls
verb_of command.Close = verb.Close
verb_of (command.Multi parts wait) = verb.Multi

-- whether the next command has to wait for this one's reply
abbrev pub waits : Command → Bool
waits (command.Create path bytes seq eph wait) = wait
waits (command.Set path bytes version wait) = wait
waits (command.Delete path version wait) = wait
waits (command.Multi parts wait) = wait
waits _ = true

abbrev pub ask_of : Command → Ask
ask_of c = record { verb = verb_of c; wait = waits c; want = want_of c }

abbrev pub asks_of : List Command → List Ask
asks_of [] = []
asks_of (c ∷ cs) = ask_of c ∷ asks_of cs

abbrev pub all_asks : List Block → List (List Ask)
all_asks [] = []
all_asks (b ∷ bs) = asks_of b.commands ∷ all_asks bs

-- what the deployment comes to
abbrev pub plan_of : Deployment → Plan
plan_of d = record { lock = d.config.lock; beat = d.config.beat; asks = all_asks d.clients }

abbrev pub item_after : {A : Type 0} → List A → ℕ → Option A
item_after [] n = None
item_after (x ∷ xs) zero = Some x
item_after (x ∷ xs) (suc n) = item_after xs n

-- the item at a place, from 1
abbrev pub nth : {A : Type 0} → List A → ℕ → Option A
nth xs zero = None
nth xs (suc n) = item_after xs n

abbrev pub or_empty : {A : Type 0} → Option (List A) → List A
or_empty None = []
or_empty (Some xs) = xs

-- what the commands of client c ask, in order
abbrev pub asks_in : Plan → ℕ → List Ask
asks_in p c = or_empty (nth p.asks c)

-- command i of client c, where there is one
abbrev pub asked : Plan → ℕ → ℕ → Option Ask
asked p c i = nth (asks_in p c) i
