-- The limits of commands: what stands at one is asked for, and what is beyond it by one byte is unfit.
use Rattle.std.specs.Prelude.{◌≡◌, negsuc, true, false, [], ◌∷◌, codes}
use Rattle.fk_tree.specs.declared.request.Query.TheVariants as query
use Rattle.fk_tree.specs.declared.request.Request.TheVariants as request
use Rattle.fk_script.specs.declared.command.Command.TheVariants as command
use Rattle.fk_script.specs.declared.command.PartCommand.TheVariants as part_command
use Rattle.fk_spec.specs.Plan.{Reads, Unfit, Writes, want_of}
use Rattle.fk_runs.specs.Playing.{many}

-- 16,384 bytes of data
abbrev pub DataAtItsLimit : Type 0
DataAtItsLimit = want_of (command.Create (codes "/x") (many 16384 122) false false true) ≡ Writes (request.Create (codes "x" ∷ []) (many 16384 122) false false)

abbrev pub DataBeyondIt : Type 0
DataBeyondIt = want_of (command.Set (codes "/x") (many 16385 122) (negsuc 0) true) ≡ Unfit

-- a path of 512 bytes
abbrev pub PathAtItsLimit : Type 0
PathAtItsLimit = want_of (command.Get (47 ∷ many 511 112) true) ≡ Reads (query.Get (many 511 112 ∷ [])) true

abbrev pub PathBeyondIt : Type 0
PathBeyondIt = want_of (command.Get (47 ∷ many 512 112) true) ≡ Unfit

-- a sequential create's is shorter by its ten digits
abbrev pub SequentialAtItsLimit : Type 0
SequentialAtItsLimit = want_of (command.Create (47 ∷ many 501 115) [] true false true) ≡ Writes (request.Create (many 501 115 ∷ []) [] true false)

abbrev pub SequentialBeyondIt : Type 0
SequentialBeyondIt = want_of (command.Create (47 ∷ many 502 115) [] true false true) ≡ Unfit

-- the root can't be deleted, in a request of several parts neither
abbrev pub RootIsKept : Type 0
RootIsKept = want_of (command.Delete (codes "/") (negsuc 0) true) ≡ Unfit

abbrev pub RootIsKeptByParts : Type 0
RootIsKeptByParts = want_of (command.Multi (part_command.Set (codes "/") (codes "5") (negsuc 0) ∷ part_command.Delete (codes "/") (negsuc 0) ∷ []) true) ≡ Unfit

-- one unfit part makes the whole request unfit
abbrev pub PartBeyondIt : Type 0
PartBeyondIt = want_of (command.Multi (part_command.Create (47 ∷ many 512 113) [] false ∷ []) true) ≡ Unfit
