-- What a read shows, and whether it sets a watch, is told by its command alone, since its path is one.
use Rattle.std.proofs.Common.{◌≡◌, ℕ, Bool, true, false, cond, List, [], ◌∷◌, Option, Some, None, refl, arith}
use Rattle.std.specs.Prelude.{◌&&◌, is_some}
use Rattle.fk_base.specs.Path.{PathNames}
use Rattle.fk_base.specs.declared.code.Code.TheVariants as code
use Rattle.fk_print.specs.declared.line.Shown.{Shown}
use Rattle.fk_print.specs.declared.line.Shown.TheVariants as shown
use Rattle.fk_tree.specs.Tree.{stat_of}
use Rattle.fk_tree.specs.declared.node.Node.{Node}
use Rattle.fk_tree.specs.declared.request.Part.{Part}
use Rattle.fk_tree.specs.declared.request.Query.TheVariants as query
use Rattle.fk_tree.specs.declared.request.Request.{Request}
use Rattle.fk_tree.specs.declared.request.Request.TheVariants as request
use Rattle.fk_script.specs.declared.command.Command.{Command}
use Rattle.fk_script.specs.declared.command.Command.TheVariants as command
use Rattle.fk_spec.specs.Client as spec
use Rattle.fk_spec.specs.Plan.{Unfit, Writes, Reads, at_path, is_small, parts_of, path_within, path_limit, want_delete, want_multi, want_of}
use Rattle.fk_client.specs.Meaning.{is_read}
use Rattle.fk_spec.specs.Replies.{shown_read}

-- what a command shows of a node
abbrev shown_node : ℕ → Node → Command → Shown
shown_node n x (command.Create path bytes seq eph wait) = shown.Plain code.SystemError
shown_node n x (command.Set path bytes version wait) = shown.Plain code.SystemError
shown_node n x (command.Delete path version wait) = shown.Plain code.SystemError
shown_node n x (command.Get path watch) = shown.Got n x.bytes (stat_of x)
shown_node n x (command.Stat path watch) = shown.Stated n (stat_of x)
shown_node n x (command.Ls path watch) = shown.Listed n x.names
shown_node n x command.Close = shown.Plain code.SystemError
shown_node n x (command.Multi parts wait) = shown.Plain code.SystemError

abbrev shown_found : ℕ → Option Node → Command → Shown
shown_found n None c = shown.Refused code.NoNode n 0
shown_found n (Some x) c = shown_node n x c

-- whether a command sets a watch where a node was found or not
abbrev sets_watch : Command → Bool → Bool
sets_watch (command.Create path bytes seq eph wait) found = false
sets_watch (command.Set path bytes version wait) found = false
sets_watch (command.Delete path version wait) found = false
sets_watch (command.Get path watch) found = watch && found
sets_watch (command.Stat path watch) found = watch
sets_watch (command.Ls path watch) found = watch && found
sets_watch command.Close found = false
sets_watch (command.Multi parts wait) found = false

-- ---- as the rules say of what a command wants

no_write : (o : Option PathNames) (f : PathNames → Request) → is_read (at_path o (λ p. Writes (f p))) ≡ false
no_write None f = refl
no_write (Some p) f = refl

no_data : (b : Bool) (o : Option PathNames) (f : PathNames → Request) → is_read (cond b (at_path o (λ p. Writes (f p))) Unfit) ≡ false
no_data true o f = no_write o f
no_data false o f = refl

no_delete : (o : Option PathNames) (f : PathNames → Request) → is_read (at_path o (λ p. want_delete p (Writes (f p)))) ≡ false
no_delete None f = refl
no_delete (Some []) f = refl
no_delete (Some (n ∷ p)) f = refl

no_multi : (o : Option (List Part)) → is_read (want_multi o) ≡ false
no_multi None = refl
no_multi (Some ps) = refl

clash : {A : Type 0} (b : Bool) → b ≡ true → b ≡ false → A
clash true e f = absurd (grind arith)
clash false e f = absurd (grind arith)

shown_get : (n : ℕ) (found : Option Node) (path : List ℕ) (watch : Bool) (o : Option PathNames) → is_read (at_path o (λ p. Reads (query.Get p) watch)) ≡ true → shown_read n found (at_path o (λ p. Reads (query.Get p) watch)) ≡ shown_found n found (command.Get path watch)
shown_get n found path watch None e = absurd (grind arith)
shown_get n None path watch (Some p) e = refl
shown_get n (Some x) path watch (Some p) e = refl

shown_stat : (n : ℕ) (found : Option Node) (path : List ℕ) (watch : Bool) (o : Option PathNames) → is_read (at_path o (λ p. Reads (query.Stat p) watch)) ≡ true → shown_read n found (at_path o (λ p. Reads (query.Stat p) watch)) ≡ shown_found n found (command.Stat path watch)
shown_stat n found path watch None e = absurd (grind arith)
shown_stat n None path watch (Some p) e = refl
shown_stat n (Some x) path watch (Some p) e = refl

shown_ls : (n : ℕ) (found : Option Node) (path : List ℕ) (watch : Bool) (o : Option PathNames) → is_read (at_path o (λ p. Reads (query.Ls p) watch)) ≡ true → shown_read n found (at_path o (λ p. Reads (query.Ls p) watch)) ≡ shown_found n found (command.Ls path watch)
shown_ls n found path watch None e = absurd (grind arith)
shown_ls n None path watch (Some p) e = refl
shown_ls n (Some x) path watch (Some p) e = refl

pub shown_is : (n : ℕ) (found : Option Node) (c : Command) → is_read (want_of c) ≡ true → shown_read n found (want_of c) ≡ shown_found n found c
shown_is n found (command.Create path bytes seq eph wait) e = clash (is_read (want_of (command.Create path bytes seq eph wait))) e (no_data (is_small bytes) (path_within (path_limit seq) path) (λ p. request.Create p bytes seq eph))
shown_is n found (command.Set path bytes version wait) e = clash (is_read (want_of (command.Set path bytes version wait))) e (no_data (is_small bytes) (path_within 512 path) (λ p. request.Set p bytes version))
shown_is n found (command.Delete path version wait) e = clash (is_read (want_of (command.Delete path version wait))) e (no_delete (path_within 512 path) (λ p. request.Delete p version))
shown_is n found (command.Get path watch) e = shown_get n found path watch (path_within 512 path) e
shown_is n found (command.Stat path watch) e = shown_stat n found path watch (path_within 512 path) e
shown_is n found (command.Ls path watch) e = shown_ls n found path watch (path_within 512 path) e
shown_is n found command.Close e = clash false e refl
shown_is n found (command.Multi parts wait) e = clash (is_read (want_of (command.Multi parts wait))) e (no_multi (parts_of parts))

sets_get : (found : Option Node) (path : List ℕ) (watch : Bool) (o : Option PathNames) → is_read (at_path o (λ p. Reads (query.Get p) watch)) ≡ true → spec.sets_watch (at_path o (λ p. Reads (query.Get p) watch)) found ≡ sets_watch (command.Get path watch) (is_some found)
sets_get found path watch None e = absurd (grind arith)
sets_get found path watch (Some p) e = refl

sets_stat : (found : Option Node) (path : List ℕ) (watch : Bool) (o : Option PathNames) → is_read (at_path o (λ p. Reads (query.Stat p) watch)) ≡ true → spec.sets_watch (at_path o (λ p. Reads (query.Stat p) watch)) found ≡ sets_watch (command.Stat path watch) (is_some found)
sets_stat found path watch None e = absurd (grind arith)
sets_stat found path watch (Some p) e = refl

sets_ls : (found : Option Node) (path : List ℕ) (watch : Bool) (o : Option PathNames) → is_read (at_path o (λ p. Reads (query.Ls p) watch)) ≡ true → spec.sets_watch (at_path o (λ p. Reads (query.Ls p) watch)) found ≡ sets_watch (command.Ls path watch) (is_some found)
sets_ls found path watch None e = absurd (grind arith)
sets_ls found path watch (Some p) e = refl

pub sets_is : (found : Option Node) (c : Command) → is_read (want_of c) ≡ true → spec.sets_watch (want_of c) found ≡ sets_watch c (is_some found)
sets_is found (command.Create path bytes seq eph wait) e = clash (is_read (want_of (command.Create path bytes seq eph wait))) e (no_data (is_small bytes) (path_within (path_limit seq) path) (λ p. request.Create p bytes seq eph))
sets_is found (command.Set path bytes version wait) e = clash (is_read (want_of (command.Set path bytes version wait))) e (no_data (is_small bytes) (path_within 512 path) (λ p. request.Set p bytes version))
sets_is found (command.Delete path version wait) e = clash (is_read (want_of (command.Delete path version wait))) e (no_delete (path_within 512 path) (λ p. request.Delete p version))
sets_is found (command.Get path watch) e = sets_get found path watch (path_within 512 path) e
sets_is found (command.Stat path watch) e = sets_stat found path watch (path_within 512 path) e
sets_is found (command.Ls path watch) e = sets_ls found path watch (path_within 512 path) e
sets_is found command.Close e = clash false e refl
sets_is found (command.Multi parts wait) e = clash (is_read (want_of (command.Multi parts wait))) e (no_multi (parts_of parts))
