-- What a command wants, where its words are within their limits, is of messages that can be written.
use Rattle.std.proofs.Common.{◌≡◌, ℕ, ℤ, pos, negsuc, suc, ◌≤◌, Bool, true, false, cond, List, [], ◌∷◌, Option, Some, None, length, refl, ◌∙◌, ap, arith}
use Rattle.std.specs.Prelude.{IfSome, nat_le}
use Rattle.std.specs.List.{AllByRecursion}
use Rattle.std.specs.Str.{IsUtf8, is_utf8}
use Rattle.std.proofs.lemmas.Str.{is_utf8-from_IsUtf8}
use Rattle.base64.specs.GeneralPurpose.{IsBytes}
use Rattle.fk_base.specs.Path.{PathNames, is_root, path_of}
use Rattle.fk_base.proofs.PathTexts.{reads_its_text}
use Rattle.fk_tree.specs.declared.request.Part.{Part}
use Rattle.fk_tree.specs.declared.request.Part.TheVariants as part
use Rattle.fk_tree.specs.declared.request.Query.TheVariants as query
use Rattle.fk_tree.specs.declared.request.Request.{Request}
use Rattle.fk_tree.specs.declared.request.Request.TheVariants as request
use Rattle.fk_wire.specs.Limits.{IsLimitedPart, IsLimitedRequest, IsTypedPart, IsTypedRequest}
use Rattle.fk_base.specs.Limits.{IsExpected, IsPath}
use Rattle.fk_script.specs.declared.command.Command.{Command}
use Rattle.fk_script.specs.declared.command.Command.TheVariants as command
use Rattle.fk_script.specs.declared.command.PartCommand.{PartCommand}
use Rattle.fk_script.specs.declared.command.PartCommand.TheVariants as part_command
use Rattle.fk_script.proofs.Sound.{IsCommand, IsPart, IsVersion}
use Rattle.fk_spec.specs.Plan.{Want, Unfit, Writes, Reads, and_part, at_path, create_part, delete_part, is_small, part_of, parts_of, path_limit, path_within, set_part, want_delete, want_multi, want_of}
use Rattle.fk_spec.specs.Start.{request_in}
use Rattle.fk_limits.proofs.Decoded.{data_is_bytes}

expected : (v : ℤ) → IsVersion v → IsExpected v
expected (pos n) h = omega (arith, h)
expected (negsuc n) h = h

-- a word's path has its names, and the word is its text
path_is : (w : List ℕ) (limit : ℕ) → IsUtf8 w → IfSome (path_within limit w) IsPath
path_is w limit u = by_length (nat_le (length w) limit) (path_of w) refl
  where
    by_length : (b : Bool) (o : Option PathNames) → path_of w ≡ o → IfSome (cond b o None) IsPath
    by_length true None e = tt
    by_length true (Some p) e = let r = reads_its_text w p e in (r.1, ap is_utf8 r.0 ∙ is_utf8-from_IsUtf8 w u)
    by_length false o e = tt

-- ---- parts

abbrev FitsPart : Part → Type 0
FitsPart x = IsLimitedPart x × IsTypedPart x

where_it : (b : Bool) (x : Part) → FitsPart x → IfSome (cond b (Some x) None) FitsPart
where_it true x h = h
where_it false x h = tt

unless_it : (b : Bool) (x : Part) → FitsPart x → IfSome (cond b None (Some x)) FitsPart
unless_it true x h = tt
unless_it false x h = h

created : (bytes : List ℕ) (eph : Bool) (o : Option PathNames) → IfSome o IsPath → IsBytes bytes → IfSome (create_part bytes eph o) FitsPart
created bytes eph None h b = tt
created bytes eph (Some p) h b = where_it (is_small bytes) (part.Create p bytes eph) (tt, (h, b))

set_to : (bytes : List ℕ) (v : ℤ) (o : Option PathNames) → IfSome o IsPath → IsBytes bytes → IsExpected v → IfSome (set_part bytes o (λ p. part.Set p bytes v)) FitsPart
set_to bytes v None h b l = tt
set_to bytes v (Some p) h b l = where_it (is_small bytes) (part.Set p bytes v) (l, (h, b))

deleted : (v : ℤ) (o : Option PathNames) → IfSome o IsPath → IsExpected v → IfSome (delete_part o (λ p. part.Delete p v)) FitsPart
deleted v None h l = tt
deleted v (Some p) h l = unless_it (is_root p) (part.Delete p v) (l, h)

part_fits : (c : PartCommand) → IsPart c → IfSome (part_of c) FitsPart
part_fits (part_command.Create path bytes eph) h = created bytes eph (path_within 512 path) (path_is path 512 h.0.path.word.text) (data_is_bytes bytes h.1)
part_fits (part_command.Set path bytes v) h = set_to bytes v (path_within 512 path) (path_is path 512 h.0.path.word.text) (data_is_bytes bytes h.1) (expected v h.2)
part_fits (part_command.Delete path v) h = deleted v (path_within 512 path) (path_is path 512 h.0.path.word.text) (expected v h.1)

-- so many parts, each of which can be written
abbrev FitParts : ℕ → Option (List Part) → Type 0
FitParts n o = IfSome o (λ ps. (length ps ≡ n) × AllByRecursion IsLimitedPart ps × AllByRecursion IsTypedPart ps)

one_more : (n : ℕ) (o : Option Part) (os : Option (List Part)) → IfSome o FitsPart → FitParts n os → FitParts (suc n) (and_part o os)
one_more n None os h i = tt
one_more n (Some x) None h i = tt
one_more n (Some x) (Some xs) h i = (ap suc i.0, (h.0, i.1), (h.1, i.2))

parts_fit : (cs : List PartCommand) → AllByRecursion IsPart cs → FitParts (length cs) (parts_of cs)
parts_fit [] h = (refl, tt, tt)
parts_fit (c ∷ cs) h = one_more (length cs) (part_of c) (parts_of cs) (part_fits c h.0) (parts_fit cs h.1)

-- ---- commands

abbrev pub FitsRequest : Request → Type 0
FitsRequest r = IsLimitedRequest r × IsTypedRequest r

-- what is wanted is no request, or one that can be written
abbrev pub Fits : Want → Type 0
Fits w = IfSome (request_in w) FitsRequest

at : (o : Option PathNames) (f : PathNames → Want) → IfSome o IsPath → ((p : PathNames) → IsPath p → Fits (f p)) → Fits (at_path o f)
at None f h g = tt
at (Some p) f h g = g p h

small : (b : Bool) (w : Want) → Fits w → Fits (cond b w Unfit)
small true w h = h
small false w h = tt

below_root : (b : Bool) (w : Want) → Fits w → Fits (cond b Unfit w)
below_root true w h = tt
below_root false w h = h

multi : (n : ℕ) (o : Option (List Part)) → 1 ≤ n → n ≤ 16 → FitParts n o → Fits (want_multi o)
multi n None l m h = tt
multi n (Some ps) l m h = ((omega (arith, h.0, l), omega (arith, h.0, m), h.1), h.2)

pub want_fits : (c : Command) → IsCommand c → Fits (want_of c)
want_fits (command.Create path bytes seq eph wait) h = small (is_small bytes) _ (at (path_within (path_limit seq) path) (λ p. Writes (request.Create p bytes seq eph)) (path_is path (path_limit seq) h.0.word.text) (λ p i. (tt, (i, data_is_bytes bytes h.1))))
want_fits (command.Set path bytes v wait) h = small (is_small bytes) _ (at (path_within 512 path) (λ p. Writes (request.Set p bytes v)) (path_is path 512 h.0.word.text) (λ p i. (expected v h.2, (i, data_is_bytes bytes h.1))))
want_fits (command.Delete path v wait) h = at (path_within 512 path) (λ p. want_delete p (Writes (request.Delete p v))) (path_is path 512 h.0.word.text) (λ p i. below_root (is_root p) (Writes (request.Delete p v)) (expected v h.1, i))
want_fits (command.Get path watch) h = at (path_within 512 path) (λ p. Reads (query.Get p) watch) (path_is path 512 h.word.text) (λ p i. tt)
want_fits (command.Stat path watch) h = at (path_within 512 path) (λ p. Reads (query.Stat p) watch) (path_is path 512 h.word.text) (λ p i. tt)
want_fits (command.Ls path watch) h = at (path_within 512 path) (λ p. Reads (query.Ls p) watch) (path_is path 512 h.word.text) (λ p i. tt)
want_fits command.Close h = (tt, tt)
want_fits (command.Multi parts wait) h = multi (length parts) (parts_of parts) h.some h.few (parts_fit parts h.each)
