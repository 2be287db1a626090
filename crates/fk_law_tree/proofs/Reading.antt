-- Views that show the same where they are read give the same.
use Rattle.std.proofs.Common.{◌≡◌, ℕ, suc, Bool, false, List, [], ◌∷◌, ◌++◌, Option, Some, None, refl, ◌∙◌, ap}
use Rattle.std.proofs.lemmas.Bool.{or_right}
use Rattle.fk_base.specs.Path.{PathNames, parent, same_path}
use Rattle.fk_tree.specs.Sorted.{has_path}
use Rattle.fk_tree.specs.View.{View}
use Rattle.fk_tree.specs.Fill.{final_path, made_of, fill_part, fill_parts, after_part}
use Rattle.fk_tree.specs.Check.{check_create, check_under, check_set, check_delete, check_part, check_parts, check_open, at_place, or_else}
use Rattle.fk_tree.specs.Ask.{answer_from}
use Rattle.fk_tree.specs.declared.node.Node.{Node}
use Rattle.fk_tree.specs.declared.request.Part.{Part}
use Rattle.fk_tree.specs.declared.request.Part.TheVariants as part
use Rattle.fk_tree.specs.declared.request.Request.{Request}
use Rattle.fk_tree.specs.declared.request.Request.TheVariants as request
use Rattle.fk_tree.proofs.Order.{same_path_self}
use Rattle.fk_law_tree.specs.Reading.{final_paths, create_reads, part_reads, parts_reads, reads, AgreeOn, CheckReads, FillReads, AskReads}
use Rattle.fk_law_tree.proofs.Members.{or_left, has_append}

-- a path that heads the list
pub at_head : (v w : View) (p : PathNames) (ps : List PathNames) → AgreeOn v w (p ∷ ps) → v.node p ≡ w.node p
at_head v w p ps a = a p (or_left _ _ (same_path_self p))

pub at_tail : (v w : View) (p : PathNames) (ps : List PathNames) → AgreeOn v w (p ∷ ps) → AgreeOn v w ps
at_tail v w p ps a q h = a q (or_right (same_path q p) _ h)

pub agree_left : (v w : View) (ps qs : List PathNames) → AgreeOn v w (ps ++ qs) → AgreeOn v w ps
agree_left v w ps qs a p h = a p (has_append p ps qs ∙ or_left _ _ h)

pub agree_right : (v w : View) (ps qs : List PathNames) → AgreeOn v w (ps ++ qs) → AgreeOn v w qs
agree_right v w ps qs a p h = a p (has_append p ps qs ∙ or_right (has_path p ps) _ h)

-- CREATE
under_reads : (v w : View) (p : PathNames) (seq : Bool) (o : Option Node) → AgreeOn v w (final_paths p seq o) → check_under v p seq o ≡ check_under w p seq o
under_reads v w p seq None a = refl
under_reads v w p seq (Some d) a = rw (at_head v w (final_path p seq d.made) [] a) refl

create_same : (v w : View) (p : PathNames) (seq : Bool) → AgreeOn v w (create_reads v p seq) → check_create v p seq ≡ check_create w p seq
create_same v w [] seq a = refl
create_same v w (n ∷ p) seq a = under_reads v w (n ∷ p) seq (v.node (parent (n ∷ p))) (at_tail v w (parent (n ∷ p)) _ a) ∙ ap (check_under w (n ∷ p) seq) (at_head v w (parent (n ∷ p)) _ a)

-- the node of the parent, also at the root
create_parent : (v w : View) (p : PathNames) (seq : Bool) → AgreeOn v w (create_reads v p seq) → v.node (parent p) ≡ w.node (parent p)
create_parent v w [] seq a = at_head v w [] [] a
create_parent v w (n ∷ p) seq a = at_head v w (parent (n ∷ p)) _ a

create_reads_same : (v w : View) (p : PathNames) (seq : Bool) → AgreeOn v w (create_reads v p seq) → create_reads v p seq ≡ create_reads w p seq
create_reads_same v w [] seq a = refl
create_reads_same v w (n ∷ p) seq a = ap (λ o. parent (n ∷ p) ∷ final_paths (n ∷ p) seq o) (create_parent v w (n ∷ p) seq a)

-- PARTS
part_check : (v w : View) (x : Part) → AgreeOn v w (part_reads v x) → check_part v x ≡ check_part w x
part_check v w (part.Create p bytes eph) a = create_same v w p false a
part_check v w (part.Set p bytes version) a = ap (check_set version) (at_head v w p [] a)
part_check v w (part.Delete p version) a = ap (check_delete p version) (at_head v w p [] a)

pub part_fill : (v w : View) (x : Part) → AgreeOn v w (part_reads v x) → fill_part v x ≡ fill_part w x
part_fill v w (part.Create p bytes eph) a = refl
part_fill v w (part.Set p bytes version) a = rw (at_head v w p [] a) refl
part_fill v w (part.Delete p version) a = refl

part_reads_same : (v w : View) (x : Part) → AgreeOn v w (part_reads v x) → part_reads v x ≡ part_reads w x
part_reads_same v w (part.Create p bytes eph) a = create_reads_same v w p false a
part_reads_same v w (part.Set p bytes version) a = refl
part_reads_same v w (part.Delete p version) a = refl

-- what is the same before a part is the same after it
after_same : (v w : View) (session : ℕ) (x : Part) (ps : List PathNames) → fill_part v x ≡ fill_part w x → AgreeOn v w ps → AgreeOn (after_part v session x) (after_part w session x) ps
after_same v w session x ps f a p h = rw (a p h, f) refl

parts_after : (v w : View) (session : ℕ) (x : Part) (xs : List Part) → AgreeOn v w (parts_reads v session (x ∷ xs)) → AgreeOn (after_part v session x) (after_part w session x) (parts_reads (after_part v session x) session xs)
parts_after v w session x xs a = after_same v w session x _ (part_fill v w x (agree_left v w (part_reads v x) _ a)) (agree_right v w (part_reads v x) _ a)

parts_check : (v w : View) (session place : ℕ) (xs : List Part) → AgreeOn v w (parts_reads v session xs) → check_parts v session place xs ≡ check_parts w session place xs
parts_check v w session place [] a = refl
parts_check v w session place (x ∷ xs) a =
    ap (λ o. or_else (at_place place o) (check_parts (after_part v session x) session (suc place) xs)) (part_check v w x (agree_left v w (part_reads v x) _ a))
    ∙ ap (or_else (at_place place (check_part w x))) (parts_check (after_part v session x) (after_part w session x) session (suc place) xs (parts_after v w session x xs a))

parts_fill : (v w : View) (session : ℕ) (xs : List Part) → AgreeOn v w (parts_reads v session xs) → fill_parts v session xs ≡ fill_parts w session xs
parts_fill v w session [] a = refl
parts_fill v w session (x ∷ xs) a =
    ap (λ m. m ∷ fill_parts (after_part v session x) session xs) (part_fill v w x (agree_left v w (part_reads v x) _ a))
    ∙ ap (λ ms. fill_part w x ∷ ms) (parts_fill (after_part v session x) (after_part w session x) session xs (parts_after v w session x xs a))

parts_reads_same : (v w : View) (session : ℕ) (xs : List Part) → AgreeOn v w (parts_reads v session xs) → parts_reads v session xs ≡ parts_reads w session xs
parts_reads_same v w session [] a = refl
parts_reads_same v w session (x ∷ xs) a =
    ap (λ ps. ps ++ parts_reads (after_part v session x) session xs) (part_reads_same v w x (agree_left v w (part_reads v x) _ a))
    ∙ ap (λ ps. part_reads w x ++ ps) (parts_reads_same (after_part v session x) (after_part w session x) session xs (parts_after v w session x xs a))

-- REQUESTS
open_reads : (v w : View) (session : ℕ) (r : Request) → AgreeOn v w (reads v session r) → check_open v session r ≡ check_open w session r
open_reads v w session (request.Create p bytes seq eph) a = ap (at_place 0) (create_same v w p seq a)
open_reads v w session (request.Set p bytes version) a = ap (λ o. at_place 0 (check_set version o)) (at_head v w p [] a)
open_reads v w session (request.Delete p version) a = ap (λ o. at_place 0 (check_delete p version o)) (at_head v w p [] a)
open_reads v w session (request.Close evict) a = refl
open_reads v w session (request.Multi xs) a = parts_check v w session 1 xs a

pub check_reads : CheckReads
check_reads v w session r c a = rw (c, open_reads v w session r a) refl

pub fill_reads : FillReads
fill_reads v w session (request.Create p bytes seq eph) a = record { name = ap (λ o. final_path p seq (made_of o)) (create_parent v w p seq a); version = refl; made = refl; reads = create_reads_same v w p seq a }
fill_reads v w session (request.Set p bytes expected) a = record { name = refl; version = rw (at_head v w p [] a) refl; made = refl; reads = refl }
fill_reads v w session (request.Delete p expected) a = record { name = refl; version = refl; made = refl; reads = refl }
fill_reads v w session (request.Close evict) a = record { name = refl; version = refl; made = refl; reads = refl }
fill_reads v w session (request.Multi xs) a = record { name = refl; version = refl; made = parts_fill v w session xs a; reads = parts_reads_same v w session xs a }

pub ask_reads : AskReads
ask_reads v w q e = ap (answer_from q) e
