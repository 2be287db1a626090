-- The orders of names and of paths, and paths that are children of one another.
use Rattle.std.proofs.Common.{◌≡◌, Bool, true, false, cond, ◌&&◌, T, [], ◌∷◌, ◌++◌, Option, Some, None, Ordering, refl, ◌∙◌, ap, arith}
use Rattle.std.specs.declared.cmp.Ordering.TheVariants.{Less, Equal, Greater}
use Rattle.std.specs.Ordering.{is_eq, ordering_then}
use Rattle.std.specs.Cmp.{IsTotalOrder, Equal-is, tied_itself}
use Rattle.std.specs.FinMap.{IsAntisymmetric, slice_cmp-IsAntisymmetric, nat_cmp-IsAntisymmetric}
use Rattle.std.proofs.lemmas.Cmp.{nat_list_cmp_total, lists_total}
use Rattle.fk_base.specs.Path.{Name, PathNames, name_cmp, path_cmp, same_name, same_path, parent, last_name}
use Rattle.fk_tree.specs.Tree.{name_under}
use Rattle.fk_base.proofs.Logic.{by_test}

pub tested : (b : Bool) → T b → b ≡ true
tested true h = refl
tested false h = absurd h

pub tested_left : (a b : Bool) → T (a && b) → T a
tested_left true b h = tt
tested_left false b h = absurd h

pub tested_right : (a b : Bool) → T (a && b) → T b
tested_right true b h = h
tested_right false b h = absurd h

pub name_total : IsTotalOrder name_cmp
name_total = nat_list_cmp_total

pub name_exact : IsAntisymmetric name_cmp
name_exact = slice_cmp-IsAntisymmetric nat_cmp-IsAntisymmetric

pub path_total : IsTotalOrder path_cmp
path_total = lists_total nat_list_cmp_total

pub path_exact : IsAntisymmetric path_cmp
path_exact = slice_cmp-IsAntisymmetric name_exact

pub same_name_is : (a b : Name) → same_name a b ≡ true → a ≡ b
same_name_is a b e = name_exact a b ((Equal-is (name_cmp a b)).0 e)

pub same_name_self : (a : Name) → same_name a a ≡ true
same_name_self a = ap is_eq (tied_itself name_total a)

pub same_path_is : (p q : PathNames) → same_path p q ≡ true → p ≡ q
same_path_is p q e = path_exact p q ((Equal-is (path_cmp p q)).0 e)

pub same_path_self : (p : PathNames) → same_path p p ≡ true
same_path_self p = ap is_eq (tied_itself path_total p)

then_equal : (o : Ordering) → is_eq (ordering_then o Equal) ≡ is_eq o
then_equal Less = refl
then_equal Equal = refl
then_equal Greater = refl

then_less : (o : Ordering) → is_eq (ordering_then o Less) ≡ false
then_less Less = refl
then_less Equal = refl
then_less Greater = refl

then_greater : (o : Ordering) → is_eq (ordering_then o Greater) ≡ false
then_greater Less = refl
then_greater Equal = refl
then_greater Greater = refl

then_both : (o r : Ordering) → is_eq (ordering_then o r) ≡ cond (is_eq o) (is_eq r) false
then_both Less r = refl
then_both Equal r = refl
then_both Greater r = refl

-- whether o is n
abbrev pub names_it : Name → Option Name → Bool
names_it n None = false
names_it n (Some m) = same_name n m

-- the child n of p is the path q where n is q's name under p
pub child_is : (p q : PathNames) (n : Name) → same_path (p ++ n ∷ []) q ≡ names_it n (name_under p q)
child_is [] [] n = refl
child_is [] (m ∷ []) n = then_equal (name_cmp n m)
child_is [] (m ∷ k ∷ q) n = then_less (name_cmp n m)
child_is (x ∷ p) [] n = refl
child_is (x ∷ p) (y ∷ q) n =
    then_both (name_cmp x y) (path_cmp (p ++ n ∷ []) q)
    ∙ by_test (same_name x y) (λ b. cond b (same_path (p ++ n ∷ []) q) false ≡ names_it n (cond b (name_under p q) None)) (λ _. child_is p q n) (λ _. refl)

pub name_under_is : (p q : PathNames) (n : Name) → name_under p q ≡ Some n → q ≡ p ++ n ∷ []
name_under_is [] [] n e = grind arith
name_under_is [] (m ∷ []) n e = grind arith
name_under_is [] (m ∷ k ∷ q) n e = grind arith
name_under_is (x ∷ p) [] n e = grind arith
name_under_is (x ∷ p) (y ∷ q) n e = grind (arith, same_name_is x y, name_under_is p q n)

-- children of one path are ordered by their names
pub child_order : (p : PathNames) (n m : Name) → path_cmp (p ++ n ∷ []) (p ++ m ∷ []) ≡ name_cmp n m
child_order [] n m = then_itself (name_cmp n m)
  where
    then_itself : (o : Ordering) → ordering_then o Equal ≡ o
    then_itself Less = refl
    then_itself Equal = refl
    then_itself Greater = refl
child_order (x ∷ p) n m = rw (tied_itself name_total x) (child_order p n m)

-- two children are the same where their parents and their names are
pub same_child : (p q : PathNames) (n m : Name) → same_path (p ++ n ∷ []) (q ++ m ∷ []) ≡ (same_path p q && same_name n m)
same_child [] [] n m = then_equal (name_cmp n m)
same_child [] (y ∷ []) n m = then_less (name_cmp n y)
same_child [] (y ∷ z ∷ q) n m = then_less (name_cmp n y)
same_child (x ∷ []) [] n m = then_greater (name_cmp x m)
same_child (x ∷ z ∷ p) [] n m = then_greater (name_cmp x m)
same_child (x ∷ p) (y ∷ q) n m =
    then_both (name_cmp x y) (path_cmp (p ++ n ∷ []) (q ++ m ∷ []))
    ∙ rw (then_both (name_cmp x y) (path_cmp p q), same_child p q n m) (grouped (same_name x y) (same_path p q) (same_name n m))
  where
    grouped : (a b c : Bool) → cond a (b && c) false ≡ (cond a b false && c)
    grouped true b c = refl
    grouped false b c = refl

-- a child is not its parent
pub child_apart : (p : PathNames) (n : Name) → same_path (p ++ n ∷ []) p ≡ false
child_apart [] n = refl
child_apart (x ∷ p) n = rw (tied_itself name_total x) (child_apart p n)

pub child_not_root : (p : PathNames) (n : Name) → same_path (p ++ n ∷ []) [] ≡ false
child_not_root [] n = refl
child_not_root (x ∷ p) n = refl

-- each path but the root is a child
pub child_parts : (x : Name) (p : PathNames) → x ∷ p ≡ parent (x ∷ p) ++ last_name (x ∷ p) ∷ []
child_parts x [] = refl
child_parts x (y ∷ p) = ap (λ q. x ∷ q) (child_parts y p)
