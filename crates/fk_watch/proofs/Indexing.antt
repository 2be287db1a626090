-- Numbers that are put into an index and taken out.
use Rattle.std.proofs.Common.{◌≡◌, ℕ, ◌==◌, ◌&&◌, Bool, true, false, cond, Option, Some, None, refl, sym, ◌∙◌, ap, arith}
use Rattle.std.specs.Prelude.{is_some}
use Rattle.std.specs.BTreeMap as tree
use Rattle.std.specs.BTreeMap.{is_at, IsEmpty}
use Rattle.std.specs.Ordering.{nat_cmp}
use Rattle.fk_base.specs.Path.{PathNames, path_cmp, same_path}
use Rattle.fk_tree.proofs.Order.{same_path_is, same_path_self}
use Rattle.fk_tree.proofs.Looking.{same_flip}
use Rattle.fk_watch.specs.Index.{Index, Numbers, has_place, number_at, number_in, KeepsNumbers}
use Rattle.fk_base.proofs.Logic.{by_test}

-- one path has these numbers, and the others keep theirs
abbrev pub IsUpdated : Index → Index → PathNames → Option Numbers → Type 0
IsUpdated m n k w = (q : PathNames) → tree.get path_cmp n q ≡ cond (is_at (path_cmp k) q) w (tree.get path_cmp m q)

pub updated : (m n : Index) (k : PathNames) (w : Option Numbers) → IsUpdated m n k w → (p : PathNames) (s : ℕ) → number_in n p s ≡ cond (same_path p k) (number_at s w) (number_in m p s)
updated m n k w u p s = ap (number_at s) (u p) ∙ rw (same_flip k p) (step (same_path p k) (tree.get path_cmp m p))
  where
    step : (b : Bool) (o : Option Numbers) → number_at s (cond b w o) ≡ cond b (number_at s w) (number_at s o)
    step true o = refl
    step false o = refl

no_numbers : (e : Numbers) (s : ℕ) → IsEmpty e → tree.get nat_cmp e s ≡ None
no_numbers e s h = rw h refl

-- an empty place where there was none
pub place_added : (m n : Index) (k : PathNames) (e : Numbers) → is_some (tree.get path_cmp m k) ≡ false → IsEmpty e → IsUpdated m n k (Some e) → KeepsNumbers m n
place_added m n k e h empty u p s =
    updated m n k (Some e) u p s
    ∙ by_test (same_path p k) (λ b. cond b (tree.get nat_cmp e s) (number_in m p s) ≡ number_in m p s)
    (λ t. no_numbers e s empty ∙ sym (rw (same_path_is p k t) (missing (tree.get path_cmp m k) h)))
    (λ _. refl)
  where
    missing : (o : Option Numbers) → is_some o ≡ false → number_at s o ≡ None
    missing None h = refl
    missing (Some x) h = absurd (cc)

pub placed : (m n : Index) (k : PathNames) (w : Numbers) → IsUpdated m n k (Some w) → has_place k n ≡ true
placed m n k w u = let e : tree.get path_cmp n k ≡ Some w = u k ∙ rw (same_path_self k) refl in ap is_some e

-- one number of a path changes, by what it was lent
pub number_changed : (m n : Index) (k : PathNames) (old new : Numbers) (session : ℕ) (v : Option ℕ) → Some old ≡ tree.get path_cmp m k → IsUpdated m n k (Some new)
    → ((s : ℕ) → tree.get nat_cmp new s ≡ cond (is_at (nat_cmp session) s) v (tree.get nat_cmp old s))
    → (p : PathNames) (s : ℕ) → number_in n p s ≡ cond (same_path p k && (s == session)) v (number_in m p s)
number_changed m n k old new session v e u c p s =
    updated m n k (Some new) u p s
    ∙ by_test (same_path p k) (λ b. cond b (tree.get nat_cmp new s) (number_in m p s) ≡ cond (b && (s == session)) v (number_in m p s))
    (λ t. c s ∙ rw (same_number session s) (ap (cond (s == session) v) (ap (number_at s) e ∙ rw (same_path_is p k t) refl)))
    (λ _. refl)
  where
    same_number : (a b : ℕ) → is_at (nat_cmp a) b ≡ (b == a)
    same_number a b = grind arith

pub same_put_back : (m n : Index) (k : PathNames) (old new : Numbers) → Some old ≡ tree.get path_cmp m k → IsUpdated m n k (Some new) → ((s : ℕ) → tree.get nat_cmp new s ≡ tree.get nat_cmp old s) → KeepsNumbers m n
same_put_back m n k old new e u c p s =
    updated m n k (Some new) u p s
    ∙ by_test (same_path p k) (λ b. cond b (tree.get nat_cmp new s) (number_in m p s) ≡ number_in m p s)
    (λ t. c s ∙ ap (number_at s) e ∙ rw (same_path_is p k t) refl)
    (λ _. refl)

pub none_there : (m n : Index) (k : PathNames) (session : ℕ) → None ≡ tree.get path_cmp m k → n ≡ m → (p : PathNames) (s : ℕ) → number_in n p s ≡ cond (same_path p k && (s == session)) None (number_in m p s)
none_there m n k session e same p s =
    rw same
    (by_test (same_path p k) (λ b. number_in m p s ≡ cond (b && (s == session)) None (number_in m p s))
    (λ t. rw (same_path_is p k t, ← e) (step (s == session) None))
    (λ _. refl))
  where
    step : (b : Bool) (o : Option ℕ) → o ≡ cond b o o
    step true o = refl
    step false o = refl
