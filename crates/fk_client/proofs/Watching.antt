-- The number of a watch, by its registration.
use Rattle.std.proofs.Common.{◌≡◌, ◌≤◌, ◌==◌, inl, inr, ℕ, zero, suc, true, false, cond, Option, Some, None, refl, sym, ap, subst, arith}
use Rattle.std.specs.Prelude.{◌&&◌, nat_lt}
use Rattle.std.proofs.lemmas.Bool.Decides.{nat_tests}
use Rattle.std.proofs.lemmas.Bool.{eqb-true, eq-eqb}
use Rattle.fk_base.specs.Path.{PathNames, same_path}
use Rattle.fk_tree.proofs.Order.{same_path_is, same_path_self}
use Rattle.fk_tree.specs.Ask.{path_asked}
use Rattle.fk_tree.specs.Watch.{kind_asked, same_kind}
use Rattle.fk_tree.specs.declared.change.Kind.{Kind}
use Rattle.fk_tree.specs.declared.request.Query.{Query}
use Rattle.fk_watch.specs.Answers.{IsRegister}
use Rattle.fk_watch.specs.declared.answer.Register.TheVariants as register
use Rattle.fk_watch.specs.declared.watch.Watch.{Watch}
use Rattle.fk_watch.specs.Meaning.{Watches}
use Rattle.fk_watch.specs.Registering.{IsNumberOf, IsUnset, registered}
use Rattle.fk_watch.specs.Sound.{IsGiven, IsSound}
use Rattle.fk_client.specs.Registering.{is_watch, register_for, set_number, watch_number, watch_of}
use Rattle.fk_client.specs.declared.registering.Registered.TheVariants as registering
use Rattle.fk_base.proofs.Logic.{and_left, and_right, by_test}
use Rattle.fk_tree.proofs.SameKind.{same_kind_is, same_kind_self}

abbrev some_watch : ℕ → PathNames → Kind → Option Watch
some_watch s p k = Some (record { session = s; path = p; kind = k })

same_watch : (s t : ℕ) (p q : PathNames) (k l : Kind) → s ≡ t → p ≡ q → k ≡ l → some_watch s p k ≡ some_watch t q l
same_watch s t p q k l e f g = rw (e, f, g) refl

-- the test for a watch is true of it alone
is_itself : (w x : Watch) → is_watch w (Some x) ≡ true → Some x ≡ Some w
is_itself w x e =
    let front : ((x.session == w.session) && same_path x.path w.path) ≡ true = and_left ((x.session == w.session) && same_path x.path w.path) (same_kind x.kind w.kind) e in
    same_watch x.session w.session x.path w.path x.kind w.kind
    (eqb-true x.session w.session (and_left (x.session == w.session) (same_path x.path w.path) front))
    (same_path_is x.path w.path (and_right (x.session == w.session) (same_path x.path w.path) front))
    (same_kind_is x.kind w.kind (and_right ((x.session == w.session) && same_path x.path w.path) (same_kind x.kind w.kind) e))

is_there : (w : Watch) (o : Option Watch) → is_watch w o ≡ true → o ≡ Some w
is_there w None e = grind arith
is_there w (Some x) e = is_itself w x e

finds_itself : (w : Watch) → is_watch w (Some w) ≡ true
finds_itself w = rw (eq-eqb w.session w.session refl, same_path_self w.path, same_kind_self w.kind) refl

-- the number of a set watch is found
finds_set : (m : Watches) (w : Watch) (n c : ℕ) → IsSound m → m.set n ≡ Some w → 1 ≤ n → n ≤ c → set_number w m.set c ≡ Some n
finds_set m w n zero s e l h = absurd (omega arith)
finds_set m w n (suc c) s e l h =
    by_test (is_watch w (m.set (suc c))) (λ b. cond b (Some (suc c)) (set_number w m.set c) ≡ Some n)
    (λ t. ap (λ i. Some i) (s.one (suc c) n w (is_there w (m.set (suc c)) t) e))
    (λ f. finds_set m w n c s e l (before f))
  where
    apart : is_watch w (m.set (suc c)) ≡ true → is_watch w (m.set (suc c)) ≡ false → ⊥
    apart t f = grind arith

    before : is_watch w (m.set (suc c)) ≡ false → n ≤ c
    before f = by_test (n == suc c) (λ b. n ≤ c)
        (λ t. absurd (apart (rw (sym (eqb-true n (suc c) t), e) (finds_itself w)) f))
        (λ g. grind (arith, nat_tests))

-- no number is found of a watch that isn't set
finds_none : (m : Watches) (w : Watch) (c : ℕ) → IsUnset w m → set_number w m.set c ≡ None
finds_none m w zero u = refl
finds_none m w (suc c) u =
    by_test (is_watch w (m.set (suc c))) (λ b. cond b (Some (suc c)) (set_number w m.set c) ≡ None)
    (λ t. absurd (u (suc c) (is_there w (m.set (suc c)) t)))
    (λ f. finds_none m w c u)

-- a watch that is set stays as it is
stays : (m : Watches) (w : Watch) (n : ℕ) → m.set n ≡ Some w → registered w n m ≡ m
stays m w n e = rw e refl

number_is : (m : Watches) (w : Watch) (n : ℕ) → IsNumberOf w m n → IsSound (registered w n m) → n ≡ watch_number m w
number_is m w n (inl e) s = rw (found (rw (sym (stays m w n e)) s)) refl
  where
    found : IsSound m → set_number w m.set m.given ≡ Some n
    found t = let g : IsGiven m n = t.set_given n (rw e refl) in finds_set m w n m.given t e g.0 g.1
number_is m w n (inr u) s = rw (finds_none m w m.given u.0) u.1

-- what becomes of a registration that sets the watch
set_is : (m k : Watches) (w : Watch) (n number : ℕ) → IsRegister m w number (register.Done n) → k ≡ registered w n m → IsSound k → registering.Set n ≡ register_for m w number
set_is m k w n number a e s = rw (a.0, passes a.1) (ap (λ x. registering.Set x) (number_is m w n a.2 (subst IsSound e s)))
  where
    passes : m.last w.path ≤ number → nat_lt number (m.last w.path) ≡ false
    passes l = grind (arith, nat_tests)

pub set_for : (m k : Watches) (session : ℕ) (path : PathNames) (kind : Kind) (q : Query) (n number : ℕ) → path ≡ path_asked q → kind ≡ kind_asked q → IsRegister m (record { session = session; path = path; kind = kind }) number (register.Done n) → k ≡ registered (record { session = session; path = path; kind = kind }) n m → IsSound k → registering.Set n ≡ register_for m (watch_of session q) number
set_for m k session path kind q n number e f a b s =
    subst (λ x. registering.Set n ≡ register_for m (record { session = session; path = x; kind = kind_asked q }) number) e
    (subst (λ x. registering.Set n ≡ register_for m (record { session = session; path = path; kind = x }) number) f
    (set_is m k (record { session = session; path = path; kind = kind }) n number a b s))
