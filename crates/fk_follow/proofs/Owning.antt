-- The paths that a table gives for a session's nodes.
use Rattle.std.proofs.Common.{◌≡◌, ℕ, Bool, false, cond, List, Some, None, sym, ◌∙◌, ap}
use Rattle.fk_base.specs.Path.{PathNames}
use Rattle.fk_store.specs.Answers.{AreOwned}
use Rattle.fk_store.specs.Meaning.{Meaning}
use Rattle.fk_tree.proofs.Order.{path_exact, path_total}
use Rattle.fk_tree.proofs.Rising.{same_rising}

-- there is one such list
owned_once : (t : Meaning) (session : ℕ) (ps qs : List PathNames) → AreOwned t session ps → AreOwned t session qs → ps ≡ qs
owned_once t session ps qs a b = same_rising path_total path_exact ps qs a.rising b.rising (λ p. a.exact p ∙ sym (b.exact p))

calm_list : (b : Bool) (ps qs : List PathNames) → b ≡ false → ps ≡ qs → Some ps ≡ cond b None (Some qs)
calm_list b ps qs e f = rw e (ap (λ x. Some x) f)

-- so where the table is calm, it gives that one
pub listed : (t : Meaning) (session : ℕ) (ps qs : List PathNames) → t.armed ≡ false → AreOwned t session ps → AreOwned t session qs → Some ps ≡ cond t.armed None (Some qs)
listed t session ps qs e a b = calm_list t.armed ps qs e (owned_once t session ps qs a b)
