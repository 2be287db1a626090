-- A request as it is filled from a view.
use Rattle.std.specs.Prelude.{◌≡◌, ◌<◌, ℕ, true, false, List, [], None}
use Rattle.fk_base.specs.Path.{PathNames, path_cmp}
use Rattle.fk_tree.specs.Sorted.{has_path, rises}
use Rattle.fk_tree.specs.View.{View, look}
use Rattle.fk_tree.specs.Tree.{Tree}
use Rattle.fk_tree.specs.Edit.{closes, after}
use Rattle.fk_tree.specs.Fill.{fill_name, fill_version, fill_made}
use Rattle.fk_tree.specs.Check.{check}
use Rattle.fk_tree.specs.Apply.{IsFilled, reply_of}
use Rattle.fk_tree.specs.declared.applied.Applied.{Applied}
use Rattle.fk_tree.specs.declared.request.Request.{Request}
use Rattle.fk_tree.specs.declared.request.Request.TheVariants as request
use Rattle.fk_tree.specs.Rows.{is_of}
use Rattle.fk_law_tree.specs.Reading.{reads, AgreeOn}

-- a close removes the paths whose node its session owns, in path order; no other request removes any
abbrev pub GoneIs : View → ℕ → Request → List PathNames → Type 0
GoneIs v session (request.Close evict) gone = (rises path_cmp gone ≡ true) × ((p : PathNames) → has_path p gone ≡ is_of session (v.node p))
GoneIs v session _ gone = gone ≡ []

-- a session's request that passes on this view, as it is filled from it
pub record Fits (v : View) (a : Applied) : Type 0 where
  pub session : 0 < a.session
  pub passes : check v a.session a.request ≡ None
  pub name : a.name ≡ fill_name v a.request
  pub version : a.version ≡ fill_version v a.request
  pub made : a.made ≡ fill_made v a.session a.request
  pub gone : GoneIs v a.session a.request a.gone

-- what fits what a tree shows is what is filled on the tree
abbrev pub FitsWhatIsShown : Type 0
FitsWhatIsShown = (t : Tree) (a : Applied) → (Fits (look t) a → IsFilled t a) × (IsFilled t a → Fits (look t) a)

-- a request of the same transaction, moment and place in its session
pub record IsSame (a b : Applied) : Type 0 where
  pub tx : a.tx ≡ b.tx
  pub moment : a.moment ≡ b.moment
  pub session : a.session ≡ b.session
  pub k : a.k ≡ b.k
  pub request : a.request ≡ b.request

-- a request fits a view in one way
abbrev pub OneFits : Type 0
OneFits = (v : View) (a b : Applied) → Fits v a → Fits v b → IsSame a b → a ≡ b

-- a request that fits two views with the same nodes where it reads has the same reply on both
abbrev pub SameReply : Type 0
SameReply =
    (v w : View) (a b : Applied) → Fits v a → Fits w b → a.session ≡ b.session → a.request ≡ b.request → AgreeOn v w (reads v a.session a.request)
    → reply_of a ≡ reply_of b

-- after a close that fits, its session owns no node
abbrev pub CloseLeavesNone : Type 0
CloseLeavesNone = (v : View) (a : Applied) (p : PathNames) → Fits v a → closes a.request ≡ true → is_of a.session ((after v a).node p) ≡ false
