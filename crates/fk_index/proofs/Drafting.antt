-- The nodes of a draft over those of a table.
use Rattle.std.proofs.Common.{◌≡◌, ℕ, true, false, cond, Option, Some, None, refl, sym, ◌∙◌, ap}
use Rattle.std.specs.Prelude.{is_some}
use Rattle.std.specs.BTreeMap as tree
use Rattle.std.proofs.lemmas.Bool.{false≢true}
use Rattle.fk_base.specs.Path.{PathNames, path_cmp, same_path}
use Rattle.fk_tree.specs.Edit.{edit}
use Rattle.fk_tree.specs.declared.edit.Edit.{Edit}
use Rattle.fk_tree.specs.declared.node.Node.{Node}
use Rattle.fk_tree.proofs.Order.{same_path_is, same_path_self}
use Rattle.fk_index.specs.Slots.{Slots, flat, node_of, record_at}
use Rattle.fk_index.specs.Drafts.{Drafts, drafted, is_drafted, node_over, or_node}
use Rattle.fk_index.proofs.Finding.{put, written, IsUpdated, IsWritten}
use Rattle.fk_base.proofs.Logic.{by_test}

-- the draft's node is the one of a path that it has
pub drafted_is : (d : Drafts) (m : Slots) (k : PathNames) → is_drafted d k ≡ true → drafted d k ≡ node_over d m k
drafted_is d m k h = step (tree.get path_cmp d k) h
  where
    step : (o : Option (Option Node)) → is_some o ≡ true → flat o ≡ or_node o (node_of (record_at m k))
    step None h = absurd (false≢true h)
    step (Some n) h = refl

-- a path that the draft doesn't have
pub undrafted : (d : Drafts) (m : Slots) (k : PathNames) → is_drafted d k ≡ false → node_over d m k ≡ node_of (record_at m k)
undrafted d m k h = step (tree.get path_cmp d k) h
  where
    step : (o : Option (Option Node)) → is_some o ≡ false → or_node o (node_of (record_at m k)) ≡ node_of (record_at m k)
    step None h = refl
    step (Some n) h = absurd (false≢true (sym h))

-- a node put into the draft
pub staged_here : (d e : Drafts) (k : PathNames) (o : Option Node) → IsUpdated d e k (Some o) → drafted e k ≡ o
staged_here d e k o u = ap flat (put d e k (Some o) u k ∙ ap (λ b. cond b (Some o) (tree.get path_cmp d k)) (same_path_self k))

pub staged_other : (d e : Drafts) (m : Slots) (k : PathNames) (o : Option Node) → IsUpdated d e k (Some o) → (p : PathNames) → same_path p k ≡ false → node_over e m p ≡ node_over d m p
staged_other d e m k o u p f = ap (λ x. or_node x (node_of (record_at m p))) (put d e k (Some o) u p ∙ ap (λ b. cond b (Some o) (tree.get path_cmp d p)) f)

-- an edit of a path's node in the draft
pub edited_over : (tx moment : ℕ) (e : Edit) (c d f : Drafts) (m : Slots)
    → ((t n : ℕ) → edit t n e.what (drafted d e.path) ≡ edit t n e.what (node_over c m e.path))
    → ((p : PathNames) → same_path p e.path ≡ false → node_over d m p ≡ node_over c m p)
    → ((p : PathNames) → tree.get path_cmp f p ≡ cond (same_path p e.path) (Some (edit tx moment e.what (drafted d e.path))) (tree.get path_cmp d p))
    → (p : PathNames) → node_over f m p ≡ cond (same_path p e.path) (edit tx moment e.what (node_over c m p)) (node_over c m p)
edited_over tx moment e c d f m s h u p =
    ap (λ x. or_node x (node_of (record_at m p))) (u p)
    ∙ by_test (same_path p e.path) (λ b. or_node (cond b (Some (edit tx moment e.what (drafted d e.path))) (tree.get path_cmp d p)) (node_of (record_at m p)) ≡ cond b (edit tx moment e.what (node_over c m p)) (node_over c m p))
    (λ t. s tx moment ∙ rw (same_path_is p e.path t) refl) (λ g. h p g)

-- an edit through what a look-up lent
pub edited_draft : (tx moment : ℕ) (e : Edit) (d : Drafts) (l : Option Node → Drafts) (o v : Option Node) → Some o ≡ tree.get path_cmp d e.path → IsWritten d e.path l → v ≡ edit tx moment e.what o
    → (p : PathNames) → tree.get path_cmp (l v) p ≡ cond (same_path p e.path) (Some (edit tx moment e.what (drafted d e.path))) (tree.get path_cmp d p)
edited_draft tx moment e d l o v h w s p = written d e.path l o v h w p ∙ ap (λ x. cond (same_path p e.path) x (tree.get path_cmp d p)) (ap Some (s ∙ ap (λ x. edit tx moment e.what (flat x)) h))
