-- What a follower of a close lists, on the records that its locks gave.
use Rattle.std.specs.Prelude.{◌&&◌}
use Rattle.std.proofs.Common.{◌≡◌, ℕ, Bool, true, false, List, [], ◌∷◌, refl, sym, ◌∙◌, ap, subst}
use Rattle.std.proofs.lemmas.Bool.{cond_both}
use Rattle.fk_base.specs.Path.{PathNames, path_cmp}
use Rattle.fk_tree.specs.Edit.{closes}
use Rattle.fk_tree.specs.Sorted.{has_path, rises}
use Rattle.fk_tree.specs.declared.request.Request.{Request}
use Rattle.fk_tree.specs.declared.request.Request.TheVariants as request
use Rattle.fk_tree.specs.Rows.{is_of}
use Rattle.fk_print.specs.declared.entry.Entry.{Entry}
use Rattle.fk_print.specs.declared.op.Op.{Op}
use Rattle.fk_print.specs.declared.op.Op.TheVariants as op
use Rattle.fk_law_tree.specs.Fitting.{GoneIs}
use Rattle.fk_law_tree.specs.Locking.{ListsOwned}
use Rattle.fk_stand.specs.Messages.{gone_of}
use Rattle.fk_spec.specs.Plan.{Plan}
use Rattle.fk_spec.specs.Start.{seen_with}
use Rattle.fk_spec.specs.Settling.{last_of_session}
use Rattle.fk_spec.specs.Stored.{committed_of, owned_among, stored_view}
use Rattle.fk_spec.specs.Follower.{Follower, next_with, node_in, to_lock, view_of, paths_of}
use Rattle.fk_spec.specs.Follower as follower
use Rattle.fk_spec.specs.Function.{Following, place_of}
use Rattle.fk_law.proofs.Filling.{among_has, among_rises, owned_rise}
use Rattle.fk_law.proofs.Carrying.{owned_is_granted}
use Rattle.fk_law.proofs.Standing.{OnStanding, standing_step}

-- The list of what a session owns rises in path order. -------------------------------------------------

abbrev Rises : Follower → Type 0
Rises f = rises path_cmp f.owned ≡ true

rises_on : (p : Plan) (h : List Entry) (r : Request) (o : Op) (f : Follower) → Rises f → Rises (next_with p h r o f)
rises_on p h r (op.SessionNew n) f i =
    let g = record f { last = last_of_session f.session h } in
    cond_both (closes r) (record g { stage = follower.Owned }) (to_lock (seen_with f.session f.k h) r g) Rises (λ _. i) (λ _. i)
rises_on p h r (op.Owned n count) f i = owned_rise f.session (committed_of p h)
rises_on p h r o f i = i

list_rises : (p : Plan) (n : ℕ) (h : List Entry) → OnStanding Rises (place_of p n h)
list_rises p n [] = tt
list_rises p n (e ∷ h) =
    standing_step p n h e.op (place_of p n h) Rises
    (λ f b _. subst (OnStanding Rises) b (list_rises p n h))
    (λ c k _. refl)
    (λ f r b _ _. rises_on p h r e.op f (subst (OnStanding Rises) b (list_rises p n h)))

pub owned_rises : (p : Plan) (n : ℕ) (h : List Entry) (f : Follower) → place_of p n h ≡ Following f → Rises f
owned_rises p n h f b = subst (OnStanding Rises) b (list_rises p n h)

-- What a close removes. --------------------------------------------------------------------------------

-- of the listed paths those that the records show as owned, where the list has all of these
gone_has : (f : Follower) (q : PathNames) → (is_of f.session (node_in f.granted q) ≡ true → has_path q f.owned ≡ true) → has_path q (owned_among f.session (view_of f.granted) f.owned) ≡ is_of f.session (node_in f.granted q)
gone_has f q i = among_has f.session (view_of f.granted) f.owned q ∙ by_owner (is_of f.session (node_in f.granted q)) refl
  where
    by_owner : (b : Bool) → is_of f.session (node_in f.granted q) ≡ b → (b && has_path q f.owned) ≡ b
    by_owner true e = i e
    by_owner false e = refl

pub gone_is_owned : (p : Plan) (n : ℕ) (h : List Entry) (f : Follower) (r : Request) → place_of p n h ≡ Following f → ListsOwned (stored_view p h) f.session r f.owned → ((q : PathNames) → has_path q (paths_of f.granted) ≡ true → node_in f.granted q ≡ (stored_view p h).node q) → GoneIs (view_of f.granted) f.session r (gone_of f r)
gone_is_owned p n h f (request.Create path bytes seq eph) b i a = refl
gone_is_owned p n h f (request.Set path bytes version) b i a = refl
gone_is_owned p n h f (request.Delete path version) b i a = refl
gone_is_owned p n h f (request.Close evict) b i a = (among_rises f.session (view_of f.granted) f.owned (owned_rises p n h f b), λ q. gone_has f q (λ w. i q (ap (is_of f.session) (sym (a q (owned_is_granted f.session f.granted q w))) ∙ w)))
gone_is_owned p n h f (request.Multi parts) b i a = refl
