-- The sessions that the writes name exist where the request's own does.
use Rattle.std.proofs.Common.{◌≡◌, ℕ, Bool, true, false, cond, ◌&&◌, List, [], ◌∷◌, ◌++◌, refl}
use Rattle.std.specs.Prelude.{is_some}
use Rattle.fk_base.specs.Path.{PathNames}
use Rattle.fk_tree.specs.Edit.{closes, effects}
use Rattle.fk_tree.specs.Sorted.{in_path_order}
use Rattle.fk_tree.specs.declared.edit.Edit.{Edit}
use Rattle.fk_tree.specs.declared.request.Request.{Request}
use Rattle.fk_store.specs.Meaning.{Meaning}
use Rattle.fk_store.specs.Writes.{are_fit_writes, is_fit_write}
use Rattle.fk_store.specs.declared.outcome.Outcome.{Outcome}
use Rattle.fk_store.specs.declared.outcome.Outcome.TheVariants as kept
use Rattle.fk_store.specs.declared.write.Write.{Write}
use Rattle.fk_store.specs.declared.write.Write.TheVariants as write
use Rattle.fk_wire.specs.declared.message.Pushed.{Pushed}
use Rattle.fk_settle.specs.Transaction.{applied_as, change_writes, close_writes, commit_writes, refuse_writes, release_writes}

fit_append : (t : Meaning) (ws vs : List Write) → are_fit_writes t ws ≡ true → are_fit_writes t vs ≡ true → are_fit_writes t (ws ++ vs) ≡ true
fit_append t [] vs a b = b
fit_append t (w ∷ ws) vs a b = step (is_fit_write t w) a (λ e. fit_append t ws vs e b)
  where
    step : (c : Bool) → (c && are_fit_writes t ws) ≡ true → (are_fit_writes t ws ≡ true → are_fit_writes t (ws ++ vs) ≡ true) → (c && are_fit_writes t (ws ++ vs)) ≡ true
    step true e f = f e
    step false e f = e

fit_changes : (t : Meaning) (tx moment : ℕ) (es : List Edit) → are_fit_writes t (change_writes tx moment es) ≡ true
fit_changes t tx moment [] = refl
fit_changes t tx moment (e ∷ es) = fit_changes t tx moment es

fit_releases : (t : Meaning) (ps : List PathNames) → are_fit_writes t (release_writes ps) ≡ true
fit_releases t [] = refl
fit_releases t (p ∷ ps) = fit_releases t ps

fit_close : (t : Meaning) (session : ℕ) (r : Request) → is_some (t.sessions session) ≡ true → are_fit_writes t (close_writes session r) ≡ true
fit_close t session r e = step (closes r)
  where
    step : (c : Bool) → are_fit_writes t (cond c (write.CloseSession session ∷ []) []) ≡ true
    step true = rw e refl
    step false = refl

fit_settle : (t : Meaning) (session k : ℕ) (o : Outcome) (ws : List Write) → is_some (t.sessions session) ≡ true → are_fit_writes t ws ≡ true → are_fit_writes t (write.Settle session k o ∷ ws) ≡ true
fit_settle t session k o ws e f = rw e f

fit_pending : (t : Meaning) (session tx : ℕ) (ws : List Write) → is_some (t.sessions session) ≡ true → are_fit_writes t ws ≡ true → are_fit_writes t (write.AddPending session tx ∷ ws) ≡ true
fit_pending t session tx ws e f = rw e f

pub fit_commit : (t : Meaning) (tx : ℕ) (x : Pushed) → is_some (t.sessions x.session) ≡ true → are_fit_writes t (commit_writes tx x) ≡ true
fit_commit t tx x e =
    let changes = change_writes tx x.moment (effects (applied_as tx x)) in
    let release = release_writes (in_path_order x.paths) in
    fit_append t (changes ++ (write.AddPending x.session tx ∷ release)) (write.Settle x.session x.k (kept.Applied tx) ∷ close_writes x.session x.request)
    (fit_append t changes (write.AddPending x.session tx ∷ release) (fit_changes t tx x.moment (effects (applied_as tx x)))
    (fit_pending t x.session tx release e (fit_releases t (in_path_order x.paths))))
    (fit_settle t x.session x.k (kept.Applied tx) (close_writes x.session x.request) e (fit_close t x.session x.request e))

pub fit_refuse : (t : Meaning) (session k : ℕ) (o : Outcome) (ps : List PathNames) → is_some (t.sessions session) ≡ true → are_fit_writes t (refuse_writes session k o ps) ≡ true
fit_refuse t session k o ps e = fit_append t (release_writes ps) (write.Settle session k o ∷ []) (fit_releases t ps) (fit_settle t session k o [] e refl)
