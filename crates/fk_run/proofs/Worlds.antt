-- A run is written, and its world is held.
use Rattle.std.proofs.Common.{◌≡◌, ℕ, Bool, false, List, Option, Some, refl, ◌∙◌, ap, subst, inr}
use Rattle.std.specs.Io.KnownBytes.{Appends}
use Rattle.fk_print.specs.declared.entry.Entry.{Entry}
use Rattle.fk_script.specs.declared.deployment.Deployment.{Deployment}
use Rattle.fk_spec.specs.Run.{IsRunOf}
use Rattle.fk_world.specs.World.{View}
use Rattle.fk_run.specs.Statuses.{Cuts, IsTextOf, WritesFront, WritesRun, run_text}

-- the world of a run of deployment d, of which x and h are what was written
pub world_written : (summary : Bool) (d x : Deployment) (h : List Entry) (w : View) (a b : Option (List ℕ)) → w.deployment ≡ d → w.spent ≡ false → IsRunOf d w.past
    → x ≡ w.deployment → h ≡ w.past → Appends a b (run_text summary x h) → WritesRun summary d a b (Some w)
world_written summary d x h w a b e g r p q t = record {
  text = run_text summary d w.past;
  run = record { history = w.past; ran = r; is = refl };
  held = ap (λ (z : Deployment). Some (record { deployment = z; past = w.past; spent = w.spent })) e ∙ ap (λ (z : Bool). Some (record { deployment = d; past = w.past; spent = z })) g;
  written = subst (λ (z : Deployment). Appends a b (run_text summary z w.past)) (p ∙ e) (subst (λ (z : List Entry). Appends a b (run_text summary x z)) q t);
}

-- the same, where it was cut off
pub world_cut : (summary : Bool) (d x : Deployment) (h : List Entry) (w : View) (a b : Option (List ℕ)) → w.deployment ≡ d → IsRunOf d w.past
    → x ≡ w.deployment → h ≡ w.past → WritesFront a b (run_text summary x h) → Cuts (IsTextOf summary d) a b
world_cut summary d x h w a b e r p q f =
    inr (run_text summary x h, record { history = w.past; ran = r; is = ap (λ (z : Deployment). run_text summary z h) (p ∙ e) ∙ ap (λ (z : List Entry). run_text summary d z) q }, f)
