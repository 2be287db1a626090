-- A function's operation, and its fault.
use Rattle.std.specs.Prelude.{⊤}
use Rattle.std.proofs.Common.{◌≡◌, ℕ, List, [], ◌∷◌, sym, ◌∙◌, subst, arith, Option, Some}
use Rattle.fk_print.specs.declared.entry.Entry.{Entry}
use Rattle.fk_print.specs.declared.op.Op.{Op}
use Rattle.fk_print.specs.declared.op.Op.TheVariants as op
use Rattle.fk_base.specs.Limits.{IsNumber}
use Rattle.fk_watch.specs.Services.{Services}
use Rattle.fk_stand.specs.Standing.{Standing}
use Rattle.fk_spec.specs.Plan.{Plan}
use Rattle.fk_spec.specs.Start.{clock_after, clock_of}
use Rattle.fk_spec.specs.Function.{actor}
use Rattle.fk_spec.specs.Next.{IsHistory, next_lines}
use Rattle.fk_agree.specs.Sending.{Sends}
use Rattle.fk_engine.specs.Flights.{with_running}
use Rattle.fk_engine.specs.Machines as machine
use Rattle.fk_engine.specs.Parts.{Meaning}
use Rattle.fk_law.proofs.Starting.{no_start, no_client}
use Rattle.fk_agree_engine.specs.World.{IsWorld, StandsAs}
use Rattle.fk_agree_engine.proofs.Flights.{functions_move}
use Rattle.fk_agree_engine.proofs.Readable.{still_readable}
use Rattle.fk_agree_engine.proofs.Turning.{clients_stay}

-- What a function's operation leaves. --------------------------------------------------------------------

no_clock : (o : Op) (n k : ℕ) → actor o ≡ Some n → clock_after o k ≡ k
no_clock o n k e = grind arith

-- a function's operation, which leaves the function and the services so
pub move_world : (p : Plan) (n : ℕ) (e : Entry) (h : List Entry) (w : Meaning) (o : Option machine.Meaning) (s : Services) → IsHistory p (e ∷ h) → actor e.op ≡ Some n → StandsAs p n (e ∷ h) o → Standing p (e ∷ h) s.table s.post s.user s.watches → Sends p h e.op → IsWorld p h w
    → IsWorld p (e ∷ h) (record w { functions = with_running n o w.functions; services = s })
move_world p n e h w o s l a t y r z = record {
  history = l;
  clock = z.clock ∙ sym (no_clock e.op n (clock_of h) a);
  moment = subst IsNumber (sym (no_clock e.op n (clock_of h) a)) z.moment;
  lock = z.lock;
  beat = z.beat;
  functions = functions_move p n e h w.functions o l a (no_start e.op n a) t z.functions;
  clients = clients_stay p e h w.clients l (no_client e.op n a) z.clients;
  services = y;
  readable = still_readable p e h l r z.readable;
}

-- Its lines. ---------------------------------------------------------------------------------------------

-- a line that publishes nothing and is no client's prints nothing
abbrev pub PublishesNothing : Op → Type 0
PublishesNothing (op.PublishOk n t) = ⊥
PublishesNothing _ = ⊤

pub prints_nothing : (p : Plan) (h : List Entry) (o : Op) (n : ℕ) → actor o ≡ Some n → PublishesNothing o → next_lines p h o ≡ []
prints_nothing p h (op.PublishOk m t) n a k = absurd k
prints_nothing p h o n a k = nothing p h o n a k
  where
    nothing : (p : Plan) (h : List Entry) (o : Op) (n : ℕ) → actor o ≡ Some n → PublishesNothing o → next_lines p h o ≡ []
    nothing p h o n a k = grind arith
