-- What a first step on new services needs.
use Rattle.std.proofs.Common.{◌≡◌, ℕ, List, [], ◌∷◌, refl, sym, subst, arith}
use Rattle.fk_queue.specs.Meaning as post
use Rattle.fk_queue.specs.Meaning.{new_post}
use Rattle.fk_store.specs.Meaning as table
use Rattle.fk_store.specs.Meaning.{new_table}
use Rattle.fk_script.specs.declared.command.Command.{Command}
use Rattle.fk_script.specs.declared.command.Command.TheVariants as command
use Rattle.fk_watch.specs.Meaning.{Watches, new_watches}
use Rattle.fk_wire.specs.Limits.{IsLimitedRequest}
use Rattle.fk_wire.specs.declared.message.Pushed.{Pushed}
use Rattle.fk_wire.specs.declared.message.Sent.{Sent}
use Rattle.fk_spec.specs.Plan.{asks_of}
use Rattle.fk_follow.specs.Fit as follow
use Rattle.fk_follow.specs.Meaning as follower
use Rattle.fk_lead.specs.Fit as lead
use Rattle.fk_lead.specs.Meaning as leader
use Rattle.fk_client.specs.Fit as fit
use Rattle.fk_client.specs.Meaning as client

new_follower : (s : Sent) → IsLimitedRequest s.request → follow.IsFit (new_table 1) (new_post 1) 11 (follower.started 1 1 1 s)
new_follower s r = record {
  going = refl;
  first = omega arith;
  kept = λ e. absurd (grind arith);
  session = record { table = refl; post = refl; pushes = omega arith; inbox = omega arith };
  limits = record { inv = omega arith; k = omega arith; moment = omega arith; request = r; outcome = tt };
}

pub follower_fits : (t : table.Meaning) (q : post.Meaning) (m : follower.Meaning) (s : Sent) → t ≡ new_table 1 → q ≡ new_post 1 → m ≡ follower.started 1 1 1 s → IsLimitedRequest s.request → follow.IsFit t q 11 m
follower_fits t q m s a b e r = subst (λ x. follow.IsFit x q 11 m) (sym a) (subst (λ x. follow.IsFit (new_table 1) x 11 m) (sym b) (subst (follow.IsFit (new_table 1) (new_post 1) 11) (sym e) (new_follower s r)))

new_leader : (x : Pushed) → x.session ≡ 1 → x.k ≡ 1 → lead.IsFit (new_table 1) (new_post 1) (leader.started 2 1 x)
new_leader x s k = record {
  going = refl;
  first = omega (arith, k);
  session = subst (lead.HasSession (new_table 1) (new_post 1)) (sym s) (record { table = refl; post = refl; notes = omega arith; inbox = omega arith });
  limits = record { tx = omega arith; k = omega (arith, k); fired = tt };
}

pub leader_fits : (t : table.Meaning) (q : post.Meaning) (m : leader.Meaning) (x : Pushed) → t ≡ new_table 1 → q ≡ new_post 1 → m ≡ leader.started 2 1 x → x.session ≡ 1 → x.k ≡ 1 → lead.IsFit t q m
leader_fits t q m x a b e s k = subst (λ y. lead.IsFit y q m) (sym a) (subst (λ y. lead.IsFit (new_table 1) y m) (sym b) (subst (lead.IsFit (new_table 1) (new_post 1)) (sym e) (new_leader x s k)))

new_client : (cs : List Command) → cs ≡ command.Close ∷ [] → fit.IsFit (new_table 1) (new_post 1) new_watches (client.new_client 1 (asks_of cs))
new_client cs e = subst (λ y. fit.IsFit (new_table 1) (new_post 1) new_watches (client.new_client 1 (asks_of y))) (sym e) (record {
  busy = refl;
  table = refl;
  post = refl;
  inbox = tt;
  sends = omega arith;
  watches = omega arith;
  seen = omega arith;
  request = tt;
})

pub client_fits : (t : table.Meaning) (q : post.Meaning) (w : Watches) (m : client.Meaning) (cs : List Command) → t ≡ new_table 1 → q ≡ new_post 1 → w ≡ new_watches → m ≡ client.new_client 1 (asks_of cs) → cs ≡ command.Close ∷ [] → fit.IsFit t q w m
client_fits t q w m cs a b d e f = subst (λ y. fit.IsFit y q w m) (sym a) (subst (λ y. fit.IsFit (new_table 1) y w m) (sym b) (subst (λ y. fit.IsFit (new_table 1) (new_post 1) y m) (sym d) (subst (fit.IsFit (new_table 1) (new_post 1) new_watches) (sym e) (new_client cs f))))
