-- A client goes on from where it stands to where the longer history says.
use Rattle.std.specs.Prelude.{◌==◌, ◌++◌}
use Rattle.std.proofs.Common.{◌≡◌, ℕ, Bool, true, false, cond, List, ◌∷◌, refl, sym, ◌∙◌, ap, Option, Some, None}
use Rattle.std.proofs.lemmas.Bool.{eqb-true}
use Rattle.fk_print.specs.declared.entry.Entry.{Entry}
use Rattle.fk_print.specs.declared.op.Op.{Op}
use Rattle.fk_queue.specs.Meaning as post
use Rattle.fk_store.specs.Meaning as table
use Rattle.fk_user.specs.Meaning as user
use Rattle.fk_watch.specs.Meaning as watches
use Rattle.fk_wire.specs.declared.message.Tell.{Tell}
use Rattle.fk_stand.specs.Posts.{post_after}
use Rattle.fk_stand.specs.Stores.{store_after, watches_after}
use Rattle.fk_spec.specs.Plan.{Plan, asks_in, is_client}
use Rattle.fk_spec.specs.Shown.{seen_by, seen_lines}
use Rattle.fk_spec.specs.Lanes.{inbox_of}
use Rattle.fk_spec.specs.Client.{Client, acted, acted_by, by_result, client_by, client_in, client_of, flushed, ready_first}
use Rattle.fk_spec.specs.Sight.{sight_of}
use Rattle.fk_spec.specs.Replies.{own_lines, reply_lines}
use Rattle.fk_spec.specs.Next.{IsHistory, next_lines}
use Rattle.fk_law.specs.Due.{IsDue}
use Rattle.fk_law.proofs.Due.{due}
use Rattle.fk_law_watch.specs.FirstNumbers.{ReadsAreReads}
use Rattle.fk_law_watch.proofs.Reading.{client_unseen, next_is, none_unseen, seen_append}
use Rattle.fk_client.specs.Knowing.{client_known, told_known}
use Rattle.fk_client.specs.Known.{by_outcome}
use Rattle.fk_client.specs.Meaning.{Meaning, new_client}
use Rattle.fk_client.specs.Operation.{step_op}
use Rattle.fk_client.specs.Shown.{after_by, lines_by, lines_in, made_in, ready_lines, wording_of}
use Rattle.fk_client.specs.Sighting.{outcome_told, sight_by}
use Rattle.fk_client.specs.declared.unanswered.Unanswered.{Unanswered}
use Rattle.fk_client.proofs.Same.{same_acted}
use Rattle.fk_law.proofs.Printing.{lines_are as history_lines}
use Rattle.fk_agree_client.specs.Inbox.{FirstTells}
use Rattle.fk_agree_client.specs.Standing.{AllTell, Holds, standing}
use Rattle.fk_agree_client.specs.Making.{ClientFails, ClientGoesOn, ClientMakesItsOp, ClientPrintsItsLines, Looks, NewClientStands, OthersLeaveIt}
use Rattle.fk_agree_client.proofs.Acting.{failed_is, known_after, op_is, told_fits}
use Rattle.fk_agree_client.proofs.Printing.{lines_are}
use Rattle.fk_agree_client.proofs.Reading.{sights_agree, told_sight}
use Rattle.fk_agree_client.proofs.Telling.{acted_tell, all_stay, ready_gone}

-- Its own operation. -------------------------------------------------------------------------------------

abbrev acted_as : Plan → ℕ → List Entry → Option Tell → Op → Client Unanswered → Client Unanswered
acted_as p c h told o x = acted by_outcome (told_sight p c h told) (outcome_told told) o x

acted_known : (p : Plan) (c : ℕ) (h : List Entry) (told : Option Tell) (o : Op) (x : Client Unanswered) → IsDue p h o → client_in o ≡ Some c → client_known x ≡ client_of p c h → FirstTells p h (inbox_of p c h) told
    → client_known (acted_as p c h told o x) ≡ acted_by (sight_of p c h) o (client_of p c h)
acted_known p c h told o x d e k r =
    same_acted (told_sight p c h told) (outcome_told told) o x
    ∙ (ap (acted by_result (told_sight p c h told) (told_known (outcome_told told)) o) k ∙ told_fits p c h told o (client_of p c h) d e r)

-- a client of these services and this history, and what it reads
record IsAt (p : Plan) (c : ℕ) (e : Entry) (h : List Entry) (told : Option Tell) (x : Client Unanswered) : Type 0 where
  reads : ReadsAreReads p
  history : IsHistory p (e ∷ h)
  own : client_in e.op ≡ Some c
  client : is_client p c ≡ true
  holds : Holds p c h x
  head : FirstTells p h (inbox_of p c h) told

after_tells : (p : Plan) (c : ℕ) (e : Entry) (h : List Entry) (told : Option Tell) (x : Client Unanswered) → IsAt p c e h told x → AllTell p h (asks_in p c) (acted_as p c h told e.op x).sent
after_tells p c e h told x i = acted_tell p c h told x e.op i.reads i.history.0 i.holds.known (due p e h i.history) i.own i.head i.holds.told

lines_at : (p : Plan) (c fq fw fu : ℕ) (e : Entry) (h : List Entry) (told : Option Tell) (x : Client Unanswered) → IsAt p c e h told x
    → lines_by (post_after p h fq) (watches_after p h fw) (store_after p h fu) told e.op (standing p c h x) ≡ e.lines
lines_at p c fq fw fu e h told x i =
    ap (λ s. own_lines (wording_of c (asks_in p c)) s x e.op ++ reply_lines (wording_of c (asks_in p c)) (ready_first by_outcome (acted by_outcome s (outcome_told told) e.op x).sent)) (sights_agree p c fq fw fu h told x i.history.0 i.client i.head)
    ∙ (lines_are p c h told x (acted_as p c h told e.op x) e.op (due p e h i.history) i.own i.head i.holds.told (after_tells p c e h told x i) i.holds.known (acted_known p c h told e.op x (due p e h i.history) i.own i.holds.known i.head)
    ∙ (sym (next_is p h c e.op i.own) ∙ sym (history_lines p e h i.history)))

seen_at : (p : Plan) (c fq fw fu : ℕ) (e : Entry) (h : List Entry) (told : Option Tell) (x : Client Unanswered) → IsAt p c e h told x
    → (after_by (post_after p h fq) (watches_after p h fw) (store_after p h fu) told e.op (standing p c h x)).seen ≡ seen_by c (e ∷ h)
seen_at p c fq fw fu e h told x i =
    let s = sight_by (post_after p h fq) (watches_after p h fw) (store_after p h fu) told (standing p c h x) in
    sym (seen_append c (lines_in s e.op (standing p c h x)) (ready_lines (made_in s told e.op (standing p c h x))) (seen_by c h))
    ∙ ap (λ ls. seen_lines c ls (seen_by c h)) (lines_at p c fq fw fu e h told x i)

after_at : (p : Plan) (c fq fw fu : ℕ) (e : Entry) (h : List Entry) (told : Option Tell) (x : Client Unanswered) → IsAt p c e h told x
    → after_by (post_after p h fq) (watches_after p h fw) (store_after p h fu) told e.op (standing p c h x) ≡ standing p c (e ∷ h) (flushed by_outcome (acted_as p c h told e.op x))
after_at p c fq fw fu e h told x i = λ j. record {
  session = c;
  asks = asks_in p c;
  seen = (seen_at p c fq fw fu e h told x i) j;
  client = flushed by_outcome (acted by_outcome ((sights_agree p c fq fw fu h told x i.history.0 i.client i.head) j) (outcome_told told) e.op x);
}

holds_after : (p : Plan) (c : ℕ) (e : Entry) (h : List Entry) (told : Option Tell) (x : Client Unanswered) → IsAt p c e h told x → Holds p c (e ∷ h) (flushed by_outcome (acted_as p c h told e.op x))
holds_after p c e h told x i = record {
  known = known_after p c e h told x i.own (due p e h i.history) i.holds.known i.head;
  told = all_stay p e h (asks_in p c) (flushed by_outcome (acted_as p c h told e.op x)).sent i.history (ready_gone p h (asks_in p c) (acted_as p c h told e.op x).sent (after_tells p c e h told x i));
}

-- The operation of another. ------------------------------------------------------------------------------

other_number : (s c : ℕ) → (Some s ≡ Some c → ⊥) → (s == c) ≡ false
other_number s c n = by_number (s == c) refl
  where
    by_number : (b : Bool) → (s == c) ≡ b → b ≡ false
    by_number true e = absurd (n (ap Some (eqb-true s c e)))
    by_number false e = refl

unseen : (p : Plan) (c : ℕ) (e : Entry) (h : List Entry) → IsHistory p (e ∷ h) → (client_in e.op ≡ Some c → ⊥) → seen_by c (e ∷ h) ≡ seen_by c h
unseen p c e h l n = ap (λ ls. seen_lines c ls (seen_by c h)) (history_lines p e h l) ∙ by_client (client_in e.op) refl
  where
    by_client : (o : Option ℕ) → client_in e.op ≡ o → seen_lines c (next_lines p h e.op) (seen_by c h) ≡ seen_by c h
    by_client None q = none_unseen p h c (seen_by c h) e.op q
    by_client (Some s) q = ap (λ ls. seen_lines c ls (seen_by c h)) (next_is p h s e.op q) ∙ client_unseen p h c s e.op (seen_by c h) (other_number s c (λ z. n (q ∙ z)))

left_alone : (p : Plan) (c : ℕ) (e : Entry) (h : List Entry) → (client_in e.op ≡ Some c → ⊥) → client_of p c h ≡ client_of p c (e ∷ h)
left_alone p c e h n = by_client (client_in e.op) refl
  where
    by_client : (o : Option ℕ) → client_in e.op ≡ o → client_of p c h ≡ client_by (sight_of p c h) o e.op (client_of p c h)
    by_client None q = refl
    by_client (Some s) q = sym (ap (λ b. cond b (flushed by_result (acted_by (sight_of p c h) e.op (client_of p c h))) (client_of p c h)) (other_number s c (λ z. n (q ∙ z)) ∙ refl))

pub others_leave_it : OthersLeaveIt
others_leave_it p c e h m l n i = record {
  client = i.client;
  is = i.is ∙ ap (λ k. record { session = c; asks = asks_in p c; seen = k; client = i.client }) (sym (unseen p c e h l n));
  holds = record { known = i.holds.known ∙ left_alone p c e h n; told = all_stay p e h (asks_in p c) i.client.sent l i.holds.told };
}

-- The laws. ----------------------------------------------------------------------------------------------

pub new_client_stands : NewClientStands
new_client_stands p c = record { client = (new_client c (asks_in p c)).client; is = refl; holds = record { known = refl; told = tt } }

pub client_makes_its_op : ClientMakesItsOp
client_makes_its_op p c h told m t q u w k s =
    (λ i. step_op ((s.table) i) ((s.post) i) ((s.watches) i) ((s.user) i) told ((k.stands.is) i))
    ∙ op_is p c t.faults q.faults w.faults u.faults h told k.stands.client k.history k.client k.stands.holds.known k.head

pub client_fails : ClientFails
client_fails p c h told m t q u w k s =
    (λ i. step_op (table.armed ((s.table) i)) (post.armed ((s.post) i)) (watches.armed ((s.watches) i)) (user.armed ((s.user) i)) told ((k.stands.is) i))
    ∙ failed_is p c t.faults q.faults w.faults u.faults h told k.stands.client k.history k.client k.stands.holds.known k.head

at : (p : Plan) (c : ℕ) (e : Entry) (h : List Entry) (told : Option Tell) (m : Meaning) → ReadsAreReads p → IsHistory p (e ∷ h) → client_in e.op ≡ Some c → (k : Looks p c h told m) → IsAt p c e h told k.stands.client
at p c e h told m v l q k = record { reads = v; history = l; own = q; client = k.client; holds = k.stands.holds; head = k.head }

pub client_prints_its_lines : ClientPrintsItsLines
client_prints_its_lines p c e h told m t q u w v l o k s =
    (λ i. lines_by ((s.post) i) ((s.watches) i) ((s.user) i) told e.op ((k.stands.is) i))
    ∙ lines_at p c q.faults w.faults u.faults e h told k.stands.client (at p c e h told m v l o k)

pub client_goes_on : ClientGoesOn
client_goes_on p c e h told m t q u w v l o k s = record {
  client = flushed by_outcome (acted_as p c h told e.op k.stands.client);
  is =
      (λ i. after_by ((s.post) i) ((s.watches) i) ((s.user) i) told e.op ((k.stands.is) i))
      ∙ after_at p c q.faults w.faults u.faults e h told k.stands.client (at p c e h told m v l o k);
  holds = holds_after p c e h told k.stands.client (at p c e h told m v l o k);
}
