-- The services after an operation of a client.
use Rattle.std.specs.Prelude.{◌==◌, option_map}
use Rattle.std.proofs.Common.{◌≡◌, ℕ, ◌+◌, true, false, List, ◌∷◌, refl, sym, ◌∙◌, ap, subst, arith, Some, None}
use Rattle.std.proofs.lemmas.Bool.{false≢true, eqb-true}
use Rattle.std.proofs.lemmas.Bool.Decides.{nat_tests}
use Rattle.std.proofs.lemmas.Option.{same_Some, none-some}
use Rattle.fk_base.specs.Faults.{one_more}
use Rattle.fk_tree.specs.Ask.{path_asked}
use Rattle.fk_tree.specs.Watch.{kind_asked}
use Rattle.fk_tree.specs.declared.request.Request.{Request}
use Rattle.fk_print.specs.declared.entry.Entry.{Entry}
use Rattle.fk_print.specs.declared.op.Op.{Op}
use Rattle.fk_print.specs.declared.op.Op.TheVariants as op
use Rattle.fk_queue.specs.Meaning as post
use Rattle.fk_queue.specs.Lanes.{same_lane}
use Rattle.fk_queue.specs.declared.lane.Lane.{Lane}
use Rattle.fk_queue.specs.declared.lane.Lane.TheVariants as lane
use Rattle.fk_store.specs.Meaning as table
use Rattle.fk_user.specs.Meaning as user
use Rattle.fk_watch.specs.Meaning as watches
use Rattle.fk_wire.specs.SentText.{sent_text}
use Rattle.fk_wire.specs.declared.version.Version.TheVariants as version
use Rattle.fk_stand.specs.Messages.{sent_from}
use Rattle.fk_stand.specs.Posts.{letter_in, post_after, removes}
use Rattle.fk_stand.specs.Stores.{store_after, watches_after}
use Rattle.fk_stand.specs.Tables.{table_after}
use Rattle.fk_spec.specs.Plan.{Plan, Ask, Writes, asked, asks_in, is_client, nth}
use Rattle.fk_spec.specs.Start as start
use Rattle.fk_spec.specs.Start.{when, written}
use Rattle.fk_spec.specs.Shown.{seen_by}
use Rattle.fk_spec.specs.Lanes.{takes}
use Rattle.fk_spec.specs.Client.{Client, client_in, client_of}
use Rattle.fk_spec.specs.Watches.{watch_asked}
use Rattle.fk_spec.specs.Next.{IsHistory}
use Rattle.fk_law.specs.Operations.{OperationSays}
use Rattle.fk_law.proofs.Due.{client_operations_say}
use Rattle.fk_client.specs.Knowing.{client_known}
use Rattle.fk_client.specs.Meaning.{Meaning, next_ask}
use Rattle.fk_client.specs.Services.{message_of, post_by, registered_asked, registered_for, sent_asked, sent_for, table_by, user_by, watches_by}
use Rattle.fk_client.specs.declared.unanswered.Unanswered.{Unanswered}
use Rattle.fk_agree.specs.Letters.{LeavesLane}
use Rattle.fk_agree.specs.Records.{LeavesRecords}
use Rattle.fk_agree.specs.Stored.{LeavesStore}
use Rattle.fk_agree.specs.Watched.{LeavesWatches}
use Rattle.fk_agree.proofs.Finishing.{pong_is_written}
use Rattle.fk_agree.proofs.Posting.{head_is_popped, letter_is_pushed}
use Rattle.fk_agree.proofs.Serving.{LeavesPost, other_number, post_stands, store_stands, table_stands, watches_stand}
use Rattle.fk_agree.proofs.Watching.{registration_is_written}
use Rattle.fk_agree.proofs.Held.{left_table, left_post, left_store, left_watches}
use Rattle.fk_agree_client.specs.Serving.{ClientFaultIsWritten, ClientIsWritten, IsFailed}
use Rattle.fk_agree_client.specs.Standing.{standing}

-- Where a line leaves a service. -------------------------------------------------------------------------

-- The table. ---------------------------------------------------------------------------------------------

table_case : (p : Plan) (faults : ℕ) (e : Entry) (h : List Entry) (o : Op) (c : ℕ) → e.op ≡ o → client_in o ≡ Some c → table_by o (table_after p h faults) ≡ table_after p (e ∷ h) faults
table_case p faults e h (op.Pong d n) c g i = pong_is_written p d n faults e h g
table_case p faults e h (op.TakeDone d k n) c g i = left_table p faults e h (op.TakeDone d k n) g tt
table_case p faults e h (op.TakeEvicted d k n) c g i = left_table p faults e h (op.TakeEvicted d k n) g tt
table_case p faults e h (op.TakeRefused d k) c g i = left_table p faults e h (op.TakeRefused d k) g tt
table_case p faults e h (op.TakeLost d k) c g i = left_table p faults e h (op.TakeLost d k) g tt
table_case p faults e h (op.TakeWatch d n) c g i = left_table p faults e h (op.TakeWatch d n) g tt
table_case p faults e h (op.TakePing d n) c g i = left_table p faults e h (op.TakePing d n) g tt
table_case p faults e h (op.LookOk d j m) c g i = left_table p faults e h (op.LookOk d j m) g tt
table_case p faults e h (op.LookBehind d j m) c g i = left_table p faults e h (op.LookBehind d j m) g tt
table_case p faults e h (op.LookHeld d j m n) c g i = left_table p faults e h (op.LookHeld d j m n) g tt
table_case p faults e h (op.Send d j k) c g i = left_table p faults e h (op.Send d j k) g tt
table_case p faults e h (op.Read d j n) c g i = left_table p faults e h (op.Read d j n) g tt
table_case p faults e h (op.WatchSet d j n) c g i = left_table p faults e h (op.WatchSet d j n) g tt
table_case p faults e h (op.WatchSwept d j n) c g i = left_table p faults e h (op.WatchSwept d j n) g tt
table_case p faults e h (op.Local d j) c g i = left_table p faults e h (op.Local d j) g tt
table_case p faults e h (op.PongFault d) c g i = left_table p faults e h (op.PongFault d) g tt
table_case p faults e h (op.TakeFault d) c g i = left_table p faults e h (op.TakeFault d) g tt
table_case p faults e h (op.LookFault d j) c g i = left_table p faults e h (op.LookFault d j) g tt
table_case p faults e h (op.SendFault d j) c g i = left_table p faults e h (op.SendFault d j) g tt
table_case p faults e h (op.ReadFault d j) c g i = left_table p faults e h (op.ReadFault d j) g tt
table_case p faults e h (op.WatchFault d j) c g i = left_table p faults e h (op.WatchFault d j) g tt
table_case p faults e h o c g i = absurd (none-some c i)

-- The user storage. --------------------------------------------------------------------------------------

store_spared : (o : Op) (c : ℕ) → client_in o ≡ Some c → LeavesStore o
store_spared (op.PutOk n t path) c i = absurd (none-some c i)
store_spared (op.PublishOk n t) c i = absurd (none-some c i)
store_spared o c i = tt

store_by : (p : Plan) (h : List Entry) (faults : ℕ) (o : Op) → user_by o (store_after p h faults) ≡ store_after p h faults
store_by p h faults (op.LookFault d j) = refl
store_by p h faults o = refl

-- The post. ----------------------------------------------------------------------------------------------

taken_elsewhere : (p : Plan) (c : ℕ) (h : List Entry) (o : Op) (q : Lane) → takes c o ≡ true → same_lane q (lane.Inbox c) ≡ false → LeavesLane p q h o
taken_elsewhere p c h o lane.Leader t e = record { none = leader_none o t; kept = leader_kept o t }
  where
    leader_none : (o : Op) → takes c o ≡ true → letter_in p lane.Leader h o ≡ None
    leader_none (op.Push n s) t = absurd (false≢true t)
    leader_none o t = refl

    leader_kept : (o : Op) → takes c o ≡ true → removes lane.Leader h o ≡ false
    leader_kept (op.AckOk n) t = absurd (false≢true t)
    leader_kept o t = refl
taken_elsewhere p c h o lane.Watch t e = record { none = watch_none o t; kept = watch_kept o t }
  where
    watch_none : (o : Op) → takes c o ≡ true → letter_in p lane.Watch h o ≡ None
    watch_none (op.Notify n s w) t = absurd (false≢true t)
    watch_none o t = refl

    watch_kept : (o : Op) → takes c o ≡ true → removes lane.Watch h o ≡ false
    watch_kept (op.AckOk n) t = absurd (false≢true t)
    watch_kept o t = refl
taken_elsewhere p c h o (lane.Session d) t e = record { none = session_none o t; kept = session_kept o t }
  where
    session_none : (o : Op) → takes c o ≡ true → letter_in p (lane.Session d) h o ≡ None
    session_none (op.Send s j k) t = absurd (false≢true t)
    session_none (op.Evict n k) t = absurd (false≢true t)
    session_none o t = refl

    session_kept : (o : Op) → takes c o ≡ true → removes (lane.Session d) h o ≡ false
    session_kept (op.AckOk n) t = absurd (false≢true t)
    session_kept o t = refl
taken_elsewhere p c h o (lane.Inbox d) t e = record { none = inbox_none o t; kept = inbox_kept o t }
  where
    inbox_none : (o : Op) → takes c o ≡ true → letter_in p (lane.Inbox d) h o ≡ None
    inbox_none (op.Reply n s k) t = absurd (false≢true t)
    inbox_none (op.Tell n s w) t = absurd (false≢true t)
    inbox_none (op.Ping n s) t = absurd (false≢true t)
    inbox_none o t = refl

    apart : (s : ℕ) → (s == c) ≡ true → (s == d) ≡ false
    apart s t = let a : s ≡ c = eqb-true s c t in rw a (other_number c d e)

    inbox_kept : (o : Op) → takes c o ≡ true → removes (lane.Inbox d) h o ≡ false
    inbox_kept (op.TakeDone s k n) t = apart s t
    inbox_kept (op.TakeEvicted s k n) t = apart s t
    inbox_kept (op.TakeRefused s k) t = apart s t
    inbox_kept (op.TakeLost s k) t = apart s t
    inbox_kept (op.TakeWatch s n) t = apart s t
    inbox_kept (op.TakePing s n) t = apart s t
    inbox_kept (op.AckOk n) t = refl
    inbox_kept o t = refl

taken_none : (p : Plan) (c : ℕ) (h : List Entry) (o : Op) → takes c o ≡ true → letter_in p (lane.Inbox c) h o ≡ None
taken_none p c h (op.Reply n s k) t = absurd (false≢true t)
taken_none p c h (op.Tell n s w) t = absurd (false≢true t)
taken_none p c h (op.Ping n s) t = absurd (false≢true t)
taken_none p c h o t = refl

taken_there : (c : ℕ) (h : List Entry) (o : Op) → takes c o ≡ true → removes (lane.Inbox c) h o ≡ true
taken_there c h (op.AckOk n) t = absurd (false≢true t)
taken_there c h o t = t

taken_post : (p : Plan) (c faults : ℕ) (e : Entry) (h : List Entry) (o : Op) → e.op ≡ o → is_client p c ≡ true → takes c o ≡ true → post.popped (lane.Inbox c) (post_after p h faults) ≡ post_after p (e ∷ h) faults
taken_post p c faults e h o g k t = head_is_popped p faults (lane.Inbox c) e h k (ap (letter_in p (lane.Inbox c) h) g ∙ taken_none p c h o t) (ap (removes (lane.Inbox c) h) g ∙ taken_there c h o t) (λ q x. subst (LeavesLane p q h) (sym g) (taken_elsewhere p c h o q t x))

same_self : (d c : ℕ) → d ≡ c → (d == c) ≡ true
same_self d c e = grind (arith, nat_tests)

-- a request that is sent
sent_elsewhere : (p : Plan) (c j k : ℕ) (h : List Entry) (q : Lane) → same_lane q (lane.Session c) ≡ false → LeavesLane p q h (op.Send c j k)
sent_elsewhere p c j k h lane.Leader e = record { none = refl; kept = refl }
sent_elsewhere p c j k h lane.Watch e = record { none = refl; kept = refl }
sent_elsewhere p c j k h (lane.Session d) e = record { none = ap (λ b. option_map (sent_text version.Two) (sent_from p d (when b (start.Sent j (seen_by d h))))) (other_number c d e); kept = refl }
sent_elsewhere p c j k h (lane.Inbox d) e = record { none = refl; kept = refl }

asks_this : (p : Plan) (c j : ℕ) (a : Ask) (r : Request) → asked p c j ≡ Some a → a.want ≡ Writes r → written (asked p c j) ≡ Some r
asks_this p c j a r e w = ap written e ∙ ap start.request_in w

sent_post : (p : Plan) (c j k faults : ℕ) (e : Entry) (h : List Entry) (r : Request) → e.op ≡ op.Send c j k → is_client p c ≡ true → written (asked p c j) ≡ Some r → post.pushed (lane.Session c) (sent_text version.Two (message_of (seen_by c h) r)) (post_after p h faults) ≡ post_after p (e ∷ h) faults
sent_post p c j k faults e h r g i w = letter_is_pushed p faults (lane.Session c) (sent_text version.Two (message_of (seen_by c h) r)) e h i its (λ q x. subst (LeavesLane p q h) (sym g) (sent_elsewhere p c j k h q x))
  where
    its : letter_in p (lane.Session c) h e.op ≡ Some (sent_text version.Two (message_of (seen_by c h) r))
    its =
        ap (letter_in p (lane.Session c) h) g
        ∙ (ap (λ b. option_map (sent_text version.Two) (sent_from p c (when b (start.Sent j (seen_by c h))))) (same_self c c refl)
        ∙ ap (λ o. option_map (sent_text version.Two) (option_map (λ z. message_of (seen_by c h) z) o)) w)

-- what its next command asks
next_is : (p : Plan) (c j : ℕ) (h : List Entry) (x : Client Unanswered) → client_known x ≡ client_of p c h → j ≡ (client_of p c h).begun + 1 → next_ask (standing p c h x) ≡ asked p c j
next_is p c j h x k e = ap (λ z. nth (asks_in p c) (z.begun + 1)) k ∙ ap (nth (asks_in p c)) (sym e)

sends_case : (p : Plan) (c j k faults : ℕ) (e : Entry) (h : List Entry) (x : Client Unanswered) → e.op ≡ op.Send c j k → is_client p c ≡ true → client_known x ≡ client_of p c h → OperationSays p c h (op.Send c j k) → sent_asked c (seen_by c h) (next_ask (standing p c h x)) (post_after p h faults) ≡ post_after p (e ∷ h) faults
sends_case p c j k faults e h x g i y s =
    let b = s.0.begins in
    ap (λ a. sent_asked c (seen_by c h) a (post_after p h faults)) (next_is p c j h x y b.next ∙ b.is_asked)
    ∙ (ap (λ w. sent_for c (seen_by c h) w (post_after p h faults)) s.0.writes
    ∙ sent_post p c j k faults e h s.0.request g i (asks_this p c j b.ask s.0.request b.is_asked s.0.writes))

takes_case : (p : Plan) (c d faults : ℕ) (e : Entry) (h : List Entry) (o : Op) → e.op ≡ o → is_client p c ≡ true → d ≡ c → takes c o ≡ true → post.popped (lane.Inbox d) (post_after p h faults) ≡ post_after p (e ∷ h) faults
takes_case p c d faults e h o g k s t = ap (λ z. post.popped (lane.Inbox z) (post_after p h faults)) s ∙ taken_post p c faults e h o g k t

post_case : (p : Plan) (c faults : ℕ) (e : Entry) (h : List Entry) (x : Client Unanswered) (o : Op) → e.op ≡ o → client_in o ≡ Some c → is_client p c ≡ true → client_known x ≡ client_of p c h → OperationSays p c h o → post_by (standing p c h x) o (post_after p h faults) ≡ post_after p (e ∷ h) faults
post_case p c faults e h x (op.TakeDone d k n) g i a y s = let z = same_Some d c i in takes_case p c d faults e h (op.TakeDone d k n) g a z (same_self d c z)
post_case p c faults e h x (op.TakeEvicted d k n) g i a y s = let z = same_Some d c i in takes_case p c d faults e h (op.TakeEvicted d k n) g a z (same_self d c z)
post_case p c faults e h x (op.TakeRefused d k) g i a y s = let z = same_Some d c i in takes_case p c d faults e h (op.TakeRefused d k) g a z (same_self d c z)
post_case p c faults e h x (op.TakeLost d k) g i a y s = let z = same_Some d c i in takes_case p c d faults e h (op.TakeLost d k) g a z (same_self d c z)
post_case p c faults e h x (op.TakeWatch d n) g i a y s = let z = same_Some d c i in takes_case p c d faults e h (op.TakeWatch d n) g a z (same_self d c z)
post_case p c faults e h x (op.TakePing d n) g i a y s = let z = same_Some d c i in takes_case p c d faults e h (op.TakePing d n) g a z (same_self d c z)
post_case p c faults e h x (op.Send d j k) g i a y s =
    let z = same_Some d c i in
    ap (λ w. sent_asked w (seen_by c h) (next_ask (standing p c h x)) (post_after p h faults)) z
    ∙ sends_case p c j k faults e h x (g ∙ ap (λ w. op.Send w j k) z) a y (subst (λ w. OperationSays p c h (op.Send w j k)) z s)
post_case p c faults e h x (op.Pong d n) g i a y s = left_post p faults e h (op.Pong d n) g tt
post_case p c faults e h x (op.LookOk d j m) g i a y s = left_post p faults e h (op.LookOk d j m) g tt
post_case p c faults e h x (op.LookBehind d j m) g i a y s = left_post p faults e h (op.LookBehind d j m) g tt
post_case p c faults e h x (op.LookHeld d j m n) g i a y s = left_post p faults e h (op.LookHeld d j m n) g tt
post_case p c faults e h x (op.Read d j n) g i a y s = left_post p faults e h (op.Read d j n) g tt
post_case p c faults e h x (op.WatchSet d j n) g i a y s = left_post p faults e h (op.WatchSet d j n) g tt
post_case p c faults e h x (op.WatchSwept d j n) g i a y s = left_post p faults e h (op.WatchSwept d j n) g tt
post_case p c faults e h x (op.Local d j) g i a y s = left_post p faults e h (op.Local d j) g tt
post_case p c faults e h x (op.PongFault d) g i a y s = left_post p faults e h (op.PongFault d) g tt
post_case p c faults e h x (op.TakeFault d) g i a y s = left_post p faults e h (op.TakeFault d) g tt
post_case p c faults e h x (op.LookFault d j) g i a y s = left_post p faults e h (op.LookFault d j) g tt
post_case p c faults e h x (op.SendFault d j) g i a y s = left_post p faults e h (op.SendFault d j) g tt
post_case p c faults e h x (op.ReadFault d j) g i a y s = left_post p faults e h (op.ReadFault d j) g tt
post_case p c faults e h x (op.WatchFault d j) g i a y s = left_post p faults e h (op.WatchFault d j) g tt
post_case p c faults e h x o g i a y s = absurd (none-some c i)

-- The table of watches. ----------------------------------------------------------------------------------

-- the faults of the table of watches after an operation
abbrev watch_faults : Op → ℕ → ℕ
watch_faults (op.WatchFault d j) n = one_more n
watch_faults o n = n

registers_case : (p : Plan) (c j id faults : ℕ) (e : Entry) (h : List Entry) (x : Client Unanswered) → IsHistory p (e ∷ h) → e.op ≡ op.WatchSet c j id → client_known x ≡ client_of p c h → OperationSays p c h (op.WatchSet c j id) → registered_asked c id (next_ask (standing p c h x)) (watches_after p h faults) ≡ watches_after p (e ∷ h) faults
registers_case p c j id faults e h x l g y s =
    let r = s.0 in
    ap (λ a. registered_asked c id a (watches_after p h faults)) (next_is p c j h x y r.next ∙ r.is_asked)
    ∙ (ap (λ w. registered_for c id w (watches_after p h faults)) r.reads
    ∙ registration_is_written p c j id faults e h (record { id = id; session = c; path = path_asked r.query; kind = kind_asked r.query }) l g (ap (watch_asked id c) r.is_asked ∙ ap (λ w. watch_asked id c (Some (record { verb = r.ask.verb; wait = r.ask.wait; want = w }))) r.reads))

watches_spared : (o : Op) (c : ℕ) → client_in o ≡ Some c → ((d j n : ℕ) → o ≡ op.WatchSet d j n → ⊥) → LeavesWatches o
watches_spared (op.WatchSet d j n) c i x = absurd (x d j n refl)
watches_spared (op.SweepOk n t k) c i x = absurd (none-some c i)
watches_spared (op.Told n t) c i x = absurd (none-some c i)
watches_spared o c i x = tt

watches_case : (p : Plan) (c faults : ℕ) (e : Entry) (h : List Entry) (x : Client Unanswered) (o : Op) → IsHistory p (e ∷ h) → e.op ≡ o → client_in o ≡ Some c → client_known x ≡ client_of p c h → OperationSays p c h o → watches_by (standing p c h x) o (watches_after p h faults) ≡ watches_after p (e ∷ h) (watch_faults o faults)
watches_case p c faults e h x (op.WatchSet d j id) l g i y s =
    let z = same_Some d c i in
    ap (λ w. registered_asked w id (next_ask (standing p c h x)) (watches_after p h faults)) z
    ∙ registers_case p c j id faults e h x l (g ∙ ap (λ w. op.WatchSet w j id) z) y (subst (λ w. OperationSays p c h (op.WatchSet w j id)) z s)
watches_case p c faults e h x (op.WatchFault d j) l g i y s = left_watches p (one_more faults) e h (op.WatchFault d j) g tt
watches_case p c faults e h x (op.SweepOk n t k) l g i y s = absurd (none-some c i)
watches_case p c faults e h x (op.Told n t) l g i y s = absurd (none-some c i)
watches_case p c faults e h x o l g i y s = left_watches p faults e h o g tt

-- All of them. -------------------------------------------------------------------------------------------

pub client_is_written : ClientIsWritten
client_is_written p c e h m t q u w l i a k s = record {
  table = table_stands p (e ∷ h) t.faults (table_by e.op t) (ap (table_by e.op) s.table ∙ table_case p t.faults e h e.op c refl i);
  post = post_stands p (e ∷ h) q.faults (post_by m e.op q) ((λ j. post_by ((k.is) j) e.op ((s.post) j)) ∙ post_case p c q.faults e h k.client e.op refl i a k.holds.known says);
  user = store_stands p (e ∷ h) u.faults (user_by e.op u) (ap (user_by e.op) s.user ∙ (store_by p h u.faults e.op ∙ left_store p u.faults e h e.op l refl (store_spared e.op c i)));
  watches = watches_stand p (e ∷ h) (watch_faults e.op w.faults) (watches_by m e.op w) ((λ j. watches_by ((k.is) j) e.op ((s.watches) j)) ∙ watches_case p c w.faults e h k.client e.op l refl i k.holds.known says);
}
  where
    says : OperationSays p c h e.op
    says = client_operations_say p c e h l i

-- Where each service is to fail. -------------------------------------------------------------------------

abbrev table_faults : Op → ℕ → ℕ
table_faults (op.PongFault d) n = one_more n
table_faults o n = n

abbrev post_faults : Op → ℕ → ℕ
post_faults (op.TakeFault d) n = one_more n
post_faults (op.SendFault d j) n = one_more n
post_faults o n = n

abbrev user_faults : Op → ℕ → ℕ
user_faults (op.LookFault d j) n = one_more n
user_faults (op.ReadFault d j) n = one_more n
user_faults o n = n

record IsSpared (o : Op) : Type 0 where
  records : LeavesRecords o
  lanes : LeavesPost o
  store : LeavesStore o
  watches : LeavesWatches o

spared : (o : Op) → IsFailed o → IsSpared o
spared (op.PongFault d) k = record { records = tt; lanes = tt; store = tt; watches = tt }
spared (op.TakeFault d) k = record { records = tt; lanes = tt; store = tt; watches = tt }
spared (op.LookFault d j) k = record { records = tt; lanes = tt; store = tt; watches = tt }
spared (op.SendFault d j) k = record { records = tt; lanes = tt; store = tt; watches = tt }
spared (op.ReadFault d j) k = record { records = tt; lanes = tt; store = tt; watches = tt }
spared (op.WatchFault d j) k = record { records = tt; lanes = tt; store = tt; watches = tt }
spared (op.Local d j) k = record { records = tt; lanes = tt; store = tt; watches = tt }
spared o k = absurd k

failed_table : (p : Plan) (h : List Entry) (f : ℕ) (o : Op) → IsFailed o → table.calmed (table_by o (table.armed (table_after p h f))) ≡ table_after p h (table_faults o f)
failed_table p h f (op.PongFault d) k = refl
failed_table p h f (op.Pong d n) k = absurd k
failed_table p h f o k = refl

failed_post : (p : Plan) (m : Meaning) (h : List Entry) (f : ℕ) (o : Op) → IsFailed o → post.calmed (post_by m o (post.armed (post_after p h f))) ≡ post_after p h (post_faults o f)
failed_post p m h f (op.PongFault d) k = refl
failed_post p m h f (op.TakeFault d) k = refl
failed_post p m h f (op.LookFault d j) k = refl
failed_post p m h f (op.SendFault d j) k = refl
failed_post p m h f (op.ReadFault d j) k = refl
failed_post p m h f (op.WatchFault d j) k = refl
failed_post p m h f (op.Local d j) k = refl
failed_post p m h f o k = absurd k

failed_user : (p : Plan) (h : List Entry) (f : ℕ) (o : Op) → IsFailed o → user.calmed (user_by o (user.armed (store_after p h f))) ≡ store_after p h (user_faults o f)
failed_user p h f (op.LookFault d j) k = refl
failed_user p h f (op.ReadFault d j) k = refl
failed_user p h f o k = refl

failed_watches : (p : Plan) (m : Meaning) (h : List Entry) (f : ℕ) (o : Op) → IsFailed o → watches.calmed (watches_by m o (watches.armed (watches_after p h f))) ≡ watches_after p h (watch_faults o f)
failed_watches p m h f (op.WatchFault d j) k = refl
failed_watches p m h f (op.WatchSet d j n) k = absurd k
failed_watches p m h f o k = refl

pub client_fault_is_written : ClientFaultIsWritten
client_fault_is_written p e h m t q u w l k s = record {
  table = table_stands p (e ∷ h) (table_faults e.op t.faults) (table.calmed (table_by e.op (table.armed t))) (ap (λ z. table.calmed (table_by e.op (table.armed z))) s.table ∙ (failed_table p h t.faults e.op k ∙ left_table p (table_faults e.op t.faults) e h e.op refl (spared e.op k).records));
  post = post_stands p (e ∷ h) (post_faults e.op q.faults) (post.calmed (post_by m e.op (post.armed q))) (ap (λ z. post.calmed (post_by m e.op (post.armed z))) s.post ∙ (failed_post p m h q.faults e.op k ∙ left_post p (post_faults e.op q.faults) e h e.op refl (spared e.op k).lanes));
  user = store_stands p (e ∷ h) (user_faults e.op u.faults) (user.calmed (user_by e.op (user.armed u))) (ap (λ z. user.calmed (user_by e.op (user.armed z))) s.user ∙ (failed_user p h u.faults e.op k ∙ left_store p (user_faults e.op u.faults) e h e.op l refl (spared e.op k).store));
  watches = watches_stand p (e ∷ h) (watch_faults e.op w.faults) (watches.calmed (watches_by m e.op (watches.armed w))) (ap (λ z. watches.calmed (watches_by m e.op (watches.armed z))) s.watches ∙ (failed_watches p m h w.faults e.op k ∙ left_watches p (watch_faults e.op w.faults) e h e.op refl (spared e.op k).watches));
}
