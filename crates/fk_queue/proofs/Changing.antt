-- What a post keeps of its lanes: after a push and after a head was removed.
use Rattle.std.proofs.Common.{◌≡◌, ℕ, ◌+◌, ◌-◌, ◌*◌, ◌≤◌, true, cond, List, [], length, get_or, set, replicate, refl, sym, ◌∙◌, ap, subst, arith}
use Rattle.std.specs.Prelude.{is_some}
use Rattle.std.proofs.lemmas.List.{set-get_or}
use Rattle.fk_region.specs.Kept.{Kept, blocks_of, used_by}
use Rattle.fk_region.specs.Meaning.{RegionMeaning}
use Rattle.fk_queue.specs.declared.lane.Lane.{Lane}
use Rattle.fk_queue.specs.declared.post.Post.{Post}
use Rattle.fk_queue.specs.Keeping.{HasOneEach}
use Rattle.fk_queue.specs.Lanes.{is_lane}
use Rattle.fk_queue.specs.Letters.{IsNumbered, LaneState, empty_lane, head_number, with_letter, without_head}
use Rattle.fk_queue.specs.Meaning.{blocks_among, waiting_among, with_lane}
use Rattle.fk_queue.specs.Places.{place_of, slips_of}
use Rattle.fk_queue.specs.Slips.{GivesBack, IsFirstGone, Slips, Takes, no_slips, tickets_in, with_slip, without_first, without_ticket_of}
use Rattle.fk_queue.proofs.Backing.{NoneElsewhere, Popped, Pushed, lanes_by, popped_first, pushed_by}
use Rattle.fk_queue.proofs.Counting.{none_over, ack_frees_blocks, ack_takes_one, push_adds_blocks, push_adds_one}
use Rattle.fk_queue.proofs.Numbering.{numbered_less, numbered_more, numbered_none, numbered_write}
use Rattle.fk_queue.proofs.Standing.{found_at, none_kept, placed, wrote_lane}

pub record Keeps (n waiting : ℕ) (slips : Lane → Slips) (ks : List Kept) : Type 0 where
  pub counted : waiting ≡ waiting_among n (lanes_by ks slips)
  pub numbered : (l : Lane) → IsNumbered (lanes_by ks slips l)
  pub backed : HasOneEach n (λ l. tickets_in (slips l)) ks
  pub measured : used_by ks ≡ blocks_among n (lanes_by ks slips)

-- The post keeps this still, and one lane was changed.
pub record Changes (n waiting : ℕ) (l : Lane) (s : LaneState) (slips after : Lane → Slips) (ks kept : List Kept) : Type 0 where
  pub keeps : Keeps n waiting after kept
  pub lanes : lanes_by kept after ≡ with_lane l s (lanes_by ks slips)

none_elsewhere : (n : ℕ) (queues : List Slips) → NoneElsewhere n (slips_of n queues)
none_elsewhere n queues q e = ap (λ b. cond b (get_or queues (place_of q) no_slips) no_slips) e

-- a new post
pub none_given : (n : ℕ) (queues : List Slips) (ks : List Kept) → queues ≡ replicate (2 * n + 2) no_slips → lanes_by ks (slips_of n queues) ≡ λ l. empty_lane
none_given n queues ks e = ap (lanes_by ks) (none_kept n queues e)

pub new_keeps : (n : ℕ) (queues : List Slips) (ks : List Kept) → queues ≡ replicate (2 * n + 2) no_slips → ks ≡ [] → Keeps n 0 (slips_of n queues) ks
new_keeps n queues ks e none = subst (λ slips. Keeps n 0 slips ks) (sym (none_kept n queues e)) (subst (λ now. Keeps n 0 (λ l. no_slips) now) (sym none) empty)
  where
    empty : Keeps n 0 (λ l. no_slips) []
    empty = record {
      counted = sym (none_over n (λ l. 0) (λ l h. refl));
      numbered = λ l. numbered_none;
      backed = λ t. none_over n (λ l. 0) (λ l h. refl);
      measured = sym (none_over n (λ l. 0) (λ l h. refl));
    }

numbered_as : (lanes after : Lane → LaneState) (l : Lane) (s : LaneState) → after ≡ with_lane l s lanes → ((q : Lane) → IsNumbered (lanes q)) → IsNumbered s → (q : Lane) → IsNumbered (after q)
numbered_as lanes after l s e f g = subst (λ (ls : Lane → LaneState). (q : Lane) → IsNumbered (ls q)) (sym e) (numbered_write l s lanes f g)

-- A PUSH
after_push : (n w : ℕ) (l : Lane) (bytes : List ℕ) (slips after : Lane → Slips) (ks kept : List Kept) → is_lane n l ≡ true → Keeps n w slips ks → Pushed n l bytes slips after ks kept
    → Changes n (w + 1) l (with_letter bytes (lanes_by ks slips l)) slips after ks kept
after_push n w l bytes slips after ks kept h k p = record {
  keeps = record {
    counted = ap (λ m. m + 1) k.counted ∙ sym (push_adds_one n (lanes_by ks slips) l bytes h) ∙ sym (ap (waiting_among n) p.lanes);
    numbered = numbered_as (lanes_by ks slips) (lanes_by kept after) l (with_letter bytes (lanes_by ks slips l)) p.lanes k.numbered (numbered_more bytes (lanes_by ks slips l) (k.numbered l));
    backed = p.backed;
    measured = p.measured ∙ ap (λ m. m + blocks_of (length bytes)) k.measured ∙ sym (push_adds_blocks n (lanes_by ks slips) l bytes h) ∙ sym (ap (blocks_among n) p.lanes);
  };
  lanes = p.lanes;
}

pub pushed_at : (n w : ℕ) (queues : List Slips) (l : Lane) (place : ℕ) (bytes : List ℕ) (x y : Slips) (ks kept : List Kept) → is_lane n l ≡ true → length queues ≡ 2 * n + 2 → place ≡ place_of l → x ≡ get_or queues place x
    → Takes bytes x y ks kept → Keeps n w (slips_of n queues) ks
    → Changes n (w + 1) l (with_letter bytes (lanes_by ks (slips_of n queues) l)) (slips_of n queues) (slips_of n (set queues place y)) ks kept
pushed_at n w queues l place bytes x y ks kept h sized at found t k = after_push n w l bytes (slips_of n queues) (slips_of n (set queues place y)) ks kept h k
    (subst (λ after. Pushed n l bytes (slips_of n queues) after ks kept) (sym wrote) (subst (λ now. Pushed n l bytes (slips_of n queues) (with_lane l (with_slip t.ticket (slips_of n queues l)) (slips_of n queues)) ks now) (sym t.put) (pushed_by n l t.ticket bytes (slips_of n queues) ks h (none_elsewhere n queues) k.backed t.fresh)))
  where
    wrote : slips_of n (set queues place y) ≡ with_lane l (with_slip t.ticket (slips_of n queues l)) (slips_of n queues)
    wrote = wrote_lane n queues (set queues place y) l (with_slip t.ticket (slips_of n queues l)) h sized (placed n queues l (with_slip t.ticket) place x y h sized at found t.slip)

-- A HEAD REMOVED
after_pop : (n w : ℕ) (l : Lane) (slips after : Lane → Slips) (ks kept : List Kept) → is_lane n l ≡ true → is_some (head_number (lanes_by ks slips l)) ≡ true → Keeps n w slips ks → Popped n l slips after ks kept
    → Changes n (w - 1) l (without_head (lanes_by ks slips l)) slips after ks kept
after_pop n w l slips after ks kept h some k p = record {
  keeps = record {
    counted = one_less _ _ _ k.counted (ack_takes_one n (lanes_by ks slips) l h some) ∙ sym (ap (waiting_among n) p.lanes);
    numbered = numbered_as (lanes_by ks slips) (lanes_by kept after) l (without_head (lanes_by ks slips l)) p.lanes k.numbered (numbered_less (lanes_by ks slips l) (k.numbered l));
    backed = p.backed;
    measured = fewer _ _ _ _ _ k.measured p.measured (ack_frees_blocks n (lanes_by ks slips) l h) ∙ sym (ap (blocks_among n) p.lanes);
  };
  lanes = p.lanes;
}
  where
    one_less : (w before after : ℕ) → w ≡ before → before ≡ after + 1 → w - 1 ≡ after
    one_less w before after a b = omega (arith, a, b)

    fewer : (u v b x y : ℕ) → u ≡ x → u ≡ v + b → x ≡ y + b → v ≡ y
    fewer u v b x y i j k = omega (arith, i, j, k)

pub popped_at : (n w : ℕ) (queues : List Slips) (l : Lane) (place : ℕ) (x y : Slips) (ks kept : List Kept) → is_lane n l ≡ true → is_some (head_number (lanes_by ks (slips_of n queues) l)) ≡ true → length queues ≡ 2 * n + 2 → place ≡ place_of l → x ≡ get_or queues place x
    → GivesBack x y ks kept → Keeps n w (slips_of n queues) ks
    → Changes n (w - 1) l (without_head (lanes_by ks (slips_of n queues) l)) (slips_of n queues) (slips_of n (set queues place y)) ks kept
popped_at n w queues l place x y ks kept h some sized at found g k = after_pop n w l slips (slips_of n (set queues place y)) ks kept h some k
    (subst (λ after. Popped n l slips after ks kept) (sym wrote) popped)
  where
    slips : Lane → Slips
    slips = slips_of n queues

    here : x ≡ slips l
    here = found_at n queues l place x h sized at found

    wrote : slips_of n (set queues place y) ≡ with_lane l (without_first (slips l)) slips
    wrote = wrote_lane n queues (set queues place y) l (without_first (slips l)) h sized (placed n queues l without_first place x y h sized at found g.slip)

    given : kept ≡ without_ticket_of (slips l).waiting ks
    given = g.given ∙ ap (λ s. without_ticket_of s.waiting ks) here

    gone : IsFirstGone (without_ticket_of (slips l).waiting ks) (slips l).waiting
    gone = subst (λ s. IsFirstGone (without_ticket_of s.waiting ks) s.waiting) here (subst (λ now. IsFirstGone now x.waiting) g.given g.gone)

    popped : Popped n l slips (with_lane l (without_first (slips l)) slips) ks kept
    popped = subst (λ now. Popped n l slips (with_lane l (without_first (slips l)) slips) ks now) (sym given) (popped_first n l slips ks h (none_elsewhere n queues) some k.backed gone)

-- what is left of the messages
pub some_wait : (n w : ℕ) (l : Lane) (slips : Lane → Slips) (ks : List Kept) → is_lane n l ≡ true → is_some (head_number (lanes_by ks slips l)) ≡ true → Keeps n w slips ks → 1 ≤ w
some_wait n w l slips ks h some k = least _ _ _ k.counted (ack_takes_one n (lanes_by ks slips) l h some)
  where
    least : (w before after : ℕ) → w ≡ before → before ≡ after + 1 → 1 ≤ w
    least w before after a b = omega (arith, a, b)

-- NOTHING
pub unchanged_at : (n w : ℕ) (queues : List Slips) (place : ℕ) (x y : Slips) (r after : RegionMeaning) → x ≡ get_or queues place x → (y ≡ x) × (after ≡ r) → Keeps n w (slips_of n queues) r.kept → Keeps n w (slips_of n (set queues place y)) after.kept
unchanged_at n w queues place x y r after found (same, region) k = subst (λ now. Keeps n w (slips_of n (set queues place y)) now.kept) (sym region) (subst (λ qs. Keeps n w (slips_of n qs) r.kept) (sym wrote) k)
  where
    wrote : set queues place y ≡ queues
    wrote = ap (set queues place) (same ∙ found) ∙ set-get_or queues place x

-- what a post keeps
pub kept_by : (p : Post) → Keeps p.sessions p.waiting (slips_of p.sessions p.queues.items) p.region.kept
kept_by p = record { counted = p.counted; numbered = p.numbered; backed = p.backed; measured = p.measured }
