-- What writes make of a record is what they make of its node, in what they make of the rest.
use Rattle.std.proofs.Common.{◌≡◌, ℕ, zero, suc, ◌+◌, ◌<◌, ◌≤◌, Bool, true, false, cond, List, [], ◌∷◌, ◌++◌, Option, Some, None, length, take, drop, get_or, refl, sym, ◌∙◌, ap, arith, drop-cons}
use Rattle.std.proofs.lemmas.List.{take_more}
use Rattle.fk_base.specs.Path.{PathNames}
use Rattle.fk_tree.specs.declared.node.Node.{Node}
use Rattle.fk_store.specs.declared.lock.Lock.{Lock}
use Rattle.fk_store.specs.declared.node_record.NodeRecord.{NodeRecord}
use Rattle.fk_store.specs.declared.write.Write.{Write}
use Rattle.fk_store.specs.declared.write.Write.TheVariants as write
use Rattle.fk_store.specs.Locks.{no_lock, granted, released}
use Rattle.fk_store.specs.Writes.{is_of_path, record_by, record_after, records_written}
use Rattle.fk_index.specs.Slots.{Slots, node_of, KeepsSlots, SameSlots}
use Rattle.fk_index.specs.Parts.{node_by, node_after, nodes_written, rest_by, rest_after, rest_of, rests_written, with_node, has_slot_of, have_slots}
use Rattle.fk_base.proofs.Logic.{and_both, and_left, and_right}

-- THE REST OF A RECORD
abbrev joined : Option Node → Option (Lock × ℕ) → Option NodeRecord
joined n None = None
joined n (Some x) = Some (record { node = n; lock = x.0; last = x.1 })

abbrev rest_step : Write → Option (Lock × ℕ) → Option (Lock × ℕ)
rest_step (write.Grant q inv moment) None = Some (granted inv moment, 0)
rest_step (write.Grant q inv moment) (Some x) = Some (granted inv moment, x.1)
rest_step (write.Release q) None = None
rest_step (write.Release q) (Some x) = Some (released x.0, x.1)
rest_step (write.Change e tx moment) None = Some (no_lock, tx)
rest_step (write.Change e tx moment) (Some x) = Some (x.0, tx)
rest_step _ o = o

joined_is : (o : Option NodeRecord) → o ≡ joined (node_of o) (rest_of o)
joined_is None = refl
joined_is (Some r) = refl

joined_with : (n : Option Node) (o : Option NodeRecord) → joined n (rest_of o) ≡ with_node n o
joined_with n None = refl
joined_with n (Some r) = refl

rest_record : (w : Write) (o : Option NodeRecord) → rest_of (record_by w o) ≡ rest_step w (rest_of o)
rest_record (write.Grant q inv moment) None = refl
rest_record (write.Grant q inv moment) (Some r) = refl
rest_record (write.Release q) None = refl
rest_record (write.Release q) (Some r) = refl
rest_record (write.Change e tx moment) None = refl
rest_record (write.Change e tx moment) (Some r) = refl
rest_record _ o = refl

rest_rest : (w : Write) (o : Option NodeRecord) → rest_of (rest_by w o) ≡ rest_step w (rest_of o)
rest_rest (write.Grant q inv moment) None = refl
rest_rest (write.Grant q inv moment) (Some r) = refl
rest_rest (write.Release q) None = refl
rest_rest (write.Release q) (Some r) = refl
rest_rest (write.Change e tx moment) None = refl
rest_rest (write.Change e tx moment) (Some r) = refl
rest_rest _ o = refl

node_record : (w : Write) (o : Option NodeRecord) → node_of (record_by w o) ≡ node_by w (node_of o)
node_record (write.Release q) None = refl
node_record (write.Release q) (Some r) = refl
node_record _ o = refl

node_rest : (w : Write) (o : Option NodeRecord) → node_of (rest_by w o) ≡ node_of o
node_rest (write.Release q) None = refl
node_rest (write.Release q) (Some r) = refl
node_rest _ o = refl

-- ALL WRITES
through : {A B : Type 0} (f : A → B) (b : Bool) (x y : A) → f (cond b x y) ≡ cond b (f x) (f y)
through f true x y = refl
through f false x y = refl

same_if : {A : Type 0} (b : Bool) (x y : A) → x ≡ y → cond b x y ≡ y
same_if true x y e = e
same_if false x y e = refl

node_records : (p : PathNames) (ws : List Write) (o : Option NodeRecord) → node_of (records_written p ws o) ≡ nodes_written p ws (node_of o)
node_records p [] o = refl
node_records p (w ∷ ws) o =
    node_records p ws (record_after w p o)
    ∙ ap (nodes_written p ws) (through node_of (is_of_path p w) (record_by w o) o ∙ ap (λ x. cond (is_of_path p w) x (node_of o)) (node_record w o))

-- the nodes stay where only the rest is written
pub node_kept : (p : PathNames) (ws : List Write) (o : Option NodeRecord) → node_of (rests_written p ws o) ≡ node_of o
node_kept p [] o = refl
node_kept p (w ∷ ws) o =
    node_kept p ws (rest_after w p o)
    ∙ through node_of (is_of_path p w) (rest_by w o) o ∙ same_if (is_of_path p w) (node_of (rest_by w o)) (node_of o) (node_rest w o)

rest_steps : (p : PathNames) (w : Write) (a b : Option NodeRecord) → rest_of a ≡ rest_of b → rest_of (record_after w p a) ≡ rest_of (rest_after w p b)
rest_steps p w a b e = step (is_of_path p w)
  where
    step : (c : Bool) → rest_of (cond c (record_by w a) a) ≡ rest_of (cond c (rest_by w b) b)
    step true = rest_record w a ∙ ap (rest_step w) e ∙ sym (rest_rest w b)
    step false = e

rest_records : (p : PathNames) (ws : List Write) (a b : Option NodeRecord) → rest_of a ≡ rest_of b → rest_of (records_written p ws a) ≡ rest_of (rests_written p ws b)
rest_records p [] a b e = e
rest_records p (w ∷ ws) a b e = rest_records p ws (record_after w p a) (rest_after w p b) (rest_steps p w a b e)

pub both_parts : (p : PathNames) (ws : List Write) (o : Option NodeRecord) → with_node (nodes_written p ws (node_of o)) (rests_written p ws o) ≡ records_written p ws o
both_parts p ws o =
    sym (joined_with (nodes_written p ws (node_of o)) (rests_written p ws o))
    ∙ ap (joined (nodes_written p ws (node_of o))) (sym (rest_records p ws o o refl))
    ∙ ap (λ n. joined n (rest_of (records_written p ws o))) (sym (node_records p ws o))
    ∙ sym (joined_is (records_written p ws o))

rests_alike : (p : PathNames) (ws : List Write) (a b : Option NodeRecord) → rest_of a ≡ rest_of b → rest_of (rests_written p ws a) ≡ rest_of (rests_written p ws b)
rests_alike p ws a b e = sym (rest_records p ws b a (sym e)) ∙ rest_records p ws b b refl

-- the nodes as the writes leave them, over a record that is the same but for its node
pub all_parts : (p : PathNames) (ws : List Write) (n : Option Node) (a o : Option NodeRecord) → n ≡ nodes_written p ws (node_of o) → rest_of a ≡ rest_of o → with_node n (rests_written p ws a) ≡ records_written p ws o
all_parts p ws n a o e r =
    sym (joined_with n (rests_written p ws a))
    ∙ ap (joined n) (rests_alike p ws a o r)
    ∙ joined_with n (rests_written p ws o)
    ∙ ap (λ x. with_node x (rests_written p ws o)) e
    ∙ both_parts p ws o

pub rest_kept : (n : Option Node) (o : Option NodeRecord) → rest_of (with_node n o) ≡ rest_of o
rest_kept n None = refl
rest_kept n (Some r) = refl

-- a record with its own node
pub own_node : (o : Option NodeRecord) → with_node (node_of o) o ≡ o
own_node None = refl
own_node (Some r) = refl

-- LOOPS
pub rests_step : (p : PathNames) (ws : List Write) (i : ℕ) (w : Write) (o : Option NodeRecord) → i < length ws → w ≡ get_or ws i w → rests_written p (drop i ws) o ≡ rests_written p (drop (i + 1) ws) (rest_after w p o)
rests_step p ws i w o l s = step (i + 1) (omega arith)
  where
    step : (j : ℕ) → j ≡ suc i → rests_written p (drop i ws) o ≡ rests_written p (drop j ws) (rest_after w p o)
    step j e = rw (e, drop-cons ws i w l, ← s) refl

pub nodes_step : (p : PathNames) (ws : List Write) (i : ℕ) (w : Write) (o : Option Node) → i < length ws → w ≡ get_or ws i w → nodes_written p (drop i ws) o ≡ nodes_written p (drop (i + 1) ws) (node_after w p o)
nodes_step p ws i w o l s = step (i + 1) (omega arith)
  where
    step : (j : ℕ) → j ≡ suc i → nodes_written p (drop i ws) o ≡ nodes_written p (drop j ws) (node_after w p o)
    step j e = rw (e, drop-cons ws i w l, ← s) refl

slot_stays : (w : Write) (m n : Slots) → KeepsSlots m n → has_slot_of m w ≡ true → has_slot_of n w ≡ true
slot_stays (write.Grant q inv moment) m n k h = k q h
slot_stays (write.Change e tx moment) m n k h = k e.path h
slot_stays _ m n k h = refl

pub slots_stay : (ws : List Write) (m n : Slots) → KeepsSlots m n → have_slots m ws ≡ true → have_slots n ws ≡ true
slots_stay [] m n k h = refl
slots_stay (w ∷ ws) m n k h = and_both _ _ (slot_stays w m n k (and_left _ _ h)) (slots_stay ws m n k (and_right _ _ h))

slots_more : (ws : List Write) (w : Write) (m : Slots) → have_slots m ws ≡ true → has_slot_of m w ≡ true → have_slots m (ws ++ w ∷ []) ≡ true
slots_more [] w m h a = and_both _ _ a refl
slots_more (x ∷ ws) w m h a = and_both _ _ (and_left _ _ h) (slots_more ws w m (and_right _ _ h) a)

pub slots_taken : (ws : List Write) (i : ℕ) (w : Write) (m n : Slots) → i < length ws → w ≡ get_or ws i w → KeepsSlots m n → have_slots m (take i ws) ≡ true → has_slot_of n w ≡ true → have_slots n (take (i + 1) ws) ≡ true
slots_taken ws i w m n l s k h a = rw (take_more ws i w l, ← s) (slots_more (take i ws) w n (slots_stay (take i ws) m n k h) a)

pub slot_there : (ws : List Write) (i : ℕ) (w : Write) (m : Slots) → i < length ws → have_slots m ws ≡ true → has_slot_of m (get_or ws i w) ≡ true
slot_there [] i w m l h = let none : ⊥ = omega arith in absurd none
slot_there (x ∷ ws) zero w m l h = and_left _ _ h
slot_there (x ∷ ws) (suc i) w m l h = let shorter : i < length ws = omega arith in slot_there ws i w m shorter (and_right _ _ h)

pub same_slots : (ws : List Write) (m n : Slots) → SameSlots m n → have_slots m ws ≡ true → have_slots n ws ≡ true
same_slots ws m n k = slots_stay ws m n (λ p h. k p ∙ h)

-- at the end of a loop
pub all_slots : (ws : List Write) (i : ℕ) (m : Slots) → length ws ≤ i → have_slots m (take i ws) ≡ true → have_slots m ws ≡ true
all_slots [] i m l h = refl
all_slots (w ∷ ws) zero m l h = let none : ⊥ = omega arith in absurd none
all_slots (w ∷ ws) (suc i) m l h = let shorter : length ws ≤ i = omega arith in and_both _ _ (and_left _ _ h) (all_slots ws i m shorter (and_right _ _ h))

pub all_nodes : (p : PathNames) (ws : List Write) (i : ℕ) (o : Option Node) → length ws ≤ i → nodes_written p (drop i ws) o ≡ o
all_nodes p [] zero o l = refl
all_nodes p [] (suc i) o l = refl
all_nodes p (w ∷ ws) zero o l = let none : ⊥ = omega arith in absurd none
all_nodes p (w ∷ ws) (suc i) o l = let shorter : length ws ≤ i = omega arith in all_nodes p ws i o shorter
