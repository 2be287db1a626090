-- What the words ask for is what the items that `read` finds in them ask for.
use Rattle.std.proofs.Common.{◌≡◌, ℕ, List, [], ◌∷◌, ◌++◌, Bool, true, false, Option, Some, None, codes, refl, sym, ap, ◌∙◌, subst, true≢false, if◌then◌else◌, ◌||◌}
use Rattle.std.specs.Prelude.{◌==◌, is_some, option_and_then}
use Rattle.std.specs.Str.{bytes_eq}
use Rattle.std.proofs.lemmas.Bool.{eqb-true}
use Rattle.std.proofs.lemmas.Slice.Eq.{bytes_eq-Decides}
use Rattle.fk_words.specs.declared.words.Asked.{Asked}
use Rattle.fk_words.specs.Words.{Word, Heard, asked_of, hear, hear_all, hear_gen, hear_size, hear_summary, hear_valued, joined, load_of, load_with, nothing, number_of, takes_value, words_meaning}
use Rattle.fk_words.specs.Line.{Item, Key, gen, given, has, has_dashes, is_value, item_name, line_of, read, size, summary, value_of}
use Rattle.fk_words.proofs.Shapes.{bare, flag_word, item_word, other, shape, Shape, whole}

-- what has been said by these items
abbrev pub heard_of : List Item → Heard
heard_of items = record { summary = has items (codes "summary"); gen = value_of gen items; size = value_of size items }

abbrev hear_item : Heard → Item → Option Heard
hear_item h summary = hear_summary h
hear_item h (given gen v) = hear_gen h v
hear_item h (given size v) = hear_size h v

abbrev finish : Option Heard → Option Asked
finish o = option_and_then asked_of o

abbrev pub end : Option (List Item) → Option Asked
end o = option_and_then (λ items. asked_of (heard_of items)) o

hear-word : (h : Heard) (i : Item) → hear h (item_word i) ≡ hear_item h i
hear-word h summary = refl
hear-word h (given gen v) = refl
hear-word h (given size v) = refl

has-gen : (items : List Item) → has items (codes "gen") ≡ is_some (value_of gen items)
has-gen [] = refl
has-gen (summary ∷ items) = has-gen items
has-gen (given gen v ∷ items) = refl
has-gen (given size v ∷ items) = has-gen items

has-size : (items : List Item) → has items (codes "size") ≡ is_some (value_of size items)
has-size [] = refl
has-size (summary ∷ items) = has-size items
has-size (given gen v ∷ items) = has-size items
has-size (given size v ∷ items) = refl

-- an item more changes what it speaks of, and nothing else
more_summary : (items : List Item) → heard_of (items ++ summary ∷ []) ≡ record { summary = true; gen = value_of gen items; size = value_of size items }
more_summary [] = refl
more_summary (summary ∷ items) = ap (λ (h : Heard). record { summary = true; gen = h.gen; size = h.size }) (more_summary items)
more_summary (given gen v ∷ items) = ap (λ (h : Heard). record { summary = h.summary; gen = Some v; size = h.size }) (more_summary items)
more_summary (given size v ∷ items) = ap (λ (h : Heard). record { summary = h.summary; gen = h.gen; size = Some v }) (more_summary items)

more_gen : (items : List Item) (v : Word) → is_some (value_of gen items) ≡ false → heard_of (items ++ given gen v ∷ []) ≡ record { summary = has items (codes "summary"); gen = Some v; size = value_of size items }
more_gen [] v e = refl
more_gen (summary ∷ items) v e = ap (λ (h : Heard). record { summary = true; gen = h.gen; size = h.size }) (more_gen items v e)
more_gen (given gen u ∷ items) v e = absurd (true≢false e)
more_gen (given size u ∷ items) v e = ap (λ (h : Heard). record { summary = h.summary; gen = h.gen; size = Some u }) (more_gen items v e)

more_size : (items : List Item) (v : Word) → is_some (value_of size items) ≡ false → heard_of (items ++ given size v ∷ []) ≡ record { summary = has items (codes "summary"); gen = value_of gen items; size = Some v }
more_size [] v e = refl
more_size (summary ∷ items) v e = ap (λ (h : Heard). record { summary = true; gen = h.gen; size = h.size }) (more_size items v e)
more_size (given gen u ∷ items) v e = ap (λ (h : Heard). record { summary = h.summary; gen = Some u; size = h.size }) (more_size items v e)
more_size (given size u ∷ items) v e = absurd (true≢false e)

heard_old : (items : List Item) (i : Item) → has items (item_name i) ≡ true → hear_item (heard_of items) i ≡ None
heard_old items summary e = rw e refl
heard_old items (given gen v) e = rw (sym (has-gen items) ∙ e) refl
heard_old items (given size v) e = rw (sym (has-size items) ∙ e) refl

heard_new : (items : List Item) (i : Item) → has items (item_name i) ≡ false → hear_item (heard_of items) i ≡ Some (heard_of (items ++ i ∷ []))
heard_new items summary e = rw (more_summary items) (rw e refl)
heard_new items (given gen v) e = let n = sym (has-gen items) ∙ e in rw (more_gen items v n) (rw n refl)
heard_new items (given size v) e = let n = sym (has-size items) ∙ e in rw (more_size items v n) (rw n refl)

-- values that are no numbers

no_number : (v : Word) → is_value v ≡ false → (n : ℕ) → number_of n v ≡ None
no_number [] e n = absurd (true≢false e)
no_number (x ∷ xs) e n = by (x == 45) refl
  where
    minus : (y : ℕ) → y ≡ 45 → number_of n (y ∷ xs) ≡ None
    minus y is = rw is refl

    by : (b : Bool) → (x == 45) ≡ b → number_of n (x ∷ xs) ≡ None
    by true t = minus x (eqb-true x 45 t)
    by false t = absurd (true≢false (rw t at e))

-- an option has a value that is no number
data Spoilt (h : Heard) : Type 0 where
  gen_is : (v : Word) → h.gen ≡ Some v → ((n : ℕ) → number_of n v ≡ None) → Spoilt h
  size_is : (v : Word) → h.size ≡ Some v → ((n : ℕ) → number_of n v ≡ None) → Spoilt h

keeps_gen : (h k : Heard) (w v : Word) → h.gen ≡ Some v → hear h w ≡ Some k → k.gen ≡ Some v
keeps_gen h k w v e s = by (bytes_eq w (codes "--summary")) _ _ s
  where
    kept : (c : Bool) (z : Bool) (u : Option Word) → (if c then None else Some (record { summary = z; gen = h.gen; size = u })) ≡ Some k → k.gen ≡ Some v
    kept true z u s = cc s
    kept false z u s =
        let is : (record { summary = z; gen = h.gen; size = u }) ≡ k = cc s in
        ap (λ (x : Heard). x.gen) (sym is) ∙ e

    held : (o : Option Word) (u : Word) → o ≡ Some v → (if is_some o then None else Some (record { summary = h.summary; gen = Some u; size = h.size })) ≡ Some k → k.gen ≡ Some v
    held None u i s = cc i
    held (Some y) u i s = cc s

    by : (b : Bool) (x y : Option Word) → (if b then hear_summary h else hear_valued h x y) ≡ Some k → k.gen ≡ Some v
    by true x y s = kept h.summary true h.size s
    by false (Some u) y s = held h.gen u e s
    by false None (Some u) s = kept (is_some h.size) h.summary (Some u) s
    by false None None s = cc s

keeps_size : (h k : Heard) (w v : Word) → h.size ≡ Some v → hear h w ≡ Some k → k.size ≡ Some v
keeps_size h k w v e s = by (bytes_eq w (codes "--summary")) _ _ s
  where
    kept : (c : Bool) (z : Bool) (u : Option Word) → (if c then None else Some (record { summary = z; gen = u; size = h.size })) ≡ Some k → k.size ≡ Some v
    kept true z u s = cc s
    kept false z u s =
        let is : (record { summary = z; gen = u; size = h.size }) ≡ k = cc s in
        ap (λ (x : Heard). x.size) (sym is) ∙ e

    held : (o : Option Word) (u : Word) → o ≡ Some v → (if is_some o then None else Some (record { summary = h.summary; gen = h.gen; size = Some u })) ≡ Some k → k.size ≡ Some v
    held None u i s = cc i
    held (Some y) u i s = cc s

    by : (b : Bool) (x y : Option Word) → (if b then hear_summary h else hear_valued h x y) ≡ Some k → k.size ≡ Some v
    by true x y s = kept h.summary true h.gen s
    by false (Some u) y s = kept (is_some h.gen) h.summary (Some u) s
    by false None (Some u) s = held h.size u e s
    by false None None s = cc s

spoilt_more : (h k : Heard) (w : Word) → Spoilt h → hear h w ≡ Some k → Spoilt k
spoilt_more h k w (gen_is v e n) s = gen_is v (keeps_gen h k w v e s) n
spoilt_more h k w (size_is v e n) s = size_is v (keeps_size h k w v e s) n

spoilt_now : (h : Heard) → Spoilt h → asked_of h ≡ None
spoilt_now h (gen_is v e n) = by h.size
  where
    by : (o : Option Word) → load_of h.summary h.gen o ≡ None
    by None = rw e refl
    by (Some u) = rw (e, n 9) refl
spoilt_now h (size_is v e n) = by h.gen
  where
    with_number : (o : Option ℕ) → load_with h.summary o None ≡ None
    with_number None = refl
    with_number (Some u) = refl

    by : (o : Option Word) → load_of h.summary o h.size ≡ None
    by None = rw e refl
    by (Some u) = rw (e, n 3) (with_number (number_of 9 u))

spoilt : (ws : List Word) (h : Heard) → Spoilt h → finish (hear_all h ws) ≡ None
spoilt [] h s = spoilt_now h s
spoilt (w ∷ ws) h s = by (hear h w) refl (λ k g. spoilt ws k g)
  where
    by : (o : Option Heard) → hear h w ≡ o → ((k : Heard) → Spoilt k → finish (hear_all k ws) ≡ None) → finish (option_and_then (λ more. hear_all more ws) o) ≡ None
    by None e rest = refl
    by (Some k) e rest = rest k (spoilt_more h k w s e)

spoils : (h k : Heard) (j : Key) (v : Word) → ((n : ℕ) → number_of n v ≡ None) → hear_item h (given j v) ≡ Some k → Spoilt k
spoils h k gen v n e = gen_is v (by (is_some h.gen) e) n
  where
    by : (b : Bool) → (if b then None else Some (record { summary = h.summary; gen = Some v; size = h.size })) ≡ Some k → k.gen ≡ Some v
    by true s = cc s
    by false s = cc s
spoils h k size v n e = size_is v (by (is_some h.size) e) n
  where
    by : (b : Bool) → (if b then None else Some (record { summary = h.summary; gen = h.gen; size = Some v })) ≡ Some k → k.size ≡ Some v
    by true s = cc s
    by false s = cc s

spoilt_item : (ws : List Word) (h : Heard) (j : Key) (v : Word) → ((n : ℕ) → number_of n v ≡ None) → finish (option_and_then (λ more. hear_all more ws) (hear_item h (given j v))) ≡ None
spoilt_item ws h j v n = by (hear_item h (given j v)) refl
  where
    by : (o : Option Heard) → hear_item h (given j v) ≡ o → finish (option_and_then (λ more. hear_all more ws) o) ≡ None
    by None e = refl
    by (Some k) e = spoilt ws k (spoils h k j v n e)

-- the words

joined-plain : (w : Word) (ws : List Word) → takes_value w ≡ false → joined (w ∷ ws) ≡ w ∷ joined ws
joined-plain w [] e = refl
joined-plain w (v ∷ ws) e = rw e refl

item_plain : (i : Item) → takes_value (item_word i) ≡ false
item_plain summary = refl
item_plain (given gen v) = refl
item_plain (given size v) = refl

joined-flag : (k : Key) (v : Word) (ws : List Word) → joined (flag_word k ∷ v ∷ ws) ≡ item_word (given k v) ∷ joined ws
joined-flag gen v ws = refl
joined-flag size v ws = refl

begun-item : (items : List Item) (i : Item) (ws : List Word) → read items None (item_word i ∷ ws) ≡ (if has items (item_name i) then None else read (items ++ i ∷ []) None ws)
unfolding read
begun-item items summary ws = refl
begun-item items (given gen v) ws = refl
begun-item items (given size v) ws = refl

begun-flag : (items : List Item) (k : Key) (ws : List Word) → read items None (flag_word k ∷ ws) ≡ read items (Some k) ws
unfolding read
begun-flag items gen ws = refl
begun-flag items size ws = refl

-- an item, and what follows it
item_goes : (items : List Item) (i : Item) (ws : List Word) → end (read (items ++ i ∷ []) None ws) ≡ finish (hear_all (heard_of (items ++ i ∷ [])) (joined ws))
    → end (if has items (item_name i) then None else read (items ++ i ∷ []) None ws) ≡ finish (option_and_then (λ more. hear_all more (joined ws)) (hear_item (heard_of items) i))
item_goes items i ws rest = by (has items (item_name i)) refl
  where
    by : (b : Bool) → has items (item_name i) ≡ b → end (if has items (item_name i) then None else read (items ++ i ∷ []) None ws) ≡ finish (option_and_then (λ more. hear_all more (joined ws)) (hear_item (heard_of items) i))
    by true e = rw (heard_old items i e) (rw e refl)
    by false e = rw (heard_new items i e) (rw e rest)

abbrev Same : List Item → Option Key → List Word → List Word → Type 0
Same items waiting ws us = end (read items waiting ws) ≡ finish (hear_all (heard_of items) us)

flag_alone : (items : List Item) (k : Key) → Same items (Some k) [] (joined (flag_word k ∷ []))
unfolding read
flag_alone items gen = refl
flag_alone items size = refl

value_read : (items : List Item) (k : Key) (v : Word) (ws : List Word) (b : Bool) → is_value v ≡ b
    → read items (Some k) (v ∷ ws) ≡ (if b then (if has items (item_name (given k v)) then None else read (items ++ given k v ∷ []) None ws) else None)
unfolding read
value_read items k v ws b e = rw e refl

value_goes : (items : List Item) (k : Key) (v : Word) (ws : List Word) → Same (items ++ given k v ∷ []) None ws (joined ws) → Same items (Some k) (v ∷ ws) (joined (flag_word k ∷ v ∷ ws))
value_goes items k v ws rest = rw (joined-flag k v ws, hear-word (heard_of items) (given k v)) (by (is_value v) refl)
  where
    by : (b : Bool) → is_value v ≡ b → end (read items (Some k) (v ∷ ws)) ≡ finish (option_and_then (λ more. hear_all more (joined ws)) (hear_item (heard_of items) (given k v)))
    by true e = rw (value_read items k v ws true e) (item_goes items (given k v) ws rest)
    by false e = rw (value_read items k v ws false e) (sym (spoilt_item (joined ws) (heard_of items) k v (no_number v e)))

other_goes : (items : List Item) (w : Word) (ws : List Word) → takes_value w ≡ false → hear (heard_of items) w ≡ None → read items None (w ∷ ws) ≡ None → Same items None (w ∷ ws) (joined (w ∷ ws))
other_goes items w ws t h n = rw (n, joined-plain w ws t, h) refl

same_item : (i : Item) (ws : List Word) (items : List Item) → Same (items ++ i ∷ []) None ws (joined ws) → Same items None (item_word i ∷ ws) (joined (item_word i ∷ ws))
same_item i ws items rest = rw (begun-item items i ws, joined-plain (item_word i) ws (item_plain i), hear-word (heard_of items) i) (item_goes items i ws rest)

same_flag : (k : Key) (ws : List Word) (items : List Item) → Same items (Some k) ws (joined (flag_word k ∷ ws)) → Same items None (flag_word k ∷ ws) (joined (flag_word k ∷ ws))
same_flag k ws items rest = rw (begun-flag items k ws) rest

same_word : (w : Word) (ws : List Word) (items : List Item) → ((i : Item) → Same (items ++ i ∷ []) None ws (joined ws)) → ((k : Key) → Same items (Some k) ws (joined (flag_word k ∷ ws))) → Shape w → Same items None (w ∷ ws) (joined (w ∷ ws))
unfolding read
same_word w ws items next waiting (whole i e) = subst (λ x. Same items None (x ∷ ws) (joined (x ∷ ws))) (sym e) (same_item i ws items (next i))
same_word w ws items next waiting (bare k e) = subst (λ x. Same items None (x ∷ ws) (joined (x ∷ ws))) (sym e) (same_flag k ws items (waiting k))
same_word w ws items next waiting (other t h n) = other_goes items w ws t (h (heard_of items)) (n items _)

nothing_more : (items : List Item) → Same items None [] []
unfolding read
nothing_more items = refl

mutual
  same : (ws : List Word) (items : List Item) → Same items None ws (joined ws)
  same [] items = nothing_more items
  same (w ∷ ws) items = same_word w ws items (λ i. same ws (items ++ i ∷ [])) (λ k. waits ws items k) (shape w)

  waits : (ws : List Word) (items : List Item) (k : Key) → Same items (Some k) ws (joined (flag_word k ∷ ws))
  waits [] items k = flag_alone items k
  waits (v ∷ ws) items k = value_goes items k v ws (same ws (items ++ given k v ∷ []))

-- `--` among the words

item_no_dashes : (i : Item) → bytes_eq (item_word i) (codes "--") ≡ false
item_no_dashes summary = refl
item_no_dashes (given gen v) = refl
item_no_dashes (given size v) = refl

flag_no_dashes : (k : Key) → bytes_eq (flag_word k) (codes "--") ≡ false
flag_no_dashes gen = refl
flag_no_dashes size = refl

heard_rest : (h : Heard) (w : Word) (ws : List Word) → ((k : Heard) → finish (hear_all k ws) ≡ None) → finish (option_and_then (λ more. hear_all more ws) (hear h w)) ≡ None
heard_rest h w ws rest = by (hear h w)
  where
    by : (o : Option Heard) → finish (option_and_then (λ more. hear_all more ws) o) ≡ None
    by None = refl
    by (Some k) = rest k

plain_dashes : (w : Word) (ws : List Word) (h : Heard) → has_dashes (w ∷ ws) ≡ true → ((k : Heard) → has_dashes ws ≡ true → finish (hear_all k (joined ws)) ≡ None) → takes_value w ≡ false → bytes_eq w (codes "--") ≡ false → finish (hear_all h (joined (w ∷ ws))) ≡ None
plain_dashes w ws h d rest t n = rw (joined-plain w ws t) (heard_rest h w (joined ws) (λ k. rest k (rw n at d)))

flag_dashes : (k : Key) (v : Word) (ws : List Word) (h : Heard) → has_dashes (v ∷ ws) ≡ true → ((k : Heard) → has_dashes ws ≡ true → finish (hear_all k (joined ws)) ≡ None) → finish (hear_all h (joined (flag_word k ∷ v ∷ ws))) ≡ None
flag_dashes k v ws h d rest = rw (joined-flag k v ws, hear-word h (given k v)) (by (bytes_eq v (codes "--")) refl)
  where
    minus : (n : ℕ) → number_of n (codes "--") ≡ None
    minus n = refl

    dashes : v ≡ codes "--" → (n : ℕ) → number_of n v ≡ None
    dashes is n = rw is (minus n)

    by : (b : Bool) → bytes_eq v (codes "--") ≡ b → finish (option_and_then (λ more. hear_all more (joined ws)) (hear_item h (given k v))) ≡ None
    by true e = spoilt_item (joined ws) h k v (dashes ((bytes_eq-Decides v (codes "--")).0 e))
    by false e = rw (← hear-word h (given k v)) (heard_rest h (item_word (given k v)) (joined ws) (λ j. rest j (rw e at d)))

other_dashes : (w : Word) (ws : List Word) (h : Heard) → takes_value w ≡ false → hear h w ≡ None → finish (hear_all h (joined (w ∷ ws))) ≡ None
other_dashes w ws h t n = rw (joined-plain w ws t, n) refl

abbrev Ends : List Word → Type 0
Ends ws = (k : Heard) → has_dashes ws ≡ true → finish (hear_all k (joined ws)) ≡ None

dashed_last : (w : Word) (h : Heard) → has_dashes (w ∷ []) ≡ true → Ends [] → Shape w → finish (hear_all h (joined (w ∷ []))) ≡ None
dashed_last w h d rest (whole i e) = plain_dashes w [] h d rest (ap takes_value e ∙ item_plain i) (ap (λ x. bytes_eq x (codes "--")) e ∙ item_no_dashes i)
dashed_last w h d rest (bare k e) = absurd (true≢false (sym d ∙ (ap (λ x. bytes_eq x (codes "--") || false) e ∙ ap (λ b. b || false) (flag_no_dashes k))))
dashed_last w h d rest (other t n m) = other_dashes w [] h t (n h)

dashed_more : (w v : Word) (ws : List Word) (h : Heard) → has_dashes (w ∷ v ∷ ws) ≡ true → Ends (v ∷ ws) → Ends ws → Shape w → finish (hear_all h (joined (w ∷ v ∷ ws))) ≡ None
dashed_more w v ws h d rest later (whole i e) = plain_dashes w (v ∷ ws) h d rest (ap takes_value e ∙ item_plain i) (ap (λ x. bytes_eq x (codes "--")) e ∙ item_no_dashes i)
dashed_more w v ws h d rest later (bare k e) = rw e (flag_dashes k v ws h (rw (e, flag_no_dashes k) at d) later)
dashed_more w v ws h d rest later (other t n m) = other_dashes w (v ∷ ws) h t (n h)

dashed : (ws : List Word) → Ends ws
dashed [] h d = absurd (true≢false (sym d))
dashed (w ∷ []) h d = dashed_last w h d (dashed []) (shape w)
dashed (w ∷ v ∷ ws) h d = dashed_more w v ws h d (dashed (v ∷ ws)) (dashed ws) (shape w)

pub meant_by_line : (words : List Word) → words_meaning words ≡ end (line_of words)
meant_by_line words = by (has_dashes words) refl
  where
    by : (b : Bool) → has_dashes words ≡ b → words_meaning words ≡ end (if has_dashes words then None else read [] None words)
    by true e = rw e (dashed words nothing e)
    by false e = rw e (sym (same words []))
