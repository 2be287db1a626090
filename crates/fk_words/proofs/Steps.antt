-- What one word does to `clap`, and to the items of a command line.
use Rattle.std.proofs.Common.{Bool, List, None, Option, Some, [], ap, append-nil, ap₂, codes, false, length, map, refl, sym, true, true≢false, ℕ, ◌++◌, ◌||◌, ◌∙◌, ◌∷◌, ◌≡◌, ◌≢◌}
use Rattle.std.proofs.Math.Dec.{eqb-suc-zero}
use Rattle.std.specs.Str.{bytes_eq, chars}
use Rattle.clap.specs.Lexer.{long_of, short_of}
use Rattle.clap.specs.Words.{Rule, Row, Kinds}
use Rattle.clap.specs.declared.error.kind.ErrorKind.{ErrorKind}
use Rattle.clap.specs.Kinds.{or_else}
use Rattle.clap.specs.Faults.{turn_fault, settle_fault, use_fault, flags_fault}
use Rattle.clap.specs.Simple.{Shape, built, with_index, filled}
use Rattle.clap.specs.Walk.{Held, Walk, Waiting, idle, walked, settled, at_row, has_row, used, reading_by, bundle_met}
use Rattle.clap.specs.Walk as walking
use Rattle.clap.specs.declared.parser.matches.ValueSource.TheVariants.{CommandLine}
use Rattle.fk_words.specs.Words.{Word}
use Rattle.fk_words.specs.Line.{app, summary_rule, gen_rule, size_rule, Key, gen, size, Item, summary, given, key_name, item_name, has, Next, add, step}

abbrev pub top : Shape
top = (built app).top

abbrev pub rules : List Rule
rules = top.rules

abbrev pub summary_built : Rule
summary_built = with_index 1 (filled summary_rule)

abbrev pub key_rule : Key → Rule
key_rule gen = with_index 1 (filled gen_rule)
key_rule size = with_index 1 (filled size_rule)

pub rules_are : rules ≡ summary_built ∷ key_rule gen ∷ key_rule size ∷ []
rules_are = refl

abbrev pub item_rule : Item → Rule
item_rule summary = summary_built
item_rule (given k v) = key_rule k

abbrev pub item_values : Item → List Word
item_values summary = codes "true" ∷ []
item_values (given k v) = v ∷ []

-- what `clap` keeps of an item
abbrev pub row : Item → Row
row i = record { id = item_name i; values = item_values i; count = None; source = Some CommandLine; reading = reading_by (item_rule i) }

abbrev pub rows : List Item → List Row
rows items = map row items

-- ---- the rows

pub has_row-rows : (items : List Item) (name : Word) → has_row name (rows items) ≡ has items name
has_row-rows [] name = refl
has_row-rows (i ∷ items) name = ap (λ b. bytes_eq (item_name i) name || b) (has_row-rows items name)

pub at_row-absent : (name : Word) (change : Row → List Row) (missing rs : List Row) → has_row name rs ≡ false → at_row name change missing rs ≡ rs ++ missing
at_row-absent name change missing [] h = refl
at_row-absent name change missing (r ∷ rs) h = by (bytes_eq r.id name) refl
    (λ t. at_row-absent name change missing rs (ap (λ b. b || has_row name rs) (sym t) ∙ h))
  where
    by : (b : Bool) → bytes_eq r.id name ≡ b → (bytes_eq r.id name ≡ false → at_row name change missing rs ≡ rs ++ missing) → at_row name change missing (r ∷ rs) ≡ (r ∷ rs) ++ missing
    by true e rest = absurd (true≢false (sym (ap (λ b. b || has_row name rs) e) ∙ h))
    by false e rest = rw e (ap (λ l. r ∷ l) (rest e))

-- the rows after one more use
abbrev pub used_item : Item → List Row → List Row
used_item summary rs = used summary_built [] rs
used_item (given k v) rs = used (key_rule k) (v ∷ []) rs

pub map-append : (items : List Item) (i : Item) → rows items ++ row i ∷ [] ≡ rows (items ++ i ∷ [])
map-append [] i = refl
map-append (j ∷ items) i = ap (λ l. row j ∷ l) (map-append items i)

pub with_fresh : (name : Word) (change other : Row → List Row) (missing rs : List Row) → has_row name rs ≡ false → at_row name change missing (at_row name other [] rs) ≡ rs ++ missing
with_fresh name change other missing rs h =
    ap (at_row name change missing) (at_row-absent name other [] rs h ∙ append-nil rs) ∙ at_row-absent name change missing rs h

pub fresh : (a : Rule) (values : List Word) (rs : List Row) → has_row a.id rs ≡ false
    → walking.with_values a.id (reading_by a) CommandLine values (walking.without a.id rs) ≡ rs ++ record { id = a.id; values = values; count = None; source = Some CommandLine; reading = reading_by a } ∷ []
fresh a values rs h = with_fresh a.id (walking.more_values CommandLine values) (λ _. []) _ rs h

pub used-rows : (items : List Item) (i : Item) → has items (item_name i) ≡ false → used_item i (rows items) ≡ rows (items ++ i ∷ [])
used-rows items i h = by i (has_row-rows items (item_name i) ∙ h) ∙ map-append items i
  where
    by : (j : Item) → has_row (item_name j) (rows items) ≡ false → used_item j (rows items) ≡ rows items ++ row j ∷ []
    by summary e = fresh summary_built (codes "true" ∷ []) (rows items) e
    by (given gen v) e = fresh (key_rule gen) (v ∷ []) (rows items) e
    by (given size v) e = fresh (key_rule size) (v ∷ []) (rows items) e

-- ---- one word

abbrev pub at : Held → Waiting → Walk
at h waiting = record { held = h; waiting = waiting; position = 1; is_trailing = false; stopped = None }

-- between two items, with these items behind
pub record Ready (items : List Item) (h : Held) : Type 0 where
  pub settles : settle_fault rules false h ≡ []
  pub behind : (settled rules h).rows ≡ rows items
  pub skips : h.skip ≡ 0

-- an item has come twice
pub record Bad (h : Held) : Type 0 where
  pub fails : settle_fault rules false h ≢ []
  pub skips : h.skip ≡ 0

-- an option waits for its value
abbrev pub waiting_held : List Item → Key → Held
waiting_held items k = record { rows = rows items; pending = Some (key_name k, []); skip = 0 }

-- what a word does to the walk, beside what it does to `read`
pub data Steps (kinds : Kinds) (w : Walk) (o : Option (List Item)) (next : Next) : Type 0 where
  refuses : kinds ≢ [] → o ≡ None → Steps kinds w o next
  moves : (items : List Item) (h : Held) → kinds ≡ [] → w ≡ at h idle → Ready items h → o ≡ next items None → Steps kinds w o next
  waits : (items : List Item) (k : Key) → kinds ≡ [] → w ≡ at (waiting_held items k) (walking.option (key_name k)) → o ≡ next items (Some k) → Steps kinds w o next
  repeats : (h : Held) → kinds ≡ [] → w ≡ at h idle → Bad h → o ≡ None → Steps kinds w o next

abbrev pub turn : Held → Waiting → Word → Kinds
turn h waiting word = turn_fault top [] (at h waiting) word

pub after : Held → Waiting → Word → Walk
unfolding walked
after h waiting word = walked rules [] (at h waiting) word

pub no_kinds : (k : ErrorKind) (ks : Kinds) → (k ∷ ks) ≢ []
no_kinds k ks e = cc

pub or_else-left : (a b : Kinds) → a ≢ [] → or_else a b ≢ []
or_else-left [] b h e = h refl
or_else-left (k ∷ ks) b h e = cc

-- where items are behind, the rows have the names of the items
pub has_row-behind : (items : List Item) (h : Held) (name : Word) → Ready items h → has_row name (settled rules h).rows ≡ has items name
has_row-behind items h name ready = ap (has_row name) ready.behind ∙ has_row-rows items name

-- an item is used
abbrev pub use_item : Item → List Row → Kinds
use_item summary rs = use_fault false summary_built [] rs
use_item (given k v) rs = use_fault false (key_rule k) (v ∷ []) rs

abbrev pub with_item : Item → Held → Held
with_item i h = record h { rows = used_item i (settled rules h).rows; pending = None }

pub use_item-new : (i : Item) (rs : List Row) → has_row (item_name i) rs ≡ false → use_item i rs ≡ []
use_item-new summary rs e = rw e refl
use_item-new (given gen v) rs e = rw e refl
use_item-new (given size v) rs e = rw e refl

pub use_item-old : (i : Item) (rs : List Row) → has_row (item_name i) rs ≡ true → use_item i rs ≢ []
use_item-old summary rs e = rw e (no_kinds _ _)
use_item-old (given gen v) rs e = rw e (no_kinds _ _)
use_item-old (given size v) rs e = rw e (no_kinds _ _)

-- the step of a whole item
pub item_step : (items : List Item) (h : Held) (i : Item) (next : Next) → Ready items h
    → Steps (or_else (or_else (settle_fault rules false h) (use_item i (settled rules h).rows)) []) (at (with_item i h) idle) (add items i next) next
item_step items h i next ready = by (has items (item_name i)) refl
  where
    by : (b : Bool) → has items (item_name i) ≡ b → Steps (or_else (or_else (settle_fault rules false h) (use_item i (settled rules h).rows)) []) (at (with_item i h) idle) (add items i next) next
    by true e = rw (ready.settles, e) (refuses (or_else-left _ _ (use_item-old i _ (has_row-behind items h (item_name i) ready ∙ e))) refl)
    by false e =
        let new : use_item i (settled rules h).rows ≡ [] = use_item-new i _ (has_row-behind items h (item_name i) ready ∙ e) in
        rw (ready.settles, e) (moves (items ++ i ∷ []) (with_item i h) (ap (λ k. or_else k []) new) refl
        (record { settles = refl; behind = ap (used_item i) ready.behind ∙ used-rows items i e; skips = ready.skips }) refl)

pub held-waiting : (items : List Item) (h : Held) (k : Key) → Ready items h → record (settled rules h) { pending = Some (key_name k, []) } ≡ waiting_held items k
held-waiting items h k ready = let f : List Row → ℕ → Held = λ rs n. record { rows = rs; pending = Some (key_name k, []); skip = n } in ap₂ f ready.behind ready.skips

-- the word between two items
pub idle_step : (items : List Item) (h : Held) (word : Word) (next : Next) → Ready items h → bytes_eq word (45 ∷ 45 ∷ []) ≡ false
    → Steps (turn h idle word) (walked rules [] (at h idle) word) (step items None word next) next
unfolding walked flags_fault bundle_met
idle_step items h word next ready dashes = by (long_of word) refl
  where
    lettered : (x : ℕ) (xs : Word) (cs : Word) → chars (x ∷ xs) ≡ cs → short_of word ≡ Some (x ∷ xs) → long_of word ≡ None → Steps (turn h idle word) (walked rules [] (at h idle) word) (step items None word next) next
    lettered x xs [] c s e = rw (dashes, e, s, ready.skips, c) (refuses (no_kinds _ _) refl)
    lettered x xs (y ∷ ys) c s e = rw (dashes, e, s, ready.skips, c) (refuses (no_kinds _ _) refl)

    short : (o : Option Word) → short_of word ≡ o → long_of word ≡ None → Steps (turn h idle word) (walked rules [] (at h idle) word) (step items None word next) next
    short None s e = rw (dashes, e, s) (refuses (no_kinds _ _) refl)
    short (Some []) s e = rw (dashes, e, s) (refuses (no_kinds _ _) refl)
    short (Some (x ∷ xs)) s e = lettered x xs (chars (x ∷ xs)) refl s e

    opens : (k : Key) → settle_fault rules false h ≡ [] → Steps (or_else (settle_fault rules false h) []) (at (record (settled rules h) { pending = Some (key_name k, []) }) (walking.option (key_name k))) (next items (Some k)) next
    opens k ok = waits items k (ap (λ (l : Kinds). or_else l []) ok) (ap (λ (g : Held). at g (walking.option (key_name k))) (held-waiting items h k ready)) refl

    bare_name : (name : Word) (a b c : Bool) → long_of word ≡ Some (name, None) → bytes_eq (codes "summary") name ≡ a → bytes_eq (codes "gen") name ≡ b → bytes_eq (codes "size") name ≡ c → Steps (turn h idle word) (walked rules [] (at h idle) word) (step items None word next) next
    bare_name name true b c e ea eb ec = rw (dashes, e, ea) (item_step items h summary next ready)
    bare_name name false true c e ea eb ec = rw (dashes, e, ea, eb) (opens gen ready.settles)
    bare_name name false false true e ea eb ec = rw (dashes, e, ea, eb, ec) (opens size ready.settles)
    bare_name name false false false e ea eb ec = rw (dashes, e, ea, eb, ec) (refuses (no_kinds _ _) refl)

    with_value : (name v : Word) (a b c : Bool) → long_of word ≡ Some (name, Some v) → bytes_eq (codes "summary") name ≡ a → bytes_eq (codes "gen") name ≡ b → bytes_eq (codes "size") name ≡ c → Steps (turn h idle word) (walked rules [] (at h idle) word) (step items None word next) next
    with_value name v true b c e ea eb ec = rw (dashes, e, ea) (refuses (no_kinds _ _) refl)
    with_value name v false true c e ea eb ec = rw (dashes, e, ea, eb) (item_step items h (given gen v) next ready)
    with_value name v false false true e ea eb ec = rw (dashes, e, ea, eb, ec) (item_step items h (given size v) next ready)
    with_value name v false false false e ea eb ec = rw (dashes, e, ea, eb, ec) (refuses (no_kinds _ _) refl)

    by : (o : Option (Word × Option Word)) → long_of word ≡ o → Steps (turn h idle word) (walked rules [] (at h idle) word) (step items None word next) next
    by None e = short (short_of word) refl e
    by (Some (name, None)) e = bare_name name _ _ _ e refl refl refl
    by (Some (name, Some v)) e = with_value name v _ _ _ e refl refl refl

-- the value of an option that waits
abbrev pub valued : List Item → Key → Word → Held
valued items k word = record (waiting_held items k) { pending = Some (key_name k, word ∷ []) }

pub settle-valued : (items : List Item) (k : Key) (word : Word) → settle_fault rules false (valued items k word) ≡ use_item (given k word) (rows items)
settle-valued items gen word = refl
settle-valued items size word = refl

pub settled-valued : (items : List Item) (k : Key) (word : Word) → (settled rules (valued items k word)).rows ≡ used_item (given k word) (rows items)
settled-valued items gen word = refl
settled-valued items size word = refl

pub value_step : (items : List Item) (k : Key) (word : Word) (next : Next) → Steps [] (at (valued items k word) idle) (add items (given k word) next) next
value_step items k word next = by (has items (key_name k)) refl
  where
    by : (b : Bool) → has items (key_name k) ≡ b → Steps [] (at (valued items k word) idle) (add items (given k word) next) next
    by true e = rw e (repeats (valued items k word) refl refl (record {
      fails = rw (settle-valued items k word) (use_item-old (given k word) (rows items) (has_row-rows items (key_name k) ∙ e));
      skips = refl;
    }) refl)
    by false e = rw e (moves (items ++ given k word ∷ []) (valued items k word) refl refl (record {
      settles = settle-valued items k word ∙ use_item-new (given k word) (rows items) (has_row-rows items (key_name k) ∙ e);
      behind = settled-valued items k word ∙ used-rows items (given k word) e;
      skips = refl;
    }) refl)

pub gen_step : (items : List Item) (word : Word) (next : Next) → bytes_eq word (45 ∷ 45 ∷ []) ≡ false → Steps (turn (waiting_held items gen) (walking.option (key_name gen)) word) (walked rules [] (at (waiting_held items gen) (walking.option (key_name gen))) word) (step items (Some gen) word next) next
unfolding walked flags_fault bundle_met chars
gen_step items word next dashes = by (long_of word) refl
  where
    lettered : (x : ℕ) (xs : Word) (cs : Word) → chars (x ∷ xs) ≡ cs → short_of word ≡ Some (x ∷ xs) → long_of word ≡ None → Steps (turn (waiting_held items gen) (walking.option (key_name gen)) word) (walked rules [] (at (waiting_held items gen) (walking.option (key_name gen))) word) (step items (Some gen) word next) next
    lettered x xs [] c s e = rw (dashes, e, s, c) (value_step items gen word next)
    lettered x xs (y ∷ ys) c s e = rw (dashes, e, s, c, eqb-suc-zero (length ys)) (refuses (no_kinds _ _) refl)

    short : (o : Option Word) → short_of word ≡ o → long_of word ≡ None → Steps (turn (waiting_held items gen) (walking.option (key_name gen)) word) (walked rules [] (at (waiting_held items gen) (walking.option (key_name gen))) word) (step items (Some gen) word next) next
    short None s e = rw (dashes, e, s) (value_step items gen word next)
    short (Some []) s e = rw (dashes, e, s) (value_step items gen word next)
    short (Some (x ∷ xs)) s e = lettered x xs (chars (x ∷ xs)) refl s e

    named_word : (name : Word) (v : Option Word) (a b c : Bool) → long_of word ≡ Some (name, v) → bytes_eq (codes "summary") name ≡ a → bytes_eq (codes "gen") name ≡ b → bytes_eq (codes "size") name ≡ c → Steps (turn (waiting_held items gen) (walking.option (key_name gen)) word) (walked rules [] (at (waiting_held items gen) (walking.option (key_name gen))) word) (step items (Some gen) word next) next
    named_word name None true b c e ea eb ec = rw (dashes, e, ea) (refuses (no_kinds _ _) refl)
    named_word name (Some v) true b c e ea eb ec = rw (dashes, e, ea) (refuses (no_kinds _ _) refl)
    named_word name None false true c e ea eb ec = rw (dashes, e, ea, eb) (refuses (no_kinds _ _) refl)
    named_word name (Some v) false true c e ea eb ec = rw (dashes, e, ea, eb) (refuses (no_kinds _ _) refl)
    named_word name None false false true e ea eb ec = rw (dashes, e, ea, eb, ec) (refuses (no_kinds _ _) refl)
    named_word name (Some v) false false true e ea eb ec = rw (dashes, e, ea, eb, ec) (refuses (no_kinds _ _) refl)
    named_word name v false false false e ea eb ec = rw (dashes, e, ea, eb, ec) (refuses (no_kinds _ _) refl)

    by : (o : Option (Word × Option Word)) → long_of word ≡ o → Steps (turn (waiting_held items gen) (walking.option (key_name gen)) word) (walked rules [] (at (waiting_held items gen) (walking.option (key_name gen))) word) (step items (Some gen) word next) next
    by None e = short (short_of word) refl e
    by (Some (name, v)) e = named_word name v _ _ _ e refl refl refl

pub size_step : (items : List Item) (word : Word) (next : Next) → bytes_eq word (45 ∷ 45 ∷ []) ≡ false → Steps (turn (waiting_held items size) (walking.option (key_name size)) word) (walked rules [] (at (waiting_held items size) (walking.option (key_name size))) word) (step items (Some size) word next) next
unfolding walked flags_fault bundle_met chars
size_step items word next dashes = by (long_of word) refl
  where
    lettered : (x : ℕ) (xs : Word) (cs : Word) → chars (x ∷ xs) ≡ cs → short_of word ≡ Some (x ∷ xs) → long_of word ≡ None → Steps (turn (waiting_held items size) (walking.option (key_name size)) word) (walked rules [] (at (waiting_held items size) (walking.option (key_name size))) word) (step items (Some size) word next) next
    lettered x xs [] c s e = rw (dashes, e, s, c) (value_step items size word next)
    lettered x xs (y ∷ ys) c s e = rw (dashes, e, s, c, eqb-suc-zero (length ys)) (refuses (no_kinds _ _) refl)

    short : (o : Option Word) → short_of word ≡ o → long_of word ≡ None → Steps (turn (waiting_held items size) (walking.option (key_name size)) word) (walked rules [] (at (waiting_held items size) (walking.option (key_name size))) word) (step items (Some size) word next) next
    short None s e = rw (dashes, e, s) (value_step items size word next)
    short (Some []) s e = rw (dashes, e, s) (value_step items size word next)
    short (Some (x ∷ xs)) s e = lettered x xs (chars (x ∷ xs)) refl s e

    named_word : (name : Word) (v : Option Word) (a b c : Bool) → long_of word ≡ Some (name, v) → bytes_eq (codes "summary") name ≡ a → bytes_eq (codes "gen") name ≡ b → bytes_eq (codes "size") name ≡ c → Steps (turn (waiting_held items size) (walking.option (key_name size)) word) (walked rules [] (at (waiting_held items size) (walking.option (key_name size))) word) (step items (Some size) word next) next
    named_word name None true b c e ea eb ec = rw (dashes, e, ea) (refuses (no_kinds _ _) refl)
    named_word name (Some v) true b c e ea eb ec = rw (dashes, e, ea) (refuses (no_kinds _ _) refl)
    named_word name None false true c e ea eb ec = rw (dashes, e, ea, eb) (refuses (no_kinds _ _) refl)
    named_word name (Some v) false true c e ea eb ec = rw (dashes, e, ea, eb) (refuses (no_kinds _ _) refl)
    named_word name None false false true e ea eb ec = rw (dashes, e, ea, eb, ec) (refuses (no_kinds _ _) refl)
    named_word name (Some v) false false true e ea eb ec = rw (dashes, e, ea, eb, ec) (refuses (no_kinds _ _) refl)
    named_word name v false false false e ea eb ec = rw (dashes, e, ea, eb, ec) (refuses (no_kinds _ _) refl)

    by : (o : Option (Word × Option Word)) → long_of word ≡ o → Steps (turn (waiting_held items size) (walking.option (key_name size)) word) (walked rules [] (at (waiting_held items size) (walking.option (key_name size))) word) (step items (Some size) word next) next
    by None e = short (short_of word) refl e
    by (Some (name, v)) e = named_word name v _ _ _ e refl refl refl

-- a word after an item that came twice
pub bad_step : (h : Held) (word : Word) → Bad h → bytes_eq word (45 ∷ 45 ∷ []) ≡ false → turn h idle word ≢ []
unfolding walked flags_fault bundle_met
bad_step h word bad dashes = by (long_of word) refl
  where
    lettered : (x : ℕ) (xs : Word) (cs : Word) → chars (x ∷ xs) ≡ cs → short_of word ≡ Some (x ∷ xs) → long_of word ≡ None → turn h idle word ≢ []
    lettered x xs [] c s e = rw (dashes, e, s, bad.skips, c) (no_kinds _ _)
    lettered x xs (y ∷ ys) c s e = rw (dashes, e, s, bad.skips, c) (no_kinds _ _)

    short : (o : Option Word) → short_of word ≡ o → long_of word ≡ None → turn h idle word ≢ []
    short None s e = rw (dashes, e, s) (no_kinds _ _)
    short (Some []) s e = rw (dashes, e, s) (no_kinds _ _)
    short (Some (x ∷ xs)) s e = lettered x xs (chars (x ∷ xs)) refl s e

    named_word : (name : Word) (v : Option Word) (a b c : Bool) → long_of word ≡ Some (name, v) → bytes_eq (codes "summary") name ≡ a → bytes_eq (codes "gen") name ≡ b → bytes_eq (codes "size") name ≡ c → turn h idle word ≢ []
    named_word name None true b c e ea eb ec = rw (dashes, e, ea) (or_else-left _ _ (or_else-left _ _ bad.fails))
    named_word name (Some v) true b c e ea eb ec = rw (dashes, e, ea) (no_kinds _ _)
    named_word name None false true c e ea eb ec = rw (dashes, e, ea, eb) (or_else-left _ _ bad.fails)
    named_word name (Some v) false true c e ea eb ec = rw (dashes, e, ea, eb) (or_else-left _ _ (or_else-left _ _ bad.fails))
    named_word name None false false true e ea eb ec = rw (dashes, e, ea, eb, ec) (or_else-left _ _ bad.fails)
    named_word name (Some v) false false true e ea eb ec = rw (dashes, e, ea, eb, ec) (or_else-left _ _ (or_else-left _ _ bad.fails))
    named_word name v false false false e ea eb ec = rw (dashes, e, ea, eb, ec) (no_kinds _ _)

    by : (o : Option (Word × Option Word)) → long_of word ≡ o → turn h idle word ≢ []
    by None e = short (short_of word) refl e
    by (Some (name, v)) e = named_word name v _ _ _ e refl refl refl
