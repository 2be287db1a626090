-- `clap` takes exactly the words that `read` does.
use Rattle.std.proofs.Common.{◌≡◌, ◌≢◌, List, [], ◌∷◌, ◌++◌, Bool, true, false, Option, Some, None, codes, fold, refl, sym, ap, ap₂, ◌∙◌, subst, ◌||◌, true≢false}
use Rattle.std.specs.Str.{bytes_eq}
use Rattle.clap.specs.Words.{Row, Kinds, fault_of, first_of, one_of, matches_of}
use Rattle.clap.specs.Kinds.{or_else}
use Rattle.clap.specs.Faults.{walk_fault, turn_fault, settle_fault, defaults_fault, default_fault}
use Rattle.clap.specs.Simple.{built}
use Rattle.clap.specs.Walk.{Held, Walk, Waiting, idle, walked, walk, settled, at_row, has_row, used, reading_by, bundle_met, nothing_held, with_default}
use Rattle.clap.proofs.FaultLemmas.{leaf_fault}
use Rattle.std.proofs.Common.{find, slice_get, option_and_then, if◌then◌else◌}
use Rattle.clap.specs.Walk as walking
use Rattle.clap.specs.declared.parser.matches.ValueSource.TheVariants.{DefaultValue}
use Rattle.fk_words.specs.Words.{Word}
use Rattle.fk_words.specs.Line.{app, Key, gen, size, Item, summary, given, key_name, has, read, has_dashes, line_of, value_of}
use Rattle.fk_words.proofs.Steps.{top, rules, summary_built, key_rule, row, rows, has_row-rows, at_row-absent, at, Ready, Bad, waiting_held, Steps, refuses, moves, waits, repeats, no_kinds, or_else-left, idle_step, gen_step, size_step, bad_step}

-- `--` is none of the words
abbrev pub NoDashes : List Word → Type 0
NoDashes [] = Unit {0}
NoDashes (word ∷ words) = (bytes_eq word (45 ∷ 45 ∷ []) ≡ false) × NoDashes words

-- all the words

abbrev last : Walk → List Word → Held
last w words = (fold (walked rules []) w words).held

abbrev faults : Walk → List Word → Kinds
faults w words = or_else (walk_fault top [] w words) (settle_fault rules false (last w words))

abbrev pub Agrees : Kinds → List Row → Option (List Item) → Type 0
Agrees kinds rs None = kinds ≢ []
Agrees kinds rs (Some items) = (kinds ≡ []) × (rs ≡ rows items)

or_else-assoc : (a b c : Kinds) → or_else (or_else a b) c ≡ or_else a (or_else b c)
or_else-assoc [] b c = refl
or_else-assoc (k ∷ ks) b c = refl

faults-cons : (w : Walk) (word : Word) (words : List Word) → faults w (word ∷ words) ≡ or_else (turn_fault top [] w word) (faults (walked rules [] w word) words)
unfolding walk_fault
faults-cons w word words = or_else-assoc (turn_fault top [] w word) (walk_fault top [] (walked rules [] w word) words) _

bad_all : (words : List Word) (h : Held) → NoDashes words → Bad h → faults (at h idle) words ≢ []
unfolding walk_fault
bad_all [] h d bad = bad.fails
bad_all (word ∷ words) h d bad = rw (faults-cons (at h idle) word words) (or_else-left _ _ (bad_step h word bad d.0))

module _ (words : List Word) (dashes : NoDashes words)
    (idles : (items : List Item) (h : Held) → Ready items h → Agrees (faults (at h idle) words) (settled rules (last (at h idle) words)).rows (read items None words))
    (waitings : (items : List Item) (k : Key) → Agrees (faults (at (waiting_held items k) (walking.option (key_name k))) words) (settled rules (last (at (waiting_held items k) (walking.option (key_name k))) words)).rows (read items (Some k) words)) where
  through : (w : Walk) (word : Word) (o : Option (List Item)) → Steps (turn_fault top [] w word) (walked rules [] w word) o (λ more next. read more next words)
      → Agrees (faults w (word ∷ words)) (settled rules (last (walked rules [] w word) words)).rows o
  through w word o (refuses k e) = rw (e, faults-cons w word words) (or_else-left _ _ k)
  through w word o (moves items h k e ready n) = rw (n, faults-cons w word words, k, e) (idles items h ready)
  through w word o (waits items j k e n) = rw (n, faults-cons w word words, k, e) (waitings items j)
  through w word o (repeats h k e bad n) = rw (n, faults-cons w word words, k, e) (bad_all words h dashes bad)

mutual
  unfolding read walk_fault

  idle_all : (words : List Word) (items : List Item) (h : Held) → NoDashes words → Ready items h → Agrees (faults (at h idle) words) (settled rules (last (at h idle) words)).rows (read items None words)
  idle_all [] items h d ready = (ready.settles, ready.behind)
  idle_all (word ∷ words) items h d ready =
      through words d.1 (λ more g r. idle_all words more g d.1 r) (λ more k. waiting_all words more k d.1) (at h idle) word _
      (idle_step items h word (λ more next. read more next words) ready d.0)

  waiting_all : (words : List Word) (items : List Item) (k : Key) → NoDashes words → Agrees (faults (at (waiting_held items k) (walking.option (key_name k))) words) (settled rules (last (at (waiting_held items k) (walking.option (key_name k))) words)).rows (read items (Some k) words)
  waiting_all [] items gen d = no_kinds _ _
  waiting_all [] items size d = no_kinds _ _
  waiting_all (word ∷ words) items gen d =
      through words d.1 (λ more g r. idle_all words more g d.1 r) (λ more k. waiting_all words more k d.1) (at (waiting_held items gen) (walking.option (key_name gen))) word _
      (gen_step items word (λ more next. read more next words) d.0)
  waiting_all (word ∷ words) items size d =
      through words d.1 (λ more g r. idle_all words more g d.1 r) (λ more k. waiting_all words more k d.1) (at (waiting_held items size) (walking.option (key_name size))) word _
      (size_step items word (λ more next. read more next words) d.0)

-- what `clap` says of its command

none_summary : (rs : List Row) → default_fault rs summary_built ≡ []
none_summary rs = by (has_row (codes "summary") rs) refl
  where
    by : (b : Bool) → has_row (codes "summary") rs ≡ b → default_fault rs summary_built ≡ []
    by true e = rw e refl
    by false e = rw e refl

none_key : (k : Key) (rs : List Row) → default_fault rs (key_rule k) ≡ []
none_key k rs = key k _ refl
  where
    key : (j : Key) (b : Bool) → has_row (key_name j) rs ≡ b → default_fault rs (key_rule j) ≡ []
    key gen true e = rw e refl
    key gen false e = rw e refl
    key size true e = rw e refl
    key size false e = rw e refl

defaults_none : (rs : List Row) → defaults_fault rs rules ≡ []
unfolding defaults_fault
defaults_none rs =
    ap₂ or_else (none_summary rs) (ap₂ or_else (none_key gen (with_default rs summary_built))
    (ap (λ l. or_else l []) (none_key size (with_default (with_default rs summary_built) (key_rule gen)))))

or_else-nothing : (a : Kinds) → or_else a [] ≡ a
or_else-nothing [] = refl
or_else-nothing (k ∷ ks) = refl

start : Ready [] nothing_held
start = record { settles = refl; behind = refl; skips = refl }

fault_of-is : (words : List Word) → fault_of app words ≡ faults (at nothing_held idle) words
fault_of-is words =
    leaf_fault (built app) nothing_held words refl
    ∙ ap (λ d. or_else (walk_fault top [] (at nothing_held idle) words) (or_else (settle_fault rules false (last (at nothing_held idle) words)) (or_else d [])))
    (defaults_none _)
    ∙ ap (or_else (walk_fault top [] (at nothing_held idle) words)) (or_else-nothing _)

pub line_agrees : (words : List Word) → NoDashes words → Agrees (fault_of app words) (settled rules (walk rules [] nothing_held words).held).rows (read [] None words)
line_agrees words dashes = rw fault_of-is (idle_all words [] nothing_held dashes start)

-- the values

default_key : (k : Key) (rs : List Row) → with_default rs (key_rule k) ≡ rs
default_key k rs = key k _ refl
  where
    key : (j : Key) (b : Bool) → has_row (key_name j) rs ≡ b → with_default rs (key_rule j) ≡ rs
    key gen true e = rw e refl
    key gen false e = rw e refl
    key size true e = rw e refl
    key size false e = rw e refl

abbrev named_row : Word → Row → Bool
named_row name r = bytes_eq r.id name

find_last : (name : Word) (rs : List Row) (r : Row) → has_row name rs ≡ false → bytes_eq r.id name ≡ true → find (named_row name) (rs ++ r ∷ []) ≡ Some r
find_last name [] r h e = rw e refl
find_last name (q ∷ rs) r h e = by (bytes_eq q.id name) refl (λ t. find_last name rs r (ap (λ b. b || has_row name rs) (sym t) ∙ h) e)
  where
    by : (b : Bool) → bytes_eq q.id name ≡ b → (bytes_eq q.id name ≡ false → find (named_row name) (rs ++ r ∷ []) ≡ Some r) → find (named_row name) ((q ∷ rs) ++ r ∷ []) ≡ Some r
    by true t rest = absurd (true≢false (sym (ap (λ b. b || has_row name rs) t) ∙ h))
    by false t rest = rw t (rest t)

find_other : (name : Word) (rs : List Row) (r : Row) → bytes_eq r.id name ≡ false → find (named_row name) (rs ++ r ∷ []) ≡ find (named_row name) rs
find_other name [] r e = rw e refl
find_other name (q ∷ rs) r e = by (bytes_eq q.id name) refl (find_other name rs r e)
  where
    by : (b : Bool) → bytes_eq q.id name ≡ b → find (named_row name) (rs ++ r ∷ []) ≡ find (named_row name) rs → find (named_row name) ((q ∷ rs) ++ r ∷ []) ≡ find (named_row name) (q ∷ rs)
    by true t rest = rw t refl
    by false t rest = rw t rest

find_summary : (items : List Item) → has items (codes "summary") ≡ true → find (named_row (codes "summary")) (rows items) ≡ Some (row summary)
find_summary [] h = absurd (true≢false (sym h))
find_summary (summary ∷ items) h = refl
find_summary (given gen v ∷ items) h = find_summary items h
find_summary (given size v ∷ items) h = find_summary items h

first_of-rows : (k : Key) (items : List Item) → first_of (key_name k) (rows items) ≡ value_of k items
first_of-rows k [] = refl
first_of-rows gen (summary ∷ items) = first_of-rows gen items
first_of-rows size (summary ∷ items) = first_of-rows size items
first_of-rows gen (given gen v ∷ items) = refl
first_of-rows size (given gen v ∷ items) = first_of-rows size items
first_of-rows gen (given size v ∷ items) = first_of-rows gen items
first_of-rows size (given size v ∷ items) = refl

abbrev unset : Row
unset = record { id = codes "summary"; values = codes "false" ∷ []; count = None; source = Some DefaultValue; reading = reading_by summary_built }

default-absent : (rs : List Row) → has_row (codes "summary") rs ≡ false → with_default rs summary_built ≡ rs ++ unset ∷ []
default-absent rs h = rw h (at_row-absent (codes "summary") (walking.more_values DefaultValue (codes "false" ∷ [])) (unset ∷ []) rs h)

default-present : (rs : List Row) → has_row (codes "summary") rs ≡ true → with_default rs summary_built ≡ rs
default-present rs h = rw h refl

pub first_of-default : (k : Key) (items : List Item) → first_of (key_name k) (with_default (rows items) summary_built) ≡ value_of k items
first_of-default k items = by (has_row (codes "summary") (rows items)) refl
  where
    other : (j : Key) → bytes_eq unset.id (key_name j) ≡ false
    other gen = refl
    other size = refl

    by : (b : Bool) → has_row (codes "summary") (rows items) ≡ b → first_of (key_name k) (with_default (rows items) summary_built) ≡ value_of k items
    by true e = ap (first_of (key_name k)) (default-present (rows items) e) ∙ first_of-rows k items
    by false e = ap (first_of (key_name k)) (default-absent (rows items) e)
        ∙ (ap (option_and_then (λ r. slice_get r.values 0)) (find_other (key_name k) (rows items) unset (other k)) ∙ first_of-rows k items)

pub one_of-default : (items : List Item) → one_of (codes "summary") (with_default (rows items) summary_built) ≡ Some (if has items (codes "summary") then codes "true" else codes "false")
one_of-default items = by (has items (codes "summary")) refl
  where
    by : (b : Bool) → has items (codes "summary") ≡ b → one_of (codes "summary") (with_default (rows items) summary_built) ≡ Some (if has items (codes "summary") then codes "true" else codes "false")
    by true e = rw e (ap (one_of (codes "summary")) (default-present (rows items) (has_row-rows items (codes "summary") ∙ e))
        ∙ ap (option_and_then walking.row_text) (find_summary items e))
    by false e = rw e (ap (one_of (codes "summary")) (default-absent (rows items) (has_row-rows items (codes "summary") ∙ e))
        ∙ ap (option_and_then walking.row_text) (find_last (codes "summary") (rows items) unset (has_row-rows items (codes "summary") ∙ e) refl))

pub matches-are : (words : List Word) (items : List Item) → (settled rules (walk rules [] nothing_held words).held).rows ≡ rows items → matches_of app words ≡ with_default (rows items) summary_built
matches-are words items e =
    let rs : List Row = (settled rules (walk rules [] nothing_held words).held).rows in
    default_key size (with_default (with_default rs summary_built) (key_rule gen)) ∙ (default_key gen (with_default rs summary_built) ∙ ap (λ (l : List Row). with_default l summary_built) e)

NoDashes-from : (words : List Word) → has_dashes words ≡ false → NoDashes words
NoDashes-from [] h = tt
NoDashes-from (word ∷ words) h = by (bytes_eq word (45 ∷ 45 ∷ [])) refl (λ t. NoDashes-from words (ap (λ b. b || has_dashes words) (sym t) ∙ h))
  where
    by : (b : Bool) → bytes_eq word (45 ∷ 45 ∷ []) ≡ b → (bytes_eq word (45 ∷ 45 ∷ []) ≡ false → NoDashes words) → NoDashes (word ∷ words)
    by true t rest = absurd (true≢false (sym (ap (λ b. b || has_dashes words) t) ∙ h))
    by false t rest = (t, rest t)

-- for the caller

-- words at which `clap` finds no fault are a command line, with these values
pub record Means (words : List Word) (rs : List Row) : Type 0 where
  pub items : List Item
  pub line : line_of words ≡ Some items
  pub flagged : one_of (codes "summary") rs ≡ Some (if has items (codes "summary") then codes "true" else codes "false")
  pub values : (k : Key) → first_of (key_name k) rs ≡ value_of k items

pub accepted : (words : List Word) → has_dashes words ≡ false → fault_of app words ≡ [] → Means words (matches_of app words)
accepted words plain ok = by (read [] None words) refl
  where
    by : (o : Option (List Item)) → read [] None words ≡ o → Means words (matches_of app words)
    by None e = absurd ((subst (Agrees (fault_of app words) (settled rules (walk rules [] nothing_held words).held).rows) e (line_agrees words (NoDashes-from words plain))) ok)
    by (Some items) e =
        let agrees : Agrees (fault_of app words) (settled rules (walk rules [] nothing_held words).held).rows (Some items) = subst (Agrees (fault_of app words) (settled rules (walk rules [] nothing_held words).held).rows) e (line_agrees words (NoDashes-from words plain)) in
        let found : matches_of app words ≡ with_default (rows items) summary_built = matches-are words items agrees.1 in
        record {
          items = items;
          line = rw plain e;
          flagged = ap (one_of (codes "summary")) found ∙ one_of-default items;
          values = λ k. ap (first_of (key_name k)) found ∙ first_of-default k items;
        }

pub refused : (words : List Word) → fault_of app words ≢ [] → line_of words ≡ None
refused words faulty = by (has_dashes words) refl
  where
    inner : (plain : has_dashes words ≡ false) (o : Option (List Item)) → read [] None words ≡ o → line_of words ≡ None
    inner plain None e = rw plain e
    inner plain (Some items) e = absurd (faulty (subst (Agrees (fault_of app words) (settled rules (walk rules [] nothing_held words).held).rows) e (line_agrees words (NoDashes-from words plain))).0)

    by : (b : Bool) → has_dashes words ≡ b → line_of words ≡ None
    by true e = rw e refl
    by false e = inner e (read [] None words) refl
