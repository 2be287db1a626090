-- What a word can be: an item of its own, an option whose value follows, or no word of a command line.
use Rattle.std.proofs.Common.{◌≡◌, ℕ, suc, ◌+◌, arith, List, [], ◌∷◌, ◌++◌, Bool, true, false, Option, Some, None, codes, refl, sym, ap, ap₂, ◌∙◌, true≢false, if◌then◌else◌}
use Rattle.std.specs.Prelude.{◌==◌}
use Rattle.std.specs.List.{list_any, before_first, after_first, position_or_len}
use Rattle.std.specs.Str.{bytes_eq}
use Rattle.std.proofs.lemmas.Bool.{eqb-true}
use Rattle.std.proofs.lemmas.Slice.Eq.{bytes_eq-Decides}
use Rattle.clap.specs.Lexer.{long_of}
use Rattle.fk_words.specs.Words.{Word, takes_value, behind, Heard, hear}
use Rattle.fk_words.specs.Line.{Key, gen, size, Item, summary, given, Next, begun, named}

-- the word of an option whose value follows
abbrev pub flag_word : Key → Word
flag_word gen = codes "--gen"
flag_word size = codes "--size"

abbrev pub item_word : Item → Word
item_word summary = codes "--summary"
item_word (given gen v) = codes "--gen=" ++ v
item_word (given size v) = codes "--size=" ++ v

pub data Shape (w : Word) : Type 0 where
  whole : (i : Item) → w ≡ item_word i → Shape w
  bare : (k : Key) → w ≡ flag_word k → Shape w
  other : takes_value w ≡ false → ((h : Heard) → hear h w ≡ None) → ((items : List Item) (next : Next) → begun items (long_of w) next ≡ None) → Shape w

none_is_some : {X : Type 0} (x : X) → None ≡ Some x → ⊥
none_is_some x e = cc e

pub behind_is : (p w v : Word) → behind p w ≡ Some v → w ≡ p ++ v
behind_is [] w v e = cc e
behind_is (c ∷ cs) [] v e = cc e
behind_is (c ∷ cs) (d ∷ ds) v e = by (c == d) refl e (λ f. behind_is cs ds v f)
  where
    by : (b : Bool) → (c == d) ≡ b → (if b then behind cs ds else None) ≡ Some v → (behind cs ds ≡ Some v → ds ≡ cs ++ v) → d ∷ ds ≡ (c ∷ cs) ++ v
    by true t f rest = ap₂ (λ a b. a ∷ b) (sym (eqb-true c d t)) (rest f)
    by false t f rest = absurd (none_is_some v f)

abbrev is_equals : ℕ → Bool
is_equals = λ x. x == 61

abbrev tail : Option Word → Word
tail None = []
tail (Some v) = 61 ∷ v

one_more : (n : ℕ) → 1 + n ≡ suc n
one_more n = omega arith

and_one : (n : ℕ) → suc n + 1 ≡ suc (n + 1)
and_one n = omega arith

cut : (text : Word) → text ≡ before_first is_equals text ++ tail (if list_any is_equals text then Some (after_first is_equals text) else None)
cut [] = refl
cut (x ∷ xs) = by (x == 61) refl (cut xs)
  where
    by : (b : Bool) → (x == 61) ≡ b → xs ≡ before_first is_equals xs ++ tail (if list_any is_equals xs then Some (after_first is_equals xs) else None) → x ∷ xs ≡ before_first is_equals (x ∷ xs) ++ tail (if list_any is_equals (x ∷ xs) then Some (after_first is_equals (x ∷ xs)) else None)
    by true e rest = rw e (ap (λ y. y ∷ xs) (eqb-true x 61 e))
    by false e rest = rw (e, one_more (position_or_len is_equals xs), and_one (position_or_len is_equals xs)) (ap (λ l. x ∷ l) rest)

abbrev Cut : Type 0
Cut = Option (Word × Option Word)

found : (z : ℕ) (us name : Word) (v : Option Word) (p : Word × Option Word) → p ≡ (before_first is_equals (z ∷ us), if list_any is_equals (z ∷ us) then Some (after_first is_equals (z ∷ us)) else None) → p ≡ (name, v) → z ∷ us ≡ name ++ tail v
found z us name v p made is = cut (z ∷ us) ∙ ap₂ (λ a b. a ++ tail b) (ap (λ (q : Word × Option Word). q.0) (sym made ∙ is)) (ap (λ (q : Word × Option Word). q.1) (sym made ∙ is))

same_pair : (p q : Word × Option Word) (c : Cut) → c ≡ Some p → c ≡ Some q → p ≡ q
same_pair p q c e f = cc (sym e ∙ f)

-- what `--NAME` and `--NAME=VALUE` are
long_is : (w name : Word) (v : Option Word) (c : Cut) → long_of w ≡ c → c ≡ Some (name, v) → w ≡ codes "--" ++ name ++ tail v
long_is [] name v c o e = absurd (none_is_some _ (o ∙ e))
long_is (x ∷ []) name v c o e = by (x == 45) refl
  where
    by : (b : Bool) → (x == 45) ≡ b → x ∷ [] ≡ codes "--" ++ name ++ tail v
    by true t = absurd (none_is_some _ ((rw t at o) ∙ e))
    by false t = absurd (none_is_some _ ((rw t at o) ∙ e))
long_is (x ∷ y ∷ []) name v c o e = by (x == 45) (y == 45) refl refl
  where
    by : (a b : Bool) → (x == 45) ≡ a → (y == 45) ≡ b → x ∷ y ∷ [] ≡ codes "--" ++ name ++ tail v
    by false b s t = absurd (none_is_some _ ((rw s at o) ∙ e))
    by true false s t = absurd (none_is_some _ ((rw (s, t) at o) ∙ e))
    by true true s t = absurd (none_is_some _ ((rw (s, t) at o) ∙ e))
long_is (x ∷ y ∷ z ∷ us) name v c o e = by (x == 45) (y == 45) refl refl
  where
    by : (a b : Bool) → (x == 45) ≡ a → (y == 45) ≡ b → x ∷ y ∷ z ∷ us ≡ codes "--" ++ name ++ tail v
    by false b s t = absurd (none_is_some _ ((rw s at o) ∙ e))
    by true false s t = absurd (none_is_some _ ((rw (s, t) at o) ∙ e))
    by true true s t =
        let made : Some (before_first is_equals (z ∷ us), if list_any is_equals (z ∷ us) then Some (after_first is_equals (z ∷ us)) else None) ≡ c = rw (s, t) at o in
        ap₂ (λ a b. a ∷ b) (eqb-true x 45 s) (ap₂ (λ a b. a ∷ b) (eqb-true y 45 t) (found z us name v _ refl (same_pair _ _ c (sym made) e)))

is_word : (w v : Word) → bytes_eq w v ≡ true → w ≡ v
is_word w v e = (bytes_eq-Decides w v).0 e

-- a word that is none of the forms
module _ (w : Word) (s : bytes_eq w (codes "--summary") ≡ false) (g : bytes_eq w (codes "--gen") ≡ false) (z : bytes_eq w (codes "--size") ≡ false)
    (gv : behind (codes "--gen=") w ≡ None) (zv : behind (codes "--size=") w ≡ None) where
  none_begins : (items : List Item) (next : Next) (o : Option (Word × Option Word)) → long_of w ≡ o → begun items o next ≡ None
  none_begins items next None e = refl
  none_begins items next (Some (name, v)) e = by v _ _ _ (long_is w name v (Some (name, v)) e refl) refl refl refl
    where
      not_this : (t : Word) → w ≡ t → bytes_eq w t ≡ false → ⊥
      not_this t is off = true≢false (sym ((bytes_eq-Decides w t).1 is) ∙ off)

      not_behind : (p u : Word) → behind p w ≡ Some u → behind p w ≡ None → ⊥
      not_behind p u one two = none_is_some u (sym two ∙ one)

      by : (v : Option Word) (a b c : Bool) → w ≡ codes "--" ++ name ++ tail v → bytes_eq (codes "summary") name ≡ a → bytes_eq (codes "gen") name ≡ b → bytes_eq (codes "size") name ≡ c → named items name v next ≡ None
      by None true b c is ea eb ec = absurd (not_this (codes "--summary") (is ∙ ap (λ n. codes "--" ++ n ++ []) (sym (is_word (codes "summary") name ea))) s)
      by (Some u) true b c is ea eb ec = rw ea refl
      by None false true c is ea eb ec = absurd (not_this (codes "--gen") (is ∙ ap (λ n. codes "--" ++ n ++ []) (sym (is_word (codes "gen") name eb))) g)
      by (Some u) false true c is ea eb ec = absurd (not_behind (codes "--gen=") u (ap (behind (codes "--gen=")) (is ∙ ap (λ n. codes "--" ++ n ++ 61 ∷ u) (sym (is_word (codes "gen") name eb)))) gv)
      by None false false true is ea eb ec = absurd (not_this (codes "--size") (is ∙ ap (λ n. codes "--" ++ n ++ []) (sym (is_word (codes "size") name ec))) z)
      by (Some u) false false true is ea eb ec = absurd (not_behind (codes "--size=") u (ap (behind (codes "--size=")) (is ∙ ap (λ n. codes "--" ++ n ++ 61 ∷ u) (sym (is_word (codes "size") name ec)))) zv)
      by v false false false is ea eb ec = rw (ea, eb, ec) refl

  none_of_them : Shape w
  none_of_them = other (rw (g, z) refl) (λ h. rw (s, gv, zv) refl) (λ items next. none_begins items next (long_of w) refl)

pub shape : (w : Word) → Shape w
shape w = by (bytes_eq w (codes "--summary")) (bytes_eq w (codes "--gen")) (bytes_eq w (codes "--size")) (behind (codes "--gen=") w) (behind (codes "--size=") w) refl refl refl refl refl
  where
    by : (a b c : Bool) (d e : Option Word) → bytes_eq w (codes "--summary") ≡ a → bytes_eq w (codes "--gen") ≡ b → bytes_eq w (codes "--size") ≡ c
        → behind (codes "--gen=") w ≡ d → behind (codes "--size=") w ≡ e → Shape w
    by true b c d e ea eb ec ed ee = whole summary (is_word w (codes "--summary") ea)
    by false true c d e ea eb ec ed ee = bare gen (is_word w (codes "--gen") eb)
    by false false true d e ea eb ec ed ee = bare size (is_word w (codes "--size") ec)
    by false false false (Some v) e ea eb ec ed ee = whole (given gen v) (behind_is (codes "--gen=") w v ed)
    by false false false None (Some v) ea eb ec ed ee = whole (given size v) (behind_is (codes "--size=") w v ee)
    by false false false None None ea eb ec ed ee = none_of_them w ea eb ec ed ee
