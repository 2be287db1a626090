-- The text of a history, entry by entry.
use Rattle.std.proofs.Common.{◌≡◌, ℕ, ◌+◌, ◌<◌, List, [], ◌∷◌, ◌++◌, length, take, Option, Some, None, refl, sym, ◌∙◌, ap, subst, get_or, reverse, append_assoc, true≢false}
use Rattle.std.specs.Prelude.{Result, Ok, Err, OnOk, false}
use Rattle.std.specs.Result.{is_err}
use Rattle.std.proofs.lemmas.List.{reverse-append, reverse-reverse, take_more, append-nil}
use Rattle.std.proofs.Math.Seq.{take-length}
use Rattle.std.specs.Io.KnownBytes.{Appends}
use Rattle.fk_base.specs.Path.{Name}
use Rattle.fk_print.specs.EntryText.{entry_text, history_text}
use Rattle.fk_print.specs.declared.entry.Entry.{Entry}
use Rattle.fk_script.specs.declared.deployment.Block.{Block}
use Rattle.fk_run.specs.Run.{names_of}

-- the text of the first entries
abbrev pub text_of_first : List Name → ℕ → List Entry → List ℕ
text_of_first names n entries = history_text names (reverse (take n entries))

pub text_more : (names : List Name) (es : List Entry) (i : ℕ) (e : Entry) → i < length es → text_of_first names (i + 1) es ≡ text_of_first names i es ++ entry_text names (get_or es i e)
text_more names es i e l = rw (take_more es i e l, reverse-append) refl

pub text_all : (names : List Name) (h : List Entry) → text_of_first names (length (reverse h)) (reverse h) ≡ history_text names h
text_all names h = rw (take-length, reverse-reverse) refl

pub appends_nothing : (x : Option (List ℕ)) → Appends x x []
appends_nothing None = tt
appends_nothing (Some xs) = sym (append-nil xs)

-- the second piece goes on where the first ended
pub appends_both : (x y z : Option (List ℕ)) (a b : List ℕ) → Appends x y a → Appends y z b → Appends x z (a ++ b)
appends_both None y z a b g h = tt
appends_both (Some x) None z a b g h = absurd g
appends_both (Some x) (Some y) None a b g h = absurd h
appends_both (Some x) (Some y) (Some z) a b g h = rw (h, g, append_assoc) refl

-- one entry more was written
pub entry_more : (names : List Name) (es : List Entry) (i : ℕ) (e : Entry) (x y z : Option (List ℕ)) (piece : List ℕ)
    → i < length es → e ≡ get_or es i e → piece ≡ entry_text names e
    → Appends x y (text_of_first names i es) → Appends y z piece → Appends x z (text_of_first names (i + 1) es)
entry_more names es i e x y z piece l is p g h =
    rw (text_more names es i e l) (appends_both x y z (text_of_first names i es) (entry_text names (get_or es i e)) g (subst (λ (t : List ℕ). Appends y z t) (p ∙ ap (entry_text names) is) h))

-- what was added to a text that was cleared is the text
pub piece_is : {T E : Type 0} (r : Result T E) (x y z piece : List ℕ) → is_err r ≡ false → OnOk r (y ≡ x ++ piece) → x ≡ [] → z ≡ y → z ≡ piece
piece_is (Ok v) x y z piece n o e s = s ∙ o ∙ ap (λ (t : List ℕ). t ++ piece) e
piece_is (Err v) x y z piece n o e s = absurd (true≢false n)

names_of-append : (bs cs : List Block) → names_of (bs ++ cs) ≡ names_of bs ++ names_of cs
names_of-append [] cs = refl
names_of-append (b ∷ bs) cs = ap (λ (ns : List Name). b.name ∷ ns) (names_of-append bs cs)

-- one name more
pub names_more : (bs : List Block) (i : ℕ) (b : Block) → i < length bs → b ≡ get_or bs i b → names_of (take (i + 1) bs) ≡ names_of (take i bs) ++ b.name ∷ []
names_more bs i b l e = rw (take_more bs i b l, ← e) (names_of-append (take i bs) (b ∷ []))
