use Rattle.std.proofs.Common.{◌≡◌, ◌∙◌, sym, ap, map, codes, true, false, Bool, string_bytes, Option, Some, List, ℕ, if◌then◌else◌, refl}
use Rattle.clap.proofs.WalkLemmas.{first_value-rows, one_text-rows, list_any-map}
use Rattle.clap.specs.Words.{first_of, one_of, found_of}
use Rattle.std.specs.Str.{bytes_eq}
use Rattle.fk_words.specs.declared.words.Asked.{Asked}
use Rattle.fk_words.specs.Words.{load_of}
use Rattle.fk_words.specs.Line.{gen, has_dashes, size}
use Rattle.fk_words.proofs.Joining.{end, meant_by_line}
use Rattle.fk_words.proofs.Walking.{accepted, refused}
use Rattle.fk_words.proofs.words.read_words.Goals as goal

flag_says : (b r : Bool) (t : Option (List ℕ)) → t ≡ Some (if b then codes "true" else codes "false")
    → (t ≡ Some (codes "true") → r ≡ true) → (t ≡ Some (codes "false") → r ≡ false) → r ≡ b
flag_says true r t e when_true when_false = when_true e
flag_says false r t e when_true when_false = when_false e

same_load : (a b : Bool) (g h s z : Option (List ℕ)) (o : Option Asked) → a ≡ b → g ≡ h → s ≡ z → o ≡ load_of a g s → o ≡ load_of b h z
same_load a b g h s z o one two three e = rw (one, two, three) at e

pub returns-then-has_separator-clause-asked : goal.returns-then-has_separator-clause-asked
returns-then-has_separator-clause-asked c =
    let dashed : has_dashes (map string_bytes c.args.words.now) ≡ true =
    sym (list_any-map (λ word. bytes_eq word (codes "--")) string_bytes c.args.words.now) ∙ (sym c.has_separator.ensures ∙ c.if-has_separator.true) in
    sym (meant_by_line (map string_bytes c.args.words.now) ∙ rw dashed refl)

pub returns-in-None-clause-asked : goal.returns-in-None-clause-asked
returns-in-None-clause-asked c = sym (meant_by_line (map string_bytes c.args.words.now) ∙ ap end (refused _ (rw c.in-None.is at c.in_ok-matches_in.ensures.none)))

pub returns-in-Some-clause-asked : goal.returns-in-Some-clause-asked
returns-in-Some-clause-asked c =
    let plain : has_dashes (map string_bytes c.args.words.now) ≡ false =
    sym (list_any-map (λ word. bytes_eq word (codes "--")) string_bytes c.args.words.now) ∙ (sym c.has_separator.ensures ∙ c.if-has_separator.false) in
    let fits = rw c.in-Some.is at c.in_ok-matches_in.ensures.fits in
    let rows = rw c.in-Some.is at c.in_ok-matches_in.ensures.rows in
    let means = accepted _ plain fits in
    let found = found_of c.in-Some.matches in
    same_load _ _ _ _ _ _ _
    (flag_says _ _ _ (one_text-rows found (codes "summary") ∙ (ap (one_of (codes "summary")) rows ∙ means.flagged)) c.get_flag.ensures.value c.get_flag.ensures.other)
    (c.get_str.ensures ∙ (first_value-rows found (codes "gen") ∙ (ap (first_of (codes "gen")) rows ∙ means.values gen)))
    (c.get_str-in-Some.ensures ∙ (first_value-rows found (codes "size") ∙ (ap (first_of (codes "size")) rows ∙ means.values size)))
    c.meaning.ensures.meaning ∙ sym (meant_by_line (map string_bytes c.args.words.now) ∙ ap end means.line)
