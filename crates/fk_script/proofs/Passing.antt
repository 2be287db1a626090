-- Reading line by line, by what the lines so far say.
use Rattle.std.proofs.Common.{◌≡◌, ℕ, ◌+◌, true, List, [], ◌∷◌, ◌++◌, Option, Some, None, length, refl, ◌∙◌, ap}
use Rattle.std.specs.Str.{is_utf8}
use Rattle.std.proofs.lemmas.Str.{is_utf8-from_IsUtf8}
use Rattle.std.proofs.lemmas.Option.{same_Some}
use Rattle.fk_print.specs.Words.{spaced}
use Rattle.fk_script.specs.Lines.{Word, Line, lines, words}
use Rattle.fk_script.specs.Printed.{line_text}
use Rattle.fk_script.specs.Reading.{Reading, Means, unless, reading_after}
use Rattle.fk_script.specs.Reasons.{offence, reason}
use Rattle.fk_script.specs.SoFar.{SoFar, after, kind_of, meant, so_far}
use Rattle.fk_script.specs.declared.deployment.Deployment.{Deployment}
use Rattle.fk_script.specs.declared.place.Kind.{Kind}
use Rattle.fk_script.specs.declared.why.Why.{Why}
use Rattle.fk_script.proofs.CleanWords.{AreWords}
use Rattle.fk_script.proofs.JoinedLines.{lines_printed, text_joined, words_joined}

abbrev pub unless_off : Option Why → Option SoFar → Option SoFar
unless_off None o = o
unless_off (Some why) o = None

abbrev pub after_line : SoFar → Line → SoFar
after_line s l = after (kind_of s.place (words l.text)) (words l.text) s

-- what is said after some lines of which none offends
abbrev pub passes : SoFar → List Line → Option SoFar
passes s [] = Some s
passes s (l ∷ ls) = unless_off (offence s l) (passes (after_line s l) ls)

step_is : (o : Option Why) (n : ℕ) (r : Reading) (p : Option SoFar) (s : SoFar) → (p ≡ Some s → r ≡ Means (meant s)) → unless_off o p ≡ Some s → unless o n r ≡ Means (meant s)
step_is None n r p s i h = i h
step_is (Some why) n r p s i h = cc h

pub reading_is : (before : List (List Word)) (ls : List Line) (s : SoFar) → passes (so_far before) ls ≡ Some s → reading_after before ls ≡ Means (meant s)
reading_is before [] s h = ap (λ t. Means (meant t)) (same_Some (so_far before) s h)
reading_is before (l ∷ ls) s h =
    step_is (offence (so_far before) l) (length before + 1) (reading_after (words l.text ∷ before) ls) (passes (after_line (so_far before) l) ls) s
    (reading_is (words l.text ∷ before) ls s) h

-- what a deployment was read from
abbrev pub IsRead : SoFar → List Line → Deployment → Type 0
IsRead s ls d = (t : SoFar) × (passes s ls ≡ Some t) × (meant t ≡ d)

pub means_inj : (d e : Deployment) → Means d ≡ Means e → d ≡ e
means_inj d e h = cc

step_was : (o : Option Why) (n : ℕ) (r : Reading) (p : Option SoFar) (d : Deployment) → (r ≡ Means d → (t : SoFar) × (p ≡ Some t) × (meant t ≡ d)) → unless o n r ≡ Means d
    → (t : SoFar) × (unless_off o p ≡ Some t) × (meant t ≡ d)
step_was None n r p d i h = i h
step_was (Some why) n r p d i h = cc h

pub reading_was : (before : List (List Word)) (ls : List Line) (d : Deployment) → reading_after before ls ≡ Means d → IsRead (so_far before) ls d
reading_was before [] d h = (so_far before, refl, means_inj (meant (so_far before)) d h)
reading_was before (l ∷ ls) d h =
    step_was (offence (so_far before) l) (length before + 1) (reading_after (words l.text ∷ before) ls) (passes (after_line (so_far before) l) ls) d
    (reading_was (words l.text ∷ before) ls d) h

-- words that are some
abbrev pub AreSome : List Word → Type 0
AreSome [] = ⊥
AreSome (w ∷ ws) = Unit {0}

offence_is : (s : SoFar) (text : List ℕ) (ws : List Word) → is_utf8 text ≡ true → words text ≡ ws → offence s (record { text = text; ended = true }) ≡ reason s (kind_of s.place ws) ws
offence_is s text ws u e = rw (u, e) refl

line_passes : (s : SoFar) (text : List ℕ) (ws : List Word) (rest : List Line) (k : Kind) → words text ≡ ws → kind_of s.place ws ≡ k → offence s (record { text = text; ended = true }) ≡ None
    → passes s (record { text = text; ended = true } ∷ rest) ≡ passes (after k ws s) rest
line_passes s text ws rest k e f o = rw (o, e, f) refl

-- a printed line that doesn't offend
pub passes_line : (s : SoFar) (ws : List Word) (k : Kind) (rest : List ℕ) → AreSome ws → AreWords ws → kind_of s.place ws ≡ k → reason s k ws ≡ None
    → passes s (lines (line_text ws ++ rest)) ≡ passes (after k ws s) (lines rest)
passes_line s [] k rest some a e h = absurd some
passes_line s (w ∷ ws) k rest some a e h =
    let text = w ++ spaced ws in
    let cut : words text ≡ w ∷ ws = words_joined w ws a in
    ap (passes s) (lines_printed w ws rest a)
    ∙ line_passes s text (w ∷ ws) (lines rest) k cut e
    (offence_is s text (w ∷ ws) (is_utf8-from_IsUtf8 text (text_joined w ws a)) cut ∙ ap (λ j. reason s j (w ∷ ws)) e ∙ h)
