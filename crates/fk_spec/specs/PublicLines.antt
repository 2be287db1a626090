-- The public lines of a history: the newest first, so that the lines before a line are the tail behind it.
use Rattle.std.specs.Prelude.{ℕ, ◌==◌, if◌then◌else◌, List, [], ◌∷◌, Option, Some, None, max}
use Rattle.fk_print.specs.declared.entry.Entry.{Entry}
use Rattle.fk_print.specs.declared.line.Line.{Line}
use Rattle.fk_print.specs.declared.line.Line.TheVariants as line
use Rattle.fk_print.specs.declared.line.Printed.{Printed}
use Rattle.fk_spec.specs.Shown.{seen_in}

abbrev pub lines_onto : List Line → List Line → List Line
lines_onto [] before = before
lines_onto (l ∷ ls) before = lines_onto ls (l ∷ before)

-- the public lines of a history, the newest first
abbrev pub lines_of : List Entry → List Line
lines_of [] = []
lines_of (e ∷ h) = lines_onto e.lines (lines_of h)

-- each line keeps this, given the lines before it
abbrev pub Each : (Line → List Line → Type 0) → List Line → Type 0
Each P [] = Unit {0}
Each P (l ∷ ls) = P l ls × Each P ls

-- the transaction lines among these
abbrev pub txs_among : List Line → List Printed
txs_among [] = []
txs_among (line.Tx printed ∷ ls) = printed ∷ txs_among ls
txs_among (l ∷ ls) = txs_among ls

-- the transaction lines of a history, the newest first
abbrev pub txs_of : List Entry → List Printed
txs_of h = txs_among (lines_of h)

-- the greatest number of these transaction lines, 0 where there is none
abbrev pub greatest_tx : List Printed → ℕ
greatest_tx [] = 0
greatest_tx (x ∷ xs) = max x.tx (greatest_tx xs)

-- the greatest request of session c among them
abbrev pub greatest_request : ℕ → List Printed → ℕ
greatest_request c [] = 0
greatest_request c (x ∷ xs) = if x.session == c then max x.k (greatest_request c xs) else greatest_request c xs

abbrev pub tx_with : ℕ → List Printed → Option Printed
tx_with t [] = None
tx_with t (x ∷ xs) = if x.tx == t then Some x else tx_with t xs

-- the greatest number that lines of client c show
abbrev pub seen_before : ℕ → List Line → ℕ
seen_before c [] = 0
seen_before c (l ∷ ls) = seen_in c l (seen_before c ls)

abbrev pub notice_in : ℕ → Line → ℕ → ℕ
notice_in c (line.Notice session tx kind what path) n = if session == c then max tx n else n
notice_in c _ n = n

-- the greatest transaction of which client c was notified
abbrev pub last_notice : ℕ → List Line → ℕ
last_notice c [] = 0
last_notice c (l ∷ ls) = notice_in c l (last_notice c ls)
