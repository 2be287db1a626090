-- The one history of a text.
use Rattle.std.proofs.Common.{◌≡◌, ◌≢◌, List, Some, None, sym, ◌∙◌, ap}
use Rattle.fk_base.specs.Path.{Name}
use Rattle.fk_print.specs.EntryText.{history_text}
use Rattle.fk_print.specs.WellFormed.{IsWellFormed}
use Rattle.fk_print.specs.Words.{Text}
use Rattle.fk_print.specs.declared.entry.Entry.{Entry}
use Rattle.fk_read.specs.ReadHistory.{history_of}
use Rattle.fk_read.proofs.HistoryBack.{history_back}

-- what was read is it
read_is : (names : List Name) (bytes : Text) (g h : List Entry) → history_of names bytes ≡ Some g → IsWellFormed names h → bytes ≡ history_text names h → g ≡ h
read_is names bytes g h read f e =
    let back : history_of names bytes ≡ Some h = ap (history_of names) e ∙ history_back names h f in
    let both : Some g ≡ Some h = sym read ∙ back in
    cc both

pub not_read : (names : List Name) (bytes : Text) → history_of names bytes ≡ None → (h : List Entry) → IsWellFormed names h → bytes ≢ history_text names h
not_read names bytes none h f e =
    let back : history_of names bytes ≡ Some h = ap (history_of names) e ∙ history_back names h f in
    let both : None ≡ Some h = sym none ∙ back in
    cc both

pub not_same : (names : List Name) (bytes : Text) (g : List Entry) → history_of names bytes ≡ Some g → history_text names g ≢ bytes
    → (h : List Entry) → IsWellFormed names h → bytes ≢ history_text names h
not_same names bytes g read other h f e =
    other (ap (history_text names) (read_is names bytes g h read f e) ∙ sym e)

pub text_of_one : (names : List Name) (h g : List Entry) → IsWellFormed names h → IsWellFormed names g → history_text names h ≡ history_text names g → h ≡ g
text_of_one names h g f k e = read_is names (history_text names h) h g (history_back names h f) k e
