-- A text is that of one message, and a decoder that reads fields and compares texts is exact.
use Rattle.std.proofs.Common.{◌≡◌, ◌≢◌, ℕ, List, Some, None, Option, sym, ap, ◌∙◌, subst, arith, IsUtf8, false}
use Rattle.json.specs.Json.{Json, document}
use Rattle.serde_json.specs.Data.{Data}
use Rattle.serde_json.specs.Written.{compact_text, has_float, outline}
use Rattle.fk_wire.specs.Json.{HasFields, IsText, IsTextOf, version_from}
use Rattle.fk_wire.specs.declared.version.Version.{Version}
use Rattle.fk_wire.proofs.Fit.{IsFit, document_compact, utf8_compact, no_float}
use Rattle.std.proofs.lemmas.Option.{same_Some}

-- the value of a message is fit, and its version and its fields are read back
pub record ReadsBack {A : Type 0} (is_message : A → Type 0) (can_say : Version → A → Type 0) (value : Version → A → Data) (from : Version → Json → Option A) : Type 0 where
  pub fit : (v : Version) (m : A) → is_message m → can_say v m → IsFit 127 (value v m)
  pub version : (v : Version) (m : A) → version_from (outline (value v m)) ≡ Some v
  pub back : (v : Version) (m : A) → is_message m → can_say v m → from v (outline (value v m)) ≡ Some m

-- the value that was read is that of the message, in the text's version
known : {A : Type 0} {is_message : A → Type 0} {can_say : Version → A → Type 0} {value : Version → A → Data} {from : Version → Json → Option A}
    → ReadsBack is_message can_say value from → (bytes : List ℕ) (m : A) (h : IsTextOf is_message can_say value bytes m)
    → document bytes ≡ Some (outline (value h.1.0 m))
known r bytes m h = ap document h.1.2 ∙ document_compact 127 _ (omega arith) (r.fit h.1.0 m h.0 h.1.1)

pub float_free : {A : Type 0} {is_message : A → Type 0} {can_say : Version → A → Type 0} {value : Version → A → Data} {from : Version → Json → Option A}
    → ReadsBack is_message can_say value from → (v : Version) (m : A) → is_message m → can_say v m → has_float (value v m) ≡ false
float_free r v m h k = no_float 127 _ (r.fit v m h k)

-- a text is that of one message
pub one_message : {A : Type 0} {is_message : A → Type 0} {can_say : Version → A → Type 0} {value : Version → A → Data} {from : Version → Json → Option A}
    → ReadsBack is_message can_say value from → (bytes : List ℕ) (m n : A)
    → IsTextOf is_message can_say value bytes m → IsTextOf is_message can_say value bytes n → m ≡ n
one_message {A} {is_message} {can_say} {value} {from} r bytes m n h k =
    let same : outline (value h.1.0 m) ≡ outline (value k.1.0 n) = same_Some _ _ (sym (known r bytes m h) ∙ known r bytes n k) in
    let version : h.1.0 ≡ k.1.0 = same_Some _ _ (sym (r.version h.1.0 m) ∙ ap version_from same ∙ r.version k.1.0 n) in
    let left : from h.1.0 (outline (value h.1.0 m)) ≡ Some m = r.back h.1.0 m h.0 h.1.1 in
    let right : from k.1.0 (outline (value k.1.0 n)) ≡ Some n = r.back k.1.0 n k.0 k.1.1 in
    same_Some _ _ (sym left ∙ ap (from h.1.0) same ∙ ap (λ v. from v (outline (value k.1.0 n))) version ∙ right)

-- what is no JSON is no text of a message
pub refused : {A : Type 0} {is_message : A → Type 0} {can_say : Version → A → Type 0} {value : Version → A → Data} {from : Version → Json → Option A}
    → ReadsBack is_message can_say value from → (bytes : List ℕ) → (IsUtf8 bytes → document bytes ≡ None) → (m : A) → ¬ (IsTextOf is_message can_say value bytes m)
refused r bytes none m h =
    let utf8 : IsUtf8 bytes = subst IsUtf8 (sym h.1.2) (utf8_compact 127 _ (r.fit h.1.0 m h.0 h.1.1)) in
    let gone : document bytes ≡ None = none utf8 in
    let there = known r bytes m h in
    cc

-- nor is what has no version
pub versionless : {A : Type 0} {is_message : A → Type 0} {can_say : Version → A → Type 0} {value : Version → A → Data} {from : Version → Json → Option A}
    → ReadsBack is_message can_say value from → (bytes : List ℕ) (j : Json) → document bytes ≡ Some j → version_from j ≡ None
    → (m : A) → ¬ (IsTextOf is_message can_say value bytes m)
versionless r bytes j is none m h =
    let same = same_Some _ _ (sym is ∙ known r bytes m h) in
    let there = ap version_from same ∙ r.version h.1.0 m in
    cc

-- nor is what has not the fields
pub fieldless : {A : Type 0} {is_message : A → Type 0} {can_say : Version → A → Type 0} {value : Version → A → Data} {from : Version → Json → Option A}
    → ReadsBack is_message can_say value from → (bytes : List ℕ) (j : Json) (v : Version) → document bytes ≡ Some j → version_from j ≡ Some v → from v j ≡ None
    → (m : A) → ¬ (IsTextOf is_message can_say value bytes m)
fieldless {A} {is_message} {can_say} {value} {from} r bytes j v is version none m h =
    let same : j ≡ outline (value h.1.0 m) = same_Some _ _ (sym is ∙ known r bytes m h) in
    let one : v ≡ h.1.0 = same_Some _ _ (sym version ∙ ap version_from same ∙ r.version h.1.0 m) in
    let there : from v j ≡ Some m = ap (from v) same ∙ ap (λ w. from w (outline (value h.1.0 m))) one ∙ r.back h.1.0 m h.0 h.1.1 in
    cc

-- the fields that were read are those of the message
pub only_message : {A : Type 0} {is_message : A → Type 0} {can_say : Version → A → Type 0} {value : Version → A → Data} {from : Version → Json → Option A}
    → ReadsBack is_message can_say value from → (bytes : List ℕ) (v : Version) (p : A) → HasFields from bytes v p
    → (m : A) → IsTextOf is_message can_say value bytes m → p ≡ m
only_message {A} {is_message} {can_say} {value} {from} r bytes v p f m h =
    let same : f.0 ≡ outline (value h.1.0 m) = same_Some _ _ (sym f.1 ∙ known r bytes m h) in
    let one : v ≡ h.1.0 = same_Some _ _ (sym f.2 ∙ ap version_from same ∙ r.version h.1.0 m) in
    same_Some _ _ (sym f.3 ∙ ap (from v) same ∙ ap (λ w. from w (outline (value h.1.0 m))) one ∙ r.back h.1.0 m h.0 h.1.1)

-- so that the text of some message is that of the fields
pub fields_message : {A : Type 0} {is_message : A → Type 0} {can_say : Version → A → Type 0} {value : Version → A → Data} {from : Version → Json → Option A}
    → ReadsBack is_message can_say value from → (bytes : List ℕ) (v : Version) (p : A) → HasFields from bytes v p
    → IsText (IsTextOf is_message can_say value) bytes → IsTextOf is_message can_say value bytes p
fields_message {A} {is_message} {can_say} {value} {from} r bytes v p f h =
    subst (IsTextOf is_message can_say value bytes) (sym (only_message r bytes v p f h.0 h.1)) h.1

-- nor is what isn't written for its fields
pub other_text : {A : Type 0} {is_message : A → Type 0} {can_say : Version → A → Type 0} {value : Version → A → Data} {from : Version → Json → Option A}
    → ReadsBack is_message can_say value from → (bytes : List ℕ) (v : Version) (p : A) → HasFields from bytes v p
    → compact_text (value v p) ≢ bytes
    → (m : A) → ¬ (IsTextOf is_message can_say value bytes m)
other_text {A} {is_message} {can_say} {value} {from} r bytes v p f differ m h =
    let same : f.0 ≡ outline (value h.1.0 m) = same_Some _ _ (sym f.1 ∙ known r bytes m h) in
    let one : v ≡ h.1.0 = same_Some _ _ (sym f.2 ∙ ap version_from same ∙ r.version h.1.0 m) in
    let message : p ≡ m = only_message r bytes v p f m h in
    differ (ap (λ x. compact_text (value v x)) message ∙ ap (λ w. compact_text (value w m)) one ∙ sym h.1.2)
