-- What a region's blocks are after there are new ones.
use Rattle.std.proofs.Common.{◌≡◌, ℕ, ◌+◌, ◌-◌, ◌<◌, ◌≤◌, List, ◌++◌, length, get_or, set, replicate, Some, refl, sym, ap, ◌∙◌, take, arith, ⊎_elim}
use Rattle.std.proofs.lemmas.Bool.{cases_lt}
use Rattle.std.proofs.lemmas.List.{get_or_append_left, get_or-append_right, get_or_past, get_or-replicate, length-append, length-replicate, length-set}
use Rattle.fk_region.specs.declared.block.Block.{Block}
use Rattle.fk_region.specs.Blocks.{bytes_at, bytes_in, held_in, kept_in, next_in, no_block, steps}
use Rattle.fk_region.specs.Chains.{AreLinked, AreSound, AreWhole}
use Rattle.fk_region.specs.Kept.{blocks_of, used_by}
use Rattle.fk_region.proofs.Apart.{added}
use Rattle.fk_region.specs.Changes.{changed}
use Rattle.fk_region.proofs.Listing.{same_bytes, same_longer}
use Rattle.fk_region.proofs.Regions.{same_apart, same_listed}
use Rattle.fk_region.proofs.Setting.{equal, field_set, same_field}
use Rattle.fk_region.proofs.Sound.{listed_same}
use Rattle.fk_region.proofs.Writing.{same_chain}

-- a field that the new blocks have as if they weren't there
field_longer : {A : Type 0} (p : Block → A) (bs : List Block) (m : ℕ) (x : Block) (c : ℕ) → p x ≡ p no_block → p (get_or (bs ++ replicate m x) c no_block) ≡ p (get_or bs c no_block)
field_longer p bs m x c e = ⊎_elim (λ l. ap p (get_or_append_left bs (replicate m x) no_block c l)) (λ l. past l (⊎_elim (new l) (none l) (cases_lt (c - length bs) m))) (cases_lt c (length bs))
  where
    past : length bs ≤ c → p (get_or (replicate m x) (c - length bs) no_block) ≡ p no_block → p (get_or (bs ++ replicate m x) c no_block) ≡ p (get_or bs c no_block)
    past l h = ap p (get_or-append_right bs (replicate m x) (length bs) c no_block refl l) ∙ h ∙ ap p (sym (get_or_past bs c no_block l))

    new : length bs ≤ c → c - length bs < m → p (get_or (replicate m x) (c - length bs) no_block) ≡ p no_block
    new l k = ap p (get_or-replicate m (c - length bs) x no_block k) ∙ e

    none : length bs ≤ c → m ≤ c - length bs → p (get_or (replicate m x) (c - length bs) no_block) ≡ p no_block
    none l k = ap p (get_or_past (replicate m x) (c - length bs) no_block (omega (arith, length-replicate m x)))

-- what blocks are after there are more at which nothing begins
pub record AreLonger (bs es : List Block) (free spare : ℕ) : Type 0 where
  pub sound : AreSound es free spare (length bs)
  pub same : kept_in es ≡ kept_in bs

pub are_longer : (bs es : List Block) (free spare m : ℕ) (x : Block) → AreSound bs free spare (length bs) → x.next ≡ 0 → x.held ≡ 0 → length x.bytes ≡ 256
    → es ≡ bs ++ replicate m x → AreLonger bs es free spare
are_longer bs es free spare m x s n h w e = record {
  sound = record {
    chains = same_apart (next_in es) (next_in bs) (held_in es) (held_in bs) free spare (length bs) (length bs) next held refl s.chains;
    whole = whole;
    counted = ap (λ ks. used_by ks + spare) kept ∙ s.counted;
  };
  same = kept;
}
  where
    next : next_in es ≡ next_in bs
    next = ap next_in e ∙ equal _ _ (λ c. field_longer (λ z. z.next) bs m x c n)

    held : held_in es ≡ held_in bs
    held = ap held_in e ∙ equal _ _ (λ c. field_longer (λ z. z.held) bs m x c h)

    len : length es ≡ length bs + m
    len = ap length e ∙ length-append bs (replicate m x) ∙ ap (λ k. length bs + k) (length-replicate m x)

    old : (c : ℕ) → c < length bs → bytes_in es c ≡ bytes_in bs c
    old c l = ap (λ l. bytes_in l c) e ∙ ap (λ z. z.bytes) (get_or_append_left bs (replicate m x) no_block c l)

    new : (c : ℕ) → length bs ≤ c → c < length es → length (bytes_in es c) ≡ 256
    new c l k =
        ap (λ l. length (bytes_in l c)) e
        ∙ ap (λ z. length z.bytes) (get_or-append_right bs (replicate m x) (length bs) c no_block refl l ∙ get_or-replicate m (c - length bs) x no_block (omega (arith, len)))
        ∙ w

    whole : AreWhole es
    whole c k = ⊎_elim (λ l. ap length (old c l) ∙ s.whole c l) (λ l. new c l k) (cases_lt c (length bs))

    past : (c : ℕ) → 0 + length bs ≤ c → held_in bs c ≡ 0
    past c l = ap (λ z. z.held) (get_or_past bs c no_block (omega arith))

    same : (c : ℕ) → 0 < held_in bs c → bytes_at (next_in bs) (bytes_in es) c (held_in bs c) ≡ bytes_at (next_in bs) (bytes_in bs) c (held_in bs c)
    same c l = ap (take (held_in bs c)) (same_chain (next_in bs) (next_in bs) (bytes_in bs) (bytes_in es) (blocks_of (held_in bs c)) c c (λ j k. old (steps (next_in bs) j c) (s.chains.inside (Some c) j k)))

    kept : kept_in es ≡ kept_in bs
    kept =
        same_listed (next_in es) (next_in bs) (held_in es) (held_in bs) (bytes_in es) (bytes_in es) (length es) (length bs + m) next held refl len
        ∙ same_longer (held_in bs) (bytes_at (next_in bs) (bytes_in es)) 0 (length bs) m past
        ∙ same_bytes (held_in bs) (bytes_at (next_in bs) (bytes_in bs)) (bytes_at (next_in bs) (bytes_in es)) 0 (length bs) same

-- LINKED
pub none_linked : (bs : List Block) (from free : ℕ) → AreLinked bs from free bs from free
none_linked bs from free = record {
  len = refl;
  sound = λ spare s. let e : spare + (from - from) ≡ spare = omega arith in rw e s;
  same = λ spare s. refl;
}

pub one_linked : (bs : List Block) (from free : ℕ) (cs : List Block) (at first : ℕ) → AreLinked bs from free cs at first → from ≤ at → at < length bs
    → AreLinked bs from free (set cs at (record (get_or cs at no_block) { next = first })) (at + 1) at
one_linked bs from free cs at first w l m = record {
  len = len ∙ w.len;
  sound = λ spare s. sound spare (w.sound spare s);
  same = λ spare s. same (spare + (at - from)) (w.sound spare s) ∙ w.same spare s;
}
  where
    x : Block
    x = record (get_or cs at no_block) { next = first }

    ds : List Block
    ds = set cs at x

    within : at < length cs
    within = omega (arith, w.len)

    len : length ds ≡ length cs
    len = length-set cs at x

    next : next_in ds ≡ changed at first (next_in cs)
    next = equal _ _ (λ c. field_set (λ z. z.next) cs at x c within)

    held : held_in ds ≡ held_in cs
    held = equal _ _ (λ c. same_field (λ z. z.held) cs at x c within refl)

    bytes : bytes_in ds ≡ bytes_in cs
    bytes = equal _ _ (λ c. same_field (λ z. z.bytes) cs at x c within refl)

    same : (spare : ℕ) → AreSound cs first spare at → kept_in ds ≡ kept_in cs
    same spare s = same_listed _ _ _ _ _ _ _ _ next held bytes len ∙ listed_same (next_in cs) (held_in cs) (bytes_in cs) first spare at (length cs) s.chains

    sound : (spare : ℕ) → AreSound cs first (spare + (at - from)) at → AreSound ds at (spare + (at + 1 - from)) (at + 1)
    sound spare s = let e : spare + (at + 1 - from) ≡ spare + (at - from) + 1 = omega arith in rw e (record {
      chains = same_apart (next_in ds) (changed at first (next_in cs)) (held_in ds) (held_in cs) at (spare + (at - from) + 1) (at + 1) (at + 1) next held refl (added (next_in cs) (held_in cs) first (spare + (at - from)) at s.chains);
      whole = λ b k. ap (λ p. length (p b)) bytes ∙ s.whole b (omega (arith, len));
      counted = omega (arith, ap used_by (same (spare + (at - from)) s), s.counted);
    })
