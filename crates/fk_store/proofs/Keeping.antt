-- Rows: what is found, added and put there.
use Rattle.std.proofs.Common.{Bool, List, None, Option, Some, [], ap, append-nil, arith, cond, false, get_or, length, refl, set, subst, suc, sym, take, true, ℕ, ◌++◌, ◌+◌, ◌<◌, ◌||◌, ◌∙◌, ◌∷◌, ◌≡◌}
use Rattle.std.specs.Prelude.{is_some}
use Rattle.std.proofs.lemmas.Bool.{false≢true}
use Rattle.std.proofs.lemmas.List.{take_more}
use Rattle.fk_base.specs.Path.{PathNames, same_path}
use Rattle.fk_tree.proofs.Order.{same_path_is, same_path_self}
use Rattle.fk_store.specs.declared.node_record.NodeRecord.{NodeRecord}
use Rattle.fk_store.specs.declared.rows.Row.{Row}
use Rattle.fk_store.specs.Rows.{row_record, has_row, row_from, rows_have_rows}

-- SEEKING
pub placed_where_there : (i : ℕ) (p : PathNames) (rs : List Row) → is_some (row_from i p rs) ≡ has_row p rs
placed_where_there i p [] = refl
placed_where_there i p (r ∷ rs) = step (same_path p r.path) (placed_where_there (suc i) p rs)
  where
    step : (b : Bool) → is_some (row_from (suc i) p rs) ≡ has_row p rs → is_some (cond b (Some i) (row_from (suc i) p rs)) ≡ (b || has_row p rs)
    step true e = refl
    step false e = e

placed_below : (i : ℕ) (p : PathNames) (rs : List Row) (k : ℕ) → row_from i p rs ≡ Some k → k < i + length rs
placed_below i p [] k e = absurd (cc)
placed_below i p (r ∷ rs) k e = step (same_path p r.path) e (placed_below (suc i) p rs k)
  where
    step : (b : Bool) → cond b (Some i) (row_from (suc i) p rs) ≡ Some k → (row_from (suc i) p rs ≡ Some k → k < suc i + length rs) → k < i + suc (length rs)
    step true e f = let same : i ≡ k = cc in omega arith
    step false e f = let below : k < suc i + length rs = f e in omega arith

pub place_within : (p : PathNames) (rs : List Row) (k : ℕ) → row_from 0 p rs ≡ Some k → k < length rs
place_within p rs k e = let below : k < 0 + length rs = placed_below 0 p rs k e in omega arith

pub none_placed : (p : PathNames) (rs : List Row) → row_from 0 p rs ≡ None → has_row p rs ≡ false
none_placed p rs e = sym (placed_where_there 0 p rs) ∙ ap is_some e

pub some_placed : (p : PathNames) (rs : List Row) → is_some (row_from 0 p rs) ≡ true → has_row p rs ≡ true
some_placed p rs e = sym (placed_where_there 0 p rs) ∙ e

pub placed_later : (p : PathNames) (rs : List Row) (i k : ℕ) → row_from (suc i) p rs ≡ Some k → (j : ℕ) × (k ≡ suc j) × (row_from i p rs ≡ Some j)
placed_later p [] i k e = absurd (cc)
placed_later p (r ∷ rs) i k e = step (same_path p r.path) e (placed_later p rs (suc i) k)
  where
    step : (b : Bool) → cond b (Some (suc i)) (row_from (suc (suc i)) p rs) ≡ Some k → (row_from (suc (suc i)) p rs ≡ Some k → (j : ℕ) × (k ≡ suc j) × (row_from (suc i) p rs ≡ Some j))
        → (j : ℕ) × (k ≡ suc j) × (cond b (Some i) (row_from (suc i) p rs) ≡ Some j)
    step true e f = (i, cc, refl)
    step false e f = f e

-- ADDING
-- a row without a record keeps what is there
pub empty_row_keeps : (p q : PathNames) (rs : List Row) → row_record p (rs ++ record { path = q; kept = None } ∷ []) ≡ row_record p rs
empty_row_keeps p q [] = step (same_path p q)
  where
    step : (b : Bool) → cond {A = Option NodeRecord} b None None ≡ None
    step true = refl
    step false = refl
empty_row_keeps p q (s ∷ rs) = ap (cond (same_path p s.path) s.kept) (empty_row_keeps p q rs)

has_more : (p : PathNames) (rs : List Row) (r : Row) → has_row p (rs ++ r ∷ []) ≡ (has_row p rs || same_path p r.path)
has_more p [] r = step (same_path p r.path)
  where
    step : (b : Bool) → (b || false) ≡ b
    step true = refl
    step false = refl
has_more p (s ∷ rs) r = rw (has_more p rs r) (step (same_path p s.path) (has_row p rs) (same_path p r.path))
  where
    step : (a b c : Bool) → (a || (b || c)) ≡ ((a || b) || c)
    step true b c = refl
    step false b c = refl

pub row_added : (p : PathNames) (rs : List Row) (o : Option NodeRecord) → has_row p (rs ++ record { path = p; kept = o } ∷ []) ≡ true
row_added p rs o = has_more p rs (record { path = p; kept = o }) ∙ rw (same_path_self p) (step (has_row p rs))
  where
    step : (b : Bool) → (b || true) ≡ true
    step true = refl
    step false = refl

pub rows_stay : (p : PathNames) (rs : List Row) (r : Row) → has_row p rs ≡ true → has_row p (rs ++ r ∷ []) ≡ true
rows_stay p rs r h = has_more p rs r ∙ rw h refl

have_more_rows : (ds : List Row) (d : Row) (rows : List Row) → rows_have_rows ds rows ≡ true → has_row d.path rows ≡ true → rows_have_rows (ds ++ d ∷ []) rows ≡ true
have_more_rows [] d rows h a = rw a refl
have_more_rows (f ∷ ds) d rows h a = step (has_row f.path rows) h (have_more_rows ds d rows)
  where
    step : (b : Bool) → cond b (rows_have_rows ds rows) false ≡ true → (rows_have_rows ds rows ≡ true → has_row d.path rows ≡ true → rows_have_rows (ds ++ d ∷ []) rows ≡ true) → cond b (rows_have_rows (ds ++ d ∷ []) rows) false ≡ true
    step true h f = f h a
    step false h f = h

have_rows_stay : (ds : List Row) (rows others : List Row) → ((p : PathNames) → has_row p rows ≡ true → has_row p others ≡ true) → rows_have_rows ds rows ≡ true → rows_have_rows ds others ≡ true
have_rows_stay [] rows others f h = refl
have_rows_stay (d ∷ ds) rows others f h = step (has_row d.path rows) refl h (have_rows_stay ds rows others f)
  where
    step : (b : Bool) → has_row d.path rows ≡ b → cond b (rows_have_rows ds rows) false ≡ true → (rows_have_rows ds rows ≡ true → rows_have_rows ds others ≡ true) → rows_have_rows (d ∷ ds) others ≡ true
    step true a h g = rw (f d.path a) (g h)
    step false a h g = absurd (false≢true h)

pub have_rows_step : (ds : List Row) (i : ℕ) (d : Row) (rows others : List Row) → i < length ds → d ≡ get_or ds i d → ((p : PathNames) → has_row p rows ≡ true → has_row p others ≡ true) → rows_have_rows (take i ds) rows ≡ true → has_row d.path others ≡ true → rows_have_rows (take (i + 1) ds) others ≡ true
have_rows_step ds i d rows others l s f h a = rw (take_more ds i d l, ← s) (have_more_rows (take i ds) d others (have_rows_stay (take i ds) rows others f h) a)

-- PUTTING
-- a row put in place of the first one of its path, over further rows
pub put_over : (p : PathNames) (rs base : List Row) (r : Row) (k : ℕ) → row_from 0 r.path rs ≡ Some k → row_record p (set rs k r ++ base) ≡ cond (same_path p r.path) r.kept (row_record p (rs ++ base))
put_over p [] base r k e = absurd (cc)
put_over p (s ∷ rs) base r k e = step (same_path r.path s.path) refl e (put_over p rs base r)
  where
    here : r.path ≡ s.path → cond (same_path p r.path) r.kept (row_record p (rs ++ base)) ≡ cond (same_path p r.path) r.kept (cond (same_path p s.path) s.kept (row_record p (rs ++ base)))
    here e = rw (← e) (twice (same_path p r.path))
      where
        twice : (b : Bool) → cond b r.kept (row_record p (rs ++ base)) ≡ cond b r.kept (cond b s.kept (row_record p (rs ++ base)))
        twice true = refl
        twice false = refl

    behind : (j : ℕ) → same_path r.path s.path ≡ false → k ≡ suc j → row_record p (set rs j r ++ base) ≡ cond (same_path p r.path) r.kept (row_record p (rs ++ base)) → row_record p (set (s ∷ rs) k r ++ base) ≡ cond (same_path p r.path) r.kept (row_record p ((s ∷ rs) ++ base))
    behind j b q e = rw (q, e) (apart (same_path p s.path) refl (same_path p r.path) refl)
      where
        apart : (a : Bool) → same_path p s.path ≡ a → (c : Bool) → same_path p r.path ≡ c → cond a s.kept (cond c r.kept (row_record p (rs ++ base))) ≡ cond c r.kept (cond a s.kept (row_record p (rs ++ base)))
        apart true u true v = absurd (false≢true (sym b ∙ subst (λ x. same_path x s.path ≡ true) (same_path_is p r.path v) u))
        apart true u false v = refl
        apart false u c v = refl

    step : (b : Bool) → same_path r.path s.path ≡ b → cond b (Some 0) (row_from 1 r.path rs) ≡ Some k → ((j : ℕ) → row_from 0 r.path rs ≡ Some j → row_record p (set rs j r ++ base) ≡ cond (same_path p r.path) r.kept (row_record p (rs ++ base))) → row_record p (set (s ∷ rs) k r ++ base) ≡ cond (same_path p r.path) r.kept (row_record p ((s ∷ rs) ++ base))
    step true b e f = let first : k ≡ 0 = cc in rw first (here (same_path_is r.path s.path b))
    step false b e f = let later : (j : ℕ) × (k ≡ suc j) × (row_from 0 r.path rs ≡ Some j) = placed_later r.path rs 0 k e in behind later.0 b later.1 (f later.0 later.2)

pub put_record : (p : PathNames) (rs : List Row) (r : Row) (k : ℕ) → row_from 0 r.path rs ≡ Some k → row_record p (set rs k r) ≡ cond (same_path p r.path) r.kept (row_record p rs)
put_record p rs r k e = ap (row_record p) (sym (append-nil (set rs k r))) ∙ put_over p rs [] r k e ∙ ap (λ xs. cond (same_path p r.path) r.kept (row_record p xs)) (append-nil rs)

pub put_has : (p : PathNames) (rs : List Row) (r : Row) (k : ℕ) → row_from 0 r.path rs ≡ Some k → has_row p (set rs k r) ≡ has_row p rs
put_has p [] r k e = absurd (cc)
put_has p (s ∷ rs) r k e = step (same_path r.path s.path) refl e (put_has p rs r)
  where
    behind : (j : ℕ) → k ≡ suc j → has_row p (set rs j r) ≡ has_row p rs → has_row p (set (s ∷ rs) k r) ≡ has_row p (s ∷ rs)
    behind j q e = rw (q, e) refl

    step : (b : Bool) → same_path r.path s.path ≡ b → cond b (Some 0) (row_from 1 r.path rs) ≡ Some k → ((j : ℕ) → row_from 0 r.path rs ≡ Some j → has_row p (set rs j r) ≡ has_row p rs) → has_row p (set (s ∷ rs) k r) ≡ has_row p (s ∷ rs)
    step true b e f = let first : k ≡ 0 = cc in rw (first, same_path_is r.path s.path b) refl
    step false b e f = let later : (j : ℕ) × (k ≡ suc j) × (row_from 0 r.path rs ≡ Some j) = placed_later r.path rs 0 k e in behind later.0 later.1 (f later.0 later.2)

-- the last of the rows that stand over others, put among them
pub over_last : (p : PathNames) (ds : List Row) (r : Row) (rows others : List Row) → ((q : PathNames) → row_record q others ≡ row_record q (r ∷ rows)) → row_record p (ds ++ others) ≡ row_record p ((ds ++ r ∷ []) ++ rows)
over_last p [] r rows others f = f p
over_last p (d ∷ ds) r rows others f = ap (cond (same_path p d.path) d.kept) (over_last p ds r rows others f)

pub last_has_row : (rs : List Row) (r : Row) (rows : List Row) → rows_have_rows (rs ++ r ∷ []) rows ≡ true → (rows_have_rows rs rows ≡ true) × (has_row r.path rows ≡ true)
last_has_row [] r rows h = (refl, step (has_row r.path rows) h)
  where
    step : (b : Bool) → cond b true false ≡ true → b ≡ true
    step true h = refl
    step false h = h
last_has_row (s ∷ rs) r rows h = step (has_row s.path rows) h (last_has_row rs r rows)
  where
    step : (b : Bool) → cond b (rows_have_rows (rs ++ r ∷ []) rows) false ≡ true → (rows_have_rows (rs ++ r ∷ []) rows ≡ true → (rows_have_rows rs rows ≡ true) × (has_row r.path rows ≡ true)) → (cond b (rows_have_rows rs rows) false ≡ true) × (has_row r.path rows ≡ true)
    step true h f = f h
    step false h f = absurd (false≢true h)

pub have_rows_like : (rs : List Row) (rows others : List Row) → ((p : PathNames) → has_row p others ≡ has_row p rows) → rows_have_rows rs rows ≡ true → rows_have_rows rs others ≡ true
have_rows_like [] rows others f h = refl
have_rows_like (r ∷ rs) rows others f h = rw (f r.path) (step (has_row r.path rows) h (have_rows_like rs rows others f))
  where
    step : (b : Bool) → cond b (rows_have_rows rs rows) false ≡ true → (rows_have_rows rs rows ≡ true → rows_have_rows rs others ≡ true) → cond b (rows_have_rows rs others) false ≡ true
    step true h f = f h
    step false h f = h
