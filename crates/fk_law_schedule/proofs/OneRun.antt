-- A deployment has one run: each event of its schedule gives one entry.
use Rattle.std.proofs.Common.{◌≡◌, List, [], ◌∷◌, refl, sym, ◌∙◌, ap, subst, arith, Some, None}
use Rattle.std.proofs.lemmas.Option.{none-some, same_Some}
use Rattle.fk_print.specs.declared.entry.Entry.{Entry}
use Rattle.fk_print.specs.declared.event.Event.{Event}
use Rattle.fk_script.specs.declared.deployment.Turn.{Turn}
use Rattle.fk_script.specs.declared.deployment.Turn.TheVariants as turn
use Rattle.fk_spec.specs.Plan.{Plan, plan_of}
use Rattle.fk_spec.specs.Lawful.{IsLawful}
use Rattle.fk_spec.specs.Next.{next_entry}
use Rattle.fk_spec.specs.Schedule.{drain_begin, Drains, Emptied, Empties, Goes, Plays, TakesTurn, TakesTurns}
use Rattle.fk_law_schedule.specs.OneRun.{ThereIsOneRun}

-- What comes before a lawful history is lawful. ----------------------------------------------------

plays_back : (p : Plan) (es : List Event) (h k : List Entry) → Plays es h k → IsLawful p k → IsLawful p h
plays_back p [] h k r l = subst (IsLawful p) (sym r) l
plays_back p (e ∷ es) h k r l = (plays_back p es (r.0 ∷ h) k r.2 l).0

empties_back : (p : Plan) (h k : List Entry) → Empties p h k → IsLawful p k → IsLawful p h
empties_back p h _ (Emptied _ e) l = l
empties_back p h k (Goes _ _ x e r) l = (empties_back p (x ∷ h) k r l).0

drains_back : (p : Plan) (h k : List Entry) → Drains p h k → IsLawful p k → IsLawful p h
drains_back p h k r l = plays_back p (drain_begin p h) h r.begun r.begins (empties_back p r.begun k r.empties l)

turn_back : (p : Plan) (t : Turn) (h k : List Entry) → TakesTurn p t h k → IsLawful p k → IsLawful p h
turn_back p (turn.One e) h k r l = plays_back p (e ∷ []) h k r l
turn_back p turn.Drain h k r l = drains_back p h k r l

turns_back : (p : Plan) (ts : List Turn) (h k : List Entry) → TakesTurns p ts h k → IsLawful p k → IsLawful p h
turns_back p [] h k r l = drains_back p h k r l
turns_back p (t ∷ ts) h k r l = turn_back p t h r.0 r.1 (turns_back p ts r.0 k r.2 l)

-- One event gives one entry, and so do many. -------------------------------------------------------

one_entry : (p : Plan) (h : List Entry) (x y : Entry) → IsLawful p (x ∷ h) → IsLawful p (y ∷ h) → x.event ≡ y.event → x ≡ y
one_entry p h x y l m e = l.1.0 ∙ ap (next_entry p h) e ∙ sym m.1.0

plays_once : (p : Plan) (es : List Event) (h j k : List Entry) → Plays es h j → Plays es h k → IsLawful p j → IsLawful p k → j ≡ k
plays_once p [] h j k r s l m = sym r ∙ s
plays_once p (e ∷ es) h j k (x, a, r) (y, b, s) l m =
    plays_once p es (x ∷ h) j k r (subst (λ z. Plays es (z ∷ h) k) (sym same) s) l m
  where
    same : x ≡ y
    same = one_entry p h x y (plays_back p es (x ∷ h) j r l) (plays_back p es (y ∷ h) k s m) (a ∙ sym b)

empties_once : (p : Plan) (h j k : List Entry) → Empties p h j → Empties p h k → IsLawful p j → IsLawful p k → j ≡ k
empties_once p h _ _ (Emptied _ e) (Emptied _ f) l m = refl
empties_once p h _ k (Emptied _ e) (Goes _ _ y f s) l m = absurd (none-some y.event (sym e ∙ f))
empties_once p h j _ (Goes _ _ x e r) (Emptied _ f) l m = absurd (none-some x.event (sym f ∙ e))
empties_once p h j k (Goes _ _ x e r) (Goes _ _ y f s) l m =
    empties_once p (x ∷ h) j k r (subst (λ z. Empties p (z ∷ h) k) (sym same) s) l m
  where
    same : x ≡ y
    same = one_entry p h x y (empties_back p (x ∷ h) j r l) (empties_back p (y ∷ h) k s m) (same_Some x.event y.event (sym e ∙ f))

drains_once : (p : Plan) (h j k : List Entry) → Drains p h j → Drains p h k → IsLawful p j → IsLawful p k → j ≡ k
drains_once p h j k r s l m = empties_once p r.begun j k r.empties (subst (λ z. Empties p z k) (sym same) s.empties) l m
  where
    same : r.begun ≡ s.begun
    same = plays_once p (drain_begin p h) h r.begun s.begun r.begins s.begins (empties_back p r.begun j r.empties l) (empties_back p s.begun k s.empties m)

turn_once : (p : Plan) (t : Turn) (h j k : List Entry) → TakesTurn p t h j → TakesTurn p t h k → IsLawful p j → IsLawful p k → j ≡ k
turn_once p (turn.One e) h j k r s l m = plays_once p (e ∷ []) h j k r s l m
turn_once p turn.Drain h j k r s l m = drains_once p h j k r s l m

turns_once : (p : Plan) (ts : List Turn) (h j k : List Entry) → TakesTurns p ts h j → TakesTurns p ts h k → IsLawful p j → IsLawful p k → j ≡ k
turns_once p [] h j k r s l m = drains_once p h j k r s l m
turns_once p (t ∷ ts) h j k (a, q, r) (b, u, s) l m =
    turns_once p ts a j k r (subst (λ z. TakesTurns p ts z k) (sym same) s) l m
  where
    same : a ≡ b
    same = turn_once p t h a b q u (turns_back p ts a j r l) (turns_back p ts b k s m)

pub there_is_one_run : ThereIsOneRun
there_is_one_run d h g l r m s = turns_once (plan_of d) d.turns [] h g r s l m
