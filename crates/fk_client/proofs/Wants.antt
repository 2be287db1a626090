-- What follows where the next command wants something.
use Rattle.std.proofs.Common.{◌≡◌, ◌+◌, Bool, true, false, cond, List, [], ◌∷◌, Option, Some, None, refl, sym, subst, arith}
use Rattle.std.specs.Prelude.{is_some, not}
use Rattle.fk_print.specs.declared.op.Op.TheVariants as op
use Rattle.fk_tree.specs.Ask.{path_asked}
use Rattle.fk_tree.specs.declared.request.Query.{Query}
use Rattle.fk_tree.specs.declared.request.Request.{Request}
use Rattle.fk_wire.specs.Limits.{IsLimitedRequest}
use Rattle.fk_script.specs.declared.command.Command.{Command}
use Rattle.std.proofs.lemmas.Bool.{false≢true}
use Rattle.fk_spec.specs.Client.{all_go_on, begin_asked, begin_op, is_none_sent, is_unfit, is_write, may_begin}
use Rattle.fk_client.specs.declared.unanswered.Unanswered.{Unanswered}
use Rattle.fk_spec.specs.Sight.{Sight}
use Rattle.fk_spec.specs.Plan.{Ask, Want, Unfit, Writes, Reads, ask_of, want_of}
use Rattle.fk_client.specs.Beginning.{IsNextRead, IsNextWrite, Wants}
use Rattle.fk_client.specs.Fit.{IsLimitedAsk, IsLimitedWant}
use Rattle.fk_client.specs.Idle.{waits_next}
use Rattle.fk_client.specs.Known.{by_outcome}
use Rattle.fk_client.specs.Meaning.{Meaning, next_ask}

pub some : (o : Option Ask) (w : Want) → Wants o w → is_some o ≡ true
some None w x = absurd x
some (Some a) w x = refl

pub wants : (o : Option Ask) (c : Command) (w : Want) → Some (ask_of c) ≡ o → w ≡ want_of c → Wants o w
wants o c w e f = rw (sym e, f) refl

unfit_any : (a : Ask) (w : Want) → a.want ≡ w → is_unfit (Some a) ≡ is_unfit (Some (record a { want = w }))
unfit_any a w e = rw (sym e) refl

pub unfit : (o : Option Ask) → Wants o Unfit → is_unfit o ≡ true
unfit None x = absurd x
unfit (Some a) x = unfit_any a Unfit x

pub unfit_write : (o : Option Ask) (r : Request) → Wants o (Writes r) → is_unfit o ≡ false
unfit_write None r x = absurd x
unfit_write (Some a) r x = unfit_any a (Writes r) x

pub unfit_read : (o : Option Ask) (q : Query) (watch : Bool) → Wants o (Reads q watch) → is_unfit o ≡ false
unfit_read None q watch x = absurd x
unfit_read (Some a) q watch x = unfit_any a (Reads q watch) x

pub writes : (o : Option Ask) (r : Request) → Wants o (Writes r) → IsNextWrite o r
writes None r x = absurd x
writes (Some a) r x = rw x refl

pub reads : (o : Option Ask) (q : Query) (watch : Bool) → Wants o (Reads q watch) → IsNextRead o (path_asked q)
reads None q watch x = absurd x
reads (Some a) q watch x = rw x refl

limited_in : (w : Want) (r : Request) → w ≡ Writes r → IsLimitedWant w → IsLimitedRequest r
limited_in w r e l = subst IsLimitedWant e l

pub limited : (o : Option Ask) (r : Request) → Wants o (Writes r) → IsLimitedAsk o → IsLimitedRequest r
limited None r x l = absurd x
limited (Some a) r x l = limited_in a.want r x l

begins_in : (s : Sight) (m : Meaning) (o : Option Ask) (w : Want) → s.asks ≡ m.asks → Wants o w → waits_next m o ≡ false → begin_asked by_outcome s m.client o ≡ begin_op s (m.client.begun + 1) m.client.closed w
begins_in s m None w a x e = absurd x
begins_in s m (Some v) w a x e = rw (x, a) (step (may_begin by_outcome m.asks v m.client.sent) e)
  where
    step : (b : Bool) → not b ≡ false → cond b (begin_op s (m.client.begun + 1) m.client.closed w) op.Idle ≡ begin_op s (m.client.begun + 1) m.client.closed w
    step true e = refl
    step false e = absurd (grind arith)

pub begins : (s : Sight) (m : Meaning) (w : Want) → s.asks ≡ m.asks → Wants (next_ask m) w → waits_next m (next_ask m) ≡ false → begin_asked by_outcome s m.client (next_ask m) ≡ begin_op s (m.client.begun + 1) m.client.closed w
begins s m w a x e = begins_in s m (next_ask m) w a x e

-- where it may begin, none that isn't answered has to be waited for
pub others : (m : Meaning) (o : Option Ask) → waits_next m o ≡ false → all_go_on by_outcome m.asks m.client.sent ≡ true
others m None e = absurd (false≢true (sym e))
others m (Some a) e = step (is_write a.verb) m.client.sent e
  where
    so : (b : Bool) → not b ≡ false → b ≡ true
    so true e = refl
    so false e = absurd (false≢true (sym e))

    step : (b : Bool) (ss : List Unanswered) → not (cond b (all_go_on by_outcome m.asks ss) (is_none_sent ss)) ≡ false → all_go_on by_outcome m.asks ss ≡ true
    step true ss e = so (all_go_on by_outcome m.asks ss) e
    step false [] e = refl
    step false (s ∷ ss) e = absurd (false≢true (sym e))
