-- A request fits a view in one way, with one reply.
use Rattle.std.proofs.Common.{◌≡◌, ℕ, List, refl, sym, ◌∙◌, ap, subst}
use Rattle.fk_base.specs.Path.{PathNames}
use Rattle.fk_tree.specs.View.{View}
use Rattle.fk_tree.specs.Fill.{fill_name, fill_version, fill_made}
use Rattle.fk_tree.specs.Apply.{part_replies, reply_to}
use Rattle.fk_tree.specs.declared.applied.Applied.{Applied}
use Rattle.fk_tree.specs.declared.reply.Reply.TheVariants as reply
use Rattle.fk_tree.specs.declared.request.Request.{Request}
use Rattle.fk_tree.specs.declared.request.Request.TheVariants as request
use Rattle.fk_tree.proofs.Order.{path_total, path_exact}
use Rattle.fk_tree.proofs.Rising.{same_rising}
use Rattle.fk_law_tree.specs.Fitting.{GoneIs, OneFits, SameReply}
use Rattle.fk_law_tree.specs.Reading.{SameFill}
use Rattle.fk_law_tree.proofs.Reading.{fill_reads}

gone_one : (v : View) (session : ℕ) (r : Request) (ps qs : List PathNames) → GoneIs v session r ps → GoneIs v session r qs → ps ≡ qs
gone_one v session (request.Create p bytes seq eph) ps qs g h = g ∙ sym h
gone_one v session (request.Set p bytes version) ps qs g h = g ∙ sym h
gone_one v session (request.Delete p version) ps qs g h = g ∙ sym h
gone_one v session (request.Close evict) ps qs g h = same_rising path_total path_exact ps qs g.0 h.0 (λ p. g.1 p ∙ sym (h.1 p))
gone_one v session (request.Multi xs) ps qs g h = g ∙ sym h

-- what the other has, at this session and request
gone_here : (v : View) (a b : Applied) → a.session ≡ b.session → a.request ≡ b.request → GoneIs v b.session b.request b.gone → GoneIs v a.session a.request b.gone
gone_here v a b s r g = subst (λ c. GoneIs v c a.request b.gone) (sym s) (subst (λ x. GoneIs v b.session x b.gone) (sym r) g)

made_here : (v : View) (a b : Applied) → a.session ≡ b.session → a.request ≡ b.request → fill_made v a.session a.request ≡ fill_made v b.session b.request
made_here v a b s r = ap (λ c. fill_made v c a.request) s ∙ ap (fill_made v b.session) r

pub one_fits : OneFits
one_fits v a b f g s = λ i. record {
  tx = (s.tx) i;
  moment = (s.moment) i;
  session = (s.session) i;
  k = (s.k) i;
  request = (s.request) i;
  name = (f.name ∙ ap (fill_name v) s.request ∙ sym g.name) i;
  version = (f.version ∙ ap (fill_version v) s.request ∙ sym g.version) i;
  gone = (gone_one v a.session a.request a.gone b.gone f.gone (gone_here v a b s.session s.request g.gone)) i;
  made = (f.made ∙ made_here v a b s.session s.request ∙ sym g.made) i;
}

reply_by : (a b : Applied) (r : Request) → a.name ≡ b.name → a.version ≡ b.version → a.made ≡ b.made → reply_to a r ≡ reply_to b r
reply_by a b (request.Create p bytes seq eph) n v m = ap reply.Created n
reply_by a b (request.Set p bytes version) n v m = ap reply.Version v
reply_by a b (request.Delete p version) n v m = refl
reply_by a b (request.Close evict) n v m = refl
reply_by a b (request.Multi xs) n v m = ap (λ ms. reply.Multi (part_replies xs ms)) m

pub same_reply : SameReply
same_reply v w a b f g s r e =
    let same : SameFill v w a.session a.request = fill_reads v w a.session a.request e in
    reply_by a b a.request
    (f.name ∙ same.name ∙ ap (fill_name w) r ∙ sym g.name)
    (f.version ∙ same.version ∙ ap (fill_version w) r ∙ sym g.version)
    (f.made ∙ same.made ∙ made_here w a b s r ∙ sym g.made)
    ∙ ap (reply_to b) r
