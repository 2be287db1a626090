use Rattle.std.proofs.Common.{◌≡◌, length, None, subst}
use Rattle.fk_region.specs.Blocks.{bytes_at, bytes_in, held_in, next_in}
use Rattle.fk_region.specs.Kept.{bytes_under, without_ticket}
use Rattle.fk_region.specs.Meaning.{RegionMeaning}
use Rattle.fk_region.proofs.Regions.{once}
use Rattle.fk_region.proofs.region.Region.keeps_once.Goals as goal

pub returns : goal.returns
returns c t =
    let bs = c.self.inside.blocks.items in
    subst (λ (m : RegionMeaning). bytes_under t (without_ticket t m.kept) ≡ None) c.self.view_is (once (held_in bs) (bytes_at (next_in bs) (bytes_in bs)) (length bs) t)
