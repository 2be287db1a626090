-- What the fields of a post mean.
use Rattle.std.specs.Prelude.{List}
use Rattle.fk_region.specs.declared.ticket.Ticket.{Ticket}
use Rattle.fk_region.specs.Meaning.{RegionMeaning}
use Rattle.fk_queue.specs.declared.lane.Lane.{Lane}
use Rattle.fk_queue.specs.declared.post.Post.{Post}
use Rattle.fk_queue.specs.Meaning.{Meaning}
use Rattle.fk_queue.specs.Places.{lanes_of, slips_of}
use Rattle.fk_queue.specs.Slips.{tickets_in}

-- what a post means; code above doesn't look into it
unfoldable pub post_of : Post → Meaning
post_of p = record {
  sessions = p.sessions;
  lanes = λ l. lanes_of p.sessions p.queues.items p.region.kept l;
  armed = p.armed;
  faults = p.faults;
}

-- the tickets of the messages that wait in a lane, in their order
unfoldable pub tickets_of : Post → Lane → List Ticket
tickets_of p l = tickets_in (slips_of p.sessions p.queues.items l)

-- what a post's region means
unfoldable pub region_of : Post → RegionMeaning
region_of p = p.region
