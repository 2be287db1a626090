-- What a look shows.
use Rattle.std.specs.Prelude.{ℕ, nat_lt, if◌then◌else◌, List, Option, Some, None}
use Rattle.fk_user.specs.Meaning as user
use Rattle.fk_spec.specs.Client.{first_held}
use Rattle.fk_client.specs.declared.looking.Looked.{Looked}
use Rattle.fk_client.specs.declared.looking.Looked.TheVariants as looked

abbrev pub looked_free : ℕ → Option ℕ → Looked
looked_free mark None = looked.Free mark
looked_free mark (Some watch) = looked.Held mark watch

-- what a look for a number shows
abbrev pub looked_at : user.Meaning → List ℕ → ℕ → Looked
looked_at u held number =
    if u.armed then looked.Failed
    else if nat_lt u.mark number then looked.Behind u.mark
    else looked_free u.mark (first_held u.epoch held)
