-- A printed deployment, beside what the definitions give for it.
use Rattle.std.specs.Prelude.{◌≡◌, [], ◌∷◌, codes}
use Rattle.fk_script.specs.Generate.{draw, generated}
use Rattle.fk_script.specs.Printed.{deployment_text}

-- what is drawn first for number 1
abbrev pub AreDrawn : Type 0
AreDrawn = draw 1 1 ∷ draw 1 2 ∷ draw 1 3 ∷ draw 1 4 ∷ draw 1 5 ∷ draw 1 6 ∷ draw 1 7 ∷ draw 1 8 ∷ []
    ≡ 16838 ∷ 5758 ∷ 10113 ∷ 17515 ∷ 31051 ∷ 5627 ∷ 23010 ∷ 7419 ∷ []

-- and the file of one command for each client
abbrev pub IsPrinted : Type 0
IsPrinted = deployment_text (generated 1 1) ≡ codes "lock 10\nbeat 30\nclient c1\ndelete /p6\nclient c2\ncreate /p3 1\nclient c3\nset /p3 1\nclient c4\ncreate -s /p3/q 1\nschedule\ndeliver c3\nstep 2\nstep 1\nclient c4\nclient c4\nclient c3\ndeliver c3\nclock 8\ndeliver leader\ndeliver leader\nstep 8\nstep 6\nstep 3\nclient c4\nclient c2\nclient c1\nstep 8\ndeliver c4\ndeliver leader\ndeliver c4\n"
