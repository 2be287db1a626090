-- Files, beside what the grammar gives for them. What is expected was written down by hand.
use Rattle.std.specs.Prelude.{◌≡◌, ℕ, pos, negsuc, true, false, List, [], ◌∷◌, codes, map, ◌++◌}
use Rattle.fk_print.specs.declared.event.Event.TheVariants as event
use Rattle.fk_script.specs.declared.command.Command.{Command}
use Rattle.fk_script.specs.declared.command.Command.TheVariants as command
use Rattle.fk_script.specs.declared.command.PartCommand.TheVariants as part
use Rattle.fk_script.specs.declared.deployment.Block.{Block}
use Rattle.fk_script.specs.declared.deployment.Turn.{Turn}
use Rattle.fk_script.specs.declared.deployment.Turn.TheVariants as turn
use Rattle.fk_script.specs.declared.why.Why.TheVariants as why
use Rattle.fk_script.specs.Reading.{Reading, Means, Offends, deployment_of}

-- three workers of one service
abbrev pub service : List ℕ
service = codes "lock 20\nbeat 60\n# three workers of one service\nclient boss\ncreate /config v1\ncreate /members\nls -w /members\nget -w /config\nget /config\nclient w1\ncreate -e /members/w1 ready\nget -w /config\nls /members\nset -v 0 /config v2\n& create -s /members/job- 1\n& create -s /members/job- 2\nls /members\nclose\nclient w2\nstat /config\ndelete /members/w1\nschedule\nclient boss\ndeliver boss\nstep 1\nstep 1\nclock 5\ndeliver boss\nstep 2\nstep 2\ncrash 1\n"

abbrev pub block : List ℕ → List Command → Block
block name commands = record { name = name; commands = commands }

abbrev pub boss : Block
boss = block (codes "boss") (command.Create (codes "/config") (codes "v1") false false true
    ∷ command.Create (codes "/members") [] false false true
    ∷ command.Ls (codes "/members") true
    ∷ command.Get (codes "/config") true
    ∷ command.Get (codes "/config") false
    ∷ [])

abbrev pub first_worker : Block
first_worker = block (codes "w1") (command.Create (codes "/members/w1") (codes "ready") false true true
    ∷ command.Get (codes "/config") true
    ∷ command.Ls (codes "/members") false
    ∷ command.Set (codes "/config") (codes "v2") (pos 0) true
    ∷ command.Create (codes "/members/job-") (codes "1") true false false
    ∷ command.Create (codes "/members/job-") (codes "2") true false false
    ∷ command.Ls (codes "/members") false
    ∷ command.Close
    ∷ [])

abbrev pub second_worker : Block
second_worker = block (codes "w2") (command.Stat (codes "/config") false ∷ command.Delete (codes "/members/w1") (negsuc 0) true ∷ [])

abbrev pub service_turns : List Turn
service_turns = turn.One (event.Client 1)
    ∷ turn.One (event.Deliver 1)
    ∷ turn.One (event.Step 1)
    ∷ turn.One (event.Step 1)
    ∷ turn.One (event.Clock 5)
    ∷ turn.One (event.Deliver 1)
    ∷ turn.One (event.Step 2)
    ∷ turn.One (event.Step 2)
    ∷ turn.One (event.Crash 1)
    ∷ []

abbrev pub ServiceIsRead : Type 0
ServiceIsRead = deployment_of service ≡ Means (record { config = record { lock = 20; beat = 60 }; clients = boss ∷ first_worker ∷ second_worker ∷ []; turns = service_turns; scheduled = true })

-- spaces, a comment, parts, data in base64, and events of every kind
abbrev pub crowded : List ℕ
crowded = codes "  lock   0\n\n client  a \n &  multi set -v 3 /a ; delete -v -1 /b ; create -b -e /c aGk=\n# no\nset -b -v 2147483647 /x AAEC\nschedule\ndeliver a\ndeliver leader\ndeliver watch\nbeat a\nfail 1099511627775\nfail client a\ndrain\n"

abbrev pub CrowdedIsRead : Type 0
CrowdedIsRead = deployment_of crowded ≡ Means (record {
  config = record { lock = 0; beat = 30 };
  clients = block (codes "a") (command.Multi (part.Set (codes "/a") [] (pos 3) ∷ part.Delete (codes "/b") (negsuc 0) ∷ part.Create (codes "/c") (codes "hi") true ∷ []) false
      ∷ command.Set (codes "/x") (0 ∷ 1 ∷ 2 ∷ []) (pos 2147483647) true
      ∷ []) ∷ [];
  turns = turn.One (event.Deliver 1)
      ∷ turn.One event.Leader
      ∷ turn.One event.Watch
      ∷ turn.One (event.Beat 1)
      ∷ turn.One (event.Fail 1099511627775)
      ∷ turn.One (event.FailClient 1)
      ∷ turn.Drain
      ∷ [];
  scheduled = true;
})

-- files that offend
abbrev pub offending : List (List ℕ)
offending = codes "lock 10\nlock 10\n"
    ∷ codes "client a\nget -s /x\n"
    ∷ codes "client a\ncreate -b /x A\n"
    ∷ codes "client a\ncreate -b /x AB==\n"
    ∷ codes "schedule\nclient z\n"
    ∷ codes "client a\nmulti create -s /q\n"
    ∷ codes "client a\nmulti create /a ;\n"
    ∷ codes "client a\nmulti get /a\n"
    ∷ codes "client a\nmulti create -s /a ; get /x\n"
    ∷ codes "client a\nmulti set -v ; create /a\n"
    ∷ codes "client a\nset -v -v 1 /x\n"
    ∷ codes "client a\nclose -x\n"
    ∷ codes "client a\nclose x -y\n"
    ∷ codes "client a\n& get /x\n"
    ∷ codes "client a\n&\n"
    ∷ codes "client leader\nlock 01\n"
    ∷ codes "lock 01\nclient leader\n"
    ∷ codes "client a\nclient b\nclient a\n"
    ∷ codes "client a\nschedule\nfail client\n"
    ∷ codes "schedule\nfail a b\n"
    ∷ codes "schedule\nschedule\n"
    ∷ codes "& create /x\n"
    ∷ codes "client a\nget /x"
    ∷ codes "lock 1\n  "
    ∷ (codes "# " ++ 255 ∷ 10 ∷ [])
    ∷ []

abbrev pub offences : List Reading
offences = Offends 2 why.BadWords
    ∷ Offends 2 why.BadOption
    ∷ Offends 2 why.BadBase64
    ∷ Offends 2 why.BadBase64
    ∷ Offends 2 why.UnknownClient
    ∷ Offends 2 why.BadOption
    ∷ Offends 2 why.BadWords
    ∷ Offends 2 why.UnknownCommand
    ∷ Offends 2 why.UnknownCommand
    ∷ Offends 2 why.BadWords
    ∷ Offends 2 why.BadNumber
    ∷ Offends 2 why.BadOption
    ∷ Offends 2 why.BadWords
    ∷ Offends 2 why.BadOption
    ∷ Offends 2 why.BadWords
    ∷ Offends 1 why.BadName
    ∷ Offends 1 why.BadNumber
    ∷ Offends 3 why.RepeatedName
    ∷ Offends 3 why.BadNumber
    ∷ Offends 2 why.BadWords
    ∷ Offends 2 why.UnknownEvent
    ∷ Offends 1 why.UnknownLine
    ∷ Offends 2 why.Unended
    ∷ Offends 2 why.Unended
    ∷ Offends 1 why.NotUtf8
    ∷ []

abbrev pub AreJudged : Type 0
AreJudged = map deployment_of offending ≡ offences
