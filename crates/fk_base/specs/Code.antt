-- The number and the name of each code.
use Rattle.std.specs.Prelude.{ℕ, ℤ, negsuc, List, codes}
use Rattle.fk_base.specs.declared.code.Code.{Code}
use Rattle.fk_base.specs.declared.code.Code.TheVariants as code

-- the code's number in ZooKeeper's client interface; negsuc n is -(n + 1)
abbrev pub number_of : Code → ℤ
number_of code.SystemError = negsuc 0
number_of code.ConnectionLoss = negsuc 3
number_of code.BadArguments = negsuc 7
number_of code.NoNode = negsuc 100
number_of code.BadVersion = negsuc 102
number_of code.NoChildrenForEphemerals = negsuc 107
number_of code.NodeExists = negsuc 109
number_of code.NotEmpty = negsuc 110
number_of code.SessionExpired = negsuc 111

-- the code's name
abbrev pub name_of : Code → List ℕ
name_of code.SystemError = codes "SYSTEMERROR"
name_of code.ConnectionLoss = codes "CONNECTIONLOSS"
name_of code.BadArguments = codes "BADARGUMENTS"
name_of code.NoNode = codes "NONODE"
name_of code.BadVersion = codes "BADVERSION"
name_of code.NoChildrenForEphemerals = codes "NOCHILDRENFOREPHEMERALS"
name_of code.NodeExists = codes "NODEEXISTS"
name_of code.NotEmpty = codes "NOTEMPTY"
name_of code.SessionExpired = codes "SESSIONEXPIRED"
