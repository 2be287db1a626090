use Rattle.fk_print.proofs.client_text.client_operation.Goals as goal

pub returns-in-Pong : goal.returns-in-Pong
returns-in-Pong c = rw c.in-Pong.is c.words.ensures

pub returns-in-TakeDone : goal.returns-in-TakeDone
returns-in-TakeDone c = rw c.in-TakeDone.is c.words-in-TakeDone.ensures

pub returns-in-TakeEvicted : goal.returns-in-TakeEvicted
returns-in-TakeEvicted c = rw c.in-TakeEvicted.is c.words-in-TakeEvicted.ensures

pub returns-in-TakeRefused : goal.returns-in-TakeRefused
returns-in-TakeRefused c = rw c.in-TakeRefused.is c.words-in-TakeRefused.ensures

pub returns-in-TakeLost : goal.returns-in-TakeLost
returns-in-TakeLost c = rw c.in-TakeLost.is c.words-in-TakeLost.ensures

pub returns-in-TakeWatch : goal.returns-in-TakeWatch
returns-in-TakeWatch c = rw c.in-TakeWatch.is c.words-in-TakeWatch.ensures

pub returns-in-TakePing : goal.returns-in-TakePing
returns-in-TakePing c = rw c.in-TakePing.is c.words-in-TakePing.ensures

pub returns-in-LookOk : goal.returns-in-LookOk
returns-in-LookOk c = rw c.in-LookOk.is c.words-in-LookOk.ensures

pub returns-in-LookBehind : goal.returns-in-LookBehind
returns-in-LookBehind c = rw c.in-LookBehind.is c.words-in-LookBehind.ensures

pub returns-in-LookHeld : goal.returns-in-LookHeld
returns-in-LookHeld c = rw c.in-LookHeld.is c.words-in-LookHeld.ensures

pub returns-in-Send : goal.returns-in-Send
returns-in-Send c = rw c.in-Send.is c.words-in-Send.ensures

pub returns-in-Read : goal.returns-in-Read
returns-in-Read c = rw c.in-Read.is c.words-in-Read.ensures

pub returns-in-WatchSet : goal.returns-in-WatchSet
returns-in-WatchSet c = rw c.in-WatchSet.is c.words-in-WatchSet.ensures

pub returns-in-WatchSwept : goal.returns-in-WatchSwept
returns-in-WatchSwept c = rw c.in-WatchSwept.is c.words-in-WatchSwept.ensures

pub returns-in-Local : goal.returns-in-Local
returns-in-Local c = rw c.in-Local.is c.words-in-Local.ensures

pub returns-in-PongFault : goal.returns-in-PongFault
returns-in-PongFault c = rw c.in-PongFault.is c.words-in-PongFault.ensures

pub returns-in-TakeFault : goal.returns-in-TakeFault
returns-in-TakeFault c = rw c.in-TakeFault.is c.words-in-TakeFault.ensures

pub returns-in-LookFault : goal.returns-in-LookFault
returns-in-LookFault c = rw c.in-LookFault.is c.words-in-LookFault.ensures

pub returns-in-SendFault : goal.returns-in-SendFault
returns-in-SendFault c = rw c.in-SendFault.is c.words-in-SendFault.ensures

pub returns-in-ReadFault : goal.returns-in-ReadFault
returns-in-ReadFault c = rw c.in-ReadFault.is c.words-in-ReadFault.ensures

pub returns-in-WatchFault : goal.returns-in-WatchFault
returns-in-WatchFault c = rw c.in-WatchFault.is c.words-in-WatchFault.ensures
