-- What a query is answered.
use Rattle.std.specs.Prelude.{Option, Some, None}
use Rattle.fk_base.specs.Path.{PathNames}
use Rattle.fk_tree.specs.Tree.{stat_of}
use Rattle.fk_tree.specs.View.{View}
use Rattle.fk_tree.specs.declared.node.Node.{Node}
use Rattle.fk_tree.specs.declared.reply.Answer.{Answer}
use Rattle.fk_tree.specs.declared.reply.Answer.TheVariants as answer
use Rattle.fk_tree.specs.declared.request.Query.{Query}
use Rattle.fk_tree.specs.declared.request.Query.TheVariants as query

-- the path that a query speaks of
abbrev pub path_asked : Query → PathNames
path_asked (query.Get p) = p
path_asked (query.Stat p) = p
path_asked (query.Ls p) = p

-- the bytes and the stat, the stat, or the names of the children
abbrev pub answer_of_node : Query → Node → Answer
answer_of_node (query.Get p) n = answer.Got n.bytes (stat_of n)
answer_of_node (query.Stat p) n = answer.Stated (stat_of n)
answer_of_node (query.Ls p) n = answer.Listed n.names

-- what a query is answered where its path has this node, or none
abbrev pub answer_from : Query → Option Node → Answer
answer_from q None = answer.NoNode
answer_from q (Some n) = answer_of_node q n

-- what a query is answered from what a tree shows
abbrev pub ask : View → Query → Answer
ask v q = answer_from q (v.node (path_asked q))
