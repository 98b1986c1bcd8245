-- `refusing::judge` meets its contract: each kind has its judge.
-- Assumes nothing.
use Rattle.graph.specs.Graph.{present}
use Rattle.graph.specs.Refusing.{early, input_checks, state_checks}
use Rattle.graph.specs.Reading.{read_change}
use Rattle.graph.proofs.refusing.judge.Goals as goal

pub returns-in-AddByPlace : goal.returns-in-AddByPlace
unfolding read_change
returns-in-AddByPlace c = rw c.in-AddByPlace.is c.judge_add_by_place.ensures

pub returns-in-AddByPrivileges : goal.returns-in-AddByPrivileges
unfolding read_change
returns-in-AddByPrivileges c = rw c.in-AddByPrivileges.is c.judge_add_by_privileges.ensures

pub returns-in-RemoveRole : goal.returns-in-RemoveRole
unfolding read_change early input_checks state_checks present
returns-in-RemoveRole c = rw c.in-RemoveRole.is c.judge_role.ensures

pub returns-in-Grant : goal.returns-in-Grant
unfolding read_change
returns-in-Grant c = rw c.in-Grant.is c.judge_grant.ensures

pub returns-in-Withdraw : goal.returns-in-Withdraw
unfolding read_change
returns-in-Withdraw c = rw c.in-Withdraw.is c.judge_withdraw.ensures

pub returns-in-AddEdge : goal.returns-in-AddEdge
unfolding read_change
returns-in-AddEdge c = rw c.in-AddEdge.is c.judge_add_edge.ensures

pub returns-in-RemoveEdge : goal.returns-in-RemoveEdge
unfolding read_change
returns-in-RemoveEdge c = rw c.in-RemoveEdge.is c.judge_remove_edge.ensures
