-- `graph::editing::Laid::edit` meets its contract: each kind's own edit.
-- Assumes nothing.
use Rattle.graph.specs.Reading.{read_change}
use Rattle.graph.proofs.editing.Laid.edit.Goals as goal

pub returns-in-AddByPlace : goal.returns-in-AddByPlace
unfolding read_change
returns-in-AddByPlace c = rw c.in-AddByPlace.is c.add_by_place.ensures

pub returns-in-AddByPrivileges : goal.returns-in-AddByPrivileges
unfolding read_change
returns-in-AddByPrivileges c = rw c.in-AddByPrivileges.is c.add_by_privileges.ensures

pub returns-in-RemoveRole : goal.returns-in-RemoveRole
unfolding read_change
returns-in-RemoveRole c = rw c.in-RemoveRole.is c.remove_role.ensures

pub returns-in-Grant : goal.returns-in-Grant
unfolding read_change
returns-in-Grant c = rw c.in-Grant.is c.grant.ensures

pub returns-in-Withdraw : goal.returns-in-Withdraw
unfolding read_change
returns-in-Withdraw c = rw c.in-Withdraw.is c.withdraw.ensures

pub returns-in-AddEdge : goal.returns-in-AddEdge
unfolding read_change
returns-in-AddEdge c = rw c.in-AddEdge.is c.add_edge.ensures

pub returns-in-RemoveEdge : goal.returns-in-RemoveEdge
unfolding read_change
returns-in-RemoveEdge c = rw c.in-RemoveEdge.is c.remove_edge.ensures
