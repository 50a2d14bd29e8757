-- In reading order: paths, the levels that a worker holds and the owner; trees in which every node has a holder, and
-- their steps; the laws of a step; the nodes of a memory.
pub mod Paths
pub mod HeldTrees
pub mod Laws
pub mod Nodes
pub mod NodeStores
