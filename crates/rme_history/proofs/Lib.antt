-- Legal lists of entries, and the histories of the abstract machine; the state of a replay, and its next step; lists in
-- order, and a legal history put in order.
pub mod Legal
pub mod Machines
pub mod Folds
pub mod Following
pub mod Pairs
pub mod Returning
pub mod Listings
