-- In reading order: the names of spaces, the sizes of a new space, the order of a line, and the texts of the answers.
pub mod SpaceNames
pub mod NewSpaces
pub mod SpaceOrders
pub mod SpaceReplies
