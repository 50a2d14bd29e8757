-- In reading order.
pub mod Values
pub mod View
pub mod Trees
