pub mod VerdictStatuses
