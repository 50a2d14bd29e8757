-- In reading order: the text of a server's metrics; its families; how their samples are written; labels and their
-- escapes; the words of kinds of orders; what a histogram is.
pub mod Metrics
pub mod Families
pub mod Samples
pub mod Labels
pub mod OrderKinds
pub mod Histograms
