-- In reading order: the sentences of events; the keys of a file; what a look-up of the status is answered; the texts of
-- metrics.
pub mod EventTexts
pub mod FileKeys
pub mod StatusLookUps
pub mod MetricsTexts
