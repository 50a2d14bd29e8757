-- In reading order: what is answered to the bytes of a request; how its head is read; what a target names; which hosts
-- are this machine; how a response is written; the page.
pub mod Answering
pub mod Reading
pub mod Targets
pub mod Hosts
pub mod Responses
pub mod Page
