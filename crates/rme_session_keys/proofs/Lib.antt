pub mod Attachments
