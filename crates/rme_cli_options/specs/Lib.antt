pub mod ExitCodes
